-- The check of a whole list, record by record.
use Rattle.std.specs.Prelude.{ℕ, zero, suc, ◌+◌, ◌*◌, ◌/◌, cond, List, ltb, eqb, length, Result}
use Rattle.settings.specs.declared.refusals.Refusal.{Refusal}
use Rattle.settings.specs.Refusals.{number_of}
use Rattle.bank.specs.declared.known.Known.{Known}
use Rattle.bank.specs.Calls.{if_accepted}
use Rattle.rows.specs.Strides.{stride_of}
use Rattle.events.specs.declared.Event.{Event}
use Rattle.events.specs.Format as Format
use Rattle.events.specs.Format.{Parsed}
use Rattle.checking.specs.declared.Passed.{Passed}
use Rattle.checking.specs.Actions.{action, own_refusal, known_after, frames_of}

-- How far a list is checked: the number of the refusal, 0 if nothing is refused; the first byte of the record that is refused or comes next; what is
-- known of the bank, and the frames so far.
pub record Checked : Type 0 where
  pub refusal : ℕ
  pub at : ℕ
  pub known : Known
  pub frames : ℕ

-- That of a verdict beside how far the list is accepted, and of a list with no refusal so far.
abbrev pub seen : {A : Type 0} → Result A Refusal → Passed → Checked
seen verdict p = record { refusal = number_of verdict; at = p.at; known = p.known; frames = p.frames }

abbrev pub so_far : Passed → Checked
so_far p = record { refusal = 0; at = p.at; known = p.known; frames = p.frames }

-- Before the first record: no voice is there yet.
abbrev pub start : Checked
start = record { refusal = 0; at = 0; known = record { voices = 0 }; frames = 0 }

-- Refused at the record that comes next.
abbrev pub refused_at : ℕ → Checked → Checked
refused_at n c = record { refusal = n; at = c.at; known = c.known; frames = c.frames }

-- Past an accepted record.
abbrev pub passed : Checked → Event → ℕ → Checked
passed c e next =
    record { refusal = 0; at = next; known = known_after c.known (action c.known e); frames = c.frames + frames_of e }

-- A record that says e: the call's own number, then 11, 'all frames so far, this record's included, times the stride are more levels than the
-- output holds'.
unfoldable pub judged : ℕ → Checked → Event → ℕ → Checked
judged room c e next =
    let p = passed c e next in
    let own = own_refusal c.known (action c.known e) in
    if_accepted own (cond (ltb room (p.frames * stride_of p.known.voices)) (refused_at 11 c) p) (refused_at own c)

-- One record more: its own bytes first.
unfoldable pub after_record : ℕ → Checked → Parsed → Checked
after_record room c (Parsed.Record e next) = judged room c e next
after_record room c (Parsed.Refused n) = refused_at n c

-- n records more, or as many as there are up to the end of the list or a refusal.
abbrev pub checked_from : ℕ → List ℕ → ℕ → Checked → Checked
checked_from zero l room c = c
checked_from (suc n) l room c =
    if_accepted c.refusal (cond (ltb c.at (length l)) (checked_from n l room (after_record room c (Format.read l c.at))) c) c

-- A list, for an output of so many bytes, four to a level. An empty one is 9 at byte 0. A list has fewer records than bytes.
unfoldable pub checked : List ℕ → ℕ → Checked
checked l bytes = cond (eqb (length l) 0) (refused_at 9 start) (checked_from (length l) l (bytes / 4) start)
