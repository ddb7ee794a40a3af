-- The voices of a chord, one after the other. A voice that is missing refuses what is left of the list, and one that is there leaves it to the rest
-- (`refused_here`, `refused_on`). `Triggering` is the invariant of the notes: those that are left, in the bank that the arrays now hold, are the whole chord
-- in the first one. Its steps: a voice that is triggered in the arrays is triggered in the bank (`triggering-more`), and one that the note leaves alone
-- stays as it is in both (`triggering-left`).
use mathlib.Core.Path.{◌≡◌, refl, sym, ap, ◌∙◌}
use mathlib.Core.Bool.{Bool, true, false, cond}
use mathlib.Core.List.{List}
use Prim.Native.Nat.{ℕ, ◌+◌, ◌≤◌, ◌<◌}
use native.Mathlib.Omega.{arith}
use borrow.Author.Tests.{lt-ltb, le-ltb}
use lib.ListN.{length, get_or, drop}
use Rattle.std.specs.List.{fold}
use Rattle.std.proofs.lemmas.List.{set-get_or, at_drop_more}
use Rattle.settings.specs.declared.settings.Trigger.{Trigger}
use Rattle.settings.specs.Settings.{amp}
use Rattle.lane.specs.declared.lanes.Voice.{Voice}
use Rattle.lane.specs.Planning as Planning
use Rattle.lane.specs.Voices as Voices
use Rattle.memory.specs.declared.arrays.Arrays.{Arrays}
use Rattle.memory.specs.Memory.{voices_at, count_of, timing_at, loaded, Stored}
use Rattle.memory.proofs.Storing.{same_self, same_trans}
use Rattle.bank.specs.declared.known.Known.{Known}
use Rattle.bank.specs.Calls.{voices_refusal, chord_refusal}
use Rattle.bank.specs.Banks.{Bank, bank_of, known, size, voice, put, triggered}
use Rattle.bank.specs.Lent.{KeptFrom}
use Rattle.bank.proofs.Accepted.{voice_there}
use Rattle.bank.proofs.Representation.{size_of, loaded_voice, counts_same, bank-stored}

-- ---- the list's refusal

module _ (k : Known) (vs : List ℕ) (i : ℕ) (h : i < length vs) where
  pub refused_here : k.voices ≤ get_or vs i 0 → voices_refusal k (drop i vs) ≡ 2
  refused_here e = at_drop_more (voices_refusal k) vs i 0 h ∙ rw (le-ltb (get_or vs i 0) k.voices e) refl

  pub refused_on : get_or vs i 0 < k.voices → voices_refusal k (drop i vs) ≡ voices_refusal k (drop (i + 1) vs)
  refused_on e = at_drop_more (voices_refusal k) vs i 0 h ∙ rw (lt-ltb (get_or vs i 0) k.voices e) refl

-- The voices of an accepted chord are all there.
pub chord-there : (k : Known) (vs : List ℕ) → chord_refusal k vs ≡ 0 → voices_refusal k vs ≡ 0
unfolding chord_refusal
chord-there k vs e = go _ e
  where
    go : (t : Bool) → cond t 12 (voices_refusal k vs) ≡ 0 → voices_refusal k vs ≡ 0
    go true e = absurd (omega (arith, e))
    go false e = e

-- ---- the notes

-- The notes of the first i voices have begun, and those of the rest are still to come.
pub record Triggering (vs : List ℕ) (x : Trigger) (m : Arrays) (i : ℕ) (m' : Arrays) : Type 0 where
  pub bank : fold (triggered x) (bank_of m') (drop i vs) ≡ fold (triggered x) (bank_of m) vs
  pub there : voices_refusal (known (bank_of m)) (drop i vs) ≡ 0
  pub beside : KeptFrom (count_of m.codes) m m'
  pub voices : voices_at m'.codes ≡ voices_at m.codes
  pub timing : timing_at m'.bends ≡ timing_at m.bends

-- A voice that is triggered where it lies is triggered in the bank.
triggered-stored : (v : ℕ) (x : Trigger) (m m' : Arrays) → v < count_of m.codes
    → Stored v (Voices.trigger (timing_at m.bends) x (loaded m v)) m m' → bank_of m' ≡ triggered x (bank_of m) v
unfolding bank_of
triggered-stored v x m m' h S =
    bank-stored v _ m m' S h ∙ ap (λ (y : Voice). put v (Voices.trigger (timing_at m.bends) x y) (bank_of m)) (loaded_voice m v h)

-- A voice that a note leaves alone is as it was in the bank too.
triggered-alone : (v : ℕ) (x : Trigger) (m : Arrays) → v < count_of m.codes → Voices.leaves_alone x (loaded m v) ≡ true → triggered x (bank_of m) v ≡ bank_of m
unfolding Voices.trigger
triggered-alone v x m h a =
    let same : Voices.trigger (bank_of m).timing x (voice (bank_of m) v) ≡ voice (bank_of m) v = rw (← loaded_voice m v h, a) refl in
    ap (λ (y : Voice). put v y (bank_of m)) same
    ∙ ap {B = Bank} (λ (l : List Voice). record { timing = (bank_of m).timing; voices = l }) (set-get_or (bank_of m).voices v (Planning.new amp))

module _ (vs : List ℕ) (x : Trigger) (m : Arrays) where
  pub triggering-start : voices_refusal (known (bank_of m)) vs ≡ 0 → Triggering vs x m 0 m
  triggering-start e = record { bank = refl; there = e; beside = λ w i j. same_self w m; voices = refl; timing = refl }

  module _ (i : ℕ) (m' : Arrays) (h : i < length vs) (C : Triggering vs x m i m') where
    abbrev v : ℕ
    v = get_or vs i 0

    -- The next voice is there, and so are those after it.
    next : (v < size (bank_of m)) × (voices_refusal (known (bank_of m)) (drop (i + 1) vs) ≡ 0)
    next = voice_there (known (bank_of m)) v _ (sym (at_drop_more (voices_refusal (known (bank_of m))) vs i 0 h) ∙ C.there)

    here : v < count_of m'.codes
    here = omega (arith, next.0, size_of m, counts_same m m' C.voices)

    -- The notes that are left, once the next has begun.
    rest : (b : Bank) → b ≡ triggered x (bank_of m') v → fold (triggered x) b (drop (i + 1) vs) ≡ fold (triggered x) (bank_of m) vs
    rest b e =
        ap (λ (b : Bank). fold (triggered x) b (drop (i + 1) vs)) e ∙ sym (at_drop_more (fold (triggered x) (bank_of m')) vs i 0 h) ∙ C.bank

    pub triggering-more : (m'' : Arrays) → Stored v (Voices.trigger (timing_at m.bends) x (loaded m' v)) m' m'' → Triggering vs x m (i + 1) m''
    triggering-more m'' S =
        record {
          bank = rest (bank_of m'') (triggered-stored v x m' m'' here (rw C.timing S));
          there = next.1;
          beside = λ w j l. same_trans w m m' m'' (C.beside w j l) (S.there w l (λ e. omega (arith, e, j, next.0, size_of m)));
          voices = S.voices ∙ C.voices;
          timing = S.timing ∙ C.timing;
        }

    pub triggering-left : Voices.leaves_alone x (loaded m' v) ≡ true → Triggering vs x m (i + 1) m'
    triggering-left a =
        record {
          bank = rest (bank_of m') (sym (triggered-alone v x m' here a));
          there = next.1;
          beside = C.beside;
          voices = C.voices;
          timing = C.timing;
        }
