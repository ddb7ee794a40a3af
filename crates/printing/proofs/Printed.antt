-- What is printed of a list, by its length and by its check.
use Rattle.std.proofs.Common.{◌≡◌, ◌≢◌, ℕ, ◌*◌, ◌<◌, ◌≤◌, List, ◌++◌, codes, length, drop, sym, ap, ◌∙◌, arith}
use borrow.Author.Tests.{lt-ltb, le-ltb}
use Rattle.rows.specs.Strides.{stride_of}
use Rattle.bank.specs.Calls.{if_accepted}
use Rattle.bank.specs.Banks.{bytes}
use Rattle.bank.proofs.Frames.{stride_holds}
use Rattle.bank.proofs.Accepted.{if_refused, if_accepted_lem}
use Rattle.checking.specs.Checks.{Checked, checked}
use Rattle.player.specs.Playing.{events, unopened, rendered, output}
use Rattle.player.proofs.Written.{frames-written}
use Rattle.printing.specs.Lines.{frames, refusal, bits_in, bits_of, played, printed}
use Rattle.printing.proofs.Levels.{frames-same, bytes-shown}

pub too-long : (l : List ℕ) → 16384 < length l → codes "too long\n" ≡ printed l
unfolding printed
too-long l h = rw (lt-ltb 16384 (length l) h)

module _ (l : List ℕ) (short : length l ≤ 16384) (c : Checked) (is : c ≡ checked l (4 * 16384)) where
  abbrev lines : Checked → List ℕ
  lines c = frames (bits_of (rendered unopened (events l))) c.known.voices (stride_of c.known.voices) c.frames

  all : (c : Checked) → checked l (4 * 16384) ≡ c → printed l ≡ if_accepted c.refusal (lines c) (refusal c.refusal c.at)
  unfolding printed played
  all c e = rw (le-ltb 16384 (length l) short) (ap (λ (c : Checked). if_accepted c.refusal (lines c) (refusal c.refusal c.at)) e)

  pub refused : c.refusal ≢ 0 → refusal c.refusal c.at ≡ printed l
  refused d = sym (all c (sym is) ∙ if_refused c.refusal _ _ d)

  -- The lines of what the player leaves in an output are those of what is rendered.
  pub accepted : (out₀ out : List ℕ) → length out₀ ≡ 4 * 16384 → out ≡ output l out₀ → c.refusal ≡ 0
      → frames (bits_in out) c.known.voices (stride_of c.known.voices) c.frames ≡ printed l
  unfolding output
  accepted out₀ out n e z =
      let xs = rendered unopened (events l) in
      let rest = drop (length (bytes xs)) out₀ in
      let z' : (checked l (4 * 16384)).refusal ≡ 0 = ap (λ (c : Checked). c.refusal) (sym is) ∙ z in
      let written : out ≡ bytes xs ++ rest = e ∙ if_accepted_lem _ _ out₀ (ap (λ (n : ℕ). (checked l n).refusal) n ∙ z') in
      let long : length xs ≡ c.frames * stride_of c.known.voices =
      frames-written l (4 * 16384) z' ∙ ap (λ (c : Checked). c.frames * stride_of c.known.voices) (sym is)
      in
      let v = c.known.voices in
      let bits = λ (i : ℕ). bytes-shown xs rest i in
      ap (λ (o : List ℕ). frames (bits_in o) v (stride_of v) c.frames) written
      ∙ frames-same v (stride_of v) c.frames _ (bits_of xs) (stride_holds v).0 (λ i h. bits i (omega (arith, h, long)))
      ∙ sym (all c (sym is) ∙ if_accepted_lem c.refusal _ _ z)
