-- The bank that the arrays hold (`bank_of`) is equal to one whose timing, number of voices and voices are the arrays' (`represents`). So a voice that is
-- stored is put into the bank (`bank-stored`), and where each of the voices was changed the bank is (`spread_all`). `spread_more` is the step lemma
-- of loops over voices: the first e are changed and every other number is as it was, then one more is changed. By cases on whether a voice is the one
-- that was stored; all others are as before by its frame condition.
use mathlib.Core.Path.{◌≡◌, refl, sym, ap, ◌∙◌, subst}
use mathlib.Core.Bool.{Bool, true, false, cond}
use mathlib.Core.List.{List}
use mathlib.Core.Logic.{◌⊎◌, inl, inr}
use Prim.Native.Nat.{ℕ, ◌+◌, ◌≤◌, ◌<◌, min}
use native.Mathlib.Omega.{arith}
use borrow.Author.Tests.{lt-ltb, le-ltb, eqb-true, eqb-false}
use lib.Dec.{eqb}
use lib.Ieee.{Float}
use lib.ListN.{length-replicate, get_or-replicate}
use Rattle.std.specs.Prelude.{Result}
use Rattle.std.specs.Result.{IsErrAnd}
use Rattle.timing.specs.declared.Timing.{Timing}
use Rattle.settings.specs.declared.refusals.Refusal.{Refusal}
use Rattle.settings.specs.declared.refusals.Refusal.TheVariants.{NoSuchVoice}
use Rattle.settings.specs.Refusals.{number, number_of}
use Rattle.settings.proofs.Propagated.{number_of-propagated}
use Rattle.settings.specs.declared.settings.EnvelopeParams.{EnvelopeParams}
use Rattle.settings.specs.Settings.{amp}
use Rattle.lane.specs.declared.lanes.Voice.{Voice}
use Rattle.lane.specs.Planning as Planning
use Rattle.filled.proofs.Filling.{split}
use Rattle.filled.proofs.Tables.{length-tabulate, get_d_tabulate}
use Rattle.memory.specs.declared.arrays.Arrays.{Arrays}
use Rattle.memory.specs.Memory.{lanes, voices_at, count_of, timing_at, voice_at, loaded, Same, TimingPut, VoicesPut, Stored}
use Rattle.memory.proofs.Storing.{room, voice-same, same_self, same_trans}
use Rattle.bank.specs.Banks.{Bank, bank_of, size, voice, put, on_all, with_timing, idle}
use Rattle.bank.specs.Lent.{KeptFrom}
use Rattle.bank.specs.Parts.{Spread, One, All}
use Rattle.bank.proofs.Frames.{bank_ext, size-put, voice-put, size-on_all, voice-on_all}

-- ---- the bank

pub size_of : (m : Arrays) → size (bank_of m) ≡ count_of m.codes
unfolding bank_of
size_of m = length-tabulate (count_of m.codes) (voice_at m)

pub voice_of_lem : (m : Arrays) (v : ℕ) → v < count_of m.codes → voice (bank_of m) v ≡ voice_at m v
unfolding bank_of
voice_of_lem m v h = get_d_tabulate (count_of m.codes) (voice_at m) v (Planning.new amp) h

-- The voice that is loaded is the bank's.
pub loaded_voice : (m : Arrays) (v : ℕ) → v < count_of m.codes → loaded m v ≡ voice (bank_of m) v
loaded_voice m v h = room v (voice_at m v) _ (omega (arith, h)) ∙ sym (voice_of_lem m v h)

pub timing_of_lem : (m : Arrays) → (bank_of m).timing ≡ timing_at m.bends
unfolding bank_of
timing_of_lem m = refl

-- It is equal to a bank whose timing, number of voices and voices are those in the arrays.
pub represents : (m : Arrays) (b : Bank) → timing_at m.bends ≡ b.timing → count_of m.codes ≡ size b
    → ((v : ℕ) → v < count_of m.codes → voice_at m v ≡ voice b v) → bank_of m ≡ b
represents m b t n h =
    bank_ext (bank_of m) b (timing_of_lem m ∙ t) (size_of m ∙ n)
    (λ v i. let j : v < count_of m.codes = omega (arith, i, size_of m) in voice_of_lem m v j ∙ h v j)

pub counts_same : (m m' : Arrays) → voices_at m'.codes ≡ voices_at m.codes → count_of m'.codes ≡ count_of m.codes
counts_same m m' e = ap (λ (n : ℕ). min n 64) e

-- ---- one voice

pub bank-stored : (v : ℕ) (x : Voice) (m m' : Arrays) → Stored v x m m' → v < count_of m.codes → bank_of m' ≡ put v x (bank_of m)
bank-stored v x m m' S h =
    represents m' (put v x (bank_of m)) (S.timing ∙ sym (timing_of_lem m)) (counts_same m m' S.voices ∙ sym (size_of m) ∙ sym (size-put (bank_of m) v x))
    (λ w i.
    let j : w < count_of m.codes = omega (arith, i, counts_same m m' S.voices) in
    go w j (eqb w v) refl ∙ sym (voice-put (bank_of m) v x w (omega (arith, j, size_of m))))
  where
    go : (w : ℕ) → w < count_of m.codes → (t : Bool) → eqb w v ≡ t → voice_at m' w ≡ cond (eqb w v) x (voice (bank_of m) w)
    go w j true e = rw (e, eqb-true w v e) (S.here (omega (arith, h)))
    go w j false e = rw e (voice-same w m m' (S.there w (omega (arith, j)) (eqb-false w v e)) ∙ sym (voice_of_lem m w j))

-- A call on it, done or refused.
pub one-done : (v : ℕ) (g : Voice → Voice) (y : Voice) (m m' : Arrays) → v < count_of m.codes → y ≡ g (loaded m v) → Stored v y m m' → One v g 0 m m'
one-done v g y m m' h e S =
    record {
      refusal = sym (rw (lt-ltb v (size (bank_of m)) (omega (arith, h, size_of m))));
      bank = bank-stored v y m m' S h ∙ ap (λ (x : Voice). put v x (bank_of m)) (e ∙ ap g (loaded_voice m v h));
      kept = record { refused = λ d. absurd (d refl); beside = λ w i j. S.there w j (λ q. omega (arith, h, i, q)) };
    }

one-refused : (v : ℕ) (g : Voice → Voice) (m : Arrays) → count_of m.codes ≤ v → One v g 2 m m
one-refused v g m h =
    record {
      refusal = sym (rw (le-ltb v (size (bank_of m)) (omega (arith, h, size_of m))));
      bank = refl;
      kept = record { refused = λ d. refl; beside = λ w i j. same_self w m };
    }

-- Refused by the test for the voice.
pub one-missing : (v : ℕ) (g : Voice → Voice) (m : Arrays) {A : Type 0} (r : Result A Refusal) (e : Refusal) → IsErrAnd r (λ x. x ≡ e)
    → (e ≡ NoSuchVoice) × (count_of m.codes ≤ v) → One v g (number_of r) m m
one-missing v g m r e i h = subst (λ (n : ℕ). One v g n m m) (sym (number_of-propagated r e i ∙ ap number h.0)) (one-refused v g m h.1)

-- ---- each voice

module _ (g : Voice → Voice) (m : Arrays) where
  pub spread_none : Spread g 0 m m
  spread_none = record { below = λ w h. absurd (omega arith); above = λ w i j. same_self w m; voices = refl; timing = refl }

  pub spread_more : (e : ℕ) (y : Voice) (m' m'' : Arrays) → e < 64 → y ≡ g (loaded m' e) → Spread g e m m' → Stored e y m' m'' → Spread g (e + 1) m m''
  spread_more e y m' m'' h w P S =
      record {
        below = λ v i. go v i (split v e);
        above = λ v i j. same_trans v m m' m'' (P.above v (omega (arith, i)) j) (S.there v j (λ q. omega (arith, i, q)));
        voices = S.voices ∙ P.voices;
        timing = S.timing ∙ P.timing;
      }
    where
      go : (v : ℕ) → v < e + 1 → (v < e) ⊎ (e ≤ v) → voice_at m'' v ≡ g (voice_at m v)
      go v i (inl q) = voice-same v m' m'' (S.there v (omega (arith, h, q)) (λ x. omega (arith, q, x))) ∙ P.below v q
      go v i (inr q) =
          let x : e ≡ v = omega (arith, i, q) in
          let same : voice_at m' e ≡ voice_at m e = voice-same e m m' (P.above e (omega arith) (omega (arith, h))) in
          rw (← x) (S.here h ∙ w ∙ ap g (room e (voice_at m' e) _ h ∙ same))

  -- Those from e to d need no change.
  pub spread_past : (e d : ℕ) (m' : Arrays) → e ≤ d → d ≤ 64 → ((w : ℕ) → e ≤ w → w < d → g (voice_at m' w) ≡ voice_at m' w) → Spread g e m m'
      → Spread g d m m'
  spread_past e d m' h l f P =
      record { below = λ v i. go v i (split v e); above = λ v i j. P.above v (omega (arith, i, h)) j; voices = P.voices; timing = P.timing }
    where
      go : (v : ℕ) → v < d → (v < e) ⊎ (e ≤ v) → voice_at m' v ≡ g (voice_at m v)
      go v i (inl q) = P.below v q
      go v i (inr q) = sym (f v q i) ∙ ap g (voice-same v m m' (P.above v q (omega (arith, i, l))))

  pub spread_all : (n : ℕ) (m' : Arrays) → n ≡ count_of m.codes → Spread g n m m' → All g m m'
  spread_all n m' e P =
      record {
        bank =
            represents m' (on_all g (bank_of m)) (P.timing ∙ sym (timing_of_lem m)) (counts_same m m' P.voices ∙ sym (size_of m) ∙ sym (size-on_all g (bank_of m)))
            (λ v i.
            let j : v < count_of m.codes = omega (arith, i, counts_same m m' P.voices) in
            P.below v (omega (arith, j, e)) ∙ ap g (sym (voice_of_lem m v j)) ∙ sym (voice-on_all (bank_of m) g v (omega (arith, j, size_of m))));
        beside = λ w i j. P.above w (omega (arith, i, e)) j;
      }

-- ---- what is stored for all voices

-- Another timing.
module _ (t : Timing) (m : Arrays) (k' : List Float) (T : TimingPut t m.bends k') where
  abbrev pub timed : Arrays
  timed = record { bends = k'; counts = m.counts; floats = m.floats; codes = m.codes }

  pub timed-same : (w : ℕ) → Same w m timed
  timed-same w = record { columns = refl; left = refl; floats = refl; bends = T.there w; counts = refl; codes = refl }

  pub timed-bank : bank_of timed ≡ with_timing t (bank_of m)
  timed-bank = represents timed (with_timing t (bank_of m)) T.here (sym (size_of m)) (λ v h. voice-same v m timed (timed-same v) ∙ sym (voice_of_lem m v h))

-- A fresh bank: the number of voices, the timing, then idle voices.
module _ (n : ℕ) (t : Timing) (m : Arrays) (k' : List Float) (c' : List ℕ) (T : TimingPut t m.bends k') (N : VoicesPut (min n 64) m.codes c') where
  abbrev begun : Arrays
  begun = record { bends = k'; counts = m.counts; floats = m.floats; codes = c' }

  begun-same : (w : ℕ) → w < lanes → Same w m begun
  begun-same w h = record { columns = refl; left = N.left w h; floats = refl; bends = T.there w; counts = refl; codes = N.there w }

  -- With no voices.
  pub none-opened : n ≡ 0 → (p : EnvelopeParams) (t' : Timing) → t ≡ t' → (bank_of begun ≡ idle 0 p t') × KeptFrom 0 m begun
  none-opened e p t' q =
      let z : count_of c' ≡ 0 = omega (arith, N.here, e) in
      (represents begun (idle 0 p t') (T.here ∙ q) z (λ v h. absurd (omega (arith, h, z))), λ w i j. begun-same w j)

  pub voices-opened : n ≤ 64 → (p : EnvelopeParams) (x : Voice) (m' : Arrays) → x ≡ Planning.new p → Spread (λ _. x) n begun m'
      → (bank_of m' ≡ idle n p t) × KeptFrom n m m'
  voices-opened l p x m' e P =
      let k : count_of m'.codes ≡ n = omega (arith, P.voices, N.here, l) in (
        represents m' (idle n p t) (P.timing ∙ T.here) (k ∙ sym (length-replicate n (Planning.new p)))
            (λ v h.
            let i : v < n = omega (arith, h, k) in
            P.below v i ∙ e ∙ sym (get_or-replicate n v (Planning.new p) (Planning.new amp) i)),
        λ w i j. same_trans w m begun m' (begun-same w j) (P.above w i j),
      )
