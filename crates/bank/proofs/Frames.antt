-- Laws of the bank's own definitions: its voices after a change, frames one after the other, and their rows at an index. By induction over voices,
-- frames and rows.
use mathlib.Core.Path.{◌≡◌, refl, sym, ap, ◌∙◌, subst}
use mathlib.Core.Bool.{Bool, true, false, cond}
use mathlib.Core.List.{List, [], ◌∷◌, ◌++◌, map, append_assoc}
use Prim.Native.Nat.{ℕ, zero, suc, ◌+◌, ◌*◌, ◌≤◌, ◌<◌}
use native.Mathlib.Omega.{arith}
use native.Mathlib.Nat.{zero-mul, zero-add, suc-add, not-suc-le-zero, le_of_suc-le-suc}
use borrow.Author.Tests.{eqb-true, eqb-false}
use lib.Dec.{ltb, eqb}
use lib.Ieee.{Float, nan}
use lib.ListN.{length, get_or, length-append, length-map, length-set, get_or-append, get_or-map}
use lib.Seq.{ext_get_or, get_or-append-add, get_or-set_same, get_or-set_other}
use Rattle.numbers.specs.Constants as Constants
use Rattle.timing.specs.declared.Timing.{Timing}
use Rattle.curve.specs.Segments as Segments
use Rattle.settings.specs.Settings.{amp}
use Rattle.lane.specs.declared.lanes.Voice.{Voice}
use Rattle.lane.specs.Planning as Planning
use Rattle.lane.specs.Voices as Voices
use Rattle.filled.proofs.Tables.{length-tabulate, get_d_tabulate}
use Rattle.rows.specs.Strides.{stride_of}
use Rattle.bank.specs.Banks.{Bank, size, voice, put, on_all, frame, frames, row, rows}

-- ---- voices

-- An element of a list does not depend on what a reading past the end gives.
get_d_any : {A : Type 0} (l : List A) (n : ℕ) (d e : A) → n < length l → get_or l n d ≡ get_or l n e
get_d_any [] n d e h = absurd (not-suc-le-zero h)
get_d_any (x ∷ xs) zero d e h = refl
get_d_any (x ∷ xs) (suc n) d e h = get_d_any xs n d e (le_of_suc-le-suc h)

pub size-put : (b : Bank) (v : ℕ) (x : Voice) → size (put v x b) ≡ size b
size-put b v x = length-set b.voices v x

pub voice-put : (b : Bank) (v : ℕ) (x : Voice) (w : ℕ) → w < size b → voice (put v x b) w ≡ cond (eqb w v) x (voice b w)
voice-put b v x w h = go (eqb w v) refl
  where
    go : (t : Bool) → eqb w v ≡ t → voice (put v x b) w ≡ cond t x (voice b w)
    go true e = rw (eqb-true w v e) (get_or-set_same b.voices v x (Planning.new amp) (rw (← eqb-true w v e) h))
    go false e = get_or-set_other b.voices v w x (Planning.new amp) (eqb-false w v e)

pub size-on_all : (f : Voice → Voice) (b : Bank) → size (on_all f b) ≡ size b
size-on_all f b = length-map b.voices f

pub voice-on_all : (b : Bank) (f : Voice → Voice) (v : ℕ) → v < size b → voice (on_all f b) v ≡ f (voice b v)
voice-on_all b f v h =
    get_d_any (map f b.voices) v _ (f (Planning.new amp)) (rw (size-on_all f b) h) ∙ get_or-map f b.voices v (Planning.new amp)

-- Two banks are equal whose timing and voices are.
pub bank_ext : (b c : Bank) → b.timing ≡ c.timing → size b ≡ size c → ((v : ℕ) → v < size b → voice b v ≡ voice c v) → b ≡ c
bank_ext b c t n h =
    let e : b.voices ≡ c.voices = ext_get_or (Planning.new amp) b.voices c.voices n h in
    rebuilt b c t e
  where
    rebuilt : (b c : Bank) → b.timing ≡ c.timing → b.voices ≡ c.voices → b ≡ c
    rebuilt b c p q =
        ap {B = Bank} (λ (t : Timing). record { timing = t; voices = b.voices }) p
        ∙ ap {B = Bank} (λ (l : List Voice). record { timing = c.timing; voices = l }) q

-- ---- frames

pub frames-size : (n : ℕ) (b : Bank) → size (frames n b) ≡ size b
frames-size zero b = refl
frames-size (suc n) b = frames-size n (frame b) ∙ size-on_all (Voices.frame b.timing) b

pub frames-timing : (n : ℕ) (b : Bank) → (frames n b).timing ≡ b.timing
frames-timing zero b = refl
frames-timing (suc n) b = frames-timing n (frame b)

-- n frames of the bank are n frames of each voice.
pub voice-frames : (n : ℕ) (b : Bank) (v : ℕ) → v < size b → voice (frames n b) v ≡ Voices.frames n b.timing (voice b v)
voice-frames zero b v h = refl
voice-frames (suc n) b v h =
    voice-frames n (frame b) v (rw (size-on_all (Voices.frame b.timing) b) h)
    ∙ ap (Voices.frames n b.timing) (voice-on_all b (Voices.frame b.timing) v h)

pub frames-last : (n : ℕ) (b : Bank) → frame (frames n b) ≡ frames n (frame b)
frames-last zero b = refl
frames-last (suc n) b = frames-last n (frame b)

pub frames-add : (m n : ℕ) (b : Bank) → frames (m + n) b ≡ frames n (frames m b)
frames-add zero n b = rw zero-add
frames-add (suc m) n b = rw suc-add (frames-add m n (frame b))

-- ---- rows

pub stride_holds : (n : ℕ) → (n ≤ stride_of n) × (1 ≤ stride_of n)
stride_holds n = omega arith

-- The row that is handed out now.
abbrev pub row_now : Bank → List Float
row_now b = row (size b) (λ v. Segments.level (voice b v).seg)

length-row : (b : Bank) → length (row_now b) ≡ stride_of (size b)
length-row b = length-tabulate (stride_of (size b)) _

pub length-rows : (m : ℕ) (b : Bank) → length (rows m b) ≡ m * stride_of (size b)
length-rows zero b = sym (zero-mul (stride_of (size b)))
length-rows (suc m) b =
    let n : size (frame b) ≡ size b = size-on_all (Voices.frame b.timing) b in
    let l : length (rows m (frame b)) ≡ m * stride_of (size b) = length-rows m (frame b) ∙ ap (λ (k : ℕ). m * stride_of k) n in
    length-append (row_now b) (rows m (frame b)) ∙ omega (arith, length-row b, l)

pub rows-add : (m n : ℕ) (b : Bank) → rows (m + n) b ≡ rows m b ++ rows n (frames m b)
rows-add zero n b = rw zero-add
rows-add (suc m) n b = rw suc-add (ap (λ (l : List Float). row_now b ++ l) (rows-add m n (frame b)) ∙ sym (append_assoc (row_now b) _ _))

-- Lane v of row k, where the bank has n voices.
pub rows_at : (m : ℕ) (b : Bank) (k v : ℕ) → k < m → v < stride_of (size b)
    → get_or (rows m b) (k * stride_of (size b) + v) nan ≡ cond (ltb v (size b)) (Segments.level (voice (frames k b) v).seg) Constants.zero
rows_at zero b k v h l = absurd (omega arith)
rows_at (suc m) b zero v h l =
    let q : v < length (row_now b) = omega (arith, length-row b) in
    rw (zero-mul, zero-add, get_or-append (row_now b) (rows m (frame b)) nan v q) (get_d_tabulate (stride_of (size b)) _ v nan l)
rows_at (suc m) b (suc k) v h l =
    let n : size (frame b) ≡ size b = size-on_all (Voices.frame b.timing) b in
    let j : suc k * stride_of (size b) + v ≡ length (row_now b) + (k * stride_of (size b) + v) = omega (arith, length-row b) in
    rw (j, get_or-append-add)
    (subst
    (λ (s : ℕ). v < stride_of s → get_or (rows m (frame b)) (k * stride_of s + v) nan ≡ cond (ltb v s) (Segments.level (voice (frames k (frame b)) v).seg) Constants.zero) n
    (rows_at m (frame b) k v (omega arith)) l)
