-- How long the text of a list can be: 1,024 frames of 16 voices are the longest. A voice takes nine bytes of a line, so that of frames whose rows fit
-- the output those with the most lines and no spare lanes are longest.
use Rattle.std.proofs.Common.{◌≡◌, ℕ, zero, suc, ◌+◌, ◌*◌, ◌/◌, ◌%◌, ◌-◌, ◌≤◌, Bool, true, false, List, [], ◌∷◌, ◌++◌, cond, codes, length, refl, ap, ◌∙◌, subst, arith}
use Rattle.std.proofs.lemmas.List.{length-append}
use native.Mathlib.Nat.{zero-add, suc-add, suc-mul, zero-mul, mul-add, mul_left_comm, mul-le-mul_left}
use lib.Dec.{ltb, eqb}
use Rattle.std.specs.Fmt.{digit_glyph, digits_onto, digits, decimal}
use Rattle.rows.specs.Strides.{groups_of, stride_of}
use Rattle.bank.specs.Calls.{if_accepted}
use Rattle.checking.specs.Checks.{Checked, checked}
use Rattle.checking.proofs.Passing.{checked-has_room}
use Rattle.player.specs.Playing.{events, unopened, rendered}
use Rattle.printing.specs.Text.{each}
use Rattle.printing.specs.Digits.{hexadecimal}
use Rattle.printing.specs.Lines.{level, frame, frames, refusal, bits_of, played, printed}

abbrev pub room : ℕ
room = 151466

-- ---- numbers

length-hexadecimal : (k n : ℕ) → length (hexadecimal k n) ≡ k
unfolding hexadecimal
length-hexadecimal zero n = refl
length-hexadecimal (suc k) n = length-append (hexadecimal k (n / 16)) _ ∙ omega (arith, length-hexadecimal k (n / 16))

-- A decimal number has at most 64 digits by its definition.
length-digits : (k n : ℕ) (acc : List ℕ) → length (digits_onto k 10 false n acc) ≤ k + length acc
length-digits zero n acc = omega arith
length-digits (suc k) n acc =
    let more = digit_glyph false (n % 10) ∷ acc in
    let h : length (digits_onto k 10 false (n / 10) more) ≤ k + suc (length acc) = length-digits k (n / 10) more in
    elim (eqb (n / 10) 0) as (λ t. length (cond t more (digits_onto k 10 false (n / 10) more)) ≤ suc k + length acc)
    [ true ↦ omega arith | false ↦ omega (arith, h) ]

length-decimal : (n : ℕ) → length (decimal n) ≤ 64
unfolding digits
length-decimal n = length-digits 64 n []

-- The digits of the numbers of n frames.
abbrev numbers : ℕ → ℕ
numbers n = length (each n decimal)

numbers_1024 : numbers 1024 ≡ 2986
unfolding digits
numbers_1024 = refl

fewer-numbers : (n k : ℕ) → numbers n ≤ numbers (k + n)
fewer-numbers n zero = rw zero-add (omega arith)
fewer-numbers n (suc k) = rw suc-add (omega (arith, length-append (each (k + n) decimal) (decimal (k + n)), fewer-numbers n k))

-- ---- frames

length-levels : (n : ℕ) (bits : ℕ → ℕ) → length (each n (λ v. level (bits v))) ≡ 9 * n
length-levels zero bits = refl
length-levels (suc n) bits =
    length-append (each n (λ v. level (bits v))) (level (bits n)) ∙ omega (arith, length-levels n bits, length-hexadecimal 8 (bits n))

length-frame : (k voices : ℕ) (bits : ℕ → ℕ) → length (frame k voices bits) ≡ length (decimal k) + (9 * voices + 1)
length-frame k voices bits =
    let levels = each voices (λ v. level (bits v)) in
    length-append (decimal k ++ levels) (codes "\n") ∙ omega (arith, length-append (decimal k) levels, length-levels voices bits)

length-frames : (bits : ℕ → ℕ) (voices stride n : ℕ) → length (frames bits voices stride n) ≡ numbers n + n * (9 * voices + 1)
length-frames bits voices stride zero = omega (arith, zero-mul (9 * voices + 1))
length-frames bits voices stride (suc n) =
    let line = length-frame n voices (λ v. bits (n * stride + v)) in
    let digits = length-append (each n decimal) (decimal n) in
    length-append (frames bits voices stride n) _
    ∙ omega (arith, length-frames bits voices stride n, line, digits, suc-mul n (9 * voices + 1))

pub frames-fit : (bits : ℕ → ℕ) (voices n : ℕ) → n * stride_of voices ≤ 16384 → length (frames bits voices (stride_of voices) n) ≤ room
frames-fit bits voices n h =
    let g = groups_of voices in
    let some : 1 ≤ g = omega arith in
    let within : voices ≤ 16 * g = omega arith in
    let levels : n * voices ≤ n * (16 * g) = mul-le-mul_left n within in
    let lines : n * 1 ≤ n * g = mul-le-mul_left n some in
    let groups : n * (16 * g) ≡ 16 * (n * g) = mul_left_comm n 16 g in
    let few : n ≤ 1024 = omega (arith, h, lines, groups) in
    let whole : 1024 - n + n ≡ 1024 = omega (arith, few) in
    let digits : numbers n ≤ 2986 = subst (λ (m : ℕ). numbers n ≤ m) (ap numbers whole ∙ numbers_1024) (fewer-numbers n (1024 - n)) in
    omega (arith, length-frames bits voices (stride_of voices) n, mul-add n (9 * voices) 1, mul_left_comm n 9 voices, levels, h, few, digits)

-- No room is left beside the longest.
pub longest : (bits : ℕ → ℕ) → length (frames bits 16 16 1024) ≡ room
longest bits = length-frames bits 16 16 1024 ∙ omega (arith, numbers_1024)

-- ---- lists

refusal-fits : (n place : ℕ) → length (refusal n place) ≤ room
refusal-fits n place =
    let a = codes "refused " ++ decimal n in
    let b = a ++ codes " at " in
    omega (
      arith,
      length-append (codes "refused ") (decimal n),
      length-append a (codes " at "),
      length-append b (decimal place),
      length-append (b ++ decimal place) (codes "\n"),
      length-decimal n,
      length-decimal place,
    )

played-fits : (l : List ℕ) → length (played l) ≤ room
unfolding played
played-fits l = go c.refusal
  where
    c : Checked
    c = checked l (4 * 16384)

    lines : List ℕ
    lines = frames (bits_of (rendered unopened (events l))) c.known.voices (stride_of c.known.voices) c.frames

    go : (n : ℕ) → length (if_accepted n lines (refusal c.refusal c.at)) ≤ room
    go zero = frames-fit (bits_of (rendered unopened (events l))) c.known.voices c.frames (checked-has_room l (4 * 16384)).levels
    go (suc n) = refusal-fits c.refusal c.at

-- The text of every list fits.
pub fits : (l : List ℕ) → length (printed l) ≤ room
unfolding printed
fits l = go (ltb 16384 (length l))
  where
    go : (t : Bool) → length (cond t (codes "too long\n") (played l)) ≤ room
    go true = omega arith
    go false = played-fits l
