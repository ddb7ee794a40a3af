-- Digits one by one: the next hexadecimal digit is put before those that stand, the last decimal one after the higher ones; and the digits of a number
-- are those of the number in its bytes, two to a byte.
use Rattle.std.proofs.Common.{◌≡◌, ℕ, zero, suc, ◌+◌, ◌-◌, ◌*◌, ◌/◌, ◌%◌, ◌<◌, ◌≤◌, List, [], ◌∷◌, ◌++◌, length, take, drop, set, get_or, refl, sym, ap, ap₂, ◌∙◌, subst, arith}
use Rattle.std.proofs.lemmas.List.{length-set, length-take-le, set_split, drop_at, append_assoc}
use Rattle.std.proofs.lemmas.Fmt.{decimal_digit}
use native.Mathlib.Nat.{add-zero, add-suc, suc-add}
use Rattle.std.specs.Fmt.{decimal}
use Rattle.numbers.specs.Bytes.{lowest_first, number}
use Rattle.printing.specs.Digits.{digit, hexadecimal}

-- What the digits of `hexadecimal` hold once those from i on are written.
abbrev pub Digits : List ℕ → List ℕ → ℕ → ℕ → Type 0
Digits all ds i rest = (length ds ≡ 8) × (hexadecimal i rest ++ drop i ds ≡ all)

pub digit_more : (all ds : List ℕ) (i rest : ℕ) → 0 < i → i ≤ 8 → Digits all ds i rest
    → Digits all (set ds (i - 1) (digit (rest % 16))) (i - 1) (rest / 16)
unfolding hexadecimal
digit_more all ds zero rest p q h = absurd (omega arith)
digit_more all ds (suc i) rest p q h =
    let d = digit (rest % 16) in
    let e : suc i - 1 ≡ i = omega arith in
    let front : length (take i ds) ≡ i = length-take-le i ds (omega (arith, h.0)) in
    let put : drop i (set ds i d) ≡ d ∷ drop (suc i) ds =
    ap (drop i) (set_split ds i d (omega (arith, h.0))) ∙ drop_at (take i ds) (d ∷ drop (suc i) ds) i front
    in
    let high = hexadecimal i (rest / 16) in
    let same = ap (λ (x : List ℕ). high ++ x) put ∙ sym (append_assoc high (d ∷ []) (drop (suc i) ds)) ∙ h.1 in
    subst (λ (j : ℕ). Digits all (set ds j d) j (rest / 16)) (sym e) (length-set ds i d ∙ h.0, same)

pub digits_whole : (all ds : List ℕ) (i rest : ℕ) → i ≡ 0 → Digits all ds i rest → ds ≡ all
unfolding hexadecimal
digits_whole all ds zero rest z h = h.1
digits_whole all ds (suc i) rest z h = absurd (omega arith)

-- A number's last decimal digit, alone and after the higher ones.
pub last_alone : (n : ℕ) → n < 10 → decimal n ≡ (48 + n % 10) ∷ []
last_alone n h =
    let e : n % 10 ≡ n = omega arith in
    decimal_digit n h ∙ ap (λ (d : ℕ). (48 + d) ∷ []) (sym e)

-- ---- a number in bytes

-- So many bytes have twice as many digits.
abbrev pub twice : ℕ → ℕ
twice zero = 0
twice (suc n) = suc (suc (twice n))

-- The last digits of a number are those of the number in its last bytes.
pub same-digits : (n x : ℕ) (l : List ℕ) (i : ℕ) → ((p : ℕ) → p < n → get_or l (i + p) 0 ≡ get_or (lowest_first n x) p 0)
    → hexadecimal (twice n) (number n l i) ≡ hexadecimal (twice n) x
unfolding hexadecimal number
same-digits zero x l i h = refl
same-digits (suc n) x l i h =
    let y = number n l (suc i) in
    let z : get_or l i 0 + 256 * y ≡ x % 256 + 256 * y = ap (λ (b : ℕ). b + 256 * y) (simp add-zero at (h 0 (omega arith))) in
    let front : hexadecimal (twice n) y ≡ hexadecimal (twice n) (x / 256) =
    same-digits n (x / 256) l (suc i) (λ p q. simp suc-add (simp add-suc at (h (suc p) (omega arith))))
    in
    let high : (x % 256 + 256 * y) / 16 / 16 ≡ y = omega arith in
    let high' : x / 16 / 16 ≡ x / 256 = omega arith in
    let mid : (x % 256 + 256 * y) / 16 % 16 ≡ x / 16 % 16 = omega arith in
    let low : (x % 256 + 256 * y) % 16 ≡ x % 16 = omega arith in
    ap (hexadecimal (twice (suc n))) z
    ∙ ap₂ (λ (a d : ℕ). (hexadecimal (twice n) a ++ (digit d ∷ [])) ++ (digit ((x % 256 + 256 * y) % 16) ∷ [])) high mid
    ∙ ap₂ (λ (s : List ℕ) (d : ℕ). (s ++ (digit (x / 16 % 16) ∷ [])) ++ (digit d ∷ [])) (front ∙ ap (hexadecimal (twice n)) (sym high')) low
