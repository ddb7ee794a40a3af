-- A number that was put into n bytes is read back from them, wherever in a list they are. By induction on n.
use Rattle.std.proofs.Common.{◌≡◌, ℕ, zero, suc, ◌/◌, ◌%◌, ◌^◌, ◌<◌, List, [], ◌∷◌, ◌++◌, length, get_or, ◌∙◌, subst, div-add-mod', arith, length-append}
use lib.Seq.{get_or-append_seam, append_snoc}
use Rattle.numbers.specs.Bytes.{lowest_first, number}

pub number-back : (n x : ℕ) (before after : List ℕ) → x < 256 ^ n → number n (before ++ (lowest_first n x ++ after)) (length before) ≡ x
unfolding number
number-back zero x before after h = omega (arith, h)
number-back (suc n) x before after h =
    let l = before ++ (lowest_first (suc n) x ++ after) in
    let low : get_or l (length before) 0 ≡ x % 256 = get_or-append_seam before (x % 256) (lowest_first n (x / 256) ++ after) 0 in
    let less : x / 256 < 256 ^ n = omega (arith, h, div-add-mod' x 256) in
    let same : (before ++ (x % 256 ∷ [])) ++ (lowest_first n (x / 256) ++ after) ≡ l = append_snoc before (x % 256) (lowest_first n (x / 256) ++ after) in
    let place : length (before ++ (x % 256 ∷ [])) ≡ suc (length before) = length-append before (x % 256 ∷ []) ∙ omega arith in
    let high : number n l (suc (length before)) ≡ x / 256 =
    subst (λ (i : ℕ). number n l i ≡ x / 256) place
    (subst (λ (l : List ℕ). number n l (length (before ++ (x % 256 ∷ []))) ≡ x / 256) same (number-back n (x / 256) (before ++ (x % 256 ∷ [])) after less))
    in
    omega (arith, low, high, div-add-mod' x 256)
