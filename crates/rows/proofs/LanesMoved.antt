-- Sixteen lanes that were taken out of the array. After k rows their levels are those of the array's lanes (`row-levels`), a row takes u one step on
-- (`row_moved`), and put back they are the array's lanes moved on (`put_back`). Lanes that a row leaves as they are have the first row in every row
-- (`still-level`, by induction on the rows); `still_of_tests`: those that pass the code's three tests are such lanes.
use mathlib.Core.Path.{◌≡◌, refl, sym, ap, ◌∙◌, subst}
use mathlib.Core.Bool.{Bool, true, false, ◌&&◌, ◌||◌, beq, true≢false}
use mathlib.Core.List.{List}
use Prim.Native.Nat.{ℕ, zero, suc, ◌+◌, ◌-◌, ◌*◌, ◌<◌}
use native.Mathlib.Nat.{mul-pos, zero-lt-suc, zero-mul}
use native.Mathlib.Omega.{arith}
use borrow.Author.Tests.{eqb-true}
use lib.Dec.{eqb}
use lib.Ieee.{Float, nan, inf, fin, binary32, Format, up, down, add, mul, sum, eq, level}
use lib.Ieee.Fits.{down_pos}
use lib.ListN.{get_or}
use Rattle.numbers.specs.Constants as Constants
use Rattle.numbers.specs.Constants.{one}
use Rattle.numbers.proofs.Laws.Zero.{round_zero}
use Rattle.curve.specs.Segments.{level_from, next_u, u_after}
use Rattle.curve.proofs.Steps.{u_next}
use Rattle.filled.specs.Filled.{Filled}
use Rattle.memory.specs.Memory.{u_at, r_at, d_at, scale_at, base_at}
use Rattle.rows.specs.Rows.{u_after_rows, drawn_at, Still, Loaded, Levels, steps_at}

-- u is the lanes' after k rows.
abbrev pub Moved : ℕ → ℕ → List Float → List Float → Type 0
Moved k g f u = (i : ℕ) → i < 16 → get_or u i nan ≡ u_after_rows k f (g + i)

module _ (g : ℕ) (f : List Float) where
  -- A column from its lane g on.
  column : (a : ℕ) (x : List Float) → Loaded (g + a) f x → (i : ℕ) → i < 16 → get_or x i nan ≡ get_or f (g + i + a) nan
  column a x X i h =
      let e : g + a + i ≡ g + i + a = omega arith in
      X.lane i h ∙ ap (λ (j : ℕ). get_or f j nan) e

  -- Row k of them.
  module _ (k : ℕ) (u : List Float) (U : Moved k g f u) where
    pub row-levels : (s b y : List Float) → Loaded (g + 204) f s → Loaded (g + 272) f b → Levels u s b y
        → (i : ℕ) → i < 16 → get_or y i nan ≡ drawn_at k f (g + i)
    row-levels s b y S B L i h =
        let e = L i h in
        let eu = U i h in
        let es = column 204 s S i h in
        let eb = column 272 b B i h in
        cc

    pub row_moved : (r d u' : List Float) → Loaded (g + 68) f r → Loaded (g + 136) f d → Filled nan (steps_at u r d) 0 16 u u'
        → Moved (k + 1) g f u'
    row_moved r d u' R D M i h =
        let e = M.inside i (omega arith) h in
        let eu = U i h in
        let er = column 68 r R i h in
        let ed = column 136 d D i h in
        let next = u_next k (u_at f (g + i)) (r_at f (g + i)) (d_at f (g + i)) in
        cc

    -- Put back, they are moved on in the array.
    pub put_back : (f' : List Float) → Filled nan (λ j. get_or u (j - g) nan) g (g + 16) f f' → Filled nan (u_after_rows k f) g (g + 16) f f'
    put_back f' P =
        record {
          same = P.same;
          inside = λ j p q.
              let e : g + (j - g) ≡ j = omega arith in
              P.inside j p q ∙ U (j - g) (omega arith) ∙ ap (u_after_rows k f) e;
          before = P.before;
          after = P.after;
        }

-- ---- lanes that stay

stays : (k : ℕ) (u r d : Float) → next_u u r d ≡ u → u_after k u r d ≡ u
stays zero u r d e = refl
stays (suc k) u r d e = ap (λ (x : Float). u_after k x r d) e ∙ stays k u r d e

module _ (g : ℕ) (f : List Float) (S : Still g f) where
  still-moved : (k i : ℕ) → i < 16 → u_after_rows k f (g + i) ≡ u_at f (g + i)
  still-moved k i h = stays k (u_at f (g + i)) (r_at f (g + i)) (d_at f (g + i)) (S i h)

  -- Every row is the first, and the array is as it was.
  pub still-level : (k i : ℕ) → i < 16 → drawn_at 0 f (g + i) ≡ drawn_at k f (g + i)
  still-level k i h =
      ap (λ (u : Float). level_from u (scale_at f (g + i)) (base_at f (g + i))) (sym (still-moved k i h))

  pub still_filled : (k : ℕ) → Filled nan (u_after_rows k f) g (g + 16) f f
  still_filled k =
      record {
        same = refl;
        inside = λ j p q.
            let e : g + (j - g) ≡ j = omega arith in
            subst (λ (j : ℕ). get_or f j nan ≡ u_after_rows k f j) e (sym (still-moved k (j - g) (omega arith)));
        before = λ j p. refl;
        after = λ j p. refl;
      }

-- ---- u is +0, r equals 1 and d equals 0: +0 × 1 + 0 is +0, and so it is with a d of -0

not_minus : (a b : ℕ) → 0 < b → level true a false b ≡ true → ⊥
not_minus a b p h = go (eqb a b) refl (eqb a 0) refl h
  where
    go : (x : Bool) → eqb a b ≡ x → (y : Bool) → eqb a 0 ≡ y → (x && (false || y)) ≡ true → ⊥
    go true e true z h = omega (arith, eqb-true a b e, eqb-true a 0 z)
    go true e false z h = true≢false (sym h)
    go false e y z h = true≢false (sym h)

pub zero_by_one : (r : Float) → eq r one ≡ true → mul binary32 Constants.zero r ≡ Constants.zero
unfolding eq mul
zero_by_one nan h = absurd (true≢false (sym h))
zero_by_one (inf s) h = absurd (true≢false (sym h))
zero_by_one (fin true m e) h = absurd (not_minus (m * up e * 1) (1 * 1 * down e) (mul-pos (zero-lt-suc 0) (down_pos e)) h)
zero_by_one (fin false m e) h = rw (zero-mul (m * up e)) (round_zero binary32 false (1 * down e) (mul-pos (zero-lt-suc 0) (down_pos e)))

sum_zero : (f : Format) (t : Bool) (a b c : ℕ) → a ≡ 0 → b ≡ 0 → 0 < c → sum f false a t b c ≡ Constants.zero
unfolding sum
sum_zero f true a b c h k p = rw (h, k) (round_zero f false c p)
sum_zero f false a b c h k p = rw (h, k) (round_zero f false c p)

equal_level : (s t : Bool) (a b : ℕ) → level s a t b ≡ true → a ≡ b
equal_level s t a b h = go (eqb a b) refl h
  where
    go : (x : Bool) → eqb a b ≡ x → (x && (beq s t || eqb a 0)) ≡ true → a ≡ b
    go true e h = eqb-true a b e
    go false e h = absurd (true≢false (sym h))

pub zero_plus_zero : (d : Float) → eq d Constants.zero ≡ true → add binary32 Constants.zero d ≡ Constants.zero
unfolding eq add
zero_plus_zero nan h = absurd (true≢false (sym h))
zero_plus_zero (inf s) h = absurd (true≢false (sym h))
zero_plus_zero (fin t n e) h =
    let none : 0 * 1 * down e ≡ 0 = zero-mul (down e) in
    sum_zero binary32 t (0 * 1 * down e) (n * up e * 1) (1 * down e) none (equal_level t false (n * up e * 1) (0 * 1 * down e) h ∙ none)
    (mul-pos (zero-lt-suc 0) (down_pos e))

pub still_of_tests : (g : ℕ) (f : List Float) → ((i : ℕ) → i < 16 → eq (get_or f (g + 136 + i) nan) Constants.zero ≡ true)
    → ((i : ℕ) → i < 16 → eq (get_or f (g + 68 + i) nan) one ≡ true) → ((i : ℕ) → i < 16 → get_or f (g + i) nan ≡ Constants.zero) → Still g f
still_of_tests g f D R U i h =
    let eu = U i h in
    let er : g + 68 + i ≡ g + i + 68 = omega arith in
    let ed : g + 136 + i ≡ g + i + 136 = omega arith in
    let r = zero_by_one (r_at f (g + i)) (subst (λ (j : ℕ). eq (get_or f j nan) one ≡ true) er (R i h)) in
    let d = zero_plus_zero (d_at f (g + i)) (subst (λ (j : ℕ). eq (get_or f j nan) Constants.zero ≡ true) ed (D i h)) in
    cc
