-- A list names a number twice exactly if some number of it stands among those before it (`twice-found`, from the law for one number more at the end,
-- `twice_push`). `Marked` is the invariant of the walk that finds it: the numbers so far are different, and marks tell which have come; `marked-one` and
-- `marked-none` are its steps.
use mathlib.Core.Path.{◌≡◌, refl, sym, ap, ap₂, ◌∙◌}
use mathlib.Core.Bool.{Bool, true, false, ◌||◌, false≢true}
use mathlib.Core.List.{List, [], ◌∷◌, ◌++◌}
use mathlib.Core.Logic.{◌≢◌}
use Prim.Native.Nat.{ℕ, ◌+◌, ◌≤◌, ◌<◌}
use native.Mathlib.Omega.{arith}
use borrow.Author.Tests.{eq-eqb, ne_eqb, eqb-true, eqb-false}
use lib.Dec.{eqb}
use lib.ListN.{length, get_or, set, take, drop, replicate, length-replicate, length-set, get_or-replicate, take-append-drop}
use lib.Seq.{get_or-set_same, get_or-set_other}
use Rattle.std.specs.List.{list_any}
use Rattle.std.proofs.lemmas.List.{take_more}
use Rattle.std.proofs.lemmas.List.Folds.{list_any-append, list_any_more}
use Rattle.bank.specs.Calls.{names_twice}

-- Whether a number stands in a list.
abbrev pub contains : List ℕ → ℕ → Bool
contains vs v = list_any (λ w. eqb w v) vs

eqb-turned : (v w : ℕ) → eqb v w ≡ eqb w v
eqb-turned v w = go (eqb w v) refl
  where
    go : (t : Bool) → eqb w v ≡ t → eqb v w ≡ t
    go true e = eq-eqb v w (sym (eqb-true w v e))
    go false e = ne_eqb v w (λ q. eqb-false w v e (sym q))

or-true : (a : Bool) → (a || true) ≡ true
or-true true = refl
or-true false = refl

or-false : (a : Bool) → (a || false) ≡ a
or-false true = refl
or-false false = refl

-- One number more at the end.
twice_push : (vs : List ℕ) (v : ℕ) → names_twice (vs ++ v ∷ []) ≡ (names_twice vs || contains vs v)
twice_push [] v = refl
twice_push (x ∷ vs) v =
    ap₂ (λ (a b : Bool). a || b) (list_any-append (λ w. eqb w x) vs (v ∷ [])) (twice_push vs v)
    ∙ moved (contains vs x) (names_twice vs) (eqb v x) (contains vs v)
    ∙ ap (λ (e : Bool). (contains vs x || names_twice vs) || (e || contains vs v)) (eqb-turned v x)
  where
    moved : (a t e n : Bool) → ((a || (e || false)) || (t || n)) ≡ ((a || t) || (e || n))
    moved true t e n = refl
    moved false true true n = refl
    moved false false true n = refl
    moved false t false n = refl

-- A list that begins with one that names a number twice does so too.
twice_front : (xs ys : List ℕ) → names_twice xs ≡ true → names_twice (xs ++ ys) ≡ true
twice_front [] ys e = absurd (false≢true e)
twice_front (x ∷ xs) ys e =
    rw (list_any-append (λ w. eqb w x) xs ys) (go (contains xs x) (names_twice xs) (twice_front xs ys) e)
  where
    go : (a t : Bool) → (t ≡ true → names_twice (xs ++ ys) ≡ true) → (a || t) ≡ true → ((a || contains ys x) || names_twice (xs ++ ys)) ≡ true
    go true t f e = refl
    go false t f e = rw (f e) (or-true (contains ys x))

module _ (vs : List ℕ) (i : ℕ) (h : i < length vs) where
  twice_more : names_twice (take (i + 1) vs) ≡ (names_twice (take i vs) || contains (take i vs) (get_or vs i 0))
  twice_more = ap names_twice (take_more vs i 0 h) ∙ twice_push (take i vs) (get_or vs i 0)

  pub twice-found : contains (take i vs) (get_or vs i 0) ≡ true → names_twice vs ≡ true
  twice-found e =
      let q : names_twice (take (i + 1) vs) ≡ true = twice_more ∙ rw e (or-true (names_twice (take i vs))) in
      ap names_twice (sym (take-append-drop (i + 1) vs)) ∙ twice_front (take (i + 1) vs) (drop (i + 1) vs) q

-- The first i numbers are different, and the marks tell which of those below 64 are among them.
pub record Marked (vs : List ℕ) (i : ℕ) (marks : List Bool) : Type 0 where
  pub different : names_twice (take i vs) ≡ false
  pub size : length marks ≡ 64
  pub tells : (w : ℕ) → w < 64 → get_or marks w false ≡ contains (take i vs) w

pub marked-start : (vs : List ℕ) → Marked vs 0 (replicate 64 false)
marked-start vs = record { different = refl; size = length-replicate 64 false; tells = λ w h. get_or-replicate 64 w false false h }

module _ (vs : List ℕ) (i : ℕ) (h : i < length vs) (marks : List Bool) (M : Marked vs i marks) (e : contains (take i vs) (get_or vs i 0) ≡ false) where
  still : names_twice (take (i + 1) vs) ≡ false
  still = twice_more vs i h ∙ rw (M.different, e) refl

  more : (w : ℕ) → contains (take (i + 1) vs) w ≡ (contains (take i vs) w || eqb (get_or vs i 0) w)
  more w = list_any_more (λ x. eqb x w) vs i 0 h

  other : (w : ℕ) → get_or vs i 0 ≢ w → contains (take (i + 1) vs) w ≡ contains (take i vs) w
  other w d = more w ∙ ap (λ (b : Bool). contains (take i vs) w || b) (ne_eqb (get_or vs i 0) w d) ∙ or-false (contains (take i vs) w)

  -- A number that has a mark, and one that has none.
  pub marked-one : get_or vs i 0 < 64 → Marked vs (i + 1) (set marks (get_or vs i 0) true)
  marked-one l =
      record {
        different = still;
        size = length-set marks (get_or vs i 0) true ∙ M.size;
        tells = λ w j. go w j (eqb w (get_or vs i 0)) refl;
      }
    where
      go : (w : ℕ) → w < 64 → (t : Bool) → eqb w (get_or vs i 0) ≡ t → get_or (set marks (get_or vs i 0) true) w false ≡ contains (take (i + 1) vs) w
      go w j true q =
          let x : w ≡ get_or vs i 0 = eqb-true w (get_or vs i 0) q in
          ap (λ (y : ℕ). get_or (set marks (get_or vs i 0) true) y false) x
          ∙ get_or-set_same marks (get_or vs i 0) true false (omega (arith, l, M.size))
          ∙ sym (more w ∙ ap (λ (b : Bool). contains (take i vs) w || b) (eq-eqb (get_or vs i 0) w (sym x)) ∙ or-true (contains (take i vs) w))
      go w j false q =
          let d : w ≢ get_or vs i 0 = eqb-false w (get_or vs i 0) q in
          get_or-set_other marks (get_or vs i 0) w true false d ∙ M.tells w j ∙ sym (other w (λ x. d (sym x)))

  pub marked-none : 64 ≤ get_or vs i 0 → Marked vs (i + 1) marks
  marked-none l = record { different = still; size = M.size; tells = λ w j. M.tells w j ∙ sym (other w (λ x. omega (arith, x, l, j))) }
