-- A list is run by running its first part and then the rest. By induction on the first part.
use mathlib.Core.Path.{◌≡◌, refl}
use mathlib.Core.List.{List, [], ◌∷◌, ◌++◌}
use Rattle.histories.specs.Demand.{run}

pub run-append : {A E : Type 0} (f : A → E → A) (a : A) (xs ys : List E) → run f a (xs ++ ys) ≡ run f (run f a xs) ys
run-append f a [] ys = refl
run-append f a (x ∷ xs) ys = run-append f (f a x) xs ys
