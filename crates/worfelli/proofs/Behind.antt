-- What a reading over C answers, and what it leaves behind its pointer, from the reply to the bank's own reading: one law for every kind of value. By
-- cases on whether that reading is refused.
use mathlib.Core.Path.{◌≡◌, refl, sym, ap, ◌∙◌}
use Prim.Native.Nat.{ℕ}
use Rattle.std.specs.Prelude.{Result, Ok, Err, MatchResult}
use Rattle.std.specs.Result.{IsOkAnd}
use Rattle.settings.specs.declared.refusals.Refusal.{Refusal}
use Rattle.settings.specs.Refusals.{number_of}
use Rattle.bank.specs.Replies.{Reply, of_reading}
use Rattle.worfelli.specs.OutParameters.{refusal, or}

-- A reading whose value is taken as it is.
pub same : {A : Type 0} (r : Result A Refusal) → MatchResult r (λ x. r ≡ Ok x) (λ e. r ≡ Err e)
same (Ok x) = refl
same (Err e) = refl

-- A reading whose value is turned into another.
pub mapped : {A B : Type 0} (r : Result A Refusal) (s : Result B Refusal) (P : A → B → Type 0) (out : A → B) → MatchResult r (λ x. IsOkAnd s (P x)) (λ e. s ≡ Err e)
    → ((x : A) (y : B) → P x y → y ≡ out x) → MatchResult r (λ x. s ≡ Ok (out x)) (λ e. s ≡ Err e)
mapped (Ok x) (Ok y) P out h f = ap Ok (f x y h)
mapped (Ok x) (Err e) P out h f = absurd h
mapped (Err e) s P out h f = h

-- The bank's reading r replies y, by `tell`; C has s of it, a value x being `out x`; and `value` says what a reply leaves where `was` stood.
module _ {A B : Type 0} (tell : A → Reply) (out : A → B) (value : Reply → B → B) where
  pub record Values : Type 0 where
    pub accepted : (x : A) → refusal (tell x) ≡ 0
    pub written : (x : A) (was : B) → value (tell x) was ≡ out x
    pub refused : (n : ℕ) (was : B) → value (Reply.refused n) was ≡ was

  pub behind : Values → (r : Result A Refusal) (y : Reply) → of_reading tell r ≡ y → (s : Result B Refusal) → MatchResult r (λ x. s ≡ Ok (out x)) (λ e. s ≡ Err e)
      → (n : ℕ) (was after : B) → n ≡ number_of s → after ≡ or s was → (n ≡ refusal y) × (after ≡ value y was)
  unfolding of_reading refusal
  behind V (Ok x) y e s m n was after p q =
      (p ∙ ap number_of m ∙ sym (V.accepted x) ∙ ap refusal e, q ∙ ap (λ (s : Result B Refusal). or s was) m ∙ sym (V.written x was) ∙ ap (λ (y : Reply). value y was) e)
  behind V (Err x) y e s m n was after p q =
      (p ∙ ap number_of m ∙ ap refusal e, q ∙ ap (λ (s : Result B Refusal). or s was) m ∙ sym (V.refused _ was) ∙ ap (λ (y : Reply). value y was) e)
