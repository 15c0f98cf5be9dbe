-- An airport has one advice: what is so is told and nothing else, in one order.
use Rattle.std.proofs.Common.{◌≡◌, ◌∙◌, inl, inr, ℕ, List, [], ◌∷◌, sym, ap}
use Rattle.taxi_base.specs.Airport.{Airport}
use Rattle.airport_lint.specs.declared.advice.Advice.{Advice}
use Rattle.airport_lint.specs.Advice.{AreTold, all_advice}
use Rattle.airport_lint.specs.Text.{advice_text, IsAdviceText}

told-one : (airport : Airport) (all told others : List Advice) → AreTold airport all told → AreTold airport all others → told ≡ others
told-one airport [] told others are too = are ∙ sym too
told-one airport (advice ∷ rest) told others are too =
    elim are [
      | inl so ↦ elim too [
        | inl again ↦ so.2 ∙ ap (λ (after : List Advice). advice ∷ after) (told-one airport rest so.1 again.1 so.3 again.3) ∙ sym again.2
        | inr never ↦ absurd (never.0 so.0)
      ]
      | inr never ↦ elim too [
        | inl so ↦ absurd (never.0 so.0)
        | inr again ↦ told-one airport rest told others never.1 again.1
      ]
    ]

pub advice-one : (airport : Airport) (text other : List ℕ) → IsAdviceText airport text → IsAdviceText airport other → text ≡ other
advice-one airport text other is too = is.2 ∙ ap (advice_text airport) (told-one airport (all_advice airport) is.0 too.0 is.1 too.1) ∙ sym too.2
