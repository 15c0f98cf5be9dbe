-- The steps of pairs, when some of them were read.
use Rattle.std.proofs.Common.{◌≡◌, ◌++◌, ◌∷◌, ◌∙◌, [], ℕ, List, refl, sym, ap, drop, Option, Some}
use Rattle.taxi_text.specs.declared.command.FiledStep.{FiledStep}
use Rattle.taxi_text.specs.Commands.{◌>>=◌, first_as, step_of, steps_of}
use Rattle.taxi_text.proofs.Gathering.{going_on, onto}

-- an arc word and what follows it
pair : (arc : List ℕ) (words : List (List ℕ)) → steps_of (arc ∷ words) ≡ first_as (step_of arc) words >>= (λ step. steps_of (drop 1 words) >>= (λ steps. Some (step ∷ steps)))
pair arc [] = refl
pair arc (out ∷ words) = refl

-- one pair more is done
pub done_more : (all : Option (List FiledStep)) (done : List FiledStep) (step : FiledStep) (arc : List ℕ) (left words after : List (List ℕ))
    → all ≡ going_on done (steps_of left) → left ≡ arc ∷ words → Some step ≡ first_as (step_of arc) words → after ≡ drop 1 words
    → all ≡ going_on (done ++ step ∷ []) (steps_of after)
done_more all done step arc left words after e l s a =
    e ∙ ap (λ w. going_on done (steps_of w)) l ∙ ap (going_on done) (pair arc words)
    ∙ ap (λ o. going_on done (o >>= (λ step. steps_of (drop 1 words) >>= (λ steps. Some (step ∷ steps))))) (sym s)
    ∙ onto done step (steps_of (drop 1 words)) ∙ ap (λ w. going_on (done ++ step ∷ []) (steps_of w)) (sym a)
