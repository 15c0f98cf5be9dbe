-- The steps that the words of a filed route mean.
use Rattle.std.proofs.Common.{◌≡◌, ℕ, ◌<◌, List, ◌++◌, length, Option, Some, IsTrue, option_map, arith}
use Rattle.std.specs.Prelude.{nat_lt, nat_le}
use Rattle.std.proofs.lemmas.Bool.{and_parts, ltb-true, leb-true}
use Rattle.taxi_base.specs.declared.rows.Step.{Step}
use Rattle.taxi_base.specs.Airport.{Airport}
use Rattle.taxi_text.specs.declared.command.FiledStep.{FiledStep}
use Rattle.taxi_text.specs.Commands.{is_step_count}
use Rattle.replies.specs.Asked.{filed_steps}
use Rattle.replies.proofs.FiledLaws.{filed_steps-length}

-- what is still to come after some steps
abbrev pub steps_and : Airport → List Step → ℕ → List FiledStep → Option (List Step)
steps_and airport steps enter filed = option_map (λ rest. steps ++ rest) (filed_steps airport enter filed)

pub few-made : (airport : Airport) (start : ℕ) (filed : List FiledStep) (steps : List Step) → filed_steps airport start filed ≡ Some steps → IsTrue (is_step_count (length filed))
    → (0 < length steps) × (length steps < 257)
few-made airport start filed steps made count =
    let parts = and_parts (nat_lt 0 (length filed)) (nat_le (length filed) 256) count in
    let same = filed_steps-length airport start filed steps made in
    (omega (arith, same, ltb-true _ _ parts.0), omega (arith, same, leb-true _ _ parts.1))
