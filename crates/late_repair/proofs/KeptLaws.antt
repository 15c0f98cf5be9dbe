-- The steps that a flight keeps.
use Rattle.std.proofs.Common.{◌≡◌, ℕ, ◌≤◌, List, Some, subst}
use Rattle.taxi_base.specs.declared.rows.Step.{Step}
use Rattle.taxi_base.specs.Walks.{Conditions, IsFeasibleWalk, IsFeasibleStep}
use Rattle.taxi_base.specs.State.{step_begun, steps_done}
use Rattle.taxi_base.proofs.AgainLaws.{begun-parts}
use Rattle.taxi_base.proofs.KeptSteps.{seam}
use Rattle.replies.proofs.FoundLaws.{step-enter}

-- the step that was begun was entered by the horizon
pub begun-in_time : (c : Conditions) (time : ℕ) (steps : List Step) (begun : Step) → IsFeasibleWalk c steps → step_begun time steps ≡ Some begun → begun.enter ≤ c.airport.horizon
begun-in_time c time steps begun walk e =
    let parts = begun-parts time steps begun e in
    let made : IsFeasibleStep c begun = seam c (steps_done time steps) begun parts.0 (subst (IsFeasibleWalk c) parts.1 walk) in
    step-enter c begun made
