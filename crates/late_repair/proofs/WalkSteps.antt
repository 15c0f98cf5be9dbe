-- The steps of a walk are by arcs of the airport, and few.
use Rattle.std.proofs.Common.{◌<◌, ◌^◌, List, length, arith, IsTrue}
use Rattle.std.specs.Prelude.{All}
use Rattle.std.proofs.lemmas.List.Elements.{All-weaker}
use Rattle.taxi_base.specs.declared.rows.Step.{Step}
use Rattle.taxi_base.specs.Airport.{IsWellFormed, arc_exists, layout_of}
use Rattle.taxi_base.specs.Walks.{Conditions, IsFeasibleStep, IsFeasibleWalk}
use Rattle.taxi_base.proofs.WalkLaws.{IsFeasibleWalk-steps}
use Rattle.replies.proofs.FoundLaws.{walk-few}

module _ (c : Conditions) (steps : List Step) (walk : IsFeasibleWalk c steps) where
  pub walk-arcs : All (λ s. IsTrue (arc_exists (layout_of c.airport) s.arc)) steps
  walk-arcs = All-weaker (IsFeasibleStep c) (λ s. IsTrue (arc_exists (layout_of c.airport) s.arc)) (λ s made. made.on_arc) steps (IsFeasibleWalk-steps c steps walk)

  pub walk-short : IsWellFormed c.airport → length steps < 2 ^ 32
  walk-short rules = omega (arith, walk-few c rules steps walk, rules.horizon.1)
