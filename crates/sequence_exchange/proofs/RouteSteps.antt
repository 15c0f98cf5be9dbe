-- The steps of a route that does what is asked are by arcs of the airport, and few.
use Rattle.std.proofs.Common.{◌<◌, ◌^◌, List, length, arith, IsTrue}
use Rattle.std.specs.Prelude.{All}
use Rattle.std.proofs.lemmas.List.Elements.{All-weaker}
use Rattle.taxi_base.specs.declared.rows.Step.{Step}
use Rattle.taxi_base.specs.declared.answers.Request.{Request}
use Rattle.taxi_base.specs.Airport.{IsWellFormed, arc_exists, layout_of}
use Rattle.taxi_base.specs.Walks.{Conditions, IsFeasibleStep, Meets}
use Rattle.taxi_base.proofs.WalkLaws.{Meets-IsFeasibleWalk, IsFeasibleWalk-steps}
use Rattle.replies.proofs.FoundLaws.{walk-few}

module _ (c : Conditions) (request : Request) (steps : List Step) where
  pub met-arcs : Meets c request steps → All (λ s. IsTrue (arc_exists (layout_of c.airport) s.arc)) steps
  met-arcs met =
      All-weaker (IsFeasibleStep c) (λ s. IsTrue (arc_exists (layout_of c.airport) s.arc)) (λ s made. made.on_arc) steps (IsFeasibleWalk-steps c steps (Meets-IsFeasibleWalk c request steps met))

  pub met-few : IsWellFormed c.airport → Meets c request steps → length steps < 2 ^ 32
  met-few rules met = omega (arith, walk-few c rules steps (Meets-IsFeasibleWalk c request steps met), rules.horizon.1)
