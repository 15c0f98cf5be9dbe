use Rattle.std.proofs.Common.{◌∙◌, sym}
use Rattle.std.proofs.lemmas.Bool.{eqb-true, eq-eqb, false≢true}
use Rattle.taxi_base.specs.Walks.{conditions_among}
use Rattle.taxi_base.proofs.WalkLaws.{IsFeasibleWalk-steps}
use Rattle.check_rows.proofs.LoopLaws.{says-no, says-yes}
use Rattle.check_walks.proofs.StepLaws.{walk-some}
use Rattle.check_walks.proofs.ChoiceLaws.{walk-to-one, one-walk}
use Rattle.check_walks.proofs.choice.keeps_walk_to_any.Goals as goal

pub goes_to_any-requires-clause-arcs : goal.goes_to_any-requires-clause-arcs
goes_to_any-requires-clause-arcs g c k d low =
    let conditions = conditions_among c.args.airport.now c.args.class (g.H.HoldsOf.held c.args.holds.now) in
    (IsFeasibleWalk-steps conditions c.args.steps.now (says-yes _ c.if-not-walk.false c.in_ok-walk.ensures.walk) k d low).on_arc

pub goes_to_any-requires-clause-some : goal.goes_to_any-requires-clause-some
goes_to_any-requires-clause-some g c =
    let conditions = conditions_among c.args.airport.now c.args.class (g.H.HoldsOf.held c.args.holds.now) in
    walk-some conditions c.args.steps.now (says-yes _ c.if-not-walk.false c.in_ok-walk.ensures.walk)

pub returns-then-not-walk-clause-walk : goal.returns-then-not-walk-clause-walk
returns-then-not-walk-clause-walk g c others among =
    let conditions = conditions_among c.args.airport.now c.args.class (g.H.HoldsOf.held c.args.holds.now) in (
      λ e. absurd (false≢true e),
      λ is. absurd (says-no _ c.if-not-walk.true c.in_ok-walk.ensures.walk (one-walk c.args.sought.now.request c.args.sought.now.nodes.now others among conditions c.args.steps.now is.0).0),
    )

pub returns-then-not-goes_to_any-clause-walk : goal.returns-then-not-goes_to_any-clause-walk
returns-then-not-goes_to_any-clause-walk g c others among =
    let conditions = conditions_among c.args.airport.now c.args.class (g.H.HoldsOf.held c.args.holds.now) in (
      λ e. absurd (false≢true e),
      λ is. absurd (says-no _ c.if-not-goes_to_any.true c.goes_to_any.ensures (one-walk c.args.sought.now.request c.args.sought.now.nodes.now others among conditions c.args.steps.now is.0).1),
    )

pub returns-clause-walk : goal.returns-clause-walk
returns-clause-walk g c others among =
    let conditions = conditions_among c.args.airport.now c.args.class (g.H.HoldsOf.held c.args.holds.now) in
    let walk = says-yes _ c.if-not-walk.false c.in_ok-walk.ensures.walk in
    let goes = says-yes _ c.if-not-goes_to_any.false c.goes_to_any.ensures in (
      λ e. (walk-to-one c.args.sought.now.request c.args.sought.now.nodes.now others among conditions c.args.steps.now walk goes c.requires.sought, sym c.second_at.ensures ∙ eqb-true _ _ e),
      λ is. eq-eqb _ _ (c.second_at.ensures ∙ is.1),
    )
