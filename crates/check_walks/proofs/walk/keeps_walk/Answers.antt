use Rattle.std.proofs.Common.{◌∙◌, sym}
use Rattle.std.proofs.lemmas.Bool.{eqb-true, eq-eqb, false≢true}
use Rattle.taxi_base.specs.Walks.{conditions_among}
use Rattle.taxi_base.proofs.WalkLaws.{IsFeasibleWalk-steps}
use Rattle.check_rows.proofs.LoopLaws.{says-no, says-yes}
use Rattle.check_walks.specs.Course.{way_of}
use Rattle.check_walks.proofs.StepLaws.{walk-some}
use Rattle.check_walks.proofs.AskedLaws.{asked-walk, walk-asked}
use Rattle.check_walks.proofs.walk.keeps_walk.Goals as goal

pub goes_as_asked-requires-clause-arcs : goal.goes_as_asked-requires-clause-arcs
goes_as_asked-requires-clause-arcs g c k d low =
    let conditions = conditions_among c.args.airport.now c.args.class (g.H.HoldsOf.held c.args.holds.now) in
    (IsFeasibleWalk-steps conditions c.args.steps.now (says-yes _ c.if-not-walk.false c.in_ok-walk.ensures.walk) k d low).on_arc

pub goes_as_asked-requires-clause-some : goal.goes_as_asked-requires-clause-some
goes_as_asked-requires-clause-some g c =
    let conditions = conditions_among c.args.airport.now c.args.class (g.H.HoldsOf.held c.args.holds.now) in
    walk-some conditions c.args.steps.now (says-yes _ c.if-not-walk.false c.in_ok-walk.ensures.walk)

pub returns-then-not-walk-clause-walk : goal.returns-then-not-walk-clause-walk
returns-then-not-walk-clause-walk g c =
    let conditions = conditions_among c.args.airport.now c.args.class (g.H.HoldsOf.held c.args.holds.now) in (
      λ e. absurd (false≢true e),
      λ is. absurd (says-no _ c.if-not-walk.true c.in_ok-walk.ensures.walk (walk-asked conditions c.args.sought.now.request (way_of c.args.sought.now.way) c.args.steps.now is.0).0),
    )

pub returns-then-not-goes_as_asked-clause-walk : goal.returns-then-not-goes_as_asked-clause-walk
returns-then-not-goes_as_asked-clause-walk g c =
    let conditions = conditions_among c.args.airport.now c.args.class (g.H.HoldsOf.held c.args.holds.now) in (
      λ e. absurd (false≢true e),
      λ is. absurd (says-no _ c.if-not-goes_as_asked.true c.goes_as_asked.ensures (walk-asked conditions c.args.sought.now.request (way_of c.args.sought.now.way) c.args.steps.now is.0).1),
    )

pub returns-then-not-begins_after-clause-walk : goal.returns-then-not-begins_after-clause-walk
returns-then-not-begins_after-clause-walk g c = (
  λ e. absurd (false≢true e),
  λ is. absurd (says-no _ c.if-not-begins_after.true c.begins_after.ensures is.1),
)

pub returns-clause-walk : goal.returns-clause-walk
returns-clause-walk g c =
    let conditions = conditions_among c.args.airport.now c.args.class (g.H.HoldsOf.held c.args.holds.now) in
    let walk = says-yes _ c.if-not-walk.false c.in_ok-walk.ensures.walk in
    let goes = says-yes _ c.if-not-goes_as_asked.false c.goes_as_asked.ensures in
    let after = says-yes _ c.if-not-begins_after.false c.begins_after.ensures in (
      λ e. (asked-walk conditions c.args.sought.now.request (way_of c.args.sought.now.way) c.args.steps.now walk goes c.requires.sought, after, sym c.second_at.ensures ∙ eqb-true _ _ e),
      λ is. eq-eqb _ _ (c.second_at.ensures ∙ is.2),
    )
