-- The plan has the arcs.
use Rattle.std.proofs.Common.{◌≡◌, ◌∙◌, ◌<◌, length, sym, refl, arith, Some, None}
use Rattle.taxi_base.specs.Airport.{place_of}
use Rattle.airport_rules.proofs.AirportViews.{arc_named-found, arc_named-none, place-within}
use Rattle.airport_file.proofs.airport.Airport.arc_named.Goals as goal

pub returns-in_err-at : goal.returns-in_err-at
returns-in_err-at c =
    let none : place_of c.args.name.now c.self.inside.plan.segments ≡ None = rw (← c.segments.ensures, ← c.find.ensures.place) c.in_err-at.was in
    rw (c.from_residual.ensures, ← c.self.view_is) (sym (arc_named-none c.self.inside.horizon c.self.inside.plan c.args.name.now c.args.forward c.self.invariant.sound.links none))

pub of-arc-requires : goal.of-arc-requires
of-arc-requires c =
    let found : place_of c.args.name.now c.self.inside.plan.segments ≡ Some c.in_ok-at.at = rw (← c.segments.ensures, ← c.find.ensures.place) c.in_ok-at.was in
    let low : c.in_ok-at.at < length c.self.inside.plan.segments = place-within c.args.name.now c.self.inside.plan.segments c.in_ok-at.at found in
    omega (arith, low, c.self.invariant.sound.segments.few)

pub returns-then-has_arc : goal.returns-then-has_arc
returns-then-has_arc c =
    let found : place_of c.args.name.now c.self.inside.plan.segments ≡ Some c.in_ok-at.at = rw (← c.segments.ensures, ← c.find.ensures.place) c.in_ok-at.was in
    let there = rw (c.has_arc.ensures, c.of-arc.ensures) at c.if-has_arc.true in
    rw (← c.self.view_is, c.of-arc.ensures)
    (sym (arc_named-found c.self.inside.horizon c.self.inside.plan c.args.name.now c.args.forward c.in_ok-at.at c.self.invariant.sound.kinds c.self.invariant.sound.links found ∙ rw there refl))

pub returns-else-has_arc : goal.returns-else-has_arc
returns-else-has_arc c =
    let found : place_of c.args.name.now c.self.inside.plan.segments ≡ Some c.in_ok-at.at = rw (← c.segments.ensures, ← c.find.ensures.place) c.in_ok-at.was in
    let there = rw (c.has_arc.ensures, c.of-arc.ensures) at c.if-has_arc.false in
    rw (← c.self.view_is)
    (sym (arc_named-found c.self.inside.horizon c.self.inside.plan c.args.name.now c.args.forward c.in_ok-at.at c.self.invariant.sound.kinds c.self.invariant.sound.links found ∙ rw there refl))
