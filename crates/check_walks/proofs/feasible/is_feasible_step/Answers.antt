use Rattle.std.proofs.Common.{ℕ, ◌<◌, ◌↔◌, Bool, IsTrue, length, sym, ◌∙◌, subst}
use Rattle.std.specs.Prelude.{Contains}
use Rattle.std.proofs.lemmas.Bool.{and_parts}
use Rattle.taxi_base.specs.declared.numbers.Segment.{Segment}
use Rattle.taxi_base.specs.declared.rows.Span.{Span}
use Rattle.taxi_base.specs.Windows.{AreWindows, IsPart}
use Rattle.taxi_base.specs.Walks.{free_among}
use Rattle.taxi_base.proofs.AirportLaws.{arc_exists-segment}
use Rattle.check_walks.proofs.StepLaws.{feasible-inside, same-test}
use Rattle.check_walks.proofs.feasible.is_feasible_step.Goals as goal

pub make-requires-clause-on : goal.make-requires-clause-on
make-requires-clause-on g c =
    subst (λ (s : Segment). s.0 < length c.args.airport.now.segments) (sym c.segment-segment.ensures)
    (arc_exists-segment c.args.airport.now c.args.step.arc (and_parts _ _ (sym c.is_possible.ensures ∙ c.if-not-is_possible.false)).0)

pub is_inside_one-requires : goal.is_inside_one-requires
is_inside_one-requires g c =
    let free : Segment → ℕ → Bool = free_among c.args.airport.now (g.H.HoldsOf.held c.args.holds.now) in
    (c.of.ensures (length c.args.airport.now.segments) free c.make.ensures.known).apart

pub returns-clause-made : goal.returns-clause-made
returns-clause-made g c =
    let airport = c.args.airport.now in
    let holds = g.H.HoldsOf.held c.args.holds.now in
    let free : Segment → ℕ → Bool = free_among airport holds in
    let are = subst (λ (s : Segment). AreWindows (free s) c.of.result.now) c.segment-segment.ensures (c.of.ensures (length airport.segments) free c.make.ensures.known) in
    let held = rw (c.horizon.ensures.horizon, c.clearance.ensures.clearance) at c.held-held.ensures in
    let inside = subst (λ (span : Span). IsTrue c.is_inside_one.result ↔ ((w : Span) × Contains c.of.result.now w × IsPart span w)) held c.is_inside_one.ensures in
    same-test inside
    (feasible-inside airport c.args.class holds c.args.step c.horizon.ensures.rules (sym c.is_possible.ensures ∙ c.if-not-is_possible.false) c.of.result.now are)
