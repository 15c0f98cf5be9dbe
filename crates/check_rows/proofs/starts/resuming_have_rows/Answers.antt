use Rattle.std.proofs.Common.{ℕ, ◌<◌, Bool, IsTrue, length, sym, ◌∙◌, subst}
use Rattle.taxi_base.specs.declared.numbers.Segment.{Segment}
use Rattle.taxi_base.specs.Airport.{Layout, arc_exists}
use Rattle.taxi_base.specs.Windows.{AreWindows}
use Rattle.taxi_base.proofs.AirportLaws.{arc_exists-segment}
use Rattle.taxi_base.specs.Walks.{free_among}
use Rattle.check_rows.proofs.starts.resuming_have_rows.Goals as goal

pub make-requires-clause-on : goal.make-requires-clause-on
make-requires-clause-on g c =
    subst (λ (s : Segment). s.0 < length c.args.airport.now.segments) (sym c.segment-segment.ensures)
    (arc_exists-segment c.args.airport.now c.args.begun.arc (subst (λ (l : Layout). IsTrue (arc_exists l c.args.begun.arc)) c.graph.ensures (sym c.exists.ensures ∙ c.if-not-exists.false)))

pub returns-clause-begun : goal.returns-clause-begun
returns-clause-begun g c =
    let free : Segment → ℕ → Bool = free_among c.args.airport.now (g.H.HoldsOf.held c.args.holds.now) in
    c.begun_has_row.ensures free (subst (λ (s : Segment). AreWindows (free s) c.of-windows.result.now) c.segment-segment.ensures (c.of-windows.ensures (length c.args.airport.now.segments) free c.make.ensures.known))
