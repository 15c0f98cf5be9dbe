use Rattle.std.proofs.Common.{ℕ, ◌<◌, ◌↔◌, Bool, IsTrue, length, sym, ◌∙◌, subst}
use Rattle.std.specs.Prelude.{Contains}
use Rattle.std.proofs.lemmas.Bool.{and_parts}
use Rattle.taxi_base.specs.declared.numbers.Segment.{Segment}
use Rattle.taxi_base.specs.declared.rows.Span.{Span}
use Rattle.taxi_base.specs.Airport.{segment_of}
use Rattle.taxi_base.specs.Windows.{AreWindows}
use Rattle.taxi_base.proofs.AirportLaws.{arc_exists-segment}
use Rattle.taxi_base.proofs.WindowLaws.{AreWindows-member, AreWindows-whole}
use Rattle.taxi_base.specs.Walks.{free_among}
use Rattle.check_rows.proofs.places.is_at_place.Goals as goal

pub make-requires-clause-on : goal.make-requires-clause-on
make-requires-clause-on g c =
    subst (λ (s : Segment). s.0 < length c.args.airport.now.segments) (sym c.segment-segment.ensures)
    (arc_exists-segment c.args.airport.now c.args.row.arc (and_parts _ _ (sym c.can_use.ensures ∙ c.if-not-can_use.false)).0)

pub has_window-requires : goal.has_window-requires
has_window-requires g c =
    let free : Segment → ℕ → Bool = free_among c.args.airport.now (g.H.HoldsOf.held c.args.holds.now) in
    (c.of-windows.ensures (length c.args.airport.now.segments) free c.make.ensures.known).apart

pub returns-clause-there : goal.returns-clause-there
returns-clause-there g c =
    let free : Segment → ℕ → Bool = free_among c.args.airport.now (g.H.HoldsOf.held c.args.holds.now) in
    let are = subst (λ (s : Segment). AreWindows (free s) c.of-windows.result.now) c.segment-segment.ensures (c.of-windows.ensures (length c.args.airport.now.segments) free c.make.ensures.known) in
    let same = subst (λ (w : Span). IsTrue c.has_window.result ↔ Contains c.of-windows.result.now w) c.window_of.ensures c.has_window.ensures in
    let parts = and_parts _ _ (sym c.can_use.ensures ∙ c.if-not-can_use.false) in (
      λ holds. record {
        on_arc = parts.0;
        timed = parts.1;
        window = AreWindows-member (free (segment_of c.args.row.arc)) c.of-windows.result.now _ are (same.0 holds);
      },
      λ is. same.1 (AreWindows-whole (free (segment_of c.args.row.arc)) c.of-windows.result.now _ are is.window),
    )
