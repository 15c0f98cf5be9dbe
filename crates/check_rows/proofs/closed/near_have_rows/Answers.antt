use Rattle.std.proofs.Common.{ℕ, ◌<◌, Bool, length, sym, subst}
use Rattle.taxi_base.specs.declared.numbers.Segment.{Segment}
use Rattle.taxi_base.specs.Windows.{AreWindows}
use Rattle.taxi_base.specs.Walks.{conditions_among, free_among}
use Rattle.taxi_base.proofs.AirportLaws.{arc_exists-segment}
use Rattle.table_rows.proofs.EachLaws.{same-test}
use Rattle.table_rows.proofs.ReachLaws.{arc-by_windows}
use Rattle.check_rows.proofs.closed.near_have_rows.Goals as goal

pub make-requires-clause-on : goal.make-requires-clause-on
make-requires-clause-on g c =
    subst (λ (s : Segment). s.0 < length c.args.airport.now.segments) (sym c.segment-segment.ensures) (arc_exists-segment c.args.airport.now c.args.arc c.requires.exists)

pub windows_between-windows-requires : goal.windows_between-windows-requires
windows_between-windows-requires g c =
    let free : Segment → ℕ → Bool = free_among c.args.airport.now (g.H.HoldsOf.held c.args.holds.now) in
    (c.of.ensures (length c.args.airport.now.segments) free c.make.ensures.known).apart

pub returns-clause-closed : goal.returns-clause-closed
returns-clause-closed g c =
    let free : Segment → ℕ → Bool = free_among c.args.airport.now (g.H.HoldsOf.held c.args.holds.now) in
    let are = subst (λ (s : Segment). AreWindows (free s) c.of.result.now) c.segment-segment.ensures (c.of.ensures (length c.args.airport.now.segments) free c.make.ensures.known) in
    let conditions = conditions_among c.args.airport.now c.args.class (g.H.HoldsOf.held c.args.holds.now) in
    same-test (c.windows_have_rows.ensures conditions (c.limits_of.ensures free))
    (arc-by_windows conditions c.args.arc c.args.seconds c.requires.takes c.requires.exists c.of.result.now are c.args.reach c.args.table.now.bound c.args.table.now.rows.now
    c.windows_between-windows.result.now c.windows_between-windows.ensures.within c.windows_between-windows.ensures.whole)
