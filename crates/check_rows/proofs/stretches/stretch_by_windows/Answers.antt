use Rattle.std.proofs.Common.{ℕ, ◌<◌, ◌≤◌, Bool, All, length, sym, subst}
use Rattle.std.specs.Prelude.{Contains}
use Rattle.taxi_base.specs.declared.numbers.Segment.{Segment}
use Rattle.taxi_base.specs.Windows.{AreWindows}
use Rattle.taxi_base.specs.Walks.{conditions_among, free_among}
use Rattle.taxi_base.proofs.AirportLaws.{arc_exists-segment}
use Rattle.table_rows.specs.declared.reach.Reach.{Reach}
use Rattle.table_rows.proofs.ServedLaws.{stretch-by_windows}
use Rattle.check_rows.proofs.stretches.stretch_by_windows.Goals as goal

pub make-requires-clause-on : goal.make-requires-clause-on
make-requires-clause-on g c =
    subst (λ (s : Segment). s.0 < length c.args.airport.now.segments) (sym c.segment-segment.ensures) (arc_exists-segment c.args.airport.now c.args.arc c.requires.exists)

pub windows_between-windows-requires : goal.windows_between-windows-requires
windows_between-windows-requires g c =
    let free : Segment → ℕ → Bool = free_among c.args.airport.now (g.H.HoldsOf.held c.args.holds.now) in
    (c.of.ensures (length c.args.airport.now.segments) free c.make.ensures.known).apart

pub returns-clause-served : goal.returns-clause-served
returns-clause-served g c =
    let free : Segment → ℕ → Bool = free_among c.args.airport.now (g.H.HoldsOf.held c.args.holds.now) in
    let conditions = conditions_among c.args.airport.now c.args.class (g.H.HoldsOf.held c.args.holds.now) in
    let are = subst (λ (s : Segment). AreWindows (free s) c.of.result.now) c.segment-segment.ensures (c.of.ensures (length c.args.airport.now.segments) free c.make.ensures.known) in
    let near = c.windows_between-windows.result.now in
    let whole = subst (λ (r : Reach). All (λ w. r.from ≤ w.until → w.from ≤ r.by → Contains near w) c.of.result.now) c.short_part-short.ensures c.windows_between-windows.ensures.whole in
    stretch-by_windows conditions c.args.arc c.args.seconds c.requires.takes c.requires.exists c.of.result.now are c.widest_around-widest.result c.stretch_in.result c.args.table.now.bound c.args.table.now.rows.now
    near c.windows_between-windows.ensures.within whole c.stretch_in.ensures.within (c.stretch_in.ensures.served conditions (c.limits_of.ensures free))
