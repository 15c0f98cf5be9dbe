use Rattle.std.proofs.Common.{ℕ, Bool, subst}
use Rattle.std.specs.Prelude.{Contains}
use Rattle.std.proofs.lemmas.List.Elements.{All-contains}
use Rattle.taxi_base.specs.declared.numbers.Arc.{Arc}
use Rattle.taxi_base.specs.declared.numbers.Segment.{Segment}
use Rattle.taxi_base.specs.Labels.{window_of}
use Rattle.taxi_base.specs.Walks.{conditions_among, free_among}
use Rattle.walk_labels.specs.Places.{IsPlace, place_of}
use Rattle.table_rows.specs.HasRows.{HasEach}
use Rattle.table_rows.specs.Reached.{IsReachedIn}
use Rattle.table_rows.proofs.AmongLaws.{among-part}
use Rattle.table_rows.proofs.ReachLaws.{arc-by_row}
use Rattle.check_rows.proofs.stretches.stretch_near.Goals as goal

pub returns-in-Some-clause-served : goal.returns-in-Some-clause-served
returns-in-Some-clause-served g c =
    let conditions = conditions_among c.args.airport.now c.args.class (g.H.HoldsOf.held c.args.holds.now) in
    let free : Segment → ℕ → Bool = free_among c.args.airport.now (g.H.HoldsOf.held c.args.holds.now) in
    let rows = c.args.table.now.rows.now in
    let bound = c.args.table.now.bound in
    let row = c.in-Some.row in
    let part = c.part_by_row.result in
    let around = c.in-Some.ensures in
    let there = All-contains (Contains rows) c.rows_behind-near.result.now row (among-part rows c.rows_of.result.now c.rows_behind-near.result.now c.rows_of.ensures c.rows_behind-near.ensures) around.there in
    let served = subst (λ (a : Arc). HasEach part.way (IsReachedIn conditions part a c.args.seconds (window_of row)) bound rows) around.on (c.part_by_row.ensures.served conditions bound rows (c.limits_of.ensures free) there) in
    (arc-by_row conditions c.args.arc c.args.seconds c.requires.takes part bound rows row around.on c.part_by_row.ensures.within.begins c.part_by_row.ensures.within.ends
    (All-contains (λ r. IsPlace conditions (place_of r)) rows row c.requires.places there)).0 served

pub stretch_by_windows-requires-clause-near : goal.stretch_by_windows-requires-clause-near
stretch_by_windows-requires-clause-near g c =
    among-part c.args.table.now.rows.now c.rows_of.result.now c.rows_behind-near.result.now c.rows_of.ensures c.rows_behind-near.ensures
