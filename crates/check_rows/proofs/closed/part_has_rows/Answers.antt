use Rattle.std.proofs.Common.{ℕ, Bool}
use Rattle.std.specs.Prelude.{Contains}
use Rattle.std.proofs.lemmas.List.Elements.{All-contains}
use Rattle.taxi_base.specs.declared.numbers.Segment.{Segment}
use Rattle.taxi_base.specs.Walks.{conditions_among, free_among}
use Rattle.walk_labels.specs.Places.{IsPlace, place_of}
use Rattle.table_rows.proofs.AmongLaws.{among-part}
use Rattle.table_rows.proofs.EachLaws.{same-test}
use Rattle.table_rows.proofs.ReachLaws.{arc-by_row}
use Rattle.check_rows.proofs.closed.part_has_rows.Goals as goal

pub row_is_enough-requires-clause-there : goal.row_is_enough-requires-clause-there
row_is_enough-requires-clause-there g c =
    let rows = c.args.table.now.rows.now in
    All-contains (Contains rows) c.rows_behind-near.result.now c.in-Some.row (among-part rows c.rows_of.result.now c.rows_behind-near.result.now c.rows_of.ensures c.rows_behind-near.ensures) c.in-Some.ensures.there

pub returns-in-Some-clause-closed : goal.returns-in-Some-clause-closed
returns-in-Some-clause-closed g c =
    let conditions = conditions_among c.args.airport.now c.args.class (g.H.HoldsOf.held c.args.holds.now) in
    let free : Segment → ℕ → Bool = free_among c.args.airport.now (g.H.HoldsOf.held c.args.holds.now) in
    let rows = c.args.table.now.rows.now in
    let around = c.in-Some.ensures in
    let there = All-contains (Contains rows) c.rows_behind-near.result.now c.in-Some.row (among-part rows c.rows_of.result.now c.rows_behind-near.result.now c.rows_of.ensures c.rows_behind-near.ensures) around.there in
    same-test (c.row_is_enough.ensures conditions (c.limits_of.ensures free))
    (arc-by_row conditions c.args.arc c.args.seconds c.requires.takes c.args.reach c.args.table.now.bound rows c.in-Some.row around.on around.begins around.ends
    (All-contains (λ row. IsPlace conditions (place_of row)) rows c.in-Some.row c.requires.places there))

pub near_have_rows-requires-clause-near : goal.near_have_rows-requires-clause-near
near_have_rows-requires-clause-near g c = among-part c.args.table.now.rows.now c.rows_of.result.now c.rows_behind-near.result.now c.rows_of.ensures c.rows_behind-near.ensures
