-- The class of each row is one of the table's.
use Rattle.std.proofs.Common.{sym, subst, length, get_or}
use Rattle.std.specs.Prelude.{All}
use Rattle.airport_rules.specs.declared.rows.ClearanceRow.{ClearanceRow}
use Rattle.airport_rules.specs.Sound.{IsSoundClearance}
use Rattle.airport_rules.proofs.AirportViews.{length-table}
use Rattle.airport_file.proofs.build.set_clearances.Goals as goal

abbrev none : ClearanceRow
none = record { class = record { 0 = 0 }; seconds = 0 }

pub set_clearance-requires-clause-class : goal.set_clearance-requires-clause-class
set_clearance-requires-clause-class c =
    let plan = c.args.plan.now in
    let rows = c.clearances-row-items.result.now in
    let i = c.loop-row.row-index in
    let sound : All (IsSoundClearance plan) rows = subst (All (IsSoundClearance plan)) (sym c.clearances-row-items.ensures) c.requires.sound.clearances in
    let here : IsSoundClearance plan (get_or rows i none) = sound i none c.loop-row-test.true in
    rw (c.loop-row.invariant, length-table (length plan.classes) (length plan.segments) plan.times) here.0
