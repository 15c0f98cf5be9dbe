-- The class of each time is one of the table's.
use Rattle.std.proofs.Common.{sym, subst, length, take, get_or}
use Rattle.std.specs.Prelude.{All}
use Rattle.airport_rules.specs.declared.rows.TimeRow.{TimeRow}
use Rattle.airport_rules.specs.Sound.{IsSoundTime}
use Rattle.airport_rules.proofs.AirportViews.{length-table}
use Rattle.airport_file.proofs.build.set_times.Goals as goal

abbrev none : TimeRow
none = record { segment = record { 0 = 0 }; class = record { 0 = 0 }; seconds = 0 }

pub set-requires-clause-class : goal.set-requires-clause-class
set-requires-clause-class c =
    let plan = c.args.plan.now in
    let rows = c.times-row-items.result.now in
    let i = c.loop-row.row-index in
    let sound : All (IsSoundTime plan) rows = subst (All (IsSoundTime plan)) (sym c.times-row-items.ensures) c.requires.sound.times in
    let here : IsSoundTime plan (get_or rows i none) = sound i none c.loop-row-test.true in
    rw (c.loop-row.invariant, length-table (length plan.classes) (length plan.segments) (take i plan.times)) here.1
