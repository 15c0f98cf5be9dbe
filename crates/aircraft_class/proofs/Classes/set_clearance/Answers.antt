-- The clearance of one row changes, and no time.
use Rattle.std.proofs.Common.{ℕ, List, Option, ap}
use Rattle.std.proofs.Math.Seq.{map-set_same}
use Rattle.std.proofs.lemmas.List.{map-set}
use Rattle.aircraft_class.specs.declared.Row.{Row}
use Rattle.aircraft_class.proofs.Tables.{AreTimes-clearance}
use Rattle.aircraft_class.proofs.Classes.set_clearance.Goals as goal

abbrev items : Row → List (Option ℕ)
items row = row.times.items

abbrev clearance : Row → ℕ
clearance row = row.clearance

pub invariant_of-self : goal.invariant_of-self
invariant_of-self c =
    let rows = c.self.inside.rows.items in
    let row = c.index_mut.result.now in
    let new : Row = record row { clearance = c.args.seconds } in
    rw (map-set_same items rows c.args.class.0 new row (ap items c.index_mut.ensures.value), map-set clearance rows c.args.class.0 new)
    (AreTimes-clearance _ c.args.class.0 c.args.seconds c.self.invariant c.requires.seconds)

pub returns : goal.returns
returns c =
    let rows = c.self.inside.rows.items in
    let row = c.index_mut.result.now in
    let new : Row = record row { clearance = c.args.seconds } in
    rw (← c.self.view_is)
    (λ i. record {
      segments = c.self.inside.segments;
      table = map-set_same items rows c.args.class.0 new row (ap items c.index_mut.ensures.value) i;
      clearances = map-set clearance rows c.args.class.0 new i;
    })
