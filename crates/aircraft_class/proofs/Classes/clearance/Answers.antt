-- The clearance of a row is at most ten minutes.
use Rattle.std.proofs.Common.{◌≡◌, ◌<◌, ℕ, length, get_or}
use Rattle.aircraft_class.specs.declared.Row.{Row}
use Rattle.aircraft_class.proofs.Tables.{clearance-range}
use Rattle.aircraft_class.proofs.Classes.clearance.Goals as goal

abbrev clearance : Row → ℕ
clearance row = row.clearance

pub returns-in-Some-clause-range : goal.returns-in-Some-clause-range
returns-in-Some-clause-range c =
    let lookup = c.in-Some.ensures.lookup in
    let row = c.in-Some.row.now in
    let low : c.args.class.0 < length c.self.inside.rows.items = rw c.deref.ensures.value at lookup.3.0 in
    let is : row ≡ get_or c.self.inside.rows.items c.args.class.0 row = rw c.deref.ensures.value at lookup.1 in
    clearance-range clearance c.self.inside.rows.items c.args.class.0 row low is c.self.invariant.clearances.1
