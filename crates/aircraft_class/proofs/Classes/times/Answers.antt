-- A row, or an empty one past the rows.
use Rattle.std.proofs.Common.{◌≡◌, ◌≤◌, ◌<◌, ℕ, List, length, get_or, map, Option, ◌∙◌, sym}
use Rattle.aircraft_class.specs.declared.Row.{Row}
use Rattle.aircraft_class.proofs.Tables.{get_or-row, get_or-no_row, row-range}
use Rattle.aircraft_class.proofs.Classes.times.Goals as goal

abbrev items : Row → List (Option ℕ)
items row = row.times.items

pub returns-in-Some-clause-row : goal.returns-in-Some-clause-row
returns-in-Some-clause-row c =
    let lookup = c.in-Some.ensures.lookup in
    let row = c.in-Some.row.now in
    let low : c.args.class.0 < length c.self.inside.rows.items = rw c.deref.ensures.value at lookup.3.0 in
    let is : row ≡ get_or c.self.inside.rows.items c.args.class.0 row = rw c.deref.ensures.value at lookup.1 in
    rw (← c.self.view_is)
    (c.deref-in-Some.ensures.value ∙ sym (get_or-row items c.self.inside.rows.items c.args.class.0 row low is))

pub returns-in-Some-clause-range : goal.returns-in-Some-clause-range
returns-in-Some-clause-range c =
    let lookup = c.in-Some.ensures.lookup in
    let row = c.in-Some.row.now in
    let low : c.args.class.0 < length c.self.inside.rows.items = rw c.deref.ensures.value at lookup.3.0 in
    let is : row ≡ get_or c.self.inside.rows.items c.args.class.0 row = rw c.deref.ensures.value at lookup.1 in
    rw (c.deref-in-Some.ensures.value ∙ sym (get_or-row items c.self.inside.rows.items c.args.class.0 row low is))
    (row-range (map items c.self.inside.rows.items) c.args.class.0 c.self.invariant.range)

pub returns-in-None-clause-row : goal.returns-in-None-clause-row
returns-in-None-clause-row c =
    let past : length c.self.inside.rows.items ≤ c.args.class.0 = rw c.deref.ensures.value at c.in-None.ensures.lookup.3 in
    rw (← c.self.view_is) (sym (get_or-no_row items c.self.inside.rows.items c.args.class.0 past))
