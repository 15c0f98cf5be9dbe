use Rattle.std.proofs.Common.{◌≡◌, ◌<◌, length, get_or, refl}
use Rattle.table_rows.specs.Served.{reach_in}
use Rattle.table_rows.proofs.ServedLaws.{read-there, each-within}
use Rattle.table_rows.proofs.served.Served.holds.Goals as goal

pub returns-then-is_within : goal.returns-then-is_within
returns-then-is_within c conditions bound rows are sure =
    let items = c.args.self.now.arcs.items in
    let kept = c.in-Some.kept.now in
    let within = c.is_within.ensures.0 sure in
    let lookup = c.in-Some.ensures.lookup in
    let low : c.args.arc.0 < length items = rw c.deref.ensures.value at lookup.3.0 in
    let is : kept ≡ get_or items c.args.arc.0 kept = rw c.deref.ensures.value at lookup.1 in
    each-within conditions c.args.arc (reach_in c.args.reach.way kept.newer) c.args.reach bound rows (record { way = refl; begins = within.0; ends = within.1 })
    (are.each c.args.arc kept (read-there items c.args.arc.0 kept low is)).0

pub returns-else-is_within : goal.returns-else-is_within
returns-else-is_within c conditions bound rows are sure =
    let items = c.args.self.now.arcs.items in
    let kept = c.in-Some.kept.now in
    let within = c.is_within-else-is_within.ensures.0 sure in
    let lookup = c.in-Some.ensures.lookup in
    let low : c.args.arc.0 < length items = rw c.deref.ensures.value at lookup.3.0 in
    let is : kept ≡ get_or items c.args.arc.0 kept = rw c.deref.ensures.value at lookup.1 in
    each-within conditions c.args.arc (reach_in c.args.reach.way kept.older) c.args.reach bound rows (record { way = refl; begins = within.0; ends = within.1 })
    (are.each c.args.arc kept (read-there items c.args.arc.0 kept low is)).1
