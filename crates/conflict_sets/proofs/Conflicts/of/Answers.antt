-- A row has all in conflict.
use Rattle.std.proofs.Common.{◌<◌, [], length, get_or, subst}
use Rattle.std.proofs.lemmas.Option.{get_or_from_slice_get}
use Rattle.std.proofs.lemmas.List.Elements.{Contains-get_or}
use Rattle.conflict_sets.specs.Conflicts.{AreConflicts}
use Rattle.conflict_sets.proofs.Members.{conflict-exists}
use Rattle.conflict_sets.proofs.Conflicts.of.Goals as goal

pub returns-clause-all : goal.returns-clause-all
returns-clause-all c =
    let low : c.args.segment.0 < length c.self.inside.rows = rw (← c.self.view_is) at c.requires in
    let is = get_or_from_slice_get c.self.inside.rows c.args.segment.0 c.row.result.now [] c.row.ensures in
    rw (← c.self.view_is, ← is) (c.self.invariant.0 c.args.segment low)

pub returns-clause-exist : goal.returns-clause-exist
returns-clause-exist c = λ k d below.
    let low : c.args.segment.0 < length c.self.inside.rows = rw (← c.self.view_is) at c.requires in
    let is = get_or_from_slice_get c.self.inside.rows c.args.segment.0 c.row.result.now [] c.row.ensures in
    let all : AreConflicts c.self.inside.sets.items c.args.segment c.row.result.now = subst (AreConflicts c.self.inside.sets.items c.args.segment) is (c.self.invariant.0 c.args.segment low) in
    let conflicts = (all.each (get_or c.row.result.now k d)).0 (Contains-get_or c.row.result.now k d below) in
    rw (← c.self.view_is) (conflict-exists c.self.inside.sets.items (length c.self.inside.rows) c.args.segment (get_or c.row.result.now k d) c.self.invariant.1 low conflicts)
