use Rattle.std.proofs.Common.{◌<◌, sym, subst}
use Rattle.conflict_sets.specs.Conflicts.{ConflictSets, AreConflicts}
use Rattle.check_rows.proofs.KnownLaws.{still-known_segment}
use Rattle.check_rows.proofs.known.KnownWindows.forget_segment.Goals as goal

pub of-conflicting-requires : goal.of-conflicting-requires
of-conflicting-requires c = subst (λ (x : ConflictSets). c.args.segment.0 < x.segments) (sym c.conflicts.ensures) c.requires

pub returns : goal.returns
returns c =
    let all = subst (λ (x : ConflictSets). AreConflicts x.sets c.args.segment c.of-conflicting.result.now) c.conflicts.ensures c.of-conflicting.ensures.all in
    still-known_segment c.args.airport.now c.args.segment c.args.self.now _ c.of-conflicting.result.now all c.forget_lists.ensures
