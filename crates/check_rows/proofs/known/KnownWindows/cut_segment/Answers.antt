use Rattle.std.proofs.Common.{◌<◌, ◌++◌, ◌∷◌, [], length, subst, sym}
use Rattle.taxi_base.specs.Windows.{Hold}
use Rattle.taxi_base.specs.Walks.{free_among}
use Rattle.conflict_sets.specs.Conflicts.{ConflictSets, AreConflicts}
use Rattle.check_rows.proofs.ListCuts.{known-apart, cut-known, same-known}
use Rattle.check_rows.proofs.known.KnownWindows.cut_segment.Goals as goal

pub of-conflicting-requires : goal.of-conflicting-requires
of-conflicting-requires c = subst (λ (x : ConflictSets). c.args.segment.0 < x.segments) (sym c.conflicts.ensures) c.requires.on

pub cut_lists-requires : goal.cut_lists-requires
cut_lists-requires c = known-apart (length c.args.airport.now.segments) (free_among c.args.airport.now c.requires.known.0) c.args.self.now c.requires.known.1

pub returns : goal.returns
returns c holds others more are =
    let all = subst (λ (x : ConflictSets). AreConflicts x.sets c.args.segment c.of-conflicting.result.now) c.conflicts.ensures c.of-conflicting.ensures.all in
    let hold : Hold = record { segment = c.args.segment; span = c.args.span } in
    same-known c.args.airport.now _ (holds ++ hold ∷ []) others more
    (cut-known c.args.airport.now c.args.segment c.args.span c.of-conflicting.result.now all c.args.self.now _ c.cut_lists.ensures holds are)
