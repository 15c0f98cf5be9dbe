-- The members of each conflict are segments of the plan.
use Rattle.std.proofs.Common.{◌≡◌, ◌∙◌, ap, length}
use Rattle.airport_file.proofs.build.tables_of.Goals as goal

pub build-requires-clause-members : goal.build-requires-clause-members
build-requires-clause-members c =
    let segments : c.len.result ≡ length c.args.plan.now.segments = c.len.ensures.count ∙ ap length c.segments.ensures in
    rw (c.conflicts.ensures, segments) (λ k d low. (c.requires.conflicts k d low).2)
