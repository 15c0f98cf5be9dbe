use Rattle.std.proofs.Common.{inl, inr}
use Rattle.held_spans.proofs.LoopLaws.{no_step}
use Rattle.check_walks.proofs.EndLaws.{last-second}
use Rattle.check_walks.proofs.walk.second_at.Goals as goal

pub returns-in-Filed : goal.returns-in-Filed
returns-in-Filed c =
    let end = last-second c.args.steps.now no_step c.requires in
    elim c.in-Filed.is [ inl filed ↦ rw filed end | inr arrival ↦ rw arrival.4 end ]
