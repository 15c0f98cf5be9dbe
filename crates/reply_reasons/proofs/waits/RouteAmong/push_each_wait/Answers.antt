use Rattle.std.proofs.Common.{◌∙◌, ◌++◌, ℕ, Option, ap}
use Rattle.reply_reasons.specs.declared.reason.Reason.{Reason}
use Rattle.reply_reasons.specs.Waits.{listed, wait_reason}
use Rattle.reply_reasons.proofs.WaitLaws.{waits-more}
use Rattle.reply_reasons.proofs.waits.RouteAmong.push_each_wait.Goals as goal

pub loop-place-preserved : goal.loop-place-preserved
loop-place-preserved c =
    waits-more (λ (place : ℕ). listed (wait_reason c.args.self.now.airport.now c.args.self.now.class c.args.self.now.others.now.state c.args.self.now.request c.args.self.now.steps.now place)) c.loop-place.place
    c.args.reasons.now c.loop-place.reasons c.push_some.new.reasons c.loop-place.invariant
    (c.in_ok-push_some.ensures ∙ ap (λ (o : Option Reason). c.loop-place.reasons ++ listed o) c.wait_reason.ensures)
