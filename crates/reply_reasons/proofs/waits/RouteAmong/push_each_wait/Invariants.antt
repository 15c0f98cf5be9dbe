use Rattle.std.proofs.Common.{◌≡◌, ◌++◌}
use Rattle.reply_reasons.specs.Waits.{wait_reasons}
use Rattle.reply_reasons.proofs.waits.RouteAmong.push_each_wait.Given as goal

abbrev pub invariant-loop-place : goal.invariant-loop-place
invariant-loop-place l = l.reasons ≡ l.initial.reasons ++ wait_reasons l.self.airport.now l.self.class l.self.others.now.state l.self.request l.self.steps.now l.place
