use Rattle.std.proofs.Common.{◌≡◌, ◌++◌, drop, option_map}
use Rattle.replies.specs.Asked.{filed_steps, route_filed}
use Rattle.command_refusals.proofs.filing.route_steps.Given as goal

-- the steps that are made come before those that are still to be made
abbrev pub invariant-loop-pair : goal.invariant-loop-pair
invariant-loop-pair l = route_filed l.fn.airport l.fn.filed ≡ option_map (λ rest. l.steps ++ rest) (filed_steps l.fn.airport l.enter (drop l.pair-index l.pairs))
