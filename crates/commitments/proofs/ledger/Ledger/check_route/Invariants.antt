use Rattle.std.proofs.Common.{◌≡◌, ◌+◌, drop, None}
use Rattle.taxi_base.specs.Faults.{fault_after}
use Rattle.commitments.proofs.ledger.Ledger.check_route.Given as goal

abbrev pub invariant-loop-place : goal.invariant-loop-place
invariant-loop-place l =
    fault_after l.airport l.class l.self.state 1 None l.steps ≡ fault_after l.airport l.class l.self.state (l.place + 1) l.before (drop l.place l.steps)
