use Rattle.std.proofs.Common.{◌≡◌, ◌+◌, drop, None}
use Rattle.taxi_base.specs.Faults.{fault_after}
use Rattle.checked_state.specs.Flights.{state_of}
use Rattle.due_refusals.specs.KnownIn.{AreKnownIn}
use Rattle.due_refusals.proofs.faults.route_fault.Given as goal

abbrev pub invariant-loop-place : goal.invariant-loop-place
invariant-loop-place l = record {
  known : AreKnownIn l.airport (state_of l.held) l.known;
  fault : fault_after l.airport l.class (state_of l.held) 1 None l.steps ≡ fault_after l.airport l.class (state_of l.held) (l.place + 1) l.before (drop l.place l.steps);
}
