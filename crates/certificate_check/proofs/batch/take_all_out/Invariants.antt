use Rattle.std.proofs.Common.{◌≡◌, drop}
use Rattle.checked_state.specs.Flights.{state_of}
use Rattle.certificate_check.specs.Desk.{IsReady}
use Rattle.certificate_check.specs.Batch.{without_all}
use Rattle.certificate_check.proofs.batch.take_all_out.Given as goal

abbrev pub invariant-loop-wish : goal.invariant-loop-wish
invariant-loop-wish l = record {
  ready : IsReady l.airport l.held l.known;
  left : without_all (drop l.wish-index l.wishes) (state_of l.held) ≡ without_all l.wishes (state_of l.initial.held);
}
