use Rattle.std.proofs.Common.{◌≡◌, ◌++◌, not, take, drop}
use Rattle.std.specs.Prelude.{filter}
use Rattle.taxi_base.specs.declared.answers.Party.{Party}
use Rattle.taxi_base.specs.Late.{party_meets}
use Rattle.checked_state.specs.Flights.{state_of}
use Rattle.certificate_check.specs.Desk.{IsTidy}
use Rattle.certificate_check.specs.Late.{delay_in}
use Rattle.certificate_check.proofs.late_base.open_those_met.Given as goal

abbrev pub invariant-loop-party : goal.invariant-loop-party
invariant-loop-party l = record {
  so_far : state_of l.held
      ≡ record { flights = (state_of l.initial.held).flights; parties = filter (λ (p : Party). not (party_meets l.airport (delay_in l.late) p)) (take l.party-index l.parties) ++ drop l.party-index l.parties };
  tidy : IsTidy l.airport l.held l.known;
}
