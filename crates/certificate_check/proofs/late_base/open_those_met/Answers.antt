use Rattle.std.proofs.Common.{◌≡◌, ◌∙◌, ◌++◌, List, Some, not, drop, append-nil, ap, sym, subst}
use Rattle.std.specs.Prelude.{filter, AllPairs, IsTrue}
use Rattle.std.proofs.lemmas.List.{take_all, drop_all}
use Rattle.taxi_base.specs.declared.answers.Party.{Party}
use Rattle.taxi_base.specs.State.{State, party_named, name_precedes}
use Rattle.taxi_base.specs.Late.{party_meets}
use Rattle.checked_state.specs.Flights.{state_of}
use Rattle.certificate_check.specs.Late.{delay_in}
use Rattle.certificate_check.proofs.LateBase.{open-next, open-there}
use Rattle.certificate_check.proofs.late_base.open_those_met.Goals as goal

pub loop-party-init : goal.loop-party-init
loop-party-init c = record {
  so_far = (λ i. record { flights = (state_of c.args.held.now).flights; parties = c.requires.same i });
  tidy = c.requires.tidy;
}

pub open_if_met-requires-clause-on : goal.open_if_met-requires-clause-on
open_if_met-requires-clause-on c = rw c.party-item.is (c.requires.on c.loop-party.party-index c.party-item.result c.loop-party-test.true)

pub open_if_met-requires-clause-at_work : goal.open_if_met-requires-clause-at_work
open_if_met-requires-clause-at_work c =
    let at = c.loop-party in
    let p = c.party-item.result in
    let ordered = subst (AllPairs (λ p q. IsTrue (name_precedes p.name q.name))) c.requires.same c.args.held.now.parties.ordered in
    subst (λ (s : State). party_named p.name s.parties ≡ Some p) (sym at.invariant.so_far)
    (open-there (party_meets c.args.airport.now (delay_in c.args.late.now)) c.args.parties.now ordered at.party-index p c.loop-party-test.true c.party-item.is)

pub loop-party-preserved : goal.loop-party-preserved
loop-party-preserved c =
    let at = c.loop-party in
    let p = c.party-item.result in
    let ordered = subst (AllPairs (λ p q. IsTrue (name_precedes p.name q.name))) c.requires.same c.args.held.now.parties.ordered in
    record {
      so_far = open-next (party_meets c.args.airport.now (delay_in c.args.late.now)) c.args.parties.now ordered at.party-index p c.loop-party-test.true c.party-item.is
          (state_of c.args.held.now).flights (state_of at.held) at.invariant.so_far (state_of c.open_if_met.new.held) c.open_if_met.ensures.state;
      tidy = c.open_if_met.ensures.tidy;
    }

pub returns-clause-state : goal.returns-clause-state
returns-clause-state c =
    let at = c.loop-party in
    let parties = c.args.parties.now in
    let away : List Party → List Party = filter (λ (p : Party). not (party_meets c.args.airport.now (delay_in c.args.late.now) p)) in
    at.invariant.so_far
    ∙ ap (λ (ps : List Party). record { flights = (state_of c.args.held.now).flights; parties = ps })
    (ap (λ (ps : List Party). away ps ++ drop at.party-index parties) (take_all at.party-index parties c.loop-party-test.false)
    ∙ ap (λ (ps : List Party). away parties ++ ps) (drop_all at.party-index parties c.loop-party-test.false) ∙ append-nil (away parties))
