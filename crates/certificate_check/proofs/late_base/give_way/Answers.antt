use Rattle.std.proofs.Common.{◌∙◌, List, ap, sym, subst, not}
use Rattle.std.specs.Prelude.{filter, flat_map}
use Rattle.taxi_base.specs.declared.answers.Party.{Party}
use Rattle.taxi_base.specs.State.{State}
use Rattle.taxi_base.specs.Late.{party_meets, flight_at_once}
use Rattle.checked_state.specs.Flights.{state_of}
use Rattle.certificate_check.specs.Late.{delay_in, AreAlone}
use Rattle.certificate_check.proofs.LateTurn.{ok-then}
use Rattle.certificate_check.proofs.LateBase.{all-on_steps, all-on_segments, base-alone}
use Rattle.certificate_check.proofs.late_base.give_way.Goals as goal

pub open_those_met-requires-clause-on : goal.open_those_met-requires-clause-on
open_those_met-requires-clause-on c = rw c.parties.ensures (all-on_segments c.args.airport.now (state_of c.args.before.now) c.requires.sound)

pub open_those_met-requires-clause-same : goal.open_those_met-requires-clause-same
open_those_met-requires-clause-same c = ap (λ (s : State). s.parties) c.requires.same ∙ sym c.parties.ensures

pub cut_those_met-requires-clause-steps : goal.cut_those_met-requires-clause-steps
cut_those_met-requires-clause-steps c = rw c.flights.ensures (all-on_steps c.args.airport.now (state_of c.args.before.now) c.requires.sound)

pub cut_those_met-requires-clause-can_go_on : goal.cut_those_met-requires-clause-can_go_on
cut_those_met-requires-clause-can_go_on c = rw c.flights.ensures c.requires.can_go_on

pub cut_those_met-requires-clause-alone : goal.cut_those_met-requires-clause-alone
cut_those_met-requires-clause-alone c =
    let before = state_of c.args.before.now in
    let delay = delay_in c.args.late.now in
    let away : List Party → List Party = filter (λ (p : Party). not (party_meets c.args.airport.now delay p)) in
    let left = ap (λ (s : State). s.parties) c.open_those_met.ensures.state ∙ ap away c.parties.ensures in
    rw c.flights.ensures (subst (λ (ps : List Party). AreAlone before ps) (sym left) (base-alone c.args.airport.now before c.requires.sound delay))

pub cut_those_met-requires-clause-same : goal.cut_those_met-requires-clause-same
cut_those_met-requires-clause-same c =
    ap (λ (s : State). s.flights) c.open_those_met.ensures.state ∙ ap (λ (s : State). s.flights) c.requires.same ∙ sym c.flights.ensures

pub returns-clause-state : goal.returns-clause-state
returns-clause-state c =
    let delay = delay_in c.args.late.now in
    let away : List Party → List Party = filter (λ (p : Party). not (party_meets c.args.airport.now delay p)) in
    let left = ap (λ (s : State). s.parties) c.open_those_met.ensures.state ∙ ap away c.parties.ensures in
    ok-then c.cut_those_met.result _ _ c.cut_those_met.ensures.state
    (λ done. done ∙ (λ i. record { flights = flat_map (flight_at_once c.args.airport.now delay) (c.flights.ensures i); parties = left i }))
