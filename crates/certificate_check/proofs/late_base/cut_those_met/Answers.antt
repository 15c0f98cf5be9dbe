use Rattle.std.proofs.Common.{◌≡◌, ◌∙◌, ◌<◌, ◌≤◌, ◌++◌, None, List, length, drop, append-nil, ap, sym, subst, arith}
use Rattle.std.specs.Prelude.{flat_map}
use Rattle.std.proofs.lemmas.List.{take_all, drop_all}
use Rattle.taxi_base.specs.declared.answers.Flight.{Flight}
use Rattle.taxi_base.specs.State.{State, party_named}
use Rattle.taxi_base.specs.Late.{flight_at_once}
use Rattle.checked_state.specs.Flights.{flights_of, state_of}
use Rattle.certificate_check.specs.Desk.{CanGoOn}
use Rattle.certificate_check.specs.Late.{delay_in, IsOnSteps}
use Rattle.certificate_check.proofs.LateBase.{cut-next}
use Rattle.certificate_check.proofs.late_base.cut_those_met.Goals as goal

pub loop-at-init : goal.loop-at-init
loop-at-init c = record {
  so_far = (λ i. record { flights = c.requires.same i; parties = (state_of c.args.held.now).parties });
  tidy = c.requires.tidy;
}

pub cut_if_met-requires-clause-steps : goal.cut_if_met-requires-clause-steps
cut_if_met-requires-clause-steps c =
    let low : c.loop-at.at < length (flights_of c.args.flights.now) = omega (arith, c.len-at-end.ensures.count) in
    subst (IsOnSteps c.args.airport.now) (sym c.at.ensures) (c.requires.steps c.loop-at.at c.at.result.now low)

pub cut_if_met-requires-clause-goes_on : goal.cut_if_met-requires-clause-goes_on
cut_if_met-requires-clause-goes_on c =
    let low : c.loop-at.at < length (flights_of c.args.flights.now) = omega (arith, c.len-at-end.ensures.count) in
    subst (λ (f : Flight). CanGoOn c.args.airport.now f.request) (sym c.at.ensures) (c.requires.can_go_on c.loop-at.at c.at.result.now low)

pub cut_if_met-requires-clause-alone : goal.cut_if_met-requires-clause-alone
cut_if_met-requires-clause-alone c =
    let at = c.loop-at in
    let x = c.at.result.now in
    let low : at.at < length (flights_of c.args.flights.now) = omega (arith, c.len-at-end.ensures.count) in
    subst (λ (s : State). party_named x.name s.parties ≡ None) (sym at.invariant.so_far)
    (subst (λ (f : Flight). party_named f.name (state_of c.args.held.now).parties ≡ None) (sym c.at.ensures) (c.requires.alone at.at x low))

pub loop-at-preserved : goal.loop-at-preserved
loop-at-preserved c =
    let at = c.loop-at in
    let x = c.at.result.now in
    let low : at.at < length (flights_of c.args.flights.now) = omega (arith, c.len-at-end.ensures.count) in
    let parties = (state_of c.args.held.now).parties in
    let alone = subst (λ (f : Flight). party_named f.name parties ≡ None) (sym c.at.ensures) (c.requires.alone at.at x low) in
    record {
      so_far = cut-next c.args.airport.now (delay_in c.args.late.now) (flights_of c.args.flights.now) c.args.flights.now.ordered at.at x low c.at.ensures parties alone
          (state_of at.held) at.invariant.so_far (state_of c.cut_if_met.new.held) c.in_ok-cut_if_met.ensures.state;
      tidy = c.in_ok-cut_if_met.ensures.tidy;
    }

pub returns-clause-state : goal.returns-clause-state
returns-clause-state c =
    let at = c.loop-at in
    let flights = flights_of c.args.flights.now in
    let past : length flights ≤ at.at = omega (arith, c.len-at-end.ensures.count) in
    let once : List Flight → List Flight = flat_map (flight_at_once c.args.airport.now (delay_in c.args.late.now)) in
    at.invariant.so_far
    ∙ ap (λ (fs : List Flight). record { flights = fs; parties = (state_of c.args.held.now).parties })
    (ap (λ (fs : List Flight). once fs ++ drop at.at flights) (take_all at.at flights past)
    ∙ ap (λ (fs : List Flight). once flights ++ fs) (drop_all at.at flights past) ∙ append-nil (once flights))
