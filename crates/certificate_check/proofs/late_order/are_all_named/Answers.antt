use Rattle.std.proofs.Common.{List, map, All, sym, subst}
use Rattle.std.proofs.lemmas.Bool.{false≢true}
use Rattle.taxi_base.specs.declared.answers.Flight.{Flight}
use Rattle.taxi_base.specs.declared.answers.Party.{Party}
use Rattle.check_rows.proofs.LoopLaws.{says-no, says-yes}
use Rattle.checked_state.specs.Flights.{state_of}
use Rattle.certificate_check.specs.Late.{delay_in}
use Rattle.certificate_check.proofs.LateOrder.{IsPartyNamed, IsFlightNamed, all-named}
use Rattle.certificate_check.proofs.late_order.are_all_named.Goals as goal

pub returns-then-not-are_parties_named : goal.returns-then-not-are_parties_named
returns-then-not-are_parties_named c = (
  λ e. absurd (false≢true e),
  λ named.
      let airport = c.args.airport.now in
      let delay = delay_in c.args.late.now in
      let names = map (λ told. told.0) c.args.entries.now in
      let both = (all-named airport delay names (state_of c.args.before.now)).1 named in
      absurd (says-no _ c.if-not-are_parties_named.true c.are_parties_named.ensures (subst (λ (ps : List Party). All (IsPartyNamed airport delay names) ps) (sym c.parties.ensures) both.0)),
)

pub returns : goal.returns
returns c =
    let airport = c.args.airport.now in
    let state = state_of c.args.before.now in
    let delay = delay_in c.args.late.now in
    let names = map (λ told. told.0) c.args.entries.now in
    let parties = subst (λ (ps : List Party). All (IsPartyNamed airport delay names) ps) c.parties.ensures (says-yes _ c.if-not-are_parties_named.false c.are_parties_named.ensures) in (
      λ e. (all-named airport delay names state).0 (parties, subst (λ (fs : List Flight). All (IsFlightNamed airport delay names) fs) c.flights.ensures (c.are_flights_named.ensures.0 e)),
      λ named. c.are_flights_named.ensures.1 (subst (λ (fs : List Flight). All (IsFlightNamed airport delay names) fs) (sym c.flights.ensures) ((all-named airport delay names state).1 named).1),
    )
