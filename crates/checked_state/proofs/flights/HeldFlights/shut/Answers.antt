use Rattle.std.proofs.Common.{List, [], ◌∷◌, ◌∙◌, ◌++◌, sym, subst}
use Rattle.std.specs.Prelude.{Err}
use Rattle.taxi_base.specs.declared.answers.Party.{Party}
use Rattle.taxi_base.specs.declared.rows.Span.{Span}
use Rattle.taxi_base.specs.State.{State}
use Rattle.held_spans.specs.Spans.{AreHeldBy}
use Rattle.checked_state.specs.Flights.{flights_of, parties_of, state_of, named_in}
use Rattle.checked_state.proofs.PlaceLaws.{place-at, place-gone, with-at}
use Rattle.checked_state.proofs.FlightLaws.{spans-with_party}
use Rattle.checked_state.proofs.flights.HeldFlights.shut.Goals as goal

pub unwrap_err-place-requires : goal.unwrap_err-place-requires
unwrap_err-place-requires c =
    let place = rw c.prepare.ensures.parties at c.place_of.ensures in
    place-gone (λ (p : Party). p.name) (parties_of c.args.self.now.parties) c.args.party.name c.args.self.now.parties.ordered c.args.party c.place_of.result place c.requires.absent

pub returns-clause-ok : goal.returns-clause-ok
returns-clause-ok c =
    let place = rw c.prepare.ensures.parties at c.place_of.ensures in
    let inserted = rw c.prepare.ensures.parties at c.insert.ensures in
    let with = inserted ∙ with-at (λ (p : Party). p.name) c.args.party (parties_of c.args.self.now.parties) c.unwrap_err-place.result
    (place-at (λ (p : Party). p.name) (parties_of c.args.self.now.parties) c.args.party.name c.place_of.result (Err c.unwrap_err-place.result) place c.unwrap_err-place.ensures) in
    λ i. record { flights = flights_of c.args.self.now.flights; parties = with i }

pub returns-clause-spans : goal.returns-clause-spans
returns-clause-spans c airport has =
    let place = rw c.prepare.ensures.parties at c.place_of.ensures in
    let inserted = rw c.prepare.ensures.parties at c.insert.ensures in
    let with = inserted ∙ with-at (λ (p : Party). p.name) c.args.party (parties_of c.args.self.now.parties) c.unwrap_err-place.result
    (place-at (λ (p : Party). p.name) (parties_of c.args.self.now.parties) c.args.party.name c.place_of.result (Err c.unwrap_err-place.result) place c.unwrap_err-place.ensures) in
    let before : State = state_of c.args.self.now in
    let held = c.in_ok-put.ensures.ok (named_in airport before) has.holders in
    let own = subst (λ (span : Span). AreHeldBy (named_in airport before ++ record { hold = record { segment = c.args.party.segment; span = span }; holder = c.args.party.name } ∷ []) c.put.new.self) c.span_of.ensures held in
    record {
      lists = c.put.ensures.count ∙ has.lists;
      holders = subst (λ (parties : List Party). AreHeldBy (named_in airport (record before { parties = parties })) c.put.new.self) (sym with)
          (spans-with_party airport c.put.new.self c.args.party before own);
    }

pub returns-in_err-put-clause-spans : goal.returns-in_err-put-clause-spans
returns-in_err-put-clause-spans c airport has =
    let before : State = state_of c.args.self.now in
    let kept = c.in_err-put.ensures.err (named_in airport before) has.holders in
    record {
      lists = c.put.ensures.count ∙ has.lists;
      holders = subst (λ (parties : List Party). AreHeldBy (named_in airport (record before { parties = parties })) c.put.new.self) (sym c.prepare.ensures.parties) kept;
    }
