use Rattle.std.proofs.Common.{List, ◌∷◌, ◌∙◌, sym, subst}
use Rattle.std.specs.Prelude.{Ok, Contains}
use Rattle.taxi_base.specs.declared.answers.Party.{Party}
use Rattle.taxi_base.specs.declared.rows.Span.{Span}
use Rattle.taxi_base.specs.State.{State, parties_without}
use Rattle.taxi_base.proofs.ListLaws.{Contains-first}
use Rattle.held_spans.specs.Spans.{rows_at, AreHeldBy}
use Rattle.held_spans.proofs.SpanLaws.{one_hold, held-among}
use Rattle.checked_state.specs.Flights.{flights_of, parties_of, state_of, named_in}
use Rattle.checked_state.proofs.PlaceLaws.{named-at, place-at, place-there, without-at}
use Rattle.checked_state.proofs.FlightLaws.{party-apart}
use Rattle.checked_state.proofs.flights.HeldFlights.open.Goals as goal

pub unwrap-place-requires : goal.unwrap-place-requires
unwrap-place-requires c =
    place-there (λ (p : Party). p.name) (parties_of c.args.self.now.parties) c.args.name.now c.args.self.now.parties.ordered c.place_of.result c.place_of.ensures c.requires.at_work

pub take-requires : goal.take-requires
take-requires c =
    let parties = parties_of c.args.self.now.parties in
    let name = c.args.name.now in
    let party = c.remove-party.result in
    let before : State = state_of c.args.self.now in
    let left : State = record before { parties = parties_without name parties } in
    let place = place-at (λ (p : Party). p.name) parties name c.place_of.result (Ok c.unwrap-place.result) c.place_of.ensures c.unwrap-place.ensures in
    let found = named-at (λ (p : Party). p.name) parties name c.args.self.now.parties.ordered c.unwrap-place.result place party c.remove-party.ensures.value in
    let rest = named_in c.requires.spans.0 left in
    let its : Span = record { from = party.from; until = party.until } in
    let there = held-among party.segment its party.name c.args.self.now.spans (one_hold party.segment its party.name ∷ rest)
    (party-apart c.requires.spans.0 c.args.self.now.spans name before party c.args.self.now.parties.ordered found c.requires.spans.1.holders) (Contains-first (one_hold party.segment its party.name) rest) in
    subst (λ (span : Span). Contains (rows_at c.args.self.now.spans party.segment) (span, party.name)) (sym c.span_of.ensures) there

pub returns-clause-state : goal.returns-clause-state
returns-clause-state c =
    let parties = parties_of c.args.self.now.parties in
    let name = c.args.name.now in
    let party = c.remove-party.result in
    let place = place-at (λ (p : Party). p.name) parties name c.place_of.result (Ok c.unwrap-place.result) c.place_of.ensures c.unwrap-place.ensures in
    let left = c.remove-party.ensures.items ∙ without-at (λ (p : Party). p.name) parties name c.args.self.now.parties.ordered c.unwrap-place.result place party in
    λ i. record { flights = flights_of c.args.self.now.flights; parties = left i }

pub returns-clause-spans : goal.returns-clause-spans
returns-clause-spans c airport has =
    let parties = parties_of c.args.self.now.parties in
    let name = c.args.name.now in
    let party = c.remove-party.result in
    let before : State = state_of c.args.self.now in
    let after : State = record before { parties = parties_without name parties } in
    let place = place-at (λ (p : Party). p.name) parties name c.place_of.result (Ok c.unwrap-place.result) c.place_of.ensures c.unwrap-place.ensures in
    let found = named-at (λ (p : Party). p.name) parties name c.args.self.now.parties.ordered c.unwrap-place.result place party c.remove-party.ensures.value in
    let left = c.remove-party.ensures.items ∙ without-at (λ (p : Party). p.name) parties name c.args.self.now.parties.ordered c.unwrap-place.result place party in
    let own = subst (λ (span : Span). AreHeldBy (record { hold = record { segment = party.segment; span = span }; holder = party.name } ∷ named_in airport after) c.args.self.now.spans) (sym c.span_of.ensures)
    (party-apart airport c.args.self.now.spans name before party c.args.self.now.parties.ordered found has.holders) in
    record {
      lists = c.take.ensures.count ∙ has.lists;
      holders = subst (λ (ps : List Party). AreHeldBy (named_in airport (record before { parties = ps })) c.take.new.self) (sym left)
          (c.take.ensures.gone (named_in airport after) own);
    }
