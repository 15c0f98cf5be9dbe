use Rattle.std.proofs.Common.{◌≡◌, ◌∙◌, ◌≤◌, [], Some, length, refl, sym, subst, append-nil}
use Rattle.std.specs.Prelude.{slice_get}
use Rattle.taxi_base.specs.declared.answers.Flight.{Flight}
use Rattle.taxi_base.specs.State.{State, without}
use Rattle.reply_reasons.specs.Routes.{IsBestSecond}
use Rattle.reply_reasons.proofs.PutBack.{named-there}
use Rattle.reply_reasons.proofs.LeftOutLaws.{told-more, told-all}
use Rattle.reply_reasons.proofs.searching.Search.push_flights_left_out.Goals as goal

pub loop-place-init : goal.loop-place-init
loop-place-init c = record { state = refl; fits = c.requires.fits; unlifted = c.requires.unlifted; reasons = ([], refl, sym (append-nil _)) }

pub second_without_flight-requires-clause-in_force : goal.second_without_flight-requires-clause-in_force
second_without_flight-requires-clause-in_force c = named-there (λ (h : Flight). h.name) c.loop-place.others.state.flights c.loop-place.place c.at.result.now c.at.ensures

pub loop-place-preserved : goal.loop-place-preserved
loop-place-preserved c =
    let inv = c.loop-place.invariant in
    let search = c.args.self.now in
    let flight = c.at.result.now in
    let second = c.in_ok-second.second in
    let got = c.in_ok-second.ensures in
    record {
      state = got.state ∙ inv.state;
      fits = got.fits;
      unlifted = got.unlifted;
      reasons =
          told-more search.airport.now search.asking.now c.args.others.now.state c.args.answer (λ (h : Flight). h.name) c.args.others.now.state.flights c.loop-place.place
          flight second c.args.reasons.now c.loop-place.reasons c.push_gain.new.reasons
          (subst (λ (s : State). slice_get s.flights c.loop-place.place ≡ Some flight) inv.state c.at.ensures) inv.reasons
          (subst (λ (s : State). IsBestSecond search.airport.now search.asking.now (without flight.name s) second) inv.state got.second) c.in_ok-push_gain.ensures;
    }

pub returns-clause-reasons : goal.returns-clause-reasons
returns-clause-reasons c =
    let search = c.args.self.now in
    let past : length c.args.others.now.state.flights ≤ c.loop-place.place = rw c.count-place-end.ensures.count at c.loop-place-test.false in
    told-all search.airport.now search.asking.now c.args.others.now.state c.args.answer (λ (h : Flight). h.name) c.args.others.now.state.flights c.loop-place.place
    c.args.reasons.now c.loop-place.reasons past c.loop-place.invariant.reasons
