use Rattle.std.proofs.Common.{◌≡◌, ◌∙◌, ◌≤◌, [], Some, length, refl, sym, subst, append-nil}
use Rattle.std.specs.Prelude.{slice_get}
use Rattle.taxi_base.specs.declared.answers.Party.{Party}
use Rattle.taxi_base.specs.State.{State, without}
use Rattle.reply_reasons.specs.Routes.{IsBestSecond}
use Rattle.reply_reasons.proofs.PutBack.{named-there}
use Rattle.reply_reasons.proofs.LeftOutLaws.{told-more, told-all}
use Rattle.reply_reasons.proofs.searching.Search.push_parties_left_out.Goals as goal

pub loop-place-init : goal.loop-place-init
loop-place-init c = record { state = refl; fits = c.requires.fits; unlifted = c.requires.unlifted; reasons = ([], refl, sym (append-nil _)) }

pub second_without_party-requires-clause-at_work : goal.second_without_party-requires-clause-at_work
second_without_party-requires-clause-at_work c = named-there (λ (h : Party). h.name) c.loop-place.others.state.parties c.loop-place.place c.party_at-name.result c.party_at-name.ensures

pub loop-place-preserved : goal.loop-place-preserved
loop-place-preserved c =
    let inv = c.loop-place.invariant in
    let search = c.args.self.now in
    let party = c.party_at-name.result in
    let second = c.in_ok-second.second in
    let got = c.in_ok-second.ensures in
    record {
      state = got.state ∙ inv.state;
      fits = got.fits;
      unlifted = got.unlifted;
      reasons =
          told-more search.airport.now search.asking.now c.args.others.now.state c.args.answer (λ (h : Party). h.name) c.args.others.now.state.parties c.loop-place.place
          party second c.args.reasons.now c.loop-place.reasons c.push_gain.new.reasons
          (subst (λ (s : State). slice_get s.parties c.loop-place.place ≡ Some party) inv.state c.party_at-name.ensures) inv.reasons
          (subst (λ (s : State). IsBestSecond search.airport.now search.asking.now (without party.name s) second) inv.state got.second) c.in_ok-push_gain.ensures;
    }

pub returns-clause-reasons : goal.returns-clause-reasons
returns-clause-reasons c =
    let search = c.args.self.now in
    let past : length c.args.others.now.state.parties ≤ c.loop-place.place = rw c.parties-place-end.ensures.count at c.loop-place-test.false in
    told-all search.airport.now search.asking.now c.args.others.now.state c.args.answer (λ (h : Party). h.name) c.args.others.now.state.parties c.loop-place.place
    c.args.reasons.now c.loop-place.reasons past c.loop-place.invariant.reasons
