use Rattle.std.proofs.Common.{◌≡◌, ◌∙◌, ◌<◌, false, sym, ap, subst}
use Rattle.std.specs.Prelude.{IfOk}
use Rattle.taxi_base.specs.State.{State, with_party, has_holder, holder_count, party_hold, IsFeasibleHold}
use Rattle.reply_reasons.specs.Routes.{IsBestSecond}
use Rattle.reply_reasons.proofs.PutBack.{party-back, party-few, party-absent, party-shut}
use Rattle.reply_reasons.proofs.searching.Search.second_without_party.Goals as goal

pub unwrap-party-requires : goal.unwrap-party-requires
unwrap-party-requires c = rw c.remove.ensures.party c.requires.at_work

pub place-requires-clause-prepared : goal.place-requires-clause-prepared
place-requires-clause-prepared c = rw c.unwrap-party.ensures at c.remove.ensures.prepared

pub place-requires-clause-absent : goal.place-requires-clause-absent
place-requires-clause-absent c =
    let found = sym c.remove.ensures.party ∙ c.unwrap-party.ensures in
    let out = rw c.unwrap-party.ensures at c.remove.ensures.state in
    subst (λ (s : State). has_holder c.unwrap-party.result.name s ≡ false) (sym out)
    (party-absent c.args.self.now.airport.now c.args.others.now.state c.requires.fits.feasible c.args.name.now c.unwrap-party.result found)

pub place-requires-clause-few : goal.place-requires-clause-few
place-requires-clause-few c =
    let found = sym c.remove.ensures.party ∙ c.unwrap-party.ensures in
    let out = rw c.unwrap-party.ensures at c.remove.ensures.state in
    subst (λ (s : State). holder_count s < 4096) (sym out)
    (party-few c.args.self.now.airport.now c.args.others.now.state c.requires.fits.feasible c.args.name.now c.unwrap-party.result found)

pub place-requires-clause-feasible : goal.place-requires-clause-feasible
place-requires-clause-feasible c =
    let found = sym c.remove.ensures.party ∙ c.unwrap-party.ensures in
    let out = rw c.unwrap-party.ensures at c.remove.ensures.state in
    subst (λ (s : State). IsFeasibleHold c.args.self.now.airport.now s (party_hold c.unwrap-party.result)) (sym out)
    (party-shut c.args.self.now.airport.now c.args.others.now.state c.requires.fits.feasible c.args.name.now c.unwrap-party.result found)

pub returns-clause-second : goal.returns-clause-second
returns-clause-second c =
    let out = rw c.unwrap-party.ensures at c.remove.ensures.state in
    subst (λ (s : State). IfOk c.best_second-second.result (IsBestSecond c.args.self.now.airport.now c.args.self.now.asking.now s)) out c.best_second-second.ensures

pub returns-clause-state : goal.returns-clause-state
returns-clause-state c =
    let found = sym c.remove.ensures.party ∙ c.unwrap-party.ensures in
    let out = rw c.unwrap-party.ensures at c.remove.ensures.state in
    c.place.ensures.state ∙ ap (with_party c.unwrap-party.result) out
    ∙ party-back c.args.self.now.airport.now c.args.others.now.state c.requires.fits.feasible c.args.name.now c.unwrap-party.result found
