use Rattle.std.proofs.Common.{◌≡◌, ◌∙◌, ◌<◌, false, sym, ap, subst}
use Rattle.std.specs.Prelude.{IfOk}
use Rattle.taxi_base.specs.Walks.{IsFeasibleWalk}
use Rattle.taxi_base.specs.State.{State, with_flight, has_holder, holder_count}
use Rattle.taxi_base.specs.Faults.{conditions_in}
use Rattle.reply_reasons.specs.Routes.{IsBestSecond}
use Rattle.reply_reasons.proofs.PutBack.{flight-back, flight-few, flight-absent, flight-walk}
use Rattle.reply_reasons.proofs.searching.Search.second_without_flight.Goals as goal

pub unwrap-flight-requires : goal.unwrap-flight-requires
unwrap-flight-requires c = rw c.cancel.ensures.flight c.requires.in_force

pub commit-requires-clause-prepared : goal.commit-requires-clause-prepared
commit-requires-clause-prepared c = rw c.unwrap-flight.ensures at c.cancel.ensures.prepared

pub commit-requires-clause-absent : goal.commit-requires-clause-absent
commit-requires-clause-absent c =
    let found = sym c.cancel.ensures.flight ∙ c.unwrap-flight.ensures in
    let out = rw c.unwrap-flight.ensures at c.cancel.ensures.state in
    subst (λ (s : State). has_holder c.unwrap-flight.result.name s ≡ false) (sym out)
    (flight-absent c.args.self.now.airport.now c.args.others.now.state c.requires.fits.feasible c.args.name.now c.unwrap-flight.result found)

pub commit-requires-clause-few : goal.commit-requires-clause-few
commit-requires-clause-few c =
    let found = sym c.cancel.ensures.flight ∙ c.unwrap-flight.ensures in
    let out = rw c.unwrap-flight.ensures at c.cancel.ensures.state in
    subst (λ (s : State). holder_count s < 4096) (sym out)
    (flight-few c.args.self.now.airport.now c.args.others.now.state c.requires.fits.feasible c.args.name.now c.unwrap-flight.result found)

pub commit-requires-clause-feasible : goal.commit-requires-clause-feasible
commit-requires-clause-feasible c =
    let found = sym c.cancel.ensures.flight ∙ c.unwrap-flight.ensures in
    let out = rw c.unwrap-flight.ensures at c.cancel.ensures.state in
    let flight = c.unwrap-flight.result in
    subst (λ (s : State). IsFeasibleWalk (conditions_in c.args.self.now.airport.now flight.class s) flight.steps) (sym out)
    (flight-walk c.args.self.now.airport.now c.args.others.now.state c.requires.fits.feasible c.args.name.now flight found)

pub returns-clause-second : goal.returns-clause-second
returns-clause-second c =
    let out = rw c.unwrap-flight.ensures at c.cancel.ensures.state in
    subst (λ (s : State). IfOk c.best_second-second.result (IsBestSecond c.args.self.now.airport.now c.args.self.now.asking.now s)) out c.best_second-second.ensures

pub returns-clause-state : goal.returns-clause-state
returns-clause-state c =
    let found = sym c.cancel.ensures.flight ∙ c.unwrap-flight.ensures in
    let out = rw c.unwrap-flight.ensures at c.cancel.ensures.state in
    c.commit.ensures.state ∙ ap (with_flight c.unwrap-flight.result) out
    ∙ flight-back c.args.self.now.airport.now c.args.others.now.state c.requires.fits.feasible c.args.name.now c.unwrap-flight.result found
