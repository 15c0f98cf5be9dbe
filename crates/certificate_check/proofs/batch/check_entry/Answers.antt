use Rattle.std.proofs.Common.{◌∙◌, sym, subst}
use Rattle.std.specs.Prelude.{IsFalse, bytes_eq}
use Rattle.std.proofs.lemmas.List.Elements.{All-contains}
use Rattle.taxi_base.specs.State.{has_holder}
use Rattle.taxi_base.proofs.NamedLists.{find-named}
use Rattle.replies.specs.declared.wish.Wish.{Wish}
use Rattle.replies.proofs.FlightLaws.{find-there}
use Rattle.checked_state.specs.Flights.{state_of}
use Rattle.checked_state.proofs.FlightLaws.{copied-flight}
use Rattle.check_walks.specs.Told.{CanBeSought}
use Rattle.certificate_check.proofs.batch.check_entry.Goals as goal

pub check_new-requires-clause-absent : goal.check_new-requires-clause-absent
check_new-requires-clause-absent c =
    let wishes = c.args.wishes.now in
    let wish = c.unwrap-wish.result.now in
    let found = sym c.wish_named.ensures ∙ copied-flight c.wish_named.result c.unwrap-wish.result c.unwrap-wish.ensures in
    subst (λ n. IsFalse (has_holder n (state_of c.args.held.now))) (sym (find-named (λ (w : Wish). w.name) c.args.name wishes wish found)) c.requires.new

pub check_new-requires-clause-sought : goal.check_new-requires-clause-sought
check_new-requires-clause-sought c =
    let wishes = c.args.wishes.now in
    let wish = c.unwrap-wish.result.now in
    let found = sym c.wish_named.ensures ∙ copied-flight c.wish_named.result c.unwrap-wish.result c.unwrap-wish.ensures in
    All-contains (λ (w : Wish). CanBeSought c.args.airport.now w.request) wishes wish c.requires.sought (find-there (λ (w : Wish). bytes_eq w.name c.args.name) wishes wish found)
