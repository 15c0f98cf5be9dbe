use Rattle.std.proofs.lemmas.Result.{IfOk-weaker}
use Rattle.taxi_text.specs.declared.command.Command.TheVariants as command
use Rattle.checked_state.specs.Flights.{state_of}
use Rattle.due_refusals.specs.Choice.{choice_refused, AreNamedOr, AreAnyNamed}
use Rattle.due_refusals.proofs.ChoiceLaws.{named-departure}
use Rattle.due_refusals.proofs.choice.named_departure_any.Goals as goal

pub returns : goal.returns
returns c =
    let airport = c.args.airport.now in
    let state = state_of c.args.held.now in
    let asked = c.args.asked.now in
    let fits = c.leads_to_runways-fits.result in
    IfOk-weaker c.named_any.result (AreNamedOr airport asked (choice_refused airport state asked fits)) (AreAnyNamed airport state asked (command.DepartureAny asked))
    (λ named told. named-departure airport state asked fits named c.leads_to_runways-fits.ensures told) c.named_any.ensures
