use Rattle.std.proofs.Common.{◌∙◌, length, None, Some, sym, ap}
use Rattle.std.specs.Prelude.{option_map}
use Rattle.taxi_base.specs.declared.answers.StepCause.TheVariants.{Taken}
use Rattle.taxi_base.specs.State.{holds_in}
use Rattle.taxi_base.specs.Walks.{free_among}
use Rattle.checked_state.specs.Flights.{state_of}
use Rattle.due_refusals.proofs.TakenLaws.{taken-from}
use Rattle.due_refusals.proofs.taken.taken_by.Goals as goal

pub first_taken-requires : goal.first_taken-requires
first_taken-requires c =
    (c.of.ensures (length c.args.airport.now.segments) (free_among c.args.airport.now (holds_in c.args.airport.now (state_of c.args.held.now))) c.make_windows.ensures.known).apart

pub returns-in_default-clause-cause : goal.returns-in_default-clause-cause
returns-in_default-clause-cause c =
    let airport = c.args.airport.now in
    let state = state_of c.args.held.now in
    let are = c.of.ensures (length airport.segments) (free_among airport (holds_in airport state)) c.make_windows.ensures.known in
    sym (taken-from airport state (record { segment = c.args.segment; span = c.args.span }) c.of.result.now are None (sym c.in_default.is ∙ c.first_taken.ensures))

pub returns-in_default-holder_at-clause-cause : goal.returns-in_default-holder_at-clause-cause
returns-in_default-holder_at-clause-cause c =
    let airport = c.args.airport.now in
    let state = state_of c.args.held.now in
    let are = c.of.ensures (length airport.segments) (free_among airport (holds_in airport state)) c.make_windows.ensures.known in
    sym (taken-from airport state (record { segment = c.args.segment; span = c.args.span }) c.of.result.now are (Some c.in-Some.at) (sym c.in-Some.is ∙ c.first_taken.ensures)
    ∙ ap (option_map (λ name. Taken c.in-Some.at name)) (sym c.holder_at.ensures ∙ c.in_default-holder_at.is))

pub returns-clause-cause : goal.returns-clause-cause
returns-clause-cause c =
    let airport = c.args.airport.now in
    let state = state_of c.args.held.now in
    let are = c.of.ensures (length airport.segments) (free_among airport (holds_in airport state)) c.make_windows.ensures.known in
    sym (taken-from airport state (record { segment = c.args.segment; span = c.args.span }) c.of.result.now are (Some c.in-Some.at) (sym c.in-Some.is ∙ c.first_taken.ensures)
    ∙ ap (option_map (λ name. Taken c.in-Some.at name)) (sym c.holder_at.ensures ∙ c.in-Some-holder_at.is))
