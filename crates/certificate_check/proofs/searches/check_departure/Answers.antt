use Rattle.std.proofs.Common.{refl}
use Rattle.taxi_base.specs.declared.answers.Request.TheVariants as request
use Rattle.taxi_text.specs.declared.command.Command.TheVariants as command
use Rattle.replies.specs.Sought.{sought_new}
use Rattle.checked_state.specs.Flights.{state_of}
use Rattle.certificate_check.proofs.JudgedLaws.{told-judged}
use Rattle.certificate_check.proofs.searches.check_departure.Goals as goal

pub returns-in-Ok-clause-judged : goal.returns-in-Ok-clause-judged
returns-in-Ok-clause-judged c =
    let airport = c.args.airport.now in
    let state = state_of c.args.held.now in
    let asked = c.args.asked.now in
    let named = c.in-Ok.named in
    let known = c.in-Ok.ensures.named in
    told-judged airport state (command.Departure asked) c.args.block c.in-Ok.ensures.ok
    (sought_new airport state asked.flight named.class (request.Departure named.from named.to asked.time asked.slack)) (rw (known.class_known, known.from_known, known.to_known) refl)
    c.check_new.result (state_of c.check_new.new.held) c.check_new.ensures.told
