use Rattle.std.proofs.Common.{false, refl}
use Rattle.taxi_text.specs.declared.command.Command.TheVariants as command
use Rattle.replies.specs.Sought.{sought_again}
use Rattle.checked_state.specs.Flights.{state_of}
use Rattle.certificate_check.proofs.JudgedLaws.{told-judged}
use Rattle.certificate_check.proofs.anew.check_reroute.Goals as goal

pub check_again-requires-clause-in_force : goal.check_again-requires-clause-in_force
check_again-requires-clause-in_force c = rw c.in-Ok.ensures.ok.in_force refl

pub returns-in-Ok-clause-judged : goal.returns-in-Ok-clause-judged
returns-in-Ok-clause-judged c =
    let airport = c.args.airport.now in
    let state = state_of c.args.held.now in
    let name = c.args.name.now in
    let asked = c.in-Ok.ensures.ok in
    told-judged airport state (command.Reroute name c.args.time) c.args.block asked.unrefused
    (sought_again airport state name c.args.time false asked.flight c.in-Ok.request) asked.sought
    c.check_again.result (state_of c.check_again.new.held) (c.check_again.ensures.told asked.flight asked.in_force)
