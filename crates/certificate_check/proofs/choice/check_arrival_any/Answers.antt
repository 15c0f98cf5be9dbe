use Rattle.std.proofs.Common.{get_or}
use Rattle.taxi_base.proofs.AirportLaws.{node_named-exists}
use Rattle.taxi_text.specs.declared.command.Command.TheVariants as command
use Rattle.replies.specs.Asked.{arrival_any}
use Rattle.replies.specs.Sought.{sought_any}
use Rattle.checked_state.specs.Flights.{state_of}
use Rattle.certificate_check.proofs.JudgedLaws.{told-judged}
use Rattle.certificate_check.proofs.NewLaws.{any-seeks}
use Rattle.certificate_check.proofs.ChoiceLaws.{no_node, others_of, some-named, choice-sought}
use Rattle.certificate_check.proofs.choice.check_arrival_any.Goals as goal

pub returns-in-Named-clause-judged : goal.returns-in-Named-clause-judged
returns-in-Named-clause-judged c =
    let airport = c.args.airport.now in
    let state = state_of c.args.held.now in
    let asked = c.args.asked.now in
    let nodes = c.in-Named.nodes in
    let known = rw c.in-Named.is at c.in_ok-named.ensures in
    let some = some-named airport asked.nodes nodes known.2 c.requires.some in
    let choice = arrival_any c.in-Named.from nodes asked.time asked.slack in
    let told = rw c.as_slice-nodes.ensures at c.check_new_to_any.ensures.told in
    let s = sought_any airport state asked.flight c.in-Named.class choice (get_or nodes 0 no_node) (others_of nodes) in
    told-judged airport state (command.ArrivalAny asked) c.args.block known.3 s (rw (known.0, known.1, known.2) (choice-sought airport state asked.flight c.in-Named.class choice no_node some))
    c.check_new_to_any.result (state_of c.check_new_to_any.new.held)
    (told s (any-seeks airport state asked.flight c.in-Named.class choice nodes no_node some))

pub bounds-nodes-0 : goal.bounds-nodes-0
bounds-nodes-0 c =
    let known = rw c.in-Named.is at c.in_ok-named.ensures in
    rw c.as_slice-nodes.ensures (some-named c.args.airport.now c.args.asked.now.nodes c.in-Named.nodes known.2 c.requires.some)

pub check_new_to_any-requires-clause-sought : goal.check_new_to_any-requires-clause-sought
check_new_to_any-requires-clause-sought c node there =
    let known = rw c.in-Named.is at c.in_ok-named.ensures in
    (node_named-exists c.args.airport.now c.args.asked.now.from c.in-Named.from known.1, (c.requires.time, c.requires.hold))

pub check_new_to_any-requires-clause-seeks : goal.check_new_to_any-requires-clause-seeks
check_new_to_any-requires-clause-seeks c =
    let airport = c.args.airport.now in
    let state = state_of c.args.held.now in
    let asked = c.args.asked.now in
    let nodes = c.in-Named.nodes in
    let known = rw c.in-Named.is at c.in_ok-named.ensures in
    let some = some-named airport asked.nodes nodes known.2 c.requires.some in
    let choice = arrival_any c.in-Named.from nodes asked.time asked.slack in
    rw c.as_slice-nodes.ensures
    (sought_any airport state asked.flight c.in-Named.class choice (get_or nodes 0 no_node) (others_of nodes), any-seeks airport state asked.flight c.in-Named.class choice nodes no_node some)
