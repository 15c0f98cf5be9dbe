use Rattle.std.proofs.Common.{List, sym, subst}
use Rattle.taxi_base.specs.declared.numbers.Node.{Node}
use Rattle.replies.specs.Sought.{sought_wish}
use Rattle.checked_state.specs.Flights.{state_of}
use Rattle.check_walks.specs.Choice.{CanBeSoughtAny}
use Rattle.certificate_check.specs.NewFlight.{SeeksNew}
use Rattle.certificate_check.proofs.NewLaws.{has-target, one-sought, one-seeks}
use Rattle.certificate_check.proofs.routed.check_new.Goals as goal

pub check_new_to_any-requires-clause-sought : goal.check_new_to_any-requires-clause-sought
check_new_to_any-requires-clause-sought c =
    let airport = c.args.airport.now in
    let asked = c.args.wish.now.request in
    let to = has-target airport asked c.requires.sought in
    subst (CanBeSoughtAny airport asked) (sym (c.target_of.ensures to.0 to.1)) (one-sought airport asked to.0 to.1 c.requires.sought)

pub check_new_to_any-requires-clause-seeks : goal.check_new_to_any-requires-clause-seeks
check_new_to_any-requires-clause-seeks c =
    let airport = c.args.airport.now in
    let state = state_of c.args.held.now in
    let wish = c.args.wish.now in
    let to = has-target airport wish.request c.requires.sought in
    let s = sought_wish airport state wish in
    (s, subst (λ (nodes : List Node). SeeksNew airport state wish nodes s) (sym (c.target_of.ensures to.0 to.1)) (one-seeks airport state wish to.0 to.1))

pub returns-clause-told : goal.returns-clause-told
returns-clause-told c =
    let airport = c.args.airport.now in
    let state = state_of c.args.held.now in
    let wish = c.args.wish.now in
    let to = has-target airport wish.request c.requires.sought in
    let s = sought_wish airport state wish in
    c.check_new_to_any.ensures.told s (subst (λ (nodes : List Node). SeeksNew airport state wish nodes s) (sym (c.target_of.ensures to.0 to.1)) (one-seeks airport state wish to.0 to.1))
