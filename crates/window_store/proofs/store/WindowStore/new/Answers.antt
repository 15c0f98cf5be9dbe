use Rattle.std.proofs.Common.{[], arith}
use Rattle.window_store.specs.Store.{no_list}
use Rattle.window_store.proofs.Fresh.{AreFresh-none, AreFresh-push, fresh-store, fresh-room, fresh-stands}
use Rattle.window_store.proofs.Wholes.{ends-standing}
use Rattle.window_store.proofs.store.WindowStore.new.Goals as goal

pub loop-init : goal.loop-init
loop-init c = rw c.new-lists.ensures.items (AreFresh-none c.args.horizon)

pub new-requires-clause-fits : goal.new-requires-clause-fits
new-requires-clause-fits c = omega (arith, c.loop.invariant.numbered, c.loop.auto.counter-end)

pub loop-preserved : goal.loop-preserved
loop-preserved c =
    rw c.in_ok-push.ensures.items
    (AreFresh-push c.args.horizon c.loop.counter c.loop.lists.items c.loop.ids.next c.new.new.ids.next c.in_ok-new.field-0 c.loop.invariant c.in_ok-new.ensures.next c.in_ok-new.ensures.owned
    c.in_ok-new.ensures.nodes c.in_ok-new.ensures.stands)

pub invariant_of-result : goal.invariant_of-result
invariant_of-result c = (
  fresh-store c.args.horizon c.loop.counter c.loop.lists.items c.loop.ids.next c.loop.invariant (omega (arith, c.loop.auto.counter-end, c.requires.segments)),
  fresh-room c.args.horizon c.loop.counter c.loop.lists.items c.loop.ids.next c.loop.invariant,
  ends-standing [] c.args.horizon [] c.loop.lists.items (fresh-stands [] c.args.horizon c.loop.counter c.loop.lists.items c.loop.ids.next c.loop.invariant),
  omega (arith, c.in_ok-new-2.ensures, c.loop.invariant.count, c.loop.auto.counter-end, c.loop-test.false),
)

pub returns-clause-segments : goal.returns-clause-segments
returns-clause-segments c = omega (arith, c.loop.invariant.count, c.loop.auto.counter-end)

pub returns-clause-stands : goal.returns-clause-stands
returns-clause-stands c sets = fresh-stands sets c.args.horizon c.loop.counter c.loop.lists.items c.loop.ids.next c.loop.invariant

pub returns-clause-nodes : goal.returns-clause-nodes
returns-clause-nodes c segment low = c.loop.invariant.each segment.0 no_list low
