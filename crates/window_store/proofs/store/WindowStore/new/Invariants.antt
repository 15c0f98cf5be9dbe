use Rattle.window_store.proofs.Fresh.{AreFresh}
use Rattle.window_store.proofs.store.WindowStore.new.Given as goal

abbrev pub invariant-loop : goal.invariant-loop
invariant-loop l = AreFresh l.horizon l.counter l.lists.items l.ids.next
