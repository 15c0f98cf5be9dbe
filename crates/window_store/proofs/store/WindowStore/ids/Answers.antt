use Rattle.window_store.proofs.Rooms.{next-below}
use Rattle.window_store.proofs.Wholes.{IsStore-whole}
use Rattle.window_store.proofs.store.WindowStore.ids.Goals as goal

pub returns-clause-below : goal.returns-clause-below
returns-clause-below c = next-below _ c.self.invariant.0

pub returns-clause-store : goal.returns-clause-store
returns-clause-store c = rw (← c.self.view_is) (IsStore-whole c.self.inside.lists.items c.self.inside.ids.next c.self.inside.horizon c.self.invariant.0)
