use Rattle.window_store.proofs.Standing.{StandsFor-same}
use Rattle.window_store.proofs.laws.stores_stand_for_holds_in_any_order.Goals as goal

pub returns : goal.returns
returns c = StandsFor-same
