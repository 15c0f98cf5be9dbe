use Rattle.std.proofs.Common.{◌≡◌, ◌<◌, Some}
use Rattle.label_core.proofs.PickedWalks.{picked_is_walk, picked_ends}
use Rattle.label_core.proofs.forward.picked_steps_are_a_walk.Goals as goal

pub returns : goal.returns
returns g c net starts order row x v t steps picked le in_time = (
  picked_is_walk net starts (λ y z. order y < order z) (λ y u. row y ≡ Some u) picked le in_time,
  picked_ends net starts (λ y z. order y < order z) (λ y u. row y ≡ Some u) picked,
)
