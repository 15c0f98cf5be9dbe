use Rattle.std.proofs.Common.{◌≡◌, map, take}
use Rattle.checked_state.proofs.copies.copy_boxes.Given as goal

abbrev pub invariant-loop-flight : goal.invariant-loop-flight
invariant-loop-flight l = map (λ b. b.value) l.copies.items ≡ map (λ b. b.value) (take l.flight-index l.boxes)
