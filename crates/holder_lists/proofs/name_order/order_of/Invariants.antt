use Rattle.std.proofs.Common.{◌≡◌, ◌<◌, ◌^◌, ◌-◌, drop}
use Rattle.holder_lists.specs.NameOrder.{order_after}
use Rattle.holder_lists.proofs.name_order.order_of.Given as goal

abbrev pub invariant-loop-place : goal.invariant-loop-place
invariant-loop-place l = (order_after (16 - l.place) l.order (drop l.place l.bytes) ≡ order_after 16 0 l.bytes) × (l.order < 256 ^ l.place)
