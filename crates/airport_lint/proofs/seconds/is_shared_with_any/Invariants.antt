use Rattle.std.proofs.Common.{◌≡◌, false, take}
use Rattle.std.specs.List.{list_any}
use Rattle.taxi_base.specs.Airport.{segment_of}
use Rattle.airport_lint.specs.Advice.{is_shared}
use Rattle.airport_lint.proofs.seconds.is_shared_with_any.Given as goal

abbrev pub invariant-loop-arc : goal.invariant-loop-arc
invariant-loop-arc l = list_any (λ arc. is_shared l.airport l.one (segment_of arc)) (take l.arc-index l.arcs) ≡ false
