use Rattle.std.proofs.Common.{◌≤◌, length}
use Rattle.std.specs.List.{AllWithin}
use Rattle.held_spans.proofs.segment_spans.begun_before_from_last.Given as goal

abbrev pub invariant-loop-begun : goal.invariant-loop-begun
invariant-loop-begun l = (l.begun ≤ length l.spans) × AllWithin (λ span. l.second ≤ span.from) l.spans l.begun (length l.spans)

abbrev pub decreases-loop-begun : goal.decreases-loop-begun
decreases-loop-begun l = l.begun
