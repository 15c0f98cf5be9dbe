use Rattle.std.proofs.Common.{◌≡◌, map, take}
use Rattle.held_spans.specs.Rows.{SpanRows}
use Rattle.held_spans.proofs.spans.copied.Given as goal

abbrev pub invariant-loop-list : goal.invariant-loop-list
invariant-loop-list l = map (λ (list : SpanRows). list.rows) l.copies.items ≡ map (λ (list : SpanRows). list.rows) (take l.list-index l.lists)
