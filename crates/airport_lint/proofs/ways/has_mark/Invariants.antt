use Rattle.std.proofs.Common.{◌≡◌, false, get_or, take}
use Rattle.std.specs.List.{list_any}
use Rattle.airport_lint.proofs.ways.has_mark.Given as goal

abbrev pub invariant-loop-row : goal.invariant-loop-row
invariant-loop-row l = list_any (λ row. get_or row.items l.node.0 false) (take l.row-index l.rows) ≡ false
