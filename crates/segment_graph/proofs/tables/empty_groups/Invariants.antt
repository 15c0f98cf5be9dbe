use Rattle.std.proofs.Common.{◌≡◌, [], length}
use Rattle.std.specs.Prelude.{All}
use Rattle.segment_graph.proofs.tables.empty_groups.Given as goal

abbrev pub invariant-loop : goal.invariant-loop
invariant-loop l = (length l.groups.items ≡ l.counter) × All (λ group. group.items ≡ []) l.groups.items
