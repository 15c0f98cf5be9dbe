use Rattle.std.proofs.Common.{◌≡◌, ◌++◌}
use Rattle.std.specs.Prelude.{flat_map}
use Rattle.std.specs.List.{range_with_len}
use Rattle.run_figures.specs.Figures.{class_text}
use Rattle.run_figures.proofs.text.write_kind.Given as goal

abbrev pub invariant-loop-number : goal.invariant-loop-number
invariant-loop-number l = l.out.items ≡ l.initial.out.items ++ flat_map (class_text l.airport l.ledger.state l.kind) (range_with_len 0 l.number)
