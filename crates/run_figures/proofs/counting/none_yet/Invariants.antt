use Rattle.std.proofs.Common.{◌≡◌, ◌++◌, map}
use Rattle.std.specs.Prelude.{IsTrue, nat_le, length}
use Rattle.std.specs.List.{list_all}
use Rattle.taxi_text.specs.Lines.{lines_of, lines_left}
use Rattle.run_figures.specs.Tallies.{none_yet}
use Rattle.run_figures.proofs.counting.none_yet.Given as goal

abbrev pub invariant-loop-line : goal.invariant-loop-line
invariant-loop-line l =
    record {
      can : goal.iterator-loop-line.can_next l.line-iterator;
      finite : goal.iterator-loop-line.is_finite l.line-iterator;
      short : IsTrue (list_all (λ kind. nat_le (length kind) 64) (lines_left l.line-iterator));
      counts : l.counts.items ++ map none_yet (lines_left l.line-iterator) ≡ map none_yet (lines_of l.fn.kinds);
    }
