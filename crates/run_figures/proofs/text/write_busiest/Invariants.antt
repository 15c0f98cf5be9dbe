use Rattle.std.proofs.Common.{◌≡◌, ◌++◌, map, take}
use Rattle.std.specs.Prelude.{flat_map}
use Rattle.run_figures.specs.Busy.{segment_in}
use Rattle.run_figures.specs.Figures.{busy_text}
use Rattle.run_figures.proofs.text.write_busiest.Given as goal

abbrev pub invariant-loop-seconds : goal.invariant-loop-seconds
invariant-loop-seconds l =
    l.out.items ≡ l.initial.out.items ++ flat_map (busy_text l.airport l.ledger.state) (map segment_in (take l.seconds-index l.rows))
