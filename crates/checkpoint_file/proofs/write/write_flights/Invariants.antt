use Rattle.std.proofs.Common.{◌≡◌, ◌++◌, take}
use Rattle.std.specs.Prelude.{flat_map}
use Rattle.replies.specs.Texts.{lines_text}
use Rattle.checkpoint_file.specs.Lines.{flight_lines}
use Rattle.checkpoint_file.proofs.write.write_flights.Given as goal

abbrev pub invariant-loop-place : goal.invariant-loop-place
invariant-loop-place l = l.out.items ≡ l.initial.out.items ++ flat_map (λ flight. lines_text (flight_lines l.airport flight)) (take l.place l.ledger.state.flights)
