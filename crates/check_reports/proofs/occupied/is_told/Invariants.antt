use Rattle.std.proofs.Common.{All, take}
use Rattle.std.specs.Prelude.{Contains}
use Rattle.held_spans.specs.Spans.{rows_at}
use Rattle.check_reports.specs.HeldRows.{row_on}
use Rattle.check_reports.proofs.occupied.is_told.Given as goal

abbrev pub invariant-loop-place : goal.invariant-loop-place
invariant-loop-place l = All (λ listed. Contains l.rows (row_on l.segment listed)) (take l.place (rows_at l.spans l.segment))
