use Rattle.std.proofs.Common.{All, take}
use Rattle.check_reports.specs.HeldRows.{IsRowDue}
use Rattle.check_reports.proofs.occupied.are_due.Given as goal

abbrev pub invariant-loop-row : goal.invariant-loop-row
invariant-loop-row l = All (IsRowDue l.airport l.spans l.segment) (take l.row-index l.rows)
