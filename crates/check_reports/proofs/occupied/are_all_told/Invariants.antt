use Rattle.std.proofs.Common.{All, take}
use Rattle.check_reports.specs.HeldRows.{IsTold}
use Rattle.check_reports.proofs.occupied.are_all_told.Given as goal

abbrev pub invariant-loop-segment : goal.invariant-loop-segment
invariant-loop-segment l = All (IsTold l.spans l.rows) (take l.segment-index l.segments)
