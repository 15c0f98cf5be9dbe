use Rattle.std.proofs.Common.{◌≡◌, ◌++◌, map, take}
use Rattle.std.specs.Prelude.{filter}
use Rattle.reply_reasons.specs.Taken.{shares, held_reason}
use Rattle.reply_reasons.proofs.taken.push_held.Given as goal

abbrev pub invariant-loop-row : goal.invariant-loop-row
invariant-loop-row l = l.reasons ≡ l.initial.reasons ++ map held_reason (filter (shares l.span) (take l.row-index l.rows))
