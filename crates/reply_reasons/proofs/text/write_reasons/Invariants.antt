use Rattle.std.proofs.Common.{◌≡◌, take}
use Rattle.std.specs.Prelude.{flat_map}
use Rattle.reply_reasons.specs.Text.{reason_line}
use Rattle.reply_reasons.proofs.text.write_reasons.Given as goal

abbrev pub invariant-loop-reason : goal.invariant-loop-reason
invariant-loop-reason l = l.out.items ≡ flat_map (reason_line l.airport) (take l.reason-index l.reasons)
