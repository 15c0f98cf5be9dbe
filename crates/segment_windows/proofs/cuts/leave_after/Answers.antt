use Rattle.std.proofs.Common.{refl}
use Rattle.segment_windows.proofs.CutLaws.{gap-some, set-parts}
use Rattle.segment_windows.proofs.cuts.leave_after.Goals as goal

pub returns-then-after : goal.returns-then-after
returns-then-after c = rw (gap-some c.args.after.from c.args.after.until c.if-after.true, set-parts c.args.windows.now.items c.args.place c.args.after c.requires) refl
