use Rattle.segment_windows.proofs.CutLaws.{cut-is, cut-empty}
use Rattle.segment_windows.proofs.cuts.cut_windows.Goals as goal

pub returns-then-span : goal.returns-then-span
returns-then-span c = cut-empty c.args.span c.args.windows.now.items c.if-span.true c.requires

pub returns : goal.returns
returns c = cut-is c.args.span c.args.windows.now.items c.cut_some_time.new.windows.items c.if-span.false c.requires c.in_ok-cut_some_time.ensures
