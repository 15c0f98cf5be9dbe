use Rattle.std.proofs.Common.{arith}
use Rattle.segment_windows.proofs.JoinLaws.{joined-apart, given-back, given-none}
use Rattle.segment_windows.proofs.giving.give_back.Goals as goal

pub returns-then-span : goal.returns-then-span
returns-then-span g c = given-none c.args.conflicts.now.sets (g.H.HoldsOf.held c.args.holds.now) c.args.segment c.args.span c.args.windows.now.items c.if-span.true c.requires.apart

pub cut_all-requires : goal.cut_all-requires
cut_all-requires g c = rw c.in_ok-join_span.ensures (joined-apart c.args.span 0 c.args.windows.now.items c.if-span.false (omega arith) c.requires.apart)

pub returns : goal.returns
returns g c =
    given-back c.args.conflicts.now.sets (g.H.HoldsOf.held c.args.holds.now) c.args.segment c.args.span c.of.result.now c.args.windows.now.items c.join_span.new.windows.items c.cut_all.new.windows.items
    c.of.ensures.all c.if-span.false c.requires.apart c.in_ok-join_span.ensures c.in_ok-cut_all.ensures
