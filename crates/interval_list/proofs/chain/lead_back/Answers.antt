use Rattle.std.proofs.Common.{sym, arith}
use Rattle.interval_list.proofs.Linked.{last_leading-end, last_leading-inside}
use Rattle.interval_list.proofs.chain.lead_back.Goals as goal

pub returns-then-i-len-clause-last : goal.returns-then-i-len-clause-last
returns-then-i-len-clause-last c = sym (last_leading-end c.args.nodes.now.cells c.args.last.now.at c.args.i c.args.to.at (omega (arith, c.requires.0, c.if-i-len.true)))

pub returns-clause-last : goal.returns-clause-last
returns-clause-last c = sym (last_leading-inside c.args.nodes.now.cells c.args.last.now.at c.args.i c.args.to.at (omega (arith, c.requires.0, c.requires.1, c.if-i-len.false)))
