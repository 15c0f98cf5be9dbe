use Rattle.std.proofs.Common.{arith}
use Rattle.check_rows.proofs.KnownLaws.{AreKnown-none, segments-are}
use Rattle.check_rows.proofs.known.KnownWindows.new.Goals as goal

pub returns : goal.returns
returns c free =
    let all = segments-are c.args.airport.now c.graph.result.now c.segments-end.result c.graph.ensures c.segments-end.ensures.count in
    AreKnown-none _ free _ (omega (arith, all, c.loop.invariant.count, c.loop.auto.counter-end, c.loop-test.false)) c.loop.invariant.none
