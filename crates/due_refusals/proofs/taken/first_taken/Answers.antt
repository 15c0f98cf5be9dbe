use Rattle.std.proofs.Common.{sym, arith}
use Rattle.taxi_base.specs.Windows.{covers}
use Rattle.taxi_base.proofs.FaultLaws.{first_taken-at, first_taken-None}
use Rattle.due_refusals.proofs.taken.first_taken.Goals as goal

pub returns-then-first-span : goal.returns-then-first-span
returns-then-first-span c =
    let outside = c.first_outside-first.ensures in
    sym (first_taken-at (covers c.args.windows.now) c.args.span c.first_outside-first.result outside.on (omega (arith, c.if-first-span.true)) outside.outside outside.covered)

pub returns-else-first-span : goal.returns-else-first-span
returns-else-first-span c =
    let outside = c.first_outside-first.ensures in
    sym ((first_taken-None (covers c.args.windows.now) c.args.span).1 (λ t low high. outside.covered t low (omega (arith, high, c.if-first-span.false))))
