use Rattle.std.proofs.Common.{◌<◌, arith}
use Rattle.window_store.proofs.Counting.{counts-past}
use Rattle.window_store.proofs.step_counts.StepCounts.clear.Goals as goal

pub returns-in-Some-clause-none : goal.returns-in-Some-clause-none
returns-in-Some-clause-none c =
    let later : c.self.inside.round < c.in-Some.round = omega (arith, c.in-Some.ensures) in
    counts-past c.self.inside.round c.in-Some.round c.self.inside.counted.items later c.self.invariant
