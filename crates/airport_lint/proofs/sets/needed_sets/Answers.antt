use Rattle.std.proofs.Common.{◌≡◌, ◌+◌, ◌-◌, ◌<◌, ◌∙◌, length, ap, arith}
use Rattle.airport_lint.proofs.SetLaws.{marks_from, judged, marks-more}
use Rattle.airport_lint.proofs.sets.needed_sets.Goals as goal

pub loop-judged-preserved : goal.loop-judged-preserved
loop-judged-preserved c =
    let sets = c.args.sets.now in
    let low : c.loop-judged.judged < length sets = c.loop-judged-test.true in
    let at = length sets - 1 - c.loop-judged.judged in
    let before : length sets - c.loop-judged.judged ≡ at + 1 = omega (arith, low) in
    let after : at ≡ length sets - (c.loop-judged.judged + 1) = omega (arith, low) in
    c.judge.ensures ∙ ap (λ m. judged sets m at) (c.loop-judged.invariant ∙ ap (marks_from sets) before) ∙ marks-more sets at (omega (arith, low)) ∙ ap (marks_from sets) after
