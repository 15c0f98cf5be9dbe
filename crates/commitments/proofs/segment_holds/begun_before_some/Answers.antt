-- Those before a step that begins before the second do too, and the others are in the part behind it.
use Rattle.std.proofs.Common.{◌≡◌, ◌+◌, ◌-◌, ◌<◌, ◌≤◌, length, get_or, drop, inl, inr, ap, subst, arith}
use Rattle.std.proofs.lemmas.Bool.{cases_lt}
use Rattle.std.proofs.lemmas.List.{take_rest, get_or-drop, get_or_default, length-drop}
use Rattle.commitments.specs.declared.segment_holds.HeldStep.{HeldStep}
use Rattle.commitments.proofs.segment_holds.begun_before_some.Goals as goal

pub returns-then-from-second-clause-before : goal.returns-then-from-second-clause-before
returns-then-from-second-clause-before c k d from low =
    let steps = c.args.steps.now in
    let n = c.saturating_sub-near.result in
    let some : n - 1 < length steps = omega (arith, c.if-near-gt0.true, c.saturating_sub-near.ensures) in
    elim (cases_lt k n) [
      | inl inside ↦
          let rising = c.requires k (n - 1) d (omega (arith, inside)) some in
          omega (arith, rising, ap (λ (held : HeldStep). held.step.enter) (get_or_default steps (n - 1) d c.index-steps-near.result some), c.if-from-second.true, c.from.ensures)
      | inr past ↦
          let behind = c.begun_before_by_halves.ensures.before (k - n) d (omega arith) (omega (arith, past, low)) in
          let here : n + (k - n) ≡ k = omega (arith, past) in
          subst (λ i. (get_or steps i d).step.enter < c.args.second) here (rw (take_rest steps n, get_or-drop n steps (k - n) d) at behind)
    ]

pub returns-then-from-second-clause-after : goal.returns-then-from-second-clause-after
returns-then-from-second-clause-after c k d from low =
    let steps = c.args.steps.now in
    let n = c.saturating_sub-near.result in
    let past : n ≤ k = omega (arith, from) in
    let ends : k - n < length (drop n steps) = omega (arith, past, low, length-drop n steps) in
    let after = rw (take_rest steps n, get_or-drop n steps (k - n) d) at (c.begun_before_by_halves.ensures.after (k - n) d (omega (arith, past, from)) (rw (take_rest steps n) ends)) in
    let here : n + (k - n) ≡ k = omega (arith, past) in
    subst (λ i. c.args.second ≤ (get_or steps i d).step.enter) here after
