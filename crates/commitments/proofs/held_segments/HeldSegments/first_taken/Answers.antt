use Rattle.std.proofs.Common.{◌≡◌, List, IsFalse, Some, ap, subst, arith}
use Rattle.commitments.specs.declared.segment_holds.HeldStep.{HeldStep}
use Rattle.commitments.specs.Held.{HeldBook, all_steps}
use Rattle.commitments.specs.Taken.{takes, is_taken, IsFirstNamed}
use Rattle.commitments.proofs.Conflicts.{untaken-before, taken-at}
use Rattle.commitments.proofs.TakenCause.{taken-named}
use Rattle.commitments.proofs.held_segments.HeldSegments.first_taken.Goals as goal

pub returns-then-span-at : goal.returns-then-span-at
returns-then-span-at c =
    let steps = all_steps c.self.inside.index in
    let first = rw c.conflicts.ensures at c.first_held-at.ensures in
    λ u low high. subst (λ (held : List HeldStep). IsFalse (is_taken c.args.airport.now c.args.segment held u)) (ap (λ (h : HeldBook). h.steps) c.self.view_is)
    (untaken-before c.args.airport.now c.args.segment steps c.args.span.from c.args.span.until c.first_held-at.result first u low (omega (arith, high, c.if-span-at.true)))

pub returns-in_err-by : goal.returns-in_err-by
returns-in_err-by c =
    let steps = all_steps c.self.inside.index in
    let first = rw c.conflicts.ensures at c.first_held-at.ensures in
    absurd (taken-named c.args.airport.now c.args.segment steps c.first_held-at.result
    (taken-at c.args.airport.now c.args.segment steps c.args.span.from c.args.span.until c.first_held-at.result first c.if-span-at.false) c.in_err-by.ensures)

pub returns : goal.returns
returns c =
    let steps = all_steps c.self.inside.index in
    let first = rw c.conflicts.ensures at c.first_held-at.ensures in
    let view : steps ≡ c.args.self.now.steps = ap (λ (h : HeldBook). h.steps) c.self.view_is in (
      c.first_held-at.ensures.not_before,
      c.if-span-at.false,
      subst (λ (held : List HeldStep). IsFirstNamed (takes c.args.airport.now c.args.segment c.first_held-at.result) held (Some c.in_ok-by.by)) view c.in_ok-by.ensures,
      λ u low high. subst (λ (held : List HeldStep). IsFalse (is_taken c.args.airport.now c.args.segment held u)) view
          (untaken-before c.args.airport.now c.args.segment steps c.args.span.from c.args.span.until c.first_held-at.result first u low high),
    )
