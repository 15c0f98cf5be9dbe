use Rattle.std.proofs.Common.{◌≡◌, ◌+◌, ◌≤◌, true, ◌∷◌, insert, subst, arith, rules}
use Rattle.std.specs.Result.{is_ok}
use Rattle.std.specs.List.Sorted.{IsPermutation}
use Rattle.std.proofs.lemmas.List.Elements.{All-weaker}
use Rattle.std.proofs.lemmas.List.Sorted.{IsPermutation-insert, IsNonDecreasingBy-insert}
use Rattle.commitments.specs.declared.segment_holds.HeldStep.{HeldStep}
use Rattle.commitments.specs.Held.{StepList}
use Rattle.commitments.proofs.segment_holds.SegmentHolds.insert.Goals as goal
use Rattle.taxi_base.proofs.ListLaws.{All-insert}

pub returns-clause-steps : goal.returns-clause-steps
returns-clause-steps c =
    let good : is_ok c.insert.result ≡ true = search rules in
    let items = rw good at c.insert.ensures.items in
    rw items (subst (λ (l : StepList). IsPermutation (c.args.held ∷ l.steps) (insert c.self.inside.steps.items c.place_for-place.result c.args.held)) c.self.view_is
    (IsPermutation-insert c.self.inside.steps.items c.place_for-place.result c.args.held))

pub invariant_of-self : goal.invariant_of-self
invariant_of-self c =
    let good : is_ok c.insert.result ≡ true = search rules in
    let items = rw good at c.insert.ensures.items in
    let steps = c.self.inside.steps.items in
    let few = rw c.deref.ensures.value at c.place_for-place.ensures.few in
    let before = rw c.deref.ensures.value at c.place_for-place.ensures.before in
    let after = rw c.deref.ensures.value at c.place_for-place.ensures.after in
    let longest = c.max-self-inside.result in
    rw items (
      IsNonDecreasingBy-insert (λ (held : HeldStep). held.step.enter) steps c.place_for-place.result c.args.held c.self.invariant.0 few
          (λ k d below. omega (arith, before k d (omega arith) below)) (λ k d from on. after k d from on),
      All-insert (λ (s : HeldStep). s.step.leave + 600 ≤ s.step.enter + longest) steps c.place_for-place.result c.args.held (omega (arith, c.max-self-inside.ensures, c.saturating_sub.ensures, c.from-reach.ensures, c.from.ensures))
          (All-weaker (λ (s : HeldStep). s.step.leave + 600 ≤ s.step.enter + c.self.inside.longest) (λ (s : HeldStep). s.step.leave + 600 ≤ s.step.enter + longest) (λ s h. omega (arith, h, c.max-self-inside.ensures)) steps c.self.invariant.1),
    )
