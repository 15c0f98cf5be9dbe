use Rattle.std.proofs.Common.{◌≡◌, ◌<◌, ◌+◌, ◌∷◌, ◌∙◌, List, length, get_or, set, cond, eqb, sym, ap, subst, arith}
use Rattle.std.specs.List.Sorted.{IsPermutation}
use Rattle.std.proofs.lemmas.List.{get_or_default}
use Rattle.std.proofs.lemmas.List.Elements.{All-cons}
use Rattle.std.proofs.lemmas.List.Sorted.{All-permutation, length_permutation}
use Rattle.taxi_base.specs.declared.numbers.Segment.{Segment}
use Rattle.taxi_base.specs.Airport.{segment_of}
use Rattle.commitments.specs.declared.segment_holds.HeldStep.{HeldStep}
use Rattle.commitments.specs.Held.{StepList, no_step, list_of, all_steps, AreAsMany, KeepsHoldRoom}
use Rattle.commitments.proofs.Arranged.{inserted, by_segment-set, lengths-inserted, room-set}
use Rattle.commitments.proofs.hold_index.HoldIndex.insert_one.Goals as goal

pub invariant_of-self : goal.invariant_of-self
invariant_of-self c =
    let items = c.self.inside.lists.items in
    let k = c.segment.result.0 in
    let low : k < length items = rw (c.segment.ensures, c.self.view_is) c.requires.segment in
    let is : c.index_mut.result.now ≡ get_or items k no_step = c.index_mut.ensures.value ∙ get_or_default items k _ no_step low in
    let moved = subst (λ (l : StepList). IsPermutation (c.args.held ∷ l.steps) c.insert.new.self.steps) is c.insert.ensures.steps in
    let segment : Segment = record { 0 = k } in
    by_segment-set items k low c.insert.new.self
    (All-permutation (λ (held : HeldStep). segment_of held.step.arc ≡ segment) _ _ moved
    (All-cons (λ (held : HeldStep). segment_of held.step.arc ≡ segment) c.args.held (get_or items k no_step).steps (sym c.segment.ensures) (c.self.invariant segment low)))
    c.self.invariant

pub returns-clause-steps : goal.returns-clause-steps
returns-clause-steps c =
    let items = c.self.inside.lists.items in
    let k = c.segment.result.0 in
    let low : k < length items = rw (c.segment.ensures, c.self.view_is) c.requires.segment in
    let is : c.index_mut.result.now ≡ get_or items k no_step = c.index_mut.ensures.value ∙ get_or_default items k _ no_step low in
    let moved = subst (λ (l : StepList). IsPermutation (c.args.held ∷ l.steps) c.insert.new.self.steps) is c.insert.ensures.steps in
    subst (λ (lists : List StepList). AreAsMany (c.args.held ∷ all_steps lists) (all_steps (set items k c.insert.new.self))) c.self.view_is
    (inserted items k low c.args.held c.insert.new.self moved)

pub returns-clause-lengths : goal.returns-clause-lengths
returns-clause-lengths c s =
    let items = c.self.inside.lists.items in
    let k = c.segment.result.0 in
    let low : k < length items = rw (c.segment.ensures, c.self.view_is) c.requires.segment in
    let is : c.index_mut.result.now ≡ get_or items k no_step = c.index_mut.ensures.value ∙ get_or_default items k _ no_step low in
    let moved = subst (λ (l : StepList). IsPermutation (c.args.held ∷ l.steps) c.insert.new.self.steps) is c.insert.ensures.steps in
    let at : k ≡ (segment_of c.args.held.step.arc).0 = ap (λ (s : Segment). s.0) c.segment.ensures in
    subst (λ (lists : List StepList). length (list_of (set items k c.insert.new.self) s).steps ≡ length (list_of lists s).steps + cond (eqb (segment_of c.args.held.step.arc).0 s.0) 1 0) c.self.view_is
    (rw (sym at) (lengths-inserted items k low c.insert.new.self (omega (arith, length_permutation _ _ moved)) s))

pub returns-clause-capacity : goal.returns-clause-capacity
returns-clause-capacity c =
    let items = c.self.inside.lists.items in
    let k = c.segment.result.0 in
    let low : k < length items = rw (c.segment.ensures, c.self.view_is) c.requires.segment in
    let is : c.index_mut.result.now ≡ get_or items k no_step = c.index_mut.ensures.value ∙ get_or_default items k _ no_step low in
    subst (λ (lists : List StepList). KeepsHoldRoom lists (set items k c.insert.new.self)) c.self.view_is
    (room-set items k low c.insert.new.self (c.insert.ensures.capacity ∙ ap (λ (l : StepList). l.capacity) is))
