use Rattle.std.proofs.Common.{◌≡◌, ◌<◌, ◌∷◌, ◌∙◌, List, length, get_or, set, sym, ap, subst}
use Rattle.std.specs.Prelude.{Contains}
use Rattle.std.specs.List.Sorted.{IsPermutation}
use Rattle.std.proofs.lemmas.List.{get_or_default}
use Rattle.std.proofs.lemmas.List.Elements.{All-tail}
use Rattle.std.proofs.lemmas.List.Sorted.{All-permutation}
use Rattle.taxi_base.specs.declared.numbers.Segment.{Segment}
use Rattle.taxi_base.specs.Airport.{segment_of}
use Rattle.commitments.specs.declared.segment_holds.HeldStep.{HeldStep}
use Rattle.commitments.specs.Held.{StepList, no_step, list_of, all_steps, AreAsMany, KeepsHoldRoom}
use Rattle.commitments.proofs.Arranged.{removed, by_segment-set, there-in_list, room-set}
use Rattle.commitments.proofs.hold_index.HoldIndex.remove_one.Goals as goal

pub remove-requires : goal.remove-requires
remove-requires c =
    let items = c.self.inside.lists.items in
    let k = c.segment.result.0 in
    let low : k < length items = rw (c.segment.ensures, c.self.view_is) c.requires.segment in
    let is : c.index_mut.result.now ≡ get_or items k no_step = c.index_mut.ensures.value ∙ get_or_default items k _ no_step low in
    let there = subst (λ (lists : List StepList). Contains (all_steps lists) c.args.held) (sym c.self.view_is) c.requires.there in
    subst (λ (l : StepList). Contains l.steps c.args.held) (sym is)
    (subst (λ (s : Segment). Contains (list_of items s).steps c.args.held) (sym c.segment.ensures) (there-in_list items c.args.held c.self.invariant there))

pub invariant_of-self : goal.invariant_of-self
invariant_of-self c =
    let items = c.self.inside.lists.items in
    let k = c.segment.result.0 in
    let low : k < length items = rw (c.segment.ensures, c.self.view_is) c.requires.segment in
    let is : c.index_mut.result.now ≡ get_or items k no_step = c.index_mut.ensures.value ∙ get_or_default items k _ no_step low in
    let moved = subst (λ (l : StepList). IsPermutation l.steps (c.args.held ∷ c.remove.new.self.steps)) is c.remove.ensures.steps in
    let segment : Segment = record { 0 = k } in
    by_segment-set items k low c.remove.new.self
    (All-tail (λ (held : HeldStep). segment_of held.step.arc ≡ segment) c.args.held c.remove.new.self.steps
    (All-permutation (λ (held : HeldStep). segment_of held.step.arc ≡ segment) _ _ moved (c.self.invariant segment low)))
    c.self.invariant

pub returns-clause-steps : goal.returns-clause-steps
returns-clause-steps c =
    let items = c.self.inside.lists.items in
    let k = c.segment.result.0 in
    let low : k < length items = rw (c.segment.ensures, c.self.view_is) c.requires.segment in
    let is : c.index_mut.result.now ≡ get_or items k no_step = c.index_mut.ensures.value ∙ get_or_default items k _ no_step low in
    let moved = subst (λ (l : StepList). IsPermutation l.steps (c.args.held ∷ c.remove.new.self.steps)) is c.remove.ensures.steps in
    subst (λ (lists : List StepList). AreAsMany (all_steps lists) (c.args.held ∷ all_steps (set items k c.remove.new.self))) c.self.view_is
    (removed items k low c.args.held c.remove.new.self moved)

pub returns-clause-capacity : goal.returns-clause-capacity
returns-clause-capacity c =
    let items = c.self.inside.lists.items in
    let k = c.segment.result.0 in
    let low : k < length items = rw (c.segment.ensures, c.self.view_is) c.requires.segment in
    let is : c.index_mut.result.now ≡ get_or items k no_step = c.index_mut.ensures.value ∙ get_or_default items k _ no_step low in
    subst (λ (lists : List StepList). KeepsHoldRoom lists (set items k c.remove.new.self)) c.self.view_is
    (room-set items k low c.remove.new.self (c.remove.ensures.capacity ∙ ap (λ (l : StepList). l.capacity) is))
