use Rattle.std.proofs.Common.{◌≡◌, ◌<◌, ◌∙◌, List, length, get_or, set, ap, subst}
use Rattle.std.proofs.lemmas.List.{get_or_default}
use Rattle.commitments.specs.Held.{StepList, no_step, all_steps}
use Rattle.commitments.proofs.Arranged.{steps-kept}
use Rattle.commitments.proofs.hold_index.HoldIndexRoomBeside.make_room.Goals as goal

pub returns-clause-kept : goal.returns-clause-kept
returns-clause-kept c =
    let items = c.self.inside.lists.items in
    let k = c.args.segment.0 in
    let low : k < length items = rw c.self.view_is c.requires.exists in
    let is : c.index_mut.result.now ≡ get_or items k no_step = c.index_mut.ensures.value ∙ get_or_default items k _ no_step low in
    subst (λ (lists : List StepList). all_steps (set items k c.make_room.new.self) ≡ all_steps lists) c.self.view_is
    (steps-kept items k c.make_room.new.self low (c.make_room.ensures.steps ∙ ap (λ (l : StepList). l.steps) is))
