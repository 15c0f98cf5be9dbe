use Rattle.std.proofs.Common.{◌≡◌, ◌<◌, ◌∙◌, List, length, true, sym, subst, get_or}
use Rattle.std.specs.Prelude.{nat_lt}
use Rattle.std.proofs.lemmas.Bool.{ltb-true}
use Rattle.std.proofs.lemmas.List.{get_or_default}
use Rattle.commitments.specs.Held.{StepList, no_step}
use Rattle.commitments.specs.Taken.{has_second, IsFirstNamed}
use Rattle.commitments.proofs.hold_index.HoldIndex.first_holder.Goals as goal

pub returns-in-Some : goal.returns-in-Some
returns-in-Some c =
    let list : StepList = c.in-Some.list.now in
    let lookup = rw c.deref.ensures.value at c.in-Some.ensures.lookup in
    let found = subst (λ (lists : List StepList). (true ≡ nat_lt c.args.segment.0 (length lists)) × (list ≡ get_or lists c.args.segment.0 list)) c.self.view_is
    (lookup.0, lookup.1) in
    let low : c.args.segment.0 < length c.args.self.now = ltb-true _ _ (sym found.0) in
    subst (λ (l : StepList). IsFirstNamed (has_second c.args.airport.now c.args.second) l.steps c.first_holder.result)
    (found.1 ∙ get_or_default c.args.self.now c.args.segment.0 list no_step low) c.first_holder.ensures
