use Rattle.std.proofs.Common.{List, ap, subst}
use Rattle.commitments.specs.declared.segment_holds.HeldStep.{HeldStep}
use Rattle.commitments.specs.Held.{HeldBook}
use Rattle.commitments.specs.Others.{IsFreeUntil, is_left}
use Rattle.commitments.proofs.held_segments.HeldSegments.free_until.Goals as goal

pub returns : goal.returns
returns c =
    subst (λ (steps : List HeldStep). IsFreeUntil (is_left c.args.airport.now c.args.name.now c.args.segment steps) c.args.from c.args.limit c.free_until.result)
    (ap (λ (h : HeldBook). h.steps) c.self.view_is) c.free_until.ensures
