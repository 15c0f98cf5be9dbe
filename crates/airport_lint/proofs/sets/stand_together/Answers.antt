use Rattle.std.proofs.Common.{◌+◌, ◌∙◌, ◌&&◌, Bool, List, sym}
use Rattle.std.proofs.lemmas.Bool.{or_right, or_from}
use Rattle.taxi_base.specs.declared.numbers.Segment.{Segment}
use Rattle.taxi_base.specs.Airport.{has_member}
use Rattle.airport_lint.proofs.SetLaws.{marked-any, marked-front}
use Rattle.airport_lint.proofs.sets.stand_together.Goals as goal

abbrev both : Segment → Segment → List Segment → Bool
both one other set = has_member set one && has_member set other

pub returns-then-is_marked_with : goal.returns-then-is_marked_with
returns-then-is_marked_with c =
    let test = both c.args.one c.args.other in
    sym (marked-front test c.args.sets.now c.args.marks.now (c.loop-at.at + 1)
    (marked-any test c.args.sets.now c.args.marks.now c.loop-at.at c.loop-at-test.true c.requires ∙ or_right _ _ (sym c.is_marked_with.ensures ∙ c.if-is_marked_with.true)))

pub loop-at-preserved : goal.loop-at-preserved
loop-at-preserved c =
    marked-any (both c.args.one c.args.other) c.args.sets.now c.args.marks.now c.loop-at.at c.loop-at-test.true c.requires
    ∙ or_from _ _ c.loop-at.invariant (sym c.is_marked_with.ensures ∙ c.if-is_marked_with.false)
