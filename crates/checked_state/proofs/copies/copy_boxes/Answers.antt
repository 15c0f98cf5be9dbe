use Rattle.std.proofs.Common.{◌∙◌, List, Box, Global, map, ap}
use Rattle.std.proofs.lemmas.List.{take_all}
use Rattle.taxi_base.specs.declared.answers.Flight.{Flight}
use Rattle.held_spans.proofs.LoopLaws.{read-more}
use Rattle.checked_state.proofs.copies.copy_boxes.Goals as goal

pub loop-flight-preserved : goal.loop-flight-preserved
loop-flight-preserved c =
    let at = c.loop-flight in
    ap (λ (boxes : List (Box Flight Global)). map (λ b. b.value) boxes) c.in_ok-push.ensures.items
    ∙ read-more (λ (b : Box Flight Global). b.value) c.args.boxes.now at.copies.items at.flight-index c.flight-item.result c.in_ok-boxed.boxed c.loop-flight-test.true c.flight-item.is
    (c.in_ok-boxed.ensures.ok ∙ c.in_ok-copy.ensures ∙ c.deref.ensures) at.invariant

pub returns : goal.returns
returns c =
    let at = c.loop-flight in
    at.invariant ∙ ap (λ (boxes : List (Box Flight Global)). map (λ b. b.value) boxes) (take_all at.flight-index c.args.boxes.now c.loop-flight-test.false)
