use Rattle.std.proofs.Common.{◌≡◌, refl, sym, arith, ap, ◌∙◌}
use Rattle.traffic_generator.specs.Draws.{state_after}
use Rattle.traffic_generator.proofs.DrawLaws.{state-first, state-more}
use Rattle.traffic_generator.proofs.commands.draws_after_segments.Goals as goal

pub loop-init : goal.loop-init
loop-init c = c.new-draws.ensures ∙ sym (state-first c.args.number)

pub loop-preserved : goal.loop-preserved
loop-preserved c = state-more c.args.number c.loop.counter _ _ _ c.loop.invariant refl c.below.ensures.next

pub returns : goal.returns
returns c =
    let all : c.loop.counter ≡ c.segment_count-end.result = omega (arith, c.loop-test.false, c.loop.auto.counter-end) in
    c.loop.invariant ∙ ap (state_after c.args.number) (all ∙ c.segment_count-end.ensures)
