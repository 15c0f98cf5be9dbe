use Rattle.std.proofs.Common.{◌≡◌, ◌∷◌, [], map, sym, ap, arith, ◌∙◌}
use Rattle.airport_text.specs.Canonical.{numbers_below}
use Rattle.traffic_generator.specs.Texts.{and_lines}
use Rattle.traffic_generator.specs.Grid.{segment_record, way_at}
use Rattle.traffic_generator.proofs.TextLaws.{and_lines-none, number-line}
use Rattle.traffic_generator.proofs.airport.push_segments.Goals as goal

pub loop-segment-init : goal.loop-segment-init
loop-segment-init c = sym (and_lines-none 44 _)

pub loop-segment-preserved : goal.loop-segment-preserved
loop-segment-preserved c =
    number-line 44 (λ s. segment_record (way_at c.args.side s)) c.loop-segment.segment _ _ _ c.loop-segment.invariant
    (c.in_ok-push_segment.ensures ∙ ap (λ w. and_lines 44 c.loop-segment.text.items (segment_record w ∷ [])) c.way_at.ensures)

pub returns : goal.returns
returns c =
    let all : c.loop-segment.segment ≡ c.segment_count-segment-end.result = omega (arith, c.loop-segment-test.false, c.loop-segment.auto.segment-end) in
    c.loop-segment.invariant
    ∙ ap (λ n. and_lines 44 c.args.text.now.items (map (λ s. segment_record (way_at c.args.side s)) (numbers_below n))) (all ∙ c.segment_count-segment-end.ensures)
