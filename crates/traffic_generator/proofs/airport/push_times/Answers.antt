use Rattle.std.proofs.Common.{◌≡◌, ℕ, ◌+◌, ◌∷◌, [], List, refl, sym, ap, arith, ◌∙◌}
use Rattle.std.specs.Prelude.{flat_map, codes, decimal}
use Rattle.airport_text.specs.Canonical.{Fields, numbers_below}
use Rattle.traffic_generator.specs.declared.places.Way.{Way}
use Rattle.traffic_generator.specs.Draws.{state_after, drawn}
use Rattle.traffic_generator.specs.Texts.{and_lines}
use Rattle.traffic_generator.specs.Grid.{time_records, way_at, way_name}
use Rattle.traffic_generator.proofs.DrawLaws.{state-first, state-more}
use Rattle.traffic_generator.proofs.TextLaws.{and_lines-none, lines-then, number-more}
use Rattle.traffic_generator.proofs.airport.push_times.Goals as goal

pub loop-segment-init : goal.loop-segment-init
loop-segment-init c = record { drawn = c.new-draws.ensures ∙ sym (state-first c.args.number); written = sym (and_lines-none 44 _) }

-- both records of a segment are those that are due
both-due : (number side segment state drawn_now : ℕ) (way : Way) → state ≡ state_after number (segment + 1) → drawn_now ≡ drawn state 41 → way ≡ way_at side segment
    → ◌≡◌ {A = List Fields} ((codes "seconds" ∷ way_name way ∷ codes "M" ∷ decimal (20 + drawn_now) ∷ []) ∷ (codes "seconds" ∷ way_name way ∷ codes "H" ∷ decimal (30 + drawn_now) ∷ []) ∷ [])
    (time_records number side segment)
both-due number side segment state drawn_now way s d w = rw (w, d, s) refl

pub loop-segment-preserved : goal.loop-segment-preserved
loop-segment-preserved c =
    let state : c.below-drawn.new.self.state ≡ state_after c.args.number (c.loop-segment.segment + 1) =
    state-more c.args.number c.loop-segment.segment _ _ _ c.loop-segment.invariant.drawn refl c.below-drawn.ensures.next in
    record {
      drawn = state;
      written =
          number-more 44 (time_records c.args.number c.args.side) c.loop-segment.segment _ _ _ c.loop-segment.invariant.written
          (lines-then 44 c.loop-segment.text.items _ _ (_ ∷ []) (_ ∷ []) c.in_ok-push_time.ensures c.in_ok-push_time-2.ensures
          ∙ ap (and_lines 44 c.loop-segment.text.items) (both-due c.args.number c.args.side c.loop-segment.segment _ _ _ state c.below-drawn.ensures.drawn c.way_at-way.ensures));
    }

pub returns : goal.returns
returns c =
    let all : c.loop-segment.segment ≡ c.segment_count-segment-end.result = omega (arith, c.loop-segment-test.false, c.loop-segment.auto.segment-end) in
    c.loop-segment.invariant.written
    ∙ ap (λ n. and_lines 44 c.args.text.now.items (flat_map (time_records c.args.number c.args.side) (numbers_below n))) (all ∙ c.segment_count-segment-end.ensures)
