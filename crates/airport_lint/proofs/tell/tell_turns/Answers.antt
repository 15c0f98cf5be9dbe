use Rattle.std.proofs.Common.{◌∙◌, not, get_or, ap₂}
use Rattle.taxi_base.specs.declared.numbers.Arc.{Arc}
use Rattle.taxi_base.specs.Airport.{segment_of}
use Rattle.airport_lint.specs.declared.advice.Advice.TheVariants.{IdleTurn}
use Rattle.airport_lint.specs.Advice.{turn_advice, is_shared}
use Rattle.airport_lint.proofs.TellLaws.{tells-item, tells-one, denied}
use Rattle.airport_lint.proofs.tell.tell_turns.Goals as goal

abbrev no_arc : Arc
no_arc = record { 0 = 0 }

pub loop-turn-preserved : goal.loop-turn-preserved
loop-turn-preserved c =
    let airport = c.args.airport.now in
    let turn = get_or c.args.turns.now c.loop-turn.turn-index (no_arc, no_arc) in
    tells-item airport turn_advice c.args.turns.now c.loop-turn.turn-index (no_arc, no_arc) c.args.told.now.items c.loop-turn.told.items c.tell_if.new.told.items c.loop-turn-test.true c.loop-turn.invariant
    (tells-one airport (IdleTurn turn.0 turn.1) (not c.is_shared-shared.result) c.loop-turn.told.items c.tell_if.new.told.items
    (denied c.is_shared-shared.result (is_shared airport (segment_of turn.0) (segment_of turn.1)) (c.is_shared-shared.ensures ∙ ap₂ (is_shared airport) c.segment.ensures c.segment-in-loop-turn.ensures)) c.in_ok-tell_if.ensures)
