use Rattle.std.proofs.Common.{sym, ap, ◌∙◌}
use Rattle.taxi_base.specs.declared.numbers.Arc.{Arc}
use Rattle.airport_text.specs.Canonical.{forbid_record}
use Rattle.airport_text.proofs.RecordLaws.{and_records-none, slice-more}
use Rattle.airport_text.proofs.SegmentLaws.{turn-segments}
use Rattle.airport_text.proofs.write.write_turns.Goals as goal

abbrev none : Arc × Arc
none = (record { 0 = 0 }, record { 0 = 0 })

pub loop-turn-init : goal.loop-turn-init
loop-turn-init c = sym (and_records-none _)

pub write_turn-requires-clause-from : goal.write_turn-requires-clause-from
write_turn-requires-clause-from c =
    (turn-segments c.args.airport.now _ c.loop-turn.turn-index _ c.requires (c.forbidden-turn-items.ensures ∙ ap (λ g. g.forbidden) c.graph.ensures) c.loop-turn-test.true).0

pub write_turn-requires-clause-to : goal.write_turn-requires-clause-to
write_turn-requires-clause-to c =
    (turn-segments c.args.airport.now _ c.loop-turn.turn-index _ c.requires (c.forbidden-turn-items.ensures ∙ ap (λ g. g.forbidden) c.graph.ensures) c.loop-turn-test.true).1

pub loop-turn-preserved : goal.loop-turn-preserved
loop-turn-preserved c =
    let turns = c.forbidden-turn-items.result.now in
    slice-more (forbid_record c.args.airport.now) c.args.airport.now.forbidden turns c.loop-turn.turn-index none _ _ _
    (c.forbidden-turn-items.ensures ∙ ap (λ g. g.forbidden) c.graph.ensures) c.loop-turn-test.true c.loop-turn.invariant c.in_ok-write_turn.ensures
