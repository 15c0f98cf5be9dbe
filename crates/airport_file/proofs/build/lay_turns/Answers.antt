-- Each forbidden turn is between arcs that there are.
use Rattle.std.proofs.Common.{◌∙◌, refl, sym, ap, subst, get_or}
use Rattle.std.specs.Prelude.{All, IsTrue}
use Rattle.std.proofs.lemmas.List.{take_more}
use Rattle.taxi_base.specs.declared.numbers.Arc.{Arc}
use Rattle.taxi_base.specs.Airport.{Layout}
use Rattle.airport_rules.specs.Plan.{layout_of_plan}
use Rattle.airport_rules.specs.Rules.{goes_on}
use Rattle.airport_file.proofs.BuildLaws.{arcs-exist, arc_exists-links}
use Rattle.airport_file.proofs.build.lay_turns.Goals as goal

abbrev none : Arc × Arc
none = (record { 0 = 0 }, record { 0 = 0 })

abbrev GoOn : Layout → Arc × Arc → Type 0
GoOn layout p = IsTrue (goes_on layout p.0 p.1)

pub forbid-requires-clause-from : goal.forbid-requires-clause-from
forbid-requires-clause-from c =
    let layout : Layout = layout_of_plan c.args.plan.now in
    let turns = c.deref-turn-items.result.now in
    let turn : Arc × Arc = get_or turns c.loop-turn.turn-index none in
    let all : All (GoOn layout) turns = subst (All (GoOn layout)) (sym (c.deref-turn-items.ensures.value ∙ c.in_ok-turns.ensures)) c.requires.sound.forbidden in
    arc_exists-links c.loop-turn.builder layout turn.0 (ap (λ (l : Layout). l.links) c.loop-turn.invariant) ∙ (arcs-exist layout turn.0 turn.1 (all c.loop-turn.turn-index none c.loop-turn-test.true)).0

pub forbid-requires-clause-to : goal.forbid-requires-clause-to
forbid-requires-clause-to c =
    let layout : Layout = layout_of_plan c.args.plan.now in
    let turns = c.deref-turn-items.result.now in
    let turn : Arc × Arc = get_or turns c.loop-turn.turn-index none in
    let all : All (GoOn layout) turns = subst (All (GoOn layout)) (sym (c.deref-turn-items.ensures.value ∙ c.in_ok-turns.ensures)) c.requires.sound.forbidden in
    arc_exists-links c.loop-turn.builder layout turn.1 (ap (λ (l : Layout). l.links) c.loop-turn.invariant) ∙ (arcs-exist layout turn.0 turn.1 (all c.loop-turn.turn-index none c.loop-turn-test.true)).1

pub loop-turn-preserved : goal.loop-turn-preserved
loop-turn-preserved c =
    rw (take_more c.deref-turn-items.result.now c.loop-turn.turn-index none c.loop-turn-test.true, c.in_ok-forbid.ensures.ok, c.loop-turn.invariant) refl
