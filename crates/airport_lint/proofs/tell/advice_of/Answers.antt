use Rattle.std.proofs.Common.{◌∙◌, ◌+◌, ◌++◌, length, ap, subst}
use Rattle.std.specs.Prelude.{flat_map}
use Rattle.airport_lint.specs.Advice.{below, class_advice, segment_advice, node_advice, arc_advice, turn_advice, set_advice, all_advice, Tells}
use Rattle.airport_lint.proofs.TellLaws.{tells-both, tells-first}
use Rattle.airport_lint.proofs.tell.advice_of.Goals as goal

pub returns : goal.returns
returns c =
    let a = c.args.airport.now in
    let sets = below (length a.conflicts) (set_advice a.conflicts) in
    let turns = flat_map turn_advice a.forbidden in
    let arcs = below (length a.segments + length a.segments) arc_advice in
    let nodes = below (length a.nodes) node_advice in
    let segments = below (length a.segments) segment_advice in
    let idle = subst (λ ts. Tells a (flat_map turn_advice ts) c.tell_arcs.new.told.items c.tell_turns.new.told.items) (c.forbidden.ensures ∙ ap (λ l. l.forbidden) c.graph.ensures) c.in_ok-tell_turns.ensures in
    tells-first a (all_advice a) _ c.tell_sets.new.told.items c.new-told.ensures.items
    (tells-both a (below (length a.classes) class_advice) (segments ++ (nodes ++ (arcs ++ (turns ++ sets)))) _ _ _ c.in_ok-tell_classes.ensures
    (tells-both a segments (nodes ++ (arcs ++ (turns ++ sets))) _ _ _ c.in_ok-tell_segments.ensures
    (tells-both a nodes (arcs ++ (turns ++ sets)) _ _ _ c.in_ok-tell_nodes.ensures
    (tells-both a arcs (turns ++ sets) _ _ _ c.in_ok-tell_arcs.ensures
    (tells-both a turns sets _ _ _ idle c.in_ok-tell_sets.ensures)))))
