use Rattle.std.proofs.Common.{◌≡◌, ◌*◌, ◌∷◌, [], map, sym, ap, arith, ◌∙◌}
use Rattle.airport_text.specs.Canonical.{numbers_below}
use Rattle.traffic_generator.specs.Places.{place_at}
use Rattle.traffic_generator.specs.Texts.{and_lines}
use Rattle.traffic_generator.specs.Grid.{node_record}
use Rattle.traffic_generator.proofs.TextLaws.{and_lines-none, number-line, map-map}
use Rattle.traffic_generator.proofs.airport.push_nodes.Goals as goal

pub loop-number-init : goal.loop-number-init
loop-number-init c = sym (and_lines-none 44 _)

pub loop-number-preserved : goal.loop-number-preserved
loop-number-preserved c =
    number-line 44 (λ k. node_record c.args.side (place_at c.args.side k)) c.loop-number.number _ _ _ c.loop-number.invariant
    (c.in_ok-push_node.ensures ∙ ap (λ p. and_lines 44 c.loop-number.text.items (node_record c.args.side p ∷ [])) c.place_at.ensures)

pub returns : goal.returns
returns c =
    let all : c.loop-number.number ≡ c.args.side * c.args.side = omega (arith, c.loop-number-test.false, c.loop-number.auto.number-end) in
    c.loop-number.invariant
    ∙ ap (λ n. and_lines 44 c.args.text.now.items (map (λ k. node_record c.args.side (place_at c.args.side k)) (numbers_below n))) all
    ∙ ap (and_lines 44 c.args.text.now.items) (sym (map-map (node_record c.args.side) (place_at c.args.side) (numbers_below (c.args.side * c.args.side))))
