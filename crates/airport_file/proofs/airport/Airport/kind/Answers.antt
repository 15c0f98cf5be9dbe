-- The plan has the kinds of the nodes.
use Rattle.std.proofs.Common.{◌<◌, ◌∙◌, sym, ap, length, arith}
use Rattle.std.specs.Prelude.{slice_get}
use Rattle.std.proofs.lemmas.Option.{slice_get-map, slice_get-get_or}
use Rattle.taxi_base.specs.declared.rows.Kind.TheVariants.{Runway}
use Rattle.airport_rules.specs.Plan.{airport_of_plan}
use Rattle.airport_rules.proofs.AirportViews.{node_kinds, length-nodes}
use Rattle.airport_file.proofs.airport.Airport.kind.Goals as goal

pub bounds-kinds-node : goal.bounds-kinds-node
bounds-kinds-node c =
    let within = rw (← c.self.view_is) at c.requires in
    let same = length-nodes c.self.inside.horizon c.self.inside.plan c.self.invariant.sound.kinds in
    rw c.kinds.ensures (omega (arith, within, same, c.self.invariant.sound.kinds))

pub returns : goal.returns
returns c =
    let within = rw (← c.self.view_is) at c.requires in
    let same = length-nodes c.self.inside.horizon c.self.inside.plan c.self.invariant.sound.kinds in
    let bound : c.args.node.0 < length c.kinds.result.now = rw c.kinds.ensures (omega (arith, within, same, c.self.invariant.sound.kinds)) in
    rw (← c.self.view_is)
    (sym (slice_get-map (λ n. n.kind) (airport_of_plan c.self.inside.horizon c.self.inside.plan).nodes c.args.node.0)
    ∙ ap (λ xs. slice_get xs c.args.node.0) (node_kinds c.self.inside.horizon c.self.inside.plan c.self.invariant.sound.kinds ∙ sym c.kinds.ensures)
    ∙ slice_get-get_or c.kinds.result.now c.args.node.0 Runway bound)
