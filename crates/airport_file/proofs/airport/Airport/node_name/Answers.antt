-- The plan has the names.
use Rattle.std.proofs.Common.{◌∙◌, sym, ap, arith}
use Rattle.std.specs.Prelude.{slice_get}
use Rattle.std.proofs.lemmas.Option.{slice_get-map}
use Rattle.airport_rules.specs.Plan.{airport_of_plan}
use Rattle.airport_rules.proofs.AirportViews.{node_names, length-nodes}
use Rattle.airport_file.proofs.airport.Airport.node_name.Goals as goal

pub name-requires : goal.name-requires
name-requires c =
    let within = rw (← c.self.view_is) at c.requires in
    let same = length-nodes c.self.inside.horizon c.self.inside.plan c.self.invariant.sound.kinds in
    rw c.nodes.ensures (omega (arith, within, same))

pub returns : goal.returns
returns c =
    rw (← c.self.view_is)
    (sym (slice_get-map (λ x. x.name) (airport_of_plan c.self.inside.horizon c.self.inside.plan).nodes c.args.node.0)
    ∙ ap (λ xs. slice_get xs c.args.node.0) (node_names c.self.inside.horizon c.self.inside.plan c.self.invariant.sound.kinds ∙ sym c.nodes.ensures) ∙ c.name.ensures)
