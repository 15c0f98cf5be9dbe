-- The plan has the names.
use Rattle.std.proofs.Common.{◌∙◌, sym, ap, arith}
use Rattle.std.specs.Prelude.{slice_get}
use Rattle.std.proofs.lemmas.Option.{slice_get-map}
use Rattle.airport_rules.specs.Plan.{airport_of_plan}
use Rattle.airport_rules.proofs.AirportViews.{class_names, length-classes}
use Rattle.airport_file.proofs.airport.Airport.class_name.Goals as goal

pub name-requires : goal.name-requires
name-requires c =
    let within = rw (← c.self.view_is) at c.requires in
    let same = length-classes c.self.inside.horizon c.self.inside.plan in
    rw c.classes.ensures (omega (arith, within, same))

pub returns : goal.returns
returns c =
    rw (← c.self.view_is)
    (sym (slice_get-map (λ x. x.name) (airport_of_plan c.self.inside.horizon c.self.inside.plan).classes c.args.class.0)
    ∙ ap (λ xs. slice_get xs c.args.class.0) (class_names c.self.inside.horizon c.self.inside.plan ∙ sym c.classes.ensures) ∙ c.name.ensures)
