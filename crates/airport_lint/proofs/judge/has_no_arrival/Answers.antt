use Rattle.std.proofs.Common.{◌<◌, ◌∙◌, All, length, not, sym, ap, subst}
use Rattle.std.specs.List.{list_any}
use Rattle.taxi_base.specs.declared.rows.Kind.TheVariants.{Runway, Stand}
use Rattle.class_ways.specs.declared.course.Course.TheVariants.{Onward, Back}
use Rattle.airport_lint.specs.Advice.{SomeComes}
use Rattle.airport_lint.proofs.JudgeLaws.{of-stand, of-runway}
use Rattle.airport_lint.proofs.ReachLaws.{marked_at, rows-wide, none-comes}
use Rattle.airport_lint.proofs.judge.has_no_arrival.Goals as goal

pub has_mark-requires : goal.has_mark-requires
has_mark-requires c =
    subst (All (λ row. c.args.node.0 < length row.items)) (sym c.as_slice.ensures.value)
    (rows-wide Onward Runway c.args.airport.now c.args.ways.now.from_runways.items c.args.node c.requires.ways.from_runways c.requires.node)

pub has_mark-requires-in-Runway : goal.has_mark-requires-in-Runway
has_mark-requires-in-Runway c =
    subst (All (λ row. c.args.node.0 < length row.items)) (sym c.as_slice-in-Runway.ensures.value)
    (rows-wide Back Stand c.args.airport.now c.args.ways.now.to_stands.items c.args.node c.requires.ways.to_stands c.requires.node)

pub returns-in-Stand : goal.returns-in-Stand
returns-in-Stand c =
    of-stand c.args.airport.now c.args.node (not c.has_mark.result) c.kind.result (SomeComes Onward Runway c.args.airport.now c.args.node → ⊥) (SomeComes Back Stand c.args.airport.now c.args.node → ⊥)
    c.kind.ensures c.in-Stand.is
    (none-comes Onward Runway c.args.airport.now c.args.ways.now.from_runways.items c.args.node c.has_mark.result c.requires.ways.from_runways c.requires.node
    (c.has_mark.ensures ∙ ap (list_any (marked_at c.args.node)) c.as_slice.ensures.value))

pub returns-in-Runway : goal.returns-in-Runway
returns-in-Runway c =
    of-runway c.args.airport.now c.args.node (not c.has_mark-in-Runway.result) c.kind.result (SomeComes Onward Runway c.args.airport.now c.args.node → ⊥) (SomeComes Back Stand c.args.airport.now c.args.node → ⊥)
    c.kind.ensures c.in-Runway.is
    (none-comes Back Stand c.args.airport.now c.args.ways.now.to_stands.items c.args.node c.has_mark-in-Runway.result c.requires.ways.to_stands c.requires.node
    (c.has_mark-in-Runway.ensures ∙ ap (list_any (marked_at c.args.node)) c.as_slice-in-Runway.ensures.value))
