use Rattle.std.proofs.Common.{◌<◌, ◌∙◌, All, length, sym, ap, subst}
use Rattle.std.specs.List.{list_any}
use Rattle.taxi_base.specs.declared.rows.Kind.TheVariants.{Runway, Stand}
use Rattle.class_ways.specs.declared.course.Course.TheVariants.{Onward}
use Rattle.airport_lint.specs.Advice.{SomeComes}
use Rattle.airport_lint.proofs.JudgeLaws.{of-junction}
use Rattle.airport_lint.proofs.ReachLaws.{marked_at, rows-wide, none-comes}
use Rattle.airport_lint.proofs.judge.is_unused.Goals as goal

pub has_mark-from_runways-requires : goal.has_mark-from_runways-requires
has_mark-from_runways-requires c =
    subst (All (λ row. c.args.node.0 < length row.items)) (sym c.as_slice.ensures.value)
    (rows-wide Onward Runway c.args.airport.now c.args.ways.now.from_runways.items c.args.node c.requires.ways.from_runways c.requires.node)

pub has_mark-from_stands-requires : goal.has_mark-from_stands-requires
has_mark-from_stands-requires c =
    subst (All (λ row. c.args.node.0 < length row.items)) (sym c.as_slice-in-Junction.ensures.value)
    (rows-wide Onward Stand c.args.airport.now c.args.ways.now.from_stands.items c.args.node c.requires.ways.from_stands c.requires.node)

pub returns-in-Junction : goal.returns-in-Junction
returns-in-Junction c =
    let airport = c.args.airport.now in
    of-junction airport c.args.node c.has_mark-from_runways.result c.has_mark-from_stands.result c.is_neither.result c.kind.result
    (SomeComes Onward Runway airport c.args.node → ⊥) (SomeComes Onward Stand airport c.args.node → ⊥) c.kind.ensures c.in-Junction.is
    (none-comes Onward Runway airport c.args.ways.now.from_runways.items c.args.node c.has_mark-from_runways.result c.requires.ways.from_runways c.requires.node
    (c.has_mark-from_runways.ensures ∙ ap (list_any (marked_at c.args.node)) c.as_slice.ensures.value))
    (none-comes Onward Stand airport c.args.ways.now.from_stands.items c.args.node c.has_mark-from_stands.result c.requires.ways.from_stands c.requires.node
    (c.has_mark-from_stands.ensures ∙ ap (list_any (marked_at c.args.node)) c.as_slice-in-Junction.ensures.value))
    c.is_neither.ensures
