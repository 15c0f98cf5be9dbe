use Rattle.std.proofs.Common.{subst}
use Rattle.std.specs.Prelude.{Contains}
use Rattle.std.proofs.lemmas.List.Elements.{All-contains}
use Rattle.taxi_base.specs.declared.numbers.Arc.{Arc}
use Rattle.taxi_base.specs.declared.rows.Span.{Span}
use Rattle.taxi_base.specs.Labels.{window_of}
use Rattle.table_rows.specs.HasRows.{HasEach}
use Rattle.table_rows.specs.Reached.{IsReachedIn}
use Rattle.table_rows.proofs.narrowing.part_served.Goals as goal

pub returns-in-Some-clause-served : goal.returns-in-Some-clause-served
returns-in-Some-clause-served c conditions is =
    let rows = c.args.table.now.rows.now in
    let bound = c.args.table.now.bound in
    let part = c.part_by_row.result in
    let there = All-contains (Contains rows) c.args.near.now c.in-Some.row c.requires.near c.in-Some.ensures.0 in
    subst (λ (w : Span). HasEach part.way (IsReachedIn conditions part c.args.arc c.args.seconds w) bound rows) c.in-Some.ensures.2
    (subst (λ (a : Arc). HasEach part.way (IsReachedIn conditions part a c.args.seconds (window_of c.in-Some.row)) bound rows) c.in-Some.ensures.1
    (c.part_by_row.ensures.served conditions bound rows is there))
