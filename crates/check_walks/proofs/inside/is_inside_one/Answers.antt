use Rattle.std.proofs.Common.{Bool, IsTrue, ◌↔◌, sym, subst}
use Rattle.std.specs.Prelude.{Contains}
use Rattle.taxi_base.specs.declared.rows.Span.{Span}
use Rattle.taxi_base.specs.Windows.{IsPart}
use Rattle.check_walks.proofs.InsideLaws.{inside-some}
use Rattle.check_walks.proofs.inside.is_inside_one.Goals as goal

pub returns-in-Some : goal.returns-in-Some
returns-in-Some c =
    let found = c.in-Some.ensures.lookup in
    subst (λ (b : Bool). IsTrue b ↔ ((w : Span) × Contains c.args.windows.now w × IsPart c.args.span w)) (sym c.begins_by.ensures)
    (inside-some c.args.windows.now c.args.span c.requires c.windows_before.result c.windows_before.ensures.point c.in-Some.found.now found.3.0 (sym found.1))
