use Rattle.std.proofs.Common.{◌≡◌, List, sym, ◌∙◌, subst}
use Rattle.std.specs.Bool.{Decides}
use Rattle.std.proofs.lemmas.Bool.{eqb-true}
use Rattle.std.proofs.lemmas.Slice.Eq.{slice_eq-Decides}
use Rattle.taxi_base.specs.declared.rows.Span.{Span}
use Rattle.certificate_check.proofs.DeskLaws.{span-decides, windows-is}
use Rattle.certificate_check.proofs.plain.are_windows.Goals as goal

pub returns-then-eq : goal.returns-then-eq
returns-then-eq c =
    let same = slice_eq-Decides span-decides c.as_slice.result.now c.args.windows.now c.eq-then-eq.result c.eq-then-eq.ensures in
    windows-is c.args.block.now c.in-Windows.told c.args.segment c.in-Windows.list c.args.windows.now c.eq-then-eq.result c.in-Windows.is (eqb-true _ _ (sym c.eq.ensures ∙ c.if-eq.true))
    (subst (λ (xs : List Span). Decides c.eq-then-eq.result (xs ≡ c.args.windows.now)) c.as_slice.ensures same)
