use Rattle.std.proofs.Common.{◌≡◌, ◌++◌, ℕ, length, ap, subst, arith}
use Rattle.std.specs.Prelude.{flat_map}
use Rattle.std.specs.List.{range_with_len}
use Rattle.std.proofs.lemmas.List.{length-map}
use Rattle.taxi_base.specs.Airport.{ClassRow}
use Rattle.run_figures.specs.Figures.{class_text}
use Rattle.run_figures.proofs.TextLaws.{numbers-more}
use Rattle.run_figures.proofs.text.write_kind.Goals as goal

pub loop-number-preserved : goal.loop-number-preserved
loop-number-preserved c = numbers-more (class_text c.args.airport.now c.args.ledger.now.state c.args.kind) _ _ _ c.loop-number.number c.loop-number.invariant c.in_ok-write_class.ensures

pub returns : goal.returns
returns c =
    let airport = c.args.airport.now in
    let table = ap (λ t. length t.table) c.classes.ensures in
    let long = length-map airport.classes (λ (row : ClassRow). row.seconds) in
    let same : c.loop-number.number ≡ length airport.classes = omega (arith, c.loop-number-test.false, c.loop-number.auto.number-end, c.count-number-end.ensures, table, long) in
    subst (λ (n : ℕ). c.loop-number.out.items ≡ c.args.out.now.items ++ flat_map (class_text airport c.args.ledger.now.state c.args.kind) (range_with_len 0 n)) same c.loop-number.invariant
