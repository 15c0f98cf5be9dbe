use Rattle.std.proofs.Common.{ap, arith}
use Rattle.label_search.specs.declared.cells.Cell.{Cell}
use Rattle.label_search.specs.Labels.{standing}
use Rattle.label_search.proofs.Expansions.{expanded_offer}
use Rattle.label_search.proofs.expand.expand_to.Goals as goal

pub returns-in-Some : goal.returns-in-Some
returns-in-Some g c =
    let p = g.C.ForwardCells.problem c.args.cells.now in
    let from = ap (λ (x : Cell). x.from) c.cell_in.ensures in
    expanded_offer p.network c.args.from.cell c.args.from.at (standing c.args.labels.now) (standing c.offer.new.self) c.args.next c.in-Some.value
    (record {
      by_turn = c.requires.permitted;
      still_held = omega (arith, c.in-Some.ensures.held, from, c.requires.ready.last);
      value = omega (arith, c.in-Some.ensures.value, from, ap (λ (x : Cell). x.seconds) c.cell_in.ensures);
      in_time = omega (arith, c.in-Some.ensures.in_time, ap (λ (x : Cell). x.last) c.cell_in.ensures);
    })
    c.offer.ensures
