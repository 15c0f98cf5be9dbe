use Rattle.std.proofs.Common.{◌≡◌, [], sym, ap, ◌∙◌, arith}
use Rattle.interval_list.specs.Blocks.{Stocked, row_places}
use Rattle.interval_list.proofs.Handed.{out-tried}
use Rattle.interval_list.proofs.stock.Stock.refill.Goals as goal

pub returns-clause-out : goal.returns-clause-out
returns-clause-out c used out =
    let left : c.self.inside.left ≡ 0 = omega (arith, c.if-self-gt0.false) in
    let none : c.args.self.now.blank ≡ [] = ap (λ (s : Stocked). s.blank) (sym c.self.view_is) ∙ c.self.invariant.1 ∙ ap (row_places c.self.inside.next.at) left in
    out-tried used c.args.self.now c.make_block.new.self c.make_block.result none c.make_block.ensures.ok c.make_block.ensures.err out
