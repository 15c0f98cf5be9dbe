use Rattle.std.proofs.Common.{◌≡◌, suc, ◌+◌, ◌<◌, ◌∷◌, length, drop, sym, ◌∙◌, arith}
use Rattle.interval_list.specs.Cells.{Cell, windows_of, no_cell}
use Rattle.interval_list.proofs.Edited.{drop-item, item-map, length-windows_of}
use Rattle.interval_list.proofs.iter.WindowsIterator.next.Goals as goal

pub returns-clause-steps : goal.returns-clause-steps
returns-clause-steps c =
    let cells = c.self.inside.chain.now in let i = c.self.inside.index in let on : suc i ≡ i + 1 = omega arith in
    let within : i < length (windows_of cells) = omega (arith, c.self.invariant.0, c.len.ensures, c.if-index-len.false, length-windows_of cells) in
    sym c.self.view_is ∙ drop-item no_cell.1.window (windows_of cells) i within
    ∙ (λ k. (item-map (λ (x : Cell). x.1.window) no_cell cells i ∙ sym c.window.ensures) k ∷ drop (on k) (windows_of cells))
