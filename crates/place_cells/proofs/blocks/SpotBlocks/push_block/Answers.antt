use Rattle.std.proofs.Common.{ℕ, ◌*◌, ◌∷◌, [], length, sym, ◌∙◌, ap, subst, arith}
use Rattle.std.proofs.lemmas.List.{length-append}
use Rattle.place_cells.specs.declared.blocks.Stretch.{Stretch}
use Rattle.place_cells.specs.Stretches.{spots_of, AreBegun}
use Rattle.place_cells.proofs.StretchLaws.{block-push, begun-push}
use Rattle.place_cells.proofs.blocks.SpotBlocks.push_block.Goals as goal

pub loop-preserved : goal.loop-preserved
loop-preserved c =
    let so_far = c.loop.invariant in
    let old = c.loop.self-inside.stretches.items in
    let items = c.push_reserved.ensures.items in
    let first : ℕ = c.len-laid.result * 8 in
    let more : Stretch = record { arc = c.args.arc; first = first } in (
      ap spots_of items ∙ block-push c.args.self.now.items old c.args.arc c.loop.counter first so_far.3 so_far.0,
      omega (arith, so_far.1, c.push_reserved.ensures.len, c.push_reserved.ensures.capacity, c.loop-test.true),
      omega (arith, so_far.2, ap length items, length-append old (more ∷ []), c.loop-test.true),
      omega (arith, so_far.3, ap length items, length-append old (more ∷ [])),
      subst AreBegun (sym items) (begun-push old more so_far.4 (omega (arith, so_far.3))),
    )
