use Rattle.std.proofs.Common.{◌-◌, ◌*◌, ◌<◌, length, sym, ◌∙◌, ap, arith}
use Rattle.place_cells.specs.declared.blocks.Stretch.{Stretch}
use Rattle.place_cells.specs.Laid.{spot_in}
use Rattle.place_cells.specs.Stretches.{Spots}
use Rattle.place_cells.proofs.StretchLaws.{length-spots, spots_of-at}
use Rattle.place_cells.proofs.blocks.SpotBlocks.at.Goals as goal

pub index-stretch-requires : goal.index-stretch-requires
index-stretch-requires c =
    omega (arith, length-spots c.self.inside.stretches.items, ap (λ (s : Spots). length s.items) c.self.view_is, c.requires, c.self.inside.stretches.ok.0)

pub overflow_sub-result : goal.overflow_sub-result
overflow_sub-result c =
    let stretches = c.self.inside.stretches.items in
    let inside : c.args.number < 8 * length stretches = omega (arith, length-spots stretches, ap (λ (s : Spots). length s.items) c.self.view_is, c.requires) in
    let first = ap (λ (s : Stretch). s.first) c.index-stretch.ensures in
    omega (arith, first, (spots_of-at stretches c.args.number c.index-stretch.result.now c.self.invariant.1 inside).0)

pub returns : goal.returns
returns c =
    let stretches = c.self.inside.stretches.items in
    let inside : c.args.number < 8 * length stretches = omega (arith, length-spots stretches, ap (λ (s : Spots). length s.items) c.self.view_is, c.requires) in
    ap (λ (s : Stretch). record { arc = s.arc; window = c.args.number - s.first }) c.index-stretch.ensures
    ∙ sym (spots_of-at stretches c.args.number c.index-stretch.result.now c.self.invariant.1 inside).1
    ∙ ap (λ (s : Spots). spot_in s.items c.args.number) c.self.view_is
