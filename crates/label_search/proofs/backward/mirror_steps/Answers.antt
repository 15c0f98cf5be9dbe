use Rattle.std.proofs.Common.{◌<◌, length, arith}
use Rattle.std.proofs.lemmas.List.Edits.{map_over_more}
use Rattle.label_search.specs.Backward.{mirror_cell_step}
use Rattle.label_search.proofs.backward.mirror_steps.Goals as goal

pub loop-at-preserved : goal.loop-at-preserved
loop-at-preserved c =
    let inside : c.loop-at.at < length c.reverse.new.self.items = omega (arith, c.loop-at-test.true, c.len-at-end.ensures, c.reverse.new.self.ok.0) in
    rw c.mirror_step.ensures
    (map_over_more mirror_cell_step c.reverse.new.self.items c.loop-at.steps.items c.loop-at.at c.index.result.now inside c.loop-at.invariant c.index.ensures)
