use Rattle.std.proofs.Common.{◌∷◌, sym, ◌∙◌}
use Rattle.interval_list.specs.Cells.{node_of}
use Rattle.interval_list.proofs.Edited.{windows_of-first, places-first}
use Rattle.interval_list.proofs.chain.Chain.pop.Goals as goal

pub returns : goal.returns
returns c =
    let cells = c.args.self.now in record {
      windows = windows_of-first cells c.requires ∙ (λ k. (node_of cells 0).window ∷ sym c.take.ensures.windows k);
      places = places-first cells c.requires ∙ (λ k. sym (c.take.ensures.place ∙ c.first-first.ensures c.requires) k ∷ sym c.take.ensures.places k);
    }
