use Rattle.interval_list.proofs.Handed.{same-put, same-trans}
use Rattle.interval_list.proofs.edits.give_back.Goals as goal

pub returns-clause-nodes : goal.returns-clause-nodes
returns-clause-nodes c =
    let left = c.clear-gap.new in
    same-trans c.args.windows.now c.args.spares.now left.windows left.spares c.put.new.self c.pop-spare.new.self c.clear-gap.ensures.nodes
    (same-put left.windows left.spares c.put.new.self c.pop-spare.new.self c.clear-gap.result.index c.pop-spare.result.at c.put.result.at c.pop-spare.ensures.places c.put.ensures.place c.put.ensures.places)
