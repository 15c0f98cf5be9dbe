use Rattle.std.proofs.Common.{rules, ◌≡◌, ◌<◌, length}
use Rattle.std.proofs.lemmas.Fn.{always_returns_same}
use Rattle.check_walks.specs.Steps.{follows}
use Rattle.check_walks.proofs.StepLaws.{follows-by_neighbours}
use Rattle.check_walks.proofs.feasible.is_chain.Goals as goal

pub returns : goal.returns
returns c =
    let some : 0 < length c.args.steps.now = search rules in
    let layout = c.args.graph.now in
    let same =
    follows-by_neighbours layout c.args.steps.now c.is_sorted_by.result
    (c.is_sorted_by.ensures.cases (λ s t. follows layout s t) (always_returns_same _ (λ a r. r ≡ follows layout a.0.now a.1.0.now) _ (λ a r f k. search (rules)))) in
    (λ is. (some, same.0 is), λ chain. same.1 chain.1)
