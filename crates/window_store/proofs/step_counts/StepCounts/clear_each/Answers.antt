use Rattle.std.proofs.Common.{◌≡◌, refl, rules}
use Rattle.std.proofs.lemmas.List.Elements.{All-replicate}
use Rattle.window_store.specs.declared.step_counts.Counted.{Counted}
use Rattle.window_store.specs.Counts.{count_in}
use Rattle.window_store.proofs.Counting.{counts-none}
use Rattle.window_store.proofs.step_counts.StepCounts.clear_each.Goals as goal

pub returns-clause-none : goal.returns-clause-none
returns-clause-none c =
    let items = c.fill.ensures.items (λ y same. search rules) in
    counts-none 0 c.fill.new.self.items (rw items (All-replicate (λ (one : Counted). count_in 0 one ≡ 0) c.self.inside.counted.len (record { round = 0; count = 0 }) refl))
