use Rattle.walk_labels.specs.Rules.{IsStartBy}
use Rattle.walk_labels.specs.BackwardRules.{IsFinishAt}
use Rattle.check_rows.proofs.VerdictLaws.{arrival-passes, departure-passes}
use Rattle.check_rows.proofs.laws.no_rule_fails_where_a_table_passes.Goals as goal

pub returns : goal.returns
returns c = record {
  arrivals = λ k b to bound rows verdict is. arrival-passes k bound rows verdict (IsStartBy k b) to is;
  departures = λ k to earliest latest from bound rows verdict is. departure-passes k bound rows verdict (IsFinishAt k to earliest latest) from is;
}
