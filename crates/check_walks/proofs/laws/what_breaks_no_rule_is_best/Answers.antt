use Rattle.std.proofs.Common.{[], Some, None, refl, sym, subst}
use Rattle.taxi_base.specs.declared.answers.Request.{Request}
use Rattle.taxi_base.specs.declared.answers.Request.TheVariants as request
use Rattle.taxi_base.specs.State.{holds_in}
use Rattle.walk_labels.proofs.FitConditions.{among_fit}
use Rattle.replies.specs.declared.rule.Rule.TheVariants as rule
use Rattle.replies.specs.Sought.{sought_new, search_of}
use Rattle.replies.proofs.TablesKept.{HasKeptTable, HasFloorOf, table-best, table-none}
use Rattle.replies.proofs.SoughtPasses.{route-table, no_route-table}
use Rattle.check_walks.proofs.laws.what_breaks_no_rule_is_best.Goals as goal

no-floor : (request : Request) → HasFloorOf request None
no-floor request.Filed = refl
no-floor (request.Arrival from to time hold) = refl
no-floor (request.Departure from to time queue) = tt

pub returns : goal.returns
returns c = record {
  route = λ airport state name class request told second steps labels well keeps. (
      let s = sought_new airport state name class request in
      let walk = keeps rule.Walk in
      let table =
      subst (λ n. HasKeptTable s.conditions (search_of request [] None) (Some n) labels) (sym walk.1) (route-table s told second steps labels keeps) in
      (table-best s.conditions (among_fit airport class (holds_in airport state) well) request [] None tt None steps labels walk.0 table, walk.1));
  no_route = λ airport state name class request labels steps well keeps meant. (
      let s = sought_new airport state name class request in
      table-none s.conditions (among_fit airport class (holds_in airport state) well) request [] None tt None (no-floor request) labels (no_route-table s labels keeps) steps meant);
}
