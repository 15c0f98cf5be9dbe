-- What is found for a new flight keeps the rules for what is sought.
use Rattle.std.proofs.Common.{◌≡◌, ℕ, List, Option, Some, None, refl}
use Rattle.std.specs.Prelude.{MatchOption}
use Rattle.taxi_base.specs.declared.numbers.Class.{Class}
use Rattle.taxi_base.specs.declared.rows.Step.{Step}
use Rattle.taxi_base.specs.declared.rows.LabelRow.{LabelRow}
use Rattle.taxi_base.specs.declared.answers.Found.{Found}
use Rattle.taxi_base.specs.declared.answers.Found.TheVariants as found
use Rattle.taxi_base.specs.declared.answers.Request.{Request}
use Rattle.taxi_base.specs.Airport.{Airport, IsWellFormed}
use Rattle.taxi_base.specs.State.{State, with_flight, holds_in}
use Rattle.taxi_base.specs.Faults.{conditions_in}
use Rattle.walk_labels.specs.Places.{AreFit}
use Rattle.walk_labels.proofs.FitConditions.{among_fit}
use Rattle.replies.specs.declared.block.Block.{Block}
use Rattle.replies.specs.declared.block.Block.TheVariants.{Refused, Filed, Cancelled, Route, NoRoute, Windows, Occupancy, Timetable, Batch, Late}
use Rattle.replies.specs.declared.rule.Rule.{Rule}
use Rattle.replies.specs.declared.rule.Rule.TheVariants as rule
use Rattle.replies.specs.Asked.{AnswersRequest}
use Rattle.replies.specs.CarriedOut.{Reply, IsOf, second_of, found_reply, routed_flight, IsRoutedAs}
use Rattle.replies.specs.Sought.{Sought, sought_new, search_of}
use Rattle.replies.specs.TableRules.{KeepsTable}
use Rattle.replies.specs.Turns.{after_told}
use Rattle.replies.specs.Passes.{IsFormOf, KeepsWalk, OfTable, KeepsSought}
use Rattle.replies.proofs.FoundLaws.{found-meets}
use Rattle.replies.proofs.TablesKept.{HasKeptTable, new-table}

-- ---- what passes where a walk is sought

pub record PassesSought (s : Sought) (block : Block) (after : State) : Type 0 where
  pub form : IsFormOf s block
  pub walk : KeepsWalk s block
  pub table : OfTable (KeepsTable s.conditions) s block
  pub after_it : after ≡ after_told s block

-- ---- the rules for a table, at once and one after the other

match-weaker : {X : Type 0} (o : Option X) (P Q : X → Type 0) → ((x : X) → P x → Q x) → MatchOption o ⊥ P → MatchOption o ⊥ Q
match-weaker None P Q weaker h = h
match-weaker (Some x) P Q weaker h = weaker x h

match-four : {X : Type 0} (o : Option X) (P Q R S : X → Type 0) → MatchOption o ⊥ P → MatchOption o ⊥ Q → MatchOption o ⊥ R → MatchOption o ⊥ S
    → MatchOption o ⊥ (λ x. P x × Q x × R x × S x)
match-four None P Q R S p q r s = p
match-four (Some x) P Q R S p q r s = (p, q, r, s)

-- the block of a search
pub sought-keeps : (s : Sought) (block : Block) → IsFormOf s block → KeepsWalk s block → OfTable (KeepsTable s.conditions) s block → (r : Rule) → KeepsSought r s block
sought-keeps s block form walk table rule.Reply = tt
sought-keeps s block form walk table rule.Walk = walk
sought-keeps s (Route name second steps labels) form walk table rule.Rows = match-weaker (search_of s.request s.others s.under_way) _ _ (λ x k. k.rows_kept) table
sought-keeps s (Route name second steps labels) form walk table rule.Start = match-weaker (search_of s.request s.others s.under_way) _ _ (λ x k. k.start_kept) table
sought-keeps s (Route name second steps labels) form walk table rule.Step = match-weaker (search_of s.request s.others s.under_way) _ _ (λ x k. k.step_kept) table
sought-keeps s (Route name second steps labels) form walk table rule.Target = match-weaker (search_of s.request s.others s.under_way) _ _ (λ x k. k.target_kept) table
sought-keeps s (NoRoute labels) form walk table rule.Rows = match-weaker (search_of s.request s.others s.under_way) _ _ (λ x k. k.rows_kept) table
sought-keeps s (NoRoute labels) form walk table rule.Start = match-weaker (search_of s.request s.others s.under_way) _ _ (λ x k. k.start_kept) table
sought-keeps s (NoRoute labels) form walk table rule.Step = match-weaker (search_of s.request s.others s.under_way) _ _ (λ x k. k.step_kept) table
sought-keeps s (NoRoute labels) form walk table rule.Target = match-weaker (search_of s.request s.others s.under_way) _ _ (λ x k. k.target_kept) table
sought-keeps s (Refused why) form walk table rule.Rows = absurd form
sought-keeps s (Refused why) form walk table rule.Start = absurd form
sought-keeps s (Refused why) form walk table rule.Step = absurd form
sought-keeps s (Refused why) form walk table rule.Target = absurd form
sought-keeps s (Filed name start end) form walk table rule.Rows = absurd form
sought-keeps s (Filed name start end) form walk table rule.Start = absurd form
sought-keeps s (Filed name start end) form walk table rule.Step = absurd form
sought-keeps s (Filed name start end) form walk table rule.Target = absurd form
sought-keeps s (Cancelled name) form walk table rule.Rows = absurd form
sought-keeps s (Cancelled name) form walk table rule.Start = absurd form
sought-keeps s (Cancelled name) form walk table rule.Step = absurd form
sought-keeps s (Cancelled name) form walk table rule.Target = absurd form
sought-keeps s (Windows segment windows) form walk table rule.Rows = absurd form
sought-keeps s (Windows segment windows) form walk table rule.Start = absurd form
sought-keeps s (Windows segment windows) form walk table rule.Step = absurd form
sought-keeps s (Windows segment windows) form walk table rule.Target = absurd form
sought-keeps s (Occupancy segment held) form walk table rule.Rows = absurd form
sought-keeps s (Occupancy segment held) form walk table rule.Start = absurd form
sought-keeps s (Occupancy segment held) form walk table rule.Step = absurd form
sought-keeps s (Occupancy segment held) form walk table rule.Target = absurd form
sought-keeps s (Timetable flights) form walk table rule.Rows = absurd form
sought-keeps s (Timetable flights) form walk table rule.Start = absurd form
sought-keeps s (Timetable flights) form walk table rule.Step = absurd form
sought-keeps s (Timetable flights) form walk table rule.Target = absurd form
sought-keeps s (Batch total entries) form walk table rule.Rows = absurd form
sought-keeps s (Batch total entries) form walk table rule.Start = absurd form
sought-keeps s (Batch total entries) form walk table rule.Step = absurd form
sought-keeps s (Batch total entries) form walk table rule.Target = absurd form
sought-keeps s (Late flight entries) form walk table rule.Rows = absurd form
sought-keeps s (Late flight entries) form walk table rule.Start = absurd form
sought-keeps s (Late flight entries) form walk table rule.Step = absurd form
sought-keeps s (Late flight entries) form walk table rule.Target = absurd form

pub route-table : (s : Sought) (name : List ℕ) (second : ℕ) (steps : List Step) (labels : List LabelRow) → ((r : Rule) → KeepsSought r s (Route name second steps labels))
    → HasKeptTable s.conditions (search_of s.request s.others s.under_way) (Some second) labels
route-table s name second steps labels keeps =
    match-weaker (search_of s.request s.others s.under_way) _ _ (λ x k. record { rows_kept = k.0; start_kept = k.1; step_kept = k.2; target_kept = k.3 })
    (match-four (search_of s.request s.others s.under_way) _ _ _ _ (keeps rule.Rows) (keeps rule.Start) (keeps rule.Step) (keeps rule.Target))

pub no_route-table : (s : Sought) (labels : List LabelRow) → ((r : Rule) → KeepsSought r s (NoRoute labels))
    → HasKeptTable s.conditions (search_of s.request s.others s.under_way) s.floor labels
no_route-table s labels keeps =
    match-weaker (search_of s.request s.others s.under_way) _ _ (λ x k. record { rows_kept = k.0; start_kept = k.1; step_kept = k.2; target_kept = k.3 })
    (match-four (search_of s.request s.others s.under_way) _ _ _ _ (keeps rule.Rows) (keeps rule.Start) (keeps rule.Step) (keeps rule.Target))

-- ---- a new flight

pub passes-by : (s : Sought) (reply : Reply) (block : Block) (after : State) → IsOf reply block after → PassesSought s reply.block reply.after → PassesSought s block after
passes-by s reply block after of passes = rw (of.0, of.1) passes

module _ (airport : Airport) (state : State) (well : IsWellFormed airport) where
  pub new-fit : (class : Class) → AreFit (conditions_in airport class state)
  new-fit class = among_fit airport class (holds_in airport state) well

  pub as-passes : (name : List ℕ) (class : Class) (request : Request) (block : Block) (after : State) → IsRoutedAs airport state name class request block after
      → PassesSought (sought_new airport state name class request) block after
  as-passes name class request block after done = go done.found done.answers done.reply where
    s : Sought
    s = sought_new airport state name class request

    go : (answer : Found) → AnswersRequest (conditions_in airport class state) request answer
        → IsOf (found_reply state name request (λ steps. with_flight (routed_flight name class request steps) state) answer) block after → PassesSought s block after
    go (found.Route steps labels) answers of =
        passes-by s (record { block = Route name (second_of request steps) steps labels; after = with_flight (routed_flight name class request steps) state }) block after of (record {
          form = refl;
          walk = (found-meets (conditions_in airport class state) request steps labels answers, refl);
          table = new-table (conditions_in airport class state) (new-fit class) request (found.Route steps labels) answers;
          after_it = refl;
        })
    go (found.NoRoute labels) answers of =
        passes-by s (record { block = NoRoute labels; after = state }) block after of (record {
          form = refl;
          walk = tt;
          table = new-table (conditions_in airport class state) (new-fit class) request (found.NoRoute labels) answers;
          after_it = refl;
        })
