-- The first rule that a block breaks, from what is known of its walk and of its table.
use Rattle.std.proofs.Common.{◌≡◌, ℕ, ◌<◌, List, [], Option, Some, None, arith}
use Rattle.std.specs.Prelude.{MatchOption}
use Rattle.taxi_base.specs.declared.numbers.Node.{Node}
use Rattle.taxi_base.specs.declared.rows.Step.{Step as Leg}
use Rattle.taxi_base.specs.declared.rows.LabelRow.{LabelRow}
use Rattle.taxi_base.specs.declared.answers.Request.{Request}
use Rattle.taxi_base.specs.Walks.{Conditions, begin_of}
use Rattle.replies.specs.declared.block.Block.TheVariants.{Route, NoRoute}
use Rattle.replies.specs.declared.rule.Rule.{Rule}
use Rattle.replies.specs.declared.rule.Rule.TheVariants as rule
use Rattle.replies.specs.CarriedOut.{second_of}
use Rattle.replies.specs.Sought.{UnderWay, Sought, Search, DoesAsAsked, search_of}
use Rattle.replies.specs.TableRules.{KeepsRows, KeepsStart, KeepsStep, KeepsTarget}
use Rattle.replies.specs.Passes.{KeepsSought, rank_of, IsFirstOf}
use Rattle.check_rows.specs.declared.verdict.RowRule.{RowRule}
use Rattle.check_rows.specs.declared.verdict.RowRule.TheVariants.{Rows, Start, Step, Target}
use Rattle.check_rows.specs.Verdict.{IsVerdict}
use Rattle.check_walks.specs.Course.{IsWalkIn}
use Rattle.check_walks.specs.Told.{BeginsAfter, SeeksAfter, IsVerdictOn, rule_of}

-- the rules for rows, where there is a search
match-verdict : {X : Type 0} (o : Option X) (P Q R S : X → Type 0) (verdict : Option RowRule) → MatchOption o ⊥ (λ x. IsVerdict (P x) (Q x) (R x) (S x) verdict)
    → IsVerdict (MatchOption o ⊥ P) (MatchOption o ⊥ Q) (MatchOption o ⊥ R) (MatchOption o ⊥ S) verdict
match-verdict None P Q R S verdict is = absurd is
match-verdict (Some x) P Q R S verdict is = is

-- after the rules that come before them
module _ (IsKept : Rule → Type 0) (reply : IsKept rule.Reply) where
  pub walk-first : (IsKept rule.Walk → ⊥) → IsFirstOf IsKept (Some rule.Walk)
  walk-first broken = (broken, before) where
    before : (other : Rule) → rank_of other < rank_of rule.Walk → IsKept other
    before rule.Reply low = reply
    before rule.Walk low = absurd (omega (arith, low))
    before rule.Rows low = absurd (omega (arith, low))
    before rule.Start low = absurd (omega (arith, low))
    before rule.Step low = absurd (omega (arith, low))
    before rule.Target low = absurd (omega (arith, low))

  pub rows-first : IsKept rule.Walk → (verdict : Option RowRule) → IsVerdict (IsKept rule.Rows) (IsKept rule.Start) (IsKept rule.Step) (IsKept rule.Target) verdict
      → IsFirstOf IsKept (rule_of verdict)
  rows-first walk None all = each where
    each : (r : Rule) → IsKept r
    each rule.Reply = reply
    each rule.Walk = walk
    each rule.Rows = all.0
    each rule.Start = all.1
    each rule.Step = all.2
    each rule.Target = all.3
  rows-first walk (Some Rows) broken = (broken, before) where
    before : (other : Rule) → rank_of other < 2 → IsKept other
    before rule.Reply low = reply
    before rule.Walk low = walk
    before rule.Rows low = absurd (omega (arith, low))
    before rule.Start low = absurd (omega (arith, low))
    before rule.Step low = absurd (omega (arith, low))
    before rule.Target low = absurd (omega (arith, low))
  rows-first walk (Some Start) broken = (broken.1, before) where
    before : (other : Rule) → rank_of other < 3 → IsKept other
    before rule.Reply low = reply
    before rule.Walk low = walk
    before rule.Rows low = broken.0
    before rule.Start low = absurd (omega (arith, low))
    before rule.Step low = absurd (omega (arith, low))
    before rule.Target low = absurd (omega (arith, low))
  rows-first walk (Some Step) broken = (broken.2, before) where
    before : (other : Rule) → rank_of other < 4 → IsKept other
    before rule.Reply low = reply
    before rule.Walk low = walk
    before rule.Rows low = broken.0
    before rule.Start low = broken.1
    before rule.Step low = absurd (omega (arith, low))
    before rule.Target low = absurd (omega (arith, low))
  rows-first walk (Some Target) broken = (broken.3, before) where
    before : (other : Rule) → rank_of other < 5 → IsKept other
    before rule.Reply low = reply
    before rule.Walk low = walk
    before rule.Rows low = broken.0
    before rule.Start low = broken.1
    before rule.Step low = broken.2
    before rule.Target low = absurd (omega (arith, low))

-- ---- what is sought

-- a walk that is sought where there are no other nodes
pub among-alone : (c : Conditions) (request : Request) (way : Option UnderWay) (steps : List Leg) → IsWalkIn c request way steps → DoesAsAsked c request [] way steps
among-alone c request None steps is = is
among-alone c request (Some way) steps is = is

pub alone-among : (c : Conditions) (request : Request) (way : Option UnderWay) (steps : List Leg) → DoesAsAsked c request [] way steps → IsWalkIn c request way steps
alone-among c request None steps is = is
alone-among c request (Some way) steps is = is

-- with the floor, where there is one
pub with-floor : (floor : Option ℕ) (steps : List Leg) (P : Type 0) → P → BeginsAfter floor steps → MatchOption floor P (λ second. P × (second < begin_of steps))
with-floor None steps P is after = is
with-floor (Some second) steps P is after = (is, after)

pub of-floor : (floor : Option ℕ) (steps : List Leg) (P : Type 0) → MatchOption floor P (λ second. P × (second < begin_of steps)) → P × BeginsAfter floor steps
of-floor None steps P is = (is, tt)
of-floor (Some second) steps P is = is

-- the same walk with the conditions and the request that are known
module _ (s : Sought) (c : Conditions) (request : Request) (others : List Node) (way : Option UnderWay) (floor : Option ℕ) (seeks : SeeksAfter c request others way floor s) where
  abbrev IsWalkOf : List Leg → ℕ → Type 0
  IsWalkOf steps second = DoesAsAsked c request others way steps × BeginsAfter floor steps × (second_of request steps ≡ second)

  pub route-walk : (name : List ℕ) (second : ℕ) (steps : List Leg) (labels : List LabelRow) → IsWalkOf steps second → KeepsSought rule.Walk s (Route name second steps labels)
  route-walk name second steps labels is =
      rw (seeks.conditions, seeks.asked, seeks.nodes, seeks.under_way, seeks.floor)
      (with-floor floor steps (DoesAsAsked c request others way steps) is.0 is.1, is.2)

  pub walk-route : (name : List ℕ) (second : ℕ) (steps : List Leg) (labels : List LabelRow) → KeepsSought rule.Walk s (Route name second steps labels) → IsWalkOf steps second
  walk-route name second steps labels keeps =
      let kept = rw (seeks.conditions, seeks.asked, seeks.nodes, seeks.under_way, seeks.floor) at keeps in
      let parts = of-floor floor steps (DoesAsAsked c request others way steps) kept.0 in
      (parts.0, parts.1, kept.1)

  abbrev search : Option Search
  search = search_of request others way

  on-search : (bound : Option ℕ) (labels : List LabelRow) (verdict : Option RowRule) → IsVerdictOn c request others way bound labels verdict
      → IsVerdict (MatchOption (search_of s.request s.others s.under_way) ⊥ (λ x. KeepsRows s.conditions labels)) (MatchOption (search_of s.request s.others s.under_way) ⊥ (λ x. KeepsStart s.conditions x bound labels))
      (MatchOption (search_of s.request s.others s.under_way) ⊥ (λ x. KeepsStep s.conditions x bound labels)) (MatchOption (search_of s.request s.others s.under_way) ⊥ (λ x. KeepsTarget s.conditions x bound labels)) verdict
  on-search bound labels verdict is =
      rw (seeks.conditions, seeks.asked, seeks.nodes, seeks.under_way)
      (match-verdict search (λ x. KeepsRows c labels) (λ x. KeepsStart c x bound labels) (λ x. KeepsStep c x bound labels) (λ x. KeepsTarget c x bound labels) verdict is)

  pub route-first : (name : List ℕ) (second : ℕ) (steps : List Leg) (labels : List LabelRow) (verdict : Option RowRule) → IsWalkOf steps second
      → IsVerdictOn c request others way (Some second) labels verdict → IsFirstOf (λ r. KeepsSought r s (Route name second steps labels)) (rule_of verdict)
  route-first name second steps labels verdict walk is =
      rows-first (λ r. KeepsSought r s (Route name second steps labels)) tt (route-walk name second steps labels walk) verdict (on-search (Some second) labels verdict is)

  pub no_route-first : (labels : List LabelRow) (verdict : Option RowRule) → IsVerdictOn c request others way floor labels verdict → IsFirstOf (λ r. KeepsSought r s (NoRoute labels)) (rule_of verdict)
  no_route-first labels verdict is = rows-first (λ r. KeepsSought r s (NoRoute labels)) tt tt verdict (rw seeks.floor (on-search floor labels verdict is))

  pub route-broken : (name : List ℕ) (second : ℕ) (steps : List Leg) (labels : List LabelRow) → (IsWalkOf steps second → ⊥)
      → IsFirstOf (λ r. KeepsSought r s (Route name second steps labels)) (Some rule.Walk)
  route-broken name second steps labels broken =
      walk-first (λ r. KeepsSought r s (Route name second steps labels)) tt (λ keeps. broken (walk-route name second steps labels keeps))
