-- What can be sought, and which rule does the table of a search break first?
use Rattle.std.specs.Prelude.{ℕ, ◌≡◌, ◌<◌, List, length, Option, Some, None, MatchOption, ⊤}
use Rattle.taxi_base.specs.declared.numbers.Node.{Node}
use Rattle.taxi_base.specs.declared.answers.Request.{Request}
use Rattle.taxi_base.specs.declared.answers.Request.TheVariants as request
use Rattle.taxi_base.specs.declared.rows.LabelRow.{LabelRow}
use Rattle.taxi_base.specs.declared.rows.Step.{Step as Leg}
use Rattle.taxi_base.specs.Airport.{Airport}
use Rattle.taxi_base.specs.Walks.{Conditions, begin_of}
use Rattle.replies.specs.declared.rule.Rule.{Rule}
use Rattle.replies.specs.declared.rule.Rule.TheVariants as rule
use Rattle.replies.specs.Printable.{IsShort}
use Rattle.replies.specs.Sought.{UnderWay, Sought, search_of}
use Rattle.replies.specs.TableRules.{KeepsRows, KeepsStart, KeepsStep, KeepsTarget}
use Rattle.check_rows.specs.declared.verdict.RowRule.{RowRule}
use Rattle.check_rows.specs.declared.verdict.RowRule.TheVariants.{Rows, Start, Step, Target}
use Rattle.check_rows.specs.Verdict.{IsVerdict}

-- what was asked for is a route to be found, between nodes of the airport, and its times have at most 7 digits
abbrev pub CanBeSought : Airport → Request → Type 0
CanBeSought airport request.Filed = ⊥
CanBeSought airport (request.Arrival from to time hold) = (from.0 < length airport.nodes) × (IsShort time × IsShort hold)
CanBeSought airport (request.Departure from to time queue) = (to.0 < length airport.nodes) × (IsShort time × IsShort queue)

-- steps begin after a second, where there is one
abbrev pub BeginsAfter : Option ℕ → List Leg → Type 0
BeginsAfter None steps = ⊤
BeginsAfter (Some second) steps = second < begin_of steps

-- a search is for a walk under these conditions that does what is asked, and begins after a second where there is one
pub record SeeksAfter (c : Conditions) (request : Request) (others : List Node) (way : Option UnderWay) (second : Option ℕ) (s : Sought) : Type 0 where
  pub conditions : s.conditions ≡ c
  pub asked : s.request ≡ request
  pub nodes : s.others ≡ others
  pub under_way : s.under_way ≡ way
  pub floor : s.floor ≡ second

-- the same, whenever it begins
abbrev pub Seeks : Conditions → Request → List Node → Option UnderWay → Sought → Type 0
Seeks c request others way s = SeeksAfter c request others way None s

-- ---- the table of a search; no public clause cites these

-- the rule for blocks that stands for a rule for rows
abbrev pub rule_of : Option RowRule → Option Rule
rule_of None = None
rule_of (Some Rows) = Some rule.Rows
rule_of (Some Start) = Some rule.Start
rule_of (Some Step) = Some rule.Step
rule_of (Some Target) = Some rule.Target

-- the first rule for rows that the table of a search breaks
abbrev pub IsVerdictOn : Conditions → Request → List Node → Option UnderWay → Option ℕ → List LabelRow → Option RowRule → Type 0
IsVerdictOn c request others way bound rows verdict =
    MatchOption (search_of request others way) ⊥
    (λ search. IsVerdict (KeepsRows c rows) (KeepsStart c search bound rows) (KeepsStep c search bound rows) (KeepsTarget c search bound rows) verdict)
