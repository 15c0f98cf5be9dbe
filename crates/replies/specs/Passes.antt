-- Which blocks pass a check in a state, by which rule does one fail first, and what is in force afterwards? No rule speaks of
-- best walks, of tables that are whole or of how a route is picked.
use Rattle.std.specs.Prelude.{ℕ, ◌≡◌, ◌⊎◌, ◌<◌, List, [], ◌∷◌, map, All, Option, Some, None, IsTrue, MatchOption, ⊤}
use Rattle.taxi_base.specs.declared.answers.Refusal.TheVariants as refusal
use Rattle.taxi_base.specs.declared.rows.LabelRow.{LabelRow}
use Rattle.taxi_base.specs.Airport.{Airport}
use Rattle.taxi_base.specs.declared.rows.Step.{Step}
use Rattle.taxi_base.specs.State.{State}
use Rattle.taxi_base.specs.Again.{IsBestFor}
use Rattle.taxi_text.specs.declared.command.Command.{Command}
use Rattle.taxi_text.specs.declared.command.Command.TheVariants as command
use Rattle.taxi_text.specs.Commands.{command_of}
use Rattle.replies.specs.declared.block.Block.{Block}
use Rattle.replies.specs.declared.block.Block.TheVariants.{Refused, Filed, Cancelled, Route, NoRoute}
use Rattle.replies.specs.declared.rule.Rule.{Rule}
use Rattle.replies.specs.declared.rule.Rule.TheVariants as rule
use Rattle.replies.specs.CarriedOut.{second_of, IsCarriedOut}
use Rattle.replies.specs.Refusals.{first_refusal}
use Rattle.replies.specs.Batches.{TellsBatch}
use Rattle.replies.specs.Repairs.{TellsRepair}
use Rattle.replies.specs.Replies.{IsDue, NeedsNoMemory}
use Rattle.replies.specs.Sought.{Sought, Search, sought_of, search_of, IsWalkFor}
use Rattle.replies.specs.Turns.{Turn, told_in, begins_of, turns_of, after_turns}
use Rattle.replies.specs.TableRules.{KeepsRows, KeepsStart, KeepsStep, KeepsTarget}

-- ---- the first rule, reply

-- a route of the flight, or that there is none where it may be so
abbrev pub IsFormOf : Sought → Block → Type 0
IsFormOf s (Route name second steps labels) = name ≡ s.name
IsFormOf s (NoRoute labels) = IsTrue s.may_be_none
IsFormOf s _ = ⊥

-- Where a walk is sought the block tells one, or that there is none. To a batch it tells of each request, in any order, and what all of
-- them cost. Where a flight is late it tells of it and of those in its way, in turn. Of any other command it is the reply that is due.
abbrev pub IsAsAskedAlone : Airport → State → Command → Block → Type 0
IsAsAskedAlone airport state command block =
    MatchOption (sought_of airport state command) ((after : State) × IsCarriedOut airport state command block after) (λ s. IsFormOf s block)

abbrev pub IsAsAsked : Airport → State → Command → Block → Type 0
IsAsAsked airport state (command.Batch requests) block = TellsBatch airport requests block
IsAsAsked airport state (command.Late flight time until) block = TellsRepair airport state flight time until block
IsAsAsked airport state other block = IsAsAskedAlone airport state other block

-- where a refusal is due the block is this refusal
abbrev pub IsOfDueForm : Airport → State → List ℕ → Block → Type 0
IsOfDueForm airport state line block =
    MatchOption (command_of line) (block ≡ Refused refusal.BadLine)
    (λ command. MatchOption (first_refusal airport state command) (IsAsAsked airport state command block) (λ why. block ≡ Refused why))

-- `refused memory` may stand for every reply but one to a line that takes a flight or a work party out
abbrev pub KeepsReply : Airport → State → List ℕ → Block → Type 0
KeepsReply airport state line block =
    ((NeedsNoMemory (command_of line) → ⊥) × (block ≡ Refused refusal.Memory)) ⊎ IsOfDueForm airport state line block

-- ---- the rules for what is told of a search

abbrev pub KeepsWalk : Sought → Block → Type 0
KeepsWalk s (Route name second steps labels) = IsWalkFor s steps × (second_of s.request steps ≡ second)
KeepsWalk s _ = ⊤

-- a rule for the table of a block, whose bound is the second of its route, or the floor where there is none
abbrev pub OfTable : (Search → Option ℕ → List LabelRow → Type 0) → Sought → Block → Type 0
OfTable Holds s (Route name second steps labels) = MatchOption (search_of s.request s.others s.under_way) ⊥ (λ search. Holds search (Some second) labels)
OfTable Holds s (NoRoute labels) = MatchOption (search_of s.request s.others s.under_way) ⊥ (λ search. Holds search s.floor labels)
OfTable Holds s _ = ⊤

abbrev pub KeepsSought : Rule → Sought → Block → Type 0
KeepsSought rule.Reply s = λ block. ⊤
KeepsSought rule.Walk s = KeepsWalk s
KeepsSought rule.Rows s = OfTable (λ search bound rows. KeepsRows s.conditions rows) s
KeepsSought rule.Start s = OfTable (KeepsStart s.conditions) s
KeepsSought rule.Step s = OfTable (KeepsStep s.conditions) s
KeepsSought rule.Target s = OfTable (KeepsTarget s.conditions) s

-- the same of a turn
abbrev pub KeepsTurn : Turn → Rule → Type 0
KeepsTurn turn rule = KeepsSought rule turn.sought turn.told

-- ---- all rules

-- a block keeps a rule: the first one as a whole, and the others in each of its searches
abbrev pub Keeps : Airport → State → List ℕ → Block → Rule → Type 0
Keeps airport state line block rule.Reply = KeepsReply airport state line block
Keeps airport state line block rule = All (λ turn. KeepsTurn turn rule) (turns_of airport state line block)

-- the order in which the rules are tried
abbrev pub rank_of : Rule → ℕ
rank_of rule.Reply = 0
rank_of rule.Walk = 1
rank_of rule.Rows = 2
rank_of rule.Start = 3
rank_of rule.Step = 4
rank_of rule.Target = 5

-- none of the rules is broken; or one is, and each before it is kept
abbrev pub IsFirstOf : (Rule → Type 0) → Option Rule → Type 0
IsFirstOf IsKept None = (rule : Rule) → IsKept rule
IsFirstOf IsKept (Some rule) = (IsKept rule → ⊥) × ((other : Rule) → rank_of other < rank_of rule → IsKept other)

-- the first rule that turns break: the first turn that breaks one breaks it first
abbrev pub BreaksFirst : List Turn → Rule → Type 0
BreaksFirst [] rule = ⊥
BreaksFirst (turn ∷ later) rule = IsFirstOf (KeepsTurn turn) (Some rule) ⊎ (IsFirstOf (KeepsTurn turn) None × BreaksFirst later rule)

-- the first rule that a block breaks: reply, or where it keeps that one, the first that its turns break
abbrev pub IsFirstBroken : Airport → State → List ℕ → Block → Rule → Type 0
IsFirstBroken airport state line block rule.Reply = KeepsReply airport state line block → ⊥
IsFirstBroken airport state line block rule = KeepsReply airport state line block × BreaksFirst (turns_of airport state line block) rule

-- ---- what passes

-- What is filed or cancelled leaves the state that is due, and every other block that after its searches: a route is in force on the
-- steps that are told.
abbrev pub IsAfter : Airport → State → List ℕ → Block → State → Type 0
IsAfter airport state line (Filed name start end) after = IsDue airport state line (Filed name start end) after
IsAfter airport state line (Cancelled name) after = IsDue airport state line (Cancelled name) after
IsAfter airport state line block after = after ≡ after_turns (begins_of airport state line block) (turns_of airport state line block)

-- a block that keeps every rule passes, and this is the state afterwards
pub record IsPassed (airport : Airport) (state : State) (line : List ℕ) (block : Block) (after : State) : Type 0 where
  pub keeps : (rule : Rule) → Keeps airport state line block rule
  pub after_it : IsAfter airport state line block after

-- What is told of a search is so: a route is the best walk that is sought, with its second, and where there is no route no walk is.
abbrev pub IsBestTold : Sought → Block → Type 0
IsBestTold s (Route name second steps labels) = IsBestFor s.request (IsWalkFor s) steps × (second_of s.request steps ≡ second)
IsBestTold s (NoRoute labels) = (steps : List Step) → IsWalkFor s steps → ⊥
IsBestTold s _ = ⊤

-- whatever a block tells of searches has its turn, and is so
pub record TellsBest (airport : Airport) (state : State) (line : List ℕ) (block : Block) : Type 0 where
  pub all_told : map (λ turn. turn.told) (turns_of airport state line block) ≡ told_in block
  pub best : All (λ turn. IsBestTold turn.sought turn.told) (turns_of airport state line block)
