-- Does a block pass as the answer to a command, by which rule does it fail first, and what is the state then? Beside `refused memory`.
use Rattle.std.specs.Prelude.{◌≡◌, Bool, if◌then◌else◌, Option, Some, None, All, Result, Ok, Err, MatchOption, ⊤}
use Rattle.taxi_base.specs.Airport.{Airport}
use Rattle.taxi_base.specs.State.{State}
use Rattle.taxi_text.specs.declared.command.Command.{Command}
use Rattle.taxi_text.specs.declared.command.Command.TheVariants as command
use Rattle.replies.specs.declared.block.Block.{Block}
use Rattle.replies.specs.declared.block.Block.TheVariants.{Refused, Filed, Cancelled}
use Rattle.replies.specs.declared.rule.Rule.{Rule}
use Rattle.replies.specs.declared.rule.Rule.TheVariants as rule
use Rattle.replies.specs.Refusals.{first_refusal}
use Rattle.replies.specs.Replies.{IsDueTo}
use Rattle.replies.specs.Sought.{Sought}
use Rattle.replies.specs.Turns.{after_told, begins_for, turns_for, after_turns}
use Rattle.replies.specs.Passes.{IsFormOf, IsAsAsked, KeepsSought, KeepsTurn, IsFirstOf, BreaksFirst}
use Rattle.transcripts.specs.declared.refused.CheckRefused.{CheckRefused}
use Rattle.transcripts.specs.declared.refused.CheckRefused.TheVariants.{Wrong, Memory}

-- a block passes where it is of the form that is due
abbrev pub passed_if : Bool → Result Unit CheckRefused
passed_if kept = if kept then Ok tt else Err (Wrong rule.Reply)

-- and where it breaks no rule
abbrev pub answer_of : Option Rule → Result Unit CheckRefused
answer_of None = Ok tt
answer_of (Some rule) = Err (Wrong rule)

-- the first of some rules that is not kept is answered, or that all are, or that memory ran out
abbrev pub IsAnsweredBy : (Rule → Type 0) → Result Unit CheckRefused → Type 0
IsAnsweredBy IsKept (Ok done) = IsFirstOf IsKept None
IsAnsweredBy IsKept (Err (Wrong rule)) = IsFirstOf IsKept (Some rule)
IsAnsweredBy IsKept (Err Memory) = ⊤

-- ---- what is told of a search

abbrev pub KeepsTold : Sought → Block → Rule → Type 0
KeepsTold s block rule.Reply = IsFormOf s block
KeepsTold s block rule.Walk = KeepsSought rule.Walk s block
KeepsTold s block rule.Rows = KeepsSought rule.Rows s block
KeepsTold s block rule.Start = KeepsSought rule.Start s block
KeepsTold s block rule.Step = KeepsSought rule.Step s block
KeepsTold s block rule.Target = KeepsSought rule.Target s block

-- none of the rules is broken, or one is, and only where none is the state changes
abbrev pub IsToldOf : Sought → Block → State → Result Unit CheckRefused → State → Type 0
IsToldOf s block old (Ok done) new = IsFirstOf (KeepsTold s block) None × (new ≡ after_told s block)
IsToldOf s block old (Err (Wrong broken)) new = IsFirstOf (KeepsTold s block) (Some broken) × (new ≡ old)
IsToldOf s block old (Err Memory) new = new ≡ old

-- ---- a command

-- it seeks no walk
abbrev pub IsPlain : Command → Type 0
IsPlain (command.File filed) = ⊤
IsPlain (command.Cancel name) = ⊤
IsPlain (command.Windows name) = ⊤
IsPlain (command.Occupancy name) = ⊤
IsPlain command.Timetable = ⊤
IsPlain (command.Work shut) = ⊤
IsPlain (command.WorkDone name) = ⊤
IsPlain _ = ⊥

-- where a refusal is due, the block is that refusal
abbrev pub IsDueForm : Airport → State → Command → Block → Type 0
IsDueForm airport state command block =
    MatchOption (first_refusal airport state command) (IsAsAsked airport state command block) (λ why. block ≡ Refused why)

-- a rule is kept: the first one as a whole, and the others in each search
abbrev pub KeepsFor : Airport → State → Command → Block → Rule → Type 0
KeepsFor airport state command block rule.Reply = IsDueForm airport state command block
KeepsFor airport state command block rule.Walk = All (λ turn. KeepsTurn turn rule.Walk) (turns_for airport state command block)
KeepsFor airport state command block rule.Rows = All (λ turn. KeepsTurn turn rule.Rows) (turns_for airport state command block)
KeepsFor airport state command block rule.Start = All (λ turn. KeepsTurn turn rule.Start) (turns_for airport state command block)
KeepsFor airport state command block rule.Step = All (λ turn. KeepsTurn turn rule.Step) (turns_for airport state command block)
KeepsFor airport state command block rule.Target = All (λ turn. KeepsTurn turn rule.Target) (turns_for airport state command block)

-- the first rule that is broken: reply, or where that is kept, the first that the searches break
abbrev pub BreaksFor : Airport → State → Command → Block → Rule → Type 0
BreaksFor airport state command block rule.Reply = IsDueForm airport state command block → ⊥
BreaksFor airport state command block rule.Walk = IsDueForm airport state command block × BreaksFirst (turns_for airport state command block) rule.Walk
BreaksFor airport state command block rule.Rows = IsDueForm airport state command block × BreaksFirst (turns_for airport state command block) rule.Rows
BreaksFor airport state command block rule.Start = IsDueForm airport state command block × BreaksFirst (turns_for airport state command block) rule.Start
BreaksFor airport state command block rule.Step = IsDueForm airport state command block × BreaksFirst (turns_for airport state command block) rule.Step
BreaksFor airport state command block rule.Target = IsDueForm airport state command block × BreaksFirst (turns_for airport state command block) rule.Target

abbrev pub IsAfterFor : Airport → State → Command → Block → State → Type 0
IsAfterFor airport state command (Filed name start end) after = IsDueTo airport state command (Filed name start end) after
IsAfterFor airport state command (Cancelled name) after = IsDueTo airport state command (Cancelled name) after
IsAfterFor airport state command block after = after ≡ after_turns (begins_for airport state command block) (turns_for airport state command block)

-- a block passes that keeps every rule, and only then the state changes
abbrev pub IsJudged : Airport → Command → Block → State → Result Unit CheckRefused → State → Type 0
IsJudged airport command block old (Ok done) new = ((rule : Rule) → KeepsFor airport old command block rule) × IsAfterFor airport old command block new
IsJudged airport command block old (Err (Wrong broken)) new = BreaksFor airport old command block broken × (new ≡ old)
IsJudged airport command block old (Err Memory) new = new ≡ old
