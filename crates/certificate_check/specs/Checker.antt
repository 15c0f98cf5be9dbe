-- What is a block answered when it is checked, and what is the state then?
use Rattle.std.specs.Prelude.{ℕ, ◌≡◌, ◌⊎◌, List, Result, Ok, Err}
use Rattle.taxi_base.specs.Airport.{Airport}
use Rattle.taxi_base.specs.State.{State}
use Rattle.taxi_base.specs.declared.answers.Refusal.TheVariants as refusal
use Rattle.replies.specs.declared.block.Block.{Block}
use Rattle.replies.specs.declared.block.Block.TheVariants.{Refused}
use Rattle.replies.specs.declared.rule.Rule.TheVariants.{Reply}
use Rattle.transcripts.specs.declared.refused.CheckRefused.{CheckRefused}
use Rattle.transcripts.specs.declared.refused.CheckRefused.TheVariants.{Wrong, Memory}
use Rattle.transcripts.specs.Turns.{ChecksIn}

-- a checker: the airport that it was made for, and who holds what
pub record CheckerState : Type 0 where
  pub airport : Airport
  pub state : State

-- what comes of a block for a line, by a checker whose airport stays
abbrev pub Checks : List ℕ → Block → CheckerState → Result Unit CheckRefused → CheckerState → Type 0
Checks line block old result new = (new.airport ≡ old.airport) × ChecksIn old.airport line block old.state result new.state

-- a line that is no command is to be refused as such, or for want of memory
abbrev pub IsBadLineChecked : Block → Result Unit CheckRefused → Type 0
IsBadLineChecked block (Ok done) = (block ≡ Refused refusal.BadLine) ⊎ (block ≡ Refused refusal.Memory)
IsBadLineChecked block (Err (Wrong rule)) = (rule ≡ Reply) × (block ≡ Refused refusal.BadLine → ⊥) × (block ≡ Refused refusal.Memory → ⊥)
IsBadLineChecked block (Err Memory) = ⊥
