-- What does the check of a transcript find?
use Rattle.std.specs.Prelude.{◌≡◌, ℕ, List, length, Result, Ok, Err, ⊤}
use Rattle.taxi_base.specs.Airport.{Airport}
use Rattle.taxi_base.specs.State.{State, no_holder}
use Rattle.replies.specs.declared.block.Block.{Block}
use Rattle.replies.specs.Texts.{block_text}
use Rattle.replies.specs.Passes.{IsPassed}
use Rattle.block_reader.specs.declared.refused.BlockRefused.{BlockRefused}
use Rattle.block_reader.specs.declared.refused.BlockRefused.TheVariants as read
use Rattle.block_reader.specs.Read.{BeginsWith}
use Rattle.transcript_check.specs.declared.failure.Failure.TheVariants as failure
use Rattle.transcript_check.specs.declared.checking.Verdict.{Verdict}
use Rattle.transcript_check.specs.declared.checking.Verdict.TheVariants.{Right, Wrong}
use Rattle.transcript_check.specs.declared.not_passed.NotPassed.{NotPassed}
use Rattle.transcript_check.specs.declared.not_passed.NotPassed.TheVariants.{Fails, Memory}
use Rattle.transcripts.specs.declared.refused.CheckRefused.{CheckRefused}
use Rattle.transcripts.specs.declared.refused.CheckRefused.TheVariants as check
use Rattle.transcripts.specs.Runs.{InTurn}
use Rattle.transcript_check.specs.Checks.{IsRight, IsWrongAt, IsTrusted, BlockFails}

abbrev pub IsVerdict : Airport → List (List ℕ) → List ℕ → Verdict → Type 0
IsVerdict airport commands text (Right count) =
    (blocks : List Block) × (right : IsRight airport commands text blocks)
    × InTurn IsTrusted airport no_holder commands blocks right.after × (count ≡ length blocks)
IsVerdict airport commands text (Wrong number why) = IsWrongAt airport commands text number why

-- ---- no public clause cites these

-- why a block that can't be read, or that the checker refuses, is not passed
abbrev pub not_passed_for_read : BlockRefused → NotPassed
not_passed_for_read read.NotABlock = Fails failure.Form
not_passed_for_read read.Memory = Memory

abbrev pub not_passed_for_check : CheckRefused → NotPassed
not_passed_for_check (check.Wrong rule) = Fails (failure.Rule rule)
not_passed_for_check check.Memory = Memory

-- a block that passes, with the length of its text, or why the block that is due fails
abbrev pub IsBlockVerdict : Airport → State → List ℕ → List ℕ → State → Result ℕ NotPassed → Type 0
IsBlockVerdict airport old line rest new (Ok count) =
    (block : Block) × BeginsWith airport rest block × (count ≡ length (block_text airport block)) × IsPassed airport old line block new
IsBlockVerdict airport old line rest new (Err (Fails why)) = BlockFails airport old line rest why
IsBlockVerdict airport old line rest new (Err Memory) = ⊤
