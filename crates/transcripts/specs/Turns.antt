-- What comes of one line of a run, where it is answered, and where the block that answers it is checked?
use Rattle.std.specs.Prelude.{◌≡◌, ℕ, List, Result, Ok, Err}
use Rattle.taxi_base.specs.Airport.{Airport}
use Rattle.taxi_base.specs.State.{State, IsSound}
use Rattle.replies.specs.declared.block.Block.{Block}
use Rattle.replies.specs.Texts.{block_text}
use Rattle.replies.specs.Printable.{IsPrintable}
use Rattle.replies.specs.Replies.{IsAnswered}
use Rattle.replies.specs.Passes.{IsPassed, IsFirstBroken, TellsBest}
use Rattle.transcripts.specs.declared.refused.CheckRefused.{CheckRefused}
use Rattle.transcripts.specs.declared.refused.CheckRefused.TheVariants.{Wrong, Memory}

-- These bytes are the text of a block that answers the line. The block passes every rule of a check, and its text is in the grammar.
pub record IsReplyText (airport : Airport) (before : State) (line text : List ℕ) (after : State) : Type 0 where
  pub block : Block
  pub answered : IsAnswered airport before line block after
  pub passed : IsPassed airport before line block after
  pub printable : IsPrintable airport block
  pub is_text : text ≡ block_text airport block

-- A block passes, or the first rule that it breaks is told, or memory ran out. Where it passes it keeps every rule, what it says
-- of walks is so, and the state afterwards is sound; else the state stays. A block that passes breaks no rule, so it is never
-- told one.
abbrev pub ChecksIn : Airport → List ℕ → Block → State → Result Unit CheckRefused → State → Type 0
ChecksIn airport line block old (Ok done) new = IsPassed airport old line block new × TellsBest airport old line block × IsSound airport new
ChecksIn airport line block old (Err (Wrong rule)) new = IsFirstBroken airport old line block rule × (new ≡ old)
ChecksIn airport line block old (Err Memory) new = new ≡ old
