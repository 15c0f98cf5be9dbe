-- What a reply to a line is to a reader of blocks and to a checker.
use Rattle.std.proofs.Common.{◌≡◌, ◌∙◌, ℕ, List, sym, subst}
use Rattle.taxi_base.specs.Airport.{Airport}
use Rattle.taxi_base.specs.State.{State}
use Rattle.replies.specs.declared.block.Block.{Block}
use Rattle.replies.specs.Texts.{block_text}
use Rattle.replies.specs.Printable.{IsPrintable}
use Rattle.replies.specs.Replies.{IsAnswered}
use Rattle.replies.specs.Passes.{IsPassed}
use Rattle.transcripts.specs.Turns.{IsReplyText}

module _ (airport own : Airport) (old new : State) (line text : List ℕ) (reply : IsReplyText own old line text new) (same : own ≡ airport) where
  pub reply-printable : IsPrintable airport reply.block
  reply-printable = subst (λ a. IsPrintable a reply.block) same reply.printable

  pub reply-text : (bytes : List ℕ) → bytes ≡ text → bytes ≡ block_text airport reply.block
  reply-text bytes told = told ∙ subst (λ a. text ≡ block_text a reply.block) same reply.is_text

  pub reply-answers : (block : Block) → block ≡ reply.block → IsAnswered airport old line block new
  reply-answers block told =
      subst (λ b. IsAnswered airport old line b new) (sym told) (subst (λ a. IsAnswered a old line reply.block new) same reply.answered)

  pub reply-passes : (block : Block) → block ≡ reply.block → IsPassed airport old line block new
  reply-passes block told =
      subst (λ b. IsPassed airport old line b new) (sym told) (subst (λ a. IsPassed a old line reply.block new) same reply.passed)
