use Rattle.std.proofs.Common.{◌∙◌, ℕ, List, [], ◌∷◌, ◌++◌, Result, Ok, Err, OnOk, sym, ap, subst}
use Rattle.taxi_base.specs.Airport.{Airport}
use Rattle.taxi_base.specs.State.{State}
use Rattle.replies.specs.declared.block.Block.{Block}
use Rattle.replies.specs.Printable.{IsPrintable}
use Rattle.replies.specs.Replies.{IsAnswered}
use Rattle.replies.specs.Texts.{block_text}
use Rattle.command_run.specs.Supplied.{FoundMemory, IsKept}
use Rattle.run_figures.specs.Counts.{AreCounts}
use Rattle.taxi_tools.proofs.reply_counter.ReplyCounterKeeper.answer_and_keep.Goals as goal

pub add-requires-clause-few : goal.add-requires-clause-few
add-requires-clause-few c = (
  c.requires.few.0,
  subst (λ (a : Airport). AreCounts a c.requires.few.0 c.args.self.now.counts) (sym (c.airport-airport.ensures.airport ∙ c.in_ok-answer_with_memory.ensures.airport)) c.requires.few.1,
  c.requires.few.2,
)

-- what is counted with each block before is kept with this one
kept-where_ok : {A E : Type 0} (airport : Airport) (before : State) (line : List ℕ) (after : State) (Kept Keeps : List Block → Type 0) (block : Block) (r : Result A E)
    → IsAnswered airport before line block after → FoundMemory block → ((blocks : List Block) → Kept blocks → OnOk r (Keeps (blocks ++ block ∷ []))) → OnOk r (IsKept airport before line after Kept Keeps)
kept-where_ok airport before line after Kept Keeps block (Ok x) answered found kept = record { block = block; answered = answered; found_memory = found; kept = kept }
kept-where_ok airport before line after Kept Keeps block (Err why) answered found kept = tt

pub returns-clause-kept : goal.returns-clause-kept
returns-clause-kept c =
    let told = c.in_ok-answer_with_memory.ensures.answered in
    let reply = told.0 in
    let as_before = c.airport-airport.ensures.airport ∙ c.in_ok-answer_with_memory.ensures.airport in
    kept-where_ok c.args.self.now.engine.airport c.args.self.now.engine.state c.args.line.now c.answer_with_memory.new.router.state
    (λ blocks. AreCounts c.args.self.now.engine.airport blocks c.args.self.now.counts) (λ blocks. AreCounts c.answer_with_memory.new.router.airport blocks c.add.new.self)
    reply.block c.add.result reply.answered told.1
    (λ blocks counts.
    subst (λ (a : Airport). OnOk c.add.result (AreCounts a (blocks ++ reply.block ∷ []) c.add.new.self)) c.airport-airport.ensures.airport
    (c.add.ensures blocks reply.block (subst (λ (a : Airport). AreCounts a blocks c.args.self.now.counts) (sym as_before) counts)
    (subst (λ (a : Airport). IsPrintable a reply.block) (sym as_before) reply.printable)
    (c.reply-reply.ensures ∙ reply.is_text ∙ ap (λ (a : Airport). block_text a reply.block) (sym as_before))))
