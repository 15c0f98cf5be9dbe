use Rattle.std.proofs.Common.{◌≡◌, ◌∙◌, ◌++◌, ◌∷◌, [], ℕ, List, Ok, IfSome, arith, sym, ap, subst}
use Rattle.taxi_base.specs.Airport.{Airport}
use Rattle.taxi_base.specs.State.{State, no_holder}
use Rattle.replies.specs.declared.block.Block.{Block}
use Rattle.replies.specs.Replies.{IsAnswered}
use Rattle.replies.specs.Printable.{IsPrintable}
use Rattle.replies.specs.Texts.{block_text}
use Rattle.transcripts.proofs.RunLaws.{in_turn-length}
use Rattle.block_reader.specs.Read.{IsBlockText}
use Rattle.command_run.specs.Supplied.{IsKeptRun}
use Rattle.run_figures.specs.Counts.{AreCounts}
use Rattle.engine_texts.specs.Log.{lines_in, last_of}
use Rattle.engine_texts.specs.InStep.{IsRunLogged}
use Rattle.engine_texts.proofs.Runs.{kept-more, some-any, on-ok}
use Rattle.engine_texts.proofs.session.Session.answer.Goals as goal

pub add-requires : goal.add-requires
add-requires c =
    let inside = c.self.inside in
    let run = (c.self.invariant.logged c.if-self.true).run in
    let told = c.answer.ensures in
    let airport = c.airport-airport.ensures.airport ∙ told.airport in
    record {
      block = subst (λ (a : Airport). IsBlockText a c.reply-reply.result.now) (sym airport) (told.block, told.printable, c.reply-reply.ensures ∙ told.reply);
      blocks = run.run.blocks;
      counts = subst (λ (a : Airport). AreCounts a run.run.blocks inside.log.counts) (sym airport) run.kept;
      each = in_turn-length IsAnswered inside.engine.airport no_holder inside.engine.state (lines_in inside.log.lines) run.run.blocks run.run.run;
    }

pub invariant_of-self : goal.invariant_of-self
invariant_of-self c =
    let inside = c.self.inside in
    let engine = inside.engine in
    let run = (c.self.invariant.logged c.if-self.true).run in
    let told = c.answer.ensures in
    let airport = c.airport-airport.ensures.airport ∙ told.airport in
    let text = c.reply-reply.ensures ∙ told.reply in
    let here = c.reply-reply.ensures ∙ told.reply ∙ ap (λ (a : Airport). block_text a told.block) (sym airport) in
    record {
      few = c.self.invariant.few;
      airport = c.self.invariant.airport ∙ ap Ok (sym told.airport);
      logged = λ whole.
          let ok = sym c.is_ok-self-inside.ensures.value ∙ whole in
          let lines = on-ok c.add.result _ ok c.add.ensures.lines in
          let found = on-ok c.add.result _ ok (c.add.ensures.found told.block here) in
          let keeps : (blocks : List Block) → AreCounts engine.airport blocks inside.log.counts → AreCounts engine.airport (blocks ++ told.block ∷ []) c.add.new.self.counts =
          λ blocks counts.
          subst (λ (a : Airport). AreCounts a (blocks ++ told.block ∷ []) c.add.new.self.counts) airport
          (on-ok c.add.result _ ok (c.add.ensures.counts blocks told.block (subst (λ (a : Airport). AreCounts a blocks inside.log.counts) (sym airport) counts)
          (subst (λ (a : Airport). IsPrintable a told.block) (sym airport) told.printable) here)) in
          let more = kept-more engine.airport (lines_in inside.log.lines) engine.state c.answer.new.self.state (λ blocks. AreCounts engine.airport blocks inside.log.counts)
          (λ blocks. AreCounts engine.airport blocks c.add.new.self.counts) c.args.line.now told.block run told.answered found keeps in
          let moved = subst (λ (a : Airport). IsKeptRun a (lines_in inside.log.lines ++ c.args.line.now ∷ []) c.answer.new.self.state (λ blocks. AreCounts a blocks c.add.new.self.counts)) (sym told.airport) more in
          record {
            run = subst (λ (l : List (List ℕ)). IsKeptRun c.answer.new.self.airport l c.answer.new.self.state (λ blocks. AreCounts c.answer.new.self.airport blocks c.add.new.self.counts)) (sym lines) moved;
            reply = some-any (last_of (lines_in c.add.new.self.lines)) (IsBlockText c.answer.new.self.airport c.answer.new.self.reply)
                (subst (λ (a : Airport). IsBlockText a c.answer.new.self.reply) (sym told.airport) (told.block, told.printable, told.reply));
          };
    }
