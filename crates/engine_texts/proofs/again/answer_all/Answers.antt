use Rattle.std.proofs.Common.{◌≡◌, ◌∙◌, ◌+◌, ◌++◌, ◌∷◌, [], ℕ, List, arith, length, take, sym, ap, subst}
use Rattle.taxi_base.specs.Airport.{Airport}
use Rattle.replies.specs.Replies.{IsAnswered}
use Rattle.command_run.specs.Supplied.{IsSuppliedRun}
use Rattle.engine_texts.specs.Log.{texts_of}
use Rattle.engine_texts.proofs.Runs.{supplied-more, texts-more}
use Rattle.engine_texts.proofs.again.answer_all.Goals as goal

pub loop-line-preserved : goal.loop-line-preserved
loop-line-preserved c =
    let at = c.loop-line in
    let within = c.loop-line-test.true in
    let line = c.line-item.result in
    let answered = c.in_ok-answer_with_memory.ensures.answered in
    let reply = answered.0 in
    let moved : IsAnswered c.args.engine.now.airport at.engine.state line.items reply.block c.answer_with_memory.new.router.state =
    subst (λ (text : List ℕ). IsAnswered c.args.engine.now.airport at.engine.state text reply.block c.answer_with_memory.new.router.state) c.as_slice.ensures.value
    (subst (λ (a : Airport). IsAnswered a at.engine.state c.as_slice.result.now reply.block c.answer_with_memory.new.router.state) at.invariant.airport reply.answered) in
    let more = texts-more c.args.lines.now at.line-index line within c.line-item.is in
    record {
      airport = c.answer_with_memory.ensures.airport ∙ at.invariant.airport;
      within = omega (arith, within);
      run = subst (λ (lines : List (List ℕ)). IsSuppliedRun c.args.engine.now.airport lines c.answer_with_memory.new.router.state) (sym more)
          (supplied-more c.args.engine.now.airport (texts_of (take at.line-index c.args.lines.now)) at.engine.state c.answer_with_memory.new.router.state line.items reply.block at.invariant.run moved answered.1);
    }
