use Rattle.std.proofs.Common.{◌++◌, ◌∷◌, [], List, Option, sym, ap, subst, arith}
use Rattle.taxi_text.specs.declared.command.FiledStep.{FiledStep}
use Rattle.taxi_text.specs.Commands.{◌>>=◌, steps_of, up_to}
use Rattle.taxi_text.specs.Reading.{IsReading}
use Rattle.taxi_text.specs.Words.{words_left}
use Rattle.taxi_text.proofs.Gathering.{too_many, all_done}
use Rattle.taxi_text.proofs.FiledSteps.{done_more}
use Rattle.taxi_text.proofs.filed.read_steps.Goals as goal

pub returns-then-gathered-eq-MOST_STEPS : goal.returns-then-gathered-eq-MOST_STEPS
returns-then-gathered-eq-MOST_STEPS c =
    let done = c.loop-arc.invariant.0 in
    let more = done_more (steps_of (words_left c.args.words.now)) done c.in-Some-next_step.step c.in-Some.arc.now (words_left c.loop-arc.words) (words_left c.next.new.self) (words_left c.next_step.new.words)
    c.loop-arc.invariant.2 c.in-Some.ensures.steps c.in-Some-next_step.ensures.value c.in-Some-next_step.ensures.rest in
    too_many 256 (steps_of (words_left c.args.words.now)) done c.in-Some-next_step.step (steps_of (words_left c.next_step.new.words)) more (let n = c.loop-arc.invariant.1.counted in let full = c.if-gathered-eq-MOST_STEPS.true in omega (arith, n, full))

pub loop-arc-preserved : goal.loop-arc-preserved
loop-arc-preserved c =
    let done = c.loop-arc.invariant.0 in (
      done ++ c.in-Some-next_step.step ∷ [],
      c.add.ensures.added done c.loop-arc.invariant.1,
      done_more (steps_of (words_left c.args.words.now)) done c.in-Some-next_step.step c.in-Some.arc.now (words_left c.loop-arc.words) (words_left c.next.new.self) (words_left c.next_step.new.words)
          c.loop-arc.invariant.2 c.in-Some.ensures.steps c.in-Some-next_step.ensures.value c.in-Some-next_step.ensures.rest,
    )

pub returns : goal.returns
returns c =
    let inv = c.loop-arc.invariant in
    let ended = c.in_default.ensures.steps.0 in
    let all = all_done (steps_of (words_left c.args.words.now)) inv.0 (steps_of (words_left c.loop-arc.words)) inv.2 (ap steps_of ended) in
    subst (λ (o : Option (List FiledStep)). IsReading (o >>= up_to 256) c.finish.result) (sym all) (c.finish.ensures inv.0 256 inv.1 inv.1.few)
