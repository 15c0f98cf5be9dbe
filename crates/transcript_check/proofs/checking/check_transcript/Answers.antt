use Rattle.std.proofs.Common.{◌≡◌, ◌∙◌, sym, ap, true, false, true≢false, arith}
use Rattle.std.proofs.lemmas.Slice.Eq.{bytes_eq-Decides}
use Rattle.taxi_text.specs.Lines.{lines_of, lines_left, is_skipped}
use Rattle.transcript_check.proofs.CheckLaws.{nothing-checked, rest-from, checked-skipped, checked-passed, checked-failed, checked-right, checked-no_end, checked-count}
use Rattle.transcript_check.proofs.checking.check_transcript.Goals as goal

pub loop-line-init : goal.loop-line-init
loop-line-init g c =
    let left : lines_left c.into_iter-line-iterator.result ≡ lines_of c.args.commands.now =
    ap lines_left c.into_iter-line-iterator.ensures.into_iter_gives ∙ c.lines-line-items.ensures in
    record {
      can = tt;
      finite = tt;
      airport = c.requires.same;
      so_far = rw left (nothing-checked c.args.airport.now (lines_of c.args.commands.now) c.args.transcript.now (g.C.BlockChecker.state c.args.checker.now) c.requires.fresh);
    }

pub overflow_add-result : goal.overflow_add-result
overflow_add-result g c =
    let few = checked-count c.args.airport.now c.args.commands.now _ _ _ _ c.loop-line.count c.loop-line.invariant.so_far in
    let within = c.requires.within in
    omega (arith, few, within)

pub overflow_add-count : goal.overflow_add-count
overflow_add-count g c =
    let few = checked-count c.args.airport.now c.args.commands.now _ _ _ _ c.loop-line.count c.loop-line.invariant.so_far in
    let within = c.requires.within in
    omega (arith, few, within)

pub overflow_add-result-2 : goal.overflow_add-result-2
overflow_add-result-2 g c =
    let few = checked-count c.args.airport.now c.args.commands.now _ _ _ _ c.loop-line.count c.loop-line.invariant.so_far in
    let within = c.requires.within in
    omega (arith, few, within)

pub loop-line-preserved-then-not-skipped : goal.loop-line-preserved-then-not-skipped
loop-line-preserved-then-not-skipped g c =
    let kept : is_skipped c.in-Some.line.now ≡ false = sym c.skipped.ensures ∙ c.if-not-skipped.true in
    let passed = c.in-Ok.ensures.verdict in
    record {
      can = tt;
      finite = tt;
      airport = c.check_block.ensures.airport;
      so_far = checked-passed _ _ _ _ _ _ _ _ _ _ c.in-Ok.length _ passed.0 c.loop-line.invariant.so_far c.in-Some.ensures.steps kept
          passed.1 passed.2 (rest-from c.in-Ok.length c.loop-line.rest.now) passed.3;
    }

pub loop-line-preserved : goal.loop-line-preserved
loop-line-preserved g c =
    let skipped : is_skipped c.in-Some.line.now ≡ true = sym c.skipped.ensures ∙ c.if-not-skipped.false in
    record {
      can = tt;
      finite = tt;
      airport = c.loop-line.invariant.airport;
      so_far = checked-skipped _ _ _ _ _ _ _ _ _ c.loop-line.invariant.so_far c.in-Some.ensures.steps skipped;
    }

pub returns-in-Err-Fails : goal.returns-in-Err-Fails
returns-in-Err-Fails g c =
    let kept : is_skipped c.in-Some.line.now ≡ false = sym c.skipped.ensures ∙ c.if-not-skipped.true in
    rw c.in-Err-Fails.field-0-is
    (checked-failed _ _ _ _ _ _ _ _ _ _ c.loop-line.invariant.so_far c.in-Some.ensures.steps kept (rw c.in-Err-Fails.field-0-is at c.in-Err-Fails.ensures.verdict))

pub returns-then-eq : goal.returns-then-eq
returns-then-eq g c =
    let last : c.loop-line.rest.now ≡ c.bytes.result.now = (bytes_eq-Decides c.loop-line.rest.now c.bytes.result.now).0 (sym c.eq.ensures ∙ c.if-eq.true) in
    checked-right _ _ _ _ _ _ c.loop-line.count c.horizon.ensures.rules c.loop-line.invariant.so_far c.in-None.ensures.steps.0 (last ∙ c.bytes.ensures.same ∙ c.done_line.ensures)

pub returns : goal.returns
returns g c =
    let told = c.bytes.ensures.same ∙ c.done_line.ensures in
    checked-no_end _ _ _ _ _ _ _ c.loop-line.invariant.so_far c.in-None.ensures.steps.0
    (λ last. true≢false (sym ((bytes_eq-Decides c.loop-line.rest.now c.bytes.result.now).1 (last ∙ sym told)) ∙ sym c.eq.ensures ∙ c.if-eq.false))
