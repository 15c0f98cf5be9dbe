use Rattle.std.proofs.Common.{◌≤◌, ◌++◌, ◌∷◌, [], ap, sym, refl, subst, length, arith}
use Rattle.std.specs.Prelude.{Err}
use Rattle.std.proofs.lemmas.Result.{err_from_is_err_and}
use Rattle.taxi_text.specs.declared.command.CommandRefused.{CommandRefused}
use Rattle.taxi_text.specs.Commands.{requests_of, batch_of, up_to}
use Rattle.taxi_text.specs.Reading.{IsReading}
use Rattle.taxi_text.specs.Words.{words_left}
use Rattle.taxi_text.proofs.Gathering.{all_done}
use Rattle.taxi_text.proofs.BatchRequests.{request_more, request_bad, requests_many, requests_few, batch_read, refusal_read}
use Rattle.taxi_text.proofs.batch.read_batch.Goals as goal

pub loop-verb-preserved : goal.loop-verb-preserved
loop-verb-preserved c =
    let inv = c.loop-verb.invariant in (
      inv.0 ++ c.in-Some-next_request.request ∷ [],
      c.add.ensures.added inv.0 inv.1,
      omega (arith, c.add.ensures.counted, c.if-gathered-eq-MOST_REQUESTS.false, inv.2),
      request_more (requests_of (words_left c.args.words.now)) inv.0 c.in-Some-next_request.request c.in-Some.verb.now (words_left c.loop-verb.words) (words_left c.next.new.self)
          (words_left c.next_request.new.words) inv.3 c.in-Some.ensures.steps c.in-Some-next_request.ensures.value (c.in-Some-next_request.ensures.rest refl),
    )

pub returns-in_default-next_request : goal.returns-in_default-next_request
returns-in_default-next_request c =
    let inv = c.loop-verb.invariant in
    request_bad (requests_of (words_left c.args.words.now)) inv.0 c.in-Some.verb.now (words_left c.loop-verb.words) (words_left c.next.new.self) inv.3 c.in-Some.ensures.steps
    c.in_default-next_request.ensures.value

pub returns-then-gathered-eq-MOST_REQUESTS : goal.returns-then-gathered-eq-MOST_REQUESTS
returns-then-gathered-eq-MOST_REQUESTS c =
    let inv = c.loop-verb.invariant in
    let more = request_more (requests_of (words_left c.args.words.now)) inv.0 c.in-Some-next_request.request c.in-Some.verb.now (words_left c.loop-verb.words) (words_left c.next.new.self)
    (words_left c.next_request.new.words) inv.3 c.in-Some.ensures.steps c.in-Some-next_request.ensures.value (c.in-Some-next_request.ensures.rest refl) in
    requests_many (requests_of (words_left c.args.words.now)) inv.0 c.in-Some-next_request.request (requests_of (words_left c.next_request.new.words)) more
    (omega (arith, inv.1.counted, c.if-gathered-eq-MOST_REQUESTS.true))

pub returns-then-gathered-lt-LEAST_REQUESTS : goal.returns-then-gathered-lt-LEAST_REQUESTS
returns-then-gathered-lt-LEAST_REQUESTS c =
    let inv = c.loop-verb.invariant in
    let words = words_left c.args.words.now in
    let all = all_done (requests_of words) inv.0 (requests_of (words_left c.loop-verb.words)) inv.3 (ap requests_of c.in_default.ensures.steps.0) in
    requests_few (requests_of words) inv.0 all (omega (arith, inv.1.counted, c.if-gathered-lt-LEAST_REQUESTS.true))

pub returns : goal.returns
returns c =
    let inv = c.loop-verb.invariant in
    let words = words_left c.args.words.now in
    let all = all_done (requests_of words) inv.0 (requests_of (words_left c.loop-verb.words)) inv.3 (ap requests_of c.in_default.ensures.steps.0) in
    batch_read (requests_of words) inv.0 c.in_ok-requests.requests all (omega (arith, c.if-gathered-lt-LEAST_REQUESTS.false, inv.1.counted)) (omega (arith, inv.2, inv.1.counted))
    (c.in_ok-requests.ensures inv.0 6 inv.1 inv.2)

pub returns-in_err-requests : goal.returns-in_err-requests
returns-in_err-requests c =
    let inv = c.loop-verb.invariant in
    let words = words_left c.args.words.now in
    let all = all_done (requests_of words) inv.0 (requests_of (words_left c.loop-verb.words)) inv.3 (ap requests_of c.in_default.ensures.steps.0) in
    let least : 2 ≤ length inv.0 = omega (arith, c.if-gathered-lt-LEAST_REQUESTS.false, inv.1.counted) in
    let most : length inv.0 ≤ 6 = omega (arith, inv.2, inv.1.counted) in
    let read : IsReading (up_to 6 inv.0) (Err c.in_err-requests.field-0.0) = rw c.in_err-requests.was at (c.finish.ensures inv.0 6 inv.1 inv.2) in
    let err = err_from_is_err_and c.from_residual.result c.from_residual.ensures.1 in
    rw err.1
    (subst (λ (why : CommandRefused). IsReading (batch_of words) (Err why)) (sym err.2)
    (refusal_read (requests_of words) inv.0 c.in_err-requests.field-0.0 all least most read))
