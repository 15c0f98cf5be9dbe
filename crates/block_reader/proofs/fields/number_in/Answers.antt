use Rattle.std.proofs.Common.{◌≡◌, ◌≢◌, ◌<◌, ◌==◌, ◌∙◌, ◌+◌, ◌*◌, List, ℕ, false, Some, inr, sym, ap, subst, arith}
use Rattle.std.specs.Char.{is_ascii_digit}
use Rattle.std.proofs.lemmas.Bool.{eqb-true, false_from_ne_true}
use Rattle.std.proofs.lemmas.List.{take_rest}
use Rattle.block_reader.proofs.Decimals.{IsReadSoFar}
use Rattle.block_reader.proofs.NumberFields.{number-ends, number-more, number-long, number-other, number-missing}
use Rattle.block_reader.proofs.fields.number_in.Goals as goal
use Rattle.block_reader.proofs.fields.number_in.Goals.{else-byte-last-via-then-byte-last+else-place-gt0, else-byte-last-via-else-byte-last}

other : {a b : ℕ} → a ≢ b → (a == b) ≡ false
other differ = false_from_ne_true _ (λ e. differ (eqb-true _ _ e))

pub returns-then-place-gt0 : goal.returns-then-place-gt0
returns-then-place-gt0 c =
    let l = c.loop-place in
    let few : l.place < 8 = omega (arith, c.loop-place-test.true) in
    let end = number-ends c.args.last c.args.bytes.now l.place l.number few c.requires.last l.invariant.before l.invariant.read
    (sym (c.requires.front l.place few) ∙ c.if-byte-last.true) (omega (arith, c.if-place-gt0.true)) (inr (λ zero. c.if-front-eq48.false (c.requires.front 0 (omega arith) ∙ zero))) in
    end.found ∙ ap (λ (r : List ℕ). Some (l.number, r)) (sym (take_rest c.args.bytes.now (l.place + 1)))

pub returns-then-not-is_ascii_digit : goal.returns-then-not-is_ascii_digit
returns-then-not-is_ascii_digit c =
    let l = c.loop-place in
    let few : l.place < 8 = omega (arith, c.loop-place-test.true) in
    let same = c.requires.front l.place few in
    elim c.else-byte-last.branch [
      | else-byte-last-via-then-byte-last+else-place-gt0 w ↦ (
          let first : l.place ≡ 0 = omega (arith, w.if-place-gt0.false) in
          number-missing c.args.last c.args.bytes.now (rw first at (sym same ∙ w.if-byte-last.true)) c.requires.last.0)
      | else-byte-last-via-else-byte-last w ↦
          number-other c.args.last c.args.bytes.now l.place l.invariant.before (other (λ is. w.if-byte-last.false (same ∙ is)))
          (ap (λ b. is_ascii_digit b) (sym same) ∙ sym c.is_ascii_digit.ensures.value ∙ c.if-not-is_ascii_digit.true)
    ]

pub overflow_mul-number : goal.overflow_mul-number
overflow_mul-number c =
    let l = c.loop-place in
    let few : l.place < 8 = omega (arith, c.loop-place-test.true) in
    let digit = ap (λ b. is_ascii_digit b) (sym (c.requires.front l.place few)) ∙ sym c.is_ascii_digit.ensures.value ∙ c.if-not-is_ascii_digit.false in
    let more = number-more c.args.last c.args.bytes.now l.place l.number few c.requires.last l.invariant.before l.invariant.read digit in
    omega (arith, more.small)

pub overflow_add-number : goal.overflow_add-number
overflow_add-number c =
    let l = c.loop-place in
    let few : l.place < 8 = omega (arith, c.loop-place-test.true) in
    let same = c.requires.front l.place few in
    let digit = ap (λ b. is_ascii_digit b) (sym same) ∙ sym c.is_ascii_digit.ensures.value ∙ c.if-not-is_ascii_digit.false in
    let more = number-more c.args.last c.args.bytes.now l.place l.number few c.requires.last l.invariant.before l.invariant.read digit in
    omega (arith, more.small, c.from.ensures, same)

pub loop-place-preserved : goal.loop-place-preserved
loop-place-preserved c =
    let l = c.loop-place in
    let few : l.place < 8 = omega (arith, c.loop-place-test.true) in
    let same = c.requires.front l.place few in
    let digit = ap (λ b. is_ascii_digit b) (sym same) ∙ sym c.is_ascii_digit.ensures.value ∙ c.if-not-is_ascii_digit.false in
    let more = number-more c.args.last c.args.bytes.now l.place l.number few c.requires.last l.invariant.before l.invariant.read digit in
    record {
      before = more.ahead;
      read = subst (λ d. IsReadSoFar c.args.bytes.now (l.place + 1) (l.number * 10 + d)) (sym (omega (arith, c.from.ensures, same))) more.goes_on;
    }

pub returns : goal.returns
returns c =
    let l = c.loop-place in
    let past : l.place ≡ 8 = omega (arith, c.loop-place-test.false, l.auto.place-end) in
    number-long c.args.last c.args.bytes.now (rw past at l.invariant.before)
