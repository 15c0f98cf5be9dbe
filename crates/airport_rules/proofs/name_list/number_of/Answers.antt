-- A name has at most sixteen bytes, so its number fits.
use Rattle.std.proofs.Common.{◌+◌, ◌*◌, arith, ap, get_or, ◌∙◌, sym}
use Rattle.std.specs.Int.Digits.{number_from_digits}
use Rattle.std.proofs.lemmas.List.{take_all}
use Rattle.std.proofs.lemmas.Int.Digits.{number_more}
use Rattle.taxi_base.proofs.NameDigits.{digit-fits, digit-grows}
use Rattle.airport_rules.specs.Places.{number_of}
use Rattle.airport_rules.proofs.NumberLaws.{byte-at}
use Rattle.airport_rules.proofs.name_list.number_of.Goals as goal

pub overflow_mul-number : goal.overflow_mul-number
overflow_mul-number c =
    let byte = byte-at c.bytes-bytes.result.now c.loop-byte.byte-index (rw c.bytes-bytes.ensures.same c.bytes-bytes.ensures.name) c.loop-byte-test.true in
    let fits = digit-fits c.loop-byte.number c.loop-byte.byte-index 0 c.loop-byte.invariant.1 byte.1 (omega arith) in
    omega (arith, fits)

pub overflow_add-number : goal.overflow_add-number
overflow_add-number c =
    let byte = byte-at c.bytes-bytes.result.now c.loop-byte.byte-index (rw c.bytes-bytes.ensures.same c.bytes-bytes.ensures.name) c.loop-byte-test.true in
    let fits = digit-fits c.loop-byte.number c.loop-byte.byte-index (get_or c.bytes-bytes.result.now c.loop-byte.byte-index 0) c.loop-byte.invariant.1 byte.1 byte.0 in
    omega (arith, fits)

pub loop-byte-preserved : goal.loop-byte-preserved
loop-byte-preserved c =
    let byte = byte-at c.bytes-bytes.result.now c.loop-byte.byte-index (rw c.bytes-bytes.ensures.same c.bytes-bytes.ensures.name) c.loop-byte-test.true in
    (ap (λ n. n * 256 + get_or c.bytes-bytes.result.now c.loop-byte.byte-index 0) c.loop-byte.invariant.0 ∙ sym (number_more 256 c.bytes-bytes.result.now c.loop-byte.byte-index c.loop-byte-test.true), digit-grows c.loop-byte.number c.loop-byte.byte-index _ c.loop-byte.invariant.1 byte.0)

pub returns-clause-number : goal.returns-clause-number
unfolding number_of
returns-clause-number c =
    c.loop-byte.invariant.0 ∙ ap (number_from_digits 256) (take_all c.loop-byte.byte-index c.bytes-bytes.result.now (omega arith) ∙ c.bytes-bytes.ensures.same)
