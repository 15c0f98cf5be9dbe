-- No step of the sum leaves the range of the numbers, so it is that of the integers.
use Rattle.std.proofs.Common.{arith, pos, ◌+ℤ◌, ◌-ℤ◌, ◌*ℤ◌, w32, w64, FitsSigned, ◌∙◌, ap, ℤ}
use Rattle.jiff.proofs.SpanFacts.{signed_arith}
use Rattle.std.proofs.lemmas.Int.{to_z-of_z}
use Rattle.civil_times.proofs.times.second_at.Goals as goal

pub overflow_sub-result : goal.overflow_sub-result
overflow_sub-result c =
    let f1 : FitsSigned w64 c.from.result = omega (arith, signed_arith, c.from.ensures) in
    let f2 : FitsSigned w64 c.from-2.result = omega (arith, signed_arith, c.from-2.ensures) in
    let f3 : FitsSigned w64 c.from-3.result = omega (arith, signed_arith, c.from-3.ensures) in
    let f4 : FitsSigned w64 (c.from.result *ℤ pos 86400) = omega (arith, signed_arith, c.from.ensures) in
    let f5 : FitsSigned w64 (c.from.result *ℤ pos 86400 +ℤ c.from-2.result) = omega (arith, signed_arith, c.from.ensures, c.from-2.ensures) in
    simp to_z-of_z (omega (arith, signed_arith, c.from.ensures, c.from-2.ensures, c.from-3.ensures))

pub returns : goal.returns
returns c =
    let f1 : FitsSigned w64 c.from.result = omega (arith, signed_arith, c.from.ensures) in
    let f2 : FitsSigned w64 c.from-2.result = omega (arith, signed_arith, c.from-2.ensures) in
    let f3 : FitsSigned w64 c.from-3.result = omega (arith, signed_arith, c.from-3.ensures) in
    let f4 : FitsSigned w64 (c.from.result *ℤ pos 86400) = omega (arith, signed_arith, c.from.ensures) in
    let f5 : FitsSigned w64 (c.from.result *ℤ pos 86400 +ℤ c.from-2.result) = omega (arith, signed_arith, c.from.ensures, c.from-2.ensures) in
    let f6 : FitsSigned w64 ((c.from.result *ℤ pos 86400 +ℤ c.from-2.result) -ℤ c.from-3.result) = omega (arith, signed_arith, c.from.ensures, c.from-2.ensures, c.from-3.ensures) in
    let day_fits : FitsSigned w32 c.args.day = c.ranges.day in
    let offset_fits : FitsSigned w32 c.args.offset = c.ranges.offset in
    let day = simp to_z-of_z at c.from.ensures in
    let offset = simp to_z-of_z at c.from-3.ensures in
    simp to_z-of_z (record {
      value = ap (λ (z : ℤ). ((z *ℤ pos 86400) +ℤ c.from-2.result) -ℤ c.from-3.result) day
          ∙ ap (λ (z : ℤ). ((c.args.day *ℤ pos 86400) +ℤ z) -ℤ c.from-3.result) c.from-2.ensures
          ∙ ap (λ (z : ℤ). ((c.args.day *ℤ pos 86400) +ℤ pos c.args.time) -ℤ z) offset;
      range = omega (arith, signed_arith, day, c.from-2.ensures, offset);
    })
