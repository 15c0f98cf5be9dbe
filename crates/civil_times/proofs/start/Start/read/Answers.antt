use Rattle.std.proofs.Common.{sym, ◌∙◌, arith, w32, FitsSigned, refl}
use Rattle.std.proofs.lemmas.Int.{to_z-of_z}
use Rattle.jiff.proofs.SpanFacts.{signed_arith}
use Rattle.civil_times.proofs.StartLaws.{never-some, no-second, no-day, no-time, too-late, read-start}
use Rattle.civil_times.proofs.start.Start.read.Goals as goal

pub returns-in_err-second_of-clause-some : goal.returns-in_err-second_of-clause-some
returns-in_err-second_of-clause-some c = never-some _ _ c.from_residual.ensures (no-second c.args.text.now (sym c.second_of.ensures.value ∙ c.in_err-second_of.was))

pub returns-in_err-day-clause-some : goal.returns-in_err-day-clause-some
returns-in_err-day-clause-some c = never-some _ _ c.from_residual-in_err-day.ensures (no-day c.args.text.now (sym c.day_of.ensures.value ∙ c.in_err-day.was))

pub returns-in_err-time-clause-some : goal.returns-in_err-time-clause-some
returns-in_err-time-clause-some c = never-some _ _ c.from_residual-in_err-time.ensures (no-time c.args.text.now (sym c.time_of.ensures.value ∙ c.in_err-time.was))

pub returns-then-branch-ge2999-clause-some : goal.returns-then-branch-ge2999-clause-some
returns-then-branch-ge2999-clause-some c =
    (λ never. absurd (cc never), λ starts. absurd (too-late c.args.text.now c.in_ok-year_of.field-0 (sym c.year_of.ensures ∙ c.in_ok-year_of.was) c.if-branch-ge2999.true starts))

pub copy_of-requires : goal.copy_of-requires
copy_of-requires c =
    let read = read-start c.args.text.now c.in_ok-second_of.field-0 c.in_ok-day.day c.in_ok-time.time c.in_ok-year_of.field-0 (sym c.second_of.ensures.value ∙ c.in_ok-second_of.was)
    (sym c.day_of.ensures.value ∙ c.in_ok-day.was) (sym c.time_of.ensures.value ∙ c.in_ok-time.was) (sym c.year_of.ensures ∙ c.in_ok-year_of.was) c.if-branch-ge2999.false c.in_ok-time.ensures.range in
    let short = read.short in
    omega (arith, short)

pub invariant_of-result : goal.invariant_of-result
invariant_of-result c =
    let read = read-start c.args.text.now c.in_ok-second_of.field-0 c.in_ok-day.day c.in_ok-time.time c.in_ok-year_of.field-0 (sym c.second_of.ensures.value ∙ c.in_ok-second_of.was)
    (sym c.day_of.ensures.value ∙ c.in_ok-day.was) (sym c.time_of.ensures.value ∙ c.in_ok-time.was) (sym c.year_of.ensures ∙ c.in_ok-year_of.was) c.if-branch-ge2999.false c.in_ok-time.ensures.range in
    let day = c.in_ok-day.ensures.range in
    let fits : FitsSigned w32 c.in_ok-day.day = omega (arith, signed_arith, day) in
    simp to_z-of_z (rw c.copy_of.ensures read)

pub returns-clause-some : goal.returns-clause-some
returns-clause-some c =
    let read = read-start c.args.text.now c.in_ok-second_of.field-0 c.in_ok-day.day c.in_ok-time.time c.in_ok-year_of.field-0 (sym c.second_of.ensures.value ∙ c.in_ok-second_of.was)
    (sym c.day_of.ensures.value ∙ c.in_ok-day.was) (sym c.time_of.ensures.value ∙ c.in_ok-time.was) (sym c.year_of.ensures ∙ c.in_ok-year_of.was) c.if-branch-ge2999.false c.in_ok-time.ensures.range in
    (λ yes. read.start, λ starts. refl)
