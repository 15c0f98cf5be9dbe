use Rattle.std.proofs.Common.{◌≡◌, None, refl, sym, ap, arith, ◌∙◌}
use Rattle.std.proofs.lemmas.Bool.Decides.{nat_tests}
use Rattle.taxi_base.specs.Airport.{clearance_of}
use Rattle.airport_text.specs.Canonical.{clearance_record}
use Rattle.airport_text.specs.Written.{and_records, record_if_any}
use Rattle.airport_text.proofs.RecordLaws.{and_records-none}
use Rattle.airport_text.proofs.write.write_clearance.Goals as goal

-- A class whose clearance is 0 has no record.
pub returns-then-seconds-eq0 : goal.returns-then-seconds-eq0
returns-then-seconds-eq0 c =
    let airport = c.args.airport.now in
    let is : clearance_of airport c.args.class ≡ 0 = grind (arith, nat_tests, c.clearance-seconds.ensures.clearance, c.if-seconds-eq0.true) in
    let none : clearance_record airport c.args.class ≡ None = rw is refl in
    sym (ap (λ o. and_records c.args.records.now (record_if_any o)) none ∙ and_records-none c.args.records.now)
