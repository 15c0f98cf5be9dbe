use Rattle.std.proofs.Common.{◌≡◌, None, sym, ap, ◌∙◌}
use Rattle.std.specs.Prelude.{option_map}
use Rattle.taxi_base.specs.Airport.{seconds, seconds_in}
use Rattle.airport_text.specs.Canonical.{time_record}
use Rattle.airport_text.specs.Written.{and_records, record_if_any}
use Rattle.airport_text.proofs.RecordLaws.{and_records-none}
use Rattle.airport_text.proofs.write.write_time.Goals as goal

-- A class that may not use the segment has no record.
pub returns-in_default : goal.returns-in_default
returns-in_default c =
    let airport = c.args.airport.now in
    let barred : seconds airport c.args.class c.args.segment ≡ None =
    ap (λ t. seconds_in t.table c.args.class c.args.segment) (sym c.classes.ensures) ∙ (sym c.seconds.ensures.set ∙ c.in_default.is) in
    let none : time_record airport c.args.segment c.args.class ≡ None = ap (option_map _) barred in
    sym (ap (λ o. and_records c.args.records.now (record_if_any o)) none ∙ and_records-none c.args.records.now)
