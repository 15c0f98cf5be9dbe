use Rattle.std.proofs.Common.{◌<◌, length, arith, sym, ap}
use Rattle.std.proofs.lemmas.List.{length-map}
use Rattle.airport_text.specs.Canonical.{class_record}
use Rattle.airport_text.proofs.RecordLaws.{and_records-none, item-more}
use Rattle.airport_text.proofs.write.write_classes.Goals as goal

pub loop-number-init : goal.loop-number-init
loop-number-init c = sym (and_records-none _)

pub loop-number-preserved : goal.loop-number-preserved
loop-number-preserved c =
    let low : c.loop-number.number < length c.args.airport.now.classes =
    omega (arith, c.count-number-end.ensures, ap (λ t. length t.table) c.classes.ensures, length-map c.args.airport.now.classes (λ row. row.seconds)) in
    item-more class_record c.args.airport.now.classes c.loop-number.number _ _ _ low c.loop-number.invariant c.in_ok-write_class.ensures
