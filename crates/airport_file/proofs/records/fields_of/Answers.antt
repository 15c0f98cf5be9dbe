-- There is a field at each place, and one more is taken.
use Rattle.std.proofs.Common.{ap, sym, ◌∙◌, arith}
use Rattle.std.specs.Prelude.{option_map}
use Rattle.csv.specs.Records.{fields_of}
use Rattle.airport_file.proofs.ReadLaws.{field-there, texts-more}
use Rattle.airport_file.proofs.records.fields_of.Goals as goal

pub unwrap-requires : goal.unwrap-requires
unwrap-requires c = field-there (fields_of c.args.row.now) c.loop-at.at c.get.result (omega (arith, c.loop-at-test.true, c.len-at-end.ensures)) c.get.ensures.value

pub loop-at-preserved : goal.loop-at-preserved
loop-at-preserved c =
    rw c.in_ok-push.ensures.items
    (texts-more c.loop-at.fields.items c.unwrap.result (fields_of c.args.row.now) c.loop-at.at c.loop-at.invariant
    (ap (option_map (λ f. f.now)) (sym c.unwrap.ensures) ∙ c.get.ensures.value))
