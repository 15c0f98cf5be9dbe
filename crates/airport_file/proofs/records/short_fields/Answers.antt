-- There is a field at each place, and one more is written.
use Rattle.std.proofs.Common.{◌≡◌, ◌<◌, ◌+◌, ◌++◌, ◌∷◌, [], Bor, List, ℕ, ap, sym, ◌∙◌, arith, add-one, length, length-set, take, set}
use Rattle.std.specs.Prelude.{option_map}
use Rattle.std.proofs.Math.Seq.{take-suc-set}
use Rattle.csv.specs.Records.{fields_of}
use Rattle.airport_rules.specs.Judged.{texts_of}
use Rattle.airport_file.proofs.ReadLaws.{field-there, texts-more}
use Rattle.airport_file.proofs.records.short_fields.Goals as goal

pub unwrap-requires : goal.unwrap-requires
unwrap-requires c = field-there (fields_of c.args.row.now) c.loop-at.at c.get.result (omega (arith, c.loop-at-test.true, c.len-at-end.ensures)) c.get.ensures.value

pub loop-at-preserved : goal.loop-at-preserved
loop-at-preserved c =
    let low : c.loop-at.at < length c.loop-at.fields = omega (arith, c.loop-at-test.true, c.len-at-end.ensures, c.loop-at.invariant.room, c.requires) in
    let put : take (c.loop-at.at + 1) (set c.loop-at.fields c.loop-at.at c.unwrap.result) ≡ take c.loop-at.at c.loop-at.fields ++ c.unwrap.result ∷ [] = rw add-one (take-suc-set c.loop-at.fields c.loop-at.at c.unwrap.result low) in
    record {
      room = length-set c.loop-at.fields c.loop-at.at c.unwrap.result ∙ c.loop-at.invariant.room;
      so_far = ap texts_of put ∙ texts-more (take c.loop-at.at c.loop-at.fields) c.unwrap.result (fields_of c.args.row.now) c.loop-at.at c.loop-at.invariant.so_far
          (ap (option_map (λ (f : Bor (List ℕ)). f.now)) (sym c.unwrap.ensures) ∙ c.get.ensures.value);
    }
