use Rattle.std.proofs.Common.{◌∙◌, sym, ap, refl, Some, ◌≡◌, false, rules}
use Rattle.std.specs.Result.{is_err}
use Rattle.csv.proofs.ReadFacts.{on-ok}
use Rattle.airport_text.proofs.RecordLaws.{record-added}
use Rattle.airport_text.proofs.records.RecordWriter.write.Goals as goal

pub returns : goal.returns
returns c =
    let good : is_err c.write_fields.result ≡ false = sym c.is_err.ensures.value ∙ c.if-is_err.false in
    record-added (λ v. Some v.items) c.self.inside.writer c.write_fields.new.self _ _ _ (c.self.invariant (search rules)) (ap Some c.self.view_is) refl
    (on-ok _ good c.write_fields.ensures.bytes)
