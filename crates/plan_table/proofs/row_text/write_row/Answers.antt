use Rattle.std.proofs.Common.{◌≡◌, ◌∷◌, ◌∙◌, [], OnOk, subst}
use Rattle.airport_text.specs.Canonical.{Fields}
use Rattle.airport_text.specs.Written.{and_records}
use Rattle.plan_table.proofs.RowLaws.{fields-are}
use Rattle.plan_table.proofs.row_text.write_row.Goals as goal

pub returns : goal.returns
returns c =
    subst (λ (fields : Fields). OnOk c.write.result (c.write.new.self ≡ and_records c.args.records.now (fields ∷ [])))
    (fields-are c.args.start.now c.args.row.now _ _ _ _ _ _ _ _ _ _ _ _ _ _ _ _ c.bytes.ensures.same c.kind_word.ensures c.class_word.ensures c.bytes-2.ensures.same c.bytes-3.ensures.same
    (c.as_bytes.ensures.value ∙ c.format.ensures.text) c.bytes-4.ensures.same c.direction_word.ensures c.bytes-5.ensures.same c.bytes-6.ensures.same c.time_text.ensures
    c.time_text-2.ensures c.time_text-3.ensures (c.as_bytes-2.ensures.value ∙ c.format-2.ensures.text)
    (c.as_bytes-3.ensures.value ∙ c.format-3.ensures.text) (c.as_bytes-4.ensures.value ∙ c.format-4.ensures.text))
    c.write.ensures
