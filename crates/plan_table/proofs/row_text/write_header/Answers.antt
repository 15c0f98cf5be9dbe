use Rattle.std.proofs.Common.{◌≡◌, ◌∷◌, [], OnOk, subst}
use Rattle.airport_text.specs.Canonical.{Fields}
use Rattle.airport_text.specs.Written.{and_records}
use Rattle.plan_table.proofs.RowLaws.{header-is}
use Rattle.plan_table.proofs.row_text.write_header.Goals as goal

pub returns : goal.returns
returns c =
    subst (λ (fields : Fields). OnOk c.write.result (c.write.new.self ≡ and_records c.args.records.now (fields ∷ [])))
    (header-is _ _ _ _ _ _ _ _ _ _ _ _ _ _ _ _ c.as_slice.ensures c.as_slice-2.ensures c.as_slice-3.ensures c.as_slice-4.ensures c.as_slice-5.ensures c.as_slice-6.ensures c.as_slice-7.ensures c.as_slice-8.ensures
    c.as_slice-9.ensures c.as_slice-10.ensures c.as_slice-11.ensures c.as_slice-12.ensures c.as_slice-13.ensures c.as_slice-14.ensures c.as_slice-15.ensures c.as_slice-16.ensures)
    c.write.ensures
