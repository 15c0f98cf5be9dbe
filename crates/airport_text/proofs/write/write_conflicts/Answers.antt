use Rattle.std.proofs.Common.{sym, ap, ◌∙◌, ◌∷◌, []}
use Rattle.airport_text.specs.Canonical.{conflict_record}
use Rattle.airport_text.specs.Written.{and_records}
use Rattle.airport_text.proofs.RecordLaws.{and_records-none, slice-more}
use Rattle.airport_text.proofs.write.write_conflicts.Goals as goal

pub loop-set-init : goal.loop-set-init
loop-set-init c = sym (and_records-none _)

pub loop-set-preserved : goal.loop-set-preserved
loop-set-preserved c =
    let airport = c.args.airport.now in
    let members = c.as_slice.ensures ∙ c.set-item.is in
    slice-more (conflict_record airport) airport.conflicts c.sets-set-items.result.now c.loop-set.set-index c.set-item.result _ _ _
    (c.sets-set-items.ensures ∙ ap (λ s. s.sets) c.conflicts.ensures) c.loop-set-test.true c.loop-set.invariant
    (c.in_ok-write_row.ensures ∙ ap (λ r. and_records c.loop-set.records (r ∷ [])) (c.in_ok-fill_row.ensures ∙ ap (conflict_record airport) members))
