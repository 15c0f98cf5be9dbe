use Rattle.std.proofs.Common.{◌≡◌, ◌∙◌, true, eqb, length, sym, subst}
use Rattle.std.specs.Prelude.{◌↔◌, IsTrue}
use Rattle.std.specs.List.{list_all}
use Rattle.std.proofs.lemmas.Bool.{and_parts, eqb-true, eq-eqb, both_ways}
use Rattle.replies.specs.Printable.{is_told}
use Rattle.certificate_check.specs.Batch.{TellsOfEach}
use Rattle.certificate_check.proofs.BatchForm.{each-told}
use Rattle.certificate_check.proofs.batch_form.tells_of_each.Goals as goal
use Rattle.certificate_check.proofs.batch_form.tells_of_each.Goals.{then-entries-wishes, else-entries-wishes}

pub returns-then-are_told-clause-each : goal.returns-then-are_told-clause-each
returns-then-are_told-clause-each c =
    let wishes = c.args.wishes.now in
    let entries = c.args.entries.now in
    elim c.if-entries-wishes.branch [
      | then-entries-wishes w ↦
          let long : eqb (length entries) (length wishes) ≡ true = eq-eqb _ _ w.if-entries-wishes.true in
          let told : list_all is_told entries ≡ true = sym w.are_told.ensures ∙ sym w.value-is ∙ c.if-are_told.true in
          subst (λ b. IsTrue b ↔ TellsOfEach wishes entries) (rw (long, told) (sym c.are_named.ensures)) (each-told wishes entries c.requires)
      | else-entries-wishes w ↦ absurd (w.if-entries-wishes.false (eqb-true _ _ (sym w.value-is ∙ c.if-are_told.true)))
    ]

pub returns-else-are_told-clause-each : goal.returns-else-are_told-clause-each
returns-else-are_told-clause-each c =
    let wishes = c.args.wishes.now in
    let entries = c.args.entries.now in (
      λ is. absurd (both_ways _ c.if-are_told.false is),
      λ tells.
          let parts = and_parts _ _ ((each-told wishes entries c.requires).1 tells) in
          elim c.if-entries-wishes.branch [
            | then-entries-wishes w ↦ w.value-is ∙ w.are_told.ensures ∙ (and_parts _ _ parts.1).0
            | else-entries-wishes w ↦ absurd (w.if-entries-wishes.false (eqb-true _ _ parts.0))
          ],
    )
