-- Seven fields are the fields at seven places.
use Rattle.std.proofs.Common.{◌≡◌, ◌<◌, ◌≤◌, ◌∙◌, ℕ, List, [], ◌∷◌, length, get_or, map, refl, arith}
use Rattle.std.specs.Borrow.{Bor}
use Rattle.schedule_import.specs.declared.row.Movement.{Movement}
use Rattle.schedule_import.specs.Rows.{names_of, row_of_words, row_of_fields}
use Rattle.schedule_import.proofs.row.read_fields.Goals as goal

seven : (movement : Movement) (fields : List (Bor (List ℕ))) (d : Bor (List ℕ)) → 7 ≤ length fields → length fields < 8
    → row_of_words movement (names_of (get_or fields 1 d).now (get_or fields 2 d).now (get_or fields 3 d).now (get_or fields 4 d).now) (get_or fields 5 d).now (get_or fields 6 d).now
    ≡ row_of_fields movement (map (λ f. f.now) fields)
seven movement [] d some few = absurd (omega arith)
seven movement (a ∷ []) d some few = absurd (omega arith)
seven movement (a ∷ b ∷ []) d some few = absurd (omega arith)
seven movement (a ∷ b ∷ c ∷ []) d some few = absurd (omega arith)
seven movement (a ∷ b ∷ c ∷ e ∷ []) d some few = absurd (omega arith)
seven movement (a ∷ b ∷ c ∷ e ∷ f ∷ []) d some few = absurd (omega arith)
seven movement (a ∷ b ∷ c ∷ e ∷ f ∷ g ∷ []) d some few = absurd (omega arith)
seven movement (a ∷ b ∷ c ∷ e ∷ f ∷ g ∷ h ∷ []) d some few = refl
seven movement (a ∷ b ∷ c ∷ e ∷ f ∷ g ∷ h ∷ i ∷ more) d some few = absurd (omega arith)

pub returns-in-len7-clause-value : goal.returns-in-len7-clause-value
returns-in-len7-clause-value c =
    let no_field : Bor (List ℕ) = record { ref_ptr = (0, 0); now = [] } in
    rw c.names_of.ensures at c.read_words.ensures.value ∙ seven c.args.movement c.args.fields.now no_field c.in-len7.len_at_least c.in-len7.len_below
