-- Labels of a kind have rows where those of each of its parts have.
use Rattle.std.proofs.Common.{◌↔◌, ℕ, Option, List, All, get_or}
use Rattle.std.specs.Prelude.{Contains}
use Rattle.std.proofs.lemmas.List.{get_or_default}
use Rattle.std.proofs.lemmas.List.Elements.{All-contains}
use Rattle.taxi_base.specs.declared.rows.LabelRow.{LabelRow}
use Rattle.table_rows.specs.declared.reach.Way.{Way}
use Rattle.table_rows.specs.HasRows.{HasEach}

-- a test by another
pub same-test : {A B : Type 0} {b : Type 0} → b ↔ A → A ↔ B → b ↔ B
same-test by same = (λ h. same.0 (by.0 h), λ h. by.1 (same.1 h))

module _ {X : Type 0} (way : Way) (bound : Option ℕ) (rows : List LabelRow) (xs : List X) (IsPart : X → LabelRow → Type 0) (IsOne : LabelRow → Type 0) where
  pub each-by_parts : ((label : LabelRow) → IsOne label → (x : X) × Contains xs x × IsPart x label) → ((x : X) (label : LabelRow) → Contains xs x → IsPart x label → IsOne label)
      → All (λ x. HasEach way (IsPart x) bound rows) xs ↔ HasEach way IsOne bound rows
  each-by_parts part whole = (
    λ all label one short. (
        let found = part label one in
        All-contains (λ x. HasEach way (IsPart x) bound rows) xs found.0 all found.1 label found.2 short),
    λ has k d on label is_part short. has label (whole (get_or xs k d) label (k, on, get_or_default xs k (get_or xs k d) d on) is_part) short,
  )
