-- Rules `step` and `target` hold where they do of each row.
use Rattle.std.proofs.Common.{◌↔◌, ℕ, ◌<◌, length, Option, List, All, get_or}
use Rattle.std.specs.Prelude.{Contains}
use Rattle.std.proofs.lemmas.List.{get_or_default}
use Rattle.std.proofs.lemmas.List.Elements.{All-contains}
use Rattle.taxi_base.specs.declared.numbers.Node.{Node}
use Rattle.taxi_base.specs.declared.rows.LabelRow.{LabelRow}
use Rattle.taxi_base.specs.Walks.{Conditions}
use Rattle.table_rows.specs.declared.reach.Way.{Way}
use Rattle.table_rows.specs.HasRows.{HasEach}
use Rattle.check_rows.specs.Rules.{ComesOf, AreClosed, FallShort}
use Rattle.check_rows.specs.Comes.{FallsShort}

listed-row : (rows : List LabelRow) (k : ℕ) (d : LabelRow) → k < length rows → Contains rows (get_or rows k d)
listed-row rows k d on = (k, on, get_or_default rows k (get_or rows k d) d on)

module _ (way : Way) (c : Conditions) (bound : Option ℕ) (rows : List LabelRow) where
  pub closed-by_rows : All (λ row. HasEach way (ComesOf way c row) bound rows) rows ↔ AreClosed way c bound rows
  closed-by_rows = (
    λ all row label there comes short. All-contains (λ r. HasEach way (ComesOf way c r) bound rows) rows row all there label comes short,
    λ closed k d on label comes short. closed (get_or rows k d) label (listed-row rows k d on) comes short,
  )

  pub short-by_rows : (nodes : List Node) → All (FallsShort way c nodes bound) rows ↔ FallShort way c nodes bound rows
  short-by_rows nodes = (λ all. (λ k d on. (all k d on).0, λ k d on. (all k d on).1), λ short k d on. (short.0 k d on, short.1 k d on))
