use Rattle.std.proofs.Common.{◌≡◌, Some}
use Rattle.label_core.proofs.ExactTables.{row_earliest, earliest_row}
use Rattle.label_core.proofs.forward.attained_and_closed_is_exact.Goals as goal

pub returns : goal.returns
returns g c net starts row bound takes closed attained x v below = (
  λ has. row_earliest net starts bound (λ y w. row y ≡ Some w) takes closed attained x v has below,
  λ earliest. earliest_row net starts bound (λ y w. row y ≡ Some w) takes closed attained x v earliest below,
)
