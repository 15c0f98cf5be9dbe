use Rattle.std.proofs.Common.{◌≡◌, Some}
use Rattle.label_core.proofs.MirroredTables.{closed_back_covers}
use Rattle.label_core.proofs.backward.a_closed_backward_table_leaves_no_walk_out.Goals as goal

pub returns : goal.returns
returns g c net finishes k fits row rows_by bound takes closed =
    closed_back_covers net finishes k fits bound (λ x v. row x ≡ Some v) rows_by takes closed
