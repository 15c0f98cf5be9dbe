use Rattle.std.proofs.Common.{◌≡◌, length}
use Rattle.std.specs.Prelude.{vec_len, vec_capacity}
use Rattle.late_repair.proofs.BackLaws.{IsTakingOut}
use Rattle.late_repair.proofs.taken_out.take_out.Given as goal

-- the holders of the first names are out, and there is room for the others
abbrev pub invariant-loop-name : goal.invariant-loop-name
invariant-loop-name l =
    IsTakingOut l.airport l.names l.fn.ledger l.name-index l.holders.items l.ledger × (vec_len l.holders ≡ l.name-index) × (vec_capacity l.holders ≡ length l.names)
