use Rattle.std.proofs.Common.{◌≡◌, length}
use Rattle.std.specs.Prelude.{vec_len, vec_capacity}
use Rattle.sequence_exchange.proofs.ServingLaws.{IsServing}
use Rattle.sequence_exchange.proofs.serving.serve_all.Given as goal

-- the first wishes are served, and there is room for the entries of the others
abbrev pub invariant-loop-wish : goal.invariant-loop-wish
invariant-loop-wish l =
    IsServing l.airport l.wishes l.entries.items l.wish-index l.fn.ledger.state l.ledger × (vec_len l.entries ≡ l.wish-index) × (vec_capacity l.entries ≡ length l.wishes)
