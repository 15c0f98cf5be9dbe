use Rattle.std.proofs.Common.{◌≡◌, sym, subst}
use Rattle.taxi_engine.proofs.BatchLaws.{sequenced-writable}
use Rattle.taxi_engine.proofs.batching.print_sequenced.Goals as goal

pub print_batch-printed-requires : goal.print_batch-printed-requires
print_batch-printed-requires c =
    sequenced-writable c.args.airport.now c.horizon-horizon.ensures.rules c.args.ledger.now.state c.args.wishes.now c.in_ok-done.done.total c.in_ok-done.done.entries c.sequence.new.ledger.state
    c.requires.names c.requires.asked c.in_ok-done.ensures.ok
