use Rattle.late_repair.specs.TakenOut.{with_holders}
use Rattle.late_repair.proofs.BackLaws.{last-few, last-feasible, last-room, putting-next}
use Rattle.late_repair.proofs.taken_out.put_back.Goals as goal

pub put_one_back-requires-clause-few : goal.put_one_back-requires-clause-few
put_one_back-requires-clause-few c =
    last-few c.args.airport.now (with_holders c.args.holders.items c.args.ledger.now.state) c.requires.feasible c.loop-holder.left.items c.pop.new.self.items c.in-Some.holder c.in-Some.ensures.items
    c.loop-holder.ledger c.loop-holder.invariant

pub put_one_back-requires-clause-feasible : goal.put_one_back-requires-clause-feasible
put_one_back-requires-clause-feasible c =
    last-feasible c.args.airport.now (with_holders c.args.holders.items c.args.ledger.now.state) c.requires.feasible c.loop-holder.left.items c.pop.new.self.items c.in-Some.holder c.in-Some.ensures.items
    c.loop-holder.ledger c.loop-holder.invariant

pub put_one_back-requires-clause-room : goal.put_one_back-requires-clause-room
put_one_back-requires-clause-room c =
    last-room c.args.airport.now (with_holders c.args.holders.items c.args.ledger.now.state) c.requires.feasible c.loop-holder.left.items c.pop.new.self.items c.in-Some.holder c.in-Some.ensures.items
    c.loop-holder.ledger c.loop-holder.invariant

pub loop-holder-preserved : goal.loop-holder-preserved
loop-holder-preserved c =
    putting-next c.args.airport.now (with_holders c.args.holders.items c.args.ledger.now.state) c.requires.feasible c.loop-holder.left.items c.pop.new.self.items c.in-Some.holder c.in-Some.ensures.items
    c.loop-holder.ledger c.loop-holder.invariant c.put_one_back.new.ledger c.put_one_back.ensures.state c.put_one_back.ensures.room c.put_one_back.ensures.unlifted c.put_one_back.ensures.fits
