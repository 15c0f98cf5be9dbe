use Rattle.std.proofs.Common.{◌∙◌, Ok, Err, inr, ap, arith}
use Rattle.taxi_tools.proofs.objects.json_at.Goals as goal

pub returns-in-Ok-run_teller-clause-run : goal.returns-in-Ok-run_teller-clause-run
returns-in-Ok-run_teller-clause-run g c =
    inr (record {
      rest = g.S.Shelf.rest c.begin_commands.new.shelf;
      begins = c.in-Ok.ensures.whole;
      is_begun = c.run_teller.ensures.begun;
      first = g.S.Shelf.given c.begin_commands.new.shelf;
      between = g.K.Sink.written c.run_teller.new.out;
      mid = g.K.Sink.faults c.run_teller.new.out;
      later = c.run_teller.ensures.writes_later;
      after = c.write_last.ensures.later;
      outcome = Ok c.in-Ok-run_teller.count;
      has = (c.in-Ok-run_teller.ensures.whole, rw (c.bytes.ensures.same ∙ c.done_line.ensures) at c.write_last.ensures.ends);
    })

pub returns-in-Err-run_teller-clause-run : goal.returns-in-Err-run_teller-clause-run
returns-in-Err-run_teller-clause-run g c =
    let earlier = c.begin_commands.ensures.later in
    inr (record {
      rest = g.S.Shelf.rest c.begin_commands.new.shelf;
      begins = c.in-Ok.ensures.whole;
      is_begun = c.run_teller.ensures.begun;
      first = g.S.Shelf.given c.begin_commands.new.shelf;
      between = g.K.Sink.written c.run_teller.new.out;
      mid = g.K.Sink.faults c.run_teller.new.out;
      later = c.run_teller.ensures.writes_later;
      after = c.write_halt.ensures.later;
      outcome = Err c.in-Err-run_teller.refused;
      has = (
        c.in-Err-run_teller.ensures.stopped,
        c.write_halt.ensures.ends,
        λ e. let rose = c.in-Err-run_teller.ensures.read_fault (ap Err e) in omega (arith, rose, earlier),
        λ e. c.in-Err-run_teller.ensures.write_fault (ap Err e),
      );
    })
