use Rattle.commitments.proofs.Numbers.{kept-walk}
use Rattle.commitments.proofs.holds.hold_flight.Goals as goal

pub occupy-requires-clause-steps : goal.occupy-requires-clause-steps
occupy-requires-clause-steps c =
    rw c.as_slice.ensures (kept-walk c.args.airport.now c.keep_rules.ensures c.args.flight.now.class c.requires.feasible.0 c.args.flight.now.steps c.requires.feasible.2).on_segments

pub occupy-requires-clause-time : goal.occupy-requires-clause-time
occupy-requires-clause-time c =
    rw c.as_slice.ensures (kept-walk c.args.airport.now c.keep_rules.ensures c.args.flight.now.class c.requires.feasible.0 c.args.flight.now.steps c.requires.feasible.2).takes_time

pub occupy-requires-clause-in_time : goal.occupy-requires-clause-in_time
occupy-requires-clause-in_time c =
    rw c.as_slice.ensures (kept-walk c.args.airport.now c.keep_rules.ensures c.args.flight.now.class c.requires.feasible.0 c.args.flight.now.steps c.requires.feasible.2).in_time

pub returns-clause-stands : goal.returns-clause-stands
returns-clause-stands c = rw (c.as_slice.ensures, c.of_flight.ensures) at c.occupy.ensures.stands

pub returns-clause-kept : goal.returns-clause-kept
returns-clause-kept c = rw (c.as_slice.ensures, c.of_flight.ensures) at c.occupy.ensures.kept

pub returns-clause-steps : goal.returns-clause-steps
returns-clause-steps c = rw (c.as_slice.ensures, c.of_flight.ensures) at c.occupy.ensures.steps
