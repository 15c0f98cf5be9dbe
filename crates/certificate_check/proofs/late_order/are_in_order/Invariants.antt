use Rattle.std.proofs.Common.{◌↔◌, None, map, drop}
use Rattle.checked_state.specs.Flights.{state_of}
use Rattle.certificate_check.specs.Late.{delay_in}
use Rattle.certificate_check.proofs.LateOrder.{Follow}
use Rattle.certificate_check.proofs.late_order.are_in_order.Given as goal

-- the entries follow one another just where those from here on do
abbrev pub invariant-loop-name : goal.invariant-loop-name
invariant-loop-name l =
    Follow l.airport (state_of l.before) (delay_in l.late) None (map (λ told. told.0) l.entries)
    ↔ Follow l.airport (state_of l.before) (delay_in l.late) l.last (map (λ told. told.0) (drop l.name-index l.entries))
