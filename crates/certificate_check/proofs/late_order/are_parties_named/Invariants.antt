use Rattle.std.proofs.Common.{All, take, map}
use Rattle.certificate_check.specs.Late.{delay_in}
use Rattle.certificate_check.proofs.LateOrder.{IsPartyNamed}
use Rattle.certificate_check.proofs.late_order.are_parties_named.Given as goal

abbrev pub invariant-loop-party : goal.invariant-loop-party
invariant-loop-party l = All (IsPartyNamed l.airport (delay_in l.late) (map (λ told. told.0) l.entries)) (take l.party-index l.parties)
