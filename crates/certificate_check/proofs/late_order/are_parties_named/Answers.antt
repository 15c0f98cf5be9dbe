use Rattle.std.proofs.Common.{map}
use Rattle.check_rows.proofs.LoopLaws.{all-fails, all-more, all-holds, says-no, says-yes}
use Rattle.certificate_check.specs.Late.{delay_in}
use Rattle.certificate_check.proofs.LateOrder.{IsPartyNamed}
use Rattle.certificate_check.proofs.late_order.are_parties_named.Goals as goal

pub returns-then-not-is_party_named : goal.returns-then-not-is_party_named
returns-then-not-is_party_named c =
    all-fails (IsPartyNamed c.args.airport.now (delay_in c.args.late.now) (map (λ told. told.0) c.args.entries.now)) c.args.parties.now c.loop-party.party-index c.party-item.result c.loop-party-test.true
    (λ named. says-no _ c.if-not-is_party_named.true c.is_party_named.ensures (rw c.party-item.is named))

pub loop-party-preserved : goal.loop-party-preserved
loop-party-preserved c =
    all-more (IsPartyNamed c.args.airport.now (delay_in c.args.late.now) (map (λ told. told.0) c.args.entries.now)) c.args.parties.now c.loop-party.party-index c.party-item.result c.loop-party-test.true
    c.loop-party.invariant (rw c.party-item.is at (says-yes _ c.if-not-is_party_named.false c.is_party_named.ensures))

pub returns : goal.returns
returns c =
    all-holds (IsPartyNamed c.args.airport.now (delay_in c.args.late.now) (map (λ told. told.0) c.args.entries.now)) c.args.parties.now c.loop-party.party-index c.loop-party-test.false c.loop-party.invariant
