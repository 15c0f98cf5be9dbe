use Rattle.std.proofs.Common.{◌≡◌, ◌++◌, List, [], ◌∷◌, ap, ◌∙◌, subst}
use Rattle.taxi_base.specs.declared.numbers.Arc.{Arc}
use Rattle.taxi_base.specs.Windows.{Hold, holds_of}
use Rattle.taxi_base.specs.State.{party_hold}
use Rattle.taxi_base.proofs.StateLaws.{party_step-holds}
use Rattle.window_store.specs.Stands.{StandsFor}
use Rattle.window_store.specs.Kept.{IsApartFrom, KeepsWindows}
use Rattle.commitments.proofs.holds.hold_party.Goals as goal

pub returns-clause-stands : goal.returns-clause-stands
returns-clause-stands c =
    let airport = c.args.airport.now in
    let party = c.args.party.now in
    let own : holds_of airport.horizon 0 c.from_ref.result.now ≡ party_hold party ∷ [] =
    ap (holds_of airport.horizon 0) (c.from_ref.ensures.value ∙ ap (λ (arc : Arc). record { arc = arc; enter = party.from; leave = party.until } ∷ []) c.forward.ensures)
    ∙ ap (λ (h : Hold). h ∷ []) (party_step-holds airport.horizon party c.requires.feasible.1.in_time) in
    let held = rw c.of_party.ensures at c.occupy.ensures.stands in
    λ holds before. subst (λ (more : List Hold). StandsFor airport.conflicts airport.horizon (holds ++ more) c.occupy.new.self.store) own (held holds before)

pub returns-clause-kept : goal.returns-clause-kept
returns-clause-kept c =
    let airport = c.args.airport.now in
    let party = c.args.party.now in
    let own : holds_of airport.horizon 0 c.from_ref.result.now ≡ party_hold party ∷ [] =
    ap (holds_of airport.horizon 0) (c.from_ref.ensures.value ∙ ap (λ (arc : Arc). record { arc = arc; enter = party.from; leave = party.until } ∷ []) c.forward.ensures)
    ∙ ap (λ (h : Hold). h ∷ []) (party_step-holds airport.horizon party c.requires.feasible.1.in_time) in
    let kept = rw c.of_party.ensures at c.occupy.ensures.kept in
    subst (λ (more : List Hold). KeepsWindows IsApartFrom airport.conflicts more c.args.held.now.store c.occupy.new.self.store) own kept
