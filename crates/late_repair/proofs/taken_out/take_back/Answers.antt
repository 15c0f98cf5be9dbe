use Rattle.std.proofs.Common.{◌∙◌, map, refl, sym, ap, subst}
use Rattle.taxi_base.specs.State.{State}
use Rattle.late_repair.specs.TakenOut.{name_of, without_all, AreOut}
use Rattle.late_repair.proofs.HolderLaws.{are-out}
use Rattle.late_repair.proofs.taken_out.take_back.Goals as goal

pub put_back-requires-clause-out : goal.put_back-requires-clause-out
put_back-requires-clause-out c =
    let holders = c.into_holders-holders.result.items in
    subst (λ (s : State). AreOut s holders) (sym (c.make_way.ensures.state ∙ ap (λ hs. without_all (map name_of hs) c.args.ledger.now.state) c.as_slice.ensures.value))
    (are-out holders c.args.ledger.now.state (map name_of holders) refl)
