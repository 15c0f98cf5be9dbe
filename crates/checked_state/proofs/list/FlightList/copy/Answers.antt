use Rattle.std.proofs.Common.{◌∙◌, List, Box, Global, map, ap, sym, subst}
use Rattle.taxi_base.specs.declared.answers.Flight.{Flight}
use Rattle.checked_state.specs.Order.{AreInOrder}
use Rattle.checked_state.proofs.list.FlightList.copy.Goals as goal

pub returns : goal.returns
returns c = c.in_ok-boxes.ensures ∙ ap (λ (boxes : List (Box Flight Global)). map (λ b. b.value) boxes) c.deref.ensures.value

pub invariant_of-result : goal.invariant_of-result
invariant_of-result c =
    let same = c.in_ok-boxes.ensures ∙ ap (λ (boxes : List (Box Flight Global)). map (λ b. b.value) boxes) c.deref.ensures.value in
    record { ordered = subst AreInOrder (sym same) c.args.self.now.ordered }
