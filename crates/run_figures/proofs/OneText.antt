-- A run has one text of figures: its busiest segments are one list.
use Rattle.std.proofs.Common.{◌≡◌, ◌∙◌, inl, inr, ℕ, ◌++◌, ◌&&◌, ◌||◌, eqb, List, take, flat_map, sym, ap, arith}
use Rattle.std.specs.Prelude.{IsTrue, nat_lt}
use Rattle.std.proofs.lemmas.Bool.{or_cases, and_parts, ltb-true, eqb-true}
use Rattle.taxi_base.specs.declared.numbers.Segment.{Segment}
use Rattle.taxi_base.specs.Airport.{Airport}
use Rattle.taxi_base.specs.State.{State}
use Rattle.taxi_base.proofs.ListLaws.{ordered_same}
use Rattle.replies.specs.declared.block.Block.{Block}
use Rattle.run_figures.specs.Busy.{busy_seconds, is_busier, AreBusiest}
use Rattle.run_figures.specs.Figures.{answers_text, holders_text, busy_text, IsFigures}

-- a segment with more seconds, or with as many and a lower number, stands before the other and not after it
one-way : (a b s t : ℕ) → IsTrue (nat_lt b a || (eqb b a && nat_lt s t)) → IsTrue (nat_lt a b || (eqb a b && nat_lt t s)) → ⊥
one-way a b s t before after =
    elim (or_cases (nat_lt b a) (eqb b a && nat_lt s t) before) [
      | inl more ↦
          let much = ltb-true b a more in
          elim (or_cases (nat_lt a b) (eqb a b && nat_lt t s) after) [
            | inl less ↦ let few = ltb-true a b less in omega (arith, much, few)
            | inr tie ↦ let same = eqb-true a b (and_parts (eqb a b) (nat_lt t s) tie).0 in omega (arith, much, same)
          ]
      | inr tie ↦
          let parts = and_parts (eqb b a) (nat_lt s t) tie in
          let same = eqb-true b a parts.0 in
          let low = ltb-true s t parts.1 in
          elim (or_cases (nat_lt a b) (eqb a b && nat_lt t s) after) [
            | inl less ↦ let few = ltb-true a b less in omega (arith, few, same)
            | inr again ↦ let high = ltb-true t s (and_parts (eqb a b) (nat_lt t s) again).1 in omega (arith, low, high)
          ]
    ]

busiest-one : (airport : Airport) (state : State) (told others : List Segment) → AreBusiest airport state told → AreBusiest airport state others → told ≡ others
busiest-one airport state told others are too =
    are.first
    ∙ ap (take 10) (ordered_same (is_busier airport state) (λ s t before after. one-way (busy_seconds airport state s) (busy_seconds airport state t) s.0 t.0 before after)
    are.held too.held are.ordered too.ordered (λ s held. (too.each s).1 ((are.each s).0 held)) (λ s held. (are.each s).1 ((too.each s).0 held)))
    ∙ sym too.first

pub figures-one : (airport : Airport) (blocks : List Block) (state : State) (text other : List ℕ) → IsFigures airport blocks state text → IsFigures airport blocks state other → text ≡ other
figures-one airport blocks state text other is too =
    is.whole
    ∙ ap (λ (busiest : List Segment). answers_text airport blocks ++ (holders_text airport state ++ flat_map (busy_text airport state) busiest))
    (busiest-one airport state is.busiest too.busiest is.are too.are)
    ∙ sym too.whole
