-- One exchange: what stands before the place is kept, what stands from it on is served in the exchanged order, and put back where that is not cheaper.
use Rattle.std.proofs.Common.{◌≡◌, ◌∙◌, ℕ, ◌+◌, ◌≤◌, ◌<◌, zero, suc, List, [], ◌∷◌, ◌++◌, length, take, drop, sym, ap, subst, arith}
use Rattle.std.proofs.lemmas.List.{take-append-drop, length-take, length-drop}
use Rattle.taxi_base.specs.Airport.{Airport, IsWellFormed}
use Rattle.taxi_base.specs.State.{State, holder_count}
use Rattle.replies.specs.declared.wish.Wish.{Wish}
use Rattle.replies.specs.Batches.{IsServed, exchanged}
use Rattle.sequence_exchange.specs.declared.order.Order.{Order}
use Rattle.sequence_exchange.specs.Serving.{IsShortRequest, AreNew, AreFairFor, all_seconds_lost}
use Rattle.sequence_exchange.specs.Orders.{CanBeServed, IsTotal, IsServedFrom, IsTakenOut, IsExchanged, IsKept}
use Rattle.sequence_exchange.proofs.ServedLaws.{Told, IsServed-one, IsServed-length, IsServed-append, IsServed-split}
use Rattle.sequence_exchange.proofs.OrderLaws.{exchanged-length, exchanged-before, exchanged-All, exchanged-parts}
use Rattle.sequence_exchange.proofs.NewLaws.{AreNew-exchanged, AreNew-take}
use Rattle.sequence_exchange.proofs.CostLaws.{IsServed-fair, all_seconds-append}
use Rattle.sequence_exchange.proofs.UndoneLaws.{AreNew-rest, count-rest}

can_be-exchanged : (before : State) (k : ℕ) (wishes : List Wish) → CanBeServed before wishes → CanBeServed before (exchanged k wishes)
can_be-exchanged before k wishes can = record {
  asked = exchanged-All (λ (w : Wish). IsShortRequest w.request) k wishes can.asked;
  new = AreNew-exchanged before k wishes can.new;
  few = rw (exchanged-length k wishes) can.few;
  count = rw (exchanged-length k wishes) can.count;
}

-- ---- costs in two parts

pub fair-front : (place : ℕ) (wishes : List Wish) (entries others : List Told) → length entries ≡ place → place ≤ length wishes → AreFairFor wishes (entries ++ others) → AreFairFor (take place wishes) entries
fair-front place wishes [] others few low fair = nothing (take place wishes) where
  nothing : (ws : List Wish) → AreFairFor ws []
  nothing [] = tt
  nothing (w ∷ ws) = tt
fair-front zero wishes (told ∷ entries) others few low fair = absurd (omega (arith, few))
fair-front (suc place) [] (told ∷ entries) others few low fair = absurd (omega (arith, low))
fair-front (suc place) (wish ∷ wishes) (told ∷ entries) others few low fair =
    (fair.0, fair-front place wishes entries others (omega (arith, few)) (omega (arith, low)) fair.1)

pub fair-back : (place : ℕ) (wishes : List Wish) (entries others : List Told) → length entries ≡ place → place ≤ length wishes → AreFairFor wishes (entries ++ others) → AreFairFor (drop place wishes) others
fair-back zero wishes [] others few low fair = fair
fair-back (suc place) wishes [] others few low fair = absurd (omega (arith, few))
fair-back zero wishes (told ∷ entries) others few low fair = absurd (omega (arith, few))
fair-back (suc place) [] (told ∷ entries) others few low fair = absurd (omega (arith, low))
fair-back (suc place) (wish ∷ wishes) (told ∷ entries) others few low fair = fair-back place wishes entries others (omega (arith, few)) (omega (arith, low)) fair.1

pub parts-total : (place : ℕ) (wishes : List Wish) (entries others : List Told) → length entries ≡ place → place ≤ length wishes
    → all_seconds_lost (take place wishes) entries + all_seconds_lost (drop place wishes) others ≡ all_seconds_lost wishes (entries ++ others)
parts-total place wishes entries others few low =
    let same : length entries ≡ length (take place wishes) = omega (arith, few, low, length-take place wishes) in
    sym (ap (λ (ws : List Wish). all_seconds_lost ws (entries ++ others)) (sym (take-append-drop place wishes)) ∙ all_seconds-append (take place wishes) (drop place wishes) entries others same)

-- ---- an order whose flights from a place on are taken out

module _ (airport : Airport) (well : IsWellFormed airport) (before : State) (place : ℕ) (order : Order) (mid now : State) (taken : IsTakenOut airport before place order mid now)
    (within : place + 1 < length order.wishes.items) where
  wishes : List Wish
  wishes = order.wishes.items

  entries : List Told
  entries = order.entries.items

  others : List Wish
  others = exchanged place order.wishes.items

  front_others : IsServed airport before (take place (exchanged place order.wishes.items)) (take place order.entries.items) mid
  front_others = subst (λ (ws : List Wish). IsServed airport before ws (take place order.entries.items) mid) (sym (exchanged-before place order.wishes.items)) taken.front

  -- the exchanged wishes from the place on can be served
  pub rest-new : AreNew mid (drop place (exchanged place order.wishes.items))
  rest-new = AreNew-rest airport place before (exchanged place order.wishes.items) (take place order.entries.items) mid (AreNew-exchanged before place order.wishes.items taken.whole.can_be.new) front_others

  pub rest-few : holder_count mid + length (drop place (exchanged place order.wishes.items)) ≤ 4096
  rest-few =
      omega (arith, count-rest airport place before (exchanged place order.wishes.items) (take place order.entries.items) mid front_others, exchanged-length place order.wishes.items, taken.whole.can_be.few)

  -- and the old ones again
  pub old-new : AreNew mid (drop place order.wishes.items)
  old-new = AreNew-rest airport place before order.wishes.items (take place order.entries.items) mid taken.whole.can_be.new taken.front

  pub old-few : holder_count mid + length (drop place order.wishes.items) ≤ 4096
  old-few = omega (arith, count-rest airport place before order.wishes.items (take place order.entries.items) mid taken.front, taken.whole.can_be.few)

  pub old-served : IsServed airport mid (drop place order.wishes.items) (drop place order.entries.items) now
  old-served =
      let parts = IsServed-split airport place before order.wishes.items order.entries.items now taken.whole.comes_to.served in
      subst (λ (s : State). IsServed airport s (drop place order.wishes.items) (drop place order.entries.items) now)
      (IsServed-one airport before (take place order.wishes.items) (take place order.entries.items) parts.0 mid parts.1 taken.front) parts.2

  pub front-length : length (take place order.entries.items) ≡ place
  front-length =
      omega (arith, IsServed-length airport before (take place order.wishes.items) (take place order.entries.items) mid taken.front, length-take place order.wishes.items, within)

  pub entries-length : length order.entries.items ≡ length order.wishes.items
  entries-length = IsServed-length airport before order.wishes.items order.entries.items now taken.whole.comes_to.served

  module _ (tried : List Told) (after : State) (served : IsServed airport mid (drop place (exchanged place order.wishes.items)) tried after) where
    all_served : IsServed airport before (exchanged place order.wishes.items) (take place order.entries.items ++ tried) after
    all_served =
        subst (λ (ws : List Wish). IsServed airport before ws (take place order.entries.items ++ tried) after) (exchanged-parts place order.wishes.items)
        (IsServed-append airport before (take place order.wishes.items) (take place order.entries.items) mid (drop place (exchanged place order.wishes.items)) tried after taken.front served)

    pub tried-fair : AreFairFor (exchanged place order.wishes.items) (take place order.entries.items ++ tried)
    tried-fair =
        IsServed-fair airport well before (exchanged place order.wishes.items) (take place order.entries.items ++ tried) after
        (exchanged-All (λ (w : Wish). IsShortRequest w.request) place order.wishes.items taken.whole.can_be.asked) all_served

    pub tried-length : place + length tried ≡ length order.wishes.items
    tried-length =
        omega (arith, IsServed-length airport mid (drop place (exchanged place order.wishes.items)) tried after served, length-drop place (exchanged place order.wishes.items), exchanged-length place order.wishes.items, within)

    tried-total : (total : ℕ) → total ≡ all_seconds_lost (exchanged place order.wishes.items) (take place order.entries.items ++ tried)
        → IsTotal airport before (exchanged place order.wishes.items) (take place order.entries.items ++ tried) total after
    tried-total total is = record { served = all_served; fair = tried-fair; total_is = is }

    -- it is cheaper
    pub is-exchanged : (new : Order) → new.wishes.items ≡ exchanged place order.wishes.items → new.entries.items ≡ take place order.entries.items ++ tried
        → new.total ≡ all_seconds_lost (exchanged place order.wishes.items) (take place order.entries.items ++ tried) → new.total < order.total → IsExchanged airport before place order new after
    is-exchanged new order_is entries_are total_is cheaper = record {
      order = order_is;
      served = record {
        can_be = subst (CanBeServed before) (sym order_is) (can_be-exchanged before place order.wishes.items taken.whole.can_be);
        comes_to = rw (order_is, entries_are) (tried-total new.total total_is);
      };
      cheaper = cheaper;
    }

    -- or it is not
    pub is-kept : (new : Order) (total : ℕ) → new.wishes.items ≡ order.wishes.items → new.entries.items ≡ order.entries.items → new.total ≡ order.total
        → total ≡ all_seconds_lost (exchanged place order.wishes.items) (take place order.entries.items ++ tried) → order.total ≤ total → IsKept airport before place order new
    is-kept new total order_is entries_are total_is tried_is dearer = record {
      wishes = order_is;
      entries = entries_are;
      total_is = total_is;
      others = take place order.entries.items ++ tried;
      others_total = total;
      after = after;
      tried = tried-total total tried_is;
      as_cheap = dearer;
    }

-- ---- an order that is served

module _ (airport : Airport) (before : State) (order : Order) (now : State) (served : IsServedFrom airport before order now) (place : ℕ) where
  -- what stands before a place is served to some state, and what stands from it on from there
  pub back-new : (mid : State) → IsServed airport before (take place order.wishes.items) (take place order.entries.items) mid → AreNew mid (drop place order.wishes.items)
  back-new mid front = AreNew-rest airport place before order.wishes.items (take place order.entries.items) mid served.can_be.new front

  -- once the flights from the place on are taken out
  pub is-taken_out : (state : State)
      → ((mid : State) (wishes : List Wish) → AreNew mid wishes → IsServed airport mid wishes (drop place order.entries.items) now → state ≡ mid)
      → IsTakenOut airport before place order state now
  is-taken_out state out =
      let parts = IsServed-split airport place before order.wishes.items order.entries.items now served.comes_to.served in
      let same : state ≡ parts.0 = out parts.0 (drop place order.wishes.items) (back-new parts.0 parts.1) parts.2 in
      record {
        whole = served;
        front = subst (λ (s : State). IsServed airport before (take place order.wishes.items) (take place order.entries.items) s) (sym same) parts.1;
      }

  -- and then those before it
  pub all-out : (mid state : State) (told : List Told) → IsTakenOut airport before place order mid now → told ≡ take place order.entries.items
      → ((start : State) (wishes : List Wish) → AreNew start wishes → IsServed airport start wishes told mid → state ≡ start) → state ≡ before
  all-out mid state told taken same out =
      out before (take place order.wishes.items) (AreNew-take before place order.wishes.items served.can_be.new)
      (subst (λ (es : List Told). IsServed airport before (take place order.wishes.items) es mid) (sym same) taken.front)

-- ---- an order that is served at first

pub is-served_from : (airport : Airport) → IsWellFormed airport → (before : State) (order : Order) (wishes : List Wish) (entries : List Told) (now : State) → order.wishes.items ≡ wishes
    → order.entries.items ≡ entries → order.total ≡ all_seconds_lost wishes entries → CanBeServed before wishes → IsServed airport before wishes entries now → IsServedFrom airport before order now
is-served_from airport well before order wishes entries now order_is entries_are total_is can served = record {
  can_be = subst (CanBeServed before) (sym order_is) can;
  comes_to = rw (order_is, entries_are) (record { served = served; fair = IsServed-fair airport well before wishes entries now can.asked served; total_is = total_is });
}
