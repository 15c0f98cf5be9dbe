-- The exchange of neighbours: an order is served, each exchange that is cheaper stands, and where none is it ends.
use Rattle.std.proofs.Common.{◌≡◌, ◌∙◌, ℕ, ◌+◌, ◌≤◌, ◌<◌, List, length, sym, ap, subst, arith, Some, None, inl, inr}
use Rattle.std.specs.Prelude.{pos}
use Rattle.std.proofs.lemmas.Bool.{cases_lt}
use Rattle.std.proofs.lemmas.Int.{ints}
use Rattle.taxi_base.specs.Airport.{Airport}
use Rattle.taxi_base.specs.State.{State}
use Rattle.replies.specs.declared.wish.Wish.{Wish}
use Rattle.replies.specs.Batches.{exchanged, ComesTo, IsCheaper, IsAsCheap, EndsAt, settled, exchanging, IsSequenced, wish_named}
use Rattle.commitments.specs.Book.{Book, Fits}
use Rattle.sequence_exchange.specs.declared.order.Order.{Order}
use Rattle.sequence_exchange.specs.Serving.{AreNew}
use Rattle.sequence_exchange.specs.Orders.{CanBeServed, IsTotal, IsServedFrom, IsExchanged, IsKept}
use Rattle.sequence_exchange.proofs.ServedLaws.{Told}
use Rattle.sequence_exchange.proofs.OrderLaws.{exchanged-length, exchanged-All}
use Rattle.sequence_exchange.proofs.CostLaws.{AreOwn, total-seconds}
use Rattle.sequence_exchange.proofs.OwnLaws.{own-wishes}

module _ (airport : Airport) (before : State) (wishes : List Wish) where
  -- an order comes to the total of what it costs
  comes-to : (order : List Wish) (entries : List Told) (total : ℕ) (now : State) → AreOwn wishes order → IsTotal airport before order entries total now → ComesTo airport before wishes order (pos total)
  comes-to order entries total now own is = record {
    entries = entries;
    after = now;
    served = is.served;
    total_is = sym (total-seconds wishes airport before order entries now own is.fair is.served ∙ ap pos (sym is.total_is));
  }

  as-cheap : (order other : List Wish) (entries others : List Told) (total more : ℕ) (now after : State) → AreOwn wishes order → AreOwn wishes other → IsTotal airport before order entries total now
      → IsTotal airport before other others more after → total ≤ more → IsAsCheap airport before wishes order other
  as-cheap order other entries others total more now after own owns is tried low = record {
    total = pos total;
    others = pos more;
    comes_to = comes-to order entries total now own is;
    other_comes_to = comes-to other others more after owns tried;
    as_cheap = omega (arith, ints, low);
  }

  cheaper : (order other : List Wish) (entries others : List Told) (less total : ℕ) (after now : State) → AreOwn wishes order → AreOwn wishes other → IsTotal airport before order entries less after
      → IsTotal airport before other others total now → less < total → IsCheaper airport before wishes order other
  cheaper order other entries others less total after now own owns is old low = record {
    less = pos less;
    more = pos total;
    comes_to_less = comes-to order entries less after own is;
    comes_to_more = comes-to other others total now owns old;
    cheaper = omega (arith, ints, low);
  }

  -- An order is served, to which the exchange has come, and the first pairs of it were tried.
  pub record IsSequencing (order : Order) (place : ℕ) (book : Book) : Type 0 where
    pub served : IsServedFrom airport before order book.state
    pub own : AreOwn wishes order.wishes.items
    pub count : length order.wishes.items ≡ length wishes
    pub low : place ≤ length wishes
    pub reached : (last : List Wish) → EndsAt airport before wishes order.wishes.items last → EndsAt airport before wishes wishes last
    pub tried : (j : ℕ) → j < place → IsAsCheap airport before wishes order.wishes.items (exchanged j order.wishes.items)
    pub unlifted : book.lifted ≡ None
    pub fits : Fits airport book

  pub sequencing-first : (order : Order) (book : Book) → order.wishes.items ≡ wishes → AreNew before wishes → IsServedFrom airport before order book.state → book.lifted ≡ None → Fits airport book
      → IsSequencing order 0 book
  sequencing-first order book same new served unlifted fits = record {
    served = served;
    own = subst (AreOwn wishes) (sym same) (own-wishes before wishes new);
    count = ap length same;
    low = omega arith;
    reached = λ last ends. subst (λ (ws : List Wish). EndsAt airport before wishes ws last) same ends;
    tried = λ j low. absurd (omega (arith, low));
    unlifted = unlifted;
    fits = fits;
  }

  module _ (old new : Order) (place : ℕ) (then now : Book) (sequencing : IsSequencing old place then) (within : place + 1 < length wishes) where
    owns : AreOwn wishes (exchanged place old.wishes.items)
    owns = exchanged-All (λ (w : Wish). wish_named w.name wishes ≡ Some w) place old.wishes.items sequencing.own

    -- an exchange that is cheaper stands, and the pairs begin from the first again
    pub sequencing-exchanged : IsExchanged airport before place old new now.state → now.lifted ≡ None → Fits airport now → IsSequencing new 0 now
    sequencing-exchanged done unlifted fits =
        let own : AreOwn wishes new.wishes.items = subst (AreOwn wishes) (sym done.order) owns in
        record {
          served = done.served;
          own = own;
          count = ap length done.order ∙ exchanged-length place old.wishes.items ∙ sequencing.count;
          low = omega arith;
          reached = λ last ends. sequencing.reached last
              (exchanging old.wishes.items last place (omega (arith, sequencing.count, within))
              (cheaper (exchanged place old.wishes.items) old.wishes.items new.entries.items old.entries.items new.total old.total now.state then.state owns sequencing.own
              (subst (λ (ws : List Wish). IsTotal airport before ws new.entries.items new.total now.state) done.order done.served.comes_to) sequencing.served.comes_to done.cheaper)
              sequencing.tried (subst (λ (ws : List Wish). EndsAt airport before wishes ws last) done.order ends));
          tried = λ j low. absurd (omega (arith, low));
          unlifted = unlifted;
          fits = fits;
        }

    -- one that is not cheaper does not, and the next pair is tried
    pub sequencing-kept : (next : ℕ) → next ≡ place + 1 → IsKept airport before place old new → now.state ≡ then.state → now.lifted ≡ None → Fits airport now → IsSequencing new next now
    sequencing-kept next is kept state unlifted fits =
        let as_cheap_here : IsAsCheap airport before wishes old.wishes.items (exchanged place old.wishes.items) =
        as-cheap old.wishes.items (exchanged place old.wishes.items) old.entries.items kept.others old.total kept.others_total then.state kept.after sequencing.own owns sequencing.served.comes_to kept.tried kept.as_cheap in
        record {
          served = record {
            can_be = subst (CanBeServed before) (sym kept.wishes) sequencing.served.can_be;
            comes_to = rw (kept.wishes, kept.entries, kept.total_is, state) sequencing.served.comes_to;
          };
          own = subst (AreOwn wishes) (sym kept.wishes) sequencing.own;
          count = ap length kept.wishes ∙ sequencing.count;
          low = omega (arith, within, is);
          reached = λ last ends. sequencing.reached last (subst (λ (ws : List Wish). EndsAt airport before wishes ws last) kept.wishes ends);
          tried = λ j low. subst (λ (ws : List Wish). IsAsCheap airport before wishes ws (exchanged j ws)) (sym kept.wishes) (elim (cases_lt j place) [
            | inl earlier ↦ sequencing.tried j earlier
            | inr here ↦ let same : j ≡ place = omega (arith, low, here, is) in rw same as_cheap_here
          ]);
          unlifted = unlifted;
          fits = fits;
        }

  -- where all pairs were tried it ends
  pub sequencing-last : (order : Order) (place : ℕ) (book : Book) → IsSequencing order place book → length wishes ≤ place + 1 → IsSequenced airport before wishes order.total order.entries.items book.state
  unfolding comes-to
  sequencing-last order place book sequencing over = record {
    order = order.wishes.items;
    ends_at = sequencing.reached order.wishes.items (settled order.wishes.items (λ k low. sequencing.tried k (omega (arith, low, sequencing.count, over))));
    served = sequencing.served.comes_to.served;
    total_is = (comes-to order.wishes.items order.entries.items order.total book.state sequencing.own sequencing.served.comes_to).total_is;
  }
