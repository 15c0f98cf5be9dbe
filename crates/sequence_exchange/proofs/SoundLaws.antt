-- Flights that are served keep a sound state sound, and the names of its holders names.
use Rattle.std.proofs.Common.{◌≡◌, ℕ, ◌+◌, ◌≤◌, ◌<◌, List, [], ◌∷◌, length, sym, ap, subst, arith, IsFalse}
use Rattle.std.specs.Prelude.{All}
use Rattle.std.proofs.lemmas.List.Elements.{All-head, All-tail}
use Rattle.std.proofs.lemmas.List.Sorted.{All-permutation, length_permutation}
use Rattle.taxi_base.specs.Airport.{Airport}
use Rattle.taxi_base.specs.State.{State, has_holder, holder_count, IsSound}
use Rattle.taxi_base.proofs.StateLaws.{IsSound-with_flight}
use Rattle.replies.specs.declared.entries.Entry.{Entry}
use Rattle.replies.specs.declared.entries.Entry.TheVariants as entry
use Rattle.replies.specs.declared.wish.Wish.{Wish}
use Rattle.replies.specs.Printable.{IsName}
use Rattle.replies.specs.Replies.{HaveNames}
use Rattle.replies.specs.Routed.{routed_flight}
use Rattle.replies.specs.Batches.{IsServedAs, IsServed, IsSequenced}
use Rattle.replies.proofs.HolderNames.{with_flight-names}
use Rattle.replies.proofs.OrderLaws.{ends-permutation}
use Rattle.sequence_exchange.specs.Serving.{AreNew}
use Rattle.sequence_exchange.proofs.ServedLaws.{Told, after_entry, IsServedAs-after}
use Rattle.sequence_exchange.proofs.NewLaws.{AreNew-after, count-after, AreNew-ends}
use Rattle.sequence_exchange.proofs.ServingLaws.{served-met}

module _ (airport : Airport) where
  entry-sound : (state : State) (wish : Wish) (told : Told) (after : State) → IsSound airport state → IsFalse (has_holder wish.name state) → holder_count state < 4096
      → IsServedAs airport state wish told after → IsSound airport after
  entry-sound state wish (name, entry.Route second steps labels) after sound absent few served =
      subst (IsSound airport) (sym (IsServedAs-after airport state wish (name, entry.Route second steps labels) after served))
      (IsSound-with_flight airport (routed_flight wish.name wish.class wish.request steps) state sound few absent (served-met airport state wish name second steps labels after served))
  entry-sound state wish (name, entry.NoRoute labels) after sound absent few served =
      subst (IsSound airport) (sym (IsServedAs-after airport state wish (name, entry.NoRoute labels) after served)) sound
  entry-sound state wish (name, entry.Dropped) after sound absent few served = absurd served

  served-sound : (state : State) (wishes : List Wish) (entries : List Told) (after : State) → IsSound airport state → AreNew state wishes → holder_count state + length wishes ≤ 4096
      → IsServed airport state wishes entries after → IsSound airport after
  served-sound state [] [] after sound new few served = subst (IsSound airport) (sym served) sound
  served-sound state [] (told ∷ entries) after sound new few served = absurd served
  served-sound state (wish ∷ wishes) [] after sound new few served = absurd served
  served-sound state (wish ∷ wishes) (told ∷ entries) after sound new few served =
      let same : served.0 ≡ after_entry state wish told.1 = IsServedAs-after airport state wish told served.0 served.1 in
      let count : holder_count served.0 ≡ holder_count (after_entry state wish told.1) = ap holder_count same in
      served-sound served.0 wishes entries after (entry-sound state wish told served.0 sound new.0 (omega (arith, few)) served.1)
      (subst (λ (s : State). AreNew s wishes) (sym same) (AreNew-after state wish told.1 wishes new)) (omega (arith, few, count, count-after state wish told.1)) served.2

  entry-names : (state : State) (wish : Wish) (told : Entry) → HaveNames state → IsName wish.name → HaveNames (after_entry state wish told)
  entry-names state wish (entry.Route second steps labels) names named = with_flight-names (routed_flight wish.name wish.class wish.request steps) state named names
  entry-names state wish (entry.NoRoute labels) names named = names
  entry-names state wish entry.Dropped names named = names

  served-names : (state : State) (wishes : List Wish) (entries : List Told) (after : State) → HaveNames state → All (λ w. IsName w.name) wishes → IsServed airport state wishes entries after → HaveNames after
  served-names state [] [] after names named served = subst HaveNames (sym served) names
  served-names state [] (told ∷ entries) after names named served = absurd served
  served-names state (wish ∷ wishes) [] after names named served = absurd served
  served-names state (wish ∷ wishes) (told ∷ entries) after names named served =
      let same : served.0 ≡ after_entry state wish told.1 = IsServedAs-after airport state wish told served.0 served.1 in
      served-names served.0 wishes entries after (subst HaveNames (sym same) (entry-names state wish told.1 names (All-head (λ (w : Wish). IsName w.name) wish wishes named)))
      (All-tail (λ (w : Wish). IsName w.name) wish wishes named) served.2

  module _ (state : State) (wishes : List Wish) (total : ℕ) (entries : List Told) (after : State) (sequenced : IsSequenced airport state wishes total entries after) where
    pub sequenced-sound : IsSound airport state → AreNew state wishes → holder_count state + length wishes ≤ 4096 → IsSound airport after
    sequenced-sound sound new few =
        served-sound state sequenced.order entries after sound (AreNew-ends airport state wishes wishes sequenced.order sequenced.ends_at new)
        (omega (arith, few, length_permutation wishes sequenced.order (ends-permutation airport state wishes wishes sequenced.order sequenced.ends_at))) sequenced.served

    pub sequenced-names : HaveNames state → All (λ w. IsName w.name) wishes → HaveNames after
    sequenced-names names named =
        served-names state sequenced.order entries after names
        (All-permutation (λ (w : Wish). IsName w.name) wishes sequenced.order (ends-permutation airport state wishes wishes sequenced.order sequenced.ends_at) named) sequenced.served
