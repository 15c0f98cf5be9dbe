-- Flights that are served do in turn as their entries say, leave the state sound, and take up their names.
use Rattle.std.proofs.Common.{ℕ, List, [], ◌∷◌, sym, subst}
use Rattle.taxi_base.specs.declared.answers.Found.{Found}
use Rattle.taxi_base.specs.declared.answers.Found.TheVariants as found
use Rattle.taxi_base.specs.Airport.{Airport}
use Rattle.taxi_base.specs.State.{State, with_flight, IsSound}
use Rattle.replies.specs.declared.block.Block.{Block}
use Rattle.replies.specs.declared.block.Block.TheVariants.{Route, NoRoute}
use Rattle.replies.specs.declared.entries.Entry.{Entry}
use Rattle.replies.specs.declared.entries.Entry.TheVariants as entry
use Rattle.replies.specs.declared.wish.Wish.{Wish}
use Rattle.replies.specs.Routed.{IsOf, found_reply, routed_flight, IsRoutedAs}
use Rattle.replies.specs.Batches.{names_of, IsServedAs, IsServed}
use Rattle.replies.specs.Replies.{DoesEntry, DoInTurn}
use Rattle.replies.proofs.NewNames.{AreNew, new-first, new-rest, new-with_flight}
use Rattle.replies.proofs.RoutedKept.{routed-kept}

module _ (airport : Airport) where
  -- the other names stay new when one flight is routed
  routed-new : (state : State) (wish : Wish) (block : Block) (after : State) (names : List (List ℕ)) → AreNew state (wish.name ∷ names) → IsRoutedAs airport state wish.name wish.class wish.request block after
      → AreNew after names
  routed-new state wish block after names new done = go done.found done.reply where
    go : (answer : Found) → IsOf (found_reply state wish.name wish.request (λ steps. with_flight (routed_flight wish.name wish.class wish.request steps) state) answer) block after → AreNew after names
    go (found.Route steps labels) of = subst (λ s. AreNew s names) (sym of.1) (new-with_flight (routed_flight wish.name wish.class wish.request steps) state names new)
    go (found.NoRoute labels) of = subst (λ s. AreNew s names) (sym of.1) (new-rest state wish.name names new)

  -- one flight that is served does as its entry says, and the state stays sound
  pub record IsEntryKept (state : State) (told : List ℕ × Entry) (names : List (List ℕ)) (after : State) : Type 0 where
    pub does : DoesEntry airport state told after
    pub stays_sound : IsSound airport after
    pub still_new : AreNew after names

  pub entry-kept : (state : State) (wish : Wish) (told : List ℕ × Entry) (names : List (List ℕ)) (after : State) → IsSound airport state → AreNew state (wish.name ∷ names)
      → IsServedAs airport state wish told after → IsEntryKept state told names after
  entry-kept state wish (name, entry.Route second steps labels) names after sound new served =
      let kept = routed-kept airport state sound wish.name wish.class wish.request (Route name second steps labels) after (new-first state wish.name names new) served.1 in
      record { does = kept.as_it_says; stays_sound = kept.stays_sound; still_new = routed-new state wish (Route name second steps labels) after names new served.1 }
  entry-kept state wish (name, entry.NoRoute labels) names after sound new served =
      let kept = routed-kept airport state sound wish.name wish.class wish.request (NoRoute labels) after (new-first state wish.name names new) served.1 in
      record { does = kept.as_it_says; stays_sound = kept.stays_sound; still_new = routed-new state wish (NoRoute labels) after names new served.1 }
  entry-kept state wish (name, entry.Dropped) names after sound new served = absurd served

  -- and so do all
  pub served-kept : (state : State) (order : List Wish) (entries : List (List ℕ × Entry)) (after : State) → IsSound airport state → AreNew state (names_of order)
      → IsServed airport state order entries after → DoInTurn airport state entries after × IsSound airport after
  served-kept state [] [] after sound new served = (served, subst (IsSound airport) (sym served) sound)
  served-kept state [] (told ∷ entries) after sound new served = absurd served
  served-kept state (wish ∷ order) [] after sound new served = absurd served
  served-kept state (wish ∷ order) (told ∷ entries) after sound new served =
      let first = entry-kept state wish told (names_of order) served.0 sound new served.1 in
      let later = served-kept served.0 order entries after first.stays_sound first.still_new served.2 in
      ((served.0, first.does, later.0), later.1)
