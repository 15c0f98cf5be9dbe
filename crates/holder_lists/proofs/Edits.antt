-- What a place says of the flights in the slab, and what they are after an edit there.
use Rattle.std.proofs.Common.{◌≡◌, ℕ, suc, ◌<◌, ◌≤◌, List, length, get_or, insert, take, drop, Some, None, refl, sym, ◌∙◌, subst, arith}
use Rattle.std.specs.Prelude.{IsSome, Result, Err, slice_get}
use Rattle.std.specs.List.{remove}
use Rattle.std.specs.List.Sorted.{IsSearchInRange, IsBinarySearchResult}
use Rattle.std.proofs.lemmas.List.Elements.{All-append, All-take, All-drop}
use Rattle.std.proofs.lemmas.List.Quantifiers.{all_pairs_remove}
use Rattle.std.proofs.lemmas.Option.{slice_get-get_or}
use Rattle.slab.specs.Slab.{Slab, get, Updates}
use Rattle.taxi_base.specs.declared.answers.Flight.{Flight}
use Rattle.taxi_base.specs.State.{flights_with}
use Rattle.std.specs.declared.cmp.Ordering.{Ordering}
use Rattle.holder_lists.specs.Kept.{flights_of, IsKept}
use Rattle.holder_lists.specs.Places.{IsPlace}
use Rattle.holder_lists.proofs.Names.{searched, put-in-gap}
use Rattle.taxi_base.proofs.FlightNames.{Precedes}
use Rattle.taxi_base.proofs.ListLaws.{All-insert}
use Rattle.taxi_base.proofs.NamedLists.{ordered-insert}
use Rattle.holder_lists.proofs.Stored.{AreStored, OrdersFlights, stored_from_keys, view-stored, keys_from_stored, length-stored, get-stored, some_flight, searched-keys, vacant-other, stored-insert, stored-remove}

-- ---- the flights of a ledger

module _ (s : Slab Flight) (ks : List ℕ) (intact : IsKept s ks) where
  stored : AreStored s ks (flights_of s ks)
  stored = stored_from_keys s ks intact.0

  pub length-keys : length ks ≡ length (flights_of s ks)
  length-keys = length-stored s ks (flights_of s ks) stored

  -- the flight at a place
  pub flight-at : (place : ℕ) (d : ℕ) → place < length ks → get s (get_or ks place d) ≡ slice_get (flights_of s ks) place
  flight-at place d low =
      let long = length-keys in
      let g : Flight = some_flight (flights_of s ks) (omega arith) in
      get-stored s ks (flights_of s ks) stored place d g low ∙ sym (slice_get-get_or (flights_of s ks) place g (omega arith))

  pub has-flight : (place : ℕ) (d : ℕ) → place < length ks → IsSome (get s (get_or ks place d))
  has-flight place d low =
      let long = length-keys in
      rw (get-stored s ks (flights_of s ks) stored place d (some_flight (flights_of s ks) (omega arith)) low) refl

  -- a search among the keys finds the place among the flights
  pub among-flights : (name : List ℕ) (order : ℕ → Ordering) → OrdersFlights s name order → (place : Result ℕ ℕ) → IsSearchInRange place (length ks)
      → IsBinarySearchResult order ks place → IsPlace (λ f. f.name) (flights_of s ks) name place
  among-flights name order agrees place bound found =
      searched (λ (f : Flight). f.name) (flights_of s ks) name intact.1.ordered place (subst (IsSearchInRange place) length-keys bound)
      (searched-keys s ks (flights_of s ks) stored name order agrees place bound found)

  module _ (new : Slab Flight) (key : ℕ) where
    -- the keys and flights after a commit at the gap of a name
    pub record IsCommitted (x : Flight) (keys : List ℕ) : Type 0 where
      pub flights : flights_of new keys ≡ flights_with x (flights_of s ks)
      pub kept : IsKept new keys

    pub committed : (x : Flight) (place : ℕ) → Updates s new key (Some x) → get s key ≡ None → 1 ≤ length x.steps → IsPlace (λ f. f.name) (flights_of s ks) x.name (Err place)
        → IsCommitted x (insert ks place key)
    committed x place u vacant routed gap =
        let long = length-keys in
        let within : place ≤ length (flights_of s ks) = gap.gap in
        let added : AreStored new (insert ks place key) (insert (flights_of s ks) place x) =
        stored-insert s new key x u ks (flights_of s ks) place (vacant-other s key ks (flights_of s ks) vacant stored) (omega arith) stored in
        let view : flights_of new (insert ks place key) ≡ insert (flights_of s ks) place x = view-stored new (insert ks place key) (insert (flights_of s ks) place x) added in
        record {
          flights = view ∙ put-in-gap (λ (f : Flight). f.name) x (flights_of s ks) place gap;
          kept = (
            keys_from_stored new (insert ks place key) (insert (flights_of s ks) place x) added,
            rw view (record {
              ordered = ordered-insert (λ (f : Flight). f.name) x (flights_of s ks) place within intact.1.ordered gap.before gap.after;
              routed = All-insert (λ (f : Flight). 1 ≤ length f.steps) (flights_of s ks) place x routed intact.1.routed;
            }),
          );
        }

    -- and after a cancel at a place
    pub record IsCancelled (place : ℕ) (keys : List ℕ) : Type 0 where
      pub flights : flights_of new keys ≡ remove (flights_of s ks) place
      pub kept : IsKept new keys

    pub cancelled : (place : ℕ) (d : ℕ) → Updates s new key None → get_or ks place d ≡ key → place < length ks → IsCancelled place (remove ks place)
    cancelled place d u here low =
        let long = length-keys in
        let left : AreStored new (remove ks place) (remove (flights_of s ks) place) =
        stored-remove s new key u ks (flights_of s ks) place d intact.1.ordered low here stored in
        let view : flights_of new (remove ks place) ≡ remove (flights_of s ks) place = view-stored new (remove ks place) (remove (flights_of s ks) place) left in
        record {
          flights = view;
          kept = (
            keys_from_stored new (remove ks place) (remove (flights_of s ks) place) left,
            rw view (record {
              ordered = all_pairs_remove Precedes (flights_of s ks) place (omega arith) intact.1.ordered;
              routed = All-append (λ f. 1 ≤ length f.steps) (take place (flights_of s ks)) (drop (suc place) (flights_of s ks))
                  (All-take (λ f. 1 ≤ length f.steps) place (flights_of s ks) intact.1.routed) (All-drop (λ f. 1 ≤ length f.steps) (suc place) (flights_of s ks) intact.1.routed);
            }),
          );
        }
