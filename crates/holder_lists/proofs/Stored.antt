-- Flights in a slab under keys, what a search among the keys is among the flights, and what stays stored where a key comes or goes.
use Rattle.std.proofs.Common.{◌≡◌, ◌≢◌, ℕ, zero, suc, ◌<◌, ◌≤◌, List, [], ◌∷◌, length, get_or, insert, Option, Some, None, refl, sym, ap, ◌∙◌, subst, arith}
use Rattle.std.specs.Prelude.{IsSome, All, AllPairs, ⊤, Result, Ok, Err}
use Rattle.std.specs.List.{remove}
use Rattle.std.specs.List.Sorted.{IsSearchInRange, IsBinarySearchResult}
use Rattle.std.specs.Ordering.{nat_cmp}
use Rattle.std.specs.declared.cmp.Ordering.{Ordering}
use Rattle.std.specs.Cmp.Lexicographic.{slice_cmp}
use Rattle.slab.specs.Slab.{Slab, get, Updates}
use Rattle.taxi_base.specs.declared.answers.Flight.{Flight}
use Rattle.taxi_base.proofs.ListLaws.{AllPairs-first, AllPairs-rest}
use Rattle.holder_lists.specs.Kept.{flights_of}
use Rattle.taxi_base.proofs.FlightNames.{Precedes, precedes_itself}

-- each key in turn has the flight there
abbrev pub AreStored : Slab Flight → List ℕ → List Flight → Type 0
AreStored s [] [] = ⊤
AreStored s [] (f ∷ fs) = ⊥
AreStored s (k ∷ ks) [] = ⊥
AreStored s (k ∷ ks) (f ∷ fs) = (get s k ≡ Some f) × AreStored s ks fs

abbrev pub HaveFlights : Slab Flight → List ℕ → Type 0
HaveFlights s ks = All (λ key. IsSome (get s key)) ks

-- ---- stored flights are the view

there : (s : Slab Flight) (k : ℕ) (o : Option Flight) → get s k ≡ o → IsSome o → (f : Flight) × (get s k ≡ Some f)
there s k None e h = absurd (cc h)
there s k (Some f) e h = (f, e)

pub stored_from_keys : (s : Slab Flight) (ks : List ℕ) → HaveFlights s ks → AreStored s ks (flights_of s ks)
stored_from_keys s [] have = tt
stored_from_keys s (k ∷ ks) have =
    let first = there s k (get s k) refl (have 0 k (omega arith)) in
    rw first.1 (first.1, stored_from_keys s ks (λ j d low. have (suc j) d (omega arith)))

pub view-stored : (s : Slab Flight) (ks : List ℕ) (fs : List Flight) → AreStored s ks fs → flights_of s ks ≡ fs
view-stored s [] [] stored = refl
view-stored s [] (f ∷ fs) stored = absurd stored
view-stored s (k ∷ ks) [] stored = absurd stored
view-stored s (k ∷ ks) (f ∷ fs) stored = rw stored.0 (ap (λ (gs : List Flight). f ∷ gs) (view-stored s ks fs stored.1))

pub keys_from_stored : (s : Slab Flight) (ks : List ℕ) (fs : List Flight) → AreStored s ks fs → HaveFlights s ks
keys_from_stored s [] fs stored j d low = absurd (omega arith)
keys_from_stored s (k ∷ ks) [] stored j d low = absurd stored
keys_from_stored s (k ∷ ks) (f ∷ fs) stored zero d low = rw stored.0 refl
keys_from_stored s (k ∷ ks) (f ∷ fs) stored (suc j) d low = keys_from_stored s ks fs stored.1 j d (omega arith)

pub length-stored : (s : Slab Flight) (ks : List ℕ) (fs : List Flight) → AreStored s ks fs → length ks ≡ length fs
length-stored s [] [] stored = refl
length-stored s [] (f ∷ fs) stored = absurd stored
length-stored s (k ∷ ks) [] stored = absurd stored
length-stored s (k ∷ ks) (f ∷ fs) stored = ap suc (length-stored s ks fs stored.1)

pub some_flight : (fs : List Flight) → 0 < length fs → Flight
some_flight [] h = absurd (omega arith)
some_flight (f ∷ fs) h = f

-- the flight at a place
pub get-stored : (s : Slab Flight) (ks : List ℕ) (fs : List Flight) → AreStored s ks fs → (j : ℕ) (d : ℕ) (e : Flight) → j < length ks
    → get s (get_or ks j d) ≡ Some (get_or fs j e)
get-stored s [] fs stored j d e low = absurd (omega arith)
get-stored s (k ∷ ks) [] stored j d e low = absurd stored
get-stored s (k ∷ ks) (f ∷ fs) stored zero d e low = stored.0
get-stored s (k ∷ ks) (f ∷ fs) stored (suc j) d e low = get-stored s ks fs stored.1 j d e (omega arith)

-- ---- a search among the keys

-- keys compare as the names of their flights do
abbrev pub OrdersFlights : Slab Flight → List ℕ → (ℕ → Ordering) → Type 0
OrdersFlights s name order = (key : ℕ) (f : Flight) → get s key ≡ Some f → order key ≡ slice_cmp nat_cmp f.name name

module _ (s : Slab Flight) (ks : List ℕ) (fs : List Flight) (stored : AreStored s ks fs) (name : List ℕ) (order : ℕ → Ordering) (agrees : OrdersFlights s name order) where
  abbrev flight_order : Flight → Ordering
  flight_order f = slice_cmp nat_cmp f.name name

  same-order : (j : ℕ) (d : ℕ) (e : Flight) → j < length ks → order (get_or ks j d) ≡ flight_order (get_or fs j e)
  same-order j d e low = agrees (get_or ks j d) (get_or fs j e) (get-stored s ks fs stored j d e low)

  pub searched-keys : (r : Result ℕ ℕ) → IsSearchInRange r (length ks) → IsBinarySearchResult order ks r → IsBinarySearchResult flight_order fs r
  searched-keys (Ok j) bound found = λ e. sym (same-order j 0 e bound) ∙ found 0
  searched-keys (Err j) bound parted = λ rising.
      let long = length-stored s ks fs stored in
      let low : j ≤ length ks = bound in
      let parts = parted (λ a b d below high.
      let g : Flight = some_flight fs (omega arith) in
      rw (same-order a d g (omega arith), same-order b d g high) (rising a b g below (omega arith))) in (
        λ a e from until. sym (same-order a 0 e (omega arith)) ∙ parts.0 a 0 from until,
        λ a e from until. sym (same-order a 0 e (omega arith)) ∙ parts.1 a 0 from (omega arith),
      )

-- ---- a key that comes or goes

-- an update at another key leaves what is stored
pub stored-kept : (old new : Slab Flight) (key : ℕ) (o : Option Flight) → Updates old new key o → (ks : List ℕ) (fs : List Flight) → All (λ k. k ≢ key) ks
    → AreStored old ks fs → AreStored new ks fs
stored-kept old new key o u [] [] others stored = tt
stored-kept old new key o u [] (f ∷ fs) others stored = absurd stored
stored-kept old new key o u (k ∷ ks) [] others stored = absurd stored
stored-kept old new key o u (k ∷ ks) (f ∷ fs) others stored =
    (u.others k (others 0 k (omega arith)) ∙ stored.0, stored-kept old new key o u ks fs (λ j d low. others (suc j) d (omega arith)) stored.1)

-- a key with no flight is none of them
pub vacant-other : (s : Slab Flight) (key : ℕ) (ks : List ℕ) (fs : List Flight) → get s key ≡ None → AreStored s ks fs → All (λ k. k ≢ key) ks
vacant-other s key ks fs vacant stored j d low e =
    let long = length-stored s ks fs stored in
    let g : Flight = some_flight fs (omega arith) in
    let found = get-stored s ks fs stored j d g low in
    let here : get s key ≡ Some (get_or fs j g) = subst (λ x. get s x ≡ Some (get_or fs j g)) e found in
    cc

pub stored-insert : (old new : Slab Flight) (key : ℕ) (x : Flight) → Updates old new key (Some x) → (ks : List ℕ) (fs : List Flight) (place : ℕ) → All (λ k. k ≢ key) ks
    → place ≤ length ks → AreStored old ks fs → AreStored new (insert ks place key) (insert fs place x)
stored-insert old new key x u ks fs zero others low stored = (u.changed, stored-kept old new key (Some x) u ks fs others stored)
stored-insert old new key x u [] fs (suc place) others low stored = absurd (omega arith)
stored-insert old new key x u (k ∷ ks) [] (suc place) others low stored = absurd stored
stored-insert old new key x u (k ∷ ks) (f ∷ fs) (suc place) others low stored = (
  u.others k (others 0 k (omega arith)) ∙ stored.0,
  stored-insert old new key x u ks fs place (λ j d within. others (suc j) d (omega arith)) (omega arith) stored.1,
)

-- the keys of flights in order differ
pub later-other : (s : Slab Flight) (key : ℕ) (f : Flight) (ks : List ℕ) (fs : List Flight) → get s key ≡ Some f → All (Precedes f) fs → AreStored s ks fs → All (λ k. k ≢ key) ks
later-other s key f ks fs here after stored j d low e =
    let long = length-stored s ks fs stored in
    let found = get-stored s ks fs stored j d f low in
    let same : get s key ≡ Some (get_or fs j f) = subst (λ x. get s x ≡ Some (get_or fs j f)) e found in
    let one : f ≡ get_or fs j f = cc in
    precedes_itself f.name (get_or fs j f).name (after j f (omega arith)) (ap (λ (x : Flight). x.name) one)

pub stored-remove : (old new : Slab Flight) (key : ℕ) → Updates old new key None → (ks : List ℕ) (fs : List Flight) (place : ℕ) (d : ℕ) → AllPairs Precedes fs
    → place < length ks → get_or ks place d ≡ key → AreStored old ks fs → AreStored new (remove ks place) (remove fs place)
stored-remove old new key u [] fs place d ordered low here stored = absurd (omega arith)
stored-remove old new key u (k ∷ ks) [] place d ordered low here stored = absurd stored
stored-remove old new key u (k ∷ ks) (f ∷ fs) zero d ordered low here stored =
    stored-kept old new key None u ks fs (later-other old key f ks fs (subst (λ x. get old x ≡ Some f) here stored.0) (AllPairs-first Precedes f fs ordered) stored.1) stored.1
stored-remove old new key u (k ∷ ks) (f ∷ fs) (suc place) d ordered low here stored =
    let long = length-stored old ks fs stored.1 in
    let found = get-stored old ks fs stored.1 place d f (omega arith) in
    let same : get old key ≡ Some (get_or fs place f) = subst (λ x. get old x ≡ Some (get_or fs place f)) here found in
    let other : k ≢ key = λ e.
    let first : get old key ≡ Some f = subst (λ x. get old x ≡ Some f) e stored.0 in
    let one : f ≡ get_or fs place f = cc in
    precedes_itself f.name (get_or fs place f).name (AllPairs-first Precedes f fs ordered place f (omega arith)) (ap (λ (x : Flight). x.name) one) in
    (u.others k other ∙ stored.0, stored-remove old new key u ks fs place d (AllPairs-rest Precedes f fs ordered) (omega arith) here stored.1)
