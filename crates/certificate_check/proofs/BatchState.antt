-- The flights that the entries of a batch put in force, and those that are taken out again.
use Rattle.std.proofs.Common.{◌≡◌, ℕ, ◌+◌, ◌≤◌, ◌<◌, zero, suc, false, ◌||◌, List, [], ◌∷◌, length, drop, get_or, Option, Some, None, is_some, IsFalse, refl, sym, ap, subst, arith, add-one}
use Rattle.std.specs.Prelude.{All, bytes_eq, is_none}
use Rattle.std.proofs.lemmas.Bool.{or_parts}
use Rattle.taxi_base.specs.declared.answers.Flight.{Flight}
use Rattle.taxi_base.specs.declared.answers.Party.{Party}
use Rattle.taxi_base.specs.Airport.{Airport}
use Rattle.taxi_base.specs.State.{State, has_holder, holder_count, flight_named, party_named, flights_without, without}
use Rattle.taxi_base.proofs.NameLaws.{length-put_in}
use Rattle.replies.specs.declared.wish.Wish.{Wish}
use Rattle.replies.specs.declared.block.Block.{Block}
use Rattle.replies.specs.declared.block.Block.TheVariants.{Route}
use Rattle.replies.specs.Batches.{wish_named, names_of}
use Rattle.replies.specs.Routed.{routed_flight}
use Rattle.replies.specs.Sought.{sought_wish}
use Rattle.replies.specs.Turns.{after_told}
use Rattle.checked_state.proofs.PlaceLaws.{left-none}
use Rattle.certificate_check.specs.Batch.{without_all}
use Rattle.certificate_check.proofs.EachNamed.{unmap-all}
use Rattle.certificate_check.proofs.ApartLaws.{unnamed-none, unnamed-put_in, unnamed-rest, unnamed-absent, named-put_in-other}

-- ---- the state after an entry

module _ (airport : Airport) (state : State) (wish : Wish) where
  -- no other name gets a holder
  pub after-holder : (block : Block) (name : List ℕ) → IsFalse (bytes_eq wish.name name) → has_holder name (after_told (sought_wish airport state wish) block) ≡ has_holder name state
  after-holder (Route told second steps labels) name other =
      ap (λ o. is_some (party_named name state.parties) || is_some o)
      (named-put_in-other (λ (f : Flight). f.name) (routed_flight wish.name wish.class wish.request steps) state.flights name other)
  after-holder block name other = refl

  -- there is one holder more at most
  pub after-count : (block : Block) → holder_count (after_told (sought_wish airport state wish) block) ≤ holder_count state + 1
  after-count (Route told second steps labels) =
      omega (arith, length-put_in (λ (f : Flight). f.name) (routed_flight wish.name wish.class wish.request steps) state.flights)
  after-count block = omega arith

  -- without the flights of the wishes it is the same
  pub after-others : (wishes : List Wish) (block : Block) → is_none (wish_named wish.name wishes) ≡ false → without_all wishes (after_told (sought_wish airport state wish) block) ≡ without_all wishes state
  after-others wishes (Route told second steps labels) named =
      ap (λ (flights : List Flight). record { flights = flights; parties = state.parties })
      (unnamed-put_in (λ (w : Wish). w.name) (λ (f : Flight). f.name) wishes (routed_flight wish.name wish.class wish.request steps) state.flights named)
  after-others wishes block named = refl

-- ---- the flights of wishes are left out

-- where none of them is there, the state is the same
pub without-new : (wishes : List Wish) (state : State) → All (λ name. IsFalse (has_holder name state)) (names_of wishes) → without_all wishes state ≡ state
without-new wishes state new =
    ap (λ (flights : List Flight). record { flights = flights; parties = state.parties })
    (unnamed-absent (λ (w : Wish). w.name) (λ (f : Flight). f.name) wishes state.flights
    (λ k d low. absent (get_or wishes k d) (unmap-all (λ name. IsFalse (has_holder name state)) (λ (w : Wish). w.name) wishes new k d low)))
  where
    absent : (w : Wish) → IsFalse (has_holder w.name state) → flights_without w.name state.flights ≡ state.flights
    absent w none = left-none (λ (f : Flight). f.name) w.name state.flights (no-flight (flight_named w.name state.flights) (or_parts (is_some (party_named w.name state.parties)) (is_some (flight_named w.name state.flights)) none).1) where
      no-flight : (o : Option Flight) → is_some o ≡ false → o ≡ None
      no-flight None e = refl
      no-flight (Some f) e = absurd (cc e)

-- one after the other is left out
module _ (state : State) where
  pub without-next : (wishes : List Wish) (i : ℕ) → i < length wishes → (w : Wish) → w ≡ get_or wishes i w
      → without_all (drop i wishes) state ≡ without_all (drop (i + 1) wishes) (record state { flights = flights_without w.name state.flights })
  without-next wishes i low w is = rw add-one (go wishes i low is) where
    go : (wishes : List Wish) (i : ℕ) → i < length wishes → w ≡ get_or wishes i w
        → without_all (drop i wishes) state ≡ without_all (drop (suc i) wishes) (record state { flights = flights_without w.name state.flights })
    go [] i low is = absurd (omega arith)
    go (v ∷ wishes) zero low is =
        ap (λ (flights : List Flight). record { flights = flights; parties = state.parties })
        (subst (λ (u : Wish). (without_all (v ∷ wishes) state).flights ≡ (without_all wishes (record state { flights = flights_without u.name state.flights })).flights) (sym is)
        (unnamed-rest (λ (w : Wish). w.name) (λ (f : Flight). f.name) v wishes state.flights))
    go (v ∷ wishes) (suc i) low is = go wishes i (omega arith) is

  pub without-none : without_all [] state ≡ state
  without-none = ap (λ (flights : List Flight). record { flights = flights; parties = state.parties }) (unnamed-none (λ (w : Wish). w.name) (λ (f : Flight). f.name) state.flights)

-- ---- one flight is taken out

-- without a flight the parties stay
pub without-flight : (name : List ℕ) (state : State) → party_named name state.parties ≡ None → without name state ≡ record state { flights = flights_without name state.flights }
without-flight name state alone = ap (λ (parties : List Party). record { flights = flights_without name state.flights; parties = parties }) (left-none (λ (p : Party). p.name) name state.parties alone)

-- where no flight has the name the state is the same
pub without-nobody : (name : List ℕ) (state : State) → flight_named name state.flights ≡ None → record state { flights = flights_without name state.flights } ≡ state
without-nobody name state none = ap (λ (flights : List Flight). record { flights = flights; parties = state.parties }) (left-none (λ (f : Flight). f.name) name state.flights none)

pub drop-past : (wishes : List Wish) (i : ℕ) → length wishes ≤ i → drop i wishes ≡ []
drop-past [] zero past = refl
drop-past [] (suc i) past = refl
drop-past (w ∷ wishes) zero past = absurd (omega (arith, past))
drop-past (w ∷ wishes) (suc i) past = drop-past wishes i (omega arith)
