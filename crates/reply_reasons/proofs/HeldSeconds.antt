-- A segment is held next to each of its windows, and who holds it is named.
use Rattle.std.proofs.Common.{◌≡◌, ℕ, ◌+◌, ◌<◌, List, length, map, Option, Some, None, not, Bool, IsTrue, IsFalse, inl, inr, refl, subst, arith}
use Rattle.std.specs.Prelude.{◌⊎◌, nat_lt, option_map, Contains}
use Rattle.std.specs.List.{list_any, find}
use Rattle.std.proofs.lemmas.Bool.{and_parts, and_from, ltb-true, lt-ltb, cases_Bool}
use Rattle.std.proofs.lemmas.List.Elements.{Contains-append_left, Contains-append_right}
use Rattle.taxi_base.specs.declared.numbers.Segment.{Segment}
use Rattle.taxi_base.specs.declared.rows.Span.{Span}
use Rattle.taxi_base.specs.declared.answers.Flight.{Flight}
use Rattle.taxi_base.specs.declared.answers.Party.{Party}
use Rattle.taxi_base.specs.Airport.{Airport}
use Rattle.taxi_base.specs.Windows.{blocks, IsWindow}
use Rattle.taxi_base.specs.Walks.{free_among}
use Rattle.taxi_base.specs.State.{State, name_precedes, flight_holds, party_hold, holds_in}
use Rattle.taxi_base.specs.Faults.{first_name, party_at, flight_at, holder_at}
use Rattle.taxi_base.proofs.ListLaws.{Contains-map}
use Rattle.taxi_base.proofs.FaultLaws.{holder_at-some}
use Rattle.replies.proofs.FiledLaws.{map-some}
use Rattle.replies.proofs.FlightLaws.{find-there}
use Rattle.reply_reasons.specs.InTheWay.{is_taken, in_the_way}
use Rattle.reply_reasons.specs.Explained.{holder_names}
use Rattle.reply_reasons.specs.Named.{IsNamed}

module _ (airport : Airport) (others : State) where
  -- the segment is held at the second
  abbrev pub IsHeld : Segment → ℕ → Type 0
  IsHeld s t = IsTrue (is_taken airport others s t)

  module _ (s : Segment) (w : Span) (window : IsWindow (free_among airport (holds_in airport others) s) w) where
    -- it is one of the airport's, and its window begins before the horizon
    window-on : IsTrue (nat_lt s.0 (length airport.segments)) × (w.from < airport.horizon)
    window-on =
        let free : IsTrue (free_among airport (holds_in airport others) s w.from) = window.all w.from (omega arith) window.some in
        let parts = and_parts _ _ free in
        (parts.0, ltb-true w.from airport.horizon (and_parts _ _ parts.1).0)

    taken-at : (t : ℕ) → t < airport.horizon → IsFalse (free_among airport (holds_in airport others) s t) → IsHeld s t
    taken-at t low shut = and_from _ _ window-on.0 (and_from _ _ (lt-ltb t airport.horizon low) (rw shut refl))

    pub held-before : (t : ℕ) → t + 1 ≡ w.from → IsHeld s t
    held-before t e = taken-at t (omega (arith, window-on.1, e)) (window.before t e)

    pub held-after : w.until < airport.horizon → IsHeld s w.until
    held-after low = taken-at w.until low window.after

  -- ---- by whom

  named-among : {X : Type 0} (name_of : X → List ℕ) (p : X → Bool) (xs : List X) (name : List ℕ) → option_map name_of (find p xs) ≡ Some name → Contains (map name_of xs) name
  named-among name_of p xs name e =
      let found = map-some name_of (find p xs) name e in
      subst (Contains (map name_of xs)) found.2 (Contains-map name_of xs found.0 (find-there p xs found.0 found.1))

  first-of : (a b : Option (List ℕ)) (name : List ℕ) → first_name a b ≡ Some name → (a ≡ Some name) ⊎ (b ≡ Some name)
  first-of None b name e = inr e
  first-of (Some x) None name e = inl e
  first-of (Some x) (Some y) name e = elim (cases_Bool (name_precedes y x)) [ inl sooner ↦ inr (rw sooner at e) | inr later ↦ inl (rw later at e) ]

  holder-there : (s : Segment) (t : ℕ) (name : List ℕ) → holder_at airport others s t ≡ Some name → Contains (holder_names others) name
  holder-there s t name e =
      let flights = map (λ (f : Flight). f.name) others.flights in
      let parties = map (λ (p : Party). p.name) others.parties in
      elim (first-of (party_at airport others s t) (flight_at airport others s t) name e) [
        | inl by_party ↦
            Contains-append_right flights parties name
            (named-among (λ (p : Party). p.name) (λ p. blocks airport.conflicts s t (party_hold p)) others.parties name by_party)
        | inr by_flight ↦
            Contains-append_left flights parties name
            (named-among (λ (f : Flight). f.name) (λ f. list_any (blocks airport.conflicts s t) (flight_holds airport f)) others.flights name by_flight)
      ]

  pub held-named : (s : Segment) (t : ℕ) → IsHeld s t → IsNamed others (in_the_way airport others s t)
  unfolding in_the_way
  held-named s t held =
      let parts = and_parts _ _ held in
      let later = and_parts _ _ parts.1 in
      let shut : IsFalse (free_among airport (holds_in airport others) s t) = not-true (free_among airport (holds_in airport others) s t) later.1 in
      let holder = holder_at-some airport others s t (ltb-true s.0 (length airport.segments) parts.0) (ltb-true t airport.horizon later.0) shut in
      rw (held, holder.1) (holder-there s t holder.0 holder.1)
    where
      not-true : (b : Bool) → IsTrue (not b) → IsFalse b
      not-true b h = elim (cases_Bool b) [ inl set ↦ absurd (cc (rw set at h)) | inr unset ↦ unset ]
