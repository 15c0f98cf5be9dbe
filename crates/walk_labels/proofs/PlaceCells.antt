-- The places of a class are the cells of its two networks: by their numbers in order, and as they are.
use Rattle.std.proofs.Common.{◌≡◌, ℕ, ◌<◌, ◌≤◌, Bool, ◌&&◌, ◌||◌, ltb, eqb, List, length, inl, inr, IsTrue, Option, Some, None, is_some, unwrap_or, refl, sym, ◌∙◌, ap, subst, arith, ◌↔◌}
use Rattle.std.proofs.lemmas.Bool.{cases_lt, cases_order, and_parts, and_from, lt-ltb, ltb-true, eq-eqb, eqb-true, cond-true}
use Rattle.std.proofs.lemmas.Bool.Decides.{nat_tests}
use Rattle.std.proofs.lemmas.List.{get_or_default, get_or_past}
use Rattle.taxi_base.specs.declared.numbers.Segment.{Segment}
use Rattle.taxi_base.specs.declared.numbers.Arc.{Arc}
use Rattle.taxi_base.specs.Airport.{layout_of, segment_of, seconds, arc_exists}
use Rattle.taxi_base.specs.Windows.{IsWindow, AreWindows, windows_before}
use Rattle.taxi_base.specs.Walks.{Conditions, last_of}
use Rattle.taxi_base.proofs.ListLaws.{list_any-true, list_any-member}
use Rattle.taxi_base.proofs.WindowLaws.{AreWindows-member, AreWindows-whole, Span-same}
use Rattle.taxi_base.proofs.WindowsMade.{windows_before-are}
use Rattle.walk_labels.specs.Places.{AreFit, Place, IsPlace, AreCells, IsOrdered, place_precedes, ArePlaces, no_place, place_at, seconds_at, is_numbered, numbered, is_place, network_of}

-- ---- the order of places

pub precedes-not_same : (p q : Place) → IsTrue (place_precedes p q) → p ≡ q → ⊥
precedes-not_same p q h e = ahead p.arc.0 p.window.from (subst (λ (r : Place). IsTrue (place_precedes p r)) (sym e) h)
  where
    ahead : (a f : ℕ) → IsTrue (ltb a a || (eqb a a && ltb f f)) → ⊥
    ahead a f h = grind (arith, nat_tests)

pub precedes-one_way : (p q : Place) → IsTrue (place_precedes p q) → IsTrue (place_precedes q p) → ⊥
precedes-one_way p q h k = one_way p.arc.0 q.arc.0 p.window.from q.window.from h k
  where
    one_way : (a b f g : ℕ) → IsTrue (ltb a b || (eqb a b && ltb f g)) → IsTrue (ltb b a || (eqb b a && ltb g f)) → ⊥
    one_way a b f g h k = grind (arith, nat_tests)

-- ---- seconds

pub seconds_at-some : (c : Conditions) (arc : Arc) → IsTrue (is_some (seconds c.airport c.class (segment_of arc))) → seconds c.airport c.class (segment_of arc) ≡ Some (seconds_at c arc)
seconds_at-some c arc h = known (seconds c.airport c.class (segment_of arc)) h
  where
    known : (o : Option ℕ) → IsTrue (is_some o) → o ≡ Some (unwrap_or o 1)
    known None h = absurd cc
    known (Some n) h = refl

pub seconds_at-takes : (c : Conditions) → AreFit c → (arc : Arc) → 1 ≤ seconds_at c arc
seconds_at-takes c fit arc = known (seconds c.airport c.class (segment_of arc)) (fit.timed (segment_of arc))
  where
    known : (o : Option ℕ) → ((n : ℕ) → o ≡ Some n → 1 ≤ n) → 1 ≤ unwrap_or o 1
    known None h = omega arith
    known (Some n) h = h n refl

-- ---- by their numbers

-- what is a place has a number
pub place_at-by : (c : Conditions) (cells : List Place) (k : ℕ) → IsPlace c (place_at cells k) → k < length cells
place_at-by c cells k is =
    elim (cases_lt k (length cells)) [
      | inl on ↦ on
      | inr off ↦
          let none : place_at cells k ≡ no_place = get_or_past cells k no_place off in
          let window = subst (λ (p : Place). IsWindow (c.free (segment_of p.arc)) p.window) none is.window in
          absurd (omega (arith, window.some))
    ]

module _ (c : Conditions) (usable : ℕ → Bool) (cells : List Place) (are : ArePlaces c usable cells) where
  -- a number of the test's is at a place, and a place's number is one of the test's
  pub is_numbered-place : (k : ℕ) → IsTrue (is_numbered usable cells k) → IsPlace c (place_at cells k)
  is_numbered-place k h = let parts = and_parts (ltb k (length cells)) (usable k) h in (are.exact k (ltb-true k (length cells) parts.0)).0 parts.1

  place-usable : (k : ℕ) → IsPlace c (place_at cells k) → IsTrue (usable k)
  place-usable k is = (are.exact k (place_at-by c cells k is)).1 is

  pub place-is_numbered : (k : ℕ) → IsPlace c (place_at cells k) → IsTrue (is_numbered usable cells k)
  place-is_numbered k is = and_from (ltb k (length cells)) (usable k) (lt-ltb k (length cells) (place_at-by c cells k is)) (place-usable k is)

  numbered-precedes : (j k : ℕ) → IsPlace c (place_at cells j) → IsPlace c (place_at cells k) → j < k → IsTrue (place_precedes (place_at cells j) (place_at cells k))
  numbered-precedes j k j_is k_is before = are.ordered j k before (place_at-by c cells k k_is) (place-usable j j_is) (place-usable k k_is)

  numbered-whole : (p : Place) → IsPlace c p → (k : ℕ) × (place_at cells k ≡ p)
  numbered-whole p is = let found = are.whole p is in (found.0, get_or_default cells found.0 no_place p found.1 ∙ found.2)

  numbered-once : (j k : ℕ) → IsPlace c (place_at cells j) → place_at cells j ≡ place_at cells k → j ≡ k
  numbered-once j k is same =
      let also : IsPlace c (place_at cells k) = subst (IsPlace c) same is in
      elim (cases_order j k) [
        | inl e ↦ e
        | inr other ↦ elim other [
          | inl before ↦ absurd (precedes-not_same (place_at cells j) (place_at cells k) (numbered-precedes j k is also before) same)
          | inr after ↦ absurd (precedes-not_same (place_at cells k) (place_at cells j) (numbered-precedes k j also is after) (sym same))
        ]
      ]

  -- the numbers are cells
  pub numbered-cells : AreCells c (numbered c usable cells) (place_at cells)
  numbered-cells = record {
    whole = numbered-whole;
    once = numbered-once;
    from = λ k is. refl;
    last = λ k is. refl;
    takes = λ k is. seconds_at-some c (place_at cells k).arc is.timed;
    turn = λ j k. (
      λ h. (
          let parts = and_parts _ _ h in
          let both = and_parts _ _ parts.0 in
          (is_numbered-place j both.0, is_numbered-place k both.1, parts.1)),
      λ h. and_from _ _ (and_from _ _ (place-is_numbered j h.0) (place-is_numbered k h.1)) h.2,
    );
  }

  -- in the order of the places
  pub numbered-ordered : IsOrdered c (place_at cells) (λ j k. j < k)
  numbered-ordered j k j_is k_is = (
    numbered-precedes j k j_is k_is,
    λ h. elim (cases_order j k) [
      | inl e ↦ absurd (precedes-not_same (place_at cells j) (place_at cells k) h (ap (place_at cells) e))
      | inr other ↦ elim other [
        | inl before ↦ before
        | inr after ↦ absurd (precedes-one_way (place_at cells j) (place_at cells k) h (numbered-precedes k j k_is j_is after))
      ]
    ],
  )

-- ---- as they are

module _ (c : Conditions) (fit : AreFit c) where
  windows : (s : Segment) → AreWindows (c.free s) (windows_before (c.free s) c.airport.horizon)
  windows s = windows_before-are (c.free s) c.airport.horizon (fit.shut s)

  pub is_place-true : (p : Place) → IsTrue (is_place c p) ↔ IsPlace c p
  is_place-true p = (there, back)
    where
      there : IsTrue (is_place c p) → IsPlace c p
      there h =
          let parts = and_parts _ _ h in
          let arc = and_parts _ _ parts.0 in
          let found = list_any-true (λ w. eqb w.from p.window.from && eqb w.until p.window.until) (windows_before (c.free (segment_of p.arc)) c.airport.horizon) parts.1 in
          let ends = and_parts _ _ found.2 in
          let same : found.0 ≡ p.window = Span-same found.0 p.window (eqb-true _ _ ends.0) (eqb-true _ _ ends.1) in
          record {
            on_arc = arc.0;
            timed = arc.1;
            window = subst (IsWindow (c.free (segment_of p.arc))) same (AreWindows-member (c.free (segment_of p.arc)) _ found.0 (windows (segment_of p.arc)) found.1);
          }

      back : IsPlace c p → IsTrue (is_place c p)
      back is =
          let member = AreWindows-whole (c.free (segment_of p.arc)) (windows_before (c.free (segment_of p.arc)) c.airport.horizon) p.window (windows (segment_of p.arc)) is.window in
          and_from (arc_exists (layout_of c.airport) p.arc && is_some (seconds c.airport c.class (segment_of p.arc))) _ (and_from (arc_exists (layout_of c.airport) p.arc) (is_some (seconds c.airport c.class (segment_of p.arc))) is.on_arc is.timed)
          (list_any-member (λ w. eqb w.from p.window.from && eqb w.until p.window.until) (windows_before (c.free (segment_of p.arc)) c.airport.horizon) p.window member
          (and_from (eqb p.window.from p.window.from) (eqb p.window.until p.window.until) (eq-eqb p.window.from p.window.from refl) (eq-eqb p.window.until p.window.until refl)))

  -- the places are cells
  pub network-cells : AreCells c (network_of c) (λ p. p)
  network-cells = record {
    whole = λ p is. (p, refl);
    once = λ p q is same. same;
    from = λ p is. cond-true (is_place c p) p.window.from 0 ((is_place-true p).1 is);
    last = λ p is. cond-true (is_place c p) (last_of c p.window) 0 ((is_place-true p).1 is);
    takes = λ p is. seconds_at-some c p.arc is.timed;
    turn = λ p q. (
      λ h. (
          let parts = and_parts _ _ h in
          let both = and_parts _ _ parts.0 in
          ((is_place-true p).0 both.0, (is_place-true q).0 both.1, parts.1)),
      λ h. and_from _ _ (and_from _ _ ((is_place-true p).1 h.0) ((is_place-true q).1 h.1)) h.2,
    );
  }
