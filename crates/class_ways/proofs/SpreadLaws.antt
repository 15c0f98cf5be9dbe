-- What is found, as it is gone on from one arc after the other: in the end all that a course meets.
use Rattle.std.proofs.Common.{◌≡◌, ◌↔◌, ℕ, Bool, ◌+◌, ◌<◌, ◌≤◌, List, [], ◌∷◌, ◌++◌, length, get_or, take, All, Option, Some, None, IsTrue, inl, inr, refl, sym, ◌∙◌, ap, subst, arith}
use Rattle.std.specs.Prelude.{slice_get, MatchOption}
use Rattle.std.proofs.lemmas.List.{take_all, take_more, take-append-le}
use Rattle.std.proofs.lemmas.List.Elements.{All-append, All-push, All-contains}
use Rattle.std.proofs.lemmas.Option.{slice_get_within, slice_get_cases, get_or_from_slice_get, none-some}
use Rattle.taxi_base.specs.declared.numbers.Arc.{Arc}
use Rattle.taxi_base.specs.declared.numbers.Class.{Class}
use Rattle.taxi_base.specs.Airport.{Airport, layout_of, arc_exists}
use Rattle.class_ways.specs.declared.course.Course.{Course}
use Rattle.class_ways.specs.Courses.{IsOpenTurn, IsComing, IsMet, IsGoneOn}
use Rattle.class_ways.specs.Found.{FoundArcs, has_arc, Gained}
use Rattle.class_ways.proofs.FoundLaws.{has-Contains, has-more}
use Rattle.class_ways.proofs.WayLaws.{open-exists}

-- all that may follow an arc on the course was found too
abbrev IsGoneOnFrom : Course → Airport → Class → List Arc → Arc → Type 0
IsGoneOnFrom course airport class found x = (y : Arc) → IsOpenTurn course airport class x y → IsTrue (has_arc found y)

-- so far was gone on from the first few
pub record IsSpread (course : Course) (airport : Airport) (class : Class) (begins : Arc → Bool) (first : ℕ) (found : FoundArcs) : Type 0 where
  pub limit : found.limit ≡ length airport.segments + length airport.segments
  pub met : All (IsMet course airport class begins) found.arcs
  pub starts : (arc : Arc) → IsTrue (begins arc) → IsTrue (has_arc found.arcs arc)
  pub onward : All (IsGoneOnFrom course airport class found.arcs) (take first found.arcs)

module _ (course : Course) (airport : Airport) (class : Class) (begins : Arc → Bool) where
  pub spread-more : (at : ℕ) (old new : FoundArcs) (x : Arc) → IsSpread course airport class begins at old → slice_get old.arcs at ≡ Some x
      → Gained (IsOpenTurn course airport class x) old new → IsSpread course airport class begins (at + 1) new
  spread-more at old new x so_far found gained = record {
    limit = gained.limit ∙ so_far.limit;
    met = subst (All (IsMet course airport class begins)) (sym gained.longer)
        (All-append (IsMet course airport class begins) old.arcs gained.more so_far.met (λ k d low. (x ∷ x_met.0, (gained.wanted k d low, x_met.1))));
    starts = λ arc start. has-more (IsOpenTurn course airport class x) old new gained arc (so_far.starts arc start);
    onward = subst (All (IsGoneOnFrom course airport class new.arcs)) (sym front)
        (All-push (IsGoneOnFrom course airport class new.arcs) (take at old.arcs) x
        (λ k d low y turn. has-more (IsOpenTurn course airport class x) old new gained y (so_far.onward k d low y turn))
        gained.all);
  }
    where
      low : at < length old.arcs
      low = slice_get_within old.arcs at x found

      is : get_or old.arcs at x ≡ x
      is = get_or_from_slice_get old.arcs at x x found

      x_met : IsMet course airport class begins x
      x_met = subst (IsMet course airport class begins) is (so_far.met at x low)

      front : take (at + 1) new.arcs ≡ take at old.arcs ++ x ∷ []
      front =
          ap (take (at + 1)) gained.longer ∙ take-append-le (at + 1) old.arcs gained.more (omega (arith, low)) ∙ take_more old.arcs at x low
          ∙ ap (λ y. take at old.arcs ++ y ∷ []) is

  -- nothing more to go on from
  pub spread-idle : (at : ℕ) (found : FoundArcs) → IsSpread course airport class begins at found → slice_get found.arcs at ≡ None → IsSpread course airport class begins (at + 1) found
  spread-idle at found so_far none = record {
    limit = so_far.limit;
    met = so_far.met;
    starts = so_far.starts;
    onward = elim (slice_get_cases found.arcs at).1 [
      | inl there ↦ absurd (none-some there.0 (sym none ∙ there.2))
      | inr past ↦
          let far = past.0 in
          let all : take (at + 1) found.arcs ≡ found.arcs = take_all (at + 1) found.arcs (omega (arith, far)) in
          subst (All (IsGoneOnFrom course airport class found.arcs)) (take_all at found.arcs far ∙ sym all) so_far.onward
    ];
  }

  pub spread-all : (at : ℕ) (found : FoundArcs) → IsSpread course airport class begins at found → length found.arcs ≤ at
      → (arc : Arc) → IsTrue (has_arc found.arcs arc) ↔ IsMet course airport class begins arc
  spread-all at found spread past arc = (
    λ has. All-contains (IsMet course airport class begins) found.arcs arc spread.met (has-Contains found.arcs arc has),
    λ met. comes arc met.0 met.1,
  )
    where
      onward : All (IsGoneOnFrom course airport class found.arcs) found.arcs
      onward = subst (All (IsGoneOnFrom course airport class found.arcs)) (take_all at found.arcs past) spread.onward

      comes : (y : Arc) (before : List Arc) → IsComing course airport class begins y before → IsTrue (has_arc found.arcs y)
      comes y [] start = spread.starts y start
      comes y (x ∷ before) coming =
          All-contains (IsGoneOnFrom course airport class found.arcs) found.arcs x onward (has-Contains found.arcs x (comes x before coming.1)) y coming.0

  -- what is met exists, where what the course begins with does
  pub met-exists : ((arc : Arc) → IsTrue (begins arc) → IsTrue (arc_exists (layout_of airport) arc)) → (arc : Arc) → IsMet course airport class begins arc → IsTrue (arc_exists (layout_of airport) arc)
  met-exists exist arc ([], begin) = exist arc begin
  met-exists exist arc (x ∷ before, coming) = open-exists airport class arc coming.0.1

  -- one arc more is gone on from
  pub spread-on : (at : ℕ) (old new : FoundArcs) → IsSpread course airport class begins at old → IsGoneOn course airport class at old new → IsSpread course airport class begins (at + 1) new
  spread-on at old new so_far gone = go (slice_get old.arcs at) refl gone
    where
      go : (o : Option Arc) → slice_get old.arcs at ≡ o → MatchOption o (new ≡ old) (λ x. Gained (IsOpenTurn course airport class x) old new) → IsSpread course airport class begins (at + 1) new
      go None none same = subst (IsSpread course airport class begins (at + 1)) (sym same) (spread-idle at old so_far none)
      go (Some x) found gained = spread-more at old new x so_far found gained

-- the same, where the course begins with the same arcs
pub met-same : (course : Course) (airport : Airport) (class : Class) (begins too : Arc → Bool) → ((arc : Arc) → IsTrue (begins arc) → IsTrue (too arc))
    → (arc : Arc) → IsMet course airport class begins arc → IsMet course airport class too arc
met-same course airport class begins too same arc (before, coming) = (before, go arc before coming)
  where
    go : (y : Arc) (before : List Arc) → IsComing course airport class begins y before → IsComing course airport class too y before
    go y [] begin = same y begin
    go y (x ∷ before) coming = (coming.0, go x before coming.1)
