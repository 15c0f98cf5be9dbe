-- The lists of windows, one after the other, where the seconds of a span are given back to them.
use Rattle.std.proofs.Common.{◌≡◌, ◌≢◌, ℕ, ◌+◌, ◌<◌, ◌≤◌, Bool, true, false, ◌&&◌, ◌||◌, not, eqb, cond, Some, List, length, get_or, set, take, All, inl, inr, [], IsTrue, refl, sym, ◌∙◌, ap, subst, arith}
use Rattle.std.specs.Prelude.{slice_get}
use Rattle.std.specs.List.{list_any}
use Rattle.std.proofs.lemmas.Bool.{cases_eq, eq-eqb, eqb-true, false_from_ne_true}
use Rattle.std.proofs.lemmas.Option.{slice_get_within, slice_get-get_or}
use Rattle.std.proofs.lemmas.List.{get_or-set_same, length-set}
use Rattle.std.proofs.lemmas.List.Folds.{list_any_more}
use Rattle.taxi_base.specs.declared.numbers.Segment.{Segment}
use Rattle.taxi_base.specs.declared.rows.Span.{Span}
use Rattle.taxi_base.specs.Windows.{Hold, span_has, covers, blocks}
use Rattle.check_rows.specs.declared.known.SegmentWindows.{SegmentWindows}
use Rattle.check_rows.specs.Cuts.{IsApart, is_among}
use Rattle.check_rows.specs.Returns.{IsListBack, AreBack, AreListsBack}
use Rattle.check_rows.proofs.KnownLaws.{get-at, set-cases}

module _ (sets : List (List Segment)) (holds : List Hold) where
  pub lists-same : (span : Span) (lists : List SegmentWindows) → All IsApart lists → AreListsBack sets holds [] span lists lists
  lists-same span lists apart = record {
    count = refl;
    each = λ s list is made.
        let at = get-at lists s.0 list list is in
        (list, is, made, record { apart = subst IsApart at.1 (apart s.0 list at.0) made; seconds = λ t. refl });
  }

module _ (sets : List (List Segment)) (holds : List Hold) (segments : List Segment) (span : Span) (i : ℕ) (d : Segment) (old now : List SegmentWindows) (on : i < length segments)
    (are : AreListsBack sets holds (take i segments) span old now) where
  abbrev here : Segment
  here = get_or segments i d

  among : (s : Segment) → is_among (take (i + 1) segments) s ≡ (is_among (take i segments) s || eqb here.0 s.0)
  among s = list_any_more (λ (r : Segment). eqb r.0 s.0) segments i d on

  -- a segment that is not this one
  among-other : (s : Segment) → here.0 ≢ s.0 → is_among (take (i + 1) segments) s ≡ is_among (take i segments) s
  among-other s other = among s ∙ rw (false_from_ne_true (eqb here.0 s.0) (λ e. other (eqb-true here.0 s.0 e))) (or_false (is_among (take i segments) s)) where
    or_false : (b : Bool) → (b || false) ≡ b
    or_false true = refl
    or_false false = refl

  stays : (s : Segment) (list : SegmentWindows) → here.0 ≢ s.0 → slice_get now s.0 ≡ Some list → IsTrue list.is_made
      → (was : SegmentWindows) × (slice_get old s.0 ≡ Some was) × IsTrue was.is_made × AreBack (is_among (take (i + 1) segments) s) sets holds s span was.windows.items list.windows.items
  stays s list other is made =
      let was = are.each s list is made in
      (was.0, was.1, was.2, subst (λ b. AreBack b sets holds s span was.0.windows.items list.windows.items) (sym (among-other s other)) was.3)

  pub lists-past : length now ≤ here.0 → AreListsBack sets holds (take (i + 1) segments) span old now
  lists-past past = record {
    count = are.count;
    each = λ s list is made. stays s list (λ e. omega (arith, past, e, slice_get_within now s.0 list is)) is made;
  }

  twice : (b x : Bool) (blocked c : Bool) → cond x (not blocked) (cond (b && x) (not blocked) c) ≡ cond ((b || true) && x) (not blocked) c
  twice true true blocked c = refl
  twice true false blocked c = refl
  twice false true blocked c = refl
  twice false false blocked c = refl

  -- the list of this segment is given back
  pub lists-more : (before list : SegmentWindows) → here.0 < length now → slice_get now here.0 ≡ Some before → IsListBack sets holds here span before list → AreListsBack sets holds (take (i + 1) segments) span old (set now here.0 list)
  lists-more before list there is_before cut = record {
    count = length-set now here.0 list ∙ are.count;
    each = λ s found is made. elim (set-cases now here.0 s.0 found list there is) [
      | inl same ↦ this s found same.0 (sym same.1) made
      | inr other_list ↦ elim (cases_eq here.0 s.0) [
        | inl e ↦ this s found (sym e) (at_here s found e is) made
        | inr other ↦ stays s found other other_list made
      ]
    ];
  }
    where
      at_here : (s : Segment) (found : SegmentWindows) → here.0 ≡ s.0 → slice_get (set now here.0 list) s.0 ≡ Some found → found ≡ list
      at_here s found e is =
          let at = subst (λ n. slice_get (set now here.0 list) n ≡ Some found) (sym e) is in
          sym (get-at (set now here.0 list) here.0 found list at).1 ∙ get_or-set_same now here.0 list list there

      is_here : (s : Segment) → s.0 ≡ here.0 → here ≡ s
      is_here s e = λ i. record { 0 = sym e i }

      this : (s : Segment) (found : SegmentWindows) → s.0 ≡ here.0 → found ≡ list → IsTrue found.is_made
          → (was : SegmentWindows) × (slice_get old s.0 ≡ Some was) × IsTrue was.is_made × AreBack (is_among (take (i + 1) segments) s) sets holds s span was.windows.items found.windows.items
      this s found e is made =
          let list_made : IsTrue list.is_made = subst (λ (l : SegmentWindows). IsTrue l.is_made) is made in
          let new = cut list_made in
          let was = are.each s before (subst (λ n. slice_get now n ≡ Some before) (sym e) is_before) new.0 in
          let yes : is_among (take (i + 1) segments) s ≡ (is_among (take i segments) s || true) = among s ∙ ap (λ b. is_among (take i segments) s || b) (eq-eqb here.0 s.0 (sym e)) in
          subst (λ (l : SegmentWindows). (was : SegmentWindows) × (slice_get old s.0 ≡ Some was) × IsTrue was.is_made × AreBack (is_among (take (i + 1) segments) s) sets holds s span was.windows.items l.windows.items) (sym is) (
            was.0,
            was.1,
            was.2,
            record {
              apart = new.1.apart;
              seconds = λ t.
                  subst (λ (q : Segment). covers list.windows.items t ≡ cond (span_has span t) (not (list_any (blocks sets q t) holds)) (covers before.windows.items t)) (is_here s e) (new.1.seconds t)
                  ∙ ap (λ b. cond (span_has span t) (not (list_any (blocks sets s t) holds)) b) (was.3.seconds t)
                  ∙ twice (is_among (take i segments) s) (span_has span t) (list_any (blocks sets s t) holds) (covers was.0.windows.items t)
                  ∙ ap (λ b. cond (b && span_has span t) (not (list_any (blocks sets s t) holds)) (covers was.0.windows.items t)) (sym yes);
            },
          )

-- the lists that were made still lie apart
pub lists-apart : (sets : List (List Segment)) (holds : List Hold) (segments : List Segment) (span : Span) (old new : List SegmentWindows) → AreListsBack sets holds segments span old new
    → All IsApart new
lists-apart sets holds segments span old new are k d on made =
    let s : Segment = record { 0 = k } in
    (are.each s (get_or new k d) (slice_get-get_or new k d on) made).3.apart
