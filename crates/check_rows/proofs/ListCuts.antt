-- The windows that are known stay right where what is held of a segment is cut out of them.
use Rattle.std.proofs.Common.{◌≡◌, ◌≢◌, ℕ, ◌+◌, ◌<◌, ◌≤◌, ◌∷◌, ◌++◌, Bool, true, false, ◌&&◌, ◌||◌, not, ltb, eqb, Some, List, length, get_or, set, take, All, inl, inr, [], IsTrue, refl, sym, ◌∙◌, ap, subst, arith}
use Rattle.std.specs.Prelude.{slice_get}
use Rattle.std.specs.List.{list_any}
use Rattle.std.proofs.lemmas.Bool.{cases_eq, eq-eqb, eqb-true, false_from_ne_true}
use Rattle.std.proofs.lemmas.Option.{slice_get_within, slice_get-get_or}
use Rattle.std.proofs.lemmas.List.{get_or-set_same, length-set}
use Rattle.std.proofs.lemmas.List.Folds.{list_any-append, list_any_more}
use Rattle.taxi_base.proofs.InOrder.{same_answer}
use Rattle.taxi_base.proofs.ListLaws.{list_any-true, list_any-member}
use Rattle.taxi_base.specs.declared.numbers.Segment.{Segment}
use Rattle.taxi_base.specs.declared.rows.Span.{Span}
use Rattle.taxi_base.specs.Airport.{Airport, conflict}
use Rattle.taxi_base.specs.Windows.{Hold, span_has, covers, blocks}
use Rattle.taxi_base.specs.Walks.{free_among}
use Rattle.taxi_base.proofs.HoldLaws.{conflict-turned}
use Rattle.conflict_sets.specs.Conflicts.{AreConflicts}
use Rattle.held_spans.specs.Holds.{held_at}
use Rattle.check_rows.specs.declared.known.KnownWindows.{KnownWindows}
use Rattle.check_rows.specs.declared.known.SegmentWindows.{SegmentWindows}
use Rattle.check_rows.specs.Known.{AreKnown}
use Rattle.segment_windows.specs.Cuts.{AreCut}
use Rattle.check_rows.specs.Cuts.{IsApart, IsListCut, is_among, AreListsCut}
use Rattle.check_rows.proofs.KnownLaws.{get-at, set-cases, still-known, AreStill-none}

-- ---- list by list

uncut : (b x : Bool) → b ≡ (b && not (false && x))
uncut true x = refl
uncut false x = refl

pub lists-uncut : (span : Span) (lists : List SegmentWindows) → All IsApart lists → AreListsCut [] span lists lists
lists-uncut span lists apart = record {
  count = refl;
  each = λ s list is made.
      let at = get-at lists s.0 list list is in
      (list, is, made, record { apart = subst IsApart at.1 (apart s.0 list at.0) made; seconds = λ t. uncut (covers list.windows.items t) (span_has span t) });
}

module _ (segments : List Segment) (span : Span) (i : ℕ) (d : Segment) (old now : List SegmentWindows) (on : i < length segments) (are : AreListsCut (take i segments) span old now) where
  abbrev here : Segment
  here = get_or segments i d

  among : (s : Segment) → is_among (take (i + 1) segments) s ≡ (is_among (take i segments) s || eqb here.0 s.0)
  among s = list_any_more (λ (r : Segment). eqb r.0 s.0) segments i d on

  -- a segment that is not this one
  among-other : (s : Segment) → here.0 ≢ s.0 → is_among (take (i + 1) segments) s ≡ is_among (take i segments) s
  among-other s other = among s ∙ rw (false_from_ne_true (eqb here.0 s.0) (λ e. other (eqb-true here.0 s.0 e))) (or_false (is_among (take i segments) s)) where
    or_false : (b : Bool) → (b || false) ≡ b
    or_false true = refl
    or_false false = refl

  stays : (s : Segment) (list : SegmentWindows) → here.0 ≢ s.0 → slice_get now s.0 ≡ Some list → IsTrue list.is_made
      → (was : SegmentWindows) × (slice_get old s.0 ≡ Some was) × IsTrue was.is_made × AreCut (is_among (take (i + 1) segments) s) span was.windows.items list.windows.items
  stays s list other is made =
      let was = are.each s list is made in
      (was.0, was.1, was.2, subst (λ b. AreCut b span was.0.windows.items list.windows.items) (sym (among-other s other)) was.3)

  pub lists-past : length now ≤ here.0 → AreListsCut (take (i + 1) segments) span old now
  lists-past past = record {
    count = are.count;
    each = λ s list is made. stays s list (λ e. omega (arith, past, e, slice_get_within now s.0 list is)) is made;
  }

  twice : (b x : Bool) (c : Bool) → ((c && not (b && x)) && not (true && x)) ≡ (c && not ((b || true) && x))
  twice true true true = refl
  twice true true false = refl
  twice true false true = refl
  twice true false false = refl
  twice false true true = refl
  twice false true false = refl
  twice false false true = refl
  twice false false false = refl

  -- the list of this segment is cut
  pub lists-more : (before list : SegmentWindows) → here.0 < length now → slice_get now here.0 ≡ Some before → IsListCut span before list → AreListsCut (take (i + 1) segments) span old (set now here.0 list)
  lists-more before list there is_before cut = record {
    count = length-set now here.0 list ∙ are.count;
    each = λ s found is made. elim (set-cases now here.0 s.0 found list there is) [
      | inl same ↦ this s found same.0 (sym same.1) made
      | inr other_list ↦ elim (cases_eq here.0 s.0) [
        | inl e ↦ this s found (sym e) (at_here s found e is) made
        | inr other ↦ stays s found other other_list made
      ]
    ];
  }
    where
      at_here : (s : Segment) (found : SegmentWindows) → here.0 ≡ s.0 → slice_get (set now here.0 list) s.0 ≡ Some found → found ≡ list
      at_here s found e is =
          let at = subst (λ n. slice_get (set now here.0 list) n ≡ Some found) (sym e) is in
          sym (get-at (set now here.0 list) here.0 found list at).1 ∙ get_or-set_same now here.0 list list there

      this : (s : Segment) (found : SegmentWindows) → s.0 ≡ here.0 → found ≡ list → IsTrue found.is_made
          → (was : SegmentWindows) × (slice_get old s.0 ≡ Some was) × IsTrue was.is_made × AreCut (is_among (take (i + 1) segments) s) span was.windows.items found.windows.items
      this s found e is made =
          let list_made : IsTrue list.is_made = subst (λ (l : SegmentWindows). IsTrue l.is_made) is made in
          let new = cut list_made in
          let was = are.each s before (subst (λ n. slice_get now n ≡ Some before) (sym e) is_before) new.0 in
          let yes : is_among (take (i + 1) segments) s ≡ (is_among (take i segments) s || true) = among s ∙ ap (λ b. is_among (take i segments) s || b) (eq-eqb here.0 s.0 (sym e)) in
          subst (λ (l : SegmentWindows). (was : SegmentWindows) × (slice_get old s.0 ≡ Some was) × IsTrue was.is_made × AreCut (is_among (take (i + 1) segments) s) span was.windows.items l.windows.items) (sym is) (
            was.0,
            was.1,
            was.2,
            record {
              apart = new.1.apart;
              seconds = λ t.
                  new.1.seconds t ∙ ap (λ b. b && not (true && span_has span t)) (was.3.seconds t) ∙ twice (is_among (take i segments) s) (span_has span t) (covers was.0.windows.items t)
                  ∙ ap (λ b. covers was.0.windows.items t && not (b && span_has span t)) (sym yes);
            },
          )

-- the lists that were made still lie apart
pub lists-apart : (segments : List Segment) (span : Span) (old new : List SegmentWindows) → AreListsCut segments span old new → All IsApart new
lists-apart segments span old new are k d on made =
    let s : Segment = record { 0 = k } in
    (are.each s (get_or new k d) (slice_get-get_or new k d on) made).3.apart

-- the lists that are known lie apart
pub known-apart : (segments : ℕ) (free : Segment → ℕ → Bool) (known : KnownWindows) → AreKnown segments free known → All IsApart known.lists.items
known-apart segments free known are k d on made =
    let s : Segment = record { 0 = k } in
    (are.each s (get_or known.lists.items k d) (slice_get-get_or known.lists.items k d on) made).apart

-- ---- one more hold

module _ (airport : Airport) (segment : Segment) (span : Span) (segments : List Segment) (all : AreConflicts airport.conflicts segment segments) where
  abbrev hold : Hold
  hold = record { segment = segment; span = span }

  pub among-conflict : (s : Segment) → is_among segments s ≡ conflict airport.conflicts s segment
  among-conflict s = same_answer (is_among segments s) (conflict airport.conflicts s segment)
      (λ yes.
      let row = list_any-true (λ (r : Segment). eqb r.0 s.0) segments yes in
      let same : row.0 ≡ s = ap (λ n. record { 0 = n }) (eqb-true row.0.0 s.0 row.2) in
      conflict-turned airport.conflicts segment s (subst (λ (r : Segment). IsTrue (conflict airport.conflicts segment r)) same ((all.each row.0).0 row.1)))
      (λ yes. list_any-member (λ (r : Segment). eqb r.0 s.0) segments s ((all.each s).1 (conflict-turned airport.conflicts s segment yes)) (eq-eqb s.0 s.0 refl))

  with_hold : (a b x k : Bool) → ((a && (b && not x)) && not k) ≡ (a && (b && not (x || (k || false))))
  with_hold true true true true = refl
  with_hold true true true false = refl
  with_hold true true false true = refl
  with_hold true true false false = refl
  with_hold true false x k = refl
  with_hold false b x k = refl

  free-with : (holds : List Hold) (s : Segment) (t : ℕ) → (free_among airport holds s t && not (is_among segments s && span_has span t)) ≡ free_among airport (holds ++ hold ∷ []) s t
  free-with holds s t =
      ap (λ b. free_among airport holds s t && not (b && span_has span t)) (among-conflict s)
      ∙ with_hold (ltb s.0 (length airport.segments)) (ltb t airport.horizon) (list_any (blocks airport.conflicts s t) holds) (conflict airport.conflicts s segment && span_has span t)
      ∙ ap (λ b. ltb s.0 (length airport.segments) && (ltb t airport.horizon && not b)) (sym (list_any-append (blocks airport.conflicts s t) holds (hold ∷ [])))

  pub cut-known : (old new : KnownWindows) → AreListsCut segments span old.lists.items new.lists.items → (holds : List Hold)
      → AreKnown (length airport.segments) (free_among airport holds) old → AreKnown (length airport.segments) (free_among airport (holds ++ hold ∷ [])) new
  cut-known old new cut holds are = record {
    count = cut.count ∙ are.count;
    each = λ s list is made.
        let was = cut.each s list is made in
        record {
          apart = was.3.apart;
          same = λ t. was.3.seconds t ∙ ap (λ b. b && not (is_among segments s && span_has span t)) ((are.each s was.0 was.1 was.2).same t) ∙ free-with holds s t;
        };
  }

-- holds that have the same seconds leave the same windows
pub same-known : (airport : Airport) (known : KnownWindows) (holds others : List Hold) → ((s : Segment) (t : ℕ) → held_at others s t ≡ held_at holds s t)
    → AreKnown (length airport.segments) (free_among airport holds) known → AreKnown (length airport.segments) (free_among airport others) known
same-known airport known holds others same are =
    still-known airport [] known known (AreStill-none airport.conflicts known.lists.items) holds others (λ s t away. sym (same s t)) are
