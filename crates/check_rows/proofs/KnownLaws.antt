-- The windows that are known stay right as more are made, and where some are forgotten.
use Rattle.std.proofs.Common.{◌≡◌, ℕ, ◌+◌, ◌*◌, ◌/◌, ◌<◌, ◌∷◌, Bool, false, ◌&&◌, not, ltb, Some, None, Option, List, length, get_or, set, take, All, map, inl, inr, ◌⊎◌, eqb, [], IsTrue, IsFalse, refl, sym, ◌∙◌, ap, subst, arith}
use Rattle.std.specs.Prelude.{slice_get, Contains}
use Rattle.std.specs.List.{list_any}
use Rattle.std.specs.Option.{option_map_or}
use Rattle.std.proofs.lemmas.Bool.{cases_eq, lt-ltb, false≢true, both_ways, and_parts, and_from, eqb-true, eq-eqb, false_from_ne_true}
use Rattle.std.proofs.lemmas.Option.{slice_get_within, get_or_from_slice_get, slice_get-get_or}
use Rattle.std.proofs.lemmas.List.{get_or-set_same, get_or-set_other, length-set, length-map, take_more, get_or_default, get_or-map}
use Rattle.std.proofs.lemmas.List.Elements.{All-push}
use Rattle.taxi_base.proofs.InOrder.{same_answer}
use Rattle.taxi_base.specs.declared.numbers.Segment.{Segment}
use Rattle.taxi_base.specs.declared.rows.Span.{Span}
use Rattle.taxi_base.specs.declared.rows.Step.{Step}
use Rattle.taxi_base.specs.Airport.{Airport, Layout, layout_of, link_of, segment_of, conflict}
use Rattle.taxi_base.specs.Windows.{Hold, span_has, blocks, is_free, AreWindows}
use Rattle.taxi_base.specs.Walks.{free_among}
use Rattle.taxi_base.proofs.ListLaws.{Contains-first, list_any-true, list_any-member}
use Rattle.taxi_base.proofs.HoldLaws.{conflict-turned}
use Rattle.conflict_sets.specs.Conflicts.{AreConflicts}
use Rattle.check_rows.specs.declared.known.KnownWindows.{KnownWindows}
use Rattle.check_rows.specs.declared.known.SegmentWindows.{SegmentWindows}
use Rattle.held_spans.specs.Holds.{held_at}
use Rattle.check_rows.specs.Known.{AreKnown, is_known, DifferOn, DifferAt, AreStill, AreLeft}

-- ---- what stands in a list

pub get-at : {X : Type 0} (xs : List X) (k : ℕ) (x d : X) → slice_get xs k ≡ Some x → (k < length xs) × (get_or xs k d ≡ x)
get-at xs k x d e = (slice_get_within xs k x e, get_or_from_slice_get xs k x d e)

-- after one is set
pub set-cases : {X : Type 0} (xs : List X) (i k : ℕ) (x new : X) → i < length xs → slice_get (set xs i new) k ≡ Some x → ((k ≡ i) × (new ≡ x)) ⊎ (slice_get xs k ≡ Some x)
set-cases xs i k x new on e =
    let found = get-at (set xs i new) k x x e in
    elim (cases_eq k i) [
      | inl same ↦ inl (same, sym (get_or-set_same xs i new x on) ∙ ap (λ n. get_or (set xs i new) n x) (sym same) ∙ found.1)
      | inr other ↦ inr (slice_get-get_or xs k x (omega (arith, found.0, length-set xs i new)) ∙ ap (λ y. Some y) (sym (get_or-set_other xs i k new x other) ∙ found.1))
    ]

-- ---- more are made

pub AreKnown-none : (segments : ℕ) (free : Segment → ℕ → Bool) (known : KnownWindows) → length known.lists.items ≡ segments → All (λ (l : SegmentWindows). IsFalse l.is_made) known.lists.items → AreKnown segments free known
AreKnown-none segments free known count none = record {
  count = count;
  each = λ s list is made.
      let found = get-at known.lists.items s.0 list list is in
      absurd (both_ways list.is_made (subst (λ (l : SegmentWindows). IsFalse l.is_made) found.1 (none s.0 list found.0)) made);
}

-- the graph has the airport's segments
pub segments-are : (airport : Airport) (layout : Layout) (count : ℕ) → layout ≡ layout_of airport → count ≡ length layout.links → count ≡ length airport.segments
segments-are airport layout count is counted = counted ∙ ap (λ (l : Layout). length l.links) is ∙ length-map airport.segments link_of

-- one list is set
pub AreKnown-set : (segments : ℕ) (free : Segment → ℕ → Bool) (known new : KnownWindows) (s : Segment) (list : SegmentWindows) → AreKnown segments free known → s.0 < segments
    → new.lists.items ≡ set known.lists.items s.0 list → (IsTrue list.is_made → AreWindows (free s) list.windows.items) → AreKnown segments free new
AreKnown-set segments free known new s list are on is made = record {
  count = ap length is ∙ length-set known.lists.items s.0 list ∙ are.count;
  each = λ r found e there. elim (set-cases known.lists.items s.0 r.0 found list (omega (arith, are.count)) (subst (λ (l : List SegmentWindows). slice_get l r.0 ≡ Some found) is e)) [
    | inl same ↦ (
        let r_is : s ≡ r = λ i. record { 0 = sym same.0 i } in
        subst (λ q. AreWindows (free q) found.windows.items) r_is
        (subst (λ (l : SegmentWindows). AreWindows (free s) l.windows.items) same.1 (made (subst (λ (l : SegmentWindows). IsTrue l.is_made) (sym same.1) there))))
    | inr before ↦ are.each r found before there
  ];
}

-- what is set there stands there
pub is_known-set : (lists : List SegmentWindows) (s : Segment) (list : SegmentWindows) → s.0 < length lists → IsTrue list.is_made
    → IsTrue (option_map_or (λ (l : SegmentWindows). l.is_made) (slice_get (set lists s.0 list) s.0) false)
is_known-set lists s list on made =
    let at : slice_get (set lists s.0 list) s.0 ≡ Some list =
    slice_get-get_or (set lists s.0 list) s.0 list (omega (arith, on, length-set lists s.0 list)) ∙ ap (λ (l : SegmentWindows). Some l) (get_or-set_same lists s.0 list list on) in
    subst (λ (o : Option SegmentWindows). IsTrue (option_map_or (λ (l : SegmentWindows). l.is_made) o false)) (sym at) made

-- on a segment of the airport
pub windows-among : (airport : Airport) (holds : List Hold) (s : Segment) (windows : List Span) → s.0 < length airport.segments
    → AreWindows (is_free airport.conflicts airport.horizon holds s) windows → AreWindows (free_among airport holds s) windows
windows-among airport holds s windows on are = record {
  apart = are.apart;
  same = λ t. are.same t ∙ rw (lt-ltb s.0 (length airport.segments) on) refl;
}

-- where windows are known there is a list of them, which was made
pub known-list : (known : KnownWindows) (s : Segment) → IsTrue (is_known known s) → (list : SegmentWindows) × (slice_get known.lists.items s.0 ≡ Some list) × IsTrue list.is_made
known-list known s h = go (slice_get known.lists.items s.0) refl h where
  go : (o : Option SegmentWindows) → slice_get known.lists.items s.0 ≡ o → IsTrue (option_map_or (λ (l : SegmentWindows). l.is_made) o false)
      → (list : SegmentWindows) × (slice_get known.lists.items s.0 ≡ Some list) × IsTrue list.is_made
  go None e made = absurd (false≢true made)
  go (Some list) e made = (list, e, made)

pub known-on : (known : KnownWindows) (s : Segment) → IsTrue (is_known known s) → s.0 < length known.lists.items
known-on known s h = let found = known-list known s h in slice_get_within known.lists.items s.0 found.0 found.1

-- ---- some are forgotten

pub AreStill-none : (sets : List (List Segment)) (lists : List SegmentWindows) → AreStill sets [] lists lists
AreStill-none sets lists = record { count = refl; each = λ s list is made. (is, λ k d on. absurd (omega arith)) }

-- those in conflict with one more step's segment are forgotten
pub AreStill-more : (sets : List (List Segment)) (steps : List Step) (i : ℕ) (d : Step) (old now new : List SegmentWindows) (segments : List Segment) → i < length steps
    → AreConflicts sets (segment_of (get_or steps i d).arc) segments → AreStill sets (take i steps) old now → AreLeft segments now new → AreStill sets (take (i + 1) steps) old new
AreStill-more sets steps i d old now new segments on all are left = record {
  count = left.count ∙ are.count;
  each = λ s list is made.
      let before = left.each s list is made in
      let was = are.each s list before.0 made in (
        was.0,
        subst (All (λ step. IsFalse (conflict sets (segment_of step.arc) s))) (sym (take_more steps i d on))
            (All-push (λ step. IsFalse (conflict sets (segment_of step.arc) s)) (take i steps) (get_or steps i d) was.1
            (false_from_ne_true (conflict sets (segment_of (get_or steps i d).arc) s) (λ h. before.1 ((all.each s).1 h)))),
      );
}

-- ---- windows of segments away from where the holds change

module _ (sets : List (List Segment)) (steps : List Step) (s : Segment) (away : All (λ step. IsFalse (conflict sets (segment_of step.arc) s)) steps) where
  -- a segment in conflict is none of the steps'
  none_of_steps : (r : Segment) → IsTrue (conflict sets s r) → Contains (map (λ step. segment_of step.arc) steps) r → ⊥
  none_of_steps r h on =
      let at = on.0 in
      let in_steps : at < length steps = omega (arith, on.1, length-map steps (λ (step : Step). segment_of step.arc)) in
      let step : Step = get_or steps at no_step in
      let is : segment_of step.arc ≡ r = sym (get_or-map (λ (step : Step). segment_of step.arc) steps at no_step (segment_of no_step.arc) in_steps) ∙ get_or_default (map (λ (step : Step). segment_of step.arc) steps) at (segment_of no_step.arc) r on.1 ∙ on.2 in
      both_ways (conflict sets (segment_of step.arc) s) (away at no_step in_steps) (subst (λ (q : Segment). IsTrue (conflict sets q s)) (sym is) (conflict-turned sets s r h))
    where
      no_step : Step
      no_step = record { arc = record { 0 = 0 }; enter = 0; leave = 0 }

  pub blocked : (holds others : List Hold) (t : ℕ) → DifferOn steps holds others → IsTrue (list_any (blocks sets s t) holds) → IsTrue (list_any (blocks sets s t) others)
  blocked holds others t differ held_then =
      let hold = list_any-true (blocks sets s t) holds held_then in
      let parts = and_parts (conflict sets s hold.0.segment) (span_has hold.0.span t) hold.2 in
      let held : IsTrue (held_at holds hold.0.segment t) =
      list_any-member (λ h. eqb h.segment.0 hold.0.segment.0 && span_has h.span t) holds hold.0 hold.1 (and_from (eqb hold.0.segment.0 hold.0.segment.0) (span_has hold.0.span t) (eq-eqb hold.0.segment.0 hold.0.segment.0 refl) parts.1) in
      let there : IsTrue (held_at others hold.0.segment t) = sym (differ hold.0.segment t (none_of_steps hold.0.segment parts.0)) ∙ held in
      let other = list_any-true (λ h. eqb h.segment.0 hold.0.segment.0 && span_has h.span t) others there in
      let its = and_parts (eqb other.0.segment.0 hold.0.segment.0) (span_has other.0.span t) other.2 in
      let number : other.0.segment.0 ≡ hold.0.segment.0 = eqb-true other.0.segment.0 hold.0.segment.0 its.0 in
      let same : hold.0.segment ≡ other.0.segment = λ i. record { 0 = sym number i } in
      list_any-member (blocks sets s t) others other.0 other.1 (and_from (conflict sets s other.0.segment) (span_has other.0.span t) (subst (λ (q : Segment). IsTrue (conflict sets s q)) same parts.0) its.1)

-- what is still known is right for the other holds
pub still-known : (airport : Airport) (steps : List Step) (old new : KnownWindows) → AreStill airport.conflicts steps old.lists.items new.lists.items
    → (holds others : List Hold) → DifferOn steps holds others → AreKnown (length airport.segments) (free_among airport holds) old → AreKnown (length airport.segments) (free_among airport others) new
still-known airport steps old new still holds others differ known = record {
  count = still.count ∙ known.count;
  each = λ s list is made.
      let was = still.each s list is made in
      let are = known.each s list was.0 made in
      record { apart = are.apart; same = λ t. are.same t ∙ free-same s was.1 t };
}
  where
    back : DifferOn steps others holds
    back s t away = sym (differ s t away)

    free-same : (s : Segment) → All (λ step. IsFalse (conflict airport.conflicts (segment_of step.arc) s)) steps → (t : ℕ) → free_among airport holds s t ≡ free_among airport others s t
    free-same s away t =
        ap (λ (b : Bool). ltb s.0 (length airport.segments) && (ltb t airport.horizon && not b))
        (same_answer (list_any (blocks airport.conflicts s t) holds) (list_any (blocks airport.conflicts s t) others)
        (blocked airport.conflicts steps s away holds others t differ) (blocked airport.conflicts steps s away others holds t back))

-- the same of one segment
module _ (airport : Airport) (segment : Segment) (old new : KnownWindows) (segments : List Segment) (all : AreConflicts airport.conflicts segment segments)
    (left : AreLeft segments old.lists.items new.lists.items) where
  -- a step on it
  abbrev on_it : Step
  on_it = record { arc = record { 0 = 2 * segment.0 }; enter = 0; leave = 0 }

  its : segment_of on_it.arc ≡ segment
  its = let e : (2 * segment.0) / 2 ≡ segment.0 = omega arith in λ i. record { 0 = e i }

  pub still-known_segment : (holds others : List Hold) → DifferAt segment holds others → AreKnown (length airport.segments) (free_among airport holds) old
      → AreKnown (length airport.segments) (free_among airport others) new
  still-known_segment holds others differ known =
      still-known airport (on_it ∷ []) old new
      (AreStill-more airport.conflicts (on_it ∷ []) 0 on_it old.lists.items old.lists.items new.lists.items segments (omega arith)
      (subst (λ (s : Segment). AreConflicts airport.conflicts s segments) (sym its) all) (AreStill-none airport.conflicts old.lists.items) left)
      holds others (λ s t away. differ s t (λ e. away (subst (Contains (segment_of on_it.arc ∷ [])) (its ∙ sym e) (Contains-first (segment_of on_it.arc) [])))) known
