-- What the lists of the segments in conflict with one have of a second is what all holds in conflict with it have.
use Rattle.std.proofs.Common.{◌≡◌, ℕ, Bool, true, false, List, length, map, IsTrue, IsFalse, ◌≤◌, ◌<◌, refl, sym, ◌∙◌, inl, inr, subst, arith}
use Rattle.std.specs.Prelude.{Contains, flat_map}
use Rattle.std.specs.List.{list_any}
use Rattle.std.proofs.lemmas.Bool.{cases_lt, and_parts, and_from}
use Rattle.std.proofs.lemmas.List.{get_or_default, get_or_past}
use Rattle.std.proofs.lemmas.List.Elements.{All-contains}
use Rattle.taxi_base.specs.declared.numbers.Segment.{Segment}
use Rattle.taxi_base.specs.declared.rows.Span.{Span}
use Rattle.taxi_base.specs.Airport.{Airport, conflict, segment_of}
use Rattle.taxi_base.specs.Windows.{Hold, blocks, covers, span_has}
use Rattle.taxi_base.proofs.ListLaws.{Contains-map, map-Contains, Contains-flat_map, flat_map-Contains, list_any-member, list_any-true}
use Rattle.conflict_sets.specs.Conflicts.{AreConflicts}
use Rattle.window_store.specs.Held.{IsFirstHeld}
use Rattle.window_store.specs.Conflicting.{spans_in_conflict, ReachesUpTo}
use Rattle.window_store.proofs.Standing.{covers-in_conflict}
use Rattle.commitments.specs.declared.segment_holds.HeldStep.{HeldStep}
use Rattle.commitments.specs.Held.{StepList, no_step, list_of, all_steps, hold_by, spans_by, AreBySegment}
use Rattle.commitments.specs.Taken.{is_taken}

pub both_same : (a b : Bool) → (IsTrue a → IsTrue b) → (IsTrue b → IsTrue a) → a ≡ b
both_same true b to from = sym (to refl)
both_same false true to from = from refl
both_same false false to from = refl

module _ (airport : Airport) (lists : List StepList) (by_segment : AreBySegment lists) (sets : List (List Segment)) (s : Segment) (segments : List Segment) (are : AreConflicts sets s segments) where
  abbrev spans_on : Segment → List Span
  spans_on t = spans_by airport (list_of lists t).steps

  abbrev holds : List Hold
  holds = map (hold_by airport) (all_steps lists)

  -- a step that is in the list of a segment lies on it, and is one of all
  pub in_list : (t : Segment) (held : HeldStep) → Contains (list_of lists t).steps held → (segment_of held.step.arc ≡ t) × Contains (all_steps lists) held
  in_list t held there =
      elim (cases_lt t.0 (length lists)) [
        | inl on ↦ (
          All-contains (λ (h : HeldStep). segment_of h.step.arc ≡ t) (list_of lists t).steps held (by_segment t on) there,
          Contains-flat_map (λ (l : StepList). l.steps) lists (list_of lists t) held (t.0, on, get_or_default lists t.0 (list_of lists t) no_step on) there,
        )
        | inr past ↦
            let none = subst (λ (l : StepList). Contains l.steps held) (get_or_past lists t.0 no_step past) there in
            absurd (omega (arith, none.1))
      ]

  -- and one of all is in the list of its segment
  pub in_its_list : (held : HeldStep) → Contains (all_steps lists) held → Contains (list_of lists (segment_of held.step.arc)).steps held
  in_its_list held there =
      let found = flat_map-Contains (λ (l : StepList). l.steps) lists held there in
      let segment : Segment = record { 0 = found.1.0 } in
      let is : list_of lists segment ≡ found.0 = sym (get_or_default lists found.1.0 found.0 no_step found.1.1) ∙ found.1.2 in
      let here : Contains (list_of lists segment).steps held = subst (λ (l : StepList). Contains l.steps held) (sym is) found.2 in
      subst (λ (t : Segment). Contains (list_of lists t).steps held) (sym (in_list segment held here).0) here

  module _ (t : ℕ) where
    from_lists : IsTrue (covers (flat_map spans_on segments) t) → IsTrue (list_any (blocks sets s t) holds)
    from_lists has =
        let span = list_any-true (λ (w : Span). span_has w t) (flat_map spans_on segments) has in
        let on = flat_map-Contains spans_on segments span.0 span.1 in
        let held = map-Contains (λ held. (hold_by airport held).span) (list_of lists on.0).steps span.0 on.2 in
        let at = in_list on.0 held.0 held.1 in
        let met : IsTrue (conflict sets s (segment_of held.0.step.arc)) = subst (λ (u : Segment). IsTrue (conflict sets s u)) (sym at.0) ((are.each on.0).0 on.1) in
        list_any-member (blocks sets s t) holds (hold_by airport held.0) (Contains-map (hold_by airport) (all_steps lists) held.0 at.1)
        (and_from _ _ met (subst (λ (w : Span). IsTrue (span_has w t)) (sym held.2) span.2))

    to_lists : IsTrue (list_any (blocks sets s t) holds) → IsTrue (covers (flat_map spans_on segments) t)
    to_lists has =
        let hold = list_any-true (blocks sets s t) holds has in
        let held = map-Contains (hold_by airport) (all_steps lists) hold.0 hold.1 in
        let own = segment_of held.0.step.arc in
        let both = and_parts (conflict sets s own) (span_has (hold_by airport held.0).span t) (subst (λ (h : Hold). IsTrue (blocks sets s t h)) (sym held.2) hold.2) in
        list_any-member (λ (w : Span). span_has w t) (flat_map spans_on segments) (hold_by airport held.0).span
        (Contains-flat_map spans_on segments own (hold_by airport held.0).span ((are.each own).1 both.0)
        (Contains-map (λ held. (hold_by airport held).span) (list_of lists own).steps held.0 (in_its_list held.0 held.1)))
        both.1

    covers-lists : covers (flat_map spans_on segments) t ≡ covers (spans_in_conflict sets s holds) t
    covers-lists = both_same _ _ from_lists to_lists ∙ sym (covers-in_conflict sets s t holds)

  pub first-lists : (from until first : ℕ) → IsFirstHeld (flat_map spans_on segments) from until first → IsFirstHeld (spans_in_conflict sets s holds) from until first
  first-lists from until first held = record {
    not_before = held.not_before;
    not_after = held.not_after;
    none_before = λ t low high. sym (covers-lists t) ∙ held.none_before t low high;
    held = λ h. sym (covers-lists first) ∙ held.held h;
  }

  pub reaches-lists : (from until : ℕ) → ReachesUpTo (flat_map spans_on segments) from until → ReachesUpTo (spans_in_conflict sets s holds) from until
  reaches-lists from until reaches = record {
    held = λ t low high. sym (covers-lists t) ∙ reaches.held t low high;
    later = λ h. reaches.later (covers-lists from ∙ h);
  }

-- ---- the first second that is held

module _ (airport : Airport) (s : Segment) (steps : List HeldStep) (from until at : ℕ) (first : IsFirstHeld (spans_in_conflict airport.conflicts s (map (hold_by airport) steps)) from until at) where
  pub untaken-before : (u : ℕ) → from ≤ u → u < at → IsFalse (is_taken airport s steps u)
  untaken-before u low high = sym (covers-in_conflict airport.conflicts s u (map (hold_by airport) steps)) ∙ first.none_before u low high

  pub taken-at : at < until → IsTrue (is_taken airport s steps at)
  taken-at before = sym (covers-in_conflict airport.conflicts s at (map (hold_by airport) steps)) ∙ first.held before
