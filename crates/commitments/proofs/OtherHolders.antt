-- What is free among all holders but one: from the steps of one segment to those of the segments in conflict, and from steps to holders.
use Rattle.std.proofs.Common.{◌≡◌, ℕ, ◌+◌, ◌<◌, ◌≤◌, Bool, cond, ◌&&◌, List, [], ◌∷◌, ◌++◌, length, map, get_or, take, drop, IsTrue, IsFalse, refl, sym, ap, ◌∙◌, inl, inr, subst, arith}
use Rattle.std.specs.Prelude.{Contains, count_by, filter, flat_map, not, bytes_eq}
use Rattle.std.specs.List.{list_any}
use Rattle.std.proofs.lemmas.Bool.{cases_Bool, cond-true, cond-false, and_parts, and_from, and_left, and_right, lt-ltb}
use Rattle.std.proofs.lemmas.List.{take-append-drop}
use Rattle.std.proofs.lemmas.List.Concat.{flat_map-append}
use Rattle.std.proofs.lemmas.List.Elements.{All-filter, filter-append}
use Rattle.std.proofs.lemmas.List.Kept.{IsNonDecreasingBy-filter}
use Rattle.taxi_base.specs.declared.numbers.Segment.{Segment}
use Rattle.taxi_base.specs.declared.rows.Span.{Span}
use Rattle.taxi_base.specs.declared.rows.Step.{Step}
use Rattle.taxi_base.specs.declared.answers.Party.{Party}
use Rattle.taxi_base.specs.declared.answers.Flight.{Flight}
use Rattle.taxi_base.specs.Airport.{Airport, IsWellFormed, conflict, segment_of}
use Rattle.taxi_base.specs.Windows.{Hold, blocks, covers, span_has, is_free}
use Rattle.taxi_base.specs.State.{State, left_out, without, party_step, holds_in, IsFeasibleState}
use Rattle.taxi_base.proofs.ListLaws.{Contains-map, map-Contains, Contains-flat_map, flat_map-Contains, Contains-filter, filter-Contains, list_any-member, list_any-true, list_any-fewer}
use Rattle.taxi_base.proofs.StateLaws.{IsFeasibleState-without}
use Rattle.conflict_sets.specs.Conflicts.{AreConflicts}
use Rattle.window_store.specs.Held.{IsFirstHeld}
use Rattle.commitments.specs.declared.segment_holds.HeldStep.{HeldStep}
use Rattle.commitments.specs.declared.segment_holds.Holder.{Holder}
use Rattle.commitments.specs.Held.{StepList, list_of, all_steps, hold_by, spans_by, steps_with, party_holder, flight_holder, party_steps, flight_steps, joined, steps_in, AreAsMany, AreBySegment, AreSince}
use Rattle.commitments.specs.Taken.{is_taken}
use Rattle.commitments.specs.Others.{IsFreeUntil, is_of_others, steps_of_others, is_left}
use Rattle.commitments.proofs.Arranged.{count-cons}
use Rattle.commitments.proofs.Conflicts.{both_same, in_list, in_its_list}
use Rattle.commitments.proofs.HoldRoom.{any-as_many}
use Rattle.commitments.proofs.OneSegment.{first-since, first-beside, later-none, spans-append}
use Rattle.commitments.proofs.Routes.{parties-over}
use Rattle.commitments.proofs.StepsIn.{all-hold}

-- ---- of one segment

module _ (airport : Airport) (name : List ℕ) where
  abbrev spans : List HeldStep → List Span
  spans steps = spans_by airport (steps_of_others name steps)

  spans-of_both : (xs ys : List HeldStep) → spans (xs ++ ys) ≡ spans xs ++ spans ys
  spans-of_both xs ys = ap (spans_by airport) (filter-append (is_of_others name) xs ys) ∙ spans-append airport (steps_of_others name xs) (steps_of_others name ys)

  -- what none of some steps has, none of the others among them has
  fewer-none : (xs : List HeldStep) (t : ℕ) → IsFalse (covers (spans_by airport xs) t) → IsFalse (covers (spans xs) t)
  fewer-none xs t none =
      list_any-fewer (λ (w : Span). span_has w t) (spans_by airport xs) (spans xs)
      (λ w there.
      let held = map-Contains (λ (held : HeldStep). (hold_by airport held).span) (steps_of_others name xs) w there in
      subst (λ (v : Span). Contains (spans_by airport xs) v) held.2
      (Contains-map (λ (held : HeldStep). (hold_by airport held).span) xs held.0 (filter-Contains (is_of_others name) xs held.0 held.1).0))
      none

  module _ (rules : IsWellFormed airport) (steps rest : List HeldStep) (from until : ℕ) (since : AreSince steps from rest) where
    others-since : AreSince (steps_of_others name steps) from (steps_of_others name rest)
    others-since = record {
      over = steps_of_others name since.over;
      all = ap (steps_of_others name) since.all ∙ filter-append (is_of_others name) since.over rest;
      short = All-filter (is_of_others name) (λ held. held.step.leave + 600 ≤ from) since.over since.short;
      rising = IsNonDecreasingBy-filter (λ held. held.step.enter) (is_of_others name) rest since.rising;
    }

    -- among those since the first second it is the same as among all
    pub first-of_all : (first : ℕ) → IsFirstHeld (spans rest) from until first → IsFirstHeld (spans steps) from until first
    first-of_all first held = first-since airport rules (steps_of_others name steps) (steps_of_others name rest) from until others-since first held

    -- once the steps begin no sooner, no later one has a sooner second
    pub first-stopped : (first i : ℕ) (e : HeldStep) → i < length rest → first ≤ (get_or rest i e).step.enter → IsFirstHeld (spans (take i rest)) from until first
        → IsFirstHeld (spans steps) from until first
    first-stopped first i e low late held =
        let parts : spans rest ≡ spans (take i rest) ++ spans (drop i rest) = ap spans (sym (take-append-drop i rest)) ∙ spans-of_both (take i rest) (drop i rest) in
        first-of_all first
        (rw parts (first-beside (spans (take i rest)) (spans (drop i rest)) from until first held
        (λ t low_t high. fewer-none (drop i rest) t (later-none airport rest i t e since.rising low (omega (arith, high, late))))))

-- ---- of the segments in conflict

module _ (airport : Airport) (name : List ℕ) (lists : List StepList) (by_segment : AreBySegment lists) (s : Segment) (segments : List Segment) (are : AreConflicts airport.conflicts s segments) where
  abbrev spans_on : Segment → List Span
  spans_on t = spans_by airport (steps_of_others name (list_of lists t).steps)

  abbrev others : List HeldStep
  others = steps_of_others name (all_steps lists)

  module _ (t : ℕ) where
    from_lists : IsTrue (covers (flat_map spans_on segments) t) → IsTrue (is_taken airport s others t)
    from_lists has =
        let span = list_any-true (λ (w : Span). span_has w t) (flat_map spans_on segments) has in
        let on = flat_map-Contains spans_on segments span.0 span.1 in
        let held = map-Contains (λ (held : HeldStep). (hold_by airport held).span) (steps_of_others name (list_of lists on.0).steps) span.0 on.2 in
        let one = filter-Contains (is_of_others name) (list_of lists on.0).steps held.0 held.1 in
        let at = in_list airport lists by_segment airport.conflicts s segments are on.0 held.0 one.0 in
        let met : IsTrue (conflict airport.conflicts s (segment_of held.0.step.arc)) = subst (λ (u : Segment). IsTrue (conflict airport.conflicts s u)) (sym at.0) ((are.each on.0).0 on.1) in
        list_any-member (blocks airport.conflicts s t) (map (hold_by airport) others) (hold_by airport held.0)
        (Contains-map (hold_by airport) others held.0 (Contains-filter (is_of_others name) (all_steps lists) held.0 at.1 one.1))
        (and_from _ _ met (subst (λ (w : Span). IsTrue (span_has w t)) (sym held.2) span.2))

    to_lists : IsTrue (is_taken airport s others t) → IsTrue (covers (flat_map spans_on segments) t)
    to_lists has =
        let hold = list_any-true (blocks airport.conflicts s t) (map (hold_by airport) others) has in
        let held = map-Contains (hold_by airport) others hold.0 hold.1 in
        let one = filter-Contains (is_of_others name) (all_steps lists) held.0 held.1 in
        let own = segment_of held.0.step.arc in
        let both = and_parts (conflict airport.conflicts s own) (span_has (hold_by airport held.0).span t) (subst (λ (h : Hold). IsTrue (blocks airport.conflicts s t h)) (sym held.2) hold.2) in
        let here = Contains-filter (is_of_others name) (list_of lists own).steps held.0 (in_its_list airport lists by_segment airport.conflicts s segments are held.0 one.0) one.1 in
        list_any-member (λ (w : Span). span_has w t) (flat_map spans_on segments) (hold_by airport held.0).span
        (Contains-flat_map spans_on segments own (hold_by airport held.0).span ((are.each own).1 both.0)
        (Contains-map (λ (held : HeldStep). (hold_by airport held).span) (steps_of_others name (list_of lists own).steps) held.0 here))
        both.1

    taken-same : covers (flat_map spans_on segments) t ≡ is_taken airport s others t
    taken-same = both_same _ _ from_lists to_lists

  pub left-until : (from until first : ℕ) → IsFirstHeld (flat_map spans_on segments) from until first → IsFreeUntil (is_left airport name s (all_steps lists)) from until first
  left-until from until first held = record {
    not_before = held.not_before;
    not_after = held.not_after;
    free_before = λ t low high. ap not (sym (taken-same t) ∙ held.none_before t low high);
    taken = λ h. ap not (sym (taken-same first) ∙ held.held h);
  }

-- ---- of all holders

count-filter : (p test : HeldStep → Bool) (xs : List HeldStep) → count_by test (filter p xs) ≡ count_by (λ x. p x && test x) xs
count-filter p test [] = refl
count-filter p test (x ∷ xs) =
    elim (cases_Bool (p x)) [
      | inl passes ↦
          ap (count_by test) (cond-true (p x) (x ∷ filter p xs) (filter p xs) passes) ∙ count-cons test x (filter p xs) ∙ ap (λ (n : ℕ). cond (test x) 1 0 + n) (count-filter p test xs)
          ∙ ap (λ (b : Bool). cond (b && test x) 1 0 + count_by (λ x. p x && test x) xs) (sym passes) ∙ sym (count-cons (λ x. p x && test x) x xs)
      | inr fails ↦
          let fewer = ap (count_by test) (cond-false (p x) (x ∷ filter p xs) (filter p xs) fails) in
          let gone = cond-false {A = ℕ} (p x && test x) 1 0 (and_left (p x) (test x) fails) in
          omega (arith, fewer, count-filter p test xs, gone, count-cons (λ x. p x && test x) x xs)
    ]

module _ (name : List ℕ) where
  as_many-of_others : (xs ys : List HeldStep) → AreAsMany xs ys → AreAsMany (steps_of_others name xs) (steps_of_others name ys)
  as_many-of_others xs ys same test =
      count-filter (is_of_others name) test xs ∙ same (λ x. is_of_others name x && test x) ∙ sym (count-filter (is_of_others name) test ys)

  -- the steps of one holder are all of others, or none is
  all-of_others : (holder : Holder) → IsFalse (bytes_eq holder.name name) → (steps : List Step) → steps_of_others name (steps_with holder steps) ≡ steps_with holder steps
  all-of_others holder differs [] = refl
  all-of_others holder differs (s ∷ steps) =
      let x : HeldStep = record { step = s; holder = holder } in
      cond-true (is_of_others name x) (x ∷ steps_of_others name (steps_with holder steps)) (steps_of_others name (steps_with holder steps)) (ap not differs)
      ∙ ap (λ (xs : List HeldStep). x ∷ xs) (all-of_others holder differs steps)

  none-of_others : (holder : Holder) → IsTrue (bytes_eq holder.name name) → (steps : List Step) → steps_of_others name (steps_with holder steps) ≡ []
  none-of_others holder same [] = refl
  none-of_others holder same (s ∷ steps) =
      let x : HeldStep = record { step = s; holder = holder } in
      cond-false (is_of_others name x) (x ∷ steps_of_others name (steps_with holder steps)) (steps_of_others name (steps_with holder steps)) (ap not same)
      ∙ none-of_others holder same steps

  module _ {X : Type 0} (holder : X → Holder) (steps : X → List Step) where
    abbrev each : X → List HeldStep
    each x = steps_with (holder x) (steps x)

    abbrev left : List X → List X
    left xs = left_out (λ (x : X). (holder x).name) name xs

    others-joined : (xs : List X) → steps_of_others name (joined (map each xs)) ≡ joined (map each (left xs))
    others-joined [] = refl
    others-joined (x ∷ xs) =
        let rest = joined (map each xs) in
        filter-append (is_of_others name) (each x) rest
        ∙ elim (cases_Bool (bytes_eq (holder x).name name)) [
          | inl same ↦
              ap (λ (ys : List HeldStep). ys ++ steps_of_others name rest) (none-of_others (holder x) same (steps x)) ∙ others-joined xs
              ∙ ap (λ (ys : List X). joined (map each ys)) (sym (cond-false (not (bytes_eq (holder x).name name)) (x ∷ left xs) (left xs) (ap not same)))
          | inr differs ↦
              ap (λ (ys : List HeldStep). ys ++ steps_of_others name rest) (all-of_others (holder x) differs (steps x)) ∙ ap (λ (ys : List HeldStep). each x ++ ys) (others-joined xs)
              ∙ ap (λ (ys : List X). joined (map each ys)) (sym (cond-true (not (bytes_eq (holder x).name name)) (x ∷ left xs) (left xs) (ap not differs)))
        ]

  others-in : (state : State) → steps_of_others name (steps_in state) ≡ steps_in (without name state)
  others-in state =
      let shut = map party_steps state.parties in
      let flown = map flight_steps state.flights in
      let left = without name state in
      ap (steps_of_others name) (flat_map-append (λ (steps : List HeldStep). steps) shut flown) ∙ filter-append (is_of_others name) (joined shut) (joined flown)
      ∙ ap (λ (xs : List HeldStep). xs ++ steps_of_others name (joined flown)) (others-joined party_holder (λ (p : Party). party_step p ∷ []) state.parties)
      ∙ ap (λ (xs : List HeldStep). joined (map party_steps left.parties) ++ xs) (others-joined flight_holder (λ (f : Flight). f.steps) state.flights)
      ∙ sym (flat_map-append (λ (steps : List HeldStep). steps) (map party_steps left.parties) (map flight_steps left.flights))

  module _ (airport : Airport) (state : State) (feasible : IsFeasibleState airport state) (steps : List HeldStep) (same : AreAsMany steps (steps_in state)) (s : Segment) where
    taken-of_others : (t : ℕ) → is_taken airport s (steps_of_others name steps) t ≡ list_any (blocks airport.conflicts s t) (holds_in airport (without name state))
    taken-of_others t =
        any-as_many airport (steps_of_others name steps) (steps_in (without name state))
        (subst (λ (xs : List HeldStep). AreAsMany (steps_of_others name steps) xs) (others-in state) (as_many-of_others steps (steps_in state) same)) (blocks airport.conflicts s t)
        ∙ ap (list_any (blocks airport.conflicts s t)) (all-hold airport (without name state) (parties-over airport (without name state) (IsFeasibleState-without airport name state feasible)))

    pub free-until : (from until : ℕ) → IsFreeUntil (is_left airport name s steps) from airport.horizon until
        → IsFreeUntil (is_free airport.conflicts airport.horizon (holds_in airport (without name state)) s) from airport.horizon until
    free-until from until left = record {
      not_before = left.not_before;
      not_after = left.not_after;
      free_before = λ t low high. and_from _ _ (lt-ltb t airport.horizon (omega (arith, high, left.not_after))) (ap not (sym (taken-of_others t)) ∙ left.free_before t low high);
      taken = λ h. and_right _ _ (ap not (sym (taken-of_others until)) ∙ left.taken h);
    }
