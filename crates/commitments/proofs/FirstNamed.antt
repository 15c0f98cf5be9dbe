-- The first name of the holders of steps that pass a test: in two lists, in all where it is known of those since a second, and in all
-- where it is known of the lists of the segments in conflict.
use Rattle.std.proofs.Common.{◌≡◌, ℕ, ◌+◌, ◌<◌, ◌≤◌, Bool, List, [], ◌∷◌, ◌++◌, length, get_or, take, drop, IsTrue, IsFalse, Option, Some, None, refl, sym, ap, ◌∙◌, inl, inr, subst, arith, ◌⊎◌}
use Rattle.std.specs.Prelude.{All, flat_map}
use Rattle.std.proofs.lemmas.Bool.{and_parts, and_from, both_ways, false_from_ne_true}
use Rattle.std.proofs.lemmas.List.{append-nil, take-append-drop, take_more, get_or-drop, get_or_default, length-drop}
use Rattle.std.proofs.lemmas.List.Elements.{All-contains, All-cons, All-nil, Contains-append_cases, Contains-append_left, Contains-append_right}
use Rattle.std.proofs.lemmas.List.Concat.{flat_map-append}
use Rattle.taxi_base.specs.declared.numbers.Segment.{Segment}
use Rattle.taxi_base.specs.Airport.{Airport, IsWellFormed, conflict, segment_of}
use Rattle.taxi_base.specs.Windows.{span_has}
use Rattle.taxi_base.specs.State.{name_precedes}
use Rattle.taxi_base.specs.Faults.{first_name}
use Rattle.taxi_base.proofs.ListLaws.{Contains-first, Contains-cons_cases, Contains-flat_map, flat_map-Contains}
use Rattle.taxi_base.proofs.NameLaws.{name_precedes-not_itself}
use Rattle.taxi_base.proofs.WindowLaws.{span_has-true}
use Rattle.taxi_base.proofs.HolderLaws.{IsFirstOf-same, first_name-first}
use Rattle.conflict_sets.specs.Conflicts.{AreConflicts}
use Rattle.commitments.specs.declared.segment_holds.HeldStep.{HeldStep}
use Rattle.commitments.specs.Held.{StepList, list_of, all_steps, hold_by, AreBySegment, AreSince}
use Rattle.commitments.specs.Taken.{has_second, takes, IsNamed, IsFirstNamed}
use Rattle.commitments.proofs.Conflicts.{in_list, in_its_list}
use Rattle.commitments.proofs.OneSegment.{clearance-short}

pub name-alone : (r : Option (List ℕ)) → first_name r None ≡ r
name-alone None = refl
name-alone (Some name) = refl

module _ (test : HeldStep → Bool) where
  -- ---- in two lists

  pub none-named : (xs : List HeldStep) → All (λ held. IsFalse (test held)) xs → IsFirstNamed test xs None
  none-named xs none = λ name h. both_ways _ (All-contains (λ held. IsFalse (test held)) xs h.0 none h.1) h.3

  module _ (xs ys : List HeldStep) where
    in_first : (name : List ℕ) → IsNamed test xs name → IsNamed test (xs ++ ys) name
    in_first name h = (h.0, Contains-append_left xs ys h.0 h.1, h.2, h.3)

    in_second : (name : List ℕ) → IsNamed test ys name → IsNamed test (xs ++ ys) name
    in_second name h = (h.0, Contains-append_right xs ys h.0 h.1, h.2, h.3)

    in_either : (name : List ℕ) → IsNamed test (xs ++ ys) name → IsNamed test xs name ⊎ IsNamed test ys name
    in_either name h = elim (Contains-append_cases xs ys h.0 h.1) [ inl first ↦ inl (h.0, first, h.2, h.3) | inr second ↦ inr (h.0, second, h.2, h.3) ]

    pub first-both : (a b : Option (List ℕ)) → IsFirstNamed test xs a → IsFirstNamed test ys b → IsFirstNamed test (xs ++ ys) (first_name a b)
    first-both a b fa fb =
        IsFirstOf-same (λ name. IsNamed test xs name ⊎ IsNamed test ys name) (IsNamed test (xs ++ ys))
        (λ name h. elim h [ inl first ↦ in_first name first | inr second ↦ in_second name second ]) in_either (first_name a b)
        (first_name-first (IsNamed test xs) (IsNamed test ys) a b fa fb)

    -- steps of which none passes change nothing
    pub first-beside : (r : Option (List ℕ)) → IsFirstNamed test xs r → All (λ held. IsFalse (test held)) ys → IsFirstNamed test (xs ++ ys) r
    first-beside r first none = subst (IsFirstNamed test (xs ++ ys)) (name-alone r) (first-both r None first (none-named ys none))

    pub first-behind : (r : Option (List ℕ)) → IsFirstNamed test ys r → All (λ held. IsFalse (test held)) xs → IsFirstNamed test (xs ++ ys) r
    first-behind r first none = first-both None r (none-named xs none) first

  -- ---- one step more

  first-one : (x : HeldStep) → IsTrue (test x) → IsFirstNamed test (x ∷ []) (Some x.holder.name)
  first-one x passes = (
    (x, Contains-first x [], refl, passes),
    λ other h. elim (Contains-cons_cases x h.0 [] h.1) [
      | inl e ↦ subst (λ n. IsFalse (name_precedes n x.holder.name)) (ap (λ (y : HeldStep). y.holder.name) e ∙ h.2) (name_precedes-not_itself x.holder.name)
      | inr none ↦ absurd (omega (arith, none.1))
    ],
  )

  module _ (xs : List HeldStep) (k : ℕ) (x : HeldStep) (low : k < length xs) (r : Option (List ℕ)) (first : IsFirstNamed test (take k xs) r) where
    pub first-more : IsTrue (test (get_or xs k x)) → IsFirstNamed test (take (k + 1) xs) (first_name r (Some (get_or xs k x).holder.name))
    first-more passes = rw (take_more xs k x low) (first-both (take k xs) (get_or xs k x ∷ []) r (Some (get_or xs k x).holder.name) first (first-one (get_or xs k x) passes))

    pub first-passed : IsFalse (test (get_or xs k x)) → IsFirstNamed test (take (k + 1) xs) r
    first-passed fails =
        rw (take_more xs k x low)
        (first-beside (take k xs) (get_or xs k x ∷ []) r first (All-cons (λ held. IsFalse (test held)) (get_or xs k x) [] fails (All-nil (λ held. IsFalse (test held)))))

-- ---- one list more

pub lists-more : {X : Type 0} (test : HeldStep → Bool) (f : X → List HeldStep) (xs : List X) (k : ℕ) (d : X) → k < length xs → (a b : Option (List ℕ))
    → IsFirstNamed test (flat_map f (take k xs)) a → IsFirstNamed test (f (get_or xs k d)) b → IsFirstNamed test (flat_map f (take (k + 1) xs)) (first_name a b)
lists-more test f xs k d low a b first more =
    rw (take_more xs k d low, flat_map-append f (take k xs) (get_or xs k d ∷ []), append-nil (f (get_or xs k d))) (first-both test (flat_map f (take k xs)) (f (get_or xs k d)) a b first more)

-- ---- the steps since a second

module _ (airport : Airport) (rules : IsWellFormed airport) (steps rest : List HeldStep) (second : ℕ) (since : AreSince steps second rest) where
  over-without : All (λ held. IsFalse (has_second airport second held)) since.over
  over-without k d low =
      let held = get_or since.over k d in
      false_from_ne_true _ (λ has.
      let inside = span_has-true (hold_by airport held).span second has in
      absurd (omega (arith, inside.1, since.short k d low, clearance-short airport held.holder rules)))

  pub named-since : (r : Option (List ℕ)) → IsFirstNamed (has_second airport second) rest r → IsFirstNamed (has_second airport second) steps r
  named-since r first = rw since.all (first-behind (has_second airport second) since.over rest r first over-without)

  -- once the steps begin later, no further one has it
  module _ (i : ℕ) (e : HeldStep) (low : i < length rest) (late : second < (get_or rest i e).step.enter) where
    later-without : All (λ held. IsFalse (has_second airport second held)) (drop i rest)
    later-without k d on =
        rw (get_or-drop i rest k d)
        (false_from_ne_true _ (λ has.
        let on_all : i + k < length rest = omega (arith, length-drop i rest) in
        let inside = span_has-true (hold_by airport (get_or rest (i + k) d)).span second has in
        let first : (get_or rest i d).step.enter ≤ (get_or rest (i + k) d).step.enter = since.rising i (i + k) d (omega arith) on_all in
        let same : (get_or rest i e).step.enter ≡ (get_or rest i d).step.enter = ap (λ (held : HeldStep). held.step.enter) (get_or_default rest i e d low) in
        absurd (omega (arith, inside.0))))

    pub named-stopped : (r : Option (List ℕ)) → IsFirstNamed (has_second airport second) (take i rest) r → IsFirstNamed (has_second airport second) steps r
    named-stopped r first =
        named-since r
        (subst (λ (xs : List HeldStep). IsFirstNamed (has_second airport second) xs r) (take-append-drop i rest)
        (first-beside (has_second airport second) (take i rest) (drop i rest) r first later-without))

-- ---- the lists of the segments in conflict

module _ (airport : Airport) (lists : List StepList) (by_segment : AreBySegment lists) (s : Segment) (segments : List Segment) (are : AreConflicts airport.conflicts s segments) (t : ℕ) where
  abbrev steps_on : Segment → List HeldStep
  steps_on segment = (list_of lists segment).steps

  from_lists : (name : List ℕ) → IsNamed (has_second airport t) (flat_map steps_on segments) name → IsNamed (takes airport s t) (all_steps lists) name
  from_lists name h =
      let on = flat_map-Contains steps_on segments h.0 h.1 in
      let at = in_list airport lists by_segment airport.conflicts s segments are on.0 h.0 on.2 in
      let met : IsTrue (conflict airport.conflicts s (segment_of h.0.step.arc)) = subst (λ (u : Segment). IsTrue (conflict airport.conflicts s u)) (sym at.0) ((are.each on.0).0 on.1) in
      (h.0, at.1, h.2, and_from _ _ met h.3)

  to_lists : (name : List ℕ) → IsNamed (takes airport s t) (all_steps lists) name → IsNamed (has_second airport t) (flat_map steps_on segments) name
  to_lists name h =
      let own = segment_of h.0.step.arc in
      let both = and_parts (conflict airport.conflicts s own) (span_has (hold_by airport h.0).span t) h.3 in
      (h.0, Contains-flat_map steps_on segments own h.0 ((are.each own).1 both.0) (in_its_list airport lists by_segment airport.conflicts s segments are h.0 h.1), h.2, both.1)

  pub named-lists : (r : Option (List ℕ)) → IsFirstNamed (has_second airport t) (flat_map steps_on segments) r → IsFirstNamed (takes airport s t) (all_steps lists) r
  named-lists r first = IsFirstOf-same (IsNamed (has_second airport t) (flat_map steps_on segments)) (IsNamed (takes airport s t) (all_steps lists)) from_lists to_lists r first
