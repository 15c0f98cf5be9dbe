-- Steps are counted for each list, one list in conflict after another.
use Rattle.std.proofs.Common.{◌≡◌, ◌≢◌, ℕ, zero, suc, ◌+◌, ◌^◌, ◌<◌, ◌≤◌, cond, List, [], ◌∷◌, length, length-set, get_or, set, take, inl, inr, IsTrue, IsFalse, refl, sym, ◌∙◌, ap, subst, arith}
use Rattle.std.specs.Prelude.{All, AllPairs, Contains, ◌==◌, slice_index_or}
use Rattle.std.proofs.lemmas.Bool.{cases_Bool, cases_eq, eq-eqb, ne_eqb, both_ways, false_from_ne_true}
use Rattle.std.proofs.lemmas.List.{get_or-set_same, get_or-set_other, get_or_default, get_or-map, map-set, length-map, take_all, length-take}
use Rattle.std.proofs.lemmas.List.Sums.{sum_by-cons, sum_by_more, sum_by-take-le}
use Rattle.std.proofs.lemmas.List.Elements.{All-get_or, All-head, All-tail}
use Rattle.taxi_base.specs.declared.numbers.Segment.{Segment}
use Rattle.taxi_base.specs.declared.rows.Step.{Step}
use Rattle.taxi_base.specs.Airport.{conflict, segment_of}
use Rattle.taxi_base.proofs.HoldLaws.{conflict-turned}
use Rattle.conflict_sets.specs.Conflicts.{AreConflicts}
use Rattle.conflict_sets.proofs.Members.{same_segment}
use Rattle.window_store.specs.declared.step_counts.Counted.{Counted}
use Rattle.window_store.specs.Spans.{Listed, nodes}
use Rattle.window_store.specs.Store.{Store, HaveRoom, no_list, list_at}
use Rattle.window_store.specs.Stands.{HasRoomFor}
use Rattle.window_store.specs.Edits.{of_lists}
use Rattle.window_store.specs.Counts.{count_in, counts_in, count_of, times_in, stepped, IsCounted, IsCountedAtMost, HaveRoomFor, GainsNodes, GainsNodesFor}
use Rattle.window_store.proofs.Standing.{conflicting-le}
use Rattle.window_store.proofs.Changes.{not_before}

-- ---- how often a segment is among some

abbrev once : Segment → Segment → ℕ
once s t = cond (t.0 == s.0) 1 0

once-here : (s t : Segment) → t.0 ≡ s.0 → once s t ≡ 1
once-here s t e = rw (eq-eqb t.0 s.0 e) refl

once-other : (s t : Segment) → t.0 ≢ s.0 → once s t ≡ 0
once-other s t other = rw (ne_eqb t.0 s.0 other) refl

times-first : (t : Segment) (row : List Segment) (s : Segment) → times_in (t ∷ row) s ≡ once s t + times_in row s
times-first t row s = sum_by-cons (once s) t row

pub times-here : (t s : Segment) → t.0 ≡ s.0 → times_in (t ∷ []) s ≡ 1
times-here t s e = omega (arith, times-first t [] s, once-here s t e)

pub times-other : (t s : Segment) → t.0 ≢ s.0 → times_in (t ∷ []) s ≡ 0
times-other t s other = omega (arith, times-first t [] s, once-other s t other)

behind : (m t : Segment) (row : List Segment) → Contains row t → Contains (m ∷ row) t
behind m t row there = (suc there.0, omega (arith, there.1), there.2)

times-none : (row : List Segment) (s : Segment) → (Contains row s → ⊥) → times_in row s ≡ 0
times-none [] s none = refl
times-none (m ∷ row) s none =
    let other : m.0 ≢ s.0 = λ e. none (0, omega arith, same_segment m s e) in
    omega (arith, times-first m row s, once-other s m other, times-none row s (λ there. none (behind m s row there)))

further : (m : Segment) (row : List Segment) (s : Segment) → m.0 ≢ s.0 → (k : ℕ) → k < length (m ∷ row) → get_or (m ∷ row) k s ≡ s → Contains row s
further m row s other zero low is = absurd (other (ap (λ (t : Segment). t.0) is))
further m row s other (suc k) low is = (k, omega (arith, low), is)

times-once : (row : List Segment) (s : Segment) → AllPairs (λ (a b : Segment). a.0 < b.0) row → Contains row s → times_in row s ≡ 1
times-once [] s rising there = absurd (omega (arith, there.1))
times-once (m ∷ row) s rising there =
    elim (cases_eq m.0 s.0) [
      | inl same ↦
          let none : Contains row s → ⊥ = λ again.
          let above : m.0 < (get_or row again.0 s).0 = rising 0 (suc again.0) s (omega arith) (omega (arith, again.1)) in
          let is : (get_or row again.0 s).0 ≡ s.0 = ap (λ (t : Segment). t.0) again.2 in
          absurd (omega (arith, above, is, same)) in
          omega (arith, times-first m row s, once-here s m same, times-none row s none)
      | inr other ↦ omega (arith, times-first m row s, once-other s m other, times-once row s (λ i j d low below. rising (suc i) (suc j) d (omega arith) (omega (arith, below))) (further m row s other there.0 there.1 there.2))
    ]

step-first : (sets : List (List Segment)) (step : Step) (s : Segment) → stepped sets (step ∷ []) s ≡ cond (conflict sets s (segment_of step.arc)) 1 0
step-first sets step s = sum_by-cons (λ (t : Step). cond (conflict sets s (segment_of t.arc)) 1 0) step [] ∙ omega arith

-- among those in conflict with a step each segment stands once that the step is in conflict with
times-conflicting : (sets : List (List Segment)) (step : Step) (row : List Segment) (s : Segment) → AreConflicts sets (segment_of step.arc) row → times_in row s ≡ stepped sets (step ∷ []) s
times-conflicting sets step row s all =
    elim (cases_Bool (conflict sets (segment_of step.arc) s)) [
      | inl met ↦
          let turned : IsTrue (conflict sets s (segment_of step.arc)) = conflict-turned sets (segment_of step.arc) s met in
          let one : cond (conflict sets s (segment_of step.arc)) 1 0 ≡ 1 = rw turned refl in
          times-once row s all.rising ((all.each s).1 met) ∙ sym (step-first sets step s ∙ one)
      | inr apart ↦
          let turned : IsFalse (conflict sets s (segment_of step.arc)) = false_from_ne_true _ (λ met. both_ways _ apart (conflict-turned sets s (segment_of step.arc) met)) in
          let no : cond (conflict sets s (segment_of step.arc)) 1 0 ≡ 0 = rw turned refl in
          times-none row s (λ there. both_ways _ apart ((all.each s).0 there)) ∙ sym (step-first sets step s ∙ no)
    ]

-- ---- one count

pub counts-none : (round : ℕ) (counted : List Counted) → All (λ one. count_in round one ≡ 0) counted → (s : Segment) → count_of (counts_in round counted) s ≡ 0
counts-none round counted all s = at s.0 counted all where
  at : (k : ℕ) (ones : List Counted) → All (λ one. count_in round one ≡ 0) ones → get_or (counts_in round ones) k 0 ≡ 0
  at k [] none = refl
  at zero (one ∷ ones) none = All-head (λ (n : Counted). count_in round n ≡ 0) one ones none
  at (suc k) (one ∷ ones) none = at k ones (All-tail (λ (n : Counted). count_in round n ≡ 0) one ones none)

-- what was counted in earlier rounds is none
pub counts-past : (round next : ℕ) (counted : List Counted) → round < next → All (λ one. one.round ≤ round) counted → (s : Segment) → count_of (counts_in next counted) s ≡ 0
counts-past round next counted later all =
    counts-none next counted (λ k d low.
    let other : (get_or counted k d).round ≢ next = λ e. absurd (omega (arith, all k d low, e, later)) in
    rw (ne_eqb (get_or counted k d).round next other) refl)

-- one is counted more
pub counts-set : (round : ℕ) (counted : List Counted) (t : Segment) (n : ℕ) → t.0 < length counted → n ≡ count_of (counts_in round counted) t + 1
    → IsCounted (times_in (t ∷ [])) (counts_in round counted) (counts_in round (set counted t.0 (record { round = round; count = n })))
counts-set round counted t n low is =
    let one : Counted = record { round = round; count = n } in
    let here : count_in round one ≡ n = rw (eq-eqb round round refl) refl in
    let counts = counts_in round counted in
    let whole : counts_in round (set counted t.0 one) ≡ set counts t.0 n = map-set (count_in round) counted t.0 one ∙ ap (λ m. set counts t.0 m) here in
    let inside : t.0 < length counts = omega (arith, low, length-map counted (count_in round)) in
    rw whole (record {
      as_many = length-set counts t.0 n;
      each = λ s exists. elim (cases_eq t.0 s.0) [
        | inl same ↦
            let new : get_or (set counts t.0 n) s.0 0 ≡ n = subst (λ k. get_or (set counts t.0 n) k 0 ≡ n) same (get_or-set_same counts t.0 n 0 inside) in
            let old : get_or counts s.0 0 ≡ get_or counts t.0 0 = ap (λ k. get_or counts k 0) (sym same) in
            omega (arith, new, old, is, times-here t s same)
        | inr other ↦ omega (arith, get_or-set_other counts t.0 s.0 n 0 (λ e. other (sym e)), times-other t s other)
      ];
    })

-- what is counted now, and what was
pub counts-at : (round : ℕ) (counted : List Counted) (t : Segment) (d : Counted) → t.0 < length counted → count_of (counts_in round counted) t ≡ count_in round (get_or counted t.0 d)
counts-at round counted t d low = get_or-map (count_in round) counted t.0 d 0 low

pub counts-now : (round : ℕ) (counted : List Counted) (t : Segment) (n : ℕ) → t.0 < length counted → count_of (counts_in round (set counted t.0 (record { round = round; count = n }))) t ≡ n
counts-now round counted t n low =
    let one : Counted = record { round = round; count = n } in
    let there : t.0 < length (set counted t.0 one) = omega (arith, low, length-set counted t.0 one) in
    let here : count_in round one ≡ n = rw (eq-eqb round round refl) refl in
    counts-at round (set counted t.0 one) t one there ∙ ap (count_in round) (get_or-set_same counted t.0 one one low) ∙ here

-- ---- the lists of one step

pub counted-none : (d : List ℕ) → IsCounted (times_in []) d d
counted-none d = record { as_many = refl; each = λ s low. omega arith }

pub counted-more : (row : List Segment) (i : ℕ) (d : Segment) (old now new : List ℕ) → i < length row → IsCounted (times_in (take i row)) old now → IsCounted (times_in (get_or row i d ∷ [])) now new
    → IsCounted (times_in (take (i + 1) row)) old new
counted-more row i d old now new low first second = record {
  as_many = second.as_many ∙ first.as_many;
  each = λ s exists.
      omega (
        arith,
        first.each s exists,
        second.each s (omega (arith, exists, first.as_many)),
        sum_by_more (once s) row i d low,
        times-first (get_or row i d) [] s,
      );
}

-- what comes next is not yet counted
pub counted-fresh : (row : List Segment) (i : ℕ) (d : Segment) (old now : List ℕ) → AllPairs (λ (a b : Segment). a.0 < b.0) row → i < length row → (get_or row i d).0 < length old
    → IsCounted (times_in (take i row)) old now → count_of now (get_or row i d) ≡ count_of old (get_or row i d)
counted-fresh row i d old now rising low exists counted =
    omega (arith, counted.each (get_or row i d) exists, times-none (take i row) (get_or row i d) (not_before row i d rising low))

-- and its number stays small
pub counted-few : (row : List Segment) (i : ℕ) (d : Segment) (e : Listed) (old now new : List ℕ) (a b : Store) → AllPairs (λ (a b : Segment). a.0 < b.0) row → i < length row → length old ≡ length a.lists
    → (get_or row i d).0 < length b.lists → IsCounted (times_in (take i row)) old now → IsCounted (times_in (get_or row i d ∷ [])) now new → GainsNodes now a b
    → ((s : Segment) → s.0 < length a.lists → (list_at a s).held + count_of old s + 1 < 2 ^ 33) → (get_or b.lists (get_or row i d).0 e).held + count_of new (get_or row i d) + 1 ≤ 2 ^ 33
counted-few row i d e old now new a b rising low as_many exists first second gained few =
    let s = get_or row i d in
    let in_a : s.0 < length a.lists = omega (arith, exists, gained.gained.lists) in
    let in_old : s.0 < length old = omega (arith, in_a, as_many) in
    omega (
      arith,
      few s in_a,
      counted-fresh row i d old now rising low in_old first,
      second.each s (omega (arith, in_old, first.as_many)),
      times-here s s refl,
      gained.gained.held s in_a,
      ap (λ (l : Listed). l.held) (get_or_default b.lists s.0 e no_list exists),
    )

pub counted-all : (sets : List (List Segment)) (step : Step) (row : List Segment) (i : ℕ) (old new : List ℕ) → AreConflicts sets (segment_of step.arc) row → length row ≤ i
    → IsCounted (times_in (take i row)) old new → IsCounted (stepped sets (step ∷ [])) old new
counted-all sets step row i old new all past counted = record {
  as_many = counted.as_many;
  each = λ s exists. omega (arith, counted.each s exists, ap (λ (xs : List Segment). times_in xs s) (take_all i row past), times-conflicting sets step row s all);
}

pub counted-part : (sets : List (List Segment)) (step : Step) (row : List Segment) (i : ℕ) (old new : List ℕ) → AreConflicts sets (segment_of step.arc) row
    → IsCounted (times_in (take i row)) old new → IsCountedAtMost (stepped sets (step ∷ [])) old new
counted-part sets step row i old new all counted = record {
  as_many = counted.as_many;
  least = λ s exists. omega (arith, counted.each s exists);
  most = λ s exists. omega (arith, counted.each s exists, sum_by-take-le (once s) row i, times-conflicting sets step row s all);
}

-- no count falls
pub counted-up : (t : Segment) (old new : List ℕ) → IsCounted (times_in (t ∷ [])) old new → (s : Segment) → s.0 < length old → count_of old s ≤ count_of new s
counted-up t old new counted s exists = omega (arith, counted.each s exists)

-- a list more is counted, and has room
pub room-more : (counts more : List ℕ) (lists : List Listed) (t : Segment) (d l : Listed) → t.0 < length lists → length counts ≡ length lists → IsCounted (times_in (t ∷ [])) counts more
    → l.held ≡ (get_or lists t.0 d).held → 1 + (get_or lists t.0 d).held + count_of more t ≤ nodes l → HaveRoomFor counts lists → HaveRoomFor more (set lists t.0 l)
room-more counts more lists t d l exists as_many counted number enough room s low =
    let in_old : s.0 < length lists = omega (arith, low, length-set lists t.0 l) in
    elim (cases_eq t.0 s.0) [
      | inl same ↦
          subst (λ n. 1 + (get_or (set lists t.0 l) n no_list).held + slice_index_or more n 0 ≤ nodes (get_or (set lists t.0 l) n no_list)) same
          (rw (get_or-set_same lists t.0 l no_list exists) (omega (arith, number, enough)))
      | inr other ↦
          rw (get_or-set_other lists t.0 s.0 l no_list (λ e. other (sym e)))
          (omega (arith, room s in_old, counted.each s (omega (arith, in_old, as_many)), times-other t s other))
    ]

-- ---- one step after another

-- the steps in conflict are counted for each of so many segments
pub record AreCounted (sets : List (List Segment)) (steps : List Step) (segments : ℕ) (counts : List ℕ) : Type 0 where
  pub as_many : length counts ≡ segments
  pub each : (s : Segment) → s.0 < segments → count_of counts s ≡ stepped sets steps s

module _ (sets : List (List Segment)) (steps : List Step) (segments : ℕ) where
  pub AreCounted-none : (counts : List ℕ) → length counts ≡ segments → ((s : Segment) → count_of counts s ≡ 0) → AreCounted sets [] segments counts
  AreCounted-none counts as_many none = record { as_many = as_many; each = λ s low. none s }

  module _ (k : ℕ) (d : Step) (low : k < length steps) (old new : List ℕ) (before : AreCounted sets (take k steps) segments old) where
    abbrev f : Segment → Step → ℕ
    f s = λ (t : Step). cond (conflict sets s (segment_of t.arc)) 1 0

    pub AreCounted-more : IsCounted (stepped sets (get_or steps k d ∷ [])) old new → AreCounted sets (take (k + 1) steps) segments new
    AreCounted-more more = record {
      as_many = more.as_many ∙ before.as_many;
      each = λ s exists.
          omega (arith, before.each s exists, more.each s (omega (arith, exists, before.as_many)), sum_by_more (f s) steps k d low, step-first sets (get_or steps k d) s);
    }

    -- no more are counted than there are, also in the middle of a step
    pub AreCounted-below : IsCountedAtMost (stepped sets (get_or steps k d ∷ [])) old new → (s : Segment) → s.0 < segments → count_of new s ≤ stepped sets steps s
    AreCounted-below more s exists =
        omega (
          arith,
          before.each s exists,
          more.most s (omega (arith, exists, before.as_many)),
          sum_by_more (f s) steps k d low,
          sum_by-take-le (f s) steps (k + 1),
          step-first sets (get_or steps k d) s,
        )

    -- the numbers stay small
    pub AreCounted-few : (a b : Store) → length a.lists ≡ segments → GainsNodes old a b → All (λ l. l.held + length steps < 2 ^ 33) a.lists
        → (s : Segment) → s.0 < length b.lists → (list_at b s).held + count_of old s + 1 < 2 ^ 33
    AreCounted-few a b as_many gained few s exists =
        let in_a : s.0 < length a.lists = omega (arith, exists, gained.gained.lists) in
        omega (
          arith,
          gained.gained.held s in_a,
          All-get_or (λ (l : Listed). l.held + length steps < 2 ^ 33) a.lists s.0 no_list in_a few,
          before.each s (omega (arith, in_a, as_many)),
          conflicting-le sets s (take k steps),
          length-take k steps,
          low,
        )

pub AreCounted-all : (sets : List (List Segment)) (steps : List Step) (segments k : ℕ) (counts : List ℕ) → length steps ≤ k → AreCounted sets (take k steps) segments counts → AreCounted sets steps segments counts
AreCounted-all sets steps segments k counts past counted = subst (λ (xs : List Step). AreCounted sets xs segments counts) (take_all k steps past) counted

-- where nothing is counted there is room
pub room-none : (counts : List ℕ) (lists : List Listed) → ((s : Segment) → count_of counts s ≡ 0) → HaveRoom lists → HaveRoomFor counts lists
room-none counts lists none room s low = omega (arith, none s, All-get_or (λ (l : Listed). 1 + l.held ≤ nodes l) lists s.0 no_list low room)

-- where all are counted there is room for them
pub room-all : (sets : List (List Segment)) (steps : List Step) (segments : ℕ) (counts : List ℕ) (lists : List Listed) → length lists ≡ segments → AreCounted sets steps segments counts → HaveRoomFor counts lists
    → HasRoomFor sets steps (of_lists lists)
room-all sets steps segments counts lists as_many counted room s low = omega (arith, room s low, counted.each s (omega (arith, low, as_many)))

-- what the counts want is no more than what the steps do
pub gained-for : (sets : List (List Segment)) (steps : List Step) (counts : List ℕ) (a b : Store) → ((s : Segment) → s.0 < length a.lists → count_of counts s ≤ stepped sets steps s) → GainsNodes counts a b
    → GainsNodesFor sets steps a b
gained-for sets steps counts a b below gained = record {
  store = gained.store;
  gained = gained.gained;
  lacking = record {
    most = λ s low. omega (arith, gained.most s low, below s low);
    ids = gained.ids;
  };
}
