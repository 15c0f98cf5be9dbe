-- Which lists stand for which holds: only the spans of those in conflict count, and not their order.
use Rattle.std.proofs.Common.{◌≡◌, ℕ, suc, ◌+◌, ◌<◌, ◌≤◌, Bool, true, false, not, cond, ◌&&◌, ◌||◌, List, [], ◌∷◌, ◌++◌, length, get_or, take, IsTrue, IsFalse, inl, inr, refl, sym, ◌∙◌, ap, arith}
use Rattle.std.specs.Prelude.{map, filter, nat_lt}
use Rattle.std.specs.List.{list_any}
use Rattle.std.proofs.lemmas.Bool.{cases_Bool, cond-true, cond-false}
use Rattle.std.proofs.lemmas.List.{map-append, map_more, length-append}
use Rattle.std.proofs.lemmas.List.Sums.{length-filter, count_by-le-length, sum_by-cons, sum_by_more, sum_by-take-le}
use Rattle.std.proofs.lemmas.List.Elements.{filter-append}
use Rattle.std.proofs.lemmas.List.Folds.{list_any-append}
use Rattle.taxi_base.specs.declared.numbers.Segment.{Segment}
use Rattle.taxi_base.specs.declared.rows.Span.{Span}
use Rattle.taxi_base.specs.declared.rows.Step.{Step}
use Rattle.taxi_base.specs.Airport.{conflict, segment_of}
use Rattle.interval_list.specs.Intervals.{spans_of}
use Rattle.taxi_base.specs.Windows.{Hold, hold_of, holds_of, span_has, covers, blocks, is_free, AreWindows}
use Rattle.window_store.specs.Spans.{Listed, StandsForSpans, is_unheld}
use Rattle.window_store.specs.Store.{Store, list_at}
use Rattle.window_store.specs.Stands.{conflicting, conflicting_steps, ListStandsFor, StandsFor}
use Rattle.window_store.specs.Conflicting.{spans_in_conflict}

length-map_span : (holds : List Hold) → length (map (λ (h : Hold). h.span) holds) ≡ length holds
length-map_span [] = refl
length-map_span (h ∷ holds) = ap suc (length-map_span holds)

-- the spans of one hold more
pub in_conflict : (sets : List (List Segment)) (s : Segment) (h : Hold) (holds : List Hold) → IsTrue (conflict sets s h.segment) → spans_in_conflict sets s (h ∷ holds) ≡ h.span ∷ spans_in_conflict sets s holds
in_conflict sets s h holds met =
    ap (map (λ (h : Hold). h.span)) (cond-true (conflict sets s h.segment) (h ∷ filter (λ (h : Hold). conflict sets s h.segment) holds) (filter (λ (h : Hold). conflict sets s h.segment) holds) met)

pub not_in_conflict : (sets : List (List Segment)) (s : Segment) (h : Hold) (holds : List Hold) → IsFalse (conflict sets s h.segment) → spans_in_conflict sets s (h ∷ holds) ≡ spans_in_conflict sets s holds
not_in_conflict sets s h holds apart =
    ap (map (λ (h : Hold). h.span)) (cond-false (conflict sets s h.segment) (h ∷ filter (λ (h : Hold). conflict sets s h.segment) holds) (filter (λ (h : Hold). conflict sets s h.segment) holds) apart)

-- the seconds that these spans have are those that the holds block
pub covers-in_conflict : (sets : List (List Segment)) (s : Segment) (t : ℕ) (holds : List Hold) → covers (spans_in_conflict sets s holds) t ≡ list_any (blocks sets s t) holds
covers-in_conflict sets s t [] = refl
covers-in_conflict sets s t (h ∷ holds) =
    elim (cases_Bool (conflict sets s h.segment)) [
      | inl met ↦ ap (λ spans. covers spans t) (in_conflict sets s h holds met) ∙ rw met (ap (λ b. span_has h.span t || b) (covers-in_conflict sets s t holds))
      | inr apart ↦ ap (λ spans. covers spans t) (not_in_conflict sets s h holds apart) ∙ rw apart (covers-in_conflict sets s t holds)
    ]

-- so the windows that the holds leave are those that these spans leave
pub windows-in_conflict : (sets : List (List Segment)) (horizon : ℕ) (holds : List Hold) (s : Segment) (ws : List Span) → AreWindows (is_free sets horizon holds s) ws → AreWindows (is_unheld horizon (spans_in_conflict sets s holds)) ws
windows-in_conflict sets horizon holds s ws windows = record {
  apart = windows.apart;
  same = λ t. windows.same t ∙ ap (λ b. nat_lt t horizon && not b) (sym (covers-in_conflict sets s t holds));
}

pub length-in_conflict : (sets : List (List Segment)) (s : Segment) (holds : List Hold) → length (spans_in_conflict sets s holds) ≡ conflicting sets s holds
length-in_conflict sets s holds =
    length-map_span (filter (λ (h : Hold). conflict sets s h.segment) holds) ∙ length-filter (λ (h : Hold). conflict sets s h.segment) holds

pub in_conflict-append : (sets : List (List Segment)) (s : Segment) (xs ys : List Hold) → spans_in_conflict sets s (xs ++ ys) ≡ spans_in_conflict sets s xs ++ spans_in_conflict sets s ys
in_conflict-append sets s xs ys =
    ap (map (λ (h : Hold). h.span)) (filter-append (λ (h : Hold). conflict sets s h.segment) xs ys)
    ∙ map-append (λ (h : Hold). h.span) (filter (λ (h : Hold). conflict sets s h.segment) xs) (filter (λ (h : Hold). conflict sets s h.segment) ys)

-- how many of the holds are in conflict
pub conflicting-append : (sets : List (List Segment)) (s : Segment) (xs ys : List Hold) → conflicting sets s (xs ++ ys) ≡ conflicting sets s xs + conflicting sets s ys
conflicting-append sets s xs ys =
    let both = ap length (in_conflict-append sets s xs ys) in
    omega (arith, both, length-in_conflict sets s (xs ++ ys), length-in_conflict sets s xs, length-in_conflict sets s ys, length-append (spans_in_conflict sets s xs) (spans_in_conflict sets s ys))

pub conflicting-yes : (sets : List (List Segment)) (s : Segment) (h : Hold) (holds : List Hold) → IsTrue (conflict sets s h.segment) → conflicting sets s (h ∷ holds) ≡ 1 + conflicting sets s holds
conflicting-yes sets s h holds met =
    omega (arith, ap length (in_conflict sets s h holds met), length-in_conflict sets s (h ∷ holds), length-in_conflict sets s holds)

pub conflicting-no : (sets : List (List Segment)) (s : Segment) (h : Hold) (holds : List Hold) → IsFalse (conflict sets s h.segment) → conflicting sets s (h ∷ holds) ≡ conflicting sets s holds
conflicting-no sets s h holds apart =
    omega (arith, ap length (not_in_conflict sets s h holds apart), length-in_conflict sets s (h ∷ holds), length-in_conflict sets s holds)

-- ---- standing

module _ (sets : List (List Segment)) (horizon : ℕ) where
  -- a list stands for holds just where it stands for the spans of those in conflict
  pub list-spans : (holds : List Hold) (s : Segment) (l : Listed) → ListStandsFor sets horizon holds s l → StandsForSpans horizon (spans_in_conflict sets s holds) l
  list-spans holds s l stands = record {
    windows = windows-in_conflict sets horizon holds s (spans_of l.intervals.windows) stands.windows;
    number = stands.number ∙ sym (length-in_conflict sets s holds);
    room = omega (arith, stands.room, stands.number, length-in_conflict sets s holds);
  }

  pub spans-list : (holds : List Hold) (s : Segment) (l : Listed) → StandsForSpans horizon (spans_in_conflict sets s holds) l → ListStandsFor sets horizon holds s l
  spans-list holds s l stands = record {
    windows = record {
      apart = stands.windows.apart;
      same = λ t. stands.windows.same t ∙ ap (λ b. nat_lt t horizon && not b) (covers-in_conflict sets s t holds);
    };
    number = stands.number ∙ length-in_conflict sets s holds;
    room = omega (arith, stands.room, stands.number);
  }

  -- it stands for other holds that block the same seconds, and of which as many conflict
  pub list-same : (holds others : List Hold) (s : Segment) (l : Listed) → ((t : ℕ) → list_any (blocks sets s t) holds ≡ list_any (blocks sets s t) others)
      → conflicting sets s holds ≡ conflicting sets s others → ListStandsFor sets horizon holds s l → ListStandsFor sets horizon others s l
  list-same holds others s l seconds number stands = record {
    windows = record {
      apart = stands.windows.apart;
      same = λ t. stands.windows.same t ∙ ap (λ b. nat_lt t horizon && not b) (seconds t);
    };
    number = stands.number ∙ number;
    room = stands.room;
  }

  pub StandsFor-same : (holds others : List Hold) (store : Store) → ((s : Segment) (t : ℕ) → list_any (blocks sets s t) holds ≡ list_any (blocks sets s t) others)
      → ((s : Segment) → conflicting sets s holds ≡ conflicting sets s others) → StandsFor sets horizon holds store → StandsFor sets horizon others store
  StandsFor-same holds others store seconds number stands s low = list-same holds others s (list_at store s) (seconds s) (number s) (stands s low)

-- ---- one step more

pub in_conflict-more : (horizon clearance : ℕ) (sets : List (List Segment)) (s : Segment) (steps : List Step) (k : ℕ) (d : Step) → k < length steps
    → spans_in_conflict sets s (holds_of horizon clearance (take (k + 1) steps)) ≡ spans_in_conflict sets s (holds_of horizon clearance (take k steps)) ++ spans_in_conflict sets s (hold_of horizon clearance (get_or steps k d) ∷ [])
in_conflict-more horizon clearance sets s steps k d low =
    ap (λ (holds : List Hold). spans_in_conflict sets s holds) (map_more (hold_of horizon clearance) steps k d low)
    ∙ in_conflict-append sets s (holds_of horizon clearance (take k steps)) (hold_of horizon clearance (get_or steps k d) ∷ [])

-- ---- a hold is moved to the front

module _ (sets : List (List Segment)) (s : Segment) (xs : List Hold) (h : Hold) (ys : List Hold) where
  blocked-moved : (t : ℕ) → list_any (blocks sets s t) (xs ++ h ∷ ys) ≡ list_any (blocks sets s t) (h ∷ (xs ++ ys))
  blocked-moved t =
      list_any-append (blocks sets s t) xs (h ∷ ys)
      ∙ or_moved (list_any (blocks sets s t) xs) (blocks sets s t h) (list_any (blocks sets s t) ys)
      ∙ ap (λ b. blocks sets s t h || b) (sym (list_any-append (blocks sets s t) xs ys))
    where
      or_moved : (a b c : Bool) → (a || (b || c)) ≡ (b || (a || c))
      or_moved true true c = refl
      or_moved true false c = refl
      or_moved false b c = refl

  pub conflicting-moved : conflicting sets s (xs ++ h ∷ ys) ≡ conflicting sets s (h ∷ (xs ++ ys))
  conflicting-moved = elim (cases_Bool (conflict sets s h.segment)) [
    | inl met ↦ omega (arith, conflicting-append sets s xs (h ∷ ys), conflicting-yes sets s h ys met, conflicting-yes sets s h (xs ++ ys) met, conflicting-append sets s xs ys)
    | inr apart ↦ omega (arith, conflicting-append sets s xs (h ∷ ys), conflicting-no sets s h ys apart, conflicting-no sets s h (xs ++ ys) apart, conflicting-append sets s xs ys)
  ]

  module _ (horizon : ℕ) (l : Listed) where
    pub list-moved_back : ListStandsFor sets horizon (h ∷ (xs ++ ys)) s l → ListStandsFor sets horizon (xs ++ h ∷ ys) s l
    list-moved_back = list-same sets horizon (h ∷ (xs ++ ys)) (xs ++ h ∷ ys) s l (λ t. sym (blocked-moved t)) (sym conflicting-moved)

    -- one that is not in conflict counts for nothing
    pub list-without : IsFalse (conflict sets s h.segment) → ListStandsFor sets horizon (xs ++ h ∷ ys) s l → ListStandsFor sets horizon (xs ++ ys) s l
    list-without apart = list-same sets horizon (xs ++ h ∷ ys) (xs ++ ys) s l
        (λ t. blocked-moved t ∙ ap (λ b. (b && span_has h.span t) || list_any (blocks sets s t) (xs ++ ys)) apart)
        (conflicting-moved ∙ conflicting-no sets s h (xs ++ ys) apart)

    pub list-with : IsFalse (conflict sets s h.segment) → ListStandsFor sets horizon (xs ++ ys) s l → ListStandsFor sets horizon (xs ++ h ∷ ys) s l
    list-with apart = list-same sets horizon (xs ++ ys) (xs ++ h ∷ ys) s l
        (λ t. sym (blocked-moved t ∙ ap (λ b. (b && span_has h.span t) || list_any (blocks sets s t) (xs ++ ys)) apart))
        (sym (conflicting-moved ∙ conflicting-no sets s h (xs ++ ys) apart))

-- ---- how many steps are in conflict

-- those whose holds are
pub conflicting-steps : (horizon clearance : ℕ) (sets : List (List Segment)) (s : Segment) (steps : List Step) → conflicting sets s (holds_of horizon clearance steps) ≡ conflicting_steps sets s steps
conflicting-steps horizon clearance sets s [] = refl
conflicting-steps horizon clearance sets s (step ∷ steps) =
    sum_by-cons (λ (h : Hold). cond (conflict sets s h.segment) 1 0) (hold_of horizon clearance step) (holds_of horizon clearance steps)
    ∙ ap (λ n. cond (conflict sets s (segment_of step.arc)) 1 0 + n) (conflicting-steps horizon clearance sets s steps)
    ∙ sym (sum_by-cons (λ (t : Step). cond (conflict sets s (segment_of t.arc)) 1 0) step steps)

pub conflicting-part : (sets : List (List Segment)) (s : Segment) (steps : List Step) (k : ℕ) (d : Step) → k < length steps → IsTrue (conflict sets s (segment_of (get_or steps k d).arc))
    → 1 + conflicting_steps sets s (take k steps) ≤ conflicting_steps sets s steps
conflicting-part sets s steps k d low met =
    let f : Step → ℕ = λ (t : Step). cond (conflict sets s (segment_of t.arc)) 1 0 in
    let here : f (get_or steps k d) ≡ 1 = rw met refl in
    omega (arith, sum_by_more f steps k d low, sum_by-take-le f steps (k + 1), here)

pub conflicting-le : (sets : List (List Segment)) (s : Segment) (steps : List Step) → conflicting_steps sets s steps ≤ length steps
conflicting-le sets s steps = count_by-le-length (λ (t : Step). conflict sets s (segment_of t.arc)) steps
