-- When a segment is held first, and up to when, as one span more is looked at.
use Rattle.std.proofs.Common.{◌≡◌, ℕ, ◌+◌, ◌<◌, ◌≤◌, max, false, ◌||◌, List, [], ◌∷◌, ◌++◌, length, get_or, take, inl, inr, IsTrue, IsFalse, refl, sym, ◌∙◌, subst, arith}
use Rattle.std.proofs.lemmas.Bool.{cases_lt, cases_Bool, both_ways, or_cases, or_left, or_right, or_from, false_from_ne_true, true≢false}
use Rattle.std.proofs.lemmas.List.Folds.{list_any-append}
use Rattle.taxi_base.specs.declared.rows.Span.{Span}
use Rattle.taxi_base.specs.declared.rows.Step.{Step}
use Rattle.taxi_base.specs.declared.numbers.Segment.{Segment}
use Rattle.taxi_base.specs.Airport.{conflict}
use Rattle.taxi_base.specs.Windows.{Hold, hold_of, holds_of, span_has, covers}
use Rattle.taxi_base.proofs.WindowLaws.{span_has-from, span_has-true}
use Rattle.window_store.specs.Held.{IsFirstHeld, IsHeldUntil}
use Rattle.window_store.specs.Conflicting.{spans_in_conflict, ReachesUpTo}
use Rattle.window_store.proofs.Standing.{in_conflict, not_in_conflict, in_conflict-append, in_conflict-more}

pub covers-append : (xs ys : List Span) (t : ℕ) → covers (xs ++ ys) t ≡ (covers xs t || covers ys t)
covers-append xs ys t = list_any-append (λ w. span_has w t) xs ys

-- ---- the first second

pub first-none : (from until : ℕ) → from ≤ until → IsFirstHeld [] from until until
first-none from until order = record { not_before = order; not_after = omega arith; none_before = λ t low high. refl; held = λ h. absurd (omega arith) }

-- among some spans, and then among others before that
pub first-append : (xs ys : List Span) (from until middle found : ℕ) → IsFirstHeld xs from until middle → IsFirstHeld ys from middle found → IsFirstHeld (xs ++ ys) from until found
first-append xs ys from until middle found first second = record {
  not_before = second.not_before;
  not_after = omega (arith, first.not_after, second.not_after);
  none_before = λ t low high.
      covers-append xs ys t ∙ or_from (covers xs t) (covers ys t) (first.none_before t low (omega (arith, second.not_after))) (second.none_before t low high);
  held = λ h.
      covers-append xs ys found
      ∙ elim (cases_lt found middle) [
        | inl before ↦ or_right (covers xs found) (covers ys found) (second.held before)
        | inr last ↦
            let same : middle ≡ found = omega (arith, second.not_after) in
            or_left (covers xs found) (covers ys found) (subst (λ t. IsTrue (covers xs t)) same (first.held (omega arith)))
      ];
}

-- in one span
pub first-in : (span : Span) (from until begin : ℕ) → begin ≡ max span.from from → begin < until → begin < span.until → IsFirstHeld (span ∷ []) from until begin
first-in span from until begin is below inside = record {
  not_before = omega arith;
  not_after = omega arith;
  none_before = λ t low high. false_from_ne_true _ (λ has. elim (or_cases (span_has span t) false has) [
    | inl here ↦ absurd (omega (arith, span_has-true span t here))
    | inr none ↦ absurd (true≢false (sym none))
  ]);
  held = λ _. or_left (span_has span begin) false (span_has-from span begin (omega arith) inside);
}

pub first-not_in : (span : Span) (from until begin : ℕ) → begin ≡ max span.from from → from ≤ until → (begin < until → span.until ≤ begin) → IsFirstHeld (span ∷ []) from until until
first-not_in span from until begin is order past = record {
  not_before = order;
  not_after = omega arith;
  none_before = λ t low high. false_from_ne_true _ (λ has. elim (or_cases (span_has span t) false has) [
    | inl here ↦ let in_span = span_has-true span t here in absurd (omega (arith, in_span, past))
    | inr none ↦ absurd (true≢false (sym none))
  ]);
  held = λ h. absurd (omega arith);
}

-- ---- up to when

pub reaches-none : (from : ℕ) → ReachesUpTo [] from from
reaches-none from = record { held = λ t low high. absurd (omega arith); later = λ h. absurd (true≢false (sym h)) }

pub reaches-append : (xs ys : List Span) (from a b until : ℕ) → ReachesUpTo xs from a → ReachesUpTo ys from b → until ≡ max a b → ReachesUpTo (xs ++ ys) from until
reaches-append xs ys from a b until first second is = record {
  held = λ t low high.
      covers-append xs ys t
      ∙ elim (cases_lt t a) [
        | inl left ↦ or_left (covers xs t) (covers ys t) (first.held t low left)
        | inr right ↦ or_right (covers xs t) (covers ys t) (second.held t low (omega arith))
      ];
  later = λ h.
      elim (or_cases (covers xs from) (covers ys from) (sym (covers-append xs ys from) ∙ h)) [
        | inl left ↦ omega (arith, first.later left)
        | inr right ↦ omega (arith, second.later right)
      ];
}

-- in one span
pub reaches-in : (span : Span) (from : ℕ) → span.from ≤ from → from < span.until → ReachesUpTo (span ∷ []) from span.until
reaches-in span from low high = record {
  held = λ t start end. or_left (span_has span t) false (span_has-from span t (omega arith) end);
  later = λ _. high;
}

pub reaches-not_in : (span : Span) (from : ℕ) → (span.from ≤ from → span.until ≤ from) → ReachesUpTo (span ∷ []) from from
reaches-not_in span from past = record {
  held = λ t low high. absurd (omega arith);
  later = λ h. elim (or_cases (span_has span from) false h) [
    | inl here ↦ let in_span = span_has-true span from here in absurd (omega (arith, in_span, past))
    | inr none ↦ absurd (true≢false (sym none))
  ];
}

pub held-until : (spans : List Span) (from until : ℕ) → IsTrue (covers spans from) → ReachesUpTo spans from until → IsHeldUntil spans from until
held-until spans from until here reaches = record { later = reaches.later here; held = reaches.held }

-- ---- in what steps hold

module _ (sets : List (List Segment)) (s : Segment) where
  pub first-step : (hold : Hold) (from until begin : ℕ) → begin ≡ max hold.span.from from → begin < until → begin < hold.span.until → IsTrue (conflict sets s hold.segment)
      → IsFirstHeld (spans_in_conflict sets s (hold ∷ [])) from until begin
  first-step hold from until begin is below inside met = rw (in_conflict sets s hold [] met) (first-in hold.span from until begin is below inside)

  pub first-step_not : (hold : Hold) (from until begin : ℕ) → begin ≡ max hold.span.from from → from ≤ until
      → (begin < until → begin < hold.span.until → IsFalse (conflict sets s hold.segment)) → IsFirstHeld (spans_in_conflict sets s (hold ∷ [])) from until until
  first-step_not hold from until begin is order none =
      elim (cases_Bool (conflict sets s hold.segment)) [
        | inl met ↦ rw (in_conflict sets s hold [] met) (first-not_in hold.span from until begin is order (λ below. elim (cases_lt begin hold.span.until) [
          | inl inside ↦ absurd (both_ways _ (none below inside) met)
          | inr past ↦ past
        ]))
        | inr apart ↦ rw (not_in_conflict sets s hold [] apart) (first-none from until order)
      ]

  pub first-more : (horizon clearance : ℕ) (steps : List Step) (k : ℕ) (d : Step) (from until first found : ℕ) → k < length steps → IsFirstHeld (spans_in_conflict sets s (holds_of horizon clearance (take k steps))) from until first
      → IsFirstHeld (spans_in_conflict sets s (hold_of horizon clearance (get_or steps k d) ∷ [])) from first found → IsFirstHeld (spans_in_conflict sets s (holds_of horizon clearance (take (k + 1) steps))) from until found
  first-more horizon clearance steps k d from until first found low before here =
      rw (in_conflict-more horizon clearance sets s steps k d low)
      (first-append (spans_in_conflict sets s (holds_of horizon clearance (take k steps))) (spans_in_conflict sets s (hold_of horizon clearance (get_or steps k d) ∷ [])) from until first found before here)

  pub reaches-step : (hold : Hold) (from : ℕ) → hold.span.from ≤ from → from < hold.span.until → IsTrue (conflict sets s hold.segment) → ReachesUpTo (spans_in_conflict sets s (hold ∷ [])) from hold.span.until
  reaches-step hold from low high met = rw (in_conflict sets s hold [] met) (reaches-in hold.span from low high)

  pub reaches-step_not : (hold : Hold) (from : ℕ) → (hold.span.from ≤ from → from < hold.span.until → IsFalse (conflict sets s hold.segment)) → ReachesUpTo (spans_in_conflict sets s (hold ∷ [])) from from
  reaches-step_not hold from none =
      elim (cases_Bool (conflict sets s hold.segment)) [
        | inl met ↦ rw (in_conflict sets s hold [] met) (reaches-not_in hold.span from (λ low. elim (cases_lt from hold.span.until) [
          | inl inside ↦ absurd (both_ways _ (none low inside) met)
          | inr past ↦ past
        ]))
        | inr apart ↦ rw (not_in_conflict sets s hold [] apart) (reaches-none from)
      ]

  pub reaches-more : (horizon clearance : ℕ) (steps : List Step) (k : ℕ) (d : Step) (from a b until : ℕ) → k < length steps → ReachesUpTo (spans_in_conflict sets s (holds_of horizon clearance (take k steps))) from a
      → ReachesUpTo (spans_in_conflict sets s (hold_of horizon clearance (get_or steps k d) ∷ [])) from b → until ≡ max a b → ReachesUpTo (spans_in_conflict sets s (holds_of horizon clearance (take (k + 1) steps))) from until
  reaches-more horizon clearance steps k d from a b until low before here is =
      rw (in_conflict-more horizon clearance sets s steps k d low)
      (reaches-append (spans_in_conflict sets s (holds_of horizon clearance (take k steps))) (spans_in_conflict sets s (hold_of horizon clearance (get_or steps k d) ∷ [])) from a b until before here is)

  pub first-both : (holds others : List Hold) (from until first found : ℕ) → IsFirstHeld (spans_in_conflict sets s holds) from until first
      → IsFirstHeld (spans_in_conflict sets s others) from first found → IsFirstHeld (spans_in_conflict sets s (holds ++ others)) from until found
  first-both holds others from until first found before here =
      rw (in_conflict-append sets s holds others) (first-append (spans_in_conflict sets s holds) (spans_in_conflict sets s others) from until first found before here)

  pub reaches-both : (holds others : List Hold) (from a b until : ℕ) → ReachesUpTo (spans_in_conflict sets s holds) from a → ReachesUpTo (spans_in_conflict sets s others) from b → until ≡ max a b
      → ReachesUpTo (spans_in_conflict sets s (holds ++ others)) from until
  reaches-both holds others from a b until before here most =
      rw (in_conflict-append sets s holds others) (reaches-append (spans_in_conflict sets s holds) (spans_in_conflict sets s others) from a b until before here most)
