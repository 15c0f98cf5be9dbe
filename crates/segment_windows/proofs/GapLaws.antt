-- The spans between busy ones are the windows of the seconds that are not busy.
use Rattle.std.proofs.Common.{◌≡◌, ℕ, ◌+◌, ◌<◌, ◌≤◌, Bool, true, false, ◌&&◌, ◌||◌, ◌==◌, zero, suc, not, subst, get_or, take, List, [], ◌∷◌, ◌++◌, length, All, IsPermutation, max, min, inl, inr, IsTrue, IsFalse, refl, sym, ◌∙◌, ap, arith}
use Rattle.std.specs.Prelude.{⊤, filter, nat_lt, nat_le}
use Rattle.std.specs.List.{list_any}
use Rattle.std.specs.List.Sorted.{IsNonDecreasingBy}
use Rattle.std.proofs.lemmas.Bool.{cases_lt, cond_both, ltb-true, ltb-false, le-leb, eq-eqb, eqb-true, and_parts, and_from}
use Rattle.std.proofs.lemmas.Bool.Decides.{nat_tests}
use Rattle.std.proofs.lemmas.List.Elements.{All-append}
use Rattle.std.proofs.lemmas.List.Folds.{list_any-append, list_any_more}
use Rattle.std.proofs.lemmas.List.Sorted.{list_any-IsPermutation, All-permutation}
use Rattle.taxi_base.proofs.InOrder.{same_answer}
use Rattle.taxi_base.specs.declared.numbers.Segment.{Segment}
use Rattle.taxi_base.specs.declared.rows.Span.{Span}
use Rattle.taxi_base.specs.Airport.{conflict}
use Rattle.taxi_base.specs.Windows.{Hold, span_has, covers, blocks, is_free, AreApart, AreWindows}
use Rattle.taxi_base.proofs.WindowLaws.{span_has-before}
use Rattle.taxi_base.proofs.ListLaws.{list_any-true, list_any-member}
use Rattle.taxi_base.proofs.WindowsMade.{AreApart-lower}
use Rattle.conflict_sets.specs.Conflicts.{AreConflicts}
use Rattle.held_spans.specs.Holds.{held_at}
use Rattle.segment_windows.specs.Gaps.{is_some_time, gap, gaps}

-- ---- busy spans in order

-- none is empty, and none begins before the one before it
abbrev pub AreRising : ℕ → List Span → Type 0
AreRising low [] = ⊤
AreRising low (s ∷ busy) = (low ≤ s.from) × (s.from < s.until) × AreRising s.from busy

abbrev SomeTime : Span → Type 0
SomeTime s = s.from < s.until

pub AreRising-from : (low : ℕ) (busy : List Span) → All SomeTime busy → IsNonDecreasingBy (λ s. s.from) busy → All (λ s. low ≤ s.from) busy → AreRising low busy
AreRising-from low [] some up first = tt
AreRising-from low (s ∷ busy) some up first = (
  first 0 s (omega arith),
  some 0 s (omega arith),
  AreRising-from s.from busy (λ k d on. some (suc k) d (omega arith)) (λ i j d le on. up (suc i) (suc j) d (omega arith) (omega arith)) (λ k d on. up 0 (suc k) d (omega arith) (omega arith)),
)

-- what comes later covers nothing before
rising-before : (low t : ℕ) (busy : List Span) → AreRising low busy → t < low → IsFalse (covers busy t)
rising-before low t [] rising before = refl
rising-before low t (s ∷ busy) rising before =
    rw (span_has-before s t (omega arith)) (rising-before s.from t busy rising.2 (omega arith))

-- ---- the gaps lie apart

gap-apart : (from until next : ℕ) (ws : List Span) → from ≤ next → until + 1 ≤ next → AreApart next ws → AreApart from (gap from until ++ ws)
gap-apart from until next ws low high apart =
    cond_both (nat_lt from until) (record { from = from; until = until } ∷ []) [] (λ g. AreApart from (g ++ ws))
    (λ some. (omega arith, ltb-true from until some, AreApart-lower (until + 1) next ws high apart))
    (λ none. AreApart-lower from next ws low apart)

last-apart : (from until : ℕ) → AreApart from (gap from until)
last-apart from until =
    cond_both (nat_lt from until) (record { from = from; until = until } ∷ []) [] (AreApart from)
    (λ some. (omega arith, ltb-true from until some, tt)) (λ none. tt)

gaps-apart : (low from horizon : ℕ) (busy : List Span) → AreRising low busy → AreApart from (gaps from horizon busy)
gaps-apart low from horizon [] rising = last-apart from horizon
gaps-apart low from horizon (s ∷ busy) rising =
    gap-apart from (min s.from horizon) (max from s.until) (gaps (max from s.until) horizon busy) (omega arith) (omega arith) (gaps-apart s.from (max from s.until) horizon busy rising.2)

-- ---- they have just the seconds that are not busy

pub gap-covers : (from until t : ℕ) → covers (gap from until) t ≡ (nat_le from t && nat_lt t until)
gap-covers from until t =
    cond_both (nat_lt from until) (record { from = from; until = until } ∷ []) [] (λ g. covers g t ≡ (nat_le from t && nat_lt t until))
    (λ some. grind (arith, nat_tests)) (λ none. let over : until ≤ from = ltb-false from until none in grind (arith, nat_tests))

at_begin : (from horizon t a b : ℕ) (later : Bool) → a < b → t < a → later ≡ false → ((nat_le from t && nat_lt t (min a horizon)) || (nat_le (max from b) t && (nat_lt t horizon && not later))) ≡ (nat_le from t && (nat_lt t horizon && not ((nat_le a t && nat_lt t b) || later)))
at_begin from horizon t a b later some before none = grind (arith, nat_tests)

from_begin : (from horizon t a b : ℕ) (later : Bool) → a ≤ t → ((nat_le from t && nat_lt t (min a horizon)) || (nat_le (max from b) t && (nat_lt t horizon && not later))) ≡ (nat_le from t && (nat_lt t horizon && not ((nat_le a t && nat_lt t b) || later)))
from_begin from horizon t a b later before = grind (arith, nat_tests)

gaps-covers : (low from horizon t : ℕ) (busy : List Span) → AreRising low busy → covers (gaps from horizon busy) t ≡ (nat_le from t && (nat_lt t horizon && not (covers busy t)))
gaps-covers low from horizon t [] rising = gap-covers from horizon t ∙ ap (λ b. nat_le from t && b) (with_true (nat_lt t horizon)) where
  with_true : (b : Bool) → b ≡ (b && true)
  with_true true = refl
  with_true false = refl
gaps-covers low from horizon t (s ∷ busy) rising =
    list_any-append (λ w. span_has w t) (gap from (min s.from horizon)) (gaps (max from s.until) horizon busy)
    ∙ rw (gap-covers from (min s.from horizon) t, gaps-covers s.from (max from s.until) horizon t busy rising.2) (elim (cases_lt t s.from) [
      | inl before ↦ at_begin from horizon t s.from s.until (covers busy t) rising.1 before (rising-before s.from t busy rising.2 before)
      | inr after ↦ from_begin from horizon t s.from s.until (covers busy t) after
    ])

-- ---- the busy spans are those of the holds that conflict

pub covers-some : (spans : List Span) (t : ℕ) → covers (filter is_some_time spans) t ≡ covers spans t
covers-some [] t = refl
covers-some (s ∷ spans) t =
    cond_both (is_some_time s) (s ∷ filter is_some_time spans) (filter is_some_time spans) (λ kept. covers kept t ≡ covers (s ∷ spans) t)
    (λ some. ap (λ b. span_has s t || b) (covers-some spans t))
    (λ none. let over : s.until ≤ s.from = ltb-false s.from s.until none in rw (empty s over) (covers-some spans t))
  where
    empty : (s : Span) → s.until ≤ s.from → span_has s t ≡ false
    empty s over = grind (arith, nat_tests)

All-first : (s : Span) (spans : List Span) → SomeTime s → All SomeTime spans → All SomeTime (s ∷ spans)
All-first s spans here rest zero d on = here
All-first s spans here rest (suc k) d on = rest k d (omega arith)

pub some-All : (spans : List Span) → All SomeTime (filter is_some_time spans)
some-All [] = λ k d on. absurd (omega arith)
some-All (s ∷ spans) =
    cond_both (is_some_time s) (s ∷ filter is_some_time spans) (filter is_some_time spans) (All SomeTime)
    (λ some. All-first s (filter is_some_time spans) (ltb-true s.from s.until some) (some-All spans)) (λ none. some-All spans)

-- one more segment's spans
pub busy-more : (holds : List Hold) (segments : List Segment) (i : ℕ) (busy spans new : List Span) (d : Segment) → i < length segments → new ≡ busy ++ filter is_some_time spans
    → All SomeTime busy → ((t : ℕ) → covers busy t ≡ list_any (λ s. held_at holds s t) (take i segments)) → ((t : ℕ) → covers spans t ≡ held_at holds (get_or segments i d) t)
    → All SomeTime new × ((t : ℕ) → covers new t ≡ list_any (λ s. held_at holds s t) (take (i + 1) segments))
busy-more holds segments i busy spans new d on is some same held = (
  rw is (All-append SomeTime busy (filter is_some_time spans) some (some-All spans)),
  λ t.
      rw (is, list_any-append (λ w. span_has w t) busy (filter is_some_time spans), same t, covers-some spans t, held t) (sym (list_any_more (λ s. held_at holds s t) segments i d on)),
)

pub held_in_all : (sets : List (List Segment)) (holds : List Hold) (s : Segment) (rows : List Segment) (t : ℕ) → AreConflicts sets s rows
    → list_any (λ r. held_at holds r t) rows ≡ list_any (blocks sets s t) holds
held_in_all sets holds s rows t all =
    same_answer (list_any (λ r. held_at holds r t) rows) (list_any (blocks sets s t) holds)
    (λ yes.
    let row = list_any-true (λ r. held_at holds r t) rows yes in
    let hold = list_any-true (λ h. h.segment.0 == row.0.0 && span_has h.span t) holds row.2 in
    let parts = and_parts _ _ hold.2 in
    let same : row.0 ≡ hold.0.segment = ap (λ n. record { 0 = n }) (sym (eqb-true _ _ parts.0)) in
    list_any-member (blocks sets s t) holds hold.0 hold.1 (and_from _ _ (subst (λ r. IsTrue (conflict sets s r)) same ((all.each row.0).0 row.1)) parts.1))
    (λ yes.
    let hold = list_any-true (blocks sets s t) holds yes in
    let parts = and_parts _ _ hold.2 in
    list_any-member (λ r. held_at holds r t) rows hold.0.segment ((all.each hold.0.segment).1 parts.0)
    (list_any-member (λ h. h.segment.0 == hold.0.segment.0 && span_has h.span t) holds hold.0 hold.1 (and_from _ _ (eq-eqb _ _ refl) parts.1)))

-- The gaps between the spans of all holds that conflict, sorted, are the windows.
pub gaps-are : (sets : List (List Segment)) (horizon : ℕ) (holds : List Hold) (s : Segment) (rows : List Segment) (busy sorted : List Span) → AreConflicts sets s rows
    → All SomeTime busy → ((t : ℕ) → covers busy t ≡ list_any (λ r. held_at holds r t) rows) → IsPermutation busy sorted → IsNonDecreasingBy (λ s. s.from) sorted
    → AreWindows (is_free sets horizon holds s) (gaps 0 horizon sorted)
gaps-are sets horizon holds s rows busy sorted all some same moved up =
    let rising : AreRising 0 sorted = AreRising-from 0 sorted (All-permutation SomeTime busy sorted moved some) up (λ k d on. omega arith) in
    record {
      apart = gaps-apart 0 0 horizon sorted rising;
      same = λ t. gaps-covers 0 0 horizon t sorted rising ∙ rw (le-leb 0 t (omega arith), sym (list_any-IsPermutation (λ w. span_has w t) busy sorted moved), same t, held_in_all sets holds s rows t all) refl;
    }
