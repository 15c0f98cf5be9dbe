-- What is asked has one answer, and what answers a departure gives the answer where only walks after a second count.
use Rattle.std.proofs.Common.{◌≡◌, ℕ, ◌<◌, ◌≤◌, Bool, List, IsTrue, Some, None, sym, ap, subst, arith, inl, inr}
use Rattle.std.specs.Prelude.{Contains, filter, nat_lt}
use Rattle.std.proofs.lemmas.Bool.{cases_lt, lt-ltb, le-ltb}
use Rattle.std.proofs.lemmas.Bool.Decides.{nat_tests}
use Rattle.std.proofs.lemmas.List.Elements.{All-weaker, All-contains, All-contains_itself}
use Rattle.std.proofs.lemmas.List.Kept.{AllPairs-filter}
use Rattle.taxi_base.specs.declared.numbers.Node.{Node}
use Rattle.taxi_base.specs.declared.rows.Step.{Step}
use Rattle.taxi_base.specs.declared.rows.LabelRow.{LabelRow}
use Rattle.taxi_base.specs.declared.answers.Found.{Found}
use Rattle.taxi_base.specs.declared.answers.Found.TheVariants.{Route, NoRoute}
use Rattle.taxi_base.specs.Airport.{IsWellFormed, layout_of}
use Rattle.taxi_base.specs.Walks.{Conditions, IsBounded, LeavesNodeWithin, begin_of, end_of}
use Rattle.taxi_base.specs.Labels.{precedes, IsTable, IsEntryLabel, IsExitBefore, IsEntryAfter, AnswersArrival, AnswersDeparture, labels_after, AnswersDepartureAfter, found_after}
use Rattle.taxi_base.proofs.ListLaws.{Contains-filter, filter-Contains}
use Rattle.taxi_base.proofs.AirportLaws.{seconds-range}
use Rattle.taxi_base.proofs.LabelLaws.{HasOneFirstStep, HasOneFirstStep-leaves, IsPickedArrival-same, IsPickedDeparture-same, IsTable-same}

-- ---- one answer

-- in an airport that keeps the rules a label has one first step that leaves a node
pub HasOneFirstStep-well : (c : Conditions) (node : Node) (earliest latest : ℕ) → IsWellFormed c.airport → IsBounded c
    → HasOneFirstStep c (LeavesNodeWithin (layout_of c.airport) node earliest latest)
HasOneFirstStep-well c node earliest latest well bounded =
    HasOneFirstStep-leaves c (layout_of c.airport) node earliest latest bounded (λ s k e. (seconds-range c.airport c.class s k well e).0)

pub AnswersArrival-same : (c : Conditions) (Begins : Step → Type 0) (to : Node) → HasOneFirstStep c Begins → (found others : Found)
    → AnswersArrival c Begins to found → AnswersArrival c Begins to others → found ≡ others
AnswersArrival-same c Begins to one (Route steps labels) (Route others rows) a b =
    let same : steps ≡ others = IsPickedArrival-same c Begins to one steps others a.1 b.1 in
    let tables : labels ≡ rows =
    IsTable-same (IsExitBefore c Begins (Some (end_of steps))) labels rows a.2 (subst (λ s. IsTable (IsExitBefore c Begins (Some (end_of s))) rows) (sym same) b.2) in
    λ i. Route (same i) (tables i)
AnswersArrival-same c Begins to one (Route steps labels) (NoRoute rows) a b = absurd (b.0 steps a.0.one)
AnswersArrival-same c Begins to one (NoRoute labels) (Route others rows) a b = absurd (a.0 others b.0.one)
AnswersArrival-same c Begins to one (NoRoute labels) (NoRoute rows) a b = ap NoRoute (IsTable-same (IsExitBefore c Begins None) labels rows a.1 b.1)

pub AnswersDeparture-same : (c : Conditions) (from : Node) (Ends : Step → Type 0) (found others : Found)
    → AnswersDeparture c from Ends found → AnswersDeparture c from Ends others → found ≡ others
AnswersDeparture-same c from Ends (Route steps labels) (Route others rows) a b =
    let same : steps ≡ others = IsPickedDeparture-same c Ends from steps others a.1 b.1 in
    let tables : labels ≡ rows =
    IsTable-same (IsEntryAfter c Ends (Some (begin_of steps))) labels rows a.2 (subst (λ s. IsTable (IsEntryAfter c Ends (Some (begin_of s))) rows) (sym same) b.2) in
    λ i. Route (same i) (tables i)
AnswersDeparture-same c from Ends (Route steps labels) (NoRoute rows) a b = absurd (b.0 steps a.0.one)
AnswersDeparture-same c from Ends (NoRoute labels) (Route others rows) a b = absurd (a.0 others b.0.one)
AnswersDeparture-same c from Ends (NoRoute labels) (NoRoute rows) a b = ap NoRoute (IsTable-same (IsEntryAfter c Ends None) labels rows a.1 b.1)

pub AnswersDepartureAfter-same : (c : Conditions) (from : Node) (Ends : Step → Type 0) (bound : ℕ) (found others : Found)
    → AnswersDepartureAfter c from Ends bound found → AnswersDepartureAfter c from Ends bound others → found ≡ others
AnswersDepartureAfter-same c from Ends bound (Route steps labels) (Route others rows) a b = AnswersDeparture-same c from Ends (Route steps labels) (Route others rows) a.1 b.1
AnswersDepartureAfter-same c from Ends bound (Route steps labels) (NoRoute rows) a b = absurd (omega (arith, a.0, b.0 steps a.1.0.one))
AnswersDepartureAfter-same c from Ends bound (NoRoute labels) (Route others rows) a b = absurd (omega (arith, b.0, a.0 others b.1.0.one))
AnswersDepartureAfter-same c from Ends bound (NoRoute labels) (NoRoute rows) a b = ap NoRoute (IsTable-same (IsEntryAfter c Ends (Some bound)) labels rows a.1 b.1)

-- ---- where only walks that begin after a second count

ltb-lt : (a b : ℕ) → IsTrue (nat_lt a b) → a < b
ltb-lt a b h = grind (arith, nat_tests)

-- the rows of a table that pass a test are the table of the labels that pass it
IsTable-filter : (IsOne Passes : LabelRow → Type 0) (p : LabelRow → Bool) → ((l : LabelRow) → IsOne l → IsTrue (p l) → Passes l)
    → ((l : LabelRow) → Passes l → IsOne l × IsTrue (p l)) → (rows : List LabelRow) → IsTable IsOne rows → IsTable Passes (filter p rows)
IsTable-filter IsOne Passes p into back rows table = record {
  ordered = AllPairs-filter (λ k l. IsTrue (precedes k l)) p rows table.ordered;
  each = All-weaker (Contains (filter p rows)) Passes
      (λ l h. let kept = filter-Contains p rows l h in into l (All-contains IsOne rows l table.each kept.0) kept.1)
      (filter p rows) (All-contains_itself (filter p rows));
  whole = λ l h. let parts = back l h in Contains-filter p rows l (table.whole l parts.0) parts.1;
}

labels_after-table : (c : Conditions) (Ends : Step → Type 0) (bound : ℕ) (rows : List LabelRow)
    → IsTable (IsEntryAfter c Ends None) rows → IsTable (IsEntryAfter c Ends (Some bound)) (labels_after bound rows)
labels_after-table c Ends bound rows table =
    IsTable-filter (IsEntryLabel c Ends) (IsEntryAfter c Ends (Some bound)) (λ l. nat_lt bound l.value) (λ l one passes. (one, ltb-lt bound l.value passes))
    (λ l h. (h.0, lt-ltb bound l.value h.1)) rows table

labels_after-shorter : (c : Conditions) (Ends : Step → Type 0) (limit bound : ℕ) (rows : List LabelRow) → limit ≤ bound
    → IsTable (IsEntryAfter c Ends (Some limit)) rows → IsTable (IsEntryAfter c Ends (Some bound)) (labels_after bound rows)
labels_after-shorter c Ends limit bound rows by table =
    IsTable-filter (IsEntryAfter c Ends (Some limit)) (IsEntryAfter c Ends (Some bound)) (λ l. nat_lt bound l.value)
    (λ l one passes. (one.0, ltb-lt bound l.value passes)) (λ l h. ((h.0, omega (arith, h.1)), lt-ltb bound l.value h.1)) rows table

-- What answers a departure, cut to the walks after a second, answers it after the second.
pub found_after-answers : (c : Conditions) (from : Node) (Ends : Step → Type 0) (bound : ℕ) (found : Found)
    → AnswersDeparture c from Ends found → AnswersDepartureAfter c from Ends bound (found_after bound found)
found_after-answers c from Ends bound (Route steps labels) answers =
    elim (cases_lt bound (begin_of steps)) [
      | inl after ↦ rw (lt-ltb bound (begin_of steps) after) (after, answers)
      | inr by ↦ rw (le-ltb bound (begin_of steps) by)
          ((λ others route. omega (arith, by, answers.0.latest others route)), labels_after-shorter c Ends (begin_of steps) bound labels by answers.2)
    ]
found_after-answers c from Ends bound (NoRoute labels) answers = ((λ steps route. absurd (answers.0 steps route)), labels_after-table c Ends bound labels answers.1)
