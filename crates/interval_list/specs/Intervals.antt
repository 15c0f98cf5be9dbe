-- A list of windows with its spare ids, and what taking seconds out and giving them back make of it.
use Rattle.std.specs.Prelude.{◌≡◌, ℕ, zero, suc, ◌+◌, ◌<◌, ◌≤◌, max, min, nat_lt, ◌==◌, if◌then◌else◌, List, [], ◌∷◌, ◌++◌, map, Contains, ◌⊎◌}
use Rattle.taxi_base.specs.declared.rows.Span.{Span}
use Rattle.taxi_base.specs.Windows.{AreApart}
use Rattle.interval_list.specs.declared.window.Window.{Window}

-- the windows in order, and the ids of the spare nodes
pub record Intervals : Type 0 where
  pub windows : List Window
  pub spare : List ℕ

abbrev pub span : ℕ → ℕ → Span
span from until = record { from = from; until = until }

abbrev pub span_of : Window → Span
span_of w = span w.from w.until

abbrev pub spans_of : List Window → List Span
spans_of = map span_of

-- ---- ids

abbrev pub ids_of : List Window → List ℕ
ids_of = map (λ w. w.id)

-- the ids that a list owns: those of its windows and those of its spare nodes
abbrev pub owned : Intervals → List ℕ
owned l = ids_of l.windows ++ l.spare

-- how often an id stands in a list
abbrev pub times : ℕ → List ℕ → ℕ
times id [] = 0
times id (x ∷ xs) = (if x == id then 1 else 0) + times id xs

-- no id is owned twice
abbrev pub OwnsOnce : Intervals → Type 0
OwnsOnce l = (id : ℕ) → times id (owned l) ≤ 1

-- each id is owned as before
abbrev pub OwnsSame : Intervals → Intervals → Type 0
OwnsSame old new = (id : ℕ) → times id (owned new) ≡ times id (owned old)

-- the numbers from `from` on, `count` of them, the last first
abbrev pub drawn : ℕ → ℕ → List ℕ
drawn from zero = []
drawn from (suc count) = (from + count) ∷ drawn from count

-- windows in order, none empty, no two touching, and no id owned twice
pub record IsNormal (l : Intervals) : Type 0 where
  pub apart : AreApart 0 (spans_of l.windows)
  pub once : OwnsOnce l

-- ---- seconds

-- what of a span lies before s
abbrev pub before : Span → Span → List Span
before s w = if nat_lt w.from s.from then span w.from (min w.until s.from) ∷ [] else []

-- what of a span lies behind s
abbrev pub behind : Span → Span → List Span
behind s w = if nat_lt s.until w.until then span (max w.from s.until) w.until ∷ [] else []

-- the spans without s
abbrev pub without_span : Span → List Span → List Span
without_span s [] = []
without_span s (w ∷ ws) = before s w ++ (behind s w ++ without_span s ws)

-- the least span that has both
abbrev pub hull : Span → Span → Span
hull s w = span (min s.from w.from) (max s.until w.until)

-- the spans with s, joined to those that it meets or touches
abbrev pub with_span : Span → List Span → List Span
with_span s [] = s ∷ []
with_span s (w ∷ ws) = if nat_lt s.until w.from then s ∷ w ∷ ws else (if nat_lt w.until s.from then w ∷ with_span s ws else with_span (hull s w) ws)

-- each window that doesn't meet s stands there still, with its id
abbrev pub KeepsUnmet : Span → List Window → List Window → Type 0
KeepsUnmet s old new = (w : Window) → Contains old w → (w.until ≤ s.from) ⊎ (s.until ≤ w.from) → Contains new w

-- each window that neither meets nor touches s stands there still, with its id
abbrev pub KeepsUntouched : Span → List Window → List Window → Type 0
KeepsUntouched s old new = (w : Window) → Contains old w → (w.until < s.from) ⊎ (s.until < w.from) → Contains new w
