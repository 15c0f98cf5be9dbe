-- A table that is closed under start entries and expansions has, for each walk that ends below the bound, a row
-- at least as good.
use Rattle.std.proofs.Common.{ℕ, ◌+◌, ◌≤◌, ◌<◌, max, List, [], ◌∷◌, Option, Some, None, refl, subst, ◌⊎◌, inl, inr, arith}
use Rattle.label_core.specs.Walks.{Network, Start, Step, IsStep, ComesAfter, IsChain, Begins, EndsAt, IsWalk, Reaches}
use Rattle.label_core.specs.Labels.{IsStartEntry, IsExpansion}
use Rattle.label_core.specs.Tables.{IsBelow, HasAsGood, IsClosed}

-- what is below the bound stays so when it gets less
pub IsBelow-less : (bound : Option ℕ) (t u : ℕ) → u ≤ t → IsBelow bound t → IsBelow bound u
IsBelow-less None t u le below = tt
IsBelow-less (Some b) t u le below = omega arith

module _ {C : Type 0} (net : Network C) where
  -- no step is left after the chain's end
  pub leave_before_end : (s : Step C) (rest : List (Step C)) (c : C) (t : ℕ) → IsChain net (s ∷ rest) → EndsAt (s ∷ rest) c t → s.leave ≤ t
  leave_before_end s [] c t chain ends = omega (arith, ends.1)
  leave_before_end s (u ∷ rest) c t chain ends =
      omega (arith, leave_before_end u rest c t chain.2 ends, chain.1.at_once, chain.2.0.long_enough)

  -- what a step that begins is, at its cell
  pub start_entry_of : (starts : C → Option Start) (s : Step C) → Begins starts s → IsStep net s → (t : ℕ) × IsStartEntry net starts s.cell t × (t ≤ s.leave)
  start_entry_of starts s begins step = (
    max begins.start.exit_from (max begins.start.earliest (net.from s.cell) + net.seconds s.cell),
    record {
      start = begins.start;
      here = begins.here;
      value = refl;
      not_late = omega (arith, begins.met.not_late, begins.met.not_early, step.not_before);
      in_time = omega (arith, begins.met.stays, begins.met.not_early, step.not_before, step.long_enough, step.in_time);
    },
    omega (arith, begins.met.stays, begins.met.not_early, step.not_before, step.long_enough),
  )

  -- a step after one whose cell can be left at v in time is not left before the expansion of v
  pub expansion_of : (s u : Step C) (v : ℕ) → IsStep net s → ComesAfter net s u → IsStep net u → v ≤ s.leave → (t : ℕ) × IsExpansion net s.cell v u.cell t × (t ≤ u.leave)
  expansion_of s u v step after next le = (
    max v (net.from u.cell) + net.seconds u.cell,
    record {
      by_turn = after.by_turn;
      value = refl;
      still_held = omega (arith, after.at_once, step.in_time, next.not_before);
      in_time = omega (arith, after.at_once, next.not_before, next.long_enough, next.in_time);
    },
    omega (arith, after.at_once, next.not_before, next.long_enough),
  )

-- how cell c can be reached by t: by a start entry, or by an expansion of a row
pub record IsReason {C : Type 0} (net : Network C) (Row : C → ℕ → Type 0) (c : C) (t : ℕ) : Type 0 where
  pub before : C
  pub value : ℕ
  pub row : Row before value
  pub result : ℕ
  pub expansion : IsExpansion net before value c result
  pub in_time : result ≤ t

module _ {C : Type 0} (net : Network C) (starts : C → Option Start) (bound : Option ℕ) (Row : C → ℕ → Type 0) (closed : IsClosed net starts bound Row) where
  -- the last step of a chain after a row's cell is not left before an expansion of a row
  pub reason_along : (s u : Step C) (rest : List (Step C)) (v : ℕ) (c : C) (t : ℕ)
      → Row s.cell v → v ≤ s.leave → IsChain net (s ∷ u ∷ rest) → EndsAt (s ∷ u ∷ rest) c t
      → ((d : C) → 1 ≤ net.seconds d) → ((earlier : ℕ) → earlier < t → IsBelow bound earlier)
      → IsReason net Row c t
  reason_along s u [] v c t row le chain ends takes below =
      let e = expansion_of net s u v chain.0 chain.1 chain.2.0 le in
      subst (λ d. IsReason net Row d t) ends.0
      (record { before = s.cell; value = v; row = row; result = e.0; expansion = e.1; in_time = omega (arith, e.2, ends.1) })
  reason_along s u (w ∷ rest) v c t row le chain ends takes below =
      let e = expansion_of net s u v chain.0 chain.1 chain.2.0 le in
      let later = leave_before_end net w rest c t chain.2.2 ends in
      let sooner : e.0 < t = omega (arith, e.2, later, chain.2.1.at_once, chain.2.2.0.long_enough, takes w.cell) in
      let r = closed.expansions_in s.cell u.cell v e.0 row e.1 (below e.0 sooner) in
      reason_along u w rest r.0 c t r.1 (omega (arith, r.2, e.2)) chain.2 ends takes below

  -- a walk whose earlier seconds are below the bound ends no sooner than a start entry of its last cell, or than an
  -- expansion of a row to it
  pub reason_of : (c : C) (t : ℕ) → Reaches net starts c t
      → ((d : C) → 1 ≤ net.seconds d) → ((earlier : ℕ) → earlier < t → IsBelow bound earlier)
      → ((v : ℕ) × IsStartEntry net starts c v × (v ≤ t)) ⊎ IsReason net Row c t
  reason_of c t reach takes below = go reach.walk reach.is_walk reach.ends
    where
      go : (walk : List (Step C)) → IsWalk net starts walk → EndsAt walk c t → ((v : ℕ) × IsStartEntry net starts c v × (v ≤ t)) ⊎ IsReason net Row c t
      go [] is_walk ends = absurd is_walk
      go (s ∷ []) is_walk ends =
          let e = start_entry_of net starts s is_walk.0 is_walk.1.0 in
          inl (subst (λ d. (v : ℕ) × IsStartEntry net starts d v × (v ≤ t)) ends.0 (e.0, e.1, omega (arith, e.2, ends.1)))
      go (s ∷ u ∷ rest) is_walk ends =
          let e = start_entry_of net starts s is_walk.0 is_walk.1.0 in
          let later = leave_before_end net u rest c t is_walk.1.2 ends in
          let sooner : e.0 < t = omega (arith, e.2, later, is_walk.1.1.at_once, is_walk.1.2.0.long_enough, takes u.cell) in
          let r = closed.starts_in s.cell e.0 e.1 (below e.0 sooner) in
          inr (reason_along s u rest r.0 c t r.1 (omega (arith, r.2, e.2)) is_walk.1 ends takes below)

  -- Each walk that ends below the bound has a row at least as good at its last cell. The argument of a table goes along the walk.
  -- The first step can't be left before the start entry of its cell, and a closed table has a row as good as that entry.
  -- Say that a step has a row as good at its cell. The next step isn't left before the expansion of this row to its own cell,
  -- and a closed table has a row as good as that expansion too. So it goes on to the last step.
  -- A table leaves nothing out below its bound alone. Each step takes a second at least, so each value on the way is less than
  -- the end of the walk, and is below the bound as that end is.
  pub closed_covers : (c : C) (t : ℕ) → Reaches net starts c t → ((d : C) → 1 ≤ net.seconds d) → IsBelow bound t → HasAsGood Row c t
  closed_covers c t reach takes below = go (reason_of c t reach takes (λ earlier lt. IsBelow-less bound t earlier (omega arith) below))
    where
      go : ((v : ℕ) × IsStartEntry net starts c v × (v ≤ t)) ⊎ IsReason net Row c t → HasAsGood Row c t
      go (inl e) =
          let r = closed.starts_in c e.0 e.1 (IsBelow-less bound t e.0 e.2 below) in
          (r.0, r.1, omega (arith, r.2, e.2))
      go (inr e) =
          let r = closed.expansions_in e.before c e.value e.result e.row e.expansion (IsBelow-less bound t e.result e.in_time below) in
          (r.0, r.1, omega (arith, r.2, e.in_time))
