-- What is a walk over cells, and which is the earliest exit of a cell? A cell is a piece of the ground with a time
-- window in which it may be held, as an arc of a taxiway graph with one free window of its segment.
use Rattle.std.specs.Prelude.{◌≡◌, ℕ, ◌+◌, ◌≤◌, List, [], ◌∷◌, Bool, IsTrue, Option, Some}

-- each cell's window, the seconds that it takes to pass, and whether a walk may go from one cell to another
pub record Network (C : Type 0) : Type 0 where
  pub from : C → ℕ
  pub last : C → ℕ
  pub seconds : C → ℕ
  pub turn : C → C → Bool

-- how a walk may begin: when it may enter its first cell, and when it may leave that cell at the earliest
pub record Start : Type 0 where
  pub earliest : ℕ
  pub latest : ℕ
  pub exit_from : ℕ

-- a cell, when it is entered and when it is left
pub record Step (C : Type 0) : Type 0 where
  pub cell : C
  pub enter : ℕ
  pub leave : ℕ

-- the step lies in its cell's window, and takes the cell's seconds or longer
pub record IsStep {C : Type 0} (net : Network C) (s : Step C) : Type 0 where
  pub not_before : net.from s.cell ≤ s.enter
  pub long_enough : s.enter + net.seconds s.cell ≤ s.leave
  pub in_time : s.leave ≤ net.last s.cell

-- step u comes right after step s
pub record ComesAfter {C : Type 0} (net : Network C) (s u : Step C) : Type 0 where
  pub at_once : s.leave ≡ u.enter
  pub by_turn : IsTrue (net.turn s.cell u.cell)

-- the first of the steps, if there is one, comes right after step s
abbrev pub NextComesAfter : {C : Type 0} → Network C → Step C → List (Step C) → Type 0
NextComesAfter net s [] = Unit {0}
NextComesAfter net s (u ∷ rest) = ComesAfter net s u

-- each is a step, and each but the first comes right after the one before
abbrev pub IsChain : {C : Type 0} → Network C → List (Step C) → Type 0
IsChain net [] = Unit {0}
IsChain net (s ∷ rest) = IsStep net s × NextComesAfter net s rest × IsChain net rest

-- the step enters and leaves as the start says
pub record MeetsStart {C : Type 0} (start : Start) (s : Step C) : Type 0 where
  pub not_early : start.earliest ≤ s.enter
  pub not_late : s.enter ≤ start.latest
  pub stays : start.exit_from ≤ s.leave

-- there is a start at the step's cell, and the step meets it
pub record Begins {C : Type 0} (starts : C → Option Start) (s : Step C) : Type 0 where
  pub start : Start
  pub here : starts s.cell ≡ Some start
  pub met : MeetsStart start s

-- a walk that begins as the starts say: a chain of one step or more
abbrev pub IsWalk : {C : Type 0} → Network C → (C → Option Start) → List (Step C) → Type 0
IsWalk net starts [] = ⊥
IsWalk net starts (s ∷ rest) = Begins starts s × IsChain net (s ∷ rest)

-- the last step is by cell c, and leaves it at t
abbrev pub EndsAt : {C : Type 0} → List (Step C) → C → ℕ → Type 0
EndsAt [] c t = ⊥
EndsAt (s ∷ []) c t = (s.cell ≡ c) × (s.leave ≡ t)
EndsAt (s ∷ u ∷ rest) c t = EndsAt (u ∷ rest) c t

-- some walk ends by cell c at t
pub record Reaches {C : Type 0} (net : Network C) (starts : C → Option Start) (c : C) (t : ℕ) : Type 0 where
  pub walk : List (Step C)
  pub is_walk : IsWalk net starts walk
  pub ends : EndsAt walk c t

-- t is the least end of all walks whose last step is by cell c
pub record IsEarliestExit {C : Type 0} (net : Network C) (starts : C → Option Start) (c : C) (t : ℕ) : Type 0 where
  pub attained : Reaches net starts c t
  pub least : (end : ℕ) → Reaches net starts c end → t ≤ end
