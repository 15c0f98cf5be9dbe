-- How long each class takes on each segment at least, and for how long it keeps one shut after leaving it.
use Rattle.std.specs.Prelude.{ℕ, ◌≡◌, ◌≤◌, List, length, Option, IfSome, All}

-- a row a class with a place a segment: the least time there, and none where the class may not use the segment; and a
-- clearance for each class
pub record Times : Type 0 where
  pub segments : ℕ
  pub table : List (List (Option ℕ))
  pub clearances : List ℕ

-- from a second to an hour
abbrev pub IsTime : ℕ → Type 0
IsTime n = (1 ≤ n) × (n ≤ 3600)

-- each row has a place a segment, each time is from a second to an hour, and each clearance at most ten minutes
pub record AreTimes (times : Times) : Type 0 where
  pub few : length times.table ≤ 32
  pub rows : All (λ row. length row ≡ times.segments) times.table
  pub range : All (All (λ place. IfSome place IsTime)) times.table
  pub clearances : (length times.clearances ≡ length times.table) × All (λ g. g ≤ 600) times.clearances
