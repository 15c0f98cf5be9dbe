-- Which sets of conflicting segments make no difference?
use Rattle.std.specs.Prelude.{ℕ, ◌==◌, ◌++◌, Bool, not, if◌then◌else◌, List, [], ◌∷◌, take, slice_index_or}
use Rattle.std.specs.List.{list_all, position_or_len}
use lib.Pointwise.{pointwise}
use Rattle.taxi_base.specs.declared.numbers.Segment.{Segment}
use Rattle.taxi_base.specs.Airport.{conflict}

-- whether two sets have the same members
abbrev pub are_same : List Segment → List Segment → Bool
are_same one other = pointwise (λ s t. s.0 == t.0) one other

-- the place of the first set before a place that has the same members as the one at it; that place itself, where there is none
abbrev pub first_like : List (List Segment) → ℕ → ℕ
first_like sets at = position_or_len (are_same (slice_index_or sets at [])) (take at sets)

-- whether each two members of a set conflict by other sets already
abbrev pub is_covered : List (List Segment) → List Segment → Bool
is_covered others set = list_all (λ s. list_all (conflict others s) set) set

-- the sets that are marked
abbrev pub marked : List (List Segment) → List Bool → List (List Segment)
marked [] marks = []
marked (set ∷ sets) [] = []
marked (set ∷ sets) (mark ∷ marks) = if mark then set ∷ marked sets marks else marked sets marks

-- a mark for a set, whether those before it and the marked ones after it leave it needed, and then the marks of these
abbrev pub with_mark : List (List Segment) → List Segment → List (List Segment) → List Bool → List Bool
with_mark before set after marks = not (is_covered (before ++ marked after marks) set) ∷ marks

-- A mark for each of some sets, which others stand before: whether it is needed. They are judged from the last to the first.
abbrev pub needed_marks : List (List Segment) → List (List Segment) → List Bool
needed_marks before [] = []
needed_marks before (set ∷ after) = with_mark before set after (needed_marks (before ++ set ∷ []) after)
