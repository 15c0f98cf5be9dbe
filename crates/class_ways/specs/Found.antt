-- Which arcs were found? No public clause cites these.
use Rattle.std.specs.Prelude.{ℕ, ◌≡◌, ◌==◌, ◌++◌, Bool, false, IsTrue, if◌then◌else◌, List, [], ◌∷◌, length, All, count_by, slice_index_or}
use Rattle.std.specs.List.{list_any}
use Rattle.taxi_base.specs.declared.numbers.Arc.{Arc}

-- arcs below a limit, in the order in which they were found
pub record FoundArcs : Type 0 where
  pub limit : ℕ
  pub arcs : List Arc

abbrev pub has_arc : List Arc → Arc → Bool
has_arc arcs arc = list_any (λ a. a.0 == arc.0) arcs

-- the marks of the arcs, by number: as many as there are arcs
pub record AreMarked (marks : List Bool) (arcs : List Arc) : Type 0 where
  pub each : (arc : Arc) → slice_index_or marks arc.0 false ≡ has_arc arcs arc
  pub count : count_by (λ mark. mark) marks ≡ length arcs

-- one more arc, unless it is there
abbrev pub with_arc : FoundArcs → Arc → FoundArcs
with_arc found arc = if has_arc found.arcs arc then found else record found { arcs = found.arcs ++ arc ∷ [] }

-- all arcs with a property are there, and beside those from before no others are
pub record Gained (Wanted : Arc → Type 0) (old new : FoundArcs) : Type 0 where
  pub limit : new.limit ≡ old.limit
  pub more : List Arc
  pub longer : new.arcs ≡ old.arcs ++ more
  pub wanted : All Wanted more
  pub all : (arc : Arc) → Wanted arc → IsTrue (has_arc new.arcs arc)
