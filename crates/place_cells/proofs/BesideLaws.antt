-- The arcs beside a cell are those that may come next.
use Rattle.std.proofs.Common.{◌≡◌, ℕ, List, IsTrue, get_or, sym, ◌∙◌, ap, subst}
use Rattle.taxi_base.specs.declared.numbers.Arc.{Arc}
use Rattle.taxi_base.specs.Airport.{arc_exists}
use Rattle.walk_labels.specs.Places.{Place}
use Rattle.place_cells.specs.declared.spots.Beside.{Beside}
use Rattle.place_cells.specs.Turns.{no_arc}
use Rattle.place_cells.specs.Ground.{Ground, arc_in}
use Rattle.place_cells.specs.Tells.{IsBeside}
use Rattle.place_cells.proofs.RunLaws.{usable_parts}
use Rattle.place_cells.proofs.GroundLaws.{usable_exists}

module _ (g : Ground) (cell : ℕ) (may : List Arc) (b : Beside) (is : IsBeside g cell may b) where
  -- each by its run
  pub beside_at : (run : ℕ) → get_or b.arcs.now run no_arc ≡ get_or may run no_arc
  beside_at run = ap (λ (arcs : List Arc). get_or arcs run no_arc) is.arcs

  -- its arc is the cell's, which is there
  pub beside_arc : b.place.arc ≡ arc_in g cell
  beside_arc = ap (λ (p : Place). p.arc) is.place

  pub beside_exists : IsTrue (arc_exists g.layout b.place.arc)
  beside_exists = subst (λ (a : Arc). IsTrue (arc_exists g.layout a)) (sym beside_arc) (usable_exists g (arc_in g cell) (usable_parts g cell is.usable).1)

  -- so the arcs on its other side are the cell's
  pub beside_others : (others : Arc → List Arc) (arcs : List Arc) → arcs ≡ others b.place.arc → arcs ≡ others (arc_in g cell)
  beside_others others arcs same = same ∙ ap others beside_arc
