-- Which arcs may follow an arc, which may come before it, and which leave and enter a node, as lists in order of number?
use Rattle.std.specs.Prelude.{ℕ, zero, suc, ◌*◌, List, [], ◌∷◌, ◌++◌, length, filter, Some}
use Rattle.taxi_base.specs.declared.numbers.Arc.{Arc}
use Rattle.taxi_base.specs.declared.numbers.Node.{Node}
use Rattle.taxi_base.specs.Airport.{Layout, permits, tail, head, meet}

abbrev pub arcs_below : ℕ → List Arc
arcs_below zero = []
arcs_below (suc n) = arcs_below n ++ record { 0 = n } ∷ []

abbrev pub next_arcs : Layout → Arc → List Arc
next_arcs layout x = filter (λ y. permits layout x y) (arcs_below (2 * length layout.links))

abbrev pub previous_arcs : Layout → Arc → List Arc
previous_arcs layout y = filter (λ x. permits layout x y) (arcs_below (2 * length layout.links))

abbrev pub leaving_arcs : Layout → Node → List Arc
leaving_arcs layout node = filter (λ a. meet (tail layout a) (Some node)) (arcs_below (2 * length layout.links))

abbrev pub entering_arcs : Layout → Node → List Arc
entering_arcs layout node = filter (λ a. meet (head layout a) (Some node)) (arcs_below (2 * length layout.links))

-- what stands for an arc past the last
abbrev pub no_arc : Arc
no_arc = record { 0 = 0 }
