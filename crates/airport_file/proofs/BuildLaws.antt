-- A sound plan may be laid out segment by segment and turn by turn.
use Rattle.std.proofs.Common.{◌≡◌, ℕ, ◌<◌, ◌≤◌, ◌+◌, ◌/◌, true, List, [], ◌∷◌, ◌++◌, length, map, take, get_or, refl, sym, ap, subst, arith, ◌∙◌}
use Rattle.std.proofs.lemmas.Bool.{and_parts}
use Rattle.std.specs.Prelude.{not, ◌==◌}
use Rattle.std.proofs.lemmas.List.{take_more, length-map}
use Rattle.std.proofs.Math.ListN.{get_or-map}
use Rattle.std.proofs.lemmas.List.Sums.{sum_by-take-le}
use Rattle.taxi_base.specs.declared.numbers.Node.{Node}
use Rattle.taxi_base.specs.declared.numbers.Arc.{Arc}
use Rattle.taxi_base.specs.Airport.{Link, Layout, ends, arc_exists, head, tail, meet, own_ends, link_ends}
use Rattle.taxi_base.proofs.AirportLaws.{meet-exist}
use Rattle.airport_rules.specs.declared.rows.Taxiway.{Taxiway}
use Rattle.airport_rules.specs.Plan.{Plan}
use Rattle.airport_rules.specs.Rules.{goes_on}
use Rattle.airport_rules.specs.Indexed.{link_of_way}
use Rattle.airport_rules.specs.Sound.{IsSound}

-- the link at a place
pub link-at : (ways : List Taxiway) (links : List Link) (i : ℕ) (d : Taxiway) → map link_of_way ways ≡ links → get_or links i (link_of_way d) ≡ link_of_way (get_or ways i d)
link-at ways links i d e = ap (λ xs. get_or xs i (link_of_way d)) (sym e) ∙ get_or-map link_of_way ways i d

-- the links so far and one more
pub links-more : (ways : List Taxiway) (links : List Link) (i : ℕ) (d : Taxiway) → map link_of_way ways ≡ links → i < length ways
    → take (i + 1) links ≡ take i links ++ link_of_way (get_or ways i d) ∷ []
links-more ways links i d e low =
    take_more links i (link_of_way d) (subst (λ xs. i < length xs) e (rw length-map low)) ∙ ap (λ l. take i links ++ l ∷ []) (link-at ways links i d e)

-- a link of a sound plan leads from a node to a node
pub way-within : (plan : Plan) (ways : List Taxiway) (i : ℕ) (d : Taxiway) → IsSound plan → map link_of_way ways ≡ plan.links → i < length ways
    → ((get_or ways i d).from.0 < length plan.nodes) × ((get_or ways i d).to.0 < length plan.nodes)
way-within plan ways i d s e low =
    subst (λ (l : Link). (l.from.0 < length plan.nodes) × (l.to.0 < length plan.nodes)) (link-at ways plan.links i d e)
    (s.within i (link_of_way d) (subst (λ xs. i < length xs) e (rw length-map low)))

-- and with it no node is crowded
pub way-degree : (plan : Plan) (ways : List Taxiway) (i : ℕ) (d : Taxiway) (node : Node) → IsSound plan → map link_of_way ways ≡ plan.links → i < length ways
    → link_ends node (take i plan.links ++ link_of_way (get_or ways i d) ∷ []) ≤ 32
way-degree plan ways i d node s e low =
    subst (λ xs. link_ends node xs ≤ 32) (links-more ways plan.links i d e low)
    (let less = sum_by-take-le (own_ends node) plan.links (i + 1) in let all = s.degree node in omega (arith, less, all))

-- ---- turns

-- a turn that goes on is between two arcs that there are
pub arcs-exist : (layout : Layout) (x y : Arc) → goes_on layout x y ≡ true → (arc_exists layout x ≡ true) × (arc_exists layout y ≡ true)
arcs-exist layout x y h = meet-exist (ends layout x) (ends layout y) ((and_parts (meet (head layout x) (tail layout y)) (not (x.0 / 2 == y.0 / 2)) h).0)

-- arcs depend on the links alone
pub arc_exists-links : (a b : Layout) (x : Arc) → a.links ≡ b.links → arc_exists a x ≡ arc_exists b x
unfolding ends
arc_exists-links a b x e = rw e refl
