-- A layout keeps its rules as a node, a segment or a forbidden turn is added.
use Rattle.std.proofs.Common.{◌≡◌, ◌+◌, ◌/◌, ◌%◌, ◌<◌, ◌≤◌, false, List, [], ◌∷◌, ◌++◌, length, Some, inl, inr, IsTrue, refl, sym, ◌∙◌, ap, subst, arith}
use Rattle.std.specs.Prelude.{slice_get, is_some, option_and_then, ◌==◌}
use Rattle.std.proofs.lemmas.Bool.{cases_eq, ne_eqb}
use Rattle.std.proofs.lemmas.List.{length_push, get_or_append_left}
use Rattle.std.proofs.lemmas.List.Elements.{All-weaker, All-push}
use Rattle.std.proofs.lemmas.List.Sums.{sum_by-append}
use Rattle.std.proofs.lemmas.Option.{slice_get-get_or}
use Rattle.taxi_base.specs.declared.numbers.Node.{Node}
use Rattle.taxi_base.specs.declared.numbers.Arc.{Arc}
use Rattle.taxi_base.specs.Airport.{Link, Layout, own_ends, link_ends, ends, ends_of_link, arc_exists}
use Rattle.segment_graph.specs.Layouts.{IsLaidOut}
use Rattle.segment_graph.proofs.Ends.{same_node, arc_exists-low}

pub IsLaidOut-node : (layout : Layout) → IsLaidOut layout → layout.nodes < 10000 → IsLaidOut (record layout { nodes = layout.nodes + 1 })
unfolding ends
IsLaidOut-node layout is low = record {
  few_nodes = omega arith;
  few_segments = is.few_segments;
  ends = All-weaker (λ (l : Link). (l.from.0 < layout.nodes) × (l.to.0 < layout.nodes)) (λ (l : Link). (l.from.0 < layout.nodes + 1) × (l.to.0 < layout.nodes + 1))
      (λ l h. (omega (arith, h.0), omega (arith, h.1))) layout.links is.ends;
  degree = is.degree;
  forbidden = is.forbidden;
}

-- the arcs that exist still do when a segment is added
arc_exists-more : (layout : Layout) (link : Link) (a : Arc) → IsTrue (arc_exists layout a) → IsTrue (arc_exists (record layout { links = layout.links ++ link ∷ [] }) a)
unfolding ends
arc_exists-more layout link a h =
    let exists = arc_exists-low layout a h in
    let low : a.0 / 2 < length layout.links = omega arith in
    let longer : a.0 / 2 < length (layout.links ++ link ∷ []) = omega (arith, length_push layout.links link) in
    let same : slice_get (layout.links ++ link ∷ []) (a.0 / 2) ≡ slice_get layout.links (a.0 / 2)
    = slice_get-get_or (layout.links ++ link ∷ []) (a.0 / 2) link longer ∙ ap Some (get_or_append_left layout.links (link ∷ []) link (a.0 / 2) low) ∙ sym (slice_get-get_or layout.links (a.0 / 2) link low) in
    ap (λ o. is_some (option_and_then (ends_of_link (a.0 % 2)) o)) same ∙ h

link_ends-push : (links : List Link) (link : Link) (node : Node) → (node.0 ≡ link.from.0 → ⊥) → (node.0 ≡ link.to.0 → ⊥) → link_ends node (links ++ link ∷ []) ≡ link_ends node links
link_ends-push links link node not_from not_to =
    let from : (link.from.0 == node.0) ≡ false = ne_eqb link.from.0 node.0 (λ e. not_from (sym e)) in
    let to : (link.to.0 == node.0) ≡ false = ne_eqb link.to.0 node.0 (λ e. not_to (sym e)) in
    let none : link_ends node (link ∷ []) ≡ 0 = rw (from, to) refl in
    let both = sum_by-append (own_ends node) links (link ∷ []) in
    both ∙ omega (arith, none)

pub IsLaidOut-segment : (layout : Layout) (link : Link) → IsLaidOut layout → length layout.links < 10000 → link.from.0 < layout.nodes → link.to.0 < layout.nodes
    → link_ends link.from (layout.links ++ link ∷ []) ≤ 32 → link_ends link.to (layout.links ++ link ∷ []) ≤ 32 → IsLaidOut (record layout { links = layout.links ++ link ∷ [] })
IsLaidOut-segment layout link is few from to at_from at_to = record {
  few_nodes = is.few_nodes;
  few_segments = omega (arith, length_push layout.links link);
  ends = All-push (λ (l : Link). (l.from.0 < layout.nodes) × (l.to.0 < layout.nodes)) layout.links link is.ends (from, to);
  degree = λ node.
      elim (cases_eq node.0 link.from.0) [
        | inl same ↦ subst (λ (n : Node). link_ends n (layout.links ++ link ∷ []) ≤ 32) (same_node link.from node (sym same)) at_from
        | inr not_from ↦
            elim (cases_eq node.0 link.to.0) [
              | inl same ↦ subst (λ (n : Node). link_ends n (layout.links ++ link ∷ []) ≤ 32) (same_node link.to node (sym same)) at_to
              | inr not_to ↦ rw (link_ends-push layout.links link node not_from not_to) (is.degree node)
            ]
      ];
  forbidden = All-weaker (λ (p : Arc × Arc). IsTrue (arc_exists layout p.0) × IsTrue (arc_exists layout p.1))
      (λ (p : Arc × Arc). IsTrue (arc_exists (record layout { links = layout.links ++ link ∷ [] }) p.0) × IsTrue (arc_exists (record layout { links = layout.links ++ link ∷ [] }) p.1))
      (λ p h. (arc_exists-more layout link p.0 h.0, arc_exists-more layout link p.1 h.1)) layout.forbidden is.forbidden;
}

pub IsLaidOut-forbid : (layout : Layout) (x y : Arc) → IsLaidOut layout → IsTrue (arc_exists layout x) → IsTrue (arc_exists layout y)
    → IsLaidOut (record layout { forbidden = layout.forbidden ++ (x, y) ∷ [] })
unfolding ends
IsLaidOut-forbid layout x y is from to = record {
  few_nodes = is.few_nodes;
  few_segments = is.few_segments;
  ends = is.ends;
  degree = is.degree;
  forbidden = All-push (λ (p : Arc × Arc). IsTrue (arc_exists layout p.0) × IsTrue (arc_exists layout p.1)) layout.forbidden (x, y) is.forbidden (from, to);
}
