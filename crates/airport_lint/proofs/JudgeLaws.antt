-- What is so of a node and of an arc, by the tests.
use Rattle.std.proofs.Common.{◌≡◌, ◌↔◌, ◌⊎◌, Bool, false, not, ◌&&◌, List, Option, Some, None, IsTrue, inl, inr, refl, sym, ◌∙◌, ap, subst}
use Rattle.std.specs.Prelude.{slice_get, option_map}
use Rattle.std.specs.Option.{option_map_or}
use Rattle.std.specs.List.{list_any}
use Rattle.std.proofs.lemmas.Bool.{and_parts, and_from, not-true, not_from_false, false_from_ne_true, both_ways}
use Rattle.taxi_base.specs.declared.numbers.Node.{Node}
use Rattle.taxi_base.specs.declared.numbers.Arc.{Arc}
use Rattle.taxi_base.specs.declared.rows.Kind.{Kind}
use Rattle.taxi_base.specs.declared.rows.Kind.TheVariants.{Runway, Junction, Stand}
use Rattle.taxi_base.specs.Airport.{Airport, NodeRow, layout_of, segment_of, head, is_runway, is_stand}
use Rattle.taxi_base.proofs.ListLaws.{list_any-true, list_any-member}
use Rattle.segment_graph.specs.Graphs.{AreNext}
use Rattle.class_ways.specs.Ways.{is_of, is_junction}
use Rattle.airport_lint.specs.Advice.{is_shared, IsDeadEnd}
use Rattle.airport_lint.proofs.BarLaws.{apart}

-- ---- kinds

runway-row : (o : Option NodeRow) → option_map (λ n. n.kind) o ≡ Some Runway → IsTrue (option_map_or (λ row. is_runway row.kind) o false)
runway-row None e = absurd (cc e)
runway-row (Some row) e = let k : row.kind ≡ Runway = cc e in rw k refl

stand-row : (o : Option NodeRow) → option_map (λ n. n.kind) o ≡ Some Stand → IsTrue (option_map_or (λ row. is_stand row.kind) o false)
stand-row None e = absurd (cc e)
stand-row (Some row) e = let k : row.kind ≡ Stand = cc e in rw k refl

junction-row : (o : Option NodeRow) → option_map (λ n. n.kind) o ≡ Some Junction → IsTrue (option_map_or (λ row. is_junction row.kind) o false)
junction-row None e = absurd (cc e)
junction-row (Some row) e = let k : row.kind ≡ Junction = cc e in rw k refl

module _ (airport : Airport) (node : Node) where
  abbrev kind_there : Option Kind
  kind_there = option_map (λ n. n.kind) (slice_get airport.nodes node.0)

  -- of a stand only what is said of stands counts, and of a runway node what is said of these
  pub of-stand : (so : Bool) (kind : Kind) (P Q : Type 0) → kind_there ≡ Some kind → kind ≡ Stand → IsTrue so ↔ P
      → IsTrue so ↔ ((IsTrue (is_of Stand airport node) × P) ⊎ (IsTrue (is_of Runway airport node) × Q))
  of-stand so kind P Q there is same =
      let stand = stand-row (slice_get airport.nodes node.0) (there ∙ ap Some is) in (
        λ h. inl (stand, same.0 h),
        λ either. elim either [ inl one ↦ same.1 one.1 | inr other ↦ absurd (apart airport node other.0 stand) ],
      )

  pub of-runway : (so : Bool) (kind : Kind) (P Q : Type 0) → kind_there ≡ Some kind → kind ≡ Runway → IsTrue so ↔ Q
      → IsTrue so ↔ ((IsTrue (is_of Stand airport node) × P) ⊎ (IsTrue (is_of Runway airport node) × Q))
  of-runway so kind P Q there is same =
      let runway = runway-row (slice_get airport.nodes node.0) (there ∙ ap Some is) in (
        λ h. inr (runway, same.0 h),
        λ either. elim either [ inl one ↦ absurd (apart airport node runway one.0) | inr other ↦ same.1 other.1 ],
      )

  pub of-junction : (one other so : Bool) (kind : Kind) (P Q : Type 0) → kind_there ≡ Some kind → kind ≡ Junction → IsTrue (not one) ↔ P → IsTrue (not other) ↔ Q → so ≡ (not one && not other)
      → IsTrue so ↔ (IsTrue (is_of Junction airport node) × P × Q)
  of-junction one other so kind P Q there is first second both =
      let junction = junction-row (slice_get airport.nodes node.0) (there ∙ ap Some is) in (
        λ h. let parts = and_parts (not one) (not other) (sym both ∙ h) in (junction, first.0 parts.0, second.0 parts.1),
        λ all. both ∙ and_from (not one) (not other) (first.1 all.1) (second.1 all.2),
      )

-- ---- dead ends

pub dead-end : (airport : Airport) (arc : Arc) (node : Node) (row : List Arc) (used junction onward so : Bool) → Some node ≡ head (layout_of airport) arc → AreNext (layout_of airport) arc row
    → used ≡ is_shared airport (segment_of arc) (segment_of arc) → junction ≡ is_of Junction airport node
    → onward ≡ list_any (λ next. is_shared airport (segment_of arc) (segment_of next)) row → so ≡ (used && (junction && not onward)) → IsTrue so ↔ IsDeadEnd airport arc
dead-end airport arc node row used junction onward so at next is_used is_junction is_onward is = (
  λ h.
      let first = and_parts used (junction && not onward) (sym is ∙ h) in
      let second = and_parts junction (not onward) first.1 in
      record {
        node = node;
        comes_to = sym at;
        junction = sym is_junction ∙ second.0;
        used = sym is_used ∙ first.0;
        stops = λ y permitted. false_from_ne_true _ (λ shared. both_ways _ (not-true onward second.1)
            (is_onward ∙ list_any-member (λ next. is_shared airport (segment_of arc) (segment_of next)) row y ((next.each y).1 permitted) shared));
      },
  λ dead.
      let same : dead.node ≡ node = let both : Some dead.node ≡ Some node = sym dead.comes_to ∙ sym at in cc both in
      let none : onward ≡ false = false_from_ne_true _ (λ some.
      let one = list_any-true (λ next. is_shared airport (segment_of arc) (segment_of next)) row (sym is_onward ∙ some) in
      both_ways _ (dead.stops one.0 ((next.each one.0).0 one.1)) one.2) in
      is ∙ and_from used (junction && not onward) (is_used ∙ dead.used) (and_from junction (not onward) (is_junction ∙ subst (λ n. IsTrue (is_of Junction airport n)) same dead.junction) (not_from_false onward none)),
)
