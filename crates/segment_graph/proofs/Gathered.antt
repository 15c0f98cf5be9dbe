-- What the groups of arcs hold as arcs and forbidden turns are gone through.
use Rattle.std.proofs.Common.{◌≡◌, ℕ, ◌+◌, ◌<◌, Bool, true, false, ◌&&◌, ◌||◌, List, [], ◌∷◌, ◌++◌, length, get_or, set, Option, Some, None, inl, inr, refl, sym, ◌∙◌, ap, subst, arith, length-set, Vec, Global, Result, Ok, Err}
use Rattle.std.specs.Prelude.{All, IfOk, ◌==◌}
use Rattle.std.proofs.lemmas.Bool.{cases_eq, cases_lt, eq-eqb, ne_eqb}
use Rattle.std.proofs.lemmas.List.{get_or-set_same, get_or-set_other, get_or-map, map-set, get_or_past, length-map, length_push, get_or_append_left, get_or_push}
use Rattle.std.proofs.lemmas.List.Folds.{list_any-append}
use Rattle.std.proofs.lemmas.Option.{none-some, same_Some}
use Rattle.taxi_base.proofs.InOrder.{AreAll-none, AreAll-same, AreAll-push}
use Rattle.taxi_base.specs.declared.numbers.Node.{Node}
use Rattle.taxi_base.specs.declared.numbers.Arc.{Arc}
use Rattle.taxi_base.specs.Airport.{Link}
use Rattle.segment_graph.specs.declared.links.Side.{Side}
use Rattle.segment_graph.specs.Graphs.{AreArcRows}
use Rattle.segment_graph.specs.Groups.{groups_of, end_in, AreEndRows, AreGrouped, AreBarred, has_arc}
use Rattle.segment_graph.proofs.Ends.{same_node, same_arc, end_in-low}

abbrev arc_number : Arc → ℕ
arc_number a = a.0

-- what follows from what a clause says of the value in an `Ok`
pub IfOk_then : {T E : Type 0} (r : Result T E) {P Q : T → Type 0} → IfOk r P → ((x : T) → P x → Q x) → IfOk r Q
IfOk_then (Ok x) h f = f x h
IfOk_then (Err e) h f = tt

-- ---- groups of a list of any kind

pub get_or-groups_of : (groups : List (Vec Arc Global)) (k : ℕ) (group : Vec Arc Global) → k < length groups → group ≡ get_or groups k group → get_or (groups_of groups) k [] ≡ group.items
get_or-groups_of groups k group low is = let items : Vec Arc Global → List Arc = λ v. v.items in get_or-map items groups k group [] low ∙ ap items (sym is)

pub groups_of-set : (groups : List (Vec Arc Global)) (k : ℕ) (group new : Vec Arc Global) (a : Arc) → k < length groups → group ≡ get_or groups k group → new.items ≡ group.items ++ a ∷ []
    → groups_of (set groups k new) ≡ set (groups_of groups) k (get_or (groups_of groups) k [] ++ a ∷ [])
groups_of-set groups k group new a low is longer =
    map-set (λ (v : Vec Arc Global). v.items) groups k new ∙ ap (set (groups_of groups) k) (longer ∙ ap (λ r. r ++ a ∷ []) (sym (get_or-groups_of groups k group low is)))

-- groups that are all empty
pub get_or-empty : (groups : List (Vec Arc Global)) (k : ℕ) → All (λ group. group.items ≡ []) groups → get_or (groups_of groups) k [] ≡ []
get_or-empty [] k empty = refl
get_or-empty (group ∷ groups) k empty =
    elim (cases_lt k (length (group ∷ groups))) [
      | inl low ↦ get_or-map (λ (v : Vec Arc Global). v.items) (group ∷ groups) k group [] low ∙ empty k group low
      | inr past ↦ get_or_past (groups_of (group ∷ groups)) k [] (rw (length-map (group ∷ groups) (λ (v : Vec Arc Global). v.items)) past)
    ]

-- ---- arcs by their ends

pub AreGrouped-none : (End : Arc → Option Node) (groups : List (List Arc)) → ((k : ℕ) → get_or groups k [] ≡ []) → AreGrouped End 0 groups
AreGrouped-none End groups empty = record {
  each = λ node low. rw (empty node.0) (AreAll-none arc_number (λ a. (a.0 < 0) × (End a ≡ Some node)) (λ a h. omega (arith, h.0)));
}

-- the next arc goes to its end's group
pub AreGrouped-push : (End : Arc → Option Node) (arc : Arc) (end : Node) (groups : List (List Arc)) → AreGrouped End arc.0 groups → End arc ≡ Some end → end.0 < length groups
    → AreGrouped End (arc.0 + 1) (set groups end.0 (get_or groups end.0 [] ++ arc ∷ []))
AreGrouped-push End arc end groups grouped is in_groups = record {
  each = λ node low.
      let inside : node.0 < length groups = omega (arith, length-set groups end.0 (get_or groups end.0 [] ++ arc ∷ [])) in
      elim (cases_eq node.0 end.0) [
        | inl same ↦
            let here : end ≡ node = same_node end node (sym same) in
            let at : get_or (set groups end.0 (get_or groups end.0 [] ++ arc ∷ [])) node.0 [] ≡ get_or groups node.0 [] ++ arc ∷ []
            = subst (λ k. get_or (set groups end.0 (get_or groups end.0 [] ++ arc ∷ [])) k [] ≡ get_or groups k [] ++ arc ∷ []) (sym same) (get_or-set_same groups end.0 (get_or groups end.0 [] ++ arc ∷ []) [] in_groups) in
            rw at
            (AreAll-push arc_number (λ a. (a.0 < arc.0) × (End a ≡ Some node)) (λ a. (a.0 < arc.0 + 1) × (End a ≡ Some node)) (get_or groups node.0 []) arc (grouped.each node inside)
            (λ a h. h.0) (λ a h. (omega (arith, h.0), h.1)) (omega arith, is ∙ ap Some here)
            (λ a h. elim (cases_lt a.0 arc.0) [ inl below ↦ inl (below, h.1) | inr at ↦ inr (same_arc arc a (omega (arith, h.0))) ]))
        | inr apart ↦
            rw (get_or-set_other groups end.0 node.0 (get_or groups end.0 [] ++ arc ∷ []) [] apart)
            (AreAll-same arc_number (λ a. (a.0 < arc.0) × (End a ≡ Some node)) (λ a. (a.0 < arc.0 + 1) × (End a ≡ Some node)) (get_or groups node.0 [])
            (λ a h. (omega (arith, h.0), h.1))
            (λ a h. elim (cases_lt a.0 arc.0) [
              | inl below ↦ (below, h.1)
              | inr at ↦
                  let here : arc ≡ a = same_arc arc a (omega (arith, h.0)) in
                  let both : Some end ≡ Some node = sym is ∙ ap End here ∙ h.1 in
                  absurd (apart (ap (λ (n : Node). n.0) (sym (same_Some end node both))))
            ])
            (grouped.each node inside))
      ];
}

-- an arc that does not exist goes nowhere
pub AreGrouped-skip : (End : Arc → Option Node) (arc : Arc) (groups : List (List Arc)) → AreGrouped End arc.0 groups → End arc ≡ None → AreGrouped End (arc.0 + 1) groups
AreGrouped-skip End arc groups grouped is = record {
  each = λ node low.
      AreAll-same arc_number (λ a. (a.0 < arc.0) × (End a ≡ Some node)) (λ a. (a.0 < arc.0 + 1) × (End a ≡ Some node)) (get_or groups node.0 [])
      (λ a h. (omega (arith, h.0), h.1))
      (λ a h. elim (cases_lt a.0 arc.0) [
        | inl below ↦ (below, h.1)
        | inr at ↦ let here : arc ≡ a = same_arc arc a (omega (arith, h.0)) in absurd (none-some node (sym is ∙ ap End here ∙ h.1))
      ])
      (grouped.each node low);
}

-- ---- forbidden turns by their first arc

pub AreBarred-none : (groups : List (List Arc)) → ((k : ℕ) → get_or groups k [] ≡ []) → AreBarred [] groups
AreBarred-none groups empty = record { each = λ x y. ap (λ group. has_arc group y) (empty x.0) }

or_false : (a : Bool) → (a || false) ≡ a
or_false true = refl
or_false false = refl

pub AreBarred-push : (forbidden : List (Arc × Arc)) (x y : Arc) (groups : List (List Arc)) → AreBarred forbidden groups → x.0 < length groups
    → AreBarred (forbidden ++ (x, y) ∷ []) (set groups x.0 (get_or groups x.0 [] ++ y ∷ []))
AreBarred-push forbidden x y groups barred low = record {
  each = λ u v.
      rw (list_any-append (λ p. p.0.0 == u.0 && p.1.0 == v.0) forbidden ((x, y) ∷ []), ← barred.each u v)
      (elim (cases_eq u.0 x.0) [
        | inl same ↦
            let test : (x.0 == u.0) ≡ true = eq-eqb x.0 u.0 (sym same) in
            let here : get_or (set groups x.0 (get_or groups x.0 [] ++ y ∷ [])) u.0 [] ≡ get_or groups u.0 [] ++ y ∷ []
            = rw same (get_or-set_same groups x.0 (get_or groups x.0 [] ++ y ∷ []) [] low) in
            rw (here, list_any-append (λ a. a.0 == v.0) (get_or groups u.0 []) (y ∷ []), test) refl
        | inr apart ↦
            let test : (x.0 == u.0) ≡ false = ne_eqb x.0 u.0 (λ e. apart (sym e)) in
            rw (get_or-set_other groups x.0 u.0 (get_or groups x.0 [] ++ y ∷ []) [] apart, test) (sym (or_false (has_arc (get_or groups u.0 []) v)))
      ]);
}

-- ---- rows by number

pub AreArcRows-push : (Row : Arc → List Arc → Type 0) (rows : List (List Arc)) (arc : Arc) (row : List Arc) → AreArcRows arc.0 Row rows → Row arc row → AreArcRows (arc.0 + 1) Row (rows ++ row ∷ [])
AreArcRows-push Row rows arc row are is = record {
  count = length_push rows row ∙ ap (λ n. n + 1) are.count;
  each = λ a low.
      elim (cases_lt a.0 arc.0) [
        | inl before ↦
            let inside : a.0 < length rows = omega (arith, are.count) in
            rw (get_or_append_left rows (row ∷ []) [] a.0 inside) (are.each a before)
        | inr past ↦
            let last : length rows ≡ a.0 = omega (arith, are.count) in
            let here : arc ≡ a = same_arc arc a (omega arith) in
            rw (get_or_push rows row [] a.0 last) (subst (λ b. Row b row) here is)
      ];
}

-- all arcs have gone to their groups
pub AreEndRows-from : (side : Side) (links : List Link) (nodes arcs : ℕ) (groups : List (List Arc)) → arcs ≡ length links + length links → length groups ≡ nodes
    → AreGrouped (end_in side links) arcs groups → AreEndRows side links nodes groups
AreEndRows-from side links nodes arcs groups all count grouped = record {
  count = count;
  each = λ node low.
      AreAll-same arc_number (λ a. (a.0 < arcs) × (end_in side links a ≡ Some node)) (λ a. end_in side links a ≡ Some node) (get_or groups node.0 [])
      (λ a h. h.1)
      (λ a h. (let exists = end_in-low side links a node h in omega arith, h))
      (grouped.each node (omega arith));
}
