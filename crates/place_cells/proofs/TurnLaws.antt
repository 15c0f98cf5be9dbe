-- The lists of the arcs that may follow, and that may come before, are the graph's.
use Rattle.std.proofs.Common.{◌≡◌, ℕ, zero, suc, ◌*◌, ◌/◌, ◌<◌, ◌↔◌, Bool, List, [], ◌∷◌, length, inl, inr, IsTrue, Option, Some, None, is_some, option_map, refl, sym, ◌∙◌, ap, arith}
use Rattle.std.specs.Prelude.{AllPairs, Contains, filter}
use Rattle.std.proofs.lemmas.Bool.{cases_lt}
use Rattle.std.proofs.lemmas.Option.{slice_get_past}
use Rattle.std.proofs.lemmas.List.Elements.{All-contains}
use Rattle.taxi_base.specs.Lists.{AreAll}
use Rattle.taxi_base.proofs.InOrder.{AreAll-none, AreAll-same, AreAll-push, AreAll-filter}
use Rattle.taxi_base.specs.declared.numbers.Arc.{Arc}
use Rattle.taxi_base.specs.declared.numbers.Node.{Node}
use Rattle.taxi_base.specs.Airport.{Layout, Ends, ends, meet, permits, arc_exists, tail, head}
use Rattle.walk_labels.proofs.RequestCells.{meet-same}
use Rattle.taxi_base.proofs.ListLaws.{AllPairs-first, AllPairs-rest, Contains-first, Contains-rest, Contains-cons_cases}
use Rattle.taxi_base.proofs.AirportLaws.{permits-exist}
use Rattle.segment_graph.specs.Graphs.{AreArcs, AreNext, ArePrevious, AreLeaving, AreEntering}
use Rattle.place_cells.specs.Turns.{arcs_below, next_arcs, previous_arcs, leaving_arcs, entering_arcs}

-- ---- one list

module _ {X : Type 0} (number : X → ℕ) where
  abbrev Below : X → X → Type 0
  Below x y = number x < number y

  same_first : (x y : X) (xs ys : List X) → AllPairs Below (x ∷ xs) → AllPairs Below (y ∷ ys) → Contains (y ∷ ys) x → Contains (x ∷ xs) y → x ≡ y
  same_first x y xs ys a b x_there y_there =
      elim (Contains-cons_cases y x ys x_there) [
        | inl e ↦ sym e
        | inr x_later ↦ elim (Contains-cons_cases x y xs y_there) [
          | inl e ↦ e
          | inr y_later ↦
              let one : number x < number y = All-contains (Below x) xs y (AllPairs-first Below x xs a) y_later in
              let other : number y < number x = All-contains (Below y) ys x (AllPairs-first Below y ys b) x_later in
              absurd (omega arith)
        ]
      ]

  rest_there : (x y : X) (xs ys : List X) → x ≡ y → AllPairs Below (x ∷ xs) → ((z : X) → Contains (x ∷ xs) z → Contains (y ∷ ys) z) → (z : X) → Contains xs z → Contains ys z
  rest_there x y xs ys e a there z h =
      elim (Contains-cons_cases y z ys (there z (Contains-rest x z xs h))) [
        | inl f ↦
            let after : number x < number z = All-contains (Below x) xs z (AllPairs-first Below x xs a) h in
            let itself : number x ≡ number z = ap number (e ∙ f) in
            absurd (omega arith)
        | inr later ↦ later
      ]

  same_members : (xs ys : List X) → AllPairs Below xs → AllPairs Below ys → ((z : X) → Contains xs z → Contains ys z) → ((z : X) → Contains ys z → Contains xs z) → xs ≡ ys
  same_members [] [] a b there back = refl
  same_members [] (y ∷ ys) a b there back = absurd (omega (arith, (back y (Contains-first y ys)).1))
  same_members (x ∷ xs) [] a b there back = absurd (omega (arith, (there x (Contains-first x xs)).1))
  same_members (x ∷ xs) (y ∷ ys) a b there back =
      let e : x ≡ y = same_first x y xs ys a b (there x (Contains-first x xs)) (back y (Contains-first y ys)) in
      let rest : xs ≡ ys = same_members xs ys (AllPairs-rest Below x xs a) (AllPairs-rest Below y ys b) (rest_there x y xs ys e a there) (rest_there y x ys xs (sym e) b back) in
      λ i. e i ∷ rest i

  -- there is one list of all with a property
  pub AreAll-only : (Has : X → Type 0) (xs ys : List X) → AreAll number Has xs → AreAll number Has ys → xs ≡ ys
  AreAll-only Has xs ys a b = same_members xs ys a.rising b.rising (λ z h. (b.each z).1 ((a.each z).0 h)) (λ z h. (a.each z).1 ((b.each z).0 h))

-- ---- arcs

pub arcs_below-all : (n : ℕ) → AreAll (λ (a : Arc). a.0) (λ a. a.0 < n) (arcs_below n)
arcs_below-all zero = AreAll-none (λ (a : Arc). a.0) (λ a. a.0 < 0) (λ a h. omega arith)
arcs_below-all (suc n) =
    AreAll-push (λ (a : Arc). a.0) (λ a. a.0 < n) (λ a. a.0 < suc n) (arcs_below n) (record { 0 = n }) (arcs_below-all n) (λ a h. h) (λ a h. omega arith) (omega arith)
    (λ a h. elim (cases_lt a.0 n) [ inl below ↦ inl below | inr last ↦ (let e : n ≡ a.0 = omega arith in inr (λ i. record { 0 = e i })) ])

module _ (layout : Layout) where
  pub exists-below : (arc : Arc) → IsTrue (arc_exists layout arc) → arc.0 < 2 * length layout.links
  unfolding ends
  exists-below arc h =
      elim (cases_lt (arc.0 / 2) (length layout.links)) [
        | inl low ↦ omega arith
        | inr past ↦ absurd (cc (rw (slice_get_past layout.links (arc.0 / 2) past) at h))
      ]

  -- the arcs with a property that those which pass a test have, and none else
  passing : (test : Arc → Bool) (Has : Arc → Type 0) → ((a : Arc) → IsTrue (test a) ↔ Has a) → ((a : Arc) → Has a → IsTrue (arc_exists layout a))
      → AreArcs Has (filter test (arcs_below (2 * length layout.links)))
  passing test Has same exist =
      AreAll-same (λ (a : Arc). a.0) (λ a. (a.0 < 2 * length layout.links) × IsTrue (test a)) Has (filter test (arcs_below (2 * length layout.links)))
      (λ a h. (same a).0 h.1) (λ a h. (exists-below a (exist a h), (same a).1 h))
      (AreAll-filter (λ (a : Arc). a.0) (λ a. a.0 < 2 * length layout.links) test (arcs_below (2 * length layout.links)) (arcs_below-all (2 * length layout.links)))

  pub some-exists : {A : Type 0} (f : Ends → A) (o : Option Ends) (x : A) → option_map f o ≡ Some x → IsTrue (is_some o)
  some-exists f None x e = absurd cc
  some-exists f (Some o) x e = refl

  -- each arc that may follow is in the list, and no other; the same of those that may come before, that leave and that enter
  pub next_arcs-all : (x : Arc) → AreNext layout x (next_arcs layout x)
  next_arcs-all x = passing (λ y. permits layout x y) (λ y. IsTrue (permits layout x y)) (λ y. (λ h. h, λ h. h)) (λ y h. (permits-exist layout x y h).1)

  pub previous_arcs-all : (y : Arc) → ArePrevious layout y (previous_arcs layout y)
  previous_arcs-all y = passing (λ x. permits layout x y) (λ x. IsTrue (permits layout x y)) (λ x. (λ h. h, λ h. h)) (λ x h. (permits-exist layout x y h).0)

  pub leaving_arcs-all : (node : Node) → AreLeaving layout node (leaving_arcs layout node)
  leaving_arcs-all node =
      passing (λ a. meet (tail layout a) (Some node)) (λ a. tail layout a ≡ Some node) (λ a. meet-same (tail layout a) node) (λ a h. some-exists (λ (e : Ends). e.tail) (ends layout a) node h)

  pub entering_arcs-all : (node : Node) → AreEntering layout node (entering_arcs layout node)
  entering_arcs-all node =
      passing (λ a. meet (head layout a) (Some node)) (λ a. head layout a ≡ Some node) (λ a. meet-same (head layout a) node) (λ a h. some-exists (λ (e : Ends). e.head) (ends layout a) node h)

  -- so the graph's lists are these
  pub next_arcs-are : (x : Arc) (arcs : List Arc) → AreNext layout x arcs → arcs ≡ next_arcs layout x
  next_arcs-are x arcs are = AreAll-only (λ (a : Arc). a.0) (λ y. IsTrue (permits layout x y)) arcs (next_arcs layout x) are (next_arcs-all x)

  pub previous_arcs-are : (y : Arc) (arcs : List Arc) → ArePrevious layout y arcs → arcs ≡ previous_arcs layout y
  previous_arcs-are y arcs are = AreAll-only (λ (a : Arc). a.0) (λ x. IsTrue (permits layout x y)) arcs (previous_arcs layout y) are (previous_arcs-all y)

  pub leaving_arcs-are : (node : Node) (arcs : List Arc) → AreLeaving layout node arcs → arcs ≡ leaving_arcs layout node
  leaving_arcs-are node arcs are = AreAll-only (λ (a : Arc). a.0) (λ a. tail layout a ≡ Some node) arcs (leaving_arcs layout node) are (leaving_arcs-all node)

  pub entering_arcs-are : (node : Node) (arcs : List Arc) → AreEntering layout node arcs → arcs ≡ entering_arcs layout node
  entering_arcs-are node arcs are = AreAll-only (λ (a : Arc). a.0) (λ a. head layout a ≡ Some node) arcs (entering_arcs layout node) are (entering_arcs-all node)
