-- A search that settles one cell at a time, always one with the least known value.
use Rattle.std.proofs.Common.{◌≡◌, ℕ, ◌≤◌, ◌<◌, Bool, true, false, Option, Some, sym, ◌∙◌, subst, ◌⊎◌, inl, inr, arith}
use Rattle.std.proofs.lemmas.Bool.{cases_Bool, cases_lt, false≢true}
use Rattle.label_core.specs.Walks.{Network, Start, Reaches, IsEarliestExit}
use Rattle.label_core.specs.Labels.{IsStartEntry, IsExpansion}
use Rattle.label_core.specs.Tables.{IsBelow, HasAsGood, IsClosed, IsAttained}
use Rattle.label_core.specs.Settling.{IsSearch, IsExpanded, NoneLeftBelow}
use Rattle.label_core.proofs.ClosedTables.{IsBelow-less, closed_covers}
use Rattle.label_core.proofs.AttainedValues.{expansion_reached}
use Rattle.label_core.proofs.ExactTables.{row_earliest, earliest_row, earliest_equation}

-- the table of the settled cells
abbrev pub SettledRow : {C : Type 0} → (C → ℕ → Type 0) → (C → Bool) → C → ℕ → Type 0
SettledRow Known settled c v = (settled c ≡ true) × Known c v

-- one more cell is settled
pub record IsSettling {C : Type 0} (old new : C → Bool) (c : C) : Type 0 where
  pub here : new c ≡ true
  pub kept : (d : C) → old d ≡ true → new d ≡ true
  pub only : (d : C) → new d ≡ true → (old d ≡ true) ⊎ (d ≡ c)

module _ {C : Type 0} (net : Network C) (starts : C → Option Start) (takes : (d : C) → 1 ≤ net.seconds d) (Known : C → ℕ → Type 0) (settled : C → Bool) (search_ok : IsSearch net starts Known settled) where
  settled_attained : IsAttained net starts (SettledRow Known settled)
  settled_attained = record {
    reached = λ c v row. search_ok.attained.reached c v row.1;
    single = λ c v w one two. search_ok.attained.single c v w one.1 two.1;
  }

  in_settled : (bound : Option ℕ) → NoneLeftBelow Known settled bound → (c : C) (t : ℕ) → HasAsGood Known c t → IsBelow bound t → HasAsGood (SettledRow Known settled) c t
  in_settled bound left c t known below = go (cases_Bool (settled c))
    where
      go : (settled c ≡ true) ⊎ (settled c ≡ false) → HasAsGood (SettledRow Known settled) c t
      go (inl is) = (known.0, (is, known.1), known.2)
      go (inr not) = absurd (left c known.0 not known.1 (IsBelow-less bound t known.0 known.2 below))

  -- the table of the settled cells is closed below what is left
  pub settled_closed : (bound : Option ℕ) → NoneLeftBelow Known settled bound → IsClosed net starts bound (SettledRow Known settled)
  settled_closed bound left = record {
    starts_in = λ c t e below. in_settled bound left c t (search_ok.starts_known c t e) below;
    expansions_in = λ c d v t row e below. in_settled bound left d t (search_ok.expansions_known c d v t row.0 row.1 e) below;
  }

  -- the settled values below what is left are exactly the earliest exits
  pub settled_exact : (bound : Option ℕ) → NoneLeftBelow Known settled bound → (c : C) (v : ℕ) → IsBelow bound v
      → (SettledRow Known settled c v → IsEarliestExit net starts c v) × (IsEarliestExit net starts c v → SettledRow Known settled c v)
  settled_exact bound left c v below = (
    λ row. row_earliest net starts bound (SettledRow Known settled) takes (settled_closed bound left) settled_attained c v row below,
    λ earliest. earliest_row net starts bound (SettledRow Known settled) takes (settled_closed bound left) settled_attained c v earliest below,
  )

  -- A least value that is not settled is the earliest exit of its cell. This is the argument of the search (Dijkstra's).
  -- Say that v is such a value, of cell c. Below v no value is left, so all start entries and all expansions of settled cells
  -- that are below v belong to settled cells. The table of the settled cells is closed below v.
  -- A walk that ended in c before v would have a row as good in that table, and c would be settled. It is not.
  -- So no walk ends in c before v, and one ends then, as each known value is attained. What is settled next is right.
  pub least_earliest : (c : C) (v : ℕ) → settled c ≡ false → Known c v → NoneLeftBelow Known settled (Some v) → IsEarliestExit net starts c v
  least_earliest c v not known left = record { attained = search_ok.attained.reached c v known; least = least }
    where
      least : (t : ℕ) → Reaches net starts c t → v ≤ t
      least t reach = elim (cases_lt t v) [ inl lt ↦ sooner lt | inr le ↦ le ]
        where
          sooner : t < v → v ≤ t
          sooner lt =
              let r = closed_covers net starts (Some v) (SettledRow Known settled) (settled_closed (Some v) left) c t reach takes lt in
              absurd (false≢true (sym not ∙ r.1.0))

  -- each earliest exit that is not above what is left is known
  pub earliest_known : (bound : ℕ) → NoneLeftBelow Known settled (Some bound) → (c : C) (t : ℕ) → IsEarliestExit net starts c t → t ≤ bound → Known c t
  earliest_known bound left c t earliest le =
      go (earliest_equation net starts (Some bound) (SettledRow Known settled) takes (settled_closed (Some bound) left) settled_attained c t earliest (λ earlier lt. omega arith))
    where
      same : HasAsGood Known c t → Known c t
      same known =
          let e : known.0 ≡ t = omega (arith, known.2, earliest.least known.0 (search_ok.attained.reached c known.0 known.1)) in
          subst (λ u. Known c u) e known.1

      go : IsStartEntry net starts c t ⊎ ((d : C) × (v : ℕ) × SettledRow Known settled d v × (v < t) × IsExpansion net d v c t) → Known c t
      go (inl e) = same (search_ok.starts_known c t e)
      go (inr e) = same (search_ok.expansions_known e.0 c e.1 t e.2.0 e.2.1 e.4)

  -- a least value that is not settled is settled by expanding its cell
  pub search_goes_on : (c : C) (v : ℕ) (New : C → ℕ → Type 0) (after : C → Bool) → settled c ≡ false → Known c v → NoneLeftBelow Known settled (Some v)
      → ((d : C) (t u : ℕ) → New d t → New d u → t ≡ u) → IsExpanded net c v Known New → IsSettling settled after c → IsSearch net starts New after
  search_goes_on c v New after not known left single expanded settling = record {
    attained = record {
      reached = λ d t now. reached_now d t (expanded.from_old d t now);
      single = single;
    };
    starts_known = λ d t e. kept d t (search_ok.starts_known d t e);
    expansions_known = λ d e u t is now x. expansions_now d e u t now x (settling.only d is);
    settled_known = λ d is. known_now d (settling.only d is);
    settled_first = λ d e u w is now yet later. first_now d e u w is now yet (expanded.from_old e w later);
  }
    where
      reached_now : (d : C) (t : ℕ) → Known d t ⊎ IsExpansion net c v d t → Reaches net starts d t
      reached_now d t (inl old) = search_ok.attained.reached d t old
      reached_now d t (inr e) = expansion_reached net starts c v d t (search_ok.attained.reached c v known) e

      kept : (d : C) (t : ℕ) → HasAsGood Known d t → HasAsGood New d t
      kept d t old =
          let r = expanded.old_kept d old.0 old.1 in
          (r.0, r.1, omega (arith, r.2, old.2))

      -- the old value of a cell that is settled now, which is v at most
      old_of : (d : C) → (settled d ≡ true) ⊎ (d ≡ c) → (w : ℕ) × Known d w × (w ≤ v)
      old_of d (inl was) =
          let r = search_ok.settled_known d was in
          (r.0, r.1, search_ok.settled_first d c r.0 v was r.1 not known)
      old_of d (inr same) = (v, subst (λ x. Known x v) (sym same) known, omega arith)

      -- that value has stayed
      stayed : (d : C) (u : ℕ) → (settled d ≡ true) ⊎ (d ≡ c) → New d u → Known d u × (u ≤ v)
      stayed d u is now = go (expanded.from_old d u now)
        where
          old : (w : ℕ) × Known d w × (w ≤ v)
          old = old_of d is

          go : Known d u ⊎ IsExpansion net c v d u → Known d u × (u ≤ v)
          go (inl was) = (was, omega (arith, old.2, search_ok.attained.single d u old.0 was old.1))
          go (inr e) =
              let r = expanded.old_kept d old.0 old.1 in
              absurd (omega (arith, e.value, takes d, r.2, old.2, single d u r.0 now r.1))

      expansions_now : (d e : C) (u t : ℕ) → New d u → IsExpansion net d u e t → (settled d ≡ true) ⊎ (d ≡ c) → HasAsGood New e t
      expansions_now d e u t now x (inl was) = kept e t (search_ok.expansions_known d e u t was (stayed d u (inl was) now).0 x)
      expansions_now d e u t now x (inr same) =
          let old : Known c u = subst (λ y. Known y u) same (stayed d u (inr same) now).0 in
          let value : u ≡ v = search_ok.attained.single c u v old known in
          let moved : IsExpansion net c u e t = subst (λ y. IsExpansion net y u e t) same x in
          expanded.expansions_in e t (subst (λ n. IsExpansion net c n e t) value moved)

      known_now : (d : C) → (settled d ≡ true) ⊎ (d ≡ c) → (w : ℕ) × New d w
      known_now d is =
          let old = old_of d is in
          let r = expanded.old_kept d old.0 old.1 in
          (r.0, r.1)

      first_now : (d e : C) (u w : ℕ) → after d ≡ true → New d u → after e ≡ false → Known e w ⊎ IsExpansion net c v e w → u ≤ w
      first_now d e u w is now yet (inr x) = omega (arith, (stayed d u (settling.only d is) now).1, x.value)
      first_now d e u w is now yet (inl old) = go (cases_Bool (settled e))
        where
          go : (settled e ≡ true) ⊎ (settled e ≡ false) → u ≤ w
          go (inl was) = absurd (false≢true (sym yet ∙ settling.kept e was))
          go (inr still) = elim (cases_lt w v) [ inl lt ↦ absurd (left e w still old lt) | inr le ↦ omega (arith, (stayed d u (settling.only d is) now).1) ]
