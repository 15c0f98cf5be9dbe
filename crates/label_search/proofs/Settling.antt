-- A cell of least key is taken out of the queue and expanded: what stays, and what is settled.
use Rattle.std.proofs.Common.{◌≡◌, ◌≢◌, ℕ, ◌<◌, ◌≤◌, min, true, false, List, length, Option, Some, None, refl, sym, ap, ◌∙◌, subst, ◌⊎◌, inl, inr, arith}
use Rattle.std.proofs.lemmas.Bool.{cases_eq, cases_lt, false≢true}
use Rattle.std.proofs.lemmas.List.{get_or-set_other, get_or_past}
use Rattle.std.proofs.lemmas.Grind.{get_or-set_at}
use Rattle.std.specs.Prelude.{⊤}
use Rattle.label_queue.specs.Keys.{key_of, without}
use Rattle.label_queue.specs.Least.{IsLeast}
use Rattle.label_core.specs.Labels.{IsExpansion}
use Rattle.label_core.specs.Tables.{HasAsGood}
use Rattle.label_core.specs.Settling.{IsLeastLeft, IsSearch, IsExpanded as IsExpandedOver}
use Rattle.label_core.proofs.SettledCells.{IsSettling, search_goes_on}
use Rattle.label_search.specs.declared.labels.Label.{Label}
use Rattle.label_search.specs.Problem.{Problem, IsProblem}
use Rattle.label_search.specs.Labels.{Standing, HasValue, IsOffered, Same}
use Rattle.label_search.specs.Labels.IsOffered.{first, lower, kept}
use Rattle.label_search.proofs.Offers.{as_good_as_old}
use Rattle.label_search.specs.Expanding.{WasExpandedTo, IsExpanded}
use Rattle.label_search.specs.Standing.{is_settled_by, is_settled, IsUnderway}

-- a cell has one value at most
pub HasValue-single : (known : List (Option Label)) (c v w : ℕ) → HasValue known c v → HasValue known c w → v ≡ w
HasValue-single known c v w one two =
    let e : Some one.0 ≡ Some two.0 = sym one.1 ∙ two.1 in
    let same : one.0 ≡ two.0 = cc in
    sym one.2 ∙ ap (λ l. l.value) same ∙ two.2

-- ---- one offer

-- an offer settles no cell, and makes none unsettled whose value it isn't below
settled_kept : {offer : Label} {l m : Option Label} {i j : Option ℕ} → IsOffered offer l i m j
    → ((old : Label) → l ≡ Some old → i ≡ None → old.value ≤ offer.value) → is_settled_by m j ≡ is_settled_by l i
settled_kept (first key) settled = refl
settled_kept {offer} (lower old None less) settled = absurd (omega (arith, settled old refl refl))
settled_kept (lower old (Some k) less) settled = refl
settled_kept (kept old key by) settled = refl

-- a cell in the queue has its value as its key
queued_kept : {offer : Label} {l m : Option Label} {i j : Option ℕ} → IsOffered offer l i m j
    → ((q : ℕ) → i ≡ Some q → (x : Label) × (l ≡ Some x) × (x.value ≡ q)) → (q : ℕ) → j ≡ Some q → (x : Label) × (m ≡ Some x) × (x.value ≡ q)
queued_kept {offer} (first None) queued q is = (offer, refl, cc)
queued_kept {offer} (first (Some k)) queued q is = let h = queued k refl in absurd (let e : None ≡ Some h.0 = h.1 in cc)
queued_kept {offer} (lower old None less) queued q is = (offer, refl, cc)
queued_kept {offer} (lower old (Some k) less) queued q is =
    let h = queued k refl in
    let e : Some old ≡ Some h.0 = h.1 in
    let same : old ≡ h.0 = cc in
    let value : old.value ≡ k = ap (λ l. l.value) same ∙ h.2 in
    let key : Some (min k offer.value) ≡ Some q = is in
    let lesser_key : min k offer.value ≡ q = cc in
    (offer, refl, omega arith)
queued_kept (kept old key by) queued q is = queued q is

-- a label is an old one or the offer
label_from : {offer : Label} {l m : Option Label} {i j : Option ℕ} → IsOffered offer l i m j → (x : Label) → m ≡ Some x → (l ≡ Some x) ⊎ (x ≡ offer)
label_from {offer} (first key) x is = inr (let e : Some offer ≡ Some x = is in cc)
label_from {offer} (lower old key less) x is = inr (let e : Some offer ≡ Some x = is in cc)
label_from (kept old key by) x is = inl is

-- ---- the least cell

module _ (p : Problem) (sound : IsProblem p) (s : Standing) (under : IsUnderway p s) (c k : ℕ) (least : IsLeast s.keys c k) where
  abbrev pub taken : Standing
  taken = record { known = s.known; keys = without s.keys c }

  pub least_known : HasValue s.known c k
  least_known = under.queued c k least.has_key

  pub least_not_settled : is_settled s c ≡ false
  least_not_settled = rw (least.has_key, least_known.1) refl

  -- a cell that has a value and isn't settled is in the queue by it
  pub key_of_left : (d w : ℕ) → is_settled s d ≡ false → HasValue s.known d w → key_of s.keys d ≡ Some w
  key_of_left d w not has = go (key_of s.keys d) refl
    where
      go : (o : Option ℕ) → key_of s.keys d ≡ o → key_of s.keys d ≡ Some w
      go None is = absurd (false≢true (sym not ∙ rw (is, has.1) refl))
      go (Some q) is = is ∙ ap Some (HasValue-single s.known d q w (under.queued d q is) has)

  pub least_left : IsLeastLeft (HasValue s.known) (is_settled s) c k
  least_left = record {
    known = least_known;
    is_left = least_not_settled;
    least = λ d w not has lt. elim (cases_eq d c) [
      | inl same ↦ (let moved : HasValue s.known c w = subst (λ x. HasValue s.known x w) same has in omega (arith, HasValue-single s.known c w k moved least_known))
      | inr other ↦ elim (least.comes_first d w other (key_of_left d w not has)) [
        | inl less ↦ omega arith
        | inr tie ↦ omega (arith, tie.0)
      ]
    ];
  }

  pub key_inside : c < length s.keys
  key_inside = elim (cases_lt c (length s.keys)) [ inl lt ↦ lt | inr le ↦ absurd (let e : None ≡ Some k = sym (get_or_past s.keys c None le) ∙ least.has_key in cc) ]

  taken_here : key_of taken.keys c ≡ None
  taken_here = get_or-set_at s.keys c c None None refl key_inside

  taken_other : (d : ℕ) → d ≢ c → key_of taken.keys d ≡ key_of s.keys d
  taken_other d other = get_or-set_other s.keys c d None None other

  pub settled_taken : IsSettling (is_settled s) (is_settled taken) c
  settled_taken = record {
    here = rw (taken_here, least_known.1) refl;
    kept = λ d is. elim (cases_eq d c) [
      | inl same ↦ absurd (false≢true (sym least_not_settled ∙ sym (ap (is_settled s) same) ∙ is))
      | inr other ↦ (rw (taken_other d other) is)
    ];
    only = λ d is. elim (cases_eq d c) [
      | inl same ↦ inr same
      | inr other ↦ inl (rw (sym (taken_other d other)) is)
    ];
  }

  -- a settled cell's value is not above that of the cell
  settled_by : (d u : ℕ) → is_settled taken d ≡ true → HasValue s.known d u → u ≤ k
  settled_by d u is has = elim (settled_taken.only d is) [
    | inl was ↦ under.search.settled_first d c u k was has least_not_settled least_known
    | inr same ↦ (let moved : HasValue s.known c u = subst (λ x. HasValue s.known x u) same has in omega (arith, HasValue-single s.known c u k moved least_known))
  ]

  module _ (new : Standing) (expanded : IsExpanded p.network c k (λ d. ⊤) taken new) where
    -- the expansions settle no cell, and unsettle none
    settled_new : (d : ℕ) → is_settled new d ≡ is_settled taken d
    settled_new d = go (expanded.each d)
      where
        go : Same taken new d ⊎ WasExpandedTo p.network c k taken new d → is_settled new d ≡ is_settled taken d
        go (inl same) = rw (same.label, same.key) refl
        go (inr to) = settled_kept to.offered (λ old is_old no_key. (
            let is : is_settled taken d ≡ true = rw (no_key, is_old) refl in
            omega (arith, settled_by d old.value is (old, is_old, refl), to.expands.value, sound.takes d)))

    pub settling_new : IsSettling (is_settled s) (is_settled new) c
    settling_new = record {
      here = settled_new c ∙ settled_taken.here;
      kept = λ d is. settled_new d ∙ settled_taken.kept d is;
      only = λ d is. settled_taken.only d (sym (settled_new d) ∙ is);
    }

    pub queued_new : (d q : ℕ) → key_of new.keys d ≡ Some q → HasValue new.known d q
    queued_new d q is = go (expanded.each d)
      where
        queued_taken : (r : ℕ) → key_of taken.keys d ≡ Some r → HasValue s.known d r
        queued_taken r has = elim (cases_eq d c) [
          | inl same ↦ absurd (let e : None ≡ Some r = sym taken_here ∙ ap (key_of taken.keys) (sym same) ∙ has in cc)
          | inr other ↦ under.queued d r (sym (taken_other d other) ∙ has)
        ]

        go : Same taken new d ⊎ WasExpandedTo p.network c k taken new d → HasValue new.known d q
        go (inl same) = let h = queued_taken q (sym same.key ∙ is) in (h.0, same.label ∙ h.1, h.2)
        go (inr to) = queued_kept to.offered queued_taken q is

    value_from : (d t : ℕ) → HasValue new.known d t → HasValue s.known d t ⊎ IsExpansion p.network c k d t
    value_from d t has = go (expanded.each d)
      where
        go : Same taken new d ⊎ WasExpandedTo p.network c k taken new d → HasValue s.known d t ⊎ IsExpansion p.network c k d t
        go (inl same) = inl (has.0, sym same.label ∙ has.1, has.2)
        go (inr to) = elim (label_from to.offered has.0 has.1) [
          | inl was ↦ inl (has.0, was, has.2)
          | inr offer ↦ (
              let value : to.value ≡ t = sym (ap (λ l. l.value) offer) ∙ has.2 in
              inr (subst (λ n. IsExpansion p.network c k d n) value to.expands))
        ]

    value_kept : (d t : ℕ) → HasValue s.known d t → HasAsGood (HasValue new.known) d t
    value_kept d t has = go (expanded.each d)
      where
        go : Same taken new d ⊎ WasExpandedTo p.network c k taken new d → HasAsGood (HasValue new.known) d t
        go (inl same) = (t, (has.0, same.label ∙ has.1, has.2), omega arith)
        go (inr to) = let x = as_good_as_old to.offered has.0 has.1 in (x.0.value, (x.0, x.1, refl), omega (arith, x.2, has.2))

    pub expanded_over : IsExpandedOver p.network c k (HasValue s.known) (HasValue new.known)
    expanded_over = record {
      from_old = value_from;
      old_kept = value_kept;
      expansions_in = λ d t e. expanded.done d t tt e;
    }

    pub search_new : IsSearch p.network p.starts (HasValue new.known) (is_settled new)
    search_new =
        search_goes_on p.network p.starts sound.takes (HasValue s.known) (is_settled s) under.search c k (HasValue new.known) (is_settled new)
        least_not_settled least_known least_left.least (HasValue-single new.known) expanded_over settling_new

    -- the values of settled cells stay
    pub settled_value_back : (d u : ℕ) → is_settled new d ≡ true → HasValue new.known d u → HasValue s.known d u
    settled_value_back d u is has = go (value_from d u has)
      where
        old : (w : ℕ) × HasValue s.known d w
        old = elim (settling_new.only d is) [ inl was ↦ under.search.settled_known d was | inr same ↦ (k, subst (λ x. HasValue s.known x k) (sym same) least_known) ]

        go : HasValue s.known d u ⊎ IsExpansion p.network c k d u → HasValue s.known d u
        go (inl was) = was
        go (inr e) =
            let good = value_kept d old.0 old.1 in
            let by = settled_by d old.0 (sym (settled_new d) ∙ is) old.1 in
            absurd (omega (arith, e.value, sound.takes d, good.2, by, HasValue-single new.known d u good.0 has good.1))

    pub settled_value_on : (d u : ℕ) → is_settled new d ≡ true → HasValue s.known d u → HasValue new.known d u
    settled_value_on d u is has =
        let good = value_kept d u has in
        let same : good.0 ≡ u = HasValue-single s.known d good.0 u (settled_value_back d good.0 is good.1) has in
        subst (λ n. HasValue new.known d n) same good.1
