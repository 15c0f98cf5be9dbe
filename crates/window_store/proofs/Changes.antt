-- One list after another is changed, each once, and so just those in conflict with a segment.
use Rattle.std.proofs.Common.{◌≡◌, ◌≢◌, ℕ, ◌+◌, ◌<◌, ◌≤◌, List, [], ◌∷◌, ◌++◌, length, get_or, set, take, inl, inr, IsTrue, refl, sym, ◌∙◌, ap, subst, arith, length-set}
use Rattle.std.specs.Prelude.{Contains, All, AllPairs}
use Rattle.std.proofs.lemmas.List.{take_more, take_all, get_or-set_same, get_or-set_other, get_or-take, get_or_default, length-take-le}
use Rattle.std.proofs.lemmas.List.Elements.{Contains-push_cases, Contains-push, Contains-append_left, Contains-get_or, All-get_or}
use Rattle.taxi_base.specs.declared.numbers.Segment.{Segment}
use Rattle.taxi_base.specs.Airport.{conflict}
use Rattle.conflict_sets.specs.Conflicts.{AreConflicts}
use Rattle.conflict_sets.proofs.Members.{same_segment}
use Rattle.window_store.specs.Spans.{Listed}
use Rattle.window_store.specs.Store.{no_list}
use Rattle.window_store.specs.Edits.{list_in, ChangesEach, ChangesConflicting}

-- in a list of rising numbers none stands twice
pub not_before : (segments : List Segment) (i : ℕ) (d : Segment) → AllPairs (λ (a b : Segment). a.0 < b.0) segments → i < length segments → Contains (take i segments) (get_or segments i d) → ⊥
not_before segments i d rising low there =
    let k = there.0 in
    let within : k < i = omega (arith, there.1, length-take-le i segments (omega arith)) in
    let same : get_or segments k (get_or segments i d) ≡ get_or segments i d = sym (get_or-take i segments k (get_or segments i d) within) ∙ there.2 in
    let below = rising k i d within low in
    let numbers : (get_or segments k d).0 ≡ (get_or segments i d).0 =
    ap (λ (s : Segment). s.0) (get_or_default segments k d (get_or segments i d) (omega arith) ∙ same) in
    absurd (omega arith)

-- a list of a segment that exists and is in conflict, and is as it was
pub record Next (sets : List (List Segment)) (segment s : Segment) (old : List Listed) (l : Listed) : Type 0 where
  pub exists : s.0 < length old
  pub met : IsTrue (conflict sets segment s)
  pub same : l ≡ list_in old s

module _ (Changed : Segment → Listed → Listed → Type 0) where
  pub changes-none : (lists : List Listed) → ChangesEach (Contains []) Changed lists lists
  changes-none lists = record { as_many = refl; changed = λ s low h. absurd (omega (arith, h.1)); others = λ s h. refl }

  -- the list that comes next is as it was
  pub untouched : (segments : List Segment) (i : ℕ) (d : Segment) (old now : List Listed) → AllPairs (λ (a b : Segment). a.0 < b.0) segments → i < length segments
      → ChangesEach (Contains (take i segments)) Changed old now → list_in now (get_or segments i d) ≡ list_in old (get_or segments i d)
  untouched segments i d old now rising low changes = changes.others (get_or segments i d) (not_before segments i d rising low)

  pub changes-more : (segments : List Segment) (i : ℕ) (d : Segment) (old now : List Listed) (l : Listed) → AllPairs (λ (a b : Segment). a.0 < b.0) segments → i < length segments
      → (get_or segments i d).0 < length old → ChangesEach (Contains (take i segments)) Changed old now → Changed (get_or segments i d) (list_in old (get_or segments i d)) l
      → ChangesEach (Contains (take (i + 1) segments)) Changed old (set now (get_or segments i d).0 l)
  changes-more segments i d old now l rising low exists changes here = record {
    as_many = length-set now (get_or segments i d).0 l ∙ changes.as_many;
    changed = λ s below h. elim (Contains-push_cases (take i segments) (get_or segments i d) s (subst (λ (xs : List Segment). Contains xs s) (take_more segments i d low) h)) [
      | inl before ↦
          let other : s.0 ≢ (get_or segments i d).0 = λ e. not_before segments i d rising low (subst (Contains (take i segments)) (same_segment s (get_or segments i d) e) before) in
          subst (λ (m : Listed). Changed s (list_in old s) m) (sym (get_or-set_other now (get_or segments i d).0 s.0 l no_list other)) (changes.changed s below before)
      | inr e ↦ subst (λ (t : Segment). Changed t (list_in old t) (list_in (set now (get_or segments i d).0 l) t)) e
          (subst (λ (m : Listed). Changed (get_or segments i d) (list_in old (get_or segments i d)) m) (sym (get_or-set_same now (get_or segments i d).0 l no_list (omega (arith, changes.as_many, exists)))) here)
    ];
    others = λ s apart.
        let other : s.0 ≢ (get_or segments i d).0 = λ e.
        apart (subst (λ (xs : List Segment). Contains xs s) (sym (take_more segments i d low))
        (subst (Contains (take i segments ++ get_or segments i d ∷ [])) (sym (same_segment s (get_or segments i d) e)) (Contains-push (take i segments) (get_or segments i d)))) in
        get_or-set_other now (get_or segments i d).0 s.0 l no_list other
        ∙ changes.others s (λ before. apart (subst (λ (xs : List Segment). Contains xs s) (sym (take_more segments i d low)) (Contains-append_left (take i segments) (get_or segments i d ∷ []) s before)));
  }

  -- the list that comes next is one
  pub next : (sets : List (List Segment)) (segment : Segment) (segments : List Segment) (i n : ℕ) (d : Segment) (old now : List Listed) (e : Listed) → AreConflicts sets segment segments
      → All (λ t. t.0 < n) segments → length old ≡ n → i < length segments → ChangesEach (Contains (take i segments)) Changed old now
      → Next sets segment (get_or segments i d) old (get_or now (get_or segments i d).0 e)
  next sets segment segments i n d old now e all exist as_many low changes =
      let exists : (get_or segments i d).0 < length old = omega (arith, as_many, All-get_or (λ (t : Segment). t.0 < n) segments i d low exist) in
      record {
        exists = exists;
        met = (all.each (get_or segments i d)).0 (Contains-get_or segments i d low);
        same = get_or_default now (get_or segments i d).0 e no_list (omega (arith, exists, changes.as_many)) ∙ untouched segments i d old now all.rising low changes;
      }

  -- all of them are those in conflict
  pub changes-all : (sets : List (List Segment)) (segment : Segment) (segments : List Segment) (i : ℕ) (old now : List Listed) → AreConflicts sets segment segments → length segments ≤ i
      → ChangesEach (Contains (take i segments)) Changed old now → ChangesConflicting sets segment Changed old now
  changes-all sets segment segments i old now all past changes =
      let done : ChangesEach (Contains segments) Changed old now = subst (λ (xs : List Segment). ChangesEach (Contains xs) Changed old now) (take_all i segments past) changes in
      record {
        as_many = done.as_many;
        changed = λ s low h. done.changed s low ((all.each s).1 h);
        others = λ s apart. done.others s (λ h. apart ((all.each s).0 h));
      }
