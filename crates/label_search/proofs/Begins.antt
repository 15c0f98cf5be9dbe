-- The search begins with the start entries.
use Rattle.std.proofs.Common.{◌≡◌, ℕ, ◌+◌, ◌<◌, false, Option, Some, None, refl, sym, ap, ◌∙◌, subst, ◌⊎◌, inl, inr, arith, ◌↔◌}
use Rattle.std.proofs.lemmas.Bool.{cases_eq, cases_lt, false≢true}
use Rattle.label_queue.specs.Keys.{key_of, lesser}
use Rattle.label_core.specs.Labels.{IsStartEntry}
use Rattle.label_core.proofs.SearchEnds.{search_begins}
use Rattle.label_search.specs.declared.labels.Label.{Label}
use Rattle.label_search.specs.declared.cells.Run.{Run}
use Rattle.label_search.specs.Problem.{Problem, IsProblem, IsIn, IsPartWith, CanBegin}
use Rattle.label_search.specs.Labels.{Standing, label_of, HasValue, IsOffered, IsImproved}
use Rattle.label_search.specs.Labels.IsOffered.{first, lower, kept}
use Rattle.label_search.specs.Expanding.{HasRoom}
use Rattle.label_search.specs.Standing.{is_settled_by, is_settled, IsUnderway}
use Rattle.label_search.specs.Begun.{key_for, IsBegun, InRuns}
use Rattle.label_search.proofs.Settling.{HasValue-single}

-- an offer to a cell that has no label, or one with the same value
offered_again : {offer : Label} {l m : Option Label} {i j : Option ℕ} → IsOffered offer l i m j → i ≡ key_for l → ((old : Label) → l ≡ Some old → old.value ≡ offer.value)
    → (x : Label) × (m ≡ Some x) × (x.value ≡ offer.value) × (j ≡ key_for m)
offered_again {offer} (first key) no_key same = (offer, refl, refl, ap (λ (k : Option ℕ). Some (lesser k offer.value)) no_key)
offered_again {offer} (lower old key less) has_key same = absurd (omega (arith, same old refl))
offered_again {offer} (kept old key by) has_key same = (old, refl, same old refl, has_key)

-- a part that has all that are wanted has those of them that are wanted elsewhere
pub part_with_fewer : (V W : ℕ → Type 0) (whole part : Run) → ((c : ℕ) → W c → V c) → IsPartWith V whole part → IsPartWith W whole part
part_with_fewer V W whole part fewer is_part = record { within = is_part.within; wanted_in = λ c is wanted. is_part.wanted_in c is (fewer c wanted) }

module _ (p : Problem) where
  -- the cells of a part of a first run are below the count
  pub first_part_inside : IsProblem p → (k : ℕ) (part : Run) → k < p.first_runs → IsPartWith (CanBegin p) (p.first_run k) part → (c : ℕ) → IsIn part c → c < p.count
  first_part_inside sound k part below is_part c is = omega (arith, (is_part.within c is).until_end, sound.first_runs_inside k below)

  pub begun_none : (D : ℕ → Type 0) (s : Standing) → ((c : ℕ) → D c → ⊥) → HasRoom p.count s → ((c : ℕ) → label_of s.known c ≡ None) → ((c : ℕ) → key_of s.keys c ≡ None) → IsBegun p D s
  begun_none D s none room unlabelled unqueued = record {
    room = room;
    entry = λ c label is. absurd (let e : None ≡ Some label = sym (unlabelled c) ∙ is in cc);
    done = λ c t is e. absurd (none c is);
    key = λ c. unqueued c ∙ sym (ap key_for (unlabelled c));
  }

  -- the same cells in other words
  pub begun_as : (D E : ℕ → Type 0) (s : Standing) → IsBegun p D s → ((c t : ℕ) → E c → IsStartEntry p.network p.starts c t → D c) → IsBegun p E s
  begun_as D E s begun is_in = record { room = begun.room; entry = begun.entry; done = λ c t is e. begun.done c t (is_in c t is e) e; key = begun.key }

  start_single : (c t u : ℕ) → IsStartEntry p.network p.starts c t → IsStartEntry p.network p.starts c u → t ≡ u
  start_single c t u one two =
      let e : Some one.start ≡ Some two.start = sym one.here ∙ two.here in
      let same : one.start ≡ two.start = cc in
      omega (arith, one.value, two.value, ap (λ x. x.earliest) same, ap (λ x. x.exit_from) same)

  module _ (D : ℕ → Type 0) (s : Standing) (i : ℕ) (begun : IsBegun p D s) where
    -- a walk can't begin in the cell
    pub begun_past : ((t : ℕ) → IsStartEntry p.network p.starts i t → ⊥) → IsBegun p (λ c. D c ⊎ (c ≡ i)) s
    begun_past none = record {
      room = begun.room;
      entry = begun.entry;
      done = λ c t is e. elim is [
        | inl before ↦ begun.done c t before e
        | inr same ↦ absurd (none t (subst (λ x. IsStartEntry p.network p.starts x t) same e))
      ];
      key = begun.key;
    }

    -- it can, and the cell was offered the label
    pub begun_more : (new : Standing) (offer : Label) → IsStartEntry p.network p.starts i offer.value → IsImproved s new i offer → IsBegun p (λ c. D c ⊎ (c ≡ i)) new
    begun_more new offer is_entry improved = record {
      room = record { known = omega (arith, improved.lengths.known, begun.room.known); keys = omega (arith, improved.lengths.keys, begun.room.keys) };
      entry = entry;
      done = λ c t is e. elim (cases_eq c i) [
        | inl same ↦ (
            let moved : IsStartEntry p.network p.starts i t = subst (λ x. IsStartEntry p.network p.starts x t) same e in
            subst (λ x. HasValue new.known x t) (sym same) (here.0, here.1, here.2 ∙ start_single i offer.value t is_entry moved))
        | inr other ↦ elim is [
          | inl before ↦ (let old = begun.done c t before e in (old.0, (improved.elsewhere c other).label ∙ old.1, old.2))
          | inr same ↦ absurd (other same)
        ]
      ];
      key = λ c. elim (cases_eq c i) [
        | inl same ↦ subst (λ x. key_of new.keys x ≡ key_for (label_of new.known x)) (sym same) here.3
        | inr other ↦ (let e = improved.elsewhere c other in e.key ∙ begun.key c ∙ ap key_for (sym e.label))
      ];
    }
      where
        here : (x : Label) × (label_of new.known i ≡ Some x) × (x.value ≡ offer.value) × (key_of new.keys i ≡ key_for (label_of new.known i))
        here = offered_again improved.here (begun.key i) (λ old is. start_single i old.value offer.value (begun.entry i old is) is_entry)

        entry : (c : ℕ) (label : Label) → label_of new.known c ≡ Some label → IsStartEntry p.network p.starts c label.value
        entry c label is = elim (cases_eq c i) [
          | inl same ↦ (
              let at : label_of new.known i ≡ Some label = subst (λ x. label_of new.known x ≡ Some label) same is in
              let some : Some here.0 ≡ Some label = sym here.1 ∙ at in
              let label_is : here.0 ≡ label = cc in
              let value : offer.value ≡ label.value = sym here.2 ∙ ap (λ (l : Label). l.value) label_is in
              subst (λ x. IsStartEntry p.network p.starts x label.value) (sym same) (subst (λ n. IsStartEntry p.network p.starts i n) value is_entry))
          | inr other ↦ begun.entry c label (sym (improved.elsewhere c other).label ∙ is)
        ]

  -- all cells are done
  pub begun_all : (D : ℕ → Type 0) (s : Standing) → ((c t : ℕ) → IsStartEntry p.network p.starts c t → D c) → IsBegun p D s → IsUnderway p s
  begun_all D s all begun = record {
    room = begun.room;
    search = search_begins p.network p.starts (HasValue s.known) (is_settled s) exact (HasValue-single s.known) none_settled;
    queued = λ c key is. queued c key (label_of s.known c) refl is;
    traced = λ d label is. inl (begun.entry d label is);
    passed = λ c is. absurd (false≢true (sym (none_settled c) ∙ is));
  }
    where
      exact : (c t : ℕ) → HasValue s.known c t ↔ IsStartEntry p.network p.starts c t
      exact c t = (
        λ has. subst (λ v. IsStartEntry p.network p.starts c v) has.2 (begun.entry c has.0 has.1),
        λ e. begun.done c t (all c t e) e,
      )

      none_settled : (c : ℕ) → is_settled s c ≡ false
      none_settled c = rw (begun.key c) (go (label_of s.known c))
        where
          go : (o : Option Label) → is_settled_by o (key_for o) ≡ false
          go None = refl
          go (Some l) = refl

      queued : (c key : ℕ) (o : Option Label) → label_of s.known c ≡ o → key_of s.keys c ≡ Some key → HasValue s.known c key
      queued c key None empty is = absurd (let e : None ≡ Some key = ap key_for (sym empty) ∙ sym (begun.key c) ∙ is in cc)
      queued c key (Some l) some is =
          let e : Some l.value ≡ Some key = ap key_for (sym some) ∙ sym (begun.key c) ∙ is in
          let value : l.value ≡ key = cc in
          (l, some, value)

  -- those of the runs before one, and of its cells up to one, and no more, are those of the runs with it
  pub runs_more : (n c : ℕ) → InRuns p (n + 1) c → InRuns p n c ⊎ IsIn (p.first_run n) c
  runs_more n c is = elim (cases_lt is.0 n) [
    | inl before ↦ inl (is.0, before, is.2)
    | inr last ↦ inr (let same : is.0 ≡ n = omega (arith, is.1) in subst (λ k. IsIn (p.first_run k) c) same is.2)
  ]
