-- Which cells lead to a cell that is entered at a second, one run after another.
use Rattle.std.proofs.Common.{◌≡◌, ℕ, ◌+◌, ◌<◌, ◌≤◌, max, List, Option, Some, None, refl, subst, IsTrue, inl, inr, arith}
use Rattle.std.specs.Prelude.{⊤, IsSomeAnd}
use Rattle.std.proofs.lemmas.Bool.{cases_lt}
use Rattle.label_search.specs.declared.labels.Label.{Label}
use Rattle.label_search.specs.declared.pick.Entering.{Entering}
use Rattle.label_search.specs.declared.cells.Run.{Run}
use Rattle.label_search.specs.Problem.{Problem, IsProblem, IsIn, IsPartBefore}
use Rattle.label_search.specs.Labels.{label_of}
use Rattle.label_search.specs.Entering.{IsEntering, LeadsTo, IsFirstOf, AreInWindows}

module _ (p : Problem) (known : List (Option Label)) (to : Entering) (entering : IsEntering p to) where
  -- the test of one cell
  pub leads_by : (x : ℕ) → IsTrue (p.network.turn x to.cell) → IsSomeAnd (label_of known x) (λ l. (max l.value to.from ≡ to.enter) × (to.enter ≤ p.network.last x)) → LeadsTo p known to x
  leads_by x turn test = go (label_of known x) refl test
    where
      go : (o : Option Label) → label_of known x ≡ o → IsSomeAnd o (λ l. (max l.value to.from ≡ to.enter) × (to.enter ≤ p.network.last x)) → LeadsTo p known to x
      go None is so = absurd so
      go (Some l) is so = (
        l.value,
        (l, is, refl),
        record {
          by_turn = turn;
          value = omega (arith, so.0, entering.from);
          still_held = omega (arith, so.0, so.1, entering.from);
          in_time = entering.in_time;
        },
      )

  pub leads_not : (x : ℕ) → LeadsTo p known to x → IsSomeAnd (label_of known x) (λ l. (max l.value to.from ≡ to.enter) × (to.enter ≤ p.network.last x))
  leads_not x (u, has, e) = rw has.1 (omega (arith, e.value, has.2, entering.from), omega (arith, e.value, e.still_held))

  -- one more run
  pub first_more : (run first new : ℕ) → AreInWindows p known → ((k x : ℕ) → k < run → IsIn (p.run_before to.cell k) x → x < first → LeadsTo p known to x → ⊥)
      → (part : Run) → IsPartBefore p to.cell to.enter (p.run_before to.cell run) part → IsFirstOf p known to (IsIn part) new → new ≤ first
      → (k x : ℕ) → k < run + 1 → IsIn (p.run_before to.cell k) x → x < new → LeadsTo p known to x → ⊥
  first_more run first new windows none part is_part is_first by k x below is less leads = elim (cases_lt k run) [
    | inl before ↦ none k x before is (omega (arith, less, by)) leads
    | inr last ↦ (
        let same : k ≡ run = omega (arith, last, below) in
        let here : IsIn (p.run_before to.cell run) x = subst (λ n. IsIn (p.run_before to.cell n) x) same is in
        let e = leads.2 in
        is_first.none_before x less
        (is_part.open_in x here e.by_turn (omega (arith, windows x leads.0 leads.1, e.value)) (omega (arith, e.value, e.still_held))) leads)
  ]

  -- all runs
  pub first_of_all : IsProblem p → (runs first : ℕ) → p.runs_before to.cell ≤ runs → LeadsTo p known to first
      → ((k x : ℕ) → k < runs → IsIn (p.run_before to.cell k) x → x < first → LeadsTo p known to x → ⊥) → IsFirstOf p known to (λ x. ⊤) first
  first_of_all sound runs first all leads none = record {
    leads = leads;
    none_before = λ x less _ so. (let k = sound.turns_in_runs_before x to.cell so.2.by_turn in none k.0 x (omega (arith, k.1, all)) k.2 less so);
  }
