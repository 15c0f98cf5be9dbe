-- What a search has found that is at its end.
use Rattle.std.proofs.Common.{◌≡◌, ℕ, ◌≤◌, ◌↔◌, List, [], ◌∷◌, length, get_or, take, map, reverse, arith, true, false, Option, Some, None, IfSome, IfNone, refl, sym, ap, ◌∙◌, ◌⊎◌, inl, inr}
use mathlib.Core.List.{reverse_aux, reverse-reverse}
use Rattle.std.proofs.lemmas.Bool.{cases_Bool}
use Rattle.std.proofs.lemmas.List.{length-map, length-take-le}
use Rattle.std.proofs.Math.Seq.{take-length}
use Rattle.label_core.specs.Walks.{IsEarliestExit}
use Rattle.label_core.specs.Tables.{IsBelow}
use Rattle.label_core.specs.Picked.{IsPicked}
use Rattle.label_core.specs.Best.{IsBestEnd, HasNoWalk, IsFirstBest, IsPickedRoute}
use Rattle.label_core.specs.Settling.{NoneLeftBelow, IsArrived}
use Rattle.label_core.proofs.SearchEnds.{outcome_table, outcome_best, outcome_none, outcome_first}
use Rattle.label_search.specs.declared.settle.Goal.{Goal}
use Rattle.label_search.specs.declared.pick.CellStep.{CellStep}
use Rattle.label_search.specs.Problem.{Problem, IsProblem}
use Rattle.label_search.specs.declared.labels.Label.{Label}
use Rattle.label_search.specs.Labels.{Standing, label_of, HasValue}
use Rattle.label_search.specs.Standing.{SettledValue, IsAtEnd}
use Rattle.label_search.specs.Values.{rows_from, value_kept, values_kept, AreExits}
use Rattle.label_search.specs.Answer.{step_of, end_of_goal, ComesBefore}
use Rattle.label_search.proofs.Steps.{traced_inside}
use Rattle.label_search.proofs.ValueLaws.{rows_skip, get_or-taken, kept_exact, none_kept}

map-reverse_aux : {A B : Type 0} (f : A → B) (xs ys : List A) → map f (reverse_aux xs ys) ≡ reverse_aux (map f xs) (map f ys)
map-reverse_aux f [] ys = refl
map-reverse_aux f (x ∷ xs) ys = map-reverse_aux f xs (x ∷ ys)

-- the steps that were turned, turned back
pub turned_back : (steps : List CellStep) → reverse (map step_of (reverse steps)) ≡ map step_of steps
turned_back steps = sym (map-reverse_aux step_of (reverse steps) []) ∙ ap (map step_of) (reverse-reverse steps)

module _ (p : Problem) (sound : IsProblem p) (s : Standing) where
  arrived : (goal : Option Goal) (ended : IsAtEnd p s goal) → IfSome (end_of_goal goal) (IsArrived (HasValue s.known) ended.settled p.target)
  arrived None ended = tt
  arrived (Some g) ended = record { cell = g.cell; is_target = ended.some.is_target; is_least = ended.some.least }

  empty : (goal : Option Goal) (ended : IsAtEnd p s goal) → IfNone (end_of_goal goal) (NoneLeftBelow (HasValue s.known) ended.settled None)
  empty None ended = ended.none
  empty (Some g) ended = tt

  none_below : (goal : Option Goal) (ended : IsAtEnd p s goal) → NoneLeftBelow (HasValue s.known) ended.settled (end_of_goal goal)
  none_below None ended = ended.none
  none_below (Some g) ended = ended.some.least.least

  -- the labels below the best end are the earliest exits below it
  pub end_table : (goal : Option Goal) → IsAtEnd p s goal → (c v : ℕ) → (HasValue s.known c v × IsBelow (end_of_goal goal) v) ↔ (IsEarliestExit p.network p.starts c v × IsBelow (end_of_goal goal) v)
  end_table goal ended c v = (λ h. go h (cases_Bool (ended.settled c)), λ h. (let row = exact.1 h in (row.1, row.2)))
    where
      exact : ((ended.settled c ≡ true) × HasValue s.known c v × IsBelow (end_of_goal goal) v) ↔ (IsEarliestExit p.network p.starts c v × IsBelow (end_of_goal goal) v)
      exact = outcome_table p.network p.starts sound.takes (HasValue s.known) ended.settled p.target ended.search ended.passed (end_of_goal goal) (arrived goal ended) (empty goal ended) c v

      go : HasValue s.known c v × IsBelow (end_of_goal goal) v → (ended.settled c ≡ true) ⊎ (ended.settled c ≡ false) → IsEarliestExit p.network p.starts c v × IsBelow (end_of_goal goal) v
      go h (inl is) = exact.0 (is, h.0, h.1)
      go h (inr not) = absurd (none_below goal ended c v not h.0 h.1)

  -- so the rows of the labels that are kept are those of the earliest exits
  pub end_values : (goal : Option Goal) → IsAtEnd p s goal → AreExits p.network p.starts p.count (end_of_goal goal) (rows_from 0 (values_kept (end_of_goal goal) s.known))
  end_values goal ended = record {
    known = take p.count all;
    as_many = length-take-le p.count all (omega (arith, many, ended.room.known));
    are_rows =
        ap (rows_from 0) (sym (take-length all))
        ∙ rows_skip all p.count (length all) (omega (arith, many, ended.room.known)) (omega arith) (λ c from before. past c from);
    exact = λ c v. (
      λ e. (end_table goal ended c v).0 ((kept_exact (end_of_goal goal) s.known c v).0 (sym (get_or-taken all p.count c past) ∙ e)),
      λ h. get_or-taken all p.count c past ∙ (kept_exact (end_of_goal goal) s.known c v).1 ((end_table goal ended c v).1 h),
    );
  }
    where
      all : List (Option ℕ)
      all = values_kept (end_of_goal goal) s.known

      many : length all ≡ length s.known
      many = length-map s.known (value_kept (end_of_goal goal))

      unlabelled : (c : ℕ) → p.count ≤ c → (o : Option Label) → label_of s.known c ≡ o → label_of s.known c ≡ None
      unlabelled c from None is = is
      unlabelled c from (Some l) is = absurd (omega (arith, traced_inside p sound (SettledValue s ended.settled) c l (ended.traced c l is)))

      past : (c : ℕ) → p.count ≤ c → get_or all c None ≡ None
      past c from = none_kept (end_of_goal goal) s.known c (unlabelled c from (label_of s.known c) refl)

  pub end_best : (goal : Option Goal) → IsAtEnd p s goal → IfSome (end_of_goal goal) (IsBestEnd p.network p.starts p.target)
  end_best goal ended = outcome_best p.network p.starts sound.takes (HasValue s.known) ended.settled p.target ended.search ended.passed (end_of_goal goal) (arrived goal ended)

  pub end_none : (goal : Option Goal) → IsAtEnd p s goal → IfNone (end_of_goal goal) (HasNoWalk p.network p.starts p.target)
  end_none goal ended = outcome_none p.network p.starts sound.takes (HasValue s.known) ended.settled p.target ended.search ended.passed (end_of_goal goal) (empty goal ended)

  module _ (g : Goal) (ended : IsAtEnd p s (Some g)) where
    first_best : IsFirstBest p.network p.starts ComesBefore p.target g.end g.cell
    first_best =
        outcome_first p.network p.starts sound.takes (HasValue s.known) ended.settled p.target ended.search ended.passed g.end g.cell (arrived (Some g) ended)
        (record { known = ended.some.least.known; is_target = ended.some.is_target; first = ended.some.first })

    -- what is picked back from the goal, turned, is the picked route
    pub end_route : (steps : List CellStep) → IsPicked p.network p.starts ComesBefore (IsEarliestExit p.network p.starts) g.cell g.end g.end (map step_of steps)
        → IsPickedRoute p.network p.starts ComesBefore p.target g.end (map step_of (reverse steps))
    end_route steps picked = record {
      cell = g.cell;
      last = first_best;
      picked = rw (turned_back steps) picked;
    }
