-- A store that is new: each list has one window, and one id that is drawn for it.
use Rattle.std.proofs.Common.{◌≡◌, ℕ, ◌+◌, ◌<◌, ◌≤◌, List, [], ◌∷◌, ◌++◌, length, get_or, refl, sym, ◌∙◌, ap, subst, arith}
use Rattle.std.specs.Prelude.{All, sum_by}
use Rattle.std.proofs.lemmas.List.{length_push, append-nil}
use Rattle.std.proofs.lemmas.List.Sums.{sum_by_push}
use Rattle.std.proofs.lemmas.List.Concat.{flat_map-append}
use Rattle.std.proofs.lemmas.List.Elements.{All-nil, All-push}
use Rattle.taxi_base.specs.declared.numbers.Segment.{Segment}
use Rattle.interval_list.specs.Intervals.{owned, times}
use Rattle.interval_list.proofs.Owning.{once-drawn, below-drawn}
use Rattle.window_store.specs.Spans.{Listed, nodes, StandsForSpans}
use Rattle.window_store.specs.Store.{of_lists_and_ids, IsStore, HaveRoom, no_list, ids_owned}
use Rattle.window_store.specs.Stands.{StandsFor}
use Rattle.window_store.proofs.Standing.{spans-list}

pub record AreFresh (horizon number : ℕ) (lists : List Listed) (next : ℕ) : Type 0 where
  pub count : length lists ≡ number
  pub numbered : next ≡ number
  pub once : (id : ℕ) → times id (ids_owned lists) ≤ 1
  pub below : All (λ id. id < next) (ids_owned lists)
  pub drawn : sum_by nodes lists ≡ number
  pub each : All (λ l. nodes l ≡ 1) lists
  pub stand : All (StandsForSpans horizon []) lists

pub AreFresh-none : (horizon : ℕ) → AreFresh horizon 0 [] 0
AreFresh-none horizon = record {
  count = refl;
  numbered = refl;
  once = λ id. omega arith;
  below = All-nil (λ id. id < 0);
  drawn = refl;
  each = All-nil (λ (l : Listed). nodes l ≡ 1);
  stand = All-nil (StandsForSpans horizon []);
}

pub AreFresh-push : (horizon count : ℕ) (lists : List Listed) (next more : ℕ) (l : Listed) → AreFresh horizon count lists next → more ≡ next + 1 → owned l.intervals ≡ next ∷ [] → nodes l ≡ 1
    → StandsForSpans horizon [] l → AreFresh horizon (count + 1) (lists ++ l ∷ []) more
AreFresh-push horizon count lists next more l fresh drawn ids one stands =
    let all : ids_owned (lists ++ l ∷ []) ≡ ids_owned lists ++ next ∷ [] =
    flat_map-append (λ (m : Listed). owned m.intervals) lists (l ∷ []) ∙ ap (λ (xs : List ℕ). ids_owned lists ++ xs) (append-nil (owned l.intervals) ∙ ids) in
    let bare : ids_owned lists ++ [] ≡ ids_owned lists = append-nil (ids_owned lists) in
    record {
      count = length_push lists l ∙ ap (λ n. n + 1) fresh.count;
      numbered = drawn ∙ ap (λ n. n + 1) fresh.numbered;
      once = λ id. subst (λ (xs : List ℕ). times id xs ≤ 1) (sym all)
          (once-drawn next (ids_owned lists) [] (subst (λ (xs : List ℕ). (k : ℕ) → times k xs ≤ 1) (sym bare) fresh.once) (subst (All (λ id. id < next)) (sym bare) fresh.below) id);
      below = subst (λ n. All (λ id. id < n) (ids_owned (lists ++ l ∷ []))) (sym drawn)
          (subst (All (λ id. id < next + 1)) (sym all) (below-drawn next (ids_owned lists) [] (subst (All (λ id. id < next)) (sym bare) fresh.below)));
      drawn = omega (arith, sum_by_push nodes lists l, fresh.drawn, one);
      each = All-push (λ (m : Listed). nodes m ≡ 1) lists l fresh.each one;
      stand = All-push (StandsForSpans horizon []) lists l fresh.stand stands;
    }

pub fresh-store : (horizon count : ℕ) (lists : List Listed) (next : ℕ) → AreFresh horizon count lists next → count ≤ 10000 → IsStore (of_lists_and_ids lists next)
fresh-store horizon count lists next fresh few = record {
  few = omega (arith, fresh.count, few);
  once = fresh.once;
  below = fresh.below;
  drawn = omega (arith, fresh.drawn, fresh.numbered);
  each = λ k d low. omega (arith, fresh.each k d low);
}

pub fresh-room : (horizon count : ℕ) (lists : List Listed) (next : ℕ) → AreFresh horizon count lists next → HaveRoom lists
fresh-room horizon count lists next fresh k d low = let stands = fresh.stand k d low in omega (arith, stands.number, stands.room)

pub fresh-stands : (sets : List (List Segment)) (horizon count : ℕ) (lists : List Listed) (next : ℕ) → AreFresh horizon count lists next → StandsFor sets horizon [] (of_lists_and_ids lists next)
fresh-stands sets horizon count lists next fresh s low = spans-list sets horizon [] s (get_or lists s.0 no_list) (fresh.stand s.0 no_list low)
