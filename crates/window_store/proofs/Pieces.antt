-- What holds of each element of a list, by its parts.
use Rattle.std.proofs.Common.{ℕ, zero, suc, ◌+◌, ◌<◌, List, [], ◌∷◌, ◌++◌, length, get_or, set, subst, arith}
use Rattle.std.specs.Prelude.{All}
use Rattle.std.proofs.lemmas.List.{get_or_append_left, get_or-append-add, length-append}
use Rattle.std.proofs.lemmas.List.Elements.{All-append}
use Rattle.interval_list.specs.Intervals.{owned}
use Rattle.window_store.specs.Spans.{Listed}
use Rattle.window_store.specs.Store.{ids_owned}

pub All-front : {X : Type 0} (P : X → Type 0) (xs ys : List X) → All P (xs ++ ys) → All P xs
All-front P xs ys all k d low = subst P (get_or_append_left xs ys d k low) (all k d (omega (arith, length-append xs ys)))

pub All-back : {X : Type 0} (P : X → Type 0) (xs ys : List X) → All P (xs ++ ys) → All P ys
All-back P xs ys all k d low = subst P (get_or-append-add xs ys k d) (all (length xs + k) d (omega (arith, length-append xs ys)))

-- the ids of all lists, once one of them is another
pub All-ids_set : (P : ℕ → Type 0) (lists : List Listed) (k : ℕ) (l : Listed) → All P (ids_owned lists) → All P (owned l.intervals) → All P (ids_owned (set lists k l))
All-ids_set P [] k l all here = all
All-ids_set P (m ∷ lists) zero l all here = All-append P (owned l.intervals) (ids_owned lists) here (All-back P (owned m.intervals) (ids_owned lists) all)
All-ids_set P (m ∷ lists) (suc k) l all here =
    All-append P (owned m.intervals) (ids_owned (set lists k l)) (All-front P (owned m.intervals) (ids_owned lists) all)
    (All-ids_set P lists k l (All-back P (owned m.intervals) (ids_owned lists) all) here)

-- the ids of one of the lists
pub All-ids_at : (P : ℕ → Type 0) (lists : List Listed) (k : ℕ) (d : Listed) → k < length lists → All P (ids_owned lists) → All P (owned (get_or lists k d).intervals)
All-ids_at P [] k d low all = absurd (omega arith)
All-ids_at P (m ∷ lists) zero d low all = All-front P (owned m.intervals) (ids_owned lists) all
All-ids_at P (m ∷ lists) (suc k) d low all = All-ids_at P lists k d (omega arith) (All-back P (owned m.intervals) (ids_owned lists) all)
