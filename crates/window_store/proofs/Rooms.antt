-- Nodes are drawn for one list after another: ids stay apart, and nothing is lost.
use Rattle.std.proofs.Common.{◌≡◌, ◌≢◌, ℕ, zero, suc, ◌+◌, ◌-◌, ◌^◌, ◌<◌, ◌≤◌, max, List, [], ◌∷◌, ◌++◌, length, get_or, set, inl, inr, refl, sym, ◌∙◌, ap, subst, arith, length-set}
use Rattle.std.specs.Prelude.{All, slice_index_or}
use Rattle.std.proofs.lemmas.Bool.{cases_lt, cases_eq}
use Rattle.std.proofs.lemmas.List.{get_or-set_same, get_or-set_other, get_or_default, length-append}
use Rattle.std.proofs.lemmas.List.Sums.{sum_by-set, sum_by-le}
use Rattle.std.proofs.lemmas.List.Elements.{All-set, All-get_or}
use Rattle.taxi_base.specs.declared.numbers.Segment.{Segment}
use Rattle.interval_list.specs.declared.window.Window.{Window}
use Rattle.interval_list.specs.Intervals.{ids_of, owned, times, drawn}
use Rattle.interval_list.proofs.Owning.{times-append, times-other, times-here, times-below}
use Rattle.window_store.proofs.Pieces.{All-ids_set}
use Rattle.window_store.specs.Spans.{Listed, nodes}
use Rattle.window_store.specs.Store.{Store, of_lists_and_ids, IsStore, no_list, ids_owned}
use Rattle.window_store.specs.Kept.{GainsRoom}
use Rattle.window_store.specs.Edits.{list_in}
use Rattle.window_store.specs.Counts.{count_of, IsRoomier, GainsNodes}

-- how often an id is owned, once one list is another
pub times-set : (id : ℕ) (lists : List Listed) (k : ℕ) (l : Listed) → k < length lists
    → times id (ids_owned (set lists k l)) + times id (owned (get_or lists k no_list).intervals) ≡ times id (ids_owned lists) + times id (owned l.intervals)
times-set id [] k l low = absurd (omega arith)
times-set id (m ∷ lists) zero l low = omega (arith, times-append id (owned l.intervals) (ids_owned lists), times-append id (owned m.intervals) (ids_owned lists))
times-set id (m ∷ lists) (suc k) l low =
    omega (arith, times-set id lists k l (omega arith), times-append id (owned m.intervals) (ids_owned (set lists k l)), times-append id (owned m.intervals) (ids_owned lists))

-- the drawn ids are those from one on, each once
times-drawn_below : (id from count : ℕ) → id < from → times id (drawn from count) ≡ 0
times-drawn_below id from zero low = refl
times-drawn_below id from (suc count) low = times-other id (from + count) (drawn from count) (λ e. absurd (omega arith)) ∙ times-drawn_below id from count low

times-drawn_past : (id from count : ℕ) → from + count ≤ id → times id (drawn from count) ≡ 0
times-drawn_past id from zero past = refl
times-drawn_past id from (suc count) past = times-other id (from + count) (drawn from count) (λ e. absurd (omega arith)) ∙ times-drawn_past id from count (omega arith)

times-drawn_once : (id from count : ℕ) → times id (drawn from count) ≤ 1
times-drawn_once id from zero = omega arith
times-drawn_once id from (suc count) =
    elim (cases_eq (from + count) id) [
      | inl same ↦ subst (λ n. times n (drawn from (suc count)) ≤ 1) same (omega (arith, times-here (from + count) (drawn from count), times-drawn_past (from + count) from count (omega arith)))
      | inr other ↦ omega (arith, times-other id (from + count) (drawn from count) other, times-drawn_once id from count)
    ]

-- what is below a number is none above it
none-above : (next id : ℕ) (xs : List ℕ) → All (λ x. x < next) xs → next ≤ id → times id xs ≡ 0
none-above next id xs all high = times-below id xs (λ k d low. omega (arith, all k d low))

length-drawn : (from count : ℕ) → length (drawn from count) ≡ count
length-drawn from zero = refl
length-drawn from (suc count) = ap suc (length-drawn from count)

times-roomier : (wanted next more id : ℕ) (old new : Listed) → IsRoomier wanted next more old new → times id (owned new.intervals) ≡ times id (owned old.intervals) + times id (drawn next (more - next))
times-roomier wanted next more id old new is =
    let whole : owned new.intervals ≡ ids_of old.intervals.windows ++ (drawn next (more - next) ++ old.intervals.spare) =
    ap (λ (ws : List Window). ids_of ws ++ new.intervals.spare) is.windows ∙ ap (λ (ss : List ℕ). ids_of old.intervals.windows ++ ss) is.spare in
    omega (
      arith,
      ap (times id) whole,
      times-append id (ids_of old.intervals.windows) (drawn next (more - next) ++ old.intervals.spare),
      times-append id (drawn next (more - next)) old.intervals.spare,
      times-append id (ids_of old.intervals.windows) old.intervals.spare,
    )

-- the next number does not fall
roomier-next : (wanted next more : ℕ) (old new : Listed) → IsRoomier wanted next more old new → next ≤ more
roomier-next wanted next more old new is =
    omega (arith, is.count, ap length is.windows, ap length is.spare, length-drawn next (more - next), length-append (drawn next (more - next)) old.intervals.spare)

module _ (lists : List Listed) (k : ℕ) (l : Listed) (wanted next more : ℕ) where
  abbrev before : Store
  before = of_lists_and_ids lists next

  abbrev after : Store
  after = of_lists_and_ids (set lists k l) more

  IsStore-roomier : k < length lists → wanted ≤ 2 ^ 33 → IsStore before → IsRoomier wanted next more (get_or lists k no_list) l → IsStore after
  IsStore-roomier low small store is =
      let up : next ≤ more = roomier-next wanted next more (get_or lists k no_list) l is in
      let changed : (id : ℕ) → times id (ids_owned (set lists k l)) ≡ times id (ids_owned lists) + times id (drawn next (more - next)) = λ id.
      omega (arith, times-set id lists k l low, times-roomier wanted next more id (get_or lists k no_list) l is) in
      let each : nodes (get_or lists k no_list) ≤ 2 ^ 33 = All-get_or (λ (m : Listed). nodes m ≤ 2 ^ 33) lists k no_list low store.each in
      record {
        few = omega (arith, store.few, length-set lists k l);
        once = λ id. elim (cases_lt id next) [
          | inl old ↦ omega (arith, changed id, times-drawn_below id next (more - next) old, store.once id)
          | inr new ↦ omega (arith, changed id, times-drawn_once id next (more - next), none-above next id (ids_owned lists) store.below new)
        ];
        below = All-ids_set (λ id. id < more) lists k l (λ j d within. omega (arith, store.below j d within)) is.below;
        drawn = omega (arith, store.drawn, is.count, sum_by-set nodes lists k l no_list low);
        each = All-set (λ (m : Listed). nodes m ≤ 2 ^ 33) lists k l (omega (arith, is.most)) store.each;
      }

  -- a list that is changed at one place
  here-or-else : (P : ℕ → Listed → Listed → Type 0) (s : Segment) → k < length lists → P k (get_or lists k no_list) l → (s.0 ≢ k → P s.0 (list_in lists s) (list_in lists s)) → P s.0 (list_in lists s) (list_in (set lists k l) s)
  here-or-else P s low here else = elim (cases_eq s.0 k) [
    | inl same ↦ subst (λ n. P n (get_or lists n no_list) (get_or (set lists k l) n no_list)) (sym same) (subst (P k (get_or lists k no_list)) (sym (get_or-set_same lists k l no_list low)) here)
    | inr other ↦ subst (P s.0 (list_in lists s)) (sym (get_or-set_other lists k s.0 l no_list other)) (else other)
  ]

  pub GainsNodes-one : (counts : List ℕ) (d : Listed) → k < length lists → wanted ≤ 2 ^ 33 → wanted ≤ 1 + (get_or lists k d).held + slice_index_or counts k 0 → IsStore before → IsRoomier wanted next more (get_or lists k d) l
      → GainsNodes counts before after
  GainsNodes-one counts d low small few store was =
      let same = get_or_default lists k d no_list low in
      let number = ap (λ (m : Listed). m.held) same in
      let is : IsRoomier wanted next more (get_or lists k no_list) l = subst (λ (m : Listed). IsRoomier wanted next more m l) same was in
      let up : next ≤ more = roomier-next wanted next more (get_or lists k no_list) l is in
      record {
        store = IsStore-roomier low small store is;
        gained = record {
          lists = length-set lists k l;
          windows = λ s exists. here-or-else (λ n a b. b.intervals.windows ≡ a.intervals.windows) s low is.windows (λ _. refl);
          held = λ s exists. here-or-else (λ n a b. b.held ≡ a.held) s low is.held (λ _. refl);
          nodes = λ s exists. here-or-else (λ n a b. nodes a ≤ nodes b) s low (omega (arith, is.count)) (λ _. omega arith);
          horizon = refl;
        };
        most = λ s exists. here-or-else (λ n a b. nodes b ≤ max (nodes a) (1 + a.held + slice_index_or counts n 0)) s low (omega (arith, is.most, few, number)) (λ _. omega arith);
        ids = omega (arith, is.count, sum_by-set nodes lists k l no_list low);
      }

GainsRoom-none : (store : Store) → GainsRoom store store
GainsRoom-none store = record { lists = refl; windows = λ s low. refl; held = λ s low. refl; nodes = λ s low. omega arith; horizon = refl }

pub GainsNodes-none : (counts : List ℕ) (store : Store) → IsStore store → GainsNodes counts store store
GainsNodes-none counts store is = record { store = is; gained = GainsRoom-none store; most = λ s low. omega arith; ids = refl }

pub GainsRoom-both : (a b c : Store) → GainsRoom a b → GainsRoom b c → GainsRoom a c
GainsRoom-both a b c first second = record {
  lists = second.lists ∙ first.lists;
  windows = λ s low. second.windows s (omega (arith, low, first.lists)) ∙ first.windows s low;
  held = λ s low. second.held s (omega (arith, low, first.lists)) ∙ first.held s low;
  nodes = λ s low. omega (arith, second.nodes s (omega (arith, low, first.lists)), first.nodes s low);
  horizon = second.horizon ∙ first.horizon;
}

-- the counts do not fall
pub GainsNodes-both : (counts more : List ℕ) (a b c : Store) → GainsNodes counts a b → GainsNodes more b c → ((s : Segment) → s.0 < length a.lists → count_of counts s ≤ count_of more s) → GainsNodes more a c
GainsNodes-both counts more a b c first second up = record {
  store = second.store;
  gained = GainsRoom-both a b c first.gained second.gained;
  most = λ s low.
      let in_b : s.0 < length b.lists = omega (arith, low, first.gained.lists) in
      omega (arith, first.most s low, second.most s in_b, first.gained.held s low, up s low);
  ids = omega (arith, first.ids, second.ids);
}

-- the next id is far below what a word holds
pub next-below : (store : Store) → IsStore store → store.next < 2 ^ 50
next-below store is = omega (arith, is.drawn, is.few, sum_by-le nodes (2 ^ 33) store.lists is.each)
