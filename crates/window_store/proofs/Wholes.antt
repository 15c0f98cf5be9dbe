-- A store before and after its lists were edited.
use Rattle.std.proofs.Common.{◌≡◌, ℕ, suc, ◌+◌, ◌^◌, ◌<◌, ◌≤◌, List, [], ◌∷◌, ◌++◌, length, drop, refl, sym, ◌∙◌, ap, subst, arith, Vec, Global}
use Rattle.std.specs.Vec.{with_items}
use Rattle.std.specs.Prelude.{All, sum_by}
use Rattle.std.proofs.lemmas.Bool.{le-ltb}
use Rattle.std.proofs.lemmas.List.{append-nil, take_all, drop_all, with_items_is}
use Rattle.std.proofs.lemmas.List.Sums.{sum_by-cons}
use Rattle.std.proofs.lemmas.List.Elements.{All-get_or, All-from_get_or}
use Rattle.taxi_base.specs.declared.numbers.Segment.{Segment}
use Rattle.taxi_base.specs.declared.rows.Step.{Step}
use Rattle.taxi_base.specs.Windows.{Hold, holds_of, is_free, AreWindows}
use Rattle.interval_list.specs.declared.window.Window.{Window}
use Rattle.interval_list.specs.Intervals.{Intervals, owned, times, spans_of}
use Rattle.interval_list.proofs.Owning.{times-append, below-same}
use Rattle.window_store.specs.Spans.{Listed, nodes}
use Rattle.window_store.specs.Store.{IsStore, HaveRoom, EndBy, no_list, of_lists_and_ids, ids_owned}
use Rattle.window_store.specs.Stands.{ListStandsFor, StandsFor, HasRoomFor}
use Rattle.window_store.specs.Kept.{IsClearOf, KeepsWindows, KeepsNodes, GainsRoom, DrawsWhatIsLacking}
use Rattle.window_store.specs.Edits.{of_lists, list_in, KeepsOwned, AllKeepOwned, AreReleased}
use Rattle.window_store.proofs.Standing.{conflicting-append, conflicting-steps}
use Rattle.window_store.proofs.Spans.{windows-in_time}

-- what is written back is what the edits made
pub written : (lists : Vec Listed Global) (new : List Listed) → length new ≡ length lists.items → (with_items lists new).items ≡ new
written lists new as_many = with_items_is lists new (omega (arith, as_many, lists.ok.0))

-- the lists behind the first
owned-rest : (a b : Listed) (old new : List Listed) → AllKeepOwned (a ∷ old) (b ∷ new) → AllKeepOwned old new
owned-rest a b old new kept = record {
  as_many = omega (arith, kept.as_many);
  each = λ s low. kept.each (record { 0 = suc s.0 }) (omega arith);
}

owned-first : (a b : Listed) (old new : List Listed) → AllKeepOwned (a ∷ old) (b ∷ new) → KeepsOwned a b
owned-first a b old new kept = kept.each (record { 0 = 0 }) (omega arith)

times-kept : (id : ℕ) (old new : List Listed) → AllKeepOwned old new → times id (ids_owned new) ≡ times id (ids_owned old)
times-kept id [] [] kept = refl
times-kept id [] (b ∷ new) kept = absurd (omega (arith, kept.as_many))
times-kept id (a ∷ old) [] kept = absurd (omega (arith, kept.as_many))
times-kept id (a ∷ old) (b ∷ new) kept =
    omega (
      arith,
      times-append id (owned a.intervals) (ids_owned old),
      times-append id (owned b.intervals) (ids_owned new),
      (owned-first a b old new kept).ids id,
      times-kept id old new (owned-rest a b old new kept),
    )

nodes-kept : (old new : List Listed) → AllKeepOwned old new → sum_by nodes new ≡ sum_by nodes old
nodes-kept [] [] kept = refl
nodes-kept [] (b ∷ new) kept = absurd (omega (arith, kept.as_many))
nodes-kept (a ∷ old) [] kept = absurd (omega (arith, kept.as_many))
nodes-kept (a ∷ old) (b ∷ new) kept = omega (arith, sum_by-cons nodes a old, sum_by-cons nodes b new, (owned-first a b old new kept).nodes, nodes-kept old new (owned-rest a b old new kept))

-- a store stays one while its ids and nodes stay
pub IsStore-kept : (old new : List Listed) (next : ℕ) → IsStore (of_lists_and_ids old next) → AllKeepOwned old new → IsStore (of_lists_and_ids new next)
IsStore-kept old new next store kept =
    let before : Intervals = record { windows = []; spare = ids_owned old } in
    let after : Intervals = record { windows = []; spare = ids_owned new } in
    record {
      few = omega (arith, store.few, kept.as_many);
      once = λ id. omega (arith, times-kept id old new kept, store.once id);
      below = below-same before after next (λ id. times-kept id old new kept) store.below;
      drawn = omega (arith, store.drawn, nodes-kept old new kept);
      each = All-from_get_or (λ (l : Listed). nodes l ≤ 2 ^ 33) new no_list (λ i low.
          let in_old : i < length old = omega (arith, low, kept.as_many) in
          omega (arith, (kept.each (record { 0 = i }) in_old).nodes, All-get_or (λ (l : Listed). nodes l ≤ 2 ^ 33) old i no_list in_old store.each));
    }

pub KeepsNodes-kept : (old new : List Listed) (next : ℕ) → AllKeepOwned old new → KeepsNodes (of_lists_and_ids old next) (of_lists_and_ids new next)
KeepsNodes-kept old new next kept = record { lists = kept.as_many; nodes = λ s low. (kept.each s low).nodes; next = refl; horizon = refl }

-- a store that stands for holds has room
pub room-standing : (sets : List (List Segment)) (horizon : ℕ) (holds : List Hold) (lists : List Listed) → StandsFor sets horizon holds (of_lists lists) → HaveRoom lists
room-standing sets horizon holds lists stands =
    All-from_get_or (λ (l : Listed). 1 + l.held ≤ nodes l) lists no_list (λ i low. (stands (record { 0 = i }) low).room)

-- and its windows end by the horizon
pub ends-standing : (sets : List (List Segment)) (horizon : ℕ) (holds : List Hold) (lists : List Listed) → StandsFor sets horizon holds (of_lists lists) → EndBy horizon lists
ends-standing sets horizon holds lists stands =
    All-from_get_or (λ (l : Listed). All (λ (w : Window). w.until ≤ horizon) l.intervals.windows) lists no_list (λ i low.
    let s : Segment = record { 0 = i } in
    windows-in_time (is_free sets horizon holds s) horizon (list_in lists s).intervals.windows (λ t past. rw (le-ltb t horizon past) refl) (stands s low).windows)

-- ---- released

module _ (horizon clearance : ℕ) (sets : List (List Segment)) (rest : List Hold) (steps : List Step) (old new : List Listed)
    (released : AreReleased sets horizon clearance rest steps (length steps) old new) where
  pub released-all : StandsFor sets horizon (rest ++ holds_of horizon clearance steps) (of_lists old) → StandsFor sets horizon rest (of_lists new)
  released-all stands =
      let none : rest ++ holds_of horizon clearance (drop (length steps) steps) ≡ rest =
      ap (λ (left : List Step). rest ++ holds_of horizon clearance left) (drop_all (length steps) steps (omega arith)) ∙ append-nil rest in
      subst (λ (holds : List Hold). StandsFor sets horizon holds (of_lists new)) none (released.stands stands)

  pub released-kept : KeepsWindows IsClearOf sets (holds_of horizon clearance steps) (of_lists old) (of_lists new)
  released-kept = subst (λ (done : List Step). KeepsWindows IsClearOf sets (holds_of horizon clearance done) (of_lists old) (of_lists new)) (take_all (length steps) steps (omega arith)) released.kept

  -- there is room for the steps again
  pub released-room : StandsFor sets horizon (rest ++ holds_of horizon clearance steps) (of_lists old) → HasRoomFor sets steps (of_lists new)
  released-room stands s low =
      let in_old : s.0 < length old = omega (arith, low, released.owned.as_many) in
      let was : ListStandsFor sets horizon (rest ++ holds_of horizon clearance steps) s (list_in old s) = stands s in_old in
      let is : ListStandsFor sets horizon rest s (list_in new s) = released-all stands s low in
      omega (arith, was.room, was.number, is.number, (released.owned.each s in_old).nodes, conflicting-append sets s rest (holds_of horizon clearance steps), conflicting-steps horizon clearance sets s steps)

-- ---- given room

module _ (old new : List Listed) (next more : ℕ) (gained : GainsRoom (of_lists_and_ids old next) (of_lists_and_ids new more)) where
  pub reserved-ends : (horizon : ℕ) → EndBy horizon old → EndBy horizon new
  reserved-ends horizon ends = All-from_get_or (λ (l : Listed). All (λ (w : Window). w.until ≤ horizon) l.intervals.windows) new no_list (λ i low.
      let s : Segment = record { 0 = i } in
      let in_old : i < length old = omega (arith, low, gained.lists) in
      subst (All (λ (w : Window). w.until ≤ horizon)) (sym (gained.windows s in_old))
      (All-get_or (λ (l : Listed). All (λ (w : Window). w.until ≤ horizon) l.intervals.windows) old i no_list in_old ends))

  pub reserved-room : HaveRoom old → HaveRoom new
  reserved-room room = All-from_get_or (λ (l : Listed). 1 + l.held ≤ nodes l) new no_list (λ i low.
      let s : Segment = record { 0 = i } in
      let in_old : i < length old = omega (arith, low, gained.lists) in
      omega (arith, gained.held s in_old, gained.nodes s in_old, All-get_or (λ (l : Listed). 1 + l.held ≤ nodes l) old i no_list in_old room))

  pub reserved-stands : (sets : List (List Segment)) (horizon : ℕ) (holds : List Hold) → StandsFor sets horizon holds (of_lists old) → StandsFor sets horizon holds (of_lists new)
  reserved-stands sets horizon holds stands s low =
      let in_old : s.0 < length old = omega (arith, low, gained.lists) in
      let was : ListStandsFor sets horizon holds s (list_in old s) = stands s in_old in
      record {
        windows = subst (λ (ws : List Window). AreWindows (is_free sets horizon holds s) (spans_of ws)) (sym (gained.windows s in_old)) was.windows;
        number = gained.held s in_old ∙ was.number;
        room = omega (arith, was.room, gained.held s in_old, gained.nodes s in_old);
      }

-- ---- with the horizon

-- what is known of lists by themselves is known of a store with them, whatever its horizon
pub IsStore-whole : (lists : List Listed) (next horizon : ℕ) → IsStore (of_lists_and_ids lists next) → IsStore (record { lists = lists; next = next; horizon = horizon })
IsStore-whole lists next horizon is = record { few = is.few; once = is.once; below = is.below; drawn = is.drawn; each = is.each }

pub KeepsNodes-whole : (old new : List Listed) (next horizon : ℕ) → KeepsNodes (of_lists_and_ids old next) (of_lists_and_ids new next)
    → KeepsNodes (record { lists = old; next = next; horizon = horizon }) (record { lists = new; next = next; horizon = horizon })
KeepsNodes-whole old new next horizon kept = record { lists = kept.lists; nodes = kept.nodes; next = refl; horizon = refl }

pub GainsRoom-whole : (old new : List Listed) (next more horizon : ℕ) → GainsRoom (of_lists_and_ids old next) (of_lists_and_ids new more)
    → GainsRoom (record { lists = old; next = next; horizon = horizon }) (record { lists = new; next = more; horizon = horizon })
GainsRoom-whole old new next more horizon gained = record { lists = gained.lists; windows = gained.windows; held = gained.held; nodes = gained.nodes; horizon = refl }

pub DrawsWhatIsLacking-whole : (sets : List (List Segment)) (steps : List Step) (old new : List Listed) (next more horizon : ℕ) → DrawsWhatIsLacking sets steps (of_lists_and_ids old next) (of_lists_and_ids new more)
    → DrawsWhatIsLacking sets steps (record { lists = old; next = next; horizon = horizon }) (record { lists = new; next = more; horizon = horizon })
DrawsWhatIsLacking-whole sets steps old new next more horizon drawn = record { most = drawn.most; ids = drawn.ids }
