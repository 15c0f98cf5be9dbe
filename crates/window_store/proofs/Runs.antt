-- What a run of steps makes of all lists, as one step more is gone through.
use Rattle.std.proofs.Common.{◌≡◌, ℕ, ◌+◌, ◌<◌, ◌≤◌, List, [], ◌∷◌, ◌++◌, length, get_or, take, drop, inl, inr, IsTrue, IsFalse, refl, sym, ◌∙◌, ap, subst, arith}
use Rattle.std.specs.Prelude.{Contains}
use Rattle.std.proofs.lemmas.Bool.{cases_Bool, both_ways, false_from_ne_true}
use Rattle.std.proofs.lemmas.List.{append-nil, append_assoc, map-append, drop_more, take_all, drop_all}
use Rattle.std.proofs.lemmas.List.Elements.{All-contains, Contains-push}
use Rattle.taxi_base.specs.declared.numbers.Segment.{Segment}
use Rattle.taxi_base.specs.declared.rows.Span.{Span}
use Rattle.taxi_base.specs.declared.rows.Step.{Step}
use Rattle.taxi_base.specs.Airport.{conflict, segment_of}
use Rattle.taxi_base.specs.Windows.{Hold, hold_of, holds_of}
use Rattle.taxi_base.proofs.HoldLaws.{conflict-turned}
use Rattle.interval_list.specs.declared.window.Window.{Window}
use Rattle.window_store.specs.Spans.{Listed, StandsForSpans}
use Rattle.window_store.specs.Stands.{ListStandsFor, StandsFor, HasRoomFor}
use Rattle.window_store.specs.Kept.{IsApartFrom, IsClearOf, KeepsWindows}
use Rattle.window_store.specs.Conflicting.{spans_in_conflict}
use Rattle.window_store.specs.Edits.{of_lists, list_in, ChangesConflicting, EachInConflict, KeepsOwned, StandsForLeft, KeepsClear, CanHold, IsHeld, IsReleased, AllKeepOwned, AreHeld, AreReleased}
use Rattle.window_store.specs.Stays.{done_by}
use Rattle.window_store.proofs.Standing.{in_conflict, list-spans, spans-list, list-moved_back, list-without, list-with, conflicting-append, conflicting-steps, conflicting-part}
use Rattle.window_store.proofs.Pieces.{All-front}
use Rattle.window_store.proofs.Staying.{none, done-apart, done-past, windows-wide}

-- ---- ids and nodes

KeepsOwned-both : (a b c : Listed) → KeepsOwned a b → KeepsOwned b c → KeepsOwned a c
KeepsOwned-both a b c first second = record { ids = λ id. second.ids id ∙ first.ids id; nodes = second.nodes ∙ first.nodes }

pub AllKeepOwned-none : (lists : List Listed) → AllKeepOwned lists lists
AllKeepOwned-none lists = record { as_many = refl; each = λ s low. record { ids = λ id. refl; nodes = refl } }

AllKeepOwned-more : (old mid new : List Listed) → AllKeepOwned old mid → length new ≡ length mid → ((s : Segment) → s.0 < length mid → KeepsOwned (list_in mid s) (list_in new s)) → AllKeepOwned old new
AllKeepOwned-more old mid new owned as_many each = record {
  as_many = as_many ∙ owned.as_many;
  each = λ s low. KeepsOwned-both (list_in old s) (list_in mid s) (list_in new s) (owned.each s low) (each s (omega (arith, owned.as_many)));
}

KeepsOwned-same : (old new : Listed) → new ≡ old → KeepsOwned old new
KeepsOwned-same old new same = subst (λ (l : Listed). KeepsOwned old l) (sym same) (record { ids = λ id. refl; nodes = refl })

-- The windows that an edit of the lists in conflict keeps: those so placed against the step and against the steps before.
module _ (sets : List (List Segment)) (Placed : Window → Span → Type 0) (Changed : Segment → Listed → Listed → Type 0) where
  KeepsWindows-more : (holds : List Hold) (h : Hold) (old mid new : List Listed)
      → ((s : Segment) (a b : Listed) (w : Window) → Changed s a b → Contains a.intervals.windows w → Placed w h.span → Contains b.intervals.windows w)
      → length mid ≡ length old → KeepsWindows Placed sets holds (of_lists old) (of_lists mid) → ChangesConflicting sets h.segment Changed mid new
      → KeepsWindows Placed sets (holds ++ h ∷ []) (of_lists old) (of_lists new)
  KeepsWindows-more holds h old mid new keeps as_many before changes s w low there against =
      let Against : Hold → Type 0 = λ g. IsTrue (conflict sets s g.segment) → Placed w g.span in
      let first = before s w low there (All-front Against holds (h ∷ []) against) in
      elim (cases_Bool (conflict sets h.segment s)) [
        | inl met ↦ keeps s (list_in mid s) (list_in new s) w (changes.changed s (omega (arith, low, as_many)) met) first
            (All-contains Against (holds ++ h ∷ []) h against (Contains-push holds h) (conflict-turned sets h.segment s met))
        | inr apart ↦ subst (λ (l : Listed). Contains l.intervals.windows w) (sym (changes.others s (λ met. both_ways _ apart met))) first
      ]

-- ---- holding

pub AreHeld-none : (horizon clearance : ℕ) (sets : List (List Segment)) (lists : List Listed) → AreHeld sets horizon clearance [] lists lists
AreHeld-none horizon clearance sets lists = record {
  stands = λ holds st. rw (append-nil holds) st;
  kept = λ s w low there against. there;
  owned = AllKeepOwned-none lists;
}

-- a step behind the others
holds-more : (horizon clearance : ℕ) (holds : List Hold) (before : List Step) (step : Step) → holds ++ holds_of horizon clearance (before ++ step ∷ []) ≡ (holds ++ holds_of horizon clearance before) ++ hold_of horizon clearance step ∷ []
holds-more horizon clearance holds before step =
    ap (λ (more : List Hold). holds ++ more) (map-append (hold_of horizon clearance) before (step ∷ [])) ∙ sym (append_assoc holds (holds_of horizon clearance before) (hold_of horizon clearance step ∷ []))

module _ (horizon clearance : ℕ) (sets : List (List Segment)) (before : List Step) (step : Step) (old mid new : List Listed) where
  held-stands : AreHeld sets horizon clearance before old mid → ChangesConflicting sets (segment_of step.arc) (IsHeld (hold_of horizon clearance step).span) mid new
      → (holds : List Hold) → StandsFor sets horizon holds (of_lists old) → StandsFor sets horizon (holds ++ holds_of horizon clearance (before ++ step ∷ [])) (of_lists new)
  held-stands held changes holds st s low =
      let h : Hold = hold_of horizon clearance step in
      let all : List Hold = holds ++ holds_of horizon clearance before in
      let exists : s.0 < length mid = omega (arith, low, changes.as_many) in
      let first : ListStandsFor sets horizon all s (list_in mid s) = held.stands holds st s exists in
      rw (holds-more horizon clearance holds before step) (elim (cases_Bool (conflict sets (segment_of step.arc) s)) [
        | inl met ↦
            let spans : StandsForSpans horizon (h.span ∷ spans_in_conflict sets s all) (list_in new s) =
            (changes.changed s exists met).stands horizon (spans_in_conflict sets s all) (list-spans sets horizon all s (list_in mid s) first) in
            let front : ListStandsFor sets horizon (h ∷ all) s (list_in new s) =
            spans-list sets horizon (h ∷ all) s (list_in new s) (rw (in_conflict sets s h all (conflict-turned sets (segment_of step.arc) s met)) spans) in
            list-moved_back sets s all h [] horizon (list_in new s) (rw (append-nil all) front)
        | inr apart ↦
            let other : IsFalse (conflict sets s h.segment) = false_from_ne_true _ (λ met. both_ways _ apart (conflict-turned sets s (segment_of step.arc) met)) in
            let same : list_in new s ≡ list_in mid s = changes.others s (λ met. both_ways _ apart met) in
            subst (λ (l : Listed). ListStandsFor sets horizon (all ++ h ∷ []) s l) (sym same)
            (list-with sets s all h [] horizon (list_in mid s) other (rw (append-nil all) first))
      ])

  pub AreHeld-more : AreHeld sets horizon clearance before old mid → ChangesConflicting sets (segment_of step.arc) (IsHeld (hold_of horizon clearance step).span) mid new → AreHeld sets horizon clearance (before ++ step ∷ []) old new
  AreHeld-more held changes = record {
    stands = held-stands held changes;
    kept = rw (map-append (hold_of horizon clearance) before (step ∷ [])) (KeepsWindows-more sets IsApartFrom (IsHeld (hold_of horizon clearance step).span) (holds_of horizon clearance before) (hold_of horizon clearance step) old mid new
        (λ s a b w is there apart. is.kept w there apart) held.owned.as_many held.kept changes);
    owned = AllKeepOwned-more old mid new held.owned changes.as_many (λ s low. elim (cases_Bool (conflict sets (segment_of step.arc) s)) [
      | inl met ↦ (changes.changed s low met).owned
      | inr apart ↦ KeepsOwned-same (list_in mid s) (list_in new s) (changes.others s (λ met. both_ways _ apart met))
    ]);
  }

-- a list in conflict with the next step can hold it
pub can_hold : (horizon clearance : ℕ) (sets : List (List Segment)) (steps : List Step) (k : ℕ) (d : Step) (old mid : List Listed) → (holds : List Hold) × StandsFor sets horizon holds (of_lists old)
    → HasRoomFor sets steps (of_lists old) → AreHeld sets horizon clearance (take k steps) old mid → k < length steps → EachInConflict sets (segment_of (get_or steps k d).arc) CanHold mid
can_hold horizon clearance sets steps k d old mid some room held low s exists met =
    let holds = some.0 in
    let in_old : s.0 < length old = omega (arith, exists, held.owned.as_many) in
    let was : ListStandsFor sets horizon holds s (list_in old s) = some.1 s in_old in
    let first : ListStandsFor sets horizon (holds ++ holds_of horizon clearance (take k steps)) s (list_in mid s) = held.stands holds some.1 s exists in
    record {
      stands = (horizon, spans_in_conflict sets s (holds ++ holds_of horizon clearance (take k steps)), list-spans sets horizon (holds ++ holds_of horizon clearance (take k steps)) s (list_in mid s) first);
      room = omega (
        arith,
        was.number,
        first.number,
        conflicting-append sets s holds (holds_of horizon clearance (take k steps)),
        conflicting-steps horizon clearance sets s (take k steps),
        room s in_old,
        (held.owned.each s in_old).nodes,
        conflicting-part sets s steps k d low (conflict-turned sets (segment_of (get_or steps k d).arc) s met),
      );
    }

-- ---- releasing

-- the windows that a release of the lists in conflict with a step keeps
module _ (sets : List (List Segment)) (Changed : Segment → Listed → Listed → Type 0) (holds : List Hold) (segment : Segment) (old mid new : List Listed) where
  KeepsWindows-clear : ((s : Segment) (a b : Listed) → Changed s a b → KeepsClear sets holds s a b) → ((s : Segment) (w : Window) → s.0 < length mid → Contains (list_in mid s).intervals.windows w → w.from < w.until)
      → length mid ≡ length old → KeepsWindows IsClearOf sets holds (of_lists old) (of_lists mid) → ChangesConflicting sets segment Changed mid new
      → KeepsWindows IsClearOf sets holds (of_lists old) (of_lists new)
  KeepsWindows-clear keeps wide as_many before changes s w low there against =
      let first = before s w low there against in
      let exists : s.0 < length mid = omega (arith, low, as_many) in
      elim (cases_Bool (conflict sets segment s)) [
        | inl met ↦ keeps s (list_in mid s) (list_in new s) (changes.changed s exists met) w (wide s w exists first) first against
        | inr apart ↦ subst (λ (l : Listed). Contains l.intervals.windows w) (sym (changes.others s (λ met. both_ways _ apart met))) first
      ]

  AllKeepOwned-conflicting : ((s : Segment) (a b : Listed) → Changed s a b → KeepsOwned a b) → AllKeepOwned old mid → ChangesConflicting sets segment Changed mid new → AllKeepOwned old new
  AllKeepOwned-conflicting keeps owned changes = AllKeepOwned-more old mid new owned changes.as_many (λ s low. elim (cases_Bool (conflict sets segment s)) [
    | inl met ↦ keeps s (list_in mid s) (list_in new s) (changes.changed s low met)
    | inr apart ↦ KeepsOwned-same (list_in mid s) (list_in new s) (changes.others s (λ met. both_ways _ apart met))
  ])

-- a segment that is not in conflict with a step
module _ (sets : List (List Segment)) (segment s : Segment) (apart : IsFalse (conflict sets segment s)) where
  turned-apart : IsFalse (conflict sets s segment)
  turned-apart = false_from_ne_true _ (λ met. both_ways _ apart (conflict-turned sets s segment met))

-- the first steps are held no longer, nor what goes on with them
pub record ReleasedSoFar (sets : List (List Segment)) (horizon clearance : ℕ) (rest : List Hold) (steps : List Step) (k : ℕ) (old new : List Listed) : Type 0 where
  pub stands : (s : Segment) → s.0 < length new → StandsForLeft sets horizon clearance steps k rest s (list_in new s)
  pub kept : KeepsWindows IsClearOf sets (holds_of horizon clearance steps) (of_lists old) (of_lists new)
  pub owned : AllKeepOwned old new

module _ (horizon clearance : ℕ) (sets : List (List Segment)) (rest : List Hold) (steps : List Step) where
  pub ReleasedSoFar-none : (lists : List Listed) → StandsFor sets horizon (rest ++ holds_of horizon clearance steps) (of_lists lists) → ReleasedSoFar sets horizon clearance rest steps 0 lists lists
  ReleasedSoFar-none lists st = record {
    stands = st;
    kept = λ s w low there against. there;
    owned = AllKeepOwned-none lists;
  }

  module _ (k : ℕ) (low : k < length steps) (old mid new : List Listed) (released : ReleasedSoFar sets horizon clearance rest steps k old mid) where
    abbrev freed : Step
    freed = get_or steps k none

    released-stands : ChangesConflicting sets (segment_of freed.arc) (IsReleased sets horizon clearance rest steps k) mid new
        → (s : Segment) → s.0 < length new → StandsForLeft sets horizon clearance steps (k + 1) rest s (list_in new s)
    released-stands changes s exists =
        let in_mid : s.0 < length mid = omega (arith, exists, changes.as_many) in
        let first : StandsForLeft sets horizon clearance steps k rest s (list_in mid s) = released.stands s in_mid in
        elim (cases_Bool (conflict sets (segment_of freed.arc) s)) [
          | inl met ↦ (changes.changed s in_mid met).stands first
          | inr apart ↦
              let other = turned-apart sets (segment_of freed.arc) s apart in
              let done = done-apart sets s steps k low other in
              let later : List Hold = holds_of horizon clearance (drop (k + 1) steps) in
              let before : ListStandsFor sets horizon (rest ++ holds_of horizon clearance (drop k steps)) s (list_in mid s) =
              subst (λ n. ListStandsFor sets horizon (rest ++ holds_of horizon clearance (drop n steps)) s (list_in mid s)) done.0 first in
              let parted : rest ++ holds_of horizon clearance (drop k steps) ≡ rest ++ hold_of horizon clearance freed ∷ later =
              ap (λ (left : List Step). rest ++ holds_of horizon clearance left) (drop_more steps k none low) in
              let fewer : ListStandsFor sets horizon (rest ++ later) s (list_in mid s) =
              list-without sets s rest (hold_of horizon clearance freed) later horizon (list_in mid s) other (subst (λ (holds : List Hold). ListStandsFor sets horizon holds s (list_in mid s)) parted before) in
              subst (λ n. ListStandsFor sets horizon (rest ++ holds_of horizon clearance (drop n steps)) s (list_in new s)) (sym done.1)
              (subst (λ (l : Listed). ListStandsFor sets horizon (rest ++ later) s l) (sym (changes.others s (λ met. both_ways _ apart met))) fewer)
        ]

    pub ReleasedSoFar-more : ChangesConflicting sets (segment_of freed.arc) (IsReleased sets horizon clearance rest steps k) mid new → ReleasedSoFar sets horizon clearance rest steps (k + 1) old new
    ReleasedSoFar-more changes = record {
      stands = released-stands changes;
      kept = KeepsWindows-clear sets (IsReleased sets horizon clearance rest steps k) (holds_of horizon clearance steps) (segment_of freed.arc) old mid new (λ s a b is. is.kept)
          (λ s w exists there. windows-wide sets horizon (rest ++ holds_of horizon clearance (drop (done_by sets s steps k) steps)) s (list_in mid s) w (released.stands s exists) there) released.owned.as_many released.kept changes;
      owned = AllKeepOwned-conflicting sets (IsReleased sets horizon clearance rest steps k) (holds_of horizon clearance steps) (segment_of freed.arc) old mid new (λ s a b is. is.owned) released.owned changes;
    }

  -- in the end none is held
  pub AreReleased-all : (k : ℕ) (old new : List Listed) → length steps ≤ k → ReleasedSoFar sets horizon clearance rest steps k old new → AreReleased sets horizon clearance rest steps (length steps) old new
  AreReleased-all k old new past released = record {
    stands = λ st s low.
        let none-left : drop (done_by sets s steps k) steps ≡ drop (length steps) steps =
        drop_all (done_by sets s steps k) steps (omega (arith, past, done-past sets s steps k)) ∙ sym (drop_all (length steps) steps (omega arith)) in
        subst (λ (left : List Step). ListStandsFor sets horizon (rest ++ holds_of horizon clearance left) s (list_in new s)) none-left (released.stands s low);
    kept = subst (λ (done : List Step). KeepsWindows IsClearOf sets (holds_of horizon clearance done) (of_lists old) (of_lists new)) (sym (take_all (length steps) steps (omega arith))) released.kept;
    owned = released.owned;
  }
