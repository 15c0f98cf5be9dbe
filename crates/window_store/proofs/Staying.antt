-- Stays: what they hold together, and how many steps are done for a segment.
use Rattle.std.proofs.Common.{◌≡◌, ℕ, zero, suc, ◌+◌, ◌<◌, ◌≤◌, Bool, true, false, ◌||◌, ◌&&◌, not, List, [], ◌∷◌, ◌++◌, length, take, drop, inl, inr, IsTrue, IsFalse, refl, sym, ◌∙◌, ap, subst, arith}
use Rattle.std.specs.Prelude.{All, Contains, max, min, nat_le, if◌then◌else◌}
use Rattle.std.proofs.lemmas.Bool.{cases_Bool, cases_lt, leb-true}
use Rattle.std.proofs.Math.Bool.{or-false}
use Rattle.std.proofs.lemmas.List.{map-append, map_more, at_drop_more, drop_more, drop-drop, take-append-drop, length-append, length-map, length-take-le}
use Rattle.std.proofs.lemmas.List.Elements.{All-head, All-tail, All-nil, All-cons, All-take, All-drop, All-map, All-contains, Contains-push}
use Rattle.std.proofs.lemmas.List.Folds.{list_any-append}
use Rattle.taxi_base.specs.declared.numbers.Segment.{Segment}
use Rattle.taxi_base.specs.declared.rows.Span.{Span}
use Rattle.taxi_base.specs.declared.rows.Step.{Step}
use Rattle.taxi_base.specs.Airport.{conflict, segment_of}
use Rattle.taxi_base.specs.Windows.{Hold, hold_of, holds_of, is_free, span_has, covers}
use Rattle.taxi_base.proofs.WindowLaws.{span_has-from, span_has-before, span_has-after, AreWindows-member}
use Rattle.taxi_base.proofs.ListLaws.{Contains-map}
use Rattle.interval_list.specs.declared.window.Window.{Window}
use Rattle.interval_list.specs.Intervals.{span, span_of, spans_of, KeepsUntouched}
use Rattle.window_store.specs.Spans.{Listed, StandsForSpans}
use Rattle.window_store.specs.Stands.{ListStandsFor}
use Rattle.window_store.specs.Kept.{IsClearOf, AgainstEach}
use Rattle.window_store.specs.Conflicting.{spans_in_conflict}
use Rattle.window_store.specs.declared.stays.Stay.{Stay}
use Rattle.window_store.specs.Stays.{step_at, joins, begins_stay, holding_on, done_by, spans_held, HaveSecondsOf, JoinTo, IsStay}
use Rattle.window_store.specs.Edits.{KeepsOwned, StandsForLeft, IsReleased}
use Rattle.window_store.proofs.Pieces.{All-front}
use Rattle.window_store.proofs.Spans.{same_spans}
use Rattle.window_store.proofs.Standing.{in_conflict, in_conflict-append, list-spans, spans-list}

abbrev pub none : Step
none = record { arc = record { 0 = 0 }; enter = 0; leave = 0 }

-- ---- spans that join

module _ (spans : List Span) (whole s : Span) (join : JoinTo spans whole) (low : whole.from ≤ s.from) (high : s.from ≤ whole.until) (some : s.from < s.until) where
  abbrev longer : Span
  longer = span whole.from (max whole.until s.until)

  either : (t : ℕ) → (span_has whole t || span_has s t) ≡ span_has longer t
  either t = elim (cases_lt t whole.from) [
    | inl before ↦ rw (span_has-before whole t before) (rw (span_has-before s t (omega arith)) (sym (span_has-before longer t before)))
    | inr from ↦ elim (cases_lt t whole.until) [
      | inl within ↦ rw (span_has-from whole t from within) (sym (span_has-from longer t from (omega arith)))
      | inr past ↦ rw (span_has-after whole t past) (elim (cases_lt t s.until) [
        | inl inside ↦ span_has-from s t (omega arith) inside ∙ sym (span_has-from longer t from (omega arith))
        | inr over ↦ span_has-after s t over ∙ sym (span_has-after longer t (omega arith))
      ])
    ]
  ]

  -- one more, which begins while the others are there
  pub JoinTo-more : JoinTo (spans ++ s ∷ []) longer
  JoinTo-more = record {
    some = omega (arith, join.some);
    seconds = λ t. list_any-append (λ w. span_has w t) spans (s ∷ []) ∙ rw (join.seconds t) (ap (λ b. span_has whole t || b) (or-false (span_has s t)) ∙ either t);
    clear = λ w wide each.
        let last : IsClearOf w s = All-contains (IsClearOf w) (spans ++ s ∷ []) s each (Contains-push spans s) in
        elim (join.clear w wide (All-front (IsClearOf w) spans (s ∷ []) each)) [
          | inl before ↦ inl before
          | inr behind ↦ elim last [ inl early ↦ absurd (omega (arith, early, behind, wide, high)) | inr late ↦ inr (omega (arith, late, behind)) ]
        ];
  }

-- what so many steps hold, and the next one, which begins while they are there
pub JoinTo-step : (horizon clearance : ℕ) (steps : List Step) (k : ℕ) (whole : Span) → k < length steps → JoinTo (spans_held horizon clearance (take k steps)) whole
    → whole.from ≤ (step_at steps k).enter → (step_at steps k).enter ≤ whole.until → (step_at steps k).enter < min horizon ((step_at steps k).leave + clearance)
    → JoinTo (spans_held horizon clearance (take (k + 1) steps)) (span whole.from (max whole.until (min horizon ((step_at steps k).leave + clearance))))
JoinTo-step horizon clearance steps k whole below join low high some =
    let this : Span = (hold_of horizon clearance (step_at steps k)).span in
    subst (λ (spans : List Span). JoinTo spans (longer (spans_held horizon clearance (take k steps)) whole this join low high some)) (sym (map_more (λ (t : Step). (hold_of horizon clearance t).span) steps k none below))
    (JoinTo-more (spans_held horizon clearance (take k steps)) whole this join low high some)

pub both_hold : (a b : Bool) → IsTrue (a && b) → IsTrue a × IsTrue b
both_hold true b h = (refl, h)
both_hold false b h = absurd (cc h)

pub joins-means : (a b : Step) → IsTrue (joins a b) → (a.enter ≤ b.enter) × (b.enter ≤ a.leave)
joins-means a b h =
    let both = both_hold (nat_le a.enter b.enter) (nat_le b.enter a.leave) h in
    (leb-true a.enter b.enter both.0, leb-true b.enter a.leave both.1)

-- ---- which steps are done

module _ (sets : List (List Segment)) (s : Segment) (steps : List Step) where
  abbrev pub meets : ℕ → Bool
  meets k = conflict sets s (segment_of (step_at steps k).arc)

  pub holding-next : (before : Step) (k : ℕ) → k < length steps
      → holding_on sets s before (drop k steps) ≡ (if meets k && joins before (step_at steps k) then suc (holding_on sets s (step_at steps k) (drop (k + 1) steps)) else 0)
  holding-next before k low = at_drop_more (holding_on sets s before) steps k none low

  done-behind : (k : ℕ) → done_by sets s steps (k + 1) ≡ (k + 1) + (if meets k then holding_on sets s (step_at steps k) (drop (k + 1) steps) else 0)
  done-behind k = let e : k + 1 ≡ suc k = omega arith in rw e refl

  -- at least the first steps are
  pub done-past : (k : ℕ) → k ≤ done_by sets s steps k
  done-past zero = omega arith
  done-past (suc k) = omega arith

  -- a step that is not in conflict is done in its turn
  done-before : (k : ℕ) → k < length steps → IsFalse (meets k) → done_by sets s steps k ≡ k
  done-before zero low apart = refl
  done-before (suc j) low apart =
      let none-on : holding_on sets s (step_at steps j) (drop (suc j) steps) ≡ 0 = holding-next (step_at steps j) (suc j) low ∙ rw apart refl in
      elim (cases_Bool (meets j)) [
        | inl met ↦ rw (met, none-on) (omega arith)
        | inr other ↦ rw other (omega arith)
      ]

  pub done-apart : (k : ℕ) → k < length steps → IsFalse (meets k) → (done_by sets s steps k ≡ k) × (done_by sets s steps (k + 1) ≡ k + 1)
  done-apart k low apart = (done-before k low apart, done-behind k ∙ rw apart (omega arith))

  -- one that goes on with the stay of the step before it is done with that one
  pub done-within : (k : ℕ) → k < length steps → IsTrue (meets k) → IsFalse (begins_stay sets s steps k) → done_by sets s steps (k + 1) ≡ done_by sets s steps k
  done-within zero low met within = absurd (cc within)
  done-within (suc j) low met within =
      elim (cases_Bool (meets j && joins (step_at steps j) (step_at steps (suc j)))) [
        | inl on ↦
            let both = both_hold (meets j) _ on in
            let more : holding_on sets s (step_at steps j) (drop (suc j) steps) ≡ suc (holding_on sets s (step_at steps (suc j)) (drop (suc j + 1) steps)) =
            holding-next (step_at steps j) (suc j) low ∙ rw (met, both.1) refl in
            done-behind (suc j) ∙ rw (met, both.0, more) (omega arith)
        | inr off ↦ absurd (not_both _ off within)
      ]
    where
      not_both : (b : Bool) → IsFalse b → IsFalse (not b) → ⊥
      not_both true h e = cc h
      not_both false h e = cc e

  -- where a stay begins its steps are done next
  pub done-begins : (k : ℕ) → k < length steps → IsTrue (begins_stay sets s steps k) → done_by sets s steps k ≡ k
  done-begins zero low begins = refl
  done-begins (suc j) low begins = elim (cases_Bool (meets j)) [
    | inl met ↦
        let apart = not_joined (joins (step_at steps j) (step_at steps (suc j))) (subst (λ b. IsTrue (not (b && joins (step_at steps j) (step_at steps (suc j))))) met begins) in
        let none-on : holding_on sets s (step_at steps j) (drop (suc j) steps) ≡ 0 = holding-next (step_at steps j) (suc j) low ∙ rw apart (neither (meets (suc j)) _) in
        rw (met, none-on) (omega arith)
    | inr other ↦ rw other (omega arith)
  ] where
    not_joined : (b : Bool) → IsTrue (not (true && b)) → IsFalse b
    not_joined true h = absurd (cc h)
    not_joined false h = refl

    neither : (a : Bool) (n : ℕ) → (if a && false then n else 0) ≡ 0
    neither true n = refl
    neither false n = refl

  pub done-stay : (k n : ℕ) → IsTrue (meets k) → n ≡ 1 + holding_on sets s (step_at steps k) (drop (k + 1) steps) → done_by sets s steps (k + 1) ≡ k + n
  done-stay k n met number = done-behind k ∙ rw met (omega arith)

-- ---- what a stay is among other holds

-- spans that have the seconds of one may stand for it
pub seconds-joined : (whole : Span) (own spans : List Span) → HaveSecondsOf whole own → (t : ℕ) → covers (whole ∷ spans) t ≡ covers (own ++ spans) t
seconds-joined whole own spans same t = ap (λ b. b || covers spans t) (sym (same t)) ∙ sym (list_any-append (λ w. span_has w t) own spans)

-- spans in the middle may stand in front
module _ (xs ys zs : List Span) where
  covers-in_front : (t : ℕ) → covers (xs ++ (ys ++ zs)) t ≡ covers (ys ++ (xs ++ zs)) t
  covers-in_front t =
      list_any-append has xs (ys ++ zs) ∙ ap (λ b. covers xs t || b) (list_any-append has ys zs)
      ∙ or_moved (covers xs t) (covers ys t) (covers zs t)
      ∙ ap (λ b. covers ys t || b) (sym (list_any-append has xs zs)) ∙ sym (list_any-append has ys (xs ++ zs))
    where
      has : Span → Bool
      has w = span_has w t

      or_moved : (a b c : Bool) → (a || (b || c)) ≡ (b || (a || c))
      or_moved true true c = refl
      or_moved true false c = refl
      or_moved false b c = refl

  length-in_front : length (xs ++ (ys ++ zs)) ≡ length (ys ++ (xs ++ zs))
  length-in_front = omega (arith, length-append xs (ys ++ zs), length-append ys zs, length-append ys (xs ++ zs), length-append xs zs)

module _ (sets : List (List Segment)) (horizon clearance : ℕ) (s : Segment) where
  -- steps that are all in conflict hold these spans
  own-spans : (own : List Step) → All (λ step. IsTrue (conflict sets s (segment_of step.arc))) own → spans_in_conflict sets s (holds_of horizon clearance own) ≡ spans_held horizon clearance own
  own-spans [] met = refl
  own-spans (step ∷ own) met =
      in_conflict sets s (hold_of horizon clearance step) (holds_of horizon clearance own) (All-head (λ (t : Step). IsTrue (conflict sets s (segment_of t.arc))) step own met)
      ∙ ap (λ (spans : List Span). (hold_of horizon clearance step).span ∷ spans) (own-spans own (All-tail (λ (t : Step). IsTrue (conflict sets s (segment_of t.arc))) step own met))

  module _ (own : List Step) (met : All (λ step. IsTrue (conflict sets s (segment_of step.arc))) own) (rest later : List Hold) where
    -- the spans of holds among which these are
    own-among : spans_in_conflict sets s (rest ++ (holds_of horizon clearance own ++ later)) ≡ spans_in_conflict sets s rest ++ (spans_held horizon clearance own ++ spans_in_conflict sets s later)
    own-among =
        in_conflict-append sets s rest (holds_of horizon clearance own ++ later)
        ∙ ap (λ (spans : List Span). spans_in_conflict sets s rest ++ spans) (in_conflict-append sets s (holds_of horizon clearance own) later ∙ ap (λ (spans : List Span). spans ++ spans_in_conflict sets s later) (own-spans own met))

    -- a list stands for them and for the others
    pub own-front : (l : Listed) → ListStandsFor sets horizon (rest ++ (holds_of horizon clearance own ++ later)) s l → StandsForSpans horizon (spans_held horizon clearance own ++ spans_in_conflict sets s (rest ++ later)) l
    own-front l stands =
        let xs = spans_in_conflict sets s rest in let ys = spans_held horizon clearance own in let zs = spans_in_conflict sets s later in
        let all : StandsForSpans horizon (xs ++ (ys ++ zs)) l =
        subst (λ (spans : List Span). StandsForSpans horizon spans l) own-among (list-spans sets horizon (rest ++ (holds_of horizon clearance own ++ later)) s l stands) in
        subst (λ (spans : List Span). StandsForSpans horizon (ys ++ spans) l) (sym (in_conflict-append sets s rest later))
        (same_spans horizon (xs ++ (ys ++ zs)) (ys ++ (xs ++ zs)) l (covers-in_front xs ys zs) (length-in_front xs ys zs) all)

  -- a window that is clear of what all steps hold is clear of what some of them hold
  module _ (w : Window) where
    abbrev Against : Step → Type 0
    Against step = IsTrue (conflict sets s (segment_of step.arc)) → IsClearOf w (hold_of horizon clearance step).span

    against-each : (steps : List Step) → AgainstEach IsClearOf sets s (holds_of horizon clearance steps) w → All Against steps
    against-each [] against = All-nil Against
    against-each (step ∷ steps) against =
        let IsClearOfHold : Hold → Type 0 = λ h. IsTrue (conflict sets s h.segment) → IsClearOf w h.span in
        All-cons Against step steps (All-head IsClearOfHold (hold_of horizon clearance step) (holds_of horizon clearance steps) against)
        (against-each steps (All-tail IsClearOfHold (hold_of horizon clearance step) (holds_of horizon clearance steps) against))

    pub against-own : (steps : List Step) (k n : ℕ) → AgainstEach IsClearOf sets s (holds_of horizon clearance steps) w → All (λ step. IsTrue (conflict sets s (segment_of step.arc))) (take n (drop k steps))
        → All (IsClearOf w) (spans_held horizon clearance (take n (drop k steps)))
    against-own steps k n against met =
        let some : All Against (take n (drop k steps)) = All-take Against n (drop k steps) (All-drop Against k steps (against-each steps against)) in
        All-map (IsClearOf w) (λ (step : Step). (hold_of horizon clearance step).span) (take n (drop k steps)) (λ i d low. some i d low (met i d low))

-- the windows of a list that stands for something are not empty
pub windows-wide : (sets : List (List Segment)) (horizon : ℕ) (holds : List Hold) (s : Segment) (l : Listed) (w : Window) → ListStandsFor sets horizon holds s l → Contains l.intervals.windows w → w.from < w.until
windows-wide sets horizon holds s l w stands there =
    (AreWindows-member (is_free sets horizon holds s) (spans_of l.intervals.windows) (span_of w) stands.windows (Contains-map span_of l.intervals.windows w there)).some

-- ---- what becomes of a list

module _ (sets : List (List Segment)) (horizon clearance : ℕ) (s : Segment) (steps : List Step) (k : ℕ) (low : k < length steps) (met : IsTrue (conflict sets s (segment_of (step_at steps k).arc))) where
  -- a step that goes on with the stay of the one before it changes nothing
  module _ (within : IsFalse (begins_stay sets s steps k)) (l : Listed) where
    same-owned : KeepsOwned l l
    same-owned = record { ids = λ id. refl; nodes = refl }

    pub IsReleased-within : (rest : List Hold) → IsReleased sets horizon clearance rest steps k s l l
    IsReleased-within rest = record {
      stands = λ st. subst (λ n. ListStandsFor sets horizon (rest ++ holds_of horizon clearance (drop n steps)) s l) (sym (done-within sets s steps k low met within)) st;
      kept = λ w wide there against. there;
      owned = same-owned;
    }

  module _ (begins : IsTrue (begins_stay sets s steps k)) (stay : Stay) (is : IsStay sets horizon clearance s (drop k steps) stay) where
    abbrev own : List Step
    own = take stay.steps (drop k steps)

    pub own-many : length (spans_held horizon clearance own) ≡ stay.steps
    own-many = length-map own (λ (step : Step). (hold_of horizon clearance step).span) ∙ length-take-le stay.steps (drop k steps) is.few

    -- then its steps are done
    done-next : done_by sets s steps (k + 1) ≡ k + stay.steps
    done-next =
        let first : IsStay sets horizon clearance s (step_at steps k ∷ drop (k + 1) steps) stay = subst (λ (left : List Step). IsStay sets horizon clearance s left stay) (drop_more steps k none low) is in
        done-stay sets s steps k stay.steps met first.number

    -- the list stands for the stay and for what is held besides
    pub stay-front : (rest : List Hold) (l : Listed) → StandsForLeft sets horizon clearance steps k rest s l
        → StandsForSpans horizon (spans_held horizon clearance own ++ spans_in_conflict sets s (rest ++ holds_of horizon clearance (drop stay.steps (drop k steps)))) l
    stay-front rest l st =
        let later : List Step = drop stay.steps (drop k steps) in
        let first : ListStandsFor sets horizon (rest ++ holds_of horizon clearance (drop k steps)) s l =
        subst (λ n. ListStandsFor sets horizon (rest ++ holds_of horizon clearance (drop n steps)) s l) (done-begins sets s steps k low begins) st in
        let parted : rest ++ holds_of horizon clearance (drop k steps) ≡ rest ++ (holds_of horizon clearance own ++ holds_of horizon clearance later) =
        ap (λ (h : List Hold). rest ++ h) (ap (λ (left : List Step). holds_of horizon clearance left) (sym (take-append-drop stay.steps (drop k steps))) ∙ map-append (hold_of horizon clearance) own later) in
        own-front sets horizon clearance s own is.met rest (holds_of horizon clearance later) l (subst (λ (h : List Hold). ListStandsFor sets horizon h s l) parted first)

    pub IsReleased-stay : (rest : List Hold) (old new : Listed)
        → (StandsForSpans horizon (spans_held horizon clearance own ++ spans_in_conflict sets s (rest ++ holds_of horizon clearance (drop stay.steps (drop k steps)))) old
        → StandsForSpans horizon (spans_in_conflict sets s (rest ++ holds_of horizon clearance (drop stay.steps (drop k steps)))) new)
        → KeepsUntouched stay.span old.intervals.windows new.intervals.windows → KeepsOwned old new → IsReleased sets horizon clearance rest steps k s old new
    IsReleased-stay rest old new stands kept owned = record {
      stands = λ st.
          let after : drop stay.steps (drop k steps) ≡ drop (done_by sets s steps (k + 1)) steps = drop-drop stay.steps k steps ∙ ap (λ n. drop n steps) (sym done-next) in
          subst (λ (left : List Step). ListStandsFor sets horizon (rest ++ holds_of horizon clearance left) s new) after
          (spans-list sets horizon (rest ++ holds_of horizon clearance (drop stay.steps (drop k steps))) s new (stands (stay-front rest old st)));
      kept = λ w wide there against. kept w there (is.joined.clear w wide (against-own sets horizon clearance s w steps k stay.steps against is.met));
      owned = owned;
    }
