use Rattle.std.proofs.Common.{◌≡◌, ℕ, ◌+◌, ◌-◌, List, [], ◌∷◌, ◌++◌, length, sym, ◌∙◌, ap, inl, inr, arith, length-append}
use Rattle.std.proofs.lemmas.Bool.{cases_eq}
use Rattle.std.proofs.lemmas.List.{length-map}
use Rattle.taxi_base.specs.declared.rows.Span.{Span}
use Rattle.interval_list.specs.declared.window.Window.{Window}
use Rattle.interval_list.specs.Intervals.{Intervals, span_of, spans_of, with_span, ids_of, owned, times, drawn, OwnsSame}
use Rattle.interval_list.proofs.Owning.{times-here, times-other, length-ids_of}
use Rattle.window_store.proofs.segment_windows.SegmentWindows.new.Goals as goal

-- a list of one id in which an id stands once is that id
one_id : (ids : List ℕ) (id : ℕ) → length ids ≡ 1 → times id ids ≡ 1 → ids ≡ id ∷ []
one_id [] id one once = absurd (omega (arith, one))
one_id (x ∷ []) id one once =
    elim (cases_eq x id) [ inl same ↦ ap (λ (y : ℕ). y ∷ []) same | inr other ↦ absurd (omega (arith, once, times-other id x [] other)) ]
one_id (x ∷ y ∷ ids) id one once = absurd (omega (arith, one))

-- the one id that is drawn is the next
drawn_one : (next after : ℕ) (spare : List ℕ) → after ≡ next + 1 → spare ≡ [] → drawn next (after - next) ++ spare ≡ next ∷ []
drawn_one next after spare more none =
    let one : after - next ≡ 1 = omega arith in
    let same : next + 0 ≡ next = omega arith in
    ap (λ (k : ℕ). drawn next k ++ spare) one ∙ ap (λ (ss : List ℕ). drawn next 1 ++ ss) none ∙ ap (λ (n : ℕ). n ∷ []) same

-- a list with one window and no spare node owns the one id that it owned
owns_one : (old new : Intervals) (id : ℕ) → length new.windows ≡ 1 → length new.spare ≡ 0 → owned old ≡ id ∷ [] → OwnsSame old new → owned new ≡ id ∷ []
owns_one old new id window no_spare was same =
    one_id (owned new) id (omega (arith, length-append (ids_of new.windows) new.spare, length-ids_of new.windows, window, no_spare))
    (same id ∙ ap (λ (ids : List ℕ). times id ids) was ∙ times-here id [])

-- a span among no others is the only one
one_span : (s : Span) (windows : List Window) (spans : List Span) → windows ≡ [] → spans ≡ with_span s (spans_of windows) → length spans ≡ 1
one_span s windows spans none same = ap length same ∙ ap (λ (ws : List Window). length (with_span s (spans_of ws))) none

pub returns-clause-owned : goal.returns-clause-owned
returns-clause-owned c =
    let next = c.args.ids.now.next in
    let reserved = c.in_ok-reserve.ensures in
    let no_window : c.reserve.new.self.windows ≡ [] = reserved.windows ∙ ap (λ (l : Intervals). l.windows) c.new-intervals.ensures in
    let no_spare : c.new-intervals.result.spare ≡ [] = ap (λ (l : Intervals). l.spare) c.new-intervals.ensures in
    let none : length c.new-intervals.result.spare ≡ 0 = ap length no_spare in
    let after : c.reserve.new.ids.next ≡ next + 1 = omega (arith, reserved.next, reserved.ok, none) in
    let one : c.reserve.new.self.spare ≡ next ∷ [] = reserved.spare ∙ drawn_one next c.reserve.new.ids.next _ after no_spare in
    let window : length c.add.new.self.windows ≡ 1 = sym (length-map c.add.new.self.windows span_of) ∙ one_span _ _ _ no_window c.add.ensures.spans in
    let spare : length c.add.new.self.spare ≡ 0 = omega (arith, c.add.ensures.number, window, ap length no_window, ap length one) in
    let was : owned c.reserve.new.self ≡ next ∷ [] = ap (λ (ws : List Window). ids_of ws ++ c.reserve.new.self.spare) no_window ∙ one in
    owns_one c.reserve.new.self c.add.new.self next window spare was c.add.ensures.ids
