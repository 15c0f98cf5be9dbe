-- What is known while the holds of a flight that went are given back one after the other.
use Rattle.std.proofs.Common.{◌≡◌, ℕ, ◌<◌, ◌≤◌, ◌∷◌, ◌++◌, [], ◌⊎◌, inl, inr, Bool, true, false, ◌&&◌, ◌||◌, not, ltb, cond, List, length, IsTrue, IsFalse, refl, sym, ◌∙◌, ap, arith}
use Rattle.std.specs.List.{list_any}
use Rattle.std.proofs.lemmas.Bool.{cases_Bool, cond-true, cond-false, and_parts, lt-ltb, or_from, false≢true}
use Rattle.std.proofs.lemmas.Option.{slice_get_within}
use Rattle.std.proofs.lemmas.List.Folds.{list_any-append}
use Rattle.taxi_base.proofs.InOrder.{same_answer}
use Rattle.taxi_base.proofs.WindowLaws.{span_has-true}
use Rattle.taxi_base.specs.declared.numbers.Segment.{Segment}
use Rattle.taxi_base.specs.Airport.{Airport}
use Rattle.taxi_base.specs.Windows.{Hold, blocks, span_has, covers}
use Rattle.taxi_base.specs.Walks.{free_among}
use Rattle.conflict_sets.specs.Conflicts.{AreConflicts}
use Rattle.check_rows.specs.declared.known.KnownWindows.{KnownWindows}
use Rattle.check_rows.specs.Cuts.{is_among}
use Rattle.check_rows.specs.Known.{AreKnown, HaveMore}
use Rattle.check_rows.specs.Returns.{AreListsBack, AreKnownBut}
use Rattle.check_rows.proofs.ListCuts.{among-conflict, same-known}

-- ---- at first all of them are to be given back

sound-of : (a b x y : Bool) → IsTrue (a && (b && not (x || y))) → IsTrue (a && (b && not x))
sound-of true true true y free = free
sound-of true true false y free = refl
sound-of true false x y free = free
sound-of false b x y free = free

whole-of : (a b x y : Bool) → IsTrue (a && (b && not x)) → IsFalse y → IsTrue (a && (b && not (x || y)))
whole-of true true true y free none = free
whole-of true true false y free none = ap not none
whole-of true false x y free none = free
whole-of false b x y free none = free

pub but-first : (airport : Airport) (holds left before : List Hold) (known : KnownWindows) → HaveMore left holds before → AreKnown (length airport.segments) (free_among airport before) known
    → AreKnownBut airport holds left known
but-first airport holds left before known more are = record {
  count = are.count;
  each = λ s list is made.
      let windows = list.windows.items in
      let first = ltb s.0 (length airport.segments) in
      let held : ℕ → Bool = λ t. list_any (blocks airport.conflicts s t) holds in
      let going : ℕ → Bool = λ t. list_any (blocks airport.conflicts s t) left in
      let ws = (same-known airport known before (holds ++ left) (λ r t. sym (more r t)) are).each s list is made in
      let both : (t : ℕ) → covers windows t ≡ (first && (ltb t airport.horizon && not (held t || going t))) =
      λ t. ws.same t ∙ ap (λ b. first && (ltb t airport.horizon && not b)) (list_any-append (blocks airport.conflicts s t) holds left) in
      record {
        apart = ws.apart;
        sound = λ t has. sound-of first (ltb t airport.horizon) (held t) (going t) (sym (both t) ∙ has);
        whole = λ t free none. both t ∙ whole-of first (ltb t airport.horizon) (held t) (going t) free none;
      };
}

-- ---- in the end none is

pub but-none : (airport : Airport) (holds : List Hold) (known : KnownWindows) → AreKnownBut airport holds [] known → AreKnown (length airport.segments) (free_among airport holds) known
but-none airport holds known are = record {
  count = are.count;
  each = λ s list is made.
      let ws = are.each s list is made in
      record { apart = ws.apart; same = λ t. same_answer (covers list.windows.items t) (free_among airport holds s t) (ws.sound t) (λ free. ws.whole t free refl) };
}

-- ---- one of them is given back

picked : (inside x c : Bool) → IsTrue (cond inside (not x) c) → (IsTrue inside × IsFalse x) ⊎ IsTrue c
picked true true c has = absurd (false≢true has)
picked true false c has = inl (refl, refl)
picked false x c has = inr has

clear-of : (a b x : Bool) → IsTrue (a && (b && not x)) → IsFalse x
clear-of true true true free = absurd (false≢true free)
clear-of true true false free = refl
clear-of true false x free = absurd (false≢true free)
clear-of false b x free = absurd (false≢true free)

module _ (airport : Airport) (holds rest : List Hold) (hold : Hold) (in_time : hold.span.until ≤ airport.horizon) (segments : List Segment)
    (all : AreConflicts airport.conflicts hold.segment segments) where
  pub but-next : (old new : KnownWindows) → AreListsBack airport.conflicts holds segments hold.span old.lists.items new.lists.items → AreKnownBut airport holds (hold ∷ rest) old
      → AreKnownBut airport holds rest new
  but-next old new back are = record {
    count = back.count ∙ are.count;
    each = λ s list is made.
        let was = back.each s list is made in
        let before = are.each s was.0 was.1 was.2 in
        let low : s.0 < length airport.segments = omega (arith, slice_get_within new.lists.items s.0 list is, back.count, are.count) in
        let held : ℕ → Bool = λ t. list_any (blocks airport.conflicts s t) holds in
        let inside : ℕ → Bool = λ t. is_among segments s && span_has hold.span t in
        record {
          apart = was.3.apart;
          sound = λ t has. elim (picked (inside t) (held t) (covers was.0.windows.items t) (sym (was.3.seconds t) ∙ has)) [
            | inl there ↦
                let t_in = span_has-true hold.span t (and_parts (is_among segments s) (span_has hold.span t) there.0).1 in
                rw (lt-ltb s.0 (length airport.segments) low, lt-ltb t airport.horizon (omega (arith, t_in.1, in_time)), there.1) refl
            | inr had ↦ before.sound t had
          ];
          whole = λ t free none.
              let clear : IsFalse (held t) = clear-of (ltb s.0 (length airport.segments)) (ltb t airport.horizon) (held t) free in
              was.3.seconds t ∙ elim (cases_Bool (inside t)) [
                | inl met ↦ cond-true (inside t) (not (held t)) (covers was.0.windows.items t) met ∙ ap not clear
                | inr unmet ↦
                    let off : IsFalse (blocks airport.conflicts s t hold) = ap (λ b. b && span_has hold.span t) (sym (among-conflict airport hold.segment hold.span segments all s)) ∙ unmet in
                    cond-false (inside t) (not (held t)) (covers was.0.windows.items t) unmet
                    ∙ before.whole t free (or_from (blocks airport.conflicts s t hold) (list_any (blocks airport.conflicts s t) rest) off none)
              ];
        };
  }
