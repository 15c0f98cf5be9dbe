-- What an edit made of a list: its spans and seconds, the windows that it left, the ids, and how many nodes there are.
use Rattle.std.proofs.Common.{◌≡◌, ℕ, ◌+◌, ◌<◌, not, ◌&&◌, ◌||◌, ◌++◌, List, length, sym, ap, ◌∙◌, subst, arith}
use Rattle.std.specs.Prelude.{Contains}
use Rattle.taxi_base.specs.declared.rows.Span.{Span}
use Rattle.taxi_base.specs.Windows.{span_has, covers, AreApart}
use Rattle.interval_list.specs.declared.window.Window.{Window}
use Rattle.interval_list.specs.Intervals.{Intervals, spans_of, ids_of, times, OwnsSame, IsNormal, without_span, with_span, KeepsUnmet, KeepsUntouched}
use Rattle.interval_list.specs.Steps.{cut, merged, HasRoomToCut, HasRoomToMerge}
use Rattle.interval_list.proofs.Seconds.{covers-without_span, covers-with_span, apart-without_span, apart-with_span}
use Rattle.interval_list.proofs.Cuts.{spans_of-cut, times-cut, length-cut, kept-cut, spans_of-merged, times-merged, length-merged, kept-merged}

pub record IsTakenOut (s : Span) (old new : Intervals) : Type 0 where
  pub spans : spans_of new.windows ≡ without_span s (spans_of old.windows)
  pub seconds : (t : ℕ) → covers (spans_of new.windows) t ≡ (covers (spans_of old.windows) t && not (span_has s t))
  pub kept : KeepsUnmet s old.windows new.windows
  pub ids : OwnsSame old new
  pub number : length new.windows + length new.spare ≡ length old.windows + length old.spare
  pub normal : IsNormal new

pub taken_out : (s : Span) (old new : Intervals) → s.from < s.until → IsNormal old → HasRoomToCut s old.windows old.spare
    → new.windows ≡ (cut s old.windows old.spare).0 → new.spare ≡ (cut s old.windows old.spare).1 → IsTakenOut s old new
taken_out s old new some normal room windows spare =
    let spans : spans_of new.windows ≡ without_span s (spans_of old.windows) = ap spans_of windows ∙ spans_of-cut s old.windows old.spare in
    let ids : OwnsSame old new = λ id. (λ k. times id (ids_of (windows k) ++ spare k)) ∙ times-cut s old.windows old.spare 0 some normal.apart room id in
    record {
      spans = spans;
      seconds = λ t. ap (λ (ws : List Span). covers ws t) spans ∙ covers-without_span s (spans_of old.windows) t;
      kept = λ w h away. subst (λ (ws : List Window). Contains ws w) (sym windows) (kept-cut s old.windows old.spare 0 some normal.apart w h away);
      ids = ids;
      number = omega (arith, ap length windows, ap length spare, length-cut s old.windows old.spare 0 some normal.apart room);
      normal = record {
        apart = subst (AreApart 0) (sym spans) (apart-without_span 0 s (spans_of old.windows) some normal.apart);
        once = λ id. omega (arith, ids id, normal.once id);
      };
    }

pub record IsGivenBack (s : Span) (old new : Intervals) : Type 0 where
  pub spans : spans_of new.windows ≡ with_span s (spans_of old.windows)
  pub seconds : (t : ℕ) → covers (spans_of new.windows) t ≡ (covers (spans_of old.windows) t || span_has s t)
  pub kept : KeepsUntouched s old.windows new.windows
  pub ids : OwnsSame old new
  pub number : length new.windows + length new.spare ≡ length old.windows + length old.spare
  pub normal : IsNormal new

pub given_back : (s : Span) (old new : Intervals) → s.from < s.until → IsNormal old → HasRoomToMerge s old.windows old.spare
    → new.windows ≡ (merged s old.windows old.spare).0 → new.spare ≡ (merged s old.windows old.spare).1 → IsGivenBack s old new
given_back s old new some normal room windows spare =
    let spans : spans_of new.windows ≡ with_span s (spans_of old.windows) = ap spans_of windows ∙ spans_of-merged s old.windows old.spare in
    let ids : OwnsSame old new = λ id. (λ k. times id (ids_of (windows k) ++ spare k)) ∙ times-merged s old.windows old.spare room id in
    record {
      spans = spans;
      seconds = λ t. ap (λ (ws : List Span). covers ws t) spans ∙ covers-with_span s (spans_of old.windows) t;
      kept = λ w h away. subst (λ (ws : List Window). Contains ws w) (sym windows) (kept-merged s old.windows old.spare 0 normal.apart w h away);
      ids = ids;
      number = omega (arith, ap length windows, ap length spare, length-merged s old.windows old.spare room);
      normal = record {
        apart = subst (AreApart 0) (sym spans) (apart-with_span 0 s (spans_of old.windows) (omega arith) some normal.apart);
        once = λ id. omega (arith, ids id, normal.once id);
      };
    }
