-- Lists get nodes one after another, and what stands beside them room.
use Rattle.std.proofs.Common.{◌≡◌, ℕ, ◌+◌, ◌<◌, ◌≤◌, List, length, length-set, get_or, set, inl, inr, sym, ◌∙◌, ap, arith}
use Rattle.std.proofs.lemmas.Bool.{cases_eq}
use Rattle.std.proofs.lemmas.List.{get_or-set_same, get_or-set_other, get_or_default}
use Rattle.taxi_base.specs.declared.numbers.Segment.{Segment}
use Rattle.conflict_sets.proofs.Members.{same_segment}
use Rattle.window_store.specs.Spans.{Listed, nodes}
use Rattle.window_store.specs.Store.{no_list}
use Rattle.window_store.specs.Edits.{list_in}
use Rattle.window_store.specs.Beside.{HasRoomBeside}

pub beside-at : (segments : ℕ) (room : Segment → ℕ) (lists : List Listed) (s : Segment) (d : Listed) → s.0 < length lists → HasRoomBeside segments room lists → nodes (get_or lists s.0 d) ≤ 1 + room s
beside-at segments room lists s d exists beside = omega (arith, beside.each s exists, ap (λ (l : Listed). nodes l) (get_or_default lists s.0 d no_list exists))

-- one list is another, for which there is room, and elsewhere there is no less than before
pub beside-set : (segments now : ℕ) (room more : Segment → ℕ) (lists : List Listed) (s : Segment) (l : Listed) → s.0 < length lists → now ≡ segments → ((t : Segment) → room t ≤ more t) → nodes l ≤ 1 + more s
    → HasRoomBeside segments room lists → HasRoomBeside now more (set lists s.0 l)
beside-set segments now room more lists s l exists same gained enough beside = record {
  as_many = omega (arith, same, beside.as_many, length-set lists s.0 l);
  each = λ t low. elim (cases_eq t.0 s.0) [
    | inl here ↦
        let is : list_in (set lists s.0 l) t ≡ l = ap (λ n. get_or (set lists s.0 l) n no_list) here ∙ get_or-set_same lists s.0 l no_list exists in
        omega (arith, ap (λ (m : Listed). nodes m) is, enough, ap more (same_segment s t (sym here)))
    | inr other ↦
        let is : list_in (set lists s.0 l) t ≡ list_in lists t = get_or-set_other lists s.0 t.0 l no_list other in
        omega (arith, ap (λ (m : Listed). nodes m) is, beside.each t (omega (arith, low, length-set lists s.0 l)), gained t)
  ];
}
