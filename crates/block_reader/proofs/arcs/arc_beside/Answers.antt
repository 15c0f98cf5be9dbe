use Rattle.std.proofs.Common.{◌≡◌, ◌∙◌, ◌<◌, ◌++◌, ◌∷◌, [], ℕ, Bool, true, List, length, Some, sym, ap, subst, arith}
use Rattle.std.specs.Prelude.{unwrap_or}
use Rattle.std.proofs.lemmas.List.{append_assoc}
use Rattle.taxi_base.specs.declared.numbers.Arc.{Arc}
use Rattle.taxi_base.specs.declared.numbers.Segment.{Segment}
use Rattle.taxi_base.specs.Airport.{Airport, IsWellFormed, arc_of}
use Rattle.taxi_base.proofs.AirportLaws.{arc_exists-segment}
use Rattle.taxi_text.specs.Fields.{sign_of}
use Rattle.airport_file.specs.Words.{segment_word, word_of_arc}
use Rattle.replies.specs.Printable.{HasArc}
use Rattle.block_reader.specs.Fields.{arc_of_word}
use Rattle.block_reader.specs.Reading.{behind, field_at}
use Rattle.block_reader.proofs.Pieces.{behind-takes}
use Rattle.block_reader.proofs.Spellings.{field-again}
use Rattle.block_reader.proofs.Places.{arc-segment, word_of_arc-of, arc-spelled}
use Rattle.block_reader.proofs.arcs.arc_beside.Goals as goal

-- behind the name of a segment a sign and a blank stand
stands : (airport : Airport) → IsWellFormed airport → (segment : Segment) (forward : Bool) → HasArc airport (arc_of segment forward) → (name bytes rest after : List ℕ)
    → segment_word airport segment ≡ name → behind name bytes ≡ Some rest → rest ≡ sign_of forward ∷ 32 ∷ after → field_at (arc_of_word airport) 32 bytes ≡ Some (arc_of segment forward, after)
stands airport well segment forward has name bytes rest after word first next =
    let whole : bytes ≡ word_of_arc airport (arc_of segment forward) ++ 32 ∷ after =
    behind-takes name bytes rest first
    ∙ ap (λ (l : List ℕ). name ++ l) next
    ∙ ap (λ (l : List ℕ). l ++ (sign_of forward ∷ 32 ∷ after)) (sym word)
    ∙ sym (append_assoc (segment_word airport segment) (sign_of forward ∷ []) (32 ∷ after))
    ∙ ap (λ (l : List ℕ). l ++ 32 ∷ after) (sym (word_of_arc-of airport segment forward)) in
    ap (field_at (arc_of_word airport) 32) whole ∙ field-again (arc-spelled airport well) 32 (omega arith) (arc_of segment forward) after has

pub segment_name-name-requires : goal.segment_name-name-requires
segment_name-name-requires c =
    let airport = c.args.airport.now in
    let segment = c.segment-segment.result in
    let has : HasArc airport c.of.result = rw c.graph.ensures at (sym c.exists.ensures ∙ c.if-not-exists.false) in
    subst (λ (s : Segment). s.0 < length airport.segments) (arc-segment segment true) (arc_exists-segment airport (arc_of segment true) (subst (λ (a : Arc). HasArc airport a) c.of.ensures has))

pub returns : goal.returns
returns c =
    let airport = c.args.airport.now in
    let segment = c.segment-segment.result in
    let forward = c.in_ok-forward.forward in
    let has : HasArc airport c.of-arc.result = rw c.graph-2.ensures at (sym c.exists-2.ensures ∙ c.if-not-exists-2.false) in
    let word : segment_word airport segment ≡ c.bytes.result.now = ap (λ o. unwrap_or o []) c.segment_name-name.ensures ∙ sym c.bytes.ensures.same in
    stands airport c.horizon.ensures.rules segment forward (subst (λ (a : Arc). HasArc airport a) c.of-arc.ensures has) c.bytes.result.now c.args.bytes.now c.in_ok-rest.rest.now c.in_ok-forward.rest.now
    word c.in_ok-rest.ensures c.in_ok-forward.ensures
    ∙ ap (λ (a : Arc). Some (a, c.in_ok-forward.rest.now)) (sym c.of-arc.ensures)
