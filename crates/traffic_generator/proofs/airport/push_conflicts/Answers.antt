use Rattle.std.proofs.Common.{◌≡◌, ◌+◌, ◌*◌, ◌-◌, ◌%◌, ◌∷◌, [], map, sym, ap, arith, ◌∙◌, eq-eqb}
use Rattle.std.specs.Prelude.{◌==◌, filter}
use Rattle.std.proofs.lemmas.Bool.{ne_eqb}
use Rattle.airport_text.specs.Canonical.{numbers_below}
use Rattle.traffic_generator.specs.declared.places.Place.{Place}
use Rattle.traffic_generator.specs.Places.{place_at}
use Rattle.traffic_generator.specs.Texts.{and_lines}
use Rattle.traffic_generator.specs.Grid.{conflict_record}
use Rattle.traffic_generator.proofs.TextLaws.{and_lines-none, kept-line, dropped-line}
use Rattle.traffic_generator.proofs.airport.push_conflicts.Goals as goal
use Rattle.traffic_generator.proofs.airport.push_conflicts.Goals.{then-place-eq0+in_ok-push_conflict, else-place-eq0}

pub loop-number-init : goal.loop-number-init
loop-number-init c = sym (and_lines-none 44 _)

pub loop-number-preserved : goal.loop-number-preserved
loop-number-preserved c = elim c.if-place-eq0.branch [
  | then-place-eq0+in_ok-push_conflict w ↦
      let kept : ((place_at (c.args.side - 1) c.loop-number.number).row + (place_at (c.args.side - 1) c.loop-number.number).column) % 5 ≡ 0 =
      ap (λ (p : Place). (p.row + p.column) % 5) (sym c.place_at-place.ensures) ∙ w.if-place-eq0.true in
      kept-line 44 conflict_record (λ p. (p.row + p.column) % 5 == 0) (place_at (c.args.side - 1)) c.loop-number.number _ _ _ c.loop-number.invariant
      (eq-eqb _ 0 kept)
      (ap (λ v. v.items) w.text-is ∙ w.in_ok-push_conflict.ensures ∙ ap (λ p. and_lines 44 c.loop-number.text.items (conflict_record p ∷ [])) c.place_at-place.ensures)
  | else-place-eq0 w ↦
      dropped-line 44 conflict_record (λ p. (p.row + p.column) % 5 == 0) (place_at (c.args.side - 1)) c.loop-number.number _ _ _ c.loop-number.invariant
      (ne_eqb _ 0 (λ e. w.if-place-eq0.false (ap (λ (p : Place). (p.row + p.column) % 5) c.place_at-place.ensures ∙ e)))
      (ap (λ v. v.items) w.text-is)
]

pub returns : goal.returns
returns c =
    let all : c.loop-number.number ≡ (c.args.side - 1) * (c.args.side - 1) = omega (arith, c.loop-number-test.false, c.loop-number.auto.number-end) in
    c.loop-number.invariant
    ∙ ap (λ n. and_lines 44 c.args.text.now.items (map conflict_record (filter (λ p. (p.row + p.column) % 5 == 0) (map (place_at (c.args.side - 1)) (numbers_below n))))) all
