use Rattle.std.proofs.Common.{◌≡◌, ℕ, List, Option, None, ◌-◌, ◌+◌, ◌*◌, ◌<◌, ◌≤◌, length, map, take, min, sym, ap, ◌∙◌, arith}
use Rattle.std.specs.Int.{bit_at}
use Rattle.std.proofs.lemmas.List.{length-map, take_all}
use Rattle.std.proofs.lemmas.Nat.Bits.{bit_at-zero}
use Rattle.label_search.specs.Labels.{label_of}
use Rattle.label_search.specs.Groups.{bits_of_group}
use Rattle.label_search.specs.Values.{rows_from, value_kept, values_kept}
use Rattle.label_search.proofs.GroupLaws.{unmarked, marked_inside, taken_past, taken_more, taken_below}
use Rattle.label_search.proofs.Steps.{come_to_inside}
use Rattle.label_search.proofs.ValueLaws.{rows_skip, none_kept}
use Rattle.label_search.proofs.values.take_marked.Goals as goal
use Rattle.label_search.proofs.values.take_marked.Goals.{then-marks-ne0+in_ok-take_group, else-marks-ne0}

pub returns-clause-taken : goal.returns-clause-taken
returns-clause-taken g c =
    let p = g.C.ForwardCells.problem c.args.cells.now in
    let so_far = c.loop-group.invariant.taken in
    taken_below c.args.known.now c.loop-group.known c.args.groups.now c.loop-group.groups c.loop-group.group so_far p.count
    (omega (arith, c.loop-group-test.false, c.count.ensures, so_far.as_many)) c.requires.counted c.loop-group.invariant.rest
    (λ x label is. come_to_inside p c.requires.sound x (c.requires.come_to x label is))

pub returns-clause-rows : goal.returns-clause-rows
returns-clause-rows g c =
    let p = g.C.ForwardCells.problem c.args.cells.now in
    let known = c.args.known.now in
    let group = c.loop-group.group in
    let so_far = c.loop-group.invariant.taken in
    let rest = c.loop-group.invariant.rest in
    let values : List (Option ℕ) = values_kept c.args.bound known in
    let long : length values ≡ length known = length-map known (value_kept c.args.bound) in
    let none = taken_below known c.loop-group.known c.args.groups.now c.loop-group.groups group so_far p.count
    (omega (arith, c.loop-group-test.false, c.count.ensures, so_far.as_many)) c.requires.counted rest
    (λ x label is. come_to_inside p c.requires.sound x (c.requires.come_to x label is)) in
    c.loop-group.invariant.rows
    ∙ ap (map (g.C.ForwardCells.told c.args.cells.now))
    (sym (rows_skip values (min (group * 64) (length known)) (length known) (omega arith) (omega (arith, long))
    (λ x from less. none_kept c.args.bound known x (sym (rest x (omega (arith, from, less))) ∙ none x)))
    ∙ ap (rows_from 0) (take_all (length known) values (omega (arith, long))))

pub take_group-requires-clause-inside : goal.take_group-requires-clause-inside
take_group-requires-clause-inside g c =
    marked_inside c.args.known.now c.loop-group.known c.args.groups.now c.loop-group.groups c.loop-group.group c.loop-group.invariant.taken

pub take_group-requires-clause-come_to : goal.take_group-requires-clause-come_to
take_group-requires-clause-come_to g c x label from is = c.requires.come_to x label (sym (c.loop-group.invariant.rest x from) ∙ is)

pub loop-group-preserved : goal.loop-group-preserved
loop-group-preserved g c =
    let known = c.args.known.now in
    let now = c.loop-group.known in
    let groups = c.loop-group.groups in
    let bound = c.args.bound in
    let told = g.C.ForwardCells.told c.args.cells.now in
    let group = c.loop-group.group in
    let so_far = c.loop-group.invariant.taken in
    let rest = c.loop-group.invariant.rest in
    let rows = c.loop-group.invariant.rows in
    let on : group < length groups = omega (arith, c.loop-group-test.true, so_far.as_many) in
    let next : group * 64 + 64 ≡ (group + 1) * 64 = omega arith in
    elim c.if-marks-ne0.branch [
      | then-marks-ne0+in_ok-take_group w ↦
          rw (w.known-is, w.groups-is) (record {
            taken = taken_more known now c.args.groups.now groups group so_far w.take_group.new.known on w.take_group.ensures.length w.in_ok-take_group.ensures.taken w.take_group.ensures.others;
            rest = λ x from. w.take_group.ensures.rest x (omega (arith, from)) ∙ rest x (omega (arith, from));
            rows =
                w.rows-is
                ∙ w.in_ok-take_group.ensures.rows known rest (sym so_far.same_length) rows
                ∙ ap (λ n. map told (rows_from 0 (take (min n (length known)) (values_kept bound known)))) next;
          })
      | else-marks-ne0 w ↦ (
          let none : bits_of_group groups group ≡ 0 = omega (arith, w.if-marks-ne0.false) in
          let empty : (x : ℕ) → group * 64 ≤ x → x < group * 64 + 64 → label_of now x ≡ None = λ x from to.
          (let is : x ≡ group * 64 + (x - group * 64) = omega (arith, from) in
          ap (label_of now) is ∙ unmarked known now c.args.groups.now groups group so_far (x - group * 64) (omega (arith, from, to)) (ap (λ word. bit_at word (x - group * 64)) none ∙ bit_at-zero (x - group * 64))) in
          let long : length (values_kept bound known) ≡ length known = length-map known (value_kept bound) in
          rw (w.known-is, w.groups-is) (record {
            taken = taken_past known now c.args.groups.now groups group so_far none;
            rest = λ x from. rest x (omega (arith, from));
            rows =
                w.rows-is ∙ rows
                ∙ ap (map told) (sym (rows_skip (values_kept bound known) (min (group * 64) (length known)) (min ((group + 1) * 64) (length known)) (omega arith) (omega (arith, long))
                (λ x from less. none_kept bound known x (sym (rest x (omega (arith, from, less))) ∙ empty x (omega (arith, from, less)) (omega (arith, less))))));
          }))
    ]
