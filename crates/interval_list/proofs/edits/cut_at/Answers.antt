use Rattle.std.proofs.Common.{◌≡◌, ◌+◌, ◌-◌, ◌++◌, ◌∷◌, [], take, drop, sym, ap, ◌∙◌, subst, arith}
use Rattle.interval_list.specs.declared.window.Window.{Window}
use Rattle.interval_list.specs.Cells.{windows_of}
use Rattle.interval_list.specs.Intervals.{span, ids_of}
use Rattle.interval_list.specs.Steps.{window, top, cut_window}
use Rattle.interval_list.proofs.Cuts.{cut_both, cut_left, cut_right, cut_none}
use Rattle.interval_list.proofs.Handed.{same-set, same-put, same-take, same-trans}
use Rattle.interval_list.proofs.Spots.{two-pieces, one-piece, no-piece, place-same, place-put, place-taken, length-same}
use Rattle.interval_list.proofs.edits.cut_at.Goals as goal

pub next-next-requires : goal.next-next-requires
next-next-requires c =
    let old = c.args.windows.now in let new = c.set.new.self in let i = c.args.i in
    (omega (arith, c.requires.at.0, length-same old new c.set.ensures.places), c.requires.at.1 ∙ sym (place-same old new new i i c.set.ensures.places))

pub put-requires-clause-gap : goal.put-requires-clause-gap
put-requires-clause-gap c =
    let old = c.args.windows.now in let new = c.set.new.self in let i = c.args.i in let back : i + 1 - 1 ≡ i = omega arith in (
      omega (arith, c.requires.at.0, length-same old new c.set.ensures.places),
      λ some. rw back (c.requires.at.1 ∙ sym (place-same old new new i i c.set.ensures.places)),
      c.next-next.ensures,
    )

pub returns-then-until-whole-clause-windows : goal.returns-then-until-whole-clause-windows
returns-then-until-whole-clause-windows c =
    let old = c.args.windows.now in let i = c.args.i in let v = c.window-whole.result in let s = span c.args.from c.args.until in let ss = ids_of (windows_of c.args.spares.now) in
    let id : top ss ≡ c.top-id.result.id = ap top (ap ids_of c.pop-spare.ensures.windows) ∙ ap (λ (w : Window). w.id) (sym c.top-id.ensures) in
    let pieces = (cut_both s v ss c.if-whole-from.true c.if-until-whole.true).0 ∙ (λ k. window v.from (sym c.min.ensures k) v.id ∷ window (sym c.max.ensures k) v.until (id k) ∷ []) in
    subst (λ (w : Window). windows_of c.put.new.self ≡ take i (windows_of old) ++ (cut_window s w ss ++ drop (i + 1) (windows_of old))) c.window-whole.ensures
    (two-pieces old c.set.new.self c.put.new.self i _ _ (cut_window s v ss) c.requires.at.0 c.set.ensures.windows c.put.ensures.windows pieces)

pub returns-then-until-whole-clause-next : goal.returns-then-until-whole-clause-next
returns-then-until-whole-clause-next c = place-put c.args.windows.now c.set.new.self c.put.new.self c.args.i c.put.result.at c.set.ensures.places c.put.ensures.places

pub returns-then-whole-from-clause-windows : goal.returns-then-whole-from-clause-windows
returns-then-whole-from-clause-windows c =
    let old = c.args.windows.now in let i = c.args.i in let v = c.window-whole.result in let s = span c.args.from c.args.until in let ss = ids_of (windows_of c.args.spares.now) in
    let pieces = (cut_left s v ss c.if-whole-from.true c.if-until-whole.false).0 ∙ (λ k. window v.from (sym c.min.ensures k) v.id ∷ []) in
    subst (λ (w : Window). windows_of c.set.new.self ≡ take i (windows_of old) ++ (cut_window s w ss ++ drop (i + 1) (windows_of old))) c.window-whole.ensures
    (one-piece old c.set.new.self old i _ (cut_window s v ss) c.requires.at.0 c.set.ensures.windows pieces)

pub returns-then-whole-from-clause-next : goal.returns-then-whole-from-clause-next
returns-then-whole-from-clause-next c = place-same c.args.windows.now c.set.new.self c.set.new.self c.args.i (c.args.i + 1) c.set.ensures.places

pub returns-then-until-whole-2-clause-windows : goal.returns-then-until-whole-2-clause-windows
returns-then-until-whole-2-clause-windows c =
    let old = c.args.windows.now in let new = c.set-then-until-whole-2.new.self in let i = c.args.i in let v = c.window-whole.result in let s = span c.args.from c.args.until in let ss = ids_of (windows_of c.args.spares.now) in
    let pieces = (cut_right s v ss c.if-whole-from.false c.if-until-whole-2.true).0 ∙ (λ k. window (sym c.max.ensures k) v.until v.id ∷ []) in
    subst (λ (w : Window). windows_of new ≡ take i (windows_of old) ++ (cut_window s w ss ++ drop (i + 1) (windows_of old))) c.window-whole.ensures
    (one-piece old new old i _ (cut_window s v ss) c.requires.at.0 c.set-then-until-whole-2.ensures.windows pieces)

pub returns-then-until-whole-2-clause-next : goal.returns-then-until-whole-2-clause-next
returns-then-until-whole-2-clause-next c = let new = c.set-then-until-whole-2.new.self in place-same c.args.windows.now new new c.args.i (c.args.i + 1) c.set-then-until-whole-2.ensures.places

pub returns-clause-windows : goal.returns-clause-windows
returns-clause-windows c =
    let old = c.args.windows.now in let i = c.args.i in let v = c.window-whole.result in let s = span c.args.from c.args.until in let ss = ids_of (windows_of c.args.spares.now) in
    subst (λ (w : Window). windows_of c.take-node.new.self ≡ take i (windows_of old) ++ (cut_window s w ss ++ drop (i + 1) (windows_of old))) c.window-whole.ensures
    (no-piece old c.take-node.new.self old i (cut_window s v ss) c.requires.at.0 c.take-node.ensures.windows (cut_none s v ss c.if-whole-from.false c.if-until-whole-2.false).0)

pub returns-clause-next : goal.returns-clause-next
returns-clause-next c =
    let none : c.args.i + 0 ≡ c.args.i = omega arith in rw none (place-taken c.args.windows.now c.take-node.new.self c.take-node.new.self c.args.i c.take-node.ensures.places)

-- ---- no node is lost

pub returns-then-until-whole-clause-nodes : goal.returns-then-until-whole-clause-nodes
returns-then-until-whole-clause-nodes c =
    let old = c.args.windows.now in let set = c.set.new.self in let ss = c.args.spares.now in
    same-trans old ss set ss c.put.new.self c.pop-spare.new.self (same-set old ss set c.set.ensures.places)
    (same-put set ss c.put.new.self c.pop-spare.new.self (c.args.i + 1) c.pop-spare.result.at c.put.result.at c.pop-spare.ensures.places c.put.ensures.place c.put.ensures.places)

pub returns-then-whole-from-clause-nodes : goal.returns-then-whole-from-clause-nodes
returns-then-whole-from-clause-nodes c = same-set c.args.windows.now c.args.spares.now c.set.new.self c.set.ensures.places

pub returns-then-until-whole-2-clause-nodes : goal.returns-then-until-whole-2-clause-nodes
returns-then-until-whole-2-clause-nodes c = let set = c.set-then-until-whole-2 in same-set c.args.windows.now c.args.spares.now set.new.self set.ensures.places

pub returns-clause-nodes : goal.returns-clause-nodes
returns-clause-nodes c =
    same-take c.args.windows.now c.args.spares.now c.take-node.new.self c.push.new.self c.args.i c.args.place.at c.take-node.result.at c.requires.at.0 c.requires.at.1
    c.take-node.ensures.place c.take-node.ensures.places c.push.ensures.places
