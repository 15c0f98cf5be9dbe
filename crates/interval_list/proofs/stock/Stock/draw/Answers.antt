use Rattle.std.proofs.Common.{◌≡◌, ◌-◌, ◌<◌, ◌∷◌, ◌++◌, length, IsPermutation, sym, ap, ◌∙◌, subst, arith}
use denote.RawPtr.{Ptr, null_ptr, ◌+ₚ◌}
use Rattle.interval_list.specs.Edits.{removed, item}
use Rattle.interval_list.specs.Cells.{Cell, places}
use Rattle.interval_list.specs.Blocks.{Stocked, AreOut, node_size, row_places, bodies}
use Rattle.interval_list.proofs.Edited.{map-removed, place_of-places}
use Rattle.interval_list.proofs.Handed.{out-next}
use Rattle.interval_list.proofs.Rows.{length-row_places, row_places-more}
use Rattle.interval_list.proofs.Spots.{length-places}
use Rattle.interval_list.proofs.stock.Stock.draw.Goals as goal

pub take-requires : goal.take-requires
take-requires c =
    let stock = c.self.inside in let cells = stock.blanks.cells in let blank = c.self.invariant.1 in
    let long : 0 < length (places cells) = subst (λ (s : Stocked). 0 < length s.blank) (sym c.self.view_is) c.in_ok-refill.ensures.ok in
    let some : 0 < stock.left = omega (arith, long, ap length blank, length-row_places stock.next.at stock.left) in
    (omega (arith, long, length-places cells), sym (place_of-places cells 0 ∙ ap (λ ps. item null_ptr ps 0) (blank ∙ row_places-more stock.next.at stock.left some)))

pub invariant_of-self : goal.invariant_of-self
invariant_of-self c =
    let stock = c.self.inside in let cells = stock.blanks.cells in let blank = c.self.invariant.1 in
    let long : 0 < length (places cells) = subst (λ (s : Stocked). 0 < length s.blank) (sym c.self.view_is) c.in_ok-refill.ensures.ok in
    let some : 0 < stock.left = omega (arith, long, ap length blank, length-row_places stock.next.at stock.left) in
    let begins = blank ∙ row_places-more stock.next.at stock.left some in
    let rest : places c.take.new.self.cells ≡ row_places (stock.next.at +ₚ node_size) (stock.left - 1) = ap places c.take.ensures.1 ∙ map-removed (λ (x : Cell). x.0) cells 0 ∙ ap (λ ps. removed ps 0) begins in
    (c.self.invariant.0, rest ∙ ap (λ (p : Ptr). row_places p (stock.left - 1)) (sym c.after-self-inside.ensures.place), λ more. c.after-self-inside.ensures.within)

pub returns-clause-ok : goal.returns-clause-ok
returns-clause-ok c used out =
    let stock = c.self.inside in let cells = stock.blanks.cells in let blank = c.self.invariant.1 in let made = bodies stock.blocks.blocks in
    let long : 0 < length (places cells) = subst (λ (s : Stocked). 0 < length s.blank) (sym c.self.view_is) c.in_ok-refill.ensures.ok in
    let some : 0 < stock.left = omega (arith, long, ap length blank, length-row_places stock.next.at stock.left) in
    let begins = blank ∙ row_places-more stock.next.at stock.left some in
    let rest : places c.take.new.self.cells ≡ row_places (stock.next.at +ₚ node_size) (stock.left - 1) = ap places c.take.ensures.1 ∙ map-removed (λ (x : Cell). x.0) cells 0 ∙ ap (λ ps. removed ps 0) begins in
    let first : places cells ≡ c.take.result.at ∷ places c.take.new.self.cells = begins ∙ (λ k. sym c.take.ensures.0 k ∷ sym rest k) in
    let now : AreOut used (record { made = made; blank = places cells }) = subst (AreOut used) (sym c.self.view_is) (c.refill.ensures.out used out) in
    out-next used (places c.take.new.self.cells) made c.take.result.at (subst (λ ps. IsPermutation (used ++ ps) made) first now)
