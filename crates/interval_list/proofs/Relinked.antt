-- A chain is linked once a node came, or went, and the links round it are written.
use Rattle.std.proofs.Common.{◌≡◌, ℕ, suc, ◌+◌, ◌-◌, ◌<◌, List, length, refl, sym, ap, ◌∙◌, subst, arith}
use denote.RawPtr.{Ptr}
use Rattle.interval_list.specs.declared.node.Node.{Node}
use Rattle.interval_list.specs.declared.node.Place.{Place}
use Rattle.interval_list.specs.declared.window.Window.{Window}
use Rattle.interval_list.specs.Edits.{inserted, removed}
use Rattle.interval_list.specs.Cells.{Cell, places, windows_of, no_cell, place_of, node_of, with_node, IsGap, AreLinked, first_leading, cells_leading, last_leading, cells_leading_back}
use Rattle.interval_list.proofs.Edited.{put_and_set, length-inserted, length-removed, length-replaced, map-inserted, map-removed, item-inserted_before, item-inserted_after, item-removed_before, item-removed_after}
use Rattle.interval_list.proofs.Linked.{next_is, prev_is, forward-with_node, forward-inserted, back-inserted, forward-removed, back-removed, back-led, last_leading-led, length-led, place_of-led, places-led, windows_of-led, places-with_node, windows_of-with_links}

-- what stands after the links round place i are written: forward to p, and back from node j to q
module _ (cs : List Cell) (i j : ℕ) (p q : Ptr) where
  abbrev pub written : List Cell
  written = cells_leading_back (cells_leading cs i p) j q

  pub length-written : length written ≡ length cs
  length-written = length-replaced (cells_leading cs i p) j _ ∙ length-led cs i p

  pub places-written : places written ≡ places cs
  places-written = places-with_node (cells_leading cs i p) j _ ∙ places-led cs i p

  pub windows_of-written : windows_of written ≡ windows_of cs
  windows_of-written = windows_of-with_links (cells_leading cs i p) j _ refl ∙ windows_of-led cs i p

module _ (cs : List Cell) (i : ℕ) (at : Ptr) (n : Node) (gap : IsGap cs i n.prev.at n.next.at) where
  abbrev more : List Cell
  more = inserted cs i (at, n)

  pub put-leads : 0 < i → (i - 1 < length more) × (n.prev.at ≡ place_of more (i - 1))
  put-leads some = (omega (arith, length-inserted cs i (at, n), gap.0), gap.1 some ∙ sym (ap (λ (c : Cell). c.0) (item-inserted_before no_cell cs i (i - 1) (at, n) (omega arith) gap.0)))

  pub put-leads_back : i < length cs → n.next.at ≡ place_of (cells_leading more i at) (i + 1)
  put-leads_back within =
      let e : i + 1 ≡ suc i = omega arith in
      rw e (gap.2 within ∙ sym (place_of-led more i (suc i) at ∙ ap (λ (c : Cell). c.0) (item-inserted_after no_cell cs i i (at, n) (omega arith))))

  pub put-linked : (first last : Ptr) → AreLinked first last cs
      → AreLinked (first_leading first i at) (last_leading (cells_leading more i at) last (i + 1) at) (written more i (i + 1) at at)
  put-linked first last linked =
      let e : i + 1 ≡ suc i = omega arith in
      rw e (
        forward-with_node (first_leading first i at) (cells_leading more i at) (suc i) _ (forward-inserted first cs i at n linked.0 gap.0 gap.2) refl,
        rw (last_leading-led more i at last (suc i) at) (back-led more i (suc i) _ at at (omega arith) (back-inserted cs last i at n linked.1 gap.0 gap.1)),
      )

module _ (cs : List Cell) (i : ℕ) (first last : Ptr) (linked : AreLinked first last cs) (within : i < length cs) where
  abbrev fewer : List Cell
  fewer = removed cs i

  abbrev here : Node
  here = node_of cs i

  pub take-leads : 0 < i → (i - 1 < length fewer) × (here.prev.at ≡ place_of fewer (i - 1))
  take-leads some =
      let e : suc (i - 1) ≡ i = omega arith in
      let before : (node_of cs (suc (i - 1))).prev.at ≡ place_of cs (i - 1) = prev_is cs last (i - 1) linked.1 (omega arith) in
      (omega (arith, length-removed cs i within), subst (λ (k : ℕ). (node_of cs k).prev.at ≡ place_of cs (i - 1)) e before ∙ sym (ap (λ (c : Cell). c.0) (item-removed_before no_cell cs i (i - 1) (omega arith))))

  pub take-leads_back : i + 1 < length cs → here.next.at ≡ place_of (cells_leading fewer i here.next.at) i
  take-leads_back more =
      next_is first cs i linked.0 (omega arith) ∙ sym (place_of-led fewer i i here.next.at ∙ ap (λ (c : Cell). c.0) (item-removed_after no_cell cs i i (omega arith)))

  pub take-linked : AreLinked (first_leading first i here.next.at) (last_leading (cells_leading fewer i here.next.at) last i here.prev.at) (written fewer i i here.next.at here.prev.at)
  take-linked = (
    forward-with_node (first_leading first i here.next.at) (cells_leading fewer i here.next.at) i _ (forward-removed first cs i linked.0 within) refl,
    rw (last_leading-led fewer i here.next.at last i here.prev.at) (back-led fewer i i _ here.prev.at here.next.at (omega arith) (back-removed cs last i linked.1 within)),
  )

-- the chain once a node came, by what each step made of it: it is linked, and has the window and the place in their place
pub put-result : (cs now xs ys zs ws : List Cell) (i len : ℕ) (at first last first' last' : Ptr) (m : Node) (prev next : Place) (w : Window)
    → cs ≡ now → IsGap now i prev.at next.at → (len ≡ length cs) × AreLinked first last cs → xs ≡ inserted cs i (at, m) → ys ≡ with_node xs i (record { next = next; prev = prev; window = w })
    → first' ≡ first_leading first i at → zs ≡ cells_leading ys i at → last' ≡ last_leading zs last (i + 1) at → ws ≡ cells_leading_back zs (i + 1) at
    → ((len + 1 ≡ length ws) × AreLinked first' last' ws) × (windows_of ws ≡ inserted (windows_of now) i w) × (places ws ≡ inserted (places now) i at)
put-result cs now xs ys zs ws i len at first last first' last' m prev next w view gap linked put set firsts led lasts wrote =
    let n : Node = record { next = next; prev = prev; window = w } in
    let more : List Cell = inserted cs i (at, n) in
    let gap' : IsGap cs i prev.at next.at = subst (λ (ds : List Cell). IsGap ds i prev.at next.at) (sym view) gap in
    let came : ys ≡ more = put_and_set cs xs ys i at m n gap'.0 put set in
    let led' : zs ≡ cells_leading more i at = led ∙ ap (λ (ds : List Cell). cells_leading ds i at) came in
    let lasts' : last' ≡ last_leading (cells_leading more i at) last (i + 1) at = lasts ∙ ap (λ (ds : List Cell). last_leading ds last (i + 1) at) led' in
    let wrote' : ws ≡ written more i (i + 1) at at = wrote ∙ ap (λ (ds : List Cell). cells_leading_back ds (i + 1) at) led' in
    let whole : AreLinked (first_leading first i at) (last_leading (cells_leading more i at) last (i + 1) at) (written more i (i + 1) at at) = put-linked cs i at n gap' first last linked.1 in (
      (
        omega (arith, linked.0, ap length wrote', length-written more i (i + 1) at at, length-inserted cs i (at, n)),
        rw firsts (rw lasts' (rw wrote' whole)),
      ),
      ap windows_of wrote' ∙ windows_of-written more i (i + 1) at at ∙ map-inserted (λ (c : Cell). c.1.window) cs i (at, n) ∙ ap (λ (ds : List Cell). inserted (windows_of ds) i w) view,
      ap places wrote' ∙ places-written more i (i + 1) at at ∙ map-inserted (λ (c : Cell). c.0) cs i (at, n) ∙ ap (λ (ds : List Cell). inserted (places ds) i at) view,
    )

-- the same once node i went
pub take-result : (cs now ys zs ws : List Cell) (i len : ℕ) (first last first' last' p q : Ptr)
    → cs ≡ now → i < length now → (len ≡ length cs) × AreLinked first last cs → ys ≡ removed cs i → p ≡ (node_of cs i).next.at → q ≡ (node_of cs i).prev.at
    → first' ≡ first_leading first i p → zs ≡ cells_leading ys i p → last' ≡ last_leading zs last i q → ws ≡ cells_leading_back zs i q
    → ((len - 1 ≡ length ws) × AreLinked first' last' ws) × (windows_of ws ≡ removed (windows_of now) i) × (places ws ≡ removed (places now) i)
take-result cs now ys zs ws i len first last first' last' p q view within linked went on back firsts led lasts wrote =
    let within' : i < length cs = subst (λ (ds : List Cell). i < length ds) (sym view) within in
    let fewer : List Cell = removed cs i in
    let led' : zs ≡ cells_leading fewer i p = led ∙ ap (λ (ds : List Cell). cells_leading ds i p) went in
    let lasts' : last' ≡ last_leading (cells_leading fewer i p) last i q = lasts ∙ ap (λ (ds : List Cell). last_leading ds last i q) led' in
    let wrote' : ws ≡ written fewer i i p q = wrote ∙ ap (λ (ds : List Cell). cells_leading_back ds i q) led' in
    let whole : AreLinked (first_leading first i p) (last_leading (cells_leading fewer i p) last i q) (written fewer i i p q) =
    subst (λ (r : Ptr × Ptr). AreLinked (first_leading first i r.0) (last_leading (cells_leading fewer i r.0) last i r.1) (written fewer i i r.0 r.1)) (λ k. (sym on k, sym back k)) (take-linked cs i first last linked.1 within') in (
      (
        omega (arith, linked.0, ap length wrote', length-written fewer i i p q, length-removed cs i within'),
        rw firsts (rw lasts' (rw wrote' whole)),
      ),
      ap windows_of wrote' ∙ windows_of-written fewer i i p q ∙ map-removed (λ (c : Cell). c.1.window) cs i ∙ ap (λ (ds : List Cell). removed (windows_of ds) i) view,
      ap places wrote' ∙ places-written fewer i i p q ∙ map-removed (λ (c : Cell). c.0) cs i ∙ ap (λ (ds : List Cell). removed (places ds) i) view,
    )
