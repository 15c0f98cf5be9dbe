use Rattle.std.proofs.Common.{◌≡◌, ◌-◌, ◌≤◌, ◌∙◌, ℕ, List, ap, sym, drop, length, length-append, vec_len, rules, arith}
use Rattle.taxi_text.specs.FirstLines.{line_end, line_end_with}
use Rattle.taxi_text.proofs.FirstPlace.{line_end-fed}
use Rattle.taxi_text.proofs.line_reader.LineReader.feed.Goals as goal

pub invariant_of-self-2 : goal.invariant_of-self-2
invariant_of-self-2 c =
    let stored = c.self.inside.stored.items in
    let piece = c.args.piece.now in
    let dropped = c.self.inside.dropped in
    let counted : vec_len c.self.inside.stored ≡ length stored = search rules in
    let within : dropped ≤ length stored = c.self.invariant.0 in
    let grew = c.in_ok-extend_from_slice.ensures.items in
    let longer : dropped ≤ length c.extend_from_slice.new.self.items = let l = length-append stored piece in let e = ap (λ (s : List ℕ). length s) grew in omega (arith, l, e, within) in
    (longer, c.line_end_with-self-inside.ensures ∙ ap (λ (n : ℕ). line_end_with c.self.inside.line (n - dropped) piece) (c.len.ensures ∙ counted) ∙ line_end-fed stored piece dropped c.self.inside.line within c.self.invariant.1 ∙ ap (λ (s : List ℕ). line_end (drop dropped s)) (sym grew))
