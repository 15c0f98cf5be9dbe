use Rattle.std.proofs.Common.{◌≡◌, ◌∙◌, [], false, not, get_or, set, set-set, ap}
use Rattle.airport_lint.specs.Sets.{is_covered, marked}
use Rattle.airport_lint.proofs.sets.judge.Goals as goal

pub returns : goal.returns
returns c =
    let sets = c.args.sets.now in
    let old = c.args.marks.now.items in
    let covered = c.is_covered_at-covered.result in
    let value : covered ≡ is_covered (marked sets (set old c.args.at false)) (get_or sets c.args.at []) =
    c.is_covered_at-covered.ensures ∙ ap (λ m. is_covered (marked sets m) (get_or sets c.args.at [])) (c.as_slice.ensures.value ∙ c.set_mark.ensures) in
    c.set_mark-2.ensures ∙ ap (λ m. set m c.args.at (not covered)) c.set_mark.ensures ∙ set-set old c.args.at false (not covered) ∙ ap (λ b. set old c.args.at (not b)) value
