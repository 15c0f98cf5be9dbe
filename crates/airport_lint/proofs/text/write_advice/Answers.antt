use Rattle.std.proofs.Common.{◌≡◌, ◌++◌, ◌∙◌, length, ap, rules}
use Rattle.std.specs.Prelude.{flat_map}
use Rattle.airport_lint.specs.Text.{line_of}
use Rattle.airport_lint.proofs.TextLaws.{whole-text}
use Rattle.airport_lint.proofs.text.write_advice.Goals as goal

pub returns : goal.returns
returns c =
    let airport = c.args.airport.now in
    let told = c.in_ok-told.told.items in
    let counted : c.len.result ≡ length told = search rules in (
      told,
      c.in_ok-told.ensures,
      whole-text airport told c.new-out.result.items _ _ _ _ _ c.new-out.ensures.items
          (c.in_ok-write_lines.ensures ∙ ap (λ t. c.new-out.result.items ++ flat_map (line_of airport) t) c.as_slice.ensures.value)
          c.in_ok-push_bytes.ensures.ok c.in_ok-push_number.ensures.ok counted c.in_ok-push_bytes-2.ensures.ok,
    )
