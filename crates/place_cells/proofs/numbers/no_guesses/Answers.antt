use Rattle.std.proofs.Common.{◌+◌, ℕ, length, ap, ◌∙◌, arith}
use Rattle.std.proofs.lemmas.List.{length_push}
use Rattle.place_cells.proofs.numbers.no_guesses.Goals as goal

pub loop-init : goal.loop-init
loop-init c = ap length c.in_ok-found.ensures.items

pub loop-preserved : goal.loop-preserved
loop-preserved c = ap length c.in_ok-push.ensures.items ∙ length_push c.loop.found.items c.new.result ∙ ap (λ (n : ℕ). n + 1) c.loop.invariant

pub returns : goal.returns
returns c = omega (arith, c.loop.invariant, c.loop-test.false, c.loop.auto.counter-end)
