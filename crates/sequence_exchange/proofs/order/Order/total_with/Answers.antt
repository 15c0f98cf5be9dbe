use Rattle.std.proofs.Common.{◌≡◌, ◌≤◌, ◌++◌, length, take, drop, arith}
use Rattle.std.proofs.lemmas.List.{take_rest}
use Rattle.sequence_exchange.specs.Serving.{all_seconds_lost}
use Rattle.sequence_exchange.proofs.CostLaws.{all_seconds-few}
use Rattle.sequence_exchange.proofs.ExchangeLaws.{fair-front, fair-back, parts-total}
use Rattle.sequence_exchange.proofs.order.Order.total_with.Goals as goal

pub total_cost-requires-clause-fair : goal.total_cost-requires-clause-fair
total_cost-requires-clause-fair c =
    let wishes = c.args.self.now.wishes.items in
    let low : c.args.place ≤ length wishes = omega (arith, c.requires.same) in
    rw (c.deref.ensures.value, c.deref-2.ensures.value) (fair-front c.args.place wishes (take c.args.place c.args.self.now.entries.items) c.args.others.now c.requires.front low c.requires.fair)

pub total_cost-requires-2-clause-fair : goal.total_cost-requires-2-clause-fair
total_cost-requires-2-clause-fair c =
    let wishes = c.args.self.now.wishes.items in
    let low : c.args.place ≤ length wishes = omega (arith, c.requires.same) in
    rw (c.deref-3.ensures.value, take_rest wishes c.args.place) (fair-back c.args.place wishes (take c.args.place c.args.self.now.entries.items) c.args.others.now c.requires.front low c.requires.fair)

pub overflow_add-result : goal.overflow_add-result
overflow_add-result c =
    let wishes = c.args.self.now.wishes.items in
    let entries = take c.args.place c.args.self.now.entries.items in
    let low : c.args.place ≤ length wishes = omega (arith, c.requires.same) in
    let first : c.total_cost.result ≡ all_seconds_lost (take c.args.place wishes) entries = rw (c.deref.ensures.value, c.deref-2.ensures.value) at c.total_cost.ensures in
    let second : c.total_cost-2.result ≡ all_seconds_lost (drop c.args.place wishes) c.args.others.now = rw (c.deref-3.ensures.value, take_rest wishes c.args.place) at c.total_cost-2.ensures in
    let whole = parts-total c.args.place wishes entries c.args.others.now c.requires.front low in
    let few = all_seconds-few wishes (entries ++ c.args.others.now) c.requires.fair in
    omega (arith, first, second, whole, few, c.requires.few)

pub returns : goal.returns
returns c =
    let wishes = c.args.self.now.wishes.items in
    let entries = take c.args.place c.args.self.now.entries.items in
    let low : c.args.place ≤ length wishes = omega (arith, c.requires.same) in
    let first : c.total_cost.result ≡ all_seconds_lost (take c.args.place wishes) entries = rw (c.deref.ensures.value, c.deref-2.ensures.value) at c.total_cost.ensures in
    let second : c.total_cost-2.result ≡ all_seconds_lost (drop c.args.place wishes) c.args.others.now = rw (c.deref-3.ensures.value, take_rest wishes c.args.place) at c.total_cost-2.ensures in
    let whole = parts-total c.args.place wishes entries c.args.others.now c.requires.front low in
    omega (arith, first, second, whole)
