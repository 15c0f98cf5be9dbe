use Rattle.std.proofs.Common.{◌≡◌, ◌-◌, ◌+◌, ◌/◌, take, drop, length, arith, w32, FitsSigned, sym}
use Rattle.std.proofs.lemmas.Int.{to_z-of_z}
use Rattle.std.proofs.lemmas.List.{take_all, length-drop}
use Rattle.jiff.proofs.SpanFacts.{signed_arith}
use Rattle.civil_times.proofs.LaterLaws.{later-date, later-text}
use Rattle.civil_times.proofs.start.Start.later.Goals as goal

pub date_text-requires : goal.date_text-requires
date_text-requires c =
    let inv = c.self.invariant in
    let range = inv.day_range in
    let fits : FitsSigned w32 c.self.inside.day = omega (arith, signed_arith, range) in
    let number = simp to_z-of_z at c.date_after-date.ensures in
    let few = inv.time_range in
    let most = c.requires in
    (later-date c.self.inside.text c.self.inside.day ((c.self.inside.time + c.args.seconds) / 86400) c.date_after-date.result inv.start inv.day_is (omega arith) number).year

pub returns : goal.returns
returns c =
    let inv = c.self.invariant in
    let range = inv.day_range in
    let fits : FitsSigned w32 c.self.inside.day = omega (arith, signed_arith, range) in
    let number = simp to_z-of_z at c.date_after-date.ensures in
    let few = inv.time_range in
    let most = c.requires in
    let later = later-date c.self.inside.text c.self.inside.day ((c.self.inside.time + c.args.seconds) / 86400) c.date_after-date.result inv.start inv.day_is (omega arith) number in
    let text = later-text c.self.inside.text c.self.inside.time c.args.seconds c.date_after-date.result later inv.time_is in
    let behind : take (length c.self.inside.text - 19) (drop 19 c.self.inside.text) ≡ drop 19 c.self.inside.text = grind (arith, take_all, length-drop) in
    rw (c.push-4.ensures, c.push-3.ensures, c.push-2.ensures, c.push.ensures, c.new-text.ensures, c.date_text.ensures, c.time_text.ensures, c.bytes.ensures.same, behind, ← c.self.view_is)
    (sym text)
