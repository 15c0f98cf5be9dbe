use Rattle.std.proofs.Common.{Bool, IsTrue, ◌↔◌, sym, subst}
use Rattle.std.specs.Prelude.{Contains}
use Rattle.std.proofs.lemmas.Bool.{false≢true}
use Rattle.segment_windows.proofs.ApartLaws.{window-some, window-none}
use Rattle.segment_windows.proofs.finding.has_window.Goals as goal

pub returns-in-Some-get : goal.returns-in-Some-get
returns-in-Some-get c =
    let there = c.in-Some-get.ensures.lookup in
    subst (λ (b : Bool). IsTrue b ↔ Contains c.args.windows.now c.args.window) (sym c.is_same-in-Some-get.ensures)
    (window-some c.args.windows.now c.args.window c.requires c.first_not_over.result c.first_not_over.ensures c.in-Some-get.there.now there.3.0 (sym there.1))

pub returns-in-None : goal.returns-in-None
returns-in-None c = (λ e. absurd (false≢true e), λ has. absurd (window-none c.args.windows.now c.args.window c.requires c.first_not_over.result c.first_not_over.ensures c.in-None.ensures.lookup.3 has))
