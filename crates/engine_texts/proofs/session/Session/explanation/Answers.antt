use Rattle.std.proofs.Common.{◌≡◌, ◌∙◌, ℕ, Bool, List, Ok, IfOk, sym, ap, subst}
use Rattle.std.specs.Prelude.{Vec}
use Rattle.std.specs.declared.alloc.Global.{Global}
use Rattle.taxi_base.specs.Airport.{Airport}
use Rattle.airport_file.specs.Reading.{airport_of}
use Rattle.command_run.specs.Supplied.{IsSuppliedRun}
use Rattle.engine_texts.specs.Log.{lines_in, texts_of}
use Rattle.engine_texts.specs.Session.{SessionState, log_of}
use Rattle.engine_texts.specs.Texts.{IsExplanation, IsReasonsText}
use Rattle.engine_texts.proofs.Runs.{ok-map, ok-one}
use Rattle.engine_texts.proofs.session.Session.explanation.Goals as goal

-- the second engine is over the same airport, and answered the same lines
pub returns : goal.returns
returns c =
    let inside = c.self.inside in
    let engine = inside.engine in
    let again = c.in_ok-engine.engine in
    let whole = c.if-not-self.false in
    let lines = lines_in inside.log.lines in
    let airport : again.airport ≡ engine.airport = ok-one again.airport engine.airport (sym (subst (λ (b : List ℕ). airport_of b ≡ Ok again.airport) c.as_slice.ensures.value c.in_ok-engine.ensures.airport) ∙ c.self.invariant.airport) in
    let run : IsSuppliedRun engine.airport lines again.state =
    subst (λ (a : Airport). IsSuppliedRun a lines again.state) airport
    (subst (λ (l : List (Vec ℕ Global)). IsSuppliedRun again.airport (texts_of l) again.state) c.as_slice-2.ensures.value c.in_ok-engine.ensures.run) in
    let told : IfOk c.explained.result (λ text. IsReasonsText engine.airport again.state c.args.line.now text.items) =
    subst (λ (a : Airport). IfOk c.explained.result (λ text. IsReasonsText a again.state c.args.line.now text.items)) airport c.explained.ensures in
    let session : SessionState = record { engine = engine; log = log_of inside.whole lines; told = inside.told.items } in
    subst (λ (s : SessionState). IfOk c.explained.result (λ text. IsExplanation s c.args.line.now text.items)) c.self.view_is
    (ok-map c.explained.result (λ text. IsReasonsText engine.airport again.state c.args.line.now text.items) (λ text. IsExplanation session c.args.line.now text.items)
    (λ text reasons. record { commands = lines; logged = ap (λ (w : Bool). log_of w lines) whole; before = again.state; run = run; told = reasons }) told)
