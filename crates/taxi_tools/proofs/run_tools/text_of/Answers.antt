use Rattle.std.proofs.Common.{◌≡◌, ◌≤◌, ℕ, List, length, Result, Ok, Err, IfOk, subst, arith}
use Rattle.taxi_base.specs.Airport.{Airport}
use Rattle.taxi_base.specs.State.{State}
use Rattle.taxi_text.specs.Lines.{commands_of}
use Rattle.command_run.specs.Supplied.{IsSuppliedRun}
use Rattle.tool_words.specs.declared.words.RunTool.{RunTool}
use Rattle.taxi_tools.specs.Outcomes.{IsTextAfter, IsRunText}
use Rattle.taxi_tools.proofs.run_tools.text_of.Goals as goal

pub run_kept-requires : goal.run_kept-requires
run_kept-requires c =
    let within : length c.args.commands.now ≤ 16777216 = c.requires.few in
    record { fresh = c.requires.fresh; none = c.requires.none; few = omega (arith, within) }

-- The text is that of the run, at the airport that was given.
pub returns : goal.returns
returns c =
    let kept = c.in_ok-run_kept.ensures.run in
    told _ _ (commands_of c.args.commands.now) _ kept.run c.args.tool.now (λ text. text.items) c.text.result c.in_ok-run_kept.ensures.airport (c.text.ensures kept.run.blocks kept.kept)
  where
    told : {T E : Type 0} (first now : Airport) (commands : List (List ℕ)) (state : State) (run : IsSuppliedRun first commands state) (tool : RunTool) (items : T → List ℕ) (r : Result T E)
        → now ≡ first → IfOk r (λ text. IsTextAfter now run.blocks state tool (items text)) → IfOk r (λ text. IsRunText first commands tool (items text))
    told first now commands state run tool items (Ok text) same after = (state, run, subst (λ (a : Airport). IsTextAfter a run.blocks state tool (items text)) same after)
    told first now commands state run tool items (Err why) same after = after
