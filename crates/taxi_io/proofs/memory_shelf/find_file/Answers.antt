use Rattle.std.proofs.Common.{◌∙◌, sym, ap, refl, option_map, string_bytes, String, Vec, ℕ, List, length, nat_eq}
use Rattle.std.proofs.lemmas.Option.{slice_get_read}
use Rattle.std.specs.Global.{Global}
use lib.Pointwise.{pointwise}
use Rattle.taxi_io.proofs.HeldFiles.{file_of-drop}
use Rattle.taxi_io.proofs.memory_shelf.find_file.Goals as goal

pub returns-then-eq-clause-found : goal.returns-then-eq-clause-found
returns-then-eq-clause-found c =
    let t : String Global × Vec ℕ Global → List ℕ × List ℕ = λ f. (string_bytes f.0, f.1.items) in
    let files = c.args.files.now in
    let x = c.index-files-i.result in
    let here = slice_get_read files (length files) c.loop-i.i x refl c.loop-i-test.true c.index-files-i.is in
    let named = ap (λ b. pointwise nat_eq b c.args.name.now) (sym c.as_str.ensures.value) ∙ sym c.if-eq.ensures in
    (c.loop-i-test.true, c.loop-i.invariant ∙ file_of-drop t files c.loop-i.i c.args.name.now x here named ∙ sym (ap (option_map (λ f. f.1.items)) here))
