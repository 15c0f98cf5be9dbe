use Rattle.std.proofs.Common.{◌∙◌, sym, ap, refl, option_map, String, Vec, ℕ, List, Some, drop, length}
use Rattle.std.proofs.lemmas.Option.{slice_get_read}
use Rattle.std.specs.Global.{Global}
use Rattle.taxi_io.proofs.HeldFiles.{slice_get-within, drop-slice}
use Rattle.taxi_io.proofs.memory_shelf.rest_at.Goals as goal

pub returns-clause-bytes : goal.returns-clause-bytes
returns-clause-bytes c =
    let files = c.args.files.now in
    let place = c.args.place in
    let from : String Global × Vec ℕ Global → List ℕ = λ f. drop place.read f.1.items in
    let bytes = c.as_slice-bytes.result.now in
    let here = slice_get_read files (length files) place.file c.index-files-place.result refl (slice_get-within from files place.file c.requires) c.index-files-place.is in
    ap (option_map from) here
    ∙ ap (λ (f : String Global × Vec ℕ Global). Some (from f)) c.index-files-place.is
    ∙ ap (λ (b : List ℕ). Some (drop place.read b)) (sym c.as_slice-bytes.ensures.value)
    ∙ ap (λ (b : List ℕ). Some b) (sym (drop-slice bytes place.read c.min.result c.min.ensures))
