use Rattle.place_cells.proofs.ground.SearchGround.last.Goals as goal

pub returns : goal.returns
returns c = c.last_second.ensures c.args.window.from
