use Rattle.command_run.proofs.Blocks.{whole-answered, stopped-answered, whole-handed_on, stopped-handed_on}
use Rattle.command_run.proofs.answering.run_commands.Goals as goal

pub returns-clause-whole : goal.returns-clause-whole
returns-clause-whole g c = whole-answered _ _ _ _ (g.S.Shelf.given c.args.shelf.now, g.S.Shelf.given c.run_told.new.shelf) _ _ c.run_told.result c.run_told.ensures.whole

pub returns-clause-stopped : goal.returns-clause-stopped
returns-clause-stopped g c = stopped-answered _ _ _ _ _ _ _ c.run_told.result c.run_told.ensures.stopped c.run_told.ensures.pace

pub returns-clause-handed_on : goal.returns-clause-handed_on
returns-clause-handed_on g c = whole-handed_on _ _ _ _ _ _ _ _ c.run_told.result c.run_told.ensures.handed_on

pub returns-clause-stopped_on : goal.returns-clause-stopped_on
returns-clause-stopped_on g c = stopped-handed_on _ _ _ _ _ _ _ _ c.run_told.result c.run_told.ensures.stopped_on
