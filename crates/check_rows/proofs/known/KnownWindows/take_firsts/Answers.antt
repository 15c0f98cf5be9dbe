use Rattle.check_rows.proofs.known.KnownWindows.take_firsts.Goals as goal

pub returns : goal.returns
returns c segments free are = record { count = are.count; each = are.each }
