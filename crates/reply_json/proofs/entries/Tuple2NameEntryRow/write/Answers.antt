use Rattle.std.proofs.Common.{◌≡◌, ◌++◌, OnOk, sym, subst}
use Rattle.replies.specs.declared.entries.Entry.{Entry}
use Rattle.serde_json.specs.Written.{compact_text}
use Rattle.reply_json.specs.Replies.{entry_object}
use Rattle.reply_json.proofs.entries.Tuple2NameEntryRow.write.Goals as goal

pub returns-in-Dropped : goal.returns-in-Dropped
returns-in-Dropped c =
    subst (λ (e : Entry). OnOk c.write_dropped.result (c.write_dropped.new.out.items ≡ c.args.out.now.items ++ compact_text (entry_object c.args.airport.now (c.args.self.now.0, e)))) (sym c.in-Dropped.is)
    (c.write_dropped.ensures c.args.airport.now)
