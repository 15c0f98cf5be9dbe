-- What the reader says of a read, as records that are left.
use Rattle.std.proofs.Common.{Bor, List, ℕ, true, false, Some}
use Rattle.csv.specs.Records.{fields_of}
use Rattle.csv.specs.Reading.{ReadRecord}
use Rattle.airport_file.proofs.RowsLeft.{read-more, read-end, error-of-memory}
use Rattle.airport_file.proofs.records.read_row.Goals as goal

pub returns-in-Ok-clause-ready : goal.returns-in-Ok-clause-ready
returns-in-Ok-clause-ready c found =
    let reads = rw c.in-Ok.is at c.read_byte_record.ensures.reads in
    let step : ReadRecord (λ (s : Bor (List ℕ)). Some s.now) c.args.reader.now c.read_byte_record.new.self true (fields_of c.read_byte_record.new.row) = rw found at (reads c.requires.trim c.requires.ready) in
    (read-more c.args.reader.now c.read_byte_record.new.self (fields_of c.read_byte_record.new.row) c.requires (rw c.in-Ok.is at (c.read_byte_record.ensures.ready c.requires.trim)) (rw c.in-Ok.is at c.read_byte_record.ensures.flexible) step).1

pub returns-in-Ok-clause-next : goal.returns-in-Ok-clause-next
returns-in-Ok-clause-next c found =
    let reads = rw c.in-Ok.is at c.read_byte_record.ensures.reads in
    let step : ReadRecord (λ (s : Bor (List ℕ)). Some s.now) c.args.reader.now c.read_byte_record.new.self true (fields_of c.read_byte_record.new.row) = rw found at (reads c.requires.trim c.requires.ready) in
    (read-more c.args.reader.now c.read_byte_record.new.self (fields_of c.read_byte_record.new.row) c.requires (rw c.in-Ok.is at (c.read_byte_record.ensures.ready c.requires.trim)) (rw c.in-Ok.is at c.read_byte_record.ensures.flexible) step).0

pub returns-in-Ok-clause-end : goal.returns-in-Ok-clause-end
returns-in-Ok-clause-end c found =
    let reads = rw c.in-Ok.is at c.read_byte_record.ensures.reads in
    let step : ReadRecord (λ (s : Bor (List ℕ)). Some s.now) c.args.reader.now c.read_byte_record.new.self false (fields_of c.read_byte_record.new.row) = rw found at (reads c.requires.trim c.requires.ready) in
    read-end c.args.reader.now c.read_byte_record.new.self (fields_of c.read_byte_record.new.row) c.requires step

pub want_of_memory-requires : goal.want_of_memory-requires
want_of_memory-requires c =
    error-of-memory c.args.reader.now c.read_byte_record.new.self _ c.requires.flexible (rw c.in-Err.is at c.read_byte_record.ensures.why c.requires.ready)
