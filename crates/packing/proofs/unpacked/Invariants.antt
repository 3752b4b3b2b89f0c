use mathlib.Core.Path.{◌≡◌}
use lib.ListN.{drop}
use Rattle.std.specs.Prelude.{map}
use Rattle.table.specs.Records.{no_records, gathered}
use Rattle.packing.specs.Bytes.{records_of}
use Rattle.packing.proofs.Laws.{chunk_record}
use Rattle.packing.proofs.unpacked.Given as goal

abbrev pub invariant-loop-c3 : goal.invariant-loop-c3
invariant-loop-c3 l = gathered l.t (map chunk_record (drop l.c3-index l.records)) ≡ gathered no_records (records_of l.bytes)
