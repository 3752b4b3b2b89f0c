use native.Mathlib.Numerals.{add-one}
use mathlib.Core.List.{[]}
use lib.Seq.{drop-cons}
use Rattle.packing.proofs.Laws.{long_from, cut_records}
use Rattle.packing.proofs.unpacked.Goals as goal

pub loop-c3-init : goal.loop-c3-init
loop-c3-init c = rw (c.empty-t.ensures, c.as_chunks.ensures.front, cut_records c.args.bytes.now _ 0)

-- As equations, so that a cycle number of bytes in another order is refused by its difference (must-fail/low_byte_first.edit).
pub loop-c3-preserved : goal.loop-c3-preserved
loop-c3-preserved c =
    rw (c.put-t.ensures, c.of.ensures, c.from_be_bytes.ensures, long_from _ _ _ _, add-one c.loop-c3.c3-index)
    (rw (drop-cons c.as_chunks.result.0.now c.loop-c3.c3-index [] c.loop-c3-test.true) at c.loop-c3.invariant)
