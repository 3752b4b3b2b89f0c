use Rattle.packing.specs.Bytes.{state_of}
use Rattle.packing.proofs.Laws.{long_from}
use Rattle.packing.proofs.state_of.Goals as goal

pub returns : goal.returns
unfolding state_of
returns c =
    rw (
      ← long_from _ _ _ _,
      c.with_clock.ensures,
      c.from_be_bytes-5.ensures,
      c.with_waiting.ensures,
      c.with_flags.ensures,
      c.of_ccr.ensures,
      c.with_pc.ensures,
      c.from_be_bytes-4.ensures,
      c.with_sp.ensures,
      c.from_be_bytes-3.ensures,
      c.with_y.ensures,
      c.from_be_bytes-2.ensures,
      c.with_x.ensures,
      c.from_be_bytes.ensures,
      c.with_b.ensures,
      c.with_a.ensures,
    )
