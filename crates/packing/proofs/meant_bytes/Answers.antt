use native.Mathlib.Omega.{arith}
use Rattle.packing.specs.Bytes.{meant_bytes}
use Rattle.packing.proofs.Laws.{high_byte, highest_byte, second_byte, first_byte, flag_weight}
use Rattle.packing.proofs.meant_bytes.Goals as goal

pub returns : goal.returns
unfolding meant_bytes
returns c =
    let s = c.args.s in
    let cycles = c.args.cycles in
    rw (
      c.to_be_bytes.ensures,
      c.to_be_bytes-2.ensures,
      c.to_be_bytes-3.ensures,
      c.to_be_bytes-4.ensures,
      c.to_be_bytes-5.ensures,
      c.to_be_bytes-6.ensures,
      c.ccr.ensures,
      c.from.ensures,
      high_byte s.x (omega (arith, c.well_formed)),
      high_byte s.y (omega (arith, c.well_formed)),
      high_byte s.sp (omega (arith, c.well_formed)),
      high_byte s.pc (omega (arith, c.well_formed)),
      highest_byte s.clock (omega (arith, c.well_formed)),
      second_byte s.clock,
      first_byte s.clock,
      highest_byte cycles c.ranges.cycles.fits,
      second_byte cycles,
      first_byte cycles,
      flag_weight s.standing.waiting,
    )
