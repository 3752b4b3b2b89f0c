use native.Mathlib.Omega.{arith}
use borrow.Author.Rules.{rules}
use Prim.Native.Nat.{◌/◌, ◌%◌, ◌<◌}
use mathlib.Core.Path.{◌≡◌}
use Rattle.frames.proofs.frame_store.Goals as goal

pub returns : goal.returns
returns c =
    let s = c.args.s in
    let x : s.x < 65536 = search rules in
    let y : s.y < 65536 = search rules in
    let pc : s.pc < 65536 = search rules in
    let xh : s.x / 256 % 256 ≡ s.x / 256 = omega (arith, x) in
    let yh : s.y / 256 % 256 ≡ s.y / 256 = omega (arith, y) in
    let ph : s.pc / 256 % 256 ≡ s.pc / 256 = omega (arith, pc) in
    rw (
      c.nine.ensures,
      c.minus.ensures,
      c.ccr.ensures,
      c.to_be_bytes-3.ensures,
      c.to_be_bytes-2.ensures,
      c.to_be_bytes.ensures,
      xh,
      yh,
      ph,
    )
