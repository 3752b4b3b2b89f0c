use borrow.Author.Tests.{lt-ltb, le-ltb}
use Rattle.opcodes.proofs.Postbytes.{as_tabled, form_at}
use Rattle.opcodes.proofs.form_of.Goals as goal

pub returns-then-postbyte-lt224 : goal.returns-then-postbyte-lt224
returns-then-postbyte-lt224 c = rw (as_tabled _ c.ranges.postbyte.fits, lt-ltb _ _ c.if-postbyte-lt224.true)

pub returns : goal.returns
returns c = rw (as_tabled _ c.ranges.postbyte.fits, le-ltb _ _ c.if-postbyte-lt224.false, c.from.ensures) (form_at _)
