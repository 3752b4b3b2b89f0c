use native.Mathlib.Omega.{arith}
use lib.ListN.{length}
use mathlib.Core.Path.{◌≡◌, refl}
use Rattle.packing.specs.Bytes.{bytes_of}
use Rattle.packing.proofs.put_record.Goals as goal

pub returns : goal.returns
unfolding bytes_of
returns c =
    let many : length c.split_at_mut-meant.result.1.now ≡ 28 = omega (arith, c.split_at_mut-meant.ensures.back_len, c.fits-r) in
    rw (c.copy_from_slice.ensures.after, c.meant_bytes.ensures, c.fill.ensures.after (λ y e. e), many) refl
