use native.Mathlib.Omega.{arith}
use Rattle.text.proofs.Laws.{and_then, all_written}
use Rattle.signbench.specs.Bench.{line_of}
use Rattle.signbench.proofs.Laws.{line_fits, named}
use Rattle.signbench.proofs.line.Goals as goal

-- back from the last value to the first: each is put after its name
pub returns : goal.returns
unfolding line_of
returns c =
    let first = and_then c.put_all.ensures (rw c.from.ensures at c.put_decimal-stop.ensures) in
    let second = named first c.put_all-2.ensures (rw c.from-2.ensures at c.put_decimal-used.ensures) in
    let third = named second c.put_all-3.ensures c.put_hex_word-pc.ensures in
    let fourth = named third c.put_all-4.ensures c.put_hex_byte-a.ensures in
    let fifth = named fourth c.put_all-5.ensures c.put_hex_byte-b.ensures in
    let sixth = named fifth c.put_all-6.ensures c.put_hex_word-x.ensures in
    let seventh = named sixth c.put_all-7.ensures c.put_hex_word-y.ensures in
    let eighth = named seventh c.put_all-8.ensures c.put_hex_word-sp.ensures in
    let ninth = named eighth c.put_all-9.ensures (rw c.ccr.ensures at c.put_hex_byte.ensures) in
    all_written (and_then ninth c.put.ensures) c.empty.ensures
    (line_fits c.args.reply c.args.cycles c.args.s (omega arith) (omega arith))
