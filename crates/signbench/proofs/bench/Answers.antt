use Rattle.signbench.proofs.bench.Goals as goal

pub returns : goal.returns
returns c =
    let end = c.run-answer.ensures in
    rw (c.line.ensures, c.number.ensures, end.reply, end.cycles, end.state, c.reset-started.ensures.1)
