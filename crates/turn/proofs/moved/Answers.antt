use mathlib.Core.Path.{sym, ◌∙◌, ap}
use Rattle.std.proofs.lemmas.Result.{err_from_is_err_and}
use Rattle.opcodes.specs.Kind.{group_of}
use Rattle.decode.proofs.Laws.{fetched_faithfully, fetched_kind}
use Rattle.turn.specs.Turn.{executed, instructed}
use Rattle.turn.proofs.Laws.{halts}
use Rattle.turn.proofs.moved.Goals as goal

pub returns-in_err-d : goal.returns-in_err-d
returns-in_err-d c line =
    let p = err_from_is_err_and c.from_residual.result c.from_residual.ensures.1 in
    rw (p.1, p.2, ← c.fetch.ensures, c.in_err-d.was) (halts _ _ _ _)

pub moves-requires-clause-faithful : goal.moves-requires-clause-faithful
moves-requires-clause-faithful c = fetched_faithfully _ _ _ (sym c.fetch.ensures ∙ c.in_ok-d.was)

-- a move has the modes of one
pub moves-requires-clause-mode_value : goal.moves-requires-clause-mode_value
moves-requires-clause-mode_value c =
    let fetched = sym c.fetch.ensures ∙ c.in_ok-d.was in
    (fetched_faithfully _ _ _ fetched).moves (ap group_of (fetched_kind _ _ _ fetched) ∙ c.requires)

pub returns : goal.returns
unfolding instructed executed
returns c line =
    let fetched = sym c.fetch.ensures ∙ c.in_ok-d.was in
    rw (fetched, c.moves.ensures, c.with_pc.ensures, ap group_of (fetched_kind _ _ _ fetched) ∙ c.requires)
