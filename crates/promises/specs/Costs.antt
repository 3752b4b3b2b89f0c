-- Cycles used is the sum of the tabled costs of the steps taken (docs/MACHINE.md, "Steps and cycles"). Each theorem is proved under the same
-- name in proofs/Costs.antt. The tables are those of crates/opcodes/specs: the cells of the opcode map and the grid of costs.
use Rattle.std.specs.Prelude.{ℕ, zero, suc, ◌+◌, ◌≡◌, Bool, true, false, ◌&&◌, ◌||◌, List, ltb, eqb}
use Rattle.word.specs.Word.{pick}
use Rattle.memory.specs.Memory.{byte_at}
use Rattle.state.specs.declared.State.{State}
use Rattle.opcodes.specs.declared.kind.Kind.{Kind}
use Rattle.opcodes.specs.Kind.{RTI, group_of, member_of, same, SHORT_BRANCHES, LONG_BRANCHES}
use Rattle.opcodes.specs.Postbyte.{cost_of, untaken_of}
use Rattle.codes.specs.Conditions.{condition_of}
use Rattle.decode.specs.Decode.{cell_at, after_opcode}
use Rattle.machine.specs.declared.Reply.TheVariants.{Done}
use Rattle.machine.specs.Names.{no_line}
use Rattle.requests.specs.Requests.{allowed_line, line_after_pull}
use Rattle.turn.specs.Turn.{turn_of}
use Rattle.refusals.specs.Given.{Given, line_in}
use Rattle.run.specs.Step.{step_of}
use Rattle.run.specs.Run.{run_of}
use Rattle.promises.specs.Steps.{after_steps, IsOfSteps}

-- the branches that have a second figure, for where they are not taken: BRA to BLE and LBRA to LBLE
abbrev pub branch_of : Kind → Bool
branch_of kind = eqb (group_of kind) SHORT_BRANCHES || eqb (group_of kind) LONG_BRANCHES

-- which figure: of such a branch, by whether it is taken, and of any other instruction the first
abbrev pub figure_of : Bool → Bool → ℕ → ℕ → ℕ
figure_of branch taken cost untaken = pick branch (pick taken cost untaken) cost

-- the figure that the tables have for the instruction at PC: that of its cell, or of its family and address form in the grid
abbrev pub tabled_instruction : State → List ℕ → ℕ
tabled_instruction s m =
    let cell = cell_at m s.pc in
    figure_of (branch_of cell.kind) (condition_of s.flags (member_of cell.kind))
    (cost_of cell (byte_at m (after_opcode m s.pc)))
    (untaken_of cell)

-- RTI stands at PC, and the masks that it pulls allow a request of the line byte
abbrev pub takes_a_request : State → List ℕ → ℕ → Bool
takes_a_request s m line = same (cell_at m s.pc).kind RTI && ltb (line_after_pull s m line) no_line

-- The cost of a step, by whether a line is to be entered and whether the machine waits: the end of a wait, an entry, an idle cycle, and
-- an instruction, which has the figure given.
abbrev pub step_cost : Bool → Bool → ℕ → ℕ
step_cost true true instruction = 6
step_cost true false instruction = 9
step_cost false true instruction = 1
step_cost false false instruction = instruction

-- The tabled cost of the step at a boundary. The figure of an RTI that takes a request is that of the second access detail of its row.
abbrev pub tabled_cost : State → List ℕ → ℕ → ℕ
tabled_cost s m line =
    step_cost (ltb (allowed_line s.flags line) no_line) s.standing.waiting (pick (takes_a_request s m line) 10 (tabled_instruction s m))

-- every step that is done costs what is tabled for it
abbrev pub AStepCostsWhatIsTabled : Type 0
AStepCostsWhatIsTabled =
    (s : State) (m : List ℕ) (line : ℕ) →
    (turn_of s m line).reply ≡ Done →
    (turn_of s m line).effect.cost ≡ tabled_cost s m line

-- and that is what a single step says that it used
abbrev pub ASingleStepUsesWhatIsTabled : Type 0
ASingleStepUsesWhatIsTabled =
    (s : State) (m : List ℕ) (line : ℕ) → (step_of s m line).reply ≡ 0 → (step_of s m line).cycles ≡ tabled_cost s m line

-- the sum of the tabled costs of the first n steps of a run: of those before, and of the last, from its own boundary
unfoldable pub tabled_sum : ℕ → Given → State → List ℕ → ℕ
tabled_sum zero given s m = 0
tabled_sum (suc n) given s m =
    let last = after_steps n given s m in
    tabled_sum n given s m + tabled_cost last.state last.memory (line_in given last.state.clock)

-- What a run used is the sum of the tabled costs of its steps, however many they are (`ARunIsItsSteps`: there is such a number, of every
-- run that is not refused).
abbrev pub ARunUsesWhatIsTabled : Type 0
ARunUsesWhatIsTabled =
    (s : State) (m : List ℕ) (given : Given) (budget steps : ℕ) →
    IsOfSteps steps s m given budget (run_of s m given budget) →
    (run_of s m given budget).cycles ≡ tabled_sum steps given s m
