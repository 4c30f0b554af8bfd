-- Where values fit their types, an allocator is asked for less than 2^64 bytes.
use Rattle.std.proofs.Common.{◌≡◌, true}
use Rattle.std.proofs.lemmas.Bool.{false≢true}
use Rattle.pass_proofs.specs.ir_model.declared.instr.Instr.{Instr}
use Rattle.pass_proofs.specs.ir_model.declared.operand.Allocator.{Allocator}
use Rattle.pass_proofs.specs.ir_model.declared.operand.Callee.{Callee}
use Rattle.pass_proofs.specs.run_framed.Framed.{FramedGiven}
use Rattle.pass_proofs.specs.run_source.State.{function_of}
use Rattle.pass_proofs.specs.run_source.declared.state.State.{State}
use Rattle.pass_proofs.specs.run_step.Step.{AtInstr, Fetched}
use Rattle.pass_split_proof.specs.making.Blocks.{allocates}
use Rattle.pass_split_proof.specs.simulation.Premises.{IsAt}
use Rattle.pass_split_proof.specs.whole.Giving.{AsksSmall}
use Rattle.run_types.proofs.Runs.{sizes_small}
use Rattle.run_types.specs.Fitting.{AreFitting}
use Rattle.run_types.specs.Rules.{KeepsTypes}
use Rattle.run_types.specs.States.{IsMalloc, IsNew, TakesSize}

takes_size : (a : Allocator) → allocates a ≡ true → TakesSize a
takes_size Allocator.Malloc e = IsMalloc
takes_size Allocator.Znwm e = IsNew
takes_size _ e = absurd (false≢true e)

pub asks_small : (g : FramedGiven) (s : State) → KeepsTypes g.given.code (function_of g.given s)
    → AreFitting (function_of g.given s) s.top.values → (here : Fetched) → IsAt g s here → AsksSmall g s here
asks_small g s rules fits (AtInstr (Instr.Call result must_tail ty (Callee.Allocator a) args)) here
    = λ asks x e. sizes_small g.given.code (function_of g.given s) s.top.values rules fits s.top.block s.top.at
    result must_tail ty a args here (takes_size a asks) x e
asks_small g s rules fits _ here = tt
