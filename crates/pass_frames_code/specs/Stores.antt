-- Names that get values all at once are stored into their cells one after another.
use Rattle.std.specs.Prelude.{◌≡◌, ℕ, List, [], ◌∷◌, ◌++◌, None}
use Rattle.pass_proofs.specs.ir_model.declared.instr.Instr.{Instr}
use Rattle.pass_proofs.specs.ir_model.declared.module.Param.{Param}
use Rattle.pass_proofs.specs.pass_cells.Kept.{entry}
use Rattle.pass_proofs.specs.pass_cells.Written.{stored}
use Rattle.pass_proofs.specs.pass_cells.declared.plan.KeptValue.{KeptValue}
use Rattle.pass_proofs.specs.pass_cells.declared.plan.Plan.{Plan}
use Rattle.pass_frames_code.specs.Lines.{AreInCells, IsNoRoot, IsStorable, RunsOver, at_work}
use Rattle.pass_frames_code.specs.Places.{Framing, plan}
use Rattle.pass_frames_code.specs.Related.{AreCellsRight, IsKeptValue}
use Rattle.pass_proofs.specs.run_laws.access.Accessed.{Span}
use Rattle.pass_proofs.specs.run_laws.memory.Pointers.{Home, IsValue}
use Rattle.pass_proofs.specs.run_memory.declared.pointer.Value.{Value}
use Rattle.pass_proofs.specs.run_source.declared.state.Activation.{Activation}
use Rattle.pass_proofs.specs.run_step.Step.{Context, Work}
use Rattle.pass_proofs.specs.run_step.Values.{Env, value_in}

-- ---- names and their values

abbrev pub stored_all : Plan → List (ℕ × Value) → List Instr
stored_all p [] = []
stored_all p (q ∷ qs) = stored p q.0 ++ stored_all p qs

-- the name has in the target what stands for its value, which may be stored; no distance is kept of it or goes on
-- from it
pub record IsNameGiven (x : Framing) (homes : List Home) (w : Work) (q : ℕ × Value) : Type 0 where
  pub stands : IsValue homes q.1 (value_in w.values q.0)
  pub storable : (k : KeptValue) → IsKeptValue x q.0 k → IsStorable k.ty q.1
  pub no_root : IsNoRoot x q.0
  pub no_distance : entry (plan x).cells q.0 ≡ None

-- a line stores them, and then all cells are right
pub record AreNamesStored (x : Framing) (homes : List Home) (c : Context) (w : Work) (a : Activation) (env : Env)
    (n : ℕ) (line : List Instr) : Type 0 where
  pub work : Work
  pub spans : List Span
  pub over : RunsOver c line n spans w work
  pub values : work.values ≡ w.values
  pub inside : AreInCells x a spans
  pub right : AreCellsRight x homes c.rights work.world.memory env (at_work a work)

-- ---- parameters

abbrev pub given_params : List Param → List Value → List (ℕ × Value)
given_params [] vs = []
given_params (p ∷ ps) [] = []
given_params (p ∷ ps) (v ∷ vs) = (p.name, v) ∷ given_params ps vs
