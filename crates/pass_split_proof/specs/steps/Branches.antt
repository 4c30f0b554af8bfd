-- An edge that both runs take.
use Rattle.std.specs.Prelude.{◌≡◌, ℕ, Bool, true, List, Some, slice_get, slice_set}
use Rattle.pass_proofs.specs.ir_model.Names.{position_of}
use Rattle.pass_proofs.specs.ir_model.declared.instr.Phi.{Phi}
use Rattle.pass_proofs.specs.ir_model.declared.module.Function.{Function}
use Rattle.pass_proofs.specs.ir_model.declared.module.Module.{Module}
use Rattle.pass_split_proof.specs.states.Going.{goes_to}
use Rattle.pass_split_proof.specs.steps.Operands.{IsReadable}
use Rattle.pass_proofs.specs.run_laws.changed.Changed.{Each}
use Rattle.pass_proofs.specs.run_source.State.{function_of, is_suspended}
use Rattle.pass_proofs.specs.run_source.declared.state.Instance.{Instance}
use Rattle.pass_proofs.specs.run_source.declared.state.State.{State}
use Rattle.pass_proofs.specs.run_source.declared.state.Status.{Status}
use Rattle.pass_proofs.specs.run_source_tables.Given.{Given}
use Rattle.pass_proofs.specs.run_step.Step.{incoming_from, label_of, values_in}

-- phis that take from a label what may be read, and don't set the name of the frame
pub record AreReadablePhis (m n : Module) (f : Function) (label begin : ℕ) (phis : List Phi) : Type 0 where
  pub taken : Each (λ (p : Phi). IsReadable m n f (incoming_from p.incoming label)) phis
  pub others : Each (λ (p : Phi). p.result ≡ begin → ⊥) phis

-- the instances behind an edge
pub data WasLeft (xs : List Instance) : List Instance → Type 0 where
  Stayed : WasLeft xs xs
  Left : (i : ℕ) (x : Instance) → slice_get xs i ≡ Some x → is_suspended x.status ≡ true
      → WasLeft xs (slice_set xs i (record x { status = Status.Running }))

-- the framed run has taken an edge to a label: its windows are left, and nothing else is another
pub record Entered (g : Given) (s : State) (label : ℕ) (u : State) : Type 0 where
  pub instances : List Instance
  pub left : Bool
  pub was : WasLeft s.instances instances
  pub is : u ≡ goes_to s s.world instances (position_of (function_of g s) label) 0
      (values_in g.code (slice_get (function_of g s).blocks (position_of (function_of g s) label))
      (label_of (slice_get (function_of g s).blocks s.top.block)) s.top.values) left
