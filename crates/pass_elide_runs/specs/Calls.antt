-- Which instruction made each activation: it stands right in front of the place of the one below it.
use Rattle.std.specs.Prelude.{◌≡◌, ◌+◌, ℕ, Bool, List, [], ◌∷◌, slice_get, Some, None, Option}
use Rattle.pass_elide_proof.specs.Places.{instrs_of}
use Rattle.pass_elide_proof.specs.pass_proofs.ir_base.declared.name.Name.{Name}
use Rattle.pass_elide_proof.specs.pass_proofs.ir_model.Names.{function_at, function_named}
use Rattle.pass_elide_proof.specs.pass_proofs.ir_model.Ty.{Ty}
use Rattle.pass_elide_proof.specs.pass_proofs.ir_model.declared.instr.Instr.{Instr}
use Rattle.pass_elide_proof.specs.pass_proofs.ir_model.declared.module.Module.{Module}
use Rattle.pass_elide_proof.specs.pass_proofs.ir_model.declared.operand.Arg.{Arg}
use Rattle.pass_elide_proof.specs.pass_proofs.ir_model.declared.operand.Callee.{Callee}
use Rattle.pass_elide_proof.specs.pass_proofs.ir_model.declared.operand.Intrinsic.{Intrinsic}
use Rattle.pass_elide_proof.specs.pass_proofs.run_framed.Framed.{given_ramp}
use Rattle.pass_elide_proof.specs.pass_proofs.run_source.declared.state.Activation.{Activation}
use Rattle.pass_elide_proof.specs.pass_proofs.run_source.declared.state.State.{State}

-- An instruction makes an activation of the function: a call of a ramp that is given its frame, a call by a name or
-- through a pointer, or a call of an intrinsic.
pub data CallsBy (m : Module) (func : ℕ) : Instr → Type 0 where
  Gives : (result : Option ℕ) (must_tail : Bool) (ty : Option Ty) (n : Name) (args : List Arg)
      → given_ramp m n ≡ Some func → CallsBy m func (Instr.Call result must_tail ty (Callee.Named n) args)
  Names : (result : Option ℕ) (must_tail : Bool) (ty : Option Ty) (n : Name) (args : List Arg)
      → given_ramp m n ≡ None → function_named m n ≡ Some func
      → CallsBy m func (Instr.Call result must_tail ty (Callee.Named n) args)
  Points : (result : Option ℕ) (must_tail : Bool) (ty : Option Ty) (v : ℕ) (args : List Arg)
      → CallsBy m func (Instr.Call result must_tail ty (Callee.Local v) args)
  Wakes : (result : Option ℕ) (must_tail : Bool) (ty : Option Ty) (j : Intrinsic) (args : List Arg)
      → CallsBy m func (Instr.Call result must_tail ty (Callee.Intrinsic j) args)

-- the activation stands behind such an instruction
pub record IsCalledFrom (m : Module) (func : ℕ) (b : Activation) : Type 0 where
  pub at : ℕ
  pub instr : Instr
  pub behind : b.at ≡ at + 1
  pub there : slice_get (instrs_of (function_at m b.func) b.block) at ≡ Some instr
  pub calls : CallsBy m func instr

-- so it is with each that has another one right above it
abbrev pub AreCalledFrom : Module → List Activation → Type 0
AreCalledFrom m [] = Unit {0}
AreCalledFrom m (a ∷ []) = Unit {0}
AreCalledFrom m (a ∷ b ∷ below) = IsCalledFrom m a.func b × AreCalledFrom m (b ∷ below)

abbrev pub HaveCallsBelow : Module → State → Type 0
HaveCallsBelow m s = AreCalledFrom m (s.top ∷ s.below)
