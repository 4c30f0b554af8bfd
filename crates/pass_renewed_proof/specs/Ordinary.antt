-- Ordinary instructions: at their places stands no suspend, nor its switch, nor an end; they make and mark no block,
-- and give no address in a slot that is made anew.
use Rattle.std.specs.Prelude.{◌≡◌, ℕ, Bool, true, List, Some}
use Rattle.pass_kept_proof.specs.ir_model.Names.{function_at, is_local}
use Rattle.pass_kept_proof.specs.ir_model.Ty.{Ty}
use Rattle.pass_kept_proof.specs.ir_model.declared.instr.Instr.{Instr}
use Rattle.pass_kept_proof.specs.ir_model.declared.module.Function.{Function}
use Rattle.pass_kept_proof.specs.ir_model.declared.module.Module.{Module}
use Rattle.pass_kept_proof.specs.ir_model.declared.operand.Arg.{Arg}
use Rattle.pass_kept_proof.specs.ir_model.declared.operand.Intrinsic.{Intrinsic}
use Rattle.pass_kept_proof.specs.ir_model.declared.operand.Operand.{Operand}
use Rattle.pass_kept_proof.specs.ir_paths.Windows.{end_block}
use Rattle.pass_kept_proof.specs.ir_paths.declared.point.Point.{Point}
use Rattle.pass_kept_proof.specs.SuspendRules.{IsCallAt}
use Rattle.run_laws.specs.embedded.Related.{HasBytes, HasNoSlot}
use Rattle.pass_kept_proof.specs.run_source.declared.state.Activation.{Activation}
use Rattle.pass_kept_proof.specs.run_step.Step.{AtInstr, Work, fetch, set_value}
use Rattle.pass_kept_proof.specs.run_step.Values.{distance, element, indices_of, value_in}
use Rattle.pass_renewed_proof.specs.Ahead.{IsBehindSuspendCall}
use Rattle.pass_renewed_proof.specs.Beside.{place_in}
use Rattle.pass_renewed_proof.specs.Renewed.{Roots}
use Rattle.pass_renewed_proof.specs.Small.{ComparesSmall}
use Rattle.pass_renewed_proof.specs.Steps.{given_at}

-- at a point stands no suspend, nor the switch of one, nor the end
pub record IsOrdinary (f : Function) (p : Point) : Type 0 where
  pub no_suspend : IsCallAt Intrinsic.CoroSuspend f p → ⊥
  pub no_switch : IsBehindSuspendCall f p.block p.at → ⊥
  pub no_end : p.block ≡ end_block f → p.at ≡ 0 → ⊥
  pub no_close : IsCallAt Intrinsic.CoroEnd f p → ⊥

-- at a point stands neither the switch of a suspend nor the end
pub record IsCalm (f : Function) (p : Point) : Type 0 where
  pub no_switch : IsBehindSuspendCall f p.block p.at → ⊥
  pub no_end : p.block ≡ end_block f → p.at ≡ 0 → ⊥
  pub no_close : IsCallAt Intrinsic.CoroEnd f p → ⊥

-- the name is the base of a getelementptr
abbrev pub IsBase : ℕ → Instr → Type 0
IsBase v (Instr.Gep name inbounds ty base indices) = is_local v base ≡ true
IsBase v _ = ⊥

-- such an instruction stands at the activation's place
pub record IsOrdinaryInstr (m : Module) (roots : Roots) (a : Activation) (i : Instr) : Type 0 where
  pub place : IsOrdinary (function_at m a.func) (place_in a)
  pub here : fetch (function_at m a.func) a.block a.at ≡ AtInstr i
  pub no_slot : HasNoSlot (AtInstr i)
  pub bytes : HasBytes (AtInstr i)
  -- neither does it give an address in a slot nor is it a part of one
  pub no_part : (v slot : ℕ) → roots a.func v ≡ Some slot → given_at (AtInstr i) ≡ Some v → ⊥
  pub no_base : (v slot : ℕ) → roots a.func v ≡ Some slot → IsBase v i → ⊥
  -- pointers that it compares have offsets of 64 bits
  pub small : ComparesSmall m a.values (AtInstr i)

-- ---- addresses in slots

-- a getelementptr of an address in a slot, which gives another one, stands at the activation's place
pub record IsPart (m : Module) (roots : Roots) (a : Activation) (name : ℕ) (inbounds : Bool) (ty : Ty) (base : ℕ)
    (indices : List Arg) : Type 0 where
  pub place : IsOrdinary (function_at m a.func) (place_in a)
  pub here : fetch (function_at m a.func) a.block a.at ≡ AtInstr (Instr.Gep name inbounds ty (Operand.Local base)
      indices)
  pub slot : ℕ
  pub root : roots a.func name ≡ Some slot
  pub of_slot : roots a.func base ≡ Some slot

-- what it leaves
abbrev pub with_part : Module → Work → ℕ → Bool → Ty → ℕ → List Arg → Work
with_part m w name inbounds ty base indices =
    set_value w name (element w.world.memory inbounds (value_in w.values base) (distance m ty (indices_of m w.values
    indices)))
