-- A part calls what a frame's header names.
use Rattle.std.specs.Prelude.{◌≡◌, ℕ, ◌+◌, ◌<◌, List, [], ◌∷◌, Option, None, Some, length, slice_get}
use Rattle.pass_proofs.specs.ir_base.declared.outcome.Outcome.{Outcome}
use Rattle.pass_proofs.specs.ir_model.Names.{function_at}
use Rattle.pass_proofs.specs.ir_model.Ty.{ptr}
use Rattle.pass_proofs.specs.ir_model.declared.operand.Operand.{Operand}
use Rattle.pass_split_proof.specs.states.Going.{placed_at}
use Rattle.pass_proofs.specs.run_laws.access.Lines.{Holds, pointer_at}
use Rattle.pass_proofs.specs.run_memory.Memory.{encode, owner_rights}
use Rattle.pass_proofs.specs.run_memory.declared.pointer.Pointer.{Pointer}
use Rattle.pass_proofs.specs.run_memory.declared.pointer.Value.{Value}
use Rattle.run_access_worked.specs.run_plain.Plain.{PlainGiven, plain_called, plain_context, plain_work}
use Rattle.run_access_worked.specs.run_plain.declared.state.PlainState.{PlainState}
use Rattle.pass_proofs.specs.run_step.Step.{value_at}

-- A defined function has a pointer as its one parameter, and gives nothing.
pub record TakesPointer (h : PlainGiven) (func : ℕ) : Type 0 where
  pub there : slice_get h.code.functions func ≡ Some (function_at h.code func)
  pub result : (function_at h.code func).result ≡ None
  pub name : ℕ
  pub params : (function_at h.code func).params ≡ record { ty = ptr; name = name } ∷ []

-- An operand is an address, in each work that has other values for new names only. At some bytes behind it the address
-- of such a function is stored.
pub record IsCallable (h : PlainGiven) (t : PlainState) (x : Operand) (first count block start distance func : ℕ)
    : Type 0 where
  pub running : t.outcome ≡ Outcome.Running
  pub takes : TakesPointer h func
  pub leads : value_at (plain_context h t) (plain_work t) ptr x ≡ pointer_at block start
  pub local : (v : ℕ) → x ≡ Operand.Local v → v < first
  pub room : first + count < length t.top.values + 1
  pub stored : Holds owner_rights t.world.memory block (start + distance) 8 (encode 8 (Value.Ptr (Pointer.Func func)))

-- the callee is on top, and the part waits behind the call with other values
abbrev pub calling : PlainGiven → PlainState → (func block start at : ℕ) → List (Option Value) → PlainState
calling h t func block start at values =
    record t {
      top = plain_called h.code func (pointer_at block start ∷ []) None;
      below = placed_at t.top t.top.block at values ∷ t.below;
    }
