-- Allocas and allocators that the framed run and its part are at.
use Rattle.std.specs.Prelude.{◌≡◌, ℕ, ◌<◌, ◌^◌, Bool, true, false, List, Option, Some}
use Rattle.pass_proofs.specs.ir_base.declared.outcome.Word.{Word}
use Rattle.pass_proofs.specs.ir_model.Layout.{size_of}
use Rattle.pass_proofs.specs.ir_model.Names.{function_at}
use Rattle.pass_proofs.specs.ir_model.Ty.{Ty}
use Rattle.pass_proofs.specs.ir_model.declared.instr.Instr.{Instr}
use Rattle.pass_proofs.specs.ir_model.declared.operand.Allocator.{Allocator}
use Rattle.pass_proofs.specs.ir_model.declared.operand.Arg.{Arg}
use Rattle.pass_proofs.specs.ir_model.declared.operand.Callee.{Callee}
use Rattle.pass_proofs.specs.ir_paths.Slots.{allocas_of}
use Rattle.pass_split_proof.specs.places.Places.{IsPlace}
use Rattle.pass_split_proof.specs.states.Activations.{is_entering}
use Rattle.pass_split_proof.specs.states.Related.{AreRelated}
use Rattle.pass_split_proof.specs.steps.Operands.{IsReadable}
use Rattle.pass_proofs.specs.run_framed.Framed.{FramedGiven}
use Rattle.pass_proofs.specs.run_laws.changed.Changed.{Each, values_of}
use Rattle.pass_proofs.specs.run_memory.declared.pointer.Value.{Value}
use Rattle.run_access_worked.specs.run_plain.Plain.{PlainGiven}
use Rattle.run_access_worked.specs.run_plain.declared.state.PlainState.{PlainState}
use Rattle.pass_proofs.specs.run_source.Source.{is_among}
use Rattle.pass_proofs.specs.run_source.State.{function_of}
use Rattle.pass_proofs.specs.run_source.declared.state.State.{State}
use Rattle.pass_proofs.specs.run_step.Step.{AtInstr, fetch}
use Rattle.pass_proofs.specs.run_step.Values.{arg_values, nth}

abbrev pub allocates : Allocator → Bool
allocates Allocator.Malloc = true
allocates Allocator.Znwm = true
allocates a = false

-- The framed run is at a call of an allocator with a size below 2^64, and the part is at the same place.
pub record IsAtAllocator (g : FramedGiven) (h : PlainGiven) (s : State) (t : PlainState) (r : AreRelated g h s t)
    : Type 0 where
  pub settled : is_entering s.top.mode ≡ false
  pub place : IsPlace r.top.shape r.top.part (function_of g.given s) (function_at h.code t.top.func) s.top.block
      s.top.at t.top.block t.top.at
  pub result : Option ℕ
  pub must_tail : Bool
  pub ty : Option Ty
  pub allocator : Allocator
  pub is : allocates allocator ≡ true
  pub args : List Arg
  pub there : fetch (function_of g.given s) s.top.block s.top.at ≡ AtInstr (Instr.Call result must_tail ty
      (Callee.Allocator allocator) args)
  pub readable : Each (IsReadable g.given.code h.code (function_of g.given s)) (values_of args)
  pub small : (x : Word) → nth (arg_values g.given.code s.top.values args) 0 ≡ Value.Int x → x.bits < 2 ^ 64
  pub others : result ≡ Some r.top.shape.begin → ⊥

-- The framed run is at an alloca, and its type has the same size in both modules.
pub record IsAlloca (g : FramedGiven) (h : PlainGiven) (s : State) (t : PlainState) (r : AreRelated g h s t)
    : Type 0 where
  pub name : ℕ
  pub ty : Ty
  pub align : ℕ
  pub there : fetch (function_of g.given s) s.top.block s.top.at ≡ AtInstr (Instr.Alloca name ty align)
  pub sized : size_of h.code ty ≡ size_of g.given.code ty
  pub small : size_of g.given.code ty < 2 ^ 64
  pub among : (block : ℕ) → (function_of g.given s).coroutine ≡ true → is_among (allocas_of (function_of g.given s))
      (record { alloca = name; block = block }) ≡ true
  pub others : name ≡ r.top.shape.begin → ⊥

-- the part is at the same place
pub record IsAtAlloca (g : FramedGiven) (h : PlainGiven) (s : State) (t : PlainState) (r : AreRelated g h s t)
    : Type 0 where
  pub alloca : IsAlloca g h s t r
  pub settled : is_entering s.top.mode ≡ false
  pub place : IsPlace r.top.shape r.top.part (function_of g.given s) (function_at h.code t.top.func) s.top.block
      s.top.at t.top.block t.top.at
