-- Where a ramp that was given its frame is about to begin.
use Rattle.std.specs.Prelude.{◌≡◌, ℕ, true, false, List, ◌∷◌, slice_get, Some, None}
use Rattle.elide_sites.specs.Sites.{callee_in}
use Rattle.pass_elide_proof.specs.Elision.{Elision, function_in, no_shape}
use Rattle.pass_elide_proof.specs.Invariant.{IsSiteOf, StandsAt, behind}
use Rattle.pass_proofs.specs.ir_model.declared.instr.Instr.{Instr}
use Rattle.pass_proofs.specs.ir_paths.declared.point.Point.{Point}
use Rattle.pass_proofs.specs.run_memory.Memory.{is_live}
use Rattle.pass_proofs.specs.run_memory.declared.block.Kind.{Kind}
use Rattle.pass_proofs.specs.run_memory.declared.block.MemoryBlock.{MemoryBlock}
use Rattle.pass_proofs.specs.run_source.State.{is_finished}
use Rattle.pass_proofs.specs.run_source.declared.state.Activation.{Activation}
use Rattle.pass_proofs.specs.run_source.declared.state.Instance.{Instance}
use Rattle.pass_proofs.specs.run_source.declared.state.Mode.{Mode}
use Rattle.pass_proofs.specs.run_source.declared.state.State.{State}
use Rattle.pass_proofs.specs.run_step.Values.{pointer_to}

pub record IsAtRoom (e : Elision) (s t : State) (block : ℕ) : Type 0 where
  pub mode : t.top.mode ≡ Mode.GivenRamp (pointer_to block)
  pub alone : t.top.instance ≡ None
  -- functions that are no coroutines have no shapes
  pub shapes : (func : ℕ) → (function_in e func).coroutine ≡ false → e.shape func ≡ no_shape
  -- the call behind which its caller stands is one of its function
  pub calls : (c : Activation) (below : List Activation) (call : Point) (i : Instr) (name : ℕ) → t.below ≡ c ∷ below
      → IsSiteOf e c.func call i name → StandsAt e c (behind call)
      → callee_in e.code (Some i) ≡ Some t.top.func
  -- where no frame lies in another one, frames begin their blocks
  pub starts : (i : ℕ) (y : Instance) → slice_get t.instances i ≡ Some y → y.start ≡ 0
  -- what was freed is gone
  pub dead : (i : ℕ) (x : Instance) (z : MemoryBlock) → slice_get s.instances i ≡ Some x → x.freed ≡ true
      → slice_get s.world.memory x.block ≡ Some z → is_live z.life ≡ false
  -- a stack block is owned by an instance that isn't Finished
  pub unowned : (z : MemoryBlock) → slice_get t.world.memory block ≡ Some z → z.kind ≡ Kind.Stack
      → ((i : ℕ) (y : Instance) → slice_get t.instances i ≡ Some y → y.block ≡ block → is_finished y.status ≡ true)
      → z.owned ≡ None
