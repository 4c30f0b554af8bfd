-- Blocks behind suspends that end in jumps, so that no edge of theirs leaves a window.
use Rattle.std.specs.Prelude.{◌≡◌, ◌≤◌, ℕ, true, false, Some, length, slice_get}
use Rattle.pass_proofs.specs.ir_model.declared.instr.Terminator.{Terminator}
use Rattle.pass_proofs.specs.ir_model.declared.module.Block.{Block}
use Rattle.pass_proofs.specs.ir_model.declared.module.Function.{Function}
use Rattle.pass_proofs.specs.ir_model.declared.module.Module.{Module}
use Rattle.pass_proofs.specs.pass_intrinsics.Shapes.{suspends_of}
use Rattle.pass_split_proof.specs.states.Related.{is_return_label}

pub record JumpsBehind (f : Function) : Type 0 where
  -- those blocks are made on edges (`returns_have_blocks_of_their_own`)
  pub jumps : (k : ℕ) (b : Block) → slice_get f.blocks k ≡ Some b → is_return_label (suspends_of f) b.label ≡ true
      → (u : ℕ) × (b.term ≡ Terminator.Jump u)
  -- labels are names of the function
  pub named : (l : ℕ) → length f.names ≤ l → is_return_label (suspends_of f) l ≡ false

-- so it is in each coroutine
abbrev pub AllJumpBehind : Module → Type 0
AllJumpBehind m = (k : ℕ) (f : Function) → slice_get m.functions k ≡ Some f → f.coroutine ≡ true → JumpsBehind f
