-- What is asked of names that lie in the frame, so that they are used behind begin once the slots are copied there.
use Rattle.std.specs.Prelude.{◌≡◌, ◌⊎◌, ℕ, Bool, true, false, List, [], Some, Option, option_to_list, slice_get, unwrap_or, ◌^◌, ◌<◌, ◌∷◌, ◌++◌}
use Rattle.pass_exits_proof.specs.addresses.rules.Addresses.{lies_in_frame}
use Rattle.pass_copies.specs.Slots.{entry_instrs}
use Rattle.pass_copies.specs.Uses.{flag_at}
use Rattle.pass_exits_proof.specs.rule_uses.Uses.{block_values, phi_values}
use Rattle.pass_exits_proof.specs.flow_solver.Paths.{IsListed}
use Rattle.pass_exits_proof.specs.ir_parts.Contents.{ending_operands, result_of}
use Rattle.ir_model.specs.declared.instr.Instr.{Instr}
use Rattle.ir_model.specs.declared.instr.Phi.{Phi}
use Rattle.ir_model.specs.declared.module.Block.{Block}
use Rattle.ir_model.specs.declared.module.Function.{Function}
use Rattle.ir_model.specs.declared.operand.Operand.{Operand}
use Rattle.pass_exits_proof.specs.ir_paths.Slots.{allocas_in}
use Rattle.pass_frames.specs.Framed.{begin_block, is_begin}
use Rattle.pass_frames.specs.Tables.{label_flags}
use Rattle.pass_exits_proof.specs.run_laws.changed.Changed.{Each}
use Rattle.pass_exits_proof.specs.rule_values.Kinds.{value_kind}
use Rattle.pass_exits_proof.specs.rule_values.declared.kinds.Kind.{Kind}
use Rattle.pass_exits_proof.specs.rule_laws.rules.woven_rules.Weaving.{IsThere}
use Rattle.pass_exits_proof.specs.rule_laws.frames.begin_order.Behind.{AreAgainBehind}
use Rattle.pass_exits_proof.specs.rule_laws.rules.begin_order.Behind.{access_operands, other_operands}
use Rattle.pass_exits_proof.specs.addresses.begin_order.Behind.{IsBehind, IsIncomingBehind}

-- the labels of begin's block and of the blocks before it
abbrev pub before_begin : Function → List ℕ → List Bool
before_begin f before = label_flags f (begin_block f ∷ before)

-- the name is a flagged alloca of the entry block
pub record IsEntrySlot (f : Function) (slots : List Bool) (v : ℕ) : Type 0 where
  pub flagged : flag_at slots v ≡ true
  pub alloca : IsListed v (allocas_in (entry_instrs f.blocks))

-- the same, or the operand is such a slot, whose accesses before begin go by its cell
abbrev pub MayBeAccessed : Function → ℕ → List Bool → List (Option ℕ) → ℕ → List ℕ → Operand → Type 0
MayBeAccessed f begin slots offsets block before (Operand.Local v) = lies_in_frame offsets v ≡ true → IsEntrySlot f slots v ⊎ IsThere f block before begin
MayBeAccessed f begin slots offsets block before _ = Unit {0}

-- so it is of all instructions behind those that have made some values of a block
abbrev pub AreBehind : Function → ℕ → List Bool → List (Option ℕ) → ℕ → List ℕ → List Instr → Type 0
AreBehind f begin slots offsets block before [] = Unit {0}
AreBehind f begin slots offsets block before (i ∷ is) =
    Each (IsBehind f begin offsets block before) (other_operands i)
    × (Each (MayBeAccessed f begin slots offsets block before) (access_operands i) × AreBehind f begin slots offsets block (option_to_list (result_of i) ++ before) is)

-- names in the frame are used behind begin, but for accesses to slots
pub record IsBlockBehind (f : Function) (begin : ℕ) (slots : List Bool) (offsets : List (Option ℕ)) (at : ℕ) (b : Block) : Type 0 where
  pub phis : Each (λ (p : Phi). Each (IsIncomingBehind f begin offsets) p.incoming) b.phis
  pub instrs : AreBehind f begin slots offsets at (phi_values b) b.instrs
  pub term : Each (IsBehind f begin offsets at (block_values b)) (ending_operands b.term)

-- so it is of all blocks
abbrev pub AreBlocksBehind : Function → ℕ → List Bool → List (Option ℕ) → Type 0
AreBlocksBehind f begin slots offsets = (at : ℕ) (b : Block) → slice_get f.blocks at ≡ Some b → IsBlockBehind f begin slots offsets at b

-- ---- the function

-- The begins, and no other instructions, make the one value, a pointer outside the frame; what lies in the frame are pointers, none of them flagged as one whose
-- markers stay, and used behind begin, but for slots.
pub record IsFrameBehind (f : Function) (begin : ℕ) (slots : List Bool) (offsets : List (Option ℕ)) (marked : List Bool) : Type 0 where
  pub named : (at : ℕ) (b : Block) (i : Instr) → slice_get f.blocks at ≡ Some b → IsListed i b.instrs → is_begin i ≡ true → result_of i ≡ Some begin
  pub alone : (at : ℕ) (b : Block) (i : Instr) → slice_get f.blocks at ≡ Some b → IsListed i b.instrs → result_of i ≡ Some begin → is_begin i ≡ true
  pub pointer : value_kind f begin ≡ Some Kind.Ptr
  pub outside : lies_in_frame offsets begin ≡ false
  pub pointers : (v d : ℕ) → slice_get offsets v ≡ Some (Some d) → value_kind f v ≡ Some Kind.Ptr
  pub near : (v d : ℕ) → slice_get offsets v ≡ Some (Some d) → d < 2 ^ 64
  pub unmarked : (v : ℕ) → unwrap_or (slice_get marked v) false ≡ true → lies_in_frame offsets v ≡ false
  pub blocks : AreBlocksBehind f begin slots offsets
  pub again : AreAgainBehind f begin
