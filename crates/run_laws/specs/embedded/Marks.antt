-- Lifetime markers, over a source memory and over a target memory in which it stands.
use Rattle.std.specs.Prelude.{ℕ, true, false, List, replicate, slice_get, Some, None, ◌≡◌, ◌≢◌}
use Rattle.run_memory.specs.Memory.{Rights, is_killed, is_live, may_compare_at, same_kind, start}
use Rattle.run_memory.specs.Pointers.{moved}
use Rattle.run_memory.specs.declared.block.Byte.{Byte}
use Rattle.run_memory.specs.declared.block.Kind.{Kind}
use Rattle.run_memory.specs.declared.block.Life.{Life}
use Rattle.run_memory.specs.declared.block.MemoryBlock.{MemoryBlock}
use Rattle.run_memory.specs.declared.pointer.Offset.{Offset}
use Rattle.run_memory.specs.declared.pointer.Pointer.{Pointer}
use Rattle.run_memory.specs.declared.pointer.Value.{Value}
use Rattle.ir_model.specs.declared.instr.Instr.{Instr}
use Rattle.ir_model.specs.declared.operand.Callee.{Callee}
use Rattle.ir_model.specs.declared.operand.Intrinsic.{Intrinsic}
use Rattle.run_laws.specs.memory.Pointers.{Home, home_of}
use Rattle.run_laws.specs.memory.Standing.{HasRights}
use Rattle.run_step.specs.Step.{AtInstr, Context, Fetched, Work, block_of}
use Rattle.run_step.specs.Values.{arg_values, nth}

-- no other block that lives has its home in the block's home
abbrev pub LivesAlone : List Home → List MemoryBlock → ℕ → Type 0
LivesAlone homes m b = (c : ℕ) (z : MemoryBlock) → c ≢ b → slice_get m c ≡ Some z → is_live z.life ≡ true → (home_of homes c).block ≢ (home_of homes b).block

-- nor has one into which pointers may be about
pub record IsAlone (homes : List Home) (m : List MemoryBlock) (b : ℕ) : Type 0 where
  pub live : LivesAlone homes m b
  pub seen : (c : ℕ) → c ≢ b → (home_of homes c).is_seen ≡ true → (home_of homes c).block ≢ (home_of homes b).block

-- a block that lives again holds nothing
abbrev pub anew : MemoryBlock → MemoryBlock
anew x = record x { life = Life.Live; bytes = replicate x.size Byte.Undefined }

-- the home of a block may live again, and what may be done with the one may be done with the other
pub record LivesAgain (rights target : Rights) (homes : List Home) (n : List MemoryBlock) (b : ℕ) (x : MemoryBlock) : Type 0 where
  pub block : MemoryBlock
  pub there : slice_get n (home_of homes b).block ≡ Some block
  pub unkilled : is_killed block.life ≡ false
  pub writable : same_kind x.kind Kind.Constant ≡ false → same_kind block.kind Kind.Constant ≡ false
  pub allowed : HasRights rights target (home_of homes b) b (anew x) (anew block)

-- where the source's block may live again so may its home, and pointers may be compared with null afterwards
pub record MayStart (rights target : Rights) (homes : List Home) (m n : List MemoryBlock) (b : ℕ) : Type 0 where
  pub again : (x : MemoryBlock) → slice_get m b ≡ Some x → is_killed x.life ≡ false → LivesAgain rights target homes n b x
  pub nulls : (o : Offset) → may_compare_at rights b (slice_get (start m b) b) o ≡ true → may_compare_at target (home_of homes b).block (slice_get (start n (home_of homes b).block) (home_of homes b).block) (moved o (home_of homes b).offset) ≡ true

-- a block of the target that is as the source's, from its start on, and that nobody owns
pub record IsTwin (n : List MemoryBlock) (h : Home) (x : MemoryBlock) : Type 0 where
  pub block : MemoryBlock
  pub there : slice_get n h.block ≡ Some block
  pub start : h.offset ≡ 0
  pub unkilled : is_killed x.life ≡ false → is_killed block.life ≡ false
  pub owner : block.owned ≡ None
  pub align : block.align ≡ x.align
  pub writable : same_kind x.kind Kind.Constant ≡ false → same_kind block.kind Kind.Constant ≡ false

-- the pointers of two markers; where the one is poison the other marks nothing. A block that is started stands alone in its home, one that ends alone of those that live
abbrev pub IsStart : Rights → Rights → List Home → List MemoryBlock → List MemoryBlock → Value → Value → Type 0
IsStart rights target homes m n (Value.Ptr (Pointer.At b o)) u = IsAlone homes m b × MayStart rights target homes m n b
IsStart rights target homes m n Value.Poison u = block_of u ≡ None
IsStart rights target homes m n _ u = Unit {0}

abbrev pub IsEnd : List Home → List MemoryBlock → Value → Value → Type 0
IsEnd homes m (Value.Ptr (Pointer.At b o)) u = LivesAlone homes m b
IsEnd homes m Value.Poison u = block_of u ≡ None
IsEnd homes m _ u = Unit {0}

-- a lifetime marker of such a block
abbrev pub MarksBlock : List Home → Context → Context → Work → Work → Fetched → Type 0
MarksBlock homes c d w x (AtInstr (Instr.Call result must_tail ty (Callee.Intrinsic Intrinsic.LifetimeStart) args)) =
    IsStart c.rights d.rights homes w.world.memory x.world.memory (nth (arg_values c.code w.values args) 1) (nth (arg_values d.code x.values args) 1)
MarksBlock homes c d w x (AtInstr (Instr.Call result must_tail ty (Callee.Intrinsic Intrinsic.LifetimeEnd) args)) =
    IsEnd homes w.world.memory (nth (arg_values c.code w.values args) 1) (nth (arg_values d.code x.values args) 1)
MarksBlock homes c d w x _ = ⊥
