-- Instructions that make a block, over a source memory and over a target memory in which it stands.
use Rattle.std.specs.Prelude.{ℕ, true, List, [], ◌∷◌, ◌++◌, length, slice_get, Some, ◌≡◌, ◌<◌, ◌^◌}
use Rattle.run_memory.specs.Memory.{Rights}
use Rattle.run_memory.specs.Pointers.{moved}
use Rattle.run_memory.specs.declared.block.Kind.{Kind}
use Rattle.run_memory.specs.declared.block.MemoryBlock.{MemoryBlock}
use Rattle.run_memory.specs.declared.pointer.Offset.{Offset}
use Rattle.run_memory.specs.declared.pointer.Value.{Value}
use Rattle.ir_base.specs.declared.outcome.Word.{Word}
use Rattle.ir_model.specs.Layout.{size_of}
use Rattle.ir_model.specs.declared.instr.Instr.{Instr}
use Rattle.ir_model.specs.declared.operand.Allocator.{Allocator}
use Rattle.ir_model.specs.declared.operand.Callee.{Callee}
use Rattle.run_laws.specs.memory.Pointers.{Home, home_of}
use Rattle.run_laws.specs.memory.Standing.{HasRights, blank_block}
use Rattle.run_step.specs.Step.{Action, AtInstr, Context, Done, Fetched, NewSlot, Stuck, Work, alloca_kind, has_markers}
use Rattle.run_step.specs.Values.{arg_values, nth}
use Rattle.run_laws.specs.embedded.Marks.{IsAlone, IsTwin, LivesAlone}
use Rattle.run_laws.specs.embedded.Related.{AreWorks}

-- the home that is the whole of a block, into which pointers may be about
abbrev pub whole_home : ℕ → Home
whole_home b = record { block = b; offset = 0; is_seen = true }

-- what may be done with the source's next block, of number b and of a kind, may be done with the target's, of number c and of another kind, and so may a comparison with null at any offset
pub record AreNewRights (rights target : Rights) (b c : ℕ) (kind other : Kind) : Type 0 where
  pub allowed : (size align : ℕ) → HasRights rights target (whole_home c) b (blank_block size align kind) (blank_block size align other)
  pub nulls : (size align : ℕ) (o : Offset) → rights.is_comparable b (blank_block size align kind) o.bits ≡ true → target.is_comparable c (blank_block size align other) (moved o 0).bits ≡ true

-- a size that an allocator is asked for is below 2^64
abbrev pub IsSmall : Value → Type 0
IsSmall v = (n : Word) → v ≡ Value.Int n → n.bits < 2 ^ 64

-- the next blocks of both have the same rights
abbrev pub HaveNewRights : Context → Context → Work → Work → (kind other : Kind) → Type 0
HaveNewRights c d w x kind other = AreNewRights c.rights d.rights (length w.world.memory) (length x.world.memory) kind other

-- an alloca with markers in both functions or in none, or a call of an allocator; the new block has the same rights in both
abbrev pub MakesBlock : Context → Context → Work → Work → Fetched → Type 0
MakesBlock c d w x (AtInstr (Instr.Alloca name ty align)) =
    (size_of c.code ty < 2 ^ 64) × (has_markers d.function name ≡ has_markers c.function name) × HaveNewRights c d w x (alloca_kind c.function) (alloca_kind d.function)
MakesBlock c d w x (AtInstr (Instr.Call result must_tail ty (Callee.Allocator Allocator.Malloc) args)) =
    IsSmall (nth (arg_values c.code w.values args) 0) × HaveNewRights c d w x Kind.Allocator Kind.Allocator
MakesBlock c d w x (AtInstr (Instr.Call result must_tail ty (Callee.Allocator Allocator.Znwm) args)) =
    IsSmall (nth (arg_values c.code w.values args) 0) × HaveNewRights c d w x Kind.Allocator Kind.Allocator
MakesBlock c d w x _ = ⊥

-- the new block stands alone in its home, which is as it is and nobody owns; blocks that stood alone still do, and so do those that lived alone
pub record IsNewHome (homes : List Home) (k : ℕ) (m after n : List MemoryBlock) : Type 0 where
  pub alone : IsAlone (homes ++ whole_home k ∷ []) after (length homes)
  pub others : (b : ℕ) → (home_of homes b).is_seen ≡ true → IsAlone homes m b → IsAlone (homes ++ whole_home k ∷ []) after b
  pub lives : (b : ℕ) → (home_of homes b).is_seen ≡ true → LivesAlone homes m b → LivesAlone (homes ++ whole_home k ∷ []) after b
  pub twin : (z : MemoryBlock) → slice_get after (length homes) ≡ Some z → IsTwin n (whole_home k) z

-- the works over one home more, which is that of the source's last block; the source's memory was m before
pub record AreGrown (rights target : Rights) (homes : List Home) (moves : ℕ → ℕ) (m : List MemoryBlock) (k : ℕ) (w x : Work) : Type 0 where
  pub works : AreWorks rights target (homes ++ whole_home k ∷ []) moves w x
  pub known : length (homes ++ whole_home k ∷ []) ≡ length w.world.memory
  pub new : IsNewHome homes k m w.world.memory x.world.memory

-- the target makes a block of its own for the source's, which stands there from now on; its number is given
abbrev pub GoesAnew : Rights → Rights → List Home → (ℕ → ℕ) → List MemoryBlock → ℕ → Action → Action → Type 0
GoesAnew rights target homes moves m k (Done w) b = (x : Work) × (b ≡ Done x) × AreGrown rights target homes moves m k w x
GoesAnew rights target homes moves m k (NewSlot w slot) b =
    (x : Work) × (b ≡ NewSlot x (record { alloca = slot.alloca; block = k })) × (slot.block ≡ length homes) × AreGrown rights target homes moves m k w x
GoesAnew rights target homes moves m k (Stuck cause) b = Unit {0}
GoesAnew rights target homes moves m k _ b = ⊥
