-- Instructions of one shape that make or mark a block, by what is read: what is asked of them and what comes of them.
use Rattle.std.specs.Prelude.{ℕ, Bool, true, false, List, [], ◌∷◌, ◌++◌, length, Option, ◌≡◌}
use Rattle.run_memory.specs.Memory.{Rights}
use Rattle.run_memory.specs.declared.block.MemoryBlock.{MemoryBlock}
use Rattle.ir_model.specs.declared.instr.Instr.{Instr}
use Rattle.ir_model.specs.declared.operand.Callee.{Callee}
use Rattle.ir_model.specs.declared.operand.Intrinsic.{Intrinsic}
use Rattle.run_laws.specs.memory.Pointers.{Home, IsValue}
use Rattle.run_step.specs.Step.{Action, AtInstr, Context, Done, Fetched, NewSlot, Stuck, Work}
use Rattle.run_step.specs.Values.{Env, arg_values, nth}
use Rattle.run_laws.specs.embedded.Making.{IsNewHome, MakesBlock, whole_home}
use Rattle.run_laws.specs.embedded.Marks.{IsEnd, IsStart}
use Rattle.run_laws.specs.transfer.Muted.{muted}
use Rattle.run_laws.specs.transfer.Shapes.{StaysAt}
use Rattle.run_laws.specs.transfer.Transfer.{AreOver, AreSet, Maps, StandsFor, args_at}

-- ---- blocks that are made

-- two instructions of one shape that make a block, which isn't hidden; it has a home of its own
pub record IsMaking (homes : List Home) (hides : ℕ
    → Bool) (maps : Maps) (c d : Context) (w x : Work) (here there : Fetched) : Type 0 where
  pub shape : StaysAt (StandsFor true (IsValue homes) c d w.values x.values) maps.label here there
  pub types : d.code.types ≡ c.code.types
  pub known : length homes ≡ length w.world.memory
  pub new : hides (length w.world.memory) ≡ false
  pub makes : MakesBlock c d w x here

-- the works over one home more, which is that of the source's last block; the source's memory was m before
pub record AreGrownOver (rights target : Rights) (homes : List Home) (hides : ℕ → Bool) (moves : ℕ
    → ℕ) (m : List MemoryBlock) (k : ℕ) (given : Option ℕ) (env other : Env) (w x : Work) : Type 0 where
  pub over : AreOver rights target (homes ++ whole_home k ∷ []) hides moves w.world x.world
  pub known : length (homes ++ whole_home k ∷ []) ≡ length w.world.memory
  pub new : IsNewHome homes k (muted hides m) (muted hides w.world.memory) x.world.memory
  pub set : AreSet (homes ++ whole_home k ∷ []) given env other w.values x.values

-- the target makes a block of its own for the source's, which stands there from now on
abbrev pub GoesNew : Rights → Rights → List Home → (ℕ → Bool) → (ℕ → ℕ) → Option ℕ → Work → Work → Action → Action
    → Type 0
GoesNew rights target homes hides moves given w x (Done v) b =
    (y : Work) × (b ≡ Done y) × AreGrownOver rights target homes hides moves w.world.memory
    (length x.world.memory) given w.values x.values v y
GoesNew rights target homes hides moves given w x (NewSlot v slot) b =
    (y : Work) × (b ≡ NewSlot y (record { alloca = slot.alloca; block = length x.world.memory })) ×
    (slot.block ≡ length homes)
    × AreGrownOver rights target homes hides moves w.world.memory (length x.world.memory) given w.values x.values v y
GoesNew rights target homes hides moves given w x (Stuck cause) b = Unit {0}
GoesNew rights target homes hides moves given w x _ b = ⊥

-- ---- blocks that are marked

-- what is asked of the marked block, whose address each of the two has
abbrev pub MarksBoth : List Home → (ℕ → Bool) → Context → Context → Work → Work → Fetched → Fetched → Type 0
MarksBoth homes hides c d w x (AtInstr (Instr.Call result must_tail ty
    (Callee.Intrinsic Intrinsic.LifetimeStart) args)) there =
    IsStart c.rights d.rights homes (muted hides w.world.memory) x.world.memory
    (nth (arg_values c.code w.values args) 1) (nth (arg_values d.code x.values (args_at there)) 1)
MarksBoth homes hides c d w x (AtInstr (Instr.Call result must_tail ty
    (Callee.Intrinsic Intrinsic.LifetimeEnd) args)) there =
    IsEnd homes (muted hides w.world.memory) (nth (arg_values c.code w.values args) 1)
    (nth (arg_values d.code x.values (args_at there)) 1)
MarksBoth homes hides c d w x _ there = ⊥

-- two markers of one shape, of a block that isn't hidden
pub record IsMarking (homes : List Home) (hides : ℕ
    → Bool) (maps : Maps) (c d : Context) (w x : Work) (here there : Fetched) : Type 0 where
  pub shape : StaysAt (StandsFor true (IsValue homes) c d w.values x.values) maps.label here there
  pub marks : MarksBoth homes hides c d w x here there
