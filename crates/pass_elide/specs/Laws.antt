-- What elision leaves as it was.
use Rattle.std.specs.Prelude.{ℕ, List, [], Some, slice_get, true, false, ◌≡◌, ◌<◌}
use Rattle.frame_layout.specs.declared.layout.Layout.{Layout}
use Rattle.ir_base.specs.declared.outcome.Place.{Place}
use Rattle.ir_model.specs.declared.instr.Instr.{Instr}
use Rattle.ir_model.specs.declared.module.Block.{Block}
use Rattle.ir_model.specs.declared.module.Function.{Function}
use Rattle.pass_elide.specs.Frames.{callee_fields}
use Rattle.pass_elide.specs.Places.{is_site}
use Rattle.run_step.specs.Effects.{is_alloca}

-- no site is in the function
pub record HasNoSite (sites : List Place) (func : ℕ) : Type 0 where
  pub none : (block at : ℕ) → is_site sites (record { func = func; block = block; at = at }) ≡ false

-- no layout has a field for the frame of a callee
pub record HaveNoCallees (ls : List Layout) : Type 0 where
  pub none : (k : ℕ) (l : Layout) → slice_get ls k ≡ Some l → callee_fields (Some l) ≡ []

-- what stands before an alloca is one
pub record AreAllocasFirst (is : List Instr) : Type 0 where
  pub first : (j k : ℕ) (i x : Instr) → slice_get is j ≡ Some i → slice_get is k ≡ Some x → is_alloca x ≡ true → j < k
      → is_alloca i ≡ true

-- the entry of a function begins with its allocas
pub record BeginsWithAllocas (f : Function) : Type 0 where
  pub entry : (b : Block) → slice_get f.blocks 0 ≡ Some b → AreAllocasFirst b.instrs
