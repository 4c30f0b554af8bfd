-- What is asked of layouts, so that functions that give their callees frames break no rule.
use Rattle.std.specs.Prelude.{◌≡◌, ℕ, true, Some, slice_get}
use Rattle.frame_layout.specs.declared.layout.Layout.{Layout}
use Rattle.frame_layout.specs.declared.layout.Layouts.{Layouts}
use Rattle.ir_model.specs.declared.module.Function.{Function}
use Rattle.ir_model.specs.declared.module.Module.{Module}
use Rattle.pass_proofs.specs.rule_locals.Extents.{is_aligned, is_sized}

-- The frame of each layout may be an alloca of a plain module, and is that of a coroutine.
pub record MayBeGiven (layouts : Layouts) (m : Module) : Type 0 where
  pub sizes : (k : ℕ) (l : Layout) → slice_get layouts.coroutines k ≡ Some l → is_sized 16777216 l.size ≡ true
  pub aligns : (k : ℕ) (l : Layout) → slice_get layouts.coroutines k ≡ Some l → is_aligned l.align ≡ true
  pub coroutines : (k : ℕ) (l : Layout) (f : Function) → slice_get layouts.coroutines k ≡ Some l
      → slice_get m.functions l.coroutine ≡ Some f → f.coroutine ≡ true
