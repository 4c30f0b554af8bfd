-- The coroutines whose frames may lie in a caller.
use Rattle.std.specs.Prelude.{ℕ, Bool, List, length, slice_get, Some, IsTrue, ◌≡◌, ◌↔◌}
use Rattle.elide_sites.specs.Chosen.{AreChosen, up_to}
use Rattle.elide_sites.specs.Destroyed.{FreesWhenDestroyed}
use Rattle.elide_shape.specs.Frames.{rets_give_frame}
use Rattle.elide_shape.specs.Frees.{are_released}
use Rattle.elide_shape.specs.Guard.{is_guarded}
use Rattle.ir_model.specs.Names.{function_at}
use Rattle.ir_model.specs.declared.module.Function.{Function}
use Rattle.ir_model.specs.declared.module.Module.{Module}

-- a coroutine that allocates where coro.alloc asks for it, returns its frame alone, hands it to a deallocator right after
-- each coro.free, and frees it when it is destroyed and not before
pub record IsElidable (f : Function) : Type 0 where
  pub coroutine : IsTrue f.coroutine
  pub guarded : IsTrue (is_guarded f)
  pub returned : IsTrue (rets_give_frame f)
  pub released : IsTrue (are_released f)
  pub destroyed : FreesWhenDestroyed f

-- exactly the elidable functions of a module, in order of the text
abbrev pub AreElidable : Module → List ℕ → Type 0
AreElidable m all = AreChosen (λ g. IsElidable (function_at m g)) (up_to (length m.functions)) all

-- for each function whether it is elidable
pub record AreFlags (m : Module) (flags : List Bool) : Type 0 where
  pub count : length flags ≡ length m.functions
  pub each : (g : ℕ) (is : Bool) → slice_get flags g ≡ Some is → IsTrue is ↔ IsElidable (function_at m g)

-- the same of the first functions
pub record AreFlagsTo (number : ℕ) (m : Module) (flags : List Bool) : Type 0 where
  pub count : length flags ≡ number
  pub each : (g : ℕ) (is : Bool) → slice_get flags g ≡ Some is → IsTrue is ↔ IsElidable (function_at m g)
