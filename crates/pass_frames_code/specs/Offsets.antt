-- Where the layout of a frame has its fields and slots.
use Rattle.std.specs.Prelude.{◌≡◌, ℕ, List, Some, slice_get}
use Rattle.pass_proofs.specs.frame_contents.declared.held.Holding.{Holding}

-- no value or slot is held twice
pub record AreHeldOnce (held : List Holding) : Type 0 where
  pub each : (j k : ℕ) (x y : Holding) → slice_get held j ≡ Some x → slice_get held k ≡ Some y → x.value ≡ y.value
      → j ≡ k
