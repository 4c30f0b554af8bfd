-- What is asked of an instance of which a marker starts a slot, whose field is to lie apart from others.
use Rattle.compiler.specs.run_source.declared.state.Instance.{Instance}
use Rattle.compiler.specs.run_step.declared.world.Slot.{Slot}
use Rattle.std.specs.List.{Contains}
use Rattle.std.specs.Prelude.{◌≡◌}

pub record HasSlotsOnce (x : Instance) : Type 0 where
  -- an alloca makes one slot of an instance
  pub once : (one other : Slot) → Contains x.slots one → Contains x.slots other → one.alloca ≡ other.alloca
      → one.block ≡ other.block
