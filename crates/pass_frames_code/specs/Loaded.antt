-- What the loads of kept values give.
use Rattle.std.specs.Prelude.{ℕ, List, slice_get, Some, None, Ok, Err, Option, Result}
use Rattle.pass_proofs.specs.ir_base.declared.cause.Cause.{Cause}
use Rattle.pass_proofs.specs.pass_cells.Kept.{entry}
use Rattle.pass_proofs.specs.pass_cells.declared.plan.KeptValue.{KeptValue}
use Rattle.pass_proofs.specs.pass_fetch.Fetching.{value_bytes}
use Rattle.pass_frames_code.specs.Places.{Framing, plan}
use Rattle.pass_proofs.specs.run_memory.Memory.{load}
use Rattle.pass_proofs.specs.run_memory.declared.pointer.Value.{Value}
use Rattle.pass_proofs.specs.run_step.Step.{Context, Work}
use Rattle.pass_proofs.specs.run_step.Values.{access_of, address, value_in}

abbrev pub or_poison : Result Value Cause → Value
or_poison (Err c) = Value.Poison
or_poison (Ok v) = v

abbrev pub load_of : Context → Work → Option KeptValue → Value
load_of c w None = Value.Poison
load_of c w (Some k) =
    or_poison (load c.rights w.world.memory (address (value_in w.values k.cell)) (access_of k.ty) (value_bytes k.ty))

abbrev pub load_at : Context → Work → List KeptValue → Option ℕ → Value
load_at c w kept None = Value.Poison
load_at c w kept (Some at) = load_of c w (slice_get kept at)

-- what a load from the cell of a name gives, where it is kept
abbrev pub loaded_value : Framing → Context → Work → ℕ → Value
loaded_value x c w v = load_at c w (plan x).kept (entry (plan x).places v)
