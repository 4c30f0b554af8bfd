-- The frame of an instance that comes to its end.
use Rattle.std.specs.Prelude.{◌≡◌, ℕ, false, Some, slice_get}
use Rattle.pass_proofs.specs.run_framed.Framed.{is_given}
use Rattle.pass_proofs.specs.run_source.declared.state.Instance.{Instance}
use Rattle.pass_proofs.specs.run_source.declared.state.State.{State}

-- the frame of the topmost activation's instance was allocated, and not given
abbrev pub HasOwnFrame : State → Type 0
HasOwnFrame s = (i : ℕ) (x : Instance) → s.top.instance ≡ Some i → slice_get s.instances i ≡ Some x
    → is_given s.world.memory x ≡ false
