-- The frame of the topmost activation's instance, which was given.
use Rattle.std.specs.Prelude.{◌≡◌, ℕ, true, Some, slice_get}
use Rattle.pass_proofs.specs.run_framed.Framed.{is_given}
use Rattle.pass_proofs.specs.run_source.declared.state.Instance.{Instance}
use Rattle.pass_proofs.specs.run_source.declared.state.State.{State}

-- the frame of the topmost activation's instance was given to its ramp
abbrev pub HasGivenFrame : State → Type 0
HasGivenFrame s = (i : ℕ) (x : Instance) → s.top.instance ≡ Some i → slice_get s.instances i ≡ Some x
    → is_given s.world.memory x ≡ true
