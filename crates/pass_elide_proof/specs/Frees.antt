-- Both runs ask for the memory of the frame.
use Rattle.std.specs.Prelude.{◌≡◌, ℕ, Bool, true, false, List, slice_get, Some, None, Option}
use Rattle.pass_elide_proof.specs.Both.{AreAtCall, HoldsOn}
use Rattle.pass_elide_proof.specs.Elision.{Elision}
use Rattle.pass_elide_proof.specs.Match.{instance_in, is_given_mode}
use Rattle.pass_proofs.specs.ir_model.Ty.{Ty}
use Rattle.pass_proofs.specs.ir_model.declared.operand.Arg.{Arg}
use Rattle.pass_proofs.specs.ir_model.declared.operand.Intrinsic.{Intrinsic}
use Rattle.pass_proofs.specs.run_framed.Framed.{is_given}
use Rattle.pass_proofs.specs.run_source.declared.state.Instance.{Instance}
use Rattle.pass_proofs.specs.run_source.declared.state.State.{State}

pub record IsAtFree (e : Elision) (s t : State) (result : Option ℕ) (must_tail : Bool) (ty : Option Ty)
    (args : List Arg) : Type 0 where
  pub call : AreAtCall e s t Intrinsic.CoroFree result must_tail ty args
  pub holds : HoldsOn e s t result
  -- the framed run gives no frames
  pub allocates : (i : ℕ) (x : Instance) → slice_get s.instances i ≡ Some x → is_given s.world.memory x ≡ false
  -- a ramp that was given its frame has begun there
  pub ramp : (y : Instance) → instance_in t.instances t.top.instance ≡ Some y → is_given_mode t.top.mode ≡ true
      → is_given t.world.memory y ≡ true
  -- the shape tells the name, where the frame was given
  pub freed : (v : ℕ) (y : Instance) → result ≡ Some v → instance_in t.instances t.top.instance ≡ Some y
      → is_given t.world.memory y ≡ true → (e.shape s.top.func).freed v ≡ true
  pub need : (v : ℕ) → result ≡ Some v → (e.shape s.top.func).need v ≡ false
  pub tested : (v : ℕ) → result ≡ Some v → (e.shape s.top.func).tested v ≡ None
