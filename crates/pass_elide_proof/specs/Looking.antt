-- Both runs look at an instance by its handle, or by its promise.
use Rattle.std.specs.Prelude.{◌≡◌, ◌^◌, ◌<◌, ℕ, Bool, false, List, [], slice_get, Some, Option}
use Rattle.pass_elide.specs.Elided.{function_frames}
use Rattle.pass_elide_proof.specs.Both.{AreAtOwn, HoldsOn, IsPlainName, standing_at}
use Rattle.pass_elide_proof.specs.Elision.{Elision, differs_in, framed, function_in, rooms}
use Rattle.pass_elide_proof.specs.Match.{AreElided, is_given_mode, sides, was_given}
use Rattle.pass_proofs.specs.ir_model.Ty.{Ty}
use Rattle.pass_proofs.specs.ir_model.declared.operand.Arg.{Arg}
use Rattle.pass_proofs.specs.ir_model.declared.operand.Intrinsic.{Intrinsic}
use Rattle.pass_proofs.specs.ir_model.declared.operand.Operand.{Operand}
use Rattle.pass_proofs.specs.ir_paths.Windows.{operand_at}
use Rattle.pass_proofs.specs.run_framed.Framed.{promise_offset}
use Rattle.pass_proofs.specs.run_source.declared.state.Instance.{Instance}
use Rattle.pass_proofs.specs.run_source.declared.state.State.{State}

-- the coroutine gives no frame to a callee
abbrev pub GivesNone : Elision → ℕ → Type 0
GivesNone e func = function_frames (rooms e func) (function_in e func) ≡ []

-- The call looks at an instance by its first operand, which doesn't differ. It sets a name that doesn't either.
pub record IsAtLook (e : Elision) (s t : State) (n : ℕ) (r : AreElided e s (standing_at t n)) (i : Intrinsic)
    (result : Option ℕ) (must_tail : Bool) (ty : Option Ty) (args : List Arg) : Type 0 where
  pub call : AreAtOwn e s t n r i result must_tail ty args
  pub holds : HoldsOn e s t result
  pub plain : (v : ℕ) → result ≡ Some v → IsPlainName (e.shape s.top.func) v
  pub handle : (v : ℕ) → operand_at args 0 ≡ Operand.Local v
      → differs_in (e.shape s.top.func) (is_given_mode t.top.mode) (was_given (sides s t) t.top) v ≡ false

-- coro.done of coroutines that give no frames
pub record IsAtDone (e : Elision) (s t : State) (n : ℕ) (r : AreElided e s (standing_at t n)) (result : Option ℕ)
    (must_tail : Bool) (ty : Option Ty) (args : List Arg) : Type 0 where
  pub look : IsAtLook e s t n r Intrinsic.CoroDone result must_tail ty args
  pub bare : (i : ℕ) (x : Instance) → slice_get s.instances i ≡ Some x → GivesNone e x.coroutine

-- coro.promise, where frames begin their blocks; promises lie at offsets below 2^64
pub record IsAtPromise (e : Elision) (s t : State) (n : ℕ) (r : AreElided e s (standing_at t n)) (result : Option ℕ)
    (must_tail : Bool) (ty : Option Ty) (args : List Arg) : Type 0 where
  pub look : IsAtLook e s t n r Intrinsic.CoroPromise result must_tail ty args
  pub starts : (i : ℕ) (y : Instance) → slice_get t.instances i ≡ Some y → y.start ≡ 0
  pub small : (i distance : ℕ) (x : Instance) → slice_get s.instances i ≡ Some x
      → promise_offset (framed e) x ≡ Some distance → distance < 2 ^ 64
