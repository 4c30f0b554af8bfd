-- Both runs save a coroutine, or come to a suspend.
use Rattle.std.specs.Prelude.{◌≡◌, ℕ, Bool, false, List, Some, Option}
use Rattle.pass_elide_proof.specs.Both.{AreAtCall, HoldsOn, IsPlainName}
use Rattle.pass_elide_proof.specs.Elision.{Elision}
use Rattle.pass_elide_proof.specs.Looking.{GivesNone}
use Rattle.pass_elide_proof.specs.Match.{instance_in}
use Rattle.pass_proofs.specs.ir_model.Ty.{Ty}
use Rattle.pass_proofs.specs.ir_model.declared.operand.Arg.{Arg}
use Rattle.pass_proofs.specs.ir_model.declared.operand.Intrinsic.{Intrinsic}
use Rattle.pass_proofs.specs.ir_model.declared.operand.Operand.{Operand}
use Rattle.pass_proofs.specs.ir_paths.Windows.{operand_at}
use Rattle.pass_proofs.specs.run_source.State.{is_finished}
use Rattle.pass_proofs.specs.run_source.declared.state.Instance.{Instance}
use Rattle.pass_proofs.specs.run_source.declared.state.State.{State}

-- The coroutine gives no frame to a callee. Its instance is one of it, and isn't Finished.
pub record MaySave (e : Elision) (s : State) : Type 0 where
  pub bare : GivesNone e s.top.func
  pub own : (x : Instance) → instance_in s.instances s.top.instance ≡ Some x → x.coroutine ≡ s.top.func
  pub goes : (x : Instance) → instance_in s.instances s.top.instance ≡ Some x → is_finished x.status ≡ false

-- coro.save
pub record IsAtSave (e : Elision) (s t : State) (result : Option ℕ) (must_tail : Bool) (ty : Option Ty)
    (args : List Arg) : Type 0 where
  pub call : AreAtCall e s t Intrinsic.CoroSave result must_tail ty args
  pub holds : HoldsOn e s t result
  pub may : MaySave e s

-- coro.suspend, which saves itself where it has no token. Behind a save the instance may have been resumed and be
-- Finished.
pub record IsAtSuspend (e : Elision) (s t : State) (result : Option ℕ) (must_tail : Bool) (ty : Option Ty)
    (args : List Arg) : Type 0 where
  pub call : AreAtCall e s t Intrinsic.CoroSuspend result must_tail ty args
  pub holds : HoldsOn e s t result
  pub plain : (v : ℕ) → result ≡ Some v → IsPlainName (e.shape s.top.func) v
  pub may : operand_at args 0 ≡ Operand.None → MaySave e s
