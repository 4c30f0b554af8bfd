-- The instance that a coro.destroy goes on with was freed at coro.end, if each coro.end stands in the end block.
use Rattle.std.proofs.Common.{◌≡◌, true, ℕ}
use Rattle.std.specs.Prelude.{Some, slice_get}
use Rattle.elide_sites.specs.Destroyed.{FreesWhenDestroyed}
use Rattle.pass_elide_kept.specs.Runs.{EndsDestroyed, EndsInBlock}
use Rattle.pass_elide_proof.proofs.DestroyingEnds.{ended_freed}
use Rattle.pass_elide_proof.specs.Destroying.{DestroysAreToFree}
use Rattle.pass_elide_proof.specs.Elision.{Elision, framed, function_in}
use Rattle.pass_elide_proof.specs.Placing.{HasShape}
use Rattle.pass_elide_proof.specs.Releasing.{FreesAtOnce, HaveReleased}
use Rattle.pass_elide_proof.specs.Sound.{IsSoundState}
use Rattle.pass_elide_proof.specs.pass_proofs.run_source.declared.state.Instance.{Instance}
use Rattle.pass_elide_proof.specs.pass_proofs.run_source.declared.state.State.{State}

pub ends_freed : (e : Elision) (s : State) → IsSoundState (framed e) s → HaveReleased e s
    → DestroysAreToFree e.code s → EndsInBlock e s.top.func
    → (HasShape e s.top.func → FreesAtOnce (function_in e s.top.func) (e.shape s.top.func))
    → (HasShape e s.top.func → FreesWhenDestroyed (function_in e s.top.func)) → HasShape e s.top.func
    → EndsDestroyed e s → (number : ℕ) (x : Instance) → s.top.instance ≡ Some number
    → slice_get s.instances number ≡ Some x → x.freed ≡ true
ends_freed e s sound released destroys places at_once frees shape k =
    ended_freed e s sound released destroys (at_once shape) (frees shape) (record {
      caller = k.caller;
      callers = k.callers;
      below = k.below;
      behind = k.behind;
      resumed = k.resumed;
      result = k.result;
      must_tail = k.must_tail;
      ty = k.ty;
      args = k.args;
      there = k.there;
      block = places s.top.block s.top.at k.result k.must_tail k.ty k.args k.there;
    })
