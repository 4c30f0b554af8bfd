-- The frame of each instance that isn't freed is there, in each state of the run of an accepted source.
use Rattle.std.proofs.Common.{◌≡◌, ℕ, false, Some}
use Rattle.std.specs.Prelude.{slice_get}
use Rattle.compiler_theorem.proofs.kinds.Classes.{sizes_same}
use Rattle.compiler_theorem.proofs.known.Runs.{run}
use Rattle.compiler_theorem.proofs.theorem.Asked.{asked_kept}
use Rattle.compiler_theorem.proofs.theorem.Renewing.{all_kept, slots_kept}
use Rattle.compiler_theorem.proofs.theorem.Stepping.{places, slots, switches}
use Rattle.compiler_theorem.specs.theorem.Anew.{Anew, IsAnewOf}
use Rattle.compiler_theorem.specs.theorem.Asked.{asking}
use Rattle.compiler_theorem.specs.theorem.Between.{renewing}
use Rattle.compiler_theorem.specs.theorem.Entries.{IsEntryCall, Run}
use Rattle.compiler_theorem.specs.theorem.Lowered.{HasFewBytes, IsLowered, Lowered, early}
use Rattle.pass_frames_meaning.proofs.framed.AllocaHooks.{runs_hold_frames}
use Rattle.pass_frames_meaning.proofs.framed.There.{frame_same}
use Rattle.pass_frames_meaning.specs.pass_frames_proof.Slotted.{HasFrameThere}
use Rattle.compiler.specs.run_source.declared.state.Instance.{Instance}

module _ (l : Lowered) (low : IsLowered l) (few : HasFewBytes l) (a : Anew) (anew : IsAnewOf (early l) a) (r : Run)
    (entered : IsEntryCall l.source r) (n : ℕ) where
  pub frames_there : (i : ℕ) (x : Instance) → slice_get (run l low few a anew r entered n).instances i ≡ Some x
      → x.freed ≡ false → HasFrameThere (asking l low a r).b (run l low few a anew r entered n) x
  frames_there i x there unfreed =
      frame_same (asking l low a r) (run l low few a anew r entered n) (slots l low few a anew r entered n)
      (runs_hold_frames (renewing l a r) r.entry r.args (switches l low few a anew r entered)
      (places l low few a anew r entered) (all_kept l low a anew r entered few).types
      (slots_kept l low a anew r entered few) (asked_kept l low few a anew r).steps n)
      i x there (sizes_same l.layouts.coroutines x.coroutine) unfreed
