-- Before begin slots in the frame hold nothing that no access uses there, in states of an accepted source's run
-- that are
-- related.
use Rattle.std.proofs.Common.{◌≡◌, true, Some, None, subst}
use Rattle.std.specs.List.{Contains}
use Rattle.std.specs.Prelude.{slice_get}
use Rattle.compiler_theorem.proofs.known.Runs.{known}
use Rattle.compiler_theorem.proofs.known.Sources.{source_known}
use Rattle.compiler_theorem.proofs.known.Unused.{uses_early}
use Rattle.compiler_theorem.proofs.theorem.Asked.{asked_kept}
use Rattle.compiler_theorem.specs.known.Counts.{counts, own}
use Rattle.compiler_theorem.specs.theorem.Anew.{Anew, IsAnewOf}
use Rattle.compiler_theorem.specs.theorem.Asked.{asking}
use Rattle.compiler_theorem.specs.theorem.Between.{renewing, setting}
use Rattle.compiler_theorem.specs.theorem.Built.{building}
use Rattle.compiler_theorem.specs.theorem.Entries.{IsEntryCall, Run}
use Rattle.compiler_theorem.specs.theorem.Lowered.{HasFewBytes, IsLowered, Lowered, early, edged}
use Rattle.pass_frames_meaning.proofs.blank.States.{blank_after, blank_first}
use Rattle.pass_frames_meaning.specs.Blank.{HoldsNothing, IsBlankState, IsUnusedEarly}
use Rattle.pass_frames_meaning.specs.Covered.{IsKeptOver}
use Rattle.pass_frames_meaning.proofs.pass_frames_proof.lines.Cells.{contained}
use Rattle.pass_frames_meaning.specs.pass_frames_proof.Places.{offsets}
use Rattle.pass_frames_meaning.specs.pass_frames_proof.Related.{is_coroutine}
use Rattle.pass_frames_meaning.specs.pass_renewed_proof.Renewed.{renewed_step}
use Rattle.compiler.specs.pass_proofs.addresses.rules.Addresses.{lies_in_frame}
use Rattle.compiler.specs.run_framed.Framed.{framed_state_at}
use Rattle.compiler.specs.run_laws.transfer.Places.{IsBlank}
use Rattle.compiler.specs.run_memory.Memory.{is_live}
use Rattle.compiler.specs.run_memory.declared.block.MemoryBlock.{MemoryBlock}
use Rattle.compiler.specs.run_source.Source.{first_state}
use Rattle.compiler.specs.run_source.declared.state.State.{State}
use Rattle.compiler.specs.run_step.Runs.{iterate}
use Rattle.compiler.specs.run_step.declared.world.Slot.{Slot}

-- it is told at the start, and behind each step
pub blank_kept : (l : Lowered) (low : IsLowered l) (few : HasFewBytes l) (a : Anew) (anew : IsAnewOf (early l) a)
    (r : Run)
    (entered : IsEntryCall l.source r)
    → IsKeptOver (setting l a r) (building l low.is_framed r.answers) (IsBlankState (asking l low a r))
blank_kept l low few a anew r entered = record {
  first = blank_first (asking l low a r) (edged l) r.entry r.args;
  step = λ n m covered built runs blank.
      blank_after (asking l low a r) (counts l a r) (own l a r) (asked_kept l low few a anew r)
      (source_known l low few a anew r entered) (uses_early l low few a anew r entered)
      (iterate (renewed_step (renewing l a r)) n (first_state (edged l) r.entry r.args))
      (framed_state_at (building l low.is_framed r.answers).given r.entry r.args m) built
      (known l low few a anew r entered n) runs blank;
}

pub begun_blank : (l : Lowered) (low : IsLowered l) (a : Anew) (r : Run) (s : State)
    → IsBlankState (asking l low a r) s → is_coroutine (asking l low a r).b s.top.func ≡ true
    → s.top.instance ≡ None → (slot : Slot) → Contains s.top.slots slot
    → lies_in_frame (offsets ((asking l low a r).b.framing s.top.func)) slot.alloca ≡ true
    → IsUnusedEarly ((asking l low a r).b.framing s.top.func) slot.alloca → (z : MemoryBlock)
    → slice_get s.world.memory slot.block ≡ Some z → is_live z.life ≡ true → IsBlank z
begun_blank l low a r s h coroutine none slot own lies apart z e live =
    subst HoldsNothing e (h.stack.0 none slot (contained s.top.slots slot own) coroutine lies apart) live
