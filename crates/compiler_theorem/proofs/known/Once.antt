-- An alloca makes one slot of an instance, in each state of the run of an accepted source.
use Rattle.std.proofs.Common.{◌≡◌, ◌≢◌, ℕ, None, Some, ap, subst, sym}
use Rattle.std.specs.List.{Contains}
use Rattle.std.specs.Prelude.{slice_get}
use Rattle.compiler_theorem.proofs.known.Runs.{run}
use Rattle.compiler_theorem.proofs.theorem.Renewing.{slots_kept}
use Rattle.compiler_theorem.proofs.theorem.Stepping.{places, same, switches}
use Rattle.compiler_theorem.specs.theorem.Anew.{Anew, IsAnewOf}
use Rattle.compiler_theorem.specs.theorem.Between.{renewing}
use Rattle.compiler_theorem.specs.theorem.Entries.{IsEntryCall, Run}
use Rattle.compiler_theorem.specs.theorem.Lowered.{HasFewBytes, IsLowered, Lowered, early, edged, sizes_of}
use Rattle.compiler_theorem.specs.theorem.Started.{HasSlotsOnce}
use Rattle.compiler.specs.ir_model.Names.{function_at}
use Rattle.compiler.specs.ir_model.Ty.{Ty}
use Rattle.compiler.specs.ir_model.declared.instr.Instr.{Instr}
use Rattle.pass_frames_meaning.proofs.once.Lists.{fresh_there, same_block}
use Rattle.pass_frames_meaning.proofs.once.Renewed.{renewed_keeps_once}
use Rattle.pass_frames_meaning.proofs.once.Steps.{states_once}
use Rattle.pass_frames_meaning.specs.Anew.{AreEntriesFree}
use Rattle.pass_frames_meaning.specs.Once.{AreAllocasOnce, AreMadeOnce, AreOnce, IsOnceBy, IsOnceState}
use Rattle.pass_frames_meaning.specs.pass_frames_proof.Stepping.{IsNotEntering}
use Rattle.pass_frames_meaning.specs.pass_renewed_proof.SlotRules.{IsMadeOnce}
use Rattle.pass_frames_meaning.specs.pass_renewed_proof.Steps.{given_at}
use Rattle.pass_frames_meaning.proofs.run_hooks.Keeping.{renewed_keeps}
use Rattle.pass_frames_meaning.proofs.run_hooks.Reaching.{states_reached}
use Rattle.pass_frames_meaning.specs.run_hooks.Meanings.{renewed_hooks}
use Rattle.run_accepted.proofs.Accepted.{edged_alive}
use Rattle.compiler.specs.run_source.State.{function_of}
use Rattle.compiler.specs.run_source.declared.state.Instance.{Instance}
use Rattle.compiler.specs.run_source.declared.state.Mode.{Mode}
use Rattle.compiler.specs.run_source.declared.state.State.{State}
use Rattle.compiler.specs.run_step.Step.{AtInstr, fetch}
use Rattle.compiler.specs.run_step.declared.world.Slot.{Slot}

module _ (l : Lowered) (low : IsLowered l) (few : HasFewBytes l) (a : Anew) (anew : IsAnewOf (early l) a) (r : Run)
    (entered : IsEntryCall l.source r) where
  allocas_once : AreAllocasOnce (edged l)
  allocas_once func block at name ty align there =
      (edged_alive l.text l.source low.source.stands low.source.accepted (sizes_of l) r.answers func).made name ty align
      block at there

  entries_free : AreEntriesFree (edged l)
  entries_free func block at label leads =
      ((slots_kept l low a anew r entered few).each func).entry block at label leads

  once : (n : ℕ) → IsOnceState (edged l) (run l low few a anew r entered n)
  once n = subst (IsOnceState (edged l)) (sym (same l low few a anew r entered n))
      (states_once (renewed_hooks (renewing l a r)) (renewed_keeps_once (renewing l a r)) allocas_once entries_free
      (places l low few a anew r entered) r.entry r.args
      (λ k. states_reached (renewed_hooks (renewing l a r)) (switches l low few a anew r entered)
      (renewed_keeps (renewing l a r)) r.entry r.args k) n)

  module _ (n : ℕ) where
    abbrev s : State
    s = run l low few a anew r entered n

    -- where an alloca stands no slot of the instance is of it yet
    pub none_made : IsNotEntering (run l low few a anew r entered n).top.mode → (name : ℕ) (ty : Ty) (align : ℕ)
        → fetch (function_of (renewing l a r).given (run l low few a anew r entered n))
        (run l low few a anew r entered n).top.block (run l low few a anew r entered n).top.at
        ≡ AtInstr (Instr.Alloca name ty align) → (i : ℕ) (x : Instance)
        → (run l low few a anew r entered n).top.instance ≡ Some i
        → slice_get (run l low few a anew r entered n).instances i ≡ Some x → (other : Slot) → Contains x.slots other
        → other.alloca ≢ name
    none_made calm name ty align there i x own is other listed =
        fresh_there (function_at (edged l) s.top.func) s.top.block s.top.at name ty align there x.slots
        (by s.top.mode calm (once n).stack.0) made other listed
      where
        made : IsMadeOnce (function_at (edged l) s.top.func) name
        made = allocas_once s.top.func s.top.block s.top.at name ty align there

        by : (mode : Mode) → IsNotEntering mode
            → IsOnceBy (function_at (edged l) s.top.func) s.top.block s.top.at s.top.slots s.top.instance s.instances
            mode
            → AreMadeOnce (function_at (edged l) s.top.func) s.top.block s.top.at x.slots
        by Mode.Plain k h = h.instance i x own is
        by Mode.Ramp k h = h.instance i x own is
        by Mode.Resumed k h = absurd (h.0 (made.alone s.top.block s.top.at (ap given_at there)).0)
        by (Mode.Entering from label) k h = absurd k
        by (Mode.GivenRamp frame) k h = absurd h

    -- and of two slots of an instance that are of one alloca the block is one
    pub slots_once : (number : ℕ) (x : Instance)
        → slice_get (run l low few a anew r entered n).instances number ≡ Some x → HasSlotsOnce x
    slots_once number x is = record {
      once = λ one other c d same. same_block x.slots ((once n).instances number x is) one other c d same;
    }

    -- before begin, of two slots of the activation that are of one alloca the block is one
    pub own_once : (run l low few a anew r entered n).top.instance ≡ None → (one other : Slot)
        → Contains (run l low few a anew r entered n).top.slots one
        → Contains (run l low few a anew r entered n).top.slots other → one.alloca ≡ other.alloca
        → one.block ≡ other.block
    own_once none one other c d alike = same_block s.top.slots (by s.top.mode (once n).stack.0) one other c d alike
      where
        by : (mode : Mode)
            → IsOnceBy (function_at (edged l) s.top.func) s.top.block s.top.at s.top.slots s.top.instance s.instances
            mode
            → AreOnce s.top.slots
        by Mode.Plain h = h.own.once
        by Mode.Ramp h = h.own.once
        by Mode.Resumed h = absurd (h.1 none)
        by (Mode.Entering from label) h = absurd (h.1 none)
        by (Mode.GivenRamp frame) h = absurd h
