-- In each state of the framed run of an accepted source blocks are to slots what allocas say.
use Rattle.std.proofs.Common.{◌≡◌, ℕ, zero, suc, List, [], ◌∷◌, map, refl, sym, subst}
use Rattle.compiler_theorem.proofs.kinds.FramedSlots.{framed_switches}
use Rattle.compiler_theorem.proofs.temporaries.Framed.{apart}
use Rattle.compiler_theorem.proofs.temporaries.Hooks.{framed_keeps_slotwise, framed_keeps_uses}
use Rattle.compiler_theorem.proofs.temporaries.Named.{framed_keeps_named}
use Rattle.compiler_theorem.proofs.temporaries.Parts.{entry_named}
use Rattle.compiler_theorem.proofs.temporaries.Steps.{AreEndsOfAllocas, step_uses}
use Rattle.compiler_theorem.proofs.theorem.Stepping.{gives_no_frames}
use Rattle.compiler_theorem.proofs.woken.FramedRuns.{framed_rules}
use Rattle.compiler_theorem.proofs.woken.States.{none_given}
use Rattle.compiler_theorem.specs.temporaries.Uses.{HasUses, IsUsedAt, IsUsedSlot, KeepsNamed, KeepsUses, Other, Use}
use Rattle.compiler_theorem.specs.theorem.Anew.{Anew, IsAnewOf}
use Rattle.compiler_theorem.specs.theorem.Built.{building}
use Rattle.compiler_theorem.specs.theorem.Entries.{IsEntryCall, Run}
use Rattle.compiler_theorem.specs.theorem.Lowered.{IsLowered, Lowered, early}
use Rattle.compiler.specs.ir_base.declared.outcome.Word.{Word}
use Rattle.compiler.specs.ir_model.Names.{function_at}
use Rattle.compiler.specs.ir_model.declared.module.GlobalItem.{GlobalItem}
use Rattle.compiler.specs.ir_model.declared.module.Module.{Module}
use Rattle.compiler.specs.ir_model.declared.operand.Intrinsic.{Intrinsic}
use Rattle.pass_frames_meaning.specs.Owned.{AreGivenApart}
use Rattle.pass_frames_meaning.specs.Sized.{KeepsSlotwise}
use Rattle.pass_split_proof.proofs.ready.Rules.{function_of_instr}
use Rattle.run_accepted.proofs.Marks.{marks_alloca}
use Rattle.compiler.specs.run_framed.Framed.{FramedGiven, framed_state_at, framed_step}
use Rattle.pass_frames_meaning.proofs.run_hooks.Keeping.{framed_keeps}
use Rattle.pass_frames_meaning.proofs.run_hooks.Reaching.{states_reached}
use Rattle.pass_frames_meaning.proofs.run_hooks.Steps.{framed_steps, same_runs}
use Rattle.pass_frames_meaning.specs.run_hooks.Hooks.{Hooks, hooked_state_at, step_of}
use Rattle.pass_frames_meaning.specs.run_hooks.Meanings.{framed_hooks}
use Rattle.pass_frames_meaning.specs.run_hooks.Reached.{IsReachedState}
use Rattle.pass_frames_meaning.specs.run_hooks.alive.Alive.{IsEnd}
use Rattle.compiler.proofs.run_memory.Digits.{length-encode}
use Rattle.compiler.specs.run_memory.Memory.{access_bytes}
use Rattle.compiler.specs.run_memory.declared.pointer.Value.{Value}
use Rattle.compiler.specs.run_source.Source.{first_state}
use Rattle.compiler.specs.run_source.declared.state.State.{State}
use Rattle.compiler.specs.run_step.Runs.{iterate}
use Rattle.compiler.specs.run_step.Step.{global_block}
use Rattle.compiler.specs.run_step.Values.{access_of}

-- ---- runs by hooks

first_used : (m : Module) (gs : List GlobalItem) (n : ℕ) → IsUsedAt Other (map (global_block m) gs) n
first_used m [] n = tt
first_used m (x ∷ gs) zero = (record { full = λ live. length-encode (access_bytes (access_of x.ty)) _ }, tt)
first_used m (x ∷ gs) (suc n) = first_used m gs n

first_uses : (m : Module) (entry : ℕ) (args : List Word) → HasUses m (first_state m entry args)
first_uses m entry args = record {
  uses = λ n. Other;
  are = record {
    memory = first_used m m.globals;
    names = (entry_named m (λ n. Other) (first_state m entry args).top (map Value.Int args) refl, tt);
    slots = record { stack = (tt, tt); instances = tt };
  };
}

module _ (h : Hooks) (blocks : KeepsUses h) (named : KeepsNamed h)
    (slots : (uses : ℕ → Use) → KeepsSlotwise (IsUsedSlot h.given.code uses) h) (ends : AreEndsOfAllocas h.given.code)
    (entry : ℕ) (args : List Word)
    (reached : (n : ℕ) → IsReachedState h.given (hooked_state_at h entry args n))
    (given : (n : ℕ) → AreGivenApart h.given.code (hooked_state_at h entry args n).top.result
    (hooked_state_at h entry args n).below) where
  one_more : (n : ℕ) (s : State) → iterate (step_of h) (suc n) s ≡ step_of h (iterate (step_of h) n s)
  one_more zero s = refl
  one_more (suc n) s = one_more n (step_of h s)

  states_used : (n : ℕ) → HasUses h.given.code (hooked_state_at h entry args n)
  states_used zero = first_uses h.given.code entry args
  states_used (suc n) =
      subst (HasUses h.given.code) (sym (one_more n (first_state h.given.code entry args)))
      (step_uses h blocks named slots ends (hooked_state_at h entry args n) (reached n) (given n) (states_used n))

-- ---- the framed run

module _ (l : Lowered) (low : IsLowered l) (a : Anew) (anew : IsAnewOf (early l) a) (r : Run)
    (entered : IsEntryCall l.source r) where
  abbrev h : FramedGiven
  h = (building l low.is_framed r.answers).given

  same : (n : ℕ) → framed_state_at h r.entry r.args n ≡ hooked_state_at (framed_hooks h) r.entry r.args n
  same n = same_runs (framed_step h) (step_of (framed_hooks h)) (framed_steps h) n
      (first_state l.framed r.entry r.args)

  ends : AreEndsOfAllocas l.framed
  ends func p i there e =
      marks_alloca l.framed func (function_at l.framed func)
      (framed_rules l low func (function_of_instr l.framed func p.block p.at i there)) Intrinsic.LifetimeEnd IsEnd p i
      there e

  pub framed_uses : (n : ℕ)
      → HasUses l.framed (framed_state_at (building l low.is_framed r.answers).given r.entry r.args n)
  framed_uses n =
      subst (HasUses l.framed) (sym (same n))
      (states_used (framed_hooks h) (framed_keeps_uses h (none_given h (gives_no_frames l low)))
      (framed_keeps_named h (none_given h (gives_no_frames l low)))
      (λ uses. framed_keeps_slotwise (IsUsedSlot l.framed uses) h) ends r.entry r.args
      (λ k. states_reached (framed_hooks h) (framed_switches l low) (framed_keeps h) r.entry r.args k)
      (λ k. subst (λ (s : State). AreGivenApart l.framed s.top.result s.below) (same k)
      (apart l low a anew r entered k)) n)
