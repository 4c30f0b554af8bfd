-- In a related state a step leaves slots in the frame blank before begin, where no access uses them there.
use Rattle.std.proofs.Common.{◌≡◌, inl, inr, ℕ, Bool, true, ◌&&◌, List, [], ◌∷◌, length}
use Rattle.std.proofs.Common.{sym, ap, ◌∙◌, subst}
use Rattle.pass_frames_proof.specs.ir_base.declared.outcome.Outcome.{Outcome}
use Rattle.pass_frames_proof.specs.ir_base.declared.outcome.Word.{Word}
use Rattle.pass_frames_proof.specs.ir_model.declared.instr.Instr.{Instr}
use Rattle.pass_frames_proof.specs.ir_model.declared.module.Module.{Module}
use Rattle.pass_frames_proof.specs.ir_model.declared.operand.Callee.{Callee}
use Rattle.pass_frames_proof.specs.ir_model.declared.operand.Intrinsic.{Intrinsic}
use Rattle.pass_frames_proof.specs.ir_paths.declared.point.Point.{Point}
use Rattle.pass_frames_proof.specs.pass_copies.Uses.{is_access}
use Rattle.pass_frames_meaning.proofs.blank.Away.{in_list, operand_away}
use Rattle.pass_frames_meaning.proofs.blank.Early.{step_early}
use Rattle.pass_frames_meaning.proofs.blank.Memory.{GivesBlank, step_blank}
use Rattle.pass_frames_meaning.proofs.blank.Renewed.{renewed_keeps_blank, renewed_keeps_early}
use Rattle.pass_frames_meaning.proofs.blank.Steps.{step_stays}
use Rattle.pass_frames_meaning.specs.Blank.{AreEarly, AreEarlyOn, AreUsesEarly, IsAwayFrom, IsBlankAt, IsBlankSlot}
use Rattle.pass_frames_meaning.specs.Blank.{IsBlankState}
use Rattle.pass_frames_meaning.specs.Blank.{IsEarlywise, IsUnusedEarly}
use Rattle.pass_frames_meaning.specs.Known.{IsKnown, KeepsKnown}
use Rattle.pass_frames_meaning.specs.Setting.{KeepsAll, Setting}
use Rattle.pass_frames_proof.specs.Places.{offsets}
use Rattle.pass_frames_proof.specs.Related.{AreActivations, AreBelow, AreBuiltOf, IsOwnSlot, IsSlotBy, IsUnplacedSlot}
use Rattle.pass_frames_proof.specs.Related.{below_place, is_coroutine, top_place}
use Rattle.pass_frames_proof.specs.pass_proofs.addresses.rules.Addresses.{lies_in_frame}
use Rattle.pass_frames_proof.specs.pass_renewed_proof.Renewed.{renewed_step}
use Rattle.pass_renewed_meaning.proofs.run_hooks.Steps.{renewed_steps}
use Rattle.pass_renewed_meaning.specs.run_hooks.Hooks.{hooked_context, step_of}
use Rattle.pass_renewed_meaning.specs.run_hooks.Meanings.{renewed_hooks}
use Rattle.pass_frames_proof.proofs.run_laws.embedded.Refills.{step_only}
use Rattle.pass_frames_proof.specs.run_laws.embedded.Refilled.{OnlyRefills}
use Rattle.pass_frames_proof.specs.run_laws.embedded.Related.{HasNoSlot}
use Rattle.pass_frames_proof.specs.run_laws.memory.Pointers.{Home}
use Rattle.pass_frames_proof.specs.run_memory.declared.block.MemoryBlock.{MemoryBlock}
use Rattle.pass_frames_proof.specs.run_source.Source.{first_state}
use Rattle.pass_frames_proof.specs.run_source.State.{function_of, work_of}
use Rattle.pass_frames_proof.specs.run_source.declared.state.Activation.{Activation}
use Rattle.pass_frames_proof.specs.run_source.declared.state.State.{State}
use Rattle.pass_frames_proof.specs.run_step.Step.{AtInstr, Fetched, NewSlot, Work, action_of, fetch}
use Rattle.pass_frames_proof.specs.run_step.declared.world.Slot.{Slot}

no_slot : (i : Instr) → is_access i ≡ true → HasNoSlot (AtInstr i)
no_slot (Instr.Load name ty p align) e = tt
no_slot (Instr.Store arg p align) e = tt
no_slot (Instr.Call result must_tail ty (Callee.Intrinsic Intrinsic.MemcpyI64) args) e = tt
no_slot (Instr.Call result must_tail ty (Callee.Intrinsic Intrinsic.MemcpyI32) args) e = tt
no_slot _ e = absurd (cc)

-- the block behind all others isn't there
none_behind : (m : List MemoryBlock) → IsBlankAt m (length m)
none_behind [] = tt
none_behind (x ∷ m) = none_behind m

-- what is hidden holds nothing, so it is of each slot
abbrev IsStill : Setting → (ℕ → Bool) → (ℕ → Type 0) → ℕ → Slot → Type 0
IsStill c hides B func slot =
    is_coroutine c.b func ≡ true → lies_in_frame (offsets (c.b.framing func)) slot.alloca ≡ true
    → IsUnusedEarly (c.b.framing func) slot.alloca → B slot.block

module _ (c : Setting) (homes : List Home) (hides : ℕ → Bool) (t : State) (B : ℕ → Type 0) (memory : List MemoryBlock)
    (keeps : (n : ℕ) → hides n ≡ true → IsBlankAt memory n → B n) where
  slot_still : (a d : Activation) (slot : Slot) → IsOwnSlot c.b homes hides a d slot → IsBlankSlot c memory a.func slot
      → IsStill c hides B a.func slot
  slot_still a d slot own h coroutine lies unused =
      by (subst (IsSlotBy c.b homes hides a d slot) (λ j. coroutine j && lies j) own)
    where
      by : IsUnplacedSlot (c.b.framing a.func) homes hides d slot → B slot.block
      by (inl z) = keeps slot.block z.0 (h coroutine lies unused)
      by (inr z) = absurd (unused z.0 z.2 z.3)

  one_still : (at : Activation → Point) (a d : Activation) → AreActivations c.b homes hides t at a d
      → AreEarly (IsBlankSlot c memory) a → AreEarly (IsStill c hides B) a
  one_still at a d r h none slot l = slot_still a d slot (r.slots slot (in_list a.slots slot l)) (h none slot l)

  below_still : (as' ds : List Activation) → AreBelow c.b homes hides t as' ds → AreEarlyOn (IsBlankSlot c memory) as'
      → AreEarlyOn (IsStill c hides B) as'
  below_still [] [] r h = tt
  below_still [] (d ∷ ds) r h = absurd r
  below_still (a ∷ as') [] r h = absurd r
  below_still (a ∷ as') (d ∷ ds) r h = (one_still (below_place c.b) a d r.0 h.0, below_still as' ds r.1 h.1)

module _ (c : Setting) (counts own : ℕ → ℕ → Bool) (all : KeepsAll c) (k : KeepsKnown c counts)
    (uses : AreUsesEarly c) (s t : State) (r : AreBuiltOf c.b s t) (known : IsKnown c counts own s)
    (runs : s.outcome ≡ Outcome.Running) (blank : IsBlankState c s) where
  abbrev here : Fetched
  here = fetch (function_of c.g.given s) s.top.block s.top.at

  abbrev after : State
  after = step_of (renewed_hooks c.g) s

  away : (n : ℕ) → r.hides n ≡ true → IsAwayFrom n (hooked_context (renewed_hooks c.g) s) (work_of s)
      (fetch (function_of c.g.given s) s.top.block s.top.at)
  away n hidden i there access o listed ty =
      operand_away c counts own all k uses s t r known runs n hidden i there access o listed ty

  keeps : (n : ℕ) → r.hides n ≡ true → IsBlankAt s.world.memory n
      → IsBlankAt (step_of (renewed_hooks c.g) s).world.memory n
  keeps n hidden h = step_stays (renewed_hooks c.g) (renewed_keeps_blank c.g) n s h (away n hidden)

  abbrev B : ℕ → Type 0
  B n = IsBlankAt (step_of (renewed_hooks c.g) s).world.memory n

  old : IsEarlywise (IsStill c r.hides B) s
  old = record {
    stack = (
      one_still c r.homes r.hides t B s.world.memory keeps (top_place c.b) s.top t.top r.top blank.stack.0,
      below_still c r.homes r.hides t B s.world.memory keeps s.below t.below r.below blank.stack.1,
    );
  }

  -- a new slot has the block behind all others
  new : (w : Work) (slot : Slot) → action_of (hooked_context (renewed_hooks c.g) s) (work_of s)
      (fetch (function_of c.g.given s) s.top.block s.top.at) ≡ NewSlot w slot → IsStill c r.hides B s.top.func slot
  new w slot is coroutine lies unused =
      subst B (sym g.1) (step_stays (renewed_hooks c.g) (renewed_keeps_blank c.g) (length s.world.memory) s
      (none_behind s.world.memory) never)
    where
      never : IsAwayFrom (length s.world.memory) (hooked_context (renewed_hooks c.g) s) (work_of s)
          (fetch (function_of c.g.given s) s.top.block s.top.at)
      never i there access o listed ty e =
          absurd (subst (OnlyRefills s.world.memory)
          (ap (action_of (hooked_context (renewed_hooks c.g) s) (work_of s)) (sym there) ∙ is)
          (step_only (hooked_context (renewed_hooks c.g) s) (work_of s) (AtInstr i) (no_slot i access)))

      g : GivesBlank (length s.world.memory) s.world.memory here (NewSlot w slot)
      g = subst (GivesBlank (length s.world.memory) s.world.memory here) is
          (step_blank (length s.world.memory) (hooked_context (renewed_hooks c.g) s) (work_of s)
          (none_behind s.world.memory) here never)

  pub blank_after : IsBlankState c (renewed_step c.g s)
  blank_after =
      subst (IsBlankState c) (sym (renewed_steps c.g s))
      (step_early (renewed_hooks c.g) (renewed_keeps_early c.g) (IsStill c r.hides B) s old new)

pub blank_first : (c : Setting) (m : Module) (entry : ℕ) (args : List Word) → IsBlankState c (first_state m entry args)
blank_first c m entry args = record { stack = (λ none slot l. absurd l, tt) }
