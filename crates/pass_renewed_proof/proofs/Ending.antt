-- Where a slot that may be made anew ends, the second run does nothing.
use Rattle.std.proofs.Common.{◌≡◌, ℕ, Bool, false, List, length, Option, Some, refl, sym, ap, ◌∙◌}
use Rattle.std.proofs.Common.{subst, ⊎_elim}
use Rattle.std.proofs.lemmas.Bool.{cases_eq}
use Rattle.std.specs.Prelude.{ℤ}
use Rattle.pass_kept_proof.specs.ir_model.Names.{function_at}
use Rattle.pass_kept_proof.specs.ir_model.Ty.{Ty}
use Rattle.pass_kept_proof.specs.ir_model.declared.instr.Instr.{Instr}
use Rattle.pass_kept_proof.specs.ir_model.declared.module.Function.{Function}
use Rattle.pass_kept_proof.specs.ir_model.declared.module.Module.{Module}
use Rattle.pass_kept_proof.specs.ir_model.declared.operand.Arg.{Arg}
use Rattle.pass_kept_proof.specs.ir_model.declared.operand.Callee.{Callee}
use Rattle.pass_kept_proof.specs.ir_model.declared.operand.Intrinsic.{Intrinsic}
use Rattle.pass_kept_proof.specs.ir_paths.Paths.{has_point}
use Rattle.frame_classes.specs.frame_slots.Uses.{ends_of}
use Rattle.pass_kept_proof.specs.run_memory.Memory.{end, ended, owner_rights}
use Rattle.pass_kept_proof.specs.run_memory.declared.block.MemoryBlock.{MemoryBlock}
use Rattle.pass_kept_proof.specs.run_memory.declared.pointer.Value.{Value}
use Rattle.pass_kept_proof.specs.run_source.State.{next, settled, work_of}
use Rattle.pass_kept_proof.specs.run_source.declared.state.Activation.{Activation}
use Rattle.pass_kept_proof.specs.run_source.declared.state.State.{State}
use Rattle.pass_kept_proof.specs.run_step.Step.{AtInstr, Done, Work, action_of, block_of, on_block, set_memory}
use Rattle.pass_kept_proof.specs.run_step.Values.{Env, pointer_to, value_in}
use Rattle.pass_kept_proof.specs.run_step.declared.world.World.{World}
use Rattle.pass_renewed_proof.proofs.Carried.{IsCarried, IsSlotKept, others_on, same_carried, same_kept}
use Rattle.pass_renewed_proof.proofs.History.{no_marker}
use Rattle.pass_renewed_proof.proofs.Marked.{dead_carried, dead_entered, dead_kept, dead_stand, dies}
use Rattle.pass_renewed_proof.proofs.Markers.{ended_dead, ends, marked_value, marks_alone}
use Rattle.pass_renewed_proof.proofs.Onward.{calm}
use Rattle.pass_renewed_proof.proofs.Ordinary.{own_address}
use Rattle.pass_renewed_proof.proofs.Passing.{edge_on, passed_beside, unstarted}
use Rattle.pass_renewed_proof.specs.Beside.{IsBeside, IsSlotBeside, place_in}
use Rattle.pass_renewed_proof.specs.Ledger.{AreEntered, Ledger, LivesIn}
use Rattle.pass_renewed_proof.specs.Making.{IsMarkingSlot}
use Rattle.pass_renewed_proof.specs.Places.{AreStanding}
use Rattle.pass_renewed_proof.specs.Muted.{muted}
use Rattle.pass_renewed_proof.specs.Renewed.{Flags, Roots}
use Rattle.pass_renewed_proof.specs.SlotRules.{KeepsSlots}
use Rattle.pass_renewed_proof.specs.Steps.{AreOver}

module _ (m : Module) (flags : Flags) (roots : Roots) (keeps : (func : ℕ)
    → KeepsSlots m (function_at m func) (flags func) (roots func)) (s t : State) (beside : IsBeside m flags roots s t)
    (slot : ℕ) (result : Option ℕ) (must_tail : Bool) (ty : Option Ty) (args : List Arg)
    (is : IsMarkingSlot m flags s.top Intrinsic.LifetimeEnd slot result must_tail ty args) where
  abbrev l : Ledger
  l = beside.ledger

  abbrev f : Function
  f = function_at m s.top.func

  abbrev i : Instr
  i = Instr.Call result must_tail ty (Callee.Intrinsic Intrinsic.LifetimeEnd) args

  pub root : roots s.top.func slot ≡ Some slot
  root = (keeps s.top.func).addresses slot slot is.flagged (own_address f slot)

  no_end_of : (al : ℕ) → (al ≡ slot → ⊥) → has_point (ends_of (function_at m s.top.func) al) (place_in s.top) ≡ false
  no_end_of al ne = no_marker f Intrinsic.LifetimeEnd al (place_in s.top) (λ x. ne (marks_alone f (place_in s.top)
      Intrinsic.LifetimeEnd Intrinsic.LifetimeEnd slot al result must_tail ty args is.here is.takes x))

  -- over a world in which the slot doesn't live
  module _ (w : World) (carried : IsCarried beside.ledger beside.ledger s.world.memory w.memory t.world.memory
      t.world.memory) (kept : (b : ℕ) → IsSlotKept beside.ledger beside.ledger s.world.memory w.memory b)
      (dead : (b : ℕ) → value_in s.top.values slot ≡ pointer_to b → LivesIn w.memory b → ⊥) (over : AreOver
      beside.ledger.homes beside.ledger.hides w t.world) (entered : AreEntered m beside.ledger w.memory t.world.memory)
    where
      pub ended_over : IsBeside m flags roots (settled s (record { world = w; values = s.top.values })) (next t)
      ended_over = subst (λ (vs : Env). IsBeside m flags roots (settled s (record {
        world = w;
        values = s.top.values;
      })) (settled t (record { world = t.world; values = vs }))) (ap (λ (z : Activation). z.values) (sym beside.top.is))
          (passed_beside m flags roots s t beside l w t.world carried (λ b seat seated. kept b) s.top.values
          beside.top.values
          (edge_on m flags roots l s.instances s.world.memory t.world.memory (length s.below) s.top t.top beside.top
          (calm f (place_in s.top) is.place) i is.here)
          (λ al b flagged at. unstarted f (place_in s.top) i is.here refl al)
          (λ al b flagged at live. ⊎_elim
          (λ same. absurd (dead b (ap (value_in s.top.values) (sym same) ∙ at) live))
          (no_end_of al)
          (cases_eq al slot))
          (calm f (place_in s.top) is.place) beside.top.envs (others_on l l s.world.memory w.memory t.world.memory
          t.world.memory carried f (flags s.top.func) (roots s.top.func) s.top.values beside.top.values s.top.values
          beside.top.values beside.top.envs (λ v other. (refl, refl)) beside.top.others) (λ al flagged. (refl, refl)) over entered)

  abbrev memory_behind : Value → List MemoryBlock
  memory_behind u = on_block end s.world.memory (block_of u)

  behind_poison : value_in s.top.values slot ≡ Value.Poison
      → IsBeside m flags roots (settled s (set_memory (work_of s) s.world.memory)) (next t)
  behind_poison poison = ended_over s.world (same_carried l s.world.memory t.world.memory) (same_kept l
      s.world.memory) (λ b at live. let c : Value.Poison ≡ pointer_to b = sym poison ∙ at in absurd (cc)) beside.world beside.entered

  behind_block : (b c : ℕ) → value_in s.top.values slot ≡ pointer_to b → value_in beside.top.values slot ≡ pointer_to c
      → IsBeside m flags roots (settled s (set_memory (work_of s) (end s.world.memory b))) (next t)
  behind_block b c at there =
      let old : IsSlotBeside m l s.instances s.world.memory t.world.memory (length s.below) s.top slot b
      c = beside.top.each slot b c is.flagged at there in
      let st : AreStanding l.homes (muted l.hides (end s.world.memory b)) t.world.memory = dead_stand m l
      s.world.memory t.world.memory b ended ends ended_dead beside.entered _ old.seat (record {
        memory = beside.world.memory;
        nulls = beside.world.nulls;
        bounds = beside.world.bounds;
      }) in
      ended_over (record s.world { memory = end s.world.memory b })
      (dead_carried m l s.world.memory t.world.memory b ended ends ended_dead beside.entered _ old.seat)
      (dead_kept m l s.world.memory t.world.memory b ended ends ended_dead beside.entered _ old.seat)
      (λ d is_d live. dies m l s.world.memory t.world.memory b ended ends ended_dead beside.entered _ old.seat (subst
      (LivesIn (end s.world.memory b)) (same_start d b (sym is_d ∙ at)) live))
      (record {
        memory = st.memory;
        nulls = st.nulls;
        bounds = st.bounds;
        events = beside.world.events;
        answers = beside.world.answers;
        allocs = beside.world.allocs;
      })
      (dead_entered m l s.world.memory t.world.memory b ended ends ended_dead beside.entered _ old.seat)
    where
      same_start : (d e : ℕ) → pointer_to d ≡ pointer_to e → d ≡ e
      same_start d e k = cc

  pub end_beside : (answers : List ℤ) (v : Work)
      → action_of (record {
        code = m;
        answers = answers;
        rights = owner_rights;
        function = function_at m s.top.func;
      }) (work_of s) (AtInstr (Instr.Call result must_tail ty (Callee.Intrinsic Intrinsic.LifetimeEnd) args)) ≡ Done v
      → IsBeside m flags roots (settled s v) (next t)
  end_beside answers v done = subst (λ z. IsBeside m flags roots (settled s z) (next t)) (same_done done)
      (⊎_elim
      (λ poison. subst (λ u. IsBeside m flags roots (settled s (set_memory (work_of s) (memory_behind u))) (next t))
      (sym (marked_value m s.top.values args 1 slot is.takes ∙ poison)) (behind_poison poison))
      (λ ad. subst (λ u. IsBeside m flags roots (settled s (set_memory (work_of s) (memory_behind u))) (next t)) (sym
      (marked_value m s.top.values args 1 slot is.takes ∙ ad.root_is)) (behind_block ad.block ad.target ad.root_is
      ad.other_is))
      (beside.top.envs.rooted slot slot root))
    where
      same_done : {a b : Work} → Done a ≡ Done b → a ≡ b
      same_done q = cc
