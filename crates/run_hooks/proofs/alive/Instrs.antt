-- Instructions that are done, markers among them, leave a state in which live slots may be alive.
use Rattle.std.proofs.Common.{◌≡◌, ℕ, Bool, true, false, List, Option, Some, None, refl, sym, ap, ◌∙◌, subst}
use Rattle.pass_renewed_proof.specs.ir_model.Names.{function_at}
use Rattle.pass_renewed_proof.specs.ir_model.declared.instr.Instr.{Instr}
use Rattle.pass_renewed_proof.specs.ir_model.declared.module.Function.{Function}
use Rattle.pass_renewed_proof.specs.ir_model.declared.module.Module.{Module}
use Rattle.pass_renewed_proof.specs.ir_model.declared.operand.Intrinsic.{Intrinsic}
use Rattle.pass_renewed_proof.specs.ir_model.declared.operand.Operand.{Operand}
use Rattle.pass_renewed_proof.specs.ir_paths.Windows.{call_operand, is_call_of}
use Rattle.pass_renewed_proof.specs.ir_paths.declared.point.Point.{Point}
use Rattle.pass_renewed_proof.proofs.Sets.{step_sets}
use Rattle.pass_renewed_proof.specs.SlotRules.{IsMadeOnce, IsMarkerAt}
use Rattle.pass_renewed_proof.specs.Steps.{SetsOnly, given_at}
use Rattle.run_hooks.proofs.alive.Lives.{AreFewer, StaysFewer, instr_fewer, same_fewer}
use Rattle.run_hooks.specs.Away.{point_in}
use Rattle.run_hooks.specs.alive.Alive.{Account, IsAliveState, IsStart, KeepsAliveRules, account_of}
use Rattle.run_hooks.specs.alive.Slots.{IsHeld, lives}
use Rattle.pass_renewed_proof.specs.run_memory.Memory.{end, ended, start, with_block}
use Rattle.pass_renewed_proof.specs.run_memory.declared.block.MemoryBlock.{MemoryBlock}
use Rattle.pass_renewed_proof.specs.run_source.State.{settled, work_of}
use Rattle.pass_renewed_proof.specs.run_source.declared.state.Mode.{Mode}
use Rattle.pass_renewed_proof.specs.run_source.declared.state.State.{State}
use Rattle.pass_renewed_proof.specs.run_step.Effects.{is_alloca}
use Rattle.pass_renewed_proof.specs.run_step.Step.{AtInstr, Context, Done, Work, block_of, fetch, instr_action, on_block, set_memory}
use Rattle.pass_renewed_proof.specs.run_step.Values.{value_in}
use Rattle.pass_renewed_proof.specs.run_step.declared.world.Slot.{Slot}
use Rattle.run_hooks.proofs.alive.Marks.{start_does, end_does, coro_end_does, done_is, ended_dead}
use Rattle.run_hooks.proofs.alive.Behind.{IsInOrder, not_made, goes_fewer, same_instr, IsShut}
use Rattle.run_hooks.proofs.alive.Starts.{started_goes}

module _ (m : Module) (counts : ℕ → ℕ → Bool) (s : State) (h : IsAliveState m counts s) (order : IsInOrder s)
    (ramp_slots : List ℕ) (rules : KeepsAliveRules (function_at m s.top.func) ramp_slots)
    (entering : (from label : ℕ) → s.top.mode ≡ Mode.Entering from label → ⊥)
    (i : Instr) (stands : fetch (function_at m s.top.func) s.top.block s.top.at ≡ AtInstr i) where
  abbrev f : Function
  f = function_at m s.top.func

  abbrev p : Point
  p = point_in s.top

  abbrev k : Account
  k = account_of h.tags s

  -- ---- all of them

  fewer_done : (c : Context) → is_alloca i ≡ false → (w : Work) → instr_action c (work_of s) i ≡ Done w
      → AreFewer s.world.memory w.world.memory → IsAliveState m counts (settled s w)
  fewer_done c never w d fewer =
      (goes_fewer m counts s h order ramp_slots rules entering i stands) w fewer
      (λ e. coro_end_does c (work_of s) i (subst (λ (j : Instr). is_call_of Intrinsic.CoroEnd j
      ≡ true)
      ((same_instr m counts s h order ramp_slots rules entering i stands) e.instr e.stands) e.is) w d) names ends_here
    where
      sets : SetsOnly (given_at (AtInstr i)) s.top.values (Done w)
      sets = subst (SetsOnly (given_at (AtInstr i)) s.top.values) d (step_sets c (work_of s) (AtInstr i))

      names : (v : ℕ) → IsMadeOnce f v → value_in w.values v ≡ value_in s.top.values v
      names v made = sets v (λ e. (not_made m counts s h order ramp_slots rules entering i stands) never v made
          (ap given_at stands ∙ e))

      ends_here : (slot : Slot) → lives w.world.memory slot.block ≡ true → counts s.top.func slot.alloca ≡ true
          → IsHeld f s.top.values p slot → IsMarkerAt f Intrinsic.LifetimeEnd slot.alloca p → ⊥
      ends_here slot now counted held mark =
          let same : mark.instr ≡ i = (same_instr m counts s h order ramp_slots rules entering i stands) mark.instr
          mark.stands in
          let does = end_does c (work_of s) i (subst (λ (j : Instr). is_call_of Intrinsic.LifetimeEnd j ≡ true) same
          mark.is) slot.alloca (subst (λ (j : Instr). call_operand j 1 ≡ Operand.Local slot.alloca) same mark.takes) in
          let at : w ≡ set_memory (work_of s)
          (on_block end s.world.memory (block_of (value_in s.top.values slot.alloca))) = done_is w _ (sym d ∙ does) in
          let memory : w.world.memory ≡ with_block s.world.memory slot.block ended =
          ap (λ (z : Work). z.world.memory) at ∙ ap (on_block end s.world.memory) held.known in
          ended_dead s.world.memory slot.block
          (subst (λ (k : List MemoryBlock). lives k slot.block ≡ true) memory now)

  pub done_goes : (IsShut m counts s h order ramp_slots rules entering i stands) → (c : Context) → is_alloca i ≡ false
      → (w : Work) → instr_action c (work_of s) i ≡ Done w
      → IsAliveState m counts (settled s w)
  done_goes shut c never w d = on (is_call_of Intrinsic.LifetimeStart i) refl
    where
      by : (v : ℕ) → IsMadeOnce f v → call_operand i 1 ≡ Operand.Local v → is_call_of Intrinsic.LifetimeStart i ≡ true
          → (o : Option ℕ) → block_of (value_in s.top.values v) ≡ o
          → w ≡ set_memory (work_of s) (on_block start s.world.memory o) → IsAliveState m counts (settled s w)
      by v made takes is None known at = fewer_done c never w d
          (subst (AreFewer s.world.memory) (sym (ap (λ (z : Work). z.world.memory) at)) (same_fewer s.world.memory))
      by v made takes is (Some b) known at =
          subst (λ (z : Work). IsAliveState m counts (settled s z)) (sym at)
          ((started_goes m counts s h order ramp_slots rules entering i stands) shut v b made known is takes)

      on : (t : Bool) → is_call_of Intrinsic.LifetimeStart i ≡ t → IsAliveState m counts (settled s w)
      on false e = fewer_done c never w d (subst (StaysFewer s.world.memory) d (instr_fewer c (work_of s) i e))
      on true e =
          let mark = rules.marked Intrinsic.LifetimeStart IsStart p i stands e in
          by mark.alloca mark.made mark.takes e (block_of (value_in s.top.values mark.alloca)) refl
          (done_is w _ (sym d ∙ start_does c (work_of s) i e mark.alloca mark.takes))
