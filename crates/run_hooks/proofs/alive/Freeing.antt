-- So do a deallocation and a call.
use Rattle.std.proofs.Common.{◌≡◌, ℕ, Bool, true, false, List, length, Option, Some, None, Result, Ok, refl, sym, ap}
use Rattle.std.proofs.Common.{◌∙◌, subst, arith}
use Rattle.std.specs.List.{AllByRecursion}
use Rattle.std.specs.Prelude.{if◌then◌else◌, slice_get}
use Rattle.pass_renewed_proof.specs.ir_base.declared.cause.Cause.{Cause}
use Rattle.pass_renewed_proof.specs.ir_model.Names.{function_at}
use Rattle.pass_renewed_proof.specs.ir_model.declared.instr.Instr.{Instr}
use Rattle.pass_renewed_proof.specs.ir_model.declared.module.Function.{Function}
use Rattle.pass_renewed_proof.specs.ir_model.declared.module.Module.{Module}
use Rattle.pass_renewed_proof.specs.ir_model.declared.operand.Intrinsic.{Intrinsic}
use Rattle.pass_renewed_proof.specs.ir_paths.Windows.{is_call_of}
use Rattle.pass_renewed_proof.specs.ir_paths.declared.point.Point.{Point}
use Rattle.run_hooks.proofs.Reached.{at_is}
use Rattle.run_hooks.proofs.alive.Acts.{enters_by, gives_alive, then_alive}
use Rattle.run_hooks.proofs.alive.Changes.{called_in, pushed}
use Rattle.run_hooks.proofs.alive.Behind.{IsInOrder}
use Rattle.run_hooks.proofs.alive.Lives.{changed_fewer, deallocated_fewer, then_fewer, without_fewer, AreFewer}
use Rattle.run_hooks.proofs.alive.Parts.{Here, IsSet, Other, get_set, all_both}
use Rattle.run_hooks.proofs.alive.Places.{with_fewer}
use Rattle.run_hooks.proofs.alive.Statuses.{freed_alive, without_gone}
use Rattle.run_hooks.specs.Away.{point_in}
use Rattle.run_hooks.specs.alive.Alive.{IsAliveState, KeepsAliveRules, StaysAlive}
use Rattle.run_hooks.specs.alive.Slots.{IsSlotOf, Own, is_gone}
use Rattle.pass_renewed_proof.specs.run_memory.Memory.{disown, disowned, own}
use Rattle.pass_renewed_proof.specs.run_memory.declared.block.MemoryBlock.{MemoryBlock}
use Rattle.pass_renewed_proof.specs.run_memory.declared.pointer.Value.{Value}
use Rattle.pass_renewed_proof.specs.run_source.Source.{called, if_let_go, let_go, may_be_freed, mode_of, deallocate, enter}
use Rattle.pass_renewed_proof.specs.run_source.State.{function_of, instance_at, is_suspended, next, own_facts, with_instance, with_memory}
use Rattle.pass_renewed_proof.specs.run_source.State.{work_of}
use Rattle.pass_renewed_proof.specs.run_source.declared.state.Activation.{Activation}
use Rattle.pass_renewed_proof.specs.run_source.declared.state.Instance.{Instance}
use Rattle.pass_renewed_proof.specs.run_source.declared.state.State.{State}
use Rattle.pass_renewed_proof.specs.run_source_tables.Given.{Given}
use Rattle.pass_renewed_proof.specs.run_step.Effects.{is_alloca}
use Rattle.pass_renewed_proof.specs.run_step.Results.{and_then}
use Rattle.pass_renewed_proof.specs.run_step.Step.{AtInstr, Context, Enter, Fetched, deallocated, fetch, instr_action, without_slots}
use Rattle.pass_renewed_proof.specs.run_step.Values.{Env}
use Rattle.run_hooks.proofs.alive.Like.{like, set_like, unmade}
use Rattle.run_hooks.proofs.alive.Now.{IsNow, own_rules, ordered, stays_here, apart_of, next_here}

module _ {g : Given} {counts : ℕ → ℕ → Bool} {hand : ℕ → Point → Env → Env} {s : State}
    (start : IsNow g counts hand s) where
  abbrev m : Module
  m = g.code

  abbrev f : Function
  f = function_of g s

  abbrev p : Point
  p = point_in s.top

  abbrev here : Fetched
  here = fetch f s.top.block s.top.at

  abbrev ramp : List ℕ
  ramp = (own_facts g s).ramp_slots

  abbrev h : IsAliveState g.code counts s
  h = start.alive

  abbrev Fine : Result State Cause → Type 0
  Fine r = StaysAlive g.code counts r

  module _ (i : Instr) (stands : here ≡ AtInstr i) where
    -- ---- a deallocation, a call and a new slot

    pub deallocate_fine : is_call_of Intrinsic.CoroEnd i ≡ false → is_call_of Intrinsic.LifetimeEnd i ≡ false
        → (v : Value)
        → Fine (deallocate s v)
    deallocate_fine no_end no_mark v = on (instance_at s.instances v) (λ j x e. at_is s.instances v j x e)
      where
        by : (t : State) → IsAliveState m counts t → IsInOrder t → t.top ≡ s.top
            → Fine (and_then (deallocated t.world.memory v) (λ memory. Ok (next (with_memory t memory))))
        by t alive o same = then_alive m counts (deallocated t.world.memory v)
            (λ memory. Ok (next (with_memory t memory))) (λ memory e.
            gives_alive m counts (with_memory t memory)
            (with_fewer m counts t alive memory (deallocated_fewer t.world.memory memory v e))
            (like t o (with_memory t memory) refl refl refl (λ j z ez. (z, ez, refl)) o.awake) ramp
            (subst (λ (a : Activation). KeepsAliveRules (function_at m a.func) ramp) (sym same) (own_rules start))
            (λ from label w. (stays_here start) from label (ap (λ (a : Activation). a.mode) (sym same) ∙ w)) i
            (ap (λ (a : Activation). fetch (function_at m a.func) a.block a.at) same ∙ stands) no_end no_mark None
            Value.Poison (λ u made z. unmade None u z))

        freed : (q : ℕ × Instance) → slice_get s.instances q.0 ≡ Some q.1 → (b : Bool)
            → Fine (and_then (deallocated (if b then let_go s q.0 q.1 else s).world.memory v)
            (λ memory. Ok (next (with_memory (if b then let_go s q.0 q.1 else s) memory))))
        freed q there false = by s h (ordered start) refl
        freed q there true =
            by (with_instance one q.0 y) (freed_alive m counts one dead ordered_one q.0 q.1 there gone)
            (like s (ordered start) (with_instance one q.0 y) refl refl refl (set_like s.instances q.0 q.1 y there refl)
            (λ j z ej ez left. awake j z ej left (get_set s.instances q.0 y j z ez))) refl
          where
            memory : List MemoryBlock
            memory = disown (without_slots s.world.memory q.1.slots) q.1.block

            one : State
            one = with_memory s (disown (without_slots s.world.memory q.1.slots) q.1.block)

            y : Instance
            y = record q.1 { freed = true }

            disowns : AreFewer (without_slots s.world.memory q.1.slots)
                (disown (without_slots s.world.memory q.1.slots) q.1.block)
            disowns = changed_fewer (without_slots s.world.memory q.1.slots) q.1.block disowned
                (λ x. record { live = λ e. e; gone = λ e. e })

            dead : IsAliveState m counts (with_memory s (disown (without_slots s.world.memory q.1.slots) q.1.block))
            dead = with_fewer m counts s h (disown (without_slots s.world.memory q.1.slots) q.1.block)
                (then_fewer (without_fewer s.world.memory q.1.slots) disowns)

            ordered_one : IsInOrder (with_memory s (disown (without_slots s.world.memory q.1.slots) q.1.block))
            ordered_one = like s (ordered start) (with_memory s (disown (without_slots s.world.memory q.1.slots)
                q.1.block))
                refl
                refl refl (λ j z ez. (z, ez, refl)) (ordered start).awake

            gone : AllByRecursion (λ slot. is_gone (disown (without_slots s.world.memory q.1.slots) q.1.block)
                slot.block
                ≡ true) q.1.slots
            gone = all_both (IsSlotOf h.tags (length s.world.memory) (Own q.0) (function_at m q.1.coroutine))
                (λ slot. is_gone (without_slots s.world.memory q.1.slots) slot.block ≡ true)
                (λ slot. is_gone (disown (without_slots s.world.memory q.1.slots) q.1.block) slot.block ≡ true)
                q.1.slots (λ slot own was. disowns.gone slot.block
                (let a = own.tagged.there in let b = (without_fewer s.world.memory q.1.slots).longer
                in omega (arith, a, b)) was)
                (h.instances q.0 q.1 there).owned (without_gone s.world.memory q.1.slots)

            awake : (j : ℕ) (z : Instance) → s.top.instance ≡ Some j → s.top.has_left ≡ false
                → IsSet s.instances q.0 (record q.1 { freed = true }) j z → is_suspended z.status ≡ false
            awake j z ej left (Here e w) = ap (λ (x : Instance). is_suspended x.status) w
                ∙ (ordered start).awake j q.1 ej (ap (slice_get s.instances) e ∙ there) left
            awake j z ej left (Other ne w) = (ordered start).awake j z ej w left

        on : (o : Option (ℕ × Instance)) → ((j : ℕ) (x : Instance) → o ≡ Some (j, x) → slice_get s.instances j ≡ Some x)
            → Fine (and_then (deallocated (if_let_go s o).world.memory v)
            (λ memory. Ok (next (with_memory (if_let_go s o) memory))))
        on None is = by s h (ordered start) refl
        on (Some q) is = freed q (is q.0 q.1 refl) (may_be_freed q.1)

    pub enter_fine : is_call_of Intrinsic.CoroEnd i ≡ false → is_call_of Intrinsic.LifetimeEnd i ≡ false
        → is_alloca i ≡ false → (c : Context) (func : ℕ) (args : List Value) (result : Option ℕ) (must_tail : Bool)
        → instr_action c (work_of s) i ≡ Enter func args result must_tail
        → IsAliveState m counts (enter g s func args result)
    enter_fine no_end no_mark never c func args result must_tail e =
        pushed m counts (next s) waits (called m func args result (mode_of (function_at m func)))
        (called_in m counts _ _ func args result (mode_of (function_at m func)))
        (λ u ru made. (apart_of start i stands) never result (enters_by c (work_of s) i func args result must_tail e) u
        made ru)
      where
        waits : IsAliveState m counts (next s)
        waits = (next_here start i stands) no_end no_mark
