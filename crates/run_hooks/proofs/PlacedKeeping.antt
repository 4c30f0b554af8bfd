-- The hooks of the four meanings come from placed states to placed states.
use Rattle.std.proofs.Common.{◌≡◌, inl, ℕ, zero, suc, ◌+◌, Bool, true, false, List, [], ◌∷◌, ◌++◌, length, Option}
use Rattle.std.proofs.Common.{Some, None, Result, Ok, Err, refl, sym, ap, ◌∙◌, subst, arith}
use Rattle.std.specs.Prelude.{drop, if◌then◌else◌, is_none, not, option_map, slice_get, ◌&&◌, ◌==◌}
use Rattle.pass_renewed_proof.specs.ir_base.declared.cause.Cause.{Cause}
use Rattle.pass_renewed_proof.specs.ir_model.Names.{first_where, function_at, position_of}
use Rattle.pass_renewed_proof.specs.ir_model.declared.instr.Instr.{Instr}
use Rattle.pass_renewed_proof.specs.ir_model.declared.module.Block.{Block}
use Rattle.pass_renewed_proof.specs.ir_model.declared.module.Function.{Function}
use Rattle.pass_renewed_proof.specs.ir_model.declared.operand.Callee.{Callee}
use Rattle.pass_renewed_proof.specs.ir_model.declared.operand.Intrinsic.{Intrinsic}
use Rattle.pass_renewed_proof.specs.ir_paths.Paths.{entry_point}
use Rattle.pass_renewed_proof.specs.ir_paths.declared.point.Point.{Point}
use Rattle.pass_renewed_proof.specs.pass_kept_proof.Kept.{Keep, kept}
use Rattle.pass_renewed_proof.specs.Renewed.{RenewedGiven, framed_of, is_idle, is_renewed, renew_after, renewed_from}
use Rattle.pass_renewed_proof.specs.Renewed.{renewed_in}
use Rattle.pass_renewed_proof.specs.Renewed.{renewed_slot, with_life, with_renewed}
use Rattle.pass_renewed_proof.specs.run_framed.Framed.{FramedGiven, alloca_from, alloca_in, alloca_of, are_finished_at, begin_given_at}
use Rattle.pass_renewed_proof.specs.run_framed.Framed.{disown_given}
use Rattle.pass_renewed_proof.specs.run_framed.Framed.{enter_after, enter_given, framed_begin, framed_finish, framed_slot, given_call}
use Rattle.pass_renewed_proof.specs.run_framed.Framed.{given_ramp}
use Rattle.pass_renewed_proof.specs.run_framed.Framed.{begin_in_block, begin_in_frame, frame_around, has_room}
use Rattle.pass_renewed_proof.specs.run_framed.Framed.{has_size, is_stack_block, last_value, reentry_values}
use Rattle.run_hooks.proofs.Placing.{change_placed, called_placed, gives_placed, placed_get, placed_push, placed_set}
use Rattle.run_hooks.proofs.Reached.{get_last, own_is}
use Rattle.run_hooks.specs.Away.{ArePlaced, ArePlacedInstances, IsAllocaAt, IsBehindAlloca, IsClear, IsNextPlaced}
use Rattle.run_hooks.specs.Away.{IsOrdinary}
use Rattle.run_hooks.specs.Away.{IsPlaced, IsPlacedState, IsPlacedTop, KeepsAllPlaceRules, KeepsPlaced, StaysPlaced}
use Rattle.run_hooks.specs.Away.{behind_instr, point_in, spot_by}
use Rattle.run_hooks.specs.Hooks.{Hooks}
use Rattle.run_hooks.specs.Meanings.{framed_hooks, hooks_by, kept_hooks, renewed_hooks, source_hooks}
use Rattle.pass_renewed_proof.specs.run_memory.Memory.{disown, killed, own, start}
use Rattle.pass_renewed_proof.specs.run_memory.declared.block.Kind.{Kind}
use Rattle.pass_renewed_proof.specs.run_memory.declared.block.MemoryBlock.{MemoryBlock}
use Rattle.pass_renewed_proof.specs.run_memory.declared.pointer.Pointer.{Pointer}
use Rattle.pass_renewed_proof.specs.run_memory.declared.pointer.Value.{Value}
use Rattle.pass_renewed_proof.specs.run_source.Source.{is_live_at}
use Rattle.pass_renewed_proof.specs.run_source.Source.{Continues, begin, begin_at, begun, called, change_own, continue, finish, is_among}
use Rattle.pass_renewed_proof.specs.run_source.Source.{is_over, kill_late, new_instance, new_slot, push, resumed, with_new_slots}
use Rattle.pass_renewed_proof.specs.run_source.State.{frame_address_of, function_of, gives, own_facts, own_frame, own_instance}
use Rattle.pass_renewed_proof.specs.run_source.State.{with_memory, with_slots}
use Rattle.pass_renewed_proof.specs.run_source.State.{with_status}
use Rattle.pass_renewed_proof.specs.run_source.declared.state.Activation.{Activation}
use Rattle.pass_renewed_proof.specs.run_source.declared.state.Instance.{Instance}
use Rattle.pass_renewed_proof.specs.run_source.declared.state.Mode.{Mode}
use Rattle.pass_renewed_proof.specs.run_source.declared.state.State.{State}
use Rattle.pass_renewed_proof.specs.run_source.declared.state.Status.{Status}
use Rattle.pass_renewed_proof.specs.run_source_tables.Given.{Given}
use Rattle.pass_renewed_proof.specs.run_step.Effects.{is_alloca}
use Rattle.pass_renewed_proof.specs.run_step.Results.{and_then, found, ok_if}
use Rattle.pass_renewed_proof.specs.run_step.Step.{AtInstr, AtTerm, Fetched, block_of, fetch, fetch_in, fetch_or, is_lifetime}
use Rattle.pass_renewed_proof.specs.ir_model.declared.instr.Terminator.{Terminator}
use Rattle.pass_renewed_proof.specs.run_step.Values.{Env, arg_values}
use Rattle.pass_renewed_proof.specs.run_step.declared.world.Slot.{Slot}

-- ---- slots

-- another state with the same activations, but for the topmost one's slots, and instances that are placed too
record IsSlotted (h : Hooks) (s t : State) : Type 0 where
  slots : List Slot
  top : t.top ≡ record s.top { slots = slots }
  below : t.below ≡ s.below
  instances : ArePlacedInstances h.given.code t.instances

late_slotted : (h : Hooks) (s : State) (ramp : List ℕ) (o : Option (ℕ × Instance)) (slot : Slot)
    → ArePlacedInstances h.given.code s.instances
    → ((kill_late ramp o s slot).top ≡ s.top) × ((kill_late ramp o s slot).below ≡ s.below) ×
    ((kill_late ramp o s slot).instances ≡ s.instances)
late_slotted h s ramp None slot k = (refl, refl, refl)
late_slotted h s ramp (Some q) slot k = on (is_over q.1 && not (is_among ramp slot))
  where
    on : (b : Bool) → ((if b then with_memory s (killed s.world.memory slot.block) else s).top ≡ s.top)
        × ((if b then with_memory s (killed s.world.memory slot.block) else s).below ≡ s.below)
        × ((if b then with_memory s (killed s.world.memory slot.block) else s).instances ≡ s.instances)
    on true = (refl, refl, refl)
    on false = (refl, refl, refl)

slots_slotted : (h : Hooks) (s : State) (ramp : List ℕ) (o : Option (ℕ × Instance)) (slots : List Slot)
    → ArePlacedInstances h.given.code s.instances
    → ((i : ℕ) (x : Instance) → o ≡ Some (i, x) → slice_get s.instances i ≡ Some x)
    → IsSlotted h s (with_new_slots ramp o s slots)
slots_slotted h s ramp None slots k is = record { slots = _; top = refl; below = refl; instances = k }
slots_slotted h s ramp (Some q) slots k is = record {
  slots = _;
  top = refl;
  below = refl;
  instances = placed_set h.given s.instances q.0 (record q.1 { slots = _ }) k
      (placed_get h.given s.instances q.0 q.1 k (is q.0 q.1 refl));
}

new_slotted : (h : Hooks) (g : Given) (s : State) (slot : Slot) → ArePlacedInstances h.given.code s.instances
    → IsSlotted h s (new_slot g s slot)
new_slotted h g s slot k =
    let ramp = (own_facts g s).ramp_slots in
    let late = late_slotted h s ramp (own_instance s) slot k in
    let t = kill_late ramp (own_instance s) s slot in
    let made = slots_slotted h t ramp (own_instance s) (slot ∷ [])
    (subst (ArePlacedInstances h.given.code) (sym late.2) k)
    (λ i x e. ap (λ (xs : List Instance). slice_get xs i) late.2 ∙ own_is s i x e) in
    record {
      slots = made.slots;
      top = made.top ∙ ap (λ (a : Activation). record a { slots = made.slots }) late.0;
      below = made.below ∙ late.1;
      instances = made.instances;
    }

-- where it isn't entering a label, the topmost activation stands as it did
slotted_placed : (h : Hooks) (s t : State) → IsBehindAlloca h s → IsSlotted h s t → ((from label : ℕ)
    → s.top.mode ≡ Mode.Entering from label → ⊥) → IsPlacedState h t
slotted_placed h s t b x never = record {
  top = subst (λ (a : Activation). IsPlacedTop h (function_at h.given.code a.func) a) (sym x.top) (record {
    clear = b.clear;
    away = λ e. inl (b.away e);
    entering = λ from label e. absurd (never from label e);
    stops = λ y. absurd (b.fresh y);
  });
  below = subst (ArePlaced h) (sym x.below) b.below;
  instances = x.instances;
}

-- ---- begin

begun_placed : (h : Hooks) (g : Given) (s : State) → IsNextPlaced h s
    → (memory : List MemoryBlock) (b from : ℕ) (result : Option ℕ) (mem : Value)
    → IsPlacedState h (gives (begun g (with_memory s memory) b from) result mem)
begun_placed h g s n memory b from result mem = gives_placed h t next result mem
  where
    x : Instance
    x = new_instance s.top.func b from

    middle : State
    middle = record s {
      world = record s.world { memory = memory };
      instances = s.instances ++ x ∷ [];
      top = record s.top { instance = Some (length s.instances); slots = [] };
    }

    more : ArePlacedInstances h.given.code (s.instances ++ x ∷ [])
    more = placed_push h.given s.instances x n.instances tt

    there : (i : ℕ) (y : Instance) → ◌≡◌ {A = Option (ℕ × Instance)} (Some (length s.instances, x)) (Some (i, y))
        → slice_get (s.instances ++ x ∷ []) i ≡ Some y
    there i y e =
        let pair : ◌≡◌ {A = ℕ × Instance} (length s.instances, x) (i, y) = cc in
        subst (λ (q : ℕ × Instance). slice_get (s.instances ++ x ∷ []) q.0 ≡ Some q.1) pair (get_last s.instances x)

    t : State
    t = begun g (with_memory s memory) b from

    made : IsSlotted h middle (begun g (with_memory s memory) b from)
    made = slots_slotted h middle (own_facts g s).ramp_slots (Some (length s.instances, x)) s.top.slots more there

    next : IsNextPlaced h (begun g (with_memory s memory) b from)
    next = record {
      waits = subst (λ (a : Activation). IsPlaced h (function_at h.given.code a.func) (behind_instr a)) (sym made.top)
          (record {
            clear = n.waits.clear;
            away = n.waits.away;
            entering =
                λ from label e. let k = n.waits.entering from label e in record {
                  may = k.may;
                  stays = k.stays;
                  alloca =
                      k.alloca;
                };
            fresh = n.waits.fresh;
          });
      below = subst (ArePlaced h) (sym made.below) n.below;
      instances = made.instances;
    }

begin_at_placed : (h : Hooks) (g : Given) (s : State) → IsNextPlaced h s
    → (result : Option ℕ) (mem : Value) (kind : Kind)
    → StaysPlaced h (and_then (begin_at g s mem kind) (λ z. Ok (gives z result mem)))
begin_at_placed h g s n result mem kind = by (own s.world.memory mem (own_frame g s).size kind)
  where
    last : (memory : List MemoryBlock) (o : Option ℕ)
        → StaysPlaced h (and_then (and_then (found Cause.Begin o) (λ b. Ok (begun g (with_memory s memory) b 0)))
        (λ z. Ok (gives z result mem)))
    last memory None = tt
    last memory (Some b) = begun_placed h g s n memory b 0 result mem

    by : (o : Result (List MemoryBlock) Cause)
        → StaysPlaced h (and_then (and_then o (λ memory. and_then (found Cause.Begin (block_of mem))
        (λ b. Ok (begun g (with_memory s memory) b 0)))) (λ z. Ok (gives z result mem)))
    by (Err cause) = tt
    by (Ok memory) = last memory (block_of mem)

begin_placed : (h : Hooks) (g : Given) (s : State) → IsNextPlaced h s → (result : Option ℕ) (mem : Value)
    → StaysPlaced h (begin g s result mem)
begin_placed h g s n result mem = on (is_none s.top.instance)
  where
    on : (b : Bool) → StaysPlaced h (and_then (ok_if b Cause.Begin s)
        (λ z. and_then (begin_at g z mem Kind.Allocator) (λ z. Ok (gives z result mem))))
    on true = begin_at_placed h g s n result mem Kind.Allocator
    on false = tt

-- ---- the end

finish_same : (s : State) → ((finish s).top ≡ s.top) × ((finish s).below ≡ s.below)
finish_same s = on (own_instance s)
  where
    on : (o : Option (ℕ × Instance)) → ((change_own s (λ x. record x { status = Status.Finished }) o).top ≡ s.top) ×
        ((change_own s (λ x. record x { status = Status.Finished }) o).below ≡ s.below)
    on None = (refl, refl)
    on (Some q) = (refl, refl)

-- a state with the same activations
same_placed : (h : Hooks) (s t : State) → IsPlacedState h s → t.top ≡ s.top → t.below ≡ s.below
    → ArePlacedInstances h.given.code t.instances → IsPlacedState h t
same_placed h s t k et eb i = record {
  top = subst (λ (a : Activation). IsPlacedTop h (function_at h.given.code a.func) a) (sym et) k.top;
  below = subst (ArePlaced h) (sym eb) k.below;
  instances = i;
}

finished_instances : (h : Hooks) (s : State) → ArePlacedInstances h.given.code s.instances
    → ArePlacedInstances h.given.code (finish s).instances
finished_instances h s k = change_placed h.given s (λ x. record x { status = Status.Finished }) (own_instance s) k
    (λ i x e. own_is s i x e) (λ x d. tt)

finish_placed : (h : Hooks) (s : State) → IsPlacedState h s → IsPlacedState h (finish s)
finish_placed h s k = same_placed h s (finish s) k (finish_same s).0 (finish_same s).1
    (finished_instances h s k.instances)

-- ---- a resumed activation

-- it enters the label at once
entered_placed : (h : Hooks) (s : State) → IsNextPlaced h s → (i : ℕ) (x : Instance) (func : ℕ) (label : ℕ)
    → slice_get s.instances i ≡ Some x → x.coroutine ≡ func
    → IsClear (function_at h.given.code func) (entry_point (function_at h.given.code func) label) → (a : Activation)
    → a.func ≡ func
    → point_in a ≡ entry_point (function_at h.given.code func) label → a.mode ≡ Mode.Resumed → a.has_left ≡ false
    → (t : State) → t.top ≡ a → t.below ≡ behind_instr s.top ∷ s.below
    → t.instances ≡ (with_status s i x Status.Running).instances → IsPlacedState h t
entered_placed h s n i x func label e ex c a ef ep em el t et eb ei = record {
  top = subst (λ (b : Activation). IsPlacedTop h (function_at h.given.code b.func) b) (sym et)
      (subst (λ (k : ℕ). IsPlacedTop h (function_at h.given.code k) a) (sym ef) (record {
        clear = λ d. subst (λ (m : Mode). IsClear f (spot_by f m (point_in a))) (sym em) (subst (IsClear f) (sym ep) c);
        away = λ d. let k : true ≡ false = sym d ∙ el in absurd (cc);
        entering = λ from label' d. let k : Mode.Resumed ≡ Mode.Entering from label' = sym em ∙ d in absurd (cc);
        stops = λ b. let k : b.suspend.at + 1 ≡ 0 = sym (ap (λ (z : Point). z.at) b.next)
            ∙ ap (λ (z : Point). z.at) ep in absurd (omega (arith, k));
      }));
  below = subst (ArePlaced h) (sym eb) (n.waits, n.below);
  instances = subst (ArePlacedInstances h.given.code) (sym ei)
      (placed_set h.given s.instances i (record x { status = Status.Running }) n.instances tt);
}
  where
    f : Function
    f = function_at h.given.code func

-- ---- sources

resumed_placed : (h : Hooks) (s : State) → IsNextPlaced h s
    → (i : ℕ) (x : Instance) (at : Point) (vs : Env) (label : ℕ) → slice_get s.instances i ≡ Some x
    → IsClear (function_at h.given.code x.coroutine) (entry_point (function_at h.given.code x.coroutine) label)
    → IsPlacedState h (continue h.given s i x at vs label)
resumed_placed h s n i x at vs label e c =
    entered_placed h s n i x x.coroutine label e refl c (continue h.given s i x at vs label).top refl refl refl refl
    (continue h.given s i x at vs label) refl refl refl

no_entering : (h : Hooks) (s : State) → h.enters ≡ false → IsBehindAlloca h s → (from label : ℕ)
    → s.top.mode ≡ Mode.Entering from label → ⊥
no_entering h s e b from label k = let d : true ≡ false = sym (b.entering from label k).0 ∙ e in absurd (cc)

hooks_keep_placed : (g : Given) (go : Continues)
    → ((s : State) → IsNextPlaced (hooks_by g go) s → (i : ℕ) (x : Instance) (at : Point) (vs : Env) (label : ℕ)
    → slice_get s.instances i ≡ Some x
    → IsClear (function_at g.code x.coroutine) (entry_point (function_at g.code x.coroutine) label)
    → IsPlacedState (hooks_by g go) (go s i x at vs label))
    → KeepsPlaced (hooks_by g go)
hooks_keep_placed g go goes = record {
  go_on = goes;
  place = λ s slot b. slotted_placed (hooks_by g go) s (new_slot g s slot) b
      (new_slotted (hooks_by g go) g s slot b.instances) (no_entering (hooks_by g go) s refl b);
  start = λ s result memory n. begin_placed (hooks_by g go) g s n result memory;
  close = finish_placed (hooks_by g go);
  closed = finish_same;
  call = λ s x r n e. absurd (cc);
  called = λ s x r e. absurd (cc);
  idle = λ s x e. absurd (cc);
}

pub source_keeps_placed : (g : Given) → KeepsPlaced (source_hooks g)
source_keeps_placed g = hooks_keep_placed g (continue g) (λ s n i x at vs label e c. resumed_placed
    (source_hooks g) s n i x at vs label e c)

pub kept_keeps_placed : (g : Given) (keep : Keep) → KeepsPlaced (kept_hooks g keep)
kept_keeps_placed g keep = hooks_keep_placed g _ (λ s n i x at vs label e c. resumed_placed
    (kept_hooks g keep) s n i x at (kept (keep x.coroutine at) vs) label e c)

-- ---- allocas of the entry block

found_alloca : (at : ℕ) (is : List Instr) (k : ℕ) → alloca_in at is ≡ Some k
    → (j : ℕ) × (k ≡ at + j) × (i : Instr) × (slice_get is j ≡ Some i) × (is_alloca i ≡ true)
found_alloca at [] k e = absurd (cc)
found_alloca at (i ∷ is) k e = on (is_alloca i) refl e (λ d. found_alloca (suc at) is k d)
  where
    on : (b : Bool) → is_alloca i ≡ b → (if b then Some at else alloca_in (suc at) is) ≡ Some k
        → (alloca_in (suc at) is ≡ Some k → (j : ℕ) × (k ≡ suc at + j) × (y : Instr) × (slice_get is j ≡ Some y) ×
        (is_alloca y ≡ true))
        → (j : ℕ) × (k ≡ at + j) × (y : Instr) × (slice_get (i ∷ is) j ≡ Some y) × (is_alloca y ≡ true)
    on true a d again = let same : at ≡ k = cc in (0, omega (arith, same), i, refl, a)
    on false a d again = let r = again d in let n = r.1 in (suc r.0, omega (arith, n), r.2, r.3, r.4)

found_flagged : (flags : ℕ → Bool) (is : List Instr) (k : ℕ) → first_where (is_renewed flags) is ≡ Some k
    → (i : Instr) × (slice_get is k ≡ Some i) × (is_alloca i ≡ true)
found_flagged flags [] k e = absurd (cc)
found_flagged flags (i ∷ is) k e = on (is_renewed flags i) refl e (λ j d. found_flagged flags is j d)
  where
    flagged_alloca : (i : Instr) → is_renewed flags i ≡ true → is_alloca i ≡ true
    flagged_alloca (Instr.Alloca name ty align) d = refl
    flagged_alloca _ d = absurd (cc)

    later : (o : Option ℕ) → option_map suc o ≡ Some k → (j : ℕ) × (o ≡ Some j) × (k ≡ suc j)
    later None d = absurd (cc)
    later (Some j) d = let same : suc j ≡ k = cc in (j, refl, sym same)

    on : (b : Bool) → is_renewed flags i ≡ b → (if b then Some 0 else option_map suc
        (first_where (is_renewed flags) is)) ≡ Some k
        → ((j : ℕ) → first_where (is_renewed flags) is ≡ Some j
        → (y : Instr) × (slice_get is j ≡ Some y) × (is_alloca y ≡ true))
        → (y : Instr) × (slice_get (i ∷ is) k ≡ Some y) × (is_alloca y ≡ true)
    on true a d again = let same : 0 ≡ k = cc in (i, ap (slice_get (i ∷ is)) (sym same), flagged_alloca i a)
    on false a d again =
        let l = later (first_where (is_renewed flags) is) d in
        let r = again l.0 l.1 in
        (r.0, ap (slice_get (i ∷ is)) l.2 ∙ r.1, r.2)

dropped_get : {A : Type 0} (n : ℕ) (xs : List A) (j : ℕ) → slice_get (drop n xs) j ≡ slice_get xs (n + j)
dropped_get zero [] j = refl
dropped_get zero (x ∷ xs) j = let z : j ≡ 0 + j = omega arith in ap (slice_get (x ∷ xs)) z
dropped_get (suc n) [] j = refl
dropped_get (suc n) (x ∷ xs) j = let z : suc (n + j) ≡ suc n + j = omega arith in dropped_get n xs j
    ∙ ap (slice_get (x ∷ xs)) z

-- an instruction of the entry block is fetched there
entry_fetched : (f : Function) (b : Block) → slice_get f.blocks 0 ≡ Some b → (k : ℕ) (i : Instr)
    → slice_get b.instrs k ≡ Some i → fetch f 0 k ≡ AtInstr i
entry_fetched f b eb k i e = ap (λ (o : Option Block). fetch_in o k) eb
    ∙ ap (λ (o : Option Instr). fetch_or o (k == length b.instrs) b.term) e

alloca_found : (f : Function) (at : ℕ) (p : Point) → alloca_from f at ≡ Some p → IsAllocaAt f p
alloca_found f at p e = on (slice_get f.blocks 0) refl e
  where
    on : (o : Option Block) → slice_get f.blocks 0 ≡ o
        → option_map (λ k. record { block = 0; at = k }) (alloca_of o at) ≡ Some p → IsAllocaAt f p
    on None eo k = absurd (cc)
    on (Some b) eo k = by (alloca_in at (drop at b.instrs)) refl k
      where
        by : (o : Option ℕ) → alloca_in at (drop at b.instrs) ≡ o
            → option_map (λ k. record { block = 0; at = k }) o ≡ Some p → IsAllocaAt f p
        by None en d = absurd (cc)
        by (Some n) en d =
            let r = found_alloca at (drop at b.instrs) n en in
            let there : slice_get b.instrs n ≡ Some r.2 = ap (slice_get b.instrs) r.1
            ∙ sym (dropped_get at b.instrs r.0) ∙ r.3 in
            let q : record { block = 0; at = n } ≡ p = cc in
            subst (IsAllocaAt f) q (record { instr = r.2; stands = entry_fetched f b eo n r.2 there; is = r.4 })

flagged_found : (flags : ℕ → Bool) (f : Function) (at : ℕ) (p : Point) → renewed_from flags f at ≡ Some p
    → IsAllocaAt f p
flagged_found flags f at p e = on (slice_get f.blocks 0) refl e
  where
    on : (o : Option Block) → slice_get f.blocks 0 ≡ o
        → option_map (λ k. record { block = 0; at = k }) (renewed_in flags o at) ≡ Some p → IsAllocaAt f p
    on None eo k = absurd (cc)
    on (Some b) eo k = by (first_where (is_renewed flags) (drop at b.instrs)) refl k
      where
        by : (o : Option ℕ) → first_where (is_renewed flags) (drop at b.instrs) ≡ o
            → option_map (λ k. record { block = 0; at = k }) (option_map (λ k. at + k) o) ≡ Some p → IsAllocaAt f p
        by None en d = absurd (cc)
        by (Some n) en d =
            let r = found_flagged flags (drop at b.instrs) n en in
            let there : slice_get b.instrs (at + n) ≡ Some r.0 = sym (dropped_get at b.instrs n) ∙ r.1 in
            let q : record { block = 0; at = at + n } ≡ p = cc in
            subst (IsAllocaAt f) q (record { instr = r.0; stands = entry_fetched f b eo (at + n) r.0 there; is = r.2 })

-- ---- entry of a label, after allocas

-- an activation of a function that hasn't left, and all else of a placed state
record IsGoing (h : Hooks) (func : ℕ) (s : State) : Type 0 where
  runs : s.top.func ≡ func
  stays : s.top.has_left ≡ false
  below : ArePlaced h s.below
  instances : ArePlacedInstances h.given.code s.instances

module _ (g : FramedGiven) (h : Hooks) (may : h.enters ≡ true) (same : h.given ≡ g.given) where
  enters_placed : (s : State) (func from label : ℕ) (o : Option Point) → IsGoing h func s
      → IsClear (function_at h.given.code func) (entry_point (function_at h.given.code func) label)
      → ((p : Point) → o ≡ Some p → IsAllocaAt (function_at h.given.code func) p)
      → IsPlacedState h (enter_after g s from label o)
  enters_placed s func from label (Some p) k c at = record {
    top = subst (λ (n : ℕ). IsPlacedTop h (function_at h.given.code n) (enter_after g s from label (Some p)).top)
        (sym k.runs) (record {
          clear = λ e. subst (λ (l : ℕ). IsClear f (entry_point f l)) refl c;
          away = λ e. let d : true ≡ false = sym e ∙ k.stays in absurd (cc);
          entering = λ from' label' e. record { may = may; stays = k.stays; alloca = at p refl };
          stops = λ b arg default cases l e d.
              let a : IsAllocaAt f p = at p refl in
              let never : AtInstr a.instr ≡ AtTerm (Terminator.Switch arg default cases) = sym a.stands ∙ e in
              absurd (cc);
        });
    below = k.below;
    instances = k.instances;
  }
    where
      f : Function
      f = function_at h.given.code func
  enters_placed s func from label None k c at = record {
    top = subst (λ (n : ℕ). IsPlacedTop h (function_at h.given.code n) (enter_after g s from label None).top)
        (sym k.runs) (record {
          clear = λ e. subst (IsClear f) (sym place) c;
          away = λ e. let d : true ≡ false = sym e ∙ k.stays in absurd (cc);
          entering = λ from' label' e. absurd (cc);
          stops = λ b. let d : b.suspend.at + 1 ≡ 0 = sym (ap (λ (z : Point). z.at) b.next)
              in absurd (omega (arith, d));
        });
    below = k.below;
    instances = k.instances;
  }
    where
      f : Function
      f = function_at h.given.code func

      place : point_in (enter_after g s from label None).top ≡ entry_point f label
      place = λ j. record { block = position_of (at_func j) label; at = 0 }
        where
          at_func : function_at g.given.code s.top.func ≡ f
          at_func = ap (λ (x : Given). function_at x.code s.top.func) (sym same) ∙ ap (function_at h.given.code) k.runs

renews_placed : (g : RenewedGiven) (s : State) (func from label : ℕ) (o : Option Point)
    → IsGoing (renewed_hooks g) func s
    → IsClear (function_at g.given.code func) (entry_point (function_at g.given.code func) label)
    → ((p : Point) → o ≡ Some p → IsAllocaAt (function_at g.given.code func) p)
    → IsPlacedState (renewed_hooks g) (renew_after g s from label o)
renews_placed g s func from label (Some p) k c at = enters_placed (framed_of g)
    (renewed_hooks g) refl refl s func from label (Some p) k c at
renews_placed g s func from label None k c at =
    enters_placed (framed_of g) (renewed_hooks g) refl refl (with_renewed (g.roots s.top.func) s) func from label None
    (record { runs = k.runs; stays = k.stays; below = k.below; instances = k.instances }) c (λ p e. absurd (cc))

pushed_going : (h : Hooks) (s : State) → IsNextPlaced h s → (i : ℕ) (x : Instance) (at : Point) (vs : Env)
    → IsGoing h x.coroutine (push (with_status s i x Status.Running) (resumed i x at vs))
pushed_going h s n i x at vs = record {
  runs = refl;
  stays = refl;
  below = (n.waits, n.below);
  instances = placed_set h.given s.instances i (record x { status = Status.Running }) n.instances tt;
}

-- a label that the topmost activation is entering is clear
entering_clear : (h : Hooks) (s : State) (b : IsBehindAlloca h s) (from label : ℕ)
    → s.top.mode ≡ Mode.Entering from label
    → IsClear (function_of h.given s) (entry_point (function_of h.given s) label)
entering_clear h s b from label e =
    subst (λ (m : Mode). IsClear (function_of h.given s) (spot_by (function_of h.given s) m (point_in s.top))) e
    (b.clear (b.entering from label e).1)

going : (h : Hooks) (s : State) (b : IsBehindAlloca h s) (slots : List Slot) (from label : ℕ)
    → s.top.mode ≡ Mode.Entering from label → IsGoing h s.top.func (with_slots s slots)
going h s b slots from label e = record {
  runs = refl;
  stays =
      (b.entering from label e).1;
  below = b.below;
  instances = b.instances;
}

own_slotted : (h : Hooks) (s : State) (slot : Slot) → IsBehindAlloca h s
    → IsSlotted h s (with_slots s (slot ∷ s.top.slots))
own_slotted h s slot b = record { slots = _; top = refl; below = refl; instances = b.instances }

-- ---- slots that are made anew

first_holds : (a b : Bool) → (a && b) ≡ true → a ≡ true
first_holds true b e = refl
first_holds false b e = absurd (cc)

idle_ordinary : (flags : ℕ → Bool) (x : Fetched) → is_idle flags x ≡ true → IsOrdinary x
idle_ordinary flags (AtInstr (Instr.Call result must_tail ty callee args)) e = on callee
    (first_holds (is_lifetime callee) _ e)
  where
    on : (c : Callee) → is_lifetime c ≡ true → IsOrdinary (AtInstr (Instr.Call result must_tail ty c args))
    on (Callee.Intrinsic Intrinsic.LifetimeStart) d = record {
      instr = _;
      stands = refl;
      no_save = refl;
      no_suspend =
          refl;
      no_end = refl;
      no_alloca = refl;
    }
    on (Callee.Intrinsic Intrinsic.LifetimeEnd) d = record {
      instr = _;
      stands = refl;
      no_save = refl;
      no_suspend =
          refl;
      no_end = refl;
      no_alloca = refl;
    }
    on _ d = absurd (cc)
idle_ordinary flags _ e = absurd (cc)

life_behind : (g : RenewedGiven) (s : State) (slot : Slot) → IsBehindAlloca (renewed_hooks g) s
    → IsBehindAlloca (renewed_hooks g) (with_life g s slot) × ((with_life g s slot).top ≡ s.top)
life_behind g s slot b = on (g.flags s.top.func slot.alloca)
  where
    on : (c : Bool) → IsBehindAlloca (renewed_hooks g) (if c then with_memory s
        (start s.world.memory slot.block) else s)
        × ((if c then with_memory s (start s.world.memory slot.block) else s).top ≡ s.top)
    on true = (
      record {
        clear = b.clear;
        away = b.away;
        entering = b.entering;
        fresh = b.fresh;
        below = b.below;
        instances = b.instances;
      },
      refl,
    )
    on false = (b, refl)

renewed_slot_placed : (g : RenewedGiven) (s : State) (slot : Slot) (mode : Mode) → s.top.mode ≡ mode
    → IsBehindAlloca (renewed_hooks g) s
    → IsPlacedState (renewed_hooks g) (renewed_slot g s slot mode)
renewed_slot_placed g s slot (Mode.Entering from label) e b =
    renews_placed g (with_slots s (slot ∷ s.top.slots)) s.top.func from label
    (renewed_from (g.flags s.top.func) (function_of g.given s) s.top.at)
    (going (renewed_hooks g) s b (slot ∷ s.top.slots) from label e) (entering_clear (renewed_hooks g) s b from label e)
    (flagged_found (g.flags s.top.func) (function_of g.given s) s.top.at)
renewed_slot_placed g s slot Mode.Plain e b = slotted_placed (renewed_hooks g) s _ b
    (new_slotted (renewed_hooks g) g.given s slot b.instances)
    (λ from label k. let d : Mode.Plain ≡ Mode.Entering from label = sym e ∙ k in absurd (cc))
renewed_slot_placed g s slot Mode.Ramp e b = slotted_placed (renewed_hooks g) s _ b
    (new_slotted (renewed_hooks g) g.given s slot b.instances)
    (λ from label k. let d : Mode.Ramp ≡ Mode.Entering from label = sym e ∙ k in absurd (cc))
renewed_slot_placed g s slot Mode.Resumed e b = slotted_placed (renewed_hooks g) s _ b
    (new_slotted (renewed_hooks g) g.given s slot b.instances)
    (λ from label k. let d : Mode.Resumed ≡ Mode.Entering from label = sym e ∙ k in absurd (cc))
renewed_slot_placed g s slot (Mode.GivenRamp frame) e b = slotted_placed (renewed_hooks g) s _ b
    (new_slotted (renewed_hooks g) g.given s slot b.instances)
    (λ from label k. let d : Mode.GivenRamp frame ≡ Mode.Entering from label = sym e ∙ k in absurd (cc))

pub renewed_keeps_placed : (g : RenewedGiven) → KeepsPlaced (renewed_hooks g)
renewed_keeps_placed g = record {
  go_on = λ s n i x at vs label e c.
      renews_placed g (push (with_status s i x Status.Running)
      (resumed i x at (kept (g.keep x.coroutine at) vs))) x.coroutine at.block label
      (renewed_from (g.flags x.coroutine) (function_at g.given.code x.coroutine) 0)
      (pushed_going (renewed_hooks g) s n i x at _) c
      (flagged_found (g.flags x.coroutine) (function_at g.given.code x.coroutine) 0);
  place = λ s slot b. let l = life_behind g s slot b in renewed_slot_placed g (with_life g s slot) slot s.top.mode
      (ap (λ (a : Activation). a.mode) l.1) l.0;
  start = λ s result memory n. begin_placed (renewed_hooks g) g.given s n result memory;
  close = finish_placed (renewed_hooks g);
  closed = finish_same;
  call = λ s x r n e. absurd (cc);
  called = λ s x r e. absurd (cc);
  idle = λ s x e. idle_ordinary (g.flags s.top.func) x e;
}

-- ---- frames

framed_slot_placed : (g : FramedGiven) (s : State) (slot : Slot) (mode : Mode) → s.top.mode ≡ mode
    → IsBehindAlloca (framed_hooks g) s
    → IsPlacedState (framed_hooks g) (framed_slot g s slot mode)
framed_slot_placed g s slot (Mode.Entering from label) e b =
    enters_placed g (framed_hooks g) refl refl (with_slots s (slot ∷ s.top.slots)) s.top.func from label
    (alloca_from (function_of g.given s) s.top.at)
    (going (framed_hooks g) s b (slot ∷ s.top.slots) from label e) (entering_clear (framed_hooks g) s b from label e)
    (alloca_found (function_of g.given s) s.top.at)
framed_slot_placed g s slot Mode.Plain e b = slotted_placed (framed_hooks g) s _ b
    (own_slotted (framed_hooks g) s slot b) (λ from label k. let d : Mode.Plain ≡ Mode.Entering from label = sym e
    ∙ k in absurd (cc))
framed_slot_placed g s slot Mode.Ramp e b = slotted_placed (framed_hooks g) s _ b
    (own_slotted (framed_hooks g) s slot b) (λ from label k. let d : Mode.Ramp ≡ Mode.Entering from label = sym e
    ∙ k in absurd (cc))
framed_slot_placed g s slot Mode.Resumed e b = slotted_placed (framed_hooks g) s _ b
    (own_slotted (framed_hooks g) s slot b) (λ from label k. let d : Mode.Resumed ≡ Mode.Entering from label = sym e
    ∙ k in absurd (cc))
framed_slot_placed g s slot (Mode.GivenRamp frame) e b = slotted_placed (framed_hooks g) s _ b
    (own_slotted (framed_hooks g) s slot b) (λ from label k. let d : Mode.GivenRamp frame ≡ Mode.Entering from label =
    sym e ∙ k in absurd (cc))

given_placed : (g : FramedGiven) (s : State) → IsNextPlaced (framed_hooks g) s → (result : Option ℕ) (frame : Value)
    → StaysPlaced (framed_hooks g) (and_then (begin_given_at g s frame) (λ z. Ok (gives z result frame)))
given_placed g s n result (Value.Ptr (Pointer.At b o)) =
    on (has_room g o.bits (own_frame g.given s).size (frame_around g s.instances b o.bits))
  where
    in_block : (c : Bool) → StaysPlaced (framed_hooks g) (and_then (and_then (ok_if c Cause.Begin s)
        (λ z. begin_at g.given z (Value.Ptr (Pointer.At b o)) Kind.Stack))
        (λ z. Ok (gives z result (Value.Ptr (Pointer.At b o)))))
    in_block true = begin_at_placed (framed_hooks g) g.given s n result (Value.Ptr (Pointer.At b o)) Kind.Stack
    in_block false = tt

    in_frame : (c : Bool) → StaysPlaced (framed_hooks g) (and_then (ok_if c Cause.Begin (begun g.given s b o.bits))
        (λ z. Ok (gives z result (Value.Ptr (Pointer.At b o)))))
    in_frame true = begun_placed (framed_hooks g) g.given s n s.world.memory b o.bits result (Value.Ptr (Pointer.At b o))
    in_frame false = tt

    on : (c : Bool) → StaysPlaced (framed_hooks g) (and_then (if c then begin_in_frame g s b o else begin_in_block g s b o)
        (λ z. Ok (gives z result (Value.Ptr (Pointer.At b o)))))
    on true = in_frame (is_live_at s.world.memory b)
    on false = in_block ((o.bits == 0) && has_size s.world.memory b (own_frame g.given s).size)
given_placed g s n result _ = tt

framed_begin_placed : (g : FramedGiven) (s : State) → IsNextPlaced (framed_hooks g) s
    → (result : Option ℕ) (memory : Value) (mode : Mode)
    → StaysPlaced (framed_hooks g) (framed_begin g s result memory mode)
framed_begin_placed g s n result memory (Mode.GivenRamp frame) = on
    (is_none s.top.instance && are_finished_at s.instances frame)
  where
    on : (b : Bool) → StaysPlaced (framed_hooks g) (and_then (ok_if b Cause.Begin s)
        (λ z. and_then (begin_given_at g z frame) (λ z. Ok (gives z result frame))))
    on true = given_placed g s n result frame
    on false = tt
framed_begin_placed g s n result memory _ = begin_placed (framed_hooks g) g.given s n result memory

module _ (g : FramedGiven) (rules : KeepsAllPlaceRules g.given) where
  ramp_placed : (s : State) → IsNextPlaced (framed_hooks g) s
      → (result : Option ℕ) (vs : List Value) (o : Option ℕ) (r : Result State Cause)
      → enter_given g s result vs o ≡ Some r → StaysPlaced (framed_hooks g) r
  ramp_placed s n result vs None r e = absurd (cc)
  ramp_placed s n result vs (Some func) r e =
      let k : Ok (push s (called g.given.code func vs result (Mode.GivenRamp (last_value vs)))) ≡ r = cc in
      subst (StaysPlaced (framed_hooks g)) k
      (called_placed (framed_hooks g) rules s n (called g.given.code func vs result
      (Mode.GivenRamp (last_value vs))) refl refl refl (λ from label d. absurd (cc)))

  call_placed : (s : State) (x : Fetched) (r : Result State Cause) → IsNextPlaced (framed_hooks g) s
      → given_call g s x ≡ Some r → StaysPlaced (framed_hooks g) r
  call_placed s (AtInstr (Instr.Call result must_tail ty (Callee.Named m) args)) r n e =
      ramp_placed s n result (arg_values g.given.code s.top.values args) (given_ramp g.given.code m) r e
  call_placed s _ r n e = absurd (cc)

call_ordinary : (g : FramedGiven) (s : State) (x : Fetched) (r : Result State Cause) → given_call g s x ≡ Some r
    → IsOrdinary x
call_ordinary g s (AtInstr (Instr.Call result must_tail ty (Callee.Named m) args)) r e =
    record { instr = _; stands = refl; no_save = refl; no_suspend = refl; no_end = refl; no_alloca = refl }
call_ordinary g s _ r e = absurd (cc)

disown_same : (s : State) (o : Option (ℕ × Instance)) → ((disown_given s o).top ≡ s.top) ×
    ((disown_given s o).below ≡ s.below) × ((disown_given s o).instances ≡ s.instances)
disown_same s None = (refl, refl, refl)
disown_same s (Some (i, x)) = on (is_stack_block s.world.memory x.block && (x.start == 0))
  where
    on : (b : Bool) → ((if b then with_memory s (disown s.world.memory x.block) else s).top ≡ s.top)
        × ((if b then with_memory s (disown s.world.memory x.block) else s).below ≡ s.below)
        × ((if b then with_memory s (disown s.world.memory x.block) else s).instances ≡ s.instances)
    on true = (refl, refl, refl)
    on false = (refl, refl, refl)

framed_same : (s : State) → ((framed_finish s).top ≡ s.top) × ((framed_finish s).below ≡ s.below)
framed_same s = let d = disown_same (finish s) (own_instance s) in let f = finish_same s in (d.0 ∙ f.0, d.1 ∙ f.1)

pub framed_keeps_placed : (g : FramedGiven) → KeepsAllPlaceRules g.given → KeepsPlaced (framed_hooks g)
framed_keeps_placed g rules = record {
  go_on = λ s n i x at vs label e c.
      enters_placed g (framed_hooks g) refl refl (push (with_status s i x Status.Running)
      (resumed i x at (reentry_values (function_at g.given.code x.coroutine)
      (frame_address_of x)))) x.coroutine at.block label
      (alloca_from (function_at g.given.code x.coroutine) 0) (pushed_going (framed_hooks g) s n i x at _) c
      (alloca_found (function_at g.given.code x.coroutine) 0);
  place = λ s slot b. framed_slot_placed g s slot s.top.mode refl b;
  start = λ s result memory n. framed_begin_placed g s n result memory s.top.mode;
  close = λ s k. same_placed (framed_hooks g) s (framed_finish s) k (framed_same s).0 (framed_same s).1
      (subst (ArePlacedInstances g.given.code) (sym (disown_same (finish s) (own_instance s)).2)
      (finished_instances (framed_hooks g) s k.instances));
  closed = framed_same;
  call = call_placed g rules;
  called = call_ordinary g;
  idle = λ s x e. absurd (cc);
}
