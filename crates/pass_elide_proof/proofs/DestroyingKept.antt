-- Each step of a framed run keeps that what a coro.destroy has called is to free its instance.
use Rattle.std.proofs.Common.{◌≡◌, ◌<◌, ◌+◌, ℕ, Bool, true, false, not, List, [], ◌∷◌, ◌++◌, length, map, Result, Ok, Err, refl, sym, ap, ◌∙◌, subst, arith, inl, inr, if◌then◌else◌, ◌&&◌, ◌==◌, ◌⊎◌}
use Rattle.std.specs.List.{list_all}
use Rattle.std.specs.Prelude.{None, Option, Some, is_none, negsuc, option_and_then, option_map, slice_get, slice_set, unwrap_or}
use Rattle.elide_sites.specs.Destroyed.{IsOn, is_free}
use Rattle.elide_sites.specs.declared.destroyed.Way.{Way}
use Rattle.pass_elide_proof.proofs.Begins.{no_both}
use Rattle.pass_elide_proof.proofs.Changing.{new_there}
use Rattle.pass_elide_proof.proofs.DestroyingSteps.{GoesFurther, StaysPut, StaysReleased, all_over, has_further, has_put, top_changed, way_on}
use Rattle.pass_elide_proof.proofs.ElidedFound.{fetched}
use Rattle.pass_elide_proof.proofs.GoesOn.{instr_there}
use Rattle.pass_elide_proof.proofs.LastFound.{found_there}
use Rattle.pass_elide_proof.proofs.ReleasingActs.{goto_there}
use Rattle.pass_elide_proof.proofs.Saves.{own_number}
use Rattle.pass_elide_proof.specs.Destroying.{AreDestroysOnWay, AreToFree, DestroysAreToFree, Entering, HasToFree, IsBehindDestroy, IsToFree, Released, Unfreed}
use Rattle.pass_elide_proof.specs.Places.{instrs_of}
use Rattle.pass_proofs.proofs.ir_laws.facts.Lists.{get_before, get_within, set_other}
use Rattle.pass_proofs.proofs.ir_laws.facts.Truth.{either, equal_numbers}
use Rattle.pass_proofs.proofs.run_laws.memory.Written.{same_some}
use Rattle.pass_proofs.specs.flow_solver.Paths.{IsListed}
use Rattle.pass_proofs.specs.ir_base.declared.cause.Cause.{Cause}
use Rattle.pass_proofs.specs.ir_base.declared.outcome.Outcome.{Outcome}
use Rattle.pass_proofs.specs.ir_base.declared.outcome.Word.{Word}
use Rattle.pass_proofs.specs.ir_model.Names.{function_at, position_of, same_intrinsic}
use Rattle.pass_proofs.specs.ir_model.Ty.{int}
use Rattle.pass_proofs.specs.ir_model.declared.instr.Case.{Case}
use Rattle.pass_proofs.specs.ir_model.declared.instr.Instr.{Instr}
use Rattle.pass_proofs.specs.ir_model.declared.instr.Terminator.{Terminator}
use Rattle.pass_proofs.specs.ir_model.declared.module.Block.{Block}
use Rattle.pass_proofs.specs.ir_model.declared.module.Function.{Function}
use Rattle.pass_proofs.specs.ir_model.declared.module.Module.{Module}
use Rattle.pass_proofs.specs.ir_model.declared.operand.Arg.{Arg}
use Rattle.pass_proofs.specs.ir_model.declared.operand.Callee.{Callee}
use Rattle.pass_proofs.specs.ir_model.declared.operand.Intrinsic.{Intrinsic}
use Rattle.pass_proofs.specs.ir_model.declared.operand.Operand.{Operand}
use Rattle.pass_proofs.specs.ir_paths.Paths.{targets}
use Rattle.pass_proofs.specs.ir_paths.Windows.{destroy_label, is_call_of, operand_at, resume_label, suspend_of}
use Rattle.pass_proofs.specs.ir_paths.declared.point.Point.{Point}
use Rattle.pass_proofs.specs.ir_paths.declared.point.Window.{Window}
use Rattle.pass_proofs.specs.run_framed.Framed.{FramedGiven, alloca_from, are_finished_at, begin_given, begin_given_at, begin_in_block, begin_in_frame, continue_framed, disown_given, enter_after, enter_given, frame_around, framed_act, framed_advance, framed_begin, framed_context, framed_coro, framed_finish, framed_next, framed_promise, framed_slot, framed_step, given_ramp, has_room, has_size, is_stack_block, last_value, reentry_values}
use Rattle.pass_proofs.specs.run_memory.Memory.{disown, own}
use Rattle.pass_proofs.specs.run_memory.declared.block.Kind.{Kind}
use Rattle.pass_proofs.specs.run_memory.declared.block.MemoryBlock.{MemoryBlock}
use Rattle.pass_proofs.specs.run_memory.declared.pointer.Pointer.{Pointer}
use Rattle.pass_proofs.specs.run_memory.declared.pointer.Value.{Value}
use Rattle.pass_proofs.specs.run_source.Source.{Sleeper, after_end, begin, begin_at, begun, branch_leaving, called, change_own, deallocate, destroy, done_at, end_of, enter_block, first_state, given_back, if_let_go, left_windows, let_go, may_be_freed, may_leave, mode_of, new_instance, pop, push, release, resume, resumed, return, returned, save, save_for, sleeper_at, sleeper_of, slots_of, suspend}
use Rattle.pass_proofs.specs.run_source.State.{began_at, frame_address_of, function_of, gives, instance_at, next, numbered, or_undefined, own_frame, own_instance, point_of, settled, with_instance, with_left, with_memory, with_slots, with_status, work_of}
use Rattle.pass_proofs.specs.run_source.declared.state.Activation.{Activation}
use Rattle.pass_proofs.specs.run_source.declared.state.Instance.{Instance}
use Rattle.pass_proofs.specs.run_source.declared.state.Mode.{Mode}
use Rattle.pass_proofs.specs.run_source.declared.state.State.{State}
use Rattle.pass_proofs.specs.run_source.declared.state.Status.{Status}
use Rattle.pass_proofs.specs.run_source_tables.Given.{has_final, is_final}
use Rattle.pass_proofs.specs.run_step.Results.{and_then, found, ok_if}
use Rattle.pass_proofs.specs.run_step.Step.{Action, AtInstr, AtTerm, Context, Coro, Deallocate, Done, Enter, Fetched, GoTo, NewSlot, Nowhere, Return, Stuck, Work, action_of, block_of, branch, deallocated, fetch, fetch_in, fetch_or, is_word, outcome_of, switch, target_of, term_action, value_at, without_slots}
use Rattle.pass_proofs.specs.run_step.Values.{arg_value, arg_values, integer, nth, truth_value}
use Rattle.pass_proofs.specs.run_step.declared.world.Slot.{Slot}

-- ---- instances

stay_themselves : (xs : List Instance) → StaysReleased xs xs
stay_themselves xs = record { each = λ i x at. (x, at, λ is. is) }

stay_then : (xs ys zs : List Instance) → StaysReleased xs ys → StaysReleased ys zs → StaysReleased xs zs
stay_then xs ys zs first second = record {
  each = λ i x at.
      let y = first.each i x at in
      let z = second.each i y.0 y.1 in (z.0, z.1, λ is. z.2 (y.2 is));
}

stay_set : (xs : List Instance) (i : ℕ) (x new : Instance) → slice_get xs i ≡ Some x
    → (x.released ≡ true → new.released ≡ true) → StaysReleased xs (slice_set xs i new)
stay_set xs i x new there on = record { each = each }
  where
    each : (j : ℕ) (y : Instance) → slice_get xs j ≡ Some y
        → (z : Instance) × (slice_get (slice_set xs i new) j ≡ Some z) × (y.released ≡ true → z.released ≡ true)
    each j y at = by (either j i)
      where
        by : (j ≡ i) ⊎ (j ≡ i → ⊥)
            → (z : Instance) × (slice_get (slice_set xs i new) j ≡ Some z) × (y.released ≡ true → z.released ≡ true)
        by (inl same) =
            let one : y ≡ x = same_some y x (sym at ∙ (ap (slice_get xs) same ∙ there)) in (
              new,
              ap (slice_get (slice_set xs i new)) same ∙ new_there xs i x new there,
              λ is. on (ap (λ (z : Instance). z.released) (sym one) ∙ is),
            )
        by (inr ne) = (y, set_other xs i j new (λ same. ne (sym same)) ∙ at, λ is. is)

stay_more : (xs : List Instance) (new last : Instance)
    → StaysReleased xs (slice_set (xs ++ new ∷ []) (length xs) last)
stay_more xs new last = record {
  each = λ i x at. (
    x,
    set_other (xs ++ new ∷ []) (length xs) i last (λ same. other i x at same) ∙ get_before xs (new ∷ []) i x at,
    λ is. is,
  );
}
  where
    other : (i : ℕ) (x : Instance) → slice_get xs i ≡ Some x → length xs ≡ i → ⊥
    other i x at same = let lt = get_within xs i x at in omega (arith, lt, same)

-- ---- terminators

target_listed : (m : Module) (x : Word) (default : ℕ) (cases : List Case)
    → IsListed (target_of m x default cases) (default ∷ map (λ (k : Case). k.target) cases)
target_listed m x default [] = inl refl
target_listed m x default (k ∷ cases) =
    by (is_word x (arg_value m [] k.arg)) (target_listed m x default cases)
  where
    skip : (y : ℕ) (z : ℕ) (zs : List ℕ) → IsListed y (default ∷ zs) → IsListed y (default ∷ z ∷ zs)
    skip y z zs (inl is) = inl is
    skip y z zs (inr l) = inr (inr l)

    by : (t : Bool) → IsListed (target_of m x default cases) (default ∷ map (λ (k : Case). k.target) cases)
        → IsListed (if t then k.target else target_of m x default cases)
        (default ∷ k.target ∷ map (λ (k : Case). k.target) cases)
    by true l = inr (inl refl)
    by false l = skip (target_of m x default cases) k.target (map (λ (k : Case). k.target) cases) l

same_label : (a b : ℕ) → GoTo a ≡ GoTo b → b ≡ a
same_label a b e = let is : a ≡ b = cc in sym is

leads_listed : (c : Context) (w : Work) (t : Terminator) (label : ℕ) → term_action c w t ≡ GoTo label
    → IsListed label (targets t)
leads_listed c w (Terminator.Jump l) label is = inl (same_label l label is)
leads_listed c w (Terminator.Branch x a b) label is = by (value_at c w (int 1) x) is
  where
    on : (t : Bool) → GoTo (if t then a else b) ≡ GoTo label → IsListed label (a ∷ b ∷ [])
    on true e = inl (same_label a label e)
    on false e = inr (inl (same_label b label e))

    by : (v : Value) → branch v a b ≡ GoTo label → IsListed label (a ∷ b ∷ [])
    by (Value.Int y) e = on (y.bits == 1) e
    by Value.Poison e = absurd (cc)
    by (Value.Ptr p) e = absurd (cc)
leads_listed c w (Terminator.Switch arg default cases) label is = by (arg_value c.code w.values arg) is
  where
    by : (v : Value) → switch c.code v default cases ≡ GoTo label
        → IsListed label (default ∷ map (λ (k : Case). k.target) cases)
    by (Value.Int y) e =
        subst (λ (l : ℕ). IsListed l (default ∷ map (λ (k : Case). k.target) cases))
        (sym (same_label (target_of c.code y default cases) label e)) (target_listed c.code y default cases)
    by Value.Poison e = absurd (cc)
    by (Value.Ptr p) e = absurd (cc)
leads_listed c w (Terminator.Ret None) label is = absurd (cc)
leads_listed c w (Terminator.Ret (Some arg)) label is = absurd (cc)
leads_listed c w Terminator.Unreachable label is = absurd (cc)

-- where a terminator stands, the block ends
record IsEndOf (f : Function) (block at : ℕ) (t : Terminator) : Type 0 where
  whole : Block
  there : slice_get f.blocks block ≡ Some whole
  last : at ≡ length whole.instrs
  term : whole.term ≡ t

end_there : (f : Function) (block at : ℕ) (t : Terminator) → fetch f block at ≡ AtTerm t → IsEndOf f block at t
end_there f block at t is = by (slice_get f.blocks block) refl is
  where
    at_end : (b : Block) → slice_get f.blocks block ≡ Some b → (o : Option Instr) (last : Bool)
        → (at == length b.instrs) ≡ last → fetch_or o last b.term ≡ AtTerm t → IsEndOf f block at t
    at_end b eb (Some i) last el h = absurd (cc)
    at_end b eb None true el h =
        let same : b.term ≡ t = cc in
        record { whole = b; there = eb; last = equal_numbers at (length b.instrs) el; term = same }
    at_end b eb None false el h = absurd (cc)

    by : (o : Option Block) → slice_get f.blocks block ≡ o → fetch_in o at ≡ AtTerm t → IsEndOf f block at t
    by None eo h = absurd (cc)
    by (Some b) eo h = at_end b eo (slice_get b.instrs at) (at == length b.instrs) refl h

-- ---- calls of two intrinsics

free_is : (j : Intrinsic) → same_intrinsic Intrinsic.CoroFree j ≡ true → j ≡ Intrinsic.CoroFree
free_is Intrinsic.CoroFree h = refl
free_is _ h = absurd (cc)

destroy_is : (j : Intrinsic) → same_intrinsic Intrinsic.CoroDestroy j ≡ true → j ≡ Intrinsic.CoroDestroy
destroy_is Intrinsic.CoroDestroy h = refl
destroy_is _ h = absurd (cc)

-- such a call does the coro action
frees_act : (c : Context) (w : Work) (i : Instr) → is_free i ≡ true
    → (args : List Arg) × (result : Option ℕ) × (action_of c w (AtInstr i) ≡ Coro Intrinsic.CoroFree args result)
frees_act c w (Instr.Call result must_tail ty (Callee.Intrinsic j) args) h = (
  args,
  result,
  ap (λ (k : Intrinsic). action_of c w (AtInstr (Instr.Call result must_tail ty (Callee.Intrinsic k)
      args))) (free_is j h),
)
frees_act c w _ h = absurd (cc)

destroys_act : (c : Context) (w : Work) (i : Instr) → is_call_of Intrinsic.CoroDestroy i ≡ true
    → (args : List Arg) × (result : Option ℕ) × (action_of c w (AtInstr i) ≡ Coro Intrinsic.CoroDestroy args result)
destroys_act c w (Instr.Call result must_tail ty (Callee.Intrinsic j) args) h = (
  args,
  result,
  ap (λ (k : Intrinsic). action_of c w (AtInstr (Instr.Call result must_tail ty (Callee.Intrinsic k)
      args))) (destroy_is j h),
)
destroys_act c w _ h = absurd (cc)

lit : (b : Bool) → (b ≡ true → ⊥) → b ≡ false
lit true never = absurd (never refl)
lit false never = refl

module _ (g : FramedGiven) where
  abbrev m : Module
  m = g.given.code

  abbrev ToFree : State → Type 0
  ToFree s = DestroysAreToFree m s

  abbrev Keeps : Result State Cause → Type 0
  Keeps (Err cause) = Unit {0}
  Keeps (Ok s) = ToFree s

  -- no coro.free stands at the topmost place, nor a coro.destroy
  abbrev Calm : State → Type 0
  Calm s =
      (i : Instr) → slice_get (instrs_of (function_of g.given s) s.top.block) s.top.at ≡ Some i → is_free i ≡ false

  abbrev NoDestroy : State → Type 0
  NoDestroy s =
      (i : Instr) → slice_get (instrs_of (function_of g.given s) s.top.block) s.top.at ≡ Some i
      → is_call_of Intrinsic.CoroDestroy i ≡ false

  -- ---- the topmost activation goes on

  further_fine : (s u : State) → StaysReleased s.instances u.instances → GoesFurther s.top u.top → u.below ≡ s.below
      → Calm s → ToFree s → ToFree u
  further_fine s u stays goes below calm h =
      subst (λ (bs : List Activation). AreToFree m u.instances (u.top ∷ bs)) (sym below)
      (top_changed m u.instances s.top u.top s.below (has_further m u.instances s.top u.top goes calm)
      (all_over m s.instances u.instances stays (s.top ∷ s.below) h))

  put_fine : (s u : State) → StaysReleased s.instances u.instances → StaysPut s.top u.top → u.below ≡ s.below
      → ToFree s → ToFree u
  put_fine s u stays put below h =
      subst (λ (bs : List Activation). AreToFree m u.instances (u.top ∷ bs)) (sym below)
      (top_changed m u.instances s.top u.top s.below (has_put m u.instances s.top u.top put)
      (all_over m s.instances u.instances stays (s.top ∷ s.below) h))

  -- another one, where the old one has no instance
  new_fine : (s u : State) → StaysReleased s.instances u.instances → s.top.instance ≡ None → u.below ≡ s.below
      → ToFree s → ToFree u
  new_fine s u stays none below h =
      subst (λ (bs : List Activation). AreToFree m u.instances (u.top ∷ bs)) (sym below)
      (top_changed m u.instances s.top u.top s.below (λ k. absurd (no_some s.top.instance none k.number k.own))
      (all_over m s.instances u.instances stays (s.top ∷ s.below) h))
    where
      no_some : (o : Option ℕ) → o ≡ None → (n : ℕ) → o ≡ Some n → ⊥
      no_some None e n f = cc
      no_some (Some k) e n f = cc

  onward : (s : State) → GoesFurther s.top (next s).top
  onward s = record { func = refl; block = refl; at = refl; mode = refl; instance = refl }

  gives_fine : (s : State) (result : Option ℕ) (v : Value) → Calm s → ToFree s → ToFree (gives s result v)
  gives_fine s result v calm h =
      further_fine s (gives s result v) (stay_themselves s.instances)
      (record { func = refl; block = refl; at = refl; mode = refl; instance = refl }) refl calm h

  next_fine : (s : State) → Calm s → ToFree s → ToFree (next s)
  next_fine s calm h = further_fine s (next s) (stay_themselves s.instances) (onward s) refl calm h

  -- ---- calls

  -- what stands behind an instruction that destroys nothing stands behind no coro.destroy
  not_behind : (s : State) → NoDestroy s
      → IsBehindDestroy (function_of g.given s) (record s.top { at = s.top.at + 1 }) → ⊥
  not_behind s none k =
      no_both (is_call_of Intrinsic.CoroDestroy k.instr)
      (none k.instr (ap (slice_get (instrs_of (function_of g.given s) s.top.block)) (one s.top.at k.at k.behind) ∙ k.there))
      k.destroys
    where
      one : (a b : ℕ) → a + 1 ≡ b + 1 → a ≡ b
      one a b e = omega (arith, e)

  push_fine : (s : State) (a : Activation) (xs : List Instance) → StaysReleased s.instances xs
      → (IsBehindDestroy (function_of g.given s) (record s.top { at = s.top.at + 1 }) → HasToFree m xs a) → Calm s
      → ToFree s → AreToFree m xs (a ∷ record s.top { at = s.top.at + 1 } ∷ s.below)
  push_fine s a xs stays new calm h = (
    new,
    top_changed m xs s.top (record s.top { at = s.top.at + 1 }) s.below
        (has_further m xs s.top (record s.top { at = s.top.at + 1 })
        (record { func = refl; block = refl; at = refl; mode = refl; instance = refl }) calm)
        (all_over m s.instances xs stays (s.top ∷ s.below) h),
  )

  -- ---- slots of an activation that enters a label

  entered_has : (xs : List Instance) (a c : Activation) (from label : ℕ) → a.mode ≡ Mode.Entering from label
      → c.func ≡ a.func → c.instance ≡ a.instance → c.mode ≡ Mode.Entering from label → HasToFree m xs a
      → HasToFree m xs c
  entered_has xs a c from label mode func instance other h = record {
    number = h.number;
    instance = h.instance;
    own = instance ∙ h.own;
    there = h.there;
    frees = subst (λ (n : ℕ). IsToFree (function_at m n) h.instance c) (sym func) (by h.frees);
  }
    where
      by : IsToFree (function_at m a.func) h.instance a → IsToFree (function_at m a.func) h.instance c
      by (Released is) = Released is
      by (Unfreed way none never) = absurd (never from label mode)
      by (Entering f l is way) = Entering f l (other ∙ (sym mode ∙ is)) way

  same_entered : (f l from label : ℕ) → Mode.Entering f l ≡ Mode.Entering from label → l ≡ label
  same_entered f l from label e = cc

  label_has : (xs : List Instance) (a c : Activation) (from label : ℕ) → a.mode ≡ Mode.Entering from label
      → c.func ≡ a.func → c.instance ≡ a.instance → c.mode ≡ Mode.Resumed
      → c.block ≡ position_of (function_at m a.func) label → c.at ≡ 0 → HasToFree m xs a → HasToFree m xs c
  label_has xs a c from label mode func instance other block at h = record {
    number = h.number;
    instance = h.instance;
    own = instance ∙ h.own;
    there = h.there;
    frees = subst (λ (n : ℕ). IsToFree (function_at m n) h.instance c) (sym func) (by h.frees);
  }
    where
      never : (from label : ℕ) → Mode.Resumed ≡ Mode.Entering from label → ⊥
      never from label e = cc

      by : IsToFree (function_at m a.func) h.instance a → IsToFree (function_at m a.func) h.instance c
      by (Released is) = Released is
      by (Unfreed way none never) = absurd (never from label mode)
      by (Entering f l is way) =
          Unfreed
          (subst (IsOn Way.Unfreed (function_at m a.func))
          (ap (position_of (function_at m a.func)) (same_entered f l from label (sym is ∙ mode)) ∙ sym block) way)
          (λ k i lt there. absurd (none k (subst (λ (n : ℕ). k < n) at lt)))
          (λ q r e. never q r (sym other ∙ e))
        where
          none : (k : ℕ) → k < 0 → ⊥
          none k lt = omega (arith, lt)

  after_fine : (s u : State) (from label : ℕ) (o : Option Point) → s.top.mode ≡ Mode.Entering from label
      → u.instances ≡ s.instances → u.below ≡ s.below → u.top.func ≡ s.top.func → u.top.instance ≡ s.top.instance
      → ToFree s → ToFree (enter_after g u from label o)
  after_fine s u from label (Some p) mode xs below func instance h =
      subst (λ (q : List Instance × List Activation). AreToFree m q.0 ((enter_after g u from label (Some p)).top ∷ q.1))
      (λ j. (sym xs j, sym below j))
      (top_changed m s.instances s.top (enter_after g u from label (Some p)).top s.below
      (entered_has s.instances s.top (enter_after g u from label (Some p)).top from label mode func instance refl) h)
  after_fine s u from label None mode xs below func instance h =
      subst (λ (q : List Instance × List Activation). AreToFree m q.0 ((enter_after g u from label None).top ∷ q.1))
      (λ j. (sym xs j, sym below j))
      (top_changed m s.instances s.top (enter_after g u from label None).top s.below
      (label_has s.instances s.top (enter_after g u from label None).top from label mode func instance refl
      (ap (λ (n : ℕ). position_of (function_at m n) label) func) refl) h)

  slot_fine : (s : State) (w : Work) (z : Slot) (mode : Mode) → s.top.mode ≡ mode → Calm s → ToFree s
      → ToFree (framed_slot g (settled s w) z mode)
  slot_fine s w z (Mode.Entering from label) is calm h =
      after_fine s (with_slots (settled s w) (z ∷ s.top.slots)) from label
      (alloca_from (function_of g.given s) (s.top.at + 1)) is refl refl refl refl h
  slot_fine s w z Mode.Plain is calm h =
      further_fine s (with_slots (settled s w) (z ∷ s.top.slots)) (stay_themselves s.instances)
      (record { func = refl; block = refl; at = refl; mode = refl; instance = refl }) refl calm h
  slot_fine s w z Mode.Ramp is calm h =
      further_fine s (with_slots (settled s w) (z ∷ s.top.slots)) (stay_themselves s.instances)
      (record { func = refl; block = refl; at = refl; mode = refl; instance = refl }) refl calm h
  slot_fine s w z Mode.Resumed is calm h =
      further_fine s (with_slots (settled s w) (z ∷ s.top.slots)) (stay_themselves s.instances)
      (record { func = refl; block = refl; at = refl; mode = refl; instance = refl }) refl calm h
  slot_fine s w z (Mode.GivenRamp frame) is calm h =
      further_fine s (with_slots (settled s w) (z ∷ s.top.slots)) (stay_themselves s.instances)
      (record { func = refl; block = refl; at = refl; mode = refl; instance = refl }) refl calm h

  -- ---- edges

  edge_has : (xs : List Instance) (a c : Activation) (t : Terminator) (label : ℕ)
      → fetch (function_at m a.func) a.block a.at ≡ AtTerm t → IsListed label (targets t) → c.func ≡ a.func
      → c.instance ≡ a.instance → c.mode ≡ a.mode → c.block ≡ position_of (function_at m a.func) label → c.at ≡ 0
      → HasToFree m xs a → HasToFree m xs c
  edge_has xs a c t label stands listed func instance mode block at h = record {
    number = h.number;
    instance = h.instance;
    own = instance ∙ h.own;
    there = h.there;
    frees = subst (λ (n : ℕ). IsToFree (function_at m n) h.instance c) (sym func) (by h.frees);
  }
    where
      ends : IsEndOf (function_at m a.func) a.block a.at t
      ends = end_there (function_at m a.func) a.block a.at t stands

      none : (k : ℕ) → k < 0 → ⊥
      none k lt = omega (arith, lt)

      by : IsToFree (function_at m a.func) h.instance a → IsToFree (function_at m a.func) h.instance c
      by (Released is) = Released is
      by (Unfreed way calm never) =
          Unfreed
          (subst (IsOn Way.Unfreed (function_at m a.func)) (sym block)
          (way_on (function_at m a.func) a.block ends.whole label ends.there
          (subst (λ (u : Terminator). IsListed label (targets u)) (sym ends.term) listed)
          (λ k i lt there. calm k i (subst (λ (n : ℕ). k < n) (sym ends.last) lt) there) way))
          (λ k i lt there. absurd (none k (subst (λ (n : ℕ). k < n) at lt)))
          (λ q r e. never q r (sym mode ∙ e))
      by (Entering q r is way) = Entering q r (mode ∙ is) way

  enter_fine : (s z : State) (t : Terminator) (label : ℕ)
      → fetch (function_of g.given s) s.top.block s.top.at ≡ AtTerm t → IsListed label (targets t)
      → StaysReleased s.instances z.instances → z.top.func ≡ s.top.func → z.top.instance ≡ s.top.instance
      → z.top.mode ≡ s.top.mode → z.below ≡ s.below → ToFree s → ToFree (enter_block g.given z label)
  enter_fine s z t label stands listed stays func instance mode below h =
      subst (λ (bs : List Activation). AreToFree m z.instances ((enter_block g.given z label).top ∷ bs)) (sym below)
      (top_changed m z.instances s.top (enter_block g.given z label).top s.below
      (edge_has z.instances s.top (enter_block g.given z label).top t label stands listed func instance mode
      (ap (λ (n : ℕ). position_of (function_at m n) label) func) refl)
      (all_over m s.instances z.instances stays (s.top ∷ s.below) h))

  branch_fine : (s : State) (t : Terminator) (label : ℕ)
      → fetch (function_of g.given s) s.top.block s.top.at ≡ AtTerm t → IsListed label (targets t) → (ws : List Window)
      → ToFree s → Keeps (branch_leaving g.given s label ws)
  branch_fine s t label stands listed [] h =
      enter_fine s s t label stands listed (stay_themselves s.instances) refl refl refl refl h
  branch_fine s t label stands listed (w ∷ ws) h = by (own_instance s) refl
    where
      on : (i : ℕ) (x : Instance) → slice_get s.instances i ≡ Some x → (c : Bool)
          → Keeps (ok_if c Cause.State
          (enter_block g.given (with_left (with_status s i x Status.Running) false) label))
      on i x there false = tt
      on i x there true =
          enter_fine s (with_left (with_status s i x Status.Running) false) t label stands listed
          (stay_set s.instances i x (record x { status = Status.Running }) there (λ is. is)) refl refl refl refl h

      by : (o : Option (ℕ × Instance)) → own_instance s ≡ o
          → Keeps (and_then (found Cause.State o) (λ (i, x).
          ok_if (list_all (may_leave (length s.below) x) (w ∷ ws)) Cause.State
          (enter_block g.given (with_left (with_status s i x Status.Running) false) label)))
      by None eo = tt
      by (Some (i, x)) eo = on i x (own_number s i x eo).1 (list_all (may_leave (length s.below) x) (w ∷ ws))

  -- ---- begins

  -- instances stay released, and the activations below stay
  abbrev Begun : State → Result State Cause → Type 0
  Begun s (Err cause) = Unit {0}
  Begun s (Ok z) = StaysReleased s.instances z.instances × (z.below ≡ s.below)

  begun_begun : (s z : State) (b start : ℕ) → z.instances ≡ s.instances → z.below ≡ s.below
      → Begun s (Ok (begun g.given z b start))
  begun_begun s z b start same below = (
    subst (λ (xs : List Instance). StaysReleased xs (begun g.given z b start).instances) same
        (stay_more z.instances (new_instance z.top.func b start) _),
    below,
  )

  begin_at_begun : (s : State) (mem : Value) (kind : Kind) → Begun s (begin_at g.given s mem kind)
  begin_at_begun s mem kind = by (own s.world.memory mem (own_frame g.given s).size kind)
    where
      at_block : (memory : List MemoryBlock) (o : Option ℕ)
          → Begun s (and_then (found Cause.Begin o) (λ (b : ℕ). Ok (begun g.given (with_memory s memory) b 0)))
      at_block memory None = tt
      at_block memory (Some b) = begun_begun s (with_memory s memory) b 0 refl refl

      by : (r : Result (List MemoryBlock) Cause) → Begun s (and_then r (λ (memory : List MemoryBlock).
          and_then (found Cause.Begin (block_of mem)) (λ (b : ℕ). Ok (begun g.given (with_memory s memory) b 0))))
      by (Err cause) = tt
      by (Ok memory) = at_block memory (block_of mem)

  given_begun : (s : State) (r : Result State Cause) (result : Option ℕ) (v : Value) → s.top.instance ≡ None
      → Begun s r → ToFree s → Keeps (and_then r (λ (z : State). Ok (gives z result v)))
  given_begun s (Err cause) result v none begun h = tt
  given_begun s (Ok z) result v none begun h = new_fine s (gives z result v) begun.0 none begun.1 h

  begin_fine : (s : State) (result : Option ℕ) (mem : Value) → ToFree s → Keeps (begin g.given s result mem)
  begin_fine s result mem h = by s.top.instance refl
    where
      by : (o : Option ℕ) → s.top.instance ≡ o → Keeps (and_then (ok_if (is_none o) Cause.Begin s) (λ (s : State).
          and_then (begin_at g.given s mem Kind.Allocator) (λ (s : State). Ok (gives s result mem))))
      by None eo =
          given_begun s (begin_at g.given s mem Kind.Allocator) result mem eo (begin_at_begun s mem Kind.Allocator) h
      by (Some i) eo = tt

  given_at_begun : (s : State) (frame : Value) → Begun s (begin_given_at g s frame)
  given_at_begun s (Value.Ptr (Pointer.At b o)) =
      by (has_room g o.bits (own_frame g.given s).size (frame_around g s.instances b o.bits))
    where
      in_frame : (t : Bool) → Begun s (ok_if t Cause.Begin (begun g.given s b o.bits))
      in_frame true = begun_begun s s b o.bits refl refl
      in_frame false = tt

      in_block : (t : Bool) → Begun s (and_then (ok_if t Cause.Begin s)
          (λ (z : State). begin_at g.given z (Value.Ptr (Pointer.At b o)) Kind.Stack))
      in_block true = begin_at_begun s (Value.Ptr (Pointer.At b o)) Kind.Stack
      in_block false = tt

      by : (t : Bool) → Begun s (if t then begin_in_frame g s b o else begin_in_block g s b o)
      by true = in_frame _
      by false = in_block ((o.bits == 0) && has_size s.world.memory b (own_frame g.given s).size)
  given_at_begun s (Value.Ptr Pointer.Null) = tt
  given_at_begun s (Value.Ptr (Pointer.Func f)) = tt
  given_at_begun s Value.Poison = tt
  given_at_begun s (Value.Int n) = tt

  begin_given_fine : (s : State) (result : Option ℕ) (frame : Value) → ToFree s → Keeps (begin_given g s result frame)
  begin_given_fine s result frame h = by s.top.instance refl (are_finished_at s.instances frame)
    where
      by : (o : Option ℕ) → s.top.instance ≡ o → (t : Bool)
          → Keeps (and_then (ok_if (is_none o && t) Cause.Begin s) (λ (s : State).
          and_then (begin_given_at g s frame) (λ (s : State). Ok (gives s result frame))))
      by None eo true = given_begun s (begin_given_at g s frame) result frame eo (given_at_begun s frame) h
      by None eo false = tt
      by (Some i) eo t = tt

  framed_begin_fine : (s : State) (result : Option ℕ) (mem : Value) (mode : Mode) → ToFree s
      → Keeps (framed_begin g s result mem mode)
  framed_begin_fine s result mem (Mode.GivenRamp frame) h = begin_given_fine s result frame h
  framed_begin_fine s result mem Mode.Plain h = begin_fine s result mem h
  framed_begin_fine s result mem Mode.Ramp h = begin_fine s result mem h
  framed_begin_fine s result mem Mode.Resumed h = begin_fine s result mem h
  framed_begin_fine s result mem (Mode.Entering from label) h = begin_fine s result mem h

  -- ---- saves and suspends

  abbrev saved_as : State → Point → Point → Instance → Instance
  saved_as s p q x =
      record x {
        status = Status.Suspended q s.top.values;
        last_save = Some (record { depth = length s.below; save = p });
      }

  save_on : (s : State) (p q : Point) (on : State → State) → ((z : State) → GoesFurther z.top (on z).top)
      → ((z : State) → (on z).instances ≡ z.instances) → ((z : State) → (on z).below ≡ z.below) → Calm s → ToFree s
      → Keeps (and_then (save_for s p q) (λ (z : State). Ok (on z)))
  save_on s p q on further same below calm h = by (own_instance s) refl
    where
      at : (i : ℕ) (x : Instance) → slice_get s.instances i ≡ Some x → (c : Bool)
          → Keeps (and_then (ok_if c Cause.State (with_left (with_instance s i (saved_as s p q x)) true))
          (λ (z : State). Ok (on z)))
      at i x there false = tt
      at i x there true =
          let z = (with_left (with_instance s i (saved_as s p q x)) true) in
          let k = further z in
          further_fine s (on z)
          (subst (StaysReleased s.instances) (sym (same z))
          (stay_set s.instances i x (saved_as s p q x) there (λ is. is)))
          (record { func = k.func; block = k.block; at = k.at; mode = k.mode; instance = k.instance }) (below z) calm h

      by : (o : Option (ℕ × Instance)) → own_instance s ≡ o
          → Keeps (and_then (and_then (found Cause.State o) (λ (i, x). ok_if (not x.freed) Cause.State
          (with_left (with_instance s i (saved_as s p q x)) true))) (λ (z : State). Ok (on z)))
      by None eo = tt
      by (Some (i, x)) eo = at i x (own_number s i x eo).1 (not x.freed)

  save_fine : (s : State) → Calm s → ToFree s → Keeps (save g.given s)
  save_fine s calm h = by (suspend_of (function_of g.given s) (point_of s))
    where
      by : (o : Option Point) → Keeps (and_then (found Cause.State o) (λ (q : Point).
          and_then (save_for s (point_of s) q) (λ (z : State). Ok (next z))))
      by None = tt
      by (Some q) = save_on s (point_of s) q next onward (λ z. refl) (λ z. refl) calm h

  suspend_fine : (s : State) (result : Option ℕ) (x : Operand) → Calm s → ToFree s → Keeps (suspend s result x)
  suspend_fine s result Operand.None calm h =
      save_on s (point_of s) (point_of s) (λ (z : State). gives z result (integer 8 (negsuc 0)))
      (λ z. record { func = refl; block = refl; at = refl; mode = refl; instance = refl }) (λ z. refl) (λ z. refl) calm h
  suspend_fine s result (Operand.Local v) calm h = gives_fine s result (integer 8 (negsuc 0)) calm h
  suspend_fine s result (Operand.Global name) calm h = gives_fine s result (integer 8 (negsuc 0)) calm h
  suspend_fine s result (Operand.Number z) calm h = gives_fine s result (integer 8 (negsuc 0)) calm h
  suspend_fine s result Operand.True calm h = gives_fine s result (integer 8 (negsuc 0)) calm h
  suspend_fine s result Operand.False calm h = gives_fine s result (integer 8 (negsuc 0)) calm h
  suspend_fine s result Operand.Null calm h = gives_fine s result (integer 8 (negsuc 0)) calm h
  suspend_fine s result Operand.Poison calm h = gives_fine s result (integer 8 (negsuc 0)) calm h

  -- ---- coro.free releases the instance

  abbrev numbering_of : ℕ → Instance → ℕ × Instance
  numbering_of i x = (i, x)

  released_has : (s : State) (o : Option (ℕ × Instance)) → own_instance s ≡ o → (c : Activation)
      → c.func ≡ s.top.func → c.instance ≡ s.top.instance → HasToFree m s.instances s.top
      → HasToFree m (change_own s (λ (x : Instance). record x { released = true }) o).instances c
  released_has s None eo c func instance h =
      absurd (no_some (own_instance s) eo
      (ap (option_and_then (numbered s.instances)) h.own ∙ ap (option_map (numbering_of h.number)) h.there))
    where
      no_some : (q : Option (ℕ × Instance)) → q ≡ None → q ≡ Some (h.number, h.instance) → ⊥
      no_some None e f = cc
      no_some (Some p) e f = cc
  released_has s (Some (i, x)) eo c func instance h = record {
    number = i;
    instance = record x { released = true };
    own = instance ∙ (own_number s i x eo).0;
    there = new_there s.instances i x (record x { released = true }) (own_number s i x eo).1;
    frees = Released refl;
  }

  release_stays : (s : State) (o : Option (ℕ × Instance)) → own_instance s ≡ o
      → StaysReleased s.instances (change_own s (λ (x : Instance). record x { released = true }) o).instances
  release_stays s None eo = stay_themselves s.instances
  release_stays s (Some (i, x)) eo =
      stay_set s.instances i x (record x { released = true }) (own_number s i x eo).1 (λ is. refl)

  free_fine : (s : State) (result : Option ℕ) (v : Value) → ToFree s → ToFree (gives (release s) result v)
  free_fine s result v h = by (own_instance s) refl
    where
      by : (o : Option (ℕ × Instance)) → own_instance s ≡ o
          → ToFree (gives (change_own s (λ (x : Instance). record x { released = true }) o) result v)
      by None eo = below s.below h
        where
          below : (bs : List Activation) → AreToFree m s.instances (s.top ∷ bs)
              → AreToFree m s.instances ((gives s result v).top ∷ bs)
          below bs k =
              top_changed m s.instances s.top (gives s result v).top bs
              (λ has. released_has s None eo (gives s result v).top refl refl has) k
      by (Some (i, x)) eo = below s.below h
        where
          below : (bs : List Activation) → AreToFree m s.instances (s.top ∷ bs) → AreToFree m (slice_set s.instances i (record x { released = true })) ((gives (with_instance s i (record x { released = true })) result v).top ∷ bs)
          below [] k = tt
          below (b ∷ bs) k = (
            λ is. released_has s (Some (i, x)) eo (gives (with_instance s i (record x { released = true })) result v).top refl refl (k.0 is),
            all_over m s.instances (slice_set s.instances i (record x { released = true })) (release_stays s (Some (i, x)) eo) (b ∷ bs) k.1,
          )

  -- ---- returns and ends

  -- the same activations, and instances that stay released
  record IsLike (s z : State) : Type 0 where
    top : z.top ≡ s.top
    below : z.below ≡ s.below
    stays : StaysReleased s.instances z.instances

  like_itself : (s : State) → IsLike s s
  like_itself s = record { top = refl; below = refl; stays = stay_themselves s.instances }

  abbrev finished_in : State → ℕ → Instance → State
  finished_in s i x =
      with_memory (with_instance s i (record x { status = Status.Finished })) (without_slots s.world.memory x.slots)

  finish_like : (s : State) → IsLike s (framed_finish s)
  finish_like s = by (own_instance s) refl
    where
      by : (o : Option (ℕ × Instance)) → own_instance s ≡ o
          → IsLike s (disown_given (with_memory (change_own s (λ (x : Instance). record x { status = Status.Finished })
          o) (without_slots s.world.memory (slots_of o))) o)
      by None eo = record { top = refl; below = refl; stays = stay_themselves s.instances }
      by (Some (i, x)) eo = on (is_stack_block (without_slots s.world.memory x.slots) x.block && (x.start == 0))
        where
          set : StaysReleased s.instances (slice_set s.instances i (record x { status = Status.Finished }))
          set = stay_set s.instances i x (record x { status = Status.Finished }) (own_number s i x eo).1 (λ is. is)

          on : (t : Bool) → IsLike s
              (if t then with_memory (finished_in s i x) (disown (without_slots s.world.memory x.slots) x.block) else (finished_in s i x))
          on true = record { top = refl; below = refl; stays = set }
          on false = record { top = refl; below = refl; stays = set }

  -- back in the activation below
  pop_fine : (s u : State) (v : Option Value) (below : List Activation) → StaysReleased s.instances u.instances
      → StaysPut s.top u.top → s.below ≡ below → u.below ≡ s.below → ToFree s → Keeps (pop u v below)
  pop_fine s u v [] stays put is same h = by (outcome_of v)
    where
      by : (r : Result Outcome Cause) → Keeps (and_then r (λ (outcome : Outcome). Ok (record u { outcome = outcome })))
      by (Err cause) = tt
      by (Ok outcome) = put_fine s u stays put same h
  pop_fine s u v (a ∷ below) stays put is same h =
      top_changed m u.instances a (given_back a u.top.result v) below
      (has_put m u.instances a (given_back a u.top.result v)
      (record { func = refl; block = refl; at = refl; mode = refl; instance = refl }))
      (subst (λ (bs : List Activation). AreToFree m u.instances (s.top ∷ bs)) is
      (all_over m s.instances u.instances stays (s.top ∷ s.below) h)).1

  return_fine : (s z : State) (v : Option Value) → IsLike s z → ToFree s → Keeps (return z v)
  return_fine s z v like h =
      pop_fine s (returned z) v z.below like.stays
      (record {
        func = ap (λ (a : Activation). a.func) like.top;
        block = ap (λ (a : Activation). a.block) like.top;
        at = ap (λ (a : Activation). a.at) like.top;
        mode = ap (λ (a : Activation). a.mode) like.top;
        instance = ap (λ (a : Activation). a.instance) like.top;
      }) (sym like.below) like.below h

  like_gives : (s z : State) (result : Option ℕ) (v : Value) → IsLike s z → Calm s → ToFree s
      → ToFree (gives z result v)
  like_gives s z result v like calm h =
      further_fine s (gives z result v) like.stays
      (record {
        func = ap (λ (a : Activation). a.func) like.top;
        block = ap (λ (a : Activation). a.block) like.top;
        at = ap (λ (a : Activation). a.at + 1) like.top;
        mode = ap (λ (a : Activation). a.mode) like.top;
        instance = ap (λ (a : Activation). a.instance) like.top;
      }) like.below calm h

  ended_fine : (s z : State) (result : Option ℕ) (mode : Mode) → IsLike s z → Calm s → ToFree s
      → Keeps (after_end z result mode)
  ended_fine s z result Mode.Resumed like calm h = return_fine s z None like h
  ended_fine s z result Mode.Plain like calm h = like_gives s z result (truth_value false) like calm h
  ended_fine s z result Mode.Ramp like calm h = like_gives s z result (truth_value false) like calm h
  ended_fine s z result (Mode.GivenRamp frame) like calm h = like_gives s z result (truth_value false) like calm h
  ended_fine s z result (Mode.Entering from label) like calm h = like_gives s z result (truth_value false) like calm h

  end_fine : (s : State) (result : Option ℕ) → Calm s → ToFree s → Keeps (end_of s framed_finish result)
  end_fine s result calm h =
      ended_fine s (if s.top.has_left then s else framed_finish s) result s.top.mode (by s.top.has_left) calm h
    where
      by : (t : Bool) → IsLike s (if t then s else framed_finish s)
      by true = like_itself s
      by false = finish_like s

  -- ---- resume, destroy, done, promise

  at_found : (s : State) (p : Value) (i : ℕ) (x : Instance) → instance_at s.instances p ≡ Some (i, x)
      → slice_get s.instances i ≡ Some x
  at_found s (Value.Ptr (Pointer.At b o)) i x is = (found_there (began_at b o.bits) s.instances (i, x) is).0
  at_found s (Value.Ptr Pointer.Null) i x is = absurd (cc)
  at_found s (Value.Ptr (Pointer.Func f)) i x is = absurd (cc)
  at_found s Value.Poison i x is = absurd (cc)
  at_found s (Value.Int n) i x is = absurd (cc)

  record IsAsleep (s : State) (y : Sleeper) : Type 0 where
    there : slice_get s.instances y.number ≡ Some y.instance
    status : y.instance.status ≡ Status.Suspended y.suspend y.values

  Woken : State → Result Sleeper Cause → Type 0
  Woken s (Err cause) = Unit {0}
  Woken s (Ok y) = IsAsleep s y

  asleep : (s : State) (p : Value) → Woken s (sleeper_at s p)
  unfolding Woken
  asleep s p = by (instance_at s.instances p) refl
    where
      by_status : (i : ℕ) (x : Instance) (status : Status) → x.status ≡ status → slice_get s.instances i ≡ Some x
          → Woken s (sleeper_of i x status)
      by_status i x Status.Running es there = tt
      by_status i x Status.Finished es there = tt
      by_status i x (Status.Suspended point values) es there = record { there = there; status = es }

      by : (o : Option (ℕ × Instance)) → instance_at s.instances p ≡ o
          → Woken s (and_then (found Cause.Frame o) (λ (i, x). sleeper_of i x x.status))
      by None eo = tt
      by (Some (i, x)) eo = by_status i x x.status refl (at_found s p i x eo)

  -- the activation that goes on behind a suspend
  abbrev woken : Sleeper → Activation
  woken y =
      resumed y.number y.instance y.suspend (reentry_values (function_at g.given.code y.instance.coroutine)
      (frame_address_of y.instance))

  abbrev running : State → Sleeper → State
  running s y = push (with_status s y.number y.instance Status.Running) (woken y)

  running_stays : (s : State) (y : Sleeper) → IsAsleep s y
      → StaysReleased s.instances (running s y).instances
  running_stays s y k =
      stay_set s.instances y.number y.instance (record y.instance { status = Status.Running }) k.there (λ is. is)

  -- it enters a label from which a path leads to a coro.free
  enters_has : (s : State) (y : Sleeper) (label : ℕ) (o : Option Point) → IsAsleep s y
      → IsOn Way.Unfreed (function_at m y.instance.coroutine)
      (position_of (function_at m y.instance.coroutine) label)
      → HasToFree m (running s y).instances (enter_after g (running s y) y.suspend.block label o).top
  enters_has s y label (Some p) k way = record {
    number = y.number;
    instance = record y.instance { status = Status.Running };
    own = refl;
    there = new_there s.instances y.number y.instance (record y.instance { status = Status.Running }) k.there;
    frees = Entering y.suspend.block label refl way;
  }
  enters_has s y label None k way = record {
    number = y.number;
    instance = record y.instance { status = Status.Running };
    own = refl;
    there = new_there s.instances y.number y.instance (record y.instance { status = Status.Running }) k.there;
    frees = Unfreed way (λ j i lt there. absurd (below j lt)) (λ from l is. never from l is);
  }
    where
      below : (j : ℕ) → j < 0 → ⊥
      below j lt = omega (arith, lt)

      never : (from l : ℕ) → Mode.Resumed ≡ Mode.Entering from l → ⊥
      never from l e = cc

  woken_fine : (s : State) (y : Sleeper) (label : ℕ) (o : Option Point) → IsAsleep s y
      → (IsBehindDestroy (function_of g.given s) (record s.top { at = s.top.at + 1 })
      → HasToFree m (running s y).instances (enter_after g (running s y) y.suspend.block label o).top)
      → Calm s → ToFree s → ToFree (enter_after g (running s y) y.suspend.block label o)
  woken_fine s y label (Some p) k new calm h =
      push_fine s (enter_after g (running s y) y.suspend.block label (Some p)).top (running s y).instances
      (running_stays s y k) new calm h
  woken_fine s y label None k new calm h =
      push_fine s (enter_after g (running s y) y.suspend.block label None).top (running s y).instances
      (running_stays s y k) new calm h

  resume_fine : (s : State) (p : Value) → Calm s → NoDestroy s → ToFree s
      → Keeps (resume g.given (continue_framed g) s p)
  unfolding Woken
  resume_fine s p calm none h = by (sleeper_at s p) (asleep s p)
    where
      on : (y : Sleeper) → IsAsleep s y → (label : ℕ) (t : Bool)
          → Keeps (ok_if t Cause.State (continue_framed g s y.number y.instance y.suspend y.values label))
      on y k label false = tt
      on y k label true =
          woken_fine s y label (alloca_from (function_at g.given.code y.instance.coroutine) 0) k
          (λ is. absurd (not_behind s none is)) calm h

      by : (r : Result Sleeper Cause) → Woken s r → Keeps (and_then r (λ (y : Sleeper).
          ok_if (not (is_final (function_at g.given.code y.instance.coroutine) y.suspend)) Cause.State
          (continue_framed g s y.number y.instance y.suspend y.values
          (resume_label (function_at g.given.code y.instance.coroutine) y.suspend))))
      by (Err cause) k = tt
      by (Ok y) k =
          on y k (resume_label (function_at g.given.code y.instance.coroutine) y.suspend)
          (not (is_final (function_at g.given.code y.instance.coroutine) y.suspend))

  destroy_fine : (s : State) (p : Value) → AreDestroysOnWay m s.instances → Calm s → ToFree s
      → Keeps (destroy g.given (continue_framed g) s p)
  unfolding Woken
  destroy_fine s p ways calm h = by (sleeper_at s p) (asleep s p)
    where
      by : (r : Result Sleeper Cause) → Woken s r → Keeps (and_then r (λ (y : Sleeper).
          Ok (continue_framed g s y.number y.instance y.suspend y.values
          (destroy_label (function_at g.given.code y.instance.coroutine) y.suspend))))
      by (Err cause) k = tt
      by (Ok y) k =
          woken_fine s y (destroy_label (function_at g.given.code y.instance.coroutine) y.suspend)
          (alloca_from (function_at g.given.code y.instance.coroutine) 0) k
          (λ is.
          enters_has s y (destroy_label (function_at g.given.code y.instance.coroutine) y.suspend)
          (alloca_from (function_at g.given.code y.instance.coroutine) 0) k
          (ways y.number y.instance y.suspend y.values k.there k.status)) calm h

  done_fine : (s : State) (result : Option ℕ) (p : Value) → Calm s → ToFree s → Keeps (done_at g.given s result p)
  done_fine s result p calm h = by (sleeper_at s p)
    where
      on : (t : Bool) (v : Value) → Keeps (ok_if t Cause.State (gives s result v))
      on true v = gives_fine s result v calm h
      on false v = tt

      by : (r : Result Sleeper Cause) → Keeps (and_then r (λ (y : Sleeper).
          ok_if (has_final (function_at g.given.code y.instance.coroutine)) Cause.State
          (gives s result (truth_value (is_final (function_at g.given.code y.instance.coroutine) y.suspend)))))
      by (Err cause) = tt
      by (Ok y) =
          on (has_final (function_at g.given.code y.instance.coroutine))
          (truth_value (is_final (function_at g.given.code y.instance.coroutine) y.suspend))

  promise_fine : (s : State) (result : Option ℕ) (r : Result Value Cause) → Calm s → ToFree s
      → Keeps (and_then r (λ (v : Value). Ok (gives s result v)))
  promise_fine s result (Err cause) calm h = tt
  promise_fine s result (Ok v) calm h = gives_fine s result v calm h

  -- ---- deallocation

  let_go_like : (s : State) (p : Value) (o : Option (ℕ × Instance)) → instance_at s.instances p ≡ o
      → IsLike s (if_let_go s o)
  let_go_like s p None eo = like_itself s
  let_go_like s p (Some (i, x)) eo = by (may_be_freed x)
    where
      by : (t : Bool) → IsLike s (if t then let_go s i x else s)
      by true = record {
        top = refl;
        below = refl;
        stays = stay_set s.instances i x (record x { freed = true }) (at_found s p i x eo) (λ is. is);
      }
      by false = like_itself s

  deallocate_fine : (s : State) (p : Value) → Calm s → ToFree s → Keeps (deallocate s p)
  deallocate_fine s p calm h =
      by (if_let_go s (instance_at s.instances p)) (let_go_like s p (instance_at s.instances p) refl)
    where
      on : (z : State) → IsLike s z → (r : Result (List MemoryBlock) Cause)
          → Keeps (and_then r (λ (memory : List MemoryBlock). Ok (next (with_memory z memory))))
      on z like (Err cause) = tt
      on z like (Ok memory) =
          further_fine s (next (with_memory z memory)) like.stays
          (record {
            func = ap (λ (a : Activation). a.func) like.top;
            block = ap (λ (a : Activation). a.block) like.top;
            at = ap (λ (a : Activation). a.at + 1) like.top;
            mode = ap (λ (a : Activation). a.mode) like.top;
            instance = ap (λ (a : Activation). a.instance) like.top;
          }) like.below calm h

      by : (z : State) → IsLike s z → Keeps (and_then (deallocated z.world.memory p)
          (λ (memory : List MemoryBlock). Ok (next (with_memory z memory))))
      by z like = on z like (deallocated z.world.memory p)

  -- ---- actions

  coro_fine : (s : State) (i : Intrinsic) (args : List Arg) (vs : List Value) (result : Option ℕ)
      → AreDestroysOnWay m s.instances → ((i ≡ Intrinsic.CoroFree → ⊥) → Calm s)
      → ((i ≡ Intrinsic.CoroDestroy → ⊥) → NoDestroy s) → ToFree s → Keeps (framed_coro g s i args vs result)
  coro_fine s Intrinsic.CoroId args vs result ways calm none h = next_fine s (calm (λ e. cc)) h
  coro_fine s Intrinsic.CoroSizeI32 args vs result ways calm none h = gives_fine s result _ (calm (λ e. cc)) h
  coro_fine s Intrinsic.CoroSizeI64 args vs result ways calm none h = gives_fine s result _ (calm (λ e. cc)) h
  coro_fine s Intrinsic.CoroAlignI32 args vs result ways calm none h = gives_fine s result _ (calm (λ e. cc)) h
  coro_fine s Intrinsic.CoroAlignI64 args vs result ways calm none h = gives_fine s result _ (calm (λ e. cc)) h
  coro_fine s Intrinsic.CoroAlloc args vs result ways calm none h = gives_fine s result _ (calm (λ e. cc)) h
  coro_fine s Intrinsic.CoroBegin args vs result ways calm none h =
      framed_begin_fine s result (nth vs 1) s.top.mode h
  coro_fine s Intrinsic.CoroFree args vs result ways calm none h = free_fine s result _ h
  coro_fine s Intrinsic.CoroFrame args vs result ways calm none h = gives_fine s result _ (calm (λ e. cc)) h
  coro_fine s Intrinsic.CoroSave args vs result ways calm none h = save_fine s (calm (λ e. cc)) h
  coro_fine s Intrinsic.CoroSuspend args vs result ways calm none h =
      suspend_fine s result (operand_at args 0) (calm (λ e. cc)) h
  coro_fine s Intrinsic.CoroEnd args vs result ways calm none h = end_fine s result (calm (λ e. cc)) h
  coro_fine s Intrinsic.CoroResume args vs result ways calm none h =
      resume_fine s (nth vs 0) (calm (λ e. cc)) (none (λ e. cc)) h
  coro_fine s Intrinsic.CoroDestroy args vs result ways calm none h =
      destroy_fine s (nth vs 0) ways (calm (λ e. cc)) h
  coro_fine s Intrinsic.CoroDone args vs result ways calm none h =
      done_fine s result (nth vs 0) (calm (λ e. cc)) h
  coro_fine s Intrinsic.CoroPromise args vs result ways calm none h =
      promise_fine s result (framed_promise g s (nth vs 0) (operand_at args 2)) (calm (λ e. cc)) h
  coro_fine s Intrinsic.LifetimeStart args vs result ways calm none h = next_fine s (calm (λ e. cc)) h
  coro_fine s Intrinsic.LifetimeEnd args vs result ways calm none h = next_fine s (calm (λ e. cc)) h
  coro_fine s Intrinsic.MemcpyI64 args vs result ways calm none h = next_fine s (calm (λ e. cc)) h
  coro_fine s Intrinsic.MemcpyI32 args vs result ways calm none h = next_fine s (calm (λ e. cc)) h

  module _ (s : State) (ways : AreDestroysOnWay g.given.code s.instances) (h : ToFree s) where
    abbrev here : Fetched
    here = fetch (function_of g.given s) s.top.block s.top.at

    abbrev acts : Action
    acts = action_of (framed_context g s) (work_of s) here

    -- the action of what stands there
    act_there : (i : Instr) → slice_get (instrs_of (function_of g.given s) s.top.block) s.top.at ≡ Some i
        → acts ≡ action_of (framed_context g s) (work_of s) (AtInstr i)
    act_there i there =
        ap (action_of (framed_context g s) (work_of s)) (fetched (function_of g.given s) s.top.block s.top.at i there)

    calm_by : ((args : List Arg) (result : Option ℕ) → acts ≡ Coro Intrinsic.CoroFree args result → ⊥) → Calm s
    calm_by never i there =
        lit (is_free i) (λ is.
        let k = frees_act (framed_context g s) (work_of s) i is in
        never k.0 k.1 (act_there i there ∙ k.2))

    none_by : ((args : List Arg) (result : Option ℕ) → acts ≡ Coro Intrinsic.CoroDestroy args result → ⊥) → NoDestroy s
    none_by never i there =
        lit (is_call_of Intrinsic.CoroDestroy i) (λ is.
        let k = destroys_act (framed_context g s) (work_of s) i is in
        never k.0 k.1 (act_there i there ∙ k.2))

    coro_by : (i : Intrinsic) (args : List Arg) (result : Option ℕ) → acts ≡ Coro i args result
        → Keeps (framed_coro g s i args (arg_values g.given.code s.top.values args) result)
    coro_by i args result is =
        coro_fine s i args (arg_values g.given.code s.top.values args) result ways
        (λ ne. calm_by (λ bs r to. ne (same i Intrinsic.CoroFree args bs result r (sym is ∙ to))))
        (λ ne. none_by (λ bs r to. ne (same i Intrinsic.CoroDestroy args bs result r (sym is ∙ to)))) h
      where
        same : (a b : Intrinsic) (p q : List Arg) (r t : Option ℕ) → Coro a p r ≡ Coro b q t → a ≡ b
        same a b p q r t e = cc

    -- a branch comes of a terminator
    term_by : (label : ℕ) → acts ≡ GoTo label → (t : Terminator) × (here ≡ AtTerm t) × IsListed label (targets t)
    term_by label to =
        let k = goto_there (framed_context g s) (work_of s) here label to in (
          k.0,
          k.1,
          leads_listed (framed_context g s) (work_of s) k.0 label
              (ap (action_of (framed_context g s) (work_of s)) (sym k.1) ∙ to),
        )

    act_fine : (a : Action) → acts ≡ a → Keeps (framed_act g s a)
    act_fine (Done w) is =
        further_fine s (settled s w) (stay_themselves s.instances)
        (record { func = refl; block = refl; at = refl; mode = refl; instance = refl }) refl
        (calm_by (λ bs r to. let never = sym is ∙ to in cc)) h
    act_fine (NewSlot w z) is =
        slot_fine s w z s.top.mode refl (calm_by (λ bs r to. let never = sym is ∙ to in cc)) h
    act_fine (Enter func args result must_tail) is =
        push_fine s (called g.given.code func args result (mode_of (function_at g.given.code func))) s.instances
        (stay_themselves s.instances)
        (λ k. absurd (not_behind s (none_by (λ bs r to. let never = sym is ∙ to in cc)) k))
        (calm_by (λ bs r to. let never = sym is ∙ to in cc)) h
    act_fine (Coro i args result) is = coro_by i args result is
    act_fine (Deallocate p) is = deallocate_fine s p (calm_by (λ bs r to. let never = sym is ∙ to in cc)) h
    act_fine (GoTo label) is =
        let k = term_by label is in
        branch_fine s k.0 label k.1 k.2 (left_windows g.given s label) h
    act_fine (Return v) is = return_fine s s v (like_itself s) h
    act_fine (Stuck cause) is = tt

    acted : Keeps (framed_act g s acts)
    acted = act_fine acts refl

    named : (i : Instr) → here ≡ AtInstr i → is_free i ≡ false → is_call_of Intrinsic.CoroDestroy i ≡ false
        → (result : Option ℕ) (vs : List Value) (o : Option ℕ) → Keeps (framed_act g s (action_of (framed_context g s)
        (work_of s) (AtInstr i)))
        → Keeps (unwrap_or (enter_given g s result vs o)
        (framed_act g s (action_of (framed_context g s) (work_of s) (AtInstr i))))
    named i is free destroy result vs None k = k
    named i is free destroy result vs (Some func) k =
        push_fine s (called g.given.code func vs result (Mode.GivenRamp (last_value vs))) s.instances
        (stay_themselves s.instances) (λ b. absurd (not_behind s (λ j at. one j at (is_call_of Intrinsic.CoroDestroy) destroy) b))
        (λ j at. one j at is_free free) h
      where
        one : (j : Instr) → slice_get (instrs_of (function_of g.given s) s.top.block) s.top.at ≡ Some j
            → (test : Instr → Bool) → test i ≡ false → test j ≡ false
        one j at test none =
            let same : i ≡ j
            = same_some i j (sym (instr_there (function_of g.given s) s.top.block s.top.at i is) ∙ at) in
            ap test (sym same) ∙ none

    acted_at : (x : Fetched) → here ≡ x → Keeps (framed_act g s (action_of (framed_context g s) (work_of s) x))
    acted_at x is = subst (λ (y : Fetched). Keeps (framed_act g s (action_of (framed_context g s) (work_of s) y))) is acted

    next_keeps : (x : Fetched) → here ≡ x → Keeps (framed_next g s x)
    next_keeps Nowhere is = acted_at Nowhere is
    next_keeps (AtTerm t) is = acted_at (AtTerm t) is
    next_keeps (AtInstr (Instr.Call result must_tail ty (Callee.Named name) args)) is =
        named (Instr.Call result must_tail ty (Callee.Named name) args) is refl refl result
        (arg_values g.given.code s.top.values args) (given_ramp g.given.code name)
        (acted_at (AtInstr (Instr.Call result must_tail ty (Callee.Named name) args)) is)
    next_keeps (AtInstr (Instr.Call result must_tail ty (Callee.Allocator a) args)) is =
        acted_at (AtInstr (Instr.Call result must_tail ty (Callee.Allocator a) args)) is
    next_keeps (AtInstr (Instr.Call result must_tail ty (Callee.Intrinsic i) args)) is =
        acted_at (AtInstr (Instr.Call result must_tail ty (Callee.Intrinsic i) args)) is
    next_keeps (AtInstr (Instr.Call result must_tail ty (Callee.Local v) args)) is =
        acted_at (AtInstr (Instr.Call result must_tail ty (Callee.Local v) args)) is
    next_keeps (AtInstr (Instr.Binary name op flags ty a b)) is =
        acted_at (AtInstr (Instr.Binary name op flags ty a b)) is
    next_keeps (AtInstr (Instr.Icmp name pred ty a b)) is = acted_at (AtInstr (Instr.Icmp name pred ty a b)) is
    next_keeps (AtInstr (Instr.Select name x a b)) is = acted_at (AtInstr (Instr.Select name x a b)) is
    next_keeps (AtInstr (Instr.Cast name op nneg arg to)) is = acted_at (AtInstr (Instr.Cast name op nneg arg to)) is
    next_keeps (AtInstr (Instr.Alloca name ty align)) is = acted_at (AtInstr (Instr.Alloca name ty align)) is
    next_keeps (AtInstr (Instr.Load name ty p align)) is = acted_at (AtInstr (Instr.Load name ty p align)) is
    next_keeps (AtInstr (Instr.Store arg p align)) is = acted_at (AtInstr (Instr.Store arg p align)) is
    next_keeps (AtInstr (Instr.Gep name inbounds ty base indices)) is =
        acted_at (AtInstr (Instr.Gep name inbounds ty base indices)) is

    undefined_keeps : (r : Result State Cause) → Keeps r → ToFree (or_undefined g.given s r)
    undefined_keeps (Err cause) k = h
    undefined_keeps (Ok u) k = k

    advance_fine : (o : Outcome) → ToFree (framed_advance g s o)
    advance_fine Outcome.Running = undefined_keeps (framed_next g s here) (next_keeps here refl)
    advance_fine (Outcome.Returned v) = h
    advance_fine (Outcome.Undefined cause place) = h

    pub destroys_stay : ToFree (framed_step g s)
    destroys_stay = advance_fine s.outcome

pub destroys_first : (m : Module) (entry : ℕ) (args : List Word) → DestroysAreToFree m (first_state m entry args)
destroys_first m entry args = tt
