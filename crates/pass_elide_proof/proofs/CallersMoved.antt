-- Over edges, at allocas, at saves and at the end in a ramp it stays known what activations have by their calls.
use Rattle.std.proofs.Common.{◌≡◌, ◌++◌, ◌∙◌, ◌∷◌, ◌&&◌, ◌==◌, [], ap, Bool, Err, false, length, List, not, Ok, Option, refl, Result, subst, sym, true, ℕ, if◌then◌else◌}
use Rattle.std.specs.List.{list_all}
use Rattle.std.specs.Prelude.{None, Some, negsuc, slice_get}
use Rattle.pass_elide_proof.proofs.CallersEdges.{phis_same, status_was, there}
use Rattle.pass_elide_proof.proofs.CallersInstr.{was_itself}
use Rattle.pass_elide_proof.proofs.CallersKnown.{KnownIf, next_known, or_known}
use Rattle.pass_elide_proof.proofs.CallersLinks.{calls_on}
use Rattle.pass_elide_proof.proofs.CallersStay.{top_known}
use Rattle.pass_elide_proof.proofs.CallersValues.{result_elsewhere}
use Rattle.pass_elide_proof.proofs.LeftWindows.{own_there}
use Rattle.pass_elide_proof.proofs.PhiValues.{phis_elsewhere}
use Rattle.pass_proofs.proofs.run_laws.transfer.Sets.{set_elsewhere}
use Rattle.pass_elide_proof.specs.Callers.{MaySaveAt, StandsAtEnd, StandsAtInstr, WasBefore, saves_by}
use Rattle.pass_elide_proof.specs.CallersStack.{AreCalled}
use Rattle.pass_elide_proof.specs.Edges.{phis_at}
use Rattle.pass_elide_proof.specs.Elision.{Elision, elided, elided_code, function_in, function_in_elided}
use Rattle.pass_elide_proof.specs.Match.{instance_in}
use Rattle.pass_proofs.specs.ir_base.declared.cause.Cause.{Cause}
use Rattle.pass_proofs.specs.ir_model.Layout.{size_of}
use Rattle.pass_proofs.specs.ir_model.Names.{position_of}
use Rattle.pass_proofs.specs.ir_model.Ty.{Ty}
use Rattle.pass_proofs.specs.ir_model.declared.instr.Instr.{Instr}
use Rattle.pass_proofs.specs.ir_model.declared.instr.Phi.{Phi}
use Rattle.pass_proofs.specs.ir_model.declared.module.Function.{Function}
use Rattle.pass_proofs.specs.ir_model.declared.operand.Arg.{Arg}
use Rattle.pass_proofs.specs.ir_model.declared.operand.Callee.{Callee}
use Rattle.pass_proofs.specs.ir_model.declared.operand.Intrinsic.{Intrinsic}
use Rattle.pass_proofs.specs.ir_model.declared.operand.Operand.{Operand}
use Rattle.pass_proofs.specs.ir_paths.Windows.{operand_at, suspend_of}
use Rattle.pass_proofs.specs.ir_paths.declared.point.Point.{Point}
use Rattle.pass_proofs.specs.ir_paths.declared.point.Window.{Window}
use Rattle.pass_proofs.specs.run_framed.Framed.{alloca_from, begin_name, disown_given, enter_after, framed_act, framed_advance, framed_context, framed_finish, framed_next, framed_slot, framed_step, is_stack_block}
use Rattle.pass_proofs.specs.run_laws.changed.Changed.{Each}
use Rattle.pass_proofs.specs.run_laws.memory.Standing.{blank_block}
use Rattle.pass_proofs.specs.run_memory.Memory.{disown, end}
use Rattle.pass_proofs.specs.run_memory.declared.block.MemoryBlock.{MemoryBlock}
use Rattle.pass_proofs.specs.run_memory.declared.pointer.Value.{Value}
use Rattle.pass_proofs.specs.run_source.Source.{after_end, branch_leaving, change_own, enter_block, left_windows, may_leave, save, save_for, slots_of, suspend}
use Rattle.pass_proofs.specs.run_source.State.{function_of, gives, is_finished, is_suspended, next, or_undefined, own_instance, point_of, settled, with_instance, with_left, with_memory, with_slots, with_status, work_of}
use Rattle.pass_proofs.specs.run_source.declared.state.Activation.{Activation}
use Rattle.pass_proofs.specs.run_source.declared.state.Instance.{Instance}
use Rattle.pass_proofs.specs.run_source.declared.state.Mode.{Mode}
use Rattle.pass_proofs.specs.run_source.declared.state.State.{State}
use Rattle.pass_proofs.specs.run_source.declared.state.Status.{Status}
use Rattle.pass_proofs.specs.run_step.Results.{and_then, found, ok_if}
use Rattle.pass_proofs.specs.run_step.Step.{Action, AtInstr, Context, Fetched, NewSlot, Stuck, Work, alloca_kind, has_markers, is_alignment, label_of, phis_of, set_memory, set_value, without_slots}
use Rattle.pass_proofs.specs.run_step.Values.{integer, pointer_to, truth_value, value_in}
use Rattle.pass_proofs.specs.run_step.declared.world.Slot.{Slot}

-- ---- edges

module _ (e : Elision) (t : State) (label : ℕ) (k : StandsAtEnd e t label) (h : AreCalled e t)
    (phis : (v : ℕ) → begin_name (function_in e t.top.func) ≡ Some v → (block : ℕ)
    → Each (λ (x : Phi). x.result ≡ v → ⊥) (phis_at (function_in e t.top.func) block)) where
  abbrev g : Function
  g = function_in_elided e t.top.func

  entered_values : (v : ℕ) → begin_name (function_in e t.top.func) ≡ Some v
      → value_in (enter_block (elided e).given t label).top.values v ≡ value_in t.top.values v
  entered_values v is =
      phis_elsewhere (elided_code e) t.top.values (label_of (slice_get g.blocks t.top.block))
      (phis_of (slice_get g.blocks (position_of g label))) t.top.values v
      (subst (λ (ps : List Phi). Each (λ (x : Phi). x.result ≡ v → ⊥) ps) (sym (phis_same e t label k
      (position_of g label))) (phis v is (position_of g label)))

  abbrev left : ℕ → Instance → State
  left i x = enter_block (elided e).given (with_left (with_status t i x Status.Running) false) label

  leaves_known : (w : Window) (ws : List Window) → KnownIf e (branch_leaving (elided e).given t label (w ∷ ws))
  leaves_known w ws = on (own_instance t) refl
    where
      suspended : (a b : Bool) → (a && b) ≡ true → a ≡ true
      suspended true b is = refl
      suspended false b is = absurd (cc)

      going : (z : Status) → is_suspended z ≡ true → is_finished z ≡ false
      going Status.Running is = absurd (cc)
      going (Status.Suspended p values) is = refl
      going Status.Finished is = absurd (cc)

      if_may : (i : ℕ) (x : Instance) → own_instance t ≡ Some (i, x) → (b : Bool)
          → list_all (may_leave (length t.below) x) (w ∷ ws) ≡ b → KnownIf e (ok_if b Cause.State (left i x))
      if_may i x own false may = tt
      if_may i x own true may =
          top_known e t h (left i x) refl refl refl refl refl
          (status_was t.instances i x (record x { status = Status.Running }) (own_there t i x own).1 refl refl refl
          (λ is. going x.status (suspended (is_suspended x.status) _
          (suspended (may_leave (length t.below) x w) _ may)))) entered_values

      on : (o : Option (ℕ × Instance)) → own_instance t ≡ o → KnownIf e (and_then (found Cause.State o)
          (λ (y : ℕ × Instance). ok_if (list_all (may_leave (length t.below) y.1) (w ∷ ws)) Cause.State
          (left y.0 y.1)))
      on None own = tt
      on (Some y) own = if_may y.0 y.1 own (list_all (may_leave (length t.below) y.1) (w ∷ ws)) refl

  enters_known : (ws : List Window) → KnownIf e (branch_leaving (elided e).given t label ws)
  enters_known [] =
      top_known e t h (enter_block (elided e).given t label) refl refl refl refl refl (was_itself t.instances)
      entered_values
  enters_known (w ∷ ws) = leaves_known w ws

  pub edges_known : AreCalled e (framed_step (elided e) t)
  edges_known =
      subst (AreCalled e)
      (sym (ap (framed_advance (elided e) t) k.runs
      ∙ (ap (λ (x : Fetched). or_undefined (elided e).given t (framed_next (elided e) t x)) (there e t label k)
      ∙ ap (λ (a : Action). or_undefined (elided e).given t (framed_act (elided e) t a)) k.goes)))
      (or_known e t (branch_leaving (elided e).given t label (left_windows (elided e).given t label)) h
      (enters_known (left_windows (elided e).given t label)))

-- ---- allocas

module _ (e : Elision) (t : State) (at name : ℕ) (ty : Ty) (align : ℕ)
    (k : StandsAtInstr e t at (Instr.Alloca name ty align)) (h : AreCalled e t)
    (apart : begin_name (function_in e t.top.func) ≡ Some name → ⊥) where
  abbrev ctx : Context
  ctx = framed_context (elided e) t

  abbrev grown : List MemoryBlock
  grown = t.world.memory ++ blank_block (size_of ctx.code ty) align (alloca_kind ctx.function) ∷ []

  abbrev work : Bool → Work
  work b =
      set_memory (set_value (work_of t) name (pointer_to (length t.world.memory)))
      (if b then end grown (length t.world.memory) else grown)

  abbrev slot : Slot
  slot = record { alloca = name; block = length t.world.memory }

  abbrev with_slot : Bool → State
  with_slot b = with_slots (settled t (work b)) (slot ∷ t.top.slots)

  others : (v : ℕ) → begin_name (function_in e t.top.func) ≡ Some v
      → value_in (work true).values v ≡ value_in t.top.values v
  others v is =
      set_elsewhere t.top.values name v (pointer_to (length t.world.memory)) (λ same. apart (is ∙ ap Some (sym same)))

  slot_known : (b : Bool) → AreCalled e (with_slot b)
  slot_known b = top_known e t h (with_slot b) refl refl refl refl refl (was_itself t.instances) others

  -- a resumed activation isn't given its frame
  again_known : (b : Bool) (from label : ℕ) → t.top.mode ≡ Mode.Entering from label → (o : Option Point)
      → AreCalled e (enter_after (elided e) (with_slot b) from label o)
  again_known b from label mode None = record {
    calls = calls_on e t.top _ t.below refl
        (λ frame is. absurd (let no : Mode.Entering from label ≡ Mode.GivenRamp frame = sym mode ∙ is in cc)) h.calls;
    begun = (
      record { frame = λ frame n x is. absurd (cc); value = λ frame n v is. absurd (cc) },
      h.begun.1,
    );
  }
  again_known b from label mode (Some p) = record {
    calls = calls_on e t.top _ t.below refl
        (λ frame is. absurd (let no : Mode.Entering from label ≡ Mode.GivenRamp frame = sym mode ∙ is in cc)) h.calls;
    begun = (
      record { frame = λ frame n x is. absurd (cc); value = λ frame n v is. absurd (cc) },
      h.begun.1,
    );
  }

  by_mode : (b : Bool) (m : Mode) → t.top.mode ≡ m
      → AreCalled e (framed_slot (elided e) (settled t (work b)) slot m)
  by_mode b Mode.Plain is = slot_known b
  by_mode b Mode.Ramp is = slot_known b
  by_mode b Mode.Resumed is = slot_known b
  by_mode b (Mode.GivenRamp frame) is = slot_known b
  by_mode b (Mode.Entering from label) is =
      again_known b from label is
      (alloca_from (function_of (elided e).given (settled t (work b))) (settled t (work b)).top.at)

  aligned : (q b : Bool) → KnownIf e (framed_act (elided e) t (if q then NewSlot (work b) slot else Stuck Cause.Align))
  aligned true b = by_mode b t.top.mode refl
  aligned false b = tt

  pub allocas_known : AreCalled e (framed_step (elided e) t)
  allocas_known =
      next_known e t at (Instr.Alloca name ty align) k h (aligned (is_alignment align) (has_markers ctx.function name))

-- ---- saves, and the end in a ramp

module _ (e : Elision) (t : State) (h : AreCalled e t) (at : ℕ) (result : Option ℕ) (must_tail : Bool)
    (ty : Option Ty) (args : List Arg)
    (apart : (v : ℕ) → begin_name (function_in e t.top.func) ≡ Some v → result ≡ Some v → ⊥) where
  abbrev call_by : Intrinsic → Instr
  call_by j = Instr.Call result must_tail ty (Callee.Intrinsic j) args

  abbrev Kept : Intrinsic → Type 0
  Kept j = KnownIf e (framed_next (elided e) t (AtInstr (call_by j)))

  given : (v : Value) → AreCalled e (gives t result v)
  given v =
      top_known e t h (gives t result v) refl refl refl refl refl (was_itself t.instances)
      (λ u is. result_elsewhere t.top.values result v u (apart u is))

  module _ (m : MaySaveAt e t) where
    abbrev asleep : Point → Point → Instance → Instance
    asleep save suspend x =
        record x {
          status = Status.Suspended suspend t.top.values;
          last_save = Some (record { depth = length t.below; save = save });
        }

    abbrev after : Point → Point → ℕ × Instance → State
    after save suspend x = with_left (with_instance t x.0 (asleep save suspend x.1)) true

    was_awake : (save suspend : Point) (x : ℕ × Instance) → own_instance t ≡ Some x → (number : ℕ) (y : Instance)
        → slice_get (after save suspend x).instances number ≡ Some y → WasBefore t.instances number y
    was_awake save suspend x own =
        let own_is = own_there t x.0 x.1 own in
        status_was t.instances x.0 x.1 (asleep save suspend x.1) own_is.1 refl refl refl
        (λ going. m.goes x.1 (ap (instance_in t.instances) own_is.0 ∙ own_is.1))

    saved : (save suspend : Point) (f : State → State)
        → ((x : ℕ × Instance) → own_instance t ≡ Some x → AreCalled e (f (after save suspend x)))
        → KnownIf e (and_then (save_for t save suspend) (λ (z : State). Ok (f z)))
    saved save suspend f further = on (own_instance t) refl
      where
        by : (x : ℕ × Instance) → own_instance t ≡ Some x → (b : Bool)
            → KnownIf e (and_then (ok_if b Cause.State (after save suspend x)) (λ (z : State). Ok (f z)))
        by x own true = further x own
        by x own false = tt

        on : (o : Option (ℕ × Instance)) → own_instance t ≡ o → KnownIf e (and_then (and_then (found Cause.State o)
            (λ (x : ℕ × Instance). ok_if (not x.1.freed) Cause.State (after save suspend x)))
            (λ (z : State). Ok (f z)))
        on None own = tt
        on (Some x) own = by x own (not x.1.freed)

    save_known : KnownIf e (save (elided e).given t)
    save_known = on (found Cause.State (suspend_of (function_of (elided e).given t) (point_of t)))
      where
        on : (r : Result Point Cause) → KnownIf e (and_then r (λ (q : Point). and_then (save_for t (point_of t) q)
            (λ (z : State). Ok (next z))))
        on (Err cause) = tt
        on (Ok q) =
            saved (point_of t) q next
            (λ x own. top_known e t h (next (after (point_of t) q x)) refl refl refl refl refl
            (was_awake (point_of t) q x own) (λ v is. refl))

    suspend_known : (x : Operand) → KnownIf e (suspend t result x)
    suspend_known Operand.None =
        saved (point_of t) (point_of t) (λ z. gives z result (integer 8 (negsuc 0)))
        (λ x own. top_known e t h (gives (after (point_of t) (point_of t) x) result (integer 8 (negsuc 0))) refl refl
        refl refl refl (was_awake (point_of t) (point_of t) x own)
        (λ v is. result_elsewhere t.top.values result (integer 8 (negsuc 0)) v (apart v is)))
    suspend_known (Operand.Local v) = given (integer 8 (negsuc 0))
    suspend_known (Operand.Global n) = given (integer 8 (negsuc 0))
    suspend_known (Operand.Number z) = given (integer 8 (negsuc 0))
    suspend_known Operand.True = given (integer 8 (negsuc 0))
    suspend_known Operand.False = given (integer 8 (negsuc 0))
    suspend_known Operand.Null = given (integer 8 (negsuc 0))
    suspend_known Operand.Poison = given (integer 8 (negsuc 0))

    by_save : (j : Intrinsic) → saves_by j ≡ true → Kept j
    by_save Intrinsic.CoroSave is = save_known
    by_save Intrinsic.CoroSuspend is = suspend_known (operand_at args 0)
    by_save _ is = absurd (cc)

    pub saves_known : (j : Intrinsic) → saves_by j ≡ true
        → StandsAtInstr e t at (Instr.Call result must_tail ty (Callee.Intrinsic j) args)
        → AreCalled e (framed_step (elided e) t)
    saves_known j is k = next_known e t at (call_by j) k h (by_save j is)

  -- ---- the end in a ramp

  abbrev ended : Option (ℕ × Instance) → State
  ended o =
      with_memory (change_own t (λ x. record x { status = Status.Finished }) o)
      (without_slots t.world.memory (slots_of o))

  finished : (z : State) → z.top ≡ t.top → z.below ≡ t.below
      → ((number : ℕ) (y : Instance) → slice_get z.instances number ≡ Some y → WasBefore t.instances number y)
      → (v : Value) → AreCalled e (gives z result v)
  finished z top below was v =
      top_known e t h (gives z result v) below (ap (λ (c : Activation). c.func) top)
      (ap (λ (c : Activation). c.result) top) (ap (λ (c : Activation). c.mode) top)
      (ap (λ (c : Activation). c.instance) top) was
      (λ u is. result_elsewhere z.top.values result v u (apart u is)
      ∙ ap (λ (c : Activation). value_in c.values u) top)

  end_known : (v : Value) → AreCalled e (gives (framed_finish t) result v)
  end_known v = on (own_instance t) refl
    where
      over : (x : ℕ × Instance) → own_instance t ≡ Some x → (number : ℕ) (y : Instance)
          → slice_get (ended (Some x)).instances number ≡ Some y → WasBefore t.instances number y
      over x own =
          status_was t.instances x.0 x.1 (record x.1 { status = Status.Finished }) (own_there t x.0 x.1 own).1 refl
          refl refl (λ going. absurd (cc))

      by : (x : ℕ × Instance) → own_instance t ≡ Some x → (b : Bool)
          → AreCalled e (gives (if b then with_memory (ended (Some x)) (disown (ended (Some x)).world.memory x.1.block)
          else ended (Some x)) result v)
      by x own true =
          finished (with_memory (ended (Some x)) (disown (ended (Some x)).world.memory x.1.block)) refl refl
          (over x own) v
      by x own false = finished (ended (Some x)) refl refl (over x own) v

      on : (o : Option (ℕ × Instance)) → own_instance t ≡ o → AreCalled e (gives (disown_given (ended o) o) result v)
      on None own = finished (ended None) refl refl (was_itself t.instances) v
      on (Some x) own = by x own (is_stack_block (ended (Some x)).world.memory x.1.block && (x.1.start == 0))

  ramp_end : (b : Bool) (mode : Mode) → (mode ≡ Mode.Resumed → ⊥)
      → KnownIf e (after_end (if b then t else framed_finish t) result mode)
  ramp_end b Mode.Resumed ramp = absurd (ramp refl)
  ramp_end true Mode.Plain ramp = given (truth_value false)
  ramp_end true Mode.Ramp ramp = given (truth_value false)
  ramp_end true (Mode.GivenRamp frame) ramp = given (truth_value false)
  ramp_end true (Mode.Entering from label) ramp = given (truth_value false)
  ramp_end false Mode.Plain ramp = end_known (truth_value false)
  ramp_end false Mode.Ramp ramp = end_known (truth_value false)
  ramp_end false (Mode.GivenRamp frame) ramp = end_known (truth_value false)
  ramp_end false (Mode.Entering from label) ramp = end_known (truth_value false)

  pub ramp_ends_known : (t.top.mode ≡ Mode.Resumed → ⊥)
      → StandsAtInstr e t at (Instr.Call result must_tail ty (Callee.Intrinsic Intrinsic.CoroEnd) args)
      → AreCalled e (framed_step (elided e) t)
  ramp_ends_known ramp k =
      next_known e t at (call_by Intrinsic.CoroEnd) k h (ramp_end t.top.has_left t.top.mode ramp)
