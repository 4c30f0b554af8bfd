-- Callers of instances stay on the stack where a coroutine's own call goes on in its function.
use Rattle.std.proofs.Common.{◌≡◌, ◌+◌, ◌∙◌, ◌&&◌, ◌||◌, ◌==◌, ◌∷◌, ◌⊎◌, [], ap, Bool, Err, false, inl, inr, length, List, not, Ok, Option, refl, Result, subst, suc, sym, true, zero, ℕ, if◌then◌else◌}
use Rattle.std.specs.List.{Contains, list_any}
use Rattle.std.specs.Prelude.{None, Some, negsuc, slice_get}
use Rattle.elide_sites.specs.Destroyed.{IsOn, has_at, has_in, is_stop}
use Rattle.elide_sites.specs.Sites.{is_destroy_of}
use Rattle.elide_sites.specs.declared.destroyed.Way.{Way}
use Rattle.pass_elide_proof.proofs.CallersBlocks.{KeepsStacks, changed_keeps, disowned_life, frames_kept, stacks_same}
use Rattle.pass_elide_proof.proofs.CallersEdges.{status_was}
use Rattle.pass_elide_proof.proofs.CallersInstr.{Keep, instr_keeps, next_keeps, was_itself}
use Rattle.pass_elide_proof.proofs.CallersOnward.{goes_onward}
use Rattle.pass_elide_proof.proofs.CallersValues.{result_elsewhere}
use Rattle.pass_elide_proof.proofs.LeftWindows.{own_there}
use Rattle.pass_elide_proof.specs.Callers.{MaySaveAt, StandsAtInstr, WasBefore, gives_only, saves_by}
use Rattle.pass_elide_proof.specs.Elision.{Elision, elided, function_in}
use Rattle.pass_elide_proof.specs.Invariant.{HaveCallers, IsDestroying}
use Rattle.pass_elide_proof.specs.Match.{instance_in}
use Rattle.pass_elide_proof.specs.OwnSlots.{HaveNoSlots}
use Rattle.pass_elide_proof.specs.Places.{instrs_in, instrs_of}
use Rattle.pass_proofs.specs.ir_base.declared.cause.Cause.{Cause}
use Rattle.pass_proofs.specs.ir_model.Names.{function_at}
use Rattle.pass_proofs.specs.ir_model.Ty.{Ty}
use Rattle.pass_proofs.specs.ir_model.declared.instr.Instr.{Instr}
use Rattle.pass_proofs.specs.ir_model.declared.module.Block.{Block}
use Rattle.pass_proofs.specs.ir_model.declared.module.Function.{Function}
use Rattle.pass_proofs.specs.ir_model.declared.operand.Arg.{Arg}
use Rattle.pass_proofs.specs.ir_model.declared.operand.Callee.{Callee}
use Rattle.pass_proofs.specs.ir_model.declared.operand.Intrinsic.{Intrinsic}
use Rattle.pass_proofs.specs.ir_model.declared.operand.Operand.{Operand}
use Rattle.pass_proofs.specs.ir_paths.Windows.{operand_at, suspend_of}
use Rattle.pass_proofs.specs.ir_paths.declared.point.Point.{Point}
use Rattle.pass_proofs.specs.run_framed.Framed.{disown_given, framed_finish, framed_next, framed_promise, framed_step, is_stack_block}
use Rattle.pass_proofs.specs.run_memory.Memory.{disown, disowned}
use Rattle.pass_proofs.specs.run_memory.declared.block.MemoryBlock.{MemoryBlock}
use Rattle.pass_proofs.specs.run_memory.declared.pointer.Value.{Value}
use Rattle.pass_proofs.specs.run_source.Source.{Sleeper, after_end, change_own, done_at, release, save, save_for, sleeper_at, slots_of, suspend}
use Rattle.pass_proofs.specs.run_source.State.{function_of, gives, next, own_instance, point_of, with_instance, with_left, with_memory}
use Rattle.pass_proofs.specs.run_source.declared.state.Activation.{Activation}
use Rattle.pass_proofs.specs.run_source.declared.state.Instance.{Instance}
use Rattle.pass_proofs.specs.run_source.declared.state.Mode.{Mode}
use Rattle.pass_proofs.specs.run_source.declared.state.State.{State}
use Rattle.pass_proofs.specs.run_source.declared.state.Status.{Status}
use Rattle.pass_proofs.specs.run_source_tables.Given.{has_final, is_final}
use Rattle.pass_proofs.specs.run_step.Results.{and_then, found, ok_if}
use Rattle.pass_proofs.specs.run_step.Step.{AtInstr, without_slots}
use Rattle.pass_proofs.specs.run_step.Values.{arg_values, integer, nth, truth_value, value_in}
use Rattle.pass_proofs.specs.run_step.declared.world.Slot.{Slot}

-- ---- results

pub then_keep : {A : Type 0} (e : Elision) (r : Result A Cause) (f : A → Result State Cause)
    → ((a : A) → r ≡ Ok a → Keep e (f a)) → Keep e (and_then r f)
then_keep e (Err cause) f h = tt
then_keep e (Ok a) f h = h a refl

pub if_keep : (e : Elision) (b : Bool) (cause : Cause) (u : State) → HaveCallers e u → Keep e (ok_if b cause u)
if_keep e true cause u h = h
if_keep e false cause u h = tt

module _ (e : Elision) (t : State) (at : ℕ) (j : Intrinsic) (result : Option ℕ) (must_tail : Bool) (ty : Option Ty)
    (args : List Arg) (k : StandsAtInstr e t at (Instr.Call result must_tail ty (Callee.Intrinsic j) args))
    (calm : (v : Option ℕ) → is_destroy_of v (Instr.Call result must_tail ty (Callee.Intrinsic j) args) ≡ false)
    (h : HaveCallers e t) where
  abbrev i : Instr
  i = Instr.Call result must_tail ty (Callee.Intrinsic j) args

  -- it gives a value, and instances change at most in what isn't asked of them
  pub gives_kept : (z : State) → z.top ≡ t.top → z.below ≡ t.below
      → KeepsStacks t.world.memory z.world.memory
      → ((number : ℕ) (y : Instance) → slice_get z.instances number ≡ Some y → WasBefore t.instances number y)
      → (v : Value) → HaveCallers e (gives z result v)
  gives_kept z top below stacks was v =
      instr_keeps e t (gives z result v) at i k calm below was (frames_kept t (gives z result v) stacks)
      (record {
        func = ap (λ (c : Activation). c.func) top;
        block = ap (λ (c : Activation). c.block) top;
        result = ap (λ (c : Activation). c.result) top;
        mode = ap (λ (c : Activation). c.mode) top;
        instance = ap (λ (c : Activation). c.instance) top;
        has_left = ap (λ (c : Activation). c.has_left) top;
      })
      (ap (λ (c : Activation). c.at + 1) top)
      (λ u ne. result_elsewhere z.top.values result v u ne ∙ ap (λ (c : Activation). value_in c.values u) top)
      (λ s has. subst (λ (c : Activation). Contains c.slots s) (sym top) has) h

  pub gives_keep : (v : Value) → HaveCallers e (gives t result v)
  gives_keep v = gives_kept t refl refl (stacks_same t.world.memory) (was_itself t.instances) v

  pub nexts_keep : HaveCallers e (next t)
  nexts_keep =
      instr_keeps e t (next t) at i k calm refl (was_itself t.instances)
      (frames_kept t (next t) (stacks_same t.world.memory))
      (record { func = refl; block = refl; result = refl; mode = refl; instance = refl; has_left = refl }) refl
      (λ u ne. refl) (λ s has. has) h

  -- coro.done
  pub done_keep : (p : Value) → Keep e (done_at (elided e).given t result p)
  done_keep p =
      then_keep e (sleeper_at t p) (λ (y : Sleeper).
      let f = function_at (elided e).given.code y.instance.coroutine in
      ok_if (has_final f) Cause.State (gives t result (truth_value (is_final f y.suspend))))
      (λ y is. if_keep e (has_final (function_at (elided e).given.code y.instance.coroutine)) Cause.State _
      (gives_keep _))

  pub promise_keep : (r : Result Value Cause) → Keep e (and_then r (λ v. Ok (gives t result v)))
  promise_keep (Err cause) = tt
  promise_keep (Ok v) = gives_keep v

  -- coro.free releases the instance
  pub release_keep : (v : Value) → HaveCallers e (gives (release t) result v)
  release_keep v = on (own_instance t) refl
    where
      on : (o : Option (ℕ × Instance)) → own_instance t ≡ o
          → HaveCallers e (gives (change_own t (λ x. record x { released = true }) o) result v)
      on None own = gives_keep v
      on (Some y) own =
          gives_kept (with_instance t y.0 (record y.1 { released = true })) refl refl (stacks_same t.world.memory)
          (status_was t.instances y.0 y.1 (record y.1 { released = true }) (own_there t y.0 y.1 own).1 refl refl refl
          (λ going. going)) v

  -- ---- the end in a ramp

  module _ (none : HaveNoSlots t) where
    no_slots : (o : Option (ℕ × Instance)) → own_instance t ≡ o → slots_of o ≡ []
    no_slots None own = refl
    no_slots (Some y) own = none y.0 y.1 (own_there t y.0 y.1 own).1

    -- it is Finished
    finished : (o : Option (ℕ × Instance)) → own_instance t ≡ o → (number : ℕ) (y : Instance)
        → slice_get (change_own t (λ x. record x { status = Status.Finished }) o).instances number ≡ Some y
        → WasBefore t.instances number y
    finished None own number y there = was_itself t.instances number y there
    finished (Some x) own number y there =
        status_was t.instances x.0 x.1 (record x.1 { status = Status.Finished }) (own_there t x.0 x.1 own).1 refl refl
        refl (λ going. absurd (cc)) number y there

    abbrev ended : Option (ℕ × Instance) → State
    ended o =
        with_memory (change_own t (λ x. record x { status = Status.Finished }) o)
        (without_slots t.world.memory (slots_of o))

    pub ends_keep : (v : Value) → HaveCallers e (gives (framed_finish t) result v)
    ends_keep v = on (own_instance t) refl
      where
        calm_memory : (x : ℕ × Instance) → own_instance t ≡ Some x → (change : List MemoryBlock → List MemoryBlock)
            → KeepsStacks t.world.memory (change t.world.memory)
            → KeepsStacks t.world.memory (change (without_slots t.world.memory x.1.slots))
        calm_memory x own change same =
            subst (λ (zs : List Slot). KeepsStacks t.world.memory (change (without_slots t.world.memory zs)))
            (sym (no_slots (Some x) own)) same

        by : (x : ℕ × Instance) → own_instance t ≡ Some x → (b : Bool)
            → HaveCallers e (gives (if b then with_memory (ended (Some x)) (disown (ended (Some x)).world.memory
            x.1.block) else ended (Some x)) result v)
        by x own true =
            gives_kept (with_memory (ended (Some x)) (disown (ended (Some x)).world.memory x.1.block)) refl refl
            (calm_memory x own (λ m. disown m x.1.block)
            (changed_keeps disowned t.world.memory x.1.block disowned_life)) (finished (Some x) own) v
        by x own false =
            gives_kept (ended (Some x)) refl refl (calm_memory x own (λ m. m) (stacks_same t.world.memory))
            (finished (Some x) own) v

        on : (o : Option (ℕ × Instance)) → own_instance t ≡ o
            → HaveCallers e (gives (disown_given (ended o) o) result v)
        on None own = gives_kept (ended None) refl refl (stacks_same t.world.memory) (finished None own) v
        on (Some x) own = by x own (is_stack_block (ended (Some x)).world.memory x.1.block && (x.1.start == 0))

    -- a ramp goes on behind it
    pub ramp_ends_keep : (mode : Mode) → (mode ≡ Mode.Resumed → ⊥)
        → Keep e (after_end (if t.top.has_left then t else framed_finish t) result mode)
    ramp_ends_keep mode ramp = on t.top.has_left mode ramp
      where
        on : (b : Bool) (mode : Mode) → (mode ≡ Mode.Resumed → ⊥)
            → Keep e (after_end (if b then t else framed_finish t) result mode)
        on b Mode.Resumed ramp = absurd (ramp refl)
        on true Mode.Plain ramp = gives_keep (truth_value false)
        on true Mode.Ramp ramp = gives_keep (truth_value false)
        on true (Mode.GivenRamp frame) ramp = gives_keep (truth_value false)
        on true (Mode.Entering from label) ramp = gives_keep (truth_value false)
        on false Mode.Plain ramp = ends_keep (truth_value false)
        on false Mode.Ramp ramp = ends_keep (truth_value false)
        on false (Mode.GivenRamp frame) ramp = ends_keep (truth_value false)
        on false (Mode.Entering from label) ramp = ends_keep (truth_value false)

-- ---- saves

-- in a block with such a call
has_there : (test : Instr → Bool) (f : Function) (block at : ℕ) (i : Instr)
    → slice_get (instrs_of f block) at ≡ Some i → test i ≡ true → has_at test f block ≡ true
has_there test f block at i there passes = by (slice_get f.blocks block) there
  where
    any : (is : List Instr) (n : ℕ) → slice_get is n ≡ Some i → list_any test is ≡ true
    any [] n there = absurd (cc)
    any (x ∷ is) zero there = let same : x ≡ i = cc in (λ j. (ap test same ∙ passes) j || list_any test is)
    any (x ∷ is) (suc n) there = right (test x) (list_any test is) (any is n there)
      where
        right : (a b : Bool) → b ≡ true → (a || b) ≡ true
        right true b h = refl
        right false b h = h

    by : (o : Option Block) → slice_get (instrs_in o) at ≡ Some i → has_in test o ≡ true
    by None there = absurd (cc)
    by (Some b) there = any b.instrs at there

yes_no : (p : Bool) → p ≡ true → p ≡ false → ⊥
yes_no true y n = absurd (cc)
yes_no false y n = absurd (cc)

module _ (e : Elision) (t : State) (at : ℕ) (i : Instr) (k : StandsAtInstr e t at i) (m : MaySaveAt e t)
    (stops : is_stop i ≡ true) (h : HaveCallers e t) where
  -- an activation that destroys an instance comes to no save
  never : (y : Instance) (number : ℕ) → IsDestroying e y number t.top → ⊥
  never y number d = by d.entered
    where
      by : ((t.top.mode ≡ Mode.Resumed) × (t.top.block ≡ d.block))
          ⊎ ((from : ℕ) × (label : ℕ) × (t.top.mode ≡ Mode.Entering from label)) → ⊥
      by (inl both) =
          yes_no (has_at is_stop (function_in e t.top.func) t.top.block)
          (has_there is_stop (function_in e t.top.func) t.top.block at i k.there stops)
          (m.still t.top.block (subst (λ (p : ℕ × ℕ). IsOn Way.Destroyed (function_in e p.0) p.1)
          (λ j. (sym d.func j, sym both.1 j)) (d.way both.0)))
      by (inr entering) = m.mode entering.0 entering.1 entering.2

  abbrev asleep : Point → Point → Instance → Instance
  asleep save suspend x =
      record x {
        status = Status.Suspended suspend t.top.values;
        last_save = Some (record { depth = length t.below; save = save });
      }

  abbrev after : Point → Point → ℕ × Instance → State
  after save suspend x = with_left (with_instance t x.0 (asleep save suspend x.1)) true

  -- the instance is Suspended, and the activation has left
  save_goes : (save suspend : Point) (f : State → State) → ((z : State) → z.top ≡ record t.top { has_left = true }
      → z.below ≡ t.below → z.world.memory ≡ t.world.memory
      → ((number : ℕ) (y : Instance) → slice_get z.instances number ≡ Some y → WasBefore t.instances number y)
      → HaveCallers e (f z)) → Keep e (and_then (save_for t save suspend) (λ z. Ok (f z)))
  save_goes save suspend f further = on (own_instance t) refl
    where
      own_is : (x : ℕ × Instance) → own_instance t ≡ Some x → instance_in t.instances t.top.instance ≡ Some x.1
      own_is x own =
          let there = own_there t x.0 x.1 own in
          ap (instance_in t.instances) there.0 ∙ there.1

      by : (x : ℕ × Instance) → own_instance t ≡ Some x → (b : Bool)
          → Keep e (and_then (ok_if b Cause.State (after save suspend x)) (λ z. Ok (f z)))
      by x own false = tt
      by x own true =
          further (after save suspend x) refl refl refl
          (status_was t.instances x.0 x.1 (asleep save suspend x.1) (own_there t x.0 x.1 own).1 refl refl refl
          (λ going. m.goes x.1 (own_is x own)))

      on : (o : Option (ℕ × Instance)) → own_instance t ≡ o → Keep e (and_then (and_then (found Cause.State o)
          (λ (x : ℕ × Instance). ok_if (not x.1.freed) Cause.State (after save suspend x))) (λ z. Ok (f z)))
      on None own = tt
      on (Some x) own = by x own (not x.1.freed)

  -- behind a save
  save_onward : (z u : State) → z.top ≡ record t.top { has_left = true } → z.below ≡ t.below
      → z.world.memory ≡ t.world.memory
      → ((number : ℕ) (y : Instance) → slice_get z.instances number ≡ Some y → WasBefore t.instances number y)
      → u.below ≡ z.below → u.world.memory ≡ z.world.memory → u.instances ≡ z.instances
      → u.top.func ≡ z.top.func → u.top.result ≡ z.top.result → u.top.mode ≡ z.top.mode
      → u.top.instance ≡ z.top.instance → HaveCallers e u
  save_onward z u top below memory was down world same func result mode instance =
      goes_onward e t u (record {
        below = down ∙ below;
        instances = λ number y there.
            was number y (ap (λ (xs : List Instance). slice_get xs number) (sym same) ∙ there);
        frames = frames_kept t u (subst (KeepsStacks t.world.memory) (sym (world ∙ memory))
            (stacks_same t.world.memory));
        goes = record {
          func = func ∙ ap (λ (c : Activation). c.func) top;
          result = result ∙ ap (λ (c : Activation). c.result) top;
          instance = λ number is. (instance ∙ ap (λ (c : Activation). c.instance) top) ∙ is;
          mode = λ frame is. (mode ∙ ap (λ (c : Activation). c.mode) top) ∙ is;
          given = λ frame is. sym (mode ∙ ap (λ (c : Activation). c.mode) top) ∙ is;
          begun = λ none. sym (instance ∙ ap (λ (c : Activation). c.instance) top) ∙ none;
          destroys = λ y number d. absurd (never y number d);
        };
        from = record { block = 0; at = 0 };
        to = record { block = 0; at = 0 };
        moves = λ plain. absurd (yes_no (function_in e t.top.func).coroutine m.inside plain);
        still = λ plain. absurd (yes_no (function_in e t.top.func).coroutine m.inside plain);
        destroyed = λ plain. absurd (yes_no (function_in e t.top.func).coroutine m.inside plain);
      }) h

  pub saves_keep : Keep e (save (elided e).given t)
  saves_keep =
      then_keep e (found Cause.State (suspend_of (function_of (elided e).given t) (point_of t)))
      (λ q. and_then (save_for t (point_of t) q) (λ z. Ok (next z)))
      (λ q is. save_goes (point_of t) q next
      (λ z top below memory was. save_onward z (next z) top below memory was refl refl refl refl refl refl refl))

module _ (e : Elision) (t : State) (at : ℕ) (result : Option ℕ) (must_tail : Bool) (ty : Option Ty)
    (args : List Arg)
    (k : StandsAtInstr e t at (Instr.Call result must_tail ty (Callee.Intrinsic Intrinsic.CoroSuspend) args))
    (m : MaySaveAt e t) (h : HaveCallers e t) where
  calm : (v : Option ℕ) → is_destroy_of v (Instr.Call result must_tail ty (Callee.Intrinsic Intrinsic.CoroSuspend)
      args) ≡ false
  calm None = refl
  calm (Some v) = refl

  plain : HaveCallers e (gives t result (integer 8 (negsuc 0)))
  plain = gives_keep e t at Intrinsic.CoroSuspend result must_tail ty args k calm h (integer 8 (negsuc 0))

  -- a suspend that has a token saves nothing
  pub suspends_keep : (x : Operand) → Keep e (suspend t result x)
  suspends_keep Operand.None =
      save_goes e t at (Instr.Call result must_tail ty (Callee.Intrinsic Intrinsic.CoroSuspend) args) k m refl h
      (point_of t) (point_of t) (λ z. gives z result (integer 8 (negsuc 0)))
      (λ z top below memory was. save_onward e t at
      (Instr.Call result must_tail ty (Callee.Intrinsic Intrinsic.CoroSuspend) args) k m refl h z
      (gives z result (integer 8 (negsuc 0))) top below memory was refl refl refl refl refl refl refl)
  suspends_keep (Operand.Local v) = plain
  suspends_keep (Operand.Global n) = plain
  suspends_keep (Operand.Number z) = plain
  suspends_keep Operand.True = plain
  suspends_keep Operand.False = plain
  suspends_keep Operand.Null = plain
  suspends_keep Operand.Poison = plain

-- ---- the step

abbrev call_of : Option ℕ → Bool → Option Ty → List Arg → Intrinsic → Instr
call_of result must_tail ty args j = Instr.Call result must_tail ty (Callee.Intrinsic j) args

pub no_destroy : (result : Option ℕ) (must_tail : Bool) (ty : Option Ty) (args : List Arg) (j : Intrinsic)
    → (j ≡ Intrinsic.CoroDestroy → ⊥) → (v : Option ℕ)
    → is_destroy_of v (Instr.Call result must_tail ty (Callee.Intrinsic j) args) ≡ false
no_destroy result must_tail ty args j ne None = refl
no_destroy result must_tail ty args Intrinsic.CoroDestroy ne (Some v) = absurd (ne refl)
no_destroy result must_tail ty args _ ne (Some v) = refl

module _ (e : Elision) (t : State) (at : ℕ) (result : Option ℕ) (must_tail : Bool) (ty : Option Ty)
    (args : List Arg) (h : HaveCallers e t) where
  abbrev Stands : Intrinsic → Type 0
  Stands j = StandsAtInstr e t at (call_of result must_tail ty args j)

  abbrev Kept : Intrinsic → Type 0
  Kept j = Keep e (framed_next (elided e) t (AtInstr (call_of result must_tail ty args j)))

  abbrev vs : List Value
  vs = arg_values (elided e).given.code t.top.values args

  value : (j : Intrinsic) → (j ≡ Intrinsic.CoroDestroy → ⊥) → Stands j → (v : Value)
      → HaveCallers e (gives t result v)
  value j ne k v = gives_keep e t at j result must_tail ty args k (no_destroy result must_tail ty args j ne) h v

  given_kept : (j : Intrinsic) → gives_only j ≡ true → Stands j → Kept j
  given_kept Intrinsic.CoroId is k =
      nexts_keep e t at Intrinsic.CoroId result must_tail ty args k
      (no_destroy result must_tail ty args Intrinsic.CoroId (λ no. cc)) h
  given_kept Intrinsic.CoroSizeI32 is k = value Intrinsic.CoroSizeI32 (λ no. cc) k _
  given_kept Intrinsic.CoroSizeI64 is k = value Intrinsic.CoroSizeI64 (λ no. cc) k _
  given_kept Intrinsic.CoroAlignI32 is k = value Intrinsic.CoroAlignI32 (λ no. cc) k _
  given_kept Intrinsic.CoroAlignI64 is k = value Intrinsic.CoroAlignI64 (λ no. cc) k _
  given_kept Intrinsic.CoroAlloc is k = value Intrinsic.CoroAlloc (λ no. cc) k _
  given_kept Intrinsic.CoroFrame is k = value Intrinsic.CoroFrame (λ no. cc) k _
  given_kept Intrinsic.CoroFree is k =
      release_keep e t at Intrinsic.CoroFree result must_tail ty args k
      (no_destroy result must_tail ty args Intrinsic.CoroFree (λ no. cc)) h _
  given_kept Intrinsic.CoroDone is k =
      done_keep e t at Intrinsic.CoroDone result must_tail ty args k
      (no_destroy result must_tail ty args Intrinsic.CoroDone (λ no. cc)) h (nth vs 0)
  given_kept Intrinsic.CoroPromise is k =
      promise_keep e t at Intrinsic.CoroPromise result must_tail ty args k
      (no_destroy result must_tail ty args Intrinsic.CoroPromise (λ no. cc)) h
      (framed_promise (elided e) t (nth vs 0) (operand_at args 2))
  given_kept Intrinsic.CoroBegin is k = absurd (cc)
  given_kept Intrinsic.CoroSave is k = absurd (cc)
  given_kept Intrinsic.CoroSuspend is k = absurd (cc)
  given_kept Intrinsic.CoroEnd is k = absurd (cc)
  given_kept Intrinsic.CoroResume is k = absurd (cc)
  given_kept Intrinsic.CoroDestroy is k = absurd (cc)
  given_kept Intrinsic.LifetimeStart is k = absurd (cc)
  given_kept Intrinsic.LifetimeEnd is k = absurd (cc)
  given_kept Intrinsic.MemcpyI64 is k = absurd (cc)
  given_kept Intrinsic.MemcpyI32 is k = absurd (cc)

  pub gives_only_keep : (j : Intrinsic) → gives_only j ≡ true → Stands j → HaveCallers e (framed_step (elided e) t)
  gives_only_keep j is k = next_keeps e t at (call_of result must_tail ty args j) k h (given_kept j is k)

  saved_kept : MaySaveAt e t → (j : Intrinsic) → saves_by j ≡ true → Stands j → Kept j
  saved_kept m Intrinsic.CoroSave is k =
      saves_keep e t at (call_of result must_tail ty args Intrinsic.CoroSave) k m refl h
  saved_kept m Intrinsic.CoroSuspend is k = suspends_keep e t at result must_tail ty args k m h (operand_at args 0)
  saved_kept m _ is k = absurd (cc)

  pub saves_by_keep : MaySaveAt e t → (j : Intrinsic) → saves_by j ≡ true → Stands j
      → HaveCallers e (framed_step (elided e) t)
  saves_by_keep m j is k = next_keeps e t at (call_of result must_tail ty args j) k h (saved_kept m j is k)

  pub end_keeps : HaveNoSlots t → (t.top.mode ≡ Mode.Resumed → ⊥) → Stands Intrinsic.CoroEnd
      → HaveCallers e (framed_step (elided e) t)
  end_keeps none ramp k =
      next_keeps e t at (call_of result must_tail ty args Intrinsic.CoroEnd) k h
      (ramp_ends_keep e t at Intrinsic.CoroEnd result must_tail ty args k
      (no_destroy result must_tail ty args Intrinsic.CoroEnd (λ no. cc)) h none t.top.mode ramp)
