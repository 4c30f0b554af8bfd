-- Each step of a function that is no coroutine is followed, but for those that enter a coroutine.
use Rattle.std.proofs.Common.{◌≡◌, ◌⊎◌, inl, inr, ℕ, ◌<◌, Bool, true, false, List, [], ◌∷◌, length, Option, Some, None, Result, Ok, Err, refl, sym, ap, ◌∙◌, subst, if◌then◌else◌, ◌&&◌}
use Rattle.std.specs.Prelude.{option_map, slice_get}
use Rattle.std.proofs.lemmas.Bool.{false≢true}
use Rattle.pass_frames_proof.specs.flow_solver.Paths.{IsListed}
use Rattle.pass_frames_proof.specs.ir_base.declared.cause.Cause.{Cause}
use Rattle.pass_frames_proof.specs.ir_base.declared.outcome.Outcome.{Outcome}
use Rattle.pass_frames_proof.specs.ir_base.declared.outcome.Word.{Word}
use Rattle.pass_frames_proof.specs.ir_base.declared.name.Name.{Name}
use Rattle.pass_frames_proof.specs.ir_base.declared.ops.Pred.{Pred}
use Rattle.pass_frames_proof.specs.ir_model.Layout.{extent_of, extent_or, size_of}
use Rattle.pass_frames_proof.specs.ir_model.Names.{declaration_named, function_at, function_named}
use Rattle.pass_frames_proof.specs.ir_model.Ty.{Ty, array, int, named, ptr, structure, token}
use Rattle.pass_frames_proof.specs.ir_model.declared.instr.Case.{Case}
use Rattle.pass_frames_proof.specs.ir_model.declared.instr.Instr.{Instr}
use Rattle.pass_frames_proof.specs.ir_model.declared.instr.Terminator.{Terminator}
use Rattle.pass_frames_proof.specs.ir_model.declared.module.Function.{Function}
use Rattle.pass_frames_proof.specs.ir_model.declared.module.TypeItem.{TypeItem}
use Rattle.pass_frames_proof.specs.ir_model.declared.operand.Allocator.{Allocator}
use Rattle.pass_frames_proof.specs.ir_model.declared.operand.Arg.{Arg}
use Rattle.pass_frames_proof.specs.ir_model.declared.operand.Callee.{Callee}
use Rattle.pass_frames_proof.specs.ir_model.declared.operand.Intrinsic.{Intrinsic}
use Rattle.pass_frames_proof.specs.ir_model.declared.operand.Operand.{Operand}
use Rattle.pass_frames_proof.specs.ir_paths.Windows.{operand_at, windows_of}
use Rattle.pass_frames_meaning.proofs.giving.Giving.{given_back}
use Rattle.pass_frames_meaning.proofs.giving.Owned.{frames_owned, no_heap_slots}
use Rattle.pass_frames_meaning.proofs.others.AtPlace.{AreTwo, args_wanted, called_by_name, function_there, not_inner, two_wanted}
use Rattle.pass_frames_meaning.proofs.others.Behind.{behind_call, waits}
use Rattle.pass_frames_meaning.proofs.others.Returns.{no_returns_below}
use Rattle.pass_frames_meaning.proofs.slotted.Facts.{instances_placed, listed_slots, own_slots, slot_kinds, slots_apart, slots_listed, slots_there}
use Rattle.pass_frames_meaning.proofs.spared.Spared.{fields_spared}
use Rattle.pass_frames_meaning.proofs.called.Voids.{void_allocator, void_intrinsic}
use Rattle.pass_frames_meaning.proofs.others.Windows.{no_windows}
use Rattle.pass_frames_meaning.specs.Called.{AreBehindCalls, FitsMode}
use Rattle.pass_frames_meaning.specs.Others.{EntersCoroutines}
use Rattle.pass_frames_meaning.specs.Setting.{AreOfRuns, KeepsAll, Setting}
use Rattle.pass_frames_proof.proofs.allocating.Plain.{plain_followed}
use Rattle.pass_frames_proof.proofs.asking.Others.{other_asked}
use Rattle.pass_frames_proof.proofs.calling.Calls.{other_calls_followed}
use Rattle.pass_frames_proof.proofs.copying.Followed.{other_copied}
use Rattle.pass_frames_proof.proofs.followed.Assembly.{other_instance}
use Rattle.pass_frames_proof.proofs.heaps.Given.{other_given_back}
use Rattle.pass_frames_proof.proofs.heaps.Making.{other_made}
use Rattle.pass_frames_proof.proofs.led.Far.{far_there}
use Rattle.pass_frames_proof.proofs.marking.Kept.{other_marker_followed}
use Rattle.pass_frames_proof.proofs.returning.Deaths.{slot_among}
use Rattle.pass_frames_proof.proofs.returning.Last.{last_followed}
use Rattle.pass_frames_proof.proofs.returning.Owned.{slots_owned}
use Rattle.pass_frames_proof.proofs.returning.Returns.{other_return_followed}
use Rattle.pass_frames_proof.proofs.stepping.Other.{branch_followed}
use Rattle.pass_frames_proof.proofs.stepping.Others.{other_followed, other_store_followed}
use Rattle.pass_frames_proof.specs.Asking.{IsAsking}
use Rattle.pass_frames_proof.specs.Calling.{HasBlocks}
use Rattle.pass_frames_proof.specs.Followed.{IsFollowed}
use Rattle.pass_frames_proof.specs.Heaps.{IsAllocator, IsDeallocator, MayMake}
use Rattle.pass_frames_proof.specs.Led.{LeavesMemory}
use Rattle.pass_frames_proof.specs.Marking.{marker, marking}
use Rattle.pass_frames_proof.specs.Related.{AreBuiltOf, all_slots, is_coroutine, returned_from}
use Rattle.pass_frames_proof.specs.Returning.{OwnsSlots, value_of}
use Rattle.pass_frames_proof.specs.Stepping.{AreFieldsSpared, GoesAsFar, HasNoWindows, IsAtOther, IsCommon, IsNotEntering}
use Rattle.pass_frames_proof.specs.pass_renewed_proof.Renewed.{is_flagged, is_idle, renewed_act, renewed_advance, renewed_next, renewed_step}
use Rattle.pass_frames_proof.specs.rule_locals.Intrinsics.{is_inner}
use Rattle.pass_frames_proof.specs.rule_types.Wants.{any, want}
use Rattle.pass_frames_proof.specs.rule_types.declared.wants.Basic.{Basic}
use Rattle.pass_frames_proof.specs.rule_types.declared.wants.Demand.{Demand}
use Rattle.pass_frames_proof.specs.run_agreement.Machines.{IsFine}
use Rattle.pass_frames_proof.specs.run_framed.Framed.{allocates}
use Rattle.pass_frames_proof.proofs.run_laws.changed.Kept.{distance_kept}
use Rattle.pass_frames_proof.specs.run_memory.Memory.{compare, copy}
use Rattle.pass_frames_proof.specs.run_memory.declared.pointer.Value.{Value}
use Rattle.pass_frames_proof.specs.run_source.Source.{pop, return, returned}
use Rattle.pass_frames_proof.specs.run_source.Source.{context_of}
use Rattle.pass_frames_proof.specs.run_source.State.{next, or_undefined, work_of}
use Rattle.pass_frames_proof.specs.run_source.declared.state.Activation.{Activation}
use Rattle.pass_frames_proof.specs.run_source.declared.state.Instance.{Instance}
use Rattle.pass_frames_proof.specs.run_source.declared.state.Mode.{Mode}
use Rattle.pass_frames_proof.specs.run_source.declared.state.State.{State}
use Rattle.pass_frames_proof.specs.run_states.sound_states.Sound.{AreSoundBelow, IsInstanceOf}
use Rattle.pass_frames_proof.specs.run_step.Results.{and_then}
use Rattle.pass_frames_proof.specs.run_step.Step.{Action, AtInstr, AtTerm, Context, Coro, Deallocate, Done, Enter, Fetched, GoTo, NewSlot, Nowhere, Return, Stuck, Work, action_of, branch, compared, copied_bytes, done, fetch, if_alignment, instr_action, is_alignment, named_call, observed, outcome_of, set_memory, switch, term_action, value_at, with_length, words_of}
use Rattle.pass_frames_proof.specs.run_step.Values.{address, arg_value, arg_values, nth}
use Rattle.pass_renewed_meaning.proofs.run_types.Runs.{sizes_small}
use Rattle.pass_renewed_meaning.specs.run_types.States.{IsMalloc, IsNew, TakesSize}

-- ---- what ordinary instructions do

abbrev pub IsQuietAction : Action → Type 0
IsQuietAction (Done w) = Unit {0}
IsQuietAction (Stuck cause) = Unit {0}
IsQuietAction _ = ⊥

pub quiet_done : {A : Type 0} (f : A → Work) (r : Result A Cause) → IsQuietAction (done f r)
quiet_done f (Err cause) = tt
quiet_done f (Ok a) = tt

pub quiet_if : (align : ℕ) (a : Action) → IsQuietAction a → IsQuietAction (if_alignment align a)
quiet_if align a h = on (is_alignment align)
  where
    on : (t : Bool) → IsQuietAction (if t then a else Stuck Cause.Align)
    on true = h
    on false = tt

quiet_length : (v : Value) (f : ℕ → Action) → ((n : ℕ) → IsQuietAction (f n)) → IsQuietAction (with_length v f)
quiet_length (Value.Int y) f h = h y.bits
quiet_length Value.Poison f h = tt
quiet_length (Value.Ptr p) f h = tt

pub quiet_compared : (c : Context) (w : Work) (name : ℕ) (pred : Pred) (ty : Ty) (a b : Value)
    → IsQuietAction (compared c w name pred ty a b)
quiet_compared c w name pred (int n) a b = tt
quiet_compared c w name pred ptr a b = quiet_done _ (compare c.rights w.world.memory (address a) (address b))
quiet_compared c w name pred token a b = quiet_done _ (compare c.rights w.world.memory (address a) (address b))
quiet_compared c w name pred (array n ty) a b = quiet_done _ (compare c.rights w.world.memory (address a) (address b))
quiet_compared c w name pred (structure ts) a b = quiet_done _ (compare c.rights w.world.memory (address a) (address b))
quiet_compared c w name pred (named n) a b = quiet_done _ (compare c.rights w.world.memory (address a) (address b))

pub quiet_observed : (c : Context) (w : Work) (d : ℕ) (ty : Option Ty) (result : Option ℕ) (args : Option (List Word))
    → IsQuietAction (observed c w d ty result args)
quiet_observed c w d ty result None = tt
quiet_observed c w d None result (Some args) = tt
quiet_observed c w d (Some ty) result (Some args) = tt

pub quiet_copied : (c : Context) (w : Work) (vs : List Value) → IsQuietAction (copied_bytes c w vs)
quiet_copied c w vs = quiet_length (nth vs 2) (λ n. done (set_memory w) (copy c.rights w.world.memory (address (nth vs 0))
    (address (nth vs 1)) n)) (λ n. quiet_done (set_memory w) (copy c.rights w.world.memory (address (nth vs 0))
    (address (nth vs 1)) n))

same_ok : (s t : State) → ◌≡◌ {A = Result State Cause} (Ok s) (Ok t) → s ≡ t
same_ok s t e = cc

pub no_ok : (cause : Cause) (t : State) → ◌≡◌ {A = Result State Cause} (Err cause) (Ok t) → ⊥
no_ok cause t e = cc

-- ---- the activation

module _ (c : Setting) (all : KeepsAll c) (s t : State) (r : AreBuiltOf c.b s t) (k : AreOfRuns c s t r)
    (runs : s.outcome ≡ Outcome.Running) (fine : IsFine (renewed_step c.g s).outcome)
    (plain : is_coroutine c.b s.top.func ≡ false) where
  abbrev f : Function
  f = function_at c.g.given.code s.top.func

  abbrev ctx : Context
  ctx = context_of c.g.given s

  abbrev w : Work
  w = work_of s

  abbrev Follows : Type 0
  Follows = IsFollowed c.b c.g s t

  no_flag : f.coroutine ≡ false
  no_flag = ap (λ (g : Function). g.coroutine) (all.given.others s.top.func plain) ∙ plain

  -- an instance is one of a coroutine
  no_instance : s.top.instance ≡ None
  no_instance = on s.top.instance k.sound.top.instance
    where
      by : (i : ℕ) (o : Option Instance) → slice_get s.instances i ≡ o
          → option_map (λ (x : Instance). x.coroutine) o ≡ Some s.top.func → ⊥
      by i None e h = absurd (cc)
      by i (Some x) e h =
          let y = other_instance c.b s t r i x e in
          let same : x.coroutine ≡ s.top.func = cc in
          false≢true (sym plain ∙ ap (is_coroutine c.b) (sym same) ∙ y.2.is_coroutine)

      on : (o : Option ℕ) → IsInstanceOf s.instances s.top.func o → o ≡ None
      on None h = refl
      on (Some i) h = absurd (by i (slice_get s.instances i) refl h)

  fits : FitsMode None s.top.mode
  fits = subst (λ (o : Option ℕ). FitsMode o s.top.mode) no_instance k.called.mode

  calm_by : (mode : Mode) → FitsMode None mode → IsNotEntering mode × (allocates mode ≡ true)
  calm_by Mode.Plain h = (tt, refl)
  calm_by Mode.Ramp h = (tt, refl)
  calm_by Mode.Resumed h = (tt, refl)
  calm_by (Mode.GivenRamp frame) h = absurd h
  calm_by (Mode.Entering from label) h = absurd (false≢true (sym h))

  pub mode : IsNotEntering s.top.mode
  mode = (calm_by s.top.mode fits).0

  no_gift : allocates s.top.mode ≡ true
  no_gift = (calm_by s.top.mode fits).1

  spared : AreFieldsSpared c.b s t r
  spared = fields_spared c.b s t r (listed_slots s k.slots) (slots_listed s k.slots) (slots_apart t k.other_slots)
      (instances_placed s k.slots) (k.may.fields mode) (no_returns_below c all s k.called.below)

  -- K1
  no_window : HasNoWindows c.b c.g s.top.func
  no_window =
      let none = no_windows c.g.given.code all.rules s.top.func no_flag in
      record {
        source = all.windows s.top.func ∙ none;
        target = all.framed_windows s.top.func
            ∙ ap windows_of (all.given.built.others s.top.func plain ∙ sym (all.given.others s.top.func plain)) ∙ none;
      }

  -- ---- the step

  flag_off : (a : ℕ) → c.g.flags s.top.func a ≡ false
  flag_off a = all.flags s.top.func a plain

  unflagged : (o : Operand) → is_flagged (c.g.flags s.top.func) o ≡ false
  unflagged (Operand.Local v) = flag_off v
  unflagged (Operand.Global n) = refl
  unflagged (Operand.Number n) = refl
  unflagged Operand.True = refl
  unflagged Operand.False = refl
  unflagged Operand.Null = refl
  unflagged Operand.None = refl
  unflagged Operand.Poison = refl

  not_both : (a b : Bool) → b ≡ false → (a && b) ≡ false
  not_both true b e = e
  not_both false b e = refl

  awake : (x : Fetched) → is_idle (c.g.flags s.top.func) x ≡ false
  awake (AtInstr (Instr.Call result must_tail ty callee args)) = not_both _ _ (unflagged (operand_at args 1))
  awake (AtInstr (Instr.Binary name op flags ty a b)) = refl
  awake (AtInstr (Instr.Icmp name pred ty a b)) = refl
  awake (AtInstr (Instr.Select name x a b)) = refl
  awake (AtInstr (Instr.Cast name op nneg arg to)) = refl
  awake (AtInstr (Instr.Alloca name ty align)) = refl
  awake (AtInstr (Instr.Load name ty p align)) = refl
  awake (AtInstr (Instr.Store arg p align)) = refl
  awake (AtInstr (Instr.Gep name inbounds ty base indices)) = refl
  awake (AtTerm e) = refl
  awake Nowhere = refl

  record IsNext (x : Fetched) : Type 0 where
    after : State
    acts : renewed_act c.g s (action_of (context_of c.g.given s) (work_of s) x) ≡ Ok after

  next_is : (x : Fetched) → fetch (function_at c.g.given.code s.top.func) s.top.block s.top.at ≡ x → IsNext x
  next_is x e = on (renewed_act c.g s (action_of (context_of c.g.given s) (work_of s) x)) refl
    where
      step : renewed_step c.g s
          ≡ or_undefined c.g.given s (renewed_act c.g s (action_of (context_of c.g.given s) (work_of s) x))
      step = ap (renewed_advance c.g s) runs
          ∙ ap (λ (z : Fetched). or_undefined c.g.given s (renewed_next c.g s z)) e
          ∙ ap (λ (b : Bool). or_undefined c.g.given s (if b then Ok (next s)
          else renewed_act c.g s (action_of (context_of c.g.given s) (work_of s) x))) (awake x)

      on : (q : Result State Cause)
          → renewed_act c.g s (action_of (context_of c.g.given s) (work_of s) x) ≡ q → IsNext x
      on (Err cause) d = absurd (subst (λ (z : State). IsFine z.outcome) (step ∙ ap (or_undefined c.g.given s) d) fine)
      on (Ok after) d = record { after = after; acts = d }

  -- ---- an ordinary instruction

  module _ (i : Instr) (there : fetch (function_at c.g.given.code s.top.func) s.top.block s.top.at ≡ AtInstr i) where
    acts_as : (a : Action) → instr_action (context_of c.g.given s) (work_of s) i ≡ a
        → (after : State) × (renewed_act c.g s a ≡ Ok after)
    acts_as a e = let z = next_is (AtInstr i) there in (z.after, ap (renewed_act c.g s) (sym e) ∙ z.acts)

    not_stuck : (cause : Cause) → instr_action (context_of c.g.given s) (work_of s) i ≡ Stuck cause → ⊥
    not_stuck cause e = let z = acts_as (Stuck cause) e in no_ok cause z.0 z.1

    far : GoesAsFar c.b (context_of c.g.given s) s.top.values i
    far = far_there c.b (context_of c.g.given s) s.top.values i
        (distance_kept c.g.given.code c.b.framed_code all.same_types)
        (all.fields s.top.func s.top.block s.top.at i there)

    at_other : IsCommon i → (v : Work) → instr_action (context_of c.g.given s) (work_of s) i ≡ Done v
        → IsAtOther c.b c.g s i v
    at_other common v does = record {
      runs = runs;
      plain = plain;
      mode = mode;
      there = there;
      common = common;
      does = does;
      far = far;
      bytes = (all.steps s.top.func).bytes s.top.block s.top.at i there;
      gives = all.ungiven s.top.func s.top.block s.top.at i there;
    }

    quiet : IsCommon i → LeavesMemory (context_of c.g.given s) i
        → IsQuietAction (instr_action (context_of c.g.given s) (work_of s) i) → Follows
    quiet common leaves q = on (instr_action (context_of c.g.given s) (work_of s) i) refl q
      where
        on : (a : Action) → instr_action (context_of c.g.given s) (work_of s) i ≡ a → IsQuietAction a → Follows
        on (Done v) e h = other_followed c.b c.g all.given s t r i v (at_other common v e) leaves
        on (Stuck cause) e h = absurd (not_stuck cause e)
        on (NewSlot v slot) e h = absurd h
        on (Enter func args result must_tail) e h = absurd h
        on (Coro x args result) e h = absurd h
        on (Deallocate p) e h = absurd h
        on (GoTo label) e h = absurd h
        on (Return v) e h = absurd h

    -- where it is done this is so
    done_by : IsQuietAction (instr_action (context_of c.g.given s) (work_of s) i)
        → ((v : Work) → instr_action (context_of c.g.given s) (work_of s) i ≡ Done v → Follows) → Follows
    done_by q does = on (instr_action (context_of c.g.given s) (work_of s) i) refl q
      where
        on : (a : Action) → instr_action (context_of c.g.given s) (work_of s) i ≡ a → IsQuietAction a → Follows
        on (Done v) e h = does v e
        on (Stuck cause) e h = absurd (not_stuck cause e)
        on (NewSlot v slot) e h = absurd h
        on (Enter func args result must_tail) e h = absurd h
        on (Coro x args result) e h = absurd h
        on (Deallocate p) e h = absurd h
        on (GoTo label) e h = absurd h
        on (Return v) e h = absurd h

  stores : (arg : Arg) (p : Operand) (align : ℕ)
      → fetch (function_at c.g.given.code s.top.func) s.top.block s.top.at ≡ AtInstr (Instr.Store arg p align)
      → Follows
  stores arg p align there = done_by (Instr.Store arg p align) there (quiet_if align _ (quiet_done _ _)) (λ v e.
      other_store_followed c.b c.g all.given s t r arg p align v
      (at_other (Instr.Store arg p align) there tt v e) spared)

  -- ---- allocas

  allocas : (name : ℕ) (ty : Ty) (align : ℕ)
      → fetch (function_at c.g.given.code s.top.func) s.top.block s.top.at ≡ AtInstr (Instr.Alloca name ty align)
      → Follows
  allocas name ty align there = on (is_alignment align) refl
    where
      on : (b : Bool) → is_alignment align ≡ b → Follows
      on false e = absurd (not_stuck (Instr.Alloca name ty align) there Cause.Align
          (ap (λ (b : Bool). if b then Rattle.pass_frames_proof.specs.run_step.Step.alloca (context_of c.g.given s) (work_of s) name
          (size_of c.g.given.code ty) align else Stuck Cause.Align) e))
      on true e = plain_followed c.b c.g all.given s t r name ty align (record {
        runs = runs;
        plain = plain;
        mode = mode;
        there = there;
        aligned = e;
        small = (all.steps s.top.func).sizes s.top.block s.top.at name ty align there;
        sized = ap (λ (ts : List TypeItem). (extent_or (extent_of ts ty)).size) all.same_types;
        instance = no_instance;
        off = flag_off name;
      }) (slots_there s k.slots) (slots_there t k.other_slots)

  -- ---- calls

  blocks : HasBlocks t
  blocks n among =
      let z = slot_among n (all_slots t) among in
      subst (λ (j : ℕ). j < length t.world.memory) z.2 ((slots_there t k.other_slots).each z.0 z.1)

  module _ (enters : EntersCoroutines c s t) (result : Option ℕ) (must_tail : Bool) (ty : Option Ty) (args : List Arg)
    where
      calls : (n : Name)
          → fetch (function_at c.g.given.code s.top.func) s.top.block s.top.at
          ≡ AtInstr (Instr.Call result must_tail ty (Callee.Named n) args) → Follows
      calls n there = on (function_named c.g.given.code n) refl
        where
          by : (func : ℕ) → instr_action (context_of c.g.given s) (work_of s)
              (Instr.Call result must_tail ty (Callee.Named n) args)
              ≡ Enter func (arg_values c.g.given.code s.top.values args) result must_tail
              → (b : Bool) → is_coroutine c.b func ≡ b → Follows
          by func e true d = enters.ramps (Instr.Call result must_tail ty (Callee.Named n) args) func
              (arg_values c.g.given.code s.top.values args) result must_tail there e d
          by func e false d = other_calls_followed c.b c.g all.given s t r
              (Instr.Call result must_tail ty (Callee.Named n) args) func
              (arg_values c.g.given.code s.top.values args) result must_tail (record {
                runs = runs;
                plain = plain;
                mode = mode;
                there = there;
                does = e;
                call = tt;
                pointed = λ u. tt;
                gives = all.ungiven s.top.func s.top.block s.top.at
                    (Instr.Call result must_tail ty (Callee.Named n) args) there;
              }) d blocks

          observes : function_named c.g.given.code n ≡ None → (d : Option ℕ)
              → IsQuietAction (named_call (context_of c.g.given s) (work_of s) None d ty result must_tail
              (arg_values c.g.given.code s.top.values args))
          observes e None = tt
          observes e (Some d) = quiet_observed (context_of c.g.given s) (work_of s) d ty result
              (words_of (arg_values c.g.given.code s.top.values args))

          on : (o : Option ℕ) → function_named c.g.given.code n ≡ o → Follows
          on (Some func) e = by func
              (ap (λ (o : Option ℕ). named_call (context_of c.g.given s) (work_of s) o
              (declaration_named c.g.given.code n) ty result must_tail (arg_values c.g.given.code s.top.values args)) e)
              (is_coroutine c.b func) refl
          on None e = quiet (Instr.Call result must_tail ty (Callee.Named n) args) there tt e
              (subst (λ (o : Option ℕ). IsQuietAction (named_call (context_of c.g.given s) (work_of s) o
              (declaration_named c.g.given.code n) ty result must_tail (arg_values c.g.given.code s.top.values args)))
              (sym e) (observes e (declaration_named c.g.given.code n)))

  -- ---- allocators

  module _ (result : Option ℕ) (must_tail : Bool) (ty : Option Ty) (args : List Arg) where
    may_make : MayMake c.b s t
    may_make = record {
      mine = slots_there s k.slots;
      theirs = slots_there t k.other_slots;
      inside = λ a l. on a l;
    }
      where
        on : (a : Activation) → IsListed a (s.top ∷ s.below) → is_coroutine c.b a.func ≡ true
            → returned_from (c.b.framing a.func) a a.mode ≡ None
        on a (inl e) coroutine = absurd (false≢true (sym plain
            ∙ ap (λ (z : Activation). is_coroutine c.b z.func) (sym e) ∙ coroutine))
        on a (inr l) coroutine = spared.below a l coroutine

    makes : (a : Allocator) → IsAllocator a → TakesSize a
        → fetch (function_at c.g.given.code s.top.func) s.top.block s.top.at
        ≡ AtInstr (Instr.Call result must_tail ty (Callee.Allocator a) args)
        → ((v : Value) → nth (arg_values c.g.given.code s.top.values args) 0 ≡ v → (cause : Cause)
        → with_length v (λ n. Done (Rattle.pass_frames_proof.specs.run_step.Step.allocated (work_of s) result n)) ≡ Stuck cause
        → instr_action (context_of c.g.given s) (work_of s) (Instr.Call result must_tail ty (Callee.Allocator a) args)
        ≡ Stuck cause) → Follows
    makes a makes_it takes there same = on (nth (arg_values c.g.given.code s.top.values args) 0) refl
      where
        on : (v : Value) → nth (arg_values c.g.given.code s.top.values args) 0 ≡ v → Follows
        on (Value.Int n) e = other_made c.b c.g all.given s t r may_make a result must_tail ty args n (record {
          runs = runs;
          plain = plain;
          mode = mode;
          there = there;
          makes = makes_it;
          size = e;
          small = sizes_small c.g.given.code (function_at c.g.given.code s.top.func) s.top.values (all.types s.top.func)
              k.fitting.top s.top.block s.top.at result must_tail ty a args there takes n e;
        })
        on Value.Poison e = absurd (not_stuck (Instr.Call result must_tail ty (Callee.Allocator a) args) there
            Cause.Poison (same Value.Poison e Cause.Poison refl))
        on (Value.Ptr p) e = absurd (not_stuck (Instr.Call result must_tail ty (Callee.Allocator a) args) there
            Cause.Poison (same (Value.Ptr p) e Cause.Poison refl))

    frees : (a : Allocator) → IsDeallocator a → Rattle.pass_frames_proof.specs.rule_types.Wants.allocator_result a ≡ None
        → fetch (function_at c.g.given.code s.top.func) s.top.block s.top.at
        ≡ AtInstr (Instr.Call result must_tail ty (Callee.Allocator a) args)
        → instr_action (context_of c.g.given s) (work_of s) (Instr.Call result must_tail ty (Callee.Allocator a) args)
        ≡ Deallocate (address (nth (arg_values c.g.given.code s.top.values args) 0)) → Follows
    frees a is void there e =
        let z = acts_as (Instr.Call result must_tail ty (Callee.Allocator a) args) there
        (Deallocate (address (nth (arg_values c.g.given.code s.top.values args) 0))) e in
        let none : result ≡ None = void_allocator c.g.given.code (function_at c.g.given.code s.top.func)
        (all.types s.top.func) s.top.block s.top.at result must_tail ty a args there void in
        other_given_back c.b c.g all.given s t r a must_tail ty args z.0 (record {
          runs = runs;
          plain = plain;
          mode = mode;
          there = there ∙ ap (λ (o : Option ℕ). AtInstr (Instr.Call o must_tail ty (Callee.Allocator a) args)) none;
          frees = is;
          does = z.1;
          giving = given_back c.b s t r (listed_slots s k.slots) (slots_listed s k.slots)
              (instances_placed s k.slots) (frames_owned s k.slots) (no_heap_slots t k.other_slots) may_make.inside
              (address (nth (arg_values c.g.given.code s.top.values args) 0)) z.0 z.1;
        })

    -- ---- intrinsics

    copies : (x : Intrinsic) → Rattle.pass_frames_proof.specs.Copying.IsCopying x
        → Rattle.pass_frames_proof.specs.rule_types.Wants.intrinsic_result x ≡ None
        → fetch (function_at c.g.given.code s.top.func) s.top.block s.top.at
        ≡ AtInstr (Instr.Call result must_tail ty (Callee.Intrinsic x) args)
        → IsQuietAction (instr_action (context_of c.g.given s) (work_of s)
        (Instr.Call result must_tail ty (Callee.Intrinsic x) args)) → Follows
    copies x is void there q = done_by (Instr.Call result must_tail ty (Callee.Intrinsic x) args) there q (λ v e.
        let none : result ≡ None = void_intrinsic c.g.given.code (function_at c.g.given.code s.top.func)
        (all.types s.top.func) s.top.block s.top.at result must_tail ty x args there void in
        other_copied c.b c.g all.given s t r x must_tail ty args v (record {
          runs = runs;
          plain = plain;
          mode = mode;
          there = there ∙ ap (λ (o : Option ℕ). AtInstr (Instr.Call o must_tail ty (Callee.Intrinsic x) args)) none;
          copying = is;
          does = ap (λ (o : Option ℕ). instr_action (context_of c.g.given s) (work_of s)
              (Instr.Call o must_tail ty (Callee.Intrinsic x) args)) (sym none) ∙ e;
        }) spared)

    marks : (starts : Bool) → fetch (function_at c.g.given.code s.top.func) s.top.block s.top.at
        ≡ AtInstr (Instr.Call result must_tail ty (Callee.Intrinsic (marker starts)) args)
        → (marker starts ≡ Intrinsic.LifetimeStart) ⊎ (marker starts ≡ Intrinsic.LifetimeEnd)
        → Rattle.pass_frames_proof.specs.rule_types.Wants.intrinsic_result (marker starts) ≡ None
        → AreTwo args → Follows
    marks starts there is void two =
        let none : result ≡ None = void_intrinsic c.g.given.code (function_at c.g.given.code s.top.func)
        (all.types s.top.func) s.top.block s.top.at result must_tail ty (marker starts) args there void in
        let m = (all.steps s.top.func).marked s.top.block s.top.at result must_tail ty (marker starts) args there is in
        let value : two.second.value ≡ Operand.Local m.slot =
        ap (λ (q : List Arg). operand_at q 1) (sym two.are) ∙ m.takes in
        let shaped : args ≡ two.first ∷ record { ty = two.second.ty; value = Operand.Local m.slot } ∷ [] =
        two.are ∙ ap (λ (o : Operand). two.first ∷ record { ty = two.second.ty; value = o } ∷ []) value in
        let at : fetch (function_at c.g.given.code s.top.func) s.top.block s.top.at
        ≡ AtInstr (marking starts must_tail ty two.first two.second.ty m.slot) =
        there ∙ (λ j. AtInstr (Instr.Call (none j) must_tail ty (Callee.Intrinsic (marker starts)) (shaped j))) in
        let whole = k.may.marked plain starts must_tail ty two.first two.second.ty m.slot at in
        other_marker_followed c.b c.g all.given s t r starts must_tail ty two.first two.second.ty m.slot (record {
          runs = runs;
          plain = plain;
          mode = mode;
          there = at;
          off = flag_off m.slot;
        }) (listed_slots s k.slots) whole.0 whole.1

    asks : (x : Intrinsic) → IsAsking x
        → fetch (function_at c.g.given.code s.top.func) s.top.block s.top.at
        ≡ AtInstr (Instr.Call result must_tail ty (Callee.Intrinsic x) args)
        → instr_action (context_of c.g.given s) (work_of s) (Instr.Call result must_tail ty (Callee.Intrinsic x) args)
        ≡ Coro x args result → Follows
    asks x is there e =
        let z = acts_as (Instr.Call result must_tail ty (Callee.Intrinsic x) args) there (Coro x args result) e in
        other_asked c.b c.g all.given s t r x result must_tail ty args z.0 (record {
          runs = runs;
          plain = plain;
          mode = mode;
          there = there;
          asking = is;
          does = z.1;
          may = record { placed = instances_placed s k.slots; laid = all.laid; frames = all.frames; no_gift = no_gift };
        })

    -- K1
    never : (x : Intrinsic) → is_inner x ≡ true
        → fetch (function_at c.g.given.code s.top.func) s.top.block s.top.at
        ≡ AtInstr (Instr.Call result must_tail ty (Callee.Intrinsic x) args) → Follows
    never x inner there =
        let at = function_there c.g.given.code s.top.func s.top.block s.top.at
        (Instr.Call result must_tail ty (Callee.Intrinsic x) args) there in
        absurd (false≢true (sym (not_inner c.g.given.code s.top.func (function_at c.g.given.code s.top.func)
        (all.rules s.top.func (function_at c.g.given.code s.top.func) at) s.top.block s.top.at result must_tail ty args
        no_flag x there) ∙ inner))

    intrinsics : EntersCoroutines c s t → (x : Intrinsic)
        → fetch (function_at c.g.given.code s.top.func) s.top.block s.top.at
        ≡ AtInstr (Instr.Call result must_tail ty (Callee.Intrinsic x) args) → Follows
    intrinsics enters Intrinsic.MemcpyI64 there = copies Intrinsic.MemcpyI64 tt refl there
        (quiet_copied (context_of c.g.given s) (work_of s) (arg_values c.g.given.code s.top.values args))
    intrinsics enters Intrinsic.MemcpyI32 there = copies Intrinsic.MemcpyI32 tt refl there
        (quiet_copied (context_of c.g.given s) (work_of s) (arg_values c.g.given.code s.top.values args))
    intrinsics enters Intrinsic.LifetimeStart there = marks true there (inl refl) refl
        (two_wanted (want Basic.I64 Demand.Number) (any Basic.Ptr) args (args_wanted c.g.given.code
        (function_at c.g.given.code s.top.func) (all.types s.top.func)
        s.top.block s.top.at result must_tail ty Intrinsic.LifetimeStart args there))
    intrinsics enters Intrinsic.LifetimeEnd there = marks false there (inr refl) refl
        (two_wanted (want Basic.I64 Demand.Number) (any Basic.Ptr) args (args_wanted c.g.given.code
        (function_at c.g.given.code s.top.func) (all.types s.top.func)
        s.top.block s.top.at result must_tail ty Intrinsic.LifetimeEnd args there))
    intrinsics enters Intrinsic.CoroDone there = asks Intrinsic.CoroDone tt there refl
    intrinsics enters Intrinsic.CoroPromise there = asks Intrinsic.CoroPromise tt there refl
    intrinsics enters Intrinsic.CoroResume there =
        enters.wakes Intrinsic.CoroResume (inl refl) result must_tail ty args there
    intrinsics enters Intrinsic.CoroDestroy there =
        enters.wakes Intrinsic.CoroDestroy (inr refl) result must_tail ty args there
    intrinsics enters Intrinsic.CoroId there = never Intrinsic.CoroId refl there
    intrinsics enters Intrinsic.CoroSizeI32 there = never Intrinsic.CoroSizeI32 refl there
    intrinsics enters Intrinsic.CoroSizeI64 there = never Intrinsic.CoroSizeI64 refl there
    intrinsics enters Intrinsic.CoroAlignI32 there = never Intrinsic.CoroAlignI32 refl there
    intrinsics enters Intrinsic.CoroAlignI64 there = never Intrinsic.CoroAlignI64 refl there
    intrinsics enters Intrinsic.CoroAlloc there = never Intrinsic.CoroAlloc refl there
    intrinsics enters Intrinsic.CoroBegin there = never Intrinsic.CoroBegin refl there
    intrinsics enters Intrinsic.CoroFree there = never Intrinsic.CoroFree refl there
    intrinsics enters Intrinsic.CoroFrame there = never Intrinsic.CoroFrame refl there
    intrinsics enters Intrinsic.CoroSave there = never Intrinsic.CoroSave refl there
    intrinsics enters Intrinsic.CoroSuspend there = never Intrinsic.CoroSuspend refl there
    intrinsics enters Intrinsic.CoroEnd there = never Intrinsic.CoroEnd refl there

    called : EntersCoroutines c s t → (callee : Callee)
        → fetch (function_at c.g.given.code s.top.func) s.top.block s.top.at
        ≡ AtInstr (Instr.Call result must_tail ty callee args) → Follows
    called enters (Callee.Named n) there = calls enters result must_tail ty args n there
    called enters (Callee.Local v) there =
        absurd (called_by_name c.g.given.code s.top.func (function_at c.g.given.code s.top.func)
        (all.rules s.top.func (function_at c.g.given.code s.top.func)
        (function_there c.g.given.code s.top.func s.top.block s.top.at
        (Instr.Call result must_tail ty (Callee.Local v) args) there)) s.top.block s.top.at result must_tail ty args v
        there)
    called enters (Callee.Allocator Allocator.Malloc) there = makes Allocator.Malloc tt IsMalloc there
        (λ v e cause d. ap (λ (z : Value). with_length z
        (λ n. Done (Rattle.pass_frames_proof.specs.run_step.Step.allocated (work_of s) result n))) e ∙ d)
    called enters (Callee.Allocator Allocator.Znwm) there = makes Allocator.Znwm tt IsNew there
        (λ v e cause d. ap (λ (z : Value). with_length z
        (λ n. Done (Rattle.pass_frames_proof.specs.run_step.Step.allocated (work_of s) result n))) e ∙ d)
    called enters (Callee.Allocator Allocator.Free) there = frees Allocator.Free tt refl there refl
    called enters (Callee.Allocator Allocator.ZdlPv) there = frees Allocator.ZdlPv tt refl there refl
    called enters (Callee.Allocator Allocator.ZdlPvm) there = frees Allocator.ZdlPvm tt refl there refl
    called enters (Callee.Intrinsic x) there = intrinsics enters x there

  -- ---- terminators

  owned : OwnsSlots c.b s t r
  owned = slots_owned c.b s t r (slots_listed s k.slots) (slot_kinds s k.slots) (own_slots t k.other_slots)

  module _ (e : Terminator) (there : fetch (function_at c.g.given.code s.top.func) s.top.block s.top.at ≡ AtTerm e)
    where
      ends_as : (a : Action) → term_action (context_of c.g.given s) (work_of s) e ≡ a
          → (after : State) × (renewed_act c.g s a ≡ Ok after)
      ends_as a d = let z = next_is (AtTerm e) there in (z.after, ap (renewed_act c.g s) (sym d) ∙ z.acts)

      goes : (label : ℕ) → term_action (context_of c.g.given s) (work_of s) e ≡ GoTo label → Follows
      goes label d = branch_followed c.b c.g all.given s t r e label (record {
        runs = runs;
        plain = plain;
        mode = mode;
        there = there;
        does = d;
        windows = no_window;
      })

      stops : (cause : Cause) → term_action (context_of c.g.given s) (work_of s) e ≡ Stuck cause → Follows
      stops cause d = let z = ends_as (Stuck cause) d in absurd (no_ok cause z.0 z.1)

  branches : (x : Operand) (a b : ℕ)
      → fetch (function_at c.g.given.code s.top.func) s.top.block s.top.at ≡ AtTerm (Terminator.Branch x a b) → Follows
  branches x a b there = on (value_at (context_of c.g.given s) (work_of s) (int 1) x) refl
    where
      on : (v : Value) → value_at (context_of c.g.given s) (work_of s) (int 1) x ≡ v → Follows
      on (Value.Int n) d = goes (Terminator.Branch x a b) there _ (ap (λ (v : Value). branch v a b) d)
      on Value.Poison d = stops (Terminator.Branch x a b) there Cause.Poison (ap (λ (v : Value). branch v a b) d)
      on (Value.Ptr p) d = stops (Terminator.Branch x a b) there Cause.Poison (ap (λ (v : Value). branch v a b) d)

  switches : (arg : Arg) (default : ℕ) (cases : List Case)
      → fetch (function_at c.g.given.code s.top.func) s.top.block s.top.at ≡ AtTerm (Terminator.Switch arg default cases)
      → Follows
  switches arg default cases there = on (arg_value c.g.given.code s.top.values arg) refl
    where
      on : (v : Value) → arg_value c.g.given.code s.top.values arg ≡ v → Follows
      on (Value.Int n) d = goes (Terminator.Switch arg default cases) there _
          (ap (λ (v : Value). switch c.g.given.code v default cases) d)
      on Value.Poison d = stops (Terminator.Switch arg default cases) there Cause.Poison
          (ap (λ (v : Value). switch c.g.given.code v default cases) d)
      on (Value.Ptr p) d = stops (Terminator.Switch arg default cases) there Cause.Poison
          (ap (λ (v : Value). switch c.g.given.code v default cases) d)

  returns : (arg : Option Arg)
      → fetch (function_at c.g.given.code s.top.func) s.top.block s.top.at ≡ AtTerm (Terminator.Ret arg)
      → term_action (context_of c.g.given s) (work_of s) (Terminator.Ret arg)
      ≡ Return (value_of c.g.given.code s.top.values arg) → Follows
  returns arg there e = by s.below refl
    where
      z : (after : State) × (return s (value_of c.g.given.code s.top.values arg) ≡ Ok after)
      z = ends_as (Terminator.Ret arg) there (Return (value_of c.g.given.code s.top.values arg)) e

      room : (a : Activation) (more : List Activation) → s.below ≡ a ∷ more
          → length a.values ≡ length (function_at c.g.given.code a.func).names
      room a more d = (subst (λ (below : List Activation). AreSoundBelow c.g.given.code s.instances s.top.result below) d
          k.sound.below).1.values

      by : (below : List Activation) → s.below ≡ below → Follows
      by [] d = on (outcome_of (value_of c.g.given.code s.top.values arg)) refl
          (sym (ap (pop (returned s) (value_of c.g.given.code s.top.values arg)) d) ∙ z.1)
        where
          on : (q : Result Outcome Cause) → outcome_of (value_of c.g.given.code s.top.values arg) ≡ q
              → and_then q (λ outcome. Ok (record (returned s) { outcome = outcome })) ≡ Ok z.0 → Follows
          on (Err cause) h j = absurd (no_ok cause z.0 j)
          on (Ok o) h j = last_followed c.b c.g all.given s t r arg o (record {
            runs = runs;
            plain = plain;
            mode = mode;
            there = there;
            below = d;
            returns = h;
          }) owned
      by (a ∷ more) d =
          let calm = (subst (λ (below : List Activation). AreBehindCalls c.g.given.code s.top.result below) d
          k.called.below).0 in
          other_return_followed c.b c.g all.given s t r arg a more (record {
            runs = runs;
            mode = mode;
            there = there;
            below = d;
            goes = record {
              mode = waits a.mode calm.calm;
              call = λ is. (behind_call c all a s.top.result is (room a more d) calm, k.may.stored a more arg d there is);
            };
          }) plain owned

  -- ---- all of them

  pub others_followed : EntersCoroutines c s t → Follows
  others_followed enters = by (fetch (function_at c.g.given.code s.top.func) s.top.block s.top.at) refl
    where
      by : (x : Fetched) → fetch (function_at c.g.given.code s.top.func) s.top.block s.top.at ≡ x → Follows
      by Nowhere e = let z = next_is Nowhere e in absurd (no_ok Cause.Unreachable z.after z.acts)
      by (AtTerm (Terminator.Jump label)) e = goes (Terminator.Jump label) e label refl
      by (AtTerm (Terminator.Branch x a b)) e = branches x a b e
      by (AtTerm (Terminator.Switch arg default cases)) e = switches arg default cases e
      by (AtTerm (Terminator.Ret None)) e = returns None e refl
      by (AtTerm (Terminator.Ret (Some arg))) e = returns (Some arg) e refl
      by (AtTerm Terminator.Unreachable) e = stops Terminator.Unreachable e Cause.Unreachable refl
      by (AtInstr (Instr.Binary name op flags ty a b)) e = quiet (Instr.Binary name op flags ty a b) e tt tt
          (quiet_done _ _)
      by (AtInstr (Instr.Icmp name pred ty a b)) e = quiet (Instr.Icmp name pred ty a b) e tt tt
          (quiet_compared (context_of c.g.given s) (work_of s) name pred ty _ _)
      by (AtInstr (Instr.Select name x a b)) e = quiet (Instr.Select name x a b) e tt tt tt
      by (AtInstr (Instr.Cast name op nneg arg to)) e = quiet (Instr.Cast name op nneg arg to) e tt tt tt
      by (AtInstr (Instr.Alloca name ty align)) e = allocas name ty align e
      by (AtInstr (Instr.Load name ty p align)) e = quiet (Instr.Load name ty p align) e tt tt
          (quiet_if align _ (quiet_done _ _))
      by (AtInstr (Instr.Store arg p align)) e = stores arg p align e
      by (AtInstr (Instr.Gep name inbounds ty base indices)) e = quiet (Instr.Gep name inbounds ty base indices) e tt tt tt
      by (AtInstr (Instr.Call result must_tail ty callee args)) e = called result must_tail ty args enters callee e
