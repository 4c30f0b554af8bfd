-- A call of a defined function enters it in both runs, with arguments that stand for one another.
use Rattle.std.proofs.Common.{◌≡◌, ℕ, ◌+◌, ◌⊎◌, inl, inr, Bool, true, false, List, [], length, Option}
use Rattle.std.proofs.Common.{Some}
use Rattle.std.proofs.Common.{None, refl, sym, ap, ◌∙◌, subst, if◌then◌else◌, ◌==◌}
use Rattle.std.specs.Prelude.{IsTrue, slice_get, ℤ}
use Rattle.pass_kept_proof.specs.ir_base.declared.cause.Cause.{Cause}
use Rattle.pass_kept_proof.specs.ir_base.declared.outcome.Word.{Word}
use Rattle.pass_kept_proof.specs.ir_model.Names.{declaration_named, function_at, function_named}
use Rattle.pass_kept_proof.specs.ir_model.Ty.{Ty}
use Rattle.pass_kept_proof.specs.ir_model.declared.instr.Instr.{Instr}
use Rattle.pass_kept_proof.specs.ir_model.declared.module.Block.{Block}
use Rattle.pass_kept_proof.specs.ir_model.declared.module.Function.{Function}
use Rattle.pass_kept_proof.specs.ir_model.declared.module.Module.{Module}
use Rattle.pass_kept_proof.specs.ir_model.declared.operand.Arg.{Arg}
use Rattle.pass_kept_proof.specs.ir_model.declared.operand.Callee.{Callee}
use Rattle.pass_kept_proof.specs.ir_paths.Slots.{exposes, is_escaped, is_in_args}
use Rattle.pass_kept_proof.specs.ir_paths.Windows.{instr_in}
use Rattle.pass_kept_proof.specs.ir_paths.declared.point.Point.{Point}
use Rattle.frame_classes.specs.frame_slots.Spots.{At}
use Rattle.pass_kept_proof.proofs.Same.{eq_itself, or_left, or_right}
use Rattle.pass_kept_proof.specs.Needed.{reads_at}
use Rattle.run_laws.specs.embedded.Related.{AreValues, HasNoSlot}
use Rattle.run_laws.specs.memory.Pointers.{Home, IsValue}
use Rattle.pass_kept_proof.specs.run_memory.Memory.{owner_rights}
use Rattle.pass_kept_proof.specs.run_memory.declared.pointer.Pointer.{Pointer}
use Rattle.pass_kept_proof.specs.run_memory.declared.pointer.Value.{Value}
use Rattle.pass_kept_proof.specs.run_source.Source.{called, mode_of, push}
use Rattle.pass_kept_proof.specs.run_source.State.{work_of}
use Rattle.pass_kept_proof.specs.run_source.declared.state.Activation.{Activation}
use Rattle.pass_kept_proof.specs.run_source.declared.state.Mode.{Mode}
use Rattle.pass_kept_proof.specs.run_source.declared.state.State.{State}
use Rattle.pass_kept_proof.specs.run_step.Step.{AtInstr, Context, Enter, Fetched, Stuck, action_of, fetch}
use Rattle.pass_kept_proof.specs.run_step.Step.{fits_function, named_call, indirect_call, observed, words_of}
use Rattle.pass_kept_proof.specs.run_step.Values.{arg_values, value_in}
use Rattle.pass_renewed_proof.proofs.Ahead.{next_edge}
use Rattle.pass_renewed_proof.proofs.Carried.{envs_on, made_no_slot}
use Rattle.pass_renewed_proof.proofs.Exposing.{instr_escapes}
use Rattle.pass_renewed_proof.proofs.Left.{instr_there}
use Rattle.pass_renewed_proof.proofs.Onward.{calm, no_end_here, no_start_here}
use Rattle.pass_renewed_proof.proofs.Passing.{edge_on}
use Rattle.pass_renewed_proof.proofs.Reading.{read_used}
use Rattle.pass_renewed_proof.proofs.Stands.{at_place}
use Rattle.pass_renewed_proof.proofs.TouchedEdge.{edge_beside}
use Rattle.pass_renewed_proof.proofs.Touching.{IsTouching, args_stand, read_stands, touched_extends}
use Rattle.pass_renewed_proof.specs.Beside.{AreOutdone, HasLeftSuspended, IsBeside, IsFree}
use Rattle.pass_renewed_proof.specs.Beside.{place_in}
use Rattle.pass_renewed_proof.specs.Branching.{IsCallee, IsCalling}
use Rattle.pass_renewed_proof.specs.Chosen.{places_at}
use Rattle.pass_renewed_proof.specs.Ledger.{used_ledger}
use Rattle.pass_renewed_proof.specs.Left.{behind}
use Rattle.pass_renewed_proof.specs.Renewed.{Flags, Roots}
use Rattle.pass_renewed_proof.specs.SlotRules.{KeepsSlots}
use Rattle.pass_renewed_proof.specs.Steps.{given_at}
use Rattle.pass_renewed_proof.proofs.Called.{pushed_beside}

-- ---- the call

-- what such a call reads it exposes
exposed : (v : ℕ) (result : Option ℕ) (must_tail : Bool) (ty : Option Ty) (callee : Callee) (args : List Arg)
    → IsCallee callee → IsTrue (reads_at v (AtInstr (Instr.Call result must_tail ty callee args)))
    → exposes v (Instr.Call result must_tail ty callee args) ≡ true
exposed v result must_tail ty (Callee.Named n) args is reads = reads
exposed v result must_tail ty (Callee.Local f) args is reads = reads
exposed v result must_tail ty (Callee.Allocator a) args is reads = absurd is
exposed v result must_tail ty (Callee.Intrinsic i) args is reads = absurd is

no_slot : (result : Option ℕ) (must_tail : Bool) (ty : Option Ty) (callee : Callee) (args : List Arg)
    → IsCallee callee → HasNoSlot (AtInstr (Instr.Call result must_tail ty callee args))
no_slot result must_tail ty (Callee.Named n) args is = tt
no_slot result must_tail ty (Callee.Local f) args is = tt
no_slot result must_tail ty (Callee.Allocator a) args is = absurd is
no_slot result must_tail ty (Callee.Intrinsic i) args is = absurd is

gives_result : (result : Option ℕ) (must_tail : Bool) (ty : Option Ty) (callee : Callee) (args : List Arg)
    → IsCallee callee → given_at (AtInstr (Instr.Call result must_tail ty callee args)) ≡ result
gives_result result must_tail ty (Callee.Named n) args is = refl
gives_result result must_tail ty (Callee.Local f) args is = refl
gives_result result must_tail ty (Callee.Allocator a) args is = absurd is
gives_result result must_tail ty (Callee.Intrinsic i) args is = absurd is

module _ (m : Module) (flags : Flags) (roots : Roots) (keeps : (func : ℕ)
    → KeepsSlots m (function_at m func) (flags func) (roots func)) (s t : State) (beside : IsBeside m flags roots s t)
    (result : Option ℕ) (must_tail : Bool) (ty : Option Ty) (callee : Callee) (args : List Arg) (calling : IsCalling m
    roots s.top result must_tail ty callee args) where
  abbrev f : Function
  f = function_at m s.top.func

  abbrev p : Point
  p = place_in s.top

  abbrev i : Instr
  i = Instr.Call result must_tail ty callee args

  abbrev reading : Fetched
  reading = AtInstr (Instr.Call result must_tail ty callee args)

  no_slot_here : HasNoSlot (fetch (function_at m s.top.func) s.top.block s.top.at)
  no_slot_here = subst HasNoSlot (sym calling.here) (no_slot result must_tail ty callee args calling.is)

  escaping : (v al : ℕ) → roots s.top.func v ≡ Some al → IsTrue (reads_at v reading) → IsTrue (is_escaped f al)
  escaping v al root reads = on (slice_get f.blocks s.top.block) refl (instr_there f p i calling.here)
    where
      on : (o : Option Block) → slice_get f.blocks s.top.block ≡ o → instr_in o s.top.at ≡ Some i
          → is_escaped f al ≡ true
      on None e h = absurd (cc)
      on (Some b) e h = instr_escapes f al v ((keeps s.top.func).rooted v al root).1 s.top.block b e s.top.at i h
          (exposed v result must_tail ty callee args calling.is reads)

  touching : IsTouching m roots s.top reading (At (place_in s.top))
  touching = record {
    uses = λ v al root reads. read_used f p v al ((keeps s.top.func).rooted v al root).1 no_slot_here (subst (λ z.
        IsTrue (reads_at v z)) (sym calling.here) reads);
    escapes = escaping;
    is_spot = λ al u. at_place m flags roots beside.ledger s.instances s.world.memory t.world.memory (length s.below)
        s.top t.top beside.top calling.place;
  }

  abbrev homes : List Home
  homes = (used_ledger m beside.ledger (places_at (roots s.top.func) s.top.values beside.top.values (AtInstr
      (Instr.Call result must_tail ty callee args)))).homes

  reads_args : (v : ℕ) → IsTrue (is_in_args v args) → IsTrue (reads_at v reading)
  reads_args v = on callee calling.is
    where
      on : (z : Callee) → IsCallee z → IsTrue (is_in_args v args)
          → IsTrue (reads_at v (AtInstr (Instr.Call result must_tail ty z args)))
      on (Callee.Named n) is h = h
      on (Callee.Local g) is h = or_right (v == g) _ h
      on (Callee.Allocator a) is h = absurd is
      on (Callee.Intrinsic k) is h = absurd is

  pub args_there : AreValues (used_ledger m beside.ledger (places_at (roots s.top.func) s.top.values
      beside.top.values (AtInstr (Instr.Call result must_tail ty callee args)))).homes (arg_values m s.top.values args)
      (arg_values m beside.top.values args)
  args_there = args_stand m flags roots keeps s t beside reading (At p) touching args reads_args

  free : IsFree (function_at m s.top.func) (roots s.top.func) result
  free = record {
    no_part = calling.no_part;
    no_alloca = λ v made given. made_no_slot f v made s.top.block s.top.at i calling.here (no_slot result must_tail ty
        callee args calling.is) (ap given_at calling.here ∙ gives_result result must_tail ty callee args calling.is
        ∙ given);
  }

  -- the caller goes on behind the call
  abbrev caller_beside : AreOutdone s.instances s.top s.below → HasLeftSuspended s.instances s.top
      → IsBeside m flags roots (record s {
        top = record s.top { block = s.top.block; at = s.top.at + 1; values = s.top.values };
      }) (record t { top = record t.top { block = s.top.block; at = s.top.at + 1; values = beside.top.values } })
  caller_beside outdone asleep = edge_beside m flags roots keeps s t beside reading (At p) touching (behind (place_in
      s.top)) s.top.values beside.top.values
      (edge_on m flags roots beside.ledger s.instances s.world.memory t.world.memory (length s.below) s.top t.top
      beside.top (calm f p calling.place) i calling.here)
      (λ al. no_start_here f al p i calling.here (no_slot result must_tail ty callee args calling.is))
      (λ al. no_end_here f al p i calling.here (no_slot result must_tail ty callee args calling.is))
      calling.place.no_close
      (λ al. record { between = []; is_path = next_edge f s.top.block s.top.at i calling.here })
      (envs_on beside.ledger.homes homes (roots s.top.func) s.top.values beside.top.values (touched_extends m flags
      roots keeps s t beside reading (At p) touching) beside.top.envs)
      (λ slot flagged. (refl, refl))
      (λ v other. (refl, refl))
      outdone asleep

  entered_first : (func : ℕ) (mode : Mode) → (mode ≡ Mode.Plain) ⊎ (mode ≡ Mode.Ramp)
      → AreOutdone s.instances s.top s.below → HasLeftSuspended s.instances s.top
      → IsBeside m flags roots (push s (called m func (arg_values m s.top.values args) result mode)) (push (record t {
        top = record t.top { block = s.top.block; values = beside.top.values; at = s.top.at };
      }) (called m func (arg_values m beside.top.values args) result mode))
  entered_first func mode is outdone asleep = pushed_beside m flags roots keeps (record s {
    top = record s.top { block = s.top.block; at = s.top.at + 1; values = s.top.values };
  }) (record t { top = record t.top { block = s.top.block; at = s.top.at + 1; values = beside.top.values } })
      (caller_beside outdone asleep) func (arg_values m s.top.values args) (arg_values m beside.top.values args) result
      mode is args_there free

  -- with what the second run's activation has
  pub entered_beside : (func : ℕ) (mode : Mode) → (mode ≡ Mode.Plain) ⊎ (mode ≡ Mode.Ramp)
      → AreOutdone s.instances s.top s.below → HasLeftSuspended s.instances s.top
      → IsBeside m flags roots (push s (called m func (arg_values m s.top.values args) result mode)) (push t (called m
      func (arg_values m t.top.values args) result mode))
  entered_beside func mode is outdone asleep = subst (λ (a : Activation). IsBeside m flags roots (push s (called m func
      (arg_values m s.top.values args) result mode)) (push (record t { top = a }) (called m func (arg_values m a.values
      args) result mode))) (sym beside.top.is) (subst (λ (a : Activation). IsBeside m flags roots (push s (called m
      func (arg_values m s.top.values args) result mode)) (push (record t {
        top = record a { block = s.top.block; values = beside.top.values; at = s.top.at };
      }) (called m func (arg_values m beside.top.values args) result mode))) beside.top.is (entered_first func mode is
      outdone asleep))

  -- ---- both call the same

  abbrev context : List ℤ → Context
  context answers = record {
    code = m;
    answers = answers;
    rights = owner_rights;
    function = function_at m s.top.func;
  }

  function_same : (v u : Value) (g : ℕ) → v ≡ Value.Ptr (Pointer.Func g) → IsValue homes v u
      → u ≡ Value.Ptr (Pointer.Func g)
  function_same v u g e h = (subst (λ z. IsValue homes z u) e h).1

  -- what it enters, with which arguments
  pub entered_by : (answers : List ℤ) (func : ℕ) (vs : List Value) (other : Option ℕ) (tail : Bool) → (z : Callee)
      → callee ≡ z
      → action_of (context answers) (work_of s) (AtInstr (Instr.Call result must_tail ty z args)) ≡ Enter func vs other
      tail
      → (Enter func vs other tail ≡ Enter func (arg_values m s.top.values args) result must_tail) × (action_of (context
      answers) (record { world = t.world; values = beside.top.values }) (AtInstr (Instr.Call result must_tail ty z
      args)) ≡ Enter func (arg_values m beside.top.values args) result must_tail)
  entered_by answers func vs other tail (Callee.Named n) is e = on (function_named m n) (declaration_named m n) e
    where
      seen : (ty : Option Ty) (d : ℕ) (ws : Option (List Word))
          → observed (context answers) (work_of s) d ty result ws ≡ Enter func vs other tail → ⊥
      seen ty d None k = absurd (cc)
      seen None d (Some ws) k = absurd (cc)
      seen (Some z) d (Some ws) k = absurd (cc)

      on : (o d : Option ℕ) → named_call (context answers) (work_of s) o d ty result must_tail (arg_values m
          s.top.values args) ≡ Enter func vs other tail
          → (Enter func vs other tail ≡ Enter func (arg_values m s.top.values args) result must_tail) × (named_call
          (context answers) (record { world = t.world; values = beside.top.values }) o d ty result must_tail
          (arg_values m beside.top.values args) ≡ Enter func (arg_values m beside.top.values args) result must_tail)
      on (Some g) d k =
          let same : g ≡ func = cc in (
            sym k ∙ ap (λ z. Enter z (arg_values m s.top.values args) result must_tail) same,
            ap (λ z. Enter z (arg_values m beside.top.values args) result must_tail) same,
          )
      on None (Some d) k = absurd (seen ty d (words_of (arg_values m s.top.values args)) k)
      on None None k = absurd (cc)
  entered_by answers func vs other tail (Callee.Local name) is e = on (value_in s.top.values name) refl e
    where
      stands : IsValue homes (value_in s.top.values name) (value_in beside.top.values name)
      stands = read_stands m flags roots keeps s t beside reading (At p) touching name (subst (λ z. IsTrue (reads_at
          name (AtInstr (Instr.Call result must_tail ty z args)))) (sym is) (or_left (name == name) _ (eq_itself name)))

      fits : (g : ℕ) (b : Bool) → (if b then Enter g (arg_values m s.top.values args) result must_tail else Stuck
          Cause.Call)
          ≡ Enter func vs other tail → (b ≡ true) × ((g ≡ func) × (Enter g (arg_values m s.top.values args) result
          must_tail ≡ Enter func vs other tail))
      fits g true k = (refl, (cc, k))
      fits g false k = absurd (cc)

      on : (v : Value) → value_in s.top.values name ≡ v → indirect_call (context answers) v ty result must_tail args
          (arg_values m s.top.values args) ≡ Enter func vs other tail
          → (Enter func vs other tail ≡ Enter func (arg_values m s.top.values args) result must_tail) × (indirect_call
          (context answers) (value_in beside.top.values name) ty result must_tail args (arg_values m beside.top.values
          args) ≡ Enter func (arg_values m beside.top.values args) result must_tail)
      on (Value.Ptr (Pointer.Func g)) at k =
          let r = fits g (fits_function ty args (slice_get m.functions g)) k in (
            sym r.1.1 ∙ ap (λ z. Enter z (arg_values m s.top.values args) result must_tail) r.1.0,
            ap (λ z. indirect_call (context answers) z ty result must_tail args (arg_values m beside.top.values
                args)) (function_same _ _ g at stands)
                ∙ ap (λ b. if b then Enter g (arg_values m beside.top.values args) result must_tail else Stuck
                Cause.Call) r.0
                ∙ ap (λ z. Enter z (arg_values m beside.top.values args) result must_tail) r.1.0,
          )
      on (Value.Ptr (Pointer.At b o)) at k = absurd (cc)
      on (Value.Ptr Pointer.Null) at k = absurd (cc)
      on (Value.Int n) at k = absurd (cc)
      on Value.Poison at k = absurd (cc)
  entered_by answers func vs other tail (Callee.Allocator a) is e = absurd (subst IsCallee is calling.is)
  entered_by answers func vs other tail (Callee.Intrinsic k) is e = absurd (subst IsCallee is calling.is)

  -- where the first run enters a function, the second does
  pub calls_beside : (answers : List ℤ) (func : ℕ) (vs : List Value) (other : Option ℕ) (tail : Bool)
      → AreOutdone s.instances s.top s.below → HasLeftSuspended s.instances s.top
      → action_of (record {
        code = m;
        answers = answers;
        rights = owner_rights;
        function = function_at m s.top.func;
      }) (work_of s) (AtInstr (Instr.Call result must_tail ty callee args)) ≡ Enter func vs other tail
      → (ws : List Value) × (action_of (record {
        code = m;
        answers = answers;
        rights = owner_rights;
        function = function_at m s.top.func;
      }) (work_of t) (AtInstr (Instr.Call result must_tail ty callee args)) ≡ Enter func ws other tail)
      × IsBeside m flags roots (push s (called m func vs other (mode_of (function_at m func)))) (push t (called m
      func ws
      other (mode_of (function_at m func))))
  calls_beside answers func vs other tail outdone asleep e =
      let r = entered_by answers func vs other tail callee refl e in
      let same_vs : vs ≡ arg_values m s.top.values args = args_same r.0 in
      let same_other : other ≡ result = result_same r.0 in
      let same_tail : tail ≡ must_tail = tail_same r.0 in (
        arg_values m t.top.values args,
        subst (λ (a : Activation). action_of (context answers) (record { world = t.world; values = a.values }) (AtInstr
            (Instr.Call result must_tail ty callee args)) ≡ Enter func (arg_values m a.values args) other tail) (sym
            beside.top.is) (r.1 ∙ (λ k. Enter func (arg_values m beside.top.values args) (sym same_other k) (sym
            same_tail k))),
        subst (λ (z : List Value). IsBeside m flags roots (push s (called m func z other (mode_of (function_at m
            func)))) (push t (called m func (arg_values m t.top.values args) other (mode_of (function_at m func)))))
            (sym same_vs) (subst (λ (o : Option ℕ). IsBeside m flags roots (push s (called m func (arg_values m
            s.top.values args) o (mode_of (function_at m func)))) (push t (called m func (arg_values m t.top.values
            args) o (mode_of (function_at m func))))) (sym same_other) (entered_beside func (mode_of (function_at m
            func)) (mode_is (function_at m func).coroutine) outdone asleep)),
      )
    where
      args_same : {x y : List Value} {o q : Option ℕ} {a b : Bool} → Enter func x o a ≡ Enter func y q b → x ≡ y
      args_same k = cc

      result_same : {x y : List Value} {o q : Option ℕ} {a b : Bool} → Enter func x o a ≡ Enter func y q b → o ≡ q
      result_same k = cc

      tail_same : {x y : List Value} {o q : Option ℕ} {a b : Bool} → Enter func x o a ≡ Enter func y q b → a ≡ b
      tail_same k = cc

      mode_is : (b : Bool) → ((if b then Mode.Ramp else Mode.Plain) ≡ Mode.Plain) ⊎ ((if b then Mode.Ramp else
          Mode.Plain) ≡ Mode.Ramp)
      mode_is true = inr refl
      mode_is false = inl refl
