-- coro.end of a coroutine is followed, in a ramp and in an activation that was resumed.
use Rattle.std.proofs.Common.{◌≡◌, ◌⊎◌, inl, inr, ℕ, ◌+◌, ◌<◌, Bool, true, false, List, ◌∷◌, length, Option, Some, None, Ok, refl, sym, ap, ◌∙◌, subst, if◌then◌else◌, ◌||◌}
use Rattle.std.specs.Prelude.{option_map, slice_get}
use Rattle.pass_frames_proof.specs.ir_base.declared.outcome.Outcome.{Outcome}
use Rattle.pass_frames_proof.proofs.ir_laws.facts.Lists.{set_here}
use Rattle.pass_frames_proof.specs.ir_model.Names.{function_at}
use Rattle.pass_frames_proof.specs.ir_model.Ty.{Ty}
use Rattle.pass_frames_proof.specs.ir_model.declared.instr.Instr.{Instr}
use Rattle.pass_frames_proof.specs.ir_model.declared.module.Function.{Function}
use Rattle.pass_frames_proof.specs.ir_model.declared.operand.Arg.{Arg}
use Rattle.pass_frames_proof.specs.ir_model.declared.operand.Callee.{Callee}
use Rattle.pass_frames_proof.specs.ir_model.declared.operand.Intrinsic.{Intrinsic}
use Rattle.pass_frames_proof.specs.pass_cells.declared.plan.KeptValue.{KeptValue}
use Rattle.pass_frames_meaning.proofs.coroutines.Calls.{released_top}
use Rattle.pass_frames_meaning.proofs.coroutines.Steps.{acts_as, may_stand, same_ok}
use Rattle.pass_frames_meaning.proofs.ordinary.Standing.{fetch_ready}
use Rattle.pass_frames_meaning.proofs.others.Behind.{behind_call, waits}
use Rattle.pass_frames_meaning.proofs.others.Names.{alloca_apart, no_distance, plain_by, result_low}
use Rattle.pass_frames_meaning.proofs.others.Returns.{instr_in, no_return}
use Rattle.pass_frames_meaning.proofs.others.Unlocated.{unaccessed}
use Rattle.pass_frames_meaning.proofs.slotted.Facts.{among_times, own_slots, slot_kinds, slots_listed}
use Rattle.pass_frames_meaning.specs.Called.{AreBehindCalls}
use Rattle.pass_frames_meaning.specs.Coroutines.{HasStorables, IsUnlocatedHere, MayEnd, MayFollow}
use Rattle.pass_frames_meaning.specs.Setting.{AreOfRuns, KeepsAll, Setting}
use Rattle.pass_frames_proof.proofs.ending.Ends.{ramp_end_followed, resumed_end_followed}
use Rattle.pass_frames_proof.proofs.suspending.Given.{edged_framed}
use Rattle.pass_frames_proof.specs.Ending.{IsAtEnd}
use Rattle.pass_frames_proof.specs.Followed.{IsFollowed}
use Rattle.pass_frames_proof.specs.Framings.{IsFraming}
use Rattle.pass_frames_proof.specs.Lines.{IsStorable}
use Rattle.pass_frames_proof.specs.Places.{Framing, edged, instrs_at}
use Rattle.pass_frames_proof.specs.Related.{AreBuiltOf, IsKeptValue, is_coroutine, is_first}
use Rattle.pass_frames_proof.specs.Returning.{FitsResult, IsAmong, IsBehindCall, is_own_kind}
use Rattle.pass_frames_proof.specs.Stepping.{IsNotEntering, state_in}
use Rattle.pass_frames_proof.specs.pass_renewed_proof.Renewed.{renewed_step}
use Rattle.pass_frames_proof.specs.run_agreement.Machines.{IsFine}
use Rattle.pass_frames_proof.specs.run_memory.Memory.{same_kind}
use Rattle.pass_frames_proof.specs.run_memory.declared.block.Kind.{Kind}
use Rattle.pass_frames_proof.specs.run_memory.declared.block.MemoryBlock.{MemoryBlock}
use Rattle.pass_frames_proof.specs.run_memory.declared.pointer.Value.{Value}
use Rattle.run_slots.proofs.Keeping.{frame_apart, in_instance}
use Rattle.run_slots.specs.Slots.{IsSlottedState, times_on}
use Rattle.pass_frames_proof.specs.run_source.Source.{after_end, finish}
use Rattle.pass_frames_proof.specs.run_source.State.{function_of, gives, own_instance}
use Rattle.pass_frames_proof.specs.run_source.declared.state.Activation.{Activation}
use Rattle.pass_frames_proof.specs.run_source.declared.state.Instance.{Instance}
use Rattle.pass_frames_proof.specs.run_source.declared.state.Mode.{Mode}
use Rattle.pass_frames_proof.specs.run_source.declared.state.State.{State}
use Rattle.pass_frames_proof.specs.run_source.declared.state.Status.{Status}
use Rattle.pass_frames_proof.specs.run_states.sound_states.Sound.{AreSoundBelow, IsInstanceOf, IsModeOf}
use Rattle.pass_frames_proof.specs.run_step.Step.{AtInstr, Coro, fetch}
use Rattle.pass_frames_proof.specs.run_step.Values.{Env, truth_value, value_in, value_or_poison, with_result}

-- ---- the instance

pub record IsOwnThere (xs : List Instance) (func i : ℕ) : Type 0 where
  pub instance : Instance
  pub there : slice_get xs i ≡ Some instance

own_there : (xs : List Instance) (func i : ℕ) (o : Option ℕ) → IsInstanceOf xs func o → o ≡ Some i
    → IsOwnThere xs func i
own_there xs func i None h e = absurd (cc)
own_there xs func i (Some j) h e = on (slice_get xs i) refl
    (ap (λ (n : ℕ). option_map (λ (x : Instance). x.coroutine) (slice_get xs n)) (sym (same j i e)) ∙ h)
  where
    same : (j i : ℕ) → Some j ≡ Some i → j ≡ i
    same j i e = cc

    on : (q : Option Instance) → slice_get xs i ≡ q → option_map (λ (x : Instance). x.coroutine) q ≡ Some func
        → IsOwnThere xs func i
    on None d h = absurd (cc)
    on (Some x) d h = record { instance = x; there = d }

-- a frame is no slot
no_slot : (s : State) → IsSlottedState s → (k : ℕ) (x : Instance) → slice_get s.instances k ≡ Some x
    → IsAmong x.block x.slots → ⊥
no_slot s h k x e among =
    frame_apart s.world.memory (times_on (s.top ∷ s.below)) s.instances h.slotted k x e x.block
    (in_instance s.world.memory (times_on (s.top ∷ s.below)) s.instances h.slotted k x e x.block
    (among_times x.block x.slots among)) refl

second_off : (a b : Bool) → (a || b) ≡ false → b ≡ false
second_off true b e = absurd (cc)
second_off false b e = e

-- ---- what a ramp gives

ramp_after : (u : State) (result : Option ℕ) (m : Mode) → is_first m ≡ true
    → after_end u result m ≡ Ok (gives u result (truth_value false))
ramp_after u result Mode.Ramp e = refl
ramp_after u result (Mode.GivenRamp frame) e = refl
ramp_after u result Mode.Plain e = absurd (cc)
ramp_after u result Mode.Resumed e = absurd (cc)
ramp_after u result (Mode.Entering from label) e = absurd (cc)

finished_top : (s : State) → (finish s).top ≡ s.top
finished_top s = released_top s (λ x. record x { status = Status.Finished }) (own_instance s)

either_top : (s : State) (b : Bool) → (if b then s else finish s).top ≡ s.top
either_top s true = refl
either_top s false = finished_top s

-- a resumed activation returns to no name
resumed_none : (m : Mode) (instance result : Option ℕ) → IsModeOf m instance result → m ≡ Mode.Resumed → result ≡ None
resumed_none Mode.Resumed instance result h e = h.1
resumed_none Mode.Plain instance result h e = absurd (cc)
resumed_none Mode.Ramp instance result h e = absurd (cc)
resumed_none (Mode.GivenRamp frame) instance result h e = absurd (cc)
resumed_none (Mode.Entering from label) instance result h e = absurd (cc)

given_value_there : (env : Env) (q : ℕ) (v : Value) → q < length env → value_in (with_result env (Some q) v) q ≡ v
given_value_there env q v lt = ap value_or_poison (set_here env q (Some v) lt)

-- ---- the activation

module _ (c : Setting) (all : KeepsAll c) (s t : State) (r : AreBuiltOf c.b s t) (k : AreOfRuns c s t r)
    (runs : s.outcome ≡ Outcome.Running) (fine : IsFine (renewed_step c.g s).outcome)
    (coroutine : is_coroutine c.b s.top.func ≡ true) (mode : IsNotEntering s.top.mode) (o : MayFollow c s)
    (m : MayEnd s) (result : Option ℕ) (must_tail : Bool) (ty : Option Ty) (args : List Arg)
    (there : fetch (function_of c.g.given s) s.top.block s.top.at
    ≡ AtInstr (Instr.Call result must_tail ty (Callee.Intrinsic Intrinsic.CoroEnd) args)) where
  abbrev x : Framing
  x = c.b.framing s.top.func

  abbrev call : Instr
  call = Instr.Call result must_tail ty (Callee.Intrinsic Intrinsic.CoroEnd) args

  is : IsFraming x
  is = all.given.framings s.top.func coroutine

  same : function_at c.g.given.code s.top.func ≡ edged x
  same = all.given.coroutines s.top.func coroutine

  stands : slice_get (instrs_at x s.top.block) s.top.at ≡ Some call
  stands = instr_in x (function_at c.g.given.code s.top.func) same s.top.block s.top.at call there

  unlocated : IsUnlocatedHere c s call
  unlocated = unaccessed x (state_in x s.top.block s.top.at) call refl

  room : length s.top.values ≡ length (edged x).names
  room = k.sound.top.values ∙ ap (λ (f : Function). length f.names) same

  own : IsOwnThere s.instances s.top.func m.number
  own = own_there s.instances s.top.func m.number s.top.instance k.sound.top.instance m.own

  frame : (z : MemoryBlock) × (slice_get s.world.memory own.instance.block ≡ Some z) × (is_own_kind z ≡ false)
  frame = (slots_listed s k.slots).frames m.number own.instance own.there

  at_end : IsAtEnd c.b c.g s result must_tail ty args
  at_end = record {
    runs = runs;
    at = fetch_ready c all s k.sound coroutine mode call there tt
        (may_stand c all s t r k runs fine coroutine mode o call there refl tt unlocated);
    unlocated = unlocated;
    allocas = λ at u align of e. result_low x is 0 at u (Instr.Alloca u of align) e refl;
    number = m.number;
    instance = own.instance;
    own = m.own;
    there = own.there;
    frame = frame.0;
    frame_there = frame.1;
    no_stack = second_off (same_kind frame.0.kind Kind.Slot) (same_kind frame.0.kind Kind.Stack) frame.2;
    apart = no_slot s k.slots m.number own.instance own.there;
  }

  -- ---- of a resumed activation

  resumed : s.top.mode ≡ Mode.Resumed → (a : Activation) (more : List Activation) → s.below ≡ a ∷ more
      → IsFollowed c.b c.g s t
  resumed e a more d =
      let none = resumed_none s.top.mode s.top.instance s.top.result k.sound.top.mode e in
      let calm = (subst (λ (below : List Activation). AreBehindCalls c.g.given.code s.top.result below) d
      k.called.below).0 in
      let low = (subst (λ (below : List Activation). AreSoundBelow c.g.given.code s.instances s.top.result below) d
      k.sound.below).1.values in
      resumed_end_followed c.b c.g all.given s t r result must_tail ty args at_end a more (record {
        resumed = e;
        below = d;
        goes = record {
          mode = waits a.mode calm.calm;
          call = λ is_one. (
            behind_call c all a s.top.result is_one low calm,
            λ q kept given is_kept. absurd (no_name q (sym none ∙ given)),
          );
        };
        listed = slots_listed s k.slots;
        kinds = slot_kinds s k.slots;
        own_target = own_slots t k.other_slots;
      })
    where
      no_name : (q : ℕ) → ◌≡◌ {A = Option ℕ} None (Some q) → ⊥
      no_name q e = cc

  -- ---- of a ramp

  behind : IsBehindCall c.b (record s.top { at = s.top.at + 1 }) result
  behind = record {
    mode = mode;
    unreturned = no_return c all s.top.func s.top.block s.top.at call coroutine there;
    at = s.top.at;
    behind = refl;
    call = call;
    there = stands;
    given = refl;
    switches = tt;
    unlocated = unlocated;
    plain = λ q e. plain_by x is s.top.block s.top.at call stands q e tt
        (no_distance x is s.top.block s.top.at call stands q e tt);
    room = room;
    wide = edged_framed x;
    allocas = λ at u align of e. (
      result_low x is 0 at u (Instr.Alloca u of align) e refl,
      λ q. alloca_apart x is s.top.block s.top.at call stands u q tt 0 at align of e,
    );
  }

  -- false fits, as the next state says
  fits : is_first s.top.mode ≡ true → FitsResult x result (truth_value false)
  fits first q kept given is_kept =
      let z = acts_as c all s t r k runs fine coroutine mode o call there refl (Coro Intrinsic.CoroEnd args result)
      refl in
      let goes = sym (ramp_after (if s.top.has_left then s else finish s) result s.top.mode first) ∙ z.1 in
      on (if s.top.has_left then s else finish s) (either_top s s.top.has_left)
      (subst (HasStorables c) (z.2 ∙ sym (same_ok (gives (if s.top.has_left then s else finish s) result
      (truth_value false)) z.0 goes)) o.storables)
    where
      on : (u : State) → u.top ≡ s.top → HasStorables c (gives u result (truth_value false))
          → IsStorable kept.ty (truth_value false)
      on u e h =
          let all_fit : is_coroutine c.b s.top.func ≡ true → (p : ℕ) (kv : KeptValue)
          → IsKeptValue (c.b.framing s.top.func) p kv
          → IsStorable kv.ty (value_in (with_result s.top.values result (truth_value false)) p) =
          subst (λ (a : Activation). is_coroutine c.b a.func ≡ true → (p : ℕ) (kv : KeptValue)
          → IsKeptValue (c.b.framing a.func) p kv
          → IsStorable kv.ty (value_in (with_result a.values result (truth_value false)) p)) e h in
          subst (IsStorable kept.ty) (ap (λ (w : Option ℕ). value_in (with_result s.top.values w (truth_value false)) q)
          given ∙ given_value_there s.top.values q (truth_value false)
          (subst (λ (n : ℕ). q < n) (sym room) (result_low x is s.top.block s.top.at q call stands given)))
          (all_fit coroutine q kept is_kept)

  pub end_followed : IsFollowed c.b c.g s t
  end_followed = on m.from
    where
      on : (is_first s.top.mode ≡ true)
          ⊎ ((s.top.mode ≡ Mode.Resumed) × (a : Activation) × (more : List Activation) × (s.below ≡ a ∷ more))
          → IsFollowed c.b c.g s t
      on (inl first) = ramp_end_followed c.b c.g all.given s t r result must_tail ty args at_end (record {
        first = first;
        goes = record { mode = mode; call = λ is_one. (behind, fits first) };
      })
      on (inr z) = resumed z.0 z.1 z.2 z.3
