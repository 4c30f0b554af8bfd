-- A place is behind all that is put in front of it, or the first place of a function whose new allocas are made there.
use Rattle.std.proofs.Common.{◌≡◌, ◌<◌, ◌+◌, ◌∙◌, ℕ, zero, suc, Bool, true, false, List, [], ◌∷◌, Option, ap, arith, length, refl, subst, sym, if◌then◌else◌}
use Rattle.std.specs.Option.{option_map_or}
use Rattle.std.specs.Prelude.{None, Some, slice_get}
use Rattle.pass_elide.specs.declared.given.GivenFrame.{GivenFrame}
use Rattle.pass_elide_known.specs.Keeping.{KeepsMore, is_marker}
use Rattle.pass_elide_known.specs.States.{IsKnownFramed, IsKnownGiving, IsReadyGiving}
use Rattle.pass_elide_proof.proofs.Allocas.{knows_allocas}
use Rattle.pass_elide_proof.proofs.Facts.{not_both}
use Rattle.pass_elide_proof.proofs.FrontsMade.{fronts_keep, own_first}
use Rattle.pass_elide_proof.proofs.GivingNone.{no_allocas}
use Rattle.pass_elide_proof.proofs.Modules.{finds_alike}
use Rattle.pass_elide_proof.proofs.OwnPlaces.{instr_there}
use Rattle.pass_elide_proof.proofs.PlacingEntered.{behind_place, unput}
use Rattle.pass_elide_proof.proofs.PlacingFacts.{by_truth, no_frames, no_room}
use Rattle.pass_elide_proof.proofs.ReleasedCallees.{callees_stay}
use Rattle.pass_elide_proof.proofs.ReleasedRooms.{callees_hold}
use Rattle.pass_elide_proof.proofs.SoundSteps.{step_sound}
use Rattle.pass_elide_proof.proofs.Stacks.{called_under, given_on}
use Rattle.pass_elide_proof.proofs.Standing.{has_code}
use Rattle.pass_elide_proof.specs.Calling.{AreReady, IsAtFront}
use Rattle.pass_elide_proof.specs.Elision.{Elision, elided, elided_code, framed, function_in, function_in_elided, rooms}
use Rattle.pass_elide_proof.specs.Invariant.{Calling, Destroying, HasCaller, HaveCallers, Held, Holds}
use Rattle.pass_elide_proof.specs.Match.{AreModes, Given, Same, instance_in, is_given_mode, sides, was_given}
use Rattle.pass_elide_proof.specs.Places.{allocas_ahead, elided_instr, front_at, instrs_of, name_at, own_at}
use Rattle.pass_elide_proof.specs.Placing.{KeepsPlaces}
use Rattle.pass_elide_proof.specs.Releasing.{AreOfCallees, IsFreeing}
use Rattle.pass_elide_proof.specs.Sound.{IsSoundState}
use Rattle.pass_elide_proof.specs.Statement.{AreRelated}
use Rattle.pass_elide_proof.specs.Stepping.{IsKnownStep, IsReadyFor, fronted}
use Rattle.pass_elide_proof.specs.pass_proofs.ir_base.declared.outcome.Outcome.{Outcome}
use Rattle.pass_elide_proof.specs.pass_proofs.ir_model.Ty.{Ty}
use Rattle.pass_elide_proof.specs.pass_proofs.ir_model.declared.instr.Instr.{Instr}
use Rattle.pass_elide_proof.specs.pass_proofs.ir_model.declared.module.Block.{Block}
use Rattle.pass_elide_proof.specs.pass_proofs.ir_model.declared.module.Function.{Function}
use Rattle.pass_elide_proof.specs.pass_proofs.ir_model.declared.operand.Arg.{Arg}
use Rattle.pass_elide_proof.specs.pass_proofs.ir_model.declared.operand.Callee.{Callee}
use Rattle.pass_elide_proof.specs.pass_proofs.ir_model.declared.operand.Intrinsic.{Intrinsic}
use Rattle.pass_elide_proof.specs.pass_proofs.run_agreement.Machines.{iterate}
use Rattle.pass_elide_proof.specs.pass_proofs.run_framed.Framed.{framed_step, is_given}
use Rattle.pass_elide_proof.specs.pass_proofs.run_memory.declared.block.MemoryBlock.{MemoryBlock}
use Rattle.pass_elide_proof.specs.pass_proofs.run_source.State.{function_of}
use Rattle.pass_elide_proof.specs.pass_proofs.run_source.declared.state.Activation.{Activation}
use Rattle.pass_elide_proof.specs.pass_proofs.run_source.declared.state.Instance.{Instance}
use Rattle.pass_elide_proof.specs.pass_proofs.run_source.declared.state.Mode.{Mode}
use Rattle.pass_elide_proof.specs.pass_proofs.run_source.declared.state.State.{State}
use Rattle.pass_elide_proof.specs.pass_proofs.run_step.Step.{AtInstr, fetch, fetch_in}

-- ---- blocks and modes

block_there : (o : Option Block) (at : ℕ) (i : Instr) → fetch_in o at ≡ AtInstr i → (b : Block) × (o ≡ Some b)
block_there None at i h = absurd (cc)
block_there (Some b) at i h = (b, refl)

plain_too : (m k : Mode) → AreModes m k → m ≡ Mode.Plain → k ≡ Mode.Plain
plain_too m k (Same mode allocating) plain = plain
plain_too m k (Given block offset) plain = absurd (cc)

-- an activation of a function that is no coroutine was given no frame
none_given : (e : Elision) (u v : State) → u.top.mode ≡ Mode.Plain → u.top.instance ≡ None
    → was_given (sides v u) u.top ≡ false
none_given e u v mode none =
    (λ j. if is_given_mode (mode j) then true
    else option_map_or (is_given u.world.memory) (instance_in u.instances (none j)) false)

-- ---- no activation on the way behind its new allocas is a caller

module _ (e : Elision) (func : ℕ) where
  abbrev many : ℕ
  many = length (allocas_ahead (rooms e func) (function_in e func))

  never_at : (k : ℕ) → many ≡ front_at (rooms e func) (function_in e func) 0 k → 0 < many → ⊥
  never_at zero at some = omega (arith, at, some)
  never_at (suc k) at some = omega (arith, at)

module _ (e : Elision) (c : Activation) (func : ℕ) (same : c.func ≡ func) (block : c.block ≡ 0)
    (at : c.at ≡ length (allocas_ahead (rooms e func) (function_in e func)))
    (some : 0 < length (allocas_ahead (rooms e func) (function_in e func))) where
  pub no_caller : (memory : List MemoryBlock) (y : Instance) (number : ℕ) → HasCaller e memory y number c [] → ⊥
  no_caller memory y number h = by [] h.holds refl
    where
      by : (above : List Activation) → Holds e y number h.call h.instr c above → above ≡ [] → ⊥
      by _ (Calling d above stands func result instance mode) none = absurd (cc)
      by _ (Destroying p v d above stands result destroys) none = absurd (cc)
      by _ (Held p above at_p reached handle) none =
          never_at e func p.at
          (sym at
          ∙ (at_p.at
          ∙ (λ j. front_at (rooms e (same j)) (function_in e (same j)) ((sym at_p.block ∙ block) j) p.at))) some

module _ (e : Elision) (u : State) (never : (y : Instance) (number : ℕ)
    → HasCaller e u.world.memory y number u.top [] → ⊥) (n : ℕ) where
  -- it may stand anywhere
  pub callers_anywhere : HaveCallers e u → HaveCallers e (record u { top = record u.top { at = n } })
  callers_anywhere h = record {
    each = λ number y there given going.
        called_under e u.world.memory y number u.top (record u.top { at = n }) u.below
        (record { func = refl; block = refl; result = refl; mode = refl; instance = refl; has_left = refl })
        (never y number) (h.each number y there given going);
    last = h.last;
    ramps = given_on e u.instances u.top (record u.top { at = n }) u.below refl refl refl h.ramps;
  }

-- ---- sound states

sound_on : (e : Elision) (more : KeepsMore e) (n : ℕ) (t : State) → IsSoundState (elided e) t
    → IsSoundState (elided e) (iterate (framed_step (elided e)) n t)
sound_on e more zero t h = h
sound_on e more (suc n) t h =
    sound_on e more n (framed_step (elided e) t)
    (step_sound (elided e) (knows_allocas (elided_code e) e.layouts.coroutines e.answers) more.nests t h)

callees_on : (e : Elision) (keeps : KeepsPlaces e) (more : KeepsMore e) (n : ℕ) (t : State)
    → AreOfCallees (IsFreeing e) t → AreOfCallees (IsFreeing e) (iterate (framed_step (elided e)) n t)
callees_on e keeps more zero t h = h
callees_on e keeps more (suc n) t h =
    callees_on e keeps more n (framed_step (elided e) t)
    (callees_stay (elided e) (IsFreeing e) (callees_hold (IsFreeing e) e keeps.ungiven more.frees) t h)

-- ---- where both stand beside each other

module _ (e : Elision) (keeps : KeepsPlaces e) (more : KeepsMore e) (s t : State) (r : AreRelated e s t)
    (known : IsKnownFramed e s) (giving : IsKnownGiving e t) (runs : s.outcome ≡ Outcome.Running) (i : Instr)
    (there : fetch (function_of (framed e).given s) s.top.block s.top.at ≡ AtInstr i)
    (block : t.top.block ≡ s.top.block)
    (stands : t.top.at ≡ front_at (rooms e s.top.func) (function_in e s.top.func) s.top.block s.top.at) where
  abbrev f : Function
  f = function_in e s.top.func

  abbrev is : List Instr
  is = allocas_ahead (rooms e s.top.func) (function_in e s.top.func)

  func : t.top.func ≡ s.top.func
  func = r.beside.top.func

  here : slice_get (instrs_of f s.top.block) s.top.at ≡ Some i
  here = instr_there f s.top.block s.top.at i there

  -- a coroutine has nothing put in front
  pub none_ahead : f.coroutine ≡ true → allocas_ahead (rooms e s.top.func) (function_in e s.top.func) ≡ []
  none_ahead coroutine =
      no_allocas (rooms e s.top.func) f
      (no_frames (rooms e s.top.func) (keeps.wakes s.top.func coroutine).none f)

  -- ---- behind what is put in front

  module _ (ready : AreReady e s t) where
    module _ (j : Intrinsic) (result : Option ℕ) (must_tail : Bool) (ty : Option Ty) (args : List Arg) where
      abbrev call : Instr
      call = Instr.Call result must_tail ty (Callee.Intrinsic j) args

      elided_there : slice_get (instrs_of f s.top.block) s.top.at ≡ Some call
          → slice_get (instrs_of (function_in_elided e t.top.func) t.top.block) t.top.at ≡ Some call
      elided_there at =
          instr_there (function_in_elided e t.top.func) t.top.block t.top.at call
          ((λ k. fetch (function_in_elided e (func k)) (block k) (ready.at k))
          ∙ (ap (λ (h : Function). fetch h s.top.block (own_at (rooms e s.top.func) f s.top.block s.top.at))
          ((finds_alike e).functions s.top.func)
          ∙ ((has_code (rooms e s.top.func) f).instr s.top.block s.top.at call at
          ∙ ap (λ (o : Option GivenFrame). AtInstr (elided_instr (name_at (rooms e s.top.func) f s.top.block s.top.at)
          o call)) (no_room e keeps s.top.func s.top.block s.top.at call refl))))

    pub ready_standing : IsReadyGiving e s t
    ready_standing = record {
      passed = r.passed.0;
      sound = giving.sound;
      callees = giving.callees;
      callers = r.callers;
      front = subst (λ (n : ℕ). HaveCallers e (record t { top = record t.top { at = n } })) stands r.callers;
      marks = λ j result must_tail ty args marker at.
          giving.marks j result must_tail ty args marker (elided_there j result must_tail ty args at);
    }

  -- ---- at a function's first place, in front of which stand new allocas

  module _ (first : s.top.block ≡ 0) (start : s.top.at ≡ 0) (x : Instr) (xs : List Instr)
      (some : allocas_ahead (rooms e s.top.func) (function_in e s.top.func) ≡ x ∷ xs) where
    no_cons : [] ≡ x ∷ xs → ⊥
    no_cons h = cc

    plain : f.coroutine ≡ false
    plain = by_truth f.coroutine (λ h. absurd (no_cons (sym (none_ahead h) ∙ some))) (λ h. h)

    mode : s.top.mode ≡ Mode.Plain
    mode = (known.known.acts.0.plain plain).0

    no_instance : s.top.instance ≡ None
    no_instance = (known.known.acts.0.plain plain).1

    positive : 0 < length (allocas_ahead (rooms e s.top.func) (function_in e s.top.func))
    positive = let h : length is ≡ length (x ∷ xs) = ap length some in omega (arith, h)

    entered : (b : Block) × (slice_get f.blocks 0 ≡ Some b)
    entered =
        let b = block_there (slice_get f.blocks s.top.block) s.top.at i there in
        (b.0, ap (λ (n : ℕ). slice_get f.blocks n) (sym first) ∙ b.1)

    pub front_place : IsAtFront e s t
    front_place = record {
      runs = runs;
      plain = plain;
      mode = plain_too s.top.mode t.top.mode r.beside.top.mode mode;
      instance = r.beside.top.instance ∙ no_instance;
      block = first;
      at = start;
      other_block = block ∙ first;
      other_at = stands ∙ ap (front_at (rooms e s.top.func) f s.top.block) start;
      slots = giving.first (ap (λ (n : ℕ). (function_in e n).coroutine) func ∙ plain) (block ∙ first)
          (stands ∙ ap (front_at (rooms e s.top.func) f s.top.block) start);
      values = let room = known.known.acts.0.room in omega (arith, room);
      others = let room : length t.top.values ≡ length (function_in_elided e s.top.func).names
          = giving.known.acts.0.room ∙ ap (λ (n : ℕ). length (function_in_elided e n).names) func in
          omega (arith, room);
      entry = entered.0;
      has_entry = entered.1;
      aligned = keeps.fronts s.top.func;
      marks = keeps.marks s.top.func;
    }

    module _ (ready : AreReady e s (fronted e s t)) where
      abbrev u : State
      u = fronted e s t

      u_mode : u.top.mode ≡ Mode.Plain
      u_mode = plain_too s.top.mode u.top.mode ready.beside.top.mode mode

      u_instance : u.top.instance ≡ None
      u_instance = ready.beside.top.instance ∙ no_instance

      callers : HaveCallers e u
      callers = fronts_keep e s t r.beside front_place r.callers

      u_at : u.top.at ≡ length (allocas_ahead (rooms e s.top.func) (function_in e s.top.func))
      u_at =
          let behind : u.top.at ≡ 0 + length (allocas_ahead (rooms e s.top.func) (function_in e s.top.func))
          = ready.at
          ∙ ((λ j. own_at (rooms e s.top.func) f (first j) (start j))
          ∙ own_first e s.top.func (unput e keeps s.top.func)) in
          omega (arith, behind)

      not_marker : is_marker i ≡ false
      not_marker =
          more.unmarked s.top.func i ((λ j. slice_get (instrs_of f (sym first j)) (sym start j)) ∙ here)

      pub ready_fronted : IsReadyGiving e s u
      ready_fronted = record {
        passed = record {
          waits = λ h. absurd (not_both (is_given_mode u.top.mode) h (ap is_given_mode u_mode));
          frees = λ h. absurd (not_both (was_given (sides u u) u.top) h (none_given e u u u_mode u_instance));
        };
        sound = sound_on e more (length is) t giving.sound;
        callees = callees_on e keeps more (length is) t giving.callees;
        callers = callers;
        front = callers_anywhere e u
            (no_caller e u.top s.top.func ready.beside.top.func (ready.block ∙ first) u_at positive u.world.memory)
            (front_at (rooms e s.top.func) f s.top.block s.top.at) callers;
        marks = λ j result must_tail ty args marker at.
            absurd (not_both (is_marker i) (same_marker j result must_tail ty args at marker) not_marker);
      }
        where
          same_marker : (j : Intrinsic) (result : Option ℕ) (must_tail : Bool) (ty : Option Ty) (args : List Arg)
              → slice_get (instrs_of f s.top.block) s.top.at ≡ Some (Instr.Call result must_tail ty
              (Callee.Intrinsic j) args)
              → is_marker (Instr.Call result must_tail ty (Callee.Intrinsic j) args) ≡ true → is_marker i ≡ true
          same_marker j result must_tail ty args at marker =
              let one : Some i ≡ Some (Instr.Call result must_tail ty (Callee.Intrinsic j) args) = sym here ∙ at in
              let same : i ≡ Instr.Call result must_tail ty (Callee.Intrinsic j) args = cc in
              ap is_marker same ∙ marker

  -- ---- each place

  module _ (place : (u : State) (ready : AreReady e s u) → IsReadyGiving e s u → IsReadyFor e s u ready) where
    stand : (s.top.block ≡ 0 → s.top.at ≡ 0 → allocas_ahead (rooms e s.top.func) (function_in e s.top.func) ≡ [])
        → IsKnownStep e s t r.beside
    stand none =
        IsKnownStep.Standing (behind_place e keeps s t block stands none)
        (λ ready. place t ready (ready_standing ready))

    by_front : (b n : ℕ) (js : List Instr) → s.top.block ≡ b → s.top.at ≡ n → is ≡ js → IsKnownStep e s t r.beside
    by_front b n [] eb en none = stand (λ first start. none)
    by_front (suc b) n (x ∷ xs) eb en some = stand (λ first start. absurd (zero_suc (sym first ∙ eb)))
      where
        zero_suc : 0 ≡ suc b → ⊥
        zero_suc h = omega (arith, h)
    by_front zero (suc n) (x ∷ xs) eb en some = stand (λ first start. absurd (zero_suc (sym start ∙ en)))
      where
        zero_suc : 0 ≡ suc n → ⊥
        zero_suc h = omega (arith, h)
    by_front zero zero (x ∷ xs) eb en some =
        IsKnownStep.Fronting (front_place eb en x xs some)
        (λ ready. place (fronted e s t) ready (ready_fronted eb en x xs some ready))

    pub known_there : IsKnownStep e s t r.beside
    known_there = by_front s.top.block s.top.at is refl refl refl
