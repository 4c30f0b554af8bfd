-- Steps of a coroutine are followed, by what stands at the place.
use Rattle.std.proofs.Common.{◌≡◌, ℕ, Bool, true, false, Option, Some, None, Result, Ok, Err, refl, sym, ap, ◌∙◌, subst, if◌then◌else◌}
use Rattle.pass_frames_proof.specs.ir_base.declared.cause.Cause.{Cause}
use Rattle.pass_frames_proof.specs.ir_base.declared.outcome.Outcome.{Outcome}
use Rattle.pass_frames_proof.specs.ir_model.Names.{declaration_named, function_at}
use Rattle.pass_frames_proof.specs.ir_model.declared.instr.Instr.{Instr}
use Rattle.pass_frames_proof.specs.ir_model.declared.operand.Arg.{Arg}
use Rattle.pass_frames_proof.specs.ir_model.declared.operand.Callee.{Callee}
use Rattle.pass_frames_proof.specs.ir_model.declared.operand.Operand.{Operand}
use Rattle.pass_frames_proof.specs.ir_parts.Contents.{result_of}
use Rattle.pass_frames_proof.specs.pass_cells.Kept.{entry}
use Rattle.pass_frames_proof.specs.pass_cells.declared.plan.KeptValue.{KeptValue}
use Rattle.pass_frames_meaning.proofs.ordinary.Ready.{ordinary_ready, staying}
use Rattle.pass_frames_meaning.proofs.others.Others.{IsQuietAction, no_ok, quiet_compared, quiet_done, quiet_if, quiet_observed}
use Rattle.pass_frames_meaning.proofs.others.Returns.{no_returns_below}
use Rattle.pass_frames_meaning.proofs.slotted.Facts.{instances_placed, listed_slots, slots_apart, slots_listed}
use Rattle.pass_frames_meaning.proofs.spared.Spared.{fields_spared}
use Rattle.pass_frames_meaning.specs.Coroutines.{HasStorables, IsUnlocatedHere, MayFollow}
use Rattle.pass_frames_meaning.specs.Setting.{AreOfRuns, KeepsAll, Setting}
use Rattle.pass_frames_meaning.specs.Standing.{IsStaying, MayStand}
use Rattle.pass_frames_proof.proofs.stepping.Ordinary.{ordinary_followed}
use Rattle.pass_frames_proof.proofs.stepping.Stores.{stores_followed}
use Rattle.pass_frames_proof.specs.Followed.{IsFollowed}
use Rattle.pass_frames_proof.specs.Led.{LeavesMemory}
use Rattle.pass_frames_proof.specs.Lines.{IsStorable}
use Rattle.pass_frames_proof.specs.Places.{Framing, plan}
use Rattle.pass_frames_proof.specs.Related.{AreBuiltOf, IsKeptValue, is_coroutine}
use Rattle.pass_frames_proof.specs.Stepping.{AreFieldsSpared, IsAtOrdinary, IsCommon, IsNotEntering}
use Rattle.pass_frames_proof.specs.pass_renewed_proof.Renewed.{is_idle, renewed_act, renewed_advance, renewed_next, renewed_step}
use Rattle.pass_frames_proof.specs.run_agreement.Machines.{IsFine}
use Rattle.pass_frames_proof.specs.run_source.Source.{context_of}
use Rattle.pass_frames_proof.specs.run_source.State.{function_of, next, or_undefined, settled, work_of}
use Rattle.pass_frames_proof.specs.run_source.declared.state.State.{State}
use Rattle.pass_frames_proof.specs.run_step.Step.{Action, AtInstr, Coro, Deallocate, Done, Enter, Fetched, GoTo, NewSlot, Return, Stuck, Work, action_of, fetch, instr_action, named_call, words_of}
use Rattle.pass_frames_proof.specs.run_step.Values.{arg_values, value_in}

pub same_ok : (s t : State) → ◌≡◌ {A = Result State Cause} (Ok s) (Ok t) → s ≡ t
same_ok s t e = cc

-- no marker and no call
common_awake : (flags : ℕ → Bool) (i : Instr) → IsCommon i → is_idle flags (AtInstr i) ≡ false
common_awake flags (Instr.Call result must_tail ty (Callee.Named n) args) h = refl
common_awake flags (Instr.Call result must_tail ty (Callee.Allocator a) args) h = absurd h
common_awake flags (Instr.Call result must_tail ty (Callee.Intrinsic x) args) h = absurd h
common_awake flags (Instr.Call result must_tail ty (Callee.Local v) args) h = absurd h
common_awake flags (Instr.Binary name op f ty a b) h = refl
common_awake flags (Instr.Icmp name pred ty a b) h = refl
common_awake flags (Instr.Select name x a b) h = refl
common_awake flags (Instr.Cast name op nneg arg to) h = refl
common_awake flags (Instr.Alloca name ty align) h = absurd h
common_awake flags (Instr.Load name ty p align) h = refl
common_awake flags (Instr.Store arg p align) h = refl
common_awake flags (Instr.Gep name inbounds ty base indices) h = refl

-- what leaves memory is done, or is undefined
quiet_action : (c : Setting) (s : State) (i : Instr) → IsCommon i → LeavesMemory (context_of c.g.given s) i
    → IsQuietAction (instr_action (context_of c.g.given s) (work_of s) i)
quiet_action c s (Instr.Binary name op flags ty a b) common h = quiet_done _ _
quiet_action c s (Instr.Icmp name pred ty a b) common h =
    quiet_compared (context_of c.g.given s) (work_of s) name pred ty _ _
quiet_action c s (Instr.Select name x a b) common h = tt
quiet_action c s (Instr.Cast name op nneg arg to) common h = tt
quiet_action c s (Instr.Alloca name ty align) common h = absurd common
quiet_action c s (Instr.Load name ty p align) common h = quiet_if align _ (quiet_done _ _)
quiet_action c s (Instr.Store arg p align) common h = absurd h
quiet_action c s (Instr.Gep name inbounds ty base indices) common h = tt
quiet_action c s (Instr.Call result must_tail ty (Callee.Named n) args) common h =
    subst (λ (o : Option ℕ). IsQuietAction (named_call (context_of c.g.given s) (work_of s) o
    (declaration_named c.g.given.code n) ty result must_tail (arg_values c.g.given.code s.top.values args)))
    (sym h) (observes (declaration_named c.g.given.code n))
  where
    observes : (d : Option ℕ)
        → IsQuietAction (named_call (context_of c.g.given s) (work_of s) None d ty result must_tail
        (arg_values c.g.given.code s.top.values args))
    observes None = tt
    observes (Some d) = quiet_observed (context_of c.g.given s) (work_of s) d ty result
        (words_of (arg_values c.g.given.code s.top.values args))
quiet_action c s (Instr.Call result must_tail ty (Callee.Allocator a) args) common h = absurd common
quiet_action c s (Instr.Call result must_tail ty (Callee.Intrinsic x) args) common h = absurd common
quiet_action c s (Instr.Call result must_tail ty (Callee.Local v) args) common h = absurd common

module _ (c : Setting) (all : KeepsAll c) (s t : State) (r : AreBuiltOf c.b s t) (k : AreOfRuns c s t r)
    (runs : s.outcome ≡ Outcome.Running) (fine : IsFine (renewed_step c.g s).outcome)
    (coroutine : is_coroutine c.b s.top.func ≡ true) (mode : IsNotEntering s.top.mode) (o : MayFollow c s) where
  abbrev x : Framing
  x = c.b.framing s.top.func

  abbrev Follows : Type 0
  Follows = IsFollowed c.b c.g s t

  pub spared : AreFieldsSpared c.b s t r
  spared = fields_spared c.b s t r (listed_slots s k.slots) (slots_listed s k.slots) (slots_apart t k.other_slots)
      (instances_placed s k.slots) (k.may.fields mode) (no_returns_below c all s k.called.below)

  -- ---- the step

  pub record IsNext (y : Fetched) : Type 0 where
    pub after : State
    pub acts : renewed_act c.g s (action_of (context_of c.g.given s) (work_of s) y) ≡ Ok after
    pub steps : renewed_step c.g s ≡ after

  pub next_is : (y : Fetched) → fetch (function_at c.g.given.code s.top.func) s.top.block s.top.at ≡ y
      → is_idle (c.g.flags s.top.func) y ≡ false → IsNext y
  next_is y e awake = on (renewed_act c.g s (action_of (context_of c.g.given s) (work_of s) y)) refl
    where
      step : renewed_step c.g s
          ≡ or_undefined c.g.given s (renewed_act c.g s (action_of (context_of c.g.given s) (work_of s) y))
      step = ap (renewed_advance c.g s) runs
          ∙ ap (λ (z : Fetched). or_undefined c.g.given s (renewed_next c.g s z)) e
          ∙ ap (λ (b : Bool). or_undefined c.g.given s (if b then Ok (next s)
          else renewed_act c.g s (action_of (context_of c.g.given s) (work_of s) y))) awake

      on : (q : Result State Cause)
          → renewed_act c.g s (action_of (context_of c.g.given s) (work_of s) y) ≡ q → IsNext y
      on (Err cause) d = absurd (subst (λ (z : State). IsFine z.outcome) (step ∙ ap (or_undefined c.g.given s) d) fine)
      on (Ok after) d = record { after = after; acts = d; steps = step ∙ ap (or_undefined c.g.given s) d }

  -- ---- an instruction

  module _ (i : Instr) (there : fetch (function_at c.g.given.code s.top.func) s.top.block s.top.at ≡ AtInstr i)
      (awake : is_idle (c.g.flags s.top.func) (AtInstr i) ≡ false) where
    pub acts_as : (a : Action) → instr_action (context_of c.g.given s) (work_of s) i ≡ a
        → (after : State) × (renewed_act c.g s a ≡ Ok after) × (renewed_step c.g s ≡ after)
    acts_as a e = let z = next_is (AtInstr i) there awake in (z.after, ap (renewed_act c.g s) (sym e) ∙ z.acts, z.steps)

    pub not_stuck : (cause : Cause) → instr_action (context_of c.g.given s) (work_of s) i ≡ Stuck cause → ⊥
    not_stuck cause e = let z = acts_as (Stuck cause) e in no_ok cause z.0 z.1

    -- where it is done this is so
    pub done_by : IsQuietAction (instr_action (context_of c.g.given s) (work_of s) i)
        → ((v : Work) → instr_action (context_of c.g.given s) (work_of s) i ≡ Done v → Follows) → Follows
    done_by q does = on (instr_action (context_of c.g.given s) (work_of s) i) refl q
      where
        on : (a : Action) → instr_action (context_of c.g.given s) (work_of s) i ≡ a → IsQuietAction a → Follows
        on (Done v) e h = does v e
        on (Stuck cause) e h = absurd (not_stuck cause e)
        on (NewSlot v slot) e h = absurd h
        on (Enter func args result must_tail) e h = absurd h
        on (Coro x args result) e h = absurd h
        on (Deallocate p) e h = absurd h
        on (GoTo label) e h = absurd h
        on (Return v) e h = absurd h

    pub may_stand : IsStaying i → IsUnlocatedHere c s i → MayStand c s i
    may_stand staying unlocated = record {
      position = o.position;
      rules = o.rules;
      unlocated = unlocated;
      operands = o.operands i there staying unlocated;
    }

    -- what it gives fits
    pub storable : (v : Work) → instr_action (context_of c.g.given s) (work_of s) i ≡ Done v → (q : ℕ)
        (kept : KeptValue) → IsKeptValue x q kept → IsStorable kept.ty (value_in v.values q)
    storable v e =
        let z = acts_as (Done v) e in
        subst (HasStorables c) (z.2 ∙ sym (same_ok (settled s v) z.0 z.1)) o.storables coroutine

  module _ (i : Instr) (there : fetch (function_at c.g.given.code s.top.func) s.top.block s.top.at ≡ AtInstr i)
      (common : IsCommon i) (unlocated : IsUnlocatedHere c s i)
      (undistanced : (q : ℕ) → result_of i ≡ Some q → entry (plan x).cells q ≡ None) where
    awake : is_idle (c.g.flags s.top.func) (AtInstr i) ≡ false
    awake = common_awake (c.g.flags s.top.func) i common

    at_ordinary : (v : Work) → instr_action (context_of c.g.given s) (work_of s) i ≡ Done v → IsAtOrdinary c.b c.g s i v
    at_ordinary v does = ordinary_ready c all s k.sound runs coroutine mode i there common v does (record {
      stand = may_stand i there awake (staying i common) unlocated;
      undistanced = undistanced;
      storable = λ q kept e is. storable i there awake v does q kept is;
    })

  -- what an instruction that leaves memory does
  pub quiet_followed : (i : Instr) → fetch (function_of c.g.given s) s.top.block s.top.at ≡ AtInstr i → IsCommon i
      → LeavesMemory (context_of c.g.given s) i → IsUnlocatedHere c s i
      → ((q : ℕ) → result_of i ≡ Some q → entry (plan x).cells q ≡ None) → Follows
  quiet_followed i there common leaves unlocated undistanced =
      done_by i there (common_awake (c.g.flags s.top.func) i common)
      (quiet_action c s i common leaves) (λ v e.
      ordinary_followed c.b c.g all.given s t r i v (at_ordinary i there common unlocated undistanced v e) leaves)

  pub store_followed : (arg : Arg) (p : Operand) (align : ℕ)
      → fetch (function_of c.g.given s) s.top.block s.top.at ≡ AtInstr (Instr.Store arg p align)
      → IsUnlocatedHere c s (Instr.Store arg p align) → Follows
  store_followed arg p align there unlocated =
      done_by (Instr.Store arg p align) there refl (quiet_if align _ (quiet_done _ _)) (λ v e.
      stores_followed c.b c.g all.given s t r arg p align v
      (at_ordinary (Instr.Store arg p align) there tt unlocated (λ q e. absurd (cc)) v e) spared)
