-- Calls in functions that are no coroutines, of functions that are none.
use Rattle.std.proofs.Common.{◌≡◌, ℕ, zero, suc, ◌+◌, ◌≤◌, Bool, true, false, List, [], ◌∷◌, length, refl, sym, ap, ◌∙◌, subst, arith}
use Rattle.std.specs.Prelude.{None, Option, replicate, ◌&&◌, if◌then◌else◌}
use Rattle.pass_proofs.specs.ir_model.Names.{function_at}
use Rattle.pass_proofs.specs.ir_model.declared.instr.Instr.{Instr}
use Rattle.pass_proofs.specs.ir_model.declared.module.Function.{Function}
use Rattle.pass_proofs.specs.ir_model.declared.module.Module.{Module}
use Rattle.pass_proofs.specs.ir_model.declared.module.Param.{Param}
use Rattle.pass_proofs.specs.ir_model.declared.operand.Callee.{Callee}
use Rattle.pass_frames_code.proofs.lined.Lines.{framed_does, no_gift}
use Rattle.pass_frames_code.proofs.stepping.May.{named_alike}
use Rattle.pass_frames_code.proofs.stepping.Other.{AreStanding, fetched_there, here_is, joined, one_followed, one_standing, same_names, shape, stands, values_other}
use Rattle.pass_frames_code.proofs.stepping.Rest.{LeavesRest, below_kept, instance_kept}
use Rattle.pass_frames_code.proofs.stepping.Same.{rest_left}
use Rattle.pass_frames_code.proofs.stepping.Stands.{cost_is, renewed_does}
use Rattle.pass_frames_code.specs.Followed.{IsFollowed}
use Rattle.pass_frames_code.specs.Lined.{gives_frame}
use Rattle.pass_frames_code.specs.Meaning.{action_at, coroutine_cost, entered_cost, other_cost, step_cost}
use Rattle.pass_frames_code.specs.Places.{offsets}
use Rattle.pass_frames_code.specs.Related.{AreActivations, AreBuiltOf, Building, IsSlotBy, behind_place, below_place, is_coroutine, place_by, point_of, top_place}
use Rattle.pass_frames_code.specs.Stepping.{AreGiven, IsAtOtherCall, IsFunctionCall}
use Rattle.pass_proofs.specs.addresses.rules.Addresses.{lies_in_frame}
use Rattle.pass_renewed_proof.specs.Renewed.{RenewedGiven, is_idle, renewed_step}
use Rattle.pass_proofs.specs.run_framed.Framed.{framed_context, framed_step, frame_rights}
use Rattle.pass_proofs.proofs.run_laws.memory.Itself.{owner_rights_fit}
use Rattle.pass_proofs.proofs.run_laws.transfer.Over.{step_over}
use Rattle.pass_proofs.specs.run_laws.changed.Changed.{callee_at}
use Rattle.pass_proofs.specs.run_laws.embedded.Related.{AreValues, HasBytes, HasNoSlot}
use Rattle.pass_proofs.specs.run_laws.memory.Pointers.{Home, IsValue}
use Rattle.pass_proofs.specs.run_laws.transfer.Transfer.{AreSameDistances, GoesOver, IsTransferred, args_at, given_at, same_maps}
use Rattle.run_access_worked.proofs.run_laws_worked.Frames.{frame_rights_fit}
use Rattle.pass_proofs.specs.run_memory.Memory.{Rights, owner_rights}
use Rattle.pass_proofs.specs.run_memory.declared.pointer.Value.{Value}
use Rattle.pass_proofs.specs.run_source.Source.{called, context_of, enter, mode_of}
use Rattle.pass_proofs.specs.run_source.State.{work_of}
use Rattle.pass_proofs.specs.run_source.declared.state.Activation.{Activation}
use Rattle.pass_proofs.specs.run_source.declared.state.State.{State}
use Rattle.pass_proofs.specs.run_step.Step.{Action, AtInstr, Context, Enter, action_of, entry_values, instr_action, with_params}
use Rattle.pass_proofs.specs.run_step.Values.{Env, value_in, with_value}
use Rattle.pass_proofs.specs.run_step.declared.world.Slot.{Slot}

-- ---- parameters

params_standing : (homes : List Home) (env other : Env) (ps : List Param) (vs us : List Value)
    → AreValues homes vs us → AreStanding homes env other
    → AreStanding homes (with_params env ps vs) (with_params other ps us)
params_standing homes env other [] vs us v h = h
params_standing homes env other (p ∷ ps) [] [] v h = h
params_standing homes env other (p ∷ ps) [] (u ∷ us) v h = absurd v
params_standing homes env other (p ∷ ps) (x ∷ vs) [] v h = absurd v
params_standing homes env other (p ∷ ps) (x ∷ vs) (u ∷ us) v h =
    params_standing homes (with_value env p.name x) (with_value other p.name u) ps vs us v.1
    (one_standing homes env other p.name x u h v.0)

pub no_value : (n v : ℕ) → value_in (replicate n None) v ≡ Value.Poison
no_value zero v = refl
no_value (suc n) zero = refl
no_value (suc n) (suc v) = no_value n v

none_standing : (homes : List Home) (n : ℕ) → AreStanding homes (replicate n None) (replicate n None)
none_standing homes n = record {
  each = λ v. subst (λ (u : Value). IsValue homes u u) (sym (no_value n v)) tt;
  room = refl;
}

pub entry_standing : (homes : List Home) (f : Function) (vs us : List Value) → AreValues homes vs us
    → AreStanding homes (entry_values f vs) (entry_values f us)
entry_standing homes f vs us v =
    params_standing homes (replicate (length f.names) None) (replicate (length f.names) None) f.params vs us v
    (none_standing homes (length f.names))

-- ---- what a call of a function is

record IsEasy (c d : Context) (flags : ℕ → Bool) (env other : Env) (i : Instr) : Type 0 where
  no_slot : HasNoSlot (AtInstr i)
  bytes : HasBytes (AtInstr i)
  distance : AreSameDistances c d env other (AtInstr i) (AtInstr i)
  never : is_idle flags (AtInstr i) ≡ false

easy : (c d : Context) (flags : ℕ → Bool) (env other : Env) (i : Instr) → IsFunctionCall i
    → IsEasy c d flags env other i
easy c d flags env other (Instr.Call r must_tail ty (Callee.Named n) args) h =
    record { no_slot = tt; bytes = tt; distance = tt; never = refl }
easy c d flags env other (Instr.Call r must_tail ty (Callee.Local v) args) h =
    record { no_slot = tt; bytes = tt; distance = tt; never = refl }
easy c d flags env other (Instr.Call r must_tail ty (Callee.Allocator n) args) h = absurd h
easy c d flags env other (Instr.Call r must_tail ty (Callee.Intrinsic n) args) h = absurd h
easy c d flags env other (Instr.Binary r op fs ty a b) h = absurd h
easy c d flags env other (Instr.Icmp r pred ty a b) h = absurd h
easy c d flags env other (Instr.Select r k a b) h = absurd h
easy c d flags env other (Instr.Cast r op nneg a to) h = absurd h
easy c d flags env other (Instr.Alloca r ty align) h = absurd h
easy c d flags env other (Instr.Load r ty p align) h = absurd h
easy c d flags env other (Instr.Store a p align) h = absurd h
easy c d flags env other (Instr.Gep r inbounds ty p indices) h = absurd h

-- ---- the call

module _ (b : Building) (g : RenewedGiven) (given : AreGiven b g) (s t : State) (r : AreBuiltOf b s t) (i : Instr)
    (func : ℕ) (args : List Value) (result : Option ℕ) (must_tail : Bool)
    (h : IsAtOtherCall b g s i func args result must_tail) where
  abbrev R : Rights
  R = frame_rights b.given t.instances

  abbrev c : Context
  c = context_of g.given s

  abbrev d : Context
  d = framed_context b.given t

  simple : IsEasy c d (g.flags s.top.func) s.top.values t.top.values i
  simple = easy c d (g.flags s.top.func) s.top.values t.top.values i h.call

  transferred : IsTransferred (IsValue r.homes) same_maps c d s.top.values t.top.values (AtInstr i) (AtInstr i)
  transferred = record {
    shape = shape b g given s t r h.plain h.runs h.mode (AtInstr i);
    callee = named_alike c d (same_names b g given s t r h.plain h.runs h.mode).functions
        (same_names b g given s t r h.plain h.runs h.mode).declarations (callee_at (AtInstr i));
    pointed = h.pointed t;
    distance = simple.distance;
    cases = tt;
    no_slot = simple.no_slot;
    bytes = simple.bytes;
  }

  went : GoesOver owner_rights R r.homes r.hides same_maps (given_at (AtInstr i)) (args_at (AtInstr i))
      (args_at (AtInstr i)) (work_of s) (work_of t) (Enter func args result must_tail) (instr_action d (work_of t) i)
  went =
      subst
      (λ (act : Action). GoesOver owner_rights R r.homes r.hides same_maps (given_at (AtInstr i)) (args_at (AtInstr i))
      (args_at (AtInstr i)) (work_of s) (work_of t) act (instr_action d (work_of t) i)) h.does
      (step_over r.homes r.hides same_maps c d (work_of s) (work_of t) (AtInstr i) (AtInstr i) owner_rights_fit
      (frame_rights_fit b.given t.instances) (joined b g given s t r h.plain h.runs h.mode) transferred)

  abbrev others : List Value
  others = went.0

  source_is : renewed_step g s ≡ enter g.given s func args result
  source_is = renewed_does g s (AtInstr i) (Enter func args result must_tail) h.runs h.there simple.never h.does

  target_is : framed_step b.given t ≡ enter b.given.given t func others result
  target_is =
      framed_does b.given t (AtInstr i) (Enter func others result must_tail) (r.outcome ∙ h.runs)
      (fetched_there b g given s t r h.plain h.runs h.mode (AtInstr i) h.there)
      (no_gift b.given t i (subst (λ (k : Module). gives_frame k i ≡ false) (sym given.code) h.gives)) went.1

  callee_is : function_at b.given.given.code func ≡ function_at g.given.code func
  callee_is =
      ap (λ (m : Module). function_at m func) given.code ∙ given.built.others func h.callee
      ∙ sym (given.others func h.callee)

  abbrev new_s : Activation
  new_s = called g.given.code func args result (mode_of (function_at g.given.code func))

  abbrev new_t : Activation
  new_t = called b.given.given.code func others result (mode_of (function_at b.given.given.code func))

  abbrev old_s : Activation
  old_s = record s.top { at = s.top.at + 1 }

  abbrev old_t : Activation
  old_t = record t.top { at = t.top.at + 1 }

  abbrev t' : State
  t' = record t { top = new_t; below = old_t ∷ t.below }

  standing : AreStanding r.homes new_s.values new_t.values
  standing =
      subst (λ (f : Function). AreStanding r.homes new_s.values (entry_values f others)) (sym callee_is)
      (entry_standing r.homes (function_at g.given.code func) args others went.2)

  top_new : AreActivations b r.homes r.hides t' (top_place b) new_s new_t
  top_new = record {
    func = refl;
    place = sym (ap (λ (k : Bool). if k then place_by (b.framing func) new_s new_s.mode else point_of new_s) h.callee);
    result = refl;
    mode = ap mode_of callee_is;
    instance = refl;
    has_left = refl;
    values = values_other b r.homes R t' new_s new_t (is_coroutine b func) h.callee
        (record { each = standing.each; room = standing.room });
    slots = λ slot e. absurd (omega (arith, e.1));
  }

  slot_by : (slot : Slot) (f : Bool) → IsSlotBy b r.homes r.hides s.top t.top slot f
      → IsSlotBy b r.homes r.hides old_s old_t slot f
  slot_by slot true k = k
  slot_by slot false k = record { block = k.block; home = k.home; own = k.own }

  caller : AreActivations b r.homes r.hides t' (below_place b) old_s old_t
  caller = record {
    func = r.top.func;
    place =
        (λ k. record {
          block = (here_is b g given s t r h.plain h.runs h.mode k).block;
          at = (here_is b g given s t r h.plain h.runs h.mode k).at + 1;
        })
        ∙ sym (ap (λ (k : Bool). if k then record {
          block = old_s.block;
          at = behind_place (b.framing s.top.func) old_s.block old_s.at;
        } else point_of old_s) h.plain);
    result = r.top.result;
    mode = r.top.mode;
    instance = r.top.instance;
    has_left = r.top.has_left;
    values = values_other b r.homes R t' old_s old_t (is_coroutine b s.top.func) h.plain
        (let k = stands b g given s t r h.plain h.runs h.mode in record { each = k.each; room = k.room });
    slots = λ slot e.
        slot_by slot
        (is_coroutine b s.top.func && lies_in_frame (offsets (b.framing s.top.func)) slot.alloca) (r.top.slots slot e);
  }

  left : LeavesRest b s t r s.world t.world
  left =
      rest_left b s t r s.world t.world (λ q. ⊥) given.framings refl (λ q none. refl) (λ q lt seen no. no)
      (λ q l no. no)

  related_call : AreBuiltOf b (enter g.given s func args result) (enter b.given.given t func others result)
  related_call = record {
    homes = r.homes;
    hides = r.hides;
    world = r.world;
    known = r.known;
    globals = r.globals;
    mates = r.mates;
    hidden = r.hidden;
    count = r.count;
    instances = λ k x y e e'.
        instance_kept b s t r s.world t.world left new_t (old_t ∷ t.below) k x y e (r.instances k x y e e');
    top = top_new;
    below = (
      caller,
      below_kept b s t r s.world t.world left new_t (old_t ∷ t.below) s.below t.below (λ q l. l) (λ q l. l) r.below,
    );
    once = r.once;
    cells = ((λ is slot e name. let no : true ≡ false = sym is ∙ h.callee in absurd (cc)), r.cells);
    ahead = (
      (λ is first here. let no : true ≡ false = sym is ∙ h.callee in absurd (cc)),
      ((λ is first here. let no : true ≡ false = sym is ∙ h.plain in absurd (cc)), r.ahead.1),
    );
    outcome = r.outcome;
  }

  pub call_followed : IsFollowed b g s t
  call_followed =
      one_followed b g s t
      (cost_is_enough)
      (subst (λ (p : State × State). AreBuiltOf b p.0 p.1) (λ k. (sym source_is k, sym target_is k)) related_call)
    where
      costs : 1 ≤ 1 + entered_cost b func
      costs = omega arith

      cost_is_enough : 1 ≤ step_cost b g s s.top.mode
      cost_is_enough =
          subst (λ (k : ℕ). 1 ≤ k)
          (sym (cost_is b g s s.top.mode h.mode
          ∙ ap (λ (k : Bool). if k then coroutine_cost b g s (action_at g s) else other_cost b g s
          (action_at g s)) h.plain
          ∙ ap (other_cost b g s) (ap (action_of c (work_of s)) h.there ∙ h.does))) costs
