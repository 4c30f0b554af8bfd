-- Callers of instances stay on the stack at resumes and destroys. A caller that destroys its handle waits for the
-- activation that destroys the instance.
use Rattle.std.proofs.Common.{◌≡◌, ◌<◌, ◌≤◌, ◌+◌, ◌∙◌, ◌&&◌, ◌∷◌, ◌⊎◌, [], ap, arith, Bool, false, inl, inr, List, not, Option, refl, Result, subst, sym, true, ℕ}
use Rattle.std.proofs.lemmas.Bool.{cases_lt}
use Rattle.std.specs.Prelude.{None, Some, slice_get}
use Rattle.elide_sites.specs.Destroyed.{IsOn}
use Rattle.elide_sites.specs.Sites.{is_destroy_of}
use Rattle.elide_sites.specs.declared.destroyed.Way.{Way}
use Rattle.pass_elide_proof.proofs.CallersEdges.{status_was}
use Rattle.pass_elide_proof.proofs.CallersInstr.{Keep, instr_moves, goes_as, next_keeps}
use Rattle.pass_elide_proof.proofs.CallersOnward.{called_as, caller_moves, given_as, instr_found, last_as, ramps_as}
use Rattle.pass_elide_proof.proofs.Entered.{goes_on, woken}
use Rattle.pass_elide_proof.proofs.Found.{IsLastOf, where_last}
use Rattle.pass_elide_proof.proofs.LastOnes.{is_found}
use Rattle.pass_elide_proof.proofs.Modules.{finds_alike}
use Rattle.pass_elide_proof.proofs.Stacks.{called_below, given_on}
use Rattle.pass_elide_proof.proofs.Unelided.{function_same}
use Rattle.pass_elide_proof.specs.Callers.{StandsAtInstr, WakesByEdge, WasBefore}
use Rattle.pass_elide_proof.specs.Elision.{Elision, elided, elided_code, function_in, rooms}
use Rattle.pass_elide_proof.specs.Invariant.{Calling, Destroying, HasCaller, HaveCallers, Held, Holds, IsDestroying, StandsAt}
use Rattle.pass_elide_proof.specs.Waking.{GivesNone}
use Rattle.pass_proofs.proofs.ir_laws.facts.Truth.{equal_numbers, itself}
use Rattle.pass_proofs.proofs.ir_laws.paths.renamed.Outside.{where_none}
use Rattle.pass_proofs.specs.ir_base.declared.cause.Cause.{Cause}
use Rattle.pass_proofs.specs.ir_laws.facts.renamed.Regular.{passes}
use Rattle.pass_proofs.specs.ir_model.Names.{function_at, is_local, position_of}
use Rattle.pass_proofs.specs.ir_model.Ty.{Ty}
use Rattle.pass_proofs.specs.ir_model.declared.instr.Instr.{Instr}
use Rattle.pass_proofs.specs.ir_model.declared.module.Function.{Function}
use Rattle.pass_proofs.specs.ir_model.declared.module.Module.{Module}
use Rattle.pass_proofs.specs.ir_model.declared.operand.Arg.{Arg}
use Rattle.pass_proofs.specs.ir_model.declared.operand.Callee.{Callee}
use Rattle.pass_proofs.specs.ir_model.declared.operand.Intrinsic.{Intrinsic}
use Rattle.pass_proofs.specs.ir_model.declared.operand.Operand.{Operand}
use Rattle.pass_proofs.specs.ir_parts.Contents.{result_of}
use Rattle.pass_proofs.specs.ir_paths.Windows.{destroy_label, operand_at, resume_label}
use Rattle.pass_proofs.specs.ir_paths.declared.point.Point.{Point}
use Rattle.pass_proofs.specs.run_framed.Framed.{alloca_from, continue_framed, framed_step, is_given}
use Rattle.pass_proofs.specs.run_memory.declared.block.MemoryBlock.{MemoryBlock}
use Rattle.pass_proofs.specs.run_memory.declared.pointer.Pointer.{Pointer}
use Rattle.pass_proofs.specs.run_memory.declared.pointer.Value.{Value}
use Rattle.pass_proofs.specs.run_source.Source.{Sleeper, push, sleeper_of}
use Rattle.pass_proofs.specs.run_source.State.{began_at, frame_address_of, instance_at, is_finished, with_status}
use Rattle.pass_proofs.specs.run_source.declared.state.Activation.{Activation}
use Rattle.pass_proofs.specs.run_source.declared.state.Instance.{Instance}
use Rattle.pass_proofs.specs.run_source.declared.state.Mode.{Mode}
use Rattle.pass_proofs.specs.run_source.declared.state.State.{State}
use Rattle.pass_proofs.specs.run_source.declared.state.Status.{Status}
use Rattle.pass_proofs.specs.run_source_tables.Given.{is_final}
use Rattle.pass_proofs.specs.run_step.Results.{and_then, found, ok_if}
use Rattle.pass_proofs.specs.run_step.Values.{Env, arg_values, nth, operand_value, value_in}

-- ---- an activation of an instance comes on top

-- it goes on at a label, or executes its allocas before
pub record ComesOn (c : Activation) (x : Instance) (number to : ℕ) (label : ℕ) : Type 0 where
  pub func : c.func ≡ x.coroutine
  pub instance : c.instance ≡ Some number
  pub stays : c.has_left ≡ false
  pub goes : ((from : ℕ) × (c.mode ≡ Mode.Entering from label)) ⊎ ((c.mode ≡ Mode.Resumed) × (c.block ≡ to))

pub comes_on : (m : Module) (f : Function) (x : Instance) (number : ℕ) (frame : Value) (from label : ℕ)
    (o : Option Point) → ComesOn (woken m f x.coroutine number frame from label o) x number (position_of f label) label
comes_on m f x number frame from label None = record {
  func = refl;
  instance = refl;
  stays = refl;
  goes = inr (refl, refl);
}
comes_on m f x number frame from label (Some p) = record {
  func = refl;
  instance = refl;
  stays = refl;
  goes = inl (from, refl);
}

-- it destroys the instance where the label is that of a destroy edge
pub destroys_now : (e : Elision) (c : Activation) (x : Instance) (number to label : ℕ)
    → ComesOn c x number to label → to ≡ position_of (function_in e x.coroutine) label
    → IsOn Way.Destroyed (function_in e x.coroutine) (position_of (function_in e x.coroutine) label)
    → IsDestroying e x number c
destroys_now e c x number to label k at is = by k.goes
  where
    by : ((from : ℕ) × (c.mode ≡ Mode.Entering from label)) ⊎ ((c.mode ≡ Mode.Resumed) × (c.block ≡ to))
        → IsDestroying e x number c
    by (inl entering) = record {
      func = k.func;
      instance = k.instance;
      stays = k.stays;
      block = 0;
      entered = inr (entering.0, label, entering.1);
      way = λ resumed.
          absurd (let no : Mode.Resumed ≡ Mode.Entering entering.0 label = sym resumed ∙ entering.1 in cc);
      ahead = λ from other mode.
          let same : Mode.Entering entering.0 label ≡ Mode.Entering from other = sym entering.1 ∙ mode in
          let labels : label ≡ other = second entering.0 label from other same in
          subst (λ (l : ℕ). IsOn Way.Destroyed (function_in e x.coroutine) (position_of (function_in e x.coroutine) l))
          labels is;
    }
      where
        second : (a b c d : ℕ) → Mode.Entering a b ≡ Mode.Entering c d → b ≡ d
        second a b c d e = cc
    by (inr both) = record {
      func = k.func;
      instance = k.instance;
      stays = k.stays;
      block = c.block;
      entered = inl (both.0, refl);
      way = λ resumed. subst (λ (b : ℕ). IsOn Way.Destroyed (function_in e x.coroutine) b) (sym (both.1 ∙ at)) is;
      ahead = λ from other mode.
          absurd (let no : Mode.Resumed ≡ Mode.Entering from other = sym both.0 ∙ mode in cc);
    }

ramp_or : (c : Activation) (label to : ℕ) (frame : Value)
    → ((from : ℕ) × (c.mode ≡ Mode.Entering from label)) ⊎ ((c.mode ≡ Mode.Resumed) × (c.block ≡ to))
    → c.mode ≡ Mode.GivenRamp frame → ⊥
ramp_or c label to frame (inl entering) is =
    absurd (let no : Mode.Entering entering.0 label ≡ Mode.GivenRamp frame = sym entering.1 ∙ is in cc)
ramp_or c label to frame (inr both) is =
    absurd (let no : Mode.Resumed ≡ Mode.GivenRamp frame = sym both.0 ∙ is in cc)

module _ (e : Elision) (t : State) (n : ℕ) (x : Instance) (there : slice_get t.instances n ≡ Some x)
    (going : is_finished x.status ≡ false) (new : Activation) (to label : ℕ) (comes : ComesOn new x n to label)
    (h : HaveCallers e t) where
  abbrev further : Activation
  further = record t.top { at = t.top.at + 1 }

  abbrev after : State
  after = push (with_status t n x Status.Running) new

  was : (number : ℕ) (y : Instance) → slice_get after.instances number ≡ Some y → WasBefore t.instances number y
  was = status_was t.instances n x (record x { status = Status.Running }) there refl refl refl (λ running. going)

  -- where callers that go on stay callers
  pub woken_keeps : ((number : ℕ) (y : Instance) → slice_get t.instances number ≡ Some y
      → is_given t.world.memory y ≡ true → is_finished y.status ≡ false
      → HasCaller e t.world.memory y number t.top []
      → HasCaller e t.world.memory y number (record t.top { at = t.top.at + 1 }) (new ∷ []))
      → HaveCallers e (push (with_status t n x Status.Running) new)
  woken_keeps stay = record {
    each = λ number y at given goes.
        let old = was number y at in
        let given_then : is_given t.world.memory old.before ≡ true
        = sym (given_as e old.before y number old.coroutine old.block old.start t.world.memory) ∙ given in
        let going_then = old.going goes in
        called_as e old.before y number old.coroutine old.block old.start t.world.memory [] (new ∷ further ∷ t.below)
        (called_below e t.world.memory old.before number t.top further new t.below
        (record { func = refl; block = refl; result = refl; mode = refl; instance = refl; has_left = refl })
        (stay number old.before old.there given_then going_then)
        (h.each number old.before old.there given_then going_then));
    last = last_as e t.instances after.instances was t.world.memory t.world.memory (λ number y at given. given) h.last;
    ramps = (
      λ frame is none. absurd (ramp_or new label to frame comes.goes is),
      ramps_as e t.instances after.instances was (further ∷ t.below)
          (given_on e t.instances t.top further t.below refl refl refl h.ramps),
    );
  }

-- ---- who destroys

nth_local : (m : Module) (env : Env) (args : List Arg) (v : ℕ) → operand_at args 0 ≡ Operand.Local v
    → nth (arg_values m env args) 0 ≡ value_in env v
nth_local m env [] v is = absurd (cc)
nth_local m env (a ∷ args) v is = ap (operand_value m env a.ty) is

local_is : (v : ℕ) (x : Operand) → is_local v x ≡ true → x ≡ Operand.Local v
local_is v (Operand.Local u) is = ap Operand.Local (sym (equal_numbers v u is))
local_is v (Operand.Global n) is = absurd (cc)
local_is v (Operand.Number z) is = absurd (cc)
local_is v Operand.True is = absurd (cc)
local_is v Operand.False is = absurd (cc)
local_is v Operand.Null is = absurd (cc)
local_is v Operand.None is = absurd (cc)
local_is v Operand.Poison is = absurd (cc)

yes_no : (p : Bool) → p ≡ true → p ≡ false → ⊥
yes_no true y n = absurd (cc)
yes_no false y n = absurd (cc)

-- a handle leads to the instance that isn't Finished
module _ (e : Elision) (t : State) (h : HaveCallers e t) (number : ℕ) (y : Instance)
    (there : slice_get t.instances number ≡ Some y) (given : is_given t.world.memory y ≡ true)
    (going : is_finished y.status ≡ false) (n : ℕ) (x : Instance)
    (finds : instance_at t.instances (frame_address_of y) ≡ Some (n, x)) where
  abbrev test : Instance → Bool
  test = began_at y.block y.start

  mine : test y ≡ true
  mine = λ j. itself y.block j && itself y.start j

  found_last : IsLastOf test t.instances n x
  found_last = where_last test t.instances n x finds

  pub finds_it : (n ≡ number) × (x ≡ y)
  finds_it = by (cases_lt n number) (cases_lt number n)
    where
      one : (a b : Instance) → Some a ≡ Some b → a ≡ b
      one a b e = cc

      by : (n < number) ⊎ (number ≤ n) → (number < n) ⊎ (n ≤ number) → (n ≡ number) × (x ≡ y)
      by (inl lt) either = absurd (yes_no (test y) mine (found_last.later number y lt there))
      by (inr le) (inl lt) =
          absurd (yes_no (is_finished y.status) (h.last number n y x there found_last.there lt given found_last.passes)
          going)
      by (inr le) (inr ge) =
          let same : n ≡ number = omega (arith, le, ge) in
          (same, one x y (sym found_last.there ∙ (ap (slice_get t.instances) same ∙ there)))

-- a caller that waits for nobody may wait for another activation
held_under : (e : Elision) (memory : List MemoryBlock) (y : Instance) (number : ℕ) (c : Activation)
    (above : List Activation) → HasCaller e memory y number c [] → HasCaller e memory y number c above
held_under e memory y number c above h = record {
  call = h.call;
  instr = h.instr;
  name = h.name;
  site = h.site;
  start = h.start;
  address = h.address;
  slot = h.slot;
  lives = h.lives;
  holds = by [] h.holds refl;
}
  where
    by : (rows : List Activation) → Holds e y number h.call h.instr c rows → rows ≡ []
        → Holds e y number h.call h.instr c above
    by _ (Calling d rows stands func result instance mode) none = absurd (cc)
    by _ (Destroying p v d rows stands result destroys) none = absurd (cc)
    by _ (Held p rows stands reached handle) none = Held p above stands reached handle

-- ---- at a resume or a destroy

module _ (e : Elision) (t : State) (at : ℕ) (i : Instr) (k : StandsAtInstr e t at i) (h : HaveCallers e t) where
  abbrev next : Activation
  next = record t.top { at = t.top.at + 1 }

  -- a caller that doesn't destroy its handle goes on
  goes_further : (new : Activation) (y : Instance) (number : ℕ) (c : HasCaller e t.world.memory y number t.top [])
      → is_destroy_of (result_of c.instr) i ≡ false
      → HasCaller e t.world.memory y number (record t.top { at = t.top.at + 1 }) (new ∷ [])
  goes_further new y number c none =
      let plain = c.site.plain in
      held_under e t.world.memory y number next (new ∷ [])
      (caller_moves e t.top next (record { block = t.top.block; at = at })
      (record { block = t.top.block; at = at + 1 })
      (goes_as e t.top next
      (record { func = refl; block = refl; result = refl; mode = refl; instance = refl; has_left = refl }))
      (instr_moves e t.top next at i k.there k.stands plain (k.handles plain)
      (record { func = refl; block = refl; result = refl; mode = refl; instance = refl; has_left = refl }) refl
      (λ v ne. refl) (λ z has. has)) (k.handles plain).destroyed t.world.memory y number c
      (where_none (is_destroy_of (result_of c.instr)) (function_in e t.top.func)
      (record { block = t.top.block; at = at })
      (ap (passes (is_destroy_of (result_of c.instr))) (instr_found (function_in e t.top.func)
      (record { block = t.top.block; at = at }) i k.there) ∙ none)))

  -- it stands behind the place then
  next_stands : (function_in e t.top.func).coroutine ≡ false
      → StandsAt e (record t.top { at = t.top.at + 1 }) (record { block = t.top.block; at = at + 1 })
  next_stands plain =
      (instr_moves e t.top next at i k.there k.stands plain (k.handles plain)
      (record { func = refl; block = refl; result = refl; mode = refl; instance = refl; has_left = refl }) refl
      (λ v ne. refl) (λ z has. has)).behind

-- ---- what the step does

module _ (stops : Function → Point → Bool) (label : Function → Point → ℕ) (e : Elision) (t : State)
    (h : HaveCallers e t) (p : Value)
    (stay : (n : ℕ) (x : Instance) (q : Point) (env : Env) → instance_at t.instances p ≡ Some (n, x)
    → slice_get t.instances n ≡ Some x → x.status ≡ Status.Suspended q env → (new : Activation)
    → ComesOn new x n (position_of (function_at (elided_code e) x.coroutine)
    (label (function_at (elided_code e) x.coroutine) q)) (label (function_at (elided_code e) x.coroutine) q)
    → (number : ℕ) (y : Instance) → slice_get t.instances number ≡ Some y → is_given t.world.memory y ≡ true
    → is_finished y.status ≡ false → HasCaller e t.world.memory y number t.top []
    → HasCaller e t.world.memory y number (record t.top { at = t.top.at + 1 }) (new ∷ [])) where
  abbrev goes : Sleeper → Result State Cause
  goes y =
      ok_if (not (stops (function_at (elided_code e) y.instance.coroutine) y.suspend)) Cause.State
      (continue_framed (elided e) t y.number y.instance y.suspend y.values
      (label (function_at (elided_code e) y.instance.coroutine) y.suspend))

  abbrev found_goes : Option (ℕ × Instance) → Result State Cause
  found_goes o =
      and_then (and_then (found Cause.Frame o) (λ (z : ℕ × Instance). sleeper_of z.0 z.1 z.1.status)) goes

  in_list : (p : Value) (n : ℕ) (x : Instance) → instance_at t.instances p ≡ Some (n, x)
      → slice_get t.instances n ≡ Some x
  in_list (Value.Ptr (Pointer.At b o)) n x finds = (is_found (began_at b o.bits) n x t.instances finds).0
  in_list (Value.Ptr Pointer.Null) n x finds = absurd (cc)
  in_list (Value.Ptr (Pointer.Func g)) n x finds = absurd (cc)
  in_list Value.Poison n x finds = absurd (cc)
  in_list (Value.Int w) n x finds = absurd (cc)

  wakes : (n : ℕ) (x : Instance) (q : Point) (env : Env) → instance_at t.instances p ≡ Some (n, x)
      → x.status ≡ Status.Suspended q env
      → HaveCallers e (continue_framed (elided e) t n x q env (label (function_at (elided_code e) x.coroutine) q))
  wakes n x q env finds sleeps =
      let there = in_list p n x finds in
      subst (HaveCallers e)
      (sym (goes_on (elided e) t n x q env (label (function_at (elided_code e) x.coroutine) q)))
      (woken_keeps e t n x there (ap is_finished sleeps) _ _ _
      (comes_on (elided_code e) (function_at (elided_code e) x.coroutine) x n (frame_address_of x) q.block
      (label (function_at (elided_code e) x.coroutine) q)
      (alloca_from (function_at (elided_code e) x.coroutine) 0)) h
      (stay n x q env finds there sleeps _
      (comes_on (elided_code e) (function_at (elided_code e) x.coroutine) x n (frame_address_of x) q.block
      (label (function_at (elided_code e) x.coroutine) q)
      (alloca_from (function_at (elided_code e) x.coroutine) 0))))

  by_stop : (n : ℕ) (x : Instance) (q : Point) (env : Env) → instance_at t.instances p ≡ Some (n, x)
      → x.status ≡ Status.Suspended q env → (b : Bool)
      → Keep e (ok_if (not b) Cause.State
      (continue_framed (elided e) t n x q env (label (function_at (elided_code e) x.coroutine) q)))
  by_stop n x q env finds sleeps true = tt
  by_stop n x q env finds sleeps false = wakes n x q env finds sleeps

  by_status : (n : ℕ) (x : Instance) → instance_at t.instances p ≡ Some (n, x) → (z : Status) → x.status ≡ z
      → Keep e (and_then (sleeper_of n x z) goes)
  by_status n x finds Status.Running is = tt
  by_status n x finds (Status.Suspended q env) is =
      by_stop n x q env finds is (stops (function_at (elided_code e) x.coroutine) q)
  by_status n x finds Status.Finished is = tt

  pub wake_keeps : Keep e (found_goes (instance_at t.instances p))
  wake_keeps = on (instance_at t.instances p) refl
    where
      on : (o : Option (ℕ × Instance)) → instance_at t.instances p ≡ o → Keep e (found_goes o)
      on None finds = tt
      on (Some z) finds = by_status z.0 z.1 finds z.1.status refl

-- ---- the steps

module _ (e : Elision) (t : State) (at : ℕ) (result : Option ℕ) (must_tail : Bool) (ty : Option Ty)
    (args : List Arg) (h : HaveCallers e t) where
  abbrev call_of : Intrinsic → Instr
  call_of j = Instr.Call result must_tail ty (Callee.Intrinsic j) args

  abbrev p : Value
  p = nth (arg_values (elided e).given.code t.top.values args) 0

  -- a resume
  resumes_none : (o : Option ℕ) → is_destroy_of o (call_of Intrinsic.CoroResume) ≡ false
  resumes_none None = refl
  resumes_none (Some v) = refl

  pub resumes_keep : StandsAtInstr e t at (Instr.Call result must_tail ty (Callee.Intrinsic Intrinsic.CoroResume) args)
      → HaveCallers e (framed_step (elided e) t)
  resumes_keep k =
      next_keeps e t at (call_of Intrinsic.CoroResume) k h
      (wake_keeps is_final resume_label e t h p
      (λ n x q env finds there sleeps new comes number y to given going c.
      goes_further e t at (call_of Intrinsic.CoroResume) k h new y number c (resumes_none (result_of c.instr))))

  -- a destroy of the handle finds the instance that began there
  module _ (k : StandsAtInstr e t at (Instr.Call result must_tail ty (Callee.Intrinsic Intrinsic.CoroDestroy) args))
      (none : (number : ℕ) (x : Instance) → slice_get t.instances number ≡ Some x → GivesNone e x.coroutine)
      (edges : WakesByEdge e t) where
    same_function : (n : ℕ) (x : Instance) → slice_get t.instances n ≡ Some x
        → function_at (elided_code e) x.coroutine ≡ function_in e x.coroutine
    same_function n x there =
        (finds_alike e).functions x.coroutine
        ∙ function_same (rooms e x.coroutine) (none n x there) (function_in e x.coroutine)

    destroyed : (n : ℕ) (x : Instance) (q : Point) (env : Env) → instance_at t.instances p ≡ Some (n, x)
        → slice_get t.instances n ≡ Some x → x.status ≡ Status.Suspended q env → (new : Activation)
        → ComesOn new x n (position_of (function_at (elided_code e) x.coroutine)
        (destroy_label (function_at (elided_code e) x.coroutine) q))
        (destroy_label (function_at (elided_code e) x.coroutine) q)
        → (number : ℕ) (y : Instance) → slice_get t.instances number ≡ Some y → is_given t.world.memory y ≡ true
        → is_finished y.status ≡ false → HasCaller e t.world.memory y number t.top []
        → HasCaller e t.world.memory y number (record t.top { at = t.top.at + 1 }) (new ∷ [])
    destroyed n x q env finds there sleeps new comes number y to given going c =
        by (result_of c.instr) refl
        (is_destroy_of (result_of c.instr) (call_of Intrinsic.CoroDestroy)) refl
      where
        label_same : destroy_label (function_at (elided_code e) x.coroutine) q
            ≡ destroy_label (function_in e x.coroutine) q
        label_same = ap (λ (g : Function). destroy_label g q) (same_function n x there)

        to_same : position_of (function_at (elided_code e) x.coroutine)
            (destroy_label (function_at (elided_code e) x.coroutine) q)
            ≡ position_of (function_in e x.coroutine) (destroy_label (function_at (elided_code e) x.coroutine) q)
        to_same =
            ap (λ (g : Function). position_of g (destroy_label (function_at (elided_code e) x.coroutine) q))
            (same_function n x there)

        on_edge : IsOn Way.Destroyed (function_in e x.coroutine) (position_of (function_in e x.coroutine)
            (destroy_label (function_at (elided_code e) x.coroutine) q))
        on_edge =
            subst (λ (l : ℕ). IsOn Way.Destroyed (function_in e x.coroutine) (position_of (function_in e x.coroutine)
            l)) (sym label_same) (edges n x q env there sleeps)

        destroys_it : IsDestroying e x n new
        destroys_it = destroys_now e new x n _ _ comes to_same on_edge

        -- the value of the handle
        held_value : (v : ℕ) → result_of c.instr ≡ Some v → value_in t.top.values v ≡ frame_address_of y
        held_value v is = on [] c.holds refl
          where
            on : (rows : List Activation) → Holds e y number c.call c.instr t.top rows → rows ≡ []
                → value_in t.top.values v ≡ frame_address_of y
            on _ (Calling d rows stands func result instance mode) none = absurd (cc)
            on _ (Destroying r w d rows stands result destroys) none = absurd (cc)
            on _ (Held r rows stands reached handle) none = handle v is

        takes : (v : ℕ) → result_of c.instr ≡ Some v
            → is_destroy_of (Some v) (call_of Intrinsic.CoroDestroy) ≡ true
            → instance_at t.instances (frame_address_of y) ≡ Some (n, x)
        takes v is does =
            ap (instance_at t.instances) (sym (nth_local (elided e).given.code t.top.values args v
            (local_is v (operand_at args 0) does) ∙ held_value v is)) ∙ finds

        by : (o : Option ℕ) → result_of c.instr ≡ o → (b : Bool)
            → is_destroy_of (result_of c.instr) (call_of Intrinsic.CoroDestroy) ≡ b
            → HasCaller e t.world.memory y number (record t.top { at = t.top.at + 1 }) (new ∷ [])
        by o is false none = goes_further e t at (call_of Intrinsic.CoroDestroy) k h new y number c none
        by None is true does =
            absurd (let no : false ≡ true
            = ap (λ (o : Option ℕ). is_destroy_of o (call_of Intrinsic.CoroDestroy)) (sym is) ∙ does in cc)
        by (Some v) is true does =
            let done_v : is_destroy_of (Some v) (call_of Intrinsic.CoroDestroy) ≡ true
            = ap (λ (o : Option ℕ). is_destroy_of o (call_of Intrinsic.CoroDestroy)) (sym is) ∙ does in
            let one = finds_it e t h number y to given going n x (takes v is done_v) in
            record {
              call = c.call;
              instr = c.instr;
              name = c.name;
              site = c.site;
              start = c.start;
              address = c.address;
              slot = c.slot;
              lives = c.lives;
              holds = Destroying (record { block = t.top.block; at = at + 1 }) v new []
                  (next_stands e t at (call_of Intrinsic.CoroDestroy) k h c.site.plain) is
                  (subst (λ (z : Instance × ℕ). IsDestroying e z.0 z.1 new) (λ j. (one.1 j, one.0 j)) destroys_it);
            }

    pub destroys_keep : HaveCallers e (framed_step (elided e) t)
    destroys_keep =
        next_keeps e t at (call_of Intrinsic.CoroDestroy) k h
        (wake_keeps (λ f q. false) destroy_label e t h p destroyed)
