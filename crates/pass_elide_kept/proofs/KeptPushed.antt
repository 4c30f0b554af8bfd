-- Keepers stay where another activation comes on top. A keeper that destroys its handle waits for the activation that
-- it has called.
use Rattle.std.proofs.Common.{◌≡◌, ◌+◌, ◌<◌, ◌≤◌, ◌⊎◌, ◌∙◌, ◌&&◌, ◌∷◌, [], ap, arith, Bool, false, inl, inr, List, not, Option, refl, Result, subst, sym, true, ℕ}
use Rattle.std.proofs.lemmas.Bool.{cases_lt}
use Rattle.std.specs.Prelude.{None, Some, slice_get, slice_set}
use Rattle.elide_sites.specs.Destroyed.{IsOn}
use Rattle.elide_sites.specs.Sites.{is_destroy_of}
use Rattle.elide_sites.specs.declared.destroyed.Way.{Way}
use Rattle.pass_elide_kept.proofs.Goes.{step_is}
use Rattle.pass_elide_kept.proofs.Keepers.{keeper_moves, kept_under}
use Rattle.pass_elide_kept.proofs.KeptEdges.{KeepersIf, or_kept}
use Rattle.pass_elide_kept.proofs.KeptRows.{all_renewed, renewed_on, rows_keep}
use Rattle.pass_elide_kept.specs.Keepers.{IsOver, IsRenewed, KeepersIn}
use Rattle.pass_elide_kept.specs.Kept.{Calling, Destroying, HasKeeper, Held, IsKeptIn, Keeps}
use Rattle.pass_elide_kept.specs.Steps.{StandsAtCall}
use Rattle.pass_elide_proof.proofs.CallersEdges.{status_was}
use Rattle.pass_elide_proof.proofs.CallersInstr.{fetched_at, instr_moves}
use Rattle.pass_elide_proof.proofs.CallersOnward.{instr_found}
use Rattle.pass_elide_proof.proofs.CallersWaking.{ComesOn, comes_on, destroys_now}
use Rattle.pass_elide_proof.proofs.Entered.{goes_on, woken}
use Rattle.pass_elide_proof.proofs.Facts.{not_both}
use Rattle.pass_elide_proof.proofs.Found.{IsLastOf, where_last}
use Rattle.pass_elide_proof.proofs.LastOnes.{is_found}
use Rattle.pass_elide_proof.proofs.Modules.{finds_alike}
use Rattle.pass_elide_proof.proofs.Stacks.{KeepsHead, destroys_on}
use Rattle.pass_elide_proof.proofs.Unelided.{function_same}
use Rattle.pass_elide_proof.specs.Callers.{KeepsHandles, MovesOn, StandsAtInstr, WakesByEdge, WasBefore}
use Rattle.pass_elide_proof.specs.Elision.{Elision, elided, elided_code, function_in, rooms}
use Rattle.pass_elide_proof.specs.Invariant.{IsDestroying}
use Rattle.pass_elide_proof.specs.Places.{instrs_of, own_at}
use Rattle.pass_elide_proof.specs.Waking.{GivesNone}
use Rattle.pass_elide_proof.proofs.pass_proofs.ir_laws.facts.Truth.{equal_numbers, itself}
use Rattle.pass_elide_proof.proofs.pass_proofs.ir_laws.paths.renamed.Outside.{where_none}
use Rattle.pass_elide_proof.specs.pass_proofs.ir_base.declared.cause.Cause.{Cause}
use Rattle.pass_elide_proof.specs.pass_proofs.ir_laws.facts.renamed.Regular.{passes}
use Rattle.pass_elide_proof.specs.pass_proofs.ir_model.Names.{function_at, is_local, position_of}
use Rattle.pass_elide_proof.specs.pass_proofs.ir_model.Ty.{Ty}
use Rattle.pass_elide_proof.specs.pass_proofs.ir_model.declared.instr.Instr.{Instr}
use Rattle.pass_elide_proof.specs.pass_proofs.ir_model.declared.module.Function.{Function}
use Rattle.pass_elide_proof.specs.pass_proofs.ir_model.declared.module.Module.{Module}
use Rattle.pass_elide_proof.specs.pass_proofs.ir_model.declared.operand.Arg.{Arg}
use Rattle.pass_elide_proof.specs.pass_proofs.ir_model.declared.operand.Callee.{Callee}
use Rattle.pass_elide_proof.specs.pass_proofs.ir_model.declared.operand.Intrinsic.{Intrinsic}
use Rattle.pass_elide_proof.specs.pass_proofs.ir_model.declared.operand.Operand.{Operand}
use Rattle.pass_elide_proof.specs.pass_proofs.ir_parts.Contents.{result_of}
use Rattle.pass_elide_proof.specs.pass_proofs.ir_paths.Windows.{destroy_label, operand_at, resume_label}
use Rattle.pass_elide_proof.specs.pass_proofs.ir_paths.declared.point.Point.{Point}
use Rattle.pass_elide_proof.specs.pass_proofs.run_agreement.Machines.{IsFine}
use Rattle.pass_elide_proof.specs.pass_proofs.run_framed.Framed.{alloca_from, continue_framed, framed_next, framed_step, is_given}
use Rattle.pass_elide_proof.specs.pass_proofs.run_memory.declared.pointer.Pointer.{Pointer}
use Rattle.pass_elide_proof.specs.pass_proofs.run_memory.declared.pointer.Value.{Value}
use Rattle.pass_elide_proof.specs.pass_proofs.run_source.Source.{Sleeper, push, sleeper_of}
use Rattle.pass_elide_proof.specs.pass_proofs.run_source.State.{began_at, frame_address_of, instance_at, is_finished}
use Rattle.pass_elide_proof.specs.pass_proofs.run_source.declared.state.Activation.{Activation}
use Rattle.pass_elide_proof.specs.pass_proofs.run_source.declared.state.Instance.{Instance}
use Rattle.pass_elide_proof.specs.pass_proofs.run_source.declared.state.State.{State}
use Rattle.pass_elide_proof.specs.pass_proofs.run_source.declared.state.Status.{Status}
use Rattle.pass_elide_proof.specs.pass_proofs.run_source_tables.Given.{is_final}
use Rattle.pass_elide_proof.specs.pass_proofs.run_step.Results.{and_then, found, ok_if}
use Rattle.pass_elide_proof.specs.pass_proofs.run_step.Step.{AtInstr}
use Rattle.pass_elide_proof.specs.pass_proofs.run_step.Values.{Env, arg_values, nth, operand_value, value_in}

-- ---- an activation on top

module _ (e : Elision) (z t : State) (at : ℕ) (i : Instr)
    (there : slice_get (instrs_of (function_in e t.top.func) t.top.block) at ≡ Some i)
    (stands : t.top.at ≡ own_at (rooms e t.top.func) (function_in e t.top.func) t.top.block at)
    (handles : (function_in e t.top.func).coroutine ≡ false → KeepsHandles e t.top.func) (h : KeepersIn e z t) where
  abbrev further : Activation
  further = record t.top { at = t.top.at + 1 }

  same : KeepsHead t.top further
  same = record { func = refl; block = refl; result = refl; mode = refl; instance = refl; has_left = refl }

  moves : (function_in e t.top.func).coroutine ≡ false
      → MovesOn e t.top further (record { block = t.top.block; at = at }) (record { block = t.top.block; at = at + 1 })
  moves plain =
      instr_moves e t.top further at i there stands plain (handles plain) same refl (λ v ne. refl) (λ s has. has)

  -- a keeper that doesn't destroy its handle goes on
  pub goes_further : (new : Activation) (x : Instance) (number : ℕ) (c : HasKeeper e x number t.top None)
      → is_destroy_of (result_of c.instr) i ≡ false
      → HasKeeper e x number (record t.top { at = t.top.at + 1 }) (Some new)
  goes_further new x number c none =
      let plain = c.site.plain in
      keeper_moves e t.top further (record { block = t.top.block; at = at })
      (record { block = t.top.block; at = at + 1 }) refl (moves plain) (handles plain).destroyed x number c
      (where_none (is_destroy_of (result_of c.instr)) (function_in e t.top.func)
      (record { block = t.top.block; at = at })
      (ap (passes (is_destroy_of (result_of c.instr))) (instr_found (function_in e t.top.func)
      (record { block = t.top.block; at = at }) i there) ∙ none)) (Some new)

  pub pushed_keep : (new : Activation) (xs : List Instance)
      → ((number : ℕ) (y : Instance) → slice_get xs number ≡ Some y → WasBefore t.instances number y)
      → IsRenewed z xs new
      → ((number : ℕ) (x : Instance) → slice_get t.instances number ≡ Some x → is_given t.world.memory x ≡ true
      → HasKeeper e x number t.top None
      → IsOver z number x ⊎ HasKeeper e x number (record t.top { at = t.top.at + 1 }) (Some new))
      → KeepersIn e z (push (record t { instances = xs }) new)
  pushed_keep new xs was renewed to =
      rows_keep e z t (push (record t { instances = xs }) new) was (λ number y there given. given) h
      (λ number x there given c. by number x (to number x there given) c) (
        renewed,
        (
          renewed_on z t.instances xs was t.top further refl refl h.renewed.0,
          all_renewed z t.instances xs was t.below h.renewed.1,
        ),
      )
    where
      on : (number : ℕ) (x : Instance) → IsOver z number x ⊎ HasKeeper e x number further (Some new)
          → IsOver z number x ⊎ IsKeptIn e x number None (new ∷ further ∷ t.below)
      on number x (inl over) = inl over
      on number x (inr c) = inr (inr (inl c))

      by : (number : ℕ) (x : Instance)
          → (HasKeeper e x number t.top None → IsOver z number x ⊎ HasKeeper e x number further (Some new))
          → IsKeptIn e x number None (t.top ∷ t.below)
          → IsOver z number x ⊎ IsKeptIn e x number None (new ∷ further ∷ t.below)
      by number x to (inl c) = on number x (to c)
      by number x to (inr c) =
          inr (inr (inr (kept_under e x number t.top further (record {
            func = refl;
            result = refl;
            instance = λ n is. is;
            mode = λ frame is. is;
          }) (destroys_on e [] x number t.top further same) t.below c)))

-- ---- resumes and destroys

nth_local : (m : Module) (env : Env) (args : List Arg) (v : ℕ) → operand_at args 0 ≡ Operand.Local v
    → nth (arg_values m env args) 0 ≡ value_in env v
nth_local m env [] v is = absurd (cc)
nth_local m env (a ∷ args) v is = ap (operand_value m env a.ty) is

local_is : (v : ℕ) (x : Operand) → is_local v x ≡ true → x ≡ Operand.Local v
local_is v (Operand.Local u) is = ap Operand.Local (sym (equal_numbers v u is))
local_is v (Operand.Global n) is = absurd (cc)
local_is v (Operand.Number q) is = absurd (cc)
local_is v Operand.True is = absurd (cc)
local_is v Operand.False is = absurd (cc)
local_is v Operand.Null is = absurd (cc)
local_is v Operand.None is = absurd (cc)
local_is v Operand.Poison is = absurd (cc)

-- what an address leads to is the instance, or that one is over
module _ (e : Elision) (z t : State) (h : KeepersIn e z t) (number : ℕ) (y : Instance)
    (there : slice_get t.instances number ≡ Some y) (given : is_given t.world.memory y ≡ true) (n : ℕ) (x : Instance)
    (finds : instance_at t.instances (frame_address_of y) ≡ Some (n, x)) where
  abbrev test : Instance → Bool
  test = began_at y.block y.start

  mine : test y ≡ true
  mine = λ j. itself y.block j && itself y.start j

  found_last : IsLastOf test t.instances n x
  found_last = where_last test t.instances n x finds

  pub finds_it : IsOver z number y ⊎ ((n ≡ number) × (x ≡ y))
  finds_it = by (cases_lt n number) (cases_lt number n)
    where
      one : (a b : Instance) → Some a ≡ Some b → a ≡ b
      one a b e = cc

      by : (n < number) ⊎ (number ≤ n) → (number < n) ⊎ (n ≤ number)
          → IsOver z number y ⊎ ((n ≡ number) × (x ≡ y))
      by (inl lt) either = absurd (not_both (test y) mine (found_last.later number y lt there))
      by (inr le) (inl lt) = inl (h.replaced number n y x there found_last.there lt given found_last.passes)
      by (inr le) (inr ge) =
          let same : n ≡ number = omega (arith, le, ge) in
          inr (same, one x y (sym found_last.there ∙ (ap (slice_get t.instances) same ∙ there)))

-- an activation that is woken isn't about to begin
woken_renewed : (z : State) (ys : List Instance) (m : Module) (f : Function) (func number : ℕ) (frame : Value)
    (from label : ℕ) (o : Option Point) → IsRenewed z ys (woken m f func number frame from label o)
woken_renewed z ys m f func number frame from label None block offset none is = absurd (cc)
woken_renewed z ys m f func number frame from label (Some p) block offset none is = absurd (cc)

module _ (stops : Function → Point → Bool) (label : Function → Point → ℕ) (e : Elision) (z t : State) (at : ℕ)
    (i : Instr) (k : StandsAtInstr e t at i) (h : KeepersIn e z t) (p : Value)
    (to : (n : ℕ) (x : Instance) (q : Point) (env : Env) → instance_at t.instances p ≡ Some (n, x)
    → slice_get t.instances n ≡ Some x → x.status ≡ Status.Suspended q env → (new : Activation)
    → ComesOn new x n (position_of (function_at (elided_code e) x.coroutine)
    (label (function_at (elided_code e) x.coroutine) q)) (label (function_at (elided_code e) x.coroutine) q)
    → (number : ℕ) (y : Instance) → slice_get t.instances number ≡ Some y → is_given t.world.memory y ≡ true
    → HasKeeper e y number t.top None
    → IsOver z number y ⊎ HasKeeper e y number (record t.top { at = t.top.at + 1 }) (Some new)) where
  abbrev goes : Sleeper → Result State Cause
  goes y =
      ok_if (not (stops (function_at (elided_code e) y.instance.coroutine) y.suspend)) Cause.State
      (continue_framed (elided e) t y.number y.instance y.suspend y.values
      (label (function_at (elided_code e) y.instance.coroutine) y.suspend))

  abbrev found_goes : Option (ℕ × Instance) → Result State Cause
  found_goes o =
      and_then (and_then (found Cause.Frame o) (λ (q : ℕ × Instance). sleeper_of q.0 q.1 q.1.status)) goes

  in_list : (p : Value) (n : ℕ) (x : Instance) → instance_at t.instances p ≡ Some (n, x)
      → slice_get t.instances n ≡ Some x
  in_list (Value.Ptr (Pointer.At b o)) n x finds = (is_found (began_at b o.bits) n x t.instances finds).0
  in_list (Value.Ptr Pointer.Null) n x finds = absurd (cc)
  in_list (Value.Ptr (Pointer.Func g)) n x finds = absurd (cc)
  in_list Value.Poison n x finds = absurd (cc)
  in_list (Value.Int w) n x finds = absurd (cc)

  wakes : (n : ℕ) (x : Instance) (q : Point) (env : Env) → instance_at t.instances p ≡ Some (n, x)
      → x.status ≡ Status.Suspended q env
      → KeepersIn e z (continue_framed (elided e) t n x q env (label (function_at (elided_code e) x.coroutine) q))
  wakes n x q env finds sleeps =
      let there = in_list p n x finds in
      let f = function_at (elided_code e) x.coroutine in
      let new = woken (elided_code e) f x.coroutine n (frame_address_of x) q.block (label f q) (alloca_from f 0) in
      subst (KeepersIn e z) (sym (goes_on (elided e) t n x q env (label f q)))
      (pushed_keep e z t at i k.there k.stands k.handles h new
      (slice_set t.instances n (record x { status = Status.Running }))
      (status_was t.instances n x (record x { status = Status.Running }) there refl refl refl
      (λ running. ap is_finished sleeps))
      (woken_renewed z (slice_set t.instances n (record x { status = Status.Running })) (elided_code e) f x.coroutine n
      (frame_address_of x) q.block (label f q) (alloca_from f 0))
      (to n x q env finds there sleeps new
      (comes_on (elided_code e) f x n (frame_address_of x) q.block (label f q) (alloca_from f 0))))

  by_stop : (n : ℕ) (x : Instance) (q : Point) (env : Env) → instance_at t.instances p ≡ Some (n, x)
      → x.status ≡ Status.Suspended q env → (b : Bool)
      → KeepersIf e z (ok_if (not b) Cause.State
      (continue_framed (elided e) t n x q env (label (function_at (elided_code e) x.coroutine) q)))
  by_stop n x q env finds sleeps true = tt
  by_stop n x q env finds sleeps false = wakes n x q env finds sleeps

  by_status : (n : ℕ) (x : Instance) → instance_at t.instances p ≡ Some (n, x) → (s : Status) → x.status ≡ s
      → KeepersIf e z (and_then (sleeper_of n x s) goes)
  by_status n x finds Status.Running is = tt
  by_status n x finds (Status.Suspended q env) is =
      by_stop n x q env finds is (stops (function_at (elided_code e) x.coroutine) q)
  by_status n x finds Status.Finished is = tt

  pub wake_keeps : KeepersIf e z (found_goes (instance_at t.instances p))
  wake_keeps = on (instance_at t.instances p) refl
    where
      on : (o : Option (ℕ × Instance)) → instance_at t.instances p ≡ o → KeepersIf e z (found_goes o)
      on None finds = tt
      on (Some x) finds = by_status x.0 x.1 finds x.1.status refl

pub next_kept : (e : Elision) (z t : State) (at : ℕ) (i : Instr) → StandsAtInstr e t at i
    → IsFine (framed_step (elided e) t).outcome → KeepersIf e z (framed_next (elided e) t (AtInstr i))
    → KeepersIn e z (framed_step (elided e) t)
next_kept e z t at i k fine kept =
    let is = step_is (elided e) t (AtInstr i) k.runs (fetched_at e t at i k) in
    subst (KeepersIn e z) (sym is)
    (or_kept e z t (framed_next (elided e) t (AtInstr i)) (subst (λ (u : State). IsFine u.outcome) is fine) kept)

-- ---- the steps

module _ (e : Elision) (z t : State) (at : ℕ) (result : Option ℕ) (must_tail : Bool) (ty : Option Ty)
    (args : List Arg) (fine : IsFine (framed_step (elided e) t).outcome) (h : KeepersIn e z t) where
  abbrev call_of : Intrinsic → Instr
  call_of j = Instr.Call result must_tail ty (Callee.Intrinsic j) args

  abbrev p : Value
  p = nth (arg_values (elided e).given.code t.top.values args) 0

  resumes_none : (o : Option ℕ) → is_destroy_of o (call_of Intrinsic.CoroResume) ≡ false
  resumes_none None = refl
  resumes_none (Some v) = refl

  pub resumes_keep_keepers : StandsAtCall e t at Intrinsic.CoroResume result must_tail ty args
      → KeepersIn e z (framed_step (elided e) t)
  resumes_keep_keepers k =
      next_kept e z t at (call_of Intrinsic.CoroResume) k fine
      (wake_keeps is_final resume_label e z t at (call_of Intrinsic.CoroResume) k h p
      (λ n x q env finds there sleeps new comes number y is given c.
      inr (goes_further e z t at (call_of Intrinsic.CoroResume) k.there k.stands k.handles h new y number c
      (resumes_none (result_of c.instr)))))

  module _ (k : StandsAtCall e t at Intrinsic.CoroDestroy result must_tail ty args)
      (none : (number : ℕ) (x : Instance) → slice_get t.instances number ≡ Some x → GivesNone e x.coroutine)
      (edges : WakesByEdge e t) where
    same_function : (n : ℕ) (x : Instance) → slice_get t.instances n ≡ Some x
        → function_at (elided_code e) x.coroutine ≡ function_in e x.coroutine
    same_function n x there =
        (finds_alike e).functions x.coroutine
        ∙ function_same (rooms e x.coroutine) (none n x there) (function_in e x.coroutine)

    destroyed : (n : ℕ) (x : Instance) (q : Point) (env : Env) → instance_at t.instances p ≡ Some (n, x)
        → slice_get t.instances n ≡ Some x → x.status ≡ Status.Suspended q env → (new : Activation)
        → ComesOn new x n (position_of (function_at (elided_code e) x.coroutine)
        (destroy_label (function_at (elided_code e) x.coroutine) q))
        (destroy_label (function_at (elided_code e) x.coroutine) q)
        → (number : ℕ) (y : Instance) → slice_get t.instances number ≡ Some y → is_given t.world.memory y ≡ true
        → HasKeeper e y number t.top None
        → IsOver z number y ⊎ HasKeeper e y number (record t.top { at = t.top.at + 1 }) (Some new)
    destroyed n x q env finds there sleeps new comes number y is given c =
        by (result_of c.instr) refl (is_destroy_of (result_of c.instr) (call_of Intrinsic.CoroDestroy)) refl
      where
        label_same : destroy_label (function_at (elided_code e) x.coroutine) q
            ≡ destroy_label (function_in e x.coroutine) q
        label_same = ap (λ (g : Function). destroy_label g q) (same_function n x there)

        to_same : position_of (function_at (elided_code e) x.coroutine)
            (destroy_label (function_at (elided_code e) x.coroutine) q)
            ≡ position_of (function_in e x.coroutine) (destroy_label (function_at (elided_code e) x.coroutine) q)
        to_same =
            ap (λ (g : Function). position_of g (destroy_label (function_at (elided_code e) x.coroutine) q))
            (same_function n x there)

        on_edge : IsOn Way.Destroyed (function_in e x.coroutine) (position_of (function_in e x.coroutine)
            (destroy_label (function_at (elided_code e) x.coroutine) q))
        on_edge =
            subst (λ (l : ℕ). IsOn Way.Destroyed (function_in e x.coroutine) (position_of (function_in e x.coroutine)
            l)) (sym label_same) (edges n x q env there sleeps)

        -- the value of the handle
        held_value : (v : ℕ) → result_of c.instr ≡ Some v → value_in t.top.values v ≡ frame_address_of y
        held_value v gives = on None c.keeps refl
          where
            on : (o : Option Activation) → Keeps e y number c.call c.instr t.top o → o ≡ None
                → value_in t.top.values v ≡ frame_address_of y
            on _ (Calling d stands func result instance mode) empty = absurd (cc)
            on _ (Destroying r j w d stands at of result destroys) empty = absurd (cc)
            on _ (Held r o stands reached handle) empty = handle v gives

        takes : (v : ℕ) → result_of c.instr ≡ Some v
            → is_destroy_of (Some v) (call_of Intrinsic.CoroDestroy) ≡ true
            → instance_at t.instances (frame_address_of y) ≡ Some (n, x)
        takes v gives does =
            ap (instance_at t.instances) (sym (nth_local (elided e).given.code t.top.values args v
            (local_is v (operand_at args 0) does) ∙ held_value v gives)) ∙ finds

        waits : (v : ℕ) → result_of c.instr ≡ Some v → IsOver z number y ⊎ ((n ≡ number) × (x ≡ y))
            → IsOver z number y ⊎ HasKeeper e y number (record t.top { at = t.top.at + 1 }) (Some new)
        waits v gives (inl over) = inl over
        waits v gives (inr one) = inr (record {
          call = c.call;
          instr = c.instr;
          name = c.name;
          site = c.site;
          start = c.start;
          address = c.address;
          slot = c.slot;
          keeps = Destroying (record { block = t.top.block; at = at }) (call_of Intrinsic.CoroDestroy) v new
              (moves e z t at (call_of Intrinsic.CoroDestroy) k.there k.stands k.handles h c.site.plain).behind k.there
              refl gives
              (subst (λ (q : Instance × ℕ). IsDestroying e q.0 q.1 new) (λ j. (one.1 j, one.0 j))
              (destroys_now e new x n _ _ comes to_same on_edge));
        })

        by : (o : Option ℕ) → result_of c.instr ≡ o → (b : Bool)
            → is_destroy_of (result_of c.instr) (call_of Intrinsic.CoroDestroy) ≡ b
            → IsOver z number y ⊎ HasKeeper e y number (record t.top { at = t.top.at + 1 }) (Some new)
        by o gives false calm =
            inr (goes_further e z t at (call_of Intrinsic.CoroDestroy) k.there k.stands k.handles h new y number c calm)
        by None gives true does =
            absurd (let no : false ≡ true
            = ap (λ (o : Option ℕ). is_destroy_of o (call_of Intrinsic.CoroDestroy)) (sym gives) ∙ does in cc)
        by (Some v) gives true does =
            let done_v : is_destroy_of (Some v) (call_of Intrinsic.CoroDestroy) ≡ true
            = ap (λ (o : Option ℕ). is_destroy_of o (call_of Intrinsic.CoroDestroy)) (sym gives) ∙ does in
            waits v gives (finds_it e z t h number y is given n x (takes v gives done_v))

    pub destroys_keep_keepers : KeepersIn e z (framed_step (elided e) t)
    destroys_keep_keepers =
        next_kept e z t at (call_of Intrinsic.CoroDestroy) k fine
        (wake_keeps (λ f q. false) destroy_label e z t at (call_of Intrinsic.CoroDestroy) k h p destroyed)
