-- The meaning in which a resume hands on what crosses its suspend simulates the source meaning.
use Rattle.std.proofs.Common.{◌≡◌, ℕ, ◌+◌, Bool, List, Option, Some, None, Ok, refl, sym, ap, ◌∙◌, subst}
use Rattle.std.specs.Prelude.{IsTrue, IsFalse, slice_get, negsuc}
use Rattle.pass_kept_proof.specs.SuspendRules.{IsCallAt, KeepsNeeded}
use Rattle.pass_kept_proof.specs.Kept.{Keep, continue_keeping}
use Rattle.pass_kept_proof.specs.Needed.{IsNeeded, IsNeededBehind, IsReached, PassesBy, given_by_intrinsic, reads_at, reads_intrinsic}
use Rattle.pass_kept_proof.proofs.Same.{SameOn, nth_same}
use Rattle.pass_kept_proof.proofs.Actions.{SameAction, action_same, work}
use Rattle.pass_kept_proof.proofs.Related.{AreBelow, AreInstances, Goes, Needs, Related, Wants, gives_related, like, needs_enter, needs_next, needs_phi, needs_read}
use Rattle.pass_kept_proof.proofs.Acts.{begin_goes, deallocate_goes, destroy_goes, done_goes, end_goes, enter_related, frame_related, free_related, go_to_goes, new_slot_related, pop_goes, promise_goes, resume_goes, save_then}
use Rattle.run_memory.specs.declared.pointer.Value.{Value}
use Rattle.ir_base.specs.declared.cause.Cause.{Cause}
use Rattle.run_source.specs.Source.{act, context_of, continue, coro, returned, save, save_for, suspend}
use Rattle.run_source.specs.State.{function_of, gives, own_instance, point_of, settled, work_of}
use Rattle.run_source.specs.declared.state.Activation.{Activation}
use Rattle.run_source.specs.declared.state.Instance.{Instance}
use Rattle.run_source.specs.declared.state.Mode.{Mode}
use Rattle.run_source.specs.declared.state.State.{State}
use Rattle.run_source.specs.declared.state.Status.{Status}
use Rattle.ir_model.specs.Names.{function_at, same_intrinsic}
use Rattle.ir_model.specs.Ty.{Ty}
use Rattle.ir_model.specs.declared.instr.Instr.{Instr}
use Rattle.ir_model.specs.declared.module.Function.{Function}
use Rattle.ir_model.specs.declared.operand.Arg.{Arg}
use Rattle.ir_model.specs.declared.operand.Callee.{Callee}
use Rattle.ir_model.specs.declared.operand.Intrinsic.{Intrinsic}
use Rattle.ir_model.specs.declared.operand.Operand.{Operand}
use Rattle.ir_paths.specs.Windows.{operand_at, suspend_of}
use Rattle.ir_paths.specs.declared.point.Point.{Point}
use Rattle.run_step.specs.Results.{and_then, found}
use Rattle.run_step.specs.Step.{Action, AtInstr, Coro, Deallocate, Done, Enter, Fetched, GoTo, NewSlot, Return, Stuck, action_of, fetch}
use Rattle.run_step.specs.Values.{Env, arg_values, integer, nth}
use Rattle.run_source.specs.run_source_tables.Given.{Given}

needs_from : (mode : Mode) (f : Function) (block at v : ℕ) → IsNeeded f v block at → Needs mode f block at v
needs_from Mode.Resumed f block at v n = n
needs_from _ f block at v n = tt

-- what is needed behind a suspend was needed at its save already
pub record SavesEnough (f : Function) : Type 0 where
  pub saved : (save suspend : Point) → IsCallAt Intrinsic.CoroSave f save → suspend_of f save ≡ Some suspend → (v : ℕ) → IsNeededBehind f suspend v → IsNeeded f v save.block save.at
  pub itself : (suspend : Point) → IsCallAt Intrinsic.CoroSuspend f suspend → (v : ℕ) → IsNeededBehind f suspend v → IsNeeded f v suspend.block suspend.at

-- what is asked of a state of the source
pub record Holds (g : Given) (s : State) : Type 0 where
  pub own : (i : ℕ) (y : Instance) → own_instance s ≡ Some (i, y) → y.coroutine ≡ s.top.func
  pub reached : (i : ℕ) (x : Instance) (at : Point) (vs : Env) → slice_get s.instances i ≡ Some x → x.status ≡ Status.Suspended at vs → IsReached (function_at g.code x.coroutine) at.block at.at × IsCallAt Intrinsic.CoroSuspend (function_at g.code x.coroutine) at

module _ (g : Given) (keep : Keep) (enough : (func : ℕ) → SavesEnough (function_at g.code func)) (keeps : KeepsNeeded g.code keep) (s : State) (holds : Holds g s) (ws : Env) (bs : List Activation) (ys : List Instance) (same : SameOn (Wants g s.top) s.top.values ws) (acts : AreBelow g s.top.result s.below bs) (insts : AreInstances g s.instances ys) where
  abbrev After : ℕ → Type 0
  After v = Needs s.top.mode (function_of g s) s.top.block (s.top.at + 1) v

  abbrev here : Fetched
  here = fetch (function_of g s) s.top.block s.top.at

  module _ (i : Intrinsic) (result : Option ℕ) (must_tail : Bool) (ty : Option Ty) (args : List Arg) (e : here ≡ AtInstr (Instr.Call result must_tail ty (Callee.Intrinsic i) args)) where
    reads_here : (v : ℕ) → IsTrue (reads_intrinsic v i args) → Wants g s.top v
    reads_here v t = needs_read s.top.mode (function_of g s) s.top.block s.top.at v (subst (λ (y : Fetched). IsTrue (reads_at v y)) (sym e) t)

    passes_here : IsFalse (same_intrinsic Intrinsic.CoroEnd i) → (v : ℕ) → After v → (given_by_intrinsic i result ≡ Some v → ⊥) → Wants g s.top v
    passes_here ns v n ne = needs_next s.top.mode (function_of g s) s.top.block s.top.at v n (subst (PassesBy v) (sym e) (ns, ne))

  gives_here : (i : Intrinsic) (result : Option ℕ) (must_tail : Bool) (ty : Option Ty) (args : List Arg) → here ≡ AtInstr (Instr.Call result must_tail ty (Callee.Intrinsic i) args) → (x : Value) → IsFalse (same_intrinsic Intrinsic.CoroEnd i) → (r : Option ℕ) → r ≡ given_by_intrinsic i result → Related g (gives s r x) (gives (like s ws bs ys) r x)
  gives_here i result must_tail ty args e x ns r er = gives_related g s ws bs ys (Wants g s.top) same acts insts r x (λ v n ne. passes_here i result must_tail ty args e ns v n (λ k. ne (er ∙ k)))

  saved_goes : (i : Intrinsic) (result : Option ℕ) (must_tail : Bool) (ty : Option Ty) (args : List Arg) → here ≡ AtInstr (Instr.Call result must_tail ty (Callee.Intrinsic i) args) → i ≡ Intrinsic.CoroSave → Goes g (save g s) (save g (like s ws bs ys))
  saved_goes i result must_tail ty args e ei = on (suspend_of (function_of g s) (point_of s)) refl
    where
      at : here ≡ AtInstr (Instr.Call result must_tail ty (Callee.Intrinsic Intrinsic.CoroSave) args)
      at = e ∙ ap (λ (j : Intrinsic). AtInstr (Instr.Call result must_tail ty (Callee.Intrinsic j) args)) ei

      on : (o : Option Point) → suspend_of (function_of g s) (point_of s) ≡ o → Goes g (and_then (found Cause.State o) (λ u. and_then (save_for s (point_of s) u) (λ z. Ok (gives z None Value.Poison)))) (and_then (found Cause.State o) (λ u. and_then (save_for (like s ws bs ys) (point_of s) u) (λ z. Ok (gives z None Value.Poison))))
      on None eo = tt
      on (Some u) eo = save_then g s ws bs ys same acts insts (point_of s) u None Value.Poison holds.own
          (λ v n. needs_from s.top.mode (function_of g s) s.top.block s.top.at v ((enough s.top.func).saved (point_of s) u (record { instr = _; stands = at; is = refl }) eo v n))
          (λ v n ne. passes_here Intrinsic.CoroSave result must_tail ty args at refl v n (λ k. absurd (cc)))

  suspend_goes : (result : Option ℕ) (must_tail : Bool) (ty : Option Ty) (args : List Arg) → here ≡ AtInstr (Instr.Call result must_tail ty (Callee.Intrinsic Intrinsic.CoroSuspend) args) → (of_save : Operand) → Goes g (suspend s result of_save) (suspend (like s ws bs ys) result of_save)
  suspend_goes result must_tail ty args e Operand.None =
      save_then g s ws bs ys same acts insts (point_of s) (point_of s) result (integer 8 (negsuc 0)) holds.own
      (λ v n. needs_from s.top.mode (function_of g s) s.top.block s.top.at v ((enough s.top.func).itself (point_of s) (record { instr = _; stands = e; is = refl }) v n))
      (λ v n ne. passes_here Intrinsic.CoroSuspend result must_tail ty args e refl v n ne)
  suspend_goes result must_tail ty args e _ = gives_here Intrinsic.CoroSuspend result must_tail ty args e (integer 8 (negsuc 0)) refl result refl

  coro_goes : (i : Intrinsic) (result : Option ℕ) (must_tail : Bool) (ty : Option Ty) (args : List Arg) → here ≡ AtInstr (Instr.Call result must_tail ty (Callee.Intrinsic i) args) → Goes g (coro g (continue g) s i args (arg_values g.code s.top.values args) result) (coro g (continue_keeping g keep) (like s ws bs ys) i args (arg_values g.code ws args) result)
  coro_goes Intrinsic.CoroId result must_tail ty args e = gives_here Intrinsic.CoroId result must_tail ty args e Value.Poison refl None refl
  coro_goes Intrinsic.CoroSizeI32 result must_tail ty args e = gives_here Intrinsic.CoroSizeI32 result must_tail ty args e _ refl result refl
  coro_goes Intrinsic.CoroSizeI64 result must_tail ty args e = gives_here Intrinsic.CoroSizeI64 result must_tail ty args e _ refl result refl
  coro_goes Intrinsic.CoroAlignI32 result must_tail ty args e = gives_here Intrinsic.CoroAlignI32 result must_tail ty args e _ refl result refl
  coro_goes Intrinsic.CoroAlignI64 result must_tail ty args e = gives_here Intrinsic.CoroAlignI64 result must_tail ty args e _ refl result refl
  coro_goes Intrinsic.CoroAlloc result must_tail ty args e = gives_here Intrinsic.CoroAlloc result must_tail ty args e _ refl result refl
  coro_goes Intrinsic.CoroBegin result must_tail ty args e =
      rw (nth_same g.code s.top.values ws args 1 (λ v t. same.each v (reads_here Intrinsic.CoroBegin result must_tail ty args e v t)))
      (begin_goes g s ws bs ys same acts insts result (nth (arg_values g.code s.top.values args) 1) (passes_here Intrinsic.CoroBegin result must_tail ty args e refl))
  coro_goes Intrinsic.CoroFree result must_tail ty args e = free_related g s ws bs ys same acts insts result (passes_here Intrinsic.CoroFree result must_tail ty args e refl)
  coro_goes Intrinsic.CoroFrame result must_tail ty args e = frame_related g s ws bs ys same acts insts result (passes_here Intrinsic.CoroFrame result must_tail ty args e refl)
  coro_goes Intrinsic.CoroSave result must_tail ty args e = saved_goes Intrinsic.CoroSave result must_tail ty args e refl
  coro_goes Intrinsic.CoroSuspend result must_tail ty args e = suspend_goes result must_tail ty args e (operand_at args 0)
  coro_goes Intrinsic.CoroEnd result must_tail ty args e = end_goes g s ws bs ys same acts insts result
  coro_goes Intrinsic.CoroResume result must_tail ty args e =
      rw (nth_same g.code s.top.values ws args 0 (λ v t. same.each v (reads_here Intrinsic.CoroResume result must_tail ty args e v t)))
      (resume_goes g s ws bs ys same acts insts keep keeps holds.reached (λ v n. passes_here Intrinsic.CoroResume result must_tail ty args e refl v n (λ k. absurd (cc))) (nth (arg_values g.code s.top.values args) 0))
  coro_goes Intrinsic.CoroDestroy result must_tail ty args e =
      rw (nth_same g.code s.top.values ws args 0 (λ v t. same.each v (reads_here Intrinsic.CoroDestroy result must_tail ty args e v t)))
      (destroy_goes g s ws bs ys same acts insts keep keeps holds.reached (λ v n. passes_here Intrinsic.CoroDestroy result must_tail ty args e refl v n (λ k. absurd (cc))) (nth (arg_values g.code s.top.values args) 0))
  coro_goes Intrinsic.CoroDone result must_tail ty args e =
      rw (nth_same g.code s.top.values ws args 0 (λ v t. same.each v (reads_here Intrinsic.CoroDone result must_tail ty args e v t)))
      (done_goes g s ws bs ys same acts insts result (nth (arg_values g.code s.top.values args) 0) (passes_here Intrinsic.CoroDone result must_tail ty args e refl))
  coro_goes Intrinsic.CoroPromise result must_tail ty args e =
      rw (nth_same g.code s.top.values ws args 0 (λ v t. same.each v (reads_here Intrinsic.CoroPromise result must_tail ty args e v t)))
      (promise_goes g s ws bs ys same acts insts (nth (arg_values g.code s.top.values args) 0) (operand_at args 2) result (passes_here Intrinsic.CoroPromise result must_tail ty args e refl))
  coro_goes Intrinsic.LifetimeStart result must_tail ty args e = gives_here Intrinsic.LifetimeStart result must_tail ty args e Value.Poison refl None refl
  coro_goes Intrinsic.LifetimeEnd result must_tail ty args e = gives_here Intrinsic.LifetimeEnd result must_tail ty args e Value.Poison refl None refl
  coro_goes Intrinsic.MemcpyI64 result must_tail ty args e = gives_here Intrinsic.MemcpyI64 result must_tail ty args e Value.Poison refl None refl
  coro_goes Intrinsic.MemcpyI32 result must_tail ty args e = gives_here Intrinsic.MemcpyI32 result must_tail ty args e Value.Poison refl None refl

  act_goes : (a b : Action) → SameAction g.code After here s.top.values ws a b → Goes g (act g (continue g) s a) (act g (continue_keeping g keep) (like s ws bs ys) b)
  act_goes (Stuck cause) b h = tt
  act_goes (Done w) b h =
      subst (λ (z : Action). Goes g (act g (continue g) s (Done w)) (act g (continue_keeping g keep) (like s ws bs ys) z)) (sym h.1)
      (record { values = h.0; below = bs; instances = ys; is = refl; same = h.2; acts = acts; insts = insts })
  act_goes (NewSlot w slot) b h =
      subst (λ (z : Action). Goes g (act g (continue g) s (NewSlot w slot)) (act g (continue_keeping g keep) (like s ws bs ys) z)) (sym h.1)
      (new_slot_related g (settled s w) h.0 bs ys h.2 acts insts slot)
  act_goes (Enter func args result must_tail) b h =
      subst (λ (z : Action). Goes g (act g (continue g) s (Enter func args result must_tail)) (act g (continue_keeping g keep) (like s ws bs ys) z)) (sym h.0)
      (enter_related g s ws bs ys same acts insts func args result h.1)
  act_goes (Coro i args result) b h =
      subst (λ (z : Action). Goes g (act g (continue g) s (Coro i args result)) (act g (continue_keeping g keep) (like s ws bs ys) z)) (sym h.0)
      (coro_goes i result h.1.0 h.1.1 args h.1.2)
  act_goes (Deallocate p) b h =
      subst (λ (z : Action). Goes g (act g (continue g) s (Deallocate p)) (act g (continue_keeping g keep) (like s ws bs ys) z)) (sym h.0)
      (deallocate_goes g s ws bs ys same acts insts p h.1)
  act_goes (GoTo label) b h =
      subst (λ (z : Action). Goes g (act g (continue g) s (GoTo label)) (act g (continue_keeping g keep) (like s ws bs ys) z)) (sym h.0)
      (go_to_goes g s ws bs ys same acts insts label
      (λ v t. needs_phi s.top.mode (function_of g s) s.top.block s.top.at v label h.1 t)
      (λ v n none. needs_enter s.top.mode (function_of g s) s.top.block s.top.at v label h.1 n none))
  act_goes (Return v) b h =
      subst (λ (z : Action). Goes g (act g (continue g) s (Return v)) (act g (continue_keeping g keep) (like s ws bs ys) z)) (sym h)
      (pop_goes g (returned s) ws bs ys same acts insts v s.below bs acts)

  pub acts_go : Goes g (act g (continue g) s (action_of (context_of g s) (work_of s) here)) (act g (continue_keeping g keep) (like s ws bs ys) (action_of (context_of g s) (work s.world ws) here))
  acts_go = act_goes _ _ (action_same (context_of g s) s.world s.top.values ws (Wants g s.top) After same here
      (λ v t. needs_read s.top.mode (function_of g s) s.top.block s.top.at v t)
      (λ v n p. needs_next s.top.mode (function_of g s) s.top.block s.top.at v n p))
