-- A step by hooks keeps it that names of allocas with markers lead to blocks of such.
use Rattle.std.proofs.Common.{◌≡◌, ℕ, Bool, true, false, List, [], ◌∷◌, Option}
use Rattle.std.proofs.Common.{Some, None, Result, Ok, Err, refl, sym, ap, ◌∙◌, subst, if◌then◌else◌}
use Rattle.std.proofs.Common.{⊎_elim}
use Rattle.std.proofs.lemmas.Bool.{cases_eq, false≢true}
use Rattle.std.specs.Prelude.{slice_get, unwrap_or}
use Rattle.compiler.specs.ir_base.declared.cause.Cause.{Cause}
use Rattle.compiler.specs.ir_base.declared.outcome.Outcome.{Outcome}
use Rattle.compiler.specs.ir_model.Names.{function_at, position_of}
use Rattle.compiler.specs.ir_model.Ty.{Ty}
use Rattle.compiler.specs.ir_model.declared.instr.Instr.{Instr}
use Rattle.compiler.specs.ir_model.declared.module.Function.{Function}
use Rattle.compiler.specs.ir_model.declared.operand.Arg.{Arg}
use Rattle.compiler.specs.ir_model.declared.operand.Callee.{Callee}
use Rattle.compiler.specs.ir_model.declared.operand.Intrinsic.{Intrinsic}
use Rattle.compiler.specs.ir_paths.Windows.{operand_at, suspend_of}
use Rattle.compiler.specs.ir_paths.declared.point.Window.{Window}
use Rattle.compiler_theorem.specs.temporaries.Uses.{AreMarkersNamed, AreMarkersNamedOn, IsGivenApart, KeepsNamed}
use Rattle.compiler_theorem.specs.temporaries.Uses.{Marked, StaysNamed, Use}
use Rattle.pass_frames_meaning.proofs.called.Comes.{Comes, comes}
use Rattle.pass_frames_meaning.proofs.executed.Executed.{not_made_by}
use Rattle.pass_frames_meaning.proofs.led.Names.{IsOfAlloca, alloca_is, of_alloca}
use Rattle.pass_frames_meaning.specs.Owned.{AreGivenApart}
use Rattle.compiler.specs.pass_kept_proof.Needed.{given_by, given_by_intrinsic}
use Rattle.pass_frames_meaning.proofs.pass_renewed_proof.Sets.{set_elsewhere, step_sets}
use Rattle.pass_frames_meaning.specs.pass_renewed_proof.Steps.{SetsOnly}
use Rattle.pass_frames_meaning.proofs.run_hooks.Reached.{IsOfInstr, of_term}
use Rattle.pass_frames_meaning.proofs.run_hooks.alive.Acts.{slots_by}
use Rattle.pass_frames_meaning.proofs.run_hooks.alive.Changes.{phis_other}
use Rattle.pass_frames_meaning.specs.run_hooks.Hooks.{Hooks, hooked_act, hooked_advance, hooked_context, hooked_coro}
use Rattle.pass_frames_meaning.specs.run_hooks.Hooks.{hooked_next, step_of}
use Rattle.compiler.specs.run_memory.declared.pointer.Value.{Value}
use Rattle.compiler.specs.run_source.Source.{Sleeper, after_end, branch_leaving, change_own, end_of}
use Rattle.compiler.specs.run_source.Source.{enter_block}
use Rattle.compiler.specs.run_source.Source.{left_windows}
use Rattle.compiler.specs.run_source.State.{function_of, gives, next, or_undefined, own_instance}
use Rattle.compiler.specs.run_source.State.{point_of}
use Rattle.compiler.specs.run_source.State.{settled, work_of}
use Rattle.compiler.specs.run_source.declared.state.Activation.{Activation}
use Rattle.compiler.specs.run_source.declared.state.Instance.{Instance}
use Rattle.compiler.specs.run_source.declared.state.State.{State}
use Rattle.compiler.specs.run_step.Effects.{is_alloca}
use Rattle.compiler.specs.run_step.Results.{found}
use Rattle.compiler.specs.run_step.Step.{Action, AtInstr, AtTerm, Coro, Deallocate, Done, Enter, Fetched, GoTo}
use Rattle.compiler.specs.run_step.Step.{NewSlot}
use Rattle.compiler.specs.run_step.Step.{Nowhere, Return, Stuck, Work, action_of, block_of}
use Rattle.compiler.specs.run_step.Step.{fetch}
use Rattle.compiler.specs.run_step.Step.{has_markers, instr_action, label_of, phis_of, term_action}
use Rattle.compiler.specs.run_step.Values.{Env, arg_values, nth, pointer_to, value_in}
use Rattle.compiler.specs.run_step.Values.{with_value}
use Rattle.compiler.specs.run_step.declared.world.Slot.{Slot}
use Rattle.compiler_theorem.proofs.temporaries.Parts.{IsFreeFor, On, after_fine, entry_poison, freed_fine, gave}
use Rattle.compiler_theorem.proofs.temporaries.Parts.{no_block, none_free}
use Rattle.compiler_theorem.proofs.temporaries.Parts.{ok_fine, return_fine, same_named, same_top, save_fine, set_or}
use Rattle.compiler_theorem.proofs.temporaries.Parts.{sleeper_fine}
use Rattle.compiler_theorem.proofs.temporaries.Parts.{suspend_fine, then_fine}

-- ---- a step

module _ (h : Hooks) (uses : ℕ → Use) (keeps : KeepsNamed h) (s : State)
    (apart : AreGivenApart h.given.code s.top.result s.below)
    (k : AreMarkersNamedOn h.given.code uses (s.top ∷ s.below))
    (new : (w : Work) (slot : Slot)
    → action_of (hooked_context h s) (work_of s) (fetch (function_of h.given s) s.top.block s.top.at) ≡ NewSlot w slot
    → has_markers (function_of h.given s) slot.alloca ≡ true → uses slot.block ≡ Marked) where
  abbrev f : Function
  f = function_at h.given.code s.top.func

  abbrev Good : Result State Cause → Type 0
  Good r = StaysNamed h.given.code uses r

  abbrev here : Fetched
  here = fetch (function_at h.given.code s.top.func) s.top.block s.top.at

  free : (i : Instr) → here ≡ AtInstr i → (is_alloca i ≡ true → ⊥) → (result : Option ℕ) → given_by i ≡ result
      → IsGivenApart (function_at h.given.code s.top.func) result
  free i e never result g v made d = not_made_by f s.top.block s.top.at i e never v made (g ∙ d)

  -- ---- intrinsics

  module _ (result : Option ℕ) (must_tail : Bool) (ty : Option Ty) (args : List Arg) (vs : List Value) where
    abbrev Stands : Intrinsic → Type 0
    Stands x = here ≡ AtInstr (Instr.Call result must_tail ty (Callee.Intrinsic x) args)

    abbrev call : Intrinsic → Instr
    call x = Instr.Call result must_tail ty (Callee.Intrinsic x) args

    frees : (x : Intrinsic) → Stands x → given_by_intrinsic x result ≡ result
        → IsGivenApart (function_at h.given.code s.top.func) result
    frees x e g = free (call x) e (λ d. false≢true d) result g

    gives_it : (x : Intrinsic) → Stands x → given_by_intrinsic x result ≡ result → (v : Value)
        → On h.given.code uses (gives s result v)
    gives_it x e g v = gave h.given.code uses s result v (frees x e g) k

    goes_on : On h.given.code uses (next s)
    goes_on = gave h.given.code uses s None Value.Poison (none_free h.given.code uses s.top.func) k

    resumed : (y : Sleeper) (label : ℕ) → On h.given.code uses (h.go_on s y.number y.instance y.suspend y.values label)
    resumed y label = (
      λ v b made marked leads.
          absurd (keeps.go_on s y.number y.instance y.suspend y.values label v b made leads),
      subst (AreMarkersNamedOn h.given.code uses)
          (sym (keeps.last.go_on s y.number y.instance y.suspend y.values label).below) (k.0, k.1),
    )

    ended : Stands Intrinsic.CoroEnd → Good (end_of s h.close result)
    ended e = on s.top.has_left
      where
        closed : (h.close s).top ≡ s.top
        closed = keeps.reached.closed s

        below : (h.close s).below ≡ s.below
        below = (keeps.last.close s).below

        on : (b : Bool) → Good (after_end (if b then s else h.close s) result s.top.mode)
        on true = after_fine h.given.code uses s result s.top.mode apart
            (frees Intrinsic.CoroEnd e refl) k
        on false = after_fine h.given.code uses (h.close s) result s.top.mode
            (subst (λ (q : Option ℕ × List Activation). AreGivenApart h.given.code q.0 q.1)
            (λ i. ((sym closed i).result, sym below i)) apart)
            (subst (λ (n : ℕ). IsFreeFor h.given.code uses n result)
            (ap (λ (a : Activation). a.func) (sym closed)) (frees Intrinsic.CoroEnd e refl))
            (same_top h.given.code uses s (h.close s) closed below k)

    released : IsGivenApart (function_at h.given.code s.top.func) result → (v : Value) (o : Option (ℕ × Instance))
        → On h.given.code uses (gives (change_own s (λ x. record x { released = true }) o) result v)
    released fr v None = gave h.given.code uses s result v fr k
    released fr v (Some q) =
        gave h.given.code uses (change_own s (λ x. record x { released = true }) (Some q)) result v fr (k.0, k.1)

    coro_fine : (x : Intrinsic) → Stands x → Good (hooked_coro h s x args vs result)
    coro_fine Intrinsic.CoroId e = goes_on
    coro_fine Intrinsic.CoroSizeI32 e = gives_it Intrinsic.CoroSizeI32 e refl _
    coro_fine Intrinsic.CoroSizeI64 e = gives_it Intrinsic.CoroSizeI64 e refl _
    coro_fine Intrinsic.CoroAlignI32 e = gives_it Intrinsic.CoroAlignI32 e refl _
    coro_fine Intrinsic.CoroAlignI64 e = gives_it Intrinsic.CoroAlignI64 e refl _
    coro_fine Intrinsic.CoroAlloc e = gives_it Intrinsic.CoroAlloc e refl _
    coro_fine Intrinsic.CoroFrame e = gives_it Intrinsic.CoroFrame e refl _
    coro_fine Intrinsic.LifetimeStart e = goes_on
    coro_fine Intrinsic.LifetimeEnd e = goes_on
    coro_fine Intrinsic.MemcpyI64 e = goes_on
    coro_fine Intrinsic.MemcpyI32 e = goes_on
    coro_fine Intrinsic.CoroBegin e = keeps.start uses s result (nth vs 1) (frees Intrinsic.CoroBegin e refl) k
    coro_fine Intrinsic.CoroFree e = released (frees Intrinsic.CoroFree e refl) (h.freed s) (own_instance s)
    coro_fine Intrinsic.CoroSave e =
        then_fine h.given.code uses (found Cause.State (suspend_of (function_of h.given s) (point_of s))) _ (λ u eu.
        save_fine h.given.code uses s (point_of s) u _ k (λ t same c.
        gave h.given.code uses t None Value.Poison (none_free h.given.code uses t.top.func) c))
    coro_fine Intrinsic.CoroSuspend e =
        suspend_fine h.given.code uses s result (operand_at args 0) (frees Intrinsic.CoroSuspend e refl) k
    coro_fine Intrinsic.CoroEnd e = ended e
    coro_fine Intrinsic.CoroResume e = sleeper_fine h.given.code uses s (nth vs 0) _ (λ y.
        ok_fine h.given.code uses _ Cause.State _ (resumed y _))
    coro_fine Intrinsic.CoroDestroy e = sleeper_fine h.given.code uses s (nth vs 0) _ (λ y. resumed y _)
    coro_fine Intrinsic.CoroDone e = sleeper_fine h.given.code uses s (nth vs 0) _ (λ y.
        ok_fine h.given.code uses _ Cause.State _ (gives_it Intrinsic.CoroDone e refl _))
    coro_fine Intrinsic.CoroPromise e =
        then_fine h.given.code uses (h.promised s (nth vs 0) (operand_at args 2)) _ (λ v ev.
        gives_it Intrinsic.CoroPromise e refl v)

  -- ---- other instructions

  abbrev Doing : Fetched → Action → Type 0
  Doing x a = action_of (hooked_context h s) (work_of s) x ≡ a

  -- what makes no slot is no alloca
  abbrev IsOfSlot : Action → Type 0
  IsOfSlot (NewSlot w slot) = Unit {0}
  IsOfSlot (Stuck cause) = Unit {0}
  IsOfSlot _ = ⊥

  makes_slot : (i : Instr) (a : Action) → Doing (AtInstr i) a → is_alloca i ≡ true → IsOfSlot a
  makes_slot i a d is = by (alloca_is i is)
    where
      either : (w : Work) (name : ℕ) (b : Action) → IsOfAlloca w name b → IsOfSlot b
      either w name (NewSlot x slot) q = tt
      either w name (Stuck cause) q = tt
      either w name _ q = absurd q

      by : ((name : ℕ) × (ty : Ty) × (align : ℕ) × (i ≡ Instr.Alloca name ty align)) → IsOfSlot a
      by (name, ty, align, same) =
          either (work_of s) name a (of_alloca (hooked_context h s) (work_of s) name align ty a
          (subst (λ (z : Instr). Doing (AtInstr z) a) same d))

  module _ (i : Instr) (e : here ≡ AtInstr i) where
    done_fine : (w : Work) → Doing (AtInstr i) (Done w) → On h.given.code uses (settled s w)
    done_fine w d = (
      same_named h.given.code uses s.top (settled s w).top refl
          (λ v made. sets v (not_made_by f s.top.block s.top.at i e never v made)) k.0,
      k.1,
    )
      where
        sets : SetsOnly (given_by i) s.top.values (Done w)
        sets = subst (SetsOnly (given_by i) s.top.values) d
            (step_sets (hooked_context h s) (work_of s) (AtInstr i))

        never : is_alloca i ≡ true → ⊥
        never is = makes_slot i (Done w) d is

    slot_fine : (w : Work) (slot : Slot) → Doing (AtInstr i) (NewSlot w slot)
        → On h.given.code uses (h.place (settled s w) slot)
    slot_fine w slot d = (
      same_named h.given.code uses (settled s w).top (h.place (settled s w) slot).top (keeps.func (settled s w) slot)
          (keeps.values (settled s w) slot) top,
      subst (AreMarkersNamedOn h.given.code uses) (sym (keeps.last.place (settled s w) slot).below) k.1,
    )
      where
        a : (name : ℕ) × (ty : Ty) × (align : ℕ) × (i ≡ Instr.Alloca name ty align)
        a = alloca_is i (slots_by (hooked_context h s) (work_of s) i w slot d)

        made_it : (slot.alloca ≡ a.0) × (w.values ≡ with_value s.top.values a.0 (pointer_to slot.block))
        made_it = of_alloca (hooked_context h s) (work_of s) a.0 a.2 a.1 (NewSlot w slot)
            (subst (λ (z : Instr). Doing (AtInstr z) (NewSlot w slot)) a.3 d)

        top : AreMarkersNamed h.given.code uses (settled s w).top
        top v b made marked leads = ⊎_elim one other (cases_eq a.0 v)
          where
            now : block_of (value_in (with_value s.top.values a.0 (pointer_to slot.block)) v) ≡ Some b
            now = ap (λ (env : Env). block_of (value_in env v)) (sym made_it.1) ∙ leads

            other : (a.0 ≡ v → ⊥) → uses b ≡ Marked
            other ne = k.0 v b made marked
                (ap block_of (sym (set_elsewhere s.top.values a.0 v (pointer_to slot.block) ne)) ∙ now)

            one : a.0 ≡ v → uses b ≡ Marked
            one same = ⊎_elim
                (λ x. let leads_there : Some slot.block ≡ Some b = sym (ap block_of x) ∙ again in
                let block : slot.block ≡ b = cc in
                subst (λ (n : ℕ). uses n ≡ Marked) block
                (new w slot (ap (action_of (hooked_context h s) (work_of s)) e ∙ d)
                (ap (has_markers f) (made_it.0 ∙ same) ∙ marked)))
                (λ x. absurd (no_block _ b x again))
                (set_or s.top.values a.0 (pointer_to slot.block))
              where
                again : block_of (value_in (with_value s.top.values a.0 (pointer_to slot.block)) a.0) ≡ Some b
                again =
                    ap (λ (n : ℕ). block_of (value_in (with_value s.top.values a.0 (pointer_to slot.block)) n)) same
                    ∙ now

    instr_fine : (a : Action) → Comes i a → Doing (AtInstr i) a → Good (hooked_act h s a)
    instr_fine (Stuck cause) q d = tt
    instr_fine (Done w) q d = done_fine w d
    instr_fine (NewSlot w slot) q d = slot_fine w slot d
    instr_fine (Enter func args result must_tail) q d = (
      λ v b made marked leads.
          absurd (no_block _ b (entry_poison (function_at h.given.code func) args v made) leads),
      (k.0, k.1),
    )
    instr_fine (Coro x args result) q d =
        coro_fine result q.0 q.1 args (arg_values h.given.code s.top.values args) x (e ∙ ap AtInstr q.2)
    instr_fine (Deallocate p) q d = freed_fine h.given.code uses s p k
    instr_fine (GoTo label) q d = absurd q
    instr_fine (Return v) q d = absurd q

  -- ---- terminators

  enters : (label : ℕ) (left : Bool)
      → AreMarkersNamed h.given.code uses (record (enter_block h.given s label).top { has_left = left })
  enters label left =
      same_named h.given.code uses s.top (record (enter_block h.given s label).top { has_left = left }) refl
      (λ v made. phis_other h.given.code s.top.values (label_of (slice_get f.blocks s.top.block))
      (phis_of (slice_get f.blocks (position_of f label))) s.top.values v (made.no_phi (position_of f label))) k.0

  goes_to : (label : ℕ) (windows : List Window) → Good (branch_leaving h.given s label windows)
  goes_to label [] = (enters label s.top.has_left, k.1)
  goes_to label (w ∷ windows) = then_fine h.given.code uses (found Cause.State (own_instance s)) _ (λ p q.
      ok_fine h.given.code uses _ Cause.State _ (enters label false, k.1))

  term_fine : (a : Action) → IsOfInstr a ≡ false → Good (hooked_act h s a)
  term_fine (Stuck cause) q = tt
  term_fine (GoTo label) q = goes_to label (left_windows h.given s label)
  term_fine (Return v) q = return_fine h.given.code uses s v k apart
  term_fine (Done w) q = absurd (false≢true (sym q))
  term_fine (NewSlot w slot) q = absurd (false≢true (sym q))
  term_fine (Enter func args result must_tail) q = absurd (false≢true (sym q))
  term_fine (Coro x args result) q = absurd (false≢true (sym q))
  term_fine (Deallocate p) q = absurd (false≢true (sym q))

  pub act_fine : (x : Fetched) → here ≡ x → Good (hooked_act h s (action_of (hooked_context h s) (work_of s) x))
  act_fine Nowhere e = tt
  act_fine (AtInstr i) e = instr_fine i e (instr_action (hooked_context h s) (work_of s) i)
      (comes (hooked_context h s) (work_of s) i) refl
  act_fine (AtTerm t) e = term_fine (term_action (hooked_context h s) (work_of s) t) (of_term (hooked_context h s) s t)

  nexts : (x : Fetched) → here ≡ x → h.given_call s x ≡ None → Good (hooked_next h s x)
  nexts x e none = on (h.is_idle s x) (h.given_call s x) none
    where
      on : (b : Bool) (o : Option (Result State Cause)) → o ≡ None
          → Good (if b then Ok (next s) else unwrap_or o
          (hooked_act h s (action_of (hooked_context h s) (work_of s) x)))
      on true o u =
          gave h.given.code uses s None Value.Poison (none_free h.given.code uses s.top.func) k
      on false None u = act_fine x e
      on false (Some r) u = absurd (cc)

  or_fine : (r : Result State Cause) → Good r → On h.given.code uses (or_undefined h.given s r)
  or_fine (Err cause) q = (k.0, k.1)
  or_fine (Ok t) q = q

  advance_fine : (o : Outcome) → On h.given.code uses (hooked_advance h s o)
  advance_fine Outcome.Running =
      or_fine (hooked_next h s here) (nexts here refl (keeps.ungiven s s.top.block s.top.at))
  advance_fine (Outcome.Returned v) = k
  advance_fine (Outcome.Undefined cause place) = k

  pub step_named : AreMarkersNamedOn h.given.code uses ((step_of h s).top ∷ (step_of h s).below)
  step_named = advance_fine s.outcome
