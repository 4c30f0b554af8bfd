-- A step by hooks keeps it that each alloca that was passed before begin has a slot of the activation's.
use Rattle.std.proofs.Common.{◌≡◌, inl, ℕ, zero, suc, ◌+◌, ◌<◌, Bool, true, false, List, [], ◌∷◌, length, Option}
use Rattle.std.proofs.Common.{Some, None, Result, Ok, Err, refl, sym, ap, ◌∙◌, subst, arith, if◌then◌else◌, ◌==◌}
use Rattle.std.proofs.lemmas.Bool.{eqb-true, false≢true}
use Rattle.std.specs.Prelude.{unwrap_or}
use Rattle.compiler.specs.ir_base.declared.cause.Cause.{Cause}
use Rattle.compiler.specs.ir_base.declared.outcome.Outcome.{Outcome}
use Rattle.compiler.specs.ir_base.declared.outcome.Word.{Word}
use Rattle.compiler.specs.ir_model.Names.{function_at, position_of}
use Rattle.compiler.specs.ir_model.Ty.{Ty}
use Rattle.compiler.specs.ir_model.declared.instr.Instr.{Instr}
use Rattle.compiler.specs.ir_model.declared.instr.Terminator.{Terminator}
use Rattle.compiler.specs.ir_model.declared.module.Function.{Function}
use Rattle.compiler.specs.ir_model.declared.operand.Arg.{Arg}
use Rattle.compiler.specs.ir_model.declared.operand.Callee.{Callee}
use Rattle.compiler.specs.ir_model.declared.operand.Intrinsic.{Intrinsic}
use Rattle.compiler.specs.ir_paths.Windows.{operand_at, suspend_of}
use Rattle.compiler.specs.ir_paths.declared.point.Window.{Window}
use Rattle.pass_frames_meaning.proofs.called.Comes.{Comes, comes}
use Rattle.pass_frames_meaning.proofs.led.Names.{IsOfAlloca, alloca_is, of_alloca}
use Rattle.pass_frames_meaning.specs.Executed.{HasOwnSlot, IsFirstMode, KeepsExecuted}
use Rattle.pass_frames_meaning.proofs.run_hooks.Reached.{IsOfInstr, of_term}
use Rattle.pass_frames_meaning.proofs.run_hooks.alive.Acts.{slots_by}
use Rattle.pass_frames_meaning.specs.run_hooks.Hooks.{Hooks, hooked_act, hooked_advance, hooked_context, hooked_coro}
use Rattle.pass_frames_meaning.specs.run_hooks.Hooks.{hooked_next, hooked_state_at, step_of}
use Rattle.pass_frames_meaning.specs.run_hooks.Left.{HasResumed}
use Rattle.pass_frames_meaning.specs.run_hooks.Reached.{IsAnInstr}
use Rattle.compiler.specs.run_memory.declared.pointer.Value.{Value}
use Rattle.compiler.specs.run_source.Source.{after_end, branch_leaving, change_own, end_of, first_state, left_windows}
use Rattle.compiler.specs.run_source.State.{function_of, gives, next, or_undefined, own_instance, point_of, settled}
use Rattle.compiler.specs.run_source.State.{work_of}
use Rattle.compiler.specs.run_source.declared.state.Instance.{Instance}
use Rattle.compiler.specs.run_source.declared.state.State.{State}
use Rattle.compiler.specs.run_source_tables.Given.{Given}
use Rattle.compiler.specs.run_step.Effects.{is_alloca}
use Rattle.compiler.specs.run_step.Results.{found}
use Rattle.compiler.specs.run_step.Runs.{iterate}
use Rattle.compiler.specs.run_step.Step.{Action, AtInstr, AtTerm, Coro, Deallocate, Done, Enter, Fetched, GoTo}
use Rattle.compiler.specs.run_step.Step.{NewSlot, Nowhere, Return, Stuck, Work, action_of, fetch, instr_action}
use Rattle.compiler.specs.run_step.Step.{term_action}
use Rattle.compiler.specs.run_step.Values.{arg_values, nth, pointer_to, with_value}
use Rattle.compiler.specs.run_step.declared.world.Slot.{Slot}
use Rattle.pass_frames_meaning.proofs.executed.Executed.{not_later, term_behind}
use Rattle.compiler_theorem.specs.made.Made.{AreMadeOn, ArePassedMade, HasSlotOf, IsMadeIn, IsMadeState, StaysMade}
use Rattle.compiler_theorem.proofs.made.Parts.{Next, after_fine, freed_fine, gave, ok_fine, return_fine, same_top}
use Rattle.compiler_theorem.proofs.made.Parts.{save_fine, sleeper_fine, suspend_fine, then_fine}

-- ---- a step

module _ (h : Hooks) (keeps : KeepsExecuted h) (s : State) (k : AreMadeOn h.given.code (s.top ∷ s.below)) where
  abbrev f : Function
  f = function_at h.given.code s.top.func

  abbrev Good : Result State Cause → Type 0
  Good r = StaysMade h.given.code r

  abbrev here : Fetched
  here = fetch (function_at h.given.code s.top.func) s.top.block s.top.at

  abbrev Goes : State → Type 0
  Goes t = Next h.given.code t

  -- behind what is no alloca no more allocas were passed
  behind : (i : Instr) → here ≡ AtInstr i → (is_alloca i ≡ true → ⊥) → Goes s
  behind i e never = (
    λ first none v made lt. k.0 first none v made (not_later f s.top.block s.top.at i e never v made lt),
    k.1,
  )

  -- ---- intrinsics

  module _ (result : Option ℕ) (must_tail : Bool) (ty : Option Ty) (args : List Arg) (vs : List Value) where
    abbrev Stands : Intrinsic → Type 0
    Stands x = here ≡ AtInstr (Instr.Call result must_tail ty (Callee.Intrinsic x) args)

    goes : (x : Intrinsic) → Stands x → Goes s
    goes x e = behind (Instr.Call result must_tail ty (Callee.Intrinsic x) args) e (λ d. false≢true d)

    -- it goes on, whatever it gives
    goes_on : (x : Intrinsic) → Stands x → IsMadeState h.given.code (next s)
    goes_on x e = gave h.given.code s None Value.Poison (goes x e)

    -- behind begin it has an instance
    starts : (r : Result State Cause) → h.start s result (nth vs 1) ≡ r → Good r
    starts (Err cause) d = tt
    starts (Ok t) d = λ running. (
      λ first none.
          let both : Some (length s.instances) ≡ None =
          sym (keeps.last.start s result (nth vs 1) t d).instance ∙ none in
          absurd (cc),
      subst (AreMadeOn h.given.code) (sym (keeps.last.start s result (nth vs 1) t d).below) k.1,
    )

    resumed : (i : ℕ) (t : State) → HasResumed s i t → (IsFirstMode t.top.mode → ⊥) → Goes s
        → IsMadeState h.given.code t
    resumed i t r never n = λ running. (
      λ first. absurd (never first),
      subst (AreMadeOn h.given.code) (sym r.below) (n.0, n.1),
    )

    ended : Stands Intrinsic.CoroEnd → Good (end_of s h.close result)
    ended e = on s.top.has_left
      where
        on : (b : Bool) → Good (after_end (if b then s else h.close s) result s.top.mode)
        on true = after_fine h.given.code s result s.top.mode (goes Intrinsic.CoroEnd e)
        on false = after_fine h.given.code (h.close s) result s.top.mode
            (same_top h.given.code s (h.close s) (keeps.reached.closed s) (keeps.last.close s).below
            (goes Intrinsic.CoroEnd e))

    released : Goes s → (v : Value) → (o : Option (ℕ × Instance))
        → IsMadeState h.given.code (gives (change_own s (λ x. record x { released = true }) o) result v)
    released n v None = gave h.given.code s result v n
    released n v (Some p) =
        gave h.given.code (change_own s (λ x. record x { released = true }) (Some p)) result v (n.0, n.1)

    coro_fine : (x : Intrinsic) → Stands x → Good (hooked_coro h s x args vs result)
    coro_fine Intrinsic.CoroId e = goes_on Intrinsic.CoroId e
    coro_fine Intrinsic.CoroSizeI32 e = goes_on Intrinsic.CoroSizeI32 e
    coro_fine Intrinsic.CoroSizeI64 e = goes_on Intrinsic.CoroSizeI64 e
    coro_fine Intrinsic.CoroAlignI32 e = goes_on Intrinsic.CoroAlignI32 e
    coro_fine Intrinsic.CoroAlignI64 e = goes_on Intrinsic.CoroAlignI64 e
    coro_fine Intrinsic.CoroAlloc e = goes_on Intrinsic.CoroAlloc e
    coro_fine Intrinsic.CoroFrame e = goes_on Intrinsic.CoroFrame e
    coro_fine Intrinsic.LifetimeStart e = goes_on Intrinsic.LifetimeStart e
    coro_fine Intrinsic.LifetimeEnd e = goes_on Intrinsic.LifetimeEnd e
    coro_fine Intrinsic.MemcpyI64 e = goes_on Intrinsic.MemcpyI64 e
    coro_fine Intrinsic.MemcpyI32 e = goes_on Intrinsic.MemcpyI32 e
    coro_fine Intrinsic.CoroBegin e = starts (h.start s result (nth vs 1)) refl
    coro_fine Intrinsic.CoroFree e = released (goes Intrinsic.CoroFree e) (h.freed s) (own_instance s)
    coro_fine Intrinsic.CoroSave e =
        then_fine h.given.code (found Cause.State (suspend_of (function_of h.given s) (point_of s))) _ (λ u eu.
        save_fine h.given.code s (point_of s) u _ (goes Intrinsic.CoroSave e) (λ t c.
        gave h.given.code t None Value.Poison c))
    coro_fine Intrinsic.CoroSuspend e =
        suspend_fine h.given.code s result (operand_at args 0) (goes Intrinsic.CoroSuspend e)
    coro_fine Intrinsic.CoroEnd e = ended e
    coro_fine Intrinsic.CoroResume e = sleeper_fine h.given.code s (nth vs 0) _ (λ y.
        ok_fine h.given.code _ Cause.State _ (resumed y.number _
        (keeps.last.go_on s y.number y.instance y.suspend y.values _)
        (keeps.go_on s y.number y.instance y.suspend y.values _) (goes Intrinsic.CoroResume e)))
    coro_fine Intrinsic.CoroDestroy e = sleeper_fine h.given.code s (nth vs 0) _ (λ y.
        resumed y.number _ (keeps.last.go_on s y.number y.instance y.suspend y.values _)
        (keeps.go_on s y.number y.instance y.suspend y.values _) (goes Intrinsic.CoroDestroy e))
    coro_fine Intrinsic.CoroDone e = sleeper_fine h.given.code s (nth vs 0) _ (λ y.
        ok_fine h.given.code _ Cause.State _ (goes_on Intrinsic.CoroDone e))
    coro_fine Intrinsic.CoroPromise e =
        then_fine h.given.code (h.promised s (nth vs 0) (operand_at args 2)) _ (λ v ev.
        goes_on Intrinsic.CoroPromise e)

  -- ---- other instructions

  abbrev Doing : Fetched → Action → Type 0
  Doing x a = action_of (hooked_context h s) (work_of s) x ≡ a

  -- what makes no slot is no alloca
  abbrev IsOfSlot : Action → Type 0
  IsOfSlot (NewSlot w slot) = Unit {0}
  IsOfSlot (Stuck cause) = Unit {0}
  IsOfSlot _ = ⊥

  makes_slot : (i : Instr) (a : Action) → Doing (AtInstr i) a → is_alloca i ≡ true → IsOfSlot a
  makes_slot i a d is = by (alloca_is i is)
    where
      either : (w : Work) (name : ℕ) (b : Action) → IsOfAlloca w name b → IsOfSlot b
      either w name (NewSlot x slot) q = tt
      either w name (Stuck cause) q = tt
      either w name _ q = absurd q

      by : ((name : ℕ) × (ty : Ty) × (align : ℕ) × (i ≡ Instr.Alloca name ty align)) → IsOfSlot a
      by (name, ty, align, same) =
          either (work_of s) name a (of_alloca (hooked_context h s) (work_of s) name align ty a
          (subst (λ (z : Instr). Doing (AtInstr z) a) same d))

  no_less : (n : ℕ) → n < 0 → ⊥
  no_less n lt = omega (arith, lt)

  module _ (i : Instr) (e : here ≡ AtInstr i) where
    onward : (a : Action) → Doing (AtInstr i) a → (IsOfSlot a → ⊥) → Goes s
    onward a d never = behind i e (λ is. never (makes_slot i a d is))

    slot_fine : (w : Work) (slot : Slot) → Doing (AtInstr i) (NewSlot w slot)
        → IsMadeState h.given.code (h.place (settled s w) slot)
    slot_fine w slot d = λ running. (
      top,
      subst (AreMadeOn h.given.code) (sym (keeps.last.place (settled s w) slot).below) k.1,
    )
      where
        a : (name : ℕ) × (ty : Ty) × (align : ℕ) × (i ≡ Instr.Alloca name ty align)
        a = alloca_is i (slots_by (hooked_context h s) (work_of s) i w slot d)

        made_it : (slot.alloca ≡ a.0) × (w.values ≡ with_value s.top.values a.0 (pointer_to slot.block))
        made_it = of_alloca (hooked_context h s) (work_of s) a.0 a.2 a.1 (NewSlot w slot)
            (subst (λ (z : Instr). Doing (AtInstr z) (NewSlot w slot)) a.3 d)

        there : here ≡ AtInstr (Instr.Alloca a.0 a.1 a.2)
        there = e ∙ ap AtInstr a.3

        top : IsMadeIn h.given.code (h.place (settled s w) slot).top
        top now_first now_none = subst (λ (z : ℕ × ℕ × ℕ). ArePassedMade (function_at h.given.code z.0) z.1 z.2
            (h.place (settled s w) slot).top.slots)
            (λ j. (sym p.func j, sym p.block j, sym p.at j)) now
          where
            first : IsFirstMode s.top.mode
            first = keeps.place (settled s w) slot now_first

            p : HasOwnSlot h.given slot (settled s w) (h.place (settled s w) slot)
            p = keeps.placed (settled s w) slot first

            none : s.top.instance ≡ None
            none = sym p.instance ∙ now_none

            now : ArePassedMade (function_at h.given.code s.top.func) s.top.block (s.top.at + 1)
                (h.place (settled s w) slot).top.slots
            now v made lt = by (a.0 == v) refl
              where
                earlier : (a.0 ≡ v → ⊥) → s.top.block ≡ 0 → made.at < s.top.at
                earlier ne zero_block = on (made.at == s.top.at) refl
                  where
                    on : (b : Bool) → (made.at == s.top.at) ≡ b → made.at < s.top.at
                    on true q =
                        let same : made.at ≡ s.top.at = eqb-true made.at s.top.at q in
                        let both : AtInstr (Instr.Alloca v made.ty made.align) ≡ AtInstr (Instr.Alloca a.0 a.1 a.2) =
                        sym made.stands ∙ (λ j. fetch f (sym zero_block j) (same j)) ∙ there in
                        let name : a.0 ≡ v = cc in
                        absurd (ne name)
                    on false q =
                        let low : made.at < s.top.at + 1 = lt zero_block in
                        let apart : made.at ≡ s.top.at → ⊥ =
                        λ same. false≢true (sym q ∙ same_number made.at s.top.at same) in
                        omega (arith, low, apart)
                      where
                        same_number : (x y : ℕ) → x ≡ y → (x == y) ≡ true
                        same_number x y same = grind arith

                differs : (x y : ℕ) → x ≡ y → (x == y) ≡ false → ⊥
                differs x y same apart = absurd (grind arith)

                by : (b : Bool) → (a.0 == v) ≡ b → HasSlotOf (h.place (settled s w) slot).top.slots v
                by true q = (slot, p.new (inl none), made_it.0 ∙ eqb-true a.0 v q)
                by false q =
                    let z = k.0 first none v made (earlier (λ same. differs a.0 v same q)) in
                    (z.0, p.old z.0 z.1, z.2)

    instr_fine : (a : Action) → Comes i a → Doing (AtInstr i) a → Good (hooked_act h s a)
    instr_fine (Stuck cause) q d = tt
    instr_fine (Done w) q d = let n = onward (Done w) d (λ z. z) in λ running. (n.0, n.1)
    instr_fine (NewSlot w slot) q d = slot_fine w slot d
    instr_fine (Enter func args result must_tail) q d =
        let n = onward (Enter func args result must_tail) d (λ z. z) in
        λ running. (λ first none v made lt. absurd (no_less made.at (lt refl)), (n.0, n.1))
    instr_fine (Coro x args result) q d =
        coro_fine result q.0 q.1 args (arg_values h.given.code s.top.values args) x (e ∙ ap AtInstr q.2)
    instr_fine (Deallocate p) q d = freed_fine h.given.code s p (onward (Deallocate p) d (λ z. z))
    instr_fine (GoTo label) q d = absurd q
    instr_fine (Return v) q d = absurd q

  -- ---- terminators

  module _ (t : Terminator) (e : here ≡ AtTerm t) where
    -- all allocas of the block stand before its end
    enters : (label : ℕ) → IsFirstMode s.top.mode → s.top.instance ≡ None
        → ArePassedMade (function_at h.given.code s.top.func) (position_of f label) 0 s.top.slots
    enters label first none v made lt = k.0 first none v made (λ zero_block.
        term_behind f s.top.block s.top.at made.at t (Instr.Alloca v made.ty made.align) e
        (ap (λ (b : ℕ). fetch f b made.at) zero_block ∙ made.stands))

    goes_to : (label : ℕ) (windows : List Window) → Good (branch_leaving h.given s label windows)
    goes_to label [] = λ running. (λ first none. enters label first none, k.1)
    goes_to label (w ∷ windows) = then_fine h.given.code (found Cause.State (own_instance s)) _ (λ p q.
        ok_fine h.given.code _ Cause.State _ (λ running. (λ first none. enters label first none, k.1)))

    term_fine : (a : Action) → IsOfInstr a ≡ false → Good (hooked_act h s a)
    term_fine (Stuck cause) q = tt
    term_fine (GoTo label) q = goes_to label (left_windows h.given s label)
    term_fine (Return v) q = return_fine h.given.code s v k.1
    term_fine (Done w) q = absurd (false≢true (sym q))
    term_fine (NewSlot w slot) q = absurd (false≢true (sym q))
    term_fine (Enter func args result must_tail) q = absurd (false≢true (sym q))
    term_fine (Coro x args result) q = absurd (false≢true (sym q))
    term_fine (Deallocate p) q = absurd (false≢true (sym q))

  act_fine : (x : Fetched) → here ≡ x → Good (hooked_act h s (action_of (hooked_context h s) (work_of s) x))
  act_fine Nowhere e = tt
  act_fine (AtInstr i) e = instr_fine i e (instr_action (hooked_context h s) (work_of s) i)
      (comes (hooked_context h s) (work_of s) i) refl
  act_fine (AtTerm t) e = term_fine t e (term_action (hooked_context h s) (work_of s) t)
      (of_term (hooked_context h s) s t)

  nexts : (x : Fetched) → here ≡ x → h.given_call s x ≡ None → Good (hooked_next h s x)
  nexts x e none = on (h.is_idle s x) refl (h.given_call s x) none
    where
      idles : h.is_idle s x ≡ true → Goes s
      idles d =
          let i : IsAnInstr x = keeps.reached.idle s x d in
          behind i.0 (e ∙ i.1)
          (keeps.marker s i.0 (subst (λ (y : Fetched). h.is_idle s y ≡ true) i.1 d))

      on : (b : Bool) → h.is_idle s x ≡ b → (o : Option (Result State Cause)) → o ≡ None
          → Good (if b then Ok (next s) else unwrap_or o
          (hooked_act h s (action_of (hooked_context h s) (work_of s) x)))
      on true d o u = gave h.given.code s None Value.Poison (idles d)
      on false d None u = act_fine x e
      on false d (Some r) u = absurd (cc)

or_fine : (g : Given) (s : State) (r : Result State Cause) → StaysMade g.code r
    → IsMadeState g.code (or_undefined g s r)
or_fine g s (Err cause) q = λ running. absurd (cc)
or_fine g s (Ok t) q = q

step_made : (h : Hooks) → KeepsExecuted h → (s : State) → IsMadeState h.given.code s
    → IsMadeState h.given.code (step_of h s)
step_made h keeps s k = on s.outcome refl
  where
    on : (o : Outcome) → s.outcome ≡ o → IsMadeState h.given.code (hooked_advance h s o)
    on Outcome.Running e =
        let x = fetch (function_of h.given s) s.top.block s.top.at in
        or_fine h.given s (hooked_next h s x)
        (nexts h keeps s (k e) x refl (keeps.ungiven s s.top.block s.top.at))
    on (Outcome.Returned v) e = k
    on (Outcome.Undefined cause place) e = k

-- ---- runs

module _ (h : Hooks) (keeps : KeepsExecuted h) (entry : ℕ) (args : List Word) where
  one_more : (n : ℕ) (s : State) → iterate (step_of h) (suc n) s ≡ step_of h (iterate (step_of h) n s)
  one_more zero s = refl
  one_more (suc n) s = one_more n (step_of h s)

  none_less : (n : ℕ) → n < 0 → ⊥
  none_less n lt = omega (arith, lt)

  pub states_made : (n : ℕ) → IsMadeState h.given.code (hooked_state_at h entry args n)
  states_made zero = λ running. (λ first none v made lt. absurd (none_less made.at (lt refl)), tt)
  states_made (suc n) = subst (IsMadeState h.given.code) (sym (one_more n (first_state h.given.code entry args)))
      (step_made h keeps (hooked_state_at h entry args n) (states_made n))
