-- A step by hooks keeps it that names of slots before begin lead to them.
use Rattle.std.proofs.Common.{◌≡◌, ◌⊎◌, inl, inr, ℕ, zero, suc, ◌+◌, ◌<◌, Bool, true, false, List, [], ◌∷◌}
use Rattle.std.proofs.Common.{length, Option, Some, None}
use Rattle.std.proofs.Common.{Result, Ok, Err, map, refl, sym, ap, ◌∙◌, subst, arith, if◌then◌else◌}
use Rattle.std.proofs.lemmas.Bool.{false≢true}
use Rattle.std.specs.Prelude.{slice_get, unwrap_or}
use Rattle.pass_frames_proof.specs.ir_base.declared.cause.Cause.{Cause}
use Rattle.pass_frames_proof.specs.ir_base.declared.outcome.Outcome.{Outcome}
use Rattle.pass_frames_proof.specs.ir_base.declared.outcome.Word.{Word}
use Rattle.pass_frames_proof.specs.ir_model.Names.{function_at, position_of}
use Rattle.pass_frames_proof.specs.ir_model.Ty.{Ty}
use Rattle.pass_frames_proof.specs.ir_model.declared.instr.Instr.{Instr}
use Rattle.pass_frames_proof.specs.ir_model.declared.instr.Terminator.{Terminator}
use Rattle.pass_frames_proof.specs.ir_model.declared.module.Function.{Function}
use Rattle.pass_frames_proof.specs.ir_model.declared.operand.Arg.{Arg}
use Rattle.pass_frames_proof.specs.ir_model.declared.operand.Callee.{Callee}
use Rattle.pass_frames_proof.specs.ir_model.declared.operand.Intrinsic.{Intrinsic}
use Rattle.pass_frames_proof.specs.ir_paths.Windows.{operand_at, suspend_of}
use Rattle.pass_frames_proof.specs.ir_paths.declared.point.Window.{Window}
use Rattle.pass_frames_proof.specs.flow_solver.Paths.{IsListed}
use Rattle.pass_frames_meaning.proofs.called.Comes.{Comes, comes}
use Rattle.pass_frames_meaning.proofs.led.Names.{IsOfAlloca, alloca_is, of_alloca}
use Rattle.pass_frames_meaning.specs.Owned.{AreGivenApart}
use Rattle.pass_frames_meaning.proofs.executed.Executed.{not_made_by, set_same}
use Rattle.pass_frames_meaning.specs.Executed.{IsFirstMode}
use Rattle.pass_frames_meaning.specs.Owned.{AreOwnedOn, HasOnlySlot, IsOwnLed, IsOwnedIn, IsOwnedState}
use Rattle.pass_frames_meaning.specs.Owned.{KeepAllOwnRules, KeepsOwned, StaysOwned}
use Rattle.pass_frames_proof.specs.pass_kept_proof.Needed.{BranchesTo, given_by, given_by_intrinsic}
use Rattle.pass_frames_proof.proofs.pass_renewed_proof.Sets.{set_elsewhere, step_sets}
use Rattle.pass_frames_proof.specs.pass_renewed_proof.SlotRules.{IsMadeOnce}
use Rattle.pass_frames_proof.specs.pass_renewed_proof.Steps.{SetsOnly, given_at}
use Rattle.pass_renewed_meaning.proofs.run_hooks.Reached.{IsOfInstr, of_term}
use Rattle.pass_renewed_meaning.proofs.run_hooks.alive.Acts.{slots_by}
use Rattle.pass_renewed_meaning.proofs.run_hooks.alive.Changes.{phis_other}
use Rattle.pass_renewed_meaning.specs.run_hooks.Hooks.{Hooks, hooked_act, hooked_advance, hooked_context, hooked_coro}
use Rattle.pass_renewed_meaning.specs.run_hooks.Hooks.{hooked_next}
use Rattle.pass_renewed_meaning.specs.run_hooks.Hooks.{hooked_state_at, step_of}
use Rattle.pass_renewed_meaning.specs.run_hooks.Left.{HasResumed}
use Rattle.pass_frames_proof.specs.run_memory.declared.pointer.Value.{Value}
use Rattle.pass_frames_proof.specs.run_source.Source.{after_end, branch_leaving, change_own}
use Rattle.pass_frames_proof.specs.run_source.Source.{end_of, enter_block}
use Rattle.pass_frames_proof.specs.run_source.Source.{first_state, left_windows}
use Rattle.pass_frames_proof.specs.run_source.State.{function_of, gives, next, or_undefined}
use Rattle.pass_frames_proof.specs.run_source.State.{own_instance, point_of}
use Rattle.pass_frames_proof.specs.run_source.State.{settled, work_of}
use Rattle.pass_frames_proof.specs.run_source.declared.state.Activation.{Activation}
use Rattle.pass_frames_proof.specs.run_source.declared.state.Instance.{Instance}
use Rattle.pass_frames_proof.specs.run_source.declared.state.State.{State}
use Rattle.pass_frames_proof.specs.run_source_tables.Given.{Given}
use Rattle.pass_frames_proof.proofs.run_states.sound_states.Acts.{entry_length}
use Rattle.pass_frames_proof.proofs.run_states.sound_states.Fits.{Fits, fits}
use Rattle.pass_frames_proof.specs.run_step.Effects.{is_alloca}
use Rattle.pass_frames_proof.specs.run_step.Results.{found}
use Rattle.pass_frames_proof.specs.run_step.Runs.{iterate}
use Rattle.pass_frames_proof.specs.run_step.Step.{Action, AtInstr, AtTerm, Coro, Deallocate, Done, Enter}
use Rattle.pass_frames_proof.specs.run_step.Step.{Fetched, GoTo}
use Rattle.pass_frames_proof.specs.run_step.Step.{NewSlot, Nowhere, Return, Stuck, Work, action_of}
use Rattle.pass_frames_proof.specs.run_step.Step.{fetch}
use Rattle.pass_frames_proof.specs.run_step.Step.{instr_action, label_of, phi_values, phis_of}
use Rattle.pass_frames_proof.specs.run_step.Step.{term_action}
use Rattle.pass_frames_proof.specs.run_step.Values.{Env, arg_values, nth, pointer_to, value_in}
use Rattle.pass_frames_proof.specs.run_step.Values.{with_value}
use Rattle.pass_frames_proof.specs.run_step.declared.world.Slot.{Slot}
use Rattle.pass_frames_meaning.proofs.owned.Parts.{IsFreeFor, Next, after_fine, all_length, freed_fine, gave}
use Rattle.pass_frames_meaning.proofs.owned.Parts.{goes_there, none_free, ok_fine, return_fine, same_top, save_fine}
use Rattle.pass_frames_meaning.proofs.owned.Parts.{sleeper_fine, suspend_fine, then_fine}

-- ---- a step

module _ (h : Hooks) (counts : ℕ → Bool) (keeps : KeepsOwned h) (rules : KeepAllOwnRules h.given.code counts)
    (s : State) (apart : AreGivenApart h.given.code s.top.result s.below)
    (k : AreOwnedOn h.given.code counts (s.top ∷ s.below)) where
  abbrev f : Function
  f = function_at h.given.code s.top.func

  abbrev Good : Result State Cause → Type 0
  Good r = StaysOwned h.given.code counts r

  abbrev here : Fetched
  here = fetch (function_at h.given.code s.top.func) s.top.block s.top.at

  abbrev Goes : State → Type 0
  Goes t = Next h.given.code counts t

  free : (i : Instr) → here ≡ AtInstr i → (is_alloca i ≡ true → ⊥) → (result : Option ℕ) → given_by i ≡ result
      → IsFreeFor h.given.code counts s.top.func result
  free i e never result g v made d = not_made_by f s.top.block s.top.at i e never v made (g ∙ d)

  behind : Goes s
  behind = (
    λ c first none.
        let q = k.0 c first none in
        record {
          wide = q.wide;
          each = λ slot l.
              let z = q.each slot l in
              record {
                made = z.made;
                passed = λ first_block. let lt = z.passed first_block in omega (arith, lt);
                leads = z.leads;
              };
        },
    k.1,
  )

  -- ---- intrinsics

  module _ (result : Option ℕ) (must_tail : Bool) (ty : Option Ty) (args : List Arg) (vs : List Value) where
    abbrev Stands : Intrinsic → Type 0
    Stands x = here ≡ AtInstr (Instr.Call result must_tail ty (Callee.Intrinsic x) args)

    abbrev call : Intrinsic → Instr
    call x = Instr.Call result must_tail ty (Callee.Intrinsic x) args

    frees : (x : Intrinsic) → Stands x → given_by_intrinsic x result ≡ result
        → IsFreeFor h.given.code counts s.top.func result
    frees x e g = free (call x) e (λ d. false≢true d) result g

    gives_it : (x : Intrinsic) → Stands x → given_by_intrinsic x result ≡ result → (v : Value)
        → IsOwnedState h.given.code counts (gives s result v)
    gives_it x e g v = gave h.given.code counts s result v (frees x e g) behind

    goes_on : IsOwnedState h.given.code counts (next s)
    goes_on = gave h.given.code counts s None Value.Poison (none_free h.given.code counts s.top.func) behind

    starts : (r : Result State Cause) → h.start s result (nth vs 1) ≡ r → Good r
    starts (Err cause) d = tt
    starts (Ok t) d = λ running. (
      λ c first none.
          let both : Some (length s.instances) ≡ None =
          sym (keeps.last.start s result (nth vs 1) t d).instance ∙ none in
          absurd (cc),
      subst (AreOwnedOn h.given.code counts) (sym (keeps.last.start s result (nth vs 1) t d).below) k.1,
    )

    resumed : (i : ℕ) (t : State) → HasResumed s i t → (IsFirstMode t.top.mode → ⊥)
        → IsOwnedState h.given.code counts t
    resumed i t r never = λ running. (
      λ c first. absurd (never first),
      subst (AreOwnedOn h.given.code counts) (sym r.below) (behind.0, behind.1),
    )

    ended : Stands Intrinsic.CoroEnd → Good (end_of s h.close result)
    ended e = on s.top.has_left
      where
        closed : (h.close s).top ≡ s.top
        closed = keeps.reached.closed s

        below : (h.close s).below ≡ s.below
        below = (keeps.last.close s).below

        on : (b : Bool) → Good (after_end (if b then s else h.close s) result s.top.mode)
        on true = after_fine h.given.code counts s result s.top.mode apart
            (frees Intrinsic.CoroEnd e refl) behind
        on false = after_fine h.given.code counts (h.close s) result s.top.mode
            (subst (λ (q : Option ℕ × List Activation). AreGivenApart h.given.code q.0 q.1)
            (λ i. ((sym closed i).result, sym below i)) apart)
            (subst (λ (n : ℕ). IsFreeFor h.given.code counts n result)
            (ap (λ (a : Activation). a.func) (sym closed)) (frees Intrinsic.CoroEnd e refl))
            (same_top h.given.code counts s (h.close s) closed below behind)

    released : IsFreeFor h.given.code counts s.top.func result → (v : Value) → (o : Option (ℕ × Instance))
        → IsOwnedState h.given.code counts (gives (change_own s (λ x. record x { released = true }) o) result v)
    released free v None = gave h.given.code counts s result v free behind
    released free v (Some p) =
        gave h.given.code counts (change_own s (λ x. record x { released = true }) (Some p)) result v free
        (behind.0, behind.1)

    coro_fine : (x : Intrinsic) → Stands x → Good (hooked_coro h s x args vs result)
    coro_fine Intrinsic.CoroId e = goes_on
    coro_fine Intrinsic.CoroSizeI32 e = gives_it Intrinsic.CoroSizeI32 e refl _
    coro_fine Intrinsic.CoroSizeI64 e = gives_it Intrinsic.CoroSizeI64 e refl _
    coro_fine Intrinsic.CoroAlignI32 e = gives_it Intrinsic.CoroAlignI32 e refl _
    coro_fine Intrinsic.CoroAlignI64 e = gives_it Intrinsic.CoroAlignI64 e refl _
    coro_fine Intrinsic.CoroAlloc e = gives_it Intrinsic.CoroAlloc e refl _
    coro_fine Intrinsic.CoroFrame e = gives_it Intrinsic.CoroFrame e refl _
    coro_fine Intrinsic.LifetimeStart e = goes_on
    coro_fine Intrinsic.LifetimeEnd e = goes_on
    coro_fine Intrinsic.MemcpyI64 e = goes_on
    coro_fine Intrinsic.MemcpyI32 e = goes_on
    coro_fine Intrinsic.CoroBegin e = starts (h.start s result (nth vs 1)) refl
    coro_fine Intrinsic.CoroFree e = released (frees Intrinsic.CoroFree e refl) (h.freed s) (own_instance s)
    coro_fine Intrinsic.CoroSave e =
        then_fine h.given.code counts (found Cause.State (suspend_of (function_of h.given s) (point_of s))) _ (λ u eu.
        save_fine h.given.code counts s (point_of s) u _ behind (λ t same c.
        gave h.given.code counts t None Value.Poison (none_free h.given.code counts t.top.func) c))
    coro_fine Intrinsic.CoroSuspend e =
        suspend_fine h.given.code counts s result (operand_at args 0) (frees Intrinsic.CoroSuspend e refl) behind
    coro_fine Intrinsic.CoroEnd e = ended e
    coro_fine Intrinsic.CoroResume e = sleeper_fine h.given.code counts s (nth vs 0) _ (λ y.
        ok_fine h.given.code counts _ Cause.State _ (resumed y.number _
        (keeps.last.go_on s y.number y.instance y.suspend y.values _)
        (keeps.go_on s y.number y.instance y.suspend y.values _)))
    coro_fine Intrinsic.CoroDestroy e = sleeper_fine h.given.code counts s (nth vs 0) _ (λ y.
        resumed y.number _ (keeps.last.go_on s y.number y.instance y.suspend y.values _)
        (keeps.go_on s y.number y.instance y.suspend y.values _))
    coro_fine Intrinsic.CoroDone e = sleeper_fine h.given.code counts s (nth vs 0) _ (λ y.
        ok_fine h.given.code counts _ Cause.State _ (gives_it Intrinsic.CoroDone e refl _))
    coro_fine Intrinsic.CoroPromise e =
        then_fine h.given.code counts (h.promised s (nth vs 0) (operand_at args 2)) _ (λ v ev.
        gives_it Intrinsic.CoroPromise e refl v)

  -- ---- other instructions

  abbrev Doing : Fetched → Action → Type 0
  Doing x a = action_of (hooked_context h s) (work_of s) x ≡ a

  -- what makes no slot is no alloca
  abbrev IsOfSlot : Action → Type 0
  IsOfSlot (NewSlot w slot) = Unit {0}
  IsOfSlot (Stuck cause) = Unit {0}
  IsOfSlot _ = ⊥

  makes_slot : (i : Instr) (a : Action) → Doing (AtInstr i) a → is_alloca i ≡ true → IsOfSlot a
  makes_slot i a d is = by (alloca_is i is)
    where
      either : (w : Work) (name : ℕ) (b : Action) → IsOfAlloca w name b → IsOfSlot b
      either w name (NewSlot x slot) q = tt
      either w name (Stuck cause) q = tt
      either w name _ q = absurd q

      by : ((name : ℕ) × (ty : Ty) × (align : ℕ) × (i ≡ Instr.Alloca name ty align)) → IsOfSlot a
      by (name, ty, align, same) =
          either (work_of s) name a (of_alloca (hooked_context h s) (work_of s) name align ty a
          (subst (λ (z : Instr). Doing (AtInstr z) a) same d))

  module _ (i : Instr) (e : here ≡ AtInstr i) where
    wide : (a : Action) → Doing (AtInstr i) a → Fits s.top.values (AtInstr i) a
    wide a d = subst (Fits s.top.values (AtInstr i)) d (fits (hooked_context h s) (work_of s) (AtInstr i))

    done_fine : (w : Work) → Doing (AtInstr i) (Done w) → IsOwnedState h.given.code counts (settled s w)
    done_fine w d = λ running. (top, k.1)
      where
        sets : SetsOnly (given_by i) s.top.values (Done w)
        sets = subst (SetsOnly (given_by i) s.top.values) d
            (step_sets (hooked_context h s) (work_of s) (AtInstr i))

        never : is_alloca i ≡ true → ⊥
        never is = makes_slot i (Done w) d is

        top : IsOwnedIn h.given.code counts (settled s w).top
        top c first none =
            let q = behind.0 c first none in
            record {
              wide = wide (Done w) d ∙ q.wide;
              each = λ slot l.
                  let z = q.each slot l in
                  record {
                    made = z.made;
                    passed = z.passed;
                    leads = sets slot.alloca
                        (not_made_by f s.top.block s.top.at i e never slot.alloca z.made) ∙ z.leads;
                  };
            }

    slot_fine : (w : Work) (slot : Slot) → Doing (AtInstr i) (NewSlot w slot)
        → IsOwnedState h.given.code counts (h.place (settled s w) slot)
    slot_fine w slot d = λ running. (
      top,
      subst (AreOwnedOn h.given.code counts) (sym (keeps.last.place (settled s w) slot).below) k.1,
    )
      where
        a : (name : ℕ) × (ty : Ty) × (align : ℕ) × (i ≡ Instr.Alloca name ty align)
        a = alloca_is i (slots_by (hooked_context h s) (work_of s) i w slot d)

        made_it : (slot.alloca ≡ a.0) × (w.values ≡ with_value s.top.values a.0 (pointer_to slot.block))
        made_it = of_alloca (hooked_context h s) (work_of s) a.0 a.2 a.1 (NewSlot w slot)
            (subst (λ (z : Instr). Doing (AtInstr z) (NewSlot w slot)) a.3 d)

        there : here ≡ AtInstr (Instr.Alloca a.0 a.1 a.2)
        there = e ∙ ap AtInstr a.3

        top : IsOwnedIn h.given.code counts (h.place (settled s w) slot).top
        top c' first' none' = record {
          wide =
              subst (λ (q : ℕ × Env). length q.1 ≡ length (function_at h.given.code q.0).names)
              (λ j. (sym p.func j, sym p.values j)) (wide (NewSlot w slot) d ∙ room);
          each = λ z l.
              subst (λ (q : ℕ × ℕ × ℕ × Env). IsOwnLed (function_at h.given.code q.0) q.1 q.2 q.3 z)
              (λ j. (sym p.func j, sym p.block j, sym p.at j, sym p.values j)) (either z (p.only z l));
        }
          where
            first : IsFirstMode s.top.mode
            first = keeps.place (settled s w) slot first'

            p : HasOnlySlot slot (settled s w) (h.place (settled s w) slot)
            p = keeps.placed (settled s w) slot first

            c : counts s.top.func ≡ true
            c = ap counts (sym p.func) ∙ c'

            none : s.top.instance ≡ None
            none = sym p.instance ∙ none'

            room : length s.top.values ≡ length f.names
            room = (k.0 c first none).wide

            one : IsMadeOnce f a.0
            one = (rules s.top.func c).made s.top.block s.top.at a.0 a.1 a.2 there

            stands : (s.top.block ≡ 0) × (s.top.at ≡ one.at)
            stands = one.alone s.top.block s.top.at (ap given_at there)

            new : IsOwnLed f s.top.block (s.top.at + 1) w.values slot
            new = subst (λ (n : ℕ). IsOwnLed f s.top.block (s.top.at + 1) w.values (record { alloca = n; block = slot.block }))
                (sym made_it.0) (record {
                  made = one;
                  passed = λ zero_block. let same : s.top.at ≡ one.at = stands.1 in omega (arith, same);
                  leads =
                      ap (λ (env : Env). value_in env a.0) made_it.1
                      ∙ set_same s.top.values a.0 (pointer_to slot.block)
                      (let long : length s.top.values ≡ length f.names = room in
                      let low : a.0 < length f.names =
                      (rules s.top.func c).low s.top.block s.top.at a.0 a.1 a.2 there in
                      omega (arith, long, low));
                })

            old : (y : Slot) → IsListed y s.top.slots → IsOwnLed f s.top.block (s.top.at + 1) w.values y
            old y l =
                let q = (k.0 c first none).each y l in
                record {
                  made = q.made;
                  passed = λ zero_block. let lt = q.passed zero_block in omega (arith, lt);
                  leads =
                      ap (λ (env : Env). value_in env y.alloca) made_it.1
                      ∙ set_elsewhere s.top.values a.0 y.alloca (pointer_to slot.block) (differs q)
                      ∙ q.leads;
                }
              where
                differs : IsOwnLed f s.top.block s.top.at s.top.values y → a.0 ≡ y.alloca → ⊥
                differs q same =
                    let again = q.made.alone s.top.block s.top.at
                    (ap given_at there ∙ ap (λ (n : ℕ). Some n) same) in
                    let lt = q.passed stands.0 in
                    let at : s.top.at ≡ q.made.at = again.1 in
                    omega (arith, lt, at)

            either : (z : Slot) → IsListed z s.top.slots ⊎ (z ≡ slot) → IsOwnLed f s.top.block (s.top.at + 1) w.values z
            either z (inl l) = old z l
            either z (inr same) =
                subst (λ (y : Slot). IsOwnLed f s.top.block (s.top.at + 1) w.values y) (sym same) new

    instr_fine : (a : Action) → Comes i a → Doing (AtInstr i) a → Good (hooked_act h s a)
    instr_fine (Stuck cause) q d = tt
    instr_fine (Done w) q d = done_fine w d
    instr_fine (NewSlot w slot) q d = slot_fine w slot d
    instr_fine (Enter func args result must_tail) q d = λ running. (
      λ c first none. record {
        wide = entry_length (function_at h.given.code func) args;
        each = λ slot l. absurd l;
      },
      (behind.0, behind.1),
    )
    instr_fine (Coro x args result) q d =
        coro_fine result q.0 q.1 args (arg_values h.given.code s.top.values args) x (e ∙ ap AtInstr q.2)
    instr_fine (Deallocate p) q d = freed_fine h.given.code counts s p behind
    instr_fine (GoTo label) q d = absurd q
    instr_fine (Return v) q d = absurd q

  -- ---- terminators

  module _ (t : Terminator) (e : here ≡ AtTerm t) where
    module _ (label : ℕ) (leads : BranchesTo label (AtTerm t)) where
      enters : (left : Bool)
          → IsOwnedIn h.given.code counts (record (enter_block h.given s label).top { has_left = left })
      enters left c first none =
          let q = k.0 c first none in
          record {
            wide =
                all_length s.top.values (phi_values h.given.code s.top.values
                (label_of (slice_get f.blocks s.top.block)) (phis_of (slice_get f.blocks (position_of f label))))
                ∙ q.wide;
            each = λ slot l.
                let z = q.each slot l in
                record {
                  made = z.made;
                  passed = λ first_block. absurd ((rules s.top.func c).entry s.top.block s.top.at label
                      (subst (BranchesTo label) (sym e) leads) first_block);
                  leads =
                      phis_other h.given.code s.top.values (label_of (slice_get f.blocks s.top.block))
                      (phis_of (slice_get f.blocks (position_of f label))) s.top.values slot.alloca
                      (z.made.no_phi (position_of f label)) ∙ z.leads;
                };
          }

      goes_to : (windows : List Window) → Good (branch_leaving h.given s label windows)
      goes_to [] = λ running. (enters s.top.has_left, k.1)
      goes_to (w ∷ windows) = then_fine h.given.code counts (found Cause.State (own_instance s)) _ (λ p q.
          ok_fine h.given.code counts _ Cause.State _ (λ running. (enters false, k.1)))

    term_fine : (a : Action) → term_action (hooked_context h s) (work_of s) t ≡ a → IsOfInstr a ≡ false
        → Good (hooked_act h s a)
    term_fine (Stuck cause) d q = tt
    term_fine (GoTo label) d q =
        goes_to label (goes_there (hooked_context h s) (work_of s) t label d) (left_windows h.given s label)
    term_fine (Return v) d q = return_fine h.given.code counts s v k.1 apart
    term_fine (Done w) d q = absurd (false≢true (sym q))
    term_fine (NewSlot w slot) d q = absurd (false≢true (sym q))
    term_fine (Enter func args result must_tail) d q = absurd (false≢true (sym q))
    term_fine (Coro x args result) d q = absurd (false≢true (sym q))
    term_fine (Deallocate p) d q = absurd (false≢true (sym q))

  act_fine : (x : Fetched) → here ≡ x → Good (hooked_act h s (action_of (hooked_context h s) (work_of s) x))
  act_fine Nowhere e = tt
  act_fine (AtInstr i) e = instr_fine i e (instr_action (hooked_context h s) (work_of s) i)
      (comes (hooked_context h s) (work_of s) i) refl
  act_fine (AtTerm t) e = term_fine t e (term_action (hooked_context h s) (work_of s) t) refl
      (of_term (hooked_context h s) s t)

  nexts : (x : Fetched) → here ≡ x → h.given_call s x ≡ None → Good (hooked_next h s x)
  nexts x e none = on (h.is_idle s x) (h.given_call s x) none
    where
      on : (b : Bool) (o : Option (Result State Cause)) → o ≡ None
          → Good (if b then Ok (next s) else unwrap_or o
          (hooked_act h s (action_of (hooked_context h s) (work_of s) x)))
      on true o u =
          gave h.given.code counts s None Value.Poison (none_free h.given.code counts s.top.func) behind
      on false None u = act_fine x e
      on false (Some r) u = absurd (cc)

or_fine : (g : Given) (counts : ℕ → Bool) (s : State) (r : Result State Cause) → StaysOwned g.code counts r
    → IsOwnedState g.code counts (or_undefined g s r)
or_fine g counts s (Err cause) q = λ running. absurd (cc)
or_fine g counts s (Ok t) q = q

pub step_owned : (h : Hooks) (counts : ℕ → Bool) → KeepsOwned h → KeepAllOwnRules h.given.code counts
    → (s : State) → AreGivenApart h.given.code s.top.result s.below
    → IsOwnedState h.given.code counts s → IsOwnedState h.given.code counts (step_of h s)
step_owned h counts keeps rules s apart k = on s.outcome refl
  where
    on : (o : Outcome) → s.outcome ≡ o → IsOwnedState h.given.code counts (hooked_advance h s o)
    on Outcome.Running e =
        let x = fetch (function_of h.given s) s.top.block s.top.at in
        or_fine h.given counts s (hooked_next h s x)
        (nexts h counts keeps rules s apart (k e) x refl (keeps.ungiven s s.top.block s.top.at))
    on (Outcome.Returned v) e = k
    on (Outcome.Undefined cause place) e = k

-- ---- runs

module _ (h : Hooks) (counts : ℕ → Bool) (keeps : KeepsOwned h) (rules : KeepAllOwnRules h.given.code counts)
    (entry : ℕ) (args : List Word)
    (apart : (n : ℕ) → AreGivenApart h.given.code (hooked_state_at h entry args n).top.result
    (hooked_state_at h entry args n).below) where
  one_more : (n : ℕ) (s : State) → iterate (step_of h) (suc n) s ≡ step_of h (iterate (step_of h) n s)
  one_more zero s = refl
  one_more (suc n) s = one_more n (step_of h s)

  pub states_owned : (n : ℕ) → IsOwnedState h.given.code counts (hooked_state_at h entry args n)
  states_owned zero = λ running. (
    λ c first none. record {
      wide = entry_length (function_at h.given.code entry) (map Value.Int args);
      each = λ slot l. absurd l;
    },
    tt,
  )
  states_owned (suc n) =
      subst (IsOwnedState h.given.code counts) (sym (one_more n (first_state h.given.code entry args)))
      (step_owned h counts keeps rules (hooked_state_at h entry args n) (apart n) (states_owned n))
