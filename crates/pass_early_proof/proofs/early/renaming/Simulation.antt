-- The renamed module's runs are those of the module.
use Rattle.std.proofs.Common.{◌≡◌, inl, ⊎_elim, ℕ, Bool, true, false, List, [], length, refl, sym, ap, ◌∙◌, subst, arith}
use Rattle.std.specs.Prelude.{ℤ, IsTrue, Some, None, Ok, Err, Option, Result, map, slice_get}
use Rattle.rule_laws.proofs.run_agreement.Lockstep.{Advance, ShowsSame, Simulates, lockstep_one, lockstep_within}
use Rattle.rule_laws.specs.run_agreement.Agreements.{AgreesWithin}
use Rattle.rule_laws.proofs.run_agreement.Costs.{weaken_by}
use Rattle.rule_laws.specs.run_agreement.Costs.{AgreesBy}
use Rattle.rule_laws.specs.run_agreement.Machines.{IsFine, IsRunning, Machine}
use Rattle.rule_laws.specs.run_memory.Memory.{owner_rights}
use Rattle.rule_laws.specs.run_memory.declared.pointer.Value.{Value}
use Rattle.rule_laws.specs.ir_base.declared.cause.Cause.{Cause}
use Rattle.rule_laws.specs.ir_base.declared.outcome.Outcome.{Outcome}
use Rattle.rule_laws.specs.ir_base.declared.outcome.Word.{Word}
use Rattle.rule_laws.specs.run_source.Source.{SeenOf, Sleeper, SourceAt, act, advance_by, called, continue, coro, first_state, frame_address, given, promise, sleeper_at, step}
use Rattle.rule_laws.specs.run_source.State.{gives, or_undefined, own_instance, point_of, settled, work_of}
use Rattle.rule_laws.specs.run_source.declared.state.Mode.{Mode}
use Rattle.rule_laws.specs.run_source.declared.state.State.{State}
use Rattle.rule_laws.specs.run_source.declared.state.Status.{Status}
use Rattle.pass_early_proof.proofs.early.renaming.Acting.{step_there}
use Rattle.pass_early_proof.proofs.early.renaming.Acts.{asleep_there, begin_good, deallocate_good, destroy_good, done_good, end_good, frame_good, freed_good, resume_good}
use Rattle.rule_laws.proofs.ir_laws.paths.renamed.Fits.{AnInstr, ATerm, Nothing, Stands, stands}
use Rattle.run_states.proofs.renamed.Fits.{Ends, Fits, ends, fits, ordinary_in}
use Rattle.pass_early_proof.proofs.early.renaming.Invariant.{IsAsleep, IsKnown, is_resumed}
use Rattle.pass_early_proof.proofs.early.renaming.Kept.{Good, enter_good, first_stands, gives_good, go_good, new_slot_good, next_good, on_result, return_good, saved_good, suspended_good}
use Rattle.rule_laws.proofs.ir_laws.facts.Truth.{equal_numbers, not_equal}
use Rattle.run_states.proofs.renamed.Modules.{world_there}
use Rattle.pass_early_proof.proofs.early.renaming.Preserved.{Holds, Sleeps, settled_holds}
use Rattle.pass_early_proof.proofs.early.renaming.Sameness.{Agree, AgreeOn, by_function, facts_all, mild}
use Rattle.pass_early_proof.specs.early.renaming.Passes.{renamed_function, renamed_module}
use Rattle.pass_early_proof.specs.early.renaming.Regular.{AreRegular}
use Rattle.rule_laws.specs.ir_laws.paths.renamed.Regular.{AsOperand, Here, OnEdge, is_call_at, operands_read}
use Rattle.rule_laws.specs.ir_laws.facts.renamed.Regular.{passes}
use Rattle.pass_early.specs.Early.{renaming_of}
use Rattle.pass_early.specs.declared.renaming.Renaming.{Renaming}
use Rattle.pass_early_proof.specs.early.early_states.Beside.{IsSameState, source_machine}
use Rattle.ir_model.specs.Names.{function_at, intrinsic_number, same_intrinsic}
use Rattle.ir_model.specs.declared.instr.Instr.{Instr}
use Rattle.ir_model.specs.declared.module.Block.{Block}
use Rattle.ir_model.specs.declared.module.Frame.{Frame}
use Rattle.ir_model.specs.declared.module.Function.{Function}
use Rattle.ir_model.specs.declared.module.Module.{Module}
use Rattle.ir_model.specs.declared.operand.Arg.{Arg}
use Rattle.ir_model.specs.declared.operand.Callee.{Callee}
use Rattle.ir_model.specs.declared.operand.Intrinsic.{Intrinsic}
use Rattle.rule_laws.specs.ir_paths.Facts.{all_facts}
use Rattle.rule_laws.specs.ir_paths.Windows.{destroy_label, instr_at, is_call_of, operand_at, resume_label}
use Rattle.rule_laws.specs.ir_paths.declared.point.Facts.{Facts}
use Rattle.rule_laws.specs.run_step.Runs.{seen_of}
use Rattle.rule_laws.specs.run_step.Step.{Action, Context, Coro, Deallocate, Done, Enter, Fetched, GoTo, NewSlot, Return, Stuck, action_of, entry_values, fetch}
use Rattle.rule_laws.specs.run_step.Values.{Env, nth, truth_value, value_in}
use Rattle.rule_laws.specs.run_step.declared.world.World.{World}
use Rattle.rule_laws.specs.run_source_tables.Given.{Given}
use Rattle.rule_laws.specs.run_laws.changed.Changed.{result_of}
use Rattle.run_states.proofs.named.Simulation.{running_is}

-- a call of one intrinsic is none of another
pub other_call : (j k : Intrinsic) (i : Instr) → is_call_of j i ≡ true → same_intrinsic j k ≡ false → is_call_of k i ≡ false
other_call j k (Instr.Call result must_tail ty (Callee.Intrinsic l) args) e other = on (same_intrinsic k l) refl
  where
    on : (b : Bool) → same_intrinsic k l ≡ b → b ≡ false
    on true d = absurd (not_equal (intrinsic_number j) (intrinsic_number k) other (equal_numbers (intrinsic_number j) (intrinsic_number l) e ∙ sym (equal_numbers (intrinsic_number k) (intrinsic_number l) d)))
    on false d = refl
other_call j k (Instr.Call result must_tail ty (Callee.Named n) args) e other = refl
other_call j k (Instr.Call result must_tail ty (Callee.Allocator a) args) e other = refl
other_call j k (Instr.Call result must_tail ty (Callee.Local n) args) e other = refl
other_call j k (Instr.Alloca name ty align) e other = refl
other_call j k (Instr.Gep name inbounds ty base indices) e other = refl
other_call j k (Instr.Binary name op flags ty a b) e other = refl
other_call j k (Instr.Icmp name pred ty a b) e other = refl
other_call j k (Instr.Select name x a b) e other = refl
other_call j k (Instr.Cast name op nneg arg to) e other = refl
other_call j k (Instr.Load name ty p align) e other = refl
other_call j k (Instr.Store arg p align) e other = refl

known_value : (f : Function) (r : Renaming) (o : Option ℕ) (env : Env) (n : ℕ) → IsKnown f r o env n → value_in env r.to ≡ value_in env n
known_value f r None env n h = absurd h
known_value f r (Some i) env n h = h

module _ (m : Module) (ok : AreRegular m) (sizes : List Frame) (answers : List ℤ) where
  abbrev the : ℕ → Function
  the func = function_at m func

  abbrev ren : ℕ → Renaming
  ren func = renaming_of (function_at m func)

  abbrev g : Given
  g = given m sizes answers

  abbrev with_facts : List Facts → Given
  with_facts facts = record { code = renamed_module m; sizes = sizes; answers = answers; facts = facts }

  abbrev h : Given
  h = with_facts (all_facts m)

  abbrev context : State → Context
  context s = record { code = m; answers = answers; rights = owner_rights; function = the s.top.func }

  abbrev Fine : Result State Cause → Type 0
  Fine o = Good m ok sizes answers o

  -- ---- a step keeps what holds

  module _ (s : State) (hs : Holds m ok s) (i : Instr) (here : instr_at (the s.top.func) (point_of s) ≡ Some i) where
    coro_good : (j : Intrinsic) (args : List Arg) (vs : List Value) (result : Option ℕ) → is_call_of j i ≡ true → result ≡ result_of i → Fine (coro g (continue g) s j args vs result)
    coro_good Intrinsic.CoroBegin args vs result is e = begin_good m ok sizes answers s hs i here is result e (nth vs 1)
    coro_good Intrinsic.CoroFrame args vs result is e = frame_good m ok sizes answers s hs i here is result e
    coro_good Intrinsic.CoroSave args vs result is e = saved_good m ok sizes answers s hs i here (other_call Intrinsic.CoroSave Intrinsic.CoroFrame i is refl, other_call Intrinsic.CoroSave Intrinsic.CoroBegin i is refl, other_call Intrinsic.CoroSave Intrinsic.CoroEnd i is refl) is
    coro_good Intrinsic.CoroSuspend args vs result is e = suspended_good m ok sizes answers s hs i here (other_call Intrinsic.CoroSuspend Intrinsic.CoroFrame i is refl, other_call Intrinsic.CoroSuspend Intrinsic.CoroBegin i is refl, other_call Intrinsic.CoroSuspend Intrinsic.CoroEnd i is refl) is result e (operand_at args 0)
    coro_good Intrinsic.CoroResume args vs result is e = resume_good m ok sizes answers s hs i here (other_call Intrinsic.CoroResume Intrinsic.CoroFrame i is refl, other_call Intrinsic.CoroResume Intrinsic.CoroBegin i is refl, other_call Intrinsic.CoroResume Intrinsic.CoroEnd i is refl) (nth vs 0)
    coro_good Intrinsic.CoroDestroy args vs result is e = destroy_good m ok sizes answers s hs i here (other_call Intrinsic.CoroDestroy Intrinsic.CoroFrame i is refl, other_call Intrinsic.CoroDestroy Intrinsic.CoroBegin i is refl, other_call Intrinsic.CoroDestroy Intrinsic.CoroEnd i is refl) (nth vs 0)
    coro_good Intrinsic.CoroDone args vs result is e = done_good m ok sizes answers s hs i here (other_call Intrinsic.CoroDone Intrinsic.CoroFrame i is refl, other_call Intrinsic.CoroDone Intrinsic.CoroBegin i is refl, other_call Intrinsic.CoroDone Intrinsic.CoroEnd i is refl) result e (nth vs 0)
    coro_good Intrinsic.CoroEnd args vs result is e = end_good m ok sizes answers s hs i here (other_call Intrinsic.CoroEnd Intrinsic.CoroFrame i is refl, other_call Intrinsic.CoroEnd Intrinsic.CoroBegin i is refl) result e
    coro_good Intrinsic.CoroFree args vs result is e = freed_good m ok sizes answers s hs i here (other_call Intrinsic.CoroFree Intrinsic.CoroFrame i is refl, other_call Intrinsic.CoroFree Intrinsic.CoroBegin i is refl, other_call Intrinsic.CoroFree Intrinsic.CoroEnd i is refl) result e (frame_address (own_instance s)) (own_instance s) refl
    coro_good Intrinsic.CoroPromise args vs result is e =
        on_result m ok sizes answers (promise g s (nth vs 0) (operand_at args 2)) (λ v. Ok (gives s result v))
        (λ v d. gives_good m ok sizes answers s hs i here (other_call Intrinsic.CoroPromise Intrinsic.CoroFrame i is refl, other_call Intrinsic.CoroPromise Intrinsic.CoroBegin i is refl, other_call Intrinsic.CoroPromise Intrinsic.CoroEnd i is refl) result e v)
    coro_good Intrinsic.CoroSizeI32 args vs result is e = gives_good m ok sizes answers s hs i here (other_call Intrinsic.CoroSizeI32 Intrinsic.CoroFrame i is refl, other_call Intrinsic.CoroSizeI32 Intrinsic.CoroBegin i is refl, other_call Intrinsic.CoroSizeI32 Intrinsic.CoroEnd i is refl) result e _
    coro_good Intrinsic.CoroSizeI64 args vs result is e = gives_good m ok sizes answers s hs i here (other_call Intrinsic.CoroSizeI64 Intrinsic.CoroFrame i is refl, other_call Intrinsic.CoroSizeI64 Intrinsic.CoroBegin i is refl, other_call Intrinsic.CoroSizeI64 Intrinsic.CoroEnd i is refl) result e _
    coro_good Intrinsic.CoroAlignI32 args vs result is e = gives_good m ok sizes answers s hs i here (other_call Intrinsic.CoroAlignI32 Intrinsic.CoroFrame i is refl, other_call Intrinsic.CoroAlignI32 Intrinsic.CoroBegin i is refl, other_call Intrinsic.CoroAlignI32 Intrinsic.CoroEnd i is refl) result e _
    coro_good Intrinsic.CoroAlignI64 args vs result is e = gives_good m ok sizes answers s hs i here (other_call Intrinsic.CoroAlignI64 Intrinsic.CoroFrame i is refl, other_call Intrinsic.CoroAlignI64 Intrinsic.CoroBegin i is refl, other_call Intrinsic.CoroAlignI64 Intrinsic.CoroEnd i is refl) result e _
    coro_good Intrinsic.CoroAlloc args vs result is e = gives_good m ok sizes answers s hs i here (other_call Intrinsic.CoroAlloc Intrinsic.CoroFrame i is refl, other_call Intrinsic.CoroAlloc Intrinsic.CoroBegin i is refl, other_call Intrinsic.CoroAlloc Intrinsic.CoroEnd i is refl) result e (truth_value true)
    coro_good Intrinsic.CoroId args vs result is e = next_good m ok sizes answers s hs i here (other_call Intrinsic.CoroId Intrinsic.CoroFrame i is refl, other_call Intrinsic.CoroId Intrinsic.CoroBegin i is refl, other_call Intrinsic.CoroId Intrinsic.CoroEnd i is refl)
    coro_good Intrinsic.LifetimeStart args vs result is e = next_good m ok sizes answers s hs i here (other_call Intrinsic.LifetimeStart Intrinsic.CoroFrame i is refl, other_call Intrinsic.LifetimeStart Intrinsic.CoroBegin i is refl, other_call Intrinsic.LifetimeStart Intrinsic.CoroEnd i is refl)
    coro_good Intrinsic.LifetimeEnd args vs result is e = next_good m ok sizes answers s hs i here (other_call Intrinsic.LifetimeEnd Intrinsic.CoroFrame i is refl, other_call Intrinsic.LifetimeEnd Intrinsic.CoroBegin i is refl, other_call Intrinsic.LifetimeEnd Intrinsic.CoroEnd i is refl)
    coro_good Intrinsic.MemcpyI64 args vs result is e = next_good m ok sizes answers s hs i here (other_call Intrinsic.MemcpyI64 Intrinsic.CoroFrame i is refl, other_call Intrinsic.MemcpyI64 Intrinsic.CoroBegin i is refl, other_call Intrinsic.MemcpyI64 Intrinsic.CoroEnd i is refl)
    coro_good Intrinsic.MemcpyI32 args vs result is e = next_good m ok sizes answers s hs i here (other_call Intrinsic.MemcpyI32 Intrinsic.CoroFrame i is refl, other_call Intrinsic.MemcpyI32 Intrinsic.CoroBegin i is refl, other_call Intrinsic.MemcpyI32 Intrinsic.CoroEnd i is refl)

    action_good : (a : Action) → Fits s.top.values i a → Fine (act g (continue g) s a)
    action_good (Done w) fit = settled_holds m ok s hs i here (ordinary_in (is_resumed s.top.mode) i fit.0) w fit.1
    action_good (NewSlot w slot) fit = new_slot_good m ok sizes answers (settled s w) (settled_holds m ok s hs i here (ordinary_in (is_resumed s.top.mode) i fit.0) w fit.1) slot
    action_good (Enter func args result must_tail) fit = enter_good m ok sizes answers s hs i here fit.0 func args result fit.1
    action_good (Coro j args result) fit = coro_good j args _ result fit.0 fit.1
    action_good (Deallocate p) fit = deallocate_good m ok sizes answers s hs i here fit p
    action_good (GoTo label) fit = absurd fit
    action_good (Return v) fit = absurd fit
    action_good (Stuck cause) fit = tt

  module _ (s : State) (hs : Holds m ok s) where
    term_good : (b : Block) → slice_get (the s.top.func).blocks s.top.block ≡ Some b → s.top.at ≡ length b.instrs → instr_at (the s.top.func) (point_of s) ≡ None → (a : Action) → Ends (context s) (work_of s) b.term a → Fine (act g (continue g) s a)
    term_good b e at none (GoTo label) end = go_good m ok sizes answers s hs label b e at none end
    term_good b e at none (Return v) end = return_good m ok sizes answers s hs v
    term_good b e at none (Stuck cause) end = tt
    term_good b e at none (Done w) end = absurd end
    term_good b e at none (NewSlot w slot) end = absurd end
    term_good b e at none (Enter func args result must_tail) end = absurd end
    term_good b e at none (Coro j args result) end = absurd end
    term_good b e at none (Deallocate p) end = absurd end

    place_good : (here : Fetched) → Stands (the s.top.func) (point_of s) here → Fine (act g (continue g) s (action_of (context s) (work_of s) here))
    place_good _ Nothing = tt
    place_good _ (AnInstr i e) = action_good s hs i e _ (fits (context s) (work_of s) i)
    place_good _ (ATerm b e at none) = term_good b e at none _ (ends (context s) (work_of s) b.term)

    after : (o : Result State Cause) → Fine o → IsFine (or_undefined g s o).outcome → Holds m ok (or_undefined g s o)
    after (Err cause) good fine = absurd fine
    after (Ok t) good fine = good

    abbrev here_of : Fetched
    here_of = fetch (the s.top.func) s.top.block s.top.at

    step_is : s.outcome ≡ Outcome.Running → step g s ≡ or_undefined g s (act g (continue g) s (action_of (context s) (work_of s) here_of))
    step_is runs = ap (advance_by g (continue g) s) runs

    pub step_holds : s.outcome ≡ Outcome.Running → IsFine (step g s).outcome → Holds m ok (step g s)
    step_holds runs fine =
        subst (Holds m ok) (sym (step_is runs))
        (after (act g (continue g) s (action_of (context s) (work_of s) here_of)) (place_good here_of (stands (the s.top.func) (point_of s))) (subst (λ (t : State). IsFine t.outcome) (step_is runs) fine))

    -- ---- what holds gives trust

    operands_agree : (the s.top.func).coroutine ≡ true → Agree (ren s.top.func) s.top.values (operands_read here_of)
    operands_agree c n e used = ⊎_elim
        (λ known. known_value (the s.top.func) (ren s.top.func) s.top.instance s.top.values n known)
        (λ dead. absurd (dead (point_of s) Here (AsOperand used)))
        ((hs.top.steady c).frames n e)

    sleepers_agree : (p : Value) (y : Sleeper) → sleeper_at s p ≡ Ok y → AgreeOn m ok sizes answers y.instance.coroutine y.values y.suspend.block (resume_label (the y.instance.coroutine) y.suspend) × AgreeOn m ok sizes answers y.instance.coroutine y.values y.suspend.block (destroy_label (the y.instance.coroutine) y.suspend)
    sleepers_agree p y e = (
      λ c n d taken. ⊎_elim (λ known. known) (λ dead. absurd (dead.resumed.not_taken taken)) ((asleep c).frames n d),
      λ c n d taken. ⊎_elim (λ known. known) (λ dead. absurd (dead.destroyed.not_taken taken)) ((asleep c).frames n d),
    )
      where
        asleep : (the y.instance.coroutine).coroutine ≡ true → IsAsleep (the y.instance.coroutine) (ren y.instance.coroutine) s.instances y.instance.coroutine y.number y.values y.suspend
        asleep c =
            let is = asleep_there m ok s p y e in
            subst (λ (st : Status). Sleeps m ok s.instances y.number y.instance.coroutine st) is.status (hs.asleep y.number y.instance is.got) c

    edge_agrees : (here : Fetched) → Stands (the s.top.func) (point_of s) here → (label : ℕ) → action_of (context s) (work_of s) here ≡ GoTo label → AgreeOn m ok sizes answers s.top.func s.top.values s.top.block label
    edge_agrees _ Nothing label e = absurd (cc)
    edge_agrees _ (AnInstr i is) label e = absurd (subst (Fits s.top.values i) e (fits (context s) (work_of s) i))
    edge_agrees _ (ATerm b is at none) label e = λ c n d taken. ⊎_elim
        (λ known. known_value (the s.top.func) (ren s.top.func) s.top.instance s.top.values n known)
        (λ dead. absurd (dead (point_of s) Here (OnEdge b label is at (subst (Ends (context s) (work_of s) b.term) e (ends (context s) (work_of s) b.term)) taken)))
        ((hs.top.steady c).frames n d)

    save_stands : (here : Fetched) → Stands (the s.top.func) (point_of s) here → (args : List Arg) (result : Option ℕ) → action_of (context s) (work_of s) here ≡ Coro Intrinsic.CoroSave args result → IsTrue (is_call_at (the s.top.func) Intrinsic.CoroSave (point_of s))
    save_stands _ Nothing args result e = absurd (cc)
    save_stands _ (AnInstr i is) args result e = ap (passes (is_call_of Intrinsic.CoroSave)) is ∙ (subst (Fits s.top.values i) e (fits (context s) (work_of s) i)).0
    save_stands _ (ATerm b is at none) args result e = absurd (subst (Ends (context s) (work_of s) b.term) e (ends (context s) (work_of s) b.term))

    pub step_same : s.outcome ≡ Outcome.Running → step h s ≡ step g s
    step_same runs =
        step_there m ok sizes answers s runs operands_agree
        (record {
          edges = edge_agrees here_of (stands (the s.top.func) (point_of s));
          sleepers = sleepers_agree;
          saves = λ args result e c. save_stands here_of (stands (the s.top.func) (point_of s)) args result e;
        })

  -- ---- the two machines

  module _ (entry : ℕ) (args : List Word) where
    abbrev A : Machine State
    A = record { start = first_state m entry args; step = step g; seen = λ s. seen_of m s.world s.outcome }

    abbrev B : Machine State
    B = record { start = first_state (renamed_module m) entry args; step = step h; seen = λ s. seen_of (renamed_module m) s.world s.outcome }

    record Related (s t : State) : Type 0 where
      is : t ≡ s
      holds : Holds m ok s

    first_same : first_state (renamed_module m) entry args ≡ first_state m entry args
    first_same =
        ap (λ (w : World). record (first_state (renamed_module m) entry args) { world = w }) (world_there renamed_function mild m)
        ∙ by_function m ok sizes answers (λ f. record (first_state m entry args) { top = record (called m entry (map Value.Int args) None Mode.Plain) { values = entry_values f (map Value.Int args) } }) entry (λ c. refl)

    first_holds : Holds m ok (first_state m entry args)
    first_holds = record {
      top = first_stands m ok sizes answers [] entry (map Value.Int args);
      below = tt;
      asleep = λ i x e. absurd (cc);
    }

    stays_by : (k : Given) (s : State) (o : Outcome) → (IsRunning o → ⊥) → advance_by k (continue k) s o ≡ s
    stays_by k s (Outcome.Returned v) over = refl
    stays_by k s Outcome.Running over = absurd (over tt)
    stays_by k s (Outcome.Undefined cause place) over = refl

    advance : (s : State) → Holds m ok s → IsRunning s.outcome → IsFine (step g s).outcome → Advance A B 1 Related (λ x. 0) s s
    advance s hs runs fine =
        let is = running_is s.outcome runs in
        record {
          steps = 1;
          few = omega arith;
          goes_on = inl (omega arith);
          between = λ i low high. absurd (omega arith);
          related = record { is = step_same s hs is; holds = step_holds s hs is fine };
        }

    simulates : Simulates A B 1 Related (λ x. 0)
    simulates = record {
      begin = record { is = first_same; holds = first_holds };
      same = λ s t r. subst (λ (x : State). ShowsSame (B.seen x) (A.seen s)) (sym r.is) (record { events = refl; outcome = refl });
      advance = λ s t r runs fine. subst (λ (x : State). Advance A B 1 Related (λ y. 0) s x) (sym r.is) (advance s r.holds runs fine);
      stays_a = λ s over. stays_by g s s.outcome over;
      stays_b = λ s over. stays_by h s s.outcome over;
    }

    agrees_by : AgreesWithin 1 (SeenOf g entry args) (SeenOf h entry args)
    agrees_by = lockstep_within A B 1 Related (λ x. 0) simulates (λ s t r. ap (λ (x : State). x.world.allocs) (sym r.is))

    pub agrees : AgreesWithin 1 (SourceAt m sizes entry args answers) (SourceAt (renamed_module m) sizes entry args answers)
    agrees = subst (λ (facts : List Facts). AgreesWithin 1 (SeenOf g entry args) (SeenOf (with_facts facts) entry args)) (sym (facts_all m ok sizes answers)) agrees_by

    abbrev with_machine : List Facts → Machine State
    with_machine facts = record {
      start = first_state (renamed_module m) entry args;
      step = step (with_facts facts);
      seen = λ s. seen_of (renamed_module m) s.world s.outcome;
    }

    corresponds_by : AgreesBy IsSameState IsSameState A (λ s. 1) B (λ t. 1)
    corresponds_by =
        weaken_by Related Related IsSameState IsSameState A (λ s. 1) (λ s. 1) B (λ t. 1) (λ t. 1) (λ s t r. r.is)
        (λ s t r. r.is) (λ n fine. omega arith) (λ n. omega arith)
        (lockstep_one A B Related (λ x. 0) simulates (λ s t r. ap (λ (x : State). x.world.allocs) (sym r.is)))

    pub corresponds : AgreesBy IsSameState IsSameState A (λ s. 1)
        (source_machine (renamed_module m) sizes entry args answers) (λ t. 1)
    corresponds = subst (λ (facts : List Facts). AgreesBy IsSameState IsSameState A (λ s. 1) (with_machine facts)
        (λ t. 1)) (sym (facts_all m ok sizes answers)) corresponds_by

pub renamed_agrees : (m : Module) → AreRegular m → (sizes : List Frame) (entry : ℕ) (args : List Word) (answers : List ℤ) → AgreesWithin 1 (SourceAt m sizes entry args answers) (SourceAt (renamed_module m) sizes entry args answers)
renamed_agrees m ok sizes entry args answers = agrees m ok sizes answers entry args

pub renamed_corresponds : (m : Module) → AreRegular m
    → (sizes : List Frame) (entry : ℕ) (args : List Word) (answers : List ℤ)
    → AgreesBy IsSameState IsSameState (source_machine m sizes entry args answers) (λ s. 1)
    (source_machine (renamed_module m) sizes entry args answers) (λ t. 1)
renamed_corresponds m ok sizes entry args answers = corresponds m ok sizes answers entry args
