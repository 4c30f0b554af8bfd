-- Each step of a framed run leaves frames where they are: at the start of allocators' blocks, or where calls gave room.
use Rattle.std.proofs.Common.{◌≡◌, ℕ, ◌+◌, ◌<◌, ◌≤◌, ⊎_elim, Bool, true, false, List, ◌∷◌, length, Option, Some, None, Result, Ok, Err, refl, sym, ap, ◌∙◌, subst, arith, if◌then◌else◌, ◌&&◌}
use Rattle.std.specs.Prelude.{slice_get, unwrap_or}
use Rattle.std.proofs.lemmas.Bool.{and_parts, cases_eq, cases_lt, false≢true}
use Rattle.pass_proofs.specs.ir_base.declared.cause.Cause.{Cause}
use Rattle.pass_proofs.specs.ir_base.declared.name.Name.{Name}
use Rattle.pass_proofs.specs.ir_base.declared.outcome.Outcome.{Outcome}
use Rattle.pass_proofs.proofs.ir_laws.facts.same_names.Lists.{IsFound, what_is_found}
use Rattle.pass_proofs.specs.ir_model.Layout.{size_of}
use Rattle.pass_proofs.specs.ir_model.Names.{function_at, no_function, noalloc_of, same_name}
use Rattle.pass_proofs.specs.ir_model.Ty.{Ty, int}
use Rattle.pass_proofs.specs.ir_model.declared.instr.Instr.{Instr}
use Rattle.pass_proofs.specs.ir_model.declared.instr.Terminator.{Terminator}
use Rattle.pass_proofs.specs.ir_model.declared.module.Function.{Function}
use Rattle.pass_proofs.specs.ir_model.declared.module.Module.{Module}
use Rattle.pass_proofs.specs.ir_model.declared.operand.Arg.{Arg}
use Rattle.pass_proofs.specs.ir_model.declared.operand.Callee.{Callee}
use Rattle.pass_proofs.specs.ir_model.declared.operand.Intrinsic.{Intrinsic}
use Rattle.pass_proofs.specs.ir_model.declared.operand.Operand.{Operand}
use Rattle.pass_proofs.specs.ir_paths.Windows.{is_call_of}
use Rattle.pass_split_proof.proofs.held.Acts.{ActsKept, acts}
use Rattle.pass_split_proof.proofs.own_blocks.Coros.{coro_own, frees_own}
use Rattle.pass_split_proof.proofs.own_blocks.Heaps.{kept_heaps, made_later, own_later, below_later}
use Rattle.pass_split_proof.proofs.own_blocks.Made.{sets_none, same_made}
use Rattle.pass_split_proof.proofs.own_blocks.Results.{given_result}
use Rattle.pass_split_proof.proofs.own_blocks.States.{StaysOwn, called_own, edge_own, enters_own, given_own, pushed_own, return_own, settled_own, slots_own}
use Rattle.pass_split_proof.proofs.steps.Saves.{set_there}
use Rattle.pass_split_proof.specs.held.Kept.{IsNoHeap, MarksNoHeap, is_heap_in}
use Rattle.pass_split_proof.specs.own_blocks.Own.{FitsMode, GivesFrames, HasOwnBlocks, IsMade, IsOwnState, SetsNoAlloca}
use Rattle.pass_split_proof.specs.simulation.Premises.{AreAllocasAlone, IsEntryAlloca, MarksAlloca, is_of_coroutines}
use Rattle.run_types.proofs.pass_renewed_proof.Sets.{step_sets}
use Rattle.run_types.specs.pass_renewed_proof.Steps.{SetsOnly}
use Rattle.pass_proofs.specs.pass_kept_proof.Needed.{given_by}
use Rattle.pass_proofs.specs.run_framed.Framed.{FramedGiven, enter_given, framed_act, framed_advance, framed_context, framed_next, framed_slot, framed_step, given_call, given_ramp, last_value}
use Rattle.run_types.proofs.run_hooks.alive.Acts.{never_returns, slots_by}
use Rattle.pass_proofs.proofs.run_laws.transfer.Sets.{set_elsewhere, set_length}
use Rattle.pass_proofs.specs.run_laws.changed.Changed.{result_of}
use Rattle.pass_proofs.specs.run_memory.Memory.{copy}
use Rattle.pass_proofs.specs.run_memory.declared.block.MemoryBlock.{MemoryBlock}
use Rattle.pass_proofs.specs.run_memory.declared.pointer.Offset.{Offset}
use Rattle.pass_proofs.specs.run_memory.declared.pointer.Pointer.{Pointer}
use Rattle.pass_proofs.specs.run_memory.declared.pointer.Value.{Value}
use Rattle.pass_proofs.specs.run_source.Source.{called, go_to, mode_of}
use Rattle.pass_proofs.specs.run_source.State.{function_of, or_undefined, settled, with_slots, work_of}
use Rattle.pass_proofs.specs.run_source.declared.state.Mode.{Mode}
use Rattle.pass_proofs.specs.run_source.declared.state.State.{State}
use Rattle.pass_proofs.proofs.run_states.branches.Branches.{IsNoBranch, instr_none}
use Rattle.pass_proofs.proofs.run_states.sound_states.Fits.{Fits, fits}
use Rattle.pass_proofs.specs.run_step.Effects.{is_alloca}
use Rattle.pass_proofs.specs.run_step.Step.{Action, AtInstr, AtTerm, Context, Coro, Deallocate, Done, Enter, Fetched, GoTo, NewSlot, Nowhere, Return, Stuck, Work, action_of, alloca, block_of, branch, done, fetch, instr_action, is_alignment, is_lifetime, set_memory, switch, term_action, value_at, with_length}
use Rattle.pass_proofs.specs.run_step.Values.{Env, address, arg_value, arg_values, nth, pointer_to, with_value}
use Rattle.pass_proofs.specs.run_step.declared.world.Slot.{Slot}

-- a marker's operand is the address of a block that is no allocator's
pub record IsMarked (m : List MemoryBlock) (v : Value) : Type 0 where
  pub block : ℕ
  pub offset : Offset
  pub is : v ≡ Value.Ptr (Pointer.At block offset)
  pub none : IsNoHeap m block

module _ (g : FramedGiven) (asks : HasOwnBlocks g.given.code) (s : State) (o : IsOwnState g.given.code s) where
  abbrev c : Module
  c = g.given.code

  abbrev f : Function
  f = function_of g.given s

  abbrev x : Context
  x = framed_context g s

  abbrev w : Work
  w = work_of s

  alone : AreAllocasAlone f
  alone = asks.allocas s.top.func

  abbrev IsHere : Fetched → Type 0
  IsHere here = fetch f s.top.block s.top.at ≡ here

  -- ---- markers mark no blocks of allocators

  pub marked : (result : Option ℕ) (must_tail : Bool) (ty : Option Ty) (callee : Callee) (args : List Arg)
      → IsHere (AtInstr (Instr.Call result must_tail ty callee args)) → is_lifetime callee ≡ true
      → IsMarked s.world.memory (nth (arg_values c s.top.values args) 1)
  marked result must_tail ty callee args here lives =
      let y = alone.marks s.top.block s.top.at result must_tail ty callee args here lives in
      by y (o.top.made y.made y.name y.alloca y.before)
    where
      by : (y : MarksAlloca f s.top.block s.top.at args)
          → IsMade s.world.memory s.top.values y.name
          → IsMarked s.world.memory (nth (arg_values c s.top.values args) 1)
      by y z = record {
        block = z.block;
        offset = z.offset;
        is = ap (λ (all : List Arg). nth (arg_values c s.top.values all) 1) y.are ∙ ap (λ (q : Operand).
            arg_value c s.top.values (record y.pointer { value = q })) y.is ∙ z.is;
        none = z.none;
      }

  marked_block : (v : Value) → IsMarked s.world.memory v → (b : ℕ) → block_of v ≡ Some b
      → is_heap_in (slice_get s.world.memory b) ≡ false
  marked_block v z b e = ap (λ (a : ℕ). is_heap_in (slice_get s.world.memory a))
      (sym (same_block z.block b (sym (ap block_of z.is) ∙ e))) ∙ z.none.is
    where
      same_block : (a b : ℕ) → Some a ≡ Some b → a ≡ b
      same_block a b e = cc

  pub marks_none : (here : Fetched) → IsHere here → MarksNoHeap g s here
  marks_none Nowhere e = tt
  marks_none (AtTerm t) e = tt
  marks_none (AtInstr (Instr.Call result must_tail ty (Callee.Intrinsic i) args)) e = λ lives b is.
      marked_block (nth (arg_values c s.top.values args) 1) (marked result must_tail ty (Callee.Intrinsic i) args e
      lives) b is
  marks_none (AtInstr i) e = tt

  -- ---- instructions

  module _ (i : Instr) (here : IsHere (AtInstr i)) (plain : is_alloca i ≡ false) where
    does_own : (v : Work) → instr_action x w i ≡ Done v → IsOwnState c (settled s v)
    does_own v e = settled_own g asks s o v i here plain
        (kept_heaps s.world.memory v.world.memory (subst (ActsKept s.world.memory) e (acts g s (AtInstr i)
        (marks_none (AtInstr i) here))))
        (subst (Fits s.top.values (AtInstr i)) e (fits x w (AtInstr i)))
        (λ k name a. subst (SetsOnly (given_by i) s.top.values) e (step_sets x w (AtInstr i)) name
        (λ h. sets_none f alone s.top.block s.top.at i here plain k name a (given_result i name h)))

    none_set : (result : Option ℕ) → result ≡ result_of i → SetsNoAlloca f result
    none_set result e = subst (SetsNoAlloca f) (sym e) (sets_none f alone s.top.block s.top.at i here plain)

    by_action : ((j : Intrinsic) (args : List Arg) (result : Option ℕ) → instr_action x w i ≡ Coro j args result → ⊥)
        → (a : Action) → instr_action x w i ≡ a → StaysOwn c (framed_act g s a)
    by_action never (Done v) e = does_own v e
    by_action never (NewSlot v slot) e = absurd (false≢true (sym plain ∙ slots_by x w i v slot e))
    by_action never (Enter func args result must_tail) e = pushed_own g asks s o
        (called c func args result (mode_of (function_at c func))) i here plain
        (none_set result (subst (Fits s.top.values (AtInstr i)) e (fits x w (AtInstr i))))
        (called_own g asks s o func args result)
    by_action never (Coro j args result) e = absurd (never j args result e)
    by_action never (Deallocate p) e = frees_own g asks s o i here plain p
    by_action never (GoTo label) e = absurd (subst IsNoBranch e (instr_none x w i))
    by_action never (Return v) e = absurd (never_returns x w i v e)
    by_action never (Stuck cause) e = tt

    pub plain_own : ((j : Intrinsic) → is_call_of j i ≡ false) → StaysOwn c (framed_act g s (instr_action x w i))
    plain_own other = by_action (λ j args result e. false≢true (sym (other j) ∙ (subst (Fits s.top.values (AtInstr i))
        e (fits x w (AtInstr i))).0)) (instr_action x w i) refl

  -- copies
  no_coro : (v : Value) (r : ℕ → Result (List MemoryBlock) Cause) (j : Intrinsic) (args : List Arg)
      (result : Option ℕ) → with_length v (λ (n : ℕ). done (set_memory w) (r n)) ≡ Coro j args result → ⊥
  no_coro Value.Poison r j args result e = absurd (cc)
  no_coro (Value.Ptr p) r j args result e = absurd (cc)
  no_coro (Value.Int n) r j args result e = on (r n.bits) e
    where
      on : (q : Result (List MemoryBlock) Cause) → done (set_memory w) q ≡ Coro j args result → ⊥
      on (Err cause) e = absurd (cc)
      on (Ok k) e = absurd (cc)

  intrinsic_own : (result : Option ℕ) (must_tail : Bool) (ty : Option Ty) (z : Intrinsic) (args : List Arg)
      → IsHere (AtInstr (Instr.Call result must_tail ty (Callee.Intrinsic z) args))
      → StaysOwn c (framed_act g s (instr_action x w (Instr.Call result must_tail ty (Callee.Intrinsic z) args)))
  intrinsic_own result must_tail ty Intrinsic.LifetimeStart args here =
      does_own (Instr.Call result must_tail ty (Callee.Intrinsic Intrinsic.LifetimeStart) args) here refl _ refl
  intrinsic_own result must_tail ty Intrinsic.LifetimeEnd args here =
      does_own (Instr.Call result must_tail ty (Callee.Intrinsic Intrinsic.LifetimeEnd) args) here refl _ refl
  intrinsic_own result must_tail ty Intrinsic.MemcpyI64 args here =
      by_action (Instr.Call result must_tail ty (Callee.Intrinsic Intrinsic.MemcpyI64) args) here refl
      (no_coro (nth (arg_values c s.top.values args) 2) (λ (n : ℕ). copy x.rights s.world.memory
      (address (nth (arg_values c s.top.values args) 0)) (address (nth (arg_values c s.top.values args) 1)) n))
      (instr_action x w (Instr.Call result must_tail ty (Callee.Intrinsic Intrinsic.MemcpyI64) args)) refl
  intrinsic_own result must_tail ty Intrinsic.MemcpyI32 args here =
      by_action (Instr.Call result must_tail ty (Callee.Intrinsic Intrinsic.MemcpyI32) args) here refl
      (no_coro (nth (arg_values c s.top.values args) 2) (λ (n : ℕ). copy x.rights s.world.memory
      (address (nth (arg_values c s.top.values args) 0)) (address (nth (arg_values c s.top.values args) 1)) n))
      (instr_action x w (Instr.Call result must_tail ty (Callee.Intrinsic Intrinsic.MemcpyI32) args)) refl
  intrinsic_own result must_tail ty z args here =
      coro_own g asks s o (Instr.Call result must_tail ty (Callee.Intrinsic z) args) here refl result
      (sets_none f alone s.top.block s.top.at (Instr.Call result must_tail ty (Callee.Intrinsic z) args) here refl) z
      args (arg_values c s.top.values args) (λ e. asks.intrinsics s.top.func s.top.block s.top.at result must_tail ty z
      args here (ap is_of_coroutines e))

  -- ---- allocas

  module _ (name : ℕ) (ty : Ty) (align : ℕ) (here : IsHere (AtInstr (Instr.Alloca name ty align))) where
    abbrev i : Instr
    i = Instr.Alloca name ty align

    abbrev b : ℕ
    b = length s.world.memory

    abbrev now : Env
    now = with_value s.top.values name (pointer_to b)

    here_alloca : IsEntryAlloca f s.top.at name
    here_alloca = record {
      ty = ty;
      align = align;
      there = ap (λ (k : ℕ). fetch f k s.top.at) (sym (alone.first s.top.block s.top.at name align ty here)) ∙ here;
    }

    module _ (v : Work) (slot : Slot) (values : v.values ≡ now) (kept : ActsKept s.world.memory (NewSlot v slot))
        (block : slot.block ≡ b) where
      new_made : IsMade v.world.memory now name
      new_made = record {
        block = b;
        offset = _;
        is = set_there s.top.values name (pointer_to b) (subst (λ (n : ℕ). name < n) (sym o.top.whole)
            (alone.known s.top.at name here_alloca));
        none = subst (IsNoHeap v.world.memory) block kept.1;
      }

      made_now : (k n : ℕ) → IsEntryAlloca f k n → k < s.top.at + 1 → IsMade v.world.memory v.values n
      made_now k n a lt = subst (λ (env : Env). IsMade v.world.memory env n) (sym values)
          (⊎_elim (λ e. subst (IsMade v.world.memory now) (sym (same_name e)) new_made)
          (λ ne. same_made v.world.memory s.top.values now n
          (set_elsewhere s.top.values name n (pointer_to b) (λ e. ne (placed e)))
          (made_later s.world.memory v.world.memory s.top.values n
          (kept_heaps s.world.memory v.world.memory kept.0) (o.top.made k n a (λ z. less k s.top.at lt ne))))
          (cases_eq k s.top.at))
        where
          less : (k at : ℕ) → k < at + 1 → (k ≡ at → ⊥) → k < at
          less k at lt ne = ⊎_elim (λ l. l) (λ le. absurd (ne (both k at lt le))) (cases_lt k at)
            where
              both : (k at : ℕ) → k < at + 1 → at ≤ k → k ≡ at
              both k at lt le = omega arith

          placed : name ≡ n → k ≡ s.top.at
          placed e = sym (alone.once k n a s.top.block s.top.at (Instr.Alloca name ty align) here (ap Some e)).1

          same_name : k ≡ s.top.at → n ≡ name
          same_name e = named (sym a.there ∙ ap (fetch f 0) e ∙ here_alloca.there)
            where
              named : AtInstr (Instr.Alloca n a.ty a.align) ≡ AtInstr (Instr.Alloca name here_alloca.ty
                  here_alloca.align) → n ≡ name
              named e = cc

      whole_now : length v.values ≡ length f.names
      whole_now = ap length values ∙ set_length s.top.values name (pointer_to b) ∙ o.top.whole

      next_own : IsOwnState c (settled s v)
      next_own = record {
        instances = own_later c s.world.memory v.world.memory s.instances
            (kept_heaps s.world.memory v.world.memory kept.0) o.instances;
        top = record {
          mode = o.top.mode;
          whole = whole_now;
          made = λ k n a lt. made_now k n a (lt (alone.first s.top.block s.top.at name align ty here));
        };
        below = below_later c s.world.memory v.world.memory s.top.result s.below
            (kept_heaps s.world.memory v.world.memory kept.0) o.below;
      }

      slot_own : (mode : Mode) → s.top.mode ≡ mode → IsOwnState c (framed_slot g (settled s v) slot mode)
      slot_own (Mode.Entering from label) e =
          let fits = subst (FitsMode c f.coroutine s.top.instance) e o.top.mode in
          enters_own g asks (with_slots (settled s v) (slot ∷ s.top.slots)) from label (s.top.at + 1)
          next_own.instances next_own.below whole_now fits.0 fits.1 made_now
      slot_own _ e = slots_own c (settled s v) (slot ∷ s.top.slots) next_own

    pub alloca_own : StaysOwn c (framed_act g s (instr_action x w (Instr.Alloca name ty align)))
    alloca_own = on (is_alignment align) refl
      where
        on : (t : Bool) → is_alignment align ≡ t
            → StaysOwn c (framed_act g s (if t then alloca x w name (size_of c ty) align else Stuck Cause.Align))
        on false e = tt
        on true e = slot_own _ _ refl
            (subst (λ (t : Bool). ActsKept s.world.memory (if t then alloca x w name (size_of c ty) align else Stuck
            Cause.Align)) e (acts g s (AtInstr (Instr.Alloca name ty align)) tt))
            refl s.top.mode refl

  -- ---- all instructions and terminators

  instr_own : (i : Instr) → IsHere (AtInstr i) → StaysOwn c (framed_act g s (instr_action x w i))
  instr_own (Instr.Binary name op flags ty a b) e = plain_own (Instr.Binary name op flags ty a b) e refl (λ j. refl)
  instr_own (Instr.Icmp name pred ty a b) e = plain_own (Instr.Icmp name pred ty a b) e refl (λ j. refl)
  instr_own (Instr.Select name q a b) e = plain_own (Instr.Select name q a b) e refl (λ j. refl)
  instr_own (Instr.Cast name op nneg arg to) e = plain_own (Instr.Cast name op nneg arg to) e refl (λ j. refl)
  instr_own (Instr.Alloca name ty align) e = alloca_own name ty align e
  instr_own (Instr.Load name ty p align) e = plain_own (Instr.Load name ty p align) e refl (λ j. refl)
  instr_own (Instr.Store arg p align) e = plain_own (Instr.Store arg p align) e refl (λ j. refl)
  instr_own (Instr.Gep name inbounds ty base indices) e
      = plain_own (Instr.Gep name inbounds ty base indices) e refl (λ j. refl)
  instr_own (Instr.Call result must_tail ty (Callee.Named n) args) e
      = plain_own (Instr.Call result must_tail ty (Callee.Named n) args) e refl (λ j. refl)
  instr_own (Instr.Call result must_tail ty (Callee.Allocator a) args) e
      = plain_own (Instr.Call result must_tail ty (Callee.Allocator a) args) e refl (λ j. refl)
  instr_own (Instr.Call result must_tail ty (Callee.Intrinsic z) args) e = intrinsic_own result must_tail ty z args e
  instr_own (Instr.Call result must_tail ty (Callee.Local v) args) e
      = plain_own (Instr.Call result must_tail ty (Callee.Local v) args) e refl (λ j. refl)

  goes_own : (t : Terminator) → IsHere (AtTerm t) → (label : ℕ) → StaysOwn c (framed_act g s (GoTo label))
  goes_own t e label = on (go_to g.given s label) refl
    where
      on : (r : Result State Cause) → go_to g.given s label ≡ r → StaysOwn c r
      on (Err cause) h = tt
      on (Ok u) h = edge_own g asks s o label t e u h

  term_own : (t : Terminator) → IsHere (AtTerm t) → StaysOwn c (framed_act g s (term_action x w t))
  term_own (Terminator.Jump label) e = goes_own (Terminator.Jump label) e label
  term_own (Terminator.Branch q a b) e = on (value_at x w (int 1) q)
    where
      on : (v : Value) → StaysOwn c (framed_act g s (branch v a b))
      on (Value.Int n) = goes_own (Terminator.Branch q a b) e _
      on Value.Poison = tt
      on (Value.Ptr p) = tt
  term_own (Terminator.Switch arg default cases) e = on (arg_value c s.top.values arg)
    where
      on : (v : Value) → StaysOwn c (framed_act g s (switch c v default cases))
      on (Value.Int n) = goes_own (Terminator.Switch arg default cases) e _
      on Value.Poison = tt
      on (Value.Ptr p) = tt
  term_own (Terminator.Ret None) e = return_own g asks s o None
  term_own (Terminator.Ret (Some arg)) e = return_own g asks s o (Some (arg_value c s.top.values arg))
  term_own Terminator.Unreachable e = tt

  acts_own : (here : Fetched) → IsHere here → StaysOwn c (framed_act g s (action_of x w here))
  acts_own Nowhere e = tt
  acts_own (AtInstr i) e = instr_own i e
  acts_own (AtTerm t) e = term_own t e

  -- where no call gives a frame this one doesn't
  pub ungiven : (GivesFrames c → ⊥) → (here : Fetched) → IsHere here → given_call g s here ≡ None
  ungiven never Nowhere e = refl
  ungiven never (AtTerm t) e = refl
  ungiven never (AtInstr (Instr.Call result must_tail ty (Callee.Named n) args)) e = on (given_ramp c n) refl
    where
      on : (q : Option ℕ) → given_ramp c n ≡ q → given_call g s (AtInstr (Instr.Call result must_tail ty
          (Callee.Named n) args)) ≡ None
      on None h = ap (enter_given g s result (arg_values c s.top.values args)) h
      on (Some ramp) h = absurd (never (record {
        func = s.top.func;
        block = s.top.block;
        at = s.top.at;
        result = result;
        must_tail = must_tail;
        ty = ty;
        name = n;
        args = args;
        there = e;
        ramp = ramp;
        gives = h;
      }))
  ungiven never (AtInstr i) e = refl

  -- a call that gives a frame enters a ramp
  module _ (result : Option ℕ) (must_tail : Bool) (ty : Option Ty) (n : Name) (args : List Arg)
      (here : IsHere (AtInstr (Instr.Call result must_tail ty (Callee.Named n) args))) where
    abbrev call : Instr
    call = Instr.Call result must_tail ty (Callee.Named n) args

    given_by_name : (q : Option ℕ) → given_ramp c n ≡ q → StaysOwn c (unwrap_or
        (enter_given g s result (arg_values c s.top.values args) q) (framed_act g s (action_of x w (AtInstr call))))
    given_by_name None e = acts_own (AtInstr call) here
    given_by_name (Some ramp) e = pushed_own g asks s o
        (called c ramp (arg_values c s.top.values args) result
        (Mode.GivenRamp (last_value (arg_values c s.top.values args)))) call here refl
        (sets_none f alone s.top.block s.top.at call here refl)
        (given_own g asks s o ramp (arg_values c s.top.values args) result
        (last_value (arg_values c s.top.values args)) coroutine (record {
          func = s.top.func;
          block = s.top.block;
          at = s.top.at;
          result = result;
          must_tail = must_tail;
          ty = ty;
          name = n;
          args = args;
          there = here;
          ramp = ramp;
          gives = e;
        }))
      where
        found : IsFound (λ (d : Function). d.coroutine && same_name (noalloc_of d.name) n) c.functions ramp
        found = what_is_found (λ (d : Function). d.coroutine && same_name (noalloc_of d.name) n) c.functions ramp e

        coroutine : (function_at c ramp).coroutine ≡ true
        coroutine = ap (λ (q : Option Function). (unwrap_or q no_function).coroutine) found.stands
            ∙ (and_parts found.element.coroutine (same_name (noalloc_of found.element.name) n) found.passes).0

  nexts_own : (here : Fetched) → IsHere here → StaysOwn c (framed_next g s here)
  nexts_own Nowhere e = acts_own Nowhere e
  nexts_own (AtTerm t) e = acts_own (AtTerm t) e
  nexts_own (AtInstr (Instr.Call result must_tail ty (Callee.Named n) args)) e
      = given_by_name result must_tail ty n args e (given_ramp c n) refl
  nexts_own (AtInstr i) e = acts_own (AtInstr i) e

  or_own : (r : Result State Cause) → StaysOwn c r → IsOwnState c (or_undefined g.given s r)
  or_own (Err cause) h = record { instances = o.instances; top = o.top; below = o.below }
  or_own (Ok u) h = h

  pub step_own : IsOwnState c (framed_step g s)
  step_own = on s.outcome
    where
      on : (q : Outcome) → IsOwnState c (framed_advance g s q)
      on Outcome.Running = or_own (framed_next g s (fetch f s.top.block s.top.at))
          (nexts_own (fetch f s.top.block s.top.at) refl)
      on (Outcome.Returned v) = o
      on (Outcome.Undefined cause place) = o
