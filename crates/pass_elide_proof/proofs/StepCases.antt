-- Each step of a framed run that isn't undefined is one of the cases.
use Rattle.std.proofs.Common.{◌≡◌, ◌≢◌, ◌∙◌, ◌⊎◌, inl, inr, ℕ, Bool, true, false, List, [], ◌∷◌, Err, None, Ok, Option, Result, Some, ap, if◌then◌else◌, length, refl, subst, sym, ◌&&◌, ◌==◌}
use Rattle.std.specs.Prelude.{is_none, negsuc, not, unwrap_or}
use Rattle.std.specs.List.{list_all}
use Rattle.pass_elide_proof.specs.StepCases.{ActsBy, CallsGiven, IsTaken, LeadsTo, ended, saved_at}
use Rattle.pass_proofs.specs.ir_base.declared.cause.Cause.{Cause}
use Rattle.pass_proofs.specs.ir_base.declared.outcome.Outcome.{Outcome}
use Rattle.pass_proofs.specs.ir_model.declared.instr.Instr.{Instr}
use Rattle.pass_proofs.specs.ir_model.declared.operand.Arg.{Arg}
use Rattle.pass_proofs.specs.ir_model.declared.operand.Callee.{Callee}
use Rattle.pass_proofs.specs.ir_model.declared.operand.Intrinsic.{Intrinsic}
use Rattle.pass_proofs.specs.ir_model.declared.operand.Operand.{Operand}
use Rattle.pass_proofs.specs.ir_paths.Windows.{operand_at, suspend_of}
use Rattle.pass_proofs.specs.ir_paths.declared.point.Point.{Point}
use Rattle.pass_proofs.specs.ir_paths.declared.point.Window.{Window}
use Rattle.pass_proofs.specs.run_agreement.Machines.{IsFine}
use Rattle.pass_proofs.specs.run_framed.Framed.{FramedGiven, are_finished_at, begin_given, begin_given_at, begin_in_block, begin_in_frame, continue_framed, enter_given, framed_act, framed_advance, framed_begin, framed_context, framed_coro, framed_next, framed_promise, framed_step, given_call, given_ramp, has_size}
use Rattle.pass_proofs.specs.run_memory.Memory.{own}
use Rattle.pass_proofs.specs.run_memory.declared.block.Kind.{Kind}
use Rattle.pass_proofs.specs.run_memory.declared.block.MemoryBlock.{MemoryBlock}
use Rattle.pass_proofs.specs.run_memory.declared.pointer.Offset.{Offset}
use Rattle.pass_proofs.specs.run_memory.declared.pointer.Pointer.{Pointer}
use Rattle.pass_proofs.specs.run_memory.declared.pointer.Value.{Value}
use Rattle.pass_proofs.specs.run_source.Source.{after_end, begin, begin_at, begun, branch_leaving, deallocate, destroy, done_at, if_let_go, left_windows, is_live_at, may_leave, resume, save, save_before, save_for, sleeper_at, suspend}
use Rattle.pass_proofs.specs.run_source.State.{function_of, gives, instance_at, next, or_undefined, own_frame, own_instance, point_of, with_memory, work_of}
use Rattle.pass_proofs.specs.run_source.declared.state.Instance.{Instance}
use Rattle.pass_proofs.specs.run_source.declared.state.Mode.{Mode}
use Rattle.pass_proofs.specs.run_source.declared.state.State.{State}
use Rattle.pass_proofs.specs.run_step.Results.{and_then, found, ok_if}
use Rattle.pass_proofs.specs.run_step.Step.{Action, AtInstr, Coro, Deallocate, Done, Enter, Fetched, GoTo, NewSlot, Return, Stuck, action_of, block_of, deallocated, fetch}
use Rattle.pass_proofs.specs.run_step.Values.{arg_values, integer, nth}

-- ---- results

ok_same : {A : Type 0} (x y : A) → ◌≡◌ {A = Result A Cause} (Ok x) (Ok y) → x ≡ y
ok_same x y h = cc

pub then_ok : {A : Type 0} (r : Result A Cause) (f : A → Result State Cause) (u : State) → and_then r f ≡ Ok u
    → (x : A) × (r ≡ Ok x) × (f x ≡ Ok u)
then_ok (Err cause) f u h = absurd (cc)
then_ok (Ok x) f u h = (x, refl, h)

pub if_ok : (b : Bool) (cause : Cause) (s u : State) → ok_if b cause s ≡ Ok u → (b ≡ true) × (s ≡ u)
if_ok true cause s u h = (refl, ok_same s u h)
if_ok false cause s u h = absurd (cc)

pub found_ok : {A : Type 0} (cause : Cause) (o : Option A) (x : A) → found cause o ≡ Ok x → o ≡ Some x
found_ok cause None x h = absurd (cc)
found_ok cause (Some y) x h = ap Some (ok_same y x h)

is_none_of : (o : Option ℕ) → is_none o ≡ true → o ≡ None
is_none_of None h = refl
is_none_of (Some i) h = absurd (cc)

both_of : (p q : Bool) → (p && q) ≡ true → p ≡ true
both_of true q h = refl
both_of false q h = absurd (cc)

not_of : (b : Bool) → not b ≡ true → b ≡ false
not_of true h = absurd (cc)
not_of false h = refl

module _ (g : FramedGiven) (s : State) where
  -- the state is the one of the case
  at_last : (v u : State) → ◌≡◌ {A = Result State Cause} (Ok v) (Ok u) → LeadsTo g s v → LeadsTo g s u
  at_last v u h is = subst (LeadsTo g s) (ok_same v u h) is

  -- ---- begins

  abbrev Beginning : List Arg → Option ℕ → Value → State → Type 0
  Beginning args result mem u =
      s.top.instance ≡ None → ActsBy g s (Coro Intrinsic.CoroBegin args result) → LeadsTo g s (gives u result mem)

  at_block : (args : List Arg) (result : Option ℕ) (mem given : Value) (kind : Kind) (u : State)
      → begin_at g.given s given kind ≡ Ok u → Beginning args result mem u
  at_block args result mem given kind u h alone acts =
      let first = then_ok (own s.world.memory given (own_frame g.given s).size kind) _ u h in
      let second = then_ok (found Cause.Begin (block_of given)) _ u first.2 in
      subst (λ (v : State). LeadsTo g s (gives v result mem))
      (ok_same (begun g.given (with_memory s first.0) second.0 0) u second.2)
      (LeadsTo.Begins args result mem first.0 second.0 0 acts alone (inl (given, (kind, first.1))))

  in_block : (args : List Arg) (result : Option ℕ) (mem : Value) (b : ℕ) (o : Offset) (u : State)
      → begin_in_block g s b o ≡ Ok u → Beginning args result mem u
  in_block args result mem b o u h =
      let test = (o.bits == 0) && has_size s.world.memory b (own_frame g.given s).size in
      let first = then_ok (ok_if test Cause.Begin s) _ u h in
      let same = if_ok test Cause.Begin s first.0 first.1 in
      at_block args result mem (Value.Ptr (Pointer.At b o)) Kind.Stack u
      (ap (λ (v : State). begin_at g.given v (Value.Ptr (Pointer.At b o)) Kind.Stack) same.1 ∙ first.2)

  in_frame : (args : List Arg) (result : Option ℕ) (mem : Value) (b : ℕ) (o : Offset) (u : State)
      → begin_in_frame g s b o ≡ Ok u → Beginning args result mem u
  in_frame args result mem b o u h alone acts =
      let same = if_ok (is_live_at s.world.memory b) Cause.Begin (begun g.given s b o.bits) u h in
      subst (λ (v : State). LeadsTo g s (gives v result mem)) same.1
      (LeadsTo.Begins args result mem s.world.memory b o.bits acts alone (inr refl))

  given_at : (args : List Arg) (result : Option ℕ) (mem v : Value) (u : State) → begin_given_at g s v ≡ Ok u
      → Beginning args result mem u
  given_at args result mem (Value.Ptr (Pointer.At b o)) u h =
      on _ h
    where
      on : (t : Bool) → (if t then begin_in_frame g s b o else begin_in_block g s b o) ≡ Ok u
          → Beginning args result mem u
      on true h = in_frame args result mem b o u h
      on false h = in_block args result mem b o u h
  given_at args result mem (Value.Ptr Pointer.Null) u h = absurd (cc)
  given_at args result mem (Value.Ptr (Pointer.Func f)) u h = absurd (cc)
  given_at args result mem Value.Poison u h = absurd (cc)
  given_at args result mem (Value.Int x) u h = absurd (cc)

  plain_begin : (args : List Arg) (result : Option ℕ) (mem : Value) (u : State)
      → ActsBy g s (Coro Intrinsic.CoroBegin args result) → begin g.given s result mem ≡ Ok u → LeadsTo g s u
  plain_begin args result mem u acts h =
      let first = then_ok (ok_if (is_none s.top.instance) Cause.Begin s) _ u h in
      let same = if_ok (is_none s.top.instance) Cause.Begin s first.0 first.1 in
      let second = then_ok (begin_at g.given first.0 mem Kind.Allocator) _ u first.2 in
      at_last (gives second.0 result mem) u second.2
      (at_block args result mem mem Kind.Allocator second.0
      (ap (λ (v : State). begin_at g.given v mem Kind.Allocator) same.1 ∙ second.1)
      (is_none_of s.top.instance same.0) acts)

  given_begin : (args : List Arg) (result : Option ℕ) (frame : Value) (u : State)
      → ActsBy g s (Coro Intrinsic.CoroBegin args result) → begin_given g s result frame ≡ Ok u → LeadsTo g s u
  given_begin args result frame u acts h =
      let test = is_none s.top.instance && are_finished_at s.instances frame in
      let first = then_ok (ok_if test Cause.Begin s) _ u h in
      let same = if_ok test Cause.Begin s first.0 first.1 in
      let second = then_ok (begin_given_at g first.0 frame) _ u first.2 in
      at_last (gives second.0 result frame) u second.2
      (given_at args result frame frame second.0
      (ap (λ (v : State). begin_given_at g v frame) same.1 ∙ second.1)
      (is_none_of s.top.instance (both_of (is_none s.top.instance) (are_finished_at s.instances frame) same.0)) acts)

  begins : (args : List Arg) (result : Option ℕ) (mem : Value) (mode : Mode) (u : State)
      → ActsBy g s (Coro Intrinsic.CoroBegin args result) → framed_begin g s result mem mode ≡ Ok u → LeadsTo g s u
  begins args result mem (Mode.GivenRamp frame) u acts h = given_begin args result frame u acts h
  begins args result mem Mode.Plain u acts h = plain_begin args result mem u acts h
  begins args result mem Mode.Ramp u acts h = plain_begin args result mem u acts h
  begins args result mem Mode.Resumed u acts h = plain_begin args result mem u acts h
  begins args result mem (Mode.Entering from label) u acts h = plain_begin args result mem u acts h

  -- ---- saves and suspends

  saved_ok : (p q : Point) (u : State) → save_for s p q ≡ Ok u
      → (i : ℕ) × (x : Instance) × (own_instance s ≡ Some (i, x)) × (x.freed ≡ false) × (saved_at s i x p q ≡ u)
  saved_ok p q u h =
      let first = then_ok (found Cause.State (own_instance s)) _ u h in
      let same = if_ok (not first.0.1.freed) Cause.State
      (saved_at s first.0.0 first.0.1 p q) u first.2 in (
        first.0.0,
        first.0.1,
        found_ok Cause.State (own_instance s) first.0 first.1,
        not_of first.0.1.freed same.0,
        same.1,
      )

  saves : (args : List Arg) (result : Option ℕ) (u : State) → ActsBy g s (Coro Intrinsic.CoroSave args result)
      → save g.given s ≡ Ok u → LeadsTo g s u
  saves args result u acts h =
      let first = then_ok (found Cause.State (suspend_of
      (function_of g.given s) (point_of s))) _ u h in
      let second = then_ok (save_for s (point_of s) first.0) _ u first.2 in
      let k = saved_ok (point_of s) first.0 second.0 second.1 in
      at_last (next second.0) u second.2
      (subst (λ (v : State). LeadsTo g s (next v)) k.4
      (LeadsTo.Saves args result k.0 k.1 (point_of s) first.0 acts k.2 k.3))

  suspends : (args : List Arg) (result : Option ℕ) (x : Operand) (u : State)
      → ActsBy g s (Coro Intrinsic.CoroSuspend args result) → suspend s result x ≡ Ok u → LeadsTo g s u
  suspends args result x u acts h =
      let first = then_ok (save_before s x) _ u h in
      at_last (gives first.0 result (integer 8 (negsuc 0))) u first.2 (by x first.0 first.1)
    where
      here : (v : State) → ◌≡◌ {A = Result State Cause} (Ok s) (Ok v)
          → LeadsTo g s (gives v result (integer 8 (negsuc 0)))
      here v h =
          subst (λ (v : State). LeadsTo g s (gives v result (integer 8 (negsuc 0)))) (ok_same s v h)
          (LeadsTo.Answers Intrinsic.CoroSuspend args result (integer 8 (negsuc 0)) acts)

      by : (x : Operand) (v : State) → save_before s x ≡ Ok v → LeadsTo g s (gives v result (integer 8 (negsuc 0)))
      by Operand.None v h =
          let k = saved_ok (point_of s) (point_of s) v h in
          subst (λ (v : State). LeadsTo g s (gives v result (integer 8 (negsuc 0)))) k.4
          (LeadsTo.Suspends args result k.0 k.1 (point_of s) (point_of s) acts k.2 k.3)
      by (Operand.Local n) v h = here v h
      by (Operand.Global n) v h = here v h
      by (Operand.Number z) v h = here v h
      by Operand.True v h = here v h
      by Operand.False v h = here v h
      by Operand.Null v h = here v h
      by Operand.Poison v h = here v h

  -- ---- resumes, destroys, ends

  resumes : (args : List Arg) (result : Option ℕ) (u : State) → ActsBy g s (Coro Intrinsic.CoroResume args result)
      → resume g.given (continue_framed g) s (nth (arg_values g.given.code s.top.values args) 0) ≡ Ok u
      → LeadsTo g s u
  resumes args result u acts h =
      let first = then_ok (sleeper_at s (nth (arg_values g.given.code s.top.values args) 0)) _ u h in
      let same = if_ok _ Cause.State _ u first.2 in
      subst (LeadsTo g s) same.1 (LeadsTo.Wakes Intrinsic.CoroResume args result first.0 _ acts first.1)

  destroys : (args : List Arg) (result : Option ℕ) (u : State) → ActsBy g s (Coro Intrinsic.CoroDestroy args result)
      → destroy g.given (continue_framed g) s (nth (arg_values g.given.code s.top.values args) 0) ≡ Ok u
      → LeadsTo g s u
  destroys args result u acts h =
      let first = then_ok (sleeper_at s (nth (arg_values g.given.code s.top.values args) 0)) _ u h in
      at_last _ u first.2 (LeadsTo.Wakes Intrinsic.CoroDestroy args result first.0 _ acts first.1)

  tells : (args : List Arg) (result : Option ℕ) (p : Value) (u : State)
      → ActsBy g s (Coro Intrinsic.CoroDone args result) → done_at g.given s result p ≡ Ok u → LeadsTo g s u
  tells args result p u acts h =
      let first = then_ok (sleeper_at s p) _ u h in
      let same = if_ok _ Cause.State _ u first.2 in
      subst (LeadsTo g s) same.1 (LeadsTo.Answers Intrinsic.CoroDone args result _ acts)

  ends : (args : List Arg) (result : Option ℕ) (u : State) → ActsBy g s (Coro Intrinsic.CoroEnd args result)
      → after_end (ended s) result s.top.mode ≡ Ok u → LeadsTo g s u
  ends args result u acts h = on s.top.mode refl h
    where
      on : (m : Mode) → s.top.mode ≡ m → after_end (ended s) result m ≡ Ok u → LeadsTo g s u
      on Mode.Resumed is h = LeadsTo.EndsResumed args result u acts is h
      on Mode.Plain is h =
          at_last _ u h (LeadsTo.EndsRamp args result acts (λ e. absurd (plain_no (sym is ∙ e))))
        where
          plain_no : Mode.Plain ≡ Mode.Resumed → ⊥
          plain_no e = absurd (cc)
      on Mode.Ramp is h =
          at_last _ u h (LeadsTo.EndsRamp args result acts (λ e. absurd (ramp_no (sym is ∙ e))))
        where
          ramp_no : Mode.Ramp ≡ Mode.Resumed → ⊥
          ramp_no e = absurd (cc)
      on (Mode.GivenRamp frame) is h =
          at_last _ u h (LeadsTo.EndsRamp args result acts (λ e. absurd (given_no (sym is ∙ e))))
        where
          given_no : Mode.GivenRamp frame ≡ Mode.Resumed → ⊥
          given_no e = absurd (cc)
      on (Mode.Entering from label) is h =
          at_last _ u h (LeadsTo.EndsRamp args result acts (λ e. absurd (entering_no (sym is ∙ e))))
        where
          entering_no : Mode.Entering from label ≡ Mode.Resumed → ⊥
          entering_no e = absurd (cc)

  -- ---- coro intrinsics

  abbrev vs : List Arg → List Value
  vs args = arg_values g.given.code s.top.values args

  coros : (i : Intrinsic) (args : List Arg) (result : Option ℕ) (u : State) → ActsBy g s (Coro i args result)
      → framed_coro g s i args (arg_values g.given.code s.top.values args) result ≡ Ok u → LeadsTo g s u
  coros Intrinsic.CoroAlloc args result u acts h = at_last _ u h (LeadsTo.Answers Intrinsic.CoroAlloc args result _ acts)
  coros Intrinsic.CoroBegin args result u acts h = begins args result (nth (vs args) 1) s.top.mode u acts h
  coros Intrinsic.CoroFree args result u acts h = at_last _ u h (LeadsTo.Releases args result _ acts)
  coros Intrinsic.CoroEnd args result u acts h = ends args result u acts h
  coros Intrinsic.CoroPromise args result u acts h =
      let first = then_ok (framed_promise g s (nth (vs args) 0) (operand_at args 2)) (λ v. Ok (gives s result v)) u h in
      at_last _ u first.2 (LeadsTo.Answers Intrinsic.CoroPromise args result first.0 acts)
  coros Intrinsic.CoroId args result u acts h = at_last _ u h (LeadsTo.Passes Intrinsic.CoroId args result acts)
  coros Intrinsic.CoroSizeI32 args result u acts h =
      at_last _ u h (LeadsTo.Answers Intrinsic.CoroSizeI32 args result _ acts)
  coros Intrinsic.CoroSizeI64 args result u acts h =
      at_last _ u h (LeadsTo.Answers Intrinsic.CoroSizeI64 args result _ acts)
  coros Intrinsic.CoroAlignI32 args result u acts h =
      at_last _ u h (LeadsTo.Answers Intrinsic.CoroAlignI32 args result _ acts)
  coros Intrinsic.CoroAlignI64 args result u acts h =
      at_last _ u h (LeadsTo.Answers Intrinsic.CoroAlignI64 args result _ acts)
  coros Intrinsic.CoroFrame args result u acts h =
      at_last _ u h (LeadsTo.Answers Intrinsic.CoroFrame args result _ acts)
  coros Intrinsic.CoroSave args result u acts h = saves args result u acts h
  coros Intrinsic.CoroSuspend args result u acts h = suspends args result _ u acts h
  coros Intrinsic.CoroResume args result u acts h = resumes args result u acts h
  coros Intrinsic.CoroDestroy args result u acts h = destroys args result u acts h
  coros Intrinsic.CoroDone args result u acts h = tells args result _ u acts h
  coros Intrinsic.LifetimeStart args result u acts h =
      at_last _ u h (LeadsTo.Passes Intrinsic.LifetimeStart args result acts)
  coros Intrinsic.LifetimeEnd args result u acts h =
      at_last _ u h (LeadsTo.Passes Intrinsic.LifetimeEnd args result acts)
  coros Intrinsic.MemcpyI64 args result u acts h = at_last _ u h (LeadsTo.Passes Intrinsic.MemcpyI64 args result acts)
  coros Intrinsic.MemcpyI32 args result u acts h = at_last _ u h (LeadsTo.Passes Intrinsic.MemcpyI32 args result acts)

  -- ---- actions

  deallocates : (p : Value) (u : State) → ActsBy g s (Deallocate p) → deallocate s p ≡ Ok u → LeadsTo g s u
  deallocates p u acts h =
      let first = then_ok (deallocated (if_let_go s (instance_at s.instances p)).world.memory p) _ u h in
      at_last _ u first.2 (LeadsTo.Deallocates p first.0 acts first.1)

  goes_by : (label : ℕ) (u : State) → ActsBy g s (GoTo label) → (ws : List Window)
      → left_windows g.given s label ≡ ws → branch_leaving g.given s label ws ≡ Ok u → LeadsTo g s u
  goes_by label u acts [] is h = at_last _ u h (LeadsTo.GoesTo label acts is)
  goes_by label u acts (w ∷ ws) is h =
      let first = then_ok (found Cause.State (own_instance s)) _ u h in
      let same = if_ok (list_all (may_leave (length s.below) first.0.1) (w ∷ ws)) Cause.State _ u first.2 in
      subst (LeadsTo g s) same.1
      (LeadsTo.Leaves label w ws first.0.0 first.0.1 acts is
      (found_ok Cause.State (own_instance s) first.0 first.1) same.0)

  acted : (a : Action) (u : State) → ActsBy g s a → framed_act g s a ≡ Ok u → LeadsTo g s u
  acted (Done w) u acts h = at_last _ u h (LeadsTo.Works w acts)
  acted (NewSlot w slot) u acts h = at_last _ u h (LeadsTo.MakesSlot w slot acts)
  acted (Enter func args result must_tail) u acts h = at_last _ u h (LeadsTo.Enters func args result must_tail acts)
  acted (Coro i args result) u acts h = coros i args result u acts h
  acted (Deallocate p) u acts h = deallocates p u acts h
  acted (GoTo label) u acts h = goes_by label u acts (left_windows g.given s label) refl h
  acted (Return v) u acts h = LeadsTo.Returns v u acts h
  acted (Stuck cause) u acts h = absurd (cc)

  -- ---- steps

  stepped_by : (here : Fetched) (u : State) → fetch (function_of g.given s) s.top.block s.top.at ≡ here
      → (o : Option (Result State Cause)) → given_call g s here ≡ o → framed_next g s here ≡ Ok u → LeadsTo g s u
  stepped_by here u there None none h =
      acted _ u (record { here = here; there = there; none = none; acts = refl })
      (ap (λ (o : Option (Result State Cause)). unwrap_or o (framed_act g s (action_of
      (framed_context g s) (work_of s) here))) (sym none) ∙ h)
  stepped_by (AtInstr (Instr.Call result must_tail ty (Callee.Named n) args)) u there (Some r) is h =
      by (given_ramp g.given.code n) refl is
    where
      by : (o : Option ℕ) → given_ramp g.given.code n ≡ o → enter_given g s result (vs args) o ≡ Some r
          → LeadsTo g s u
      by None ramp e = absurd (cc)
      by (Some func) ramp e =
          at_last _ u
          (ap (λ (o : Option (Result State Cause)). unwrap_or o (Err Cause.Free)) e ∙ here_ok)
          (LeadsTo.EntersGiven func result args
          (record { must_tail = must_tail; ty = ty; name = n; there = there; ramp = ramp }))
        where
          here_ok : r ≡ Ok u
          here_ok =
              ap (λ (o : Option (Result State Cause)). unwrap_or o (framed_act g s
              (action_of
              (framed_context g s) (work_of s)
              (AtInstr (Instr.Call result must_tail ty (Callee.Named n) args))))) (sym is) ∙ h
  stepped_by (AtInstr (Instr.Call result must_tail ty (Callee.Allocator a) args)) u there (Some r) is h = absurd (cc)
  stepped_by (AtInstr (Instr.Call result must_tail ty (Callee.Intrinsic j) args)) u there (Some r) is h = absurd (cc)
  stepped_by (AtInstr (Instr.Call result must_tail ty (Callee.Local v) args)) u there (Some r) is h = absurd (cc)
  stepped_by _ u there (Some r) is h = absurd (cc)

  fine_ok : (r : Result State Cause) → IsFine (or_undefined g.given s r).outcome → (u : State) × (r ≡ Ok u)
  fine_ok (Ok u) h = (u, refl)
  fine_ok (Err cause) h = absurd h

  pub leads_to : s.outcome ≡ Outcome.Running → IsFine (framed_step g s).outcome → LeadsTo g s (framed_step g s)
  leads_to runs fine =
      let here = fetch (function_of g.given s) s.top.block s.top.at in
      let does : framed_step g s ≡ or_undefined g.given s (framed_next g s here) = ap (framed_advance g s) runs in
      let found = fine_ok (framed_next g s here) (subst (λ (v : State). IsFine v.outcome) does fine) in
      subst (LeadsTo g s) (sym (does ∙ ap (or_undefined g.given s) found.1))
      (stepped_by here found.0 refl (given_call g s here) refl found.1)
