-- What wakes an instance is a resume or a destroy, and its activation goes on at the label of 0 or of 1.
use Rattle.std.proofs.Common.{◌≡◌, ◌⊎◌, inl, inr, ◌∙◌, ◌≤◌, ◌+◌, ℕ, Bool, true, false, List, length, Err, None, Ok, Option, Result, ap, if◌then◌else◌, refl, sym, subst, arith, ◌&&◌, ◌==◌}
use Rattle.std.specs.Prelude.{is_none, negsuc, not, unwrap_or}
use Rattle.pass_elide_proof.proofs.StepCases.{if_ok, then_ok}
use Rattle.pass_elide_proof.specs.StepCases.{ActsBy, ended}
use Rattle.pass_elide_runs.proofs.Stacks.{Comes, changed_stack, comes, ended_stack}
use Rattle.pass_elide_proof.specs.pass_proofs.ir_base.declared.cause.Cause.{Cause}
use Rattle.pass_elide_proof.specs.pass_proofs.ir_base.declared.outcome.Outcome.{Outcome}
use Rattle.pass_elide_proof.specs.pass_proofs.ir_model.Names.{function_at}
use Rattle.pass_elide_proof.specs.pass_proofs.ir_model.declared.operand.Arg.{Arg}
use Rattle.pass_elide_proof.specs.pass_proofs.ir_model.declared.operand.Intrinsic.{Intrinsic}
use Rattle.pass_elide_proof.specs.pass_proofs.ir_model.declared.operand.Operand.{Operand}
use Rattle.pass_elide_proof.specs.pass_proofs.ir_paths.Windows.{destroy_label, operand_at, resume_label, suspend_of}
use Rattle.pass_elide_proof.specs.pass_proofs.ir_paths.declared.point.Point.{Point}
use Rattle.pass_elide_proof.specs.pass_proofs.run_agreement.Machines.{IsFine}
use Rattle.pass_elide_proof.specs.pass_proofs.run_framed.Framed.{FramedGiven, are_finished_at, begin_given, begin_given_at, begin_in_block, begin_in_frame, continue_framed, framed_act, framed_advance, framed_begin, framed_context, framed_coro, framed_next, framed_promise, framed_step, has_size}
use Rattle.pass_elide_proof.specs.pass_proofs.run_memory.Memory.{own}
use Rattle.pass_elide_proof.specs.pass_proofs.run_memory.declared.block.Kind.{Kind}
use Rattle.pass_elide_proof.specs.pass_proofs.run_memory.declared.pointer.Offset.{Offset}
use Rattle.pass_elide_proof.specs.pass_proofs.run_memory.declared.pointer.Pointer.{Pointer}
use Rattle.pass_elide_proof.specs.pass_proofs.run_memory.declared.pointer.Value.{Value}
use Rattle.pass_elide_proof.specs.pass_proofs.run_source.Source.{Sleeper, after_end, begin, begin_at, begun, destroy, done_at, is_live_at, resume, save, save_before, save_for, sleeper_at, suspend}
use Rattle.pass_elide_proof.specs.pass_proofs.run_source.State.{function_of, gives, next, or_undefined, own_frame, own_instance, point_of, work_of}
use Rattle.pass_elide_proof.specs.pass_proofs.run_source.declared.state.Mode.{Mode}
use Rattle.pass_elide_proof.specs.pass_proofs.run_source.declared.state.State.{State}
use Rattle.pass_elide_proof.specs.pass_proofs.run_source_tables.Given.{has_final, is_final}
use Rattle.pass_elide_proof.specs.pass_proofs.run_step.Results.{found, ok_if}
use Rattle.pass_elide_proof.specs.pass_proofs.run_step.Step.{Coro, action_of, block_of}
use Rattle.pass_elide_proof.specs.pass_proofs.run_step.Values.{arg_values, integer, nth}

-- ---- how long the stack is

ok_same : {A : Type 0} (x y : A) → ◌≡◌ {A = Result A Cause} (Ok x) (Ok y) → x ≡ y
ok_same x y h = cc

-- no longer than before
abbrev IsShort : State → State → Type 0
IsShort s u = length u.below ≤ length s.below

same_short : (s v u : State) → v.below ≡ s.below → v ≡ u → IsShort s u
same_short s v u below is = let many = ap length (sym (ap (λ (z : State). z.below) is) ∙ below) in omega (arith, many)

module _ (g : FramedGiven) (s : State) where
  abbrev vs : List Arg → List Value
  vs args = arg_values g.given.code s.top.values args

  begun_at : (v : Value) (kind : Kind) (u : State) → begin_at g.given s v kind ≡ Ok u → u.below ≡ s.below
  begun_at v kind u h =
      let first = then_ok (own s.world.memory v (own_frame g.given s).size kind) _ u h in
      let second = then_ok (found Cause.Begin (block_of v)) _ u first.2 in
      ap (λ (z : State). z.below) (sym (ok_same _ u second.2))

  in_block : (b : ℕ) (o : Offset) (u : State) → begin_in_block g s b o ≡ Ok u → u.below ≡ s.below
  in_block b o u h =
      let test = (o.bits == 0) && has_size s.world.memory b (own_frame g.given s).size in
      let first = then_ok (ok_if test Cause.Begin s) _ u h in
      let same = if_ok test Cause.Begin s first.0 first.1 in
      begun_at (Value.Ptr (Pointer.At b o)) Kind.Stack u
      (ap (λ (v : State). begin_at g.given v (Value.Ptr (Pointer.At b o)) Kind.Stack) same.1 ∙ first.2)

  in_frame : (b : ℕ) (o : Offset) (u : State) → begin_in_frame g s b o ≡ Ok u → u.below ≡ s.below
  in_frame b o u h =
      let same = if_ok (is_live_at s.world.memory b) Cause.Begin (begun g.given s b o.bits) u h in
      ap (λ (z : State). z.below) (sym same.1)

  given_at : (v : Value) (u : State) → begin_given_at g s v ≡ Ok u → u.below ≡ s.below
  given_at (Value.Ptr (Pointer.At b o)) u h = on _ h
    where
      on : (t : Bool) → (if t then begin_in_frame g s b o else begin_in_block g s b o) ≡ Ok u → u.below ≡ s.below
      on true h = in_frame b o u h
      on false h = in_block b o u h
  given_at (Value.Ptr Pointer.Null) u h = absurd (cc)
  given_at (Value.Ptr (Pointer.Func f)) u h = absurd (cc)
  given_at Value.Poison u h = absurd (cc)
  given_at (Value.Int x) u h = absurd (cc)

  plain_begin : (result : Option ℕ) (mem : Value) (u : State) → begin g.given s result mem ≡ Ok u → u.below ≡ s.below
  plain_begin result mem u h =
      let first = then_ok (ok_if (is_none s.top.instance) Cause.Begin s) _ u h in
      let same = if_ok (is_none s.top.instance) Cause.Begin s first.0 first.1 in
      let second = then_ok (begin_at g.given first.0 mem Kind.Allocator) _ u first.2 in
      ap (λ (z : State). z.below) (sym (ok_same (gives second.0 result mem) u second.2))
      ∙ begun_at mem Kind.Allocator second.0 (ap (λ (v : State). begin_at g.given v mem Kind.Allocator) same.1
      ∙ second.1)

  given_begin : (result : Option ℕ) (frame : Value) (u : State) → begin_given g s result frame ≡ Ok u
      → u.below ≡ s.below
  given_begin result frame u h =
      let test = is_none s.top.instance && are_finished_at s.instances frame in
      let first = then_ok (ok_if test Cause.Begin s) _ u h in
      let same = if_ok test Cause.Begin s first.0 first.1 in
      let second = then_ok (begin_given_at g first.0 frame) _ u first.2 in
      ap (λ (z : State). z.below) (sym (ok_same (gives second.0 result frame) u second.2))
      ∙ given_at frame second.0 (ap (λ (v : State). begin_given_at g v frame) same.1 ∙ second.1)

  any_begin : (result : Option ℕ) (mem : Value) (mode : Mode) (u : State) → framed_begin g s result mem mode ≡ Ok u
      → u.below ≡ s.below
  any_begin result mem (Mode.GivenRamp frame) u h = given_begin result frame u h
  any_begin result mem Mode.Plain u h = plain_begin result mem u h
  any_begin result mem Mode.Ramp u h = plain_begin result mem u h
  any_begin result mem Mode.Resumed u h = plain_begin result mem u h
  any_begin result mem (Mode.Entering from label) u h = plain_begin result mem u h

  saved_for : (p q : Point) (u : State) → save_for s p q ≡ Ok u → u.below ≡ s.below
  saved_for p q u h =
      let first = then_ok (found Cause.State (own_instance s)) _ u h in
      let same = if_ok (not first.0.1.freed) Cause.State _ u first.2 in
      ap (λ (z : State). z.below) (sym same.1)

  saved : (u : State) → save g.given s ≡ Ok u → u.below ≡ s.below
  saved u h =
      let first = then_ok (found Cause.State (suspend_of (function_of g.given s) (point_of s))) _ u h in
      let second = then_ok (save_for s (point_of s) first.0) _ u first.2 in
      ap (λ (z : State). z.below) (sym (ok_same (next second.0) u second.2))
      ∙ saved_for (point_of s) first.0 second.0 second.1

  before : (x : Operand) (u : State) → save_before s x ≡ Ok u → u.below ≡ s.below
  before Operand.None u h = saved_for (point_of s) (point_of s) u h
  before (Operand.Local v) u h = ap (λ (z : State). z.below) (sym (ok_same s u h))
  before (Operand.Global n) u h = ap (λ (z : State). z.below) (sym (ok_same s u h))
  before (Operand.Number z) u h = ap (λ (z : State). z.below) (sym (ok_same s u h))
  before Operand.True u h = ap (λ (z : State). z.below) (sym (ok_same s u h))
  before Operand.False u h = ap (λ (z : State). z.below) (sym (ok_same s u h))
  before Operand.Null u h = ap (λ (z : State). z.below) (sym (ok_same s u h))
  before Operand.Poison u h = ap (λ (z : State). z.below) (sym (ok_same s u h))

  suspended : (result : Option ℕ) (x : Operand) (u : State) → suspend s result x ≡ Ok u → u.below ≡ s.below
  suspended result x u h =
      let first = then_ok (save_before s x) _ u h in
      ap (λ (z : State). z.below) (sym (ok_same (gives first.0 result (integer 8 (negsuc 0))) u first.2))
      ∙ before x first.0 first.1

  short_of : (u : State) → u.below ≡ s.below → IsShort s u
  short_of u below = let many = ap length below in omega (arith, many)

  ends_short : (result : Option ℕ) (mode : Mode) (u : State) → after_end (ended s) result mode ≡ Ok u → IsShort s u
  ends_short result mode u h = on mode h
    where
      k : (ended s).below ≡ s.below
      k = (ended_stack s).below

      goes : (v : State) → v.below ≡ (ended s).below → ◌≡◌ {A = Result State Cause} (Ok v) (Ok u) → IsShort s u
      goes v below h = same_short s v u (below ∙ k) (ok_same v u h)

      back : Comes (ended s) None u → IsShort s u
      back (Comes.Ends e) = same_short s _ u k (sym e.is)
      back (Comes.Back b) =
          let many = ap length (sym k ∙ b.below) in
          let now = ap (λ (z : State). length z.below) b.is in
          omega (arith, many, now)

      on : (mode : Mode) → after_end (ended s) result mode ≡ Ok u → IsShort s u
      on Mode.Resumed h = back (comes (ended s) None u h)
      on Mode.Plain h = goes _ refl h
      on Mode.Ramp h = goes _ refl h
      on (Mode.GivenRamp frame) h = goes _ refl h
      on (Mode.Entering from label) h = goes _ refl h

  done_short : (result : Option ℕ) (p : Value) (u : State) → done_at g.given s result p ≡ Ok u → IsShort s u
  done_short result p u h =
      let first = then_ok (sleeper_at s p) _ u h in
      let same = if_ok (has_final (function_at g.given.code first.0.instance.coroutine)) Cause.State _ u first.2 in
      same_short s _ u refl same.1

  -- ---- a resume or a destroy

  pub record IsWoken (u : State) : Type 0 where
    pub from : Value
    pub sleeper : Sleeper
    pub sleeps : sleeper_at s from ≡ Ok sleeper
    pub label : ℕ
    pub is : u ≡ continue_framed g s sleeper.number sleeper.instance sleeper.suspend sleeper.values label
    pub at : (label ≡ resume_label (function_at g.given.code sleeper.instance.coroutine) sleeper.suspend)
        ⊎ (label ≡ destroy_label (function_at g.given.code sleeper.instance.coroutine) sleeper.suspend)

  resumes : (p : Value) (u : State) → resume g.given (continue_framed g) s p ≡ Ok u → IsWoken u
  resumes p u h =
      let first = then_ok (sleeper_at s p) _ u h in
      let same = if_ok (not (is_final (function_at g.given.code first.0.instance.coroutine) first.0.suspend))
      Cause.State
      _ u first.2 in
      record { from = p; sleeper = first.0; sleeps = first.1; label = _; is = sym same.1; at = inl refl }

  destroys : (p : Value) (u : State) → destroy g.given (continue_framed g) s p ≡ Ok u → IsWoken u
  destroys p u h =
      let first = then_ok (sleeper_at s p) _ u h in
      record {
        from =
            p;
        sleeper = first.0;
        sleeps = first.1;
        label = _;
        is = sym (ok_same _ u first.2);
        at = inr refl;
      }

  by_coro : (j : Intrinsic) (args : List Arg) (result : Option ℕ) (u : State)
      → framed_coro g s j args (vs args) result ≡ Ok u → IsShort s u ⊎ IsWoken u
  by_coro Intrinsic.CoroResume args result u h = inr (resumes (nth (vs args) 0) u h)
  by_coro Intrinsic.CoroDestroy args result u h = inr (destroys (nth (vs args) 0) u h)
  by_coro Intrinsic.CoroAlloc args result u h = inl (same_short s _ u refl (ok_same _ u h))
  by_coro Intrinsic.CoroBegin args result u h = inl (short_of u (any_begin result (nth (vs args) 1) s.top.mode u h))
  by_coro Intrinsic.CoroFree args result u h =
      inl (same_short s _ u (changed_stack s (λ x. record x {
        released =
            true;
      }) (own_instance s)).below (ok_same _ u h))
  by_coro Intrinsic.CoroEnd args result u h = inl (ends_short result s.top.mode u h)
  by_coro Intrinsic.CoroPromise args result u h =
      let first = then_ok (framed_promise g s (nth (vs args) 0) (operand_at args 2)) (λ v. Ok
      (gives s result v)) u h in
      inl (same_short s (gives s result first.0) u refl (ok_same _ u first.2))
  by_coro Intrinsic.CoroId args result u h = inl (same_short s _ u refl (ok_same _ u h))
  by_coro Intrinsic.CoroSizeI32 args result u h = inl (same_short s _ u refl (ok_same _ u h))
  by_coro Intrinsic.CoroSizeI64 args result u h = inl (same_short s _ u refl (ok_same _ u h))
  by_coro Intrinsic.CoroAlignI32 args result u h = inl (same_short s _ u refl (ok_same _ u h))
  by_coro Intrinsic.CoroAlignI64 args result u h = inl (same_short s _ u refl (ok_same _ u h))
  by_coro Intrinsic.CoroFrame args result u h = inl (same_short s _ u refl (ok_same _ u h))
  by_coro Intrinsic.CoroSave args result u h = inl (short_of u (saved u h))
  by_coro Intrinsic.CoroSuspend args result u h = inl (short_of u (suspended result (operand_at args 0) u h))
  by_coro Intrinsic.CoroDone args result u h = inl (done_short result (nth (vs args) 0) u h)
  by_coro Intrinsic.LifetimeStart args result u h = inl (same_short s _ u refl (ok_same _ u h))
  by_coro Intrinsic.LifetimeEnd args result u h = inl (same_short s _ u refl (ok_same _ u h))
  by_coro Intrinsic.MemcpyI64 args result u h = inl (same_short s _ u refl (ok_same _ u h))
  by_coro Intrinsic.MemcpyI32 args result u h = inl (same_short s _ u refl (ok_same _ u h))

  -- ---- the step

  fine_is : (r : Result State Cause) (u : State) → or_undefined g.given s r ≡ u → IsFine u.outcome → r ≡ Ok u
  fine_is (Ok v) u is fine = ap Ok is
  fine_is (Err cause) u is fine =
      absurd (subst (λ (z : State). IsFine z.outcome) (sym is) fine)

  pub wakes_by : (u : State) → s.outcome ≡ Outcome.Running → framed_step g s ≡ u → IsFine u.outcome
      → (j : Intrinsic) (args : List Arg) (result : Option ℕ) → ActsBy g s (Coro j args result)
      → (length u.below ≡ length s.below + 1) → IsWoken u
  wakes_by u runs is fine j args result acts longer =
      on (by_coro j args result u (fine_is (framed_coro g s j args (vs args) result) u (sym does ∙ is) fine))
    where
      does : framed_step g s ≡ or_undefined g.given s (framed_coro g s j args (vs args) result)
      does =
          ap (framed_advance g s) runs
          ∙ ap (or_undefined g.given s)
          (ap (framed_next g s) acts.there
          ∙ (ap (λ (o : Option (Result State Cause)). unwrap_or o (framed_act g s
          (action_of (framed_context g s) (work_of s) acts.here))) acts.none
          ∙ ap (framed_act g s) acts.acts))

      on : IsShort s u ⊎ IsWoken u → IsWoken u
      on (inl short) = absurd (omega (arith, short, longer))
      on (inr k) = k
