-- Coro intrinsics that give a value give what stands for it in the framed run.
use Rattle.std.proofs.Common.{◌≡◌, ◌∙◌, if◌then◌else◌, Bool, Err, List, Ok, Option, Result, ap, false, pos, refl, sym, true, ℕ}
use Rattle.pass_frames_code.specs.ir_base.declared.cause.Cause.{Cause}
use Rattle.pass_frames_code.specs.ir_model.Names.{function_at}
use Rattle.pass_frames_code.specs.ir_model.declared.module.Frame.{Frame}
use Rattle.pass_frames_code.specs.ir_model.declared.module.Function.{Function}
use Rattle.pass_frames_code.specs.ir_model.declared.operand.Arg.{Arg}
use Rattle.pass_frames_code.specs.ir_model.declared.operand.Intrinsic.{Intrinsic}
use Rattle.pass_frames_code.specs.ir_model.declared.operand.Operand.{Operand}
use Rattle.pass_frames_code.specs.ir_paths.Windows.{operand_at}
use Rattle.pass_frames_steps.proofs.asking.Finals.{final_same, has_final_same}
use Rattle.pass_frames_steps.proofs.asking.Found.{address_stands, own_found, sleeper_found}
use Rattle.pass_frames_steps.proofs.asking.Promises.{promised}
use Rattle.pass_frames_code.specs.Asking.{GivesAlike, IsAsking, IsSleeperBeside, MayAsk, on_line}
use Rattle.pass_frames_code.specs.Places.{Framing, edged, framed}
use Rattle.pass_frames_code.specs.Related.{AreBuiltOf, Building}
use Rattle.pass_frames_code.specs.Stepping.{AreGiven}
use Rattle.pass_frames_code.specs.pass_renewed_proof.Renewed.{RenewedGiven}
use Rattle.pass_frames_code.specs.run_framed.Framed.{allocates, framed_coro, framed_frame_of_promise, framed_promise, framed_promise_of_frame}
use Rattle.pass_frames_code.specs.run_laws.memory.Pointers.{IsValue}
use Rattle.pass_frames_code.specs.run_memory.declared.pointer.Pointer.{Pointer}
use Rattle.pass_frames_code.specs.run_memory.declared.pointer.Value.{Value}
use Rattle.pass_frames_code.specs.run_source.Source.{Continues, Sleeper, coro, done_at, frame_address, promise, sleeper_at}
use Rattle.pass_frames_code.specs.run_source.State.{gives, own_frame, own_instance}
use Rattle.pass_frames_code.specs.run_source.declared.state.State.{State}
use Rattle.pass_frames_code.specs.run_source_tables.Given.{Given, frame_of, has_final, is_final, is_true}
use Rattle.pass_frames_code.specs.run_step.Results.{and_then, ok_if}
use Rattle.pass_frames_code.specs.run_step.Values.{Env, integer, nth, truth_value}
use Rattle.pass_frames_code.specs.run_step.declared.world.World.{World}

module _ (b : Building) (g : RenewedGiven) (given : AreGiven b g) (s t : State) (r : AreBuiltOf b s t)
    (may : MayAsk b g s) (w : World) (k a : ℕ) (env : Env) where
  abbrev u : State
  u = on_line t w k a env

  same_ok : {c d : State} → ◌≡◌ {A = Result State Cause} (Ok c) (Ok d) → c ≡ d
  same_ok e = cc

  same_frame : own_frame b.given.given u ≡ own_frame g.given s
  same_frame = ap (frame_of b.given.given.sizes) r.top.func ∙ may.frames s.top.func

  sized : (n : ℕ) (of : Frame → ℕ) (result : Option ℕ) (after : State)
      → ◌≡◌ {A = Result State Cause} (Ok (gives s result (integer n (pos (of (own_frame g.given s)))))) (Ok after)
      → GivesAlike r.homes s u result after
      (Ok (gives u result (integer n (pos (of (own_frame b.given.given u))))))
  sized n of result after e = record {
    value = integer n (pos (of (own_frame g.given s)));
    other = integer n (pos (of (own_frame b.given.given u)));
    source = sym (same_ok e);
    target = refl;
    stands = ap (λ (f : Frame). integer n (pos (of f))) same_frame;
  }

  -- ---- coro.done

  module _ (result : Option ℕ) where
    abbrev tell : Given → State → Result Sleeper Cause → Result State Cause
    tell h z o =
        and_then o
        (λ y. ok_if (has_final (function_at h.code y.instance.coroutine)) Cause.State
        (gives z result (truth_value (is_final (function_at h.code y.instance.coroutine) y.suspend))))

    module _ (q : Value) (y : Sleeper) (z : IsSleeperBeside b r.homes s t y (sleeper_at t q)) where
      abbrev X : Framing
      X = b.framing y.instance.coroutine

      code_there : function_at b.given.given.code z.sleeper.instance.coroutine ≡ framed X
      code_there =
          (λ j. function_at (given.code j) (z.instances.coroutine j))
          ∙ (given.built.coroutines y.instance.coroutine z.instances.is_coroutine).is

      code_here : function_at g.given.code y.instance.coroutine ≡ edged X
      code_here = given.coroutines y.instance.coroutine z.instances.is_coroutine

      finals : has_final (function_at b.given.given.code z.sleeper.instance.coroutine)
          ≡ has_final (function_at g.given.code y.instance.coroutine)
      finals = ap has_final code_there ∙ has_final_same X ∙ ap has_final (sym code_here)

      final : is_final (function_at b.given.given.code z.sleeper.instance.coroutine) z.sleeper.suspend
          ≡ is_final (function_at g.given.code y.instance.coroutine) y.suspend
      final =
          (λ j. is_final (code_there j) (z.suspend j)) ∙ final_same X z.suspend_number y.suspend z.numbered
          ∙ ap (λ (f : Function). is_final f y.suspend) (sym code_here)

      abbrev last : Value
      last = truth_value (is_final (function_at g.given.code y.instance.coroutine) y.suspend)

      told : (after : State) → tell g.given s (Ok y) ≡ Ok after
          → GivesAlike r.homes s u result after (tell b.given.given u (sleeper_at t q))
      told after e = on (has_final (function_at g.given.code y.instance.coroutine)) refl e
        where
          on : (f : Bool) → has_final (function_at g.given.code y.instance.coroutine) ≡ f
              → ok_if f Cause.State (gives s result last) ≡ Ok after
              → GivesAlike r.homes s u result after (tell b.given.given u (sleeper_at t q))
          on false is d = absurd (cc)
          on true is d = record {
            value = last;
            other = last;
            source = sym (same_ok d);
            target = ap (tell b.given.given u) z.is
                ∙ (λ j. ok_if ((finals ∙ is) j) Cause.State (gives u result (truth_value (final j))));
            stands = refl;
          }

    done_alike : (p q : Value) → IsValue r.homes p q → (after : State) → done_at g.given s result p ≡ Ok after
        → GivesAlike r.homes s u result after (done_at b.given.given u result q)
    done_alike p q stands after e = on (sleeper_at s p) refl e
      where
        on : (o : Result Sleeper Cause) → sleeper_at s p ≡ o → tell g.given s o ≡ Ok after
            → GivesAlike r.homes s u result after (tell b.given.given u (sleeper_at t q))
        on (Err cause) is d = absurd (cc)
        on (Ok y) is d = told q y (sleeper_found b s t r may.placed p q stands y is) after d

    -- ---- coro.promise

    promise_alike : (p q : Value) → IsValue r.homes p q → (from now : Operand) → is_true now ≡ is_true from
        → (after : State)
        → and_then (promise g.given s p from) (λ v. Ok (gives s result v)) ≡ Ok after
        → GivesAlike r.homes s u result after
        (and_then (framed_promise b.given u q now) (λ v. Ok (gives u result v)))
    promise_alike p q stands from now same after e = on (promise g.given s p from) refl e
      where
        on : (o : Result Value Cause) → promise g.given s p from ≡ o
            → and_then o (λ v. Ok (gives s result v)) ≡ Ok after
            → GivesAlike r.homes s u result after
            (and_then (framed_promise b.given u q now) (λ v. Ok (gives u result v)))
        on (Err cause) is d = absurd (cc)
        on (Ok v) is d =
            let z = promised b g given s t r may.placed may.laid from now same p q stands v is in
            record {
              value = v;
              other = z.0;
              source = sym (same_ok d);
              target = ap (λ (o : Result Value Cause). and_then o (λ v. Ok (gives u result v)))
                  (same_promise q now ∙ z.1);
              stands = z.2;
            }
          where
            same_back : (q : Value) → framed_frame_of_promise b.given u q ≡ framed_frame_of_promise b.given t q
            same_back (Value.Ptr (Pointer.At d o)) = refl
            same_back (Value.Ptr Pointer.Null) = refl
            same_back (Value.Ptr (Pointer.Func f)) = refl
            same_back (Value.Int n) = refl
            same_back Value.Poison = refl

            same_promise : (q : Value) (now : Operand) → framed_promise b.given u q now ≡ framed_promise b.given t q now
            same_promise q now = by (is_true now)
              where
                by : (k : Bool)
                    → (if k then framed_frame_of_promise b.given u q else framed_promise_of_frame b.given u q)
                    ≡ (if k then framed_frame_of_promise b.given t q else framed_promise_of_frame b.given t q)
                by true = same_back q
                by false = refl

  -- ---- all of them

  pub asked : (i : Intrinsic) → IsAsking i → (go : Continues) (args now : List Arg) (vs us : List Value)
      (result : Option ℕ) → IsValue r.homes (nth vs 0) (nth us 0)
      → is_true (operand_at now 2) ≡ is_true (operand_at args 2) → (after : State)
      → coro g.given go s i args vs result ≡ Ok after
      → GivesAlike r.homes s (on_line t w k a env) result after
      (framed_coro b.given (on_line t w k a env) i now us result)
  asked Intrinsic.CoroSizeI32 q go args now vs us result stands same after e =
      sized 32 (λ f. f.size) result after e
  asked Intrinsic.CoroSizeI64 q go args now vs us result stands same after e =
      sized 64 (λ f. f.size) result after e
  asked Intrinsic.CoroAlignI32 q go args now vs us result stands same after e =
      sized 32 (λ f. f.align) result after e
  asked Intrinsic.CoroAlignI64 q go args now vs us result stands same after e =
      sized 64 (λ f. f.align) result after e
  asked Intrinsic.CoroAlloc q go args now vs us result stands same after e = record {
    value = truth_value true;
    other = truth_value (allocates t.top.mode);
    source = sym (same_ok e);
    target = refl;
    stands = ap truth_value (ap allocates r.top.mode ∙ may.no_gift);
  }
  asked Intrinsic.CoroFrame q go args now vs us result stands same after e = record {
    value = frame_address (own_instance s);
    other = frame_address (own_instance t);
    source = sym (same_ok e);
    target = refl;
    stands = address_stands b s t r may.placed (own_instance s) (own_instance t) (own_found b s t r);
  }
  asked Intrinsic.CoroDone q go args now vs us result stands same after e =
      done_alike result (nth vs 0) (nth us 0) stands after e
  asked Intrinsic.CoroPromise q go args now vs us result stands same after e =
      promise_alike result (nth vs 0) (nth us 0) stands (operand_at args 2) (operand_at now 2) same after e
  asked _ q go args now vs us result stands same after e = absurd q
