-- Steps of framed runs whose facts say the same.
use Rattle.std.proofs.Common.{◌≡◌, ℕ, ◌&&◌, List, refl, ap, Option, Ok}
use Rattle.std.specs.Prelude.{ℤ, is_none, unwrap_or, map, ◌==◌, if◌then◌else◌}
use Rattle.run_memory.specs.declared.block.Kind.{Kind}
use Rattle.run_memory.specs.declared.pointer.Offset.{Offset}
use Rattle.run_memory.specs.declared.pointer.Pointer.{Pointer}
use Rattle.run_memory.specs.declared.pointer.Value.{Value}
use Rattle.ir_base.specs.declared.cause.Cause.{Cause}
use Rattle.ir_base.specs.declared.outcome.Outcome.{Outcome}
use Rattle.ir_base.specs.declared.outcome.Word.{Word}
use Rattle.run_source.specs.Source.{first_state, is_live_at}
use Rattle.run_source.specs.State.{function_of, gives, or_undefined, own_frame, work_of}
use Rattle.run_source.specs.declared.state.Mode.{Mode}
use Rattle.run_source.specs.declared.state.State.{State}
use Rattle.frame_layout.specs.declared.layout.Layout.{Layout}
use Rattle.frame_layout.specs.declared.layout.Layouts.{Layouts}
use Rattle.run_framed_facts.proofs.SameFacts.{table-same}
use Rattle.run_framed_facts.specs.FramedFacts.{HaveFramedFacts, given_with}
use Rattle.run_framed.specs.Framed.{FramedAt, are_finished_at, begin_given, begin_given_at, begin_in_block, begin_in_frame, frame_around, frame_of_layout, framed_act, framed_advance, framed_begin, framed_context, framed_coro, framed_facts, framed_next, framed_state_at, given_call, has_room, has_size}
use Rattle.run_framed.specs.Machines.{FramedSeenOf}
use Rattle.ir_model.specs.declared.module.Module.{Module}
use Rattle.ir_model.specs.declared.operand.Arg.{Arg}
use Rattle.ir_model.specs.declared.operand.Intrinsic.{Intrinsic}
use Rattle.ir_paths.specs.declared.point.Facts.{Facts}
use Rattle.run_step.specs.Results.{and_then, ok_if}
use Rattle.run_step.specs.Runs.{iterate, seen_of}
use Rattle.run_step.specs.Step.{Action, Coro, Fetched, GoTo, action_of, fetch}
use Rattle.run_step.specs.Values.{arg_values, nth}
use Rattle.run_source_facts.proofs.SameFacts.{SameFacts}
use Rattle.run_source_facts.proofs.Steps.{begin-same, begin_at-same, begun-same, go_to-same}
use Rattle.run_source_tables.specs.Given.{facts_at}

module _ (m : Module) (layouts : List Layout) (answers : List ℤ) (f1 f2 : List Facts) (same : (func : ℕ) → SameFacts (facts_at f1 func) (facts_at f2 func)) where
  begin_in_block-same : (s : State) (b : ℕ) (o : Offset) → begin_in_block (given_with m layouts answers f1) s b o ≡ begin_in_block (given_with m layouts answers f2) s b o
  begin_in_block-same s b o = λ j.
      and_then (ok_if ((o.bits == 0) && has_size s.world.memory b (own_frame (given_with m layouts answers f1).given s).size) Cause.Begin s) (λ (t : State).
      begin_at-same m (map frame_of_layout layouts) answers f1 f2 same t (Value.Ptr (Pointer.At b o)) Kind.Stack j)

  begin_in_frame-same : (s : State) (b : ℕ) (o : Offset) → begin_in_frame (given_with m layouts answers f1) s b o ≡ begin_in_frame (given_with m layouts answers f2) s b o
  begin_in_frame-same s b o = λ j.
      ok_if (is_live_at s.world.memory b) Cause.Begin (begun-same m (map frame_of_layout layouts) answers f1 f2 same s b o.bits j)

  begin_given_at-same : (s : State) (frame : Value) → begin_given_at (given_with m layouts answers f1) s frame ≡ begin_given_at (given_with m layouts answers f2) s frame
  begin_given_at-same s (Value.Ptr (Pointer.At b o)) = λ j.
      if has_room (given_with m layouts answers f1) o.bits (own_frame (given_with m layouts answers f1).given s).size (frame_around (given_with m layouts answers f1) s.instances b o.bits)
      then begin_in_frame-same s b o j
      else begin_in_block-same s b o j
  begin_given_at-same s _ = refl

  begin_given-same : (s : State) (result : Option ℕ) (frame : Value) → begin_given (given_with m layouts answers f1) s result frame ≡ begin_given (given_with m layouts answers f2) s result frame
  begin_given-same s result frame = λ j.
      and_then (ok_if (is_none s.top.instance && are_finished_at s.instances frame) Cause.Begin s) (λ (t : State).
      and_then (begin_given_at-same t frame j) (λ (u : State). Ok (gives u result frame)))

  framed_begin-same : (s : State) (result : Option ℕ) (mem : Value) (mode : Mode) → framed_begin (given_with m layouts answers f1) s result mem mode ≡ framed_begin (given_with m layouts answers f2) s result mem mode
  framed_begin-same s result mem (Mode.GivenRamp frame) = begin_given-same s result frame
  framed_begin-same s result mem Mode.Plain = begin-same m (map frame_of_layout layouts) answers f1 f2 same s result mem
  framed_begin-same s result mem Mode.Ramp = begin-same m (map frame_of_layout layouts) answers f1 f2 same s result mem
  framed_begin-same s result mem Mode.Resumed = begin-same m (map frame_of_layout layouts) answers f1 f2 same s result mem
  framed_begin-same s result mem (Mode.Entering from label) = begin-same m (map frame_of_layout layouts) answers f1 f2 same s result mem

  coro-same : (s : State) (i : Intrinsic) (args : List Arg) (vs : List Value) (result : Option ℕ) → framed_coro (given_with m layouts answers f1) s i args vs result ≡ framed_coro (given_with m layouts answers f2) s i args vs result
  coro-same s Intrinsic.CoroBegin args vs result = framed_begin-same s result (nth vs 1) s.top.mode
  coro-same s _ args vs result = refl

  act-same : (s : State) (a : Action) → framed_act (given_with m layouts answers f1) s a ≡ framed_act (given_with m layouts answers f2) s a
  act-same s (Coro i args result) = coro-same s i args (arg_values m s.top.values args) result
  act-same s (GoTo label) = go_to-same m (map frame_of_layout layouts) answers f1 f2 same s label
  act-same s _ = refl

  next-same : (s : State) (at : Fetched) → framed_next (given_with m layouts answers f1) s at ≡ framed_next (given_with m layouts answers f2) s at
  next-same s at = λ j.
      unwrap_or (given_call (given_with m layouts answers f1) s at) (act-same s (action_of (framed_context (given_with m layouts answers f1) s) (work_of s) at) j)

  advance-same : (s : State) (o : Outcome) → framed_advance (given_with m layouts answers f1) s o ≡ framed_advance (given_with m layouts answers f2) s o
  advance-same s Outcome.Running = λ j.
      or_undefined (given_with m layouts answers f1).given s
      (next-same s (fetch (function_of (given_with m layouts answers f1).given s) s.top.block s.top.at) j)
  advance-same s (Outcome.Returned v) = refl
  advance-same s (Outcome.Undefined cause place) = refl

  states-same : (entry : ℕ) (args : List Word) (n : ℕ) → framed_state_at (given_with m layouts answers f1) entry args n ≡ framed_state_at (given_with m layouts answers f2) entry args n
  states-same entry args n = λ j. iterate (λ (s : State). advance-same s s.outcome j) n (first_state m entry args)

pub seen-same : (m : Module) (layouts : Layouts) (answers : List ℤ) (facts : List Facts) (entry : ℕ) (args : List Word) (n : ℕ) → HaveFramedFacts m.functions facts → FramedSeenOf (given_with m layouts.coroutines answers facts) entry args n ≡ FramedAt m layouts entry args answers n
seen-same m layouts answers facts entry args n h =
    ap (λ (s : State). seen_of m s.world s.outcome) (states-same m layouts.coroutines answers facts (map framed_facts m.functions) (table-same m.functions facts h) entry args n)
