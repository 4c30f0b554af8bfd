-- Behind each step of the run that gives frames activations are outside the blocks that allocate and free given frames.
use Rattle.std.proofs.Common.{◌≡◌, ◌+◌, ◌++◌, ◌∙◌, ◌&&◌, ◌∷◌, [], ap, Bool, Err, false, List, length, not, Ok, Option, refl, Result, subst, sym, true, ℕ, if◌then◌else◌}
use Rattle.std.specs.List.{list_all}
use Rattle.std.specs.Option.{option_map_or}
use Rattle.std.specs.Prelude.{None, Some, option_map, slice_get, slice_set}
use Rattle.pass_elide_kept.proofs.Goes.{step_is}
use Rattle.pass_elide_kept.proofs.Passing.{IsAgedAt, aged_by, all_aged, all_pass, entry_frees, entry_waits, given_then, moves_pass, passes}
use Rattle.pass_elide_kept.specs.Modules.{KeepsHandlesAndEnds}
use Rattle.pass_elide_kept.specs.Runs.{IsKeptGiving, LeadsPast}
use Rattle.pass_elide_kept.specs.Steps.{EntersPast, StandsAtCall}
use Rattle.pass_elide_proof.proofs.Calls.{other_steps}
use Rattle.pass_elide_proof.proofs.CallersBlocks.{new_frames}
use Rattle.pass_elide_proof.proofs.CallersEdges.{status_was, there}
use Rattle.pass_elide_proof.proofs.CallersInstr.{fetched_at, was_itself}
use Rattle.pass_elide_proof.proofs.Entered.{goes_on, woken}
use Rattle.pass_elide_proof.proofs.LastOnes.{is_found}
use Rattle.pass_elide_proof.proofs.LeftWindows.{own_there}
use Rattle.pass_elide_proof.proofs.Modules.{finds_alike}
use Rattle.pass_elide_proof.proofs.SiteCalls.{other_steps as site_steps}
use Rattle.pass_elide_proof.proofs.Standing.{has_code}
use Rattle.pass_elide_proof.proofs.Unelided.{function_same}
use Rattle.pass_elide_proof.specs.Callers.{HaveBlocks, StandsAtEnd, StandsAtInstr, WasBefore}
use Rattle.pass_elide_proof.specs.Calling.{AreReady, IsAtCall, IsAtSite}
use Rattle.pass_elide_proof.specs.Elision.{Elision, elided, elided_code, function_in, function_in_elided, rooms}
use Rattle.pass_elide_proof.specs.Match.{instance_in, is_given_mode}
use Rattle.pass_elide_proof.specs.Placing.{KeepsPlaces}
use Rattle.pass_elide_proof.specs.PlacingStates.{HavePassedBy, PassesBy}
use Rattle.pass_elide_proof.specs.Waking.{GivesNone}
use Rattle.pass_elide_proof.specs.pass_proofs.ir_base.declared.cause.Cause.{Cause}
use Rattle.pass_elide_proof.specs.pass_proofs.ir_model.Layout.{size_of}
use Rattle.pass_elide_proof.specs.pass_proofs.ir_model.Names.{function_at, position_of}
use Rattle.pass_elide_proof.specs.pass_proofs.ir_model.Ty.{Ty}
use Rattle.pass_elide_proof.specs.pass_proofs.ir_model.declared.instr.Instr.{Instr}
use Rattle.pass_elide_proof.specs.pass_proofs.ir_model.declared.module.Function.{Function}
use Rattle.pass_elide_proof.specs.pass_proofs.ir_model.declared.module.Module.{Module}
use Rattle.pass_elide_proof.specs.pass_proofs.ir_model.declared.operand.Arg.{Arg}
use Rattle.pass_elide_proof.specs.pass_proofs.ir_model.declared.operand.Callee.{Callee}
use Rattle.pass_elide_proof.specs.pass_proofs.ir_model.declared.operand.Intrinsic.{Intrinsic}
use Rattle.pass_elide_proof.specs.pass_proofs.ir_paths.Windows.{destroy_label, resume_label}
use Rattle.pass_elide_proof.specs.pass_proofs.ir_paths.declared.point.Point.{Point}
use Rattle.pass_elide_proof.specs.pass_proofs.ir_paths.declared.point.Window.{Window}
use Rattle.pass_elide_proof.specs.pass_proofs.run_agreement.Machines.{IsFine}
use Rattle.pass_elide_proof.specs.pass_proofs.run_framed.Framed.{alloca_of, continue_framed, enter_after, framed_act, framed_advance, framed_context, framed_next, framed_slot, framed_step, is_given}
use Rattle.pass_elide_proof.specs.pass_proofs.run_laws.memory.Standing.{blank_block}
use Rattle.pass_elide_proof.specs.pass_proofs.run_memory.Memory.{end}
use Rattle.pass_elide_proof.specs.pass_proofs.run_memory.declared.block.MemoryBlock.{MemoryBlock}
use Rattle.pass_elide_proof.specs.pass_proofs.run_memory.declared.pointer.Pointer.{Pointer}
use Rattle.pass_elide_proof.specs.pass_proofs.run_memory.declared.pointer.Value.{Value}
use Rattle.pass_elide_proof.specs.pass_proofs.run_source.Source.{Sleeper, branch_leaving, called, enter_block, left_windows, may_leave, push, sleeper_of}
use Rattle.pass_elide_proof.specs.pass_proofs.run_source.State.{began_at, frame_address_of, function_of, instance_at, is_finished, is_suspended, or_undefined, own_instance, settled, with_left, with_slots, with_status, work_of}
use Rattle.pass_elide_proof.specs.pass_proofs.run_source.declared.state.Activation.{Activation}
use Rattle.pass_elide_proof.specs.pass_proofs.run_source.declared.state.Instance.{Instance}
use Rattle.pass_elide_proof.specs.pass_proofs.run_source.declared.state.Mode.{Mode}
use Rattle.pass_elide_proof.specs.pass_proofs.run_source.declared.state.State.{State}
use Rattle.pass_elide_proof.specs.pass_proofs.run_source.declared.state.Status.{Status}
use Rattle.pass_elide_proof.specs.pass_proofs.run_source_tables.Given.{is_final}
use Rattle.pass_elide_proof.specs.pass_proofs.run_step.Results.{and_then, found, ok_if}
use Rattle.pass_elide_proof.specs.pass_proofs.run_step.Step.{Action, AtInstr, Context, Fetched, NewSlot, Stuck, Work, alloca_kind, has_markers, is_alignment, set_memory, set_value}
use Rattle.pass_elide_proof.specs.pass_proofs.run_step.Values.{Env, arg_values, nth, pointer_to}
use Rattle.pass_elide_proof.specs.pass_proofs.run_step.declared.world.Slot.{Slot}

-- ---- parts of a step

abbrev pub PassedIf : Elision → Result State Cause → Type 0
PassedIf e (Err cause) = Unit {0}
PassedIf e (Ok u) = HavePassedBy e u

pub or_passed : (e : Elision) (t : State) (r : Result State Cause)
    → IsFine (or_undefined (elided e).given t r).outcome → PassedIf e r
    → HavePassedBy e (or_undefined (elided e).given t r)
or_passed e t (Err cause) fine k = absurd fine
or_passed e t (Ok u) fine k = k

pub next_passed : (e : Elision) (t : State) (at : ℕ) (i : Instr) → StandsAtInstr e t at i
    → IsFine (framed_step (elided e) t).outcome → PassedIf e (framed_next (elided e) t (AtInstr i))
    → HavePassedBy e (framed_step (elided e) t)
next_passed e t at i k fine passed =
    let is = step_is (elided e) t (AtInstr i) k.runs (fetched_at e t at i k) in
    subst (HavePassedBy e) (sym is)
    (or_passed e t (framed_next (elided e) t (AtInstr i)) (subst (λ (u : State). IsFine u.outcome) is fine) passed)

aged_same : (t u : State) → ((number : ℕ) (y : Instance) → slice_get u.instances number ≡ Some y
    → slice_get t.instances number ≡ Some y)
    → ((number : ℕ) (y : Instance) → slice_get t.instances number ≡ Some y → is_given u.world.memory y ≡ true
    → is_given t.world.memory y ≡ true) → (number : ℕ) → IsAgedAt t u number
aged_same t u same frames number y there given =
    let at = same number y there in (y, at, frames number y at given)

-- ---- another activation on top

pub pushed_pass : (e : Elision) (t : State) (new : Activation) (xs : List Instance)
    → ((number : ℕ) (y : Instance) → slice_get xs number ≡ Some y → WasBefore t.instances number y)
    → PassesBy e (push (record t { instances = xs }) new) new → HavePassedBy e t
    → HavePassedBy e (push (record t { instances = xs }) new)
pushed_pass e t new xs was top h =
    let u = push (record t { instances = xs }) new in
    let aged = aged_by e t u was (λ number y there given. given) in (
      top,
      (
        passes e t u t.top (record t.top { at = t.top.at + 1 }) (λ n is. aged n) refl refl refl refl h.0,
        all_pass e t u t.below (all_aged e t u t.below aged) h.1,
      ),
    )

-- a function that is called as the framed form calls it
fresh_pass : (e : Elision) (u : State) (m : Module) (func : ℕ) (vs : List Value) (result : Option ℕ) (b : Bool)
    → PassesBy e u (called m func vs result (if b then Mode.Ramp else Mode.Plain))
fresh_pass e u m func vs result true = record { waits = λ given. absurd (cc); frees = λ given. absurd (cc) }
fresh_pass e u m func vs result false = record { waits = λ given. absurd (cc); frees = λ given. absurd (cc) }

pub calls_pass : (e : Elision) (s t : State) (r : AreReady e s t) (k : IsAtCall e s t) → HavePassedBy e t
    → HavePassedBy e (framed_step (elided e) t)
calls_pass e s t r k h =
    subst (HavePassedBy e) (sym (other_steps e s t r k))
    (pushed_pass e t _ t.instances (was_itself t.instances)
    (fresh_pass e _ (elided_code e) k.func _ k.result (function_at (elided_code e) k.func).coroutine) h)

module _ (e : Elision) (places : KeepsPlaces e) (keeps : KeepsHandlesAndEnds e) where
  given_pass : (u : State) (m : Module) (func : ℕ) (vs : List Value) (result : Option ℕ) (frame : Value)
      → PassesBy e u (called m func vs result (Mode.GivenRamp frame))
  given_pass u m func vs result frame = record {
    waits = λ given. entry_waits e places keeps func;
    frees = λ given. entry_frees e places keeps func;
  }

  pub sites_pass : (s t : State) (r : AreReady e s t) (k : IsAtSite e s t) → HavePassedBy e t
      → HavePassedBy e (framed_step (elided e) t)
  sites_pass s t r k h =
      subst (HavePassedBy e) (sym (site_steps e s t r k))
      (pushed_pass e t _ t.instances (was_itself t.instances)
      (given_pass _ (elided_code e) k.func _ k.result _) h)

  -- ---- allocas again

  module _ (t : State) (theirs : IsKeptGiving e t) (blocks : HaveBlocks t) (at name : ℕ) (ty : Ty) (align from label : ℕ)
      (mode : t.top.mode ≡ Mode.Entering from label) (h : HavePassedBy e t) where
    abbrev g : Context
    g = framed_context (elided e) t

    abbrev next_block : MemoryBlock
    next_block = blank_block (size_of g.code ty) align (alloca_kind g.function)

    abbrev grown : List MemoryBlock
    grown = t.world.memory ++ next_block ∷ []

    abbrev made : Bool → List MemoryBlock
    made b = if b then end grown (length t.world.memory) else grown

    abbrev work : Bool → Work
    work b = set_memory (set_value (work_of t) name (pointer_to (length t.world.memory))) (made b)

    abbrev slot : Slot
    slot = record { alloca = name; block = length t.world.memory }

    abbrev with_slot : Bool → State
    with_slot b = with_slots (settled t (work b)) (slot ∷ t.top.slots)

    labels : position_of (function_in_elided e t.top.func) label ≡ position_of (function_in e t.top.func) label
    labels =
        ap (λ (f : Function). position_of f label) ((finds_alike e).functions t.top.func)
        ∙ (has_code (rooms e t.top.func) (function_in e t.top.func)).labels label

    after_passes : (b : Bool) (q : Option ℕ)
        → HavePassedBy e (enter_after (elided e) (with_slot b) from label
        (option_map (λ k. record { block = 0; at = k }) q))
    after_passes b None =
        let u = enter_after (elided e) (with_slot b) from label None in
        moves_pass e t u
        (aged_same t u (λ number y there. there) (new_frames t next_block blocks b u refl).given) refl (record {
          waits = λ given. absurd (cc);
          frees = λ given. ap (e.shape t.top.func).frees labels ∙ theirs.entering from label mode;
        }) h
    after_passes b (Some k) =
        let u = enter_after (elided e) (with_slot b) from label (Some (record { block = 0; at = k })) in
        moves_pass e t u
        (aged_same t u (λ number y there. there) (new_frames t next_block blocks b u refl).given) refl (record {
          waits = λ given. absurd (cc);
          frees = λ given. entry_frees e places keeps t.top.func;
        }) h

    by_mode : (b : Bool) → HavePassedBy e (framed_slot (elided e) (settled t (work b)) slot t.top.mode)
    by_mode b =
        subst (λ (m : Mode). HavePassedBy e (framed_slot (elided e) (settled t (work b)) slot m)) (sym mode)
        (after_passes b (alloca_of (slice_get (function_of (elided e).given (settled t (work b))).blocks 0)
        (settled t (work b)).top.at))

    aligned : (q b : Bool)
        → PassedIf e (framed_act (elided e) t (if q then NewSlot (work b) slot else Stuck Cause.Align))
    aligned true b = by_mode b
    aligned false b = tt

    pub again_passes : StandsAtInstr e t at (Instr.Alloca name ty align)
        → IsFine (framed_step (elided e) t).outcome → HavePassedBy e (framed_step (elided e) t)
    again_passes k fine =
        next_passed e t at (Instr.Alloca name ty align) k fine
        (aligned (is_alignment align) (has_markers g.function name))

  -- ---- resumes and destroys

  module _ (t : State) (none : (number : ℕ) (x : Instance) → slice_get t.instances number ≡ Some x
      → GivesNone e x.coroutine) (h : HavePassedBy e t) where
    same_function : (n : ℕ) (x : Instance) → slice_get t.instances n ≡ Some x
        → function_at (elided_code e) x.coroutine ≡ function_in e x.coroutine
    same_function n x there =
        (finds_alike e).functions x.coroutine
        ∙ function_same (rooms e x.coroutine) (none n x there) (function_in e x.coroutine)

    woken_passes : (u : State) (m : Module) (f : Function) (func number : ℕ) (frame : Value) (from label : ℕ)
        → (e.shape func).frees (position_of f label) ≡ None → (q : Option ℕ)
        → PassesBy e u (woken m f func number frame from label (option_map (λ k. record { block = 0; at = k }) q))
    woken_passes u m f func number frame from label past None = record {
      waits = λ given. absurd (cc);
      frees = λ given. past;
    }
    woken_passes u m f func number frame from label past (Some k) = record {
      waits = λ given. absurd (cc);
      frees = λ given. entry_frees e places keeps func;
    }

    module _ (stops : Function → Point → Bool) (to : Function → Point → ℕ) (p : Value)
        (past : (n : ℕ) (x : Instance) (q : Point) (env : Env) → slice_get t.instances n ≡ Some x
        → x.status ≡ Status.Suspended q env
        → LeadsPast e x.coroutine (to (function_in e x.coroutine) q)) where
      abbrev goes : Sleeper → Result State Cause
      goes y =
          ok_if (not (stops (function_at (elided_code e) y.instance.coroutine) y.suspend)) Cause.State
          (continue_framed (elided e) t y.number y.instance y.suspend y.values
          (to (function_at (elided_code e) y.instance.coroutine) y.suspend))

      abbrev found_goes : Option (ℕ × Instance) → Result State Cause
      found_goes o =
          and_then (and_then (found Cause.Frame o) (λ (z : ℕ × Instance). sleeper_of z.0 z.1 z.1.status)) goes

      in_list : (p : Value) (n : ℕ) (x : Instance) → instance_at t.instances p ≡ Some (n, x)
          → slice_get t.instances n ≡ Some x
      in_list (Value.Ptr (Pointer.At b o)) n x finds = (is_found (began_at b o.bits) n x t.instances finds).0
      in_list (Value.Ptr Pointer.Null) n x finds = absurd (cc)
      in_list (Value.Ptr (Pointer.Func g)) n x finds = absurd (cc)
      in_list Value.Poison n x finds = absurd (cc)
      in_list (Value.Int w) n x finds = absurd (cc)

      wakes : (n : ℕ) (x : Instance) (q : Point) (env : Env) → instance_at t.instances p ≡ Some (n, x)
          → x.status ≡ Status.Suspended q env
          → HavePassedBy e (continue_framed (elided e) t n x q env (to (function_at (elided_code e) x.coroutine) q))
      wakes n x q env finds sleeps =
          let at = in_list p n x finds in
          let f = function_at (elided_code e) x.coroutine in
          let past_too : (e.shape x.coroutine).frees (position_of f (to f q)) ≡ None
          = (λ j. (e.shape x.coroutine).frees (position_of (same_function n x at j) (to (same_function n x at j) q)))
          ∙ past n x q env at sleeps in
          subst (HavePassedBy e) (sym (goes_on (elided e) t n x q env (to f q)))
          (pushed_pass e t _ (slice_set t.instances n (record x { status = Status.Running }))
          (status_was t.instances n x (record x { status = Status.Running }) at refl refl refl
          (λ running. ap is_finished sleeps))
          (woken_passes _ (elided_code e) f x.coroutine n (frame_address_of x) q.block (to f q) past_too
          (alloca_of (slice_get f.blocks 0) 0)) h)

      by_stop : (n : ℕ) (x : Instance) (q : Point) (env : Env) → instance_at t.instances p ≡ Some (n, x)
          → x.status ≡ Status.Suspended q env → (b : Bool)
          → PassedIf e (ok_if (not b) Cause.State
          (continue_framed (elided e) t n x q env (to (function_at (elided_code e) x.coroutine) q)))
      by_stop n x q env finds sleeps true = tt
      by_stop n x q env finds sleeps false = wakes n x q env finds sleeps

      by_status : (n : ℕ) (x : Instance) → instance_at t.instances p ≡ Some (n, x) → (z : Status) → x.status ≡ z
          → PassedIf e (and_then (sleeper_of n x z) goes)
      by_status n x finds Status.Running is = tt
      by_status n x finds (Status.Suspended q env) is =
          by_stop n x q env finds is (stops (function_at (elided_code e) x.coroutine) q)
      by_status n x finds Status.Finished is = tt

      wake_passes : PassedIf e (found_goes (instance_at t.instances p))
      wake_passes = on (instance_at t.instances p) refl
        where
          on : (o : Option (ℕ × Instance)) → instance_at t.instances p ≡ o → PassedIf e (found_goes o)
          on None finds = tt
          on (Some z) finds = by_status z.0 z.1 finds z.1.status refl

    module _ (theirs : IsKeptGiving e t) (at : ℕ) (result : Option ℕ) (must_tail : Bool) (ty : Option Ty)
        (args : List Arg) (fine : IsFine (framed_step (elided e) t).outcome) where
      abbrev p : Value
      p = nth (arg_values (elided e).given.code t.top.values args) 0

      pub resumes_pass : StandsAtCall e t at Intrinsic.CoroResume result must_tail ty args
          → HavePassedBy e (framed_step (elided e) t)
      resumes_pass k =
          next_passed e t at (Instr.Call result must_tail ty (Callee.Intrinsic Intrinsic.CoroResume) args) k fine
          (wake_passes is_final resume_label p (λ n x q env there sleeps. (theirs.sleepers n x q env there sleeps).resume))

      pub destroys_pass : StandsAtCall e t at Intrinsic.CoroDestroy result must_tail ty args
          → HavePassedBy e (framed_step (elided e) t)
      destroys_pass k =
          next_passed e t at (Instr.Call result must_tail ty (Callee.Intrinsic Intrinsic.CoroDestroy) args) k fine
          (wake_passes (λ f q. false) destroy_label p
          (λ n x q env there sleeps. (theirs.sleepers n x q env there sleeps).destroy))

-- ---- edges

module _ (e : Elision) (t : State) (label : ℕ) (k : StandsAtEnd e t label) (past : EntersPast e t label)
    (h : HavePassedBy e t) where
  labels_too : position_of (function_in_elided e t.top.func) label ≡ position_of (function_in e t.top.func) label
  labels_too =
      ap (λ (f : Function). position_of f label) ((finds_alike e).functions t.top.func)
      ∙ (has_code (rooms e t.top.func) (function_in e t.top.func)).labels label

  -- the state behind the edge
  entered_passes : (u : State) → u.below ≡ t.below → u.top.func ≡ t.top.func
      → u.top.block ≡ position_of (function_in_elided e t.top.func) label
      → is_given_mode u.top.mode ≡ is_given_mode t.top.mode → u.top.instance ≡ t.top.instance
      → ((number : ℕ) → IsAgedAt t u number) → HavePassedBy e u
  entered_passes u below func block mode instance aged =
      moves_pass e t u aged below (record {
        waits = λ given.
            (λ j. (e.shape (func j)).waits ((block ∙ labels_too) j)) ∙ past.waits (sym mode ∙ given);
        frees = λ given.
            (λ j. (e.shape (func j)).frees ((block ∙ labels_too) j))
            ∙ past.frees (given_then e t u (is_given_mode t.top.mode) t.top.instance (λ n is. aged n)
            ((λ j. if sym mode j then true
            else option_map_or (is_given u.world.memory) (instance_in u.instances (sym instance j)) false) ∙ given));
      }) h

  abbrev left : ℕ → Instance → State
  left i x = enter_block (elided e).given (with_left (with_status t i x Status.Running) false) label

  leaves_pass : (w : Window) (ws : List Window) → PassedIf e (branch_leaving (elided e).given t label (w ∷ ws))
  leaves_pass w ws = on (own_instance t) refl
    where
      suspended : (a b : Bool) → (a && b) ≡ true → a ≡ true
      suspended true b is = refl
      suspended false b is = absurd (cc)

      going : (z : Status) → is_suspended z ≡ true → is_finished z ≡ false
      going Status.Running is = absurd (cc)
      going (Status.Suspended p values) is = refl
      going Status.Finished is = absurd (cc)

      if_may : (i : ℕ) (x : Instance) → own_instance t ≡ Some (i, x) → (b : Bool)
          → list_all (may_leave (length t.below) x) (w ∷ ws) ≡ b → PassedIf e (ok_if b Cause.State (left i x))
      if_may i x own false may = tt
      if_may i x own true may =
          entered_passes (left i x) refl refl refl refl refl
          (aged_by e t (left i x)
          (status_was t.instances i x (record x { status = Status.Running }) (own_there t i x own).1 refl refl refl
          (λ is. going x.status (suspended (is_suspended x.status) _
          (suspended (may_leave (length t.below) x w) _ may)))) (λ number y at given. given))

      on : (o : Option (ℕ × Instance)) → own_instance t ≡ o → PassedIf e (and_then (found Cause.State o)
          (λ (y : ℕ × Instance). ok_if (list_all (may_leave (length t.below) y.1) (w ∷ ws)) Cause.State
          (left y.0 y.1)))
      on None own = tt
      on (Some y) own = if_may y.0 y.1 own (list_all (may_leave (length t.below) y.1) (w ∷ ws)) refl

  enters_pass : (ws : List Window) → PassedIf e (branch_leaving (elided e).given t label ws)
  enters_pass [] =
      let u = enter_block (elided e).given t label in
      entered_passes u refl refl refl refl refl
      (aged_same t u (λ number y at. at) (λ number y at given. given))
  enters_pass (w ∷ ws) = leaves_pass w ws

  pub edges_pass : IsFine (framed_step (elided e) t).outcome → HavePassedBy e (framed_step (elided e) t)
  edges_pass fine =
      let is = ap (framed_advance (elided e) t) k.runs
      ∙ (ap (λ (x : Fetched). or_undefined (elided e).given t (framed_next (elided e) t x)) (there e t label k)
      ∙ ap (λ (a : Action). or_undefined (elided e).given t (framed_act (elided e) t a)) k.goes) in
      subst (HavePassedBy e) (sym is)
      (or_passed e t (branch_leaving (elided e).given t label (left_windows (elided e).given t label))
      (subst (λ (u : State). IsFine u.outcome) is fine)
      (enters_pass (left_windows (elided e).given t label)))
