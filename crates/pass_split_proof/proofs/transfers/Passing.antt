-- Behind a transfer the framed run comes over the suspend and its switch to the end, while the part stays.
use Rattle.std.proofs.Common.{◌≡◌, ℕ, ◌+◌, ◌<◌, ◌≤◌, Bool, true, false, List, [], ◌∷◌, length, Option, Some, Result, Ok, refl, sym, ap, ◌∙◌, subst, ⊎_elim, arith}
use Rattle.std.specs.Prelude.{is_some, negsuc, slice_get}
use Rattle.std.proofs.lemmas.Bool.{cases_eq, eqb-true, false≢true}
use Rattle.pass_proofs.specs.ir_base.declared.cause.Cause.{Cause}
use Rattle.pass_proofs.specs.ir_model.Names.{is_local, position_of}
use Rattle.pass_proofs.specs.ir_model.Ty.{Ty}
use Rattle.pass_proofs.specs.ir_model.declared.instr.Case.{Case}
use Rattle.pass_proofs.specs.ir_model.declared.instr.Instr.{Instr}
use Rattle.pass_proofs.specs.ir_model.declared.instr.Phi.{Phi}
use Rattle.pass_proofs.specs.ir_model.declared.instr.Terminator.{Terminator}
use Rattle.pass_proofs.specs.ir_model.declared.module.Function.{Function}
use Rattle.pass_proofs.specs.ir_model.declared.module.Module.{Module}
use Rattle.pass_proofs.specs.ir_model.declared.operand.Arg.{Arg}
use Rattle.pass_proofs.specs.ir_model.declared.operand.Callee.{Callee}
use Rattle.pass_proofs.specs.ir_model.declared.operand.Intrinsic.{Intrinsic}
use Rattle.pass_proofs.specs.ir_model.declared.operand.Operand.{Operand}
use Rattle.pass_proofs.specs.ir_paths.Windows.{call_result, end_block, operand_at}
use Rattle.pass_proofs.specs.pass_intrinsics.Cuts.{goes_on, token_in}
use Rattle.pass_proofs.specs.pass_intrinsics.Shapes.{is_end, save_of, token_of}
use Rattle.pass_proofs.specs.pass_intrinsics.declared.shape.Part.{Part}
use Rattle.pass_proofs.specs.pass_intrinsics.declared.shape.Shape.{Shape}
use Rattle.pass_split_proof.proofs.simulation.Knowing.{goes_knows, left_places}
use Rattle.pass_split_proof.proofs.places.Transfers.{end_first}
use Rattle.pass_split_proof.proofs.steps.Branches.{left_by}
use Rattle.pass_split_proof.proofs.steps.Followed.{fine_ok, framed_does, none_followed}
use Rattle.pass_split_proof.proofs.steps.Saves.{set_there}
use Rattle.pass_split_proof.proofs.transfers.Ends.{ends_followed}
use Rattle.pass_split_proof.proofs.transfers.Stayed.{end_less_ahead, one_less_ahead, stays_related}
use Rattle.pass_split_proof.proofs.transfers.Stop.{at_end_block, switch_stops}
use Rattle.pass_split_proof.specs.places.Places.{IsCodeOf, IsStop, OfCoroutine, OfPlain, StartsWithEnd}
use Rattle.pass_split_proof.specs.simulation.Followed.{IsFollowed}
use Rattle.pass_split_proof.specs.states.Activations.{AtEnd, AtSuspend, AtSwitch, IsBehind, IsBehindTransfer, IsLeaving, IsPlaced, Passed, RunsPart, is_entering}
use Rattle.pass_split_proof.specs.states.Going.{goes_to, moved_to}
use Rattle.pass_split_proof.specs.states.Memories.{homes_of}
use Rattle.pass_split_proof.specs.states.Related.{AreRelated, credit_of}
use Rattle.pass_split_proof.specs.states.Values.{AreValuesOf, IsStopResult}
use Rattle.pass_split_proof.specs.steps.Branches.{Entered, Stayed}
use Rattle.pass_split_proof.specs.transfers.Passing.{IsPassing}
use Rattle.pass_proofs.proofs.rule_laws.rules.source_rules.Locals.{result_below}
use Rattle.pass_proofs.proofs.rule_laws.rules.sources.Places.{instr_there}
use Rattle.pass_proofs.specs.rule_shape.Suspends.{is_suspend}
use Rattle.pass_proofs.specs.rule_shape.Switches.{are_both}
use Rattle.pass_proofs.specs.run_agreement.Machines.{IsFine}
use Rattle.pass_proofs.specs.run_framed.Framed.{FramedGiven, framed_step}
use Rattle.pass_proofs.proofs.run_laws.transfer.Sets.{set_elsewhere, set_length}
use Rattle.pass_proofs.specs.run_laws.changed.Changed.{result_of}
use Rattle.pass_proofs.specs.run_laws.memory.Pointers.{IsValue}
use Rattle.pass_proofs.specs.run_memory.declared.pointer.Value.{Value}
use Rattle.run_access_worked.specs.run_plain.Plain.{PlainGiven, plain_function}
use Rattle.run_access_worked.specs.run_plain.declared.state.PlainState.{PlainState}
use Rattle.pass_proofs.specs.run_source.Source.{go_to, left_windows, save_before}
use Rattle.pass_proofs.specs.run_source.State.{function_of, gives, or_undefined}
use Rattle.pass_proofs.specs.run_source.declared.state.Mode.{Mode}
use Rattle.pass_proofs.specs.run_source.declared.state.State.{State}
use Rattle.pass_proofs.specs.run_step.Results.{and_then}
use Rattle.pass_proofs.specs.run_step.Step.{AtInstr, AtTerm, Coro, GoTo, fetch, label_of, phi_values, with_all}
use Rattle.pass_proofs.specs.run_step.Values.{Env, arg_value, integer, operand_value, value_in, with_value}

-- ---- a suspend with a token

record IsSuspendCall (i : Instr) : Type 0 where
  result : Option ℕ
  must_tail : Bool
  ty : Option Ty
  args : List Arg
  is : i ≡ Instr.Call result must_tail ty (Callee.Intrinsic Intrinsic.CoroSuspend) args

suspend_call : (i : Instr) → is_suspend i ≡ true → IsSuspendCall i
suspend_call (Instr.Call result must_tail ty (Callee.Intrinsic Intrinsic.CoroSuspend) args) e
    = record { result = result; must_tail = must_tail; ty = ty; args = args; is = refl }
suspend_call _ e = absurd (cc)

-- saves nothing
no_save_at : (s : State) (x : Operand) → is_some (token_of x) ≡ true → save_before s x ≡ Ok s
no_save_at s (Operand.Local v) e = refl
no_save_at s _ e = absurd (cc)

no_save : (s : State) (args : List Arg) → is_some (save_of args) ≡ true → save_before s (operand_at args 0) ≡ Ok s
no_save s [] e = absurd (cc)
no_save s (a ∷ args) e = no_save_at s a.value e

local_is : (v : ℕ) (x : Operand) → is_local v x ≡ true → x ≡ Operand.Local v
local_is v (Operand.Local u) e = ap Operand.Local (sym (eqb-true v u e))
local_is v _ e = absurd (cc)

no_instr : {t : Terminator} {i : Instr} → AtTerm t ≡ AtInstr i → ⊥
no_instr e = absurd (cc)

one_instr : {i j : Instr} → AtInstr i ≡ AtInstr j → i ≡ j
one_instr e = cc

-- no suspend is an end
never_both : (i : Instr) → is_end i ≡ true → is_suspend i ≡ true → ⊥
never_both (Instr.Call result must_tail ty (Callee.Intrinsic Intrinsic.CoroSuspend) args) e sus = absurd (cc)
never_both _ e sus = absurd (cc)

-- ---- what the rules give of a coroutine

record HasEnd (f : Function) (end : ℕ) : Type 0 where
  starts : StartsWithEnd f end
  at : position_of f end ≡ end_block f
  below : (block at v : ℕ) (i : Instr) → fetch f block at ≡ AtInstr i → result_of i ≡ Some v → v < length f.names

has_end : (f q : Function) (sh : Shape) (part : Part) → IsCodeOf f q sh part → goes_on part ≡ true → HasEnd f sh.end
has_end f q _ _ (OfCoroutine m k layout begin part x is) goes = record {
  starts = end_first m k f begin layout x;
  at = at_end_block m k f begin x layout;
  below = λ block at v i here e. result_below k f x.rules.tabled (record { block = block; at = at }) i v
      (instr_there f block at i here) e;
}
has_end f q _ _ (OfPlain m k plain keeps is) goes = absurd (false≢true goes)

goes_on_by : (part : Part) (mode : Mode) → RunsPart mode part → mode ≡ Mode.Resumed → goes_on part ≡ true
goes_on_by part mode runs e = subst (λ (y : Mode). RunsPart y part) e runs

module _ (g : FramedGiven) (h : PlainGiven) (s : State) (t : PlainState) (r : AreRelated g h s t)
    (k : IsPassing g h s t r) (fine : IsFine (framed_step g s).outcome) where
  abbrev f : Function
  f = function_of g.given s

  abbrev q : Function
  q = plain_function h t

  abbrev end : ℕ
  end = r.top.shape.end

  settled : is_entering s.top.mode ≡ false
  settled = ap is_entering k.mode

  has : HasEnd f end
  has = has_end f q r.top.shape r.top.part r.top.coded (goes_on_by r.top.part s.top.mode r.top.runs k.mode)

  same : (n : ℕ) → n ≤ n
  same n = omega arith

  -- the part stays where it is, while the framed run leaves the suspend
  onward : (at block : ℕ) → ((i : Instr) → fetch f block at ≡ AtInstr i → is_suspend i ≡ true → ⊥)
      → IsBehindTransfer r.top.shape f q block at t.top.block t.top.at
  onward at block none = record {
    number = k.waits.number;
    stands = k.waits.stands;
    returns = k.waits.returns;
    suspends = λ i there sus. absurd (none i there sus);
  }

  -- ---- over the suspend

  module _ (i : Instr) (here : fetch f s.top.block s.top.at ≡ AtInstr i) (is : is_suspend i ≡ true)
      (stop : IsStop f s.top.block s.top.at i end) where
    call : IsSuspendCall i
    call = suspend_call i is

    abbrev minus : Value
    minus = integer 8 (negsuc 0)

    named : call.result ≡ Some stop.result
    named = sym (ap call_result call.is) ∙ stop.named

    written : i ≡ Instr.Call (Some stop.result) call.must_tail call.ty
        (Callee.Intrinsic Intrinsic.CoroSuspend) call.args
    written = call.is ∙ ap (λ (o : Option ℕ). Instr.Call o call.must_tail call.ty
        (Callee.Intrinsic Intrinsic.CoroSuspend) call.args) named

    token : is_some (save_of call.args) ≡ true
    token = sym (ap (λ (j : Instr). is_some (token_in j)) call.is) ∙ k.suspends.saved s.top.block s.top.at i here is

    abbrev values : Env
    values = with_value s.top.values stop.result minus

    over : framed_step g s ≡ goes_to s s.world s.instances s.top.block (s.top.at + 1) values s.top.has_left
    over = framed_does g s (AtInstr (Instr.Call (Some stop.result) call.must_tail call.ty
        (Callee.Intrinsic Intrinsic.CoroSuspend) call.args))
        (Coro Intrinsic.CoroSuspend call.args (Some stop.result)) k.running (here ∙ ap AtInstr written) refl refl
        ∙ ap (λ (z : Result State Cause). or_undefined g.given s (and_then z (λ (u : State).
        Ok (gives u (Some stop.result) minus)))) (no_save s call.args token)

    low : stop.result < length s.top.values
    low = subst (λ (l : ℕ). stop.result < l) (sym r.top.whole) (has.below s.top.block s.top.at stop.result
        (Instr.Call (Some stop.result) call.must_tail call.ty (Callee.Intrinsic Intrinsic.CoroSuspend) call.args)
        (here ∙ ap AtInstr written) refl)

    stop_result : IsStopResult f stop.result
    stop_result = record {
      block = s.top.block;
      at = s.top.at;
      must_tail = call.must_tail;
      ty = call.ty;
      args = call.args;
      there = here ∙ ap AtInstr written;
    }

    stand : AreValuesOf f (homes_of s.world.memory) values t.top.values
    stand = record {
      each = λ v other. ⊎_elim
          (λ e. absurd (other (subst (IsStopResult f) e stop_result)))
          (λ ne. subst (λ (x : Value). IsValue (homes_of s.world.memory) x (value_in t.top.values v))
          (sym (set_elsewhere s.top.values stop.result v minus ne)) (r.top.values.each v other))
          (cases_eq stop.result v);
      room = subst (λ (l : ℕ). l ≤ length t.top.values) (sym (set_length s.top.values stop.result minus))
          r.top.values.room;
    }

    value : arg_value g.given.code values stop.arg ≡ minus
    value = ap (operand_value g.given.code values stop.arg.ty) (local_is stop.result stop.arg.value stop.on)
        ∙ set_there s.top.values stop.result minus low

    pub over_followed : IsFollowed g h s t
    over_followed = none_followed g h s t r k.running
        (goes_to s s.world s.instances s.top.block (s.top.at + 1) values s.top.has_left) over (same (credit_of s))
        (one_less_ahead f s.top.block s.top.at i here)
        (stays_related g h s t r values s.instances s.top.block (s.top.at + 1) s.top.has_left settled Stayed stand
        (set_length s.top.values stop.result minus)
        (subst (λ (mode : Mode). IsPlaced r.top.shape r.top.part f q
        (moved_to s.top s.top.block (s.top.at + 1) values s.top.has_left) t.top mode) (sym k.mode)
        (Passed (onward (s.top.at + 1) s.top.block (λ j there sus. no_instr (sym stop.switch ∙ there)))
        (AtSwitch g.given.code stop.arg stop.cases
        (record { before = s.top.at; at = refl; instr = i; there = here; is = is }) stop.switch stop.both value))))
        (λ know. know)

  -- ---- over the switch

  module _ (m : Module) (arg : Arg) (cases : List Case) (before : IsBehind f true s.top)
      (here : fetch f s.top.block s.top.at ≡ AtTerm (Terminator.Switch arg end cases)) (both : are_both cases ≡ true)
      (is : arg_value m s.top.values arg ≡ integer 8 (negsuc 0)) where
    does : framed_step g s ≡ or_undefined g.given s (go_to g.given s end)
    does = framed_does g s (AtTerm (Terminator.Switch arg end cases)) (GoTo end) k.running here refl
        (switch_stops g.given.code m s.top.values arg end cases is both)

    next : (u : State) × (go_to g.given s end ≡ Ok u)
    next = fine_ok g.given s (go_to g.given s end) (subst (λ (x : State). IsFine x.outcome) does fine)

    entered : Entered g.given s end next.0
    entered = left_by g.given s next.0 end (left_windows g.given s end) next.1

    abbrev after : State
    after = goes_to s s.world entered.instances (position_of f end) 0 s.top.values entered.left

    over_switch : framed_step g s ≡ after
    over_switch = does ∙ ap (or_undefined g.given s) next.1 ∙ entered.is
        ∙ ap (λ (ps : List Phi). goes_to s s.world entered.instances (position_of f end) 0
        (with_all s.top.values (phi_values g.given.code s.top.values (label_of (slice_get f.blocks s.top.block)) ps))
        entered.left) has.starts.bare

    -- the suspend stands in another block
    elsewhere : s.top.block ≡ end_block f → ⊥
    elsewhere e = k.suspends.elsewhere before.before before.instr
        (ap (λ (b : ℕ). fetch f b before.before) (has.at ∙ sym e) ∙ before.there) before.is

    pub stop_followed : IsFollowed g h s t
    stop_followed = none_followed g h s t r k.running after over_switch (same (credit_of s))
        (end_less_ahead f s.top.block s.top.at (position_of f end) has.at elsewhere)
        (stays_related g h s t r s.top.values entered.instances (position_of f end) 0 entered.left settled entered.was
        r.top.values refl
        (subst (λ (mode : Mode). IsPlaced r.top.shape r.top.part f q
        (moved_to s.top (position_of f end) 0 s.top.values entered.left) t.top mode) (sym k.mode)
        (Passed (onward 0 (position_of f end) (λ j there sus. never_both j
        (ap is_end (one_instr (sym there ∙ has.starts.here)) ∙ has.starts.ends) sus)) (AtEnd refl refl))))
        (λ know. goes_knows g s t entered.instances s.world.memory t.top.values (record { each = λ b e. refl })
        (left_places s.world.memory s.instances entered.instances entered.was) know (λ frame e. refl))

  -- ---- all three

  by_place : IsLeaving f end s.top → IsFollowed g h s t
  by_place (AtSuspend i here is stop) = over_followed i here is stop
  by_place (AtSwitch m arg cases before here both is) = stop_followed m arg cases before here both is
  by_place (AtEnd block at) = ends_followed g h s t r (record {
    running = k.running;
    mode = k.mode;
    end = has.starts.first;
    there = ap (λ (p : ℕ × ℕ). fetch f p.0 p.1) (λ j. (block j, at j)) ∙ has.starts.here;
    ends = has.starts.ends;
    returns = k.waits.returns;
  })

  pub passing_followed : IsFollowed g h s t
  passing_followed = by_place k.leaving
