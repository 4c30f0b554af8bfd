-- A coro intrinsic of a coroutine that gives a value: its operands are fetched, the framed run gives what stands for
-- the first run's value, and it is stored.
use Rattle.std.proofs.Common.{◌≡◌, ◌+◌, ◌≤◌, ◌∷◌, ◌∙◌, Bool, List, Ok, Option, Some, ap, arith, length, refl, subst, suc, sym, true, zero, ℕ}
use Rattle.pass_frames_code.specs.ir_model.Ty.{Ty}
use Rattle.pass_frames_code.specs.ir_model.declared.instr.Instr.{Instr}
use Rattle.pass_frames_code.specs.ir_model.declared.operand.Arg.{Arg}
use Rattle.pass_frames_code.specs.ir_model.declared.operand.Callee.{Callee}
use Rattle.pass_frames_code.specs.ir_model.declared.operand.Intrinsic.{Intrinsic}
use Rattle.pass_frames_code.specs.ir_model.declared.operand.Operand.{Operand}
use Rattle.pass_frames_code.specs.ir_paths.Windows.{operand_at}
use Rattle.pass_frames_code.specs.pass_cells.Cells.{fetches_of}
use Rattle.pass_frames_code.specs.pass_cells.Written.{stored_result}
use Rattle.pass_frames_code.specs.pass_cells.declared.plan.KeptValue.{KeptValue}
use Rattle.pass_frames_code.specs.pass_fetch.Fetching.{fetched_args}
use Rattle.pass_frames_steps.proofs.asking.Finals.{args_same}
use Rattle.pass_frames_steps.proofs.here.Giving.{given_followed, stand_right}
use Rattle.pass_frames_steps.proofs.here.Line.{never_idle}
use Rattle.pass_frames_steps.proofs.here.State.{cost_here, fetched_here, led_here, runs_here, stand_here}
use Rattle.pass_frames_code.proofs.led.Front.{IsShownLed}
use Rattle.pass_frames_code.proofs.lined.Lines.{framed_does}
use Rattle.pass_frames_code.proofs.stepping.Stands.{renewed_does}
use Rattle.pass_frames_code.specs.Code.{address_state, load_name, slot_table}
use Rattle.pass_frames_code.specs.Costs.{instr_cost}
use Rattle.pass_frames_code.specs.Followed.{IsFollowed}
use Rattle.pass_frames_code.specs.Here.{IsHere}
use Rattle.pass_frames_code.specs.Lined.{lined}
use Rattle.pass_frames_code.specs.Lines.{IsStorable}
use Rattle.pass_frames_code.specs.Meaning.{coroutine_cost, step_cost}
use Rattle.pass_frames_code.specs.Places.{Framing, Placed, plan}
use Rattle.pass_frames_code.specs.Related.{AreBuiltOf, Building, IsKeptValue}
use Rattle.pass_frames_code.specs.Stepping.{AreGiven, placed_front, placed_instr, placed_line, state_in}
use Rattle.pass_frames_code.specs.pass_renewed_proof.Renewed.{RenewedGiven, continue_renewed, renewed_step}
use Rattle.pass_frames_code.specs.run_framed.Framed.{framed_context, framed_coro, framed_step}
use Rattle.pass_frames_code.specs.run_laws.memory.Pointers.{Home, IsValue}
use Rattle.pass_frames_code.specs.run_laws.transfer.Shapes.{ArgStays, Call, Empty, InstrStays, Pair, Pairwise}
use Rattle.pass_frames_code.specs.run_laws.transfer.Transfer.{StandsFor}
use Rattle.pass_frames_code.specs.run_memory.declared.pointer.Value.{Value}
use Rattle.pass_frames_code.specs.run_source.Source.{context_of, coro}
use Rattle.pass_frames_code.specs.run_source.State.{function_of, gives, or_undefined, settled, work_of}
use Rattle.pass_frames_code.specs.run_source.declared.state.Instance.{Instance}
use Rattle.pass_frames_code.specs.run_source.declared.state.State.{State}
use Rattle.pass_frames_code.specs.run_source_tables.Given.{is_true}
use Rattle.pass_frames_code.specs.run_step.Step.{AtInstr, Context, Coro, Work, fetch, intrinsic_call}
use Rattle.pass_frames_code.specs.run_step.Values.{Env, arg_value, arg_values, nth, operand_value, value_in, with_result}
use Rattle.pass_frames_code.specs.run_step.declared.world.World.{World}

-- ---- arguments that stand for the first run's

pub call_args : (R : Operand → Operand → Type 0) (i j : Instr) → InstrStays R i j → (result other : Option ℕ)
    (must_tail must_too : Bool) (ty uy : Option Ty) (c d : Callee) (args now : List Arg)
    → i ≡ Instr.Call result must_tail ty c args → j ≡ Instr.Call other must_too uy d now
    → Pairwise (ArgStays R) args now
call_args R _ _ (Call r m y a e ps qs h k) result other must_tail must_too ty uy c d args now f q =
    let same : ps ≡ args = cc in
    let also : qs ≡ now = cc in
    subst (λ (p : List Arg × List Arg). Pairwise (ArgStays R) p.0 p.1) (λ z. (same z, also z)) k
call_args R _ _ _ result other must_tail must_too ty uy c d args now f q = absurd (cc)

pub pair_stands : (homes : List Home) (c d : Context) (env other : Env) (args now : List Arg)
    → Pairwise (ArgStays (StandsFor true (IsValue homes) c d env other)) args now → (n : ℕ)
    → IsValue homes (nth (arg_values c.code env args) n) (nth (arg_values d.code other now) n)
pair_stands homes c d env other _ _ Empty n = tt
pair_stands homes c d env other _ _ (Pair x y args now h k) zero =
    subst (λ (ty : Ty). IsValue homes (arg_value c.code env x) (operand_value d.code other ty y.value)) (sym h.ty)
    (h.value x.ty)
pair_stands homes c d env other _ _ (Pair x y args now h k) (suc n) = pair_stands homes c d env other args now k n

-- ---- the step

module _ (b : Building) (g : RenewedGiven) (given : AreGiven b g) (s t : State) (r : AreBuiltOf b s t) (i : Intrinsic)
    (result : Option ℕ) (must_tail : Bool) (ty : Option Ty) (args : List Arg)
    (h : IsHere b s (Instr.Call result must_tail ty (Callee.Intrinsic i) args))
    (acts : (c : Context) (w : Work) (args : List Arg) (vs : List Value)
    → intrinsic_call c w i result args vs ≡ Coro i args result)
    (costs : coroutine_cost b g s (Coro i args result)
    ≡ instr_cost (b.framing s.top.func) (record { block = s.top.block; at = s.top.at })) where
  abbrev call : Instr
  call = Instr.Call result must_tail ty (Callee.Intrinsic i) args

  abbrev x : Framing
  x = b.framing s.top.func

  abbrev st : Placed
  st = state_in x s.top.block s.top.at

  abbrev c : Context
  c = context_of g.given s

  abbrev d : Context
  d = framed_context b.given t

  abbrev front : List Instr
  front = placed_front x st call

  abbrev stores : List Instr
  stores = stored_result (plan x) result

  abbrev pub now : List Arg
  now = fetched_args (slot_table x) (address_state st).0 (fetched_args (fetches_of (plan x)) (load_name st) args)

  abbrev pub width : ℕ
  width = length front

  pub shown : IsShownLed r.homes c d (work_of s) (work_of t) (load_name st) call (placed_instr x st call) front
  shown = led_here b g given s t r call h

  abbrev pub S : Work
  S = shown.led.work

  pub same_world : S.world ≡ t.world
  same_world = shown.led.sets.world

  abbrev pub vs : List Value
  vs = arg_values g.given.code s.top.values args

  abbrev pub us : List Value
  us = arg_values b.given.given.code S.values now

  pub argument : (n : ℕ) → IsValue r.homes (nth vs n) (nth us n)
  argument n =
      pair_stands r.homes c d s.top.values S.values args now
      (call_args (StandsFor true (IsValue r.homes) c d s.top.values S.values) call (placed_instr x st call)
      shown.shown result result must_tail must_tail ty ty (Callee.Intrinsic i) (Callee.Intrinsic i) args now refl refl)
      n

  pub literal_there : (n : ℕ) → is_true (operand_at now n) ≡ is_true (operand_at args n)
  literal_there n =
      args_same (slot_table x) (address_state st).0 n (fetched_args (fetches_of (plan x)) (load_name st) args)
      ∙ args_same (fetches_of (plan x)) (load_name st) n args

  there : fetch (function_of b.given.given t) t.top.block (t.top.at + width)
      ≡ AtInstr (Instr.Call result must_tail ty (Callee.Intrinsic i) now)
  there =
      (stand_right (function_of b.given.given t) t.top.block t.top.at front (placed_instr x st call ∷ stores)
      (stand_here b g given s t r call h)).0

  few : length (placed_line x st call) ≤ step_cost b g s s.top.mode
  few =
      subst (λ (n : ℕ). length (placed_line x st call) ≤ n)
      (sym (cost_here b g given s t r call h (Coro i args result) (acts c (work_of s) args vs) costs))
      (same (length (placed_line x st call)))
    where
      same : (n : ℕ) → n ≤ n
      same n = omega arith

  -- the instances may become others
  module _ (xs ys : List Instance)
      (r2 : AreBuiltOf b (record s { instances = xs }) (record t { instances = ys })) (v z : Value)
      (stands : IsValue r2.homes v z) where
    abbrev s2 : State
    s2 = record s { instances = xs }

    abbrev t2 : State
    t2 = record t { instances = ys }

    source_is : coro g.given (continue_renewed g) s i args vs result ≡ Ok (gives (record s { instances = xs }) result v)
        → renewed_step g s ≡ gives s2 result v
    source_is e =
        renewed_does g s (AtInstr call) (Coro i args result) h.runs (fetched_here b g given s t r call h)
        (never_idle (g.flags s.top.func) call h.lined) (acts (context_of g.given s) (work_of s) args vs)
        ∙ ap (or_undefined g.given s) e

    target_is : framed_coro b.given (lined t width S) i now us result
        ≡ Ok (gives (lined (record t { instances = ys }) width S) result z)
        → framed_step b.given (lined t width S)
        ≡ settled (lined t2 width S) (record { world = t.world; values = with_result S.values result z })
    target_is e =
        framed_does b.given (lined t width S) (AtInstr (Instr.Call result must_tail ty (Callee.Intrinsic i) now))
        (Coro i now result) (runs_here b g given s t r call h) there refl
        (acts (framed_context b.given (lined t width S)) (work_of (lined t width S)) now us)
        ∙ ap (or_undefined b.given.given (lined t width S)) e
        ∙ ap (λ (w : World). settled (lined t2 width S) (record {
          world = w;
          values = with_result S.values result z;
        })) same_world

    pub intrinsic_followed : coro g.given (continue_renewed g) s i args vs result
        ≡ Ok (gives (record s { instances = xs }) result v)
        → framed_coro b.given (lined t width S) i now us result
        ≡ Ok (gives (lined (record t { instances = ys }) width S) result z)
        → ((q : ℕ) (k : KeptValue) → result ≡ Some q → IsKeptValue x q k
        → IsStorable k.ty (value_in (with_result s.top.values result v) q)) → IsFollowed b g s t
    intrinsic_followed source target storable =
        given_followed b g given s t r call h refl s.world xs t.world ys r2 v z stands S
        (record { runs = shown.led.runs; still = shown.led.still; sets = shown.led.sets }) storable
        (source_is source) (target_is target) few
