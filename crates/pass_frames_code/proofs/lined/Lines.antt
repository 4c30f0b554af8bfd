-- The framed run goes on behind each instruction of a line that is done.
use Rattle.std.proofs.Common.{◌≡◌, ℕ, zero, suc, ◌+◌, ◌<◌, Bool, true, false, List, [], ◌∷◌, length, refl, sym, ap, ◌∙◌, subst, arith}
use Rattle.std.proofs.lemmas.List.{length-take-le}
use Rattle.std.specs.Prelude.{None, Option, Result, Some, is_some, not, take, unwrap_or}
use Rattle.pass_proofs.specs.ir_base.declared.cause.Cause.{Cause}
use Rattle.pass_proofs.specs.ir_base.declared.outcome.Outcome.{Outcome}
use Rattle.pass_proofs.proofs.ir_laws.facts.Members.{each_turns}
use Rattle.pass_proofs.specs.ir_model.declared.instr.Instr.{Instr}
use Rattle.pass_proofs.specs.ir_model.declared.module.Function.{Function}
use Rattle.pass_proofs.specs.ir_model.declared.operand.Callee.{Callee}
use Rattle.pass_frames_code.proofs.led.Through.{at_each, runs_of}
use Rattle.pass_frames_code.specs.Led.{RunsThrough}
use Rattle.pass_frames_code.specs.Lined.{GivesNone, gives_frame, lined}
use Rattle.pass_proofs.specs.run_framed.Framed.{FramedGiven, enter_given, framed_act, framed_advance, framed_context, framed_next, framed_step, given_call, given_ramp}
use Rattle.pass_proofs.proofs.run_laws.access.Lines.{runs_line}
use Rattle.pass_proofs.specs.run_laws.access.Lines.{GoesOn, Runs, StandAt}
use Rattle.pass_proofs.specs.run_laws.changed.Changed.{Each}
use Rattle.pass_proofs.specs.run_source.State.{function_of, or_undefined, settled, work_of}
use Rattle.pass_proofs.specs.run_source.declared.state.State.{State}
use Rattle.pass_proofs.specs.run_step.Runs.{iterate}
use Rattle.pass_proofs.specs.run_step.Step.{Action, AtInstr, Context, Done, Fetched, Work, action_of, fetch, instr_action}
use Rattle.pass_proofs.specs.run_step.Values.{arg_values}

-- ---- one instruction

-- the machine does what stands at its place, where that is no call which gives a frame
pub framed_does : (h : FramedGiven) (t : State) (here : Fetched) (a : Action) → t.outcome ≡ Outcome.Running
    → fetch (function_of h.given t) t.top.block t.top.at ≡ here → given_call h t here ≡ None
    → action_of (framed_context h t) (work_of t) here ≡ a
    → framed_step h t ≡ or_undefined h.given t (framed_act h t a)
framed_does h t here a runs there given does =
    ap (framed_advance h t) runs
    ∙ ap (λ (x : Fetched). or_undefined h.given t (framed_next h t x)) there
    ∙ ap (λ (o : Option (Result State Cause)). or_undefined h.given t
    (unwrap_or o (framed_act h t (action_of (framed_context h t) (work_of t) here)))) given
    ∙ ap (λ (z : Action). or_undefined h.given t (framed_act h t z)) does

pub no_gift : (h : FramedGiven) (t : State) (i : Instr) → GivesNone h.given.code i → given_call h t (AtInstr i) ≡ None
no_gift h t (Instr.Call r must_tail ty (Callee.Named n) args) e = on (given_ramp h.given.code n) e
  where
    on : (o : Option ℕ) → is_some o ≡ false
        → enter_given h t r (arg_values h.given.code t.top.values args) o ≡ None
    on None e = refl
    on (Some k) e = absurd (cc)
no_gift h t (Instr.Call r must_tail ty (Callee.Allocator n) args) e = refl
no_gift h t (Instr.Call r must_tail ty (Callee.Intrinsic n) args) e = refl
no_gift h t (Instr.Call r must_tail ty (Callee.Local n) args) e = refl
no_gift h t (Instr.Binary r op flags ty a b) e = refl
no_gift h t (Instr.Icmp r pred ty a b) e = refl
no_gift h t (Instr.Select r k a b) e = refl
no_gift h t (Instr.Cast r op nneg a to) e = refl
no_gift h t (Instr.Alloca r ty align) e = refl
no_gift h t (Instr.Load r ty p align) e = refl
no_gift h t (Instr.Store a p align) e = refl
no_gift h t (Instr.Gep r inbounds ty p indices) e = refl

not_true : (b : Bool) → not b ≡ true → b ≡ false
not_true true e = absurd (cc)
not_true false e = refl

not_false : (b : Bool) → b ≡ false → not b ≡ true
not_false true e = absurd (cc)
not_false false e = refl

module _ (h : FramedGiven) (t : State) (runs : t.outcome ≡ Outcome.Running) where
  abbrev C : Context
  C = framed_context h t

  abbrev test : Instr → Bool
  test i = not (gives_frame h.given.code i)

  further : (k : ℕ) (w x : Work) → settled (lined t k w) x ≡ lined t (k + 1) x
  further k w x =
      let e : t.top.at + k + 1 ≡ t.top.at + (k + 1) = omega arith in
      ap (λ (at : ℕ). record t { world = x.world; top = record t.top { at = at; values = x.values } }) e

  one_step : (k : ℕ) (w x : Work) (i : Instr) → fetch C.function t.top.block (t.top.at + k) ≡ AtInstr i
      → test i ≡ true → instr_action C w i ≡ Done x → framed_step h (lined t k w) ≡ lined t (k + 1) x
  one_step k w x i there none does =
      framed_does h (lined t k w) (AtInstr i) (Done x) runs there
      (no_gift h (lined t k w) i (not_true (gives_frame h.given.code i) none)) does
      ∙ further k w x

  goes : GoesOn (framed_step h) (lined t) C t.top.block t.top.at test
  goes = record { next = one_step }

  -- ---- lines

  start : lined t 0 (work_of t) ≡ t
  start =
      let e : t.top.at + 0 ≡ t.top.at = omega arith in
      ap (λ (at : ℕ). record t { world = t.world; top = record t.top { at = at; values = t.top.values } }) e

  line_done : (line : List Instr) (x : Work) → StandAt C.function t.top.block t.top.at line
      → Each (GivesNone h.given.code) line → Runs C line (work_of t) x
      → iterate (framed_step h) (length line) t ≡ lined t (length line) x
  line_done line x stands none r =
      ap (iterate (framed_step h) (length line)) (sym start)
      ∙ runs_line (framed_step h) (lined t) C t.top.block t.top.at test line (work_of t) x goes stands
      (each_turns (GivesNone h.given.code) (λ (i : Instr). test i ≡ true)
      (λ i e. not_false (gives_frame h.given.code i) e) line none) r

stand_some : (f : Function) (block at k : ℕ) (line : List Instr) → StandAt f block at line
    → StandAt f block at (take k line)
stand_some f block at zero line s = tt
stand_some f block at (suc k) [] s = tt
stand_some f block at (suc k) (i ∷ is) s = (s.0, stand_some f block (at + 1) k is s.1)

each_some : {A : Type 0} (P : A → Type 0) (k : ℕ) (xs : List A) → Each P xs → Each P (take k xs)
each_some P zero xs h = tt
each_some P (suc k) [] h = tt
each_some P (suc k) (x ∷ xs) h = (h.0, each_some P k xs h.1)

pub line_leads : (h : FramedGiven) (t : State) (P : Work → Type 0) (line : List Instr) (x : Work)
    → t.outcome ≡ Outcome.Running → StandAt (function_of h.given t) t.top.block t.top.at line
    → Each (GivesNone h.given.code) line → RunsThrough (framed_context h t) P line (work_of t) x
    → iterate (framed_step h) (length line) t ≡ lined t (length line) x
line_leads h t P line x runs stands none r =
    line_done h t runs line x stands none (runs_of (framed_context h t) P line (work_of t) x r)

pub each_between : (h : FramedGiven) (t : State) (P : Work → Type 0) (line : List Instr) (x : Work)
    → t.outcome ≡ Outcome.Running → StandAt (function_of h.given t) t.top.block t.top.at line
    → Each (GivesNone h.given.code) line → RunsThrough (framed_context h t) P line (work_of t) x
    → (k : ℕ) → k < length line → (u : Work) × ((iterate (framed_step h) k t ≡ lined t k u) × P u)
each_between h t P line x runs stands none r k lt =
    let z = at_each (framed_context h t) P line (work_of t) x r k lt in
    let long : length (take k line) ≡ k = length-take-le k line (omega (arith, lt)) in (
      z.0,
      (
        subst (λ (n : ℕ). iterate (framed_step h) n t ≡ lined t n z.0) long
            (line_done h t runs (take k line) z.0
            (stand_some (function_of h.given t) t.top.block t.top.at k line stands)
            (each_some (GivesNone h.given.code) k line none) z.1.0),
        z.1.1,
      ),
    )

-- the states on a line
pub line_last : (h : FramedGiven) (t : State) (line : List Instr) (x : Work) → t.outcome ≡ Outcome.Running
    → StandAt (function_of h.given t) t.top.block t.top.at line → Each (GivesNone h.given.code) line
    → Runs (framed_context h t) line (work_of t) x → iterate (framed_step h) (length line) t ≡ lined t (length line) x
line_last h t line x runs stands none r = line_done h t runs line x stands none r

anything : (c : Context) (line : List Instr) (w x : Work) → Runs c line w x → RunsThrough c (λ u. Unit {0}) line w x
anything c [] w x r = r
anything c (i ∷ is) w x r = (tt, (r.0, (r.1.0, anything c is r.0 x r.1.1)))

pub line_between : (h : FramedGiven) (t : State) (line : List Instr) (x : Work) → t.outcome ≡ Outcome.Running
    → StandAt (function_of h.given t) t.top.block t.top.at line → Each (GivesNone h.given.code) line
    → Runs (framed_context h t) line (work_of t) x → (k : ℕ) → k < length line
    → (u : Work) × (iterate (framed_step h) k t ≡ lined t k u)
line_between h t line x runs stands none r k lt =
    let z = each_between h t (λ u. Unit {0}) line x runs stands none (anything (framed_context h t) line
    (work_of t) x r) k
    lt in
    (z.0, z.1.0)
