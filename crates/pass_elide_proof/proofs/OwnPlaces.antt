-- What stands at a place in both runs, and what they do there.
use Rattle.std.proofs.Common.{◌≡◌, ◌≤◌, ◌+◌, ℕ, Bool, true, false, List, [], ◌∷◌, length, Option, Ok, Result, refl, ap, ◌∙◌, arith, ◌==◌}
use Rattle.std.specs.Prelude.{None, Some, slice_get, unwrap_or}
use Rattle.pass_elide.specs.Elided.{elided_function, frame_allocas, function_frames}
use Rattle.pass_elide.specs.declared.given.GivenFrame.{GivenFrame}
use Rattle.pass_elide_proof.proofs.Modules.{finds_alike}
use Rattle.pass_elide_proof.proofs.Sized.{stepped}
use Rattle.pass_elide_proof.proofs.Standing.{has_code}
use Rattle.pass_elide_proof.specs.Elision.{Elision, elided, elided_code, function_in, rooms}
use Rattle.pass_elide_proof.specs.Ordinary.{IsAtOwn}
use Rattle.pass_elide_proof.specs.Places.{Rooms, allocas_ahead, elided_instr, instrs_in, instrs_of, name_at}
use Rattle.pass_proofs.specs.ir_base.declared.cause.Cause.{Cause}
use Rattle.pass_proofs.specs.ir_base.declared.name.Name.{Name}
use Rattle.pass_proofs.specs.ir_base.declared.outcome.Outcome.{Outcome}
use Rattle.pass_proofs.specs.ir_model.Names.{function_at}
use Rattle.pass_proofs.specs.ir_model.Ty.{array, int}
use Rattle.pass_proofs.specs.ir_model.declared.instr.Instr.{Instr}
use Rattle.pass_proofs.specs.ir_model.declared.instr.Terminator.{Terminator}
use Rattle.pass_proofs.specs.ir_model.declared.module.Block.{Block}
use Rattle.pass_proofs.specs.ir_model.declared.module.Function.{Function}
use Rattle.pass_proofs.specs.ir_model.declared.operand.Callee.{Callee}
use Rattle.pass_proofs.specs.run_framed.Framed.{FramedGiven, enter_given, framed_act, framed_context, framed_step, given_call, given_ramp}
use Rattle.pass_proofs.specs.run_laws.changed.Changed.{Each, callee_at}
use Rattle.pass_proofs.specs.run_source.State.{function_of, work_of}
use Rattle.pass_proofs.specs.run_source.declared.state.State.{State}
use Rattle.pass_proofs.specs.run_step.Step.{Action, AtInstr, action_of, fetch, fetch_in, fetch_or}
use Rattle.pass_proofs.specs.run_step.Values.{arg_values}

-- ---- what stands there

fetched_or : (o : Option Instr) (is_last : Bool) (t : Terminator) (i : Instr) → fetch_or o is_last t ≡ AtInstr i
    → o ≡ Some i
fetched_or (Some j) is_last t i e = cc
fetched_or None true t i e = absurd (cc)
fetched_or None false t i e = absurd (cc)

fetched_in : (o : Option Block) (at : ℕ) (i : Instr) → fetch_in o at ≡ AtInstr i → slice_get (instrs_in o) at ≡ Some i
fetched_in None at i e = absurd (cc)
fetched_in (Some b) at i e = fetched_or (slice_get b.instrs at) (at == length b.instrs) b.term i e

pub instr_there : (f : Function) (block at : ℕ) (i : Instr) → fetch f block at ≡ AtInstr i
    → slice_get (instrs_of f block) at ≡ Some i
instr_there f block at i e = fetched_in (slice_get f.blocks block) at i e

module _ (e : Elision) (s t : State) (i : Instr) (own : IsAtOwn e s t i) (func : t.top.func ≡ s.top.func) where
  abbrev f : Function
  f = function_in e s.top.func

  abbrev room : Rooms
  room = rooms e s.top.func

  -- the elided run's activation stands at the same instruction
  pub there_too : fetch (function_of (elided e).given t) t.top.block t.top.at ≡ AtInstr i
  there_too =
      ap (λ (j : ℕ). fetch (function_at (elided_code e) j) t.top.block t.top.at) func
      ∙ (ap (λ (h : Function). fetch h t.top.block t.top.at) ((finds_alike e).functions s.top.func)
      ∙ ((λ j. fetch (elided_function room f) (own.block j) (own.at j))
      ∙ ((has_code room f).instr s.top.block s.top.at i (instr_there f s.top.block s.top.at i own.there)
      ∙ ap (λ (o : Option GivenFrame). AtInstr (elided_instr (name_at room f s.top.block s.top.at) o i)) own.no_room)))

-- ---- what is done there

no_given : (g : FramedGiven) (s : State) (i : Instr)
    → ((n : Name) → callee_at (AtInstr i) ≡ Some n → given_ramp g.given.code n ≡ None)
    → given_call g s (AtInstr i) ≡ None
no_given g s (Instr.Call result must_tail ty (Callee.Named n) args) h =
    ap (enter_given g s result (arg_values g.given.code s.top.values args)) (h n refl)
no_given g s (Instr.Call result must_tail ty (Callee.Allocator a) args) h = refl
no_given g s (Instr.Call result must_tail ty (Callee.Intrinsic j) args) h = refl
no_given g s (Instr.Call result must_tail ty (Callee.Local v) args) h = refl
no_given g s (Instr.Binary r op flags ty a b) h = refl
no_given g s (Instr.Icmp r pred ty a b) h = refl
no_given g s (Instr.Select r y a b) h = refl
no_given g s (Instr.Cast r op nneg a to) h = refl
no_given g s (Instr.Alloca r ty align) h = refl
no_given g s (Instr.Load r ty p align) h = refl
no_given g s (Instr.Store a p align) h = refl
no_given g s (Instr.Gep r inbounds ty p indices) h = refl

-- an action that gives a state
pub acts : (g : FramedGiven) (s u : State) (i : Instr) (a : Action) → s.outcome ≡ Outcome.Running
    → fetch (function_of g.given s) s.top.block s.top.at ≡ AtInstr i
    → ((n : Name) → callee_at (AtInstr i) ≡ Some n → given_ramp g.given.code n ≡ None)
    → action_of (framed_context g s) (work_of s) (AtInstr i) ≡ a → framed_act g s a ≡ Ok u → framed_step g s ≡ u
acts g s u i a runs there none is does =
    stepped g s u (AtInstr i) runs there
    (ap (λ (o : Option (Result State Cause)). unwrap_or o (framed_act g s (action_of (framed_context g s) (work_of s)
    (AtInstr i))))
    (no_given g s i none)
    ∙ (ap (framed_act g s) is ∙ does))

-- ---- names of allocas that are put in front

-- the name isn't one of the function's
abbrev pub IsNewName : ℕ → Instr → Type 0
IsNewName from i = (name size align : ℕ) → i ≡ Instr.Alloca name (array size (int 8)) align → from ≤ name

names_new : (from n : ℕ) (rs : List GivenFrame) → from ≤ n → Each (IsNewName from) (frame_allocas n rs)
names_new from n [] le = tt
names_new from n (GivenFrame.Alloca size align ∷ rs) le = (
  λ name s a is. let same : n ≡ name = cc in omega (arith, le, same),
  names_new from (n + 1) rs (omega (arith, le)),
)
names_new from n (GivenFrame.Field base distance ∷ rs) le = names_new from (n + 1) rs (omega (arith, le))

pub ahead_new : (room : Rooms) (f : Function) → Each (IsNewName (length f.names)) (allocas_ahead room f)
ahead_new room f = names_new (length f.names) (length f.names) (function_frames room f) (omega arith)
