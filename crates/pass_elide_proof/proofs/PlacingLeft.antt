-- Records of places at which an activation ends.
use Rattle.std.proofs.Common.{◌≡◌, ℕ, Bool, true, false, List, length, Option, refl, sym, ap, ◌∙◌, subst, ◌==◌}
use Rattle.std.specs.Prelude.{None, Some, slice_get}
use Rattle.pass_elide_proof.proofs.OwnPlaces.{instr_there}
use Rattle.pass_elide_proof.proofs.PlacingEntered.{unput}
use Rattle.pass_elide_proof.proofs.PlacingFacts.{alike_operand, holds_over, no_room, quiet}
use Rattle.pass_elide_proof.specs.Calling.{differing}
use Rattle.pass_elide_proof.specs.Elision.{Elision, Shape, differs_in, framed, function_in}
use Rattle.pass_elide_proof.specs.Match.{held_name, is_given_mode, sides, was_given}
use Rattle.pass_elide_proof.specs.Places.{instrs_in, instrs_of}
use Rattle.pass_elide_proof.specs.Placing.{IsQuietOperand, KeepsPlaces}
use Rattle.pass_elide_proof.specs.Returning.{GoesOnBehind, HaveOwnBlocks, HaveOwnSlots, IsAtLeftEnd, IsAtReturn, ReturnsAlike}
use Rattle.pass_elide_proof.specs.Statement.{AreRelated}
use Rattle.pass_proofs.proofs.ir_laws.facts.Truth.{equal_numbers}
use Rattle.pass_proofs.specs.ir_base.declared.outcome.Outcome.{Outcome}
use Rattle.pass_proofs.specs.ir_model.Names.{is_local}
use Rattle.pass_proofs.specs.ir_model.Ty.{Ty}
use Rattle.pass_proofs.specs.ir_model.declared.instr.Instr.{Instr}
use Rattle.pass_proofs.specs.ir_model.declared.instr.Terminator.{Terminator}
use Rattle.pass_proofs.specs.ir_model.declared.module.Block.{Block}
use Rattle.pass_proofs.specs.ir_model.declared.module.Function.{Function}
use Rattle.pass_proofs.specs.ir_model.declared.operand.Arg.{Arg}
use Rattle.pass_proofs.specs.ir_model.declared.operand.Callee.{Callee}
use Rattle.pass_proofs.specs.ir_model.declared.operand.Intrinsic.{Intrinsic}
use Rattle.pass_proofs.specs.ir_model.declared.operand.Operand.{Operand}
use Rattle.pass_proofs.specs.run_source.State.{function_of}
use Rattle.pass_proofs.specs.run_source.declared.state.Mode.{Mode}
use Rattle.pass_proofs.specs.run_source.declared.state.State.{State}
use Rattle.pass_proofs.specs.run_step.Step.{AtInstr, AtTerm, fetch, fetch_in, fetch_or}

-- ---- a terminator stands behind the instructions of its block

pub record IsEnd (f : Function) (block at : ℕ) (term : Terminator) : Type 0 where
  pub here : Block
  pub has_block : slice_get f.blocks block ≡ Some here
  pub last : at ≡ length here.instrs
  pub is : here.term ≡ term

same_term : (a b : Terminator) → AtTerm a ≡ AtTerm b → a ≡ b
same_term a b e = cc

pub ends : (f : Function) (block at : ℕ) (term : Terminator) → fetch f block at ≡ AtTerm term
    → IsEnd f block at term
ends f block at term there = on (slice_get f.blocks block) refl there
  where
    last : (b : Block) (o : Option Instr) (is_last : Bool) → (at == length b.instrs) ≡ is_last
        → fetch_or o is_last b.term ≡ AtTerm term → (at ≡ length b.instrs) × (b.term ≡ term)
    last b (Some i) is_last e h = absurd (cc)
    last b None true e h = (equal_numbers at (length b.instrs) e, same_term b.term term h)
    last b None false e h = absurd (cc)

    on : (o : Option Block) → slice_get f.blocks block ≡ o → fetch_in o at ≡ AtTerm term → IsEnd f block at term
    on None e h = absurd (cc)
    on (Some b) e h =
        let p = last b (slice_get b.instrs at) (at == length b.instrs) refl h in
        record { here = b; has_block = e; last = p.0; is = p.1 }

-- ---- returns

operand_quiet : (x : Shape) (ramp given : Bool) (a : Operand) → IsQuietOperand x a → (v : ℕ)
    → is_local v a ≡ true → differs_in x ramp given v ≡ false
operand_quiet x ramp given (Operand.Local u) h v is =
    let same = equal_numbers v u is in
    let q = h v (ap Operand.Local (sym same)) in
    quiet x ramp given v q.need (λ r. q.made) q.freed q.tested (λ r. q.passed)
operand_quiet x ramp given _ h v is = absurd (cc)

module _ (e : Elision) (keeps : KeepsPlaces e) (s t : State) where
  abbrev f : Function
  f = function_in e s.top.func

  returns_alike : (value : Option Arg) → ((arg : Arg) → value ≡ Some arg
      → IsQuietOperand (e.shape s.top.func) arg.value) → ReturnsAlike e s t value
  returns_alike None h = tt
  returns_alike (Some arg) h =
      alike_operand (differing e s t) arg.value
      (operand_quiet (e.shape s.top.func) (is_given_mode t.top.mode) (was_given (sides s t) t.top) arg.value
      (h arg refl))

  not_held : (mode : Bool) → (e.shape s.top.func).holds s.top.block s.top.at ≡ None
      → held_name e mode s.top ≡ None
  not_held true none = none
  not_held false none = refl

  pub return_place : AreRelated e s t → (value : Option Arg) → s.outcome ≡ Outcome.Running
      → fetch (function_of (framed e).given s) s.top.block s.top.at ≡ AtTerm (Terminator.Ret value)
      → HaveOwnBlocks s → HaveOwnSlots t → IsAtReturn e s t
  return_place r value runs there ours theirs =
      let end = ends f s.top.block s.top.at (Terminator.Ret value) there in
      let last : s.top.at ≡ length (instrs_of f s.top.block) =
      end.last ∙ sym (ap (λ (o : Option Block). length (instrs_in o)) end.has_block) in
      let plain = keeps.returned s.top.func s.top.block value
      (subst (λ (n : ℕ). fetch f s.top.block n ≡ AtTerm (Terminator.Ret value)) last there) in
      record {
        runs = runs;
        block = end.here;
        has_block = end.has_block;
        at = end.last;
        value = value;
        term = end.is;
        reads = returns_alike value plain.reads;
        held = not_held (is_given_mode t.top.mode)
            (ap ((e.shape s.top.func).holds s.top.block) last ∙ plain.held);
        unput = unput e keeps s.top.func;
        destroyed = keeps.destroyed s.top.func;
        ours = ours;
        theirs = theirs;
        callers = r.callers;
        freed = r.freed;
      }

-- ---- coro.end behind a suspend

module _ (e : Elision) (keeps : KeepsPlaces e) (s : State) (result : Option ℕ) (must_tail : Bool) (ty : Option Ty)
    (args : List Arg) (there : fetch (function_of (framed e).given s) s.top.block s.top.at
    ≡ AtInstr (Instr.Call result must_tail ty (Callee.Intrinsic Intrinsic.CoroEnd) args)) where
  abbrev call : Instr
  call = Instr.Call result must_tail ty (Callee.Intrinsic Intrinsic.CoroEnd) args

  here : slice_get (instrs_of (function_in e s.top.func) s.top.block) s.top.at ≡ Some call
  here = instr_there (function_in e s.top.func) s.top.block s.top.at call there

  pub left_place : (t : State) → s.outcome ≡ Outcome.Running → s.top.has_left ≡ true → IsAtLeftEnd e s t
  left_place t runs left = record {
    runs = runs;
    result = result;
    must_tail = must_tail;
    ty = ty;
    args = args;
    there = here;
    none = no_room e keeps s.top.func s.top.block s.top.at call refl;
    left = left;
  }

  pub goes_behind : s.top.mode ≡ Mode.Ramp → GoesOnBehind e s result
  goes_behind ramp =
      let holds = holds_over e s.top.func s.top.block s.top.at call here refl refl (keeps.shapes s.top.func) in
      let set = λ (v : ℕ) (is : result ≡ Some v).
      (keeps.instrs s.top.func).sets s.top.block s.top.at v call here is in
      record {
        ramp = ramp;
        holds = holds;
        sets = record {
          low = λ v is. (set v is).low;
          need = λ v is. (set v is).need refl;
          freed = λ v is. (set v is).freed refl;
          tested = λ v is. (set v is).tested refl;
          kept = λ v name is held. (set v is).kept name (sym holds ∙ held);
        };
      }
