-- Where a resumed activation is at its end, and the part at the same place, the part returns.
use Rattle.std.proofs.Common.{◌≡◌, ℕ, Bool, true, List, Option, None, refl, sym, ap, ◌∙◌, subst, if◌then◌else◌}
use Rattle.std.proofs.lemmas.Bool.{false≢true}
use Rattle.pass_proofs.specs.ir_base.declared.outcome.Outcome.{Outcome}
use Rattle.pass_proofs.specs.ir_model.Names.{function_at}
use Rattle.pass_proofs.specs.ir_model.Ty.{Ty}
use Rattle.pass_proofs.specs.ir_model.declared.instr.Instr.{Instr}
use Rattle.pass_proofs.specs.ir_model.declared.instr.Terminator.{Terminator}
use Rattle.pass_proofs.specs.ir_model.declared.module.Function.{Function}
use Rattle.pass_proofs.specs.ir_model.declared.operand.Arg.{Arg}
use Rattle.pass_proofs.specs.ir_model.declared.operand.Callee.{Callee}
use Rattle.pass_proofs.specs.ir_model.declared.operand.Intrinsic.{Intrinsic}
use Rattle.pass_proofs.specs.pass_intrinsics.Cuts.{cut_at, goes_on}
use Rattle.pass_proofs.specs.pass_intrinsics.declared.cuts.Cut.{Cut}
use Rattle.pass_proofs.specs.pass_intrinsics.declared.shape.Part.{Part}
use Rattle.pass_proofs.specs.pass_intrinsics.declared.shape.Shape.{Shape}
use Rattle.pass_split_proof.proofs.giving.Constants.{not_again}
use Rattle.pass_split_proof.proofs.places.Coded.{has_code}
use Rattle.pass_split_proof.proofs.transfers.Ends.{ends_followed}
use Rattle.pass_split_proof.specs.giving.Intrinsics.{IsAtIntrinsic}
use Rattle.pass_split_proof.specs.places.Places.{BeginsAgain, HasCode, IsCode, Marks, Returns, Stays, Suspends, Transfers}
use Rattle.pass_split_proof.specs.simulation.Followed.{IsFollowed}
use Rattle.pass_split_proof.specs.states.Activations.{RunsPart}
use Rattle.pass_split_proof.specs.states.Related.{AreRelated}
use Rattle.pass_split_proof.specs.transfers.Passing.{IsAtEnd}
use Rattle.pass_proofs.specs.run_framed.Framed.{FramedGiven}
use Rattle.run_access_worked.specs.run_plain.Plain.{PlainGiven}
use Rattle.run_access_worked.specs.run_plain.declared.state.PlainState.{PlainState}
use Rattle.pass_proofs.specs.run_source.State.{function_of}
use Rattle.pass_proofs.specs.run_source.declared.state.Mode.{Mode}
use Rattle.pass_proofs.specs.run_source.declared.state.State.{State}
use Rattle.pass_proofs.specs.run_step.Step.{AtTerm, fetch}

abbrev at_end : Option ℕ → Bool → Option Ty → List Arg → Instr
at_end result must_tail ty args = Instr.Call result must_tail ty (Callee.Intrinsic Intrinsic.CoroEnd) args

-- in a part that goes on the end returns
cut_returns : (s : Shape) (part : Part) (result : Option ℕ) (must_tail : Bool) (ty : Option Ty) (args : List Arg)
    (after : List Instr) → goes_on part ≡ true → cut_at s part (at_end result must_tail ty args) after ≡ Cut.Returns
cut_returns s part result must_tail ty args after e = ap (λ (b : Bool). if b then Cut.Returns else Cut.Stays) e

returns_there : (s : Shape) (part : Part) (f q : Function) (block at piece offset : ℕ) (result : Option ℕ)
    (must_tail : Bool) (ty : Option Ty) (args : List Arg) (after : List Instr) (t : Terminator) → goes_on part ≡ true
    → IsCode s part f q block at piece offset (at_end result must_tail ty args) after t
    → fetch q piece offset ≡ AtTerm (Terminator.Ret None)
returns_there s part f q block at piece offset result must_tail ty args after t goes (Returns again cuts ret) = ret
returns_there s part f q block at piece offset result must_tail ty args after t goes (Stays n again cuts new line place)
    = absurd (other (sym (cut_returns s part result must_tail ty args after goes) ∙ cuts))
  where
    other : Cut.Returns ≡ Cut.Stays → ⊥
    other e = cc
returns_there s part f q block at piece offset result must_tail ty args after t goes
    (Marks n mark again cuts new line bare place)
    = absurd (other (sym (cut_returns s part result must_tail ty args after goes) ∙ cuts))
  where
    other : Cut.Returns ≡ Cut.Marks mark → ⊥
    other e = cc
returns_there s part f q block at piece offset result must_tail ty args after t goes (Suspends again cuts jump)
    = absurd (other (sym (cut_returns s part result must_tail ty args after goes) ∙ cuts))
  where
    other : Cut.Returns ≡ Cut.Suspends → ⊥
    other e = cc
returns_there s part f q block at piece offset result must_tail ty args after t goes
    (Transfers n j again cuts new jump bare line)
    = absurd (other (sym (cut_returns s part result must_tail ty args after goes) ∙ cuts))
  where
    other : Cut.Returns ≡ Cut.Transfers j → ⊥
    other e = cc
returns_there s part f q block at piece offset result must_tail ty args after t goes (BeginsAgain again stops)
    = absurd (false≢true (sym (not_again part (at_end result must_tail ty args) refl) ∙ again))

module _ (g : FramedGiven) (h : PlainGiven) (s : State) (t : PlainState) (r : AreRelated g h s t)
    (running : s.outcome ≡ Outcome.Running) (mode : s.top.mode ≡ Mode.Resumed)
    (k : IsAtIntrinsic g h s t r Intrinsic.CoroEnd) where
  abbrev f : Function
  f = function_of g.given s

  abbrev q : Function
  q = function_at h.code t.top.func

  abbrev here : Instr
  here = at_end k.result k.must_tail k.ty k.args

  goes : goes_on r.top.part ≡ true
  goes = subst (λ (m : Mode). RunsPart m r.top.part) mode r.top.runs

  code : HasCode r.top.shape r.top.part f q s.top.block s.top.at t.top.block t.top.at here
  code = has_code r.top.shape r.top.part f q s.top.block s.top.at t.top.block t.top.at here k.place k.there

  returning : IsAtEnd g h s t
  returning = record {
    running = running;
    mode = mode;
    end = here;
    there = k.there;
    ends = refl;
    returns = returns_there r.top.shape r.top.part f q s.top.block s.top.at t.top.block t.top.at k.result k.must_tail
        k.ty k.args code.after code.end goes code.code;
  }

  pub inside_followed : IsFollowed g h s t
  inside_followed = ends_followed g h s t r returning
