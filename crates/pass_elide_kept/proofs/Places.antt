-- Where both runs stand at an instruction or at the end of a block, the one that gives frames stands at its own place.
use Rattle.std.proofs.Common.{◌≡◌, ◌∙◌, ap, sym, ℕ, length}
use Rattle.std.specs.Prelude.{None, Some, slice_get}
use Rattle.pass_elide_proof.proofs.GivingNone.{front_same, own_same}
use Rattle.pass_elide_proof.proofs.Modules.{finds_alike}
use Rattle.pass_elide_proof.proofs.OwnPlaces.{instr_there}
use Rattle.pass_elide_proof.proofs.Standing.{has_code}
use Rattle.pass_elide_proof.specs.Callers.{StandsAtInstr}
use Rattle.pass_elide_proof.specs.CallersStack.{KeepAllHandles}
use Rattle.pass_elide_proof.specs.Edges.{GivesNone}
use Rattle.pass_elide_proof.specs.Elision.{Elision, elided, framed, function_in, function_in_elided, rooms}
use Rattle.pass_elide_proof.specs.Places.{front_at, instrs_of, own_at, room_at}
use Rattle.pass_elide_proof.specs.pass_proofs.ir_base.declared.outcome.Outcome.{Outcome}
use Rattle.pass_elide_proof.specs.pass_proofs.ir_model.declared.instr.Instr.{Instr}
use Rattle.pass_elide_proof.specs.pass_proofs.ir_model.declared.module.Block.{Block}
use Rattle.pass_elide_proof.specs.pass_proofs.ir_model.declared.module.Function.{Function}
use Rattle.pass_elide_proof.specs.pass_proofs.run_source.State.{function_of}
use Rattle.pass_elide_proof.specs.pass_proofs.run_source.declared.state.State.{State}
use Rattle.pass_elide_proof.specs.pass_proofs.run_step.Step.{AtInstr, AtTerm, fetch}

-- where no call gives a frame, what stands in front of a place is at the place itself
pub front_own : (e : Elision) (func block at n : ℕ) → GivesNone e func
    → n ≡ front_at (rooms e func) (function_in e func) block at
    → n ≡ own_at (rooms e func) (function_in e func) block at
front_own e func block at n none is =
    is
    ∙ (front_same (rooms e func) (function_in e func) none block at
    ∙ sym (own_same (rooms e func) (function_in e func) none block at))

module _ (e : Elision) (s t : State) (func : t.top.func ≡ s.top.func) (outcome : t.outcome ≡ s.outcome)
    (runs : s.outcome ≡ Outcome.Running) (handles : KeepAllHandles e) where
  -- both stand at the same instruction
  pub at_own : (i : Instr) → fetch (function_of (framed e).given s) s.top.block s.top.at ≡ AtInstr i
      → t.top.block ≡ s.top.block
      → t.top.at ≡ own_at (rooms e s.top.func) (function_in e s.top.func) s.top.block s.top.at
      → room_at (rooms e s.top.func) (function_in e s.top.func) s.top.block s.top.at i ≡ None
      → StandsAtInstr e t s.top.at i
  at_own i there block own none = record {
    runs = outcome ∙ runs;
    there = (λ j. slice_get (instrs_of (function_in e (func j)) (block j)) s.top.at)
        ∙ instr_there (function_in e s.top.func) s.top.block s.top.at i there;
    stands = own ∙ (λ j. own_at (rooms e (sym func j)) (function_in e (sym func j)) (sym block j) s.top.at);
    none = (λ j. room_at (rooms e (func j)) (function_in e (func j)) (block j) s.top.at i) ∙ none;
    handles = handles t.top.func;
  }

-- what stands at the end of a block in the run that gives frames
pub term_there : (e : Elision) (t : State) (b : Block)
    → slice_get (function_in e t.top.func).blocks t.top.block ≡ Some b
    → t.top.at ≡ own_at (rooms e t.top.func) (function_in e t.top.func) t.top.block (length b.instrs)
    → fetch (function_of (elided e).given t) t.top.block t.top.at ≡ AtTerm b.term
term_there e t b has stands =
    (λ j. fetch (function_in_elided e t.top.func) t.top.block (stands j))
    ∙ (ap (λ (h : Function). fetch h t.top.block (own_at (rooms e t.top.func) (function_in e t.top.func) t.top.block
    (length b.instrs))) ((finds_alike e).functions t.top.func)
    ∙ (has_code (rooms e t.top.func) (function_in e t.top.func)).term t.top.block b has)
