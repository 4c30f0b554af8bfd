-- Lemmas on places.
use Rattle.std.proofs.Common.{◌≡◌, ℕ, refl}
use Rattle.ir_model.specs.declared.instr.Terminator.{Terminator}
use Rattle.ir_model.specs.declared.module.Function.{Function}
use Rattle.pass_kept_proof.specs.Needed.{BranchesTo}
use Rattle.pass_early_proof.specs.run_step.Step.{AtInstr, AtTerm, Fetched, Nowhere, fetch}
use Rattle.pass_early_proof.proofs.rule_laws.rules.sources.Places.{IsEnd, term_there}

-- an edge leads from a place to a label
pub branch_there : (f : Function) (block at label : ℕ) → BranchesTo label (fetch f block at) → (t : Terminator) × (IsEnd f block at t × BranchesTo label (AtTerm t))
branch_there f block at label h = on (fetch f block at) refl h
  where
    on : (x : Fetched) → fetch f block at ≡ x → BranchesTo label x → (t : Terminator) × (IsEnd f block at t × BranchesTo label (AtTerm t))
    on Nowhere d k = absurd k
    on (AtInstr i) d k = absurd k
    on (AtTerm t) d k = (t, (term_there f block at t d, k))
