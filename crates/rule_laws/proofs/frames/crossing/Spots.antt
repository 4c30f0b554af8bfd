-- Lemmas on spots, that speak of no pass.
use Rattle.std.proofs.Common.{◌≡◌, ℕ, sym, ◌∙◌, subst}
use Rattle.std.specs.Prelude.{None, slice_get}
use Rattle.ir_laws.specs.flow_solver.Paths.{IsListed}
use Rattle.ir_laws.specs.ir_model.declared.module.Function.{Function}
use Rattle.ir_laws.specs.run_step.Step.{AtInstr, Fetched, Nowhere}
use Rattle.frame_contents.specs.frame_crossing.Paths.{Across, BranchesTo, IsNeeded, Next, OnEdge, Use, used_by}
use Rattle.ir_laws.proofs.paths.crossing.Spots.{nowhere}

-- nothing is needed where nothing stands
pub none_needed : (h : Function) (v q at : ℕ) → IsNeeded h v q at → slice_get h.blocks q ≡ None → ⊥
none_needed h v _ _ (Use q at out used) e = subst (λ (x : Fetched). IsListed v (used_by x)) (nowhere h q at e) used
none_needed h v _ _ (Next q at i out is other rest) e = let both : Nowhere ≡ AtInstr i = sym (nowhere h q at e) ∙ is in absurd (cc)
none_needed h v _ _ (OnEdge q at label out leads used) e = subst (BranchesTo label) (nowhere h q at e) leads
none_needed h v _ _ (Across q at label out leads phis rest) e = subst (BranchesTo label) (nowhere h q at e) leads
