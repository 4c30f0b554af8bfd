-- Lemmas on keepable, that speak of no pass.
use Rattle.std.proofs.Common.{◌≡◌, inl, inr, ℕ, zero, suc, List, [], ◌∷◌, sym, ap, ◌∙◌}
use Rattle.std.specs.Prelude.{Some, map, slice_get}
use Rattle.ir_laws.proofs.facts.Lists.{phi_names}
use Rattle.run_laws.specs.flow_solver.Paths.{IsListed}
use Rattle.run_laws.specs.ir_model.declared.instr.Phi.{Phi}
use Rattle.run_laws.specs.ir_model.declared.module.Param.{Param}

-- ---- names in rows

pub param_listed : (ps : List Param) (at : ℕ) (p : Param) (v : ℕ) → slice_get ps at ≡ Some p → p.name ≡ v → IsListed v (map (λ q. q.name) ps)
param_listed [] at p v e same = absurd (cc)
param_listed (q ∷ ps) zero p v e same = let one : q ≡ p = cc in inl (sym (ap (λ (x : Param). x.name) one ∙ same))
param_listed (q ∷ ps) (suc at) p v e same = inr (param_listed ps at p v e same)

pub phi_listed : (ps : List Phi) (at : ℕ) (p : Phi) (v : ℕ) → slice_get ps at ≡ Some p → p.result ≡ v → IsListed v (phi_names ps)
phi_listed [] at p v e same = absurd (cc)
phi_listed (q ∷ ps) zero p v e same = let one : q ≡ p = cc in inl (sym (ap (λ (x : Phi). x.result) one ∙ same))
phi_listed (q ∷ ps) (suc at) p v e same = inr (phi_listed ps at p v e same)
