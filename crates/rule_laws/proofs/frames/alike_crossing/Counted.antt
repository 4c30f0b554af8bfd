-- Values of functions whose locals are positions of their tables.
use Rattle.std.proofs.Common.{◌≡◌, ℕ, ◌<◌, inl, inr, List, [], ◌∷◌, length, Some, refl, sym, ◌∙◌, subst}
use Rattle.std.specs.Prelude.{map}
use Rattle.rule_laws.proofs.frames.alike_crossing.Values.{values_hold}
use Rattle.ir_laws.specs.flow_solver.Paths.{IsListed}
use Rattle.ir_parts.specs.Contents.{result_of}
use Rattle.ir_laws.specs.ir_model.declared.instr.Instr.{Instr}
use Rattle.ir_laws.specs.ir_model.declared.instr.Phi.{Phi}
use Rattle.ir_laws.specs.ir_model.declared.module.Block.{Block}
use Rattle.ir_laws.specs.ir_model.declared.module.Function.{Function}
use Rattle.ir_laws.specs.ir_model.declared.module.Param.{Param}
use Rattle.ir_laws.proofs.facts.Members.{at_each as each_at}
use Rattle.ir_laws.specs.run_laws.changed.Changed.{Each, result_of as made_by}
use Rattle.ir_laws.specs.facts.expanded.Tokens.{IsNamedResult}
use Rattle.ir_laws.specs.facts.sound_states.Named.{HasNamedLocals}
use Rattle.frame_contents.specs.frame_crossing.Values.{values_of}

pub same_results : (i : Instr) → result_of i ≡ made_by i
same_results (Instr.Binary name op flags ty a b) = refl
same_results (Instr.Icmp name pred ty a b) = refl
same_results (Instr.Select name x a b) = refl
same_results (Instr.Cast name op nneg arg to) = refl
same_results (Instr.Alloca name ty align) = refl
same_results (Instr.Load name ty p align) = refl
same_results (Instr.Store arg p align) = refl
same_results (Instr.Gep name inbounds ty base indices) = refl
same_results (Instr.Call result must_tail ty callee args) = refl

pub named_params : (n : ℕ) (ps : List Param) → Each (λ (p : Param). p.name < n) ps → (v : ℕ) → IsListed v (map (λ (p : Param). p.name) ps) → v < n
named_params n [] h v l = absurd l
named_params n (p ∷ ps) h v (inl e) = subst (λ (x : ℕ). x < n) (sym e) h.0
named_params n (p ∷ ps) h v (inr l) = named_params n ps h.1 v l

module _ (f : Function) (named : HasNamedLocals f) where
  pub named_phi : (k : ℕ) (b : Block) (j : ℕ) (p : Phi) → Rattle.std.specs.Prelude.slice_get f.blocks k ≡ Some b → Rattle.std.specs.Prelude.slice_get b.phis j ≡ Some p → p.result < length f.names
  named_phi k b j p e d =
      each_at (λ (q : Phi). q.result < length f.names) b.phis j p
      (each_at (λ (c : Block). Each (λ (q : Phi). q.result < length f.names) c.phis) f.blocks k b named.phis e) d

  pub named_instr : (k : ℕ) (b : Block) (j : ℕ) (i : Instr) (v : ℕ) → Rattle.std.specs.Prelude.slice_get f.blocks k ≡ Some b → Rattle.std.specs.Prelude.slice_get b.instrs j ≡ Some i → result_of i ≡ Some v → v < length f.names
  named_instr k b j i v e d r =
      subst (IsNamedResult (length f.names)) (sym (same_results i) ∙ r)
      (each_at (λ (x : Instr). IsNamedResult (length f.names) (made_by x)) b.instrs j i
      (each_at (λ (c : Block). Each (λ (x : Instr). IsNamedResult (length f.names) (made_by x)) c.instrs) f.blocks k b named.results e) d)

  pub values_named : (v : ℕ) → IsListed v (values_of f) → v < length f.names
  values_named = values_hold (λ v. v < length f.names) f (named_params (length f.names) f.params named.params) named_phi (λ k b d j i v e a r. named_instr k b j i v d e r)
