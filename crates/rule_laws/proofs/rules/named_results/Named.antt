-- What a function defines that breaks no rule of functions are positions of its table of names.
use Rattle.std.proofs.Common.{◌≡◌, inl, inr, ℕ, ◌<◌, List, [], ◌∷◌, length, ap}
use Rattle.std.specs.Prelude.{None, Option, Some, map}
use Rattle.rule_uses.specs.Undefined.{params_of}
use Rattle.ir_laws.specs.run_laws.changed.Changed.{Each, result_of}
use Rattle.ir_laws.specs.facts.expanded.Tokens.{IsNamedResult}
use Rattle.ir_laws.specs.facts.sound_states.Named.{HasNamedLocals}
use Rattle.rule_laws.proofs.rules.source_rules.Locals.{block_names, made_by}
use Rattle.ir_laws.proofs.paths.source_rules.Locals.{listed_left, listed_right}
use Rattle.ir_laws.proofs.facts.Lists.{phi_names, row_of}
use Rattle.rule_laws.specs.rules.source_rules.Named.{HasTabledLocals}
use Rattle.ir_laws.specs.flow_solver.Paths.{IsListed}
use Rattle.rule_laws.proofs.rules.woven_rules.Once.{names_below}
use Rattle.ir_parts.specs.Contents.{result_of as part_result}
use Rattle.ir_laws.specs.ir_model.declared.instr.Instr.{Instr}
use Rattle.ir_laws.specs.ir_model.declared.instr.Phi.{Phi}
use Rattle.ir_laws.specs.ir_model.declared.module.Block.{Block}
use Rattle.ir_laws.specs.ir_model.declared.module.Function.{Function}
use Rattle.ir_laws.specs.ir_model.declared.module.Param.{Param}
use Rattle.rule_laws.proofs.rules.short_names.Sources.{results_below}
use Rattle.ir_laws.proofs.paths.short_names.Sources.{row_listed}
use Rattle.ir_laws.proofs.paths.woven_rules.Unbroken.{each_listed as each_of}
use Rattle.rule_laws.proofs.rules.renamed.Uses.{result_spelt as same_result}

map_listed : {A : Type 0} (g : A → ℕ) (xs : List A) (x : A) → IsListed x xs → IsListed (g x) (map g xs)
map_listed g [] x l = absurd l
map_listed g (y ∷ xs) x (inl e) = inl (ap g e)
map_listed g (y ∷ xs) x (inr l) = inr (map_listed g xs x l)

pub locals_tabled : (k : ℕ) (f : Function) → HasTabledLocals k f → HasNamedLocals f
locals_tabled k f tabled = record {
  params = each_of (λ (p : Param). p.name < length f.names) f.params
      (λ p l. names_below k f tabled p.name (listed_left p.name (params_of f) (row_of block_names f.blocks) (map_listed (λ (x : Param). x.name) f.params p l)));
  phis = each_of (λ (b : Block). Each (λ (p : Phi). p.result < length f.names) b.phis) f.blocks
      (λ b at. each_of (λ (p : Phi). p.result < length f.names) b.phis
      (λ p l. names_below k f tabled p.result
      (listed_right p.result (params_of f) (row_of block_names f.blocks)
      (row_listed block_names f.blocks p.result b at (inr (listed_left p.result (phi_names b.phis) (row_of made_by b.instrs) (map_listed (λ (x : Phi). x.result) b.phis p l)))))));
  results = each_of (λ (b : Block). Each (λ (i : Instr). IsNamedResult (length f.names) (result_of i)) b.instrs) f.blocks
      (λ b at. each_of (λ (i : Instr). IsNamedResult (length f.names) (result_of i)) b.instrs (λ i l. made b i at l (result_of i) (same_result i)));
}
  where
    made : (b : Block) (i : Instr) → IsListed b f.blocks → IsListed i b.instrs → (o : Option ℕ) → part_result i ≡ o → IsNamedResult (length f.names) o
    made b i at l None e = tt
    made b i at l (Some v) e = results_below k f tabled v b i at l e
