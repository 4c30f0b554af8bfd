-- What begin and allocas make is none of the values that may cross a suspend.
use Rattle.std.proofs.Common.{◌≡◌, ⊎_elim, ℕ, true, false, [], sym, ap, ◌∙◌}
use Rattle.std.specs.Prelude.{Option, Some, slice_get}
use Rattle.rule_laws.proofs.frames.counted.Keepable.{FoundBlock, FoundInstr, blocks_found, distinct_listed, params_found}
use Rattle.ir_laws.proofs.facts.Lists.{FoundParam, FoundPhi}
use Rattle.ir_laws.proofs.paths.counted.Keepable.{param_listed, phi_listed}
use Rattle.ir_laws.proofs.paths.source_rules.Locals.{listed_either}
use Rattle.rule_laws.proofs.rules.source_rules.Locals.{no_param, no_phi, same_instr}
use Rattle.ir_laws.specs.flow_solver.Paths.{IsListed}
use Rattle.ir_parts.specs.Contents.{result_of}
use Rattle.rule_laws.specs.rules.function_rules.Kept.{KeepsFunctionRules}
use Rattle.ir_laws.specs.ir_model.declared.instr.Instr.{Instr}
use Rattle.ir_laws.specs.ir_model.declared.module.Block.{Block}
use Rattle.ir_laws.specs.ir_model.declared.module.Function.{Function}
use Rattle.ir_laws.specs.ir_model.declared.module.Module.{Module}
use Rattle.ir_laws.specs.ir_paths.Windows.{instr_at, instr_in}
use Rattle.ir_laws.specs.ir_paths.declared.point.Point.{Point}
use Rattle.frame_contents.specs.frame_crossing.Values.{all_defined, blocks_defined, is_apart, params_defined, values_of}

module _ (m : Module) (k : ℕ) (f : Function) (rules : KeepsFunctionRules m k f) (v : ℕ) (p : Point) (i : Instr) (here : instr_at f p ≡ Some i) (makes : result_of i ≡ Some v) (apart : is_apart i ≡ true) where
  abbrev point : ℕ → ℕ → Point
  point q at = record { block = q; at = at }

  no_instr : (q : ℕ) (b : Block) → slice_get f.blocks q ≡ Some b → FoundInstr b.instrs v → ⊥
  no_instr q b got x =
      let there : instr_at f (point q x.at) ≡ Some x.instr = ap (λ (o : Option Block). instr_in o x.at) got ∙ x.there in
      let same : x.instr ≡ i = same_instr k f rules.definitions (point q x.at) p x.instr i v there here x.makes makes in
      let t : true ≡ false = sym apart ∙ ap is_apart (sym same) ∙ x.stays in
      absurd (cc)

  in_block : FoundBlock f.blocks v → ⊥
  in_block x =
      ⊎_elim
      (λ (y : FoundPhi x.block.phis v). no_phi k f rules.definitions x.at x.block p i v x.there (phi_listed x.block.phis y.at y.phi v y.there y.same) here makes)
      (no_instr x.at x.block x.there)
      x.part

  in_params : FoundParam f.params v → ⊥
  in_params x = no_param k f rules.definitions p i v here makes (param_listed f.params x.at x.param v x.there x.same)

  pub apart_no_value : IsListed v (values_of f) → ⊥
  apart_no_value h =
      ⊎_elim (λ l. absurd l)
      (λ l. ⊎_elim (λ a. in_params (params_found f.params v a)) (λ r. in_block (blocks_found f.blocks v r)) (listed_either v (params_defined f.params) (blocks_defined f.blocks) l))
      (distinct_listed [] (all_defined f) v h)
