-- The labels of a function that breaks no rule, by the limits of any stage.
use Rattle.std.proofs.Common.{◌≡◌, ℕ, ◌+◌, ◌<◌, ◌==◌, inl, true, refl, sym, ap, ◌∙◌, length}
use Rattle.std.specs.List.{list_all}
use Rattle.pass_proofs.specs.flow_solver.Paths.{IsListed}
use Rattle.pass_proofs.proofs.ir_laws.facts.Lists.{row_of}
use Rattle.pass_proofs.proofs.ir_laws.facts.Numbers.{label_of}
use Rattle.pass_proofs.proofs.ir_laws.facts.Truth.{equal_numbers}
use Rattle.pass_proofs.proofs.ir_laws.paths.counted.PartFacts.{all_listed as all_there}
use Rattle.pass_proofs.proofs.ir_laws.paths.edges.Lists.{numbers_different, to_row}
use Rattle.pass_proofs.proofs.ir_laws.paths.edges.Shaped.{any_there}
use Rattle.pass_proofs.proofs.ir_laws.paths.source_rules.Locals.{listed_right}
use Rattle.pass_proofs.proofs.ir_laws.paths.uses.Paths.{place_of}
use Rattle.pass_proofs.proofs.rule_laws.frames.turned.Known.{term_labels}
use Rattle.pass_proofs.proofs.rule_laws.rules.known_labels.Rules.{labels_spelt as targets_are}
use Rattle.pass_proofs.proofs.rule_laws.rules.local_rules.Defined.{label_defined}
use Rattle.pass_proofs.proofs.rule_laws.rules.source_rules.Locals.{block_names, own_label}
use Rattle.pass_proofs.proofs.rule_laws.rules.woven_rules.Once.{names_below}
use Rattle.pass_proofs.proofs.split.edges.Cuttable.{HasBlock}
use Rattle.pass_proofs.proofs.split.edges.Pieces.{labels}
use Rattle.pass_proofs.specs.ir_laws.paths.woven_rules.Pairs.{AreDifferent}
use Rattle.pass_proofs.specs.ir_model.Names.{position_of}
use Rattle.pass_proofs.specs.ir_model.declared.module.Block.{Block}
use Rattle.pass_proofs.specs.ir_model.declared.module.Function.{Function}
use Rattle.pass_proofs.specs.ir_model.declared.module.Module.{Module}
use Rattle.pass_proofs.specs.ir_parts.Contents.{ending_labels}
use Rattle.pass_proofs.specs.ir_parts.Parts.{Ending, instr_place}
use Rattle.pass_proofs.specs.ir_paths.Paths.{targets}
use Rattle.pass_proofs.specs.rule_laws.rules.function_rules.Kept.{KeepsFunctionRulesAt}
use Rattle.pass_proofs.specs.rule_names.Known.{is_label, is_value, names_unknown}
use Rattle.pass_proofs.specs.rule_names.declared.stage.Stage.{Stage}
use Rattle.pass_proofs.specs.rule_uses.Undefined.{params_of}
use Rattle.pass_split_proof.proofs.ready.Rules.{at_ending}

module _ (stage : Stage) (m : Module) (k : ℕ) (f : Function) (x : KeepsFunctionRulesAt stage m k f) where
  pub plain_labels_different : AreDifferent (labels f.blocks)
  plain_labels_different
      = numbers_different label_of f.blocks (λ j n b c d e same. sym (own_label k f x.definitions j b d)
      ∙ ap (position_of f) same ∙ own_label k f x.definitions n c e)

  pub plain_label_low : (b : Block) → IsListed b f.blocks → b.label < length f.names
  plain_label_low b l
      = names_below k f x.tabled b.label (listed_right b.label (params_of f) (row_of block_names f.blocks)
      (to_row block_names f.blocks b b.label l (inl refl)))

  labels_known : (b : Block) → IsListed b f.blocks → list_all (is_label k f) (ending_labels b.term) ≡ true
  labels_known b l =
      let p = place_of f.blocks b l in
      term_labels m k f (instr_place k p.0 (length b.phis + length b.instrs)) (Ending b.term)
      (at_ending k f (names_unknown m (is_value k f) (is_label k f)) x.known p.0 b p.1)

  -- an edge leads to a block
  pub plain_target_known : (b : Block) (label : ℕ) → IsListed b f.blocks → IsListed label (targets b.term)
      → HasBlock f label
  plain_target_known b label l t =
      let known : is_label k f label ≡ true = all_there (is_label k f) (targets b.term)
      (ap (list_all (is_label k f)) (sym (targets_are b.term)) ∙ labels_known b l) label t in
      let c = any_there (λ (c : Block). c.label == label) f.blocks (sym (label_defined label k f) ∙ known) in
      record { block = c.0; listed = c.1.0; has_label = equal_numbers c.0.label label c.1.1 }
