-- All the rules together.
use Rattle.std.proofs.Common.{◌≡◌, ℕ, ◌<◌, inl, Some}
use Rattle.std.specs.Prelude.{slice_get}
use Rattle.rule_laws.proofs.rules.local_rules.Names.{numbers}
use Rattle.rule_laws.specs.rules.local_rules.Local.{BreaksNoLocalRuleAt}
use Rattle.ir_laws.specs.flow_solver.Paths.{IsListed}
use Rattle.rule_laws.specs.rules.function_rules.Kept.{KeepsFunctionRulesAt}
use Rattle.ir_laws.specs.ir_model.declared.module.Block.{Block}
use Rattle.ir_laws.specs.ir_model.declared.module.Function.{Function}
use Rattle.ir_laws.specs.ir_model.declared.module.Module.{Module}
use Rattle.rule_laws.proofs.rules.woven_rules.Edges.{edges_woven, same_edges, same_position}
use Rattle.rule_laws.proofs.rules.woven_rules.Instructions.{allocas_woven, closed_woven, extents_woven, misplaced_woven, pointers_woven, transfers_woven}
use Rattle.rule_laws.proofs.rules.woven_rules.Laid.{AreLaidBlocks, AreOnceOrSame, block_once, laid_by}
use Rattle.rule_laws.proofs.rules.woven_rules.Once.{below, definitions_woven, tabled_woven}
use Rattle.rule_laws.proofs.rules.woven_rules.Rules.{calls_woven, depths_woven, known_woven}
use Rattle.rule_laws.proofs.rules.woven_rules.Uses.{uses_woven}
use Rattle.rule_laws.proofs.rules.woven_rules.Values.{marks_woven, values_woven}
use Rattle.rule_laws.specs.rules.woven_rules.Blocks.{IsWoven}
use Rattle.rule_laws.specs.rules.woven_rules.Pairs.{AreIncomingOnce}
use Rattle.rule_laws.specs.rules.woven_rules.Weaving.{Weaving}

module _ (w : Weaving) (m : Module) (k : ℕ) (f g : Function) (h : IsWoven w m f g)
    (keeps : KeepsFunctionRulesAt w.stage m k f)
    (once : (at : ℕ) (b c : Block) → slice_get f.blocks at ≡ Some b → slice_get g.blocks at ≡ Some c
    → AreOnceOrSame b.phis c.phis) where
  old : (v : ℕ) → IsListed v (numbers f) → v < w.first
  old = below w m k f g h keeps.tabled

  blocks : AreLaidBlocks w m f g 0 f.blocks g.blocks
  blocks = laid_by w m f g h old once

  local : BreaksNoLocalRuleAt w.stage m k g
  local =
      record {
        values = values_woven w m f g k h old blocks keeps.local.values keeps.calls keeps.known;
        closed_calls = closed_woven w m f g k blocks keeps.local.closed_calls;
        extents = extents_woven w m f g k blocks keeps.local.extents;
        transfers = transfers_woven w m f g k blocks keeps.local.transfers;
        allocas = allocas_woven w m f g k blocks keeps.local.allocas;
        function_pointers = pointers_woven w m f g k blocks keeps.local.function_pointers;
        misplaced = misplaced_woven w m f g k blocks h.coroutine keeps.local.misplaced;
        marks = marks_woven w m f g k h old blocks keeps.local.marks keeps.known;
      }

  pub rules_woven_by : KeepsFunctionRulesAt w.stage m k g
  rules_woven_by =
      record {
        tabled = tabled_woven w m k f g h keeps.tabled;
        definitions = definitions_woven w m k f g h keeps.tabled keeps.definitions;
        known = known_woven w m f g k h old blocks keeps.known;
        depths = depths_woven w m f g k h old blocks keeps.depths;
        calls = calls_woven w m f g k h old blocks keeps.calls;
        local = local;
        edges = edges_woven w m f g blocks k keeps.edges;
        uses = uses_woven w m f g h (same_edges w m f g blocks) (same_position w m f g blocks) k keeps.uses;
      }

pub rules_woven : (w : Weaving) (m : Module) (k : ℕ) (f g : Function) → IsWoven w m f g
    → KeepsFunctionRulesAt w.stage m k f → AreIncomingOnce f → KeepsFunctionRulesAt w.stage m k g
rules_woven w m k f g h keeps once =
    rules_woven_by w m k f g h keeps (λ at b c there stands. inl (block_once f once at b there))
