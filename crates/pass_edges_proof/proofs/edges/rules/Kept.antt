-- Blocks on edges break none of the rules of functions.
use Rattle.std.proofs.Common.{ℕ, None, true, ◌≡◌, List}
use Rattle.std.specs.Prelude.{◌↔◌}
use Rattle.pass_edges_proof.specs.edges.paths.Spots.{moved}
use Rattle.pass_early_proof.specs.rule_shape.Switches.{wrong_switch}
use Rattle.pass_early_proof.proofs.rule_laws.rules.source_rules.Locals.{own_label}
use Rattle.pass_early_proof.specs.ir_laws.paths.threads.Labels.{HasNamedLabels}
use Rattle.pass_edges_proof.specs.edges.paths.Phis.{AreLabelsOnce}
use Rattle.pass_edges_proof.proofs.edges.rules.Alive.{alive_stays}
use Rattle.pass_edges_proof.proofs.edges.rules.Crossing.{crossing_stays}
use Rattle.pass_edges_proof.proofs.edges.rules.Edges.{edges_kept}
use Rattle.pass_edges_proof.proofs.edges.rules.Local.{calls_kept, depths_kept, known_kept, local_kept}
use Rattle.pass_edges_proof.proofs.edges.rules.Names.{names_once, names_tabled}
use Rattle.pass_edges_proof.proofs.edges.rules.Once.{entered_by_jumps, incoming_once}
use Rattle.pass_edges_proof.proofs.edges.rules.Returns.{have_own_blocks}
use Rattle.pass_edges_proof.proofs.edges.rules.Suspends.{own_returns}
use Rattle.pass_edges_proof.proofs.edges.rules.Uses.{uses_kept}
use Rattle.pass_edges_proof.specs.edges.rules.Phis.{ArePhisEnteredByJumps}
use Rattle.pass_edges_proof.specs.edges.rules.Returns.{HaveOwnBlocks}
use Rattle.pass_early_proof.specs.rule_laws.frames.rows.Returns.{HaveOwnReturns}
use Rattle.pass_edges.specs.EdgeBlocks.{with_edge_blocks}
use Rattle.pass_early_proof.proofs.rule_laws.rules.known_labels.Known.{labels_known}
use Rattle.pass_edges_proof.proofs.edges.sources.Rules.{rules_kept as keeps_edges}
use Rattle.pass_early_proof.specs.rule_laws.rules.function_rules.Kept.{KeepsFunctionRules}
use Rattle.ir_model.specs.declared.module.Function.{Function}
use Rattle.ir_model.specs.declared.module.Module.{Module}
use Rattle.pass_early_proof.specs.ir_paths.declared.point.Point.{Point}
use Rattle.pass_early_proof.specs.frame_classes.Alive.{MayBeAlive}
use Rattle.pass_early_proof.specs.frame_crossing.Crossing.{AreCrossing}
use Rattle.pass_early_proof.specs.rule_laws.rules.woven_rules.Pairs.{AreIncomingOnce}

module _ (m : Module) (func : ℕ) (f : Function) (rules : KeepsFunctionRules m func f) where
  named : HasNamedLabels f
  named = labels_known func f rules.tabled m rules.known

  once : AreLabelsOnce f
  once = own_label func f rules.definitions

  pub rules_kept : KeepsFunctionRules m func (with_edge_blocks f)
  rules_kept = record {
    tabled = names_tabled func f rules.tabled;
    definitions = names_once func f rules.tabled rules.definitions;
    known = known_kept m func f named rules.known;
    depths = depths_kept m func f rules.depths;
    calls = calls_kept m func f rules.calls;
    local = local_kept m func f rules.local;
    edges = edges_kept f named once func rules.edges;
    uses = uses_kept f named once func rules.uses;
  }

  pub labels_different : AreIncomingOnce (with_edge_blocks f)
  labels_different = incoming_once f named

  pub phis_by_jumps : ArePhisEnteredByJumps (with_edge_blocks f)
  phis_by_jumps = entered_by_jumps f named once

  pub own_blocks : HaveOwnBlocks (with_edge_blocks f)
  own_blocks = have_own_blocks f named once

  pub suspend_blocks : f.coroutine ≡ true → wrong_switch func f ≡ None → HaveOwnReturns (with_edge_blocks f)
  suspend_blocks coroutine switches = own_returns func f coroutine switches named once

  pub crossing_kept : f.coroutine ≡ true → wrong_switch func f ≡ None → (all : List (ℕ × ℕ)) → AreCrossing f all ↔ AreCrossing (with_edge_blocks f) all
  crossing_kept coroutine switches = crossing_stays f (keeps_edges func f coroutine named rules.definitions rules.edges switches)

  pub alive_kept : (slot : ℕ) (p : Point) → MayBeAlive f slot p ↔ MayBeAlive (with_edge_blocks f) slot (moved f p)
  alive_kept = alive_stays f named
