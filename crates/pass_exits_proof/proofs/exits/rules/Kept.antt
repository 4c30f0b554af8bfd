-- Blocks on the edges that leave windows break none of the rules of functions.
use Rattle.std.proofs.Common.{◌≡◌, ⊎_elim, ℕ, [], Some, sym, ap, ◌∙◌}
use Rattle.std.specs.Prelude.{slice_get}
use Rattle.pass_fetch_proof.specs.edges.rules.Phis.{ArePhisEnteredByJumps}
use Rattle.pass_fetch_proof.specs.rule_laws.rules.function_rules.Kept.{KeepsFunctionRules}
use Rattle.ir_model.specs.declared.module.Block.{Block}
use Rattle.ir_model.specs.declared.module.Function.{Function}
use Rattle.ir_model.specs.declared.module.Module.{Module}
use Rattle.pass_fetch_proof.specs.rule_laws.rules.replaced.Splittable.{AreBlocksBegun}
use Rattle.pass_split.specs.pass_exits.ExitBlocks.{with_exit_blocks}
use Rattle.pass_fetch_proof.specs.rule_laws.rules.woven_rules.Pairs.{AreIncomingOnce}
use Rattle.pass_fetch_proof.proofs.rule_laws.rules.threaded.Labels.{incoming_there}
use Rattle.pass_exits_proof.proofs.exits.rules.Local.{calls_kept, depths_kept, known_kept, local_kept}
use Rattle.pass_exits_proof.proofs.exits.rules.Names.{names_once, names_tabled}
use Rattle.pass_exits_proof.proofs.exits.rules.Places.{IsExit, IsOwn, home}
use Rattle.pass_exits_proof.proofs.exits.rules.Sources.{edges_kept}
use Rattle.pass_exits_proof.proofs.exits.rules.Threaded.{moves, old_position, threaded}
use Rattle.pass_fetch_proof.proofs.rule_laws.rules.threaded.Uses.{ArePhisMoved, begun_kept, uses_kept}

module _ (m : Module) (func : ℕ) (f : Function) (rules : KeepsFunctionRules m func f) (jumps : ArePhisEnteredByJumps f) where
  pub phis_moved : ArePhisMoved f (with_exit_blocks f) (moves f)
  phis_moved k b n p j i there stands got = old_position m func f rules i.from (incoming_there m func f rules.definitions rules.known k b n p j i there stands got)

  pub rules_kept : KeepsFunctionRules m func (with_exit_blocks f)
  rules_kept = record {
    tabled = names_tabled func f rules.tabled;
    definitions = names_once func f rules.tabled rules.definitions;
    known = known_kept m func f rules jumps;
    depths = depths_kept m func f rules jumps rules.depths;
    calls = calls_kept m func f rules jumps rules.calls;
    local = local_kept m func f rules jumps rules.local;
    edges = edges_kept m func f rules jumps rules.edges;
    uses = uses_kept f (with_exit_blocks f) (moves f) (threaded m func f rules jumps) phis_moved func rules.uses;
  }

  pub all_begun : (begin : ℕ) → AreBlocksBegun f begin 0 f.blocks → AreBlocksBegun (with_exit_blocks f) begin 0 (with_exit_blocks f).blocks
  all_begun begin = begun_kept f (with_exit_blocks f) (moves f) (threaded m func f rules jumps) begin

-- phis stay
pub incoming_once : (f : Function) → AreIncomingOnce f → AreIncomingOnce (with_exit_blocks f)
incoming_once f once at j c p there stands = ⊎_elim
    (λ (x : IsOwn f at c). once x.index j x.block p x.got (ap (λ (y : Block). slice_get y.phis j) (sym x.is) ∙ stands))
    (λ (x : IsExit f at c). let none : slice_get [] j ≡ Some p = ap (λ (y : Block). slice_get y.phis j) (sym x.is) ∙ stands in absurd (cc))
    (home f at c there)
