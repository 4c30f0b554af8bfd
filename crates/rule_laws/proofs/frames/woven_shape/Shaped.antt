-- All that is asked of a coroutine's calls stays.
use Rattle.std.proofs.Common.{◌≡◌, ℕ, ◌<◌, true, sym, ap, ◌∙◌, subst}
use Rattle.std.specs.Prelude.{None, Some, List, flat_map}
use Rattle.rule_shape.specs.OneOfEach.{wrong_call}
use Rattle.rule_shape.specs.Switches.{wrong_switch}
use Rattle.rule_laws.proofs.rules.local_rules.Names.{numbers}
use Rattle.ir_laws.specs.flow_solver.Paths.{IsListed}
use Rattle.rule_laws.specs.rules.function_rules.Kept.{KeepsFunctionRules}
use Rattle.pass_intrinsics.specs.Shapes.{suspends_of}
use Rattle.pass_intrinsics.specs.declared.shape.SuspendPoint.{SuspendPoint}
use Rattle.ir_laws.specs.ir_model.Calls.{first_result}
use Rattle.ir_laws.specs.ir_model.declared.module.Function.{Function}
use Rattle.ir_laws.specs.ir_model.declared.module.Module.{Module}
use Rattle.ir_laws.specs.ir_model.declared.operand.Intrinsic.{Intrinsic}
use Rattle.rule_laws.specs.rules.replaced.Splittable.{AreBlocksBegun}
use Rattle.rule_laws.specs.frames.replaced.Splittable.{HasOwnEdges, token_taken}
use Rattle.ir_laws.specs.run_laws.changed.Changed.{Each}
use Rattle.rule_laws.proofs.rules.woven_rules.Edges.{same_edges, same_position, same_predecessors}
use Rattle.rule_laws.proofs.rules.woven_rules.Laid.{AreLaidBlocks, laid}
use Rattle.rule_laws.proofs.rules.woven_rules.Once.{below}
use Rattle.rule_laws.proofs.rules.woven_rules.Uses.{path_before}
use Rattle.rule_laws.specs.rules.woven_rules.Blocks.{IsWoven}
use Rattle.ir_laws.specs.paths.woven_rules.Pairs.{AreDifferent}
use Rattle.rule_laws.specs.rules.woven_rules.Pairs.{AreIncomingOnce}
use Rattle.rule_laws.specs.rules.woven_rules.Weaving.{Weaving}
use Rattle.rule_laws.proofs.rules.woven_shape.Begun.{begun_stays}
use Rattle.rule_laws.proofs.rules.woven_shape.Found.{made, not_begin, result_made}
use Rattle.rule_laws.proofs.rules.woven_shape.OneOfEach.{wrong_call_same}
use Rattle.rule_laws.proofs.frames.woven_shape.OwnEdges.{all_own_edges}
use Rattle.rule_laws.proofs.frames.woven_shape.Suspends.{suspends_stay}
use Rattle.rule_laws.proofs.rules.woven_shape.Switches.{wrong_switch_same}
use Rattle.rule_laws.specs.rules.woven_shape.Calls.{joined, shaping_calls}
use Rattle.rule_laws.specs.frames.woven_shape.Shaped.{IsShaped, KeepsCalls}

module _ (w : Weaving) (m : Module) (f g : Function) (h : IsWoven w m f g) (keeps : KeepsCalls w f g) where
  same_calls : shaping_calls g ≡ shaping_calls f
  same_calls = ap joined keeps.calls

  pub calls_kept : (k : ℕ) → f.coroutine ≡ true → wrong_call k f ≡ None → wrong_call k g ≡ None
  calls_kept k coroutine e = wrong_call_same k f g same_calls coroutine e h.coroutine

  pub switches_kept : (k : ℕ) → f.coroutine ≡ true → wrong_switch k f ≡ None → wrong_switch k g ≡ None
  switches_kept k coroutine e = wrong_switch_same k f g same_calls keeps.uses coroutine e h.coroutine

  pub begin_kept : first_result Intrinsic.CoroBegin g ≡ first_result Intrinsic.CoroBegin f
  begin_kept = result_made Intrinsic.CoroBegin not_begin g ∙ ap (made Intrinsic.CoroBegin) same_calls ∙ sym (result_made Intrinsic.CoroBegin not_begin f)

  pub suspends_kept : suspends_of g ≡ suspends_of f
  suspends_kept = suspends_stay w m f g h keeps.calls

  module _ (k : ℕ) (rules : KeepsFunctionRules m k f) (once : AreIncomingOnce f) where
    old : (v : ℕ) → IsListed v (numbers f) → v < w.first
    old = below w m k f g h rules.tabled

    blocks : AreLaidBlocks w m f g 0 f.blocks g.blocks
    blocks = laid w m f g h old once

    pub begun_kept : (begin : ℕ) → first_result Intrinsic.CoroBegin f ≡ Some begin → AreBlocksBegun f begin 0 f.blocks → AreBlocksBegun g begin 0 g.blocks
    begun_kept begin e =
        begun_stays w m f g h begin (keeps.begin begin e)
        (λ block. path_before w m f g h (same_edges w m f g blocks) (same_position w m f g blocks) begin block (keeps.begin begin e))

    pub edges_kept : Each (HasOwnEdges f) (suspends_of f) → Each (HasOwnEdges g) (suspends_of g)
    edges_kept s = subst (Each (HasOwnEdges g)) (sym suspends_kept) (all_own_edges w m f g h (same_predecessors w m f g blocks) (suspends_of f) s)

    pub shape_kept : (begin : ℕ) → f.coroutine ≡ true → IsShaped k f begin → IsShaped k g begin
    shape_kept begin coroutine s = record {
      calls = calls_kept k coroutine s.calls;
      switches = switches_kept k coroutine s.switches;
      named = begin_kept ∙ s.named;
      begun = begun_kept begin s.named s.begun;
      tokens = subst (λ (ps : List SuspendPoint). AreDifferent (flat_map token_taken ps)) (sym suspends_kept) s.tokens;
      edges = edges_kept s.edges;
    }
