-- What a framed module keeps by rules alone, as framed forms of accepted sources do.
use Rattle.std.specs.Prelude.{◌≡◌, ℕ, Bool, true, List, [], None, Some, slice_get}
use Rattle.pass_elide_edges.specs.pass_elide_proof.pass_proofs.edges.rules.Phis.{ArePhisEnteredByJumps}
use Rattle.pass_elide_edges.specs.pass_elide_proof.pass_proofs.ir_laws.facts.same_names.Short.{HaveShortNames}
use Rattle.pass_elide_edges.specs.pass_elide_proof.pass_proofs.ir_model.Calls.{first_result}
use Rattle.pass_elide_edges.specs.pass_elide_proof.pass_proofs.ir_model.Ty.{Ty}
use Rattle.pass_elide_edges.specs.pass_elide_proof.pass_proofs.ir_model.declared.instr.Instr.{Instr}
use Rattle.pass_elide_edges.specs.pass_elide_proof.pass_proofs.ir_model.declared.module.Function.{Function}
use Rattle.pass_elide_edges.specs.pass_elide_proof.pass_proofs.ir_model.declared.module.Module.{Module}
use Rattle.pass_elide_edges.specs.pass_elide_proof.pass_proofs.ir_model.declared.operand.Arg.{Arg}
use Rattle.pass_elide_edges.specs.pass_elide_proof.pass_proofs.ir_model.declared.operand.Intrinsic.{Intrinsic}
use Rattle.pass_elide_edges.specs.pass_elide_proof.pass_proofs.ir_model.declared.operand.Operand.{Operand}
use Rattle.pass_elide_edges.specs.pass_elide_proof.pass_proofs.ir_paths.Paths.{Leads}
use Rattle.pass_elide_edges.specs.pass_elide_proof.pass_proofs.ir_paths.Windows.{suspend_of}
use Rattle.pass_elide_edges.specs.pass_elide_proof.pass_proofs.ir_paths.declared.point.Point.{Point}
use Rattle.pass_elide_edges.specs.pass_elide_proof.pass_proofs.pass_kept_proof.SuspendRules.{IsCallAt}
use Rattle.pass_elide_edges.specs.pass_elide_proof.pass_proofs.rule_laws.rules.counted.Widths.{first_other_width}
use Rattle.pass_elide_edges.specs.pass_elide_proof.pass_proofs.rule_laws.rules.function_rules.Kept.{KeepsFunctionRules}
use Rattle.pass_elide_edges.specs.pass_elide_proof.pass_proofs.rule_laws.rules.plain_rules.Items.{KeepsItemRules}
use Rattle.pass_elide_edges.specs.pass_elide_proof.pass_proofs.rule_names.declared.stage.Stage.{Stage}
use Rattle.pass_elide_edges.specs.pass_elide_proof.pass_proofs.rule_shape.OneOfEach.{wrong_call}
use Rattle.pass_elide_edges.specs.pass_elide_proof.pass_proofs.rule_shape.Switches.{wrong_switch}
use Rattle.pass_elide_edges.specs.pass_elide_proof.pass_proofs.run_step.Step.{AtInstr, fetch}
use Rattle.pass_split_proof.specs.ready.Fields.{AreInnerIndices}

pub record IsRuledFunction (m : Module) (k : ℕ) (f : Function) : Type 0 where
  pub rules : KeepsFunctionRules m k f
  -- integers have the widths of the grammar
  pub widths : first_other_width k f ≡ None
  -- Y1, and structures of fewer than 2^31 fields
  pub indices : (block at name : ℕ) (inbounds : Bool) (ty : Ty) (base : Operand) (indices : List Arg)
      → fetch f block at ≡ AtInstr (Instr.Gep name inbounds ty base indices) → AreInnerIndices m ty indices

pub record IsRuledCoroutine (k : ℕ) (f : Function) : Type 0 where
  pub begin : ℕ
  pub named : first_result Intrinsic.CoroBegin f ≡ Some begin
  -- K2 and K3
  pub calls : wrong_call k f ≡ None
  pub switches : wrong_switch k f ≡ None
  -- jumps alone lead to blocks with phis
  pub jumps : ArePhisEnteredByJumps f
  -- K6: a path leads from each save to its suspend
  pub leads : (p s : Point) → IsCallAt Intrinsic.CoroSave f p → suspend_of f p ≡ Some s → Leads f [] p s

pub record IsRuled (m : Module) : Type 0 where
  pub items : KeepsItemRules Stage.Source m
  pub short : HaveShortNames m
  pub functions : (k : ℕ) (f : Function) → slice_get m.functions k ≡ Some f → IsRuledFunction m k f
  pub coroutines : (k : ℕ) (f : Function) → slice_get m.functions k ≡ Some f → f.coroutine ≡ true
      → IsRuledCoroutine k f
