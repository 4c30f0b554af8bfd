-- Each coro.end of a coroutine stands in its end block, since there is one (K2). Begin's name is begin's alone.
use Rattle.std.proofs.Common.{◌≡◌, ℕ, Bool, true, List, refl, sym, ap, ◌∙◌}
use Rattle.std.proofs.lemmas.Bool.{false≢true}
use Rattle.std.specs.Prelude.{None, Option, Some, slice_get}
use Rattle.pass_elide_kept.specs.Modules.{BeginsAlone}
use Rattle.pass_elide_edges.proofs.pass_elide_proof.pass_proofs.rule_laws.rules.function_rules.Stages.{rules_larger}
use Rattle.pass_elide_edges.specs.pass_elide_proof.pass_proofs.rule_names.declared.stage.Stage.{Stage}
use Rattle.pass_elide_edges.proofs.pass_elide_proof.ElidedFound.{fetched}
use Rattle.pass_elide_edges.specs.pass_elide_proof.Edges.{phis_at}
use Rattle.pass_elide_edges.proofs.pass_elide_proof.pass_proofs.ir_laws.paths.woven_rules.Unbroken.{each_listed}
use Rattle.pass_elide_edges.proofs.pass_elide_proof.pass_proofs.rule_laws.rules.renamed.Uses.{result_spelt}
use Rattle.pass_elide_edges.proofs.pass_elide_proof.pass_proofs.rule_laws.rules.source_rules.Ends.{end_first}
use Rattle.pass_elide_edges.proofs.pass_elide_proof.pass_proofs.rule_laws.rules.source_rules.Once.{one_end}
use Rattle.pass_elide_edges.proofs.pass_elide_proof.pass_proofs.rule_laws.rules.sources.Places.{instr_there, point}
use Rattle.pass_elide_edges.specs.pass_elide_proof.pass_proofs.ir_laws.facts.renamed.Regular.{passes}
use Rattle.pass_elide_edges.specs.pass_elide_proof.pass_proofs.ir_model.Calls.{first_result}
use Rattle.pass_elide_edges.specs.pass_elide_proof.pass_proofs.ir_model.Ty.{Ty}
use Rattle.pass_elide_edges.specs.pass_elide_proof.pass_proofs.ir_model.declared.instr.Instr.{Instr}
use Rattle.pass_elide_edges.specs.pass_elide_proof.pass_proofs.ir_model.declared.instr.Phi.{Phi}
use Rattle.pass_elide_edges.specs.pass_elide_proof.pass_proofs.ir_model.declared.module.Block.{Block}
use Rattle.pass_elide_edges.specs.pass_elide_proof.pass_proofs.ir_model.declared.module.Function.{Function}
use Rattle.pass_elide_edges.specs.pass_elide_proof.pass_proofs.ir_model.declared.module.Module.{Module}
use Rattle.pass_elide_edges.specs.pass_elide_proof.pass_proofs.ir_model.declared.operand.Arg.{Arg}
use Rattle.pass_elide_edges.specs.pass_elide_proof.pass_proofs.ir_model.declared.operand.Callee.{Callee}
use Rattle.pass_elide_edges.specs.pass_elide_proof.pass_proofs.ir_model.declared.operand.Intrinsic.{Intrinsic}
use Rattle.pass_elide_edges.specs.pass_elide_proof.pass_proofs.ir_paths.Windows.{end_block, instr_at, is_call_of}
use Rattle.pass_elide_edges.specs.pass_elide_proof.pass_proofs.ir_paths.declared.point.Point.{Point}
use Rattle.pass_elide_edges.specs.pass_elide_proof.pass_proofs.rule_laws.rules.function_rules.Kept.{KeepsFunctionRules}
use Rattle.pass_elide_edges.specs.pass_elide_proof.pass_proofs.rule_shape.OneOfEach.{wrong_call}
use Rattle.pass_elide_edges.specs.pass_elide_proof.pass_proofs.run_framed.Framed.{begin_name}
use Rattle.pass_elide_edges.specs.pass_elide_proof.pass_proofs.run_laws.changed.Changed.{Each}
use Rattle.pass_elide_edges.specs.pass_elide_proof.pass_proofs.run_step.Step.{AtInstr, fetch, phis_of}
use Rattle.pass_split_proof.proofs.ready.Begins.{begin_makes, begin_name_is, no_phi_begins, only_begin}
use Rattle.pass_split_proof.proofs.ready.Intrinsics.{in_coroutine}

-- ---- the end

call_there : (test : Instr → Bool) (o : Option Instr) → passes test o ≡ true
    → (i : Instr) × (o ≡ Some i) × (test i ≡ true)
call_there test None e = absurd (false≢true e)
call_there test (Some i) e = (i, refl, e)

module _ (m : Module) (k : ℕ) (f : Function) (rules : KeepsFunctionRules m k f)
    (calls : f.coroutine ≡ true → wrong_call k f ≡ None) where
  pub ends_in_block : (block at : ℕ) (result : Option ℕ) (must_tail : Bool) (ty : Option Ty) (args : List Arg)
      → fetch f block at ≡ AtInstr (Instr.Call result must_tail ty (Callee.Intrinsic Intrinsic.CoroEnd) args)
      → block ≡ end_block f
  ends_in_block block at result must_tail ty args here =
      let i : Instr = Instr.Call result must_tail ty (Callee.Intrinsic Intrinsic.CoroEnd) args in
      let coroutine = in_coroutine m k f (rules_larger Stage.Source m k f rules) block at result must_tail ty Intrinsic.CoroEnd args here refl in
      let x = call_there (is_call_of Intrinsic.CoroEnd) (instr_at f (point (end_block f) 0))
      (end_first k f coroutine (calls coroutine)) in
      let same : point block at ≡ point (end_block f) 0 =
      one_end k f coroutine (calls coroutine) (point block at) (point (end_block f) 0) i x.0
      (instr_there f block at i here) x.1 refl x.2 in
      ap (λ (p : Point). p.block) same

-- ---- begin

module _ (m : Module) (k : ℕ) (f : Function) (rules : KeepsFunctionRules m k f) (begin : ℕ)
    (named : first_result Intrinsic.CoroBegin f ≡ Some begin) (coroutine : f.coroutine ≡ true)
    (calls : wrong_call k f ≡ None) where
  pub begin_named : begin_name f ≡ Some begin
  begin_named = begin_name_is m k f (rules_larger Stage.Source m k f rules) begin named coroutine calls

  is_begin : (v : ℕ) → begin_name f ≡ Some v → begin ≡ v
  is_begin v e = let both : Some begin ≡ Some v = sym begin_named ∙ e in cc

  no_phi : (v : ℕ) → begin_name f ≡ Some v → (block : ℕ) → Each (λ (x : Phi). x.result ≡ v → ⊥) (phis_at f block)
  no_phi v e block = on (slice_get f.blocks block) refl
    where
      on : (o : Option Block) → slice_get f.blocks block ≡ o → Each (λ (x : Phi). x.result ≡ v → ⊥) (phis_of o)
      on None d = tt
      on (Some b) d = each_listed (λ (x : Phi). x.result ≡ v → ⊥) b.phis (λ x l same.
          no_phi_begins m k f (rules_larger Stage.Source m k f rules) begin named block b x d l (same ∙ sym (is_begin v e)))

  pub begins_alone : BeginsAlone f
  begins_alone = record {
    alone = λ block at v i e there gives.
        only_begin m k f (rules_larger Stage.Source m k f rules) begin named block at i (fetched f block at i there)
        (sym (result_spelt i) ∙ gives ∙ ap Some (sym (is_begin v e)));
    phis = no_phi;
    named = λ block at v i there begins e.
        result_spelt i
        ∙ begin_makes m k f (rules_larger Stage.Source m k f rules) begin named coroutine calls block at i (fetched f block at i there) begins
        ∙ ap Some (is_begin v e);
  }
