-- Where edges have blocks, suspends stand apart.
use Rattle.std.proofs.Common.{◌≡◌, ℕ, ◌+◌, true, [], length, sym, ap, ◌∙◌, arith}
use Rattle.std.specs.Prelude.{Some, None, Option, slice_get}
use Rattle.pass_edges_proof.proofs.rule_laws.frames.crossing.Paths.{point_found}
use Rattle.pass_edges_proof.specs.rule_laws.frames.crossing.Crossed.{AreSuspendsApart, IsApart}
use Rattle.pass_edges_proof.specs.ir_laws.facts.crossing.Crossed.{is_switch}
use Rattle.pass_edges_proof.specs.rule_shape.OneOfEach.{wrong_call}
use Rattle.pass_edges_proof.specs.rule_shape.Switches.{wrong_switch}
use Rattle.pass_edges_proof.specs.rule_uses.Uses.{made_by_phis}
use Rattle.pass_edges_proof.proofs.ir_laws.facts.Members.{at_each}
use Rattle.pass_edges_proof.proofs.edges.rules.Kept.{rules_kept, suspend_blocks}
use Rattle.pass_edges_proof.proofs.edges.rules.Switched.{switched}
use Rattle.pass_edges_proof.specs.rule_laws.frames.rows.Returns.{HaveOwnReturns, return_labels}
use Rattle.pass_edges_proof.specs.rule_laws.rules.rows.Returns.{IsSwitched}
use Rattle.pass_edges_proof.proofs.edges.shape.Kept.{calls_kept, switches_kept}
use Rattle.pass_edges.specs.EdgeBlocks.{with_edge_blocks}
use Rattle.pass_edges_proof.specs.flow_solver.Paths.{IsListed}
use Rattle.pass_edges_proof.proofs.edges.calls.Fetched.{call_suspends}
use Rattle.pass_edges_proof.proofs.ir_laws.paths.shape.Fetched.{ordered_value}
use Rattle.pass_edges_proof.proofs.rule_laws.rules.shape.Ordered.{IsSuspendValue, all_ordered, placed_calls}
use Rattle.pass_edges_proof.proofs.rule_laws.frames.shape.Points.{HasPoint, destroy_listed, point_there, resume_listed}
use Rattle.pass_edges_proof.proofs.ir_laws.paths.shape.Steady.{is_suspend}
use Rattle.pass_edges_proof.proofs.rule_laws.rules.shape.Unneeded.{suspend_result}
use Rattle.pass_fetch_proof.proofs.cells.shape.Unneeded.{unneeded}
use Rattle.pass_edges_proof.specs.ir_parts.Contents.{result_of}
use Rattle.pass_edges_proof.specs.rule_laws.rules.function_rules.Kept.{KeepsFunctionRules}
use Rattle.pass_edges_proof.specs.pass_intrinsics.Shapes.{suspends_of as all_suspends}
use Rattle.ir_model.specs.Names.{position_of}
use Rattle.ir_model.specs.declared.instr.Instr.{Instr}
use Rattle.ir_model.specs.declared.module.Block.{Block}
use Rattle.ir_model.specs.declared.module.Function.{Function}
use Rattle.ir_model.specs.declared.module.Module.{Module}
use Rattle.ir_model.specs.declared.operand.Intrinsic.{Intrinsic}
use Rattle.pass_edges_proof.specs.ir_paths.Windows.{destroy_label, instr_at, instr_in, is_call_of, label_at, label_of_term, resume_label}
use Rattle.pass_edges_proof.specs.ir_paths.declared.point.Point.{Point}
use Rattle.pass_edges_proof.specs.frame_crossing.Paths.{phis_at, phis_in}

module _ (m : Module) (k : ℕ) (f : Function) (rules : KeepsFunctionRules m k f) (coroutine : f.coroutine ≡ true) (own : HaveOwnReturns f) (calls : wrong_call k f ≡ None) (switches : wrong_switch k f ≡ None) where
  no_phis : (label : ℕ) → IsListed label (return_labels (all_suspends f)) → phis_at f (position_of f label) ≡ []
  no_phis label l = let x = own.own label l in ap phis_in x.got ∙ ap (made_by_phis []) x.no_phis

  module _ (s : Point) (b : Block) (got : slice_get f.blocks s.block ≡ Some b) (i : Instr) (there : slice_get b.instrs s.at ≡ Some i) (suspends : is_suspend i ≡ true) where
    w : IsSwitched b s.at i
    w = switched k f coroutine switches s.block s.at b i got there (call_suspends i suspends)

    p : HasPoint (all_suspends f) b
    p = point_there f s.block b got s.at i there suspends

    same_block : (c : Block) → slice_get f.blocks s.block ≡ Some c → b ≡ c
    same_block c e = let both : Some b ≡ Some c = sym got ∙ e in cc

    last_is : (c : Block) → slice_get f.blocks s.block ≡ Some c → length c.instrs ≡ s.at + 1
    last_is c e = ap (λ (d : Block). length d.instrs) (sym (same_block c e)) ∙ sym w.last

    switch_is : (c : Block) → slice_get f.blocks s.block ≡ Some c → is_switch c.term ≡ true
    switch_is c e = ap (λ (d : Block). is_switch d.term) (sym (same_block c e)) ∙ ap is_switch w.is

    label_is : (n : ℕ) → label_at n (slice_get f.blocks s.block) ≡ label_of_term n b.term
    label_is n = ap (label_at n) got

    resume_none : phis_at f (position_of f (resume_label f s)) ≡ []
    resume_none = ap (λ (l : ℕ). phis_at f (position_of f l)) (label_is 0 ∙ sym p.is_of.resume) ∙ no_phis p.point.resume (resume_listed (all_suspends f) p.point p.listed)

    destroy_none : phis_at f (position_of f (destroy_label f s)) ≡ []
    destroy_none = ap (λ (l : ℕ). phis_at f (position_of f l)) (label_is 1 ∙ sym p.is_of.destroy) ∙ no_phis p.point.destroy (destroy_listed (all_suspends f) p.point p.listed)

    value_is : (j : Instr) (v : ℕ) → instr_at f s ≡ Some j → result_of j ≡ Some v → IsSuspendValue f v
    value_is j v e r =
        let both : Some i ≡ Some j = sym there ∙ sym (ap (λ (o : Option Block). instr_in o s.at) got) ∙ e in
        let one : i ≡ j = cc in
        ordered_value (IsSuspendValue f) (length b.phis) b.instrs
        (at_each _ f.blocks s.block b (all_ordered (IsSuspendValue f) f.blocks (placed_calls k f coroutine calls switches)) got)
        s.at i there suspends v (sym (suspend_result i suspends) ∙ ap result_of one ∙ r)

    apart : IsApart f s
    apart = record {
      last = last_is;
      switch = switch_is;
      resume = resume_none;
      destroy = destroy_none;
      unused = λ j v e r. unneeded k f coroutine switches v (value_is j v e r) s;
    }

  pub suspends_apart : AreSuspendsApart f
  suspends_apart s l =
      let x = point_found (is_call_of Intrinsic.CoroSuspend) f s l in
      let at : x.position ≡ s.block = (let e : s.block ≡ 0 + x.position = x.is_block in omega (arith, e)) in
      apart s x.block (ap (slice_get f.blocks) (sym at) ∙ x.got) x.instr x.there x.passes

pub edges_apart : (m : Module) (k : ℕ) (f : Function) → KeepsFunctionRules m k f → f.coroutine ≡ true → wrong_call k f ≡ None → wrong_switch k f ≡ None → AreSuspendsApart (with_edge_blocks f)
edges_apart m k f rules coroutine calls switches =
    suspends_apart m k (with_edge_blocks f) (rules_kept m k f rules) coroutine (suspend_blocks m k f rules coroutine switches) (calls_kept m k f rules coroutine calls switches) (switches_kept m k f rules coroutine calls switches)
