-- What a coroutine that is split says of its labels, its end and its suspends.
use Rattle.std.proofs.Common.{Bool, List, ap, arith, false, inl, inr, length, refl, subst, sym, true, ℕ, ⊎_elim, ◌+◌, ◌<◌, ◌∙◌, ◌≡◌, ◌⊎◌}
use Rattle.std.specs.List.{list_all}
use Rattle.std.specs.Prelude.{None, Option, Some, if◌then◌else◌, not, slice_get, unwrap_or, ◌&&◌, ◌==◌, ◌||◌}
use Rattle.pass_fetch_proof.specs.rule_shape.OneOfEach.{is_missing}
use Rattle.pass_fetch_proof.specs.rule_shape.Places.{is_the}
use Rattle.pass_fetch_proof.specs.rule_shape.Suspends.{is_suspend}
use Rattle.pass_fetch_proof.specs.rule_shape.Switches.{are_both, breaks_switch, end_label as switch_end, is_last, is_switch_on, is_switched, is_switched_in}
use Rattle.pass_fetch_proof.specs.rule_uses.Undefined.{params_of}
use Rattle.pass_fetch_proof.proofs.ir_laws.facts.Truth.{equal_numbers, and_first, and_second, holds, second_no as or_second_out}
use Rattle.pass_fetch_proof.proofs.rule_laws.rules.renamed.Switches.{none_part}
use Rattle.pass_fetch_proof.proofs.ir_laws.paths.renamed.Uses.{stands_in}
use Rattle.pass_fetch_proof.proofs.rule_laws.rules.local_rules.Defined.{label_defined}
use Rattle.pass_fetch_proof.proofs.rule_laws.rules.path_rules.Holding.{of_parts}
use Rattle.pass_fetch_proof.proofs.rule_laws.rules.source_rules.Locals.{block_names, own_label}
use Rattle.pass_fetch_proof.proofs.ir_laws.paths.source_rules.Locals.{listed_right}
use Rattle.pass_fetch_proof.proofs.ir_laws.facts.Lists.{row_of}
use Rattle.pass_fetch_proof.proofs.rule_laws.rules.source_rules.Once.{first_call_at, none_missing, right_call, there_is}
use Rattle.pass_fetch_proof.specs.flow_solver.Paths.{IsListed}
use Rattle.pass_fetch_proof.specs.frame_layout.declared.layout.Layout.{Layout}
use Rattle.pass_fetch_proof.specs.ir_parts.Contents.{ending_labels, part_labels, part_operands, part_types}
use Rattle.pass_fetch_proof.specs.ir_parts.Parts.{Ending, first_part, instr_place, parts_of}
use Rattle.pass_fetch_proof.specs.pass_intrinsics.Shapes.{has_end, shape_of, suspends_of}
use Rattle.pass_fetch_proof.specs.pass_intrinsics.declared.shape.SuspendPoint.{SuspendPoint}
use Rattle.ir_model.specs.Names.{is_local, position_of}
use Rattle.ir_model.specs.declared.instr.Case.{Case}
use Rattle.ir_model.specs.declared.instr.Instr.{Instr}
use Rattle.ir_model.specs.declared.instr.Terminator.{Terminator}
use Rattle.ir_model.specs.declared.module.Block.{Block}
use Rattle.ir_model.specs.declared.module.Function.{Function}
use Rattle.ir_model.specs.declared.module.Module.{Module}
use Rattle.ir_model.specs.declared.operand.Arg.{Arg}
use Rattle.ir_model.specs.declared.operand.Intrinsic.{Intrinsic}
use Rattle.pass_fetch_proof.specs.ir_paths.Paths.{targets}
use Rattle.pass_fetch_proof.specs.ir_paths.Windows.{call_result, instr_in, label_of_term}
use Rattle.pass_fetch_proof.specs.ir_paths.declared.point.Point.{Point}
use Rattle.pass_fetch_proof.specs.rule_names.Known.{is_label, is_value, knows_called, knows_operand, knows_type, names_unknown}
use Rattle.pass_exits_proof.proofs.split.edges.Cuttable.{HasBlock}
use Rattle.pass_fetch_proof.proofs.ir_laws.paths.edges.Lists.{listed_at, numbers_different, to_row}
use Rattle.pass_fetch_proof.proofs.ir_laws.paths.uses.Paths.{place_of}
use Rattle.pass_fetch_proof.proofs.ir_laws.facts.Numbers.{label_of}
use Rattle.pass_exits_proof.proofs.split.edges.Pieces.{labels}
use Rattle.pass_fetch_proof.proofs.rule_laws.frames.edges.Shaped.{BeginsWithEnd, IsEndIn, begins_with, case_targets, end_at, end_is_call, first_end, has_end_at, is_there, label_in_targets, no_phi, point_home, right_end, same_end}
use Rattle.pass_fetch_proof.proofs.ir_laws.paths.counted.PartFacts.{all_listed as all_there}
use Rattle.pass_fetch_proof.proofs.ir_laws.paths.edges.Shaped.{any_there}
use Rattle.pass_fetch_proof.proofs.rule_laws.rules.known_labels.Rules.{labels_spelt as targets_are}
use Rattle.pass_fetch_proof.specs.rule_laws.rules.function_rules.Kept.{KeepsFunctionRules}
use Rattle.pass_exits_proof.specs.split.rules.Splittable.{IsSplittable}
use Rattle.pass_fetch_proof.specs.rule_windows.Points.{phi_count, phis_in}
use Rattle.pass_fetch_proof.proofs.rule_laws.rules.woven_rules.Once.{names_below}
use Rattle.pass_fetch_proof.specs.ir_laws.paths.woven_rules.Pairs.{AreDifferent}

-- a block that ends with the switch of a suspend, whose default is the end
pub record IsStopped (b : Block) (end : ℕ) : Type 0 where
  pub arg : Arg
  pub cases : List Case
  pub is : b.term ≡ Terminator.Switch arg end cases
  pub both : are_both cases ≡ true

-- ---- labels

module _ (m : Module) (k : ℕ) (f : Function) (x : KeepsFunctionRules m k f) where
  pub own_labels_different : AreDifferent (labels f.blocks)
  own_labels_different
      = numbers_different label_of f.blocks (λ j n b c d e same. sym (own_label k f x.definitions j b d)
      ∙ ap (position_of f) same ∙ own_label k f x.definitions n c e)

  pub own_label_low : (b : Block) → IsListed b f.blocks → b.label < length f.names
  own_label_low b l
      = names_below k f x.tabled b.label (listed_right b.label (params_of f) (row_of block_names f.blocks)
      (to_row block_names f.blocks b b.label l (inl refl)))

  labels_known : (b : Block) → IsListed b f.blocks → list_all (is_label k f) (ending_labels b.term) ≡ true
  labels_known b l =
      let p = place_of f.blocks b l in
      let parts = of_parts (λ y. names_unknown m (is_value k f) (is_label k f) y.0 y.1 ≡ false) k f
      (none_part (names_unknown m (is_value k f) (is_label k f)) (parts_of k f) x.known) in
      let all = holds _ (parts.blocks p.0 b p.1).ending in
      let later = and_second (list_all (knows_type m) (part_types (Ending b.term))) _ all in
      let last = and_second (list_all (knows_operand m (is_value k f)) (part_operands (Ending b.term))) _ later in
      and_first (list_all (is_label k f) (part_labels (Ending b.term))) (knows_called m (Ending b.term)) last

  -- an edge leads to a block
  pub own_target_known : (b : Block) (label : ℕ) → IsListed b f.blocks → IsListed label (targets b.term)
      → HasBlock f label
  own_target_known b label l t =
      let known : is_label k f label ≡ true = all_there (is_label k f) (targets b.term) (ap (list_all (is_label k f)) (sym (targets_are b.term)) ∙ labels_known b l) label t in
      let c = any_there (λ (c : Block). c.label == label) f.blocks (sym (label_defined label k f) ∙ known) in
      record { block = c.0; listed = c.1.0; has_label = equal_numbers c.0.label label c.1.1 }

module _ (m : Module) (k : ℕ) (f : Function) (begin : ℕ) (x : IsSplittable m k f begin) where
  pub labels_different : AreDifferent (labels f.blocks)
  labels_different = own_labels_different m k f x.rules

  pub label_low : (b : Block) → IsListed b f.blocks → b.label < length f.names
  label_low = own_label_low m k f x.rules

  pub target_known : (b : Block) (label : ℕ) → IsListed b f.blocks → IsListed label (targets b.term) → HasBlock f label
  target_known = own_target_known m k f x.rules

  -- ---- the end

  pub the_end : IsEndIn f.blocks
  the_end =
      let present = or_second_out (is_missing Intrinsic.CoroBegin f) (is_missing Intrinsic.CoroEnd f) (or_second_out (is_missing Intrinsic.CoroId f) (is_missing Intrinsic.CoroBegin f || is_missing Intrinsic.CoroEnd f) (none_missing k f x.coroutine x.calls)) in
      let c = there_is Intrinsic.CoroEnd f present in
      let at = first_call_at f Intrinsic.CoroEnd c.0 c.1 in
      let y = stands_in f at.point c.0 at.stands in
      first_end f.blocks y.block (listed_at f.blocks at.point.block y.block y.got) (has_end_at y.block.instrs at.point.at c.0 y.stands (end_is_call c.0 ∙ at.is_call))

  -- the end stands first in its block, which has no phis
  pub begins_with_end : (b : Block) → IsListed b f.blocks → has_end b.instrs ≡ true → BeginsWithEnd b
  begins_with_end b l h =
      let p = place_of f.blocks b l in
      let e = end_at b.instrs h in
      let point : Point = record { block = p.0; at = e.0 } in
      let right = right_call k f x.coroutine x.calls point e.1.0 (ap (λ (o : Option Block). instr_in o e.0) p.1 ∙ e.1.1.0) in
      let first = right_end f k (instr_place k p.0 (phi_count f p.0 + e.0)) e.1.0 e.1.1.1 right in
      let sum : phi_count f p.0 + e.0 ≡ 0 = equal_numbers (phi_count f p.0 + e.0) 0 first in
      let count : phi_count f p.0 ≡ length b.phis = ap phis_in p.1 in
      let none : length b.phis ≡ 0 = omega (arith, sum, count) in
      let zero : e.0 ≡ 0 = omega (arith, sum) in
      begins_with b b.instrs refl (no_phi b.phis none) e.1.0 (ap (slice_get b.instrs) (sym zero) ∙ e.1.1.0) e.1.1.1

  module _ (layout : Layout) where
    abbrev end : ℕ
    end = (shape_of f layout).end

    pub end_is : end ≡ the_end.block.label
    end_is = ap (λ (o : Option ℕ). unwrap_or o 0) the_end.is

    -- ---- suspends

    is_stopped : (b : Block) (v : ℕ) (t : Terminator) → b.term ≡ t → is_switch_on v (switch_end f) t ≡ true → IsStopped b end
    is_stopped b v (Terminator.Switch arg default cases) e h =
        let rest = and_second (is_local v arg.value) (are_both cases && is_the (switch_end f) default) h in
        let there : switch_end f ≡ Some default = is_there (switch_end f) default (and_second (are_both cases) (is_the (switch_end f) default) rest) in
        let same : end ≡ default = ap (λ (o : Option ℕ). unwrap_or o 0) (sym (same_end f.blocks) ∙ there) in
        record { arg = arg; cases = cases; is = e ∙ ap (λ (n : ℕ). Terminator.Switch arg n cases) (sym same); both = and_first (are_both cases) (is_the (switch_end f) default) rest }
    is_stopped b v (Terminator.Jump label) e h = absurd (cc)
    is_stopped b v (Terminator.Branch c a d) e h = absurd (cc)
    is_stopped b v (Terminator.Ret value) e h = absurd (cc)
    is_stopped b v Terminator.Unreachable e h = absurd (cc)

    by_result : (b : Block) (at n : ℕ) → slice_get f.blocks at ≡ Some b → (o : Option ℕ) → is_switched f (instr_place k at n) o ≡ true → IsStopped b end
    by_result b at n there None h = absurd (cc)
    by_result b at n there (Some v) h =
        let now : is_switched_in f v (instr_place k at n) (Some b) ≡ true = sym (ap (is_switched_in f v (instr_place k at n)) there) ∙ h in
        let rest = and_second (is_last b (Some n)) _ now in
        is_stopped b v b.term refl (and_first (is_switch_on v (switch_end f) b.term) _ rest)

    pub stopped : (b : Block) (i : Instr) → IsListed b f.blocks → IsListed i b.instrs → is_suspend i ≡ true → IsStopped b end
    stopped b i l n s =
        let p = place_of f.blocks b l in
        let q = place_of b.instrs i n in
        let none : first_part (breaks_switch f) (parts_of k f) ≡ None = subst (λ (c : Bool). (if c then first_part (breaks_switch f) (parts_of k f) else None) ≡ None) x.coroutine x.switches in
        let parts = of_parts (λ y. breaks_switch f y.0 y.1 ≡ false) k f (none_part (breaks_switch f) (parts_of k f) none) in
        let own = (parts.blocks p.0 b p.1).instrs q.0 i q.1 in
        let switched : is_switched f (instr_place k p.0 (length b.phis + q.0)) (call_result i) ≡ true =
        holds (is_switched f (instr_place k p.0 (length b.phis + q.0)) (call_result i)) (sym (ap (λ (t : Bool). t && not (is_switched f (instr_place k p.0 (length b.phis + q.0)) (call_result i))) s) ∙ own) in
        by_result b p.0 (length b.phis + q.0) p.1 (call_result i) switched

    -- a suspend's block leads to the end, and by the edges of the suspend
    pub stopped_targets : (b : Block) → IsStopped b end → (label : ℕ) → IsListed label (targets b.term) → (label ≡ end) ⊎ ((label ≡ label_of_term 0 b.term) ⊎ (label ≡ label_of_term 1 b.term))
    stopped_targets b s label l =
        ⊎_elim (λ e. inl e)
        (λ n. inr (subst (λ (t : Terminator). (label ≡ label_of_term 0 t) ⊎ (label ≡ label_of_term 1 t)) (sym s.is) (case_targets s.cases end label s.both n)))
        (subst (λ (t : Terminator). IsListed label (targets t)) s.is l)

    pub returned_target : (n : ℕ) (b : Block) → IsStopped b end → IsListed (label_of_term n b.term) (targets b.term)
    returned_target n b s = subst (λ (t : Terminator). IsListed (label_of_term n t) (targets t)) (sym s.is) (label_in_targets n s.cases end)

    returned : (n : ℕ) (b : Block) → IsListed b f.blocks → IsStopped b end → HasBlock f (label_of_term n b.term)
    returned n b l s = target_known b (label_of_term n b.term) l (returned_target n b s)

    pub resume_known : (p : SuspendPoint) → IsListed p (suspends_of f) → HasBlock f p.resume
    resume_known p l =
        let y = point_home p f l in
        subst (HasBlock f) (sym y.1.1.resume) (returned 0 y.0 y.1.0 (stopped y.0 y.1.1.instr y.1.0 y.1.1.listed y.1.1.is_one))

    pub destroy_known : (p : SuspendPoint) → IsListed p (suspends_of f) → HasBlock f p.destroy
    destroy_known p l =
        let y = point_home p f l in
        subst (HasBlock f) (sym y.1.1.destroy) (returned 1 y.0 y.1.0 (stopped y.0 y.1.1.instr y.1.0 y.1.1.listed y.1.1.is_one))
