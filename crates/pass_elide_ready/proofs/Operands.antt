-- Operands of instructions are names of their function (N2). So no marker is one of another name.
use Rattle.std.proofs.Common.{◌≡◌, ◌<◌, inl, inr, ℕ, Bool, true, false, List, [], ◌∷◌, length, map, refl, sym, arith}
use Rattle.std.proofs.lemmas.Bool.{false≢true}
use Rattle.std.specs.List.{list_all, list_any}
use Rattle.std.specs.Prelude.{◌&&◌, ◌||◌}
use Rattle.pass_elide_edges.specs.pass_elide_proof.Calling.{MarksOwn}
use Rattle.pass_elide_edges.proofs.pass_elide_proof.pass_proofs.ir_laws.facts.Lists.{at_any}
use Rattle.pass_elide_edges.proofs.pass_elide_proof.pass_proofs.ir_laws.facts.Truth.{and_first, and_second, holds}
use Rattle.pass_elide_edges.proofs.pass_elide_proof.pass_proofs.ir_laws.paths.counted.PartFacts.{all_listed}
use Rattle.pass_elide_edges.proofs.pass_elide_proof.pass_proofs.kept.sources.Stops.{the_local}
use Rattle.pass_elide_edges.specs.pass_elide_proof.pass_proofs.flow_solver.Paths.{IsListed}
use Rattle.pass_elide_edges.specs.pass_elide_proof.pass_proofs.ir_model.Names.{is_local}
use Rattle.pass_elide_edges.specs.pass_elide_proof.pass_proofs.ir_model.declared.instr.Instr.{Instr}
use Rattle.pass_elide_edges.specs.pass_elide_proof.pass_proofs.ir_model.declared.module.Block.{Block}
use Rattle.pass_elide_edges.specs.pass_elide_proof.pass_proofs.ir_model.declared.module.Function.{Function}
use Rattle.pass_elide_edges.specs.pass_elide_proof.pass_proofs.ir_model.declared.module.Module.{Module}
use Rattle.pass_elide_edges.specs.pass_elide_proof.pass_proofs.ir_model.declared.operand.Arg.{Arg}
use Rattle.pass_elide_edges.specs.pass_elide_proof.pass_proofs.ir_model.declared.operand.Callee.{Callee}
use Rattle.pass_elide_edges.specs.pass_elide_proof.pass_proofs.ir_model.declared.operand.Intrinsic.{Intrinsic}
use Rattle.pass_elide_edges.specs.pass_elide_proof.pass_proofs.ir_model.declared.operand.Operand.{Operand}
use Rattle.pass_elide_edges.specs.pass_elide_proof.pass_proofs.ir_parts.Contents.{instr_operands, part_labels, part_operands, part_types}
use Rattle.pass_elide_edges.specs.pass_elide_proof.pass_proofs.ir_parts.Parts.{OfInstr, Part}
use Rattle.pass_elide_edges.specs.pass_elide_proof.pass_proofs.rule_laws.rules.function_rules.Kept.{KeepsFunctionRules}
use Rattle.pass_elide_edges.specs.pass_elide_proof.pass_proofs.rule_names.Known.{is_label, is_value, knows_called, knows_operand, knows_type}
use Rattle.pass_elide_edges.specs.pass_elide_proof.pass_proofs.rule_names.Known.{names_unknown}
use Rattle.pass_elide_edges.specs.pass_elide_proof.pass_proofs.run_step.Step.{AtInstr, fetch, has_markers, is_marker_of}
use Rattle.pass_split_proof.proofs.code.Allocas.{by_instrs}
use Rattle.pass_split_proof.proofs.ready.Known.{value_low}
use Rattle.pass_split_proof.proofs.ready.Rules.{at_instr}

module _ (m : Module) (k : ℕ) (f : Function) (rules : KeepsFunctionRules m k f) where
  pub operand_low : (block at : ℕ) (i : Instr) → fetch f block at ≡ AtInstr i → (v : ℕ)
      → IsListed (Operand.Local v) (instr_operands i) → v < length f.names
  operand_low block at i here v l =
      let x : Part = OfInstr i in
      let all = holds (list_all (knows_type m) (part_types x) && (list_all (knows_operand m (is_value k f))
      (part_operands x) && (list_all (is_label k f) (part_labels x) && knows_called m x)))
      (at_instr k f (names_unknown m (is_value k f) (is_label k f)) rules.known block at i here) in
      let known = and_first (list_all (knows_operand m (is_value k f)) (part_operands x)) _
      (and_second (list_all (knows_type m) (part_types x)) _ all) in
      value_low k f rules.tabled v (all_listed (knows_operand m (is_value k f)) (instr_operands i) known
      (Operand.Local v)
      l)

-- ---- markers

args_listed : (v : ℕ) (args : List Arg) → list_any (λ (a : Arg). is_local v a.value) args ≡ true
    → IsListed (Operand.Local v) (map (λ (a : Arg). a.value) args)
args_listed v [] e = absurd (false≢true e)
args_listed v (a ∷ args) e = on (is_local v a.value) refl e (args_listed v args)
  where
    on : (b : Bool) → is_local v a.value ≡ b → (b || list_any (λ (x : Arg). is_local v x.value) args) ≡ true
        → (list_any (λ (x : Arg). is_local v x.value) args ≡ true
        → IsListed (Operand.Local v) (map (λ (x : Arg). x.value) args))
        → IsListed (Operand.Local v) (map (λ (x : Arg). x.value) (a ∷ args))
    on true d h again = inl (sym (the_local v a.value d))
    on false d h again = inr (again h)

marker_operand : (v : ℕ) (i : Instr) → is_marker_of v i ≡ true → IsListed (Operand.Local v) (instr_operands i)
marker_operand v (Instr.Call result must_tail ty (Callee.Intrinsic Intrinsic.LifetimeStart) args) e =
    args_listed v args e
marker_operand v (Instr.Call result must_tail ty (Callee.Intrinsic Intrinsic.LifetimeEnd) args) e =
    args_listed v args e
marker_operand v _ e = absurd (false≢true e)

not_true : (b : Bool) → (b ≡ true → ⊥) → b ≡ false
not_true true h = absurd (h refl)
not_true false h = refl

pub marks_own : (m : Module) (k : ℕ) (f : Function) → KeepsFunctionRules m k f → MarksOwn f
marks_own m k f rules v high = not_true (has_markers f v) (λ e.
    let x = at_any (λ (b : Block). list_any (is_marker_of v) b.instrs) f.blocks e in
    let y = at_any (is_marker_of v) x.element.instrs x.passes in
    apart (operand_low m k f rules x.index y.index y.element
    (by_instrs f x.index y.index x.element y.element x.got y.got) v (marker_operand v y.element y.passes)))
  where
    apart : v < length f.names → ⊥
    apart low = omega (arith, low, high)
