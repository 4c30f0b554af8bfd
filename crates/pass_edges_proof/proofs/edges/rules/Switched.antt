-- The switches of suspends (rule K3), which stay where edges have blocks, but for where their defaults lead.
use Rattle.std.proofs.Common.{Bool, List, None, Option, Some, [], ap, arith, false, if◌then◌else◌, length, not, refl, subst, sym, true, ℕ, ⊎_elim, ◌&&◌, ◌+◌, ◌∙◌, ◌∷◌, ◌≡◌}
use Rattle.std.specs.Prelude.{slice_get}
use Rattle.pass_early_proof.specs.rule_shape.Places.{is_the}
use Rattle.pass_early_proof.specs.rule_shape.Switches.{are_both, breaks_switch, end_label, is_last, is_switch_on, is_switched, is_switched_in, wrong_switch}
use Rattle.pass_early_proof.proofs.rule_laws.rules.renamed.Switches.{none_part}
use Rattle.pass_early_proof.proofs.ir_laws.facts.Truth.{and_first, and_second, holds}
use Rattle.pass_early_proof.proofs.rule_laws.rules.path_rules.Holding.{of_parts}
use Rattle.pass_edges_proof.proofs.edges.paths.Blocks.{own_number}
use Rattle.pass_edges_proof.proofs.edges.rules.Homes.{IsEdge, IsOwn, home, own_block}
use Rattle.pass_edges_proof.specs.edges.rules.Returns.{AreSwitched}
use Rattle.pass_early_proof.specs.rule_laws.rules.rows.Returns.{IsSwitched}
use Rattle.pass_edges.specs.EdgeBlocks.{edge_block, split_cases, split_label, split_term, with_edge_blocks}
use Rattle.pass_edges.specs.Edges.{after_edge, ends_in_suspend, is_suspend, phi_flags}
use Rattle.pass_early_proof.specs.ir_parts.Parts.{first_part, instr_place, parts_of}
use Rattle.ir_model.specs.Names.{is_local}
use Rattle.ir_model.specs.declared.instr.Case.{Case}
use Rattle.ir_model.specs.declared.instr.Instr.{Instr}
use Rattle.ir_model.specs.declared.instr.Terminator.{Terminator}
use Rattle.ir_model.specs.declared.module.Block.{Block}
use Rattle.ir_model.specs.declared.module.Function.{Function}
use Rattle.ir_model.specs.declared.operand.Arg.{Arg}
use Rattle.ir_model.specs.declared.operand.Callee.{Callee}
use Rattle.ir_model.specs.declared.operand.Intrinsic.{Intrinsic}
use Rattle.ir_model.specs.declared.operand.Operand.{Operand}
use Rattle.pass_early_proof.proofs.ir_paths.Search.{eq_from}
use Rattle.pass_early_proof.specs.ir_paths.Windows.{call_result, is_call_of}

-- ---- one switch

pub both_split : (flags : List Bool) (resumes : Bool) (n : ℕ) (cases : List Case) → are_both cases ≡ true → are_both (split_cases flags resumes n cases) ≡ true
both_split flags resumes n (a ∷ b ∷ []) h = h
both_split flags resumes n _ h = absurd (cc)

-- a switch on a value, with exactly the cases 0 and 1
record IsSwitchOn (v : ℕ) (t : Terminator) : Type 0 where
  arg : Arg
  default : ℕ
  cases : List Case
  is : t ≡ Terminator.Switch arg default cases
  on : arg.value ≡ Operand.Local v
  both : are_both cases ≡ true

local_is : (v : ℕ) (x : Operand) → is_local v x ≡ true → x ≡ Operand.Local v
local_is v (Operand.Local n) e = ap Operand.Local (sym (eq_from v n e))
local_is v _ e = absurd (cc)

switch_on : (v : ℕ) (end : Option ℕ) (t : Terminator) → is_switch_on v end t ≡ true → IsSwitchOn v t
switch_on v end (Terminator.Switch arg default cases) e = record {
  arg = arg;
  default = default;
  cases = cases;
  is = refl;
  on = local_is v arg.value (and_first (is_local v arg.value) (are_both cases && is_the end default) e);
  both = and_first (are_both cases) (is_the end default) (and_second (is_local v arg.value) (are_both cases && is_the end default) e);
}
switch_on v end (Terminator.Jump label) e = absurd (cc)
switch_on v end (Terminator.Branch x a b) e = absurd (cc)
switch_on v end (Terminator.Ret value) e = absurd (cc)
switch_on v end Terminator.Unreachable e = absurd (cc)

suspend_call : (i : Instr) → is_suspend i ≡ true → is_call_of Intrinsic.CoroSuspend i ≡ true
suspend_call (Instr.Call result must_tail ty (Callee.Intrinsic Intrinsic.CoroSuspend) args) e = refl
suspend_call _ e = absurd (cc)

-- ---- a coroutine without a fault of K3

module _ (func : ℕ) (f : Function) (coroutine : f.coroutine ≡ true) (switches : wrong_switch func f ≡ None) where
  switched_by : (k : ℕ) (b : Block) (x : ℕ) (i : Instr) → slice_get f.blocks k ≡ Some b → (o : Option ℕ) → call_result i ≡ o → is_switched f (instr_place func k (length b.phis + x)) o ≡ true → IsSwitched b x i
  switched_by k b x i there None d h = absurd (cc)
  switched_by k b x i there (Some v) d h =
      let now : is_switched_in f v (instr_place func k (length b.phis + x)) (Some b) ≡ true = sym (ap (is_switched_in f v (instr_place func k (length b.phis + x))) there) ∙ h in
      let rest = and_second (is_last b (Some (length b.phis + x))) _ now in
      let sum : length b.phis + x + 1 ≡ length b.phis + length b.instrs = eq_from (length b.phis + x + 1) (length b.phis + length b.instrs) (and_first (is_last b (Some (length b.phis + x))) _ now) in
      let t = switch_on v (end_label f) b.term (and_first (is_switch_on v (end_label f) b.term) _ rest) in
      record { last = omega (arith, sum); value = v; result = d; arg = t.arg; default = t.default; cases = t.cases; is = t.is; on = t.on; both = t.both }

  pub switched : AreSwitched f
  switched k x b i there stands s =
      let none_wrong : first_part (breaks_switch f) (parts_of func f) ≡ None = subst (λ (c : Bool). (if c then first_part (breaks_switch f) (parts_of func f) else None) ≡ None) coroutine switches in
      let parts = of_parts (λ y. breaks_switch f y.0 y.1 ≡ false) func f (none_part (breaks_switch f) (parts_of func f) none_wrong) in
      let own = (parts.blocks k b there).instrs x i stands in
      let is : is_switched f (instr_place func k (length b.phis + x)) (call_result i) ≡ true =
      holds (is_switched f (instr_place func k (length b.phis + x)) (call_result i)) (sym (ap (λ (t : Bool). t && not (is_switched f (instr_place func k (length b.phis + x)) (call_result i))) (suspend_call i s)) ∙ own) in
      switched_by k b x i there (call_result i) refl is

  -- a block of the function, as it is then
  own_switched : (j : ℕ) (b : Block) (x : ℕ) (i : Instr) → IsSwitched b x i → IsSwitched (own_block f j b) x i
  own_switched j b x i s = record {
    last = s.last;
    value = s.value;
    result = s.result;
    arg = s.arg;
    default = split_label (phi_flags f) false (own_number f j) s.default;
    cases = split_cases (phi_flags f) (ends_in_suspend b.instrs) (after_edge (phi_flags f) false (own_number f j) s.default) s.cases;
    is = ap (split_term (phi_flags f) (ends_in_suspend b.instrs) (own_number f j)) s.is;
    on = s.on;
    both = both_split (phi_flags f) (ends_in_suspend b.instrs) (after_edge (phi_flags f) false (own_number f j) s.default) s.cases s.both;
  }

  pub switches_stay : AreSwitched (with_edge_blocks f)
  switches_stay k x c i there stands s = ⊎_elim
      (λ (y : IsOwn f k c).
      let own : slice_get y.block.instrs x ≡ Some i = ap (λ (d : Block). slice_get d.instrs x) (sym y.is) ∙ stands in
      subst (λ (d : Block). IsSwitched d x i) (sym y.is) (own_switched y.index y.block x i (switched y.index x y.block i y.got own s)))
      (λ (y : IsEdge f k c). let none : slice_get (edge_block y.edge).instrs x ≡ Some i = ap (λ (d : Block). slice_get d.instrs x) (sym y.is) ∙ stands in absurd (cc))
      (home f k c there)
