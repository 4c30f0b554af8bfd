-- What splitting asks of a coroutine's calls, where edges have blocks.
use Rattle.std.proofs.Common.{◌≡◌, ℕ, Bool, true, false, List, [], ◌∷◌, length, refl, sym, ap, ◌∙◌, subst, ◌≤◌, arith}
use Rattle.std.specs.Prelude.{Some, None, Option, nat_le, not, option_map, slice_get, ◌||◌, ◌==◌}
use Rattle.pass_early_proof.specs.rule_shape.OneOfEach.{calls_of, wrong_call}
use Rattle.pass_early_proof.specs.rule_shape.Switches.{end_label, wrong_switch}
use Rattle.pass_early_proof.specs.rule_shape.Uses.{uses_of}
use Rattle.pass_early_proof.proofs.ir_laws.facts.Truth.{equal_numbers, and_first, and_second}
use Rattle.pass_early_proof.specs.ir_laws.facts.renamed.Regular.{passes}
use Rattle.pass_early_proof.proofs.rule_laws.rules.source_rules.Ends.{end_first}
use Rattle.pass_early_proof.proofs.rule_laws.rules.source_rules.Locals.{own_label}
use Rattle.pass_edges_proof.proofs.edges.paths.Tables.{flag_at}
use Rattle.pass_early_proof.specs.ir_laws.paths.threads.Labels.{HasNamedLabels}
use Rattle.pass_edges_proof.specs.edges.paths.Phis.{AreLabelsOnce}
use Rattle.pass_edges_proof.specs.edges.paths.Spots.{table_of}
use Rattle.pass_edges.specs.EdgeBlocks.{with_edge_blocks}
use Rattle.pass_edges.specs.Edges.{has_phis, phi_flags}
use Rattle.pass_edges_proof.proofs.edges.shape.Unsplit.{IsUnsplit, Unflagged, same_blocks}
use Rattle.pass_early_proof.proofs.rule_laws.rules.known_labels.Known.{labels_known}
use Rattle.pass_early_proof.specs.rule_laws.rules.function_rules.Kept.{KeepsFunctionRules}
use Rattle.ir_model.specs.Calls.{first_result}
use Rattle.ir_model.specs.declared.instr.Instr.{Instr}
use Rattle.ir_model.specs.declared.module.Block.{Block}
use Rattle.ir_model.specs.declared.module.Function.{Function}
use Rattle.ir_model.specs.declared.module.Module.{Module}
use Rattle.ir_model.specs.declared.operand.Callee.{Callee}
use Rattle.ir_model.specs.declared.operand.Intrinsic.{Intrinsic}
use Rattle.pass_early_proof.specs.ir_paths.Windows.{end_block, instr_in, is_call_of}
use Rattle.pass_early_proof.specs.run_laws.changed.Changed.{Each}
use Rattle.pass_early_proof.proofs.ir_laws.facts.Members.{each_turns}
use Rattle.pass_early_proof.proofs.rule_laws.rules.woven_shape.Found.{made, not_begin, result_made}
use Rattle.pass_early_proof.proofs.rule_laws.rules.woven_shape.Gathered.{to_row}
use Rattle.pass_early_proof.proofs.rule_laws.rules.woven_shape.OneOfEach.{IsRight, all_right, wrong_call_same}
use Rattle.pass_early_proof.proofs.rule_laws.rules.woven_shape.Switches.{IsFine, all_fine, is_fine, leads_to, wrong_switch_same}
use Rattle.pass_early_proof.specs.rule_laws.rules.woven_shape.Calls.{calls_in, is_suspend_call, shaping_calls, ShapingCall}
use Rattle.pass_edges_proof.proofs.edges.shape.Uses.{IsNamed, all_named, blocks_same, ends_total, no_phi}
use Rattle.pass_early_proof.specs.flow_solver.Paths.{IsListed}
use Rattle.pass_early_proof.proofs.ir_laws.paths.woven_rules.Unbroken.{of_listed}
use Rattle.pass_early_proof.proofs.ir_laws.facts.Lists.{none_of}

module _ (m : Module) (k : ℕ) (f : Function) (rules : KeepsFunctionRules m k f) (coroutine : f.coroutine ≡ true) (calls : wrong_call k f ≡ None) (switches : wrong_switch k f ≡ None) where
  named : HasNamedLabels f
  named = labels_known k f rules.tabled m rules.known

  once : AreLabelsOnce f
  once = own_label k f rules.definitions

  -- ---- the end's block has no phis, so that edges to it get no blocks

  front : (b : Block) (at : ℕ) (is : List Instr) → passes (is_call_of Intrinsic.CoroEnd) (slice_get is 0) ≡ true → Each (IsRight (calls_of k f)) (calls_in b at is) → at ≡ 0
  front b at [] e h = absurd (cc)
  front b at (Instr.Call result must_tail ty (Callee.Intrinsic Intrinsic.CoroEnd) args ∷ is) e h = equal_numbers at 0 (and_first (at == 0) _ h.0)
  front b at (_ ∷ is) e h = absurd (cc)

  no_phis : (b : Block) → slice_get f.blocks (end_block f) ≡ Some b → b.phis ≡ []
  no_phis b there =
      none_of b.phis
      (front b (length b.phis) b.instrs
      (subst (λ (o : Option Block). passes (is_call_of Intrinsic.CoroEnd) (instr_in o 0) ≡ true) there (end_first k f coroutine calls))
      (to_row (IsRight (calls_of k f)) f.blocks (all_right k f f refl coroutine calls) (end_block f) b there))

  unflagged : (label : ℕ) → end_label f ≡ Some label → Unflagged (phi_flags f) label
  unflagged label e = on (slice_get f.blocks (end_block f)) refl e
    where
      on : (o : Option Block) → slice_get f.blocks (end_block f) ≡ o → option_map (λ (b : Block). b.label) o ≡ Some label → Unflagged (phi_flags f) label
      on None there d = absurd (cc)
      on (Some b) there d =
          let same : b.label ≡ label = cc in
          subst (Unflagged (phi_flags f)) same (flag_at f once named (end_block f) b there ∙ ap has_phis (no_phis b there))

  -- the default edges of suspends lead there
  end_is : (o : Option ℕ) (label : ℕ) → leads_to o (Some label) ≡ true → o ≡ Some label
  end_is None label e = absurd (cc)
  end_is (Some n) label e = ap (λ (x : ℕ). Some x) (equal_numbers n label e)

  unsplit : (t : Bool) (r default : Option ℕ) → (not t || is_fine (end_label f) (uses_of f) r default) ≡ true → t ≡ true → (label : ℕ) → default ≡ Some label → Unflagged (phi_flags f) label
  unsplit false r default h s label e = absurd (cc)
  unsplit true None default h s label e = absurd (cc)
  unsplit true (Some v) None h s label e = absurd (cc)
  unsplit true (Some v) (Some l) h s label e =
      let same : l ≡ label = cc in
      unflagged label (end_is (end_label f) label (subst (λ (n : ℕ). leads_to (end_label f) (Some n) ≡ true) same (and_first (leads_to (end_label f) (Some l)) (nat_le (uses_of f v) 1) h)))

  pub same_calls : shaping_calls (with_edge_blocks f) ≡ shaping_calls f
  same_calls =
      same_blocks (phi_flags f) (table_of f) (length f.names) f.blocks
      (each_turns (IsFine (end_label f) (uses_of f)) (IsUnsplit (phi_flags f)) (λ c h. unsplit (is_suspend_call c) c.result c.default h) (shaping_calls f) (all_fine k f coroutine switches))

  pub calls_kept : wrong_call k (with_edge_blocks f) ≡ None
  calls_kept = wrong_call_same k f (with_edge_blocks f) same_calls coroutine calls refl

  pub begin_kept : first_result Intrinsic.CoroBegin (with_edge_blocks f) ≡ first_result Intrinsic.CoroBegin f
  begin_kept = result_made Intrinsic.CoroBegin not_begin (with_edge_blocks f) ∙ ap (made Intrinsic.CoroBegin) same_calls ∙ sym (result_made Intrinsic.CoroBegin not_begin f)

  -- ---- the results of suspends are used as often

  used_once : (n : ℕ) → nat_le n 1 ≡ true → n ≤ 1
  used_once n e = grind arith

  uses_by : (t : Bool) (v : ℕ) (r default : Option ℕ) → t ≡ true → r ≡ Some v → (not t || is_fine (end_label f) (uses_of f) r default) ≡ true → ((l : ℕ) → r ≡ Some v → default ≡ Some l → 1 ≤ ends_total v f.blocks) → uses_of (with_edge_blocks f) v ≤ uses_of f v
  uses_by false v r default s e h one = absurd (cc)
  uses_by true v None default s e h one = absurd (cc)
  uses_by true v (Some u) None s e h one = absurd (cc)
  uses_by true v (Some u) (Some l) s e h one =
      let same : u ≡ v = cc in
      let most : uses_of f v ≤ 1 = subst (λ (n : ℕ). uses_of f n ≤ 1) same (used_once (uses_of f u) (and_second (leads_to (end_label f) (Some l)) (nat_le (uses_of f u) 1) h)) in
      let now : uses_of (with_edge_blocks f) v ≡ uses_of f v = blocks_same v (phi_flags f) (table_of f) (length f.names) f.blocks (no_phi v f (one l e refl) most) in
      omega (arith, now)

  pub uses_kept : (c : ShapingCall) (v : ℕ) → IsListed c (shaping_calls f) → is_suspend_call c ≡ true → c.result ≡ Some v → uses_of (with_edge_blocks f) v ≤ uses_of f v
  uses_kept c v l s e =
      uses_by (is_suspend_call c) v c.result c.default s e
      (of_listed (IsFine (end_label f) (uses_of f)) (shaping_calls f) (all_fine k f coroutine switches) c l)
      (of_listed (IsNamed v f) (shaping_calls f) (all_named v f) c l)

  pub switches_kept : wrong_switch k (with_edge_blocks f) ≡ None
  switches_kept = wrong_switch_same k f (with_edge_blocks f) same_calls uses_kept coroutine switches refl
