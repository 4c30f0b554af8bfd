-- The operands of a renamed function, and how its parts come from the function's.
use Rattle.std.proofs.Common.{◌≡◌, ℕ, zero, suc, ◌+◌, Bool, true, false, List, [], ◌∷◌, ◌++◌, refl, sym, ap, ◌∙◌}
use Rattle.std.specs.Prelude.{Some, None, cond, flat_map, map, slice_get, if◌then◌else◌, ◌==◌}
use Rattle.rule_laws.specs.ir_calls.Calls.{is_null, is_true}
use Rattle.rule_laws.specs.rule_shape.Uses.{block_operands, phi_operands, uses_of}
use Rattle.rule_laws.proofs.ir_laws.facts.Truth.{equal_numbers}
use Rattle.pass_early_proof.proofs.early.renaming.Parts.{local_same}
use Rattle.pass_early_proof.specs.early.renaming.Passes.{renamed_block, renamed_coroutine}
use Rattle.pass_early_proof.specs.early.renaming.Regular.{IsPlain}
use Rattle.pass_early.specs.Renaming.{is_renamed, renamed, renamed_arg, renamed_incoming, renamed_instr, renamed_phi, renamed_term, renamed_value}
use Rattle.pass_early.specs.declared.renaming.Renaming.{Renaming}
use Rattle.pass_early_proof.proofs.early.path_rules.SavedSwitches.{times_append, times_in, times_more}
use Rattle.rule_laws.specs.ir_parts.Contents.{arg_operands, ending_operands, instr_operands, result_of}
use Rattle.ir_model.specs.Names.{is_local}
use Rattle.ir_model.specs.declared.instr.Incoming.{Incoming}
use Rattle.ir_model.specs.declared.instr.Instr.{Instr}
use Rattle.ir_model.specs.declared.instr.Phi.{Phi}
use Rattle.ir_model.specs.declared.instr.Terminator.{Terminator}
use Rattle.ir_model.specs.declared.module.Block.{Block}
use Rattle.ir_model.specs.declared.module.Function.{Function}
use Rattle.ir_model.specs.declared.operand.Arg.{Arg}
use Rattle.ir_model.specs.declared.operand.Callee.{Callee}
use Rattle.ir_model.specs.declared.operand.Operand.{Operand}

-- ---- elements of mapped lists

pub map_was : {A B : Type 0} (g : A → B) (xs : List A) (k : ℕ) (y : B) → slice_get (map g xs) k ≡ Some y → (x : A) × ((slice_get xs k ≡ Some x) × (y ≡ g x))
map_was g [] k y e = absurd (cc)
map_was g (x ∷ xs) zero y e = let same : y ≡ g x = cc in (x, (refl, same))
map_was g (x ∷ xs) (suc k) y e = map_was g xs k y e

module _ (r : Renaming) where
  -- ---- operands

  pub local_stays : (v : ℕ) (x : Operand) → is_renamed r v ≡ false → is_local v x ≡ true → is_local v (renamed r x) ≡ true
  local_stays v (Operand.Local n) stays e =
      let same : v ≡ n = equal_numbers v n e in
      let value : renamed_value r n ≡ n = ap (λ (b : Bool). if b then r.to else n) (ap (is_renamed r) (sym same) ∙ stays) in
      ap (λ (m : ℕ). v == m) value ∙ e
  local_stays v _ stays e = absurd (cc)

  pub null_stays : (x : Operand) → is_null (renamed r x) ≡ is_null x
  null_stays (Operand.Local n) = refl
  null_stays (Operand.Global n) = refl
  null_stays (Operand.Number z) = refl
  null_stays Operand.True = refl
  null_stays Operand.False = refl
  null_stays Operand.Null = refl
  null_stays Operand.None = refl
  null_stays Operand.Poison = refl

  pub true_stays : (x : Operand) → is_true (renamed r x) ≡ is_true x
  true_stays (Operand.Local n) = refl
  true_stays (Operand.Global n) = refl
  true_stays (Operand.Number z) = refl
  true_stays Operand.True = refl
  true_stays Operand.False = refl
  true_stays Operand.Null = refl
  true_stays Operand.None = refl
  true_stays Operand.Poison = refl

  pub args_renamed : (args : List Arg) → arg_operands (map (renamed_arg r) args) ≡ map (renamed r) (arg_operands args)
  args_renamed [] = refl
  args_renamed (a ∷ args) = ap (λ (xs : List Operand). renamed r a.value ∷ xs) (args_renamed args)

  pub operands_renamed : (i : Instr) → instr_operands (renamed_instr r i) ≡ map (renamed r) (instr_operands i)
  operands_renamed (Instr.Binary result op flags ty a b) = refl
  operands_renamed (Instr.Icmp result pred ty a b) = refl
  operands_renamed (Instr.Select result x a b) = refl
  operands_renamed (Instr.Cast result op nneg arg to) = refl
  operands_renamed (Instr.Alloca result ty align) = refl
  operands_renamed (Instr.Load result ty p align) = refl
  operands_renamed (Instr.Store arg p align) = refl
  operands_renamed (Instr.Gep result inbounds ty base indices) = ap (λ (xs : List Operand). renamed r base ∷ xs) (args_renamed indices)
  operands_renamed (Instr.Call result must_tail ty (Callee.Named n) args) = args_renamed args
  operands_renamed (Instr.Call result must_tail ty (Callee.Allocator a) args) = args_renamed args
  operands_renamed (Instr.Call result must_tail ty (Callee.Intrinsic i) args) = args_renamed args
  operands_renamed (Instr.Call result must_tail ty (Callee.Local n) args) = ap (λ (xs : List Operand). Operand.Local (renamed_value r n) ∷ xs) (args_renamed args)

  pub result_stays : (i : Instr) → result_of (renamed_instr r i) ≡ result_of i
  result_stays (Instr.Binary result op flags ty a b) = refl
  result_stays (Instr.Icmp result pred ty a b) = refl
  result_stays (Instr.Select result x a b) = refl
  result_stays (Instr.Cast result op nneg arg to) = refl
  result_stays (Instr.Alloca result ty align) = refl
  result_stays (Instr.Load result ty p align) = refl
  result_stays (Instr.Store arg p align) = refl
  result_stays (Instr.Gep result inbounds ty base indices) = refl
  result_stays (Instr.Call result must_tail ty callee args) = refl

  -- ---- how often a local is an operand

  module _ (v : ℕ) (plain : IsPlain r v) where
    times_renamed : (xs : List Operand) → times_in v (map (renamed r) xs) ≡ times_in v xs
    times_renamed [] = refl
    times_renamed (x ∷ xs) =
        times_more v (renamed r x) (map (renamed r) xs)
        ∙ (λ k. cond (local_same r v plain x k) 1 0 + times_renamed xs k)
        ∙ sym (times_more v x xs)

    incoming_renamed : (is : List Incoming) → map (λ i. i.value) (map (renamed_incoming r) is) ≡ map (renamed r) (map (λ i. i.value) is)
    incoming_renamed [] = refl
    incoming_renamed (i ∷ is) = ap (λ (xs : List Operand). renamed r i.value ∷ xs) (incoming_renamed is)

    phis_times : (ps : List Phi) → times_in v (flat_map phi_operands (map (renamed_phi r) ps)) ≡ times_in v (flat_map phi_operands ps)
    phis_times [] = refl
    phis_times (p ∷ ps) =
        times_append v (phi_operands (renamed_phi r p)) (flat_map phi_operands (map (renamed_phi r) ps))
        ∙ (λ k. (ap (times_in v) (incoming_renamed p.incoming) ∙ times_renamed (phi_operands p)) k + phis_times ps k)
        ∙ sym (times_append v (phi_operands p) (flat_map phi_operands ps))

    instrs_times : (is : List Instr) → times_in v (flat_map instr_operands (map (renamed_instr r) is)) ≡ times_in v (flat_map instr_operands is)
    instrs_times [] = refl
    instrs_times (i ∷ is) =
        times_append v (instr_operands (renamed_instr r i)) (flat_map instr_operands (map (renamed_instr r) is))
        ∙ (λ k. (ap (times_in v) (operands_renamed i) ∙ times_renamed (instr_operands i)) k + instrs_times is k)
        ∙ sym (times_append v (instr_operands i) (flat_map instr_operands is))

    first_times : (x : Operand) (xs : List Operand) → times_in v (renamed r x ∷ xs) ≡ times_in v (x ∷ xs)
    first_times x xs = times_more v (renamed r x) xs ∙ ap (λ (b : Bool). cond b 1 0 + times_in v xs) (local_same r v plain x) ∙ sym (times_more v x xs)

    ending_times : (t : Terminator) → times_in v (ending_operands (renamed_term r t)) ≡ times_in v (ending_operands t)
    ending_times (Terminator.Jump label) = refl
    ending_times (Terminator.Branch x a b) = first_times x []
    ending_times (Terminator.Switch arg default cases) = first_times arg.value (map (λ k. k.arg.value) cases)
    ending_times (Terminator.Ret None) = refl
    ending_times (Terminator.Ret (Some a)) = first_times a.value []
    ending_times Terminator.Unreachable = refl

    blocks_times : (bs : List Block) → times_in v (flat_map block_operands (map (renamed_block r) bs)) ≡ times_in v (flat_map block_operands bs)
    blocks_times [] = refl
    blocks_times (b ∷ bs) =
        times_append v (block_operands (renamed_block r b)) (flat_map block_operands (map (renamed_block r) bs))
        ∙ (λ k. own k + blocks_times bs k)
        ∙ sym (times_append v (block_operands b) (flat_map block_operands bs))
      where
        own : times_in v (block_operands (renamed_block r b)) ≡ times_in v (block_operands b)
        own =
            times_append v (flat_map phi_operands (map (renamed_phi r) b.phis)) (flat_map instr_operands (map (renamed_instr r) b.instrs) ++ ending_operands (renamed_term r b.term))
            ∙ (λ k. phis_times b.phis k + (times_append v (flat_map instr_operands (map (renamed_instr r) b.instrs)) (ending_operands (renamed_term r b.term)) ∙ (λ j. instrs_times b.instrs j + ending_times b.term j) ∙ sym (times_append v (flat_map instr_operands b.instrs) (ending_operands b.term))) k)
            ∙ sym (times_append v (flat_map phi_operands b.phis) (flat_map instr_operands b.instrs ++ ending_operands b.term))

    pub uses_renamed : (f : Function) → uses_of (renamed_coroutine r f) v ≡ uses_of f v
    uses_renamed f = blocks_times f.blocks
