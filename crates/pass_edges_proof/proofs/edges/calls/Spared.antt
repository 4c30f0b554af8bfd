-- The results of suspends, which their switches alone use, are used no more often.
use Rattle.std.proofs.Common.{◌≡◌, ℕ, ◌+◌, ◌≤◌, Bool, true, false, List, [], ◌∷◌, ◌++◌, refl, ◌∙◌, subst, arith}
use Rattle.std.specs.Prelude.{Some, None, Option, cond, flat_map, map, nat_le, not, ◌||◌}
use Rattle.pass_early_proof.specs.rule_shape.Switches.{end_label, wrong_switch}
use Rattle.pass_early_proof.specs.rule_shape.Uses.{block_operands, phi_operands, uses_of}
use Rattle.pass_early_proof.proofs.ir_laws.facts.Truth.{and_second}
use Rattle.pass_early_proof.proofs.early.path_rules.SavedSwitches.{times_append, times_in, times_more}
use Rattle.pass_edges_proof.proofs.edges.shape.Uses.{IsNamed, all_named, ends_total}
use Rattle.pass_early_proof.proofs.rule_laws.rules.shape.Ordered.{IsSuspendValue}
use Rattle.pass_early_proof.specs.ir_parts.Contents.{ending_operands, instr_operands}
use Rattle.ir_model.specs.Names.{is_local}
use Rattle.ir_model.specs.declared.instr.Incoming.{Incoming}
use Rattle.ir_model.specs.declared.instr.Instr.{Instr}
use Rattle.ir_model.specs.declared.instr.Phi.{Phi}
use Rattle.ir_model.specs.declared.module.Block.{Block}
use Rattle.ir_model.specs.declared.module.Function.{Function}
use Rattle.ir_model.specs.declared.operand.Operand.{Operand}
use Rattle.pass_early_proof.specs.run_laws.changed.Changed.{Each}
use Rattle.pass_early_proof.proofs.ir_laws.paths.woven_rules.Unbroken.{of_listed}
use Rattle.pass_early_proof.proofs.rule_laws.rules.woven_shape.Switches.{IsFine, all_fine, is_fine, leads_to}
use Rattle.pass_early_proof.specs.rule_laws.rules.woven_shape.Calls.{is_suspend_call, shaping_calls}

abbrev pub IsOther : ℕ → Operand → Type 0
IsOther v x = is_local v x ≡ false

abbrev pub AreOther : ℕ → List Operand → Type 0
AreOther v xs = Each (IsOther v) xs

abbrev pub AreInstrsOther : ℕ → List Instr → Type 0
AreInstrsOther v is = Each (λ (i : Instr). AreOther v (instr_operands i)) is

abbrev pub ArePhisOther : ℕ → List Phi → Type 0
ArePhisOther v ps = Each (λ (p : Phi). Each (λ (i : Incoming). IsOther v i.value) p.incoming) ps

-- neither phis nor instructions of the block use the value
pub record IsSpared (v : ℕ) (b : Block) : Type 0 where
  pub phis : ArePhisOther v b.phis
  pub instrs : AreInstrsOther v b.instrs

module _ (v : ℕ) where
  times_none : (xs : List Operand) → AreOther v xs → times_in v xs ≡ 0
  times_none [] e = refl
  times_none (x ∷ xs) e = times_more v x xs ∙ (λ k. cond (e.0 k) 1 0 + times_none xs e.1 k)

  pub none_times : (xs : List Operand) → times_in v xs ≡ 0 → AreOther v xs
  none_times [] e = tt
  none_times (x ∷ xs) e = on (is_local v x) refl (times_more v x xs) (none_times xs)
    where
      on : (b : Bool) → is_local v x ≡ b → times_in v (x ∷ xs) ≡ cond b 1 0 + times_in v xs → (times_in v xs ≡ 0 → AreOther v xs) → AreOther v (x ∷ xs)
      on true d s again = absurd (omega (arith, s, e))
      on false d s again = (d, again (omega (arith, s, e)))

  values_other : (is : List Incoming) → Each (λ (i : Incoming). IsOther v i.value) is → AreOther v (map (λ i. i.value) is)
  values_other [] h = tt
  values_other (i ∷ is) h = (h.0, values_other is h.1)

  other_values : (is : List Incoming) → AreOther v (map (λ i. i.value) is) → Each (λ (i : Incoming). IsOther v i.value) is
  other_values [] h = tt
  other_values (i ∷ is) h = (h.0, other_values is h.1)

  phis_none : (ps : List Phi) → ArePhisOther v ps → times_in v (flat_map phi_operands ps) ≡ 0
  phis_none [] h = refl
  phis_none (p ∷ ps) h = times_append v (phi_operands p) (flat_map phi_operands ps) ∙ (λ k. times_none (phi_operands p) (values_other p.incoming h.0) k + phis_none ps h.1 k)

  none_phis : (ps : List Phi) → times_in v (flat_map phi_operands ps) ≡ 0 → ArePhisOther v ps
  none_phis [] e = tt
  none_phis (p ∷ ps) e =
      let s : times_in v (phi_operands p ++ flat_map phi_operands ps) ≡ times_in v (phi_operands p) + times_in v (flat_map phi_operands ps) = times_append v (phi_operands p) (flat_map phi_operands ps) in
      let one : times_in v (phi_operands p) ≡ 0 = omega (arith, s, e) in
      let rest : times_in v (flat_map phi_operands ps) ≡ 0 = omega (arith, s, e) in
      (other_values p.incoming (none_times (phi_operands p) one), none_phis ps rest)

  instrs_none : (is : List Instr) → AreInstrsOther v is → times_in v (flat_map instr_operands is) ≡ 0
  instrs_none [] h = refl
  instrs_none (i ∷ is) h = times_append v (instr_operands i) (flat_map instr_operands is) ∙ (λ k. times_none (instr_operands i) h.0 k + instrs_none is h.1 k)

  none_instrs : (is : List Instr) → times_in v (flat_map instr_operands is) ≡ 0 → AreInstrsOther v is
  none_instrs [] e = tt
  none_instrs (i ∷ is) e =
      let s : times_in v (instr_operands i ++ flat_map instr_operands is) ≡ times_in v (instr_operands i) + times_in v (flat_map instr_operands is) = times_append v (instr_operands i) (flat_map instr_operands is) in
      let one : times_in v (instr_operands i) ≡ 0 = omega (arith, s, e) in
      let rest : times_in v (flat_map instr_operands is) ≡ 0 = omega (arith, s, e) in
      (none_times (instr_operands i) one, none_instrs is rest)

  abbrev others : List Block → ℕ
  others [] = 0
  others (b ∷ bs) = times_in v (flat_map phi_operands b.phis) + times_in v (flat_map instr_operands b.instrs) + others bs

  abbrev all_total : List Block → ℕ
  all_total bs = times_in v (flat_map block_operands bs)

  total : (bs : List Block) → all_total bs ≡ others bs + ends_total v bs
  total [] = refl
  total (b ∷ bs) =
      let phis : List Operand = flat_map phi_operands b.phis in
      let instrs : List Operand = flat_map instr_operands b.instrs in
      let ends : List Operand = ending_operands b.term in
      let a : times_in v (block_operands b ++ flat_map block_operands bs) ≡ times_in v (block_operands b) + times_in v (flat_map block_operands bs) = times_append v (block_operands b) (flat_map block_operands bs) in
      let c : times_in v (block_operands b) ≡ times_in v phis + times_in v (instrs ++ ends) = times_append v phis (instrs ++ ends) in
      let d : times_in v (instrs ++ ends) ≡ times_in v instrs + times_in v ends = times_append v instrs ends in
      let rest : times_in v (flat_map block_operands bs) ≡ others bs + ends_total v bs = total bs in
      omega (arith, a, c, d, rest)

  spared_of : (bs : List Block) → others bs ≡ 0 → Each (IsSpared v) bs
  spared_of [] e = tt
  spared_of (b ∷ bs) e =
      let phis : times_in v (flat_map phi_operands b.phis) ≡ 0 = omega (arith, e) in
      let instrs : times_in v (flat_map instr_operands b.instrs) ≡ 0 = omega (arith, e) in
      let rest : others bs ≡ 0 = omega (arith, e) in
      (record { phis = none_phis b.phis phis; instrs = none_instrs b.instrs instrs }, spared_of bs rest)

  others_none : (bs : List Block) → Each (IsSpared v) bs → others bs ≡ 0
  others_none [] h = refl
  others_none (b ∷ bs) h = λ k. phis_none b.phis h.0.phis k + instrs_none b.instrs h.0.instrs k + others_none bs h.1 k

  pub uses_fewer : (f g : Function) → Each (IsSpared v) f.blocks → Each (IsSpared v) g.blocks → ends_total v g.blocks ≤ ends_total v f.blocks → uses_of g v ≤ uses_of f v
  uses_fewer f g h k le =
      let a : uses_of f v ≡ others f.blocks + ends_total v f.blocks = total f.blocks in
      let b : uses_of g v ≡ others g.blocks + ends_total v g.blocks = total g.blocks in
      let c : others f.blocks ≡ 0 = others_none f.blocks h in
      let d : others g.blocks ≡ 0 = others_none g.blocks k in
      omega (arith, a, b, c, d, le)

  pub once_spared : (f : Function) → uses_of f v ≤ 1 → 1 ≤ ends_total v f.blocks → Each (IsSpared v) f.blocks
  once_spared f most some =
      let a : uses_of f v ≡ others f.blocks + ends_total v f.blocks = total f.blocks in
      spared_of f.blocks (omega (arith, a, most, some))

  pub ends_once : (f : Function) → uses_of f v ≤ 1 → ends_total v f.blocks ≤ 1
  ends_once f most = let a : uses_of f v ≡ others f.blocks + ends_total v f.blocks = total f.blocks in omega (arith, a, most)

-- ---- the result of a suspend

used_once : (n : ℕ) → nat_le n 1 ≡ true → n ≤ 1
used_once n e = grind arith

pub record IsUsedAtEnd (f : Function) (v : ℕ) : Type 0 where
  pub most : uses_of f v ≤ 1
  pub some : 1 ≤ ends_total v f.blocks

module _ (k : ℕ) (f : Function) (coroutine : f.coroutine ≡ true) (switches : wrong_switch k f ≡ None) where
  used_by : (v : ℕ) (t : Bool) (r default : Option ℕ) → t ≡ true → r ≡ Some v → (not t || is_fine (end_label f) (uses_of f) r default) ≡ true → ((l : ℕ) → r ≡ Some v → default ≡ Some l → 1 ≤ ends_total v f.blocks) → IsUsedAtEnd f v
  used_by v false r default s e h one = absurd (cc)
  used_by v true None default s e h one = absurd (cc)
  used_by v true (Some u) None s e h one = absurd (cc)
  used_by v true (Some u) (Some l) s e h one =
      let same : u ≡ v = cc in
      record {
        most = subst (λ (n : ℕ). uses_of f n ≤ 1) same (used_once (uses_of f u) (and_second (leads_to (end_label f) (Some l)) (nat_le (uses_of f u) 1) h));
        some = one l e refl;
      }

  pub used_at_end : (v : ℕ) → IsSuspendValue f v → IsUsedAtEnd f v
  used_at_end v x =
      used_by v (is_suspend_call x.call) x.call.result x.call.default x.suspends x.result
      (of_listed (IsFine (end_label f) (uses_of f)) (shaping_calls f) (all_fine k f coroutine switches) x.call x.listed)
      (of_listed (IsNamed v f) (shaping_calls f) (all_named v f) x.call x.listed)

  pub spared : (v : ℕ) → IsSuspendValue f v → Each (IsSpared v) f.blocks
  spared v x = let u = used_at_end v x in once_spared v f u.most u.some
