-- What a suspend makes is used by its switch alone (rule K3).
use Rattle.std.proofs.Common.{◌≡◌, ◌⊎◌, inl, inr, ℕ, zero, suc, ◌+◌, ◌≤◌, Bool, true, false, cond, List, [], ◌∷◌, ◌++◌, flat_map, length, refl, sym, ap, ◌∙◌, subst, arith}
use Rattle.std.proofs.lemmas.Bool.{leb-true}
use Rattle.std.proofs.lemmas.List.Sums.{sum_by-append, sum_by-cons}
use Rattle.std.specs.Prelude.{None, Option, Some, count_by, map, nat_le, not, slice_get, ◌==◌, ◌&&◌, if◌then◌else◌}
use Rattle.ir_laws.specs.facts.crossing.Crossed.{is_switch}
use Rattle.ir_laws.specs.ir_base.declared.outcome.Place.{Place}
use Rattle.rule_shape.specs.Switches.{breaks_switch, end_label, is_last, is_switch_on, is_switched, is_switched_in, wrong_switch}
use Rattle.rule_shape.specs.Uses.{block_operands, phi_operands, uses_of}
use Rattle.rule_uses.specs.Uses.{locals_in}
use Rattle.ir_laws.proofs.facts.Truth.{equal_numbers, itself, and_first, and_second}
use Rattle.rule_laws.proofs.rules.renamed.Outside.{at_point}
use Rattle.rule_laws.proofs.rules.renamed.Switches.{none_part}
use Rattle.ir_laws.specs.flow_solver.Paths.{IsListed}
use Rattle.ir_parts.specs.Contents.{ending_operands, instr_operands, result_of}
use Rattle.ir_parts.specs.Parts.{first_part, instr_place, parts_of}
use Rattle.ir_laws.specs.ir_model.Names.{is_local}
use Rattle.ir_laws.specs.ir_model.declared.instr.Case.{Case}
use Rattle.ir_laws.specs.ir_model.declared.instr.Instr.{Instr}
use Rattle.ir_laws.specs.ir_model.declared.instr.Phi.{Phi}
use Rattle.ir_laws.specs.ir_model.declared.instr.Terminator.{Terminator}
use Rattle.ir_laws.specs.ir_model.declared.module.Block.{Block}
use Rattle.ir_laws.specs.ir_model.declared.module.Function.{Function}
use Rattle.ir_laws.specs.ir_model.declared.operand.Intrinsic.{Intrinsic}
use Rattle.ir_laws.specs.ir_model.declared.operand.Operand.{Operand}
use Rattle.ir_laws.specs.ir_paths.Windows.{call_result, instr_in, is_call_of}
use Rattle.rule_windows.specs.Points.{phi_count, phis_in}

-- ---- how often operands are a local

module _ (v : ℕ) where
  abbrev hits : List Operand → ℕ
  hits xs = count_by (is_local v) xs

  hits_both : (xs ys : List Operand) → hits (xs ++ ys) ≡ hits xs + hits ys
  hits_both xs ys = sum_by-append (λ (x : Operand). cond (is_local v x) 1 0) xs ys

  hits_more : (x : Operand) (xs : List Operand) → hits (x ∷ xs) ≡ cond (is_local v x) 1 0 + hits xs
  hits_more x xs = sum_by-cons (λ (y : Operand). cond (is_local v y) 1 0) x xs

  pub hits_first : (x : Operand) (xs : List Operand) → is_local v x ≡ true → 1 ≤ hits (x ∷ xs)
  hits_first x xs e = let all = hits_more x xs in let one : ◌≡◌ {A = ℕ} (cond (is_local v x) 1 0) 1 = ap (λ (b : Bool). cond b 1 0) e in omega (arith, all, one)

  hits_later : (x : Operand) (xs : List Operand) → 1 ≤ hits xs → 1 ≤ hits (x ∷ xs)
  hits_later x xs h = let all = hits_more x xs in omega (arith, all, h)

  pub hits_listed : (xs : List Operand) → IsListed v (locals_in xs) → 1 ≤ hits xs
  hits_listed [] l = absurd l
  hits_listed (Operand.Local n ∷ xs) (inl e) = hits_first (Operand.Local n) xs (ap (λ (k : ℕ). v == k) (sym e) ∙ itself v)
  hits_listed (Operand.Local n ∷ xs) (inr l) = hits_later (Operand.Local n) xs (hits_listed xs l)
  hits_listed (Operand.Global n ∷ xs) l = hits_later (Operand.Global n) xs (hits_listed xs l)
  hits_listed (Operand.Number z ∷ xs) l = hits_later (Operand.Number z) xs (hits_listed xs l)
  hits_listed (Operand.True ∷ xs) l = hits_later Operand.True xs (hits_listed xs l)
  hits_listed (Operand.False ∷ xs) l = hits_later Operand.False xs (hits_listed xs l)
  hits_listed (Operand.Null ∷ xs) l = hits_later Operand.Null xs (hits_listed xs l)
  hits_listed (Operand.None ∷ xs) l = hits_later Operand.None xs (hits_listed xs l)
  hits_listed (Operand.Poison ∷ xs) l = hits_later Operand.Poison xs (hits_listed xs l)

  -- those of one element, and of two
  in_all : {A : Type 0} (g : A → List Operand) (xs : List A) (x : A) → IsListed x xs → hits (g x) ≤ hits (flat_map g xs)
  in_all g [] x l = absurd l
  in_all g (y ∷ xs) x (inl e) = let all = hits_both (g y) (flat_map g xs) in let same : hits (g x) ≡ hits (g y) = ap (λ z. hits (g z)) e in omega (arith, all, same)
  in_all g (y ∷ xs) x (inr l) = let all = hits_both (g y) (flat_map g xs) in let more = in_all g xs x l in omega (arith, all, more)

  at_listed : {A : Type 0} (xs : List A) (k : ℕ) (x : A) → slice_get xs k ≡ Some x → IsListed x xs
  at_listed [] k x e = absurd (cc)
  at_listed (y ∷ xs) zero x e = let same : x ≡ y = cc in inl same
  at_listed (y ∷ xs) (suc k) x e = inr (at_listed xs k x e)

  in_two : {A : Type 0} (g : A → List Operand) (xs : List A) (j k : ℕ) (x y : A) → slice_get xs j ≡ Some x → slice_get xs k ≡ Some y → (j ≡ k → ⊥) → hits (g x) + hits (g y) ≤ hits (flat_map g xs)
  in_two g [] j k x y a b other = absurd (cc)
  in_two g (z ∷ xs) zero zero x y a b other = absurd (other refl)
  in_two g (z ∷ xs) zero (suc k) x y a b other =
      let same : z ≡ x = cc in
      let all = hits_both (g z) (flat_map g xs) in
      let is : hits (g z) ≡ hits (g x) = ap (λ w. hits (g w)) same in
      let more = in_all g xs y (at_listed xs k y b) in
      omega (arith, all, is, more)
  in_two g (z ∷ xs) (suc j) zero x y a b other =
      let same : z ≡ y = cc in
      let all = hits_both (g z) (flat_map g xs) in
      let is : hits (g z) ≡ hits (g y) = ap (λ w. hits (g w)) same in
      let more = in_all g xs x (at_listed xs j x a) in
      omega (arith, all, is, more)
  in_two g (z ∷ xs) (suc j) (suc k) x y a b other =
      let all = hits_both (g z) (flat_map g xs) in
      let more = in_two g xs j k x y a b (λ e. other (ap suc e)) in
      omega (arith, all, more)

  -- ---- in a block

  parts_hit : (b : Block) → hits (block_operands b) ≡ hits (flat_map phi_operands b.phis) + (hits (flat_map instr_operands b.instrs) + hits (ending_operands b.term))
  parts_hit b =
      let a = hits_both (flat_map phi_operands b.phis) (flat_map instr_operands b.instrs ++ ending_operands b.term) in
      let c = hits_both (flat_map instr_operands b.instrs) (ending_operands b.term) in
      omega (arith, a, c)

  switch_hit : (end : Option ℕ) (t : Terminator) → is_switch_on v end t ≡ true → 1 ≤ hits (ending_operands t)
  switch_hit end (Terminator.Switch arg default cases) e = hits_first arg.value (map (λ (k : Case). k.arg.value) cases) (and_first (is_local v arg.value) _ e)
  switch_hit end (Terminator.Jump label) e = absurd (cc)
  switch_hit end (Terminator.Branch c a b) e = absurd (cc)
  switch_hit end (Terminator.Ret value) e = absurd (cc)
  switch_hit end Terminator.Unreachable e = absurd (cc)

-- ---- the suspends of a coroutine

-- a suspend is the last instruction of its block, which ends with a switch on what it makes, and that is used once
pub record IsSwitched (f : Function) (b : Block) (at : ℕ) (i : Instr) : Type 0 where
  pub value : ℕ
  pub result : call_result i ≡ Some value
  pub last : at + 1 ≡ length b.instrs
  pub switch : is_switch_on value (end_label f) b.term ≡ true
  pub once : uses_of f value ≤ 1

pub is_switch_then : (v : ℕ) (end : Option ℕ) (t : Terminator) → is_switch_on v end t ≡ true → is_switch t ≡ true
is_switch_then v end (Terminator.Switch arg default cases) e = refl
is_switch_then v end (Terminator.Jump label) e = absurd (cc)
is_switch_then v end (Terminator.Branch c a b) e = absurd (cc)
is_switch_then v end (Terminator.Ret value) e = absurd (cc)
is_switch_then v end Terminator.Unreachable e = absurd (cc)

pub suspend_result : (i : Instr) → is_call_of Intrinsic.CoroSuspend i ≡ true → call_result i ≡ result_of i
suspend_result (Instr.Call r must_tail ty callee args) e = refl
suspend_result _ e = absurd (cc)

module _ (k : ℕ) (f : Function) (coroutine : f.coroutine ≡ true) (switches : wrong_switch k f ≡ None) where
  no_part : first_part (breaks_switch f) (parts_of k f) ≡ None
  no_part = subst (λ (c : Bool). (if c then first_part (breaks_switch f) (parts_of k f) else None) ≡ None) coroutine switches

  pub switched : (q at : ℕ) (b : Block) (i : Instr) → slice_get f.blocks q ≡ Some b → slice_get b.instrs at ≡ Some i → is_call_of Intrinsic.CoroSuspend i ≡ true → IsSwitched f b at i
  switched q at b i got there is = by_result (call_result i) refl (on (is_switched f place (call_result i)) refl)
    where
      place : Place
      place = instr_place k q (phi_count f q + at)

      right : (is_call_of Intrinsic.CoroSuspend i && not (is_switched f (instr_place k q (phi_count f q + at)) (call_result i))) ≡ false
      right = at_point (λ x. breaks_switch f x.0 x.1 ≡ false) k f (record { block = q; at = at }) i (none_part (breaks_switch f) (parts_of k f) no_part) (ap (λ (o : Option Block). instr_in o at) got ∙ there)

      on : (t : Bool) → is_switched f (instr_place k q (phi_count f q + at)) (call_result i) ≡ t → t ≡ true
      on true d = refl
      on false d = let both : true ≡ false = sym (λ j. is j && not (d j)) ∙ right in absurd (cc)

      in_its_block : (v : ℕ) → call_result i ≡ Some v → is_switched_in f v (instr_place k q (phis_in (Some b) + at)) (Some b) ≡ true → IsSwitched f b at i
      in_its_block v e h =
          let rest = and_second (is_last b (Some (length b.phis + at))) (is_switch_on v (end_label f) b.term && nat_le (uses_of f v) 1) h in
          let sum : length b.phis + at + 1 ≡ length b.phis + length b.instrs = equal_numbers (length b.phis + at + 1) (length b.phis + length b.instrs) (and_first (is_last b (Some (length b.phis + at))) (is_switch_on v (end_label f) b.term && nat_le (uses_of f v) 1) h) in
          record {
            value = v;
            result = e;
            last = omega (arith, sum);
            switch = and_first (is_switch_on v (end_label f) b.term) (nat_le (uses_of f v) 1) rest;
            once = leb-true (uses_of f v) 1 (and_second (is_switch_on v (end_label f) b.term) (nat_le (uses_of f v) 1) rest);
          }

      by_result : (o : Option ℕ) → call_result i ≡ o → is_switched f (instr_place k q (phi_count f q + at)) (call_result i) ≡ true → IsSwitched f b at i
      by_result None e h = let t : false ≡ true = sym (ap (is_switched f (instr_place k q (phi_count f q + at))) e) ∙ h in absurd (cc)
      by_result (Some v) e h =
          in_its_block v e
          (sym (ap (λ (o : Option Block). is_switched_in f v (instr_place k q (phis_in o + at)) o) got)
          ∙ sym (ap (is_switched f (instr_place k q (phi_count f q + at))) e) ∙ h)

  -- no instruction and no phi uses it, and of the terminators but that one
  module _ (q0 at0 : ℕ) (b0 : Block) (i0 : Instr) (got0 : slice_get f.blocks q0 ≡ Some b0) (w : IsSwitched f b0 at0 i0) where
    own_hit : 1 ≤ hits w.value (ending_operands b0.term)
    own_hit = switch_hit w.value (end_label f) b0.term w.switch

    pub not_used : (q : ℕ) (b : Block) → slice_get f.blocks q ≡ Some b → 1 ≤ hits w.value (flat_map phi_operands b.phis) + hits w.value (flat_map instr_operands b.instrs) → (q ≡ q0) ⊎ (q ≡ q0 → ⊥) → ⊥
    not_used q b got h (inl same) =
        let both : Some b ≡ Some b0 = sym got ∙ ap (slice_get f.blocks) same ∙ got0 in
        let one : b ≡ b0 = cc in
        let all = parts_hit w.value b0 in
        let used : 1 ≤ hits w.value (flat_map phi_operands b0.phis) + hits w.value (flat_map instr_operands b0.instrs) = subst (λ (x : Block). 1 ≤ hits w.value (flat_map phi_operands x.phis) + hits w.value (flat_map instr_operands x.instrs)) one h in
        let within = in_all w.value block_operands f.blocks b0 (at_listed w.value f.blocks q0 b0 got0) in
        let most : uses_of f w.value ≤ 1 = w.once in
        let own = own_hit in
        omega (arith, all, used, within, most, own)
    not_used q b got h (inr other) =
        let all = parts_hit w.value b in
        let all0 = parts_hit w.value b0 in
        let two = in_two w.value block_operands f.blocks q q0 b b0 got got0 other in
        let most : uses_of f w.value ≤ 1 = w.once in
        let own = own_hit in
        omega (arith, h, all, all0, two, most, own)

    pub not_switched_on : (q : ℕ) (b : Block) → slice_get f.blocks q ≡ Some b → (q ≡ q0 → ⊥) → IsListed w.value (locals_in (ending_operands b.term)) → ⊥
    not_switched_on q b got other l =
        let all = parts_hit w.value b in
        let all0 = parts_hit w.value b0 in
        let two = in_two w.value block_operands f.blocks q q0 b b0 got got0 other in
        let most : uses_of f w.value ≤ 1 = w.once in
        let own = own_hit in
        let here = hits_listed w.value (ending_operands b.term) l in
        omega (arith, here, all, all0, two, most, own)

    pub not_in_instr : (q : ℕ) (b : Block) (i : Instr) → slice_get f.blocks q ≡ Some b → IsListed i b.instrs → (q ≡ q0) ⊎ (q ≡ q0 → ⊥) → IsListed w.value (locals_in (instr_operands i)) → ⊥
    not_in_instr q b i got m e l =
        let here = hits_listed w.value (instr_operands i) l in
        let more = in_all w.value instr_operands b.instrs i m in
        not_used q b got (omega (arith, here, more)) e

    pub not_in_phi : (q : ℕ) (b : Block) (x : Phi) → slice_get f.blocks q ≡ Some b → IsListed x b.phis → (q ≡ q0) ⊎ (q ≡ q0 → ⊥) → IsListed w.value (locals_in (phi_operands x)) → ⊥
    not_in_phi q b x got m e l =
        let here = hits_listed w.value (phi_operands x) l in
        let more = in_all w.value phi_operands b.phis x m in
        not_used q b got (omega (arith, here, more)) e
