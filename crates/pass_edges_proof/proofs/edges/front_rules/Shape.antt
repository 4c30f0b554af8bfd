-- The calls by which a function is a coroutine stay when allocas are moved to the front of its entry block.
use Rattle.std.proofs.Common.{◌≡◌, ℕ, zero, suc, ◌+◌, Bool, true, false, List, [], ◌∷◌, ◌++◌, length, None, Option, Some, ap, not, refl, sym, subst, ◌∙◌, arith}
use Rattle.std.specs.List.{count_by, flat_map}
use Rattle.std.specs.Prelude.{filter, map, slice_get, ◌==◌, ◌&&◌, ◌||◌, if◌then◌else◌}
use Rattle.pass_early_proof.specs.ir_base.declared.outcome.Place.{Place}
use Rattle.pass_early_proof.specs.rule_shape.OneOfEach.{breaks_calls, calls_of, has_no_other_frame, is_first_in_block, is_right_instr, is_second, wrong_call}
use Rattle.pass_early_proof.specs.rule_shape.Places.{is_the}
use Rattle.pass_early_proof.specs.rule_shape.Switches.{is_last, wrong_switch}
use Rattle.pass_early_proof.specs.rule_shape.Uses.{block_operands, phi_operands, uses_of}
use Rattle.pass_early_proof.specs.rule_shape.declared.one_of_each.Calls.{Calls}
use Rattle.pass_early_proof.specs.rule_uses.Undefined.{Entry}
use Rattle.pass_early_proof.specs.rule_uses.Uses.{made_by_phis}
use Rattle.pass_early_proof.proofs.ir_laws.facts.Truth.{equal_numbers, and_first, holds, second_no as or_second}
use Rattle.pass_early_proof.proofs.rule_laws.rules.renamed.Switches.{none_part}
use Rattle.pass_early_proof.proofs.rule_laws.rules.path_rules.Holding.{of_parts}
use Rattle.pass_edges_proof.proofs.edges.rules.Switched.{switched}
use Rattle.pass_early_proof.specs.pass_front.Front.{allocas_first, is_alloca, is_no_alloca, with_allocas_first, with_front_allocas}
use Rattle.pass_early_proof.specs.ir_parts.Contents.{ending_operands, instr_operands}
use Rattle.pass_early_proof.specs.ir_parts.Parts.{first_part, instr_place, parts_of}
use Rattle.pass_early_proof.specs.pass_intrinsics.Shapes.{suspends_of}
use Rattle.pass_early_proof.specs.pass_intrinsics.declared.shape.SuspendPoint.{SuspendPoint}
use Rattle.ir_model.specs.Names.{is_local, same_intrinsic}
use Rattle.ir_model.specs.declared.instr.Instr.{Instr}
use Rattle.ir_model.specs.declared.instr.Phi.{Phi}
use Rattle.ir_model.specs.declared.module.Block.{Block}
use Rattle.ir_model.specs.declared.module.Function.{Function}
use Rattle.ir_model.specs.declared.operand.Callee.{Callee}
use Rattle.ir_model.specs.declared.operand.Intrinsic.{Intrinsic}
use Rattle.ir_model.specs.declared.operand.Operand.{Operand}
use Rattle.pass_early_proof.specs.ir_paths.Windows.{is_call_of}
use Rattle.pass_edges_proof.proofs.edges.exit_rules.Shape.{suspend_is}
use Rattle.pass_early_proof.proofs.ir_laws.facts.Lists.{in_front, same_count, same_length, source_of}
use Rattle.pass_early_proof.proofs.ir_laws.facts.Numbers.{same_term}
use Rattle.pass_early_proof.proofs.rule_laws.rules.front_rules.Local.{sources_same}
use Rattle.pass_early_proof.proofs.rule_laws.rules.front_rules.Uses.{begun_kept}
use Rattle.pass_early_proof.proofs.rule_laws.rules.woven_shape.Found.{made, not_begin, result_made}
use Rattle.pass_early_proof.proofs.rule_laws.rules.woven_shape.OneOfEach.{wrong_call_same}
use Rattle.pass_early_proof.proofs.rule_laws.rules.woven_shape.Switches.{wrong_switch_same}
use Rattle.pass_early_proof.specs.rule_laws.rules.replaced.Splittable.{AreBegun, AreBlocksBegun}
use Rattle.pass_early_proof.specs.rule_laws.frames.replaced.Splittable.{HasOwnEdges, IsLedToBy, token_taken}
use Rattle.pass_early_proof.specs.ir_laws.facts.replaced.Splittable.{asks_begin}
use Rattle.pass_early_proof.specs.rule_laws.rules.woven_shape.Calls.{ShapingCall, call_at, calls_in, calls_of_block, default_behind, default_on, first_named, is_shaping, joined, leads_block, second_named, shaping_calls, switched_to}
use Rattle.pass_early_proof.specs.rule_laws.frames.woven_shape.Shaped.{IsShaped}
use Rattle.pass_early_proof.specs.ir_laws.paths.woven_rules.Pairs.{AreDifferent}
use Rattle.pass_early_proof.specs.run_laws.changed.Changed.{Each}
use Rattle.pass_early_proof.proofs.rule_laws.frames.front_rules.Shape.{same_suspends}
use Rattle.pass_early_proof.proofs.rule_laws.rules.front_rules.Shape.{no_operands}

-- ---- the calls of a block

no_call : (b : Block) (at : ℕ) (i : Instr) → is_alloca i ≡ true → call_at b at i ≡ []
no_call b at (Instr.Alloca r ty align) e = refl
no_call b at _ e = absurd (cc)

-- no end stands here, and a suspend is the last
abbrev HasNoEnd : List Instr → Type 0
HasNoEnd is = (j : ℕ) (i : Instr) → slice_get is j ≡ Some i → is_call_of Intrinsic.CoroEnd i ≡ true → ⊥

abbrev HasSuspendsLast : List Instr → Type 0
HasSuspendsLast is = (j : ℕ) (i : Instr) → slice_get is j ≡ Some i → is_call_of Intrinsic.CoroSuspend i ≡ true → j + 1 ≡ length is

module _ (b : Block) where
  abbrev c : Block
  c = allocas_first b

  last_same : (at now : ℕ) → at ≡ now → is_last c (Some now) ≡ is_last b (Some at)
  last_same at now same = λ k. (sym same k + 1 == length b.phis + same_length b.instrs k)

  switched_same : (at now : ℕ) (r : Option ℕ) → at ≡ now → switched_to c now r ≡ switched_to b at r
  switched_same at now None same = refl
  switched_same at now (Some v) same = ap (λ (t : Bool). if t then default_on v b.term else None) (last_same at now same)

  call_same : (at now : ℕ) (i : Instr) → (is_call_of Intrinsic.CoroEnd i ≡ true → ⊥) → (is_call_of Intrinsic.CoroSuspend i ≡ true → at ≡ now) → call_at c now i ≡ call_at b at i
  call_same at now (Instr.Call result must_tail ty (Callee.Intrinsic x) args) no_end last =
      λ k.
      if is_shaping x then
      record {
        intrinsic = x;
        result = result;
        first = first_named x args;
        second = second_named x args;
        block = b.label;
        leads = leads (same_intrinsic Intrinsic.CoroEnd x) refl k;
        default = default (same_intrinsic Intrinsic.CoroSuspend x) refl k;
      } ∷ []
      else []
    where
      leads : (t : Bool) → same_intrinsic Intrinsic.CoroEnd x ≡ t → leads_block x now ≡ leads_block x at
      leads true e = absurd (no_end e)
      leads false e = ap (λ (t : Bool). t && now == 0) e ∙ sym (ap (λ (t : Bool). t && at == 0) e)

      default : (t : Bool) → same_intrinsic Intrinsic.CoroSuspend x ≡ t → default_behind c now x result ≡ default_behind b at x result
      default true e =
          ap (λ (t : Bool). if t then switched_to c now result else None) e
          ∙ switched_same at now result (last e)
          ∙ sym (ap (λ (t : Bool). if t then switched_to b at result else None) e)
      default false e = ap (λ (t : Bool). if t then switched_to c now result else None) e ∙ sym (ap (λ (t : Bool). if t then switched_to b at result else None) e)
  call_same at now _ no_end last = refl

  allocas_skip : (at : ℕ) (is rest : List Instr) → calls_in c at (filter is_alloca is ++ rest) ≡ calls_in c (at + length (filter is_alloca is)) rest
  allocas_skip at [] rest = let z : at ≡ at + 0 = omega arith in ap (λ (n : ℕ). calls_in c n rest) z
  allocas_skip at (i ∷ is) rest = on (is_alloca i) refl (λ n. allocas_skip n is rest)
    where
      on : (t : Bool) → is_alloca i ≡ t → ((n : ℕ) → calls_in c n (filter is_alloca is ++ rest) ≡ calls_in c (n + length (filter is_alloca is)) rest) → calls_in c at ((if t then i ∷ filter is_alloca is else filter is_alloca is) ++ rest) ≡ calls_in c (at + length (if t then i ∷ filter is_alloca is else filter is_alloca is)) rest
      on true e more =
          let z : at + 1 + length (filter is_alloca is) ≡ at + suc (length (filter is_alloca is)) = omega arith in
          ap (λ (cs : List ShapingCall). cs ++ calls_in c (at + 1) (filter is_alloca is ++ rest)) (no_call c at i e) ∙ more (at + 1) ∙ ap (λ (n : ℕ). calls_in c n rest) z
      on false e more = more at

  others_same : (at now : ℕ) (is : List Instr) → now ≡ at + length (filter is_alloca is) → HasNoEnd is → HasSuspendsLast is → calls_in c now (filter is_no_alloca is) ≡ calls_in b at is
  others_same at now [] e no_end last = refl
  others_same at now (i ∷ is) e no_end last =
      on (is_alloca i) refl e
      (λ n d. others_same (at + 1) n is d (λ j x g. no_end (suc j) x g) (λ j x g s. let h = last (suc j) x g s in omega (arith, h)))
    where
      on : (t : Bool) → is_alloca i ≡ t → now ≡ at + length (if t then i ∷ filter is_alloca is else filter is_alloca is) → ((n : ℕ) → n ≡ at + 1 + length (filter is_alloca is) → calls_in c n (filter is_no_alloca is) ≡ calls_in b (at + 1) is) → calls_in c now (if (if t then false else true) then i ∷ filter is_no_alloca is else filter is_no_alloca is) ≡ call_at b at i ++ calls_in b (at + 1) is
      on true a d more = more now (omega (arith, d)) ∙ sym (ap (λ (cs : List ShapingCall). cs ++ calls_in b (at + 1) is) (no_call b at i a))
      on false a d more =
          let here = call_same at now i (no_end 0 i refl) (λ s. let h = last 0 i refl s in let n = same_count is in omega (arith, h, n, d)) in
          let rest = more (now + 1) (omega (arith, d)) in
          λ k. here k ++ rest k

  pub block_same : HasNoEnd b.instrs → HasSuspendsLast b.instrs → calls_of_block (allocas_first b) ≡ calls_of_block b
  block_same no_end last = allocas_skip (length b.phis) b.instrs (filter is_no_alloca b.instrs) ∙ others_same (length b.phis) (length b.phis + length (filter is_alloca b.instrs)) b.instrs refl no_end last

-- ---- lists that allocas add nothing to

module _ {A : Type 0} (g : Instr → List A) (own : (i : Instr) → is_alloca i ≡ true → g i ≡ []) where
  flat_skip : (is rest : List Instr) → flat_map g (filter is_alloca is ++ rest) ≡ flat_map g rest
  flat_skip [] rest = refl
  flat_skip (i ∷ is) rest = on (is_alloca i) refl (flat_skip is rest)
    where
      on : (t : Bool) → is_alloca i ≡ t → flat_map g (filter is_alloca is ++ rest) ≡ flat_map g rest → flat_map g ((if t then i ∷ filter is_alloca is else filter is_alloca is) ++ rest) ≡ flat_map g rest
      on true e more = ap (λ (xs : List A). xs ++ flat_map g (filter is_alloca is ++ rest)) (own i e) ∙ more
      on false e more = more

  flat_others : (is : List Instr) → flat_map g (filter is_no_alloca is) ≡ flat_map g is
  flat_others [] = refl
  flat_others (i ∷ is) = on (is_alloca i) refl (flat_others is)
    where
      on : (t : Bool) → is_alloca i ≡ t → flat_map g (filter is_no_alloca is) ≡ flat_map g is → flat_map g (if (if t then false else true) then i ∷ filter is_no_alloca is else filter is_no_alloca is) ≡ g i ++ flat_map g is
      on true e more = more ∙ sym (ap (λ (xs : List A). xs ++ flat_map g is) (own i e))
      on false e more = ap (λ (xs : List A). g i ++ xs) more

  pub flat_front : (is : List Instr) → flat_map g (in_front is) ≡ flat_map g is
  flat_front is = flat_skip is (filter is_no_alloca is) ∙ flat_others is

operands_by : (bs : List Block) → flat_map block_operands (with_allocas_first bs) ≡ flat_map block_operands bs
operands_by [] = refl
operands_by (b ∷ bs) = ap (λ (xs : List Operand). (flat_map phi_operands b.phis ++ (xs ++ ending_operands b.term)) ++ flat_map block_operands bs) (flat_front instr_operands no_operands b.instrs)

pub same_uses : (f : Function) (v : ℕ) → uses_of (with_front_allocas f) v ≡ uses_of f v
same_uses f v = ap (λ (xs : List Operand). count_by (is_local v) xs) (operands_by f.blocks)

-- ---- edges of their own

module _ (f : Function) where
  led_kept : (label from : ℕ) → IsLedToBy f label from → IsLedToBy (with_front_allocas f) label from
  led_kept label from h = record {
    phis = λ at c there e. let x = source_of f.blocks at c there in let same = same_term x.0 c x.1.1 in same.1.0 ∙ h.phis at x.0 x.1.0 (sym same.1.1 ∙ e);
    sources = sources_same 0 f label ∙ h.sources;
  }

  own_kept : (ps : List SuspendPoint) → Each (HasOwnEdges f) ps → Each (HasOwnEdges (with_front_allocas f)) ps
  own_kept [] h = tt
  own_kept (p ∷ ps) h = (record { resume = led_kept p.resume p.block h.0.resume; destroy = led_kept p.destroy p.block h.0.destroy }, own_kept ps h.1)

end_asks : (i : Instr) → is_call_of Intrinsic.CoroEnd i ≡ true → asks_begin i ≡ true
end_asks (Instr.Call result must_tail ty (Callee.Intrinsic Intrinsic.CoroEnd) args) e = refl
end_asks _ e = absurd (cc)

end_first : (s : Calls) (p : Place) (i : Instr) → is_call_of Intrinsic.CoroEnd i ≡ true → (is_second s p || not (is_right_instr s p i)) ≡ false → is_first_in_block p ≡ true
end_first s p (Instr.Call result must_tail ty (Callee.Intrinsic Intrinsic.CoroEnd) args) e h =
    and_first (is_first_in_block p) (has_no_other_frame s args) (holds (is_first_in_block p && has_no_other_frame s args) (or_second (is_second s p) (not (is_first_in_block p && has_no_other_frame s args)) h))
end_first s p _ e h = absurd (cc)

asked_first : (f : Function) (begin : ℕ) (phis : List Phi) (is : List Instr) (j : ℕ) (i : Instr) → length phis + j ≡ 0 → slice_get is j ≡ Some i → asks_begin i ≡ true → AreBegun f begin 0 (made_by_phis [] phis) is → ⊥
asked_first f begin [] [] j i z e a m = absurd (cc)
asked_first f begin [] (x ∷ is) zero i z e a m = let same : x ≡ i = cc in m.0 (ap asks_begin same ∙ a) Entry
asked_first f begin [] (x ∷ is) (suc j) i z e a m = absurd (omega (arith, z))
asked_first f begin (p ∷ ps) is j i z e a m = absurd (omega (arith, z))

module _ (func : ℕ) (f : Function) (coroutine : f.coroutine ≡ true) (calls : wrong_call func f ≡ None) (switches : wrong_switch func f ≡ None) (begin : ℕ) (begun : AreBlocksBegun f begin 0 f.blocks) where
  no_end : (b : Block) (bs : List Block) → f.blocks ≡ b ∷ bs → HasNoEnd b.instrs
  no_end b bs e j i there is =
      let none_wrong : first_part (breaks_calls (calls_of func f)) (parts_of func f) ≡ None = subst (λ (t : Bool). (if t then first_part (breaks_calls (calls_of func f)) (parts_of func f) else None) ≡ None) coroutine calls in
      let parts = of_parts (λ y. breaks_calls (calls_of func f) y.0 y.1 ≡ false) func f (none_part (breaks_calls (calls_of func f)) (parts_of func f) none_wrong) in
      let own = (parts.blocks 0 b (ap (λ (xs : List Block). slice_get xs 0) e)).instrs j i there in
      let first : is_the (Some (length b.phis + j)) 0 ≡ true = end_first (calls_of func f) (instr_place func 0 (length b.phis + j)) i is own in
      let here : AreBlocksBegun f begin 0 (b ∷ bs) = subst (AreBlocksBegun f begin 0) e begun in
      asked_first f begin b.phis b.instrs j i (equal_numbers (length b.phis + j) 0 first) there (end_asks i is) here.0

  suspends_last : (b : Block) (bs : List Block) → f.blocks ≡ b ∷ bs → HasSuspendsLast b.instrs
  suspends_last b bs e j i there is = (switched func f coroutine switches 0 j b i (ap (λ (xs : List Block). slice_get xs 0) e) there (suspend_is i is)).last

  all_calls : (bs : List Block) → f.blocks ≡ bs → map calls_of_block (with_allocas_first bs) ≡ map calls_of_block bs
  all_calls [] e = refl
  all_calls (b ∷ bs) e = ap (λ (cs : List ShapingCall). cs ∷ map calls_of_block bs) (block_same b (no_end b bs e) (suspends_last b bs e))

  pub same_calls : shaping_calls (with_front_allocas f) ≡ shaping_calls f
  same_calls = ap joined (all_calls f.blocks refl)

pub shape_kept : (func : ℕ) (f : Function) (begin : ℕ) → f.coroutine ≡ true → IsShaped func f begin → IsShaped func (with_front_allocas f) begin
shape_kept func f begin coroutine h =
    let same = same_calls func f coroutine h.calls h.switches begin h.begun in
    record {
      calls = wrong_call_same func f (with_front_allocas f) same coroutine h.calls refl;
      switches = wrong_switch_same func f (with_front_allocas f) same (λ c v l s e. let uses = same_uses f v in omega (arith, uses)) coroutine h.switches refl;
      named = result_made Intrinsic.CoroBegin not_begin (with_front_allocas f) ∙ ap (made Intrinsic.CoroBegin) same ∙ sym (result_made Intrinsic.CoroBegin not_begin f) ∙ h.named;
      begun = begun_kept f begin h.begun;
      tokens = subst (λ (ps : List SuspendPoint). AreDifferent (flat_map token_taken ps)) (sym (same_suspends f)) h.tokens;
      edges = subst (Each (HasOwnEdges (with_front_allocas f))) (sym (same_suspends f)) (own_kept f (suspends_of f) h.edges);
    }
