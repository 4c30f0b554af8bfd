-- The end stands first in its block (rule K2).
use Rattle.std.proofs.Common.{◌≡◌, ℕ, zero, suc, ◌+◌, Bool, true, false, List, [], ◌∷◌, length, refl, sym, ap, ◌∙◌, subst, arith}
use Rattle.std.specs.List.{list_any}
use Rattle.std.specs.Prelude.{Some, None, Option, slice_get, unwrap_or, ◌||◌, ◌==◌}
use Rattle.rule_shape.specs.OneOfEach.{calls_of, is_missing, is_right_instr, wrong_call}
use Rattle.rule_shape.specs.declared.one_of_each.Calls.{Calls}
use Rattle.ir_laws.proofs.facts.Truth.{equal_numbers, and_first as both_first, second_no as second_false}
use Rattle.ir_laws.proofs.paths.renamed.Uses.{stands_in}
use Rattle.ir_laws.specs.paths.renamed.Regular.{is_call_at}
use Rattle.ir_laws.specs.facts.renamed.Regular.{passes}
use Rattle.rule_laws.proofs.rules.source_rules.Locals.{found_in}
use Rattle.rule_laws.proofs.rules.source_rules.Once.{first_call_at, none_missing, right_call, there_is}
use Rattle.ir_parts.specs.Parts.{instr_place}
use Rattle.ir_laws.specs.ir_model.Names.{first_where}
use Rattle.ir_laws.specs.ir_model.declared.instr.Instr.{Instr}
use Rattle.ir_laws.specs.ir_model.declared.module.Block.{Block}
use Rattle.ir_laws.specs.ir_model.declared.module.Function.{Function}
use Rattle.ir_laws.specs.ir_model.declared.operand.Callee.{Callee}
use Rattle.ir_laws.specs.ir_model.declared.operand.Intrinsic.{Intrinsic}
use Rattle.ir_laws.specs.ir_paths.Windows.{end_block, instr_at, instr_in, is_call_of}
use Rattle.ir_laws.specs.ir_paths.declared.point.Point.{Point}
use Rattle.rule_windows.specs.Points.{phi_count}

any_there : (test : Instr → Bool) (is : List Instr) (k : ℕ) (i : Instr) → slice_get is k ≡ Some i → test i ≡ true → list_any test is ≡ true
any_there test [] k i e h = absurd (cc)
any_there test (x ∷ is) zero i e h = let same : x ≡ i = cc in ap (λ (b : Bool). b || list_any test is) (ap test same ∙ h)
any_there test (x ∷ is) (suc k) i e h = later (test x) (list_any test is) (any_there test is k i e h)
  where
    later : (a b : Bool) → b ≡ true → (a || b) ≡ true
    later true b d = refl
    later false b d = d

record IsThere (test : Instr → Bool) (is : List Instr) : Type 0 where
  at : ℕ
  instr : Instr
  stands : slice_get is at ≡ Some instr
  passes : test instr ≡ true

there_any : (test : Instr → Bool) (is : List Instr) → list_any test is ≡ true → IsThere test is
there_any test [] h = absurd (cc)
there_any test (x ∷ is) h = on (test x) refl h (there_any test is)
  where
    on : (b : Bool) → test x ≡ b → (b || list_any test is) ≡ true → (list_any test is ≡ true → IsThere test is) → IsThere test (x ∷ is)
    on true e k rest = record { at = 0; instr = x; stands = refl; passes = e }
    on false e k rest = let y = rest k in record { at = suc y.at; instr = y.instr; stands = y.stands; passes = y.passes }

first_place : (c : Calls) (func block n : ℕ) (i : Instr) → is_call_of Intrinsic.CoroEnd i ≡ true → is_right_instr c (instr_place func block n) i ≡ true → n ≡ 0
first_place c func block n (Instr.Call result must_tail ty (Callee.Intrinsic Intrinsic.CoroEnd) args) e h = equal_numbers n 0 (both_first (n == 0) _ h)
first_place c func block n _ e h = absurd (cc)

-- what stands at the front of the end's block
at_front : (f : Function) (block at : ℕ) (i : Instr) → end_block f ≡ block → at ≡ 0 → instr_at f (record { block = block; at = at }) ≡ Some i → is_call_of Intrinsic.CoroEnd i ≡ true → is_call_at f Intrinsic.CoroEnd (record { block = end_block f; at = 0 }) ≡ true
at_front f block at i same first stands is =
    subst (λ (n : ℕ). is_call_at f Intrinsic.CoroEnd (record { block = n; at = 0 }) ≡ true) (sym same)
    (subst (λ (n : ℕ). is_call_at f Intrinsic.CoroEnd (record { block = block; at = n }) ≡ true) first (ap (passes (is_call_of Intrinsic.CoroEnd)) stands ∙ is))

none_before : (a b : ℕ) → a + b ≡ 0 → b ≡ 0
none_before a b e = omega (arith, e)

end_block_is : (f : Function) (n : ℕ) → first_where (λ b. list_any (is_call_of Intrinsic.CoroEnd) b.instrs) f.blocks ≡ Some n → end_block f ≡ n
end_block_is f n e = ap (λ (o : Option ℕ). unwrap_or o (length f.blocks)) e

module _ (func : ℕ) (f : Function) (coroutine : f.coroutine ≡ true) (calls : wrong_call func f ≡ None) where
  there_found : (i : Instr) (q : Point) → instr_at f q ≡ Some i → is_call_of Intrinsic.CoroEnd i ≡ true → is_call_at f Intrinsic.CoroEnd (record { block = end_block f; at = 0 }) ≡ true
  there_found i q e is =
      let x = stands_in f q i e in
      let y = found_in (λ b. list_any (is_call_of Intrinsic.CoroEnd) b.instrs) f.blocks q.block x.block x.got (any_there (is_call_of Intrinsic.CoroEnd) x.block.instrs q.at i x.stands is) in
      let z = there_any (is_call_of Intrinsic.CoroEnd) y.block.instrs y.passes in
      in_found y.at y.block z.at z.instr y.found y.there z.stands z.passes
    where
      in_found : (block : ℕ) (b : Block) (at : ℕ) (j : Instr) → first_where (λ b. list_any (is_call_of Intrinsic.CoroEnd) b.instrs) f.blocks ≡ Some block → slice_get f.blocks block ≡ Some b → slice_get b.instrs at ≡ Some j → is_call_of Intrinsic.CoroEnd j ≡ true → is_call_at f Intrinsic.CoroEnd (record { block = end_block f; at = 0 }) ≡ true
      in_found block b at j found got stands end =
          let there : instr_at f (record { block = block; at = at }) ≡ Some j = ap (λ (o : Option Block). instr_in o at) got ∙ stands in
          at_front f block at j (end_block_is f block found)
          (none_before (phi_count f block) at (first_place (calls_of func f) func block (phi_count f block + at) j end (right_call func f coroutine calls (record { block = block; at = at }) j there)))
          there end

  pub end_first : is_call_at f Intrinsic.CoroEnd (record { block = end_block f; at = 0 }) ≡ true
  end_first =
      let missing : is_missing Intrinsic.CoroEnd f ≡ false = second_false (is_missing Intrinsic.CoroBegin f) (is_missing Intrinsic.CoroEnd f) (second_false (is_missing Intrinsic.CoroId f) (is_missing Intrinsic.CoroBegin f || is_missing Intrinsic.CoroEnd f) (none_missing func f coroutine calls)) in
      let there = there_is Intrinsic.CoroEnd f missing in
      let q = first_call_at f Intrinsic.CoroEnd there.0 there.1 in
      there_found there.0 q.point q.stands q.is_call
