-- Where begin's value isn't made, a path from the entry comes without begin.
use Rattle.std.proofs.Common.{◌≡◌, ◌⊎◌, inl, inr, ℕ, suc, ◌+◌, Bool, true, false, List, [], ◌∷◌, ◌++◌, length, refl, sym, ap, ◌∙◌, subst, arith}
use Rattle.std.proofs.lemmas.Option.{slice_get_past}
use Rattle.std.specs.Prelude.{Some, None, Option, option_to_list, slice_get}
use Rattle.rule_uses.specs.Undefined.{Entry, Next, ReachesWithout}
use Rattle.rule_uses.specs.Uses.{block_values, made_by_instrs, phi_values, values_at, values_in}
use Rattle.ir_laws.proofs.facts.Lists.{get_within}
use Rattle.ir_laws.specs.facts.renamed.Regular.{passes}
use Rattle.ir_laws.proofs.paths.path_rules.Where.{has_where}
use Rattle.ir_laws.specs.flow_solver.Paths.{IsListed}
use Rattle.ir_parts.specs.Contents.{result_of}
use Rattle.ir_laws.specs.ir_model.declared.instr.Instr.{Instr}
use Rattle.ir_laws.specs.ir_model.declared.module.Block.{Block}
use Rattle.ir_laws.specs.ir_model.declared.module.Function.{Function}
use Rattle.ir_laws.specs.ir_model.declared.operand.Intrinsic.{Intrinsic}
use Rattle.ir_laws.proofs.ir_paths.Search.{Has, leads-more, or_left, same_point-itself}
use Rattle.ir_laws.specs.ir_paths.Paths.{has_point, nexts, same_point}
use Rattle.ir_laws.specs.ir_paths.Windows.{instr_in, is_call_of}
use Rattle.ir_laws.specs.ir_paths.declared.point.Point.{Point}
use Rattle.flow_points.proofs.Neighbours.{next-inner}
use Rattle.flow_points.specs.Reached.{IsReached}
use Rattle.flow_reach.proofs.Ways.{edge_leaves}
use Rattle.rule_all.specs.rule_slots.Early.{IsBeforeBegin, end_at, instr_count}
use Rattle.frame_contents.proofs.frame_crossing.Blocks.{as_result, behind_result}
use Rattle.rule_windows.specs.Points.{begins, entry}

-- whatever calls begin makes its value
abbrev pub AreNamed : Function → ℕ → Type 0
AreNamed f begin = (at j : ℕ) (b : Block) (i : Instr) → slice_get f.blocks at ≡ Some b → slice_get b.instrs j ≡ Some i → is_call_of Intrinsic.CoroBegin i ≡ true → result_of i ≡ Some begin

abbrev point : ℕ → ℕ → Point
point block at = record { block = block; at = at }

module _ (f : Function) (begin : ℕ) (named : AreNamed f begin) where
  -- one edge further
  before_on : (p q : Point) → IsBeforeBegin f p → has_point (begins f) p ≡ false → Has (nexts f p) q → IsBeforeBegin f q
  before_on p q before none edge = on before
    where
      from_entry : p ≡ entry → IsBeforeBegin f q
      from_entry e =
          inr (record {
            begins_later = ap (has_point (begins f)) (sym e) ∙ none;
            path = inr (record { start = entry; is_start = refl; path = record { between = []; is_path = ap (λ (x : Point). has_point (nexts f x) q) (sym e) ∙ edge } });
          })

      reached : has_point (begins f) entry ≡ false → (p ≡ entry) ⊎ IsReached f (entry ∷ []) (begins f) p → IsBeforeBegin f q
      reached later (inl e) = from_entry e
      reached later (inr r) = inr (record { begins_later = later; path = inr (record { start = r.start; is_start = r.is_start; path = leads-more f (begins f) r.start p q r.path none edge }) })

      on : IsBeforeBegin f p → IsBeforeBegin f q
      on (inl e) = from_entry e
      on (inr h) = reached h.begins_later h.path

  -- where begin's value isn't among those made before, the point stands before begin
  abbrev pub IsSound : ℕ → ℕ → List ℕ → Type 0
  IsSound k j before = (IsListed begin before → ⊥) → IsBeforeBegin f (point k j)

  pub sound_on : (k j : ℕ) (b : Block) (i : Instr) (before : List ℕ) → slice_get f.blocks k ≡ Some b → slice_get b.instrs j ≡ Some i → IsSound k j before → IsSound k (suc j) (option_to_list (result_of i) ++ before)
  sound_on k j b i before got stands sound unmade = before_on (point k j) (point k (suc j)) (sound (λ l. unmade (behind_result begin (result_of i) before l))) none edge
    where
      no_call : (t : Bool) → is_call_of Intrinsic.CoroBegin i ≡ t → t ≡ false
      no_call true c = absurd (unmade (as_result begin (result_of i) before (named k j b i got stands c)))
      no_call false c = refl

      none : has_point (begins f) (point k j) ≡ false
      none = has_where (is_call_of Intrinsic.CoroBegin) f (point k j) ∙ ap (passes (is_call_of Intrinsic.CoroBegin)) (ap (λ (o : Option Block). instr_in o j) got ∙ stands) ∙ no_call (is_call_of Intrinsic.CoroBegin i) refl

      one : Has (point k (j + 1) ∷ []) (point k (suc j))
      one =
          let same : suc j ≡ j + 1 = omega arith in
          ap (λ (n : ℕ). has_point (point k (j + 1) ∷ []) (point k n)) same ∙ or_left (same_point (point k (j + 1)) (point k (j + 1))) false (same_point-itself (point k (j + 1)))

      edge : Has (nexts f (point k j)) (point k (suc j))
      edge = ap (λ (ps : List Point). has_point ps (point k (suc j))) (next-inner f (point k j) b got (get_within b.instrs j i stands)) ∙ one

  sound_rest : (k j : ℕ) (b : Block) (is : List Instr) (before : List ℕ) → slice_get f.blocks k ≡ Some b → ((n : ℕ) → slice_get is n ≡ slice_get b.instrs (j + n)) → IsSound k j before → IsSound k (j + length is) (made_by_instrs before is)
  sound_rest k j b [] before got same sound = let at : j ≡ j + 0 = omega arith in subst (λ (n : ℕ). IsSound k n before) at sound
  sound_rest k j b (i ∷ is) before got same sound =
      let first : j + 0 ≡ j = omega arith in
      let at : suc j + length is ≡ j + suc (length is) = omega arith in
      subst (λ (n : ℕ). IsSound k n (made_by_instrs before (i ∷ is))) at
      (sound_rest k (suc j) b is (option_to_list (result_of i) ++ before) got
      (λ n. same (suc n) ∙ (let next : j + suc n ≡ suc j + n = omega arith in ap (slice_get b.instrs) next))
      (sound_on k j b i before got (sym (same 0 ∙ ap (slice_get b.instrs) first)) sound))

  sound_end : (k : ℕ) (b : Block) → slice_get f.blocks k ≡ Some b → IsBeforeBegin f (point k 0) → IsSound k (length b.instrs) (block_values b)
  sound_end k b got before =
      let all : 0 + length b.instrs ≡ length b.instrs = omega arith in
      subst (λ (n : ℕ). IsSound k n (block_values b)) all
      (sound_rest k 0 b b.instrs (phi_values b) got (λ n. let same : n ≡ 0 + n = omega arith in ap (slice_get b.instrs) same) (λ unmade. before))

  -- the block to which a path of blocks leads without begin's value
  pub front_before : (k : ℕ) → ReachesWithout f begin k → IsBeforeBegin f (point k 0)
  front_before _ Entry = inl refl
  front_before _ (Next from to path unmade edge) =
      let x = edge_leaves f from to edge in
      let end : IsBeforeBegin f (point from (length x.block.instrs)) = sound_end from x.block x.is_block (front_before from path) (λ l. unmade (subst (λ (o : Option Block). IsListed begin (values_in o)) (sym x.is_block) l)) in
      before_on (point from (length x.block.instrs)) (point to 0) end (past from x.block x.is_block) x.leads
    where
      past : (from : ℕ) (b : Block) → slice_get f.blocks from ≡ Some b → has_point (begins f) (point from (length b.instrs)) ≡ false
      past from b got =
          has_where (is_call_of Intrinsic.CoroBegin) f (point from (length b.instrs))
          ∙ ap (passes (is_call_of Intrinsic.CoroBegin)) (ap (λ (o : Option Block). instr_in o (length b.instrs)) got ∙ slice_get_past b.instrs (length b.instrs) (omega arith))

  -- and its end, where it doesn't make the value either
  pub end_before : (k : ℕ) → ReachesWithout f begin k → (IsListed begin (values_at f k) → ⊥) → IsBeforeBegin f (end_at f k)
  end_before k path unmade = on (slice_get f.blocks k) refl unmade
    where
      on : (o : Option Block) → slice_get f.blocks k ≡ o → (IsListed begin (values_in o) → ⊥) → IsBeforeBegin f (point k (instr_count (slice_get f.blocks k)))
      on None d none = subst (λ (o : Option Block). IsBeforeBegin f (point k (instr_count o))) (sym d) (front_before k path)
      on (Some b) d none = subst (λ (o : Option Block). IsBeforeBegin f (point k (instr_count o))) (sym d) (sound_end k b d (front_before k path) none)
