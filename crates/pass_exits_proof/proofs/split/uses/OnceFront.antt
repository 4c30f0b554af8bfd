-- How often the blocks with which a part goes on define a name.
use Rattle.std.proofs.Common.{◌≡◌, inl, inr, ℕ, suc, ◌+◌, ◌<◌, ◌≤◌, Bool, true, false, List, [], ◌∷◌, length, refl, sym, ap, ◌∙◌, subst, arith}
use Rattle.std.specs.Prelude.{Option, Some, filter, map, option_to_list, slice_get, ◌==◌, if◌then◌else◌}
use Rattle.pass_split.specs.Parts.{back_block, back_blocks}
use Rattle.pass_fetch_proof.specs.pass_front.Front.{is_alloca}
use Rattle.pass_split.specs.Pieces.{begins_again}
use Rattle.pass_fetch_proof.proofs.ir_laws.facts.local_rules.Woven.{other_number}
use Rattle.pass_fetch_proof.proofs.ir_laws.paths.source_rules.Locals.{in_row}
use Rattle.pass_fetch_proof.proofs.rule_laws.rules.source_rules.Locals.{made_by}
use Rattle.pass_fetch_proof.proofs.ir_laws.facts.Lists.{row_of, times_joined}
use Rattle.pass_fetch_proof.specs.flow_solver.Paths.{IsListed}
use Rattle.pass_fetch_proof.specs.ir_parts.Contents.{result_of}
use Rattle.pass_fetch_proof.specs.pass_intrinsics.Cuts.{goes_on}
use Rattle.pass_fetch_proof.specs.pass_intrinsics.Shapes.{back_label}
use Rattle.pass_fetch_proof.specs.pass_intrinsics.declared.shape.Part.{Part}
use Rattle.pass_fetch_proof.specs.pass_intrinsics.declared.shape.Shape.{Shape}
use Rattle.pass_fetch_proof.specs.pass_intrinsics.declared.shape.SuspendPoint.{SuspendPoint}
use Rattle.ir_model.specs.declared.instr.Instr.{Instr}
use Rattle.ir_model.specs.declared.module.Block.{Block}
use Rattle.ir_model.specs.declared.operand.Callee.{Callee}
use Rattle.ir_model.specs.declared.operand.Intrinsic.{Intrinsic}
use Rattle.pass_fetch_proof.specs.ir_paths.Windows.{is_call_of}
use Rattle.pass_exits_proof.proofs.split.uses.Names.{kept_made, one_more, values}
use Rattle.pass_exits_proof.proofs.split.uses.Once.{dropped, dropped_made, labelled}
use Rattle.pass_fetch_proof.proofs.ir_laws.paths.uses.Paths.{place_of}
use Rattle.pass_fetch_proof.proofs.ir_laws.facts.uses.Sources.{label_of}
use Rattle.pass_fetch_proof.proofs.ir_laws.paths.woven_rules.Once.{times_listed, times_none}
use Rattle.pass_fetch_proof.specs.ir_laws.facts.woven_rules.Pairs.{one_if, times}
use Rattle.pass_exits_proof.proofs.split.edges.Allocas.{alloca_goes_on as again_no_alloca}

pub begin_again : (part : Part) (i : Instr) → goes_on part ≡ true → is_call_of Intrinsic.CoroBegin i ≡ true → begins_again part i ≡ true
begin_again part (Instr.Call r must_tail ty (Callee.Intrinsic Intrinsic.CoroBegin) args) later e = ap (λ (b : Bool). if b then true else false) later
begin_again part _ later e = absurd (cc)

module _ (v : ℕ) (part : Part) where
  pub allocas_kept : (is : List Instr) → times v (row_of made_by (filter is_alloca is)) ≤ times v (row_of (kept_made part) is)
  allocas_kept [] = omega arith
  allocas_kept (i ∷ is) = on (is_alloca i) refl (allocas_kept is)
    where
      on : (t : Bool) → is_alloca i ≡ t → times v (row_of made_by (filter is_alloca is)) ≤ times v (row_of (kept_made part) is) → times v (row_of made_by (if t then i ∷ filter is_alloca is else filter is_alloca is)) ≤ times v (row_of (kept_made part) (i ∷ is))
      on true e h =
          let a = times_joined v (made_by i) (row_of made_by (filter is_alloca is)) in
          let c = times_joined v (kept_made part i) (row_of (kept_made part) is) in
          let same : times v (kept_made part i) ≡ times v (made_by i) = ap (λ (b : Bool). times v (if b then [] else made_by i)) (again_no_alloca part i e) in
          omega (arith, h, a, c, same)
      on false e h = let c = times_joined v (kept_made part i) (row_of (kept_made part) is) in omega (arith, h, c)

  pub dropped_there : (bs : List Block) (q : ℕ) (b : Block) (i : Instr) → slice_get bs q ≡ Some b → IsListed i b.instrs → begins_again part i ≡ true → result_of i ≡ Some v → 1 ≤ dropped v part bs
  dropped_there bs q b i got l again made =
      let at = place_of b.instrs i l in
      let here : IsListed v (dropped_made v part i) = subst (λ (t : Bool). IsListed v (if t then made_by i else [])) (sym again) (subst (λ (o : Option ℕ). IsListed v (option_to_list o)) (sym made) (inl refl)) in
      times_listed v (row_of (λ (c : Block). row_of (dropped_made v part) c.instrs) bs)
      (in_row (λ (c : Block). row_of (dropped_made v part) c.instrs) bs q v b got (in_row (dropped_made v part) b.instrs at.0 v i at.1 here))

-- ---- labels of the blocks in front

module _ (s : Shape) (part : Part) where
  back_is : (v j : ℕ) (ps : List SuspendPoint) → IsListed v (map label_of (back_blocks s part j ps)) → (i : ℕ) × ((i < length ps) × (v ≡ back_label s (j + i)))
  back_is v j [] l = absurd l
  back_is v j (p ∷ ps) (inl e) = let same : j ≡ j + 0 = omega arith in (0, (omega arith, e ∙ ap (back_label s) same))
  back_is v j (p ∷ ps) (inr l) =
      let x = back_is v (j + 1) ps l in
      let same : j + 1 + x.0 ≡ j + suc x.0 = omega arith in
      let low = x.1.0 in
      (suc x.0, (omega (arith, low), x.1.1 ∙ ap (back_label s) same))

  pub no_back : (v : ℕ) → ((i : ℕ) → i < length s.suspends → v ≡ back_label s (0 + i) → ⊥) → labelled v (back_blocks s part 0 s.suspends) ≡ 0
  no_back v never = times_none v (map label_of (back_blocks s part 0 s.suspends)) (λ l. let x = back_is v 0 s.suspends l in never x.0 x.1.0 x.1.1)

  pub backs_empty : (v j : ℕ) (ps : List SuspendPoint) → values v (back_blocks s part j ps) ≡ 0
  backs_empty v j [] = refl
  backs_empty v j (p ∷ ps) = let e = backs_empty v (j + 1) ps in let a = one_more v (back_block s part j p) (back_blocks s part (j + 1) ps) in omega (arith, e, a)

pub not_it : (a v : ℕ) → (a ≡ v → ⊥) → one_if (a == v) ≡ 0
not_it a v other = ap one_if (other_number a v other)

pub one_most : (a v : ℕ) → one_if (a == v) ≤ 1
one_most a v = on (a == v)
  where
    on : (b : Bool) → one_if b ≤ 1
    on true = omega arith
    on false = omega arith
