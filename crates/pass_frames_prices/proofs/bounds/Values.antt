-- What is kept are names of the coroutine, and none of them is an alloca's.
use Rattle.std.proofs.Common.{◌≡◌, inl, inr, ℕ, suc, ◌+◌, ◌≤◌, Bool, true, false, List, [], ◌∷◌, ◌++◌, length, refl, sym, ap, ◌∙◌, arith}
use Rattle.std.proofs.lemmas.List.{length-append}
use Rattle.std.specs.Prelude.{None, Option, Some, if◌then◌else◌, slice_get, ◌||◌}
use Rattle.pass_frames_proof.specs.flow_solver.Paths.{IsListed}
use Rattle.pass_frames_proof.specs.frame_crossing.Values.{all_defined, blocks_defined, distinct, instrs_defined, is_apart, is_token, is_token_result, params_defined, phis_defined, result_unless, unless, values_of, with_new}
use Rattle.pass_frames_proof.specs.ir_laws.paths.woven_rules.Pairs.{AreDifferent}
use Rattle.pass_frames_proof.specs.ir_model.declared.instr.Instr.{Instr}
use Rattle.pass_frames_proof.specs.ir_model.declared.instr.Phi.{Phi}
use Rattle.pass_frames_proof.specs.ir_model.declared.module.Block.{Block}
use Rattle.pass_frames_proof.specs.ir_model.declared.module.Function.{Function}
use Rattle.pass_frames_proof.specs.ir_model.declared.module.Param.{Param}
use Rattle.pass_frames_proof.specs.ir_model.declared.operand.Intrinsic.{Intrinsic}
use Rattle.pass_frames_proof.specs.ir_parts.Contents.{result_of}
use Rattle.pass_frames_proof.specs.ir_paths.Slots.{has_name}
use Rattle.pass_frames_proof.specs.ir_paths.Windows.{is_call_of}
use Rattle.pass_frames_proof.specs.pass_cells.Kept.{entry}
use Rattle.pass_frames_prices.proofs.bounds.Once.{few_of}
use Rattle.pass_frames_proof.proofs.code.Names.{First, Kept, count_is}
use Rattle.pass_frames_proof.specs.Framings.{IsFraming}
use Rattle.pass_frames_prices.specs.Numbers.{allocas_of_blocks, allocas_of_instrs, name_of_instr, names_of, names_of_blocks, names_of_instrs, one_alloca}
use Rattle.pass_frames_proof.specs.Places.{Framing, edged, plan}
use Rattle.pass_frames_proof.proofs.pass_proofs.cells.rules.Keeping.{IsKeeping, keeping_is}

-- ---- of the names, those that may cross a suspend, and the allocas

unless_few : (b : Bool) (v : ℕ) → length (unless b v) ≤ 1
unless_few true v = omega arith
unless_few false v = omega arith

params_few : (ps : List Param) → length (params_defined ps) ≤ length ps
params_few [] = omega arith
params_few (p ∷ ps) =
    let a = unless_few (is_token p.ty) p.name in
    let b = params_few ps in
    let e = length-append (unless (is_token p.ty) p.name) (params_defined ps) in
    omega (arith, a, b, e)

phis_few : (ps : List Phi) → length (phis_defined ps) ≤ length ps
phis_few [] = omega arith
phis_few (p ∷ ps) =
    let a = unless_few (is_token p.ty) p.result in
    let b = phis_few ps in
    let e = length-append (unless (is_token p.ty) p.result) (phis_defined ps) in
    omega (arith, a, b, e)

abbrev IsCounted : Instr → Type 0
IsCounted i = length (result_unless (is_apart i) (result_of i)) + one_alloca i ≤ name_of_instr i

call_counted : (t b f : Bool) (v : ℕ) → length (unless (t || (b || f)) v) + 0 ≤ (if t || b then 0 else 1)
call_counted true b f v = omega arith
call_counted false true f v = omega arith
call_counted false false true v = omega arith
call_counted false false false v = omega arith

one_counted : (i : Instr) → IsCounted i
one_counted (Instr.Binary r op flags ty a b) = let e = unless_few (is_token ty) r in omega (arith, e)
one_counted (Instr.Icmp r pred ty a b) = omega arith
one_counted (Instr.Select r c a b) = let e = unless_few (is_token a.ty) r in omega (arith, e)
one_counted (Instr.Cast r op nneg a to) = let e = unless_few (is_token to) r in omega (arith, e)
one_counted (Instr.Alloca r ty align) = omega arith
one_counted (Instr.Load r ty a align) = let e = unless_few (is_token ty) r in omega (arith, e)
one_counted (Instr.Store a b align) = omega arith
one_counted (Instr.Gep r inbounds ty base indices) = omega arith
one_counted (Instr.Call None must_tail ty callee args) = omega arith
one_counted (Instr.Call (Some r) must_tail ty callee args) =
    call_counted (is_token_result ty) (is_call_of Intrinsic.CoroBegin (Instr.Call (Some r) must_tail ty callee args))
    (is_call_of Intrinsic.CoroFrame (Instr.Call (Some r) must_tail ty callee args)) r

instrs_counted : (is : List Instr) → length (instrs_defined is) + allocas_of_instrs is ≤ names_of_instrs is
instrs_counted [] = omega arith
instrs_counted (i ∷ is) =
    let a = one_counted i in
    let b = instrs_counted is in
    let e = length-append (result_unless (is_apart i) (result_of i)) (instrs_defined is) in
    omega (arith, a, b, e)

blocks_counted : (bs : List Block) → length (blocks_defined bs) + allocas_of_blocks bs ≤ names_of_blocks bs
blocks_counted [] = omega arith
blocks_counted (b ∷ bs) =
    let a = phis_few b.phis in
    let c = instrs_counted b.instrs in
    let d = blocks_counted bs in
    let e = length-append (phis_defined b.phis) (instrs_defined b.instrs ++ blocks_defined bs) in
    let f = length-append (instrs_defined b.instrs) (blocks_defined bs) in
    omega (arith, a, c, d, e, f)

pub all_counted : (f : Function) → length (all_defined f) + allocas_of_blocks f.blocks ≤ names_of f
all_counted f =
    let a = params_few f.params in
    let b = blocks_counted f.blocks in
    let e = length-append (params_defined f.params) (blocks_defined f.blocks) in
    omega (arith, a, b, e)

-- ---- each once

distinct_few : (found vs : List ℕ) → length (distinct found vs) ≤ length found + length vs
distinct_few found [] = omega arith
distinct_few found (v ∷ vs) =
    let a = distinct_few (with_new found v) vs in
    let b = on (has_name found v) in
    omega (arith, a, b)
  where
    on : (b : Bool) → length (if b then found else found ++ v ∷ []) ≤ length found + 1
    on true = omega arith
    on false = let e = length-append found (v ∷ []) in omega (arith, e)

pub listed_place : (vs : List ℕ) (u : ℕ) → IsListed u vs → (at : ℕ) × (slice_get vs at ≡ Some u)
listed_place [] u l = absurd l
listed_place (w ∷ us) u (inl e) = (0, ap (λ (n : ℕ). Some n) (sym e))
listed_place (w ∷ us) u (inr l) = let q = listed_place us u l in (suc q.0, q.1)

-- values at places of their own stand once
placed_once : (places : List (Option ℕ)) (k : ℕ) (vs : List ℕ)
    → ((at v : ℕ) → slice_get vs at ≡ Some v → entry places v ≡ Some (k + at)) → AreDifferent vs
placed_once places k [] h = tt
placed_once places k (v ∷ vs) h = (
  λ l.
      let q = listed_place vs v l in
      let one : Some (k + 0) ≡ Some (k + suc q.0) = sym (h 0 v refl) ∙ h (suc q.0) v q.1 in
      let same : k + 0 ≡ k + suc q.0 = cc in
      absurd (omega (arith, same)),
  placed_once places (k + 1) vs (λ at w e.
      let same : k + suc at ≡ k + 1 + at = omega arith in
      h (suc at) w e ∙ ap (λ (n : ℕ). Some n) same),
)

module _ (x : Framing) (is : IsFraming x) where
  values : IsKeeping (First x is) (λ v. IsListed v (values_of (edged x))) (Kept x is)
  values =
      keeping_is (First x is) (λ v. IsListed v (values_of (edged x))) x.contents.crossing
      (λ p l. is.frameable.cells.values p l)

  pub kept_once : AreDifferent (Kept x is).values
  kept_once =
      placed_once (Kept x is).places 0 (Kept x is).values
      (λ at v e. let same : 0 + at ≡ at = omega arith in
      values.back v at e ∙ ap (λ (n : ℕ). Some n) (sym same))

  -- kept values and allocas are names
  pub kept_few : length (plan x).kept + allocas_of_blocks (edged x).blocks ≤ names_of (edged x)
  kept_few =
      let a = few_of (Kept x is).values (values_of (edged x)) kept_once
      (λ v l. let q = listed_place (Kept x is).values v l in values.holds v q.0 q.1) in
      let b = distinct_few [] (all_defined (edged x)) in
      let c = all_counted (edged x) in
      let d = count_is x is in
      omega (arith, a, b, c, d)
