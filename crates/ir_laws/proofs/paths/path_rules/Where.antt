-- The points of the instructions that pass a test, by what stands at them.
use Rattle.std.proofs.Common.{◌≡◌, ℕ, zero, suc, ◌+◌, Bool, true, false, List, [], ◌∷◌, refl, sym, ap, ◌∙◌, subst, arith}
use Rattle.std.specs.Prelude.{Some, None, Option, slice_get, if◌then◌else◌}
use Rattle.ir_laws.proofs.paths.renamed.Outside.{where_pass}
use Rattle.ir_laws.proofs.paths.renamed.Uses.{stands_in}
use Rattle.ir_laws.specs.facts.renamed.Regular.{passes}
use Rattle.run_laws.specs.ir_model.declared.instr.Instr.{Instr}
use Rattle.run_laws.specs.ir_model.declared.module.Block.{Block}
use Rattle.run_laws.specs.ir_model.declared.module.Function.{Function}
use Rattle.run_laws.proofs.ir_paths.Search.{Has, has_left, has_right, or_left, or_right, same_point-itself}
use Rattle.run_laws.specs.ir_paths.Paths.{has_point, same_point}
use Rattle.run_laws.specs.ir_paths.Windows.{instr_at, points_from, points_in, points_where}
use Rattle.run_laws.specs.ir_paths.declared.point.Point.{Point}
use Rattle.ir_laws.proofs.facts.Truth.{same_truth}

abbrev point : ℕ → ℕ → Point
point block at = record { block = block; at = at }

module _ (t : Instr → Bool) where
  from_has : (block at : ℕ) (is : List Instr) (k : ℕ) (i : Instr) → slice_get is k ≡ Some i → t i ≡ true → Has (points_from t block at is) (point block (at + k))
  from_has block at [] k i e h = absurd (cc)
  from_has block at (x ∷ is) zero i e h =
      let one : x ≡ i = cc in
      let same : at ≡ at + 0 = omega arith in
      subst (λ (n : ℕ). Has (points_from t block at (x ∷ is)) (point block n)) same
      (subst (λ (b : Bool). Has (if b then point block at ∷ points_from t block (suc at) is else points_from t block (suc at) is) (point block at)) (sym (ap t one ∙ h))
      (or_left (same_point (point block at) (point block at)) (has_point (points_from t block (suc at) is) (point block at)) (same_point-itself (point block at))))
  from_has block at (x ∷ is) (suc k) i e h = let same : suc at + k ≡ at + suc k = omega arith in on (t x) (subst (λ (n : ℕ). Has (points_from t block (suc at) is) (point block n)) same (from_has block (suc at) is k i e h))
    where
      on : (b : Bool) → Has (points_from t block (suc at) is) (point block (at + suc k)) → Has (if b then point block at ∷ points_from t block (suc at) is else points_from t block (suc at) is) (point block (at + suc k))
      on true there = or_right (same_point (point block (at + suc k)) (point block at)) (has_point (points_from t block (suc at) is) (point block (at + suc k))) there
      on false there = there

  in_has : (block : ℕ) (bs : List Block) (k : ℕ) (b : Block) (j : ℕ) (i : Instr) → slice_get bs k ≡ Some b → slice_get b.instrs j ≡ Some i → t i ≡ true → Has (points_in t block bs) (point (block + k) j)
  in_has block [] k b j i e d h = absurd (cc)
  in_has block (c ∷ bs) zero b j i e d h =
      let one : c ≡ b = cc in
      let first : block ≡ block + 0 = omega arith in
      let same : 0 + j ≡ j = omega arith in
      has_left (points_from t block 0 c.instrs) (points_in t (suc block) bs) (point (block + 0) j)
      (subst (λ (n : ℕ). Has (points_from t block 0 c.instrs) (point n j)) first
      (subst (λ (n : ℕ). Has (points_from t block 0 c.instrs) (point block n)) same
      (from_has block 0 c.instrs j i (ap (λ (x : Block). slice_get x.instrs j) one ∙ d) h)))
  in_has block (c ∷ bs) (suc k) b j i e d h =
      let same : suc block + k ≡ block + suc k = omega arith in
      has_right (points_from t block 0 c.instrs) (points_in t (suc block) bs) (point (block + suc k) j)
      (subst (λ (n : ℕ). Has (points_in t (suc block) bs) (point n j)) same (in_has (suc block) bs k b j i e d h))

  pub where_has : (f : Function) (p : Point) (i : Instr) → instr_at f p ≡ Some i → t i ≡ true → has_point (points_where t f) p ≡ true
  where_has f p i e h =
      let x = stands_in f p i e in
      let same : 0 + p.block ≡ p.block = omega arith in
      subst (λ (n : ℕ). Has (points_where t f) (point n p.at)) same (in_has 0 f.blocks p.block x.block p.at i x.got x.stands h)

  -- a point is among them just where what stands there passes
  pub has_where : (f : Function) (p : Point) → has_point (points_where t f) p ≡ passes t (instr_at f p)
  has_where f p = same_truth (has_point (points_where t f) p) (passes t (instr_at f p)) (where_pass t f p) (on (instr_at f p) refl)
    where
      on : (o : Option Instr) → instr_at f p ≡ o → passes t o ≡ true → has_point (points_where t f) p ≡ true
      on None e h = absurd (cc)
      on (Some i) e h = where_has f p i e h
