-- Fronts and backs of points are apart.
use Rattle.std.proofs.Common.{◌≡◌, ℕ, suc, ◌<◌, ◌≤◌, length, refl, sym, ◌∙◌, subst, arith}
use Rattle.std.specs.Prelude.{slice_get}
use Rattle.ir_model.specs.declared.module.Function.{Function}
use Rattle.rule_laws.specs.ir_paths.Paths.{same_point}
use Rattle.rule_laws.specs.ir_paths.declared.point.Point.{Point}
use Rattle.rule_laws.proofs.ir_laws.facts.Lists.{place_unique}
use Rattle.pass_early_proof.proofs.early.saves.Instrs.{next_place}
use Rattle.pass_early_proof.specs.early.saves.SavesWritten.{behind_save, with_save}
use Rattle.pass_early_proof.specs.early.saves.Spots.{back_of, front_of, number_of_block, place_in}
use Rattle.rule_laws.specs.ir_laws.facts.expanded.Spots.{instrs_in}
use Rattle.rule_laws.proofs.ir_laws.paths.expanded.Apart.{same_moved}

module _ (f : Function) where
  abbrev place : ℕ → ℕ → ℕ
  place block at = place_in f.coroutine at (number_of_block f.coroutine block (length f.names) f.blocks) (instrs_in (slice_get f.blocks block))

  -- x stands in what the instruction at p becomes
  pub record StandsAt (p x : Point) : Type 0 where
    pub block : x.block ≡ p.block
    pub from : place p.block p.at ≤ x.at
    pub below : x.at < place p.block (suc p.at)

  pub front_stands : (p : Point) → StandsAt p (front_of f p)
  front_stands p =
      let next = next_place f.coroutine p.at (number_of_block f.coroutine p.block (length f.names) f.blocks) (instrs_in (slice_get f.blocks p.block)) in
      record { block = refl; from = omega arith; below = omega (arith, next) }

  pub back_stands : (p : Point) → StandsAt p (back_of f p)
  back_stands p =
      let next = next_place f.coroutine p.at (number_of_block f.coroutine p.block (length f.names) f.blocks) (instrs_in (slice_get f.blocks p.block)) in
      record { block = refl; from = omega arith; below = omega (arith, next) }

  pub apart : (p q x : Point) → StandsAt p x → StandsAt q x → p ≡ q
  apart p q x a b =
      let e : p.block ≡ q.block = sym a.block ∙ b.block in
      let from = subst (λ (k : ℕ). place k q.at ≤ x.at) (sym e) b.from in
      let below = subst (λ (k : ℕ). x.at < place k (suc q.at)) (sym e) b.below in
      let s : p.at ≡ q.at = place_unique (with_save f.coroutine) (behind_save f.coroutine) p.at q.at (number_of_block f.coroutine p.block (length f.names) f.blocks) x.at (instrs_in (slice_get f.blocks p.block)) a.from a.below from below in
      λ i. record { block = e i; at = s i }

  pub front_front : (p q : Point) → front_of f p ≡ front_of f q → p ≡ q
  front_front p q e = apart p q (front_of f p) (front_stands p) (subst (StandsAt q) (sym e) (front_stands q))

  pub front_back : (p q : Point) → front_of f p ≡ back_of f q → p ≡ q
  front_back p q e = apart p q (front_of f p) (front_stands p) (subst (StandsAt q) (sym e) (back_stands q))

  pub back_back : (p q : Point) → back_of f p ≡ back_of f q → p ≡ q
  back_back p q e = apart p q (back_of f p) (back_stands p) (subst (StandsAt q) (sym e) (back_stands q))

pub same_fronts : (f : Function) (p q : Point) → same_point (front_of f p) (front_of f q) ≡ same_point p q
same_fronts f p q = same_moved (front_of f) (front_of f) p q (front_front f p q) refl
