-- Paths of questions as paths on which some points are avoided.
use Rattle.std.proofs.Common.{◌≡◌, ℕ, Bool, true, false, List, [], ◌∷◌, refl, sym, ap, ◌∙◌, subst, ⊎_elim, inl, inr}
use Rattle.std.proofs.lemmas.Bool.{false≢true}
use Rattle.flow_bits.specs.Bits.{HasBit}
use Rattle.flow_solver.specs.Paths.{IsListed}
use Rattle.ir_model.specs.declared.module.Function.{Function}
use Rattle.ir_paths.proofs.Search.{leads-more}
use Rattle.ir_paths.specs.Paths.{IsPath, Leads, has_point, nexts}
use Rattle.ir_paths.specs.declared.point.Point.{Point}
use Rattle.flow_reach.proofs.Ways.{source_is_point}
use Rattle.flow_reach.specs.Reached.{AreAvoided, ComesTo, IsFrom, IsReached, begins_at, front}
use Rattle.flow_reach.specs.Reached.IsFrom.{FromBegin, FromFront}
use Rattle.flow_reach.specs.Reached.IsReached.{AtFront, Behind, On}
use Rattle.flow_reach.specs.declared.question.Passes.{Passes}

no_true : (b : Bool) → (b ≡ true → ⊥) → b ≡ false
no_true true n = absurd (n refl)
no_true false n = refl

module _ (f : Function) (passes : Passes) (c : ℕ) (avoided : List Point) (known : AreAvoided f passes c avoided) where
  step_on : (p : Point) → IsReached f passes c p → has_point avoided p ≡ false → (q : Point) → has_point (nexts f p) q ≡ true → IsReached f passes c q
  step_on p r free q next =
      let is = source_is_point f p q next in
      On p q r
      (λ s. false≢true (sym free ∙ (known.each p is).1 (inl s)))
      (λ e. false≢true (sym free ∙ (known.each p is).1 (inr e)))
      next

  -- on from a point to which a path leads
  on_path : (p : Point) → IsReached f passes c p → has_point avoided p ≡ false → (between : List Point) (q : Point) → IsPath f avoided p between q → IsReached f passes c q
  on_path p r free [] q h = step_on p r free q h
  on_path p r free (v ∷ between) q h = on_path v (step_on p r free v h.0) h.1 between q h.2

  -- a path from a point behind which the question begins
  pub leads_reached : (p q : Point) → HasBit (begins_at passes.rows p) c → Leads f avoided p q → IsReached f passes c q
  leads_reached p q h l = from_begin l.between l.is_path
    where
      from_begin : (between : List Point) → IsPath f avoided p between q → IsReached f passes c q
      from_begin [] k = Behind p q h k
      from_begin (v ∷ between) k = on_path v (Behind p v h k.0) k.1 between q k.2

  -- a path from the front of a block where it begins
  pub comes_reached : (block word : ℕ) (q : Point) → IsListed (block, word) passes.fronts → HasBit word c → ComesTo f avoided (front block) q → IsReached f passes c q
  comes_reached block word q listed h comes = ⊎_elim
      (λ same. subst (IsReached f passes c) same (AtFront block word listed h))
      (λ l. on_path (front block) (AtFront block word listed h) l.0 l.1.between q l.1.is_path)
      comes

  one_more : (p q : Point) → IsFrom f passes c avoided p → has_point avoided p ≡ false → has_point (nexts f p) q ≡ true → IsFrom f passes c avoided q
  one_more p q (FromBegin r h l) free next = FromBegin r h (leads-more f avoided r p q l free next)
  one_more p q (FromFront block word listed h comes) free next = FromFront block word listed h (inr (⊎_elim
      (λ same. (ap (has_point avoided) same ∙ free, record { between = []; is_path = subst (λ (x : Point). has_point (nexts f x) q ≡ true) (sym same) next }))
      (λ l. (l.0, leads-more f avoided (front block) p q l.1 free next))
      comes))

  -- each path of the question is one of these
  pub reached_from : (q : Point) → IsReached f passes c q → IsFrom f passes c avoided q
  reached_from _ (AtFront block word listed h) = FromFront block word listed h (inl refl)
  reached_from _ (Behind p q h next) = FromBegin p h (record { between = []; is_path = next })
  reached_from _ (On p q before free outside next) =
      let is = source_is_point f p q next in
      one_more p q (reached_from p before) (no_true (has_point avoided p) (λ e. ⊎_elim free outside ((known.each p is).0 e))) next
