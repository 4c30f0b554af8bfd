-- The windows that a branch leaves, where saves are written out.
use Rattle.std.proofs.Common.{◌≡◌, inl, inr, Bool, true, false, List, [], ◌∷◌, sym, ap, ◌∙◌, subst}
use Rattle.std.specs.Prelude.{filter, not, ◌&&◌, if◌then◌else◌}
use Rattle.ir_model.specs.declared.module.Function.{Function}
use Rattle.rule_laws.specs.ir_paths.Paths.{has_point, same_point}
use Rattle.rule_laws.specs.ir_paths.Windows.{leaves}
use Rattle.rule_laws.specs.ir_paths.declared.point.Point.{Point}
use Rattle.rule_laws.specs.ir_paths.declared.point.Window.{Window}
use Rattle.pass_early_proof.proofs.early.saves.Apart.{same_fronts}
use Rattle.pass_early_proof.specs.early.saves.Moved.{AreAllMoved, AreMoved, IsMoved}
use Rattle.pass_early_proof.specs.early.saves.Spots.{front_of}

module _ (f : Function) (p q : Point) where
  leaves_moved : (w v : Window) → IsMoved f w v → leaves (front_of f p) (front_of f q) v ≡ leaves p q w
  leaves_moved w v m =
      let to = ap (same_point (front_of f q)) m.suspend ∙ same_fronts f q w.suspend in
      λ i. m.inside p i && not (m.inside q i) && not (to i)

  leaves_none : (v : Window) → has_point v.inside (front_of f p) ≡ false → leaves (front_of f p) (front_of f q) v ≡ false
  leaves_none v e = ap (λ (t : Bool). t && not (has_point v.inside (front_of f q)) && not (same_point (front_of f q) v.suspend)) e

  abbrev left : List Window → List Window
  left ws = filter (leaves p q) ws

  abbrev left_then : List Window → List Window
  left_then vs = filter (leaves (front_of f p) (front_of f q)) vs

  -- a branch leaves the windows, moved, and none of written saves
  pub left_moved : (vs ws : List Window) → AreMoved f ws vs → AreAllMoved f (left ws) (left_then vs)
  left_moved [] ws h = subst (λ (us : List Window). AreAllMoved f (left us) []) (sym h) tt
  left_moved (v ∷ vs) ws (inl h) =
      subst (λ (b : Bool). AreAllMoved f (left ws) (if b then v ∷ left_then vs else left_then vs)) (sym (leaves_none v (h.0 p))) (left_moved vs ws h.1)
  left_moved (v ∷ vs) ws (inr h) =
      subst (λ (us : List Window). AreAllMoved f (left us) (left_then (v ∷ vs))) (sym h.2)
      (on (leaves p q h.0) (leaves (front_of f p) (front_of f q) v) (leaves_moved h.0 v h.3) (left_moved vs h.1 h.4))
    where
      on : (a b : Bool) → b ≡ a → AreAllMoved f (left h.1) (left_then vs) → AreAllMoved f (if a then h.0 ∷ left h.1 else left h.1) (if b then v ∷ left_then vs else left_then vs)
      on true true e again = (h.3, again)
      on true false e again = absurd (cc)
      on false true e again = absurd (cc)
      on false false e again = again
