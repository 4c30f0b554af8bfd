-- While a resumed activation makes its slots anew nothing is seen, and all activations and instances stay.
use Rattle.std.proofs.Common.{◌≡◌, ℕ, zero, suc, ◌+◌, ◌<◌, List, [], ◌∷◌, length, refl, sym, ap, ◌∙◌}
use Rattle.std.proofs.Common.{subst, arith}
use Rattle.run_types.specs.ir_base.declared.outcome.Outcome.{Outcome}
use Rattle.run_types.specs.run_agreement.Machines.{iterate}
use Rattle.run_types.specs.run_framed.Framed.{at_point, with_mode}
use Rattle.run_types.specs.run_laws.transfer.Shapes.{Pair, Pairwise}
use Rattle.run_types.specs.run_source.State.{function_of}
use Rattle.run_types.specs.run_source.declared.state.Mode.{Mode}
use Rattle.run_types.specs.run_source.declared.state.State.{State}
use Rattle.pass_renewed_meaning.specs.Followed.{AreAlike, IsEntering}
use Rattle.run_types.proofs.pass_renewed_proof.Entering.{entering_step}
use Rattle.run_types.specs.pass_renewed_proof.Between.{AreLikeActivations, AreLikeInstances}
use Rattle.run_types.specs.pass_renewed_proof.Entering.{Anew, AreNext, made_anew}
use Rattle.run_types.specs.pass_renewed_proof.Renewed.{RenewedGiven, renew_after, renewed_from, renewed_step}

-- what is seen of two states, and who is there, is the same; in the second slots are made anew
pub record IsLike (s t : State) : Type 0 where
  pub entering : IsEntering t.top.mode
  pub outcome : t.outcome ≡ s.outcome
  pub events : t.world.events ≡ s.world.events
  pub instances : t.instances ≡ s.instances
  pub below : t.below ≡ s.below
  pub func : t.top.func ≡ s.top.func
  pub result : t.top.result ≡ s.top.result
  pub instance : t.top.instance ≡ s.top.instance
  pub has_left : t.top.has_left ≡ s.top.has_left

pub like_on : (g : RenewedGiven) (from label : ℕ) (xs : List Anew) (at j : ℕ) (s : State) → s.outcome ≡ Outcome.Running
    → AreNext (g.flags s.top.func) (function_of g.given s) at xs → j < length xs → IsLike s (iterate (renewed_step g) j
    (renew_after g s from label (renewed_from (g.flags s.top.func) (function_of g.given s) at)))
like_on g from label [] at j s runs next lt = absurd (omega arith)
like_on g from label (x ∷ xs) at zero s runs next lt = subst (λ p. IsLike s (renew_after g s from label p)) (sym next.0)
    (record {
      entering = tt;
      outcome = refl;
      events = refl;
      instances = refl;
      below = refl;
      func = refl;
      result = refl;
      instance = refl;
      has_left = refl;
    })
like_on g from label (x ∷ xs) at (suc j) s runs next lt =
    let e : State = at_point (with_mode s (Mode.Entering from label)) (record { block = 0; at = x.at }) in
    let made : State = made_anew g e x.name x.ty x.align in
    let r = like_on g from label xs (x.at + 1) j made runs next.4 (omega arith) in
    subst (IsLike s) (sym (ap (λ p. iterate (renewed_step g) (suc j) (renew_after g s from label p)) next.0
    ∙ ap (iterate (renewed_step g) j) (entering_step g e from label x.name x.align x.ty runs refl next.1 next.2 next.3)))
    (record {
      entering = r.entering;
      outcome = r.outcome;
      events = r.events;
      instances = r.instances;
      below = r.below;
      func = r.func;
      result = r.result;
      instance = r.instance;
      has_left = r.has_left;
    })

-- what is one to one with the one is so with the other
pub alike_of : (s t u : State) → IsLike t u → AreAlike s t → AreAlike s u
alike_of s t u like h = record {
  instances = subst (λ zs. Pairwise AreLikeInstances s.instances zs) (sym like.instances) h.instances;
  activations = on h.activations;
}
  where
    top_of : AreLikeActivations s.top t.top → AreLikeActivations s.top u.top
    top_of a = record {
      func = like.func ∙ a.func;
      result = like.result ∙ a.result;
      instance = like.instance ∙ a.instance;
      has_left = like.has_left ∙ a.has_left;
    }

    on : Pairwise AreLikeActivations (s.top ∷ s.below) (t.top ∷ t.below)
        → Pairwise AreLikeActivations (s.top ∷ s.below) (u.top ∷ u.below)
    on (Pair _ _ _ _ a rest) = Pair s.top u.top s.below u.below (top_of a) (subst (λ zs. Pairwise AreLikeActivations
        s.below zs) (sym like.below) rest)
