-- An activation that returns nothing, wherever it stands, leads back to its caller in both runs.
use Rattle.std.proofs.Common.{◌≡◌, ◌≢◌, ℕ, ◌<◌, Bool, false, List, [], ◌∷◌, length, None, Result, Ok, refl, sym}
use Rattle.std.proofs.Common.{ap, ◌∙◌}
use Rattle.std.proofs.Common.{subst, arith}
use Rattle.std.proofs.lemmas.Bool.{false≢true}
use Rattle.pass_kept_proof.specs.ir_base.declared.cause.Cause.{Cause}
use Rattle.pass_kept_proof.specs.ir_model.Names.{function_at}
use Rattle.pass_kept_proof.specs.ir_model.declared.module.Function.{Function}
use Rattle.pass_kept_proof.specs.ir_model.declared.module.Module.{Module}
use Rattle.frame_classes.specs.frame_slots.Spots.{On}
use Rattle.pass_kept_proof.specs.run_source.Source.{given_back, pop, return, returned}
use Rattle.pass_kept_proof.specs.run_source.declared.state.Activation.{Activation}
use Rattle.pass_kept_proof.specs.run_source.declared.state.State.{State}
use Rattle.pass_kept_proof.specs.run_step.Step.{Nowhere, without_slots}
use Rattle.pass_renewed_proof.proofs.Departing.{AreLeft}
use Rattle.pass_renewed_proof.proofs.Returning.{died, goes_back}
use Rattle.pass_renewed_proof.proofs.Touching.{IsTouching}
use Rattle.pass_renewed_proof.specs.Beside.{AreOutdone, HasLeftSuspended, IsBeside, IsOverOf}
use Rattle.pass_renewed_proof.specs.Chosen.{places_at}
use Rattle.pass_renewed_proof.specs.Ledger.{Ledger, used_ledger}
use Rattle.pass_renewed_proof.specs.Renewed.{Flags, Roots}
use Rattle.pass_renewed_proof.specs.SlotRules.{KeepsSlots}

module _ (m : Module) (flags : Flags) (roots : Roots) (keeps : (func : ℕ)
    → KeepsSlots m (function_at m func) (flags func) (roots func)) (s t : State) (beside : IsBeside m flags roots s t)
    (over : s.top.instance ≢ None → s.top.has_left ≡ false → IsOverOf s.instances s.top) (outdone : AreOutdone
    s.instances s.top s.below) (asleep : HasLeftSuspended s.instances s.top) where
  abbrev f : Function
  f = function_at m s.top.func

  -- it reads nothing
  nothing : IsTouching m roots s.top Nowhere (On (length (function_at m s.top.func).blocks) 0)
  nothing = record {
    uses = λ v al root reads. absurd (false≢true reads);
    escapes = λ v al root reads. absurd (false≢true reads);
    is_spot = λ al u. absurd (not_less (length f.blocks) u.uses.0);
  }
    where
      not_less : (n : ℕ) → n < n → ⊥
      not_less n lt = absurd (omega arith)

  abbrev k : Ledger
  k = used_ledger m beside.ledger (places_at (roots s.top.func) s.top.values beside.top.values Nowhere)

  abbrev Left : List Activation → List Activation → Type 0
  Left as' bs = (hs : ℕ → Bool) × AreLeft m flags roots (record k { hides = hs }) s.instances t.instances (without_slots
      s.world.memory s.top.slots) (without_slots t.world.memory beside.top.slots) s.top.result as' bs

  back_by : (a : Activation) (below bs : List Activation) → t.below ≡ bs → Left (a ∷ below) bs
      → (other : State) × (return t None ≡ Ok other) × IsBeside m flags roots (record (returned s) {
        top = given_back a s.top.result None;
        below = below;
      }) other
  back_by a below [] e (hs, r) = absurd r.below
  back_by a below (b ∷ bs) e (hs, r) = (
    record (returned t) { top = given_back b t.top.result None; below = bs },
    ap (pop (returned t) None) e,
    subst (λ (z : Activation). IsBeside m flags roots (record (returned s) {
      top = given_back a s.top.result None;
      below = below;
    }) (record t {
      world = record t.world { memory = without_slots t.world.memory z.slots };
      top = given_back b z.result None;
      below = bs;
    })) (sym beside.top.is) (goes_back m flags roots keeps s t beside Nowhere (On (length f.blocks) 0) nothing over
        outdone asleep None None refl a b below bs hs r),
  )

  pub back_with_nothing : (a : Activation) (below : List Activation) → s.below ≡ a ∷ below → (after : State)
      → return s None ≡ Ok after → (other : State) × (return t None ≡ Ok other) × IsBeside m flags roots after other
  back_with_nothing a below is after done =
      let r = back_by a below t.below refl (subst (λ zs. Left zs t.below) is (died m flags roots keeps s t beside
      Nowhere
      (On (length f.blocks) 0) nothing over outdone asleep)) in
      let same : record (returned s) {
        top = given_back a s.top.result None;
        below = below;
      } ≡ after = same_ok (sym (ap (pop (returned s) None) is) ∙ done) in
      (r.0, r.1, subst (λ (z : State). IsBeside m flags roots z r.0) same r.2)
    where
      same_ok : {x y : State} → ◌≡◌ {A = Result State Cause} (Ok x) (Ok y) → x ≡ y
      same_ok q = cc
