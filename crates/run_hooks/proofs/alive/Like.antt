-- States that are in order as another is.
use Rattle.std.proofs.Common.{◌≡◌, ◌<◌, ℕ, false, List, length, Option, Some, None, refl, sym, ap, ◌∙◌, subst}
use Rattle.std.specs.Prelude.{slice_get, slice_set, option_and_then, option_map}
use Rattle.run_hooks.proofs.alive.Behind.{IsInOrder, IsLower}
use Rattle.run_hooks.proofs.alive.Order.{low}
use Rattle.run_hooks.proofs.alive.Parts.{AllIn, Here, IsSet, Other, get_set, in_map}
use Rattle.pass_renewed_proof.specs.run_memory.Memory.{own}
use Rattle.pass_renewed_proof.specs.run_source.State.{is_suspended, own_instance, numbered}
use Rattle.pass_renewed_proof.specs.run_source.declared.state.Activation.{Activation}
use Rattle.pass_renewed_proof.specs.run_source.declared.state.Instance.{Instance}
use Rattle.pass_renewed_proof.specs.run_source.declared.state.State.{State}

-- ---- states like another

-- the same activations below, and instances of the same coroutines
pub like : (s : State) → IsInOrder s → (t : State) → t.below ≡ s.below → t.top.instance ≡ s.top.instance
    → t.top.func ≡ s.top.func
    → ((j : ℕ) (z : Instance) → slice_get t.instances j ≡ Some z
    → (x : Instance) × (slice_get s.instances j ≡ Some x) × (z.coroutine ≡ x.coroutine))
    → ((j : ℕ) (z : Instance) → t.top.instance ≡ Some j → slice_get t.instances j ≡ Some z → t.top.has_left ≡ false
    → is_suspended z.status ≡ false) → IsInOrder t
like s o t eb ei ef same awake = record {
  own = λ i z en ez. let w = same i z ez in w.2 ∙ o.own i w.0 (sym ei ∙ en) w.1 ∙ sym ef;
  lower = subst (AllIn (IsLower t)) (sym eb) (in_map (IsLower s) (IsLower t) s.below (λ d a low. record {
    less = subst (λ (bs : List Activation). d < length bs) (sym eb) low.less;
    left = λ i en ea. low.left i (sym ei ∙ en) ea;
    own = λ i z ea ez. let w = same i z ez in w.2 ∙ low.own i w.0 ea w.1;
  }) o.lower);
  awake = awake;
}

-- an instance is set to one of the same coroutine
pub set_like : (xs : List Instance) (i : ℕ) (x y : Instance) → slice_get xs i ≡ Some x → y.coroutine ≡ x.coroutine
    → (j : ℕ) (z : Instance) → slice_get (slice_set xs i y) j ≡ Some z
    → (w : Instance) × (slice_get xs j ≡ Some w) × (z.coroutine ≡ w.coroutine)
set_like xs i x y there same j z e = on (get_set xs i y j z e)
  where
    on : IsSet xs i y j z → (w : Instance) × (slice_get xs j ≡ Some w) × (z.coroutine ≡ w.coroutine)
    on (Here ej ez) = (x, ap (slice_get xs) ej ∙ there, ap (λ (v : Instance). v.coroutine) ez ∙ same)
    on (Other ne g) = (z, g, refl)

pub own_is_there : (s : State) (j : ℕ) (x : Instance) → s.top.instance ≡ Some j → slice_get s.instances j ≡ Some x
    → own_instance s ≡ Some (j, x)
own_is_there s j x ej ex = ap (option_and_then (numbered s.instances)) ej
    ∙ ap (option_map {U = ℕ × Instance} (λ y. (j, y))) ex

pub unmade : (o : Option ℕ) (n : ℕ) → None ≡ Some n → ⊥
unmade o n e = cc
