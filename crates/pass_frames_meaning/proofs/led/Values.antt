-- Where names of allocas and of begin lead, in other values, among more slots, and where instances change.
use Rattle.std.proofs.Common.{◌≡◌, ◌⊎◌, inl, inr, ℕ, zero, suc, Bool, true, false, List, [], ◌∷◌, ◌++◌, Option, Some}
use Rattle.std.proofs.Common.{None, refl, sym, ◌∙◌, subst, if◌then◌else◌}
use Rattle.std.specs.List.{Contains}
use Rattle.std.specs.Prelude.{filter, slice_get, slice_set}
use Rattle.pass_frames_proof.specs.ir_model.Names.{function_at}
use Rattle.pass_frames_proof.specs.ir_model.declared.module.Function.{Function}
use Rattle.pass_frames_proof.specs.ir_model.declared.module.Module.{Module}
use Rattle.pass_frames_meaning.specs.Led.{AreLed, AreLedAsleep, AreLedOn, AreLedWith, IsEnteringAt, IsLedBy}
use Rattle.pass_frames_meaning.specs.Led.{IsLedInstance, IsLedStatus}
use Rattle.pass_frames_proof.specs.Stepping.{IsNotEntering}
use Rattle.pass_frames_proof.proofs.pass_renewed_proof.Listing.{contains_first, contains_more}
use Rattle.pass_frames_proof.specs.run_framed.Framed.{begin_name}
use Rattle.pass_frames_proof.specs.run_memory.declared.pointer.Value.{Value}
use Rattle.pass_frames_proof.specs.run_source.State.{frame_address_of}
use Rattle.pass_frames_proof.specs.run_source.declared.state.Activation.{Activation}
use Rattle.pass_frames_proof.specs.run_source.declared.state.Instance.{Instance}
use Rattle.pass_frames_proof.specs.run_source.declared.state.Mode.{Mode}
use Rattle.pass_frames_proof.specs.run_source.declared.state.Status.{Status}
use Rattle.pass_frames_proof.specs.run_step.Step.{Fetched}
use Rattle.pass_frames_proof.specs.run_step.Values.{Env, pointer_to, value_in}
use Rattle.pass_frames_proof.specs.run_step.declared.world.Slot.{Slot}

-- ---- slots

pub poison_led : (ss : List Slot) (v : ℕ) (x : Value) → x ≡ Value.Poison → IsLedBy ss v x
poison_led [] v x e = e
poison_led (s ∷ ss) v x e = inr (poison_led ss v x e)

pub led_right : (a b : List Slot) (v : ℕ) (x : Value) → IsLedBy b v x → IsLedBy (a ++ b) v x
led_right [] b v x h = h
led_right (s ∷ a) b v x h = inr (led_right a b v x h)

pub led_left : (a b : List Slot) (v : ℕ) (x : Value) → IsLedBy a v x → IsLedBy (a ++ b) v x
led_left [] b v x h = poison_led b v x h
led_left (s ∷ a) b v x (inl h) = inl h
led_left (s ∷ a) b v x (inr h) = inr (led_left a b v x h)

-- the slots of the alloca pass the test
pub led_kept : (p : Slot → Bool) (a b : List Slot) (v : ℕ) (x : Value) → ((s : Slot) → s.alloca ≡ v → p s ≡ true)
    → IsLedBy (a ++ b) v x → IsLedBy (filter p a ++ b) v x
led_kept p [] b v x k h = h
led_kept p (s ∷ a) b v x k (inl h) =
    subst (λ (t : Bool). IsLedBy ((if t then s ∷ filter p a else filter p a) ++ b) v x) (sym (k s h.0)) (inl h)
led_kept p (s ∷ a) b v x k (inr h) = on (p s) (led_kept p a b v x k h)
  where
    on : (t : Bool) → IsLedBy (filter p a ++ b) v x → IsLedBy ((if t then s ∷ filter p a else filter p a) ++ b) v x
    on true q = inr q
    on false q = q

pub led_to : (ss : List Slot) (v : ℕ) (x : Value) → IsLedBy ss v x
    → (x ≡ Value.Poison) ⊎ ((slot : Slot) × Contains ss slot × (slot.alloca ≡ v) × (x ≡ pointer_to slot.block))
led_to [] v x h = inl h
led_to (s ∷ ss) v x (inl h) = inr (s, contains_first s ss, h.0, h.1)
led_to (s ∷ ss) v x (inr h) = on (led_to ss v x h)
  where
    on : (x ≡ Value.Poison) ⊎ ((slot : Slot) × Contains ss slot × (slot.alloca ≡ v) × (x ≡ pointer_to slot.block))
        → (x ≡ Value.Poison)
        ⊎ ((slot : Slot) × Contains (s ∷ ss) slot × (slot.alloca ≡ v) × (x ≡ pointer_to slot.block))
    on (inl e) = inl e
    on (inr q) = inr (q.0, contains_more s ss q.0 q.1, q.2, q.3)

-- ---- values

-- an alloca that counts, or begin, gives the name
abbrev pub IsWatched : (ℕ → Bool) → Function → ℕ → Type 0
IsWatched counts f v = (counts v ≡ true) ⊎ (begin_name f ≡ Some v)

abbrev pub AreSame : (ℕ → Bool) → Function → Env → Env → Type 0
AreSame counts f a b = (v : ℕ) → IsWatched counts f v → value_in b v ≡ value_in a v

pub led_like : (counts : ℕ → Bool) (f : Function) (slots : List Slot) (handle : Value) (a b : Env)
    → AreSame counts f a b → AreLed counts f slots handle a → AreLed counts f slots handle b
led_like counts f slots handle a b same h = record {
  counted = λ v c. subst (IsLedBy slots v) (sym (same v (inl c))) (h.counted v c);
  begun = λ v e. same v (inr e) ∙ h.begun v e;
}

pub with_like : (counts : ℕ → Bool) (f : Function) (xs : List Instance) (o : Option ℕ) (slots : List Slot) (a b : Env)
    → AreSame counts f a b → AreLedWith counts f xs o slots a → AreLedWith counts f xs o slots b
with_like counts f xs None slots a b same h = led_like counts f slots Value.Poison a b same h
with_like counts f xs (Some i) slots a b same h =
    (h.0, h.1, led_like counts f h.0.slots (frame_address_of h.0) a b same h.2)

-- ---- instances

-- an instance with no fewer slots, of the same frame
pub record IsMore (x y : Instance) : Type 0 where
  pub slots : (v : ℕ) (z : Value) → IsLedBy x.slots v z → IsLedBy y.slots v z
  pub frame : frame_address_of y ≡ frame_address_of x

pub itself : (x : Instance) → IsMore x x
itself x = record { slots = λ v z h. h; frame = refl }

pub led_more : (counts : ℕ → Bool) (f : Function) (x y : Instance) (env : Env) → IsMore x y
    → AreLed counts f x.slots (frame_address_of x) env → AreLed counts f y.slots (frame_address_of y) env
led_more counts f x y env k h = record {
  counted = λ v c. k.slots v (value_in env v) (h.counted v c);
  begun = λ v e. h.begun v e ∙ sym k.frame;
}

pub status_more : (counts : ℕ → Bool) (f : Function) (x y : Instance) (st : Status) → IsMore x y
    → IsLedStatus counts f x.slots (frame_address_of x) st → IsLedStatus counts f y.slots (frame_address_of y) st
status_more counts f x y Status.Running k h = tt
status_more counts f x y (Status.Suspended u values) k h = led_more counts f x y values k h
status_more counts f x y Status.Finished k h = tt

pub record HasMore (ys : List Instance) (j : ℕ) (z : Instance) : Type 0 where
  pub instance : Instance
  pub there : slice_get ys j ≡ Some instance
  pub more : IsMore z instance

abbrev pub AreMore : List Instance → List Instance → Type 0
AreMore xs ys = (j : ℕ) (z : Instance) → slice_get xs j ≡ Some z → HasMore ys j z

pub set_more : (xs : List Instance) (i : ℕ) (x y : Instance) → slice_get xs i ≡ Some x → IsMore x y
    → AreMore xs (slice_set xs i y)
set_more [] i x y e k j z d = absurd (cc)
set_more (u ∷ xs) zero x y e k zero z d =
    let same : x ≡ z = cc in
    record { instance = y; there = refl; more = subst (λ (w : Instance). IsMore w y) same k }
set_more (u ∷ xs) zero x y e k (suc j) z d = record { instance = z; there = d; more = itself z }
set_more (u ∷ xs) (suc i) x y e k zero z d = record { instance = z; there = d; more = itself z }
set_more (u ∷ xs) (suc i) x y e k (suc j) z d =
    let r = set_more xs i x y e k j z d in record { instance = r.instance; there = r.there; more = r.more }

pub push_more : (xs : List Instance) (y : Instance) → AreMore xs (xs ++ y ∷ [])
push_more [] y j z d = absurd (cc)
push_more (x ∷ xs) y zero z d = record { instance = z; there = d; more = itself z }
push_more (x ∷ xs) y (suc j) z d =
    let r = push_more xs y j z d in record { instance = r.instance; there = r.there; more = r.more }

pub with_later : (counts : ℕ → Bool) (f : Function) (xs ys : List Instance) (o : Option ℕ) (slots : List Slot)
    (env : Env)
    → AreMore xs ys → AreLedWith counts f xs o slots env → AreLedWith counts f ys o slots env
with_later counts f xs ys None slots env more h = h
with_later counts f xs ys (Some i) slots env more h =
    let r = more i h.0 h.1 in (r.instance, r.there, led_more counts f h.0 r.instance env r.more h.2)

-- ---- stacks and instances

module _ (m : Module) (counts : ℕ → ℕ → Bool) where
  pub on_later : (xs ys : List Instance) (as' : List Activation) → AreMore xs ys → AreLedOn m counts xs as'
      → AreLedOn m counts ys as'
  on_later xs ys [] more h = tt
  on_later xs ys (a ∷ as') more h = (
    with_later (counts a.func) (function_at m a.func) xs ys a.instance a.slots a.values more h.0,
    on_later xs ys as' more h.1,
  )

  pub asleep_at : (xs : List Instance) (i : ℕ) (x : Instance) → slice_get xs i ≡ Some x → AreLedAsleep m counts xs
      → IsLedInstance m counts x
  asleep_at [] i x e h = absurd (cc)
  asleep_at (y ∷ xs) zero x e h = let same : y ≡ x = cc in subst (IsLedInstance m counts) same h.0
  asleep_at (y ∷ xs) (suc i) x e h = asleep_at xs i x e h.1

  pub asleep_set : (xs : List Instance) (i : ℕ) (y : Instance) → IsLedInstance m counts y → AreLedAsleep m counts xs
      → AreLedAsleep m counts (slice_set xs i y)
  asleep_set [] i y k h = tt
  asleep_set (x ∷ xs) zero y k h = (k, h.1)
  asleep_set (x ∷ xs) (suc i) y k h = (h.0, asleep_set xs i y k h.1)

  pub asleep_more : (xs : List Instance) (y : Instance) → IsLedInstance m counts y → AreLedAsleep m counts xs
      → AreLedAsleep m counts (xs ++ y ∷ [])
  asleep_more [] y k h = (k, tt)
  asleep_more (x ∷ xs) y k h = (h.0, asleep_more xs y k h.1)

pub still_at : (counts : ℕ → Bool) (x : Fetched) (mode : Mode) → IsNotEntering mode → IsEnteringAt counts x mode
still_at counts x Mode.Plain h = tt
still_at counts x Mode.Ramp h = tt
still_at counts x Mode.Resumed h = tt
still_at counts x (Mode.GivenRamp frame) h = tt
still_at counts x (Mode.Entering from label) h = absurd h
