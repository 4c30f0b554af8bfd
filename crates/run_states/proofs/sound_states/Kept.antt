-- Changes of a state that keep it sound.
use Rattle.std.proofs.Common.{◌≡◌, ℕ, zero, suc, ◌+◌, Bool, List, [], ◌∷◌, ◌++◌, length, refl, sym, ap, ◌∙◌, subst}
use Rattle.std.specs.Prelude.{Some, None, Option, option_and_then, option_map, slice_get, slice_set}
use Rattle.ir_laws.specs.run_memory.declared.block.MemoryBlock.{MemoryBlock}
use Rattle.ir_laws.specs.ir_base.declared.outcome.Outcome.{Outcome}
use Rattle.ir_laws.specs.run_source.State.{numbered, settled, with_instance, with_left, with_memory, with_slots}
use Rattle.ir_laws.specs.run_source.declared.state.Activation.{Activation}
use Rattle.ir_laws.specs.run_source.declared.state.Instance.{Instance}
use Rattle.ir_laws.specs.run_source.declared.state.State.{State}
use Rattle.ir_laws.specs.run_source.declared.state.Status.{Status}
use Rattle.ir_laws.specs.ir_model.declared.module.Module.{Module}
use Rattle.ir_laws.specs.run_step.Step.{Work}
use Rattle.ir_laws.specs.run_step.Values.{Env}
use Rattle.ir_laws.specs.run_step.declared.world.Slot.{Slot}
use Rattle.run_states.specs.sound_states.Sound.{AreSoundBelow, IsInstanceOf, IsSound, IsSoundActivation, IsSoundStatus, coroutine_at}

-- ---- instances by their coroutines

-- each instance is there still
abbrev pub IsGrown : List Instance → List Instance → Type 0
IsGrown a b = (i func : ℕ) → coroutine_at a i ≡ Some func → coroutine_at b i ≡ Some func

-- an instance is put in the place of one of its coroutine
pub same_set : (a : List Instance) (i : ℕ) (x y : Instance) → slice_get a i ≡ Some x → y.coroutine ≡ x.coroutine → (j : ℕ) → coroutine_at (slice_set a i y) j ≡ coroutine_at a j
same_set [] i x y e same j = refl
same_set (z ∷ a) zero x y e same zero = let is : z ≡ x = cc in ap Some (same ∙ sym (ap (λ (w : Instance). w.coroutine) is))
same_set (z ∷ a) zero x y e same (suc j) = refl
same_set (z ∷ a) (suc i) x y e same zero = refl
same_set (z ∷ a) (suc i) x y e same (suc j) = same_set a i x y e same j

pub grown_set : (a : List Instance) (i : ℕ) (x y : Instance) → slice_get a i ≡ Some x → y.coroutine ≡ x.coroutine → IsGrown a (slice_set a i y)
grown_set a i x y e same j func h = same_set a i x y e same j ∙ h

pub grown_more : (a : List Instance) (x : Instance) → IsGrown a (a ++ x ∷ [])
grown_more [] x i func h = absurd (cc)
grown_more (y ∷ a) x zero func h = h
grown_more (y ∷ a) x (suc i) func h = grown_more a x i func h

pub get_last : (a : List Instance) (x : Instance) → slice_get (a ++ x ∷ []) (length a) ≡ Some x
get_last [] x = refl
get_last (y ∷ a) x = get_last a x

-- P holds of each instance still
pub each_set : (P : Instance → Type 0) (a : List Instance) (i : ℕ) (y : Instance) → P y → ((j : ℕ) (z : Instance) → slice_get a j ≡ Some z → P z) → (j : ℕ) (z : Instance) → slice_get (slice_set a i y) j ≡ Some z → P z
each_set P [] i y new h j z e = h j z e
each_set P (w ∷ a) zero y new h zero z e = let is : y ≡ z = cc in subst P is new
each_set P (w ∷ a) zero y new h (suc j) z e = h (suc j) z e
each_set P (w ∷ a) (suc i) y new h zero z e = h zero z e
each_set P (w ∷ a) (suc i) y new h (suc j) z e = each_set P a i y new (λ k v d. h (suc k) v d) j z e

pub each_more : (P : Instance → Type 0) (a : List Instance) (x : Instance) → P x → ((j : ℕ) (z : Instance) → slice_get a j ≡ Some z → P z) → (j : ℕ) (z : Instance) → slice_get (a ++ x ∷ []) j ≡ Some z → P z
each_more P [] x new h zero z e = let is : x ≡ z = cc in subst P is new
each_more P [] x new h (suc j) z e = absurd (cc)
each_more P (w ∷ a) x new h zero z e = h zero z e
each_more P (w ∷ a) x new h (suc j) z e = each_more P a x new (λ k v d. h (suc k) v d) j z e

-- the instance of an activation is there
pub own_there : (instances : List Instance) (o : Option ℕ) (i : ℕ) (x : Instance) → option_and_then (numbered instances) o ≡ Some (i, x) → (o ≡ Some i) × (slice_get instances i ≡ Some x)
own_there instances None i x e = absurd (cc)
own_there instances (Some j) i x e = on (slice_get instances j) refl e
  where
    on : (u : Option Instance) → slice_get instances j ≡ u → option_map {U = ℕ × Instance} (λ y. (j, y)) u ≡ Some (i, x) → (Some j ≡ Some i) × (slice_get instances i ≡ Some x)
    on None d k = absurd (cc)
    on (Some y) d k =
        let pair : ◌≡◌ {A = ℕ × Instance} (j, y) (i, x) = cc in
        let num : j ≡ i = ap (λ (z : ℕ × Instance). z.0) pair in
        let inst : y ≡ x = ap (λ (z : ℕ × Instance). z.1) pair in
        (ap Some num, subst (λ (n : ℕ). slice_get instances n ≡ Some x) num (d ∙ ap Some inst))

-- and is one of its function
pub own_is : (instances : List Instance) (func : ℕ) (o : Option ℕ) (i : ℕ) (x : Instance) → o ≡ Some i → slice_get instances i ≡ Some x → IsInstanceOf instances func o → x.coroutine ≡ func
own_is instances func None i x e got h = absurd (cc)
own_is instances func (Some j) i x e got h =
    let num : j ≡ i = cc in
    let is : ◌≡◌ {A = Option ℕ} (Some x.coroutine) (Some func) = sym (ap (option_map (λ (y : Instance). y.coroutine)) got) ∙ ap (coroutine_at instances) (sym num) ∙ h in
    cc

module _ (m : Module) where
  -- ---- activations

  -- an activation moves on, with as many values
  pub moved_on : (instances : List Instance) (a : Activation) (block at : ℕ) (values : Env) (slots : List Slot) (has_left : Bool) → length values ≡ length a.values → IsSoundActivation m instances a → IsSoundActivation m instances (record a { block = block; at = at; values = values; slots = slots; has_left = has_left })
  moved_on instances a block at values slots has_left e h = record { values = e ∙ h.values; instance = h.instance; mode = h.mode }

  instance_grown : (a b : List Instance) (func : ℕ) (o : Option ℕ) → IsGrown a b → IsInstanceOf a func o → IsInstanceOf b func o
  instance_grown a b func None grown h = tt
  instance_grown a b func (Some i) grown h = grown i func h

  pub activation_grown : (a b : List Instance) (x : Activation) → IsGrown a b → IsSoundActivation m a x → IsSoundActivation m b x
  activation_grown a b x grown h = record { values = h.values; instance = instance_grown a b x.func x.instance grown h.instance; mode = h.mode }

  pub below_grown : (a b : List Instance) (result : Option ℕ) (below : List Activation) → IsGrown a b → AreSoundBelow m a result below → AreSoundBelow m b result below
  below_grown a b result [] grown h = tt
  below_grown a b result (x ∷ below) grown h = (h.0, activation_grown a b x grown h.1, below_grown a b x.result below grown h.2)

  -- ---- states

  pub with_outcome : (s : State) (outcome : Outcome) → IsSound m s → IsSound m (record s { outcome = outcome })
  with_outcome s outcome h = record { top = h.top; below = h.below; instances = h.instances }

  pub memory_sound : (s : State) (memory : List MemoryBlock) → IsSound m s → IsSound m (with_memory s memory)
  memory_sound s memory h = record { top = h.top; below = h.below; instances = h.instances }

  pub slots_sound : (s : State) (slots : List Slot) → IsSound m s → IsSound m (with_slots s slots)
  slots_sound s slots h = record { top = moved_on s.instances s.top s.top.block s.top.at s.top.values slots s.top.has_left refl h.top; below = h.below; instances = h.instances }

  pub left_sound : (s : State) (has_left : Bool) → IsSound m s → IsSound m (with_left s has_left)
  left_sound s has_left h = record { top = moved_on s.instances s.top s.top.block s.top.at s.top.values s.top.slots has_left refl h.top; below = h.below; instances = h.instances }

  pub settled_sound : (s : State) (w : Work) → length w.values ≡ length s.top.values → IsSound m s → IsSound m (settled s w)
  settled_sound s w e h = record { top = moved_on s.instances s.top s.top.block (s.top.at + 1) w.values s.top.slots s.top.has_left e h.top; below = h.below; instances = h.instances }

  -- an instance is put in the place of one of its coroutine
  pub instance_sound : (s : State) (i : ℕ) (x y : Instance) → slice_get s.instances i ≡ Some x → y.coroutine ≡ x.coroutine → IsSoundStatus m y.coroutine y.status → IsSound m s → IsSound m (with_instance s i y)
  instance_sound s i x y e same new h = record {
    top = activation_grown s.instances (slice_set s.instances i y) s.top (grown_set s.instances i x y e same) h.top;
    below = below_grown s.instances (slice_set s.instances i y) s.top.result s.below (grown_set s.instances i x y e same) h.below;
    instances = each_set (λ (z : Instance). IsSoundStatus m z.coroutine z.status) s.instances i y new h.instances;
  }

  -- one that changes but in its coroutine and its status
  pub like_sound : (s : State) (i : ℕ) (x y : Instance) → slice_get s.instances i ≡ Some x → y.coroutine ≡ x.coroutine → y.status ≡ x.status → IsSound m s → IsSound m (with_instance s i y)
  like_sound s i x y e same status h =
      instance_sound s i x y e same
      (subst (λ (st : Status). IsSoundStatus m y.coroutine st) (sym status) (subst (λ (c : ℕ). IsSoundStatus m c x.status) (sym same) (h.instances i x e))) h
