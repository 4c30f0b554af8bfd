-- What stays of slots and activations where memory and instances change.
use Rattle.std.proofs.Common.{◌≡◌, ◌<◌, ◌≤◌, ◌⊎◌, ℕ, zero, suc, Bool, true, false, List, [], ◌∷◌, ◌++◌, length}
use Rattle.std.proofs.Common.{Option, Some, None, refl, sym, ap, ◌∙◌, subst, arith}
use Rattle.std.specs.List.{AllByRecursion}
use Rattle.std.specs.Prelude.{filter, if◌then◌else◌, slice_get, slice_set}
use Rattle.pass_renewed_proof.specs.ir_model.Names.{function_at}
use Rattle.pass_renewed_proof.specs.ir_model.declared.module.Function.{Function}
use Rattle.pass_renewed_proof.specs.ir_model.declared.module.Module.{Module}
use Rattle.pass_renewed_proof.specs.ir_paths.declared.point.Point.{Point}
use Rattle.pass_renewed_proof.specs.SlotRules.{IsMadeOnce}
use Rattle.pass_renewed_proof.specs.rule_windows.Sets.{IsAfterEnd, RunsOut}
use Rattle.run_hooks.specs.Away.{point_in, spot_of}
use Rattle.run_hooks.specs.alive.Alive.{Account, AreAliveIn, GoesOn, IsAliveIn, IsEnded}
use Rattle.run_hooks.specs.alive.Slots.{AreAliveSlots, AreMet, Home, IsAliveSlot, IsHeld, IsMetSlot, IsSlotOf, IsTagged}
use Rattle.run_hooks.specs.alive.Slots.{Own, Ramp, Tags}
use Rattle.run_hooks.specs.alive.Slots.{home_of, lives}
use Rattle.pass_renewed_proof.specs.run_memory.declared.block.MemoryBlock.{MemoryBlock}
use Rattle.pass_renewed_proof.specs.run_source.Source.{is_over}
use Rattle.pass_renewed_proof.specs.run_source.State.{is_finished}
use Rattle.pass_renewed_proof.specs.run_source.declared.state.Activation.{Activation}
use Rattle.pass_renewed_proof.specs.run_source.declared.state.Instance.{Instance}
use Rattle.pass_renewed_proof.specs.run_step.Step.{block_of}
use Rattle.pass_renewed_proof.specs.run_step.Values.{Env, value_in}
use Rattle.pass_renewed_proof.specs.run_step.declared.world.Slot.{Slot}

-- ---- each of a list

pub all_map : {A : Type 0} (P Q : A → Type 0) (xs : List A) → ((x : A) → P x → Q x) → AllByRecursion P xs
    → AllByRecursion Q xs
all_map P Q [] h k = tt
all_map P Q (x ∷ xs) h k = (h x k.0, all_map P Q xs h k.1)

pub all_both : {A : Type 0} (P Q R : A → Type 0) (xs : List A) → ((x : A) → P x → Q x → R x) → AllByRecursion P xs
    → AllByRecursion Q xs → AllByRecursion R xs
all_both P Q R [] h k l = tt
all_both P Q R (x ∷ xs) h k l = (h x k.0 l.0, all_both P Q R xs h k.1 l.1)

pub all_append : {A : Type 0} (P : A → Type 0) (xs ys : List A) → AllByRecursion P xs → AllByRecursion P ys
    → AllByRecursion P (xs ++ ys)
all_append P [] ys h k = k
all_append P (x ∷ xs) ys h k = (h.0, all_append P xs ys h.1 k)

pub all_passing : {A : Type 0} (t : A → Bool) (P Q : A → Type 0) (xs : List A) → ((x : A) → t x ≡ true → P x → Q x)
    → AllByRecursion P xs → AllByRecursion Q (filter t xs)
all_passing t P Q [] h k = tt
all_passing t P Q (x ∷ xs) h k = on (t x) refl (all_passing t P Q xs h k.1)
  where
    on : (b : Bool) → t x ≡ b → AllByRecursion Q (filter t xs)
        → AllByRecursion Q (if b then x ∷ filter t xs else filter t xs)
    on true e rest = (h x e k.0, rest)
    on false e rest = rest

pub all_where : {A : Type 0} (P : A → Type 0) (xs : List A) → AllByRecursion P xs → (n : ℕ) (x : A)
    → slice_get xs n ≡ Some x → P x
all_where P [] h n x e = absurd (cc)
all_where P (y ∷ xs) h zero x e = let same : y ≡ x = cc in subst P same h.0
all_where P (y ∷ xs) h (suc n) x e = all_where P xs h.1 n x e

-- ---- an element that is set

-- the element that was set, or another one
pub data IsSet {A : Type 0} (xs : List A) (i : ℕ) (y : A) (j : ℕ) (z : A) : Type 0 where
  Here : j ≡ i → z ≡ y → IsSet xs i y j z
  Other : (j ≡ i → ⊥) → slice_get xs j ≡ Some z → IsSet xs i y j z

pub get_set : {A : Type 0} (xs : List A) (i : ℕ) (y : A) (j : ℕ) (z : A) → slice_get (slice_set xs i y) j ≡ Some z
    → IsSet xs i y j z
get_set [] i y j z e = absurd (cc)
get_set (x ∷ xs) zero y zero z e = Here refl (let same : y ≡ z = cc in sym same)
get_set (x ∷ xs) zero y (suc j) z e = Other (λ h. absurd (cc)) e
get_set (x ∷ xs) (suc i) y zero z e = Other (λ h. absurd (cc)) e
get_set (x ∷ xs) (suc i) y (suc j) z e = on (get_set xs i y j z e)
  where
    pred_same : suc j ≡ suc i → j ≡ i
    pred_same h = omega (arith, h)

    on : IsSet xs i y j z → IsSet (x ∷ xs) (suc i) y (suc j) z
    on (Here ej ez) = Here (ap suc ej) ez
    on (Other ne g) = Other (λ h. ne (pred_same h)) g

pub set_there : {A : Type 0} (xs : List A) (i : ℕ) (x y : A) → slice_get xs i ≡ Some x
    → slice_get (slice_set xs i y) i ≡ Some y
set_there [] i x y e = absurd (cc)
set_there (z ∷ xs) zero x y e = refl
set_there (z ∷ xs) (suc i) x y e = set_there xs i x y e

-- ---- tags

-- there are no fewer blocks, and those that there were are tagged as before
pub record AreKept (k l : Account) : Type 0 where
  pub longer : length k.memory ≤ length l.memory
  pub tags : (b : ℕ) → b < length k.memory → l.tags b ≡ k.tags b

pub tagged_later : (k l : Account) → AreKept k l → (home : Home) (v b : ℕ)
    → IsTagged k.tags (length k.memory) home v b → IsTagged l.tags (length l.memory) home v b
tagged_later k l h home v b t = record {
  there = let a = h.longer in let c = t.there in omega arith;
  tag = h.tags b t.there ∙ t.tag;
}

pub slot_later : (k l : Account) → AreKept k l → (home : Home) (f : Function) (slot : Slot)
    → IsSlotOf k.tags (length k.memory) home f slot → IsSlotOf l.tags (length l.memory) home f slot
slot_later k l h home f slot o =
    record { made = o.made; tagged = tagged_later k l h home slot.alloca slot.block o.tagged }

-- slots of one block are those of one alloca and one owner
pub same_alloca : (tags : Tags) (count : ℕ) (one other : Home) (v u b : ℕ) → IsTagged tags count one v b
    → IsTagged tags count other u b → v ≡ u
same_alloca tags count one other v u b t o = ap (λ z. z.alloca) (sym t.tag ∙ o.tag)

pub same_home : (tags : Tags) (count : ℕ) (one other : Home) (v u b : ℕ) → IsTagged tags count one v b
    → IsTagged tags count other u b → one ≡ other
same_home tags count one other v u b t o = ap (λ z. z.home) (sym t.tag ∙ o.tag)

pub own_number : (o : Option ℕ) (depth i : ℕ) → home_of o depth ≡ Own i → o ≡ Some i
own_number None depth i e = absurd (cc)
own_number (Some j) depth i e = let same : j ≡ i = cc in ap Some same

pub ramp_depth : (o : Option ℕ) (depth e : ℕ) → home_of o depth ≡ Ramp e → depth ≡ e
ramp_depth None depth e h = cc
ramp_depth (Some j) depth e h = absurd (cc)

-- ---- slots that were alive together

-- where no more of them live, they still were
pub met_by : (counts : ℕ → Bool) (m n : List MemoryBlock) (f : Function) (P : Slot → Type 0) (slots : List Slot)
    → ((slot : Slot) → P slot → lives n slot.block ≡ true → lives m slot.block ≡ true) → AllByRecursion P slots
    → AreMet counts m f slots → AreMet counts n f slots
met_by counts m n f P slots fewer h o = record {
  point = o.point;
  each = all_both P (IsMetSlot counts m f o.point) (IsMetSlot counts n f o.point) slots
      (λ slot own old now. old (fewer slot own now)) h o.each;
}

-- ---- an activation that stays where it is

-- what it goes on by was so before
pub record WasThere (m : Module) (counts : ℕ → ℕ → Bool) (k l : Account) (depth : ℕ) (a : Activation) (i : ℕ)
    (y : Instance) : Type 0 where
  pub old : Instance
  pub there : slice_get k.instances i ≡ Some old
  pub goes : GoesOn (function_at m a.func) depth a old
  pub not_over : is_over old ≡ false
  pub slots : (values : Env) (p : Point)
      → AreAliveSlots (counts a.func) k.memory (function_at m a.func) values p old.slots
      → AreAliveSlots (counts a.func) l.memory (function_at m a.func) values p y.slots

pub record IsLaterFor (m : Module) (counts : ℕ → ℕ → Bool) (k l : Account) (depth : ℕ) (a : Activation)
    : Type 0 where
  pub kept : AreKept k l
  pub early : a.instance ≡ None → (slot : Slot)
      → IsSlotOf k.tags (length k.memory) (Ramp depth) (function_at m a.func) slot
      → lives l.memory slot.block ≡ true → lives k.memory slot.block ≡ true
  pub goes : (i : ℕ) (y : Instance) → a.instance ≡ Some i → slice_get l.instances i ≡ Some y
      → GoesOn (function_at m a.func) depth a y → is_over y ≡ false → WasThere m counts k l depth a i y
  pub ended : (i : ℕ) (y : Instance) → a.instance ≡ Some i → slice_get l.instances i ≡ Some y → a.has_left ≡ false
      → is_finished y.status ≡ true
      → (x : Instance) × (slice_get k.instances i ≡ Some x) × (is_finished x.status ≡ true)

-- what holds of each activation with the number of those below it
abbrev pub AllIn : (ℕ → Activation → Type 0) → List Activation → Type 0
AllIn P [] = Unit {0}
AllIn P (a ∷ below) = P (length below) a × AllIn P below

pub in_any : (P : ℕ → Activation → Type 0) (as' : List Activation) → ((d : ℕ) (a : Activation) → P d a) → AllIn P as'
in_any P [] h = tt
in_any P (a ∷ below) h = (h (length below) a, in_any P below h)

pub in_map : (P Q : ℕ → Activation → Type 0) (as' : List Activation) → ((d : ℕ) (a : Activation) → P d a → Q d a)
    → AllIn P as' → AllIn Q as'
in_map P Q [] h k = tt
in_map P Q (a ∷ below) h k = (h (length below) a k.0, in_map P Q below h k.1)

module _ (m : Module) (counts : ℕ → ℕ → Bool) (k l : Account) where
  pub later_in : (depth : ℕ) (a : Activation) → IsLaterFor m counts k l depth a → IsAliveIn m counts k depth a
      → IsAliveIn m counts l depth a
  later_in depth a h o = record {
    tagged = λ v b made e. tagged_later k l h.kept (home_of a.instance depth) v b (o.tagged v b made e);
    past = o.past;
    owned = λ e. all_map _ _ a.slots
        (λ slot w. slot_later k l h.kept (Ramp depth) (function_at m a.func) slot w) (o.owned e);
    early = λ e. all_both (IsSlotOf k.tags (length k.memory) (Ramp depth) (function_at m a.func))
        (IsAliveSlot (counts a.func) k.memory (function_at m a.func) a.values (spot_of (function_at m a.func) a))
        (IsAliveSlot (counts a.func) l.memory (function_at m a.func) a.values (spot_of (function_at m a.func) a))
        a.slots (λ slot own old now counted marked. old (h.early e slot own now) counted marked) (o.owned e)
        (o.early e);
    met = λ e. met_by (counts a.func) k.memory l.memory (function_at m a.func)
        (IsSlotOf k.tags (length k.memory) (Ramp depth) (function_at m a.func)) a.slots
        (λ slot own now. h.early e slot own now) (o.owned e) (o.met e);
    stays = o.stays;
    goes = λ i y ei ey g over.
        let w = h.goes i y ei ey g over in
        let old = o.goes i w.old ei w.there w.goes w.not_over in
        record { runs = old.runs; slots = w.slots a.values (spot_of (function_at m a.func) a) old.slots };
    ended = λ i y ei ey left fin. let w = h.ended i y ei ey left fin in o.ended i w.0 ei w.1 left w.2;
  }

  pub later_all : (as' : List Activation) → AllIn (IsLaterFor m counts k l) as' → AreAliveIn m counts k as'
      → AreAliveIn m counts l as'
  later_all [] h o = tt
  later_all (a ∷ below) h o = (later_in (length below) a h.0 o.0, o.1, later_all below h.1 o.2)

-- ---- an activation that moves on

module _ (m : Module) (counts : ℕ → ℕ → Bool) (k : Account) where
  -- an alloca has given the address of a slot of its own, and stands before the point
  pub record IsNew (home : Home) (f : Function) (count : ℕ) (values : Env) (q : Point) (v : ℕ)
      (made : IsMadeOnce f v) : Type 0 where
    pub tagged : (b : ℕ) → block_of (value_in values v) ≡ Some b → IsTagged k.tags count home v b
    pub past : q.block ≡ 0 → made.at < q.at

  -- the same activation at another place, with other values, in another memory; the points are where it stood and
  -- stands
  pub record IsMoved (depth : ℕ) (a : Activation) (memory : List MemoryBlock) (values : Env) (p q at : Point)
      : Type 0 where
    pub names : (v : ℕ) (made : IsMadeOnce (function_at m a.func) v)
        → (value_in values v ≡ value_in a.values v)
        ⊎ IsNew (home_of a.instance depth) (function_at m a.func) (length memory) values q v made
    pub past : (n : ℕ) → (p.block ≡ 0 → n < p.at) → q.block ≡ 0 → n < q.at
    pub held : (home : Home) (slot : Slot) → IsSlotOf k.tags (length k.memory) home (function_at m a.func) slot
        → lives memory slot.block ≡ true → counts a.func slot.alloca ≡ true
        → (lives k.memory slot.block ≡ true → IsHeld (function_at m a.func) a.values p slot)
        → IsHeld (function_at m a.func) values q slot
    pub met : (home : Home) (slots : List Slot)
        → AllByRecursion (IsSlotOf k.tags (length k.memory) home (function_at m a.func)) slots
        → AreAliveSlots (counts a.func) memory (function_at m a.func) values q slots
        → AreMet (counts a.func) k.memory (function_at m a.func) slots
        → AreMet (counts a.func) memory (function_at m a.func) slots
    pub runs : RunsOut (function_at m a.func) p → RunsOut (function_at m a.func) q
    pub after : IsEnded (function_at m a.func) p → IsEnded (function_at m a.func) q
    pub behind : IsAfterEnd (function_at m a.func) (point_in a) → IsAfterEnd (function_at m a.func) at
