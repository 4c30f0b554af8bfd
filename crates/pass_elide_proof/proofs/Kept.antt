-- Activations stay beside each other where instances and memories change.
use Rattle.std.proofs.Common.{◌≡◌, ◌<◌, ◌≤◌, inl, inr, ⊎_elim, ℕ, zero, suc, Bool, true, false, List, [], ◌∷◌, length, Option, refl, sym, ap, ◌∙◌, subst, arith, cond, if◌then◌else◌}
use Rattle.std.specs.Option.{option_map_or}
use Rattle.std.specs.Prelude.{None, Some, filter, slice_get}
use Rattle.pass_elide_proof.specs.Elision.{Elision, differs_in, function_in, rooms}
use Rattle.pass_elide_proof.specs.Match.{AreActivations, AreBelow, AreReleased, HasAlloca, HasAllocas, HoldsBlock, IsAt, IsNoGivenFrame, Sides, held_name, instance_in, is_given_mode, was_given}
use Rattle.pass_elide_proof.specs.Places.{allocas_ahead}
use Rattle.pass_proofs.specs.ir_model.declared.instr.Instr.{Instr}
use Rattle.pass_proofs.specs.run_framed.Framed.{is_given}
use Rattle.pass_proofs.specs.run_laws.changed.Changed.{Each}
use Rattle.pass_proofs.specs.run_laws.memory.Pointers.{Home}
use Rattle.pass_proofs.specs.run_laws.memory.Standing.{blank_block}
use Rattle.pass_proofs.specs.run_memory.declared.block.Kind.{Kind}
use Rattle.pass_proofs.specs.run_source.State.{frame_address_of}
use Rattle.pass_proofs.specs.run_source.declared.state.Activation.{Activation}
use Rattle.pass_proofs.specs.run_source.declared.state.Instance.{Instance}
use Rattle.pass_proofs.specs.run_step.declared.world.Slot.{Slot}

-- Frames that were given still are, frames begin where they did, and hidden blocks stay.
pub record KeepsSides (hides : ℕ → Bool) (d k : Sides) : Type 0 where
  pub given : (o : Option ℕ) → option_map_or (is_given k.other) (instance_in k.second o) false
      ≡ option_map_or (is_given d.other) (instance_in d.second o) false
  pub first : (o : Option ℕ) (y : Instance) → instance_in d.first o ≡ Some y
      → (z : Instance) × (instance_in k.first o ≡ Some z) × (frame_address_of z ≡ frame_address_of y)
  pub hidden : (n size : ℕ) → hides n ≡ true
      → slice_get d.memory n ≡ Some (blank_block size 16 Kind.Allocator)
      → slice_get k.memory n ≡ Some (blank_block size 16 Kind.Allocator)

module _ (e : Elision) (homes : List Home) (hides : ℕ → Bool) (d k : Sides) (keeps : KeepsSides hides d k) where
  pub was_kept : (c : Activation) → was_given k c ≡ was_given d c
  was_kept c = ap (λ (b : Bool). if is_given_mode c.mode then true else b) (keeps.given c.instance)

  place_kept : (a c : Activation) → IsAt e homes (was_given d c) a c → IsAt e homes (was_given k c) a c
  place_kept a c p = subst (λ (b : Bool). IsAt e homes b a c) (sym (was_kept c)) p

  released_kept : (a c : Activation) → AreReleased (e.shape a.func) d a c → AreReleased (e.shape a.func) k a c
  released_kept a c h = record {
    freed = λ v is. ⊎_elim inl
        (λ both. let z = keeps.first a.instance both.1.0 both.1.1 in
        inr (both.0, (z.0, z.1, both.1.2 ∙ sym z.2))) (h.freed v is);
    tested = h.tested;
  }

  held_kept : (a : Activation) (o : Option ℕ) → HoldsBlock hides d.memory a o
      → HoldsBlock hides k.memory a o
  held_kept a None h = tt
  held_kept a (Some name) h = record {
    block = h.block;
    size = h.size;
    address = h.address;
    hidden = h.hidden;
    there = keeps.hidden h.block h.size h.hidden h.there;
  }

  allocas_each : (c : Activation) (own : List Slot) (is : List Instr)
      → ((i : Instr) → HasAlloca homes hides d c own i → HasAlloca homes hides k c own i)
      → Each (HasAlloca homes hides d c own) is → Each (HasAlloca homes hides k c own) is
  allocas_each c own [] to h = tt
  allocas_each c own (i ∷ is) to h = (to i h.0, allocas_each c own is to h.1)

  all_kept : (a c : Activation) (own : List Slot)
      → ((i : Instr) → HasAlloca homes hides d c own i → HasAlloca homes hides k c own i)
      → HasAllocas e homes hides d a c own → HasAllocas e homes hides k a c own
  all_kept a c own to (inl first) = inl first
  all_kept a c own to (inr made) =
      inr (allocas_each c own (allocas_ahead (rooms e a.func) (function_in e a.func)) to made.0, made.1)

  -- one activation, whose allocas stay
  pub activation_kept : (a c : Activation) (h : AreActivations e homes hides d a c)
      → ((i : Instr) → HasAlloca homes hides d c h.own i → HasAlloca homes hides k c h.own i)
      → AreActivations e homes hides k a c
  activation_kept a c h to = record {
    func = h.func;
    result = h.result;
    instance = h.instance;
    has_left = h.has_left;
    mode = h.mode;
    place = place_kept a c h.place;
    values = record {
      each = λ v calm. h.values.each v
          (ap (λ (b : Bool). differs_in (e.shape a.func) (is_given_mode c.mode) b v) (sym (was_kept c)) ∙ calm);
      room = h.values.room;
    };
    asked = h.asked;
    released = λ given. released_kept a c (h.released (sym (was_kept c) ∙ given));
    own = h.own;
    slots = h.slots;
    allocas = all_kept a c h.own to h.allocas;
    held = held_kept a (held_name e (is_given_mode c.mode) a) h.held;
  }

  -- so do those below
  pub below_kept : (bs cs : List Activation)
      → ((j : ℕ) (b c : Activation) → slice_get bs j ≡ Some b → slice_get cs j ≡ Some c
      → (h : AreActivations e homes hides d b c) (i : Instr) → HasAlloca homes hides d c h.own i
      → HasAlloca homes hides k c h.own i)
      → AreBelow e homes hides d bs cs → AreBelow e homes hides k bs cs
  below_kept [] [] to h = tt
  below_kept [] (c ∷ cs) to h = h
  below_kept (b ∷ bs) [] to h = h
  below_kept (b ∷ bs) (c ∷ cs) to h = (
    (h.0.0, activation_kept b c h.0.1 (to 0 b c refl refl h.0.1)),
    below_kept bs cs (λ j p q at other. to (suc j) p q at other) h.1,
  )

-- ---- an alloca

module _ (homes : List Home) (hides : ℕ → Bool) (d k : Sides) (c : Activation) (own : List Slot) (i : Instr)
    (h : HasAlloca homes hides d c own i) where
  pub alloca_kept : slice_get k.other h.block ≡ Some h.there → length k.memory ≤ length d.memory
      → ((n : ℕ) → IsNoGivenFrame k n → IsNoGivenFrame d n) → HasAlloca homes hides k c own i
  alloca_kept there fewer free = record {
    name = h.name;
    size = h.size;
    align = h.align;
    is = h.is;
    block = h.block;
    address = h.address;
    slot = h.slot;
    there = h.there;
    is_there = there;
    kind = h.kind;
    live = h.live;
    sized = h.sized;
    full = h.full;
    free = λ n lt calm none. h.free n (within n lt) calm (free n none);
  }
    where
      within : (n : ℕ) → n < length k.memory → n < length d.memory
      within n lt = omega (arith, lt, fewer)

-- ---- lists

pub get_some : {A : Type 0} (xs : List A) (n : ℕ) → n < length xs → (x : A) × (slice_get xs n ≡ Some x)
get_some [] n lt = absurd (omega (arith, lt))
get_some (x ∷ xs) zero lt = (x, refl)
get_some (x ∷ xs) (suc n) lt = get_some xs n (omega (arith, lt))

-- as many pass two tests that say the same of each
pub filter_many : {A : Type 0} (t u : A → Bool) (xs : List A)
    → ((n : ℕ) (x : A) → slice_get xs n ≡ Some x → u x ≡ t x) → length (filter u xs) ≡ length (filter t xs)
filter_many t u [] h = refl
filter_many t u (x ∷ xs) h =
    ap (λ (b : Bool). length (cond b (x ∷ filter u xs) (filter u xs))) (h 0 x refl)
    ∙ on (t x) (filter_many t u xs (λ n y at. h (suc n) y at))
  where
    on : (b : Bool) → length (filter u xs) ≡ length (filter t xs)
        → length (cond b (x ∷ filter u xs) (filter u xs)) ≡ length (cond b (x ∷ filter t xs) (filter t xs))
    on true rest = ap suc rest
    on false rest = rest
