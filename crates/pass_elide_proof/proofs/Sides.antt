-- What instances and memories have to keep for activations to stand beside each other.
use Rattle.std.proofs.Common.{◌≡◌, ◌<◌, inl, inr, ⊎_elim, ℕ, Bool, true, false, List, [], ◌∷◌, ◌++◌, length, refl, sym, ap, ◌∙◌, subst}
use Rattle.std.specs.Prelude.{None, Option, Some, map, slice_get}
use Rattle.pass_elide_proof.proofs.Setting.{AreActing, acting, held_too}
use Rattle.pass_elide_proof.specs.Elision.{Elision, function_in, rooms}
use Rattle.pass_elide_proof.specs.Match.{AreActivations, AreBelow, AreNamed, AreReleased, Aside, Beside, Freeing, HasAlloca, HasAllocas, HoldsBlock, IsAt, IsNoGivenFrame, Sides, Waiting, held_name, instance_in, is_given_mode, was_given}
use Rattle.pass_elide_proof.specs.Places.{allocas_ahead}
use Rattle.pass_proofs.specs.ir_model.declared.instr.Instr.{Instr}
use Rattle.pass_proofs.specs.run_laws.changed.Changed.{Each}
use Rattle.pass_proofs.specs.run_laws.embedded.Deaths.{moved_slot}
use Rattle.pass_proofs.specs.run_laws.memory.Pointers.{Home, IsValue, home_of}
use Rattle.pass_proofs.specs.run_laws.memory.Standing.{blank_block}
use Rattle.pass_proofs.specs.run_memory.Memory.{is_live}
use Rattle.pass_proofs.specs.run_memory.declared.block.Kind.{Kind}
use Rattle.pass_proofs.specs.run_memory.declared.block.MemoryBlock.{MemoryBlock}
use Rattle.pass_proofs.specs.run_memory.declared.pointer.Value.{Value}
use Rattle.pass_proofs.specs.run_source.State.{frame_address_of}
use Rattle.pass_proofs.specs.run_source.declared.state.Activation.{Activation}
use Rattle.pass_proofs.specs.run_source.declared.state.Instance.{Instance}
use Rattle.pass_proofs.specs.run_step.Values.{pointer_to, value_in}
use Rattle.pass_proofs.specs.run_step.declared.world.Slot.{Slot}

-- what holds of a block's number now did before
pub record WasFree (homes more : List Home) (hides : ℕ → Bool) (d : Sides) (n : ℕ) : Type 0 where
  pub low : n < length d.memory
  pub shown : hides n ≡ false
  pub free : IsNoGivenFrame d n
  pub home : (home_of more n).block ≡ (home_of homes n).block

-- Instances and memories go on: of blocks of the first run that are others than some, and of activations that are
-- known.
pub record SidesGoOn (homes more : List Home) (hides now : ℕ → Bool) (d k : Sides) (other : ℕ → Type 0)
    (known : Activation → Type 0) : Type 0 where
  pub values : (v w : Value) → IsValue homes v w → IsValue more v w
  pub given : (c : Activation) → known c → was_given k c ≡ was_given d c
  pub first : (o : Option ℕ) (x : Instance) → instance_in d.first o ≡ Some x
      → (y : Instance) × (instance_in k.first o ≡ Some y) × (frame_address_of y ≡ frame_address_of x)
  pub stacks : (n : ℕ) (z : MemoryBlock) → slice_get d.other n ≡ Some z → z.kind ≡ Kind.Stack
      → is_live z.life ≡ true → (o : Option ℕ) × (slice_get k.other n ≡ Some (record z { owned = o }))
  pub free : (n : ℕ) → n < length k.memory → now n ≡ false → IsNoGivenFrame k n → WasFree homes more hides d n
  pub held : (n size : ℕ) → other n → hides n ≡ true
      → slice_get d.memory n ≡ Some (blank_block size 16 Kind.Allocator)
      → (now n ≡ true) × (slice_get k.memory n ≡ Some (blank_block size 16 Kind.Allocator))
  pub blocks : (n : ℕ) → other n → (home_of more n).block ≡ (home_of homes n).block

-- an activation's slots and the block that it holds are other blocks
pub record HasOthers (e : Elision) (other : ℕ → Type 0) (known : Activation → Type 0) (a c : Activation) : Type 0
  where
    pub slots : Each (λ (z : Slot). other z.block) a.slots
    pub held : (name block : ℕ) → held_name e (is_given_mode c.mode) a ≡ Some name
        → value_in a.values name ≡ pointer_to block → other block
    pub is_known : known c

abbrev pub HaveOthers : Elision → (ℕ → Type 0) → (Activation → Type 0) → List Activation → List Activation → Type 0
HaveOthers e other known [] cs = Unit {0}
HaveOthers e other known (a ∷ bs) [] = Unit {0}
HaveOthers e other known (a ∷ bs) (c ∷ cs) = HasOthers e other known a c × HaveOthers e other known bs cs

module _ (e : Elision) (homes more : List Home) (hides now : ℕ → Bool) (d k : Sides) (other : ℕ → Type 0)
    (known : Activation → Type 0) (go : SidesGoOn homes more hides now d k other known) where
  -- ---- places

  place_on : (given : Bool) (a c : Activation) → IsAt e homes given a c → IsAt e more given a c
  place_on given a c (Beside same there) = Beside same there
  place_on given a c (Waiting ramp waits there) = Waiting ramp waits there
  place_on given a c (Freeing holds waits there) = Freeing holds waits there
  place_on given a c (Aside holds waits there alike) =
      Aside holds waits there (λ n p q i j lt is js pi qj.
      go.values (value_in a.values p) (value_in c.values q) (alike n p q i j lt is js pi qj))

  -- ---- allocas

  alloca_on : (c : Activation) (own : List Slot) (i : Instr) → HasAlloca homes hides d c own i
      → HasAlloca more now k c own i
  alloca_on c own i h =
      let z = go.stacks h.block h.there h.is_there h.kind h.live in
      record {
        name = h.name;
        size = h.size;
        align = h.align;
        is = h.is;
        block = h.block;
        address = h.address;
        slot = h.slot;
        there = record h.there { owned = z.0 };
        is_there = z.1;
        kind = h.kind;
        live = h.live;
        sized = h.sized;
        full = h.full;
        free = λ n lt calm free same.
            let was = go.free n lt calm free in
            h.free n was.low was.shown was.free (sym was.home ∙ same);
      }

  allocas_on : (c : Activation) (own : List Slot) (is : List Instr) → Each (HasAlloca homes hides d c own) is
      → Each (HasAlloca more now k c own) is
  allocas_on c own [] h = tt
  allocas_on c own (i ∷ is) h = (alloca_on c own i h.0, allocas_on c own is h.1)

  all_on : (a c : Activation) (own : List Slot) → HasAllocas e homes hides d a c own → HasAllocas e more now k a c own
  all_on a c own (inl first) = inl first
  all_on a c own (inr made) =
      inr (allocas_on c own (allocas_ahead (rooms e a.func) (function_in e a.func)) made.0, made.1)

  -- ---- slots and what is held

  slots_on : (ss : List Slot) → Each (λ (z : Slot). other z.block) ss
      → map (moved_slot homes) ss ≡ map (moved_slot more) ss
  slots_on [] h = refl
  slots_on (z ∷ ss) h =
      λ i. record { alloca = z.alloca; block = sym (go.blocks z.block h.0) i } ∷ slots_on ss h.1 i

  held_on : (a : Activation) (o : Option ℕ) → ((name block : ℕ) → o ≡ Some name
      → value_in a.values name ≡ pointer_to block → other block) → HoldsBlock hides d.memory a o
      → HoldsBlock now k.memory a o
  held_on a None away h = tt
  held_on a (Some name) away h =
      let still = go.held h.block h.size (away name h.block refl h.address) h.hidden h.there in
      record { block = h.block; size = h.size; address = h.address; hidden = still.0; there = still.1 }

  -- ---- activations

  module _ (a c : Activation) (is_known : known c) (slots : Each (λ (z : Slot). other z.block) a.slots) where
    same_given : was_given k c ≡ was_given d c
    same_given = go.given c is_known

    released_on : AreReleased (e.shape a.func) d a c → AreReleased (e.shape a.func) k a c
    released_on h = record {
      freed = λ v is. ⊎_elim (λ none. inl none)
          (λ both.
          let y = go.first a.instance both.1.0 both.1.1 in
          inr (both.0, (y.0, y.1, both.1.2 ∙ sym y.2))) (h.freed v is);
      tested = h.tested;
    }

    values_on : AreNamed e homes (was_given d c) a c → AreNamed e more (was_given k c) a c
    values_on h =
        subst (λ (b : Bool). AreNamed e more b a c) (sym same_given) (record {
          each = λ v calm. go.values (value_in a.values v) (value_in c.values v) (h.each v calm);
          room = h.room;
        })

    pub place_still : IsAt e homes (was_given d c) a c → IsAt e more (was_given k c) a c
    place_still h = subst (λ (b : Bool). IsAt e more b a c) (sym same_given) (place_on (was_given d c) a c h)

    pub acting_on : AreActing e homes hides d a c → AreActing e more now k a c
    acting_on h = record {
      func = h.func;
      result = h.result;
      instance = h.instance;
      has_left = h.has_left;
      mode = h.mode;
      values = values_on h.values;
      asked = h.asked;
      released = λ given. released_on (h.released (sym same_given ∙ given));
      own = h.own;
      slots = h.slots ∙ ap (λ (ss : List Slot). ss ++ h.own) (slots_on a.slots slots);
      allocas = all_on a c h.own h.allocas;
    }

  pub activation_on : (a c : Activation) → HasOthers e other known a c → AreActivations e homes hides d a c
      → AreActivations e more now k a c
  activation_on a c has h =
      held_too e more now k a c (place_still a c has.is_known has.slots h.place)
      (acting_on a c has.is_known has.slots (acting e homes hides d a c h))
      (held_on a (held_name e (is_given_mode c.mode) a) has.held h.held)

  pub below_on : (bs cs : List Activation) → HaveOthers e other known bs cs → AreBelow e homes hides d bs cs
      → AreBelow e more now k bs cs
  below_on [] [] has h = tt
  below_on [] (c ∷ cs) has h = h
  below_on (a ∷ bs) [] has h = h
  below_on (a ∷ bs) (c ∷ cs) has h = ((h.0.0, activation_on a c has.0 h.0.1), below_on bs cs has.1 h.1)

-- ---- where nothing is asked

abbrev pub Anything : {A : Type 0} → A → Type 0
Anything a = Unit {0}

module _ (e : Elision) where
  each_slot : (ss : List Slot) → Each (λ (z : Slot). Anything z.block) ss
  each_slot [] = tt
  each_slot (z ∷ ss) = (tt, each_slot ss)

  pub any_others : (a c : Activation) → HasOthers e Anything Anything a c
  any_others a c = record { slots = each_slot a.slots; held = λ name block is at. tt; is_known = tt }

  pub all_others : (bs cs : List Activation) → HaveOthers e Anything Anything bs cs
  all_others [] cs = tt
  all_others (a ∷ bs) [] = tt
  all_others (a ∷ bs) (c ∷ cs) = (any_others a c, all_others bs cs)
