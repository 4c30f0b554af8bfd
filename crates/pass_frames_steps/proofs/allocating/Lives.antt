-- What lives in a block of the target in which a block of the source stands alone: that block itself, slots in the
-- frame, or a slot that is used before begin in its temporary.
use Rattle.std.proofs.Common.{◌≡◌, ◌<◌, ◌&&◌, ◌∷◌, ◌∙◌, [], Bool, List, Some, ap, arith, false, inl, inr, length, refl, subst, sym, true, ℕ}
use Rattle.std.proofs.lemmas.Bool.{and_parts}
use Rattle.std.specs.List.{Contains}
use Rattle.std.specs.Prelude.{slice_get}
use Rattle.pass_frames_code.specs.flow_solver.Paths.{IsListed}
use Rattle.pass_frames_code.proofs.ir_laws.facts.Lists.{get_within}
use Rattle.pass_frames_code.specs.pass_copies.declared.slot.EarlySlot.{EarlySlot}
use Rattle.pass_frames_code.proofs.followed.Assembly.{other_instance}
use Rattle.pass_frames_steps.proofs.marking.Changed.{hidden_dead}
use Rattle.pass_frames_code.proofs.stepping.Rest.{seen_known}
use Rattle.pass_frames_code.specs.Places.{copies, offsets}
use Rattle.pass_frames_code.specs.Related.{AreBelow, AreBuiltOf, AreInstances, Building, IsOwnSlot, IsSlotBy, is_coroutine, is_slot}
use Rattle.pass_frames_code.specs.Slotted.{HasListedSlots, IsSlotSomewhere, OfActivation, OfInstance}
use Rattle.pass_frames_code.specs.pass_proofs.addresses.rules.Addresses.{lies_in_frame}
use Rattle.pass_frames_code.proofs.run_laws.transfer.Muted.{muted_get}
use Rattle.pass_frames_code.specs.run_laws.embedded.Making.{whole_home}
use Rattle.pass_frames_code.specs.run_laws.memory.Pointers.{Home, home_of}
use Rattle.pass_frames_code.specs.run_laws.transfer.Muted.{muted}
use Rattle.pass_frames_code.specs.run_memory.Memory.{is_live}
use Rattle.pass_frames_code.specs.run_memory.declared.block.MemoryBlock.{MemoryBlock}
use Rattle.pass_frames_code.specs.run_source.declared.state.Activation.{Activation}
use Rattle.pass_frames_code.specs.run_source.declared.state.Instance.{Instance}
use Rattle.pass_frames_code.specs.run_source.declared.state.State.{State}
use Rattle.pass_frames_code.specs.run_step.declared.world.Slot.{Slot}

-- ---- an activation of the source has one beside it

pub record IsBeside (b : Building) (homes : List Home) (hides : ℕ → Bool) (cs : List Activation) (a : Activation)
    : Type 0 where
  pub other : Activation
  pub listed : IsListed other cs
  pub func : other.func ≡ a.func
  pub slots : (slot : Slot) → Contains a.slots slot → IsOwnSlot b homes hides a other slot

found_below : (b : Building) (homes : List Home) (hides : ℕ → Bool) (t : State) (ps cs : List Activation)
    → AreBelow b homes hides t ps cs → (a : Activation) → IsListed a ps → IsBeside b homes hides cs a
found_below b homes hides t [] cs h a l = absurd l
found_below b homes hides t (p ∷ ps) [] h a l = absurd h
found_below b homes hides t (p ∷ ps) (q ∷ cs) h a (inl e) =
    subst (IsBeside b homes hides (q ∷ cs)) (sym e) (record {
      other = q;
      listed = inl refl;
      func = h.0.func;
      slots = h.0.slots;
    })
found_below b homes hides t (p ∷ ps) (q ∷ cs) h a (inr l) =
    let z = found_below b homes hides t ps cs h.1 a l in
    record { other = z.other; listed = inr z.listed; func = z.func; slots = z.slots }

module _ (b : Building) (s t : State) (r : AreBuiltOf b s t) where
  pub found_beside : (a : Activation) → IsListed a (s.top ∷ s.below)
      → IsBeside b r.homes r.hides (t.top ∷ t.below) a
  found_beside a (inl e) =
      subst (IsBeside b r.homes r.hides (t.top ∷ t.below)) (sym e) (record {
        other = t.top;
        listed = inl refl;
        func = r.top.func;
        slots = r.top.slots;
      })
  found_beside a (inr l) =
      let z = found_below b r.homes r.hides t s.below t.below r.below a l in
      record { other = z.other; listed = inr z.listed; func = z.func; slots = z.slots }

  -- ---- who lives there

  pub data WhoLives (c n B : ℕ) : Type 0 where
    Itself : c ≡ n → WhoLives c n B
    Placed : (j : ℕ) (x y : Instance) → slice_get s.instances j ≡ Some x → slice_get t.instances j ≡ Some y
        → AreInstances b r.homes t x y → (slot : Slot) → Contains x.slots slot → slot.block ≡ c → y.block ≡ B
        → WhoLives c n B
    Early : (a : Activation) → IsListed a (t.top ∷ t.below) → is_coroutine b a.func ≡ true → (e : EarlySlot)
        → Contains (copies (b.framing a.func)).slots e
        → Contains a.slots (record { alloca = e.temporary; block = B }) → WhoLives c n B

  -- a live block isn't hidden
  pub record IsShownLive (c : ℕ) (z : MemoryBlock) : Type 0 where
    pub shown : r.hides c ≡ false
    pub there : slice_get s.world.memory c ≡ Some z

  pub shown_live : (c : ℕ) (z : MemoryBlock) → slice_get (muted r.hides s.world.memory) c ≡ Some z
      → is_live z.life ≡ true → IsShownLive c z
  shown_live c z e live = on (r.hides c) refl
    where
      on : (k : Bool) → r.hides c ≡ k → IsShownLive c z
      on true k = absurd (hidden_dead r.hides s.world.memory c z k e live)
      on false k = record { shown = k; there = sym (muted_get r.hides s.world.memory c k) ∙ e }

  module _ (n B : ℕ) (home : home_of r.homes n ≡ whole_home B) (listed : HasListedSlots s) where
    n_there : n < length s.world.memory
    n_there =
        let lt : n < length r.homes = seen_known r.homes n (ap (λ (q : Home). q.is_seen) home) in
        let known : length r.homes ≡ length s.world.memory = r.known in
        omega (arith, lt, known)

    -- no other block stands alone there
    alone : (c k : ℕ) (z : MemoryBlock) → slice_get s.world.memory c ≡ Some z → home_of r.homes c ≡ whole_home k
        → k ≡ B → c ≡ n
    alone c k z e other same =
        r.mates.alone c n B (get_within s.world.memory c z e) n_there
        (other ∙ ap whole_home same) home

    module _ (c : ℕ) (z : MemoryBlock) (e : slice_get (muted r.hides s.world.memory) c ≡ Some z)
        (live : is_live z.life ≡ true) (at : (home_of r.homes c).block ≡ B) where
      there : slice_get s.world.memory c ≡ Some z
      there = (shown_live c z e live).there

      whole : (k : ℕ) → home_of r.homes c ≡ whole_home k → WhoLives c n B
      whole k h = Itself (alone c k z there h (sym (ap (λ (q : Home). q.block) h) ∙ at))

      of_slot : (a d : Activation) → IsListed d (t.top ∷ t.below) → d.func ≡ a.func → (slot : Slot) → slot.block ≡ c
          → (f : Bool) → is_coroutine b a.func && lies_in_frame (offsets (b.framing a.func)) slot.alloca ≡ f
          → IsSlotBy b r.homes r.hides a d slot f → WhoLives c n B
      of_slot a d l func slot same false q k = whole k.block (ap (home_of r.homes) (sym same) ∙ k.home)
      of_slot a d l func slot same true q (inl k) =
          let no : true ≡ false = sym k.0 ∙ ap r.hides same ∙ (shown_live c z e live).shown in absurd (cc)
      of_slot a d l func slot same true q (inr k) =
          let home_c : home_of r.homes c ≡ record { block = k.1; offset = 0; is_seen = false } =
          ap (home_of r.homes) (sym same) ∙ k.5 in
          let block_is : k.1 ≡ B = sym (ap (λ (h : Home). h.block) home_c) ∙ at in
          Early d l (ap (is_coroutine b) func ∙ (and_parts _ _ q).0) k.0
          (subst (λ (g : ℕ). Contains (copies (b.framing g)).slots k.0) (sym func) k.2)
          (subst (λ (m : ℕ). Contains d.slots (record { alloca = k.0.temporary; block = m })) block_is k.4)

      of_instance : (i : ℕ) (x : Instance) → slice_get s.instances i ≡ Some x → (slot : Slot)
          → Contains x.slots slot → slot.block ≡ c → WhoLives c n B
      of_instance i x x_there slot own same =
          let y = other_instance b s t r i x x_there in
          let p = y.2.slots slot own in
          let home_c = ap (home_of r.homes) (sym same) ∙ p.home in
          Placed i x y.0 x_there y.1 y.2 slot own same (sym (ap (λ (h : Home). h.block) home_c) ∙ at)

      somewhere : IsSlotSomewhere s c → WhoLives c n B
      somewhere (OfActivation a l slot own same) =
          let d = found_beside a l in
          of_slot a d.other d.listed d.func slot same
          (is_coroutine b a.func && lies_in_frame (offsets (b.framing a.func)) slot.alloca) refl (d.slots slot own)
      somewhere (OfInstance i x x_there slot own same) = of_instance i x x_there slot own same

      pub who_lives : WhoLives c n B
      who_lives = on (is_slot z) refl
        where
          on : (k : Bool) → is_slot z ≡ k → WhoLives c n B
          on true k = somewhere (listed.each c z there live k)
          on false k = let h = r.mates.whole c z there k in whole h.0 h.1
