-- In the temporary of a slot that is used before begin no other block of the source stands, nor a frame.
use Rattle.std.proofs.Common.{◌≡◌, ◌≢◌, ◌⊎◌, inl, inr, ℕ, Bool, true, false, List, [], ◌∷◌, Some, refl, sym, ap, ◌∙◌, subst}
use Rattle.std.proofs.Common.{◌&&◌}
use Rattle.std.proofs.lemmas.Bool.{cases_eq}
use Rattle.std.specs.List.{Contains}
use Rattle.std.specs.Prelude.{slice_get}
use Rattle.compiler.specs.flow_solver.Paths.{IsListed}
use Rattle.compiler.specs.pass_copies.declared.slot.EarlySlot.{EarlySlot}
use Rattle.pass_frames_meaning.proofs.pass_frames_proof.allocating.Lives.{IsBeside, IsShownLive, shown_live}
use Rattle.pass_frames_meaning.proofs.pass_frames_proof.allocating.Whole.{below_other}
use Rattle.pass_frames_meaning.proofs.pass_frames_proof.followed.Assembly.{other_instance}
use Rattle.pass_frames_meaning.proofs.pass_frames_proof.lines.Cells.{other_block}
use Rattle.pass_frames_meaning.proofs.pass_frames_proof.stepping.May.{own_blocks}
use Rattle.pass_frames_meaning.specs.pass_frames_proof.Places.{copies, offsets}
use Rattle.pass_frames_meaning.specs.pass_frames_proof.Related.{AreBelow, AreBuiltOf, Building, IsSlotBy, is_coroutine, is_slot}
use Rattle.pass_frames_meaning.specs.pass_frames_proof.Slotted.{HasListedSlots, HasSlotsApart, IsSlotSomewhere, OfActivation, OfInstance}
use Rattle.compiler.specs.pass_proofs.addresses.rules.Addresses.{lies_in_frame}
use Rattle.compiler.specs.run_laws.memory.Pointers.{Home, home_of}
use Rattle.compiler.specs.run_laws.transfer.Muted.{muted}
use Rattle.compiler.specs.run_memory.Memory.{is_live, same_kind}
use Rattle.compiler.specs.run_memory.declared.block.Kind.{Kind}
use Rattle.compiler.specs.run_memory.declared.block.MemoryBlock.{MemoryBlock}
use Rattle.compiler.specs.run_source.declared.state.Activation.{Activation}
use Rattle.compiler.specs.run_source.declared.state.Instance.{Instance}
use Rattle.compiler.specs.run_source.declared.state.State.{State}
use Rattle.compiler.specs.run_step.declared.world.Slot.{Slot}

-- an activation below has one beside it
beside_below : (b : Building) (homes : List Home) (hides : ℕ → Bool) (t : State) (ps cs : List Activation)
    → AreBelow b homes hides t ps cs → (a : Activation) → IsListed a ps → IsBeside b homes hides cs a
beside_below b homes hides t [] cs h a l = absurd l
beside_below b homes hides t (p ∷ ps) [] h a l = absurd h
beside_below b homes hides t (p ∷ ps) (q ∷ cs) h a (inl e) =
    subst (IsBeside b homes hides (q ∷ cs)) (sym e) (record {
      other = q;
      listed = inl refl;
      func = h.0.func;
      slots = h.0.slots;
    })
beside_below b homes hides t (p ∷ ps) (q ∷ cs) h a (inr l) =
    let z = beside_below b homes hides t ps cs h.1 a l in
    record { other = z.other; listed = inr z.listed; func = z.func; slots = z.slots }

-- A slot of the framed activation on top, which is the temporary e of a slot in a block n of the source.
module _ (b : Building) (s t : State) (r : AreBuiltOf b s t) (listed : HasListedSlots s) (others : HasSlotsApart t)
    (e : EarlySlot) (q n : ℕ) (own : Contains t.top.slots (record { alloca = e.temporary; block = q }))
    (block : MemoryBlock) (there : slice_get t.world.memory q ≡ Some block) (of_slot : block.kind ≡ Kind.Slot)
    (named : (slot : Slot) → Contains s.top.slots slot → slot.alloca ≢ e.temporary)
    (same : (slot : Slot) → Contains s.top.slots slot → (f : EarlySlot)
    → Contains (copies (b.framing s.top.func)).slots f → f.slot ≡ slot.alloca → f.temporary ≡ e.temporary
    → slot.block ≡ n) where
  abbrev temporary : Slot
  temporary = record { alloca = e.temporary; block = q }

  pub frames_apart : (j : ℕ) (y : Instance) → slice_get t.instances j ≡ Some y → y.block ≢ q
  frames_apart j y at is = others.each t.top (inl refl) (record { alloca = e.temporary; block = q }) own j y at is

  -- nor another slot of an activation
  other_top : (name k : ℕ) → Contains t.top.slots (record { alloca = name; block = k }) → name ≢ e.temporary → k ≢ q
  other_top name k at ne = other_block t.top name e.temporary k q (own_blocks t r.once) at own ne

  module _ (c : ℕ) (z : MemoryBlock) (ne : c ≢ n) (at : slice_get (muted r.hides s.world.memory) c ≡ Some z)
      (live : is_live z.life ≡ true) (home : (home_of r.homes c).block ≡ q) where
    shown : IsShownLive b s t r c z
    shown = shown_live b s t r c z at live

    unhidden : (slot : Slot) → slot.block ≡ c → r.hides slot.block ≡ true → ⊥
    unhidden slot is k = let no : true ≡ false = sym k ∙ ap r.hides is ∙ shown.shown in absurd (cc)

    -- where the slot's home is, the temporary is
    home_is : (slot : Slot) → slot.block ≡ c → (k : ℕ) (h : Home) → home_of r.homes slot.block ≡ h → h.block ≡ k → k ≡ q
    home_is slot is k h e d =
        sym d ∙ ap (λ (x : Home). x.block) (sym e) ∙ ap (λ (m : ℕ). (home_of r.homes m).block) is ∙ home

    -- a block that is no slot has a block of its kind
    no_slot : is_slot z ≡ false → ⊥
    no_slot other =
        let h = r.mates.whole c z shown.there other in
        let k_is : h.0 ≡ q = sym (ap (λ (x : Home). x.block) h.1) ∙ home in
        let mate = r.mates.each c h.0 z shown.there h.1 in
        let both : Some block ≡ Some (record z { bytes = mate.0 }) =
        sym there ∙ ap (slice_get t.world.memory) (sym k_is) ∙ mate.1 in
        let one : block ≡ record z { bytes = mate.0 } = cc in
        let kind : Kind.Slot ≡ z.kind = sym of_slot ∙ ap (λ (x : MemoryBlock). x.kind) one in
        let wrong : true ≡ false = ap (λ (k : Kind). same_kind k Kind.Slot) kind ∙ other in
        absurd (cc)

    -- a slot of an activation below has a block of that one
    below_slot : (a d : Activation) → IsListed d t.below → (slot : Slot) → slot.block ≡ c → (f : Bool)
        → IsSlotBy b r.homes r.hides a d slot f → ⊥
    below_slot a d l slot is false k =
        below_other b s t r (record { alloca = e.temporary; block = q }) own d l
        (record { alloca = slot.alloca; block = k.block }) k.own (sym (home_is slot is k.block _ k.home refl))
    below_slot a d l slot is true (inl k) = unhidden slot is k.0
    below_slot a d l slot is true (inr k) =
        below_other b s t r (record { alloca = e.temporary; block = q }) own d l
        (record { alloca = k.0.temporary; block = k.1 }) k.4 (sym (home_is slot is k.1 _ k.5 refl))

    -- one of the activation on top has another name, or it is the one
    top_slot : (slot : Slot) → Contains s.top.slots slot → slot.block ≡ c → (f : Bool)
        → IsSlotBy b r.homes r.hides s.top t.top slot f → ⊥
    top_slot slot mine is false k =
        other_top slot.alloca k.block k.own (named slot mine) (home_is slot is k.block _ k.home refl)
    top_slot slot mine is true (inl k) = unhidden slot is k.0
    top_slot slot mine is true (inr k) = on (cases_eq k.0.temporary e.temporary)
      where
        on : (k.0.temporary ≡ e.temporary) ⊎ (k.0.temporary ≢ e.temporary) → ⊥
        on (inl one) = ne (sym is ∙ same slot mine k.0 k.2 k.3 one)
        on (inr two) = other_top k.0.temporary k.1 k.4 two (home_is slot is k.1 _ k.5 refl)

    somewhere : IsSlotSomewhere s c → ⊥
    somewhere (OfActivation a (inl l) slot mine is) =
        let at_top : Contains s.top.slots slot = subst (λ (x : Activation). Contains x.slots slot) l mine in
        top_slot slot at_top is
        (is_coroutine b s.top.func && lies_in_frame (offsets (b.framing s.top.func)) slot.alloca)
        (r.top.slots slot at_top)
    somewhere (OfActivation a (inr l) slot mine is) =
        let d = beside_below b r.homes r.hides t s.below t.below r.below a l in
        below_slot a d.other d.listed slot is
        (is_coroutine b a.func && lies_in_frame (offsets (b.framing a.func)) slot.alloca) (d.slots slot mine)
    somewhere (OfInstance i x x_there slot mine is) =
        let y = other_instance b s t r i x x_there in
        frames_apart i y.0 y.1 (home_is slot is y.0.block _ (y.2.slots slot mine).home refl)

    pub lonely : ⊥
    lonely = on (is_slot z) refl
      where
        on : (k : Bool) → is_slot z ≡ k → ⊥
        on true k = somewhere (listed.each c z shown.there live k)
        on false k = no_slot k
