-- A call that gives an alloca: what began there before is Finished, and the callers of others stay on the stack.
use Rattle.std.proofs.Common.{◌≡◌, ◌+◌, ◌⊎◌, ◌∙◌, ◌&&◌, ◌||◌, ◌==◌, ◌∷◌, [], ap, arith, Bool, false, inl, inr, List, map, not, Option, refl, subst, suc, sym, true, ℕ}
use Rattle.std.specs.List.{Contains}
use Rattle.std.specs.Option.{option_map_or}
use Rattle.std.specs.Prelude.{None, Some, slice_get}
use Rattle.std.proofs.lemmas.List.Elements.{Contains-append_right}
use Rattle.elide_sites.specs.Sites.{is_destroy_of, is_ret_at}
use Rattle.pass_elide.specs.declared.given.GivenFrame.{GivenFrame}
use Rattle.pass_elide_proof.proofs.Callees.{called_at, in_list, in_rows, never_held}
use Rattle.pass_elide_proof.proofs.SiteCalls.{has_address, i, name, other_steps, room}
use Rattle.pass_elide_proof.proofs.Sites.{same_call}
use Rattle.pass_elide_proof.proofs.Stacks.{pushed_callers}
use Rattle.pass_elide_proof.specs.Calling.{AreReady, DestroysHandles, IsAtSite}
use Rattle.pass_elide_proof.specs.Elision.{Elision, elided, function_in, rooms}
use Rattle.pass_elide_proof.specs.Invariant.{HasCaller, HaveCallers, IsCalledIn, IsGivenBy, IsSiteOf}
use Rattle.pass_elide_proof.specs.Places.{front_at, instrs_of, own_at}
use Rattle.pass_elide_proof.specs.Returning.{HaveOwnSlots}
use Rattle.pass_proofs.proofs.ir_laws.facts.Truth.{itself}
use Rattle.pass_proofs.specs.ir_model.declared.instr.Instr.{Instr}
use Rattle.pass_proofs.specs.ir_paths.Paths.{same_point}
use Rattle.pass_proofs.specs.ir_paths.declared.point.Point.{Point}
use Rattle.pass_proofs.specs.run_framed.Framed.{framed_step, is_given}
use Rattle.pass_proofs.specs.run_laws.embedded.Deaths.{moved_slot}
use Rattle.pass_proofs.specs.run_memory.Memory.{same_kind}
use Rattle.pass_proofs.specs.run_memory.declared.block.Kind.{Kind}
use Rattle.pass_proofs.specs.run_memory.declared.block.MemoryBlock.{MemoryBlock}
use Rattle.pass_proofs.specs.run_memory.declared.pointer.Value.{Value}
use Rattle.pass_proofs.specs.run_source.State.{is_finished}
use Rattle.pass_proofs.specs.run_source.declared.state.Activation.{Activation}
use Rattle.pass_proofs.specs.run_source.declared.state.Instance.{Instance}
use Rattle.pass_proofs.specs.run_source.declared.state.Mode.{Mode}
use Rattle.pass_proofs.specs.run_source.declared.state.State.{State}
use Rattle.pass_proofs.specs.run_step.Values.{pointer_to}
use Rattle.pass_proofs.specs.run_step.declared.world.Slot.{Slot}

destroys_none : (e : Elision) (s t : State) (r : AreReady e s t) (k : IsAtSite e s t) (v : Option ℕ)
    → is_destroy_of v (i e s t r k) ≡ false
destroys_none e s t r k None = refl
destroys_none e s t r k (Some v) = refl

same_mode : (v w : Value) → Mode.GivenRamp v ≡ Mode.GivenRamp w → w ≡ v
same_mode v w e = cc

module _ (e : Elision) (s t : State) (r : AreReady e s t) (k : IsAtSite e s t)
    (plain : (function_in e s.top.func).coroutine ≡ false) (destroyed : DestroysHandles e s.top.func)
    (slots : HaveOwnSlots t) (h : HaveCallers e t) where
  abbrev block : ℕ
  block = (room e s t r k).block

  abbrev here : Point
  here = record { block = s.top.block; at = s.top.at }

  -- the alloca's slot
  abbrev mine : Slot
  mine = record { alloca = (room e s t r k).name; block = (room e s t r k).block }

  slot_there : Contains t.top.slots mine
  slot_there =
      subst (λ (zs : List Slot). Contains zs mine) (sym r.beside.top.slots)
      (Contains-append_right (map (moved_slot r.beside.homes) s.top.slots) r.beside.top.own mine (room e s t r k).slot)

  abbrev named_by : Instr → ℕ
  named_by (Instr.Alloca n ty align) = n
  named_by _ = 0

  own_name : name e s t r k ≡ (room e s t r k).name
  own_name = ap named_by (room e s t r k).is

  site : IsSiteOf e s.top.func here (i e s t r k) (name e s t r k)
  site = record {
    plain = plain;
    there = k.there;
    size = k.size;
    align = k.align;
    room = k.room;
    is_name = refl;
  }

  given : (y : Instance) → y.block ≡ block → is_given t.world.memory y ≡ true
  given y same =
      (λ j. option_map_or (λ (x : MemoryBlock). same_kind x.kind Kind.Stack) (slice_get t.world.memory (same j)) false
      || not (y.start == 0))
      ∙ (ap (λ (o : Option MemoryBlock). option_map_or (λ (x : MemoryBlock). same_kind x.kind Kind.Stack) o false
      || not (y.start == 0)) (room e s t r k).is_there
      ∙ ap (λ (c : Kind). same_kind c Kind.Stack || not (y.start == 0)) (room e s t r k).kind)

  -- no instance that isn't Finished lies there: its caller would be at its call again
  never : (number : ℕ) (y : Instance) → y.block ≡ block
      → IsCalledIn e t.world.memory y number [] (t.top ∷ t.below) → ⊥
  never number y same called = on (called_at e t.world.memory y number [] (t.top ∷ t.below) called)
    where
      zero_suc : (n : ℕ) → 0 ≡ suc n → ⊥
      zero_suc n e = omega (arith, e)

      at_call : (c : HasCaller e t.world.memory y number t.top []) → (c.call.block ≡ s.top.block)
          × (c.call.at ≡ s.top.at)
      at_call c =
          let theirs = in_list t.top.slots c.slot.0 (record { alloca = c.name; block = y.block }) c.slot.1 c.slot.2 in
          let ours = in_list t.top.slots slot_there.0 mine slot_there.1 slot_there.2 in
          let position = (slots.once 0 0 c.slot.0 slot_there.0 (record { alloca = c.name; block = y.block }) mine
          (record { activation = t.top; there = refl; slot = theirs })
          (record { activation = t.top; there = refl; slot = ours }) same).1 in
          let one : ◌≡◌ {A = Option Slot} (Some (record { alloca = c.name; block = y.block }))
          (Some mine)
          = sym theirs ∙ (ap (slice_get t.top.slots) position ∙ ours) in
          let names : c.name ≡ (room e s t r k).name = slot_name _ _ one in
          let of_s : IsSiteOf e s.top.func c.call c.instr c.name
          = subst (λ (n : ℕ). IsSiteOf e n c.call c.instr c.name) r.beside.top.func c.site in
          same_call (rooms e s.top.func) (function_in e s.top.func) c.call.block c.call.at s.top.block s.top.at c.instr
          (i e s t r k) (GivenFrame.Alloca of_s.size of_s.align) (GivenFrame.Alloca k.size k.align) of_s.there k.there
          of_s.room k.room (sym of_s.is_name ∙ (names ∙ sym own_name))
        where
          slot_name : (y z : Slot) → Some y ≡ Some z → y.alloca ≡ z.alloca
          slot_name y z e = let is : y ≡ z = cc in ap (λ (w : Slot). w.alloca) is

      on : HasCaller e t.world.memory y number t.top []
          ⊎ IsCalledIn e t.world.memory y number (t.top ∷ []) t.below → ⊥
      on (inl c) =
          let at = at_call c in
          never_held e s t r destroyed y number c
          (λ p block_is at_is. first (same_point p c.call) (is_ret_at (function_in e s.top.func) p)
          ((λ j. ((block_is ∙ sym at.0) j == c.call.block) && ((at_is ∙ sym at.1) j == c.call.at))
          ∙ (λ j. itself c.call.block j && itself c.call.at j)))
        where
          first : (a b : Bool) → a ≡ true → (a || b) ≡ true
          first true b h = refl
          first false b h = absurd (cc)
      on (inr further) =
          let row = in_rows e t.world.memory y number (t.top ∷ []) t.below further in
          let ours = in_list t.top.slots slot_there.0 mine slot_there.1 slot_there.2 in
          zero_suc row.at
          (slots.once 0 (suc row.at) slot_there.0 row.position mine row.slot
          (record { activation = t.top; there = refl; slot = ours })
          (record { activation = row.row; there = row.there; slot = row.has }) (sym same ∙ sym row.same)).0

  over : (number : ℕ) (y : Instance) → slice_get t.instances number ≡ Some y → y.block ≡ block
      → is_finished y.status ≡ true
  over number y there same = on (is_finished y.status) refl
    where
      on : (b : Bool) → is_finished y.status ≡ b → b ≡ true
      on true e = refl
      on false e = absurd (never number y same (h.each number y there (given y same) e))

  -- the ramp was given the alloca by its caller
  ramp : (x : Activation) (frame : Value) → x.result ≡ k.result → frame ≡ pointer_to block
      → IsGivenBy e t.instances frame x (record t.top { at = t.top.at + 1 })
  ramp x frame result is =
      let next : suc s.top.at ≡ s.top.at + 1 = omega arith in
      record {
        call = here;
        instr = i e s t r k;
        name = name e s t r k;
        block = block;
        site = subst (λ (n : ℕ). IsSiteOf e n here (i e s t r k) (name e s t r k)) (sym r.beside.top.func) site;
        stands = record {
          block = r.block;
          at = ap (λ (n : ℕ). n + 1) r.at
              ∙ (ap (front_at (rooms e s.top.func) (function_in e s.top.func) s.top.block) next
              ∙ (λ j. front_at (rooms e (sym r.beside.top.func j)) (function_in e (sym r.beside.top.func j))
              s.top.block (s.top.at + 1)));
        };
        result = result;
        address = has_address e s t r k;
        is = is;
        slot = subst (λ (n : ℕ). Contains t.top.slots (record { alloca = n; block = block })) (sym own_name) slot_there;
        over = over;
      }

  pub sites_keep : HaveCallers e (framed_step (elided e) t)
  sites_keep =
      subst (HaveCallers e) (sym (other_steps e s t r k))
      (pushed_callers e t _ s.top.at (i e s t r k)
      ((λ j. slice_get (instrs_of (function_in e (r.beside.top.func j)) (r.block j)) s.top.at) ∙ k.there)
      (r.at ∙ (λ j. own_at (rooms e (sym r.beside.top.func j)) (function_in e (sym r.beside.top.func j))
      (sym r.block j) s.top.at))
      (destroys_none e s t r k)
      (λ frame is none. ramp _ frame refl (same_mode (pointer_to block) frame is)) h)
