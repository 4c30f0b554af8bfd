-- Where a ramp is called by a site, all that began in its alloca is over. A keeper of it would be at its call again.
use Rattle.std.proofs.Common.{◌≡◌, ◌⊎◌, ◌∙◌, ◌&&◌, ◌||◌, ◌==◌, ◌∷◌, [], ap, arith, Bool, false, inl, inr, List, map, not, Option, refl, subst, suc, sym, true, ℕ, if◌then◌else◌}
use Rattle.std.proofs.lemmas.List.Elements.{Contains-append_right}
use Rattle.std.specs.List.{Contains}
use Rattle.std.specs.Option.{option_map_or}
use Rattle.std.specs.Prelude.{None, Some, slice_get}
use Rattle.elide_sites.specs.Sites.{destroys_of, is_destroy_of, is_ret_at}
use Rattle.pass_elide.specs.declared.given.GivenFrame.{GivenFrame}
use Rattle.pass_elide_kept.proofs.KeptPushed.{goes_further, pushed_keep}
use Rattle.pass_elide_kept.specs.Keepers.{IsOver, IsRenewed, KeepersIn, WasFreed}
use Rattle.pass_elide_kept.specs.Kept.{Calling, Destroying, HasKeeper, Held, IsKeptIn, Keeps}
use Rattle.pass_elide_proof.proofs.Callees.{in_list, same_place, site_value}
use Rattle.pass_elide_proof.proofs.Calls.{other_steps}
use Rattle.pass_elide_proof.proofs.CallersInstr.{was_itself}
use Rattle.pass_elide_proof.proofs.GivingMarkers.{plain_put}
use Rattle.pass_elide_proof.proofs.Holding.{ends}
use Rattle.pass_elide_proof.proofs.SiteCalls.{i, name, other_steps as site_steps, room}
use Rattle.pass_elide_proof.proofs.Sites.{same_call}
use Rattle.pass_elide_proof.specs.CallersStack.{KeepAllHandles}
use Rattle.pass_elide_proof.specs.Calling.{AreReady, CallsTo, DestroysHandles, IsAtCall, IsAtSite}
use Rattle.pass_elide_proof.specs.Elision.{Elision, elided, elided_code, function_in, rooms}
use Rattle.pass_elide_proof.specs.Invariant.{IsSiteOf}
use Rattle.pass_elide_proof.specs.Places.{front_at, instrs_of, own_at}
use Rattle.pass_elide_proof.specs.Returning.{HaveOwnSlots}
use Rattle.pass_elide_proof.proofs.pass_proofs.ir_laws.facts.Truth.{itself}
use Rattle.pass_elide_proof.specs.pass_proofs.flow_points.Reached.{IsReached}
use Rattle.pass_elide_proof.specs.pass_proofs.ir_model.Names.{function_at}
use Rattle.pass_elide_proof.specs.pass_proofs.ir_model.declared.instr.Instr.{Instr}
use Rattle.pass_elide_proof.specs.pass_proofs.ir_model.declared.module.Module.{Module}
use Rattle.pass_elide_proof.specs.pass_proofs.ir_model.declared.operand.Callee.{Callee}
use Rattle.pass_elide_proof.specs.pass_proofs.ir_model.declared.operand.Intrinsic.{Intrinsic}
use Rattle.pass_elide_proof.specs.pass_proofs.ir_parts.Contents.{result_of}
use Rattle.pass_elide_proof.specs.pass_proofs.ir_paths.Paths.{same_point}
use Rattle.pass_elide_proof.specs.pass_proofs.run_framed.Framed.{framed_step, is_given}
use Rattle.pass_elide_proof.specs.pass_proofs.run_laws.embedded.Deaths.{moved_slot}
use Rattle.pass_elide_proof.specs.pass_proofs.run_memory.declared.block.Kind.{Kind}
use Rattle.pass_elide_proof.specs.pass_proofs.run_memory.declared.block.MemoryBlock.{MemoryBlock}
use Rattle.pass_elide_proof.specs.pass_proofs.run_memory.declared.pointer.Value.{Value}
use Rattle.pass_elide_proof.specs.pass_proofs.run_memory.Memory.{same_kind}
use Rattle.pass_elide_proof.specs.pass_proofs.run_source.Source.{called}
use Rattle.pass_elide_proof.specs.pass_proofs.run_source.State.{address_in}
use Rattle.pass_elide_proof.specs.pass_proofs.run_source.declared.state.Activation.{Activation}
use Rattle.pass_elide_proof.specs.pass_proofs.run_source.declared.state.Instance.{Instance}
use Rattle.pass_elide_proof.specs.pass_proofs.run_source.declared.state.Mode.{Mode}
use Rattle.pass_elide_proof.specs.pass_proofs.run_source.declared.state.State.{State}
use Rattle.pass_elide_proof.specs.pass_proofs.run_step.Values.{arg_values, pointer_to}
use Rattle.pass_elide_proof.specs.pass_proofs.run_step.declared.world.Slot.{Slot}

-- ---- the slot of a keeper

pub record IsKeeperRow (y : Instance) (rows : List Activation) : Type 0 where
  pub at : ℕ
  pub row : Activation
  pub there : slice_get rows at ≡ Some row
  pub name : ℕ
  pub slot : Contains row.slots (record { alloca = name; block = y.block })

pub keeper_row : (e : Elision) (y : Instance) (number : ℕ) (above : Option Activation) (rows : List Activation)
    → IsKeptIn e y number above rows → IsKeeperRow y rows
keeper_row e y number above [] h = absurd h
keeper_row e y number above (c ∷ rows) (inl k) =
    record { at = 0; row = c; there = refl; name = k.name; slot = k.slot }
keeper_row e y number above (c ∷ rows) (inr k) =
    let r = keeper_row e y number (Some c) rows k in
    record { at = suc r.at; row = r.row; there = r.there; name = r.name; slot = r.slot }

-- ---- the alloca of the site

module _ (e : Elision) (z s t : State) (r : AreReady e s t) (k : IsAtSite e s t)
    (plain : (function_in e s.top.func).coroutine ≡ false) (destroyed : DestroysHandles e s.top.func)
    (slots : HaveOwnSlots t) (h : KeepersIn e z t) where
  abbrev block : ℕ
  block = (room e s t r k).block

  abbrev mine : Slot
  mine = record { alloca = (room e s t r k).name; block = (room e s t r k).block }

  slot_there : Contains t.top.slots mine
  slot_there =
      subst (λ (zs : List Slot). Contains zs mine) (sym r.beside.top.slots)
      (Contains-append_right (map (moved_slot r.beside.homes) s.top.slots) r.beside.top.own mine (room e s t r k).slot)

  abbrev named_by : Instr → ℕ
  named_by (Instr.Alloca n ty align) = n
  named_by _ = 0

  own_name : name e s t r k ≡ (room e s t r k).name
  own_name = ap named_by (room e s t r k).is

  given : (y : Instance) → y.block ≡ block → is_given t.world.memory y ≡ true
  given y same =
      (λ j. option_map_or (λ (x : MemoryBlock). same_kind x.kind Kind.Stack) (slice_get t.world.memory (same j)) false
      || not (y.start == 0))
      ∙ (ap (λ (o : Option MemoryBlock). option_map_or (λ (x : MemoryBlock). same_kind x.kind Kind.Stack) o false
      || not (y.start == 0)) (room e s t r k).is_there
      ∙ ap (λ (c : Kind). same_kind c Kind.Stack || not (y.start == 0)) (room e s t r k).kind)

  at_call : (number : ℕ) (y : Instance) → y.block ≡ block → (c : HasKeeper e y number t.top None)
      → (c.call.block ≡ s.top.block) × (c.call.at ≡ s.top.at)
  at_call number y same c =
      let theirs = in_list t.top.slots c.slot.0 (record { alloca = c.name; block = y.block }) c.slot.1 c.slot.2 in
      let ours = in_list t.top.slots slot_there.0 mine slot_there.1 slot_there.2 in
      let position = (slots.once 0 0 c.slot.0 slot_there.0 (record { alloca = c.name; block = y.block }) mine
      (record { activation = t.top; there = refl; slot = theirs })
      (record { activation = t.top; there = refl; slot = ours }) same).1 in
      let one : ◌≡◌ {A = Option Slot} (Some (record { alloca = c.name; block = y.block })) (Some mine)
      = sym theirs ∙ (ap (slice_get t.top.slots) position ∙ ours) in
      let names : c.name ≡ (room e s t r k).name = slot_name _ _ one in
      let of_s : IsSiteOf e s.top.func c.call c.instr c.name
      = subst (λ (n : ℕ). IsSiteOf e n c.call c.instr c.name) r.beside.top.func c.site in
      same_call (rooms e s.top.func) (function_in e s.top.func) c.call.block c.call.at s.top.block s.top.at c.instr
      (i e s t r k) (GivenFrame.Alloca of_s.size of_s.align) (GivenFrame.Alloca k.size k.align) of_s.there k.there
      of_s.room k.room (sym of_s.is_name ∙ (names ∙ sym own_name))
    where
      slot_name : (y z : Slot) → Some y ≡ Some z → y.alloca ≡ z.alloca
      slot_name y z e = let is : y ≡ z = cc in ap (λ (w : Slot). w.alloca) is

  -- the topmost isn't at its call with the handle held
  not_held : (number : ℕ) (y : Instance) → y.block ≡ block → HasKeeper e y number t.top None → ⊥
  not_held number y same c = by None c.keeps refl
    where
      by : (o : Option Activation) → Keeps e y number c.call c.instr t.top o → o ≡ None → ⊥
      by _ (Calling d stands func result instance mode) none = absurd (cc)
      by _ (Destroying p j v d stands there of result destroys) none = absurd (cc)
      by _ (Held p o stands reached handle) none =
          let func = r.beside.top.func in
          let plain_too : (function_in e t.top.func).coroutine ≡ false = c.site.plain in
          let own : t.top.at ≡ own_at (rooms e t.top.func) (function_in e t.top.func) t.top.block s.top.at
          = r.at ∙ (λ j. own_at (rooms e (sym func j)) (function_in e (sym func j)) (sym r.block j) s.top.at) in
          let at : p.at ≡ s.top.at
          = same_place e t.top.func (plain_put e t.top.func plain_too) t.top.block p.at s.top.at
          ((λ j. front_at (rooms e t.top.func) (function_in e t.top.func) (stands.block j) p.at)
          ∙ (sym stands.at ∙ own)) in
          let block_is : p.block ≡ s.top.block = sym stands.block ∙ r.block in
          let call = at_call number y same c in
          let site : IsSiteOf e s.top.func c.call c.instr c.name
          = subst (λ (n : ℕ). IsSiteOf e n c.call c.instr c.name) func c.site in
          ends (function_in e s.top.func) c.call p (destroyed c.call c.instr c.name site)
          (subst (λ (q : ℕ × Option ℕ). IsReached (function_in e q.0) (c.call ∷ []) (destroys_of (function_in e q.0) q.1)
          p) (λ j. (func j, sym (site_value e s.top.func c.call c.instr c.name site) j)) reached)
          (first (same_point p c.call) (is_ret_at (function_in e s.top.func) p)
          ((λ j. ((block_is ∙ sym call.0) j == c.call.block) && ((at ∙ sym call.1) j == c.call.at))
          ∙ (λ j. itself c.call.block j && itself c.call.at j)))
        where
          first : (a b : Bool) → a ≡ true → (a || b) ≡ true
          first true b h = refl
          first false b h = absurd (cc)

  -- and nobody else has its alloca
  never : (number : ℕ) (y : Instance) → y.block ≡ block → IsKeptIn e y number None (t.top ∷ t.below) → ⊥
  never number y same (inl c) = not_held number y same c
  never number y same (inr c) =
      let row = keeper_row e y number (Some t.top) t.below c in
      let ours = in_list t.top.slots slot_there.0 mine slot_there.1 slot_there.2 in
      let theirs = in_list row.row.slots row.slot.0 (record { alloca = row.name; block = y.block }) row.slot.1
      row.slot.2 in
      apart row.at
      (slots.once 0 (suc row.at) slot_there.0 row.slot.0 mine (record { alloca = row.name; block = y.block })
      (record { activation = t.top; there = refl; slot = ours })
      (record { activation = row.row; there = row.there; slot = theirs }) (sym same)).0
    where
      apart : (n : ℕ) → 0 ≡ suc n → ⊥
      apart n is = absurd (omega (arith, is))

  all_freed : (number : ℕ) (y : Instance) → slice_get t.instances number ≡ Some y → y.block ≡ block
      → WasFreed z number
  all_freed number y there same = by (h.each number y there (given y same))
    where
      by : IsOver z number y ⊎ IsKeptIn e y number None (t.top ∷ t.below) → WasFreed z number
      by (inl over) = over.1
      by (inr kept) = absurd (never number y same kept)

  same_frame : (b c o : ℕ) → Mode.GivenRamp (pointer_to b) ≡ Mode.GivenRamp (address_in c o) → b ≡ c
  same_frame b c o e = cc

  destroys_none : (v : Option ℕ) → is_destroy_of v (i e s t r k) ≡ false
  destroys_none None = refl
  destroys_none (Some v) = refl

  pub sites_keep_keepers : KeepAllHandles e → KeepersIn e z (framed_step (elided e) t)
  sites_keep_keepers handles =
      let there = (λ j. slice_get (instrs_of (function_in e (r.beside.top.func j)) (r.block j)) s.top.at) ∙ k.there in
      let stands = r.at ∙ (λ j. own_at (rooms e (sym r.beside.top.func j)) (function_in e (sym r.beside.top.func j))
      (sym r.block j) s.top.at) in
      subst (KeepersIn e z) (sym (site_steps e s t r k))
      (pushed_keep e z t s.top.at (i e s t r k) there stands (handles t.top.func) h _ t.instances
      (was_itself t.instances)
      (λ b offset none is number y at same start.
      all_freed number y at (same ∙ sym (same_frame block b offset is)))
      (λ number x at given c.
      inr (goes_further e z t s.top.at (i e s t r k) there stands (handles t.top.func) h _ x number c
      (destroys_none (result_of c.instr)))))

-- ---- other calls

fresh_renewed : (z : State) (ys : List Instance) (m : Module) (func : ℕ) (vs : List Value) (result : Option ℕ)
    (b : Bool) → IsRenewed z ys (called m func vs result (if b then Mode.Ramp else Mode.Plain))
fresh_renewed z ys m func vs result true block offset none is = absurd (cc)
fresh_renewed z ys m func vs result false block offset none is = absurd (cc)

pub calls_keep_keepers : (e : Elision) (z s t : State) (r : AreReady e s t) (k : IsAtCall e s t) → KeepAllHandles e
    → KeepersIn e z t → KeepersIn e z (framed_step (elided e) t)
calls_keep_keepers e z s t r k handles h =
    let call = Instr.Call k.result k.must_tail k.ty k.callee k.args in
    let there = (λ j. slice_get (instrs_of (function_in e (r.beside.top.func j)) (r.block j)) s.top.at) ∙ k.there in
    let stands = r.at ∙ (λ j. own_at (rooms e (sym r.beside.top.func j)) (function_in e (sym r.beside.top.func j))
    (sym r.block j) s.top.at) in
    subst (KeepersIn e z) (sym (other_steps e s t r k))
    (pushed_keep e z t s.top.at call there stands (handles t.top.func) h _ t.instances (was_itself t.instances)
    (fresh_renewed z t.instances (elided_code e) k.func (arg_values (elided_code e) t.top.values k.args) k.result
    (function_at (elided_code e) k.func).coroutine)
    (λ number x at given c.
    inr (goes_further e z t s.top.at call there stands (handles t.top.func) h _ x number c
    (destroys_none (result_of c.instr)))))
  where
    calm : (callee : Callee) → ((j : Intrinsic) → callee ≡ Callee.Intrinsic j → ⊥) → (v : Option ℕ)
        → is_destroy_of v (Instr.Call k.result k.must_tail k.ty callee k.args) ≡ false
    calm callee none None = refl
    calm (Callee.Intrinsic j) none (Some v) = absurd (none j refl)
    calm (Callee.Named n) none (Some v) = refl
    calm (Callee.Allocator a) none (Some v) = refl
    calm (Callee.Local n) none (Some v) = refl

    no_intrinsic : (callee : Callee) → CallsTo e s t k.ty k.args k.func callee → (j : Intrinsic)
        → callee ≡ Callee.Intrinsic j → ⊥
    no_intrinsic (Callee.Intrinsic j) calls i is = absurd calls
    no_intrinsic (Callee.Named n) calls i is = absurd (cc)
    no_intrinsic (Callee.Allocator a) calls i is = absurd (cc)
    no_intrinsic (Callee.Local n) calls i is = absurd (cc)

    destroys_none : (v : Option ℕ)
        → is_destroy_of v (Instr.Call k.result k.must_tail k.ty k.callee k.args) ≡ false
    destroys_none = calm k.callee (no_intrinsic k.callee k.calls)
