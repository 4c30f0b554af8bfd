-- Where an activation returns, no frame that was given lies in a slot of it.
use Rattle.std.proofs.Common.{◌≡◌, ◌<◌, ◌+◌, ◌⊎◌, ◌∙◌, ◌&&◌, ◌||◌, ◌==◌, ◌∷◌, [], ap, arith, Bool, false, inl, inr, List, Option, refl, subst, suc, sym, true, zero, ℕ, length, if◌then◌else◌}
use Rattle.std.specs.Prelude.{IsTrue, None, Some, option_and_then, option_map, slice_get, slice_index_or}
use Rattle.elide_shape.specs.Calls.{value_at}
use Rattle.elide_sites.specs.Sites.{destroys_of, ends_use, is_ret_at, is_ret_in, IsDestroyed}
use Rattle.pass_elide.specs.Elided.{coroutine_frame}
use Rattle.pass_elide.specs.Frames.{callee_layout, frame_of, layout_of, site_frame}
use Rattle.pass_elide.specs.Places.{is_site}
use Rattle.pass_elide.specs.declared.given.GivenFrame.{GivenFrame}
use Rattle.pass_elide_proof.proofs.Holding.{ends}
use Rattle.pass_elide_proof.proofs.GivingMarkers.{nothing_put, plain_put}
use Rattle.pass_elide_proof.specs.Calling.{AreReady}
use Rattle.pass_elide_proof.specs.Elision.{Elision, function_in, rooms}
use Rattle.pass_elide_proof.specs.Invariant.{Below, Calling, Destroying, HasCaller, Held, Here, Holds, IsCalledIn, IsSiteOf, StandsAt}
use Rattle.pass_elide_proof.specs.Places.{front_at, instrs_in, instrs_of, own_at, phi_count, put_by, put_up_to}
use Rattle.pass_elide_proof.specs.Returning.{IsAtReturn, MayEnd}
use Rattle.pass_proofs.proofs.ir_laws.facts.Truth.{itself}
use Rattle.pass_proofs.specs.flow_points.Reached.{IsReached}
use Rattle.pass_proofs.specs.frame_layout.declared.layout.Layout.{Layout}
use Rattle.pass_proofs.specs.ir_base.declared.outcome.Place.{Place}
use Rattle.pass_proofs.specs.ir_model.declared.instr.Instr.{Instr}
use Rattle.pass_proofs.specs.ir_model.declared.module.Block.{Block}
use Rattle.pass_proofs.specs.ir_model.declared.module.Function.{Function}
use Rattle.pass_proofs.specs.ir_model.declared.module.Module.{Module}
use Rattle.pass_proofs.specs.ir_parts.Contents.{result_of}
use Rattle.pass_proofs.specs.ir_paths.Paths.{same_point}
use Rattle.pass_proofs.specs.ir_paths.Windows.{call_result, instr_in}
use Rattle.pass_proofs.specs.ir_paths.declared.point.Point.{Point}
use Rattle.pass_proofs.specs.rule_windows.Outside.{is_return}
use Rattle.pass_proofs.specs.run_memory.declared.block.MemoryBlock.{MemoryBlock}
use Rattle.pass_proofs.specs.run_source.declared.state.Activation.{Activation}
use Rattle.pass_proofs.specs.run_source.declared.state.Instance.{Instance}
use Rattle.pass_proofs.specs.run_source.declared.state.State.{State}
use Rattle.pass_proofs.specs.run_step.declared.world.Slot.{Slot}

-- ---- a call that gives an alloca is a call

site_calls : (m : Module) (ls : List Layout) (sites : List Place) (func block at : ℕ) (i : Instr) (g : GivenFrame)
    → site_frame m ls sites func block at i ≡ Some g → call_result i ≡ result_of i
site_calls m ls sites func block at i g is =
    on i (is_site sites (record { func = func; block = block; at = at })) is
  where
    none : (b : Bool) → (if b then option_map frame_of None else None) ≡ Some g → ⊥
    none true e = absurd (cc)
    none false e = absurd (cc)

    on : (i : Instr) (b : Bool) → (if b then option_map frame_of (callee_layout m ls i) else None) ≡ Some g
        → call_result i ≡ result_of i
    on (Instr.Call result must_tail ty callee args) b e = refl
    on (Instr.Binary name op flags ty x y) b e = absurd (none b e)
    on (Instr.Icmp name pred ty x y) b e = absurd (none b e)
    on (Instr.Select name x y z) b e = absurd (none b e)
    on (Instr.Cast name op nneg arg to) b e = absurd (none b e)
    on (Instr.Alloca name ty align) b e = absurd (none b e)
    on (Instr.Load name ty p align) b e = absurd (none b e)
    on (Instr.Store arg p align) b e = absurd (none b e)
    on (Instr.Gep name inbounds ty base indices) b e = absurd (none b e)

module _ (e : Elision) (func : ℕ) where
  abbrev f : Function
  f = function_in e func

  -- its value is the call's result
  pub site_value : (call : Point) (i : Instr) (name : ℕ) → IsSiteOf e func call i name
      → value_at (function_in e func) call ≡ result_of i
  site_value call i name site =
      ap (option_and_then call_result) (there (slice_get f.blocks call.block) site.there)
      ∙ site_calls e.code e.layouts.coroutines e.sites func call.block (phi_count f call.block + call.at) i
      (GivenFrame.Alloca site.size site.align) room
    where
      there : (o : Option Block) → slice_get (instrs_in o) call.at ≡ Some i → instr_in o call.at ≡ Some i
      there None at = absurd (cc)
      there (Some b) at = at

      room : site_frame e.code e.layouts.coroutines e.sites func call.block (phi_count f call.block + call.at) i
          ≡ Some (GivenFrame.Alloca site.size site.align)
      room =
          ap (λ (b : Bool). (if b then coroutine_frame (layout_of e.layouts.coroutines func) f
          else site_frame e.code e.layouts.coroutines e.sites func) call.block (phi_count f call.block + call.at) i)
          (sym site.plain)
          ∙ site.room

  -- a place is told by its front
  module _ (unput : (block at : ℕ) (i : Instr) → put_by (rooms e func block at i) ≡ 0) where
    none_put : (block at : ℕ) → put_up_to (rooms e func block) (phi_count f block) (instrs_of f block) at ≡ 0
    none_put block at = nothing_put (rooms e func block) (unput block) (phi_count f block) (instrs_of f block) at

    pub same_place : (block p at : ℕ) → front_at (rooms e func) (function_in e func) block p
        ≡ own_at (rooms e func) (function_in e func) block at → p ≡ at
    same_place block zero at is = let put = none_put block at in omega (arith, is, put)
    same_place block (suc p) at is =
        let put = none_put block at in
        let before = none_put block p in
        omega (arith, is, put, before)

-- ---- a caller that waits for nobody has its handle

pub record IsHeldAt (e : Elision) (c : Activation) (call : Point) (i : Instr) : Type 0 where
  pub point : Point
  pub stands : StandsAt e c point
  pub reached : IsReached (function_in e c.func) (call ∷ []) (destroys_of (function_in e c.func) (result_of i)) point

held_at : (e : Elision) (y : Instance) (number : ℕ) (call : Point) (i : Instr) (c : Activation)
    (above : List Activation) → Holds e y number call i c above → above ≡ [] → IsHeldAt e c call i
held_at e y number call i c _ (Calling d above stands func result instance mode) none = absurd (cc)
held_at e y number call i c _ (Held p above stands reached handle) none =
    record { point = p; stands = stands; reached = reached }
held_at e y number call i c _ (Destroying p v d above stands result destroys) none = absurd (cc)

-- ---- a caller has the frame's block as a slot

pub in_list : {A : Type 0} (xs : List A) (k : ℕ) (x : A) → k < length xs → slice_index_or xs k x ≡ x
    → slice_get xs k ≡ Some x
in_list [] k x lt is = absurd (omega (arith, lt))
in_list (z ∷ xs) zero x lt is = ap Some is
in_list (z ∷ xs) (suc k) x lt is = in_list xs k x (omega (arith, lt)) is

module _ (e : Elision) (memory : List MemoryBlock) (y : Instance) (number : ℕ) where
  abbrev CalledAt : List Activation → List Activation → Type 0
  CalledAt above [] = ⊥
  CalledAt above (c ∷ below) = HasCaller e memory y number c above ⊎ IsCalledIn e memory y number (c ∷ above) below

  pub called_at : (above rows : List Activation) → IsCalledIn e memory y number above rows → CalledAt above rows
  called_at _ _ (Here c above below h) = inl h
  called_at _ _ (Below c above below h) = inr h

  pub record IsSlotIn (rows : List Activation) : Type 0 where
    pub at : ℕ
    pub row : Activation
    pub there : slice_get rows at ≡ Some row
    pub position : ℕ
    pub slot : Slot
    pub has : slice_get row.slots position ≡ Some slot
    pub same : slot.block ≡ y.block

  in_row : (above : List Activation) (c : Activation) (below : List Activation)
      → HasCaller e memory y number c above → IsSlotIn (c ∷ below)
  in_row above c below h = record {
    at = 0;
    row = c;
    there = refl;
    position = h.slot.0;
    slot = record { alloca = h.name; block = y.block };
    has = in_list c.slots h.slot.0 (record { alloca = h.name; block = y.block }) h.slot.1 h.slot.2;
    same = refl;
  }

  pub in_rows : (above rows : List Activation) → IsCalledIn e memory y number above rows → IsSlotIn rows
  in_rows above [] h = absurd (called_at above [] h)
  in_rows above (c ∷ below) h = on (called_at above (c ∷ below) h) (in_rows (c ∷ above) below)
    where
      on : CalledAt above (c ∷ below) → (IsCalledIn e memory y number (c ∷ above) below → IsSlotIn below)
          → IsSlotIn (c ∷ below)
      on (inl caller) again = in_row above c below caller
      on (inr further) again =
          let h = again further in
          record {
            at = suc h.at;
            row = h.row;
            there = h.there;
            position = h.position;
            slot = h.slot;
            has = h.has;
            same = h.same;
          }

-- ---- a caller that waits for nobody is at no place that ends the use of its handle

module _ (e : Elision) (s t : State) (r : AreReady e s t)
    (destroyed : (call : Point) (i : Instr) (name : ℕ) → IsSiteOf e s.top.func call i name
    → IsDestroyed (function_in e s.top.func) call) where
  abbrev own : Function
  own = function_in e s.top.func

  pub never_held : (y : Instance) (number : ℕ) (h : HasCaller e t.world.memory y number t.top [])
      → ((p : Point) → p.block ≡ s.top.block → p.at ≡ s.top.at
      → IsTrue (ends_use (function_in e s.top.func) h.call p)) → ⊥
  never_held y number h ends_at = by t.top.func r.beside.top.func h.site held.stands.at held.reached
    where
      held : IsHeldAt e t.top h.call h.instr
      held = held_at e y number h.call h.instr t.top [] h.holds refl

      by : (func : ℕ) → func ≡ s.top.func → IsSiteOf e func h.call h.instr h.name
          → t.top.at ≡ front_at (rooms e func) (function_in e func) held.point.block held.point.at
          → IsReached (function_in e func) (h.call ∷ []) (destroys_of (function_in e func) (result_of h.instr))
          held.point
          → ⊥
      by func same site at reached =
          let mine : IsSiteOf e s.top.func h.call h.instr h.name
          = subst (λ (n : ℕ). IsSiteOf e n h.call h.instr h.name) same site in
          let block : held.point.block ≡ s.top.block = sym held.stands.block ∙ r.block in
          let front : front_at (rooms e s.top.func) own s.top.block held.point.at
          ≡ own_at (rooms e s.top.func) own s.top.block s.top.at
          = (λ j. front_at (rooms e (sym same j)) (function_in e (sym same j)) (sym block j) held.point.at)
          ∙ (sym at ∙ r.at) in
          ends own h.call held.point (destroyed h.call h.instr h.name mine)
          (subst (λ (o : Option ℕ). IsReached own (h.call ∷ []) (destroys_of own o) held.point)
          (sym (site_value e s.top.func h.call h.instr h.name mine))
          (subst (λ (n : ℕ). IsReached (function_in e n) (h.call ∷ []) (destroys_of (function_in e n)
          (result_of h.instr)) held.point) same reached))
          (ends_at held.point block
          (same_place e s.top.func (plain_put e s.top.func mine.plain) s.top.block held.point.at s.top.at front))

-- ---- at a return

module _ (e : Elision) (s t : State) (r : AreReady e s t) (k : IsAtReturn e s t) where
  -- the place is a return
  returns : (p : Point) → p.block ≡ s.top.block → p.at ≡ s.top.at → IsTrue (is_ret_at (function_in e s.top.func) p)
  returns p block at =
      (λ j. is_ret_in (slice_get (function_in e s.top.func).blocks (block j)) (at j))
      ∙ (ap (λ (o : Option Block). is_ret_in o s.top.at) k.has_block
      ∙ ((λ j. (k.at j == length k.block.instrs) && is_return (k.term j))
      ∙ ap (λ (b : Bool). b && true) (itself (length k.block.instrs))))

  ends_here : (call p : Point) → p.block ≡ s.top.block → p.at ≡ s.top.at
      → IsTrue (ends_use (function_in e s.top.func) call p)
  ends_here call p block at = last (same_point p call) (is_ret_at (function_in e s.top.func) p) (returns p block at)
    where
      last : (a b : Bool) → b ≡ true → (a || b) ≡ true
      last true b h = refl
      last false b h = h

  -- the topmost activation is no caller of an instance
  not_held : (y : Instance) (number : ℕ) → HasCaller e t.world.memory y number t.top [] → ⊥
  not_held y number h = never_held e s t r k.destroyed y number h (ends_here h.call)

  pub may_end : MayEnd e s t
  may_end = record {
    held = k.held;
    alone = not_held;
    ours = k.ours;
    theirs = k.theirs;
    callers = k.callers;
    freed = k.freed;
  }

-- ---- at any end

module _ (e : Elision) (s t : State) (k : MayEnd e s t) where
  -- a slot of it has the frame of none that is called
  pub apart_from : (y : Instance) (number : ℕ) → IsCalledIn e t.world.memory y number [] (t.top ∷ t.below)
      → (m : ℕ) (z : Slot) → slice_get t.top.slots m ≡ Some z → y.block ≡ z.block → ⊥
  apart_from y number called m z there same = on (called_at e t.world.memory y number [] (t.top ∷ t.below) called)
    where
      on : HasCaller e t.world.memory y number t.top []
          ⊎ IsCalledIn e t.world.memory y number (t.top ∷ []) t.below → ⊥
      on (inl h) = k.alone y number h
      on (inr h) =
          let row = in_rows e t.world.memory y number (t.top ∷ []) t.below h in
          never row.at
          (k.theirs.once 0 (suc row.at) m row.position z row.slot
          (record { activation = t.top; there = refl; slot = there })
          (record { activation = row.row; there = row.there; slot = row.has }) (sym same ∙ sym row.same)).0
        where
          never : (n : ℕ) → 0 ≡ suc n → ⊥
          never n e = omega (arith, e)
