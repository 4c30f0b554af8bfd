-- What is seen of the operands of an access before begin, in related states: each leads to where the source's does.
use Rattle.std.proofs.Common.{◌≡◌, ◌+◌, ◌≤◌, ◌∙◌, List, None, Option, Some, ap, false, length, refl, subst, sym, true}
use Rattle.std.proofs.Common.{ℕ, ⊎_elim}
use Rattle.std.specs.List.{Contains}
use Rattle.std.specs.Prelude.{option_map, slice_get, ◌&&◌, Bool}
use Rattle.pass_frames_steps.specs.frame_contents.Held.{position_of}
use Rattle.pass_frames_steps.specs.ir_model.Ty.{Ty}
use Rattle.pass_frames_steps.specs.ir_model.declared.instr.Instr.{Instr}
use Rattle.pass_frames_steps.specs.ir_model.declared.operand.Operand.{Operand}
use Rattle.pass_frames_steps.specs.pass_cells.Cells.{fetches_of}
use Rattle.pass_frames_steps.specs.pass_cells.Kept.{entry, joined}
use Rattle.pass_frames_steps.specs.pass_copies.declared.slot.EarlySlot.{EarlySlot}
use Rattle.pass_frames_steps.specs.pass_fetch.Fetching.{fetch_of}
use Rattle.pass_frames_steps.specs.pass_fetch.declared.fetch.Fetch.{Fetch}
use Rattle.pass_frames_steps.specs.pass_frames.Framed.{begin_of}
use Rattle.pass_frames_steps.proofs.code.Left.{fetch_found}
use Rattle.pass_frames_steps.proofs.code.Names.{kept_left}
use Rattle.pass_frames_steps.proofs.followed.Assembly.{other_instance}
use Rattle.pass_frames_proof.proofs.located.Moved.{value_moved}
use Rattle.pass_frames_proof.proofs.located.Thrice.{thrice, thrice_by}
use Rattle.pass_frames_proof.proofs.located.Wheres.{early_found, slot_there, where_has, where_value}
use Rattle.pass_frames_steps.proofs.ordinary.Stores.{stands_shown}
use Rattle.pass_frames_steps.proofs.stepping.Operands.{seen_one, slot_address, slot_fetch}
use Rattle.pass_frames_steps.specs.Code.{load_name, slot_table}
use Rattle.pass_frames_steps.specs.Fetched.{seen_by}
use Rattle.pass_frames_steps.specs.Framings.{IsFraming}
use Rattle.pass_frames_steps.specs.Led.{seen_twice, twice_by}
use Rattle.pass_frames_steps.specs.Lines.{at_work}
use Rattle.pass_frames_steps.specs.Loaded.{loaded_value}
use Rattle.pass_frames_steps.specs.Located.{IsAddress, IsAtAccess, IsEarlyOperand, IsMoved, where_table}
use Rattle.pass_frames_steps.specs.Places.{Framing, copies, edged, offsets, plan}
use Rattle.pass_frames_steps.specs.Reached.{address_by, address_in_frame}
use Rattle.pass_frames_steps.specs.Related.{AreBuiltOf, AreCellsRight, AreInstances, AreNamed, AreWheresRight}
use Rattle.pass_frames_steps.specs.Related.{Building, IsSlotBy, IsUnplacedSlot, IsWhere, instance_in, is_coroutine}
use Rattle.pass_frames_steps.specs.Stepping.{IsPlacedOperand, IsSlotOf, state_in}
use Rattle.pass_frames_steps.specs.Temporaries.{HasLedSlots}
use Rattle.pass_frames_steps.specs.pass_renewed_proof.Renewed.{RenewedGiven}
use Rattle.pass_frames_steps.specs.pass_proofs.addresses.rules.Addresses.{lies_in_frame}
use Rattle.pass_frames_steps.specs.pass_addresses.Placing.{is_none}
use Rattle.pass_frames_steps.specs.run_framed.Framed.{frame_rights, framed_context}
use Rattle.pass_frames_steps.specs.run_laws.access.Lines.{pointer_at}
use Rattle.pass_frames_steps.specs.run_laws.memory.Pointers.{Home, IsValue, home_of}
use Rattle.pass_frames_steps.specs.run_laws.transfer.Muted.{IsShown}
use Rattle.pass_frames_steps.specs.run_memory.Pointers.{moved, offset_of}
use Rattle.pass_frames_steps.specs.run_memory.declared.pointer.Pointer.{Pointer}
use Rattle.pass_frames_steps.specs.run_memory.declared.pointer.Value.{Value}
use Rattle.pass_frames_steps.specs.run_source.Source.{context_of}
use Rattle.pass_frames_steps.specs.run_source.State.{work_of}
use Rattle.pass_frames_steps.specs.run_source.declared.state.Instance.{Instance}
use Rattle.pass_frames_steps.specs.run_source.declared.state.State.{State}
use Rattle.pass_frames_steps.specs.run_step.Step.{Context, Work}
use Rattle.pass_frames_steps.specs.run_step.Values.{operand_value, pointer_to, value_in}
use Rattle.pass_frames_steps.specs.run_step.declared.world.Slot.{Slot}
use Rattle.std.specs.Prelude.{not, unwrap_or}

-- what has an offset lies in the frame
pub lies_there : (x : Framing) (v o : ℕ) → entry (offsets x) v ≡ Some o → lies_in_frame (offsets x) v ≡ true
lies_there x v o e = on (slice_get (offsets x) v) refl e
  where
    on : (q : Option (Option ℕ)) → slice_get (offsets x) v ≡ q → joined q ≡ Some o
        → lies_in_frame (offsets x) v ≡ true
    on None there d = absurd (cc)
    on (Some p) there d = ap (λ (z : Option (Option ℕ)). not (is_none (unwrap_or z None))) there
        ∙ ap (λ (z : Option ℕ). not (is_none z)) d

unplaced_by : (b : Building) (homes : List Home) (hides : ℕ → Bool) (s t : State) (slot : Slot) (k : Bool) → k ≡ true
    → IsSlotBy b homes hides s.top t.top slot k → IsUnplacedSlot (b.framing s.top.func) homes hides t.top slot
unplaced_by b homes hides s t slot true e h = h
unplaced_by b homes hides s t slot false e h = absurd (cc)

both_true : (p q : Bool) → p ≡ true → q ≡ true → (p && q) ≡ true
both_true true q e f = f
both_true false q e f = absurd (cc)

module _ (b : Building) (g : RenewedGiven) (s t : State) (r : AreBuiltOf b s t) (ledger : HasLedSlots t) (i : Instr)
    (work : Work) (h : IsAtAccess b g s i work) where
  abbrev x : Framing
  x = b.framing s.top.func

  abbrev c : Context
  c = context_of g.given s

  abbrev d : Context
  d = framed_context b.given t

  abbrev own : Option Instance
  own = instance_in t.instances t.top.instance

  abbrev n : ℕ
  n = load_name (state_in x s.top.block s.top.at)

  abbrev T : List (Option Fetch)
  T = fetches_of (plan x)

  abbrev W : List (Option Fetch)
  W = where_table x

  abbrev U : List (Option Fetch)
  U = slot_table x

  abbrev one : ℕ → Value
  one = loaded_value x d (work_of t)

  abbrev two : ℕ → Value
  two = where_value x d (work_of t)

  abbrev three : ℕ → Value
  three = slot_address x own

  abbrev Seen : Ty → Operand → Value
  Seen ty o = thrice T W U one two three d (work_of t) ty o

  -- what is seen of an operand leads to where the source's does; one that isn't fetched from a cell of addresses stands
  -- for it
  pub record IsSeenAt (o : Operand) : Type 0 where
    pub leads : (ty : Ty) → IsAddress r.homes r.hides (operand_value c.code s.top.values ty o)
        (thrice (fetches_of (plan (b.framing s.top.func))) (where_table (b.framing s.top.func))
        (slot_table (b.framing s.top.func)) (loaded_value (b.framing s.top.func) (framed_context b.given t) (work_of t))
        (where_value (b.framing s.top.func) (framed_context b.given t) (work_of t))
        (slot_address (b.framing s.top.func) (instance_in t.instances t.top.instance)) (framed_context b.given t)
        (work_of t) ty o)
    pub stands : fetch_of (where_table (b.framing s.top.func)) o ≡ None → (ty : Ty)
        → IsValue r.homes (operand_value c.code s.top.values ty o)
        (thrice (fetches_of (plan (b.framing s.top.func))) (where_table (b.framing s.top.func))
        (slot_table (b.framing s.top.func)) (loaded_value (b.framing s.top.func) (framed_context b.given t) (work_of t))
        (where_value (b.framing s.top.func) (framed_context b.given t) (work_of t))
        (slot_address (b.framing s.top.func) (instance_in t.instances t.top.instance)) (framed_context b.given t)
        (work_of t) ty o)

  pub record AreRight : Type 0 where
    pub framing : IsFraming (b.framing s.top.func)
    pub names : AreNamed (b.framing s.top.func) r.homes s.top t.top
    pub cells : AreCellsRight (b.framing s.top.func) r.homes (frame_rights b.given t.instances) t.world.memory
        s.top.values (at_work t.top (work_of t))
    pub wheres : AreWheresRight (b.framing s.top.func) (frame_rights b.given t.instances) t.world.memory
        (instance_in t.instances t.top.instance) (at_work t.top (work_of t))
    pub low : length (edged (b.framing s.top.func)).names
        ≤ load_name (state_in (b.framing s.top.func) s.top.block s.top.at)
    pub others : (o : Operand) → ((u : ℕ) → o ≡ Operand.Local u → ⊥) → (ty : Ty)
        → IsValue r.homes (operand_value (context_of g.given s).code s.top.values ty o)
        (operand_value (framed_context b.given t).code t.top.values ty o)

  module _ (a : AreRight) where
    framing_is : (func : ℕ) → func ≡ s.top.func → b.framing func ≡ x
    framing_is func e = ap b.framing e

    abbrev Twice : Ty → Operand → Value
    Twice ty o = seen_twice T U one three d (work_of t) ty o

    seen_two : (o : Operand) → IsPlacedOperand x s o → (ty : Ty)
        → IsValue r.homes (operand_value c.code s.top.values ty o) (Twice ty o)
    seen_two o q =
        seen_one b s t r x a.framing framing_is h.mode a.names h.begin h.offsets c d a.cells n a.low a.others o q

    shown : (v u : Value) → IsValue r.homes v u → IsShown r.hides v
    shown v u q = stands_shown r.homes r.hides r.hidden v u q

    -- ---- an operand that isn't fetched from such a cell

    same_seen : (o : Operand) (ty : Ty) → fetch_of W o ≡ None → Twice ty o ≡ Seen ty o
    same_seen o ty e =
        on (fetch_of T o)
        ∙ ap (λ (q : Option Fetch). thrice_by U one two three d (work_of t) ty o (fetch_of T o) q) (sym e)
      where
        on : (p : Option Fetch) → twice_by U one three d (work_of t) ty o p
            ≡ thrice_by U one two three d (work_of t) ty o p None
        on None = refl
        on (Some f) = refl

    other_value : (o : Operand) → fetch_of W o ≡ None → IsPlacedOperand x s o → (ty : Ty)
        → IsValue r.homes (operand_value c.code s.top.values ty o) (Seen ty o)
    other_value o e q ty =
        subst (λ (u : Value). IsValue r.homes (operand_value c.code s.top.values ty o) u) (same_seen o ty e)
        (seen_two o q ty)

    pub other_seen : (o : Operand) → fetch_of W o ≡ None → IsPlacedOperand x s o → IsSeenAt o
    other_seen o e q = record {
      leads = λ ty. record {
        moved = value_moved r.homes (operand_value c.code s.top.values ty o) (Seen ty o) (other_value o e q ty);
        shown = shown (operand_value c.code s.top.values ty o) (Seen ty o) (other_value o e q ty);
      };
      stands = λ none ty. other_value o e q ty;
    }

    -- ---- a slot that is used before begin

    module _ (v : ℕ) (f : Fetch) (e : fetch_of W (Operand.Local v) ≡ Some f) (q : IsEarlyOperand x s v) where
      slot : EarlySlot
      slot = (early_found x v f e).slot

      listed : Contains (copies x).slots slot
      unfolding slot
      listed = slot_there x d own t.top (work_of t) a.wheres v f e

      named : slot.slot ≡ v
      unfolding slot
      named = (early_found x v f e).value

      has : IsWhere own x t.top slot (two v)
      unfolding slot
      has = where_has x d own t.top (work_of t) a.wheres v f e

      unloaded : fetch_of T (Operand.Local v) ≡ None
      unloaded = on (fetch_of T (Operand.Local v)) refl
        where
          on : (o : Option Fetch) → fetch_of T (Operand.Local v) ≡ o → fetch_of T (Operand.Local v) ≡ None
          on None k = k
          on (Some p) k =
              let z = fetch_found x a.framing v p k in
              let none : None ≡ Some f = sym (kept_left x a.framing v z.at z.told).1 ∙ e in
              absurd (cc)

      seen_is : (ty : Ty) → two v ≡ Seen ty (Operand.Local v)
      seen_is ty =
          (λ j. thrice_by U one two three d (work_of t) ty (Operand.Local v) (sym unloaded j) (sym e j))

      -- before begin
      abbrev Leads : Type 0
      Leads = IsAddress r.homes r.hides (value_in s.top.values v) (two v)

      poison : value_in s.top.values v ≡ Value.Poison → Leads
      poison none = record {
        moved = subst (λ (u : Value). IsMoved r.homes u (two v)) (sym none) tt;
        shown = subst (λ (u : Value). IsShown r.hides u) (sym none) tt;
      }

      module _ (none : s.top.instance ≡ None) where
        unbegun : t.top.instance ≡ None
        unbegun = r.top.instance ∙ none

        is_temporary : two v ≡ value_in t.top.values slot.temporary
        is_temporary =
            subst (λ (o : Option Instance). IsWhere o x t.top slot (two v)) (ap (instance_in t.instances) unbegun) has

        module _ (z : Slot) (there : Contains s.top.slots z) (is : z.alloca ≡ v)
            (leads : value_in s.top.values v ≡ pointer_to z.block) where
          unplaced : IsUnplacedSlot x r.homes r.hides t.top z
          unplaced =
              unplaced_by b r.homes r.hides s t z
              (is_coroutine b s.top.func && lies_in_frame (offsets (b.framing s.top.func)) z.alloca)
              (both_true (is_coroutine b s.top.func) (lies_in_frame (offsets (b.framing s.top.func)) z.alloca)
              h.coroutine
              (subst (λ (u : ℕ). lies_in_frame (offsets x) u ≡ true) (sym is) (lies_there x v q.offset q.lies)))
              (r.top.slots z there)

          in_temporary : (w : EarlySlot) × (block : ℕ) × Contains (copies x).slots w × (w.slot ≡ z.alloca)
              × Contains t.top.slots (record { alloca = w.temporary; block = block })
              × (home_of r.homes z.block ≡ record { block = block; offset = 0; is_seen = false })
              × (r.hides z.block ≡ false) → Leads
          in_temporary w =
              let same : w.0 ≡ slot = h.once w.0 slot w.2 listed (w.3 ∙ is ∙ sym named) in
              let led : value_in t.top.values w.0.temporary ≡ pointer_to w.1 =
              ledger.each (r.top.mode ∙ h.ramp none) unbegun (record { alloca = w.0.temporary; block = w.1 }) w.4 in
              let here : two v ≡ pointer_to w.1 =
              is_temporary
              ∙ ap (λ (y : EarlySlot). value_in t.top.values y.temporary) (sym same)
              ∙ led in
              record {
                moved = subst (λ (u : Value). IsMoved r.homes u (two v)) (sym leads)
                    (here ∙ ap (λ (y : Home). Value.Ptr (Pointer.At y.block (moved (offset_of 0) y.offset))) (sym w.5));
                shown = subst (λ (u : Value). IsShown r.hides u) (sym leads) w.6;
              }

          before_slot : Leads
          before_slot = ⊎_elim (λ p. absurd (p.1 slot listed (named ∙ sym is))) in_temporary unplaced

        before : Leads
        before = ⊎_elim poison (λ k. before_slot k.0 k.1 k.2 k.3) (q.before none)

      -- behind begin, where a path has led back
      module _ (number : ℕ) (begun : s.top.instance ≡ Some number) where
        placed : IsPlacedOperand x s (Operand.Local v)
        placed = q.behind number begun

        abbrev own_slot : IsSlotOf x s v q.offset
        own_slot = placed q.offset q.lies

        fetched_slot : fetch_of U (Operand.Local v) ≡ Some (Fetch.Address (begin_of x.function) q.offset)
        fetched_slot =
            slot_fetch x v ∙ ap (option_map (Fetch.Address (begin_of x.function))) q.lies

        stood : (ty : Ty) → IsValue r.homes (value_in s.top.values v) (three v)
        stood ty =
            subst (λ (u : Value). IsValue r.homes (value_in s.top.values v) u)
            (ap (λ (o : Option Fetch). twice_by U one three d (work_of t) ty (Operand.Local v) o) unloaded
            ∙ ap (λ (o : Option Fetch). seen_by three d (work_of t) ty (Operand.Local v) o) fetched_slot)
            (seen_two (Operand.Local v) placed ty)

        beside : (y : Instance) × (slice_get t.instances own_slot.number ≡ Some y)
            × AreInstances b r.homes t own_slot.instance y
        beside = other_instance b s t r own_slot.number own_slot.instance own_slot.there

        is_own : own ≡ Some beside.0
        is_own = ap (instance_in t.instances) (r.top.instance ∙ own_slot.own) ∙ beside.1

        same_address : (y : Instance) → IsWhere (Some y) x t.top slot (two v)
            → two v ≡ address_in_frame x y.block y.start v
        same_address y p =
            p.2
            ∙ ap (λ (o : ℕ). pointer_at y.block (y.start + o))
            (sym (h.offsets.each v q.offset p.0 q.lies
            (subst (λ (u : ℕ). position_of x.contents.held u ≡ Some p.0) named p.1)))
            ∙ ap (address_by y.block y.start) (sym q.lies)

        two_is : two v ≡ three v
        two_is =
            same_address beside.0 (subst (λ (o : Option Instance). IsWhere o x t.top slot (two v)) is_own has)
            ∙ ap (λ (o : Option Instance). slot_address x o v) (sym is_own)

        behind : (ty : Ty) → Leads
        behind ty = record {
          moved = subst (λ (u : Value). IsMoved r.homes (value_in s.top.values v) u) (sym two_is)
              (value_moved r.homes (value_in s.top.values v) (three v) (stood ty));
          shown = shown (value_in s.top.values v) (three v) (stood ty);
        }

      by_instance : (ty : Ty) (o : Option ℕ) → s.top.instance ≡ o → Leads
      by_instance ty None k = before k
      by_instance ty (Some number) k = behind number k ty

      pub early_seen : IsSeenAt (Operand.Local v)
      early_seen = record {
        leads = λ ty.
            subst (λ (u : Value). IsAddress r.homes r.hides (value_in s.top.values v) u) (seen_is ty)
            (by_instance ty s.top.instance refl);
        stands = λ none ty. let no : None ≡ Some f = sym none ∙ e in absurd (cc);
      }
