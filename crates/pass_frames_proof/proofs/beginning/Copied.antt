-- Right behind begin the slots that are used before it are copied: what that asks is there.
use Rattle.std.proofs.Common.{◌≡◌, ◌≢◌, ◌+◌, ◌<◌, ◌≤◌, ◌^◌, ◌&&◌, ◌∙◌, Bool, List, None, Option, Some, ap, arith, drop, false, inl, inr, length, not, refl, subst, sym, take, true, ℕ, ⊎_elim}
use Rattle.std.proofs.lemmas.Bool.{cases_eq}
use Rattle.std.specs.List.{Contains}
use Rattle.std.specs.Prelude.{slice_get, unwrap_or}
use Rattle.pass_frames_steps.specs.flow_solver.Paths.{IsListed}
use Rattle.pass_frames_steps.specs.frame_contents.Held.{position_of}
use Rattle.pass_frames_steps.proofs.ir_laws.facts.Members.{each_there}
use Rattle.pass_frames_steps.specs.ir_model.Ty.{ptr}
use Rattle.pass_frames_steps.specs.ir_model.declared.operand.Operand.{Operand}
use Rattle.pass_frames_steps.specs.pass_addresses.Placing.{is_none as is_absent}
use Rattle.pass_frames_steps.specs.pass_copies.declared.slot.EarlySlot.{EarlySlot}
use Rattle.pass_frames_steps.specs.pass_cells.Cells.{fetches_of}
use Rattle.pass_frames_steps.specs.pass_fetch.Fetching.{fetch_of, next_after_all, value_bytes}
use Rattle.pass_frames_steps.specs.ir_parts.Contents.{instr_operands}
use Rattle.pass_frames_steps.proofs.pass_proofs.fetch.rules.Puts.{fetch_rises}
use Rattle.pass_frames_steps.proofs.run_laws.transfer.Sets.{set_elsewhere}
use Rattle.pass_frames_steps.specs.pass_frames.Tables.{offset_at}
use Rattle.pass_frames_steps.proofs.allocating.Grown.{in_all, listed_in, other_get}
use Rattle.pass_frames_steps.proofs.allocating.Rights.{frame_room, outside_rights}
use Rattle.pass_frames_proof.proofs.beginning.Given.{Begins}
use Rattle.pass_frames_proof.proofs.beginning.Ranges.{each_in, many, range_held, same_early}
use Rattle.pass_frames_proof.proofs.beginning.Loads.{I, M0, N0, W, high_stays, is, low_names, old_cells}
use Rattle.pass_frames_proof.proofs.beginning.Places.{B, N, Q, X, frame_fits, free_apart, held, kinds, own, same_there, slot_apart, y0, y0_alone, y0_there, ys, z, zt, zt_small, zt_there, zt_whole}
use Rattle.pass_frames_proof.proofs.beginning.Steps.{tB}
use Rattle.pass_frames_proof.proofs.early.Placed.{temporaries_unplaced}
use Rattle.pass_frames_steps.proofs.lines.Cells.{contained}
use Rattle.pass_frames_steps.proofs.stepping.Names.{where_is_name}
use Rattle.pass_frames_steps.proofs.stepping.Rest.{got}
use Rattle.pass_frames_steps.specs.Beginning.{IsAtBegin, IsEarlyAtBegin, IsTemporary, is_in_frame}
use Rattle.pass_frames_steps.specs.Code.{slot_table}
use Rattle.pass_frames_steps.specs.Early.{IsCopiedSlot, MayCopy}
use Rattle.pass_frames_steps.specs.Places.{Framing, copies, edged, offsets, plan, written}
use Rattle.pass_frames_steps.specs.Related.{AreBuiltOf, Building, IsCellName, IsFreeOf, IsSlotBy, IsUnplacedSlot, is_coroutine}
use Rattle.pass_frames_steps.specs.Slotted.{IsSlotField}
use Rattle.pass_frames_steps.specs.pass_renewed_proof.Renewed.{RenewedGiven}
use Rattle.pass_frames_steps.specs.pass_proofs.addresses.rules.Addresses.{lies_in_frame}
use Rattle.pass_frames_steps.specs.run_framed.Framed.{framed_context, layout_of}
use Rattle.pass_frames_steps.proofs.run_laws.memory.Written.{same_some}
use Rattle.pass_frames_steps.specs.run_laws.changed.Changed.{Each}
use Rattle.pass_frames_steps.specs.run_laws.memory.Standing.{HasRights, blank_block}
use Rattle.pass_frames_steps.specs.run_laws.transfer.Places.{HasRoom}
use Rattle.pass_frames_steps.specs.run_memory.Memory.{owner_rights}
use Rattle.pass_frames_steps.specs.run_memory.declared.block.Kind.{Kind}
use Rattle.pass_frames_steps.specs.run_memory.declared.block.MemoryBlock.{MemoryBlock}
use Rattle.pass_frames_steps.specs.run_source.State.{work_of}
use Rattle.pass_frames_steps.specs.run_source.declared.state.Instance.{Instance}
use Rattle.pass_frames_steps.specs.run_source.declared.state.State.{State}
use Rattle.pass_frames_steps.specs.run_step.Step.{Context, Work}
use Rattle.pass_frames_steps.specs.run_step.Values.{pointer_to, value_in, with_result}
use Rattle.pass_frames_steps.specs.run_step.declared.world.Slot.{Slot}

module _ (facts : Begins) where
  abbrev b : Building
  b = facts.b

  abbrev g : RenewedGiven
  g = facts.g

  abbrev s : State
  s = facts.s

  abbrev t : State
  t = facts.t

  abbrev r : AreBuiltOf b s t
  r = facts.r

  abbrev h : IsAtBegin b g s facts.result facts.must_tail facts.ty facts.id facts.typed facts.memory facts.block
  h = facts.h

  abbrev x : Framing
  x = X facts

  abbrev k : ℕ
  k = B facts

  abbrev pub early : List EarlySlot
  early = (copies x).slots

  abbrev D : Context
  D = framed_context b.given (tB facts)

  abbrev pub w0 : Work
  w0 = work_of (tB facts)

  -- ---- names

  -- temporaries and cells have the values that they had
  pub new_stays : (v : ℕ) → length (written x).names ≤ v → value_in w0.values v ≡ value_in t.top.values v
  new_stays v le = by facts.result refl ∙ high_stays facts v le
    where
      by : (o : Option ℕ) → facts.result ≡ o
          → value_in (with_result (W facts).values o (pointer_to k)) v ≡ value_in (W facts).values v
      by None e = refl
      by (Some name) e = set_elsewhere (W facts).values name v (pointer_to k) (λ same. not_it name e same)
        where
          not_it : (name : ℕ) → facts.result ≡ Some name → name ≡ v → ⊥
          not_it name e same =
              let low : name < length (edged x).names = (h.named name e).0.name.low in
              let up = low_names facts in
              let all : next_after_all (fetches_of (plan x)) (N0 facts) (instr_operands (I facts))
              ≤ length (written x).names = h.order.loads in
              let rises : N0 facts ≤ next_after_all (fetches_of (plan x)) (N0 facts) (instr_operands (I facts)) =
              fetch_rises (fetches_of (plan x)) (N0 facts) (instr_operands (I facts)) in
              omega (arith, low, up, all, rises, le, same)

  pub cell_free : (slot : Slot) → Contains t.top.slots slot → IsCellName x slot.alloca
      → IsFreeOf r.homes r.hides s.world.memory slot.block
  cell_free slot own' name =
      r.cells.0 (ap (is_coroutine b) r.top.func ∙ h.coroutine) slot own'
      (subst (λ (f : ℕ). IsCellName (b.framing f) slot.alloca) (sym r.top.func) name)

  -- ---- one slot

  pub unplaced_slot : (slot : Slot) → Contains s.top.slots slot → is_in_frame x slot ≡ true
      → IsUnplacedSlot x r.homes r.hides t.top slot
  unplaced_slot slot c inside =
      on (is_coroutine b s.top.func && is_in_frame x slot) (λ j. h.coroutine j && inside j) (r.top.slots slot c)
    where
      on : (f : Bool) → f ≡ true → IsSlotBy b r.homes r.hides s.top t.top slot f
          → IsUnplacedSlot x r.homes r.hides t.top slot
      on true e q = q
      on false e q = absurd (cc)

  -- its temporary, and the block of the source for which it stands
  pub record HasTemporary (e : EarlySlot) : Type 0 where
    pub slot : Slot
    pub own : Contains s.top.slots slot
    pub is : slot.alloca ≡ e.slot
    pub inside : is_in_frame x slot ≡ true
    pub block : ℕ
    pub there : Contains t.top.slots (record { alloca = e.temporary; block = block })

  pub has_temporary : (e : EarlySlot) → IsListed e early → HasTemporary e
  has_temporary e l = by (unplaced_slot slot own' lies)
    where
      E : IsEarlyAtBegin b s e
      E = h.early.each e (listed_in early e l)

      slot : Slot
      slot = E.made.0

      own' : Contains s.top.slots slot
      own' = E.made.1

      lies : is_in_frame x slot ≡ true
      lies =
          ap (lies_in_frame (offsets x)) E.made.2
          ∙ ap (λ (o : Option (Option ℕ)). not (is_absent (unwrap_or o None))) E.place.told

      by : IsUnplacedSlot x r.homes r.hides t.top slot → HasTemporary e
      by (inl q) = absurd (q.1 e (listed_in early e l) (sym E.made.2))
      by (inr q) =
          let same : q.0 ≡ e =
          same_early early h.early.slots q.0 e (contained early q.0 q.2) l (q.3 ∙ E.made.2) in
          record {
            slot = slot;
            own = own';
            is = E.made.2;
            inside = lies;
            block = q.1;
            there = subst (λ (f : EarlySlot). Contains t.top.slots (record { alloca = f.temporary; block = q.1 })) same
                q.4;
          }

  pub leads_there : (e : EarlySlot) (n : ℕ) → Contains t.top.slots (record { alloca = e.temporary; block = n })
      → value_in t.top.values e.temporary ≡ pointer_to n
  leads_there e n c =
      facts.led.each (r.top.mode ∙ h.ramp) (r.top.instance ∙ h.none) (record { alloca = e.temporary; block = n }) c

  module _ (e : EarlySlot) (l : IsListed e early) where
    abbrev co : Contains early e
    co = listed_in early e l

    pub E : IsEarlyAtBegin b s e
    E = h.early.each e co

    pub T : HasTemporary e
    T = has_temporary e l

    pub temporary : IsTemporary e t.world.memory T.block
    temporary =
        facts.live.each e (subst (λ (f : ℕ). Contains (copies (b.framing f)).slots e) (sym r.top.func) co) T.block
        T.there

    elsewhere : T.block ≢ k
    elsewhere = slot_apart facts t.top (inl refl) (record { alloca = e.temporary; block = T.block }) T.there

    no_frame : Each (λ (y : Instance). y.block ≢ T.block) (ys facts)
    no_frame =
        each_there (λ (y : Instance). y.block ≢ T.block) (ys facts)
        (λ j y there. ⊎_elim
        (λ same q. elsewhere (sym q
        ∙ ap (λ (p : Instance). p.block)
        (same_some y (y0 facts) (sym there ∙ ap (slice_get (ys facts)) same ∙ y0_there facts))))
        (λ other q. facts.apart.each t.top (inl refl) (record { alloca = e.temporary; block = T.block }) T.there j y
        (sym (other_get t.instances (y0 facts) j other) ∙ there) q)
        (cases_eq j (length t.instances)))

    -- the block of the source
    pub source : (v : MemoryBlock) × (slice_get s.world.memory T.slot.block ≡ Some v)
    source = got s.world.memory T.slot.block (facts.mine.each T.slot (in_all s s.top (inl refl) T.slot T.own))

    pub even : 1 ≤ source.0.align
    even = (E.sized T.slot T.own T.is source.0 source.1).1

    same_place : (h.slots T.slot T.own T.inside).position ≡ E.place.position
    same_place =
        let one : Some (h.slots T.slot T.own T.inside).position ≡ Some E.place.position =
        sym (h.slots T.slot T.own T.inside).held ∙ ap (position_of x.contents.held) T.is ∙ E.place.placed in
        cc

    pub field : IsSlotField (layout_of b.given.layouts s.top.func) E.place.offset e.size source.0.align
    field =
        subst (λ (q : ℕ × ℕ). IsSlotField (layout_of b.given.layouts s.top.func) q.0 q.1 source.0.align)
        (λ j. (
          (ap (offset_at x.layout) same_place ∙ sym E.place.same) j,
          (E.sized T.slot T.own T.is source.0 source.1).0 j,
        )) ((h.slots T.slot T.own T.inside).field source.0 source.1)

    pub small : e.size < 2 ^ 64
    small =
        let f = field.inside in
        let m = frame_fits facts in
        let n : (z facts).size < 2 ^ 64 = zt_small facts in
        omega (arith, f, m, n)

    pub frame_room_there : HasRoom owner_rights (Q facts) (N facts)
        (record { block = k; offset = 0 + E.place.offset; is_seen = true }) 0
        (blank_block e.size source.0.align Kind.Slot)
    frame_room_there =
        frame_room b.given (ys facts) (length t.instances) (y0 facts) (y0_there facts) (y0_alone facts) (N facts)
        (zt facts) (zt_there facts) (own facts).live (zt_whole facts) (zt_small facts) (kinds facts).1
        (let m = frame_fits facts in omega (arith, m)) E.place.offset e.size source.0.align field 0
        (blank_block e.size source.0.align Kind.Slot) refl refl true

    -- the range in the temporary, and that in the frame
    pub temporary_there : slice_get (N facts) T.block ≡ Some temporary.block
    temporary_there = same_there facts T.block elsewhere ∙ temporary.there

    pub fits_there : 0 + e.size ≤ temporary.block.size
    fits_there = let q = temporary.sized in omega (arith, q)

    pub temporary_rights : HasRights owner_rights (Q facts) (record { block = T.block; offset = 0; is_seen = true }) 0
        (blank_block e.size temporary.block.align Kind.Slot) temporary.block
    temporary_rights =
        outside_rights b.given (ys facts) T.block no_frame 0 (blank_block e.size temporary.block.align Kind.Slot)
        temporary.block true refl

    abbrev pub ready_place : IsCopiedSlot x 0 e
    ready_place = record {
      place = E.place;
      unfetched = each_in (λ (q : EarlySlot). fetch_of (slot_table x) (Operand.Local q.temporary) ≡ None) early
          (temporaries_unplaced x (is facts)) e l;
      some = E.some;
      small = small;
      temporary = T.block;
      bytes = take e.size (drop 0 temporary.block.bytes);
      many = many (Q facts) (N facts) T.block 0 e.size temporary.block.align temporary.block temporary_there
          temporary.live temporary.writable temporary.whole fits_there E.some temporary.even temporary_rights;
      old = take e.size (drop (0 + E.place.offset) frame_room_there.block.bytes);
      fits = many (Q facts) (N facts) k (0 + E.place.offset) e.size source.0.align frame_room_there.block
          frame_room_there.there frame_room_there.live (frame_room_there.writable refl) frame_room_there.whole
          frame_room_there.fits E.some even frame_room_there.allowed;
    }

    pub may_copy : MayCopy x D t.top k 0 (M0 facts) w0 e ready_place
    may_copy =
        let c = (old_cells facts).1.each e co in
        record {
          low_temporary = (h.order.slots e co).1.0;
          low_cell = (h.order.slots e co).1.1;
          cell = record {
            block = c.block;
            address = new_stays e.cell (h.order.slots e co).0.1 ∙ c.address;
            own = c.own;
            bytes = c.bytes;
            sized = c.sized;
            holds = held facts c.block
                (free_apart facts c.block
                (cell_free (record { alloca = e.cell; block = c.block }) c.own (where_is_name x e co))) 0
                (value_bytes ptr) c.bytes c.holds;
            has = tt;
          };
          own = T.there;
          leads = new_stays e.temporary (h.order.slots e co).0.0 ∙ leads_there e T.block T.there;
          holds = range_held (Q facts) (N facts) T.block 0 e.size temporary.block.align temporary.block temporary_there
              temporary.live temporary.writable temporary.whole fits_there E.some temporary.even temporary_rights;
          there = range_held (Q facts) (N facts) k (0 + E.place.offset) e.size source.0.align frame_room_there.block
              frame_room_there.there frame_room_there.live (frame_room_there.writable refl) frame_room_there.whole
              frame_room_there.fits E.some even frame_room_there.allowed;
        }

    -- its range lies in the frame
    pub inside_frame : (p : IsCopiedSlot x 0 e)
        → p.place.offset + e.size ≤ (layout_of b.given.layouts s.top.func).size
    inside_frame p =
        subst (λ (o : ℕ). o + e.size ≤ (layout_of b.given.layouts s.top.func).size)
        (E.place.same ∙ ap (offset_at x.layout) same ∙ sym p.place.same) field.inside
      where
        same : E.place.position ≡ p.place.position
        same =
            let one : Some E.place.position ≡ Some p.place.position = sym E.place.placed ∙ p.place.placed in
            cc
