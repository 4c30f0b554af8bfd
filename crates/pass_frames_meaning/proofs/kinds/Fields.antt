-- In the frame of an instance that runs the fields of the values that cross a suspend may be written.
use Rattle.std.proofs.Common.{◌≡◌, inl, inr, ⊎_elim, ℕ, ◌+◌, ◌<◌, ◌≤◌, ◌^◌, ◌%◌, ◌==◌, Bool, true, false, List, [], length, take, drop, Option, Some, None, refl, sym, ap, ◌∙◌, subst, arith, length-take-le, length-drop}
use Rattle.std.proofs.lemmas.Bool.{and_from, le-leb}
use Rattle.std.specs.Prelude.{option_map, slice_get}
use Rattle.std.specs.List.{Contains}
use Rattle.pass_frames_proof.specs.flow_solver.Paths.{IsListed}
use Rattle.pass_frames_proof.specs.frame_contents.Held.{position_of}
use Rattle.pass_frames_proof.proofs.ir_laws.facts.Lists.{get_within}
use Rattle.pass_frames_proof.specs.pass_cells.Written.{row_at}
use Rattle.pass_frames_proof.specs.pass_cells.declared.plan.KeptValue.{KeptValue}
use Rattle.pass_frames_proof.specs.pass_fetch.Fetching.{value_bytes}
use Rattle.pass_frames_proof.specs.pass_frames.Tables.{offset_at}
use Rattle.pass_frames_meaning.proofs.kinds.SaveNames.{get_there}
use Rattle.pass_frames_meaning.proofs.slotted.Facts.{instances_placed, listed_slots, slots_apart, slots_listed}
use Rattle.pass_frames_meaning.proofs.spared.Spared.{free, same_frame}
use Rattle.pass_frames_meaning.specs.Kinds.{HasRowField, KeepsKinds}
use Rattle.pass_frames_meaning.specs.Setting.{AreOfRuns, KeepsAll, Setting}
use Rattle.pass_frames_proof.proofs.allocating.Rights.{frame_room}
use Rattle.pass_frames_proof.proofs.code.Names.{has_cells}
use Rattle.pass_frames_proof.proofs.lines.Cells.{kept_type}
use Rattle.pass_frames_proof.proofs.stepping.Stored.{muted_is}
use Rattle.pass_frames_proof.specs.Framings.{IsFraming}
use Rattle.pass_frames_proof.specs.Places.{Framing, offsets, plan}
use Rattle.pass_frames_proof.specs.Related.{Anything, AreBuiltOf, AreInstances, IsKeptValue, is_coroutine}
use Rattle.pass_frames_proof.specs.Saves.{HasRoomFor, HoldsField}
use Rattle.pass_frames_proof.specs.Slotted.{AreRangesApart, HasFrameThere, IsSlotField}
use Rattle.pass_frames_proof.specs.run_framed.Framed.{frame_rights, layout_of}
use Rattle.pass_frames_proof.specs.run_laws.access.Changed.{IsFree}
use Rattle.pass_frames_proof.specs.run_laws.access.Lines.{Holds}
use Rattle.pass_frames_proof.specs.run_laws.memory.Pointers.{Home, home_of}
use Rattle.pass_frames_proof.specs.run_laws.memory.Standing.{IsAlignment, Stands}
use Rattle.pass_frames_proof.specs.run_laws.transfer.Muted.{ended_if, muted}
use Rattle.pass_frames_proof.specs.run_laws.transfer.Places.{HasRoom}
use Rattle.pass_frames_proof.specs.run_memory.Memory.{Rights, is_live, owner_rights}
use Rattle.pass_frames_proof.specs.run_memory.declared.block.Byte.{Byte}
use Rattle.pass_frames_proof.specs.run_memory.declared.block.Kind.{Kind}
use Rattle.pass_frames_proof.specs.run_memory.declared.block.Life.{Life}
use Rattle.pass_frames_proof.specs.run_memory.declared.block.MemoryBlock.{MemoryBlock}
use Rattle.pass_frames_proof.specs.run_source.declared.state.Instance.{Instance}
use Rattle.pass_frames_proof.specs.run_source.declared.state.State.{State}
use Rattle.pass_frames_proof.specs.run_step.declared.world.Slot.{Slot}

zero_meets : (a : ℕ) → IsAlignment a → (0 % a == 0) ≡ true
zero_meets a (inl e) = ap (λ (n : ℕ). 0 % n == 0) e
zero_meets a (inr (inl e)) = ap (λ (n : ℕ). 0 % n == 0) e
zero_meets a (inr (inr (inl e))) = ap (λ (n : ℕ). 0 % n == 0) e
zero_meets a (inr (inr (inr (inl e)))) = ap (λ (n : ℕ). 0 % n == 0) e
zero_meets a (inr (inr (inr (inr e)))) = ap (λ (n : ℕ). 0 % n == 0) e

-- a block of a size, for which there is room
abbrev room_block : ℕ → MemoryBlock
room_block size = record {
  size = size;
  align = size;
  kind = Kind.Slot;
  life = Life.Live;
  owned = None;
  bytes = [];
}

module _ (c : Setting) (all : KeepsAll c) (kinds : KeepsKinds c) (s t : State) (r : AreBuiltOf c.b s t)
    (k : AreOfRuns c s t r) (i : ℕ) (x y : Instance) (there : slice_get s.instances i ≡ Some x)
    (beside : slice_get t.instances i ≡ Some y) (coroutine : is_coroutine c.b x.coroutine ≡ true)
    (frame : HasFrameThere c.b s x) (near : (n : ℕ) → offset_at (c.b.framing x.coroutine).layout n < 2 ^ 64) where
  abbrev X : Framing
  X = c.b.framing x.coroutine

  abbrev R : Rights
  R = frame_rights c.b.given t.instances

  inst : AreInstances c.b r.homes t x y
  inst = r.instances i x y there beside

  -- ---- the block of the frame in the framed run

  shown : r.hides x.block ≡ false
  shown = on (r.hides x.block) refl
    where
      on : (h : Bool) → r.hides x.block ≡ h → h ≡ false
      on false e = refl
      on true e =
          let none : true ≡ false = sym (ap (λ (q : Home). q.is_seen) inst.block) ∙ r.hidden x.block e in absurd (cc)

  stands : Stands owner_rights R r.homes t.world.memory x.block frame.block
  stands = r.world.memory.each x.block frame.block
      (muted_is r.hides s.world.memory x.block
      ∙ (λ j. option_map (ended_if (shown j)) (frame.there j))) frame.live

  in_block : (home_of r.homes x.block).block ≡ y.block
  in_block = ap (λ (q : Home). q.block) inst.block

  z_there : slice_get t.world.memory y.block ≡ Some stands.block
  z_there = ap (slice_get t.world.memory) (sym in_block) ∙ stands.there

  fits : y.start + (layout_of c.b.given.layouts y.coroutine).size ≤ stands.block.size
  fits =
      let a : y.start ≡ x.start = inst.start in
      let e : (layout_of c.b.given.layouts y.coroutine).size ≡ (layout_of c.b.given.layouts x.coroutine).size =
      ap (λ (q : ℕ). (layout_of c.b.given.layouts q).size) inst.coroutine in
      let b = frame.fits in
      let d : (home_of r.homes x.block).offset ≡ 0 = ap (λ (q : Home). q.offset) inst.block in
      let f = stands.fits in
      omega (arith, a, e, b, d, f)

  alone : (j : ℕ) (z : Instance) → slice_get t.instances j ≡ Some z → z.block ≡ y.block → j ≡ i
  alone j z e same =
      let lt : j < length t.instances = get_within t.instances j z e in
      let count = r.count in
      let w = get_there s.instances j (omega (arith, lt, count)) in
      same_frame c.b s t r (listed_slots s k.slots) (slots_listed s k.slots) (slots_apart t k.other_slots)
      (instances_placed s k.slots) j i w.0 x z y w.1 there (r.instances j w.0 z w.1 e) inst same

  -- ---- a field

  module _ (order v : ℕ) (kv : KeptValue) (f : HasRowField c.b x.coroutine order v kv)
      (some : (n : ℕ) → value_bytes kv.field_ty ≡ n → 0 < n) where
    abbrev d : ℕ
    d = offset_at X.layout f.position

    abbrev size : ℕ
    size = value_bytes kv.field_ty

    opened : IsSlotField (layout_of c.b.given.layouts y.coroutine) d size size
    opened =
        subst (λ (q : ℕ). IsSlotField (layout_of c.b.given.layouts q) d size size) (sym inst.coroutine) f.opened

    room : HasRoom owner_rights R t.world.memory
        (record { block = y.block; offset = y.start + d; is_seen = true }) 0 (room_block size)
    room = frame_room c.b.given t.instances i y beside alone t.world.memory stands.block z_there stands.live stands.whole
        stands.small (stands.writable frame.writable) fits d size size opened 0 (room_block size) refl refl true

    abbrev bytes : List Byte
    bytes = take size (drop (y.start + d) room.block.bytes)

    sized : length bytes ≡ size
    sized =
        length-take-le size (drop (y.start + d) room.block.bytes)
        (let a = length-drop (y.start + d) room.block.bytes in
        let b = room.whole in
        let e = room.fits in
        omega (arith, a, b, e))

    holds : Holds R t.world.memory y.block (y.start + d) size bytes
    holds = record {
      block = room.block;
      there = room.there;
      live = room.live;
      writable = room.writable refl;
      whole = room.whole;
      within = let a = room.fits in let b = sized in omega (arith, a, b);
      holds = ap (λ (n : ℕ). take n (drop (y.start + d) room.block.bytes)) sized;
      unclosed =
          ap (λ (n : ℕ). R.is_closed y.block room.block (y.start + d) n) sized
          ∙ subst (λ (n : ℕ). R.is_closed y.block room.block n size ≡ false) (no_offset (y.start + d))
          (room.allowed.opens 0 size (omega arith) refl);
      aligned = λ a is le.
          subst (λ (n : ℕ). R.is_aligned y.block room.block n a ≡ true) (no_offset (y.start + d))
          (room.allowed.aligned 0 size a (some size refl) (omega arith) refl is
          (and_from _ _ (zero_meets a is) (le-leb a size le)));
    }
      where
        no_offset : (n : ℕ) → n + 0 ≡ n
        no_offset n = omega arith

    pub field_held : HoldsField X R t.world.memory y.block y.start kv Anything
    field_held = record {
      offset = d;
      told = f.told;
      near =
          let a = near f.position in
          let b : y.start ≡ x.start = inst.start in
          let e : x.start ≡ 0 = (instances_placed s k.slots).starts i x there in
          omega (arith, a, b, e);
      bytes = bytes;
      sized = sized;
      holds = holds;
      has = tt;
    }

  -- ---- a row

  module _ (is : IsFraming X) (order : ℕ)
      (spares : (v : ℕ) (kv : KeptValue) (f : HasRowField c.b x.coroutine order v kv) (slot : Slot) (z : MemoryBlock)
      (place : ℕ) → Contains x.slots slot → slice_get s.world.memory slot.block ≡ Some z → is_live z.life ≡ true
      → position_of X.contents.held slot.alloca ≡ Some place
      → AreRangesApart (offset_at X.layout place) z.size (offset_at X.layout f.position) (value_bytes kv.field_ty)) where
    abbrev row : List ℕ
    row = row_at (plan X).rows (Some order)

    field_of : (v : ℕ) (kv : KeptValue) (kept : IsKeptValue X v kv) → IsListed kept.number row
        → HasRowField c.b x.coroutine order v kv
    field_of v kv kept l = kinds.rows x.coroutine order v kv coroutine kept l

    some_bytes : (v : ℕ) (kv : KeptValue) → IsKeptValue X v kv → (n : ℕ) → value_bytes kv.field_ty ≡ n → 0 < n
    some_bytes v kv kept n e =
        let t = kept_type kv.field_ty (has_cells X is kept.number kv kept.there).field_ty in
        let a = t.some in
        let b = t.bytes in
        omega (arith, a, b, e)

    same_offset : (d e : ℕ) → ◌≡◌ {A = Option (Option ℕ)} (Some (Some d)) (Some (Some e)) → d ≡ e
    same_offset d e h = cc

    pub room_for : HasRoomFor X R t.world.memory y.block y.start row
    room_for = record {
      each = λ v kv kept l. field_held order v kv (field_of v kv kept l) (some_bytes v kv kept);
      apart = λ u v kv jv d e one other l m ne told_one told_other.
          let f = field_of u kv one l in
          let g = field_of v jv other m in
          let same_d : d ≡ offset_at X.layout f.position = same_offset d _ (sym told_one ∙ f.told) in
          let same_e : e ≡ offset_at X.layout g.position = same_offset e _ (sym told_other ∙ g.told) in
          inr (⊎_elim
          (λ (first : offset_at X.layout f.position + value_bytes kv.field_ty ≤ offset_at X.layout g.position).
          inr (omega (arith, first, same_d, same_e)))
          (λ (second : offset_at X.layout g.position + value_bytes jv.field_ty ≤ offset_at X.layout f.position).
          inl (omega (arith, second, same_d, same_e)))
          (kinds.apart x.coroutine order u v kv jv coroutine f g ne));
    }

    pub free_there : (v d : ℕ) (kv : KeptValue) (kept : IsKeptValue X v kv) → IsListed kept.number row
        → slice_get (offsets X) kv.field ≡ Some (Some d) → (q : ℕ) → q < value_bytes kv.field_ty
        → IsFree owner_rights r.homes (muted r.hides s.world.memory) y.block (y.start + d + q)
    free_there v d kv kept l told q low =
        let f = field_of v kv kept l in
        subst (λ (n : ℕ). IsFree owner_rights r.homes (muted r.hides s.world.memory) y.block (y.start + n + q))
        (sym (same_offset d (offset_at X.layout f.position) (sym told ∙ f.told)))
        (record {
          each = free c.b s t r (listed_slots s k.slots) (slots_listed s k.slots) (slots_apart t k.other_slots)
              (instances_placed s k.slots) i x y there inst frame (offset_at X.layout f.position)
              (value_bytes kv.field_ty) f.opened.inside (spares v kv f) q low;
        })
