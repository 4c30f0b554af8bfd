-- An alloca of a ramp behind begin whose slot lies in the frame: its block stands there from now on.
use Rattle.std.proofs.Common.{◌≡◌, ◌≢◌, ◌⊎◌, ◌+◌, ◌<◌, ◌≤◌, ◌∷◌, ◌++◌, ◌∙◌, [], if◌then◌else◌, Bool, List, Some, ap, arith, false, inl, inr, length, refl, subst, sym, true, ℕ, ⊎_elim}
use Rattle.std.proofs.lemmas.Bool.{cases_eq}
use Rattle.std.specs.List.{Contains}
use Rattle.std.specs.Prelude.{slice_get, slice_set}
use Rattle.pass_frames_code.specs.flow_solver.Paths.{IsListed}
use Rattle.pass_frames_code.specs.ir_model.Layout.{size_of}
use Rattle.pass_frames_code.specs.ir_model.Ty.{Ty}
use Rattle.pass_frames_code.specs.ir_model.declared.instr.Instr.{Instr}
use Rattle.pass_frames_code.specs.pass_copies.declared.slot.EarlySlot.{EarlySlot}
use Rattle.pass_frames_code.specs.pass_frames.Tables.{offset_at}
use Rattle.pass_frames_steps.proofs.allocating.Both.{new_block}
use Rattle.pass_frames_steps.proofs.allocating.Grown.{first_or_more, home_new, in_all, in_below, mates_more, more_length}
use Rattle.pass_frames_steps.proofs.allocating.Made.{instance_made}
use Rattle.pass_frames_steps.proofs.allocating.Ramp.{first_not_entering, ramp_related}
use Rattle.pass_frames_steps.proofs.allocating.Rights.{frames_compare}
use Rattle.pass_frames_steps.proofs.allocating.Room.{apart_from, i, room_there, seen_shown, y, y_there}
use Rattle.pass_frames_steps.proofs.allocating.Steps.{ends_first, frame_step, late_block, set_here, set_length, set_other}
use Rattle.pass_frames_steps.proofs.allocating.Whole.{old_slot}
use Rattle.pass_frames_code.proofs.code.Left.{Far, far_written}
use Rattle.pass_frames_steps.proofs.marking.Still.{none_followed}
use Rattle.pass_frames_code.proofs.stepping.Names.{slots_new}
use Rattle.pass_frames_code.proofs.stepping.Rest.{got, seen_known, stood_apart}
use Rattle.pass_frames_code.specs.Allocating.{IsAtRampAlloca, IsFrameBehind}
use Rattle.pass_frames_code.specs.Followed.{IsFollowed}
use Rattle.pass_frames_code.specs.Framings.{IsFraming}
use Rattle.pass_frames_code.specs.Places.{Framing, copies, edged, instrs_at, offsets, written}
use Rattle.pass_frames_code.specs.Related.{AreBuiltOf, AreInstances, AreMates, Building, IsCellName, IsFreeOf, IsOwnSlot, IsPlacedSlot, is_slot}
use Rattle.pass_frames_code.specs.Slotted.{HasListedSlots, HasSlotsApart, HasSlotsThere}
use Rattle.pass_frames_code.specs.Stepping.{AreGiven}
use Rattle.pass_frames_code.specs.pass_proofs.addresses.rules.Addresses.{lies_in_frame}
use Rattle.pass_frames_code.specs.pass_renewed_proof.Renewed.{RenewedGiven}
use Rattle.pass_frames_code.specs.run_framed.Framed.{frame_rights, layout_of}
use Rattle.pass_frames_code.proofs.run_laws.memory.Written.{same_some}
use Rattle.pass_frames_code.proofs.run_laws.transfer.Grown.{new_stands}
use Rattle.pass_frames_code.proofs.run_laws.transfer.Muted.{muted_get, muted_length}
use Rattle.pass_frames_code.proofs.run_laws.transfer.Places.{blank_room, showing_it, showing_others}
use Rattle.pass_frames_code.specs.run_laws.embedded.Making.{whole_home}
use Rattle.pass_frames_code.specs.run_laws.memory.Pointers.{Home, IsValue, home_of}
use Rattle.pass_frames_code.specs.run_laws.memory.Standing.{HasBounds, Stands}
use Rattle.pass_frames_code.specs.run_laws.transfer.Muted.{ended_if, muted}
use Rattle.pass_frames_code.specs.run_laws.transfer.Places.{AreStanding, HasRoom, IsApartFrom, IsNewIn, showing}
use Rattle.pass_frames_code.specs.run_memory.Memory.{Rights, is_live, owner_rights}
use Rattle.pass_frames_code.specs.run_memory.declared.block.Kind.{Kind}
use Rattle.pass_frames_code.specs.run_memory.declared.block.Life.{Life}
use Rattle.pass_frames_code.specs.run_memory.declared.block.MemoryBlock.{MemoryBlock}
use Rattle.pass_frames_code.specs.run_source.Source.{is_over}
use Rattle.pass_frames_code.specs.run_source.declared.state.Activation.{Activation}
use Rattle.pass_frames_code.specs.run_source.declared.state.Instance.{Instance}
use Rattle.pass_frames_code.specs.run_source.declared.state.State.{State}
use Rattle.pass_frames_code.specs.run_step.Step.{has_markers}
use Rattle.pass_frames_code.specs.run_step.Values.{Env, pointer_to, value_in, with_value}
use Rattle.pass_frames_code.specs.run_step.declared.world.Slot.{Slot}

module _ (b : Building) (g : RenewedGiven) (given : AreGiven b g) (s t : State) (r : AreBuiltOf b s t) (name : ℕ)
    (ty : Ty) (align : ℕ) (h : IsAtRampAlloca b g s name ty align) (mine : HasSlotsThere s)
    (listed : HasListedSlots s) (others : HasSlotsApart t) (k : IsFrameBehind b g s name ty align) where
  abbrev n : ℕ
  n = length s.world.memory

  abbrev X : Framing
  X = b.framing s.top.func

  abbrev R : Rights
  R = frame_rights b.given t.instances

  abbrev ends : Bool
  ends = ends_first (g.flags s.top.func name) (has_markers (edged X) name)

  abbrev size : ℕ
  size = size_of g.given.code ty

  abbrev made : MemoryBlock
  made = new_block ends size align Kind.Slot

  abbrev x : MemoryBlock
  x = late_block (is_over k.instance) made

  abbrev own : Instance
  own = k.instance

  abbrev d : ℕ
  d = offset_at (b.framing own.coroutine).layout k.position

  abbrev beside : Instance
  beside = y b g given s t r k.number own k.alone

  beside_is : AreInstances b r.homes t own beside
  beside_is = i b g given s t r k.number own k.alone

  beside_there : slice_get t.instances k.number ≡ Some beside
  beside_there = y_there b g given s t r k.number own k.alone

  abbrev q : Home
  q = record { block = beside.block; offset = beside.start + d; is_seen = true }

  abbrev shows : ℕ → Bool
  shows = showing r.hides n

  alike : (c : ℕ) → c ≢ n → shows c ≡ r.hides c
  alike c ne = showing_others r.hides n c ne

  not_hidden : shows n ≡ false
  not_hidden = showing_it r.hides n

  frame_seen : (home_of r.homes own.block).is_seen ≡ true
  frame_seen = ap (λ (e : Home). e.is_seen) beside_is.block

  frame_known : own.block < n
  frame_known =
      let low : own.block < length r.homes = seen_known r.homes own.block frame_seen in
      let known : length r.homes ≡ n = r.known in
      omega (arith, low, known)

  -- what is free isn't in the frame
  apart_free : (block : ℕ) → IsFreeOf r.homes r.hides s.world.memory block → beside.block ≢ block
  apart_free block free same =
      stood_apart b s t r block own.block free frame_known frame_seen
      (ap (λ (e : Home). e.block) beside_is.block ∙ same)

  abbrev Reason : Type 0
  Reason = (q.is_seen ≡ true) ⊎ (is_live (ended_if (shows n) x).life ≡ true)

  spare : (c : Activation) → IsListed c t.below → (slot : Slot) → Contains c.slots slot
      → IsFreeOf r.homes r.hides s.world.memory slot.block → Reason → q.block ≢ slot.block
  spare c l slot own free how = apart_free slot.block free

  spare_top : (slot : Slot) → Contains t.top.slots slot → (slot.alloca ≡ name → ⊥)
      → IsFreeOf r.homes r.hides s.world.memory slot.block → Reason → q.block ≢ slot.block
  spare_top slot own ne free how = apart_free slot.block free

  named : name < length (edged X).names
  named = (h.names s.top.at name align ty h.there).0

  is : IsFraming X
  is = given.framings s.top.func h.coroutine

  owner_cell : (v : ℕ) → IsCellName X v → v ≡ name → ⊥
  owner_cell v cell e = let le = cell.new in let lt = named in omega (arith, le, lt, e)

  owner_ahead : (at u align' : ℕ) (ty' : Ty) → slice_get (instrs_at X 0) at ≡ Some (Instr.Alloca u ty' align')
      → s.top.at + 1 ≤ at → lies_in_frame (offsets X) u ≡ false → u ≡ name → ⊥
  owner_ahead at u align' ty' there le outside e =
      let same : at ≡ s.top.at = (h.names at u align' ty' there).1 e in omega (arith, le, same)

  owner_early : (e : EarlySlot) (at align' : ℕ) (ty' : Ty) → Contains (copies X).slots e
      → slice_get (instrs_at X 0) at ≡ Some (Instr.Alloca e.slot ty' align') → s.top.at + 1 ≤ at
      → e.temporary ≡ name → ⊥
  owner_early e at align' ty' listed there le same =
      let a : Far X is ≤ length (written X).names = far_written X is in
      let high : length (written X).names ≤ e.temporary = (slots_new X e listed).0 in
      let lt = named in
      omega (arith, high, a, lt, same)

  abbrev homes : List Home
  homes = r.homes ++ q ∷ []

  home_is : home_of homes n ≡ q
  home_is = home_new r.homes r.hides shows s.world.memory q x r.known alike

  -- ---- the block

  sized : (c : Bool) → (late_block c made).size ≡ size
  sized true = refl
  sized false = refl

  slot_kind : (c : Bool) → is_slot (late_block c made) ≡ true
  slot_kind true = refl
  slot_kind false = refl

  seen_bounds : (z : MemoryBlock) → Some x ≡ Some z → HasBounds t.world.memory q z.size
  seen_bounds z e =
      let same : size ≡ z.size =
      sym (sized (is_over k.instance)) ∙ ap (λ (u : MemoryBlock). u.size) (same_some x z e) in
      let f = got (muted r.hides s.world.memory) own.block
      (let lt = frame_known in let long : length (muted r.hides s.world.memory) ≡ n =
      muted_length r.hides s.world.memory in omega (arith, lt, long)) in
      let there : slice_get s.world.memory own.block ≡ Some f.0 =
      sym (muted_get r.hides s.world.memory own.block
      (seen_shown b g given s t r k.number own k.alone own.block frame_seen)) ∙ f.1 in
      let bounds = r.world.bounds.each own.block f.0 frame_seen f.1 in
      record {
        block = bounds.block;
        there = ap (slice_get t.world.memory) (sym (ap (λ (m : Home). m.block) beside_is.block)) ∙ bounds.there;
        fits = enough bounds.block.size f.0.size (ap (λ (m : Home). m.offset) beside_is.block) beside_is.start
            bounds.fits (k.fits f.0 there) k.field.inside same;
        small = bounds.small;
      }
    where
      enough : (most whole : ℕ) → (home_of r.homes own.block).offset ≡ 0 → beside.start ≡ own.start
          → (home_of r.homes own.block).offset + whole ≤ most
          → own.start + (layout_of b.given.layouts own.coroutine).size ≤ whole
          → d + size ≤ (layout_of b.given.layouts own.coroutine).size → size ≡ z.size
          → (beside.start + d) + z.size ≤ most
      enough most whole a c p f e m = omega (arith, a, c, p, f, e, m)

  -- one that lives has no markers, and its instance isn't over
  record IsLiving (c : Bool) : Type 0 where
    alive : c ≡ false
    unmarked : has_markers (edged X) name ≡ false
    same : late_block c made ≡ made

  living : (c : Bool) → is_live (late_block c made).life ≡ true → IsLiving c
  living true live = absurd (cc)
  living false live = record {
    alive = refl;
    unmarked = by (ends_first (g.flags s.top.func name) (has_markers (edged X) name)) refl live;
    same = refl;
  }
    where
      by : (e : Bool) → ends_first (g.flags s.top.func name) (has_markers (edged X) name) ≡ e
          → is_live (if e then Life.Ended else Life.Live) ≡ true → has_markers (edged X) name ≡ false
      by true e live = absurd (cc)
      by false e live =
          ap (λ (c : Bool). if c then false else has_markers (edged X) name) (sym k.off) ∙ e

  new_in : IsNewIn owner_rights R r.homes (muted r.hides s.world.memory) t.world.memory q x
  new_in = record {
    known = r.known ∙ sym (muted_length r.hides s.world.memory);
    stands = λ live.
        let z = living (is_over k.instance) live in
        subst (λ (m : ℕ). Stands owner_rights R homes t.world.memory m x) (sym (muted_length r.hides s.world.memory))
        (subst (λ (v : MemoryBlock). Stands owner_rights R homes t.world.memory n v) (sym z.same)
        (blank_room owner_rights R homes t.world.memory n made
        (let e = more_length r.homes q in let known : length r.homes ≡ n = r.known in omega (arith, e, known)) refl
        (subst (λ (m : Home). HasRoom owner_rights R t.world.memory m n made) (sym home_is)
        (room_there b g given s t r k.number own k.alone (k.frame z.alive) d size align k.field n made refl refl))));
    apart = λ live.
        let z = living (is_over k.instance) live in
        subst (λ (m : ℕ). IsApartFrom owner_rights r.homes (muted r.hides s.world.memory) q m x)
        (sym (muted_length r.hides s.world.memory))
        (apart_from b g given s t r k.number own k.alone (k.frame z.alive) d size align k.field listed others n
        (λ other contained ne u there live' p p_is. k.apart z.unmarked other contained u there live' p p_is) x
        (sized (is_over k.instance)));
    seen = λ seen. record { nulls = λ o e. frames_compare b.given t.instances q.block _ _; bounds = seen_bounds };
  }

  stands : AreStanding owner_rights R homes (muted r.hides s.world.memory ++ ended_if (shows n) x ∷ []) t.world.memory
  stands =
      subst (λ (c : Bool). AreStanding owner_rights R homes (muted r.hides s.world.memory ++ ended_if c x ∷ [])
      t.world.memory) (sym not_hidden)
      (new_stands owner_rights R r.homes (muted r.hides s.world.memory) t.world.memory q x new_in
      (record { memory = r.world.memory; nulls = r.world.nulls; bounds = r.world.bounds }))

  no_whole : (m : ℕ) → q ≡ whole_home m → ⊥
  no_whole m e =
      let zero : beside.start + d ≡ 0 = ap (λ (z : Home). z.offset) e in
      let far = k.field.behind in
      omega (arith, zero, far)

  mates : AreMates homes (s.world.memory ++ x ∷ []) t.world.memory
  mates =
      mates_more r.homes r.hides shows s.world.memory q x r.known alike t.world.memory t.world.memory (λ m z e. e)
      (λ no_slot. let no : true ≡ false = sym (slot_kind (is_over k.instance)) ∙ no_slot in absurd (cc))
      (λ m e. absurd (no_whole m e)) (λ m c e lt home. no_whole m e) r.mates

  unseen : shows n ≡ true → q.is_seen ≡ false
  unseen e = let no : true ≡ false = sym e ∙ not_hidden in absurd (cc)

  address : lies_in_frame (offsets X) name ≡ false → IsValue homes (pointer_to n) (value_in t.top.values name)
  address outside = let no : true ≡ false = sym k.inside ∙ outside in absurd (cc)

  abbrev slot : Slot
  slot = record { alloca = name; block = n }

  abbrev env : Env
  env = with_value s.top.values name (pointer_to n)

  slots : (z : Slot) → Contains s.top.slots z
      → IsOwnSlot b homes shows (record s.top { at = s.top.at + 1; values = env }) t.top z
  slots z c =
      old_slot b s t r q x shows alike (record s.top { at = s.top.at + 1; values = env }) refl z
      (mine.each z (in_all s s.top (inl refl) z c)) (r.top.slots z c)

  -- ---- instances

  abbrev grown : Instance
  grown = record own { slots = slot ∷ own.slots }

  kept : (xi yi : Instance) → AreInstances b r.homes t xi yi → AreInstances b homes t xi yi
  kept xi yi e =
      instance_made b s t r given.framings q x shows alike
      (λ a l z c. mine.each z (in_below s a l z c)) t.world (λ m z p. p) (λ e o most bytes p. p) spare t.top xi yi e

  grown_beside : AreInstances b homes t grown beside
  grown_beside =
      let z = kept own beside beside_is in
      record {
        coroutine = z.coroutine;
        is_coroutine = z.is_coroutine;
        block = z.block;
        start = z.start;
        status = z.status;
        last_save = z.last_save;
        released = z.released;
        freed = z.freed;
        slots = λ e c. by e (first_or_more own.slots slot e c);
        no_slots = z.no_slots;
      }
    where
      by : (e : Slot) → (slot ≡ e) ⊎ Contains own.slots e
          → IsPlacedSlot (b.framing own.coroutine) homes beside e
      by e (inl same) =
          subst (IsPlacedSlot (b.framing own.coroutine) homes beside) same
          (record { position = k.position; position_is = k.held; home = home_is })
      by e (inr c) = (kept own beside beside_is).slots e c

  instances : (j : ℕ) (xi yi : Instance) → slice_get (slice_set s.instances k.number grown) j ≡ Some xi
      → slice_get t.instances j ≡ Some yi → AreInstances b homes t xi yi
  instances j xi yi e e' =
      ⊎_elim (λ same. at_it same) (λ ne. kept xi yi
      (r.instances j xi yi (sym (set_other s.instances k.number j grown ne) ∙ e) e')) (cases_eq j k.number)
    where
      at_it : j ≡ k.number → AreInstances b homes t xi yi
      at_it same =
          let mine_is : grown ≡ xi =
          same_some grown xi (sym (set_here s.instances k.number grown own k.alone.there)
          ∙ ap (slice_get (slice_set s.instances k.number grown)) (sym same) ∙ e) in
          let theirs_is : beside ≡ yi =
          same_some beside yi (sym beside_there ∙ ap (slice_get t.instances) (sym same) ∙ e') in
          subst (λ (p : Instance × Instance). AreInstances b homes t p.0 p.1) (λ m. (mine_is m, theirs_is m))
          grown_beside

  framed_related : AreBuiltOf b (record s {
    world = record s.world { memory = s.world.memory ++ x ∷ [] };
    instances = slice_set s.instances k.number grown;
    top = record s.top { at = s.top.at + 1; values = env };
  }) t
  framed_related =
      ramp_related b g given s t r name ty align h mine q x shows alike spare name spare_top owner_cell owner_ahead
      owner_early stands mates unseen address (slice_set s.instances k.number grown) s.top.slots
      (r.count ∙ sym (set_length s.instances k.number grown)) instances slots

  pub framed_followed : IsFollowed b g s t
  framed_followed =
      none_followed b g given s t h.coroutine (Instr.Alloca name ty align)
      (subst (λ (m : ℕ). slice_get (instrs_at X m) s.top.at ≡ Some (Instr.Alloca name ty align)) (sym h.entry_block)
      h.there)
      (record s {
        world = record s.world { memory = s.world.memory ++ x ∷ [] };
        instances = slice_set s.instances k.number grown;
        top = record s.top { at = s.top.at + 1; values = env };
      }) (frame_step b g given s name ty align h (first_not_entering s.top.mode h.first) k) refl refl refl
      framed_related
