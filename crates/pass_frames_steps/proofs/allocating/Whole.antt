-- An alloca of a ramp whose slot lies in no frame: its block stands in the one that the call has made.
use Rattle.std.proofs.Common.{◌≡◌, ◌≢◌, ◌⊎◌, ◌+◌, ◌<◌, ◌≤◌, ◌&&◌, ◌∷◌, ◌++◌, ◌∙◌, [], if◌then◌else◌, Bool, List, None, Some, ap, arith, false, inl, inr, length, map, refl, subst, sym, true, ℕ}
use Rattle.std.specs.List.{Contains}
use Rattle.std.specs.Prelude.{slice_get}
use Rattle.pass_frames_code.specs.flow_solver.Paths.{IsListed}
use Rattle.pass_frames_code.proofs.ir_laws.facts.Lists.{get_within}
use Rattle.pass_frames_code.specs.ir_model.Layout.{size_of}
use Rattle.pass_frames_code.specs.ir_model.Ty.{Ty}
use Rattle.pass_frames_code.specs.ir_model.declared.instr.Instr.{Instr}
use Rattle.pass_frames_code.specs.pass_copies.declared.slot.EarlySlot.{EarlySlot}
use Rattle.pass_frames_steps.proofs.allocating.Both.{each_index, new_block}
use Rattle.pass_frames_steps.proofs.allocating.Grown.{first_or_more, home_new, home_old, in_all, in_below, in_these, listed_in, mates_more, more_length}
use Rattle.pass_frames_steps.proofs.allocating.Made.{instance_made}
use Rattle.pass_frames_steps.proofs.allocating.Ramp.{first_not_entering, ramp_related}
use Rattle.pass_frames_steps.proofs.allocating.Rights.{frames_compare, outside_rights}
use Rattle.pass_frames_steps.proofs.allocating.Steps.{early_step, ends_first, own_step}
use Rattle.pass_frames_code.proofs.code.Left.{Far, far_written}
use Rattle.pass_frames_code.proofs.lines.Cells.{other_block}
use Rattle.pass_frames_steps.proofs.marking.Still.{none_followed}
use Rattle.pass_frames_code.proofs.stepping.May.{own_blocks}
use Rattle.pass_frames_code.proofs.stepping.Names.{slots_new}
use Rattle.pass_frames_code.proofs.stepping.Rest.{below_apart, got, seen_known, slot_block, stood_apart}
use Rattle.pass_frames_code.specs.Allocating.{IsAtRampAlloca, IsOwnBehind, IsWholeAlloca}
use Rattle.pass_frames_code.specs.Followed.{IsFollowed}
use Rattle.pass_frames_code.specs.Framings.{IsFraming}
use Rattle.pass_frames_code.specs.Places.{Framing, copies, edged, instrs_at, offsets, written}
use Rattle.pass_frames_code.specs.Related.{AreBuiltOf, AreMates, Building, IsAhead, IsCellName, IsFreeOf, IsOwnSlot, IsSlotBy, is_coroutine, slots_below}
use Rattle.pass_frames_code.specs.Slotted.{HasSlotsThere}
use Rattle.pass_frames_code.specs.Stepping.{AreGiven}
use Rattle.pass_frames_code.specs.pass_proofs.addresses.rules.Addresses.{lies_in_frame}
use Rattle.pass_frames_code.specs.pass_renewed_proof.Renewed.{RenewedGiven, renewed_step}
use Rattle.pass_frames_code.specs.run_framed.Framed.{frame_rights}
use Rattle.pass_frames_code.proofs.run_laws.memory.Written.{same_some}
use Rattle.pass_frames_code.proofs.run_laws.transfer.Grown.{new_stands}
use Rattle.pass_frames_code.proofs.run_laws.transfer.Muted.{muted_length}
use Rattle.pass_frames_code.proofs.run_laws.transfer.Places.{blank_room, showing_it, showing_others}
use Rattle.pass_frames_code.specs.run_laws.changed.Changed.{Each}
use Rattle.pass_frames_code.specs.run_laws.embedded.Making.{whole_home}
use Rattle.pass_frames_code.specs.run_laws.memory.Pointers.{Home, IsValue, home_of}
use Rattle.pass_frames_code.specs.run_laws.memory.Standing.{HasBounds, Stands}
use Rattle.pass_frames_code.specs.run_laws.transfer.Muted.{ended_if, muted}
use Rattle.pass_frames_code.specs.run_laws.transfer.Places.{AreStanding, HasRoom, IsNewIn, showing}
use Rattle.pass_frames_code.specs.run_memory.Memory.{Rights, is_live, owner_rights}
use Rattle.pass_frames_code.specs.run_memory.Pointers.{moved, offset_of}
use Rattle.pass_frames_code.specs.run_memory.declared.block.Kind.{Kind}
use Rattle.pass_frames_code.specs.run_memory.declared.block.Life.{Life}
use Rattle.pass_frames_code.specs.run_memory.declared.block.MemoryBlock.{MemoryBlock}
use Rattle.pass_frames_code.specs.run_memory.declared.pointer.Pointer.{Pointer}
use Rattle.pass_frames_code.specs.run_memory.declared.pointer.Value.{Value}
use Rattle.pass_frames_code.specs.run_source.declared.state.Activation.{Activation}
use Rattle.pass_frames_code.specs.run_source.declared.state.Instance.{Instance}
use Rattle.pass_frames_code.specs.run_source.declared.state.State.{State}
use Rattle.pass_frames_code.specs.run_step.Step.{has_markers}
use Rattle.pass_frames_code.specs.run_step.Values.{Env, pointer_to, value_in, with_value}
use Rattle.pass_frames_code.specs.run_step.declared.world.Slot.{Slot}

-- slots that there were stay where they were
pub old_slot : (b : Building) (s t : State) (r : AreBuiltOf b s t) (q : Home) (x : MemoryBlock) (shows : ℕ → Bool)
    → ((c : ℕ) → c ≢ length s.world.memory → shows c ≡ r.hides c) → (a : Activation) → a.func ≡ s.top.func
    → (z : Slot) → z.block < length s.world.memory → IsOwnSlot b r.homes r.hides s.top t.top z
    → IsOwnSlot b (r.homes ++ q ∷ []) shows a t.top z
old_slot b s t r q x shows alike a func z lt own =
    subst (λ (k : ℕ). IsSlotBy b (r.homes ++ q ∷ []) shows (record a { func = k }) t.top z
    (is_coroutine b k && lies_in_frame (offsets (b.framing k)) z.alloca)) (sym func)
    (by (is_coroutine b s.top.func && lies_in_frame (offsets (b.framing s.top.func)) z.alloca) own)
  where
    ne : z.block ≢ length s.world.memory
    ne e = omega (arith, lt, e)

    same_home : home_of (r.homes ++ q ∷ []) z.block ≡ home_of r.homes z.block
    same_home = home_old r.homes r.hides shows s.world.memory q x r.known alike z.block ne

    by : (f : Bool) → IsSlotBy b r.homes r.hides s.top t.top z f
        → IsSlotBy b (r.homes ++ q ∷ []) shows (record a { func = s.top.func }) t.top z f
    by false p = record { block = p.block; home = same_home ∙ p.home; own = p.own }
    by true (inl p) = inl (alike z.block ne ∙ p.0, p.1)
    by true (inr p) = inr (p.0, p.1, p.2, p.3, p.4, same_home ∙ p.5, alike z.block ne ∙ p.6)

-- a block of an activation on top lies in no slot below
pub below_other : (b : Building) (s t : State) (r : AreBuiltOf b s t) (p : Slot) → Contains t.top.slots p
    → (c : Activation) → IsListed c t.below → (slot : Slot) → Contains c.slots slot → p.block ≢ slot.block
below_other b s t r p own c l slot own' e =
    below_apart b s t r p own
    (subst (λ (k : ℕ). IsListed k (map (λ (z : Slot). z.block) (slots_below t.below))) (sym e)
    (slot_block (slots_below t.below) slot (listed_in (slots_below t.below) slot (in_these t.below c l slot own'))))

module _ (b : Building) (g : RenewedGiven) (given : AreGiven b g) (s t : State) (r : AreBuiltOf b s t) (name : ℕ)
    (ty : Ty) (align : ℕ) (h : IsAtRampAlloca b g s name ty align) (mine : HasSlotsThere s)
    (k : IsWholeAlloca b g s name ty) where
  abbrev pub n : ℕ
  n = length s.world.memory

  abbrev pub X : Framing
  X = b.framing s.top.func

  abbrev pub R : Rights
  R = frame_rights b.given t.instances

  abbrev pub ends : Bool
  ends = ends_first (g.flags s.top.func name) (has_markers (edged X) name)

  abbrev pub size : ℕ
  size = size_of g.given.code ty

  abbrev pub x : MemoryBlock
  x = new_block ends size align Kind.Slot

  pub one : IsAhead X r.homes r.hides s.world.memory t.world.memory t.top name ty align
  one = (r.ahead.0 h.coroutine h.first h.entry_block).slots s.top.at name align ty h.there (omega arith) k.outside

  abbrev pub q : Home
  q = whole_home one.block

  abbrev pub shows : ℕ → Bool
  shows = showing r.hides n

  alike : (c : ℕ) → c ≢ n → shows c ≡ r.hides c
  alike c ne = showing_others r.hides n c ne

  not_hidden : shows n ≡ false
  not_hidden = showing_it r.hides n

  own : Contains t.top.slots (record { alloca = name; block = one.block })
  own = one.own

  abbrev Reason : Type 0
  Reason = (q.is_seen ≡ true) ⊎ (is_live (ended_if (shows n) x).life ≡ true)

  spare : (c : Activation) → IsListed c t.below → (slot : Slot) → Contains c.slots slot
      → IsFreeOf r.homes r.hides s.world.memory slot.block → Reason → q.block ≢ slot.block
  spare c l slot own' free how =
      below_other b s t r (record { alloca = name; block = one.block }) own c l slot own'

  spare_top : (slot : Slot) → Contains t.top.slots slot → (slot.alloca ≡ name → ⊥)
      → IsFreeOf r.homes r.hides s.world.memory slot.block → Reason → q.block ≢ slot.block
  spare_top slot own' ne free how =
      other_block t.top name slot.alloca one.block slot.block (own_blocks t r.once) own own' (λ e. ne (sym e))

  named : name < length (edged X).names
  named = (h.names s.top.at name align ty h.there).0

  is : IsFraming X
  is = given.framings s.top.func h.coroutine

  written_high : length (edged X).names ≤ length (written X).names
  written_high = let a : Far X is ≤ length (written X).names = far_written X is in omega (arith, a)

  owner_cell : (v : ℕ) → IsCellName X v → v ≡ name → ⊥
  owner_cell v cell e = let le = cell.new in let lt = named in omega (arith, le, lt, e)

  owner_ahead : (at u align' : ℕ) (ty' : Ty) → slice_get (instrs_at X 0) at ≡ Some (Instr.Alloca u ty' align')
      → s.top.at + 1 ≤ at → lies_in_frame (offsets X) u ≡ false → u ≡ name → ⊥
  owner_ahead at u align' ty' there le outside e =
      let same : at ≡ s.top.at = (h.names at u align' ty' there).1 e in omega (arith, le, same)

  owner_early : (e : EarlySlot) (at align' : ℕ) (ty' : Ty) → Contains (copies X).slots e
      → slice_get (instrs_at X 0) at ≡ Some (Instr.Alloca e.slot ty' align') → s.top.at + 1 ≤ at
      → e.temporary ≡ name → ⊥
  owner_early e at align' ty' listed there le same =
      let high : length (written X).names ≤ e.temporary = (slots_new X e listed).0 in
      let low = written_high in
      let lt = named in
      omega (arith, high, low, lt, same)

  -- ---- the block

  abbrev mate : MemoryBlock
  mate = record x { bytes = one.bytes }

  mate_there : slice_get t.world.memory one.block ≡ Some mate
  mate_there =
      one.there
      ∙ (λ j. Some (record {
        size = k.sized j;
        align = align;
        kind = Kind.Slot;
        life = if k.marks j then Life.Ended else Life.Live;
        owned = None;
        bytes = one.bytes;
      }))

  full : length one.bytes ≡ size
  full = one.sized ∙ k.sized

  apart_frames : Each (λ (y : Instance). y.block ≢ one.block) t.instances
  apart_frames = each_index (λ (y : Instance). y.block ≢ one.block) t.instances apart
    where
      apart : (i : ℕ) (y : Instance) → slice_get t.instances i ≡ Some y → y.block ≢ one.block
      apart i y e same =
          let lt : i < length t.instances = get_within t.instances i y e in
          let many : length t.instances ≡ length s.instances = r.count in
          let xi = got s.instances i (omega (arith, lt, many)) in
          let home = (r.instances i xi.0 y xi.1 e).block in
          let seen : (home_of r.homes xi.0.block).is_seen ≡ true = ap (λ (d : Home). d.is_seen) home in
          let low : xi.0.block < length r.homes = seen_known r.homes xi.0.block seen in
          let known : length r.homes ≡ n = r.known in
          stood_apart b s t r one.block xi.0.block one.free (omega (arith, low, known)) seen
          (ap (λ (d : Home). d.block) home ∙ same)

  room : is_live x.life ≡ true → HasRoom owner_rights R t.world.memory q n x
  room live = record {
    block = mate;
    there = mate_there;
    live = live;
    whole = full;
    fits = omega arith;
    small = h.small;
    writable = λ e. e;
    allowed = outside_rights b.given t.instances one.block apart_frames n x mate true refl;
  }

  seen_bounds : (z : MemoryBlock) → Some x ≡ Some z → HasBounds t.world.memory q z.size
  seen_bounds z e =
      let same : size ≡ z.size = ap (λ (u : MemoryBlock). u.size) (same_some x z e) in
      record {
        block = mate;
        there = mate_there;
        fits = omega (arith, same);
        small = h.small;
      }

  abbrev pub homes : List Home
  homes = r.homes ++ q ∷ []

  home_is : home_of homes n ≡ q
  home_is = home_new r.homes r.hides shows s.world.memory q x r.known alike

  new_in : IsNewIn owner_rights R r.homes (muted r.hides s.world.memory) t.world.memory q x
  new_in = record {
    known = r.known ∙ sym (muted_length r.hides s.world.memory);
    stands = λ live.
        subst (λ (m : ℕ). Stands owner_rights R homes t.world.memory m x) (sym (muted_length r.hides s.world.memory))
        (blank_room owner_rights R homes t.world.memory n x
        (let e = more_length r.homes q in let known : length r.homes ≡ n = r.known in omega (arith, e, known)) refl
        (subst (λ (d : Home). HasRoom owner_rights R t.world.memory d n x) (sym home_is) (room live)));
    apart = λ live c z ne at live' same. absurd (one.free c z at (inr live') same);
    seen = λ seen. record { nulls = λ o e. frames_compare b.given t.instances q.block _ _; bounds = seen_bounds };
  }

  stands : AreStanding owner_rights R homes (muted r.hides s.world.memory ++ ended_if (shows n) x ∷ []) t.world.memory
  stands =
      subst (λ (c : Bool). AreStanding owner_rights R homes (muted r.hides s.world.memory ++ ended_if c x ∷ [])
      t.world.memory) (sym not_hidden)
      (new_stands owner_rights R r.homes (muted r.hides s.world.memory) t.world.memory q x new_in
      (record { memory = r.world.memory; nulls = r.world.nulls; bounds = r.world.bounds }))

  mates : AreMates homes (s.world.memory ++ x ∷ []) t.world.memory
  mates =
      mates_more r.homes r.hides shows s.world.memory q x r.known alike t.world.memory t.world.memory (λ d z e. e)
      (λ no_slot. (one.block, refl))
      (λ d e. (
        one.bytes,
        subst (λ (m : ℕ). slice_get t.world.memory m ≡ Some mate) (ap (λ (d : Home). d.block) e) mate_there,
      ))
      (λ d m e lt home.
      stood_apart b s t r one.block m one.free lt (ap (λ (d : Home). d.is_seen) home)
      (ap (λ (d : Home). d.block) home ∙ sym (ap (λ (d : Home). d.block) e))) r.mates

  unseen : shows n ≡ true → q.is_seen ≡ false
  unseen e = let no : true ≡ false = sym e ∙ not_hidden in absurd (cc)

  address : lies_in_frame (offsets X) name ≡ false → IsValue homes (pointer_to n) (value_in t.top.values name)
  address outside = (
    ap (λ (d : Home). d.is_seen) home_is,
    one.address ∙ ap (λ (d : Home). Value.Ptr (Pointer.At d.block (moved (offset_of 0) d.offset))) (sym home_is),
  )

  abbrev slot : Slot
  slot = record { alloca = name; block = n }

  abbrev pub env : Env
  env = with_value s.top.values name (pointer_to n)

  slots : (z : Slot) → Contains (slot ∷ s.top.slots) z
      → IsOwnSlot b homes shows (record s.top { at = s.top.at + 1; values = env; slots = slot ∷ s.top.slots }) t.top z
  slots z c = by (first_or_more s.top.slots slot z c)
    where
      mine_there : (z : Slot) → Contains s.top.slots z → z.block < n
      mine_there z c = mine.each z (in_all s s.top (inl refl) z c)

      by : (slot ≡ z) ⊎ Contains s.top.slots z
          → IsOwnSlot b homes shows (record s.top { at = s.top.at + 1; values = env; slots = slot ∷ s.top.slots })
          t.top z
      by (inl e) =
          subst
          (IsOwnSlot b homes shows (record s.top { at = s.top.at + 1; values = env; slots = slot ∷ s.top.slots }) t.top)
          e
          (subst
          (IsSlotBy b homes shows (record s.top { at = s.top.at + 1; values = env; slots = slot ∷ s.top.slots }) t.top
          slot) (sym (λ j. h.coroutine j && k.outside j))
          (record { block = one.block; home = home_is; own = own }))
      by (inr c) =
          old_slot b s t r q x shows alike
          (record s.top { at = s.top.at + 1; values = env; slots = slot ∷ s.top.slots }) refl z (mine_there z c)
          (r.top.slots z c)

  pub whole_related : AreBuiltOf b (record s {
    world = record s.world { memory = s.world.memory ++ x ∷ [] };
    top = record s.top { at = s.top.at + 1; values = env; slots = slot ∷ s.top.slots };
  }) t
  whole_related =
      ramp_related b g given s t r name ty align h mine q x shows alike spare name spare_top owner_cell owner_ahead
      owner_early stands mates unseen address s.instances (slot ∷ s.top.slots) r.count
      (λ i xi yi e e'.
      instance_made b s t r given.framings q x shows alike
      (λ a l z c. mine.each z (in_below s a l z c)) t.world (λ d z p. p) (λ e o most bytes p. p) spare t.top xi yi
      (r.instances i xi yi e e')) slots

  pub whole_followed : (s.top.instance ≡ None) ⊎ IsOwnBehind g s name → IsFollowed b g s t
  whole_followed how =
      none_followed b g given s t h.coroutine (Instr.Alloca name ty align)
      (subst (λ (m : ℕ). slice_get (instrs_at X m) s.top.at ≡ Some (Instr.Alloca name ty align)) (sym h.entry_block)
      h.there)
      (record s {
        world = record s.world { memory = s.world.memory ++ x ∷ [] };
        top = record s.top { at = s.top.at + 1; values = env; slots = slot ∷ s.top.slots };
      }) (by how) refl refl refl whole_related
    where
      by : (s.top.instance ≡ None) ⊎ IsOwnBehind g s name
          → renewed_step g s ≡ record s {
            world = record s.world { memory = s.world.memory ++ x ∷ [] };
            top = record s.top { at = s.top.at + 1; values = env; slots = slot ∷ s.top.slots };
          }
      by (inl none) = early_step b g given s name ty align h (first_not_entering s.top.mode h.first) none
      by (inr own) = own_step b g given s name ty align h (first_not_entering s.top.mode h.first) own
