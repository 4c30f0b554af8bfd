-- An alloca of a ramp before begin whose slot is used there: its block stands in the temporary, and isn't seen.
use Rattle.std.proofs.Common.{◌≡◌, ◌≢◌, ◌⊎◌, ◌+◌, ◌<◌, ◌≤◌, ◌&&◌, ◌∷◌, ◌++◌, ◌∙◌, [], if◌then◌else◌, Bool, List, None, Some, ap, arith, false, inl, inr, length, refl, subst, sym, true, ℕ}
use Rattle.std.specs.List.{Contains}
use Rattle.std.specs.Prelude.{slice_get}
use Rattle.pass_frames_code.specs.flow_solver.Paths.{IsListed}
use Rattle.pass_frames_code.proofs.ir_laws.facts.Lists.{get_within}
use Rattle.pass_frames_code.specs.ir_model.Layout.{size_of}
use Rattle.pass_frames_code.specs.ir_model.Ty.{Ty}
use Rattle.pass_frames_code.specs.ir_model.declared.instr.Instr.{Instr}
use Rattle.pass_frames_code.specs.pass_copies.declared.slot.EarlySlot.{EarlySlot}
use Rattle.pass_frames_steps.proofs.allocating.Both.{each_index, new_block}
use Rattle.pass_frames_steps.proofs.allocating.Grown.{first_or_more, home_new, in_all, in_below, mates_more, more_length}
use Rattle.pass_frames_steps.proofs.allocating.Made.{instance_made}
use Rattle.pass_frames_steps.proofs.allocating.Ramp.{first_not_entering, ramp_related}
use Rattle.pass_frames_steps.proofs.allocating.Rights.{outside_rights}
use Rattle.pass_frames_steps.proofs.allocating.Steps.{early_step, ends_first}
use Rattle.pass_frames_steps.proofs.allocating.Whole.{below_other, old_slot}
use Rattle.pass_frames_code.proofs.code.Left.{Far, far_written}
use Rattle.pass_frames_code.proofs.lines.Cells.{other_block}
use Rattle.pass_frames_steps.proofs.marking.Still.{none_followed}
use Rattle.pass_frames_code.proofs.stepping.May.{own_blocks}
use Rattle.pass_frames_code.proofs.stepping.Names.{slots_new}
use Rattle.pass_frames_code.proofs.stepping.Rest.{got, seen_known, stood_apart}
use Rattle.pass_frames_code.specs.Allocating.{IsAtRampAlloca, IsEarlyAlloca}
use Rattle.pass_frames_code.specs.Followed.{IsFollowed}
use Rattle.pass_frames_code.specs.Framings.{IsFraming}
use Rattle.pass_frames_code.specs.Places.{Framing, copies, edged, instrs_at, offsets, written}
use Rattle.pass_frames_code.specs.Related.{AreBuiltOf, AreMates, Building, IsAhead, IsCellName, IsFreeOf, IsOwnSlot, IsSlotBy}
use Rattle.pass_frames_code.specs.Slotted.{HasSlotsThere}
use Rattle.pass_frames_code.specs.Stepping.{AreGiven}
use Rattle.pass_frames_code.specs.pass_proofs.addresses.rules.Addresses.{lies_in_frame}
use Rattle.pass_frames_code.specs.pass_renewed_proof.Renewed.{RenewedGiven}
use Rattle.pass_frames_code.specs.run_framed.Framed.{frame_rights}
use Rattle.pass_frames_code.proofs.run_laws.transfer.Grown.{new_stands}
use Rattle.pass_frames_code.proofs.run_laws.transfer.Muted.{muted_length}
use Rattle.pass_frames_code.proofs.run_laws.transfer.Places.{blank_room, showing_it, showing_others}
use Rattle.pass_frames_code.specs.run_laws.changed.Changed.{Each}
use Rattle.pass_frames_code.specs.run_laws.embedded.Making.{whole_home}
use Rattle.pass_frames_code.specs.run_laws.memory.Pointers.{Home, IsValue, home_of}
use Rattle.pass_frames_code.specs.run_laws.memory.Standing.{Stands}
use Rattle.pass_frames_code.specs.run_laws.transfer.Muted.{ended_if, muted}
use Rattle.pass_frames_code.specs.run_laws.transfer.Places.{AreStanding, HasRoom, IsNewIn, showing}
use Rattle.pass_frames_code.specs.run_memory.Memory.{Rights, is_live, owner_rights}
use Rattle.pass_frames_code.specs.run_memory.declared.block.Kind.{Kind}
use Rattle.pass_frames_code.specs.run_memory.declared.block.Life.{Life}
use Rattle.pass_frames_code.specs.run_memory.declared.block.MemoryBlock.{MemoryBlock}
use Rattle.pass_frames_code.specs.run_source.declared.state.Activation.{Activation}
use Rattle.pass_frames_code.specs.run_source.declared.state.Instance.{Instance}
use Rattle.pass_frames_code.specs.run_source.declared.state.State.{State}
use Rattle.pass_frames_code.specs.run_step.Step.{has_markers}
use Rattle.pass_frames_code.specs.run_step.Values.{Env, pointer_to, value_in, with_value}
use Rattle.pass_frames_code.specs.run_step.declared.world.Slot.{Slot}

module _ (b : Building) (g : RenewedGiven) (given : AreGiven b g) (s t : State) (r : AreBuiltOf b s t) (name : ℕ)
    (ty : Ty) (align : ℕ) (h : IsAtRampAlloca b g s name ty align) (mine : HasSlotsThere s)
    (k : IsEarlyAlloca b g s name ty align) (none : s.top.instance ≡ None) where
  abbrev n : ℕ
  n = length s.world.memory

  abbrev X : Framing
  X = b.framing s.top.func

  abbrev R : Rights
  R = frame_rights b.given t.instances

  abbrev ends : Bool
  ends = ends_first (g.flags s.top.func name) (has_markers (edged X) name)

  abbrev size : ℕ
  size = size_of g.given.code ty

  abbrev x : MemoryBlock
  x = new_block ends size align Kind.Slot

  abbrev f : EarlySlot
  f = k.early

  one : IsAhead X r.homes r.hides s.world.memory t.world.memory t.top f.temporary f.ty f.align
  one =
      (r.ahead.0 h.coroutine h.first h.entry_block).temporaries f s.top.at align ty k.listed
      (h.there ∙ ap (λ (v : ℕ). Some (Instr.Alloca v ty align)) (sym k.slot)) (omega arith)

  abbrev q : Home
  q = record { block = one.block; offset = 0; is_seen = false }

  abbrev shows : ℕ → Bool
  shows = showing r.hides n

  alike : (c : ℕ) → c ≢ n → shows c ≡ r.hides c
  alike c ne = showing_others r.hides n c ne

  not_hidden : shows n ≡ false
  not_hidden = showing_it r.hides n

  own : Contains t.top.slots (record { alloca = f.temporary; block = one.block })
  own = one.own

  abbrev Reason : Type 0
  Reason = (q.is_seen ≡ true) ⊎ (is_live (ended_if (shows n) x).life ≡ true)

  spare : (c : Activation) → IsListed c t.below → (slot : Slot) → Contains c.slots slot
      → IsFreeOf r.homes r.hides s.world.memory slot.block → Reason → q.block ≢ slot.block
  spare c l slot own' free how =
      below_other b s t r (record { alloca = f.temporary; block = one.block }) own c l slot own'

  spare_top : (slot : Slot) → Contains t.top.slots slot → (slot.alloca ≡ f.temporary → ⊥)
      → IsFreeOf r.homes r.hides s.world.memory slot.block → Reason → q.block ≢ slot.block
  spare_top slot own' ne free how =
      other_block t.top f.temporary slot.alloca one.block slot.block (own_blocks t r.once) own own' (λ e. ne (sym e))

  named : name < length (edged X).names
  named = (h.names s.top.at name align ty h.there).0

  is : IsFraming X
  is = given.framings s.top.func h.coroutine

  written_high : length (edged X).names ≤ length (written X).names
  written_high = let a : Far X is ≤ length (written X).names = far_written X is in omega (arith, a)

  high : length (edged X).names ≤ f.temporary
  high =
      let new : length (written X).names ≤ f.temporary = (slots_new X f k.listed).0 in
      let low = written_high in
      omega (arith, new, low)

  owner_cell : (v : ℕ) → IsCellName X v → v ≡ f.temporary → ⊥
  owner_cell v cell e = cell.no_temporary f k.listed (sym e)

  owner_ahead : (at u align' : ℕ) (ty' : Ty) → slice_get (instrs_at X 0) at ≡ Some (Instr.Alloca u ty' align')
      → s.top.at + 1 ≤ at → lies_in_frame (offsets X) u ≡ false → u ≡ f.temporary → ⊥
  owner_ahead at u align' ty' there le outside e =
      let lt = (h.names at u align' ty' there).0 in let up = high in omega (arith, lt, up, e)

  owner_early : (e : EarlySlot) (at align' : ℕ) (ty' : Ty) → Contains (copies X).slots e
      → slice_get (instrs_at X 0) at ≡ Some (Instr.Alloca e.slot ty' align') → s.top.at + 1 ≤ at
      → e.temporary ≡ f.temporary → ⊥
  owner_early e at align' ty' listed there le same =
      let here : at ≡ s.top.at = (h.names at e.slot align' ty' there).1 (k.alone e listed same ∙ k.slot) in
      omega (arith, le, here)

  -- ---- the block

  same_size : size_of X.code f.ty ≡ size
  same_size = ap (size_of X.code) k.ty_is ∙ k.sized

  abbrev mate : MemoryBlock
  mate = record {
    size = size;
    align = align;
    kind = Kind.Slot;
    life = Life.Live;
    owned = None;
    bytes = one.bytes;
  }

  mate_there : slice_get t.world.memory one.block ≡ Some mate
  mate_there =
      one.there
      ∙ (λ j. Some (record {
        size = same_size j;
        align = k.align_is j;
        kind = Kind.Slot;
        life = if k.marks j then Life.Ended else Life.Live;
        owned = None;
        bytes = one.bytes;
      }))

  full : length one.bytes ≡ size
  full = one.sized ∙ same_size

  apart_frames : Each (λ (y : Instance). y.block ≢ one.block) t.instances
  apart_frames = each_index (λ (y : Instance). y.block ≢ one.block) t.instances apart
    where
      apart : (i : ℕ) (y : Instance) → slice_get t.instances i ≡ Some y → y.block ≢ one.block
      apart i y e same =
          let lt : i < length t.instances = get_within t.instances i y e in
          let many : length t.instances ≡ length s.instances = r.count in
          let xi = got s.instances i (omega (arith, lt, many)) in
          let home = (r.instances i xi.0 y xi.1 e).block in
          let seen : (home_of r.homes xi.0.block).is_seen ≡ true = ap (λ (d : Home). d.is_seen) home in
          let low : xi.0.block < length r.homes = seen_known r.homes xi.0.block seen in
          let known : length r.homes ≡ n = r.known in
          stood_apart b s t r one.block xi.0.block one.free (omega (arith, low, known)) seen
          (ap (λ (d : Home). d.block) home ∙ same)

  room : is_live x.life ≡ true → HasRoom owner_rights R t.world.memory q n x
  room live = record {
    block = mate;
    there = mate_there;
    live = refl;
    whole = full;
    fits = omega arith;
    small = h.small;
    writable = λ e. e;
    allowed = outside_rights b.given t.instances one.block apart_frames n x mate false refl;
  }

  abbrev homes : List Home
  homes = r.homes ++ q ∷ []

  home_is : home_of homes n ≡ q
  home_is = home_new r.homes r.hides shows s.world.memory q x r.known alike

  new_in : IsNewIn owner_rights R r.homes (muted r.hides s.world.memory) t.world.memory q x
  new_in = record {
    known = r.known ∙ sym (muted_length r.hides s.world.memory);
    stands = λ live.
        subst (λ (m : ℕ). Stands owner_rights R homes t.world.memory m x) (sym (muted_length r.hides s.world.memory))
        (blank_room owner_rights R homes t.world.memory n x
        (let e = more_length r.homes q in let known : length r.homes ≡ n = r.known in omega (arith, e, known)) refl
        (subst (λ (d : Home). HasRoom owner_rights R t.world.memory d n x) (sym home_is) (room live)));
    apart = λ live c z ne at live' same. absurd (one.free c z at (inr live') same);
    seen = λ seen. absurd (cc);
  }

  stands : AreStanding owner_rights R homes (muted r.hides s.world.memory ++ ended_if (shows n) x ∷ []) t.world.memory
  stands =
      subst (λ (c : Bool). AreStanding owner_rights R homes (muted r.hides s.world.memory ++ ended_if c x ∷ [])
      t.world.memory) (sym not_hidden)
      (new_stands owner_rights R r.homes (muted r.hides s.world.memory) t.world.memory q x new_in
      (record { memory = r.world.memory; nulls = r.world.nulls; bounds = r.world.bounds }))

  no_whole : (m : ℕ) → q ≡ whole_home m → ⊥
  no_whole m e = let no : false ≡ true = ap (λ (d : Home). d.is_seen) e in cc

  mates : AreMates homes (s.world.memory ++ x ∷ []) t.world.memory
  mates =
      mates_more r.homes r.hides shows s.world.memory q x r.known alike t.world.memory t.world.memory (λ d z e. e)
      (λ no_slot. absurd (cc)) (λ d e. absurd (no_whole d e)) (λ d m e lt home. no_whole d e) r.mates

  unseen : shows n ≡ true → q.is_seen ≡ false
  unseen e = refl

  address : lies_in_frame (offsets X) name ≡ false → IsValue homes (pointer_to n) (value_in t.top.values name)
  address outside = let no : true ≡ false = sym k.inside ∙ outside in absurd (cc)

  abbrev slot : Slot
  slot = record { alloca = name; block = n }

  abbrev env : Env
  env = with_value s.top.values name (pointer_to n)

  slots : (z : Slot) → Contains (slot ∷ s.top.slots) z
      → IsOwnSlot b homes shows (record s.top { at = s.top.at + 1; values = env; slots = slot ∷ s.top.slots }) t.top z
  slots z c = by (first_or_more s.top.slots slot z c)
    where
      mine_there : (z : Slot) → Contains s.top.slots z → z.block < n
      mine_there z c = mine.each z (in_all s s.top (inl refl) z c)

      by : (slot ≡ z) ⊎ Contains s.top.slots z
          → IsOwnSlot b homes shows (record s.top { at = s.top.at + 1; values = env; slots = slot ∷ s.top.slots })
          t.top z
      by (inl e) =
          subst
          (IsOwnSlot b homes shows (record s.top { at = s.top.at + 1; values = env; slots = slot ∷ s.top.slots }) t.top)
          e
          (subst
          (IsSlotBy b homes shows (record s.top { at = s.top.at + 1; values = env; slots = slot ∷ s.top.slots }) t.top
          slot) (sym (λ j. h.coroutine j && k.inside j))
          (inr (f, one.block, k.listed, k.slot, own, home_is, not_hidden)))
      by (inr c) =
          old_slot b s t r q x shows alike
          (record s.top { at = s.top.at + 1; values = env; slots = slot ∷ s.top.slots }) refl z (mine_there z c)
          (r.top.slots z c)

  early_related : AreBuiltOf b (record s {
    world = record s.world { memory = s.world.memory ++ x ∷ [] };
    top = record s.top { at = s.top.at + 1; values = env; slots = slot ∷ s.top.slots };
  }) t
  early_related =
      ramp_related b g given s t r name ty align h mine q x shows alike spare f.temporary spare_top owner_cell owner_ahead
      owner_early stands mates unseen address s.instances (slot ∷ s.top.slots) r.count
      (λ i xi yi e e'.
      instance_made b s t r given.framings q x shows alike
      (λ a l z c. mine.each z (in_below s a l z c)) t.world (λ d z p. p) (λ e o most bytes p. p) spare t.top xi yi
      (r.instances i xi yi e e')) slots

  pub early_followed : IsFollowed b g s t
  early_followed =
      none_followed b g given s t h.coroutine (Instr.Alloca name ty align)
      (subst (λ (m : ℕ). slice_get (instrs_at X m) s.top.at ≡ Some (Instr.Alloca name ty align)) (sym h.entry_block)
      h.there)
      (record s {
        world = record s.world { memory = s.world.memory ++ x ∷ [] };
        top = record s.top { at = s.top.at + 1; values = env; slots = slot ∷ s.top.slots };
      }) (early_step b g given s name ty align h (first_not_entering s.top.mode h.first) none) refl refl refl
      early_related
