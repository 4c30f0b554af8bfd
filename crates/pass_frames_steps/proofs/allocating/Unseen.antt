-- An alloca of a ramp before begin whose slot lies in the frame: its block is hidden, as long as no access uses it.
use Rattle.std.proofs.Common.{◌≡◌, ◌≢◌, ◌⊎◌, ◌+◌, ◌<◌, ◌≤◌, ◌&&◌, ◌∷◌, ◌++◌, ◌∙◌, [], Bool, List, None, Some, ap, arith, false, inl, inr, length, refl, subst, sym, true, ℕ}
use Rattle.std.specs.List.{Contains}
use Rattle.std.specs.Prelude.{slice_get}
use Rattle.pass_frames_code.specs.flow_solver.Paths.{IsListed}
use Rattle.pass_frames_code.specs.ir_model.Layout.{size_of}
use Rattle.pass_frames_code.specs.ir_model.Ty.{Ty}
use Rattle.pass_frames_code.specs.ir_model.declared.instr.Instr.{Instr}
use Rattle.pass_frames_code.specs.pass_copies.declared.slot.EarlySlot.{EarlySlot}
use Rattle.pass_frames_steps.proofs.allocating.Both.{new_block}
use Rattle.pass_frames_steps.proofs.allocating.Grown.{first_or_more, in_all, in_below, mates_more}
use Rattle.pass_frames_steps.proofs.allocating.Made.{instance_made}
use Rattle.pass_frames_steps.proofs.allocating.Ramp.{first_not_entering, ramp_related}
use Rattle.pass_frames_steps.proofs.allocating.Steps.{early_step, ends_first}
use Rattle.pass_frames_steps.proofs.allocating.Whole.{old_slot}
use Rattle.pass_frames_code.proofs.code.Left.{Far, far_written}
use Rattle.pass_frames_steps.proofs.marking.Still.{none_followed}
use Rattle.pass_frames_code.proofs.stepping.Names.{slots_new}
use Rattle.pass_frames_code.specs.Allocating.{IsAtRampAlloca, IsLateAlloca}
use Rattle.pass_frames_code.specs.Followed.{IsFollowed}
use Rattle.pass_frames_code.specs.Framings.{IsFraming}
use Rattle.pass_frames_code.specs.Places.{Framing, copies, edged, instrs_at, offsets, written}
use Rattle.pass_frames_code.specs.Related.{AreBuiltOf, AreMates, Building, IsCellName, IsFreeOf, IsOwnSlot, IsSlotBy}
use Rattle.pass_frames_code.specs.Slotted.{HasSlotsThere}
use Rattle.pass_frames_code.specs.Stepping.{AreGiven}
use Rattle.pass_frames_code.specs.pass_proofs.addresses.rules.Addresses.{lies_in_frame}
use Rattle.pass_frames_code.specs.pass_renewed_proof.Renewed.{RenewedGiven}
use Rattle.pass_frames_code.specs.run_framed.Framed.{frame_rights}
use Rattle.pass_frames_code.proofs.run_laws.transfer.Grown.{new_stands}
use Rattle.pass_frames_code.proofs.run_laws.transfer.Muted.{muted_length}
use Rattle.pass_frames_code.proofs.run_laws.transfer.Places.{hiding_it, hiding_others}
use Rattle.pass_frames_code.specs.run_laws.embedded.Making.{whole_home}
use Rattle.pass_frames_code.specs.run_laws.memory.Pointers.{Home, IsValue}
use Rattle.pass_frames_code.specs.run_laws.transfer.Muted.{ended_if, muted}
use Rattle.pass_frames_code.specs.run_laws.transfer.Places.{AreStanding, IsNewIn, hiding}
use Rattle.pass_frames_code.specs.run_memory.Memory.{Rights, is_live, owner_rights}
use Rattle.pass_frames_code.specs.run_memory.declared.block.Kind.{Kind}
use Rattle.pass_frames_code.specs.run_memory.declared.block.MemoryBlock.{MemoryBlock}
use Rattle.pass_frames_code.specs.run_source.declared.state.Activation.{Activation}
use Rattle.pass_frames_code.specs.run_source.declared.state.State.{State}
use Rattle.pass_frames_code.specs.run_step.Step.{has_markers}
use Rattle.pass_frames_code.specs.run_step.Values.{Env, pointer_to, value_in, with_value}
use Rattle.pass_frames_code.specs.run_step.declared.world.Slot.{Slot}

module _ (b : Building) (g : RenewedGiven) (given : AreGiven b g) (s t : State) (r : AreBuiltOf b s t) (name : ℕ)
    (ty : Ty) (align : ℕ) (h : IsAtRampAlloca b g s name ty align) (mine : HasSlotsThere s)
    (k : IsLateAlloca b s name) (none : s.top.instance ≡ None) where
  abbrev n : ℕ
  n = length s.world.memory

  abbrev X : Framing
  X = b.framing s.top.func

  abbrev R : Rights
  R = frame_rights b.given t.instances

  abbrev ends : Bool
  ends = ends_first (g.flags s.top.func name) (has_markers (edged X) name)

  abbrev size : ℕ
  size = size_of g.given.code ty

  abbrev x : MemoryBlock
  x = new_block ends size align Kind.Slot

  abbrev q : Home
  q = record { block = 0; offset = 0; is_seen = false }

  abbrev shows : ℕ → Bool
  shows = hiding r.hides n

  alike : (c : ℕ) → c ≢ n → shows c ≡ r.hides c
  alike c ne = hiding_others r.hides n c ne

  hidden : shows n ≡ true
  hidden = hiding_it r.hides n

  abbrev Reason : Type 0
  Reason = (q.is_seen ≡ true) ⊎ (is_live (ended_if (shows n) x).life ≡ true)

  dead : is_live (ended_if (shows n) x).life ≡ true → ⊥
  dead live =
      let no : false ≡ true = ap (λ (c : Bool). is_live (ended_if c x).life) (sym hidden) ∙ live in cc

  never : Reason → ⊥
  never (inl seen) = cc
  never (inr live) = dead live

  spare : (c : Activation) → IsListed c t.below → (slot : Slot) → Contains c.slots slot
      → IsFreeOf r.homes r.hides s.world.memory slot.block → Reason → q.block ≢ slot.block
  spare c l slot own free how = absurd (never how)

  spare_top : (slot : Slot) → Contains t.top.slots slot → (slot.alloca ≡ name → ⊥)
      → IsFreeOf r.homes r.hides s.world.memory slot.block → Reason → q.block ≢ slot.block
  spare_top slot own ne free how = absurd (never how)

  named : name < length (edged X).names
  named = (h.names s.top.at name align ty h.there).0

  is : IsFraming X
  is = given.framings s.top.func h.coroutine

  owner_cell : (v : ℕ) → IsCellName X v → v ≡ name → ⊥
  owner_cell v cell e = let le = cell.new in let lt = named in omega (arith, le, lt, e)

  owner_ahead : (at u align' : ℕ) (ty' : Ty) → slice_get (instrs_at X 0) at ≡ Some (Instr.Alloca u ty' align')
      → s.top.at + 1 ≤ at → lies_in_frame (offsets X) u ≡ false → u ≡ name → ⊥
  owner_ahead at u align' ty' there le outside e =
      let same : at ≡ s.top.at = (h.names at u align' ty' there).1 e in omega (arith, le, same)

  owner_early : (e : EarlySlot) (at align' : ℕ) (ty' : Ty) → Contains (copies X).slots e
      → slice_get (instrs_at X 0) at ≡ Some (Instr.Alloca e.slot ty' align') → s.top.at + 1 ≤ at
      → e.temporary ≡ name → ⊥
  owner_early e at align' ty' listed there le same =
      let a : Far X is ≤ length (written X).names = far_written X is in
      let high : length (written X).names ≤ e.temporary = (slots_new X e listed).0 in
      let lt = named in
      omega (arith, high, a, lt, same)

  abbrev homes : List Home
  homes = r.homes ++ q ∷ []

  new_in : IsNewIn owner_rights R r.homes (muted r.hides s.world.memory) t.world.memory q (ended_if (shows n) x)
  new_in = record {
    known = r.known ∙ sym (muted_length r.hides s.world.memory);
    stands = λ live. absurd (dead live);
    apart = λ live c z ne at live' same. absurd (dead live);
    seen = λ seen. absurd (cc);
  }

  stands : AreStanding owner_rights R homes (muted r.hides s.world.memory ++ ended_if (shows n) x ∷ []) t.world.memory
  stands =
      new_stands owner_rights R r.homes (muted r.hides s.world.memory) t.world.memory q (ended_if (shows n) x) new_in
      (record { memory = r.world.memory; nulls = r.world.nulls; bounds = r.world.bounds })

  no_whole : (m : ℕ) → q ≡ whole_home m → ⊥
  no_whole m e = let no : false ≡ true = ap (λ (d : Home). d.is_seen) e in cc

  mates : AreMates homes (s.world.memory ++ x ∷ []) t.world.memory
  mates =
      mates_more r.homes r.hides shows s.world.memory q x r.known alike t.world.memory t.world.memory (λ d z e. e)
      (λ no_slot. absurd (cc)) (λ d e. absurd (no_whole d e)) (λ d m e lt home. no_whole d e) r.mates

  unseen : shows n ≡ true → q.is_seen ≡ false
  unseen e = refl

  address : lies_in_frame (offsets X) name ≡ false → IsValue homes (pointer_to n) (value_in t.top.values name)
  address outside = let no : true ≡ false = sym k.inside ∙ outside in absurd (cc)

  abbrev slot : Slot
  slot = record { alloca = name; block = n }

  abbrev env : Env
  env = with_value s.top.values name (pointer_to n)

  slots : (z : Slot) → Contains (slot ∷ s.top.slots) z
      → IsOwnSlot b homes shows (record s.top { at = s.top.at + 1; values = env; slots = slot ∷ s.top.slots }) t.top z
  slots z c = by (first_or_more s.top.slots slot z c)
    where
      by : (slot ≡ z) ⊎ Contains s.top.slots z
          → IsOwnSlot b homes shows (record s.top { at = s.top.at + 1; values = env; slots = slot ∷ s.top.slots })
          t.top z
      by (inl e) =
          subst
          (IsOwnSlot b homes shows (record s.top { at = s.top.at + 1; values = env; slots = slot ∷ s.top.slots }) t.top)
          e
          (subst
          (IsSlotBy b homes shows (record s.top { at = s.top.at + 1; values = env; slots = slot ∷ s.top.slots }) t.top
          slot) (sym (λ j. h.coroutine j && k.inside j)) (inl (hidden, k.late)))
      by (inr c) =
          old_slot b s t r q x shows alike
          (record s.top { at = s.top.at + 1; values = env; slots = slot ∷ s.top.slots }) refl z
          (mine.each z (in_all s s.top (inl refl) z c)) (r.top.slots z c)

  hidden_related : AreBuiltOf b (record s {
    world = record s.world { memory = s.world.memory ++ x ∷ [] };
    top = record s.top { at = s.top.at + 1; values = env; slots = slot ∷ s.top.slots };
  }) t
  hidden_related =
      ramp_related b g given s t r name ty align h mine q x shows alike spare name spare_top owner_cell owner_ahead
      owner_early stands mates unseen address s.instances (slot ∷ s.top.slots) r.count
      (λ i xi yi e e'.
      instance_made b s t r given.framings q x shows alike
      (λ a l z c. mine.each z (in_below s a l z c)) t.world (λ d z p. p) (λ e o most bytes p. p) spare t.top xi yi
      (r.instances i xi yi e e')) slots

  pub hidden_followed : IsFollowed b g s t
  hidden_followed =
      none_followed b g given s t h.coroutine (Instr.Alloca name ty align)
      (subst (λ (m : ℕ). slice_get (instrs_at X m) s.top.at ≡ Some (Instr.Alloca name ty align)) (sym h.entry_block)
      h.there)
      (record s {
        world = record s.world { memory = s.world.memory ++ x ∷ [] };
        top = record s.top { at = s.top.at + 1; values = env; slots = slot ∷ s.top.slots };
      }) (early_step b g given s name ty align h (first_not_entering s.top.mode h.first) none) refl refl refl
      hidden_related
