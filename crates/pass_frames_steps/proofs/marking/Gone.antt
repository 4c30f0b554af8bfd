-- Markers of slots that lie in the frame, and of slots that are made anew: the framed form hasn't them.
use Rattle.std.proofs.Common.{◌≡◌, ◌+◌, ◌<◌, ◌&&◌, ◌∙◌, [], if◌then◌else◌, Bool, List, None, Ok, Option, ap, arith, false, inl, inr, length, refl, subst, sym, true, ℕ}
use Rattle.pass_frames_code.specs.ir_base.declared.outcome.Outcome.{Outcome}
use Rattle.pass_frames_code.specs.ir_model.Ty.{Ty}
use Rattle.pass_frames_code.specs.ir_model.declared.instr.Instr.{Instr}
use Rattle.pass_frames_code.specs.ir_model.declared.module.Function.{Function}
use Rattle.pass_frames_code.specs.ir_model.declared.operand.Arg.{Arg}
use Rattle.pass_frames_code.specs.ir_model.declared.operand.Operand.{Operand}
use Rattle.pass_frames_code.specs.pass_cells.Cells.{fetch_for, fetches_of}
use Rattle.pass_frames_code.specs.pass_cells.Kept.{entry}
use Rattle.pass_frames_code.specs.pass_copies.BeginCopies.{behind as behind_begin}
use Rattle.pass_frames_code.specs.pass_copies.Uses.{is_access}
use Rattle.pass_frames_code.specs.pass_fetch.Fetching.{fetch_of}
use Rattle.pass_frames_code.specs.pass_frames.Tables.{offset_at}
use Rattle.pass_frames_steps.proofs.allocating.Rights.{frames_compare}
use Rattle.pass_frames_steps.proofs.allocating.Room.{apart_there, placed, room, slot_known, slot_shown, y}
use Rattle.pass_frames_steps.proofs.marking.Codes.{gone_becomes}
use Rattle.pass_frames_steps.proofs.marking.Marks.{IsMarkedAt, end_stands, free_marked, hidden_marked, mark, mark_is, marked_at, marked_by, marks_block, marks_none, mates_marked, start_stands, start_unkilled}
use Rattle.pass_frames_steps.proofs.marking.Still.{ahead_still, left_still, none_followed, still_related}
use Rattle.pass_frames_code.proofs.stepping.Codes.{code_stands, instr_there}
use Rattle.pass_frames_code.proofs.stepping.Rest.{got}
use Rattle.pass_frames_code.proofs.stepping.Stands.{renewed_does}
use Rattle.pass_frames_code.specs.Followed.{IsFollowed}
use Rattle.pass_frames_code.specs.Framings.{IsFraming}
use Rattle.pass_frames_code.specs.Marking.{IsAtMarker, IsBeforeBegin, IsBehindBegin, IsNoLocal, IsUnmarked, marking}
use Rattle.pass_frames_code.specs.Passes.{IsUnwritten}
use Rattle.pass_frames_code.specs.Places.{Framing, copies, edged, offsets, place, plan}
use Rattle.pass_frames_code.specs.Related.{AreBuiltOf, AreMates, Building, IsFreeOf, IsPlacedSlot, IsSlotBy, IsUnplacedSlot, is_coroutine}
use Rattle.pass_frames_code.specs.Slotted.{HasListedSlots, HasSlotsApart}
use Rattle.pass_frames_code.specs.Stepping.{AreGiven}
use Rattle.pass_frames_code.proofs.pass_proofs.cells.rules.Planned.{fetch_there}
use Rattle.pass_frames_code.specs.pass_proofs.addresses.rules.Addresses.{lies_in_frame}
use Rattle.pass_frames_code.specs.pass_renewed_proof.Renewed.{RenewedGiven, is_idle, renewed_act, renewed_advance, renewed_next, renewed_step}
use Rattle.pass_frames_code.specs.run_framed.Framed.{frame_rights}
use Rattle.pass_frames_code.specs.run_laws.embedded.Making.{whole_home}
use Rattle.pass_frames_code.specs.run_laws.memory.Pointers.{Home, home_of}
use Rattle.pass_frames_code.specs.run_laws.transfer.Muted.{muted}
use Rattle.pass_frames_code.specs.run_laws.transfer.Places.{AreStanding}
use Rattle.pass_frames_code.specs.run_memory.Memory.{Rights, owner_rights}
use Rattle.pass_frames_code.specs.run_memory.declared.block.MemoryBlock.{MemoryBlock}
use Rattle.pass_frames_code.specs.run_memory.declared.pointer.Value.{Value}
use Rattle.pass_frames_code.specs.run_source.Source.{context_of}
use Rattle.pass_frames_code.specs.run_source.State.{function_of, next, or_undefined, work_of}
use Rattle.pass_frames_code.specs.run_source.declared.state.State.{State}
use Rattle.pass_frames_code.specs.run_step.Step.{AtInstr, Context, Done, Fetched, Work, action_of, fetch, instr_action, set_memory}
use Rattle.pass_frames_code.specs.run_step.Values.{value_in}
use Rattle.pass_frames_code.specs.run_step.declared.world.World.{World}

-- ---- the code

-- a literal isn't fetched
pub literal_plain : (x : Framing) (o : Operand) → IsNoLocal o → fetch_of (fetches_of (plan x)) o ≡ None
literal_plain x (Operand.Local v) h = absurd h
literal_plain x (Operand.Global name) h = refl
literal_plain x (Operand.Number z) h = refl
literal_plain x Operand.True h = refl
literal_plain x Operand.False h = refl
literal_plain x Operand.Null h = refl
literal_plain x Operand.None h = refl
literal_plain x Operand.Poison h = refl

pub unkept_plain : (x : Framing) (v : ℕ) → entry (plan x).places v ≡ None
    → fetch_of (fetches_of (plan x)) (Operand.Local v) ≡ None
unkept_plain x v told = fetch_there (plan x).kept (plan x).places v ∙ ap (fetch_for (plan x).kept) told

pub record IsMarkerCode (x : Framing) (i : Instr) : Type 0 where
  pub unwritten : IsUnwritten (plan x) i
  pub accesses : is_access i ≡ false
  pub begins : behind_begin (copies x) i ≡ []

pub marker_code : (x : Framing) (starts must_tail : Bool) (ty : Option Ty) (size : Arg) (t : Ty) (slot : ℕ)
    → IsMarkerCode x (marking starts must_tail ty size t slot)
marker_code x true must_tail ty size t slot = record {
  unwritten = record { row = refl; result = λ v e. absurd (cc); distance = tt };
  accesses = refl;
  begins = refl;
}
marker_code x false must_tail ty size t slot = record {
  unwritten = record { row = refl; result = λ v e. absurd (cc); distance = tt };
  accesses = refl;
  begins = refl;
}

-- ---- the step of the first run

pub marker_action : (c : Context) (w : Work) (starts must_tail : Bool) (ty : Option Ty) (size : Arg) (t : Ty)
    (slot : ℕ)
    → instr_action c w (marking starts must_tail ty size t slot)
    ≡ Done (set_memory w (marked_by starts w.world.memory (value_in w.values slot)))
marker_action c w true must_tail ty size t slot = refl
marker_action c w false must_tail ty size t slot = refl

pub idle_is : (flags : ℕ → Bool) (starts must_tail : Bool) (ty : Option Ty) (size : Arg) (t : Ty) (slot : ℕ)
    → is_idle flags (AtInstr (marking starts must_tail ty size t slot)) ≡ flags slot
idle_is flags true must_tail ty size t slot = refl
idle_is flags false must_tail ty size t slot = refl

renewed_idles : (g : RenewedGiven) (s : State) (here : Fetched) → s.outcome ≡ Outcome.Running
    → fetch (function_of g.given s) s.top.block s.top.at ≡ here → is_idle (g.flags s.top.func) here ≡ true
    → renewed_step g s ≡ next s
renewed_idles g s here runs there idle =
    ap (renewed_advance g s) runs
    ∙ ap (λ (x : Fetched). or_undefined g.given s (renewed_next g s x)) there
    ∙ ap (λ (k : Bool). or_undefined g.given s (if k then Ok (next s)
    else renewed_act g s (action_of (context_of g.given s) (work_of s) here))) idle

-- ---- the states

module _ (b : Building) (g : RenewedGiven) (given : AreGiven b g) (s t : State) (r : AreBuiltOf b s t)
    (starts must_tail : Bool) (ty : Option Ty) (size : Arg) (t' : Ty) (slot : ℕ)
    (h : IsAtMarker b s starts must_tail ty size t' slot)
    (unmarked : IsUnmarked b s (marking starts must_tail ty size t' slot)) where
  abbrev x : Framing
  x = b.framing s.top.func

  abbrev R : Rights
  R = frame_rights b.given t.instances

  abbrev i : Instr
  i = marking starts must_tail ty size t' slot

  is : IsFraming x
  is = given.framings s.top.func h.coroutine

  code : IsMarkerCode x i
  code = marker_code x starts must_tail ty size t' slot

  slot_plain : fetch_of (fetches_of (plan x)) (Operand.Local slot) ≡ None
  slot_plain = unkept_plain x slot h.unkept

  pub stays : (place x (record { block = s.top.block; at = s.top.at + 1 })).at
      ≡ (place x (record { block = s.top.block; at = s.top.at })).at
  stays =
      (code_stands x s.top.block s.top.at i [] h.there
      (gone_becomes x is s.top.block s.top.at i h.there
      (literal_plain x size.value h.literal, (slot_plain, tt)) code.unwritten code.accesses code.begins unmarked)
      tt h.unreturned).1
      ∙ none (place x (record { block = s.top.block; at = s.top.at })).at
    where
      none : (n : ℕ) → n + 0 ≡ n
      none n = omega arith

  fetched : fetch (function_of g.given s) s.top.block s.top.at ≡ AtInstr i
  fetched =
      ap (λ (f : Function). fetch f s.top.block s.top.at) (given.coroutines s.top.func h.coroutine)
      ∙ instr_there (edged x) s.top.block s.top.at i h.there

  -- ---- a slot that is made anew: its markers do nothing

  pub idle_followed : g.flags s.top.func slot ≡ true → IsFollowed b g s t
  idle_followed flagged =
      none_followed b g given s t h.coroutine i h.there (next s)
      (renewed_idles g s (AtInstr i) h.runs fetched
      (idle_is (g.flags s.top.func) starts must_tail ty size t' slot ∙ flagged)) refl refl refl
      (still_related b g given s t r h.coroutine h.mode h.unreturned stays s.world
      (left_still b s t r s.world given.framings r.mates (λ block free. free) refl)
      (λ name align ty k. k) r.world)

  -- ---- another slot

  abbrev pub memory : List MemoryBlock
  memory = marked_by starts s.world.memory (value_in s.top.values slot)

  abbrev pub w : World
  w = record s.world { memory = memory }

  pub steps : g.flags s.top.func slot ≡ false
      → renewed_step g s ≡ record s { world = w; top = record s.top { at = s.top.at + 1 } }
  steps off =
      renewed_does g s (AtInstr i) (Done (set_memory (work_of s) memory)) h.runs fetched
      (idle_is (g.flags s.top.func) starts must_tail ty size t' slot ∙ off)
      (marker_action (context_of g.given s) (work_of s) starts must_tail ty size t' slot)

  pub changed_followed : g.flags s.top.func slot ≡ false → AreMates r.homes memory t.world.memory
      → ((block : ℕ) → IsFreeOf r.homes r.hides s.world.memory block → IsFreeOf r.homes r.hides memory block)
      → length memory ≡ length s.world.memory
      → AreStanding owner_rights R r.homes (muted r.hides memory) t.world.memory → IsFollowed b g s t
  changed_followed off mates free known stands =
      none_followed b g given s t h.coroutine i h.there
      (record s { world = w; top = record s.top { at = s.top.at + 1 } }) (steps off) refl refl refl
      (still_related b g given s t r h.coroutine h.mode h.unreturned stays w
      (left_still b s t r w given.framings mates free known)
      (λ name align ty. ahead_still b s t r w given.framings mates free known x t.top name align ty) (record {
        memory = stands.memory;
        nulls = stands.nulls;
        bounds = stands.bounds;
        events = r.world.events;
        answers = r.world.answers;
        allocs = r.world.allocs;
      }))

  stands_now : AreStanding owner_rights R r.homes (muted r.hides s.world.memory) t.world.memory
  stands_now = record { memory = r.world.memory; nulls = r.world.nulls; bounds = r.world.bounds }

  pub poison_followed : g.flags s.top.func slot ≡ false → value_in s.top.values slot ≡ Value.Poison → IsFollowed b g s t
  poison_followed off none =
      changed_followed off (subst (λ (m : List MemoryBlock). AreMates r.homes m t.world.memory) (sym same) r.mates)
      (λ block. subst (λ (m : List MemoryBlock). IsFreeOf r.homes r.hides m block) (sym same))
      (ap length same)
      (subst (λ (m : List MemoryBlock). AreStanding owner_rights R r.homes (muted r.hides m) t.world.memory) (sym same)
      stands_now)
    where
      same : memory ≡ s.world.memory
      same = marks_none starts s.world.memory (value_in s.top.values slot) none

  -- a slot of the frame before begin is hidden
  abbrev inside : ℕ → Bool
  inside v = is_coroutine b s.top.func && lies_in_frame (offsets x) v

  pub before_followed : g.flags s.top.func slot ≡ false → IsBeforeBegin b s slot → IsFollowed b g s t
  before_followed off z =
      by_slot (unplaced (inside z.slot.alloca) is_inside (r.top.slots z.slot z.own))
    where
      is_inside : inside z.slot.alloca ≡ true
      is_inside = λ j. h.coroutine j && (ap (lies_in_frame (offsets x)) z.alloca ∙ z.frame) j

      unplaced : (f : Bool) → f ≡ true → IsSlotBy b r.homes r.hides s.top t.top z.slot f
          → IsUnplacedSlot x r.homes r.hides t.top z.slot
      unplaced true e k = k
      unplaced false e k = absurd (cc)

      at : IsMarkedAt starts s.world.memory memory z.slot.block
      at = subst (λ (m : List MemoryBlock). IsMarkedAt starts s.world.memory m z.slot.block)
          (sym (marks_block starts s.world.memory (value_in s.top.values slot) z.slot.block z.address))
          (marked_at starts s.world.memory z.slot.block)

      no_home : (home_of r.homes z.slot.block).is_seen ≡ false → (q : ℕ)
          → home_of r.homes z.slot.block ≡ whole_home q → ⊥
      no_home unseen q e = let no : false ≡ true = sym unseen ∙ ap (λ (d : Home). d.is_seen) e in cc

      by_slot : IsUnplacedSlot x r.homes r.hides t.top z.slot → IsFollowed b g s t
      by_slot (inl k) =
          let unseen : (home_of r.homes z.slot.block).is_seen ≡ false = r.hidden z.slot.block k.0 in
          changed_followed off
          (mates_marked owner_rights R r.homes r.hides s.world.memory memory t.world.memory z.slot.block starts at
          (no_home unseen) r.mates)
          (free_marked owner_rights R r.homes r.hides s.world.memory memory t.world.memory z.slot.block starts at
          (inr k.0))
          at.long
          (hidden_marked owner_rights R r.homes r.hides s.world.memory memory t.world.memory z.slot.block starts at k.0
          unseen stands_now)
      by_slot (inr k) = absurd (z.late k.0 k.2 (k.3 ∙ z.alloca))

  -- behind begin a slot stands in the frame
  pub behind_followed : g.flags s.top.func slot ≡ false → HasListedSlots s → HasSlotsApart t
      → IsBehindBegin b s slot starts
      → IsFollowed b g s t
  behind_followed off listed others z =
      changed_followed off
      (mates_marked owner_rights R r.homes r.hides s.world.memory memory t.world.memory n starts at no_home r.mates)
      (free_marked owner_rights R r.homes r.hides s.world.memory memory t.world.memory n starts at (inl seen))
      at.long (by starts refl)
    where
      n : ℕ
      n = z.slot.block

      at : IsMarkedAt starts s.world.memory memory n
      at = subst (λ (m : List MemoryBlock). IsMarkedAt starts s.world.memory m n)
          (sym (marks_block starts s.world.memory (value_in s.top.values slot) n z.address))
          (marked_at starts s.world.memory n)

      even : (k : Bool) → starts ≡ k → IsMarkedAt k s.world.memory memory n
      even k e = subst (λ (c : Bool). IsMarkedAt c s.world.memory memory n) e at

      home : IsPlacedSlot (b.framing z.instance.coroutine) r.homes
          (y b g given s t r z.number z.instance z.placed.alone) z.slot
      home = placed b g given s t r z.number z.instance z.slot starts z.placed

      seen : (home_of r.homes n).is_seen ≡ true
      seen = ap (λ (q : Home). q.is_seen) home.home

      shown : r.hides n ≡ false
      shown = slot_shown b g given s t r z.number z.instance z.slot starts z.placed

      known : n < length r.homes
      known = slot_known b g given s t r z.number z.instance z.slot starts z.placed

      no_home : (q : ℕ) → home_of r.homes n ≡ whole_home q → ⊥
      no_home q e =
          let lt : n < length r.homes = known in
          let same : length r.homes ≡ length s.world.memory = r.known in
          let w = got s.world.memory n (omega (arith, lt, same)) in
          let far = (z.placed.field home.position home.position_is w.0 w.1).behind in
          let zero : (y b g given s t r z.number z.instance z.placed.alone).start
          + offset_at (b.framing z.instance.coroutine).layout home.position ≡ 0 =
          sym (ap (λ (d : Home). d.offset) home.home) ∙ ap (λ (d : Home). d.offset) e in
          omega (arith, far, zero)

      by : (k : Bool) → starts ≡ k → AreStanding owner_rights R r.homes (muted r.hides memory) t.world.memory
      by true e =
          start_stands owner_rights R r.homes r.hides s.world.memory memory t.world.memory n (even true e) shown known
          (frames_compare b.given t.instances)
          (λ w there lives. (
            room b g given s t r z.number z.instance z.slot starts z.placed w there (start_unkilled w lives)
                (mark true w) (mark_is true w).size (mark_is true w).align,
            apart_there b g given s t r z.number z.instance z.slot starts z.placed w there (start_unkilled w lives) e
                listed others (mark true w) (mark_is true w).size,
          )) stands_now
      by false e =
          end_stands owner_rights R r.homes r.hides s.world.memory memory t.world.memory n (even false e) shown
          (frames_compare b.given t.instances) stands_now
