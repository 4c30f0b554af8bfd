-- Behind the copies: the source's memory stands as it stood, and the frame's block has other bytes.
use Rattle.std.proofs.Common.{◌≡◌, ◌≢◌, ◌+◌, ◌≤◌, ◌∙◌, List, Some, ap, arith, false, inl, inr, length, refl, subst, sym, true, ℕ, ⊎_elim}
use Rattle.std.proofs.lemmas.Bool.{cases_eq, ltb-false}
use Rattle.std.specs.List.{Contains}
use Rattle.std.specs.Prelude.{slice_get}
use Rattle.pass_frames_steps.specs.flow_solver.Paths.{IsListed}
use Rattle.pass_frames_steps.proofs.ir_laws.facts.Members.{each_turns}
use Rattle.pass_frames_steps.specs.pass_copies.declared.slot.EarlySlot.{EarlySlot}
use Rattle.pass_frames_steps.proofs.allocating.Grown.{listed_in}
use Rattle.pass_frames_steps.proofs.allocating.Rights.{frame_room, frames_compare}
use Rattle.pass_frames_proof.proofs.beginning.AllCopied.{AreCopiedThere, IsSpanThere, all_copied}
use Rattle.pass_frames_proof.proofs.beginning.Copied.{cell_free, early, inside_frame}
use Rattle.pass_frames_proof.proofs.beginning.Given.{Begins}
use Rattle.pass_frames_proof.proofs.beginning.Places.{B, M, N, Q, X, block_is, frame_fits, home_is, kinds, lives_alone, own, owned_muted, seen, shown_there, size, stands_owned, y0, y0_alone, y0_there, ys, z, zt, zt_small, zt_there}
use Rattle.pass_frames_steps.proofs.lines.Filled.{all_refilled, source_stands}
use Rattle.pass_frames_steps.proofs.stepping.Names.{where_is_name}
use Rattle.pass_frames_steps.proofs.stepping.Stored.{IsBlock, is_block}
use Rattle.pass_frames_steps.specs.Beginning.{IsAtBegin}
use Rattle.pass_frames_steps.specs.Lines.{AreAway}
use Rattle.pass_frames_steps.specs.Places.{Framing}
use Rattle.pass_frames_steps.specs.Related.{AreBuiltOf, Building, IsFreeOf}
use Rattle.pass_frames_steps.specs.Slotted.{IsSlotField}
use Rattle.pass_frames_steps.specs.pass_renewed_proof.Renewed.{RenewedGiven}
use Rattle.pass_frames_steps.proofs.run_access_worked.run_laws_worked.Frames.{frame_rights_fit}
use Rattle.pass_frames_steps.specs.run_framed.Framed.{layout_of}
use Rattle.pass_frames_steps.proofs.run_laws.embedded.Memories.{bounds_kept, same_refills}
use Rattle.pass_frames_steps.proofs.run_laws.memory.Itself.{owner_rights_fit}
use Rattle.pass_frames_steps.proofs.run_laws.memory.Written.{changed_elsewhere, changed_here, same_some}
use Rattle.pass_frames_steps.specs.run_laws.access.Accessed.{Span}
use Rattle.pass_frames_steps.specs.run_laws.embedded.Refilled.{AreRefilled}
use Rattle.pass_frames_steps.specs.run_laws.memory.Pointers.{Home, home_of}
use Rattle.pass_frames_steps.specs.run_laws.memory.Standing.{IsAway, Stands}
use Rattle.pass_frames_steps.specs.run_laws.transfer.Muted.{muted}
use Rattle.pass_frames_steps.specs.run_laws.transfer.Places.{AreStanding, HasRoom}
use Rattle.pass_frames_steps.specs.run_memory.Memory.{is_below, is_live, owned_to, owner_rights}
use Rattle.pass_frames_steps.specs.run_memory.declared.block.MemoryBlock.{MemoryBlock}
use Rattle.pass_frames_steps.specs.run_source.declared.state.State.{State}

module _ (facts : Begins) where
  abbrev b : Building
  b = facts.b

  abbrev g : RenewedGiven
  g = facts.g

  abbrev s : State
  s = facts.s

  abbrev t : State
  t = facts.t

  abbrev r : AreBuiltOf b s t
  r = facts.r

  abbrev block : ℕ
  block = facts.block

  abbrev h : IsAtBegin b g s facts.result facts.must_tail facts.ty facts.id facts.typed facts.memory block
  h = facts.h

  abbrev x : Framing
  x = X facts

  abbrev k : ℕ
  k = B facts

  abbrev pub C : AreCopiedThere facts (early facts)
  C = all_copied facts

  abbrev pub n1 : List MemoryBlock
  n1 = C.work.world.memory

  -- the source's memory, without what is hidden
  abbrev pub mm : List MemoryBlock
  mm = muted r.hides (M facts)

  -- ---- in the frame's block the block alone lives, whose first bytes are owned

  pub record IsOwner (c : ℕ) (v : MemoryBlock) : Type 0 where
    pub is : c ≡ block
    pub value : v ≡ owned_to (size facts) (z facts)

  owned_there : slice_get mm block ≡ Some (owned_to (size facts) (z facts))
  owned_there =
      ap (λ (m : List MemoryBlock). slice_get m block) (owned_muted facts)
      ∙ changed_here (muted r.hides s.world.memory) block (owned_to (size facts)) (z facts) (shown_there facts)

  pub lives_there : (c : ℕ) (v : MemoryBlock) → slice_get mm c ≡ Some v → is_live v.life ≡ true
      → (home_of r.homes c).block ≡ k → IsOwner c v
  lives_there c v at live same =
      ⊎_elim (λ is. itself is) (λ other. absurd (elsewhere other)) (cases_eq c block)
    where
      elsewhere : c ≢ block → ⊥
      elsewhere other =
          lives_alone facts c v other
          (sym (changed_elsewhere (muted r.hides s.world.memory) block c (owned_to (size facts)) other)
          ∙ ap (λ (m : List MemoryBlock). slice_get m c) (sym (owned_muted facts)) ∙ at) live
          (same ∙ sym (block_is facts))

      itself : c ≡ block → IsOwner c v
      itself is = record {
        is = is;
        value = same_some v (owned_to (size facts) (z facts)) (sym at ∙ ap (slice_get mm) is ∙ owned_there);
      }

  pub owner_from : (c : ℕ) (v : MemoryBlock) → IsOwner c v → (i : ℕ) → is_below i v.owned ≡ false → size facts ≤ i
  owner_from c v o i e =
      ltb-false i (size facts) (ap (λ (m : MemoryBlock). is_below i m.owned) (sym o.value) ∙ e)

  pub owner_start : (c : ℕ) (v : MemoryBlock) → IsOwner c v → (home_of r.homes c).offset ≡ 0
  owner_start c v o =
      ap (λ (m : ℕ). (home_of r.homes m).offset) o.is ∙ ap (λ (q : Home). q.offset) (home_is facts)

  -- ---- nothing of the source stands in what is filled

  frame_away : (e : EarlySlot) (l : IsListed e (early facts)) (c : ℕ) (v : MemoryBlock) → slice_get mm c ≡ Some v
      → is_live v.life ≡ true → (o : ℕ) → 0 + o + e.size ≤ (layout_of b.given.layouts s.top.func).size
      → IsAway owner_rights r.homes c v k (0 + o) e.size
  frame_away e l c v there live o inside same j lt opens =
      let w = lives_there c v there live same in
      let from : size facts ≤ j = owner_from c v w j opens in
      let start : (home_of r.homes c).offset ≡ 0 = owner_start c v w in
      let laid = h.laid in
      inr (omega (arith, from, start, laid, inside))

  cell_away : (e : EarlySlot) (l : IsListed e (early facts)) (d : ℕ)
      → Contains t.top.slots (record { alloca = e.cell; block = d }) → (c : ℕ) (v : MemoryBlock)
      → slice_get mm c ≡ Some v → is_live v.life ≡ true → (home_of r.homes c).block ≢ d
  cell_away e l d co c v there live same =
      ⊎_elim
      (λ is. free block (z facts) (shown_there facts) (inl (seen facts))
      (ap (λ (n : ℕ). (home_of r.homes n).block) (sym is) ∙ same))
      (λ other. free c v
      (sym (changed_elsewhere (muted r.hides s.world.memory) block c (owned_to (size facts)) other)
      ∙ ap (λ (m : List MemoryBlock). slice_get m c) (sym (owned_muted facts)) ∙ there) (inr live) same)
      (cases_eq c block)
    where
      free : IsFreeOf r.homes r.hides s.world.memory d
      free =
          cell_free facts (record { alloca = e.cell; block = d }) co
          (where_is_name x e (listed_in (early facts) e l))

  away : AreAway owner_rights r.homes mm C.spans
  away =
      each_turns (IsSpanThere facts)
      (λ (q : Span). (c : ℕ) (v : MemoryBlock) → slice_get mm c ≡ Some v → is_live v.life ≡ true
      → IsAway owner_rights r.homes c v q.block q.offset q.len) one C.spans C.inside
    where
      one : (q : Span) → IsSpanThere facts q → (c : ℕ) (v : MemoryBlock) → slice_get mm c ≡ Some v
          → is_live v.life ≡ true → IsAway owner_rights r.homes c v q.block q.offset q.len
      one q (inl f) c v there live =
          subst (λ (p : ℕ × ℕ × ℕ). IsAway owner_rights r.homes c v p.0 p.1 p.2)
          (λ j. (sym f.3 j, sym f.4 j, sym f.5 j))
          (frame_away f.0 f.1 c v there live f.2.place.offset (let i = inside_frame facts f.0 f.1 f.2 in omega (arith, i)))
      one q (inr f) c v there live = λ same j lt opens. absurd (cell_away f.0 f.1 q.block f.2 c v there live same)

  pub refilled : AreRefilled (N facts) n1
  refilled = all_refilled (Q facts) C.spans (N facts) n1 C.over.fills

  pub stands_copied : AreStanding owner_rights (Q facts) r.homes mm n1
  stands_copied = record {
    memory = source_stands owner_rights (Q facts) owner_rights_fit (frame_rights_fit b.given (ys facts)) r.homes mm
        C.spans (N facts) n1 C.over.fills away (stands_owned facts).memory;
    nulls = record { each = λ c o about e. frames_compare b.given (ys facts) ((home_of r.homes c).block) _ _ };
    bounds = bounds_kept r.homes mm (N facts) mm n1 (same_refills mm) refilled (stands_owned facts).bounds;
  }

  -- ---- the frame's block

  pub y1 : IsBlock n1 k (zt facts)
  y1 = is_block (N facts) n1 refilled k (zt facts) (zt_there facts)

  abbrev pub z1 : MemoryBlock
  z1 = record (zt facts) { bytes = y1.bytes }

  stood : Stands owner_rights (Q facts) r.homes n1 block (owned_to (size facts) (z facts))
  stood = stands_copied.memory.each block (owned_to (size facts) (z facts)) owned_there (own facts).live

  stood_is : stood.block ≡ z1
  stood_is =
      same_some stood.block z1
      (sym stood.there ∙ ap (slice_get n1) (block_is facts) ∙ y1.there)

  z1_whole : length z1.bytes ≡ z1.size
  z1_whole =
      ap (λ (q : MemoryBlock). length q.bytes) (sym stood_is) ∙ stood.whole ∙ ap (λ (q : MemoryBlock). q.size) stood_is

  -- with room for each slot
  pub room_there : (d : ℕ) (v : MemoryBlock)
      → IsSlotField (layout_of b.given.layouts s.top.func) d v.size v.align → (c : ℕ)
      → HasRoom owner_rights (Q facts) n1 (record { block = k; offset = 0 + d; is_seen = true }) c v
  room_there d v field c =
      frame_room b.given (ys facts) (length t.instances) (y0 facts) (y0_there facts) (y0_alone facts) n1 z1 y1.there
      (own facts).live z1_whole (zt_small facts) (kinds facts).1
      (let m = frame_fits facts in omega (arith, m)) d v.size v.align field c v refl refl true
