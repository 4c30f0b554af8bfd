-- An instance is resumed, saved, released, freed or at its end: its frame stays where it is, and holds what it should.
use Rattle.std.proofs.Common.{◌≡◌, ℕ, ◌<◌, ◌⊎◌, ⊎_elim, Bool, true, false, List, [], length, Option, Some, refl, sym, ap, ◌∙◌, subst}
use Rattle.std.specs.Prelude.{slice_get, slice_set, is_some}
use Rattle.pass_proofs.proofs.flow_solver.Lists.{set_cases}
use Rattle.pass_proofs.specs.ir_paths.declared.point.Point.{Point}
use Rattle.pass_split_proof.specs.states.Instances.{AreFrames, AreLaidFrames, IsControl, IsHeaded, IsHeadedIn, LiesAligned, is_held}
use Rattle.pass_split_proof.specs.states.Memories.{AreBeside, homes_of}
use Rattle.run_access_worked.proofs.Ended.{rights_same, set_frames}
use Rattle.pass_proofs.specs.run_framed.Framed.{FramedGiven, frame_rights}
use Rattle.pass_proofs.specs.run_laws.memory.Standing.{Embeds}
use Rattle.pass_proofs.specs.run_memory.Memory.{Rights, is_live, owner_rights}
use Rattle.pass_proofs.specs.run_memory.declared.block.Kind.{Kind}
use Rattle.pass_proofs.specs.run_memory.declared.block.MemoryBlock.{MemoryBlock}
use Rattle.pass_proofs.specs.run_memory.declared.pointer.Value.{Value}
use Rattle.pass_proofs.specs.run_source.declared.state.Instance.{Instance}
use Rattle.pass_proofs.specs.run_source.declared.state.Saved.{Saved}
use Rattle.pass_proofs.specs.run_source.declared.state.Status.{Status}

module _ (g : FramedGiven) (xs : List Instance) (m n : List MemoryBlock) (i : ℕ) (x : Instance)
    (e : slice_get xs i ≡ Some x)
    (status : Status) (saved : Option Saved) (released freed : Bool) where
  abbrev now : Instance
  now = record x { status = status; last_save = saved; released = released; freed = freed }

  abbrev after : List Instance
  after = slice_set xs i now

  pub changed_rights : frame_rights g after ≡ frame_rights g xs
  changed_rights
      = rights_same g xs after (set_frames xs i x now e (record { coroutine = refl; block = refl; start = refl }))

  -- the memories stand beside each other as before
  pub changed_beside : AreBeside g xs m n → AreBeside g after m n
  changed_beside beside = record {
    twins = beside.twins;
    stands = subst (λ (r : Rights). Embeds r owner_rights (homes_of m) m n) (sym changed_rights) beside.stands;
  }

  -- what holds of the changed one and of the others
  each_of : (P : Instance → Type 0) → (j : ℕ) (z : Instance) → slice_get after j ≡ Some z → P now
      → (slice_get xs j ≡ Some z → P z) → P z
  each_of P j z f here there = ⊎_elim (λ h. subst P (sym h.1) here) (λ h. there h.0) (set_cases xs i j now z f)

  module _ (held : is_held m now ≡ true → is_held m x ≡ true) (fresh : freed ≡ false → x.freed ≡ false)
      (gone : (y : MemoryBlock) → freed ≡ true → slice_get m x.block ≡ Some y → y.kind ≡ Kind.Allocator
      → is_live y.life ≡ false) where
    was_closed : AreLaidFrames g xs m → (j : ℕ) (z : Instance) (y : MemoryBlock) (at : ℕ) → slice_get after j ≡ Some z
        → is_held m z ≡ true → IsControl g z z.block at → (frame_rights g xs).is_closed z.block y at 1 ≡ true
    was_closed frames j z y at f h c = each_of (λ (w : Instance). is_held m w ≡ true → IsControl g w w.block at
        → (frame_rights g xs).is_closed w.block y at 1 ≡ true) j z f
        (λ h' c'. frames.closed i x y at e (held h') c')
        (λ f' h' c'. frames.closed j z y at f' h' c') h c

    -- an instance of the list with where it was and what it was
    record Was (j : ℕ) (z : Instance) : Type 0 where
      old : Instance
      there : slice_get xs j ≡ Some old
      controls : (block at : ℕ) → IsControl g z block at → IsControl g old block at
      held_too : is_held m z ≡ true → is_held m old ≡ true

    was : (j : ℕ) (z : Instance) → slice_get after j ≡ Some z → Was j z
    was j z f = ⊎_elim
        (λ h. subst (Was j) (sym h.1) (record {
          old = x;
          there = ap (slice_get xs) h.0 ∙ e;
          controls = λ block at c. c;
          held_too = held;
        }))
        (λ h. record { old = z; there = h.0; controls = λ block at c. c; held_too = λ k. k })
        (set_cases xs i j now z f)

    pub changed_laid : AreLaidFrames g xs m → AreLaidFrames g after m
    changed_laid frames = record {
      known = λ j z f. each_of (λ (w : Instance). w.block < length m) j z f (frames.known i x e)
          (λ f'. frames.known j z f');
      slots = λ j z f. each_of (λ (w : Instance). w.slots ≡ []) j z f (frames.slots i x e) (λ f'. frames.slots j z f');
      owned = λ j z y f unfreed at live kind. each_of (λ (w : Instance). w.freed ≡ false → slice_get m w.block ≡ Some y
          → is_some y.owned ≡ true) j z f
          (λ unfreed' at'. frames.owned i x y e (fresh unfreed') at' live kind)
          (λ f' unfreed' at'. frames.owned j z y f' unfreed' at' live kind) unfreed at;
      gone = λ j z y f over at kind. each_of (λ (w : Instance). w.freed ≡ true → slice_get m w.block ≡ Some y
          → is_live y.life ≡ false) j z f
          (λ over' at'. gone y over' at' kind) (λ f' over' at'. frames.gone j z y f' over' at' kind) over at;
      lies = λ j z y f at. each_of (λ (w : Instance). slice_get m w.block ≡ Some y → LiesAligned g w y) j z f
          (λ at'. let h = frames.lies i x y e at'
          in record { alignment = h.alignment; block = h.block; start = h.start; inside = h.inside })
          (λ f' at'. frames.lies j z y f' at') at;
      closed = λ j z y at f h c. ap (λ (r : Rights). r.is_closed z.block y at 1) changed_rights
          ∙ was_closed frames j z y at f h c;
      apart = λ j k z w at ne f f' h h' c d. let a = was j z f in let b = was k w f' in
          frames.apart j k a.old b.old at ne a.there b.there (a.held_too h) (b.held_too h')
          (same_block a.old z (a.controls z.block at c)) (subst (λ (q : ℕ). IsControl g b.old q at)
          (back a.old z (a.controls z.block at c)) (b.controls z.block at d));
    }
      where
        same_block : (old z : Instance) {at : ℕ} → IsControl g old z.block at → IsControl g old old.block at
        same_block old z c = (refl, c.1)

        back : (old z : Instance) {at : ℕ} → IsControl g old z.block at → z.block ≡ old.block
        back old z c = sym c.0

    -- and so do the frames, where the changed one holds what it should
    pub changed_frames : AreFrames g xs m n → (is_held m now ≡ true → IsHeadedIn g m n now) → AreFrames g after m n
    changed_frames frames headed = record {
      laid = changed_laid frames.laid;
      headed = λ j z f h. each_of (λ (w : Instance). is_held m w ≡ true → IsHeadedIn g m n w) j z f headed
          (λ f' h'. frames.headed j z f' h') h;
    }

-- ---- where it isn't freed then

module _ (g : FramedGiven) (xs : List Instance) (m n : List MemoryBlock) (i : ℕ) (x : Instance)
    (e : slice_get xs i ≡ Some x)
    (status : Status) (saved : Option Saved) (released : Bool) where
  abbrev other : Instance
  other = record x { status = status; last_save = saved; released = released }

  abbrev others : List Instance
  others = slice_set xs i other

  pub status_rights : frame_rights g others ≡ frame_rights g xs
  status_rights = changed_rights g xs m n i x e status saved released x.freed

  pub status_beside : AreBeside g xs m n → AreBeside g others m n
  status_beside beside = changed_beside g xs m n i x e status saved released x.freed beside

  module _ (held : is_held m other ≡ true → is_held m x ≡ true) where
    pub status_laid : AreLaidFrames g xs m → AreLaidFrames g others m
    status_laid frames = changed_laid g xs m n i x e status saved released x.freed held (λ f. f)
        (λ y freed there kind. frames.gone i x y e freed there kind) frames

    pub status_frames : AreFrames g xs m n → (is_held m other ≡ true → IsHeadedIn g m n other) → AreFrames g others m n
    status_frames frames headed = changed_frames g xs m n i x e status saved released x.freed held (λ f. f)
        (λ y freed there kind. frames.laid.gone i x y e freed there kind) frames headed

  -- a running instance has no index that anyone asks for
  pub runs_headed : {given : Bool} → IsHeaded g n given x → (status ≡ Status.Running) ⊎ (status ≡ Status.Finished)
      → IsHeaded g n given other
  runs_headed h is = record {
    destroyer = h.destroyer;
    stands = h.stands;
    is = h.is;
    right = h.right;
    destroys = h.destroys;
    saved = λ suspend values e. absurd (⊎_elim (λ s. none (sym s ∙ e)) (λ s. none' (sym s ∙ e)) is);
  }
    where
      none : {suspend : Point} {values : List (Option Value)} → Status.Running ≡ Status.Suspended suspend values → ⊥
      none e = cc

      none' : {suspend : Point} {values : List (Option Value)} → Status.Finished ≡ Status.Suspended suspend values → ⊥
      none' e = cc
