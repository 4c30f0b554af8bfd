-- A block and its home die, and slots of the source with them: the relation holds.
use Rattle.std.proofs.Common.{◌≡◌, ◌≢◌, ◌⊎◌, ◌+◌, ◌<◌, ◌||◌, ◌∷◌, ◌∙◌, [], Bool, List, None, Option, Some, ap, arith, false, inl, inr, length, not, refl, subst, suc, sym, true, zero, ℕ, ⊎_elim}
use Rattle.std.specs.List.{Contains}
use Rattle.std.specs.Prelude.{option_map, slice_get}
use Rattle.pass_frames_code.proofs.ir_laws.facts.Lists.{get_within}
use Rattle.pass_frames_code.proofs.ir_laws.facts.Truth.{is_number}
use Rattle.pass_frames_code.specs.ir_paths.declared.point.Point.{Point}
use Rattle.pass_frames_code.specs.pass_fetch.Fetching.{value_bytes}
use Rattle.pass_frames_code.specs.pass_frames.Tables.{offset_at}
use Rattle.pass_frames_steps.proofs.asking.Found.{known_block}
use Rattle.pass_frames_code.proofs.moved.Instances.{owner_places, rights_stay}
use Rattle.pass_frames_code.proofs.moved.Rest.{fields_on, instance_on, related_on}
use Rattle.pass_frames_code.specs.run_laws.transfer.Places.{AreStanding}
use Rattle.pass_frames_code.specs.Framings.{IsFraming}
use Rattle.pass_frames_code.specs.Heaps.{MayGiveBack}
use Rattle.pass_frames_code.specs.Moved.{MovesRest}
use Rattle.pass_frames_code.specs.Related.{AreBuiltOf, AreInstances, AreMates, Building, IsFreeOf, is_coroutine, is_slot}
use Rattle.pass_frames_code.proofs.pass_renewed_proof.Listing.{contains_first, contains_more}
use Rattle.pass_frames_code.specs.run_access_worked.Frames.{AreSameFrames}
use Rattle.pass_frames_code.specs.run_framed.Framed.{frame_rights}
use Rattle.pass_frames_code.proofs.run_laws.access.Held.{same_held}
use Rattle.pass_frames_code.proofs.run_laws.embedded.Deallocated.{kills_carried}
use Rattle.pass_frames_code.proofs.run_laws.memory.Itself.{owner_rights_fit}
use Rattle.pass_frames_code.proofs.run_laws.memory.Written.{changed_elsewhere, changed_here, same_some}
use Rattle.pass_frames_code.proofs.run_laws.transfer.Muted.{muted_change}
use Rattle.pass_frames_code.proofs.run_laws.transfer.Places.{fewer_stand, muted_at}
use Rattle.pass_frames_code.specs.run_laws.access.Lines.{Holds}
use Rattle.pass_frames_code.specs.run_laws.embedded.Making.{whole_home}
use Rattle.pass_frames_code.specs.run_laws.embedded.Related.{AreWorks, AreWorlds}
use Rattle.pass_frames_code.specs.run_laws.memory.Pointers.{Home, home_of}
use Rattle.pass_frames_code.specs.run_laws.transfer.Muted.{ended_if, muted}
use Rattle.pass_frames_code.specs.run_laws.transfer.Places.{HasFewer}
use Rattle.pass_frames_code.specs.run_laws.transfer.Transfer.{AreOver, muted_world}
use Rattle.pass_frames_code.proofs.run_access_worked.run_laws_worked.Frames.{frame_rights_fit}
use Rattle.pass_frames_code.specs.run_memory.Memory.{Rights, is_live, killed, killed_block, may_compare_at, owner_rights}
use Rattle.pass_frames_code.specs.run_memory.declared.block.Byte.{Byte}
use Rattle.pass_frames_code.specs.run_memory.declared.block.MemoryBlock.{MemoryBlock}
use Rattle.pass_frames_code.specs.run_memory.declared.pointer.Offset.{Offset}
use Rattle.pass_frames_code.specs.run_source.State.{is_suspended}
use Rattle.pass_frames_code.specs.run_source.declared.state.Instance.{Instance}
use Rattle.pass_frames_code.specs.run_source.declared.state.State.{State}
use Rattle.pass_frames_code.specs.run_source.declared.state.Status.{Status}
use Rattle.pass_frames_code.specs.run_step.Step.{Work, set_memory, without_slots}
use Rattle.pass_frames_code.specs.run_step.Values.{Env}
use Rattle.pass_frames_code.specs.run_step.declared.world.Slot.{Slot}
use Rattle.pass_frames_code.specs.run_step.declared.world.World.{World}

-- ---- memories in which blocks have died

-- a block and what it was
pub record WasThere (m : List MemoryBlock) (Dies : ℕ → Type 0) (c : ℕ) (x : MemoryBlock) : Type 0 where
  pub old : MemoryBlock
  pub there : slice_get m c ≡ Some old
  pub is : (x ≡ old) ⊎ ((x ≡ killed_block old) × Dies c)

pub killed_was : (m : List MemoryBlock) (d c : ℕ) (x : MemoryBlock) → slice_get (killed m d) c ≡ Some x
    → WasThere m (λ e. d ≡ e) c x
killed_was [] d c x e = absurd (cc)
killed_was (y ∷ m) zero zero x e = record { old = y; there = refl; is = inr (sym (same_some (killed_block y) x e), refl) }
killed_was (y ∷ m) zero (suc c) x e = record { old = x; there = e; is = inl refl }
killed_was (y ∷ m) (suc d) zero x e = record { old = x; there = e; is = inl refl }
killed_was (y ∷ m) (suc d) (suc c) x e =
    let h = killed_was m d c x e in
    record { old = h.old; there = h.there; is = ⊎_elim (λ k. inl k) (λ k. inr (k.0, ap suc k.1)) h.is }

pub killed_many : (m : List MemoryBlock) (d : ℕ) → length (killed m d) ≡ length m
killed_many [] d = refl
killed_many (y ∷ m) zero = refl
killed_many (y ∷ m) (suc d) = ap suc (killed_many m d)

abbrev pub IsSlotBlock : List Slot → ℕ → Type 0
IsSlotBlock slots c = (slot : Slot) × Contains slots slot × (slot.block ≡ c)

one_more : (m : List MemoryBlock) (z : Slot) (slots : List Slot) (c : ℕ) (x : MemoryBlock)
    → WasThere (killed m z.block) (IsSlotBlock slots) c x → WasThere m (IsSlotBlock (z ∷ slots)) c x
one_more m z slots c x h = on h.is first.is
  where
    first : WasThere m (λ d. z.block ≡ d) c h.old
    first = killed_was m z.block c h.old h.there

    more : IsSlotBlock slots c → IsSlotBlock (z ∷ slots) c
    more k = (k.0, contains_more z slots k.0 k.1, k.2)

    here : z.block ≡ c → IsSlotBlock (z ∷ slots) c
    here k = (z, contains_first z slots, k)

    on : (x ≡ h.old) ⊎ ((x ≡ killed_block h.old) × IsSlotBlock slots c)
        → (h.old ≡ first.old) ⊎ ((h.old ≡ killed_block first.old) × (z.block ≡ c))
        → WasThere m (IsSlotBlock (z ∷ slots)) c x
    on (inl a) (inl k) = record { old = first.old; there = first.there; is = inl (a ∙ k) }
    on (inl a) (inr k) = record { old = first.old; there = first.there; is = inr (a ∙ k.0, here k.1) }
    on (inr a) (inl k) =
        record { old = first.old; there = first.there; is = inr (a.0 ∙ ap killed_block k, more a.1) }
    on (inr a) (inr k) =
        record { old = first.old; there = first.there; is = inr (a.0 ∙ ap killed_block k.0, more a.1) }

pub slots_were : (m : List MemoryBlock) (slots : List Slot) (c : ℕ) (x : MemoryBlock)
    → slice_get (without_slots m slots) c ≡ Some x → WasThere m (IsSlotBlock slots) c x
slots_were m [] c x e = record { old = x; there = e; is = inl refl }
slots_were m (z ∷ slots) c x e = one_more m z slots c x (slots_were (killed m z.block) slots c x e)

pub slots_many : (m : List MemoryBlock) (slots : List Slot) → length (without_slots m slots) ≡ length m
slots_many m [] = refl
slots_many m (z ∷ slots) = slots_many (killed m z.block) slots ∙ killed_many m z.block

-- what counts as ended or not
record WasMuted (hides : ℕ → Bool) (m : List MemoryBlock) (c : ℕ) (x : MemoryBlock) : Type 0 where
  block : MemoryBlock
  there : slice_get m c ≡ Some block
  is : ended_if (hides c) block ≡ x

muted_some : (hides : ℕ → Bool) (m : List MemoryBlock) (c : ℕ) (x : MemoryBlock)
    → slice_get (muted hides m) c ≡ Some x → WasMuted hides m c x
muted_some hides m c x e = on (slice_get m c) refl (sym (muted_at hides m c) ∙ e)
  where
    on : (o : Option MemoryBlock) → slice_get m c ≡ o → option_map (ended_if (hides c)) o ≡ Some x
        → WasMuted hides m c x
    on None d h = absurd (cc)
    on (Some z) d h = record { block = z; there = d; is = same_some (ended_if (hides c) z) x h }

dead_anyway : (h : Bool) (x : MemoryBlock) → is_live (ended_if h (killed_block x)).life ≡ false
dead_anyway true x = refl
dead_anyway false x = refl

same_size : (h : Bool) (x : MemoryBlock) → (ended_if h x).size ≡ x.size
same_size true x = refl
same_size false x = refl

-- ---- the states

module _ (b : Building) (s t : State) (r : AreBuiltOf b s t)
    (framings : (func : ℕ) → is_coroutine b func ≡ true → IsFraming (b.framing func)) (n k : ℕ)
    (home : home_of r.homes n ≡ whole_home k) (slots : List Slot)
    (placed : (slot : Slot) → Contains slots slot → (home_of r.homes slot.block).block ≡ k)
    (may : MayGiveBack b s t r n k slots) (ys : List Instance) (same : AreSameFrames t.instances ys) where
  abbrev R : Rights
  R = frame_rights b.given t.instances

  abbrev Q : Rights
  Q = frame_rights b.given ys

  rights : Q ≡ R
  rights = rights_stay b s t r framings ys same

  abbrev m : List MemoryBlock
  m = without_slots s.world.memory slots

  abbrev pub w : World
  w = record s.world { memory = killed m n }

  abbrev pub u : World
  u = record t.world { memory = killed t.world.memory k }

  abbrev Dies : ℕ → Type 0
  Dies c = (n ≡ c) ⊎ IsSlotBlock slots c

  was : (c : ℕ) (x : MemoryBlock) → slice_get (killed m n) c ≡ Some x → WasThere s.world.memory Dies c x
  was c x e = on h.is z.is
    where
      h : WasThere m (λ d. n ≡ d) c x
      h = killed_was m n c x e

      z : WasThere s.world.memory (IsSlotBlock slots) c h.old
      z = slots_were s.world.memory slots c h.old h.there

      on : (x ≡ h.old) ⊎ ((x ≡ killed_block h.old) × (n ≡ c))
          → (h.old ≡ z.old) ⊎ ((h.old ≡ killed_block z.old) × IsSlotBlock slots c)
          → WasThere s.world.memory Dies c x
      on (inl a) (inl d) = record { old = z.old; there = z.there; is = inl (a ∙ d) }
      on (inl a) (inr d) = record { old = z.old; there = z.there; is = inr (a ∙ d.0, inr d.1) }
      on (inr a) (inl d) = record { old = z.old; there = z.there; is = inr (a.0 ∙ ap killed_block d, inl a.1) }
      on (inr a) (inr d) = record { old = z.old; there = z.there; is = inr (a.0 ∙ ap killed_block d.0, inl a.1) }

  many : length (killed m n) ≡ length s.world.memory
  many = killed_many m n ∙ slots_many s.world.memory slots

  known : n < length s.world.memory
  known = known_block b s t r n k home

  shown : r.hides n ≡ false
  shown = on (r.hides n) refl
    where
      on : (h : Bool) → r.hides n ≡ h → r.hides n ≡ false
      on false e = e
      on true e = let no : true ≡ false = sym (ap (λ (q : Home). q.is_seen) home) ∙ r.hidden n e in absurd (cc)

  -- ---- the memories

  nulls_there : (c : ℕ) (x : Option MemoryBlock) (o : Offset) → may_compare_at R c x o ≡ true
  nulls_there c None o = refl
  nulls_there c (Some x) o = either (is_live x.life)
    where
      either : (h : Bool) → (not h || true) ≡ true
      either true = refl
      either false = refl

  fewer : HasFewer R r.homes (muted r.hides s.world.memory) (muted r.hides m) t.world.memory
  fewer = record { live = lives; nulls = λ c seen. inr (record { each = λ o. nulls_there (home_of r.homes c).block _ _ }); sizes = sizes }
    where
      lives : (c : ℕ) (x : MemoryBlock) → slice_get (muted r.hides m) c ≡ Some x → is_live x.life ≡ true
          → slice_get (muted r.hides s.world.memory) c ≡ Some x
      lives c x e live = on h.is
        where
          z : WasMuted r.hides m c x
          z = muted_some r.hides m c x e

          h : WasThere s.world.memory (IsSlotBlock slots) c z.block
          h = slots_were s.world.memory slots c z.block z.there

          on : (z.block ≡ h.old) ⊎ ((z.block ≡ killed_block h.old) × IsSlotBlock slots c)
              → slice_get (muted r.hides s.world.memory) c ≡ Some x
          on (inl d) =
              muted_at r.hides s.world.memory c ∙ ap (option_map (ended_if (r.hides c))) h.there
              ∙ ap (λ (y : MemoryBlock). Some (ended_if (r.hides c) y)) (sym d) ∙ ap Some z.is
          on (inr d) =
              let no : true ≡ false =
              sym live ∙ ap (λ (y : MemoryBlock). is_live y.life) (sym z.is)
              ∙ ap (λ (y : MemoryBlock). is_live (ended_if (r.hides c) y).life) d.0
              ∙ dead_anyway (r.hides c) h.old in
              absurd (cc)

      sizes : (c : ℕ) (x : MemoryBlock) → slice_get (muted r.hides m) c ≡ Some x
          → (y : MemoryBlock) × (slice_get (muted r.hides s.world.memory) c ≡ Some y) × (y.size ≡ x.size)
      sizes c x e =
          let z = muted_some r.hides m c x e in
          let h = slots_were s.world.memory slots c z.block z.there in (
            ended_if (r.hides c) h.old,
            muted_at r.hides s.world.memory c ∙ ap (option_map (ended_if (r.hides c))) h.there,
            same_size (r.hides c) h.old
                ∙ ⊎_elim (λ d. ap (λ (y : MemoryBlock). y.size) (sym d)) (λ d. ap (λ (y : MemoryBlock). y.size) (sym d.0))
                h.is
                ∙ sym (same_size (r.hides c) z.block) ∙ ap (λ (y : MemoryBlock). y.size) z.is,
          )

  stands : AreStanding owner_rights R r.homes (muted r.hides m) t.world.memory
  stands =
      fewer_stand owner_rights R r.homes (muted r.hides s.world.memory) (muted r.hides m) t.world.memory fewer
      (record { memory = r.world.memory; nulls = r.world.nulls; bounds = r.world.bounds })

  abbrev W : Work
  W = record { world = muted_world r.hides (record s.world { memory = m }); values = [] }

  abbrev X : Work
  X = record { world = t.world; values = [] }

  works : AreWorks owner_rights R r.homes (λ d. d) W X
  works = record {
    world = record {
      memory = stands.memory;
      nulls = stands.nulls;
      bounds = stands.bounds;
      events = r.world.events;
      answers = r.world.answers;
      allocs = r.world.allocs;
    };
    values = record { each = λ v. tt; room = omega arith };
  }

  both_dead : AreWorks owner_rights R r.homes (λ d. d) (set_memory W (killed (muted r.hides m) n))
      (set_memory X (killed t.world.memory (home_of r.homes n).block))
  both_dead =
      kills_carried owner_rights R r.homes (λ d. d) W X owner_rights_fit (frame_rights_fit b.given t.instances) works n
      may.alone

  over : AreOver owner_rights Q r.homes r.hides (λ d. d) w u
  over =
      subst (λ (z : Rights). AreOver owner_rights z r.homes r.hides (λ d. d) w u) (sym rights)
      (subst
      (λ (z : List MemoryBlock × ℕ). AreWorlds owner_rights R r.homes (λ d. d) (record s.world { memory = z.0 })
      (record t.world { memory = killed t.world.memory z.1 }))
      (λ j. (muted_change r.hides m n killed_block shown j, ap (λ (q : Home). q.block) home j)) both_dead.world)

  -- ---- what is left

  elsewhere : (e : ℕ) → e ≢ k → slice_get (killed t.world.memory k) e ≡ slice_get t.world.memory e
  elsewhere e ne = changed_elsewhere t.world.memory k e killed_block ne

  held : (e : ℕ) → e ≢ k → (o most : ℕ) (bytes : List Byte) → Holds R t.world.memory e o most bytes
      → Holds Q u.memory e o most bytes
  held e ne o most bytes h =
      subst (λ (z : Rights). Holds z u.memory e o most bytes) (sym rights)
      (same_held R t.world.memory (killed t.world.memory k) e o most bytes (elsewhere e ne) h)

  free_left : (block : ℕ) → IsFreeOf r.homes r.hides s.world.memory block
      → IsFreeOf r.homes r.hides (killed m n) block
  free_left block free c x e about = on about
    where
      z : WasMuted r.hides (killed m n) c x
      z = muted_some r.hides (killed m n) c x e

      h : WasThere s.world.memory Dies c z.block
      h = was c z.block z.there

      old_there : slice_get (muted r.hides s.world.memory) c ≡ Some (ended_if (r.hides c) h.old)
      old_there = muted_at r.hides s.world.memory c ∙ ap (option_map (ended_if (r.hides c))) h.there

      on : ((home_of r.homes c).is_seen ≡ true) ⊎ (is_live x.life ≡ true) → (home_of r.homes c).block ≡ block → ⊥
      on (inl seen) = free c (ended_if (r.hides c) h.old) old_there (inl seen)
      on (inr live) =
          ⊎_elim
          (λ d. free c (ended_if (r.hides c) h.old) old_there
          (inr (ap (λ (y : MemoryBlock). is_live (ended_if (r.hides c) y).life) (sym d)
          ∙ ap (λ (y : MemoryBlock). is_live y.life) z.is ∙ live)))
          (λ d. let no : true ≡ false =
          sym live ∙ ap (λ (y : MemoryBlock). is_live y.life) (sym z.is)
          ∙ ap (λ (y : MemoryBlock). is_live (ended_if (r.hides c) y).life) d.0
          ∙ dead_anyway (r.hides c) h.old in absurd (cc)) h.is

  rest : MovesRest b s t r (s.top ∷ s.below) (t.top ∷ t.below) r.homes r.hides ys w u
  rest = record {
    framings = framings;
    seen = record { each = λ c e. refl };
    slots = λ a l slot e. (refl, refl);
    owners = λ c l is. owner_places t.instances ys same c.instance;
    cells = λ c l is slot e name o most bytes. held slot.block (may.no_alloca c l slot e) o most bytes;
    returned = λ a c y z j l is own now from h.
        let no : None ≡ Some j = sym (may.inside a l is) ∙ from in absurd (cc);
    free = λ c l is slot e name. free_left slot.block;
    ahead = λ x c name align ty l one. record {
      block = one.block;
      address = one.address;
      own = one.own;
      free = free_left one.block one.free;
      bytes = one.bytes;
      sized = one.sized;
      there = elsewhere one.block (may.no_alloca c l (record { alloca = name; block = one.block }) one.own)
          ∙ one.there;
    };
  }

  -- an instance that stays: where it is suspended its frame lies in another block
  pub instance_left : (xs : List Instance) (i : ℕ) (x y : Instance) → slice_get s.instances i ≡ Some x
      → AreInstances b r.homes t x y → AreInstances b r.homes (record t { world = u; instances = ys }) x y
  instance_left xs i x y e h =
      instance_on b s t r (s.top ∷ s.below) (t.top ∷ t.below) r.homes r.hides xs ys w u rest t.top x y
      (λ p env is live j number.
      fields_on R Q t.world.memory u.memory r.homes r.homes (record { each = λ c e. refl }) (b.framing x.coroutine) j env
      y.block y.start
      (λ v position kv kept crosses at bytes long.
      held y.block (λ q. other p env is live q) (y.start + offset_at (b.framing x.coroutine).layout position)
      (value_bytes kv.field_ty) bytes)) h
    where
      other : (p : Point) (env : Env) → x.status ≡ Status.Suspended p env → x.freed ≡ false → y.block ≡ k → ⊥
      other p env is live q =
          may.owners i x e (ap is_suspended is) live
          (r.mates.alone x.block n k (known_block b s t r x.block y.block h.block) known
          (h.block ∙ ap whole_home q) home)

  abbrev Mate : ℕ → MemoryBlock → Type 0
  Mate q x = (bytes : List Byte) × (slice_get u.memory q ≡ Some (record x { bytes = bytes }))

  mates_left : AreMates r.homes w.memory u.memory
  mates_left = record {
    whole = λ c x e no_slot.
        let h = was c x e in
        r.mates.whole c h.old h.there
        (⊎_elim (λ d. ap (λ (z : MemoryBlock). is_slot z) (sym d))
        (λ d. ap (λ (z : MemoryBlock). is_slot z) (sym d.0)) h.is ∙ no_slot);
    each = λ c q x e there. ⊎_elim (λ d. at_home c q x e there d) (λ d. other c q x e there d) (is_number c n);
    alone = λ c d q lt lt'.
        r.mates.alone c d q (subst (λ (z : ℕ). c < z) many lt) (subst (λ (z : ℕ). d < z) many lt');
  }
    where
      dies_there : (c : ℕ) (x : MemoryBlock) (e : slice_get (killed m n) c ≡ Some x) → c ≡ n
          → (h : WasThere s.world.memory Dies c x) → x ≡ killed_block h.old
      dies_there c x e d h = ⊎_elim (λ a. at_block (slots_of_it) a) (λ a. a.0) h.is
        where
          slots_of_it : WasThere m (λ e. n ≡ e) c x
          slots_of_it = killed_was m n c x e

          at_block : WasThere m (λ e. n ≡ e) c x → x ≡ h.old → x ≡ killed_block h.old
          at_block z a =
              let now : slice_get (killed m n) c ≡ Some (killed_block z.old) =
              ap (λ (v : ℕ). slice_get (killed m v) c) (sym d) ∙ changed_here m c killed_block z.old z.there in
              let is : x ≡ killed_block z.old = same_some x (killed_block z.old) (sym e ∙ now) in
              is ∙ ap killed_block (sym is) ∙ ap killed_block a

      -- the block that is given back
      at_home : (c q : ℕ) (x : MemoryBlock) → slice_get (killed m n) c ≡ Some x → home_of r.homes c ≡ whole_home q
          → c ≡ n → Mate q x
      at_home c q x e there d =
          let h = was c x e in
          let at : k ≡ q =
          ap (λ (z : Home). z.block) (sym home ∙ ap (home_of r.homes) (sym d) ∙ there) in
          let mate = r.mates.each c q h.old h.there there in
          let dead : x ≡ killed_block h.old = dies_there c x e d h in (
            [],
            ap (λ (z : ℕ). slice_get (killed t.world.memory z) q) at
                ∙ changed_here t.world.memory q killed_block (record h.old { bytes = mate.0 }) mate.1
                ∙ ap (λ (z : MemoryBlock). Some (record z { bytes = [] })) (sym dead),
          )

      other : (c q : ℕ) (x : MemoryBlock) → slice_get (killed m n) c ≡ Some x → home_of r.homes c ≡ whole_home q
          → (c ≡ n → ⊥) → Mate q x
      other c q x e there ne = on h.is
        where
          h : WasThere s.world.memory Dies c x
          h = was c x e

          lt : c < length s.world.memory
          lt = get_within s.world.memory c h.old h.there

          apart : q ≢ k
          apart d = ne (r.mates.alone c n k lt known (there ∙ ap whole_home d) home)

          on : (x ≡ h.old) ⊎ ((x ≡ killed_block h.old) × Dies c) → Mate q x
          on (inl d) =
              let mate = r.mates.each c q h.old h.there there in (
                mate.0,
                elsewhere q apart ∙ mate.1
                    ∙ ap (λ (z : MemoryBlock). Some (record z { bytes = mate.0 })) (sym d),
              )
          on (inr (a, inl d)) = absurd (ne (sym d))
          on (inr (a, inr d)) =
              absurd (apart (ap (λ (z : Home). z.block) (sym there) ∙ ap (λ (z : ℕ). (home_of r.homes z).block) (sym d.2)
              ∙ placed d.0 d.1))

  pub given_back : (xs : List Instance) → length ys ≡ length xs
      → ((i : ℕ) (x y : Instance) → slice_get xs i ≡ Some x → slice_get ys i ≡ Some y
      → AreInstances b r.homes (record t { world = u; instances = ys }) x y)
      → AreBuiltOf b (record s { world = w; instances = xs }) (record t { world = u; instances = ys })
  given_back xs count instances =
      related_on b s t r r.homes r.hides xs ys w u rest (record {
        world = over;
        known = r.known ∙ sym many;
        globals = r.globals;
        mates = mates_left;
        hidden = r.hidden;
        count = count;
        instances = instances;
      })
