-- A marker that both runs execute: a block that stands alone in its home starts or ends with it.
use Rattle.std.proofs.Common.{◌≡◌, ◌≢◌, ◌<◌, ◌∷◌, ◌∙◌, if◌then◌else◌, Bool, List, None, Option, Some, ap, arith, false, inl, length, refl, replicate, subst, sym, true, ℕ, ⊎_elim}
use Rattle.std.proofs.lemmas.Bool.{cases_eq}
use Rattle.std.specs.List.{Contains}
use Rattle.std.specs.Prelude.{slice_get}
use Rattle.pass_frames_code.specs.flow_solver.Paths.{IsListed}
use Rattle.pass_frames_code.proofs.ir_laws.facts.Lists.{get_within}
use Rattle.pass_frames_code.specs.ir_model.Ty.{Ty}
use Rattle.pass_frames_code.specs.pass_copies.declared.slot.EarlySlot.{EarlySlot}
use Rattle.pass_frames_steps.proofs.allocating.Both.{each_index}
use Rattle.pass_frames_steps.proofs.allocating.Lives.{Early, Itself, Placed, WhoLives, who_lives}
use Rattle.pass_frames_steps.proofs.allocating.Made.{fields_more, right_more}
use Rattle.pass_frames_steps.proofs.allocating.Rights.{frames_compare, outside_rights}
use Rattle.pass_frames_steps.proofs.allocating.Whole.{below_other}
use Rattle.pass_frames_steps.proofs.marking.Changed.{free_changed}
use Rattle.pass_frames_steps.proofs.marking.Marks.{IsMarkedAt, mark, mark_is, marked_at}
use Rattle.pass_frames_code.proofs.stepping.Rest.{LeavesRest, got, seen_known}
use Rattle.pass_frames_code.specs.Marking.{IsWholeMarked}
use Rattle.pass_frames_code.specs.Places.{Framing, copies}
use Rattle.pass_frames_code.specs.Related.{AreBuiltOf, AreInstances, AreMates, Building, IsAhead, IsFreeOf, IsWholeSlot, instance_in, is_coroutine}
use Rattle.pass_frames_code.specs.Slotted.{HasListedSlots}
use Rattle.pass_frames_code.specs.Stepping.{AreGiven}
use Rattle.pass_frames_code.specs.pass_renewed_proof.Renewed.{RenewedGiven}
use Rattle.pass_frames_code.specs.run_framed.Framed.{frame_rights}
use Rattle.pass_frames_code.proofs.run_laws.embedded.Mirrors.{bounds_changed, dies_embedded, ended_dead, starts_embedded}
use Rattle.pass_frames_code.proofs.run_laws.memory.Itself.{owner_rights_fit}
use Rattle.pass_frames_code.proofs.run_laws.memory.Written.{changed_elsewhere, changed_here}
use Rattle.pass_frames_code.proofs.run_laws.transfer.Muted.{muted_change, muted_get}
use Rattle.pass_frames_code.specs.run_laws.access.Lines.{Holds}
use Rattle.pass_frames_code.specs.run_laws.changed.Changed.{Each}
use Rattle.pass_frames_code.specs.run_laws.embedded.Making.{whole_home}
use Rattle.pass_frames_code.specs.run_laws.embedded.Marks.{LivesAlone, MayStart, anew}
use Rattle.pass_frames_code.specs.run_laws.memory.Pointers.{Home, home_of}
use Rattle.pass_frames_code.specs.run_laws.memory.Standing.{AreBoundsKept, AreNullsKept, Embeds, HasRights}
use Rattle.pass_frames_code.specs.run_laws.transfer.Muted.{muted}
use Rattle.pass_frames_code.specs.run_laws.transfer.Transfer.{AreOver}
use Rattle.pass_frames_code.proofs.run_access_worked.run_laws_worked.Frames.{frame_rights_fit}
use Rattle.pass_frames_code.specs.run_memory.Memory.{Rights, is_killed, owner_rights, with_block}
use Rattle.pass_frames_code.specs.run_memory.declared.block.Byte.{Byte}
use Rattle.pass_frames_code.specs.run_memory.declared.block.Life.{Life}
use Rattle.pass_frames_code.specs.run_memory.declared.block.MemoryBlock.{MemoryBlock}
use Rattle.pass_frames_code.specs.run_source.declared.state.Activation.{Activation}
use Rattle.pass_frames_code.specs.run_source.declared.state.Instance.{Instance}
use Rattle.pass_frames_code.specs.run_source.declared.state.State.{State}
use Rattle.pass_frames_code.specs.run_step.declared.world.Slot.{Slot}
use Rattle.pass_frames_code.specs.run_step.declared.world.World.{World}

-- ---- a mate is marked alike

marked_mate : (starts : Bool) (x : MemoryBlock) (bs : List Byte)
    → (cs : List Byte) × (mark starts (record x { bytes = bs }) ≡ record (mark starts x) { bytes = cs })
marked_mate true x bs = on (is_killed x.life)
  where
    on : (c : Bool) → (cs : List Byte) × ((if c then record x { bytes = bs } else record x {
      life = Life.Live;
      bytes = replicate x.size Byte.Undefined;
    }) ≡ record (if c then x else record x { life = Life.Live; bytes = replicate x.size Byte.Undefined }) {
      bytes = cs;
    })
    on true = (bs, refl)
    on false = (replicate x.size Byte.Undefined, refl)
marked_mate false x bs = on (is_killed x.life)
  where
    on : (c : Bool) → (cs : List Byte) × ((if c then record x { bytes = bs } else record x {
      life = Life.Ended;
      bytes = bs;
    }) ≡ record (if c then x else record x { life = Life.Ended }) { bytes = cs })
    on true = (bs, refl)
    on false = (bs, refl)

module _ (b : Building) (g : RenewedGiven) (given : AreGiven b g) (s t : State) (r : AreBuiltOf b s t) (starts : Bool)
    (name : ℕ) (slot : Slot) (z : IsWholeMarked b s name slot) (p : IsWholeSlot r.homes t.top slot)
    (listed : HasListedSlots s)
    (temporaries : (a : Activation) → IsListed a (t.top ∷ t.below) → is_coroutine b a.func ≡ true → (e : EarlySlot)
    → Contains (copies (b.framing a.func)).slots e
    → Contains a.slots (record { alloca = e.temporary; block = p.block }) → ⊥) where
  abbrev pub R : Rights
  R = frame_rights b.given t.instances

  abbrev pub n : ℕ
  n = slot.block

  abbrev pub k : ℕ
  k = p.block

  abbrev pub f : MemoryBlock → MemoryBlock
  f = mark starts

  abbrev pub memory : List MemoryBlock
  memory = with_block s.world.memory n f

  abbrev pub target : List MemoryBlock
  target = with_block t.world.memory k f

  abbrev pub w : World
  w = record s.world { memory = memory }

  abbrev pub u : World
  u = record t.world { memory = target }

  seen : (home_of r.homes n).is_seen ≡ true
  seen = ap (λ (h : Home). h.is_seen) p.home

  block_is : (home_of r.homes n).block ≡ k
  block_is = ap (λ (h : Home). h.block) p.home

  shown : r.hides n ≡ false
  shown = on (r.hides n) refl
    where
      on : (c : Bool) → r.hides n ≡ c → r.hides n ≡ false
      on true e = let no : false ≡ true = sym (r.hidden n e) ∙ seen in absurd (cc)
      on false e = e

  known : n < length s.world.memory
  known =
      let lt : n < length r.homes = seen_known r.homes n seen in
      let same : length r.homes ≡ length s.world.memory = r.known in
      omega (arith, lt, same)

  at : IsMarkedAt starts s.world.memory memory n
  at = marked_at starts s.world.memory n

  is_muted : muted r.hides memory ≡ with_block (muted r.hides s.world.memory) n f
  is_muted = sym (muted_change r.hides s.world.memory n f shown)

  -- a frame lies elsewhere
  frame_apart : (x y : Instance) (i : ℕ) → slice_get s.instances i ≡ Some x → AreInstances b r.homes t x y
      → y.block ≢ k
  frame_apart x y i there h same =
      let low : x.block < length r.homes = seen_known r.homes x.block (ap (λ (q : Home). q.is_seen) h.block) in
      let many : length r.homes ≡ length s.world.memory = r.known in
      z.frames i x there
      (r.mates.alone x.block n k (omega (arith, low, many)) known (h.block ∙ ap whole_home same) p.home)

  -- it lives alone there
  lives_alone : LivesAlone r.homes (muted r.hides s.world.memory) n
  lives_alone c v ne e live same =
      by (who_lives b s t r n k p.home listed c v e live (same ∙ block_is))
    where
      by : WhoLives b s t r c n k → ⊥
      by (Itself e) = ne e
      by (Placed j x y x_there y_there h other own is_c there) = frame_apart x y j x_there h there
      by (Early a l is e listed' own) = temporaries a l is e listed' own

  mate_of : (x : MemoryBlock) → slice_get s.world.memory n ≡ Some x
      → (bs : List Byte) × (slice_get t.world.memory k ≡ Some (record x { bytes = bs }))
  mate_of x e = r.mates.each n k x e p.home

  -- ---- the memories

  compares : (homes : List Home) (m l : List MemoryBlock) → AreNullsKept owner_rights R homes m l
  compares homes m l = record { each = λ c o about e. frames_compare b.given t.instances (home_of homes c).block _ _ }

  frames_elsewhere : Each (λ (y : Instance). y.block ≢ k) t.instances
  frames_elsewhere = each_index (λ (y : Instance). y.block ≢ k) t.instances apart
    where
      apart : (i : ℕ) (y : Instance) → slice_get t.instances i ≡ Some y → y.block ≢ k
      apart i y e =
          let lt : i < length t.instances = get_within t.instances i y e in
          let many : length t.instances ≡ length s.instances = r.count in
          let x = got s.instances i (omega (arith, lt, many)) in
          frame_apart x.0 y i x.1 (r.instances i x.0 y x.1 e)

  may_start : MayStart owner_rights R r.homes (muted r.hides s.world.memory) t.world.memory n
  may_start = record {
    again = λ x e unkilled.
        let x_there : slice_get s.world.memory n ≡ Some x = sym (muted_get r.hides s.world.memory n shown) ∙ e in
        let m = mate_of x x_there in
        record {
          block = record x { bytes = m.0 };
          there = ap (slice_get t.world.memory) block_is ∙ m.1;
          unkilled = unkilled;
          writable = λ e. e;
          allowed = subst (λ (h : Home). HasRights owner_rights R h n (anew x) (anew (record x { bytes = m.0 })))
              (sym p.home)
              (outside_rights b.given t.instances k frames_elsewhere n (anew x) (anew (record x { bytes = m.0 })) true
              refl);
        };
    nulls = λ o e. frames_compare b.given t.instances (home_of r.homes n).block _ _;
  }

  embeds : (c : Bool) → Embeds owner_rights R r.homes (with_block (muted r.hides s.world.memory) n (mark c))
      (with_block t.world.memory (home_of r.homes n).block (mark c))
  embeds true =
      starts_embedded owner_rights R owner_rights_fit (frame_rights_fit b.given t.instances) r.homes
      (muted r.hides s.world.memory) t.world.memory n r.world.memory lives_alone r.world.bounds seen may_start
  embeds false =
      dies_embedded owner_rights R owner_rights_fit (frame_rights_fit b.given t.instances) r.homes
      (muted r.hides s.world.memory) t.world.memory n r.world.memory lives_alone (mark false) (mark false) ended_dead

  keeps_size : (c : Bool) → (x : MemoryBlock) → (mark c x).size ≡ x.size
  keeps_size c x = (mark_is c x).size

  pub over : AreOver owner_rights R r.homes r.hides (λ d. d) w u
  over = record {
    memory = subst (λ (m : List MemoryBlock). Embeds owner_rights R r.homes m target) (sym is_muted)
        (subst (λ (l : ℕ). Embeds owner_rights R r.homes (with_block (muted r.hides s.world.memory) n f)
        (with_block t.world.memory l f)) block_is (embeds starts));
    nulls = compares r.homes (muted r.hides memory) target;
    bounds = subst (λ (m : List MemoryBlock). AreBoundsKept r.homes m target) (sym is_muted)
        (bounds_changed r.homes (muted r.hides s.world.memory) t.world.memory n k f f (keeps_size starts)
        (keeps_size starts) r.world.bounds);
    events = r.world.events;
    answers = r.world.answers;
    allocs = r.world.allocs;
  }

  -- ---- the rest

  pub held : (e : ℕ) → e ≢ k → (o most : ℕ) (bytes : List Byte) → Holds R t.world.memory e o most bytes
      → Holds R target e o most bytes
  held e ne o most bytes h = record {
    block = h.block;
    there = changed_elsewhere t.world.memory k e f ne ∙ h.there;
    live = h.live;
    writable = h.writable;
    whole = h.whole;
    within = h.within;
    holds = h.holds;
    unclosed = h.unclosed;
    aligned = h.aligned;
  }

  pub free_on : (block : ℕ) → IsFreeOf r.homes r.hides s.world.memory block
      → IsFreeOf r.homes r.hides memory block
  free_on = free_changed r.homes r.hides s.world.memory memory n at.others at.long (inl seen)

  pub ahead_on : (x : Framing) (c : Activation) (v align : ℕ) (ty : Ty)
      → (h : IsAhead x r.homes r.hides s.world.memory t.world.memory c v ty align) → h.block ≢ k
      → IsAhead x r.homes r.hides memory target c v ty align
  ahead_on x c v align ty h ne = record {
    block = h.block;
    address = h.address;
    own = h.own;
    free = free_on h.block h.free;
    bytes = h.bytes;
    sized = h.sized;
    there = changed_elsewhere t.world.memory k h.block f ne ∙ h.there;
  }

  elsewhere : (c : Activation) → IsListed c t.below → (other : Slot) → Contains c.slots other → other.block ≢ k
  elsewhere c l other own same =
      below_other b s t r (record { alloca = slot.alloca; block = k }) p.own c l other own (sym same)

  own_frame : (o : Option ℕ) (y : Instance) → instance_in t.instances o ≡ Some y → y.block ≢ k
  own_frame None y e = absurd (cc)
  own_frame (Some i) y e =
      let lt : i < length t.instances = get_within t.instances i y e in
      let many : length t.instances ≡ length s.instances = r.count in
      let x = got s.instances i (omega (arith, lt, many)) in
      frame_apart x.0 y i x.1 (r.instances i x.0 y x.1 e)

  mates : AreMates r.homes memory target
  mates = record {
    whole = λ m x e no_slot.
        ⊎_elim
        (λ same. (k, ap (home_of r.homes) same ∙ p.home))
        (λ ne. r.mates.whole m x (sym (at.others m ne) ∙ e) no_slot) (cases_eq m n);
    each = λ m l x e home.
        ⊎_elim (λ same. at_it m l x e home same) (λ ne. at_other m l x e home ne) (cases_eq m n);
    alone = λ m d l lt lt'.
        r.mates.alone m d l (subst (λ (v : ℕ). m < v) at.long lt) (subst (λ (v : ℕ). d < v) at.long lt');
  }
    where
      at_it : (m l : ℕ) (x : MemoryBlock) → slice_get memory m ≡ Some x → home_of r.homes m ≡ whole_home l → m ≡ n
          → (bs : List Byte) × (slice_get target l ≡ Some (record x { bytes = bs }))
      at_it m l x e home same =
          let y = at.here x (subst (λ (v : ℕ). slice_get memory v ≡ Some x) same e) in
          let old = mate_of y.0 y.1 in
          let new = marked_mate starts y.0 old.0 in
          let l_is : k ≡ l =
          ap (λ (h : Home). h.block) (sym p.home ∙ ap (home_of r.homes) (sym same) ∙ home) in (
            new.0,
            ap (slice_get target) (sym l_is)
                ∙ changed_here t.world.memory k f (record y.0 { bytes = old.0 }) old.1
                ∙ ap Some new.1
                ∙ ap (λ (v : MemoryBlock). Some (record v { bytes = new.0 })) (sym y.2),
          )

      at_other : (m l : ℕ) (x : MemoryBlock) → slice_get memory m ≡ Some x → home_of r.homes m ≡ whole_home l → m ≢ n
          → (bs : List Byte) × (slice_get target l ≡ Some (record x { bytes = bs }))
      at_other m l x e home ne =
          let x_there : slice_get s.world.memory m ≡ Some x = sym (at.others m ne) ∙ e in
          let old = r.mates.each m l x x_there home in (
            old.0,
            changed_elsewhere t.world.memory k l f
                (λ same. ne (r.mates.alone m n k (get_within s.world.memory m x x_there) known
                (home ∙ ap whole_home same) p.home))
                ∙ old.1,
          )

  pub left : LeavesRest b s t r w u
  left = record {
    framings = given.framings;
    cells = λ c l is other own cell o most bytes. held other.block (elsewhere c l other own) o most bytes;
    fields = λ i x y there h q env is j number live e.
        right_more R R t.world.memory target r.homes r.homes (record { each = λ v h. refl }) y.block
        (λ o most bytes. held y.block (frame_apart x y i there h) o most bytes) (b.framing x.coroutine) j env y.start e;
    returned = λ a c y j l is own from e.
        fields_more R R t.world.memory target r.homes r.homes (record { each = λ v h. refl }) y.block
        (λ o most bytes. held y.block (own_frame c.instance y own) o most bytes) (b.framing a.func) j a.values y.start
        a.mode e;
    mates = mates;
    free = free_on;
    ahead = λ x c v align ty l h.
        ahead_on x c v align ty h (elsewhere c l (record { alloca = v; block = h.block }) h.own);
    known = at.long;
  }
