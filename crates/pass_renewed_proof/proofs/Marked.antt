-- One block of the first memory, a slot that may be made anew, is marked or dies: the second memory stays as it is.
use Rattle.std.proofs.Common.{◌≡◌, ◌≢◌, ℕ, zero, suc, ◌<◌, ◌≤◌, inl, inr, Bool, true, false, List, [], ◌∷◌, length}
use Rattle.std.proofs.Common.{Option, Some, None, refl, sym, ap, ◌∙◌, subst, ⊎_elim, nat_le}
use Rattle.std.proofs.lemmas.Bool.{cases_eq, false≢true}
use Rattle.std.specs.Prelude.{slice_get, option_map}
use Rattle.pass_kept_proof.specs.ir_model.Names.{function_at}
use Rattle.pass_kept_proof.specs.ir_model.declared.module.Function.{Function}
use Rattle.pass_kept_proof.specs.ir_model.declared.module.Module.{Module}
use Rattle.run_laws.proofs.memory.Written.{changed_elsewhere, changed_here, same_some}
use Rattle.run_laws.specs.memory.Pointers.{home_of}
use Rattle.pass_kept_proof.specs.run_memory.Memory.{is_killed, is_live, may_compare_at, owner_rights, same_kind, with_block}
use Rattle.pass_kept_proof.specs.run_memory.Pointers.{moved}
use Rattle.pass_kept_proof.specs.run_memory.declared.block.Kind.{Kind}
use Rattle.pass_kept_proof.specs.run_memory.declared.block.MemoryBlock.{MemoryBlock}
use Rattle.pass_kept_proof.specs.run_memory.declared.pointer.Offset.{Offset}
use Rattle.pass_renewed_proof.proofs.Carried.{IsCarried, IsSlotKept}
use Rattle.pass_renewed_proof.proofs.Places.{fewer_stand, muted_at, unowned_compares}
use Rattle.pass_renewed_proof.specs.Ledger.{AreEntered, IsAbout, IsOfAlloca, Ledger, Lives, LivesIn, Seat, Seen}
use Rattle.pass_renewed_proof.specs.Muted.{ended_if, muted}
use Rattle.pass_renewed_proof.specs.Places.{AreStanding, IsReady}
use Rattle.pass_renewed_proof.specs.Shown.{AreShownBlocks, AreShownBytes}

pub length_with : (m : List MemoryBlock) (b : ℕ) (f : MemoryBlock → MemoryBlock) → length (with_block m b f) ≡ length m
length_with [] b f = refl
length_with (x ∷ m) zero f = refl
length_with (x ∷ m) (suc b) f = ap suc (length_with m b f)

pub shown_with : (hides : ℕ → Bool) (m : List MemoryBlock) (b : ℕ) (f : MemoryBlock → MemoryBlock)
    → ((x : MemoryBlock) → AreShownBytes hides x.bytes → AreShownBytes hides (f x).bytes) → AreShownBlocks hides m
    → AreShownBlocks hides (with_block m b f)
shown_with hides [] b f on h = tt
shown_with hides (x ∷ m) zero f on h = (on x h.0, h.1)
shown_with hides (x ∷ m) (suc b) f on h = (h.0, shown_with hides m b f on h.1)

-- the block that there was
pub with_from : (m : List MemoryBlock) (b : ℕ) (f : MemoryBlock → MemoryBlock) (y : MemoryBlock)
    → slice_get (with_block m b f) b ≡ Some y → (x : MemoryBlock) × (slice_get m b ≡ Some x) × (y ≡ f x)
with_from [] b f y e = absurd (cc)
with_from (x ∷ m) zero f y e = (x, refl, sym (same_some (f x) y e))
with_from (x ∷ m) (suc b) f y e = with_from m b f y e

-- what becomes of the block
pub record IsMark (f : MemoryBlock → MemoryBlock) : Type 0 where
  pub size : (x : MemoryBlock) → (f x).size ≡ x.size
  pub align : (x : MemoryBlock) → (f x).align ≡ x.align
  pub kind : (x : MemoryBlock) → (f x).kind ≡ x.kind
  pub gone : (x : MemoryBlock) → is_killed x.life ≡ true → is_killed (f x).life ≡ true
  pub shown : (hides : ℕ → Bool) (x : MemoryBlock) → AreShownBytes hides x.bytes → AreShownBytes hides (f x).bytes

-- a block of that size and that alignment
pub of_alloca_like : (m : Module) (f : Function) (alloca : ℕ) (x z : MemoryBlock) → z.size ≡ x.size
    → z.align ≡ x.align → IsOfAlloca m f alloca x → IsOfAlloca m f alloca z
of_alloca_like m f alloca x z size align is = record {
  place = is.place;
  ty = is.ty;
  align = is.align;
  stands = is.stands;
  has_size = size ∙ is.has_size;
  small = is.small;
  has_align = align ∙ is.has_align;
}

pub of_alloca_refilled : (m : Module) (f : Function) (alloca : ℕ) (x z : MemoryBlock) → z ≡ record x { bytes = z.bytes }
    → IsOfAlloca m f alloca x → IsOfAlloca m f alloca z
of_alloca_refilled m f alloca x z e is = of_alloca_like m f alloca x z (ap (λ (q : MemoryBlock). q.size) e) (ap (λ (q :
    MemoryBlock). q.align) e) is

pub ready_like : (n : List MemoryBlock) (c : ℕ) (x z : MemoryBlock) → z.size ≡ x.size → z.align ≡ x.align
    → IsReady n c x → IsReady n c z
ready_like n c x z size align r = record {
  block = r.block;
  there = r.there;
  live = r.live;
  owner = r.owner;
  whole = r.whole;
  room = subst (λ k. k ≤ r.block.size) (sym size) r.room;
  small = r.small;
  align = r.align ∙ sym align;
  writable = r.writable;
}

module _ (m : Module) (l : Ledger) (memory target : List MemoryBlock) (b : ℕ) (f : MemoryBlock → MemoryBlock) (mark :
    IsMark f) (e : AreEntered m l memory target) (seat : Seat) (seated : l.seats b ≡ Some seat) (hides : ℕ
    → Bool) (same : (d : ℕ) → d ≢ b → hides d ≡ l.hides d) (hidden : hides b ≡ true
    → (home_of l.homes b).is_seen ≡ false) where
  -- the same blocks stand where they stood, but others may be hidden
  abbrev pub k : Ledger
  k = record l { hides = hides }

  abbrev after : List MemoryBlock
  after = with_block memory b f

  pub muted_other : (d : ℕ) → d ≢ b → slice_get (muted hides (with_block memory b f)) d ≡ slice_get (muted l.hides memory) d
  muted_other d ne = muted_at hides (with_block memory b f) d
      ∙ (λ i. option_map (ended_if (same d ne i)) (changed_elsewhere memory b d f ne i))
      ∙ sym (muted_at l.hides memory d)

  about_other : (d : ℕ) → d ≢ b → IsAbout (record l { hides = hides }) (with_block memory b f) d → IsAbout l memory d
  about_other d ne (Seen h) = Seen h
  about_other d ne (Lives h) = Lives (record {
    block = h.block;
    there = sym (muted_other d ne) ∙ h.there;
    is_live = h.is_live;
  })

  no_mate : (d : ℕ) → l.seats d ≡ None → d ≢ b
  no_mate d none is = let c : None ≡ Some seat = sym none ∙ ap l.seats is ∙ seated in absurd (cc)

  pub marked_entered : (IsAbout (record l { hides = hides }) (with_block memory b f) b
      → l.tenants (home_of l.homes b).block ≡ Some b)
      → AreEntered m (record l { hides = hides }) (with_block memory b f) target
  marked_entered alone = record {
    known = e.known ∙ sym (length_with memory b f);
    hidden = λ d h. ⊎_elim
        (λ is. subst (λ n. (home_of l.homes n).is_seen ≡ false) (sym is) (hidden (ap hides (sym is) ∙ h)))
        (λ ne. e.hidden d (sym (same d ne) ∙ h))
        (cases_eq d b);
    present = λ d h. subst (λ n. d < n) (sym (length_with memory b f)) (⊎_elim
        (λ is. subst (λ n. n < length memory) (sym is) (e.seated b seat seated))
        (λ ne. e.present d (sym (same d ne) ∙ h))
        (cases_eq d b));
    globals = e.globals;
    alone = λ d about. ⊎_elim
        (λ is. subst (λ n. l.tenants (home_of l.homes n).block ≡ Some n) (sym is) (alone (subst (IsAbout (record l {
          hides = hides;
        }) (with_block memory b f)) is about)))
        (λ ne. e.alone d (about_other d ne about))
        (cases_eq d b);
    owned = e.owned;
    seated = λ d z h. subst (λ n. d < n) (sym (length_with memory b f)) (e.seated d z h);
    kinds = kinds_on;
    shapes = shapes_on;
    placed = e.placed;
    unowned = e.unowned;
    mates = λ d z none at.
        let ne = no_mate d none in
        let mate = e.mates d z none (sym (changed_elsewhere memory b d f ne) ∙ at) in
        record {
          block = mate.block;
          home = mate.home;
          shown = same d ne ∙ mate.shown;
          bytes = mate.bytes;
          there = mate.there;
          owner = mate.owner;
        };
    full = e.full;
    quiet = e.quiet;
    shown = shown_with _ memory b f (mark.shown _) e.shown;
    future = subst (λ n. AreShownBlocks (λ d. nat_le n d) (with_block memory b f)) (sym (length_with memory b f))
        (shown_with _ memory b f (mark.shown _) e.future);
  }
    where
      kinds_on : (d : ℕ) (z : Seat) (x : MemoryBlock) → l.seats d ≡ Some z → slice_get (with_block memory b f) d ≡ Some x
          → same_kind x.kind Kind.Allocator ≡ false
      kinds_on d z x h at = ⊎_elim
          (λ is.
          let from = with_from memory b f x (ap (slice_get (with_block memory b f)) (sym is) ∙ at) in
          ap (λ (q : MemoryBlock). same_kind q.kind Kind.Allocator) from.2
          ∙ ap (λ k. same_kind k Kind.Allocator) (mark.kind from.0)
          ∙ e.kinds b seat from.0 seated from.1)
          (λ ne. e.kinds d z x h (sym (changed_elsewhere memory b d f ne) ∙ at))
          (cases_eq d b)

      shapes_on : (d : ℕ) (z : Seat) (x : MemoryBlock) → l.seats d ≡ Some z
          → slice_get (with_block memory b f) d ≡ Some x → IsOfAlloca m (function_at m z.func) z.alloca x
      shapes_on d z x h at = ⊎_elim
          (λ is.
          let from = with_from memory b f x (ap (slice_get (with_block memory b f)) (sym is) ∙ at) in
          of_alloca_like m _ z.alloca from.0 x (ap (λ (q : MemoryBlock). q.size) from.2 ∙ mark.size from.0) (ap (λ (q :
          MemoryBlock). q.align) from.2 ∙ mark.align from.0) (e.shapes d z from.0 h (ap (slice_get memory) is
          ∙ from.1)))
          (λ ne. e.shapes d z x h (sym (changed_elsewhere memory b d f ne) ∙ at))
          (cases_eq d b)

  pub marked_carried : IsCarried l (record l { hides = hides }) memory (with_block memory b f) target target
  marked_carried = record {
    extends = record { each = λ d seen. refl };
    seats = λ d z h. h;
    unseated = λ d seen h. h;
    owners = λ c d h. h;
    tenants = λ c d h. refl;
    ready = λ d c depth z is h old x at. ⊎_elim
        (λ same.
        let from = with_from memory b f x (ap (slice_get (with_block memory b f)) (sym same) ∙ at) in
        ready_like target c from.0 x (ap (λ (q : MemoryBlock). q.size) from.2 ∙ mark.size from.0) (ap (λ (q :
        MemoryBlock). q.align) from.2 ∙ mark.align from.0) (old from.0 (ap (slice_get memory) same ∙ from.1)))
        (λ ne. old x (sym (changed_elsewhere memory b d f ne) ∙ at))
        (cases_eq d b);
  }

  pub gone_with : (d : ℕ) → ((x : MemoryBlock) → slice_get memory d ≡ Some x → is_killed x.life ≡ true)
      → (x : MemoryBlock) → slice_get (with_block memory b f) d ≡ Some x → is_killed x.life ≡ true
  gone_with d old x at = ⊎_elim
      (λ is.
      let from = with_from memory b f x (ap (slice_get (with_block memory b f)) (sym is) ∙ at) in
      ap (λ (q : MemoryBlock). is_killed q.life) from.2 ∙ mark.gone from.0 (old from.0 (ap (slice_get memory) is
      ∙ from.1)))
      (λ ne. old x (sym (changed_elsewhere memory b d f ne) ∙ at))
      (cases_eq d b)

  pub marked_kept : (d : ℕ) → d ≢ b
      → IsSlotKept l (record l { hides = hides }) memory (with_block memory b f) d
  marked_kept d ne = record {
    home = refl;
    hides = same d ne;
    fresh = λ h. record {
      unseen = h.unseen;
      blank = λ x at live. h.blank x (sym (changed_elsewhere memory b d f ne) ∙ at) live;
    };
    lives = λ h. record {
      block = h.block;
      there = sym (changed_elsewhere memory b d f ne) ∙ h.there;
      is_live = h.is_live;
    };
    gone = gone_with d;
  }

-- ---- blocks that die

module _ (m : Module) (l : Ledger) (memory target : List MemoryBlock) (b : ℕ) (f : MemoryBlock → MemoryBlock) (mark :
    IsMark f) (dead : (x : MemoryBlock) → is_live (f x).life ≡ false) (e : AreEntered m l memory target) (seat : Seat)
    (seated : l.seats b ≡ Some seat) where
  not_live : LivesIn (with_block memory b f) b → ⊥
  not_live h = let from = with_from memory b f h.block h.there in false≢true (sym (dead from.0)
      ∙ ap (λ (q : MemoryBlock). is_live q.life) (sym from.2) ∙ h.is_live)

  at_muted : slice_get (muted l.hides (with_block memory b f)) b ≡ option_map (ended_if (l.hides b)) (slice_get
      (with_block memory b f) b)
  at_muted = muted_at l.hides (with_block memory b f) b

  dead_if : (t : Bool) (x : MemoryBlock) → is_live x.life ≡ false → is_live (ended_if t x).life ≡ false
  dead_if true x h = refl
  dead_if false x h = h

  size_if : (t : Bool) (x : MemoryBlock) → (ended_if t x).size ≡ x.size
  size_if true x = refl
  size_if false x = refl

  -- what stands there now
  muted_from : (x : MemoryBlock) → slice_get (muted l.hides (with_block memory b f)) b ≡ Some x
      → (z : MemoryBlock) × (slice_get memory b ≡ Some z) × (x ≡ ended_if (l.hides b) (f z))
  muted_from x at = on (slice_get memory b) refl
    where
      none_there : (n : List MemoryBlock) (c : ℕ) (g : MemoryBlock → MemoryBlock) → slice_get n c ≡ None → (o : Option
          MemoryBlock) → slice_get (with_block n c g) c ≡ o → option_map (ended_if (l.hides b)) o ≡ Some x → ⊥
      none_there [] c g h None k i = absurd (cc)
      none_there [] c g h (Some z) k i = absurd (cc)
      none_there (y ∷ n) zero g h o k i = absurd (cc)
      none_there (y ∷ n) (suc c) g h o k i = none_there n c g h o k i

      on : (o : Option MemoryBlock) → slice_get memory b ≡ o
          → (z : MemoryBlock) × (slice_get memory b ≡ Some z) × (x ≡ ended_if (l.hides b) (f z))
      on (Some z) h = (
        z,
        h,
        same_some x (ended_if (l.hides b) (f z)) (sym at ∙ at_muted ∙ ap (option_map (ended_if (l.hides b)))
            (changed_here memory b f z h)),
      )
      on None h = absurd (none_there memory b f h (slice_get (with_block memory b f) b) refl (sym at_muted ∙ at))

  other_there : (d : ℕ) → d ≢ b
      → slice_get (muted l.hides (with_block memory b f)) d ≡ slice_get (muted l.hides memory) d
  other_there d ne = muted_other m l memory target b f mark e seat seated l.hides (λ d ne. refl) (λ h. e.hidden b h) d ne

  compares : (o : Offset) → may_compare_at owner_rights (home_of l.homes b).block (slice_get target (home_of l.homes
      b).block) (moved o (home_of l.homes b).offset) ≡ true
  compares o = on (slice_get target (home_of l.homes b).block) refl
    where
      on : (z : Option MemoryBlock) → slice_get target (home_of l.homes b).block ≡ z
          → may_compare_at owner_rights (home_of l.homes b).block z (moved o (home_of l.homes b).offset) ≡ true
      on None h = refl
      on (Some y) h = let owner = e.placed b seat seated in unowned_compares (home_of l.homes b).block y (moved o
          (home_of l.homes b).offset) (e.unowned (home_of l.homes b).block owner.0 y owner.1 h)

  -- all blocks that live stand where they stood
  pub dead_stand : AreStanding l.homes (muted l.hides memory) target
      → AreStanding l.homes (muted l.hides (with_block memory b f)) target
  dead_stand st = fewer_stand l.homes (muted l.hides memory) (muted l.hides (with_block memory b f)) target (record {
    live = λ d x at live. ⊎_elim
        (λ is.
        let from = muted_from x (ap (slice_get (muted l.hides (with_block memory b f))) (sym is) ∙ at) in
        absurd (false≢true (sym (dead_if (l.hides b) (f from.0) (dead from.0)) ∙ ap (λ (q : MemoryBlock). is_live
        q.life) (sym from.2) ∙ live)))
        (λ ne. sym (other_there d ne) ∙ at)
        (cases_eq d b);
    nulls = λ d seen. ⊎_elim
        (λ is. inr (record {
          each = λ o. subst (λ n. may_compare_at owner_rights (home_of l.homes n).block (slice_get target (home_of
              l.homes n).block) (moved o (home_of l.homes n).offset) ≡ true) (sym is) (compares o);
        }))
        (λ ne. inl (other_there d ne))
        (cases_eq d b);
    sizes = λ d x at. ⊎_elim
        (λ is.
        let from = muted_from x (ap (slice_get (muted l.hides (with_block memory b f))) (sym is) ∙ at) in (
          ended_if (l.hides b) from.0,
          ap (slice_get (muted l.hides memory)) is ∙ muted_at l.hides memory b ∙ ap (option_map (ended_if (l.hides
              b))) from.1,
          size_if (l.hides b) from.0 ∙ sym (mark.size from.0) ∙ sym (size_if (l.hides b) (f from.0))
              ∙ ap (λ (q : MemoryBlock). q.size) (sym from.2),
        ))
        (λ ne. (x, sym (other_there d ne) ∙ at, refl))
        (cases_eq d b);
  }) st

  pub dead_entered : AreEntered m l (with_block memory b f) target
  dead_entered = marked_entered m l memory target b f mark e seat seated l.hides (λ d ne. refl) (λ h. e.hidden b h) about
    where
      about : IsAbout l (with_block memory b f) b → l.tenants (home_of l.homes b).block ≡ Some b
      about (Seen h) = e.alone b (Seen h)
      about (Lives h) =
          let from = muted_from h.block h.there in
          absurd (false≢true (sym (dead_if (l.hides b) (f from.0) (dead from.0)) ∙ ap (λ (q : MemoryBlock). is_live
          q.life) (sym from.2) ∙ h.is_live))

  pub dead_carried : IsCarried l l memory (with_block memory b f) target target
  dead_carried = marked_carried m l memory target b f mark e seat seated l.hides (λ d ne. refl) (λ h. e.hidden b h)

  -- what is said of each slot still is
  pub dead_kept : (d : ℕ) → IsSlotKept l l memory (with_block memory b f) d
  dead_kept d = ⊎_elim
      (λ is. subst (IsSlotKept l l memory (with_block memory b f)) (sym is) (record {
        home = refl;
        hides = refl;
        fresh = λ h. record {
          unseen = h.unseen;
          blank = λ x at live. absurd (not_live (record { block = x; there = at; is_live = live }));
        };
        lives = λ h. absurd (not_live h);
        gone = gone_with m l memory target b f mark e seat seated l.hides (λ d ne. refl) (λ h. e.hidden b h) b;
      }))
      (marked_kept m l memory target b f mark e seat seated l.hides (λ d ne. refl) (λ h. e.hidden b h) d)
      (cases_eq d b)

  pub dies : LivesIn (with_block memory b f) b → ⊥
  dies = not_live
