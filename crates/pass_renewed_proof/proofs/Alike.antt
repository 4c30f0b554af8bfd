-- A block that isn't one that may be made anew becomes the same in both runs.
use Rattle.std.proofs.Common.{◌≡◌, ◌≢◌, ℕ, ◌<◌, Bool, true, false, List, length, Some, None}
use Rattle.std.proofs.Common.{refl, sym, ap, ◌∙◌, subst, ⊎_elim, nat_le}
use Rattle.std.proofs.lemmas.Bool.{cases_eq}
use Rattle.std.specs.Prelude.{slice_get}
use Rattle.pass_kept_proof.specs.ir_model.declared.module.Module.{Module}
use Rattle.run_laws.proofs.memory.Written.{changed_elsewhere, changed_here}
use Rattle.run_laws.specs.access.Changed.{IsFull}
use Rattle.run_laws.specs.embedded.Making.{whole_home}
use Rattle.run_laws.specs.embedded.Marks.{IsAlone}
use Rattle.run_laws.specs.memory.Pointers.{Home, home_of}
use Rattle.pass_kept_proof.specs.run_memory.Memory.{is_live, with_block}
use Rattle.pass_kept_proof.specs.run_memory.declared.block.Byte.{Byte}
use Rattle.pass_kept_proof.specs.run_memory.declared.block.MemoryBlock.{MemoryBlock}
use Rattle.pass_renewed_proof.proofs.Carried.{IsCarried, IsSlotKept}
use Rattle.pass_renewed_proof.proofs.Marked.{length_with, shown_with, with_from}
use Rattle.pass_renewed_proof.proofs.Muted.{muted_change}
use Rattle.pass_renewed_proof.specs.Ledger.{AreEntered, IsAbout, IsMate, Ledger, Lives, Seat, Seen}
use Rattle.pass_renewed_proof.specs.Muted.{muted}
use Rattle.pass_renewed_proof.specs.Places.{IsReady}
use Rattle.pass_renewed_proof.specs.Shown.{AreShownBlocks, AreShownBytes}

-- what becomes of a block: nothing of it depends on what the bytes hold, but what they hold then
pub record IsAlike (f : MemoryBlock → MemoryBlock) : Type 0 where
  pub twin : (x : MemoryBlock) (bytes : List Byte) → f (record x { bytes = bytes }) ≡ record (f x) {
    bytes = (f (record x { bytes = bytes })).bytes;
  }
  pub shown : (hides : ℕ → Bool) (x : MemoryBlock) → AreShownBytes hides x.bytes → AreShownBytes hides (f x).bytes
  pub full : (x : MemoryBlock) → (is_live x.life ≡ true → length x.bytes ≡ x.size) → is_live (f x).life ≡ true
      → length (f x).bytes ≡ (f x).size

module _ (m : Module) (l : Ledger) (memory target : List MemoryBlock) (b c : ℕ) (f : MemoryBlock → MemoryBlock)
    (alike : IsAlike f) (e : AreEntered m l memory target) (none : l.seats b ≡ None) (home : home_of l.homes b ≡
    whole_home c) (free : l.owners c ≡ None) (shown : l.hides b ≡ false) where
  is_seen : (home_of l.homes b).is_seen ≡ true
  is_seen = ap (λ (q : Home). q.is_seen) home

  tenant : l.tenants c ≡ Some b
  tenant = ap (λ (q : Home). l.tenants q.block) (sym home) ∙ e.alone b (Seen is_seen)

  same_number : {i j : ℕ} → Some i ≡ Some j → i ≡ j
  same_number q = cc

  -- no other block is in its home
  not_there : (d : ℕ) → d ≢ b → IsAbout l memory d → (home_of l.homes d).block ≢ c
  not_there d ne about is = ne (same_number (sym (e.alone d about) ∙ ap l.tenants is ∙ tenant))

  pub is_alone : IsAlone l.homes (muted l.hides memory) b
  is_alone = record {
    live = λ d z ne at live is. not_there d ne (Lives (record { block = z; there = at; is_live = live })) (is
        ∙ ap (λ (q : Home). q.block) home);
    seen = λ d ne seen is. not_there d ne (Seen seen) (is ∙ ap (λ (q : Home). q.block) home);
  }

  muted_there : (d : ℕ) → d ≢ b → slice_get (muted l.hides (with_block memory b f)) d ≡ slice_get (muted l.hides
      memory) d
  muted_there d ne = ap (λ k. slice_get k d) (sym (muted_change l.hides memory b f shown))
      ∙ changed_elsewhere (muted l.hides memory) b d f ne

  about_there : (d : ℕ) → d ≢ b → IsAbout l (with_block memory b f) d → IsAbout l memory d
  about_there d ne (Seen h) = Seen h
  about_there d ne (Lives h) = Lives (record {
    block = h.block;
    there = sym (muted_there d ne) ∙ h.there;
    is_live = h.is_live;
  })

  no_seat : (d : ℕ) (seat : Seat) → l.seats d ≡ Some seat → d ≢ b
  no_seat d seat h is = let q : None ≡ Some seat = sym none ∙ ap l.seats (sym is) ∙ h in absurd (cc)

  not_owned : (d depth : ℕ) → l.owners d ≡ Some depth → d ≢ c
  not_owned d depth h is = let q : None ≡ Some depth = sym free ∙ ap l.owners (sym is) ∙ h in absurd (cc)

  mate_here : (z : MemoryBlock) → slice_get (with_block memory b f) b ≡ Some z
      → IsMate l (with_block target c f) b z
  mate_here z at =
      let from = with_from memory b f z at in
      let mate = e.mates b from.0 none from.1 in
      let block : mate.block ≡ c = ap (λ (q : Home). q.block) (sym mate.home ∙ home) in
      record {
        block = c;
        home = home;
        shown = shown;
        bytes = (f (record from.0 { bytes = mate.bytes })).bytes;
        there = changed_here target c f (record from.0 { bytes = mate.bytes }) (ap (slice_get target) (sym block)
            ∙ mate.there) ∙ ap Some (alike.twin from.0 mate.bytes)
            ∙ ap (λ (y : MemoryBlock). Some (record y { bytes = (f (record from.0 { bytes = mate.bytes })).bytes }))
            (sym from.2);
        owner = free;
      }

  mate_there : (d : ℕ) (z : MemoryBlock) → d ≢ b → IsMate l target d z → IsMate l (with_block target c f) d z
  mate_there d z ne mate =
      let seen : (home_of l.homes d).is_seen ≡ true = ap (λ (q : Home). q.is_seen) mate.home in
      let other : mate.block ≢ c = λ is. not_there d ne (Seen seen) (ap (λ (q : Home). q.block) mate.home ∙ is) in
      record {
        block = mate.block;
        home = mate.home;
        shown = mate.shown;
        bytes = mate.bytes;
        there = changed_elsewhere target c mate.block f other ∙ mate.there;
        owner = mate.owner;
      }

  full_on : (d : ℕ) → IsFull (with_block target c f) d
  full_on d y at live = ⊎_elim
      (λ is.
      let from = with_from target c f y (ap (slice_get (with_block target c f)) (sym is) ∙ at) in
      subst (λ (z : MemoryBlock). length z.bytes ≡ z.size) (sym from.2) (alike.full from.0 (e.full c from.0 from.1)
      (ap (λ (z : MemoryBlock). is_live z.life) (sym from.2) ∙ live)))
      (λ ne. e.full d y (sym (changed_elsewhere target c d f ne) ∙ at) live)
      (cases_eq d c)

  pub alike_entered : AreEntered m l (with_block memory b f) (with_block target c f)
  alike_entered = record {
    known = e.known ∙ sym (length_with memory b f);
    hidden = e.hidden;
    present = λ d h. subst (λ n. d < n) (sym (length_with memory b f)) (e.present d h);
    globals = e.globals;
    alone = λ d about. ⊎_elim
        (λ is. e.alone d (Seen (ap (λ n. (home_of l.homes n).is_seen) is ∙ is_seen)))
        (λ ne. e.alone d (about_there d ne about))
        (cases_eq d b);
    owned = λ d depth h. subst (λ n. d < n) (sym (length_with target c f)) (e.owned d depth h);
    seated = λ d z h. subst (λ n. d < n) (sym (length_with memory b f)) (e.seated d z h);
    kinds = λ d z x h at. e.kinds d z x h (sym (changed_elsewhere memory b d f (no_seat d z h)) ∙ at);
    shapes = λ d z x h at. e.shapes d z x h (sym (changed_elsewhere memory b d f (no_seat d z h)) ∙ at);
    placed = e.placed;
    unowned = λ d depth y h at. e.unowned d depth y h (sym (changed_elsewhere target c d f (not_owned d depth h))
        ∙ at);
    mates = λ d z no at. ⊎_elim
        (λ is. subst (λ n. IsMate l (with_block target c f) n z) (sym is) (mate_here z (ap (slice_get (with_block
        memory b f)) (sym is) ∙ at)))
        (λ ne. mate_there d z ne (e.mates d z no (sym (changed_elsewhere memory b d f ne) ∙ at)))
        (cases_eq d b);
    full = full_on;
    quiet = e.quiet;
    shown = shown_with _ memory b f (alike.shown _) e.shown;
    future = subst (λ n. AreShownBlocks (λ d. nat_le n d) (with_block memory b f)) (sym (length_with memory b f))
        (shown_with _ memory b f (alike.shown _) e.future);
  }

  ready_there : (d depth : ℕ) (x : MemoryBlock) → l.owners d ≡ Some depth → IsReady target d x
      → IsReady (with_block target c f) d x
  ready_there d depth x h r = record {
    block = r.block;
    there = changed_elsewhere target c d f (not_owned d depth h) ∙ r.there;
    live = r.live;
    owner = r.owner;
    whole = r.whole;
    room = r.room;
    small = r.small;
    align = r.align;
    writable = r.writable;
  }

  pub alike_carried : IsCarried l l memory (with_block memory b f) target (with_block target c f)
  alike_carried = record {
    extends = record { each = λ d seen. refl };
    seats = λ d z h. h;
    unseated = λ d seen h. h;
    owners = λ d depth h. h;
    tenants = λ d depth h. refl;
    ready = λ d k depth z is h old x at. ready_there k depth x h (old x (sym (changed_elsewhere memory b d f (no_seat d
        z is)) ∙ at));
  }

  pub alike_kept : (d : ℕ) (seat : Seat) → l.seats d ≡ Some seat → IsSlotKept l l memory (with_block memory b f) d
  alike_kept d seat is =
      let there = changed_elsewhere memory b d f (no_seat d seat is) in
      record {
        home = refl;
        hides = refl;
        fresh = λ h. record { unseen = h.unseen; blank = λ x at live. h.blank x (sym there ∙ at) live };
        lives = λ h. record { block = h.block; there = sym there ∙ h.there; is_live = h.is_live };
        gone = λ old x at. old x (sym there ∙ at);
      }
