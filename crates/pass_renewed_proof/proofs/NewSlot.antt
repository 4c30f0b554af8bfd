-- Both memories have one block more, which is a slot that may be made anew.
use Rattle.std.proofs.Common.{◌≡◌, ◌≢◌, ℕ, ◌+◌, ◌<◌, ◌^◌, true, false, List, [], ◌∷◌, ◌++◌, length}
use Rattle.std.proofs.Common.{length-append, Some, None, refl, sym, ap, ◌∙◌, subst, ⊎_elim, arith, nat_le}
use Rattle.std.proofs.lemmas.Bool.{cases_eq, cases_lt, false≢true}
use Rattle.std.proofs.lemmas.List.{length-replicate}
use Rattle.std.specs.Prelude.{slice_get}
use Rattle.pass_kept_proof.specs.ir_model.Names.{function_at}
use Rattle.pass_kept_proof.specs.ir_model.declared.module.Module.{Module}
use Rattle.run_laws.proofs.memory.Homes.{append_extends}
use Rattle.run_laws.proofs.memory.Written.{same_some}
use Rattle.run_laws.specs.embedded.Making.{whole_home}
use Rattle.run_laws.specs.memory.Pointers.{Home, home_of}
use Rattle.run_laws.specs.memory.Standing.{blank_block}
use Rattle.pass_kept_proof.specs.run_memory.Memory.{same_kind}
use Rattle.pass_kept_proof.specs.run_memory.declared.block.Byte.{Byte}
use Rattle.pass_kept_proof.specs.run_memory.declared.block.Kind.{Kind}
use Rattle.pass_kept_proof.specs.run_memory.declared.block.MemoryBlock.{MemoryBlock}
use Rattle.pass_renewed_proof.proofs.Anew.{about_there, anew_entered, below_other, home_past, updated_here}
use Rattle.pass_renewed_proof.proofs.Anew.{updated_other}
use Rattle.pass_renewed_proof.proofs.Carried.{IsCarried, IsSlotKept}
use Rattle.pass_renewed_proof.proofs.Grown.{block_stands, either_shown, future_more, home_before, home_now}
use Rattle.pass_renewed_proof.proofs.Grown.{kept_before, le_itself, longer, muted_was, shown_append}
use Rattle.pass_renewed_proof.proofs.Made.{get_last, get_other, get_within, home_last, home_other}
use Rattle.pass_renewed_proof.proofs.Places.{forgotten}
use Rattle.pass_renewed_proof.proofs.Ready.{blocks_only}
use Rattle.pass_renewed_proof.specs.Ledger.{AreEntered, IsAbout, IsMate, IsOfAlloca, Ledger, Lives, Seat, Seen}
use Rattle.pass_renewed_proof.specs.Ledger.{anew_ledger, is_quiet, slot_ledger, updated}
use Rattle.pass_renewed_proof.specs.Muted.{muted}
use Rattle.pass_renewed_proof.specs.Places.{AreStanding, IsBlank, IsReady, unseen}

module _ (m : Module) (l : Ledger) (memory target : List MemoryBlock) (x : MemoryBlock) (kind : Kind) (depth : ℕ)
    (seat : Seat) (st : AreStanding l.homes (muted l.hides memory) target) (e : AreEntered m l memory target) (small :
    x.size < 2 ^ 64) (blank : IsBlank x) (writable : same_kind kind Kind.Constant ≡ false) (other : same_kind x.kind
    Kind.Allocator ≡ false) (shape : IsOfAlloca m (function_at m seat.func) seat.alloca x) where
  abbrev first : ℕ
  first = length memory

  abbrev y : MemoryBlock
  y = blank_block x.size x.align kind

  abbrev home : Home
  home = unseen (whole_home (length target))

  same_others : (h q : Home) (d : ℕ) → d ≢ length l.homes
      → home_of (l.homes ++ h ∷ []) d ≡ home_of (l.homes ++ q ∷ []) d
  same_others h q d ne = home_other l.homes h d ne ∙ sym (home_other l.homes q d ne)

  pub slot_stands : AreStanding (l.homes ++ unseen (whole_home (length target)) ∷ []) (muted l.hides (memory ++ x ∷
      [])) (target ++ blank_block x.size x.align kind ∷ [])
  slot_stands =
      let all = block_stands m l memory target x st e kind small blank writable in
      forgotten (l.homes ++ whole_home (length target) ∷ []) (l.homes ++ home ∷ []) (muted l.hides (memory ++ x ∷ []))
      (target ++ blank_block x.size x.align kind ∷ []) (length memory)
      (length-append l.homes (home ∷ []) ∙ sym (length-append l.homes (whole_home (length target) ∷ [])))
      (λ d ne. same_others home (whole_home (length target)) d (λ is. ne (is ∙ e.known)))
      (ap (home_of (l.homes ++ home ∷ [])) (sym e.known) ∙ home_last l.homes home
      ∙ ap unseen (sym (home_last l.homes (whole_home (length target))))
      ∙ ap (λ d. unseen (home_of (l.homes ++ whole_home (length target) ∷ []) d)) e.known)
      (blocks_only (λ b. nat_le (length memory) b) l.hides (length memory) (le_itself (length memory)) (memory ++ x ∷
      []) (shown_append (λ b. nat_le (length memory) b) memory x e.future blank))
      all

  -- ---- what was there before is as it was

  before : (b : ℕ) → b ≢ length memory
      → home_of (l.homes ++ unseen (whole_home (length target)) ∷ []) b ≡ home_of l.homes b
  before = home_before m l memory target x st e home

  now : home_of (l.homes ++ unseen (whole_home (length target)) ∷ []) (length memory) ≡ unseen (whole_home (length
      target))
  now = home_now m l memory target x st e home

  about_was : (b : ℕ) → b ≢ length memory
      → IsAbout (slot_ledger l (length memory) (length target) depth seat) (memory ++ x ∷ []) b → IsAbout l memory b
  about_was b ne (Seen h) = Seen (ap (λ (q : Home). q.is_seen) (sym (before b ne)) ∙ h)
  about_was b ne (Lives h) = Lives (muted_was m l memory target x st e b ne h)

  pub slot_entered : AreEntered m (slot_ledger l (length memory) (length target) depth seat) (memory ++ x ∷ [])
      (target ++ blank_block x.size x.align kind ∷ [])
  slot_entered = record {
    known = length-append l.homes (home ∷ []) ∙ ap (λ n. n + 1) e.known ∙ sym (longer m l memory target x st e);
    hidden = λ b h. let lt = e.present b h in ap (λ (q : Home). q.is_seen) (before b (below_other b (length
        memory) lt)) ∙ e.hidden b h;
    present = λ b h. let lt = e.present b h in let n = longer m l memory target x st e in omega arith;
    globals = λ b lt. let g = e.globals b lt in (append_extends l.homes (home ∷ [])).each b (ap (λ (q : Home).
        q.is_seen) g) ∙ g;
    alone = λ b about. ⊎_elim
        (λ is. subst (λ d. updated l.tenants (length target) (Some (length memory)) (home_of (l.homes ++ home ∷ [])
        d).block ≡ Some d) (sym is)
        (ap (λ (q : Home). updated l.tenants (length target) (Some (length memory)) q.block) now
        ∙ updated_here l.tenants (length target) (Some (length memory))))
        (λ ne.
        let old = about_was b ne about in
        ap (λ (q : Home). updated l.tenants (length target) (Some (length memory)) q.block) (before b ne)
        ∙ updated_other l.tenants (length target) (Some (length memory)) _ (below_other _ (length target) (about_there
        l memory target b st e.known old)) ∙ e.alone b old)
        (cases_eq b (length memory));
    owned = base.owned;
    seated = λ b z h. ⊎_elim
        (λ is. let n = longer m l memory target x st e in omega arith)
        (λ ne. let lt = e.seated b z (sym (updated_other l.seats (length memory) (Some seat) b ne)
        ∙ h) in let n = longer m l memory target x st e in omega arith)
        (cases_eq b (length memory));
    placed = λ b z h. ⊎_elim
        (λ is. (
          depth,
          ap (λ d. updated l.owners (length target) (Some depth) (home_of (l.homes ++ home ∷ []) d).block) is
              ∙ ap (λ (q : Home). updated l.owners (length target) (Some depth) q.block) now
              ∙ updated_here l.owners (length target) (Some depth),
        ))
        (λ ne. let old = base.placed b z (sym (updated_other l.seats (length memory) (Some seat) b ne) ∙ h) in (
          old.0,
          ap (λ (q : Home). updated l.owners (length target) (Some depth) q.block) (before b ne) ∙ old.1,
        ))
        (cases_eq b (length memory));
    kinds = λ b z u h at. ⊎_elim
        (λ is. ap (λ (q : MemoryBlock). same_kind q.kind Kind.Allocator) (same_some u x (sym at ∙ ap (slice_get (memory ++
        x ∷ [])) is ∙ get_last memory x)) ∙ other)
        (λ ne. e.kinds b z u (sym (updated_other l.seats (length memory) (Some seat) b ne) ∙ h) (sym (get_other memory
        x b ne) ∙ at))
        (cases_eq b (length memory));
    shapes = λ b z u h at. ⊎_elim
        (λ is. shape_now z u (sym (updated_here l.seats (length memory) (Some seat))
        ∙ ap (updated l.seats (length memory) (Some seat)) (sym is) ∙ h) (sym (get_last memory x) ∙ ap (slice_get
        (memory ++ x ∷ [])) (sym is) ∙ at))
        (λ ne. e.shapes b z u (sym (updated_other l.seats (length memory) (Some seat) b ne) ∙ h) (sym (get_other memory
        x b ne) ∙ at))
        (cases_eq b (length memory));
    unowned = base.unowned;
    mates = λ b z none at. ⊎_elim
        (λ is. let c : Some seat ≡ None = sym (updated_here l.seats (length memory) (Some seat))
        ∙ ap (updated l.seats (length memory) (Some seat)) (sym is) ∙ none in absurd (cc))
        (λ ne. mate_on b z ne (base.mates b z (sym (updated_other l.seats (length memory) (Some seat) b ne)
        ∙ none) (sym (get_other memory x b ne) ∙ at)))
        (cases_eq b (length memory));
    full = base.full;
    quiet = λ b h. ⊎_elim
        (λ is. ap (λ d. (home_of (l.homes ++ home ∷ []) d).is_seen) is ∙ ap (λ (q : Home). q.is_seen) now)
        (λ ne. ap (λ (q : Home). q.is_seen) (before b ne)
        ∙ e.quiet b (ap (is_quiet m) (sym (updated_other l.seats (length memory) (Some seat) b ne)) ∙ h))
        (cases_eq b (length memory));
    shown = shown_append _ memory x (either_shown (λ b. is_quiet m (l.seats b)) (λ b. nat_le (length memory) b) (λ b.
        is_quiet m (updated l.seats (length memory) (Some seat) b)) quiet_or memory e.shown e.future) blank;
    future = future_more m l memory target x st e blank;
  }
    where
      shape_now : (z : Seat) (u : MemoryBlock) → Some seat ≡ Some z → Some x ≡ Some u
          → IsOfAlloca m (function_at m z.func) z.alloca u
      shape_now z u p q = subst (IsOfAlloca m (function_at m z.func) z.alloca) (same_some x u q) (subst (λ (w : Seat).
          IsOfAlloca m (function_at m w.func) w.alloca x) (same_some seat z p) shape)

      base : AreEntered m (anew_ledger l (length target) depth (Some (length memory))) memory (target ++ blank_block
          x.size x.align kind ∷ [])
      base = anew_entered m l memory target (blank_block x.size x.align kind) depth (Some (length memory)) st e
          (length-replicate x.size Byte.Undefined) refl

      mate_on : (b : ℕ) (z : MemoryBlock) → b ≢ length memory
          → IsMate (anew_ledger l (length target) depth (Some (length memory))) (target ++ blank_block x.size x.align
          kind ∷ []) b z → IsMate (slot_ledger l (length memory) (length target) depth seat) (target ++ blank_block
          x.size x.align kind ∷ []) b z
      mate_on b z ne mate = record {
        block = mate.block;
        home = before b ne
            ∙ mate.home;
        shown = mate.shown;
        bytes = mate.bytes;
        there = mate.there;
        owner = mate.owner;
      }

      quiet_or : (b : ℕ) → is_quiet m (l.seats b) ≡ false → nat_le (length memory) b ≡ false
          → is_quiet m (updated l.seats (length memory) (Some seat) b) ≡ false
      quiet_or b h k = ⊎_elim
          (λ is. absurd (false≢true (sym k ∙ ap (nat_le (length memory)) is ∙ le_itself (length memory))))
          (λ ne. ap (is_quiet m) (updated_other l.seats (length memory) (Some seat) b ne) ∙ h)
          (cases_eq b (length memory))

  pub slot_kept_before : (b : ℕ) → b < length memory
      → IsSlotKept l (slot_ledger l (length memory) (length target) depth seat) memory (memory ++ x ∷ []) b
  slot_kept_before = kept_before m l memory target x st e (slot_ledger l (length memory) (length target) depth seat) home
      refl refl

  seen_within : (b : ℕ) → (home_of l.homes b).is_seen ≡ true → b < length memory
  seen_within b seen = ⊎_elim
      (λ lt. subst (λ n. b < n) e.known lt)
      (λ le. absurd (false≢true (sym (home_past l.homes b le) ∙ seen)))
      (cases_lt b (length l.homes))

  ready_on : (c : ℕ) (z : MemoryBlock) → IsReady target c z
      → IsReady (target ++ blank_block x.size x.align kind ∷ []) c z
  ready_on c z r = record {
    block = r.block;
    there = get_other target y c (below_other c (length target) (get_within target c r.block r.there)) ∙ r.there;
    live = r.live;
    owner = r.owner;
    whole = r.whole;
    room = r.room;
    small = r.small;
    align = r.align;
    writable = r.writable;
  }

  pub slot_carried : IsCarried l (slot_ledger l (length memory) (length target) depth seat) memory (memory ++ x ∷ [])
      target (target ++ blank_block x.size x.align kind ∷ [])
  slot_carried = record {
    extends = append_extends l.homes (home ∷ []);
    seats = λ b z h. updated_other l.seats (length memory) (Some seat) b (below_other b (length memory) (e.seated b z
        h)) ∙ h;
    unseated = λ b seen h. updated_other l.seats (length memory) (Some seat) b (below_other b (length memory)
        (seen_within b seen)) ∙ h;
    owners = λ c d h. updated_other l.owners (length target) (Some depth) c (below_other c (length target) (e.owned c d
        h)) ∙ h;
    tenants = λ c d h. updated_other l.tenants (length target) (Some (length memory)) c (below_other c (length target)
        (e.owned c d h));
    ready = λ b c d z is h old u at. ready_on c u (old u (sym (get_other memory x b (below_other b (length memory)
        (e.seated b z is))) ∙ at));
  }

  pub slot_kept_on : (b : ℕ) (z : Seat) → l.seats b ≡ Some z
      → IsSlotKept l (slot_ledger l (length memory) (length target) depth seat) memory (memory ++ x ∷ []) b
  slot_kept_on b z is = slot_kept_before b (e.seated b z is)
