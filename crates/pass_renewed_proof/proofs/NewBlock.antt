-- Both memories have one block more, which is no slot that may be made anew, and which stands in its own one.
use Rattle.std.proofs.Common.{◌≡◌, ◌≢◌, ℕ, ◌+◌, true, List, [], ◌∷◌, ◌++◌, length, Option}
use Rattle.std.proofs.Common.{length-append, Some, None, refl, sym, ap, ◌∙◌, subst, ⊎_elim, arith}
use Rattle.std.proofs.lemmas.Bool.{cases_eq, false≢true}
use Rattle.std.specs.Prelude.{slice_get}
use Rattle.pass_kept_proof.specs.ir_model.declared.module.Module.{Module}
use Rattle.run_laws.proofs.memory.Homes.{append_extends}
use Rattle.run_laws.proofs.memory.Written.{same_some}
use Rattle.run_laws.specs.embedded.Making.{whole_home}
use Rattle.run_laws.specs.memory.Pointers.{Home, home_of}
use Rattle.pass_kept_proof.specs.run_memory.Memory.{is_live}
use Rattle.pass_kept_proof.specs.run_memory.declared.block.MemoryBlock.{MemoryBlock}
use Rattle.pass_renewed_proof.proofs.Anew.{about_there, below_other, updated_here, updated_other}
use Rattle.pass_renewed_proof.proofs.Carried.{IsCarried, IsSlotKept}
use Rattle.pass_renewed_proof.proofs.Grown.{future_more, home_before, home_now, kept_before, longer, muted_was}
use Rattle.pass_renewed_proof.proofs.Grown.{not_hidden, shown_append}
use Rattle.pass_renewed_proof.proofs.Made.{get_last, get_other, get_within}
use Rattle.pass_renewed_proof.specs.Ledger.{AreEntered, IsAbout, IsMate, Ledger, Lives, Seat, Seen, block_ledger}
use Rattle.pass_renewed_proof.specs.Ledger.{is_quiet, updated}
use Rattle.pass_renewed_proof.specs.Muted.{muted}
use Rattle.pass_renewed_proof.specs.Places.{AreStanding, IsBlank, IsReady}

-- the new blocks, of which the second differs from the first at most in its bytes
module _ (m : Module) (l : Ledger) (memory target : List MemoryBlock) (x y : MemoryBlock) (st : AreStanding l.homes
    (muted l.hides memory) target) (e : AreEntered m l memory target) (blank : IsBlank x) (twin : y ≡ record x {
      bytes = y.bytes;
    }) (whole : length y.bytes ≡ y.size) where
  abbrev k : Ledger
  k = block_ledger l (length memory) (length target)

  before : (b : ℕ) → b ≢ length memory → home_of (l.homes ++ whole_home (length target) ∷ []) b ≡ home_of l.homes b
  before = home_before m l memory target x st e (whole_home (length target))

  now : home_of (l.homes ++ whole_home (length target) ∷ []) (length memory) ≡ whole_home (length target)
  now = home_now m l memory target x st e (whole_home (length target))

  about_was : (b : ℕ) → b ≢ length memory → IsAbout (block_ledger l (length memory) (length target)) (memory ++ x ∷
      []) b → IsAbout l memory b
  about_was b ne (Seen h) = Seen (ap (λ (q : Home). q.is_seen) (sym (before b ne)) ∙ h)
  about_was b ne (Lives h) = Lives (muted_was m l memory target x st e b ne h)

  pub no_seat : l.seats (length memory) ≡ None
  no_seat = on (l.seats (length memory)) refl
    where
      on : (o : Option Seat) → l.seats (length memory) ≡ o → l.seats (length memory) ≡ None
      on None h = h
      on (Some seat) h = absurd (below_other (length memory) (length memory) (e.seated (length memory) seat h) refl)

  no_owner : l.owners (length target) ≡ None
  no_owner = on (l.owners (length target)) refl
    where
      on : (o : Option ℕ) → l.owners (length target) ≡ o → l.owners (length target) ≡ None
      on None h = h
      on (Some d) h = absurd (below_other (length target) (length target) (e.owned (length target) d h) refl)

  longer_target : length (target ++ y ∷ []) ≡ length target + 1
  longer_target = length-append target (y ∷ [])

  mate_now : (z : MemoryBlock) → slice_get (memory ++ x ∷ []) (length memory) ≡ Some z
      → IsMate (block_ledger l (length memory) (length target)) (target ++ y ∷ []) (length memory) z
  mate_now z at =
      let is : x ≡ z = same_some x z (sym (get_last memory x) ∙ at) in
      record {
        block = length target;
        home = now;
        shown = not_hidden m l memory target x st e;
        bytes = y.bytes;
        there = get_last target y ∙ ap Some twin ∙ ap (λ (u : MemoryBlock). Some (record u { bytes = y.bytes })) is;
        owner = no_owner;
      }

  mate_before : (b : ℕ) (z : MemoryBlock) → b ≢ length memory → IsMate l target b z
      → IsMate (block_ledger l (length memory) (length target)) (target ++ y ∷ []) b z
  mate_before b z ne mate = record {
    block = mate.block;
    home = before b ne ∙ mate.home;
    shown = mate.shown;
    bytes = mate.bytes;
    there = get_other target y mate.block (below_other mate.block (length target) (get_within target mate.block _
        mate.there)) ∙ mate.there;
    owner = mate.owner;
  }

  full_on : (c : ℕ) (z : MemoryBlock) → slice_get (target ++ y ∷ []) c ≡ Some z → is_live z.life ≡ true
      → length z.bytes ≡ z.size
  full_on c z at live = ⊎_elim
      (λ is. let k : y ≡ z = same_some y z (sym (get_last target y) ∙ ap (slice_get (target ++ y ∷ [])) (sym is)
      ∙ at) in subst (λ (u : MemoryBlock). length u.bytes ≡ u.size) k whole)
      (λ ne. e.full c z (sym (get_other target y c ne) ∙ at) live)
      (cases_eq c (length target))

  pub block_entered : AreEntered m (block_ledger l (length memory) (length target)) (memory ++ x ∷ []) (target ++ y ∷
      [])
  block_entered = record {
    known = length-append l.homes (whole_home (length target) ∷ []) ∙ ap (λ n. n + 1) e.known
        ∙ sym (longer m l memory target x st e);
    hidden = λ b h. let lt = e.present b h in ap (λ (q : Home). q.is_seen) (before b (below_other b (length
        memory) lt)) ∙ e.hidden b h;
    present = λ b h. let lt = e.present b h in let n = longer m l memory target x st e in omega arith;
    globals = λ b lt. let g = e.globals b lt in (append_extends l.homes (whole_home (length target) ∷ [])).each b (ap
        (λ (q : Home). q.is_seen) g) ∙ g;
    alone = λ b about. ⊎_elim
        (λ is. subst (λ d. updated l.tenants (length target) (Some (length memory)) (home_of (l.homes ++ whole_home
        (length target) ∷ []) d).block ≡ Some d) (sym is)
        (ap (λ (q : Home). updated l.tenants (length target) (Some (length memory)) q.block) now
        ∙ updated_here l.tenants (length target) (Some (length memory))))
        (λ ne.
        let old = about_was b ne about in
        ap (λ (q : Home). updated l.tenants (length target) (Some (length memory)) q.block) (before b ne)
        ∙ updated_other l.tenants (length target) (Some (length memory)) _ (below_other _ (length target) (about_there
        l memory target b st e.known old)) ∙ e.alone b old)
        (cases_eq b (length memory));
    owned = λ c d h. let lt = e.owned c d h in let n = longer_target in omega arith;
    seated = λ b z h. let lt = e.seated b z h in let n = longer m l memory target x st e in omega arith;
    placed = λ b z h. let old = e.placed b z h in (
      old.0,
      ap (λ (q : Home). l.owners q.block) (before b (below_other b (length memory) (e.seated b z h))) ∙ old.1,
    );
    kinds = λ b z u h at. e.kinds b z u h (sym (get_other memory x b (below_other b (length memory) (e.seated b z
        h))) ∙ at);
    shapes = λ b z u h at. e.shapes b z u h (sym (get_other memory x b (below_other b (length memory) (e.seated b z
        h))) ∙ at);
    unowned = λ c d z h at. e.unowned c d z h (sym (get_other target y c (below_other c (length target) (e.owned c d
        h))) ∙ at);
    mates = λ b z none at. ⊎_elim
        (λ is. subst (λ d. IsMate (block_ledger l (length memory) (length target)) (target ++ y ∷ []) d z) (sym is)
        (mate_now z (ap (slice_get (memory ++ x ∷ [])) (sym is) ∙ at)))
        (λ ne. mate_before b z ne (e.mates b z none (sym (get_other memory x b ne) ∙ at)))
        (cases_eq b (length memory));
    full = full_on;
    quiet = λ b h. ⊎_elim
        (λ is. absurd (false≢true (sym (ap (is_quiet m) no_seat) ∙ ap (λ d. is_quiet m (l.seats d)) (sym is) ∙ h)))
        (λ ne. ap (λ (q : Home). q.is_seen) (before b ne) ∙ e.quiet b h)
        (cases_eq b (length memory));
    shown = shown_append _ memory x e.shown blank;
    future = future_more m l memory target x st e blank;
  }

  ready_on : (c : ℕ) (z : MemoryBlock) → IsReady target c z → IsReady (target ++ y ∷ []) c z
  ready_on c z r = record {
    block = r.block;
    there = get_other target y c (below_other c (length target) (get_within target c r.block r.there)) ∙ r.there;
    live = r.live;
    owner = r.owner;
    whole = r.whole;
    room = r.room;
    small = r.small;
    align = r.align;
    writable = r.writable;
  }

  pub block_carried : IsCarried l (block_ledger l (length memory) (length target)) memory (memory ++ x ∷ []) target
      (target ++ y ∷ [])
  block_carried = record {
    extends = append_extends l.homes (whole_home (length target) ∷ []);
    seats = λ b seat h. h;
    unseated = λ b seen h. h;
    owners = λ c d h. h;
    tenants = λ c d h. updated_other l.tenants (length target) (Some (length memory)) c (below_other c (length target)
        (e.owned c d h));
    ready = λ b c d seat is h old z at. ready_on c z (old z (sym (get_other memory x b (below_other b (length memory)
        (e.seated b seat is))) ∙ at));
  }

  pub block_kept : (b : ℕ) (seat : Seat) → l.seats b ≡ Some seat
      → IsSlotKept l (block_ledger l (length memory) (length target)) memory (memory ++ x ∷ []) b
  block_kept b seat is = kept_before m l memory target x st e (block_ledger l (length memory) (length target))
      (whole_home (length target)) refl refl b (e.seated b seat is)
