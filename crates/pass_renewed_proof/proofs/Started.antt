-- Where a slot that may be made anew is started, its block stands in the activation's own one, or is hidden there.
use Rattle.std.proofs.Common.{◌≡◌, ◌≢◌, ℕ, ◌<◌, ◌≤◌, Bool, true, false, not, List, length, Option}
use Rattle.std.proofs.Common.{Some, None, refl, sym, ap, ◌∙◌, subst, ⊎_elim, arith}
use Rattle.std.proofs.lemmas.Bool.{false≢true}
use Rattle.std.specs.Prelude.{IsTrue, slice_get, option_map}
use Rattle.pass_kept_proof.specs.ir_model.Names.{function_at}
use Rattle.pass_kept_proof.specs.ir_model.declared.module.Module.{Module}
use Rattle.pass_kept_proof.specs.ir_paths.Slots.{is_escaped}
use Rattle.run_laws.proofs.memory.Written.{changed_elsewhere, same_some}
use Rattle.run_laws.specs.embedded.Making.{whole_home}
use Rattle.run_laws.specs.memory.Pointers.{Home, home_of}
use Rattle.pass_kept_proof.specs.run_memory.Memory.{is_live, start, started}
use Rattle.pass_kept_proof.specs.run_memory.declared.block.MemoryBlock.{MemoryBlock}
use Rattle.pass_renewed_proof.proofs.Carried.{IsCarried, IsSlotKept}
use Rattle.pass_renewed_proof.proofs.Made.{get_there}
use Rattle.pass_renewed_proof.proofs.Marked.{marked_carried, marked_entered, marked_kept, muted_other, ready_like}
use Rattle.pass_renewed_proof.proofs.Marked.{gone_with, with_from}
use Rattle.pass_renewed_proof.proofs.Markers.{started_blank, starts}
use Rattle.pass_renewed_proof.proofs.Places.{hidden_stand, hiding_it, hiding_others, muted_at, seated}
use Rattle.pass_renewed_proof.specs.Beside.{MayStand}
use Rattle.pass_renewed_proof.specs.Ledger.{AreEntered, IsAbout, IsFresh, IsGone, IsHomeOf, Ledger, Lives, Seat}
use Rattle.pass_renewed_proof.specs.Ledger.{Seen, is_quiet}
use Rattle.pass_renewed_proof.specs.Muted.{ended_if, muted}
use Rattle.pass_renewed_proof.specs.Places.{AreStanding, IsBlank, IsReady, hiding}

-- the block is fresh, or pointers into it may be about, and it stands in the activation's own one
pub data HasStarted (m : Module) (l k : Ledger) (after : List MemoryBlock) (seat : Seat) (b c : ℕ) : Type 0 where
  Freshly : IsFresh k after b → HasStarted m l k after seat b c
  Seenly : (home_of l.homes b).is_seen ≡ true → IsTrue (is_escaped (function_at m seat.func) seat.alloca)
      → IsHomeOf l b c → IsHomeOf k b c → HasStarted m l k after seat b c

-- a ledger behind the start
pub record AreStarted (m : Module) (l : Ledger) (memory target : List MemoryBlock) (seat : Seat) (b c : ℕ) : Type 0
  where
    pub hides : ℕ → Bool
    pub standing : AreStanding l.homes (muted hides (start memory b)) target
    pub entered : AreEntered m (record l { hides = hides }) (start memory b) target
    pub carried : IsCarried l (record l { hides = hides }) memory (start memory b) target target
    pub kept : (d : ℕ) → d ≢ b → IsSlotKept l (record l { hides = hides }) memory (start memory b) d
    pub gone : (d : ℕ) → IsGone memory d → IsGone (start memory b) d
    pub has : HasStarted m l (record l { hides = hides }) (start memory b) seat b c

module _ (m : Module) (l : Ledger) (memory target : List MemoryBlock) (b c : ℕ) (st : AreStanding l.homes (muted
    l.hides memory) target) (e : AreEntered m l memory target) (seat : Seat) (seated_is : l.seats b ≡ Some seat)
    (tenant : l.tenants c ≡ Some b) (ready : (x : MemoryBlock) → slice_get memory b ≡ Some x → IsReady target c x)
  where
    blank_now : (x : MemoryBlock) → slice_get (start memory b) b ≡ Some x → is_live x.life ≡ true → IsBlank x
    blank_now x at live =
        let from = with_from memory b started x at in
        subst IsBlank (sym from.2) (started_blank from.0 (ap (λ (q : MemoryBlock). is_live q.life) (sym from.2) ∙ live))

    -- ---- no pointer is about: it is hidden

    module _ (unseen : (home_of l.homes b).is_seen ≡ false) where
      others : (d : ℕ) → d ≢ b → hiding l.hides b d ≡ l.hides d
      others d ne = hiding_others l.hides b d ne

      not_about : IsAbout (record l { hides = hiding l.hides b }) (start memory b) b
          → l.tenants (home_of l.homes b).block ≡ Some b
      not_about (Seen h) = absurd (false≢true (sym unseen ∙ h))
      not_about (Lives h) = absurd (ended_now (slice_get (start memory b) b) (sym (muted_at (hiding l.hides b) (start
          memory b) b ∙ ap (λ t. option_map (ended_if t) (slice_get (start memory b) b)) (hiding_it l.hides b))
          ∙ h.there))
        where
          ended_now : (o : Option MemoryBlock) → option_map (ended_if true) o ≡ Some h.block → ⊥
          ended_now None k = absurd (cc)
          ended_now (Some z) k = false≢true (ap (λ (q : MemoryBlock). is_live q.life) (same_some (ended_if true z)
              h.block k) ∙ h.is_live)

      pub freshly : AreStarted m l memory target seat b c
      freshly = record {
        hides = hiding l.hides b;
        standing = hidden_stand l.homes l.hides memory (start memory b) target b unseen (λ d ne. changed_elsewhere memory
            b d started ne) (λ x at.
            let from = with_from memory b started x at in
            (from.0, from.1, sym (starts.size from.0) ∙ ap (λ (q : MemoryBlock). q.size) (sym from.2))) st;
        entered = marked_entered m l memory target b started starts e seat seated_is (hiding l.hides b) others (λ h.
            unseen) not_about;
        carried = marked_carried m l memory target b started starts e seat seated_is (hiding l.hides b) others (λ h.
            unseen);
        kept = marked_kept m l memory target b started starts e seat seated_is (hiding l.hides b) others (λ h. unseen);
        gone = gone_with m l memory target b started starts e seat seated_is (hiding l.hides b) others (λ h. unseen);
        has = Freshly (record { unseen = unseen; blank = blank_now });
      }

    -- ---- pointers into it may be about: it stands in the activation's own block

    module _ (seen : (home_of l.homes b).is_seen ≡ true) (escaped : IsTrue (is_escaped (function_at m seat.func)
        seat.alloca)) (home : IsHomeOf l b c) where
      hidden : l.hides b ≡ true → (home_of l.homes b).is_seen ≡ false
      hidden h = e.hidden b h

      there : (d : ℕ) → d ≢ b → slice_get (muted l.hides (start memory b)) d ≡ slice_get (muted l.hides memory) d
      there d ne = muted_other m l memory target b started starts e seat seated_is l.hides (λ d ne. refl) hidden d ne

      is_home : home_of l.homes b ≡ whole_home c
      is_home = home.home ∙ ap (λ t. record { block = c; offset = 0; is_seen = t }) (ap (λ (q : Home). q.is_seen) (sym
          home.home) ∙ seen)

      -- the block as it is not hidden
      shown_now : (x : MemoryBlock) → slice_get (muted l.hides (start memory b)) b ≡ Some x
          → slice_get (start memory b) b ≡ Some x
      shown_now x at = as_it_is (slice_get (start memory b) b) refl (sym (muted_at l.hides (start memory b) b ∙ ap (λ t.
          option_map (ended_if t) (slice_get (start memory b) b)) home.shown) ∙ at)
        where
          as_it_is : (o : Option MemoryBlock) → slice_get (start memory b) b ≡ o → option_map (ended_if false) o ≡ Some x
              → slice_get (start memory b) b ≡ Some x
          as_it_is None i k = absurd (cc)
          as_it_is (Some z) i k = i ∙ k

      ready_now : (x : MemoryBlock) → slice_get (start memory b) b ≡ Some x → IsReady target c x
      ready_now x at =
          let from = with_from memory b started x at in
          ready_like target c from.0 x (ap (λ (q : MemoryBlock). q.size) from.2 ∙ starts.size from.0) (ap (λ (q :
          MemoryBlock). q.align) from.2 ∙ starts.align from.0) (ready from.0 from.1)

      lt : b < length memory
      lt = e.seated b seat seated_is

      old : (x : MemoryBlock) × (slice_get memory b ≡ Some x)
      old = get_there memory b lt

      standing : AreStanding l.homes (muted l.hides (start memory b)) target
      standing =
          let r = ready old.0 old.1 in
          seated l.homes l.homes (muted l.hides memory) (muted l.hides (start memory b)) target b c r.block (record {
            each = λ d h. refl;
          }) (omega arith) (subst (λ n. b < n) (sym e.known) lt) (λ d ne. refl) is_home r.there r.owner r.small there
          (λ x at. let q = ready_now x (shown_now x at) in subst (λ n. x.size ≤ n) (same_size q.block r.block (same_some
          q.block r.block (sym q.there ∙ r.there))) q.room)
          (λ x at live. (blank_now x (shown_now x at) live, ready_now x (shown_now x at)))
          (record {
            others = λ d z ne at live is. ne (same_number d b (sym (e.alone d (Lives (record {
              block = z;
              there = at;
              is_live = live;
            }))) ∙ ap l.tenants is ∙ tenant));
          }) st
        where
          same_size : (p q : MemoryBlock) → p ≡ q → p.size ≡ q.size
          same_size p q k = ap (λ (z : MemoryBlock). z.size) k

          same_number : (i j : ℕ) → Some i ≡ Some j → i ≡ j
          same_number i j k = cc

      pub seenly : AreStarted m l memory target seat b c
      seenly = record {
        hides = l.hides;
        standing = standing;
        entered = marked_entered m l memory target b started starts e seat seated_is l.hides (λ d ne. refl) hidden (λ
            about. e.alone b (Seen seen));
        carried = marked_carried m l memory target b started starts e seat seated_is l.hides (λ d ne. refl) hidden;
        kept = marked_kept m l memory target b started starts e seat seated_is l.hides (λ d ne. refl) hidden;
        gone = gone_with m l memory target b started starts e seat seated_is l.hides (λ d ne. refl) hidden;
        has = Seenly seen escaped home home;
      }

    -- ---- one or the other

    -- an escaped slot into which pointers are about may stand in the activation's own block
    pub are_started : (IsTrue (is_escaped (function_at m seat.func) seat.alloca) → MayStand l memory b c)
        → AreStarted m l memory target seat b c
    are_started may = on (home_of l.homes b).is_seen refl
      where
        loud : (t : Bool) → is_escaped (function_at m seat.func) seat.alloca ≡ t → (home_of l.homes b).is_seen ≡ true
            → IsTrue (is_escaped (function_at m seat.func) seat.alloca)
        loud true h seen = h
        loud false h seen = absurd (false≢true (sym (e.quiet b (ap (is_quiet m) seated_is ∙ ap not h)) ∙ seen))

        on : (t : Bool) → (home_of l.homes b).is_seen ≡ t → AreStarted m l memory target seat b c
        on false h = freshly h
        on true h =
            let escaped = loud (is_escaped (function_at m seat.func) seat.alloca) refl h in
            ⊎_elim (λ f. absurd (false≢true (sym f.unseen ∙ h))) (λ home. seenly h escaped home) (may escaped)
