-- Where slots stand once they have been used.
use Rattle.std.proofs.Common.{◌≡◌, ◌≢◌, ℕ, ◌<◌, ◌⊎◌, inl, inr, Bool, true, false, List, [], ◌∷◌, length, set, Option}
use Rattle.std.proofs.Common.{Some, None, refl, sym, ap, ◌∙◌, subst, ⊎_elim, if◌then◌else◌, get_or-set_other}
use Rattle.std.proofs.lemmas.Bool.{cases_eq, false≢true}
use Rattle.std.proofs.lemmas.List.{get_or-set_same, length-set}
use Rattle.std.specs.Prelude.{nat_le, option_map, slice_get}
use Rattle.pass_kept_proof.specs.flow_solver.Paths.{IsListed}
use Rattle.pass_kept_proof.specs.ir_model.declared.module.Module.{Module}
use Rattle.run_laws.proofs.access.Reading.{as_many}
use Rattle.run_laws.proofs.memory.Written.{same_some}
use Rattle.run_laws.specs.access.Changed.{IsFull}
use Rattle.run_laws.specs.changed.Changed.{Each}
use Rattle.run_laws.specs.embedded.Refilled.{AreRefilled, IsRefilled}
use Rattle.run_laws.specs.memory.Pointers.{Extends, Home, home_of, nowhere}
use Rattle.pass_kept_proof.specs.run_memory.Memory.{is_killed, is_live, same_kind}
use Rattle.pass_kept_proof.specs.run_memory.declared.block.Kind.{Kind}
use Rattle.pass_kept_proof.specs.run_memory.declared.block.Life.{Life}
use Rattle.pass_kept_proof.specs.run_memory.declared.block.MemoryBlock.{MemoryBlock}
use Rattle.pass_renewed_proof.proofs.Carried.{IsSlotKept}
use Rattle.pass_renewed_proof.proofs.Marked.{of_alloca_refilled}
use Rattle.pass_renewed_proof.proofs.Places.{muted_at, showing_it, showing_others}
use Rattle.pass_renewed_proof.proofs.Ready.{each_map, shown_stays, still_hidden, stood_at, stood_extends, stood_length}
use Rattle.pass_renewed_proof.proofs.Ready.{stood_others}
use Rattle.pass_renewed_proof.specs.Ledger.{AreEntered, AreTheirs, IsAbout, IsFresh, IsGone, IsHomeOf, IsMate}
use Rattle.pass_renewed_proof.specs.Ledger.{IsTheirs, Ledger, Lives, LivesIn, Seen, is_quiet, used_ledger}
use Rattle.pass_renewed_proof.specs.Muted.{ended_if, muted}
use Rattle.pass_renewed_proof.specs.Places.{showing, unseen}
use Rattle.pass_renewed_proof.specs.Ready.{ArePlacesApart, IsPlace, IsSettled, Place, faded, shown_of, stood}
use Rattle.pass_renewed_proof.specs.Shown.{AreShownBlocks}

-- ---- pointers that are no longer about

fade_one : (quiet : ℕ → Bool) → List Home → Place → List Home
fade_one quiet homes p = if quiet p.block then set homes p.block (unseen (home_of homes p.block)) else homes

fade_length : (quiet : ℕ → Bool) (homes : List Home) (p : Place)
    → length (if quiet p.block then set homes p.block (unseen (home_of homes p.block)) else homes) ≡ length homes
fade_length quiet homes p = on (quiet p.block)
  where
    on : (t : Bool) → length (if t then set homes p.block (unseen (home_of homes p.block)) else homes) ≡ length homes
    on true = length-set homes p.block (unseen (home_of homes p.block))
    on false = refl

-- another block's home stays as it is
fade_other : (quiet : ℕ → Bool) (homes : List Home) (p : Place) (d : ℕ) → p.block ≢ d
    → home_of (if quiet p.block then set homes p.block (unseen (home_of homes p.block)) else homes) d ≡ home_of homes d
fade_other quiet homes p d ne = on (quiet p.block)
  where
    on : (t : Bool) → home_of (if t then set homes p.block (unseen (home_of homes p.block)) else homes) d ≡ home_of
        homes d
    on true = get_or-set_other homes p.block d (unseen (home_of homes p.block)) nowhere (λ e. ne (sym e))
    on false = refl

-- and so does each that pointers may be about into
fade_loud : (quiet : ℕ → Bool) (homes : List Home) (p : Place) (d : ℕ) → quiet d ≡ false
    → home_of (if quiet p.block then set homes p.block (unseen (home_of homes p.block)) else homes) d ≡ home_of homes d
fade_loud quiet homes p d loud = ⊎_elim
    (λ e. ap (λ t. home_of (if t then set homes p.block (unseen (home_of homes p.block)) else homes) d) (ap quiet e
    ∙ loud))
    (λ ne. fade_other quiet homes p d ne)
    (cases_eq p.block d)

-- the block of a home stays, and it is no more seen than it was
fade_here : (quiet : ℕ → Bool) (homes : List Home) (p : Place) → p.block < length homes
    → (home_of (if quiet p.block then set homes p.block (unseen (home_of homes p.block)) else homes) p.block).block ≡
    (home_of homes p.block).block
fade_here quiet homes p lt = on (quiet p.block)
  where
    on : (t : Bool) → (home_of (if t then set homes p.block (unseen (home_of homes p.block)) else homes)
        p.block).block ≡ (home_of homes p.block).block
    on true = ap (λ (q : Home). q.block) (get_or-set_same homes p.block (unseen (home_of homes p.block)) nowhere lt)
    on false = refl

fade_unseen : (quiet : ℕ → Bool) (homes : List Home) (p : Place) (d : ℕ) → p.block < length homes
    → (home_of homes d).is_seen ≡ false
    → (home_of (if quiet p.block then set homes p.block (unseen (home_of homes p.block)) else homes) d).is_seen ≡ false
fade_unseen quiet homes p d lt h = ⊎_elim
    (λ e. subst (λ k. (home_of homes k).is_seen ≡ false
    → (home_of (if quiet p.block then set homes p.block (unseen (home_of homes p.block)) else homes) k).is_seen ≡
    false) e (on (quiet p.block)) h)
    (λ ne. ap (λ (q : Home). q.is_seen) (fade_other quiet homes p d ne) ∙ h)
    (cases_eq p.block d)
  where
    on : (t : Bool) → (home_of homes p.block).is_seen ≡ false
        → (home_of (if t then set homes p.block (unseen (home_of homes p.block)) else homes) p.block).is_seen ≡ false
    on true h = ap (λ (q : Home). q.is_seen) (get_or-set_same homes p.block (unseen (home_of homes p.block)) nowhere
        lt)
    on false h = h

module _ (quiet : ℕ → Bool) where
  abbrev step : List Home → Place → List Home
  step homes p = if quiet p.block then set homes p.block (unseen (home_of homes p.block)) else homes

  pub faded_length : (homes : List Home) (ps : List Place) → length (faded quiet homes ps) ≡ length homes
  faded_length homes [] = refl
  faded_length homes (p ∷ ps) = faded_length (step homes p) ps ∙ fade_length quiet homes p

  pub faded_others : (homes : List Home) (ps : List Place) (d : ℕ) → Each (λ (q : Place). q.block ≢ d) ps
      → home_of (faded quiet homes ps) d ≡ home_of homes d
  faded_others homes [] d h = refl
  faded_others homes (p ∷ ps) d h = faded_others (step homes p) ps d h.1 ∙ fade_other quiet homes p d h.0

  pub faded_loud : (homes : List Home) (ps : List Place) (d : ℕ) → quiet d ≡ false
      → home_of (faded quiet homes ps) d ≡ home_of homes d
  faded_loud homes [] d h = refl
  faded_loud homes (p ∷ ps) d h = faded_loud (step homes p) ps d h ∙ fade_loud quiet homes p d h

  within_step : (homes : List Home) (p : Place) (ps : List Place) → Each (λ (q : Place). q.block < length homes) ps
      → Each (λ (q : Place). q.block < length (step homes p)) ps
  within_step homes p ps h = each_map _ _ ps (λ q lt. subst (λ l. q.block < l) (sym (fade_length quiet homes p)) lt) h

  -- a home keeps its block
  pub faded_block : (homes : List Home) (ps : List Place) (d : ℕ) → Each (λ (q : Place). q.block < length homes) ps
      → (home_of (faded quiet homes ps) d).block ≡ (home_of homes d).block
  faded_block homes [] d h = refl
  faded_block homes (p ∷ ps) d h = faded_block (step homes p) ps d (within_step homes p ps h.1) ∙ ⊎_elim
      (λ e. subst (λ k. (home_of (step homes p) k).block ≡ (home_of homes k).block) e (fade_here quiet homes p h.0))
      (λ ne. ap (λ (q : Home). q.block) (fade_other quiet homes p d ne))
      (cases_eq p.block d)

  pub faded_unseen : (homes : List Home) (ps : List Place) (d : ℕ) → Each (λ (q : Place). q.block < length homes) ps
      → (home_of homes d).is_seen ≡ false → (home_of (faded quiet homes ps) d).is_seen ≡ false
  faded_unseen homes [] d within h = h
  faded_unseen homes (p ∷ ps) d within h = faded_unseen (step homes p) ps d (within_step homes p ps within.1)
      (fade_unseen quiet homes p d within.0 h)

  -- a quiet block among them isn't seen
  pub faded_quiet : (homes : List Home) (ps : List Place) (p : Place)
      → Each (λ (q : Place). q.block < length homes) ps → IsListed p ps → quiet p.block ≡ true
      → (home_of (faded quiet homes ps) p.block).is_seen ≡ false
  faded_quiet homes [] p within listed h = absurd listed
  faded_quiet homes (q ∷ ps) p within (inl e) h = faded_unseen (step homes q) ps p.block (within_step homes q ps
      within.1)
      (subst (λ (z : Place). (home_of (step homes q) z.block).is_seen ≡ false) (sym e)
      (ap (λ t. (home_of (if t then set homes q.block (unseen (home_of homes q.block)) else homes) q.block).is_seen)
      (subst (λ (z : Place). quiet z.block ≡ true) e h)
      ∙ ap (λ (z : Home). z.is_seen) (get_or-set_same homes q.block (unseen (home_of homes q.block)) nowhere
      within.0)))
  faded_quiet homes (q ∷ ps) p within (inr listed) h = faded_quiet (step homes q) ps p (within_step homes q ps
      within.1) listed h

  -- a home changes in nothing but in whether it is seen
  fade_shape : (homes : List Home) (p : Place) (d : ℕ) → p.block < length homes
      → home_of (step homes p) d ≡ record (home_of homes d) { is_seen = (home_of (step homes p) d).is_seen }
  fade_shape homes p d lt = ⊎_elim
      (λ e. subst (λ k. home_of (step homes p) k ≡ record (home_of homes k) {
        is_seen = (home_of (step homes p)
            k).is_seen;
      }) e (on (quiet p.block)))
      (λ ne. let o = fade_other quiet homes p d ne in o
      ∙ ap (λ (q : Home). record (home_of homes d) { is_seen = q.is_seen }) (sym o))
      (cases_eq p.block d)
    where
      on : (t : Bool) → home_of (if t then set homes p.block (unseen (home_of homes p.block)) else homes) p.block ≡
          record (home_of homes p.block) {
            is_seen = (home_of (if t then set homes p.block (unseen (home_of homes
                p.block)) else homes) p.block).is_seen;
          }
      on true =
          let e = get_or-set_same homes p.block (unseen (home_of homes p.block)) nowhere lt in
          e ∙ ap (λ (q : Home). record (home_of homes p.block) { is_seen = q.is_seen }) (sym e)
      on false = refl

  pub faded_shape : (homes : List Home) (ps : List Place) (d : ℕ) → Each (λ (q : Place). q.block < length homes) ps
      → home_of (faded quiet homes ps) d ≡ record (home_of homes d) {
        is_seen = (home_of (faded quiet homes ps)
            d).is_seen;
      }
  faded_shape homes [] d h = refl
  faded_shape homes (p ∷ ps) d h =
      faded_shape (step homes p) ps d (within_step homes p ps h.1)
      ∙ ap (λ (q : Home). record q { is_seen = (home_of (faded quiet homes (p ∷ ps)) d).is_seen }) (fade_shape homes p
      d h.0)

-- ---- memories of which only bytes are others

-- the block that there was, with other bytes
pub refilled_from : (m n : List MemoryBlock) (b : ℕ) (y : MemoryBlock) → AreRefilled m n → slice_get n b ≡ Some y
    → (x : MemoryBlock) × (slice_get m b ≡ Some x) × (y ≡ record x { bytes = y.bytes })
refilled_from m n b y r at = on (slice_get m b) refl (subst (IsRefilled (slice_get m b)) at (r.each b))
  where
    on : (o : Option MemoryBlock) → slice_get m b ≡ o → IsRefilled (slice_get m b) (Some y)
        → (x : MemoryBlock) × (slice_get m b ≡ Some x) × (y ≡ record x { bytes = y.bytes })
    on None e h = absurd (subst (λ z. IsRefilled z (Some y)) e h)
    on (Some x) e h = (x, e, subst (λ z. IsRefilled z (Some y)) e h)

-- the block that there is now
pub refilled_to : (m n : List MemoryBlock) (b : ℕ) (x : MemoryBlock) → AreRefilled m n → slice_get m b ≡ Some x
    → (y : MemoryBlock) × (slice_get n b ≡ Some y) × (y ≡ record x { bytes = y.bytes })
refilled_to m n b x r at = on (slice_get n b) refl (subst (λ z. IsRefilled z (slice_get n b)) at (r.each b))
  where
    on : (o : Option MemoryBlock) → slice_get n b ≡ o → IsRefilled (Some x) (slice_get n b)
        → (y : MemoryBlock) × (slice_get n b ≡ Some y) × (y ≡ record x { bytes = y.bytes })
    on None e h = absurd (subst (IsRefilled (Some x)) e h)
    on (Some y) e h = (y, e, subst (IsRefilled (Some x)) e h)

pub lives_before : (m n : List MemoryBlock) (b : ℕ) → AreRefilled m n → LivesIn n b → LivesIn m b
lives_before m n b r l = let x = refilled_from m n b l.block r l.there in record {
  block = x.0;
  there = x.1;
  is_live = ap (λ (z : MemoryBlock). is_live z.life) (sym x.2) ∙ l.is_live;
}

pub gone_before : (m n : List MemoryBlock) (b : ℕ) → AreRefilled m n → IsGone m b → IsGone n b
gone_before m n b r gone x at = let y = refilled_from m n b x r at in ap (λ (z : MemoryBlock). is_killed z.life) y.2
    ∙ gone y.0 y.1

-- a block that isn't hidden is as it is
pub lives_shown : (hides : ℕ → Bool) (m : List MemoryBlock) (b : ℕ) → LivesIn (muted hides m) b
    → (hides b ≡ false) × LivesIn m b
lives_shown hides m b l = on (slice_get m b) refl (hides b) refl (sym (muted_at hides m b) ∙ l.there)
  where
    on : (o : Option MemoryBlock) → slice_get m b ≡ o → (t : Bool) → hides b ≡ t
        → option_map (ended_if (hides b)) (slice_get m b) ≡ Some l.block → (hides b ≡ false) × LivesIn m b
    on None e t h at = let k : None ≡ Some l.block = sym (ap (option_map (ended_if (hides b))) e) ∙ at in absurd (cc)
    on (Some x) e true h at =
        let k : record x { life = Life.Ended } ≡ l.block = same_some _ _ (sym (ap (option_map (ended_if (hides b))) e
        ∙ ap (λ t. Some (ended_if t x)) h) ∙ at) in
        absurd (false≢true (ap (λ (z : MemoryBlock). is_live z.life) k ∙ l.is_live))
    on (Some x) e false h at =
        let k : x ≡ l.block = same_some _ _ (sym (ap (option_map (ended_if (hides b))) e
        ∙ ap (λ t. Some (ended_if t x)) h) ∙ at) in
        (h, record { block = x; there = e; is_live = ap (λ (z : MemoryBlock). is_live z.life) k ∙ l.is_live })

pub shown_lives : (hides : ℕ → Bool) (m : List MemoryBlock) (b : ℕ) → hides b ≡ false → LivesIn m b
    → LivesIn (muted hides m) b
shown_lives hides m b h l = record {
  block = l.block;
  there = muted_at hides m b ∙ ap (option_map (ended_if (hides b))) l.there ∙ ap (λ t. Some (ended_if t l.block)) h;
  is_live = l.is_live;
}

-- ---- a block is among those that are used, or it isn't

pub is_among : (ps : List Place) (d : ℕ)
    → ((p : Place) × (IsListed p ps × (p.block ≡ d))) ⊎ Each (λ (q : Place). q.block ≢ d) ps
is_among [] d = inr tt
is_among (p ∷ ps) d = ⊎_elim
    (λ e. inl (p, (inl refl, e)))
    (λ ne. ⊎_elim (λ h. inl (h.0, (inr h.1.0, h.1.1))) (λ h. inr (ne, h)) (is_among ps d))
    (cases_eq p.block d)

pub each_listed : (P : Place → Type 0) (ps : List Place) (p : Place) → Each P ps → IsListed p ps → P p
each_listed P [] p h listed = absurd listed
each_listed P (q ∷ ps) p h (inl e) = subst P (sym e) h.0
each_listed P (q ∷ ps) p h (inr listed) = each_listed P ps p h.1 listed

shown_others : (hides : ℕ → Bool) (ps : List Place) (d : ℕ) → Each (λ (q : Place). q.block ≢ d) ps
    → shown_of hides ps d ≡ hides d
shown_others hides [] d h = refl
shown_others hides (p ∷ ps) d h = shown_others (showing hides p.block) ps d h.1
    ∙ showing_others hides p.block d (λ e. h.0 (sym e))

shown_listed : (hides : ℕ → Bool) (ps : List Place) (p : Place) → IsListed p ps → shown_of hides ps p.block ≡ false
shown_listed hides [] p h = absurd h
shown_listed hides (q ∷ ps) p (inl e) = shown_stays (showing hides q.block) ps p.block (ap (λ (z : Place). showing
    hides q.block z.block) e ∙ showing_it hides q.block)
shown_listed hides (q ∷ ps) p (inr h) = shown_listed (showing hides q.block) ps p h

hidden_before : (hides : ℕ → Bool) (ps : List Place) (d : ℕ) → shown_of hides ps d ≡ true → hides d ≡ true
hidden_before hides ps d e = on (hides d) refl
  where
    on : (t : Bool) → hides d ≡ t → hides d ≡ true
    on true h = h
    on false h = absurd (false≢true (sym (shown_stays hides ps d h) ∙ e))

-- ---- all blocks, once slots have been used

module _ (m : Module) (l : Ledger) (memory memory' target target' : List MemoryBlock) (ps : List Place) (e :
    AreEntered m l memory target) (places : Each (IsPlace l.homes l.hides memory target) ps) (settled : Each
    (IsSettled l.homes l.hides memory) ps) (apart : ArePlacesApart ps) (theirs : AreTheirs l ps) where
  abbrev quiet : ℕ → Bool
  quiet b = is_quiet m (l.seats b)

  abbrev k : Ledger
  k = used_ledger m l ps

  within : Each (λ (q : Place). q.block < length l.homes) ps
  within = each_map _ _ ps (λ q h. h.within) places

  within_stood : Each (λ (q : Place). q.block < length (stood l.homes ps)) ps
  within_stood = each_map _ _ ps (λ q lt. subst (λ n. q.block < n) (sym (stood_length l.homes ps)) lt) within

  pub used_other : (d : ℕ) → Each (λ (q : Place). q.block ≢ d) ps
      → home_of (used_ledger m l ps).homes d ≡ home_of l.homes d
  used_other d h = faded_others (λ b. is_quiet m (l.seats b)) (stood l.homes ps) ps d h ∙ stood_others l.homes ps d h

  pub used_block : (p : Place) → IsListed p ps → (home_of (used_ledger m l ps).homes p.block).block ≡ p.target
  used_block p listed = faded_block (λ b. is_quiet m (l.seats b)) (stood l.homes ps) ps p.block within_stood
      ∙ ap (λ (q : Home). q.block) (stood_at l.homes ps p within apart listed)

  -- it stands there
  pub used_home : (p : Place) → IsListed p ps → IsHomeOf (used_ledger m l ps) p.block p.target
  used_home p listed = record {
    is_seen = _;
    home = faded_shape (λ b. is_quiet m (l.seats b)) (stood l.homes ps) ps p.block within_stood
        ∙ ap (λ (q : Home). record q { is_seen = (home_of (used_ledger m l ps).homes p.block).is_seen }) (stood_at
        l.homes ps p within apart listed);
    shown = shown_listed l.hides ps p listed;
  }

  pub used_extends : Extends l.homes (used_ledger m l ps).homes
  used_extends = record { each = λ b seen. on b seen (is_quiet m (l.seats b)) refl }
    where
      on : (b : ℕ) → (home_of l.homes b).is_seen ≡ true → (t : Bool) → is_quiet m (l.seats b) ≡ t
          → home_of (used_ledger m l ps).homes b ≡ home_of l.homes b
      on b seen true h = absurd (false≢true (sym (e.quiet b h) ∙ seen))
      on b seen false h = faded_loud (λ b. is_quiet m (l.seats b)) (stood l.homes ps) ps b h
          ∙ (stood_extends l.homes l.hides memory target ps places settled apart).each b seen

  unlisted : (b : ℕ) → l.seats b ≡ None → Each (λ (q : Place). q.block ≢ b) ps
  unlisted b none = each_map _ _ ps (λ q (h : IsTheirs l q) is. let c : None ≡ Some h.seat = sym none
      ∙ ap l.seats (sym is) ∙ h.seated in absurd (cc)) theirs

  module _ (refilled : AreRefilled memory memory') (refilled' : AreRefilled target target') where
    about_before : (d : ℕ) → Each (λ (q : Place). q.block ≢ d) ps → IsAbout (used_ledger m l ps) memory' d
        → IsAbout l memory d
    about_before d out (Seen h) = Seen (ap (λ (q : Home). q.is_seen) (sym (used_other d out)) ∙ h)
    about_before d out (Lives h) =
        let s = lives_shown (shown_of l.hides ps) memory' d h in
        Lives (shown_lives l.hides memory d (sym (shown_others l.hides ps d out)
        ∙ s.0) (lives_before memory memory' d refilled s.1))

    mate_on : (b : ℕ) (x : MemoryBlock) → l.seats b ≡ None → slice_get memory' b ≡ Some x
        → IsMate (used_ledger m l ps) target' b x
    mate_on b x none at =
        let old = refilled_from memory memory' b x refilled at in
        let mate = e.mates b old.0 none old.1 in
        let now = refilled_to target target' mate.block (record (old.0) { bytes = mate.bytes }) refilled' mate.there in
        record {
          block = mate.block;
          home = used_other b (unlisted b none) ∙ mate.home;
          shown = shown_stays l.hides ps b mate.shown;
          bytes = now.0.bytes;
          there = now.1 ∙ ap Some (now.2 ∙ ap (λ (z : MemoryBlock). record z { bytes = now.0.bytes }) (sym old.2));
          owner = mate.owner;
        }

    pub used_entered : AreShownBlocks (λ b. is_quiet m (l.seats b)) memory'
        → AreShownBlocks (λ b. nat_le (length memory') b) memory' → ((c : ℕ) → IsFull target' c)
        → AreEntered m (used_ledger m l ps) memory' target'
    used_entered shown future full = record {
      known = faded_length (λ b. is_quiet m (l.seats b)) (stood l.homes ps) ps ∙ stood_length l.homes ps ∙ e.known
          ∙ sym (as_many memory memory' refilled);
      hidden = λ b h. faded_unseen (λ b. is_quiet m (l.seats b)) (stood l.homes ps) ps b within_stood (still_hidden
          l.homes l.hides ps e.hidden b h);
      present = λ b h. subst (λ n. b < n) (sym (as_many memory memory' refilled)) (e.present b (hidden_before l.hides
          ps b h));
      globals = λ b lt. let g = e.globals b lt in used_extends.each b (ap (λ (q : Home). q.is_seen) g) ∙ g;
      alone = λ b about. ⊎_elim
          (λ h. subst (λ d. l.tenants (home_of (used_ledger m l ps).homes d).block ≡ Some d) h.1.1 (ap l.tenants
          (used_block h.0 h.1.0) ∙ (each_listed (IsTheirs l) ps h.0 theirs h.1.0).tenant))
          (λ out. ap (λ (q : Home). l.tenants q.block) (used_other b out) ∙ e.alone b (about_before b out about))
          (is_among ps b);
      owned = λ c depth h. subst (λ n. c < n) (sym (as_many target target' refilled')) (e.owned c depth h);
      seated = λ b seat h. subst (λ n. b < n) (sym (as_many memory memory' refilled)) (e.seated b seat h);
      placed = λ b seat h. ⊎_elim
          (λ p. let their = each_listed (IsTheirs l) ps p.0 theirs p.1.0 in (
            their.depth,
            subst (λ d. l.owners (home_of (used_ledger m l ps).homes d).block ≡ Some their.depth) p.1.1 (ap l.owners
                (used_block p.0 p.1.0) ∙ their.owner),
          ))
          (λ out. let old = e.placed b seat h in (
            old.0,
            ap (λ (q : Home). l.owners q.block) (used_other b out) ∙ old.1,
          ))
          (is_among ps b);
      kinds = λ b seat x h at. let z = refilled_from memory memory' b x refilled at in
          ap (λ (q : MemoryBlock). same_kind q.kind Kind.Allocator) z.2 ∙ e.kinds b seat z.0 h z.1;
      shapes = λ b seat x h at. let z = refilled_from memory memory' b x refilled at in
          of_alloca_refilled m _ seat.alloca z.0 x z.2 (e.shapes b seat z.0 h z.1);
      unowned = λ c depth y h at. let z = refilled_from target target' c y refilled' at in
          ap (λ (q : MemoryBlock). q.owned) z.2 ∙ e.unowned c depth z.0 h z.1;
      mates = mate_on;
      full = full;
      quiet = λ b h. ⊎_elim
          (λ p. subst (λ d. (home_of (used_ledger m l ps).homes d).is_seen ≡ false) p.1.1 (faded_quiet (λ b. is_quiet
          m (l.seats b)) (stood l.homes ps) ps p.0 within_stood p.1.0 (subst (λ d. is_quiet m (l.seats d) ≡ true)
          (sym p.1.1) h)))
          (λ out. ap (λ (q : Home). q.is_seen) (used_other b out) ∙ e.quiet b h)
          (is_among ps b);
      shown = shown;
      future = future;
    }

    -- a slot that isn't used keeps what is said of it, where it is as it was
    pub unused_kept : (b : ℕ) → Each (λ (q : Place). q.block ≢ b) ps → (IsFresh l memory b
        → slice_get memory' b ≡ slice_get memory b) → IsSlotKept l (used_ledger m l ps) memory memory' b
    unused_kept b out same = record {
      home = used_other b out;
      hides = shown_others l.hides ps b out;
      fresh = λ f. record {
        unseen = ap (λ (q : Home). q.is_seen) (used_other b out)
            ∙ f.unseen;
        blank = λ x at live. f.blank x (sym (same f) ∙ at) live;
      };
      lives = lives_before memory memory' b refilled;
      gone = gone_before memory memory' b refilled;
    }
