-- The second memory has one block more, which an activation has made anew.
use Rattle.std.proofs.Common.{◌≡◌, ◌≢◌, ℕ, zero, suc, ◌<◌, ◌≤◌, Bool, true, false, List, [], ◌∷◌, ◌++◌, length}
use Rattle.std.proofs.Common.{length-append, Option, Some, None, refl, sym, ap, ◌∙◌, subst, ⊎_elim, arith}
use Rattle.std.proofs.Common.{if◌then◌else◌, ◌==◌}
use Rattle.std.proofs.lemmas.Bool.{cases_eq, cases_lt, false≢true}
use Rattle.std.specs.Prelude.{option_map, slice_get}
use Rattle.pass_kept_proof.specs.ir_model.declared.module.Module.{Module}
use Rattle.run_laws.proofs.memory.Written.{same_some}
use Rattle.run_laws.specs.access.Changed.{IsFull}
use Rattle.run_laws.specs.memory.Pointers.{Home, home_of}
use Rattle.pass_kept_proof.specs.run_memory.declared.block.MemoryBlock.{MemoryBlock}
use Rattle.pass_renewed_proof.proofs.Carried.{IsCarried, IsSlotKept}
use Rattle.pass_renewed_proof.proofs.Made.{get_last, get_none, get_other, get_there, get_within}
use Rattle.pass_renewed_proof.proofs.Places.{muted_at}
use Rattle.pass_renewed_proof.specs.Ledger.{AreEntered, IsAbout, IsMate, Ledger, Lives, Seen, anew_ledger, updated}
use Rattle.pass_renewed_proof.specs.Muted.{ended_if, muted}
use Rattle.pass_renewed_proof.specs.Places.{AreStanding, IsReady}

-- ---- one number

updated_test : (k n : ℕ) → k ≢ n → (k == n) ≡ false
updated_test k n ne = on (k == n) refl
  where
    on : (t : Bool) → (k == n) ≡ t → (k == n) ≡ false
    on true e = absurd (ne (grind arith))
    on false e = e

pub updated_other : {A : Type 0} (f : ℕ → A) (n : ℕ) (v : A) (k : ℕ) → k ≢ n → updated f n v k ≡ f k
updated_other f n v k ne = ap (λ t. if t then v else f k) (updated_test k n ne)

pub updated_here : {A : Type 0} (f : ℕ → A) (n : ℕ) (v : A) → updated f n v n ≡ v
updated_here f n v = ap (λ t. if t then v else f n) (same n)
  where
    same : (n : ℕ) → (n == n) ≡ true
    same n = grind arith

pub below_other : (k n : ℕ) → k < n → k ≢ n
below_other k n lt e = absurd (omega arith)

-- ---- where blocks stand, there is a block of the second memory

-- a home that is seen is that of a block that there is
pub home_past : (homes : List Home) (b : ℕ) → length homes ≤ b → (home_of homes b).is_seen ≡ false
home_past [] b le = refl
home_past (q ∷ homes) zero le = absurd (omega arith)
home_past (q ∷ homes) (suc b) le = home_past homes b (omega arith)

seen_somewhere : (l : Ledger) (m : List MemoryBlock) (b : ℕ) → length l.homes ≡ length m
    → (home_of l.homes b).is_seen ≡ true → slice_get (muted l.hides m) b ≡ None → ⊥
seen_somewhere l m b known seen none = ⊎_elim
    (λ lt. on lt (slice_get m b) refl (sym (muted_at l.hides m b) ∙ none))
    (λ le. absurd (false≢true (sym (home_past l.homes b le) ∙ seen)))
    (cases_lt b (length l.homes))
  where
    on : b < length l.homes → (o : Option MemoryBlock) → slice_get m b ≡ o
        → option_map (ended_if (l.hides b)) (slice_get m b) ≡ None → ⊥
    on lt None e h = get_none m b e (omega arith)
    on lt (Some x) e h = let c : Some (ended_if (l.hides b) x) ≡ None = sym (ap (option_map (ended_if (l.hides b))) e)
        ∙ h in absurd (cc)

pub present_block : (l : Ledger) (m : List MemoryBlock) → length l.homes ≡ length m → (b : ℕ)
    → (home_of l.homes b).is_seen ≡ true → (x : MemoryBlock) × (slice_get m b ≡ Some x)
present_block l m known b seen = get_there m b (subst (λ k. b < k) known (⊎_elim
    (λ lt. lt)
    (λ le. absurd (false≢true (sym (home_past l.homes b le) ∙ seen)))
    (cases_lt b (length l.homes))))

pub about_there : (l : Ledger) (m n : List MemoryBlock) (b : ℕ) → AreStanding l.homes (muted l.hides m) n
    → length l.homes ≡ length m → IsAbout l m b → (home_of l.homes b).block < length n
about_there l m n b st known (Lives h) = let s = st.memory.each b h.block h.there h.is_live in get_within n _ s.block
    s.there
about_there l m n b st known (Seen h) = on (slice_get (muted l.hides m) b) refl
  where
    on : (o : Option MemoryBlock) → slice_get (muted l.hides m) b ≡ o → (home_of l.homes b).block < length n
    on (Some x) e = let s = st.bounds.each b x h e in get_within n _ s.block s.there
    on None e = absurd (seen_somewhere l m b known h e)

module _ (m : Module) (l : Ledger) (memory target : List MemoryBlock) (y : MemoryBlock) (depth : ℕ) (tenant : Option
    ℕ) (st : AreStanding l.homes (muted l.hides memory) target) (e : AreEntered m l memory target) (whole : length
    y.bytes ≡ y.size) (free : y.owned ≡ None) where
  abbrev k : Ledger
  k = anew_ledger l (length target) depth tenant

  longer : length target < length (target ++ y ∷ [])
  longer = let h = length-append target (y ∷ []) in omega arith

  mate_on : (b : ℕ) (x : MemoryBlock) → IsMate l target b x
      → IsMate (anew_ledger l (length target) depth tenant) (target ++ y ∷ []) b x
  mate_on b x mate =
      let ne = below_other mate.block (length target) (get_within target mate.block _ mate.there) in
      record {
        block = mate.block;
        home = mate.home;
        shown = mate.shown;
        bytes = mate.bytes;
        there = get_other target y mate.block ne
            ∙ mate.there;
        owner = updated_other l.owners (length target) (Some depth) mate.block ne ∙ mate.owner;
      }

  pub anew_entered : AreEntered m (anew_ledger l (length target) depth tenant) memory (target ++ y ∷ [])
  anew_entered = record {
    known = e.known;
    hidden = e.hidden;
    present = e.present;
    globals = e.globals;
    alone = λ b about.
        let old : IsAbout l memory b = about_same b about in
        updated_other l.tenants (length target) tenant _ (below_other _ (length target) (about_there l memory target b
        st e.known old)) ∙ e.alone b old;
    owned = λ c d h. ⊎_elim
        (λ is. subst (λ n. n < length (target ++ y ∷ [])) (sym is) longer)
        (λ ne. let lt = e.owned c d (sym (updated_other l.owners (length target) (Some depth) c ne)
        ∙ h) in let more = longer in omega arith)
        (cases_eq c (length target));
    seated = e.seated;
    kinds = e.kinds;
    shapes = e.shapes;
    placed = λ b seat h. let old = e.placed b seat h in (
      old.0,
      updated_other l.owners (length target) (Some depth) _ (below_other _ (length target) (e.owned _ old.0 old.1))
          ∙ old.1,
    );
    unowned = unowned_on;
    mates = λ b x none at. mate_on b x (e.mates b x none at);
    full = full_on;
    quiet = e.quiet;
    shown = e.shown;
    future = e.future;
  }
    where
      unowned_on : (c d : ℕ) (x : MemoryBlock) → updated l.owners (length target) (Some depth) c ≡ Some d
          → slice_get (target ++ y ∷ []) c ≡ Some x → x.owned ≡ None
      unowned_on c d x h at = ⊎_elim
          (λ is. let k : y ≡ x = same_some y x (sym (get_last target y) ∙ ap (slice_get (target ++ y ∷ [])) (sym is)
          ∙ at) in ap (λ (z : MemoryBlock). z.owned) (sym k) ∙ free)
          (λ ne. e.unowned c d x (sym (updated_other l.owners (length target) (Some depth) c ne)
          ∙ h) (sym (get_other target y c ne) ∙ at))
          (cases_eq c (length target))

      full_on : (c : ℕ) → IsFull (target ++ y ∷ []) c
      full_on c x at live = ⊎_elim
          (λ is. let k : y ≡ x = same_some y x (sym (get_last target y) ∙ ap (slice_get (target ++ y ∷ [])) (sym is)
          ∙ at) in subst (λ (z : MemoryBlock). length z.bytes ≡ z.size) k whole)
          (λ ne. e.full c x (sym (get_other target y c ne) ∙ at) live)
          (cases_eq c (length target))

      about_same : (b : ℕ) → IsAbout (anew_ledger l (length target) depth tenant) memory b → IsAbout l memory b
      about_same b (Seen h) = Seen h
      about_same b (Lives h) = Lives h

  ready_on : (c : ℕ) (x : MemoryBlock) → IsReady target c x → IsReady (target ++ y ∷ []) c x
  ready_on c x r = record {
    block = r.block;
    there = get_other target y c (below_other c (length target) (get_within target c r.block r.there))
        ∙ r.there;
    live = r.live;
    owner = r.owner;
    whole = r.whole;
    room = r.room;
    small = r.small;
    align = r.align;
    writable = r.writable;
  }

  pub anew_carried : IsCarried l (anew_ledger l (length target) depth tenant) memory memory target (target ++ y ∷ [])
  anew_carried = record {
    extends = record { each = λ b h. refl };
    seats = λ b seat h. h;
    unseated = λ b seen h. h;
    owners = λ c d h. updated_other l.owners (length target) (Some depth) c (below_other c (length target) (e.owned c
        d h)) ∙ h;
    tenants = λ c d h. updated_other l.tenants (length target) tenant c (below_other c (length target) (e.owned c d
        h));
    ready = λ b c d seat seated h old x at. ready_on c x (old x at);
  }

  pub anew_kept : (b : ℕ) → IsSlotKept l (anew_ledger l (length target) depth tenant) memory memory b
  anew_kept b = record {
    home = refl;
    hides = refl;
    fresh = λ f. record { unseen = f.unseen; blank = f.blank };
    lives = λ h. h;
    gone = λ h. h;
  }
