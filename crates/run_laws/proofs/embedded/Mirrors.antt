-- A block and its home changed alike, with their sizes left as they are.
use Rattle.std.proofs.Common.{◌≡◌, ℕ, zero, suc, ◌+◌, ◌^◌, ◌<◌, ◌≤◌, Bool, true, false, not, List, [], ◌∷◌, Some, refl, sym, ap, ◌∙◌, subst, ⊎_elim, if◌then◌else◌, ◌||◌}
use Rattle.std.specs.Prelude.{slice_get}
use Rattle.std.proofs.lemmas.Bool.{cases_eq, false≢true}
use Rattle.std.proofs.lemmas.List.{length-replicate}
use Rattle.run_memory.specs.Memory.{Rights, ended, is_killed, is_live, may_compare_at, started, with_block}
use Rattle.run_memory.specs.Pointers.{moved}
use Rattle.run_memory.specs.declared.block.Byte.{Byte}
use Rattle.run_memory.specs.declared.block.Life.{Life}
use Rattle.run_memory.specs.declared.block.MemoryBlock.{MemoryBlock}
use Rattle.run_memory.specs.declared.pointer.Offset.{Offset}
use Rattle.run_laws.proofs.memory.Changes.{HasRoom, blank_stands}
use Rattle.run_laws.proofs.memory.Homes.{seen_within}
use Rattle.run_laws.proofs.memory.Mirrored.{mirrored}
use Rattle.run_laws.proofs.memory.Written.{changed_elsewhere, changed_here, same_some}
use Rattle.run_laws.specs.memory.Pointers.{Home, home_of}
use Rattle.run_laws.specs.memory.Standing.{AreBoundsKept, AreByteRights, AreNullsKept, Embeds, Stands}
use Rattle.run_laws.specs.embedded.Marks.{IsAlone, LivesAlone, MayStart, anew}

-- ---- the block before and after

pub record Before (m : List MemoryBlock) (b : ℕ) (f : MemoryBlock → MemoryBlock) (x : MemoryBlock) : Type 0 where
  pub block : MemoryBlock
  pub was : slice_get m b ≡ Some block
  pub is : f block ≡ x

pub before : (m : List MemoryBlock) (b : ℕ) (f : MemoryBlock → MemoryBlock) (x : MemoryBlock) → slice_get (with_block m b f) b ≡ Some x → Before m b f x
before [] b f x e = absurd (cc)
before (y ∷ m) zero f x e = record { block = y; was = refl; is = same_some (f y) x e }
before (y ∷ m) (suc b) f x e = let h = before m b f x e in record { block = h.block; was = h.was; is = h.is }

pub record Sized (m : List MemoryBlock) (b size : ℕ) : Type 0 where
  pub block : MemoryBlock
  pub there : slice_get m b ≡ Some block
  pub same : block.size ≡ size

-- changes that leave sizes as they are
abbrev pub KeepsSize : (MemoryBlock → MemoryBlock) → Type 0
KeepsSize f = (x : MemoryBlock) → (f x).size ≡ x.size

sized_before : (m : List MemoryBlock) (b c : ℕ) (f : MemoryBlock → MemoryBlock) (x : MemoryBlock) → KeepsSize f → slice_get (with_block m b f) c ≡ Some x → Sized m c x.size
sized_before m b c f x keeps e = ⊎_elim
    (λ is.
    let h = before m b f x (ap (slice_get (with_block m b f)) (sym is) ∙ e) in
    record { block = h.block; there = ap (slice_get m) is ∙ h.was; same = sym (keeps h.block) ∙ ap (λ (y : MemoryBlock). y.size) h.is })
    (λ ne. record { block = x; there = sym (changed_elsewhere m b c f ne) ∙ e; same = refl })
    (cases_eq c b)

sized_after : (m : List MemoryBlock) (b c : ℕ) (f : MemoryBlock → MemoryBlock) (x : MemoryBlock) → KeepsSize f → slice_get m c ≡ Some x → Sized (with_block m b f) c x.size
sized_after m b c f x keeps e = ⊎_elim
    (λ is. record { block = f x; there = ap (slice_get (with_block m b f)) is ∙ changed_here m b f x (ap (slice_get m) (sym is) ∙ e); same = keeps x })
    (λ ne. record { block = x; there = changed_elsewhere m b c f ne ∙ e; same = refl })
    (cases_eq c b)

pub bounds_changed : (homes : List Home) (m n : List MemoryBlock) (b k : ℕ) (f g : MemoryBlock → MemoryBlock) → KeepsSize f → KeepsSize g → AreBoundsKept homes m n → AreBoundsKept homes (with_block m b f) (with_block n k g)
bounds_changed homes m n b k f g keeps keeps' bounds = record {
  each = λ c x seen e.
      let z = sized_before m b c f x keeps e in
      let h = bounds.each c z.block seen z.there in
      let y = sized_after n k (home_of homes c).block g h.block keeps' h.there in
      record {
        block = y.block;
        there = y.there;
        fits = subst (λ (s : ℕ). (home_of homes c).offset + x.size ≤ s) (sym y.same) (subst (λ (s : ℕ). (home_of homes c).offset + s ≤ h.block.size) z.same h.fits);
        small = subst (λ (s : ℕ). s < 2 ^ 64) (sym y.same) h.small;
      };
}

pub nulls_changed : (rights target : Rights) (homes : List Home) (m n : List MemoryBlock) (b : ℕ) (f g : MemoryBlock → MemoryBlock) → IsAlone homes m b → ((o : Offset) → may_compare_at rights b (slice_get (with_block m b f) b) o ≡ true → may_compare_at target (home_of homes b).block (slice_get (with_block n (home_of homes b).block g) (home_of homes b).block) (moved o (home_of homes b).offset) ≡ true) → AreNullsKept rights target homes m n → AreNullsKept rights target homes (with_block m b f) (with_block n (home_of homes b).block g)
nulls_changed rights target homes m n b f g alone new nulls = record {
  each = λ c o seen e. ⊎_elim
      (λ is.
      subst (λ i. may_compare_at target (home_of homes i).block (slice_get (with_block n (home_of homes b).block g) (home_of homes i).block) (moved o (home_of homes i).offset) ≡ true) (sym is)
      (new o (ap (λ i. may_compare_at rights i (slice_get (with_block m b f) i) o) (sym is) ∙ e)))
      (λ ne.
      ap (λ z. may_compare_at target (home_of homes c).block z (moved o (home_of homes c).offset)) (changed_elsewhere n (home_of homes b).block (home_of homes c).block g (alone.seen c ne seen))
      ∙ nulls.each c o seen (ap (λ z. may_compare_at rights c z o) (sym (changed_elsewhere m b c f ne)) ∙ e))
      (cases_eq c b);
}

-- ---- blocks that end

killed_dead : (l : Life) → is_killed l ≡ true → is_live l ≡ false
killed_dead Life.Live e = absurd (false≢true e)
killed_dead Life.Ended e = refl
killed_dead Life.Killed e = refl

pub ended_dead : (x : MemoryBlock) → is_live (ended x).life ≡ false
ended_dead x = on (is_killed x.life) refl
  where
    on : (t : Bool) → is_killed x.life ≡ t → is_live (if t then x else record x { life = Life.Ended }).life ≡ false
    on true e = killed_dead x.life e
    on false e = refl

pub ended_size : KeepsSize ended
ended_size x = on (is_killed x.life)
  where
    on : (t : Bool) → (if t then x else record x { life = Life.Ended }).size ≡ x.size
    on true = refl
    on false = refl

-- changes after which no block lives
abbrev pub Ends : (MemoryBlock → MemoryBlock) → Type 0
Ends f = (x : MemoryBlock) → is_live (f x).life ≡ false

-- a pointer to a dead block may be compared with null
pub dead_compares : (target : Rights) (f : MemoryBlock → MemoryBlock) → Ends f → (k : ℕ) (n : List MemoryBlock) (b : ℕ) (o : Offset) → may_compare_at target k (slice_get (with_block n b f) b) o ≡ true
dead_compares target f dead k [] b o = refl
dead_compares target f dead k (y ∷ n) zero o = ap (λ (t : Bool). not t || target.is_comparable k (f y) o.bits) (dead y)
dead_compares target f dead k (y ∷ n) (suc b) o = dead_compares target f dead k n b o

-- a block that lives alone in its home does so after another one's death
pub lives_on : (homes : List Home) (m : List MemoryBlock) (b k : ℕ) (f : MemoryBlock → MemoryBlock) → Ends f → LivesAlone homes m b → LivesAlone homes (with_block m k f) b
lives_on homes m b k f dead alone = λ c z ne e live. ⊎_elim
    (λ is.
    let h = before m k f z (ap (slice_get (with_block m k f)) (sym is) ∙ e) in
    absurd (false≢true (sym (dead h.block) ∙ ap (λ (y : MemoryBlock). is_live y.life) h.is ∙ live)))
    (λ other. alone c z ne (sym (changed_elsewhere m k c f other) ∙ e) live)
    (cases_eq c k)

-- comparisons with null stay where a block and its home die, whatever else stands in the home
pub nulls_dead : (rights target : Rights) (homes : List Home) (m n : List MemoryBlock) (b : ℕ) (f g : MemoryBlock → MemoryBlock) → Ends g → AreNullsKept rights target homes m n → AreNullsKept rights target homes (with_block m b f) (with_block n (home_of homes b).block g)
nulls_dead rights target homes m n b f g dead nulls = record {
  each = λ c o seen e. ⊎_elim
      (λ is.
      ap (λ i. may_compare_at target (home_of homes c).block (slice_get (with_block n (home_of homes b).block g) i) (moved o (home_of homes c).offset)) is
      ∙ dead_compares target g dead (home_of homes c).block n (home_of homes b).block (moved o (home_of homes c).offset))
      (λ ne.
      ap (λ z. may_compare_at target (home_of homes c).block z (moved o (home_of homes c).offset)) (changed_elsewhere n (home_of homes b).block (home_of homes c).block g ne)
      ∙ nulls.each c o seen (ap (λ z. may_compare_at rights c z o) (sym (changed_elsewhere m b c f (λ i. ne (ap (λ k. (home_of homes k).block) i)))) ∙ e))
      (cases_eq (home_of homes c).block (home_of homes b).block);
}

-- ---- blocks that live again

pub started_size : KeepsSize started
started_size x = on (is_killed x.life)
  where
    on : (t : Bool) → (if t then x else anew x).size ≡ x.size
    on true = refl
    on false = refl

started_anew : (x : MemoryBlock) → is_killed x.life ≡ false → started x ≡ anew x
started_anew x e = ap (λ (t : Bool). if t then x else anew x) e

-- only a block that isn't killed lives when it is started
started_unkilled : (x : MemoryBlock) → is_live (started x).life ≡ true → is_killed x.life ≡ false
started_unkilled x live = on (is_killed x.life) refl live
  where
    on : (t : Bool) → is_killed x.life ≡ t → is_live (if t then x else anew x).life ≡ true → t ≡ false
    on true e l = absurd (false≢true (sym (killed_dead x.life e) ∙ l))
    on false e l = refl

module _ (rights target : Rights) (law : AreByteRights rights) (law' : AreByteRights target) (homes : List Home) (m n : List MemoryBlock) (b : ℕ) (em : Embeds rights target homes m n) (alone : LivesAlone homes m b) where
  pub dies_embedded : (f g : MemoryBlock → MemoryBlock) → Ends f → Embeds rights target homes (with_block m b f) (with_block n (home_of homes b).block g)
  dies_embedded f g dead =
      mirrored rights target law law' homes m n b f g em alone
      (λ x is live.
      let h = before m b f x is in
      absurd (false≢true (sym (dead h.block) ∙ ap (λ (y : MemoryBlock). is_live y.life) h.is ∙ live)))

  module _ (bounds : AreBoundsKept homes m n) (seen : (home_of homes b).is_seen ≡ true) (may : MayStart rights target homes m n b) where
    room_again : (x : MemoryBlock) → slice_get m b ≡ Some x → is_killed x.life ≡ false → HasRoom rights target (with_block n (home_of homes b).block started) (home_of homes b) b (anew x)
    room_again x is un =
        let k = may.again x is un in
        let h = bounds.each b x seen is in
        let same : h.block ≡ k.block = same_some h.block k.block (sym h.there ∙ k.there) in
        record {
          block = anew k.block;
          there = changed_here n (home_of homes b).block started k.block k.there ∙ ap Some (started_anew k.block k.unkilled);
          live = refl;
          whole = length-replicate k.block.size Byte.Undefined;
          fits = subst (λ (y : MemoryBlock). (home_of homes b).offset + x.size ≤ y.size) same h.fits;
          small = subst (λ (y : MemoryBlock). y.size < 2 ^ 64) same h.small;
          writable = k.writable;
          allowed = k.allowed;
        }

    pub starts_embedded : Embeds rights target homes (with_block m b started) (with_block n (home_of homes b).block started)
    starts_embedded = mirrored rights target law law' homes m n b started started em alone
        (λ x is live.
        let h = before m b started x is in
        let un = started_unkilled h.block (ap (λ (y : MemoryBlock). is_live y.life) h.is ∙ live) in
        subst (λ (y : MemoryBlock). Stands rights target homes (with_block n (home_of homes b).block started) b y) (sym (started_anew h.block un) ∙ h.is)
        (blank_stands rights target homes (with_block n (home_of homes b).block started) b (anew h.block) (seen_within homes b seen) refl (room_again h.block h.was un)))
