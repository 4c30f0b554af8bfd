-- Rights that change: the source still stands in the target.
use Rattle.std.proofs.Common.{◌≡◌, ◌≢◌, ℕ, zero, suc, ◌+◌, ◌^◌, ◌<◌, ◌≤◌, true, List, [], ◌∷◌, get_or, length, Option, Some, None, refl, sym, ap, ◌∙◌, subst, ⊎_elim}
use Rattle.std.specs.Prelude.{slice_get}
use Rattle.run_memory.specs.Memory.{Rights, disown, is_live, owned_to, same_kind, with_block}
use Rattle.run_memory.specs.declared.block.Byte.{Byte}
use Rattle.run_memory.specs.declared.block.Kind.{Kind}
use Rattle.run_memory.specs.declared.block.MemoryBlock.{MemoryBlock}
use Rattle.run_laws.specs.memory.Pointers.{Home, IsByte, home_of}
use Rattle.run_laws.specs.memory.Standing.{AreApart, AreBoundsKept, AreNullsKept, Embeds, Stands, byte_of}
use Rattle.run_step.specs.declared.world.World.{World}
use Rattle.run_laws.specs.access.Changed.{home_block}
use Rattle.run_laws.specs.access.Rights.{AreReowned, IsReowned, MayTurn}
use Rattle.run_laws.specs.embedded.Related.{AreWorlds}

-- the block that there was, or that there is now, with another owner
record Was (o : Option MemoryBlock) (y : MemoryBlock) : Type 0 where
  block : MemoryBlock
  there : o ≡ Some block
  same : y ≡ record block { owned = y.owned }

was : (o o' : Option MemoryBlock) (y : MemoryBlock) → IsReowned o o' → o' ≡ Some y → Was o y
was None None y h e = absurd (cc)
was None (Some z) y h e = absurd h
was (Some x) None y h e = absurd h
was (Some x) (Some z) y h e = let is : z ≡ y = cc in record { block = x; there = refl; same = subst (λ (u : MemoryBlock). u ≡ record x { owned = u.owned }) is h }

pub record Now (o : Option MemoryBlock) (x : MemoryBlock) : Type 0 where
  pub block : MemoryBlock
  pub there : o ≡ Some block
  pub same : block ≡ record x { owned = block.owned }

pub now : (o o' : Option MemoryBlock) (x : MemoryBlock) → IsReowned o o' → o ≡ Some x → Now o' x
now None o' x h e = absurd (cc)
now (Some z) None x h e = absurd h
now (Some z) (Some y) x h e = let is : z ≡ x = cc in record { block = y; there = refl; same = subst (λ (u : MemoryBlock). y ≡ record u { owned = y.owned }) is h }

module _ (before target after then : Rights) (homes : List Home) (m n k l : List MemoryBlock) (em : Embeds before target homes m n) (ours : AreReowned m k) (theirs : AreReowned n l) (turn : MayTurn before after then homes m k l) where
  before_of : (b : ℕ) (y : MemoryBlock) → slice_get k b ≡ Some y → Was (slice_get m b) y
  before_of b y e = was (slice_get m b) (slice_get k b) y (ours.each b) e

  lived : (b : ℕ) (y : MemoryBlock) (e : slice_get k b ≡ Some y) → is_live y.life ≡ true → is_live (before_of b y e).block.life ≡ true
  lived b y e live = sym (ap (λ (u : MemoryBlock). is_live u.life) (before_of b y e).same) ∙ live

  each : (b : ℕ) (y : MemoryBlock) → slice_get k b ≡ Some y → is_live y.life ≡ true → Stands after then homes l b y
  each b y e live =
      let x = before_of b y e in
      let s = em.each b x.block x.there (lived b y e live) in
      let z = now (slice_get n (home_block homes b)) (slice_get l (home_block homes b)) s.block (theirs.each (home_block homes b)) s.there in
      let size : y.size ≡ x.block.size = ap (λ (u : MemoryBlock). u.size) x.same in
      let size' : z.block.size ≡ s.block.size = ap (λ (u : MemoryBlock). u.size) z.same in
      let bytes : y.bytes ≡ x.block.bytes = ap (λ (u : MemoryBlock). u.bytes) x.same in
      let bytes' : z.block.bytes ≡ s.block.bytes = ap (λ (u : MemoryBlock). u.bytes) z.same in
      record {
        known = s.known;
        block = z.block;
        there = z.there;
        live = ap (λ (u : MemoryBlock). is_live u.life) z.same ∙ s.live;
        full = ap length bytes ∙ s.full ∙ sym size;
        whole = ap length bytes' ∙ s.whole ∙ sym size';
        fits = subst (λ (p : ℕ × ℕ). (home_of homes b).offset + p.0 ≤ p.1) (λ i. (sym size i, sym size' i)) s.fits;
        small = subst (λ (a : ℕ). a < 2 ^ 64) (sym size') s.small;
        writable = λ f. ap (λ (u : MemoryBlock). same_kind u.kind Kind.Constant) z.same ∙ s.writable (sym (ap (λ (u : MemoryBlock). same_kind u.kind Kind.Constant) x.same) ∙ f);
        allowed = turn.allowed b y z.block e live z.there;
        bytes = λ i lt op.
            subst (λ (p : List Byte × List Byte). IsByte homes (get_or p.0 i Byte.Undefined) (get_or p.1 ((home_of homes b).offset + i) Byte.Undefined)) (λ j. (sym bytes j, sym bytes' j))
            (⊎_elim
            (λ old. s.bytes i (subst (λ (a : ℕ). i < a) size lt) old)
            (λ new. subst (λ (d : Byte). IsByte homes d (byte_of s.block ((home_of homes b).offset + i))) (sym new.0) tt)
            (turn.opens b i x.block y x.there e (lived b y e live) (subst (λ (a : ℕ). i < a) size lt) op));
      }

  apart : (b c : ℕ) (y z : MemoryBlock) → b ≢ c → slice_get k b ≡ Some y → slice_get k c ≡ Some z → is_live y.life ≡ true → is_live z.life ≡ true → home_block homes b ≡ home_block homes c → AreApart after (home_of homes b) (home_of homes c) b c y z
  apart b c y z ne at_b at_c live_y live_z shared =
      let x = before_of b y at_b in
      let v = before_of c z at_c in
      let a = em.apart b c x.block v.block ne x.there v.there (lived b y at_b live_y) (lived c z at_c live_z) shared in
      let size : y.size ≡ x.block.size = ap (λ (u : MemoryBlock). u.size) x.same in
      let size' : z.size ≡ v.block.size = ap (λ (u : MemoryBlock). u.size) v.same in
      record {
        bytes = λ i j lt lt' p q. ⊎_elim
            (λ old. ⊎_elim
            (λ old'. a.bytes i j (subst (λ (s : ℕ). i < s) size lt) (subst (λ (s : ℕ). j < s) size' lt') old old')
            (λ new. λ e. new.1 b i y ne at_b live_y lt p shared (sym e))
            (turn.opens c j v.block z v.there at_c (lived c z at_c live_z) (subst (λ (s : ℕ). j < s) size' lt') q))
            (λ new. new.1 c j z (λ e. ne (sym e)) at_c live_z lt' q (sym shared))
            (turn.opens b i x.block y x.there at_b (lived b y at_b live_y) (subst (λ (s : ℕ). i < s) size lt) p);
        places = λ i j lt lt' p q. ⊎_elim
            (λ old. ⊎_elim
            (λ old'. a.places i j (subst (λ (s : ℕ). i < s) size lt) (subst (λ (s : ℕ). j < s) size' lt') old old')
            (λ new. λ e. new b i y ne at_b live_y lt p shared (sym e))
            (turn.compares c j v.block z v.there at_c (lived c z at_c live_z) (subst (λ (s : ℕ). j < s) size' lt') q))
            (λ new. new c j z (λ e. ne (sym e)) at_c live_z lt' q (sym shared))
            (turn.compares b i x.block y x.there at_b (lived b y at_b live_y) (subst (λ (s : ℕ). i < s) size lt) p);
      }

  pub turned : Embeds after then homes k l
  turned = record { each = each; apart = apart }

-- ---- what both share

bounds_turned : (homes : List Home) (m n k l : List MemoryBlock) → AreReowned m k → AreReowned n l → AreBoundsKept homes m n → AreBoundsKept homes k l
bounds_turned homes m n k l ours theirs bounds = record {
  each = λ b y seen e.
      let x = was (slice_get m b) (slice_get k b) y (ours.each b) e in
      let h = bounds.each b x.block seen x.there in
      let z = now (slice_get n (home_block homes b)) (slice_get l (home_block homes b)) h.block (theirs.each (home_block homes b)) h.there in
      let size : y.size ≡ x.block.size = ap (λ (u : MemoryBlock). u.size) x.same in
      let size' : z.block.size ≡ h.block.size = ap (λ (u : MemoryBlock). u.size) z.same in
      record {
        block = z.block;
        there = z.there;
        fits = subst (λ (p : ℕ × ℕ). (home_of homes b).offset + p.0 ≤ p.1) (λ i. (sym size i, sym size' i)) h.fits;
        small = subst (λ (a : ℕ). a < 2 ^ 64) (sym size') h.small;
      };
}

pub rights_turn : (before target after then : Rights) (homes : List Home) (m n k l : List MemoryBlock) → AreReowned m k → AreReowned n l → MayTurn before after then homes m k l → Embeds before target homes m n → Embeds after then homes k l
rights_turn before target after then homes m n k l ours theirs turn em = turned before target after then homes m n k l em ours theirs turn

pub worlds_turn : (before target after then : Rights) (homes : List Home) (moves : ℕ → ℕ) (s t : World) (k l : List MemoryBlock) → AreReowned s.memory k → AreReowned t.memory l → MayTurn before after then homes s.memory k l → AreNullsKept after then homes k l → AreWorlds before target homes moves s t → AreWorlds after then homes moves (record s { memory = k }) (record t { memory = l })
worlds_turn before target after then homes moves s t k l ours theirs turn nulls works = record {
  memory = turned before target after then homes s.memory t.memory k l works.memory ours theirs turn;
  nulls = nulls;
  bounds = bounds_turned homes s.memory t.memory k l ours theirs works.bounds;
  events = works.events;
  answers = works.answers;
  allocs = works.allocs;
}

-- ---- owners of one block

reowned_itself : (o : Option MemoryBlock) → IsReowned o o
reowned_itself None = tt
reowned_itself (Some x) = refl

reowned_block : (m : List MemoryBlock) (k b : ℕ) (owner : Option ℕ) → IsReowned (slice_get m b) (slice_get (with_block m k (λ (x : MemoryBlock). record x { owned = owner })) b)
reowned_block [] k b owner = tt
reowned_block (x ∷ m) zero zero owner = refl
reowned_block (x ∷ m) zero (suc b) owner = reowned_itself (slice_get m b)
reowned_block (x ∷ m) (suc k) zero owner = refl
reowned_block (x ∷ m) (suc k) (suc b) owner = reowned_block m k b owner

pub owned_reowns : (m : List MemoryBlock) (b size : ℕ) → AreReowned m (with_block m b (owned_to size))
owned_reowns m b size = record { each = λ c. reowned_block m b c (Some size) }

pub disowned_reowns : (m : List MemoryBlock) (b : ℕ) → AreReowned m (disown m b)
disowned_reowns m b = record { each = λ c. reowned_block m b c None }

pub same_reowns : (m : List MemoryBlock) → AreReowned m m
same_reowns m = record { each = λ c. reowned_itself (slice_get m c) }
