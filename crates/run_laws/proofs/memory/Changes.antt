-- Blocks that come, move, live again, change their rights, and die.
use Rattle.std.proofs.Common.{◌≡◌, ◌≢◌, ℕ, zero, suc, ◌+◌, ◌^◌, ◌<◌, ◌≤◌, true, false, List, [], ◌∷◌, ◌++◌, length, get_or, replicate, Option, Some, None, refl, sym, ap, ◌∙◌, subst, ⊎_elim, arith}
use Rattle.std.specs.Prelude.{slice_get}
use Rattle.std.proofs.lemmas.Bool.{cases_eq, false≢true}
use Rattle.std.proofs.lemmas.List.{get_or-replicate, length-replicate}
use Rattle.run_memory.specs.Memory.{Rights, is_live, same_kind, with_block}
use Rattle.run_memory.specs.declared.block.Byte.{Byte}
use Rattle.run_memory.specs.declared.block.Kind.{Kind}
use Rattle.run_memory.specs.declared.block.MemoryBlock.{MemoryBlock}
use Rattle.run_laws.proofs.memory.Homes.{byte_on}
use Rattle.run_laws.proofs.memory.Stores.{stands_other}
use Rattle.run_laws.proofs.memory.Written.{changed_elsewhere, changed_here, same_some}
use Rattle.run_laws.specs.memory.Pointers.{Extends, Home, IsByte, home_of}
use Rattle.run_laws.specs.memory.Standing.{AreApart, AreByteRights, Embeds, HasRights, Stands, byte_of}

pub apart_turned : (rights : Rights) (h k : Home) (b c : ℕ) (x y : MemoryBlock) → AreApart rights h k b c x y → AreApart rights k h c b y x
apart_turned rights h k b c x y a = record {
  bytes = λ i j lt lt' p q e. a.bytes j i lt' lt q p (sym e);
  places = λ i j lt lt' p q e. a.places j i lt' lt q p (sym e);
}

-- ---- the target grows

get_append : (n k : List MemoryBlock) (b : ℕ) (y : MemoryBlock) → slice_get n b ≡ Some y → slice_get (n ++ k) b ≡ Some y
get_append [] k b y e = absurd (cc)
get_append (z ∷ n) k zero y e = e
get_append (z ∷ n) k (suc b) y e = get_append n k b y e

module _ (rights target : Rights) where
  pub target_grows : (homes : List Home) (m n k : List MemoryBlock) → Embeds rights target homes m n → Embeds rights target homes m (n ++ k)
  target_grows homes m n k em = record {
    each = λ b x is live. let s = em.each b x is live in record {
      known = s.known;
      block = s.block;
      there = get_append n k _ _ s.there;
      live = s.live;
      full = s.full;
      whole = s.whole;
      fits = s.fits;
      small = s.small;
      writable = s.writable;
      allowed = s.allowed;
      bytes = s.bytes;
    };
    apart = em.apart;
  }

  -- a block of the target changes in which no live block of the source stands
  pub target_changes : (law : AreByteRights rights) (law' : AreByteRights target) (homes : List Home) (m n : List MemoryBlock) (B : ℕ) (f : MemoryBlock → MemoryBlock) → Embeds rights target homes m n → ((c : ℕ) (z : MemoryBlock) → slice_get m c ≡ Some z → is_live z.life ≡ true → (home_of homes c).block ≢ B) → Embeds rights target homes m (with_block n B f)
  target_changes law law' homes m n B f em away = record {
    each = λ c z is live. stands_other rights target law law' homes n c B f z (em.each c z is live) (away c z is live);
    apart = em.apart;
  }

  -- ---- a block of the source dies

  still_there : (m : List MemoryBlock) (b c : ℕ) (f : MemoryBlock → MemoryBlock) (x : MemoryBlock) → ((y : MemoryBlock) → is_live (f y).life ≡ false) → slice_get (with_block m b f) c ≡ Some x → is_live x.life ≡ true → slice_get m c ≡ Some x
  still_there m b c f x dies e live = ⊎_elim
      (λ same. absurd (dead_here (slice_get m c) refl same))
      (λ ne. sym (changed_elsewhere m b c f ne) ∙ e)
      (cases_eq c b)
    where
      none_there : (m : List MemoryBlock) (b : ℕ) → slice_get m b ≡ None → slice_get (with_block m b f) b ≡ None
      none_there [] b h = refl
      none_there (y ∷ m) zero h = absurd (cc)
      none_there (y ∷ m) (suc b) h = none_there m b h

      dead_here : (o : Option MemoryBlock) → slice_get m c ≡ o → c ≡ b → ⊥
      dead_here None h same =
          let gone : slice_get (with_block m b f) b ≡ None = none_there m b (ap (slice_get m) (sym same) ∙ h) in
          let there : slice_get (with_block m b f) b ≡ Some x = ap (slice_get (with_block m b f)) (sym same) ∙ e in
          absurd (cc)
      dead_here (Some y) h same =
          let there : slice_get (with_block m b f) b ≡ Some (f y) = changed_here m b f y (ap (slice_get m) (sym same) ∙ h) in
          let is : f y ≡ x = same_some (f y) x (sym there ∙ ap (slice_get (with_block m b f)) (sym same) ∙ e) in
          false≢true (sym (dies y) ∙ ap (λ (z : MemoryBlock). is_live z.life) is ∙ live)

  pub source_dies : (homes : List Home) (m n : List MemoryBlock) (b : ℕ) (f : MemoryBlock → MemoryBlock) → ((y : MemoryBlock) → is_live (f y).life ≡ false) → Embeds rights target homes m n → Embeds rights target homes (with_block m b f) n
  source_dies homes m n b f dies em = record {
    each = λ c x is live. em.each c x (still_there m b c f x dies is live) live;
    apart = λ c d x y ne at_c at_d live_x live_y. em.apart c d x y ne (still_there m b c f x dies at_c live_x) (still_there m b d f y dies at_d live_y) live_x live_y;
  }

  -- ---- a block of the source stands elsewhere, anew or with other rights

  pub stands_on : (homes more : List Home) (n : List MemoryBlock) (b : ℕ) (x : MemoryBlock) → Extends homes more → b < length more → home_of more b ≡ home_of homes b → Stands rights target homes n b x → Stands rights target more n b x
  stands_on homes more n b x ext lt same s =
      let e = sym same in
      record {
        known = lt;
        block = s.block;
        there = subst (λ (q : Home). slice_get n q.block ≡ Some s.block) e s.there;
        live = s.live;
        full = s.full;
        whole = s.whole;
        fits = subst (λ (q : Home). q.offset + x.size ≤ s.block.size) e s.fits;
        small = s.small;
        writable = s.writable;
        allowed = subst (λ (q : Home). HasRights rights target q b x s.block) e s.allowed;
        bytes = λ i lo o. byte_on homes more ext _ _ (subst (λ (q : Home). IsByte homes (byte_of x i) (byte_of s.block (q.offset + i))) e (s.bytes i lo o));
      }

  -- the block b of the source stands from now on as is said of it, and all others as before
  pub reseated : (homes more : List Home) (m m' n : List MemoryBlock) (b : ℕ) → Extends homes more → length homes ≤ length more → ((c : ℕ) → c ≢ b → home_of more c ≡ home_of homes c) → Embeds rights target homes m n → ((c : ℕ) → c ≢ b → slice_get m' c ≡ slice_get m c) → ((x : MemoryBlock) → slice_get m' b ≡ Some x → is_live x.life ≡ true → Stands rights target more n b x) → ((c : ℕ) (x y : MemoryBlock) → c ≢ b → slice_get m c ≡ Some x → is_live x.life ≡ true → slice_get m' b ≡ Some y → is_live y.life ≡ true → (home_of homes c).block ≡ (home_of more b).block → AreApart rights (home_of homes c) (home_of more b) c b x y) → Embeds rights target more m' n
  reseated homes more m m' n b ext long same em other here free = record { each = each; apart = apart }
    where
      each : (c : ℕ) (x : MemoryBlock) → slice_get m' c ≡ Some x → is_live x.life ≡ true → Stands rights target more n c x
      each c x is live = ⊎_elim
          (λ e. subst (λ i. Stands rights target more n i x) (sym e) (here x (ap (slice_get m') (sym e) ∙ is) live))
          (λ ne.
          let s = em.each c x (sym (other c ne) ∙ is) live in
          let known = s.known in
          stands_on homes more n c x ext (omega arith) (same c ne) s)
          (cases_eq c b)

      one : (c d : ℕ) (x y : MemoryBlock) → c ≢ b → d ≡ b → slice_get m' c ≡ Some x → slice_get m' d ≡ Some y → is_live x.life ≡ true → is_live y.life ≡ true → (home_of more c).block ≡ (home_of more d).block → AreApart rights (home_of more c) (home_of more d) c d x y
      one c d x y ne e at_c at_d live_x live_y shared =
          let shared' : (home_of homes c).block ≡ (home_of more b).block = ap (λ (q : Home). q.block) (sym (same c ne)) ∙ shared ∙ ap (λ i. (home_of more i).block) e in
          let h = free c x y ne (sym (other c ne) ∙ at_c) live_x (ap (slice_get m') (sym e) ∙ at_d) live_y shared' in
          subst (λ i. AreApart rights (home_of more c) (home_of more i) c i x y) (sym e)
          (subst (λ (q : Home). AreApart rights q (home_of more b) c b x y) (sym (same c ne)) h)

      apart : (c d : ℕ) (x y : MemoryBlock) → c ≢ d → slice_get m' c ≡ Some x → slice_get m' d ≡ Some y → is_live x.life ≡ true → is_live y.life ≡ true → (home_of more c).block ≡ (home_of more d).block → AreApart rights (home_of more c) (home_of more d) c d x y
      apart c d x y ne at_c at_d live_x live_y shared = ⊎_elim
          (λ e. apart_turned rights (home_of more d) (home_of more c) d c y x (one d c y x (λ h. ne (e ∙ sym h)) e at_d at_c live_y live_x (sym shared)))
          (λ nc. ⊎_elim
          (λ e. one c d x y nc e at_c at_d live_x live_y shared)
          (λ nd.
          let shared' : (home_of homes c).block ≡ (home_of homes d).block = ap (λ (q : Home). q.block) (sym (same c nc)) ∙ shared ∙ ap (λ (q : Home). q.block) (same d nd) in
          let h = em.apart c d x y ne (sym (other c nc) ∙ at_c) (sym (other d nd) ∙ at_d) live_x live_y shared' in
          subst (λ (q : Home). AreApart rights q (home_of more d) c d x y) (sym (same c nc)) (subst (λ (q : Home). AreApart rights (home_of homes c) q c d x y) (sym (same d nd)) h))
          (cases_eq d b))
          (cases_eq c b)

  -- ---- room for a block

  -- a block of so many undefined bytes
  abbrev pub IsBlank : MemoryBlock → Type 0
  IsBlank x = x.bytes ≡ replicate x.size Byte.Undefined

  -- a live block of the target in which a block may stand from an offset on
  pub record HasRoom (n : List MemoryBlock) (q : Home) (b : ℕ) (x : MemoryBlock) : Type 0 where
    pub block : MemoryBlock
    pub there : slice_get n q.block ≡ Some block
    pub live : is_live block.life ≡ true
    pub whole : length block.bytes ≡ block.size
    pub fits : q.offset + x.size ≤ block.size
    pub small : block.size < 2 ^ 64
    pub writable : same_kind x.kind Kind.Constant ≡ false → same_kind block.kind Kind.Constant ≡ false
    pub allowed : HasRights rights target q b x block

  -- a block of undefined bytes stands wherever there is room: anything may stand for its bytes
  pub blank_stands : (homes : List Home) (n : List MemoryBlock) (b : ℕ) (x : MemoryBlock) → b < length homes → IsBlank x → HasRoom n (home_of homes b) b x → Stands rights target homes n b x
  blank_stands homes n b x lt blank r = record {
    known = lt;
    block = r.block;
    there = r.there;
    live = r.live;
    full = ap length blank ∙ length-replicate x.size Byte.Undefined;
    whole = r.whole;
    fits = r.fits;
    small = r.small;
    writable = r.writable;
    allowed = r.allowed;
    bytes = λ i low o. subst (λ (c : Byte). IsByte homes c (byte_of r.block ((home_of homes b).offset + i))) (sym (ap (λ (bs : List Byte). get_or bs i Byte.Undefined) blank ∙ get_or-replicate x.size i Byte.Undefined Byte.Undefined low)) tt;
  }
