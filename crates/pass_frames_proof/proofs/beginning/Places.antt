-- The block in which begin puts the frame, and what begin makes of the framed run's memory.
use Rattle.std.proofs.Common.{◌≡◌, ◌≢◌, ◌<◌, ◌≤◌, ◌^◌, ◌∷◌, ◌++◌, ◌∙◌, [], Bool, List, None, Option, Some, ap, arith, false, get_or-set_other, inl, inr, length, map, not, refl, set, subst, sym, true, ℕ, ⊎_elim}
use Rattle.std.proofs.lemmas.Bool.{and_parts, cases_eq, leb-true}
use Rattle.std.proofs.lemmas.List.{length-set}
use Rattle.std.specs.List.{Contains}
use Rattle.std.specs.Prelude.{filter, if◌then◌else◌, is_some, slice_get}
use Rattle.pass_frames_steps.specs.flow_solver.Paths.{IsListed}
use Rattle.pass_frames_steps.proofs.ir_laws.facts.Lists.{get_within}
use Rattle.pass_frames_steps.specs.ir_laws.paths.woven_rules.Pairs.{AreDifferent}
use Rattle.pass_frames_steps.proofs.allocating.Grown.{end_get, listed_slot, other_get}
use Rattle.pass_frames_steps.proofs.allocating.Lives.{Early, Itself, Placed, WhoLives, who_lives}
use Rattle.pass_frames_steps.proofs.allocating.Rights.{frames_compare}
use Rattle.pass_frames_steps.proofs.lines.Cells.{contained}
use Rattle.pass_frames_steps.proofs.stepping.Rest.{got, seen_known}
use Rattle.pass_frames_steps.specs.Beginning.{IsAtBegin}
use Rattle.pass_frames_steps.specs.Places.{Framing}
use Rattle.pass_frames_steps.specs.Related.{AreBuiltOf, AreInstances, Building, IsFreeOf}
use Rattle.pass_frames_steps.specs.pass_renewed_proof.Renewed.{RenewedGiven}
use Rattle.pass_frames_steps.proofs.run_access_worked.Begun.{begun_stands}
use Rattle.pass_frames_steps.specs.run_framed.Framed.{frame_rights, layout_of}
use Rattle.pass_frames_steps.proofs.run_laws.embedded.Mirrors.{bounds_changed}
use Rattle.pass_frames_steps.proofs.run_laws.memory.Written.{changed_elsewhere, changed_here, same_some}
use Rattle.pass_frames_steps.proofs.run_laws.transfer.Muted.{muted_change, muted_get}
use Rattle.pass_frames_steps.proofs.run_laws.transfer.Places.{showing_others}
use Rattle.pass_frames_steps.specs.run_laws.changed.Changed.{Each}
use Rattle.pass_frames_steps.specs.run_laws.embedded.Making.{whole_home}
use Rattle.pass_frames_steps.specs.run_laws.embedded.Marks.{LivesAlone}
use Rattle.pass_frames_steps.specs.run_laws.memory.Pointers.{Home, home_of, nowhere}
use Rattle.pass_frames_steps.specs.run_laws.memory.Standing.{AreBoundsKept, Embeds, Stands}
use Rattle.pass_frames_steps.specs.run_laws.transfer.Muted.{muted}
use Rattle.pass_frames_steps.specs.run_laws.transfer.Places.{AreStanding, showing}
use Rattle.pass_frames_steps.specs.run_laws.transfer.Ready.{Place, home_at, shown_of, stood}
use Rattle.pass_frames_steps.specs.run_memory.Memory.{Rights, is_live, may_be_owned, owned_to, owner_rights, same_kind, with_block}
use Rattle.pass_frames_steps.specs.run_memory.declared.block.Byte.{Byte}
use Rattle.pass_frames_steps.specs.run_memory.declared.block.Kind.{Kind}
use Rattle.pass_frames_steps.specs.run_memory.declared.block.MemoryBlock.{MemoryBlock}
use Rattle.pass_frames_steps.specs.run_source.Source.{new_instance}
use Rattle.pass_frames_steps.specs.run_source.State.{own_frame}
use Rattle.pass_frames_steps.specs.run_source.declared.state.Instance.{Instance}
use Rattle.pass_frames_steps.specs.run_source.declared.state.State.{State}
use Rattle.pass_frames_steps.specs.run_step.declared.world.Slot.{Slot}
use Rattle.pass_frames_proof.proofs.beginning.Frames.{held_on}
use Rattle.pass_frames_proof.proofs.beginning.Given.{Begins}
use Rattle.pass_frames_steps.specs.run_laws.access.Lines.{Holds}
use Rattle.pass_frames_steps.specs.run_source.declared.state.Activation.{Activation}

-- ---- lists

pub in_filter : {A : Type 0} (p : A → Bool) (xs : List A) (z : A) → IsListed z (filter p xs)
    → IsListed z xs × (p z ≡ true)
in_filter p [] z l = absurd l
in_filter {A = C} p (x ∷ xs) z l = on (p x) refl l (in_filter p xs z)
  where
    on : (c : Bool) → p x ≡ c → IsListed z (if c then x ∷ filter p xs else filter p xs)
        → (IsListed z (filter p xs) → IsListed z xs × (p z ≡ true)) → IsListed z (x ∷ xs) × (p z ≡ true)
    on true e (inl same) more = (inl same, ap p same ∙ e)
    on true e (inr l') more = (inr (more l').0, (more l').1)
    on false e l' more = (inr (more l').0, (more l').1)

pub filter_in : {A : Type 0} (p : A → Bool) (xs : List A) (z : A) → IsListed z xs → p z ≡ true
    → IsListed z (filter p xs)
filter_in p [] z l e = absurd l
filter_in p (x ∷ xs) z (inl same) e = on (p x) (ap p (sym same) ∙ e)
  where
    on : (c : Bool) → c ≡ true → IsListed z (if c then x ∷ filter p xs else filter p xs)
    on true k = inl same
    on false k = absurd (cc)
filter_in p (x ∷ xs) z (inr more) e = on (p x) (filter_in p xs z more e)
  where
    on : (c : Bool) → IsListed z (filter p xs) → IsListed z (if c then x ∷ filter p xs else filter p xs)
    on true l = inr l
    on false l = l

pub filter_all : {A : Type 0} (p : A → Bool) (xs : List A) → ((z : A) → IsListed z xs → p z ≡ true) → filter p xs ≡ xs
filter_all p [] h = refl
filter_all p (x ∷ xs) h =
    (λ j. if h x (inl refl) j then x ∷ filter p xs else filter p xs)
    ∙ ap (λ (ys : List _). x ∷ ys) (filter_all p xs (λ z l. h z (inr l)))

pub filter_none : {A : Type 0} (p : A → Bool) (xs : List A) → ((z : A) → IsListed z xs → p z ≡ false)
    → filter p xs ≡ []
filter_none p [] h = refl
filter_none p (x ∷ xs) h =
    (λ j. if h x (inl refl) j then x ∷ filter p xs else filter p xs) ∙ filter_none p xs (λ z l. h z (inr l))

each_of : {A C : Type 0} (f : A → C) (P : C → Type 0) (zs : List A) → ((z : A) → IsListed z zs → P (f z))
    → Each P (map f zs)
each_of f P [] h = tt
each_of f P (z ∷ zs) h = (h z (inl refl), each_of f P zs (λ y l. h y (inr l)))

pub mapped_in : {A C : Type 0} (f : A → C) (zs : List A) (z : A) → IsListed z zs → IsListed (f z) (map f zs)
mapped_in f [] z l = absurd l
mapped_in f (y ∷ zs) z (inl e) = inl (ap f e)
mapped_in f (y ∷ zs) z (inr l) = inr (mapped_in f zs z l)

pub block_in : (xs : List Slot) (z : Slot) → IsListed z xs → IsListed z.block (map (λ (slot : Slot). slot.block) xs)
block_in xs z l = mapped_in (λ (slot : Slot). slot.block) xs z l

pub different_filter : (p : Slot → Bool) (xs : List Slot) → AreDifferent (map (λ (z : Slot). z.block) xs)
    → AreDifferent (map (λ (z : Slot). z.block) (filter p xs))
different_filter p [] h = tt
different_filter p (x ∷ xs) h = on (p x) (different_filter p xs h.1)
  where
    fewer : (n : ℕ) → IsListed n (map (λ (z : Slot). z.block) (filter p xs))
        → IsListed n (map (λ (z : Slot). z.block) xs)
    fewer n l =
        let z = listed_slot (filter p xs) n l in
        subst (λ (k : ℕ). IsListed k (map (λ (z : Slot). z.block) xs)) z.2
        (block_in xs z.0 (in_filter p xs z.0 (contained (filter p xs) z.0 z.1)).0)

    on : (c : Bool) → AreDifferent (map (λ (z : Slot). z.block) (filter p xs))
        → AreDifferent (map (λ (z : Slot). z.block) (if c then x ∷ filter p xs else filter p xs))
    on true rest = ((λ l. h.0 (fewer x.block l)), rest)
    on false rest = rest

-- ---- homes of other blocks

pub stood_other : (homes : List Home) (ps : List Place) (d : ℕ) → Each (λ (q : Place). q.block ≢ d) ps
    → home_of (stood homes ps) d ≡ home_of homes d
stood_other homes [] d h = refl
stood_other homes (p ∷ ps) d h =
    stood_other (set homes p.block (home_at p)) ps d h.1
    ∙ get_or-set_other homes p.block d (home_at p) nowhere (λ e. h.0 (sym e))

pub shown_other : (hides : ℕ → Bool) (ps : List Place) (d : ℕ) → Each (λ (q : Place). q.block ≢ d) ps
    → shown_of hides ps d ≡ hides d
shown_other hides [] d h = refl
shown_other hides (p ∷ ps) d h =
    shown_other (showing hides p.block) ps d h.1 ∙ showing_others hides p.block d (λ e. h.0 (sym e))

pub stood_length : (homes : List Home) (ps : List Place) → length (stood homes ps) ≡ length homes
stood_length homes [] = refl
stood_length homes (p ∷ ps) =
    stood_length (set homes p.block (home_at p)) ps ∙ length-set homes p.block (home_at p)

-- ---- the block

pub record IsOwnable (m : List MemoryBlock) (n size : ℕ) : Type 0 where
  pub block : MemoryBlock
  pub there : slice_get m n ≡ Some block
  pub live : is_live block.life ≡ true
  pub kind : same_kind block.kind Kind.Allocator ≡ true
  pub unowned : block.owned ≡ None
  pub long : size ≤ block.size

pub ownable : (m : List MemoryBlock) (n size : ℕ) → may_be_owned Kind.Allocator size (slice_get m n) ≡ true
    → IsOwnable m n size
ownable m n size e = on (slice_get m n) refl e
  where
    none : (o : Option ℕ) → not (is_some o) ≡ true → o ≡ None
    none None k = refl
    none (Some d) k = absurd (cc)

    on : (o : Option MemoryBlock) → slice_get m n ≡ o → may_be_owned Kind.Allocator size o ≡ true
        → IsOwnable m n size
    on None d k = absurd (cc)
    on (Some x) d k =
        let p = and_parts _ _ k in
        let q = and_parts _ _ p.0 in
        let u = and_parts _ _ q.0 in
        record {
          block = x;
          there = d;
          live = u.0;
          kind = u.1;
          unowned = none x.owned q.1;
          long = leb-true size x.size p.1;
        }

heap_kinds : (k : Kind) → same_kind k Kind.Allocator ≡ true
    → (same_kind k Kind.Slot ≡ false) × (same_kind k Kind.Constant ≡ false)
heap_kinds Kind.Allocator e = (refl, refl)
heap_kinds Kind.Stack e = absurd (cc)
heap_kinds Kind.Slot e = absurd (cc)
heap_kinds Kind.Global e = absurd (cc)
heap_kinds Kind.Constant e = absurd (cc)

owned_size : (size : ℕ) (x : MemoryBlock) → (owned_to size x).size ≡ x.size
owned_size size x = refl

module _ (facts : Begins) where
  abbrev b : Building
  b = facts.b

  abbrev g : RenewedGiven
  g = facts.g

  abbrev s : State
  s = facts.s

  abbrev t : State
  t = facts.t

  abbrev r : AreBuiltOf b s t
  r = facts.r

  abbrev block : ℕ
  block = facts.block

  abbrev h : IsAtBegin b g s facts.result facts.must_tail facts.ty facts.id facts.typed facts.memory block
  h = facts.h

  abbrev pub X : Framing
  X = b.framing s.top.func

  abbrev pub R : Rights
  R = frame_rights b.given t.instances

  abbrev pub size : ℕ
  size = (own_frame g.given s).size

  pub own : IsOwnable s.world.memory block size
  own = ownable s.world.memory block size h.may

  abbrev pub z : MemoryBlock
  z = own.block

  pub kinds : (same_kind z.kind Kind.Slot ≡ false) × (same_kind z.kind Kind.Constant ≡ false)
  kinds = heap_kinds z.kind own.kind

  pub whole : (k : ℕ) × (home_of r.homes block ≡ whole_home k)
  whole = r.mates.whole block z own.there kinds.0

  abbrev pub B : ℕ
  B = whole.0

  pub home_is : home_of r.homes block ≡ whole_home B
  home_is = whole.1

  pub seen : (home_of r.homes block).is_seen ≡ true
  seen = ap (λ (q : Home). q.is_seen) home_is

  pub block_is : (home_of r.homes block).block ≡ B
  block_is = ap (λ (q : Home). q.block) home_is

  pub shown : r.hides block ≡ false
  shown = on (r.hides block) refl
    where
      on : (c : Bool) → r.hides block ≡ c → r.hides block ≡ false
      on true e = let no : false ≡ true = sym (r.hidden block e) ∙ seen in absurd (cc)
      on false e = e

  pub known : block < length s.world.memory
  known = get_within s.world.memory block z own.there

  pub mate : (bs : List Byte) × (slice_get t.world.memory B ≡ Some (record z { bytes = bs }))
  mate = r.mates.each block B z own.there home_is

  -- no frame lies there yet
  pub frame_apart : (x y : Instance) (j : ℕ) → slice_get s.instances j ≡ Some x → AreInstances b r.homes t x y
      → y.block ≢ B
  frame_apart x y j there e same =
      let low : x.block < length r.homes = seen_known r.homes x.block (ap (λ (q : Home). q.is_seen) e.block) in
      let many : length r.homes ≡ length s.world.memory = r.known in
      h.fresh j x there
      (r.mates.alone x.block block B (omega (arith, low, many)) known (e.block ∙ ap whole_home same) home_is)

  pub frame_apart_there : (j : ℕ) (y : Instance) → slice_get t.instances j ≡ Some y → y.block ≢ B
  frame_apart_there j y there =
      let lt : j < length t.instances = get_within t.instances j y there in
      let many : length t.instances ≡ length s.instances = r.count in
      let x = got s.instances j (omega (arith, lt, many)) in
      frame_apart x.0 y j x.1 (r.instances j x.0 y x.1 there)

  pub lives_alone : LivesAlone r.homes (muted r.hides s.world.memory) block
  lives_alone c v ne e live same =
      by (who_lives b s t r block B home_is facts.listed c v e live (same ∙ block_is))
    where
      by : WhoLives b s t r c block B → ⊥
      by (Itself e) = ne e
      by (Placed j x y x_there y_there i other contained is_c there) = frame_apart x y j x_there i there
      by (Early a l is e listed' contained) =
          let no : same_kind z.kind Kind.Allocator ≡ false =
          facts.theirs.heaps a l (record { alloca = e.temporary; block = B }) contained (record z { bytes = mate.0 }) mate.1 in
          let wrong : true ≡ false = sym own.kind ∙ no in
          cc

  -- ---- the block is owned

  abbrev pub y0 : Instance
  y0 = new_instance s.top.func B 0

  abbrev pub ys : List Instance
  ys = t.instances ++ y0 ∷ []

  abbrev pub Q : Rights
  Q = frame_rights b.given ys

  abbrev pub M : List MemoryBlock
  M = with_block s.world.memory block (owned_to size)

  abbrev pub N : List MemoryBlock
  N = with_block t.world.memory B (owned_to size)

  pub owned_muted : muted r.hides M ≡ with_block (muted r.hides s.world.memory) block (owned_to size)
  owned_muted = sym (muted_change r.hides s.world.memory block (owned_to size) shown)

  pub shown_there : slice_get (muted r.hides s.world.memory) block ≡ Some z
  shown_there = muted_get r.hides s.world.memory block shown ∙ own.there

  pub stands_owned : AreStanding owner_rights Q r.homes (muted r.hides M) N
  stands_owned = record {
    memory = subst (λ (m : List MemoryBlock). Embeds owner_rights Q r.homes m N) (sym owned_muted)
        (begun_stands b.given t.instances y0 r.homes (muted r.hides s.world.memory) t.world.memory block size refl
        h.laid block_is (ap (λ (q : Home). q.offset) home_is) lives_alone
        (λ v e. ap (λ (u : MemoryBlock). u.owned) (same_some v z (sym e ∙ shown_there)) ∙ own.unowned)
        r.world.memory);
    nulls = record { each = λ c o about e. frames_compare b.given ys ((home_of r.homes c).block) _ _ };
    bounds = subst (λ (m : List MemoryBlock). AreBoundsKept r.homes m N) (sym owned_muted)
        (bounds_changed r.homes (muted r.hides s.world.memory) t.world.memory block B (owned_to size) (owned_to size)
        (owned_size size) (owned_size size) r.world.bounds);
  }

  stood_there : Stands owner_rights R r.homes t.world.memory block z
  stood_there = r.world.memory.each block z shown_there own.live

  stood_is : stood_there.block ≡ record z { bytes = mate.0 }
  stood_is =
      same_some stood_there.block (record z { bytes = mate.0 })
      (sym stood_there.there ∙ ap (slice_get t.world.memory) block_is ∙ mate.1)

  abbrev pub zt : MemoryBlock
  zt = owned_to size (record z { bytes = mate.0 })

  pub zt_there : slice_get N B ≡ Some zt
  zt_there = changed_here t.world.memory B (owned_to size) (record z { bytes = mate.0 }) mate.1

  pub zt_whole : length mate.0 ≡ z.size
  zt_whole =
      ap (λ (u : MemoryBlock). length u.bytes) (sym stood_is) ∙ stood_there.whole
      ∙ ap (λ (u : MemoryBlock). u.size) stood_is

  pub zt_small : z.size < 2 ^ 64
  zt_small = subst (λ (u : MemoryBlock). u.size < 2 ^ 64) stood_is stood_there.small

  pub frame_fits : (layout_of b.given.layouts s.top.func).size ≤ z.size
  frame_fits = let a = h.laid in let e = own.long in omega (arith, a, e)

  pub y0_there : slice_get ys (length t.instances) ≡ Some y0
  y0_there = end_get t.instances y0

  pub y0_alone : (j : ℕ) (y : Instance) → slice_get ys j ≡ Some y → y.block ≡ y0.block → j ≡ length t.instances
  y0_alone j y there same =
      ⊎_elim (λ e. e)
      (λ ne. absurd (frame_apart_there j y (sym (other_get t.instances y0 j ne) ∙ there) same))
      (cases_eq j (length t.instances))

  -- ---- what stays

  pub same_there : (d : ℕ) → d ≢ B → slice_get N d ≡ slice_get t.world.memory d
  same_there d ne = changed_elsewhere t.world.memory B d (owned_to size) ne

  pub held : (d : ℕ) → d ≢ B → (o most : ℕ) (bytes : List Byte) → Holds R t.world.memory d o most bytes
      → Holds Q N d o most bytes
  held d ne o most bytes =
      held_on b.given t.instances y0 d (λ e. ne (sym e)) t.world.memory N (same_there d ne) o most bytes

  -- nothing of the source stands in a cell, and so it is not the frame
  pub free_apart : (d : ℕ) → IsFreeOf r.homes r.hides s.world.memory d → d ≢ B
  free_apart d free e =
      free block z (muted_get r.hides s.world.memory block shown ∙ own.there) (inl seen) (block_is ∙ sym e)

  -- no alloca made it
  pub slot_apart : (a : Activation) → IsListed a (t.top ∷ t.below) → (slot : Slot) → Contains a.slots slot
      → slot.block ≢ B
  slot_apart a l slot own' e =
      let no : same_kind z.kind Kind.Allocator ≡ false =
      facts.theirs.heaps a l slot own' (record z { bytes = mate.0 }) (ap (slice_get t.world.memory) e ∙ mate.1) in
      let wrong : true ≡ false = sym own.kind ∙ no in
      cc
