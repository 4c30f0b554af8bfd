-- A block that both runs mark stands where it stood.
use Rattle.std.proofs.Common.{◌≡◌, ℕ, ◌+◌, ◌%◌, ◌^◌, ◌<◌, Bool, true, false, not, List, length, replicate, Option}
use Rattle.std.proofs.Common.{Some, None, refl, sym, ap, ◌∙◌, subst, ◌||◌, ◌&&◌, ◌==◌, if◌then◌else◌, arith}
use Rattle.std.proofs.lemmas.Bool.{false≢true}
use Rattle.std.proofs.lemmas.List.{length-replicate}
use Rattle.std.specs.Prelude.{nat_lt, option_map, slice_get}
use Rattle.pass_kept_proof.specs.ir_model.declared.module.Module.{Module}
use Rattle.run_laws.proofs.embedded.Mirrors.{bounds_changed, dies_embedded, nulls_changed, nulls_dead, starts_embedded}
use Rattle.run_laws.proofs.memory.Itself.{owner_rights_fit}
use Rattle.run_laws.proofs.memory.Written.{changed_here}
use Rattle.run_laws.specs.embedded.Making.{whole_home}
use Rattle.run_laws.specs.embedded.Marks.{LivesAgain, MayStart, anew}
use Rattle.run_laws.specs.memory.Pointers.{Home, home_of}
use Rattle.run_laws.specs.memory.Standing.{HasRights}
use Rattle.pass_kept_proof.specs.run_memory.Memory.{ended, is_below, is_killed, is_live, killed_block, may_compare_at, meets}
use Rattle.pass_kept_proof.specs.run_memory.Memory.{owner_rights, start, started, with_block}
use Rattle.pass_kept_proof.specs.run_memory.Pointers.{moved}
use Rattle.pass_kept_proof.specs.run_memory.declared.block.Byte.{Byte}
use Rattle.pass_kept_proof.specs.run_memory.declared.block.Life.{Life}
use Rattle.pass_kept_proof.specs.run_memory.declared.block.MemoryBlock.{MemoryBlock}
use Rattle.pass_kept_proof.specs.run_memory.declared.pointer.Offset.{Offset}
use Rattle.pass_renewed_proof.proofs.Alike.{IsAlike, is_alone}
use Rattle.pass_renewed_proof.proofs.Anew.{present_block}
use Rattle.pass_renewed_proof.proofs.Markers.{ended_dead, ends, started_blank, starts}
use Rattle.pass_renewed_proof.proofs.Muted.{muted_change}
use Rattle.pass_renewed_proof.proofs.Places.{muted_at}
use Rattle.pass_renewed_proof.proofs.Small.{and_second, owner_embeds, small_embeds, small_rights_fit}
use Rattle.pass_renewed_proof.specs.Ledger.{AreEntered, Ledger}
use Rattle.pass_renewed_proof.specs.Muted.{ended_if, muted}
use Rattle.pass_renewed_proof.specs.Places.{AreStanding}
use Rattle.pass_renewed_proof.specs.Small.{small_rights}

-- ---- markers and deaths make the same of both

pub ended_alike : IsAlike ended
ended_alike = record {
  twin = λ x bytes. twin x bytes (is_killed x.life);
  shown = ends.shown;
  full = λ x whole live.
      absurd (false≢true (sym (ended_dead x) ∙ live));
}
  where
    twin : (x : MemoryBlock) (bytes : List Byte) (t : Bool) → (if t then record x { bytes = bytes } else record x {
      bytes = bytes;
      life = Life.Ended;
    }) ≡ record (if t then x else record x { life = Life.Ended }) {
      bytes = (if t then record x { bytes = bytes } else record x { bytes = bytes; life = Life.Ended }).bytes;
    }
    twin x bytes true = refl
    twin x bytes false = refl

pub started_alike : IsAlike started
started_alike = record {
  twin = λ x bytes. twin x bytes (is_killed x.life);
  shown = starts.shown;
  full = λ x whole live. ap length (started_blank x live) ∙ length-replicate (started x).size Byte.Undefined;
}
  where
    twin : (x : MemoryBlock) (bytes : List Byte) (t : Bool) → (if t then record x { bytes = bytes } else record x {
      life = Life.Live;
      bytes = replicate x.size Byte.Undefined;
    }) ≡ record (if t then x else record x { life = Life.Live; bytes = replicate x.size Byte.Undefined }) {
      bytes = (if t then record x { bytes = bytes } else record x {
        life = Life.Live;
        bytes = replicate x.size Byte.Undefined;
      }).bytes;
    }
    twin x bytes true = refl
    twin x bytes false = refl

pub killed_alike : IsAlike killed_block
killed_alike = record {
  twin = λ x bytes. refl;
  shown = λ hides x h. tt;
  full = λ x whole live. absurd (false≢true live);
}

-- ---- what may be done with a block may be done with one like it

from_start : (o : ℕ) → 0 + o ≡ o
from_start o = omega arith

pub same_rights : (c b : ℕ) (y : MemoryBlock) → HasRights small_rights owner_rights (whole_home c) b y y
same_rights c b y = record {
  opens = λ o len le e. ap (λ k. is_below k y.owned) (from_start o) ∙ e;
  aligned = λ o len align pos within free is e. ap (λ k. meets y k align) (from_start o) ∙ e;
  comparable = λ o le e. ap (λ k. (k == 0) || not (is_below k y.owned)) (from_start o) ∙ and_second (nat_lt o (2 ^
      64)) _ e;
}

-- pointers into it are compared with null at the same offsets
less_of : (n k : ℕ) → nat_lt n k ≡ true → n < k
less_of n k e = grind arith

abbrev compares : MemoryBlock → ℕ → Bool
compares x k = (k == 0) || not (is_below k x.owned)

pub null_like : (b c : ℕ) (x : MemoryBlock) (bytes : List Byte) (o : Offset) → may_compare_at small_rights b (Some x) o
    ≡ true → may_compare_at owner_rights c (Some (record x { bytes = bytes })) (moved o 0) ≡ true
null_like b c x bytes o e = on (is_live x.life) refl e
  where
    first_true : (a b : Bool) → (a && b) ≡ true → a ≡ true
    first_true true b e = refl
    first_true false b e = absurd (false≢true e)

    unmoved : o.bits < 2 ^ 64 → o.bits ≡ (o.bits + 0) % 2 ^ 64
    unmoved lt = omega arith

    on : (t : Bool) → is_live x.life ≡ t → (not t || (nat_lt o.bits (2 ^ 64) && compares x
        o.bits)) ≡ true → (not (is_live x.life) || compares x ((o.bits + 0) % 2 ^ 64)) ≡ true
    on false k h = ap (λ t. not t || compares x ((o.bits + 0) % 2 ^ 64)) k
    on true k h = ap (λ t. not t || compares x ((o.bits + 0) % 2 ^ 64)) k ∙ ap (compares x) (sym (unmoved (less_of
        o.bits (2 ^ 64) (first_true (nat_lt o.bits (2 ^ 64)) _ h)))) ∙ and_second (nat_lt o.bits (2 ^ 64)) _ h

-- ---- they stand

module _ (m : Module) (l : Ledger) (memory target : List MemoryBlock) (b c : ℕ) (e : AreEntered m l memory target)
    (none : l.seats b ≡ None) (home : home_of l.homes b ≡ whole_home c) (free : l.owners c ≡ None) (shown : l.hides b ≡
    false) (st : AreStanding l.homes (muted l.hides memory) target) where
  at_home : (home_of l.homes b).block ≡ c
  at_home = ap (λ (q : Home). q.block) home

  is_seen : (home_of l.homes b).is_seen ≡ true
  is_seen = ap (λ (q : Home). q.is_seen) home

  abbrev before : List MemoryBlock
  before = muted l.hides memory

  -- what becomes of both
  shape : (f : MemoryBlock → MemoryBlock) → AreStanding l.homes (with_block (muted l.hides memory) b f) (with_block
      target (home_of l.homes b).block f) → AreStanding l.homes (muted l.hides (with_block memory b f)) (with_block
      target c f)
  shape f h = subst (λ k. AreStanding l.homes k (with_block target c f)) (muted_change l.hides memory b f shown) (subst
      (λ n. AreStanding l.homes (with_block (muted l.hides memory) b f) (with_block target n f)) at_home h)

  -- they die
  pub dies_alike : (f : MemoryBlock → MemoryBlock) → IsAlike f → ((x : MemoryBlock) → is_live (f x).life ≡ false)
      → ((x : MemoryBlock) → (f x).size ≡ x.size)
      → AreStanding l.homes (muted l.hides (with_block memory b f)) (with_block target c f)
  dies_alike f alike dead size =
      let alone = is_alone m l memory target b c f alike e none home free shown in
      shape f (record {
        memory = dies_embedded owner_rights owner_rights owner_rights_fit owner_rights_fit l.homes before target b
            st.memory alone.live f f dead;
        nulls = nulls_dead small_rights owner_rights l.homes before target b f f dead st.nulls;
        bounds = bounds_changed l.homes before target b (home_of l.homes b).block f f size size st.bounds;
      })

  there : (x : MemoryBlock) × (slice_get memory b ≡ Some x)
  there = present_block l memory e.known b is_seen

  as_it_is : (x : MemoryBlock) → slice_get (muted l.hides memory) b ≡ Some x → slice_get memory b ≡ Some x
  as_it_is x at = on (slice_get memory b) refl (sym (muted_at l.hides memory b ∙ ap (λ t. option_map (ended_if
      t) (slice_get memory b)) shown) ∙ at)
    where
      on : (o : Option MemoryBlock) → slice_get memory b ≡ o → option_map (ended_if false) o ≡ Some x
          → slice_get memory b ≡ Some x
      on None i k = absurd (cc)
      on (Some z) i k = i ∙ k

  -- the other one
  twin : (x : MemoryBlock) → slice_get memory b ≡ Some x → (bytes : List Byte) × (slice_get target (home_of l.homes
      b).block ≡ Some (record x { bytes = bytes }))
  twin x at =
      let mate = e.mates b x none at in (
        mate.bytes,
        ap (λ (q : Home). slice_get target q.block) mate.home ∙ mate.there,
      )

  -- comparisons with null where the same has become of both
  pub nulls_alike : (f : MemoryBlock → MemoryBlock) → IsAlike f → (o : Offset)
      → may_compare_at small_rights b (slice_get (with_block (muted l.hides memory) b f) b) o ≡ true
      → may_compare_at owner_rights (home_of l.homes b).block (slice_get (with_block target (home_of l.homes b).block
      f) (home_of l.homes b).block) (moved o (home_of l.homes b).offset) ≡ true
  nulls_alike f alike o may =
      let y = twin there.0 there.1 in
      let first : slice_get (with_block before b f) b ≡ Some (f there.0) = changed_here before b f there.0 (shown_at
      there.0 there.1) in
      let second : slice_get (with_block target (home_of l.homes b).block f) (home_of l.homes b).block ≡ Some (record (f
      there.0) { bytes = (f (record there.0 { bytes = y.0 })).bytes }) = changed_here target (home_of l.homes b).block
      f (record there.0 { bytes = y.0 }) y.1 ∙ ap Some (alike.twin there.0 y.0) in
      ap (λ z. may_compare_at owner_rights (home_of l.homes b).block z (moved o (home_of l.homes b).offset)) second
      ∙ ap (λ (q : Home). may_compare_at owner_rights (home_of l.homes b).block (Some (record (f there.0) {
        bytes = (f (record there.0 { bytes = y.0 })).bytes;
      })) (moved o q.offset)) home
      ∙ null_like b (home_of l.homes b).block (f there.0) (f (record there.0 { bytes = y.0 })).bytes o (ap (λ z.
      may_compare_at small_rights b z o) (sym first) ∙ may)
    where
      shown_at : (x : MemoryBlock) → slice_get memory b ≡ Some x → slice_get (muted l.hides memory) b ≡ Some x
      shown_at x at = muted_at l.hides memory b ∙ (λ i. option_map (ended_if (shown i)) (at i))

  again : (x : MemoryBlock) → slice_get (muted l.hides memory) b ≡ Some x → is_killed x.life ≡ false
      → LivesAgain small_rights owner_rights l.homes target b x
  again x at un =
      let y = twin x (as_it_is x at) in
      record {
        block = record x { bytes = y.0 };
        there = y.1;
        unkilled = un;
        writable = λ w. w;
        allowed = subst (λ (q : Home). HasRights small_rights owner_rights q b (anew x) (anew x)) (sym home)
            (same_rights c b (anew x));
      }

  -- they are started
  pub starts_alike : AreStanding l.homes (muted l.hides (start memory b)) (start target c)
  starts_alike =
      let alone = is_alone m l memory target b c started started_alike e none home free shown in
      let may : MayStart small_rights owner_rights l.homes before target b = record {
        again = again;
        nulls = nulls_alike started started_alike;
      } in
      shape started (record {
        memory = owner_embeds l.homes _ _ (starts_embedded small_rights owner_rights small_rights_fit owner_rights_fit
            l.homes before target b (small_embeds l.homes before target st.memory) alone.live st.bounds is_seen may);
        nulls = nulls_changed small_rights owner_rights l.homes before target b started started alone may.nulls
            st.nulls;
        bounds = bounds_changed l.homes before target b (home_of l.homes b).block started started starts.size
            starts.size st.bounds;
      })
