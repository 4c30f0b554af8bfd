-- The block of a frame gets its owner in both runs, and stands where it stood.
use Rattle.std.proofs.Common.{◌≡◌, ◌≢◌, ℕ, ◌+◌, ◌<◌, ◌⊎◌, inl, Bool, true, false, not, List, Some, None}
use Rattle.std.proofs.Common.{refl, sym, ap, ◌∙◌, subst, ⊎_elim, ◌||◌, ◌==◌, arith}
use Rattle.std.proofs.lemmas.Bool.{cases_eq}
use Rattle.std.specs.Prelude.{option_map, slice_get}
use Rattle.run_types.specs.ir_model.declared.module.Module.{Module}
use Rattle.run_types.proofs.run_laws.access.Turned.{owned_reowns, rights_turn}
use Rattle.run_types.proofs.run_laws.embedded.Mirrors.{bounds_changed, nulls_changed}
use Rattle.run_types.proofs.run_laws.memory.Written.{changed_elsewhere, changed_here, same_some}
use Rattle.run_types.specs.run_laws.access.Changed.{home_block}
use Rattle.run_types.specs.run_laws.access.Rights.{IsApartFrom, IsOnlyPlace, MayTurn}
use Rattle.run_types.specs.run_laws.embedded.Making.{whole_home}
use Rattle.run_types.specs.run_laws.embedded.Marks.{IsAlone}
use Rattle.run_types.specs.run_laws.memory.Pointers.{Home, home_of}
use Rattle.run_types.specs.run_laws.memory.Standing.{HasRights, IsOpen, byte_of}
use Rattle.run_types.specs.run_memory.Memory.{is_below, is_live, meets, owned_to, owner_rights, with_block}
use Rattle.run_types.specs.run_memory.declared.block.Byte.{Byte}
use Rattle.run_types.specs.run_memory.declared.block.MemoryBlock.{MemoryBlock}
use Rattle.run_types.proofs.pass_renewed_proof.Alike.{IsAlike, alike_carried, alike_entered, alike_kept, is_alone}
use Rattle.run_types.proofs.pass_renewed_proof.AlikeMarks.{nulls_alike}
use Rattle.run_types.proofs.pass_renewed_proof.Dying.{AreCarriedOver}
use Rattle.run_types.proofs.pass_renewed_proof.Muted.{muted_change}
use Rattle.run_types.proofs.pass_renewed_proof.Places.{muted_at}
use Rattle.run_types.specs.pass_renewed_proof.Ledger.{AreEntered, IsMate, Ledger}
use Rattle.run_types.specs.pass_renewed_proof.Muted.{ended_if, muted}
use Rattle.run_types.specs.pass_renewed_proof.Places.{AreStanding}
use Rattle.run_types.specs.pass_renewed_proof.Small.{small_rights}

owned_alike : (size : ℕ) → IsAlike (owned_to size)
owned_alike size = record {
  twin = λ x bytes. refl;
  shown = λ hides x h. h;
  full = λ x whole live. whole live;
}

from_start : (o : ℕ) → 0 + o ≡ o
from_start o = omega arith

-- blocks with the same owner and alignment may be used in the same way
like_rights : (c b : ℕ) (y z : MemoryBlock) → z.owned ≡ y.owned → z.align ≡ y.align
    → HasRights owner_rights owner_rights (whole_home c) b y z
like_rights c b y z owned align = record {
  opens = λ o len le e. (λ i. is_below (from_start o i) (owned i)) ∙ e;
  aligned = λ o len align' pos within free is e. (λ i. meets (record z { align = align i }) (from_start o i) align') ∙
      meets_like o align' e;
  comparable = λ o le e. (λ i. (from_start o i == 0) || not (is_below (from_start o i) (owned i))) ∙ e;
}
  where
    meets_like : (o align' : ℕ) → meets y o align' ≡ true → meets (record z { align = y.align }) o align' ≡ true
    meets_like o align' e = e

module _ (m : Module) (l : Ledger) (memory target : List MemoryBlock) (b c size : ℕ) (e : AreEntered m l memory target)
    (none : l.seats b ≡ None) (home : home_of l.homes b ≡ whole_home c) (free : l.owners c ≡ None) (shown : l.hides b ≡
    false) (st : AreStanding l.homes (muted l.hides memory) target) (x : MemoryBlock) (there : slice_get memory b ≡
    Some x) (unowned : x.owned ≡ None) where
  abbrev f : MemoryBlock → MemoryBlock
  f = owned_to size

  abbrev before : List MemoryBlock
  before = muted l.hides memory

  at_home : (home_of l.homes b).block ≡ c
  at_home = ap (λ (q : Home). q.block) home

  alone : IsAlone l.homes (muted l.hides memory) b
  alone = is_alone m l memory target b c f (owned_alike size) e none home free shown

  muted_there : slice_get (muted l.hides memory) b ≡ Some x
  muted_there = muted_at l.hides memory b ∙ (λ i. option_map (ended_if (shown i)) (there i))

  mate : IsMate l target b x
  mate = e.mates b x none there

  mate_there : slice_get target (home_of l.homes b).block ≡ Some (record x { bytes = mate.bytes })
  mate_there = ap (λ (q : Home). slice_get target q.block) mate.home ∙ mate.there

  here_owned : (y : MemoryBlock) → slice_get (muted l.hides memory) b ≡ Some y → y.owned ≡ None
  here_owned y at = ap (λ (z : MemoryBlock). z.owned) (sym (same_some x y (sym muted_there ∙ at))) ∙ unowned

  -- what was there
  elsewhere : (d : ℕ) (y z : MemoryBlock) → d ≢ b → slice_get (muted l.hides memory) d ≡ Some y
      → slice_get (with_block (muted l.hides memory) b (owned_to size)) d ≡ Some z → z ≡ y
  elsewhere d y z ne at now = same_some z y (sym now ∙ changed_elsewhere before b d f ne ∙ at)

  opens : (d i : ℕ) (y z : MemoryBlock) → slice_get (muted l.hides memory) d ≡ Some y
      → slice_get (with_block (muted l.hides memory) b (owned_to size)) d ≡ Some z → is_live y.life ≡ true
      → i < y.size → IsOpen owner_rights d z i
      → IsOpen owner_rights d y i ⊎ ((byte_of y i ≡ Byte.Undefined) × IsApartFrom owner_rights l.homes (with_block
      (muted l.hides memory) b (owned_to size)) d i)
  opens d i y z at now live lt was = inl (⊎_elim
      (λ same. ap (is_below i) (here_owned y (ap (slice_get before) (sym same) ∙ at)))
      (λ ne. ap (λ (q : MemoryBlock). is_below i q.owned) (sym (elsewhere d y z ne at now)) ∙ was)
      (cases_eq d b))

  compares : (d i : ℕ) (y z : MemoryBlock) → slice_get (muted l.hides memory) d ≡ Some y
      → slice_get (with_block (muted l.hides memory) b (owned_to size)) d ≡ Some z → is_live y.life ≡ true
      → i < y.size → owner_rights.is_comparable d z i ≡ true
      → (owner_rights.is_comparable d y i ≡ true) ⊎ IsOnlyPlace owner_rights l.homes (with_block (muted l.hides memory)
      b (owned_to size)) d i
  compares d i y z at now live lt may = inl (⊎_elim
      (λ same. ap (λ o. (i == 0) || not (is_below i o)) (here_owned y (ap (slice_get before) (sym same) ∙ at)) ∙ or_true
      (i == 0))
      (λ ne. ap (λ (q : MemoryBlock). (i == 0) || not (is_below i q.owned)) (sym (elsewhere d y z ne at now)) ∙ may)
      (cases_eq d b))
    where
      or_true : (u : Bool) → (u || true) ≡ true
      or_true true = refl
      or_true false = refl

  abbrev behind : List MemoryBlock
  behind = with_block target (home_of l.homes b).block (owned_to size)

  allowed_here : (y z : MemoryBlock) → slice_get (with_block (muted l.hides memory) b (owned_to size)) b ≡ Some y
      → slice_get (with_block target (home_of l.homes b).block (owned_to size)) (home_block l.homes b) ≡ Some z
      → HasRights owner_rights owner_rights (home_of l.homes b) b y z
  allowed_here y z now later =
      let ours : owned_to size x ≡ y = same_some (owned_to size x) y (sym (changed_here before b f x muted_there)
      ∙ now) in
      let theirs : owned_to size (record x { bytes = mate.bytes }) ≡ z = same_some (owned_to size (record x {
        bytes = mate.bytes;
      })) z (sym (changed_here target (home_of l.homes b).block f (record x { bytes = mate.bytes }) mate_there) ∙ later) in
      subst (λ (q : Home). HasRights owner_rights owner_rights q b y z) (sym home) (like_rights c b y z (ap (λ (q :
      MemoryBlock). q.owned) (sym theirs) ∙ ap (λ (q : MemoryBlock). q.owned) ours) (ap (λ (q : MemoryBlock). q.align)
      (sym theirs) ∙ ap (λ (q : MemoryBlock). q.align) ours))

  allowed : (d : ℕ) (y z : MemoryBlock) → slice_get (with_block (muted l.hides memory) b (owned_to size)) d ≡ Some y
      → is_live y.life ≡ true
      → slice_get (with_block target (home_of l.homes b).block (owned_to size)) (home_block l.homes d) ≡ Some z
      → HasRights owner_rights owner_rights (home_of l.homes d) d y z
  allowed d y z now live later = ⊎_elim
      (λ same. subst (λ n. HasRights owner_rights owner_rights (home_of l.homes n) n y z) (sym same) (allowed_here y z
      (ap (slice_get (with_block before b f)) (sym same) ∙ now) (ap (λ n. slice_get behind (home_block l.homes n)) (sym
      same) ∙ later)))
      (λ ne.
      let at : slice_get before d ≡ Some y = sym (changed_elsewhere before b d f ne) ∙ now in
      let s = st.memory.each d y at live in
      let other : home_block l.homes d ≢ (home_of l.homes b).block = alone.live d y ne at live in
      let is : s.block ≡ z = same_some s.block z (sym s.there ∙ sym (changed_elsewhere target (home_of l.homes b).block
      (home_block l.homes d) f other) ∙ later) in
      subst (HasRights owner_rights owner_rights (home_of l.homes d) d y) is s.allowed)
      (cases_eq d b)

  turn : MayTurn owner_rights owner_rights owner_rights l.homes (muted l.hides memory) (with_block (muted l.hides
      memory) b (owned_to size)) (with_block target (home_of l.homes b).block (owned_to size))
  turn = record { opens = opens; compares = compares; allowed = allowed }

  shape : AreStanding l.homes (with_block (muted l.hides memory) b (owned_to size)) (with_block target (home_of l.homes
      b).block (owned_to size)) → AreStanding l.homes (muted l.hides (with_block memory b (owned_to size))) (with_block
      target c (owned_to size))
  shape h = subst (λ k. AreStanding l.homes k (with_block target c f)) (muted_change l.hides memory b f shown) (subst (λ
      n. AreStanding l.homes (with_block before b f) (with_block target n f)) at_home h)

  standing : AreStanding l.homes (muted l.hides (with_block memory b (owned_to size))) (with_block target c (owned_to
      size))
  standing = shape (record {
    memory = rights_turn owner_rights owner_rights owner_rights owner_rights l.homes before target (with_block before b
        f) behind (owned_reowns before b size) (owned_reowns target (home_of l.homes b).block size) turn st.memory;
    nulls = nulls_changed small_rights owner_rights l.homes before target b f f alone (nulls_alike m l memory target b c
        e none home free shown st f (owned_alike size)) st.nulls;
    bounds = bounds_changed l.homes before target b (home_of l.homes b).block f f (λ y. refl) (λ y. refl) st.bounds;
  })

  -- both get it
  pub both_owned : AreCarriedOver m l memory (with_block memory b (owned_to size)) target (with_block target c (owned_to
      size))
  both_owned = record {
    standing = standing;
    entered = alike_entered m l memory target b c f (owned_alike size) e none home free shown;
    carried = alike_carried m l memory target b c f (owned_alike size) e none home free shown;
    kept = alike_kept m l memory target b c f (owned_alike size) e none home free shown;
  }
