-- Writes: into a block of the source and its home alike, and of the target alone where no block of the source stands.
use Rattle.std.proofs.Common.{◌≡◌, ◌≢◌, ℕ, ◌+◌, ◌-◌, ◌^◌, ◌<◌, ◌≤◌, ◌⊎◌, Bool, true, false, List, length, get_or, Some, Result, Ok, Err, refl, sym, ap, ◌∙◌, subst, ⊎_elim, inl, inr, arith, if◌then◌else◌}
use Rattle.std.specs.Prelude.{slice_get}
use Rattle.std.proofs.lemmas.Bool.{cases_eq, cases_lt}
use Rattle.run_memory.proofs.Digits.{length-encode}
use Rattle.run_memory.proofs.Found.{found}
use Rattle.run_memory.proofs.Kept.{length-written}
use Rattle.run_memory.specs.Memory.{Rights, access_bytes, encode, is_constant, is_live, on_ok, range, same_kind, store, unless_constant, with_block, with_bytes, write, written}
use Rattle.run_memory.specs.declared.block.Byte.{Byte}
use Rattle.run_memory.specs.declared.block.Kind.{Kind}
use Rattle.run_memory.specs.declared.block.MemoryBlock.{MemoryBlock}
use Rattle.run_memory.specs.declared.pointer.Access.{Access}
use Rattle.run_memory.specs.declared.pointer.Spot.{Spot}
use Rattle.run_memory.specs.declared.pointer.Value.{Value}
use Rattle.ir_base.specs.declared.cause.Cause.{Cause}
use Rattle.run_laws.proofs.memory.Loads.{found_stands, moved_spot, range_kept}
use Rattle.run_laws.proofs.memory.Matching.{byte_at, encode_kept}
use Rattle.run_laws.proofs.memory.Written.{changed_elsewhere, changed_here, same_some, written_before, written_behind, written_inside}
use Rattle.run_laws.specs.memory.Kept.{IsStored}
use Rattle.run_laws.specs.memory.Pointers.{AreBytes, Home, IsByte, IsValue, home_of}
use Rattle.run_laws.specs.memory.Standing.{AreApart, AreByteRights, Embeds, HasRights, IsAlignment, IsAway, IsOpen, Stands, byte_of}

-- a block with other bytes
abbrev pub refilled : MemoryBlock → List Byte → MemoryBlock
refilled x bytes = record x { bytes = bytes }

-- ---- rights don't look at what bytes hold

rights_refilled : (rights target : Rights) → AreByteRights rights → AreByteRights target → (h : Home) (b : ℕ) (x y : MemoryBlock) (xs ys : List Byte) → HasRights rights target h b x y → HasRights rights target h b (refilled x xs) (refilled y ys)
rights_refilled rights target law law' h b x y xs ys a = record {
  opens = λ o len within e. law'.closed h.block y ys (h.offset + o) len ∙ a.opens o len within (sym (law.closed b x xs o len) ∙ e);
  aligned = λ o len align pos within free ok e. law'.aligned h.block y ys (h.offset + o) align ∙ a.aligned o len align pos within (sym (law.closed b x xs o len) ∙ free) ok (sym (law.aligned b x xs o align) ∙ e);
  comparable = λ o le e. law'.comparable h.block y ys (h.offset + o) ∙ a.comparable o le (sym (law.comparable b x xs o) ∙ e);
}

-- the target's block alone is refilled
rights_target : (rights target : Rights) → AreByteRights target → (h : Home) (b : ℕ) (x y : MemoryBlock) (ys : List Byte) → HasRights rights target h b x y → HasRights rights target h b x (refilled y ys)
rights_target rights target law' h b x y ys a = record {
  opens = λ o len within e. law'.closed h.block y ys (h.offset + o) len ∙ a.opens o len within e;
  aligned = λ o len align pos within free ok e. law'.aligned h.block y ys (h.offset + o) align ∙ a.aligned o len align pos within free ok e;
  comparable = λ o le e. law'.comparable h.block y ys (h.offset + o) ∙ a.comparable o le e;
}

apart_refilled : (rights : Rights) → AreByteRights rights → (h k : Home) (b c : ℕ) (x y : MemoryBlock) (xs ys : List Byte) → AreApart rights h k b c x y → AreApart rights h k b c (refilled x xs) (refilled y ys)
apart_refilled rights law h k b c x y xs ys a = record {
  bytes = λ i j lt lt' p q. a.bytes i j lt lt' (sym (law.closed b x xs i 1) ∙ p) (sym (law.closed c y ys j 1) ∙ q);
  places = λ i j lt lt' p q. a.places i j lt lt' (sym (law.comparable b x xs i) ∙ p) (sym (law.comparable c y ys j) ∙ q);
}

module _ (rights target : Rights) (law : AreByteRights rights) (law' : AreByteRights target) (homes : List Home) where
  -- ---- a write elsewhere in the target

  away_kept : (bytes : List Byte) (at : ℕ) (ys : List Byte) (i : ℕ) → at + length ys ≤ length bytes → (i < at) ⊎ (at + length ys ≤ i) → get_or (written bytes at ys) i Byte.Undefined ≡ get_or bytes i Byte.Undefined
  away_kept bytes at ys i le (inl lt) = written_before bytes at ys i (omega arith) lt
  away_kept bytes at ys i le (inr ge) = written_behind bytes at ys i le ge

  stands_same : (n : List MemoryBlock) (c B at : ℕ) (z y : MemoryBlock) (ys : List Byte) (s : Stands rights target homes n c z) → slice_get n B ≡ Some y → at + length ys ≤ y.size → IsAway rights homes c z B at (length ys) → (home_of homes c).block ≡ B → Stands rights target homes (with_block n B (with_bytes at ys)) c z
  stands_same n c B at z y ys s there within away same =
      let is_y : s.block ≡ y = same_some s.block y (sym s.there ∙ ap (slice_get n) same ∙ there) in
      let whole : length y.bytes ≡ y.size = subst (λ (u : MemoryBlock). length u.bytes ≡ u.size) is_y s.whole in
      let long : length (written y.bytes at ys) ≡ length y.bytes = length-written y.bytes at ys (omega arith) in
      record {
        known = s.known;
        block = refilled y (written y.bytes at ys);
        there = ap (slice_get (with_block n B (with_bytes at ys))) same ∙ changed_here n B (with_bytes at ys) y there;
        live = subst (λ (u : MemoryBlock). is_live u.life ≡ true) is_y s.live;
        full = s.full;
        whole = long ∙ whole;
        fits = subst (λ (u : MemoryBlock). (home_of homes c).offset + z.size ≤ u.size) is_y s.fits;
        small = subst (λ (u : MemoryBlock). u.size < 2 ^ 64) is_y s.small;
        writable = subst (λ (u : MemoryBlock). same_kind z.kind Kind.Constant ≡ false → same_kind u.kind Kind.Constant ≡ false) is_y s.writable;
        allowed = rights_target rights target law' (home_of homes c) c z y (written y.bytes at ys) (subst (λ (u : MemoryBlock). HasRights rights target (home_of homes c) c z u) is_y s.allowed);
        bytes = λ j lt o. subst (λ (d : Byte). IsByte homes (byte_of z j) d) (sym (away_kept y.bytes at ys ((home_of homes c).offset + j) (omega arith) (away same j lt o))) (subst (λ (u : MemoryBlock). IsByte homes (byte_of z j) (byte_of u ((home_of homes c).offset + j))) is_y (s.bytes j lt o));
      }

  pub stands_other : (n : List MemoryBlock) (c B : ℕ) (f : MemoryBlock → MemoryBlock) (z : MemoryBlock) → Stands rights target homes n c z → (home_of homes c).block ≢ B → Stands rights target homes (with_block n B f) c z
  stands_other n c B f z s ne = record {
    known = s.known;
    block = s.block;
    there = changed_elsewhere n B (home_of homes c).block f ne ∙ s.there;
    live = s.live;
    full = s.full;
    whole = s.whole;
    fits = s.fits;
    small = s.small;
    writable = s.writable;
    allowed = s.allowed;
    bytes = s.bytes;
  }

  pub stands_away : (n : List MemoryBlock) (c B at : ℕ) (z y : MemoryBlock) (ys : List Byte) → Stands rights target homes n c z → slice_get n B ≡ Some y → at + length ys ≤ y.size → IsAway rights homes c z B at (length ys) → Stands rights target homes (with_block n B (with_bytes at ys)) c z
  stands_away n c B at z y ys s there within away =
      ⊎_elim (λ e. stands_same n c B at z y ys s there within away e) (λ ne. stands_other n c B (with_bytes at ys) z s ne) (cases_eq (home_of homes c).block B)

  -- the target writes where no block of the source stands
  pub private_write : (m n : List MemoryBlock) (B at : ℕ) (y : MemoryBlock) (ys : List Byte) → Embeds rights target homes m n → slice_get n B ≡ Some y → at + length ys ≤ y.size → ((c : ℕ) (z : MemoryBlock) → slice_get m c ≡ Some z → is_live z.life ≡ true → IsAway rights homes c z B at (length ys)) → Embeds rights target homes m (with_block n B (with_bytes at ys))
  private_write m n B at y ys em there within away = record {
    each = λ c z is live. stands_away n c B at z y ys (em.each c z is live) there within (away c z is live);
    apart = em.apart;
  }

  -- ---- a write into a block of the source and its home

  module _ (m n : List MemoryBlock) (em : Embeds rights target homes m n) (b o : ℕ) (x : MemoryBlock) (xs ys : List Byte) (is_x : slice_get m b ≡ Some x) (live_x : is_live x.life ≡ true) (within : o + length xs ≤ x.size) (free : rights.is_closed b x o (length xs) ≡ false) (long : length ys ≡ length xs) (are : AreBytes homes xs ys) where
    abbrev H : Home
    H = home_of homes b

    st : Stands rights target homes n b x
    st = em.each b x is_x live_x

    abbrev source : List MemoryBlock
    source = with_block m b (with_bytes o xs)

    abbrev goal : List MemoryBlock
    goal = with_block n H.block (with_bytes (H.offset + o) ys)

    inside : (i : ℕ) → o ≤ i → i < o + length xs → IsByte homes (get_or (written x.bytes o xs) i Byte.Undefined) (get_or (written st.block.bytes (H.offset + o) ys) (H.offset + i) Byte.Undefined)
    inside i lo hi =
        let full = st.full in let whole = st.whole in let fits = st.fits in
        let e : o + (i - o) ≡ i = omega arith in
        let f : H.offset + o + (i - o) ≡ H.offset + i = omega arith in
        let a : get_or (written x.bytes o xs) i Byte.Undefined ≡ get_or xs (i - o) Byte.Undefined = ap (λ k. get_or (written x.bytes o xs) k Byte.Undefined) (sym e) ∙ written_inside x.bytes o xs (i - o) (omega arith) (omega arith) in
        let c : get_or (written st.block.bytes (H.offset + o) ys) (H.offset + i) Byte.Undefined ≡ get_or ys (i - o) Byte.Undefined = ap (λ k. get_or (written st.block.bytes (H.offset + o) ys) k Byte.Undefined) (sym f) ∙ written_inside st.block.bytes (H.offset + o) ys (i - o) (omega arith) (omega arith) in
        subst (λ (p : Byte × Byte). IsByte homes p.0 p.1) (λ k. (sym a k, sym c k)) (byte_at homes xs ys (i - o) are (omega arith))

    outside : (i : ℕ) → i < x.size → IsOpen rights b x i → (i < o) ⊎ (o + length xs ≤ i) → IsByte homes (get_or (written x.bytes o xs) i Byte.Undefined) (get_or (written st.block.bytes (H.offset + o) ys) (H.offset + i) Byte.Undefined)
    outside i lt op away =
        let full = st.full in let whole = st.whole in let fits = st.fits in
        let a = away_kept x.bytes o xs i (omega arith) away in
        let c = away_kept st.block.bytes (H.offset + o) ys (H.offset + i) (omega arith) (⊎_elim (λ l. inl (omega arith)) (λ l. inr (omega arith)) away) in
        subst (λ (p : Byte × Byte). IsByte homes p.0 p.1) (λ k. (sym a k, sym c k)) (st.bytes i lt op)

    byte_there : (i : ℕ) → i < x.size → IsOpen rights b x i → IsByte homes (get_or (written x.bytes o xs) i Byte.Undefined) (get_or (written st.block.bytes (H.offset + o) ys) (H.offset + i) Byte.Undefined)
    byte_there i lt op = ⊎_elim
        (λ low. outside i lt op (inl low))
        (λ ge. ⊎_elim (λ hi. inside i ge hi) (λ far. outside i lt op (inr far)) (cases_lt i (o + length xs)))
        (cases_lt i o)

    stands_itself : Stands rights target homes goal b (refilled x (written x.bytes o xs))
    stands_itself =
        let full = st.full in let whole = st.whole in let fits = st.fits in
        let a : length (written x.bytes o xs) ≡ length x.bytes = length-written x.bytes o xs (omega arith) in
        let c : length (written st.block.bytes (H.offset + o) ys) ≡ length st.block.bytes = length-written st.block.bytes (H.offset + o) ys (omega arith) in
        record {
          known = st.known;
          block = refilled st.block (written st.block.bytes (H.offset + o) ys);
          there = changed_here n H.block (with_bytes (H.offset + o) ys) st.block st.there;
          live = st.live;
          full = a ∙ full;
          whole = c ∙ whole;
          fits = st.fits;
          small = st.small;
          writable = st.writable;
          allowed = rights_refilled rights target law law' H b x st.block (written x.bytes o xs) (written st.block.bytes (H.offset + o) ys) st.allowed;
          bytes = λ i lt op. byte_there i lt (sym (law.closed b x (written x.bytes o xs) i 1) ∙ op);
        }

    -- the bytes of other blocks aren't among those that are written
    others_away : (c : ℕ) (z : MemoryBlock) → c ≢ b → slice_get m c ≡ Some z → is_live z.life ≡ true → IsAway rights homes c z H.block (H.offset + o) (length ys)
    others_away c z ne is live same j lt op = ⊎_elim
        (λ low. inl low)
        (λ ge. ⊎_elim
        (λ hi.
        let i : ℕ = (home_of homes c).offset + j - H.offset in
        let e : H.offset + ((home_of homes c).offset + j - H.offset) ≡ (home_of homes c).offset + j = omega arith in
        let open_i : IsOpen rights b x ((home_of homes c).offset + j - H.offset) = law.bytes b x o (length xs) ((home_of homes c).offset + j - H.offset) free (omega arith) (omega arith) in
        absurd ((em.apart b c x z (λ f. ne (sym f)) is_x is live_x live (sym same)).bytes ((home_of homes c).offset + j - H.offset) j (omega arith) lt open_i op e))
        (λ far. inr far)
        (cases_lt ((home_of homes c).offset + j) (H.offset + o + length ys)))
        (cases_lt ((home_of homes c).offset + j) (H.offset + o))

    -- the block that was there, which differs in its bytes alone
    record Before (c : ℕ) (z : MemoryBlock) : Type 0 where
      old : MemoryBlock
      was : slice_get m c ≡ Some old
      is : z ≡ refilled old z.bytes

    before : (c : ℕ) (z : MemoryBlock) → slice_get source c ≡ Some z → Before c z
    before c z at = ⊎_elim
        (λ e.
        let is : z ≡ refilled x (written x.bytes o xs) = same_some z (refilled x (written x.bytes o xs)) (sym at ∙ ap (slice_get source) e ∙ changed_here m b (with_bytes o xs) x is_x) in
        record { old = x; was = ap (slice_get m) e ∙ is_x; is = is ∙ ap (λ (u : MemoryBlock). refilled x u.bytes) (sym is) })
        (λ ne. record { old = z; was = sym (changed_elsewhere m b c (with_bytes o xs) ne) ∙ at; is = refl })
        (cases_eq c b)

    pub both_write : Embeds rights target homes source goal
    both_write = record {
      each = λ c z at live. ⊎_elim
          (λ e.
          let is : z ≡ refilled x (written x.bytes o xs) = same_some z (refilled x (written x.bytes o xs)) (sym at ∙ ap (slice_get source) e ∙ changed_here m b (with_bytes o xs) x is_x) in
          subst (λ (p : ℕ × MemoryBlock). Stands rights target homes goal p.0 p.1) (λ k. (sym e k, sym is k)) stands_itself)
          (λ ne.
          let was = sym (changed_elsewhere m b c (with_bytes o xs) ne) ∙ at in
          let fits = st.fits in
          stands_away n c H.block (H.offset + o) z st.block ys (em.each c z was live) st.there (omega arith) (others_away c z ne was live))
          (cases_eq c b);
      apart = λ c d y z ne at_c at_d live_y live_z same.
          let u = before c y at_c in
          let v = before d z at_d in
          let live_u : is_live u.old.life ≡ true = subst (λ (w : MemoryBlock). is_live w.life ≡ true) u.is live_y in
          let live_v : is_live v.old.life ≡ true = subst (λ (w : MemoryBlock). is_live w.life ≡ true) v.is live_z in
          subst (λ (p : MemoryBlock × MemoryBlock). AreApart rights (home_of homes c) (home_of homes d) c d p.0 p.1) (λ k. (sym u.is k, sym v.is k))
          (apart_refilled rights law (home_of homes c) (home_of homes d) c d u.old v.old y.bytes z.bytes (em.apart c d u.old v.old ne u.was v.was live_u live_v same));
    }

  -- ---- stores

  -- what isn't refused for a constant
  record IsWritten (constant : Bool) (m m' : List MemoryBlock) : Type 0 where
    free : constant ≡ false
    is : m ≡ m'

  is_written : (constant : Bool) (m m' : List MemoryBlock) → (if constant then Err Cause.Constant else Ok m) ≡ Ok m' → IsWritten constant m m'
  is_written true m m' e = absurd (cc)
  is_written false m m' e = record { free = refl; is = cc }

  store_on : (m n m' : List MemoryBlock) (p q v w : Value) (what : Access) (align : ℕ) (r : Result Spot Cause) → Embeds rights target homes m n → 0 < access_bytes what → IsAlignment align → IsValue homes p q → IsValue homes v w → range rights m p (access_bytes what) align ≡ r → on_ok (λ s. unless_constant m s (write m s (encode (access_bytes what) v))) r ≡ Ok m' → IsStored rights target homes m' n q w what align
  store_on m n m' p q v w what align (Err c) em pos ok hp hv e l = absurd (cc)
  store_on m n m' p q v w what align (Ok s) em pos ok hp hv e l =
      let len = access_bytes what in
      let f = found rights m p len align s e in
      let st = found_stands rights target homes m n em p len align s f in
      let t = moved_spot homes s in
      let wr = is_written (is_constant (slice_get m s.block)) (write m s (encode len v)) m' l in
      let free : same_kind f.block.kind Kind.Constant ≡ false = sym (ap is_constant f.stands) ∙ wr.free in
      let constant : is_constant (slice_get n t.block) ≡ false = ap is_constant st.there ∙ st.writable free in
      let long_v : length (encode len v) ≡ len = length-encode len v in
      let long_w : length (encode len w) ≡ len = length-encode len w in
      let within = f.within in
      let em' : Embeds rights target homes (write m s (encode len v)) (write n t (encode len w)) =
      both_write m n em s.block s.offset f.block (encode len v) (encode len w) f.stands f.live (omega arith) (subst (λ (k : ℕ). rights.is_closed s.block f.block s.offset k ≡ false) (sym long_v) f.unclosed) (long_w ∙ sym long_v) (encode_kept homes len v w hv long_w) in
      record {
        memory = write n t (encode len w);
        stores = ap (on_ok (λ u. unless_constant n u (write n u (encode len w)))) (range_kept rights target homes m n em p q len align s pos ok hp e) ∙ ap (λ (c : Bool). if c then Err Cause.Constant else Ok (write n t (encode len w))) constant;
        stands = subst (λ (k : List MemoryBlock). Embeds rights target homes k (write n t (encode len w))) wr.is em';
      }

  pub store_kept : (m n m' : List MemoryBlock) (p q v w : Value) (what : Access) (align : ℕ) → Embeds rights target homes m n → 0 < access_bytes what → IsAlignment align → IsValue homes p q → IsValue homes v w → store rights m p v what align ≡ Ok m' → IsStored rights target homes m' n q w what align
  store_kept m n m' p q v w what align em pos ok hp hv l = store_on m n m' p q v w what align (range rights m p (access_bytes what) align) em pos ok hp hv refl l

pub stores_kept : (rights target : Rights) (homes : List Home) (m n m' : List MemoryBlock) (p q v w : Value) (what : Access) (align : ℕ) → AreByteRights rights → AreByteRights target → Embeds rights target homes m n → 0 < access_bytes what → IsAlignment align → IsValue homes p q → IsValue homes v w → store rights m p v what align ≡ Ok m' → IsStored rights target homes m' n q w what align
stores_kept rights target homes m n m' p q v w what align law law' em pos ok hp hv l = store_kept rights target law law' homes m n m' p q v w what align em pos ok hp hv l

pub private_writes_kept : (rights target : Rights) (homes : List Home) (m n : List MemoryBlock) (B at : ℕ) (y : MemoryBlock) (ys : List Byte) → AreByteRights rights → AreByteRights target → Embeds rights target homes m n → slice_get n B ≡ Some y → at + length ys ≤ y.size → ((c : ℕ) (z : MemoryBlock) → slice_get m c ≡ Some z → is_live z.life ≡ true → IsAway rights homes c z B at (length ys)) → Embeds rights target homes m (with_block n B (with_bytes at ys))
private_writes_kept rights target homes m n B at y ys law law' em there within away = private_write rights target law law' homes m n B at y ys em there within away
