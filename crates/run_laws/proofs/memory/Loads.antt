-- What an access finds in the source it finds in the target, and a load gives what stands for the value.
use Rattle.std.proofs.Common.{◌≡◌, ℕ, ◌+◌, ◌%◌, ◌^◌, ◌<◌, ◌≤◌, Bool, true, false, not, List, take, drop, Option, Some, Result, Ok, Err, refl, sym, ap, ◌∙◌, subst, arith, if◌then◌else◌}
use Rattle.std.specs.Prelude.{slice_get}
use Rattle.std.proofs.lemmas.Bool.{le-ltb}
use Rattle.run_memory.proofs.Found.{Found, found}
use Rattle.run_memory.specs.Memory.{Rights, access_bytes, bytes_at, bytes_in, decode, is_live, load, on_ok, range, range_at}
use Rattle.run_memory.specs.declared.block.MemoryBlock.{MemoryBlock}
use Rattle.run_memory.specs.declared.pointer.Access.{Access}
use Rattle.run_memory.specs.declared.pointer.Pointer.{Pointer}
use Rattle.run_memory.specs.declared.pointer.Spot.{Spot}
use Rattle.run_memory.specs.declared.pointer.Value.{Value}
use Rattle.ir_base.specs.declared.cause.Cause.{Cause}
use Rattle.run_laws.proofs.memory.Matching.{cut_stands, decode_kept}
use Rattle.run_laws.specs.memory.Kept.{IsLoaded}
use Rattle.run_laws.specs.memory.Pointers.{AreBytes, Home, IsByte, IsValue, home_of}
use Rattle.run_laws.specs.memory.Standing.{AreByteRights, Embeds, IsAlignment, IsOpen, Stands, byte_of}

-- a place of the source in the target
abbrev pub moved_spot : List Home → Spot → Spot
moved_spot homes s = record { block = (home_of homes s.block).block; offset = (home_of homes s.block).offset + s.offset }

-- an access that nothing stands against
pub range_ok : (rights : Rights) (n : List MemoryBlock) (y : MemoryBlock) (b o len align : ℕ) → slice_get n b ≡ Some y → o + len ≤ y.size → is_live y.life ≡ true → rights.is_closed b y o len ≡ false → rights.is_aligned b y o align ≡ true → range_at rights b (slice_get n b) o len align ≡ Ok (record { block = b; offset = o })
range_ok rights n y b o len align at within live unclosed aligned =
    ap (λ x. range_at rights b x o len align) at
    ∙ ap (λ (t : Bool). if t then Err Cause.Bounds else if not (is_live y.life) then Err Cause.Dead else if rights.is_closed b y o len then Err Cause.Owned else if rights.is_aligned b y o align then Ok (record { block = b; offset = o }) else Err Cause.Align) (le-ltb y.size (o + len) within)
    ∙ ap (λ (t : Bool). if not t then Err Cause.Dead else if rights.is_closed b y o len then Err Cause.Owned else if rights.is_aligned b y o align then Ok (record { block = b; offset = o }) else Err Cause.Align) live
    ∙ ap (λ (t : Bool). if t then Err Cause.Owned else if rights.is_aligned b y o align then Ok (record { block = b; offset = o }) else Err Cause.Align) unclosed
    ∙ ap (λ (t : Bool). if t then Ok (record { block = b; offset = o }) else Err Cause.Align) aligned

-- an offset moved by no more than the block allows
pub moved_bits : (o d : ℕ) → d + o < 2 ^ 64 → (o + d) % 2 ^ 64 ≡ d + o
moved_bits o d lt = omega arith

module _ (rights target : Rights) (homes : List Home) (m n : List MemoryBlock) (em : Embeds rights target homes m n) where
  -- the block that an access found stands in the target
  pub found_stands : (v : Value) (len align : ℕ) (s : Spot) (f : Found rights m v len align s) → Stands rights target homes n s.block f.block
  found_stands v len align s f = em.each s.block f.block f.stands f.live

  -- the value that stands for the address of an access
  pub address_is : (v w : Value) (len align : ℕ) (s : Spot) (f : Found rights m v len align s) → IsValue homes v w → w ≡ Value.Ptr (Pointer.At (home_of homes s.block).block (record { bits = (home_of homes s.block).offset + s.offset }))
  address_is v w len align s f h =
      let st = found_stands v len align s f in
      let within = f.within in let fits = st.fits in let small = st.small in
      let h' : IsValue homes (Value.Ptr (Pointer.At s.block f.offset)) w = subst (λ (u : Value). IsValue homes u w) f.leads h in
      let bits : (f.offset.bits + (home_of homes s.block).offset) % 2 ^ 64 ≡ (home_of homes s.block).offset + s.offset =
      ap (λ (o : ℕ). (o + (home_of homes s.block).offset) % 2 ^ 64) f.at ∙ moved_bits s.offset (home_of homes s.block).offset (omega arith) in
      h'.1 ∙ ap (λ (k : ℕ). Value.Ptr (Pointer.At (home_of homes s.block).block (record { bits = k }))) bits

  pub range_kept : (v w : Value) (len align : ℕ) (s : Spot) → 0 < len → IsAlignment align → IsValue homes v w → range rights m v len align ≡ Ok s → range target n w len align ≡ Ok (moved_spot homes s)
  range_kept v w len align s pos ok h e =
      let f = found rights m v len align s e in
      let st = found_stands v len align s f in
      let within = f.within in let fits = st.fits in let small = st.small in
      ap (λ (u : Value). range target n u len align) (address_is v w len align s f h)
      ∙ range_ok target n st.block (home_of homes s.block).block ((home_of homes s.block).offset + s.offset) len align st.there (omega arith) st.live (st.allowed.opens s.offset len f.within f.unclosed) (st.allowed.aligned s.offset len align pos f.within f.unclosed ok f.aligned)

  module _ (laws : AreByteRights rights) where
    -- the bytes that an access found
    pub bytes_kept : (v : Value) (len align : ℕ) (s : Spot) (f : Found rights m v len align s) → AreBytes homes (bytes_at m s len) (bytes_at n (moved_spot homes s) len)
    bytes_kept v len align s f =
        let st = found_stands v len align s f in
        let within = f.within in let fits = st.fits in let full = st.full in let whole = st.whole in
        subst (λ (x : Option MemoryBlock). AreBytes homes (take len (drop s.offset (bytes_in x))) (bytes_at n (moved_spot homes s) len)) (sym f.stands)
        (subst (λ (x : Option MemoryBlock). AreBytes homes (take len (drop s.offset f.block.bytes)) (take len (drop ((home_of homes s.block).offset + s.offset) (bytes_in x)))) (sym st.there)
        (cut_stands homes f.block.bytes st.block.bytes s.offset ((home_of homes s.block).offset + s.offset) len (omega arith) (omega arith) (λ i lt.
        let open_byte : IsOpen rights s.block f.block (s.offset + i) = laws.bytes s.block f.block s.offset len (s.offset + i) f.unclosed (omega arith) (omega arith) in
        let e : (home_of homes s.block).offset + (s.offset + i) ≡ (home_of homes s.block).offset + s.offset + i = omega arith in
        subst (λ (k : ℕ). IsByte homes (byte_of f.block (s.offset + i)) (byte_of st.block k)) e (st.bytes (s.offset + i) (omega arith) open_byte))))

    load_on : (p w : Value) (what : Access) (align : ℕ) (v : Value) (r : Result Spot Cause) → range rights m p (access_bytes what) align ≡ r → 0 < access_bytes what → IsAlignment align → IsValue homes p w → on_ok (λ s. Ok (decode what (bytes_at m s (access_bytes what)))) r ≡ Ok v → IsLoaded target homes n w what align v
    load_on p w what align v (Err c) e pos ok h l = absurd (cc)
    load_on p w what align v (Ok s) e pos ok h l =
        let f = found rights m p (access_bytes what) align s e in
        let is : decode what (bytes_at m s (access_bytes what)) ≡ v = cc in
        record {
          value = decode what (bytes_at n (moved_spot homes s) (access_bytes what));
          loads = ap (on_ok (λ t. Ok (decode what (bytes_at n t (access_bytes what))))) (range_kept p w (access_bytes what) align s pos ok h e);
          stands = subst (λ (u : Value). IsValue homes u (decode what (bytes_at n (moved_spot homes s) (access_bytes what)))) is (decode_kept homes what _ _ (bytes_kept p (access_bytes what) align s f));
        }

    pub load_kept : (p w : Value) (what : Access) (align : ℕ) (v : Value) → 0 < access_bytes what → IsAlignment align → IsValue homes p w → load rights m p what align ≡ Ok v → IsLoaded target homes n w what align v
    load_kept p w what align v pos ok h l = load_on p w what align v (range rights m p (access_bytes what) align) refl pos ok h l

pub loads_kept : (rights target : Rights) (homes : List Home) (m n : List MemoryBlock) (p q : Value) (what : Access) (align : ℕ) (v : Value) → AreByteRights rights → Embeds rights target homes m n → 0 < access_bytes what → IsAlignment align → IsValue homes p q → load rights m p what align ≡ Ok v → IsLoaded target homes n q what align v
loads_kept rights target homes m n p q what align v law em pos ok h l = load_kept rights target homes m n em law p q what align v pos ok h l
