-- Loads by addresses that are moved to where blocks stand, also if no pointer into these may be about.
use Rattle.std.proofs.Common.{◌≡◌, ℕ, ◌+◌, ◌%◌, ◌^◌, ◌<◌, List, Result, Ok, Err, refl, ap, ◌∙◌, subst, arith}
use Rattle.pass_frames_steps.specs.ir_base.declared.cause.Cause.{Cause}
use Rattle.pass_frames_steps.specs.Located.{IsMoved}
use Rattle.pass_frames_steps.proofs.run_laws.memory.Loads.{bytes_kept, moved_bits, moved_spot, range_ok}
use Rattle.pass_frames_steps.proofs.run_laws.memory.Matching.{decode_kept}
use Rattle.pass_frames_steps.proofs.pass_proofs.run_memory.Found.{Found, found}
use Rattle.pass_frames_steps.specs.run_laws.memory.Kept.{IsLoaded}
use Rattle.pass_frames_steps.specs.run_laws.memory.Pointers.{Home, IsValue, home_of}
use Rattle.pass_frames_steps.specs.run_laws.memory.Standing.{AreByteRights, Embeds, IsAlignment, Stands}
use Rattle.pass_frames_steps.specs.run_memory.Memory.{Rights, access_bytes, bytes_at, decode, load, on_ok, range}
use Rattle.pass_frames_steps.specs.run_memory.declared.block.MemoryBlock.{MemoryBlock}
use Rattle.pass_frames_steps.specs.run_memory.declared.pointer.Access.{Access}
use Rattle.pass_frames_steps.specs.run_memory.declared.pointer.Pointer.{Pointer}
use Rattle.pass_frames_steps.specs.run_memory.declared.pointer.Spot.{Spot}
use Rattle.pass_frames_steps.specs.run_memory.declared.pointer.Value.{Value}

-- what may be about is moved
pub value_moved : (homes : List Home) (v w : Value) → IsValue homes v w → IsMoved homes v w
value_moved homes Value.Poison w h = tt
value_moved homes (Value.Int x) w h = h
value_moved homes (Value.Ptr p) w h = h.1

module _ (rights target : Rights) (homes : List Home) (m n : List MemoryBlock) (em : Embeds rights target homes m n)
  where
    pub found_there : (v : Value) (len align : ℕ) (s : Spot) (f : Found rights m v len align s)
        → Stands rights target homes n s.block f.block
    found_there v len align s f = em.each s.block f.block f.stands f.live

    -- the address in the target
    address_is : (v w : Value) (len align : ℕ) (s : Spot) (f : Found rights m v len align s) → IsMoved homes v w
        → w ≡ Value.Ptr (Pointer.At (home_of homes s.block).block
        (record { bits = (home_of homes s.block).offset + s.offset }))
    address_is v w len align s f h =
        let st = found_there v len align s f in
        let within = f.within in let fits = st.fits in let small = st.small in
        let there : IsMoved homes (Value.Ptr (Pointer.At s.block f.offset)) w =
        subst (λ (u : Value). IsMoved homes u w) f.leads h in
        let bits : (f.offset.bits + (home_of homes s.block).offset) % 2 ^ 64
        ≡ (home_of homes s.block).offset + s.offset =
        ap (λ (o : ℕ). (o + (home_of homes s.block).offset) % 2 ^ 64) f.at
        ∙ moved_bits s.offset (home_of homes s.block).offset (omega arith) in
        there
        ∙ ap (λ (k : ℕ). Value.Ptr (Pointer.At (home_of homes s.block).block (record { bits = k }))) bits

    pub range_moved : (v w : Value) (len align : ℕ) (s : Spot) → 0 < len → IsAlignment align → IsMoved homes v w
        → range rights m v len align ≡ Ok s → range target n w len align ≡ Ok (moved_spot homes s)
    range_moved v w len align s pos ok h e =
        let f = found rights m v len align s e in
        let st = found_there v len align s f in
        let within = f.within in let fits = st.fits in let small = st.small in
        ap (λ (u : Value). range target n u len align) (address_is v w len align s f h)
        ∙ range_ok target n st.block (home_of homes s.block).block ((home_of homes s.block).offset + s.offset) len align
        st.there (omega arith) st.live (st.allowed.opens s.offset len f.within f.unclosed)
        (st.allowed.aligned s.offset len align pos f.within f.unclosed ok f.aligned)

    -- ---- loads

    load_on : (law : AreByteRights rights) (p w : Value) (what : Access) (align : ℕ) (v : Value) (r : Result Spot Cause)
        → range rights m p (access_bytes what) align ≡ r → 0 < access_bytes what → IsAlignment align
        → IsMoved homes p w → on_ok (λ s. Ok (decode what (bytes_at m s (access_bytes what)))) r ≡ Ok v
        → IsLoaded target homes n w what align v
    load_on law p w what align v (Err c) e pos ok h l = absurd (cc)
    load_on law p w what align v (Ok s) e pos ok h l =
        let f = found rights m p (access_bytes what) align s e in
        let is : decode what (bytes_at m s (access_bytes what)) ≡ v = cc in
        record {
          value = decode what (bytes_at n (moved_spot homes s) (access_bytes what));
          loads = ap (on_ok (λ t. Ok (decode what (bytes_at n t (access_bytes what)))))
              (range_moved p w (access_bytes what) align s pos ok h e);
          stands = subst
              (λ (u : Value). IsValue homes u (decode what (bytes_at n (moved_spot homes s) (access_bytes what)))) is
              (decode_kept homes what _ _
              (bytes_kept rights target homes m n em law p (access_bytes what) align s f));
        }

    pub load_moved : AreByteRights rights → (p w : Value) (what : Access) (align : ℕ) (v : Value)
        → 0 < access_bytes what → IsAlignment align → IsMoved homes p w → load rights m p what align ≡ Ok v
        → IsLoaded target homes n w what align v
    load_moved law p w what align v pos ok h l =
        load_on law p w what align v (range rights m p (access_bytes what) align) refl pos ok h l
