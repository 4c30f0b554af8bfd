-- Stores by addresses that are moved to where blocks stand, also if no pointer into these may be about.
use Rattle.std.proofs.Common.{◌≡◌, ℕ, ◌<◌, Bool, true, false, List, length, Result, Ok, Err, refl, sym, ap, ◌∙◌}
use Rattle.std.proofs.Common.{subst, arith, if◌then◌else◌}
use Rattle.std.specs.Prelude.{slice_get}
use Rattle.pass_frames_steps.specs.ir_base.declared.cause.Cause.{Cause}
use Rattle.pass_frames_proof.proofs.located.Free.{written_free}
use Rattle.pass_frames_proof.proofs.located.Moved.{found_there, range_moved}
use Rattle.pass_frames_steps.specs.Located.{IsMoved}
use Rattle.pass_frames_steps.proofs.run_laws.memory.Loads.{moved_spot}
use Rattle.pass_frames_steps.proofs.run_laws.memory.Matching.{encode_kept}
use Rattle.pass_frames_steps.proofs.run_laws.memory.Stores.{both_write}
use Rattle.pass_frames_steps.proofs.pass_proofs.run_memory.Digits.{length-encode}
use Rattle.pass_frames_steps.proofs.pass_proofs.run_memory.Found.{found}
use Rattle.pass_frames_steps.specs.run_laws.access.Changed.{KeepsFree}
use Rattle.pass_frames_steps.specs.run_laws.memory.Pointers.{Home, IsValue}
use Rattle.pass_frames_steps.specs.run_laws.memory.Standing.{AreByteRights, Embeds, IsAlignment}
use Rattle.pass_frames_steps.specs.run_memory.Memory.{Rights, access_bytes, encode, is_constant, on_ok, range, same_kind}
use Rattle.pass_frames_steps.specs.run_memory.Memory.{store, unless_constant, write}
use Rattle.pass_frames_steps.specs.run_memory.declared.block.Kind.{Kind}
use Rattle.pass_frames_steps.specs.run_memory.declared.block.MemoryBlock.{MemoryBlock}
use Rattle.pass_frames_steps.specs.run_memory.declared.pointer.Access.{Access}
use Rattle.pass_frames_steps.specs.run_memory.declared.pointer.Spot.{Spot}
use Rattle.pass_frames_steps.specs.run_memory.declared.pointer.Value.{Value}

-- a store in the target gives a memory in which the source stands, and leaves what is free
pub record IsStoredToo (rights target : Rights) (homes : List Home) (m n k : List MemoryBlock) (p v : Value)
    (what : Access) (align : ℕ) : Type 0 where
  pub memory : List MemoryBlock
  pub stores : store target n p v what align ≡ Ok memory
  pub stands : Embeds rights target homes k memory
  pub keeps : KeepsFree rights homes m n memory

module _ (rights target : Rights) (homes : List Home) (m n : List MemoryBlock) (em : Embeds rights target homes m n)
  where
    -- what isn't refused for a constant
    record IsWritten (constant : Bool) (k k' : List MemoryBlock) : Type 0 where
      free : constant ≡ false
      is : k ≡ k'

    is_written : (constant : Bool) (k k' : List MemoryBlock) → (if constant then Err Cause.Constant else Ok k) ≡ Ok k'
        → IsWritten constant k k'
    is_written true k k' e = absurd (cc)
    is_written false k k' e = record { free = refl; is = cc }

    module _ (law : AreByteRights rights) (law' : AreByteRights target) where
      store_on : (k : List MemoryBlock) (p q v w : Value) (what : Access) (align : ℕ) (r : Result Spot Cause)
          → 0 < access_bytes what → IsAlignment align → IsMoved homes p q → IsValue homes v w
          → range rights m p (access_bytes what) align ≡ r
          → on_ok (λ s. unless_constant m s (write m s (encode (access_bytes what) v))) r ≡ Ok k
          → IsStoredToo rights target homes m n k q w what align
      store_on k p q v w what align (Err c) pos ok hp hv e l = absurd (cc)
      store_on k p q v w what align (Ok s) pos ok hp hv e l =
          let len = access_bytes what in
          let f = found rights m p len align s e in
          let st = found_there rights target homes m n em p len align s f in
          let t = moved_spot homes s in
          let wr = is_written (is_constant (slice_get m s.block)) (write m s (encode len v)) k l in
          let free : same_kind f.block.kind Kind.Constant ≡ false = sym (ap is_constant f.stands) ∙ wr.free in
          let constant : is_constant (slice_get n t.block) ≡ false = ap is_constant st.there ∙ st.writable free in
          let long_v : length (encode len v) ≡ len = length-encode len v in
          let long_w : length (encode len w) ≡ len = length-encode len w in
          let within = f.within in
          let after : Embeds rights target homes (write m s (encode len v)) (write n t (encode len w)) =
          both_write rights target law law' homes m n em s.block s.offset f.block (encode len v) (encode len w) f.stands
          f.live (omega arith)
          (subst (λ (i : ℕ). rights.is_closed s.block f.block s.offset i ≡ false) (sym long_v) f.unclosed)
          (long_w ∙ sym long_v) (encode_kept homes len v w hv long_w) in
          record {
            memory = write n t (encode len w);
            stores =
                ap (on_ok (λ u. unless_constant n u (write n u (encode len w))))
                (range_moved rights target homes m n em p q len align s pos ok hp e)
                ∙ ap (λ (c : Bool). if c then Err Cause.Constant else Ok (write n t (encode len w))) constant;
            stands = subst (λ (i : List MemoryBlock). Embeds rights target homes i (write n t (encode len w))) wr.is
                after;
            keeps = written_free rights target law homes m n em p len align s f (encode len w) long_w;
          }

      pub store_moved : (k : List MemoryBlock) (p q v w : Value) (what : Access) (align : ℕ) → 0 < access_bytes what
          → IsAlignment align → IsMoved homes p q → IsValue homes v w → store rights m p v what align ≡ Ok k
          → IsStoredToo rights target homes m n k q w what align
      store_moved k p q v w what align pos ok hp hv l =
          store_on k p q v w what align (range rights m p (access_bytes what) align) pos ok hp hv refl l
