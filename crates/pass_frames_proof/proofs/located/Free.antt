-- What is written at the home of a range that an access found leaves what is free in the target.
use Rattle.std.proofs.Common.{◌≡◌, ◌≢◌, ◌⊎◌, ℕ, ◌+◌, ◌-◌, ◌<◌, ◌≤◌, List, length, get_or, Option, Some, None, refl}
use Rattle.std.proofs.Common.{sym, ap, ◌∙◌, subst, ⊎_elim, inl, inr, arith}
use Rattle.std.specs.Prelude.{slice_get}
use Rattle.std.proofs.lemmas.Bool.{cases_eq, cases_lt}
use Rattle.pass_frames_proof.proofs.located.Moved.{found_there}
use Rattle.pass_frames_steps.proofs.run_laws.memory.Loads.{moved_spot}
use Rattle.pass_frames_steps.proofs.run_laws.memory.Written.{changed_elsewhere, changed_here, written_before}
use Rattle.pass_frames_steps.proofs.run_laws.memory.Written.{written_behind}
use Rattle.pass_frames_steps.proofs.pass_proofs.run_memory.Found.{Found}
use Rattle.pass_frames_steps.proofs.pass_proofs.run_memory.Kept.{length-written}
use Rattle.pass_frames_steps.specs.run_laws.access.Changed.{IsFree, KeepsFree, byte_in}
use Rattle.pass_frames_steps.specs.run_laws.embedded.Refilled.{IsRefilled}
use Rattle.pass_frames_steps.specs.run_laws.memory.Pointers.{Home, home_of}
use Rattle.pass_frames_steps.specs.run_laws.memory.Standing.{AreByteRights, Embeds, IsOpen, Stands}
use Rattle.pass_frames_steps.specs.run_memory.Memory.{Rights, bytes_in, with_bytes, write, written}
use Rattle.pass_frames_steps.specs.run_memory.declared.block.Byte.{Byte}
use Rattle.pass_frames_steps.specs.run_memory.declared.block.MemoryBlock.{MemoryBlock}
use Rattle.pass_frames_steps.specs.run_memory.declared.pointer.Value.{Value}
use Rattle.pass_frames_steps.specs.run_memory.declared.pointer.Spot.{Spot}

refilled_itself : (o : Option MemoryBlock) → IsRefilled o o
refilled_itself None = tt
refilled_itself (Some x) = refl

-- nothing is written
pub keeps_all : (rights : Rights) (homes : List Home) (m n : List MemoryBlock) → KeepsFree rights homes m n n
keeps_all rights homes m n = record {
  refilled = record { each = λ b. refilled_itself (slice_get n b) };
  lengths = λ b. refl;
  bytes = λ block at free. refl;
}

module _ (rights target : Rights) (law : AreByteRights rights) (homes : List Home) (m n : List MemoryBlock)
    (em : Embeds rights target homes m n) (v : Value) (len align : ℕ) (s : Spot)
    (f : Found rights m v len align s) (ys : List Byte) (long : length ys ≡ len) where
  abbrev B : ℕ
  B = (home_of homes s.block).block

  abbrev at : ℕ
  at = (home_of homes s.block).offset + s.offset

  abbrev k : List MemoryBlock
  k = write n (moved_spot homes s) ys

  st : Stands rights target homes n s.block f.block
  st = found_there rights target homes m n em v len align s f

  here : slice_get k B ≡ Some (with_bytes at ys st.block)
  here = changed_here n B (with_bytes at ys) st.block st.there

  there : (b : ℕ) → b ≢ B → slice_get k b ≡ slice_get n b
  there b ne = changed_elsewhere n B b (with_bytes at ys) ne

  inside : at + length ys ≤ length st.block.bytes
  inside =
      let within = f.within in let fits = st.fits in let whole = st.whole in
      omega (arith, within, fits, whole, long)

  block_refilled : (b : ℕ) → IsRefilled (slice_get n b) (slice_get k b)
  block_refilled b = ⊎_elim
      (λ same.
      subst (λ (c : ℕ). IsRefilled (slice_get n c) (slice_get k c)) (sym same)
      (subst (λ (p : Option MemoryBlock × Option MemoryBlock). IsRefilled p.0 p.1)
      (λ j. (sym st.there j, sym here j)) (on st.block)))
      (λ ne. subst (λ (o : Option MemoryBlock). IsRefilled (slice_get n b) o) (sym (there b ne))
      (refilled_itself (slice_get n b)))
      (cases_eq b B)
    where
      on : (x : MemoryBlock) → IsRefilled (Some x) (Some (with_bytes at ys x))
      on x = refl

  block_length : (b : ℕ) → length (bytes_in (slice_get k b)) ≡ length (bytes_in (slice_get n b))
  block_length b = ⊎_elim
      (λ same.
      ap (λ (c : ℕ). length (bytes_in (slice_get k c))) same
      ∙ ap (λ (o : Option MemoryBlock). length (bytes_in o)) here
      ∙ length-written st.block.bytes at ys inside
      ∙ ap (λ (o : Option MemoryBlock). length (bytes_in o)) (sym st.there)
      ∙ ap (λ (c : ℕ). length (bytes_in (slice_get n c))) (sym same))
      (λ ne. ap (λ (o : Option MemoryBlock). length (bytes_in o)) (there b ne))
      (cases_eq b B)

  away : (i : ℕ) → (i < at) ⊎ (at + length ys ≤ i)
      → get_or (written st.block.bytes at ys) i Byte.Undefined ≡ get_or st.block.bytes i Byte.Undefined
  away i (inl lt) =
      let le = inside in
      written_before st.block.bytes at ys i (omega (arith, le)) lt
  away i (inr ge) = written_behind st.block.bytes at ys i inside ge

  -- a byte that is free isn't among those
  outside : (i : ℕ) → IsFree rights homes m B i → (i < at) ⊎ (at + length ys ≤ i)
  outside i free = ⊎_elim
      (λ lt. inl lt)
      (λ ge. ⊎_elim
      (λ lt. absurd (met ge lt))
      (λ far. inr far)
      (cases_lt i (at + length ys)))
      (cases_lt i at)
    where
      met : at ≤ i → i < at + length ys → ⊥
      met ge lt =
          let within = f.within in
          let j : ℕ = i - (home_of homes s.block).offset in
          let small : i - (home_of homes s.block).offset < f.block.size = omega (arith, within, ge, lt, long) in
          let open_j : IsOpen rights s.block f.block (i - (home_of homes s.block).offset) =
          law.bytes s.block f.block s.offset len (i - (home_of homes s.block).offset) f.unclosed
          (omega (arith, ge)) (omega (arith, lt, long)) in
          free.each s.block (i - (home_of homes s.block).offset) f.block f.stands f.live small open_j refl
          (omega (arith, ge))

  byte_same : (block i : ℕ) → IsFree rights homes m block i → byte_in k block i ≡ byte_in n block i
  byte_same block i free = ⊎_elim
      (λ same.
      ap (λ (c : ℕ). byte_in k c i) same
      ∙ ap (λ (o : Option MemoryBlock). get_or (bytes_in o) i Byte.Undefined) here
      ∙ away i (outside i (subst (λ (c : ℕ). IsFree rights homes m c i) same free))
      ∙ ap (λ (o : Option MemoryBlock). get_or (bytes_in o) i Byte.Undefined) (sym st.there)
      ∙ ap (λ (c : ℕ). byte_in n c i) (sym same))
      (λ ne. ap (λ (o : Option MemoryBlock). get_or (bytes_in o) i Byte.Undefined) (there block ne))
      (cases_eq block B)

  pub written_free : KeepsFree rights homes m n k
  written_free = record {
    refilled = record { each = block_refilled };
    lengths = block_length;
    bytes = byte_same;
  }
