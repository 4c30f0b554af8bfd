-- Copies by addresses that are moved to where blocks stand, also if no pointer into these may be about.
use Rattle.std.proofs.Common.{◌≡◌, ◌≢◌, ℕ, zero, suc, ◌+◌, ◌-◌, ◌<◌, ◌⊎◌, Bool, true, false, not, List, length}
use Rattle.std.proofs.Common.{Option, Result, Ok, Err, refl, sym, ap, ◌∙◌, subst, ⊎_elim, inl, inr, arith}
use Rattle.std.proofs.Common.{if◌then◌else◌, nat_le}
use Rattle.std.specs.Prelude.{slice_get, nat_lt, ◌==◌, ◌&&◌}
use Rattle.std.proofs.lemmas.Bool.{and_left, and_right, cases_eq, cases_lt, eq-eqb, le-ltb, lt-ltb, ltb-true, ne_eqb}
use Rattle.pass_frames_steps.specs.ir_base.declared.cause.Cause.{Cause}
use Rattle.pass_frames_proof.proofs.located.Free.{keeps_all, written_free}
use Rattle.pass_frames_proof.proofs.located.Moved.{found_there, range_moved}
use Rattle.pass_frames_steps.specs.Located.{IsMoved}
use Rattle.pass_frames_steps.proofs.run_laws.memory.Copies.{eq_moved}
use Rattle.pass_frames_steps.proofs.run_laws.memory.Loads.{bytes_kept, moved_spot}
use Rattle.pass_frames_steps.proofs.run_laws.memory.Stores.{both_write}
use Rattle.pass_frames_steps.proofs.pass_proofs.run_memory.Found.{Found, found}
use Rattle.pass_frames_steps.proofs.pass_proofs.run_memory.Kept.{length-bytes_at}
use Rattle.pass_frames_steps.specs.run_laws.access.Changed.{KeepsFree}
use Rattle.pass_frames_steps.specs.run_laws.memory.Pointers.{Home, home_of}
use Rattle.pass_frames_steps.specs.run_laws.memory.Standing.{AreByteRights, Embeds, IsOpen}
use Rattle.pass_frames_steps.specs.run_memory.Memory.{Rights, both, bytes_at, copied, copy, is_constant, on_ok, overlaps}
use Rattle.pass_frames_steps.specs.run_memory.Memory.{range, rank, same_kind, write}
use Rattle.pass_frames_steps.specs.run_memory.Whole.{IsWithin}
use Rattle.pass_frames_steps.specs.run_memory.declared.block.Kind.{Kind}
use Rattle.pass_frames_steps.specs.run_memory.declared.block.MemoryBlock.{MemoryBlock}
use Rattle.pass_frames_steps.specs.run_memory.declared.pointer.Spot.{Spot}
use Rattle.pass_frames_steps.specs.run_memory.declared.pointer.Value.{Value}

-- ---- ranges that overlap

-- two ranges that meet have a byte in common
common_byte : (p q len : ℕ) → p < q + len → q < p + len
    → (i : ℕ) × ((j : ℕ) × (i < len × (j < len × (p + i ≡ q + j))))
common_byte p q len h k = ⊎_elim
    (λ lt. (0, (p - q, (omega arith, (omega arith, omega arith)))))
    (λ ge. (q - p, (0, (omega arith, (omega arith, omega arith)))))
    (cases_lt q p)

test_or : (t : Bool) → (t ≡ true) ⊎ (t ≡ false)
test_or true = inl refl
test_or false = inr refl

-- ranges without a common byte don't overlap
no_overlap : (a b : Spot) (len : ℕ)
    → (a.block ≡ b.block → (i j : ℕ) → i < len → j < len → a.offset + i ≢ b.offset + j) → overlaps a b len ≡ false
no_overlap a b len apart = ⊎_elim
    (λ same. ⊎_elim
    (λ lt. ⊎_elim
    (λ gt. let c = common_byte a.offset b.offset len (ltb-true _ _ lt) (ltb-true _ _ gt) in
    absurd (apart same c.0 c.1.0 c.1.1.0 c.1.1.1.0 c.1.1.1.1))
    (λ no. and_right _ _ no)
    (test_or (nat_lt b.offset (a.offset + len))))
    (λ no. and_left _ _ (and_right _ _ no))
    (test_or (nat_lt a.offset (b.offset + len))))
    (λ ne. and_left _ _ (and_left _ _ (and_left _ _ (ne_eqb _ _ ne))))
    (cases_eq a.block b.block)

-- the tests of an overlap in one block depend on how far the offsets lie apart
lt_moved : (d p q : ℕ) → nat_lt (d + p) (d + q) ≡ nat_lt p q
lt_moved d p q = ⊎_elim (λ lt. lt-ltb _ _ (omega arith) ∙ sym (lt-ltb p q lt))
    (λ ge. le-ltb (d + p) (d + q) (omega arith) ∙ sym (le-ltb p q ge)) (cases_lt p q)

overlap_moved : (d p q len : ℕ)
    → (not (d + p == d + q) && nat_lt (d + p) (d + q + len) && nat_lt (d + q) (d + p + len))
    ≡ (not (p == q) && nat_lt p (q + len) && nat_lt q (p + len))
overlap_moved d p q len =
    let e : d + q + len ≡ d + (q + len) = omega arith in
    let f : d + p + len ≡ d + (p + len) = omega arith in
    let a = eq_moved d p q in
    let b : nat_lt (d + p) (d + q + len) ≡ nat_lt p (q + len) = ap (nat_lt (d + p)) e ∙ lt_moved d p (q + len) in
    let c : nat_lt (d + q) (d + p + len) ≡ nat_lt q (p + len) = ap (nat_lt (d + q)) f ∙ lt_moved d q (p + len) in
    λ i. not (a i) && b i && c i

-- the first of four tests holds
behind_true : (s u v w : Bool) → s ≡ true → (s && u && v && w) ≡ (u && v && w)
behind_true s u v w p = ap (λ x. x && u && v && w) p

-- ---- copies

-- a copy in the target gives a memory in which the source stands, and leaves what is free
pub record IsCopiedToo (rights target : Rights) (homes : List Home) (m n k : List MemoryBlock) (to from : Value)
    (len : ℕ) : Type 0 where
  pub memory : List MemoryBlock
  pub copies : copy target n to from len ≡ Ok memory
  pub stands : Embeds rights target homes k memory
  pub keeps : KeepsFree rights homes m n memory

module _ (rights target : Rights) (law : AreByteRights rights) (law' : AreByteRights target) (homes : List Home)
    (m n : List MemoryBlock) (em : Embeds rights target homes m n) where
  overlap_kept : (v w : Value) (len : ℕ) (a b : Spot) (f : Found rights m v len 1 a) (g : Found rights m w len 1 b)
      → overlaps a b len ≡ false → overlaps (moved_spot homes a) (moved_spot homes b) len ≡ false
  overlap_kept v w len a b f g h = ⊎_elim
      (λ same. in_one same)
      (λ ne. no_overlap (moved_spot homes a) (moved_spot homes b) len (λ shared i j lt lt'.
      let within = f.within in let within' = g.within in
      let open_i : IsOpen rights a.block f.block (a.offset + i) =
      law.bytes a.block f.block a.offset len (a.offset + i) f.unclosed (omega arith) (omega arith) in
      let open_j : IsOpen rights b.block g.block (b.offset + j) =
      law.bytes b.block g.block b.offset len (b.offset + j) g.unclosed (omega arith) (omega arith) in
      λ e. (em.apart a.block b.block f.block g.block ne f.stands g.stands f.live g.live shared).bytes
      (a.offset + i) (b.offset + j) (omega arith) (omega arith) open_i open_j (omega arith)))
      (cases_eq a.block b.block)
    where
      in_one : a.block ≡ b.block → overlaps (moved_spot homes a) (moved_spot homes b) len ≡ false
      in_one same =
          let there : overlaps (moved_spot homes a) (record {
            block = (home_of homes a.block).block;
            offset = (home_of homes a.block).offset + b.offset;
          }) len ≡ false =
          behind_true ((home_of homes a.block).block == (home_of homes a.block).block) _ _ _
          (eq-eqb (home_of homes a.block).block (home_of homes a.block).block refl)
          ∙ overlap_moved (home_of homes a.block).offset a.offset b.offset len
          ∙ sym (behind_true (a.block == b.block) _ _ _ (eq-eqb a.block b.block same))
          ∙ h in
          subst (λ (c : ℕ). overlaps (moved_spot homes a) (record {
            block = (home_of homes c).block;
            offset = (home_of homes c).offset + b.offset;
          }) len ≡ false) same there

  -- what neither a constant nor an overlap stands against
  record IsFree (constant overlap : Bool) (k k' : List MemoryBlock) : Type 0 where
    no_constant : constant ≡ false
    no_overlap : overlap ≡ false
    is : k ≡ k'

  is_free : (constant overlap : Bool) (k k' : List MemoryBlock)
      → (if constant then Err Cause.Constant else if overlap then Err Cause.Overlap else Ok k) ≡ Ok k'
      → IsFree constant overlap k k'
  is_free true overlap k k' e = absurd (cc)
  is_free false true k k' e = absurd (cc)
  is_free false false k k' e = record { no_constant = refl; no_overlap = refl; is = cc }

  within_found : (v : Value) (len : ℕ) (s : Spot) (f : Found rights m v len 1 s)
      → IsWithin (slice_get m s.block) s.offset len
  within_found v len s f =
      let full = (found_there rights target homes m n em v len 1 s f).full in let within = f.within in
      subst (λ (o : Option MemoryBlock). IsWithin o s.offset len) (sym f.stands) (omega arith)

  within_there : (v : Value) (len : ℕ) (s : Spot) (f : Found rights m v len 1 s)
      → IsWithin (slice_get n (moved_spot homes s).block) (moved_spot homes s).offset len
  within_there v len s f =
      let st = found_there rights target homes m n em v len 1 s f in
      let whole = st.whole in let within = f.within in let fits = st.fits in
      subst (λ (o : Option MemoryBlock). IsWithin o (moved_spot homes s).offset len) (sym st.there) (omega arith)

  copied_moved : (to from to' from' : Value) (len : ℕ) (a b : Spot) (k : List MemoryBlock)
      → range rights m to (suc len) 1 ≡ Ok a → range rights m from (suc len) 1 ≡ Ok b → IsMoved homes to to'
      → IsMoved homes from from' → copied m a b (suc len) ≡ Ok k → IsCopiedToo rights target homes m n k to' from' (suc len)
  copied_moved to from to' from' len a b k e g ht hf l =
      let f = found rights m to (suc len) 1 a e in
      let h = found rights m from (suc len) 1 b g in
      let st = found_there rights target homes m n em to (suc len) 1 a f in
      let free = is_free (is_constant (slice_get m a.block)) (overlaps a b (suc len))
      (write m a (bytes_at m b (suc len))) k l in
      let no_constant : same_kind f.block.kind Kind.Constant ≡ false =
      sym (ap is_constant f.stands) ∙ free.no_constant in
      let there : is_constant (slice_get n (moved_spot homes a).block) ≡ false =
      ap is_constant st.there ∙ st.writable no_constant in
      let apart : overlaps (moved_spot homes a) (moved_spot homes b) (suc len) ≡ false =
      overlap_kept to from (suc len) a b f h free.no_overlap in
      let long : length (bytes_at m b (suc len)) ≡ suc len =
      length-bytes_at m b (suc len) (slice_get m b.block) refl (within_found from (suc len) b h) in
      let long' : length (bytes_at n (moved_spot homes b) (suc len)) ≡ suc len =
      length-bytes_at n (moved_spot homes b) (suc len) (slice_get n (moved_spot homes b).block) refl
      (within_there from (suc len) b h) in
      let within = f.within in
      let j = write n (moved_spot homes a) (bytes_at n (moved_spot homes b) (suc len)) in
      let after : Embeds rights target homes (write m a (bytes_at m b (suc len))) j =
      both_write rights target law law' homes m n em a.block a.offset f.block (bytes_at m b (suc len))
      (bytes_at n (moved_spot homes b) (suc len)) f.stands f.live (omega arith)
      (subst (λ (i : ℕ). rights.is_closed a.block f.block a.offset i ≡ false) (sym long) f.unclosed) (long' ∙ sym long)
      (bytes_kept rights target homes m n em law from (suc len) 1 b h) in
      let ra = range_moved rights target homes m n em to to' (suc len) 1 a (omega arith) (inl refl) ht e in
      let rb = range_moved rights target homes m n em from from' (suc len) 1 b (omega arith) (inl refl) hf g in
      record {
        memory = j;
        copies =
            ap (λ (r : Result Spot Cause). on_ok (λ (x, y). copied n x y (suc len))
            (both r (range target n from' (suc len) 1))) ra
            ∙ ap (λ (r : Result Spot Cause). on_ok (λ (x, y). copied n x y (suc len)) (both (Ok (moved_spot homes a)) r))
            rb
            ∙ ap (λ (t : Bool). if t then Err Cause.Constant
            else if overlaps (moved_spot homes a) (moved_spot homes b) (suc len) then Err Cause.Overlap else Ok j) there
            ∙ ap (λ (t : Bool). if t then Err Cause.Overlap else Ok j) apart;
        stands = subst (λ (x : List MemoryBlock). Embeds rights target homes x j) free.is after;
        keeps = written_free rights target law homes m n em to (suc len) 1 a f
            (bytes_at n (moved_spot homes b) (suc len)) long';
      }

  both_fails : (len : ℕ) (k : List MemoryBlock) (c d : Cause) (t : Bool)
      → on_ok (λ (x, y). copied m x y len) (if t then Err c else Err d) ≡ Ok k → ⊥
  both_fails len k c d true e = cc
  both_fails len k c d false e = cc

  copy_on : (to from to' from' : Value) (len : ℕ) (k : List MemoryBlock) (r s : Result Spot Cause)
      → range rights m to (suc len) 1 ≡ r → range rights m from (suc len) 1 ≡ s → IsMoved homes to to'
      → IsMoved homes from from' → on_ok (λ (x, y). copied m x y (suc len)) (both r s) ≡ Ok k
      → IsCopiedToo rights target homes m n k to' from' (suc len)
  copy_on to from to' from' len k (Err c) (Err d) e g ht hf l =
      absurd (both_fails (suc len) k c d (nat_le (rank c) (rank d)) l)
  copy_on to from to' from' len k (Err c) (Ok b) e g ht hf l = absurd (cc)
  copy_on to from to' from' len k (Ok a) (Err d) e g ht hf l = absurd (cc)
  copy_on to from to' from' len k (Ok a) (Ok b) e g ht hf l = copied_moved to from to' from' len a b k e g ht hf l

  pub copy_moved : (to from to' from' : Value) (len : ℕ) (k : List MemoryBlock) → IsMoved homes to to'
      → IsMoved homes from from' → copy rights m to from len ≡ Ok k → IsCopiedToo rights target homes m n k to' from' len
  copy_moved to from to' from' zero k ht hf l =
      let is : m ≡ k = cc in
      record {
        memory = n;
        copies = refl;
        stands = subst (λ (x : List MemoryBlock). Embeds rights target homes x n) is em;
        keeps = keeps_all rights homes m n;
      }
  copy_moved to from to' from' (suc len) k ht hf l =
      copy_on to from to' from' len k (range rights m to (suc len) 1) (range rights m from (suc len) 1) refl refl ht hf
      l
