-- A save stores the index and what a resume calls, and the memories stand beside each other with the instance
-- Suspended.
use Rattle.std.proofs.Common.{◌≡◌, ◌≢◌, ℕ, ◌+◌, ◌-◌, ◌%◌, ◌<◌, ◌≤◌, ◌⊎◌, inl, inr, ⊎_elim, Bool, true, false, List, length, Option, Some, None, refl, sym, ap, ◌∙◌, subst, arith}
use Rattle.std.specs.Prelude.{slice_get}
use Rattle.std.proofs.lemmas.Bool.{and_parts, false≢true}
use Rattle.pass_proofs.proofs.flow_solver.Lists.{set_cases}
use Rattle.pass_proofs.specs.ir_model.Names.{function_at}
use Rattle.pass_proofs.specs.ir_model.declared.ir_type.IntWidth.{IntWidth}
use Rattle.pass_proofs.specs.ir_paths.declared.point.Point.{Point}
use Rattle.pass_proofs.specs.pass_intrinsics.Shapes.{index_bytes}
use Rattle.pass_split_proof.proofs.states.Closed.{headed_held, index_some}
use Rattle.pass_split_proof.proofs.states.Controls.{control_beside, others_move}
use Rattle.pass_split_proof.proofs.states.Standing.{divides}
use Rattle.pass_split_proof.proofs.states.Statuses.{status_beside, status_laid}
use Rattle.pass_split_proof.proofs.states.Twins.{twin_at}
use Rattle.pass_split_proof.proofs.states.Written.{range_holds}
use Rattle.pass_split_proof.specs.code.Numbers.{IsNumbered}
use Rattle.pass_proofs.specs.split.rules.Reached.{IsLedTo}
use Rattle.pass_split_proof.specs.states.Instances.{AreFrames, IsControl, IsHeadedIn, IsLaidOut, IsSavedAt, LiesAligned, address_of_part, in_state, index_length, is_held, lives_in, resumer_of, shape_at}
use Rattle.pass_split_proof.specs.states.Memories.{AreBeside, plain_kind}
use Rattle.pass_split_proof.specs.states.Saved.{SavesIn, index_at, with_index, with_save}
use Rattle.pass_proofs.specs.run_framed.Framed.{FramedGiven, layout_of}
use Rattle.pass_proofs.proofs.run_laws.access.Done.{other_held}
use Rattle.pass_proofs.proofs.run_laws.access.Ranges.{write_held}
use Rattle.pass_proofs.proofs.run_laws.memory.Itself.{owner_rights_fit}
use Rattle.pass_proofs.proofs.run_laws.memory.Written.{same_some}
use Rattle.pass_proofs.specs.run_laws.access.Lines.{Holds}
use Rattle.pass_proofs.specs.run_laws.memory.Standing.{IsAlignment}
use Rattle.pass_proofs.proofs.run_memory.Digits.{length-encode}
use Rattle.pass_proofs.specs.run_memory.Memory.{digits, encode, is_live, owner_rights, same_kind}
use Rattle.pass_proofs.specs.run_memory.declared.block.Byte.{Byte}
use Rattle.pass_proofs.specs.run_memory.declared.block.Kind.{Kind}
use Rattle.pass_proofs.specs.run_memory.declared.block.MemoryBlock.{MemoryBlock}
use Rattle.pass_proofs.specs.run_memory.declared.pointer.Value.{Value}
use Rattle.pass_proofs.specs.run_source.declared.state.Instance.{Instance}
use Rattle.pass_proofs.specs.run_source.declared.state.Saved.{Saved}
use Rattle.pass_proofs.specs.run_source.declared.state.Status.{Status}

-- ---- the block of a frame that is there

record HasBlock (m : List MemoryBlock) (b : ℕ) : Type 0 where
  block : MemoryBlock
  there : slice_get m b ≡ Some block
  live : is_live block.life ≡ true

has_block : (m : List MemoryBlock) (b : ℕ) → lives_in (slice_get m b) ≡ true → HasBlock m b
has_block m b lives = on (slice_get m b) refl lives
  where
    on : (o : Option MemoryBlock) → slice_get m b ≡ o → lives_in o ≡ true → HasBlock m b
    on None e h = absurd (false≢true h)
    on (Some u) e h = record { block = u; there = e; live = h }

plain_changes : (k : Kind) → same_kind (plain_kind k) Kind.Constant ≡ false → same_kind k Kind.Constant ≡ false
plain_changes Kind.Allocator e = refl
plain_changes Kind.Stack e = refl
plain_changes Kind.Slot e = refl
plain_changes Kind.Global e = refl
plain_changes Kind.Constant e = e

-- ---- alignments of the index

-- it takes a byte or two, and is aligned so
index_meets : (w : IntWidth) (a index : ℕ) → IsAlignment a → a ≤ index_bytes w → index % index_bytes w ≡ 0
    → index % a ≡ 0
index_meets w a index (inl e) le h = subst (λ (k : ℕ). index % k ≡ 0) (sym e) (omega arith)
index_meets IntWidth.I16 a index (inr (inl e)) le h = subst (λ (k : ℕ). index % k ≡ 0) (sym e) h
index_meets IntWidth.I1 a index (inr (inl e)) le h = absurd (omega arith)
index_meets IntWidth.I8 a index (inr (inl e)) le h = absurd (omega arith)
index_meets IntWidth.I32 a index (inr (inl e)) le h = absurd (omega arith)
index_meets IntWidth.I64 a index (inr (inl e)) le h = absurd (omega arith)
index_meets w a index (inr (inr k)) le h = absurd (big w a k le)
  where
    bytes : (w : IntWidth) → index_bytes w ≤ 2
    bytes IntWidth.I1 = omega arith
    bytes IntWidth.I8 = omega arith
    bytes IntWidth.I16 = omega arith
    bytes IntWidth.I32 = omega arith
    bytes IntWidth.I64 = omega arith

    big : (w : IntWidth) (a : ℕ) → (a ≡ 4) ⊎ ((a ≡ 8) ⊎ (a ≡ 16)) → a ≤ index_bytes w → ⊥
    big w a (inl e) le = let b = bytes w in omega arith
    big w a (inr (inl e)) le = let b = bytes w in omega arith
    big w a (inr (inr e)) le = let b = bytes w in omega arith

index_small : (w : IntWidth) → index_bytes w ≤ 8
index_small IntWidth.I1 = omega arith
index_small IntWidth.I8 = omega arith
index_small IntWidth.I16 = omega arith
index_small IntWidth.I32 = omega arith
index_small IntWidth.I64 = omega arith

same_suspend : (p q : Point) (vs us : List (Option Value)) → Status.Suspended p vs ≡ Status.Suspended q us → p ≡ q
same_suspend p q vs us e = cc

module _ (g : FramedGiven) (xs : List Instance) (i : ℕ) (x : Instance) (m n : List MemoryBlock)
    (e : slice_get xs i ≡ Some x) (held : is_held m x ≡ true)
    (frames : AreFrames g xs m n) (beside : AreBeside g xs m n) (laid : IsLaidOut g x.coroutine) (suspend : Point)
    (values : List (Option Value))
    (saved : Option Saved) (released : Bool) (number : ℕ) (numbered : IsNumbered (function_at g.given.code x.coroutine)
    suspend number)
    (led : IsLedTo (function_at g.given.code x.coroutine) numbered.suspend.block) where
  abbrev resumes : Value
  resumes = resumer_of g x.coroutine numbered.suspend

  abbrev now : Instance
  now = in_state x (Status.Suspended suspend values) saved released

  abbrev len : ℕ
  len = index_length g x.coroutine

  abbrev one : List MemoryBlock
  one = with_index g n x number

  abbrev two : List MemoryBlock
  two = with_save g n x number resumes

  header : IsHeadedIn g m n x
  header = frames.headed i x e held

  here : HasBlock m x.block
  here = has_block m x.block (and_parts _ _ (and_parts _ _ held).1).1

  lies : LiesAligned g x here.block
  lies = frames.laid.lies i x here.block e here.there

  changes : same_kind here.block.kind Kind.Constant ≡ false
  changes =
      let y = twin_at m n beside.twins x.block here.block here.there in
      let is : header.destroys.block ≡ y.twin = same_some header.destroys.block y.twin (sym header.destroys.there
      ∙ y.there) in
      plain_changes here.block.kind (sym (ap (λ (z : MemoryBlock). same_kind z.kind Kind.Constant) (is ∙ y.is.is))
      ∙ header.destroys.writable)

  frame_align : 8 ≤ (layout_of g.layouts x.coroutine).align
  frame_align = eight (layout_of g.layouts x.coroutine).align lies.alignment
    where
      eight : (a : ℕ) → (a ≡ 8) ⊎ (a ≡ 16) → 8 ≤ a
      eight a (inl e) = omega arith
      eight a (inr e) = omega arith

  chain : (a b c d : ℕ) → a ≤ b → b ≤ c → c ≤ d → a ≤ d
  chain a b c d p q r = omega arith

  long_digits : length (digits len number) ≡ len
  long_digits = length-encode len (Value.Int (record { width = 0; bits = number }))

  -- ---- the index

  room_one : (bytes : List Byte) × (Holds owner_rights n x.block (index_at g x) len bytes × (length bytes ≡ len))
  room_one = range_holds m n beside.twins x.block here.block here.there here.live changes (index_at g x) len len
      (fits x.start (layout_of g.layouts x.coroutine).index len (layout_of g.layouts x.coroutine).size here.block.size
      laid.index lies.inside)
      (λ a is le.
      let small = chain a len 8 (layout_of g.layouts x.coroutine).align le (index_small (shape_at g x.coroutine).width)
      frame_align in (
        divides (index_at g x) x.start a (layout_of g.layouts x.coroutine).align is lies.alignment small
            (from x.start (layout_of g.layouts x.coroutine).index) lies.start
            (subst (λ (k : ℕ). k % a ≡ 0) (back x.start (layout_of g.layouts x.coroutine).index)
            (index_meets (shape_at g x.coroutine).width a (layout_of g.layouts x.coroutine).index is le
            laid.index_aligned)),
        chain a len 8 here.block.align le (index_small (shape_at g x.coroutine).width)
            (both 8 (layout_of g.layouts x.coroutine).align here.block.align frame_align lies.block),
      ))
    where
      fits : (s i l n k : ℕ) → i + l ≤ n → s + n ≤ k → s + i + l ≤ k
      fits s i l n k p q = omega arith

      from : (s i : ℕ) → s ≤ s + i
      from s i = omega arith

      back : (s i : ℕ) → i ≡ s + i - s
      back s i = omega arith

      both : (a b c : ℕ) → a ≤ b → b ≤ c → a ≤ c
      both a b c p q = omega arith

  index_control : (k : ℕ) → k < length room_one.0 → IsControl g x x.block (index_at g x + k)
  index_control k lt = (refl, inr (low (index_at g x) k, high (index_at g x) k len (length room_one.0) lt room_one.1.1))
    where
      low : (o k : ℕ) → o ≤ o + k
      low o k = omega arith

      high : (o k l m : ℕ) → k < m → m ≡ l → o + k < o + l
      high o k l m lt e = omega arith

  some_of : (bytes : List Byte) (k : ℕ) → length bytes ≡ k → 0 < k → 0 < length bytes
  some_of bytes k e lt = omega arith

  beside_one : AreBeside g xs m one
  beside_one = control_beside g xs m n beside frames.laid i x e held (index_at g x) len room_one.0
      (digits len number) room_one.1.0
      (long_digits ∙ sym room_one.1.1) (some_of room_one.0 len room_one.1.1
      (index_some (shape_at g x.coroutine).width)) index_control

  -- ---- the pointer

  room_two : (bytes : List Byte) × (Holds owner_rights one x.block x.start 8 bytes × (length bytes ≡ 8))
  room_two = range_holds m one beside_one.twins x.block here.block here.there here.live changes x.start 8 8
      (fits x.start (layout_of g.layouts x.coroutine).index len (layout_of g.layouts x.coroutine).size here.block.size
      laid.behind laid.index lies.inside)
      (λ a is le.
      let small = both a 8 (layout_of g.layouts x.coroutine).align le frame_align in (
        divides x.start x.start a (layout_of g.layouts x.coroutine).align is lies.alignment small
            (omega arith) lies.start (zero_divides x.start a is),
        chain a 8 (layout_of g.layouts x.coroutine).align here.block.align le frame_align lies.block,
      ))
    where
      fits : (s i l n k : ℕ) → 16 ≤ i → i + l ≤ n → s + n ≤ k → s + 8 ≤ k
      fits s i l n k b p q = omega arith

      both : (a b c : ℕ) → a ≤ b → b ≤ c → a ≤ c
      both a b c p q = omega arith

      zero_divides : (s a : ℕ) → IsAlignment a → (s - s) % a ≡ 0
      zero_divides s a is = subst (λ (k : ℕ). k % a ≡ 0) (none s) (zero_at a is)
        where
          none : (s : ℕ) → 0 ≡ s - s
          none s = omega arith

          zero_at : (a : ℕ) → IsAlignment a → 0 % a ≡ 0
          zero_at a (inl e) = subst (λ (k : ℕ). 0 % k ≡ 0) (sym e) refl
          zero_at a (inr (inl e)) = subst (λ (k : ℕ). 0 % k ≡ 0) (sym e) refl
          zero_at a (inr (inr (inl e))) = subst (λ (k : ℕ). 0 % k ≡ 0) (sym e) refl
          zero_at a (inr (inr (inr (inl e)))) = subst (λ (k : ℕ). 0 % k ≡ 0) (sym e) refl
          zero_at a (inr (inr (inr (inr e)))) = subst (λ (k : ℕ). 0 % k ≡ 0) (sym e) refl

  pointer_control : (k : ℕ) → k < length room_two.0 → IsControl g x x.block (x.start + k)
  pointer_control k lt = (refl, inl (low x.start k, high x.start k (length room_two.0) lt room_two.1.1))
    where
      low : (o k : ℕ) → o ≤ o + k
      low o k = omega arith

      high : (o k m : ℕ) → k < m → m ≡ 8 → o + k < o + 16
      high o k m lt e = omega arith

  long_pointer : length (encode 8 resumes) ≡ length room_two.0
  long_pointer = length-encode 8 resumes ∙ sym room_two.1.1

  beside_two : AreBeside g xs m two
  beside_two = control_beside g xs m one beside_one frames.laid i x e held x.start 8 room_two.0
      (encode 8 resumes) room_two.1.0
      long_pointer (some_of room_two.0 8 room_two.1.1 (omega arith)) pointer_control

  -- ---- what the frame holds then

  index_stored : Holds owner_rights two x.block (index_at g x) len (digits len number)
  index_stored = other_held owner_rights one x.block (index_at g x) len x.block x.start 8
      (digits len number) room_two.0 (encode 8 resumes) owner_rights_fit
      (write_held owner_rights n x.block (index_at g x) len room_one.0 room_one.1.0 owner_rights_fit
      (digits len number) (long_digits ∙ sym room_one.1.1))
      room_two.1.0 long_pointer
      (inr (inr (behind x.start (layout_of g.layouts x.coroutine).index (length (encode 8 resumes)) laid.behind
      (length-encode 8 resumes))))
    where
      behind : (s i l : ℕ) → 16 ≤ i → l ≡ 8 → s + l ≤ s + i
      behind s i l p e = omega arith

  destroys_indexed : Holds owner_rights one x.block (x.start + 8) 8
      (encode 8 (address_of_part g x.coroutine header.destroyer))
  destroys_indexed = other_held owner_rights n x.block (x.start + 8) 8 x.block (index_at g x) len _ room_one.0
      (digits len number) owner_rights_fit header.destroys room_one.1.0 (long_digits ∙ sym room_one.1.1)
      (inr (inl (before x.start (layout_of g.layouts x.coroutine).index
      (length (encode 8 (address_of_part g x.coroutine header.destroyer))) laid.behind
      (length-encode 8 (address_of_part g x.coroutine header.destroyer)))))
    where
      before : (s i l : ℕ) → 16 ≤ i → l ≡ 8 → s + 8 + l ≤ s + i
      before s i l p e = omega arith

  destroys_stored : Holds owner_rights two x.block (x.start + 8) 8
      (encode 8 (address_of_part g x.coroutine header.destroyer))
  destroys_stored = other_held owner_rights one x.block (x.start + 8) 8 x.block x.start 8 _ room_two.0
      (encode 8 resumes) owner_rights_fit destroys_indexed
      room_two.1.0 long_pointer (inr (inr (next x.start (length (encode 8 resumes)) (length-encode 8 resumes))))
    where
      next : (s l : ℕ) → l ≡ 8 → s + l ≤ s + 8
      next s l e = omega arith

  saved_there : IsSavedAt g two now suspend
  saved_there = record {
    number = number;
    numbered = numbered;
    led = led;
    resumes = write_held owner_rights one x.block x.start 8 room_two.0 room_two.1.0 owner_rights_fit
        (encode 8 resumes) long_pointer;
    index = record { holds = index_stored };
  }

  now_headed : IsHeadedIn g m two now
  now_headed = record {
    destroyer = header.destroyer;
    stands = header.stands;
    is = header.is;
    right = header.right;
    destroys = destroys_stored;
    saved = λ point vs f. subst (IsSavedAt g two now) (same_suspend suspend point values vs f) saved_there;
  }

  pub others_indexed : (j : ℕ) (z : Instance) → slice_get xs j ≡ Some z → j ≢ i → is_held m z ≡ true
      → IsHeadedIn g m (with_index g n x number) z
  others_indexed j z f ne h = headed_held g n one z
      (others_move g xs m n beside frames.laid i x e held (index_at g x) len room_one.0
      (digits len number) room_one.1.0 (long_digits ∙ sym room_one.1.1) (some_of room_one.0 len room_one.1.1
      (index_some (shape_at g x.coroutine).width)) index_control j z ne f h)
      (frames.headed j z f h)

  pub others_headed : (j : ℕ) (z : Instance) → slice_get xs j ≡ Some z → j ≢ i → is_held m z ≡ true
      → IsHeadedIn g m (with_save g n x number (resumer_of g x.coroutine numbered.suspend)) z
  others_headed j z f ne h = headed_held g one two z
      (others_move g xs m one beside_one frames.laid i x e held x.start 8 room_two.0 (encode 8 resumes) room_two.1.0
      long_pointer (some_of room_two.0 8 room_two.1.1 (omega arith)) pointer_control j z ne f h)
      (others_indexed j z f ne h)

  -- on the way its header names what a destroy calls
  module _ (k : List MemoryBlock) (destroys : Holds owner_rights k x.block (x.start + 8) 8
      (encode 8 (address_of_part g x.coroutine header.destroyer))) where
    destroyed : IsHeadedIn g m k (in_state x Status.Running x.last_save x.released)
    destroyed = record {
      destroyer = header.destroyer;
      stands = header.stands;
      is = header.is;
      right = header.right;
      destroys = destroys;
      saved = λ point vs f. absurd (running f);
    }
      where
        running : {point : Point} {vs : List (Option Value)} → Status.Running ≡ Status.Suspended point vs → ⊥
        running f = cc

  pub indexed_destroyed : IsHeadedIn g m (with_index g n x number)
      (in_state x Status.Running x.last_save x.released)
  indexed_destroyed = destroyed one destroys_indexed

  pub saved_destroyed : IsHeadedIn g m (with_save g n x number (resumer_of g x.coroutine numbered.suspend))
      (in_state x Status.Running x.last_save x.released)
  saved_destroyed = destroyed two destroys_stored

  -- the instance is Suspended, and its frame says where
  pub saves : SavesIn g xs i x m n number resumes suspend values saved released
  saves = record {
    old = room_one.0;
    first = room_one.1.0;
    long = room_one.1.1;
    older = room_two.0;
    second = room_two.1.0;
    longer = room_two.1.1;
    beside = status_beside g xs m two i x e (Status.Suspended suspend values) saved released beside_two;
    frames = record {
      laid = status_laid g xs m two i x e (Status.Suspended suspend values) saved released (λ h. held) frames.laid;
      headed = λ j z f h. ⊎_elim
          (λ k. subst (IsHeadedIn g m two) (sym k.1) now_headed)
          (λ k. others_headed j z k.0 k.1 h)
          (set_cases xs i j now z f);
    };
  }
