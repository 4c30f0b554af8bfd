-- The header of an instance that begins where room was given is stored, and the memories stand beside each other.
use Rattle.std.proofs.Common.{◌≡◌, ◌≢◌, ℕ, zero, suc, ◌+◌, ◌%◌, ◌<◌, ◌≤◌, ◌⊎◌, inl, inr, ⊎_elim, ◌&&◌, Bool, true, false, not, List, [], ◌∷◌, ◌++◌, length, Option, Some, refl, sym, ap, ◌∙◌, subst, arith}
use Rattle.std.specs.Prelude.{slice_get, is_some}
use Rattle.std.proofs.lemmas.Bool.{and_from, and_parts, and_right, cases_eq, cases_lt, eqb-true, false≢true}
use Rattle.std.proofs.lemmas.Option.{slice_get_within}
use Rattle.pass_proofs.specs.ir_paths.declared.point.Point.{Point}
use Rattle.pass_proofs.specs.pass_intrinsics.declared.shape.Part.{Part}
use Rattle.pass_split_proof.proofs.states.Closed.{headed_held}
use Rattle.pass_split_proof.proofs.states.Controls.{control_beside, others_move}
use Rattle.pass_split_proof.proofs.states.Judged.{control_closed, control_covered, get_new, judge_new}
use Rattle.pass_split_proof.proofs.states.Standing.{open_bytes, twins_stand}
use Rattle.pass_split_proof.proofs.states.Written.{range_holds}
use Rattle.pass_split_proof.specs.given_begins.Room.{BeginsAt, HasRoom, IsBegun, with_header_at}
use Rattle.pass_split_proof.specs.states.Instances.{AreFrames, AreLaidFrames, IsControl, IsHeaded, IsHeadedIn, IsLaidOut, LiesAligned, StandsThere, address_of_part, is_destroyer, is_held, lives_in}
use Rattle.pass_split_proof.specs.code.Positions.{is_given}
use Rattle.pass_split_proof.specs.states.Memories.{AreBeside, homes_of}
use Rattle.run_access_worked.proofs.Begun.{get_more, judge_more}
use Rattle.pass_proofs.specs.run_framed.Framed.{FramedGiven, covers, frame_rights, is_open_byte, layout_of}
use Rattle.pass_proofs.proofs.run_laws.access.Ranges.{write_held}
use Rattle.pass_proofs.proofs.run_laws.memory.Itself.{owner_rights_fit}
use Rattle.pass_proofs.proofs.run_laws.memory.Written.{same_some}
use Rattle.pass_proofs.specs.run_laws.access.Lines.{Holds, refilled_at}
use Rattle.pass_proofs.specs.run_laws.memory.Pointers.{IsByte}
use Rattle.pass_proofs.specs.run_laws.memory.Standing.{IsAlignment, IsOpen, byte_of}
use Rattle.pass_proofs.proofs.run_memory.Digits.{length-encode}
use Rattle.pass_proofs.specs.run_memory.Memory.{encode, is_live, owner_rights}
use Rattle.pass_proofs.specs.run_memory.declared.block.Byte.{Byte}
use Rattle.pass_proofs.specs.run_memory.declared.block.MemoryBlock.{MemoryBlock}
use Rattle.pass_proofs.specs.run_memory.declared.pointer.Value.{Value}
use Rattle.pass_proofs.specs.run_source.State.{is_finished}
use Rattle.pass_proofs.specs.run_source.declared.state.Instance.{Instance}
use Rattle.pass_proofs.specs.run_source.declared.state.Status.{Status}

-- ---- one instance more

-- it is one of the old ones, or the new one
pub more_parted : (xs : List Instance) (x : Instance) (P : Instance → Type 0) (i : ℕ) (z : Instance)
    → slice_get (xs ++ x ∷ []) i ≡ Some z → (i < length xs → slice_get xs i ≡ Some z → P z)
    → (i ≡ length xs → z ≡ x → P z) → P z
more_parted xs x P i z e old new = on (cases_lt i (length xs))
  where
    on : (i < length xs) ⊎ (length xs ≤ i) → P z
    on (inl lt) = old lt (sym (get_more xs x i lt) ∙ e)
    on (inr ge) = ⊎_elim
        (λ is. new is (same_some z x (sym e ∙ ap (slice_get (xs ++ x ∷ [])) is ∙ get_new xs x)))
        (λ ne. absurd (past xs x i z e (above i (length xs) ge ne)))
        (cases_eq i (length xs))
      where
        above : (i k : ℕ) → k ≤ i → i ≢ k → k < i
        above i k ge ne = ⊎_elim (λ lt. lt) (λ le. absurd (ne (omega arith))) (cases_lt k i)

        past : (ys : List Instance) (x : Instance) (i : ℕ) (z : Instance) → slice_get (ys ++ x ∷ []) i ≡ Some z
            → length ys < i → ⊥
        past [] x zero z e lt = omega arith
        past [] x (suc i) z e lt = cc
        past (y ∷ ys) x zero z e lt = omega arith
        past (y ∷ ys) x (suc i) z e lt = past ys x i z e (omega arith)

-- ---- alignments

-- 8 is met up to 8, from an aligned start and 8 behind it
from_eight : (a s k : ℕ) → IsAlignment a → a ≤ 8 → 8 ≤ k → s % 8 ≡ 0 → (s % a ≡ 0) × (((s + 8) % a ≡ 0) × (a ≤ k))
from_eight a s k (inl e) le big at = subst (λ (c : ℕ). (s % c ≡ 0) × (((s + 8) % c ≡ 0) × (c ≤ k))) (sym e)
    (omega arith, (omega arith, omega arith))
from_eight a s k (inr (inl e)) le big at = subst (λ (c : ℕ). (s % c ≡ 0) × (((s + 8) % c ≡ 0) × (c ≤ k))) (sym e)
    (omega arith, (omega arith, omega arith))
from_eight a s k (inr (inr (inl e))) le big at = subst (λ (c : ℕ). (s % c ≡ 0) × (((s + 8) % c ≡ 0) × (c ≤ k)))
    (sym e) (omega arith, (omega arith, omega arith))
from_eight a s k (inr (inr (inr (inl e)))) le big at = subst (λ (c : ℕ). (s % c ≡ 0) × (((s + 8) % c ≡ 0) × (c ≤ k)))
    (sym e) (omega arith, (omega arith, omega arith))
from_eight a s k (inr (inr (inr (inr e)))) le big at = absurd (omega arith)

starts_aligned : (a s l k : ℕ) → IsAlignment a → a ≤ 8 → (l ≡ 8) ⊎ (l ≡ 16) → l ≤ k → s % l ≡ 0
    → (s % a ≡ 0) × (((s + 8) % a ≡ 0) × (a ≤ k))
starts_aligned a s l k is le (inl e) big at = from_eight a s k is le (subst (λ (c : ℕ). c ≤ k) e big)
    (subst (λ (c : ℕ). s % c ≡ 0) e at)
starts_aligned a s l k is le (inr e) big at = from_eight a s k is le (half k (subst (λ (c : ℕ). c ≤ k) e big))
    (less s (subst (λ (c : ℕ). s % c ≡ 0) e at))
  where
    half : (k : ℕ) → 16 ≤ k → 8 ≤ k
    half k le = omega arith

    less : (s : ℕ) → s % 16 ≡ 0 → s % 8 ≡ 0
    less s e = omega arith

module _ (g : FramedGiven) (xs : List Instance) (x : Instance) (m n : List MemoryBlock) (room : HasRoom g xs x m n)
    (frames : AreFrames g xs m n) (beside : AreBeside g xs m n) (laid : IsLaidOut g x.coroutine) (new : IsBegun x)
  where
    abbrev more : List Instance
    more = xs ++ x ∷ []

    abbrev u : MemoryBlock
    u = room.block

    new_is : (y : MemoryBlock) → slice_get m x.block ≡ Some y → u ≡ y
    new_is y e = same_some u y (sym room.there ∙ e)

    -- ---- rights

    -- an old frame's control byte is closed, also where it lies in the new frame
    old_closed : (i : ℕ) (z : Instance) (y : MemoryBlock) (at : ℕ) → slice_get xs i ≡ Some z → is_held m z ≡ true
        → IsControl g z z.block at → (frame_rights g more).is_closed z.block y at 1 ≡ true
    old_closed i z y at e held control = on (covers g z.block at x) refl
      where
        on : (t : Bool) → covers g z.block at x ≡ t → (frame_rights g more).is_closed z.block y at 1 ≡ true
        on false fails = ap (λ (j : Option (ℕ × Instance)). not (is_open_byte g at j && true))
            (judge_more g xs x z.block at fails) ∙ frames.laid.closed i z y at e held control
        on true cover =
            let here : x.block ≡ z.block = eqb-true x.block z.block (and_parts _ _ (and_parts _ _ cover).0).0 in
            ap (λ (j : Option (ℕ × Instance)). not (is_open_byte g at j && true)) (judge_new g xs x z.block at cover)
            ∙ ap (λ (t : Bool). not (t && true)) (room.clear i z at e held (sym here, control.1)
            (subst (λ (c : ℕ). covers g c at x ≡ true) (sym here) cover)).shut

    -- none of them is a control byte of the new frame
    old_apart : (i : ℕ) (z : Instance) (block at : ℕ) → slice_get xs i ≡ Some z → is_held m z ≡ true
        → IsControl g z block at → IsControl g x block at → ⊥
    old_apart i z block at e held c d = (room.clear i z at e held (c.0 ∙ sym d.0, c.1)
        (control_covered g xs x laid at (refl, d.1))).free (refl, d.1)

    lies : AreLaidFrames g more m
    lies = record {
      known = λ i z e. more_parted xs x (λ (w : Instance). w.block < length m) i z e (λ lt f. frames.laid.known i z f)
          (λ is f. subst (λ (w : Instance). w.block < length m) (sym f) (slice_get_within m x.block u room.there));
      slots = λ i z e. more_parted xs x (λ (w : Instance). w.slots ≡ []) i z e (λ lt f. frames.laid.slots i z f)
          (λ is f. ap (λ (w : Instance). w.slots) f ∙ new.slots);
      owned = λ i z y e unfreed at live kind. more_parted xs x (λ (w : Instance). w.block ≡ z.block
          → is_some y.owned ≡ true) i z e
          (λ lt f same. frames.laid.owned i z y f unfreed at live kind)
          (λ is f same. let w = new_is y (ap (slice_get m) (sym (ap (λ (w : Instance). w.block) f)) ∙ at) in
          ap (λ (q : MemoryBlock). is_some q.owned) (sym w)
          ∙ room.owned (ap (λ (q : MemoryBlock). q.kind) w ∙ kind))
          refl;
      gone = λ i z y e freed at kind. more_parted xs x (λ (w : Instance). w.freed ≡ true → is_live y.life ≡ false) i z e
          (λ lt f freed'. frames.laid.gone i z y f freed at kind)
          (λ is f freed'. absurd (false≢true (sym new.unfreed ∙ sym (ap (λ (w : Instance). w.freed) f) ∙ freed))) freed;
      lies = λ i z y e at. more_parted xs x (λ (w : Instance). slice_get m w.block ≡ Some y → LiesAligned g w y) i z e
          (λ lt f at'. frames.laid.lies i z y f at')
          (λ is f. subst (λ (w : Instance). slice_get m w.block ≡ Some y → LiesAligned g w y) (sym f)
          (λ at'. subst (LiesAligned g x) (new_is y at') room.lies)) at;
      closed = λ i z y at e held control. more_parted xs x (λ (w : Instance). is_held m w ≡ true
          → IsControl g w w.block at → (frame_rights g more).is_closed w.block y at 1 ≡ true) i z e
          (λ lt f. old_closed i z y at f)
          (λ is f. subst (λ (w : Instance). is_held m w ≡ true → IsControl g w w.block at
          → (frame_rights g more).is_closed w.block y at 1 ≡ true) (sym f)
          (λ h c. control_closed g xs x laid y at c)) held control;
      apart = λ i j z w at ne e f held held' c d. more_parted xs x (λ (p : Instance). IsControl g p z.block at → ⊥) i z e
          (λ lt e' c'. more_parted xs x (λ (q : Instance). IsControl g q z.block at → ⊥) j w f
          (λ lt' f' d'. frames.laid.apart i j z w at ne e' f' held held' c d)
          (λ is' f' d'. old_apart i z z.block at e' held c (subst (λ (q : Instance). IsControl g q z.block at) f' d')) d)
          (λ is e' c'. more_parted xs x (λ (q : Instance). IsControl g q z.block at → ⊥) j w f
          (λ lt' f' d'. old_apart j w z.block at f' held' d (subst (λ (q : Instance). IsControl g q z.block at) e' c'))
          (λ is' f' d'. ne (is ∙ sym is')) d) c;
    }

    -- ---- bytes

    open_stands : (b i : ℕ) (y v : MemoryBlock) → slice_get m b ≡ Some y → slice_get n b ≡ Some v
        → is_live y.life ≡ true → i < y.size → IsOpen (frame_rights g more) b y i
        → IsByte (homes_of m) (byte_of y i) (byte_of v i)
    open_stands b i y v e f live lt opened = on (covers g b i x) refl
      where
        on : (t : Bool) → covers g b i x ≡ t → IsByte (homes_of m) (byte_of y i) (byte_of v i)
        on false fails = open_bytes g xs m n beside.stands b i y v e f live lt
            (ap (λ (j : Option (ℕ × Instance)). not (is_open_byte g i j && true)) (sym (judge_more g xs x b i fails))
            ∙ opened)
        on true cover =
            let at : x.block ≡ b = eqb-true x.block b (and_parts _ _ (and_parts _ _ cover).0).0 in
            let is : y ≡ u = sym (new_is y (ap (slice_get m) at ∙ e)) in
            subst (λ (q : MemoryBlock). IsByte (homes_of m) (byte_of q i) (byte_of v i)) (sym is)
            (room.opened i v (ap (slice_get n) at ∙ f) (subst (λ (q : MemoryBlock). i < q.size) is lt)
            (subst (λ (c : ℕ). covers g c i x ≡ true) (sym at) cover)
            (subst (λ (p : ℕ × MemoryBlock). IsOpen (frame_rights g more) p.0 p.1 i) (λ l. (sym at l, is l)) opened))

    before : AreBeside g more m n
    before = record { twins = beside.twins; stands = twins_stand g more m n beside.twins lies.lies open_stands }

    -- ---- the header

    module _ (resumes : Value) (destroyer : Part) (is : is_destroyer destroyer ≡ true)
        (standing : StandsThere g x.coroutine destroyer) (right : is_given destroyer ≡ true) where
      abbrev destroys : Value
      destroys = address_of_part g x.coroutine destroyer

      abbrev one : List MemoryBlock
      one = refilled_at n x.block x.start (encode 8 resumes)

      abbrev two : List MemoryBlock
      two = with_header_at n x.block x.start resumes destroys

      held : is_held m x ≡ true
      held = and_from _ _ (ap not new.unfreed) (and_from _ _ (ap not (and_right _ _ (ap is_finished new.runs)))
          (ap lives_in room.there ∙ room.live))

      roomy : x.start + 16 ≤ u.size
      roomy = wide x.start (layout_of g.layouts x.coroutine).index (layout_of g.layouts x.coroutine).size u.size _
          laid.behind laid.index room.lies.inside
        where
          wide : (s i l n k : ℕ) → 16 ≤ i → i + k ≤ l → s + l ≤ n → s + 16 ≤ n
          wide s i l n k a b c = omega arith

      aligned : (a : ℕ) → IsAlignment a → a ≤ 8 → (x.start % a ≡ 0) × (((x.start + 8) % a ≡ 0) × (a ≤ u.align))
      aligned a is le = starts_aligned a x.start (layout_of g.layouts x.coroutine).align u.align is le
          room.lies.alignment room.lies.block room.lies.start

      -- the first pointer
      room_one : (bytes : List Byte) × (Holds owner_rights n x.block x.start 8 bytes × (length bytes ≡ 8))
      room_one = range_holds m n beside.twins x.block u room.there room.live room.writable x.start 8 8
          (low x.start u.size roomy) (λ a is le. let h = aligned a is le in (h.0, h.1.1))
        where
          low : (s k : ℕ) → s + 16 ≤ k → s + 8 ≤ k
          low s k le = omega arith

      in_first : (k : ℕ) → k < 8 → IsControl g x x.block (x.start + k)
      in_first k lt = (refl, inl (from x.start k, to x.start k lt))
        where
          from : (s k : ℕ) → s ≤ s + k
          from s k = omega arith

          to : (s k : ℕ) → k < 8 → s + k < s + 16
          to s k lt = omega arith

      in_second : (k : ℕ) → k < 8 → IsControl g x x.block (x.start + 8 + k)
      in_second k lt = (refl, inl (from x.start k, to x.start k lt))
        where
          from : (s k : ℕ) → s ≤ s + 8 + k
          from s k = omega arith

          to : (s k : ℕ) → k < 8 → s + 8 + k < s + 16
          to s k lt = omega arith

      some_of : (bytes : List Byte) → length bytes ≡ 8 → 0 < length bytes
      some_of bytes e = omega arith

      below : (bytes : List Byte) → length bytes ≡ 8 → (k : ℕ) → k < length bytes → k < 8
      below bytes e k lt = omega arith

      beside_one : AreBeside g more m one
      beside_one = control_beside g more m n before lies (length xs) x (get_new xs x) held x.start 8 room_one.0
          (encode 8 resumes) room_one.1.0
          (length-encode 8 resumes ∙ sym room_one.1.1) (some_of room_one.0 room_one.1.1) (λ k lt. in_first k
          (below room_one.0 room_one.1.1 k lt))

      -- and the second
      room_two : (bytes : List Byte) × (Holds owner_rights one x.block (x.start + 8) 8 bytes × (length bytes ≡ 8))
      room_two = range_holds m one beside_one.twins x.block u room.there room.live room.writable (x.start + 8) 8 8
          (high x.start u.size roomy) (λ a is le. let h = aligned a is le in (h.1.0, h.1.1))
        where
          high : (s k : ℕ) → s + 16 ≤ k → s + 8 + 8 ≤ k
          high s k le = omega arith

      beside_two : AreBeside g more m two
      beside_two = control_beside g more m one beside_one lies (length xs) x (get_new xs x) held (x.start + 8) 8 room_two.0
          (encode 8 destroys) room_two.1.0
          (length-encode 8 destroys ∙ sym room_two.1.1) (some_of room_two.0 room_two.1.1) (λ k lt. in_second k
          (below room_two.0 room_two.1.1 k lt))

      stored : Holds owner_rights two x.block (x.start + 8) 8 (encode 8 destroys)
      stored = write_held owner_rights one x.block (x.start + 8) 8 room_two.0 room_two.1.0 owner_rights_fit
          (encode 8 destroys) (length-encode 8 destroys ∙ sym room_two.1.1)

      new_headed : IsHeadedIn g m two x
      new_headed = record {
        destroyer = destroyer;
        stands = standing;
        is = is;
        right = right ∙ sym room.given;
        destroys = stored;
        saved = λ suspend values e. absurd (running (sym new.runs ∙ e));
      }
        where
          running : {suspend : Point} {values : List (Option Value)} → Status.Running ≡ Status.Suspended suspend values → ⊥
          running e = cc

      -- the headers of old frames stand behind each store
      module _ (i : ℕ) (z : Instance) (e : slice_get xs i ≡ Some z) (held' : is_held m z ≡ true) where
        lt : i < length xs
        lt = slice_get_within xs i z e

        other : i ≢ length xs
        other same = let less = lt in omega (arith, less, same)

        got : slice_get more i ≡ Some z
        got = get_more xs x i lt ∙ e

        pub at_first_headed : {given : Bool} → IsHeaded g n given z
            → IsHeaded g (refilled_at n x.block x.start (encode 8 resumes)) given z
        at_first_headed = headed_held g n one z (others_move g more m n before lies (length xs) x (get_new xs x) held
            x.start 8 room_one.0 (encode 8 resumes) room_one.1.0
            (length-encode 8 resumes ∙ sym room_one.1.1) (some_of room_one.0 room_one.1.1) (λ k lt. in_first k
            (below room_one.0 room_one.1.1 k lt)) i z other got held')

        second_headed : {given : Bool} → IsHeaded g one given z → IsHeaded g two given z
        second_headed = headed_held g one two z (others_move g more m one beside_one lies (length xs) x (get_new xs x)
            held (x.start + 8) 8 room_two.0 (encode 8 destroys) room_two.1.0
            (length-encode 8 destroys ∙ sym room_two.1.1) (some_of room_two.0 room_two.1.1) (λ k lt. in_second k
            (below room_two.0 room_two.1.1 k lt)) i z other got held')

        pub at_both_headed : {given : Bool} → IsHeaded g n given z → IsHeaded g
            (with_header_at n x.block x.start resumes (address_of_part g x.coroutine destroyer)) given z
        at_both_headed was = second_headed (at_first_headed was)

      -- the frame is among those that there are
      pub begins_at : BeginsAt g xs x m n resumes destroyer
      begins_at = record {
        old = room_one.0;
        first = room_one.1.0;
        long = room_one.1.1;
        older = room_two.0;
        second = room_two.1.0;
        longer = room_two.1.1;
        beside = beside_two;
        frames = record {
          laid = lies;
          headed = λ i z e held'. more_parted xs x (λ (w : Instance). is_held m w ≡ true → IsHeadedIn g m two w) i z e
              (λ lt f h. at_both_headed i z f h (frames.headed i z f h))
              (λ at f h. subst (IsHeadedIn g m two) (sym f) new_headed) held';
        };
      }
