-- The header of a coroutine that begins is stored, and the memories stand beside each other.
use Rattle.std.proofs.Common.{◌≡◌, ◌≢◌, ℕ, ◌+◌, ◌%◌, ◌<◌, ◌≤◌, ◌⊎◌, inl, inr, Bool, true, false, not, List, [], ◌∷◌, ◌++◌, length, Option, Some, refl, sym, ap, ◌∙◌, subst, arith, ◌||◌, ◌==◌}
use Rattle.std.specs.Prelude.{slice_get}
use Rattle.std.proofs.lemmas.Bool.{and_from, and_right, eq-eqb}
use Rattle.pass_proofs.specs.ir_paths.declared.point.Point.{Point}
use Rattle.pass_proofs.specs.pass_intrinsics.declared.shape.Part.{Part}
use Rattle.pass_split_proof.proofs.states.Begun.{begun_beside, laid_more, old_held, parted}
use Rattle.pass_split_proof.proofs.states.Closed.{headed_held, headed_on}
use Rattle.pass_split_proof.proofs.states.Controls.{control_beside, others_move}
use Rattle.pass_split_proof.proofs.states.Judged.{get_new}
use Rattle.pass_split_proof.proofs.states.SameKind.{given_kept}
use Rattle.pass_split_proof.proofs.states.Twins.{twin_at}
use Rattle.pass_split_proof.proofs.states.Written.{range_holds}
use Rattle.pass_split_proof.specs.states.Begun.{BeginsIn, IsFreshBlock, IsNewInstance, with_header}
use Rattle.pass_split_proof.specs.states.Instances.{AreFrames, AreLaidFrames, IsControl, IsHeaded, IsHeadedIn, IsLaidOut, StandsThere, address_of_part, is_destroyer, is_given_in, is_held, lives_in}
use Rattle.pass_split_proof.specs.code.Positions.{is_given}
use Rattle.pass_split_proof.specs.states.Memories.{AreBeside}
use Rattle.pass_proofs.specs.run_framed.Framed.{FramedGiven, layout_of}
use Rattle.pass_proofs.proofs.run_laws.access.Ranges.{write_held}
use Rattle.pass_proofs.proofs.run_laws.memory.Itself.{owner_rights_fit}
use Rattle.pass_proofs.proofs.run_laws.memory.Written.{changed_here}
use Rattle.pass_proofs.specs.run_laws.access.Lines.{Holds, refilled_at}
use Rattle.pass_proofs.specs.run_laws.memory.Standing.{IsAlignment}
use Rattle.pass_proofs.proofs.run_memory.Digits.{length-encode}
use Rattle.pass_proofs.specs.run_memory.Memory.{encode, owned_to, owner_rights, same_kind, with_block}
use Rattle.pass_proofs.specs.run_memory.declared.block.Byte.{Byte}
use Rattle.pass_proofs.specs.run_memory.declared.block.Kind.{Kind}
use Rattle.pass_proofs.specs.run_memory.declared.block.MemoryBlock.{MemoryBlock}
use Rattle.pass_proofs.specs.run_memory.declared.pointer.Value.{Value}
use Rattle.pass_proofs.specs.run_source.State.{is_finished}
use Rattle.run_access_worked.proofs.Begun.{get_more}
use Rattle.std.proofs.lemmas.Option.{slice_get_within}
use Rattle.pass_proofs.specs.run_source.declared.state.Instance.{Instance}
use Rattle.pass_proofs.specs.run_source.declared.state.Status.{Status}

-- 8 is met up to 8, from the start and from 8 on
small_alignments : (a k : ℕ) → IsAlignment a → a ≤ 8 → k ≡ 16 → (0 % a ≡ 0) × ((8 % a ≡ 0) × (a ≤ k))
small_alignments a k (inl e) le big = subst (λ (c : ℕ). (0 % c ≡ 0) × ((8 % c ≡ 0) × (c ≤ k))) (sym e)
    (refl, (refl, omega arith))
small_alignments a k (inr (inl e)) le big = subst (λ (c : ℕ). (0 % c ≡ 0) × ((8 % c ≡ 0) × (c ≤ k))) (sym e)
    (refl, (refl, omega arith))
small_alignments a k (inr (inr (inl e))) le big = subst (λ (c : ℕ). (0 % c ≡ 0) × ((8 % c ≡ 0) × (c ≤ k))) (sym e)
    (refl, (refl, omega arith))
small_alignments a k (inr (inr (inr (inl e)))) le big = subst (λ (c : ℕ). (0 % c ≡ 0) × ((8 % c ≡ 0) × (c ≤ k)))
    (sym e) (refl, (refl, omega arith))
small_alignments a k (inr (inr (inr (inr e)))) le big = absurd (omega arith)

module _ (g : FramedGiven) (xs : List Instance) (x : Instance) (m n : List MemoryBlock) (u : MemoryBlock) (size : ℕ)
    (there : slice_get m x.block ≡ Some u) (fresh : IsFreshBlock size u) (frames : AreFrames g xs m n)
    (beside : AreBeside g xs m n)
    (laid : IsLaidOut g x.coroutine) (sized : (layout_of g.layouts x.coroutine).size ≡ size) (new : IsNewInstance x)
    (roomy : 16 ≤ u.size) (resumes : Value) (destroyer : Part) (is : is_destroyer destroyer ≡ true)
    (standing : StandsThere g x.coroutine destroyer) (own : is_given destroyer ≡ false) where
  abbrev more : List Instance
  more = xs ++ x ∷ []

  abbrev source : List MemoryBlock
  source = with_block m x.block (owned_to size)

  abbrev destroys : Value
  destroys = address_of_part g x.coroutine destroyer

  abbrev one : List MemoryBlock
  one = refilled_at n x.block 0 (encode 8 resumes)

  abbrev two : List MemoryBlock
  two = with_header n x.block resumes destroys

  lies : AreLaidFrames g more source
  lies = laid_more g xs x m n u size there fresh frames.laid beside laid sized new.start new.slots new.unfreed

  before : AreBeside g more source n
  before = begun_beside g xs x m n u size there fresh frames.laid beside laid sized new.start new.slots new.unfreed

  owned_there : slice_get source x.block ≡ Some (owned_to size u)
  owned_there = changed_here m x.block (owned_to size) u there

  held : is_held source x ≡ true
  held = and_from _ _ (ap not new.unfreed) (and_from _ _ (ap not (and_right _ _ (ap is_finished new.runs)))
      (ap lives_in owned_there ∙ fresh.live))

  sixteen : u.align ≡ 16
  sixteen = (twin_at m n beside.twins x.block u there).is.sixteen fresh.kind

  changes : same_kind u.kind Kind.Constant ≡ false
  changes = ap (λ (k : Kind). same_kind k Kind.Constant) fresh.kind

  -- the first pointer
  room_one : (bytes : List Byte) × (Holds owner_rights n x.block 0 8 bytes × (length bytes ≡ 8))
  room_one = range_holds source n before.twins x.block (owned_to size u) owned_there fresh.live changes 0 8 8
      (low u.size roomy) (λ a is le. let h = small_alignments a u.align is le sixteen in (h.0, h.1.1))
    where
      low : (k : ℕ) → 16 ≤ k → 0 + 8 ≤ k
      low k le = omega arith

  in_header : (o : ℕ) → (o ≡ 0) ⊎ (o ≡ 8) → (k : ℕ) → k < 8 → IsControl g x x.block (o + k)
  in_header o at k lt = (refl, inl (from o k x.start new.start, to o k x.start at lt))
    where
      from : (o k s : ℕ) → s ≡ 0 → s ≤ o + k
      from o k s e = omega arith

      to : (o k s : ℕ) → (o ≡ 0) ⊎ (o ≡ 8) → k < 8 → o + k < s + 16
      to o k s (inl e) lt = omega arith
      to o k s (inr e) lt = omega arith

  some_of : (bytes : List Byte) → length bytes ≡ 8 → 0 < length bytes
  some_of bytes e = omega arith

  below : (bytes : List Byte) → length bytes ≡ 8 → (k : ℕ) → k < length bytes → k < 8
  below bytes e k lt = omega arith

  beside_one : AreBeside g more source one
  beside_one = control_beside g more source n before lies (length xs) x (get_new xs x) held 0 8 room_one.0
      (encode 8 resumes) room_one.1.0
      (length-encode 8 resumes ∙ sym room_one.1.1) (some_of room_one.0 room_one.1.1) (λ k lt. in_header 0 (inl refl) k
      (below room_one.0 room_one.1.1 k lt))

  -- and the second
  room_two : (bytes : List Byte) × (Holds owner_rights one x.block 8 8 bytes × (length bytes ≡ 8))
  room_two = range_holds source one beside_one.twins x.block (owned_to size u) owned_there fresh.live changes 8 8 8
      (high u.size roomy) (λ a is le. let h = small_alignments a u.align is le sixteen in (h.1.0, h.1.1))
    where
      high : (k : ℕ) → 16 ≤ k → 8 + 8 ≤ k
      high k le = omega arith

  beside_two : AreBeside g more source two
  beside_two = control_beside g more source one beside_one lies (length xs) x (get_new xs x) held 8 8 room_two.0
      (encode 8 destroys) room_two.1.0
      (length-encode 8 destroys ∙ sym room_two.1.1) (some_of room_two.0 room_two.1.1) (λ k lt. in_header 8 (inr refl) k
      (below room_two.0 room_two.1.1 k lt))

  stored : Holds owner_rights two x.block (x.start + 8) 8 (encode 8 destroys)
  stored = subst (λ (o : ℕ). Holds owner_rights two x.block o 8 (encode 8 destroys)) (start x.start new.start)
      (write_held owner_rights one x.block 8 8 room_two.0 room_two.1.0 owner_rights_fit (encode 8 destroys)
      (length-encode 8 destroys ∙ sym room_two.1.1))
    where
      start : (s : ℕ) → s ≡ 0 → 8 ≡ s + 8
      start s e = omega arith

  -- the frame wasn't given
  ungiven : is_given_in (slice_get source x.block) x ≡ false
  ungiven = ap (λ (o : Option MemoryBlock). is_given_in o x) owned_there
      ∙ ap (λ (k : Kind). same_kind k Kind.Stack || not (x.start == 0)) fresh.kind ∙ ap not (eq-eqb x.start 0
      new.start)

  new_headed : IsHeadedIn g source two x
  new_headed = record {
    destroyer = destroyer;
    stands = standing;
    is = is;
    right = own ∙ sym ungiven;
    destroys = stored;
    saved = λ suspend values e. absurd
        (runs (sym new.runs ∙ e));
  }
    where
      runs : {suspend : Point} {values : List (Option Value)} → Status.Running ≡ Status.Suspended suspend values → ⊥
      runs e = cc

  -- the headers of old frames stand behind each store
  module _ (i : ℕ) (z : Instance) (e : slice_get xs i ≡ Some z) where
    lt : i < length xs
    lt = slice_get_within xs i z e

    other : i ≢ length xs
    other same = let less = lt in omega (arith, less, same)

    got : slice_get more i ≡ Some z
    got = get_more xs x i lt ∙ e

    held_before : is_held source z ≡ is_held m z
    held_before = old_held g xs x m n u size there fresh frames.laid beside laid sized new.start new.slots
        new.unfreed i
        z e

    first_headed : {given : Bool} → is_held source z ≡ true → IsHeaded g n given z → IsHeaded g one given z
    first_headed held' = headed_held g n one z (others_move g more source n before lies (length xs) x (get_new xs
        x) held
        0 8 room_one.0 (encode 8 resumes) room_one.1.0
        (length-encode 8 resumes ∙ sym room_one.1.1) (some_of room_one.0 room_one.1.1) (λ k lt. in_header 0 (inl
        refl) k
        (below room_one.0 room_one.1.1 k lt)) i z other got held')

    second_headed : {given : Bool} → is_held source z ≡ true → IsHeaded g one given z → IsHeaded g two given z
    second_headed held' = headed_held g one two z (others_move g more source one beside_one lies (length xs) x
        (get_new xs x) held 8 8 room_two.0 (encode 8 destroys) room_two.1.0
        (length-encode 8 destroys ∙ sym room_two.1.1) (some_of room_two.0 room_two.1.1) (λ k lt. in_header 8 (inr
        refl) k
        (below room_two.0 room_two.1.1 k lt)) i z other got held')

    old_headed : is_held source z ≡ true → IsHeadedIn g source two z
    old_headed held' = second_headed held' (first_headed held'
        (headed_on g m source n z (given_kept (owned_to size) (λ y. refl) m x.block z.block z)
        (frames.headed i z e (sym held_before ∙ held'))))

    pub headed_by_first : is_held m z ≡ true → IsHeadedIn g m (refilled_at n x.block 0 (encode 8 resumes)) z
    headed_by_first h = first_headed (held_before ∙ h) (frames.headed i z e h)

    pub headed_by_both : is_held m z ≡ true
        → IsHeadedIn g m (with_header n x.block resumes (address_of_part g x.coroutine destroyer)) z
    headed_by_both h = second_headed (held_before ∙ h) (first_headed (held_before ∙ h) (frames.headed i z e h))

  -- the frame is among those that there are
  pub begins : BeginsIn g xs x source n resumes destroyer
  begins = record {
    old = room_one.0;
    first = room_one.1.0;
    long = room_one.1.1;
    older = room_two.0;
    second = room_two.1.0;
    longer = room_two.1.1;
    beside = beside_two;
    frames = record {
      laid = lies;
      headed = λ i z e held'. parted g xs x m n u size there fresh frames.laid beside laid sized new.start new.slots
          new.unfreed (λ (w : Instance). is_held source w ≡ true → IsHeadedIn g source two w) i z e
          (λ lt f h. old_headed i z f h)
          (λ at f h. subst (IsHeadedIn g source two) (sym f) new_headed) held';
    };
  }
