-- A coroutine begins in a block that an allocator gave: the header is written, and its bytes are closed from then on.
use Rattle.std.proofs.Common.{◌≡◌, ◌≢◌, ℕ, zero, suc, ◌+◌, ◌%◌, ◌<◌, ◌≤◌, ◌⊎◌, inl, inr, ⊎_elim, ◌&&◌, Bool, true, false, not, List, [], ◌∷◌, ◌++◌, length, Option, Some, None, refl, sym, ap, ◌∙◌, subst, arith}
use Rattle.std.specs.Prelude.{slice_get, is_some}
use Rattle.std.proofs.lemmas.Bool.{and_left, and_parts, cases_eq, cases_lt, eqb-true, false≢true, ne_eqb}
use Rattle.std.proofs.lemmas.Option.{slice_get_within}
use Rattle.pass_split_proof.proofs.states.Judged.{control_closed, get_new}
use Rattle.pass_split_proof.proofs.states.Standing.{open_bytes, twins_stand}
use Rattle.pass_split_proof.proofs.states.Twins.{twin_at}
use Rattle.pass_split_proof.proofs.states.Written.{length-changed}
use Rattle.pass_split_proof.specs.states.Begun.{IsFreshBlock}
use Rattle.pass_split_proof.specs.states.Instances.{AreLaidFrames, IsControl, IsLaidOut, LiesAligned, is_held, is_held_in}
use Rattle.pass_split_proof.specs.states.Memories.{AreBeside, AreTwins, AreTwinsAt}
use Rattle.run_access_worked.proofs.Begun.{get_more, judge_more}
use Rattle.pass_proofs.specs.run_framed.Framed.{FramedGiven, covers, frame_rights, is_open_byte, layout_of}
use Rattle.pass_proofs.proofs.run_laws.memory.Written.{changed_elsewhere, changed_here, same_some}
use Rattle.pass_proofs.specs.run_laws.memory.Pointers.{IsByte}
use Rattle.pass_proofs.specs.run_laws.memory.Standing.{IsOpen, byte_of, own_homes}
use Rattle.run_access_worked.proofs.run_laws_worked.Frames.{no_judge}
use Rattle.pass_proofs.specs.run_laws.changed.Changed.{Each}
use Rattle.pass_proofs.specs.run_memory.Memory.{is_live, owned_to, with_block}
use Rattle.pass_proofs.specs.run_memory.declared.block.Byte.{Byte}
use Rattle.pass_proofs.specs.run_memory.declared.block.MemoryBlock.{MemoryBlock}
use Rattle.pass_proofs.specs.run_source.declared.state.Instance.{Instance}

-- ---- no instance lies in it

module _ {A : Type 0} (P : A → Type 0) where
  pub each_got : (xs : List A) → ((i : ℕ) (x : A) → slice_get xs i ≡ Some x → P x) → Each P xs
  each_got [] f = tt
  each_got (x ∷ xs) f = (f 0 x refl, each_got xs (λ i y e. f (suc i) y e))

module _ (g : FramedGiven) (xs : List Instance) (x : Instance) (m n : List MemoryBlock) (u : MemoryBlock) (size : ℕ)
    (there : slice_get m x.block ≡ Some u) (fresh : IsFreshBlock size u) (frames : AreLaidFrames g xs m) where
  elsewhere : (i : ℕ) (z : Instance) → slice_get xs i ≡ Some z → z.block ≢ x.block
  elsewhere i z e same = on z.freed refl
    where
      at : slice_get m z.block ≡ Some u
      at = ap (slice_get m) same ∙ there

      on : (t : Bool) → z.freed ≡ t → ⊥
      on false f = false≢true (sym fresh.unowned ∙ frames.owned i z u e f at fresh.live fresh.kind)
      on true f = false≢true (sym (frames.gone i z u e f at fresh.kind) ∙ fresh.live)

  abbrev more : List Instance
  more = xs ++ x ∷ []

  abbrev source : List MemoryBlock
  source = with_block m x.block (owned_to size)

  -- what is open from now on was open before
  pub opened_before : (b i : ℕ) (y z : MemoryBlock) → IsOpen (frame_rights g more) b y i
      → IsOpen (frame_rights g xs) b z i
  opened_before b i y z opened = on (covers g b i x) refl
    where
      on : (t : Bool) → covers g b i x ≡ t → IsOpen (frame_rights g xs) b z i
      on false e = ap (λ (j : Option (ℕ × Instance)). not (is_open_byte g i j && true)) (sym (judge_more g xs x b i e))
          ∙ opened
      on true e =
          let cover = and_parts _ _ e in
          let front = and_parts _ _ cover.0 in
          let at : x.block ≡ b = eqb-true x.block b front.0 in
          ap (λ (j : Option (ℕ × Instance)). not (is_open_byte g i j && true))
          (no_judge g xs b i (each_got (λ (z : Instance). z.block ≢ b) xs (λ k z f same. elsewhere k z f (same
          ∙ sym at))))

  module _ (beside : AreBeside g xs m n) (laid : IsLaidOut g x.coroutine)
      (sized : (layout_of g.layouts x.coroutine).size ≡ size) (start : x.start ≡ 0) (slots : x.slots ≡ [])
      (unfreed : x.freed ≡ false) where
    owned_at : (c : ℕ) → AreTwinsAt (slice_get source c) (slice_get n c)
    owned_at c = ⊎_elim
        (λ e. subst (λ (k : ℕ). AreTwinsAt (slice_get source k) (slice_get n k)) (sym e)
        (subst (λ o. AreTwinsAt o (slice_get n x.block)) (sym (changed_here m x.block (owned_to size) u there))
        (owned_twin (slice_get n x.block) (subst (λ o. AreTwinsAt o (slice_get n x.block)) there
        (beside.twins.each x.block)))))
        (λ ne. subst (λ o. AreTwinsAt o (slice_get n c)) (sym (changed_elsewhere m x.block c (owned_to size) ne))
        (beside.twins.each c))
        (cases_eq c x.block)
      where
        owned_twin : (o : Option MemoryBlock) → AreTwinsAt (Some u) o → AreTwinsAt (Some (owned_to size u)) o
        owned_twin None t = absurd t
        owned_twin (Some v) t = record { is = t.is; life = t.life; long = t.long; full = t.full; small = t.small; sixteen = t.sixteen }

    pub owned_twins : AreTwins source n
    owned_twins = record { each = owned_at; long = beside.twins.long ∙ sym (length-changed m x.block (owned_to size)) }

    -- a block was there before, but for its owner
    record Before (c : ℕ) (y : MemoryBlock) : Type 0 where
      block : MemoryBlock
      stood : slice_get m c ≡ Some block
      same : y ≡ record block { owned = y.owned }
      owned : is_some block.owned ≡ true → is_some y.owned ≡ true

    before : (c : ℕ) (y : MemoryBlock) → slice_get source c ≡ Some y → Before c y
    before c y e = ⊎_elim
        (λ is.
        let w : owned_to size u ≡ y = same_some (owned_to size u) y
        (sym (changed_here m x.block (owned_to size) u there) ∙ ap (slice_get source) (sym is) ∙ e) in
        record {
          block = u;
          stood = ap (slice_get m) is ∙ there;
          same = subst (λ (z : MemoryBlock). z ≡ record u { owned = z.owned }) w refl;
          owned
              = λ h. ap (λ (z : MemoryBlock). is_some z.owned) (sym w);
        })
        (λ ne.
        let at : slice_get m c ≡ Some y = sym (changed_elsewhere m x.block c (owned_to size) ne) ∙ e in
        record { block = y; stood = at; same = refl; owned = λ h. h })
        (cases_eq c x.block)

    -- an instance is one of the old ones or the new one
    pub parted : (P : Instance → Type 0) (i : ℕ) (z : Instance) → slice_get more i ≡ Some z
        → ((i < length xs) → slice_get xs i ≡ Some z → P z) → (i ≡ length xs → z ≡ x → P z) → P z
    parted P i z e old new = on (cases_lt i (length xs))
      where
        on : (i < length xs) ⊎ (length xs ≤ i) → P z
        on (inl lt) = old lt (sym (get_more xs x i lt) ∙ e)
        on (inr ge) = ⊎_elim
            (λ is. new is (same_some z x (sym e ∙ ap (slice_get more) is ∙ get_new xs x)))
            (λ ne. absurd (past xs x i z e (above i (length xs) ge ne)))
            (cases_eq i (length xs))
          where
            above : (i k : ℕ) → k ≤ i → i ≢ k → k < i
            above i k ge ne = ⊎_elim (λ lt. lt) (λ le. absurd (ne (omega arith))) (cases_lt k i)

            past : (ys : List Instance) (x : Instance) (i : ℕ) (z : Instance) → slice_get (ys ++ x ∷ []) i ≡ Some z
                → length ys < i → ⊥
            past [] x zero z e lt = omega arith
            past [] x (suc i) z e lt = cc
            past (y ∷ ys) x zero z e lt = omega arith
            past (y ∷ ys) x (suc i) z e lt = past ys x i z e (omega arith)

    same_life : (c : ℕ) (y : MemoryBlock) → Before c y → is_live y.life ≡ true → (z : MemoryBlock)
        × ((slice_get m c ≡ Some z) × (is_live z.life ≡ true))
    same_life c y w live = (w.block, (w.stood, sym (ap (λ (z : MemoryBlock). is_live z.life) w.same) ∙ live))

    -- an old frame is held as before
    pub old_held : (i : ℕ) (z : Instance) → slice_get xs i ≡ Some z → is_held source z ≡ is_held m z
    old_held i z e = ap (λ (o : Option MemoryBlock). is_held_in o z) (changed_elsewhere m x.block z.block
        (owned_to size) (elsewhere i z e))

    new_lies : (y : MemoryBlock) → slice_get source x.block ≡ Some y → LiesAligned g x y
    new_lies y e =
        let w : owned_to size u ≡ y = same_some (owned_to size u) y
        (sym (changed_here m x.block (owned_to size) u there) ∙ e) in
        let t = twin_at m n beside.twins x.block u there in
        let sixteen : y.align ≡ 16 = sym (ap (λ (z : MemoryBlock). z.align) w) ∙ t.is.sixteen fresh.kind in
        record {
          alignment = laid.alignment;
          block = small (layout_of g.layouts x.coroutine).align y.align laid.alignment sixteen;
          inside = within x.start (layout_of g.layouts x.coroutine).size size u.size y.size start sized fresh.room
              (sym (ap (λ (z : MemoryBlock). z.size) w));
          start = subst (λ (s : ℕ). s % (layout_of g.layouts x.coroutine).align ≡ 0) (sym start)
              (zero_divides (layout_of g.layouts x.coroutine).align laid.alignment);
        }
      where
        small : (a k : ℕ) → (a ≡ 8) ⊎ (a ≡ 16) → k ≡ 16 → a ≤ k
        small a k (inl e) f = omega arith
        small a k (inr e) f = omega arith

        within : (s l k a b : ℕ) → s ≡ 0 → l ≡ k → k ≤ a → b ≡ a → s + l ≤ b
        within s l k a b e f le h = omega arith

        zero_divides : (a : ℕ) → (a ≡ 8) ⊎ (a ≡ 16) → 0 % a ≡ 0
        zero_divides a (inl e) = subst (λ (k : ℕ). 0 % k ≡ 0) (sym e) refl
        zero_divides a (inr e) = subst (λ (k : ℕ). 0 % k ≡ 0) (sym e) refl

    old_lies : (i : ℕ) (z : Instance) (y : MemoryBlock) → slice_get xs i ≡ Some z → slice_get source z.block ≡ Some y
        → LiesAligned g z y
    old_lies i z y e at
        = frames.lies i z y e (sym (changed_elsewhere m x.block z.block (owned_to size) (elsewhere i z e)) ∙ at)

    old_closed : (i : ℕ) (z : Instance) (y : MemoryBlock) (at : ℕ) → slice_get xs i ≡ Some z → is_held source z ≡ true
        → IsControl g z z.block at → (frame_rights g more).is_closed z.block y at 1 ≡ true
    old_closed i z y at e held control =
        ap (λ (j : Option (ℕ × Instance)). not (is_open_byte g at j && true)) (judge_more g xs x z.block at
        (and_left _ _ (and_left _ _ (ne_eqb x.block z.block (λ same. elsewhere i z e (sym same))))))
        ∙ frames.closed i z y at e (sym (old_held i z e) ∙ held) control

    new_owned : (y : MemoryBlock) → slice_get source x.block ≡ Some y → is_some y.owned ≡ true
    new_owned y e
        = ap (λ (z : MemoryBlock). is_some z.owned)
        (sym (same_some (owned_to size u) y (sym (changed_here m x.block (owned_to size) u there) ∙ e)))

    old_apart : (i : ℕ) (z : Instance) (at : ℕ) → slice_get xs i ≡ Some z → (block : ℕ) → IsControl g z block at
        → IsControl g x block at → ⊥
    old_apart i z at e block c d = elsewhere i z e (c.0 ∙ sym d.0)

    -- the frames are laid, that of the new instance among them
    pub laid_more : AreLaidFrames g more source
    laid_more = record {
      known = λ i z e. parted (λ (w : Instance). w.block < length source) i z e
          (λ lt f. subst (λ (k : ℕ). z.block < k) (sym (length-changed m x.block (owned_to size))) (frames.known i z f))
          (λ is f. subst (λ (w : Instance). w.block < length source) (sym f) (subst (λ (k : ℕ). x.block < k)
          (sym (length-changed m x.block (owned_to size))) (slice_get_within m x.block u there)));
      slots = λ i z e. parted (λ (w : Instance). w.slots ≡ []) i z e (λ lt f. frames.slots i z f)
          (λ is f. ap (λ (w : Instance). w.slots) f ∙ slots);
      owned = λ i z y e unfreed' at live kind. parted (λ (w : Instance). w.block ≡ z.block
          → is_some y.owned ≡ true) i z e
          (λ lt f same. let w = before z.block y at
          in w.owned (frames.owned i z w.block f unfreed' w.stood
          (sym (ap (λ (q : MemoryBlock). is_live q.life) w.same)
          ∙ live) (sym (ap (λ (q : MemoryBlock). q.kind) w.same) ∙ kind)))
          (λ is f same. new_owned y (ap (slice_get source) (sym (ap (λ (w : Instance). w.block) f)) ∙ at)) refl;
      gone = λ i z y e freed at kind. parted (λ (w : Instance). w.freed ≡ true → is_live y.life ≡ false) i z e
          (λ lt f freed'. let w = before z.block y at in ap (λ (q : MemoryBlock). is_live q.life) w.same
          ∙ frames.gone i z w.block f freed w.stood (sym (ap (λ (q : MemoryBlock). q.kind) w.same) ∙ kind))
          (λ is f freed'. absurd (false≢true (sym unfreed ∙ sym (ap (λ (w : Instance). w.freed) f) ∙ freed))) freed;
      lies = λ i z y e at. parted (λ (w : Instance). slice_get source w.block ≡ Some y → LiesAligned g w y) i z e
          (λ lt f at'. old_lies i z y f at')
          (λ is f. subst (λ (w : Instance). slice_get source w.block ≡ Some y → LiesAligned g w y) (sym f)
          (new_lies y)) at;
      closed = λ i z y at e held control. parted (λ (w : Instance). is_held source w ≡ true → IsControl g w w.block at
          → (frame_rights g more).is_closed w.block y at 1 ≡ true) i z e
          (λ lt f. old_closed i z y at f)
          (λ is f. subst (λ (w : Instance). is_held source w ≡ true → IsControl g w w.block at
          → (frame_rights g more).is_closed w.block y at 1 ≡ true) (sym f)
          (λ h c. control_closed g xs x laid y at c)) held control;
      apart = λ i j z w at ne e f held held' c d. parted (λ (p : Instance). IsControl g p z.block at → ⊥) i z e
          (λ lt e' c'. parted (λ (q : Instance). IsControl g q z.block at → ⊥) j w f
          (λ lt' f' d'. frames.apart i j z w at ne e' f' (sym (old_held i z e') ∙ held) (sym (old_held j w f')
          ∙ held') c d)
          (λ is' f' d'. old_apart i z at e' z.block c (subst (λ (q : Instance). IsControl g q z.block at) f' d')) d)
          (λ is e' c'. parted (λ (q : Instance). IsControl g q z.block at → ⊥) j w f
          (λ lt' f' d'. old_apart j w at f' z.block d (subst (λ (q : Instance). IsControl g q z.block at) e' c'))
          (λ is' f' d'. ne (is ∙ sym is')) d) c;
    }

    -- the memories stand beside each other, by the new frame's rights
    pub begun_beside : AreBeside g more source n
    begun_beside = record {
      twins = owned_twins;
      stands = twins_stand g more source n owned_twins laid_more.lies (λ b i y v e f live lt opened.
          let w = before b y e in
          let l = sym (ap (λ (q : MemoryBlock). is_live q.life) w.same) ∙ live in
          let size' : y.size ≡ w.block.size = ap (λ (q : MemoryBlock). q.size) w.same in
          let bytes : byte_of w.block i ≡ byte_of y i = sym (ap (λ (q : MemoryBlock). byte_of q i) w.same) in
          let lt' : i < w.block.size = subst (λ (k : ℕ). i < k) size' lt in
          subst (λ (p : ℕ × Byte). IsByte (own_homes 0 p.0) p.1 (byte_of v i))
          (λ j. (sym (length-changed m x.block (owned_to size)) j, bytes j))
          (open_bytes g xs m n beside.stands b i w.block v w.stood f l lt' (opened_before b i y w.block opened)));
    }
