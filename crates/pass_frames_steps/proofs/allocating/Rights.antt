-- Slots in a frame: what may be done with them in the source may be done with their bytes of the frame.
use Rattle.std.proofs.Common.{◌≡◌, ◌≢◌, ◌+◌, ◌-◌, ◌<◌, ◌≤◌, ◌^◌, ◌%◌, ◌&&◌, ◌||◌, ◌==◌, ◌∷◌, ◌∙◌, [], if◌then◌else◌, Bool, List, ap, arith, false, inl, inr, length, not, refl, subst, suc, sym, true, zero, ℕ}
use Rattle.std.proofs.lemmas.Bool.{and_from, and_parts, le-leb, leb-true, lt-ltb}
use Rattle.std.specs.List.{list_any}
use Rattle.std.specs.Prelude.{None, Option, Some, nat_le, option_and_then, option_map, slice_get}
use Rattle.pass_frames_code.specs.frame_layout.declared.layout.Layout.{Layout}
use Rattle.pass_frames_code.specs.frame_layout.declared.layout.PlacedField.{PlacedField}
use Rattle.pass_frames_code.specs.Slotted.{IsSlotField}
use Rattle.pass_frames_code.specs.run_framed.Framed.{FramedGiven, covers, field_opens, frame_rights, is_open, is_open_byte, judge_of, layout_of, meets_in}
use Rattle.pass_frames_code.specs.run_laws.changed.Changed.{Each}
use Rattle.pass_frames_code.specs.run_laws.memory.Standing.{HasRights, IsAlignment}
use Rattle.pass_frames_code.specs.run_laws.transfer.Places.{HasRoom}
use Rattle.pass_frames_code.proofs.run_access_worked.run_laws_worked.Frames.{no_judge}
use Rattle.pass_frames_code.specs.run_memory.Memory.{is_live, may_compare_at, owner_rights, same_kind}
use Rattle.pass_frames_code.specs.run_memory.declared.block.Kind.{Kind}
use Rattle.pass_frames_code.specs.run_memory.declared.block.MemoryBlock.{MemoryBlock}
use Rattle.pass_frames_code.specs.run_memory.declared.pointer.Offset.{Offset}
use Rattle.pass_frames_code.specs.run_source.State.{last_from, numbered, or_else}
use Rattle.pass_frames_code.specs.run_source.declared.state.Instance.{Instance}

-- ---- frames let all pointers be compared

pub frames_compare : (g : FramedGiven) (ys : List Instance) (c : ℕ) (x : Option MemoryBlock) (o : Offset)
    → may_compare_at (frame_rights g ys) c x o ≡ true
frames_compare g ys c None o = refl
frames_compare g ys c (Some x) o = either (is_live x.life)
  where
    either : (b : Bool) → (not b || true) ≡ true
    either true = refl
    either false = refl

-- ---- the one instance that has the byte

none_last : (test : Instance → Bool) (i : ℕ) (xs : List Instance)
    → ((j : ℕ) (z : Instance) → slice_get xs j ≡ Some z → test z ≡ true → ⊥) → last_from test i xs ≡ None
none_last test i [] none = refl
none_last test i (x ∷ xs) none =
    λ k. or_else (none_last test (suc i) xs (λ j z e. none (suc j) z e) k) (if fails (test x) refl k then Some i else None)
  where
    fails : (c : Bool) → test x ≡ c → test x ≡ false
    fails true e = absurd (none 0 x refl e)
    fails false e = e

last_only : (test : Instance → Bool) (i k : ℕ) (xs : List Instance) (x : Instance) → slice_get xs k ≡ Some x
    → test x ≡ true → ((j : ℕ) (z : Instance) → slice_get xs j ≡ Some z → test z ≡ true → j ≡ k)
    → last_from test i xs ≡ Some (i + k)
last_only test i k [] x e holds only = absurd (cc)
last_only test i zero (y ∷ xs) x e holds only =
    let same : y ≡ x = cc in
    let next : i ≡ i + 0 = omega arith in
    (λ j. or_else (none_last test (suc i) xs (λ a z f h. later a (only (suc a) z f h)) j)
    (if here same j then Some i else None)) ∙ ap Some next
  where
    here : y ≡ x → test y ≡ true
    here same = ap test same ∙ holds

    later : (a : ℕ) → suc a ≡ 0 → ⊥
    later a f = omega (arith, f)
last_only test i (suc k) (y ∷ xs) x e holds only =
    ap (λ (o : Option ℕ). or_else o (if test y then Some i else None))
    (last_only test (suc i) k xs x e holds (λ j z f h. less j k (only (suc j) z f h)))
    ∙ (let next : suc i + k ≡ i + suc k = omega arith in ap Some next)
  where
    less : (j k : ℕ) → suc j ≡ suc k → j ≡ k
    less j k f = omega (arith, f)

any_here : (test : PlacedField → Bool) (fields : List PlacedField) (k : ℕ) (y : PlacedField)
    → slice_get fields k ≡ Some y → test y ≡ true → list_any test fields ≡ true
any_here test [] k y e holds = absurd (cc)
any_here test (z ∷ fields) zero y e holds =
    let same : z ≡ y = cc in ap (λ (c : Bool). c || list_any test fields) (ap test same ∙ holds)
any_here test (z ∷ fields) (suc k) y e holds =
    ap (λ (c : Bool). test z || c) (any_here test fields k y e holds) ∙ either (test z)
  where
    either : (c : Bool) → (c || true) ≡ true
    either true = refl
    either false = refl

module _ (g : FramedGiven) (ys : List Instance) (i : ℕ) (y : Instance) (there : slice_get ys i ≡ Some y)
    (alone : (j : ℕ) (z : Instance) → slice_get ys j ≡ Some z → z.block ≡ y.block → j ≡ i) where
  abbrev l : Layout
  l = layout_of g.layouts y.coroutine

  same_block : (a c : ℕ) → (a == c) ≡ true → a ≡ c
  same_block a c e = grind arith

  pub judged : (k : ℕ) → k < l.size → judge_of g ys y.block (y.start + k) ≡ Some (i, y)
  judged k lt =
      ap (option_and_then (numbered ys))
      (last_only (covers g y.block (y.start + k)) 0 i ys y there covered
      (λ j z e holds. alone j z e (same_block z.block y.block (and_parts _ _ (and_parts _ _ holds).0).0)))
      ∙ ap (numbered ys) start
      ∙ ap (option_map (λ (z : Instance). (i, z))) there
    where
      start : 0 + i ≡ i
      start = omega arith

      itself : (y.block == y.block) ≡ true
      itself = grind arith

      covered : covers g y.block (y.start + k) y ≡ true
      covered =
          and_from _ _ (and_from _ _ itself (le-leb y.start (y.start + k) (omega arith)))
          (lt-ltb (y.start + k) (y.start + l.size) (omega (arith, lt)))

  module _ (d size align : ℕ) (field : IsSlotField l d size align) where
    opens_at : (o : ℕ) → o < size → is_open_byte g (y.start + (d + o)) (judge_of g ys y.block (y.start + (d + o))) ≡ true
    opens_at o lt =
        let within = field.inside in
        ap (is_open_byte g (y.start + (d + o))) (judged (d + o) (omega (arith, within, lt)))
        ∙ any_here (field_opens ((y.start + (d + o)) - y.start)) l.fields field.number field.field field.there
        (subst (λ (k : ℕ). field_opens k field.field ≡ true) (sym (from_start y.start (d + o))) opened)
      where
        from_start : (a k : ℕ) → (a + k) - a ≡ k
        from_start a k = omega arith

        opened : field_opens (d + o) field.field ≡ true
        opened =
            let from = field.from in
            let to = field.to in
            and_from _ _ (and_from _ _ field.opened (le-leb field.field.offset (d + o) (omega (arith, from))))
            (lt-ltb (d + o) (field.field.offset + field.field.size) (omega (arith, to, lt)))

    all_open : (k len : ℕ) → (n : ℕ) → n ≡ y.start + (d + k) → k + len ≤ size → is_open g ys y.block n len ≡ true
    all_open k zero n e le = refl
    all_open k (suc len) n e le =
        λ j. (subst (λ (a : ℕ). is_open_byte g a (judge_of g ys y.block a) ≡ true) (sym e)
        (opens_at k (omega (arith, le))) j) && (all_open (k + 1) len (n + 1) (next n y.start d k e) (omega (arith, le)) j)
      where
        next : (n s d k : ℕ) → n ≡ s + (d + k) → n + 1 ≡ s + (d + (k + 1))
        next n s d k e = omega (arith, e)

    divides : (a o : ℕ) → IsAlignment a → d % a ≡ 0 → o % a ≡ 0 → (d + o) % a ≡ 0
    divides a o (inl e) p q = subst (λ (a : ℕ). (d + o) % a ≡ 0) (sym e) (omega arith)
    divides a o (inr (inl e)) p q =
        subst (λ (a : ℕ). d % a ≡ 0 → o % a ≡ 0 → (d + o) % a ≡ 0) (sym e) (λ u v. two d o u v) p q
      where
        two : (d o : ℕ) → d % 2 ≡ 0 → o % 2 ≡ 0 → (d + o) % 2 ≡ 0
        two d o u v = omega (arith, u, v)
    divides a o (inr (inr (inl e))) p q =
        subst (λ (a : ℕ). d % a ≡ 0 → o % a ≡ 0 → (d + o) % a ≡ 0) (sym e) (λ u v. four d o u v) p q
      where
        four : (d o : ℕ) → d % 4 ≡ 0 → o % 4 ≡ 0 → (d + o) % 4 ≡ 0
        four d o u v = omega (arith, u, v)
    divides a o (inr (inr (inr (inl e)))) p q =
        subst (λ (a : ℕ). d % a ≡ 0 → o % a ≡ 0 → (d + o) % a ≡ 0) (sym e) (λ u v. eight d o u v) p q
      where
        eight : (d o : ℕ) → d % 8 ≡ 0 → o % 8 ≡ 0 → (d + o) % 8 ≡ 0
        eight d o u v = omega (arith, u, v)
    divides a o (inr (inr (inr (inr e)))) p q =
        subst (λ (a : ℕ). d % a ≡ 0 → o % a ≡ 0 → (d + o) % a ≡ 0) (sym e) (λ u v. sixteen d o u v) p q
      where
        sixteen : (d o : ℕ) → d % 16 ≡ 0 → o % 16 ≡ 0 → (d + o) % 16 ≡ 0
        sixteen d o u v = omega (arith, u, v)

    is_zero : (n : ℕ) → (n == 0) ≡ true → n ≡ 0
    is_zero n e = grind arith

    zero_is : (n : ℕ) → n ≡ 0 → (n == 0) ≡ true
    zero_is n e = grind arith

    met : (z : MemoryBlock) (o a : ℕ) → o < size → IsAlignment a → d % a ≡ 0 → o % a ≡ 0 → a ≤ l.align
        → meets_in g z (y.start + (d + o)) a (judge_of g ys y.block (y.start + (d + o))) ≡ true
    met z o a lt is p q le =
        let within = field.inside in
        ap (meets_in g z (y.start + (d + o)) a) (judged (d + o) (omega (arith, within, lt)))
        ∙ and_from _ _ (zero_is (((y.start + (d + o)) - y.start) % a)
        (ap (λ (k : ℕ). k % a) (from_start y.start (d + o)) ∙ divides a o is p q)) (le-leb a l.align le)
      where
        from_start : (a k : ℕ) → (a + k) - a ≡ k
        from_start a k = omega arith

    -- what may be done with a slot of that size and alignment may be done there
    pub slot_rights : (n : ℕ) (x z : MemoryBlock) (seen : Bool) → x.size ≡ size → x.align ≡ align
        → HasRights owner_rights (frame_rights g ys) (record { block = y.block; offset = y.start + d; is_seen = seen }) n x z
    slot_rights n x z seen sized even = record {
      opens = λ o len le e.
          ap not (all_open o len ((y.start + d) + o) (shifted y.start d o) (subst (λ (k : ℕ). o + len ≤ k) sized le));
      aligned = λ o len a pos le e is met_there.
          let parts = and_parts _ _ met_there in
          let low : a ≤ x.align = leb-true a x.align parts.1 in
          let most : a ≤ align = subst (λ (k : ℕ). a ≤ k) even low in
          let up = field.in_aligned in
          let lt : o < size = subst (λ (k : ℕ). o < k) sized (omega (arith, pos, le)) in
          subst (λ (k : ℕ). meets_in g z k a (judge_of g ys y.block k) ≡ true) (sym (shifted y.start d o))
          (met z o a lt is (field.aligned a is most) (is_zero (o % a) parts.0) (omega (arith, most, up)));
      comparable = λ o le e. refl;
    }
      where
        shifted : (s d o : ℕ) → (s + d) + o ≡ s + (d + o)
        shifted s d o = omega arith

-- ---- where no frame is

module _ (g : FramedGiven) (ys : List Instance) (B : ℕ) (none : Each (λ (y : Instance). y.block ≢ B) ys) where
  all_outside : (o len : ℕ) → is_open g ys B o len ≡ true
  all_outside o zero = refl
  all_outside o (suc len) = λ j. is_open_byte g o (no_judge g ys B o none j) && all_outside (o + 1) len j

  -- what may be done with a block may be done there with one of its alignment
  pub outside_rights : (n : ℕ) (x z : MemoryBlock) (seen : Bool) → z.align ≡ x.align
      → HasRights owner_rights (frame_rights g ys) (record { block = B; offset = 0; is_seen = seen }) n x z
  outside_rights n x z seen same = record {
    opens = λ o len le e. ap not (all_outside (0 + o) len);
    aligned = λ o len a pos le e is met.
        ap (meets_in g z (0 + o) a) (no_judge g ys B (0 + o) none)
        ∙ (λ j. (start o j % a == 0) && nat_le a (same j)) ∙ met;
    comparable = λ o le e. refl;
  }
    where
      start : (o : ℕ) → 0 + o ≡ o
      start o = omega arith

-- ---- a slot in a frame

module _ (g : FramedGiven) (ys : List Instance) (i : ℕ) (y : Instance) (there : slice_get ys i ≡ Some y)
    (alone : (j : ℕ) (z : Instance) → slice_get ys j ≡ Some z → z.block ≡ y.block → j ≡ i)
    (target : List MemoryBlock) (z : MemoryBlock) (z_there : slice_get target y.block ≡ Some z)
    (live : is_live z.life ≡ true) (whole : length z.bytes ≡ z.size) (small : z.size < 2 ^ 64)
    (writable : same_kind z.kind Kind.Constant ≡ false)
    (fits : y.start + (layout_of g.layouts y.coroutine).size ≤ z.size) where
  -- the frame has room for it
  pub frame_room : (d size align : ℕ) → IsSlotField (layout_of g.layouts y.coroutine) d size align → (n : ℕ)
      (v : MemoryBlock) → v.size ≡ size → v.align ≡ align → (seen : Bool)
      → HasRoom owner_rights (frame_rights g ys) target
      (record { block = y.block; offset = y.start + d; is_seen = seen }) n v
  frame_room d size align field n v sized even seen = record {
    block = z;
    there = z_there;
    live = live;
    whole = whole;
    fits = let within = field.inside in omega (arith, within, fits, sized);
    small = small;
    writable = λ e. writable;
    allowed = slot_rights g ys i y there alone d size align field n v z seen sized even;
  }
