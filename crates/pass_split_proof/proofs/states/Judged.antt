-- What the rights of frames say of the frame that begins last, and that frames are aligned as their blocks.
use Rattle.std.proofs.Common.{◌≡◌, ℕ, suc, ◌+◌, ◌-◌, ◌<◌, ◌≤◌, ◌⊎◌, inl, inr, ⊎_elim, ◌&&◌, ◌||◌, Bool, true, false, not, List, [], ◌∷◌, ◌++◌, length, Option, Some, None, refl, sym, ap, ◌∙◌, subst, arith, if◌then◌else◌, ◌==◌}
use Rattle.std.specs.Prelude.{slice_get, option_and_then, option_map}
use Rattle.std.specs.List.{list_any}
use Rattle.std.proofs.lemmas.Bool.{and_from, and_left, and_right, le-leb, le-ltb, lt-leb, lt-ltb}
use Rattle.pass_proofs.specs.frame_layout.declared.layout.PlacedField.{PlacedField}
use Rattle.pass_split_proof.specs.states.Instances.{IsControl, IsLaidOut, index_length}
use Rattle.pass_proofs.specs.run_framed.Framed.{FramedGiven, covers, field_opens, frame_rights, is_open_byte, is_open_kind, judge_of, layout_of}
use Rattle.pass_proofs.proofs.run_laws.memory.Written.{same_some}
use Rattle.pass_proofs.specs.run_memory.declared.block.MemoryBlock.{MemoryBlock}
use Rattle.pass_proofs.specs.run_source.State.{last_from, numbered, or_else}
use Rattle.pass_proofs.specs.run_source.declared.state.Instance.{Instance}

-- ---- the last instance has the byte

last_new : (test : Instance → Bool) (x : Instance) → test x ≡ true → (i : ℕ) (xs : List Instance)
    → last_from test i (xs ++ x ∷ []) ≡ Some (i + length xs)
last_new test x holds i [] = (λ j. if holds j then Some i else None) ∙ (let e : i ≡ i + 0 = omega arith in ap Some e)
last_new test x holds i (y ∷ xs)
    = (λ j. or_else (last_new test x holds (suc i) xs j) (if test y then Some i else None))
    ∙ (let e : suc i + length xs ≡ i + suc (length xs) = omega arith in ap Some e)

pub get_new : (xs : List Instance) (x : Instance) → slice_get (xs ++ x ∷ []) (length xs) ≡ Some x
get_new [] x = refl
get_new (y ∷ xs) x = get_new xs x

-- an instance with a number
abbrev pub numbering : ℕ → Instance → ℕ × Instance
numbering i x = (i, x)

pub judge_new : (g : FramedGiven) (xs : List Instance) (x : Instance) (b k : ℕ) → covers g b k x ≡ true
    → judge_of g (xs ++ x ∷ []) b k ≡ Some (length xs, x)
judge_new g xs x b k holds =
    ap (option_and_then (numbered (xs ++ x ∷ []))) (last_new (covers g b k) x holds 0 xs)
    ∙ ap (numbered (xs ++ x ∷ [])) start
    ∙ ap (option_map (numbering (length xs))) (get_new xs x)
  where
    start : 0 + length xs ≡ length xs
    start = omega arith

-- ---- no open field has a control byte

pub no_field : (test : PlacedField → Bool) (fields : List PlacedField) → ((a : ℕ) (y : PlacedField)
    → slice_get fields a ≡ Some y → test y ≡ false) → list_any test fields ≡ false
no_field test [] none = refl
no_field test (y ∷ fields) none = λ j. none 0 y refl j || no_field test fields (λ a z e. none (suc a) z e) j

closed_field : (k : ℕ) (y : PlacedField) (opened : Bool) → is_open_kind y.kind ≡ opened
    → (opened ≡ true → (k < y.offset) ⊎ (y.offset + y.size ≤ k)) → field_opens k y ≡ false
closed_field k y false kind away = and_left _ _ (and_left _ _ kind)
closed_field k y true kind away = ⊎_elim
    (λ lt. and_left _ _ (and_right _ _ (lt-leb y.offset k lt)))
    (λ ge. and_right _ _ (le-ltb k (y.offset + y.size) ge))
    (away refl)

module _ (g : FramedGiven) (xs : List Instance) (x : Instance) (laid : IsLaidOut g x.coroutine) where
  from_field : (at : ℕ) → IsControl g x x.block at → (a : ℕ) (y : PlacedField)
      → slice_get (layout_of g.layouts x.coroutine).fields a ≡ Some y → is_open_kind y.kind ≡ true
      → (at - x.start < y.offset) ⊎ (y.offset + y.size ≤ at - x.start)
  from_field at control a y e opened = let h = laid.fields a y e opened in ⊎_elim
      (λ head. inl (below x.start at y.offset head h.0))
      (λ index. ⊎_elim
      (λ before. inr (above x.start at (layout_of g.layouts x.coroutine).index (y.offset + y.size) index.0 before))
      (λ behind. inl (under x.start at ((layout_of g.layouts x.coroutine).index) (index_length g x.coroutine) y.offset
      index behind))
      h.1)
      control.1
    where
      below : (s at o : ℕ) → (s ≤ at) × (at < s + 16) → 16 ≤ o → at - s < o
      below s at o h le = let a = h.0 in let b = h.1 in omega arith

      above : (s at i e : ℕ) → s + i ≤ at → e ≤ i → e ≤ at - s
      above s at i e a b = omega arith

      under : (s at i l o : ℕ) → (s + i ≤ at) × (at < s + i + l) → i + l ≤ o → at - s < o
      under s at i l o h le = let a = h.0 in let b = h.1 in omega arith

  -- the frame has its control bytes
  pub control_covered : (at : ℕ) → IsControl g x x.block at → covers g x.block at x ≡ true
  control_covered at control = ⊎_elim
      (λ head. cover at head.0 (reach x.start at (layout_of g.layouts x.coroutine).size 16 (head.1)
      (let b = laid.behind in let i = laid.index in omega arith)))
      (λ index. cover at (from x.start at (layout_of g.layouts x.coroutine).index index.0)
      (reach' x.start at (layout_of g.layouts x.coroutine).index (index_length g x.coroutine)
      (layout_of g.layouts x.coroutine).size index.1 laid.index))
      control.1
    where
      reach : (s at n k : ℕ) → at < s + k → k ≤ n → at < s + n
      reach s at n k a b = omega arith

      reach' : (s at i l n : ℕ) → at < s + i + l → i + l ≤ n → at < s + n
      reach' s at i l n a b = omega arith

      from : (s at i : ℕ) → s + i ≤ at → s ≤ at
      from s at i a = omega arith

      same : (x.block == x.block) ≡ true
      same = grind arith

      cover : (at : ℕ) → x.start ≤ at → at < x.start + (layout_of g.layouts x.coroutine).size
          → covers g x.block at x ≡ true
      cover at le lt = and_from _ _ (and_from _ _ same (le-leb x.start at le))
          (lt-ltb at (x.start + (layout_of g.layouts x.coroutine).size) lt)

  -- so they are closed from its begin on
  pub control_closed : (y : MemoryBlock) (at : ℕ) → IsControl g x x.block at
      → (frame_rights g (xs ++ x ∷ [])).is_closed x.block y at 1 ≡ true
  control_closed y at control =
      ap (λ (j : Option (ℕ × Instance)). not (is_open_byte g at j && true)) (judge_new g xs x x.block at
      (control_covered at control))
      ∙ ap (λ (t : Bool). not (t && true)) (no_field (field_opens (at - x.start))
      (layout_of g.layouts x.coroutine).fields (λ a z e. closed_field (at - x.start) z (is_open_kind z.kind) refl
      (from_field at control a z e)))

-- ---- the frame by which a byte is judged

record Passes (test : Instance → Bool) (xs : List Instance) (i k : ℕ) : Type 0 where
  at : ℕ
  is : k ≡ i + at
  instance : Instance
  there : slice_get xs at ≡ Some instance
  passes : test instance ≡ true

last_passes : (test : Instance → Bool) (i k : ℕ) (xs : List Instance) → last_from test i xs ≡ Some k
    → Passes test xs i k
last_passes test i k [] e = absurd (cc)
last_passes test i k (y ∷ xs) e = on (last_from test (suc i) xs) refl (test y) refl e
    (λ a f. last_passes test (suc i) a xs f)
  where
    on : (o : Option ℕ) → last_from test (suc i) xs ≡ o → (t : Bool) → test y ≡ t
        → or_else o (if t then Some i else None) ≡ Some k → ((a : ℕ) → last_from test (suc i) xs ≡ Some a
        → Passes test xs (suc i) a) → Passes test (y ∷ xs) i k
    on None f false holds e later = absurd (cc)
    on None f true holds e later = let is : i ≡ k = same_some i k e
        in record { at = 0; is = omega arith; instance = y; there = refl; passes = holds }
    on (Some a) f t holds e later =
        let is : a ≡ k = same_some a k e in
        let p = later a f in
        let at = p.is in
        record { at = suc p.at; is = omega arith; instance = p.instance; there = p.there; passes = p.passes }

pub record IsJudge (g : FramedGiven) (xs : List Instance) (b k i : ℕ) (x : Instance) : Type 0 where
  pub there : slice_get xs i ≡ Some x
  pub covered : covers g b k x ≡ true

pub judge_is : (g : FramedGiven) (xs : List Instance) (b k i : ℕ) (x : Instance) → judge_of g xs b k ≡ Some (i, x)
    → IsJudge g xs b k i x
judge_is g xs b k i x e = on (last_from (covers g b k) 0 xs) refl
  where
    at : (a : ℕ) → Passes (covers g b k) xs 0 a → option_map (numbering a) (slice_get xs a) ≡ Some (i, x)
        → IsJudge g xs b k i x
    at a p f =
        let at_start = p.is in
        let is : a ≡ p.at = omega arith in
        let there : slice_get xs a ≡ Some p.instance = ap (slice_get xs) is ∙ p.there in
        let pair : numbering a p.instance ≡ numbering i x = same_some (numbering a p.instance) (numbering i x)
        (sym (ap (option_map (numbering a)) there) ∙ f) in
        let number : a ≡ i = ap (λ (q : ℕ × Instance). q.0) pair in
        let one : p.instance ≡ x = ap (λ (q : ℕ × Instance). q.1) pair in
        record {
          there = ap (slice_get xs) (sym number) ∙ there ∙ ap Some one;
          covered = subst (λ (z : Instance). covers g b k z ≡ true) one p.passes;
        }

    on : (o : Option ℕ) → last_from (covers g b k) 0 xs ≡ o → IsJudge g xs b k i x
    on None f = absurd (none (sym (ap (option_and_then (numbered xs)) f) ∙ e))
      where
        none : None ≡ Some (numbering i x) → ⊥
        none h = cc
    on (Some a) f = at a (last_passes (covers g b k) 0 a xs f) (sym (ap (option_and_then (numbered xs)) f) ∙ e)
