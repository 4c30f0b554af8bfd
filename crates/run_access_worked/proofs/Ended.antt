-- The rights of frames go by where the frames lie, and not by what has become of the instances.
use Rattle.std.proofs.Common.{◌≡◌, ℕ, zero, suc, ◌+◌, ◌-◌, ◌%◌, true, not, List, [], ◌∷◌, Option, Some, None, refl, ap, ◌∙◌, if◌then◌else◌, ◌&&◌, ◌==◌, nat_le}
use Rattle.std.specs.Prelude.{nat_lt, slice_get, slice_set, option_and_then, option_map}
use Rattle.std.specs.List.{list_any}
use Rattle.run_access_worked.specs.Frames.{AreSameFrames, IsSameFrame}
use Rattle.run_laws_worked.specs.run_memory.declared.block.MemoryBlock.{MemoryBlock}
use Rattle.run_laws_worked.specs.run_source.State.{last_from, numbered, or_else}
use Rattle.run_laws_worked.specs.run_source.declared.state.Instance.{Instance}
use Rattle.run_laws_worked.specs.run_source.declared.state.Status.{Status}
use Rattle.run_laws_worked.specs.run_framed.Framed.{FramedGiven, covers, field_opens, frame_rights, is_open, is_open_byte, judge_of, layout_of, meets_in}

module _ (g : FramedGiven) where
  covers_same : (b k : ℕ) (x y : Instance) → IsSameFrame x y → covers g b k y ≡ covers g b k x
  covers_same b k x y h = λ i. (h.block i == b) && nat_le (h.start i) k && nat_lt k (h.start i + (layout_of g.layouts (h.coroutine i)).size)

  last_same : (b k i : ℕ) (xs ys : List Instance) → AreSameFrames xs ys → last_from (covers g b k) i ys ≡ last_from (covers g b k) i xs
  last_same b k i [] [] h = refl
  last_same b k i [] (y ∷ ys) h = absurd h
  last_same b k i (x ∷ xs) [] h = absurd h
  last_same b k i (x ∷ xs) (y ∷ ys) h = λ j. or_else (last_same b k (suc i) xs ys h.1 j) (if covers_same b k x y h.0 j then Some i else None)

  -- ---- a byte, by the instance of a number

  open_at : (k n i : ℕ) (xs ys : List Instance) → AreSameFrames xs ys → is_open_byte g k (option_map (λ x. (n, x)) (slice_get ys i)) ≡ is_open_byte g k (option_map (λ x. (n, x)) (slice_get xs i))
  open_at k n i [] [] h = refl
  open_at k n i [] (y ∷ ys) h = absurd h
  open_at k n i (x ∷ xs) [] h = absurd h
  open_at k n zero (x ∷ xs) (y ∷ ys) h = λ j. list_any (field_opens (k - h.0.start j)) (layout_of g.layouts (h.0.coroutine j)).fields
  open_at k n (suc i) (x ∷ xs) (y ∷ ys) h = open_at k n i xs ys h.1

  meets_at : (z : MemoryBlock) (o align n i : ℕ) (xs ys : List Instance) → AreSameFrames xs ys → meets_in g z o align (option_map (λ x. (n, x)) (slice_get ys i)) ≡ meets_in g z o align (option_map (λ x. (n, x)) (slice_get xs i))
  meets_at z o align n i [] [] h = refl
  meets_at z o align n i [] (y ∷ ys) h = absurd h
  meets_at z o align n i (x ∷ xs) [] h = absurd h
  meets_at z o align n zero (x ∷ xs) (y ∷ ys) h = λ j. ((o - h.0.start j) % align == 0) && nat_le align (layout_of g.layouts (h.0.coroutine j)).align
  meets_at z o align n (suc i) (x ∷ xs) (y ∷ ys) h = meets_at z o align n i xs ys h.1

  module _ (xs ys : List Instance) (h : AreSameFrames xs ys) where
    open_byte_same : (b k : ℕ) → is_open_byte g k (judge_of g ys b k) ≡ is_open_byte g k (judge_of g xs b k)
    open_byte_same b k = ap (λ (o : Option ℕ). is_open_byte g k (option_and_then (numbered ys) o)) (last_same b k 0 xs ys h) ∙ on (last_from (covers g b k) 0 xs)
      where
        on : (o : Option ℕ) → is_open_byte g k (option_and_then (numbered ys) o) ≡ is_open_byte g k (option_and_then (numbered xs) o)
        on None = refl
        on (Some i) = open_at k i i xs ys h

    meets_same : (z : MemoryBlock) (b o align : ℕ) → meets_in g z o align (judge_of g ys b o) ≡ meets_in g z o align (judge_of g xs b o)
    meets_same z b o align = ap (λ (q : Option ℕ). meets_in g z o align (option_and_then (numbered ys) q)) (last_same b o 0 xs ys h) ∙ on (last_from (covers g b o) 0 xs)
      where
        on : (q : Option ℕ) → meets_in g z o align (option_and_then (numbered ys) q) ≡ meets_in g z o align (option_and_then (numbered xs) q)
        on None = refl
        on (Some i) = meets_at z o align i i xs ys h

    open_same : (b o len : ℕ) → is_open g ys b o len ≡ is_open g xs b o len
    open_same b o zero = refl
    open_same b o (suc len) = λ i. open_byte_same b o i && open_same b (o + 1) len i

    pub rights_same : frame_rights g ys ≡ frame_rights g xs
    rights_same = λ i. record {
      is_closed = λ b x o len. not (open_same b o len i);
      is_aligned = λ b x o align. meets_same x b o align i;
      is_comparable = λ b x o. true;
    }

-- ---- an instance that has another status

same_frames : (xs : List Instance) → AreSameFrames xs xs
same_frames [] = tt
same_frames (x ∷ xs) = (record { coroutine = refl; block = refl; start = refl }, same_frames xs)

pub set_frames : (xs : List Instance) (i : ℕ) (x y : Instance) → slice_get xs i ≡ Some x → IsSameFrame x y
    → AreSameFrames xs (slice_set xs i y)
set_frames [] i x y e h = tt
set_frames (z ∷ xs) zero x y e h =
    let is : x ≡ z = cc in
    (record { coroutine = h.coroutine ∙ ap (λ (q : Instance). q.coroutine) is; block = h.block ∙ ap (λ (q : Instance). q.block) is; start = h.start ∙ ap (λ (q : Instance). q.start) is }, same_frames xs)
set_frames (z ∷ xs) (suc i) x y e h = (record { coroutine = refl; block = refl; start = refl }, set_frames xs i x y e h)

pub status_leaves : (g : FramedGiven) (xs : List Instance) (i : ℕ) (x : Instance) (status : Status) → slice_get xs i ≡ Some x → frame_rights g (slice_set xs i (record x { status = status })) ≡ frame_rights g xs
status_leaves g xs i x status e = rights_same g xs (slice_set xs i (record x { status = status })) (set_frames xs i x (record x { status = status }) e (record { coroutine = refl; block = refl; start = refl }))
