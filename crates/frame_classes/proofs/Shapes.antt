-- Rows with a word for each point of a function.
use Rattle.std.proofs.Common.{◌≡◌, ℕ, zero, suc, ◌+◌, ◌<◌, List, [], ◌∷◌, ◌++◌, map, length, Option, Some, None, refl, sym, ap, ◌∙◌, arith}
use Rattle.std.specs.Prelude.{option_map, slice_get, unwrap_or}
use Rattle.std.proofs.lemmas.Option.{slice_get-map, slice_get_within}
use Rattle.flow_bits.specs.Bits.{HasBit}
use Rattle.ir_model.specs.declared.instr.Instr.{Instr}
use Rattle.ir_model.specs.declared.instr.Terminator.{Terminator}
use Rattle.ir_model.specs.declared.module.Block.{Block}
use Rattle.ir_model.specs.declared.module.Function.{Function}
use Rattle.ir_paths.specs.declared.point.Point.{Point}
use Rattle.flow_reach.specs.Reached.{HaveShape, IsPointOf}
use Rattle.frame_classes.proofs.Zips.{at_point, bit_inside}
use Rattle.frame_classes.specs.Rows.{kept_of, kept_rows, zipped, zipped_rows}
use Rattle.frame_slots.specs.Words.{row_with, word_at_point}

-- ---- shapes

row_length : {X : Type 0} (g : X → ℕ) (xs : List X) (last : ℕ) → length (map g xs ++ last ∷ []) ≡ length xs + 1
row_length g [] last = refl
row_length g (x ∷ xs) last = let r = row_length g xs last in omega (arith, r)

text_shape : (g : Instr → ℕ) (h : Terminator → ℕ) (bs : List Block) → map length (map (row_with g h) bs) ≡ map (λ b. length b.instrs + 1) bs
text_shape g h [] = refl
text_shape g h (b ∷ bs) = ap (λ (n : ℕ). n ∷ map length (map (row_with g h) bs)) (row_length g b.instrs (h b.term)) ∙ ap (λ (l : List ℕ). (length b.instrs + 1) ∷ l) (text_shape g h bs)

-- rows over the text
pub shape_of_text : (g : Instr → ℕ) (h : Terminator → ℕ) (f : Function) → HaveShape f (map (row_with g h) f.blocks)
shape_of_text g h f = text_shape g h f.blocks

zipped_length : {X : Type 0} (make : ℕ → ℕ → X) (n : ℕ) (row other : List ℕ) → length (zipped make n row other) ≡ length row
zipped_length make n [] other = refl
zipped_length make n (w ∷ row) other = ap suc (zipped_length make (n + 1) row other)

zipped_shape : {X : Type 0} (make : ℕ → ℕ → X) (n : ℕ) (rows others : List (List ℕ)) → map length (zipped_rows make n rows others) ≡ map length rows
zipped_shape make n [] others = refl
zipped_shape make n (row ∷ rows) others =
    ap (λ (k : ℕ). k ∷ map length (zipped_rows make (n + 1) rows others)) (zipped_length make 0 row (unwrap_or (slice_get others n) []))
    ∙ ap (λ (l : List ℕ). length row ∷ l) (zipped_shape make (n + 1) rows others)

-- rows made of two rows
pub shape_of_zip : {X : Type 0} (f : Function) (make : ℕ → ℕ → X) (rows others : List (List ℕ)) → HaveShape f rows → HaveShape f (zipped_rows make 0 rows others)
shape_of_zip f make rows others shape = zipped_shape make 0 rows others ∙ shape

kept_length : (mask : ℕ) (row : List ℕ) → length (kept_of mask row) ≡ length row
kept_length mask [] = refl
kept_length mask (w ∷ row) = ap suc (kept_length mask row)

kept_shape : (mask : ℕ) (rows : List (List ℕ)) → map length (kept_rows mask rows) ≡ map length rows
kept_shape mask [] = refl
kept_shape mask (row ∷ rows) = ap (λ (n : ℕ). n ∷ map length (kept_rows mask rows)) (kept_length mask row) ∙ ap (λ (l : List ℕ). length row ∷ l) (kept_shape mask rows)

-- rows of which some questions are kept
pub shape_of_kept : (f : Function) (mask : ℕ) (rows : List (List ℕ)) → HaveShape f rows → HaveShape f (kept_rows mask rows)
shape_of_kept f mask rows shape = kept_shape mask rows ∙ shape

-- ---- points

place_in : {X : Type 0} (xs : List X) (k : ℕ) → k < length xs → (x : X) × (slice_get xs k ≡ Some x)
place_in [] k lt = absurd (omega arith)
place_in (x ∷ xs) zero lt = (x, refl)
place_in (x ∷ xs) (suc k) lt = place_in xs k (omega arith)

lengths_at : {X : Type 0} (f : Function) (rows : List (List X)) → HaveShape f rows → (k : ℕ) → option_map length (slice_get rows k) ≡ option_map (λ b. length b.instrs + 1) (slice_get f.blocks k)
lengths_at f rows shape k = sym (slice_get-map length rows k) ∙ ap (λ (l : List ℕ). slice_get l k) shape ∙ slice_get-map (λ (b : Block). length b.instrs + 1) f.blocks k

-- a point of the function has its place
pub point_inside : {X : Type 0} (f : Function) (rows : List (List X)) → HaveShape f rows → (p : Point) → IsPointOf f p → (x : X) × (at_point rows p ≡ Some x)
point_inside {X} f rows shape p is = by (slice_get rows p.block) refl (lengths_at f rows shape p.block ∙ ap (option_map (λ b. length b.instrs + 1)) is.is_block)
  where
    by : (o : Option (List X)) → slice_get rows p.block ≡ o → option_map length o ≡ Some (length is.block.instrs + 1) → (x : X) × (at_point rows p ≡ Some x)
    by None e same = absurd (cc)
    by (Some row) e same =
        let size : length row ≡ length is.block.instrs + 1 = cc in
        let within = is.within in
        let found = place_in row p.at (omega (arith, size, within)) in
        (found.0, ap (λ (o : Option (List X)). slice_get (unwrap_or o []) p.at) e ∙ found.1)

-- and what has a place is a point of the function
pub inside_point : {X : Type 0} (f : Function) (rows : List (List X)) → HaveShape f rows → (p : Point) (x : X) → at_point rows p ≡ Some x → IsPointOf f p
inside_point {X} f rows shape p x at = by (slice_get rows p.block) refl at (lengths_at f rows shape p.block)
  where
    in_block : (row : List X) → slice_get row p.at ≡ Some x → (o : Option Block) → slice_get f.blocks p.block ≡ o → Some (length row) ≡ option_map (λ b. length b.instrs + 1) o → IsPointOf f p
    in_block row at None e same = absurd (cc)
    in_block row at (Some b) e same =
        let size : length row ≡ length b.instrs + 1 = cc in
        let within = slice_get_within row p.at x at in
        record { block = b; is_block = e; within = omega (arith, size, within) }

    by : (o : Option (List X)) → slice_get rows p.block ≡ o → slice_get (unwrap_or o []) p.at ≡ Some x → option_map length o ≡ option_map (λ b. length b.instrs + 1) (slice_get f.blocks p.block) → IsPointOf f p
    by None e at same = absurd (cc)
    by (Some row) e at same = in_block row at (slice_get f.blocks p.block) refl same

pub bit_point : (f : Function) (rows : List (List ℕ)) → HaveShape f rows → (p : Point) (c : ℕ) → HasBit (word_at_point rows p) c → IsPointOf f p
bit_point f rows shape p c h = let i = bit_inside rows p c h in inside_point f rows shape p i.0 i.1
