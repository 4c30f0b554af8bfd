-- Rows of passes, and their bits put together.
use Rattle.std.proofs.Common.{◌≡◌, ℕ, zero, suc, ◌+◌, ◌⊎◌, List, [], ◌∷◌, ◌++◌, length, map, Some, None, Option, refl, sym, ap, ◌∙◌, ⊎_elim, inl, inr, length-append}
use Rattle.std.specs.Prelude.{bit_or, option_map, slice_get, unwrap_or}
use Rattle.std.proofs.lemmas.List.{length-map}
use Rattle.std.proofs.lemmas.Option.{slice_get-map}
use Rattle.flow_bits.specs.Bits.{HasBit}
use Rattle.ir_model.specs.declared.instr.Instr.{Instr}
use Rattle.ir_model.specs.declared.module.Block.{Block}
use Rattle.ir_model.specs.declared.module.Function.{Function}
use Rattle.ir_model.specs.declared.operand.Intrinsic.{Intrinsic}
use Rattle.ir_paths.specs.declared.point.Point.{Point}
use Rattle.frame_classes.proofs.flow_reach.Bits.{left_bit, no_bit, one_bit, right_bit}
use Rattle.frame_classes.specs.flow_reach.Reached.{HaveShape, begins_at, row_of, stops_at, word_at_point}
use Rattle.frame_classes.specs.flow_reach.declared.question.Pass.{Pass}
use Rattle.frame_conflicts.specs.Started.{no_pass, pass_of, pass_row, pass_rows, row_word, rows_word}
use Rattle.frame_classes.specs.frame_slots.Words.{marked, marker_row, marker_rows}

-- ---- the bits of all passes

-- the bits of a pass
abbrev bits_of : Pass → ℕ
bits_of x = bit_or x.stops x.begins

-- the pass at a position of a row
abbrev pub pass_in : List Pass → ℕ → Pass
pass_in row k = unwrap_or (slice_get row k) no_pass

-- a slot begins or ends there
abbrev pub HasMark : Pass → ℕ → Type 0
HasMark x c = HasBit x.stops c ⊎ HasBit x.begins c

mark_bit : (x : Pass) (c : ℕ) → HasMark x c → HasBit (bits_of x) c
mark_bit x c h = ⊎_elim (λ s. left_bit x.stops x.begins c s) (λ b. right_bit x.stops x.begins c b) h

no_mark : {X : Type 0} (c : ℕ) → HasMark no_pass c → X
no_mark c h = absurd (⊎_elim (λ s. no_bit c s) (λ b. no_bit c b) h)

first_row : (row : List Pass) (word c : ℕ) → HasBit word c → HasBit (row_word word row) c
first_row [] word c h = h
first_row (x ∷ row) word c h = first_row row (bit_or word (bits_of x)) c (left_bit word (bits_of x) c h)

in_row : (row : List Pass) (word k c : ℕ) → HasMark (pass_in row k) c → HasBit (row_word word row) c
in_row [] word k c h = no_mark c h
in_row (x ∷ row) word zero c h = first_row row (bit_or word (bits_of x)) c (right_bit word (bits_of x) c (mark_bit x c h))
in_row (x ∷ row) word (suc k) c h = in_row row (bit_or word (bits_of x)) k c h

of_row : (row : List Pass) (word c : ℕ) → HasBit (row_word word row) c → HasBit word c ⊎ ((k : ℕ) × HasMark (pass_in row k) c)
of_row [] word c h = inl h
of_row (x ∷ row) word c h = ⊎_elim
    (λ first. ⊎_elim (λ old. inl old) (λ here. inr (0, one_bit x.stops x.begins c here)) (one_bit word (bits_of x) c first))
    (λ (later : (k : ℕ) × HasMark (pass_in row k) c). inr (suc later.0, later.1))
    (of_row row (bit_or word (bits_of x)) c h)

first_rows : (rows : List (List Pass)) (word c : ℕ) → HasBit word c → HasBit (rows_word word rows) c
first_rows [] word c h = h
first_rows (row ∷ rows) word c h = first_rows rows (row_word word row) c (first_row row word c h)

pub in_rows : (rows : List (List Pass)) (word n k c : ℕ) → HasMark (pass_in (row_of rows n) k) c → HasBit (rows_word word rows) c
in_rows [] word n k c h = no_mark c h
in_rows (row ∷ rows) word zero k c h = first_rows rows (row_word word row) c (in_row row word k c h)
in_rows (row ∷ rows) word (suc n) k c h = in_rows rows (row_word word row) n k c h

pub record HasAt (rows : List (List Pass)) (c : ℕ) : Type 0 where
  pub block : ℕ
  pub at : ℕ
  pub has : HasMark (pass_in (row_of rows block) at) c

pub of_rows : (rows : List (List Pass)) (word c : ℕ) → HasBit (rows_word word rows) c → HasBit word c ⊎ HasAt rows c
of_rows [] word c h = inl h
of_rows (row ∷ rows) word c h = ⊎_elim
    (λ first. ⊎_elim (λ old. inl old) (λ (here : (k : ℕ) × HasMark (pass_in row k) c). inr (record { block = 0; at = here.0; has = here.1 })) (of_row row word c first))
    (λ (later : HasAt rows c). inr (record { block = suc later.block; at = later.at; has = later.has }))
    (of_rows rows (row_word word row) c h)

-- ---- passes and rows of markers

module _ (names : List ℕ) where
  row_stops : (is : List Instr) (k : ℕ) → (pass_in (map (pass_of names) is ++ no_pass ∷ []) k).stops ≡ unwrap_or (slice_get (map (marked Intrinsic.LifetimeEnd names) is ++ 0 ∷ []) k) 0
  row_stops [] zero = refl
  row_stops [] (suc k) = refl
  row_stops (i ∷ is) zero = refl
  row_stops (i ∷ is) (suc k) = row_stops is k

  row_begins : (is : List Instr) (k : ℕ) → (pass_in (map (pass_of names) is ++ no_pass ∷ []) k).begins ≡ unwrap_or (slice_get (map (marked Intrinsic.LifetimeStart names) is ++ 0 ∷ []) k) 0
  row_begins [] zero = refl
  row_begins [] (suc k) = refl
  row_begins (i ∷ is) zero = refl
  row_begins (i ∷ is) (suc k) = row_begins is k

pub stops_are : (names : List ℕ) (f : Function) (p : Point) → stops_at (pass_rows names f) p ≡ word_at_point (marker_rows Intrinsic.LifetimeEnd names f) p
stops_are names f p =
    ap (λ (o : Option (List Pass)). (pass_in (unwrap_or o []) p.at).stops) (slice_get-map (pass_row names) f.blocks p.block)
    ∙ by (slice_get f.blocks p.block)
    ∙ ap (λ (o : Option (List ℕ)). unwrap_or (slice_get (unwrap_or o []) p.at) 0) (sym (slice_get-map (marker_row Intrinsic.LifetimeEnd names) f.blocks p.block))
  where
    by : (o : Option Block) → (pass_in (unwrap_or (option_map (pass_row names) o) []) p.at).stops ≡ unwrap_or (slice_get (unwrap_or (option_map (marker_row Intrinsic.LifetimeEnd names) o) []) p.at) 0
    by None = refl
    by (Some b) = row_stops names b.instrs p.at

pub begins_are : (names : List ℕ) (f : Function) (p : Point) → begins_at (pass_rows names f) p ≡ word_at_point (marker_rows Intrinsic.LifetimeStart names f) p
begins_are names f p =
    ap (λ (o : Option (List Pass)). (pass_in (unwrap_or o []) p.at).begins) (slice_get-map (pass_row names) f.blocks p.block)
    ∙ by (slice_get f.blocks p.block)
    ∙ ap (λ (o : Option (List ℕ)). unwrap_or (slice_get (unwrap_or o []) p.at) 0) (sym (slice_get-map (marker_row Intrinsic.LifetimeStart names) f.blocks p.block))
  where
    by : (o : Option Block) → (pass_in (unwrap_or (option_map (pass_row names) o) []) p.at).begins ≡ unwrap_or (slice_get (unwrap_or (option_map (marker_row Intrinsic.LifetimeStart names) o) []) p.at) 0
    by None = refl
    by (Some b) = row_begins names b.instrs p.at

-- ---- shapes

row_long : (names : List ℕ) (b : Block) → length (pass_row names b) ≡ length b.instrs + 1
row_long names b = length-append (map (pass_of names) b.instrs) (no_pass ∷ []) ∙ ap (λ (n : ℕ). n + 1) (length-map b.instrs (pass_of names))

rows_long : (names : List ℕ) (bs : List Block) → map length (map (pass_row names) bs) ≡ map (λ (b : Block). length b.instrs + 1) bs
rows_long names [] = refl
rows_long names (b ∷ bs) = ap (λ (n : ℕ). n ∷ map length (map (pass_row names) bs)) (row_long names b) ∙ ap (λ (l : List ℕ). (length b.instrs + 1) ∷ l) (rows_long names bs)

pub passes_long : (names : List ℕ) (f : Function) → HaveShape f (pass_rows names f)
passes_long names f = rows_long names f.blocks
