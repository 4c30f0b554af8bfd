-- Rows with a word at the calls of an intrinsic, or at the points of a set.
use Rattle.std.proofs.Common.{◌≡◌, ◌≢◌, ℕ, zero, suc, ◌+◌, ◌<◌, ◌≤◌, Bool, true, false, List, [], ◌∷◌, ◌++◌, append_assoc, drop, length, Option, Some, None, refl, sym, ap, ◌∙◌, subst, ⊎_elim, arith}
use Rattle.std.specs.Prelude.{◌↔◌, IsTrue, slice_get, unwrap_or, if◌then◌else◌}
use Rattle.flow_bits.specs.Bits.{HasBit}
use Rattle.flow_solver.proofs.Lists.{set_cases, set_other}
use Rattle.ir_model.specs.declared.instr.Instr.{Instr}
use Rattle.ir_model.specs.declared.module.Block.{Block}
use Rattle.ir_model.specs.declared.module.Function.{Function}
use Rattle.ir_model.specs.declared.operand.Intrinsic.{Intrinsic}
use Rattle.ir_paths.specs.Paths.{has_point}
use Rattle.ir_paths.specs.Windows.{is_call_of, points_where}
use Rattle.ir_paths.specs.declared.point.Point.{Point}
use Rattle.flow_points.specs.Rows.{is_marked}
use Rattle.flow_reach.specs.Reached.{IsPointOf}
use Rattle.frame_classes.proofs.Flips.{all_bit}
use Rattle.frame_classes.specs.Rows.{call_rows, call_word, cleared, set_row, set_rows, word_of_mark}
use Rattle.frame_slots.proofs.Bits.{no_bit}
use Rattle.frame_slots.proofs.Points.{where_complete, where_sound}
use Rattle.frame_slots.proofs.RowWords.{at_instr, point_cases}
use Rattle.frame_slots.specs.Words.{word_at_point}

-- ---- calls

call_if : (b : Bool) (word c : ℕ) → HasBit (if b then word else 0) c → (b ≡ true) × HasBit word c
call_if true word c h = (refl, h)
call_if false word c h = absurd (no_bit c h)

pub call_sound : (i : Intrinsic) (word : ℕ) (f : Function) (p : Point) (c : ℕ) → HasBit (word_at_point (call_rows i word f) p) c → (has_point (points_where (is_call_of i) f) p ≡ true) × HasBit word c
call_sound i word f p c h = ⊎_elim
    (λ here. let two = call_if (is_call_of i here.instr) word c here.has in (where_complete (is_call_of i) f p here.instr here.stands two.0, two.1))
    (λ last. absurd (no_bit c last.has))
    (point_cases (call_word i word) (λ t. 0) f p c h)

pub call_complete : (i : Intrinsic) (word : ℕ) (f : Function) (p : Point) (c : ℕ) → has_point (points_where (is_call_of i) f) p ≡ true → HasBit word c → HasBit (word_at_point (call_rows i word f) p) c
call_complete i word f p c h k =
    let r = where_sound (is_call_of i) f p h in
    subst (λ (w : ℕ). HasBit w c) (sym (at_instr (call_word i word) (λ t. 0) f p r.instr r.is))
    (subst (λ (b : Bool). HasBit (if b then word else 0) c) (sym r.passes) k)

-- ---- sets

mark_at : (set : List (List Bool)) (block n : ℕ) (is : List Instr) (k : ℕ) → k ≤ length is → slice_get (set_row set block n is) k ≡ Some (word_of_mark (is_marked set (record { block = block; at = n + k })))
mark_at set block n [] zero le = let z : n ≡ n + 0 = omega arith in ap (λ (m : ℕ). Some (word_of_mark (is_marked set (record { block = block; at = m })))) z
mark_at set block n [] (suc k) le = absurd (omega arith)
mark_at set block n (i ∷ is) zero le = let z : n ≡ n + 0 = omega arith in ap (λ (m : ℕ). Some (word_of_mark (is_marked set (record { block = block; at = m })))) z
mark_at set block n (i ∷ is) (suc k) le =
    let z : n + 1 + k ≡ n + suc k = omega arith in
    mark_at set block (n + 1) is k (omega arith) ∙ ap (λ (m : ℕ). Some (word_of_mark (is_marked set (record { block = block; at = m })))) z

marks_at : (set : List (List Bool)) (n : ℕ) (bs : List Block) (k : ℕ) (b : Block) → slice_get bs k ≡ Some b → slice_get (set_rows set n bs) k ≡ Some (set_row set (n + k) 0 b.instrs)
marks_at set n [] k b e = absurd (cc)
marks_at set n (x ∷ bs) zero b e =
    let same : x ≡ b = cc in
    let z : n ≡ n + 0 = omega arith in
    ap (λ (y : Block). Some (set_row set n 0 y.instrs)) same ∙ ap (λ (m : ℕ). Some (set_row set m 0 b.instrs)) z
marks_at set n (x ∷ bs) (suc k) b e =
    let z : n + 1 + k ≡ n + suc k = omega arith in
    marks_at set (n + 1) bs k b e ∙ ap (λ (m : ℕ). Some (set_row set m 0 b.instrs)) z

-- the word of a point of the function
set_word : (set : List (List Bool)) (f : Function) (p : Point) → IsPointOf f p → word_at_point (set_rows set 0 f.blocks) p ≡ word_of_mark (is_marked set p)
set_word set f p is =
    let z : 0 + p.block ≡ p.block = omega arith in
    let y : 0 + p.at ≡ p.at = omega arith in
    ap (λ (o : Option (List ℕ)). unwrap_or (slice_get (unwrap_or o []) p.at) 0) (marks_at set 0 f.blocks p.block is.block is.is_block)
    ∙ ap (λ (o : Option ℕ). unwrap_or o 0) (mark_at set (0 + p.block) 0 is.block.instrs p.at is.within)
    ∙ ap (λ (m : ℕ). word_of_mark (is_marked set (record { block = 0 + p.block; at = m }))) y
    ∙ ap (λ (m : ℕ). word_of_mark (is_marked set (record { block = m; at = p.at }))) z

mark_bit : (b : Bool) (c : ℕ) → c < 64 → HasBit (word_of_mark b) c ↔ IsTrue b
mark_bit true c lt = (λ h. refl, λ e. all_bit c lt)
mark_bit false c lt = (λ h. absurd (no_bit c h), λ e. absurd (cc))

pub set_told : (set : List (List Bool)) (f : Function) (p : Point) (c : ℕ) → c < 64 → IsPointOf f p → HasBit (word_at_point (set_rows set 0 f.blocks) p) c ↔ IsTrue (is_marked set p)
set_told set f p c lt is = (
  λ h. (mark_bit (is_marked set p) c lt).0 (subst (λ (w : ℕ). HasBit w c) (set_word set f p is) h),
  λ e. subst (λ (w : ℕ). HasBit w c) (sym (set_word set f p is)) ((mark_bit (is_marked set p) c lt).1 e),
)

-- ---- the rows without that of a block

pub cleared_sound : (rows : List (List ℕ)) (block : ℕ) (p : Point) (c : ℕ) → HasBit (word_at_point (cleared rows block) p) c → (p.block ≢ block) × HasBit (word_at_point rows p) c
cleared_sound rows block p c h = by (slice_get (cleared rows block) p.block) refl h
  where
    by : (o : Option (List ℕ)) → slice_get (cleared rows block) p.block ≡ o → HasBit (unwrap_or (slice_get (unwrap_or o []) p.at) 0) c → (p.block ≢ block) × HasBit (word_at_point rows p) c
    by None e h = absurd (no_bit c h)
    by (Some row) e h = ⊎_elim
        (λ set. absurd (no_bit c (subst (λ (r : List ℕ). HasBit (unwrap_or (slice_get r p.at) 0) c) set.1 h)))
        (λ kept. (kept.1, subst (λ (o : Option (List ℕ)). HasBit (unwrap_or (slice_get (unwrap_or o []) p.at) 0) c) (sym kept.0) h))
        (set_cases rows block p.block [] row e)

pub cleared_complete : (rows : List (List ℕ)) (block : ℕ) (p : Point) (c : ℕ) → p.block ≢ block → HasBit (word_at_point rows p) c → HasBit (word_at_point (cleared rows block) p) c
cleared_complete rows block p c other h =
    subst (λ (o : Option (List ℕ)). HasBit (unwrap_or (slice_get (unwrap_or o []) p.at) 0) c) (sym (set_other rows block p.block [] other)) h

-- one place more of a row
row_step : (set : List (List Bool)) (block n : ℕ) (is : List Instr) (at : ℕ) → at < length is → set_row set block n (drop at is) ≡ word_of_mark (is_marked set (record { block = block; at = n })) ∷ set_row set block (n + 1) (drop (at + 1) is)
row_step set block n [] at lt = absurd (omega arith)
row_step set block n (i ∷ is) zero lt = refl
row_step set block n (i ∷ is) (suc at) lt =
    let z : suc at + 1 ≡ suc (at + 1) = omega arith in
    row_step set block n is at (omega arith) ∙ ap (λ (k : ℕ). word_of_mark (is_marked set (record { block = block; at = n })) ∷ set_row set block (n + 1) (drop k (i ∷ is))) (sym z)

pub set_row_more : (set : List (List Bool)) (block : ℕ) (is : List Instr) (at : ℕ) (row all : List ℕ) (word : ℕ) → at < length is → word ≡ word_of_mark (is_marked set (record { block = block; at = at })) → row ++ set_row set block at (drop at is) ≡ all → (row ++ word ∷ []) ++ set_row set block (at + 1) (drop (at + 1) is) ≡ all
set_row_more set block is at row all word lt e so_far =
    append_assoc row (word ∷ []) (set_row set block (at + 1) (drop (at + 1) is))
    ∙ ap (λ (w : ℕ). row ++ (w ∷ set_row set block (at + 1) (drop (at + 1) is))) e
    ∙ ap (λ (l : List ℕ). row ++ l) (sym (row_step set block at is at lt))
    ∙ so_far
