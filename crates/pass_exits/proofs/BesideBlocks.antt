-- What the windows in the row of a block tell.
use Rattle.std.proofs.Common.{◌≡◌, ◌≢◌, ℕ, zero, suc, ◌+◌, ◌<◌, Bool, true, false, ◌&&◌, List, [], ◌∷◌, ◌++◌, length, replicate, refl, sym, ap, subst, ◌∙◌, Option, Some, None, arith}
use Rattle.std.specs.Prelude.{slice_get, unwrap_or, not, if◌then◌else◌, ◌==◌}
use Rattle.std.specs.List.{list_any}
use Rattle.std.proofs.lemmas.Bool.{eq-eqb, eqb-true, false≢true}
use Rattle.std.proofs.lemmas.List.{length-set}
use Rattle.flow_solver.proofs.Lists.{set_here, set_other}
use Rattle.pass_edges.specs.Edges.{ends_in_suspend}
use Rattle.ir_model.specs.declared.module.Block.{Block}
use Rattle.ir_model.specs.declared.module.Function.{Function}
use Rattle.ir_paths.specs.Paths.{same_point}
use Rattle.ir_paths.specs.declared.point.Point.{Point}
use Rattle.ir_paths.specs.declared.point.Window.{Window}
use Rattle.pass_exits.specs.Exits.{end_of, or_else}
use Rattle.pass_exits.specs.Regions.{first_mark, mark_at}
use Rattle.pass_exits.specs.Rows.{ends_at, is_terminator, noted, noted_by, row_at, rows_by, rows_of, with_number}
use Rattle.pass_exits.specs.declared.regions.Region.{Region}
use Rattle.pass_exits.proofs.Marks.{first_mark-push, mark_if, mark_if-either, or_else-assoc, or_else-none}

-- ---- one point

-- a point is the terminator of the block at a position, which is no suspend's switch
abbrev pub is_end : Option Block → ℕ → Point → Bool
is_end None at p = false
is_end (Some b) at p = not (ends_in_suspend b.instrs) && same_point (end_of at b) p

never : (x : Bool) → (x && false) ≡ false
never true = refl
never false = refl

is_end-other : (o : Option Block) (at : ℕ) (p : Point) → (at == p.block) ≡ false → is_end o at p ≡ false
is_end-other None at p e = refl
is_end-other (Some b) at p e = ap (λ (x : Bool). not (ends_in_suspend b.instrs) && (x && (length b.instrs == p.at))) e ∙ never (not (ends_in_suspend b.instrs))

is_end-same : (o : Option Block) (p : Point) → is_end o p.block p ≡ ends_at o p.at
is_end-same None p = refl
is_end-same (Some b) p = ap (λ (x : Bool). not (ends_in_suspend b.instrs) && (x && (length b.instrs == p.at))) (eq-eqb p.block p.block refl)

terminator-within : (bs : List Block) (i at : ℕ) → ends_at (slice_get bs i) at ≡ true → i < length bs
terminator-within [] i at e = absurd (false≢true e)
terminator-within (b ∷ bs) zero at e = omega arith
terminator-within (b ∷ bs) (suc i) at e = let later = terminator-within bs i at e in omega (arith, later)

-- the row to which a number is added, and the others
row-here : (rows : List (List ℕ)) (at n : ℕ) → at < length rows → row_at (with_number rows at n) at ≡ row_at rows at ++ n ∷ []
row-here rows at n lt = ap (λ (o : Option (List ℕ)). unwrap_or o []) (set_here rows at (row_at rows at ++ n ∷ []) lt)

row-other : (rows : List (List ℕ)) (block at n : ℕ) → at ≢ block → row_at (with_number rows block n) at ≡ row_at rows at
row-other rows block at n ne = ap (λ (o : Option (List ℕ)). unwrap_or o []) (set_other rows block at (row_at rows block ++ n ∷ []) ne)

length-noted : (f : Function) (n : ℕ) (rows : List (List ℕ)) (p : Point) → length (noted f n rows p) ≡ length rows
length-noted f n rows p = on (is_terminator f p)
  where
    on : (b : Bool) → length (if b then with_number rows p.block n else rows) ≡ length rows
    on true = length-set rows p.block (row_at rows p.block ++ n ∷ [])
    on false = refl

noted-here : (rs : List Region) (rows : List (List ℕ)) (at n t : ℕ) (x : Bool) → (x ≡ true → at < length rows) → first_mark rs (row_at (if x then with_number rows at n else rows) at) t ≡ or_else (first_mark rs (row_at rows at) t) (mark_if x (mark_at rs n t))
noted-here rs rows at n t true h =
    ap (λ (ns : List ℕ). first_mark rs ns t) (row-here rows at n (h refl)) ∙ first_mark-push rs (row_at rows at) n t
noted-here rs rows at n t false h = sym (or_else-none (first_mark rs (row_at rows at) t))

noted-other : (rs : List Region) (rows : List (List ℕ)) (block at n t : ℕ) (x : Bool) → at ≢ block → first_mark rs (row_at (if x then with_number rows block n else rows) at) t ≡ first_mark rs (row_at rows at) t
noted-other rs rows block at n t true ne = ap (λ (ns : List ℕ). first_mark rs ns t) (row-other rows block at n ne)
noted-other rs rows block at n t false ne = refl

false-apart : (a b : ℕ) → (a == b) ≡ false → a ≢ b
false-apart a b e same = false≢true (sym e ∙ eq-eqb a b same)

module _ (f : Function) (rs : List Region) (t : ℕ) where
  -- the mark that the row of a block tells
  abbrev told : List (List ℕ) → ℕ → Option ℕ
  told rows at = first_mark rs (row_at rows at) t

  noted-at : (n : ℕ) (rows : List (List ℕ)) (p : Point) → length rows ≡ length f.blocks → told (noted f n rows p) p.block ≡ or_else (told rows p.block) (mark_if (is_end (slice_get f.blocks p.block) p.block p) (mark_at rs n t))
  noted-at n rows p len =
      noted-here rs rows p.block n t (is_terminator f p) (λ e. subst (λ (m : ℕ). p.block < m) (sym len) (terminator-within f.blocks p.block p.at e))
      ∙ ap (λ (x : Bool). or_else (told rows p.block) (mark_if x (mark_at rs n t))) (sym (is_end-same (slice_get f.blocks p.block) p))

  -- a point more of a window
  noted-told : (n : ℕ) (rows : List (List ℕ)) (p : Point) (at : ℕ) → length rows ≡ length f.blocks → told (noted f n rows p) at ≡ or_else (told rows at) (mark_if (is_end (slice_get f.blocks at) at p) (mark_at rs n t))
  noted-told n rows p at len = on (at == p.block) refl
    where
      on : (b : Bool) → (at == p.block) ≡ b → told (noted f n rows p) at ≡ or_else (told rows at) (mark_if (is_end (slice_get f.blocks at) at p) (mark_at rs n t))
      on true e =
          subst (λ (k : ℕ). told (noted f n rows p) k ≡ or_else (told rows k) (mark_if (is_end (slice_get f.blocks k) k p) (mark_at rs n t)))
          (sym (eqb-true at p.block e)) (noted-at n rows p len)
      on false e =
          noted-other rs rows p.block at n t (is_terminator f p) (false-apart at p.block e)
          ∙ sym (or_else-none (told rows at))
          ∙ ap (λ (x : Bool). or_else (told rows at) (mark_if x (mark_at rs n t))) (sym (is_end-other (slice_get f.blocks at) at p e))

  -- ---- all points of a window

  length-noted_by : (n : ℕ) (rows : List (List ℕ)) (ps : List Point) → length (noted_by f n rows ps) ≡ length rows
  length-noted_by n rows [] = refl
  length-noted_by n rows (p ∷ ps) = length-noted_by n (noted f n rows p) ps ∙ length-noted f n rows p

  noted_by-told : (n : ℕ) (rows : List (List ℕ)) (ps : List Point) (at : ℕ) → length rows ≡ length f.blocks → told (noted_by f n rows ps) at ≡ or_else (told rows at) (mark_if (list_any (is_end (slice_get f.blocks at) at) ps) (mark_at rs n t))
  noted_by-told n rows [] at len = sym (or_else-none (told rows at))
  noted_by-told n rows (p ∷ ps) at len =
      let o = slice_get f.blocks at in
      noted_by-told n (noted f n rows p) ps at (length-noted f n rows p ∙ len)
      ∙ ap (λ (m : Option ℕ). or_else m (mark_if (list_any (is_end o at) ps) (mark_at rs n t))) (noted-told n rows p at len)
      ∙ mark_if-either (told rows at) (mark_at rs n t) (is_end o at p) (list_any (is_end o at) ps)

  -- ---- all windows

  -- the mark of the first of the windows, from the n-th on, in which a point stands that passes a test
  abbrev pub chain : (Point → Bool) → ℕ → List Window → Option ℕ
  chain test n [] = None
  chain test n (w ∷ ws) = or_else (mark_if (list_any test w.inside) (mark_at rs n t)) (chain test (n + 1) ws)

  rows_by-told : (n : ℕ) (rows : List (List ℕ)) (ws : List Window) (at : ℕ) → length rows ≡ length f.blocks → told (rows_by f n rows ws) at ≡ or_else (told rows at) (chain (is_end (slice_get f.blocks at) at) n ws)
  rows_by-told n rows [] at len = sym (or_else-none (told rows at))
  rows_by-told n rows (w ∷ ws) at len =
      let o = slice_get f.blocks at in
      rows_by-told (n + 1) (noted_by f n rows w.inside) ws at (length-noted_by n rows w.inside ∙ len)
      ∙ ap (λ (m : Option ℕ). or_else m (chain (is_end o at) (n + 1) ws)) (noted_by-told n rows w.inside at len)
      ∙ or_else-assoc (told rows at) (mark_if (list_any (is_end o at) w.inside) (mark_at rs n t)) (chain (is_end o at) (n + 1) ws)

no-row : (n at : ℕ) → row_at (replicate n []) at ≡ []
no-row zero at = refl
no-row (suc n) zero = refl
no-row (suc n) (suc at) = no-row n at

length-rows : (n : ℕ) (row : List ℕ) → length (replicate n row) ≡ n
length-rows zero row = refl
length-rows (suc n) row = ap suc (length-rows n row)

-- the rows of all windows
pub rows_of-told : (f : Function) (rs : List Region) (ws : List Window) (at t : ℕ) → first_mark rs (row_at (rows_of f ws) at) t ≡ chain f rs t (is_end (slice_get f.blocks at) at) 0 ws
rows_of-told f rs ws at t =
    rows_by-told f rs t 0 (replicate (length f.blocks) []) ws at (length-rows (length f.blocks) [])
    ∙ ap (λ (ns : List ℕ). or_else (first_mark rs ns t) (chain f rs t (is_end (slice_get f.blocks at) at) 0 ws)) (no-row (length f.blocks) at)
