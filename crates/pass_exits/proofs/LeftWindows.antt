-- The regions of windows tell the first window that an edge leaves.
use Rattle.std.proofs.Common.{◌≡◌, ℕ, zero, suc, ◌+◌, ◌<◌, Bool, true, false, ◌||◌, ◌&&◌, List, [], ◌∷◌, ◌++◌, length, take, get_or, refl, subst, sym, ap, ◌∙◌, Option, Some, None, arith}
use Rattle.std.specs.Prelude.{All, map, not, slice_get, if◌then◌else◌}
use Rattle.std.specs.List.{list_any}
use Rattle.std.proofs.lemmas.List.{take_more}
use Rattle.std.proofs.lemmas.List.Elements.{recursion_from_All}
use Rattle.pass_edges.specs.Edges.{ends_in_suspend}
use Rattle.ir_model.specs.declared.module.Block.{Block}
use Rattle.ir_model.specs.declared.module.Function.{Function}
use Rattle.ir_paths.specs.Facts.{IsWindow}
use Rattle.ir_paths.specs.Paths.{has_point, same_point}
use Rattle.ir_paths.specs.Windows.{leaves, saves_of, windows_of}
use Rattle.ir_paths.specs.declared.point.Point.{Point}
use Rattle.ir_paths.specs.declared.point.Window.{Window}
use Rattle.ir_paths.proofs.Right.{facts_of_right}
use Rattle.run_source_facts.proofs.SameFacts.{SameWindow, SameWindows, leaves-same, windows-same}
use Rattle.pass_exits.specs.Exits.{end_of, front, mark_by, mark_from, mark_in, number_of, or_else}
use Rattle.pass_exits.specs.Regions.{AreRegionsOf, IsRegionOf, first_mark, mark_at, region_mark}
use Rattle.pass_exits.specs.Rows.{row_at, rows_of}
use Rattle.pass_exits.specs.declared.regions.Region.{Region}
use Rattle.pass_exits.proofs.Marks.{mark_if, mark_if-unless}
use Rattle.pass_exits.proofs.BesideBlocks.{chain, is_end, rows_of-told}

-- ---- regions one by one

-- one window more with its region
pub regions-push : (f : Function) (ws : List Window) (rs : List Region) (w : Window) (r : Region) → AreRegionsOf f ws rs → IsRegionOf f w r → AreRegionsOf f (ws ++ w ∷ []) (rs ++ r ∷ [])
regions-push f [] [] w r h g = (g, tt)
regions-push f [] (s ∷ rs) w r h g = absurd h
regions-push f (v ∷ ws) [] w r h g = absurd h
regions-push f (v ∷ ws) (s ∷ rs) w r h g = (h.0, regions-push f ws rs w r h.1 g)

pub regions-more : (f : Function) (ws : List Window) (i : ℕ) (w : Window) (r : Region) (rs all : List Region) → i < length ws → w ≡ get_or ws i w → AreRegionsOf f (take i ws) rs → IsRegionOf f w r → all ≡ rs ++ r ∷ [] → AreRegionsOf f (take (i + 1) ws) all
regions-more f ws i w r rs all lt e h g same =
    let longer : take i ws ++ w ∷ [] ≡ take (i + 1) ws = ap (λ (v : Window). take i ws ++ v ∷ []) e ∙ sym (take_more ws i w lt) in
    subst (λ (l : List Window). AreRegionsOf f l all) longer
    (subst (λ (l : List Region). AreRegionsOf f (take i ws ++ w ∷ []) l) (sym same) (regions-push f (take i ws) rs w r h g))

-- the number of a window's suspend, where an edge from the window to a block leaves it
abbrev window_mark : Function → ℕ → Option Window → Option ℕ
window_mark f t None = None
window_mark f t (Some w) = if has_point w.inside (front t) || same_point (front t) w.suspend then None else number_of f w.save

region-tells : (f : Function) (w : Window) (r : Region) (t : ℕ) → IsRegionOf f w r → region_mark r t ≡ window_mark f t (Some w)
region-tells f w r t h =
    ap (λ (x : Bool). if x || same_point (front t) r.suspend then None else r.number) (h.fronts t)
    ∙ ap (λ (p : Point). if has_point w.inside (front t) || same_point (front t) p then None else r.number) h.suspend
    ∙ ap (λ (o : Option ℕ). if has_point w.inside (front t) || same_point (front t) w.suspend then None else o) h.number

regions-tell : (f : Function) (ws : List Window) (rs : List Region) (t i : ℕ) → AreRegionsOf f ws rs → mark_at rs i t ≡ window_mark f t (slice_get ws i)
regions-tell f [] [] t i h = refl
regions-tell f [] (r ∷ rs) t i h = absurd h
regions-tell f (w ∷ ws) [] t i h = absurd h
regions-tell f (w ∷ ws) (r ∷ rs) t zero h = region-tells f w r t h.0
regions-tell f (w ∷ ws) (r ∷ rs) t (suc i) h = regions-tell f ws rs t i h.1

-- ---- all windows

none-passes : (ps : List Point) → list_any (λ (p : Point). false) ps ≡ false
none-passes [] = refl
none-passes (p ∷ ps) = none-passes ps

chain-none : (f : Function) (rs : List Region) (t n : ℕ) (ws : List Window) → chain f rs t (λ (p : Point). false) n ws ≡ None
chain-none f rs t n [] = refl
chain-none f rs t n (w ∷ ws) =
    ap (λ (x : Bool). or_else (mark_if x (mark_at rs n t)) (chain f rs t (λ (p : Point). false) (n + 1) ws)) (none-passes w.inside)
    ∙ chain-none f rs t (n + 1) ws

chain-some : (f : Function) (rs : List Region) (t n : ℕ) (e : Point) (ws : List Window) → ((i : ℕ) → mark_at rs (n + i) t ≡ window_mark f t (slice_get ws i)) → chain f rs t (same_point e) n ws ≡ mark_in f e (front t) ws
chain-some f rs t n e [] h = refl
chain-some f rs t n e (w ∷ ws) h =
    let first : n + 0 ≡ n = omega arith in
    let told : mark_at rs n t ≡ window_mark f t (Some w) = ap (λ (k : ℕ). mark_at rs k t) (sym first) ∙ h 0 in
    let inside = has_point w.inside e in
    let later : (i : ℕ) → mark_at rs (n + 1 + i) t ≡ window_mark f t (slice_get ws i) =
    λ i. let e : n + 1 + i ≡ n + suc i = omega arith in ap (λ (k : ℕ). mark_at rs k t) e ∙ h (suc i) in
    ap (λ (m : Option ℕ). or_else (mark_if inside m) (chain f rs t (same_point e) (n + 1) ws)) told
    ∙ ap (λ (m : Option ℕ). or_else m (chain f rs t (same_point e) (n + 1) ws))
    (mark_if-unless inside (has_point w.inside (front t)) (same_point (front t) w.suspend) (number_of f w.save))
    ∙ ap (or_else (mark_by f e (front t) w)) (chain-some f rs t (n + 1) e ws later)

chain-if : (f : Function) (rs : List Region) (t : ℕ) (e : Point) (s : Bool) (ws : List Window) → AreRegionsOf f ws rs → chain f rs t (λ (p : Point). not s && same_point e p) 0 ws ≡ (if s then None else mark_in f e (front t) ws)
chain-if f rs t e true ws h = chain-none f rs t 0 ws
chain-if f rs t e false ws h =
    chain-some f rs t 0 e ws (λ i. let e : 0 + i ≡ i = omega arith in ap (λ (k : ℕ). mark_at rs k t) e ∙ regions-tell f ws rs t i h)

chain-is : (f : Function) (rs : List Region) (t at : ℕ) (o : Option Block) (ws : List Window) → AreRegionsOf f ws rs → chain f rs t (is_end o at) 0 ws ≡ mark_from f at o (front t) ws
chain-is f rs t at None ws h = chain-none f rs t 0 ws
chain-is f rs t at (Some b) ws h = chain-if f rs t (end_of at b) (ends_in_suspend b.instrs) ws h

-- ---- windows that say the same

mark_in-same : (f : Function) (p q : Point) (xs ys : List Window) → SameWindows xs ys → mark_in f p q xs ≡ mark_in f p q ys
mark_in-same f p q [] [] h = refl
mark_in-same f p q [] (y ∷ ys) h = absurd h
mark_in-same f p q (x ∷ xs) [] h = absurd h
mark_in-same f p q (x ∷ xs) (y ∷ ys) h =
    let same : SameWindow x y = h.0 in
    ap (λ (b : Bool). or_else (if b then number_of f x.save else None) (mark_in f p q xs)) (leaves-same p q x y same)
    ∙ ap (λ (s : Point). or_else (if leaves p q y then number_of f s else None) (mark_in f p q xs)) same.save
    ∙ ap (or_else (mark_by f p q y)) (mark_in-same f p q xs ys h.1)

mark_from-same : (f : Function) (at : ℕ) (o : Option Block) (q : Point) (xs ys : List Window) → SameWindows xs ys → mark_from f at o q xs ≡ mark_from f at o q ys
mark_from-same f at None q xs ys h = refl
mark_from-same f at (Some b) q xs ys h = ap (λ (m : Option ℕ). if ends_in_suspend b.instrs then None else m) (mark_in-same f (end_of at b) q xs ys h)

found-same : (f : Function) (ws : List Window) → map (λ (w : Window). (w.save, w.suspend)) ws ≡ saves_of f → All (IsWindow f) ws → SameWindows ws (windows_of f)
found-same f ws saves windows =
    let right = facts_of_right f in
    windows-same f ws (windows_of f) (saves ∙ sym right.saves) (recursion_from_All (IsWindow f) ws windows) (recursion_from_All (IsWindow f) (windows_of f) right.windows)

-- ---- what regions and rows tell

pub regions-and-rows : (f : Function) (ws : List Window) (rs : List Region) (rows : List (List ℕ)) → map (λ (w : Window). (w.save, w.suspend)) ws ≡ saves_of f → All (IsWindow f) ws → AreRegionsOf f ws rs → rows ≡ rows_of f ws → (at t : ℕ) → first_mark rs (row_at rows at) t ≡ mark_from f at (slice_get f.blocks at) (front t) (windows_of f)
regions-and-rows f ws rs rows saves windows regions same at t =
    ap (λ (r : List (List ℕ)). first_mark rs (row_at r at) t) same
    ∙ rows_of-told f rs ws at t
    ∙ chain-is f rs t at (slice_get f.blocks at) ws regions
    ∙ mark_from-same f at (slice_get f.blocks at) (front t) ws (windows_of f) (found-same f ws saves windows)
