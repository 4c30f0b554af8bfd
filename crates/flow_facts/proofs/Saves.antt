-- The saves with their suspends, one after another.
use Rattle.std.proofs.Common.{◌≡◌, ℕ, suc, ◌+◌, ◌<◌, List, [], ◌∷◌, ◌++◌, length, map, take, get_or, refl, ap, sym, ◌∙◌, Option, Some, None}
use Rattle.std.specs.Prelude.{option_and_then, option_map, slice_get}
use Rattle.std.specs.List.{filter_map}
use Rattle.std.proofs.lemmas.List.{append-nil, map-append, take_more}
use Rattle.std.proofs.lemmas.List.Elements.{filter_map-append}
use Rattle.ir_model.specs.declared.instr.Instr.{Instr}
use Rattle.ir_model.specs.declared.module.Block.{Block}
use Rattle.ir_model.specs.declared.module.Function.{Function}
use Rattle.flow_points.specs.ir_paths.Windows.{call_result, instr_at, is_suspend_of, points_from, points_in, points_where, suspend_of}
use Rattle.flow_points.specs.ir_paths.declared.point.Point.{Point}
use Rattle.flow_points.specs.ir_paths.declared.point.Window.{Window}

abbrev pub with_suspend : Function → Point → Option (Point × Point)
with_suspend f save = option_map (λ suspend. (save, suspend)) (suspend_of f save)

none-from : (block at : ℕ) (is : List Instr) → points_from (is_suspend_of None) block at is ≡ []
none-from block at [] = refl
none-from block at (i ∷ is) = none-from block (suc at) is

none-in : (block : ℕ) (bs : List Block) → points_in (is_suspend_of None) block bs ≡ []
none-in block [] = refl
none-in block (b ∷ bs) = ap (λ (l : List Point). l ++ points_in (is_suspend_of None) (suc block) bs) (none-from block 0 b.instrs) ∙ none-in (suc block) bs

-- a save without a token
pub no-suspend : (f : Function) (save : Point) (token : Option ℕ) → token ≡ option_and_then call_result (instr_at f save) → token ≡ None → None ≡ suspend_of f save
no-suspend f save token e none =
    sym (ap (λ (o : Option ℕ). slice_get (points_where (is_suspend_of o) f) 0) (sym e ∙ none) ∙ ap (λ (l : List Point). slice_get l 0) (none-in 0 f.blocks))

-- a save with a token
pub some-suspend : (f : Function) (save : Point) (token : Option ℕ) (t : ℕ) (found : Option Point) → token ≡ option_and_then call_result (instr_at f save) → token ≡ Some t → found ≡ slice_get (points_where (is_suspend_of (Some t)) f) 0 → found ≡ suspend_of f save
some-suspend f save token t found e is h = h ∙ ap (λ (o : Option ℕ). slice_get (points_where (is_suspend_of o) f) 0) (sym is ∙ e)

nothing : (f : Function) (save : Point) → suspend_of f save ≡ None → filter_map (with_suspend f) (save ∷ []) ≡ []
nothing f save e = on (suspend_of f save) e
  where
    on : (o : Option Point) → o ≡ None → filter_map {Y = Point × Point} (λ (s : Point). option_map (λ suspend. (s, suspend)) o) (save ∷ []) ≡ []
    on None h = refl
    on (Some x) h = absurd (cc)

one : (f : Function) (save suspend : Point) → suspend_of f save ≡ Some suspend → filter_map (with_suspend f) (save ∷ []) ≡ (save, suspend) ∷ []
one f save suspend e = on (suspend_of f save) e
  where
    on : (o : Option Point) → o ≡ Some suspend → filter_map {Y = Point × Point} (λ (s : Point). option_map (λ suspend. (s, suspend)) o) (save ∷ []) ≡ (save, suspend) ∷ []
    on None h = absurd (cc)
    on (Some x) h = let same : x ≡ suspend = cc in ap (λ (y : Point). (save, y) ∷ []) same

abbrev pub pairs_of : List Window → List (Point × Point)
pairs_of ws = map (λ w. (w.save, w.suspend)) ws

pub saves-none : (f : Function) (saves : List Point) (i : ℕ) (save : Point) (all : List Window) → i < length saves → save ≡ get_or saves i save → suspend_of f save ≡ None → pairs_of all ≡ filter_map (with_suspend f) (take i saves) → pairs_of all ≡ filter_map (with_suspend f) (take (i + 1) saves)
saves-none f saves i save all lt e none so_far =
    so_far ∙ sym (append-nil (filter_map (with_suspend f) (take i saves)))
    ∙ ap (λ (l : List (Point × Point)). filter_map (with_suspend f) (take i saves) ++ l) (sym (nothing f save none))
    ∙ sym (filter_map-append (with_suspend f) (take i saves) (save ∷ []))
    ∙ ap (λ (y : Point). filter_map (with_suspend f) (take i saves ++ y ∷ [])) e
    ∙ ap (filter_map (with_suspend f)) (sym (take_more saves i save lt))

pub saves-one : (f : Function) (saves : List Point) (i : ℕ) (save suspend : Point) (w : Window) (all next : List Window) → i < length saves → save ≡ get_or saves i save → suspend_of f save ≡ Some suspend → w.save ≡ save → w.suspend ≡ suspend → next ≡ all ++ w ∷ [] → pairs_of all ≡ filter_map (with_suspend f) (take i saves) → pairs_of next ≡ filter_map (with_suspend f) (take (i + 1) saves)
saves-one f saves i save suspend w all next lt e is at_save at_suspend push so_far =
    ap pairs_of push ∙ map-append (λ (w : Window). (w.save, w.suspend)) all (w ∷ [])
    ∙ ap (λ (l : List (Point × Point)). l ++ (w.save, w.suspend) ∷ []) so_far
    ∙ ap (λ (y : Point). filter_map (with_suspend f) (take i saves) ++ (y, w.suspend) ∷ []) at_save
    ∙ ap (λ (y : Point). filter_map (with_suspend f) (take i saves) ++ (save, y) ∷ []) at_suspend
    ∙ ap (λ (l : List (Point × Point)). filter_map (with_suspend f) (take i saves) ++ l) (sym (one f save suspend is))
    ∙ sym (filter_map-append (with_suspend f) (take i saves) (save ∷ []))
    ∙ ap (λ (y : Point). filter_map (with_suspend f) (take i saves ++ y ∷ [])) e
    ∙ ap (filter_map (with_suspend f)) (sym (take_more saves i save lt))
