-- The points in windows, one save after another.
use Rattle.std.proofs.Common.{◌≡◌, ℕ, zero, suc, ◌+◌, ◌<◌, ◌≤◌, Bool, ◌||◌, List, [], ◌∷◌, ◌++◌, length, get_or, drop, drop-cons, add-one, Some, None, Option, refl, sym, ap, ◌∙◌, subst, inl, inr, arith}
use Rattle.std.specs.Prelude.{IsTrue, option_and_then, option_map, slice_get, ◌⊎◌, ◌↔◌}
use Rattle.std.specs.List.{cons_option, filter_map}
use Rattle.ir_model.specs.declared.instr.Instr.{Instr}
use Rattle.ir_model.specs.declared.module.Block.{Block}
use Rattle.ir_model.specs.declared.module.Function.{Function}
use Rattle.ir_model.specs.declared.operand.Intrinsic.{Intrinsic}
use Rattle.ir_paths.proofs.Search.{either, or_left, or_right}
use Rattle.ir_paths.specs.Paths.{has_point}
use Rattle.ir_paths.specs.Windows.{IsInWindow, call_result, instr_at, is_call_of, is_suspend_of, points_from, points_in, points_where, suspend_of}
use Rattle.ir_paths.specs.declared.point.Point.{Point}
use Rattle.flow_points.specs.Reached.{AreInWindow, IsReached}
use Rattle.flow_points.specs.Rows.{is_marked}
use Rattle.rule_slots.specs.Closed.{HasWindow, HaveWindows, IsClosed, IsInOneOf, IsInWindowOf, IsInWindows}
use Rattle.rule_windows.specs.Points.{ends}
use Rattle.rule_windows.specs.Sets.{AreThose}
use Rattle.rule_windows.specs.Tokens.{AreTokensOf}

-- ---- the suspend of a save

none-from : (block at : ℕ) (is : List Instr) → points_from (is_suspend_of None) block at is ≡ []
none-from block at [] = refl
none-from block at (i ∷ is) = none-from block (suc at) is

none-in : (block : ℕ) (bs : List Block) → points_in (is_suspend_of None) block bs ≡ []
none-in block [] = refl
none-in block (b ∷ bs) = ap (λ (l : List Point). l ++ points_in (is_suspend_of None) (suc block) bs) (none-from block 0 b.instrs) ∙ none-in (suc block) bs

no-token : (f : Function) (k : Point) → option_and_then call_result (instr_at f k) ≡ None → None ≡ suspend_of f k
no-token f k e =
    sym (ap (λ (o : Option ℕ). slice_get (points_where (is_suspend_of o) f) 0) e ∙ ap (λ (l : List Point). slice_get l 0) (none-in 0 f.blocks))

pub no_save : (f : Function) (k : Point) → instr_at f k ≡ None → None ≡ suspend_of f k
no_save f k e = no-token f k (ap (option_and_then call_result) e)

pub no_result : (f : Function) (k : Point) (i : Instr) (o : Option ℕ) → instr_at f k ≡ Some i → o ≡ call_result i → o ≡ None → None ≡ suspend_of f k
no_result f k i o e r none = no-token f k (ap (option_and_then call_result) e ∙ sym r ∙ none)

pub by_token : (f : Function) (k : Point) (i : Instr) (o : Option ℕ) (t : ℕ) (rows : List (List Point)) (row : List Point) (s : Option Point) → AreTokensOf f rows → instr_at f k ≡ Some i → o ≡ call_result i → o ≡ Some t → slice_get rows t ≡ Some row → s ≡ slice_get row 0 → s ≡ suspend_of f k
by_token f k i o t rows row s tokens e r some is first =
    first
    ∙ ap (λ (l : List Point). slice_get l 0) (tokens.each t row is)
    ∙ ap (λ (u : Option ℕ). slice_get (points_where (is_suspend_of u) f) 0) (sym (ap (option_and_then call_result) e ∙ sym r ∙ some))

-- ---- one window

same-suspend : (s t : Point) → Some s ≡ Some t → s ≡ t
same-suspend s t e = cc

some-none : (s : Point) → Some s ≡ None → ⊥
some-none s e = cc

pub no_window : (f : Function) (k : Point) (o : Option Point) (set : List (List Bool)) → o ≡ suspend_of f k → o ≡ None → HasWindow f k set set
no_window f k o set is none = record { each = λ p. ((λ m. inl m), (λ h. by p h)) }
  where
    by : (p : Point) → IsTrue (is_marked set p) ⊎ IsInWindowOf f k p → IsTrue (is_marked set p)
    by p (inl m) = m
    by p (inr w) = absurd (some-none w.suspend (sym w.is_suspend ∙ sym is ∙ none))

pub with_window : (f : Function) (k s : Point) (o : Option Point) (old new : List (List Bool)) (inside points : List Point) → o ≡ suspend_of f k → o ≡ Some s → AreInWindow f k s inside → points ≡ inside → ((p : Point) → is_marked new p ≡ (is_marked old p || has_point points p)) → HasWindow f k old new
with_window f k s o old new inside points is some window e more = record { each = λ p. (forth p, back p) }
  where
    forth : (p : Point) → IsTrue (is_marked new p) → IsTrue (is_marked old p) ⊎ IsInWindowOf f k p
    forth p m =
        elim (either (is_marked old p) (has_point points p) (sym (more p) ∙ m)) [
          | inl a ↦ inl a
          | inr b ↦ inr (record { suspend = s; is_suspend = sym is ∙ some; is_inside = (window.each p).0 (sym (ap (λ (l : List Point). has_point l p) e) ∙ b) })
        ]

    back : (p : Point) → IsTrue (is_marked old p) ⊎ IsInWindowOf f k p → IsTrue (is_marked new p)
    back p (inl m) = more p ∙ or_left (is_marked old p) (has_point points p) m
    back p (inr w) =
        let same = same-suspend w.suspend s (sym w.is_suspend ∙ sym is ∙ some) in
        more p ∙ or_right (is_marked old p) (has_point points p) (ap (λ (l : List Point). has_point l p) e ∙ (window.each p).1 (subst (λ (t : Point). IsInWindow f k t p) same w.is_inside))

-- ---- all windows

abbrev MarkedOr : Function → List (List Bool) → List Point → Point → Type 0
MarkedOr f set saves p = IsTrue (is_marked set p) ⊎ IsInWindows f saves p

pub windows_step : (f : Function) (saves : List Point) (i : ℕ) (k : Point) (first old new : List (List Bool)) → i < length saves → HasWindow f (get_or saves i k) old new → ((p : Point) → MarkedOr f old (drop i saves) p ↔ MarkedOr f first saves p) → (p : Point) → MarkedOr f new (drop (i + 1) saves) p ↔ MarkedOr f first saves p
windows_step f saves i k first old new lt has rest p = (forth, λ h. back ((rest p).1 h))
  where
    save : Point
    save = get_or saves i k

    split : drop i saves ≡ save ∷ drop (i + 1) saves
    split = drop-cons saves i k lt ∙ ap (λ (n : ℕ). save ∷ drop n saves) (sym (add-one i))

    into : IsInWindows f (save ∷ drop (i + 1) saves) p → IsInWindows f (drop i saves) p
    into w = subst (λ (l : List Point). IsInWindows f l p) (sym split) w

    out : IsInWindows f (drop i saves) p → IsInWindows f (save ∷ drop (i + 1) saves) p
    out w = subst (λ (l : List Point). IsInWindows f l p) split w

    here : IsTrue (is_marked old p) ⊎ IsInWindowOf f save p → MarkedOr f old (drop i saves) p
    here (inl m) = inl m
    here (inr w) = inr (into (inl w))

    forth : MarkedOr f new (drop (i + 1) saves) p → MarkedOr f first saves p
    forth (inl m) = (rest p).0 (here ((has.each p).0 m))
    forth (inr later) = (rest p).0 (inr (into (inr later)))

    back : MarkedOr f old (drop i saves) p → MarkedOr f new (drop (i + 1) saves) p
    back (inl m) = inl ((has.each p).1 (inl m))
    back (inr w) = by (out w)
      where
        by : IsInWindows f (save ∷ drop (i + 1) saves) p → MarkedOr f new (drop (i + 1) saves) p
        by (inl one) = inl ((has.each p).1 (inr one))
        by (inr later) = inr later

past : (xs : List Point) (i : ℕ) → length xs ≤ i → drop i xs ≡ []
past [] zero le = refl
past [] (suc i) le = refl
past (x ∷ xs) zero le = absurd (omega arith)
past (x ∷ xs) (suc i) le = past xs i (omega arith)

pub windows_last : (f : Function) (saves : List Point) (i : ℕ) (first set : List (List Bool)) → length saves ≤ i → ((p : Point) → MarkedOr f set (drop i saves) p ↔ MarkedOr f first saves p) → HaveWindows f saves first set
windows_last f saves i first set le rest = record { each = λ p. ((λ m. (rest p).0 (inl m)), (λ h. by p ((rest p).1 h))) }
  where
    by : (p : Point) → MarkedOr f set (drop i saves) p → IsTrue (is_marked set p)
    by p (inl m) = m
    by p (inr w) = absurd (subst (λ (l : List Point). IsInWindows f l p) (past saves i le) w)

-- ---- the saves with their suspends

abbrev pair-of : Function → Point → Option (Point × Point)
pair-of f save = option_map (λ suspend. (save, suspend)) (suspend_of f save)

abbrev Pairs : Function → List Point → Point → Type 0
Pairs f saves p = IsInOneOf f (filter_map (pair-of f) saves) p

abbrev OrPairs : Function → Point → List Point → Point → Option Point → Type 0
OrPairs f k saves p o = IsInOneOf f (cons_option (option_map (λ suspend. (k, suspend)) o) (filter_map (pair-of f) saves)) p

to-pairs : (f : Function) (p : Point) (saves : List Point) → IsInWindows f saves p → Pairs f saves p
to-pairs f p [] h = absurd h
to-pairs f p (k ∷ saves) (inl w) = subst (OrPairs f k saves p) (sym w.is_suspend) (inl w.is_inside)
to-pairs f p (k ∷ saves) (inr later) = by (to-pairs f p saves later) (suspend_of f k)
  where
    by : Pairs f saves p → (o : Option Point) → OrPairs f k saves p o
    by there None = there
    by there (Some s) = inr there

from-pairs : (f : Function) (p : Point) (saves : List Point) → Pairs f saves p → IsInWindows f saves p
from-pairs f p [] h = absurd h
from-pairs f p (k ∷ saves) h = by (from-pairs f p saves) (suspend_of f k) refl h
  where
    by : (Pairs f saves p → IsInWindows f saves p) → (o : Option Point) → suspend_of f k ≡ o → OrPairs f k saves p o → IsInWindows f (k ∷ saves) p
    by later None e g = inr (later g)
    by later (Some s) e (inl w) = inl (record { suspend = s; is_suspend = e; is_inside = w })
    by later (Some s) e (inr g) = inr (later g)

-- ---- in windows and after the end

pub closed_is : (f : Function) (ends-found saves slice none : List Point) (old new : List (List Bool)) → ends-found ≡ ends f → none ≡ [] → saves ≡ points_where (is_call_of Intrinsic.CoroSave) f → slice ≡ saves → AreThose (IsReached f ends-found none) old → HaveWindows f slice old new → AreThose (IsClosed f) new
closed_is f ends-found saves slice none old new ee en es el reached windows = record { each = λ p. ((λ m. forth p ((windows.each p).0 m)), (λ h. (windows.each p).1 (back p h))) }
  where
    is : slice ≡ points_where (is_call_of Intrinsic.CoroSave) f
    is = el ∙ es

    after : (p : Point) → IsReached f ends-found none p → IsReached f (ends f) [] p
    after p r = subst (λ (l : List Point). IsReached f (ends f) l p) en (subst (λ (l : List Point). IsReached f l none p) ee r)

    before : (p : Point) → IsReached f (ends f) [] p → IsReached f ends-found none p
    before p r = subst (λ (l : List Point). IsReached f l none p) (sym ee) (subst (λ (l : List Point). IsReached f (ends f) l p) (sym en) r)

    forth : (p : Point) → MarkedOr f old slice p → IsClosed f p
    forth p (inl m) = inl (after p ((reached.each p).0 m))
    forth p (inr w) = inr (to-pairs f p (points_where (is_call_of Intrinsic.CoroSave) f) (subst (λ (l : List Point). IsInWindows f l p) is w))

    back : (p : Point) → IsClosed f p → MarkedOr f old slice p
    back p (inl r) = inl ((reached.each p).1 (before p r))
    back p (inr w) = inr (subst (λ (l : List Point). IsInWindows f l p) (sym is) (from-pairs f p (points_where (is_call_of Intrinsic.CoroSave) f) w))
