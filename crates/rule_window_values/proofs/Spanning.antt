-- The spans of windows.
use Rattle.std.proofs.Common.{◌≡◌, ℕ, zero, suc, ◌+◌, ◌<◌, Bool, true, false, List, [], ◌∷◌, ◌++◌, length, take, get_or, Some, None, Option, refl, sym, ap, ◌∙◌, subst, ⊎_elim, inl}
use Rattle.std.specs.Prelude.{◌↔◌, All, IsTrue, option_to_list}
use Rattle.std.proofs.lemmas.Bool.{false≢true}
use Rattle.std.proofs.lemmas.List.{map-append, take_more}
use Rattle.std.proofs.lemmas.List.Elements.{All-get_or}
use Rattle.rule_uses.proofs.flow_blocks.Elements.{listed_append}
use Rattle.flow_solver.proofs.Lists.{listed_cases, listed_front, listed_last}
use Rattle.flow_solver.specs.Paths.{IsListed}
use Rattle.ir_parts.specs.Contents.{result_of}
use Rattle.ir_model.specs.Names.{position_of}
use Rattle.ir_model.specs.declared.instr.Instr.{Instr}
use Rattle.ir_model.specs.declared.module.Function.{Function}
use Rattle.ir_paths.proofs.Search.{either, or_left, or_right, same_point-itself, same_point-same}
use Rattle.ir_paths.specs.Facts.{IsWindow}
use Rattle.ir_paths.specs.Paths.{has_point, same_point}
use Rattle.ir_paths.specs.Windows.{IsInWindow, destroy_label, instr_at, resume_label}
use Rattle.ir_paths.specs.declared.point.Point.{Point}
use Rattle.ir_paths.specs.declared.point.Window.{Window}
use Rattle.rule_window_values.proofs.Bits.{listed_back}
use Rattle.rule_window_values.specs.Kept.{AtSuspend, ByInstr, ByPhi, Inside, IsFrontIn, IsMadeIn, front, phi_results}
use Rattle.rule_window_values.specs.Spans.{AreSpans, ComesFrom, HasSpan, IsFrontOf, IsSpanOf, front_values, inside_values, pairs_of, point_values, result_in, values_if}
use Rattle.rule_window_values.specs.declared.spans.Span.{Span}

-- ---- the values at points

record IsAt (f : Function) (ps : List Point) (v : ℕ) : Type 0 where
  point : Point
  is_inside : IsTrue (has_point ps point)
  is_listed : IsListed v (point_values f point)

at_from : (f : Function) (ps : List Point) (v : ℕ) → IsListed v (inside_values f ps) → IsAt f ps v
at_from f [] v h = absurd h
at_from f (p ∷ ps) v h = ⊎_elim here (λ l. later (at_from f ps v l)) (listed_append v (point_values f p) (inside_values f ps) h)
  where
    here : IsListed v (point_values f p) → IsAt f (p ∷ ps) v
    here l = record { point = p; is_inside = or_left (same_point p p) (has_point ps p) (same_point-itself p); is_listed = l }

    later : IsAt f ps v → IsAt f (p ∷ ps) v
    later rest =
        record { point = rest.point; is_inside = or_right (same_point rest.point p) (has_point ps rest.point) rest.is_inside; is_listed = rest.is_listed }

at_to : (f : Function) (ps : List Point) (v : ℕ) (p : Point) → IsTrue (has_point ps p) → IsListed v (point_values f p) → IsListed v (inside_values f ps)
at_to f [] v p h l = absurd (false≢true h)
at_to f (q ∷ ps) v p h l = ⊎_elim
    (λ same. listed_front v (point_values f q) (inside_values f ps) (subst (λ (x : Point). IsListed v (point_values f x)) (same_point-same p q same) l))
    (λ rest. listed_back v (point_values f q) (inside_values f ps) (at_to f ps v p rest l))
    (either (same_point p q) (has_point ps p) h)

-- ---- one window

front_made : (f : Function) (k s : Point) (block at v : ℕ) → IsInWindow f k s (record { block = block; at = at }) → IsListed v (front_values f block at) → IsMadeIn f k s v
front_made f k s block zero v w l = ByPhi block (Inside w) l
front_made f k s block (suc at) v w l = absurd l

result_made : (f : Function) (k s p : Point) (i : Instr) (v : ℕ) → IsInWindow f k s p → instr_at f p ≡ Some i → (r : Option ℕ) → result_of i ≡ r → IsListed v (option_to_list r) → IsMadeIn f k s v
result_made f k s p i v w at None e l = absurd l
result_made f k s p i v w at (Some u) e l = ⊎_elim (λ same. ByInstr p i w at (e ∙ ap (λ (x : ℕ). Some x) (sym same))) (λ none. absurd none) l

instr_made : (f : Function) (k s p : Point) (v : ℕ) → IsInWindow f k s p → (o : Option Instr) → instr_at f p ≡ o → IsListed v (result_in o) → IsMadeIn f k s v
instr_made f k s p v w None e l = absurd l
instr_made f k s p v w (Some i) e l = result_made f k s p i v w e (result_of i) refl l

point_made : (f : Function) (k s p : Point) (v : ℕ) → IsInWindow f k s p → IsListed v (point_values f p) → IsMadeIn f k s v
point_made f k s p v w l = ⊎_elim
    (λ phi. front_made f k s p.block p.at v w phi)
    (λ made. instr_made f k s p v w (instr_at f p) refl made)
    (listed_append v (front_values f p.block p.at) (result_in (instr_at f p)) l)

instr_listed : (f : Function) (p : Point) (i : Instr) (v : ℕ) → instr_at f p ≡ Some i → result_of i ≡ Some v → IsListed v (point_values f p)
instr_listed f p i v at r =
    listed_back v (front_values f p.block p.at) (result_in (instr_at f p))
    (subst (λ (o : Option Instr). IsListed v (result_in o)) (sym at) (subst (λ (o : Option ℕ). IsListed v (option_to_list o)) (sym r) (inl refl)))

module _ (f : Function) (w : Window) (is_window : IsWindow f w) (front_is : Bool) (is_front : IsTrue front_is ↔ IsFrontOf f w.save w.suspend) where
  abbrev made_here : List ℕ
  made_here = inside_values f w.inside ++ values_if front_is (phi_results f w.suspend.block)

  front_block : IsFrontOf f w.save w.suspend → front w.suspend.block ≡ w.suspend
  front_block e = sym (ap (λ (n : ℕ). record { block = w.suspend.block; at = n }) e.first)

  if_front : (v : ℕ) (b : Bool) → front_is ≡ b → IsListed v (values_if b (phi_results f w.suspend.block)) → IsMadeIn f w.save w.suspend v
  if_front v true e l = let is = is_front.0 e in ByPhi w.suspend.block (AtSuspend (front_block is) is.path) l
  if_front v false e l = absurd l

  made_sound : (v : ℕ) → IsListed v made_here → IsMadeIn f w.save w.suspend v
  made_sound v h = ⊎_elim
      (λ inside. let at = at_from f w.inside v inside in point_made f w.save w.suspend at.point v ((is_window.inside at.point).0 at.is_inside) at.is_listed)
      (λ phi. if_front v front_is refl phi)
      (listed_append v (inside_values f w.inside) (values_if front_is (phi_results f w.suspend.block)) h)

  inside_made : (v : ℕ) (p : Point) → IsInWindow f w.save w.suspend p → IsListed v (point_values f p) → IsListed v made_here
  inside_made v p i l = listed_front v (inside_values f w.inside) (values_if front_is (phi_results f w.suspend.block)) (at_to f w.inside v p ((is_window.inside p).1 i) l)

  phi_made : (v block : ℕ) → IsFrontIn f w.save w.suspend block → IsListed v (phi_results f block) → IsListed v made_here
  phi_made v block (Inside i) l = inside_made v (front block) i (listed_front v (phi_results f block) (result_in (instr_at f (front block))) l)
  phi_made v block (AtSuspend e path) l =
      let first : w.suspend.at ≡ 0 = sym (ap (λ (p : Point). p.at) e) in
      let is : front_is ≡ true = is_front.1 (record { first = first; path = path }) in
      listed_back v (inside_values f w.inside) (values_if front_is (phi_results f w.suspend.block))
      (subst (λ (b : Bool). IsListed v (values_if b (phi_results f w.suspend.block))) (sym is) (subst (λ (p : Point). IsListed v (phi_results f p.block)) e l))

  made_complete : (v : ℕ) → IsMadeIn f w.save w.suspend v → IsListed v made_here
  made_complete v (ByInstr p i inside at r) = inside_made v p inside (instr_listed f p i v at r)
  made_complete v (ByPhi block inside l) = phi_made v block inside l

  pub span_made : (block resumed destroyed : ℕ) (vs : List ℕ) → block ≡ w.suspend.block → resumed ≡ position_of f (resume_label f w.suspend) → destroyed ≡ position_of f (destroy_label f w.suspend) → vs ≡ made_here →
      IsSpanOf f w.save w.suspend (record { block = block; resumed = resumed; destroyed = destroyed; values = vs })
  span_made block resumed destroyed vs b r d e = record {
    block = b;
    resumed = r;
    destroyed = d;
    values = λ v. ((λ l. made_sound v (subst (IsListed v) e l)), (λ m. subst (IsListed v) (sym e) (made_complete v m)));
  }

-- ---- spans in a row

pub none_spanned : (f : Function) → AreSpans f [] []
none_spanned f = record { each = λ span l. absurd l; all = λ k s l. absurd l }

one_spanned : (f : Function) (saves : List (Point × Point)) (spans : List Span) (k s : Point) (span : Span) → IsSpanOf f k s span → AreSpans f saves spans → AreSpans f (saves ++ (k, s) ∷ []) (spans ++ span ∷ [])
one_spanned f saves spans k s span is h = record {
  each = λ x l. ⊎_elim (λ old. older x (h.each x old)) (λ new. subst (ComesFrom f (saves ++ (k, s) ∷ [])) (sym new) newest) (listed_cases x span spans l);
  all = λ a b l. ⊎_elim (λ old. still a b (h.all a b old)) (λ new. named a b new) (listed_cases (a, b) (k, s) saves l);
}
  where
    older : (x : Span) → ComesFrom f saves x → ComesFrom f (saves ++ (k, s) ∷ []) x
    older x c = record { save = c.save; suspend = c.suspend; is_save = listed_front (c.save, c.suspend) saves ((k, s) ∷ []) c.is_save; is_span = c.is_span }

    newest : ComesFrom f (saves ++ (k, s) ∷ []) span
    newest = record { save = k; suspend = s; is_save = listed_last (k, s) saves; is_span = is }

    still : (a b : Point) → HasSpan f a b spans → HasSpan f a b (spans ++ span ∷ [])
    still a b c = record { span = c.span; is_listed = listed_front c.span spans (span ∷ []) c.is_listed; is_span = c.is_span }

    named : (a b : Point) → ◌≡◌ {A = Point × Point} (a, b) (k, s) → HasSpan f a b (spans ++ span ∷ [])
    named a b e = record {
      span = span;
      is_listed = listed_last span spans;
      is_span = subst (λ (p : Point × Point). IsSpanOf f p.0 p.1 span) (sym e) is;
    }

pub more_spanned : (f : Function) (i : ℕ) (ws : List Window) (w : Window) (span : Span) (spans spans2 : List Span) → i < length ws → w ≡ get_or ws i w → IsSpanOf f w.save w.suspend span → spans2 ≡ spans ++ span ∷ [] →
    AreSpans f (pairs_of (take i ws)) spans → AreSpans f (pairs_of (take (i + 1) ws)) spans2
more_spanned f i ws w span spans spans2 lt is of_it pushed h =
    subst (λ (l : List (Point × Point)). AreSpans f l spans2) (sym taken)
    (subst (AreSpans f (pairs_of (take i ws) ++ (w.save, w.suspend) ∷ [])) (sym pushed) (one_spanned f (pairs_of (take i ws)) spans w.save w.suspend span of_it h))
  where
    taken : pairs_of (take (i + 1) ws) ≡ pairs_of (take i ws) ++ (w.save, w.suspend) ∷ []
    taken =
        ap pairs_of (take_more ws i w lt ∙ ap (λ (x : Window). take i ws ++ x ∷ []) (sym is))
        ∙ map-append (λ (x : Window). (x.save, x.suspend)) (take i ws) (w ∷ [])

pub window_at : (f : Function) (i : ℕ) (ws : List Window) (w : Window) → i < length ws → w ≡ get_or ws i w → All (IsWindow f) ws → IsWindow f w
window_at f i ws w lt is all = subst (IsWindow f) (sym is) (All-get_or (IsWindow f) ws i w lt all)
