-- The windows of saves (rule K6), where paths and what stands at points stay: where begin gets a name, and where uses are renamed.
use Rattle.std.proofs.Common.{◌≡◌, inl, inr, ℕ, true, List, [], ◌∷◌, sym, ap, ◌∙◌}
use Rattle.std.specs.Prelude.{Some, None}
use Rattle.ir_laws.proofs.facts.Members.{each_there}
use Rattle.rule_laws.proofs.rules.renamed.Outside.{none_breaks}
use Rattle.ir_laws.proofs.paths.renamed.Outside.{where_pass}
use Rattle.rule_laws.proofs.rules.path_rules.Holding.{first_none}
use Rattle.ir_laws.proofs.paths.path_rules.Where.{where_has}
use Rattle.ir_laws.specs.ir_model.declared.instr.Instr.{Instr}
use Rattle.ir_laws.specs.ir_model.declared.module.Function.{Function}
use Rattle.ir_laws.specs.ir_paths.Paths.{IsPath, Leads, has_point, nexts}
use Rattle.ir_laws.specs.ir_paths.Windows.{IsInWindow, instr_at, points_where}
use Rattle.ir_laws.specs.ir_paths.declared.point.Point.{Point}
use Rattle.rule_windows.specs.Points.{place_of}
use Rattle.rule_windows.specs.Windows.{Back, Between, BreaksSave, BreaksWindow, Call, ComesBack, IsFirstWindow, IsWrong, Left, NoPath, NotOne, ends_window_at, is_final_at, own_edges, suspends_of}
use Rattle.ir_laws.proofs.facts.Options.{passing_is}
use Rattle.ir_laws.proofs.paths.path_rules.Windows.{each_point, got_has, is_save}

-- ---- the rule, by points

pub record NoWrongWindow (f : Function) : Type 0 where
  pub each : (k : Point) (i : Instr) → instr_at f k ≡ Some i → is_save i ≡ true → BreaksWindow f k → ⊥

module _ (func : ℕ) (f : Function) where
  pub of_window : f.coroutine ≡ true → IsFirstWindow func f None → NoWrongWindow f
  of_window coroutine none = record {
    each = λ k i e save breaks.
        each_point (λ p. BreaksSave f p → ⊥) (points_where is_save f) k (none_breaks (BreaksSave f) (place_of func f) (points_where is_save f) none) (where_has is_save f k i e save) (coroutine, breaks);
  }

  pub to_window : NoWrongWindow f → IsFirstWindow func f None
  to_window h =
      first_none (BreaksSave f) (place_of func f) (points_where is_save f)
      (each_there (λ p. BreaksSave f p → ⊥) (points_where is_save f) (λ n p e breaks.
      let x = passing_is is_save (instr_at f p) (where_pass is_save f p (got_has (points_where is_save f) n p e)) in
      h.each p x.0 x.1.0 x.1.1 breaks.1))

-- ---- functions with the same paths, and the same calls at their points

pub record IsAlike (f g : Function) : Type 0 where
  pub nexts : (p : Point) → nexts g p ≡ nexts f p
  pub saves : (k : Point) (i : Instr) → instr_at g k ≡ Some i → is_save i ≡ true → (j : Instr) × ((instr_at f k ≡ Some j) × (is_save j ≡ true))
  pub suspends : (k : Point) (j : Instr) → instr_at f k ≡ Some j → is_save j ≡ true → suspends_of g k ≡ suspends_of f k
  pub ends : (p : Point) → ends_window_at g p ≡ ends_window_at f p
  pub final : (p : Point) → is_final_at g p ≡ is_final_at f p
  pub edges : (s : Point) → own_edges g s ≡ own_edges f s

module _ (f g : Function) (alike : IsAlike f g) where
  path_back : (avoided : List Point) (between : List Point) (p q : Point) → IsPath g avoided p between q → IsPath f avoided p between q
  path_back avoided [] p q h = ap (λ (ps : List Point). has_point ps q) (sym (alike.nexts p)) ∙ h
  path_back avoided (v ∷ between) p q h = (ap (λ (ps : List Point). has_point ps v) (sym (alike.nexts p)) ∙ h.0, h.1, path_back avoided between v q h.2)

  path_now : (avoided : List Point) (between : List Point) (p q : Point) → IsPath f avoided p between q → IsPath g avoided p between q
  path_now avoided [] p q h = ap (λ (ps : List Point). has_point ps q) (alike.nexts p) ∙ h
  path_now avoided (v ∷ between) p q h = (ap (λ (ps : List Point). has_point ps v) (alike.nexts p) ∙ h.0, h.1, path_now avoided between v q h.2)

  pub leads_back : (avoided : List Point) (p q : Point) → Leads g avoided p q → Leads f avoided p q
  leads_back avoided p q l = record { between = l.between; is_path = path_back avoided l.between p q l.is_path }

  leads_now : (avoided : List Point) (p q : Point) → Leads f avoided p q → Leads g avoided p q
  leads_now avoided p q l = record { between = l.between; is_path = path_now avoided l.between p q l.is_path }

  pub inside_back : (k s p : Point) → IsInWindow g k s p → IsInWindow f k s p
  inside_back k s p w = record { is_not_save = w.is_not_save; is_not_suspend = w.is_not_suspend; from_save = leads_back (k ∷ s ∷ []) k p w.from_save; to_suspend = leads_back (k ∷ s ∷ []) p s w.to_suspend }

  pub inside_now : (k s p : Point) → IsInWindow f k s p → IsInWindow g k s p
  inside_now k s p w = record { is_not_save = w.is_not_save; is_not_suspend = w.is_not_suspend; from_save = leads_now (k ∷ s ∷ []) k p w.from_save; to_suspend = leads_now (k ∷ s ∷ []) p s w.to_suspend }

  comes_back : (k s x : Point) → ComesBack g k s x → ComesBack f k s x
  comes_back k s x (inl e) = inl e
  comes_back k s x (inr h) = inr (h.0, leads_back (k ∷ s ∷ []) x s h.1)

  wrong_back : (k s : Point) → IsWrong g k s → IsWrong f k s
  wrong_back k s (NoPath never) = NoPath (λ l. never (leads_now (k ∷ s ∷ []) k s l))
  wrong_back k s (Back h) = Back (record { first = h.first; is_first = ap (λ (ps : List Point). has_point ps h.first) (sym (alike.edges s)) ∙ h.is_first; comes_back = comes_back k s h.first h.comes_back })
  wrong_back k s (Call h) = Call (record { point = h.point; is_inside = inside_back k s h.point h.is_inside; ends = sym (alike.ends h.point) ∙ h.ends })
  wrong_back k s (Left final h) = Left (sym (alike.final s) ∙ final) (record {
    from = h.from;
    to = h.to;
    is_inside = inside_back k s h.from h.is_inside;
    is_edge = ap (λ (ps : List Point). has_point ps h.to) (sym (alike.nexts h.from)) ∙ h.is_edge;
    is_outside = λ w. h.is_outside (inside_now k s h.to w);
    is_not_suspend = h.is_not_suspend;
  })

  breaks_back : (k : Point) → suspends_of g k ≡ suspends_of f k → BreaksWindow g k → BreaksWindow f k
  breaks_back k same (NotOne never) = NotOne (λ s e. never s (same ∙ e))
  breaks_back k same (Between s e wrong) = Between s (sym same ∙ e) (wrong_back k s wrong)

  pub windows_alike : NoWrongWindow f → NoWrongWindow g
  windows_alike h = record {
    each = λ k i e save breaks. let x = alike.saves k i e save in h.each k x.0 x.1.0 x.1.1 (breaks_back k (alike.suspends k x.0 x.1.0 x.1.1) breaks);
  }
