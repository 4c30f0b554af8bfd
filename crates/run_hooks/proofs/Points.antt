-- From where paths lead to a suspend without its save.
use Rattle.std.proofs.Common.{◌≡◌, ◌⊎◌, inl, inr, ℕ, ◌+◌, Bool, true, false, List, [], ◌∷◌, Some, refl}
use Rattle.std.proofs.Common.{sym, ap, ◌∙◌, subst, ◌&&◌, not}
use Rattle.std.specs.Prelude.{◌||◌}
use Rattle.pass_renewed_proof.specs.ir_model.Names.{intrinsic_number}
use Rattle.pass_renewed_proof.specs.ir_model.declared.instr.Instr.{Instr}
use Rattle.pass_renewed_proof.specs.ir_model.declared.instr.Terminator.{Terminator}
use Rattle.pass_renewed_proof.specs.ir_model.declared.module.Function.{Function}
use Rattle.pass_renewed_proof.specs.ir_model.declared.module.Module.{Module}
use Rattle.pass_renewed_proof.specs.ir_model.declared.operand.Callee.{Callee}
use Rattle.pass_renewed_proof.specs.ir_model.declared.operand.Intrinsic.{Intrinsic}
use Rattle.pass_renewed_proof.specs.ir_paths.Facts.{IsWindow}
use Rattle.pass_renewed_proof.specs.ir_paths.Paths.{IsPath, Leads, entry_point, has_point, nexts, same_point}
use Rattle.pass_renewed_proof.specs.ir_paths.Windows.{IsInWindow, is_call_of, leaves, suspend_of}
use Rattle.pass_renewed_proof.specs.ir_paths.declared.point.Point.{Point}
use Rattle.pass_renewed_proof.specs.ir_paths.declared.point.Window.{Window}
use Rattle.pass_renewed_proof.proofs.ir_paths.Search.{eq_from, same_point-itself}
use Rattle.pass_renewed_proof.proofs.pass_kept_proof.Rules.{leads_between, suspend_is_suspend}
use Rattle.pass_renewed_proof.proofs.pass_kept_proof.Same.{either, neither, same_point_same}
use Rattle.pass_renewed_proof.specs.pass_kept_proof.Needed.{BranchesTo}
use Rattle.pass_renewed_proof.specs.pass_kept_proof.SuspendRules.{IsCallAt}
use Rattle.pass_renewed_proof.proofs.Ahead.{branch_edge, leads_more, next_edge, not_in_either}
use Rattle.pass_renewed_proof.proofs.Left.{after_edge, call_listed, nexts_instr}
use Rattle.pass_renewed_proof.specs.rule_windows.Sets.{IsAfterEnd}
use Rattle.run_hooks.specs.Away.{AtEnd, Behind, ComesTo, IsAway, IsClear, IsClearBut, IsPair}
use Rattle.run_hooks.specs.Away.{KeepsPlaceRules, Waits}
use Rattle.pass_renewed_proof.specs.run_step.Step.{AtInstr, AtTerm, fetch}

-- ---- points

-- the point behind one
abbrev pub behind : Point → Point
behind p = record { block = p.block; at = p.at + 1 }

same_or_not : (p q : Point) → (p ≡ q) ⊎ (same_point p q ≡ false)
same_or_not p q = on (same_point p q) refl
  where
    on : (b : Bool) → same_point p q ≡ b → (p ≡ q) ⊎ (same_point p q ≡ false)
    on true e = inl (same_point_same p q e)
    on false e = inr e

other_point : (p q : Point) → same_point p q ≡ false → p ≡ q → ⊥
other_point p q e h = let k : true ≡ false = sym (same_point-itself q) ∙ ap (λ (z : Point). same_point z q) (sym h)
    ∙ e in absurd (cc)

not_point : (p q : Point) → (p ≡ q → ⊥) → same_point p q ≡ false
not_point p q never = on (same_or_not p q)
  where
    on : (p ≡ q) ⊎ (same_point p q ≡ false) → same_point p q ≡ false
    on (inl e) = absurd (never e)
    on (inr e) = e

not_in_one : (p q : Point) → (p ≡ q → ⊥) → has_point (q ∷ []) p ≡ false
not_in_one p q never = ap (λ (b : Bool). b || false) (not_point p q never)

-- ---- instructions

pub instr_once : (f : Function) (p : Point) (i j : Instr) → fetch f p.block p.at ≡ AtInstr i
    → fetch f p.block p.at ≡ AtInstr j → i ≡ j
instr_once f p i j e h = let k : AtInstr i ≡ AtInstr j = sym e ∙ h in cc

-- a call is of one intrinsic
calls_alike : (a b : Intrinsic) (i : Instr) → is_call_of a i ≡ true → is_call_of b i ≡ true
    → intrinsic_number a ≡ intrinsic_number b
calls_alike a b (Instr.Call result must_tail ty (Callee.Intrinsic c) args) e h =
    eq_from (intrinsic_number a) (intrinsic_number c) e ∙ sym (eq_from (intrinsic_number b) (intrinsic_number c) h)
calls_alike a b _ e h = absurd (cc)

pub not_both : (a b : Intrinsic) (f : Function) (p : Point) → (intrinsic_number a ≡ intrinsic_number b → ⊥)
    → IsCallAt a f p → IsCallAt b f p → ⊥
not_both a b f p differ c d =
    let same : d.instr ≡ c.instr = instr_once f p d.instr c.instr d.stands c.stands in
    differ (calls_alike a b c.instr c.is (subst (λ (i : Instr). is_call_of b i ≡ true) same d.is))

pub save_no_suspend : (f : Function) (p : Point) → IsCallAt Intrinsic.CoroSave f p
    → IsCallAt Intrinsic.CoroSuspend f p → ⊥
save_no_suspend f p c d = not_both Intrinsic.CoroSave Intrinsic.CoroSuspend f p (λ e. absurd (cc)) c d

pub save_no_end : (f : Function) (p : Point) → IsCallAt Intrinsic.CoroSave f p → IsCallAt Intrinsic.CoroEnd f p → ⊥
save_no_end f p c d = not_both Intrinsic.CoroSave Intrinsic.CoroEnd f p (λ e. absurd (cc)) c d

pub suspend_no_end : (f : Function) (p : Point) → IsCallAt Intrinsic.CoroSuspend f p
    → IsCallAt Intrinsic.CoroEnd f p → ⊥
suspend_no_end f p c d = not_both Intrinsic.CoroSuspend Intrinsic.CoroEnd f p (λ e. absurd (cc)) c d

-- no call stands at a terminator
pub no_call_at_term : (x : Intrinsic) (f : Function) (p : Point) (t : Terminator) → fetch f p.block p.at ≡ AtTerm t
    → IsCallAt x f p → ⊥
no_call_at_term x f p t e c = let k : AtTerm t ≡ AtInstr c.instr = sym e ∙ c.stands in absurd (cc)

-- an instruction that isn't such a call
pub no_call : (x : Intrinsic) (f : Function) (p : Point) (i : Instr) → fetch f p.block p.at ≡ AtInstr i
    → is_call_of x i ≡ false → IsCallAt x f p → ⊥
no_call x f p i e never c =
    let same : c.instr ≡ i = instr_once f p c.instr i c.stands e in
    let k : is_call_of x i ≡ true = subst (λ (j : Instr). is_call_of x j ≡ true) same c.is in
    let both : true ≡ false = sym k ∙ never in
    absurd (cc)

-- ---- edges

next_is : (f : Function) (p q : Point) (i : Instr) → fetch f p.block p.at ≡ AtInstr i
    → has_point (nexts f p) q ≡ true → q ≡ behind p
next_is f p q i e h = on (either (same_point q (behind p)) false
    (ap (λ (ps : List Point). has_point ps q) (sym (nexts_instr f p i e)) ∙ h))
  where
    on : (same_point q (behind p) ≡ true) ⊎ (false ≡ true) → q ≡ behind p
    on (inl k) = same_point_same q _ k
    on (inr k) = absurd (cc)

-- an edge leads to the point behind an instruction
pub straight : (f : Function) (p : Point) (i : Instr) → fetch f p.block p.at ≡ AtInstr i
    → has_point (nexts f p) (behind p) ≡ true
straight f p i e = next_edge f p.block p.at i e

-- and from a terminator to its labels
pub branching : (f : Function) (p : Point) (label : ℕ) → BranchesTo label (fetch f p.block p.at)
    → has_point (nexts f p) (entry_point f label) ≡ true
branching f p label b = (branch_edge f p.block p.at label b).edge

three_parts : (a b c : Bool) → ((a && not b) && not c) ≡ true → (a ≡ true) × (b ≡ false) × (c ≡ false)
three_parts true false false e = (refl, refl, refl)
three_parts true false true e = absurd (cc)
three_parts true true c e = absurd (cc)
three_parts false b c e = absurd (cc)

module _ (f : Function) where
  -- ---- back along an edge

  comes_back : (k s p q : Point) → has_point (nexts f p) q ≡ true → (p ≡ k → ⊥) → ComesTo f k s q → ComesTo f k s p
  comes_back k s p q edge never c = record { not_save = never; way = on c.way }
    where
      on : (q ≡ s) ⊎ Leads f (k ∷ []) q s → (p ≡ s) ⊎ Leads f (k ∷ []) p s
      on (inl e) = inr (record {
        between = [];
        is_path = subst
            (λ (z : Point). has_point (nexts f p) z ≡ true) e edge;
      })
      on (inr l) = inr (record { between = q ∷ l.between; is_path = (edge, not_in_one q k c.not_save, l.is_path) })

  -- no save of a pair stands at the point
  abbrev IsNoSave : Point → Type 0
  IsNoSave p = IsCallAt Intrinsic.CoroSave f p → ⊥

  not_the_save : (p k s : Point) → IsNoSave p → IsPair f k s → p ≡ k → ⊥
  not_the_save p k s never pair e = never (subst (IsCallAt Intrinsic.CoroSave f) (sym e) pair.is_save)

  pub clear_next : (p q : Point) → has_point (nexts f p) q ≡ true → IsNoSave p → IsClear f p → IsClear f q
  clear_next p q edge never c k s pair w = c k s pair (comes_back k s p q edge (not_the_save p k s never pair) w)

  clear_but_next : (u p q : Point) → has_point (nexts f p) q ≡ true → IsNoSave p → IsClearBut f u p → IsClearBut f u q
  clear_but_next u p q edge never c k s pair w = c k s pair (comes_back k s p q edge (not_the_save p k s never pair) w)

  pair_once : (k s j t : Point) → IsPair f k s → IsPair f j t → j ≡ k → t ≡ s
  pair_once k s j t p q e =
      let h : Some t ≡ Some s = sym q.takes ∙ ap (suspend_of f) e ∙ p.takes in cc

  pub pair_suspend : (k s : Point) → IsPair f k s → IsCallAt Intrinsic.CoroSuspend f s
  pair_suspend k s p = suspend_is_suspend f k s p.takes

  -- the suspend by which an activation has left
  pub left_by : (p : Point) → IsAway f p → (s : Point) × IsCallAt Intrinsic.CoroSuspend f s
  left_by p (Waits w) = (w.suspend, pair_suspend w.save w.suspend w.pair)
  left_by p (AtEnd s k b z e) = (s, k)
  left_by p (Behind s k a) = (s, k)

  -- a suspend is no save
  suspend_not_save : (p : Point) → IsCallAt Intrinsic.CoroSuspend f p → IsNoSave p
  suspend_not_save p c d = save_no_suspend f p d c

  -- ---- windows

  fewer : (k s p : Point) (between : List Point) (q : Point) → IsPath f (k ∷ s ∷ []) p between q
      → IsPath f (k ∷ []) p between q
  fewer k s p [] q h = h
  fewer k s p (v ∷ between) q h =
      (h.0, ap (λ (b : Bool). b || false) (neither (same_point v k) _ h.1).0, fewer k s v between q h.2)

  pub window_comes : (k s p : Point) → IsInWindow f k s p → ComesTo f k s p
  window_comes k s p w = record {
    not_save = other_point p k w.is_not_save;
    way = inr (record {
      between = w.to_suspend.between;
      is_path = fewer k s p w.to_suspend.between s
          w.to_suspend.is_path;
    });
  }

  -- a path without the save that comes to the suspend comes there first without it
  until : (k s p : Point) (between : List Point) → IsPath f (k ∷ []) p between s → Leads f (k ∷ s ∷ []) p s
  until k s p [] h = record { between = []; is_path = h }
  until k s p (v ∷ between) h = on (same_or_not v s) (until k s v between h.2)
    where
      on : (v ≡ s) ⊎ (same_point v s ≡ false) → Leads f (k ∷ s ∷ []) v s → Leads f (k ∷ s ∷ []) p s
      on (inl e) l = record { between = []; is_path = subst (λ (z : Point). has_point (nexts f p) z ≡ true) e h.0 }
      on (inr e) l = record {
        between = v ∷ l.between;
        is_path = (
          h.0,
          not_in_either (same_point v k) (same_point v s)
              (neither (same_point v k) false h.1).0 e,
          l.is_path,
        );
      }

  out_of_both : (k s p : Point) → IsInWindow f k s p → has_point (k ∷ s ∷ []) p ≡ false
  out_of_both k s p w = not_in_either (same_point p k) (same_point p s) w.is_not_save w.is_not_suspend

  -- from a point of a window, or from the save itself, along an edge to a point from which a path leads to the suspend
  abbrev IsFrom : Point → Point → Point → Type 0
  IsFrom k s p = (p ≡ k) ⊎ IsInWindow f k s p

  pub window_edge : (k s p q : Point) → IsFrom k s p → has_point (nexts f p) q ≡ true → ComesTo f k s q
      → (q ≡ s) ⊎ IsInWindow f k s q
  window_edge k s p q w edge c = on (same_or_not q s) c.way
    where
      from : IsFrom k s p → Leads f (k ∷ s ∷ []) k q
      from (inl e) = record { between = []; is_path = subst (λ (z : Point). has_point (nexts f z) q ≡ true) e edge }
      from (inr v) = leads_more f (k ∷ s ∷ []) k p q v.from_save (out_of_both k s p v) edge

      on : (q ≡ s) ⊎ (same_point q s ≡ false) → (q ≡ s) ⊎ Leads f (k ∷ []) q s → (q ≡ s) ⊎ IsInWindow f k s q
      on (inl e) way = inl e
      on (inr e) (inl h) = inl h
      on (inr e) (inr l) = inr (record {
        is_not_save = not_point q k c.not_save;
        is_not_suspend = e;
        from_save = from w;
        to_suspend = until k s q l.between l.is_path;
      })

  -- the one point behind an instruction of a path to the suspend
  path_straight : (k s p : Point) (i : Instr) → fetch f p.block p.at ≡ AtInstr i → IsCallAt Intrinsic.CoroSave f k
      → IsCallAt Intrinsic.CoroSuspend f s
      → (between : List Point) → IsPath f (k ∷ s ∷ []) p between s → ComesTo f k s (behind p)
  path_straight k s p i e save suspend [] h =
      let is : s ≡ behind p = next_is f p s i e h in
      record {
        not_save = λ z. save_no_suspend f k save (subst (IsCallAt Intrinsic.CoroSuspend f) (is ∙ z) suspend);
        way = inl (sym is);
      }
  path_straight k s p i e save suspend (v ∷ between) h =
      let is : v ≡ behind p = next_is f p v i e h.0 in
      subst (ComesTo f k s) is (record {
        not_save = other_point v k (neither (same_point v k) _ h.1).0;
        way = inr (record { between = between; is_path = fewer k s v between s h.2 });
      })

  -- ---- behind the end

  pub after_path : (a : List Point) (p : Point) (between : List Point) (q : Point) → IsAfterEnd f p
      → IsPath f a p between q → IsAfterEnd f q
  after_path a p [] q h path = after_edge f p q h path
  after_path a p (v ∷ between) q h path = after_path a v between q (after_edge f p v h path.0) path.2

  pub after_end : (p q : Point) → IsCallAt Intrinsic.CoroEnd f p → has_point (nexts f p) q ≡ true → IsAfterEnd f q
  after_end p q c edge = record {
    start = p;
    is_start = call_listed f Intrinsic.CoroEnd p c;
    path = record {
      between =
          [];
      is_path = edge;
    };
  }

module _ (m : Module) (f : Function) (r : KeepsPlaceRules m f) where
  pub after_clear : (p : Point) → IsAfterEnd f p → IsClear f p
  after_clear p a k s pair c = on c.way
    where
      on : (p ≡ s) ⊎ Leads f (k ∷ []) p s → ⊥
      on (inl e) = r.no_suspend p a (subst (IsCallAt Intrinsic.CoroSuspend f) (sym e) (pair_suspend f k s pair))
      on (inr l) = r.no_suspend s (after_path f (k ∷ []) p l.between s a l.is_path) (pair_suspend f k s pair)

  pub end_clear : (p : Point) → IsCallAt Intrinsic.CoroEnd f p → IsClear f p
  end_clear p e k s pair c = on c.way
    where
      suspends : IsCallAt Intrinsic.CoroSuspend f s
      suspends = pair_suspend f k s pair

      by : (between : List Point) → IsPath f (k ∷ []) p between s → IsAfterEnd f s
      by [] h = after_end f p s e h
      by (v ∷ between) h = after_path f (k ∷ []) v between s (after_end f p v e h.0) h.2

      on : (p ≡ s) ⊎ Leads f (k ∷ []) p s → ⊥
      on (inl h) = suspend_no_end f p (subst (IsCallAt Intrinsic.CoroSuspend f) (sym h) suspends) e
      on (inr l) = r.no_suspend s (by l.between l.is_path) suspends

  -- ---- an activation that has left

  -- its place is clear but for one suspend
  pub away_at_save : (p : Point) → IsAway f p → IsCallAt Intrinsic.CoroSave f p → IsClear f p
  away_at_save p (Waits w) c = on w.within
    where
      on : (p ≡ w.suspend) ⊎ IsInWindow f w.save w.suspend p → IsClear f p
      on (inl e) = absurd (save_no_suspend f p c (subst (IsCallAt Intrinsic.CoroSuspend f) (sym e)
          (pair_suspend f w.save w.suspend w.pair)))
      on (inr v) = absurd (r.no_save w.save w.suspend p w.pair v c)
  away_at_save p (AtEnd s k b z e) c = end_clear p e
  away_at_save p (Behind s k a) c = after_clear p a

  -- at a suspend it is that for which it waits
  pub away_at_suspend : (p : Point) → IsAway f p → IsCallAt Intrinsic.CoroSuspend f p → IsClearBut f p p
  away_at_suspend p (Waits w) c = on w.within
    where
      on : (p ≡ w.suspend) ⊎ IsInWindow f w.save w.suspend p → IsClearBut f p p
      on (inl e) = subst (λ (z : Point). IsClearBut f z p) (sym e) w.other
      on (inr v) = absurd (r.no_suspend_in w.save w.suspend p w.pair v c)
  away_at_suspend p (AtEnd s k b z e) c = absurd (suspend_no_end f p c e)
  away_at_suspend p (Behind s k a) c = absurd (r.no_suspend p a c)

  pub away_next : (p : Point) (i : Instr) → fetch f p.block p.at ≡ AtInstr i → (IsCallAt Intrinsic.CoroSave f p → ⊥)
      → (IsCallAt Intrinsic.CoroSuspend f p → ⊥)
      → (IsCallAt Intrinsic.CoroEnd f p → ⊥) → IsAway f p → IsAway f (behind p)
  away_next p i e no_save no_suspend no_end (Waits w) = on w.within
    where
      edge : has_point (nexts f p) (behind p) ≡ true
      edge = straight f p i e

      on : (p ≡ w.suspend) ⊎ IsInWindow f w.save w.suspend p → IsAway f (behind p)
      on (inl h) = absurd (no_suspend (subst (IsCallAt Intrinsic.CoroSuspend f) (sym h)
          (pair_suspend f w.save w.suspend w.pair)))
      on (inr v) = Waits (record {
        save = w.save;
        suspend = w.suspend;
        pair = w.pair;
        within = window_edge f w.save w.suspend p (behind p) (inr v) edge
            (path_straight f w.save w.suspend p i e w.pair.is_save
            (pair_suspend f w.save w.suspend w.pair) v.to_suspend.between v.to_suspend.is_path);
        other = clear_but_next f w.suspend p (behind p) edge no_save w.other;
      })
  away_next p i e no_save no_suspend no_end (AtEnd s k b z c) = absurd (no_end c)
  away_next p i e no_save no_suspend no_end (Behind s k a) = Behind s k (after_edge f p (behind p) a (straight f p i e))

  -- ---- at a save

  clear_but : (u p : Point) → IsClear f p → IsClearBut f u p
  clear_but u p c k s pair w = absurd (c k s pair w)

  pub saved_away : (p u : Point) → IsPair f p u → IsClear f p → IsAway f (behind p)
  saved_away p u pair c = Waits (record {
    save = p;
    suspend = u;
    pair = pair;
    within = window_edge f p u p (behind p) (inl refl) edge comes;
    other = λ j t q w. on j t q w (same_or_not p j);
  })
    where
      i : Instr
      i = pair.is_save.instr

      edge : has_point (nexts f p) (behind p) ≡ true
      edge = straight f p i pair.is_save.stands

      both : Leads f (p ∷ u ∷ []) p u
      both = leads_between f p u (r.leads p u pair)

      comes : ComesTo f p u (behind p)
      comes = path_straight f p u p i pair.is_save.stands pair.is_save
          (pair_suspend f p u pair) both.between both.is_path

      on : (j t : Point) → IsPair f j t → ComesTo f j t (behind p) → (p ≡ j) ⊎ (same_point p j ≡ false) → t ≡ u
      on j t q w (inl e) = pair_once f p u j t pair q (sym e)
      on j t q w (inr e) = absurd (c j t q (comes_back f j t p (behind p) edge (other_point p j e) w))

  -- on the way from the save to the suspend no other save stands
  way_clear : (k u : Point) → IsPair f k u → (p : Point) → IsFrom f k u p → (j t : Point) → IsPair f j t → (p ≡ j → ⊥)
      → (between : List Point) → IsPath f (k ∷ u ∷ []) p between u → ComesTo f j t u → ComesTo f j t p
  way_clear k u pair p from j t q never [] h w = comes_back f j t p u h never w
  way_clear k u pair p from j t q never (v ∷ between) h w = comes_back f j t p v h.0 never
      (way_clear k u pair v (inr within) j t q not_j between h.2 w)
    where
      here : ComesTo f k u v
      here = record {
        not_save = other_point v k (neither (same_point v k) _ h.1).0;
        way = inr (record { between = between; is_path = fewer f k u v between u h.2 });
      }

      away : (v ≡ u) ⊎ IsInWindow f k u v → IsInWindow f k u v
      away (inl e) = absurd (other_point v u (neither (same_point v u) false (neither (same_point v k) _ h.1).1).0 e)
      away (inr x) = x

      within : IsInWindow f k u v
      within = away (window_edge f k u p v from h.0 here)

      not_j : v ≡ j → ⊥
      not_j e = r.no_save k u v pair within (subst (IsCallAt Intrinsic.CoroSave f) (sym e) q.is_save)

  pub saved_status : (p u : Point) → IsPair f p u → IsClear f p → IsClearBut f u u
  saved_status p u pair c j t q w = on (same_or_not p j)
    where
      both : Leads f (p ∷ u ∷ []) p u
      both = leads_between f p u (r.leads p u pair)

      on : (p ≡ j) ⊎ (same_point p j ≡ false) → t ≡ u
      on (inl e) = pair_once f p u j t pair q (sym e)
      on (inr e) = absurd (c j t q (way_clear p u pair p (inl refl) j t q
          (other_point p j e) both.between both.is_path w))

  -- ---- at a suspend

  -- behind it the place is clear
  pub behind_suspend : (p : Point) → IsCallAt Intrinsic.CoroSuspend f p → IsClearBut f p p → IsClear f (behind p)
  behind_suspend p c other j t q w =
      let here : ComesTo f j t p = comes_back f j t p (behind p) (straight f p c.instr c.stands)
      (not_the_save f p j t (suspend_not_save f p c) q) w in
      let same : t ≡ p = other j t q here in
      r.back j p (subst (IsPair f j) same q) (subst (λ (z : Point). ComesTo f j z (behind p)) same w)

  pub resumed_clear : (p : Point) → IsCallAt Intrinsic.CoroSuspend f p → IsClearBut f p p → (t : Terminator)
      → fetch f p.block (p.at + 1) ≡ AtTerm t
      → (label : ℕ) → BranchesTo label (fetch f p.block (p.at + 1)) → IsClear f (entry_point f label)
  resumed_clear p c other t stands label b =
      clear_next f (behind p) (entry_point f label) (branching f (behind p) label b)
      (no_call_at_term Intrinsic.CoroSave f (behind p) t stands) (behind_suspend p c other)

  -- ---- at a branch

  pub branch_clear : (p : Point) (t : Terminator) → fetch f p.block p.at ≡ AtTerm t → (label : ℕ)
      → BranchesTo label (fetch f p.block p.at) → IsClear f p → IsClear f (entry_point f label)
  branch_clear p t stands label b c = clear_next f p (entry_point f label) (branching f p label b)
      (no_call_at_term Intrinsic.CoroSave f p t stands) c

  -- a branch that leaves no window
  pub branch_away : (p : Point) (t : Terminator) → fetch f p.block p.at ≡ AtTerm t → (label : ℕ)
      → BranchesTo label (fetch f p.block p.at)
      → ((k s : Point) → IsPair f k s → (w : Window) × (w.save ≡ k) × (w.suspend ≡ s) × IsWindow f w ×
      (leaves p (entry_point f label) w ≡ false))
      → IsAway f p → IsAway f (entry_point f label)
  branch_away p t stands label b stays (Waits w) = on w.within
    where
      q : Point
      q = entry_point f label

      edge : has_point (nexts f p) (entry_point f label) ≡ true
      edge = branching f p label b

      to : IsInWindow f w.save w.suspend p → (q ≡ w.suspend) ⊎ IsInWindow f w.save w.suspend q
      to v =
          let x = stays w.save w.suspend w.pair in
          let own : IsInWindow f x.0.save x.0.suspend p = subst (λ (z : Point). IsInWindow f z x.0.suspend p)
          (sym x.1) (subst (λ (z : Point). IsInWindow f w.save z p) (sym x.2) v) in
          by x.0 x.3 own x.4 (λ y. subst (λ (z : Point). IsInWindow f w.save z q) x.2
          (subst (λ (z : Point). IsInWindow f z x.0.suspend q) x.1 y)) (λ e. e ∙ x.2)
        where
          by : (y : Window) → IsWindow f y → IsInWindow f y.save y.suspend p → leaves p q y ≡ false
              → (IsInWindow f y.save y.suspend q → IsInWindow f w.save w.suspend q) → (q ≡ y.suspend
              → q ≡ w.suspend) → (q ≡ w.suspend) ⊎ IsInWindow f w.save w.suspend q
          by y facts own left in_it at_it = at (has_point y.inside q) refl (same_point q y.suspend) refl
            where
              at : (a : Bool) → has_point y.inside q ≡ a → (c : Bool) → same_point q y.suspend ≡ c
                  → (q ≡ w.suspend) ⊎ IsInWindow f w.save w.suspend q
              at true ea c ec = inr (in_it ((facts.inside q).0 ea))
              at false ea true ec = inl (at_it (same_point_same q y.suspend ec))
              at false ea false ec =
                  let h : leaves p q y ≡ true = (λ i. ((facts.inside p).1 own i && not (ea i)) && not (ec i)) in
                  let never : true ≡ false = sym h ∙ left in
                  absurd (cc)

      on : (p ≡ w.suspend) ⊎ IsInWindow f w.save w.suspend p → IsAway f (entry_point f label)
      on (inl e) = absurd (no_call_at_term Intrinsic.CoroSuspend f p t stands
          (subst (IsCallAt Intrinsic.CoroSuspend f) (sym e) (pair_suspend f w.save w.suspend w.pair)))
      on (inr v) = Waits (record {
        save = w.save;
        suspend = w.suspend;
        pair = w.pair;
        within = to v;
        other = clear_but_next f w.suspend p q edge (no_call_at_term Intrinsic.CoroSave f p t stands) w.other;
      })
  branch_away p t stands label b stays (AtEnd s k e z c) = absurd (no_call_at_term Intrinsic.CoroEnd f p t stands c)
  branch_away p t stands label b stays (Behind s k a) = Behind s k (after_edge f p (entry_point f label) a
      (branching f p label b))

  -- a branch that leaves a window comes to a clear place
  pub branch_left : (p : Point) (t : Terminator) → fetch f p.block p.at ≡ AtTerm t → (label : ℕ)
      → BranchesTo label (fetch f p.block p.at)
      → (w : Window) → IsPair f w.save w.suspend → IsWindow f w → leaves p (entry_point f label) w ≡ true
      → IsAway f p → IsClear f (entry_point f label)
  branch_left p t stands label b w pair facts left away = on away
    where
      q : Point
      q = entry_point f label

      edge : has_point (nexts f p) (entry_point f label) ≡ true
      edge = branching f p label b

      parts : (has_point w.inside p ≡ true) × (has_point w.inside q ≡ false) × (same_point q w.suspend ≡ false)
      parts = three_parts (has_point w.inside p) (has_point w.inside q) (same_point q w.suspend) left

      within : IsInWindow f w.save w.suspend p
      within = (facts.inside p).0 parts.0

      here : ComesTo f w.save w.suspend p
      here = window_comes f w.save w.suspend p within

      -- from the new place no path leads to the suspend of the window
      no_way : ComesTo f w.save w.suspend q → ⊥
      no_way c = by (window_edge f w.save w.suspend p q (inr within) edge c)
        where
          by : (q ≡ w.suspend) ⊎ IsInWindow f w.save w.suspend q → ⊥
          by (inl e) = other_point q w.suspend parts.2 e
          by (inr v) = let never : true ≡ false = sym ((facts.inside q).1 v) ∙ parts.1 in absurd (cc)

      on : IsAway f p → IsClear f (entry_point f label)
      on (Waits x) = λ j t y c.
          let back : ComesTo f j t p = comes_back f j t p q edge
          (not_the_save f p j t (no_call_at_term Intrinsic.CoroSave f p _ stands) y) c in
          let et : t ≡ x.suspend = x.other j t y back in
          let ew : w.suspend ≡ x.suspend = x.other w.save w.suspend pair here in
          let es : t ≡ w.suspend = et ∙ sym ew in
          by j (subst (λ (z : Point). IsPair f j z) es y) (subst (λ (z : Point). ComesTo f j z q) es c)
        where
          by : (j : Point) → IsPair f j w.suspend → ComesTo f j w.suspend q → ⊥
          by j y c = no_way (subst (λ (z : Point). ComesTo f z w.suspend q) (r.once w.save j w.suspend pair y) c)
      on (AtEnd s k e z c) = absurd (no_call_at_term Intrinsic.CoroEnd f p t stands c)
      on (Behind s k a) = absurd (after_clear p a w.save w.suspend pair here)
