-- The windows of a function, and those of the function whose saves are written out.
use Rattle.std.proofs.Common.{◌≡◌, ℕ, ◌+◌, ◌⊎◌, inl, inr, Bool, true, false, List, [], ◌∷◌, length, refl, sym, ap, ◌∙◌, subst, arith}
use Rattle.std.proofs.lemmas.Option.{slice_get-map}
use Rattle.std.specs.Prelude.{Some, Option, map, option_and_then, option_map, slice_get, if◌then◌else◌}
use Rattle.pass_early.specs.Early.{save_call}
use Rattle.ir_model.specs.declared.instr.Instr.{Instr}
use Rattle.ir_model.specs.declared.module.Function.{Function}
use Rattle.rule_laws.proofs.ir_paths.Search.{either, or_left, or_right, same_point-itself, same_point-same}
use Rattle.rule_laws.specs.ir_paths.Facts.{IsWindow}
use Rattle.rule_laws.specs.ir_paths.Paths.{IsPath, Leads, has_point, same_point}
use Rattle.rule_laws.specs.ir_paths.Windows.{IsInWindow, call_result, instr_at, is_suspend_of, points_where, suspend_of}
use Rattle.rule_laws.specs.ir_paths.declared.point.Point.{Point}
use Rattle.rule_laws.specs.ir_paths.declared.point.Window.{Window}
use Rattle.pass_early_proof.proofs.early.saves.Apart.{back_back, front_back, front_front}
use Rattle.rule_laws.proofs.ir_laws.facts.Truth.{same_truth}
use Rattle.pass_early_proof.proofs.early.saves.Blocks.{instrs_saved}
use Rattle.pass_early_proof.proofs.early.saves.Instrs.{get_lone, get_save, name_at}
use Rattle.pass_early_proof.proofs.early.saves.Points.{own_group, points_moved}
use Rattle.rule_laws.specs.ir_laws.paths.expanded.Avoided.{AreAvoided}
use Rattle.rule_laws.proofs.ir_laws.paths.expanded.Strands.{IsLedTo, IsOnlyNext, ahead_home, from_front, leads_forth, leads_home}
use Rattle.pass_early_proof.proofs.early.saves.Tokens.{own_token, written_suspend}
use Rattle.pass_early_proof.proofs.early.saves.Ways.{save_leads, strands, within}
use Rattle.pass_early_proof.specs.early.saves.SavesWritten.{is_bare, saved_function, with_saves}
use Rattle.pass_early_proof.specs.early.saves.Spots.{back_of, front_of, number_of_block, own_saves}
use Rattle.rule_laws.specs.ir_laws.facts.expanded.Spots.{instrs_in}
use Rattle.rule_laws.specs.ir_laws.paths.expanded.Tokens.{HasNamedTokens, HasNamedToken}
use Rattle.rule_laws.specs.ir_laws.facts.expanded.Tokens.{IsNamedResult}
use Rattle.rule_laws.proofs.ir_laws.paths.expanded.Windows.{instr_at_is}

module _ (f : Function) (named : HasNamedTokens f) where
  abbrev g : Function
  g = saved_function f

  abbrev here : Point → Option Instr
  here p = slice_get (instrs_in (slice_get f.blocks p.block)) p.at

  abbrev name_of : Point → ℕ
  name_of p = name_at f.coroutine p.at (number_of_block f.coroutine p.block (length f.names) f.blocks) (instrs_in (slice_get f.blocks p.block))

  -- ---- what stands at fronts

  at_front : (p : Point) → instr_at g (front_of f p) ≡ slice_get (with_saves f.coroutine (number_of_block f.coroutine p.block (length f.names) f.blocks) (instrs_in (slice_get f.blocks p.block))) (front_of f p).at
  at_front p =
      instr_at_is (slice_get g.blocks p.block) (front_of f p).at
      ∙ ap (λ (is : List Instr). slice_get is (front_of f p).at) (instrs_saved f.coroutine p.block (length f.names) f.blocks)

  pub front_lone : (p : Point) (i : Instr) → here p ≡ Some i → is_bare f.coroutine i ≡ false → instr_at g (front_of f p) ≡ Some i
  front_lone p i e b = at_front p ∙ get_lone f.coroutine p.at (number_of_block f.coroutine p.block (length f.names) f.blocks) (instrs_in (slice_get f.blocks p.block)) i e b

  pub front_bare : (p : Point) (i : Instr) → here p ≡ Some i → is_bare f.coroutine i ≡ true → instr_at g (front_of f p) ≡ Some (save_call (name_of p))
  front_bare p i e b = at_front p ∙ get_save f.coroutine p.at (number_of_block f.coroutine p.block (length f.names) f.blocks) (instrs_in (slice_get f.blocks p.block)) i e b

  -- ---- the suspends of saves

  pub suspends_saved : (r : Option ℕ) → IsNamedResult (length f.names) r → points_where (is_suspend_of r) g ≡ map (back_of f) (points_where (is_suspend_of r) f)
  suspends_saved r h =
      points_moved f.coroutine (is_suspend_of r) (is_suspend_of r) (own_saves f.coroutine) (length f.names) (HasNamedToken (length f.names))
      (λ n i le p block at. own_group f.coroutine (is_suspend_of r) (is_suspend_of r) n i (own_token f.coroutine r (length f.names) n i h le) block at)
      f.blocks named (length f.names) (omega arith)

  abbrev suspends_by : Function → Option Instr → Option Point
  suspends_by k o = slice_get (points_where (is_suspend_of (option_and_then call_result o)) k) 0

  -- the suspend of a save is where the suspend itself is then
  pub suspend_lone : (p : Point) (i : Instr) → here p ≡ Some i → is_bare f.coroutine i ≡ false → IsNamedResult (length f.names) (call_result i) → suspend_of g (front_of f p) ≡ option_map (back_of f) (suspend_of f p)
  suspend_lone p i e b h =
      ap (suspends_by g) (front_lone p i e b)
      ∙ ap (λ (ps : List Point). slice_get ps 0) (suspends_saved (call_result i) h)
      ∙ slice_get-map (back_of f) (points_where (is_suspend_of (call_result i)) f) 0
      ∙ ap (λ (o : Option Instr). option_map (back_of f) (suspends_by f o)) (sym (instr_at_is (slice_get f.blocks p.block) p.at ∙ e))

  -- that of a written save stands right behind it
  pub suspend_bare : (p : Point) (i : Instr) → here p ≡ Some i → is_bare f.coroutine i ≡ true → suspend_of g (front_of f p) ≡ Some (back_of f p)
  suspend_bare p i e b =
      let own : own_saves f.coroutine (here p) ≡ 1 = ap (own_saves f.coroutine) e ∙ ap (λ (t : Bool). if t then 1 else 0) b in
      ap (suspends_by g) (front_bare p i e b)
      ∙ written_suspend f.coroutine (length f.names) p.block p.at (length f.names) f.blocks i (omega arith) named e b
      ∙ ap (λ (k : ℕ). Some (record { block = p.block; at = (front_of f p).at + k })) (sym own)

  -- ---- a window of a save that stands alone, with a suspend that does

  module _ (k s : Point) (lone_save : front_of f k ≡ back_of f k) (lone_suspend : front_of f s ≡ back_of f s) where
    abbrev avoided : List Point
    avoided = k ∷ s ∷ []

    abbrev besides : List Point
    besides = front_of f k ∷ back_of f s ∷ []

    neither : (x y p : Point) → (p ≡ x → ⊥) → (p ≡ y → ⊥) → has_point (x ∷ y ∷ []) p ≡ false
    neither x y p h j = on (has_point (x ∷ y ∷ []) p) refl
      where
        last : (same_point p y ≡ true) ⊎ (false ≡ true) → ⊥
        last (inl e) = j (same_point-same p y e)
        last (inr e) = cc

        first : (same_point p x ≡ true) ⊎ (has_point (y ∷ []) p ≡ true) → ⊥
        first (inl e) = h (same_point-same p x e)
        first (inr e) = last (either (same_point p y) false e)

        on : (b : Bool) → has_point (x ∷ y ∷ []) p ≡ b → has_point (x ∷ y ∷ []) p ≡ false
        on true e = absurd (first (either (same_point p x) (has_point (y ∷ []) p) e))
        on false e = e

    not_first : (x y p : Point) → has_point (x ∷ y ∷ []) p ≡ false → p ≡ x → ⊥
    not_first x y p h e = let t = or_left (same_point p x) (has_point (y ∷ []) p) (ap (λ (z : Point). same_point z x) e ∙ same_point-itself x) in cc

    not_second : (x y p : Point) → has_point (x ∷ y ∷ []) p ≡ false → p ≡ y → ⊥
    not_second x y p h e = let t = or_right (same_point p x) (has_point (y ∷ []) p) (or_left (same_point p y) false (ap (λ (z : Point). same_point z y) e ∙ same_point-itself y)) in cc

    pub are_avoided : AreAvoided (front_of f) (back_of f) avoided besides
    are_avoided = record {
      fronts = λ p h. neither (front_of f k) (back_of f s) (front_of f p)
          (λ e. not_first k s p h (front_front f p k e))
          (λ e. not_second k s p h (front_back f p s e));
      backs = λ p h. neither (front_of f k) (back_of f s) (back_of f p)
          (λ e. not_first k s p h (sym (front_back f k p (sym e))))
          (λ e. not_second k s p h (back_back f p s e));
      home = λ p h j. neither k s p
          (λ e. not_first (front_of f k) (back_of f s) (front_of f p) h (ap (front_of f) e))
          (λ e. not_second (front_of f k) (back_of f s) (back_of f p) j (ap (back_of f) e));
    }

    not_same : (x p : Point) → same_point p x ≡ false → p ≡ x → ⊥
    not_same x p h e = let t = ap (λ (z : Point). same_point z x) e ∙ same_point-itself x in cc

    differ : (x p : Point) → (p ≡ x → ⊥) → same_point p x ≡ false
    differ x p h = on (same_point p x) refl
      where
        on : (b : Bool) → same_point p x ≡ b → same_point p x ≡ false
        on true e = absurd (h (same_point-same p x e))
        on false e = e

    forth : (p : Point) → IsInWindow f k s p → IsInWindow g (front_of f k) (back_of f s) (front_of f p)
    forth p w =
        let off = neither k s p (not_same k p w.is_not_save) (not_same s p w.is_not_suspend) in
        let to = leads_forth f g (front_of f) (back_of f) (strands f) avoided besides are_avoided p s w.to_suspend in
        let from = leads_forth f g (front_of f) (back_of f) (strands f) avoided besides are_avoided k p w.from_save in
        record {
          is_not_save = differ (front_of f k) (front_of f p) (λ e. not_same k p w.is_not_save (front_front f p k e));
          is_not_suspend = differ (back_of f s) (front_of f p) (λ e. not_same s p w.is_not_suspend (front_back f p s e));
          from_save = subst (λ (x : Point). Leads g besides x (front_of f p)) (sym lone_save) from;
          to_suspend = from_front f g (front_of f) (back_of f) (strands f) avoided besides are_avoided p (back_of f s) (are_avoided.backs p off) (subst (λ (x : Point). Leads g besides (back_of f p) x) lone_suspend to);
        }

    abbrev LedTo : Point → Point → Type 0
    LedTo p y = IsLedTo f g (front_of f) (back_of f) (strands f) avoided besides are_avoided p y

    -- what leads to the front or the back of a point leads to the point
    to_point : (p q y : Point) → (y ≡ front_of f q) ⊎ (y ≡ back_of f q) → LedTo p y → Leads f avoided p q
    to_point p q y at l = subst (λ (x : Point). Leads f avoided p x) (on at l.is) l.leads
      where
        on : (y ≡ front_of f q) ⊎ (y ≡ back_of f q) → (y ≡ front_of f l.point) ⊎ (y ≡ back_of f l.point) → l.point ≡ q
        on (inl e) (inl d) = front_front f l.point q (sym d ∙ e)
        on (inl e) (inr d) = sym (front_back f q l.point (sym e ∙ d))
        on (inr e) (inl d) = front_back f l.point q (sym d ∙ e)
        on (inr e) (inr d) = back_back f l.point q (sym d ∙ e)

    home : (p : Point) → IsInWindow g (front_of f k) (back_of f s) (front_of f p) → IsInWindow f k s p
    home p w =
        record {
          is_not_save = differ k p (λ e. not_same (front_of f k) (front_of f p) w.is_not_save (ap (front_of f) e));
          is_not_suspend = differ s p not_suspend;
          from_save = to_point k p (front_of f p) (inl refl) (leads_home f g (front_of f) (back_of f) (strands f) avoided besides are_avoided k (front_of f p) (subst (λ (x : Point). Leads g besides x (front_of f p)) lone_save w.from_save));
          to_suspend = on (within f p);
        }
      where
        not_suspend : p ≡ s → ⊥
        not_suspend e = not_same (back_of f s) (front_of f p) w.is_not_suspend (ap (front_of f) e ∙ lone_suspend)

        ahead : (back_of f s ≡ back_of f p) ⊎ ((has_point besides (back_of f p) ≡ false) × LedTo p (back_of f s)) → Leads f avoided p s
        ahead (inl e) = absurd (not_suspend (sym (back_back f s p e)))
        ahead (inr l) = to_point p s (back_of f s) (inr refl) l.1

        on : (front_of f p ≡ back_of f p) ⊎ IsOnlyNext g (front_of f p) (back_of f p) → Leads f avoided p s
        on (inl e) = to_point p s (back_of f s) (inr refl) (leads_home f g (front_of f) (back_of f) (strands f) avoided besides are_avoided p (back_of f s) (subst (λ (x : Point). Leads g besides x (back_of f s)) e w.to_suspend))
        on (inr i) = ahead (ahead_home f g (front_of f) (back_of f) (strands f) avoided besides are_avoided p (back_of f s) i w.to_suspend)

    -- a window has the fronts of the points of the window before
    pub same_inside : (w v : Window) → w.save ≡ k → w.suspend ≡ s → v.save ≡ front_of f k → v.suspend ≡ back_of f s → IsWindow f w → IsWindow g v → (p : Point) → has_point v.inside (front_of f p) ≡ has_point w.inside p
    same_inside w v a b c d hw hv p = same_truth (has_point v.inside (front_of f p)) (has_point w.inside p)
        (λ h. (hw.inside p).1
        (subst (λ (x : Point). IsInWindow f x w.suspend p) (sym a) (subst (λ (x : Point). IsInWindow f k x p) (sym b)
        (home p (subst (λ (x : Point). IsInWindow g x (back_of f s) (front_of f p)) c (subst (λ (x : Point). IsInWindow g v.save x (front_of f p)) d ((hv.inside (front_of f p)).0 h)))))))
        (λ h. (hv.inside (front_of f p)).1
        (subst (λ (x : Point). IsInWindow g x v.suspend (front_of f p)) (sym c) (subst (λ (x : Point). IsInWindow g (front_of f k) x (front_of f p)) (sym d)
        (forth p (subst (λ (x : Point). IsInWindow f x s p) a (subst (λ (x : Point). IsInWindow f w.save x p) b ((hw.inside p).0 h)))))))

  -- ---- the window of a written save is empty

  none_between : (p y : Point) (i : Instr) → here p ≡ Some i → is_bare f.coroutine i ≡ true → IsInWindow g (front_of f p) (back_of f p) y → ⊥
  none_between p y i e b w = on w.from_save.between w.from_save.is_path
    where
      next : IsOnlyNext g (front_of f p) (back_of f p)
      next = record {
        edge = ap (λ (ps : List Point). has_point ps (back_of f p)) (save_leads f p i e b) ∙ or_left (same_point (back_of f p) (back_of f p)) false (same_point-itself (back_of f p));
        only = λ z h. alone z (either (same_point z (back_of f p)) false (ap (λ (ps : List Point). has_point ps z) (sym (save_leads f p i e b)) ∙ h));
      }
        where
          alone : (z : Point) → (same_point z (back_of f p) ≡ true) ⊎ (false ≡ true) → z ≡ back_of f p
          alone z (inl s) = same_point-same z (back_of f p) s
          alone z (inr s) = absurd (cc)

      on : (between : List Point) → IsPath g (front_of f p ∷ back_of f p ∷ []) (front_of f p) between y → ⊥
      on [] h = let s = next.only y h in let t = ap (λ (z : Point). same_point z (back_of f p)) s ∙ same_point-itself (back_of f p) in let no = w.is_not_suspend in cc
      on (v ∷ between) h =
          let s = next.only v h.0 in
          let t = or_right (same_point v (front_of f p)) (has_point (back_of f p ∷ []) v) (or_left (same_point v (back_of f p)) false (ap (λ (z : Point). same_point z (back_of f p)) s ∙ same_point-itself (back_of f p))) in
          let no = h.1 in
          cc

  pub none_inside : (p : Point) (i : Instr) → here p ≡ Some i → is_bare f.coroutine i ≡ true → (v : Window) → v.save ≡ front_of f p → v.suspend ≡ back_of f p → IsWindow g v → (y : Point) → has_point v.inside y ≡ false
  none_inside p i e b v c d hv y = on (has_point v.inside y) refl
    where
      on : (t : Bool) → has_point v.inside y ≡ t → has_point v.inside y ≡ false
      on true h = absurd (none_between p y i e b (subst (λ (x : Point). IsInWindow g x (back_of f p) y) c (subst (λ (x : Point). IsInWindow g v.save x y) d ((hv.inside y).0 h))))
      on false h = h
