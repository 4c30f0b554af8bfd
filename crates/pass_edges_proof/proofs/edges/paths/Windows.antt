-- The windows of a function, and those of the function whose edges have blocks.
use Rattle.std.proofs.Common.{◌≡◌, ◌⊎◌, inl, inr, Bool, true, false, List, [], ◌∷◌, length, refl, sym, ap, ◌∙◌, subst}
use Rattle.std.proofs.lemmas.List.Elements.{recursion_from_All}
use Rattle.std.proofs.lemmas.Option.{slice_get-map}
use Rattle.std.specs.List.{AllByRecursion, cons_option}
use Rattle.std.specs.Prelude.{Some, None, Option, filter_map, map, option_and_then, option_map, slice_get, ◌||◌}
use Rattle.pass_edges.specs.EdgeBlocks.{with_edge_blocks}
use Rattle.pass_edges.specs.Edges.{phi_flags}
use Rattle.ir_model.specs.declared.instr.Instr.{Instr}
use Rattle.ir_model.specs.declared.module.Block.{Block}
use Rattle.ir_model.specs.declared.module.Function.{Function}
use Rattle.ir_model.specs.declared.operand.Intrinsic.{Intrinsic}
use Rattle.pass_early_proof.proofs.ir_paths.Right.{facts_of_right}
use Rattle.pass_early_proof.proofs.ir_paths.Search.{Has, either, leads-more, or_left, or_right, same_point-itself, same_point-same}
use Rattle.pass_early_proof.specs.ir_paths.Facts.{IsWindow}
use Rattle.pass_early_proof.specs.ir_paths.Paths.{has_point, nexts, same_point}
use Rattle.pass_early_proof.specs.ir_paths.Windows.{IsInWindow, call_result, instr_at, instr_in, is_call_of, is_suspend_of, points_where, suspend_of, window_of, windows_of}
use Rattle.pass_early_proof.specs.ir_paths.declared.point.Point.{Point}
use Rattle.pass_early_proof.specs.ir_paths.declared.point.Window.{Window}
use Rattle.pass_early_proof.proofs.ir_laws.paths.expanded.Apart.{same_moved}
use Rattle.pass_early_proof.proofs.ir_laws.facts.Truth.{same_truth}
use Rattle.pass_edges_proof.proofs.edges.paths.Blocks.{get_block, get_none}
use Rattle.pass_edges_proof.proofs.edges.paths.Edges.{threads}
use Rattle.pass_edges_proof.proofs.edges.paths.Points.{points_moved}
use Rattle.pass_early_proof.proofs.ir_laws.paths.threads.Threads.{IsAhead, ahead_forth, ahead_home, leads_forth, leads_home}
use Rattle.pass_early_proof.specs.ir_laws.paths.threads.Labels.{HasNamedLabels}
use Rattle.pass_early_proof.specs.ir_laws.facts.threads.Moved.{ArePaired}
use Rattle.pass_early_proof.specs.ir_laws.paths.threads.Moved.{IsMoved, is_ahead}
use Rattle.pass_edges_proof.specs.edges.paths.Spots.{moved, table_of}
use Rattle.pass_early_proof.specs.ir_laws.paths.threads.Threads.{AreAvoidedToo, AreThreads, IsBetween}
use Rattle.pass_early_proof.proofs.ir_laws.paths.path_rules.SavedWindows.{neither}

-- ---- tests of points

pub differ : (x p : Point) → (p ≡ x → ⊥) → same_point p x ≡ false
differ x p h = on (same_point p x) refl
  where
    on : (b : Bool) → same_point p x ≡ b → same_point p x ≡ false
    on true e = absurd (h (same_point-same p x e))
    on false e = e

differ_from : (x p : Point) → same_point p x ≡ false → p ≡ x → ⊥
differ_from x p h e = let t = ap (λ (z : Point). same_point z x) e ∙ same_point-itself x in cc

not_first : (x y p : Point) → has_point (x ∷ y ∷ []) p ≡ false → same_point p x ≡ false
not_first x y p h = on (same_point p x) refl
  where
    on : (b : Bool) → same_point p x ≡ b → same_point p x ≡ false
    on true e = let t = or_left (same_point p x) (has_point (y ∷ []) p) e in absurd (cc)
    on false e = e

not_second : (x y p : Point) → has_point (x ∷ y ∷ []) p ≡ false → same_point p y ≡ false
not_second x y p h = on (same_point p y) refl
  where
    on : (b : Bool) → same_point p y ≡ b → same_point p y ≡ false
    on true e = let t = or_right (same_point p x) (has_point (y ∷ []) p) (or_left (same_point p y) false e) in absurd (cc)
    on false e = e

-- ---- one window

module _ (f g : Function) (move : Point → Point) (threads : AreThreads f g move) (k s : Point) where
  abbrev avoided : List Point
  avoided = k ∷ s ∷ []

  abbrev besides : List Point
  besides = move k ∷ move s ∷ []

  same : (p q : Point) → same_point (move p) (move q) ≡ same_point p q
  same p q = same_moved move move p q (threads.apart p q) refl

  avoided_too : AreAvoidedToo move avoided besides
  avoided_too = record {
    moved = λ p. let a = same p k in let b = same p s in λ i. a i || (b i || false);
    others = λ y h. neither (move k) (move s) y (differ (move k) y (h k)) (differ (move s) y (h s));
  }

  forth : (p : Point) → IsInWindow f k s p → IsInWindow g (move k) (move s) (move p)
  forth p w = record {
    is_not_save = same p k ∙ w.is_not_save;
    is_not_suspend = same p s ∙ w.is_not_suspend;
    from_save = leads_forth f g move threads avoided besides avoided_too k p w.from_save;
    to_suspend = leads_forth f g move threads avoided besides avoided_too p s w.to_suspend;
  }

  home : (p : Point) → IsInWindow g (move k) (move s) (move p) → IsInWindow f k s p
  home p w = record {
    is_not_save = sym (same p k) ∙ w.is_not_save;
    is_not_suspend = sym (same p s) ∙ w.is_not_suspend;
    from_save = leads_home f g move threads avoided besides avoided_too k p w.from_save;
    to_suspend = leads_home f g move threads avoided besides avoided_too p s w.to_suspend;
  }

  abbrev Ahead : Point → Type 0
  Ahead q = IsAhead f g move threads avoided besides avoided_too q s

  -- on an edge from inside, the point between is inside where it leads on to the suspend
  enters : (p q y : Point) → Has (nexts g (move p)) y → IsBetween g move (move q) y → IsInWindow f k s p → Ahead q → IsInWindow g (move k) (move s) y
  enters p q y e b w a = record {
    is_not_save = differ (move k) y (b.apart k);
    is_not_suspend = differ (move s) y (b.apart s);
    from_save = leads-more g besides (move k) (move p) y (leads_forth f g move threads avoided besides avoided_too k p w.from_save) (avoided_too.moved p ∙ neither k s p w.is_not_save w.is_not_suspend) e;
    to_suspend = ahead_forth f g move threads avoided besides avoided_too y q s b.next a;
  }

  goes_on : (q y : Point) → IsBetween g move (move q) y → IsInWindow g (move k) (move s) y → IsInWindow f k s q ⊎ (q ≡ s)
  goes_on q y b w = on (ahead_home f g move threads avoided besides avoided_too y q s b.next w.to_suspend)
    where
      on : Ahead q → IsInWindow f k s q ⊎ (q ≡ s)
      on (inl e) = inr e
      on (inr a) = inl (record {
        is_not_save = not_first k s q a.0;
        is_not_suspend = not_second k s q a.0;
        from_save = leads_home f g move threads avoided besides avoided_too k q (leads-more g besides (move k) y (move q) w.from_save (avoided_too.others y b.apart) b.next.edge);
        to_suspend = a.1;
      })

  -- the windows of the two saves
  pub window_moved : (w v : Window) → w.save ≡ k → w.suspend ≡ s → v.save ≡ move k → v.suspend ≡ move s → IsWindow f w → IsWindow g v → IsMoved g move w v
  window_moved w v a b c d hw hv = record {
    save = c ∙ ap move (sym a);
    suspend = d ∙ ap move (sym b);
    inside = λ p. same_truth (has_point v.inside (move p)) (has_point w.inside p) (λ h. to_w p (home p (of_v (move p) h))) (λ h. to_v (move p) (forth p (of_w p h)));
    entered = λ p q y e i h. same_truth (has_point v.inside y) (is_ahead w q) (onward q y i) (λ j. to_v y (enters p q y e i (of_w p h) (ahead_of q j)));
    stays = λ q y i h. onward q y i h;
  }
    where
      of_w : (p : Point) → has_point w.inside p ≡ true → IsInWindow f k s p
      of_w p h = subst (λ (x : Point). IsInWindow f x s p) a (subst (λ (x : Point). IsInWindow f w.save x p) b ((hw.inside p).0 h))

      to_w : (p : Point) → IsInWindow f k s p → has_point w.inside p ≡ true
      to_w p h = (hw.inside p).1 (subst (λ (x : Point). IsInWindow f x w.suspend p) (sym a) (subst (λ (x : Point). IsInWindow f k x p) (sym b) h))

      of_v : (p : Point) → has_point v.inside p ≡ true → IsInWindow g (move k) (move s) p
      of_v p h = subst (λ (x : Point). IsInWindow g x (move s) p) c (subst (λ (x : Point). IsInWindow g v.save x p) d ((hv.inside p).0 h))

      to_v : (p : Point) → IsInWindow g (move k) (move s) p → has_point v.inside p ≡ true
      to_v p h = (hv.inside p).1 (subst (λ (x : Point). IsInWindow g x v.suspend p) (sym c) (subst (λ (x : Point). IsInWindow g (move k) x p) (sym d) h))

      found : (q : Point) → IsInWindow f k s q ⊎ (q ≡ s) → is_ahead w q ≡ true
      found q (inl h) = or_left (has_point w.inside q) (same_point q w.suspend) (to_w q h)
      found q (inr e) = or_right (has_point w.inside q) (same_point q w.suspend) (ap (λ (x : Point). same_point x w.suspend) (e ∙ sym b) ∙ same_point-itself w.suspend)

      onward : (q y : Point) → IsBetween g move (move q) y → has_point v.inside y ≡ true → is_ahead w q ≡ true
      onward q y i h = found q (goes_on q y i (of_v y h))

      ahead_of : (q : Point) → is_ahead w q ≡ true → Ahead q
      ahead_of q j = on (either (has_point w.inside q) (same_point q w.suspend) j)
        where
          on : (has_point w.inside q ≡ true) ⊎ (same_point q w.suspend ≡ true) → Ahead q
          on (inl h) = let i = of_w q h in inr (neither k s q i.is_not_save i.is_not_suspend, i.to_suspend)
          on (inr e) = inl (same_point-same q w.suspend e ∙ b)

-- ---- all windows

module _ (f : Function) where
  abbrev g : Function
  g = with_edge_blocks f

  -- the same instruction stands at a point
  pub instr_moved : (p : Point) → instr_at (with_edge_blocks f) (moved f p) ≡ instr_at f p
  instr_moved p = on (slice_get f.blocks p.block) refl
    where
      on : (o : Option Block) → slice_get f.blocks p.block ≡ o → instr_at (with_edge_blocks f) (moved f p) ≡ instr_in o p.at
      on None e = ap (λ (x : Option Block). instr_in x p.at) (get_none (phi_flags f) (table_of f) p.block (length f.names) f.blocks e)
      on (Some b) e = ap (λ (x : Option Block). instr_in x p.at) (get_block (phi_flags f) (table_of f) p.block (length f.names) f.blocks b e)

  -- the suspend of a save is moved
  pub suspend_moved : (p : Point) → suspend_of (with_edge_blocks f) (moved f p) ≡ option_map (moved f) (suspend_of f p)
  suspend_moved p =
      ap (λ (o : Option Instr). slice_get (points_where (is_suspend_of (option_and_then call_result o)) (with_edge_blocks f)) 0) (instr_moved p)
      ∙ ap (λ (ps : List Point). slice_get ps 0) (points_moved (is_suspend_of (option_and_then call_result (instr_at f p))) f)
      ∙ slice_get-map (moved f) (points_where (is_suspend_of (option_and_then call_result (instr_at f p))) f) 0

  abbrev pair_in : Function → Point → Option (Point × Point)
  pair_in h save = option_map (λ suspend. (save, suspend)) (suspend_of h save)

  abbrev windows_by : Function → List Point → List Window
  windows_by h ps = map (λ (x : Point × Point). window_of h x.0 x.1) (filter_map (pair_in h) ps)

  abbrev with_window : Function → Point → Option Point → List Point → List Window
  with_window h save o ps = map (λ (x : Point × Point). window_of h x.0 x.1) (cons_option (option_map (λ suspend. (save, suspend)) o) (filter_map (pair_in h) ps))

  abbrev AreRight : Function → List Window → Type 0
  AreRight h ws = AllByRecursion (IsWindow h) ws

  abbrev AreMovedWindows : List Window → List Window → Type 0
  AreMovedWindows ws vs = ArePaired (IsMoved (with_edge_blocks f) (moved f)) ws vs

  windows_by_moved : HasNamedLabels f → (ps : List Point) → AreRight f (windows_by f ps) → AreRight g (windows_by g (map (moved f) ps)) → AreMovedWindows (windows_by f ps) (windows_by g (map (moved f) ps))
  windows_by_moved named [] hw hv = tt
  windows_by_moved named (p ∷ ps) hw hv = on (suspend_of f p) (suspend_of g (moved f p)) (suspend_moved p) hw hv (windows_by_moved named ps)
    where
      on : (o u : Option Point) → u ≡ option_map (moved f) o → AreRight f (with_window f p o ps) → AreRight g (with_window g (moved f p) u (map (moved f) ps)) → (AreRight f (windows_by f ps) → AreRight g (windows_by g (map (moved f) ps)) → AreMovedWindows (windows_by f ps) (windows_by g (map (moved f) ps))) → AreMovedWindows (with_window f p o ps) (with_window g (moved f p) u (map (moved f) ps))
      on None None e right there again = again right there
      on None (Some t) e right there again = absurd (cc)
      on (Some s) None e right there again = absurd (cc)
      on (Some s) (Some t) e right there again = (
        window_moved f (with_edge_blocks f) (moved f) (threads f named) p s (window_of f p s) (window_of g (moved f p) t) refl refl refl (cc) right.0 there.0,
        again right.1 there.1,
      )

  abbrev is_save : Instr → Bool
  is_save i = is_call_of Intrinsic.CoroSave i

  -- the windows are moved, in their order
  pub windows_moved : HasNamedLabels f → AreMovedWindows (windows_of f) (windows_of (with_edge_blocks f))
  windows_moved named =
      subst (λ (ps : List Point). AreMovedWindows (windows_of f) (windows_by g ps)) (sym (points_moved is_save f))
      (windows_by_moved named (points_where is_save f)
      (recursion_from_All (IsWindow f) (windows_of f) (facts_of_right f).windows)
      (subst (λ (ps : List Point). AreRight g (windows_by g ps)) (points_moved is_save f) (recursion_from_All (IsWindow g) (windows_of g) (facts_of_right g).windows)))
