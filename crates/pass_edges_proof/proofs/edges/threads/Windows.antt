-- Where points are moved and edges lead over at most one further point, windows are moved, and a branch leaves those that it left.
use Rattle.std.proofs.Common.{◌≡◌, Bool, List, [], ◌∷◌, refl, sym, subst}
use Rattle.std.proofs.lemmas.List.Elements.{recursion_from_All}
use Rattle.std.specs.List.{AllByRecursion, cons_option}
use Rattle.std.specs.Prelude.{Some, None, Option, filter, filter_map, map, option_map}
use Rattle.pass_edges_proof.proofs.edges.paths.Left.{left_by, none_by}
use Rattle.pass_edges_proof.proofs.edges.paths.Windows.{window_moved}
use Rattle.pass_early_proof.specs.ir_laws.facts.threads.Moved.{ArePaired}
use Rattle.pass_early_proof.specs.ir_laws.paths.threads.Moved.{GoesTo, IsMoved}
use Rattle.pass_early_proof.specs.ir_laws.paths.threads.Threads.{AreThreads, IsBetween}
use Rattle.ir_model.specs.declared.instr.Instr.{Instr}
use Rattle.ir_model.specs.declared.module.Function.{Function}
use Rattle.ir_model.specs.declared.operand.Intrinsic.{Intrinsic}
use Rattle.pass_early_proof.proofs.ir_paths.Right.{facts_of_right}
use Rattle.pass_early_proof.proofs.ir_paths.Search.{Has}
use Rattle.pass_early_proof.specs.ir_paths.Facts.{IsWindow}
use Rattle.pass_early_proof.specs.ir_paths.Paths.{nexts}
use Rattle.pass_early_proof.specs.ir_paths.Windows.{is_call_of, leaves, points_where, suspend_of, window_of, windows_of}
use Rattle.pass_early_proof.specs.ir_paths.declared.point.Point.{Point}
use Rattle.pass_early_proof.specs.ir_paths.declared.point.Window.{Window}
use Rattle.pass_early_proof.specs.run_states.moved_states.Moving.{saves_left}

module _ (f g : Function) (move : Point → Point) (threads : AreThreads f g move) (points : (test : Instr → Bool) → points_where test g ≡ map move (points_where test f)) (suspends : (p : Point) → suspend_of g (move p) ≡ option_map move (suspend_of f p)) where
  abbrev pair_in : Function → Point → Option (Point × Point)
  pair_in h save = option_map (λ suspend. (save, suspend)) (suspend_of h save)

  abbrev windows_by : Function → List Point → List Window
  windows_by h ps = map (λ (x : Point × Point). window_of h x.0 x.1) (filter_map (pair_in h) ps)

  abbrev with_window : Function → Point → Option Point → List Point → List Window
  with_window h save o ps = map (λ (x : Point × Point). window_of h x.0 x.1) (cons_option (option_map (λ suspend. (save, suspend)) o) (filter_map (pair_in h) ps))

  abbrev AreRight : Function → List Window → Type 0
  AreRight h ws = AllByRecursion (IsWindow h) ws

  abbrev AreMovedWindows : List Window → List Window → Type 0
  AreMovedWindows ws vs = ArePaired (IsMoved g move) ws vs

  windows_by_moved : (ps : List Point) → AreRight f (windows_by f ps) → AreRight g (windows_by g (map move ps)) → AreMovedWindows (windows_by f ps) (windows_by g (map move ps))
  windows_by_moved [] hw hv = tt
  windows_by_moved (p ∷ ps) hw hv = on (suspend_of f p) (suspend_of g (move p)) (suspends p) hw hv (windows_by_moved ps)
    where
      on : (o u : Option Point) → u ≡ option_map move o → AreRight f (with_window f p o ps) → AreRight g (with_window g (move p) u (map move ps)) → (AreRight f (windows_by f ps) → AreRight g (windows_by g (map move ps)) → AreMovedWindows (windows_by f ps) (windows_by g (map move ps))) → AreMovedWindows (with_window f p o ps) (with_window g (move p) u (map move ps))
      on None None e right there again = again right there
      on None (Some t) e right there again = absurd (cc)
      on (Some s) None e right there again = absurd (cc)
      on (Some s) (Some t) e right there again = (
        window_moved f g move threads p s (window_of f p s) (window_of g (move p) t) refl refl refl (cc) right.0 there.0,
        again right.1 there.1,
      )

  abbrev is_save : Instr → Bool
  is_save i = is_call_of Intrinsic.CoroSave i

  -- the windows are moved, in their order
  windows_moved : AreMovedWindows (windows_of f) (windows_of g)
  windows_moved =
      subst (λ (ps : List Point). AreMovedWindows (windows_of f) (windows_by g ps)) (sym (points is_save))
      (windows_by_moved (points_where is_save f)
      (recursion_from_All (IsWindow f) (windows_of f) (facts_of_right f).windows)
      (subst (λ (ps : List Point). AreRight g (windows_by g ps)) (points is_save) (recursion_from_All (IsWindow g) (windows_of g) (facts_of_right g).windows)))

  saves_moved : (ws vs : List Window) → AreMovedWindows ws vs → map (λ (w : Window). w.save) vs ≡ map move (map (λ (w : Window). w.save) ws)
  saves_moved [] [] all = refl
  saves_moved [] (v ∷ vs) all = absurd all
  saves_moved (w ∷ ws) [] all = absurd all
  saves_moved (w ∷ ws) (v ∷ vs) all =
      let first = all.0.save in
      let rest = saves_moved ws vs all.1 in
      λ i. first i ∷ rest i

  -- a branch leaves the windows that it left, also where it goes to the point between
  pub left_moved : (p q y : Point) → Has (nexts g (move p)) y → GoesTo g move q y → saves_left g (move p) y ≡ map move (saves_left f p q)
  left_moved p q y h b = saves_moved (filter (leaves p q) (windows_of f)) (filter (leaves (move p) y) (windows_of g)) (left_by f g move threads (windows_of f) (windows_of g) windows_moved p q y h b)

  -- and from there leaves none
  pub none_left : (q y : Point) → IsBetween g move (move q) y → filter (leaves y (move q)) (windows_of g) ≡ []
  none_left q y b = none_by f g move threads (windows_of f) (windows_of g) windows_moved q y b
