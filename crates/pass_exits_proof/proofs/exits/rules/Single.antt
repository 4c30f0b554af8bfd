-- An edge that is the only one of its block leaves no window, so no edge to a block with phis does where jumps alone lead there.
use Rattle.std.proofs.Common.{◌≡◌, ℕ, ◌+◌, Bool, true, false, ◌&&◌, ◌||◌, List, [], ◌∷◌, length, map, refl, sym, ap, ◌∙◌, subst}
use Rattle.std.proofs.lemmas.List.Elements.{All-head, All-tail}
use Rattle.std.specs.Prelude.{All, Some, None, Option, not, slice_get, if◌then◌else◌}
use Rattle.pass_fetch_proof.proofs.ir_laws.paths.threads.Edges.{only_one}
use Rattle.pass_fetch_proof.specs.edges.rules.Phis.{ArePhisEnteredByJumps}
use Rattle.pass_edges.specs.Edges.{ends_in_suspend, has_phis}
use Rattle.pass_fetch_proof.specs.rule_phis.Edges.{has}
use Rattle.pass_fetch_proof.specs.flow_solver.Paths.{IsListed}
use Rattle.ir_model.specs.declared.instr.Terminator.{Terminator}
use Rattle.ir_model.specs.declared.module.Block.{Block}
use Rattle.ir_model.specs.declared.module.Function.{Function}
use Rattle.pass_fetch_proof.proofs.ir_paths.Right.{facts_of_right}
use Rattle.pass_fetch_proof.proofs.ir_paths.Search.{Has, eq_itself, leads-more, or_left, or_right, same_point-itself}
use Rattle.pass_fetch_proof.specs.ir_paths.Facts.{IsWindow}
use Rattle.pass_fetch_proof.specs.ir_paths.Paths.{IsPath, entry_point, has_point, nexts, nexts_in, same_point, targets}
use Rattle.pass_fetch_proof.specs.ir_paths.Windows.{IsInWindow, leaves, windows_of}
use Rattle.pass_fetch_proof.specs.ir_paths.declared.point.Point.{Point}
use Rattle.pass_fetch_proof.specs.ir_paths.declared.point.Window.{Window}
use Rattle.pass_split.specs.pass_exits.Exits.{end_of, mark_from, mark_in, mark_of, number_of, or_else}
use Rattle.pass_fetch_proof.proofs.ir_laws.facts.Truth.{first_no as none_first, not_below, second_no as none_second}
use Rattle.pass_fetch_proof.proofs.rule_laws.rules.threaded.Single.{listed_leads}

no_mark_by : (x y z : Bool) → (x ≡ true → (y || z) ≡ true) → (x && not y && not z) ≡ false
no_mark_by true true z h = refl
no_mark_by true false true h = refl
no_mark_by true false false h = sym (h refl)
no_mark_by false y z h = refl

marks_none : (f : Function) (p q : Point) (ws : List Window) → All (IsWindow f) ws → ((w : Window) → IsWindow f w → leaves p q w ≡ false) → mark_in f p q ws ≡ None
marks_none f p q [] all h = refl
marks_none f p q (w ∷ ws) all h =
    ap (λ (x : Bool). or_else (if x then number_of f w.save else None) (mark_in f p q ws)) (h w (All-head (IsWindow f) w ws all))
    ∙ marks_none f p q ws (All-tail (IsWindow f) w ws all) h

module _ (f : Function) (at : ℕ) (b : Block) (label : ℕ) (there : slice_get f.blocks at ≡ Some b) (jump : b.term ≡ Terminator.Jump label) where
  abbrev p : Point
  p = end_of at b

  abbrev q : Point
  q = entry_point f label

  next_is : nexts f (end_of at b) ≡ entry_point f label ∷ []
  next_is =
      ap (nexts_in f (end_of at b)) there
      ∙ (λ i. if not_below (length b.instrs) i then record { block = at; at = length b.instrs + 1 } ∷ [] else if eq_itself (length b.instrs) i then map (entry_point f) (targets (jump i)) else [])

  -- what stands behind it is in the window too, or is its suspend
  ahead : (w : Window) → IsWindow f w → has_point w.inside p ≡ true → (has_point w.inside q || same_point q w.suspend) ≡ true
  ahead w window e = on inside.to_suspend.between inside.to_suspend.is_path
    where
      inside : IsInWindow f w.save w.suspend (end_of at b)
      inside = (window.inside (end_of at b)).0 e

      next : (v : Point) → Has (nexts f (end_of at b)) v → v ≡ entry_point f label
      next v h = only_one (entry_point f label) v (subst (λ (ps : List Point). Has ps v) next_is h)

      open_here : has_point (w.save ∷ w.suspend ∷ []) (end_of at b) ≡ false
      open_here = λ i. inside.is_not_save i || (inside.is_not_suspend i || false)

      on : (between : List Point) → IsPath f (w.save ∷ w.suspend ∷ []) (end_of at b) between w.suspend → (has_point w.inside (entry_point f label) || same_point (entry_point f label) w.suspend) ≡ true
      on [] h = or_right (has_point w.inside (entry_point f label)) (same_point (entry_point f label) w.suspend) (ap (same_point (entry_point f label)) (next w.suspend h) ∙ same_point-itself (entry_point f label))
      on (v ∷ rest) h =
          let same : v ≡ entry_point f label = next v h.0 in
          let off : has_point (w.save ∷ w.suspend ∷ []) (entry_point f label) ≡ false = subst (λ (x : Point). has_point (w.save ∷ w.suspend ∷ []) x ≡ false) same h.1 in
          let later = none_second (same_point (entry_point f label) w.save) (same_point (entry_point f label) w.suspend || false) off in
          or_left (has_point w.inside (entry_point f label)) (same_point (entry_point f label) w.suspend)
          ((window.inside (entry_point f label)).1 (record {
            is_not_save = none_first (same_point (entry_point f label) w.save) (same_point (entry_point f label) w.suspend || false) off;
            is_not_suspend = none_first (same_point (entry_point f label) w.suspend) false later;
            from_save = leads-more f (w.save ∷ w.suspend ∷ []) w.save (end_of at b) (entry_point f label) inside.from_save open_here (subst (λ (x : Point). Has (nexts f (end_of at b)) x) same h.0);
            to_suspend = record { between = rest; is_path = subst (λ (x : Point). IsPath f (w.save ∷ w.suspend ∷ []) x rest w.suspend) same h.2 };
          }))

  all_windows : mark_in f p q (windows_of f) ≡ None
  all_windows =
      marks_none f p q (windows_of f) (facts_of_right f).windows
      (λ w window. no_mark_by (has_point w.inside p) (has_point w.inside q) (same_point q w.suspend) (ahead w window))

  either_none : (s : Bool) → (if s then None else mark_in f p q (windows_of f)) ≡ None
  either_none true = refl
  either_none false = all_windows

  pub no_mark : mark_of f at label ≡ None
  no_mark = ap (λ (o : Option Block). mark_from f at o (entry_point f label) (windows_of f)) there ∙ either_none (ends_in_suspend b.instrs)

-- an edge to a block with phis has no mark
pub phis_unmarked : (f : Function) → ArePhisEnteredByJumps f → (k at : ℕ) (b c : Block) → slice_get f.blocks k ≡ Some b → has_phis b.phis ≡ true → slice_get f.blocks at ≡ Some c → IsListed b.label (targets c.term) → mark_of f at b.label ≡ None
phis_unmarked f jumps k at b c there some here l = no_mark f at c b.label here (jumps k at b c there some here (listed_leads c b.label l))
