-- The windows that a branch leaves, where edges have blocks.
use Rattle.std.proofs.Common.{◌≡◌, inl, inr, Bool, true, false, List, [], ◌∷◌, refl, ap, ◌∙◌}
use Rattle.std.specs.Prelude.{filter, not, ◌&&◌, ◌||◌, if◌then◌else◌}
use Rattle.pass_edges.specs.EdgeBlocks.{with_edge_blocks}
use Rattle.ir_model.specs.declared.module.Function.{Function}
use Rattle.pass_early_proof.proofs.ir_paths.Search.{Has}
use Rattle.pass_early_proof.specs.ir_paths.Paths.{has_point, nexts, same_point}
use Rattle.pass_early_proof.specs.ir_paths.Windows.{leaves, windows_of}
use Rattle.pass_early_proof.specs.ir_paths.declared.point.Point.{Point}
use Rattle.pass_early_proof.specs.ir_paths.declared.point.Window.{Window}
use Rattle.pass_early_proof.proofs.ir_laws.paths.expanded.Apart.{same_moved}
use Rattle.pass_edges_proof.proofs.edges.paths.Edges.{threads}
use Rattle.pass_edges_proof.proofs.edges.paths.Windows.{differ, windows_moved}
use Rattle.pass_early_proof.specs.ir_laws.paths.threads.Labels.{HasNamedLabels}
use Rattle.pass_early_proof.specs.ir_laws.facts.threads.Moved.{ArePaired}
use Rattle.pass_early_proof.specs.ir_laws.paths.threads.Moved.{GoesTo, IsMoved}
use Rattle.pass_edges_proof.specs.edges.paths.Spots.{moved}
use Rattle.pass_early_proof.specs.ir_laws.paths.threads.Threads.{AreThreads, IsBetween}

module _ (f g : Function) (move : Point → Point) (threads : AreThreads f g move) where
  to_suspend : (w v : Window) → IsMoved g move w v → (q : Point) → same_point (move q) v.suspend ≡ same_point q w.suspend
  to_suspend w v m q = ap (same_point (move q)) m.suspend ∙ same_moved move move q w.suspend (threads.apart q w.suspend) refl

  leaves_direct : (w v : Window) → IsMoved g move w v → (p q : Point) → leaves (move p) (move q) v ≡ leaves p q w
  leaves_direct w v m p q =
      let to = to_suspend w v m q in
      λ i. m.inside p i && not (m.inside q i) && not (to i)

  neither_one : (a b : Bool) → (not (a || b) && true) ≡ (not a && not b)
  neither_one true b = refl
  neither_one false true = refl
  neither_one false false = refl

  leaves_between : (w v : Window) → IsMoved g move w v → (p q y : Point) → Has (nexts g (move p)) y → IsBetween g move (move q) y → leaves (move p) y v ≡ leaves p q w
  leaves_between w v m p q y e b =
      (λ i. m.inside p i && not (has_point v.inside y) && not (apart i)) ∙ on (has_point w.inside p) refl
    where
      apart : same_point y v.suspend ≡ false
      apart = ap (same_point y) m.suspend ∙ differ (move w.suspend) y (b.apart w.suspend)

      on : (t : Bool) → has_point w.inside p ≡ t → (t && not (has_point v.inside y) && true) ≡ (t && not (has_point w.inside q) && not (same_point q w.suspend))
      on true h =
          ap (λ (u : Bool). not u && true) (m.entered p q y e b h)
          ∙ neither_one (has_point w.inside q) (same_point q w.suspend)
      on false h = refl

  leaves_moved : (w v : Window) → IsMoved g move w v → (p q y : Point) → Has (nexts g (move p)) y → GoesTo g move q y → leaves (move p) y v ≡ leaves p q w
  leaves_moved w v m p q y e (inl s) = ap (λ (x : Point). leaves (move p) x v) s ∙ leaves_direct w v m p q
  leaves_moved w v m p q y e (inr b) = leaves_between w v m p q y e b

  no_more : (a b : Bool) → (a || b) ≡ true → (not a && not b) ≡ false
  no_more true b e = refl
  no_more false true e = refl
  no_more false false e = absurd (cc)

  leaves_none : (w v : Window) → IsMoved g move w v → (q y : Point) → IsBetween g move (move q) y → leaves y (move q) v ≡ false
  leaves_none w v m q y b = on (has_point v.inside y) refl
    where
      to : same_point (move q) v.suspend ≡ same_point q w.suspend
      to = to_suspend w v m q

      on : (t : Bool) → has_point v.inside y ≡ t → (t && not (has_point v.inside (move q)) && not (same_point (move q) v.suspend)) ≡ false
      on true h =
          (λ i. not (m.inside q i) && not (to i))
          ∙ no_more (has_point w.inside q) (same_point q w.suspend) (m.stays q y b h)
      on false h = refl

  abbrev AreMoved : List Window → List Window → Type 0
  AreMoved ws vs = ArePaired (IsMoved g move) ws vs

  pub left_by : (ws vs : List Window) → AreMoved ws vs → (p q y : Point) → Has (nexts g (move p)) y → GoesTo g move q y → AreMoved (filter (leaves p q) ws) (filter (leaves (move p) y) vs)
  left_by [] [] h p q y e b = tt
  left_by [] (v ∷ vs) h p q y e b = absurd h
  left_by (w ∷ ws) [] h p q y e b = absurd h
  left_by (w ∷ ws) (v ∷ vs) h p q y e b = on (leaves p q w) (leaves (move p) y v) (leaves_moved w v h.0 p q y e b) (left_by ws vs h.1 p q y e b)
    where
      on : (a c : Bool) → c ≡ a → AreMoved (filter (leaves p q) ws) (filter (leaves (move p) y) vs) → AreMoved (if a then w ∷ filter (leaves p q) ws else filter (leaves p q) ws) (if c then v ∷ filter (leaves (move p) y) vs else filter (leaves (move p) y) vs)
      on true true s again = (h.0, again)
      on true false s again = absurd (cc)
      on false true s again = absurd (cc)
      on false false s again = again

  pub none_by : (ws vs : List Window) → AreMoved ws vs → (q y : Point) → IsBetween g move (move q) y → filter (leaves y (move q)) vs ≡ []
  none_by [] [] h q y b = refl
  none_by [] (v ∷ vs) h q y b = absurd h
  none_by (w ∷ ws) [] h q y b = absurd h
  none_by (w ∷ ws) (v ∷ vs) h q y b =
      ap (λ (t : Bool). if t then v ∷ filter (leaves y (move q)) vs else filter (leaves y (move q)) vs) (leaves_none w v h.0 q y b)
      ∙ none_by ws vs h.1 q y b

module _ (f : Function) (named : HasNamedLabels f) where
  -- a branch leaves the windows that it left, also where it goes to an edge's block
  pub left_moved : (p q y : Point) → Has (nexts (with_edge_blocks f) (moved f p)) y → GoesTo (with_edge_blocks f) (moved f) q y → ArePaired (IsMoved (with_edge_blocks f) (moved f)) (filter (leaves p q) (windows_of f)) (filter (leaves (moved f p) y) (windows_of (with_edge_blocks f)))
  left_moved p q y e b = left_by f (with_edge_blocks f) (moved f) (threads f named) (windows_of f) (windows_of (with_edge_blocks f)) (windows_moved f named) p q y e b

  -- the jump from there leaves none
  pub none_left : (q y : Point) → IsBetween (with_edge_blocks f) (moved f) (moved f q) y → filter (leaves y (moved f q)) (windows_of (with_edge_blocks f)) ≡ []
  none_left q y b = none_by f (with_edge_blocks f) (moved f) (threads f named) (windows_of f) (windows_of (with_edge_blocks f)) (windows_moved f named) q y b
