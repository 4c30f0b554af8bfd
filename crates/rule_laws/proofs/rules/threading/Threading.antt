-- Where edges lead over blocks that hold a jump alone, a path between points is one between where they are then.
use Rattle.std.proofs.Common.{◌≡◌, ◌⊎◌, inl, inr, ⊎_elim, ℕ, ◌+◌, Bool, true, false, List, [], ◌∷◌, length, refl, sym, ap, ◌∙◌, subst}
use Rattle.std.specs.Prelude.{Some, None, Option, map, nat_lt, slice_get, if◌then◌else◌, ◌==◌}
use Rattle.ir_laws.specs.flow_solver.Paths.{IsListed}
use Rattle.ir_laws.proofs.paths.threads.Edges.{one_there, only_one}
use Rattle.ir_laws.specs.paths.threads.Threads.{AreThreads, IsBetween, IsOnEdge, LeadsOver}
use Rattle.ir_laws.specs.ir_model.Names.{position_of}
use Rattle.ir_laws.specs.ir_model.declared.module.Block.{Block}
use Rattle.ir_laws.specs.ir_model.declared.module.Function.{Function}
use Rattle.ir_laws.proofs.ir_paths.Search.{Has, either, or_left, or_right, same_point-itself, same_point-same}
use Rattle.ir_laws.specs.ir_paths.Paths.{entry_point, has_point, nexts, nexts_in, same_point, targets}
use Rattle.ir_laws.specs.ir_paths.declared.point.Point.{Point}
use Rattle.ir_laws.proofs.paths.threaded.Threads.{IsOver, LeadsBack, LeadsForth, Moves}
use Rattle.rule_laws.proofs.rules.threaded.Threads.{IsThreaded}

-- ---- the blocks of labels

pub entry_has : (g : Function) (labels : List ℕ) (label : ℕ) → IsListed label labels → Has (map (entry_point g) labels) (entry_point g label)
entry_has g [] label l = absurd l
entry_has g (x ∷ labels) label (inl e) =
    or_left (same_point (entry_point g label) (entry_point g x)) (has_point (map (entry_point g) labels) (entry_point g label))
    (ap (λ (n : ℕ). same_point (entry_point g label) (entry_point g n)) (sym e) ∙ same_point-itself (entry_point g label))
entry_has g (x ∷ labels) label (inr l) = or_right (same_point (entry_point g label) (entry_point g x)) (has_point (map (entry_point g) labels) (entry_point g label)) (entry_has g labels label l)

-- a label to whose block a point is the first
pub record IsEntryOf (f : Function) (labels : List ℕ) (q : Point) : Type 0 where
  pub label : ℕ
  pub listed : IsListed label labels
  pub is : q ≡ entry_point f label

pub has_entry : (f : Function) (labels : List ℕ) (q : Point) → Has (map (entry_point f) labels) q → IsEntryOf f labels q
has_entry f [] q h = absurd (cc)
has_entry f (x ∷ labels) q h = on (has_entry f labels q) (either (same_point q (entry_point f x)) (has_point (map (entry_point f) labels) q) h)
  where
    on : (Has (map (entry_point f) labels) q → IsEntryOf f labels q) → (same_point q (entry_point f x) ≡ true) ⊎ Has (map (entry_point f) labels) q → IsEntryOf f (x ∷ labels) q
    on again (inl e) = record { label = x; listed = inl refl; is = same_point-same q (entry_point f x) e }
    on again (inr m) = let old = again m in record { label = old.label; listed = inr old.listed; is = old.is }

module _ (f g : Function) (s : Moves) (t : IsThreaded f g s) where
  abbrev pub move : Point → Point
  move p = record { block = s.spot p.block; at = p.at }

  moved_apart : (p q : Point) → move p ≡ move q → p ≡ q
  moved_apart p q e =
      let b = t.spots p.block q.block (ap (λ (x : Point). x.block) e) in
      let a = ap (λ (x : Point). x.at) e in
      λ i. record { block = b i; at = a i }

  -- the first point of a target's block is moved
  pub entry_moved : (label : ℕ) → position_of g label ≡ s.spot (position_of f label) → entry_point g label ≡ move (entry_point f label)
  entry_moved label e = λ i. record { block = e i; at = 0 }

  -- the block on an edge stands between
  pub is_between : (k target label : ℕ) → IsOver f g s k target label → IsBetween g move (move (entry_point f target)) (entry_point g label)
  is_between k target label o = record {
    next = record {
      edge = subst (λ (ps : List Point). Has ps (move (entry_point f target))) (sym leads) (subst (λ (y : Point). Has (y ∷ []) (move (entry_point f target))) (sym next) (one_there (move (entry_point f target))));
      only = λ z h. only_one (entry_point g target) z (subst (λ (ps : List Point). Has ps z) leads h) ∙ next;
    };
    apart = λ p e. o.apart p.block (sym (ap (λ (x : Point). x.block) e));
  }
    where
      leads : nexts g (entry_point g label) ≡ entry_point g target ∷ []
      leads = ap (nexts_in g (entry_point g label)) o.got

      next : entry_point g target ≡ move (entry_point f target)
      next = entry_moved target o.next

  -- ---- edges

  abbrev pub own_nexts : Function → Point → ℕ → Bool → Bool → List ℕ → List Point
  own_nexts h p block low last labels = if low then record { block = block; at = p.at + 1 } ∷ [] else if last then map (entry_point h) labels else []

  pub moved_nexts : (p : Point) (b : Block) → slice_get f.blocks p.block ≡ Some b → nexts g (move p) ≡ own_nexts g p (s.spot p.block) (nat_lt p.at (length b.instrs)) (p.at == length b.instrs) (targets (s.term p.block b))
  moved_nexts p b there = ap (nexts_in g (move p)) (t.there p.block b there)

  forth_by : (p q : Point) (b : Block) → slice_get f.blocks p.block ≡ Some b → (low last : Bool) → Has (own_nexts f p p.block low last (targets b.term)) q → nexts g (move p) ≡ own_nexts g p (s.spot p.block) low last (targets (s.term p.block b)) → LeadsOver g move (move p) (move q)
  forth_by p q b there true last h e =
      let same : q ≡ record { block = p.block; at = p.at + 1 } = only_one (record { block = p.block; at = p.at + 1 }) q h in
      record {
        first = move q;
        edge = subst (λ (ps : List Point). Has ps (move q)) (sym e) (subst (λ (y : Point). Has (y ∷ []) (move q)) (ap move same) (one_there (move q)));
        is = inl refl;
      }
  forth_by p q b there false false h e = absurd (cc)
  forth_by p q b there false true h e = onward (has_entry f (targets b.term) q h)
    where
      onward : IsEntryOf f (targets b.term) q → LeadsOver g move (move p) (move q)
      onward x = by (t.forth p.block b x.label there x.listed)
        where
          by : LeadsForth f g s p.block b x.label → LeadsOver g move (move p) (move q)
          by y = ⊎_elim
              (λ (d : y.label ≡ x.label). record {
                first = entry_point g y.label;
                edge = edge;
                is = inl (ap (entry_point g) d ∙ entry_moved x.label (t.old p.block b x.label there x.listed) ∙ ap move (sym x.is));
              })
              (λ (o : IsOver f g s p.block x.label y.label). record {
                first = entry_point g y.label;
                edge = edge;
                is = inr (subst (λ (z : Point). IsBetween g move (move z) (entry_point g y.label)) (sym x.is) (is_between p.block x.label y.label o));
              })
              y.way
            where
              edge : Has (nexts g (move p)) (entry_point g y.label)
              edge = subst (λ (ps : List Point). Has ps (entry_point g y.label)) (sym e) (entry_has g (targets (s.term p.block b)) y.label y.named)

  forth : (p q : Point) → Has (nexts f p) q → LeadsOver g move (move p) (move q)
  forth p q h = on (slice_get f.blocks p.block) refl h
    where
      on : (o : Option Block) → slice_get f.blocks p.block ≡ o → Has (nexts_in f p o) q → LeadsOver g move (move p) (move q)
      on None e h = absurd (cc)
      on (Some b) e h = forth_by p q b e (nat_lt p.at (length b.instrs)) (p.at == length b.instrs) h (moved_nexts p b e)

  home_by : (p y : Point) (b : Block) → slice_get f.blocks p.block ≡ Some b → (low last : Bool) → Has (own_nexts g p (s.spot p.block) low last (targets (s.term p.block b))) y → nexts f p ≡ own_nexts f p p.block low last (targets b.term) → IsOnEdge f g move p y
  home_by p y b there true last h e = record {
    point = record { block = p.block; at = p.at + 1 };
    edge = subst (λ (ps : List Point). Has ps (record { block = p.block; at = p.at + 1 })) (sym e) (one_there (record { block = p.block; at = p.at + 1 }));
    is = inl (only_one (record { block = s.spot p.block; at = p.at + 1 }) y h);
  }
  home_by p y b there false false h e = absurd (cc)
  home_by p y b there false true h e = onward (has_entry g (targets (s.term p.block b)) y h)
    where
      onward : IsEntryOf g (targets (s.term p.block b)) y → IsOnEdge f g move p y
      onward x = by (t.back p.block b x.label there x.listed)
        where
          by : LeadsBack f g s p.block b x.label → IsOnEdge f g move p y
          by z = ⊎_elim
              (λ (d : x.label ≡ z.target). record {
                point = entry_point f z.target;
                edge = edge;
                is = inl (x.is ∙ ap (entry_point g) d ∙ entry_moved z.target (t.old p.block b z.target there z.listed));
              })
              (λ (o : IsOver f g s p.block z.target x.label). record {
                point = entry_point f z.target;
                edge = edge;
                is = inr (subst (IsBetween g move (move (entry_point f z.target))) (sym x.is) (is_between p.block z.target x.label o));
              })
              z.way
            where
              edge : Has (nexts f p) (entry_point f z.target)
              edge = subst (λ (ps : List Point). Has ps (entry_point f z.target)) (sym e) (entry_has f (targets b.term) z.target z.listed)

  home : (p y : Point) → Has (nexts g (move p)) y → IsOnEdge f g move p y
  home p y h = on (slice_get f.blocks p.block) refl
    where
      on : (o : Option Block) → slice_get f.blocks p.block ≡ o → IsOnEdge f g move p y
      on None e = let none : nexts g (move p) ≡ [] = ap (nexts_in g (move p)) (t.missing p.block e) in let no = subst (λ (ps : List Point). Has ps y) none h in absurd (cc)
      on (Some b) e = home_by p y b e (nat_lt p.at (length b.instrs)) (p.at == length b.instrs) (subst (λ (ps : List Point). Has ps y) (moved_nexts p b e) h) (ap (nexts_in f p) e)

  pub threads : AreThreads f g move
  threads = record { apart = moved_apart; forth = forth; home = home }
