-- Paths of a function, and those of one that has points of its own on some edges.
use Rattle.std.proofs.Common.{◌≡◌, ◌⊎◌, inl, inr, false, List, [], ◌∷◌, sym, subst, ◌∙◌, ◌↔◌}
use Rattle.run_laws.specs.ir_model.declared.module.Function.{Function}
use Rattle.run_laws.proofs.ir_paths.Search.{Has}
use Rattle.run_laws.specs.ir_paths.Paths.{IsPath, Leads, has_point, nexts}
use Rattle.run_laws.specs.ir_paths.declared.point.Point.{Point}
use Rattle.ir_laws.specs.paths.threads.Threads.{AreAvoidedToo, AreThreads, IsBetween, IsOnEdge, LeadsOnlyTo, LeadsOver}
use Rattle.ir_laws.proofs.paths.alike_slots.Strands.{leads_at}
use Rattle.ir_laws.proofs.paths.expanded.Strands.{leads_on}

module _ (f g : Function) (move : Point → Point) (threads : AreThreads f g move) (avoided besides : List Point) (both : AreAvoidedToo move avoided besides) where
  free : (p : Point) → has_point avoided p ≡ false → has_point besides (move p) ≡ false
  free p n = both.moved p ∙ n

  -- on from the point between, or from where it leads
  over : (x y q : Point) → LeadsOver g move x y → has_point besides y ≡ false → Leads g besides y q → Leads g besides x q
  over x y q o n l = on o.is
    where
      on : (o.first ≡ y) ⊎ IsBetween g move y o.first → Leads g besides x q
      on (inl e) = leads_on g besides x y q (subst (λ (z : Point). Has (nexts g x) z) e o.edge) n l
      on (inr b) = leads_on g besides x o.first q o.edge (both.others o.first b.apart) (leads_on g besides o.first y q b.next.edge n l)

  over_at : (x y : Point) → LeadsOver g move x y → Leads g besides x y
  over_at x y o = on o.is
    where
      on : (o.first ≡ y) ⊎ IsBetween g move y o.first → Leads g besides x y
      on (inl e) = leads_at g besides x y (subst (λ (z : Point). Has (nexts g x) z) e o.edge)
      on (inr b) = leads_on g besides x o.first y o.edge (both.others o.first b.apart) (leads_at g besides o.first y b.next.edge)

  path_forth : (between : List Point) (p q : Point) → IsPath f avoided p between q → Leads g besides (move p) (move q)
  path_forth [] p q h = over_at (move p) (move q) (threads.forth p q h)
  path_forth (v ∷ between) p q h = over (move p) (move v) (move q) (threads.forth p v h.0) (free v h.1) (path_forth between v q h.2)

  pub leads_forth : (p q : Point) → Leads f avoided p q → Leads g besides (move p) (move q)
  leads_forth p q l = path_forth l.between p q l.is_path

  -- what leads on from a point between
  abbrev pub IsAhead : Point → Point → Type 0
  IsAhead v q = (v ≡ q) ⊎ ((has_point avoided v ≡ false) × Leads f avoided v q)

  record Home (between : List Point) : Type 0 where
    pub of_point : (p q : Point) → IsPath g besides (move p) between (move q) → Leads f avoided p q
    pub of_between : (y v q : Point) → LeadsOnlyTo g y (move v) → IsPath g besides y between (move q) → IsAhead v q

  after : (p v q : Point) → Has (nexts f p) v → IsAhead v q → Leads f avoided p q
  after p v q e (inl s) = leads_at f avoided p q (subst (λ (x : Point). Has (nexts f p) x) s e)
  after p v q e (inr a) = leads_on f avoided p v q e a.0 a.1

  path_home : (between : List Point) → Home between
  path_home [] = record {
    of_point = λ p q h. let o = threads.home p (move q) h in last p q o o.is;
    of_between = λ y v q next h. inl (sym (threads.apart q v (next.only (move q) h)));
  }
    where
      last : (p q : Point) (o : IsOnEdge f g move p (move q)) → (move q ≡ move o.point) ⊎ IsBetween g move (move o.point) (move q) → Leads f avoided p q
      last p q o (inl e) = leads_at f avoided p q (subst (λ (x : Point). Has (nexts f p) x) (sym (threads.apart q o.point e)) o.edge)
      last p q o (inr b) = absurd (b.apart q (λ i. move q))
  path_home (v ∷ between) = on (path_home between)
    where
      on : Home between → Home (v ∷ between)
      on again = record {
        of_point = λ p q h. let o = threads.home p v h.0 in first p q h.1 h.2 o o.is;
        of_between = λ y w q next h.
            let e : v ≡ move w = next.only v h.0 in
            inr (sym (both.moved w) ∙ subst (λ (x : Point). has_point besides x ≡ false) e h.1, again.of_point w q (subst (λ (x : Point). IsPath g besides x between (move q)) e h.2));
      }
        where
          first : (p q : Point) → has_point besides v ≡ false → IsPath g besides v between (move q) → (o : IsOnEdge f g move p v) → (v ≡ move o.point) ⊎ IsBetween g move (move o.point) v → Leads f avoided p q
          first p q n h o (inl e) =
              leads_on f avoided p o.point q o.edge (sym (both.moved o.point) ∙ subst (λ (x : Point). has_point besides x ≡ false) e n)
              (again.of_point o.point q (subst (λ (x : Point). IsPath g besides x between (move q)) e h))
          first p q n h o (inr b) = after p o.point q o.edge (again.of_between v o.point q b.next h)

  pub leads_home : (p q : Point) → Leads g besides (move p) (move q) → Leads f avoided p q
  leads_home p q l = (path_home l.between).of_point p q l.is_path

  pub ahead_home : (y v q : Point) → LeadsOnlyTo g y (move v) → Leads g besides y (move q) → IsAhead v q
  ahead_home y v q next l = (path_home l.between).of_between y v q next l.is_path

  pub ahead_forth : (y v q : Point) → LeadsOnlyTo g y (move v) → IsAhead v q → Leads g besides y (move q)
  ahead_forth y v q next (inl e) = leads_at g besides y (move q) (subst (λ (x : Point). Has (nexts g y) (move x)) e next.edge)
  ahead_forth y v q next (inr a) = leads_on g besides y (move v) (move q) next.edge (free v a.0) (leads_forth v q a.1)

  pub paths_kept : (p q : Point) → Leads f avoided p q ↔ Leads g besides (move p) (move q)
  paths_kept p q = (leads_forth p q, leads_home p q)
