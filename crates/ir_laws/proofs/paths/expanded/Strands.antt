-- Paths of a function, and those of one in which some points have become two, the first of which leads to the second alone.
use Rattle.std.proofs.Common.{◌≡◌, ◌⊎◌, inl, inr, false, List, [], ◌∷◌, sym, subst, ⊎_elim}
use Rattle.run_laws.specs.ir_model.declared.module.Function.{Function}
use Rattle.run_laws.proofs.ir_paths.Search.{Has}
use Rattle.run_laws.specs.ir_paths.Paths.{IsPath, Leads, has_point, nexts}
use Rattle.run_laws.specs.ir_paths.declared.point.Point.{Point}
pub use Rattle.ir_laws.specs.paths.expanded.Avoided.{AreAvoided}

-- an edge leads from x to y, and no other one from x
pub record IsOnlyNext (g : Function) (x y : Point) : Type 0 where
  pub edge : Has (nexts g x) y
  pub only : (z : Point) → Has (nexts g x) z → z ≡ y

-- a point to which an edge leads in f, of which y is the front
pub record IsFrontOfNext (f : Function) (front : Point → Point) (p y : Point) : Type 0 where
  pub point : Point
  pub is : y ≡ front point
  pub edge : Has (nexts f p) point

-- each point of f has a front and a back in g, which are one point or a point with its only next; and each edge leads from a back to a front
pub record AreStrands (f g : Function) (front back : Point → Point) : Type 0 where
  pub forth : (p q : Point) → Has (nexts f p) q → Has (nexts g (back p)) (front q)
  pub home : (p y : Point) → Has (nexts g (back p)) y → IsFrontOfNext f front p y
  pub within : (p : Point) → (front p ≡ back p) ⊎ IsOnlyNext g (front p) (back p)

pub leads_on : (f : Function) (avoided : List Point) (p v q : Point) → Has (nexts f p) v → has_point avoided v ≡ false → Leads f avoided v q → Leads f avoided p q
leads_on f avoided p v q e n l = record { between = v ∷ l.between; is_path = (e, n, l.is_path) }

leads_at : (f : Function) (avoided : List Point) (p q : Point) → Has (nexts f p) q → Leads f avoided p q
leads_at f avoided p q e = record { between = []; is_path = e }

module _ (f g : Function) (front back : Point → Point) (strands : AreStrands f g front back) (avoided besides : List Point) (both : AreAvoided front back avoided besides) where
  -- what leads on from the back leads on from the front
  pub from_front : (p y : Point) → has_point besides (back p) ≡ false → Leads g besides (back p) y → Leads g besides (front p) y
  from_front p y n l = ⊎_elim
      (λ (s : front p ≡ back p). subst (λ (x : Point). Leads g besides x y) (sym s) l)
      (λ (i : IsOnlyNext g (front p) (back p)). leads_on g besides (front p) (back p) y i.edge n l)
      (strands.within p)

  path_forth : (between : List Point) (p q : Point) → IsPath f avoided p between q → Leads g besides (back p) (front q)
  path_forth [] p q h = leads_at g besides (back p) (front q) (strands.forth p q h)
  path_forth (v ∷ between) p q h =
      leads_on g besides (back p) (front v) (front q) (strands.forth p v h.0) (both.fronts v h.1)
      (from_front v (front q) (both.backs v h.1) (path_forth between v q h.2))

  -- a path of f is one of g, from back to front
  pub leads_forth : (p q : Point) → Leads f avoided p q → Leads g besides (back p) (front q)
  leads_forth p q l = path_forth l.between p q l.is_path

  -- y is the front or the back of a point to which a path of f leads
  pub record IsLedTo (p y : Point) : Type 0 where
    pub point : Point
    pub is : (y ≡ front point) ⊎ (y ≡ back point)
    pub leads : Leads f avoided p point

  after : (p q y : Point) → Has (nexts f p) q → has_point avoided q ≡ false → IsLedTo q y → IsLedTo p y
  after p q y e n a = record { point = a.point; is = a.is; leads = leads_on f avoided p q a.point e n a.leads }

  -- what paths of g from a front come to
  abbrev IsAhead : Point → Point → Type 0
  IsAhead p y = (y ≡ back p) ⊎ ((has_point besides (back p) ≡ false) × IsLedTo p y)

  pub record Home (between : List Point) (p y : Point) : Type 0 where
    pub of_back : IsPath g besides (back p) between y → IsLedTo p y
    pub of_front : IsOnlyNext g (front p) (back p) → IsPath g besides (front p) between y → IsAhead p y

  past_front : (p q y : Point) (between : List Point) → Has (nexts f p) q → has_point besides (front q) ≡ false → IsPath g besides (front q) between y → Home between q y → (front q ≡ back q) ⊎ IsOnlyNext g (front q) (back q) → IsLedTo p y
  past_front p q y between e n h again (inl s) =
      after p q y e (both.home q n (subst (λ (x : Point). has_point besides x ≡ false) s n)) (again.of_back (subst (λ (x : Point). IsPath g besides x between y) s h))
  past_front p q y between e n h again (inr i) = on (again.of_front i h)
    where
      on : IsAhead q y → IsLedTo p y
      on (inl s) = record { point = q; is = inr s; leads = leads_at f avoided p q e }
      on (inr a) = after p q y e (both.home q n a.0) a.1

  path_home : (between : List Point) (p y : Point) → Home between p y
  path_home [] p y = record {
    of_back = λ h. let next = strands.home p y h in record { point = next.point; is = inl next.is; leads = leads_at f avoided p next.point next.edge };
    of_front = λ i h. inl (i.only y h);
  }
  path_home (v ∷ between) p y = record {
    of_back = λ h.
        let next = strands.home p v h.0 in
        past_front p next.point y between next.edge
        (subst (λ (x : Point). has_point besides x ≡ false) next.is h.1)
        (subst (λ (x : Point). IsPath g besides x between y) next.is h.2)
        (path_home between next.point y) (strands.within next.point);
    of_front = λ i h.
        let e : v ≡ back p = i.only v h.0 in
        inr (subst (λ (x : Point). has_point besides x ≡ false) e h.1, (path_home between p y).of_back (subst (λ (x : Point). IsPath g besides x between y) e h.2));
  }

  -- a path of g from a back is one of f, to a point of which it comes to the front or the back
  pub leads_home : (p y : Point) → Leads g besides (back p) y → IsLedTo p y
  leads_home p y l = (path_home l.between p y).of_back l.is_path

  pub ahead_home : (p y : Point) → IsOnlyNext g (front p) (back p) → Leads g besides (front p) y → IsAhead p y
  ahead_home p y i l = (path_home l.between p y).of_front i l.is_path
