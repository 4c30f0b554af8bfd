-- Paths of a function, and those of one in which some points have become two, the first of which leads to the second alone.
use Rattle.std.proofs.Common.{◌≡◌, ◌⊎◌, inl, inr, true, false, List, [], ◌∷◌, ◌++◌, refl, sym, ap, ◌∙◌, subst}
use Rattle.std.specs.Prelude.{◌||◌, Bool}
use Rattle.ir_laws.specs.ir_model.declared.module.Function.{Function}
use Rattle.ir_laws.proofs.ir_paths.Search.{Has, leads-more}
use Rattle.ir_laws.specs.ir_paths.Paths.{Leads, has_point, nexts, same_point}
use Rattle.ir_laws.specs.ir_paths.declared.point.Point.{Point}
use Rattle.ir_laws.proofs.paths.expanded.Strands.{IsLedTo as IsOnWay, ahead_home, from_front as on_from_front, leads_forth, leads_home as ways_home}
use Rattle.frame_contents.specs.frame_slots.Spots.{Comes}
pub use Rattle.ir_laws.proofs.paths.expanded.Strands.{IsOnlyNext}
use Rattle.ir_laws.specs.paths.expanded.Avoided.{AreAvoided}
use Rattle.ir_laws.proofs.paths.alike_slots.Strands.{AreCarried, AreStrands, IsOpen, leads_at}

-- x is the front or the back of p
abbrev pub IsOf : (Point → Point) → (Point → Point) → Point → Point → Type 0
IsOf front back p x = (x ≡ front p) ⊎ (x ≡ back p)

module _ (f g : Function) (front back : Point → Point) (strands : AreStrands f g front back) (avoided besides : List Point) (carried : AreCarried front back avoided besides) where
  -- the same of each front and back alone
  pub are_avoided : AreAvoided front back avoided besides
  are_avoided = record { fronts = λ p n. carried.fronts p ∙ n; backs = λ p n. carried.backs p ∙ n; home = λ p n away. sym (carried.fronts p) ∙ n }

  -- what leads on from the back leads on from the front
  pub from_front : (p y : Point) → has_point avoided p ≡ false → Leads g besides (back p) y → Leads g besides (front p) y
  from_front p y n l = on_from_front f g front back strands.ways avoided besides are_avoided p y (carried.backs p ∙ n) l

  -- a path of f is one of g, from back to front
  pub leads_front : (p q : Point) → Leads f avoided p q → Leads g besides (back p) (front q)
  leads_front = leads_forth f g front back strands.ways avoided besides are_avoided

  -- and on to the back
  pub leads_back : (p q : Point) → IsOpen front back avoided q → Leads f avoided p q → Leads g besides (back p) (back q)
  leads_back p q clear l = on (strands.ways.within q) clear
    where
      same : front q ≡ back q → Leads g besides (back p) (back q)
      same s = subst (λ (x : Point). Leads g besides (back p) x) s (leads_front p q l)

      on : (front q ≡ back q) ⊎ IsOnlyNext g (front q) (back q) → IsOpen front back avoided q → Leads g besides (back p) (back q)
      on (inl s) o = same s
      on (inr i) (inl s) = same s
      on (inr i) (inr n) = leads-more g besides (back p) (front q) (back q) (leads_front p q l) (carried.fronts q ∙ n) i.edge

  -- y is the front or the back of a point to which a path of f leads
  abbrev pub IsLedTo : Point → Point → Type 0
  IsLedTo = IsOnWay f g front back strands.ways avoided besides are_avoided

  -- a path of g from a back is one of f, to a point of which it comes to the front or the back
  pub leads_home : (p y : Point) → Leads g besides (back p) y → IsLedTo p y
  leads_home = ways_home f g front back strands.ways avoided besides are_avoided

  pub to_point : (p q y : Point) → IsOf front back q y → IsLedTo p y → Leads f avoided p q
  to_point p q y at l = subst (λ (x : Point). Leads f avoided p x) (on at l.is) l.leads
    where
      on : IsOf front back q y → IsOf front back l.point y → l.point ≡ q
      on (inl e) (inl d) = strands.fronts l.point q (sym d ∙ e)
      on (inl e) (inr d) = sym (strands.mixed q l.point (sym e ∙ d))
      on (inr e) (inl d) = strands.mixed l.point q (sym d ∙ e)
      on (inr e) (inr d) = strands.backs l.point q (sym d ∙ e)

  -- ---- from a point on, itself among them

  pub comes_forth : (r q : Point) → IsOpen front back avoided q → Comes f avoided r q → Comes g besides (front r) (back q)
  comes_forth r q clear (inl e) = on (strands.ways.within q) clear
    where
      on : (front q ≡ back q) ⊎ IsOnlyNext g (front q) (back q) → IsOpen front back avoided q → Comes g besides (front r) (back q)
      on (inl s) o = inl (ap front e ∙ s)
      on (inr i) (inl s) = inl (ap front e ∙ s)
      on (inr i) (inr n) = inr (carried.fronts r ∙ ap (has_point avoided) e ∙ n, leads_at g besides (front r) (back q) (subst (λ (x : Point). Has (nexts g (front x)) (back q)) (sym e) i.edge))
  comes_forth r q clear (inr l) = inr (carried.fronts r ∙ l.0, from_front r (back q) l.0 (leads_back r q clear l.1))

  pub comes_home : (r q : Point) → Comes g besides (front r) (back q) → Comes f avoided r q
  comes_home r q (inl e) = inl (strands.mixed r q e)
  comes_home r q (inr l) = on (strands.ways.within r)
    where
      out : has_point avoided r ≡ false
      out = sym (carried.fronts r) ∙ l.0

      ahead : (back q ≡ back r) ⊎ ((has_point besides (back r) ≡ false) × IsLedTo r (back q)) → Comes f avoided r q
      ahead (inl e) = inl (sym (strands.backs q r e))
      ahead (inr a) = inr (out, to_point r q (back q) (inr refl) a.1)

      on : (front r ≡ back r) ⊎ IsOnlyNext g (front r) (back r) → Comes f avoided r q
      on (inl s) = inr (out, to_point r q (back q) (inr refl) (leads_home r (back q) (subst (λ (x : Point). Leads g besides x (back q)) s l.1)))
      on (inr i) = ahead (ahead_home f g front back strands.ways avoided besides are_avoided r (back q) i l.1)

-- ---- sets of points

pub none_carried : (front back : Point → Point) → AreCarried front back [] []
none_carried front back = record { fronts = λ p. refl; backs = λ p. refl }

has_both : (ps qs : List Point) (p : Point) → has_point (ps ++ qs) p ≡ (has_point ps p || has_point qs p)
has_both [] qs p = refl
has_both (x ∷ ps) qs p = on (same_point p x) (has_both ps qs p)
  where
    on : (b : Bool) → has_point (ps ++ qs) p ≡ (has_point ps p || has_point qs p) → (b || has_point (ps ++ qs) p) ≡ ((b || has_point ps p) || has_point qs p)
    on true e = refl
    on false e = e

pub both_carried : (front back : Point → Point) (ps qs us vs : List Point) → AreCarried front back ps us → AreCarried front back qs vs → AreCarried front back (ps ++ qs) (us ++ vs)
both_carried front back ps qs us vs h k = record {
  fronts = λ p. has_both us vs (front p) ∙ (λ i. h.fronts p i || k.fronts p i) ∙ sym (has_both ps qs p);
  backs = λ p. has_both us vs (back p) ∙ (λ i. h.backs p i || k.backs p i) ∙ sym (has_both ps qs p);
}

pub both_open : (front back : Point → Point) (ps qs : List Point) (q : Point) → IsOpen front back ps q → has_point qs q ≡ false → IsOpen front back (ps ++ qs) q
both_open front back ps qs q (inl s) n = inl s
both_open front back ps qs q (inr m) n = inr (has_both ps qs q ∙ (λ i. m i || n i))
