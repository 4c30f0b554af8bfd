-- Which values cross which suspends, in functions that are alike.
use Rattle.std.proofs.Common.{◌≡◌, ℕ, ◌+◌, ◌⊎◌, inl, inr, List, [], ◌∷◌, map, refl, sym, ap, ◌∙◌, subst, ◌↔◌}
use Rattle.rule_laws.proofs.frames.alike_crossing.Alike.{AreAlike, IsAt, IsOfPlace, IsOneOn, branches_alike, instr_forth, instr_home, uses_alike}
use Rattle.ir_laws.specs.flow_solver.Paths.{IsListed}
use Rattle.ir_parts.specs.Contents.{result_of}
use Rattle.ir_laws.specs.ir_model.Names.{position_of}
use Rattle.ir_laws.specs.ir_model.declared.module.Function.{Function}
use Rattle.ir_laws.specs.ir_paths.Windows.{destroy_label, resume_label}
use Rattle.ir_laws.specs.ir_paths.declared.point.Point.{Point}
use Rattle.ir_laws.specs.run_step.Step.{Fetched, AtInstr, fetch}
use Rattle.frame_contents.specs.frame_crossing.Crossing.{AreCrossed, AreCrossing, CrossedBy, Crosses, suspends_of}
use Rattle.frame_contents.specs.frame_crossing.Crossing.AreCrossed.{NoMore, Taken, LeftOut}
use Rattle.frame_contents.specs.frame_crossing.Crossing.CrossedBy.{Nothing, More}
use Rattle.frame_contents.specs.frame_crossing.EdgeUses.{IsUsedOn}
use Rattle.frame_contents.specs.frame_crossing.Paths.{BranchesTo, IsDefinedBefore, IsNeeded, IsNeededBehind, IsNeededFrom, IsOutside, LeadsTo, phis_at, used_by}
use Rattle.frame_contents.specs.frame_crossing.Paths.IsDefinedBefore.{ByParam, ByPhi, ByInstr}
use Rattle.frame_contents.specs.frame_crossing.Paths.IsNeeded.{Use, Next, OnEdge, Across}
use Rattle.frame_contents.specs.frame_crossing.Paths.LeadsTo.{There, Over, Along}
use Rattle.frame_contents.specs.frame_crossing.Values.{values_of}

outside_of : (g : Function) (v b x : ℕ) → IsNeeded g v b x → IsOutside g b
outside_of g v _ _ (Use b x out u) = out
outside_of g v _ _ (Next b x i out e n k) = out
outside_of g v _ _ (OnEdge b x label out br u) = out
outside_of g v _ _ (Across b x label out br n k) = out

module _ (f g : Function) (front back : ℕ → ℕ → ℕ) (v : ℕ) (alike : AreAlike f g front back v) where
  -- what leads on from the back leads on from the front
  on_front : (tb ta b at : ℕ) → LeadsTo g tb ta b (back b at) → LeadsTo g tb ta b (front b at)
  on_front tb ta b at l = on (alike.within b at)
    where
      on : (front b at ≡ back b at) ⊎ IsOneOn g front back v b at → LeadsTo g tb ta b (front b at)
      on (inl e) = subst (LeadsTo g tb ta b) (sym e) l
      on (inr o) = Over b (front b at) o.other.instr o.other.is (subst (LeadsTo g tb ta b) o.behind l)

  on_entry : (tb ta b : ℕ) → LeadsTo g tb ta b (back b 0) → LeadsTo g tb ta b 0
  on_entry tb ta b l = subst (LeadsTo g tb ta b) (alike.first b) (on_front tb ta b 0 l)

  on_next : (tb ta b at : ℕ) → LeadsTo g tb ta b (back b (at + 1)) → LeadsTo g tb ta b (back b at + 1)
  on_next tb ta b at l = subst (LeadsTo g tb ta b) (alike.next b at) (on_front tb ta b (at + 1) l)

  leads_forth : (tb ta b at : ℕ) → LeadsTo f tb ta b at → LeadsTo g tb (back tb ta) b (back b at)
  leads_forth tb ta _ _ There = There
  leads_forth tb ta _ _ (Over b at i e k) =
      let same = instr_forth v (fetch f b at) (fetch g b (back b at)) (alike.stands b at) i e in
      Over b (back b at) same.instr same.is (on_next tb (back tb ta) b at (leads_forth tb ta b (at + 1) k))
  leads_forth tb ta _ _ (Along b at label br k) =
      Along b (back b at) label ((branches_alike v label (fetch f b at) (fetch g b (back b at)) (alike.stands b at)).0 br)
      (subst (λ (to : ℕ). LeadsTo g tb (back tb ta) to 0) (sym (alike.position label)) (on_entry tb (back tb ta) (position_of f label) (leads_forth tb ta (position_of f label) 0 k)))

  -- ---- and home

  no_branch : (b at label : ℕ) → IsOneOn g front back v b at → BranchesTo label (fetch g b (front b at)) → ⊥
  no_branch b at label o br = subst (BranchesTo label) o.other.is br

  leads_home : (tb ta b x : ℕ) → LeadsTo g tb (back tb ta) b x → (at : ℕ) → IsAt front back b x at → LeadsTo f tb ta b at
  leads_home tb ta _ _ There at is = on is
    where
      here : at ≡ ta → LeadsTo f tb ta tb at
      here e = subst (LeadsTo f tb ta tb) (sym e) There

      on : IsAt front back tb (back tb ta) at → LeadsTo f tb ta tb at
      on (inl e) = here (alike.fronts tb at ta (sym e))
      on (inr e) = here (sym (alike.backs tb ta at e))
  leads_home tb ta _ _ (Over b x i e k) at is = on (λ to. leads_home tb ta b (x + 1) k to) is
    where
      at_back : ((to : ℕ) → IsAt front back b (x + 1) to → LeadsTo f tb ta b to) → x ≡ back b at → LeadsTo f tb ta b at
      at_back again s =
          let same = instr_home v (fetch f b at) (fetch g b (back b at)) (alike.stands b at) i (subst (λ (y : ℕ). fetch g b y ≡ AtInstr i) s e) in
          Over b at same.instr same.is (again (at + 1) (inl (ap (λ (y : ℕ). y + 1) s ∙ sym (alike.next b at))))

      on : ((to : ℕ) → IsAt front back b (x + 1) to → LeadsTo f tb ta b to) → IsAt front back b x at → LeadsTo f tb ta b at
      on again (inr s) = at_back again s
      on again (inl s) = first (alike.within b at)
        where
          first : (front b at ≡ back b at) ⊎ IsOneOn g front back v b at → LeadsTo f tb ta b at
          first (inl t) = at_back again (s ∙ t)
          first (inr o) = again at (inr (ap (λ (y : ℕ). y + 1) s ∙ sym o.behind))
  leads_home tb ta _ _ (Along b x label br k) at is = on (leads_home tb ta (position_of g label) 0 k 0 (inl (sym (alike.first (position_of g label))))) is
    where
      at_back : LeadsTo f tb ta (position_of g label) 0 → x ≡ back b at → LeadsTo f tb ta b at
      at_back again s =
          Along b at label ((branches_alike v label (fetch f b at) (fetch g b (back b at)) (alike.stands b at)).1 (subst (λ (y : ℕ). BranchesTo label (fetch g b y)) s br))
          (subst (λ (to : ℕ). LeadsTo f tb ta to 0) (alike.position label) again)

      on : LeadsTo f tb ta (position_of g label) 0 → IsAt front back b x at → LeadsTo f tb ta b at
      on again (inr s) = at_back again s
      on again (inl s) = first (alike.within b at)
        where
          first : (front b at ≡ back b at) ⊎ IsOneOn g front back v b at → LeadsTo f tb ta b at
          first (inl t) = at_back again (s ∙ t)
          first (inr o) = absurd (no_branch b at label o (subst (λ (y : ℕ). BranchesTo label (fetch g b y)) s br))

  entry_home : (tb ta b : ℕ) → LeadsTo g tb (back tb ta) b 0 → LeadsTo f tb ta b 0
  entry_home tb ta b l = leads_home tb ta b 0 l 0 (inl (sym (alike.first b)))

  -- ---- definitions

  defined_forth : (b at : ℕ) → IsDefinedBefore f v b at → IsDefinedBefore g v b (back b at)
  defined_forth b at (ByParam h l) = ByParam (subst (IsListed v) (sym alike.params) h) (on_entry b (back b at) 0 (leads_forth b at 0 0 l))
  defined_forth b at (ByPhi c h l) = ByPhi c ((alike.phis c).0 h) (on_entry b (back b at) c (leads_forth b at c 0 l))
  defined_forth b at (ByInstr c a i e r l) =
      let same = instr_forth v (fetch f c a) (fetch g c (back c a)) (alike.stands c a) i e in
      ByInstr c (back c a) same.instr same.is (same.makes.0 r) (on_next b (back b at) c a (leads_forth b at c (a + 1) l))

  defined_home : (b at : ℕ) → IsDefinedBefore g v b (back b at) → IsDefinedBefore f v b at
  defined_home b at (ByParam h l) = ByParam (subst (IsListed v) alike.params h) (entry_home b at 0 l)
  defined_home b at (ByPhi c h l) = ByPhi c ((alike.phis c).1 h) (entry_home b at c l)
  defined_home b at (ByInstr c x j e r l) = on (alike.found c x j e)
    where
      made : (a : ℕ) → x ≡ back c a → IsDefinedBefore f v b at
      made a s =
          let same = instr_home v (fetch f c a) (fetch g c (back c a)) (alike.stands c a) j (subst (λ (y : ℕ). fetch g c y ≡ AtInstr j) s e) in
          ByInstr c a same.instr same.is (same.makes.0 r) (leads_home b at c (x + 1) l (a + 1) (inl (ap (λ (y : ℕ). y + 1) s ∙ sym (alike.next c a))))

      other : (a : ℕ) → x ≡ front c a → IsOneOn g front back v c a → IsDefinedBefore f v b at
      other a s o = absurd (on_instr (sym (subst (λ (y : ℕ). fetch g c y ≡ AtInstr j) s e) ∙ o.other.is))
        where
          on_instr : AtInstr j ≡ AtInstr o.other.instr → ⊥
          on_instr t = let same : j ≡ o.other.instr = cc in o.other.makes_not (ap result_of (sym same) ∙ r)

      at_one : (a : ℕ) → IsAt front back c x a → IsDefinedBefore f v b at
      at_one a (inr s) = made a s
      at_one a (inl s) = on_within (alike.within c a)
        where
          on_within : (front c a ≡ back c a) ⊎ IsOneOn g front back v c a → IsDefinedBefore f v b at
          on_within (inl t) = made a (s ∙ t)
          on_within (inr o) = other a s o

      on : IsOfPlace front back c x → IsDefinedBefore f v b at
      on p = at_one p.at p.is_at

  -- ---- needs

  out_forth : (b : ℕ) → IsOutside f b → IsOutside g b
  out_forth b out e = out (e ∙ alike.end)

  out_home : (b : ℕ) → IsOutside g b → IsOutside f b
  out_home b out e = out (e ∙ sym alike.end)

  needed_front : (b at : ℕ) → IsNeeded g v b (back b at) → IsNeeded g v b (front b at)
  needed_front b at n = on (alike.within b at)
    where
      on : (front b at ≡ back b at) ⊎ IsOneOn g front back v b at → IsNeeded g v b (front b at)
      on (inl e) = subst (IsNeeded g v b) (sym e) n
      on (inr o) = Next b (front b at) o.other.instr (outside_of g v b (back b at) n) o.other.is o.other.makes_not (subst (IsNeeded g v b) o.behind n)

  needed_entry : (b : ℕ) → IsNeeded g v b (back b 0) → IsNeeded g v b 0
  needed_entry b n = subst (IsNeeded g v b) (alike.first b) (needed_front b 0 n)

  needed_next : (b at : ℕ) → IsNeeded g v b (back b (at + 1)) → IsNeeded g v b (back b at + 1)
  needed_next b at n = subst (IsNeeded g v b) (alike.next b at) (needed_front b (at + 1) n)

  on_forth : (b label : ℕ) → IsUsedOn f v b (position_of f label) → IsUsedOn g v b (position_of g label)
  on_forth b label u = (alike.edges b (position_of g label)).0 (subst (IsUsedOn f v b) (sym (alike.position label)) u)

  on_home : (b label : ℕ) → IsUsedOn g v b (position_of g label) → IsUsedOn f v b (position_of f label)
  on_home b label u = subst (IsUsedOn f v b) (alike.position label) ((alike.edges b (position_of g label)).1 u)

  phis_forth : (label : ℕ) → (IsListed v (phis_at f (position_of f label)) → ⊥) → IsListed v (phis_at g (position_of g label)) → ⊥
  phis_forth label n h = n ((alike.phis (position_of f label)).1 (subst (λ (b : ℕ). IsListed v (phis_at g b)) (alike.position label) h))

  phis_home : (label : ℕ) → (IsListed v (phis_at g (position_of g label)) → ⊥) → IsListed v (phis_at f (position_of f label)) → ⊥
  phis_home label n h = n (subst (λ (b : ℕ). IsListed v (phis_at g b)) (sym (alike.position label)) ((alike.phis (position_of f label)).0 h))

  needed_forth : (b at : ℕ) → IsNeeded f v b at → IsNeeded g v b (back b at)
  needed_forth _ _ (Use b at out u) = Use b (back b at) (out_forth b out) ((uses_alike v (fetch f b at) (fetch g b (back b at)) (alike.stands b at)).0 u)
  needed_forth _ _ (Next b at i out e n k) =
      let same = instr_forth v (fetch f b at) (fetch g b (back b at)) (alike.stands b at) i e in
      Next b (back b at) same.instr (out_forth b out) same.is (λ r. n (same.makes.1 r)) (needed_next b at (needed_forth b (at + 1) k))
  needed_forth _ _ (OnEdge b at label out br u) =
      OnEdge b (back b at) label (out_forth b out) ((branches_alike v label (fetch f b at) (fetch g b (back b at)) (alike.stands b at)).0 br) (on_forth b label u)
  needed_forth _ _ (Across b at label out br n k) =
      Across b (back b at) label (out_forth b out) ((branches_alike v label (fetch f b at) (fetch g b (back b at)) (alike.stands b at)).0 br) (phis_forth label n)
      (subst (λ (to : ℕ). IsNeeded g v to 0) (sym (alike.position label)) (needed_entry (position_of f label) (needed_forth (position_of f label) 0 k)))

  -- at a front that is no back nothing uses the value
  unused : (b x at : ℕ) → IsOneOn g front back v b at → x ≡ front b at → IsListed v (used_by (fetch g b x)) → ⊥
  unused b x at o s u = o.other.uses_not (subst (λ (y : Fetched). IsListed v (used_by y)) (ap (fetch g b) s ∙ o.other.is) u)

  needed_home : (b x : ℕ) → IsNeeded g v b x → (at : ℕ) → IsAt front back b x at → IsNeeded f v b at
  needed_home _ _ (Use b x out u) at is = on is
    where
      at_back : x ≡ back b at → IsNeeded f v b at
      at_back s = Use b at (out_home b out) ((uses_alike v (fetch f b at) (fetch g b (back b at)) (alike.stands b at)).1 (subst (λ (y : ℕ). IsListed v (used_by (fetch g b y))) s u))

      on : IsAt front back b x at → IsNeeded f v b at
      on (inr s) = at_back s
      on (inl s) = first (alike.within b at)
        where
          first : (front b at ≡ back b at) ⊎ IsOneOn g front back v b at → IsNeeded f v b at
          first (inl t) = at_back (s ∙ t)
          first (inr o) = absurd (unused b x at o s u)
  needed_home _ _ (Next b x j out e n k) at is = on (λ to. needed_home b (x + 1) k to) is
    where
      at_back : ((to : ℕ) → IsAt front back b (x + 1) to → IsNeeded f v b to) → x ≡ back b at → IsNeeded f v b at
      at_back again s =
          let same = instr_home v (fetch f b at) (fetch g b (back b at)) (alike.stands b at) j (subst (λ (y : ℕ). fetch g b y ≡ AtInstr j) s e) in
          Next b at same.instr (out_home b out) same.is (λ r. n (same.makes.1 r)) (again (at + 1) (inl (ap (λ (y : ℕ). y + 1) s ∙ sym (alike.next b at))))

      on : ((to : ℕ) → IsAt front back b (x + 1) to → IsNeeded f v b to) → IsAt front back b x at → IsNeeded f v b at
      on again (inr s) = at_back again s
      on again (inl s) = first (alike.within b at)
        where
          first : (front b at ≡ back b at) ⊎ IsOneOn g front back v b at → IsNeeded f v b at
          first (inl t) = at_back again (s ∙ t)
          first (inr o) = again at (inr (ap (λ (y : ℕ). y + 1) s ∙ sym o.behind))
  needed_home _ _ (OnEdge b x label out br u) at is = on is
    where
      at_back : x ≡ back b at → IsNeeded f v b at
      at_back s = OnEdge b at label (out_home b out) ((branches_alike v label (fetch f b at) (fetch g b (back b at)) (alike.stands b at)).1 (subst (λ (y : ℕ). BranchesTo label (fetch g b y)) s br)) (on_home b label u)

      on : IsAt front back b x at → IsNeeded f v b at
      on (inr s) = at_back s
      on (inl s) = first (alike.within b at)
        where
          first : (front b at ≡ back b at) ⊎ IsOneOn g front back v b at → IsNeeded f v b at
          first (inl t) = at_back (s ∙ t)
          first (inr o) = absurd (no_branch b at label o (subst (λ (y : ℕ). BranchesTo label (fetch g b y)) s br))
  needed_home _ _ (Across b x label out br n k) at is = on (needed_home (position_of g label) 0 k 0 (inl (sym (alike.first (position_of g label))))) is
    where
      at_back : IsNeeded f v (position_of g label) 0 → x ≡ back b at → IsNeeded f v b at
      at_back again s =
          Across b at label (out_home b out) ((branches_alike v label (fetch f b at) (fetch g b (back b at)) (alike.stands b at)).1 (subst (λ (y : ℕ). BranchesTo label (fetch g b y)) s br)) (phis_home label n)
          (subst (λ (to : ℕ). IsNeeded f v to 0) (alike.position label) again)

      on : IsNeeded f v (position_of g label) 0 → IsAt front back b x at → IsNeeded f v b at
      on again (inr s) = at_back again s
      on again (inl s) = first (alike.within b at)
        where
          first : (front b at ≡ back b at) ⊎ IsOneOn g front back v b at → IsNeeded f v b at
          first (inl t) = at_back again (s ∙ t)
          first (inr o) = absurd (no_branch b at label o (subst (λ (y : ℕ). BranchesTo label (fetch g b y)) s br))

  from_forth : (b label : ℕ) → IsNeededFrom f v b label → IsNeededFrom g v b label
  from_forth b label (inl u) = inl (on_forth b label u)
  from_forth b label (inr h) =
      inr (phis_forth label h.0, subst (λ (to : ℕ). IsNeeded g v to 0) (sym (alike.position label)) (needed_entry (position_of f label) (needed_forth (position_of f label) 0 h.1)))

  from_home : (b label : ℕ) → IsNeededFrom g v b label → IsNeededFrom f v b label
  from_home b label (inl u) = inl (on_home b label u)
  from_home b label (inr h) =
      inr (phis_home label h.0, subst (λ (to : ℕ). IsNeeded f v to 0) (alike.position label) (needed_home (position_of g label) 0 h.1 0 (inl (sym (alike.first (position_of g label))))))

  -- where a suspend is moved to
  abbrev moved : Point → Point
  moved s = record { block = s.block; at = back s.block s.at }

  behind_forth : (s : Point) → IsNeededBehind f v s → IsNeededBehind g v (moved s)
  behind_forth s (inl h) = inl (subst (IsNeededFrom g v s.block) (sym (alike.resumes s.block s.at)) (from_forth s.block (resume_label f s) h))
  behind_forth s (inr h) = inr (subst (IsNeededFrom g v s.block) (sym (alike.destroys s.block s.at)) (from_forth s.block (destroy_label f s) h))

  behind_home : (s : Point) → IsNeededBehind g v (moved s) → IsNeededBehind f v s
  behind_home s (inl h) = inl (from_home s.block (resume_label f s) (subst (IsNeededFrom g v s.block) (alike.resumes s.block s.at) h))
  behind_home s (inr h) = inr (from_home s.block (destroy_label f s) (subst (IsNeededFrom g v s.block) (alike.destroys s.block s.at) h))

  pub crosses_forth : values_of g ≡ values_of f → (s : Point) → Crosses f v s → Crosses g v (moved s)
  crosses_forth e s c = record {
    is_value = subst (IsListed v) (sym e) c.is_value;
    defined = defined_forth s.block s.at c.defined;
    needed = behind_forth s c.needed;
  }

  pub crosses_home : values_of g ≡ values_of f → (s : Point) → Crosses g v (moved s) → Crosses f v s
  crosses_home e s c = record {
    is_value = subst (IsListed v) e c.is_value;
    defined = defined_home s.block s.at c.defined;
    needed = behind_home s c.needed;
  }

-- ---- all values with all suspends

module _ (f g : Function) (move : Point → Point) where
  -- what crosses a suspend of f crosses it where it is moved to, and the other way round
  pub record AreAsCrossing : Type 0 where
    pub values : values_of g ≡ values_of f
    pub suspends : suspends_of g ≡ map move (suspends_of f)
    pub forth : (v : ℕ) (s : Point) → IsListed s (suspends_of f) → Crosses f v s → Crosses g v (move s)
    pub home : (v : ℕ) (s : Point) → IsListed s (suspends_of f) → Crosses g v (move s) → Crosses f v s

  -- the points are suspends of f
  abbrev AreSuspends : List Point → Type 0
  AreSuspends ss = (s : Point) → IsListed s ss → IsListed s (suspends_of f)

  crossed_forth : AreAsCrossing → (v k : ℕ) (ss : List Point) (all : List (ℕ × ℕ)) → AreCrossed f v k ss all → AreSuspends ss → AreCrossed g v k (map move ss) all
  crossed_forth same v _ _ _ (NoMore k) these = NoMore k
  crossed_forth same v _ _ _ (Taken k s ss all c rest) these = Taken k (move s) (map move ss) all (same.forth v s (these s (inl refl)) c) (crossed_forth same v (k + 1) ss all rest (λ t l. these t (inr l)))
  crossed_forth same v _ _ _ (LeftOut k s ss all n rest) these = LeftOut k (move s) (map move ss) all (λ c. n (same.home v s (these s (inl refl)) c)) (crossed_forth same v (k + 1) ss all rest (λ t l. these t (inr l)))

  crossed_home : AreAsCrossing → (v k : ℕ) (ts : List Point) (all : List (ℕ × ℕ)) → AreCrossed g v k ts all → (ss : List Point) → ts ≡ map move ss → AreSuspends ss → AreCrossed f v k ss all
  crossed_home same v _ _ _ (NoMore k) [] e these = NoMore k
  crossed_home same v _ _ _ (NoMore k) (s ∷ ss) e these = absurd (cc)
  crossed_home same v _ _ _ (Taken k t ts all c rest) [] e these = absurd (cc)
  crossed_home same v _ _ _ (Taken k t ts all c rest) (s ∷ ss) e these =
      let first : t ≡ move s = cc in
      let more : ts ≡ map move ss = cc in
      Taken k s ss all (same.home v s (these s (inl refl)) (subst (Crosses g v) first c)) (crossed_home same v (k + 1) ts all rest ss more (λ u l. these u (inr l)))
  crossed_home same v _ _ _ (LeftOut k t ts all n rest) [] e these = absurd (cc)
  crossed_home same v _ _ _ (LeftOut k t ts all n rest) (s ∷ ss) e these =
      let first : t ≡ move s = cc in
      let more : ts ≡ map move ss = cc in
      LeftOut k s ss all (λ c. n (subst (Crosses g v) (sym first) (same.forth v s (these s (inl refl)) c))) (crossed_home same v (k + 1) ts all rest ss more (λ u l. these u (inr l)))

  by_forth : AreAsCrossing → (vs : List ℕ) (all : List (ℕ × ℕ)) → CrossedBy f vs all → CrossedBy g vs all
  by_forth same _ _ Nothing = Nothing
  by_forth same _ _ (More v vs here rest c more) =
      More v vs here rest (subst (λ (ss : List Point). AreCrossed g v 0 ss here) (sym same.suspends) (crossed_forth same v 0 (suspends_of f) here c (λ s l. l))) (by_forth same vs rest more)

  by_home : AreAsCrossing → (vs : List ℕ) (all : List (ℕ × ℕ)) → CrossedBy g vs all → CrossedBy f vs all
  by_home same _ _ Nothing = Nothing
  by_home same _ _ (More v vs here rest c more) =
      More v vs here rest (crossed_home same v 0 (suspends_of g) here c (suspends_of f) same.suspends (λ s l. l)) (by_home same vs rest more)

  pub crossing_same : AreAsCrossing → (all : List (ℕ × ℕ)) → AreCrossing f all ↔ AreCrossing g all
  crossing_same same all = (
    (λ h. subst (λ (vs : List ℕ). CrossedBy g vs all) (sym same.values) (by_forth same (values_of f) all h)),
    (λ h. by_home same (values_of f) all (subst (λ (vs : List ℕ). CrossedBy g vs all) same.values h)),
  )
