-- Where edges lead over blocks of their own, what is defined before a point and needed behind a suspend was so in the function.
use Rattle.std.proofs.Common.{◌≡◌, inl, inr, ⊎_elim, ℕ, ◌+◌, [], None, Option, Some, ap, refl, subst, sym, ◌∙◌}
use Rattle.std.specs.Prelude.{slice_get}
use Rattle.ir_laws.proofs.facts.Numbers.{IsTakenBy}
use Rattle.rule_laws.proofs.frames.rows.EdgeUses.{taken_by, used_on}
use Rattle.ir_laws.specs.flow_solver.Paths.{IsListed}
use Rattle.ir_laws.specs.ir_model.Names.{position_of}
use Rattle.ir_laws.specs.ir_model.declared.module.Block.{Block}
use Rattle.ir_laws.specs.ir_model.declared.module.Function.{Function}
use Rattle.ir_laws.specs.run_step.Step.{AtInstr, Nowhere, fetch, fetch_in}
use Rattle.frame_contents.specs.frame_crossing.EdgeUses.{IsUsedOn}
use Rattle.frame_contents.specs.frame_crossing.Paths.{BranchesTo, IsDefinedBefore, IsNeeded, IsNeededFrom, IsOutside, phis_at, phis_in, used_by}
use Rattle.frame_contents.specs.frame_crossing.Paths.IsDefinedBefore.{ByInstr, ByParam, ByPhi}
use Rattle.frame_contents.specs.frame_crossing.Paths.IsNeeded.{Across, Next, OnEdge, Use}
use Rattle.rule_laws.proofs.frames.threaded.Standing.{IsBranch, branch_home, instr_home, leads_home, no_instr, no_use, only_target, phis_over, phis_own, stand_alike, used_same}
use Rattle.ir_laws.proofs.paths.threaded.Threads.{IsBlockOver, IsMovedBlock, IsOver, Moves}
use Rattle.rule_laws.proofs.rules.threaded.Threads.{IsThreaded}
use Rattle.rule_laws.proofs.rules.threaded.Uses.{ArePhisMoved}

module _ (f g : Function) (s : Moves) (t : IsThreaded f g s) (v : ℕ) where
  -- ---- definitions

  -- a block that makes something is one of the function
  by_own : (P : Type 0) (c : ℕ) → ((k : ℕ) → c ≡ s.spot k → P) → ((k target label : ℕ) → IsOver f g s k target label → c ≡ position_of g label → P) → (slice_get g.blocks c ≡ None → P) → P
  by_own P c own over nothing = on (slice_get g.blocks c) refl
    where
      on : (o : Option Block) → slice_get g.blocks c ≡ o → P
      on None e = nothing e
      on (Some d) e = ⊎_elim
          (λ (x : IsMovedBlock f s c d). own x.index x.stands)
          (λ (x : IsBlockOver f g s c d). over x.index x.target x.label x.over x.stands)
          (t.home c d e)

  pub defined_home : (b a : ℕ) → IsDefinedBefore g v (s.spot b) a → IsDefinedBefore f v b a
  defined_home b a (ByParam h l) = ByParam (subst (IsListed v) t.params h) ((leads_home f g s t b a 0 0 l).own 0 (sym t.entry))
  defined_home b a (ByPhi c h l) = by_own (IsDefinedBefore f v b a) c
      (λ k same. ByPhi k (subst (IsListed v) (ap (phis_at g) same ∙ phis_own f g s t k) h) ((leads_home f g s t b a c 0 l).own k same))
      (λ k target label o same. absurd (subst (IsListed v) (ap (phis_at g) same ∙ phis_over f g s t k target label o) h))
      (λ none_there. absurd (subst (IsListed v) (ap phis_in none_there) h))
  defined_home b a (ByInstr c x j e r l) = by_own (IsDefinedBefore f v b a) c
      (λ k same. ByInstr k x j (instr_home f s k (fetch f k x) (fetch g (s.spot k) x) (stand_alike f g s t k x) j (ap (λ (n : ℕ). fetch g n x) (sym same) ∙ e)) r ((leads_home f g s t b a c (x + 1) l).own k same))
      (λ k target label o same. absurd (no_instr f g s t k target label o c x j e same))
      (λ none_there. let no : Nowhere ≡ AtInstr j = sym (ap (λ (o : Option Block). fetch_in o x) none_there) ∙ e in absurd (cc))

  -- ---- uses on edges

  record IsUsedThen (x y : ℕ) : Type 0 where
    from : ℕ
    to : ℕ
    is_from : x ≡ s.spot from
    is_to : y ≡ s.spot to
    used : IsUsedOn f v from to

  module _ (moved : ArePhisMoved f g s) (outside : (b : ℕ) → IsOutside g (s.spot b) → IsOutside f b) where
    used_home : (x y : ℕ) → IsUsedOn g v x y → IsUsedThen x y
    used_home x y u = on (taken_by g v x y u)
      where
        on : IsTakenBy g v x y → IsUsedThen x y
        on z = ⊎_elim own over (t.home y z.block z.got)
          where
            own : IsMovedBlock f s y z.block → IsUsedThen x y
            own w =
                let stands : slice_get w.block.phis z.at ≡ Some z.phi = ap (λ (b : Block). slice_get b.phis z.at) (sym w.is) ∙ z.stands in
                record {
                  from = position_of f z.incoming.from;
                  to = w.index;
                  is_from = sym z.source ∙ moved w.index w.block z.at z.phi z.index z.incoming w.got stands z.there;
                  is_to = w.stands;
                  used = used_on f v (position_of f z.incoming.from) w.index (record { block = w.block; got = w.got; at = z.at; phi = z.phi; stands = stands; index = z.index; incoming = z.incoming; there = z.there; source = refl; value = z.value });
                }

            over : IsBlockOver f g s y z.block → IsUsedThen x y
            over w = let none : slice_get [] z.at ≡ Some z.phi = ap (λ (b : Block). slice_get b.phis z.at) (sym w.is) ∙ z.stands in absurd (cc)

    -- ---- needs

    -- no phi of a target's block makes the value, and it is needed there
    abbrev IsWanted : ℕ → Type 0
    IsWanted target = (IsListed v (phis_at f (position_of f target)) → ⊥) × IsNeeded f v (position_of f target) 0

    -- what a need then says of the function
    record NeededFrom (x a : ℕ) : Type 0 where
      own : (b : ℕ) → x ≡ s.spot b → IsNeeded f v b a
      over : (k target label : ℕ) → IsOver f g s k target label → x ≡ position_of g label → (IsListed v (phis_at f (position_of f target)) → ⊥) × IsNeeded f v (position_of f target) 0

    not_before : (target x : ℕ) → x ≡ s.spot (position_of f target) → (IsListed v (phis_at g x) → ⊥) → IsListed v (phis_at f (position_of f target)) → ⊥
    not_before target x same n h = n (subst (IsListed v) (sym (ap (phis_at g) same ∙ phis_own f g s t (position_of f target))) h)

    used_at : (k target x y : ℕ) → x ≡ s.spot k → y ≡ s.spot (position_of f target) → IsUsedThen x y → IsUsedOn f v k (position_of f target)
    used_at k target x y from to w =
        let one : w.from ≡ k = t.spots w.from k (sym w.is_from ∙ from) in
        let two : w.to ≡ position_of f target = t.spots w.to (position_of f target) (sym w.is_to ∙ to) in
        subst (λ (n : ℕ). IsUsedOn f v n (position_of f target)) one (subst (IsUsedOn f v w.from) two w.used)

    needed_home : (x a : ℕ) → IsNeeded g v x a → NeededFrom x a
    needed_home _ _ (Use x a out u) = record {
      own = λ b same. Use b a (outside b (subst (IsOutside g) same out)) (subst (IsListed v) (ap (λ (n : ℕ). used_by (fetch g n a)) same ∙ used_same f g s t b (fetch f b a) (fetch g (s.spot b) a) (stand_alike f g s t b a)) u);
      over = λ k target label o same. absurd (no_use f g s t k target label o v x a u same);
    }
    needed_home _ _ (Next x a i out e n k) = on (needed_home x (a + 1) k)
      where
        on : NeededFrom x (a + 1) → NeededFrom x a
        on again = record {
          own = λ b same. Next b a i (outside b (subst (IsOutside g) same out)) (instr_home f s b (fetch f b a) (fetch g (s.spot b) a) (stand_alike f g s t b a) i (ap (λ (m : ℕ). fetch g m a) (sym same) ∙ e)) n (again.own b same);
          over = λ m target label o same. absurd (no_instr f g s t m target label o x a i e same);
        }
    needed_home _ _ (OnEdge x a label out br u) = on (used_home x (position_of g label) u)
      where
        on : IsUsedThen x (position_of g label) → NeededFrom x a
        on w = record {
          own = λ b same.
              let y = branch_home f g s t b (fetch f b a) (fetch g (s.spot b) a) (stand_alike f g s t b a) label (subst (λ (m : ℕ). BranchesTo label (fetch g m a)) same br) in
              OnEdge b a y.0 (outside b (subst (IsOutside g) same out)) y.1.before (at b y.0 same y.1);
          over = λ k target l o same. absurd (o.apart w.from (sym w.is_from ∙ same));
        }
          where
            at : (b target : ℕ) → x ≡ s.spot b → IsBranch f g s t b (fetch f b a) target label → IsUsedOn f v b (position_of f target)
            at b target same y = ⊎_elim
                (λ (d : label ≡ target). used_at b target x (position_of g label) same (ap (position_of g) d ∙ t.old b y.block target y.there y.listed) w)
                (λ (o : IsOver f g s b target label). absurd (o.apart w.to (sym w.is_to)))
                y.way
    needed_home _ _ (Across x a label out br n k) = on (needed_home (position_of g label) 0 k)
      where
        on : NeededFrom (position_of g label) 0 → NeededFrom x a
        on again = record {
          own = λ b same.
              let y = branch_home f g s t b (fetch f b a) (fetch g (s.spot b) a) (stand_alike f g s t b a) label (subst (λ (m : ℕ). BranchesTo label (fetch g m a)) same br) in
              let z = at b y.0 y.1 in
              Across b a y.0 (outside b (subst (IsOutside g) same out)) y.1.before z.0 z.1;
          over = λ m target l o same.
              let to : position_of g label ≡ s.spot (position_of f target) = ap (position_of g) (only_target f g s t m target l o x a label br same) ∙ o.next in
              (not_before target (position_of g label) to n, again.own (position_of f target) to);
        }
          where
            at : (b target : ℕ) → IsBranch f g s t b (fetch f b a) target label → (IsListed v (phis_at f (position_of f target)) → ⊥) × IsNeeded f v (position_of f target) 0
            at b target y = ⊎_elim
                (λ (d : label ≡ target).
                let to : position_of g label ≡ s.spot (position_of f target) = ap (position_of g) d ∙ t.old b y.block target y.there y.listed in
                (not_before target (position_of g label) to n, again.own (position_of f target) to))
                (λ (o : IsOver f g s b target label). again.over b target label o refl)
                y.way

    -- from an edge that stays
    pub needed_from_home : (k target : ℕ) → position_of g target ≡ s.spot (position_of f target) → IsNeededFrom g v (s.spot k) target → IsNeededFrom f v k target
    needed_from_home k target to (inl u) = inl (used_at k target (s.spot k) (position_of g target) refl to (used_home (s.spot k) (position_of g target) u))
    needed_from_home k target to (inr h) = inr (not_before target (position_of g target) to h.0, (needed_home (position_of g target) 0 h.1).own (position_of f target) to)
