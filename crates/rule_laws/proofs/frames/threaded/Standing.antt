-- What stands at the points of a function some of whose edges lead over blocks of their own, and the paths between points.
use Rattle.std.proofs.Common.{◌≡◌, inl, inr, ⊎_elim, ℕ, ◌+◌, Bool, true, false, [], ◌∷◌, None, Option, Some, ap, length, refl, subst, sym, ◌∙◌}
use Rattle.std.specs.Prelude.{slice_get, ◌==◌}
use Rattle.rule_uses.specs.Uses.{locals_in}
use Rattle.ir_laws.specs.flow_solver.Paths.{IsListed}
use Rattle.ir_laws.specs.ir_model.Names.{position_of}
use Rattle.ir_laws.specs.ir_model.declared.instr.Instr.{Instr}
use Rattle.ir_laws.specs.ir_model.declared.instr.Terminator.{Terminator}
use Rattle.ir_laws.specs.ir_model.declared.module.Block.{Block}
use Rattle.ir_laws.specs.ir_model.declared.module.Function.{Function}
use Rattle.ir_laws.specs.ir_paths.Paths.{targets}
use Rattle.ir_laws.specs.run_step.Step.{AtInstr, AtTerm, Fetched, Nowhere, fetch, fetch_in, fetch_or}
use Rattle.frame_contents.specs.frame_crossing.Paths.{BranchesTo, LeadsTo, phis_at, phis_in, used_by}
use Rattle.frame_contents.specs.frame_crossing.Paths.LeadsTo.{Along, Over, There}
use Rattle.ir_laws.proofs.paths.threaded.Threads.{IsOver, IsWay, Moves}
use Rattle.rule_laws.proofs.rules.threaded.Threads.{IsThreaded}

-- the same stands there, but that terminators lead over blocks on edges
pub data StandAlike (f : Function) (s : Moves) (k : ℕ) : Fetched → Fetched → Type 0 where
  BothNowhere : StandAlike f s k Nowhere Nowhere
  BothInstr : (i : Instr) → StandAlike f s k (AtInstr i) (AtInstr i)
  BothTerm : (b : Block) → slice_get f.blocks k ≡ Some b → StandAlike f s k (AtTerm b.term) (AtTerm (s.term k b))

pub instr_home : (f : Function) (s : Moves) (k : ℕ) (x y : Fetched) → StandAlike f s k x y → (i : Instr) → y ≡ AtInstr i → x ≡ AtInstr i
instr_home f s k _ _ BothNowhere i e = absurd (cc)
instr_home f s k _ _ (BothInstr j) i e = e
instr_home f s k _ _ (BothTerm b there) i e = absurd (cc)

module _ (f g : Function) (s : Moves) (t : IsThreaded f g s) where
  pub stand_alike : (k a : ℕ) → StandAlike f s k (fetch f k a) (fetch g (s.spot k) a)
  stand_alike k a = on (slice_get f.blocks k) refl
    where
      on : (o : Option Block) → slice_get f.blocks k ≡ o → StandAlike f s k (fetch_in o a) (fetch g (s.spot k) a)
      on None e = subst (λ (p : Option Block). StandAlike f s k Nowhere (fetch_in p a)) (sym (t.missing k e)) BothNowhere
      on (Some b) e = subst (λ (p : Option Block). StandAlike f s k (fetch_in (Some b) a) (fetch_in p a)) (sym (t.there k b e)) (parts (slice_get b.instrs a) (a == length b.instrs))
        where
          parts : (o : Option Instr) (x : Bool) → StandAlike f s k (fetch_or o x b.term) (fetch_or o x (s.term k b))
          parts (Some i) x = BothInstr i
          parts None true = BothTerm b e
          parts None false = BothNowhere

  pub used_same : (k : ℕ) (x y : Fetched) → StandAlike f s k x y → used_by y ≡ used_by x
  used_same k _ _ BothNowhere = refl
  used_same k _ _ (BothInstr j) = refl
  used_same k _ _ (BothTerm b there) = ap locals_in (t.operands k b)

  -- an edge from a block, and where it led
  pub record IsBranch (k : ℕ) (x : Fetched) (target label : ℕ) : Type 0 where
    pub block : Block
    pub there : slice_get f.blocks k ≡ Some block
    pub before : BranchesTo target x
    pub listed : IsListed target (targets block.term)
    pub way : IsWay f g s k target label

  pub branch_home : (k : ℕ) (x y : Fetched) → StandAlike f s k x y → (l : ℕ) → BranchesTo l y → (u : ℕ) × IsBranch k x u l
  branch_home k _ _ BothNowhere l h = absurd h
  branch_home k _ _ (BothInstr j) l h = absurd h
  branch_home k _ _ (BothTerm b there) l h =
      let x = t.back k b l there h in
      (x.target, record { block = b; there = there; before = x.listed; listed = x.listed; way = x.way })

  -- the block on an edge has a jump alone
  fetch_over : (k target label a : ℕ) → IsOver f g s k target label → fetch g (position_of g label) a ≡ fetch_or None (a == 0) (Terminator.Jump target)
  fetch_over k target label a o = ap (λ (p : Option Block). fetch_in p a) o.got

  pub no_instr : (k target label : ℕ) → IsOver f g s k target label → (x a : ℕ) (i : Instr) → fetch g x a ≡ AtInstr i → x ≡ position_of g label → ⊥
  no_instr k target label o x a i h same = on (a == 0) (sym (ap (λ (n : ℕ). fetch g n a) same ∙ fetch_over k target label a o) ∙ h)
    where
      on : (b : Bool) → fetch_or None b (Terminator.Jump target) ≡ AtInstr i → ⊥
      on true d = absurd (cc)
      on false d = absurd (cc)

  pub only_target : (k target label : ℕ) → IsOver f g s k target label → (x a l : ℕ) → BranchesTo l (fetch g x a) → x ≡ position_of g label → l ≡ target
  only_target k target label o x a l h same = on (a == 0) (subst (BranchesTo l) (ap (λ (n : ℕ). fetch g n a) same ∙ fetch_over k target label a o) h)
    where
      one : IsListed l (target ∷ []) → l ≡ target
      one (inl d) = d
      one (inr m) = absurd m

      on : (b : Bool) → BranchesTo l (fetch_or None b (Terminator.Jump target)) → l ≡ target
      on true d = one d
      on false d = absurd d

  pub no_use : (k target label : ℕ) → IsOver f g s k target label → (v x a : ℕ) → IsListed v (used_by (fetch g x a)) → x ≡ position_of g label → ⊥
  no_use k target label o v x a h same = on (a == 0) (subst (λ (y : Fetched). IsListed v (used_by y)) (ap (λ (n : ℕ). fetch g n a) same ∙ fetch_over k target label a o) h)
    where
      on : (b : Bool) → IsListed v (used_by (fetch_or None b (Terminator.Jump target))) → ⊥
      on true d = absurd d
      on false d = absurd d

  pub phis_own : (k : ℕ) → phis_at g (s.spot k) ≡ phis_at f k
  phis_own k = on (slice_get f.blocks k) refl
    where
      on : (o : Option Block) → slice_get f.blocks k ≡ o → phis_at g (s.spot k) ≡ phis_in o
      on None e = ap phis_in (t.missing k e)
      on (Some b) e = ap phis_in (t.there k b e)

  pub phis_over : (k target label : ℕ) → IsOver f g s k target label → phis_at g (position_of g label) ≡ []
  phis_over k target label o = ap phis_in o.got

  -- ---- paths

  -- what a path then says of the function
  pub record LedFrom (tb ta x a : ℕ) : Type 0 where
    pub own : (b : ℕ) → x ≡ s.spot b → LeadsTo f tb ta b a
    pub over : (k target label : ℕ) → IsOver f g s k target label → x ≡ position_of g label → LeadsTo f tb ta (position_of f target) 0

  pub leads_home : (tb ta x a : ℕ) → LeadsTo g (s.spot tb) ta x a → LedFrom tb ta x a
  leads_home tb ta _ _ There = record {
    own = λ b same. let one : tb ≡ b = t.spots tb b same in subst (λ (n : ℕ). LeadsTo f tb ta n ta) one There;
    over = λ k target label o same. absurd (o.apart tb same);
  }
  leads_home tb ta _ _ (Over x a i e k) = on (leads_home tb ta x (a + 1) k)
    where
      on : LedFrom tb ta x (a + 1) → LedFrom tb ta x a
      on again = record {
        own = λ b same. Over b a i (instr_home f s b (fetch f b a) (fetch g (s.spot b) a) (stand_alike b a) i (ap (λ (n : ℕ). fetch g n a) (sym same) ∙ e)) (again.own b same);
        over = λ n target label o same. absurd (no_instr n target label o x a i e same);
      }
  leads_home tb ta _ _ (Along x a label br k) = on (leads_home tb ta (position_of g label) 0 k)
    where
      on : LedFrom tb ta (position_of g label) 0 → LedFrom tb ta x a
      on again = record {
        own = λ b same. let y = branch_home b (fetch f b a) (fetch g (s.spot b) a) (stand_alike b a) label (subst (λ (n : ℕ). BranchesTo label (fetch g n a)) same br) in Along b a y.0 y.1.before (from b y.0 y.1);
        over = λ n target l o same. again.own (position_of f target) (ap (position_of g) (only_target n target l o x a label br same) ∙ o.next);
      }
        where
          from : (b u : ℕ) (y : IsBranch b (fetch f b a) u label) → LeadsTo f tb ta (position_of f u) 0
          from b u y = ⊎_elim
              (λ (d : label ≡ u). again.own (position_of f u) (ap (position_of g) d ∙ t.old b y.block u y.there y.listed))
              (λ (o : IsOver f g s b u label). again.over b u label o refl)
              y.way
