-- What stands at the points of the function whose edges have blocks, and the paths between points.
use Rattle.std.proofs.Common.{Bool, None, Option, Some, [], ap, false, inl, inr, length, refl, subst, suc, sym, true, ℕ, ◌+◌, ◌==◌, ◌∙◌, ◌∷◌, ◌≡◌}
use Rattle.std.specs.Prelude.{slice_get}
use Rattle.pass_early_proof.specs.rule_uses.Uses.{locals_in}
use Rattle.pass_edges_proof.proofs.edges.paths.Blocks.{get_none, own_number, position_edge, position_moved, spot}
use Rattle.pass_edges_proof.proofs.edges.paths.Edges.{edges_of_block}
use Rattle.pass_edges_proof.proofs.edges.paths.Legs.{term_split}
use Rattle.pass_early_proof.specs.ir_laws.paths.threads.Labels.{HasNamedLabels}
use Rattle.pass_edges_proof.specs.edges.paths.Labels.{IsSplit}
use Rattle.pass_edges_proof.specs.edges.paths.Spots.{table_of}
use Rattle.pass_edges_proof.proofs.edges.rules.CaseLabels.{split_from}
use Rattle.pass_edges_proof.proofs.edges.rules.Homes.{edge_target, edge_there, own_block, own_there, spots_apart, spots_no_edge, target_home, target_low}
use Rattle.pass_edges_proof.proofs.edges.rules.Operands.{ending_operands_same}
use Rattle.pass_edges_proof.proofs.edges.rules.Uses.{phi_values_same}
use Rattle.pass_edges.specs.EdgeBlocks.{with_edge_blocks}
use Rattle.pass_edges.specs.Edges.{ends_in_suspend, phi_flags}
use Rattle.pass_edges.specs.declared.edge.Edge.{Edge}
use Rattle.pass_early_proof.proofs.flow_solver.Lists.{listed_at, place_of as place_in}
use Rattle.pass_early_proof.specs.flow_solver.Paths.{IsListed}
use Rattle.ir_model.specs.Names.{position_of}
use Rattle.ir_model.specs.declared.instr.Instr.{Instr}
use Rattle.ir_model.specs.declared.instr.Terminator.{Terminator}
use Rattle.ir_model.specs.declared.module.Block.{Block}
use Rattle.ir_model.specs.declared.module.Function.{Function}
use Rattle.pass_early_proof.specs.ir_paths.Paths.{targets}
use Rattle.pass_early_proof.specs.run_step.Step.{AtInstr, AtTerm, Fetched, Nowhere, fetch, fetch_in, fetch_or}
use Rattle.pass_early_proof.specs.frame_crossing.Paths.{BranchesTo, LeadsTo, phis_at, phis_in, used_by}
use Rattle.pass_early_proof.specs.frame_crossing.Paths.LeadsTo.{Along, Over, There}

-- ---- what stands at points

-- the same stands there, but that terminators lead over edges' blocks
pub data StandAlike (f : Function) (k : ℕ) : Fetched → Fetched → Type 0 where
  BothNowhere : StandAlike f k Nowhere Nowhere
  BothInstr : (i : Instr) → StandAlike f k (AtInstr i) (AtInstr i)
  BothTerm : (b : Block) → slice_get f.blocks k ≡ Some b → StandAlike f k (AtTerm b.term) (AtTerm (own_block f k b).term)

pub stand_alike : (f : Function) (k a : ℕ) → StandAlike f k (fetch f k a) (fetch (with_edge_blocks f) (spot f k) a)
stand_alike f k a = on (slice_get f.blocks k) refl
  where
    on : (o : Option Block) → slice_get f.blocks k ≡ o → StandAlike f k (fetch_in o a) (fetch (with_edge_blocks f) (spot f k) a)
    on None e = subst (λ (p : Option Block). StandAlike f k Nowhere (fetch_in p a)) (sym (get_none (phi_flags f) (table_of f) k (length f.names) f.blocks e)) BothNowhere
    on (Some b) e = subst (λ (p : Option Block). StandAlike f k (fetch_in (Some b) a) (fetch_in p a)) (sym (own_there f k b e)) (parts (slice_get b.instrs a) (a == length b.instrs))
      where
        parts : (o : Option Instr) (t : Bool) → StandAlike f k (fetch_or o t b.term) (fetch_or o t (own_block f k b).term)
        parts (Some i) t = BothInstr i
        parts None true = BothTerm b e
        parts None false = BothNowhere

pub instr_forth : (f : Function) (k : ℕ) (x y : Fetched) → StandAlike f k x y → (i : Instr) → x ≡ AtInstr i → y ≡ AtInstr i
instr_forth f k _ _ BothNowhere i e = absurd (cc)
instr_forth f k _ _ (BothInstr j) i e = e
instr_forth f k _ _ (BothTerm b there) i e = absurd (cc)

pub instr_home : (f : Function) (k : ℕ) (x y : Fetched) → StandAlike f k x y → (i : Instr) → y ≡ AtInstr i → x ≡ AtInstr i
instr_home f k _ _ BothNowhere i e = absurd (cc)
instr_home f k _ _ (BothInstr j) i e = e
instr_home f k _ _ (BothTerm b there) i e = absurd (cc)

pub used_same : (f : Function) (k : ℕ) (x y : Fetched) → StandAlike f k x y → used_by y ≡ used_by x
used_same f k _ _ BothNowhere = refl
used_same f k _ _ (BothInstr j) = refl
used_same f k _ _ (BothTerm b there) = ap locals_in (ending_operands_same (phi_flags f) (ends_in_suspend b.instrs) (own_number f k) b.term)

-- an edge from a block, and where it leads then
pub record IsBranch (f : Function) (k : ℕ) (x y : Fetched) (target label : ℕ) : Type 0 where
  pub block : Block
  pub there : slice_get f.blocks k ≡ Some block
  pub before : BranchesTo target x
  pub after : BranchesTo label y
  pub own : IsListed target (targets block.term)
  pub split : IsSplit (phi_flags f) block.label (edges_of_block f k block) target label

pub branch_forth : (f : Function) (k : ℕ) (x y : Fetched) → StandAlike f k x y → (t : ℕ) → BranchesTo t x → (l : ℕ) × IsBranch f k x y t l
branch_forth f k _ _ BothNowhere t h = absurd h
branch_forth f k _ _ (BothInstr j) t h = absurd h
branch_forth f k _ _ (BothTerm b there) t h =
    let z = split_from (phi_flags f) b.label (edges_of_block f k b) (targets b.term) (targets (own_block f k b).term) (term_split (phi_flags f) b.label (ends_in_suspend b.instrs) (own_number f k) b.term) t h in
    (z.0, record { block = b; there = there; before = h; after = z.1.0; own = h; split = z.1.1 })

pub branch_home : (f : Function) (k : ℕ) (x y : Fetched) → StandAlike f k x y → (l : ℕ) → BranchesTo l y → (t : ℕ) × IsBranch f k x y t l
branch_home f k _ _ BothNowhere l h = absurd h
branch_home f k _ _ (BothInstr j) l h = absurd h
branch_home f k _ _ (BothTerm b there) l h =
    let at = place_in (targets (own_block f k b).term) l h in
    let x = target_home f k b at.0 l at.1 in
    let own : IsListed x.target (targets b.term) = listed_at (targets b.term) at.0 x.target x.got in
    (x.target, record { block = b; there = there; before = own; after = h; own = own; split = x.split })

module _ (f : Function) (named : HasNamedLabels f) where
  abbrev g : Function
  g = with_edge_blocks f

  -- an edge's block has a jump alone
  pub fetch_edge : (k : ℕ) (b : Block) (i : ℕ) (e : Edge) → slice_get f.blocks k ≡ Some b → slice_get (edges_of_block f k b) i ≡ Some e → fetch g (spot f k + suc i) 0 ≡ AtTerm (Terminator.Jump e.target)
  fetch_edge k b i e there got = ap (λ (o : Option Block). fetch_in o 0) (edge_there f k b i e there got)

  pub no_instr : (k : ℕ) (b : Block) (n : ℕ) (e : Edge) → slice_get f.blocks k ≡ Some b → slice_get (edges_of_block f k b) n ≡ Some e → (x a : ℕ) (i : Instr) → fetch g x a ≡ AtInstr i → x ≡ spot f k + suc n → ⊥
  no_instr k b n e there got x a i h same = on (a == 0) (sym (ap (λ (o : Option Block). fetch_in o a) (ap (slice_get g.blocks) same ∙ edge_there f k b n e there got)) ∙ h)
    where
      on : (t : Bool) → fetch_or None t (Terminator.Jump e.target) ≡ AtInstr i → ⊥
      on true d = absurd (cc)
      on false d = absurd (cc)

  pub only_target : (k : ℕ) (b : Block) (n : ℕ) (e : Edge) → slice_get f.blocks k ≡ Some b → slice_get (edges_of_block f k b) n ≡ Some e → (x a l : ℕ) → BranchesTo l (fetch g x a) → x ≡ spot f k + suc n → a ≡ 0 → l ≡ e.target
  only_target k b n e there got x a l h same start = on (subst (BranchesTo l) ((λ j. fetch g (same j) (start j)) ∙ fetch_edge k b n e there got) h)
    where
      on : IsListed l (e.target ∷ []) → l ≡ e.target
      on (inl d) = d
      on (inr m) = absurd m

  pub jumps : (k : ℕ) (b : Block) (n : ℕ) (e : Edge) → slice_get f.blocks k ≡ Some b → slice_get (edges_of_block f k b) n ≡ Some e → BranchesTo e.target (fetch g (spot f k + suc n) 0)
  jumps k b n e there got = subst (BranchesTo e.target) (sym (fetch_edge k b n e there got)) (inl refl)

  pub place_of_target : (k : ℕ) (b : Block) (t : ℕ) → slice_get f.blocks k ≡ Some b → IsListed t (targets b.term) → position_of g t ≡ spot f (position_of f t)
  place_of_target k b t there l = position_moved f t (target_low f named k b t there l)

  pub phis_own : (k : ℕ) → phis_at g (spot f k) ≡ phis_at f k
  phis_own k = on (slice_get f.blocks k) refl
    where
      on : (o : Option Block) → slice_get f.blocks k ≡ o → phis_at g (spot f k) ≡ phis_in o
      on None e = ap phis_in (get_none (phi_flags f) (table_of f) k (length f.names) f.blocks e)
      on (Some b) e = ap phis_in (own_there f k b e) ∙ phi_values_same f named k b

  pub phis_edge : (k : ℕ) (b : Block) (i : ℕ) (e : Edge) → slice_get f.blocks k ≡ Some b → slice_get (edges_of_block f k b) i ≡ Some e → phis_at g (spot f k + suc i) ≡ []
  phis_edge k b i e there got = ap phis_in (edge_there f k b i e there got)

  -- ---- paths

  over_edge : (tb ta k : ℕ) (b : Block) (i : ℕ) (e : Edge) → slice_get f.blocks k ≡ Some b → slice_get (edges_of_block f k b) i ≡ Some e → LeadsTo g tb ta (spot f (position_of f e.target)) 0 → LeadsTo g tb ta (spot f k + suc i) 0
  over_edge tb ta k b i e there got l =
      Along (spot f k + suc i) 0 e.target (jumps k b i e there got)
      (subst (λ (n : ℕ). LeadsTo g tb ta n 0) (sym (place_of_target k b e.target there (edge_target f k b i e got))) l)

  leads_over : (tb ta k a t l : ℕ) → IsBranch f k (fetch f k a) (fetch g (spot f k) a) t l → LeadsTo g tb ta (spot f (position_of f t)) 0 → LeadsTo g tb ta (spot f k) a
  leads_over tb ta k a t l x h = Along (spot f k) a l x.after (on x.split)
    where
      on : IsSplit (phi_flags f) x.block.label (edges_of_block f k x.block) t l → LeadsTo g tb ta (position_of g l) 0
      on (inl d) = subst (λ (n : ℕ). LeadsTo g tb ta n 0) (sym (ap (position_of g) d.0 ∙ place_of_target k x.block t x.there x.own)) h
      on (inr m) =
          let e : Edge = record { from = x.block.label; target = t; label = l } in
          subst (λ (n : ℕ). LeadsTo g tb ta n 0) (sym (position_edge f named k x.block m.at e x.there m.got)) (over_edge tb ta k x.block m.at e x.there m.got h)

  pub leads_forth : (tb ta b a : ℕ) → LeadsTo f tb ta b a → LeadsTo g (spot f tb) ta (spot f b) a
  leads_forth tb ta _ _ There = There
  leads_forth tb ta _ _ (Over b a i e k) = Over (spot f b) a i (instr_forth f b (fetch f b a) (fetch g (spot f b) a) (stand_alike f b a) i e) (leads_forth tb ta b (a + 1) k)
  leads_forth tb ta _ _ (Along b a label br k) =
      let x = branch_forth f b (fetch f b a) (fetch g (spot f b) a) (stand_alike f b a) label br in
      leads_over (spot f tb) ta b a label x.0 x.1 (leads_forth tb ta (position_of f label) 0 k)

  -- what a path then says of the function
  pub record LedFrom (tb ta x a : ℕ) : Type 0 where
    pub own : (b : ℕ) → x ≡ spot f b → LeadsTo f tb ta b a
    pub edge : (k : ℕ) (b : Block) (i : ℕ) (e : Edge) → slice_get f.blocks k ≡ Some b → slice_get (edges_of_block f k b) i ≡ Some e → x ≡ spot f k + suc i → a ≡ 0 → LeadsTo f tb ta (position_of f e.target) 0

  pub leads_home : (tb ta x a : ℕ) → LeadsTo g (spot f tb) ta x a → LedFrom tb ta x a
  leads_home tb ta _ _ There = record {
    own = λ b same. let one : tb ≡ b = spots_apart f tb b same in subst (λ (n : ℕ). LeadsTo f tb ta n ta) one There;
    edge = λ k b i e there got same start. absurd (spots_no_edge f named k b i e there got tb same);
  }
  leads_home tb ta _ _ (Over x a i e k) = on (leads_home tb ta x (a + 1) k)
    where
      on : LedFrom tb ta x (a + 1) → LedFrom tb ta x a
      on again = record {
        own = λ b same. Over b a i (instr_home f b (fetch f b a) (fetch g (spot f b) a) (stand_alike f b a) i (ap (λ (n : ℕ). fetch g n a) (sym same) ∙ e)) (again.own b same);
        edge = λ m b n d there got same start. absurd (no_instr m b n d there got x a i e same);
      }
  leads_home tb ta _ _ (Along x a label br k) = on (leads_home tb ta (position_of g label) 0 k)
    where
      on : LedFrom tb ta (position_of g label) 0 → LedFrom tb ta x a
      on again = record {
        own = λ b same. let y = branch_home f b (fetch f b a) (fetch g (spot f b) a) (stand_alike f b a) label (subst (λ (n : ℕ). BranchesTo label (fetch g n a)) same br) in Along b a y.0 y.1.before (from b y.0 y.1);
        edge = λ m b n d there got same start. again.own (position_of f d.target) (ap (position_of g) (only_target m b n d there got x a label br same start) ∙ place_of_target m b d.target there (edge_target f m b n d got));
      }
        where
          from : (b t : ℕ) (y : IsBranch f b (fetch f b a) (fetch g (spot f b) a) t label) → LeadsTo f tb ta (position_of f t) 0
          from b t y = by y.split
            where
              by : IsSplit (phi_flags f) y.block.label (edges_of_block f b y.block) t label → LeadsTo f tb ta (position_of f t) 0
              by (inl d) = again.own (position_of f t) (ap (position_of g) d.0 ∙ place_of_target b y.block t y.there y.own)
              by (inr m) =
                  let e : Edge = record { from = y.block.label; target = t; label = label } in
                  again.edge b y.block m.at e y.there m.got (position_edge f named b y.block m.at e y.there m.got) refl
