-- Labels, phis and terminators stay, so edges and their rule do (F1).
use Rattle.std.proofs.Common.{◌≡◌, ℕ, zero, suc, ◌+◌, Bool, true, false, List, [], ◌∷◌, ◌++◌, length, refl, sym, ap, ◌∙◌, subst}
use Rattle.std.specs.Prelude.{None, Some, filter, map, not, option_map, slice_get, unwrap_or, if◌then◌else◌, ◌==◌, ◌&&◌}
use Rattle.flow_blocks.specs.Edges.{block_edges, edges_of_blocks}
use Rattle.ir_laws.specs.ir_base.declared.outcome.Place.{Place}
use Rattle.rule_laws.proofs.rules.local_rules.Carried.{Passing, none_of, passing}
use Rattle.ir_laws.proofs.facts.Members.{each_joined, each_left, each_right}
use Rattle.rule_phis.specs.Edges.{breaks_edges, first_wrong_edge, fits_edges, has, into_block, is_empty, is_entry, leads, predecessors}
use Rattle.ir_parts.specs.Contents.{ending_labels}
use Rattle.ir_parts.specs.Parts.{Ending, Part, block_parts, blocks_parts, instr_parts, instr_place, parts_of, phi_parts}
use Rattle.pass_intrinsics.specs.declared.shape.Shape.{Shape}
use Rattle.ir_laws.specs.ir_model.Names.{first_where, position_of}
use Rattle.ir_laws.specs.ir_model.declared.instr.Instr.{Instr}
use Rattle.ir_laws.specs.ir_model.declared.instr.Phi.{Phi}
use Rattle.ir_laws.specs.ir_model.declared.instr.Terminator.{Terminator}
use Rattle.ir_laws.specs.ir_model.declared.module.Block.{Block}
use Rattle.ir_laws.specs.ir_model.declared.module.Function.{Function}
use Rattle.ir_laws.specs.ir_paths.Paths.{targets}
use Rattle.rule_laws.proofs.frames.turned.Turned.{AreTurned, IsTurned, NoneTurned, OneTurned, names_behind}

module _ (s : Shape) (f g : Function) where
  filtered : (label n : ℕ) (bs cs : List Block) → AreTurned s n bs cs → map (λ b. b.label) (filter (leads label) cs) ≡ map (λ b. b.label) (filter (leads label) bs)
  filtered label _ _ _ (NoneTurned n) = refl
  filtered label _ _ _ (OneTurned n b c bs cs t rest) =
      ap (λ (u : Terminator). map (λ b. b.label) (if has (ending_labels u) label then c ∷ filter (leads label) cs else filter (leads label) cs)) t.term
      ∙ on (leads label b) (filtered label (names_behind n b.instrs) bs cs rest)
    where
      on : (u : Bool) → map (λ b. b.label) (filter (leads label) cs) ≡ map (λ b. b.label) (filter (leads label) bs) → map (λ b. b.label) (if u then c ∷ filter (leads label) cs else filter (leads label) cs) ≡ map (λ b. b.label) (if u then b ∷ filter (leads label) bs else filter (leads label) bs)
      on true more = λ k. t.label k ∷ more k
      on false more = more

  same_first : (label n : ℕ) (bs cs : List Block) → AreTurned s n bs cs → first_where (λ b. b.label == label) cs ≡ first_where (λ b. b.label == label) bs
  same_first label _ _ _ (NoneTurned n) = refl
  same_first label _ _ _ (OneTurned n b c bs cs t rest) = λ k. if t.label k == label then Some 0 else option_map suc (same_first label (names_behind n b.instrs) bs cs rest k)

  same_length : (n : ℕ) (bs cs : List Block) → AreTurned s n bs cs → length cs ≡ length bs
  same_length _ _ _ (NoneTurned n) = refl
  same_length _ _ _ (OneTurned n b c bs cs t rest) = ap suc (same_length (names_behind n b.instrs) bs cs rest)

  module _ (first : ℕ) (blocks : AreTurned s first f.blocks g.blocks) where
    pub same_predecessors : (label : ℕ) → predecessors g label ≡ predecessors f label
    same_predecessors label = filtered label first f.blocks g.blocks blocks

    pub same_position : (label : ℕ) → position_of g label ≡ position_of f label
    same_position label = λ k. unwrap_or (same_first label first f.blocks g.blocks blocks k) (same_length first f.blocks g.blocks blocks k)

    edges_same : (at n : ℕ) (bs cs : List Block) → AreTurned s n bs cs → edges_of_blocks g at cs ≡ edges_of_blocks f at bs
    edges_same at _ _ _ (NoneTurned n) = refl
    edges_same at _ _ _ (OneTurned n b c bs cs t rest) =
        λ k. map (λ to. (at, to)) (map (λ (label : ℕ). same_position label k) (targets (t.term k))) ++ edges_same (at + 1) (names_behind n b.instrs) bs cs rest k

    pub same_edges : block_edges g ≡ block_edges f
    unfolding block_edges
    same_edges = edges_same 0 first f.blocks g.blocks blocks

    into_same : (k n : ℕ) (bs cs : List Block) → AreTurned s n bs cs → into_block (predecessors g) (slice_get cs k) ≡ into_block (predecessors f) (slice_get bs k)
    into_same k _ _ _ (NoneTurned n) = refl
    into_same zero _ _ _ (OneTurned n b c bs cs t rest) = same_predecessors c.label ∙ ap (predecessors f) t.label
    into_same (suc k) _ _ _ (OneTurned n b c bs cs t rest) = into_same k (names_behind n b.instrs) bs cs rest

    -- ---- the rule

    module _ (k l : ℕ) where
      phis_pass : (block at : ℕ) (ps : List Phi) → Passing (breaks_edges f) (phi_parts k block at ps) → Passing (breaks_edges g) (phi_parts l block at ps)
      phis_pass block at [] h = tt
      phis_pass block at (p ∷ ps) h = (
        ap (λ (ls : List ℕ). not (fits_edges ls p.incoming)) (into_same block first f.blocks g.blocks blocks) ∙ h.0,
        phis_pass block (at + 1) ps h.1,
      )

      instrs_pass : (block at : ℕ) (is : List Instr) → Passing (breaks_edges g) (instr_parts l block at is)
      instrs_pass block at [] = tt
      instrs_pass block at (i ∷ is) = (refl, instrs_pass block (at + 1) is)

      block_passes : (n block : ℕ) (b c : Block) → IsTurned s n b c → Passing (breaks_edges f) (block_parts k block b) → Passing (breaks_edges g) (block_parts l block c)
      unfolding block_parts
      block_passes n block b c t h =
          let P : Place × Part → Type 0 = λ x. breaks_edges f x.0 x.1 ≡ false in
          let Q : Place × Part → Type 0 = λ x. breaks_edges g x.0 x.1 ≡ false in
          let behind_b : List (Place × Part) = instr_parts k block (length b.phis) b.instrs ++ (instr_place k block (length b.phis + length b.instrs), Ending b.term) ∷ [] in
          let last : List (Place × Part) = (instr_place l block (length c.phis + length c.instrs), Ending c.term) ∷ [] in (
            ap (λ (ls : List ℕ). is_entry (Some block) && not (is_empty ls)) (same_predecessors c.label ∙ ap (predecessors f) t.label) ∙ h.0,
            each_joined Q (phi_parts l block 0 c.phis) (instr_parts l block (length c.phis) c.instrs ++ last)
                (subst (λ (ps : List Phi). Passing (breaks_edges g) (phi_parts l block 0 ps)) (sym t.phis) (phis_pass block 0 b.phis (each_left P (phi_parts k block 0 b.phis) behind_b h.1)))
                (each_joined Q (instr_parts l block (length c.phis) c.instrs) last (instrs_pass block (length c.phis) c.instrs) (refl, tt)),
          )

      blocks_pass : (n block : ℕ) (bs cs : List Block) → AreTurned s n bs cs → Passing (breaks_edges f) (blocks_parts k block bs) → Passing (breaks_edges g) (blocks_parts l block cs)
      blocks_pass _ block _ _ (NoneTurned n) h = tt
      blocks_pass _ block _ _ (OneTurned n b c bs cs t rest) h =
          each_joined (λ x. breaks_edges g x.0 x.1 ≡ false) (block_parts l block c) (blocks_parts l (block + 1) cs)
          (block_passes n block b c t (each_left (λ x. breaks_edges f x.0 x.1 ≡ false) (block_parts k block b) (blocks_parts k (block + 1) bs) h))
          (blocks_pass (names_behind n b.instrs) (block + 1) bs cs rest (each_right (λ x. breaks_edges f x.0 x.1 ≡ false) (block_parts k block b) (blocks_parts k (block + 1) bs) h))

      pub edges_turned : first_wrong_edge k f ≡ None → first_wrong_edge l g ≡ None
      edges_turned e = none_of (breaks_edges g) (parts_of l g) (refl, blocks_pass first 0 f.blocks g.blocks blocks (passing (breaks_edges f) (parts_of k f) e).1)
