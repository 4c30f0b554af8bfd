-- The locals that the function defines whose edges have blocks are apart, and positions of its table of names (rule N1).
use Rattle.std.proofs.Common.{Bool, List, None, [], ap, arith, length, length-append, map, refl, subst, suc, sym, ℕ, ⊎_elim, ◌++◌, ◌+◌, ◌<◌, ◌∷◌, ◌≡◌, ◌≤◌}
use Rattle.pass_early_proof.specs.rule_uses.Undefined.{params_of}
use Rattle.pass_early_proof.proofs.rule_laws.rules.local_rules.Names.{numbers}
use Rattle.pass_early_proof.proofs.rule_laws.rules.local_rules.Woven.{Ends, New, Woven, apart_names, apart_woven, joined_woven, listed_woven, none_twice, same_woven}
use Rattle.pass_early_proof.proofs.ir_laws.paths.source_rules.Locals.{Apart}
use Rattle.pass_early_proof.proofs.rule_laws.rules.source_rules.Locals.{block_names, made_by, names_are}
use Rattle.pass_early_proof.proofs.ir_laws.facts.Lists.{phi_names, row_of}
use Rattle.pass_early_proof.specs.rule_laws.rules.source_rules.Named.{HasTabledLocals}
use Rattle.pass_edges_proof.proofs.edges.paths.Legs.{AreNumbered, term_numbered}
use Rattle.pass_edges_proof.specs.edges.paths.Spots.{behind_edges, table_of}
use Rattle.pass_edges.specs.EdgeBlocks.{edge_block, edge_names, split_block, split_blocks, split_phi, with_edge_blocks}
use Rattle.pass_edges.specs.Edges.{block_edges, edges_at, edges_by, edges_of, ends_in_suspend, phi_flags}
use Rattle.pass_edges.specs.declared.edge.Edge.{Edge}
use Rattle.pass_edges_proof.proofs.edges.states.Parts.{names_length}
use Rattle.pass_early_proof.specs.flow_solver.Paths.{IsListed}
use Rattle.pass_early_proof.specs.ir_parts.Locals.{locals_of}
use Rattle.pass_early_proof.proofs.rule_laws.rules.function_rules.Tabled.{numbers_below, tabled_by}
use Rattle.ir_model.specs.declared.instr.Phi.{Phi}
use Rattle.ir_model.specs.declared.module.Block.{Block}
use Rattle.ir_model.specs.declared.module.Function.{Function}
use Rattle.pass_early_proof.specs.rule_names.Definitions.{first_twice}

module _ (flags : List Bool) (table : List (List Edge)) where
  names_of_phis : (es : List Edge) (ps : List Phi) → phi_names (map (split_phi es) ps) ≡ phi_names ps
  names_of_phis es [] = refl
  names_of_phis es (p ∷ ps) = ap (λ (ns : List ℕ). p.result ∷ ns) (names_of_phis es ps)

  names_of_block : (n : ℕ) (b : Block) → block_names (split_block flags table n b) ≡ block_names b
  names_of_block n b = ap (λ (ns : List ℕ). b.label ∷ (ns ++ row_of made_by b.instrs)) (names_of_phis (edges_at table b.label) b.phis)

  -- the labels of a block's edges, before further numbers
  edges_woven : (from n l : ℕ) (es : List Edge) (xs : List ℕ) (rest : List Block) → AreNumbered from n es → Woven (n + length es) xs l (row_of block_names rest) → Woven n xs l (row_of block_names (map edge_block es ++ rest))
  edges_woven from n l [] xs rest h w = let z : n + 0 ≡ n = omega arith in subst (λ (k : ℕ). Woven k xs l (row_of block_names rest)) z w
  edges_woven from n l (e ∷ es) xs rest h w =
      let next : n + suc (length es) ≡ suc n + length es = omega arith in
      let start : suc n ≡ n + 1 = omega arith in
      let later : Woven (suc n) xs l (row_of block_names (map edge_block es ++ rest)) = edges_woven from (suc n) l es xs rest h.2 (subst (λ (k : ℕ). Woven k xs l (row_of block_names rest)) next w) in
      subst (λ (k : ℕ). Woven n xs l (k ∷ row_of block_names (map edge_block es ++ rest))) (sym h.1)
      (New n l xs (row_of block_names (map edge_block es ++ rest)) (subst (λ (k : ℕ). Woven k xs l (row_of block_names (map edge_block es ++ rest))) start later))

  blocks_woven : (n : ℕ) (bs : List Block) → Woven n (row_of block_names bs) (n + length (edges_by flags n bs)) (row_of block_names (split_blocks flags table n bs))
  blocks_woven n [] = let z : n ≡ n + 0 = omega arith in subst (λ (l : ℕ). Woven n [] l []) z (Ends n)
  blocks_woven n (b ∷ bs) =
      let es : List Edge = block_edges flags n b in
      let k : ℕ = behind_edges flags n b in
      let rest : List Block = split_blocks flags table k bs in
      let len : length (es ++ edges_by flags k bs) ≡ length es + length (edges_by flags k bs) = length-append es (edges_by flags k bs) in
      let end : k + length (edges_by flags k bs) ≡ n + length (es ++ edges_by flags k bs) = omega (arith, len) in
      let own : Woven n (block_names b) n (block_names (split_block flags table n b)) = subst (λ (ns : List ℕ). Woven n (block_names b) n ns) (sym (names_of_block n b)) (same_woven n (block_names b)) in
      subst (λ (l : ℕ). Woven n (block_names b ++ row_of block_names bs) l (block_names (split_block flags table n b) ++ row_of block_names (map edge_block es ++ rest))) end
      (joined_woven n n (k + length (edges_by flags k bs)) (block_names b) (block_names (split_block flags table n b)) (row_of block_names bs) (row_of block_names (map edge_block es ++ rest)) own
      (edges_woven b.label n (k + length (edges_by flags k bs)) es (row_of block_names bs) rest (term_numbered flags b.label (ends_in_suspend b.instrs) n b.term) (blocks_woven k bs)))

module _ (func : ℕ) (f : Function) (tabled : HasTabledLocals func f) where
  abbrev count : ℕ
  count = length (edges_of (phi_flags f) f)

  numbers_woven : Woven (length f.names) (numbers f) (length f.names + length (edges_of (phi_flags f) f)) (numbers (with_edge_blocks f))
  numbers_woven =
      joined_woven (length f.names) (length f.names) (length f.names + length (edges_of (phi_flags f) f)) (params_of f) (params_of f) (row_of block_names f.blocks) (row_of block_names (with_edge_blocks f).blocks)
      (same_woven (length f.names) (params_of f)) (blocks_woven (phi_flags f) (table_of f) (length f.names) f.blocks)

  pub names_tabled : HasTabledLocals func (with_edge_blocks f)
  names_tabled = tabled_by func (with_edge_blocks f) below
    where
      below : (n : ℕ) → IsListed n (numbers (with_edge_blocks f)) → n < length (with_edge_blocks f).names
      below n listed =
          let k : ℕ = length f.names in
          let len : length (f.names ++ edge_names count) ≡ k + length (edge_names count) = length-append f.names (edge_names count) in
          let all : length (edge_names count) ≡ count = names_length count in
          let lt : n < length (f.names ++ edge_names count) =
          ⊎_elim
          (λ (old : IsListed n (numbers f)). let first : n < k = numbers_below func f tabled n old in omega (arith, first, len))
          (λ (new : (k ≤ n) × (n < k + count)). let high : n < k + count = new.1 in omega (arith, high, len, all))
          (listed_woven k (k + count) (numbers f) (numbers (with_edge_blocks f)) numbers_woven n listed) in
          lt

  pub names_once : first_twice [] (locals_of func f) ≡ None → first_twice [] (locals_of func (with_edge_blocks f)) ≡ None
  names_once once =
      let apart : Apart (numbers f) = subst Apart (names_are func f) (apart_names [] (locals_of func f) once) in
      let now : Apart (numbers (with_edge_blocks f)) = apart_woven (length f.names) (length f.names) (length f.names + count) (numbers f) (numbers (with_edge_blocks f)) numbers_woven (omega arith) (numbers_below func f tabled) apart in
      none_twice [] (locals_of func (with_edge_blocks f)) (subst Apart (sym (names_are func (with_edge_blocks f))) now) (λ n listed. refl)
