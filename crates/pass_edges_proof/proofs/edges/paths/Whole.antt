-- What is gathered from all blocks, where edges have blocks.
use Rattle.std.proofs.Common.{◌≡◌, ℕ, suc, ◌+◌, Bool, true, false, List, [], ◌∷◌, ◌++◌, length, refl, ap, ◌∙◌, arith}
use Rattle.std.specs.List.{list_any}
use Rattle.std.specs.Prelude.{Some, None, Option, flat_map, map, option_map, unwrap_or, if◌then◌else◌, ◌||◌}
use Rattle.pass_edges.specs.EdgeBlocks.{edge_block, split_block, split_blocks, with_edge_blocks}
use Rattle.pass_edges.specs.Edges.{block_edges, phi_flags}
use Rattle.pass_edges.specs.declared.edge.Edge.{Edge}
use Rattle.ir_model.specs.Names.{first_where}
use Rattle.ir_model.specs.declared.instr.Instr.{Instr}
use Rattle.ir_model.specs.declared.module.Block.{Block}
use Rattle.ir_model.specs.declared.module.Function.{Function}
use Rattle.pass_early_proof.specs.run_step.Step.{has_markers, is_marker_of}
use Rattle.pass_early_proof.specs.run_laws.changed.Changed.{Each}
use Rattle.pass_edges_proof.proofs.edges.paths.Blocks.{first_behind, length_blocks, place, spot}
use Rattle.pass_edges_proof.specs.edges.paths.Spots.{behind_edges, table_of}

module _ (flags : List Bool) (table : List (List Edge)) where
  -- lists made of the instructions of blocks
  pub flat_split : {X : Type 0} (F : List Instr → List X) → F [] ≡ [] → (n : ℕ) (bs : List Block) → flat_map (λ (b : Block). F b.instrs) (split_blocks flags table n bs) ≡ flat_map (λ (b : Block). F b.instrs) bs
  flat_split F h n [] = refl
  flat_split {X = X} F h n (b ∷ bs) = ap (λ (xs : List X). F b.instrs ++ xs) (skip (block_edges flags n b) (split_blocks flags table (behind_edges flags n b) bs) ∙ flat_split F h (behind_edges flags n b) bs)
    where
      skip : (es : List Edge) (rest : List Block) → flat_map (λ (c : Block). F c.instrs) (map edge_block es ++ rest) ≡ flat_map (λ (c : Block). F c.instrs) rest
      skip [] rest = refl
      skip (e ∷ es) rest = ap (λ (xs : List X). xs ++ flat_map (λ (c : Block). F c.instrs) (map edge_block es ++ rest)) h ∙ skip es rest

  -- tests of blocks that no edge's block passes
  pub any_split : (t u : Block → Bool) (P : Block → Type 0) → ((n : ℕ) (b : Block) → P b → u (split_block flags table n b) ≡ t b) → ((e : Edge) → u (edge_block e) ≡ false) → (n : ℕ) (bs : List Block) → Each P bs → list_any u (split_blocks flags table n bs) ≡ list_any t bs
  any_split t u P h k n [] all = refl
  any_split t u P h k n (b ∷ bs) all =
      let first = h n b all.0 in
      let rest = skip (block_edges flags n b) (split_blocks flags table (behind_edges flags n b) bs) ∙ any_split t u P h k (behind_edges flags n b) bs all.1 in
      λ i. first i || rest i
    where
      skip : (es : List Edge) (rest : List Block) → list_any u (map edge_block es ++ rest) ≡ list_any u rest
      skip [] rest = refl
      skip (e ∷ es) rest = ap (λ (x : Bool). x || list_any u (map edge_block es ++ rest)) (k e) ∙ skip es rest

  -- the first block that passes a test
  pub first_block : (t : Block → Bool) → ((n : ℕ) (b : Block) → t (split_block flags table n b) ≡ t b) → ((e : Edge) → t (edge_block e) ≡ false) → (n : ℕ) (bs : List Block) → first_where t (split_blocks flags table n bs) ≡ option_map (λ k. place flags table k n bs) (first_where t bs)
  first_block t h k n [] = refl
  first_block t h k n (b ∷ bs) =
      ap (λ (x : Bool). if x then Some 0 else option_map suc (first_where t (map edge_block (block_edges flags n b) ++ split_blocks flags table (behind_edges flags n b) bs))) (h n b)
      ∙ on (t b) (first_block t h k (behind_edges flags n b) bs)
    where
      fail : (es : List Edge) → Each (λ (x : Block). t x ≡ false) (map edge_block es)
      fail [] = tt
      fail (e ∷ es) = (k e, fail es)

      shifted : (o : Option ℕ) → option_map suc (option_map (λ j. length (map edge_block (block_edges flags n b)) + j) (option_map (λ l. place flags table l (behind_edges flags n b) bs) o)) ≡ option_map (λ l. place flags table l n (b ∷ bs)) (option_map suc o)
      shifted None = refl
      shifted (Some l) = let z : suc (length (map edge_block (block_edges flags n b)) + place flags table l (behind_edges flags n b) bs) ≡ suc (length (map edge_block (block_edges flags n b))) + place flags table l (behind_edges flags n b) bs = omega arith in ap (λ (j : ℕ). Some j) z

      on : (x : Bool) → first_where t (split_blocks flags table (behind_edges flags n b) bs) ≡ option_map (λ l. place flags table l (behind_edges flags n b) bs) (first_where t bs) → (if x then Some 0 else option_map suc (first_where t (map edge_block (block_edges flags n b) ++ split_blocks flags table (behind_edges flags n b) bs))) ≡ option_map (λ l. place flags table l n (b ∷ bs)) (if x then Some 0 else option_map suc (first_where t bs))
      on true again = refl
      on false again =
          ap (option_map suc) (first_behind t (map edge_block (block_edges flags n b)) (split_blocks flags table (behind_edges flags n b) bs) (fail (block_edges flags n b))
          ∙ ap (option_map (λ j. length (map edge_block (block_edges flags n b)) + j)) again)
          ∙ shifted (first_where t bs)

each_unit : (bs : List Block) → Each (λ (b : Block). Unit {0}) bs
each_unit [] = tt
each_unit (b ∷ bs) = (tt, each_unit bs)

-- markers stay
pub markers_split : (f : Function) (name : ℕ) → has_markers (with_edge_blocks f) name ≡ has_markers f name
markers_split f name =
    any_split (phi_flags f) (table_of f) (λ (b : Block). list_any (is_marker_of name) b.instrs) (λ (b : Block). list_any (is_marker_of name) b.instrs) (λ b. Unit {0})
    (λ n b h. refl) (λ e. refl) (length f.names) f.blocks (each_unit f.blocks)

-- the first block that passes a test is moved
pub first_moved : (t : Block → Bool) (f : Function) → ((flags : List Bool) (table : List (List Edge)) (n : ℕ) (b : Block) → t (split_block flags table n b) ≡ t b) → ((e : Edge) → t (edge_block e) ≡ false) → unwrap_or (first_where t (with_edge_blocks f).blocks) (length (with_edge_blocks f).blocks) ≡ spot f (unwrap_or (first_where t f.blocks) (length f.blocks))
first_moved t f h k =
    ap (λ (o : Option ℕ). unwrap_or o (length (with_edge_blocks f).blocks)) (first_block (phi_flags f) (table_of f) t (h (phi_flags f) (table_of f)) k (length f.names) f.blocks)
    ∙ on (first_where t f.blocks)
  where
    on : (o : Option ℕ) → unwrap_or (option_map (λ l. spot f l) o) (length (with_edge_blocks f).blocks) ≡ spot f (unwrap_or o (length f.blocks))
    on None = length_blocks f
    on (Some l) = refl
