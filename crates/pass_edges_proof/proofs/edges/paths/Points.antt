-- Where the instructions that pass a test are when edges have blocks.
use Rattle.std.proofs.Common.{◌≡◌, ◌⊎◌, inl, inr, ℕ, suc, ◌+◌, Bool, true, false, List, [], ◌∷◌, ◌++◌, length, refl, sym, ap, ◌∙◌, arith}
use Rattle.std.proofs.lemmas.List.{map-append}
use Rattle.std.specs.Prelude.{map, if◌then◌else◌}
use Rattle.pass_edges.specs.EdgeBlocks.{edge_block, split_blocks, with_edge_blocks}
use Rattle.pass_edges.specs.Edges.{block_edges, phi_flags}
use Rattle.pass_edges.specs.declared.edge.Edge.{Edge}
use Rattle.ir_model.specs.declared.instr.Instr.{Instr}
use Rattle.ir_model.specs.declared.module.Block.{Block}
use Rattle.ir_model.specs.declared.module.Function.{Function}
use Rattle.pass_early_proof.proofs.ir_paths.Search.{Has, either, or_left, or_right, same_point-itself, same_point-same}
use Rattle.pass_early_proof.specs.ir_paths.Paths.{has_point, same_point}
use Rattle.pass_early_proof.specs.ir_paths.Windows.{points_from, points_in, points_where}
use Rattle.pass_early_proof.specs.ir_paths.declared.point.Point.{Point}
use Rattle.pass_edges_proof.specs.edges.paths.Spots.{behind_edges, moved, moved_in, table_of}
use Rattle.pass_early_proof.proofs.ir_laws.facts.Lists.{map_map, map_same}

-- ---- blocks further on

abbrev shift : ℕ → Point → Point
shift c p = record { block = c + p.block; at = p.at }

module _ (test : Instr → Bool) where
  shift_from : (c block at : ℕ) (is : List Instr) → points_from test (c + block) at is ≡ map (shift c) (points_from test block at is)
  shift_from c block at [] = refl
  shift_from c block at (i ∷ is) = on (test i) (shift_from c block (suc at) is)
    where
      on : (b : Bool) → points_from test (c + block) (suc at) is ≡ map (shift c) (points_from test block (suc at) is) → (if b then record { block = c + block; at = at } ∷ points_from test (c + block) (suc at) is else points_from test (c + block) (suc at) is) ≡ map (shift c) (if b then record { block = block; at = at } ∷ points_from test block (suc at) is else points_from test block (suc at) is)
      on true e = ap (λ (ps : List Point). record { block = c + block; at = at } ∷ ps) e
      on false e = e

  pub shift_in : (c block : ℕ) (bs : List Block) → points_in test (c + block) bs ≡ map (shift c) (points_in test block bs)
  shift_in c block [] = refl
  shift_in c block (b ∷ bs) =
      let first = shift_from c block 0 b.instrs in
      let next : suc (c + block) ≡ c + suc block = omega arith in
      let rest = ap (λ (k : ℕ). points_in test k bs) next ∙ shift_in c (suc block) bs in
      (λ i. first i ++ rest i) ∙ sym (map-append (shift c) (points_from test block 0 b.instrs) (points_in test (suc block) bs))

  -- the blocks of edges have no instruction
  skip : (es : List Edge) (c : ℕ) (rest : List Block) → points_in test c (map edge_block es ++ rest) ≡ points_in test (c + length (map edge_block es)) rest
  skip [] c rest = let z : c ≡ c + 0 = omega arith in ap (λ (k : ℕ). points_in test k rest) z
  skip (e ∷ es) c rest =
      let z : suc c + length (map edge_block es) ≡ c + suc (length (map edge_block es)) = omega arith in
      skip es (suc c) rest ∙ ap (λ (k : ℕ). points_in test k rest) z

  module _ (flags : List Bool) (table : List (List Edge)) where
    abbrev to : ℕ → List Block → Point → Point
    to n bs p = moved_in flags table n bs p

    first_stays : (n at : ℕ) (b : Block) (bs : List Block) (is : List Instr) → points_from test 0 at is ≡ map (to n (b ∷ bs)) (points_from test 0 at is)
    first_stays n at b bs [] = refl
    first_stays n at b bs (i ∷ is) = on (test i) (first_stays n (suc at) b bs is)
      where
        on : (t : Bool) → points_from test 0 (suc at) is ≡ map (to n (b ∷ bs)) (points_from test 0 (suc at) is) → (if t then record { block = 0; at = at } ∷ points_from test 0 (suc at) is else points_from test 0 (suc at) is) ≡ map (to n (b ∷ bs)) (if t then record { block = 0; at = at } ∷ points_from test 0 (suc at) is else points_from test 0 (suc at) is)
        on true e = ap (λ (ps : List Point). record { block = 0; at = at } ∷ ps) e
        on false e = e

    pub points_split : (n : ℕ) (bs : List Block) → points_in test 0 (split_blocks flags table n bs) ≡ map (to n bs) (points_in test 0 bs)
    points_split n [] = refl
    points_split n (b ∷ bs) =
        let first = first_stays n 0 b bs b.instrs in
        let rest = behind (points_split (behind_edges flags n b) bs) in
        (λ i. first i ++ rest i) ∙ sym (map-append (to n (b ∷ bs)) (points_from test 0 0 b.instrs) (points_in test 1 bs))
      where
        count : ℕ
        count = length (map edge_block (block_edges flags n b))

        behind : points_in test 0 (split_blocks flags table (behind_edges flags n b) bs) ≡ map (to (behind_edges flags n b) bs) (points_in test 0 bs) → points_in test 1 (map edge_block (block_edges flags n b) ++ split_blocks flags table (behind_edges flags n b) bs) ≡ map (to n (b ∷ bs)) (points_in test 1 bs)
        behind again =
            let z : 1 + count ≡ suc count + 0 = omega arith in
            let one : 1 ≡ 1 + 0 = omega arith in
            skip (block_edges flags n b) 1 (split_blocks flags table (behind_edges flags n b) bs)
            ∙ ap (λ (k : ℕ). points_in test k (split_blocks flags table (behind_edges flags n b) bs)) z
            ∙ shift_in (suc count) 0 (split_blocks flags table (behind_edges flags n b) bs)
            ∙ ap (map (shift (suc count))) again
            ∙ map_map (shift (suc count)) (to (behind_edges flags n b) bs) (points_in test 0 bs)
            ∙ map_same _ _ (λ p. ends p) (points_in test 0 bs)
            ∙ sym (map_map (to n (b ∷ bs)) (shift 1) (points_in test 0 bs))
            ∙ ap (map (to n (b ∷ bs))) (sym (ap (λ (k : ℕ). points_in test k bs) one ∙ shift_in 1 0 bs))
          where
            ends : (p : Point) → shift (suc count) (to (behind_edges flags n b) bs p) ≡ to n (b ∷ bs) (shift 1 p)
            ends p = let s : suc p.block ≡ 1 + p.block = omega arith in ap (λ (k : ℕ). to n (b ∷ bs) (record { block = k; at = p.at })) s

-- the instructions that pass a test are where they were
pub points_moved : (test : Instr → Bool) (f : Function) → points_where test (with_edge_blocks f) ≡ map (moved f) (points_where test f)
points_moved test f = points_split test (phi_flags f) (table_of f) (length f.names) f.blocks

-- a point from which another is moved
pub record IsMovedFrom (move : Point → Point) (ps : List Point) (y : Point) : Type 0 where
  pub point : Point
  pub is : y ≡ move point
  pub there : Has ps point

pub map_has : (move : Point → Point) (ps : List Point) (y : Point) → Has (map move ps) y → IsMovedFrom move ps y
map_has move [] y h = absurd (cc)
map_has move (p ∷ ps) y h = on (map_has move ps y) (either (same_point y (move p)) (has_point (map move ps) y) h)
  where
    on : (Has (map move ps) y → IsMovedFrom move ps y) → (same_point y (move p) ≡ true) ⊎ Has (map move ps) y → IsMovedFrom move (p ∷ ps) y
    on again (inl e) = record { point = p; is = same_point-same y (move p) e; there = or_left (same_point p p) (has_point ps p) (same_point-itself p) }
    on again (inr m) = let old = again m in record { point = old.point; is = old.is; there = or_right (same_point old.point p) (has_point ps old.point) old.there }
