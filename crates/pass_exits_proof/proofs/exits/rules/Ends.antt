-- The first block that passes a test stays the first one when blocks are put on edges that leave windows.
use Rattle.std.proofs.Common.{◌≡◌, ℕ, suc, ◌+◌, Bool, true, false, List, [], ◌∷◌, ◌++◌, None, Option, Some, option_map, unwrap_or, if◌then◌else◌, ap, length, map, refl, sym, ◌∙◌, arith}
use Rattle.std.proofs.lemmas.List.{length-map}
use Rattle.std.specs.List.{list_any}
use Rattle.pass_fetch_proof.proofs.edges.paths.Blocks.{first_behind}
use Rattle.ir_model.specs.Names.{first_where}
use Rattle.ir_model.specs.declared.module.Block.{Block}
use Rattle.ir_model.specs.declared.module.Function.{Function}
use Rattle.ir_model.specs.declared.operand.Intrinsic.{Intrinsic}
use Rattle.pass_fetch_proof.specs.ir_paths.Windows.{end_block, is_call_of}
use Rattle.pass_fetch_proof.proofs.ir_laws.facts.Lists.{place_end}
use Rattle.pass_fetch_proof.specs.ir_laws.facts.expanded.Expansion.{expanded, place_of}
use Rattle.pass_fetch_proof.specs.run_laws.changed.Changed.{Each}
use Rattle.pass_split.specs.pass_exits.ExitBlocks.{blocks_by, exit_block, exit_blocks, with_exit_blocks, with_exits}
use Rattle.pass_split.specs.pass_exits.Exits.{block_exits}
use Rattle.pass_split.specs.pass_exits.declared.exit.Exit.{Exit}
use Rattle.pass_exits_proof.proofs.exits.rules.Places.{after, as_expansion, block_of, grow, length_placed, spot, unplaced, with_places}

module _ (test : Block → Bool) (f : Function) (stays : (at n : ℕ) (b : Block) → test (with_exits f at n b) ≡ test b) (none : (n : ℕ) (e : Exit) → test (exit_block n e) ≡ false) where
  exits_fail : (n : ℕ) (es : List Exit) → Each (λ (b : Block). test b ≡ false) (exit_blocks n es)
  exits_fail n [] = tt
  exits_fail n (e ∷ es) = (none n e, exits_fail (n + 1) es)

  first_exits : (at n : ℕ) (bs : List Block) → first_where test (blocks_by f at n bs) ≡ option_map (λ k. place_of (grow f) (after f) k n (with_places at bs)) (first_where test bs)
  first_exits at n [] = refl
  first_exits at n (b ∷ bs) =
      ap (λ (t : Bool). if t then Some 0 else option_map suc (first_where test (exits ++ rest))) (stays at n b)
      ∙ on (test b) (first_exits (at + 1) (n + length (block_exits f at b)) bs)
    where
      exits : List Block
      exits = exit_blocks n (block_exits f at b)

      rest : List Block
      rest = blocks_by f (at + 1) (n + length (block_exits f at b)) bs

      shift : (o : Option ℕ) → option_map suc (option_map (λ j. length (exit_blocks n (block_exits f at b)) + j) (option_map (λ k. place_of (grow f) (after f) k (n + length (block_exits f at b)) (with_places (at + 1) bs)) o)) ≡ option_map (λ k. place_of (grow f) (after f) k n (with_places at (b ∷ bs))) (option_map suc o)
      shift None = refl
      shift (Some k) =
          let len : length (map unplaced (exit_blocks n (block_exits f at b))) ≡ length (exit_blocks n (block_exits f at b)) = length-map (exit_blocks n (block_exits f at b)) unplaced in
          let z : suc (length (exit_blocks n (block_exits f at b)) + place_of (grow f) (after f) k (n + length (block_exits f at b)) (with_places (at + 1) bs)) ≡ suc (length (map unplaced (exit_blocks n (block_exits f at b)))) + place_of (grow f) (after f) k (n + length (block_exits f at b)) (with_places (at + 1) bs) = omega (arith, len) in
          ap (λ (j : ℕ). Some j) z

      on : (t : Bool) → first_where test (blocks_by f (at + 1) (n + length (block_exits f at b)) bs) ≡ option_map (λ k. place_of (grow f) (after f) k (n + length (block_exits f at b)) (with_places (at + 1) bs)) (first_where test bs) → (if t then Some 0 else option_map suc (first_where test (exit_blocks n (block_exits f at b) ++ blocks_by f (at + 1) (n + length (block_exits f at b)) bs))) ≡ option_map (λ k. place_of (grow f) (after f) k n (with_places at (b ∷ bs))) (if t then Some 0 else option_map suc (first_where test bs))
      on true again = refl
      on false again =
          ap (option_map suc) (first_behind test exits rest (exits_fail n (block_exits f at b)) ∙ ap (option_map (λ j. length (exit_blocks n (block_exits f at b)) + j)) again)
          ∙ shift (first_where test bs)

  length_blocks : length (with_exit_blocks f).blocks ≡ spot f (length f.blocks)
  length_blocks =
      ap length (as_expansion f 0 (length f.names) f.blocks)
      ∙ length-map (expanded (grow f) (after f) (length f.names) (with_places 0 f.blocks)) block_of
      ∙ sym (place_end (grow f) (after f) (length f.names) (with_places 0 f.blocks))
      ∙ ap (λ (k : ℕ). place_of (grow f) (after f) k (length f.names) (with_places 0 f.blocks)) (length_placed 0 f.blocks)

  pub first_moved : unwrap_or (first_where test (with_exit_blocks f).blocks) (length (with_exit_blocks f).blocks) ≡ spot f (unwrap_or (first_where test f.blocks) (length f.blocks))
  first_moved =
      ap (λ (o : Option ℕ). unwrap_or o (length (with_exit_blocks f).blocks)) (first_exits 0 (length f.names) f.blocks)
      ∙ on (first_where test f.blocks)
    where
      on : (o : Option ℕ) → unwrap_or (option_map (λ k. spot f k) o) (length (with_exit_blocks f).blocks) ≡ spot f (unwrap_or o (length f.blocks))
      on None = length_blocks
      on (Some k) = refl

pub end_moved : (f : Function) → end_block (with_exit_blocks f) ≡ spot f (end_block f)
end_moved f = first_moved (λ (b : Block). list_any (is_call_of Intrinsic.CoroEnd) b.instrs) f (λ at n b. refl) (λ n e. refl)
