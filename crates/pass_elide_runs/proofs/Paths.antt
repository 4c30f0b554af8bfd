-- A path that leads to a point leads to its block.
use Rattle.std.proofs.Common.{◌≡◌, ◌+◌, inl, inr, ⊎_elim, ℕ, zero, suc, Bool, true, false, List, [], ◌∷◌, length, refl, sym, ap, subst, arith, ◌==◌, ◌||◌, ◌⊎◌}
use Rattle.std.specs.Prelude.{None, Option, Some, map, slice_get}
use Rattle.pass_elide_proof.proofs.DestroyingSteps.{listed_left, listed_right}
use Rattle.pass_elide_proof.proofs.pass_proofs.ir_laws.facts.Truth.{equal_numbers}
use Rattle.pass_elide_proof.specs.pass_proofs.flow_blocks.Edges.{block_edges, edges_of_blocks, edges_out}
use Rattle.pass_elide_proof.specs.pass_proofs.flow_blocks.Reach.{Edge, IsReached as IsReachedBlock, Start}
use Rattle.pass_elide_proof.specs.pass_proofs.flow_solver.Paths.{IsListed}
use Rattle.pass_elide_proof.specs.pass_proofs.ir_model.Names.{position_of}
use Rattle.pass_elide_proof.specs.pass_proofs.ir_model.declared.instr.Instr.{Instr}
use Rattle.pass_elide_proof.specs.pass_proofs.ir_model.declared.module.Block.{Block}
use Rattle.pass_elide_proof.specs.pass_proofs.ir_model.declared.module.Function.{Function}
use Rattle.pass_elide_proof.specs.pass_proofs.ir_paths.Paths.{targets}
use Rattle.pass_elide_proof.specs.pass_proofs.ir_paths.Slots.{has_name}
use Rattle.pass_elide_proof.specs.pass_proofs.pass_kept_proof.Needed.{BranchesTo, IsReached, after, along, first}
use Rattle.pass_elide_proof.specs.pass_proofs.run_step.Step.{fetch, fetch_in, fetch_or}

-- ---- labels

either_is : (p q : Bool) → (p || q) ≡ true → (p ≡ true) ⊎ (q ≡ true)
either_is true q h = inl refl
either_is false q h = inr h

pub name_listed : (l : ℕ) (ls : List ℕ) → has_name ls l ≡ true → IsListed l ls
name_listed l [] h = absurd (cc)
name_listed l (k ∷ ls) h =
    ⊎_elim (λ same. inl (sym (equal_numbers k l same))) (λ more. inr (name_listed l ls more))
    (either_is (k == l) (has_name ls l) h)

-- ---- edges

pub map_listed : (g : ℕ → ℕ) (l : ℕ) (ls : List ℕ) → IsListed l ls → IsListed (g l) (map g ls)
map_listed g l [] listed = absurd listed
map_listed g l (k ∷ ls) (inl same) = inl (ap g same)
map_listed g l (k ∷ ls) (inr listed) = inr (map_listed g l ls listed)

out_listed : (from to : ℕ) (ls : List ℕ) → IsListed to ls
    → IsListed {X = ℕ × ℕ} (from, to) (map (λ (k : ℕ). (from, k)) ls)
out_listed from to [] listed = absurd listed
out_listed from to (k ∷ ls) (inl same) = inl (λ j. (from, same j))
out_listed from to (k ∷ ls) (inr listed) = inr (out_listed from to ls listed)

by_listed : (f : Function) (from : ℕ) (bs : List Block) (k : ℕ) (b : Block) (label p : ℕ) → slice_get bs k ≡ Some b
    → IsListed label (targets b.term) → p ≡ from + k
    → IsListed {X = ℕ × ℕ} (p, position_of f label) (edges_of_blocks f from bs)
by_listed f from [] k b label p at listed is = absurd (cc)
by_listed f from (c ∷ bs) zero b label p at listed is =
    let same : c ≡ b = cc in
    let here : from ≡ p = omega (arith, is) in
    listed_left {A = ℕ × ℕ} (p, position_of f label) (edges_out f from c) (edges_of_blocks f (from + 1) bs)
    (subst (λ (n : ℕ). IsListed {X = ℕ × ℕ} (n, position_of f label) (edges_out f from c)) here
    (out_listed from (position_of f label) (map (position_of f) (targets c.term))
    (map_listed (position_of f) label (targets c.term)
    (subst (λ (z : Block). IsListed label (targets z.term)) (sym same) listed))))
by_listed f from (c ∷ bs) (suc k) b label p at listed is =
    listed_right {A = ℕ × ℕ} (p, position_of f label) (edges_out f from c) (edges_of_blocks f (from + 1) bs)
    (by_listed f (from + 1) bs k b label p at listed (omega (arith, is)))

-- the edge to a label of a block's terminator
pub edge_listed : (f : Function) (block : ℕ) (b : Block) (label : ℕ) → slice_get f.blocks block ≡ Some b
    → IsListed label (targets b.term) → IsListed {X = ℕ × ℕ} (block, position_of f label) (block_edges f)
unfolding block_edges
edge_listed f block b label at listed = by_listed f 0 f.blocks block b label block at listed (omega arith)

-- ---- what a branch shows

pub record HasTerm (f : Function) (block label : ℕ) : Type 0 where
  pub the_block : Block
  pub there : slice_get f.blocks block ≡ Some the_block
  pub listed : IsListed label (targets the_block.term)

pub branch_term : (f : Function) (block at label : ℕ) → BranchesTo label (fetch f block at) → HasTerm f block label
branch_term f block at label h = on (slice_get f.blocks block) refl h
  where
    by : (b : Block) (o : Option Instr) (last : Bool) → BranchesTo label (fetch_or o last b.term)
        → has_name (targets b.term) label ≡ true
    by b (Some i) last h = absurd h
    by b None true h = h
    by b None false h = absurd h

    on : (o : Option Block) → slice_get f.blocks block ≡ o → BranchesTo label (fetch_in o at) → HasTerm f block label
    on None eo h = absurd h
    on (Some b) eo h = record {
      the_block = b;
      there = eo;
      listed = name_listed label (targets b.term) (by b (slice_get b.instrs at) (at == length b.instrs) h);
    }

-- ---- paths

pub block_reached : (f : Function) (block at : ℕ) → IsReached f block at → IsReachedBlock f (0 ∷ []) [] block
block_reached f _ _ first = Start 0 (inl refl)
block_reached f _ _ (after {block} {at} i there h) = block_reached f block at h
block_reached f _ _ (along {block} {at} label to h) =
    let term = branch_term f block at label to in
    Edge block (position_of f label) (block_reached f block at h)
    (edge_listed f block term.the_block label term.there term.listed) (λ l. l)

-- functions with the same edges have the same paths
pub same_reached : (f g : Function) → block_edges g ≡ block_edges f → (block : ℕ)
    → IsReachedBlock g (0 ∷ []) [] block → IsReachedBlock f (0 ∷ []) [] block
same_reached f g same _ (Start block listed) = Start block listed
same_reached f g same _ (Edge from to h listed free) =
    Edge from to (same_reached f g same from h) (subst (IsListed {X = ℕ × ℕ} (from, to)) same listed) free
