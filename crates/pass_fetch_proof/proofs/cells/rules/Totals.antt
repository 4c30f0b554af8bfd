-- Each new name is made once in the whole function.
use Rattle.std.proofs.Common.{◌≡◌, ℕ, zero, suc, ◌+◌, ◌≤◌, List, [], ◌∷◌, ◌++◌, length, refl, ap, arith, length-append}
use Rattle.std.specs.Prelude.{Option}
use Rattle.pass_fetch_proof.proofs.cells.rules.Around.{again_low}
use Rattle.pass_fetch_proof.proofs.cells.rules.Counts.{again_times, fetched_times, fetches_times, instrs_rise, list_behind, lists_joined, operands_rise, phis_stored, written_low, written_times}
use Rattle.pass_fetch_proof.proofs.cells.rules.Ends.{ends_times}
use Rattle.pass_edges_proof.proofs.rule_laws.rules.counted.Times.{Adds, adds_as, adds_joined, adds_none, made_both, made_times, names_times}
use Rattle.pass_edges_proof.proofs.ir_laws.facts.Lists.{times_joined, phi_names, row_of}
use Rattle.pass_edges_proof.proofs.rule_laws.rules.source_rules.Locals.{block_names}
use Rattle.ir_model.specs.Names.{numbered}
use Rattle.ir_model.specs.declared.instr.Instr.{Instr}
use Rattle.ir_model.specs.declared.instr.Phi.{Phi}
use Rattle.ir_model.specs.declared.module.Block.{Block}
use Rattle.ir_model.specs.declared.module.Module.{Module}
use Rattle.pass_edges_proof.specs.pass_fetch.Blocks.{end_at, fetched_block, fetched_blocks, fetched_phis, next_after_block, next_after_blocks, next_after_phi, next_after_phis, numbered_names}
use Rattle.pass_edges_proof.specs.pass_fetch.Fetching.{fetches_of_all}
use Rattle.pass_edges_proof.specs.pass_fetch.Instrs.{fetched_instrs, next_after_instrs, term_operands}
use Rattle.pass_edges_proof.specs.pass_fetch.declared.fetch.Fetch.{Fetch}
use Rattle.pass_edges_proof.specs.pass_cells.Moves.{after_again, again_values}
use Rattle.pass_edges_proof.specs.pass_cells.Written.{after_block, after_blocks, again_row, entry_blocks, stored_phis, written_block, written_blocks, written_instrs}
use Rattle.pass_edges_proof.specs.pass_cells.declared.plan.Plan.{Plan}
use Rattle.pass_edges_proof.specs.ir_laws.facts.woven_rules.Pairs.{times}

-- ---- tables of names

pub numbered_length : (word : List ℕ) (k : ℕ) → length (numbered_names word k) ≡ k
numbered_length word zero = refl
numbered_length word (suc k) = let rest = numbered_length word k in let both = length-append (numbered_names word k) (numbered word k ∷ []) in omega (arith, rest, both)

-- ---- blocks whose operands are fetched

module _ (n : ℕ) (t : List (Option Fetch)) (ends : List (List Instr)) where
  pub fetched_names : (k : ℕ) (ps : List Phi) → phi_names (fetched_phis t k ps) ≡ phi_names ps
  fetched_names k [] = refl
  fetched_names k (p ∷ ps) = ap (λ (l : List ℕ). p.result ∷ l) (fetched_names (next_after_phi t k p) ps)

  pub block_rise : (k : ℕ) (b : Block) → k ≤ next_after_block t k b
  block_rise k b =
      let here = instrs_rise n t k b.instrs in
      let rest = operands_rise n t (next_after_instrs t k b.instrs) (term_operands b.term) in
      omega (arith, here, rest)

  pub blocks_rise : (k : ℕ) (bs : List Block) → k ≤ next_after_blocks t k bs
  blocks_rise k [] = omega arith
  blocks_rise k (b ∷ bs) =
      let here : k ≤ next_after_block t k b = block_rise k b in
      let rest : next_after_block t k b ≤ next_after_blocks t (next_after_block t k b) bs = blocks_rise (next_after_block t k b) bs in
      omega (arith, here, rest)

  block_adds : (j k : ℕ) (b : Block) → Adds k (next_after_block t k b) n (times n (block_names b) + made_times n (end_at ends b.label)) (times n (block_names (fetched_block t ends j k b)))
  block_adds j k b =
      let last : ℕ = next_after_instrs t k b.instrs in
      let instrs : List Instr = fetched_instrs t k b.instrs in
      let end : List Instr = end_at ends b.label in
      let terms : List Instr = fetches_of_all t last (term_operands b.term) in
      let first : Adds k last n (made_times n b.instrs + made_times n end) (made_times n (instrs ++ end)) = list_behind n k last (made_times n b.instrs) (made_times n end) instrs end refl (fetched_times n t k b.instrs) in
      let all : Adds k (next_after_block t k b) n (made_times n b.instrs + made_times n end + 0) (made_times n ((instrs ++ end) ++ terms)) =
      lists_joined n k last (next_after_block t k b) (made_times n b.instrs + made_times n end) 0 (instrs ++ end) terms (instrs_rise n t k b.instrs) (operands_rise n t last (term_operands b.term)) first (fetches_times n t last (term_operands b.term)) in
      let sum : made_times n ((instrs ++ end) ++ terms) ≡ made_times n b.instrs + made_times n end + 0 + all.extra = all.sum in
      let old = names_times n b in
      let new = names_times n (fetched_block t ends j k b) in
      let phis : times n (phi_names (fetched_phis t j b.phis)) ≡ times n (phi_names b.phis) = ap (times n) (fetched_names j b.phis) in
      record { extra = all.extra; sum = omega (arith, sum, old, new, phis); within = all.within }

  pub fetched_blocks_add : (j k : ℕ) (bs : List Block) → Adds k (next_after_blocks t k bs) n (times n (row_of block_names bs) + ends_times t n ends bs) (times n (row_of block_names (fetched_blocks t ends j k bs)))
  fetched_blocks_add j k [] = adds_none k k n 0 0 refl
  fetched_blocks_add j k (b ∷ bs) =
      let next : ℕ = next_after_block t k b in
      let j2 : ℕ = next_after_phis t j b.phis in
      let fb : Block = fetched_block t ends j k b in
      let rest : List Block = fetched_blocks t ends j2 next bs in
      let a : ℕ = times n (block_names b) + made_times n (end_at ends b.label) in
      let c : ℕ = times n (row_of block_names bs) + ends_times t n ends bs in
      let old = times_joined n (block_names b) (row_of block_names bs) in
      let new = times_joined n (block_names fb) (row_of block_names rest) in
      adds_as k (next_after_blocks t next bs) n (a + c) (times n (block_names fb) + times n (row_of block_names rest)) (times n (row_of block_names (b ∷ bs)) + ends_times t n ends (b ∷ bs)) (times n (row_of block_names (fb ∷ rest))) (omega (arith, old)) new
      (adds_joined k next (next_after_blocks t next bs) n a c (times n (block_names fb)) (times n (row_of block_names rest)) (block_rise k b) (blocks_rise next bs) (block_adds j k b) (fetched_blocks_add j2 next bs))

-- ---- blocks around which is written

module _ (n : ℕ) (m : Module) (p : Plan) where
  pub written_rise : (k : ℕ) (b : Block) → k ≤ after_block m p k b
  written_rise k b =
      let here : k ≤ after_again k (again_row p b.label) = again_low k k (again_row p b.label) (omega arith) in
      let rest : after_again k (again_row p b.label) ≤ after_block m p k b = written_low n m p (after_again k (again_row p b.label)) b.instrs in
      omega (arith, here, rest)

  pub all_rise : (k : ℕ) (bs : List Block) → k ≤ after_blocks m p k bs
  all_rise k [] = omega arith
  all_rise k (b ∷ bs) =
      let here : k ≤ after_block m p k b = written_rise k b in
      let rest : after_block m p k b ≤ after_blocks m p (after_block m p k b) bs = all_rise (after_block m p k b) bs in
      omega (arith, here, rest)

  written_block_adds : (front : List Instr) (k : ℕ) (b : Block) → Adds k (after_block m p k b) n (times n (block_names b) + made_times n front) (times n (block_names (written_block m p front k b)))
  written_block_adds front k b =
      let row : List ℕ = again_row p b.label in
      let mid : ℕ = after_again k row in
      let again : List Instr = again_values p.kept k row in
      let phis : List Instr = stored_phis p b.phis in
      let instrs : List Instr = written_instrs m p mid b.instrs in
      let none : made_times n phis ≡ 0 = phis_stored n p b.phis in
      let one : Adds k mid n 0 (made_times n again) = again_times n p.kept k row in
      let two : Adds mid (after_block m p k b) n (made_times n b.instrs) (made_times n instrs) = written_times n m p mid b.instrs in
      let low : k ≤ mid = again_low k k row (omega arith) in
      let high : mid ≤ after_block m p k b = written_low n m p mid b.instrs in
      let all : Adds k (after_block m p k b) n (0 + made_times n b.instrs) (made_times n again + made_times n instrs) = adds_joined k mid (after_block m p k b) n 0 (made_times n b.instrs) (made_times n again) (made_times n instrs) low high one two in
      let s1 = made_both n front again in
      let s2 = made_both n (front ++ again) phis in
      let s3 = made_both n ((front ++ again) ++ phis) instrs in
      let sum : made_times n again + made_times n instrs ≡ 0 + made_times n b.instrs + all.extra = all.sum in
      let old = names_times n b in
      let new = names_times n (written_block m p front k b) in
      record { extra = all.extra; sum = omega (arith, sum, old, new, none, s1, s2, s3); within = all.within }

  written_blocks_add : (k : ℕ) (bs : List Block) → Adds k (after_blocks m p k bs) n (times n (row_of block_names bs)) (times n (row_of block_names (written_blocks m p k bs)))
  written_blocks_add k [] = adds_none k k n 0 0 refl
  written_blocks_add k (b ∷ bs) =
      let next : ℕ = after_block m p k b in
      let wb : Block = written_block m p [] k b in
      let rest : List Block = written_blocks m p next bs in
      let old = times_joined n (block_names b) (row_of block_names bs) in
      let new = times_joined n (block_names wb) (row_of block_names rest) in
      adds_as k (after_blocks m p next bs) n (times n (block_names b) + 0 + times n (row_of block_names bs)) (times n (block_names wb) + times n (row_of block_names rest)) (times n (row_of block_names (b ∷ bs))) (times n (row_of block_names (wb ∷ rest))) (omega (arith, old)) new
      (adds_joined k next (after_blocks m p next bs) n (times n (block_names b) + 0) (times n (row_of block_names bs)) (times n (block_names wb)) (times n (row_of block_names rest)) (written_rise k b) (all_rise next bs) (written_block_adds [] k b) (written_blocks_add next bs))

  -- with a front in the first of them
  pub entry_blocks_add : (front : List Instr) (k : ℕ) (b : Block) (bs : List Block) → Adds k (after_blocks m p k (b ∷ bs)) n (times n (row_of block_names (b ∷ bs)) + made_times n front) (times n (row_of block_names (entry_blocks m p front k (b ∷ bs))))
  entry_blocks_add front k b bs =
      let next : ℕ = after_block m p k b in
      let wb : Block = written_block m p front k b in
      let rest : List Block = written_blocks m p next bs in
      let old = times_joined n (block_names b) (row_of block_names bs) in
      let new = times_joined n (block_names wb) (row_of block_names rest) in
      adds_as k (after_blocks m p next bs) n (times n (block_names b) + made_times n front + times n (row_of block_names bs)) (times n (block_names wb) + times n (row_of block_names rest)) (times n (row_of block_names (b ∷ bs)) + made_times n front) (times n (row_of block_names (wb ∷ rest))) (omega (arith, old)) new
      (adds_joined k next (after_blocks m p next bs) n (times n (block_names b) + made_times n front) (times n (row_of block_names bs)) (times n (block_names wb)) (times n (row_of block_names rest)) (written_rise k b) (all_rise next bs) (written_block_adds front k b) (written_blocks_add next bs))
