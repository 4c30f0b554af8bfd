-- Lemmas on members.
use Rattle.std.proofs.Common.{inr, ℕ, List, [], ◌∷◌, ◌++◌}
use Rattle.std.specs.Prelude.{Option}
use Rattle.pass_fetch_proof.proofs.cells.rules.Spread.{spread}
use Rattle.pass_edges_proof.proofs.ir_laws.paths.source_rules.Locals.{listed_right}
use Rattle.pass_edges_proof.specs.flow_solver.Paths.{IsListed}
use Rattle.pass_edges_proof.specs.ir_parts.Contents.{instr_operands, result_of}
use Rattle.ir_model.specs.declared.instr.Instr.{Instr}
use Rattle.ir_model.specs.declared.module.Module.{Module}
use Rattle.pass_edges_proof.specs.pass_fetch.Fetching.{fetches_of_all}
use Rattle.pass_edges_proof.specs.pass_fetch.Instrs.{next_after_instr, with_fetched}
use Rattle.pass_edges_proof.specs.pass_fetch.declared.fetch.Fetch.{Fetch}
use Rattle.pass_edges_proof.specs.pass_cells.Moves.{after_saved, saved_values}
use Rattle.pass_edges_proof.specs.pass_cells.Written.{after_one, distance_behind, save_row, stored_result}
use Rattle.pass_edges_proof.specs.pass_cells.declared.plan.Plan.{Plan}

-- ---- what stands behind the instructions of a block

pub spread_has : (m : Module) (p : Plan) (t : List (Option Fetch)) (k n : ℕ) (is rest : List Instr) (x : Instr) → IsListed x rest → IsListed x (spread m p t k n is rest)
spread_has m p t k n [] rest x h = h
spread_has m p t k n (i ∷ is) rest x h =
    let j : Instr = with_fetched t n i in
    let k1 : ℕ = after_saved k (save_row p j) in
    let more : List Instr = spread m p t (after_one m p k j) (next_after_instr t n i) is rest in
    let d : List Instr = distance_behind m p k1 j in
    let c : List Instr = stored_result p (result_of j) in
    let b : List Instr = saved_values p.kept k (save_row p j) in
    listed_right x (fetches_of_all t n (instr_operands i)) (b ++ (j ∷ (c ++ (d ++ more))))
    (listed_right x b (j ∷ (c ++ (d ++ more))) (inr (listed_right x c (d ++ more) (listed_right x d more (spread_has m p t (after_one m p k j) (next_after_instr t n i) is rest x h)))))
