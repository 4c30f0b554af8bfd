-- The bounds by the names of the coroutine.
use Rattle.std.proofs.Common.{◌≡◌, ◌≢◌, ℕ, zero, suc, ◌+◌, ◌*◌, ◌≤◌, false, List, [], ◌∷◌, length, refl, arith}
use Rattle.std.proofs.lemmas.List.{length-append}
use Rattle.std.specs.Prelude.{None, Option, Some, slice_get, unwrap_or}
use Rattle.pass_frames_proof.specs.ir_model.declared.instr.Instr.{Instr}
use Rattle.pass_frames_proof.specs.ir_model.declared.instr.Phi.{Phi}
use Rattle.pass_frames_proof.specs.ir_model.declared.module.Block.{Block}
use Rattle.pass_frames_proof.specs.ir_model.declared.module.Function.{Function}
use Rattle.pass_frames_proof.specs.pass_cells.Cells.{fetched_function, fetches_of}
use Rattle.pass_frames_proof.specs.pass_cells.declared.plan.KeptValue.{KeptValue}
use Rattle.pass_frames_proof.specs.pass_cells.declared.plan.Plan.{Plan}
use Rattle.pass_frames_proof.specs.pass_fetch.Blocks.{fetched_blocks, fetched_phis, next_after_block, next_after_phi, next_after_phis}
use Rattle.pass_frames_proof.specs.pass_fetch.declared.fetch.Fetch.{Fetch}
use Rattle.pass_frames_prices.proofs.bounds.Calls.{call_short}
use Rattle.pass_frames_prices.proofs.bounds.Early.{early_few}
use Rattle.pass_frames_prices.proofs.bounds.Lean.{allocas_few}
use Rattle.pass_frames_prices.proofs.bounds.Links.{distances_few}
use Rattle.pass_frames_prices.proofs.bounds.Returned.{front_few}
use Rattle.pass_frames_prices.proofs.bounds.Values.{kept_few}
use Rattle.pass_frames_proof.specs.Code.{front_code}
use Rattle.pass_frames_proof.specs.Costs.{allocas_before, call_cost}
use Rattle.pass_frames_proof.specs.Framings.{IsFraming}
use Rattle.pass_frames_prices.specs.Numbers.{allocas_of_blocks, allocas_of_instrs, distances_of, gep_names, gep_names_of, name_of_instr, names_of, names_of_blocks, names_of_instrs, one_alloca, one_distance, phis_of_blocks}
use Rattle.pass_frames_proof.specs.Passes.{block_at, no_block}
use Rattle.pass_frames_proof.specs.Places.{Framing, edged, fetched, instrs_at, is_return, plan}

-- ---- names that are getelementptrs, allocas, phis or parameters

abbrev IsCounted : Instr → Type 0
IsCounted i = length (gep_names (i ∷ [])) + one_alloca i ≤ name_of_instr i

one_counted : (i : Instr) → IsCounted i
one_counted (Instr.Binary r op flags ty a b) = omega arith
one_counted (Instr.Icmp r pred ty a b) = omega arith
one_counted (Instr.Select r c a b) = omega arith
one_counted (Instr.Cast r op nneg a to) = omega arith
one_counted (Instr.Alloca r ty align) = omega arith
one_counted (Instr.Load r ty a align) = omega arith
one_counted (Instr.Store a b align) = omega arith
one_counted (Instr.Gep r inbounds ty base indices) = omega arith
one_counted (Instr.Call r must_tail ty callee args) = omega arith

one_longer : (i : Instr) (is : List Instr)
    → length (gep_names (i ∷ is)) ≡ length (gep_names (i ∷ [])) + length (gep_names is)
one_longer (Instr.Gep r inbounds ty base indices) is = omega arith
one_longer _ is = omega arith

instrs_counted : (is : List Instr) → length (gep_names is) + allocas_of_instrs is ≤ names_of_instrs is
instrs_counted [] = omega arith
instrs_counted (i ∷ is) =
    let a = one_counted i in
    let b = one_longer i is in
    let c = instrs_counted is in
    omega (arith, a, b, c)

pub blocks_counted : (bs : List Block)
    → length (gep_names_of bs) + allocas_of_blocks bs + phis_of_blocks bs ≤ names_of_blocks bs
blocks_counted [] = omega arith
blocks_counted (b ∷ bs) =
    let a = instrs_counted b.instrs in
    let c = blocks_counted bs in
    let e = length-append (gep_names b.instrs) (gep_names_of bs) in
    omega (arith, a, c, e)

pub entry_few : (bs : List Block)
    → allocas_of_instrs (unwrap_or (slice_get bs 0) no_block).instrs ≤ allocas_of_blocks bs
entry_few [] = omega arith
entry_few (b ∷ bs) = omega arith

distances_less : (ks : List KeptValue) → distances_of ks ≤ length ks
distances_less [] = omega arith
distances_less (k ∷ ks) = let a = on k.slot in let b = distances_less ks in omega (arith, a, b)
  where
    on : (o : Option ℕ) → one_distance o ≤ 1
    on None = omega arith
    on (Some s) = omega arith

-- ---- phis stay when operands are fetched

phis_long : (t : List (Option Fetch)) (n : ℕ) (ps : List Phi) → length (fetched_phis t n ps) ≡ length ps
phis_long t n [] = refl
phis_long t n (p ∷ ps) = let a = phis_long t (next_after_phi t n p) ps in omega (arith, a)

abbrev phis_there : List Block → ℕ → ℕ
phis_there bs k = length (unwrap_or (slice_get bs k) no_block).phis

fetched_there : (t : List (Option Fetch)) (ends : List (List Instr)) (m n : ℕ) (bs : List Block) (k : ℕ)
    → phis_there (fetched_blocks t ends m n bs) k ≡ phis_there bs k
fetched_there t ends m n [] k = refl
fetched_there t ends m n (b ∷ bs) zero = phis_long t m b.phis
fetched_there t ends m n (b ∷ bs) (suc k) =
    fetched_there t ends (next_after_phis t m b.phis) (next_after_block t n b) bs k

loaded_there : (p : Plan) (f : Function) (k : ℕ) → phis_there (fetched_function p f).blocks k ≡ phis_there f.blocks k
unfolding fetched_function
loaded_there p f k = fetched_there (fetches_of p) _ _ _ f.blocks k

there_few : (bs : List Block) (k : ℕ) → phis_there bs k ≤ phis_of_blocks bs
there_few [] k = omega arith
there_few (b ∷ bs) zero = omega arith
there_few (b ∷ bs) (suc k) = let a = there_few bs k in omega (arith, a)

-- ---- in a coroutine

module _ (x : Framing) (is : IsFraming x) where
  abbrev M : ℕ
  M = names_of (edged x)

  pub phis_same : (k : ℕ) → length (block_at (fetched x) k).phis ≡ length (block_at (edged x) k).phis
  phis_same k = loaded_there (plan x) (edged x) k

  pub allocas_total : slice_get (edged x).blocks 0 ≡ Some (block_at (edged x) 0) → allocas_before x None ≤ 3 * M
  allocas_total there =
      let a = allocas_few x there in
      let b = kept_few x is in
      let c = early_few x is in
      let d = distances_few x is in
      let e = blocks_counted (edged x).blocks in
      let f = entry_few (edged x).blocks in
      omega (arith, a, b, c, d, e, f)

  pub call_total : slice_get (edged x).blocks 0 ≡ Some (block_at (edged x) 0) → is_return x 0 ≡ false
      → call_cost x ≤ 4 * M
  call_total there unreturned =
      let a = call_short x is there unreturned in
      let b = kept_few x is in
      let c = early_few x is in
      let d = distances_few x is in
      let e = blocks_counted (edged x).blocks in
      let f = entry_few (edged x).blocks in
      let g = phis_same 0 in
      let h = there_few (edged x).blocks 0 in
      omega (arith, a, b, c, d, e, f, g, h)

  -- a front with what is fetched for phis at an end
  pub front_total : (k : ℕ) → k ≢ 0 → length (front_code x k) + 2 * phis_of_blocks (edged x).blocks
      ≤ 5 * M + length (block_at (edged x) k).phis
  front_total k later =
      let a = front_few x is k later in
      let b = kept_few x is in
      let c = early_few x is in
      let d = distances_few x is in
      let e = blocks_counted (edged x).blocks in
      let f = entry_few (edged x).blocks in
      let g = phis_same k in
      let h = distances_less (plan x).kept in
      omega (arith, a, b, c, d, e, f, g, h)
