-- What is fetched before uses has no suspends.
use Rattle.std.proofs.Common.{◌≡◌, ℕ, zero, suc, ◌+◌, Bool, List, [], ◌∷◌, ◌++◌, length, replicate, refl, ap, ◌∙◌, arith}
use Rattle.std.specs.Prelude.{None, Option, Some, slice_set}
use Rattle.pass_edges_proof.proofs.rule_laws.frames.suspend_counts.Counted.{count, joined, one, total}
use Rattle.pass_edges_proof.specs.ir_parts.Contents.{callee_operands, instr_operands}
use Rattle.ir_model.specs.declared.instr.Incoming.{Incoming}
use Rattle.ir_model.specs.declared.instr.Instr.{Instr}
use Rattle.ir_model.specs.declared.instr.Phi.{Phi}
use Rattle.ir_model.specs.declared.module.Block.{Block}
use Rattle.ir_model.specs.declared.module.Function.{Function}
use Rattle.ir_model.specs.declared.operand.Arg.{Arg}
use Rattle.ir_model.specs.declared.operand.Callee.{Callee}
use Rattle.ir_model.specs.declared.operand.Intrinsic.{Intrinsic}
use Rattle.ir_model.specs.declared.operand.Operand.{Operand}
use Rattle.ir_model.specs.Ty.{Ty}
use Rattle.pass_edges_proof.specs.pass_fetch.Blocks.{end_at, ends_of_blocks, ends_of_incoming, ends_of_phis, fetched_blocks, next_after_block, next_after_phi, next_after_phis, next_after_phis_by, with_end, with_fetches}
use Rattle.pass_edges_proof.specs.pass_fetch.Fetching.{callee_by, fetch_into, fetch_of, fetch_of_callee, fetched_args, fetched_callee, fetches_by, fetches_of, fetches_of_all, next_after, next_after_all}
use Rattle.pass_edges_proof.specs.pass_fetch.Instrs.{fetched_instr, fetched_instrs, next_after_instr, next_after_instrs, term_operands, with_fetched}
use Rattle.pass_edges_proof.specs.pass_fetch.declared.fetch.Fetch.{Fetch}

one_fetch : (n : ℕ) (y : Fetch) → one (fetch_into n y) ≡ 0
one_fetch n (Fetch.Load ty cell) = refl
one_fetch n (Fetch.Address base distance) = refl

fetch_none : (n : ℕ) (o : Option Fetch) → count (fetches_by n o) ≡ 0
fetch_none n None = refl
fetch_none n (Some y) = ap (λ (x : ℕ). x + 0) (one_fetch n y)

module _ (t : List (Option Fetch)) where
  pub fetches_none : (n : ℕ) (xs : List Operand) → count (fetches_of_all t n xs) ≡ 0
  fetches_none n [] = refl
  fetches_none n (x ∷ xs) =
      let both = joined (fetches_of t n x) (fetches_of_all t (next_after t n x) xs) in
      let first : count (fetches_of t n x) ≡ 0 = fetch_none n (fetch_of t x) in
      let rest = fetches_none (next_after t n x) xs in
      omega (arith, both, first, rest)

  call_same : (n : ℕ) (r : Option ℕ) (must_tail : Bool) (ty : Option Ty) (c : Callee) (args : List Arg) → one (Instr.Call r must_tail ty (fetched_callee t n c) args) ≡ one (Instr.Call r must_tail ty c args)
  call_same n r must_tail ty (Callee.Local v) args = on (fetch_of_callee t (Callee.Local v))
    where
      on : (o : Option Fetch) → one (Instr.Call r must_tail ty (callee_by n o (Callee.Local v)) args) ≡ 0
      on None = refl
      on (Some y) = refl
  call_same n r must_tail ty _ args = refl

  args_matter_not : (r : Option ℕ) (must_tail : Bool) (ty : Option Ty) (c : Callee) (xs ys : List Arg) → one (Instr.Call r must_tail ty c xs) ≡ one (Instr.Call r must_tail ty c ys)
  args_matter_not r must_tail ty (Callee.Intrinsic Intrinsic.CoroSuspend) xs ys = refl
  args_matter_not r must_tail ty _ xs ys = refl

  pub one_same : (n : ℕ) (i : Instr) → one (with_fetched t n i) ≡ one i
  one_same n (Instr.Call r must_tail ty c args) =
      call_same n r must_tail ty c (fetched_args t (next_after_all t n (callee_operands c)) args)
      ∙ args_matter_not r must_tail ty c (fetched_args t (next_after_all t n (callee_operands c)) args) args
  one_same n _ = refl

  pub instr_same : (n : ℕ) (i : Instr) → count (fetched_instr t n i) ≡ one i
  instr_same n i =
      let both = joined (fetches_of_all t n (instr_operands i)) (with_fetched t n i ∷ []) in
      let none = fetches_none n (instr_operands i) in
      let same = one_same n i in
      omega (arith, both, none, same)

  instrs_same : (n : ℕ) (is : List Instr) → count (fetched_instrs t n is) ≡ count is
  instrs_same n [] = refl
  instrs_same n (i ∷ is) =
      let both = joined (fetched_instr t n i) (fetched_instrs t (next_after_instr t n i) is) in
      let first = instr_same n i in
      let rest = instrs_same (next_after_instr t n i) is in
      omega (arith, both, first, rest)

  -- ---- what is fetched for phis at the ends of blocks

  abbrev AreEndsNone : List (List Instr) → Type 0
  AreEndsNone ends = (label : ℕ) → count (end_at ends label) ≡ 0

  none_set : (ends : List (List Instr)) (at : ℕ) (row : List Instr) → count row ≡ 0 → AreEndsNone ends → AreEndsNone (slice_set ends at row)
  none_set [] at row e h label = refl
  none_set (x ∷ xs) zero row e h zero = e
  none_set (x ∷ xs) zero row e h (suc label) = h (suc label)
  none_set (x ∷ xs) (suc at) row e h zero = h zero
  none_set (x ∷ xs) (suc at) row e h (suc label) = none_set xs at row e (λ l. h (suc l)) label

  end_none : (ends : List (List Instr)) (label n : ℕ) (o : Option Fetch) → AreEndsNone ends → AreEndsNone (with_end ends label n o)
  end_none ends label n None h = h
  end_none ends label n (Some y) h = none_set ends label (end_at ends label ++ fetch_into n y ∷ []) (none y) h
    where
      none : (y : Fetch) → count (end_at ends label ++ fetch_into n y ∷ []) ≡ 0
      none y =
          let both = joined (end_at ends label) (fetch_into n y ∷ []) in
          let first = h label in
          let last = one_fetch n y in
          omega (arith, both, first, last)

  incoming_none : (n : ℕ) (ends : List (List Instr)) (is : List Incoming) → AreEndsNone ends → AreEndsNone (ends_of_incoming t n ends is)
  incoming_none n ends [] h = h
  incoming_none n ends (i ∷ is) h = incoming_none (next_after t n i.value) (with_end ends i.from n (fetch_of t i.value)) is (end_none ends i.from n (fetch_of t i.value) h)

  phis_none : (n : ℕ) (ends : List (List Instr)) (ps : List Phi) → AreEndsNone ends → AreEndsNone (ends_of_phis t n ends ps)
  phis_none n ends [] h = h
  phis_none n ends (p ∷ ps) h = phis_none (next_after_phi t n p) (ends_of_incoming t n ends p.incoming) ps (incoming_none n ends p.incoming h)

  blocks_none : (n : ℕ) (ends : List (List Instr)) (bs : List Block) → AreEndsNone ends → AreEndsNone (ends_of_blocks t n ends bs)
  blocks_none n ends [] h = h
  blocks_none n ends (b ∷ bs) h = blocks_none (next_after_phis t n b.phis) (ends_of_phis t n ends b.phis) bs (phis_none n ends b.phis h)

  empty_none : (n : ℕ) → AreEndsNone (replicate n [])
  empty_none zero label = refl
  empty_none (suc n) zero = refl
  empty_none (suc n) (suc label) = empty_none n label

  -- ---- blocks

  blocks_same : (ends : List (List Instr)) (m n : ℕ) (bs : List Block) → AreEndsNone ends → total (fetched_blocks t ends m n bs) ≡ total bs
  blocks_same ends m n [] h = refl
  blocks_same ends m n (b ∷ bs) h =
      let both = joined (fetched_instrs t n b.instrs ++ end_at ends b.label) (fetches_of_all t (next_after_instrs t n b.instrs) (term_operands b.term)) in
      let front = joined (fetched_instrs t n b.instrs) (end_at ends b.label) in
      let own = instrs_same n b.instrs in
      let end = h b.label in
      let term = fetches_none (next_after_instrs t n b.instrs) (term_operands b.term) in
      let rest = blocks_same ends (next_after_phis t m b.phis) (next_after_block t n b) bs h in
      omega (arith, both, front, own, end, term, rest)

  pub fetched_total : (f : Function) (word : List ℕ) → total (with_fetches f t word).blocks ≡ total f.blocks
  fetched_total f word =
      blocks_same (ends_of_blocks t (length f.names) (replicate (length f.names) []) f.blocks) (length f.names) (next_after_phis_by t (length f.names) f.blocks) f.blocks
      (blocks_none (length f.names) (replicate (length f.names) []) f.blocks (empty_none (length f.names)))
