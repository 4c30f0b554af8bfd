-- What holds of the instructions of a block, and of what fetches their operands, holds once operands are fetched.
use Rattle.std.proofs.Common.{ℕ, zero, suc, List, [], ◌∷◌, ◌++◌, replicate}
use Rattle.std.specs.Prelude.{None, Option, Some}
use Rattle.compiler.proofs.ir_laws.facts.Members.{each_joined, each_set}
use Rattle.compiler.specs.ir_model.declared.instr.Incoming.{Incoming}
use Rattle.compiler.specs.ir_model.declared.instr.Instr.{Instr}
use Rattle.compiler.specs.ir_model.declared.instr.Phi.{Phi}
use Rattle.compiler.specs.ir_model.declared.module.Block.{Block}
use Rattle.compiler.specs.ir_model.declared.operand.Operand.{Operand}
use Rattle.compiler.specs.ir_parts.Contents.{instr_operands}
use Rattle.compiler.specs.pass_fetch.Blocks.{end_at, ends_of_blocks, ends_of_incoming, ends_of_phis, fetched_block, next_after_phi, next_after_phis, with_end}
use Rattle.compiler.specs.pass_fetch.Fetching.{fetch_into, fetch_of, fetches_by, fetches_of, fetches_of_all, next_after}
use Rattle.compiler.specs.pass_fetch.Instrs.{fetched_instr, fetched_instrs, next_after_instr, next_after_instrs, term_operands, with_fetched}
use Rattle.compiler.specs.pass_fetch.declared.fetch.Fetch.{Fetch}
use Rattle.compiler.specs.run_laws.changed.Changed.{Each}

module _ (P : Instr → Type 0) (into : (n : ℕ) (f : Fetch) → P (fetch_into n f))
    (over : (t : List (Option Fetch)) (n : ℕ) (i : Instr) → P i → P (with_fetched t n i)) (t : List (Option Fetch)) where
  abbrev All : List Instr → Type 0
  All is = Each P is

  by_fetched : (n : ℕ) (o : Option Fetch) → Each P (fetches_by n o)
  by_fetched n None = tt
  by_fetched n (Some f) = (into n f, tt)

  all_fetched : (n : ℕ) (xs : List Operand) → Each P (fetches_of_all t n xs)
  all_fetched n [] = tt
  all_fetched n (x ∷ xs) =
      each_joined P (fetches_of t n x) (fetches_of_all t (next_after t n x) xs) (by_fetched n (fetch_of t x))
      (all_fetched (next_after t n x) xs)

  pub one_fetched : (n : ℕ) (i : Instr) → P i → Each P (fetched_instr t n i)
  one_fetched n i h =
      each_joined P (fetches_of_all t n (instr_operands i)) (with_fetched t n i ∷ []) (all_fetched n (instr_operands i))
      (over t n i h, tt)

  instrs_fetched : (n : ℕ) (is : List Instr) → Each P is → Each P (fetched_instrs t n is)
  instrs_fetched n [] h = tt
  instrs_fetched n (i ∷ is) h =
      each_joined P (fetched_instr t n i) (fetched_instrs t (next_after_instr t n i) is) (one_fetched n i h.0)
      (instrs_fetched (next_after_instr t n i) is h.1)

  -- ---- what is fetched for phis

  end_fetched : (ends : List (List Instr)) (label : ℕ) → Each All ends → Each P (end_at ends label)
  end_fetched [] label h = tt
  end_fetched (is ∷ ends) zero h = h.0
  end_fetched (is ∷ ends) (suc label) h = end_fetched ends label h.1

  one_end : (ends : List (List Instr)) (label n : ℕ) (o : Option Fetch) → Each All ends
      → Each All (with_end ends label n o)
  one_end ends label n None h = h
  one_end ends label n (Some f) h =
      each_set All ends label (end_at ends label ++ fetch_into n f ∷ [])
      (each_joined P (end_at ends label) (fetch_into n f ∷ []) (end_fetched ends label h) (into n f, tt)) h

  incoming_ends : (n : ℕ) (ends : List (List Instr)) (is : List Incoming) → Each All ends
      → Each All (ends_of_incoming t n ends is)
  incoming_ends n ends [] h = h
  incoming_ends n ends (i ∷ is) h =
      incoming_ends (next_after t n i.value) (with_end ends i.from n (fetch_of t i.value)) is
      (one_end ends i.from n (fetch_of t i.value) h)

  phi_ends : (n : ℕ) (ends : List (List Instr)) (ps : List Phi) → Each All ends → Each All (ends_of_phis t n ends ps)
  phi_ends n ends [] h = h
  phi_ends n ends (p ∷ ps) h =
      phi_ends (next_after_phi t n p) (ends_of_incoming t n ends p.incoming) ps (incoming_ends n ends p.incoming h)

  block_ends : (n : ℕ) (ends : List (List Instr)) (bs : List Block) → Each All ends
      → Each All (ends_of_blocks t n ends bs)
  block_ends n ends [] h = h
  block_ends n ends (b ∷ bs) h =
      block_ends (next_after_phis t n b.phis) (ends_of_phis t n ends b.phis) bs (phi_ends n ends b.phis h)

  no_ends : (n : ℕ) → Each All (replicate n [])
  no_ends zero = tt
  no_ends (suc n) = (tt, no_ends n)

  pub first_ends : (first : ℕ) (bs : List Block) → Each All (ends_of_blocks t first (replicate first []) bs)
  first_ends first bs = block_ends first (replicate first []) bs (no_ends first)

  -- ---- a block

  pub block_fetched : (ends : List (List Instr)) (m n : ℕ) (b : Block) → Each All ends → Each P b.instrs
      → Each P (fetched_block t ends m n b).instrs
  block_fetched ends m n b e h =
      let last : ℕ = next_after_instrs t n b.instrs in
      let own : List Instr = fetched_instrs t n b.instrs in
      each_joined P (own ++ end_at ends b.label) (fetches_of_all t last (term_operands b.term))
      (each_joined P own (end_at ends b.label) (instrs_fetched n b.instrs h) (end_fetched ends b.label e))
      (all_fetched last (term_operands b.term))
