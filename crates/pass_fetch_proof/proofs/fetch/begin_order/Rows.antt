-- What is fetched, before instructions and at the ends of blocks.
use Rattle.std.proofs.Common.{◌≡◌, ℕ, zero, suc, List, [], ◌∷◌, ◌++◌, refl}
use Rattle.std.specs.Prelude.{None, Option, Some, replicate, slice_set}
use Rattle.pass_edges_proof.proofs.ir_laws.facts.Members.{each_behind}
use Rattle.ir_model.specs.declared.instr.Incoming.{Incoming}
use Rattle.ir_model.specs.declared.instr.Instr.{Instr}
use Rattle.ir_model.specs.declared.instr.Phi.{Phi}
use Rattle.ir_model.specs.declared.module.Block.{Block}
use Rattle.ir_model.specs.declared.operand.Operand.{Operand}
use Rattle.pass_edges_proof.specs.run_laws.changed.Changed.{Each}
use Rattle.pass_edges_proof.specs.pass_fetch.Blocks.{end_at, ends_of_blocks, ends_of_incoming, ends_of_phis, next_after_phi, next_after_phis, with_end}
use Rattle.pass_edges_proof.specs.pass_fetch.Fetching.{fetch_into, fetch_of, fetches_by, fetches_of_all, next_after}
use Rattle.pass_edges_proof.specs.pass_fetch.declared.fetch.Fetch.{Fetch}

-- a row that is set
module _ (Q : Instr → Type 0) where
  pub row_set : (ends : List (List Instr)) (label : ℕ) (row : List Instr) (l : ℕ) → Each Q row → Each Q (end_at ends l) → Each Q (end_at (slice_set ends label row) l)
  row_set [] label row l h k = k
  row_set (x ∷ xs) zero row zero h k = h
  row_set (x ∷ xs) zero row (suc l) h k = k
  row_set (x ∷ xs) (suc label) row zero h k = k
  row_set (x ∷ xs) (suc label) row (suc l) h k = row_set xs label row l h k

module _ (Q : Instr → Type 0) (t : List (Option Fetch)) (loads : (n : ℕ) (x : Operand) (fetch : Fetch) → fetch_of t x ≡ Some fetch → Q (fetch_into n fetch)) where
  one_fetched : (n : ℕ) (x : Operand) (o : Option Fetch) → fetch_of t x ≡ o → Each Q (fetches_by n o)
  one_fetched n x None e = tt
  one_fetched n x (Some fetch) e = (loads n x fetch e, tt)

  pub all_fetched : (n : ℕ) (xs : List Operand) → Each Q (fetches_of_all t n xs)
  all_fetched n [] = tt
  all_fetched n (x ∷ xs) = each_behind Q (fetches_by n (fetch_of t x)) (fetches_of_all t (next_after t n x) xs) (one_fetched n x (fetch_of t x) refl) (all_fetched (next_after t n x) xs)

  -- ---- rows

  abbrev pub AllRows : List (List Instr) → Type 0
  AllRows ends = (l : ℕ) → Each Q (end_at ends l)

  end_rows : (ends : List (List Instr)) (label n : ℕ) (x : Operand) (o : Option Fetch) → fetch_of t x ≡ o → AllRows ends → AllRows (with_end ends label n o)
  end_rows ends label n x None e h = h
  end_rows ends label n x (Some fetch) e h = λ l. row_set Q ends label (end_at ends label ++ fetch_into n fetch ∷ []) l (each_behind Q (end_at ends label) (fetch_into n fetch ∷ []) (h label) (loads n x fetch e, tt)) (h l)

  incoming_rows : (n : ℕ) (ends : List (List Instr)) (is : List Incoming) → AllRows ends → AllRows (ends_of_incoming t n ends is)
  incoming_rows n ends [] h = h
  incoming_rows n ends (i ∷ is) h = incoming_rows (next_after t n i.value) (with_end ends i.from n (fetch_of t i.value)) is (end_rows ends i.from n i.value (fetch_of t i.value) refl h)

  phis_rows : (n : ℕ) (ends : List (List Instr)) (ps : List Phi) → AllRows ends → AllRows (ends_of_phis t n ends ps)
  phis_rows n ends [] h = h
  phis_rows n ends (p ∷ ps) h = phis_rows (next_after_phi t n p) (ends_of_incoming t n ends p.incoming) ps (incoming_rows n ends p.incoming h)

  pub blocks_rows : (n : ℕ) (ends : List (List Instr)) (bs : List Block) → AllRows ends → AllRows (ends_of_blocks t n ends bs)
  blocks_rows n ends [] h = h
  blocks_rows n ends (b ∷ bs) h = blocks_rows (next_after_phis t n b.phis) (ends_of_phis t n ends b.phis) bs (phis_rows n ends b.phis h)

  blank_end : (n l : ℕ) → Each Q (end_at (replicate n []) l)
  blank_end zero l = tt
  blank_end (suc n) zero = tt
  blank_end (suc n) (suc l) = blank_end n l

  pub blank_rows : (n : ℕ) → AllRows (replicate n [])
  blank_rows n l = blank_end n l
