-- What is fetched by a table sets names below a bound.
use Rattle.std.proofs.Common.{◌≡◌, ℕ, ◌<◌, ◌≤◌, List, [], ◌∷◌, ◌++◌, length, Option, Some, None, arith}
use Rattle.std.specs.Prelude.{map, replicate, slice_get}
use Rattle.pass_frames_proof.proofs.ir_laws.facts.Members.{each_joined}
use Rattle.pass_frames_proof.specs.ir_model.declared.instr.Incoming.{Incoming}
use Rattle.pass_frames_proof.specs.ir_model.declared.instr.Instr.{Instr}
use Rattle.pass_frames_proof.specs.ir_model.declared.instr.Phi.{Phi}
use Rattle.pass_frames_proof.specs.ir_model.declared.module.Block.{Block}
use Rattle.pass_frames_proof.specs.ir_model.declared.operand.Operand.{Operand}
use Rattle.pass_frames_proof.specs.ir_parts.Contents.{result_of}
use Rattle.pass_frames_proof.specs.pass_cells.Cells.{fetches_of}
use Rattle.pass_frames_proof.specs.pass_fetch.Blocks.{end_at, ends_of_blocks, ends_of_incoming, ends_of_phis, next_after_phi, next_after_phis, next_after_phis_by, with_end}
use Rattle.pass_frames_proof.specs.pass_fetch.Fetching.{fetch_into, fetch_of, fetches_by, fetches_of as fetches_of_one, fetches_of_all, next_after, next_after_all, next_by}
use Rattle.pass_frames_proof.specs.pass_fetch.Instrs.{term_operands}
use Rattle.pass_frames_proof.specs.pass_fetch.declared.fetch.Fetch.{Fetch}
use Rattle.pass_frames_meaning.proofs.ends.Counted.{fetched_written, loads_fit, phis_fetched, unmarked_low}
use Rattle.pass_frames_proof.proofs.code.Left.{all_by, blocks_by}
use Rattle.pass_frames_proof.specs.Code.{address_state, end_addresses, end_code, end_loads, last_state, load_name, slot_table}
use Rattle.pass_frames_proof.specs.Framings.{IsFraming}
use Rattle.pass_frames_proof.specs.Led.{IsNotSet}
use Rattle.pass_frames_proof.specs.Passes.{block_at, phi_ends}
use Rattle.pass_frames_proof.specs.Places.{Framing, edged, fetched, named, plan, unmarked, written}
use Rattle.pass_frames_proof.proofs.pass_proofs.fetch.begin_order.Rows.{row_set}
use Rattle.pass_frames_proof.proofs.pass_proofs.fetch.rules.Ends.{blocks_rise, phis_rise}
use Rattle.pass_frames_proof.proofs.pass_proofs.fetch.shape.Fetching.{no_rows}
use Rattle.pass_frames_proof.proofs.pass_proofs.fetch.rules.Puts.{fetch_rises}
use Rattle.pass_frames_proof.specs.run_laws.changed.Changed.{Each}

module _ (t : List (Option Fetch)) (P : Instr → Type 0) (most : ℕ)
    (one : (n : ℕ) (f : Fetch) → n < most → P (fetch_into n f)) where
  to_fetch : (n : ℕ) (o : Option Fetch) → next_by n o ≤ most → Each P (fetches_by n o)
  to_fetch n None fit = tt
  to_fetch n (Some f) fit = (one n f (omega (arith, fit)), tt)

  pub all_to : (n : ℕ) (xs : List Operand) → next_after_all t n xs ≤ most → Each P (fetches_of_all t n xs)
  all_to n [] fit = tt
  all_to n (y ∷ xs) fit =
      let more : next_after t n y ≤ next_after_all t (next_after t n y) xs = fetch_rises t (next_after t n y) xs in
      each_joined P (fetches_of_one t n y) (fetches_of_all t (next_after t n y) xs)
      (to_fetch n (fetch_of t y) (omega (arith, more, fit))) (all_to (next_after t n y) xs fit)

  abbrev AllIn : List (List Instr) → Type 0
  AllIn rows = (l : ℕ) → Each P (end_at rows l)

  end_to : (rows : List (List Instr)) (label n : ℕ) (o : Option Fetch) → next_by n o ≤ most → AllIn rows
      → AllIn (with_end rows label n o)
  end_to rows label n None fit h = h
  end_to rows label n (Some f) fit h = λ l.
      row_set P rows label (end_at rows label ++ fetch_into n f ∷ []) l
      (each_joined P (end_at rows label) (fetch_into n f ∷ []) (h label) (one n f (omega (arith, fit)), tt)) (h l)

  incoming_to : (n : ℕ) (rows : List (List Instr)) (is : List Incoming)
      → next_after_all t n (map (λ (i : Incoming). i.value) is) ≤ most → AllIn rows
      → AllIn (ends_of_incoming t n rows is)
  incoming_to n rows [] fit h = h
  incoming_to n rows (i ∷ is) fit h =
      let more : next_after t n i.value
      ≤ next_after_all t (next_after t n i.value) (map (λ (j : Incoming). j.value) is) =
      fetch_rises t (next_after t n i.value) (map (λ (j : Incoming). j.value) is) in
      incoming_to (next_after t n i.value) (with_end rows i.from n (fetch_of t i.value)) is fit
      (end_to rows i.from n (fetch_of t i.value) (omega (arith, more, fit)) h)

  phis_to : (n : ℕ) (rows : List (List Instr)) (ps : List Phi) → next_after_phis t n ps ≤ most → AllIn rows
      → AllIn (ends_of_phis t n rows ps)
  phis_to n rows [] fit h = h
  phis_to n rows (p ∷ ps) fit h =
      let more : next_after_phi t n p ≤ next_after_phis t (next_after_phi t n p) ps =
      phis_rise t (next_after_phi t n p) ps in
      phis_to (next_after_phi t n p) (ends_of_incoming t n rows p.incoming) ps fit
      (incoming_to n rows p.incoming (omega (arith, more, fit)) h)

  pub blocks_to : (n : ℕ) (rows : List (List Instr)) (bs : List Block) → next_after_phis_by t n bs ≤ most → AllIn rows
      → AllIn (ends_of_blocks t n rows bs)
  blocks_to n rows [] fit h = h
  blocks_to n rows (b ∷ bs) fit h =
      let more : next_after_phis t n b.phis ≤ next_after_phis_by t (next_after_phis t n b.phis) bs =
      blocks_rise t (next_after_phis t n b.phis) bs in
      blocks_to (next_after_phis t n b.phis) (ends_of_phis t n rows b.phis) bs fit
      (phis_to n rows b.phis (omega (arith, more, fit)) h)

-- ---- the end of a block

result_is : (n : ℕ) (f : Fetch) (u : ℕ) → result_of (fetch_into n f) ≡ Some u → n ≡ u
result_is n (Fetch.Load ty cell) u e = cc
result_is n (Fetch.Address base distance) u e = cc

module _ (x : Framing) (is : IsFraming x) (k : ℕ)
    (here : slice_get (edged x).blocks k ≡ Some (block_at (edged x) k)) (u : ℕ)
    (low : length (written x).names ≤ u) (high : u < length (unmarked x).names) where
  abbrev T : List (Option Fetch)
  T = fetches_of (plan x)

  abbrev S : List (Option Fetch)
  S = slot_table x

  abbrev P : Instr → Type 0
  P = IsNotSet u

  not_low : (n : ℕ) (f : Fetch) → n < length (fetched x).names → P (fetch_into n f)
  not_low n f lt e =
      let same = result_is n f u e in
      let a = fetched_written x is k here in
      omega (arith, lt, same, a, low)

  not_high : (n : ℕ) (y : Operand) (f : Fetch) → length (unmarked x).names ≤ n → fetch_of S y ≡ Some f
      → P (fetch_into n f)
  not_high n y f le found e = let same = result_is n f u e in omega (arith, le, same, high)

  loads_off : Each P (end_loads x k (last_state x k))
  loads_off =
      each_joined P (end_at (phi_ends (named x) T) (block_at (edged x) k).label)
      (fetches_of_all T (load_name (last_state x k)) (term_operands (block_at (edged x) k).term))
      (blocks_to T P (length (fetched x).names) not_low (length (named x).names)
      (replicate (length (named x).names) []) (named x).blocks (phis_fetched x is k here)
      (no_rows T P (length (named x).names)) (block_at (edged x) k).label)
      (all_to T P (length (fetched x).names) not_low (load_name (last_state x k))
      (term_operands (block_at (edged x) k).term) (loads_fit x is k here))

  addresses_off : Each P (end_addresses x k (last_state x k))
  addresses_off =
      each_joined P (end_at (phi_ends (unmarked x) S) (block_at (unmarked x) k).label)
      (fetches_of_all S (address_state (last_state x k)).0 (term_operands (block_at (unmarked x) k).term))
      (blocks_by S P (length (unmarked x).names) not_high (length (unmarked x).names)
      (replicate (length (unmarked x).names) []) (unmarked x).blocks (omega arith)
      (no_rows S P (length (unmarked x).names)) (block_at (unmarked x) k).label)
      (all_by S P (length (unmarked x).names) not_high (address_state (last_state x k)).0
      (term_operands (block_at (unmarked x) k).term) (unmarked_low x is k here))

  pub end_unset : Each (IsNotSet u) (end_code x k (last_state x k))
  end_unset =
      each_joined P (end_loads x k (last_state x k)) (end_addresses x k (last_state x k)) loads_off addresses_off
