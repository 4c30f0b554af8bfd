-- The blocks of a function that copies slots at begin, without the markers and the promise that go.
use Rattle.std.proofs.Common.{◌≡◌, ◌⊎◌, inl, ℕ, zero, suc, ◌≤◌, Bool, true, false, List, [], ◌∷◌, ◌++◌, refl, sym, arith}
use Rattle.std.specs.Prelude.{Some, filter, map, slice_get, if◌then◌else◌}
use Rattle.pass_copies.specs.BeginCopies.{after_block, after_instr, after_instrs, block_front, copied_block, copied_blocks, copied_instrs, entry_front, is_fetched}
use Rattle.pass_copies.specs.Uses.{flag_at, still_before}
use Rattle.pass_copies.specs.declared.copying.Copying.{Copying}
use Rattle.pass_exits_proof.proofs.fetch.rules.Puts.{fetch_rises}
use Rattle.pass_addresses.specs.Placing.{stays, turned_block, without_promise_of}
use Rattle.pass_exits_proof.specs.ir_parts.Contents.{instr_operands}
use Rattle.ir_model.specs.declared.instr.Instr.{Instr}
use Rattle.ir_model.specs.declared.module.Block.{Block}
use Rattle.pass_exits_proof.specs.pass_fetch.Instrs.{next_after_instr}

-- ---- blocks of the result

module _ (c : Copying) (early marked : List Bool) where
  instrs_rise : (is_before : Bool) (n : ℕ) (is : List Instr) → n ≤ after_instrs c is_before n is
  instrs_rise is_before n [] = omega arith
  instrs_rise is_before n (i ∷ is) =
      let next : ℕ = after_instr c is_before n i in
      let here : n ≤ next = on (is_fetched is_before i) in
      let more : next ≤ after_instrs c (still_before is_before i) next is = instrs_rise (still_before is_before i) next is in
      omega (arith, here, more)
    where
      on : (b : Bool) → n ≤ (if b then next_after_instr c.fetches n i else n)
      on true = fetch_rises c.fetches n (instr_operands i)
      on false = omega arith

  -- the instructions of a block with the copies
  abbrev pub with_copies : List Instr → ℕ → Block → List Instr
  with_copies front n b = front ++ block_front c b.label ++ copied_instrs c (flag_at early b.label) n b.instrs

  abbrev pub left_block : Block → Block
  left_block b = turned_block (map without_promise_of) (turned_block (filter (stays marked)) b)

  abbrev left_blocks : List Block → List Block
  left_blocks bs = map (turned_block (map without_promise_of)) (map (turned_block (filter (stays marked))) bs)

  -- the block of the result is one of the function's with copies, of which some instructions are left
  pub record IsCopyOf (first : ℕ) (bs : List Block) (at : ℕ) (d : Block) : Type 0 where
    pub block : Block
    pub front : List Instr
    pub next : ℕ
    pub there : slice_get bs at ≡ Some block
    pub fronts : (front ≡ []) ⊎ (front ≡ entry_front c.slots)
    pub low : first ≤ next
    pub same : d ≡ left_block (copied_block c early front next block)

  copy_behind : (first : ℕ) (b : Block) (bs : List Block) (at : ℕ) (d : Block) → IsCopyOf first bs at d → IsCopyOf first (b ∷ bs) (suc at) d
  copy_behind first b bs at d x = record { block = x.block; front = x.front; next = x.next; there = x.there; fronts = x.fronts; low = x.low; same = x.same }

  pub copy_there : (first : ℕ) (front : List Instr) (n : ℕ) (bs : List Block) (at : ℕ) (d : Block) → (front ≡ []) ⊎ (front ≡ entry_front c.slots) → first ≤ n → slice_get (left_blocks (copied_blocks c early front n bs)) at ≡ Some d → IsCopyOf first bs at d
  copy_there first front n [] at d fronts low e = absurd (cc)
  copy_there first front n (b ∷ bs) zero d fronts low e =
      let same : left_block (copied_block c early front n b) ≡ d = cc in
      record { block = b; front = front; next = n; there = refl; fronts = fronts; low = low; same = sym same }
  copy_there first front n (b ∷ bs) (suc at) d fronts low e =
      let up : n ≤ after_block c early n b = instrs_rise (flag_at early b.label) n b.instrs in
      copy_behind first b bs at d (copy_there first [] (after_block c early n b) bs at d (inl refl) (omega (arith, low, up)) e)
