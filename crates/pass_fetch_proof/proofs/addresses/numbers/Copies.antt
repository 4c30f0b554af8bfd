-- What copies slots at begin has no suspends, and none goes where slots become bytes of the frame.
use Rattle.std.proofs.Common.{◌≡◌, ℕ, ◌+◌, Bool, true, false, List, [], ◌∷◌, ◌++◌, refl, ◌∙◌, arith}
use Rattle.std.specs.Prelude.{codes, filter, map, Option, if◌then◌else◌}
use Rattle.pass_copies.specs.BeginCopies.{after_block, after_instr, begin_copies, behind, block_front, copied_block, copied_blocks, copied_instr, copied_instrs, copying_of, entry_front, first_fetched, is_fetched, put, puts, slot_allocas, with_begin_copies}
use Rattle.pass_copies.specs.Slots.{early_slots}
use Rattle.pass_copies.specs.Uses.{flag_at, is_begin, still_before, used_before}
use Rattle.pass_copies.specs.declared.copying.Copying.{Copying}
use Rattle.pass_copies.specs.declared.slot.EarlySlot.{EarlySlot}
use Rattle.pass_addresses.specs.Placing.{lies_outside, slot_fetches, stays, turned_block, with_frame_addresses, without_markers, without_promise, without_promise_of}
use Rattle.pass_edges_proof.proofs.rule_laws.frames.suspend_counts.Counted.{count, joined, one, total}
use Rattle.pass_fetch_proof.proofs.fetch.numbers.Fetched.{fetched_total, instr_same}
use Rattle.ir_model.specs.declared.instr.Instr.{Instr}
use Rattle.ir_model.specs.declared.module.Block.{Block}
use Rattle.ir_model.specs.declared.module.Function.{Function}
use Rattle.ir_model.specs.declared.operand.Callee.{Callee}
use Rattle.ir_model.specs.declared.operand.Intrinsic.{Intrinsic}
use Rattle.pass_edges_proof.specs.pass_fetch.Blocks.{with_fetches}
use Rattle.pass_edges_proof.specs.pass_fetch.Instrs.{fetched_instr}

-- ---- copies at begin

puts_none : (ss : List EarlySlot) → count (puts ss) ≡ 0
puts_none [] = refl
puts_none (s ∷ ss) = let rest = puts_none ss in let all : 0 + count (puts ss) ≡ 0 = omega (arith, rest) in all

temporaries_none : (ss : List EarlySlot) → count (map (λ (s : EarlySlot). put s.temporary s.cell) ss) ≡ 0
temporaries_none [] = refl
temporaries_none (s ∷ ss) = let rest = temporaries_none ss in let all : 0 + count (map (λ (s : EarlySlot). put s.temporary s.cell) ss) ≡ 0 = omega (arith, rest) in all

allocas_none : (ss : List EarlySlot) → count (slot_allocas ss) ≡ 0
allocas_none [] = refl
allocas_none (s ∷ ss) = let rest = allocas_none ss in let all : 0 + (0 + count (slot_allocas ss)) ≡ 0 = omega (arith, rest) in all

copies_none : (ss : List EarlySlot) → count (begin_copies ss) ≡ 0
copies_none [] = refl
copies_none (s ∷ ss) = let rest = copies_none ss in let all : 0 + (0 + count (begin_copies ss)) ≡ 0 = omega (arith, rest) in all

entry_none : (ss : List EarlySlot) → count (entry_front ss) ≡ 0
entry_none ss =
    let both = joined (slot_allocas ss) (map (λ (s : EarlySlot). put s.temporary s.cell) ss) in
    let first = allocas_none ss in
    let second = temporaries_none ss in
    omega (arith, both, first, second)

module _ (c : Copying) where
  behind_none : (i : Instr) → count (behind c i) ≡ 0
  behind_none i = on (is_begin i)
    where
      on : (b : Bool) → count (if b then begin_copies c.slots else []) ≡ 0
      on true = copies_none c.slots
      on false = refl

  front_none : (label : ℕ) → count (block_front c label) ≡ 0
  front_none label = on (flag_at c.resumed label)
    where
      on : (b : Bool) → count (if b then puts c.slots else []) ≡ 0
      on true = puts_none c.slots
      on false = refl

  own_counted : (is_before : Bool) (n : ℕ) (i : Instr) → count (if is_fetched is_before i then fetched_instr c.fetches n i else i ∷ []) ≡ one i
  own_counted is_before n i = on (is_fetched is_before i)
    where
      on : (b : Bool) → count (if b then fetched_instr c.fetches n i else i ∷ []) ≡ one i
      on true = instr_same c.fetches n i
      on false = let same : one i + 0 ≡ one i = omega arith in same

  instrs_counted : (is_before : Bool) (n : ℕ) (is : List Instr) → count (copied_instrs c is_before n is) ≡ count is
  instrs_counted is_before n [] = refl
  instrs_counted is_before n (i ∷ is) =
      let all = joined (copied_instr c is_before n i) (copied_instrs c (still_before is_before i) (after_instr c is_before n i) is) in
      let first = joined (if is_fetched is_before i then fetched_instr c.fetches n i else i ∷ []) (behind c i) in
      let own = own_counted is_before n i in
      let behind = behind_none i in
      let rest = instrs_counted (still_before is_before i) (after_instr c is_before n i) is in
      omega (arith, all, first, own, behind, rest)

  block_counted : (before : List Bool) (front : List Instr) (n : ℕ) (b : Block) → count front ≡ 0 → count (copied_block c before front n b).instrs ≡ count b.instrs
  block_counted before front n b none =
      let all = joined (front ++ block_front c b.label) (copied_instrs c (flag_at before b.label) n b.instrs) in
      let first = joined front (block_front c b.label) in
      let again = front_none b.label in
      let rest = instrs_counted (flag_at before b.label) n b.instrs in
      omega (arith, none, all, first, again, rest)

  blocks_counted : (before : List Bool) (front : List Instr) (n : ℕ) (bs : List Block) → count front ≡ 0 → total (copied_blocks c before front n bs) ≡ total bs
  blocks_counted before front n [] none = refl
  blocks_counted before front n (b ∷ bs) none =
      let first = block_counted before front n b none in
      let rest = blocks_counted before [] (after_block c before n b) bs refl in
      λ k. first k + rest k

pub copies_total : (f : Function) (slots before : List Bool) (sizes : List ℕ) → total (with_begin_copies f slots before sizes).blocks ≡ total f.blocks
copies_total f slots before sizes =
    let c : Copying = copying_of f (early_slots f (used_before f slots before) sizes) in
    blocks_counted (copying_of f (early_slots f (used_before f slots before) sizes)) before (entry_front c.slots) (first_fetched f c) f.blocks (entry_none c.slots)

-- ---- addresses

-- where instructions go or change, suspends stay
pub turned_total : (turned : List Instr → List Instr) → ((is : List Instr) → count (turned is) ≡ count is) → (bs : List Block) → total (map (turned_block turned) bs) ≡ total bs
turned_total turned same [] = refl
turned_total turned same (b ∷ bs) = let first = same b.instrs in let rest = turned_total turned same bs in λ k. first k + rest k

filtered : (test : Instr → Bool) → ((i : Instr) → test i ≡ false → one i ≡ 0) → (is : List Instr) → count (filter test is) ≡ count is
filtered test others [] = refl
filtered test others (i ∷ is) = on (test i) refl (filtered test others is)
  where
    on : (b : Bool) → test i ≡ b → count (filter test is) ≡ count is → count (if b then i ∷ filter test is else filter test is) ≡ one i + count is
    on true e again = λ k. one i + again k
    on false e again = let none = others i e in omega (arith, none, again)

markers_go : (marked : List Bool) (i : Instr) → stays marked i ≡ false → one i ≡ 0
markers_go marked (Instr.Call r must_tail ty (Callee.Intrinsic Intrinsic.CoroSuspend) args) e = let no : true ≡ false = e in absurd (cc)
markers_go marked _ e = refl

slots_go : (offsets : List (Option ℕ)) (i : Instr) → lies_outside offsets i ≡ false → one i ≡ 0
slots_go offsets (Instr.Call r must_tail ty (Callee.Intrinsic Intrinsic.CoroSuspend) args) e = let no : true ≡ false = e in absurd (cc)
slots_go offsets _ e = refl

promise_one : (i : Instr) → one (without_promise_of i) ≡ one i
promise_one (Instr.Call r must_tail ty (Callee.Intrinsic Intrinsic.CoroId) args) = refl
promise_one _ = refl

promise_count : (is : List Instr) → count (map without_promise_of is) ≡ count is
promise_count [] = refl
promise_count (i ∷ is) = let first = promise_one i in let rest = promise_count is in λ k. first k + rest k

pub placed_total : (f : Function) (begin : ℕ) (offsets : List (Option ℕ)) (marked : List Bool) → total (with_frame_addresses f begin offsets marked).blocks ≡ total f.blocks
placed_total f begin offsets marked =
    turned_total (filter (lies_outside offsets)) (filtered (lies_outside offsets) (slots_go offsets)) (with_fetches (without_promise (without_markers marked f)) (slot_fetches begin offsets) (codes "$c.at.")).blocks
    ∙ fetched_total (slot_fetches begin offsets) (without_promise (without_markers marked f)) (codes "$c.at.")
    ∙ turned_total (map without_promise_of) promise_count (without_markers marked f).blocks
    ∙ turned_total (filter (stays marked)) (filtered (stays marked) (markers_go marked)) f.blocks
