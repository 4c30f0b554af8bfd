-- Where slots that are used before begin have temporaries, a function can still be written.
use Rattle.std.proofs.Common.{ℕ, ◌-◌, Bool, true, false, List, [], ◌∷◌, ◌++◌, length, replicate, refl}
use Rattle.std.specs.Prelude.{None, Option, codes, if◌then◌else◌, map, slice_set}
use Rattle.pass_copies.specs.BeginCopies.{after_block, after_blocks, after_instr, begin_copies, behind, block_front, copied_block, copied_blocks, copied_function, copied_instr, copied_instrs, copy, copying_of, entry_front, first_fetched, is_fetched, put, puts, slot_allocas, with_begin_copies}
use Rattle.pass_copies.specs.Slots.{after_slot, early_slot, early_slots, entry_instrs, set_fetches, slot_names, slot_of, slots_from}
use Rattle.pass_copies.specs.Uses.{flag_at, is_begin, still_before, used_before}
use Rattle.pass_copies.specs.declared.copying.Copying.{Copying}
use Rattle.pass_copies.specs.declared.slot.EarlySlot.{EarlySlot}
use Rattle.pass_edges_proof.proofs.ir_laws.facts.Members.{each_joined, joined_names}
use Rattle.ir_model.specs.declared.instr.Instr.{Instr}
use Rattle.ir_model.specs.declared.module.Block.{Block}
use Rattle.ir_model.specs.declared.module.Function.{Function}
use Rattle.pass_fetch_proof.proofs.fetch.spelled.Fetched.{IsSpelledFetch, each_same, each_set, instr_fetched}
use Rattle.pass_fetch_proof.proofs.fetch.spelled.Names.{all_numbered}
use Rattle.pass_fetch_proof.proofs.copies.spelled.Names.{slots_named}
use Rattle.pass_edges_proof.proofs.rule_laws.texts.spelled.Types.{ptr_spelled, truth_spelled, word_spelled}
use Rattle.pass_edges_proof.specs.rule_laws.texts.spelled.Spelled.{IsSpelled}
use Rattle.pass_edges_proof.specs.rule_laws.rules.spelled.Spelled.{IsSpelledBlock, IsSpelledFunction, IsSpelledInstr}
use Rattle.pass_edges_proof.specs.run_laws.changed.Changed.{Each}
use Rattle.pass_edges_proof.specs.pass_fetch.Blocks.{numbered_names}
use Rattle.pass_edges_proof.specs.pass_fetch.Instrs.{fetched_instr}
use Rattle.pass_edges_proof.specs.pass_fetch.declared.fetch.Fetch.{Fetch}

abbrev All : List Instr → Type 0
All is = Each IsSpelledInstr is

both : (xs ys : List Instr) → All xs → All ys → All (xs ++ ys)
both xs ys a b = each_joined IsSpelledInstr xs ys a b

-- ---- the slots

abbrev IsSpelledSlot : EarlySlot → Type 0
IsSpelledSlot s = IsSpelled s.ty

slot_spelled : (used : List Bool) (sizes : List ℕ) (n : ℕ) (i : Instr) → IsSpelledInstr i → Each IsSpelledSlot (slot_of used sizes n i)
slot_spelled used sizes n (Instr.Alloca r ty align) h = on (flag_at used r)
  where
    on : (b : Bool) → Each IsSpelledSlot (if b then early_slot sizes n r ty align ∷ [] else [])
    on true = (h.types.0, tt)
    on false = tt
slot_spelled used sizes n (Instr.Binary r op flags ty left right) h = tt
slot_spelled used sizes n (Instr.Icmp r pred ty left right) h = tt
slot_spelled used sizes n (Instr.Select r c a b) h = tt
slot_spelled used sizes n (Instr.Cast r op nneg arg to) h = tt
slot_spelled used sizes n (Instr.Load r ty address align) h = tt
slot_spelled used sizes n (Instr.Store arg address align) h = tt
slot_spelled used sizes n (Instr.Gep r inbounds ty base indices) h = tt
slot_spelled used sizes n (Instr.Call r must_tail ty callee args) h = tt

slots_spelled : (used : List Bool) (sizes : List ℕ) (n : ℕ) (is : List Instr) → All is → Each IsSpelledSlot (slots_from used sizes n is)
slots_spelled used sizes n [] h = tt
slots_spelled used sizes n (i ∷ is) h =
    each_joined IsSpelledSlot (slot_of used sizes n i) (slots_from used sizes (after_slot used n i) is) (slot_spelled used sizes n i h.0) (slots_spelled used sizes (after_slot used n i) is h.1)

entry_spelled : (bs : List Block) → Each IsSpelledBlock bs → All (entry_instrs bs)
entry_spelled [] h = tt
entry_spelled (b ∷ bs) h = h.0.instrs

table_spelled : (table : List (Option Fetch)) (ss : List EarlySlot) → Each IsSpelledFetch table → Each IsSpelledFetch (set_fetches table ss)
table_spelled table [] h = h
table_spelled table (s ∷ ss) h = table_spelled (slice_set table s.slot _) ss (each_set IsSpelledFetch table s.slot _ h ptr_spelled)

-- ---- what is written

put_spelled : (address cell : ℕ) → IsSpelledInstr (put address cell)
put_spelled address cell = record { types = (ptr_spelled, tt); stands = tt }

copy_spelled : (s : EarlySlot) → IsSpelledInstr (copy s)
copy_spelled s = record { types = (ptr_spelled, (ptr_spelled, (word_spelled, (truth_spelled, tt)))); stands = tt }

allocas_spelled : (ss : List EarlySlot) → Each IsSpelledSlot ss → All (slot_allocas ss)
allocas_spelled [] h = tt
allocas_spelled (s ∷ ss) h = (record { types = (h.0, tt); stands = tt }, (record { types = (ptr_spelled, tt); stands = tt }, allocas_spelled ss h.1))

firsts_spelled : (ss : List EarlySlot) → All (map (λ s. put s.temporary s.cell) ss)
firsts_spelled [] = tt
firsts_spelled (s ∷ ss) = (put_spelled s.temporary s.cell, firsts_spelled ss)

puts_spelled : (ss : List EarlySlot) → All (puts ss)
puts_spelled [] = tt
puts_spelled (s ∷ ss) = (put_spelled s.slot s.cell, puts_spelled ss)

copies_spelled : (ss : List EarlySlot) → All (begin_copies ss)
copies_spelled [] = tt
copies_spelled (s ∷ ss) = (copy_spelled s, (put_spelled s.slot s.cell, copies_spelled ss))

front_spelled : (ss : List EarlySlot) → Each IsSpelledSlot ss → All (entry_front ss)
front_spelled ss h = both (slot_allocas ss) (map (λ s. put s.temporary s.cell) ss) (allocas_spelled ss h) (firsts_spelled ss)

-- ---- instructions and blocks

module _ (c : Copying) (fetches : Each IsSpelledFetch c.fetches) where
  behind_spelled : (i : Instr) → All (behind c i)
  behind_spelled i = on (is_begin i)
    where
      on : (b : Bool) → All (if b then begin_copies c.slots else [])
      on true = copies_spelled c.slots
      on false = tt

  instr_spelled : (is_before : Bool) (n : ℕ) (i : Instr) → IsSpelledInstr i → All (copied_instr c is_before n i)
  instr_spelled is_before n i h = both (if is_fetched is_before i then fetched_instr c.fetches n i else i ∷ []) (behind c i) (on (is_fetched is_before i)) (behind_spelled i)
    where
      on : (b : Bool) → All (if b then fetched_instr c.fetches n i else i ∷ [])
      on true = instr_fetched c.fetches fetches n i h
      on false = (h, tt)

  instrs_spelled : (is_before : Bool) (n : ℕ) (is : List Instr) → All is → All (copied_instrs c is_before n is)
  instrs_spelled is_before n [] h = tt
  instrs_spelled is_before n (i ∷ is) h =
      both (copied_instr c is_before n i) (copied_instrs c (still_before is_before i) (after_instr c is_before n i) is) (instr_spelled is_before n i h.0) (instrs_spelled (still_before is_before i) (after_instr c is_before n i) is h.1)

  resumed_spelled : (label : ℕ) → All (block_front c label)
  resumed_spelled label = on (flag_at c.resumed label)
    where
      on : (b : Bool) → All (if b then puts c.slots else [])
      on true = puts_spelled c.slots
      on false = tt

  block_spelled : (before : List Bool) (front : List Instr) (n : ℕ) (b : Block) → All front → IsSpelledBlock b → IsSpelledBlock (copied_block c before front n b)
  block_spelled before front n b f h =
      record {
        phis = h.phis;
        instrs =
            both (front ++ block_front c b.label) (copied_instrs c (flag_at before b.label) n b.instrs) (both front (block_front c b.label) f (resumed_spelled b.label))
            (instrs_spelled (flag_at before b.label) n b.instrs h.instrs);
        term = h.term;
      }

  blocks_spelled : (before : List Bool) (front : List Instr) (n : ℕ) (bs : List Block) → All front → Each IsSpelledBlock bs → Each IsSpelledBlock (copied_blocks c before front n bs)
  blocks_spelled before front n [] f h = tt
  blocks_spelled before front n (b ∷ bs) f h = (block_spelled before front n b f h.0, blocks_spelled before [] (after_block c before n b) bs tt h.1)

-- ---- the pass

function_spelled : (f : Function) (before : List Bool) (c : Copying) → Each IsSpelledFetch c.fetches → Each IsSpelledSlot c.slots → IsSpelledFunction f → IsSpelledFunction (copied_function f before c)
function_spelled f before c fetches slots h =
    let first : ℕ = first_fetched f c in
    let count : ℕ = after_blocks c before first f.blocks - first in
    record {
      name = h.name;
      result = h.result;
      params = h.params;
      blocks = blocks_spelled c fetches before (entry_front c.slots) first f.blocks (front_spelled c.slots slots) h.blocks;
      names =
          joined_names (f.names ++ slot_names (length c.slots)) (numbered_names (codes "$c.there.") count) (joined_names f.names (slot_names (length c.slots)) h.names (slots_named (length c.slots)))
          (all_numbered (codes "$c.there.") count refl);
    }

pub copies_spelled_in : (f : Function) (slots before : List Bool) (sizes : List ℕ) → IsSpelledFunction f → IsSpelledFunction (with_begin_copies f slots before sizes)
copies_spelled_in f slots before sizes h =
    let ss : List EarlySlot = early_slots f (used_before f slots before) sizes in
    function_spelled f before (copying_of f ss) (table_spelled (replicate (length f.names) None) ss (each_same IsSpelledFetch (length f.names) None tt))
    (slots_spelled (used_before f slots before) sizes (length f.names) (entry_instrs f.blocks) (entry_spelled f.blocks h.blocks)) h
