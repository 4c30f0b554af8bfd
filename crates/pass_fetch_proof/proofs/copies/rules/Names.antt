-- The new names of temporaries, cells and fetches stand once.
use Rattle.std.proofs.Common.{◌≡◌, ℕ, ◌+◌, ◌*◌, ◌≤◌, Bool, true, false, List, [], ◌∷◌, ◌++◌, length, refl, ap, arith}
use Rattle.std.specs.Prelude.{map, ◌==◌, if◌then◌else◌}
use Rattle.pass_copies.specs.BeginCopies.{after_block, after_blocks, after_instr, after_instrs, begin_copies, behind, block_front, copied_block, copied_blocks, copied_instr, copied_instrs, entry_front, is_fetched, put, puts, slot_allocas}
use Rattle.pass_copies.specs.Uses.{flag_at, is_begin, still_before}
use Rattle.pass_copies.specs.declared.copying.Copying.{Copying}
use Rattle.pass_copies.specs.declared.slot.EarlySlot.{EarlySlot}
use Rattle.pass_fetch_proof.proofs.copies.rules.Slots.{AreNumbered}
use Rattle.pass_edges_proof.specs.rule_uses.Uses.{block_values}
use Rattle.pass_edges_proof.proofs.rule_laws.rules.source_rules.Locals.{block_names, made_by}
use Rattle.pass_edges_proof.proofs.ir_laws.facts.Lists.{phi_names, row_of, times_joined}
use Rattle.pass_fetch_proof.proofs.fetch.rules.Times.{made, made_both, made_instr, most_one, not_under, under, under_step}
use Rattle.ir_model.specs.declared.instr.Instr.{Instr}
use Rattle.ir_model.specs.declared.module.Block.{Block}
use Rattle.pass_edges_proof.specs.pass_fetch.Instrs.{fetched_instr, next_after_instr}
use Rattle.pass_edges_proof.proofs.rule_laws.rules.woven_rules.Once.{times_block}
use Rattle.pass_edges_proof.specs.rule_laws.rules.woven_rules.Blocks.{times_made}
use Rattle.pass_edges_proof.specs.ir_laws.facts.woven_rules.Pairs.{one_if, times}

module _ (c : Copying) (v : ℕ) where
  abbrev Made : List Instr → ℕ
  Made is = made c.fetches v is

  abbrev Under : ℕ → ℕ
  Under n = under c.fetches v n

  -- ---- what makes nothing

  stores_none : (address : EarlySlot → ℕ) (ss : List EarlySlot) → Made (map (λ (s : EarlySlot). put (address s) s.cell) ss) ≡ 0
  stores_none address [] = refl
  stores_none address (s ∷ ss) = stores_none address ss

  copies_none : (ss : List EarlySlot) → Made (begin_copies ss) ≡ 0
  copies_none [] = refl
  copies_none (s ∷ ss) = copies_none ss

  behind_none : (i : Instr) → Made (behind c i) ≡ 0
  behind_none i = on (is_begin i)
    where
      on : (b : Bool) → Made (if b then begin_copies c.slots else []) ≡ 0
      on true = copies_none c.slots
      on false = refl

  block_front_none : (label : ℕ) → Made (block_front c label) ≡ 0
  block_front_none label = on (flag_at c.resumed label)
    where
      on : (b : Bool) → Made (if b then puts c.slots else []) ≡ 0
      on true = stores_none (λ s. s.slot) c.slots
      on false = refl

  -- ---- the front

  allocas_made : (n : ℕ) (ss : List EarlySlot) → AreNumbered n ss → Made (slot_allocas ss) + Under n ≡ Under (n + 2 * length ss)
  allocas_made n [] h = let e : n + 0 ≡ n = omega arith in let d : Under (n + 0) ≡ Under n = ap (under c.fetches v) e in omega (arith, d)
  allocas_made n (s ∷ ss) h =
      let rest : Made (slot_allocas ss) + Under (n + 2) ≡ Under (n + 2 + 2 * length ss) = allocas_made (n + 2) ss h.1.1 in
      let a : one_if (n == v) + Under n ≡ Under (n + 1) = under_step c.fetches v n in
      let b : one_if (n + 1 == v) + Under (n + 1) ≡ Under (n + 1 + 1) = under_step c.fetches v (n + 1) in
      let temporary : one_if (s.temporary == v) ≡ one_if (n == v) = ap (λ (k : ℕ). one_if (k == v)) h.0 in
      let cell : one_if (s.cell == v) ≡ one_if (n + 1 == v) = ap (λ (k : ℕ). one_if (k == v)) h.1.0 in
      let two : n + 1 + 1 ≡ n + 2 = omega arith in
      let same : Under (n + 1 + 1) ≡ Under (n + 2) = ap (under c.fetches v) two in
      let size : n + 2 * length (s ∷ ss) ≡ n + 2 + 2 * length ss = omega arith in
      let last : Under (n + 2 * length (s ∷ ss)) ≡ Under (n + 2 + 2 * length ss) = ap (under c.fetches v) size in
      omega (arith, rest, a, b, temporary, cell, same, last)

  front_made : (n : ℕ) (ss : List EarlySlot) → AreNumbered n ss → Made (entry_front ss) + Under n ≡ Under (n + 2 * length ss)
  front_made n ss h =
      let stores : List Instr = map (λ (s : EarlySlot). put s.temporary s.cell) ss in
      let a : Made (slot_allocas ss) + Under n ≡ Under (n + 2 * length ss) = allocas_made n ss h in
      let b : Made (slot_allocas ss ++ stores) ≡ Made (slot_allocas ss) + Made stores = made_both c.fetches v (slot_allocas ss) stores in
      let d : Made stores ≡ 0 = stores_none (λ s. s.temporary) ss in
      omega (arith, a, b, d)

  -- ---- instructions

  instr_made : (is_before : Bool) (n : ℕ) (i : Instr) → times v (made_by i) ≡ 0 → Made (copied_instr c is_before n i) + Under n ≡ Under (after_instr c is_before n i)
  instr_made is_before n i none =
      let one : List Instr = if is_fetched is_before i then fetched_instr c.fetches n i else i ∷ [] in
      let a : Made (one ++ behind c i) ≡ Made one + Made (behind c i) = made_both c.fetches v one (behind c i) in
      let b : Made (behind c i) ≡ 0 = behind_none i in
      let d : Made one + Under n ≡ Under (after_instr c is_before n i) = on (is_fetched is_before i) in
      omega (arith, a, b, d)
    where
      on : (b : Bool) → Made (if b then fetched_instr c.fetches n i else i ∷ []) + Under n ≡ Under (if b then next_after_instr c.fetches n i else n)
      on true = made_instr c.fetches v n i none
      on false = let e : times v (made_by i ++ []) ≡ times v (made_by i) + 0 = times_joined v (made_by i) [] in omega (arith, e, none)

  instrs_made : (is_before : Bool) (n : ℕ) (is : List Instr) → Made is ≡ 0 → Made (copied_instrs c is_before n is) + Under n ≡ Under (after_instrs c is_before n is)
  instrs_made is_before n [] none = omega arith
  instrs_made is_before n (i ∷ is) none =
      let d : times v (made_by i ++ row_of made_by is) ≡ times v (made_by i) + Made is = times_joined v (made_by i) (row_of made_by is) in
      let here : times v (made_by i) ≡ 0 = omega (arith, d, none) in
      let rest : Made is ≡ 0 = omega (arith, d, none) in
      let next : ℕ = after_instr c is_before n i in
      let later : Bool = still_before is_before i in
      let a : Made (copied_instr c is_before n i) + Under n ≡ Under next = instr_made is_before n i here in
      let b : Made (copied_instrs c later next is) + Under next ≡ Under (after_instrs c later next is) = instrs_made later next is rest in
      let e : Made (copied_instr c is_before n i ++ copied_instrs c later next is) ≡ Made (copied_instr c is_before n i) + Made (copied_instrs c later next is) = made_both c.fetches v (copied_instr c is_before n i) (copied_instrs c later next is) in
      omega (arith, a, b, e)

  -- ---- blocks

  block_made : (before : List Bool) (front : List Instr) (n : ℕ) (b : Block) → times v (block_names b) ≡ 0 → times v (block_values (copied_block c before front n b)) + Under n ≡ Under (after_block c before n b) + Made front
  block_made before front n b none =
      let d : Block = copied_block c before front n b in
      let fs : List Instr = block_front c b.label in
      let is : List Instr = copied_instrs c (flag_at before b.label) n b.instrs in
      let names : times v (phi_names b.phis ++ row_of made_by b.instrs) ≡ times v (phi_names b.phis) + Made b.instrs = times_joined v (phi_names b.phis) (row_of made_by b.instrs) in
      let whole : one_if (b.label == v) + times v (phi_names b.phis ++ row_of made_by b.instrs) ≡ 0 = none in
      let old_phis : times v (phi_names b.phis) ≡ 0 = omega (arith, names, whole) in
      let old_instrs : Made b.instrs ≡ 0 = omega (arith, names, whole) in
      let a : times v (block_values d) ≡ times v (phi_names b.phis) + Made d.instrs = times_block v d in
      let e : Made ((front ++ fs) ++ is) ≡ Made (front ++ fs) + Made is = made_both c.fetches v (front ++ fs) is in
      let g : Made (front ++ fs) ≡ Made front + Made fs = made_both c.fetches v front fs in
      let h : Made fs ≡ 0 = block_front_none b.label in
      let i : Made is + Under n ≡ Under (after_block c before n b) = instrs_made (flag_at before b.label) n b.instrs old_instrs in
      omega (arith, old_phis, a, e, g, h, i)

  blocks_made : (before : List Bool) (n : ℕ) (bs : List Block) → times v (row_of block_names bs) ≡ 0 → times_made v (copied_blocks c before [] n bs) + Under n ≡ Under (after_blocks c before n bs)
  blocks_made before n [] none = omega arith
  blocks_made before n (b ∷ bs) none =
      let d : times v (block_names b ++ row_of block_names bs) ≡ times v (block_names b) + times v (row_of block_names bs) = times_joined v (block_names b) (row_of block_names bs) in
      let here : times v (block_names b) ≡ 0 = omega (arith, d, none) in
      let rest : times v (row_of block_names bs) ≡ 0 = omega (arith, d, none) in
      let next : ℕ = after_block c before n b in
      let a : times v (block_values (copied_block c before [] n b)) + Under n ≡ Under next + 0 = block_made before [] n b here in
      let e : times_made v (copied_blocks c before [] next bs) + Under next ≡ Under (after_blocks c before next bs) = blocks_made before next bs rest in
      omega (arith, a, e)

  -- a new name is made at most once
  pub copies_once : (before : List Bool) (first : ℕ) (bs : List Block) → first ≤ v → AreNumbered first c.slots → times v (row_of block_names bs) ≡ 0 → times_made v (copied_blocks c before (entry_front c.slots) (first + 2 * length c.slots) bs) ≤ 1
  copies_once before first [] low h none = omega arith
  copies_once before first (b ∷ bs) low h none =
      let d : times v (block_names b ++ row_of block_names bs) ≡ times v (block_names b) + times v (row_of block_names bs) = times_joined v (block_names b) (row_of block_names bs) in
      let here : times v (block_names b) ≡ 0 = omega (arith, d, none) in
      let rest : times v (row_of block_names bs) ≡ 0 = omega (arith, d, none) in
      let n : ℕ = first + 2 * length c.slots in
      let next : ℕ = after_block c before n b in
      let a : times v (block_values (copied_block c before (entry_front c.slots) n b)) + Under n ≡ Under next + Made (entry_front c.slots) = block_made before (entry_front c.slots) n b here in
      let e : times_made v (copied_blocks c before [] next bs) + Under next ≡ Under (after_blocks c before next bs) = blocks_made before next bs rest in
      let g : Made (entry_front c.slots) + Under first ≡ Under n = front_made first c.slots h in
      let i : Under first ≡ 0 = not_under c.fetches v first low in
      let most : Under (after_blocks c before next bs) ≤ 1 = most_one c.fetches v (after_blocks c before next bs) in
      omega (arith, a, e, g, i, most)
