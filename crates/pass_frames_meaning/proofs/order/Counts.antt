-- How many new names fetches take, up to an instruction and in all.
use Rattle.std.proofs.Common.{◌≡◌, ℕ, zero, suc, ◌+◌, ◌≤◌, List, [], ◌∷◌, ◌++◌, length, Option, Some, None, refl, subst, arith, length-append}
use Rattle.std.specs.Prelude.{◌-◌, slice_get, take}
use Rattle.pass_frames_proof.specs.ir_model.declared.instr.Instr.{Instr}
use Rattle.pass_frames_proof.specs.ir_model.declared.module.Block.{Block}
use Rattle.pass_frames_proof.specs.ir_model.declared.module.Function.{Function}
use Rattle.pass_frames_proof.specs.ir_model.declared.operand.Operand.{Operand}
use Rattle.pass_frames_proof.specs.ir_parts.Contents.{instr_operands}
use Rattle.pass_frames_proof.specs.pass_fetch.Blocks.{next_after_block, next_after_blocks, next_after_phis_by, numbered_names, with_fetches}
use Rattle.pass_frames_proof.specs.pass_fetch.Fetching.{fetch_of, next_after, next_after_all, next_by}
use Rattle.pass_frames_proof.specs.pass_fetch.Instrs.{next_after_instr, next_after_instrs, term_operands}
use Rattle.pass_frames_proof.specs.pass_fetch.declared.fetch.Fetch.{Fetch}
use Rattle.pass_frames_proof.specs.Passes.{fetched_first}
use Rattle.pass_frames_proof.proofs.pass_proofs.cells.rules.Counts.{by_phis_rise}
use Rattle.pass_frames_proof.proofs.pass_proofs.cells.rules.Totals.{blocks_rise, numbered_length}
use Rattle.pass_frames_proof.proofs.pass_proofs.fetch.rules.Puts.{fetch_rises}

module _ (t : List (Option Fetch)) where
  one_more : (n : ℕ) (x : Operand) → next_after t n x ≡ n + next_after t 0 x
  one_more n x = on (fetch_of t x)
    where
      on : (o : Option Fetch) → next_by n o ≡ n + next_by 0 o
      on None = omega arith
      on (Some f) = omega arith

  counted : (n : ℕ) (xs : List Operand) → next_after_all t n xs ≡ n + next_after_all t 0 xs
  counted n [] = omega arith
  counted n (x ∷ xs) =
      let a : next_after_all t (next_after t n x) xs ≡ next_after t n x + next_after_all t 0 xs =
      counted (next_after t n x) xs in
      let b : next_after_all t (next_after t 0 x) xs ≡ next_after t 0 x + next_after_all t 0 xs =
      counted (next_after t 0 x) xs in
      let c : next_after t n x ≡ n + next_after t 0 x = one_more n x in
      omega (arith, a, b, c)

  pub further : (n m : ℕ) (xs : List Operand) → n ≤ m → next_after_all t n xs ≤ next_after_all t m xs
  further n m xs le =
      let a : next_after_all t n xs ≡ n + next_after_all t 0 xs = counted n xs in
      let b : next_after_all t m xs ≡ m + next_after_all t 0 xs = counted m xs in
      omega (arith, a, b, le)

  pub instrs_up : (n : ℕ) (is : List Instr) → n ≤ next_after_instrs t n is
  instrs_up n [] = omega arith
  instrs_up n (i ∷ is) =
      let here : n ≤ next_after_instr t n i = fetch_rises t n (instr_operands i) in
      let more : next_after_instr t n i ≤ next_after_instrs t (next_after_instr t n i) is =
      instrs_up (next_after_instr t n i) is in
      omega (arith, here, more)

  -- one among them takes no more than all
  pub among : (n : ℕ) (ys : List Instr) (j : Instr) (zs : List Instr)
      → next_after_all t n (instr_operands j) ≤ next_after_instrs t n (ys ++ j ∷ zs)
  among n [] j zs = instrs_up (next_after_instr t n j) zs
  among n (y ∷ ys) j zs =
      let here : n ≤ next_after_instr t n y = fetch_rises t n (instr_operands y) in
      let far : next_after_all t n (instr_operands j)
      ≤ next_after_all t (next_after_instr t n y) (instr_operands j) =
      further n (next_after_instr t n y) (instr_operands j) here in
      let more : next_after_all t (next_after_instr t n y) (instr_operands j)
      ≤ next_after_instrs t (next_after_instr t n y) (ys ++ j ∷ zs) = among (next_after_instr t n y) ys j zs in
      omega (arith, far, more)

  pub joined : (n : ℕ) (xs ys : List Instr)
      → next_after_instrs t n (xs ++ ys) ≡ next_after_instrs t (next_after_instrs t n xs) ys
  joined n [] ys = refl
  joined n (x ∷ xs) ys = joined (next_after_instr t n x) xs ys

  pub at_one : (n : ℕ) (is : List Instr) (at : ℕ) (i : Instr) → slice_get is at ≡ Some i
      → next_after_all t (next_after_instrs t n (take at is)) (instr_operands i) ≤ next_after_instrs t n is
  at_one n [] at i e = absurd (cc)
  at_one n (y ∷ is) zero i e =
      let same : y ≡ i = cc in
      subst (λ (j : Instr). next_after_all t n (instr_operands j) ≤ next_after_instrs t n (y ∷ is)) same
      (instrs_up (next_after_instr t n y) is)
  at_one n (y ∷ is) (suc at) i e = at_one (next_after_instr t n y) is at i e

  pub blocks_to : (n : ℕ) (bs : List Block) (k : ℕ) (b : Block) → slice_get bs k ≡ Some b
      → next_after_block t (next_after_blocks t n (take k bs)) b ≤ next_after_blocks t n bs
  blocks_to n [] k b e = absurd (cc)
  blocks_to n (c ∷ bs) zero b e =
      let same : c ≡ b = cc in
      subst (λ (d : Block). next_after_block t n d ≤ next_after_blocks t n (c ∷ bs)) same
      (blocks_rise 0 t [] (next_after_block t n c) bs)
  blocks_to n (c ∷ bs) (suc k) b e = blocks_to (next_after_block t n c) bs k b e

  -- ---- of a function

  module _ (f : Function) (word : List ℕ) where
    abbrev second : ℕ
    second = next_after_phis_by t (length f.names) f.blocks

    abbrev last : ℕ
    last = next_after_blocks t second f.blocks

    pub up_to_second : length f.names ≤ second
    up_to_second = by_phis_rise 0 t (length f.names) f.blocks

    pub names_count : length (with_fetches f t word).names ≡ last
    names_count =
        let a : length f.names ≤ second = up_to_second in
        let b : second ≤ last = blocks_rise 0 t [] second f.blocks in
        let long : length (numbered_names word (last - length f.names)) ≡ last - length f.names =
        numbered_length word (last - length f.names) in
        let sum : length (f.names ++ numbered_names word (last - length f.names))
        ≡ length f.names + length (numbered_names word (last - length f.names)) =
        length-append f.names (numbered_names word (last - length f.names)) in
        omega (arith, a, b, long, sum)

    pub first_low : (k : ℕ) → length f.names ≤ fetched_first f t k
    first_low k =
        let a : length f.names ≤ second = up_to_second in
        let b : second ≤ next_after_blocks t second (take k f.blocks) = blocks_rise 0 t [] second (take k f.blocks) in
        omega (arith, a, b)

    pub instrs_to : (k : ℕ) (b : Block) → slice_get f.blocks k ≡ Some b
        → next_after_instrs t (fetched_first f t k) b.instrs ≤ length (with_fetches f t word).names
    instrs_to k b e =
        let a : next_after_instrs t (fetched_first f t k) b.instrs ≤ next_after_block t (fetched_first f t k) b =
        fetch_rises t (next_after_instrs t (fetched_first f t k) b.instrs) (term_operands b.term) in
        let c : next_after_block t (fetched_first f t k) b ≤ last = blocks_to second f.blocks k b e in
        let l : length (with_fetches f t word).names ≡ last = names_count in
        omega (arith, a, c, l)
