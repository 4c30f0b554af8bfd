-- What a resume costs with all slots that its activation makes anew: all allocas in front of the entry.
use Rattle.std.proofs.Common.{◌≡◌, ℕ, zero, suc, ◌+◌, ◌-◌, ◌≤◌, Bool, true, false, List, [], ◌∷◌, ◌++◌, length, refl, ap, ◌∙◌, arith}
use Rattle.std.proofs.lemmas.List.{length-append}
use Rattle.std.specs.Prelude.{None, Option, Some, drop, if◌then◌else◌, option_map, slice_get}
use Rattle.pass_frames_proof.specs.ir_model.Names.{first_where}
use Rattle.pass_frames_proof.specs.ir_model.declared.instr.Instr.{Instr}
use Rattle.pass_frames_proof.specs.ir_model.declared.module.Block.{Block}
use Rattle.pass_frames_proof.proofs.entering.Stand.{all_counted, parts_between}
use Rattle.pass_frames_proof.specs.Costs.{allocas_before, slot_cost}
use Rattle.pass_frames_proof.specs.Entering.{allocas_up_to, front_allocas}
use Rattle.pass_frames_proof.specs.Passes.{block_at}
use Rattle.pass_frames_proof.specs.Places.{Framing, edged}
use Rattle.pass_frames_proof.specs.pass_renewed_proof.Prices.{slots_from, slots_in}
use Rattle.pass_frames_proof.specs.pass_renewed_proof.Renewed.{is_renewed, renewed_in}

drop_tail : (xs js : List Instr) (i : Instr) (k : ℕ) → drop k xs ≡ i ∷ js → drop (suc k) xs ≡ js
drop_tail [] js i zero e = absurd (cc)
drop_tail [] js i (suc k) e = absurd (cc)
drop_tail (y ∷ ys) js i zero e = let same : ys ≡ js = cc in same
drop_tail (y ∷ ys) js i (suc k) e = drop_tail ys js i k e

module _ (flags : ℕ → Bool) where
  abbrev first_from : ℕ → List Instr → Option ℕ
  first_from k [] = None
  first_from k (i ∷ js) = if is_renewed flags i then Some k else first_from (suc k) js

  first_is : (k : ℕ) (js : List Instr)
      → option_map (λ j. k + j) (first_where (is_renewed flags) js) ≡ first_from k js
  first_is k [] = refl
  first_is k (i ∷ js) = on (is_renewed flags i) (first_where (is_renewed flags) js) (first_is (suc k) js)
    where
      shifted : (o : Option ℕ) → option_map (λ j. k + j) (option_map suc o) ≡ option_map (λ j. suc k + j) o
      shifted None = refl
      shifted (Some j) = let same : k + suc j ≡ suc k + j = omega arith in ap (λ (n : ℕ). Some n) same

      on : (b : Bool) (o : Option ℕ) → option_map (λ j. suc k + j) o ≡ first_from (suc k) js
          → option_map (λ j. k + j) (if b then Some 0 else option_map suc o)
          ≡ (if b then Some k else first_from (suc k) js)
      on true o h = let same : k + 0 ≡ k = omega arith in ap (λ (n : ℕ). Some n) same
      on false o h = shifted o ∙ h

  module _ (b : Block) (before : Option ℕ → ℕ) (rises : (k n : ℕ) → k ≤ n → before (Some k) ≤ before (Some n))
      (below : (k : ℕ) → before (Some k) ≤ before None) where
    abbrev price : ℕ → ℕ
    price at = before (renewed_in flags (Some b) (at + 1)) - before (Some at)

    above : (k n : ℕ) (js : List Instr) → k ≤ n → before (Some k) ≤ before (first_from n js)
    above k n [] le = below k
    above k n (i ∷ js) le = on (is_renewed flags i) (above k (suc n) js (omega (arith, le)))
      where
        on : (c : Bool) → before (Some k) ≤ before (first_from (suc n) js)
            → before (Some k) ≤ before (if c then Some n else first_from (suc n) js)
        on true h = rises k n le
        on false h = h

    all_paid : (k : ℕ) (js : List Instr) → drop k b.instrs ≡ js
        → before (first_from k js) + slots_from price flags k js ≤ before None
    all_paid k [] e = omega arith
    all_paid k (i ∷ js) e =
        on (is_renewed flags i) (all_paid (suc k) js (drop_tail b.instrs js i k e))
      where
        next : renewed_in flags (Some b) (k + 1) ≡ first_from (suc k) js
        next =
            let one : k + 1 ≡ suc k = omega arith in
            ap (renewed_in flags (Some b)) one
            ∙ ap (λ (is : List Instr). option_map (λ j. suc k + j) (first_where (is_renewed flags) is))
            (drop_tail b.instrs js i k e)
            ∙ first_is (suc k) js

        on : (c : Bool) → before (first_from (suc k) js) + slots_from price flags (suc k) js ≤ before None
            → before (if c then Some k else first_from (suc k) js)
            + ((if c then price k else 0) + slots_from price flags (suc k) js) ≤ before None
        on true h =
            let a : before (renewed_in flags (Some b) (k + 1)) ≡ before (first_from (suc k) js) = ap before next in
            let c = above k (suc k) js (omega arith) in
            omega (arith, a, c, h)
        on false h = omega (arith, h)

    pub block_paid : before (renewed_in flags (Some b) 0) + slots_in price flags (Some b) ≤ before None
    block_paid =
        let a : before (renewed_in flags (Some b) 0) ≡ before (first_from 0 b.instrs) =
        ap before (first_is 0 b.instrs) in
        let c = all_paid 0 b.instrs refl in
        omega (arith, a, c)

-- ---- in a coroutine

module _ (x : Framing) (there : slice_get (edged x).blocks 0 ≡ Some (block_at (edged x) 0)) where
  rises : (k n : ℕ) → k ≤ n → allocas_before x (Some k) ≤ allocas_before x (Some n)
  rises k n le =
      let h = parts_between x k n le in
      let a : length (allocas_up_to x n) ≡ length (allocas_up_to x k ++ h.line) = ap length h.next_is in
      let b = length-append (allocas_up_to x k) h.line in
      omega (arith, a, b)

  below : (k : ℕ) → allocas_before x (Some k) ≤ allocas_before x None
  below k =
      let h = parts_between x k k (omega arith) in
      let a : length (front_allocas x) ≡ length (allocas_up_to x k ++ (h.line ++ h.behind)) = ap length h.is in
      let b = length-append (allocas_up_to x k) (h.line ++ h.behind) in
      let c = all_counted x there in
      omega (arith, a, b, c)

  pub slots_paid : (flags : ℕ → Bool) (b : Block)
      → allocas_before x (renewed_in flags (Some b) 0)
      + slots_in (λ k. slot_cost x k (renewed_in flags (Some b) (k + 1))) flags (Some b) ≤ allocas_before x None
  slots_paid flags b = block_paid flags b (allocas_before x) rises below
