-- What holds of all calls by which a function is a coroutine, by the instructions of its blocks.
use Rattle.std.proofs.Common.{◌≡◌, ℕ, zero, suc, ◌+◌, List, [], ◌∷◌, refl, subst, arith}
use Rattle.std.specs.Prelude.{Some, map, slice_get}
use Rattle.ir_laws.proofs.facts.Members.{each_behind}
use Rattle.rule_laws.proofs.rules.renamed.Outside.{each_left, each_right}
use Rattle.ir_laws.specs.ir_model.declared.instr.Instr.{Instr}
use Rattle.ir_laws.specs.ir_model.declared.module.Block.{Block}
use Rattle.ir_laws.specs.run_laws.changed.Changed.{Each}
use Rattle.rule_laws.specs.rules.woven_shape.Calls.{ShapingCall, call_at, calls_in, calls_of_block, joined}

module _ (P : ShapingCall → Type 0) where
  module _ (b : Block) (Q : ℕ → Instr → Type 0) where
    -- what holds of each instruction at its place holds of the calls
    pub gathered : ((at : ℕ) (i : Instr) → Q at i → Each P (call_at b at i)) → (at : ℕ) (is : List Instr) → ((j : ℕ) (i : Instr) → slice_get is j ≡ Some i → Q (at + j) i) → Each P (calls_in b at is)
    gathered turn at [] h = tt
    gathered turn at (i ∷ is) h =
        each_behind P (call_at b at i) (calls_in b (at + 1) is)
        (turn at i (let same : at + 0 ≡ at = omega arith in subst (λ (n : ℕ). Q n i) same (h 0 i refl)))
        (gathered turn (at + 1) is (λ j x e. let same : at + suc j ≡ at + 1 + j = omega arith in subst (λ (n : ℕ). Q n x) same (h (suc j) x e)))

    -- and what holds of the calls holds of each instruction
    pub spread : ((at : ℕ) (i : Instr) → Each P (call_at b at i) → Q at i) → (at : ℕ) (is : List Instr) → Each P (calls_in b at is) → (j : ℕ) (i : Instr) → slice_get is j ≡ Some i → Q (at + j) i
    spread turn at [] h j i e = absurd (cc)
    spread turn at (x ∷ is) h zero i e =
        let same : at ≡ at + 0 = omega arith in
        let one : x ≡ i = cc in
        subst (λ (n : ℕ). Q n i) same (subst (λ (y : Instr). Q at y) one (turn at x (each_left P (call_at b at x) (calls_in b (at + 1) is) h)))
    spread turn at (x ∷ is) h (suc j) i e =
        let same : at + 1 + j ≡ at + suc j = omega arith in
        subst (λ (n : ℕ). Q n i) same (spread turn (at + 1) is (each_right P (call_at b at x) (calls_in b (at + 1) is) h) j i e)

  -- so it is of the calls of blocks
  pub of_rows : (bs : List Block) → ((k : ℕ) (b : Block) → slice_get bs k ≡ Some b → Each P (calls_of_block b)) → Each P (joined (map calls_of_block bs))
  of_rows [] h = tt
  of_rows (b ∷ bs) h = each_behind P (calls_of_block b) (joined (map calls_of_block bs)) (h 0 b refl) (of_rows bs (λ k c e. h (suc k) c e))

  pub to_row : (bs : List Block) → Each P (joined (map calls_of_block bs)) → (k : ℕ) (b : Block) → slice_get bs k ≡ Some b → Each P (calls_of_block b)
  to_row [] h k b e = absurd (cc)
  to_row (c ∷ bs) h zero b e = let one : c ≡ b = cc in subst (λ (x : Block). Each P (calls_of_block x)) one (each_left P (calls_of_block c) (joined (map calls_of_block bs)) h)
  to_row (c ∷ bs) h (suc k) b e = to_row bs (each_right P (calls_of_block c) (joined (map calls_of_block bs)) h) k b e
