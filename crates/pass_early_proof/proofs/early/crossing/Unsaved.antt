-- Where things are in a block whose saves are written out.
use Rattle.std.proofs.Common.{◌≡◌, ℕ, zero, suc, ◌+◌, ◌≤◌, ◌⊎◌, inl, inr, Bool, true, false, List, [], ◌∷◌, ◌++◌, length, refl, ap, arith}
use Rattle.std.specs.Prelude.{Some, slice_get, if◌then◌else◌}
use Rattle.pass_early.specs.Early.{save_call, saved}
use Rattle.ir_model.specs.declared.instr.Instr.{Instr}
use Rattle.ir_model.specs.declared.module.Block.{Block}
use Rattle.pass_early_proof.proofs.early.saves.Instrs.{name_at}
use Rattle.pass_early_proof.specs.early.saves.SavesWritten.{behind_save, behind_saves, is_bare, with_save, with_saves}
use Rattle.pass_early_proof.specs.early.saves.Spots.{number_of_block, own_saves, place_in}

-- ---- names of saves

module _ (c : Bool) where
  more_one : (n : ℕ) (i : Instr) → n ≤ behind_save c n i
  more_one n i = on (is_bare c i)
    where
      on : (b : Bool) → n ≤ (if b then n + 1 else n)
      on true = omega arith
      on false = omega arith

  more_saves : (n : ℕ) (is : List Instr) → n ≤ behind_saves c n is
  more_saves n [] = omega arith
  more_saves n (i ∷ is) =
      let one = more_one n i in
      let rest = more_saves (behind_save c n i) is in
      omega (arith, one, rest)

  pub more_block : (k n : ℕ) (bs : List Block) → n ≤ number_of_block c k n bs
  more_block zero n bs = omega arith
  more_block (suc k) n [] = omega arith
  more_block (suc k) n (b ∷ bs) =
      let one = more_saves n b.instrs in
      let rest = more_block k (behind_saves c n b.instrs) bs in
      omega (arith, one, rest)

  pub more_name : (k n : ℕ) (is : List Instr) → n ≤ name_at c k n is
  more_name zero n is = omega arith
  more_name (suc k) n [] = omega arith
  more_name (suc k) n (i ∷ is) =
      let one = more_one n i in
      let rest = more_name k (behind_save c n i) is in
      omega (arith, one, rest)

  -- ---- each instruction is what one becomes

  -- an instruction of the block, of which this is the first or the last that it becomes
  pub record IsFrom (n : ℕ) (is : List Instr) (x : ℕ) : Type 0 where
    pub at : ℕ
    pub is_at : (x ≡ place_in c at n is) ⊎ (x ≡ place_in c at n is + own_saves c (slice_get is at))

  pub each_from : (n : ℕ) (is : List Instr) (x : ℕ) (j : Instr) → slice_get (with_saves c n is) x ≡ Some j → IsFrom n is x
  each_from n [] x j e = absurd (cc)
  each_from n (i ∷ is) x j e = on (is_bare c i) refl e (λ y d. each_from (behind_save c n i) is y j d)
    where
      further : (b : Bool) → is_bare c i ≡ b → (z y : ℕ) → z ≡ length (if b then save_call n ∷ saved n i ∷ [] else i ∷ []) + y → IsFrom (behind_save c n i) is y → IsFrom n (i ∷ is) z
      further b d z y w h = record { at = suc h.at; is_at = moved h.is_at }
        where
          long : length (with_save c n i) ≡ length (if b then save_call n ∷ saved n i ∷ [] else i ∷ [])
          long = ap (λ (t : Bool). length (if t then save_call n ∷ saved n i ∷ [] else i ∷ [])) d

          moved : (y ≡ place_in c h.at (behind_save c n i) is) ⊎ (y ≡ place_in c h.at (behind_save c n i) is + own_saves c (slice_get is h.at)) → (z ≡ place_in c (suc h.at) n (i ∷ is)) ⊎ (z ≡ place_in c (suc h.at) n (i ∷ is) + own_saves c (slice_get is h.at))
          moved (inl s) = inl (omega (arith, w, s, long))
          moved (inr s) = inr (omega (arith, w, s, long))

      on : (b : Bool) → is_bare c i ≡ b → slice_get ((if b then save_call n ∷ saved n i ∷ [] else i ∷ []) ++ with_saves c (behind_save c n i) is) x ≡ Some j → ((y : ℕ) → slice_get (with_saves c (behind_save c n i) is) y ≡ Some j → IsFrom (behind_save c n i) is y) → IsFrom n (i ∷ is) x
      on true d e again = two x e
        where
          own : own_saves c (Some i) ≡ 1
          own = ap (λ (t : Bool). if t then 1 else 0) d

          two : (x : ℕ) → slice_get (save_call n ∷ saved n i ∷ with_saves c (behind_save c n i) is) x ≡ Some j → IsFrom n (i ∷ is) x
          two zero e = record { at = 0; is_at = inl refl }
          two (suc zero) e = record { at = 0; is_at = inr (omega (arith, own)) }
          two (suc (suc y)) e = further true d (suc (suc y)) y (omega arith) (again y e)
      on false d e again = one x e
        where
          one : (x : ℕ) → slice_get (i ∷ with_saves c (behind_save c n i) is) x ≡ Some j → IsFrom n (i ∷ is) x
          one zero e = record { at = 0; is_at = inl refl }
          one (suc y) e = further false d (suc y) y (omega arith) (again y e)
