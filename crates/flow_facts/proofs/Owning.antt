-- The allocas that pass a test.
use Rattle.std.proofs.Common.{◌≡◌, ℕ, List, [], ◌∷◌, ◌++◌, refl, ap, sym, ◌∙◌, Option}
use Rattle.std.specs.Prelude.{filter, flat_map}
use Rattle.std.proofs.lemmas.List.Elements.{filter-append}
use Rattle.ir_model.specs.declared.instr.Instr.{Instr}
use Rattle.ir_model.specs.declared.module.Block.{Block}
use Rattle.flow_points.specs.ir_paths.Slots.{allocas_in}
use Rattle.flow_facts.specs.Slots.{is_own, own_in}

allocas_in_cons : (i : Instr) (is : List Instr) → allocas_in (i ∷ is) ≡ allocas_in (i ∷ []) ++ allocas_in is
allocas_in_cons (Instr.Alloca name ty align) is = refl
allocas_in_cons (Instr.Binary r op flags ty left right) is = refl
allocas_in_cons (Instr.Icmp r pred ty left right) is = refl
allocas_in_cons (Instr.Select r c a b) is = refl
allocas_in_cons (Instr.Cast r op nneg arg to) is = refl
allocas_in_cons (Instr.Load r ty address align) is = refl
allocas_in_cons (Instr.Store arg address align) is = refl
allocas_in_cons (Instr.Gep r inbounds ty base indices) is = refl
allocas_in_cons (Instr.Call r must_tail ty callee args) is = refl

pub own_in_cons : (promise : Option ℕ) (words : List ℕ) (i : Instr) (is : List Instr) → own_in promise words (i ∷ is) ≡ own_in promise words (i ∷ []) ++ own_in promise words is
own_in_cons promise words i is =
    ap (filter (is_own promise words)) (allocas_in_cons i is)
    ∙ filter-append (is_own promise words) (allocas_in (i ∷ [])) (allocas_in is)

-- those of blocks, and of all their allocas
pub own_by : (promise : Option ℕ) (words : List ℕ) (bs : List Block) → flat_map (λ b. own_in promise words b.instrs) bs ≡ filter (is_own promise words) (flat_map (λ b. allocas_in b.instrs) bs)
own_by promise words [] = refl
own_by promise words (b ∷ bs) =
    ap (λ (l : List ℕ). own_in promise words b.instrs ++ l) (own_by promise words bs)
    ∙ sym (filter-append (is_own promise words) (allocas_in b.instrs) (flat_map (λ b. allocas_in b.instrs) bs))
