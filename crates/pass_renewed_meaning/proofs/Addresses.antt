-- A getelementptr of an address in a slot gives one.
use Rattle.std.proofs.Common.{◌≡◌, ℕ, zero, suc, inl, inr, Bool, List, [], ◌∷◌, ◌++◌, Some, None}
use Rattle.std.proofs.Common.{refl, sym, ap, ◌∙◌, subst}
use Rattle.std.specs.Prelude.{IsTrue, flat_map, slice_get}
use Rattle.run_types.proofs.flow_facts.Chained.{IsAddress, address-complete, address-sound}
use Rattle.run_types.specs.flow_facts.Chains.{bases_by, bases_in}
use Rattle.run_types.specs.flow_solver.Paths.{IsListed}
use Rattle.run_types.specs.ir_model.Ty.{Ty}
use Rattle.run_types.specs.ir_model.declared.instr.Instr.{Instr}
use Rattle.run_types.specs.ir_model.declared.module.Block.{Block}
use Rattle.run_types.specs.ir_model.declared.module.Function.{Function}
use Rattle.run_types.specs.ir_model.declared.operand.Arg.{Arg}
use Rattle.run_types.specs.ir_model.declared.operand.Operand.{Operand}
use Rattle.run_types.specs.ir_paths.Slots.{addresses_of, has_name}
use Rattle.run_types.specs.ir_paths.Windows.{instr_in}
use Rattle.run_types.specs.ir_paths.declared.point.Point.{Point}
use Rattle.run_types.specs.run_step.Step.{AtInstr, fetch}
use Rattle.run_types.proofs.pass_renewed_proof.Left.{instr_there}

listed_left : {A : Type 0} (xs ys : List A) (x : A) → IsListed x xs → IsListed x (xs ++ ys)
listed_left [] ys x h = absurd h
listed_left (z ∷ xs) ys x (inl e) = inl e
listed_left (z ∷ xs) ys x (inr h) = inr (listed_left xs ys x h)

listed_right : {A : Type 0} (xs ys : List A) (x : A) → IsListed x ys → IsListed x (xs ++ ys)
listed_right [] ys x h = h
listed_right (z ∷ xs) ys x h = inr (listed_right xs ys x h)

module _ (name : ℕ) (inbounds : Bool) (ty : Ty) (u : ℕ) (indices : List Arg) where
  abbrev gep : Instr
  gep = Instr.Gep name inbounds ty (Operand.Local u) indices

  more : (i : Instr) (is : List Instr) → IsListed (name, u) (bases_in is) → IsListed (name, u) (bases_in (i ∷ is))
  more (Instr.Gep r b t (Operand.Local v) args) is h = inr h
  more (Instr.Gep r b t (Operand.Global v) args) is h = h
  more (Instr.Gep r b t (Operand.Number v) args) is h = h
  more (Instr.Gep r b t Operand.True args) is h = h
  more (Instr.Gep r b t Operand.False args) is h = h
  more (Instr.Gep r b t Operand.Null args) is h = h
  more (Instr.Gep r b t Operand.None args) is h = h
  more (Instr.Gep r b t Operand.Poison args) is h = h
  more (Instr.Alloca r t align) is h = h
  more (Instr.Binary r op flags t a b) is h = h
  more (Instr.Icmp r pred t a b) is h = h
  more (Instr.Select r c a b) is h = h
  more (Instr.Cast r op nneg arg to) is h = h
  more (Instr.Load r t address align) is h = h
  more (Instr.Store arg address align) is h = h
  more (Instr.Call r tail t callee args) is h = h

  in_block : (is : List Instr) (at : ℕ) → slice_get is at ≡ Some gep → IsListed (name, u) (bases_in is)
  in_block [] at e = absurd (cc)
  in_block (i ∷ is) zero e = subst (λ j. IsListed (name, u) (bases_in (j ∷ is))) (sym (same i gep e)) (inl refl)
    where
      same : (x y : Instr) → Some x ≡ Some y → x ≡ y
      same x y e = cc
  in_block (i ∷ is) (suc at) e = more i is (in_block is at e)

  in_blocks : (bs : List Block) (block at : ℕ) → instr_in (slice_get bs block) at ≡ Some gep
      → IsListed (name, u) (bases_by bs)
  in_blocks [] block at e = absurd (cc)
  in_blocks (b ∷ bs) zero at e = listed_left (bases_in b.instrs) (flat_map (λ b. bases_in b.instrs) bs) (name, u)
      (in_block b.instrs at e)
  in_blocks (b ∷ bs) (suc block) at e = listed_right (bases_in b.instrs) (flat_map (λ b. bases_in b.instrs) bs) (name, u)
      (in_blocks bs block at e)

  pub address_on : (f : Function) (a : ℕ) (p : Point) → fetch f p.block p.at ≡ AtInstr gep
      → IsTrue (has_name (addresses_of f a) u) → IsTrue (has_name (addresses_of f a) name)
  address_on f a p here is = address-complete f a name (IsAddress.Next u name (in_blocks f.blocks p.block p.at
      (instr_there f p gep here)) (address-sound f a u is))
