-- What a module's functions call by name.
use Rattle.std.proofs.Common.{◌≡◌, ℕ, zero, suc, Bool, true, false, List, [], ◌∷◌, ◌++◌, refl, sym, ap, ◌∙◌, inl, inr, Some, None, Option}
use Rattle.std.specs.List.{list_any}
use Rattle.std.specs.Prelude.{slice_get, ◌||◌}
use Rattle.ir_base.specs.declared.name.Name.{Name}
use Rattle.ir_model.specs.Ty.{Ty}
use Rattle.ir_model.specs.declared.instr.Instr.{Instr}
use Rattle.ir_model.specs.declared.module.Block.{Block}
use Rattle.ir_model.specs.declared.module.Function.{Function}
use Rattle.ir_model.specs.declared.operand.Arg.{Arg}
use Rattle.ir_model.specs.declared.operand.Callee.{Callee}
use Rattle.pass_split.specs.Given.{called_by, called_from, called_in, called_names}
use Rattle.pass_split.specs.declared.given.CalledName.{CalledName}
use Rattle.pass_proofs.specs.flow_solver.Paths.{IsListed}

-- ---- one of two lists

module _ {A : Type 0} (t : A → Bool) where
  any_left : (xs ys : List A) → list_any t xs ≡ true → list_any t (xs ++ ys) ≡ true
  any_left [] ys e = absurd (cc)
  any_left (x ∷ xs) ys e = on (t x) (any_left xs ys) e
    where
      on : (b : Bool) → (list_any t xs ≡ true → list_any t (xs ++ ys) ≡ true) → (b || list_any t xs) ≡ true
          → (b || list_any t (xs ++ ys)) ≡ true
      on true more d = refl
      on false more d = more d

  any_right : (xs ys : List A) → list_any t ys ≡ true → list_any t (xs ++ ys) ≡ true
  any_right [] ys e = e
  any_right (x ∷ xs) ys e = on (t x) (any_right xs ys e)
    where
      on : (b : Bool) → list_any t (xs ++ ys) ≡ true → (b || list_any t (xs ++ ys)) ≡ true
      on true more = refl
      on false more = more

-- ---- what is called

module _ (t : CalledName → Bool) where
  by_one : (r : Option ℕ) (must_tail : Bool) (ty : Option Ty) (x : Name) (args : List Arg)
      → t (record { name = x }) ≡ true → list_any t (called_by (Instr.Call r must_tail ty (Callee.Named x) args)) ≡ true
  by_one r must_tail ty x args e = ap (λ (b : Bool). b || false) e

  in_instrs : (is : List Instr) (i : Instr) → list_any t (called_by i) ≡ true → IsListed i is
      → list_any t (called_in is) ≡ true
  in_instrs [] i e l = absurd l
  in_instrs (j ∷ is) i e (inl same) =
      any_left t (called_by j) (called_in is) (ap (λ (k : Instr). list_any t (called_by k)) (sym same) ∙ e)
  in_instrs (j ∷ is) i e (inr l) = any_right t (called_by j) (called_in is) (in_instrs is i e l)

  in_blocks : (bs : List Block) (k : ℕ) (b : Block) → slice_get bs k ≡ Some b → list_any t (called_in b.instrs) ≡ true
      → list_any t (called_from bs) ≡ true
  in_blocks [] k b there e = absurd (cc)
  in_blocks (c ∷ bs) zero b there e =
      let is_one : c ≡ b = cc in
      any_left t (called_in c.instrs) (called_from bs)
      (ap (λ (x : Block). list_any t (called_in x.instrs)) is_one ∙ e)
  in_blocks (c ∷ bs) (suc k) b there e =
      any_right t (called_in c.instrs) (called_from bs) (in_blocks bs k b there e)

  pub in_functions : (fs : List Function) (k : ℕ) (f : Function) → slice_get fs k ≡ Some f
      → list_any t (called_from f.blocks) ≡ true → list_any t (called_names fs) ≡ true
  in_functions [] k f there e = absurd (cc)
  in_functions (g ∷ fs) zero f there e =
      let is_one : g ≡ f = cc in
      any_left t (called_from g.blocks) (called_names fs)
      (ap (λ (x : Function). list_any t (called_from x.blocks)) is_one ∙ e)
  in_functions (g ∷ fs) (suc k) f there e =
      any_right t (called_from g.blocks) (called_names fs) (in_functions fs k f there e)

  -- an instruction of a block of a function
  pub is_called : (fs : List Function) (k block : ℕ) (f : Function) (b : Block) (r : Option ℕ) (must_tail : Bool)
      (ty : Option Ty) (x : Name) (args : List Arg) → slice_get fs k ≡ Some f → slice_get f.blocks block ≡ Some b
      → IsListed (Instr.Call r must_tail ty (Callee.Named x) args) b.instrs → t (record { name = x }) ≡ true
      → list_any t (called_names fs) ≡ true
  is_called fs k block f b r must_tail ty x args there stands l e =
      in_functions fs k f there
      (in_blocks f.blocks block b stands
      (in_instrs b.instrs (Instr.Call r must_tail ty (Callee.Named x) args) (by_one r must_tail ty x args e) l))
