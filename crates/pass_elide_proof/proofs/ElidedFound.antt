-- What is found in the elided module, and what stands at places of it.
use Rattle.std.proofs.Common.{◌≡◌, ◌<◌, ◌+◌, ℕ, zero, suc, Bool, true, false, List, [], ◌∷◌, length, Option, refl, sym, ap, ◌∙◌, subst, arith, if◌then◌else◌}
use Rattle.std.specs.Prelude.{None, Some, option_map, slice_get, ◌==◌, ℤ}
use Rattle.pass_elide.specs.Elided.{elided_function, elided_functions, frame_in}
use Rattle.pass_elide_proof.proofs.Modules.{finds_alike}
use Rattle.pass_elide_proof.specs.Elision.{Elision, elided_code}
use Rattle.pass_elide_proof.specs.Places.{instrs_in, instrs_of}
use Rattle.pass_proofs.specs.frame_layout.declared.layout.Layout.{Layout}
use Rattle.pass_proofs.specs.ir_base.declared.name.Name.{Name}
use Rattle.pass_proofs.specs.ir_base.declared.outcome.Place.{Place}
use Rattle.pass_proofs.specs.ir_model.Names.{declaration_named, first_where, function_named, global_named, same_name}
use Rattle.pass_proofs.specs.ir_model.Ty.{Ty, array, int, named, ptr, structure, token}
use Rattle.pass_proofs.specs.ir_model.declared.instr.Instr.{Instr}
use Rattle.pass_proofs.specs.ir_model.declared.module.Block.{Block}
use Rattle.pass_proofs.specs.ir_model.declared.module.Function.{Function}
use Rattle.pass_proofs.specs.ir_model.declared.module.GlobalItem.{GlobalItem}
use Rattle.pass_proofs.specs.ir_model.declared.module.Module.{Module}
use Rattle.pass_proofs.specs.ir_model.declared.operand.Arg.{Arg}
use Rattle.pass_proofs.specs.ir_model.declared.operand.Operand.{Operand}
use Rattle.pass_proofs.specs.run_laws.embedded.Making.{whole_home}
use Rattle.pass_proofs.specs.run_laws.memory.Pointers.{Home, IsValue, home_of}
use Rattle.pass_proofs.specs.run_memory.Pointers.{moved, offset_of}
use Rattle.pass_proofs.specs.run_memory.declared.pointer.Pointer.{Pointer}
use Rattle.pass_proofs.specs.run_memory.declared.pointer.Value.{Value}
use Rattle.pass_proofs.specs.run_step.Step.{AtInstr, fetch, fetch_in, fetch_or, fits_function}
use Rattle.pass_proofs.specs.run_step.Values.{Env, address_from, address_of, literal, operand_value, pointer_to, value_in}

-- ---- places

pub fetched : (f : Function) (block at : ℕ) (i : Instr) → slice_get (instrs_of f block) at ≡ Some i
    → fetch f block at ≡ AtInstr i
fetched f block at i there = on (slice_get f.blocks block) there
  where
    on : (o : Option Block) → slice_get (instrs_in o) at ≡ Some i → fetch_in o at ≡ AtInstr i
    on None there = absurd (cc)
    on (Some b) there = ap (λ (o : Option Instr). fetch_or o (at == length b.instrs) b.term) there

pub first_within : {A : Type 0} (test : A → Bool) (xs : List A) (k : ℕ) → first_where test xs ≡ Some k
    → k < length xs
first_within test [] k e = absurd (cc)
first_within test (x ∷ xs) k e = on (test x) (first_where test xs) e (first_within test xs)
  where
    on : (b : Bool) (o : Option ℕ) → (if b then Some 0 else option_map suc o) ≡ Some k
        → ((j : ℕ) → o ≡ Some j → j < length xs) → k < suc (length xs)
    on true o e again = let first : 0 ≡ k = cc in omega (arith, first)
    on false None e again = absurd (cc)
    on false (Some j) e again =
        let rest = again j refl in
        let next : suc j ≡ k = cc in omega (arith, rest, next)

-- ---- functions

module _ (m : Module) (ls : List Layout) (sites : List Place) where
  there : (s : ℕ) (fs : List Function) (k : ℕ)
      → slice_get (elided_functions m ls sites s fs) k
      ≡ option_map (λ (f : Function). elided_function (frame_in m ls sites (s + k) f) f) (slice_get fs k)
  there s [] k = refl
  there s (f ∷ fs) zero =
      let at : s ≡ s + 0 = omega arith in
      λ i. Some (elided_function (frame_in m ls sites (at i) f) f)
  there s (f ∷ fs) (suc k) =
      let at : s + 1 + k ≡ s + suc k = omega arith in
      there (s + 1) fs k
      ∙ ap (λ (n : ℕ). option_map (λ (f : Function). elided_function (frame_in m ls sites n f) f) (slice_get fs k)) at

  many : (s : ℕ) (fs : List Function) → length (elided_functions m ls sites s fs) ≡ length fs
  many s [] = refl
  many s (f ∷ fs) = ap suc (many (s + 1) fs)

module _ (e : Elision) where
  -- a function has the same type
  pub fits_same : (ty : Option Ty) (args : List Arg) (func : ℕ)
      → fits_function ty args (slice_get (elided_code e).functions func)
      ≡ fits_function ty args (slice_get e.code.functions func)
  fits_same ty args func =
      ap (fits_function ty args) (there e.code e.layouts.coroutines e.sites 0 e.code.functions func)
      ∙ on (slice_get e.code.functions func)
    where
      on : (o : Option Function)
          → fits_function ty args (option_map (λ (f : Function). elided_function (frame_in e.code e.layouts.coroutines
          e.sites (0 + func) f) f) o)
          ≡ fits_function ty args o
      on None = refl
      on (Some f) = refl

  -- ---- operands

  module _ (homes : List Home)
      (globals : (n : ℕ) → n < length e.code.globals → home_of homes n ≡ whole_home n) where
    block_stands : (n : ℕ) → n < length e.code.globals → IsValue homes (pointer_to n) (pointer_to n)
    block_stands n lt = (
      ap (λ (q : Home). q.is_seen) (globals n lt),
      ap (λ (q : Home). Value.Ptr (Pointer.At q.block (moved (offset_of 0) q.offset))) (sym (globals n lt)),
    )

    abbrev count : ℕ
    count = length (elided_code e).functions

    same_count : count ≡ length e.code.functions
    same_count = many e.code e.layouts.coroutines e.sites 0 e.code.functions

    address_stands : (n : Name) → IsValue homes (address_of e.code n) (address_of (elided_code e) n)
    address_stands n =
        subst (λ (o : Option ℕ). IsValue homes (address_of e.code n) (address_from (elided_code e) o
        (global_named e.code n) (declaration_named e.code n))) (sym ((finds_alike e).named n))
        (on (function_named e.code n) (global_named e.code n) (declaration_named e.code n) refl)
      where
        on : (f g d : Option ℕ) → global_named e.code n ≡ g
            → IsValue homes (address_from e.code f g d) (address_from (elided_code e) f g d)
        on (Some f) g d is = (tt, refl)
        on None (Some g) d is = block_stands g (first_within (λ (x : GlobalItem). same_name x.name n) e.code.globals g
            is)
        on None None (Some d) is = (tt, ap (λ (k : ℕ). Value.Ptr (Pointer.Func (k + d))) same_count)
        on None None None is = tt

    literal_stands : (ty : Ty) (z : ℤ) → IsValue homes (literal ty z) (literal ty z)
    literal_stands (int w) z = refl
    literal_stands ptr z = tt
    literal_stands token z = tt
    literal_stands (array n t) z = tt
    literal_stands (structure ts) z = tt
    literal_stands (named n) z = tt

    -- an operand's value stands for that of the other, where that of its name does
    pub operand_stands : (env other : Env) (x : Operand)
        → ((v : ℕ) → x ≡ Operand.Local v → IsValue homes (value_in env v) (value_in other v)) → (ty : Ty)
        → IsValue homes (operand_value e.code env ty x) (operand_value (elided_code e) other ty x)
    operand_stands env other (Operand.Local v) h ty = h v refl
    operand_stands env other (Operand.Global n) h ty = address_stands n
    operand_stands env other (Operand.Number z) h ty = literal_stands ty z
    operand_stands env other Operand.True h ty = refl
    operand_stands env other Operand.False h ty = refl
    operand_stands env other Operand.Null h ty = (tt, refl)
    operand_stands env other Operand.None h ty = tt
    operand_stands env other Operand.Poison h ty = tt
