-- What stays in a module whose functions have blocks on some of their edges.
use Rattle.std.proofs.Common.{◌≡◌, ℕ, suc, ◌+◌, Bool, List, [], ◌∷◌, ◌++◌, refl, sym, ap, ◌∙◌}
use Rattle.std.proofs.lemmas.List.{length-map}
use Rattle.std.proofs.lemmas.Option.{slice_get-map}
use Rattle.std.specs.Prelude.{Some, None, Option, map, option_map, replicate, slice_get, unwrap_or, if◌then◌else◌, ◌&&◌}
use Rattle.ir_laws.specs.run_memory.declared.pointer.Pointer.{Pointer}
use Rattle.ir_laws.specs.run_memory.declared.pointer.Value.{Value}
use Rattle.ir_laws.specs.ir_base.declared.name.Name.{Name}
use Rattle.run_states.proofs.expanded.Environments.{grown, value_grown}
use Rattle.run_framed.specs.Framed.{framed_facts, given_ramp}
use Rattle.ir_laws.specs.ir_model.Names.{declaration_named, first_where, function_at, function_named, global_named, no_function, noalloc_of, same_name}
use Rattle.ir_laws.specs.ir_model.Ty.{Ty}
use Rattle.ir_laws.specs.ir_model.declared.module.Function.{Function}
use Rattle.ir_laws.specs.ir_model.declared.module.Module.{Module}
use Rattle.ir_laws.specs.ir_model.declared.operand.Arg.{Arg}
use Rattle.ir_laws.specs.ir_model.declared.operand.Operand.{Operand}
use Rattle.ir_laws.specs.ir_paths.declared.point.Facts.{Facts}
use Rattle.ir_laws.specs.run_step.Step.{fits_function}
use Rattle.ir_laws.specs.run_step.Values.{Env, address_from, arg_values, operand_value}
use Rattle.ir_laws.specs.run_source_tables.Given.{facts_at}
use Rattle.run_states.specs.moved_states.MovedState.{moved_module}
use Rattle.run_states.specs.moved_states.Moving.{KeepsKinds, Moving}

module _ (mv : Moving) (kinds : KeepsKinds mv) where
  pub function_moved : (m : Module) (func : ℕ) → function_at (moved_module mv m) func ≡ mv.to (function_at m func)
  function_moved m func =
      ap (λ (o : Option Function). unwrap_or o no_function) (slice_get-map mv.to m.functions func) ∙ on (slice_get m.functions func)
    where
      on : (o : Option Function) → unwrap_or (option_map mv.to o) no_function ≡ mv.to (unwrap_or o no_function)
      on None = sym kinds.nothing
      on (Some f) = refl

  -- the first function that passes a test stands where it stood
  first_moved : (test : Function → Bool) → ((f : Function) → test (mv.to f) ≡ test f) → (fs : List Function) → first_where test (map mv.to fs) ≡ first_where test fs
  first_moved test same [] = refl
  first_moved test same (f ∷ fs) =
      let first = same f in
      let rest = first_moved test same fs in
      λ i. if first i then Some 0 else option_map suc (rest i)

  pub named_moved : (m : Module) (n : Name) → function_named (moved_module mv m) n ≡ function_named m n
  named_moved m n = first_moved (λ f. same_name f.name n) (λ f. ap (λ (x : Name). same_name x n) (kinds.name f)) m.functions

  pub given_moved : (m : Module) (n : Name) → given_ramp (moved_module mv m) n ≡ given_ramp m n
  given_moved m n =
      first_moved (λ f. f.coroutine && same_name (noalloc_of f.name) n)
      (λ f. let c = kinds.coroutine f in let x = kinds.name f in λ i. c i && same_name (noalloc_of (x i)) n) m.functions

  pub fits_moved : (m : Module) (ty : Option Ty) (args : List Arg) (func : ℕ) → fits_function ty args (slice_get (moved_module mv m).functions func) ≡ fits_function ty args (slice_get m.functions func)
  fits_moved m ty args func = ap (fits_function ty args) (slice_get-map mv.to m.functions func) ∙ on (slice_get m.functions func)
    where
      on : (o : Option Function) → fits_function ty args (option_map mv.to o) ≡ fits_function ty args o
      on None = refl
      on (Some f) = let r = kinds.result f in let p = kinds.params f in λ i. fits_function ty args (Some (record f { result = r i; params = p i }))

  -- ---- operands

  pub operand_moved : (m : Module) (k : ℕ) (env : Env) (ty : Ty) (x : Operand) → operand_value (moved_module mv m) (grown k env) ty x ≡ operand_value m env ty x
  operand_moved m k env ty (Operand.Local name) = value_grown k env name
  operand_moved m k env ty (Operand.Global n) =
      ap (λ (o : Option ℕ). address_from (moved_module mv m) o (global_named m n) (declaration_named m n)) (named_moved m n)
      ∙ on (function_named m n) (global_named m n) (declaration_named m n)
    where
      on : (f b d : Option ℕ) → address_from (moved_module mv m) f b d ≡ address_from m f b d
      on (Some f) b d = refl
      on None (Some b) d = refl
      on None None (Some d) = ap (λ (n : ℕ). Value.Ptr (Pointer.Func (n + d))) (length-map m.functions mv.to)
      on None None None = refl
  operand_moved m k env ty (Operand.Number z) = refl
  operand_moved m k env ty Operand.True = refl
  operand_moved m k env ty Operand.False = refl
  operand_moved m k env ty Operand.Null = refl
  operand_moved m k env ty Operand.None = refl
  operand_moved m k env ty Operand.Poison = refl

  pub args_moved : (m : Module) (n : ℕ) (env : Env) (args : List Arg) → arg_values (moved_module mv m) (env ++ replicate n None) args ≡ arg_values m env args
  args_moved m n env [] = refl
  args_moved m n env (a ∷ args) =
      let first = operand_moved m n env a.ty a.value in
      let rest = args_moved m n env args in
      λ i. first i ∷ rest i

-- ---- facts

pub facts_are : (m : Module) (func : ℕ) → facts_at (map framed_facts m.functions) func ≡ framed_facts (function_at m func)
facts_are m func = ap (λ (o : Option Facts). unwrap_or o (record { windows = []; ramp_slots = [] })) (slice_get-map framed_facts m.functions func) ∙ on (slice_get m.functions func)
  where
    on : (o : Option Function) → unwrap_or (option_map framed_facts o) (record { windows = []; ramp_slots = [] }) ≡ framed_facts (unwrap_or o no_function)
    on None = refl
    on (Some f) = refl

pub facts_moved : (mv : Moving) → KeepsKinds mv → (m : Module) (func : ℕ) → facts_at (map framed_facts (moved_module mv m).functions) func ≡ framed_facts (mv.to (function_at m func))
facts_moved mv kinds m func = facts_are (moved_module mv m) func ∙ ap framed_facts (function_moved mv kinds m func)
