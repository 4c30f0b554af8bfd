-- A module whose functions are changed, but not in their names and types: what names, addresses and steps are then.
use Rattle.std.proofs.Common.{◌≡◌, ℕ, suc, ◌+◌, List, [], ◌∷◌, length, refl, sym, ap, ◌∙◌}
use Rattle.std.proofs.lemmas.Option.{slice_get-map}
use Rattle.std.specs.Prelude.{ℤ, Some, None, Option, option_map, unwrap_or, map, slice_get, ◌&&◌}
use Rattle.ir_laws.specs.run_memory.Memory.{Rights, access_bytes, encode}
use Rattle.ir_laws.specs.run_memory.declared.block.MemoryBlock.{MemoryBlock}
use Rattle.ir_laws.specs.run_memory.declared.pointer.Pointer.{Pointer}
use Rattle.ir_laws.specs.run_memory.declared.pointer.Value.{Value}
use Rattle.ir_laws.specs.ir_base.declared.name.Name.{Name}
use Rattle.ir_laws.specs.ir_base.declared.outcome.Event.{Event}
use Rattle.ir_laws.specs.facts.renamed.Passes.{with_functions}
use Rattle.ir_laws.specs.ir_model.Names.{declaration_named, function_at, function_named, global_named, no_function, same_name}
use Rattle.ir_laws.specs.ir_model.Ty.{Ty}
use Rattle.ir_laws.specs.ir_model.declared.module.Function.{Function}
use Rattle.ir_laws.specs.ir_model.declared.module.GlobalItem.{GlobalItem}
use Rattle.ir_laws.specs.ir_model.declared.module.Module.{Module}
use Rattle.ir_laws.specs.ir_model.declared.operand.Arg.{Arg}
use Rattle.ir_laws.specs.ir_model.declared.operand.Operand.{Operand}
use Rattle.ir_laws.specs.run_step.Step.{Action, Context, Coro, Deallocate, Done, Enter, Fetched, GoTo, NewSlot, Return, Stuck, Work, action_of, fits_function, fits_params, first_world, global_block, has_markers, same_result}
use Rattle.ir_laws.specs.run_step.Values.{Env, access_of, address_from, address_of, operand_value, stored}
use Rattle.ir_laws.proofs.run_laws.changed.Kept.{action_kept}
use Rattle.ir_laws.specs.run_laws.changed.Changed.{Change, Each, IsDeclaredAlike, IsSameOperand, callee_at, changed_action, changed_event, changed_work, operands_at}
use Rattle.ir_laws.proofs.facts.Lists.{first_same, map_same}

-- names and types of functions stay
pub record IsMild (change : Function → Function) : Type 0 where
  pub name : (f : Function) → (change f).name ≡ f.name
  pub result : (f : Function) → (change f).result ≡ f.result
  pub params : (f : Function) → (change f).params ≡ f.params

pub length_same : {A B : Type 0} (f : A → B) (xs : List A) → length (map f xs) ≡ length xs
length_same f [] = refl
length_same f (x ∷ xs) = ap suc (length_same f xs)

map_none : {A : Type 0} (f : A → A) → ((x : A) → f x ≡ x) → (xs : List A) → map f xs ≡ xs
map_none f h [] = refl
map_none f h (x ∷ xs) = λ i. h x i ∷ map_none f h xs i

-- the change of a step that leaves values and events
abbrev nothing : Change
nothing = record { values = λ env. env; declaration = λ n. n }

work_stays : (w : Work) → changed_work nothing w ≡ w
work_stays w = ap (λ (es : List Event). record { world = record w.world { events = es }; values = w.values }) (map_none (changed_event nothing) (λ e. refl) w.world.events)

action_stays : (a : Action) → changed_action nothing a ≡ a
action_stays (Done w) = ap Done (work_stays w)
action_stays (NewSlot w slot) = ap (λ (x : Work). NewSlot x slot) (work_stays w)
action_stays (Enter func args result must_tail) = refl
action_stays (Coro i args result) = refl
action_stays (Deallocate p) = refl
action_stays (GoTo label) = refl
action_stays (Return v) = refl
action_stays (Stuck cause) = refl

module _ (change : Function → Function) (mild : IsMild change) (m : Module) where
  abbrev m2 : Module
  m2 = with_functions change m

  pub function_there : change no_function ≡ no_function → (func : ℕ) → function_at m2 func ≡ change (function_at m func)
  function_there h func = ap (λ (o : Option Function). unwrap_or o no_function) (slice_get-map change m.functions func) ∙ on (slice_get m.functions func)
    where
      on : (o : Option Function) → unwrap_or (option_map change o) no_function ≡ change (unwrap_or o no_function)
      on None = sym h
      on (Some f) = refl

  pub named_there : (n : Name) → function_named m2 n ≡ function_named m n
  named_there n = first_same change (λ f. same_name f.name n) (λ f. same_name f.name n) (λ f. ap (λ (x : Name). same_name x n) (mild.name f)) m.functions

  pub address_there : (n : Name) → address_of m2 n ≡ address_of m n
  address_there n =
      ap (λ (o : Option ℕ). address_from m2 o (global_named m n) (declaration_named m n)) (named_there n)
      ∙ on (function_named m n) (global_named m n) (declaration_named m n)
    where
      on : (f g d : Option ℕ) → address_from m2 f g d ≡ address_from m f g d
      on (Some f) g d = refl
      on None (Some g) d = refl
      on None None (Some d) = ap (λ (k : ℕ). Value.Ptr (Pointer.Func (k + d))) (length_same change m.functions)
      on None None None = refl

  pub operand_there : (env : Env) (ty : Ty) (x : Operand) → operand_value m2 env ty x ≡ operand_value m env ty x
  operand_there env ty (Operand.Global n) = address_there n
  operand_there env ty (Operand.Local name) = refl
  operand_there env ty (Operand.Number z) = refl
  operand_there env ty Operand.True = refl
  operand_there env ty Operand.False = refl
  operand_there env ty Operand.Null = refl
  operand_there env ty Operand.None = refl
  operand_there env ty Operand.Poison = refl

  pub fits_there : (ty : Option Ty) (args : List Arg) (func : ℕ) → fits_function ty args (slice_get m2.functions func) ≡ fits_function ty args (slice_get m.functions func)
  fits_there ty args func = ap (fits_function ty args) (slice_get-map change m.functions func) ∙ on (slice_get m.functions func)
    where
      on : (o : Option Function) → fits_function ty args (option_map change o) ≡ fits_function ty args o
      on None = refl
      on (Some f) = λ i. same_result ty (mild.result f i) && fits_params args (mild.params f i)

  pub world_there : first_world m2 ≡ first_world m
  world_there = ap (λ (blocks : List MemoryBlock). record { memory = blocks; events = []; answers_used = 0; allocs = 0 }) (map_same (global_block m2) (global_block m) block_there m.globals)
    where
      block_there : (g : GlobalItem) → global_block m2 g ≡ global_block m g
      block_there g = ap (λ (v : Value). record (global_block m g) { bytes = encode (access_bytes (access_of g.ty)) (stored (access_of g.ty) v) }) (operand_there [] g.ty g.init)

  -- ---- the ordinary step

  abbrev context_in : Module → Function → List ℤ → Rights → Context
  context_in code f answers rights = record { code = code; answers = answers; rights = rights; function = f }

  operands_there : (f g : Function) (answers : List ℤ) (rights : Rights) (env : Env) (xs : List Operand) → Each (IsSameOperand nothing (context_in m f answers rights) (context_in m2 g answers rights) env) xs
  operands_there f g answers rights env [] = tt
  operands_there f g answers rights env (x ∷ xs) = (record { here = λ ty. operand_there env ty x; nowhere = λ ty. operand_there [] ty x }, operands_there f g answers rights env xs)

  callee_there : (f g : Function) (answers : List ℤ) (rights : Rights) (o : Option Name) → IsDeclaredAlike nothing (context_in m f answers rights) (context_in m2 g answers rights) o
  callee_there f g answers rights None = tt
  callee_there f g answers rights (Some n) = on (declaration_named m n)
    where
      on : (d : Option ℕ) → d ≡ option_map (λ k. k) d
      on None = refl
      on (Some k) = refl

  pub action_there : (f g : Function) (answers : List ℤ) (rights : Rights) → g.coroutine ≡ f.coroutine → ((alloca : ℕ) → has_markers g alloca ≡ has_markers f alloca) → (w : Work) (here : Fetched) → action_of (context_in m2 g answers rights) w here ≡ action_of (context_in m f answers rights) w here
  action_there f g answers rights coroutine markers w here =
      ap (λ (x : Work). action_of (context_in m2 g answers rights) x here) (sym (work_stays w))
      ∙ action_kept nothing (context_in m f answers rights) (context_in m2 g answers rights) w here
      (record { types = refl; answers = refl; rights = refl; coroutine = coroutine; markers = markers; functions = named_there; fits = fits_there })
      (record { operands = operands_there f g answers rights w.values (operands_at here); result = λ v. refl; callee = callee_there f g answers rights (callee_at here) })
      ∙ action_stays (action_of (context_in m f answers rights) w here)
