-- What an instruction reads in the elided run stands for what it reads in the framed one.
use Rattle.std.proofs.Common.{◌≡◌, ◌<◌, ◌+◌, ◌%◌, ◌^◌, ℕ, zero, suc, Bool, true, false, List, [], ◌∷◌, length, Option, refl, sym, ap, ◌∙◌, subst, arith, ◌||◌}
use Rattle.std.specs.List.{list_any}
use Rattle.std.specs.Prelude.{None, Some, IsTrue, if◌then◌else◌, option_map, slice_get, ℤ}
use Rattle.pass_elide_proof.proofs.Distances.{Stand, goes_as_far}
use Rattle.pass_elide_proof.proofs.Modules.{addresses, finds_alike, there}
use Rattle.pass_elide_proof.specs.Elision.{Elision, elided_code}
use Rattle.pass_elide_proof.specs.Ordinary.{HasSteadyIndices}
use Rattle.pass_elide.specs.Elided.{elided_function, frame_in}
use Rattle.pass_proofs.proofs.ir_laws.facts.Truth.{itself}
use Rattle.pass_proofs.proofs.run_laws.transfer.Alone.{reads_itself}
use Rattle.pass_proofs.specs.ir_base.declared.name.Name.{Name}
use Rattle.pass_proofs.specs.ir_model.Names.{declaration_named, first_where, function_named, global_named, is_local, same_name}
use Rattle.pass_proofs.specs.ir_model.Ty.{Ty, array, int, named, ptr, structure, token}
use Rattle.pass_proofs.specs.ir_model.declared.instr.Instr.{Instr}
use Rattle.pass_proofs.specs.ir_model.declared.module.Function.{Function}
use Rattle.pass_proofs.specs.ir_model.declared.module.GlobalItem.{GlobalItem}
use Rattle.pass_proofs.specs.ir_model.declared.operand.Arg.{Arg}
use Rattle.pass_proofs.specs.ir_model.declared.operand.Callee.{Callee}
use Rattle.pass_proofs.specs.ir_model.declared.operand.Operand.{Operand}
use Rattle.pass_proofs.specs.ir_paths.Slots.{is_in_args}
use Rattle.pass_proofs.specs.run_laws.changed.Changed.{Each, callee_at}
use Rattle.pass_proofs.specs.run_laws.embedded.Making.{whole_home}
use Rattle.pass_proofs.specs.run_laws.embedded.Related.{HasBytes, HasNoSlot}
use Rattle.pass_proofs.specs.run_laws.memory.Pointers.{Home, IsValue, home_of}
use Rattle.pass_proofs.specs.run_laws.transfer.Alone.{IsNoLocal, IsReadBy}
use Rattle.pass_proofs.specs.run_laws.transfer.Transfer.{AreSameDistances, IsNamedAlike, IsPointedAlike, IsTransferred, same_maps}
use Rattle.pass_proofs.specs.run_memory.Memory.{Rights}
use Rattle.pass_proofs.specs.run_memory.declared.pointer.Pointer.{Pointer}
use Rattle.pass_proofs.specs.run_memory.declared.pointer.Value.{Value}
use Rattle.pass_proofs.specs.run_step.Reads.{reads_at}
use Rattle.pass_proofs.specs.run_step.Step.{AtInstr, Context, fits_function}
use Rattle.pass_proofs.specs.run_step.Values.{Env, address_from, address_of, arg_values, literal, nth, operand_value, pointer_to, value_in}

-- ---- lists

pub first_within : {A : Type 0} (test : A → Bool) (xs : List A) (k : ℕ) → first_where test xs ≡ Some k → k < length xs
first_within test [] k e = absurd (cc)
first_within test (x ∷ xs) k e = on (test x) (first_where test xs) e (λ j is. first_within test xs j is)
  where
    on : (b : Bool) (o : Option ℕ) → (if b then Some 0 else option_map suc o) ≡ Some k
        → ((j : ℕ) → o ≡ Some j → j < length xs) → k < length (x ∷ xs)
    on true o e later = let same : 0 ≡ k = cc in omega (arith, same)
    on false None e later = absurd (cc)
    on false (Some j) e later =
        let same : suc j ≡ k = cc in
        let lt : j < length xs = later j refl in
        omega (arith, same, lt)

or_left : (a b : Bool) → a ≡ true → (a || b) ≡ true
or_left true b e = refl
or_left false b e = absurd (cc)

pub or_right : (a b : Bool) → b ≡ true → (a || b) ≡ true
or_right true b e = refl
or_right false b e = e

unmoved : (o : Option ℕ) → o ≡ option_map (λ n. n) o
unmoved None = refl
unmoved (Some n) = refl

-- ---- operands that are no locals

module _ (e : Elision) (homes : List Home)
    (globals : (n : ℕ) → n < length e.code.globals → home_of homes n ≡ whole_home n) where
  pub literal_stands : (ty : Ty) (z : ℤ) → IsValue homes (literal ty z) (literal ty z)
  literal_stands (int w) z = refl
  literal_stands ptr z = tt
  literal_stands token z = tt
  literal_stands (array n t) z = tt
  literal_stands (structure ts) z = tt
  literal_stands (named n) z = tt

  global_stands : (n : ℕ) → n < length e.code.globals → IsValue homes (pointer_to n) (pointer_to n)
  global_stands n lt =
      subst (λ (h : Home). (h.is_seen ≡ true)
      × (pointer_to n ≡ Value.Ptr (Pointer.At h.block (record { bits = (0 + h.offset) % 2 ^ 64 }))))
      (sym (globals n lt)) (refl, refl)

  address_by : (f g d : Option ℕ) → ((n : ℕ) → g ≡ Some n → n < length e.code.globals)
      → IsValue homes (address_from e.code f g d) (address_from e.code f g d)
  address_by (Some f) g d h = (tt, refl)
  address_by None (Some g) d h = global_stands g (h g refl)
  address_by None None (Some d) h = (tt, refl)
  address_by None None None h = tt

  address_stands : (n : Name) → IsValue homes (address_of e.code n) (address_of (elided_code e) n)
  address_stands n =
      subst (λ (v : Value). IsValue homes (address_of e.code n) v) (sym (addresses e n))
      (address_by (function_named e.code n) (global_named e.code n) (declaration_named e.code n)
      (λ k is. first_within (λ (g : GlobalItem). same_name g.name n) e.code.globals k is))

  module _ (env other : Env) where
    pub others_stand : (a : Operand) (ty : Ty) → IsNoLocal a
        → IsValue homes (operand_value e.code env ty a) (operand_value (elided_code e) other ty a)
    others_stand (Operand.Local v) ty h = absurd h
    others_stand (Operand.Global n) ty h = address_stands n
    others_stand (Operand.Number z) ty h = literal_stands ty z
    others_stand Operand.True ty h = refl
    others_stand Operand.False ty h = refl
    others_stand Operand.Null ty h = (tt, refl)
    others_stand Operand.None ty h = tt
    others_stand Operand.Poison ty h = tt

    -- ---- operands that are read

    pub operand_stands : (a : Operand) (ty : Ty)
        → ((v : ℕ) → is_local v a ≡ true → IsValue homes (value_in env v) (value_in other v))
        → IsValue homes (operand_value e.code env ty a) (operand_value (elided_code e) other ty a)
    operand_stands (Operand.Local v) ty h = h v (itself v)
    operand_stands (Operand.Global n) ty h = others_stand (Operand.Global n) ty tt
    operand_stands (Operand.Number z) ty h = others_stand (Operand.Number z) ty tt
    operand_stands Operand.True ty h = others_stand Operand.True ty tt
    operand_stands Operand.False ty h = others_stand Operand.False ty tt
    operand_stands Operand.Null ty h = others_stand Operand.Null ty tt
    operand_stands Operand.None ty h = others_stand Operand.None ty tt
    operand_stands Operand.Poison ty h = others_stand Operand.Poison ty tt

    pub args_stand : (args : List Arg)
        → ((v : ℕ) → is_in_args v args ≡ true → IsValue homes (value_in env v) (value_in other v))
        → Each (Stand e homes env other) args
    args_stand [] h = tt
    args_stand (a ∷ args) h = (
      operand_stands a.value a.ty
          (λ v is. h v (or_left (is_local v a.value) (list_any (λ (b : Arg). is_local v b.value) args) is)),
      args_stand args
          (λ v is. h v (or_right (is_local v a.value) (list_any (λ (b : Arg). is_local v b.value) args) is)),
    )

    -- an argument at a position, if there is one
    pub nth_stands : (args : List Arg) → Each (Stand e homes env other) args → (k : ℕ)
        → IsValue homes (nth (arg_values e.code env args) k) (nth (arg_values (elided_code e) other args) k)
    nth_stands [] h k = tt
    nth_stands (a ∷ args) h zero = h.0
    nth_stands (a ∷ args) h (suc k) = nth_stands args h.1 k

-- ---- what both runs execute

-- what an instruction is given in the framed run, and in the elided one
abbrev pub first_context : Elision → Rights → Function → Context
first_context e rights f = record { code = e.code; answers = e.answers; rights = rights; function = f }

abbrev pub second_context : Elision → Rights → Function → Context
second_context e rights f = record { code = elided_code e; answers = e.answers; rights = rights; function = f }

fits_turned : (e : Elision) (ty : Option Ty) (args : List Arg) (func : ℕ) (o : Option Function)
    → fits_function ty args (option_map (λ (f : Function). elided_function (frame_in e.code e.layouts.coroutines
    e.sites func f) f) o) ≡ fits_function ty args o
fits_turned e ty args func None = refl
fits_turned e ty args func (Some f) = refl

pub fits_alike : (e : Elision) (ty : Option Ty) (args : List Arg) (func : ℕ)
    → fits_function ty args (slice_get (elided_code e).functions func)
    ≡ fits_function ty args (slice_get e.code.functions func)
fits_alike e ty args func =
    ap (fits_function ty args) (there e.code e.layouts.coroutines e.sites 0 e.code.functions func func (omega arith))
    ∙ fits_turned e ty args func (slice_get e.code.functions func)

module _ (e : Elision) (R T : Rights) (f h : Function) where
  abbrev c : Context
  c = first_context e R f

  abbrev d : Context
  d = second_context e T h

  named_alike : (o : Option Name) → IsNamedAlike same_maps c d o
  named_alike None = tt
  named_alike (Some n) =
      let found = finds_alike e in
      (found.named n ∙ unmoved (function_named e.code n), found.declared n ∙ unmoved (declaration_named e.code n))

  pointed_alike : (env : Env) (i : Instr) → IsPointedAlike same_maps c d env (AtInstr i)
  pointed_alike env (Instr.Call result must_tail ty (Callee.Local v) args) =
      λ func is. (refl, fits_alike e ty args func)
  pointed_alike env (Instr.Call result must_tail ty (Callee.Named n) args) = tt
  pointed_alike env (Instr.Call result must_tail ty (Callee.Allocator a) args) = tt
  pointed_alike env (Instr.Call result must_tail ty (Callee.Intrinsic j) args) = tt
  pointed_alike env (Instr.Binary r op flags ty a b) = tt
  pointed_alike env (Instr.Icmp r pred ty a b) = tt
  pointed_alike env (Instr.Select r y a b) = tt
  pointed_alike env (Instr.Cast r op nneg a to) = tt
  pointed_alike env (Instr.Alloca r ty align) = tt
  pointed_alike env (Instr.Load r ty p align) = tt
  pointed_alike env (Instr.Store a p align) = tt
  pointed_alike env (Instr.Gep r inbounds ty p indices) = tt

  module _ (homes : List Home) (globals : (n : ℕ) → n < length e.code.globals → home_of homes n ≡ whole_home n)
      (env other : Env) where
    abbrev Reads : Instr → Type 0
    Reads i = (v : ℕ) → IsTrue (reads_at v (AtInstr i)) → IsValue homes (value_in env v) (value_in other v)

    pub read_by : (i : Instr) → Reads i → IsReadBy (IsValue homes) c d env other (AtInstr i)
    read_by i reads = record { reads = reads; others = others_stand e homes globals env other }

    distances : (i : Instr) → Reads i → HasSteadyIndices e.code i
        → AreSameDistances c d env other (AtInstr i) (AtInstr i)
    distances (Instr.Gep r inbounds ty p indices) reads steady =
        goes_as_far e homes env other ty indices steady
        (args_stand e homes globals env other indices
        (λ v is. reads v (or_right (is_local v p) (is_in_args v indices) is)))
    distances (Instr.Call result must_tail ty callee args) reads steady = tt
    distances (Instr.Binary r op flags ty a b) reads steady = tt
    distances (Instr.Icmp r pred ty a b) reads steady = tt
    distances (Instr.Select r y a b) reads steady = tt
    distances (Instr.Cast r op nneg a to) reads steady = tt
    distances (Instr.Alloca r ty align) reads steady = tt
    distances (Instr.Load r ty p align) reads steady = tt
    distances (Instr.Store a p align) reads steady = tt

    pub transferred : (i : Instr) → Reads i → HasSteadyIndices e.code i → HasNoSlot (AtInstr i)
        → HasBytes (AtInstr i) → IsTransferred (IsValue homes) same_maps c d env other (AtInstr i) (AtInstr i)
    transferred i reads steady no_slot bytes = record {
      shape = reads_itself (IsValue homes) c d env other (AtInstr i) (read_by i reads);
      callee = named_alike (callee_at (AtInstr i));
      pointed = pointed_alike env i;
      distance = distances i reads steady;
      cases = tt;
      no_slot = no_slot;
      bytes = bytes;
    }
