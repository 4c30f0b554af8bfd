-- Modules in which no call gives a frame.
use Rattle.std.proofs.Common.{◌≡◌, ℕ, zero, suc, inl, inr, Bool, true, false, List, [], ◌∷◌, Option, Some, None, refl, sym, ap, ◌∙◌, subst, ◌&&◌, ◌||◌, ◌==◌}
use Rattle.std.specs.Prelude.{length, slice_get, unwrap_or}
use Rattle.std.specs.List.{list_any}
use Rattle.std.proofs.lemmas.Bool.{false≢true}
use Rattle.pass_proofs.specs.flow_solver.Paths.{IsListed}
use Rattle.pass_proofs.specs.ir_base.declared.name.Name.{Name}
use Rattle.pass_proofs.proofs.ir_laws.facts.Lists.{nothing_found}
use Rattle.pass_proofs.proofs.ir_laws.paths.source_rules.Locals.{listed_left, listed_right}
use Rattle.pass_proofs.specs.ir_model.Names.{function_at, no_function, noalloc_of, same_name}
use Rattle.pass_proofs.specs.ir_model.Ty.{Ty}
use Rattle.pass_proofs.specs.ir_model.declared.instr.Instr.{Instr}
use Rattle.pass_proofs.specs.ir_model.declared.module.Block.{Block}
use Rattle.pass_proofs.specs.ir_model.declared.module.Function.{Function}
use Rattle.pass_proofs.specs.ir_model.declared.module.Module.{Module}
use Rattle.pass_proofs.specs.ir_model.declared.operand.Arg.{Arg}
use Rattle.pass_proofs.specs.ir_model.declared.operand.Callee.{Callee}
use Rattle.pass_proofs.specs.pass_split.Given.{called_by, called_from, called_in, called_names, has_given_call}
use Rattle.pass_proofs.specs.pass_split.declared.given.CalledName.{CalledName}
use Rattle.pass_split_proof.specs.simulation.Given.{GivesNoFrame}
use Rattle.pass_proofs.specs.run_framed.Framed.{given_ramp}
use Rattle.pass_proofs.specs.run_step.Step.{AtInstr, fetch, fetch_in, fetch_or}

-- ---- the names that are called

abbrev pub called : Name → CalledName
called name = record { name = name }

module _ (c : CalledName) where
  in_instrs : (is : List Instr) (k : ℕ) (i : Instr) → slice_get is k ≡ Some i → IsListed c (called_by i)
      → IsListed c (called_in is)
  in_instrs [] k i e h = absurd (cc)
  in_instrs (j ∷ is) zero i e h =
      listed_left c (called_by j) (called_in is) (subst (λ (x : Instr). IsListed c (called_by x)) (sym (same e)) h)
    where
      same : Some j ≡ Some i → j ≡ i
      same e = cc
  in_instrs (j ∷ is) (suc k) i e h = listed_right c (called_by j) (called_in is) (in_instrs is k i e h)

  in_blocks : (bs : List Block) (k : ℕ) (b : Block) → slice_get bs k ≡ Some b → IsListed c (called_in b.instrs)
      → IsListed c (called_from bs)
  in_blocks [] k b e h = absurd (cc)
  in_blocks (d ∷ bs) zero b e h = listed_left c (called_in d.instrs) (called_from bs)
      (subst (λ (x : Block). IsListed c (called_in x.instrs)) (sym (same e)) h)
    where
      same : Some d ≡ Some b → d ≡ b
      same e = cc
  in_blocks (d ∷ bs) (suc k) b e h = listed_right c (called_in d.instrs) (called_from bs) (in_blocks bs k b e h)

  in_functions : (fs : List Function) (k : ℕ) (f : Function) → slice_get fs k ≡ Some f
      → IsListed c (called_from f.blocks) → IsListed c (called_names fs)
  in_functions [] k f e h = absurd (cc)
  in_functions (d ∷ fs) zero f e h = listed_left c (called_from d.blocks) (called_names fs)
      (subst (λ (x : Function). IsListed c (called_from x.blocks)) (sym (same e)) h)
    where
      same : Some d ≡ Some f → d ≡ f
      same e = cc
  in_functions (d ∷ fs) (suc k) f e h = listed_right c (called_from d.blocks) (called_names fs)
      (in_functions fs k f e h)

-- ---- what stands at a place

-- the instruction of a block
record IsFetched (f : Function) (block at : ℕ) (i : Instr) : Type 0 where
  own : Block
  there : slice_get f.blocks block ≡ Some own
  got : slice_get own.instrs at ≡ Some i

fetched : (f : Function) (block at : ℕ) (i : Instr) → fetch f block at ≡ AtInstr i → IsFetched f block at i
fetched f block at i e = on (slice_get f.blocks block) refl e
  where
    by : (b : Block) → slice_get f.blocks block ≡ Some b → (o : Option Instr) → slice_get b.instrs at ≡ o
        → fetch_or o (at == length b.instrs) b.term ≡ AtInstr i → IsFetched f block at i
    by b there None got e = absurd (none (at == length b.instrs) e)
      where
        none : (last : Bool) → fetch_or None last b.term ≡ AtInstr i → ⊥
        none true e = absurd (cc)
        none false e = absurd (cc)
    by b there (Some j) got e = record { own = b; there = there; got = got ∙ ap Some (same e) }
      where
        same : AtInstr j ≡ AtInstr i → j ≡ i
        same e = cc

    on : (o : Option Block) → slice_get f.blocks block ≡ o → fetch_in o at ≡ AtInstr i → IsFetched f block at i
    on None there e = absurd (cc)
    on (Some b) there e = by b there (slice_get b.instrs at) refl e

-- a function in which an instruction stands is one of the module
function_there : (m : Module) (func block at : ℕ) (i : Instr) → fetch (function_at m func) block at ≡ AtInstr i
    → slice_get m.functions func ≡ Some (function_at m func)
function_there m func block at i e = on (slice_get m.functions func) refl e
  where
    on : (o : Option Function) → slice_get m.functions func ≡ o → fetch (unwrap_or o no_function) block at ≡ AtInstr i
        → slice_get m.functions func ≡ Some (function_at m func)
    on None f e = absurd (cc)
    on (Some d) f e = f ∙ ap (λ (o : Option Function). Some (unwrap_or o no_function)) (sym f)

-- ---- no call gives a frame

any_none : {A : Type 0} (test : A → Bool) (xs : List A) (x : A) → list_any test xs ≡ false → IsListed x xs
    → test x ≡ false
any_none test [] x e h = absurd h
any_none test (y ∷ xs) x e h = on (test y) refl e h (λ e h. any_none test xs x e h)
  where
    on : (t : Bool) → test y ≡ t → (t || list_any test xs) ≡ false → IsListed x (y ∷ xs)
        → (list_any test xs ≡ false → IsListed x xs → test x ≡ false) → test x ≡ false
    on true f e h rest = absurd (false≢true (sym e))
    on false f e (inl same) rest = ap test same ∙ f
    on false f e (inr h) rest = rest e h

-- the name of a call is among those that are called
pub call_listed : (m : Module) (func block at : ℕ) (result : Option ℕ) (must_tail : Bool) (ty : Option Ty) (name : Name)
    (args : List Arg)
    → fetch (function_at m func) block at ≡ AtInstr (Instr.Call result must_tail ty (Callee.Named name) args)
    → IsListed (called name) (called_names m.functions)
call_listed m func block at result must_tail ty name args e =
    let i = Instr.Call result must_tail ty (Callee.Named name) args in
    let y = fetched (function_at m func) block at i e in
    in_functions (called name) m.functions func (function_at m func) (function_there m func block at i e)
    (in_blocks (called name) (function_at m func).blocks block y.own y.there
    (in_instrs (called name) y.own.instrs at i y.got (inl refl)))

pub ungiven_of : (m : Module) → GivesNoFrame m → (func block at : ℕ) (result : Option ℕ) (must_tail : Bool)
    (ty : Option Ty) (name : Name) (args : List Arg)
    → fetch (function_at m func) block at ≡ AtInstr (Instr.Call result must_tail ty (Callee.Named name) args)
    → given_ramp m name ≡ None
ungiven_of m gives func block at result must_tail ty name args e = nothing_found
    (λ (f : Function). f.coroutine && same_name (noalloc_of f.name) name) m.functions (λ k f there. on k f there
    f.coroutine refl)
  where
    on : (k : ℕ) (f : Function) → slice_get m.functions k ≡ Some f → (t : Bool) → f.coroutine ≡ t
        → (f.coroutine && same_name (noalloc_of f.name) name) ≡ false
    on k f there false plain = ap (λ (t : Bool). t && same_name (noalloc_of f.name) name) plain
    on k f there true coroutine = ap (λ (t : Bool). t && same_name (noalloc_of f.name) name) coroutine
        ∙ any_none (λ (d : CalledName). same_name (noalloc_of f.name) d.name) (called_names m.functions)
        (called name)
        (gives k f there coroutine) (call_listed m func block at result must_tail ty name args e)

-- of a coroutine that stands in the module
pub given_none : (m : Module) → GivesNoFrame m → (func : ℕ) → (function_at m func).coroutine ≡ true
    → has_given_call m (function_at m func) ≡ false
given_none m gives func coroutine = on (slice_get m.functions func) refl
  where
    on : (o : Option Function) → slice_get m.functions func ≡ o → has_given_call m (function_at m func) ≡ false
    on None e = absurd (false≢true (sym (ap (λ (o : Option Function). (unwrap_or o no_function).coroutine) e)
        ∙ coroutine))
    on (Some f) e =
        let same : function_at m func ≡ f = ap (λ (o : Option Function). unwrap_or o no_function) e in
        ap (has_given_call m) same ∙ gives func f e (ap (λ (x : Function). x.coroutine) (sym same) ∙ coroutine)
