-- An instruction gives a value that fits its name, and keeps bytes.
use Rattle.std.proofs.Common.{◌≡◌, ℕ, Bool, true, false, List, length, map, ◌&&◌, Option, Some, None, Result, Ok, Err}
use Rattle.std.proofs.Common.{refl, sym, ap, ◌∙◌, subst}
use Rattle.std.specs.Prelude.{if◌then◌else◌, slice_get, unwrap_or}
use Rattle.run_hooks.specs.ir_base.declared.cause.Cause.{Cause}
use Rattle.run_hooks.specs.ir_base.declared.name.Name.{Name}
use Rattle.run_hooks.specs.ir_base.declared.ops.Pred.{Pred}
use Rattle.run_hooks.specs.ir_base.declared.outcome.Word.{Word}
use Rattle.ir_laws.specs.facts.counted.Widths.{has_width}
use Rattle.run_hooks.specs.ir_model.Layout.{same_type, size_of}
use Rattle.run_hooks.specs.ir_model.Names.{declaration_named, function_at, function_named, no_function}
use Rattle.run_hooks.specs.ir_model.Ty.{Ty, array, int, named, ptr, structure, token}
use Rattle.run_hooks.specs.ir_model.declared.instr.Case.{Case}
use Rattle.run_hooks.specs.ir_model.declared.instr.Instr.{Instr}
use Rattle.run_hooks.specs.ir_model.declared.instr.Terminator.{Terminator}
use Rattle.run_hooks.specs.ir_model.declared.module.Function.{Function}
use Rattle.run_hooks.specs.ir_model.declared.module.Module.{Module}
use Rattle.run_hooks.specs.ir_model.declared.operand.Allocator.{Allocator}
use Rattle.run_hooks.specs.ir_model.declared.operand.Arg.{Arg}
use Rattle.run_hooks.specs.ir_model.declared.operand.Callee.{Callee}
use Rattle.run_hooks.specs.ir_model.declared.operand.Intrinsic.{Intrinsic}
use Rattle.rule_types.specs.Signatures.{are_wanted, fits_function as fits_types, fits_position, is_result}
use Rattle.rule_types.specs.Signatures.{same_result as same_types_of}
use Rattle.rule_types.specs.Wants.{allocator_params, allocator_result, is_ptr}
use Rattle.rule_values.specs.Fits.{fits, fits_arg, fits_scalar, is_scalar}
use Rattle.rule_values.specs.Kinds.{instr_kind, kind_of, result_kind, value_kind}
use Rattle.rule_values.specs.Values.{fits_return}
use Rattle.rule_values.specs.declared.kinds.Kind.{Kind}
use Rattle.run_hooks.proofs.run_ints.Widths.{icmp-kept}
use Rattle.run_hooks.specs.run_ints.Numbers.{binary, icmp}
use Rattle.run_hooks.specs.run_memory.Memory.{compare, copy, end, fresh, load, start, store}
use Rattle.run_hooks.specs.run_memory.declared.block.Kind.{Kind as BlockKind}
use Rattle.run_hooks.specs.run_memory.declared.block.MemoryBlock.{MemoryBlock}
use Rattle.run_hooks.specs.run_memory.declared.pointer.Pointer.{Pointer}
use Rattle.run_hooks.specs.run_memory.declared.pointer.Value.{Value}
use Rattle.run_hooks.specs.run_step.Step.{Action, AtInstr, AtTerm, Context, Done, Enter, Fetched, Nowhere, Return, Stuck, Work}
use Rattle.run_hooks.specs.run_step.Step.{action_of, alloca, alloca_kind, allocated, allocator_call, answer, block_of, branch}
use Rattle.run_hooks.specs.run_step.Step.{by_pred, cast_to, chosen, compared, copied_bytes, done, fetch, fits_function}
use Rattle.run_hooks.specs.run_step.Step.{fits_params, has_markers, if_alignment, indirect_call, instr_action, intrinsic_call}
use Rattle.run_hooks.specs.run_step.Step.{is_alignment, named_call, observed, on_block, same_result, set_memory, set_value}
use Rattle.run_hooks.specs.run_step.Step.{switch, term_action, value_at, with_length, words_of}
use Rattle.run_hooks.specs.run_step.Values.{access_of, address, arg_value, arg_values, element, indices_of, distance, literal}
use Rattle.run_hooks.specs.run_step.Values.{nth, number_at, number_of_width, pointer_to, stored, truth_value, value_in, value_of}
use Rattle.run_types.proofs.Bytes.{GivesBytes, copy_has, ended_has, fresh_has, loaded, started_has, store_has}
use Rattle.run_types.proofs.Fit.{arg_fits, both_true, fits_as, kind_self, literal_fits, number_fits, poison_fits}
use Rattle.run_types.proofs.Fit.{result_fits, same_back, same_fits, set_fits, truth_word, type_fits}
use Rattle.run_types.proofs.Rules.{arguments_pass, call_kind_is, gives_back, steps_same}
use Rattle.run_types.specs.Fitting.{AreFitting, FitParams, FitsKind, FitsResult, FitsType, HaveBytes, IsInteger}
use Rattle.run_types.specs.Rules.{KeepsTypes}
use Rattle.run_types.proofs.Results.{Called, FitsAction, binary_fits, cast_fits, chosen_fits, args_fit, indirect_args}
use Rattle.run_types.proofs.Results.{function_there}

-- ---- an instruction

module _ (m : Module) (f : Function) (rules : KeepsTypes m f) (block at : ℕ) (c : Context) (code : c.code ≡ m)
    (w : Work)
    (h : AreFitting f w.values) (bytes : HaveBytes w.world.memory) where
  abbrev here : Fetched
  here = fetch f block at

  abbrev Fine : Action → Type 0
  Fine a = FitsAction m f (fetch f block at) a

  set : (name : ℕ) (v : Value) → FitsKind (value_kind f name) v → Fine (Done (set_value w name v))
  set name v k = (set_fits f w.values name v h k, bytes)

  done_fine : {A : Type 0} (g : A → Work) (r : Result A Cause) → ((a : A) → r ≡ Ok a → Fine (Done (g a)))
      → Fine (done g r)
  done_fine g (Err cause) k = tt
  done_fine g (Ok a) k = k a refl

  if_fine : (align : ℕ) (a : Action) → Fine a → Fine (if_alignment align a)
  if_fine align a k = on (is_alignment align)
    where
      on : (t : Bool) → Fine (if t then a else Stuck Cause.Align)
      on true = k
      on false = tt

  length_fine : (v : Value) (g : ℕ → Action) → ((k : ℕ) → Fine (g k)) → Fine (with_length v g)
  length_fine (Value.Int x) g k = k x.bits
  length_fine Value.Poison g k = tt
  length_fine (Value.Ptr p) g k = tt

  memory_fine : (r : Result (List MemoryBlock) Cause) → GivesBytes r → Fine (done (set_memory w) r)
  memory_fine (Err cause) k = tt
  memory_fine (Ok memory) k = (h, k)

  -- a name of the kind that its instruction gives
  own_kind : (i : Instr) → here ≡ AtInstr i → (name : ℕ) (kind : Kind) → instr_kind i name ≡ Some kind → (v : Value)
      → FitsKind (Some kind) v → FitsKind (value_kind f name) v
  own_kind i e name kind k v fit = fits_as (Some kind) (value_kind f name) v (rules.given block at name i kind e k) fit

  compared_fine : (name : ℕ) (pred : Pred) (ty : Ty) (a b : Value)
      → ((v : Value) → IsInteger 1 v → FitsKind (value_kind f name) v) → Fine (compared c w name pred ty a b)
  compared_fine name pred (int k) a b own =
      set name (value_of (icmp pred (number_of_width k a) (number_of_width k b)))
      (own (value_of (icmp pred (number_of_width k a) (number_of_width k b)))
      (number_fits 1 (icmp pred (number_of_width k a) (number_of_width k b))
      (icmp-kept pred (number_of_width k a) (number_of_width k b))))
  compared_fine name pred ptr a b own = done_fine (λ same. set_value w name (truth_value (by_pred pred same)))
      (compare c.rights w.world.memory (address a) (address b))
      (λ same e. set name (truth_value (by_pred pred same)) (own (truth_value (by_pred pred same))
      (truth_word (by_pred pred same))))
  compared_fine name pred token a b own = done_fine (λ same. set_value w name (truth_value (by_pred pred same)))
      (compare c.rights w.world.memory (address a) (address b))
      (λ same e. set name (truth_value (by_pred pred same)) (own (truth_value (by_pred pred same))
      (truth_word (by_pred pred same))))
  compared_fine name pred (array k t) a b own = done_fine (λ same. set_value w name (truth_value (by_pred pred same)))
      (compare c.rights w.world.memory (address a) (address b))
      (λ same e. set name (truth_value (by_pred pred same)) (own (truth_value (by_pred pred same))
      (truth_word (by_pred pred same))))
  compared_fine name pred (structure ts) a b own = done_fine (λ same. set_value w name
      (truth_value (by_pred pred same)))
      (compare c.rights w.world.memory (address a) (address b))
      (λ same e. set name (truth_value (by_pred pred same)) (own (truth_value (by_pred pred same))
      (truth_word (by_pred pred same))))
  compared_fine name pred (named k) a b own = done_fine (λ same. set_value w name (truth_value (by_pred pred same)))
      (compare c.rights w.world.memory (address a) (address b))
      (λ same e. set name (truth_value (by_pred pred same)) (own (truth_value (by_pred pred same))
      (truth_word (by_pred pred same))))

  -- ---- calls

  module _ (result : Option ℕ) (must_tail : Bool) (ty : Option Ty) (callee : Callee) (args : List Arg)
      (stands : fetch f block at ≡ AtInstr (Instr.Call result must_tail ty callee args)) where
    observed_fine : ((t : Ty) → result_kind callee (Some t) ≡ kind_of t) → (d : ℕ) (o : Option Ty) → ty ≡ o
        → (words : Option (List Word)) → Fine (observed c w d o result words)
    observed_fine plain d o eo None = tt
    observed_fine plain d None eo (Some words) =
        (result_fits f w.values result Value.Poison h (λ r er. poison_fits (value_kind f r)), bytes)
    observed_fine plain d (Some t) eo (Some words) = (
      result_fits f w.values result (literal t (answer c.answers w.world.answers_used)) h
          (λ r er. fits_as (Some (kind_of t)) (value_kind f r) _
          (call_kind_is m f rules block at result must_tail ty callee args stands r er
          ∙ ap (λ (o : Option Ty). Some (result_kind callee o)) eo ∙ ap Some (plain t))
          (literal_fits t (answer c.answers w.world.answers_used))),
      bytes,
    )

  named_fine : (result : Option ℕ) (must_tail : Bool) (ty : Option Ty) (name : Name) (args : List Arg)
      → here ≡ AtInstr (Instr.Call result must_tail ty (Callee.Named name) args)
      → (o d : Option ℕ) → function_named m name ≡ o
      → Fine (named_call c w o d ty result must_tail (arg_values c.code w.values args))
  named_fine result must_tail ty name args e (Some k) d eo =
      let fits : fits_types ty (map (λ (a : Arg). a.ty) args) (slice_get m.functions k) ≡ true =
      ap (fits_position m ty (map (λ (a : Arg). a.ty) args) name) (sym eo)
      ∙ rules.calls block at result must_tail ty (Callee.Named name) args e in
      let r = function_there m k ty (map (λ (a : Arg). a.ty) args) fits in (
        args_fit c.code f w.values (Callee.Named name) args (function_at m k).params h
            (arguments_pass m f rules block at result must_tail ty (Callee.Named name) args e) r.1,
        gives_back m f rules block at result must_tail ty (Callee.Named name) args e (λ t. refl) k r.0,
      )
  named_fine result must_tail ty name args e None (Some d) eo =
      observed_fine result must_tail ty (Callee.Named name) args e (λ t. refl) d ty refl
      (words_of (arg_values c.code w.values args))
  named_fine result must_tail ty name args e None None eo = tt

  indirect_fine : (result : Option ℕ) (must_tail : Bool) (ty : Option Ty) (local : ℕ) (args : List Arg)
      → here ≡ AtInstr (Instr.Call result must_tail ty (Callee.Local local) args) → (v : Value)
      → Fine (indirect_call c v ty result must_tail args (arg_values c.code w.values args))
  indirect_fine result must_tail ty local args e (Value.Ptr (Pointer.Func g)) =
      on (slice_get c.code.functions g) refl
    where
      by : (x : Function) → slice_get c.code.functions g ≡ Some x → (t : Bool)
          → (same_result ty x.result && fits_params args x.params) ≡ t
          → Fine (if t then Enter g (arg_values c.code w.values args) result must_tail else Stuck Cause.Call)
      by x ex false et = tt
      by x ex true et =
          let r = both_true (same_result ty x.result) (fits_params args x.params) et in
          let is : function_at m g ≡ x =
          ap (λ (k : Module). function_at k g) (sym code)
          ∙ ap (λ (o : Option Function). unwrap_or o no_function) ex in (
            subst (λ (y : Function). FitParams y.params (arg_values c.code w.values args)) (sym is)
                (indirect_args c.code f w.values (Callee.Local local) args x.params h
                (arguments_pass m f rules block at result must_tail ty (Callee.Local local) args e) r.1),
            gives_back m f rules block at result must_tail ty (Callee.Local local) args e (λ t. refl) g
                (ap (λ (y : Function). same_types_of ty y.result) is ∙ steps_same ty x.result r.0),
          )

      on : (o : Option Function) → slice_get c.code.functions g ≡ o
          → Fine (if fits_function ty args o then Enter g (arg_values c.code w.values args) result must_tail else Stuck
          Cause.Call)
      on None eo = tt
      on (Some x) eo = by x eo (same_result ty x.result && fits_params args x.params) refl
  indirect_fine result must_tail ty local args e (Value.Ptr Pointer.Null) = tt
  indirect_fine result must_tail ty local args e (Value.Ptr (Pointer.At b o)) = tt
  indirect_fine result must_tail ty local args e Value.Poison = tt
  indirect_fine result must_tail ty local args e (Value.Int y) = tt

  -- an allocator gives a pointer
  allocated_fine : (result : Option ℕ) (must_tail : Bool) (ty : Option Ty) (a : Allocator) (args : List Arg)
      → here ≡ AtInstr (Instr.Call result must_tail ty (Callee.Allocator a) args)
      → is_result (allocator_result a) ty ≡ true → (vs : List Value) → Fine (allocator_call a w result vs)
  allocated_fine result must_tail ty a args e res vs = on a res (λ t. refl)
      (call_kind_is m f rules block at result must_tail ty (Callee.Allocator a) args e)
    where
      pointer : (ty : Option Ty) → is_result (allocator_result Allocator.Malloc) ty ≡ true
          → (k : Option Kind) (v : Value)
          → k ≡ Some (result_kind (Callee.Allocator Allocator.Malloc) ty) → FitsKind k v
      pointer None k l v e = absurd (cc)
      pointer (Some t) j k v ek = fits_as (Some (kind_of t)) k v ek (type_fits t v (λ u et.
          let no : is_ptr (int u) ≡ true = ap is_ptr (sym et) ∙ j in absurd (cc)))

      makes : is_result (allocator_result Allocator.Malloc) ty ≡ true
          → ((r : ℕ) → result ≡ Some r → value_kind f r ≡ Some (result_kind (Callee.Allocator Allocator.Malloc) ty))
          → Fine (with_length (nth vs 0) (λ size. Done (allocated w result size)))
      makes res kinds = length_fine (nth vs 0) (λ size. Done (allocated w result size)) (λ size. (
        result_fits f w.values result (pointer_to (length w.world.memory)) h
            (λ r er. pointer ty res (value_kind f r) (pointer_to (length w.world.memory)) (kinds r er)),
        fresh_has w.world.memory size 16 BlockKind.Allocator bytes,
      ))

      same_kind : (a b : Allocator) (o : Option Ty) → result_kind (Callee.Allocator a) o
          ≡ result_kind (Callee.Allocator b) o
      same_kind a b None = refl
      same_kind a b (Some t) = refl

      on : (a : Allocator) → is_result (allocator_result a) ty ≡ true
          → ((t : Ty) → result_kind (Callee.Allocator a) (Some t) ≡ kind_of t)
          → ((r : ℕ) → result ≡ Some r → value_kind f r ≡ Some (result_kind (Callee.Allocator a) ty))
          → Fine (allocator_call a w result vs)
      on Allocator.Malloc res plain kinds = makes res kinds
      on Allocator.Znwm res plain kinds =
          makes res (λ r er. kinds r er ∙ ap Some (same_kind Allocator.Znwm Allocator.Malloc ty))
      on Allocator.Free res plain kinds = tt
      on Allocator.ZdlPv res plain kinds = tt
      on Allocator.ZdlPvm res plain kinds = tt

  -- markers and copies change memory alone
  intrinsic_fine : (result : Option ℕ) (must_tail : Bool) (ty : Option Ty) (x : Intrinsic) (args : List Arg)
      → here ≡ AtInstr (Instr.Call result must_tail ty (Callee.Intrinsic x) args) → (vs : List Value)
      → Fine (intrinsic_call c w x result args vs)
  intrinsic_fine result must_tail ty x args e vs = on x e
    where
      marked : (g : List MemoryBlock → ℕ → List MemoryBlock)
          → ((b : ℕ) → HaveBytes (g w.world.memory b)) → (o : Option ℕ)
          → Fine (Done (set_memory w (on_block g w.world.memory o)))
      marked g k None = (h, bytes)
      marked g k (Some b) = (h, k b)

      copied : Fine (copied_bytes c w vs)
      copied = length_fine (nth vs 2)
          (λ k. done (set_memory w) (copy c.rights w.world.memory (address (nth vs 0)) (address (nth vs 1)) k))
          (λ k. memory_fine (copy c.rights w.world.memory (address (nth vs 0)) (address (nth vs 1)) k)
          (copy_has c.rights w.world.memory (address (nth vs 0)) (address (nth vs 1)) k bytes))

      on : (x : Intrinsic) → here ≡ AtInstr (Instr.Call result must_tail ty (Callee.Intrinsic x) args)
          → Fine (intrinsic_call c w x result args vs)
      on Intrinsic.LifetimeStart e = marked start (λ b. started_has w.world.memory b bytes) (block_of (nth vs 1))
      on Intrinsic.LifetimeEnd e = marked end (λ b. ended_has w.world.memory b bytes) (block_of (nth vs 1))
      on Intrinsic.MemcpyI64 e = copied
      on Intrinsic.MemcpyI32 e = copied
      on Intrinsic.CoroId e = Called must_tail ty e
      on Intrinsic.CoroSizeI32 e = Called must_tail ty e
      on Intrinsic.CoroSizeI64 e = Called must_tail ty e
      on Intrinsic.CoroAlignI32 e = Called must_tail ty e
      on Intrinsic.CoroAlignI64 e = Called must_tail ty e
      on Intrinsic.CoroAlloc e = Called must_tail ty e
      on Intrinsic.CoroBegin e = Called must_tail ty e
      on Intrinsic.CoroFree e = Called must_tail ty e
      on Intrinsic.CoroFrame e = Called must_tail ty e
      on Intrinsic.CoroSave e = Called must_tail ty e
      on Intrinsic.CoroSuspend e = Called must_tail ty e
      on Intrinsic.CoroEnd e = Called must_tail ty e
      on Intrinsic.CoroResume e = Called must_tail ty e
      on Intrinsic.CoroDestroy e = Called must_tail ty e
      on Intrinsic.CoroDone e = Called must_tail ty e
      on Intrinsic.CoroPromise e = Called must_tail ty e

  -- ---- all instructions

  pub instr_fine : (i : Instr) → here ≡ AtInstr i → Fine (instr_action c w i)
  instr_fine (Instr.Binary name op flags ty a b) e = done_fine (λ x. set_value w name (value_of x))
      (binary op flags (number_at ty (value_at c w ty a)) (number_at ty (value_at c w ty b)))
      (λ x ex. set name (value_of x)
      (own_kind (Instr.Binary name op flags ty a b) e name (kind_of ty) (kind_self name (kind_of ty)) (value_of x)
      (binary_fits op flags ty (value_at c w ty a) (value_at c w ty b) x ex)))
  instr_fine (Instr.Icmp name pred ty a b) e = compared_fine name pred ty (value_at c w ty a) (value_at c w ty b)
      (λ v k. own_kind (Instr.Icmp name pred ty a b) e name (Kind.Int 1) (kind_self name (Kind.Int 1)) v k)
  instr_fine (Instr.Select name x a b) e =
      let r = both_true (fits (value_kind f) (int 1) x)
      (same_type a.ty b.ty && (fits_scalar (value_kind f) a && fits_scalar (value_kind f) b))
      (rules.instrs block at (Instr.Select name x a b) e) in
      let s = both_true (same_type a.ty b.ty) (fits_scalar (value_kind f) a && fits_scalar (value_kind f) b) r.1 in
      let q = both_true (fits_scalar (value_kind f) a) (fits_scalar (value_kind f) b) s.1 in
      let one = both_true (is_scalar a.ty) (fits_arg (value_kind f) a) q.0 in
      let two = both_true (is_scalar b.ty) (fits_arg (value_kind f) b) q.1 in
      let v = chosen (value_at c w (int 1) x) (arg_value c.code w.values a) (arg_value c.code w.values b) in
      set name v (own_kind (Instr.Select name x a b) e name (kind_of a.ty) (kind_self name (kind_of a.ty)) v
      (chosen_fits (FitsType a.ty) (value_at c w (int 1) x) (arg_value c.code w.values a) (arg_value c.code w.values b)
      (poison_fits (Some (kind_of a.ty))) (arg_fits c.code f w.values a h one.1)
      (same_back a.ty b.ty (arg_value c.code w.values b) s.0 (arg_fits c.code f w.values b h two.1))))
  instr_fine (Instr.Cast name op nneg arg to) e =
      let v = cast_to op nneg (number_at arg.ty (arg_value c.code w.values arg)) to in
      set name v (own_kind (Instr.Cast name op nneg arg to) e name (kind_of to) (kind_self name (kind_of to)) v
      (cast_fits op nneg (number_at arg.ty (arg_value c.code w.values arg)) to))
  instr_fine (Instr.Alloca name ty align) e = if_fine align (alloca c w name (size_of c.code ty) align) (
    set_fits f w.values name (pointer_to (length w.world.memory)) h
        (own_kind (Instr.Alloca name ty align) e name Kind.Ptr (kind_self name Kind.Ptr)
        (pointer_to (length w.world.memory)) tt),
    on (has_markers c.function name),
  )
    where
      made : List MemoryBlock
      made = fresh w.world.memory (size_of c.code ty) align (alloca_kind c.function)

      has : HaveBytes made
      has = fresh_has w.world.memory (size_of c.code ty) align (alloca_kind c.function) bytes

      on : (t : Bool) → HaveBytes (if t then end (fresh w.world.memory (size_of c.code ty) align
          (alloca_kind c.function)) (length w.world.memory)
          else fresh w.world.memory (size_of c.code ty) align (alloca_kind c.function))
      on true = ended_has made (length w.world.memory) has
      on false = has
  instr_fine (Instr.Load name ty p align) e = if_fine align
      (done (set_value w name) (load c.rights w.world.memory (address (value_at c w ptr p)) (access_of ty) align))
      (done_fine (set_value w name)
      (load c.rights w.world.memory (address (value_at c w ptr p)) (access_of ty) align) (λ v ev. set name v
      (own_kind (Instr.Load name ty p align) e name (kind_of ty) (kind_self name (kind_of ty)) v
      (type_fits ty v (λ u et. loaded c.rights w.world.memory (address (value_at c w ptr p)) u align
      (ap has_width (sym et) ∙ rules.loads block at name ty p align e) bytes v
      (ap (λ (t : Ty). load c.rights w.world.memory (address (value_at c w ptr p)) (access_of t) align) (sym et)
      ∙ ev))))))
  instr_fine (Instr.Store arg p align) e = if_fine align
      (done (set_memory w) (store c.rights w.world.memory (address (value_at c w ptr p))
      (stored (access_of arg.ty) (arg_value c.code w.values arg)) (access_of arg.ty) align))
      (memory_fine (store c.rights w.world.memory (address (value_at c w ptr p))
      (stored (access_of arg.ty) (arg_value c.code w.values arg)) (access_of arg.ty) align)
      (store_has c.rights w.world.memory (address (value_at c w ptr p))
      (stored (access_of arg.ty) (arg_value c.code w.values arg)) (access_of arg.ty) align bytes))
  instr_fine (Instr.Gep name inbounds ty base indices) e =
      let v = element w.world.memory inbounds (value_at c w ptr base)
      (distance c.code ty (indices_of c.code w.values indices)) in
      set name v (own_kind (Instr.Gep name inbounds ty base indices) e name Kind.Ptr (kind_self name Kind.Ptr) v tt)
  instr_fine (Instr.Call result must_tail ty (Callee.Named name) args) e =
      named_fine result must_tail ty name args e (function_named c.code name) (declaration_named c.code name)
      (ap (λ (k : Module). function_named k name) (sym code))
  instr_fine (Instr.Call result must_tail ty (Callee.Allocator a) args) e =
      let r = both_true (is_result (allocator_result a) ty && are_wanted (allocator_params a) args) _
      (rules.calls block at result must_tail ty (Callee.Allocator a) args e) in
      allocated_fine result must_tail ty a args e
      (both_true (is_result (allocator_result a) ty) (are_wanted (allocator_params a) args) r.0).0
      (arg_values c.code w.values args)
  instr_fine (Instr.Call result must_tail ty (Callee.Intrinsic x) args) e =
      intrinsic_fine result must_tail ty x args e (arg_values c.code w.values args)
  instr_fine (Instr.Call result must_tail ty (Callee.Local local) args) e =
      indirect_fine result must_tail ty local args e (value_in w.values local)

  -- ---- terminators

  returned_fits : (o : Option Ty) (arg : Option Arg) → fits_return (value_kind f) o arg ≡ true → f.result ≡ o
      → (v : Option Value) → term_action c w (Terminator.Ret arg) ≡ Return v
      → FitsResult f.result (unwrap_or v Value.Poison)
  returned_fits None arg e eo v k = subst (λ (o : Option Ty). FitsResult o (unwrap_or v Value.Poison)) (sym eo) tt
  returned_fits (Some t) None e eo v k = absurd (cc)
  returned_fits (Some t) (Some a) e eo v k =
      let r = both_true (same_type a.ty t) (fits_scalar (value_kind f) a) e in
      let q = both_true (is_scalar a.ty) (fits_arg (value_kind f) a) r.1 in
      let is : Some (arg_value c.code w.values a) ≡ v = cc in
      subst (λ (o : Option Ty). FitsResult o (unwrap_or v Value.Poison)) (sym eo)
      (subst (λ (o : Option Value). FitsType t (unwrap_or o Value.Poison)) is
      (same_fits a.ty t (arg_value c.code w.values a) r.0 (arg_fits c.code f w.values a h q.1)))

  branch_fine : (v : Value) (a b : ℕ) → Fine (branch v a b)
  branch_fine (Value.Int x) a b = tt
  branch_fine Value.Poison a b = tt
  branch_fine (Value.Ptr p) a b = tt

  switch_fine : (v : Value) (default : ℕ) (cases : List Case) → Fine (switch c.code v default cases)
  switch_fine (Value.Int x) default cases = tt
  switch_fine Value.Poison default cases = tt
  switch_fine (Value.Ptr p) default cases = tt

  pub term_fine : (t : Terminator) → here ≡ AtTerm t → Fine (term_action c w t)
  term_fine (Terminator.Jump label) e = tt
  term_fine (Terminator.Branch x a b) e = branch_fine (value_at c w (int 1) x) a b
  term_fine (Terminator.Switch arg default cases) e = switch_fine (arg_value c.code w.values arg) default cases
  term_fine (Terminator.Ret None) e =
      returned_fits f.result None (rules.ends block at (Terminator.Ret None) e) refl None refl
  term_fine (Terminator.Ret (Some arg)) e =
      returned_fits f.result (Some arg) (rules.ends block at (Terminator.Ret (Some arg)) e) refl
      (Some (arg_value c.code w.values arg)) refl
  term_fine Terminator.Unreachable e = tt

  pub action_fine : (x : Fetched) → here ≡ x → Fine (action_of c w x)
  action_fine Nowhere e = tt
  action_fine (AtInstr i) e = instr_fine i e
  action_fine (AtTerm t) e = term_fine t e
