-- An instruction gives a pointer or poison to a name of a pointer's type.
use Rattle.std.proofs.Common.{◌≡◌, ℕ, Bool, true, false, List, [], ◌∷◌, length, map, ◌&&◌, Option, Some, None, Result}
use Rattle.std.proofs.Common.{Ok, Err}
use Rattle.std.proofs.Common.{refl, sym, ap, ◌∙◌, subst}
use Rattle.std.specs.List.{list_all}
use Rattle.std.specs.Prelude.{if◌then◌else◌, not, slice_get, unwrap_or, ◌==◌}
use Rattle.pass_frames_proof.specs.ir_base.declared.cause.Cause.{Cause}
use Rattle.pass_frames_proof.specs.ir_base.declared.name.Name.{Name}
use Rattle.pass_frames_proof.specs.ir_base.declared.ops.CastOp.{CastOp}
use Rattle.pass_frames_proof.specs.ir_base.declared.ops.Pred.{Pred}
use Rattle.pass_frames_proof.specs.ir_base.declared.outcome.Word.{Word}
use Rattle.pass_frames_proof.specs.ir_model.Layout.{same_type, size_of}
use Rattle.pass_frames_proof.specs.ir_model.Names.{declaration_named, function_at, function_named, no_function}
use Rattle.pass_frames_proof.specs.ir_model.Ty.{Ty, array, int, named, ptr, structure, token}
use Rattle.pass_frames_proof.specs.ir_model.declared.instr.Case.{Case}
use Rattle.pass_frames_proof.specs.ir_model.declared.instr.Instr.{Instr}
use Rattle.pass_frames_proof.specs.ir_model.declared.instr.Terminator.{Terminator}
use Rattle.pass_frames_proof.specs.ir_model.declared.module.Function.{Function}
use Rattle.pass_frames_proof.specs.ir_model.declared.module.Module.{Module}
use Rattle.pass_frames_proof.specs.ir_model.declared.module.Param.{Param}
use Rattle.pass_frames_proof.specs.ir_model.declared.operand.Allocator.{Allocator}
use Rattle.pass_frames_proof.specs.ir_model.declared.operand.Arg.{Arg}
use Rattle.pass_frames_proof.specs.ir_model.declared.operand.Callee.{Callee}
use Rattle.pass_frames_proof.specs.ir_model.declared.operand.Intrinsic.{Intrinsic}
use Rattle.pass_frames_meaning.proofs.pointers.Values.{address_points, arg_points, literal_points, no_pointer}
use Rattle.pass_frames_meaning.proofs.pointers.Values.{points_as, points_back, points_on, poison_points}
use Rattle.pass_frames_meaning.proofs.pointers.Values.{result_points, same_points, set_points, type_points}
use Rattle.pass_frames_meaning.specs.Pointers.{ArePointing, IsAddress, PointParams, PointsAs, PointsBack, PointsBy}
use Rattle.pass_frames_meaning.specs.Pointers.{PointsOn}
use Rattle.pass_frames_proof.specs.rule_types.Signatures.{fits_function as fits_types, fits_position, same_list}
use Rattle.pass_frames_proof.specs.rule_types.Signatures.{same_result as same_types_of}
use Rattle.pass_frames_proof.specs.rule_values.Fits.{fits, fits_arg, fits_scalar, is_integer, is_scalar}
use Rattle.pass_frames_proof.specs.rule_values.Instrs.{both_fit, is_passed, passes}
use Rattle.pass_frames_proof.specs.rule_values.Kinds.{instr_kind, kind_of, result_kind, value_kind}
use Rattle.pass_frames_proof.specs.rule_values.Values.{fits_return}
use Rattle.pass_frames_proof.specs.rule_values.declared.kinds.Kind.{Kind}
use Rattle.pass_frames_proof.specs.run_memory.Memory.{Rights, access_bytes, are_parts, bytes_at, compare, copy, decode, load, on_ok}
use Rattle.pass_frames_proof.specs.run_memory.Memory.{pointer_from, range, store}
use Rattle.pass_frames_proof.specs.run_memory.declared.block.Byte.{Byte}
use Rattle.pass_frames_proof.specs.run_memory.declared.block.MemoryBlock.{MemoryBlock}
use Rattle.pass_frames_proof.specs.run_memory.declared.pointer.Pointer.{Pointer}
use Rattle.pass_frames_proof.specs.run_memory.declared.pointer.Value.{Value}
use Rattle.pass_frames_proof.specs.run_memory.declared.pointer.Spot.{Spot}
use Rattle.pass_frames_proof.specs.run_step.Step.{Action, AtInstr, AtTerm, Context, Coro, Done, Enter, Fetched, NewSlot, Nowhere}
use Rattle.pass_frames_proof.specs.run_step.Step.{Return, Stuck, Work}
use Rattle.pass_frames_proof.specs.run_step.Step.{action_of, alloca, allocated, allocator_call, answer, branch}
use Rattle.pass_frames_proof.specs.run_step.Step.{by_pred, cast_to, chosen, compared, copied_bytes, done, fetch, fits_function}
use Rattle.pass_frames_proof.specs.run_step.Step.{fits_params, if_alignment, indirect_call, instr_action, intrinsic_call}
use Rattle.pass_frames_proof.specs.run_step.Step.{is_alignment, named_call, observed, same_result, set_memory, set_value}
use Rattle.pass_frames_proof.specs.run_step.Step.{switch, term_action, value_at, with_length, words_of}
use Rattle.pass_frames_proof.specs.run_memory.Pointers.{moved}
use Rattle.pass_frames_proof.specs.run_step.Values.{Env, access_of, address, arg_value, arg_values, element, indices_of, is_in_bounds}
use Rattle.pass_frames_proof.specs.run_step.Values.{distance, literal, moved_by}
use Rattle.pass_frames_proof.specs.run_step.Values.{nth, number_at, number_of_width, pointer_to, stored, truth_value, value_in, value_of}
use Rattle.pass_renewed_meaning.proofs.run_types.Fit.{both_true, kind_self}
use Rattle.pass_renewed_meaning.proofs.run_types.Results.{Called, IsCoroCall, chosen_fits, function_there}
use Rattle.pass_renewed_meaning.proofs.run_types.Rules.{arguments_pass, call_kind_is, steps_same}
use Rattle.pass_renewed_meaning.specs.run_types.Rules.{KeepsTypes}

-- ---- what an action gives

abbrev pub PointsAction : Module → Function → Fetched → Action → Type 0
PointsAction m f here (Done w) = ArePointing f w.values
PointsAction m f here (NewSlot w slot) = ArePointing f w.values
PointsAction m f here (Enter func args result must_tail) =
    PointParams (function_at m func).params args × PointsOn m func result f
PointsAction m f here (Coro j args result) = IsCoroCall here j args result
PointsAction m f here (Return v) = PointsBack f.result (unwrap_or v Value.Poison)
PointsAction m f here _ = Unit {0}

-- ---- results of operations

cast_points : (op : CastOp) (nneg : Bool) (from : Ty) (v : Value) (to : Ty)
    → PointsBy to (cast_to op nneg (number_at from v) to)
cast_points op nneg from v (int w) = tt
cast_points op nneg from v ptr = tt
cast_points op nneg from v token = tt
cast_points op nneg from v (array k t) = tt
cast_points op nneg from v (structure ts) = tt
cast_points op nneg from v (named k) = tt

from_bytes : (bytes : List Byte) → IsAddress (pointer_from bytes)
from_bytes [] = tt
from_bytes (Byte.Undefined ∷ bytes) = tt
from_bytes (Byte.Number n ∷ bytes) = tt
from_bytes (Byte.Part p k ∷ bytes) = on (are_parts p 0 (Byte.Part p k ∷ bytes))
  where
    on : (t : Bool) → IsAddress (if t then Value.Ptr p else Value.Poison)
    on true = tt
    on false = tt

-- what is loaded as a pointer is one
loaded_address : (rights : Rights) (m : List MemoryBlock) (p : Value) (align : ℕ) (v : Value)
    → load rights m p (access_of ptr) align ≡ Ok v → IsAddress v
loaded_address rights m p align v e = on (range rights m p (access_bytes (access_of ptr)) align) e
  where
    on : (r : Result Spot Cause)
        → on_ok (λ spot. Ok (decode (access_of ptr) (bytes_at m spot (access_bytes (access_of ptr))))) r ≡ Ok v
        → IsAddress v
    on (Err cause) k = absurd (cc)
    on (Ok spot) k =
        let same : decode (access_of ptr) (bytes_at m spot (access_bytes (access_of ptr))) ≡ v = cc in
        subst IsAddress same (from_bytes (bytes_at m spot (access_bytes (access_of ptr))))

moved_address : (memory : List MemoryBlock) (inbounds : Bool) (p : Value) (d : ℕ)
    → IsAddress (moved_by memory inbounds p d)
moved_address memory inbounds (Value.Ptr Pointer.Null) d = on (d == 0)
  where
    on : (t : Bool) → IsAddress (if t then Value.Ptr Pointer.Null else Value.Poison)
    on true = tt
    on false = tt
moved_address memory inbounds (Value.Ptr (Pointer.At b o)) d =
    on (inbounds && not (is_in_bounds (slice_get memory b) (moved o d)))
  where
    on : (t : Bool) → IsAddress (if t then Value.Poison else Value.Ptr (Pointer.At b (moved o d)))
    on true = tt
    on false = tt
moved_address memory inbounds (Value.Ptr (Pointer.Func g)) d = tt
moved_address memory inbounds Value.Poison d = tt
moved_address memory inbounds (Value.Int x) d = tt

element_address : (memory : List MemoryBlock) (inbounds : Bool) (p : Value) (o : Option ℕ)
    → IsAddress (element memory inbounds p o)
element_address memory inbounds p None = tt
element_address memory inbounds p (Some d) = moved_address memory inbounds p d

-- ---- arguments

args_point : (m : Module) (f : Function) (env : Env) (callee : Callee) (args : List Arg) (params : List Param)
    → ArePointing f env → list_all (passes (value_kind f) callee) args ≡ true
    → same_list (map (λ a. a.ty) args) (map (λ (p : Param). p.ty) params) ≡ true
    → PointParams params (arg_values m env args)
args_point m f env callee [] [] h e k = tt
args_point m f env callee [] (p ∷ params) h e k = tt
args_point m f env callee (a ∷ args) [] h e k = tt
args_point m f env callee (a ∷ args) (p ∷ params) h e k =
    let r = both_true (is_passed callee a.ty && fits_arg (value_kind f) a)
    (list_all (passes (value_kind f) callee) args) e in
    let q = both_true (is_passed callee a.ty) (fits_arg (value_kind f) a) r.0 in
    let s = both_true (same_type a.ty p.ty) (same_list (map (λ b. b.ty) args) (map (λ (b : Param). b.ty) params)) k in (
      same_points a.ty p.ty (arg_value m env a) s.0 (arg_points m f env a h q.1),
      args_point m f env callee args params h r.1 s.1,
    )

-- those of an indirect call
indirect_point : (m : Module) (f : Function) (env : Env) (callee : Callee) (args : List Arg) (params : List Param)
    → ArePointing f env → list_all (passes (value_kind f) callee) args ≡ true → fits_params args params ≡ true
    → PointParams params (arg_values m env args)
indirect_point m f env callee [] [] h e k = tt
indirect_point m f env callee [] (p ∷ params) h e k = tt
indirect_point m f env callee (a ∷ args) [] h e k = tt
indirect_point m f env callee (a ∷ args) (p ∷ params) h e k =
    let r = both_true (is_passed callee a.ty && fits_arg (value_kind f) a)
    (list_all (passes (value_kind f) callee) args) e in
    let q = both_true (is_passed callee a.ty) (fits_arg (value_kind f) a) r.0 in
    let s = both_true (same_type a.ty p.ty) (fits_params args params) k in (
      same_points a.ty p.ty (arg_value m env a) s.0 (arg_points m f env a h q.1),
      indirect_point m f env callee args params h r.1 s.1,
    )

-- ---- an instruction

module _ (m : Module) (f : Function) (rules : KeepsTypes m f) (block at : ℕ) (c : Context) (code : c.code ≡ m)
    (w : Work)
    (h : ArePointing f w.values) where
  abbrev here : Fetched
  here = fetch f block at

  abbrev Fine : Action → Type 0
  Fine a = PointsAction m f (fetch f block at) a

  set : (name : ℕ) (v : Value) → PointsAs (value_kind f name) v → Fine (Done (set_value w name v))
  set name v k = set_points f w.values name v h k

  done_fine : {A : Type 0} (g : A → Work) (r : Result A Cause) → ((a : A) → r ≡ Ok a → Fine (Done (g a)))
      → Fine (done g r)
  done_fine g (Err cause) k = tt
  done_fine g (Ok a) k = k a refl

  if_fine : (align : ℕ) (a : Action) → Fine a → Fine (if_alignment align a)
  if_fine align a k = on (is_alignment align)
    where
      on : (t : Bool) → Fine (if t then a else Stuck Cause.Align)
      on true = k
      on false = tt

  length_fine : (v : Value) (g : ℕ → Action) → ((k : ℕ) → Fine (g k)) → Fine (with_length v g)
  length_fine (Value.Int x) g k = k x.bits
  length_fine Value.Poison g k = tt
  length_fine (Value.Ptr p) g k = tt

  memory_fine : (r : Result (List MemoryBlock) Cause) → Fine (done (set_memory w) r)
  memory_fine (Err cause) = tt
  memory_fine (Ok memory) = h

  -- a name of the kind that its instruction gives
  own_kind : (i : Instr) → here ≡ AtInstr i → (name : ℕ) (kind : Kind) → instr_kind i name ≡ Some kind → (v : Value)
      → PointsAs (Some kind) v → PointsAs (value_kind f name) v
  own_kind i e name kind k v fit = points_as (Some kind) (value_kind f name) v
      (rules.given block at name i kind e k) fit

  compared_fine : (name : ℕ) (pred : Pred) (ty : Ty) (a b : Value)
      → ((v : Value) → PointsAs (value_kind f name) v) → Fine (compared c w name pred ty a b)
  compared_fine name pred (int k) a b own =
      set name _ (own _)
  compared_fine name pred ptr a b own = done_fine (λ same. set_value w name (truth_value (by_pred pred same)))
      (compare c.rights w.world.memory (address a) (address b))
      (λ same e. set name (truth_value (by_pred pred same)) (own (truth_value (by_pred pred same))))
  compared_fine name pred token a b own = done_fine (λ same. set_value w name (truth_value (by_pred pred same)))
      (compare c.rights w.world.memory (address a) (address b))
      (λ same e. set name (truth_value (by_pred pred same)) (own (truth_value (by_pred pred same))))
  compared_fine name pred (array k t) a b own = done_fine (λ same. set_value w name (truth_value (by_pred pred same)))
      (compare c.rights w.world.memory (address a) (address b))
      (λ same e. set name (truth_value (by_pred pred same)) (own (truth_value (by_pred pred same))))
  compared_fine name pred (structure ts) a b own = done_fine
      (λ same. set_value w name (truth_value (by_pred pred same)))
      (compare c.rights w.world.memory (address a) (address b))
      (λ same e. set name (truth_value (by_pred pred same)) (own (truth_value (by_pred pred same))))
  compared_fine name pred (named k) a b own = done_fine (λ same. set_value w name (truth_value (by_pred pred same)))
      (compare c.rights w.world.memory (address a) (address b))
      (λ same e. set name (truth_value (by_pred pred same)) (own (truth_value (by_pred pred same))))

  -- ---- calls

  module _ (result : Option ℕ) (must_tail : Bool) (ty : Option Ty) (callee : Callee) (args : List Arg)
      (stands : fetch f block at ≡ AtInstr (Instr.Call result must_tail ty callee args)) where
    observed_fine : ((t : Ty) → result_kind callee (Some t) ≡ kind_of t) → (d : ℕ) (o : Option Ty) → ty ≡ o
        → (words : Option (List Word)) → Fine (observed c w d o result words)
    observed_fine plain d o eo None = tt
    observed_fine plain d None eo (Some words) =
        result_points f w.values result Value.Poison h (λ r er. poison_points (value_kind f r))
    observed_fine plain d (Some t) eo (Some words) =
        result_points f w.values result (literal t (answer c.answers w.world.answers_used)) h
        (λ r er. points_as (Some (kind_of t)) (value_kind f r) _
        (call_kind_is m f rules block at result must_tail ty callee args stands r er
        ∙ ap (λ (o : Option Ty). Some (result_kind callee o)) eo ∙ ap Some (plain t))
        (literal_points t (answer c.answers w.world.answers_used)))

  named_fine : (result : Option ℕ) (must_tail : Bool) (ty : Option Ty) (name : Name) (args : List Arg)
      → here ≡ AtInstr (Instr.Call result must_tail ty (Callee.Named name) args)
      → (o d : Option ℕ) → function_named m name ≡ o
      → Fine (named_call c w o d ty result must_tail (arg_values c.code w.values args))
  named_fine result must_tail ty name args e (Some k) d eo =
      let fits : fits_types ty (map (λ (a : Arg). a.ty) args) (slice_get m.functions k) ≡ true =
      ap (fits_position m ty (map (λ (a : Arg). a.ty) args) name) (sym eo)
      ∙ rules.calls block at result must_tail ty (Callee.Named name) args e in
      let r = function_there m k ty (map (λ (a : Arg). a.ty) args) fits in (
        args_point c.code f w.values (Callee.Named name) args (function_at m k).params h
            (arguments_pass m f rules block at result must_tail ty (Callee.Named name) args e) r.1,
        points_on m f rules block at result must_tail ty (Callee.Named name) args e (λ t. refl) k r.0,
      )
  named_fine result must_tail ty name args e None (Some d) eo =
      observed_fine result must_tail ty (Callee.Named name) args e (λ t. refl) d ty refl
      (words_of (arg_values c.code w.values args))
  named_fine result must_tail ty name args e None None eo = tt

  indirect_fine : (result : Option ℕ) (must_tail : Bool) (ty : Option Ty) (local : ℕ) (args : List Arg)
      → here ≡ AtInstr (Instr.Call result must_tail ty (Callee.Local local) args) → (v : Value)
      → Fine (indirect_call c v ty result must_tail args (arg_values c.code w.values args))
  indirect_fine result must_tail ty local args e (Value.Ptr (Pointer.Func g)) =
      on (slice_get c.code.functions g) refl
    where
      by : (x : Function) → slice_get c.code.functions g ≡ Some x → (t : Bool)
          → (same_result ty x.result && fits_params args x.params) ≡ t
          → Fine (if t then Enter g (arg_values c.code w.values args) result must_tail else Stuck Cause.Call)
      by x ex false et = tt
      by x ex true et =
          let r = both_true (same_result ty x.result) (fits_params args x.params) et in
          let is : function_at m g ≡ x =
          ap (λ (k : Module). function_at k g) (sym code)
          ∙ ap (λ (o : Option Function). unwrap_or o no_function) ex in (
            subst (λ (y : Function). PointParams y.params (arg_values c.code w.values args)) (sym is)
                (indirect_point c.code f w.values (Callee.Local local) args x.params h
                (arguments_pass m f rules block at result must_tail ty (Callee.Local local) args e) r.1),
            points_on m f rules block at result must_tail ty (Callee.Local local) args e (λ t. refl) g
                (ap (λ (y : Function). same_types_of ty y.result) is ∙ steps_same ty x.result r.0),
          )

      on : (o : Option Function) → slice_get c.code.functions g ≡ o
          → Fine (if fits_function ty args o then Enter g (arg_values c.code w.values args) result must_tail else Stuck
          Cause.Call)
      on None eo = tt
      on (Some x) eo = by x eo (same_result ty x.result && fits_params args x.params) refl
  indirect_fine result must_tail ty local args e (Value.Ptr Pointer.Null) = tt
  indirect_fine result must_tail ty local args e (Value.Ptr (Pointer.At b o)) = tt
  indirect_fine result must_tail ty local args e Value.Poison = tt
  indirect_fine result must_tail ty local args e (Value.Int y) = tt

  -- an allocator gives a pointer
  allocated_fine : (result : Option ℕ) (a : Allocator) (vs : List Value) → Fine (allocator_call a w result vs)
  allocated_fine result a vs = on a
    where
      makes : Fine (with_length (nth vs 0) (λ size. Done (allocated w result size)))
      makes = length_fine (nth vs 0) (λ size. Done (allocated w result size)) (λ size.
          result_points f w.values result (pointer_to (length w.world.memory)) h
          (λ r er. address_points (value_kind f r) (pointer_to (length w.world.memory)) tt))

      on : (a : Allocator) → Fine (allocator_call a w result vs)
      on Allocator.Malloc = makes
      on Allocator.Znwm = makes
      on Allocator.Free = tt
      on Allocator.ZdlPv = tt
      on Allocator.ZdlPvm = tt

  -- markers and copies change memory alone
  intrinsic_fine : (result : Option ℕ) (must_tail : Bool) (ty : Option Ty) (x : Intrinsic) (args : List Arg)
      → here ≡ AtInstr (Instr.Call result must_tail ty (Callee.Intrinsic x) args) → (vs : List Value)
      → Fine (intrinsic_call c w x result args vs)
  intrinsic_fine result must_tail ty x args e vs = on x e
    where
      copied : Fine (copied_bytes c w vs)
      copied = length_fine (nth vs 2)
          (λ k. done (set_memory w) (copy c.rights w.world.memory (address (nth vs 0)) (address (nth vs 1)) k))
          (λ k. memory_fine (copy c.rights w.world.memory (address (nth vs 0)) (address (nth vs 1)) k))

      on : (x : Intrinsic) → here ≡ AtInstr (Instr.Call result must_tail ty (Callee.Intrinsic x) args)
          → Fine (intrinsic_call c w x result args vs)
      on Intrinsic.LifetimeStart e = h
      on Intrinsic.LifetimeEnd e = h
      on Intrinsic.MemcpyI64 e = copied
      on Intrinsic.MemcpyI32 e = copied
      on Intrinsic.CoroId e = Called must_tail ty e
      on Intrinsic.CoroSizeI32 e = Called must_tail ty e
      on Intrinsic.CoroSizeI64 e = Called must_tail ty e
      on Intrinsic.CoroAlignI32 e = Called must_tail ty e
      on Intrinsic.CoroAlignI64 e = Called must_tail ty e
      on Intrinsic.CoroAlloc e = Called must_tail ty e
      on Intrinsic.CoroBegin e = Called must_tail ty e
      on Intrinsic.CoroFree e = Called must_tail ty e
      on Intrinsic.CoroFrame e = Called must_tail ty e
      on Intrinsic.CoroSave e = Called must_tail ty e
      on Intrinsic.CoroSuspend e = Called must_tail ty e
      on Intrinsic.CoroEnd e = Called must_tail ty e
      on Intrinsic.CoroResume e = Called must_tail ty e
      on Intrinsic.CoroDestroy e = Called must_tail ty e
      on Intrinsic.CoroDone e = Called must_tail ty e
      on Intrinsic.CoroPromise e = Called must_tail ty e

  -- ---- all instructions

  pub instr_fine : (i : Instr) → here ≡ AtInstr i → Fine (instr_action c w i)
  instr_fine (Instr.Binary name op flags ty a b) e = done_fine (λ x. set_value w name (value_of x))
      _
      (λ x ex. set name (value_of x)
      (own_kind (Instr.Binary name op flags ty a b) e name (kind_of ty) (kind_self name (kind_of ty)) (value_of x)
      (no_pointer is_integer refl ty (both_true (is_integer ty) (both_fit (value_kind f) ty a b)
      (rules.instrs block at (Instr.Binary name op flags ty a b) e)).0 (value_of x))))
  instr_fine (Instr.Icmp name pred ty a b) e = compared_fine name pred ty (value_at c w ty a) (value_at c w ty b)
      (λ v. own_kind (Instr.Icmp name pred ty a b) e name (Kind.Int 1) (kind_self name (Kind.Int 1)) v tt)
  instr_fine (Instr.Select name x a b) e =
      let r = both_true (fits (value_kind f) (int 1) x)
      (same_type a.ty b.ty && (fits_scalar (value_kind f) a && fits_scalar (value_kind f) b))
      (rules.instrs block at (Instr.Select name x a b) e) in
      let s = both_true (same_type a.ty b.ty) (fits_scalar (value_kind f) a && fits_scalar (value_kind f) b) r.1 in
      let q = both_true (fits_scalar (value_kind f) a) (fits_scalar (value_kind f) b) s.1 in
      let one = both_true (is_scalar a.ty) (fits_arg (value_kind f) a) q.0 in
      let two = both_true (is_scalar b.ty) (fits_arg (value_kind f) b) q.1 in
      let v = chosen (value_at c w (int 1) x) (arg_value c.code w.values a) (arg_value c.code w.values b) in
      set name v (own_kind (Instr.Select name x a b) e name (kind_of a.ty) (kind_self name (kind_of a.ty)) v
      (chosen_fits (PointsBy a.ty) (value_at c w (int 1) x) (arg_value c.code w.values a) (arg_value c.code w.values b)
      (poison_points (Some (kind_of a.ty))) (arg_points c.code f w.values a h one.1)
      (points_back a.ty b.ty (arg_value c.code w.values b) s.0 (arg_points c.code f w.values b h two.1))))
  instr_fine (Instr.Cast name op nneg arg to) e =
      let v = cast_to op nneg (number_at arg.ty (arg_value c.code w.values arg)) to in
      set name v (own_kind (Instr.Cast name op nneg arg to) e name (kind_of to) (kind_self name (kind_of to)) v
      (cast_points op nneg arg.ty (arg_value c.code w.values arg) to))
  instr_fine (Instr.Alloca name ty align) e = if_fine align (alloca c w name (size_of c.code ty) align)
      (set_points f w.values name (pointer_to (length w.world.memory)) h
      (own_kind (Instr.Alloca name ty align) e name Kind.Ptr (kind_self name Kind.Ptr)
      (pointer_to (length w.world.memory)) tt))
  instr_fine (Instr.Load name ty p align) e = if_fine align
      (done (set_value w name) (load c.rights w.world.memory (address (value_at c w ptr p)) (access_of ty) align))
      (done_fine (set_value w name)
      (load c.rights w.world.memory (address (value_at c w ptr p)) (access_of ty) align) (λ v ev. set name v
      (own_kind (Instr.Load name ty p align) e name (kind_of ty) (kind_self name (kind_of ty)) v
      (type_points ty v (λ et. loaded_address c.rights w.world.memory (address (value_at c w ptr p)) align v
      (ap (λ (t : Ty). load c.rights w.world.memory (address (value_at c w ptr p)) (access_of t) align) (sym et)
      ∙ ev))))))
  instr_fine (Instr.Store arg p align) e = if_fine align
      (done (set_memory w) (store c.rights w.world.memory (address (value_at c w ptr p))
      (stored (access_of arg.ty) (arg_value c.code w.values arg)) (access_of arg.ty) align))
      (memory_fine (store c.rights w.world.memory (address (value_at c w ptr p))
      (stored (access_of arg.ty) (arg_value c.code w.values arg)) (access_of arg.ty) align))
  instr_fine (Instr.Gep name inbounds ty base indices) e =
      let v = element w.world.memory inbounds (value_at c w ptr base)
      (distance c.code ty (indices_of c.code w.values indices)) in
      set name v (own_kind (Instr.Gep name inbounds ty base indices) e name Kind.Ptr (kind_self name Kind.Ptr) v
      (element_address w.world.memory inbounds (value_at c w ptr base)
      (distance c.code ty (indices_of c.code w.values indices))))
  instr_fine (Instr.Call result must_tail ty (Callee.Named name) args) e =
      named_fine result must_tail ty name args e (function_named c.code name) (declaration_named c.code name)
      (ap (λ (k : Module). function_named k name) (sym code))
  instr_fine (Instr.Call result must_tail ty (Callee.Allocator a) args) e =
      allocated_fine result a (arg_values c.code w.values args)
  instr_fine (Instr.Call result must_tail ty (Callee.Intrinsic x) args) e =
      intrinsic_fine result must_tail ty x args e (arg_values c.code w.values args)
  instr_fine (Instr.Call result must_tail ty (Callee.Local local) args) e =
      indirect_fine result must_tail ty local args e (value_in w.values local)

  -- ---- terminators

  returned_fits : (o : Option Ty) (arg : Option Arg) → fits_return (value_kind f) o arg ≡ true → f.result ≡ o
      → (v : Option Value) → term_action c w (Terminator.Ret arg) ≡ Return v
      → PointsBack f.result (unwrap_or v Value.Poison)
  returned_fits None arg e eo v k = subst (λ (o : Option Ty). PointsBack o (unwrap_or v Value.Poison)) (sym eo) tt
  returned_fits (Some t) None e eo v k = absurd (cc)
  returned_fits (Some t) (Some a) e eo v k =
      let r = both_true (same_type a.ty t) (fits_scalar (value_kind f) a) e in
      let q = both_true (is_scalar a.ty) (fits_arg (value_kind f) a) r.1 in
      let is : Some (arg_value c.code w.values a) ≡ v = cc in
      subst (λ (o : Option Ty). PointsBack o (unwrap_or v Value.Poison)) (sym eo)
      (subst (λ (o : Option Value). PointsBy t (unwrap_or o Value.Poison)) is
      (same_points a.ty t (arg_value c.code w.values a) r.0 (arg_points c.code f w.values a h q.1)))

  branch_fine : (v : Value) (a b : ℕ) → Fine (branch v a b)
  branch_fine (Value.Int x) a b = tt
  branch_fine Value.Poison a b = tt
  branch_fine (Value.Ptr p) a b = tt

  switch_fine : (v : Value) (default : ℕ) (cases : List Case) → Fine (switch c.code v default cases)
  switch_fine (Value.Int x) default cases = tt
  switch_fine Value.Poison default cases = tt
  switch_fine (Value.Ptr p) default cases = tt

  pub term_fine : (t : Terminator) → here ≡ AtTerm t → Fine (term_action c w t)
  term_fine (Terminator.Jump label) e = tt
  term_fine (Terminator.Branch x a b) e = branch_fine (value_at c w (int 1) x) a b
  term_fine (Terminator.Switch arg default cases) e = switch_fine (arg_value c.code w.values arg) default cases
  term_fine (Terminator.Ret None) e =
      returned_fits f.result None (rules.ends block at (Terminator.Ret None) e) refl None refl
  term_fine (Terminator.Ret (Some arg)) e =
      returned_fits f.result (Some arg) (rules.ends block at (Terminator.Ret (Some arg)) e) refl
      (Some (arg_value c.code w.values arg)) refl
  term_fine Terminator.Unreachable e = tt

  pub action_fine : (x : Fetched) → here ≡ x → Fine (action_of c w x)
  action_fine Nowhere e = tt
  action_fine (AtInstr i) e = instr_fine i e
  action_fine (AtTerm t) e = term_fine t e
