-- An ordinary step in a changed module does the same, changed.
use Rattle.std.proofs.Common.{◌≡◌, ℕ, zero, suc, Bool, true, false, List, [], ◌∷◌, length, refl, sym, ap, ◌∙◌}
use Rattle.std.proofs.lemmas.List.{map-append}
use Rattle.std.specs.Prelude.{map, slice_get, Some, None, Ok, Err, Option, Result, unwrap_or, option_map, if◌then◌else◌}
use Rattle.run_memory.specs.Memory.{Rights, compare, copy, end, fresh, load, store}
use Rattle.run_memory.specs.declared.block.Kind.{Kind}
use Rattle.run_memory.specs.declared.block.MemoryBlock.{MemoryBlock}
use Rattle.run_memory.specs.declared.pointer.Pointer.{Pointer}
use Rattle.run_memory.specs.declared.pointer.Value.{Value}
use Rattle.ir_base.specs.declared.cause.Cause.{Cause}
use Rattle.ir_base.specs.declared.ops.Pred.{Pred}
use Rattle.ir_base.specs.declared.outcome.Event.{Event}
use Rattle.ir_base.specs.declared.outcome.Word.{Word}
use Rattle.run_ints.specs.Numbers.{binary}
use Rattle.ir_model.specs.Layout.{Extent, extent_of, extent_or, field_offset_from, field_type, no_fields, rounded_up, size_of, type_named, type_or, unnamed, with_field}
use Rattle.ir_model.specs.Names.{declaration_named, function_named}
use Rattle.ir_model.specs.Ty.{Ty, Tys, int, ptr, token, array, structure, named, none, field}
use Rattle.ir_model.specs.declared.instr.Case.{Case}
use Rattle.ir_model.specs.declared.instr.Instr.{Instr}
use Rattle.ir_model.specs.declared.instr.Terminator.{Terminator}
use Rattle.ir_model.specs.declared.module.Module.{Module}
use Rattle.ir_model.specs.declared.operand.Allocator.{Allocator}
use Rattle.ir_model.specs.declared.operand.Arg.{Arg}
use Rattle.ir_model.specs.declared.operand.Callee.{Callee}
use Rattle.ir_model.specs.declared.operand.Intrinsic.{Intrinsic}
use Rattle.run_step.specs.Step.{Action, AtInstr, AtTerm, Context, Done, Enter, Fetched, GoTo, NewSlot, Nowhere, Return, Stuck, Work, action_of, alloca, allocated, allocator_call, answer, branch, by_pred, call, cast_to, chosen, compared, copied_bytes, done, fits_function, has_markers, if_alignment, indirect_call, instr_action, intrinsic_call, is_alignment, is_word, named_call, observed, risen, set_memory, set_value, switch, target_of, term_action, value_at, with_event, with_length, words_of}
use Rattle.run_step.specs.Values.{Env, access_of, address, arg_value, arg_values, capped, distance, element, index_of, indices_of, inner_distance, literal, nth, number_at, part_at, plus, pointer_to, stored, times, truth_value, value_in, value_of, with_result}
use Rattle.run_laws.specs.changed.Changed.{Change, Each, IsKeptAt, IsLike, IsSameOperand, IsSetAlike, changed_action, changed_event, changed_work, changed_world, values_of}

cons_same : {A : Type 0} {x y : A} {xs ys : List A} → x ≡ y → xs ≡ ys → x ∷ xs ≡ y ∷ ys
cons_same p q = λ i. p i ∷ q i

pair_same : {A B : Type 0} {x y : A} {u v : B} → x ≡ y → u ≡ v → ◌≡◌ {A = A × B} (x, u) (y, v)
pair_same p q = λ i. (p i, q i)

-- ---- what goes on behind a test, a length or a result

done_kept : (ch : Change) {A : Type 0} (f g : A → Work) (r : Result A Cause) → ((a : A) → g a ≡ changed_work ch (f a)) → done g r ≡ changed_action ch (done f r)
done_kept ch f g (Err cause) h = refl
done_kept ch f g (Ok a) h = ap Done (h a)

if_alignment_kept : (ch : Change) (align : ℕ) (a b : Action) → b ≡ changed_action ch a → if_alignment align b ≡ changed_action ch (if_alignment align a)
if_alignment_kept ch align a b h = on (is_alignment align)
  where
    on : (t : Bool) → (if t then b else Stuck Cause.Align) ≡ changed_action ch (if t then a else Stuck Cause.Align)
    on true = h
    on false = refl

with_length_kept : (ch : Change) (v : Value) (f g : ℕ → Action) → ((n : ℕ) → g n ≡ changed_action ch (f n)) → with_length v g ≡ changed_action ch (with_length v f)
with_length_kept ch (Value.Int n) f g h = h n.bits
with_length_kept ch Value.Poison f g h = refl
with_length_kept ch (Value.Ptr p) f g h = refl

-- ---- distances by the types alone

module _ (m k : Module) (types : k.types ≡ m.types) where
  unnamed_kept : (t : Ty) → unnamed k t ≡ unnamed m t
  unnamed_kept (int w) = refl
  unnamed_kept ptr = refl
  unnamed_kept token = refl
  unnamed_kept (array n t) = refl
  unnamed_kept (structure ts) = refl
  unnamed_kept (named n) = ap (λ ts. type_or (named n) (type_named ts n)) types

  size_kept : (t : Ty) → size_of k t ≡ size_of m t
  size_kept t = ap (λ ts. (extent_or (extent_of ts t)).size) types

  offset_kept : (ts : Tys) (e : Extent) (i : ℕ) → field_offset_from k e ts i ≡ field_offset_from m e ts i
  offset_kept none e i = refl
  offset_kept (field t ts) e zero = ap (λ xs. rounded_up e.size (extent_or (extent_of xs t)).align) types
  offset_kept (field t ts) e (suc i) =
      offset_kept ts _ i
      ∙ ap (λ xs. field_offset_from m (with_field e (extent_or (extent_of xs t))) ts i) types

  part_kept : (t : Ty) (i : Option ℕ) → part_at k t i ≡ part_at m t i
  part_kept (array n t) i = ap (λ z. (times (capped z) i, t)) (size_kept t)
  part_kept (structure ts) i = ap (λ z. (Some (capped z), field_type ts (unwrap_or i 0))) (offset_kept ts no_fields (unwrap_or i 0))
  part_kept (int w) i = refl
  part_kept ptr i = refl
  part_kept token i = refl
  part_kept (named n) i = refl

  both_kept : (t : Ty) (i : Option ℕ) → part_at k (unnamed k t) i ≡ part_at m (unnamed m t) i
  both_kept t i = part_kept (unnamed k t) i ∙ ap (λ (u : Ty). part_at m u i) (unnamed_kept t)

  on_from : (p q : Option ℕ × Ty) (d : Option ℕ) (is : List (Option ℕ)) → p ≡ q → inner_distance k p.1 (plus d p.0) is ≡ inner_distance m p.1 (plus d p.0) is → inner_distance k p.1 (plus d p.0) is ≡ inner_distance m q.1 (plus d q.0) is
  on_from p q d is e h = h ∙ ap (λ (x : Option ℕ × Ty). inner_distance m x.1 (plus d x.0) is) e

  inner_kept : (is : List (Option ℕ)) (ty : Ty) (d : Option ℕ) → inner_distance k ty d is ≡ inner_distance m ty d is
  inner_kept [] ty d = refl
  inner_kept (i ∷ is) ty d = on_from (part_at k (unnamed k ty) i) (part_at m (unnamed m ty) i) d is (both_kept ty i) (inner_kept is (part_at k (unnamed k ty) i).1 (plus d (part_at k (unnamed k ty) i).0))

  pub distance_kept : (ty : Ty) (is : List (Option ℕ)) → distance k ty is ≡ distance m ty is
  distance_kept ty [] = refl
  distance_kept ty (i ∷ is) = inner_kept is ty (times (capped (size_of k ty)) i) ∙ ap (λ z. inner_distance m ty (times (capped z) i) is) (size_kept ty)

-- ---- values

module _ (ch : Change) (c d : Context) (env : Env) where
  args_kept : (args : List Arg) → Each (IsSameOperand ch c d env) (values_of args) → arg_values d.code (ch.values env) args ≡ arg_values c.code env args
  args_kept [] h = refl
  args_kept (a ∷ args) h = cons_same (h.0.here a.ty) (args_kept args h.1)

  indices_kept : (args : List Arg) → Each (IsSameOperand ch c d env) (values_of args) → indices_of d.code (ch.values env) args ≡ indices_of c.code env args
  indices_kept [] h = refl
  indices_kept (a ∷ args) h = cons_same (ap (λ v. index_of (number_at a.ty v)) (h.0.here a.ty)) (indices_kept args h.1)

  target_kept : (x : Word) (default : ℕ) (cases : List Case) → Each (IsSameOperand ch c d env) (map (λ k. k.arg.value) cases) → target_of d.code x default cases ≡ target_of c.code x default cases
  target_kept x default [] h = refl
  target_kept x default (k ∷ cases) h =
      ap (λ v. if is_word x v then k.target else target_of d.code x default cases) (h.0.nowhere k.arg.ty)
      ∙ ap (λ t. if is_word x (arg_value c.code [] k.arg) then k.target else t) (target_kept x default cases h.1)

-- ---- calls

module _ (ch : Change) (c d : Context) (w : Work) (like : IsLike c d) where
  allocator_kept : (a : Allocator) (result : Option ℕ) (vs : List Value) → IsSetAlike ch w.values result → allocator_call a (changed_work ch w) result vs ≡ changed_action ch (allocator_call a w result vs)
  allocator_kept Allocator.Malloc result vs set = with_length_kept ch (nth vs 0) _ _ (λ n. ap Done (allocated_kept n))
    where
      allocated_kept : (n : ℕ) → allocated (changed_work ch w) result n ≡ changed_work ch (allocated w result n)
      allocated_kept n = ap (λ (e : Env). record { world = (changed_work ch (allocated w result n)).world; values = e }) (sym (set (pointer_to (length w.world.memory))))
  allocator_kept Allocator.Znwm result vs set = with_length_kept ch (nth vs 0) _ _ (λ n. ap Done (ap (λ (e : Env). record { world = (changed_work ch (allocated w result n)).world; values = e }) (sym (set (pointer_to (length w.world.memory))))))
  allocator_kept Allocator.Free result vs set = refl
  allocator_kept Allocator.ZdlPv result vs set = refl
  allocator_kept Allocator.ZdlPvm result vs set = refl

  -- the events with one more
  event_kept : (n : ℕ) (args : List Word) → (with_event (changed_world ch w.world) (ch.declaration n) args).events ≡ map (changed_event ch) (with_event w.world n args).events
  event_kept n args = sym (map-append (changed_event ch) w.world.events (record { func = n; args = args } ∷ []))

  -- the work with other events and values
  abbrev with_seen : Option ℕ → List Event → Env → Work
  with_seen used events env = record { world = record (changed_world ch w.world) { events = events; answers_used = unwrap_or used w.world.answers_used }; values = env }

  observed_kept : (n : ℕ) (ty : Option Ty) (result : Option ℕ) (args : Option (List Word)) → IsSetAlike ch w.values result → observed d (changed_work ch w) (ch.declaration n) ty result args ≡ changed_action ch (observed c w n ty result args)
  observed_kept n ty result None set = refl
  observed_kept n None result (Some args) set =
      ap (λ (p : List Event × Env). Done (with_seen None p.0 p.1)) (pair_same (event_kept n args) (sym (set Value.Poison)))
  observed_kept n (Some ty) result (Some args) set =
      ap (λ (p : List Event × Env). Done (with_seen (Some (risen w.world.answers_used)) p.0 p.1))
      (pair_same (event_kept n args)
      (ap (λ zs. with_result (ch.values w.values) result (literal ty (answer zs w.world.answers_used))) like.answers ∙ sym (set (literal ty (answer c.answers w.world.answers_used)))))

  named_kept : (f n : Option ℕ) (ty : Option Ty) (result : Option ℕ) (must_tail : Bool) (vs : List Value) → IsSetAlike ch w.values result → named_call d (changed_work ch w) f (option_map ch.declaration n) ty result must_tail vs ≡ changed_action ch (named_call c w f n ty result must_tail vs)
  named_kept (Some f) n ty result must_tail vs set = refl
  named_kept None (Some n) ty result must_tail vs set = observed_kept n ty result (words_of vs) set
  named_kept None None ty result must_tail vs set = refl

  indirect_kept : (v : Value) (ty : Option Ty) (result : Option ℕ) (must_tail : Bool) (args : List Arg) (vs : List Value) → indirect_call d v ty result must_tail args vs ≡ changed_action ch (indirect_call c v ty result must_tail args vs)
  indirect_kept (Value.Ptr (Pointer.Func f)) ty result must_tail args vs =
      ap (λ t. if t then Enter f vs result must_tail else Stuck Cause.Call) (like.fits ty args f)
      ∙ on (fits_function ty args (slice_get c.code.functions f))
    where
      on : (t : Bool) → (if t then Enter f vs result must_tail else Stuck Cause.Call) ≡ changed_action ch (if t then Enter f vs result must_tail else Stuck Cause.Call)
      on true = refl
      on false = refl
  indirect_kept (Value.Ptr Pointer.Null) ty result must_tail args vs = refl
  indirect_kept (Value.Ptr (Pointer.At b o)) ty result must_tail args vs = refl
  indirect_kept Value.Poison ty result must_tail args vs = refl
  indirect_kept (Value.Int x) ty result must_tail args vs = refl

  copied_kept : (vs : List Value) → copied_bytes d (changed_work ch w) vs ≡ changed_action ch (copied_bytes c w vs)
  copied_kept vs = with_length_kept ch (nth vs 2) _ _ (λ n.
      ap (λ r. done (set_memory (changed_work ch w)) (copy r w.world.memory (address (nth vs 0)) (address (nth vs 1)) n)) like.rights
      ∙ done_kept ch _ _ (copy c.rights w.world.memory (address (nth vs 0)) (address (nth vs 1)) n) (λ memory. refl))

  intrinsic_kept : (i : Intrinsic) (result : Option ℕ) (args : List Arg) (vs : List Value) → intrinsic_call d (changed_work ch w) i result args vs ≡ changed_action ch (intrinsic_call c w i result args vs)
  intrinsic_kept Intrinsic.LifetimeStart result args vs = refl
  intrinsic_kept Intrinsic.LifetimeEnd result args vs = refl
  intrinsic_kept Intrinsic.MemcpyI64 result args vs = copied_kept vs
  intrinsic_kept Intrinsic.MemcpyI32 result args vs = copied_kept vs
  intrinsic_kept _ result args vs = refl

  call_kept : (result : Option ℕ) (must_tail : Bool) (ty : Option Ty) (callee : Callee) (args : List Arg) → IsKeptAt ch c d w.values (AtInstr (Instr.Call result must_tail ty callee args)) → instr_action d (changed_work ch w) (Instr.Call result must_tail ty callee args) ≡ changed_action ch (instr_action c w (Instr.Call result must_tail ty callee args))
  call_kept result must_tail ty (Callee.Named n) args k =
      ap (λ vs. call d (changed_work ch w) result must_tail ty (Callee.Named n) args vs) (args_kept ch c d w.values args k.operands)
      ∙ ap (λ (p : Option ℕ × Option ℕ). named_call d (changed_work ch w) p.0 p.1 ty result must_tail (arg_values c.code w.values args)) (pair_same (like.functions n) k.callee)
      ∙ named_kept (function_named c.code n) (declaration_named c.code n) ty result must_tail (arg_values c.code w.values args) k.result
  call_kept result must_tail ty (Callee.Allocator a) args k =
      ap (λ vs. allocator_call a (changed_work ch w) result vs) (args_kept ch c d w.values args k.operands)
      ∙ allocator_kept a result (arg_values c.code w.values args) k.result
  call_kept result must_tail ty (Callee.Intrinsic i) args k =
      ap (λ vs. intrinsic_call d (changed_work ch w) i result args vs) (args_kept ch c d w.values args k.operands)
      ∙ intrinsic_kept i result args (arg_values c.code w.values args)
  call_kept result must_tail ty (Callee.Local name) args k =
      ap (λ (p : Value × List Value). indirect_call d p.0 ty result must_tail args p.1) (pair_same (k.operands.0.here ptr) (args_kept ch c d w.values args k.operands.1))
      ∙ indirect_kept (value_in w.values name) ty result must_tail args (arg_values c.code w.values args)

  -- ---- instructions

  -- the work with a value set
  set_kept : (name : ℕ) (v : Value) → IsSetAlike ch w.values (Some name) → set_value (changed_work ch w) name v ≡ changed_work ch (set_value w name v)
  set_kept name v set = ap (λ (e : Env). record { world = changed_world ch w.world; values = e }) (sym (set v))

  compared_kept : (name : ℕ) (pred : Pred) (ty : Ty) (a b : Value) → IsSetAlike ch w.values (Some name) → compared d (changed_work ch w) name pred ty a b ≡ changed_action ch (compared c w name pred ty a b)
  compared_kept name pred (int n) a b set = ap Done (set_kept name _ set)
  compared_kept name pred ptr a b set = pointers_kept
    where
      pointers_kept : compared d (changed_work ch w) name pred ptr a b ≡ changed_action ch (compared c w name pred ptr a b)
      pointers_kept =
          ap (λ r. done (λ same. set_value (changed_work ch w) name (truth_value (by_pred pred same))) (compare r w.world.memory (address a) (address b))) like.rights
          ∙ done_kept ch _ _ (compare c.rights w.world.memory (address a) (address b)) (λ same. set_kept name _ set)
  compared_kept name pred token a b set =
      ap (λ r. done (λ same. set_value (changed_work ch w) name (truth_value (by_pred pred same))) (compare r w.world.memory (address a) (address b))) like.rights
      ∙ done_kept ch _ _ (compare c.rights w.world.memory (address a) (address b)) (λ same. set_kept name _ set)
  compared_kept name pred (array n t) a b set =
      ap (λ r. done (λ same. set_value (changed_work ch w) name (truth_value (by_pred pred same))) (compare r w.world.memory (address a) (address b))) like.rights
      ∙ done_kept ch _ _ (compare c.rights w.world.memory (address a) (address b)) (λ same. set_kept name _ set)
  compared_kept name pred (structure ts) a b set =
      ap (λ r. done (λ same. set_value (changed_work ch w) name (truth_value (by_pred pred same))) (compare r w.world.memory (address a) (address b))) like.rights
      ∙ done_kept ch _ _ (compare c.rights w.world.memory (address a) (address b)) (λ same. set_kept name _ set)
  compared_kept name pred (named n) a b set =
      ap (λ r. done (λ same. set_value (changed_work ch w) name (truth_value (by_pred pred same))) (compare r w.world.memory (address a) (address b))) like.rights
      ∙ done_kept ch _ _ (compare c.rights w.world.memory (address a) (address b)) (λ same. set_kept name _ set)

  alloca_kept : (name size align : ℕ) → IsSetAlike ch w.values (Some name) → alloca d (changed_work ch w) name size align ≡ changed_action ch (alloca c w name size align)
  alloca_kept name size align set =
      ap (λ (p : Bool × Bool). slot_of p.0 p.1 (changed_work ch w)) (pair_same like.coroutine (like.markers name))
      ∙ ap (λ (x : Work). NewSlot (set_memory x (memory_of c.function.coroutine (has_markers c.function name))) (record { alloca = name; block = length w.world.memory })) (set_kept name _ set)
    where
      memory_of : Bool → Bool → List MemoryBlock
      memory_of coroutine marked = let memory = fresh w.world.memory size align (if coroutine then Kind.Slot else Kind.Stack) in if marked then end memory (length w.world.memory) else memory

      slot_of : Bool → Bool → Work → Action
      slot_of coroutine marked x = NewSlot (set_memory (set_value x name (pointer_to (length w.world.memory))) (memory_of coroutine marked)) (record { alloca = name; block = length w.world.memory })

  instr_kept : (i : Instr) → IsKeptAt ch c d w.values (AtInstr i) → instr_action d (changed_work ch w) i ≡ changed_action ch (instr_action c w i)
  instr_kept (Instr.Binary name op flags ty a b) k =
      ap (λ (p : Value × Value). done (λ n. set_value (changed_work ch w) name (value_of n)) (binary op flags (number_at ty p.0) (number_at ty p.1))) (pair_same (k.operands.0.here ty) (k.operands.1.0.here ty))
      ∙ done_kept ch _ _ (binary op flags (number_at ty (value_at c w ty a)) (number_at ty (value_at c w ty b))) (λ n. set_kept name _ k.result)
  instr_kept (Instr.Icmp name pred ty a b) k =
      ap (λ (p : Value × Value). compared d (changed_work ch w) name pred ty p.0 p.1) (pair_same (k.operands.0.here ty) (k.operands.1.0.here ty))
      ∙ compared_kept name pred ty _ _ k.result
  instr_kept (Instr.Select name x a b) k =
      ap (λ (p : Value × (Value × Value)). Done (set_value (changed_work ch w) name (chosen p.0 p.1.0 p.1.1))) (pair_same (k.operands.0.here (int 1)) (pair_same (k.operands.1.0.here a.ty) (k.operands.1.1.0.here b.ty)))
      ∙ ap Done (set_kept name _ k.result)
  instr_kept (Instr.Cast name op nneg arg to) k =
      ap (λ v. Done (set_value (changed_work ch w) name (cast_to op nneg (number_at arg.ty v) to))) (k.operands.0.here arg.ty)
      ∙ ap Done (set_kept name _ k.result)
  instr_kept (Instr.Alloca name ty align) k =
      if_alignment_kept ch align _ _ (ap (λ n. alloca d (changed_work ch w) name n align) (size_kept c.code d.code like.types ty) ∙ alloca_kept name (size_of c.code ty) align k.result)
  instr_kept (Instr.Load name ty p align) k =
      if_alignment_kept ch align _ _
      (ap (λ (q : Rights × Value). done (set_value (changed_work ch w) name) (load q.0 w.world.memory (address q.1) (access_of ty) align)) (pair_same like.rights (k.operands.0.here ptr))
      ∙ done_kept ch _ _ (load c.rights w.world.memory (address (value_at c w ptr p)) (access_of ty) align) (λ v. set_kept name v k.result))
  instr_kept (Instr.Store arg p align) k =
      if_alignment_kept ch align _ _
      (ap (λ (q : Rights × (Value × Value)). done (set_memory (changed_work ch w)) (store q.0 w.world.memory (address q.1.0) (stored (access_of arg.ty) q.1.1) (access_of arg.ty) align)) (pair_same like.rights (pair_same (k.operands.1.0.here ptr) (k.operands.0.here arg.ty)))
      ∙ done_kept ch _ _ (store c.rights w.world.memory (address (value_at c w ptr p)) (stored (access_of arg.ty) (arg_value c.code w.values arg)) (access_of arg.ty) align) (λ memory. refl))
  instr_kept (Instr.Gep name inbounds ty base indices) k =
      ap (λ (q : Value × Option ℕ). Done (set_value (changed_work ch w) name (element w.world.memory inbounds q.0 q.1)))
      (pair_same (k.operands.0.here ptr) (ap (λ is. distance d.code ty is) (indices_kept ch c d w.values indices k.operands.1) ∙ distance_kept c.code d.code like.types ty (indices_of c.code w.values indices)))
      ∙ ap Done (set_kept name _ k.result)
  instr_kept (Instr.Call result must_tail ty callee args) k = call_kept result must_tail ty callee args k

  -- ---- terminators

  branch_kept : (v : Value) (a b : ℕ) → branch v a b ≡ changed_action ch (branch v a b)
  branch_kept (Value.Int x) a b = refl
  branch_kept Value.Poison a b = refl
  branch_kept (Value.Ptr p) a b = refl

  switch_kept : (v : Value) (default : ℕ) (cases : List Case) → Each (IsSameOperand ch c d w.values) (map (λ k. k.arg.value) cases) → switch d.code v default cases ≡ changed_action ch (switch c.code v default cases)
  switch_kept (Value.Int x) default cases h = ap GoTo (target_kept ch c d w.values x default cases h)
  switch_kept Value.Poison default cases h = refl
  switch_kept (Value.Ptr p) default cases h = refl

  term_kept : (t : Terminator) → IsKeptAt ch c d w.values (AtTerm t) → term_action d (changed_work ch w) t ≡ changed_action ch (term_action c w t)
  term_kept (Terminator.Jump label) k = refl
  term_kept (Terminator.Branch x a b) k = ap (λ v. branch v a b) (k.operands.0.here (int 1)) ∙ branch_kept (value_at c w (int 1) x) a b
  term_kept (Terminator.Switch arg default cases) k =
      ap (λ v. switch d.code v default cases) (k.operands.0.here arg.ty) ∙ switch_kept (arg_value c.code w.values arg) default cases k.operands.1
  term_kept (Terminator.Ret None) k = refl
  term_kept (Terminator.Ret (Some arg)) k = ap (λ v. Return (Some v)) (k.operands.0.here arg.ty)
  term_kept Terminator.Unreachable k = refl

  here_kept : (here : Fetched) → IsKeptAt ch c d w.values here → action_of d (changed_work ch w) here ≡ changed_action ch (action_of c w here)
  here_kept Nowhere k = refl
  here_kept (AtInstr i) k = instr_kept i k
  here_kept (AtTerm t) k = term_kept t k

pub action_kept : (ch : Change) (c d : Context) (w : Work) (here : Fetched) → IsLike c d → IsKeptAt ch c d w.values here → action_of d (changed_work ch w) here ≡ changed_action ch (action_of c w here)
action_kept ch c d w here like k = here_kept ch c d w like here k
