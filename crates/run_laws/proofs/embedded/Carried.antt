-- An ordinary step of the source is made by the target in the same way.
use Rattle.std.proofs.Common.{◌≡◌, ℕ, ◌<◌, Bool, true, false, List, [], ◌∷◌, ◌++◌, Option, Some, None, Result, Ok, Err, refl, sym, ap, ◌∙◌, subst, if◌then◌else◌}
use Rattle.std.proofs.lemmas.List.{map-append}
use Rattle.std.specs.Prelude.{ℤ, map, slice_get, option_map}
use Rattle.run_memory.specs.Memory.{access_bytes, compare, copy, load, store}
use Rattle.run_memory.specs.declared.block.MemoryBlock.{MemoryBlock}
use Rattle.run_memory.specs.declared.pointer.Access.{Access}
use Rattle.run_memory.specs.declared.pointer.Pointer.{Pointer}
use Rattle.run_memory.specs.declared.pointer.Value.{Value}
use Rattle.ir_base.specs.declared.cause.Cause.{Cause}
use Rattle.ir_base.specs.declared.ops.BinOp.{BinOp}
use Rattle.ir_base.specs.declared.ops.Flags.{Flags}
use Rattle.ir_base.specs.declared.ops.Pred.{Pred}
use Rattle.ir_base.specs.declared.outcome.Event.{Event}
use Rattle.ir_base.specs.declared.outcome.Word.{Word}
use Rattle.run_ints.specs.Numbers.{binary}
use Rattle.run_ints.specs.declared.num.Num.{Num}
use Rattle.ir_model.specs.Names.{declaration_named, function_named}
use Rattle.ir_model.specs.Ty.{Ty, array, int, named, ptr, structure, token}
use Rattle.ir_model.specs.declared.instr.Case.{Case}
use Rattle.ir_model.specs.declared.instr.Instr.{Instr}
use Rattle.ir_model.specs.declared.instr.Terminator.{Terminator}
use Rattle.ir_model.specs.declared.operand.Allocator.{Allocator}
use Rattle.ir_model.specs.declared.operand.Arg.{Arg}
use Rattle.ir_model.specs.declared.operand.Callee.{Callee}
use Rattle.ir_model.specs.declared.operand.Intrinsic.{Intrinsic}
use Rattle.ir_model.specs.declared.operand.Operand.{Operand}
use Rattle.run_laws.proofs.memory.Comparisons.{comparisons_kept}
use Rattle.run_laws.proofs.memory.Copies.{copies_kept}
use Rattle.run_laws.proofs.memory.Loads.{loads_kept}
use Rattle.run_laws.proofs.memory.Stores.{stores_kept}
use Rattle.run_laws.specs.memory.Pointers.{Home, IsValue}
use Rattle.run_laws.specs.memory.Standing.{AreByteRights, Embeds}
use Rattle.run_step.specs.Step.{Action, AtInstr, AtTerm, Context, Deallocate, Enter, Fetched, GoTo, Nowhere, Stuck, Work, action_of, allocator_call, answer, branch, by_pred, compared, copied_bytes, done, fits_function, if_alignment, indirect_call, instr_action, intrinsic_call, is_alignment, is_word, named_call, observed, risen, set_memory, set_value, switch, target_of, term_action, with_event, with_length, words_of}
use Rattle.run_step.specs.Values.{Env, access_of, address, arg_value, arg_values, distance, element, indices_of, literal, nth, truth_value, value_of, with_result}
use Rattle.run_laws.proofs.embedded.Memories.{bounds_kept, copy_refills, element_kept, nulls_kept, store_refills}
use Rattle.run_laws.proofs.embedded.Values.{IsNum, address_kept, alignment_is, binary_kept, cast_to_kept, chosen_kept, env_result, env_set, icmp_kept, nth_kept, number_kept, stored_kept, value_of_kept, width_kept, words_kept}
use Rattle.run_laws.specs.embedded.Refilled.{AreRefilled}
use Rattle.run_laws.specs.embedded.Related.{AreAlike, AreEnvs, AreValues, AreWorks, GoesAlike, HasNoSlot, IsCarried, IsOperand, IsSameDistance, moved_event}
use Rattle.run_laws.specs.changed.Changed.{Each, values_of}

literal_itself : (homes : List Home) (ty : Ty) (z : ℤ) → IsValue homes (literal ty z) (literal ty z)
literal_itself homes (int w) z = refl
literal_itself homes ptr z = tt
literal_itself homes token z = tt
literal_itself homes (array n t) z = tt
literal_itself homes (structure ts) z = tt
literal_itself homes (named n) z = tt

module _ (homes : List Home) (moves : ℕ → ℕ) (c d : Context) (w x : Work) (law : AreByteRights c.rights) (law' : AreByteRights d.rights) (alike : AreAlike c d) (works : AreWorks c.rights d.rights homes moves w x) where
  abbrev Alike : Action → Action → Type 0
  Alike a b = GoesAlike c.rights d.rights homes moves a b

  abbrev Works : Work → Work → Type 0
  Works u v = AreWorks c.rights d.rights homes moves u v

  abbrev Op : Operand → Type 0
  Op y = IsOperand homes c d w.values x.values y

  -- ---- values, memory and events of the works

  with_values : (env other : Env) → AreEnvs homes env other → Works (record w { values = env }) (record x { values = other })
  with_values env other h = record { world = works.world; values = h }

  set_works : (name : ℕ) (v u : Value) → IsValue homes v u → Works (set_value w name v) (set_value x name u)
  set_works name v u h = with_values _ _ (env_set homes w.values x.values name v u works.values h)

  memory_works : (m n : List MemoryBlock) → Embeds c.rights d.rights homes m n → AreRefilled w.world.memory m → AreRefilled x.world.memory n → Works (set_memory w m) (set_memory x n)
  memory_works m n em rm rn = record {
    world = record {
      memory = em;
      nulls = nulls_kept c.rights d.rights homes w.world.memory x.world.memory m n law law' rm rn works.world.nulls;
      bounds = bounds_kept homes w.world.memory x.world.memory m n rm rn works.world.bounds;
      events = works.world.events;
      answers = works.world.answers;
      allocs = works.world.allocs;
    };
    values = works.values;
  }

  if_alike : (align : ℕ) (a b : Action) → (is_alignment align ≡ true → Alike a b) → Alike (if_alignment align a) (if_alignment align b)
  if_alike align a b h = on (is_alignment align) refl
    where
      on : (t : Bool) → is_alignment align ≡ t → Alike (if t then a else Stuck Cause.Align) (if t then b else Stuck Cause.Align)
      on true e = h e
      on false e = tt

  -- ---- arguments

  args_alike : (args : List Arg) → Each Op (values_of args) → AreValues homes (arg_values c.code w.values args) (arg_values d.code x.values args)
  args_alike [] h = tt
  args_alike (a ∷ args) h = (h.0.here a.ty, args_alike args h.1)

  -- ---- what numbers alone decide

  binary_alike : (name : ℕ) (op : BinOp) (flags : Flags) (a b a' b' : Num) → IsNum a a' → IsNum b b' → Alike (done (λ n. set_value w name (value_of n)) (binary op flags a b)) (done (λ n. set_value x name (value_of n)) (binary op flags a' b'))
  binary_alike name op flags a b a' b' ha hb = on (binary op flags a b) refl
    where
      on : (r : Result Num Cause) → binary op flags a b ≡ r → Alike (done (λ n. set_value w name (value_of n)) r) (done (λ n. set_value x name (value_of n)) (binary op flags a' b'))
      on (Err cause) e = tt
      on (Ok n) e =
          let k = binary_kept op flags a b a' b' n ha hb e in
          (set_value x name (value_of k.number), ap (done (λ n. set_value x name (value_of n))) k.gives, set_works name (value_of n) (value_of k.number) (value_of_kept homes n k.number k.stands))

  pointers_alike : (name : ℕ) (pred : Pred) (a b a' b' : Value) → IsValue homes a a' → IsValue homes b b' → Alike (done (λ same. set_value w name (truth_value (by_pred pred same))) (compare c.rights w.world.memory a b)) (done (λ same. set_value x name (truth_value (by_pred pred same))) (compare d.rights x.world.memory a' b'))
  pointers_alike name pred a b a' b' ha hb = on (compare c.rights w.world.memory a b) refl
    where
      on : (r : Result Bool Cause) → compare c.rights w.world.memory a b ≡ r → Alike (done (λ same. set_value w name (truth_value (by_pred pred same))) r) (done (λ same. set_value x name (truth_value (by_pred pred same))) (compare d.rights x.world.memory a' b'))
      on (Err cause) e = tt
      on (Ok same) e =
          let k = comparisons_kept c.rights d.rights homes w.world.memory x.world.memory a a' b b' same works.world.memory works.world.nulls ha hb e in
          (set_value x name (truth_value (by_pred pred same)), ap (done (λ same. set_value x name (truth_value (by_pred pred same)))) k, set_works name (truth_value (by_pred pred same)) (truth_value (by_pred pred same)) refl)

  compared_alike : (name : ℕ) (pred : Pred) (ty : Ty) (a b a' b' : Value) → IsValue homes a a' → IsValue homes b b' → Alike (compared c w name pred ty a b) (compared d x name pred ty a' b')
  compared_alike name pred (int n) a b a' b' ha hb =
      (set_value x name _, refl, set_works name _ _ (value_of_kept homes _ _ (icmp_kept pred _ _ _ _ (width_kept homes n a a' ha) (width_kept homes n b b' hb))))
  compared_alike name pred ptr a b a' b' ha hb = pointers_alike name pred (address a) (address b) (address a') (address b') (address_kept homes a a' ha) (address_kept homes b b' hb)
  compared_alike name pred token a b a' b' ha hb = pointers_alike name pred (address a) (address b) (address a') (address b') (address_kept homes a a' ha) (address_kept homes b b' hb)
  compared_alike name pred (array n t) a b a' b' ha hb = pointers_alike name pred (address a) (address b) (address a') (address b') (address_kept homes a a' ha) (address_kept homes b b' hb)
  compared_alike name pred (structure ts) a b a' b' ha hb = pointers_alike name pred (address a) (address b) (address a') (address b') (address_kept homes a a' ha) (address_kept homes b b' hb)
  compared_alike name pred (named n) a b a' b' ha hb = pointers_alike name pred (address a) (address b) (address a') (address b') (address_kept homes a a' ha) (address_kept homes b b' hb)

  -- ---- memory

  load_alike : (name : ℕ) (p q : Value) (what : Access) (align : ℕ) → 0 < access_bytes what → is_alignment align ≡ true → IsValue homes p q → Alike (done (set_value w name) (load c.rights w.world.memory p what align)) (done (set_value x name) (load d.rights x.world.memory q what align))
  load_alike name p q what align pos ok h = on (load c.rights w.world.memory p what align) refl
    where
      on : (r : Result Value Cause) → load c.rights w.world.memory p what align ≡ r → Alike (done (set_value w name) r) (done (set_value x name) (load d.rights x.world.memory q what align))
      on (Err cause) e = tt
      on (Ok v) e =
          let k = loads_kept c.rights d.rights homes w.world.memory x.world.memory p q what align v law works.world.memory pos (alignment_is align ok) h e in
          (set_value x name k.value, ap (done (set_value x name)) k.loads, set_works name v k.value k.stands)

  store_alike : (p q v u : Value) (what : Access) (align : ℕ) → 0 < access_bytes what → is_alignment align ≡ true → IsValue homes p q → IsValue homes v u → Alike (done (set_memory w) (store c.rights w.world.memory p v what align)) (done (set_memory x) (store d.rights x.world.memory q u what align))
  store_alike p q v u what align pos ok hp hv = on (store c.rights w.world.memory p v what align) refl
    where
      on : (r : Result (List MemoryBlock) Cause) → store c.rights w.world.memory p v what align ≡ r → Alike (done (set_memory w) r) (done (set_memory x) (store d.rights x.world.memory q u what align))
      on (Err cause) e = tt
      on (Ok m) e =
          let k = stores_kept c.rights d.rights homes w.world.memory x.world.memory m p q v u what align law law' works.world.memory pos (alignment_is align ok) hp hv e in
          (set_memory x k.memory, ap (done (set_memory x)) k.stores, memory_works m k.memory k.stands (store_refills c.rights w.world.memory m p v what align e) (store_refills d.rights x.world.memory k.memory q u what align k.stores))

  copy_alike : (to from to' from' : Value) (len : ℕ) → IsValue homes to to' → IsValue homes from from' → Alike (done (set_memory w) (copy c.rights w.world.memory to from len)) (done (set_memory x) (copy d.rights x.world.memory to' from' len))
  copy_alike to from to' from' len ht hf = on (copy c.rights w.world.memory to from len) refl
    where
      on : (r : Result (List MemoryBlock) Cause) → copy c.rights w.world.memory to from len ≡ r → Alike (done (set_memory w) r) (done (set_memory x) (copy d.rights x.world.memory to' from' len))
      on (Err cause) e = tt
      on (Ok m) e =
          let k = copies_kept c.rights d.rights homes w.world.memory x.world.memory m to from to' from' len law law' works.world.memory ht hf e in
          (set_memory x k.memory, ap (done (set_memory x)) k.copies, memory_works m k.memory k.stands (copy_refills c.rights w.world.memory m to from len e) (copy_refills d.rights x.world.memory k.memory to' from' len k.copies))

  -- ---- calls

  length_alike : (v u : Value) (f g : ℕ → Action) → IsValue homes v u → ((n : ℕ) → Alike (f n) (g n)) → Alike (with_length v f) (with_length u g)
  length_alike (Value.Int y) u f g h k = subst (λ (z : Value). Alike (f y.bits) (with_length z g)) (sym h) (k y.bits)
  length_alike Value.Poison u f g h k = tt
  length_alike (Value.Ptr p) u f g h k = tt

  copied_alike : (vs us : List Value) → AreValues homes vs us → Alike (copied_bytes c w vs) (copied_bytes d x us)
  copied_alike vs us h =
      length_alike (nth vs 2) (nth us 2) _ _ (nth_kept homes vs us 2 h)
      (λ n. copy_alike (address (nth vs 0)) (address (nth vs 1)) (address (nth us 0)) (address (nth us 1)) n (address_kept homes _ _ (nth_kept homes vs us 0 h)) (address_kept homes _ _ (nth_kept homes vs us 1 h)))

  event_alike : (n : ℕ) (args : List Word) → (with_event x.world (moves n) args).events ≡ map (moved_event moves) (with_event w.world n args).events
  event_alike n args =
      ap (λ (es : List Event). es ++ record { func = moves n; args = args } ∷ []) works.world.events
      ∙ sym (map-append (moved_event moves) w.world.events (record { func = n; args = args } ∷ []))

  observed_alike : (n : ℕ) (ty : Option Ty) (result : Option ℕ) (args args' : Option (List Word)) → ((xs : List Word) → args ≡ Some xs → args' ≡ Some xs) → Alike (observed c w n ty result args) (observed d x (moves n) ty result args')
  observed_alike n ty result None args' h = tt
  observed_alike n None result (Some args) args' h = (
    record { world = with_event x.world (moves n) args; values = with_result x.values result Value.Poison },
    ap (observed d x (moves n) None result) (h args refl),
    record {
      world = record { memory = works.world.memory; nulls = works.world.nulls; bounds = works.world.bounds; events = event_alike n args; answers = works.world.answers; allocs = works.world.allocs };
      values = env_result homes w.values x.values result Value.Poison Value.Poison works.values tt;
    },
  )
  observed_alike n (Some ty) result (Some args) args' h = (
    record { world = record x.world { events = (with_event x.world (moves n) args).events; answers_used = risen x.world.answers_used }; values = with_result x.values result (literal ty (answer d.answers x.world.answers_used)) },
    ap (observed d x (moves n) (Some ty) result) (h args refl),
    record {
      world = record { memory = works.world.memory; nulls = works.world.nulls; bounds = works.world.bounds; events = event_alike n args; answers = ap risen works.world.answers; allocs = works.world.allocs };
      values = env_result homes w.values x.values result (literal ty (answer c.answers w.world.answers_used)) (literal ty (answer d.answers x.world.answers_used)) works.values
          (subst (λ (z : ℤ). IsValue homes (literal ty (answer c.answers w.world.answers_used)) (literal ty z)) (sym same) (literal_itself homes ty (answer c.answers w.world.answers_used)));
    },
  )
    where
      same : answer d.answers x.world.answers_used ≡ answer c.answers w.world.answers_used
      same = λ i. answer (alike.answers i) (works.world.answers i)

  named_alike : (f n : Option ℕ) (ty : Option Ty) (result : Option ℕ) (must_tail : Bool) (vs us : List Value) → AreValues homes vs us → Alike (named_call c w f n ty result must_tail vs) (named_call d x f (option_map moves n) ty result must_tail us)
  named_alike (Some f) n ty result must_tail vs us h = (us, refl, h)
  named_alike None (Some n) ty result must_tail vs us h = observed_alike n ty result (words_of vs) (words_of us) (λ xs e. words_kept homes vs us xs h e)
  named_alike None None ty result must_tail vs us h = tt

  indirect_alike : (v u : Value) (ty : Option Ty) (result : Option ℕ) (must_tail : Bool) (args : List Arg) (vs us : List Value) → IsValue homes v u → AreValues homes vs us → Alike (indirect_call c v ty result must_tail args vs) (indirect_call d u ty result must_tail args us)
  indirect_alike (Value.Ptr (Pointer.Func f)) u ty result must_tail args vs us h k =
      subst (λ (z : Value). Alike (indirect_call c (Value.Ptr (Pointer.Func f)) ty result must_tail args vs) (indirect_call d z ty result must_tail args us)) (sym h.1)
      (subst (λ (t : Bool). Alike (if fits_function ty args (slice_get c.code.functions f) then Enter f vs result must_tail else Stuck Cause.Call) (if t then Enter f us result must_tail else Stuck Cause.Call)) (sym (alike.fits ty args f)) (on (fits_function ty args (slice_get c.code.functions f))))
    where
      on : (t : Bool) → Alike (if t then Enter f vs result must_tail else Stuck Cause.Call) (if t then Enter f us result must_tail else Stuck Cause.Call)
      on true = (us, refl, k)
      on false = tt
  indirect_alike (Value.Ptr Pointer.Null) u ty result must_tail args vs us h k = tt
  indirect_alike (Value.Ptr (Pointer.At b o)) u ty result must_tail args vs us h k = tt
  indirect_alike Value.Poison u ty result must_tail args vs us h k = tt
  indirect_alike (Value.Int y) u ty result must_tail args vs us h k = tt

  intrinsic_alike : (i : Intrinsic) (result : Option ℕ) (must_tail : Bool) (ty : Option Ty) (args : List Arg) (vs us : List Value) → HasNoSlot (AtInstr (Instr.Call result must_tail ty (Callee.Intrinsic i) args)) → AreValues homes vs us → Alike (intrinsic_call c w i result args vs) (intrinsic_call d x i result args us)
  intrinsic_alike Intrinsic.LifetimeStart result must_tail ty args vs us s h = absurd s
  intrinsic_alike Intrinsic.LifetimeEnd result must_tail ty args vs us s h = absurd s
  intrinsic_alike Intrinsic.MemcpyI64 result must_tail ty args vs us s h = copied_alike vs us h
  intrinsic_alike Intrinsic.MemcpyI32 result must_tail ty args vs us s h = copied_alike vs us h
  intrinsic_alike _ result must_tail ty args vs us s h = refl

  deallocator_alike : (vs us : List Value) → AreValues homes vs us → Alike (Deallocate (address (nth vs 0))) (Deallocate (address (nth us 0)))
  deallocator_alike vs us h = (address (nth us 0), refl, address_kept homes _ _ (nth_kept homes vs us 0 h))

  allocator_alike : (a : Allocator) (result : Option ℕ) (must_tail : Bool) (ty : Option Ty) (args : List Arg) (vs us : List Value) → HasNoSlot (AtInstr (Instr.Call result must_tail ty (Callee.Allocator a) args)) → AreValues homes vs us → Alike (allocator_call a w result vs) (allocator_call a x result us)
  allocator_alike Allocator.Malloc result must_tail ty args vs us s h = absurd s
  allocator_alike Allocator.Znwm result must_tail ty args vs us s h = absurd s
  allocator_alike Allocator.Free result must_tail ty args vs us s h = deallocator_alike vs us h
  allocator_alike Allocator.ZdlPv result must_tail ty args vs us s h = deallocator_alike vs us h
  allocator_alike Allocator.ZdlPvm result must_tail ty args vs us s h = deallocator_alike vs us h

  call_alike : (result : Option ℕ) (must_tail : Bool) (ty : Option Ty) (callee : Callee) (args : List Arg) → IsCarried homes moves c d w.values x.values (AtInstr (Instr.Call result must_tail ty callee args)) → Alike (instr_action c w (Instr.Call result must_tail ty callee args)) (instr_action d x (Instr.Call result must_tail ty callee args))
  call_alike result must_tail ty (Callee.Named n) args k =
      subst (λ (p : Option ℕ × Option ℕ). Alike (named_call c w (function_named c.code n) (declaration_named c.code n) ty result must_tail (arg_values c.code w.values args)) (named_call d x p.0 p.1 ty result must_tail (arg_values d.code x.values args))) (λ i. (sym (alike.functions n) i, sym k.callee i))
      (named_alike (function_named c.code n) (declaration_named c.code n) ty result must_tail _ _ (args_alike args k.operands))
  call_alike result must_tail ty (Callee.Allocator a) args k = allocator_alike a result must_tail ty args _ _ k.no_slot (args_alike args k.operands)
  call_alike result must_tail ty (Callee.Intrinsic i) args k = intrinsic_alike i result must_tail ty args _ _ k.no_slot (args_alike args k.operands)
  call_alike result must_tail ty (Callee.Local name) args k = indirect_alike _ _ ty result must_tail args _ _ (k.operands.0.here ptr) (args_alike args k.operands.1)

  -- ---- getelementptr

  gep_alike : (name : ℕ) (inbounds : Bool) (p q : Value) (e f : Option ℕ) → IsValue homes p q → IsSameDistance e f → Works (set_value w name (element w.world.memory inbounds p e)) (set_value x name (element x.world.memory inbounds q f))
  gep_alike name inbounds p q None f h k = set_works name Value.Poison (element x.world.memory inbounds q f) tt
  gep_alike name inbounds p q (Some e) f h k =
      set_works name (element w.world.memory inbounds p (Some e)) (element x.world.memory inbounds q f)
      (subst (λ (g : Option ℕ). IsValue homes (element w.world.memory inbounds p (Some e)) (element x.world.memory inbounds q g)) (sym k) (element_kept homes w.world.memory x.world.memory works.world.bounds inbounds p q (Some e) h))

  -- ---- instructions and terminators

  instr_alike : (i : Instr) → IsCarried homes moves c d w.values x.values (AtInstr i) → Alike (instr_action c w i) (instr_action d x i)
  instr_alike (Instr.Binary name op flags ty a b) k =
      binary_alike name op flags _ _ _ _ (number_kept homes ty _ _ (k.operands.0.here ty)) (number_kept homes ty _ _ (k.operands.1.0.here ty))
  instr_alike (Instr.Icmp name pred ty a b) k = compared_alike name pred ty _ _ _ _ (k.operands.0.here ty) (k.operands.1.0.here ty)
  instr_alike (Instr.Select name y a b) k =
      (set_value x name _, refl, set_works name _ _ (chosen_kept homes _ _ _ _ _ _ (k.operands.0.here (int 1)) (k.operands.1.0.here a.ty) (k.operands.1.1.0.here b.ty)))
  instr_alike (Instr.Cast name op nneg arg to) k =
      (set_value x name _, refl, set_works name _ _ (cast_to_kept homes op nneg _ _ to (number_kept homes arg.ty _ _ (k.operands.0.here arg.ty))))
  instr_alike (Instr.Alloca name ty align) k = absurd k.no_slot
  instr_alike (Instr.Load name ty p align) k =
      if_alike align _ _ (λ ok. load_alike name _ _ (access_of ty) align k.bytes ok (address_kept homes _ _ (k.operands.0.here ptr)))
  instr_alike (Instr.Store arg p align) k =
      if_alike align _ _ (λ ok. store_alike _ _ _ _ (access_of arg.ty) align k.bytes ok (address_kept homes _ _ (k.operands.1.0.here ptr)) (stored_kept homes (access_of arg.ty) _ _ (k.operands.0.here arg.ty)))
  instr_alike (Instr.Gep name inbounds ty base indices) k =
      (set_value x name _, refl, gep_alike name inbounds _ _ (distance c.code ty (indices_of c.code w.values indices)) (distance d.code ty (indices_of d.code x.values indices)) (k.operands.0.here ptr) k.distance)
  instr_alike (Instr.Call result must_tail ty callee args) k = call_alike result must_tail ty callee args k

  branch_alike : (v u : Value) (a b : ℕ) → IsValue homes v u → Alike (branch v a b) (branch u a b)
  branch_alike (Value.Int y) u a b h = ap (λ (z : Value). branch z a b) h
  branch_alike Value.Poison u a b h = tt
  branch_alike (Value.Ptr p) u a b h = tt

  target_alike : (y : Word) (default : ℕ) (cases : List Case) → Each Op (map (λ k. k.arg.value) cases) → target_of d.code y default cases ≡ target_of c.code y default cases
  target_alike y default [] h = refl
  target_alike y default (k ∷ cases) h =
      ap (λ v. if is_word y v then k.target else target_of d.code y default cases) (h.0.nowhere k.arg.ty)
      ∙ ap (λ t. if is_word y (arg_value c.code [] k.arg) then k.target else t) (target_alike y default cases h.1)

  switch_alike : (v u : Value) (default : ℕ) (cases : List Case) → IsValue homes v u → Each Op (map (λ k. k.arg.value) cases) → Alike (switch c.code v default cases) (switch d.code u default cases)
  switch_alike (Value.Int y) u default cases h k = ap (λ (z : Value). switch d.code z default cases) h ∙ ap GoTo (target_alike y default cases k)
  switch_alike Value.Poison u default cases h k = tt
  switch_alike (Value.Ptr p) u default cases h k = tt

  term_alike : (t : Terminator) → IsCarried homes moves c d w.values x.values (AtTerm t) → Alike (term_action c w t) (term_action d x t)
  term_alike (Terminator.Jump label) k = refl
  term_alike (Terminator.Branch y a b) k = branch_alike _ _ a b (k.operands.0.here (int 1))
  term_alike (Terminator.Switch arg default cases) k = switch_alike _ _ default cases (k.operands.0.here arg.ty) k.operands.1
  term_alike (Terminator.Ret None) k = refl
  term_alike (Terminator.Ret (Some arg)) k = (_, refl, k.operands.0.here arg.ty)
  term_alike Terminator.Unreachable k = tt

  here_alike : (here : Fetched) → IsCarried homes moves c d w.values x.values here → Alike (action_of c w here) (action_of d x here)
  here_alike Nowhere k = tt
  here_alike (AtInstr i) k = instr_alike i k
  here_alike (AtTerm t) k = term_alike t k

pub step_carried : (homes : List Home) (moves : ℕ → ℕ) (c d : Context) (w x : Work) (here : Fetched) → AreByteRights c.rights → AreByteRights d.rights → AreAlike c d → AreWorks c.rights d.rights homes moves w x → IsCarried homes moves c d w.values x.values here → GoesAlike c.rights d.rights homes moves (action_of c w here) (action_of d x here)
step_carried homes moves c d w x here law law' alike works k = here_alike homes moves c d w x law law' alike works here k
