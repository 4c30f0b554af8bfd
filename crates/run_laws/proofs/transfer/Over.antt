-- An ordinary step of the source is made by the target with an instruction of the same shape, where what it looks at
-- stands.
use Rattle.std.proofs.Common.{◌≡◌, ℕ, ◌<◌, Bool, true, false, List, [], ◌∷◌, ◌++◌, Option, Some, None, Result, Ok, Err, refl, sym, ap, ◌∙◌, subst, if◌then◌else◌}
use Rattle.std.proofs.lemmas.Bool.{false≢true}
use Rattle.std.proofs.lemmas.List.{map-append}
use Rattle.std.specs.Prelude.{ℤ, map, slice_get, option_map, ◌&&◌, ◌==◌}
use Rattle.run_memory.specs.Memory.{access_bytes, compare, copy, load, store}
use Rattle.run_memory.specs.declared.block.MemoryBlock.{MemoryBlock}
use Rattle.run_memory.specs.declared.pointer.Access.{Access}
use Rattle.run_memory.specs.declared.pointer.Pointer.{Pointer}
use Rattle.run_memory.specs.declared.pointer.Value.{Value}
use Rattle.ir_base.specs.declared.cause.Cause.{Cause}
use Rattle.ir_base.specs.declared.ops.BinOp.{BinOp}
use Rattle.ir_base.specs.declared.ops.Flags.{Flags}
use Rattle.ir_base.specs.declared.ops.Pred.{Pred}
use Rattle.ir_base.specs.declared.outcome.Event.{Event}
use Rattle.ir_base.specs.declared.outcome.Word.{Word}
use Rattle.run_ints.specs.Numbers.{binary}
use Rattle.run_ints.specs.declared.num.Num.{Num}
use Rattle.ir_model.specs.Layout.{same_type}
use Rattle.ir_model.specs.Names.{declaration_named, function_named}
use Rattle.ir_model.specs.Ty.{Ty, array, int, named, ptr, structure, token}
use Rattle.ir_model.specs.declared.instr.Case.{Case}
use Rattle.ir_model.specs.declared.instr.Instr.{Instr}
use Rattle.ir_model.specs.declared.instr.Terminator.{Terminator}
use Rattle.ir_model.specs.declared.module.Function.{Function}
use Rattle.ir_model.specs.declared.module.Param.{Param}
use Rattle.ir_model.specs.declared.operand.Allocator.{Allocator}
use Rattle.ir_model.specs.declared.operand.Arg.{Arg}
use Rattle.ir_model.specs.declared.operand.Callee.{Callee}
use Rattle.ir_model.specs.declared.operand.Intrinsic.{Intrinsic}
use Rattle.ir_model.specs.declared.operand.Operand.{Operand}
use Rattle.run_laws.proofs.memory.Comparisons.{comparisons_kept}
use Rattle.run_laws.proofs.memory.Copies.{copies_kept}
use Rattle.run_laws.proofs.memory.Loads.{loads_kept}
use Rattle.run_laws.proofs.memory.Stores.{stores_kept}
use Rattle.run_laws.specs.memory.Pointers.{Home, IsValue}
use Rattle.run_laws.specs.memory.Standing.{AreByteRights, Embeds}
use Rattle.run_step.specs.Step.{Action, AtInstr, AtTerm, Context, Deallocate, Done, Enter, Fetched, GoTo, Nowhere, Stuck, Work, action_of, answer, branch, by_pred, compared, copied_bytes, done, cast_to, fits_function, fits_params, if_alignment, indirect_call, is_alignment, is_word, named_call, observed, risen, same_result, set_memory, set_value, switch, target_of, with_event, with_length, words_of}
use Rattle.run_step.specs.Values.{access_of, address, arg_value, arg_values, distance, element, indices_of, literal, nth, number_at, operand_value, stored, truth_value, value_of, with_result}
use Rattle.run_laws.proofs.embedded.Memories.{bounds_kept, copy_refills, element_kept, nulls_kept, store_refills}
use Rattle.run_laws.proofs.embedded.Values.{IsNum, address_kept, alignment_is, binary_kept, cast_to_kept, chosen_kept, icmp_kept, nth_kept, number_kept, stored_kept, value_of_kept, width_kept, words_kept}
use Rattle.run_laws.specs.embedded.Refilled.{AreRefilled}
use Rattle.run_laws.specs.embedded.Related.{AreValues, HasNoSlot, IsSameDistance, moved_event}
use Rattle.run_laws.specs.changed.Changed.{Each}
use Rattle.run_laws.proofs.transfer.Muted.{compare_muted, copy_muted, element_muted, load_muted, muted_result, store_muted}
use Rattle.run_laws.proofs.transfer.Sets.{sets_name, sets_none, sets_result}
use Rattle.run_laws.specs.transfer.Muted.{IsShown, muted}
use Rattle.run_laws.specs.transfer.Shapes.{ArgStays, Binary, Branch, Call, CalleeStays, CaseStays, Cast, Direct, Empty, Gep, Icmp, Indirect, InstrStays, Jump, is_indirect, Load, Pair, Pairwise, Return, ReturnVoid, Select, Store, Switch, TermStays, Unreachable, Alloca}
use Rattle.run_laws.specs.transfer.Transfer.{AreJoined, GoesOver, IsSameCase, IsTransferred, Maps, StandsFor, args_at, given_at, looks_at, looks_in}

literal_itself : (homes : List Home) (ty : Ty) (z : ℤ) → IsValue homes (literal ty z) (literal ty z)
literal_itself homes (int w) z = refl
literal_itself homes ptr z = tt
literal_itself homes token z = tt
literal_itself homes (array n t) z = tt
literal_itself homes (structure ts) z = tt
literal_itself homes (named n) z = tt

-- arguments of the same types fit the same parameters
fits_same : (R : Operand → Operand → Type 0) (args now : List Arg) (params : List Param)
    → Pairwise (ArgStays R) args now → fits_params now params ≡ fits_params args params
fits_same R _ _ params Empty = refl
fits_same R _ _ [] (Pair a b args now h k) = refl
fits_same R _ _ (p ∷ params) (Pair a b args now h k) = λ i. same_type (h.ty i) p.ty && fits_same R args now params k i

fits_function_same : (R : Operand → Operand → Type 0) (ty : Option Ty) (args now : List Arg) (f : Option Function)
    → Pairwise (ArgStays R) args now → fits_function ty now f ≡ fits_function ty args f
fits_function_same R ty args now None h = refl
fits_function_same R ty args now (Some f) h = ap (λ t. same_result ty f.result && t) (fits_same R args now f.params h)

module _ (homes : List Home) (hides : ℕ
    → Bool) (maps : Maps) (c d : Context) (w x : Work) (law : AreByteRights c.rights) (law' : AreByteRights d.rights)
    (joined : AreJoined homes hides maps c d w x) where
  abbrev m : List MemoryBlock
  m = muted hides w.world.memory

  abbrev n : List MemoryBlock
  n = x.world.memory

  -- the arguments of both calls
  abbrev Both : Type 0
  Both = List Arg × List Arg

  abbrev Over : Option ℕ → Both → Action → Action → Type 0
  Over given both a b = GoesOver c.rights d.rights homes hides maps given both.0 both.1 w x a b

  abbrev Op : Operand → Operand → Type 0
  Op a b = StandsFor true (IsValue homes) c d w.values x.values a b

  -- ---- what stands in the target is hidden in no way

  shown_value : (u z : Value) → IsValue homes u z → IsShown hides u
  shown_value (Value.Ptr (Pointer.At b o)) z h = on (hides b) refl
    where
      on : (t : Bool) → hides b ≡ t → hides b ≡ false
      on true e = absurd (false≢true (sym (joined.hidden b e) ∙ h.0))
      on false e = e
  shown_value (Value.Ptr Pointer.Null) z h = tt
  shown_value (Value.Ptr (Pointer.Func f)) z h = tt
  shown_value Value.Poison z h = tt
  shown_value (Value.Int y) z h = tt

  -- ---- values, memory and events

  set_over : (both : Both) (name : ℕ) (v u : Value) → IsValue homes v u
      → Over (Some name) both (Done (set_value w name v)) (Done (set_value x name u))
  set_over both name v u h =
      (set_value x name u, refl, joined.over, sets_name homes w.values x.values joined.room name v u h)

  memory_over : (both : Both) (k k' : List MemoryBlock) → Embeds c.rights d.rights homes (muted hides k) k'
      → AreRefilled m (muted hides k) → AreRefilled n k'
      → Over None both (Done (set_memory w k)) (Done (set_memory x k'))
  memory_over both k k' em rm rn = (
    set_memory x k',
    refl,
    record {
      memory = em;
      nulls = nulls_kept c.rights d.rights homes m n (muted hides k) k' law law' rm rn joined.over.nulls;
      bounds = bounds_kept homes m n (muted hides k) k' rm rn joined.over.bounds;
      events = joined.over.events;
      answers = joined.over.answers;
      allocs = joined.over.allocs;
    },
    sets_none homes w.values x.values,
  )

  -- the target's action is this one
  by_target : (given : Option ℕ) (both : Both) (a b b' : Action) → b' ≡ b → Over given both a b → Over given both a b'
  by_target given both a b b' e h = subst (Over given both a) (sym e) h

  if_over : (given : Option ℕ) (both : Both) (align : ℕ) (a b : Action) → (is_alignment align ≡ true
      → Over given both a b) → Over given both (if_alignment align a) (if_alignment align b)
  if_over given both align a b h = on (is_alignment align) refl
    where
      on : (t : Bool) → is_alignment align ≡ t
          → Over given both (if t then a else Stuck Cause.Align) (if t then b else Stuck Cause.Align)
      on true e = h e
      on false e = tt

  -- ---- arguments

  arg_over : (a b : Arg) → ArgStays Op a b → IsValue homes (arg_value c.code w.values a) (arg_value d.code x.values b)
  arg_over a b h = subst (λ ty. IsValue homes (arg_value c.code w.values a)
      (operand_value d.code x.values ty b.value)) (sym h.ty) (h.value a.ty)

  args_over : (args now : List Arg) → Pairwise (ArgStays Op) args now
      → AreValues homes (arg_values c.code w.values args) (arg_values d.code x.values now)
  args_over _ _ Empty = tt
  args_over _ _ (Pair a b args now h k) = (arg_over a b h, args_over args now k)

  -- ---- what numbers alone decide

  binary_over : (both : Both) (name : ℕ) (op : BinOp) (flags : Flags) (a b a' b' : Num) → IsNum a a' → IsNum b b'
      → Over (Some name) both (done (λ k. set_value w name (value_of k)) (binary op flags a b))
      (done (λ k. set_value x name (value_of k)) (binary op flags a' b'))
  binary_over both name op flags a b a' b' ha hb = on (binary op flags a b) refl
    where
      on : (r : Result Num Cause) → binary op flags a b ≡ r
          → Over (Some name) both (done (λ k. set_value w name (value_of k)) r)
          (done (λ k. set_value x name (value_of k)) (binary op flags a' b'))
      on (Err cause) e = tt
      on (Ok v) e =
          let k = binary_kept op flags a b a' b' v ha hb e in
          by_target (Some name) both (Done (set_value w name (value_of v)))
          (Done (set_value x name (value_of k.number))) (done (λ i. set_value x name (value_of i))
          (binary op flags a' b')) (ap (done (λ i. set_value x name (value_of i))) k.gives) (set_over both name
          (value_of v) (value_of k.number) (value_of_kept homes v k.number k.stands))

  pointers_over : (both : Both) (name : ℕ) (pred : Pred) (a b a' b' : Value) → IsValue homes a a' → IsValue homes b b'
      → Over (Some name) both (done (λ same. set_value w name (truth_value (by_pred pred same)))
      (compare c.rights w.world.memory a b)) (done (λ same. set_value x name (truth_value (by_pred pred same)))
      (compare d.rights n a' b'))
  pointers_over both name pred a b a' b' ha hb = on (compare c.rights w.world.memory a b) refl
    where
      on : (r : Result Bool Cause) → compare c.rights w.world.memory a b ≡ r
          → Over (Some name) both (done (λ same. set_value w name (truth_value (by_pred pred same))) r)
          (done (λ same. set_value x name (truth_value (by_pred pred same))) (compare d.rights n a' b'))
      on (Err cause) e = tt
      on (Ok same) e =
          let seen = compare_muted hides c.rights w.world.memory a b (shown_value a a' ha) (shown_value b b' hb) ∙ e in
          let k = comparisons_kept c.rights d.rights homes m n a a' b b' same joined.over.memory joined.over.nulls ha
          hb seen in
          by_target (Some name) both (Done (set_value w name (truth_value (by_pred pred same))))
          (Done (set_value x name (truth_value (by_pred pred same))))
          (done (λ t. set_value x name (truth_value (by_pred pred t))) (compare d.rights n a' b'))
          (ap (done (λ t. set_value x name (truth_value (by_pred pred t)))) k) (set_over both name
          (truth_value (by_pred pred same)) (truth_value (by_pred pred same)) refl)

  compared_over : (both : Both) (name : ℕ) (pred : Pred) (ty : Ty) (a b a' b' : Value) → IsValue homes a a'
      → IsValue homes b b' → Over (Some name) both (compared c w name pred ty a b) (compared d x name pred ty a' b')
  compared_over both name pred (int k) a b a' b' ha hb = set_over both name _ _ (value_of_kept homes _ _
      (icmp_kept pred _ _ _ _ (width_kept homes k a a' ha) (width_kept homes k b b' hb)))
  compared_over both name pred ptr a b a' b' ha hb = pointers_over both name pred (address a) (address b) (address a')
      (address b') (address_kept homes a a' ha) (address_kept homes b b' hb)
  compared_over both name pred token a b a' b' ha hb = pointers_over both name pred (address a) (address b)
      (address a') (address b') (address_kept homes a a' ha) (address_kept homes b b' hb)
  compared_over both name pred (array k t) a b a' b' ha hb = pointers_over both name pred (address a) (address b)
      (address a') (address b') (address_kept homes a a' ha) (address_kept homes b b' hb)
  compared_over both name pred (structure ts) a b a' b' ha hb = pointers_over both name pred (address a) (address b)
      (address a') (address b') (address_kept homes a a' ha) (address_kept homes b b' hb)
  compared_over both name pred (named k) a b a' b' ha hb = pointers_over both name pred (address a) (address b)
      (address a') (address b') (address_kept homes a a' ha) (address_kept homes b b' hb)

  -- ---- memory

  load_over : (both : Both) (name : ℕ) (p q : Value) (what : Access) (align : ℕ) → 0 < access_bytes what
      → is_alignment align ≡ true → IsValue homes p q
      → Over (Some name) both (done (set_value w name) (load c.rights w.world.memory p what align))
      (done (set_value x name) (load d.rights n q what align))
  load_over both name p q what align pos ok h = on (load c.rights w.world.memory p what align) refl
    where
      on : (r : Result Value Cause) → load c.rights w.world.memory p what align ≡ r
          → Over (Some name) both (done (set_value w name) r) (done (set_value x name) (load d.rights n q what align))
      on (Err cause) e = tt
      on (Ok v) e =
          let k = loads_kept c.rights d.rights homes m n p q what align v law joined.over.memory pos
          (alignment_is align ok) h (load_muted hides c.rights w.world.memory p what align
          (shown_value p q h) ∙ e) in
          by_target (Some name) both (Done (set_value w name v)) (Done (set_value x name k.value))
          (done (set_value x name) (load d.rights n q what align)) (ap (done (set_value x name)) k.loads)
          (set_over both name v k.value k.stands)

  store_over : (both : Both) (p q v u : Value) (what : Access) (align : ℕ) → 0 < access_bytes what
      → is_alignment align ≡ true → IsValue homes p q → IsValue homes v u
      → Over None both (done (set_memory w) (store c.rights w.world.memory p v what align)) (done (set_memory x)
      (store d.rights n q u what align))
  store_over both p q v u what align pos ok hp hv = on (store c.rights w.world.memory p v what align) refl
    where
      on : (r : Result (List MemoryBlock) Cause) → store c.rights w.world.memory p v what align ≡ r
          → Over None both (done (set_memory w) r) (done (set_memory x) (store d.rights n q u what align))
      on (Err cause) e = tt
      on (Ok a) e =
          let is : store c.rights m p v what align ≡ Ok
          (muted hides a) = store_muted hides c.rights w.world.memory p v what align (shown_value p q hp) ∙ ap
          (muted_result hides) e in
          let k = stores_kept c.rights d.rights homes m n
          (muted hides a) p q v u what align law law' joined.over.memory pos (alignment_is align ok) hp hv is in
          by_target None both (Done (set_memory w a)) (Done (set_memory x k.memory)) (done (set_memory x)
          (store d.rights n q u what align)) (ap (done (set_memory x)) k.stores)
          (memory_over both a k.memory k.stands (store_refills c.rights m (muted hides a) p v what align is)
          (store_refills d.rights n k.memory q u what align k.stores))

  copy_over : (both : Both) (to from to' from' : Value) (len : ℕ) → IsValue homes to to' → IsValue homes from from'
      → Over None both (done (set_memory w) (copy c.rights w.world.memory to from len)) (done (set_memory x)
      (copy d.rights n to' from' len))
  copy_over both to from to' from' len ht hf = on (copy c.rights w.world.memory to from len) refl
    where
      on : (r : Result (List MemoryBlock) Cause) → copy c.rights w.world.memory to from len ≡ r
          → Over None both (done (set_memory w) r) (done (set_memory x) (copy d.rights n to' from' len))
      on (Err cause) e = tt
      on (Ok a) e =
          let copied : copy c.rights m to from len ≡ Ok
          (muted hides a) = copy_muted hides c.rights w.world.memory to from len (shown_value to to' ht)
          (shown_value from from' hf) ∙ ap (muted_result hides) e in
          let k = copies_kept c.rights d.rights homes m n
          (muted hides a) to from to' from' len law law' joined.over.memory ht hf copied in
          by_target None both (Done (set_memory w a)) (Done (set_memory x k.memory)) (done (set_memory x)
          (copy d.rights n to' from' len)) (ap (done (set_memory x)) k.copies)
          (memory_over both a k.memory k.stands (copy_refills c.rights m (muted hides a) to from len copied)
          (copy_refills d.rights n k.memory to' from' len k.copies))

  -- ---- calls

  length_over : (given : Option ℕ) (both : Both) (v u : Value) (f g : ℕ → Action) → IsValue homes v u
      → ((k : ℕ) → Over given both (f k) (g k)) → Over given both (with_length v f) (with_length u g)
  length_over given both (Value.Int y) u f g h k = subst (λ (z : Value). Over given both (f y.bits) (with_length z g))
      (sym h) (k y.bits)
  length_over given both Value.Poison u f g h k = tt
  length_over given both (Value.Ptr p) u f g h k = tt

  copied_over : (both : Both) (vs us : List Value) → AreValues homes vs us
      → Over None both (copied_bytes c w vs) (copied_bytes d x us)
  copied_over both vs us h =
      length_over None both (nth vs 2) (nth us 2) _ _ (nth_kept homes vs us 2 h)
      (λ k. copy_over both (address (nth vs 0)) (address (nth vs 1)) (address (nth us 0)) (address (nth us 1)) k
      (address_kept homes _ _ (nth_kept homes vs us 0 h)) (address_kept homes _ _ (nth_kept homes vs us 1 h)))

  event_over : (k : ℕ) (args : List Word)
      → (with_event x.world (maps.declaration k) args).events ≡ map (moved_event maps.declaration)
      (with_event w.world k args).events
  event_over k args =
      ap (λ (es : List Event). es ++ record { func = maps.declaration k; args = args } ∷ []) joined.over.events
      ∙ sym (map-append (moved_event maps.declaration) w.world.events (record { func = k; args = args } ∷ []))

  observed_over : (both : Both) (k : ℕ) (ty : Option Ty) (result : Option ℕ) (args args' : Option (List Word))
      → ((xs : List Word) → args ≡ Some xs → args' ≡ Some xs)
      → Over result both (observed c w k ty result args) (observed d x (maps.declaration k) ty result args')
  observed_over both k ty result None args' h = tt
  observed_over both k None result (Some args) args' h = (
    record { world = with_event x.world (maps.declaration k) args; values = with_result x.values result Value.Poison },
    ap (observed d x (maps.declaration k) None result) (h args refl),
    record {
      memory = joined.over.memory;
      nulls = joined.over.nulls;
      bounds = joined.over.bounds;
      events = event_over
          k args;
      answers = joined.over.answers;
      allocs = joined.over.allocs;
    },
    sets_result homes w.values x.values joined.room result Value.Poison Value.Poison tt,
  )
  observed_over both k (Some ty) result (Some args) args' h = (
    record {
      world = record x.world {
        events = (with_event x.world
            (maps.declaration k) args).events;
        answers_used = risen x.world.answers_used;
      };
      values = with_result x.values
          result (literal ty (answer d.answers x.world.answers_used));
    },
    ap (observed d x (maps.declaration k) (Some ty) result) (h args refl),
    record {
      memory = joined.over.memory;
      nulls = joined.over.nulls;
      bounds = joined.over.bounds;
      events = event_over
          k args;
      answers = ap risen joined.over.answers;
      allocs = joined.over.allocs;
    },
    sets_result homes w.values x.values joined.room result (literal ty (answer c.answers w.world.answers_used))
        (literal ty (answer d.answers x.world.answers_used))
        (subst (λ (z : ℤ). IsValue homes (literal ty (answer c.answers w.world.answers_used)) (literal ty z))
        (sym same) (literal_itself homes ty (answer c.answers w.world.answers_used))),
  )
    where
      same : answer d.answers x.world.answers_used ≡ answer c.answers w.world.answers_used
      same = λ i. answer (joined.answers i) (joined.over.answers i)

  named_over : (both : Both) (f k : Option ℕ) (ty : Option Ty) (result : Option ℕ) (must_tail : Bool)
      (vs us : List Value) → AreValues homes vs us
      → Over result both (named_call c w f k ty result must_tail vs) (named_call d x (option_map maps.function f)
      (option_map maps.declaration k) ty result must_tail us)
  named_over both (Some f) k ty result must_tail vs us h = (us, refl, h)
  named_over both None (Some k) ty result must_tail vs us h = observed_over both k ty result (words_of vs)
      (words_of us) (λ xs e. words_kept homes vs us xs h e)
  named_over both None None ty result must_tail vs us h = tt

  indirect_over : (both : Both) (args now : List Arg) (v u : Value) (ty : Option Ty) (result : Option ℕ)
      (must_tail : Bool) (vs us : List Value) → Pairwise (ArgStays Op) args now
      → ((func : ℕ) → v ≡ Value.Ptr (Pointer.Func func)
      → (maps.function func ≡ func) × (fits_function ty args (slice_get d.code.functions func) ≡ fits_function ty args
      (slice_get c.code.functions func))) → IsValue homes v u → AreValues homes vs us
      → Over result both (indirect_call c v ty result must_tail args vs) (indirect_call d u ty result must_tail now us)
  indirect_over both args now (Value.Ptr (Pointer.Func f)) u ty result must_tail vs us shape pointed h k =
      by_target result both (indirect_call c (Value.Ptr (Pointer.Func f)) ty result must_tail args vs)
      (indirect_call d (Value.Ptr (Pointer.Func f)) ty result must_tail now us)
      (indirect_call d u ty result must_tail now us)
      (ap (λ (z : Value). indirect_call d z ty result must_tail now us) h.1)
      (subst (λ (t : Bool). Over result both (if fits_function ty args
      (slice_get c.code.functions f) then Enter f vs result must_tail else Stuck Cause.Call)
      (if t then Enter f us result must_tail else Stuck Cause.Call)) (sym (fits_function_same Op ty args now
      (slice_get d.code.functions f) shape ∙ (pointed f refl).1))
      (on (fits_function ty args (slice_get c.code.functions f))))
    where
      on : (t : Bool) → Over result both (if t then Enter f vs result must_tail else Stuck Cause.Call)
          (if t then Enter f us result must_tail else Stuck Cause.Call)
      on true = (us, ap (λ g. Enter g us result must_tail) (sym (pointed f refl).0), k)
      on false = tt
  indirect_over both args now (Value.Ptr Pointer.Null) u ty result must_tail vs us shape pointed h k = tt
  indirect_over both args now (Value.Ptr (Pointer.At b o)) u ty result must_tail vs us shape pointed h k = tt
  indirect_over both args now Value.Poison u ty result must_tail vs us shape pointed h k = tt
  indirect_over both args now (Value.Int y) u ty result must_tail vs us shape pointed h k = tt

  deallocator_over : (given : Option ℕ) (both : Both) (vs us : List Value) → AreValues homes vs us
      → Over given both (Deallocate (address (nth vs 0))) (Deallocate (address (nth us 0)))
  deallocator_over given both vs us h = (address (nth us 0), refl, address_kept homes _ _ (nth_kept homes vs us 0 h))

  -- ---- getelementptr

  gep_over : (both : Both) (name : ℕ) (inbounds : Bool) (p q : Value) (e f : Option ℕ) → IsValue homes p q
      → IsSameDistance e f → Over (Some name) both (Done (set_value w name (element w.world.memory inbounds p e)))
      (Done (set_value x name (element n inbounds q f)))
  gep_over both name inbounds p q None f h k = set_over both name Value.Poison (element n inbounds q f) tt
  gep_over both name inbounds p q (Some e) f h k =
      set_over both name (element w.world.memory inbounds p (Some e)) (element n inbounds q f)
      (subst (λ (g : Option ℕ). IsValue homes (element w.world.memory inbounds p (Some e)) (element n inbounds q g))
      (sym k)
      (subst (λ (u : Value). IsValue homes u (element n inbounds q (Some e)))
      (element_muted hides w.world.memory inbounds p (Some e) (shown_value p q h))
      (element_kept homes m n joined.over.bounds inbounds p q (Some e) h)))

  -- ---- instructions

  abbrev Here : Fetched → Fetched → Type 0
  Here here there = IsTransferred (IsValue homes) maps c d w.values x.values here there

  abbrev Goes : Fetched → Fetched → Type 0
  Goes here there = Over (given_at here) (args_at here, args_at there) (action_of c w here) (action_of d x there)

  -- operands that are looked at
  op : (t : Bool) → true ≡ t → (a b : Operand) → StandsFor t (IsValue homes) c d w.values x.values a b → Op a b
  op t e a b h = subst (λ s. StandsFor s (IsValue homes) c d w.values x.values a b) (sym e) h

  arg : (t : Bool) → true ≡ t → (a b : Arg) → ArgStays (StandsFor t (IsValue homes) c d w.values x.values) a b
      → ArgStays Op a b
  arg t e a b h = subst (λ s. ArgStays (StandsFor s (IsValue homes) c d w.values x.values) a b) (sym e) h

  args : (t : Bool) → true ≡ t → (is now : List Arg)
      → Pairwise (ArgStays (StandsFor t (IsValue homes) c d w.values x.values)) is now → Pairwise (ArgStays Op) is now
  args t e is now h = subst (λ s. Pairwise (ArgStays (StandsFor s (IsValue homes) c d w.values x.values)) is now)
      (sym e) h

  -- the value of a stored argument is stored is one of its type
  abbrev Stored : Arg → Arg → Value → Value → ℕ → Ty → Type 0
  Stored a b p q align ty =
      Over None ([], []) (if_alignment align (done (set_memory w) (store c.rights w.world.memory (address p)
      (stored (access_of a.ty) (arg_value c.code w.values a)) (access_of a.ty) align)))
      (if_alignment align (done (set_memory x) (store d.rights n (address q) (stored (access_of ty)
      (operand_value d.code x.values ty b.value)) (access_of ty) align)))

  instr_over : (t : Bool) (i j : Instr) → looks_at (AtInstr i) ≡ t
      → InstrStays (StandsFor t (IsValue homes) c d w.values x.values) i j → Here (AtInstr i) (AtInstr j)
      → Goes (AtInstr i) (AtInstr j)
  instr_over t _ _ e (Binary r o flags ty a b a' b' ha hb) k = binary_over ([], []) r o flags _ _ _ _
      (number_kept homes ty _ _ (op t e a a' ha ty)) (number_kept homes ty _ _ (op t e b b' hb ty))
  instr_over t _ _ e (Icmp r pred ty a b a' b' ha hb) k = compared_over ([], []) r pred ty _ _ _ _ (op t e a a' ha ty)
      (op t e b b' hb ty)
  instr_over t _ _ e (Select r y z a b a' b' h ha hb) k = set_over ([], []) r _ _ (chosen_kept homes _ _ _ _ _ _
      (op t e y z h (int 1)) (arg_over a a' (arg t e a a' ha)) (arg_over b b' (arg t e b b' hb)))
  instr_over t _ _ e (Cast r o nneg a b to h) k =
      subst (λ (ty : Ty). Over (Some r) ([], []) (action_of c w (AtInstr (Instr.Cast r o nneg a to)))
      (Done (set_value x r (cast_to o nneg (number_at ty (operand_value d.code x.values ty b.value)) to))))
      (sym (arg t e a b h).ty)
      (set_over ([], []) r _ _ (cast_to_kept homes o nneg _ _ to (number_kept homes a.ty _ _
      ((arg t e a b h).value a.ty))))
  instr_over t _ _ e (Alloca r ty align) k = absurd k.no_slot
  instr_over t _ _ e (Load r ty y z align h) k = if_over (Some r) ([], []) align _ _ (λ ok. load_over ([], []) r _ _
      (access_of ty) align k.bytes ok (address_kept homes _ _ (op t e y z h ptr)))
  instr_over t _ _ e (Store a b y z align ha h) k =
      subst (λ (ty : Ty). Stored a b (operand_value c.code w.values ptr y)
      (operand_value d.code x.values ptr z) align ty) (sym (arg t e a b ha).ty)
      (if_over None ([], []) align _ _ (λ ok. store_over ([], []) _ _ _ _ (access_of a.ty) align k.bytes ok
      (address_kept homes _ _ (op t e y z h ptr)) (stored_kept homes (access_of a.ty) _ _
      ((arg t e a b ha).value a.ty))))
  instr_over t _ _ e (Gep r inbounds ty y z is js h hs) k = gep_over ([], []) r inbounds _ _ (distance c.code ty
      (indices_of c.code w.values is)) (distance d.code ty (indices_of d.code x.values js))
      (op t e y z h ptr) k.distance
  instr_over t _ _ e (Call r must_tail ty callee other is now hc hs) k = call_over callee other hc e k
    where
      intrinsic_over : (i : Intrinsic) → looks_in i ≡ t
          → HasNoSlot (AtInstr (Instr.Call r must_tail ty (Callee.Intrinsic i) is))
          → Goes (AtInstr (Instr.Call r must_tail ty (Callee.Intrinsic i) is))
          (AtInstr (Instr.Call r must_tail ty (Callee.Intrinsic i) now))
      intrinsic_over Intrinsic.LifetimeStart e s = absurd s
      intrinsic_over Intrinsic.LifetimeEnd e s = absurd s
      intrinsic_over Intrinsic.MemcpyI64 e s = copied_over (is, now) (arg_values c.code w.values is)
          (arg_values d.code x.values now) (args_over is now (args t e is now hs))
      intrinsic_over Intrinsic.MemcpyI32 e s = copied_over (is, now) (arg_values c.code w.values is)
          (arg_values d.code x.values now) (args_over is now (args t e is now hs))
      intrinsic_over _ e s = (refl, refl)

      allocator_over : (a : Allocator) → true ≡ t
          → HasNoSlot (AtInstr (Instr.Call r must_tail ty (Callee.Allocator a) is))
          → Goes (AtInstr (Instr.Call r must_tail ty (Callee.Allocator a) is))
          (AtInstr (Instr.Call r must_tail ty (Callee.Allocator a) now))
      allocator_over Allocator.Malloc e s = absurd s
      allocator_over Allocator.Znwm e s = absurd s
      allocator_over Allocator.Free e s = deallocator_over None (is, now) _ _ (args_over is now (args t e is now hs))
      allocator_over Allocator.ZdlPv e s = deallocator_over None (is, now) _ _ (args_over is now (args t e is now hs))
      allocator_over Allocator.ZdlPvm e s = deallocator_over None (is, now) _ _ (args_over is now (args t e is now hs))

      direct_over : (callee : Callee) → is_indirect callee ≡ false
          → looks_at (AtInstr (Instr.Call r must_tail ty callee is)) ≡ t
          → Here (AtInstr (Instr.Call r must_tail ty callee is)) (AtInstr (Instr.Call r must_tail ty callee now))
          → Goes (AtInstr (Instr.Call r must_tail ty callee is)) (AtInstr (Instr.Call r must_tail ty callee now))
      direct_over (Callee.Named name) i e k =
          by_target r (is, now) (named_call c w (function_named c.code name)
          (declaration_named c.code name) ty r must_tail (arg_values c.code w.values is))
          (named_call d x (option_map maps.function (function_named c.code name)) (option_map maps.declaration
          (declaration_named c.code name)) ty r must_tail (arg_values d.code x.values now))
          (named_call d x (function_named d.code name) (declaration_named d.code name) ty r must_tail
          (arg_values d.code x.values now)) (λ j. named_call d x (k.callee.0 j) (k.callee.1 j) ty r must_tail
          (arg_values d.code x.values now))
          (named_over (is, now) (function_named c.code name) (declaration_named c.code name) ty r must_tail _ _
          (args_over is now (args t e is now hs)))
      direct_over (Callee.Allocator a) i e k = allocator_over a e k.no_slot
      direct_over (Callee.Intrinsic a) i e k = intrinsic_over a e k.no_slot
      direct_over (Callee.Local v) i e k = absurd (cc)

      call_over : (callee other : Callee)
          → CalleeStays (StandsFor t (IsValue homes) c d w.values x.values) callee other
          → looks_at (AtInstr (Instr.Call r must_tail ty callee is)) ≡ t
          → Here (AtInstr (Instr.Call r must_tail ty callee is)) (AtInstr (Instr.Call r must_tail ty other now))
          → Goes (AtInstr (Instr.Call r must_tail ty callee is)) (AtInstr (Instr.Call r must_tail ty other now))
      call_over _ _ (Direct callee i) e k = direct_over callee i e k
      call_over _ _ (Indirect v name h) e k = indirect_over (is, now) is now _ _ ty r must_tail _ _
          (args t e is now hs) k.pointed (op t e _ _ h ptr) (args_over is now (args t e is now hs))

  -- ---- terminators

  branch_over : (v u : Value) (a b : ℕ) → IsValue homes v u
      → Over None ([], []) (branch v a b) (branch u (maps.label a) (maps.label b))
  branch_over (Value.Int y) u a b h = ap (λ (z : Value). branch z (maps.label a) (maps.label b)) h ∙ on (y.bits == 1)
    where
      on : (t : Bool) → GoTo (if t then maps.label a else maps.label b) ≡ GoTo (maps.label (if t then a else b))
      on true = refl
      on false = refl
  branch_over Value.Poison u a b h = tt
  branch_over (Value.Ptr p) u a b h = tt

  target_over : (y : Word) (default : ℕ) (cases now : List Case) → Pairwise (CaseStays maps.label) cases now
      → Each (IsSameCase c d) cases
      → target_of d.code y (maps.label default) now ≡ maps.label (target_of c.code y default cases)
  target_over y default _ _ Empty s = refl
  target_over y default _ _ (Pair k j cases now h hs) s =
      (λ i. if is_word y (arg_value d.code [] (h.arg i)) then h.target i else target_over y default cases now hs s.1 i)
      ∙ ap (λ v. if is_word y v then maps.label k.target else maps.label (target_of c.code y default cases)) s.0
      ∙ on (is_word y (arg_value c.code [] k.arg))
    where
      on : (t : Bool) → (if t then maps.label k.target else maps.label
          (target_of c.code y default cases)) ≡ maps.label (if t then k.target else target_of c.code y default cases)
      on true = refl
      on false = refl

  switch_over : (v u : Value) (default : ℕ) (cases now : List Case) → IsValue homes v u
      → Pairwise (CaseStays maps.label) cases now → Each (IsSameCase c d) cases
      → Over None ([], []) (switch c.code v default cases) (switch d.code u (maps.label default) now)
  switch_over (Value.Int y) u default cases now h hs s = ap (λ (z : Value). switch d.code z
      (maps.label default) now) h ∙ ap GoTo (target_over y default cases now hs s)
  switch_over Value.Poison u default cases now h hs s = tt
  switch_over (Value.Ptr p) u default cases now h hs s = tt

  term_over : (a b : Terminator) → TermStays Op maps.label a b → Here (AtTerm a) (AtTerm b)
      → Goes (AtTerm a) (AtTerm b)
  term_over _ _ (Jump label) k = refl
  term_over _ _ (Branch y z a b h) k = branch_over _ _ a b (h (int 1))
  term_over _ _ (Switch a b default cases now h hs) k = switch_over _ _ default cases now (arg_over a b h) hs k.cases
  term_over _ _ (Return a b h) k = (_, refl, arg_over a b h)
  term_over _ _ ReturnVoid k = refl
  term_over _ _ Unreachable k = tt

  here_over : (here there : Fetched) → Here here there → Goes here there
  here_over Nowhere there k = tt
  here_over (AtInstr i) Nowhere k = absurd k.shape
  here_over (AtInstr i) (AtInstr j) k = instr_over (looks_at (AtInstr i)) i j refl k.shape k
  here_over (AtInstr i) (AtTerm t) k = absurd k.shape
  here_over (AtTerm t) Nowhere k = absurd k.shape
  here_over (AtTerm t) (AtInstr j) k = absurd k.shape
  here_over (AtTerm t) (AtTerm u) k = term_over t u k.shape k

pub step_over : (homes : List Home) (hides : ℕ
    → Bool) (maps : Maps) (c d : Context) (w x : Work) (here there : Fetched) → AreByteRights c.rights
    → AreByteRights d.rights → AreJoined homes hides maps c d w x
    → IsTransferred (IsValue homes) maps c d w.values x.values here there
    → GoesOver c.rights d.rights homes hides maps (given_at here) (args_at here) (args_at there) w x
    (action_of c w here) (action_of d x there)
step_over homes hides maps c d w x here there law law' joined k = here_over homes hides maps c d w x law law' joined
    here there k
