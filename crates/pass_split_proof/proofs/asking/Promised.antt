-- From a frame to its promise, and back: the part goes 16 bytes on, or back.
use Rattle.std.proofs.Common.{◌≡◌, ℕ, ◌+◌, ◌-◌, ◌%◌, ◌<◌, ◌≤◌, ◌^◌, Bool, true, false, not, List, [], ◌∷◌, length, Option, Some, None, Result, Ok, Err, refl, sym, ap, ◌∙◌, subst, arith, if◌then◌else◌, ◌==◌}
use Rattle.std.specs.Prelude.{find, negsuc, option_map, slice_get}
use Rattle.std.specs.Option.{option_map_or}
use Rattle.std.proofs.lemmas.Bool.{and_parts, eqb-true, false≢true}
use Rattle.pass_proofs.specs.frame_layout.declared.layout.PlacedField.{PlacedField}
use Rattle.pass_proofs.specs.ir_base.declared.cause.Cause.{Cause}
use Rattle.pass_proofs.specs.ir_model.Ty.{int, ptr}
use Rattle.pass_proofs.specs.ir_model.declared.instr.Instr.{Instr}
use Rattle.pass_proofs.specs.ir_model.declared.operand.Arg.{Arg}
use Rattle.pass_proofs.specs.ir_model.declared.operand.Callee.{Callee}
use Rattle.pass_proofs.specs.ir_model.declared.operand.Intrinsic.{Intrinsic}
use Rattle.pass_proofs.specs.ir_model.declared.operand.Operand.{Operand}
use Rattle.pass_proofs.specs.ir_paths.Windows.{operand_at}
use Rattle.pass_proofs.specs.pass_intrinsics.Lowered.{address, number_arg, promise_distance}
use Rattle.pass_proofs.specs.pass_intrinsics.Lowered.{operand_at as lowered_operand}
use Rattle.pass_proofs.specs.pass_intrinsics.Shapes.{is_true}
use Rattle.pass_proofs.proofs.addresses.numbers.Done.{address_done}
use Rattle.pass_split_proof.proofs.asking.Placed.{asks_at}
use Rattle.pass_split_proof.proofs.giving.Constants.{not_again}
use Rattle.pass_split_proof.proofs.giving.Frames.{block_there}
use Rattle.pass_split_proof.proofs.giving.Given.{none_given, one_given}
use Rattle.pass_split_proof.proofs.held.Moves.{ok_is}
use Rattle.pass_split_proof.proofs.states.Twins.{twin_at}
use Rattle.pass_split_proof.proofs.steps.Followed.{framed_does}
use Rattle.pass_split_proof.proofs.steps.Given.{address_itself}
use Rattle.pass_split_proof.proofs.steps.Woken.{found_there, instance_found}
use Rattle.pass_split_proof.proofs.waking.Addressed.{leads}
use Rattle.pass_split_proof.specs.asking.Asking.{ArePromisesInFront, IsAsking}
use Rattle.pass_split_proof.specs.simulation.Followed.{IsFollowed}
use Rattle.pass_split_proof.specs.states.Memories.{homes_of}
use Rattle.pass_split_proof.specs.states.Related.{AreRelated}
use Rattle.pass_proofs.specs.run_agreement.Machines.{IsFine}
use Rattle.pass_proofs.specs.run_framed.Framed.{FramedGiven, address_behind, framed_frame_of_promise, framed_promise, framed_promise_of_frame, framed_step, is_over, is_promise_at, is_promise_kind, layout_of, promise_offset}
use Rattle.pass_proofs.proofs.run_laws.access.Done.{gep_done}
use Rattle.pass_proofs.specs.run_laws.access.Lines.{pointer_at}
use Rattle.pass_proofs.specs.run_laws.memory.Pointers.{IsValue}
use Rattle.pass_proofs.specs.run_memory.Pointers.{offset_of}
use Rattle.pass_proofs.specs.run_memory.declared.pointer.Offset.{Offset}
use Rattle.pass_proofs.specs.run_memory.declared.pointer.Pointer.{Pointer}
use Rattle.pass_proofs.specs.run_memory.declared.pointer.Value.{Value}
use Rattle.run_access_worked.specs.run_plain.Plain.{PlainGiven, plain_context, plain_work}
use Rattle.run_access_worked.specs.run_plain.declared.state.PlainState.{PlainState}
use Rattle.pass_proofs.proofs.run_source.Indexes.{last-passes}
use Rattle.pass_proofs.specs.run_source.State.{frame_address_of, gives, instance_at, last_where, or_undefined}
use Rattle.pass_proofs.specs.run_source.declared.state.Instance.{Instance}
use Rattle.pass_proofs.specs.run_source.declared.state.State.{State}
use Rattle.pass_proofs.specs.run_step.Results.{and_then, found, ok_if}
use Rattle.pass_proofs.specs.run_step.Step.{AtInstr, Context, Coro, Done, Work, instr_action, set_value, value_at}
use Rattle.pass_proofs.specs.run_step.Values.{arg_value}

-- ---- operands

-- whether it asks for the way back is told alike by both
same_way : (a : Arg) (rest : List Arg) → is_true (lowered_operand (a ∷ rest) 2) ≡ is_true (operand_at (a ∷ rest) 2)
same_way a [] = refl
same_way a (b ∷ []) = refl
same_way a (b ∷ d ∷ rest) = refl

-- ---- the framed run

-- an instance, and a distance at which its promise stands
record IsPromised (g : FramedGiven) (s : State) (p v : Value) (back : Bool) : Type 0 where
  number : ℕ
  instance : Instance
  there : slice_get s.instances number ≡ Some instance
  far : ℕ
  placed : promise_offset g instance ≡ Some far
  from : p ≡ (if back then pointer_at instance.block (instance.start + far) else frame_address_of instance)
  to : v ≡ (if back then frame_address_of instance else address_behind instance far)

module _ (g : FramedGiven) (s : State) (v : Value) where
  ok_value : (r : Result Value Cause) (a b : Value) → r ≡ Ok a → r ≡ Ok b → a ≡ b
  ok_value r a b e h = cc

  -- from a frame to its promise
  forth_at : (p : Value) (i : ℕ) (x : Instance) → slice_get s.instances i ≡ Some x → p ≡ frame_address_of x
      → (o : Option ℕ) → promise_offset g x ≡ o
      → and_then (found Cause.Promise o) (λ (offset : ℕ). ok_if (not (is_over x)) Cause.Dead (address_behind x offset))
      ≡ Ok v → IsPromised g s p v false
  forth_at p i x there address None e h = absurd (cc)
  forth_at p i x there address (Some far) e h = record {
    number = i;
    instance = x;
    there = there;
    far = far;
    placed = e;
    from = address;
    to = sym (ok_is (not (is_over x)) Cause.Dead (address_behind x far) v h).1;
  }

  forth : (p : Value) → framed_promise_of_frame g s p ≡ Ok v → IsPromised g s p v false
  forth p h = on (instance_at s.instances p) refl h
    where
      on : (o : Option (ℕ × Instance)) → instance_at s.instances p ≡ o
          → and_then (found Cause.Frame o) (λ (q : ℕ × Instance). and_then (found Cause.Promise (promise_offset g q.1))
          (λ (offset : ℕ). ok_if (not (is_over q.1)) Cause.Dead (address_behind q.1 offset))) ≡ Ok v
          → IsPromised g s p v false
      on None f h = absurd (cc)
      on (Some (i, x)) f h = let q = instance_found s.instances p i x f in
          forth_at p i x q.0 q.1 (promise_offset g x) refl h

  -- and back
  back_at : (b : ℕ) (o : Offset) (i : ℕ) (x : Instance) → slice_get s.instances i ≡ Some x
      → is_promise_at g b o.bits x ≡ true → ok_if (not (is_over x)) Cause.Promise (frame_address_of x) ≡ Ok v
      → IsPromised g s (Value.Ptr (Pointer.At b o)) v true
  back_at b o i x there test h = on (promise_offset g x) refl
      (and_parts (x.block == b) (option_map_or (λ (far : ℕ). o.bits == x.start + far) (promise_offset g x) false) test)
    where
      on : (q : Option ℕ) → promise_offset g x ≡ q
          → ((x.block == b) ≡ true) × (option_map_or (λ (far : ℕ). o.bits == x.start + far) q false ≡ true)
          → IsPromised g s (Value.Ptr (Pointer.At b o)) v true
      on None e t = absurd (false≢true t.1)
      on (Some far) e t = record {
        number = i;
        instance = x;
        there = there;
        far = far;
        placed = e;
        from = address (eqb-true x.block b t.0) (eqb-true o.bits (x.start + far) t.1);
        to = sym (ok_is (not (is_over x)) Cause.Promise (frame_address_of x) v h).1;
      }
        where
          address : x.block ≡ b → o.bits ≡ x.start + far
              → Value.Ptr (Pointer.At b o) ≡ pointer_at x.block (x.start + far)
          address block start = λ j. Value.Ptr (Pointer.At (sym block j) (record { bits = start j }))

  back : (p : Value) → framed_frame_of_promise g s p ≡ Ok v → IsPromised g s p v true
  back (Value.Ptr (Pointer.At b o)) h = on (last_where (is_promise_at g b o.bits) s.instances) refl h
    where
      on : (q : Option (ℕ × Instance)) → last_where (is_promise_at g b o.bits) s.instances ≡ q
          → and_then (found Cause.Promise q) (λ (q : ℕ × Instance). ok_if (not (is_over q.1)) Cause.Promise
          (frame_address_of q.1)) ≡ Ok v → IsPromised g s (Value.Ptr (Pointer.At b o)) v true
      on None f h = absurd (cc)
      on (Some (i, x)) f h =
          let y = found_there s.instances (is_promise_at g b o.bits) i x f in
          back_at b o i x y.1 (last-passes (is_promise_at g b o.bits) s.instances (Some i) (sym y.0) x y.1) h
  back (Value.Ptr Pointer.Null) h = absurd (cc)
  back (Value.Ptr (Pointer.Func f)) h = absurd (cc)
  back (Value.Int n) h = absurd (cc)
  back Value.Poison h = absurd (cc)

promised : (g : FramedGiven) (s : State) (p v : Value) (from : Operand) → framed_promise g s p from ≡ Ok v
    → IsPromised g s p v (is_true from)
promised g s p v from h = on (is_true from) h
  where
    on : (b : Bool) → (if b then framed_frame_of_promise g s p else framed_promise_of_frame g s p) ≡ Ok v
        → IsPromised g s p v b
    on true h = back g s v p h
    on false h = forth g s v p h

-- ---- what the part does

module _ (c : Context) (w : Work) (name b o : ℕ) (p : Operand) where
  -- 16 bytes back
  goes_back : value_at c w ptr p ≡ pointer_at b (o + 16) → o < 2 ^ 64
      → instr_action c w (address name p (negsuc 15)) ≡ Done (set_value w name (pointer_at b o))
  goes_back leads small =
      gep_done c w name b (2 ^ 64 - 16) (offset_of (o + 16)) false (int 8) p (number_arg 64 (negsuc 15) ∷ []) leads refl
      (λ e. absurd (false≢true e))
      ∙ ap (λ (k : ℕ). Done (set_value w name (pointer_at b k))) (wraps o small)
    where
      wraps : (o : ℕ) → o < 2 ^ 64 → ((o + 16) + (2 ^ 64 - 16)) % 2 ^ 64 ≡ o
      wraps o small = omega arith

module _ (g : FramedGiven) (h : PlainGiven) (s : State) (t : PlainState) (r : AreRelated g h s t)
    (k : IsAsking g h s t r Intrinsic.CoroPromise) (fine : IsFine (framed_step g s).outcome)
    (front : ArePromisesInFront g s) where
  abbrev p : Value
  p = arg_value g.given.code s.top.values k.at.arg

  abbrev way : Operand
  way = operand_at (k.at.arg ∷ k.at.rest) 2

  abbrev lowered_way : Bool
  lowered_way = is_true (lowered_operand (k.at.arg ∷ k.at.rest) 2)

  abbrev here : Option ℕ → Instr
  here result = Instr.Call result k.at.must_tail k.at.ty (Callee.Intrinsic Intrinsic.CoroPromise)
      (k.at.arg ∷ k.at.rest)

  does : framed_step g s ≡ or_undefined g.given s (and_then (framed_promise g s p way) (λ (v : Value).
      Ok (gives s k.at.result v)))
  does = framed_does g s (AtInstr (here k.at.result)) (Coro Intrinsic.CoroPromise (k.at.arg ∷ k.at.rest) k.at.result)
      k.at.running k.at.there refl refl

  record IsGiven : Type 0 where
    value : Value
    is : framed_step g s ≡ gives s k.at.result value
    promise : IsPromised g s p value (is_true way)

  given : IsGiven
  given = on (framed_promise g s p way) refl does
    where
      on : (q : Result Value Cause) → framed_promise g s p way ≡ q
          → framed_step g s ≡ or_undefined g.given s (and_then q (λ (v : Value). Ok (gives s k.at.result v)))
          → IsGiven
      on (Err cause) e d = absurd (subst (λ (x : State). IsFine x.outcome) d fine)
      on (Ok v) e d = record { value = v; is = d; promise = promised g s p v way e }

  abbrev x : Instance
  x = given.promise.instance

  there : slice_get s.instances given.promise.number ≡ Some x
  there = given.promise.there

  -- the promise is in front
  sixteen : given.promise.far ≡ 16
  sixteen = on (find (λ y. is_promise_kind y.kind) (layout_of g.layouts x.coroutine).fields) refl given.promise.placed
    where
      on : (q : Option PlacedField) → find (λ y. is_promise_kind y.kind) (layout_of g.layouts x.coroutine).fields ≡ q
          → option_map (λ (y : PlacedField). y.offset) q ≡ Some given.promise.far → given.promise.far ≡ 16
      on None e f = absurd (cc)
      on (Some y) e f = sym (same y f) ∙ (front given.promise.number x there).offset y e
        where
          same : (y : PlacedField) → Some y.offset ≡ Some given.promise.far → y.offset ≡ given.promise.far
          same y f = cc

  low : x.block < length s.world.memory
  low = r.frames.laid.known given.promise.number x there

  small : x.start + 16 < 2 ^ 64
  small =
      let y = block_there s.world.memory x.block low in
      let laid = (front given.promise.number x there).laid in
      below x.start _ _ _ y.0.size laid.behind laid.index
      (r.frames.laid.lies given.promise.number x y.0 there y.1).inside
      (twin_at s.world.memory t.world.memory r.world.memory.twins x.block y.0 y.1).is.small
    where
      below : (a i l z b : ℕ) → 16 ≤ i → i + l ≤ z → a + z ≤ b → b < 2 ^ 64 → a + 16 < 2 ^ 64
      below a i l z b front inside fits lt = omega arith

  smaller : x.start < 2 ^ 64
  smaller = less x.start small
    where
      less : (a : ℕ) → a + 16 < 2 ^ 64 → a < 2 ^ 64
      less a lt = omega arith

  -- what is given, and what the part gives
  abbrev gives_at : Bool → ℕ
  gives_at b = if b then x.start else x.start + 16

  value_is : given.value ≡ pointer_at x.block (gives_at (is_true way))
  value_is = given.promise.to ∙ on (is_true way)
    where
      wraps : (a : ℕ) → a + 16 < 2 ^ 64 → (a + 16) % 2 ^ 64 ≡ a + 16
      wraps a lt = omega arith

      on : (b : Bool) → (if b then frame_address_of x else address_behind x given.promise.far)
          ≡ pointer_at x.block (gives_at b)
      on true = refl
      on false = ap (λ (n : ℕ). address_behind x n) sixteen
          ∙ ap (λ (n : ℕ). pointer_at x.block n) (wraps x.start small)

  stands : (b : Bool) → IsValue (homes_of s.world.memory) (pointer_at x.block (gives_at b))
      (pointer_at x.block (gives_at b))
  stands true = address_itself (length s.world.memory) x.block x.start low smaller
  stands false = address_itself (length s.world.memory) x.block (x.start + 16) low small

  part_gives : (name : ℕ) (b : Bool)
      → p ≡ (if b then pointer_at x.block (x.start + given.promise.far) else frame_address_of x)
      → instr_action (plain_context h t) (plain_work t) (address name k.at.arg.value (promise_distance b))
      ≡ Done (set_value (plain_work t) name (pointer_at x.block (gives_at b)))
  part_gives name true e = goes_back (plain_context h t) (plain_work t) name x.block x.start k.at.arg.value
      (leads g h s t r Intrinsic.CoroPromise k.at (record x { start = x.start + 16 })
      (e ∙ ap (λ (n : ℕ). pointer_at x.block (x.start + n)) sixteen) small low) smaller
  part_gives name false e = address_done (plain_context h t) (plain_work t) name x.block x.start 16 k.at.arg.value
      (leads g h s t r Intrinsic.CoroPromise k.at x e smaller low) small

  named_followed : (name : ℕ) → k.at.result ≡ Some name → IsFollowed g h s t
  named_followed name e = one_given g h s t r k.at.running Intrinsic.CoroPromise
      (asks_at g h s t r Intrinsic.CoroPromise k) name (address name k.at.arg.value (promise_distance lowered_way))
      given.value (pointer_at x.block (gives_at (is_true way))) e
      (record { begins = not_again r.top.part (here (Some name)) refl; cut = λ after. refl; lowered = λ n. refl })
      (subst (λ (v : Value). IsValue (homes_of s.world.memory) v (pointer_at x.block (gives_at (is_true way))))
      (sym value_is) (stands (is_true way)))
      (ap (λ (b : Bool). instr_action (plain_context h t) (plain_work t) (address name k.at.arg.value
      (promise_distance b))) (same_way k.at.arg k.at.rest) ∙ part_gives name (is_true way) given.promise.from)
      (given.is ∙ ap (λ (o : Option ℕ). gives s o given.value) e)

  by_result : (o : Option ℕ) → k.at.result ≡ o → IsFollowed g h s t
  by_result None e = none_given g h s t r k.at.running Intrinsic.CoroPromise
      (asks_at g h s t r Intrinsic.CoroPromise k) e
      (record { begins = not_again r.top.part (here None) refl; cut = λ after. refl; lowered = λ n. refl })
      (given.is ∙ ap (λ (o : Option ℕ). gives s o given.value) e)
  by_result (Some name) e = named_followed name e

  pub promise_followed : IsFollowed g h s t
  promise_followed = by_result k.at.result refl
