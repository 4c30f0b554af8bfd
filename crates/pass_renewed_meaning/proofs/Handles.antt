-- Arguments stand in the second run for what they are in the first, but for addresses in slots that are made anew; and
-- such an address is no frame address, no promise and no block of an allocator.
use Rattle.std.proofs.Common.{◌≡◌, ℕ, zero, suc, ◌+◌, ◌⊎◌, inl, inr, Bool, true, false, not, List, [], ◌∷◌, Option, Some, None}
use Rattle.std.proofs.Common.{Result, Ok, Err, refl, sym, ap, ◌∙◌, subst, if◌then◌else◌, ◌&&◌, ◌==◌, arith, ⊎_elim}
use Rattle.std.proofs.lemmas.Bool.{false≢true}
use Rattle.std.specs.Prelude.{ℤ, cond, find, option_and_then, slice_get}
use Rattle.std.specs.Option.{option_map_or}
use Rattle.run_types.specs.ir_base.declared.cause.Cause.{Cause}
use Rattle.run_types.specs.ir_model.Ty.{Ty, array, int, named, ptr, structure, token}
use Rattle.run_types.specs.ir_model.declared.operand.Arg.{Arg}
use Rattle.run_types.specs.ir_model.declared.operand.Operand.{Operand}
use Rattle.run_types.specs.run_laws.memory.Pointers.{IsValue}
use Rattle.run_types.specs.run_memory.Memory.{is_killed, is_owned, is_unkilled, killed}
use Rattle.run_types.specs.run_memory.declared.block.Kind.{Kind}
use Rattle.run_types.specs.run_memory.declared.block.MemoryBlock.{MemoryBlock}
use Rattle.run_types.specs.run_memory.declared.pointer.Offset.{Offset}
use Rattle.run_types.specs.run_memory.declared.pointer.Pointer.{Pointer}
use Rattle.run_types.specs.run_memory.declared.pointer.Value.{Value}
use Rattle.run_types.specs.run_source.Source.{deallocate, has_promise_at, if_let_go, promise_block}
use Rattle.run_types.specs.run_source.State.{began_at, instance_at, last_from, next, numbered, with_memory}
use Rattle.run_types.specs.run_source.declared.state.Activation.{Activation}
use Rattle.run_types.specs.run_source.declared.state.Instance.{Instance}
use Rattle.run_types.specs.run_source.declared.state.State.{State}
use Rattle.run_types.specs.run_step.Results.{and_then}
use Rattle.run_types.specs.run_step.Step.{deallocated}
use Rattle.run_types.specs.run_step.Values.{Env, arg_values, literal, nth, operand_value, value_in}
use Rattle.pass_renewed_meaning.proofs.Here.{Here, keeps}
use Rattle.pass_renewed_meaning.specs.Rules.{Setting}
use Rattle.pass_renewed_meaning.specs.Runs.{first_given, second_given}
use Rattle.run_types.proofs.pass_renewed_proof.Listing.{instance_beside}
use Rattle.run_types.proofs.pass_renewed_proof.Owning.{passes}
use Rattle.run_types.proofs.pass_renewed_proof.Promising.{BothHave, instance_promise}
use Rattle.run_types.proofs.pass_renewed_proof.Using.{globals_stand}
use Rattle.run_types.specs.pass_renewed_proof.Ledger.{Seat}
use Rattle.run_types.specs.pass_renewed_proof.SlotEnvs.{IsAddress}

-- ---- lists

pub find_there : {A : Type 0} (t : A → Bool) (xs : List A) (x : A) → find t xs ≡ Some x
    → (n : ℕ) × (slice_get xs n ≡ Some x) × (t x ≡ true)
find_there t [] x e = absurd (cc)
find_there t (y ∷ xs) x e = on (t y) refl e (λ k. find_there t xs x k)
  where
    on : (u : Bool) → t y ≡ u → cond u (Some y) (find t xs) ≡ Some x → (find t xs ≡ Some x → (n : ℕ)
        × (slice_get xs n ≡ Some x) × (t x ≡ true)) → (n : ℕ) × (slice_get (y ∷ xs) n ≡ Some x) × (t x ≡ true)
    on true ty k again = let same : y ≡ x = cc in (0, ap Some same, ap t (sym same) ∙ ty)
    on false ty k again = let r = again k in (suc r.0, r.1, r.2)

is_eq : (n k : ℕ) → (n == k) ≡ true → n ≡ k
is_eq n k e = grind arith

first_true : (p q : Bool) → (p && q) ≡ true → p ≡ true
first_true true q e = refl
first_true false q e = absurd (false≢true e)

not_both : (p q : Bool) → q ≡ false → (p && q) ≡ false
not_both true q e = e
not_both false q e = refl

-- ---- arguments

module _ (c : Setting) (x : Here c) where
  -- an address in the block of a slot that may be made anew
  pub record IsInSlot (p : Value) : Type 0 where
    pub block : ℕ
    pub offset : Offset
    pub is : p ≡ Value.Ptr (Pointer.At block offset)
    pub seat : Seat
    pub seated : x.beside.ledger.seats block ≡ Some seat

  literal_stands : (ty : Ty) (z : ℤ) → IsValue x.beside.ledger.homes (literal ty z) (literal ty z)
  literal_stands (int k) z = refl
  literal_stands ptr z = tt
  literal_stands token z = tt
  literal_stands (array k ty) z = tt
  literal_stands (structure tys) z = tt
  literal_stands (named name) z = tt

  Stands : Value → Value → Type 0
  Stands p q = IsValue x.beside.ledger.homes p q ⊎ IsInSlot p

  local_stands : (v : ℕ) → IsValue x.beside.ledger.homes (value_in x.s.top.values v) (value_in x.beside.top.values v) ⊎ IsInSlot
      (value_in x.s.top.values v)
  local_stands v = on (c.roots x.s.top.func v) refl
    where
      rooted : (a : ℕ) → c.roots x.s.top.func v ≡ Some a → IsAddress (value_in x.s.top.values a) (value_in x.beside.top.values a)
          (value_in x.s.top.values v) (value_in x.beside.top.values v) → IsInSlot (value_in x.s.top.values v)
      rooted a root h =
          let slot = x.beside.top.each a h.block h.target ((keeps c x x.s.top.func).rooted v a root).0 h.root_is h.other_is in
          record { block = h.block; offset = h.offset; is = h.source; seat = _; seated = slot.seat }

      on : (o : Option ℕ) → c.roots x.s.top.func v ≡ o → IsValue x.beside.ledger.homes (value_in x.s.top.values v)
          (value_in x.beside.top.values v) ⊎ IsInSlot (value_in x.s.top.values v)
      on None root = inl (x.beside.top.envs.plain v root)
      on (Some a) root = ⊎_elim (λ poison. inl (subst (λ z. IsValue x.beside.ledger.homes z (value_in x.beside.top.values v)) (sym
          poison) tt)) (λ h. inr (rooted a root h)) (x.beside.top.envs.rooted v a root)

  operand_there : (ty : Ty) (o : Operand) → IsValue x.beside.ledger.homes (operand_value c.code x.s.top.values ty o)
      (operand_value c.code x.beside.top.values ty o) ⊎ IsInSlot (operand_value c.code x.s.top.values ty o)
  operand_there ty (Operand.Local v) = local_stands v
  operand_there ty (Operand.Global n) = inl (globals_stand c.code x.beside.ledger x.s.world.memory x.t.world.memory
      x.beside.entered n)
  operand_there ty (Operand.Number z) = inl (literal_stands ty z)
  operand_there ty Operand.True = inl refl
  operand_there ty Operand.False = inl refl
  operand_there ty Operand.Null = inl (tt, refl)
  operand_there ty Operand.None = inl tt
  operand_there ty Operand.Poison = inl tt

  by_args : (args : List Arg) (k : ℕ) → IsValue x.beside.ledger.homes (nth (arg_values c.code x.s.top.values args) k) (nth
      (arg_values c.code x.beside.top.values args) k) ⊎ IsInSlot (nth (arg_values c.code x.s.top.values args) k)
  by_args [] k = inl tt
  by_args (a ∷ args) zero = operand_there a.ty a.value
  by_args (a ∷ args) (suc k) = by_args args k

  pub arg_there : (args : List Arg) (k : ℕ) → IsValue x.beside.ledger.homes (nth (arg_values c.code x.s.top.values args) k)
      (nth (arg_values c.code x.values args) k) ⊎ IsInSlot (nth (arg_values c.code x.s.top.values args) k)
  arg_there args k = subst (λ (env : Env). IsValue x.beside.ledger.homes (nth (arg_values c.code x.s.top.values args) k) (nth
      (arg_values c.code env args) k) ⊎ IsInSlot (nth (arg_values c.code x.s.top.values args) k)) (sym (ap (λ (z :
      Activation). z.values) x.beside.top.is)) (by_args args k)

  -- ---- addresses in slots

  at_none : (b : ℕ) (o : Offset) (seat : Seat) → x.beside.ledger.seats b ≡ Some seat
      → instance_at x.s.instances (Value.Ptr (Pointer.At b o)) ≡ None
  at_none b o seat seated = on (last_from (began_at b o.bits) 0 x.s.instances) refl
    where
      on : (z : Option ℕ) → last_from (began_at b o.bits) 0 x.s.instances ≡ z
          → option_and_then (numbered x.s.instances) (last_from (began_at b o.bits) 0 x.s.instances) ≡ None
      on None e = ap (option_and_then (numbered x.s.instances)) e
      on (Some j) e =
          let r = passes (began_at b o.bits) 0 x.s.instances j e in
          let k = instance_beside c.code c.flags c.roots x.beside.ledger x.s.world.memory 0 x.s.instances x.t.instances r.0
          r.1 x.beside.instances r.2 in
          let block : r.1.block ≡ b = is_eq r.1.block b (first_true (r.1.block == b) _ r.3) in
          let z : None ≡ Some seat = sym k.2.unseated ∙ ap x.beside.ledger.seats block ∙ seated in
          absurd (cc)

  pub no_instance : (p : Value) → IsInSlot p → instance_at x.s.instances p ≡ None
  no_instance p h = ap (instance_at x.s.instances) h.is ∙ at_none h.block h.offset h.seat h.seated

  -- of no instance it is the promise
  pub no_promise : (b : ℕ) (seat : Seat) → x.beside.ledger.seats b ≡ Some seat
      → find (has_promise_at (first_given c) b) x.s.instances ≡ None
  no_promise b seat seated = on (find (has_promise_at (first_given c) b) x.s.instances) refl
    where
      on : (o : Option Instance) → find (has_promise_at (first_given c) b) x.s.instances ≡ o
          → find (has_promise_at (first_given c) b) x.s.instances ≡ None
      on None e = e
      on (Some y) e =
          let r = find_there (has_promise_at (first_given c) b) x.s.instances y e in
          let k = instance_beside c.code c.flags c.roots x.beside.ledger x.s.world.memory 0 x.s.instances x.t.instances r.0
          y x.beside.instances r.1 in
          absurd (by k.0 (promise_block (first_given c) y) (promise_block (second_given c).given k.0) (instance_promise
          c.code c.flags c.roots (keeps c x) x.s _ x.beside (first_given c) (second_given c).given refl refl (0 + r.0) y
          k.0 k.2) r.2)
        where
          by : (z : Instance) (o q : Option ℕ) → BothHave x.beside.ledger o q → option_map_or (λ d. b == d) o false ≡ true → ⊥
          by z None q h e = false≢true e
          by z (Some d) q h e =
              let same : b ≡ d = is_eq b d e in
              let z : None ≡ Some seat = sym h.3 ∙ ap x.beside.ledger.seats (sym same) ∙ seated in
              absurd (cc)

  -- its block is none of an allocator
  pub no_allocator : (b : ℕ) (seat : Seat) → x.beside.ledger.seats b ≡ Some seat
      → is_unkilled Kind.Allocator (slice_get x.s.world.memory b) ≡ false
  no_allocator b seat seated = on (slice_get x.s.world.memory b) refl
    where
      on : (o : Option MemoryBlock) → slice_get x.s.world.memory b ≡ o → is_unkilled Kind.Allocator (slice_get
          x.s.world.memory b) ≡ false
      on None e = ap (is_unkilled Kind.Allocator) e
      on (Some y) e = ap (is_unkilled Kind.Allocator) e ∙ ap (λ u. u && not (is_killed y.life)) (x.beside.entered.kinds b
          seat y seated e)

  pub stays_allocated : (p : Value) → IsInSlot p → (after : State) → deallocate x.s p ≡ Ok after → ⊥
  stays_allocated p h after e =
      let k : deallocate x.s (Value.Ptr (Pointer.At h.block h.offset)) ≡ Ok after = ap (deallocate x.s) (sym h.is) ∙ e in
      let r : and_then (deallocated x.s.world.memory (Value.Ptr (Pointer.At h.block h.offset))) (λ memory. Ok (next
      (with_memory x.s memory))) ≡ Ok after = ap (λ o. and_then (deallocated (if_let_go x.s o).world.memory (Value.Ptr
      (Pointer.At h.block h.offset))) (λ memory. Ok (next (with_memory (if_let_go x.s o) memory)))) (sym (at_none h.block
      h.offset h.seat h.seated)) ∙ k in
      let none : ((h.offset.bits == 0) && is_unkilled Kind.Allocator (slice_get x.s.world.memory h.block)) ≡ false = not_both
      (h.offset.bits == 0) _ (no_allocator h.block h.seat h.seated) in
      let z : ◌≡◌ {A = Result State Cause} (Err Cause.Free) (Ok after) = ap (λ u. and_then (if not u then Err Cause.Free else
      if is_owned (slice_get x.s.world.memory h.block) then Err Cause.Owned else Ok (killed x.s.world.memory h.block)) (λ
      (memory : List MemoryBlock). Ok (next (with_memory x.s memory)))) (sym none) ∙ r in
      absurd (cc)
