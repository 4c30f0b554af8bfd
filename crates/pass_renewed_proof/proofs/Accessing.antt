-- An ordinary step accesses no block into which no pointer is about but those whose places it uses.
use Rattle.std.proofs.Common.{◌≡◌, ◌≢◌, ℕ, zero, suc, ◌⊎◌, inl, inr, Bool, false, List, [], ◌∷◌, Option, refl, sym, ap}
use Rattle.std.proofs.Common.{◌∙◌, subst}
use Rattle.std.proofs.lemmas.Bool.{false≢true}
use Rattle.std.specs.Prelude.{IsTrue, ℤ}
use Rattle.pass_kept_proof.specs.flow_solver.Paths.{IsListed}
use Rattle.pass_kept_proof.specs.ir_base.declared.name.Name.{Name}
use Rattle.pass_kept_proof.specs.ir_model.Names.{is_local}
use Rattle.pass_kept_proof.specs.ir_model.Ty.{Ty, array, int, named, ptr, structure, token}
use Rattle.pass_kept_proof.specs.ir_model.declared.instr.Instr.{Instr}
use Rattle.pass_kept_proof.specs.ir_model.declared.operand.Allocator.{Allocator}
use Rattle.pass_kept_proof.specs.ir_model.declared.operand.Arg.{Arg}
use Rattle.pass_kept_proof.specs.ir_model.declared.operand.Callee.{Callee}
use Rattle.pass_kept_proof.specs.ir_model.declared.operand.Intrinsic.{Intrinsic}
use Rattle.pass_kept_proof.specs.ir_model.declared.operand.Operand.{Operand}
use Rattle.pass_kept_proof.specs.ir_paths.Slots.{is_in_args}
use Rattle.pass_kept_proof.proofs.Same.{eq_itself, or_left, or_right}
use Rattle.pass_kept_proof.specs.Needed.{reads_at}
use Rattle.run_laws.specs.access.Accessed.{accessed, by_copy, call_accesses, instr_accesses, intrinsic_accesses}
use Rattle.run_laws.specs.access.Accessed.{led_into, of_length}
use Rattle.run_laws.specs.access.Changed.{IsNoneOf}
use Rattle.run_laws.specs.changed.Changed.{Each}
use Rattle.run_laws.specs.embedded.Related.{HasNoSlot}
use Rattle.run_laws.specs.memory.Pointers.{Home, IsValue, home_of}
use Rattle.pass_kept_proof.specs.run_memory.declared.pointer.Offset.{Offset}
use Rattle.pass_kept_proof.specs.run_memory.declared.pointer.Pointer.{Pointer}
use Rattle.pass_kept_proof.specs.run_memory.declared.pointer.Value.{Value}
use Rattle.pass_kept_proof.specs.run_step.Step.{AtInstr, AtTerm, Context, Fetched, Nowhere, Work, value_at}
use Rattle.pass_kept_proof.specs.run_step.Values.{address, address_of, arg_values, literal, nth, operand_value, value_in}
use Rattle.pass_renewed_proof.proofs.Shown.{each_append}
use Rattle.pass_renewed_proof.specs.Ready.{IsPlaced, Place}

module _ (homes : List Home) (ps : List Place) (c : Context) (w x : Work) (here : Fetched) (b : ℕ)
    (unseen : (home_of homes b).is_seen ≡ false) (out : Each (λ (q : Place). q.block ≢ b) ps)
    (reads : (v : ℕ) → IsTrue (reads_at v here)
    → IsValue homes (value_in w.values v) (value_in x.values v) ⊎ IsPlaced ps (value_in w.values v) (value_in
    x.values v))
    (globals : (n : Name) → IsValue homes (address_of c.code n) (address_of c.code n)) where
  -- the value leads into another block
  abbrev IsElsewhere : Value → Type 0
  IsElsewhere (Value.Ptr (Pointer.At d o)) = b ≢ d
  IsElsewhere _ = Unit {0}

  not_placed : (qs : List Place) (p : Place) → Each (λ (q : Place). q.block ≢ b) qs → IsListed p qs → p.block ≢ b
  not_placed [] p h listed = absurd listed
  not_placed (q ∷ qs) p h (inl e) = subst (λ (z : Place). z.block ≢ b) (sym e) h.0
  not_placed (q ∷ qs) p h (inr listed) = not_placed qs p h.1 listed

  at_block : (d : ℕ) (o : Offset) (p : ℕ) (q : Offset) → Value.Ptr (Pointer.At d o) ≡ Value.Ptr (Pointer.At p q)
      → d ≡ p
  at_block d o p q e = cc

  related : (v u : Value) → IsValue homes v u ⊎ IsPlaced ps v u → IsElsewhere v
  related Value.Poison u h = tt
  related (Value.Int n) u h = tt
  related (Value.Ptr Pointer.Null) u h = tt
  related (Value.Ptr (Pointer.Func f)) u h = tt
  related (Value.Ptr (Pointer.At d o)) u (inl h) = λ e. false≢true (sym unseen
      ∙ ap (λ k. (home_of homes k).is_seen) e ∙ h.0)
  related (Value.Ptr (Pointer.At d o)) u (inr h) = λ e. not_placed ps h.place out h.listed (sym (at_block d o
      h.place.block h.offset h.source) ∙ sym e)

  literal_elsewhere : (ty : Ty) (z : ℤ) → IsElsewhere (literal ty z)
  literal_elsewhere (int k) z = tt
  literal_elsewhere ptr z = tt
  literal_elsewhere token z = tt
  literal_elsewhere (array k ty) z = tt
  literal_elsewhere (structure tys) z = tt
  literal_elsewhere (named name) z = tt

  operand_elsewhere : (ty : Ty) (o : Operand) → ((v : ℕ) → IsTrue (is_local v o) → IsTrue (reads_at v here))
      → IsElsewhere (operand_value c.code w.values ty o)
  operand_elsewhere ty (Operand.Local v) h = related (value_in w.values v) (value_in x.values v) (reads v (h v
      (eq_itself v)))
  operand_elsewhere ty (Operand.Global n) h = related (address_of c.code n) (address_of c.code n) (inl (globals n))
  operand_elsewhere ty (Operand.Number z) h = literal_elsewhere ty z
  operand_elsewhere ty Operand.True h = tt
  operand_elsewhere ty Operand.False h = tt
  operand_elsewhere ty Operand.Null h = tt
  operand_elsewhere ty Operand.None h = tt
  operand_elsewhere ty Operand.Poison h = tt

  arg_elsewhere : (args : List Arg) (k : ℕ) → ((v : ℕ) → IsTrue (is_in_args v args) → IsTrue (reads_at v here))
      → IsElsewhere (nth (arg_values c.code w.values args) k)
  arg_elsewhere [] k h = tt
  arg_elsewhere (a ∷ args) zero h = operand_elsewhere a.ty a.value (λ v is. h v (or_left (is_local v a.value) _ is))
  arg_elsewhere (a ∷ args) (suc k) h = arg_elsewhere args k (λ v is. h v (or_right (is_local v a.value) _ is))

  leads : (v : Value) → IsElsewhere v → IsNoneOf b (led_into (address v))
  leads Value.Poison h = tt
  leads (Value.Int n) h = tt
  leads (Value.Ptr Pointer.Null) h = tt
  leads (Value.Ptr (Pointer.Func f)) h = tt
  leads (Value.Ptr (Pointer.At d o)) h = (h, tt)

  copies : (to from : Value) (n : Value) → IsElsewhere to → IsElsewhere from
      → IsNoneOf b (of_length n (by_copy (address to) (address from)))
  copies to from Value.Poison h k = tt
  copies to from (Value.Ptr p) h k = tt
  copies to from (Value.Int n) h k = on n.bits
    where
      on : (len : ℕ) → IsNoneOf b (by_copy (address to) (address from) len)
      on zero = tt
      on (suc len) = each_append (λ a. b ≢ a) (led_into (address to)) (led_into (address from)) (leads to h) (leads
          from k)

  module _ (here_is : (i : Instr) → here ≡ AtInstr i → HasNoSlot (AtInstr i)) where
    call_none : (r : Option ℕ) (must_tail : Bool) (ty : Option Ty) (callee : Callee) (args : List Arg)
        → here ≡ AtInstr (Instr.Call r must_tail ty callee args)
        → HasNoSlot (AtInstr (Instr.Call r must_tail ty callee args))
        → IsNoneOf b (call_accesses callee w.world.memory (arg_values c.code w.values args))
    call_none r must_tail ty (Callee.Named n) args e h = tt
    call_none r must_tail ty (Callee.Local v) args e h = tt
    call_none r must_tail ty (Callee.Allocator Allocator.Malloc) args e h = absurd h
    call_none r must_tail ty (Callee.Allocator Allocator.Znwm) args e h = absurd h
    call_none r must_tail ty (Callee.Allocator Allocator.Free) args e h = leads _ (arg_elsewhere args 0 (λ v t. subst
        (λ z. IsTrue (reads_at v z)) (sym e) t))
    call_none r must_tail ty (Callee.Allocator Allocator.ZdlPv) args e h = leads _ (arg_elsewhere args 0 (λ v t. subst
        (λ z. IsTrue (reads_at v z)) (sym e) t))
    call_none r must_tail ty (Callee.Allocator Allocator.ZdlPvm) args e h = leads _ (arg_elsewhere args 0 (λ v t.
        subst (λ z. IsTrue (reads_at v z)) (sym e) t))
    call_none r must_tail ty (Callee.Intrinsic i) args e h = on i e h
      where
        on : (i : Intrinsic) → here ≡ AtInstr (Instr.Call r must_tail ty (Callee.Intrinsic i) args)
            → HasNoSlot (AtInstr (Instr.Call r must_tail ty (Callee.Intrinsic i) args))
            → IsNoneOf b (intrinsic_accesses i (arg_values c.code w.values args))
        on Intrinsic.LifetimeStart e h = absurd h
        on Intrinsic.LifetimeEnd e h = absurd h
        on Intrinsic.MemcpyI64 e h = copies _ _ _ (arg_elsewhere args 0 (λ v t. subst (λ z. IsTrue (reads_at v z))
            (sym e) t)) (arg_elsewhere args 1 (λ v t. subst (λ z. IsTrue (reads_at v z)) (sym e) t))
        on Intrinsic.MemcpyI32 e h = copies _ _ _ (arg_elsewhere args 0 (λ v t. subst (λ z. IsTrue (reads_at v z))
            (sym e) t)) (arg_elsewhere args 1 (λ v t. subst (λ z. IsTrue (reads_at v z)) (sym e) t))
        on _ e h = tt

    instr_none : (i : Instr) → here ≡ AtInstr i → HasNoSlot (AtInstr i) → IsNoneOf b (instr_accesses c w i)
    instr_none (Instr.Binary r op fl ty p q) e h = tt
    instr_none (Instr.Icmp r pred ty p q) e h = tt
    instr_none (Instr.Select r p q z) e h = tt
    instr_none (Instr.Cast r op nneg p to) e h = tt
    instr_none (Instr.Alloca r ty align) e h = absurd h
    instr_none (Instr.Load r ty p align) e h = leads (value_at c w ptr p) (operand_elsewhere ptr p (λ v t. subst (λ z.
        IsTrue (reads_at v z)) (sym e) t))
    instr_none (Instr.Store a p align) e h = leads (value_at c w ptr p) (operand_elsewhere ptr p (λ v t. subst (λ z.
        IsTrue (reads_at v z)) (sym e) (or_right (is_local v a.value) _ t)))
    instr_none (Instr.Gep r inb ty base ixs) e h = tt
    instr_none (Instr.Call r must_tail ty callee args) e h = call_none r must_tail ty callee args e h

    pub not_accessed : IsNoneOf b (accessed c w here)
    not_accessed = on here refl
      where
        on : (z : Fetched) → here ≡ z → IsNoneOf b (accessed c w z)
        on (AtInstr i) e = instr_none i e (here_is i e)
        on (AtTerm t) e = tt
        on Nowhere e = tt
