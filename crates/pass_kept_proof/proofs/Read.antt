-- What an instruction reads is among its operands, and what phis read is used on their edges.
use Rattle.std.proofs.Common.{◌≡◌, ◌⊎◌, inl, inr, ⊎_elim, ℕ, zero, suc, ◌+◌, Bool, true, false, List, [], ◌∷◌, ◌++◌, Option, Some, None, refl, sym, ap, subst, arith}
use Rattle.std.specs.Prelude.{map, option_to_list, slice_get, ◌==◌, ◌||◌, if◌then◌else◌}
use Rattle.std.specs.List.{list_any}
use Rattle.frame_crossing.specs.rule_uses.Uses.{local_of, locals_in, made_by_phis}
use Rattle.flow_solver.specs.Paths.{IsListed}
use Rattle.ir_parts.specs.Contents.{arg_operands, ending_operands, instr_operands, result_of}
use Rattle.ir_model.specs.Names.{is_local, position_of, same_intrinsic}
use Rattle.ir_model.specs.declared.instr.Incoming.{Incoming}
use Rattle.ir_model.specs.declared.instr.Instr.{Instr}
use Rattle.ir_model.specs.declared.instr.Phi.{Phi}
use Rattle.ir_model.specs.declared.instr.Terminator.{Terminator}
use Rattle.ir_model.specs.declared.module.Block.{Block}
use Rattle.ir_model.specs.declared.module.Function.{Function}
use Rattle.ir_model.specs.declared.module.Param.{Param}
use Rattle.ir_model.specs.declared.operand.Allocator.{Allocator}
use Rattle.ir_model.specs.declared.operand.Arg.{Arg}
use Rattle.ir_model.specs.declared.operand.Callee.{Callee}
use Rattle.ir_model.specs.declared.operand.Intrinsic.{Intrinsic}
use Rattle.ir_model.specs.declared.operand.Operand.{Operand}
use Rattle.ir_paths.specs.Slots.{has_name, is_in_args, occurs_in_term}
use Rattle.ir_paths.specs.Windows.{is_call_of, operand_at}
use Rattle.pass_kept_proof.proofs.Same.{either, eq_from, eq_itself, or_left, or_right}
use Rattle.pass_kept_proof.specs.Needed.{given_by, given_by_allocator, given_by_intrinsic, phis_give, phis_read, reads, reads_at, reads_intrinsic}
use Rattle.run_step.specs.Step.{AtInstr, AtTerm, Fetched, Nowhere, incoming_from}
use Rattle.frame_crossing.specs.EdgeUses.{blocks_uses, edge_use, edge_uses, incoming_uses, phis_uses, uses_by}
use Rattle.frame_crossing.specs.Paths.{used_by}
use Rattle.frame_crossing.specs.declared.edge_use.EdgeUse.{EdgeUse}

-- ---- lists

pub listed_left : {A : Type 0} (x : A) (xs ys : List A) → IsListed x xs → IsListed x (xs ++ ys)
listed_left x [] ys h = absurd h
listed_left x (y ∷ xs) ys (inl e) = inl e
listed_left x (y ∷ xs) ys (inr h) = inr (listed_left x xs ys h)

pub listed_right : {A : Type 0} (x : A) (xs ys : List A) → IsListed x ys → IsListed x (xs ++ ys)
listed_right x [] ys h = h
listed_right x (y ∷ xs) ys h = inr (listed_right x xs ys h)

pub listed_by_name : (vs : List ℕ) (v : ℕ) → has_name vs v ≡ true → IsListed v vs
listed_by_name [] v h = absurd (cc)
listed_by_name (u ∷ vs) v h = ⊎_elim (λ e. inl (sym (eq_from u v e))) (λ e. inr (listed_by_name vs v e)) (either (u == v) (has_name vs v) h)

-- ---- operands

used_local : (v : ℕ) (x : Operand) (rest : List Operand) → is_local v x ≡ true → IsListed v (locals_in (x ∷ rest))
used_local v (Operand.Local n) rest h = inl (eq_from v n h)
used_local v (Operand.Global n) rest h = absurd (cc)
used_local v (Operand.Number z) rest h = absurd (cc)
used_local v Operand.True rest h = absurd (cc)
used_local v Operand.False rest h = absurd (cc)
used_local v Operand.Null rest h = absurd (cc)
used_local v Operand.None rest h = absurd (cc)
used_local v Operand.Poison rest h = absurd (cc)

used_more : (v : ℕ) (x : Operand) (rest : List Operand) → IsListed v (locals_in rest) → IsListed v (locals_in (x ∷ rest))
used_more v x rest h = listed_right v (option_to_list (local_of x)) (locals_in rest) h

used_args : (v : ℕ) (args : List Arg) → is_in_args v args ≡ true → IsListed v (locals_in (arg_operands args))
used_args v [] h = absurd (cc)
used_args v (a ∷ args) h = ⊎_elim (λ e. used_local v a.value (arg_operands args) e) (λ e. used_more v a.value (arg_operands args) (used_args v args e)) (either (is_local v a.value) (is_in_args v args) h)

in_args : (v : ℕ) (args : List Arg) (k : ℕ) → is_local v (operand_at args k) ≡ true → is_in_args v args ≡ true
in_args v [] k h = absurd (cc)
in_args v (a ∷ args) zero h = or_left (is_local v a.value) _ h
in_args v (a ∷ args) (suc k) h = or_right (is_local v a.value) _ (in_args v args k h)

-- ---- what is read

read_intrinsic : (v : ℕ) (i : Intrinsic) (args : List Arg) → reads_intrinsic v i args ≡ true → is_in_args v args ≡ true
read_intrinsic v Intrinsic.CoroBegin args h = in_args v args 1 h
read_intrinsic v Intrinsic.CoroResume args h = in_args v args 0 h
read_intrinsic v Intrinsic.CoroDestroy args h = in_args v args 0 h
read_intrinsic v Intrinsic.CoroDone args h = in_args v args 0 h
read_intrinsic v Intrinsic.CoroPromise args h = in_args v args 0 h
read_intrinsic v Intrinsic.LifetimeStart args h = h
read_intrinsic v Intrinsic.LifetimeEnd args h = h
read_intrinsic v Intrinsic.MemcpyI64 args h = h
read_intrinsic v Intrinsic.MemcpyI32 args h = h
read_intrinsic v _ args h = absurd (cc)

two : (v : ℕ) (x y : Operand) → (is_local v x || is_local v y) ≡ true → IsListed v (locals_in (x ∷ y ∷ []))
two v x y h = on (either (is_local v x) (is_local v y) h)
  where
    on : (is_local v x ≡ true) ⊎ (is_local v y ≡ true) → IsListed v (locals_in (x ∷ y ∷ []))
    on (inl e) = used_local v x (y ∷ []) e
    on (inr e) = used_more v x (y ∷ []) (used_local v y [] e)

three : (v : ℕ) (x y z : Operand) → (is_local v x || (is_local v y || is_local v z)) ≡ true → IsListed v (locals_in (x ∷ y ∷ z ∷ []))
three v x y z h = on (either (is_local v x) (is_local v y || is_local v z) h)
  where
    on : (is_local v x ≡ true) ⊎ ((is_local v y || is_local v z) ≡ true) → IsListed v (locals_in (x ∷ y ∷ z ∷ []))
    on (inl e) = used_local v x (y ∷ z ∷ []) e
    on (inr e) = used_more v x (y ∷ z ∷ []) (two v y z e)

pub read_used : (v : ℕ) (i : Instr) → reads v i ≡ true → IsListed v (locals_in (instr_operands i))
read_used v (Instr.Binary name op flags ty a b) h = two v a b h
read_used v (Instr.Icmp name pred ty a b) h = two v a b h
read_used v (Instr.Select name x a b) h = three v x a.value b.value h
read_used v (Instr.Cast name op nneg arg to) h = used_local v arg.value [] h
read_used v (Instr.Alloca name ty align) h = absurd (cc)
read_used v (Instr.Load name ty p align) h = used_local v p [] h
read_used v (Instr.Store arg p align) h = two v arg.value p h
read_used v (Instr.Gep name inbounds ty base indices) h = on (either (is_local v base) _ h)
  where
    on : (is_local v base ≡ true) ⊎ (is_in_args v indices ≡ true) → IsListed v (locals_in (base ∷ arg_operands indices))
    on (inl e) = used_local v base (arg_operands indices) e
    on (inr e) = used_more v base (arg_operands indices) (used_args v indices e)
read_used v (Instr.Call result must_tail ty (Callee.Named n) args) h = used_args v args h
read_used v (Instr.Call result must_tail ty (Callee.Allocator a) args) h = used_args v args h
read_used v (Instr.Call result must_tail ty (Callee.Intrinsic i) args) h = used_args v args (read_intrinsic v i args h)
read_used v (Instr.Call result must_tail ty (Callee.Local f) args) h = on (either (v == f) _ h)
  where
    on : ((v == f) ≡ true) ⊎ (is_in_args v args ≡ true) → IsListed v (locals_in (Operand.Local f ∷ arg_operands args))
    on (inl e) = inl (eq_from v f e)
    on (inr e) = inr (used_args v args e)

read_by_term : (v : ℕ) (t : Terminator) → occurs_in_term v t ≡ true → IsListed v (locals_in (ending_operands t))
read_by_term v (Terminator.Jump label) h = absurd (cc)
read_by_term v (Terminator.Branch x a b) h = used_local v x [] h
read_by_term v (Terminator.Switch arg default cases) h = used_local v arg.value (map (λ k. k.arg.value) cases) h
read_by_term v (Terminator.Ret None) h = absurd (cc)
read_by_term v (Terminator.Ret (Some arg)) h = used_local v arg.value [] h
read_by_term v Terminator.Unreachable h = absurd (cc)

pub read_here : (v : ℕ) (x : Fetched) → reads_at v x ≡ true → IsListed v (used_by x)
read_here v Nowhere h = absurd (cc)
read_here v (AtInstr i) h = read_used v i h
read_here v (AtTerm t) h = read_by_term v t h

end_intrinsic : (v : ℕ) (i : Intrinsic) (args : List Arg) → same_intrinsic Intrinsic.CoroEnd i ≡ true → reads_intrinsic v i args ≡ true → ⊥
end_intrinsic v Intrinsic.CoroEnd args is h = absurd (cc)
end_intrinsic v _ args is h = absurd (cc)

-- coro.end reads nothing
pub end_reads_nothing : (v : ℕ) (i : Instr) → is_call_of Intrinsic.CoroEnd i ≡ true → reads v i ≡ true → ⊥
end_reads_nothing v (Instr.Call result must_tail ty (Callee.Intrinsic i) args) is h = end_intrinsic v i args is h
end_reads_nothing v _ is h = absurd (cc)

-- ---- what is given

given_intrinsic : (i : Intrinsic) (result : Option ℕ) (v : ℕ) → given_by_intrinsic i result ≡ Some v → result ≡ Some v
given_intrinsic Intrinsic.CoroSizeI32 result v h = h
given_intrinsic Intrinsic.CoroSizeI64 result v h = h
given_intrinsic Intrinsic.CoroAlignI32 result v h = h
given_intrinsic Intrinsic.CoroAlignI64 result v h = h
given_intrinsic Intrinsic.CoroAlloc result v h = h
given_intrinsic Intrinsic.CoroBegin result v h = h
given_intrinsic Intrinsic.CoroFree result v h = h
given_intrinsic Intrinsic.CoroFrame result v h = h
given_intrinsic Intrinsic.CoroSuspend result v h = h
given_intrinsic Intrinsic.CoroDone result v h = h
given_intrinsic Intrinsic.CoroPromise result v h = h
given_intrinsic Intrinsic.CoroEnd result v h = h
given_intrinsic _ result v h = absurd (cc)

given_allocator : (a : Allocator) (result : Option ℕ) (v : ℕ) → given_by_allocator a result ≡ Some v → result ≡ Some v
given_allocator Allocator.Malloc result v h = h
given_allocator Allocator.Znwm result v h = h
given_allocator _ result v h = absurd (cc)

pub given_result : (i : Instr) (v : ℕ) → given_by i ≡ Some v → result_of i ≡ Some v
given_result (Instr.Binary name op flags ty a b) v h = h
given_result (Instr.Icmp name pred ty a b) v h = h
given_result (Instr.Select name x a b) v h = h
given_result (Instr.Cast name op nneg arg to) v h = h
given_result (Instr.Alloca name ty align) v h = h
given_result (Instr.Load name ty p align) v h = h
given_result (Instr.Store arg p align) v h = h
given_result (Instr.Gep name inbounds ty base indices) v h = h
given_result (Instr.Call result must_tail ty (Callee.Named n) args) v h = h
given_result (Instr.Call result must_tail ty (Callee.Allocator a) args) v h = given_allocator a result v h
given_result (Instr.Call result must_tail ty (Callee.Intrinsic i) args) v h = given_intrinsic i result v h
given_result (Instr.Call result must_tail ty (Callee.Local f) args) v h = h

-- ---- phis and parameters

kept_before : (v : ℕ) (ps : List Phi) (before : List ℕ) → IsListed v before → IsListed v (made_by_phis before ps)
kept_before v [] before h = h
kept_before v (p ∷ ps) before h = kept_before v ps (p.result ∷ before) (inr h)

pub phi_made : (v : ℕ) (ps : List Phi) (before : List ℕ) → phis_give v ps ≡ true → IsListed v (made_by_phis before ps)
phi_made v [] before h = absurd (cc)
phi_made v (p ∷ ps) before h =
    ⊎_elim (λ e. kept_before v ps (p.result ∷ before) (inl (sym (eq_from p.result v e)))) (λ e. phi_made v ps (p.result ∷ before) e) (either (p.result == v) (phis_give v ps) h)

pub made_phi : (v : ℕ) (ps : List Phi) (before : List ℕ) → IsListed v (made_by_phis before ps) → IsListed v before ⊎ (phis_give v ps ≡ true)
made_phi v [] before h = inl h
made_phi v (p ∷ ps) before h = on (made_phi v ps (p.result ∷ before) h)
  where
    on : IsListed v (p.result ∷ before) ⊎ (phis_give v ps ≡ true) → IsListed v before ⊎ (phis_give v (p ∷ ps) ≡ true)
    on (inl (inl e)) = inr (or_left (p.result == v) _ (subst (λ (n : ℕ). (p.result == n) ≡ true) (sym e) (eq_itself p.result)))
    on (inl (inr k)) = inl k
    on (inr e) = inr (or_right (p.result == v) _ e)

pub param_listed : (v : ℕ) (ps : List Param) → list_any (λ p. p.name == v) ps ≡ true → IsListed v (map (λ p. p.name) ps)
param_listed v [] h = absurd (cc)
param_listed v (p ∷ ps) h = ⊎_elim (λ e. inl (sym (eq_from p.name v e))) (λ e. inr (param_listed v ps e)) (either (p.name == v) (list_any (λ q. q.name == v) ps) h)

-- ---- uses on edges

module _ (f : Function) (v from to : ℕ) where
  abbrev here : EdgeUse
  here = edge_use (position_of f from) to v

  own_use : (x : Operand) → is_local v x ≡ true → IsListed here (uses_by (position_of f from) to (local_of x))
  own_use (Operand.Local n) h = inl (ap (edge_use (position_of f from) to) (eq_from v n h))
  own_use (Operand.Global n) h = absurd (cc)
  own_use (Operand.Number z) h = absurd (cc)
  own_use Operand.True h = absurd (cc)
  own_use Operand.False h = absurd (cc)
  own_use Operand.Null h = absurd (cc)
  own_use Operand.None h = absurd (cc)
  own_use Operand.Poison h = absurd (cc)

  incoming_used : (is : List Incoming) → is_local v (incoming_from is from) ≡ true → IsListed here (incoming_uses f to is)
  incoming_used [] h = absurd (cc)
  incoming_used (i ∷ is) h = on (i.from == from) refl h (λ k. incoming_used is k)
    where
      on : (b : Bool) → (i.from == from) ≡ b → is_local v (if b then i.value else incoming_from is from) ≡ true → (is_local v (incoming_from is from) ≡ true → IsListed here (incoming_uses f to is)) → IsListed here (incoming_uses f to (i ∷ is))
      on true e k again =
          let same : i.from ≡ from = eq_from i.from from e in
          listed_left here (uses_by (position_of f i.from) to (local_of i.value)) (incoming_uses f to is)
          (subst (λ (n : ℕ). IsListed here (uses_by (position_of f n) to (local_of i.value))) (sym same) (own_use i.value k))
      on false e k again = listed_right here (uses_by (position_of f i.from) to (local_of i.value)) (incoming_uses f to is) (again k)

  phis_used : (ps : List Phi) → phis_read v from ps ≡ true → IsListed here (phis_uses f to ps)
  phis_used [] h = absurd (cc)
  phis_used (p ∷ ps) h = ⊎_elim
      (λ e. listed_left here (incoming_uses f to p.incoming) (phis_uses f to ps) (incoming_used p.incoming e))
      (λ e. listed_right here (incoming_uses f to p.incoming) (phis_uses f to ps) (phis_used ps e))
      (either (is_local v (incoming_from p.incoming from)) (phis_read v from ps) h)

in_blocks : (f : Function) (u : EdgeUse) (bs : List Block) (first k : ℕ) (b : Block) → slice_get bs k ≡ Some b → IsListed u (phis_uses f (first + k) b.phis) → IsListed u (blocks_uses f first bs)
in_blocks f u [] first k b e h = absurd (cc)
in_blocks f u (c ∷ bs) first zero b e h =
    let same : c ≡ b = cc in
    let at : first + 0 ≡ first = omega arith in
    listed_left u (phis_uses f first c.phis) (blocks_uses f (first + 1) bs) (subst (λ (d : Block). IsListed u (phis_uses f first d.phis)) (sym same) (subst (λ (n : ℕ). IsListed u (phis_uses f n b.phis)) at h))
in_blocks f u (c ∷ bs) first (suc k) b e h =
    let at : first + suc k ≡ first + 1 + k = omega arith in
    listed_right u (phis_uses f first c.phis) (blocks_uses f (first + 1) bs) (in_blocks f u bs (first + 1) k b e (subst (λ (n : ℕ). IsListed u (phis_uses f n b.phis)) at h))

pub read_on_edge : (f : Function) (v from to : ℕ) (b : Block) → slice_get f.blocks to ≡ Some b → phis_read v from b.phis ≡ true → IsListed (edge_use (position_of f from) to v) (edge_uses f)
read_on_edge f v from to b e h =
    let at : to ≡ 0 + to = omega arith in
    in_blocks f (edge_use (position_of f from) to v) f.blocks 0 to b e (subst (λ (n : ℕ). IsListed (edge_use (position_of f from) to v) (phis_uses f n b.phis)) at (phis_used f v from to b.phis h))
