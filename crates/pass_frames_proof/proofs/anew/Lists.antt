-- Allocas of a line and of its parts, and values whose addresses are moved.
use Rattle.std.proofs.Common.{◌≡◌, ◌∷◌, ◌++◌, ◌∙◌, [], List, None, Option, Some, ap, inl, inr, length, refl, subst, suc, sym, zero, ℕ}
use Rattle.std.specs.Prelude.{slice_get}
use Rattle.pass_frames_steps.specs.flow_solver.Paths.{IsListed}
use Rattle.pass_frames_steps.proofs.ir_laws.paths.edges.Lists.{different_both}
use Rattle.pass_frames_steps.specs.ir_laws.paths.woven_rules.Pairs.{AreDifferent}
use Rattle.pass_frames_steps.specs.ir_model.Ty.{Ty}
use Rattle.pass_frames_steps.specs.ir_model.declared.instr.Instr.{Instr}
use Rattle.pass_frames_steps.specs.ir_paths.Slots.{allocas_in}
use Rattle.pass_frames_steps.specs.pass_renewed_proof.Renewed.{in_new_slot, renewed_value, renewed_values}
use Rattle.pass_frames_steps.specs.run_memory.declared.pointer.Pointer.{Pointer}
use Rattle.pass_frames_steps.specs.run_memory.declared.pointer.Value.{Value}
use Rattle.pass_frames_steps.specs.run_step.Values.{Env, value_in, value_or_poison}

-- ---- allocas

pub allocas_append : (is js : List Instr) → allocas_in (is ++ js) ≡ allocas_in is ++ allocas_in js
allocas_append [] js = refl
allocas_append (Instr.Alloca n ty a ∷ is) js = ap (λ (ks : List ℕ). n ∷ ks) (allocas_append is js)
allocas_append (Instr.Binary r op flags ty a b ∷ is) js = allocas_append is js
allocas_append (Instr.Icmp r pred ty a b ∷ is) js = allocas_append is js
allocas_append (Instr.Select r k a b ∷ is) js = allocas_append is js
allocas_append (Instr.Cast r op nneg a to ∷ is) js = allocas_append is js
allocas_append (Instr.Load r ty p align ∷ is) js = allocas_append is js
allocas_append (Instr.Store a p align ∷ is) js = allocas_append is js
allocas_append (Instr.Gep r inbounds ty p indices ∷ is) js = allocas_append is js
allocas_append (Instr.Call r must_tail ty callee args ∷ is) js = allocas_append is js

pub alloca_listed : (is : List Instr) (p name align : ℕ) (ty : Ty)
    → slice_get is p ≡ Some (Instr.Alloca name ty align) → IsListed name (allocas_in is)
alloca_listed [] p name align ty e = absurd (cc)
alloca_listed (i ∷ is) zero name align ty e =
    let same : Instr.Alloca name ty align ≡ i = cc in
    subst (λ (j : Instr). IsListed name (allocas_in (j ∷ is))) same (inl refl)
alloca_listed (Instr.Alloca n ty' a ∷ is) (suc p) name align ty e = inr (alloca_listed is p name align ty e)
alloca_listed (Instr.Binary r op flags ty' a b ∷ is) (suc p) name align ty e = alloca_listed is p name align ty e
alloca_listed (Instr.Icmp r pred ty' a b ∷ is) (suc p) name align ty e = alloca_listed is p name align ty e
alloca_listed (Instr.Select r k a b ∷ is) (suc p) name align ty e = alloca_listed is p name align ty e
alloca_listed (Instr.Cast r op nneg a to ∷ is) (suc p) name align ty e = alloca_listed is p name align ty e
alloca_listed (Instr.Load r ty' q al ∷ is) (suc p) name align ty e = alloca_listed is p name align ty e
alloca_listed (Instr.Store a q al ∷ is) (suc p) name align ty e = alloca_listed is p name align ty e
alloca_listed (Instr.Gep r inbounds ty' q indices ∷ is) (suc p) name align ty e = alloca_listed is p name align ty e
alloca_listed (Instr.Call r must_tail ty' callee args ∷ is) (suc p) name align ty e =
    alloca_listed is p name align ty e

-- an alloca of the one part has no name of the other's
pub allocas_apart : (is js : List Instr) → AreDifferent (allocas_in (is ++ js)) → (v : ℕ)
    → IsListed v (allocas_in is) → IsListed v (allocas_in js) → ⊥
allocas_apart is js different v =
    different_both (allocas_in is) (allocas_in js) v (subst AreDifferent (allocas_append is js) different)

-- the last one of a line
pub record HasLast {A : Type 0} (xs : List A) : Type 0 where
  pub init : List A
  pub last : A
  pub is : xs ≡ init ++ (last ∷ [])

pub has_last : {A : Type 0} (x : A) (xs : List A) → HasLast (x ∷ xs)
has_last x [] = record { init = []; last = x; is = refl }
has_last x (y ∷ xs) =
    let m = has_last y xs in record { init = x ∷ m.init; last = m.last; is = λ j. x ∷ m.is j }

-- ---- moved addresses

poison_moved : (u : Value) → in_new_slot u Value.Poison ≡ Value.Poison
poison_moved Value.Poison = refl
poison_moved (Value.Int w) = refl
poison_moved (Value.Ptr Pointer.Null) = refl
poison_moved (Value.Ptr (Pointer.Func f)) = refl
poison_moved (Value.Ptr (Pointer.At b o)) = refl

pub itself_moved : (u : Value) → in_new_slot u u ≡ u
itself_moved Value.Poison = refl
itself_moved (Value.Int w) = refl
itself_moved (Value.Ptr Pointer.Null) = refl
itself_moved (Value.Ptr (Pointer.Func f)) = refl
itself_moved (Value.Ptr (Pointer.At b o)) = refl

value_unrooted : (e : Env) (o : Option ℕ) (x : Option Value) → o ≡ None
    → value_or_poison (Some (renewed_value e o x)) ≡ value_or_poison (Some x)
value_unrooted e o x h = ap (λ (z : Option ℕ). value_or_poison (Some (renewed_value e z x))) h ∙ on x
  where
    on : (x : Option Value) → value_or_poison (Some (renewed_value e None x)) ≡ value_or_poison (Some x)
    on None = refl
    on (Some v) = refl

value_rooted : (e : Env) (o : Option ℕ) (a : ℕ) (x : Option Value) → o ≡ Some a
    → value_or_poison (Some (renewed_value e o x)) ≡ in_new_slot (value_in e a) (value_or_poison (Some x))
value_rooted e o a x h = ap (λ (z : Option ℕ). value_or_poison (Some (renewed_value e z x))) h ∙ on x
  where
    on : (x : Option Value) → value_or_poison (Some (renewed_value e (Some a) x))
        ≡ in_new_slot (value_in e a) (value_or_poison (Some x))
    on None = sym (poison_moved (value_in e a))
    on (Some v) = refl

pub unrooted_value : (roots : ℕ → Option ℕ) (e vs : Env) (v : ℕ) → roots v ≡ None
    → value_in (renewed_values roots e vs) v ≡ value_in vs v
unrooted_value roots e [] v h = refl
unrooted_value roots e (x ∷ vs) zero h = value_unrooted e (roots 0) x h
unrooted_value roots e (x ∷ vs) (suc v) h = unrooted_value (λ i. roots (suc i)) e vs v h

pub rooted_value : (roots : ℕ → Option ℕ) (e vs : Env) (v a : ℕ) → roots v ≡ Some a
    → value_in (renewed_values roots e vs) v ≡ in_new_slot (value_in e a) (value_in vs v)
rooted_value roots e [] v a h = sym (poison_moved (value_in e a))
rooted_value roots e (x ∷ vs) zero a h = value_rooted e (roots 0) a x h
rooted_value roots e (x ∷ vs) (suc v) a h = rooted_value (λ i. roots (suc i)) e vs v a h

-- poison stays
pub poison_stays : (roots : ℕ → Option ℕ) (e vs : Env) (v : ℕ) → value_in vs v ≡ Value.Poison
    → value_in (renewed_values roots e vs) v ≡ Value.Poison
poison_stays roots e vs v h = on (roots v) refl
  where
    on : (o : Option ℕ) → roots v ≡ o → value_in (renewed_values roots e vs) v ≡ Value.Poison
    on None k = unrooted_value roots e vs v k ∙ h
    on (Some a) k =
        rooted_value roots e vs v a k ∙ ap (in_new_slot (value_in e a)) h ∙ poison_moved (value_in e a)

pub renewed_length : (roots : ℕ → Option ℕ) (e vs : Env) → length (renewed_values roots e vs) ≡ length vs
renewed_length roots e [] = refl
renewed_length roots e (x ∷ vs) = ap suc (renewed_length (λ i. roots (suc i)) e vs)
