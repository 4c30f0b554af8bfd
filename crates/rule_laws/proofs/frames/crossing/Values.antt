-- The values of the result that may cross suspends: those of the function, and new ones, of which none is a cell.
use Rattle.std.proofs.Common.{◌≡◌, ◌⊎◌, inl, inr, ⊎_elim, ℕ, ◌+◌, ◌<◌, Bool, true, false, List, [], ◌∷◌, ◌++◌, refl, sym, ap, subst, arith}
use Rattle.std.specs.Prelude.{Option, Some, None, option_to_list, ◌||◌, ◌==◌, if◌then◌else◌}
use Rattle.rule_laws.proofs.frames.counted.Keepable.{distinct_listed}
use Rattle.ir_laws.proofs.facts.Truth.{equal_numbers}
use Rattle.ir_laws.proofs.paths.source_rules.Locals.{listed_either, listed_left, listed_right}
use Rattle.ir_laws.specs.flow_solver.Paths.{IsListed}
use Rattle.ir_parts.specs.Contents.{result_of}
use Rattle.ir_laws.specs.ir_model.Ty.{Ty}
use Rattle.ir_laws.specs.ir_model.declared.instr.Instr.{Instr}
use Rattle.ir_laws.specs.ir_model.declared.instr.Phi.{Phi}
use Rattle.ir_laws.specs.ir_model.declared.module.Block.{Block}
use Rattle.ir_laws.specs.ir_model.declared.module.Function.{Function}
use Rattle.ir_laws.specs.ir_model.declared.module.Module.{Module}
use Rattle.ir_laws.specs.ir_model.declared.module.Param.{Param}
use Rattle.ir_laws.specs.ir_model.declared.operand.Callee.{Callee}
use Rattle.ir_laws.specs.ir_model.declared.operand.Intrinsic.{Intrinsic}
use Rattle.ir_laws.specs.ir_model.declared.operand.Operand.{Operand}
use Rattle.ir_laws.specs.ir_paths.Slots.{has_name}
use Rattle.ir_laws.specs.ir_paths.Windows.{is_call_of}
use Rattle.frame_contents.specs.frame_crossing.Values.{all_defined, blocks_defined, distinct, instrs_defined, is_apart, is_token, is_token_result, params_defined, phis_defined, result_unless, unless, values_of, with_new}
use Rattle.rule_laws.specs.rules.woven_rules.Blocks.{AreWoven, AreWovenBlocks, Done, Gone, IsWoven, Kept, NoBlock, OneBlock, Put, Remain, Stays, Unpromised}
use Rattle.ir_laws.specs.facts.woven_rules.Pairs.{Empty, Pair, Pairwise}
use Rattle.rule_laws.specs.rules.woven_rules.Parts.{Alloca, Binary, Call, CalleeStays, Cast, Direct, Gep, Icmp, Indirect, InstrStays, Load, PhiStays, Select, Store}
use Rattle.rule_laws.specs.rules.woven_rules.Weaving.{IsInPlace, Weaving}

-- ---- lists of values, each once

keeps_found : (found : List ℕ) (n v : ℕ) → IsListed v found → IsListed v (with_new found n)
keeps_found found n v l = on (has_name found n)
  where
    on : (b : Bool) → IsListed v (if b then found else found ++ n ∷ [])
    on true = l
    on false = listed_left v found (n ∷ []) l

has_listed : (found : List ℕ) (n : ℕ) → has_name found n ≡ true → IsListed n found
has_listed [] n h = absurd (cc)
has_listed (x ∷ xs) n h = on (x == n) refl h (has_listed xs n)
  where
    on : (b : Bool) → (x == n) ≡ b → (b || has_name xs n) ≡ true → (has_name xs n ≡ true → IsListed n xs) → IsListed n (x ∷ xs)
    on true e k rest = inl (sym (equal_numbers x n e))
    on false e k rest = inr (rest k)

new_found : (found : List ℕ) (n : ℕ) → IsListed n (with_new found n)
new_found found n = on (has_name found n) refl
  where
    on : (b : Bool) → has_name found n ≡ b → IsListed n (if b then found else found ++ n ∷ [])
    on true e = has_listed found n e
    on false e = listed_right n found (n ∷ []) (inl refl)

distinct_keeps : (found vs : List ℕ) (v : ℕ) → IsListed v found → IsListed v (distinct found vs)
distinct_keeps found [] v l = l
distinct_keeps found (n ∷ ns) v l = distinct_keeps (with_new found n) ns v (keeps_found found n v l)

pub distinct_has : (found vs : List ℕ) (v : ℕ) → IsListed v vs → IsListed v (distinct found vs)
distinct_has found [] v l = absurd l
distinct_has found (n ∷ ns) v (inl e) = distinct_keeps (with_new found n) ns v (subst (λ (k : ℕ). IsListed k (with_new found n)) (sym e) (new_found found n))
distinct_has found (n ∷ ns) v (inr l) = distinct_has (with_new found n) ns v l

-- ---- an instruction that stays is set apart where it was

token_type : (a b : Ty) → b ≡ a → is_token b ≡ is_token a
token_type a b e = ap is_token e

module _ (R : Operand → Operand → Type 0) where
  callee_apart : (i : Intrinsic) (c d : Callee) (r s : Option ℕ) (mt mu : Bool) (t u : Option Ty) (xs ys : List _) → CalleeStays R c d → is_call_of i (Instr.Call s mu u d ys) ≡ is_call_of i (Instr.Call r mt t c xs)
  callee_apart i _ _ r s mt mu t u xs ys (Direct (Callee.Named n) e) = refl
  callee_apart i _ _ r s mt mu t u xs ys (Direct (Callee.Allocator a) e) = refl
  callee_apart i _ _ r s mt mu t u xs ys (Direct (Callee.Intrinsic j) e) = refl
  callee_apart i _ _ r s mt mu t u xs ys (Direct (Callee.Local n) e) = refl
  callee_apart i _ _ r s mt mu t u xs ys (Indirect v n h) = refl

  same_apart : (i j : Instr) → InstrStays R i j → is_apart j ≡ is_apart i
  same_apart _ _ (Binary r op flags ty a b c d x y) = refl
  same_apart _ _ (Icmp r pred ty a b c d x y) = refl
  same_apart _ _ (Select r x y a b c d h s t) = token_type a.ty c.ty s.ty
  same_apart _ _ (Cast r op nneg a c to h) = refl
  same_apart _ _ (Alloca r ty align) = refl
  same_apart _ _ (Load r ty x y align h) = refl
  same_apart _ _ (Store a c x y align s h) = refl
  same_apart _ _ (Gep r inbounds ty x y args now h s) = refl
  same_apart _ _ (Call r must_tail ty c d args now h s) =
      λ k. is_token_result ty || (callee_apart Intrinsic.CoroBegin c d r r must_tail must_tail ty ty args now h k || callee_apart Intrinsic.CoroFrame c d r r must_tail must_tail ty ty args now h k)

  stays_result : (i j : Instr) → InstrStays R i j → result_of j ≡ result_of i
  stays_result _ _ (Binary r op flags ty a b c d x y) = refl
  stays_result _ _ (Icmp r pred ty a b c d x y) = refl
  stays_result _ _ (Select r x y a b c d h s t) = refl
  stays_result _ _ (Cast r op nneg a c to h) = refl
  stays_result _ _ (Alloca r ty align) = refl
  stays_result _ _ (Load r ty x y align h) = refl
  stays_result _ _ (Store a c x y align s h) = refl
  stays_result _ _ (Gep r inbounds ty x y args now h s) = refl
  stays_result _ _ (Call r must_tail ty c d args now h s) = refl

-- ---- old values are the function's

module _ (w : Weaving) (m : Module) (f g : Function) (woven : IsWoven w m f g) (v : ℕ) (old : v < w.first) where
  remains_defined : (made : List ℕ) (i j : Instr) → Stays w f made i j → result_unless (is_apart j) (result_of j) ≡ result_unless (is_apart i) (result_of i)
  remains_defined made _ _ (Kept i j h mark) = λ k. result_unless (same_apart (IsInPlace w f made) i j h k) (stays_result (IsInPlace w f made) i j h k)
  remains_defined made _ _ (Unpromised r must_tail ty a p args h) = refl

  result_there : (b : Bool) (o : Option ℕ) → IsListed v (result_unless b o) → o ≡ Some v
  result_there b None l = absurd l
  result_there true (Some n) l = absurd l
  result_there false (Some n) (inl e) = ap (λ (k : ℕ). Some k) (sym e)
  result_there false (Some n) (inr l) = absurd l

  instrs_old : (block : ℕ) (made : List ℕ) (is js : List Instr) → AreWoven w m f block made is js → IsListed v (instrs_defined js) → IsListed v (instrs_defined is)
  instrs_old block _ _ _ (Done made) l = l
  instrs_old block _ _ _ (Put made j is js put rest) l =
      ⊎_elim (λ a. let low = (put.result v (result_there (is_apart j) (result_of j) a)).low in absurd (omega (arith, low, old))) (λ r. instrs_old block (option_to_list (result_of j) ++ made) is js rest r)
      (listed_either v (result_unless (is_apart j) (result_of j)) (instrs_defined js) l)
  instrs_old block _ _ _ (Gone made i is js goes rest) l = listed_right v (result_unless (is_apart i) (result_of i)) (instrs_defined is) (instrs_old block made is js rest l)
  instrs_old block _ _ _ (Remain made i j is js stays rest) l =
      ⊎_elim (λ a. listed_left v (result_unless (is_apart i) (result_of i)) (instrs_defined is) (subst (λ (ns : List ℕ). IsListed v ns) (remains_defined made i j stays) a))
      (λ r. listed_right v (result_unless (is_apart i) (result_of i)) (instrs_defined is) (instrs_old block (option_to_list (result_of j) ++ made) is js rest r))
      (listed_either v (result_unless (is_apart j) (result_of j)) (instrs_defined js) l)

  phis_old : (R : ℕ → Operand → Operand → Type 0) (ps qs : List Phi) → Pairwise (PhiStays R) ps qs → phis_defined qs ≡ phis_defined ps
  phis_old R _ _ Empty = refl
  phis_old R _ _ (Pair x y xs ys h rest) = λ k. unless (is_token (h.ty k)) (h.result k) ++ phis_old R xs ys rest k

  blocks_old : (at : ℕ) (bs cs : List Block) → AreWovenBlocks w m f g at bs cs → IsListed v (blocks_defined cs) → IsListed v (blocks_defined bs)
  blocks_old _ _ _ (NoBlock at) l = l
  blocks_old _ _ _ (OneBlock at b c bs cs h rest) l =
      ⊎_elim
      (λ a. listed_left v (phis_defined b.phis) (instrs_defined b.instrs ++ blocks_defined bs) (subst (λ (ns : List ℕ). IsListed v ns) (phis_old _ b.phis c.phis h.phis) a))
      (λ r. listed_right v (phis_defined b.phis) (instrs_defined b.instrs ++ blocks_defined bs)
      (⊎_elim (λ a. listed_left v (instrs_defined b.instrs) (blocks_defined bs) (instrs_old at _ b.instrs c.instrs h.instrs a)) (λ x. listed_right v (instrs_defined b.instrs) (blocks_defined bs) (blocks_old (at + 1) bs cs rest x)) (listed_either v (instrs_defined c.instrs) (blocks_defined cs) r)))
      (listed_either v (phis_defined c.phis) (instrs_defined c.instrs ++ blocks_defined cs) l)

  pub old_value : IsListed v (values_of g) → IsListed v (values_of f)
  old_value h =
      ⊎_elim (λ x. absurd x)
      (λ l. distinct_has [] (all_defined f) v
      (⊎_elim (λ a. listed_left v (params_defined f.params) (blocks_defined f.blocks) (subst (λ (ps : List Param). IsListed v (params_defined ps)) woven.params a))
      (λ r. listed_right v (params_defined f.params) (blocks_defined f.blocks) (blocks_old 0 f.blocks g.blocks woven.blocks r))
      (listed_either v (params_defined g.params) (blocks_defined g.blocks) l)))
      (distinct_listed [] (all_defined g) v h)
