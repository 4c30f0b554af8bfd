-- What a frame holds is held once, because names are defined once.
use Rattle.std.proofs.Common.{◌≡◌, ◌⊎◌, inl, inr, ℕ, zero, suc, Bool, true, false, List, [], ◌∷◌, ◌++◌, map, Option, Some, None, refl, sym, ap, ◌∙◌, subst, if◌then◌else◌}
use Rattle.std.proofs.lemmas.List.{map-append}
use Rattle.std.specs.Prelude.{option_to_list, slice_get}
use Rattle.pass_frames_proof.specs.flow_solver.Paths.{IsListed}
use Rattle.pass_frames_proof.specs.frame_contents.Held.{held_blocks, held_by, held_instr, held_instrs, held_params, held_phis, if_result, if_value, result_size, slot_held, value_held, value_size}
use Rattle.pass_frames_proof.specs.frame_contents.declared.held.Holding.{Holding}
use Rattle.pass_frames_proof.proofs.ir_laws.facts.Lists.{phi_names, row_of}
use Rattle.pass_frames_proof.proofs.ir_laws.paths.source_rules.Locals.{Apart}
use Rattle.pass_frames_proof.specs.ir_model.declared.instr.Instr.{Instr}
use Rattle.pass_frames_proof.specs.ir_model.declared.instr.Phi.{Phi}
use Rattle.pass_frames_proof.specs.ir_model.declared.module.Block.{Block}
use Rattle.pass_frames_proof.specs.ir_model.declared.module.Function.{Function}
use Rattle.pass_frames_proof.specs.ir_model.declared.module.Module.{Module}
use Rattle.pass_frames_proof.specs.ir_model.declared.module.Param.{Param}
use Rattle.pass_frames_proof.specs.ir_parts.Contents.{result_of}
use Rattle.pass_frames_proof.specs.ir_parts.Locals.{locals_of}
use Rattle.pass_frames_proof.specs.ir_paths.Slots.{promise_of}
use Rattle.pass_frames_proof.proofs.rule_laws.rules.local_rules.Names.{numbers}
use Rattle.pass_frames_proof.proofs.rule_laws.rules.local_rules.Woven.{apart_names}
use Rattle.pass_frames_proof.proofs.rule_laws.rules.renamed.Uses.{result_spelt}
use Rattle.pass_frames_proof.proofs.rule_laws.rules.source_rules.Locals.{block_names, made_by, names_are}
use Rattle.pass_frames_proof.specs.rule_laws.rules.function_rules.Kept.{KeepsFunctionRules}

-- ---- lists within others, in their order

abbrev pub IsWithin : List ℕ → List ℕ → Type 0
IsWithin [] ys = Unit {0}
IsWithin (x ∷ xs) [] = ⊥
IsWithin (x ∷ xs) (y ∷ ys) = ((x ≡ y) × IsWithin xs ys) ⊎ IsWithin (x ∷ xs) ys

skipped : (us vs : List ℕ) (y : ℕ) → IsWithin us vs → IsWithin us (y ∷ vs)
skipped [] vs y h = tt
skipped (u ∷ us) vs y h = inr h

joined : (xs ys us vs : List ℕ) → IsWithin xs ys → IsWithin us vs → IsWithin (xs ++ us) (ys ++ vs)
joined [] [] us vs h k = k
joined [] (y ∷ ys) us vs h k = skipped us (ys ++ vs) y (joined [] ys us vs tt k)
joined (x ∷ xs) [] us vs h k = absurd h
joined (x ∷ xs) (y ∷ ys) us vs (inl h) k = inl (h.0, joined xs ys us vs h.1 k)
joined (x ∷ xs) (y ∷ ys) us vs (inr h) k = inr (joined (x ∷ xs) ys us vs h k)

pub listed_within : (v : ℕ) (xs ys : List ℕ) → IsListed v xs → IsWithin xs ys → IsListed v ys
listed_within v [] ys l h = absurd l
listed_within v (x ∷ xs) [] l h = absurd h
listed_within v (x ∷ xs) (y ∷ ys) (inl e) (inl h) = inl (e ∙ h.0)
listed_within v (x ∷ xs) (y ∷ ys) (inr l) (inl h) = inr (listed_within v xs ys l h.1)
listed_within v (x ∷ xs) (y ∷ ys) l (inr h) = inr (listed_within v (x ∷ xs) ys l h)

apart_within : (xs ys : List ℕ) → IsWithin xs ys → Apart ys → Apart xs
apart_within [] ys h a = tt
apart_within (x ∷ xs) [] h a = absurd h
apart_within (x ∷ xs) (y ∷ ys) (inl h) a = (
  λ l. a.0 (subst (λ (z : ℕ). IsListed z ys) h.0 (listed_within x xs ys l h.1)),
  apart_within xs ys h.1 a.1,
)
apart_within (x ∷ xs) (y ∷ ys) (inr h) a = apart_within (x ∷ xs) ys h a.1

-- ---- what is held

abbrev pub values : List Holding → List ℕ
values hs = map (λ (h : Holding). h.value) hs

both_within : (hs gs : List Holding) (ys vs : List ℕ) → IsWithin (values hs) ys → IsWithin (values gs) vs
    → IsWithin (values (hs ++ gs)) (ys ++ vs)
both_within hs gs ys vs h k =
    subst (λ (zs : List ℕ). IsWithin zs (ys ++ vs)) (sym (map-append (λ (h : Holding). h.value) hs gs))
    (joined (values hs) ys (values gs) vs h k)

module _ (m : Module) (promise : Option ℕ) (is_value is_slot : ℕ → Bool) where
  one_within : (v size : ℕ) → IsWithin (values (if_value is_value v size)) (v ∷ [])
  one_within v size = on (is_value v)
    where
      on : (b : Bool) → IsWithin (values (if b then value_held v size ∷ [] else [])) (v ∷ [])
      on true = inl (refl, tt)
      on false = tt

  params_within : (ps : List Param) → IsWithin (values (held_params is_value ps)) (map (λ (p : Param). p.name) ps)
  params_within [] = tt
  params_within (p ∷ ps) =
      both_within (if_value is_value p.name (value_size p.ty)) (held_params is_value ps) (p.name ∷ [])
      (map (λ (q : Param). q.name) ps) (one_within p.name (value_size p.ty)) (params_within ps)

  phis_within : (ps : List Phi) → IsWithin (values (held_phis is_value ps)) (phi_names ps)
  phis_within [] = tt
  phis_within (p ∷ ps) =
      both_within (if_value is_value p.result (value_size p.ty)) (held_phis is_value ps) (p.result ∷ [])
      (phi_names ps) (one_within p.result (value_size p.ty)) (phis_within ps)

  result_within : (o : Option ℕ) (size : ℕ) → IsWithin (values (if_result is_value o size)) (option_to_list o)
  result_within None size = tt
  result_within (Some v) size = one_within v size

  by_result : (i : Instr) → IsWithin (values (held_instr m promise is_value is_slot i)) (option_to_list (result_of i))
  by_result (Instr.Alloca r ty align) = on (is_slot r)
    where
      on : (b : Bool) → IsWithin (values (if b then slot_held m promise r ty align ∷ [] else [])) (r ∷ [])
      on true = inl (refl, tt)
      on false = tt
  by_result i = result_within (result_of i) (result_size i)

  instr_within : (i : Instr) → IsWithin (values (held_instr m promise is_value is_slot i)) (made_by i)
  instr_within i =
      subst (λ (o : Option ℕ). IsWithin (values (held_instr m promise is_value is_slot i)) (option_to_list o))
      (sym (result_spelt i)) (by_result i)

  instrs_within : (is : List Instr)
      → IsWithin (values (held_instrs m promise is_value is_slot is)) (row_of made_by is)
  instrs_within [] = tt
  instrs_within (i ∷ is) =
      both_within (held_instr m promise is_value is_slot i) (held_instrs m promise is_value is_slot is) (made_by i)
      (row_of made_by is) (instr_within i) (instrs_within is)

  blocks_within : (bs : List Block)
      → IsWithin (values (held_blocks m promise is_value is_slot bs)) (row_of block_names bs)
  blocks_within [] = tt
  blocks_within (b ∷ bs) =
      both_within (held_phis is_value b.phis ++ held_instrs m promise is_value is_slot b.instrs)
      (held_blocks m promise is_value is_slot bs) (block_names b) (row_of block_names bs)
      (skipped (values (held_phis is_value b.phis ++ held_instrs m promise is_value is_slot b.instrs))
      (phi_names b.phis ++ row_of made_by b.instrs) b.label
      (both_within (held_phis is_value b.phis) (held_instrs m promise is_value is_slot b.instrs) (phi_names b.phis)
      (row_of made_by b.instrs) (phis_within b.phis) (instrs_within b.instrs)))
      (blocks_within bs)

pub held_within : (m : Module) (f : Function) (is_value is_slot : ℕ → Bool)
    → IsWithin (values (held_by m f is_value is_slot)) (numbers f)
held_within m f is_value is_slot =
    both_within (held_params is_value f.params) (held_blocks m (promise_of f) is_value is_slot f.blocks)
    (map (λ (p : Param). p.name) f.params) (row_of block_names f.blocks)
    (params_within m (promise_of f) is_value is_slot f.params)
    (blocks_within m (promise_of f) is_value is_slot f.blocks)

-- ---- positions

value_listed : (hs : List Holding) (k : ℕ) (h : Holding) → slice_get hs k ≡ Some h → IsListed h.value (values hs)
value_listed [] k h e = absurd (cc)
value_listed (g ∷ hs) zero h e = let same : g ≡ h = cc in inl (ap (λ (z : Holding). z.value) (sym same))
value_listed (g ∷ hs) (suc k) h e = inr (value_listed hs k h e)

pub value_there : (hs : List Holding) (k : ℕ) (h : Holding) → slice_get hs k ≡ Some h → IsListed h.value (values hs)
value_there = value_listed

pub positions_once : (hs : List Holding) → Apart (values hs) → (j k : ℕ) (x y : Holding) → slice_get hs j ≡ Some x
    → slice_get hs k ≡ Some y → x.value ≡ y.value → j ≡ k
positions_once [] a j k x y e d same = absurd (cc)
positions_once (h ∷ hs) a zero zero x y e d same = refl
positions_once (h ∷ hs) a zero (suc k) x y e d same =
    let is : h ≡ x = cc in
    absurd (a.0 (subst (λ (v : ℕ). IsListed v (values hs)) (sym (ap (λ (z : Holding). z.value) is ∙ same))
    (value_listed hs k y d)))
positions_once (h ∷ hs) a (suc j) zero x y e d same =
    let is : h ≡ y = cc in
    absurd (a.0 (subst (λ (v : ℕ). IsListed v (values hs)) (sym (ap (λ (z : Holding). z.value) is ∙ sym same))
    (value_listed hs j x e)))
positions_once (h ∷ hs) a (suc j) (suc k) x y e d same = ap suc (positions_once hs a.1 j k x y e d same)

pub held_apart : (m : Module) (k : ℕ) (f : Function) (is_value is_slot : ℕ → Bool) → KeepsFunctionRules m k f
    → Apart (values (held_by m f is_value is_slot))
held_apart m k f is_value is_slot rules =
    apart_within (values (held_by m f is_value is_slot)) (numbers f) (held_within m f is_value is_slot)
    (subst Apart (names_are k f) (apart_names [] (locals_of k f) rules.definitions))
