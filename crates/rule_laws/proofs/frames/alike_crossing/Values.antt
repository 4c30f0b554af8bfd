-- What holds of each value of a function that may cross a suspend.
use Rattle.std.proofs.Common.{◌≡◌, ℕ, suc, inl, inr, Bool, true, false, List, [], ◌∷◌, ◌++◌, Some, None, Option, refl, sym, subst}
use Rattle.std.specs.Prelude.{map, slice_get, if◌then◌else◌}
use Rattle.rule_uses.specs.Undefined.{params_of}
use Rattle.ir_laws.specs.flow_solver.Paths.{IsListed}
use Rattle.ir_parts.specs.Contents.{result_of}
use Rattle.ir_laws.specs.ir_model.declared.instr.Instr.{Instr}
use Rattle.ir_laws.specs.ir_model.declared.instr.Phi.{Phi}
use Rattle.ir_laws.specs.ir_model.declared.module.Block.{Block}
use Rattle.ir_laws.specs.ir_model.declared.module.Function.{Function}
use Rattle.ir_laws.specs.ir_model.declared.module.Param.{Param}
use Rattle.ir_laws.specs.ir_paths.Slots.{has_name}
use Rattle.frame_contents.specs.frame_crossing.Values.{all_defined, blocks_defined, distinct, instrs_defined, is_apart, is_token, params_defined, phis_defined, result_unless, unless, values_of, with_new}

module _ (P : ℕ → Type 0) where
  abbrev pub Hold : List ℕ → Type 0
  Hold vs = (v : ℕ) → IsListed v vs → P v

  hold_append : (xs ys : List ℕ) → Hold xs → Hold ys → Hold (xs ++ ys)
  hold_append [] ys h k v l = k v l
  hold_append (x ∷ xs) ys h k v (inl e) = h v (inl e)
  hold_append (x ∷ xs) ys h k v (inr l) = hold_append xs ys (λ u m. h u (inr m)) k v l

  hold_one : (x : ℕ) → P x → Hold (x ∷ [])
  hold_one x h v (inl e) = subst P (sym e) h
  hold_one x h v (inr l) = absurd l

  hold_unless : (b : Bool) (x : ℕ) → (b ≡ false → P x) → Hold (unless b x)
  hold_unless true x h v l = absurd l
  hold_unless false x h v l = hold_one x (h refl) v l

  hold_result : (b : Bool) (o : Option ℕ) → (b ≡ false → (x : ℕ) → o ≡ Some x → P x) → Hold (result_unless b o)
  hold_result b None h v l = absurd l
  hold_result b (Some x) h v l = hold_unless b x (λ e. h e x refl) v l

  hold_params : (ps : List Param) → Hold (map (λ (p : Param). p.name) ps) → Hold (params_defined ps)
  hold_params [] h v l = absurd l
  hold_params (p ∷ ps) h v l =
      hold_append (unless (is_token p.ty) p.name) (params_defined ps)
      (hold_unless (is_token p.ty) p.name (λ e. h p.name (inl refl)))
      (hold_params ps (λ u m. h u (inr m))) v l

  hold_phis : (ps : List Phi) → ((j : ℕ) (p : Phi) → slice_get ps j ≡ Some p → P p.result) → Hold (phis_defined ps)
  hold_phis [] h v l = absurd l
  hold_phis (p ∷ ps) h v l =
      hold_append (unless (is_token p.ty) p.result) (phis_defined ps)
      (hold_unless (is_token p.ty) p.result (λ e. h 0 p refl))
      (hold_phis ps (λ j q d. h (suc j) q d)) v l

  abbrev HoldsAt : List Instr → Type 0
  HoldsAt is = (j : ℕ) (i : Instr) (v : ℕ) → slice_get is j ≡ Some i → is_apart i ≡ false → result_of i ≡ Some v → P v

  hold_instrs : (is : List Instr) → HoldsAt is → Hold (instrs_defined is)
  hold_instrs [] h v l = absurd l
  hold_instrs (i ∷ is) h v l =
      hold_append (result_unless (is_apart i) (result_of i)) (instrs_defined is)
      (hold_result (is_apart i) (result_of i) (λ e x d. h 0 i x refl e d))
      (hold_instrs is (λ j k x d e r. h (suc j) k x d e r)) v l

  hold_blocks : (bs : List Block) → ((k : ℕ) (b : Block) (j : ℕ) (p : Phi) → slice_get bs k ≡ Some b → slice_get b.phis j ≡ Some p → P p.result) → ((k : ℕ) (b : Block) → slice_get bs k ≡ Some b → HoldsAt b.instrs) → Hold (blocks_defined bs)
  hold_blocks [] h k v l = absurd l
  hold_blocks (b ∷ bs) h k v l =
      hold_append (phis_defined b.phis) (instrs_defined b.instrs ++ blocks_defined bs)
      (hold_phis b.phis (λ j p d. h 0 b j p refl d))
      (hold_append (instrs_defined b.instrs) (blocks_defined bs)
      (hold_instrs b.instrs (k 0 b refl))
      (hold_blocks bs (λ n c j p d e. h (suc n) c j p d e) (λ n c d. k (suc n) c d))) v l

  hold_new : (found : List ℕ) (x : ℕ) → Hold found → P x → Hold (with_new found x)
  hold_new found x h k = on (has_name found x)
    where
      on : (b : Bool) → Hold (if b then found else found ++ x ∷ [])
      on true = h
      on false = hold_append found (x ∷ []) h (hold_one x k)

  hold_distinct : (found vs : List ℕ) → Hold found → Hold vs → Hold (distinct found vs)
  hold_distinct found [] h k = h
  hold_distinct found (x ∷ vs) h k = hold_distinct (with_new found x) vs (hold_new found x h (k x (inl refl))) (λ u m. k u (inr m))

  -- of each value, where it holds of each name that is defined otherwise than by what stands apart
  pub values_hold : (f : Function) → Hold (params_of f) → ((k : ℕ) (b : Block) (j : ℕ) (p : Phi) → slice_get f.blocks k ≡ Some b → slice_get b.phis j ≡ Some p → P p.result) → ((k : ℕ) (b : Block) → slice_get f.blocks k ≡ Some b → HoldsAt b.instrs) → Hold (values_of f)
  values_hold f h k l =
      hold_distinct [] (all_defined f) (λ v m. absurd m)
      (hold_append (params_defined f.params) (blocks_defined f.blocks) (hold_params f.params h) (hold_blocks f.blocks k l))
