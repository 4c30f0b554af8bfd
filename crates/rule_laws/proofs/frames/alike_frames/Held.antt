-- What frames hold, and its fields.
use Rattle.std.proofs.Common.{◌≡◌, ℕ, suc, ◌+◌, ◌⊎◌, inl, inr, Bool, true, false, List, [], ◌∷◌, ◌++◌, map, Some, None, Option, refl, ap, subst}
use Rattle.std.specs.Prelude.{slice_get, if◌then◌else◌, ◌==◌}
use Rattle.frame_contents.specs.Held.{crossing_values, field_of, fields_of, held_blocks, held_by, held_instr, held_instrs, held_params, held_phis, if_result, if_value, index_field, result_size, slot_held, suspend_count, value_held}
use Rattle.frame_contents.specs.declared.held.Holding.{Holding}
use Rattle.rule_uses.specs.Undefined.{params_of}
use Rattle.ir_laws.specs.flow_solver.Paths.{IsListed}
use Rattle.ir_parts.specs.Contents.{result_of}
use Rattle.ir_laws.specs.ir_model.declared.instr.Instr.{Instr}
use Rattle.ir_laws.specs.ir_model.declared.instr.Phi.{Phi}
use Rattle.ir_laws.specs.ir_model.declared.module.Block.{Block}
use Rattle.ir_laws.specs.ir_model.declared.module.Function.{Function}
use Rattle.ir_laws.specs.ir_model.declared.module.Module.{Module}
use Rattle.ir_laws.specs.ir_model.declared.module.Param.{Param}
use Rattle.ir_laws.proofs.ir_paths.Search.{either, eq_from}
use Rattle.ir_laws.specs.ir_paths.Slots.{has_name, promise_of}
use Rattle.ir_laws.proofs.facts.Members.{each_joined as each_append}
use Rattle.ir_laws.specs.run_laws.changed.Changed.{Each}
use Rattle.frame_contents.specs.frame_crossing.Crossing.{AreCrossed, AreCrossing, CrossedBy, suspends_of}
use Rattle.frame_contents.specs.frame_crossing.Crossing.AreCrossed.{NoMore, Taken, LeftOut}
use Rattle.frame_contents.specs.frame_crossing.Crossing.CrossedBy.{Nothing, More}
use Rattle.frame_contents.specs.frame_crossing.Values.{values_of}

-- ---- names of what is held

module _ (P : ℕ → Type 0) where
  abbrev HeldAll : List Holding → Type 0
  HeldAll hs = Each (λ (h : Holding). P h.value) hs

  one_held : (b : Bool) (h : Holding) → P h.value → HeldAll (if b then h ∷ [] else [])
  one_held true h p = (p, tt)
  one_held false h p = tt

  params_held : (is_value : ℕ → Bool) (ps : List Param) → ((v : ℕ) → IsListed v (map (λ (p : Param). p.name) ps) → P v) → HeldAll (held_params is_value ps)
  params_held is_value [] h = tt
  params_held is_value (p ∷ ps) h =
      each_append (λ (x : Holding). P x.value) (if_value is_value p.name _) (held_params is_value ps)
      (one_held (is_value p.name) (value_held p.name _) (h p.name (inl refl)))
      (params_held is_value ps (λ v l. h v (inr l)))

  phis_held : (is_value : ℕ → Bool) (ps : List Phi) → ((j : ℕ) (p : Phi) → slice_get ps j ≡ Some p → P p.result) → HeldAll (held_phis is_value ps)
  phis_held is_value [] h = tt
  phis_held is_value (p ∷ ps) h =
      each_append (λ (x : Holding). P x.value) (if_value is_value p.result _) (held_phis is_value ps)
      (one_held (is_value p.result) (value_held p.result _) (h 0 p refl))
      (phis_held is_value ps (λ j q e. h (suc j) q e))

  module _ (m : Module) (promise : Option ℕ) (is_value is_slot : ℕ → Bool) where
    result_held : (o : Option ℕ) (size : ℕ) → ((v : ℕ) → o ≡ Some v → P v) → HeldAll (if_result is_value o size)
    result_held None size h = tt
    result_held (Some v) size h = one_held (is_value v) (value_held v size) (h v refl)

    instr_held : (i : Instr) → ((v : ℕ) → result_of i ≡ Some v → P v) → HeldAll (held_instr m promise is_value is_slot i)
    instr_held (Instr.Alloca r ty align) h = one_held (is_slot r) (slot_held m promise r ty align) (h r refl)
    instr_held (Instr.Binary r op flags ty a b) h = result_held (Some r) (result_size (Instr.Binary r op flags ty a b)) h
    instr_held (Instr.Icmp r pred ty a b) h = result_held (Some r) (result_size (Instr.Icmp r pred ty a b)) h
    instr_held (Instr.Select r c a b) h = result_held (Some r) (result_size (Instr.Select r c a b)) h
    instr_held (Instr.Cast r op nneg arg to) h = result_held (Some r) (result_size (Instr.Cast r op nneg arg to)) h
    instr_held (Instr.Load r ty p align) h = result_held (Some r) (result_size (Instr.Load r ty p align)) h
    instr_held (Instr.Store arg p align) h = tt
    instr_held (Instr.Gep r inbounds ty base indices) h = result_held (Some r) 8 h
    instr_held (Instr.Call r must_tail ty callee args) h = result_held r (result_size (Instr.Call r must_tail ty callee args)) h

    instrs_held : (is : List Instr) → ((j : ℕ) (i : Instr) (v : ℕ) → slice_get is j ≡ Some i → result_of i ≡ Some v → P v) → HeldAll (held_instrs m promise is_value is_slot is)
    instrs_held [] h = tt
    instrs_held (i ∷ is) h =
        each_append (λ (x : Holding). P x.value) (held_instr m promise is_value is_slot i) (held_instrs m promise is_value is_slot is)
        (instr_held i (λ v e. h 0 i v refl e)) (instrs_held is (λ j k v d e. h (suc j) k v d e))

    blocks_held : (bs : List Block) → ((k : ℕ) (b : Block) (j : ℕ) (p : Phi) → slice_get bs k ≡ Some b → slice_get b.phis j ≡ Some p → P p.result) → ((k : ℕ) (b : Block) (j : ℕ) (i : Instr) (v : ℕ) → slice_get bs k ≡ Some b → slice_get b.instrs j ≡ Some i → result_of i ≡ Some v → P v) → HeldAll (held_blocks m promise is_value is_slot bs)
    blocks_held [] h k = tt
    blocks_held (b ∷ bs) h k =
        each_append (λ (x : Holding). P x.value) (held_phis is_value b.phis ++ held_instrs m promise is_value is_slot b.instrs) (held_blocks m promise is_value is_slot bs)
        (each_append (λ (x : Holding). P x.value) (held_phis is_value b.phis) (held_instrs m promise is_value is_slot b.instrs)
        (phis_held is_value b.phis (λ j p e. h 0 b j p refl e))
        (instrs_held b.instrs (λ j i v e d. k 0 b j i v refl e d)))
        (blocks_held bs (λ n c j p d e. h (suc n) c j p d e) (λ n c j i v d e r. k (suc n) c j i v d e r))

  -- what is held are parameters, phis and results
  pub held_values : (m : Module) (f : Function) (is_value is_slot : ℕ → Bool) → ((v : ℕ) → IsListed v (params_of f) → P v) → ((k : ℕ) (b : Block) (j : ℕ) (p : Phi) → slice_get f.blocks k ≡ Some b → slice_get b.phis j ≡ Some p → P p.result) → ((k : ℕ) (b : Block) (j : ℕ) (i : Instr) (v : ℕ) → slice_get f.blocks k ≡ Some b → slice_get b.instrs j ≡ Some i → result_of i ≡ Some v → P v) → Each (λ (h : Holding). P h.value) (held_by m f is_value is_slot)
  held_values m f is_value is_slot h k l =
      each_append (λ (x : Holding). P x.value) (held_params is_value f.params) (held_blocks m (promise_of f) is_value is_slot f.blocks)
      (params_held is_value f.params h) (blocks_held m (promise_of f) is_value is_slot f.blocks k l)

  -- ---- the values that cross

  crossed_values : (f : Function) (v k : ℕ) (ss : List Rattle.ir_laws.specs.ir_paths.declared.point.Point.Point) (all : List (ℕ × ℕ)) → P v → AreCrossed f v k ss all → Each P (crossing_values all)
  crossed_values f v _ _ _ p (NoMore k) = tt
  crossed_values f v _ _ _ p (Taken k s ss all c rest) = (p, crossed_values f v (k + 1) ss all p rest)
  crossed_values f v _ _ _ p (LeftOut k s ss all c rest) = crossed_values f v (k + 1) ss all p rest

  values_append : (xs ys : List (ℕ × ℕ)) → Each P (crossing_values xs) → Each P (crossing_values ys) → Each P (crossing_values (xs ++ ys))
  values_append [] ys h k = k
  values_append (x ∷ xs) ys h k = (h.0, values_append xs ys h.1 k)

  by_values : (f : Function) (vs : List ℕ) (all : List (ℕ × ℕ)) → ((v : ℕ) → IsListed v vs → P v) → CrossedBy f vs all → Each P (crossing_values all)
  by_values f _ _ h Nothing = tt
  by_values f _ _ h (More v vs here rest c more) = values_append here rest (crossed_values f v 0 (suspends_of f) here (h v (inl refl)) c) (by_values f vs rest (λ u l. h u (inr l)) more)

  each_has : (vs : List ℕ) (a : ℕ) → Each P vs → has_name vs a ≡ true → P a
  each_has [] a h e = absurd (cc)
  each_has (v ∷ vs) a h e = on (either (v == a) (has_name vs a) e) (each_has vs a h.1)
    where
      on : ((v == a) ≡ true) ⊎ (has_name vs a ≡ true) → (has_name vs a ≡ true → P a) → P a
      on (inl s) again = subst P (eq_from v a s) h.0
      on (inr s) again = again s

  -- what crosses is a value of the function
  pub crossing_holds : (f : Function) (all : List (ℕ × ℕ)) → AreCrossing f all → ((v : ℕ) → IsListed v (values_of f) → P v) → (v : ℕ) → has_name (crossing_values all) v ≡ true → P v
  crossing_holds f all c h v e = each_has (crossing_values all) v (by_values f (values_of f) all h c) e

-- ---- fields

-- fields are the same where the names of what is held are
pub fields_are : (P : ℕ → Type 0) (f g : Function) → ((v : ℕ) → P v → slice_get g.names v ≡ slice_get f.names v) → (held : List Holding) → Each (λ (h : Holding). P h.value) held → map (field_of g) held ≡ map (field_of f) held
fields_are P f g same [] h = refl
fields_are P f g same (x ∷ held) h =
    let first : field_of g x ≡ field_of f x = λ i. record { kind = x.kind; name = same x.value h.0 i; size = x.size; align = x.align } in
    let rest = fields_are P f g same held h.1 in
    λ i. first i ∷ rest i

pub all_fields_are : (P : ℕ → Type 0) (f g : Function) → ((v : ℕ) → P v → slice_get g.names v ≡ slice_get f.names v) → suspend_count g ≡ suspend_count f → (held : List Holding) → Each (λ (h : Holding). P h.value) held → fields_of g held ≡ fields_of f held
all_fields_are P f g same count held h =
    let first = fields_are P f g same held h in
    let last : index_field g ≡ index_field f = ap (λ (n : ℕ). record { kind = Rattle.frame_layout.specs.declared.layout.FieldKind.FieldKind.Index; name = None; size = Rattle.frame_layout.specs.Frames.index_size n; align = Rattle.frame_layout.specs.Frames.index_size n }) count in
    λ i. first i ++ last i ∷ []
