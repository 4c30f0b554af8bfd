-- The types of the values that are kept, gathered from their definitions.
use Rattle.std.proofs.Common.{◌≡◌, ◌⊎◌, inl, inr, ⊎_elim, ℕ, zero, suc, ◌<◌, List, [], ◌∷◌, ◌++◌, length, refl, sym, ap, ◌∙◌, arith}
use Rattle.std.specs.Prelude.{Option, Some, None, map, option_to_list, replicate, slice_get, slice_set}
use Rattle.pass_fetch_proof.proofs.cells.rules.Keeping.{IsKeeping}
use Rattle.pass_edges_proof.proofs.ir_laws.facts.Truth.{either}
use Rattle.pass_edges_proof.proofs.ir_laws.facts.Lists.{get_within, set_here, set_length, set_other, phi_names, row_of}
use Rattle.pass_edges_proof.proofs.ir_laws.paths.source_rules.Locals.{listed_either}
use Rattle.pass_edges_proof.proofs.rule_laws.rules.source_rules.Locals.{made_by}
use Rattle.pass_edges_proof.specs.flow_solver.Paths.{IsListed}
use Rattle.pass_edges_proof.specs.ir_parts.Contents.{result_of}
use Rattle.ir_model.specs.Ty.{Ty, ptr}
use Rattle.ir_model.specs.declared.instr.Instr.{Instr}
use Rattle.ir_model.specs.declared.instr.Phi.{Phi}
use Rattle.ir_model.specs.declared.module.Block.{Block}
use Rattle.ir_model.specs.declared.module.Function.{Function}
use Rattle.ir_model.specs.declared.module.Param.{Param}
use Rattle.pass_edges_proof.specs.run_laws.changed.Changed.{Each}
use Rattle.pass_edges_proof.specs.pass_cells.Kept.{entry, result_type, value_types, with_block_types, with_param_types, with_phi_types, with_result_type, with_result_types, with_type}
use Rattle.pass_edges_proof.specs.pass_cells.Plan.{type_at}
use Rattle.pass_edges_proof.specs.pass_cells.declared.keeping.Keeping.{Keeping}
use Rattle.pass_edges_proof.specs.rule_values.Kinds.{kind_of, value_kind}

-- the values that a block makes, in order
abbrev pub made_names : Block → List ℕ
made_names b = phi_names b.phis ++ row_of made_by b.instrs

-- where a name is kept, the type is of its kind
abbrev pub Tells : Function → Keeping → ℕ → Ty → Type 0
Tells f k r t = (at : ℕ) → entry k.places r ≡ Some at → value_kind f r ≡ Some (kind_of t)

abbrev pub TellResult : Function → Keeping → Instr → Type 0
TellResult f k i = (r : ℕ) → result_of i ≡ Some r → Tells f k r (result_type i)

abbrev pub TellBlock : Function → Keeping → Block → Type 0
TellBlock f k b = Each (λ p. Tells f k p.result p.ty) b.phis × Each (TellResult f k) b.instrs

module _ (f : Function) (count : ℕ) (P : ℕ → Type 0) (k : Keeping) (keeping : IsKeeping count P k) where
  -- the type that is noted for a name is of its kind
  abbrev IsSeen : List Ty → ℕ → Type 0
  IsSeen types v = (at : ℕ) → entry k.places v ≡ Some at → value_kind f v ≡ Some (kind_of (type_at types at))

  abbrev IsLong : List Ty → Type 0
  IsLong types = length types ≡ length k.values

  type_long : (types : List Ty) (o : Option ℕ) (t : Ty) → IsLong types → IsLong (with_type types o t)
  type_long types None t h = h
  type_long types (Some at) t h = set_length types at t ∙ h

  own_type : (types : List Ty) (at : ℕ) (t : Ty) → at < length types → type_at (slice_set types at t) at ≡ t
  own_type types at t lt = ap answer (set_here types at t lt)
    where
      answer : Option Ty → Ty
      answer None = ptr
      answer (Some u) = u

  other_type : (types : List Ty) (at j : ℕ) (t : Ty) → (at ≡ j → ⊥) → type_at (slice_set types at t) j ≡ type_at types j
  other_type types at j t ne = ap answer (set_other types at j t ne)
    where
      answer : Option Ty → Ty
      answer None = ptr
      answer (Some u) = u

  -- one definition more
  seen_by : (types : List Ty) (r : ℕ) (t : Ty) (o : Option ℕ) → entry k.places r ≡ o → IsLong types → Tells f k r t → (v : ℕ) → (v ≡ r) ⊎ IsSeen types v → IsSeen (with_type types o t) v
  seen_by types r t None e long tells v (inl same) at place = let both : None ≡ Some at = sym e ∙ ap (entry k.places) (sym same) ∙ place in absurd (cc)
  seen_by types r t None e long tells v (inr seen) at place = seen at place
  seen_by types r t (Some j) e long tells v h at place = ⊎_elim same_place other_place (either j at)
    where
      within : j < length types
      within = let lt : j < length k.values = get_within k.values j r (keeping.there r j e) in omega (arith, lt, long)

      same_place : j ≡ at → value_kind f v ≡ Some (kind_of (type_at (slice_set types j t) at))
      same_place same =
          let two : Some r ≡ Some v = sym (keeping.there r j e) ∙ ap (slice_get k.values) same ∙ keeping.there v at place in
          let is_one : r ≡ v = cc in
          ap (value_kind f) (sym is_one) ∙ tells j e ∙ ap (λ (u : Ty). Some (kind_of u)) (sym (own_type types j t within)) ∙ ap (λ (n : ℕ). Some (kind_of (type_at (slice_set types j t) n))) same

      other_place : (j ≡ at → ⊥) → value_kind f v ≡ Some (kind_of (type_at (slice_set types j t) at))
      other_place ne = ⊎_elim (λ same. absurd (apart same)) (λ seen. seen at place ∙ ap (λ (u : Ty). Some (kind_of u)) (sym (other_type types j at t ne))) h
        where
          apart : v ≡ r → ⊥
          apart same = let two : Some j ≡ Some at = sym e ∙ ap (entry k.places) (sym same) ∙ place in let is_one : j ≡ at = cc in ne is_one

  abbrev IsSeenOr : List ℕ → List Ty → ℕ → Type 0
  IsSeenOr names types v = IsListed v names ⊎ IsSeen types v

  param_long : (types : List Ty) (ps : List Param) → IsLong types → IsLong (with_param_types k.places types ps)
  param_long types [] h = h
  param_long types (p ∷ ps) h = param_long (with_type types (entry k.places p.name) p.ty) ps (type_long types (entry k.places p.name) p.ty h)

  params_seen : (types : List Ty) (ps : List Param) → IsLong types → Each (λ p. Tells f k p.name p.ty) ps → (v : ℕ) → IsSeenOr (map (λ p. p.name) ps) types v → IsSeen (with_param_types k.places types ps) v
  params_seen types [] long tells v (inl l) = absurd l
  params_seen types [] long tells v (inr seen) = seen
  params_seen types (p ∷ ps) long tells v h =
      let now : List Ty = with_type types (entry k.places p.name) p.ty in
      params_seen now ps (type_long types (entry k.places p.name) p.ty long) tells.1 v (⊎_elim here (λ seen. inr (step (inr seen))) h)
    where
      step : (v ≡ p.name) ⊎ IsSeen types v → IsSeen (with_type types (entry k.places p.name) p.ty) v
      step = seen_by types p.name p.ty (entry k.places p.name) refl long tells.0 v

      here : IsListed v (p.name ∷ map (λ p. p.name) ps) → IsSeenOr (map (λ p. p.name) ps) (with_type types (entry k.places p.name) p.ty) v
      here (inl e) = inr (step (inl e))
      here (inr l) = inl l

  phi_long : (types : List Ty) (ps : List Phi) → IsLong types → IsLong (with_phi_types k.places types ps)
  phi_long types [] h = h
  phi_long types (p ∷ ps) h = phi_long (with_type types (entry k.places p.result) p.ty) ps (type_long types (entry k.places p.result) p.ty h)

  phis_seen : (types : List Ty) (ps : List Phi) → IsLong types → Each (λ p. Tells f k p.result p.ty) ps → (v : ℕ) → IsSeenOr (phi_names ps) types v → IsSeen (with_phi_types k.places types ps) v
  phis_seen types [] long tells v (inl l) = absurd l
  phis_seen types [] long tells v (inr seen) = seen
  phis_seen types (p ∷ ps) long tells v h =
      let now : List Ty = with_type types (entry k.places p.result) p.ty in
      phis_seen now ps (type_long types (entry k.places p.result) p.ty long) tells.1 v (⊎_elim here (λ seen. inr (step (inr seen))) h)
    where
      step : (v ≡ p.result) ⊎ IsSeen types v → IsSeen (with_type types (entry k.places p.result) p.ty) v
      step = seen_by types p.result p.ty (entry k.places p.result) refl long tells.0 v

      here : IsListed v (p.result ∷ phi_names ps) → IsSeenOr (phi_names ps) (with_type types (entry k.places p.result) p.ty) v
      here (inl e) = inr (step (inl e))
      here (inr l) = inl l

  result_long : (types : List Ty) (o : Option ℕ) (i : Instr) → IsLong types → IsLong (with_result_type k.places types o i)
  result_long types None i h = h
  result_long types (Some r) i h = type_long types (entry k.places r) (result_type i) h

  results_long : (types : List Ty) (is : List Instr) → IsLong types → IsLong (with_result_types k.places types is)
  results_long types [] h = h
  results_long types (i ∷ is) h = results_long (with_result_type k.places types (result_of i) i) is (result_long types (result_of i) i h)

  result_seen : (types : List Ty) (i : Instr) (o : Option ℕ) → result_of i ≡ o → IsLong types → TellResult f k i → (v : ℕ) → IsSeenOr (option_to_list o) types v → IsSeen (with_result_type k.places types o i) v
  result_seen types i None e long tells v (inl l) = absurd l
  result_seen types i None e long tells v (inr seen) = seen
  result_seen types i (Some r) e long tells v (inl (inl same)) = seen_by types r (result_type i) (entry k.places r) refl long (tells r e) v (inl same)
  result_seen types i (Some r) e long tells v (inl (inr l)) = absurd l
  result_seen types i (Some r) e long tells v (inr seen) = seen_by types r (result_type i) (entry k.places r) refl long (tells r e) v (inr seen)

  results_seen : (types : List Ty) (is : List Instr) → IsLong types → Each (TellResult f k) is → (v : ℕ) → IsSeenOr (row_of made_by is) types v → IsSeen (with_result_types k.places types is) v
  results_seen types [] long tells v (inl l) = absurd l
  results_seen types [] long tells v (inr seen) = seen
  results_seen types (i ∷ is) long tells v h =
      let now : List Ty = with_result_type k.places types (result_of i) i in
      results_seen now is (result_long types (result_of i) i long) tells.1 v
      (⊎_elim
      (λ l. ⊎_elim (λ a. inr (step (inl a))) (λ b. inl b) (listed_either v (made_by i) (row_of made_by is) l))
      (λ seen. inr (step (inr seen))) h)
    where
      step : IsSeenOr (made_by i) types v → IsSeen (with_result_type k.places types (result_of i) i) v
      step = result_seen types i (result_of i) refl long tells.0 v

  blocks_seen : (types : List Ty) (bs : List Block) → IsLong types → Each (TellBlock f k) bs → (v : ℕ) → IsSeenOr (row_of made_names bs) types v → IsSeen (with_block_types k.places types bs) v
  blocks_seen types [] long tells v (inl l) = absurd l
  blocks_seen types [] long tells v (inr seen) = seen
  blocks_seen types (b ∷ bs) long tells v h =
      let now : List Ty = with_result_types k.places (with_phi_types k.places types b.phis) b.instrs in
      blocks_seen now bs (results_long (with_phi_types k.places types b.phis) b.instrs (phi_long types b.phis long)) tells.1 v
      (⊎_elim (λ l. ⊎_elim (λ a. inr (step (inl a))) (λ c. inl c) (listed_either v (made_names b) (row_of made_names bs) l)) (λ seen. inr (step (inr seen))) h)
    where
      behind_phis : IsSeenOr (phi_names b.phis) types v → IsSeen (with_phi_types k.places types b.phis) v
      behind_phis = phis_seen types b.phis long tells.0.0 v

      step : IsSeenOr (made_names b) types v → IsSeen (with_result_types k.places (with_phi_types k.places types b.phis) b.instrs) v
      step s =
          results_seen (with_phi_types k.places types b.phis) b.instrs (phi_long types b.phis long) tells.0.1 v
          (⊎_elim (λ l. ⊎_elim (λ a. inr (behind_phis (inl a))) (λ c. inl c) (listed_either v (phi_names b.phis) (row_of made_by b.instrs) l)) (λ seen. inr (behind_phis (inr seen))) s)

  blank_long : (n : ℕ) → length (replicate n ptr) ≡ n
  blank_long zero = refl
  blank_long (suc n) = ap suc (blank_long n)

  -- of a value that is defined, where each definition tells it
  pub types_seen : Each (λ p. Tells f k p.name p.ty) f.params → Each (TellBlock f k) f.blocks → (v : ℕ) → IsListed v (map (λ p. p.name) f.params) ⊎ IsListed v (row_of made_names f.blocks) → IsSeen (value_types f k) v
  types_seen params blocks v h =
      let first : List Ty = replicate (length k.values) ptr in
      let long : IsLong first = blank_long (length k.values) in
      let next : List Ty = with_param_types k.places first f.params in
      blocks_seen next f.blocks (param_long first f.params long) blocks v
      (⊎_elim (λ l. inr (params_seen first f.params long params v (inl l))) (λ l. inl l) h)
