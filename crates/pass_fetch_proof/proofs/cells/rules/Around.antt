-- What is put in around instructions and at the fronts of blocks: values on their way between cells and fields.
use Rattle.std.proofs.Common.{◌≡◌, inl, inr, ℕ, ◌+◌, ◌≤◌, true, List, [], ◌∷◌, refl, sym, ap, ◌∙◌, subst, arith}
use Rattle.std.specs.Prelude.{Option, Some, None, is_some, map, option_to_list, slice_get}
use Rattle.pass_fetch_proof.proofs.cells.rules.Fetched.{AreAtHand, still_at_hand}
use Rattle.pass_edges_proof.proofs.rule_laws.rules.counted.Lists.{AreAmong, among_behind, made_grows}
use Rattle.pass_fetch_proof.proofs.cells.rules.Planned.{HasPlace, IsKeptWell, IsPlanned}
use Rattle.pass_edges_proof.proofs.rule_laws.rules.counted.Planned.{IsSlot}
use Rattle.pass_edges_proof.proofs.rule_laws.rules.counted.Puts.{ArePut, known_grows, puts_joined}
use Rattle.pass_fetch_proof.proofs.cells.rules.Single.{IsSound, IsTold, address_put, cell_kind, load_kind, load_put, new_kind, old_kind, own_kind, store_put}
use Rattle.pass_edges_proof.specs.rule_uses.Undefined.{params_of}
use Rattle.pass_edges_proof.specs.rule_uses.Uses.{made_by_instrs}
use Rattle.pass_edges_proof.proofs.ir_laws.facts.Members.{each_left, each_right}
use Rattle.pass_edges_proof.specs.flow_solver.Paths.{IsListed}
use Rattle.ir_model.specs.Ty.{Ty, ptr}
use Rattle.ir_model.specs.declared.instr.Instr.{Instr}
use Rattle.ir_model.specs.declared.instr.Phi.{Phi}
use Rattle.ir_model.specs.declared.module.Function.{Function}
use Rattle.ir_model.specs.declared.module.Module.{Module}
use Rattle.ir_model.specs.declared.module.Param.{Param}
use Rattle.ir_model.specs.declared.operand.Operand.{Operand}
use Rattle.pass_edges_proof.specs.run_laws.changed.Changed.{Each}
use Rattle.pass_edges_proof.specs.pass_cells.Kept.{entry}
use Rattle.pass_edges_proof.specs.pass_cells.Moves.{address_again, after_again, after_saved, again_one, again_values, saved_one, saved_values}
use Rattle.pass_edges_proof.specs.pass_cells.Written.{stored, stored_at, stored_one, stored_params, stored_phis, stored_result}
use Rattle.pass_edges_proof.specs.pass_cells.declared.plan.KeptValue.{KeptValue}
use Rattle.pass_edges_proof.specs.pass_cells.declared.plan.Plan.{Plan}
use Rattle.pass_edges_proof.specs.rule_values.Kinds.{kind_of, value_kind}
use Rattle.pass_edges_proof.specs.rule_values.declared.kinds.Kind.{Kind}
use Rattle.pass_edges_proof.specs.rule_laws.rules.woven_rules.Weaving.{IsKnown, New, Old, Weaving}

pub saved_low : (first n : ℕ) (ks : List ℕ) → first ≤ n → first ≤ after_saved n ks
saved_low first n [] low = low
saved_low first n (k ∷ ks) low = saved_low first (n + 1) ks (omega (arith, low))

pub again_low : (first n : ℕ) (ks : List ℕ) → first ≤ n → first ≤ after_again n ks
again_low first n [] low = low
again_low first n (k ∷ ks) low = again_low first (n + 2) ks (omega (arith, low))

-- a value with a kind is one
pub has_kind : (f : Function) (v : ℕ) (kind : Kind) → value_kind f v ≡ Some kind → is_some (value_kind f v) ≡ true
has_kind f v kind e = ap (λ (o : Option Kind). is_some o) e

module _ (w : Weaving) (m : Module) (f : Function) (p : Plan) (block : ℕ) (ok : IsSound w f) (planned : IsPlanned w f p) where
  kept_well : (k : ℕ) (x : KeptValue) → slice_get p.kept k ≡ Some x → IsKeptWell w f x
  kept_well = planned.kept

  -- ---- from a cell to a field

  saved_one_put : (made : List ℕ) (n : ℕ) (x : KeptValue) → IsKeptWell w f x → AreAtHand w f block made → w.first ≤ n → Each (IsTold w) (saved_one n (Some x)) → ArePut w m f block made (saved_one n (Some x))
  saved_one_put made n x well hand low told = (
    load_put w m f block made n x.field_ty x.field_cell well.field_ty (hand x.field_cell well.field_cell) (cell_kind w f ok x.field_cell well.field_cell) low told.0,
    (
      store_put w m f block (n ∷ made) x.field_ty n x.field well.field_ty
          (New n low (inl refl)) (new_kind w f ok n (kind_of x.field_ty) low (load_kind w f ok n x.field_ty x.field_cell low told.0))
          (known_grows w m f block made (n ∷ made) (among_behind (n ∷ []) made) (Operand.Local x.field) (hand x.field well.field)) (cell_kind w f ok x.field well.field),
      tt,
    ),
  )

  saved_any_put : (made : List ℕ) (n : ℕ) (o : Option KeptValue) → ((x : KeptValue) → o ≡ Some x → IsKeptWell w f x) → AreAtHand w f block made → w.first ≤ n → Each (IsTold w) (saved_one n o) → ArePut w m f block made (saved_one n o)
  saved_any_put made n None well hand low told = tt
  saved_any_put made n (Some x) well hand low told = saved_one_put made n x (well x refl) hand low told

  pub saved_put : (made : List ℕ) (n : ℕ) (ks : List ℕ) → AreAtHand w f block made → w.first ≤ n → Each (IsTold w) (saved_values p.kept n ks) → ArePut w m f block made (saved_values p.kept n ks)
  saved_put made n [] hand low told = tt
  saved_put made n (k ∷ ks) hand low told =
      let here : List Instr = saved_one n (slice_get p.kept k) in
      let rest : List Instr = saved_values p.kept (n + 1) ks in
      puts_joined w m f block made here rest
      (saved_any_put made n (slice_get p.kept k) (kept_well k) hand low (each_left (IsTold w) here rest told))
      (saved_put (made_by_instrs made here) (n + 1) ks (still_at_hand w m f block made (made_by_instrs made here) (made_grows here made) hand) (omega (arith, low)) (each_right (IsTold w) here rest told))

  -- ---- from a field to a cell

  address_again_put : (made : List ℕ) (n cell : ℕ) (t : Ty) (o : Option ℕ) → (block ≡ 0 → ⊥) → ((s : ℕ) → o ≡ Some s → IsSlot f t s) → IsListed cell w.fronts → AreAtHand w f block made → w.first ≤ n → IsListed n made → w.kinds n ≡ Some (kind_of t) → Each (IsTold w) (address_again n cell o) → ArePut w m f block made (address_again n cell o)
  address_again_put made n cell t None other slot among hand low listed kind told = tt
  address_again_put made n cell t (Some s) other slot among hand low listed kind told =
      let is_slot : IsSlot f t s = slot s refl in
      let next : w.first ≤ n + 1 = omega (arith, low) in
      let new = told.0 (n + 1) refl next in
      let number : w.kinds n ≡ Some (Kind.Int 64) = kind ∙ ap (λ (u : Ty). Some (kind_of u)) is_slot.wide in (
        address_put w m f block made (n + 1) s n
            (Old s (ok.goes s) (has_kind f s Kind.Ptr is_slot.kind) (λ r a b. is_slot.made block other r)) (old_kind w f ok s Kind.Ptr is_slot.kind)
            (New n low listed) (new_kind w f ok n (Kind.Int 64) low number) next told.0,
        (
          store_put w m f block ((n + 1) ∷ made) ptr (n + 1) cell refl (New (n + 1) next (inl refl))
              (new_kind w f ok (n + 1) Kind.Ptr next (sym new.kind ∙ own_kind w f ok (n + 1) Kind.Ptr))
              (known_grows w m f block made ((n + 1) ∷ made) (among_behind ((n + 1) ∷ []) made) (Operand.Local cell) (hand cell among)) (cell_kind w f ok cell among),
          tt,
        ),
      )

  again_one_put : (made : List ℕ) (n : ℕ) (x : KeptValue) → (block ≡ 0 → ⊥) → IsKeptWell w f x → AreAtHand w f block made → w.first ≤ n → Each (IsTold w) (again_one n (Some x)) → ArePut w m f block made (again_one n (Some x))
  again_one_put made n x other well hand low told =
      let kind : w.kinds n ≡ Some (kind_of x.field_ty) = load_kind w f ok n x.field_ty x.field low told.0 in
      let grown : AreAtHand w f block (n ∷ made) = still_at_hand w m f block made (n ∷ made) (among_behind (n ∷ []) made) hand in (
        load_put w m f block made n x.field_ty x.field well.field_ty (hand x.field well.field) (cell_kind w f ok x.field well.field) low told.0,
        (
          store_put w m f block (n ∷ made) x.field_ty n x.field_cell well.field_ty
              (New n low (inl refl)) (new_kind w f ok n (kind_of x.field_ty) low kind)
              (grown x.field_cell well.field_cell) (cell_kind w f ok x.field_cell well.field_cell),
          address_again_put (n ∷ made) n x.cell x.field_ty x.slot other well.slot well.cell grown low (inl refl) kind told.1.1,
        ),
      )

  again_any_put : (made : List ℕ) (n : ℕ) (o : Option KeptValue) → (block ≡ 0 → ⊥) → ((x : KeptValue) → o ≡ Some x → IsKeptWell w f x) → AreAtHand w f block made → w.first ≤ n → Each (IsTold w) (again_one n o) → ArePut w m f block made (again_one n o)
  again_any_put made n None other well hand low told = tt
  again_any_put made n (Some x) other well hand low told = again_one_put made n x other (well x refl) hand low told

  pub again_put : (made : List ℕ) (n : ℕ) (ks : List ℕ) → (block ≡ 0 → ⊥) → AreAtHand w f block made → w.first ≤ n → Each (IsTold w) (again_values p.kept n ks) → ArePut w m f block made (again_values p.kept n ks)
  again_put made n [] other hand low told = tt
  again_put made n (k ∷ ks) other hand low told =
      let here : List Instr = again_one n (slice_get p.kept k) in
      let rest : List Instr = again_values p.kept (n + 2) ks in
      puts_joined w m f block made here rest
      (again_any_put made n (slice_get p.kept k) other (kept_well k) hand low (each_left (IsTold w) here rest told))
      (again_put (made_by_instrs made here) (n + 2) ks other (still_at_hand w m f block made (made_by_instrs made here) (made_grows here made) hand) (omega (arith, low)) (each_right (IsTold w) here rest told))

  -- ---- a value behind its definition

  stored_one_put : (made : List ℕ) (v k : ℕ) → HasPlace w f p v k → (is_some (value_kind f v) ≡ true → IsKnown w f block made (Operand.Local v)) → AreAtHand w f block made → ArePut w m f block made (stored_one v (slice_get p.kept k))
  stored_one_put made v k h known hand =
      let well = planned.kept k h.value h.there in
      subst (λ (o : Option KeptValue). ArePut w m f block made (stored_one v o)) (sym h.there) (
        store_put w m f block made h.value.ty v h.value.cell well.ty (known (has_kind f v (kind_of h.value.ty) h.kind)) (old_kind w f ok v (kind_of h.value.ty) h.kind)
            (hand h.value.cell well.cell) (cell_kind w f ok h.value.cell well.cell),
        tt,
      )

  stored_at_put : (made : List ℕ) (v : ℕ) (o : Option ℕ) → entry p.places v ≡ o → (is_some (value_kind f v) ≡ true → IsKnown w f block made (Operand.Local v)) → AreAtHand w f block made → ArePut w m f block made (stored_at p.kept v o)
  stored_at_put made v None e known hand = tt
  stored_at_put made v (Some k) e known hand = stored_one_put made v k (planned.places v k e) known hand

  pub stored_put : (made : List ℕ) (v : ℕ) → (is_some (value_kind f v) ≡ true → IsKnown w f block made (Operand.Local v)) → AreAtHand w f block made → ArePut w m f block made (stored p v)
  stored_put made v known hand = stored_at_put made v (entry p.places v) refl known hand

  -- what is made already is known
  made_known : (made : List ℕ) (v : ℕ) → IsListed v made → is_some (value_kind f v) ≡ true → IsKnown w f block made (Operand.Local v)
  made_known made v h is = Old v (ok.goes v) is (λ r a b. a h)

  pub stored_result_put : (made : List ℕ) (o : Option ℕ) → AreAtHand w f block made → AreAmong (option_to_list o) made → ArePut w m f block made (stored_result p o)
  stored_result_put made None hand among = tt
  stored_result_put made (Some v) hand among = stored_put made v (made_known made v (among v (inl refl))) hand

  pub stored_phis_put : (made : List ℕ) (ps : List Phi) → AreAtHand w f block made → AreAmong (map (λ x. x.result) ps) made → ArePut w m f block made (stored_phis p ps)
  stored_phis_put made [] hand among = tt
  stored_phis_put made (x ∷ xs) hand among =
      let here : List Instr = stored p x.result in
      let now : List ℕ = made_by_instrs made here in
      puts_joined w m f block made here (stored_phis p xs)
      (stored_put made x.result (made_known made x.result (among x.result (inl refl))) hand)
      (stored_phis_put now xs (still_at_hand w m f block made now (made_grows here made) hand) (λ n l. made_grows here made n (among n (inr l))))

  pub stored_params_put : (made : List ℕ) (ps : List Param) → AreAtHand w f block made → AreAmong (map (λ x. x.name) ps) (params_of f) → ArePut w m f block made (stored_params p ps)
  stored_params_put made [] hand among = tt
  stored_params_put made (x ∷ xs) hand among =
      let here : List Instr = stored p x.name in
      let now : List ℕ = made_by_instrs made here in
      puts_joined w m f block made here (stored_params p xs)
      (stored_put made x.name (λ is. Old x.name (ok.goes x.name) is (λ r a b. b (among x.name (inl refl)))) hand)
      (stored_params_put now xs (still_at_hand w m f block made now (made_grows here made) hand) (λ n l. among n (inr l)))
