-- What the frames of coroutines hold takes bytes.
use Rattle.std.proofs.Common.{◌≡◌, inl, inr, ⊎_elim, ℕ, zero, suc, ◌<◌, ◌≤◌, ◌-◌, ◌^◌, Bool, true, false, List, [], ◌∷◌, ◌++◌, Option, None, Some, refl, sym, ap, ◌∙◌, subst, arith}
use Rattle.std.specs.List.{list_all}
use Rattle.std.specs.Prelude.{map, min, option_to_list, slice_get, if◌then◌else◌, ◌==◌, ◌||◌, ◌&&◌}
use Rattle.compiler.proofs.fit.Fields.{either_at, index_takes}
use Rattle.pass_proofs.specs.flow_solver.Paths.{IsListed}
use Rattle.pass_proofs.specs.frame_contents.Frames.{AreContents}
use Rattle.pass_proofs.specs.frame_contents.Held.{crossing_values, field_of, fields_of, frame_slots, held_blocks, held_instrs, held_of, held_params, held_phis, if_result, if_value, index_field, result_size, slot_held, value_held, value_size}
use Rattle.pass_proofs.specs.frame_contents.declared.contents.Contents.{Contents}
use Rattle.pass_proofs.specs.frame_contents.declared.held.Holding.{Holding}
use Rattle.pass_proofs.specs.frame_crossing.Values.{all_defined, blocks_defined, is_apart, is_token, params_defined, values_of}
use Rattle.frame_layout.specs.declared.layout.Field.{Field}
use Rattle.ir_base.specs.declared.outcome.Place.{Place}
use Rattle.pass_proofs.proofs.ir_laws.facts.Lists.{FoundParam, FoundPhi}
use Rattle.pass_proofs.proofs.ir_laws.facts.Members.{at_each, each_behind, each_there}
use Rattle.pass_proofs.proofs.ir_laws.facts.Truth.{and_first, and_second, equal_numbers, holds}
use Rattle.pass_proofs.proofs.ir_laws.facts.names_apart.Words.{either as either_of}
use Rattle.pass_proofs.proofs.ir_laws.paths.counted.Keepable.{param_listed, phi_listed}
use Rattle.pass_proofs.proofs.ir_laws.paths.source_rules.Locals.{listed_either}
use Rattle.pass_proofs.specs.ir_laws.facts.counted.Widths.{has_width, is_width}
use Rattle.ir_model.specs.Layout.{bytes_of_width, size_of}
use Rattle.ir_model.specs.Ty.{Ty, array, int, named, ptr, structure, token}
use Rattle.ir_base.specs.declared.ops.CastOp.{CastOp}
use Rattle.ir_model.specs.declared.instr.Instr.{Instr}
use Rattle.ir_model.specs.declared.instr.Phi.{Phi}
use Rattle.ir_model.specs.declared.module.Block.{Block}
use Rattle.ir_model.specs.declared.module.Function.{Function}
use Rattle.ir_model.specs.declared.module.Module.{Module}
use Rattle.ir_model.specs.declared.module.Param.{Param}
use Rattle.ir_model.specs.declared.operand.Callee.{Callee}
use Rattle.pass_proofs.specs.ir_parts.Contents.{arg_types, instr_types, result_of}
use Rattle.pass_proofs.specs.ir_paths.Slots.{has_name, promise_of}
use Rattle.pass_proofs.specs.ir_paths.Windows.{instr_at, instr_in}
use Rattle.pass_proofs.proofs.pass_kept_proof.Read.{listed_by_name}
use Rattle.pass_proofs.proofs.kept.sources.Definite.{instr_fits}
use Rattle.pass_proofs.proofs.rule_laws.frames.begin_order.Sizes.{all_behind}
use Rattle.pass_proofs.proofs.rule_laws.frames.counted.Keepable.{FoundBlock, FoundInstr, blocks_found, distinct_listed, params_found}
use Rattle.pass_proofs.proofs.rule_laws.frames.crossing.Asking.{pairs_of_values}
use Rattle.pass_proofs.proofs.rule_laws.rules.counted.PartFacts.{block_passes, signature_passes}
use Rattle.pass_proofs.proofs.rule_laws.rules.renamed.Uses.{result_spelt}
use Rattle.pass_proofs.proofs.rule_laws.rules.source_rules.Locals.{no_param, no_phi, same_instr}
use Rattle.pass_proofs.proofs.rule_laws.rules.sources.Places.{point}
use Rattle.pass_proofs.specs.rule_laws.rules.counted.Widths.{first_other_width, is_of_other_width}
use Rattle.pass_proofs.specs.rule_laws.rules.function_rules.Kept.{KeepsFunctionRules}
use Rattle.pass_proofs.specs.rule_locals.Extents.{breaks_extents, is_aligned, is_sized}
use Rattle.pass_proofs.specs.rule_locals.Instrs.{on_instr}
use Rattle.pass_proofs.specs.rule_names.declared.stage.Stage.{Stage}
use Rattle.pass_proofs.specs.rule_types.Wants.{is_ptr}
use Rattle.pass_proofs.specs.rule_values.Fits.{fits, fits_arg, fits_scalar, is_integer, is_scalar}
use Rattle.pass_proofs.specs.rule_values.Instrs.{casts, fits_called, fits_instr, is_intrinsic, is_narrower, is_passed, passes}
use Rattle.pass_proofs.specs.rule_values.Kinds.{value_kind}
use Rattle.pass_proofs.specs.rule_values.Values.{breaks_values, fits_phi, has_scalar, is_scalar_or_void, takes}
use Rattle.pass_proofs.specs.rule_values.declared.kinds.Kind.{Kind}
use Rattle.pass_proofs.specs.run_laws.changed.Changed.{Each, result_of as changed_result}

-- ---- sizes

at_width : (w n : ℕ) → 0 < bytes_of_width n → (w == n) ≡ true → 0 < bytes_of_width w
at_width w n h e = subst (λ (x : ℕ). 0 < bytes_of_width x) (sym (equal_numbers w n e)) h

width_takes : (w : ℕ) → is_width w ≡ true → 0 < bytes_of_width w
width_takes w e =
    ⊎_elim (at_width w 1 (omega arith))
    (λ a. ⊎_elim (at_width w 8 (omega arith)) (λ b. ⊎_elim (at_width w 16 (omega arith))
    (λ c. ⊎_elim (at_width w 32 (omega arith)) (at_width w 64 (omega arith)) (either_of (w == 32) (w == 64) c))
    (either_of (w == 16) ((w == 32) || (w == 64)) b))
    (either_of (w == 8) ((w == 16) || ((w == 32) || (w == 64))) a))
    (either_of (w == 1) ((w == 8) || ((w == 16) || ((w == 32) || (w == 64)))) e)

-- an integer of a width that types are written with takes a byte at least, and so does an address
value_takes : (t : Ty) → is_scalar t ≡ true → has_width t ≡ true → 0 < value_size t
value_takes (int w) s e = width_takes w e
value_takes ptr s e = omega arith
value_takes token s e = absurd (cc)
value_takes (array n t) s e = absurd (cc)
value_takes (structure ts) s e = absurd (cc)
value_takes (named n) s e = absurd (cc)

-- a size stays some where it is cut off
cut_takes : (n : ℕ) → 1 ≤ n → 0 < min n (2 ^ 64 - 1)
cut_takes n some = omega (arith, some)

sized_some : (most n : ℕ) → is_sized most n ≡ true → 1 ≤ n
sized_some most zero e = absurd (cc)
sized_some most (suc n) e = omega arith

-- ---- types of results

narrower_both : (a b : Ty) → is_narrower a b ≡ true → (is_scalar a ≡ true) × (is_scalar b ≡ true)
narrower_both (int x) (int w) h = (refl, refl)
narrower_both _ _ h = absurd (cc)

cast_scalar : (op : CastOp) (from to : Ty) → casts op from to ≡ true → is_scalar to ≡ true
cast_scalar CastOp.Trunc from to h = (narrower_both to from h).0
cast_scalar CastOp.Zext from to h = (narrower_both from to h).1
cast_scalar CastOp.Sext from to h = (narrower_both from to h).1

and_none : (b : Bool) → (b && false) ≡ true → ⊥
and_none true e = absurd (cc)
and_none false e = absurd (cc)

-- a call gives what isn't set apart as an integer or an address
passed_scalar : (callee : Callee) (t : Ty) (rest : Bool) → is_passed callee t ≡ true
    → (is_token t || rest) ≡ false → is_scalar t ≡ true
passed_scalar callee (int w) rest e apart = refl
passed_scalar callee ptr rest e apart = refl
passed_scalar callee token rest e apart = absurd (cc)
passed_scalar callee (array n t) rest e apart = absurd (and_none (is_intrinsic callee) e)
passed_scalar callee (structure ts) rest e apart = absurd (and_none (is_intrinsic callee) e)
passed_scalar callee (named n) rest e apart = absurd (and_none (is_intrinsic callee) e)

-- ---- instructions

-- a slot has a size, and a result that is held takes bytes
abbrev IsTaking : Module → (ℕ → Bool) → Instr → Type 0
IsTaking m is_value (Instr.Alloca r ty align) = 1 ≤ size_of m ty
IsTaking m is_value i = (v : ℕ) → result_of i ≡ Some v → is_value v ≡ true → 0 < result_size i

module _ (m : Module) (kinds : ℕ → Option Kind) (is_value : ℕ → Bool) (p : Place) where
  taking : (i : Instr) → fits_instr m kinds i ≡ true → list_all has_width (instr_types i) ≡ true
      → breaks_extents Stage.Source m p i ≡ false
      → ((v : ℕ) → result_of i ≡ Some v → is_value v ≡ true → is_apart i ≡ false) → IsTaking m is_value i
  taking (Instr.Binary r op flags ty a b) f w e apart = λ v made is. value_takes ty
      (ap (λ (c : Bool). c || is_ptr ty)
      (and_first (is_integer ty) (fits kinds ty a && fits kinds ty b) f))
      (and_first (has_width ty) true w)
  taking (Instr.Icmp r pred ty a b) f w e apart = λ v made is. omega arith
  taking (Instr.Select r c a b) f w e apart = λ v made is. value_takes a.ty
      (and_first (is_scalar a.ty) (fits_arg kinds a) (and_first (fits_scalar kinds a) (fits_scalar kinds b)
      (and_second _ (fits_scalar kinds a && fits_scalar kinds b) (and_second (fits kinds (int 1) c) _ f))))
      (and_first (has_width a.ty) (list_all has_width (b.ty ∷ [])) w)
  taking (Instr.Cast r op nneg a to) f w e apart = λ v made is. value_takes to
      (cast_scalar op a.ty to (and_first (casts op a.ty to) (fits_arg kinds a) f))
      (and_first (has_width to) true (and_second (has_width a.ty) (list_all has_width (to ∷ [])) w))
  taking (Instr.Alloca r ty align) f w e apart = sized_some 1048576 (size_of m ty)
      (and_first (is_sized 1048576 (size_of m ty)) (is_aligned align) (holds _ e))
  taking (Instr.Load r ty x align) f w e apart = λ v made is. value_takes ty
      (and_first (is_scalar ty) (fits kinds ptr x) f) (and_first (has_width ty) true w)
  taking (Instr.Store a x align) f w e apart = λ v made is. absurd (cc)
  taking (Instr.Gep r inbounds ty x args) f w e apart = λ v made is. omega arith
  taking (Instr.Call None must_tail None callee args) f w e apart = λ v made is. absurd (cc)
  taking (Instr.Call (Some r) must_tail None callee args) f w e apart = λ v made is. absurd (cc)
  taking (Instr.Call r must_tail (Some ty) callee args) f w e apart = λ v made is. value_takes ty
      (passed_scalar callee ty _ (and_first (is_passed callee ty)
      (fits_called kinds callee args && list_all (passes kinds callee) args) f) (apart v made is))
      (and_first (has_width ty) (list_all has_width (arg_types args)) w)

-- ---- what is held

abbrev Takes : Holding → Type 0
Takes h = 0 < h.size

one_takes : (is_value : ℕ → Bool) (v size : ℕ) → (is_value v ≡ true → 0 < size) → Each Takes (if_value is_value v size)
one_takes is_value v size h = on (is_value v) refl
  where
    on : (c : Bool) → is_value v ≡ c → Each Takes (if c then value_held v size ∷ [] else [])
    on true e = (h e, tt)
    on false e = tt

result_takes : (is_value : ℕ → Bool) (o : Option ℕ) (size : ℕ)
    → ((v : ℕ) → o ≡ Some v → is_value v ≡ true → 0 < size) → Each Takes (if_result is_value o size)
result_takes is_value None size h = tt
result_takes is_value (Some v) size h = one_takes is_value v size (h v refl)

params_take : (is_value : ℕ → Bool) (ps : List Param) → list_all has_scalar ps ≡ true
    → list_all has_width (map (λ (p : Param). p.ty) ps) ≡ true → Each Takes (held_params is_value ps)
params_take is_value [] s w = tt
params_take is_value (p ∷ ps) s w =
    let rest : Bool = list_all has_width (map (λ (q : Param). q.ty) ps) in
    each_behind Takes (if_value is_value p.name (value_size p.ty)) (held_params is_value ps)
    (one_takes is_value p.name (value_size p.ty)
    (λ is. value_takes p.ty (and_first (has_scalar p) (list_all has_scalar ps) s) (and_first (has_width p.ty) rest w)))
    (params_take is_value ps (and_second (has_scalar p) (list_all has_scalar ps) s) (and_second (has_width p.ty) rest w))

abbrev IsTakingPhi : Phi → Type 0
IsTakingPhi p = 0 < value_size p.ty

phis_take : (is_value : ℕ → Bool) (ps : List Phi) → Each IsTakingPhi ps → Each Takes (held_phis is_value ps)
phis_take is_value [] h = tt
phis_take is_value (p ∷ ps) h =
    each_behind Takes (if_value is_value p.result (value_size p.ty)) (held_phis is_value ps)
    (one_takes is_value p.result (value_size p.ty) (λ is. h.0)) (phis_take is_value ps h.1)

module _ (m : Module) (promise : Option ℕ) (is_value is_slot : ℕ → Bool) where
  instrs_take : (is : List Instr) → Each (IsTaking m is_value) is
      → Each Takes (held_instrs m promise is_value is_slot is)
  instrs_take [] h = tt
  instrs_take (Instr.Alloca r ty align ∷ is) h =
      each_behind Takes (if is_slot r then slot_held m promise r ty align ∷ [] else [])
      (held_instrs m promise is_value is_slot is) (on (is_slot r)) (instrs_take is h.1)
    where
      on : (c : Bool) → Each Takes (if c then slot_held m promise r ty align ∷ [] else [])
      on true = (cut_takes (size_of m ty) h.0, tt)
      on false = tt
  instrs_take (i ∷ is) h =
      each_behind Takes (if_result is_value (result_of i) (result_size i)) (held_instrs m promise is_value is_slot is)
      (result_takes is_value (result_of i) (result_size i) h.0) (instrs_take is h.1)

  record IsTakingBlock (b : Block) : Type 0 where
    phis : Each IsTakingPhi b.phis
    instrs : Each (IsTaking m is_value) b.instrs

  blocks_take : (bs : List Block) → Each IsTakingBlock bs → Each Takes (held_blocks m promise is_value is_slot bs)
  blocks_take [] h = tt
  blocks_take (b ∷ bs) h =
      each_behind Takes (held_phis is_value b.phis ++ held_instrs m promise is_value is_slot b.instrs)
      (held_blocks m promise is_value is_slot bs)
      (each_behind Takes (held_phis is_value b.phis) (held_instrs m promise is_value is_slot b.instrs)
      (phis_take is_value b.phis h.0.phis) (instrs_take b.instrs h.0.instrs))
      (blocks_take bs h.1)

-- ---- what crosses isn't set apart

crossing_listed : (v : ℕ) (crossing : List (ℕ × ℕ)) → IsListed v (crossing_values crossing)
    → (p : ℕ × ℕ) × IsListed p crossing × (p.0 ≡ v)
crossing_listed v [] l = absurd l
crossing_listed v (p ∷ ps) (inl e) = (p, inl refl, sym e)
crossing_listed v (p ∷ ps) (inr l) = let x = crossing_listed v ps l in (x.0, inr x.1, x.2)

module _ (m : Module) (k : ℕ) (f : Function) (rules : KeepsFunctionRules m k f) where
  module _ (j : ℕ) (b : Block) (got : slice_get f.blocks j ≡ Some b) (at : ℕ) (i : Instr)
      (stands : slice_get b.instrs at ≡ Some i) (v : ℕ) (made : result_of i ≡ Some v) where
    there : instr_at f (point j at) ≡ Some i
    there = ap (λ (o : Option Block). instr_in o at) got ∙ stands

    here : changed_result i ≡ Some v
    here = sym (result_spelt i) ∙ made

    by_param : FoundParam f.params v → is_apart i ≡ false
    by_param x = absurd (no_param k f rules.definitions (point j at) i v there here
        (param_listed f.params x.at x.param v x.there x.same))

    by_phi : (q : ℕ) (c : Block) → slice_get f.blocks q ≡ Some c → FoundPhi c.phis v → is_apart i ≡ false
    by_phi q c e x = absurd (no_phi k f rules.definitions q c (point j at) i v e
        (phi_listed c.phis x.at x.phi v x.there x.same) there here)

    by_instr : (q : ℕ) (c : Block) → slice_get f.blocks q ≡ Some c → FoundInstr c.instrs v → is_apart i ≡ false
    by_instr q c e x =
        let other : instr_at f (point q x.at) ≡ Some x.instr = ap (λ (o : Option Block). instr_in o x.at) e ∙ x.there in
        let same : i ≡ x.instr = same_instr k f rules.definitions (point j at) (point q x.at) i x.instr v there other
        here (sym (result_spelt x.instr) ∙ x.makes) in
        ap is_apart same ∙ x.stays

    in_block : FoundBlock f.blocks v → is_apart i ≡ false
    in_block x = ⊎_elim (by_phi x.at x.block x.there) (by_instr x.at x.block x.there) x.part

    -- names are given once, so what gives a value isn't set apart
    value_stays : IsListed v (values_of f) → is_apart i ≡ false
    value_stays l = ⊎_elim (λ a. absurd a)
        (λ d. ⊎_elim (λ a. by_param (params_found f.params v a)) (λ r. in_block (blocks_found f.blocks v r))
        (listed_either v (params_defined f.params) (blocks_defined f.blocks) d))
        (distinct_listed [] (all_defined f) v l)

  -- ---- of a coroutine

  module _ (widths : first_other_width k f ≡ None) (c : Contents) (are : AreContents m f c) where
    abbrev is_value : ℕ → Bool
    is_value = has_name (crossing_values c.crossing)

    abbrev is_slot : ℕ → Bool
    is_slot = has_name (frame_slots f c.classes)

    is_listed : (v : ℕ) → is_value v ≡ true → IsListed v (values_of f)
    is_listed v h =
        let x = crossing_listed v c.crossing (listed_by_name (crossing_values c.crossing) v h) in
        subst (λ (n : ℕ). IsListed n (values_of f)) x.2
        (pairs_of_values f (values_of f) c.crossing are.crossing_are x.0 x.1)

    of_block : (j : ℕ) (b : Block) → slice_get f.blocks j ≡ Some b
        → IsTakingBlock m (promise_of f) is_value is_slot b
    of_block j b got =
        let wide = block_passes is_of_other_width k f widths j b got in
        let typed = block_passes (breaks_values m (value_kind f) f.result) k f rules.local.values j b got in
        let sized = block_passes (on_instr (breaks_extents Stage.Source m)) k f rules.local.extents j b got in
        record {
          phis = each_there IsTakingPhi b.phis (λ at p e.
              let x = at_each _ b.phis at p wide.phis e in
              let y = at_each _ b.phis at p typed.phis e in
              value_takes p.ty
              (and_first (is_scalar p.ty) (list_all (takes (value_kind f) p.ty) p.incoming)
              (holds (fits_phi (value_kind f) p.ty p.incoming) y.2))
              (and_first (has_width p.ty) true (holds (list_all has_width (p.ty ∷ [])) x.2)));
          instrs = each_there (IsTaking m is_value) b.instrs (λ at i e.
              let x = at_each _ b.instrs at i wide.instrs e in
              let z = at_each _ b.instrs at i sized.instrs e in
              taking m (value_kind f) is_value z.0 i (instr_fits m k f rules j b got at i e)
              (holds (list_all has_width (instr_types i)) x.2) z.2
              (λ v made is. value_stays j b got at i e v made (is_listed v is)));
        }

    held_take : Each Takes (held_of m f c.classes c.crossing)
    held_take =
        let typed = signature_passes (breaks_values m (value_kind f) f.result) k f rules.local.values in
        let wide = signature_passes is_of_other_width k f widths in
        each_behind Takes (held_params is_value f.params) (held_blocks m (promise_of f) is_value is_slot f.blocks)
        (params_take is_value f.params
        (and_second (is_scalar_or_void f.result) (list_all has_scalar f.params)
        (holds (is_scalar_or_void f.result && list_all has_scalar f.params) typed.1))
        (all_behind (option_to_list f.result) (map (λ (p : Param). p.ty) f.params)
        (holds (list_all has_width (option_to_list f.result ++ map (λ (p : Param). p.ty) f.params)) wide.1)))
        (blocks_take m (promise_of f) is_value is_slot f.blocks
        (each_there (IsTakingBlock m (promise_of f) is_value is_slot) f.blocks of_block))

    -- each field of its frame takes a byte at least
    pub fields_take : (n : ℕ) (x : Field) → slice_get (fields_of f c.held) n ≡ Some x → 0 < x.size
    fields_take n x e = ⊎_elim
        (λ (h : (y : Holding) × (slice_get c.held n ≡ Some y) × (field_of f y ≡ x)).
        subst (λ (z : Field). 0 < z.size) h.2
        (at_each Takes c.held n h.0 (subst (Each Takes) (sym are.held_are) held_take) h.1))
        (λ h. subst (λ (z : Field). 0 < z.size) h.1 (index_takes f))
        (either_at (field_of f) (index_field f) c.held n x e)
