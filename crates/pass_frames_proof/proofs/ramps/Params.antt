-- Parameters have names of their own. None is that of an alloca or of a getelementptr, so no distance is kept of one.
use Rattle.std.proofs.Common.{◌≡◌, ◌<◌, ◌++◌, ◌∙◌, ◌∷◌, [], Bool, List, None, Option, Some, ap, inl, inr, length, refl, replicate, subst, suc, sym, zero, ℕ, ⊎_elim}
use Rattle.std.specs.Prelude.{flat_map, map}
use Rattle.pass_frames_steps.specs.flow_solver.Paths.{IsListed}
use Rattle.pass_frames_steps.proofs.ir_laws.facts.Lists.{phi_names, row_of, set_other}
use Rattle.pass_frames_steps.proofs.ir_laws.paths.source_rules.Locals.{Apart, listed_either, listed_left, listed_right}
use Rattle.pass_frames_steps.specs.ir_laws.paths.woven_rules.Pairs.{AreDifferent}
use Rattle.pass_frames_steps.specs.ir_model.declared.instr.Instr.{Instr}
use Rattle.pass_frames_steps.specs.ir_model.declared.module.Block.{Block}
use Rattle.pass_frames_steps.specs.ir_model.declared.module.Function.{Function}
use Rattle.pass_frames_steps.specs.ir_model.declared.module.Param.{Param}
use Rattle.pass_frames_steps.specs.ir_model.declared.operand.Operand.{Operand}
use Rattle.pass_frames_steps.specs.ir_parts.Locals.{locals_of}
use Rattle.pass_frames_steps.specs.ir_paths.Slots.{allocas_in, allocas_of}
use Rattle.pass_frames_steps.specs.pass_cells.Kept.{entry, joined}
use Rattle.pass_frames_steps.specs.pass_cells.Links.{bases_of, further, jumped, roots_after, roots_of, slot_by, slots_of, with_base, with_bases_by, with_bases_in}
use Rattle.pass_frames_steps.proofs.code.Names.{local}
use Rattle.pass_frames_proof.proofs.ramps.Values.{IsUnaddressed, name_listed, names_of}
use Rattle.pass_frames_steps.proofs.stepping.After.{has_root}
use Rattle.pass_frames_steps.specs.Framings.{IsFraming}
use Rattle.pass_frames_steps.specs.Lines.{IsNoRoot}
use Rattle.pass_frames_steps.specs.Places.{Framing, edged, plan}
use Rattle.pass_frames_steps.specs.Related.{root_of}
use Rattle.pass_frames_steps.specs.Stores.{given_params}
use Rattle.pass_frames_steps.proofs.pass_proofs.cells.rules.Labels.{untold}
use Rattle.pass_frames_steps.proofs.pass_proofs.cells.rules.Links.{slot_flagged}
use Rattle.pass_frames_steps.proofs.rule_laws.rules.front_rules.Names.{once_at}
use Rattle.pass_frames_steps.proofs.rule_laws.rules.local_rules.Names.{numbers}
use Rattle.pass_frames_steps.proofs.rule_laws.rules.source_rules.Locals.{block_names, made_by}
use Rattle.pass_frames_steps.proofs.rule_laws.rules.woven_rules.Once.{names_below, once_apart}
use Rattle.pass_frames_steps.specs.rule_laws.rules.source_rules.Named.{HasTabledLocals}
use Rattle.pass_frames_steps.specs.rule_names.Definitions.{first_twice}
use Rattle.pass_frames_steps.specs.run_laws.changed.Changed.{Each}
use Rattle.pass_frames_steps.specs.run_memory.declared.pointer.Value.{Value}

-- ---- names of their own

module _ (k : ℕ) (f : Function) where
  abbrev rest : List ℕ
  rest = row_of block_names f.blocks

  different_names : (ps : List Param) → Apart (names_of ps ++ rest) → AreDifferent (names_of ps)
  different_names [] h = tt
  different_names (p ∷ ps) h = (λ l. h.0 (listed_left p.name (names_of ps) rest l), different_names ps h.1)

  pub params_once : first_twice [] (locals_of k f) ≡ None → AreDifferent (names_of f.params)
  params_once once = different_names f.params (once_apart (numbers f) (once_at k f once))

  low_params : HasTabledLocals k f → (ps : List Param) → ((p : Param) → IsListed p ps → IsListed p f.params)
      → Each (λ (p : Param). p.name < length f.names) ps
  low_params tabled [] inside = tt
  low_params tabled (p ∷ ps) inside = (
    names_below k f tabled p.name
        (listed_left p.name (names_of f.params) rest (name_listed f.params p (inside p (inl refl)))),
    low_params tabled ps (λ q l. inside q (inr l)),
  )

  pub params_low : HasTabledLocals k f → Each (λ (p : Param). p.name < length f.names) f.params
  params_low tabled = low_params tabled f.params (λ p l. l)

  -- no block makes a parameter's name
  not_in_both : (xs ys : List ℕ) (n : ℕ) → Apart (xs ++ ys) → IsListed n xs → IsListed n ys → ⊥
  not_in_both [] ys n h a b = absurd a
  not_in_both (x ∷ xs) ys n h (inl e) b = h.0 (listed_right x xs ys (subst (λ (q : ℕ). IsListed q ys) e b))
  not_in_both (x ∷ xs) ys n h (inr a) b = not_in_both xs ys n h.1 a b

  pub param_unmade : first_twice [] (locals_of k f) ≡ None → (p : Param) → IsListed p f.params
      → IsListed p.name (row_of block_names f.blocks) → ⊥
  param_unmade once p l made =
      not_in_both (names_of f.params) rest p.name (once_apart (numbers f) (once_at k f once))
      (name_listed f.params p l) made

-- ---- what makes a name

made_in : (is : List Instr) (v : ℕ) → IsListed v (allocas_in is) → IsListed v (row_of made_by is)
made_in [] v l = absurd l
made_in (Instr.Alloca name ty align ∷ is) v (inl e) = inl e
made_in (Instr.Alloca name ty align ∷ is) v (inr l) = inr (made_in is v l)
made_in (i ∷ is) v l = listed_right v (made_by i) (row_of made_by is) (made_in is v l)

allocas_made : (bs : List Block) (v : ℕ) → IsListed v (flat_map (λ (b : Block). allocas_in b.instrs) bs)
    → IsListed v (row_of block_names bs)
allocas_made [] v l = absurd l
allocas_made (b ∷ bs) v l =
    ⊎_elim
    (λ here. listed_left v (block_names b) (row_of block_names bs)
    (inr (listed_right v (phi_names b.phis) (row_of made_by b.instrs) (made_in b.instrs v here))))
    (λ more. listed_right v (block_names b) (row_of block_names bs) (allocas_made bs v more))
    (listed_either v (allocas_in b.instrs) (flat_map (λ (c : Block). allocas_in c.instrs) bs) l)

-- ---- no base is told of a name that no getelementptr makes

one_base : (t : List (Option ℕ)) (i : Instr) (v : ℕ) → (IsListed v (made_by i) → ⊥)
    → entry (with_base t i) v ≡ entry t v
one_base t (Instr.Gep r inbounds ty (Operand.Local b) indices) v none =
    ap joined (set_other t r v (Some b) (λ e. none (inl (sym e))))
one_base t _ v none = refl

bases_in : (t : List (Option ℕ)) (is : List Instr) (v : ℕ) → (IsListed v (row_of made_by is) → ⊥)
    → entry (with_bases_in t is) v ≡ entry t v
bases_in t [] v none = refl
bases_in t (i ∷ is) v none =
    bases_in (with_base t i) is v (λ l. none (listed_right v (made_by i) (row_of made_by is) l))
    ∙ one_base t i v (λ l. none (listed_left v (made_by i) (row_of made_by is) l))

bases_by : (t : List (Option ℕ)) (bs : List Block) (v : ℕ) → (IsListed v (row_of block_names bs) → ⊥)
    → entry (with_bases_by t bs) v ≡ entry t v
bases_by t [] v none = refl
bases_by t (b ∷ bs) v none =
    bases_by (with_bases_in t b.instrs) bs v
    (λ l. none (listed_right v (block_names b) (row_of block_names bs) l))
    ∙ bases_in t b.instrs v
    (λ l. none (listed_left v (block_names b) (row_of block_names bs)
    (inr (listed_right v (phi_names b.phis) (row_of made_by b.instrs) l))))

-- ---- nor a root, then

one_mapped : (f : Option ℕ → Option ℕ) → f None ≡ None → (t : List (Option ℕ)) (v : ℕ) → entry t v ≡ None
    → entry (map f t) v ≡ None
one_mapped f none [] v e = refl
one_mapped f none (o ∷ t) zero e = ap f e ∙ none
one_mapped f none (o ∷ t) (suc v) e = one_mapped f none t v e

no_roots : (n : ℕ) (t : List (Option ℕ)) (v : ℕ) → entry t v ≡ None → entry (roots_after n t) v ≡ None
unfolding roots_after
no_roots zero t v e = e
no_roots (suc n) t v e = no_roots n (jumped t) v (one_mapped (further t) refl t v e)

no_slot : (flags : List Bool) (t : List (Option ℕ)) (v : ℕ) → entry t v ≡ None → entry (slots_of flags t) v ≡ None
unfolding roots_of
no_slot flags t v e = one_mapped (slot_by flags) refl (roots_of t) v (no_roots 64 t v e)

-- ---- in a coroutine whose frame may be built

module _ (x : Framing) (is : IsFraming x) (p : Param) (l : IsListed p (edged x).params) where
  unmade : IsListed p.name (row_of block_names (edged x).blocks) → ⊥
  unmade = param_unmade is.position (edged x) is.frameable.rules.definitions p l

  param_no_root : IsNoRoot x p.name
  param_no_root u slot root same =
      unmade (allocas_made (edged x).blocks p.name
      (subst (λ (v : ℕ). IsListed v (allocas_of (edged x))) same
      (is.frameable.cells.slots slot (slot_flagged (local x is) (bases_of (edged x)) u slot root))))

  no_base : entry (bases_of (edged x)) p.name ≡ None
  no_base =
      bases_by (replicate (length (edged x).names) None) (edged x).blocks p.name unmade
      ∙ untold (length (edged x).names) p.name

  param_no_distance : entry (plan x).cells p.name ≡ None
  param_no_distance = on (entry (plan x).cells p.name) refl
    where
      on : (o : Option ℕ) → entry (plan x).cells p.name ≡ o → entry (plan x).cells p.name ≡ None
      on None e = e
      on (Some c) e =
          let root = has_root x is p.name c e in
          let none : root_of x p.name ≡ None = no_slot (local x is) (bases_of (edged x)) p.name no_base in
          let no : Some root.0 ≡ None = sym root.1 ∙ none in
          absurd (cc)

module _ (x : Framing) (is : IsFraming x) where
  all_unaddressed : (ps : List Param) (vs : List Value)
      → ((p : Param) → IsListed p ps → IsListed p (edged x).params) → Each (IsUnaddressed x) (given_params ps vs)
  all_unaddressed [] vs inside = tt
  all_unaddressed (p ∷ ps) [] inside = tt
  all_unaddressed (p ∷ ps) (v ∷ vs) inside = (
    record {
      no_root = param_no_root x is p (inside p (inl refl));
      no_distance = param_no_distance x is p (inside p (inl refl));
    },
    all_unaddressed ps vs (λ q l. inside q (inr l)),
  )

  pub are_unaddressed : (vs : List Value) → Each (IsUnaddressed x) (given_params (edged x).params vs)
  are_unaddressed vs = all_unaddressed (edged x).params vs (λ p l. l)
