-- In the entry block what an instruction uses is given before it: so is the alloca of a slot that it uses.
use Rattle.std.proofs.Common.{◌≡◌, ◌⊎◌, inl, inr, ⊎_elim, ℕ, zero, suc, ◌<◌, List, [], ◌∷◌, ◌++◌, Option, Some, None, refl, sym, ap, ◌∙◌, subst, arith}
use Rattle.std.specs.Prelude.{option_to_list, slice_get, unwrap_or}
use Rattle.pass_frames_proof.specs.flow_solver.Paths.{IsListed}
use Rattle.pass_frames_proof.proofs.ir_laws.facts.Lists.{phi_names}
use Rattle.pass_frames_proof.proofs.ir_laws.paths.crossing.Spots.{listed_or}
use Rattle.pass_frames_proof.proofs.ir_laws.paths.source_rules.Locals.{listed_either}
use Rattle.pass_frames_proof.specs.ir_model.Ty.{Ty}
use Rattle.pass_frames_proof.specs.ir_model.declared.instr.Instr.{Instr}
use Rattle.pass_frames_proof.specs.ir_model.declared.instr.Phi.{Phi}
use Rattle.pass_frames_proof.specs.ir_model.declared.module.Block.{Block}
use Rattle.pass_frames_proof.specs.ir_model.declared.module.Function.{Function}
use Rattle.pass_frames_proof.specs.ir_parts.Contents.{instr_operands, result_of}
use Rattle.pass_frames_proof.specs.ir_paths.Windows.{instr_at, instr_in}
use Rattle.pass_frames_proof.specs.ir_paths.declared.point.Point.{Point}
use Rattle.pass_frames_meaning.proofs.others.Names.{point_there}
use Rattle.pass_frames_proof.specs.Framings.{IsFraming}
use Rattle.pass_frames_proof.specs.Passes.{no_block}
use Rattle.pass_frames_proof.specs.Places.{Framing, edged, instrs_at}
use Rattle.pass_frames_proof.proofs.rule_laws.rules.counted.PartFacts.{AllMadeBefore, block_made}
use Rattle.pass_frames_proof.proofs.rule_laws.rules.source_rules.Locals.{no_param, no_phi, same_result}
use Rattle.pass_frames_proof.specs.rule_laws.rules.function_rules.Kept.{KeepsFunctionRules}
use Rattle.pass_frames_proof.specs.rule_uses.Undefined.{Entry, params_of}
use Rattle.pass_frames_proof.specs.rule_uses.Uses.{locals_in, made_by_phis, phi_values}

-- what phis make are their names
phis_make : (before : List ℕ) (ps : List Phi) (v : ℕ) → IsListed v (made_by_phis before ps)
    → IsListed v before ⊎ IsListed v (phi_names ps)
phis_make before [] v l = inl l
phis_make before (p ∷ ps) v l = ⊎_elim
    (λ h. first h)
    (λ h. inr (inr h))
    (phis_make (p.result ∷ before) ps v l)
  where
    first : IsListed v (p.result ∷ before) → IsListed v before ⊎ IsListed v (phi_names (p ∷ ps))
    first (inl e) = inr (inl e)
    first (inr h) = inl h

-- an instruction before a position gives the name
pub record IsGivenBefore (is : List Instr) (v at : ℕ) : Type 0 where
  position : ℕ
  instr : Instr
  there : slice_get is position ≡ Some instr
  gives : result_of instr ≡ Some v
  before : position < at

given_first : (o : Option ℕ) (v : ℕ) → IsListed v (option_to_list o) → o ≡ Some v
given_first None v l = absurd l
given_first (Some u) v (inl e) = ap Some (sym e)
given_first (Some u) v (inr l) = absurd l

module _ (f : Function) (v : ℕ) (none : IsListed v (params_of f) → ⊥) where
  given_before : (before : List ℕ) (is : List Instr) → AllMadeBefore f 0 before is → (at : ℕ) (i : Instr)
      → slice_get is at ≡ Some i → IsListed v (locals_in (instr_operands i))
      → IsListed v before ⊎ IsGivenBefore is v at
  given_before before [] h at i e l = absurd (cc)
  given_before before (y ∷ is) h zero i e l =
      let same : y ≡ i = cc in
      ⊎_elim (λ old. inl old)
      (λ new. absurd (h.0 v (subst (λ (z : Instr). IsListed v (locals_in (instr_operands z))) (sym same) l) Entry new
      none))
      (listed_or v before)
  given_before before (y ∷ is) h (suc at) i e l =
      ⊎_elim
      (λ old. ⊎_elim
      (λ here. inr (record {
        position = 0;
        instr = y;
        there = refl;
        gives = given_first (result_of y) v here;
        before = omega arith;
      }))
      (λ more. inl more)
      (listed_either v (option_to_list (result_of y)) before old))
      (λ z.
      let lt = z.before in
      inr (record {
        position = suc z.position;
        instr = z.instr;
        there = z.there;
        gives = z.gives;
        before = omega (arith, lt);
      }))
      (given_before (option_to_list (result_of y) ++ before) is h.1 at i e l)

module _ (x : Framing) (is : IsFraming x) (v p align : ℕ) (ty : Ty)
    (alloca : slice_get (instrs_at x 0) p ≡ Some (Instr.Alloca v ty align)) where
  rules : KeepsFunctionRules x.code is.position (edged x)
  rules = is.frameable.rules

  abbrev own : Point
  own = record { block = 0; at = p }

  abbrev i : Instr
  i = Instr.Alloca v ty align

  here : instr_at (edged x) own ≡ Some i
  here = point_there x is 0 p i alloca

  no_params : IsListed v (params_of (edged x)) → ⊥
  no_params = no_param is.position (edged x) rules.definitions own i v here refl

  pub alloca_before : (at : ℕ) (j : Instr) → slice_get (instrs_at x 0) at ≡ Some j
      → IsListed v (locals_in (instr_operands j)) → p < at
  alloca_before at j there used = on (slice_get (edged x).blocks 0) refl there
    where
      on : (o : Option Block) → slice_get (edged x).blocks 0 ≡ o → slice_get (unwrap_or o no_block).instrs at ≡ Some j
          → p < at
      on None d h = absurd (cc)
      on (Some b) d h = ⊎_elim
          (λ old. absurd (⊎_elim (λ l. l) (λ l. no_phi is.position (edged x) rules.definitions 0 b own i v d l here refl)
          (phis_make [] b.phis v old)))
          (λ z.
          let same : record { block = 0; at = z.position } ≡ own =
          same_result is.position (edged x) rules.definitions (record { block = 0; at = z.position }) own z.instr i v
          (ap (λ (q : Option Block). instr_in q z.position) d ∙ z.there) here z.gives refl in
          subst (λ (q : Point). q.at < at) same z.before)
          (given_before (edged x) v no_params (phi_values b) b.instrs
          (block_made (edged x) is.position rules.uses 0 b d) at j h used)
