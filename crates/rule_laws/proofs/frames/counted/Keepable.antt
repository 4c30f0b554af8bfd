-- Lemmas on keepable, that speak of no pass.
use Rattle.std.proofs.Common.{◌≡◌, ◌⊎◌, inl, inr, ⊎_elim, ℕ, suc, Bool, true, false, List, [], ◌∷◌, ◌++◌, refl, sym, ap}
use Rattle.std.specs.Prelude.{Option, Some, None, slice_get, if◌then◌else◌}
use Rattle.ir_laws.proofs.paths.source_rules.Locals.{listed_either}
use Rattle.ir_laws.specs.flow_solver.Paths.{IsListed}
use Rattle.ir_parts.specs.Contents.{result_of}
use Rattle.ir_laws.specs.ir_model.declared.instr.Instr.{Instr}
use Rattle.ir_laws.specs.ir_model.declared.instr.Phi.{Phi}
use Rattle.ir_laws.specs.ir_model.declared.module.Block.{Block}
use Rattle.ir_laws.specs.ir_model.declared.module.Param.{Param}
use Rattle.ir_laws.specs.ir_paths.Slots.{has_name}
use Rattle.frame_contents.specs.frame_crossing.Values.{blocks_defined, distinct, instrs_defined, is_apart, is_token, params_defined, phis_defined, result_unless, unless, with_new}
use Rattle.ir_laws.proofs.facts.Lists.{FoundParam, FoundPhi}

pub record FoundInstr (is : List Instr) (v : ℕ) : Type 0 where
  pub at : ℕ
  pub instr : Instr
  pub there : slice_get is at ≡ Some instr
  pub makes : result_of instr ≡ Some v
  pub stays : is_apart instr ≡ false

pub record FoundBlock (bs : List Block) (v : ℕ) : Type 0 where
  pub at : ℕ
  pub block : Block
  pub there : slice_get bs at ≡ Some block
  pub part : FoundPhi block.phis v ⊎ FoundInstr block.instrs v

unless_is : (b : Bool) (n v : ℕ) → IsListed v (unless b n) → v ≡ n
unless_is true n v h = absurd h
unless_is false n v (inl e) = e
unless_is false n v (inr h) = absurd h

pub params_found : (ps : List Param) (v : ℕ) → IsListed v (params_defined ps) → FoundParam ps v
params_found [] v h = absurd h
params_found (p ∷ ps) v h =
    ⊎_elim (λ a. record { at = 0; param = p; there = refl; same = sym (unless_is (is_token p.ty) p.name v a) })
    (λ l. let x = params_found ps v l in record { at = suc x.at; param = x.param; there = x.there; same = x.same })
    (listed_either v (unless (is_token p.ty) p.name) (params_defined ps) h)

phis_found : (ps : List Phi) (v : ℕ) → IsListed v (phis_defined ps) → FoundPhi ps v
phis_found [] v h = absurd h
phis_found (p ∷ ps) v h =
    ⊎_elim (λ a. record { at = 0; phi = p; there = refl; same = sym (unless_is (is_token p.ty) p.result v a) })
    (λ l. let x = phis_found ps v l in record { at = suc x.at; phi = x.phi; there = x.there; same = x.same })
    (listed_either v (unless (is_token p.ty) p.result) (phis_defined ps) h)

made_unless : (b : Bool) (o : Option ℕ) (v : ℕ) → IsListed v (result_unless b o) → (o ≡ Some v) × (b ≡ false)
made_unless b None v h = absurd h
made_unless true (Some n) v h = absurd h
made_unless false (Some n) v (inl e) = (ap (λ (k : ℕ). Some k) (sym e), refl)
made_unless false (Some n) v (inr h) = absurd h

instrs_found : (is : List Instr) (v : ℕ) → IsListed v (instrs_defined is) → FoundInstr is v
instrs_found [] v h = absurd h
instrs_found (i ∷ is) v h =
    ⊎_elim (λ a. let x = made_unless (is_apart i) (result_of i) v a in record { at = 0; instr = i; there = refl; makes = x.0; stays = x.1 })
    (λ l. let x = instrs_found is v l in record { at = suc x.at; instr = x.instr; there = x.there; makes = x.makes; stays = x.stays })
    (listed_either v (result_unless (is_apart i) (result_of i)) (instrs_defined is) h)

pub blocks_found : (bs : List Block) (v : ℕ) → IsListed v (blocks_defined bs) → FoundBlock bs v
blocks_found [] v h = absurd h
blocks_found (b ∷ bs) v h =
    ⊎_elim (λ a. record { at = 0; block = b; there = refl; part = inl (phis_found b.phis v a) })
    (λ l. ⊎_elim (λ a. record { at = 0; block = b; there = refl; part = inr (instrs_found b.instrs v a) })
    (λ r. let x = blocks_found bs v r in record { at = suc x.at; block = x.block; there = x.there; part = x.part })
    (listed_either v (instrs_defined b.instrs) (blocks_defined bs) l))
    (listed_either v (phis_defined b.phis) (instrs_defined b.instrs ++ blocks_defined bs) h)

new_listed : (found : List ℕ) (n v : ℕ) → IsListed v (with_new found n) → IsListed v found ⊎ (v ≡ n)
new_listed found n v h = on (has_name found n) h
  where
    on : (b : Bool) → IsListed v (if b then found else found ++ n ∷ []) → IsListed v found ⊎ (v ≡ n)
    on true l = inl l
    on false l = ⊎_elim (λ a. inl a) last (listed_either v found (n ∷ []) l)
      where
        last : IsListed v (n ∷ []) → IsListed v found ⊎ (v ≡ n)
        last (inl e) = inr e
        last (inr x) = absurd x

pub distinct_listed : (found vs : List ℕ) (v : ℕ) → IsListed v (distinct found vs) → IsListed v found ⊎ IsListed v vs
distinct_listed found [] v h = inl h
distinct_listed found (n ∷ ns) v h = ⊎_elim (λ a. ⊎_elim (λ l. inl l) (λ e. inr (inl e)) (new_listed found n v a)) (λ l. inr (inr l)) (distinct_listed (with_new found n) ns v h)
