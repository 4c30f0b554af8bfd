-- Where no block to which a path leads without a value uses it, no use is undefined.
use Rattle.std.proofs.Common.{◌≡◌, inl, inr, ℕ, suc, ◌+◌, List, [], ◌∷◌, ◌++◌, length, refl, sym, ap, ◌∙◌, arith}
use Rattle.std.specs.Prelude.{None, Some, map, slice_get}
use Rattle.ir_laws.specs.ir_base.declared.outcome.Place.{Place}
use Rattle.rule_uses.specs.Undefined.{IsFirstUndefined, Later, Nowhere, ReachesWithout, params_of}
use Rattle.rule_uses.specs.Uses.{Use, block_uses, block_values, blocks_uses, incoming_uses, instr_uses, locals_in, phi_uses, phi_values, use_of, uses_at, uses_of, values_at}
use Rattle.ir_laws.proofs.facts.Members.{each_behind}
use Rattle.rule_laws.proofs.rules.source_rules.Locals.{made_by}
use Rattle.ir_laws.specs.flow_solver.Paths.{IsListed}
use Rattle.ir_parts.specs.Contents.{ending_operands, instr_operands}
use Rattle.ir_parts.specs.Parts.{instr_place}
use Rattle.ir_laws.specs.ir_model.Names.{position_of}
use Rattle.ir_laws.specs.ir_model.declared.instr.Incoming.{Incoming}
use Rattle.ir_laws.specs.ir_model.declared.instr.Instr.{Instr}
use Rattle.ir_laws.specs.ir_model.declared.instr.Phi.{Phi}
use Rattle.ir_laws.specs.ir_model.declared.module.Block.{Block}
use Rattle.ir_laws.specs.ir_model.declared.module.Function.{Function}
use Rattle.ir_laws.specs.ir_model.declared.operand.Operand.{Operand}
use Rattle.ir_laws.proofs.paths.uses.Paths.{there_listed}
use Rattle.rule_laws.proofs.rules.uses.Unused.{IsUnused}
use Rattle.ir_laws.specs.run_laws.changed.Changed.{Each}
use Rattle.rule_laws.proofs.rules.woven_rules.Uses.{IsFine, IsSound, IsSoundIn, fine_incoming}

-- in each block to which a path leads without a value that is no parameter nothing uses it before it is made, nor does a phi at its end
pub record IsUnusedIn (g : Function) : Type 0 where
  pub instrs : (v : ℕ) → (IsListed v (params_of g) → ⊥) → (at : ℕ) (d : Block) → slice_get g.blocks at ≡ Some d → ReachesWithout g v at → IsUnused v (phi_values d) d.instrs
  pub term : (v : ℕ) → (IsListed v (params_of g) → ⊥) → (at : ℕ) (d : Block) → slice_get g.blocks at ≡ Some d → ReachesWithout g v at → (IsListed v (block_values d) → ⊥) → IsListed v (locals_in (ending_operands d.term)) → ⊥
  pub phis : (v : ℕ) → (IsListed v (params_of g) → ⊥) → (d : Block) (y : Phi) (j : Incoming) → IsListed d g.blocks → IsListed y d.phis → IsListed j y.incoming → j.value ≡ Operand.Local v → ReachesWithout g v (position_of g j.from) → (IsListed v (values_at g (position_of g j.from)) → ⊥) → ⊥

module _ (g : Function) (func : ℕ) (h : IsUnusedIn g) where
  fine_locals : (p : Place) (block : ℕ) (before vs : List ℕ) → ((v : ℕ) → IsListed v vs → IsFine g (use_of p block before v)) → Each (IsFine g) (map (use_of p block before) vs)
  fine_locals p block before [] k = tt
  fine_locals p block before (v ∷ vs) k = (k v (inl refl), fine_locals p block before vs (λ u l. k u (inr l)))

  instrs_fine : (block at : ℕ) (before : List ℕ) (js : List Instr) → ((v : ℕ) → (IsListed v (params_of g) → ⊥) → ReachesWithout g v block → IsUnused v before js) → Each (IsFine g) (instr_uses func block at before js)
  instrs_fine block at before [] k = tt
  instrs_fine block at before (j ∷ js) k =
      each_behind (IsFine g) (uses_at (instr_place func block at) block before (instr_operands j)) (instr_uses func block (at + 1) (made_by j ++ before) js)
      (fine_locals (instr_place func block at) block before (locals_in (instr_operands j)) (λ v l u. (k v u.no_param u.reaches).0 u.not_before l))
      (instrs_fine block (at + 1) (made_by j ++ before) js (λ v no_param r. (k v no_param r).1))

  -- an operand of a phi
  sound_operand : (d : Block) (y : Phi) (j : Incoming) → IsListed d g.blocks → IsListed y d.phis → IsListed j y.incoming → (x : Operand) → j.value ≡ x → IsSound g (position_of g j.from) (values_at g (position_of g j.from)) x
  sound_operand d y j a b c (Operand.Local v) e = λ r none no_param. h.phis v no_param d y j a b c e r none
  sound_operand d y j a b c (Operand.Global x) e = tt
  sound_operand d y j a b c (Operand.Number z) e = tt
  sound_operand d y j a b c Operand.True e = tt
  sound_operand d y j a b c Operand.False e = tt
  sound_operand d y j a b c Operand.Null e = tt
  sound_operand d y j a b c Operand.None e = tt
  sound_operand d y j a b c Operand.Poison e = tt

  each_of : {A : Type 0} (P : A → Type 0) (xs : List A) → ((x : A) → IsListed x xs → P x) → Each P xs
  each_of P [] k = tt
  each_of P (x ∷ xs) k = (k x (inl refl), each_of P xs (λ y l. k y (inr l)))

  phis_fine : (d : Block) (block at : ℕ) (ps : List Phi) → IsListed d g.blocks → ((y : Phi) → IsListed y ps → IsListed y d.phis) → Each (IsFine g) (phi_uses g func block at ps)
  phis_fine d block at [] a k = tt
  phis_fine d block at (y ∷ ps) a k =
      each_behind (IsFine g) (incoming_uses g (instr_place func block at) y.incoming) (phi_uses g func block (at + 1) ps)
      (fine_incoming g (instr_place func block at) y.incoming (each_of (IsSoundIn g) y.incoming (λ j l. sound_operand d y j a (k y (inl refl)) l j.value refl)))
      (phis_fine d block (at + 1) ps a (λ z l. k z (inr l)))

  block_fine : (block : ℕ) (d : Block) → slice_get g.blocks block ≡ Some d → Each (IsFine g) (block_uses g func block d)
  unfolding block_uses
  block_fine block d there =
      let place : Place = instr_place func block (length d.phis + length d.instrs) in
      each_behind (IsFine g) (phi_uses g func block 0 d.phis) (instr_uses func block (length d.phis) (phi_values d) d.instrs ++ uses_at place block (block_values d) (ending_operands d.term))
      (phis_fine d block 0 d.phis (there_listed g.blocks block d there) (λ y l. l))
      (each_behind (IsFine g) (instr_uses func block (length d.phis) (phi_values d) d.instrs) (uses_at place block (block_values d) (ending_operands d.term))
      (instrs_fine block (length d.phis) (phi_values d) d.instrs (λ v no_param r. h.instrs v no_param block d there r))
      (fine_locals place block (block_values d) (locals_in (ending_operands d.term)) (λ v l u. h.term v u.no_param block d there u.reaches u.not_before l)))

  blocks_fine : (from : ℕ) (ds : List Block) → ((k : ℕ) (d : Block) → slice_get ds k ≡ Some d → slice_get g.blocks (from + k) ≡ Some d) → Each (IsFine g) (blocks_uses g func from ds)
  blocks_fine from [] k = tt
  blocks_fine from (d ∷ ds) k =
      let here : from + 0 ≡ from = omega arith in
      each_behind (IsFine g) (block_uses g func from d) (blocks_uses g func (from + 1) ds)
      (block_fine from d (ap (slice_get g.blocks) (sym here) ∙ k 0 d refl))
      (blocks_fine (from + 1) ds (λ n e there. let next : from + suc n ≡ from + 1 + n = omega arith in ap (slice_get g.blocks) (sym next) ∙ k (suc n) e there))

  all_fine : (us : List Use) → Each (IsFine g) us → IsFirstUndefined g us None
  all_fine [] k = Nowhere
  all_fine (u ∷ us) k = Later u us None k.0 (all_fine us k.1)

  pub none_undefined_in : IsFirstUndefined g (uses_of func g) None
  none_undefined_in = all_fine (uses_of func g) (blocks_fine 0 g.blocks (λ k d e. let same : 0 + k ≡ k = omega arith in ap (slice_get g.blocks) same ∙ e))
