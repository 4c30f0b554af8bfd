-- Addresses and escaped slots of a function whose begin is named are those of its own.
use Rattle.std.proofs.Common.{◌≡◌, ℕ, zero, suc, Bool, List, [], ◌∷◌, ◌++◌, length, refl, ap, ◌∙◌}
use Rattle.std.specs.List.{list_any}
use Rattle.std.specs.Prelude.{Some, None, Option, option_map, flat_map, map, slice_get, if◌then◌else◌, ◌||◌}
use Rattle.pass_early_proof.proofs.early.begin_naming.NamedParts.{block_same, end_same, points_where_same, same_but_begin, with_begin}
use Rattle.rule_laws.proofs.ir_laws.facts.Lists.{any_same}
use Rattle.run_states.proofs.renamed.Modules.{length_same}
use Rattle.pass_early.specs.BeginName.{named_block, named_instr}
use Rattle.ir_model.specs.declared.instr.Instr.{Instr}
use Rattle.ir_model.specs.declared.module.Block.{Block}
use Rattle.ir_model.specs.declared.module.Function.{Function}
use Rattle.ir_model.specs.declared.operand.Operand.{Operand}
use Rattle.rule_laws.specs.ir_paths.Paths.{block_points}
use Rattle.rule_laws.specs.ir_paths.Slots.{addresses_of, addresses_within, allocas_in, end_points, exposed_in_block, exposes, geps_from, has_name, is_escaped, is_gep, occurs_in_phi, occurs_in_term, points_at}
use Rattle.rule_laws.specs.ir_paths.Windows.{end_block, points_where}
use Rattle.rule_laws.specs.ir_paths.declared.point.Point.{Point}

module _ (n : ℕ) (f : Function) where
  abbrev g : Function
  g = with_begin n f

  -- ---- addresses

  pub geps_next : (t : ℕ → Bool) (i : Instr) (xs ys : List Instr) → geps_from t xs ≡ geps_from t ys → geps_from t (i ∷ xs) ≡ geps_from t (i ∷ ys)
  geps_next t (Instr.Gep name inbounds ty (Operand.Local v) indices) xs ys h = ap (λ (vs : List ℕ). (if t v then name ∷ [] else []) ++ vs) h
  geps_next t i xs ys h = h

  pub geps_same : (t : ℕ → Bool) (is : List Instr) → geps_from t (map (named_instr n) is) ≡ geps_from t is
  geps_same t [] = refl
  geps_same t (i ∷ is) =
      same_but_begin n (λ (j : Instr). geps_from t (j ∷ map (named_instr n) is)) (λ result must_tail ty args. refl) i
      ∙ geps_next t i (map (named_instr n) is) is (geps_same t is)

  pub allocas_next : (i : Instr) (xs ys : List Instr) → allocas_in xs ≡ allocas_in ys → allocas_in (i ∷ xs) ≡ allocas_in (i ∷ ys)
  allocas_next (Instr.Alloca name ty align) xs ys h = ap (λ (vs : List ℕ). name ∷ vs) h
  allocas_next i xs ys h = h

  pub allocas_same : (is : List Instr) → allocas_in (map (named_instr n) is) ≡ allocas_in is
  allocas_same [] = refl
  allocas_same (i ∷ is) =
      same_but_begin n (λ (j : Instr). allocas_in (j ∷ map (named_instr n) is)) (λ result must_tail ty args. refl) i
      ∙ allocas_next i (map (named_instr n) is) is (allocas_same is)

  pub blocks_same : (t : List Instr → List ℕ) → ((is : List Instr) → t (map (named_instr n) is) ≡ t is) → (bs : List Block) → flat_map (λ b. t b.instrs) (map (named_block n) bs) ≡ flat_map (λ b. t b.instrs) bs
  blocks_same t h [] = refl
  blocks_same t h (b ∷ bs) = λ k. h b.instrs k ++ blocks_same t h bs k

  pub addresses_within_same : (k alloca : ℕ) → addresses_within k g alloca ≡ addresses_within k f alloca
  addresses_within_same zero alloca = refl
  addresses_within_same (suc k) alloca =
      ap (λ (vs : List ℕ). alloca ∷ flat_map (λ b. geps_from (has_name vs) b.instrs) g.blocks) (addresses_within_same k alloca)
      ∙ ap (λ (vs : List ℕ). alloca ∷ vs) (blocks_same (geps_from (has_name (addresses_within k f alloca))) (geps_same (has_name (addresses_within k f alloca))) f.blocks)

  pub addresses_same : (alloca : ℕ) → addresses_of g alloca ≡ addresses_of f alloca
  addresses_same alloca =
      ap (λ (ps : List Point). addresses_within (length ps) g alloca) (points_where_same n is_gep (λ i. same_but_begin n is_gep (λ result must_tail ty args. refl) i) f)
      ∙ addresses_within_same (length (points_where is_gep f)) alloca

  -- ---- uses

  pub exposed_same : (v : ℕ) (b : Block) → exposed_in_block v (named_block n b) ≡ exposed_in_block v b
  exposed_same v b = λ k.
      list_any (occurs_in_phi v) b.phis
      || any_same (named_instr n) (exposes v) (exposes v) (λ i. same_but_begin n (exposes v) (λ result must_tail ty args. refl) i) b.instrs k
      || occurs_in_term v b.term

  pub escaped_same : (alloca : ℕ) → is_escaped g alloca ≡ is_escaped f alloca
  escaped_same alloca = λ k. list_any (λ v. any_same (named_block n) (exposed_in_block v) (exposed_in_block v) (exposed_same v) f.blocks k) (addresses_same alloca k)

  pub points_at_same : (k : ℕ) (o : Option Block) → points_at k (option_map (named_block n) o) ≡ points_at k o
  points_at_same k None = refl
  points_at_same k (Some b) = ap (block_points k) (length_same (named_instr n) b.instrs)

  pub end_points_same : end_points g ≡ end_points f
  end_points_same =
      ap (λ (k : ℕ). points_at k (slice_get g.blocks k)) (end_same n f)
      ∙ ap (points_at (end_block f)) (block_same n f (end_block f))
      ∙ points_at_same (end_block f) (slice_get f.blocks (end_block f))
