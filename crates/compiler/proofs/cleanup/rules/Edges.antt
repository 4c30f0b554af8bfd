-- Phis and edges (rule F1), and where transfers stand (rule Y5).
use Rattle.std.proofs.Common.{◌≡◌, ℕ, Bool, true, false, List, [], ◌∷◌, refl, ap, ◌∙◌, cond, Option, Some, None}
use Rattle.std.proofs.lemmas.Option.{slice_get-map}
use Rattle.std.specs.Prelude.{filter, map, not, option_map, slice_get, ◌&&◌}
use Rattle.pass_cleanup.specs.Cleanup.{clean_block, clean_function}
use Rattle.compiler.proofs.cleanup.rules.Carried.{carried}
use Rattle.compiler.specs.cleanup.rules.Clean.{NamesNothingGone}
use Rattle.pass_proofs.specs.rule_phis.Edges.{block_at, breaks_edges, first_wrong_edge, fits_edges, into_block, is_empty, is_entry, leads, predecessors}
use Rattle.ir_model.specs.declared.module.Block.{Block}
use Rattle.ir_model.specs.declared.module.Function.{Function}

module _ (k : ℕ) (f : Function) where
  abbrev g : Function
  g = clean_function f

  same_sources : (label : ℕ) → predecessors g label ≡ predecessors f label
  same_sources label = each f.blocks
    where
      each : (bs : List Block) → map (λ b. b.label) (filter (leads label) (map clean_block bs)) ≡ map (λ b. b.label) (filter (leads label) bs)
      each [] = refl
      each (b ∷ bs) = on (leads label b) (each bs)
        where
          on : (c : Bool) → map (λ b. b.label) (filter (leads label) (map clean_block bs)) ≡ map (λ b. b.label) (filter (leads label) bs) → map (λ b. b.label) (cond c (clean_block b ∷ filter (leads label) (map clean_block bs)) (filter (leads label) (map clean_block bs))) ≡ map (λ b. b.label) (cond c (b ∷ filter (leads label) bs) (filter (leads label) bs))
          on true e = ap (λ (ls : List ℕ). b.label ∷ ls) e
          on false e = e

  same_into : (o : Option ℕ) → into_block (predecessors g) (block_at g o) ≡ into_block (predecessors f) (block_at f o)
  same_into None = refl
  same_into (Some at) = ap (into_block (predecessors g)) (slice_get-map clean_block f.blocks at) ∙ on (slice_get f.blocks at)
    where
      on : (o : Option Block) → into_block (predecessors g) (option_map clean_block o) ≡ into_block (predecessors f) o
      on None = refl
      on (Some b) = same_sources b.label

  pub edges_clean : NamesNothingGone k f → first_wrong_edge k f ≡ None → first_wrong_edge k g ≡ None
  edges_clean =
      carried k f (breaks_edges f) (breaks_edges g)
      (record {
        signature = λ e. refl;
        head = λ block b e. ap (λ (ls : List ℕ). is_entry (Some block) && not (is_empty ls)) (same_sources b.label) ∙ e;
        phi = λ p x u e. ap (λ (ls : List ℕ). not (fits_edges ls x.incoming)) (same_into p.block) ∙ e;
        instr = λ block at to i stays u e. refl;
        ending = λ block at to t u e. refl;
      })
