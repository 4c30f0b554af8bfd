-- The edges of a function whose saves are written out: rules F1 and K3.
use Rattle.std.proofs.Common.{◌≡◌, ℕ, Bool, true, false, List, [], ◌∷◌, length, refl, sym, ap, ◌∙◌, subst}
use Rattle.std.specs.Prelude.{Some, None, Option, filter, map, not, option_map, slice_get, if◌then◌else◌, ◌&&◌}
use Rattle.rule_laws.specs.ir_base.declared.outcome.Place.{Place}
use Rattle.rule_laws.proofs.rules.renamed.Switches.{none_part}
use Rattle.rule_laws.proofs.rules.path_rules.Holding.{HoldsIn, of_parts, part_none, to_parts}
use Rattle.pass_early_proof.proofs.early.path_rules.Origins.{block_from}
use Rattle.rule_laws.specs.rule_phis.Edges.{breaks_edges, first_wrong_edge, fits_edges, into_block, is_empty, is_entry, leads, predecessors}
use Rattle.rule_laws.specs.ir_parts.Parts.{Part, parts_of}
use Rattle.ir_model.specs.declared.module.Block.{Block}
use Rattle.ir_model.specs.declared.module.Function.{Function}
use Rattle.pass_early_proof.proofs.early.saves.Blocks.{get_block}
use Rattle.pass_early_proof.specs.early.saves.SavesWritten.{behind_saves, saved_block, saved_blocks, saved_function}
use Rattle.pass_early_proof.specs.early.saves.Spots.{number_of_block}

-- ---- F1

sources_in : (label : ℕ) (c : Bool) (n : ℕ) (bs : List Block) → map (λ b. b.label) (filter (leads label) (saved_blocks c n bs)) ≡ map (λ b. b.label) (filter (leads label) bs)
sources_in label c n [] = refl
sources_in label c n (b ∷ bs) = on (leads label b) (sources_in label c (behind_saves c n b.instrs) bs)
  where
    on : (t : Bool) → map (λ b. b.label) (filter (leads label) (saved_blocks c (behind_saves c n b.instrs) bs)) ≡ map (λ b. b.label) (filter (leads label) bs) → map (λ b. b.label) (if t then saved_block c n b ∷ filter (leads label) (saved_blocks c (behind_saves c n b.instrs) bs) else filter (leads label) (saved_blocks c (behind_saves c n b.instrs) bs)) ≡ map (λ b. b.label) (if t then b ∷ filter (leads label) bs else filter (leads label) bs)
    on true again = ap (λ (ls : List ℕ). b.label ∷ ls) again
    on false again = again

module _ (func : ℕ) (f : Function) where
  abbrev g : Function
  g = saved_function f

  sources_same : (label : ℕ) → predecessors g label ≡ predecessors f label
  sources_same label = sources_in label f.coroutine (length f.names) f.blocks

  into_same : (k : ℕ) → into_block (predecessors g) (slice_get g.blocks k) ≡ into_block (predecessors f) (slice_get f.blocks k)
  into_same k = ap (into_block (predecessors g)) (get_block f.coroutine k (length f.names) f.blocks) ∙ on (slice_get f.blocks k)
    where
      on : (o : Option Block) → into_block (predecessors g) (option_map (saved_block f.coroutine (number_of_block f.coroutine k (length f.names) f.blocks)) o) ≡ into_block (predecessors f) o
      on None = refl
      on (Some b) = sources_same b.label

  abbrev Fits : Function → Place × Part → Type 0
  Fits h x = breaks_edges h x.0 x.1 ≡ false

  block_fits : (k : ℕ) (b : Block) → HoldsIn (Fits f) func k b → HoldsIn (Fits g) func k (saved_block f.coroutine (number_of_block f.coroutine k (length f.names) f.blocks) b)
  block_fits k b h = record {
    head = ap (λ (ls : List ℕ). is_entry (Some k) && not (is_empty ls)) (sources_same b.label) ∙ h.head;
    phis = λ j x e. ap (λ (ls : List ℕ). not (fits_edges ls x.incoming)) (into_same k) ∙ h.phis j x e;
    instrs = λ j y e. refl;
    ending = refl;
  }

  pub wrong_edge_saved : first_wrong_edge func f ≡ None → first_wrong_edge func g ≡ None
  wrong_edge_saved e =
      let parts = of_parts (Fits f) func f (none_part (breaks_edges f) (parts_of func f) e) in
      part_none (breaks_edges g) (parts_of func g) (to_parts (Fits g) func g (record {
        signature = refl;
        blocks = λ k d there. let x = block_from f k d there in subst (HoldsIn (Fits g) func k) (sym x.is) (block_fits k x.block (parts.blocks k x.block x.got));
      }))
