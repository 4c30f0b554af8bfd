-- Where the blocks that aren't reached go, the edges of the others lead to blocks that stay.
use Rattle.std.proofs.Common.{◌≡◌, ℕ, true, sym, ap, ◌∙◌, subst}
use Rattle.std.specs.Prelude.{filter, slice_get}
use Rattle.pass_split.specs.Reached.{is_flagged, kept_block, pruned, reached, targets_at, targets_in}
use Rattle.pass_fetch_proof.specs.flow_solver.Paths.{IsListed}
use Rattle.ir_model.specs.declared.module.Block.{Block}
use Rattle.ir_model.specs.declared.module.Function.{Function}
use Rattle.pass_fetch_proof.specs.ir_paths.Paths.{targets}
use Rattle.pass_fetch_proof.proofs.ir_laws.paths.replaced.Known.{listed_mapped}
use Rattle.pass_exits_proof.proofs.split.rules.Reached.{flagged_is_led, led_is_flagged}
use Rattle.pass_exits_proof.specs.split.rules.Reached.{Edge, HasOwnBlocks, HasTabledLabels}
use Rattle.pass_fetch_proof.proofs.ir_laws.paths.edges.Lists.{from_filtered, from_mapped, to_filtered}
use Rattle.pass_fetch_proof.proofs.ir_laws.paths.uses.Paths.{place_of}

-- ---- blocks that stay

module _ (f : Function) (tabled : HasTabledLabels f) (own : HasOwnBlocks f) where
  edges_at : (b : Block) → IsListed b f.blocks → targets_at f b.label ≡ targets b.term
  edges_at b l = let p = place_of f.blocks b l in ap (λ (n : ℕ). targets_in (slice_get f.blocks n)) (own.first p.0 b p.1) ∙ ap targets_in p.1

  pub kept_targets : (b : Block) (label : ℕ) → IsListed b (pruned f).blocks → IsListed label (targets b.term) → (c : Block) × (IsListed c (pruned f).blocks × (c.label ≡ label))
  kept_targets b label l t =
      let x = from_mapped (kept_block (reached f)) (filter (λ (c : Block). is_flagged (reached f) c.label) f.blocks) b l in
      let y = from_filtered (λ (c : Block). is_flagged (reached f) c.label) f.blocks x.0 x.1.0 in
      let edge : IsListed label (targets x.0.term) = subst (λ (c : Block). IsListed label (targets c.term)) x.1.1 t in
      let there = own.there x.0 label y.0 edge in
      let flagged : is_flagged (reached f) label ≡ true = led_is_flagged f tabled label (Edge x.0.label label (flagged_is_led f x.0.label y.1) (subst (IsListed label) (sym (edges_at x.0 y.0)) edge)) in (
        kept_block (reached f) there.0,
        (
          listed_mapped (kept_block (reached f)) (filter (λ (c : Block). is_flagged (reached f) c.label) f.blocks) there.0
              (to_filtered (λ (c : Block). is_flagged (reached f) c.label) f.blocks there.0 there.1.0 (ap (is_flagged (reached f)) there.1.1 ∙ flagged)),
          there.1.1,
        ),
      )
