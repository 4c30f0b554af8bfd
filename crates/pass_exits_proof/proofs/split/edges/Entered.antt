-- The phis of the function that is cut: what leads to their blocks, and where it comes from in the part.
use Rattle.std.proofs.Common.{List, [], ap, false, inl, inr, subst, sym, true, ℕ, ⊎_elim, ◌∙◌, ◌∷◌, ◌≡◌, ◌⊎◌}
use Rattle.std.specs.List.{list_all, list_any}
use Rattle.std.specs.Prelude.{Option, Some, filter, not, slice_get, ◌&&◌}
use Rattle.pass_fetch_proof.proofs.rule_laws.rules.renamed.Switches.{none_part}
use Rattle.pass_fetch_proof.proofs.ir_laws.facts.Truth.{and_first, and_second, holds}
use Rattle.pass_fetch_proof.proofs.rule_laws.rules.path_rules.Holding.{of_parts}
use Rattle.pass_fetch_proof.specs.rule_phis.Edges.{breaks_edges, differs, fits_edges, has, incoming_labels, into_block, is_empty, leads, predecessors}
use Rattle.pass_fetch_proof.specs.flow_solver.Paths.{IsListed}
use Rattle.pass_fetch_proof.specs.frame_layout.declared.layout.Layout.{Layout}
use Rattle.pass_fetch_proof.specs.ir_parts.Parts.{parts_of}
use Rattle.pass_fetch_proof.specs.pass_intrinsics.Shapes.{has_end, shape_of, suspends_of}
use Rattle.pass_fetch_proof.specs.pass_intrinsics.declared.shape.Part.{Part}
use Rattle.pass_fetch_proof.specs.pass_intrinsics.declared.shape.Shape.{Shape}
use Rattle.pass_fetch_proof.specs.pass_intrinsics.declared.shape.SuspendPoint.{SuspendPoint}
use Rattle.ir_model.specs.declared.instr.Phi.{Phi}
use Rattle.ir_model.specs.declared.module.Block.{Block}
use Rattle.ir_model.specs.declared.module.Function.{Function}
use Rattle.ir_model.specs.declared.module.Module.{Module}
use Rattle.pass_fetch_proof.specs.ir_paths.Paths.{targets}
use Rattle.pass_fetch_proof.proofs.ir_laws.paths.edges.Lists.{one_numbered, to_filtered}
use Rattle.pass_fetch_proof.proofs.ir_laws.paths.uses.Paths.{place_of}
use Rattle.pass_exits_proof.proofs.split.edges.Pieces.{HasNoSuspend}
use Rattle.pass_fetch_proof.proofs.ir_laws.facts.Numbers.{label_of}
use Rattle.pass_exits_proof.proofs.split.edges.Rules.{begins_with_end, end_is, labels_different, stopped, stopped_targets, the_end}
use Rattle.pass_fetch_proof.proofs.ir_laws.paths.counted.PartFacts.{all_listed as all_there}
use Rattle.pass_fetch_proof.proofs.rule_laws.frames.edges.Shaped.{has_point_of, point_home}
use Rattle.pass_fetch_proof.proofs.rule_laws.rules.known_labels.Rules.{labels_spelt as targets_are}
use Rattle.pass_fetch_proof.proofs.ir_laws.paths.replaced.Known.{listed_mapped, of_listed}
use Rattle.pass_fetch_proof.specs.rule_laws.frames.replaced.Splittable.{HasOwnEdges}
use Rattle.pass_exits_proof.specs.split.rules.Splittable.{IsSplittable}
use Rattle.pass_fetch_proof.specs.ir_laws.paths.woven_rules.Pairs.{AreDifferent}
use Rattle.pass_fetch_proof.proofs.ir_laws.paths.edges.Entered.{IsPredecessor}
use Rattle.pass_fetch_proof.proofs.rule_laws.rules.edges.Entered.{from_predecessors, has_listed, listed_has}

pub leads_to : (label : ℕ) (d : Block) → IsListed label (targets d.term) → leads label d ≡ true
leads_to label d l = ap (λ (ns : List ℕ). has ns label) (targets_are d.term) ∙ has_listed (targets d.term) label l

pub to_predecessors : (f : Function) (label : ℕ) (d : Block) → IsListed d f.blocks → IsListed label (targets d.term) → IsListed d.label (predecessors f label)
to_predecessors f label d l t = listed_mapped label_of (filter (leads label) f.blocks) d (to_filtered (leads label) f.blocks d l (leads_to label d t))

none_listed : (ns : List ℕ) → is_empty ns ≡ true → (n : ℕ) → IsListed n ns → ⊥
none_listed [] e n l = l
none_listed (k ∷ ns) e n l = absurd (cc)

-- ---- the rule of edges of a coroutine

module _ (m : Module) (k : ℕ) (f : Function) (begin : ℕ) (x : IsSplittable m k f begin) where
  -- no edge leads to the entry block
  pub entry_alone : (b : Block) → slice_get f.blocks 0 ≡ Some b → (d : Block) → IsListed d f.blocks → IsListed b.label (targets d.term) → ⊥
  entry_alone b e d l t =
      let parts = of_parts (λ y. breaks_edges f y.0 y.1 ≡ false) k f (none_part (breaks_edges f) (parts_of k f) x.rules.edges) in
      none_listed (predecessors f b.label) (holds (is_empty (predecessors f b.label)) (parts.blocks 0 b e).head) d.label (to_predecessors f b.label d l t)

  -- a phi of a block has the labels of those that lead to it, each once
  pub record PhiFits (h : Function) (label : ℕ) (y : Phi) : Type 0 where
    pub to : (d : Block) → IsListed d h.blocks → IsListed label (targets d.term) → IsListed d.label (incoming_labels y.incoming)
    pub from : (n : ℕ) → IsListed n (incoming_labels y.incoming) → IsPredecessor h label n
    pub once : AreDifferent (incoming_labels y.incoming)

  own_fits : (b : Block) (y : Phi) → IsListed b f.blocks → IsListed y b.phis → PhiFits f b.label y
  own_fits b y l n =
      let p = place_of f.blocks b l in
      let q = place_of b.phis y n in
      let parts = of_parts (λ z. breaks_edges f z.0 z.1 ≡ false) k f (none_part (breaks_edges f) (parts_of k f) x.rules.edges) in
      let fits : fits_edges (predecessors f b.label) y.incoming ≡ true =
      subst (λ (o : Option Block). fits_edges (into_block (predecessors f) o) y.incoming ≡ true) p.1 (holds (fits_edges (into_block (predecessors f) (slice_get f.blocks p.0)) y.incoming) ((parts.blocks p.0 b p.1).phis q.0 y q.1)) in
      let sources = and_first (list_all (has (incoming_labels y.incoming)) (predecessors f b.label)) (list_all (has (predecessors f b.label)) (incoming_labels y.incoming) && not (list_any (differs y.incoming) y.incoming)) fits in
      let rest = and_second (list_all (has (incoming_labels y.incoming)) (predecessors f b.label)) (list_all (has (predecessors f b.label)) (incoming_labels y.incoming) && not (list_any (differs y.incoming) y.incoming)) fits in
      let had = and_first (list_all (has (predecessors f b.label)) (incoming_labels y.incoming)) (not (list_any (differs y.incoming) y.incoming)) rest in
      record {
        to = λ d m t. listed_has (incoming_labels y.incoming) d.label (all_there (has (incoming_labels y.incoming)) (predecessors f b.label) sources d.label (to_predecessors f b.label d m t));
        from = λ o m. from_predecessors f b.label o (listed_has (predecessors f b.label) o (all_there (has (predecessors f b.label)) (incoming_labels y.incoming) had o m));
        once = x.once p.0 q.0 b y p.1 q.1;
      }

  module _ (layout : Layout) where
    abbrev s : Shape
    s = shape_of f layout

    no_phis : (b : Block) (y : Phi) → IsListed y b.phis → b.phis ≡ [] → ⊥
    no_phis b y n e = subst (λ (ps : List Phi). IsListed y ps) e n

    -- the end's block has none
    not_the_end : (b : Block) (y : Phi) → IsListed b f.blocks → IsListed y b.phis → b.label ≡ s.end → ⊥
    not_the_end b y l n e =
        let end = the_end m k f begin x in
        let same : b ≡ end.block = one_numbered label_of f.blocks (labels_different m k f begin x) b end.block l end.listed (e ∙ end_is m k f begin x layout) in
        no_phis b y n (begins_with_end m k f begin x b l (ap (λ (c : Block). has_end c.instrs) same ∙ end.has)).no_phis

    -- nor has a block to which a suspend returns
    not_returned : (p : SuspendPoint) (b : Block) (y : Phi) → IsListed p (suspends_of f) → IsListed b f.blocks → IsListed y b.phis → (b.label ≡ p.resume) ⊎ (b.label ≡ p.destroy) → ⊥
    not_returned p b y l k n (inl e) = let q = place_of f.blocks b k in no_phis b y n ((of_listed (HasOwnEdges f) (suspends_of f) p x.edges l).resume.phis q.0 b q.1 e)
    not_returned p b y l k n (inr e) = let q = place_of f.blocks b k in no_phis b y n ((of_listed (HasOwnEdges f) (suspends_of f) p x.edges l).destroy.phis q.0 b q.1 e)

    -- nor has any to which the block of a suspend leads
    not_behind_suspend : (b : Block) (y : Phi) → IsListed b f.blocks → IsListed y b.phis → (d : Block) → IsListed d f.blocks → IsListed b.label (targets d.term) → HasNoSuspend d.instrs
    not_behind_suspend b y l n d w t i j e =
        let st = stopped m k f begin x layout d i w j e in
        let p = has_point_of f d i w j e in
        ⊎_elim
        (λ (a : b.label ≡ s.end). not_the_end b y l n a)
        (λ a. not_returned p.point b y p.listed l n (⊎_elim (λ c. inl (c ∙ sym p.resume)) (λ c. inr (c ∙ sym p.destroy)) a))
        (stopped_targets m k f begin x layout d st b.label t)

    -- ---- the same of the function that is cut

    module _ (part : Part) where
      abbrev h : Function
      h = f

      -- what is known of a phi and its block
      pub record IsEntered (b : Block) (y : Phi) : Type 0 where
        pub fits : PhiFits h b.label y
        pub no_end : b.label ≡ s.end → ⊥
        pub no_return : (p : SuspendPoint) → IsListed p s.suspends → (b.label ≡ p.resume) ⊎ (b.label ≡ p.destroy) → ⊥
        pub no_suspend : (d : Block) → IsListed d h.blocks → IsListed b.label (targets d.term) → HasNoSuspend d.instrs

      pub entered : (b : Block) (y : Phi) → IsListed b h.blocks → IsListed y b.phis → IsEntered b y
      entered b y l n =
          let fit : PhiFits f b.label y = own_fits b y l n in
          record {
            fits = fit;
            no_end = λ e. not_the_end b y l n e;
            no_return = λ p w e. not_returned p b y w l n e;
            no_suspend = λ d w t i j e. not_behind_suspend b y l n d w t i j e;
          }

      -- no suspend's number stands in a block without one
      pub no_point : (d : Block) → IsListed d h.blocks → HasNoSuspend d.instrs → (p : SuspendPoint) → IsListed p s.suspends → p.block ≡ d.label → ⊥
      no_point d l none p w e =
          let q = point_home p f w in
          let same : q.0 ≡ d = one_numbered label_of f.blocks (labels_different m k f begin x) q.0 d q.1.0 l (sym q.1.1.block ∙ e) in
          none q.1.1.instr (subst (λ (b : Block). IsListed q.1.1.instr b.instrs) same q.1.1.listed) q.1.1.is_one
