-- Nothing is fetched behind a suspend, whose switch leads to no block with phis; so fetches leave the calls of a coroutine.
use Rattle.std.proofs.Common.{◌≡◌, inl, inr, ℕ, zero, suc, ◌<◌, ◌≤◌, Bool, true, false, List, [], ◌∷◌, length, refl, sym, ap, ◌∙◌, subst, arith}
use Rattle.std.specs.List.{list_all, list_any}
use Rattle.std.specs.Prelude.{Some, None, Option, filter, map, not, replicate, slice_get, if◌then◌else◌, ◌&&◌, ◌||◌, ◌==◌}
use Rattle.pass_exits_proof.proofs.ir_laws.paths.counted.PartFacts.{all_listed}
use Rattle.pass_exits_proof.proofs.rule_laws.rules.counted.PartFacts.{block_passes}
use Rattle.pass_exits_proof.specs.rule_shape.OneOfEach.{wrong_call}
use Rattle.pass_exits_proof.specs.rule_shape.Switches.{wrong_switch}
use Rattle.pass_exits_proof.proofs.ir_laws.facts.Members.{at_each, each_there}
use Rattle.pass_exits_proof.proofs.ir_laws.facts.Truth.{equal_numbers, and_first, and_second, holds}
use Rattle.pass_exits_proof.proofs.rule_laws.rules.source_rules.Locals.{own_label}
use Rattle.pass_exits_proof.proofs.edges.rules.Switched.{switched}
use Rattle.pass_exits_proof.specs.edges.rules.Phis.{ArePhisEnteredByJumps}
use Rattle.pass_exits_proof.proofs.edges.shape.Uses.{ends_total}
use Rattle.pass_edges.specs.Edges.{has_phis}
use Rattle.pass_exits_proof.specs.rule_phis.Edges.{block_at, breaks_edges, differs, fits_edges, has, incoming_labels, into_block, leads, predecessors}
use Rattle.pass_exits_proof.specs.fetch.rules.Fetches.{AreUnfetched}
use Rattle.pass_exits_proof.specs.flow_solver.Paths.{IsListed}
use Rattle.pass_exits_proof.proofs.fetch.shape.Fetching.{IsHeldBlock, IsNotFrom, all_spared, blocks_kept, default_same, ends_each, ends_other, ends_same, fetch_plain, no_rows, rows_none}
use Rattle.pass_exits_proof.proofs.fetch.shape.Held.{IsHeld, all_held}
use Rattle.pass_exits_proof.proofs.rule_laws.rules.shape.Ordered.{IsSuspendValue, all_ordered, placed_calls}
use Rattle.pass_exits_proof.proofs.edges.calls.Steadily.{AreSteady}
use Rattle.pass_exits_proof.proofs.rule_laws.rules.shape.Steady.{AreAllOrdered, IsBlockKept, IsPlain, all_calls, all_labels}
use Rattle.pass_exits_proof.proofs.ir_laws.paths.shape.Steady.{is_suspend}
use Rattle.pass_exits_proof.specs.rule_laws.rules.function_rules.Kept.{KeepsFunctionRules}
use Rattle.ir_model.specs.Calls.{first_result}
use Rattle.ir_model.specs.Names.{position_of}
use Rattle.ir_model.specs.declared.instr.Incoming.{Incoming}
use Rattle.ir_model.specs.declared.instr.Instr.{Instr}
use Rattle.ir_model.specs.declared.instr.Phi.{Phi}
use Rattle.ir_model.specs.declared.instr.Terminator.{Terminator}
use Rattle.ir_model.specs.declared.module.Block.{Block}
use Rattle.ir_model.specs.declared.module.Function.{Function}
use Rattle.ir_model.specs.declared.module.Module.{Module}
use Rattle.ir_model.specs.declared.operand.Intrinsic.{Intrinsic}
use Rattle.pass_exits_proof.specs.run_laws.changed.Changed.{Each}
use Rattle.pass_exits_proof.specs.pass_fetch.Blocks.{ends_of_blocks, fetched_blocks}
use Rattle.pass_exits_proof.specs.pass_fetch.Fetching.{fetch_of}
use Rattle.pass_exits_proof.specs.pass_fetch.Instrs.{term_operands}
use Rattle.pass_exits_proof.specs.pass_fetch.declared.fetch.Fetch.{Fetch}
use Rattle.pass_exits_proof.specs.ir_laws.facts.woven_rules.Pairs.{Pairwise}
use Rattle.pass_exits_proof.proofs.ir_laws.paths.shape.Fetched.{ordered_value}
use Rattle.pass_exits_proof.proofs.edges.calls.Fetched.{call_suspends}

-- ---- where the edges into a block come from

-- a block of a label that leads to another label
record IsSource (bs : List Block) (to label : ℕ) : Type 0 where
  at : ℕ
  block : Block
  got : slice_get bs at ≡ Some block
  same : block.label ≡ label
  leads_there : leads to block ≡ true

source_of : (bs : List Block) (to label : ℕ) → has (map (λ b. b.label) (filter (leads to) bs)) label ≡ true → IsSource bs to label
source_of [] to label h = absurd (cc)
source_of (b ∷ bs) to label h = on (leads to b) refl h (source_of bs to label)
  where
    later : IsSource bs to label → IsSource (b ∷ bs) to label
    later x = record { at = suc x.at; block = x.block; got = x.got; same = x.same; leads_there = x.leads_there }

    first : leads to b ≡ true → (c : Bool) → (b.label == label) ≡ c → (c || has (map (λ x. x.label) (filter (leads to) bs)) label) ≡ true → (has (map (λ x. x.label) (filter (leads to) bs)) label ≡ true → IsSource bs to label) → IsSource (b ∷ bs) to label
    first there true e k rest = record { at = 0; block = b; got = refl; same = equal_numbers b.label label e; leads_there = there }
    first there false e k rest = later (rest k)

    on : (c : Bool) → leads to b ≡ c → has (map (λ x. x.label) (if c then b ∷ filter (leads to) bs else filter (leads to) bs)) label ≡ true → (has (map (λ x. x.label) (filter (leads to) bs)) label ≡ true → IsSource bs to label) → IsSource (b ∷ bs) to label
    on true there k rest = first there (b.label == label) refl k rest
    on false there k rest = later (rest k)

some_phis : (ps : List Phi) (x : ℕ) (p : Phi) → slice_get ps x ≡ Some p → has_phis ps ≡ true
some_phis [] x p e = absurd (cc)
some_phis (q ∷ ps) x p e = refl

from_listed : (is : List Incoming) (x : ℕ) (i : Incoming) → slice_get is x ≡ Some i → IsListed i.from (incoming_labels is)
from_listed [] x i e = absurd (cc)
from_listed (j ∷ is) zero i e = let same : j ≡ i = cc in inl (ap (λ (y : Incoming). y.from) (sym same))
from_listed (j ∷ is) (suc x) i e = inr (from_listed is x i e)

listed_place : (is : List Instr) (i : Instr) → IsListed i is → (x : ℕ) × (slice_get is x ≡ Some i)
listed_place [] i l = absurd l
listed_place (j ∷ is) i (inl e) = (0, ap (λ (y : Instr). Some y) (sym e))
listed_place (j ∷ is) i (inr l) = let r = listed_place is i l in (suc r.0, r.1)

module _ (m : Module) (k : ℕ) (f : Function) (rules : KeepsFunctionRules m k f) where
  -- a phi names labels of blocks that lead to its own
  source : (q : ℕ) (c : Block) → slice_get f.blocks q ≡ Some c → (x : ℕ) (p : Phi) → slice_get c.phis x ≡ Some p → (y : ℕ) (i : Incoming) → slice_get p.incoming y ≡ Some i → IsSource f.blocks c.label i.from
  source q c got x p there y i e =
      let z = at_each _ c.phis x p (block_passes (breaks_edges f) k f rules.edges q c got).phis there in
      let fit : fits_edges (into_block (predecessors f) (block_at f (Some q))) p.incoming ≡ true = holds (fits_edges (into_block (predecessors f) (block_at f (Some q))) p.incoming) (ap (λ (o : Option ℕ). not (fits_edges (into_block (predecessors f) (block_at f o)) p.incoming)) (sym z.1) ∙ z.2) in
      let fits : fits_edges (predecessors f c.label) p.incoming ≡ true = subst (λ (o : Option Block). fits_edges (into_block (predecessors f) o) p.incoming ≡ true) got fit in
      let labels : List ℕ = predecessors f c.label in
      let rest : (list_all (has labels) (incoming_labels p.incoming) && not (list_any (differs p.incoming) p.incoming)) ≡ true = and_second (list_all (has (incoming_labels p.incoming)) labels) (list_all (has labels) (incoming_labels p.incoming) && not (list_any (differs p.incoming) p.incoming)) fits in
      let all : list_all (has labels) (incoming_labels p.incoming) ≡ true = and_first (list_all (has labels) (incoming_labels p.incoming)) (not (list_any (differs p.incoming) p.incoming)) rest in
      source_of f.blocks c.label i.from (all_listed (has labels) (incoming_labels p.incoming) all i.from (from_listed p.incoming y i e))

  module _ (coroutine : f.coroutine ≡ true) (calls : wrong_call k f ≡ None) (switches : wrong_switch k f ≡ None) (jumps : ArePhisEnteredByJumps f) where
    abbrev V : ℕ → Type 0
    V = IsSuspendValue f

    pub are_ordered : AreAllOrdered V f.blocks
    are_ordered = all_ordered V f.blocks (placed_calls k f coroutine calls switches)

    -- no phi takes a value from a block that ends in a suspend
    none_from : (j : ℕ) (b : Block) → slice_get f.blocks j ≡ Some b → (x : ℕ) (i : Instr) → slice_get b.instrs x ≡ Some i → is_suspend i ≡ true → Each (IsNotFrom b.label) f.blocks
    none_from j b got x i there s =
        each_there _ f.blocks
        (λ q c at.
        each_there _ c.phis
        (λ y p here.
        each_there _ p.incoming
        (λ z n e same.
        let d = source q c at y p here z n e in
        let one : d.at ≡ j = sym (own_label k f rules.definitions d.at d.block d.got) ∙ ap (position_of f) (d.same ∙ same) ∙ own_label k f rules.definitions j b got in
        let both : Some d.block ≡ Some b = sym d.got ∙ ap (slice_get f.blocks) one ∙ got in
        let block : d.block ≡ b = cc in
        let jump : b.term ≡ Terminator.Jump c.label = ap (λ (w : Block). w.term) (sym block) ∙ jumps q d.at c d.block at (some_phis c.phis y p here) d.got d.leads_there in
        let w = switched k f coroutine switches j x b i got there (call_suspends i s) in
        let no : Terminator.Jump c.label ≡ Terminator.Switch w.arg w.default w.cases = sym jump ∙ w.is in
        absurd (cc))))

    module _ (begin : ℕ) (t : List (Option Fetch)) (named : first_result Intrinsic.CoroBegin f ≡ Some begin) (held : IsHeld f begin t) (low : (v : ℕ) → V v → v < length f.names) (p0 : ℕ) where
      abbrev Rows : List (List Instr)
      Rows = ends_of_blocks t p0 (replicate p0 []) f.blocks

      held_block : (j : ℕ) (b : Block) → slice_get f.blocks j ≡ Some b → IsHeldBlock t Rows b
      held_block j b got = record {
        instrs = at_each _ f.blocks j b (all_held m k f begin t rules coroutine calls named held) got;
        row_none = λ i l s.
            let x = listed_place b.instrs i l in
            ends_other t b.label p0 (replicate p0 []) f.blocks (none_from j b got x.0 i x.1 s) ∙ rows_none t b.label p0;
        term_free = λ i l s.
            let x = listed_place b.instrs i l in
            let w = switched k f coroutine switches j x.0 b i got x.1 (call_suspends i s) in
            let v : V w.value = ordered_value V (length b.phis) b.instrs (at_each _ f.blocks j b are_ordered got) x.0 i x.1 s w.value w.result in
            subst (λ (e : Terminator). AreUnfetched t (term_operands e)) (sym w.is) (ap (fetch_of t) w.on ∙ held.results w.value v, tt);
      }

      pairs : (p n : ℕ) → length f.names ≤ n → Pairwise (IsBlockKept V) f.blocks (fetched_blocks t Rows p n f.blocks)
      pairs p n low_n =
          blocks_kept t V (length f.names) (λ v q e x up. default_same t (length f.names) v (low v x) (held.results v x) (λ u y. held.bases v u y x) q e up) Rows
          (ends_each t IsPlain (λ q x y e. fetch_plain q y) p0 (replicate p0 []) f.blocks (no_rows t IsPlain p0))
          p n f.blocks low_n are_ordered (each_there _ f.blocks held_block)

      pub fetch_steady : (p n : ℕ) → length f.names ≤ p → length f.names ≤ n → AreSteady V f.blocks (fetched_blocks t Rows p n f.blocks)
      fetch_steady p n low_p low_n = record {
        labels = all_labels V f.blocks (fetched_blocks t Rows p n f.blocks) (pairs p n low_n);
        calls = all_calls V f.blocks (fetched_blocks t Rows p n f.blocks) (pairs p n low_n) are_ordered;
        spares = λ v x s. all_spared t (length f.names) v (low v x) (held.results v x) (λ u y. held.bases v u y x) p0 p n f.blocks f.blocks low_p low_n s;
        ends = λ v x.
            let same : ends_total v (fetched_blocks t Rows p n f.blocks) ≡ ends_total v f.blocks = ends_same t (length f.names) v (low v x) (held.results v x) (λ u y. held.bases v u y x) Rows p n f.blocks low_n in
            omega (arith, same);
      }
