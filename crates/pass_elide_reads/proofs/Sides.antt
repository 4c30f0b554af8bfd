-- What blocks on two ways make is read on the first of them alone, where a path leads. In two blocks that fetch the same
-- it isn't read either.
use Rattle.std.proofs.Common.{◌≡◌, ◌≢◌, ◌⊎◌, ◌∙◌, ◌<◌, inl, inr, ⊎_elim, ℕ, zero, suc, IsTrue, List, [], ◌∷◌, Option, None, Some, ap, arith, length, refl, subst, sym}
use Rattle.std.specs.Prelude.{slice_get}
use Rattle.pass_elide_edges.proofs.pass_elide_proof.pass_proofs.ir_laws.facts.Lists.{get_within}
use Rattle.pass_elide_edges.proofs.pass_elide_proof.pass_proofs.ir_laws.facts.Truth.{either}
use Rattle.pass_elide_edges.proofs.pass_elide_proof.pass_proofs.pass_kept_proof.Read.{read_used}
use Rattle.pass_elide_reads.proofs.Diamonds.{HasSides, IsSide, Leads, goes_along}
use Rattle.pass_elide_reads.proofs.Used.{made_alone, no_end, no_instr, no_phi}
use Rattle.pass_elide_ready.specs.pass_elide_proof.Edges.{label_from, phis_at}
use Rattle.pass_elide_ready.specs.pass_elide_proof.Places.{instrs_of}
use Rattle.pass_elide_ready.specs.pass_elide_proof.Shapes.{Addresses, AreSameFetches, Loads}
use Rattle.pass_elide_ready.specs.pass_elide_proof.pass_proofs.flow_blocks.Reach.{Edge, IsReached, Start}
use Rattle.pass_elide_ready.specs.pass_elide_proof.pass_proofs.flow_solver.Paths.{IsListed}
use Rattle.pass_elide_ready.specs.pass_elide_proof.pass_proofs.ir_model.declared.instr.Instr.{Instr}
use Rattle.pass_elide_ready.specs.pass_elide_proof.pass_proofs.ir_model.declared.instr.Phi.{Phi}
use Rattle.pass_elide_ready.specs.pass_elide_proof.pass_proofs.ir_model.declared.instr.Terminator.{Terminator}
use Rattle.pass_elide_ready.specs.pass_elide_proof.pass_proofs.ir_model.declared.module.Block.{Block}
use Rattle.pass_elide_ready.specs.pass_elide_proof.pass_proofs.ir_model.declared.module.Function.{Function}
use Rattle.pass_elide_ready.specs.pass_elide_proof.pass_proofs.ir_model.declared.module.Module.{Module}
use Rattle.pass_elide_ready.specs.pass_elide_proof.pass_proofs.ir_model.declared.operand.Operand.{Operand}
use Rattle.pass_elide_ready.specs.pass_elide_proof.pass_proofs.ir_parts.Contents.{ending_operands, instr_operands, result_of}
use Rattle.pass_elide_ready.specs.pass_elide_proof.pass_proofs.rule_laws.rules.function_rules.Kept.{KeepsFunctionRules}
use Rattle.pass_elide_ready.specs.pass_elide_proof.pass_proofs.rule_uses.Undefined.{ReachesWithout}
use Rattle.pass_elide_ready.specs.pass_elide_proof.pass_proofs.rule_uses.Uses.{locals_in}
use Rattle.pass_elide_ready.specs.pass_elide_proof.pass_proofs.run_step.Reads.{reads}
use Rattle.pass_elide_ready.specs.pass_elide_proof.pass_proofs.run_step.Step.{AtTerm, fetch, incoming_from}

-- ---- fetches of the same

pub same_reads : (v : ℕ) (i j : Instr) → AreSameFetches i j → IsTrue (reads v i) → IsTrue (reads v j)
same_reads v _ _ (Loads u w align ty cell) is = is
same_reads v _ _ (Addresses u w base distance) is = is

pub turned : (i j : Instr) → AreSameFetches i j → AreSameFetches j i
turned _ _ (Loads u w align ty cell) = Loads w u align ty cell
turned _ _ (Addresses u w base distance) = Addresses w u base distance

element : {A : Type 0} (xs : List A) (k : ℕ) → k < length xs → (x : A) × (slice_get xs k ≡ Some x)
element [] k lt = absurd (omega (arith, lt))
element (x ∷ xs) zero lt = (x, refl)
element (x ∷ xs) (suc k) lt = element xs k (omega (arith, lt))

-- ---- paths

-- a path to a block that is entered from one alone leads to that one
pub came_from : (f : Function) (home to : ℕ) → to ≢ 0 → ((from : ℕ) → Leads f from to → from ≡ home)
    → IsReached f (0 ∷ []) [] to → IsReached f (0 ∷ []) [] home
came_from f home _ inner into (Start to (inl first)) = absurd (inner first)
came_from f home _ inner into (Start to (inr none)) = absurd none
came_from f home _ inner into (Edge from to path edge free) = subst (IsReached f (0 ∷ []) []) (into from edge) path

module _ (f : Function) (home first last target : ℕ) (s : HasSides f home first last target) where
  pub home_reached : (b : ℕ) → IsSide first last b → IsReached f (0 ∷ []) [] b → IsReached f (0 ∷ []) [] home
  home_reached b (inl is) path =
      came_from f home first s.inner_first s.into_first (subst (IsReached f (0 ∷ []) []) is path)
  home_reached b (inr is) path = on s.into_last
    where
      here : IsReached f (0 ∷ []) [] last
      here = subst (IsReached f (0 ∷ []) []) is path

      on : (first ≡ last) ⊎ ((from : ℕ) → Leads f from last → from ≡ first) → IsReached f (0 ∷ []) [] home
      on (inl same) =
          came_from f home first s.inner_first s.into_first (subst (IsReached f (0 ∷ []) []) (sym same) here)
      on (inr by) =
          came_from f home first s.inner_first s.into_first (came_from f first last s.inner_last by here)

  pub last_reached : IsReached f (0 ∷ []) [] home → IsReached f (0 ∷ []) [] last
  last_reached path = on s.to_last
    where
      one : IsReached f (0 ∷ []) [] first
      one = Edge home first path s.to_first (λ l. l)

      on : (first ≡ last) ⊎ Leads f first last → IsReached f (0 ∷ []) [] last
      on (inl same) = subst (IsReached f (0 ∷ []) []) same one
      on (inr edge) = Edge first last one edge (λ l. l)

-- ---- two ways

module _ (m : Module) (number : ℕ) (f : Function) (rules : KeepsFunctionRules m number f)
    (home first last side target : ℕ) (one : HasSides f home first last target)
    (two : HasSides f home side side target) (apart_first : side ≢ first) (apart_last : side ≢ last)
    (loads : (k : ℕ) (i j : Instr) → slice_get (instrs_of f last) k ≡ Some i
    → slice_get (instrs_of f side) k ≡ Some j → AreSameFetches i j)
    (many : length (instrs_of f last) ≡ length (instrs_of f side)) (v given at : ℕ) (i : Instr)
    (there : slice_get (instrs_of f given) at ≡ Some i) (gives : result_of i ≡ Some v) where
  module _ (on_way : IsSide first last given) where
    not_home : home ≢ given
    not_home is = by on_way
      where
        by : IsSide first last given → ⊥
        by (inl e) = one.apart_first (is ∙ e)
        by (inr e) = one.apart_last (is ∙ e)

    not_side : side ≢ given
    not_side is = by on_way
      where
        by : IsSide first last given → ⊥
        by (inl e) = apart_first (is ∙ e)
        by (inr e) = apart_last (is ∙ e)

    around : ReachesWithout f v home → ReachesWithout f v target
    around =
        goes_along f home side side target two v (made_alone m number f rules v given at i there gives home not_home)
        (made_alone m number f rules v given at i there gives side not_side)
        (made_alone m number f rules v given at i there gives side not_side)

    unread_past : (b : ℕ) → IsReached f (0 ∷ []) [] b → (IsSide first last b → ⊥) → (k : ℕ) (j : Instr)
        → slice_get (instrs_of f b) k ≡ Some j → IsTrue (reads v j) → ⊥
    unread_past b path away k j here is =
        no_instr m number f rules v given at i there gives home first last target one on_way around b path away k j here
        (read_used v j is)

    side_away : IsSide first last side → ⊥
    side_away (inl is) = apart_first is
    side_away (inr is) = apart_last is

    unread_last : IsReached f (0 ∷ []) [] last → (k : ℕ) (j : Instr) → slice_get (instrs_of f last) k ≡ Some j
        → IsTrue (reads v j) → ⊥
    unread_last path k j here is =
        let lt = get_within (instrs_of f last) k j here in
        let y = element (instrs_of f side) k (omega (arith, lt, many)) in
        let path' = last_reached f home side side target two (home_reached f home first last target one last (inr refl) path) in
        unread_past side path' side_away k y.0 y.1 (same_reads v j y.0 (loads k j y.0 here y.1) is)

    -- what the first way makes is read in no block but its first
    pub unread_first : (b : ℕ) → IsReached f (0 ∷ []) [] b → b ≢ first → (k : ℕ) (j : Instr)
        → slice_get (instrs_of f b) k ≡ Some j → IsTrue (reads v j) → ⊥
    unread_first b path not k j here is =
        ⊎_elim
        (λ (same : b ≡ last). unread_last (subst (IsReached f (0 ∷ []) []) same path) k j
        (ap (λ (n : ℕ). slice_get (instrs_of f n) k) (sym same) ∙ here) is)
        (λ (other : b ≡ last → ⊥). unread_past b path (none other) k j here is) (either b last)
      where
        none : (b ≡ last → ⊥) → IsSide first last b → ⊥
        none other (inl e) = not e
        none other (inr e) = other e

    -- nor is it used at the end of a block past the way
    pub unended_first : (b : ℕ) → IsReached f (0 ∷ []) [] b → (IsSide first last b → ⊥) → (term : Terminator)
        → fetch f b (length (instrs_of f b)) ≡ AtTerm term → IsListed v (locals_in (ending_operands term)) → ⊥
    unended_first b path away term stands l =
        no_end m number f rules v given at i there gives home first last target one on_way around b path away term stands l

    pub untaken_first : (b : ℕ) → IsReached f (0 ∷ []) [] b → (IsSide first last b → ⊥) → (own : Block)
        → slice_get f.blocks b ≡ Some own → (to : ℕ) (p : Phi) → IsListed p (phis_at f to)
        → incoming_from p.incoming (label_from f b) ≡ Operand.Local v → ⊥
    untaken_first b path away own got to p l takes =
        no_phi m number f rules v given at i there gives home first last target one on_way around b path away own got to p
        l takes

  module _ (on_side : given ≡ side) where
    side_home : home ≢ given
    side_home is = two.apart_first (is ∙ on_side)

    first_given : first ≢ given
    first_given is = apart_first (sym on_side ∙ sym is)

    last_given : last ≢ given
    last_given is = apart_last (sym on_side ∙ sym is)

    around_side : ReachesWithout f v home → ReachesWithout f v target
    around_side =
        goes_along f home first last target one v
        (made_alone m number f rules v given at i there gives home side_home)
        (made_alone m number f rules v given at i there gives first first_given)
        (made_alone m number f rules v given at i there gives last last_given)

    unread_other : (b : ℕ) → IsReached f (0 ∷ []) [] b → (IsSide side side b → ⊥) → (k : ℕ) (j : Instr)
        → slice_get (instrs_of f b) k ≡ Some j → IsTrue (reads v j) → ⊥
    unread_other b path away k j here is =
        no_instr m number f rules v given at i there gives home side side target two (inl on_side) around_side b path away
        k j here (read_used v j is)

    last_away : IsSide side side last → ⊥
    last_away (inl is) = apart_last (sym is)
    last_away (inr is) = apart_last (sym is)

    unread_here : IsReached f (0 ∷ []) [] side → (k : ℕ) (j : Instr) → slice_get (instrs_of f side) k ≡ Some j
        → IsTrue (reads v j) → ⊥
    unread_here path k j here is =
        let lt = get_within (instrs_of f side) k j here in
        let y = element (instrs_of f last) k (omega (arith, lt, many)) in
        let path' = last_reached f home first last target one (home_reached f home side side target two side (inl refl) path) in
        unread_other last path' last_away k y.0 y.1
        (same_reads v j y.0 (turned y.0 j (loads k y.0 j y.1 here)) is)

    -- what the block beside makes is read nowhere
    pub unread_side : (b : ℕ) → IsReached f (0 ∷ []) [] b → (k : ℕ) (j : Instr)
        → slice_get (instrs_of f b) k ≡ Some j → IsTrue (reads v j) → ⊥
    unread_side b path k j here is =
        ⊎_elim
        (λ (same : b ≡ side). unread_here (subst (IsReached f (0 ∷ []) []) same path) k j
        (ap (λ (n : ℕ). slice_get (instrs_of f n) k) (sym same) ∙ here) is)
        (λ (other : b ≡ side → ⊥). unread_other b path (λ e. ⊎_elim other other e) k j here is) (either b side)

    pub unended_side : (b : ℕ) → IsReached f (0 ∷ []) [] b → b ≢ side → (term : Terminator)
        → fetch f b (length (instrs_of f b)) ≡ AtTerm term → IsListed v (locals_in (ending_operands term)) → ⊥
    unended_side b path other term stands l =
        no_end m number f rules v given at i there gives home side side target two (inl on_side) around_side b path
        (λ e. ⊎_elim other other e) term stands l

    pub untaken_side : (b : ℕ) → IsReached f (0 ∷ []) [] b → b ≢ side → (own : Block)
        → slice_get f.blocks b ≡ Some own → (to : ℕ) (p : Phi) → IsListed p (phis_at f to)
        → incoming_from p.incoming (label_from f b) ≡ Operand.Local v → ⊥
    untaken_side b path other own got to p l takes =
        no_phi m number f rules v given at i there gives home side side target two (inl on_side) around_side b path
        (λ e. ⊎_elim other other e) own got to p l takes
