-- Paths of points as paths of blocks.
use Rattle.std.proofs.Common.{◌≡◌, ℕ, ◌+◌, ◌⊎◌, List, [], ◌∷◌, ◌++◌, length, Some, None, Option, refl, sym, ap, ◌∙◌, subst, ⊎_elim, inl, inr}
use Rattle.std.specs.Prelude.{slice_get}
use Rattle.rule_uses.specs.flow_blocks.Edges.{block_edges}
use Rattle.rule_uses.specs.Uses.{locals_in, phi_values, values_at}
use Rattle.flow_solver.specs.Paths.{IsListed}
use Rattle.ir_parts.specs.Contents.{ending_operands, instr_operands, result_of}
use Rattle.ir_model.specs.Names.{position_of}
use Rattle.ir_model.specs.declared.instr.Instr.{Instr}
use Rattle.ir_model.specs.declared.instr.Terminator.{Terminator}
use Rattle.ir_model.specs.declared.module.Block.{Block}
use Rattle.ir_model.specs.declared.module.Function.{Function}
use Rattle.run_step.specs.Step.{Fetched, Nowhere, AtInstr, AtTerm, fetch, fetch_in}
use Rattle.frame_crossing.proofs.Blocks.{HasTarget, IsPassed, at_end, at_instr, at_term, edge_is_out, length_further, made_before, made_in, none_made, one_further, passed, phis_are, target_is_edge, values_are}
use Rattle.frame_crossing.specs.EdgeUses.{IsUsedOn}
use Rattle.frame_crossing.specs.Paths.{BranchesTo, IsNeeded, IsNeededFrom, IsOutside, phis_at, used_by}
use Rattle.frame_crossing.specs.Paths.IsNeeded.{Use, Next, OnEdge, Across}

-- ---- needed from the front of a block on

-- instructions and the terminator behind them use v before it is made
abbrev pub IsOpenFrom : ℕ → List Instr → Terminator → Type 0
IsOpenFrom v [] t = IsListed v (locals_in (ending_operands t))
IsOpenFrom v (i ∷ is) t = IsListed v (locals_in (instr_operands i)) ⊎ ((result_of i ≡ Some v → ⊥) × IsOpenFrom v is t)

abbrev pub IsOpenIn : ℕ → Option Block → Type 0
IsOpenIn v None = ⊥
IsOpenIn v (Some b) = (IsListed v (phi_values b) → ⊥) × IsOpenFrom v b.instrs b.term

-- A path of blocks leads from the front of a block, its phis included, to a use of v, with no definition of v and no point of
-- the end block on it.
pub data IsNeededIn (f : Function) (v : ℕ) : ℕ → Type 0 where
  Open : (b : ℕ) → IsOutside f b → IsOpenIn v (slice_get f.blocks b) → IsNeededIn f v b
  ByUse : (from to : ℕ) → IsOutside f from → (IsListed v (values_at f from) → ⊥) → IsListed (from, to) (block_edges f) → IsUsedOn f v from to → IsNeededIn f v from
  ByEdge : (from to : ℕ) → IsOutside f from → (IsListed v (values_at f from) → ⊥) → IsListed (from, to) (block_edges f) → IsNeededIn f v to → IsNeededIn f v from

-- ---- from blocks to points

module _ (f : Function) (v b : ℕ) (out : IsOutside f b) (block : Block) (is_block : slice_get f.blocks b ≡ Some block) where
  walk_open : (front is : List Instr) → block.instrs ≡ front ++ is → IsOpenFrom v is block.term → IsNeeded f v b (length front)
  walk_open front [] e o = Use b (length front) out (subst (λ (x : Fetched). IsListed v (used_by x)) (sym (at_end f b block is_block front e)) o)
  walk_open front (i ∷ is) e o =
      let stands : fetch f b (length front) ≡ AtInstr i = at_instr f b block is_block front i is e in
      ⊎_elim
      (λ used. Use b (length front) out (subst (λ (x : Fetched). IsListed v (used_by x)) (sym stands) used))
      (λ rest. Next b (length front) i out stands rest.0 (subst (IsNeeded f v b) (length_further front i) (walk_open (front ++ i ∷ []) is (one_further block.instrs front i is e) rest.1)))
      o

  walk_on : (front is : List Instr) → block.instrs ≡ front ++ is → IsPassed v is → IsNeeded f v b (length block.instrs) → IsNeeded f v b (length front)
  walk_on front [] e p n = subst (IsNeeded f v b) (ap length (e ∙ append-none front)) n
    where
      append-none : (xs : List Instr) → xs ++ [] ≡ xs
      append-none [] = refl
      append-none (x ∷ xs) = ap (λ l. x ∷ l) (append-none xs)
  walk_on front (i ∷ is) e p n =
      Next b (length front) i out (at_instr f b block is_block front i is e) p.0
      (subst (IsNeeded f v b) (length_further front i) (walk_on (front ++ i ∷ []) is (one_further block.instrs front i is e) p.1 n))

abbrev pub IsNeededFront : Function → ℕ → ℕ → Type 0
IsNeededFront f v b = (IsListed v (phis_at f b) → ⊥) × IsNeeded f v b 0

no_phi : (f : Function) (v b : ℕ) (block : Block) → slice_get f.blocks b ≡ Some block → (IsListed v (values_at f b) → ⊥) → IsListed v (phis_at f b) → ⊥
no_phi f v b block e n h =
    n (subst (IsListed v) (sym (values_are f b block e)) (made_before v block.instrs (phi_values block) (subst (IsListed v) (phis_are f b block e) h)))

no_instr : (f : Function) (v b : ℕ) (block : Block) → slice_get f.blocks b ≡ Some block → (IsListed v (values_at f b) → ⊥) → IsPassed v block.instrs
no_instr f v b block e n = passed v block.instrs (λ m. n (subst (IsListed v) (sym (values_are f b block e)) (made_in v block.instrs (phi_values block) m)))

pub to_points : (f : Function) (v b : ℕ) → IsNeededIn f v b → IsNeededFront f v b
to_points f v _ (Open b out o) = on (slice_get f.blocks b) refl o
  where
    on : (x : Option Block) → slice_get f.blocks b ≡ x → IsOpenIn v x → IsNeededFront f v b
    on None e h = absurd h
    on (Some block) e h = (λ k. h.0 (subst (IsListed v) (phis_are f b block e) k), walk_open f v b out block e [] block.instrs refl h.1)
to_points f v _ (ByUse from to out n edge used) =
    let t : HasTarget f from to = edge_is_out f from to edge in (
      no_phi f v from t.block t.is_block n,
      walk_on f v from out t.block t.is_block [] t.block.instrs refl (no_instr f v from t.block t.is_block n)
          (OnEdge from (length t.block.instrs) t.label out (subst (BranchesTo t.label) (sym (at_term f from t.block t.is_block)) t.is_target) (subst (IsUsedOn f v from) t.leads used)),
    )
to_points f v _ (ByEdge from to out n edge needed) =
    let t : HasTarget f from to = edge_is_out f from to edge in
    let there : IsNeededFront f v (position_of f t.label) = subst (IsNeededFront f v) t.leads (to_points f v to needed) in (
      no_phi f v from t.block t.is_block n,
      walk_on f v from out t.block t.is_block [] t.block.instrs refl (no_instr f v from t.block t.is_block n)
          (Across from (length t.block.instrs) t.label out (subst (BranchesTo t.label) (sym (at_term f from t.block t.is_block)) t.is_target) there.0 there.1),
    )

-- ---- from points to blocks

-- behind the block v is used on an edge, or needed from a block on
abbrev IsBeyond : Function → ℕ → ℕ → Type 0
IsBeyond f v b = (to : ℕ) × (IsListed (b, to) (block_edges f) × (IsUsedOn f v b to ⊎ IsNeededIn f v to))

abbrev IsOpenOrBeyond : Function → ℕ → ℕ → List Instr → Terminator → Type 0
IsOpenOrBeyond f v b is t = IsOpenFrom v is t ⊎ (IsPassed v is × IsBeyond f v b)

-- what a needed value comes to in a block with this front
abbrev Comes : Function → ℕ → ℕ → ℕ → Type 0
Comes f v b at = (block : Block) → slice_get f.blocks b ≡ Some block → (front is : List Instr) → block.instrs ≡ front ++ is → length front ≡ at → IsOpenOrBeyond f v b is block.term

is_outside : (f : Function) (v b at : ℕ) → IsNeeded f v b at → IsOutside f b
is_outside f v _ _ (Use b at out u) = out
is_outside f v _ _ (Next b at i out e n rest) = out
is_outside f v _ _ (OnEdge b at label out br u) = out
is_outside f v _ _ (Across b at label out br n rest) = out

stands_in : (f : Function) (b at : ℕ) (x : Fetched) → (fetch_in None at ≡ x → ⊥) → fetch f b at ≡ x → (block : Block) × (slice_get f.blocks b ≡ Some block)
stands_in f b at x none e = on (slice_get f.blocks b) refl
  where
    on : (o : Option Block) → slice_get f.blocks b ≡ o → (block : Block) × (slice_get f.blocks b ≡ Some block)
    on None is = absurd (none (sym (ap (λ (o : Option Block). fetch_in o at) is) ∙ e))
    on (Some block) is = (block, is)

no_use_nowhere : (v : ℕ) (x : Fetched) → Nowhere ≡ x → IsListed v (used_by x) → ⊥
no_use_nowhere v x e h = subst (λ (y : Fetched). IsListed v (used_by y)) (sym e) h

no_branch_nowhere : (label : ℕ) (x : Fetched) → Nowhere ≡ x → BranchesTo label x → ⊥
no_branch_nowhere label x e h = subst (BranchesTo label) (sym e) h

has_block : (f : Function) (v b at : ℕ) → IsNeeded f v b at → (block : Block) × (slice_get f.blocks b ≡ Some block)
has_block f v _ _ (Use b at out u) = stands_in f b at (fetch f b at) (λ e. no_use_nowhere v (fetch f b at) e u) refl
has_block f v _ _ (Next b at i out e n rest) = stands_in f b at (AtInstr i) (λ (k : Nowhere ≡ AtInstr i). absurd (cc)) e
has_block f v _ _ (OnEdge b at label out br u) = stands_in f b at (fetch f b at) (λ e. no_branch_nowhere label (fetch f b at) e br) refl
has_block f v _ _ (Across b at label out br n rest) = stands_in f b at (fetch f b at) (λ e. no_branch_nowhere label (fetch f b at) e br) refl

same_instr : (i j : Instr) → AtInstr i ≡ AtInstr j → i ≡ j
same_instr i j e = cc

no_instr_at_end : (i : Instr) (t : Terminator) → AtInstr i ≡ AtTerm t → ⊥
no_instr_at_end i t e = cc

-- what is needed from the front on, by the sentence above
in_block : (f : Function) (v b : ℕ) → (IsListed v (phis_at f b) → ⊥) → IsOutside f b → (block : Block) → slice_get f.blocks b ≡ Some block → IsOpenOrBeyond f v b block.instrs block.term → IsNeededIn f v b
in_block f v b np out block e (inl o) = Open b out (subst (IsOpenIn v) (sym e) (λ k. np (subst (IsListed v) (sym (phis_are f b block e)) k), o))
in_block f v b np out block e (inr (p, far)) = ⊎_elim
    (λ used. ByUse b far.0 out none far.1.0 used)
    (λ needed. ByEdge b far.0 out none far.1.0 needed)
    far.1.1
  where
    none : IsListed v (values_at f b) → ⊥
    none h = none_made v block (λ k. np (subst (IsListed v) (sym (phis_are f b block e)) k)) p (subst (IsListed v) (values_are f b block e) h)

use_comes : (f : Function) (v b at : ℕ) → IsListed v (used_by (fetch f b at)) → Comes f v b at
use_comes f v b at u block e front [] is len =
    inl (subst (λ (x : Fetched). IsListed v (used_by x)) (ap (fetch f b) (sym len) ∙ at_end f b block e front is) u)
use_comes f v b at u block e front (i ∷ rest) is len =
    inl (inl (subst (λ (x : Fetched). IsListed v (used_by x)) (ap (fetch f b) (sym len) ∙ at_instr f b block e front i rest is) u))

next_comes : (f : Function) (v b at : ℕ) (i : Instr) → fetch f b at ≡ AtInstr i → (result_of i ≡ Some v → ⊥) → Comes f v b (at + 1) → Comes f v b at
next_comes f v b at i stands n later block e front [] is len =
    absurd (no_instr_at_end i block.term (sym stands ∙ ap (fetch f b) (sym len) ∙ at_end f b block e front is))
next_comes f v b at i stands n later block e front (j ∷ rest) is len =
    let same : i ≡ j = same_instr i j (sym stands ∙ ap (fetch f b) (sym len) ∙ at_instr f b block e front j rest is) in
    let other : result_of j ≡ Some v → ⊥ = subst (λ (x : Instr). result_of x ≡ Some v → ⊥) same n in
    ⊎_elim (λ o. inl (inr (other, o))) (λ p. inr ((other, p.0), p.1))
    (later block e (front ++ j ∷ []) rest (one_further block.instrs front j rest is) (length_further front j ∙ ap (λ (k : ℕ). k + 1) len))

branch_comes : (f : Function) (v b at label : ℕ) → BranchesTo label (fetch f b at) → IsUsedOn f v b (position_of f label) ⊎ IsNeededIn f v (position_of f label) → Comes f v b at
branch_comes f v b at label br far block e front [] is len =
    inr (tt, (position_of f label, (target_is_edge f b label block e (subst (BranchesTo label) (ap (fetch f b) (sym len) ∙ at_end f b block e front is) br), far)))
branch_comes f v b at label br far block e front (i ∷ rest) is len =
    absurd (subst (BranchesTo label) (ap (fetch f b) (sym len) ∙ at_instr f b block e front i rest is) br)

comes : (f : Function) (v b at : ℕ) → IsNeeded f v b at → Comes f v b at
comes f v _ _ (Use b at out u) = use_comes f v b at u
comes f v _ _ (Next b at i out e n rest) = next_comes f v b at i e n (comes f v b (at + 1) rest)
comes f v _ _ (OnEdge b at label out br u) = branch_comes f v b at label br (inl u)
comes f v _ _ (Across b at label out br n rest) =
    let found : (block : Block) × (slice_get f.blocks (position_of f label) ≡ Some block) = has_block f v (position_of f label) 0 rest in
    branch_comes f v b at label br
    (inr (in_block f v (position_of f label) n (is_outside f v (position_of f label) 0 rest) found.0 found.1 (comes f v (position_of f label) 0 rest found.0 found.1 [] found.0.instrs refl refl)))

pub to_blocks : (f : Function) (v b : ℕ) → IsNeededFront f v b → IsNeededIn f v b
to_blocks f v b front =
    let found : (block : Block) × (slice_get f.blocks b ≡ Some block) = has_block f v b 0 front.1 in
    in_block f v b front.0 (is_outside f v b 0 front.1) found.0 found.1 (comes f v b 0 front.1 found.0 found.1 [] found.0.instrs refl refl)

-- ---- the same from an edge on

pub from_edge : (f : Function) (v b label : ℕ) → IsNeededFrom f v b label → IsUsedOn f v b (position_of f label) ⊎ IsNeededIn f v (position_of f label)
from_edge f v b label n = ⊎_elim (λ used. inl used) (λ front. inr (to_blocks f v (position_of f label) front)) n

pub on_edge : (f : Function) (v b label : ℕ) → IsUsedOn f v b (position_of f label) ⊎ IsNeededIn f v (position_of f label) → IsNeededFrom f v b label
on_edge f v b label n = ⊎_elim (λ used. inl used) (λ needed. inr (to_points f v (position_of f label) needed)) n
