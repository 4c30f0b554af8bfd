-- Blocks, their edges and what stands at their points.
use Rattle.std.proofs.Common.{◌≡◌, ℕ, zero, suc, ◌+◌, ◌⊎◌, Bool, List, [], ◌∷◌, ◌++◌, length, map, Some, None, Option, refl, sym, ap, ◌∙◌, subst, ⊎_elim, inl, inr, arith, eq-eqb}
use Rattle.std.specs.Prelude.{option_to_list, slice_get, ◌==◌}
use Rattle.std.proofs.lemmas.List.{length-append}
use Rattle.std.proofs.lemmas.Option.{slice_get_past}
use Rattle.rule_uses.proofs.flow_blocks.Elements.{listed_append, listed_map, map_listed}
use Rattle.rule_uses.specs.flow_blocks.Edges.{block_edges, edges_of_blocks, edges_out}
use Rattle.rule_uses.specs.Uses.{block_values, made_by_instrs, phi_values, values_at, values_in}
use Rattle.flow_solver.proofs.Lists.{listed_front}
use Rattle.flow_solver.specs.Paths.{IsListed}
use Rattle.ir_parts.specs.Contents.{result_of}
use Rattle.ir_model.specs.Names.{position_of}
use Rattle.ir_model.specs.declared.instr.Instr.{Instr}
use Rattle.ir_model.specs.declared.module.Block.{Block}
use Rattle.ir_model.specs.declared.module.Function.{Function}
use Rattle.ir_paths.specs.Paths.{targets}
use Rattle.run_step.specs.Step.{AtInstr, AtTerm, fetch, fetch_in, fetch_or}
use Rattle.frame_crossing.specs.Paths.{phis_at, phis_in}

pub listed_back : {X : Type 0} (y : X) (xs zs : List X) → IsListed y zs → IsListed y (xs ++ zs)
listed_back y [] zs h = h
listed_back y (x ∷ xs) zs h = inr (listed_back y xs zs h)

-- ---- what stands at a point

pub get_behind : {X : Type 0} (xs : List X) (x : X) (rest : List X) → slice_get (xs ++ x ∷ rest) (length xs) ≡ Some x
get_behind [] x rest = refl
get_behind (y ∷ xs) x rest = get_behind xs x rest

module _ (f : Function) (b : ℕ) (block : Block) (is_block : slice_get f.blocks b ≡ Some block) where
  pub at_instr : (front : List Instr) (i : Instr) (rest : List Instr) → block.instrs ≡ front ++ i ∷ rest → fetch f b (length front) ≡ AtInstr i
  at_instr front i rest e =
      ap (λ (o : Option Block). fetch_in o (length front)) is_block
      ∙ ap (λ (o : Option Instr). fetch_or o (length front == length block.instrs) block.term) (ap (λ (l : List Instr). slice_get l (length front)) e ∙ get_behind front i rest)

  pub at_term : fetch f b (length block.instrs) ≡ AtTerm block.term
  at_term =
      ap (λ (o : Option Block). fetch_in o (length block.instrs)) is_block
      ∙ ap (λ (o : Option Instr). fetch_or o (length block.instrs == length block.instrs) block.term) (slice_get_past block.instrs (length block.instrs) (omega arith))
      ∙ ap (λ (c : Bool). fetch_or None c block.term) (eq-eqb (length block.instrs) (length block.instrs) refl)

  pub at_end : (front : List Instr) → block.instrs ≡ front ++ [] → fetch f b (length front) ≡ AtTerm block.term
  at_end front e = ap (fetch f b) (sym (ap length e ∙ length-append front [] ∙ (let same : length front + 0 ≡ length front = omega arith in same))) ∙ at_term

  pub values_are : values_at f b ≡ block_values block
  values_are = ap values_in is_block

  pub phis_are : phis_at f b ≡ phi_values block
  phis_are = ap phis_in is_block

append_again : {X : Type 0} (front : List X) (x : X) (rest : List X) → front ++ x ∷ rest ≡ (front ++ x ∷ []) ++ rest
append_again [] x rest = refl
append_again (y ∷ ys) x rest = ap (λ l. y ∷ l) (append_again ys x rest)

pub one_further : {X : Type 0} (xs front : List X) (x : X) (rest : List X) → xs ≡ front ++ x ∷ rest → xs ≡ (front ++ x ∷ []) ++ rest
one_further xs front x rest e = e ∙ append_again front x rest

pub length_further : {X : Type 0} (front : List X) (x : X) → length (front ++ x ∷ []) ≡ length front + 1
length_further front x = length-append front (x ∷ [])

-- ---- edges

pub record HasTarget (f : Function) (b to : ℕ) : Type 0 where
  pub block : Block
  pub is_block : slice_get f.blocks b ≡ Some block
  pub label : ℕ
  pub is_target : IsListed label (targets block.term)
  pub leads : to ≡ position_of f label

record IsOut (f : Function) (at : ℕ) (blocks : List Block) (from to : ℕ) : Type 0 where
  place : ℕ
  block : Block
  is_block : slice_get blocks place ≡ Some block
  is_from : from ≡ at + place
  label : ℕ
  is_target : IsListed label (targets block.term)
  leads : to ≡ position_of f label

edges_in : (f : Function) (at : ℕ) (blocks : List Block) (from to : ℕ) → IsListed (from, to) (edges_of_blocks f at blocks) → IsOut f at blocks from to
edges_in f at [] from to h = absurd h
edges_in f at (b ∷ bs) from to h = ⊎_elim here (λ k. later (edges_in f (at + 1) bs from to k)) (listed_append (from, to) (edges_out f at b) (edges_of_blocks f (at + 1) bs) h)
  where
    here : IsListed (from, to) (edges_out f at b) → IsOut f at (b ∷ bs) from to
    here k =
        let one : (t : ℕ) × (IsListed t (map (position_of f) (targets b.term)) × ((from, to) ≡ (at, t))) = listed_map (λ t. (at, t)) (from, to) (map (position_of f) (targets b.term)) k in
        let two : (l : ℕ) × (IsListed l (targets b.term) × (one.0 ≡ position_of f l)) = listed_map (position_of f) one.0 (targets b.term) one.1.0 in
        let first : from ≡ at = ap (λ (p : ℕ × ℕ). p.0) one.1.1 in
        record { place = 0; block = b; is_block = refl; is_from = (let same : from ≡ at + 0 = omega (arith, first) in same); label = two.0; is_target = two.1.0; leads = ap (λ (p : ℕ × ℕ). p.1) one.1.1 ∙ two.1.1 }

    later : IsOut f (at + 1) bs from to → IsOut f at (b ∷ bs) from to
    later o =
        let first = o.is_from in
        record { place = suc o.place; block = o.block; is_block = o.is_block; is_from = (let same : from ≡ at + suc o.place = omega (arith, first) in same); label = o.label; is_target = o.is_target; leads = o.leads }

pub edge_is_out : (f : Function) (from to : ℕ) → IsListed (from, to) (block_edges f) → HasTarget f from to
unfolding block_edges
edge_is_out f from to h =
    let o = edges_in f 0 f.blocks from to h in
    let first = o.is_from in
    let same : from ≡ o.place = omega (arith, first) in
    record { block = o.block; is_block = ap (slice_get f.blocks) same ∙ o.is_block; label = o.label; is_target = o.is_target; leads = o.leads }

in_edges : (f : Function) (at : ℕ) (blocks : List Block) (k label : ℕ) (b : Block) → slice_get blocks k ≡ Some b → IsListed label (targets b.term) → IsListed (at + k, position_of f label) (edges_of_blocks f at blocks)
in_edges f at [] k label b e h = absurd (cc)
in_edges f at (x ∷ bs) zero label b e h =
    let same : x ≡ b = some_same x b e in
    let start : at ≡ at + 0 = omega arith in
    listed_front (at + 0, position_of f label) (edges_out f at x) (edges_of_blocks f (at + 1) bs)
    (subst (λ (n : ℕ). IsListed (n, position_of f label) (edges_out f at x)) start
    (map_listed (λ t. (at, t)) (position_of f label) (map (position_of f) (targets x.term)) (map_listed (position_of f) label (targets x.term) (subst (λ (y : Block). IsListed label (targets y.term)) (sym same) h))))
  where
    some_same : (x y : Block) → Some x ≡ Some y → x ≡ y
    some_same x y e = cc
in_edges f at (x ∷ bs) (suc k) label b e h =
    let start : (at + 1) + k ≡ at + suc k = omega arith in
    listed_back (at + suc k, position_of f label) (edges_out f at x) (edges_of_blocks f (at + 1) bs)
    (subst (λ (n : ℕ). IsListed (n, position_of f label) (edges_of_blocks f (at + 1) bs)) start (in_edges f (at + 1) bs k label b e h))

pub target_is_edge : (f : Function) (b label : ℕ) (block : Block) → slice_get f.blocks b ≡ Some block → IsListed label (targets block.term) → IsListed (b, position_of f label) (block_edges f)
unfolding block_edges
target_is_edge f b label block e h =
    let start : 0 + b ≡ b = omega arith in
    subst (λ (n : ℕ). IsListed (n, position_of f label) (edges_of_blocks f 0 f.blocks)) start (in_edges f 0 f.blocks b label block e h)

-- ---- made values

-- one of these instructions gives the value; none of them does
abbrev pub IsMadeIn : ℕ → List Instr → Type 0
IsMadeIn v [] = ⊥
IsMadeIn v (i ∷ is) = (result_of i ≡ Some v) ⊎ IsMadeIn v is

abbrev pub IsPassed : ℕ → List Instr → Type 0
IsPassed v [] = Unit {0}
IsPassed v (i ∷ is) = (result_of i ≡ Some v → ⊥) × IsPassed v is

pub not_made : (v : ℕ) (is : List Instr) → IsPassed v is → IsMadeIn v is → ⊥
not_made v [] p m = m
not_made v (i ∷ is) p m = ⊎_elim (λ e. p.0 e) (λ k. not_made v is p.1 k) m

pub passed : (v : ℕ) (is : List Instr) → (IsMadeIn v is → ⊥) → IsPassed v is
passed v [] n = tt
passed v (i ∷ is) n = (λ e. n (inl e), passed v is (λ m. n (inr m)))

pub is_result : (v : ℕ) (o : Option ℕ) (vs : List ℕ) → IsListed v (option_to_list o ++ vs) → (o ≡ Some v) ⊎ IsListed v vs
is_result v None vs h = inr h
is_result v (Some w) vs h = ⊎_elim (λ e. inl (ap (λ (x : ℕ). Some x) (sym e))) (λ k. inr k) h

some_number : (a b : ℕ) → Some a ≡ Some b → a ≡ b
some_number a b e = cc

pub as_result : (v : ℕ) (o : Option ℕ) (vs : List ℕ) → o ≡ Some v → IsListed v (option_to_list o ++ vs)
as_result v None vs e = absurd (cc)
as_result v (Some w) vs e = inl (sym (some_number w v e))

pub behind_result : (v : ℕ) (o : Option ℕ) (vs : List ℕ) → IsListed v vs → IsListed v (option_to_list o ++ vs)
behind_result v None vs h = h
behind_result v (Some w) vs h = inr h

pub made_split : (v : ℕ) (is : List Instr) (before : List ℕ) → IsListed v (made_by_instrs before is) → IsListed v before ⊎ IsMadeIn v is
made_split v [] before h = inl h
made_split v (i ∷ is) before h = ⊎_elim
    (λ k. ⊎_elim (λ e. inr (inl e)) (λ b. inl b) (is_result v (result_of i) before k))
    (λ m. inr (inr m))
    (made_split v is (option_to_list (result_of i) ++ before) h)

pub made_before : (v : ℕ) (is : List Instr) (before : List ℕ) → IsListed v before → IsListed v (made_by_instrs before is)
made_before v [] before h = h
made_before v (i ∷ is) before h = made_before v is (option_to_list (result_of i) ++ before) (behind_result v (result_of i) before h)

pub made_in : (v : ℕ) (is : List Instr) (before : List ℕ) → IsMadeIn v is → IsListed v (made_by_instrs before is)
made_in v [] before m = absurd m
made_in v (i ∷ is) before m = ⊎_elim
    (λ e. made_before v is (option_to_list (result_of i) ++ before) (as_result v (result_of i) before e))
    (λ k. made_in v is (option_to_list (result_of i) ++ before) k)
    m

pub none_made : (v : ℕ) (block : Block) → (IsListed v (phi_values block) → ⊥) → IsPassed v block.instrs → IsListed v (block_values block) → ⊥
none_made v block np p h = ⊎_elim np (not_made v block.instrs p) (made_split v block.instrs (phi_values block) h)
