-- Where uses of values of coro.frame become uses of begin's value, no use is undefined (rule F2).
use Rattle.std.proofs.Common.{◌≡◌, ◌⊎◌, inl, inr, ℕ, suc, ◌+◌, Bool, true, false, List, [], ◌∷◌, ◌++◌, length, refl, sym, ap, ◌∙◌, subst, arith}
use Rattle.std.proofs.lemmas.Option.{slice_get-map, slice_get_past}
use Rattle.std.specs.Prelude.{Some, None, Option, map, option_map, option_to_list, slice_get, if◌then◌else◌}
use Rattle.rule_laws.specs.flow_blocks.Edges.{block_edges, edges_of_blocks}
use Rattle.rule_laws.specs.ir_base.declared.outcome.Place.{Place}
use Rattle.rule_laws.specs.rule_uses.Undefined.{Entry, IsFirstUndefined, IsUndefined, Next, ReachesWithout, params_of}
use Rattle.rule_laws.specs.rule_uses.Uses.{Use, block_uses, block_values, blocks_uses, incoming_use, incoming_uses, instr_uses, local_of, locals_in, made_by_instrs, made_by_phis, phi_uses, phi_values, use_of, uses_at, uses_of, values_at, values_in}
use Rattle.rule_laws.proofs.ir_laws.facts.Members.{each_behind}
use Rattle.rule_laws.proofs.ir_laws.facts.Lists.{get_within}
use Rattle.rule_laws.proofs.rules.renamed.Outside.{each_left, each_right}
use Rattle.pass_early_proof.proofs.early.renaming.Parts.{position_same, targets_same}
use Rattle.pass_early_proof.proofs.early.renaming.Simulation.{other_call}
use Rattle.rule_laws.proofs.rules.renamed.Uses.{none_undefined, result_spelt}
use Rattle.pass_early_proof.specs.early.renaming.Passes.{renamed_block, renamed_coroutine}
use Rattle.pass_early_proof.specs.early.renaming.Regular.{IsPlain, IsRegular}
use Rattle.rule_laws.specs.ir_laws.facts.renamed.Regular.{passes}
use Rattle.pass_early.specs.Renaming.{is_renamed, renamed, renamed_incoming, renamed_instr, renamed_phi, renamed_term, renamed_value}
use Rattle.pass_early.specs.declared.renaming.Renaming.{Renaming}
use Rattle.rule_laws.proofs.rules.path_rules.Outside.{NothingOutside}
use Rattle.pass_early_proof.proofs.early.path_rules.RenamedOperands.{operands_renamed, result_stays}
use Rattle.rule_laws.proofs.rules.path_rules.SavedUses.{all_defined}
use Rattle.rule_laws.proofs.ir_laws.paths.path_rules.Where.{has_where}
use Rattle.rule_laws.specs.flow_solver.Paths.{IsListed}
use Rattle.rule_laws.specs.ir_parts.Contents.{ending_operands, instr_operands, result_of}
use Rattle.rule_laws.specs.ir_parts.Parts.{instr_place}
use Rattle.ir_model.specs.Names.{position_of}
use Rattle.ir_model.specs.declared.instr.Incoming.{Incoming}
use Rattle.ir_model.specs.declared.instr.Instr.{Instr}
use Rattle.ir_model.specs.declared.instr.Phi.{Phi}
use Rattle.ir_model.specs.declared.instr.Terminator.{Terminator}
use Rattle.ir_model.specs.declared.module.Block.{Block}
use Rattle.ir_model.specs.declared.module.Function.{Function}
use Rattle.ir_model.specs.declared.operand.Callee.{Callee}
use Rattle.ir_model.specs.declared.operand.Intrinsic.{Intrinsic}
use Rattle.ir_model.specs.declared.operand.Operand.{Operand}
use Rattle.rule_laws.proofs.ir_paths.Search.{Has, leads-more, or_left, same_point-itself}
use Rattle.rule_laws.specs.ir_paths.Paths.{Leads, has_point, nexts, same_point, targets}
use Rattle.rule_laws.specs.ir_paths.Windows.{instr_at, instr_in, is_call_of}
use Rattle.rule_laws.specs.ir_paths.declared.point.Point.{Point}
use Rattle.rule_laws.specs.run_step.Step.{phis_of}
use Rattle.rule_laws.proofs.flow_points.Neighbours.{next-inner}
use Rattle.rule_laws.proofs.flow_reach.Ways.{edge_leaves}
use Rattle.rule_laws.specs.run_laws.changed.Changed.{Each}
use Rattle.rule_laws.specs.rule_windows.Outside.{needs_begin}
use Rattle.rule_laws.specs.rule_windows.Points.{begins, entry}
use Rattle.rule_laws.specs.rule_windows.Sets.{IsWithoutBegin}

frame_needs : (i : Instr) → is_call_of Intrinsic.CoroFrame i ≡ true → needs_begin i ≡ true
frame_needs (Instr.Call result must_tail ty (Callee.Intrinsic Intrinsic.CoroFrame) args) e = refl
frame_needs _ e = absurd (cc)

module _ (r : Renaming) where
  -- ---- what is made stays

  phis_make : (xs : List ℕ) (ps : List Phi) → made_by_phis xs (map (renamed_phi r) ps) ≡ made_by_phis xs ps
  phis_make xs [] = refl
  phis_make xs (p ∷ ps) = phis_make (p.result ∷ xs) ps

  instrs_make : (xs : List ℕ) (is : List Instr) → made_by_instrs xs (map (renamed_instr r) is) ≡ made_by_instrs xs is
  instrs_make xs [] = refl
  instrs_make xs (i ∷ is) =
      ap (λ (o : Option ℕ). made_by_instrs (option_to_list o ++ xs) (map (renamed_instr r) is)) (result_stays r i)
      ∙ instrs_make (option_to_list (result_of i) ++ xs) is

  block_makes : (b : Block) → block_values (renamed_block r b) ≡ block_values b
  block_makes b = ap (λ (xs : List ℕ). made_by_instrs xs (map (renamed_instr r) b.instrs)) (phis_make [] b.phis) ∙ instrs_make (phi_values b) b.instrs

  locals_renamed : (os : List Operand) → locals_in (map (renamed r) os) ≡ map (renamed_value r) (locals_in os)
  locals_renamed [] = refl
  locals_renamed (Operand.Local v ∷ os) = ap (λ (vs : List ℕ). renamed_value r v ∷ vs) (locals_renamed os)
  locals_renamed (Operand.Global n ∷ os) = locals_renamed os
  locals_renamed (Operand.Number z ∷ os) = locals_renamed os
  locals_renamed (Operand.True ∷ os) = locals_renamed os
  locals_renamed (Operand.False ∷ os) = locals_renamed os
  locals_renamed (Operand.Null ∷ os) = locals_renamed os
  locals_renamed (Operand.None ∷ os) = locals_renamed os
  locals_renamed (Operand.Poison ∷ os) = locals_renamed os

  local_renamed : (x : Operand) → local_of (renamed r x) ≡ option_map (renamed_value r) (local_of x)
  local_renamed (Operand.Local v) = refl
  local_renamed (Operand.Global n) = refl
  local_renamed (Operand.Number z) = refl
  local_renamed Operand.True = refl
  local_renamed Operand.False = refl
  local_renamed Operand.Null = refl
  local_renamed Operand.None = refl
  local_renamed Operand.Poison = refl

-- no phi makes a value that is renamed
none_by_plain : (r : Renaming) (v : ℕ) → is_renamed r v ≡ true → (xs : List ℕ) (ps : List Phi) → Each (λ p. IsPlain r p.result) ps → (IsListed v xs → ⊥) → IsListed v (made_by_phis xs ps) → ⊥
none_by_plain r v renamed xs [] plain none l = none l
none_by_plain r v renamed xs (p ∷ ps) plain none l = none_by_plain r v renamed (p.result ∷ xs) ps plain.1 more l
  where
    more : IsListed v (p.result ∷ xs) → ⊥
    more (inl e) = let t : false ≡ true = sym (plain.0).stays ∙ ap (is_renamed r) (sym e) ∙ renamed in cc
    more (inr k) = none k

module _ (r : Renaming) (func : ℕ) (f : Function) (ok : IsRegular f r) (outside : NothingOutside f) (no_params : (n : ℕ) → is_renamed r n ≡ true → IsListed n (params_of f) → ⊥) where
  abbrev g : Function
  g = renamed_coroutine r f

  -- ---- paths without begin

  -- a path leads from the entry to the point, and begin stands nowhere on it before
  abbrev Walks : Point → Type 0
  Walks p = (p ≡ entry) ⊎ ((has_point (begins f) entry ≡ false) × Leads f (begins f) entry p)

  walk_on : (p q : Point) → Walks p → has_point (begins f) p ≡ false → Has (nexts f p) q → Walks q
  walk_on p q (inl e) none edge = inr (ap (has_point (begins f)) (sym e) ∙ none, record { between = []; is_path = ap (λ (x : Point). has_point (nexts f x) q) (sym e) ∙ edge })
  walk_on p q (inr h) none edge = inr (h.0, leads-more f (begins f) entry p q h.1 none edge)

  not_begin : (p : Point) (i : Instr) → instr_at f p ≡ Some i → is_call_of Intrinsic.CoroBegin i ≡ false → has_point (begins f) p ≡ false
  not_begin p i e c = has_where (is_call_of Intrinsic.CoroBegin) f p ∙ ap (passes (is_call_of Intrinsic.CoroBegin)) e ∙ c

  no_frame : (p : Point) (i : Instr) → Walks p → instr_at f p ≡ Some i → is_call_of Intrinsic.CoroFrame i ≡ true → ⊥
  no_frame p i w e c = outside.instrs p i e (inr (frame_needs i c, on w))
    where
      on : Walks p → IsWithoutBegin f p
      on (inl same) = record { begins_later = ap (has_point (begins f)) (sym same) ∙ not_begin p i e (other_call Intrinsic.CoroFrame Intrinsic.CoroBegin i c refl); path = inl same }
      on (inr h) = record { begins_later = h.0; path = inr (record { start = entry; is_start = refl; path = h.1 }) }

  -- where begin's value isn't made, no path has come to begin, and no value of coro.frame is made
  abbrev Sound : ℕ → ℕ → List ℕ → Type 0
  Sound k j before = (IsListed r.to before → ⊥) → Walks (record { block = k; at = j }) × ((v : ℕ) → is_renamed r v ≡ true → IsListed v before → ⊥)

  listed_own : (v : ℕ) (o : Option ℕ) (xs : List ℕ) → o ≡ Some v → IsListed v (option_to_list o ++ xs)
  listed_own v None xs e = absurd (cc)
  listed_own v (Some n) xs e = let same : v ≡ n = cc in inl same

  listed_behind : (v : ℕ) (o : Option ℕ) (xs : List ℕ) → IsListed v xs → IsListed v (option_to_list o ++ xs)
  listed_behind v None xs l = l
  listed_behind v (Some n) xs l = inr l

  listed_which : (v : ℕ) (o : Option ℕ) (xs : List ℕ) → IsListed v (option_to_list o ++ xs) → (o ≡ Some v) ⊎ IsListed v xs
  listed_which v None xs l = inr l
  listed_which v (Some n) xs (inl e) = inl (ap Some (sym e))
  listed_which v (Some n) xs (inr l) = inr l

  sound_on : (k j : ℕ) (b : Block) (i : Instr) (before : List ℕ) → slice_get f.blocks k ≡ Some b → slice_get b.instrs j ≡ Some i → Sound k j before → Sound k (suc j) (option_to_list (result_of i) ++ before)
  sound_on k j b i before got stands sound none = (walk_on here (record { block = k; at = suc j }) was.0 (not_begin here i there no_call) edge, unmade)
    where
      here : Point
      here = record { block = k; at = j }

      there : instr_at f here ≡ Some i
      there = ap (λ (o : Option Block). instr_in o j) got ∙ stands

      was : Walks here × ((v : ℕ) → is_renamed r v ≡ true → IsListed v before → ⊥)
      was = sound (λ l. none (listed_behind r.to (result_of i) before l))

      by_call : (t : Bool) → is_call_of Intrinsic.CoroBegin i ≡ t → t ≡ false
      by_call true c = absurd (none (listed_own r.to (result_of i) before (result_spelt i ∙ ok.begins here i there c)))
      by_call false c = refl

      no_call : is_call_of Intrinsic.CoroBegin i ≡ false
      no_call = by_call (is_call_of Intrinsic.CoroBegin i) refl

      edge : Has (nexts f here) (record { block = k; at = suc j })
      edge = ap (λ (ps : List Point). has_point ps (record { block = k; at = suc j })) (next-inner f here b got (get_within b.instrs j i stands)) ∙ one
        where
          one : has_point (record { block = k; at = j + 1 } ∷ []) (record { block = k; at = suc j }) ≡ true
          one = (let same : suc j ≡ j + 1 = omega arith in ap (λ (n : ℕ). has_point (record { block = k; at = j + 1 } ∷ []) (record { block = k; at = n })) same) ∙ or_left (same_point (record { block = k; at = j + 1 }) (record { block = k; at = j + 1 })) false (same_point-itself (record { block = k; at = j + 1 }))

      unmade : (v : ℕ) → is_renamed r v ≡ true → IsListed v (option_to_list (result_of i) ++ before) → ⊥
      unmade v renamed l = on (listed_which v (result_of i) before l)
        where
          on : (result_of i ≡ Some v) ⊎ IsListed v before → ⊥
          on (inl e) = no_frame here i was.0 there (ok.frame_calls here i v there (sym (result_spelt i) ∙ e) renamed)
          on (inr m) = was.1 v renamed m

  sound_first : (k : ℕ) (b : Block) → slice_get f.blocks k ≡ Some b → Walks (record { block = k; at = 0 }) → Sound k 0 (phi_values b)
  sound_first k b got w none = (w, λ v renamed l. none_by_plain r v renamed [] b.phis (subst (λ (o : Option Block). Each (λ p. IsPlain r p.result) (phis_of o)) got (ok.phis k)) (λ x. x) l)

  sound_rest : (k j : ℕ) (b : Block) (is : List Instr) (before : List ℕ) → slice_get f.blocks k ≡ Some b → ((m : ℕ) → slice_get is m ≡ slice_get b.instrs (j + m)) → Sound k j before → Sound k (j + length is) (made_by_instrs before is)
  sound_rest k j b [] before got same sound = let at : j ≡ j + 0 = omega arith in subst (λ (n : ℕ). Sound k n before) at sound
  sound_rest k j b (i ∷ is) before got same sound =
      let first : j + 0 ≡ j = omega arith in
      let at : suc j + length is ≡ j + suc (length is) = omega arith in
      subst (λ (n : ℕ). Sound k n (made_by_instrs before (i ∷ is))) at
      (sound_rest k (suc j) b is (option_to_list (result_of i) ++ before) got
      (λ m. same (suc m) ∙ (let next : j + suc m ≡ suc j + m = omega arith in ap (slice_get b.instrs) next))
      (sound_on k j b i before got (ap (slice_get b.instrs) (sym first) ∙ sym (same 0)) sound))

  sound_block : (k : ℕ) (b : Block) → slice_get f.blocks k ≡ Some b → Walks (record { block = k; at = 0 }) → Sound k (length b.instrs) (block_values b)
  sound_block k b got w =
      let all : 0 + length b.instrs ≡ length b.instrs = omega arith in
      subst (λ (n : ℕ). Sound k n (block_values b)) all
      (sound_rest k 0 b b.instrs (phi_values b) got (λ m. let same : m ≡ 0 + m = omega arith in ap (slice_get b.instrs) same) (sound_first k b got w))

  -- ---- paths of blocks without begin

  walks_to : (k : ℕ) → ReachesWithout f r.to k → Walks (record { block = k; at = 0 })
  walks_to _ Entry = inl refl
  walks_to _ (Next from to h unmade edge) =
      let x = edge_leaves f from to edge in
      let w = sound_block from x.block x.is_block (walks_to from h) (λ l. unmade (subst (λ (o : Option Block). IsListed r.to (values_in o)) (sym x.is_block) l)) in
      let end : Point = record { block = from; at = length x.block.instrs } in
      walk_on end (record { block = to; at = 0 }) w.0 (past from x.block x.is_block) x.leads
    where
      past : (from : ℕ) (b : Block) → slice_get f.blocks from ≡ Some b → has_point (begins f) (record { block = from; at = length b.instrs }) ≡ false
      past from b got =
          has_where (is_call_of Intrinsic.CoroBegin) f (record { block = from; at = length b.instrs })
          ∙ ap (passes (is_call_of Intrinsic.CoroBegin)) (ap (λ (o : Option Block). instr_in o (length b.instrs)) got ∙ slice_get_past b.instrs (length b.instrs) (omega arith))

  -- what a block makes, where begin's value isn't made and no path has come to begin
  block_sound : (k : ℕ) → ReachesWithout f r.to k → (IsListed r.to (values_at f k) → ⊥) → (v : ℕ) → is_renamed r v ≡ true → IsListed v (values_at f k) → ⊥
  block_sound k h none v renamed l = on (slice_get f.blocks k) refl
    where
      on : (o : Option Block) → slice_get f.blocks k ≡ o → ⊥
      on None e = subst (λ (o : Option Block). IsListed v (values_in o)) e l
      on (Some b) e = (sound_block k b e (walks_to k h) (λ m. none (subst (λ (o : Option Block). IsListed r.to (values_in o)) (sym e) m))).1 v renamed (subst (λ (o : Option Block). IsListed v (values_in o)) e l)

  reaches_other : (v : ℕ) → is_renamed r v ≡ true → (k : ℕ) → ReachesWithout f r.to k → ReachesWithout f v k
  reaches_other v renamed _ Entry = Entry
  reaches_other v renamed _ (Next from to h unmade edge) = Next from to (reaches_other v renamed from h) (block_sound from h unmade v renamed) edge

  values_same : (k : ℕ) → values_at g k ≡ values_at f k
  values_same k = ap values_in (slice_get-map (renamed_block r) f.blocks k) ∙ on (slice_get f.blocks k)
    where
      on : (o : Option Block) → values_in (option_map (renamed_block r) o) ≡ values_in o
      on None = refl
      on (Some b) = block_makes r b

  labels_same : (from : ℕ) (ts : List ℕ) → map {B = ℕ × ℕ} (λ to. (from, to)) (map (position_of g) ts) ≡ map (λ to. (from, to)) (map (position_of f) ts)
  labels_same from [] = refl
  labels_same from (t ∷ ts) = λ k. (from, position_same r f t k) ∷ labels_same from ts k

  edges_same : (at : ℕ) (bs : List Block) → edges_of_blocks g at (map (renamed_block r) bs) ≡ edges_of_blocks f at bs
  edges_same at [] = refl
  edges_same at (b ∷ bs) = λ k. (ap (λ (ts : List ℕ). map {B = ℕ × ℕ} (λ to. (at, to)) (map (position_of g) ts)) (targets_same r b.term) ∙ labels_same at (targets b.term)) k ++ edges_same (at + 1) bs k

  block_edges_same : block_edges g ≡ block_edges f
  unfolding block_edges
  block_edges_same = edges_same 0 f.blocks

  reaches_back : (v k : ℕ) → ReachesWithout g v k → ReachesWithout f v k
  reaches_back v _ Entry = Entry
  reaches_back v _ (Next from to h unmade edge) = Next from to (reaches_back v from h) (λ l. unmade (subst (IsListed v) (sym (values_same from)) l)) (subst (IsListed {X = ℕ × ℕ} (from, to)) block_edges_same edge)

  -- ---- uses

  abbrev Fine : Function → Use → Type 0
  Fine h u = IsUndefined h u → ⊥

  -- of values made in the block before a use: none is a value of coro.frame, where begin's isn't among them
  abbrev Clear : ℕ → List ℕ → Type 0
  Clear k before = ReachesWithout f r.to k → (IsListed r.to before → ⊥) → (v : ℕ) → is_renamed r v ≡ true → IsListed v before → ⊥

  same_fine : (p q : Place) (a b v : ℕ) (xs ys : List ℕ) → a ≡ b → ys ≡ xs → Fine f (use_of p a xs v) → Fine g (use_of q b ys v)
  same_fine p q a b v xs ys block same fine undefined =
      fine (record {
        reaches = subst (ReachesWithout f v) (sym block) (reaches_back v b undefined.reaches);
        not_before = λ l. undefined.not_before (subst (IsListed v) (sym same) l);
        no_param = undefined.no_param;
      })

  one_fine : (p q : Place) (a b v : ℕ) (xs ys : List ℕ) → a ≡ b → ys ≡ xs → Clear a xs → Fine f (use_of p a xs v) → Fine g (use_of q b ys (renamed_value r v))
  one_fine p q a b v xs ys block same clear fine = on (is_renamed r v) refl
    where
      on : (t : Bool) → is_renamed r v ≡ t → Fine g (use_of q b ys (if t then r.to else v))
      on true renamed undefined =
          let reaches : ReachesWithout f r.to a = subst (ReachesWithout f r.to) (sym block) (reaches_back r.to b undefined.reaches) in
          fine (record {
            reaches = reaches_other v renamed a reaches;
            not_before = clear reaches (λ l. undefined.not_before (subst (IsListed r.to) (sym same) l)) v renamed;
            no_param = no_params v renamed;
          })
      on false renamed undefined = same_fine p q a b v xs ys block same fine undefined

  values_fine : (p q : Place) (k : ℕ) (xs ys : List ℕ) → ys ≡ xs → Clear k xs → (vs : List ℕ) → Each (Fine f) (map (use_of p k xs) vs) → Each (Fine g) (map (use_of q k ys) (map (renamed_value r) vs))
  values_fine p q k xs ys same clear [] fine = tt
  values_fine p q k xs ys same clear (v ∷ vs) fine = (one_fine p q k k v xs ys refl same clear fine.0, values_fine p q k xs ys same clear vs fine.1)

  plain_fine : (p q : Place) (k : ℕ) (xs ys : List ℕ) → ys ≡ xs → (vs : List ℕ) → Each (Fine f) (map (use_of p k xs) vs) → Each (Fine g) (map (use_of q k ys) vs)
  plain_fine p q k xs ys same [] fine = tt
  plain_fine p q k xs ys same (v ∷ vs) fine = (same_fine p q k k v xs ys refl same fine.0, plain_fine p q k xs ys same vs fine.1)

  operands_fine : (p q : Place) (k : ℕ) (xs ys : List ℕ) → ys ≡ xs → Clear k xs → (os : List Operand) → Each (Fine f) (uses_at p k xs os) → Each (Fine g) (uses_at q k ys (map (renamed r) os))
  operands_fine p q k xs ys same clear os fine = subst (λ (vs : List ℕ). Each (Fine g) (map (use_of q k ys) vs)) (sym (locals_renamed r os)) (values_fine p q k xs ys same clear (locals_in os) fine)

  -- the first operand renamed, and the others as they were
  first_fine : (p q : Place) (k : ℕ) (xs ys : List ℕ) → ys ≡ xs → Clear k xs → (x : Operand) (os : List Operand) → Each (Fine f) (uses_at p k xs (x ∷ os)) → Each (Fine g) (uses_at q k ys (renamed r x ∷ os))
  first_fine p q k xs ys same clear x os fine = subst (λ (o : Option ℕ). Each (Fine g) (map (use_of q k ys) (option_to_list o ++ locals_in os))) (sym (local_renamed r x)) (on (local_of x) fine)
    where
      on : (o : Option ℕ) → Each (Fine f) (map (use_of p k xs) (option_to_list o ++ locals_in os)) → Each (Fine g) (map (use_of q k ys) (option_to_list (option_map (renamed_value r) o) ++ locals_in os))
      on None h = plain_fine p q k xs ys same (locals_in os) h
      on (Some v) h = (one_fine p q k k v xs ys refl same clear h.0, plain_fine p q k xs ys same (locals_in os) h.1)

  ending_fine : (p q : Place) (k : ℕ) (xs ys : List ℕ) → ys ≡ xs → Clear k xs → (t : Terminator) → Each (Fine f) (uses_at p k xs (ending_operands t)) → Each (Fine g) (uses_at q k ys (ending_operands (renamed_term r t)))
  ending_fine p q k xs ys same clear (Terminator.Jump label) fine = tt
  ending_fine p q k xs ys same clear (Terminator.Branch x a b) fine = first_fine p q k xs ys same clear x [] fine
  ending_fine p q k xs ys same clear (Terminator.Switch arg default cases) fine = first_fine p q k xs ys same clear arg.value (map (λ c. c.arg.value) cases) fine
  ending_fine p q k xs ys same clear (Terminator.Ret None) fine = tt
  ending_fine p q k xs ys same clear (Terminator.Ret (Some a)) fine = first_fine p q k xs ys same clear a.value [] fine
  ending_fine p q k xs ys same clear Terminator.Unreachable fine = tt

  clear_by : (k j : ℕ) (before : List ℕ) → (ReachesWithout f r.to k → Sound k j before) → Clear k before
  clear_by k j before sound h none = (sound h none).1

  instrs_fine : (k at to j : ℕ) (b : Block) (is : List Instr) (xs ys : List ℕ) → slice_get f.blocks k ≡ Some b → ((m : ℕ) → slice_get is m ≡ slice_get b.instrs (j + m)) → ys ≡ xs → (ReachesWithout f r.to k → Sound k j xs) → Each (Fine f) (instr_uses func k at xs is) → Each (Fine g) (instr_uses func k to ys (map (renamed_instr r) is))
  instrs_fine k at to j b [] xs ys got there same sound fine = tt
  instrs_fine k at to j b (i ∷ is) xs ys got there same sound fine =
      let first : j + 0 ≡ j = omega arith in
      each_behind (Fine g) (uses_at (instr_place func k to) k ys (instr_operands (renamed_instr r i))) (instr_uses func k (to + 1) (option_to_list (result_of (renamed_instr r i)) ++ ys) (map (renamed_instr r) is))
      (subst (λ (os : List Operand). Each (Fine g) (uses_at (instr_place func k to) k ys os)) (sym (operands_renamed r i))
      (operands_fine (instr_place func k at) (instr_place func k to) k xs ys same (clear_by k j xs sound) (instr_operands i) (each_left (Fine f) (uses_at (instr_place func k at) k xs (instr_operands i)) (instr_uses func k (at + 1) (option_to_list (result_of i) ++ xs) is) fine)))
      (instrs_fine k (at + 1) (to + 1) (suc j) b is (option_to_list (result_of i) ++ xs) (option_to_list (result_of (renamed_instr r i)) ++ ys) got
      (λ m. there (suc m) ∙ (let next : j + suc m ≡ suc j + m = omega arith in ap (slice_get b.instrs) next))
      (λ n. option_to_list (result_stays r i n) ++ same n)
      (λ h. sound_on k j b i xs got (ap (slice_get b.instrs) (sym first) ∙ sym (there 0)) (sound h))
      (each_right (Fine f) (uses_at (instr_place func k at) k xs (instr_operands i)) (instr_uses func k (at + 1) (option_to_list (result_of i) ++ xs) is) fine))

  incoming_fine : (p : Place) (is : List Incoming) → Each (Fine f) (incoming_uses f p is) → Each (Fine g) (incoming_uses g p (map (renamed_incoming r) is))
  incoming_fine p [] fine = tt
  incoming_fine p (i ∷ is) fine =
      each_behind (Fine g) (map (incoming_use g p (renamed_incoming r i)) (option_to_list (local_of (renamed r i.value)))) (incoming_uses g p (map (renamed_incoming r) is))
      (subst (λ (o : Option ℕ). Each (Fine g) (map (incoming_use g p (renamed_incoming r i)) (option_to_list o))) (sym (local_renamed r i.value))
      (on (local_of i.value) (each_left (Fine f) (map (incoming_use f p i) (option_to_list (local_of i.value))) (incoming_uses f p is) fine)))
      (incoming_fine p is (each_right (Fine f) (map (incoming_use f p i) (option_to_list (local_of i.value))) (incoming_uses f p is) fine))
    where
      on : (o : Option ℕ) → Each (Fine f) (map (incoming_use f p i) (option_to_list o)) → Each (Fine g) (map (incoming_use g p (renamed_incoming r i)) (option_to_list (option_map (renamed_value r) o)))
      on None h = tt
      on (Some v) h = (
        one_fine p p (position_of f i.from) (position_of g i.from) v (values_at f (position_of f i.from)) (values_at g (position_of g i.from)) (sym (position_same r f i.from))
            (ap (values_at g) (position_same r f i.from) ∙ values_same (position_of f i.from)) (block_sound (position_of f i.from)) h.0,
        tt,
      )

  phis_fine : (k at : ℕ) (ps : List Phi) → Each (Fine f) (phi_uses f func k at ps) → Each (Fine g) (phi_uses g func k at (map (renamed_phi r) ps))
  phis_fine k at [] fine = tt
  phis_fine k at (p ∷ ps) fine =
      each_behind (Fine g) (incoming_uses g (instr_place func k at) (map (renamed_incoming r) p.incoming)) (phi_uses g func k (at + 1) (map (renamed_phi r) ps))
      (incoming_fine (instr_place func k at) p.incoming (each_left (Fine f) (incoming_uses f (instr_place func k at) p.incoming) (phi_uses f func k (at + 1) ps) fine))
      (phis_fine k (at + 1) ps (each_right (Fine f) (incoming_uses f (instr_place func k at) p.incoming) (phi_uses f func k (at + 1) ps) fine))

  block_fine : (k : ℕ) (b : Block) → slice_get f.blocks k ≡ Some b → Each (Fine f) (block_uses f func k b) → Each (Fine g) (block_uses g func k (renamed_block r b))
  unfolding block_uses
  block_fine k b got fine =
      let phis : List Use = phi_uses f func k 0 b.phis in
      let instrs : List Use = instr_uses func k (length b.phis) (phi_values b) b.instrs in
      let p : Place = instr_place func k (length b.phis + length b.instrs) in
      let c : Block = renamed_block r b in
      let q : Place = instr_place func k (length c.phis + length c.instrs) in
      let end : List Use = uses_at p k (block_values b) (ending_operands b.term) in
      let rest = each_right (Fine f) phis (instrs ++ end) fine in
      each_behind (Fine g) (phi_uses g func k 0 c.phis) (instr_uses func k (length c.phis) (phi_values c) c.instrs ++ uses_at q k (block_values c) (ending_operands c.term))
      (phis_fine k 0 b.phis (each_left (Fine f) phis (instrs ++ end) fine))
      (each_behind (Fine g) (instr_uses func k (length c.phis) (phi_values c) c.instrs) (uses_at q k (block_values c) (ending_operands c.term))
      (instrs_fine k (length b.phis) (length c.phis) 0 b b.instrs (phi_values b) (phi_values c) got (λ m. let same : m ≡ 0 + m = omega arith in ap (slice_get b.instrs) same) (phis_make r [] b.phis) (λ h. sound_first k b got (walks_to k h)) (each_left (Fine f) instrs end rest))
      (ending_fine p q k (block_values b) (block_values c) (block_makes r b) (clear_by k (length b.instrs) (block_values b) (λ h. sound_block k b got (walks_to k h))) b.term (each_right (Fine f) instrs end rest)))

  blocks_fine : (k : ℕ) (bs : List Block) → ((m : ℕ) → slice_get bs m ≡ slice_get f.blocks (k + m)) → Each (Fine f) (blocks_uses f func k bs) → Each (Fine g) (blocks_uses g func k (map (renamed_block r) bs))
  blocks_fine k [] there fine = tt
  blocks_fine k (b ∷ bs) there fine =
      let first : k + 0 ≡ k = omega arith in
      each_behind (Fine g) (block_uses g func k (renamed_block r b)) (blocks_uses g func (k + 1) (map (renamed_block r) bs))
      (block_fine k b (ap (slice_get f.blocks) (sym first) ∙ sym (there 0)) (each_left (Fine f) (block_uses f func k b) (blocks_uses f func (k + 1) bs) fine))
      (blocks_fine (k + 1) bs (λ m. there (suc m) ∙ (let next : k + suc m ≡ k + 1 + m = omega arith in ap (slice_get f.blocks) next)) (each_right (Fine f) (block_uses f func k b) (blocks_uses f func (k + 1) bs) fine))

  pub undefined_renamed : IsFirstUndefined f (uses_of func f) None → IsFirstUndefined g (uses_of func g) None
  undefined_renamed h = all_defined g (uses_of func g) (blocks_fine 0 f.blocks (λ m. let same : m ≡ 0 + m = omega arith in ap (slice_get f.blocks) same) (none_undefined f (uses_of func f) None h refl))
