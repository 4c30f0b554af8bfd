-- Paths behind suspends don't come to the entry block, so they stay when its allocas are moved to the front.
use Rattle.std.proofs.Common.{◌≡◌, inl, inr, ⊎_elim, ℕ, zero, suc, ◌+◌, Bool, true, false, List, [], ◌∷◌, ◌++◌, length, None, Option, Some, ap, refl, sym, subst, ◌∙◌, arith}
use Rattle.std.specs.List.{flat_map, list_any}
use Rattle.std.specs.Prelude.{filter, option_map, slice_get, unwrap_or, ◌==◌, ◌||◌, if◌then◌else◌}
use Rattle.std.proofs.lemmas.Bool.{cases_Bool}
use Rattle.std.proofs.lemmas.Option.{slice_get_within}
use Rattle.pass_early_proof.specs.flow_blocks.Reach.{Edge, IsReached, Start}
use Rattle.pass_early_proof.specs.rule_shape.Switches.{wrong_switch}
use Rattle.pass_early_proof.specs.rule_phis.Edges.{breaks_edges, first_wrong_edge, is_empty, leads, predecessors}
use Rattle.pass_early_proof.proofs.ir_laws.facts.Truth.{equal_numbers, holds}
use Rattle.pass_early_proof.proofs.ir_laws.paths.renamed.Outside.{where_pass}
use Rattle.pass_early_proof.proofs.rule_laws.rules.renamed.Switches.{none_part}
use Rattle.pass_early_proof.specs.ir_laws.facts.renamed.Regular.{passes}
use Rattle.pass_early_proof.proofs.rule_laws.rules.path_rules.Holding.{of_parts}
use Rattle.pass_early_proof.specs.flow_solver.Paths.{IsListed}
use Rattle.pass_edges_proof.proofs.edges.rules.CaseLabels.{switch_target}
use Rattle.pass_edges_proof.proofs.edges.rules.Switched.{switched}
use Rattle.pass_early_proof.specs.ir_laws.facts.branches.MovedState.{IsSwitch}
use Rattle.pass_early_proof.specs.pass_front.Front.{is_alloca, is_no_alloca, with_allocas_first, with_front_allocas}
use Rattle.pass_early_proof.specs.ir_parts.Contents.{result_of}
use Rattle.pass_early_proof.specs.ir_parts.Parts.{parts_of}
use Rattle.ir_model.specs.Names.{first_where, position_of}
use Rattle.ir_model.specs.declared.instr.Incoming.{Incoming}
use Rattle.ir_model.specs.declared.instr.Instr.{Instr}
use Rattle.ir_model.specs.declared.instr.Phi.{Phi}
use Rattle.ir_model.specs.declared.module.Block.{Block}
use Rattle.ir_model.specs.declared.module.Function.{Function}
use Rattle.ir_model.specs.declared.operand.Intrinsic.{Intrinsic}
use Rattle.pass_early_proof.specs.ir_paths.Paths.{targets}
use Rattle.pass_early_proof.specs.ir_paths.Windows.{end_block, instr_at, instr_in, is_call_of, label_at, label_of_term}
use Rattle.pass_early_proof.specs.ir_paths.declared.point.Point.{Point}
use Rattle.pass_edges_proof.proofs.edges.exit_rules.Shape.{suspend_is}
use Rattle.pass_early_proof.proofs.rule_laws.rules.threaded.Single.{listed_leads}
use Rattle.pass_early_proof.proofs.rule_laws.rules.threaded.Sources.{none_filtered}
use Rattle.pass_early_proof.proofs.ir_laws.paths.threaded.Whole.{has_listed, listed_has}
use Rattle.pass_early_proof.proofs.ir_laws.facts.Numbers.{First, IsSource, Same}
use Rattle.pass_early_proof.proofs.ir_laws.facts.Lists.{came_from, in_front, last_stays, source_of}
use Rattle.pass_edges_proof.proofs.edges.front_rules.Shape.{flat_front}
use Rattle.pass_early_proof.proofs.rule_laws.rules.front_rules.Uses.{same_edges, same_position}
use Rattle.pass_early_proof.specs.rule_laws.frames.crossing.Crossed.{IsNothingNeeded}
use Rattle.pass_early_proof.specs.rule_laws.frames.needed.Crossed.{AreFramesUnneeded}
use Rattle.pass_early_proof.specs.run_step.Step.{Fetched, fetch, fetch_in, fetch_or}
use Rattle.pass_early_proof.proofs.frame_slots.Points.{where_complete}
use Rattle.pass_early_proof.specs.frame_crossing.Crossing.{suspends_of as suspend_points}
use Rattle.pass_early_proof.specs.frame_crossing.EdgeUses.{IsUsedOn, blocks_uses, edge_use, edge_uses, incoming_uses, phis_uses, uses_by}
use Rattle.pass_early_proof.specs.frame_crossing.Paths.{Across, BranchesTo, IsNeeded, IsNeededBehind, IsNeededFrom, IsOutside, Next, OnEdge, Use, phis_at, phis_in, used_by}
use Rattle.pass_early_proof.specs.frame_crossing.declared.edge_use.EdgeUse.{EdgeUse}
use Rattle.pass_early_proof.specs.frame_crossing.Values.{blocks_defined, distinct, instrs_defined, is_apart, params_defined, phis_defined, result_unless, values_of}
use Rattle.pass_early_proof.specs.rule_uses.Uses.{local_of}

-- ---- the end's block

no_end : (i : Instr) → is_alloca i ≡ true → is_call_of Intrinsic.CoroEnd i ≡ false
no_end (Instr.Alloca r ty align) e = refl
no_end _ e = absurd (cc)

any_skip : (is rest : List Instr) → list_any (is_call_of Intrinsic.CoroEnd) (filter is_alloca is ++ rest) ≡ list_any (is_call_of Intrinsic.CoroEnd) rest
any_skip [] rest = refl
any_skip (i ∷ is) rest = on (is_alloca i) refl (any_skip is rest)
  where
    on : (t : Bool) → is_alloca i ≡ t → list_any (is_call_of Intrinsic.CoroEnd) (filter is_alloca is ++ rest) ≡ list_any (is_call_of Intrinsic.CoroEnd) rest → list_any (is_call_of Intrinsic.CoroEnd) ((if t then i ∷ filter is_alloca is else filter is_alloca is) ++ rest) ≡ list_any (is_call_of Intrinsic.CoroEnd) rest
    on true e more = ap (λ (b : Bool). b || list_any (is_call_of Intrinsic.CoroEnd) (filter is_alloca is ++ rest)) (no_end i e) ∙ more
    on false e more = more

any_others : (is : List Instr) → list_any (is_call_of Intrinsic.CoroEnd) (filter is_no_alloca is) ≡ list_any (is_call_of Intrinsic.CoroEnd) is
any_others [] = refl
any_others (i ∷ is) = on (is_alloca i) refl (any_others is)
  where
    on : (t : Bool) → is_alloca i ≡ t → list_any (is_call_of Intrinsic.CoroEnd) (filter is_no_alloca is) ≡ list_any (is_call_of Intrinsic.CoroEnd) is → list_any (is_call_of Intrinsic.CoroEnd) (if (if t then false else true) then i ∷ filter is_no_alloca is else filter is_no_alloca is) ≡ (is_call_of Intrinsic.CoroEnd i || list_any (is_call_of Intrinsic.CoroEnd) is)
    on true e more = more ∙ sym (ap (λ (b : Bool). b || list_any (is_call_of Intrinsic.CoroEnd) is) (no_end i e))
    on false e more = ap (λ (b : Bool). is_call_of Intrinsic.CoroEnd i || b) more

end_by : (bs : List Block) → unwrap_or (first_where (λ (b : Block). list_any (is_call_of Intrinsic.CoroEnd) b.instrs) (with_allocas_first bs)) (length (with_allocas_first bs)) ≡ unwrap_or (first_where (λ (b : Block). list_any (is_call_of Intrinsic.CoroEnd) b.instrs) bs) (length bs)
end_by [] = refl
end_by (b ∷ bs) =
    ap (λ (t : Bool). unwrap_or (if t then Some 0 else option_map suc (first_where (λ (c : Block). list_any (is_call_of Intrinsic.CoroEnd) c.instrs) bs)) (suc (length bs)))
    (any_skip b.instrs (filter is_no_alloca b.instrs) ∙ any_others b.instrs)

pub same_end : (f : Function) → end_block (with_front_allocas f) ≡ end_block f
same_end f = end_by f.blocks

-- ---- the values

no_value : (i : Instr) → is_alloca i ≡ true → result_unless (is_apart i) (result_of i) ≡ []
no_value (Instr.Alloca r ty align) e = refl
no_value _ e = absurd (cc)

instrs_flat : (is : List Instr) → instrs_defined is ≡ flat_map (λ (i : Instr). result_unless (is_apart i) (result_of i)) is
instrs_flat [] = refl
instrs_flat (i ∷ is) = ap (λ (vs : List ℕ). result_unless (is_apart i) (result_of i) ++ vs) (instrs_flat is)

front_defined : (is : List Instr) → instrs_defined (in_front is) ≡ instrs_defined is
front_defined is = instrs_flat (in_front is) ∙ flat_front (λ (i : Instr). result_unless (is_apart i) (result_of i)) no_value is ∙ sym (instrs_flat is)

values_by : (bs : List Block) → blocks_defined (with_allocas_first bs) ≡ blocks_defined bs
values_by [] = refl
values_by (b ∷ bs) = ap (λ (vs : List ℕ). phis_defined b.phis ++ (vs ++ blocks_defined bs)) (front_defined b.instrs)

pub same_values : (f : Function) → values_of (with_front_allocas f) ≡ values_of f
same_values f = ap (λ (vs : List ℕ). distinct [] (params_defined f.params ++ vs)) (values_by f.blocks)

-- ---- uses on edges

module _ (f : Function) where
  abbrev h : Function
  h = with_front_allocas f

  same_incoming : (to : ℕ) (is : List Incoming) → incoming_uses h to is ≡ incoming_uses f to is
  same_incoming to [] = refl
  same_incoming to (i ∷ is) = λ k. uses_by (same_position f i.from k) to (local_of i.value) ++ same_incoming to is k

  same_phis : (to : ℕ) (ps : List Phi) → phis_uses h to ps ≡ phis_uses f to ps
  same_phis to [] = refl
  same_phis to (p ∷ ps) = λ k. same_incoming to p.incoming k ++ same_phis to ps k

  rest_uses : (at : ℕ) (bs : List Block) → blocks_uses h at bs ≡ blocks_uses f at bs
  rest_uses at [] = refl
  rest_uses at (b ∷ bs) = λ k. same_phis at b.phis k ++ rest_uses (at + 1) bs k

  all_uses : (bs : List Block) → blocks_uses h 0 (with_allocas_first bs) ≡ blocks_uses f 0 bs
  all_uses [] = refl
  all_uses (b ∷ bs) = λ k. same_phis 0 b.phis k ++ rest_uses 1 bs k

  same_edge_uses : edge_uses h ≡ edge_uses f
  same_edge_uses = all_uses f.blocks

  used_on : (v from label : ℕ) → IsUsedOn h v from (position_of h label) → IsUsedOn f v from (position_of f label)
  used_on v from label u =
      subst (λ (us : List EdgeUse). IsListed (edge_use from (position_of f label) v) us) same_edge_uses
      (subst (λ (n : ℕ). IsListed (edge_use from n v) (edge_uses h)) (same_position f label) u)

-- ---- other blocks than the entry

other_block : (bs : List Block) (k : ℕ) → (k ≡ 0 → ⊥) → slice_get (with_allocas_first bs) k ≡ slice_get bs k
other_block [] k h = refl
other_block (b ∷ bs) zero h = absurd (h refl)
other_block (b ∷ bs) (suc k) h = refl

phis_by : (bs : List Block) (k : ℕ) → phis_in (slice_get (with_allocas_first bs) k) ≡ phis_in (slice_get bs k)
phis_by [] k = refl
phis_by (b ∷ bs) zero = refl
phis_by (b ∷ bs) (suc k) = refl

label_by : (n : ℕ) (bs : List Block) (k : ℕ) → label_at n (slice_get (with_allocas_first bs) k) ≡ label_at n (slice_get bs k)
label_by n [] k = refl
label_by n (b ∷ bs) zero = refl
label_by n (b ∷ bs) (suc k) = refl

-- a point with an edge is the end of a block that has it
branches : (o : Option Block) (at label : ℕ) → BranchesTo label (fetch_in o at) → (c : Block) × ((o ≡ Some c) × IsListed label (targets c.term))
branches None at label h = absurd h
branches (Some c) at label h = on (slice_get c.instrs at) (at == length c.instrs) h
  where
    on : (i : Option Instr) (t : Bool) → BranchesTo label (fetch_or i t c.term) → (d : Block) × ((Some c ≡ Some d) × IsListed label (targets d.term))
    on (Some i) t g = absurd g
    on None true g = (c, (refl, g))
    on None false g = absurd g

-- ---- no edge leads to the entry

first_other : (label : ℕ) (b : Block) (bs : List Block) → (b.label == label) ≡ false → unwrap_or (first_where (λ (c : Block). c.label == label) (b ∷ bs)) (length (b ∷ bs)) ≡ 0 → ⊥
first_other label b bs e z = on (b.label == label) e (first_where (λ (c : Block). c.label == label) bs) z
  where
    on : (t : Bool) → t ≡ false → (o : Option ℕ) → unwrap_or (if t then Some 0 else option_map suc o) (suc (length bs)) ≡ 0 → ⊥
    on true d o z = absurd (cc)
    on false d None z = absurd (omega (arith, z))
    on false d (Some n) z = absurd (omega (arith, z))

module _ (func : ℕ) (f : Function) (edges : first_wrong_edge func f ≡ None) where
  not_entry : (b : Block) (bs : List Block) → f.blocks ≡ b ∷ bs → (k : ℕ) (c : Block) → slice_get f.blocks k ≡ Some c → leads b.label c ≡ true → ⊥
  not_entry b bs e k c there l =
      let parts = of_parts (λ y. breaks_edges f y.0 y.1 ≡ false) func f (none_part (breaks_edges f) (parts_of func f) edges) in
      none_filtered (leads b.label) f.blocks (holds (is_empty (predecessors f b.label)) (parts.blocks 0 b (ap (λ (xs : List Block). slice_get xs 0) e)).head) k c there l

  no_way_back : (k : ℕ) (c : Block) (label : ℕ) → slice_get f.blocks k ≡ Some c → IsListed label (targets c.term) → position_of f label ≡ 0 → ⊥
  no_way_back k c label there l z = on f.blocks refl
    where
      on : (bs : List Block) → f.blocks ≡ bs → ⊥
      on [] e = absurd (let none : slice_get [] k ≡ Some c = ap (λ (xs : List Block). slice_get xs k) (sym e) ∙ there in (cc))
      on (b ∷ bs) e = ⊎_elim
          (λ (t : (b.label == label) ≡ true). not_entry b bs e k c there (ap (λ (n : ℕ). leads n c) (equal_numbers b.label label t) ∙ listed_leads c label l))
          (λ (t : (b.label == label) ≡ false). first_other label b bs t (ap (λ (xs : List Block). unwrap_or (first_where (λ (d : Block). d.label == label) xs) (length xs)) (sym e) ∙ z))
          (cases_Bool (b.label == label))

  -- ---- what is needed

  outside_home : (b : ℕ) → IsOutside (with_front_allocas f) b → IsOutside f b
  outside_home b out e = out (e ∙ sym (same_end f))

  same_fetch : (b a : ℕ) → (b ≡ 0 → ⊥) → fetch (with_front_allocas f) b a ≡ fetch f b a
  same_fetch b a other = ap (λ (o : Option Block). fetch_in o a) (other_block f.blocks b other)

  phis_home : (v label : ℕ) → (IsListed v (phis_at (with_front_allocas f) (position_of (with_front_allocas f) label)) → ⊥) → IsListed v (phis_at f (position_of f label)) → ⊥
  phis_home v label none l =
      none (subst (λ (n : ℕ). IsListed v (phis_at (with_front_allocas f) n)) (sym (same_position f label)) (subst (IsListed v) (sym (phis_by f.blocks (position_of f label))) l))

  needed_home : (v b a : ℕ) → IsNeeded (with_front_allocas f) v b a → (b ≡ 0 → ⊥) → IsNeeded f v b a
  needed_home v _ _ (Use b a out l) other = Use b a (outside_home b out) (subst (λ (x : Fetched). IsListed v (used_by x)) (same_fetch b a other) l)
  needed_home v _ _ (Next b a i out here none rest) other = Next b a i (outside_home b out) (sym (same_fetch b a other) ∙ here) none (needed_home v b (a + 1) rest other)
  needed_home v _ _ (OnEdge b a label out leads_on used) other = OnEdge b a label (outside_home b out) (subst (BranchesTo label) (same_fetch b a other) leads_on) (used_on f v b label used)
  needed_home v _ _ (Across b a label out leads_on none rest) other =
      let on : BranchesTo label (fetch f b a) = subst (BranchesTo label) (same_fetch b a other) leads_on in
      let x = branches (slice_get f.blocks b) a label on in
      Across b a label (outside_home b out) on (phis_home v label none)
      (subst (λ (n : ℕ). IsNeeded f v n 0) (same_position f label)
      (needed_home v (position_of (with_front_allocas f) label) 0 rest (λ z. no_way_back b x.0 label x.1.0 x.1.1 (sym (same_position f label) ∙ z))))

  from_home : (v b label : ℕ) → (position_of f label ≡ 0 → ⊥) → IsNeededFrom (with_front_allocas f) v b label → IsNeededFrom f v b label
  from_home v b label other (inl used) = inl (used_on f v b label used)
  from_home v b label other (inr x) =
      inr (phis_home v label x.0, subst (λ (n : ℕ). IsNeeded f v n 0) (same_position f label) (needed_home v (position_of (with_front_allocas f) label) 0 x.1 (λ z. other (sym (same_position f label) ∙ z))))

  -- ---- suspends

  module _ (coroutine : f.coroutine ≡ true) (switches : wrong_switch func f ≡ None) where
    -- a suspend of the one is one of the other, behind which its block has a switch
    record StoodAt (s : Point) : Type 0 where
      listed : IsListed s (suspend_points f)
      block : Block
      got : slice_get f.blocks s.block ≡ Some block
      switch : (n : ℕ) → IsListed (label_of_term n block.term) (targets block.term)

    stood : (s : Point) → IsListed s (suspend_points (with_front_allocas f)) → StoodAt s
    stood s l = on (instr_at (with_front_allocas f) s) refl (where_pass (is_call_of Intrinsic.CoroSuspend) (with_front_allocas f) s (listed_has s (suspend_points (with_front_allocas f)) l))
      where
        there : (b : Block) (i : Instr) → slice_get f.blocks s.block ≡ Some b → slice_get b.instrs s.at ≡ Some i → is_call_of Intrinsic.CoroSuspend i ≡ true → StoodAt s
        there b i got here call =
            let is = switched func f coroutine switches s.block s.at b i got here (suspend_is i call) in
            record {
              listed = has_listed s (suspend_points f) (where_complete (is_call_of Intrinsic.CoroSuspend) f s i (ap (λ (o : Option Block). instr_in o s.at) got ∙ here) call);
              block = b;
              got = got;
              switch = λ n. switch_target n b.term (subst IsSwitch (sym is.is) tt);
            }

        no_alloca : (i : Instr) → is_call_of Intrinsic.CoroSuspend i ≡ true → is_alloca i ≡ false
        no_alloca (Instr.Alloca r ty align) call = absurd (cc)
        no_alloca (Instr.Binary r op flags ty a b) call = refl
        no_alloca (Instr.Icmp r pred ty a b) call = refl
        no_alloca (Instr.Select r c a b) call = refl
        no_alloca (Instr.Cast r op nneg arg to) call = refl
        no_alloca (Instr.Load r ty address align) call = refl
        no_alloca (Instr.Store arg address align) call = refl
        no_alloca (Instr.Gep r inbounds ty base indices) call = refl
        no_alloca (Instr.Call r must_tail ty callee args) call = refl

        from_source : (b c : Block) (i : Instr) → IsSource b c → slice_get f.blocks s.block ≡ Some b → slice_get c.instrs s.at ≡ Some i → is_call_of Intrinsic.CoroSuspend i ≡ true → StoodAt s
        from_source b _ i Same got here call = there b i got here call
        from_source b _ i First got here call =
            let x = came_from b.instrs s.at i here in
            let is = switched func f coroutine switches s.block x.at b i got x.there (suspend_is i call) in
            let same : x.at ≡ s.at = last_stays b.instrs s.at i here (no_alloca i call) (slice_get_within (in_front b.instrs) s.at i here) x is.last in
            there b i got (subst (λ (n : ℕ). slice_get b.instrs n ≡ Some i) same x.there) call

        in_block : (i : Instr) → is_call_of Intrinsic.CoroSuspend i ≡ true → (o : Option Block) → slice_get (with_front_allocas f).blocks s.block ≡ o → instr_in o s.at ≡ Some i → StoodAt s
        in_block i call None e d = absurd (cc)
        in_block i call (Some c) e d = let x = source_of f.blocks s.block c e in from_source x.0 c i x.1.1 x.1.0 d call

        on : (o : Option Instr) → instr_at (with_front_allocas f) s ≡ o → passes (is_call_of Intrinsic.CoroSuspend) o ≡ true → StoodAt s
        on None e h = absurd (cc)
        on (Some i) e h = in_block i h (slice_get (with_front_allocas f).blocks s.block) refl e

    one_home : (v : ℕ) (s : Point) (x : StoodAt s) (n : ℕ) → IsNeededFrom (with_front_allocas f) v s.block (label_at n (slice_get (with_front_allocas f).blocks s.block)) → IsNeededFrom f v s.block (label_at n (slice_get f.blocks s.block))
    one_home v s x n need =
        let is : label_at n (slice_get f.blocks s.block) ≡ label_of_term n x.block.term = ap (label_at n) x.got in
        from_home v s.block (label_at n (slice_get f.blocks s.block))
        (λ z. no_way_back s.block x.block (label_of_term n x.block.term) x.got (x.switch n) (ap (position_of f) (sym is) ∙ z))
        (subst (IsNeededFrom (with_front_allocas f) v s.block) (label_by n f.blocks s.block) need)

    behind_home : (v : ℕ) (s : Point) → StoodAt s → IsNeededBehind (with_front_allocas f) v s → IsNeededBehind f v s
    behind_home v s x (inl need) = inl (one_home v s x 0 need)
    behind_home v s x (inr need) = inr (one_home v s x 1 need)

    reached_home : (b : ℕ) → IsReached (with_front_allocas f) (0 ∷ []) [] b → IsReached f (0 ∷ []) [] b
    reached_home _ (Start b l) = Start b l
    reached_home _ (Edge from to r l none) = Edge from to (reached_home from r) (subst (IsListed (from, to)) (same_edges f) l) none

    pub nothing_kept : IsNothingNeeded f → IsNothingNeeded (with_front_allocas f)
    nothing_kept none v s l reached value need =
        let x = stood s l in none v s x.listed (reached_home s.block reached) (subst (IsListed v) (same_values f) value) (behind_home v s x need)

    pub frames_kept : AreFramesUnneeded f → AreFramesUnneeded (with_front_allocas f)
    frames_kept none p i v here call made s l need =
        let x = stood s l in
        let was = instr_was (slice_get (with_front_allocas f).blocks p.block) refl here in
        none was.0 i v was.1 call made s x.listed (behind_home v s x need)
      where
        source_was : (b c : Block) → IsSource b c → slice_get f.blocks p.block ≡ Some b → slice_get c.instrs p.at ≡ Some i → (q : Point) × (instr_at f q ≡ Some i)
        source_was b _ Same got d = (p, ap (λ (o : Option Block). instr_in o p.at) got ∙ d)
        source_was b _ First got d = let x = came_from b.instrs p.at i d in (record { block = p.block; at = x.at }, ap (λ (o : Option Block). instr_in o x.at) got ∙ x.there)

        instr_was : (o : Option Block) → slice_get (with_front_allocas f).blocks p.block ≡ o → instr_in o p.at ≡ Some i → (q : Point) × (instr_at f q ≡ Some i)
        instr_was None e d = absurd (cc)
        instr_was (Some c) e d = let x = source_of f.blocks p.block c e in source_was x.0 c x.1.1 x.1.0 d
