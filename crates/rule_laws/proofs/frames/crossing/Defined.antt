-- What is needed behind a suspend that is reached is defined before it, where no use is undefined.
use Rattle.std.proofs.Common.{◌≡◌, ◌⊎◌, inl, inr, ⊎_elim, ℕ, zero, suc, ◌+◌, Bool, true, false, List, [], ◌∷◌, ◌++◌, length, refl, sym, ap, ◌∙◌, subst, arith}
use Rattle.std.specs.Prelude.{Option, Some, None, map, option_to_list, slice_get, if◌then◌else◌}
use Rattle.flow_blocks.specs.Reach.{IsReached}
use Rattle.rule_laws.proofs.frames.crossing.NewUses.{edge_in}
use Rattle.rule_laws.proofs.frames.crossing.Paths.{defined_or_not, later_defined, leads_on, made_before, point_found, reached_leads, through}
use Rattle.ir_laws.proofs.paths.crossing.Spots.{Spot, listed_or, spot_first, spot_instr, spot_next, spot_term}
use Rattle.rule_laws.proofs.frames.crossing.Spots.{none_needed}
use Rattle.rule_laws.specs.frames.crossing.Crossed.{IsApart}
use Rattle.ir_laws.specs.facts.crossing.Crossed.{is_switch}
use Rattle.rule_laws.proofs.rules.counted.Lists.{made_joined}
use Rattle.rule_laws.proofs.rules.counted.Members.{made_either}
use Rattle.rule_laws.proofs.rules.counted.PartFacts.{AllMadeBefore, block_made, uses_are}
use Rattle.ir_laws.specs.ir_base.declared.outcome.Place.{Place}
use Rattle.rule_uses.specs.Undefined.{IsFirstUndefined, IsUndefined, Next as NextBlock, ReachesWithout, params_of}
use Rattle.rule_uses.specs.Uses.{Use as ValueUse, block_values, incoming_use, incoming_uses as incoming_value_uses, local_of, locals_in, made_by_instrs, phi_uses, phi_values, uses_of, values_at, values_in}
use Rattle.rule_laws.proofs.rules.renamed.Uses.{block_edge, none_undefined, of_block, three_kinds}
use Rattle.ir_laws.proofs.facts.Members.{each_left, each_right}
use Rattle.ir_laws.proofs.paths.source_rules.Locals.{listed_either}
use Rattle.rule_laws.proofs.rules.source_rules.Locals.{made_by}
use Rattle.ir_laws.proofs.facts.Lists.{row_of}
use Rattle.ir_laws.specs.flow_solver.Paths.{IsListed}
use Rattle.ir_parts.specs.Contents.{ending_operands, result_of}
use Rattle.ir_parts.specs.Parts.{instr_place}
use Rattle.ir_laws.specs.ir_model.Names.{position_of}
use Rattle.ir_laws.specs.ir_model.declared.instr.Case.{Case}
use Rattle.ir_laws.specs.ir_model.declared.instr.Incoming.{Incoming}
use Rattle.ir_laws.specs.ir_model.declared.instr.Instr.{Instr}
use Rattle.ir_laws.specs.ir_model.declared.instr.Phi.{Phi}
use Rattle.ir_laws.specs.ir_model.declared.instr.Terminator.{Terminator}
use Rattle.ir_laws.specs.ir_model.declared.module.Block.{Block}
use Rattle.ir_laws.specs.ir_model.declared.module.Function.{Function}
use Rattle.ir_laws.specs.ir_model.declared.operand.Intrinsic.{Intrinsic}
use Rattle.ir_laws.specs.ir_paths.Paths.{targets}
use Rattle.ir_laws.specs.ir_paths.Windows.{destroy_label, instr_at, instr_in, is_call_of, is_number, label_at, label_in, label_of_term, resume_label}
use Rattle.ir_laws.specs.ir_paths.declared.point.Point.{Point}
use Rattle.ir_laws.specs.run_step.Step.{AtInstr, AtTerm, Fetched}
use Rattle.ir_laws.specs.run_laws.changed.Changed.{Each}
use Rattle.frame_contents.specs.frame_crossing.Crossing.{suspends_of}
use Rattle.frame_contents.specs.frame_crossing.EdgeUses.{IsUsedOn, edge_use, incoming_uses, phis_uses, uses_by}
use Rattle.frame_contents.specs.frame_crossing.Paths.{Across, BranchesTo, ByParam, ByPhi, IsDefinedBefore, IsNeeded, IsNeededBehind, IsNeededFrom, LeadsTo, Next, OnEdge, Use, phis_at, phis_in, used_by}
use Rattle.frame_contents.specs.frame_crossing.declared.edge_use.EdgeUse.{EdgeUse}

-- ---- where a switch leads

case_listed : (n : ℕ) (cases : List Case) (default : ℕ) (before : List ℕ) → (IsListed default before) → IsListed (label_in n cases default) before ⊎ IsListed (label_in n cases default) (map (λ k. k.target) cases)
case_listed n [] default before l = inl l
case_listed n (k ∷ cases) default before l = on (is_number n k.arg.value) (case_listed n cases default before l)
  where
    on : (b : Bool) → IsListed (label_in n cases default) before ⊎ IsListed (label_in n cases default) (map (λ x. x.target) cases) → IsListed (if b then k.target else label_in n cases default) before ⊎ IsListed (if b then k.target else label_in n cases default) (k.target ∷ map (λ x. x.target) cases)
    on true rest = inr (inl refl)
    on false rest = ⊎_elim (λ a. inl a) (λ b. inr (inr b)) rest

pub switch_leads : (n : ℕ) (t : Terminator) → is_switch t ≡ true → IsListed (label_of_term n t) (targets t)
switch_leads n (Terminator.Switch arg default cases) e = ⊎_elim first (λ b. inr b) (case_listed n cases default (default ∷ []) (inl refl))
  where
    first : IsListed (label_in n cases default) (default ∷ []) → IsListed (label_in n cases default) (default ∷ map (λ k. k.target) cases)
    first (inl same) = inl same
    first (inr x) = absurd x
switch_leads n (Terminator.Jump label) e = absurd (cc)
switch_leads n (Terminator.Branch c a b) e = absurd (cc)
switch_leads n (Terminator.Ret arg) e = absurd (cc)
switch_leads n Terminator.Unreachable e = absurd (cc)

-- ---- the last instruction of a block

split_last : (is : List Instr) (at : ℕ) (i : Instr) → slice_get is at ≡ Some i → length is ≡ at + 1 → (xs : List Instr) × ((is ≡ xs ++ i ∷ []) × (length xs ≡ at))
split_last [] at i e long = absurd (cc)
split_last (x ∷ []) zero i e long = let one : x ≡ i = cc in ([], (ap (λ (y : Instr). y ∷ []) one, refl))
split_last (x ∷ y ∷ ys) zero i e long = absurd (omega (arith, long))
split_last (x ∷ is) (suc at) i e long = let r = split_last is at i e (omega (arith, long)) in (x ∷ r.0, (ap (λ (l : List Instr). x ∷ l) r.1.0, ap suc r.1.1))

-- ---- no use is undefined

module _ (k : ℕ) (f : Function) (uses : IsFirstUndefined f (uses_of k f) None) (v : ℕ) (no_param : IsListed v (params_of f) → ⊥) where
  abbrev IsDefined : ValueUse → Type 0
  IsDefined u = IsUndefined f u → ⊥

  -- nor a terminator's
  term_defined : (q : ℕ) (b : Block) → slice_get f.blocks q ≡ Some b → IsListed v (locals_in (ending_operands b.term)) → ReachesWithout f v q → (IsListed v (block_values b) → ⊥) → ⊥
  term_defined q b got l reaches unmade =
      let all = three_kinds IsDefined f k q b (of_block IsDefined f k q b (none_undefined f (uses_of k f) None uses refl) got) in
      uses_are f (instr_place k q (length b.phis + length b.instrs)) q (block_values b) (locals_in (ending_operands b.term)) all.term v l (record { reaches = reaches; not_before = unmade; no_param = no_param })

  -- nor a phi's
  incoming_defined : (place : Place) (at from to : ℕ) (is : List Incoming) → Each IsDefined (incoming_value_uses f place is) → IsListed (edge_use from to v) (incoming_uses f at is) → ReachesWithout f v from → (IsListed v (values_at f from) → ⊥) → ⊥
  incoming_defined place at from to [] h l reaches unmade = l
  incoming_defined place at from to (i ∷ is) h l reaches unmade =
      let here : List ValueUse = map (incoming_use f place i) (option_to_list (local_of i.value)) in
      ⊎_elim (own (local_of i.value) (each_left IsDefined here (incoming_value_uses f place is) h))
      (λ r. incoming_defined place at from to is (each_right IsDefined here (incoming_value_uses f place is) h) r reaches unmade)
      (listed_either (edge_use from to v) (uses_by (position_of f i.from) at (local_of i.value)) (incoming_uses f at is) l)
    where
      own : (o : Option ℕ) → Each IsDefined (map (incoming_use f place i) (option_to_list o)) → IsListed (edge_use from to v) (uses_by (position_of f i.from) at o) → ⊥
      own None d x = x
      own (Some n) d (inr x) = x
      own (Some n) d (inl e) =
          let from_is : from ≡ position_of f i.from = ap (λ (u : EdgeUse). u.from) e in
          let value_is : v ≡ n = ap (λ (u : EdgeUse). u.value) e in
          let value : IsUndefined f (incoming_use f place i v) = record { reaches = subst (λ (b : ℕ). ReachesWithout f v b) from_is reaches; not_before = λ x. unmade (subst (λ (b : ℕ). IsListed v (values_at f b)) (sym from_is) x); no_param = no_param } in
          d.0 (subst (λ (u : ℕ). IsUndefined f (incoming_use f place i u)) value_is value)

  phis_defined : (block n at from to : ℕ) (ps : List Phi) → Each IsDefined (phi_uses f k block n ps) → IsListed (edge_use from to v) (phis_uses f at ps) → ReachesWithout f v from → (IsListed v (values_at f from) → ⊥) → ⊥
  phis_defined block n at from to [] h l reaches unmade = l
  phis_defined block n at from to (p ∷ ps) h l reaches unmade =
      let here : List ValueUse = incoming_value_uses f (instr_place k block n) p.incoming in
      ⊎_elim (λ a. incoming_defined (instr_place k block n) at from to p.incoming (each_left IsDefined here (phi_uses f k block (n + 1) ps) h) a reaches unmade)
      (λ r. phis_defined block (n + 1) at from to ps (each_right IsDefined here (phi_uses f k block (n + 1) ps) h) r reaches unmade)
      (listed_either (edge_use from to v) (incoming_uses f at p.incoming) (phis_uses f at ps) l)

  edge_defined : (from to : ℕ) → IsUsedOn f v from to → ReachesWithout f v from → (IsListed v (values_at f from) → ⊥) → ⊥
  edge_defined from to l reaches unmade =
      let y = edge_in f 0 f.blocks (edge_use from to v) l in
      let b : Block = y.1.0 in
      let all = three_kinds IsDefined f k y.0 b (of_block IsDefined f k y.0 b (none_undefined f (uses_of k f) None uses refl) y.1.1.0) in
      phis_defined y.0 0 (0 + y.0) from to b.phis all.phis y.1.1.1.1 reaches unmade

  -- ---- so no path without a definition leads to where the value is needed

  none_made : (j : Instr) (before : List ℕ) → (IsListed v before → ⊥) → (result_of j ≡ Some v → ⊥) → IsListed v (option_to_list (result_of j) ++ before) → ⊥
  none_made j before none other l = ⊎_elim (some (result_of j) other) none (listed_either v (option_to_list (result_of j)) before l)
    where
      some : (o : Option ℕ) → (o ≡ Some v → ⊥) → IsListed v (option_to_list o) → ⊥
      some None h x = x
      some (Some n) h (inl e) = h (ap (λ (y : ℕ). Some y) (sym e))
      some (Some n) h (inr x) = x

  front_undefined : (q : ℕ) → ReachesWithout f v q → (IsListed v (phis_at f q) → ⊥) → ((b : Block) (is : List Instr) (before : List ℕ) → Spot f q 0 b is → AllMadeBefore f q before is → made_by_instrs before is ≡ block_values b → (IsListed v before → ⊥) → ⊥) → (slice_get f.blocks q ≡ None → ⊥) → ⊥
  front_undefined q reaches phis rec some = on (slice_get f.blocks q) refl
    where
      on : (o : Option Block) → slice_get f.blocks q ≡ o → ⊥
      on None e = some e
      on (Some b) e = rec b b.instrs (phi_values b) (spot_first f q b e) (block_made f k uses q b e) refl (λ l. phis (subst (λ (ns : List ℕ). IsListed v ns) (sym (ap phis_in e)) l))

  undefined : (q at : ℕ) → IsNeeded f v q at → ReachesWithout f v q → (b : Block) (is : List Instr) (before : List ℕ) → Spot f q at b is → AllMadeBefore f q before is → made_by_instrs before is ≡ block_values b → (IsListed v before → ⊥) → ⊥
  undefined _ _ (Use q at out used) reaches b [] before s all same none =
      term_defined q b s.got (subst (λ (y : Fetched). IsListed v (used_by y)) (spot_term f q at b s) used) reaches (λ l. none (subst (λ (ns : List ℕ). IsListed v ns) (sym same) l))
  undefined _ _ (Use q at out used) reaches b (i ∷ is) before s all same none =
      all.0 v (subst (λ (y : Fetched). IsListed v (used_by y)) (spot_instr f q at b i is s) used) reaches none no_param
  undefined _ _ (Next q at y out there other more) reaches b [] before s all same none = let both : AtTerm b.term ≡ AtInstr y = sym (spot_term f q at b s) ∙ there in absurd (cc)
  undefined _ _ (Next q at y out there other more) reaches b (i ∷ is) before s all same none =
      let both : AtInstr i ≡ AtInstr y = sym (spot_instr f q at b i is s) ∙ there in
      let one : i ≡ y = cc in
      undefined q (at + 1) more reaches b is (option_to_list (result_of i) ++ before) (spot_next f q at b i is s) all.1 same (none_made i before none (λ e. other (ap result_of (sym one) ∙ e)))
  undefined _ _ (OnEdge q at label out leads used) reaches b [] before s all same none =
      edge_defined q (position_of f label) used reaches (λ l. none (subst (λ (ns : List ℕ). IsListed v ns) (ap values_in s.got ∙ sym same) l))
  undefined _ _ (OnEdge q at label out leads used) reaches b (i ∷ is) before s all same none = subst (BranchesTo label) (spot_instr f q at b i is s) leads
  undefined _ _ (Across q at label out leads phis more) reaches b [] before s all same none =
      let there : IsListed label (targets b.term) = subst (BranchesTo label) (spot_term f q at b s) leads in
      let unmade : IsListed v (values_at f q) → ⊥ = λ l. none (subst (λ (ns : List ℕ). IsListed v ns) (ap values_in s.got ∙ sym same) l) in
      let next : ReachesWithout f v (position_of f label) = NextBlock q (position_of f label) reaches unmade (block_edge f q b label s.got there) in
      front_undefined (position_of f label) next phis (λ b2 is2 before2 s2 all2 same2 none2. undefined (position_of f label) 0 more next b2 is2 before2 s2 all2 same2 none2) (none_needed f v (position_of f label) 0 more)
  undefined _ _ (Across q at label out leads phis more) reaches b (i ∷ is) before s all same none = subst (BranchesTo label) (spot_instr f q at b i is s) leads

  from_undefined : (q : ℕ) (b : Block) (label : ℕ) → slice_get f.blocks q ≡ Some b → IsListed label (targets b.term) → ReachesWithout f v q → (IsListed v (values_at f q) → ⊥) → IsNeededFrom f v q label → ⊥
  from_undefined q b label got leads reaches unmade (inl used) = edge_defined q (position_of f label) used reaches unmade
  from_undefined q b label got leads reaches unmade (inr h) =
      let next : ReachesWithout f v (position_of f label) = NextBlock q (position_of f label) reaches unmade (block_edge f q b label got leads) in
      front_undefined (position_of f label) next h.0 (λ b2 is2 before2 s2 all2 same2 none2. undefined (position_of f label) 0 h.1 next b2 is2 before2 s2 all2 same2 none2) (none_needed f v (position_of f label) 0 h.1)

  behind_undefined : (s : Point) (b : Block) → slice_get f.blocks s.block ≡ Some b → is_switch b.term ≡ true → ReachesWithout f v s.block → (IsListed v (values_at f s.block) → ⊥) → IsNeededBehind f v s → ⊥
  behind_undefined s b got switch reaches unmade (inl h) = from_undefined s.block b (resume_label f s) got (subst (λ (n : ℕ). IsListed n (targets b.term)) (sym (ap (label_at 0) got)) (switch_leads 0 b.term switch)) reaches unmade h
  behind_undefined s b got switch reaches unmade (inr h) = from_undefined s.block b (destroy_label f s) got (subst (λ (n : ℕ). IsListed n (targets b.term)) (sym (ap (label_at 1) got)) (switch_leads 1 b.term switch)) reaches unmade h

module _ (k : ℕ) (f : Function) (uses : IsFirstUndefined f (uses_of k f) None) (v : ℕ) (s : Point) (l : IsListed s (suspends_of f)) (apart : IsApart f s) (reached : IsReached f (0 ∷ []) [] s.block) (needed : IsNeededBehind f v s) where
  -- the value is defined before the suspend
  pub defined_before : IsDefinedBefore f v s.block s.at
  defined_before =
      let x = point_found (is_call_of Intrinsic.CoroSuspend) f s l in
      let b : Block = x.block in
      let same : s.block ≡ x.position = (let e : s.block ≡ 0 + x.position = x.is_block in omega (arith, e)) in
      let got : slice_get f.blocks s.block ≡ Some b = ap (slice_get f.blocks) same ∙ x.got in
      let parts = split_last b.instrs s.at x.instr x.there (apart.last b got) in
      let spot : Spot f s.block 0 b (parts.0 ++ x.instr ∷ []) = subst (λ (is : List Instr). Spot f s.block 0 b is) parts.1.0 (spot_first f s.block b got) in
      let long : length parts.0 ≡ s.at = parts.1.1 in
      let at : 0 + length parts.0 ≡ s.at = omega (arith, long) in
      let to_suspend : LeadsTo f s.block s.at s.block 0 = subst (λ (n : ℕ). LeadsTo f s.block n s.block 0) at (through f s.block 0 b parts.0 (x.instr ∷ []) spot) in
      ⊎_elim
      (λ p. ByParam p (leads_on f s.block 0 s.block s.at 0 0 (reached_leads f v s.block reached) to_suspend))
      (λ no_param.
      ⊎_elim
      (λ d. later_defined f v s.block 0 s.block s.at d to_suspend)
      (λ w.
      ⊎_elim
      (λ a. ByPhi s.block (subst (λ (o : Option Block). IsListed v (phis_in o)) (sym got) a) to_suspend)
      (λ no_phi.
      ⊎_elim
      (λ a. subst (λ (n : ℕ). IsDefinedBefore f v s.block n) at (made_before f v s.block 0 b parts.0 (x.instr ∷ []) spot a))
      (λ not_made. absurd (behind_undefined k f uses v no_param s b got (apart.switch b got) w (unmade x.instr parts.0 b got parts.1.0 (ap (λ (o : Option Block). instr_in o s.at) got ∙ x.there) no_phi not_made) needed))
      (listed_or v (row_of made_by parts.0)))
      (listed_or v (phi_values b)))
      (defined_or_not f v s.block reached))
      (listed_or v (params_of f))
    where
      some : (o : Option ℕ) → IsListed v (option_to_list o) → o ≡ Some v
      some None h = absurd h
      some (Some n) (inl e) = ap (λ (y : ℕ). Some y) (sym e)
      some (Some n) (inr h) = absurd h

      unmade : (i : Instr) (xs : List Instr) (b : Block) → slice_get f.blocks s.block ≡ Some b → b.instrs ≡ xs ++ i ∷ [] → instr_at f s ≡ Some i → (IsListed v (phi_values b) → ⊥) → (IsListed v (row_of made_by xs) → ⊥) → IsListed v (values_at f s.block) → ⊥
      unmade i xs b got is there no_phi not_made h =
          let made : IsListed v (made_by_instrs (phi_values b) (xs ++ i ∷ [])) = subst (λ (js : List Instr). IsListed v (made_by_instrs (phi_values b) js)) is (subst (λ (o : Option Block). IsListed v (values_in o)) got h) in
          let parts : IsListed v (made_by_instrs (made_by_instrs (phi_values b) xs) (i ∷ [])) = subst (λ (ns : List ℕ). IsListed v ns) (made_joined (phi_values b) xs (i ∷ [])) made in
          ⊎_elim (λ a. apart.unused i v there (some (result_of i) a) needed)
          (λ r. ⊎_elim no_phi not_made (made_either xs (phi_values b) v r))
          (listed_either v (option_to_list (result_of i)) (made_by_instrs (phi_values b) xs) parts)
