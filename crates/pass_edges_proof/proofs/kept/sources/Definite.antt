-- Where no use is undefined (rule F2), nothing is read before its definition.
use Rattle.std.proofs.Common.{◌≡◌, ◌<◌, ◌≤◌, ◌⊎◌, inl, inr, ⊎_elim, ℕ, ◌+◌, Bool, true, false, [], length, Option, Some, None, refl, sym, ap, ◌∙◌, subst, arith}
use Rattle.std.specs.Prelude.{IsTrue, slice_get, ◌==◌}
use Rattle.pass_early_proof.specs.rule_uses.Undefined.{Entry, IsUndefined, Next as NextBlock, ReachesWithout, params_of}
use Rattle.pass_early_proof.specs.rule_uses.Uses.{Use, block_values, locals_in, phi_values, use_of, uses_of, values_at, values_in}
use Rattle.pass_early_proof.proofs.ir_laws.facts.Members.{at_each, each_there}
use Rattle.pass_early_proof.proofs.ir_laws.facts.Truth.{equal_numbers, not_equal, holds}
use Rattle.pass_early_proof.proofs.ir_laws.facts.Lists.{get_within}
use Rattle.pass_early_proof.proofs.rule_laws.rules.renamed.Uses.{AreOfBlock, block_edge, instr_use, none_made, none_undefined, of_block, of_phis, result_spelt, three_kinds, use_at}
use Rattle.pass_early_proof.proofs.ir_laws.paths.renamed.Uses.{stands_in}
use Rattle.pass_early_proof.specs.ir_laws.facts.renamed.Regular.{is_result, passes}
use Rattle.pass_early_proof.specs.ir_laws.paths.renamed.Regular.{makes}
use Rattle.pass_early_proof.proofs.rule_laws.rules.local_rules.Names.{numbers}
use Rattle.pass_early_proof.proofs.rule_laws.rules.local_rules.Woven.{apart_names}
use Rattle.pass_early_proof.proofs.ir_laws.paths.source_rules.Locals.{Apart}
use Rattle.pass_early_proof.proofs.rule_laws.rules.source_rules.Locals.{names_are, own_label}
use Rattle.pass_early_proof.specs.flow_solver.Paths.{IsListed}
use Rattle.pass_early_proof.proofs.rule_laws.rules.counted.DefinedKinds.{kind_of_instr}
use Rattle.pass_early_proof.proofs.rule_laws.rules.counted.PartFacts.{block_passes}
use Rattle.pass_early_proof.proofs.rule_laws.rules.counted.Times.{apart_times}
use Rattle.pass_early_proof.specs.rule_laws.rules.function_rules.Kept.{KeepsFunctionRules}
use Rattle.pass_early_proof.specs.ir_laws.facts.woven_rules.Pairs.{times}
use Rattle.pass_early_proof.specs.ir_parts.Contents.{ending_operands, instr_operands, result_of as part_result}
use Rattle.pass_early_proof.specs.ir_parts.Locals.{locals_of}
use Rattle.pass_early_proof.specs.ir_parts.Parts.{OfInstr, instr_place}
use Rattle.ir_model.specs.Names.{position_of}
use Rattle.ir_model.specs.declared.instr.Instr.{Instr}
use Rattle.ir_model.specs.declared.instr.Terminator.{Terminator}
use Rattle.ir_model.specs.declared.module.Block.{Block}
use Rattle.ir_model.specs.declared.module.Function.{Function}
use Rattle.ir_model.specs.declared.module.Module.{Module}
use Rattle.pass_early_proof.specs.ir_paths.Paths.{targets}
use Rattle.pass_early_proof.specs.ir_paths.Windows.{instr_at, instr_in}
use Rattle.pass_early_proof.specs.ir_paths.declared.point.Point.{Point}
use Rattle.pass_early_proof.proofs.rule_laws.rules.sources.Places.{any_local, any_param, instr_there, point, term_there}
use Rattle.pass_edges_proof.proofs.kept.sources.Places.{branch_there}
use Rattle.pass_edges_proof.proofs.kept.sources.Scalars.{IsScalarValue, instr_reads, phis_reads, term_reads}
use Rattle.pass_edges_proof.proofs.kept.sources.Tokens.{FitsCallee, IsNoScalar, ungiven_kind}
use Rattle.pass_kept_proof.proofs.Read.{listed_by_name, made_phi, read_here}
use Rattle.pass_kept_proof.specs.Crossing.{IsDefinite, IsReachedWithout, after_without, along_without, first_without, is_param}
use Rattle.pass_kept_proof.specs.Needed.{BranchesTo, given_by, label_of_block, phis_at, phis_give, phis_read, reads_at}
use Rattle.pass_early_proof.specs.run_step.Step.{AtInstr, AtTerm, Fetched, Nowhere, fetch, label_of, phis_of}
use Rattle.pass_early_proof.specs.run_laws.changed.Changed.{Each, result_of}
use Rattle.pass_early_proof.specs.frame_crossing.Paths.{used_by}
use Rattle.pass_early_proof.specs.rule_types.Signatures.{calls_otherwise, fits_callee}
use Rattle.pass_early_proof.specs.rule_values.Instrs.{fits_instr}
use Rattle.pass_early_proof.specs.rule_values.Kinds.{instr_kind, value_kind}
use Rattle.pass_early_proof.specs.rule_values.Values.{breaks_values, fits_ending, fits_phi}
use Rattle.pass_early_proof.specs.ir_base.declared.outcome.Place.{Place}

callee_fits : (m : Module) (p : Place) (i : Instr) → calls_otherwise m p (OfInstr i) ≡ false → FitsCallee m i
callee_fits m p (Instr.Call r must_tail ty callee args) e = holds (fits_callee m ty args callee) e
callee_fits m p (Instr.Binary name op flags ty a b) e = tt
callee_fits m p (Instr.Icmp name pred ty a b) e = tt
callee_fits m p (Instr.Select name x a b) e = tt
callee_fits m p (Instr.Cast name op nneg arg to) e = tt
callee_fits m p (Instr.Alloca name ty align) e = tt
callee_fits m p (Instr.Load name ty q align) e = tt
callee_fits m p (Instr.Store arg q align) e = tt
callee_fits m p (Instr.Gep name inbounds ty base indices) e = tt

module _ (m : Module) (k : ℕ) (f : Function) (rules : KeepsFunctionRules m k f) where
  -- ---- what is read

  module _ (j : ℕ) (b : Block) (got : slice_get f.blocks j ≡ Some b) where
    pub instr_fits : (at : ℕ) (i : Instr) → slice_get b.instrs at ≡ Some i → fits_instr m (value_kind f) i ≡ true
    instr_fits at i e = let x = at_each _ b.instrs at i (block_passes (breaks_values m (value_kind f) f.result) k f rules.local.values j b got).instrs e in holds (fits_instr m (value_kind f) i) x.2

    pub call_fits : (at : ℕ) (i : Instr) → slice_get b.instrs at ≡ Some i → FitsCallee m i
    call_fits at i e = let x = at_each _ b.instrs at i (block_passes (calls_otherwise m) k f rules.calls j b got).instrs e in callee_fits m x.0 i x.2

    pub term_fits : fits_ending (value_kind f) f.result b.term ≡ true
    term_fits = let x = (block_passes (breaks_values m (value_kind f) f.result) k f rules.local.values j b got).ending in holds (fits_ending (value_kind f) f.result b.term) x.1

    pub phis_fit : Each (λ p. fits_phi (value_kind f) p.ty p.incoming ≡ true) b.phis
    phis_fit = each_there _ b.phis (λ at p e. let x = at_each _ b.phis at p (block_passes (breaks_values m (value_kind f) f.result) k f rules.local.values j b got).phis e in holds (fits_phi (value_kind f) p.ty p.incoming) x.2)

  module _ (v : ℕ) where
    pub scalar_read : (block at : ℕ) → IsTrue (reads_at v (fetch f block at)) → IsScalarValue (value_kind f) v
    scalar_read block at h = on (fetch f block at) refl h
      where
        on : (x : Fetched) → fetch f block at ≡ x → reads_at v x ≡ true → IsScalarValue (value_kind f) v
        on Nowhere e r = absurd (cc)
        on (AtInstr i) e r = let x = stands_in f (point block at) i (instr_there f block at i e) in instr_reads (value_kind f) v m i (instr_fits block x.block x.got at i x.stands) (call_fits block x.block x.got at i x.stands) r
        on (AtTerm t) e r = let x = term_there f block at t e in term_reads (value_kind f) v f.result t (ap (fits_ending (value_kind f) f.result) (sym x.is) ∙ term_fits block x.own x.got) r

    pub scalar_taken : (from block : ℕ) → IsTrue (phis_read v from (phis_of (slice_get f.blocks block))) → IsScalarValue (value_kind f) v
    scalar_taken from block h = on (slice_get f.blocks block) refl h
      where
        on : (o : Option Block) → slice_get f.blocks block ≡ o → phis_read v from (phis_of o) ≡ true → IsScalarValue (value_kind f) v
        on None e r = absurd (cc)
        on (Some b) e r = phis_reads (value_kind f) v from b.phis (phis_fit block b e) r

    -- ---- what is made and not given

    pub record IsUngiven : Type 0 where
      pub place : Point
      pub instr : Instr
      pub stands : instr_at f place ≡ Some instr
      pub made : result_of instr ≡ Some v
      pub not_given : given_by instr ≡ Some v → ⊥

    pub once : times v (numbers f) ≤ 1
    once = apart_times v (numbers f) (subst Apart (names_are k f) (apart_names [] (locals_of k f) rules.definitions))

    pub ungiven_no_scalar : IsUngiven → IsScalarValue (value_kind f) v → ⊥
    ungiven_no_scalar u s =
        let x = stands_in f u.place u.instr u.stands in
        let made : part_result u.instr ≡ Some v = result_spelt u.instr ∙ u.made in
        let kind : value_kind f v ≡ instr_kind u.instr v = kind_of_instr f v once u.place.block x.block u.place.at u.instr x.got x.stands made in
        subst IsNoScalar (sym kind) (ungiven_kind m u.instr v (call_fits u.place.block x.block x.got u.place.at u.instr x.stands) made u.not_given) s.0 s.1 s.2

    -- ---- paths

    -- a path leads from the entry to a place, and nothing on it makes v
    pub record Comes (block at : ℕ) : Type 0 where
      pub reaches : ReachesWithout f v block
      pub no_param : is_param f v ≡ false
      pub no_phi : phis_give v (phis_of (slice_get f.blocks block)) ≡ false
      pub unmade : (j : ℕ) → j < at → makes f v (point block j) ≡ false

    phis_unmade : (block : ℕ) (b : Block) → slice_get f.blocks block ≡ Some b → phis_give v (phis_of (slice_get f.blocks block)) ≡ false → IsListed v (phi_values b) → ⊥
    phis_unmade block b e none h = on (made_phi v b.phis [] h)
      where
        on : IsListed v [] ⊎ (phis_give v b.phis ≡ true) → ⊥
        on (inl x) = x
        on (inr g) = let t : true ≡ false = sym g ∙ ap (λ (o : Option Block). phis_give v (phis_of o)) (sym e) ∙ none in absurd (cc)

    made_is : (block : ℕ) (b : Block) → slice_get f.blocks block ≡ Some b → (j : ℕ) (x : Instr) → slice_get b.instrs j ≡ Some x → makes f v (point block j) ≡ is_result v (result_of x)
    made_is block b e j x d = ap (λ (o : Option Block). passes (λ i. is_result v (result_of i)) (instr_in o j)) e ∙ ap (passes (λ i. is_result v (result_of i))) d

    values_unmade : (block at : ℕ) (b : Block) → slice_get f.blocks block ≡ Some b → at ≡ length b.instrs → Comes block at → IsListed v (block_values b) → ⊥
    values_unmade block at b e last c =
        none_made (λ u. Unit {0}) v (phi_values b) b.instrs (phis_unmade block b e c.no_phi)
        (λ j x d. sym (made_is block b e j x d) ∙ c.unmade j (subst (λ (n : ℕ). j < n) (sym last) (get_within b.instrs j x d)))

    pub result_there : (o : Option ℕ) → is_result v o ≡ true → o ≡ Some v
    result_there None e = absurd (cc)
    result_there (Some n) e = ap Some (equal_numbers n v e)

    pub over_unmade : (block at : ℕ) (i : Instr) → fetch f block at ≡ AtInstr i → is_result v (result_of i) ≡ false
        → Comes block at → Comes block (at + 1)
    over_unmade block at i e d c = record {
      reaches = c.reaches;
      no_param = c.no_param;
      no_phi = c.no_phi;
      unmade = λ j lt. earlier j lt (j == at) refl;
    }
      where
        there : instr_at f (point block at) ≡ Some i
        there = instr_there f block at i e

        below : (j : ℕ) → j < at + 1 → (j ≡ at → ⊥) → j < at
        below j lt ne = omega (arith, ne)

        earlier : (j : ℕ) → j < at + 1 → (b : Bool) → (j == at) ≡ b → makes f v (point block j) ≡ false
        earlier j lt true s =
            ap (λ (n : ℕ). makes f v (point block n)) (equal_numbers j at s)
            ∙ ap (passes (λ i. is_result v (result_of i))) there ∙ d
        earlier j lt false s = c.unmade j (below j lt (not_equal j at s))

    over : (block at : ℕ) (i : Instr) → fetch f block at ≡ AtInstr i → (given_by i ≡ Some v → ⊥) → Comes block at
        → Comes block (at + 1) ⊎ IsUngiven
    over block at i e none c = on (is_result v (result_of i)) refl
      where
        on : (b : Bool) → is_result v (result_of i) ≡ b → Comes block (at + 1) ⊎ IsUngiven
        on true d = inr (record {
          place = point block at;
          instr = i;
          stands = instr_there f block at i e;
          made = result_there (result_of i) d;
          not_given = none;
        })
        on false d = inl (over_unmade block at i e d c)

    pub across : (block at label : ℕ) → BranchesTo label (fetch f block at) → phis_give v (phis_at f label) ≡ false → Comes block at → Comes (position_of f label) 0
    across block at label br none c =
        let x = branch_there f block at label br in
        let own = x.1.0 in
        let listed : IsListed label (targets own.own.term) = subst (λ (t : Terminator). IsListed label (targets t)) (sym own.is) (listed_by_name _ label x.1.1) in
        record {
          reaches = NextBlock block (position_of f label) c.reaches (λ h. values_unmade block at own.own own.got own.last c (subst (λ (o : Option Block). IsListed v (values_in o)) own.got h)) (block_edge f block own.own label own.got listed);
          no_param = c.no_param;
          no_phi = none;
          unmade = λ j lt. absurd (omega arith);
        }

    comes : {block at : ℕ} → IsReachedWithout f v block at → Comes block at ⊎ IsUngiven
    comes (first_without a b) = inl (record { reaches = Entry; no_param = a; no_phi = b; unmade = λ j lt. absurd (omega arith) })
    comes (after_without {block} {at} i e none w) = ⊎_elim (λ c. over block at i e none c) (λ u. inr u) (comes w)
    comes (along_without {block} {at} label br none w) = ⊎_elim (λ c. inl (across block at label br none c)) (λ u. inr u) (comes w)

    -- ---- uses

    abbrev IsDefined : Use → Type 0
    IsDefined u = IsUndefined f u → ⊥

    uses_in : (block : ℕ) (b : Block) → slice_get f.blocks block ≡ Some b → AreOfBlock IsDefined f k block b
    uses_in block b e = three_kinds IsDefined f k block b (of_block IsDefined f k block b (none_undefined f (uses_of k f) None rules.uses refl) e)

    not_param : is_param f v ≡ false → IsListed v (params_of f) → ⊥
    not_param none h = let t : true ≡ false = sym (any_param v f.params h) ∙ none in absurd (cc)

    not_in_instr : (block at : ℕ) (i : Instr) → fetch f block at ≡ AtInstr i → Comes block at → IsListed v (locals_in (instr_operands i)) → ⊥
    not_in_instr block at i e c used =
        let x = stands_in f (point block at) i (instr_there f block at i e) in
        let u = instr_use IsDefined v k block (length x.block.phis) (phi_values x.block) x.block.instrs at i (uses_in block x.block x.got).instrs x.stands (any_local v (instr_operands i) used) (phis_unmade block x.block x.got c.no_phi) (λ j y lt d. sym (made_is block x.block x.got j y d) ∙ c.unmade j lt) in
        u.listed (record { reaches = c.reaches; not_before = u.unmade; no_param = not_param c.no_param })

    not_in_term : (block at : ℕ) (b : Block) → slice_get f.blocks block ≡ Some b → at ≡ length b.instrs → Comes block at → IsListed v (locals_in (ending_operands b.term)) → ⊥
    not_in_term block at b e last c used =
        use_at IsDefined v (instr_place k block (length b.phis + length b.instrs)) block (block_values b) (ending_operands b.term) (uses_in block b e).term (any_local v (ending_operands b.term) used)
        (record { reaches = c.reaches; not_before = values_unmade block at b e last c; no_param = not_param c.no_param })

    pub not_read : (block at : ℕ) → Comes block at → IsListed v (used_by (fetch f block at)) → ⊥
    not_read block at c h = on (fetch f block at) refl h
      where
        on : (x : Fetched) → fetch f block at ≡ x → IsListed v (used_by x) → ⊥
        on Nowhere e l = absurd l
        on (AtInstr i) e l = not_in_instr block at i e c l
        on (AtTerm t) e l = let x = term_there f block at t e in not_in_term block at x.own x.got x.last c (subst (λ (u : Terminator). IsListed v (locals_in (ending_operands u))) (sym x.is) l)

    not_taken : (block at label : ℕ) → Comes block at → BranchesTo label (fetch f block at) → phis_read v (label_of_block f block) (phis_at f label) ≡ true → ⊥
    not_taken block at label c br h =
        let x = branch_there f block at label br in
        at_end x.1.0.own x.1.0.got x.1.0.last
      where
        at_end : (b : Block) → slice_get f.blocks block ≡ Some b → at ≡ length b.instrs → ⊥
        at_end b e last = on (slice_get f.blocks (position_of f label)) refl h
          where
            there : position_of f (label_of_block f block) ≡ block
            there = ap (λ (o : Option Block). position_of f (label_of o)) e ∙ own_label k f rules.definitions block b e

            on : (o : Option Block) → slice_get f.blocks (position_of f label) ≡ o → phis_read v (label_of_block f block) (phis_of o) ≡ true → ⊥
            on None d r = absurd (cc)
            on (Some d) got r =
                let u = of_phis IsDefined f k v (label_of_block f block) (position_of f label) 0 d.phis (uses_in (position_of f label) d got).phis r in
                subst (λ (n : ℕ). IsDefined (use_of u.0 n (values_at f n) v)) there u.1
                (record { reaches = c.reaches; not_before = λ l. values_unmade block at b e last c (subst (λ (o : Option Block). IsListed v (values_in o)) e l); no_param = not_param c.no_param })

  pub definite : IsDefinite f
  definite = record {
    uses = λ v block at w h. ⊎_elim (λ c. not_read v block at c (read_here v (fetch f block at) h)) (λ u. ungiven_no_scalar v u (scalar_read v block at h)) (comes v w);
    phi_uses = λ v block at label w br h. ⊎_elim (λ c. not_taken v block at label c br h) (λ u. ungiven_no_scalar v u (scalar_taken v (label_of_block f block) (position_of f label) h)) (comes v w);
  }
