-- Uses in a renumbered function are undefined just where they were (rule F2).
use Rattle.std.proofs.Common.{◌≡◌, ℕ, ◌+◌, List, [], ◌∷◌, ◌++◌, length, refl, sym, ap, ◌∙◌, subst, Option, Some, None}
use Rattle.std.proofs.lemmas.List.{length-map, map-append}
use Rattle.std.proofs.lemmas.Option.{slice_get-map}
use Rattle.std.specs.Prelude.{◌↔◌, map, option_map, option_to_list, slice_get, unwrap_or, ◌==◌}
use Rattle.flow_blocks.proofs.Elements.{listed_map, map_listed}
use Rattle.flow_blocks.specs.Edges.{block_edges, edges_of_blocks}
use Rattle.ir_laws.specs.ir_base.declared.name.Name.{Name}
use Rattle.ir_laws.specs.ir_base.declared.outcome.Place.{Place}
use Rattle.rule_uses.specs.Undefined.{Entry, Here, IsFirstUndefined, IsUndefined, Later, Next, Nowhere, ReachesWithout, params_of}
use Rattle.rule_uses.specs.Uses.{Use, block_uses, block_values, blocks_uses, incoming_use, incoming_uses, instr_uses, local_of, locals_in, made_by_instrs, made_by_phis, phi_uses, phi_values, use_of, uses_at, uses_of, values_at, values_in}
use Rattle.ir_laws.proofs.facts.Lists.{first_same}
use Rattle.ir_laws.specs.flow_solver.Paths.{IsListed}
use Rattle.ir_parts.specs.Contents.{ending_operands, instr_operands, result_of}
use Rattle.ir_parts.specs.Parts.{instr_place}
use Rattle.ir_laws.specs.ir_model.Names.{position_of}
use Rattle.ir_laws.specs.ir_model.declared.instr.Incoming.{Incoming}
use Rattle.ir_laws.specs.ir_model.declared.instr.Instr.{Instr}
use Rattle.ir_laws.specs.ir_model.declared.instr.Phi.{Phi}
use Rattle.ir_laws.specs.ir_model.declared.instr.Terminator.{Terminator}
use Rattle.ir_laws.specs.ir_model.declared.module.Block.{Block}
use Rattle.ir_laws.specs.ir_model.declared.module.Function.{Function}
use Rattle.ir_laws.specs.ir_model.declared.module.Param.{Param}
use Rattle.ir_laws.specs.ir_model.declared.operand.Operand.{Operand}
use Rattle.ir_laws.specs.ir_paths.Paths.{targets}
use Rattle.rule_laws.proofs.rules.order_rules.Contents.{ending_labels_over, ending_over, instr_over, listed_over, maps_forget, maps_same, result_over}
use Rattle.ir_laws.proofs.facts.Renumbering.{equal_same}
use Rattle.ir_laws.specs.facts.order_rules.Renumbered.{StaysApart, renumbered_block, renumbered_function, renumbered_incoming, renumbered_instr, renumbered_operand, renumbered_param, renumbered_phi, renumbered_term}

abbrev renumbered_use : (ℕ → ℕ) → Use → Use
renumbered_use to u = record { place = u.place; block = u.block; before = map to u.before; value = to u.value }

module _ (to : ℕ → ℕ) where
  -- ---- what blocks make

  made_phis : (before : List ℕ) (ps : List Phi) → made_by_phis (map to before) (map (renumbered_phi to) ps) ≡ map to (made_by_phis before ps)
  made_phis before [] = refl
  made_phis before (p ∷ ps) = made_phis (p.result ∷ before) ps

  made_one : (before : List ℕ) (x : Instr) → option_to_list (result_of (renumbered_instr to x)) ++ map to before ≡ map to (option_to_list (result_of x) ++ before)
  made_one before x =
      ap (λ (ns : List ℕ). ns ++ map to before) (ap option_to_list (result_over to x) ∙ listed_over to (result_of x)) ∙ sym (map-append to (option_to_list (result_of x)) before)

  made_instrs : (before : List ℕ) (is : List Instr) → made_by_instrs (map to before) (map (renumbered_instr to) is) ≡ map to (made_by_instrs before is)
  made_instrs before [] = refl
  made_instrs before (x ∷ is) = ap (λ (ns : List ℕ). made_by_instrs ns (map (renumbered_instr to) is)) (made_one before x) ∙ made_instrs (option_to_list (result_of x) ++ before) is

  made_over : (b : Block) → block_values (renumbered_block to b) ≡ map to (block_values b)
  made_over b = ap (λ (ns : List ℕ). made_by_instrs ns (map (renumbered_instr to) b.instrs)) (made_phis [] b.phis) ∙ made_instrs (phi_values b) b.instrs

  made_in : (o : Option Block) → values_in (option_map (renumbered_block to) o) ≡ map to (values_in o)
  made_in None = refl
  made_in (Some b) = made_over b

  -- ---- uses

  local_over : (x : Operand) → local_of (renumbered_operand to x) ≡ option_map to (local_of x)
  local_over (Operand.Local n) = refl
  local_over _ = refl

  one_over : (x : Operand) → option_to_list (local_of (renumbered_operand to x)) ≡ map to (option_to_list (local_of x))
  one_over x = ap option_to_list (local_over x) ∙ listed_over to (local_of x)

  locals_over : (xs : List Operand) → locals_in (map (renumbered_operand to) xs) ≡ map to (locals_in xs)
  locals_over [] = refl
  locals_over (x ∷ xs) = (λ i. one_over x i ++ locals_over xs i) ∙ sym (map-append to (option_to_list (local_of x)) (locals_in xs))

  uses_over : (p : Place) (block : ℕ) (before : List ℕ) (xs : List Operand) → uses_at p block (map to before) (map (renumbered_operand to) xs) ≡ map (renumbered_use to) (uses_at p block before xs)
  uses_over p block before xs =
      ap (map (use_of p block (map to before))) (locals_over xs)
      ∙ maps_same (use_of p block (map to before)) to (renumbered_use to) (use_of p block before) (λ v. refl) (locals_in xs)

  instrs_over : (func block at : ℕ) (before : List ℕ) (is : List Instr) → instr_uses func block at (map to before) (map (renumbered_instr to) is) ≡ map (renumbered_use to) (instr_uses func block at before is)
  instrs_over func block at before [] = refl
  instrs_over func block at before (x ∷ is) =
      let here : uses_at (instr_place func block at) block (map to before) (instr_operands (renumbered_instr to x)) ≡ map (renumbered_use to) (uses_at (instr_place func block at) block before (instr_operands x)) =
      ap (uses_at (instr_place func block at) block (map to before)) (instr_over to x) ∙ uses_over (instr_place func block at) block before (instr_operands x) in
      let rest : instr_uses func block (at + 1) (option_to_list (result_of (renumbered_instr to x)) ++ map to before) (map (renumbered_instr to) is) ≡ map (renumbered_use to) (instr_uses func block (at + 1) (option_to_list (result_of x) ++ before) is) =
      ap (λ (ns : List ℕ). instr_uses func block (at + 1) ns (map (renumbered_instr to) is)) (made_one before x) ∙ instrs_over func block (at + 1) (option_to_list (result_of x) ++ before) is in
      (λ i. here i ++ rest i)
      ∙ sym (map-append (renumbered_use to) (uses_at (instr_place func block at) block before (instr_operands x)) (instr_uses func block (at + 1) (option_to_list (result_of x) ++ before) is))

  module _ (apart : StaysApart to) (names : List Name) (f : Function) where
    abbrev g : Function
    g = renumbered_function to names f

    position_same : (label : ℕ) → position_of g (to label) ≡ position_of f label
    position_same label = λ i.
        unwrap_or (first_same (renumbered_block to) (λ (b : Block). b.label == to label) (λ (b : Block). b.label == label) (λ b. equal_same to apart b.label label) f.blocks i)
        (length-map f.blocks (renumbered_block to) i)

    values_over : (block : ℕ) → values_at g block ≡ map to (values_at f block)
    values_over block = ap values_in (slice_get-map (renumbered_block to) f.blocks block) ∙ made_in (slice_get f.blocks block)

    from_over : (label : ℕ) → values_at g (position_of g (to label)) ≡ map to (values_at f (position_of f label))
    from_over label = ap (values_at g) (position_same label) ∙ values_over (position_of f label)

    incoming_over : (p : Place) (is : List Incoming) → incoming_uses g p (map (renumbered_incoming to) is) ≡ map (renumbered_use to) (incoming_uses f p is)
    incoming_over p [] = refl
    incoming_over p (x ∷ is) =
        let here : map (incoming_use g p (renumbered_incoming to x)) (option_to_list (local_of (renumbered_operand to x.value))) ≡ map (renumbered_use to) (map (incoming_use f p x) (option_to_list (local_of x.value))) =
        ap (map (incoming_use g p (renumbered_incoming to x))) (one_over x.value)
        ∙ maps_same (incoming_use g p (renumbered_incoming to x)) to (renumbered_use to) (incoming_use f p x) (λ v i. record { place = p; block = position_same x.from i; before = from_over x.from i; value = to v }) (option_to_list (local_of x.value)) in
        (λ i. here i ++ incoming_over p is i) ∙ sym (map-append (renumbered_use to) (map (incoming_use f p x) (option_to_list (local_of x.value))) (incoming_uses f p is))

    phis_over : (func block at : ℕ) (ps : List Phi) → phi_uses g func block at (map (renumbered_phi to) ps) ≡ map (renumbered_use to) (phi_uses f func block at ps)
    phis_over func block at [] = refl
    phis_over func block at (p ∷ ps) =
        (λ i. incoming_over (instr_place func block at) p.incoming i ++ phis_over func block (at + 1) ps i)
        ∙ sym (map-append (renumbered_use to) (incoming_uses f (instr_place func block at) p.incoming) (phi_uses f func block (at + 1) ps))

    block_over : (func block : ℕ) (b : Block) → block_uses g func block (renumbered_block to b) ≡ map (renumbered_use to) (block_uses f func block b)
    unfolding block_uses
    block_over func block b =
        let p : length (map (renumbered_phi to) b.phis) ≡ length b.phis = length-map b.phis (renumbered_phi to) in
        let q : length (map (renumbered_instr to) b.instrs) ≡ length b.instrs = length-map b.instrs (renumbered_instr to) in
        let last : List Use = uses_at (instr_place func block (length b.phis + length b.instrs)) block (block_values b) (ending_operands b.term) in
        let instrs : List Use = instr_uses func block (length b.phis) (phi_values b) b.instrs in
        let ends : uses_at (instr_place func block (length (map (renumbered_phi to) b.phis) + length (map (renumbered_instr to) b.instrs))) block (block_values (renumbered_block to b)) (ending_operands (renumbered_term to b.term)) ≡ map (renumbered_use to) last =
        (λ i. uses_at (instr_place func block (p i + q i)) block (made_over b i) (ending_over to b.term i)) ∙ uses_over (instr_place func block (length b.phis + length b.instrs)) block (block_values b) (ending_operands b.term) in
        let middle : instr_uses func block (length (map (renumbered_phi to) b.phis)) (phi_values (renumbered_block to b)) (map (renumbered_instr to) b.instrs) ≡ map (renumbered_use to) instrs =
        (λ i. instr_uses func block (p i) (made_phis [] b.phis i) (map (renumbered_instr to) b.instrs)) ∙ instrs_over func block (length b.phis) (phi_values b) b.instrs in
        (λ i. phis_over func block 0 b.phis i ++ (middle i ++ ends i))
        ∙ ap (λ (us : List Use). map (renumbered_use to) (phi_uses f func block 0 b.phis) ++ us) (sym (map-append (renumbered_use to) instrs last))
        ∙ sym (map-append (renumbered_use to) (phi_uses f func block 0 b.phis) (instrs ++ last))

    blocks_over : (func block : ℕ) (bs : List Block) → blocks_uses g func block (map (renumbered_block to) bs) ≡ map (renumbered_use to) (blocks_uses f func block bs)
    blocks_over func block [] = refl
    blocks_over func block (b ∷ bs) =
        (λ i. block_over func block b i ++ blocks_over func (block + 1) bs i) ∙ sym (map-append (renumbered_use to) (block_uses f func block b) (blocks_uses f func (block + 1) bs))

    -- ---- paths

    targets_over : (t : Terminator) → targets (renumbered_term to t) ≡ map to (targets t)
    targets_over (Terminator.Ret value) = refl
    targets_over (Terminator.Switch arg default cases) = ending_labels_over to (Terminator.Switch arg default cases)
    targets_over _ = refl

    edges_of : (at : ℕ) (bs : List Block) → edges_of_blocks g at (map (renumbered_block to) bs) ≡ edges_of_blocks f at bs
    edges_of at [] = refl
    edges_of at (b ∷ bs) = λ i.
        map (λ next. (at, next)) ((ap (map (position_of g)) (targets_over b.term) ∙ maps_forget (position_of g) to (position_of f) position_same (targets b.term)) i)
        ++ edges_of (at + 1) bs i

    edges_same : block_edges g ≡ block_edges f
    unfolding block_edges
    edges_same = edges_of 0 f.blocks

    made_forth : (v block : ℕ) → IsListed v (values_at f block) → IsListed (to v) (values_at g block)
    made_forth v block l = subst (IsListed (to v)) (sym (values_over block)) (map_listed to v (values_at f block) l)

    listed_back : (v : ℕ) (ns : List ℕ) → IsListed (to v) (map to ns) → IsListed v ns
    listed_back v ns l = let x = listed_map to (to v) ns l in subst (λ (n : ℕ). IsListed n ns) (sym (apart v x.0 x.1.1)) x.1.0

    made_back : (v block : ℕ) → IsListed (to v) (values_at g block) → IsListed v (values_at f block)
    made_back v block l = listed_back v (values_at f block) (subst (IsListed (to v)) (values_over block) l)

    reaches_back : (v block : ℕ) → ReachesWithout g (to v) block → ReachesWithout f v block
    reaches_back v _ Entry = Entry
    reaches_back v _ (Next from next r never e) =
        Next from next (reaches_back v from r) (λ l. never (made_forth v from l)) (subst (IsListed (from, next)) edges_same e)

    reaches_forth : (v block : ℕ) → ReachesWithout f v block → ReachesWithout g (to v) block
    reaches_forth v _ Entry = Entry
    reaches_forth v _ (Next from next r never e) =
        Next from next (reaches_forth v from r) (λ l. never (made_back v from l)) (subst (IsListed (from, next)) (sym edges_same) e)

    params_over : params_of g ≡ map to (params_of f)
    params_over = maps_same (λ (p : Param). p.name) (renumbered_param to) to (λ (p : Param). p.name) (λ p. refl) f.params

    undefined_back : (u : Use) → IsUndefined g (renumbered_use to u) → IsUndefined f u
    undefined_back u h =
        record {
          reaches = reaches_back u.value u.block h.reaches;
          not_before = λ l. h.not_before (map_listed to u.value u.before l);
          no_param = λ l. h.no_param (subst (IsListed (to u.value)) (sym params_over) (map_listed to u.value (params_of f) l));
        }

    undefined_forth : (u : Use) → IsUndefined f u → IsUndefined g (renumbered_use to u)
    undefined_forth u h =
        record {
          reaches = reaches_forth u.value u.block h.reaches;
          not_before = λ l. h.not_before (listed_back u.value u.before l);
          no_param = λ l. h.no_param (listed_back u.value (params_of f) (subst (IsListed (to u.value)) params_over l));
        }

    first_over : (us : List Use) (found : Option Place) → IsFirstUndefined f us found → IsFirstUndefined g (map (renumbered_use to) us) found
    first_over _ _ Nowhere = Nowhere
    first_over _ _ (Here u us h) = Here (renumbered_use to u) (map (renumbered_use to) us) (undefined_forth u h)
    first_over _ _ (Later u us found never h) = Later (renumbered_use to u) (map (renumbered_use to) us) found (λ d. never (undefined_back u d)) (first_over us found h)

    -- the same of the uses that they came from
    first_back : (us ws : List Use) (found : Option Place) → ws ≡ map (renumbered_use to) us → IsFirstUndefined g ws found → IsFirstUndefined f us found
    first_back [] _ _ e Nowhere = Nowhere
    first_back [] _ _ e (Here w ws h) = absurd (cc)
    first_back [] _ _ e (Later w ws found never h) = absurd (cc)
    first_back (u ∷ us) _ _ e Nowhere = absurd (cc)
    first_back (u ∷ us) _ _ e (Here w ws h) =
        let same : w ≡ renumbered_use to u = cc in
        subst (λ (p : Place). IsFirstUndefined f (u ∷ us) (Some p)) (sym (ap (λ (x : Use). x.place) same)) (Here u us (undefined_back u (subst (IsUndefined g) same h)))
    first_back (u ∷ us) _ _ e (Later w ws found never h) =
        let same : w ≡ renumbered_use to u = cc in
        let rest : ws ≡ map (renumbered_use to) us = cc in
        Later u us found (λ d. never (subst (IsUndefined g) (sym same) (undefined_forth u d))) (first_back us ws found rest h)

    pub uses_same : (k : ℕ) (found : Option Place) → IsFirstUndefined f (uses_of k f) found ↔ IsFirstUndefined g (uses_of k g) found
    uses_same k found = (
      λ h. subst (λ (us : List Use). IsFirstUndefined g us found) (sym (blocks_over k 0 f.blocks)) (first_over (uses_of k f) found h),
      λ h. first_back (uses_of k f) (uses_of k g) found (blocks_over k 0 f.blocks) h,
    )
