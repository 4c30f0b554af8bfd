-- The locals that a part names are its own: its edges lead to blocks that stay, and what no block makes no path makes.
use Rattle.std.proofs.Common.{◌≡◌, ◌⊎◌, inl, inr, ⊎_elim, ℕ, zero, suc, ◌<◌, Bool, true, false, List, [], ◌∷◌, ◌++◌, length, refl, sym, ap, ◌∙◌, subst, arith}
use Rattle.std.specs.List.{list_all, list_any}
use Rattle.std.specs.Prelude.{None, Option, Some, filter, is_some, map, not, option_map, option_to_list, slice_get, unwrap_or, ◌==◌, ◌&&◌, ◌||◌, if◌then◌else◌}
use Rattle.pass_split.specs.Reached.{entry_of, is_flagged, kept_block, kept_blocks, kept_phi, pruned, reached}
use Rattle.pass_fetch_proof.proofs.rule_laws.rules.counted.Lists.{made_grows}
use Rattle.pass_fetch_proof.proofs.rule_laws.rules.counted.Members.{made_either}
use Rattle.pass_fetch_proof.specs.rule_uses.Undefined.{Entry as EntryBlock, Next, ReachesWithout, params_of}
use Rattle.pass_fetch_proof.specs.rule_uses.Uses.{block_values, local_of, locals_in, made_by_instrs, made_by_phis, phi_values, values_at, values_in}
use Rattle.pass_fetch_proof.proofs.ir_laws.facts.Lists.{get_within, phi_names, row_of, label_found}
use Rattle.pass_fetch_proof.proofs.ir_laws.facts.Truth.{itself}
use Rattle.pass_fetch_proof.proofs.rule_laws.rules.renamed.Uses.{block_edge}
use Rattle.pass_fetch_proof.proofs.rule_laws.rules.local_rules.Carried.{none_of}
use Rattle.pass_fetch_proof.proofs.rule_laws.rules.local_rules.Defined.{label_defined, value_defined}
use Rattle.pass_fetch_proof.proofs.ir_laws.paths.source_rules.Locals.{listed_either, listed_right}
use Rattle.pass_fetch_proof.proofs.rule_laws.rules.source_rules.Locals.{made_by}
use Rattle.pass_fetch_proof.specs.flow_solver.Paths.{IsListed}
use Rattle.pass_fetch_proof.specs.ir_parts.Contents.{ending_labels, ending_operands, instr_operands, result_of}
use Rattle.pass_fetch_proof.specs.ir_parts.Parts.{OfInstr, OfPhi, parts_of}
use Rattle.ir_model.specs.Names.{first_where, position_of}
use Rattle.ir_model.specs.declared.instr.Incoming.{Incoming}
use Rattle.ir_model.specs.declared.instr.Instr.{Instr}
use Rattle.ir_model.specs.declared.instr.Phi.{Phi}
use Rattle.ir_model.specs.declared.module.Block.{Block}
use Rattle.ir_model.specs.declared.module.Function.{Function}
use Rattle.ir_model.specs.declared.module.Param.{Param}
use Rattle.ir_model.specs.declared.operand.Operand.{Operand}
use Rattle.pass_fetch_proof.specs.ir_paths.Paths.{targets}
use Rattle.pass_fetch_proof.specs.ir_locals.Tables.{first_in, or_first}
use Rattle.pass_fetch_proof.specs.rule_names.Known.{is_label, is_value}
use Rattle.pass_fetch_proof.proofs.rule_laws.rules.uses.Fine.{IsUnusedIn}
use Rattle.pass_fetch_proof.proofs.ir_laws.paths.edges.Lists.{from_filtered, to_filtered, all_of as all_true}
use Rattle.pass_fetch_proof.proofs.ir_laws.paths.uses.Paths.{from_mapped, place_of, there_listed}
use Rattle.pass_exits_proof.proofs.split.uses.Paths.{listed_found}
use Rattle.pass_fetch_proof.proofs.rule_laws.rules.uses.Unused.{IsUnused}
use Rattle.pass_fetch_proof.proofs.ir_laws.paths.replaced.Known.{listed_mapped}
use Rattle.pass_fetch_proof.proofs.rule_laws.rules.replaced.OwnKinds.{made_itself}
use Rattle.pass_fetch_proof.proofs.rule_laws.rules.replaced.Passed.{AllPassingBlock, PassesAll, blocks_all}
use Rattle.pass_exits_proof.proofs.split.rules.Pruned.{kept_targets}
use Rattle.pass_exits_proof.proofs.split.rules.Reached.{flagged_is_led, led_is_flagged}
use Rattle.pass_fetch_proof.specs.rule_laws.rules.replaced.Instructions.{KnowsItsLocals, is_there, names_lost}
use Rattle.pass_exits_proof.specs.split.rules.Reached.{Edge, Entry, HasOwnBlocks, HasTabledLabels, IsLedTo}
use Rattle.pass_fetch_proof.specs.rule_values.Kinds.{block_kind, instr_kind, kind_if, kind_of, param_kind, phi_kind}
use Rattle.pass_fetch_proof.specs.rule_values.declared.kinds.Kind.{Kind}
use Rattle.pass_fetch_proof.proofs.ir_laws.paths.woven_rules.Unbroken.{each_listed as each_of}
use Rattle.pass_fetch_proof.proofs.rule_laws.rules.known_labels.Rules.{labels_spelt as labels_same}
use Rattle.pass_exits_proof.proofs.split.crossing.Ending.{block_there as target_in}

-- ---- what is made has a kind

some_or : (o p : Option Kind) → (is_some o ≡ true) ⊎ (is_some p ≡ true) → is_some (or_first o p) ≡ true
some_or (Some a) p h = refl
some_or None p (inl e) = absurd (cc)
some_or None p (inr e) = e

some_if : (r v : ℕ) (kind : Kind) → v ≡ r → is_some (kind_if r kind v) ≡ true
some_if r v kind e = subst (λ (u : ℕ). is_some (kind_if r kind u) ≡ true) (sym e) (ap (λ (b : Bool). is_some (if b then Some kind else None)) (itself r))

module _ (v : ℕ) where
  phis_some : (ps : List Phi) → IsListed v (phi_names ps) → is_some (first_in phi_kind ps v) ≡ true
  phis_some [] l = absurd l
  phis_some (p ∷ ps) (inl e) = some_or (phi_kind p v) (first_in phi_kind ps v) (inl (some_if p.result v (kind_of p.ty) e))
  phis_some (p ∷ ps) (inr l) = some_or (phi_kind p v) (first_in phi_kind ps v) (inr (phis_some ps l))

  instr_some : (i : Instr) → IsListed v (made_by i) → is_some (instr_kind i v) ≡ true
  instr_some i l = ap (λ (o : Option Kind). is_some o) (made_itself i v (on (result_of i) l))
    where
      on : (o : Option ℕ) → IsListed v (option_to_list o) → o ≡ Some v
      on None h = absurd h
      on (Some r) (inl e) = ap (λ (n : ℕ). Some n) (sym e)
      on (Some r) (inr h) = absurd h

  instrs_some : (is : List Instr) → IsListed v (row_of made_by is) → is_some (first_in instr_kind is v) ≡ true
  instrs_some [] l = absurd l
  instrs_some (i ∷ is) l =
      some_or (instr_kind i v) (first_in instr_kind is v)
      (⊎_elim (λ a. inl (instr_some i a)) (λ b. inr (instrs_some is b)) (listed_either v (made_by i) (row_of made_by is) l))

  phis_listed : (before : List ℕ) (ps : List Phi) → IsListed v (made_by_phis before ps) → IsListed v before ⊎ IsListed v (phi_names ps)
  phis_listed before [] l = inl l
  phis_listed before (p ∷ ps) l = on (phis_listed (p.result ∷ before) ps l)
    where
      on : IsListed v (p.result ∷ before) ⊎ IsListed v (phi_names ps) → IsListed v before ⊎ IsListed v (phi_names (p ∷ ps))
      on (inl (inl e)) = inr (inl e)
      on (inl (inr h)) = inl h
      on (inr h) = inr (inr h)

  block_some : (b : Block) → IsListed v (block_values b) → is_some (block_kind b v) ≡ true
  block_some b l =
      some_or (first_in phi_kind b.phis v) (first_in instr_kind b.instrs v)
      (⊎_elim (λ a. ⊎_elim (λ none. absurd none) (λ p. inl (phis_some b.phis p)) (phis_listed [] b.phis a)) (λ r. inr (instrs_some b.instrs r)) (made_either b.instrs (phi_values b) v l))

  blocks_some : (bs : List Block) (at : ℕ) → IsListed v (values_in (slice_get bs at)) → is_some (first_in block_kind bs v) ≡ true
  blocks_some [] at l = absurd l
  blocks_some (b ∷ bs) zero l = some_or (block_kind b v) (first_in block_kind bs v) (inl (block_some b l))
  blocks_some (b ∷ bs) (suc at) l = some_or (block_kind b v) (first_in block_kind bs v) (inr (blocks_some bs at l))

  params_some : (ps : List Param) → IsListed v (map (λ p. p.name) ps) → is_some (first_in param_kind ps v) ≡ true
  params_some [] l = absurd l
  params_some (p ∷ ps) (inl e) = some_or (param_kind p v) (first_in param_kind ps v) (inl (some_if p.name v (kind_of p.ty) e))
  params_some (p ∷ ps) (inr l) = some_or (param_kind p v) (first_in param_kind ps v) (inr (params_some ps l))

  -- a parameter or what a block makes is a value of the function
  pub param_value : (func : ℕ) (g : Function) → IsListed v (params_of g) → is_value func g v ≡ true
  param_value func g l = value_defined v func g ∙ some_or (first_in param_kind g.params v) (first_in block_kind g.blocks v) (inl (params_some g.params l))

  pub made_value : (func : ℕ) (g : Function) (at : ℕ) → IsListed v (values_at g at) → is_value func g v ≡ true
  made_value func g at l = value_defined v func g ∙ some_or (first_in param_kind g.params v) (first_in block_kind g.blocks v) (inr (blocks_some g.blocks at l))

-- ---- the part

any_label : (bs : List Block) (c : Block) → IsListed c bs → list_any (λ b. b.label == c.label) bs ≡ true
any_label [] c l = absurd l
any_label (b ∷ bs) c (inl e) = ap (λ (t : Bool). t || list_any (λ d. d.label == c.label) bs) (ap (λ (d : Block). b.label == d.label) e ∙ itself b.label)
any_label (b ∷ bs) c (inr l) = later (b.label == c.label) (list_any (λ d. d.label == c.label) bs) (any_label bs c l)
  where
    later : (a t : Bool) → t ≡ true → (a || t) ≡ true
    later true t e = refl
    later false t e = e

local_listed : (xs : List Operand) (v : ℕ) → IsListed (Operand.Local v) xs → IsListed v (locals_in xs)
local_listed [] v l = absurd l
local_listed (x ∷ xs) v (inl e) = subst (λ (y : Operand). IsListed v (option_to_list (local_of y) ++ locals_in xs)) e (inl refl)
local_listed (x ∷ xs) v (inr l) = listed_right v (option_to_list (local_of x)) (locals_in xs) (local_listed xs v l)

module _ (whole : Function) (tabled : HasTabledLabels whole) (own : HasOwnBlocks whole) (func : ℕ) where
  abbrev g : Function
  g = pruned whole

  abbrev flags : List Bool
  flags = reached whole

  -- blocks of the part before blocks are left out are known by their labels
  same_block : (c d : Block) → IsListed c whole.blocks → IsListed d whole.blocks → c.label ≡ d.label → c ≡ d
  same_block c d a b e =
      let p = place_of whole.blocks c a in
      let q = place_of whole.blocks d b in
      let at : p.0 ≡ q.0 = sym (own.first p.0 c p.1) ∙ ap (position_of whole) e ∙ own.first q.0 d q.1 in
      let both : Some c ≡ Some d = sym p.1 ∙ ap (slice_get whole.blocks) at ∙ q.1 in
      cc

  kept_from : (d : Block) → IsListed d g.blocks → (c : Block) × (IsListed c whole.blocks × ((d ≡ kept_block flags c) × (is_flagged flags c.label ≡ true)))
  kept_from d l =
      let x = from_mapped (kept_block flags) (filter (λ b. is_flagged flags b.label) whole.blocks) d l in
      let y = from_filtered (λ (b : Block). is_flagged flags b.label) whole.blocks x.0 x.1.0 in
      (x.0, (y.0, (x.1.1, y.1)))

  to_kept : (c : Block) → IsListed c whole.blocks → is_flagged flags c.label ≡ true → IsListed (kept_block flags c) g.blocks
  to_kept c l e = listed_mapped (kept_block flags) (filter (λ b. is_flagged flags b.label) whole.blocks) c (to_filtered (λ (b : Block). is_flagged flags b.label) whole.blocks c l e)

  -- a block that stays is found by its label
  found : (c : Block) → IsListed c whole.blocks → is_flagged flags c.label ≡ true → slice_get g.blocks (position_of g c.label) ≡ Some (kept_block flags c)
  found c l e =
      let x = listed_found g (kept_block flags c) (to_kept c l e) in
      let y = kept_from x.0 (there_listed g.blocks (position_of g c.label) x.0 x.1) in
      let label : y.0.label ≡ c.label = ap (λ (b : Block). b.label) (sym y.1.1.0) ∙ label_found g c.label x.0 x.1 in
      x.1 ∙ ap (λ (b : Block). Some b) (y.1.1.0 ∙ ap (kept_block flags) (same_block y.0 c y.1.0 l label))

  -- a label to which a path leads is a block's
  led_block : (label : ℕ) → IsLedTo whole label → (c : Block) × (IsListed c whole.blocks × (c.label ≡ label))
  led_block _ (Entry label l) = on whole.blocks l
    where
      on : (bs : List Block) → IsListed label (entry_of bs) → (c : Block) × (IsListed c bs × (c.label ≡ label))
      on [] h = absurd h
      on (b ∷ bs) (inl e) = (b, (inl refl, sym e))
      on (b ∷ bs) (inr h) = absurd h
  led_block _ (Edge from label r l) =
      let x = target_in (slice_get whole.blocks (position_of whole from)) label l in
      own.there x.0 label (there_listed whole.blocks (position_of whole from) x.0 x.1.0) x.1.1

  -- ---- a path without what no block makes

  first_position : (bs : List Block) (label : ℕ) → IsListed label (entry_of bs) → is_flagged flags label ≡ true → unwrap_or (first_where (λ b. b.label == label) (kept_blocks flags bs)) 0 ≡ 0
  first_position [] label l e = absurd l
  first_position (b ∷ bs) label (inr l) e = absurd l
  first_position (b ∷ bs) label (inl same) e =
      let here : is_flagged flags b.label ≡ true = ap (is_flagged flags) (sym same) ∙ e in
      let is_it : (b.label == label) ≡ true = ap (λ (n : ℕ). b.label == n) same ∙ itself b.label in
      ap (λ (t : Bool). unwrap_or (first_where (λ d. d.label == label) (map (kept_block flags) (if t then b ∷ filter (λ d. is_flagged flags d.label) bs else filter (λ d. is_flagged flags d.label) bs))) 0) here
      ∙ ap (λ (t : Bool). unwrap_or (if t then Some 0 else option_map suc (first_where (λ d. d.label == label) (map (kept_block flags) (filter (λ d. is_flagged flags d.label) bs)))) 0) is_it

  module _ (v : ℕ) (never : (at : ℕ) → IsListed v (values_at g at) → ⊥) where
    led_without : (label : ℕ) → IsLedTo whole label → ReachesWithout g v (position_of g label)
    led_without _ (Entry label l) =
        let flagged = led_is_flagged whole tabled label (Entry label l) in
        let c = led_block label (Entry label l) in
        let stands : slice_get g.blocks (position_of g label) ≡ Some (kept_block flags c.0) = subst (λ (n : ℕ). slice_get g.blocks (position_of g n) ≡ Some (kept_block flags c.0)) c.1.1 (found c.0 c.1.0 (ap (is_flagged flags) c.1.1 ∙ flagged)) in
        let first : unwrap_or (first_where (λ b. b.label == label) g.blocks) 0 ≡ 0 = first_position whole.blocks label l flagged in
        subst (ReachesWithout g v) (sym (at_first (first_where (λ b. b.label == label) g.blocks) first (length g.blocks) (get_within g.blocks (position_of g label) (kept_block flags c.0) stands))) EntryBlock
      where
        at_first : (o : Option ℕ) → unwrap_or o 0 ≡ 0 → (n : ℕ) → unwrap_or o n < n → unwrap_or o n ≡ 0
        at_first (Some a) e n low = e
        at_first None e n low = absurd (omega (arith, low))
    led_without _ (Edge from label r l) =
        let flagged = led_is_flagged whole tabled from r in
        let x = target_in (slice_get whole.blocks (position_of whole from)) label l in
        let c : Block = x.0 in
        let in_whole : IsListed c whole.blocks = there_listed whole.blocks (position_of whole from) c x.1.0 in
        let labelled : c.label ≡ from = label_found whole from c x.1.0 in
        let stands : slice_get g.blocks (position_of g from) ≡ Some (kept_block flags c) = subst (λ (n : ℕ). slice_get g.blocks (position_of g n) ≡ Some (kept_block flags c)) labelled (found c in_whole (ap (is_flagged flags) labelled ∙ flagged)) in
        Next (position_of g from) (position_of g label) (led_without from r) (λ m. never (position_of g from) m) (block_edge g (position_of g from) (kept_block flags c) label stands x.1.1)

  -- ---- the parts of a block name what there is

  module _ (unused : IsUnusedIn g) where
    abbrev V : ℕ → Bool
    V = is_value func (pruned whole)

    abbrev L : ℕ → Bool
    L = is_label func (pruned whole)

    no_value : (v : ℕ) → V v ≡ false → ((at : ℕ) → IsListed v (values_at g at) → ⊥) × (IsListed v (params_of g) → ⊥)
    no_value v e = ((λ at l. let t : true ≡ false = sym (made_value v func g at l) ∙ e in absurd (cc)), (λ l. let t : true ≡ false = sym (param_value v func g l) ∙ e in absurd (cc)))

    -- where no path leads without it, it is a value
    is_some_value : (v : ℕ) → (((at : ℕ) → IsListed v (values_at g at) → ⊥) → (IsListed v (params_of g) → ⊥) → ⊥) → V v ≡ true
    is_some_value v h = on (V v) refl
      where
        on : (b : Bool) → V v ≡ b → b ≡ true
        on true e = refl
        on false e = let n = no_value v e in absurd (h n.0 n.1)

    operands_known : (xs : List Operand) → ((v : ℕ) → IsListed v (locals_in xs) → V v ≡ true) → list_all (is_there V) xs ≡ true
    operands_known xs h = all_true (is_there V) xs one
      where
        one : (x : Operand) → IsListed x xs → is_there V x ≡ true
        one (Operand.Local v) l = h v (local_listed xs v l)
        one (Operand.Global n) l = refl
        one (Operand.Number z) l = refl
        one Operand.True l = refl
        one Operand.False l = refl
        one Operand.Null l = refl
        one Operand.None l = refl
        one Operand.Poison l = refl

    label_known : (c : Block) → IsListed c g.blocks → L c.label ≡ true
    label_known c l = label_defined c.label func g ∙ any_label g.blocks c l

    none_lost : (a b : Bool) → a ≡ true → b ≡ true → not (a && b) ≡ false
    none_lost true true e d = refl
    none_lost true false e d = absurd (cc)
    none_lost false b e d = absurd (cc)

    module _ (d : Block) (l : IsListed d g.blocks) where
      stays : (c : Block) × (IsListed c whole.blocks × ((d ≡ kept_block flags c) × (is_flagged flags c.label ≡ true)))
      stays = kept_from d l

      stands : slice_get g.blocks (position_of g d.label) ≡ Some d
      stands =
          let c = stays in
          subst (λ (b : Block). slice_get g.blocks (position_of g b.label) ≡ Some b) (sym c.1.1.0) (found c.0 c.1.0 c.1.1.1)

      led : IsLedTo whole d.label
      led = let c = stays in subst (λ (b : Block). IsLedTo whole b.label) (sym c.1.1.0) (flagged_is_led whole c.0.label c.1.1.1)

      not_used : (v : ℕ) (before : List ℕ) (js : List Instr) → IsUnused v before js → (IsListed v (made_by_instrs before js) → ⊥) → (j : Instr) → IsListed j js → IsListed v (locals_in (instr_operands j)) → ⊥
      not_used v before [] u none j m x = m
      not_used v before (i ∷ js) u none j (inl e) x = u.0 (λ k. none (made_grows js (made_by i ++ before) v (listed_right v (made_by i) before k))) (subst (λ (y : Instr). IsListed v (locals_in (instr_operands y))) e x)
      not_used v before (i ∷ js) u none j (inr m) x = not_used v (made_by i ++ before) js u.1 none j m x

      unmade : (v : ℕ) → ((at : ℕ) → IsListed v (values_at g at) → ⊥) → IsListed v (block_values d) → ⊥
      unmade v never x = never (position_of g d.label) (subst (λ (o : Option Block). IsListed v (values_in o)) (sym stands) x)

      instr_known : (j : Instr) → IsListed j d.instrs → (v : ℕ) → IsListed v (locals_in (instr_operands j)) → V v ≡ true
      instr_known j m v x =
          is_some_value v
          (λ never no_param. not_used v (phi_values d) d.instrs (unused.instrs v no_param (position_of g d.label) d stands (led_without v never d.label led)) (unmade v never) j m x)

      term_known : (v : ℕ) → IsListed v (locals_in (ending_operands d.term)) → V v ≡ true
      term_known v x = is_some_value v (λ never no_param. unused.term v no_param (position_of g d.label) d stands (led_without v never d.label led) (unmade v never) x)

      -- the labels of a phi stay
      from_led : (y : Phi) (j : Incoming) → IsListed y d.phis → IsListed j y.incoming → IsLedTo whole j.from
      from_led y j a b =
          let c = stays in
          let z = from_mapped (kept_phi flags) c.0.phis y (subst (λ (x : Block). IsListed y x.phis) c.1.1.0 a) in
          let k = from_filtered (λ (i : Incoming). is_flagged flags i.from) z.0.incoming j (subst (λ (x : Phi). IsListed j x.incoming) z.1.1 b) in
          flagged_is_led whole j.from k.1

      phi_known : (y : Phi) → IsListed y d.phis → (j : Incoming) → IsListed j y.incoming → is_there V j.value ≡ true
      phi_known y a j b = on j.value refl
        where
          on : (x : Operand) → j.value ≡ x → is_there V x ≡ true
          on (Operand.Local v) e = is_some_value v (λ never no_param. unused.phis v no_param d y j l a b e (led_without v never j.from (from_led y j a b)) (λ m. never (position_of g j.from) m))
          on (Operand.Global n) e = refl
          on (Operand.Number z) e = refl
          on Operand.True e = refl
          on Operand.False e = refl
          on Operand.Null e = refl
          on Operand.None e = refl
          on Operand.Poison e = refl

      phi_label : (y : Phi) → IsListed y d.phis → (j : Incoming) → IsListed j y.incoming → L j.from ≡ true
      phi_label y a j b =
          let r = from_led y j a b in
          let c = led_block j.from r in
          let flagged = led_is_flagged whole tabled j.from r in
          subst (λ (n : ℕ). L n ≡ true) c.1.1 (label_known (kept_block flags c.0) (to_kept c.0 c.1.0 (ap (is_flagged flags) c.1.1 ∙ flagged)))

      target_label : (label : ℕ) → IsListed label (targets d.term) → L label ≡ true
      target_label label m = let c = kept_targets whole tabled own d label l m in subst (λ (n : ℕ). L n ≡ true) c.1.1 (label_known c.0 c.1.0)

      block_knows : AllPassingBlock (names_lost V L) d
      block_knows =
          record {
            phis = each_of (λ (y : Phi). PassesAll (names_lost V L) (OfPhi y)) d.phis
                (λ y a p. none_lost (list_all (is_there V) (map (λ (i : Incoming). i.value) y.incoming)) (list_all L (map (λ (i : Incoming). i.from) y.incoming))
                (all_true (is_there V) (map (λ (i : Incoming). i.value) y.incoming) (λ x k. let j = from_mapped (λ (i : Incoming). i.value) y.incoming x k in subst (λ (o : Operand). is_there V o ≡ true) (sym j.1.1) (phi_known y a j.0 j.1.0)))
                (all_true L (map (λ (i : Incoming). i.from) y.incoming) (λ x k. let j = from_mapped (λ (i : Incoming). i.from) y.incoming x k in subst (λ (n : ℕ). L n ≡ true) (sym j.1.1) (phi_label y a j.0 j.1.0))));
            instrs = each_of (λ (i : Instr). PassesAll (names_lost V L) (OfInstr i)) d.instrs (λ i a p. none_lost (list_all (is_there V) (instr_operands i)) true (operands_known (instr_operands i) (instr_known i a)) refl);
            term = λ p. none_lost (list_all (is_there V) (ending_operands d.term)) (list_all L (ending_labels d.term)) (operands_known (ending_operands d.term) term_known) (all_true L (ending_labels d.term) (λ x k. target_label x (subst (IsListed x) (labels_same d.term) k)));
          }

    pub knows_locals : KnowsItsLocals func (pruned whole)
    knows_locals = none_of (names_lost V L) (parts_of func g) (refl, blocks_all (names_lost V L) func (λ p b. refl) 0 g.blocks (each_of (AllPassingBlock (names_lost V L)) g.blocks block_knows))
