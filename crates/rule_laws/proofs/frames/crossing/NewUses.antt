-- A new value is used in the block that makes it alone, behind its definition, so it is needed behind no edge.
use Rattle.std.proofs.Common.{◌≡◌, ◌⊎◌, inl, inr, ⊎_elim, ℕ, zero, suc, ◌+◌, ◌<◌, ◌≤◌, Bool, true, false, List, [], ◌∷◌, ◌++◌, length, refl, sym, ap, ◌∙◌, subst, arith}
use Rattle.std.specs.List.{list_all}
use Rattle.std.specs.Prelude.{Option, Some, None, is_some, map, option_to_list, slice_get, ◌&&◌}
use Rattle.rule_laws.proofs.rules.crossing.Follows.{Uses}
use Rattle.ir_laws.proofs.paths.crossing.Spots.{Spot, spot_first, spot_instr, spot_next, spot_term}
use Rattle.rule_laws.proofs.frames.crossing.Spots.{none_needed}
use Rattle.rule_laws.proofs.rules.counted.PartFacts.{block_passes}
use Rattle.rule_uses.specs.Uses.{block_values, local_of, locals_in, made_by_instrs, made_by_phis, phi_values, values_at, values_in}
use Rattle.ir_laws.proofs.facts.Members.{at_each, each_there}
use Rattle.ir_laws.proofs.facts.Truth.{and_first, and_second, holds}
use Rattle.ir_laws.proofs.paths.source_rules.Locals.{listed_either, listed_left, listed_right}
use Rattle.ir_laws.specs.flow_solver.Paths.{IsListed}
use Rattle.ir_parts.specs.Contents.{arg_operands, ending_operands, instr_operands, part_operands, part_types, part_labels, result_of}
use Rattle.ir_parts.specs.Locals.{locals_of}
use Rattle.ir_parts.specs.Parts.{Ending, OfInstr, OfPhi, Part}
use Rattle.rule_laws.specs.rules.function_rules.Kept.{KeepsFunctionRules}
use Rattle.ir_laws.specs.ir_model.Names.{position_of}
use Rattle.ir_laws.specs.ir_model.declared.instr.Incoming.{Incoming}
use Rattle.ir_laws.specs.ir_model.declared.instr.Instr.{Instr}
use Rattle.ir_laws.specs.ir_model.declared.instr.Phi.{Phi}
use Rattle.ir_laws.specs.ir_model.declared.module.Block.{Block}
use Rattle.ir_laws.specs.ir_model.declared.module.Function.{Function}
use Rattle.ir_laws.specs.ir_model.declared.module.Module.{Module}
use Rattle.ir_laws.specs.ir_model.declared.operand.Operand.{Operand}
use Rattle.rule_names.specs.Known.{is_label, is_value, knows_called, knows_operand, knows_type, names_unknown}
use Rattle.ir_laws.specs.ir_paths.Windows.{destroy_label, resume_label}
use Rattle.ir_laws.specs.ir_paths.declared.point.Point.{Point}
use Rattle.ir_laws.specs.run_step.Step.{AtInstr, AtTerm, Fetched}
use Rattle.ir_laws.specs.run_laws.changed.Changed.{Each}
use Rattle.frame_contents.specs.frame_crossing.EdgeUses.{IsUsedOn, blocks_uses, edge_use, incoming_uses, phis_uses, uses_by}
use Rattle.frame_contents.specs.frame_crossing.Paths.{Across, BranchesTo, IsNeeded, IsNeededBehind, IsNeededFrom, Next, OnEdge, Use, phis_at, phis_in, used_by}
use Rattle.frame_contents.specs.frame_crossing.declared.edge_use.EdgeUse.{EdgeUse}
use Rattle.rule_values.specs.Kinds.{value_kind}
use Rattle.rule_values.specs.declared.kinds.Kind.{Kind}
use Rattle.rule_laws.proofs.rules.woven_rules.Operands.{instr_pairs, term_pairs}
use Rattle.rule_laws.specs.rules.woven_rules.Blocks.{AreWoven, AreWovenBlocks, Done, Gone, IsWoven, IsWovenBlock, Kept, NoBlock, OneBlock, Put, Remain, Stays, Unpromised}
use Rattle.ir_laws.specs.facts.woven_rules.Pairs.{Empty, Pair, Pairwise}
use Rattle.rule_laws.specs.rules.woven_rules.Parts.{IncomingStays, PhiStays}
use Rattle.rule_laws.specs.rules.woven_rules.Weaving.{Constant, Fetched as FetchedValue, Front, IsInPlace, IsKnown, New, Old, Same, Weaving, names_nothing}
use Rattle.ir_laws.proofs.paths.crossing.NewUses.{some_local}
use Rattle.rule_laws.proofs.rules.begin_order.Known.{definition_of as named_there}

-- ---- edges to blocks without phis

no_phis_used : (g : Function) (to at : ℕ) (ps : List Phi) (before : List ℕ) (x : EdgeUse) → made_by_phis before ps ≡ [] → IsListed x (phis_uses g at ps) → ⊥
no_phis_used g to at [] before x e l = l
no_phis_used g to at (p ∷ ps) before x e l = let some = made_by_first p ps before in absurd (not_empty (made_by_phis (p.result ∷ before) ps) p.result some e)
  where
    made_by_first : (p : Phi) (ps : List Phi) (before : List ℕ) → IsListed p.result (made_by_phis (p.result ∷ before) ps)
    made_by_first p ps before = grows ps (p.result ∷ before) (inl refl)
      where
        grows : (ps : List Phi) (before : List ℕ) → IsListed p.result before → IsListed p.result (made_by_phis before ps)
        grows [] before h = h
        grows (q ∷ qs) before h = grows qs (q.result ∷ before) (inr h)

    not_empty : (xs : List ℕ) (n : ℕ) → IsListed n xs → xs ≡ [] → ⊥
    not_empty [] n h e = h
    not_empty (y ∷ ys) n h e = absurd (cc)

uses_to : (g : Function) (at : ℕ) (is : List Incoming) (x : EdgeUse) → IsListed x (incoming_uses g at is) → x.to ≡ at
uses_to g at [] x l = absurd l
uses_to g at (i ∷ is) x l = ⊎_elim (one (local_of i.value)) (λ b. uses_to g at is x b) (listed_either x (uses_by (position_of g i.from) at (local_of i.value)) (incoming_uses g at is) l)
  where
    one : (o : Option ℕ) → IsListed x (uses_by (position_of g i.from) at o) → x.to ≡ at
    one None h = absurd h
    one (Some n) (inl e) = ap (λ (u : EdgeUse). u.to) e
    one (Some n) (inr h) = absurd h

phi_uses_to : (g : Function) (at : ℕ) (ps : List Phi) (x : EdgeUse) → IsListed x (phis_uses g at ps) → x.to ≡ at
phi_uses_to g at [] x l = absurd l
phi_uses_to g at (p ∷ ps) x l = ⊎_elim (λ a. uses_to g at p.incoming x a) (λ b. phi_uses_to g at ps x b) (listed_either x (incoming_uses g at p.incoming) (phis_uses g at ps) l)

pub edge_in : (g : Function) (at : ℕ) (bs : List Block) (x : EdgeUse) → IsListed x (blocks_uses g at bs) → (i : ℕ) × ((b : Block) × ((slice_get bs i ≡ Some b) × ((x.to ≡ at + i) × IsListed x (phis_uses g (at + i) b.phis))))
edge_in g at [] x l = absurd l
edge_in g at (b ∷ bs) x l =
    let first : at ≡ at + 0 = omega arith in
    ⊎_elim
    (λ a. (0, (b, (refl, (phi_uses_to g at b.phis x a ∙ first, subst (λ (n : ℕ). IsListed x (phis_uses g n b.phis)) first a)))))
    (λ r.
    let y = edge_in g (at + 1) bs x r in
    let next : at + 1 + y.0 ≡ at + suc y.0 = omega arith in
    (suc y.0, (y.1.0, (y.1.1.0, (y.1.1.1.0 ∙ next, subst (λ (n : ℕ). IsListed x (phis_uses g n y.1.0.phis)) next y.1.1.1.1)))))
    (listed_either x (phis_uses g at b.phis) (blocks_uses g (at + 1) bs) l)

pub no_edge_use : (g : Function) (v from to : ℕ) → phis_at g to ≡ [] → IsUsedOn g v from to → ⊥
no_edge_use g v from to bare l =
    let y = edge_in g 0 g.blocks (edge_use from to v) l in
    let zero_more : 0 + y.0 ≡ y.0 = omega arith in
    let got : slice_get g.blocks to ≡ Some y.1.0 = ap (slice_get g.blocks) (y.1.1.1.0 ∙ zero_more) ∙ y.1.1.0 in
    no_phis_used g to (0 + y.0) y.1.0.phis [] (edge_use from to v) (sym (ap phis_in got) ∙ bare) y.1.1.1.1

module _ (m : Module) (k : ℕ) (f : Function) (rules : KeepsFunctionRules m k f) (v : ℕ) (new : length f.names ≤ v) where
  not_a_value : is_value k f v ≡ true → ⊥
  not_a_value h =
      let x = named_there (locals_of k f) v h in
      let lt : x.0.name < length f.names = rules.tabled x.0 x.1.0 in
      let is : x.0.name ≡ v = x.1.1 in
      absurd (omega (arith, lt, is, new))

  one_known : (x : Operand) → knows_operand m (is_value k f) x ≡ true → local_of x ≡ Some v → ⊥
  one_known (Operand.Local u) h e = let same : u ≡ v = cc in not_a_value (subst (λ (n : ℕ). is_value k f n ≡ true) same h)
  one_known (Operand.Global n) h e = absurd (cc)
  one_known (Operand.Number z) h e = absurd (cc)
  one_known Operand.True h e = absurd (cc)
  one_known Operand.False h e = absurd (cc)
  one_known Operand.Null h e = absurd (cc)
  one_known Operand.None h e = absurd (cc)
  one_known Operand.Poison h e = absurd (cc)

  all_known : (xs : List Operand) → list_all (knows_operand m (is_value k f)) xs ≡ true → IsListed v (locals_in xs) → ⊥
  all_known [] h l = l
  all_known (x ∷ xs) h l =
      ⊎_elim (λ a. one_known x (and_first (knows_operand m (is_value k f) x) (list_all (knows_operand m (is_value k f)) xs) h) (some_local (local_of x) v a))
      (λ b. all_known xs (and_second (knows_operand m (is_value k f) x) (list_all (knows_operand m (is_value k f)) xs) h) b)
      (listed_either v (option_to_list (local_of x)) (locals_in xs) l)

  -- a part that names nothing unknown
  part_known : (x : Part) (p : _) → names_unknown m (is_value k f) (is_label k f) p x ≡ false → list_all (knows_operand m (is_value k f)) (part_operands x) ≡ true
  part_known x p e =
      let types : Bool = list_all (knows_type m) (part_types x) in
      let values : Bool = list_all (knows_operand m (is_value k f)) (part_operands x) in
      let rest : Bool = list_all (is_label k f) (part_labels x) && knows_called m x in
      and_first values rest (and_second types (values && rest) (holds (types && (values && rest)) e))

  -- ---- the function doesn't use the value

  block_free : (q : ℕ) (b : Block) → slice_get f.blocks q ≡ Some b → Each (λ i. Uses v i → ⊥) b.instrs
  block_free q b got =
      each_there _ b.instrs (λ at i e.
      let x = at_each _ b.instrs at i (block_passes (names_unknown m (is_value k f) (is_label k f)) k f rules.known q b got).instrs e in
      all_known (instr_operands i) (part_known (OfInstr i) x.0 x.2))

  term_free : (q : ℕ) (b : Block) → slice_get f.blocks q ≡ Some b → IsListed v (locals_in (ending_operands b.term)) → ⊥
  term_free q b got = let x = (block_passes (names_unknown m (is_value k f) (is_label k f)) k f rules.known q b got).ending in all_known (ending_operands b.term) (part_known (Ending b.term) x.0 x.1)

  phi_free : (q : ℕ) (b : Block) → slice_get f.blocks q ≡ Some b → Each (λ p. IsListed v (locals_in (map (λ i. i.value) p.incoming)) → ⊥) b.phis
  phi_free q b got =
      each_there _ b.phis (λ at p e.
      let x = at_each _ b.phis at p (block_passes (names_unknown m (is_value k f) (is_label k f)) k f rules.known q b got).phis e in
      all_known (map (λ i. i.value) p.incoming) (part_known (OfPhi p) x.0 x.2))

  -- ---- in the result what uses it has it made before

  module _ (w : Weaving) (g : Function) (woven : IsWoven w m f g) (unvalued : value_kind f v ≡ None) (no_front : IsListed v w.fronts → ⊥) where
    place_made : (made : List ℕ) (x y : Operand) → IsInPlace w f made x y → local_of y ≡ Some v → (local_of x ≡ Some v) ⊎ IsListed v made
    place_made made _ _ (Same x stays) e = inl e
    place_made made _ _ (FetchedValue u n low l kind) e = let same : n ≡ v = cc in inr (subst (λ (j : ℕ). IsListed j made) same l)

    pairs_made : (made : List ℕ) (xs ys : List Operand) → Pairwise (IsInPlace w f made) xs ys → IsListed v (locals_in ys) → IsListed v (locals_in xs) ⊎ IsListed v made
    pairs_made made _ _ Empty l = inl l
    pairs_made made _ _ (Pair x y xs ys h rest) l =
        ⊎_elim
        (λ a. ⊎_elim (λ e. inl (listed_left v (option_to_list (local_of x)) (locals_in xs) (subst (λ (o : Option ℕ). IsListed v (option_to_list o)) (sym e) (inl refl)))) (λ made_it. inr made_it) (place_made made x y h (some_local (local_of y) v a)))
        (λ b. ⊎_elim (λ r. inl (listed_right v (option_to_list (local_of x)) (locals_in xs) r)) (λ made_it. inr made_it) (pairs_made made xs ys rest b))
        (listed_either v (option_to_list (local_of y)) (locals_in ys) l)

    none_value : is_some (value_kind f v) ≡ true → ⊥
    none_value e = let both : false ≡ true = sym (ap (λ (o : Option Kind). is_some o) unvalued) ∙ e in absurd (cc)

    known_made : (block : ℕ) (made : List ℕ) (y : Operand) → IsKnown w f block made y → local_of y ≡ Some v → IsListed v made
    known_made block made _ (New n low l) e = let same : n ≡ v = cc in subst (λ (j : ℕ). IsListed j made) same l
    known_made block made _ (Front n other l) e = let same : n ≡ v = cc in absurd (no_front (subst (λ (j : ℕ). IsListed j w.fronts) same l))
    known_made block made _ (Old u stays is made_before) e = let same : u ≡ v = cc in absurd (none_value (subst (λ (j : ℕ). is_some (value_kind f j) ≡ true) same is))
    known_made block made _ (Constant x names) e = absurd (nameless x names e)
      where
        nameless : (x : Operand) → names_nothing x ≡ true → local_of x ≡ Some v → ⊥
        nameless (Operand.Local u) h e = absurd (cc)
        nameless (Operand.Global n) h e = absurd (cc)
        nameless (Operand.Number z) h e = absurd (cc)
        nameless Operand.True h e = absurd (cc)
        nameless Operand.False h e = absurd (cc)
        nameless Operand.Null h e = absurd (cc)
        nameless Operand.None h e = absurd (cc)
        nameless Operand.Poison h e = absurd (cc)

    all_known_made : (block : ℕ) (made : List ℕ) (ys : List Operand) → Each (IsKnown w f block made) ys → IsListed v (locals_in ys) → IsListed v made
    all_known_made block made [] h l = absurd l
    all_known_made block made (y ∷ ys) h l = ⊎_elim (λ a. known_made block made y h.0 (some_local (local_of y) v a)) (λ b. all_known_made block made ys h.1 b) (listed_either v (option_to_list (local_of y)) (locals_in ys) l)

    stays_made : (made : List ℕ) (i j : Instr) → Stays w f made i j → (Uses v i → ⊥) → Uses v j → IsListed v made
    stays_made made _ _ (Kept i j h mark) free l = ⊎_elim (λ a. absurd (free a)) (λ b. b) (pairs_made made (instr_operands i) (instr_operands j) (instr_pairs (IsInPlace w f made) i j h) l)
    stays_made made _ _ (Unpromised r must_tail ty a p args h) free l =
        absurd (free
        (⊎_elim (λ x. listed_left v (option_to_list (local_of a.value)) (locals_in (p.value ∷ arg_operands args)) x)
        (λ x. listed_right v (option_to_list (local_of a.value)) (locals_in (p.value ∷ arg_operands args)) (listed_right v (option_to_list (local_of p.value)) (locals_in (arg_operands args)) x))
        (listed_either v (option_to_list (local_of a.value)) (locals_in (arg_operands args)) l)))

    -- ---- no use from a place on but behind the definition

    abbrev IsUnused : Type 0 → List Instr → Type 0
    IsUnused End [] = End
    IsUnused End (j ∷ js) = (Uses v j → ⊥) × ((result_of j ≡ Some v → ⊥) → IsUnused End js)

    not_more : (made : List ℕ) (j : Instr) → (IsListed v made → ⊥) → (result_of j ≡ Some v → ⊥) → IsListed v (option_to_list (result_of j) ++ made) → ⊥
    not_more made j none other l = ⊎_elim (λ a. other (some_local (result_of j) v a)) none (listed_either v (option_to_list (result_of j)) made l)

    woven_unused : (block : ℕ) (End : Type 0) (made : List ℕ) (is js : List Instr) → AreWoven w m f block made is js → Each (λ i. Uses v i → ⊥) is → (IsListed v made → ⊥) → ((IsListed v (made_by_instrs made js) → ⊥) → End) → IsUnused End js
    woven_unused block End _ _ _ (Done made) free none end = end none
    woven_unused block End _ _ _ (Put made j is js put rest) free none end =
        (λ u. none (all_known_made block made (instr_operands j) put.operands u), λ other. woven_unused block End (option_to_list (result_of j) ++ made) is js rest free (not_more made j none other) end)
    woven_unused block End _ _ _ (Gone made i is js goes rest) free none end = woven_unused block End made is js rest free.1 none end
    woven_unused block End _ _ _ (Remain made i j is js stays rest) free none end =
        (λ u. none (stays_made made i j stays free.0 u), λ other. woven_unused block End (option_to_list (result_of j) ++ made) is js rest free.1 (not_more made j none other) end)

    -- ---- blocks

    record WovenAt (q : ℕ) (c : Block) : Type 0 where
      pub block : Block
      pub got : slice_get f.blocks q ≡ Some block
      pub woven_block : IsWovenBlock w m f g q block c

    woven_in : (at : ℕ) (bs cs : List Block) → AreWovenBlocks w m f g at bs cs → ((i : ℕ) (b : Block) → slice_get bs i ≡ Some b → slice_get f.blocks (at + i) ≡ Some b) → (i : ℕ) (c : Block) → slice_get cs i ≡ Some c → WovenAt (at + i) c
    woven_in at _ _ (NoBlock _) whole i c e = absurd (cc)
    woven_in at _ _ (OneBlock _ b d bs cs h rest) whole zero c e =
        let one : d ≡ c = cc in
        let same : at ≡ at + 0 = omega arith in
        record { block = b; got = whole 0 b refl; woven_block = subst (λ (n : ℕ). IsWovenBlock w m f g n b c) same (subst (λ (x : Block). IsWovenBlock w m f g at b x) one h) }
    woven_in at _ _ (OneBlock _ b d bs cs h rest) whole (suc i) c e =
        let same : at + 1 + i ≡ at + suc i = omega arith in
        subst (λ (n : ℕ). WovenAt n c) same (woven_in (at + 1) bs cs rest (λ j x there. let next : at + suc j ≡ at + 1 + j = omega arith in ap (slice_get f.blocks) (sym next) ∙ whole (suc j) x there) i c e)

    woven_at : (q : ℕ) (c : Block) → slice_get g.blocks q ≡ Some c → WovenAt q c
    woven_at q c e =
        let same : 0 + q ≡ q = omega arith in
        subst (λ (n : ℕ). WovenAt n c) same (woven_in 0 f.blocks g.blocks woven.blocks (λ i b there. let zero_more : 0 + i ≡ i = omega arith in ap (slice_get f.blocks) zero_more ∙ there) q c e)

    -- ---- phis

    -- a phi's operand that is the value is made in the block from which it comes
    incoming_made : (at to : ℕ) (is js : List Incoming) → Pairwise (IncomingStays (λ from. IsInPlace w f (values_at g (position_of g from)))) is js → (IsListed v (locals_in (map (λ i. i.value) is)) → ⊥) → (from : ℕ) → IsListed (edge_use from to v) (incoming_uses g at js) → IsListed v (values_at g from)
    incoming_made at to _ _ Empty free from l = absurd l
    incoming_made at to _ _ (Pair i j is js h rest) free from l =
        ⊎_elim here (λ b. incoming_made at to is js rest (λ r. free (listed_right v (option_to_list (local_of i.value)) (locals_in (map (λ x. x.value) is)) r)) from b)
        (listed_either (edge_use from to v) (uses_by (position_of g j.from) at (local_of j.value)) (incoming_uses g at js) l)
      where
        found : (o : Option ℕ) → IsListed (edge_use from to v) (uses_by (position_of g j.from) at o) → (from ≡ position_of g j.from) × (o ≡ Some v)
        found None x = absurd x
        found (Some n) (inl e) = (ap (λ (u : EdgeUse). u.from) e, ap (λ (u : EdgeUse). Some u.value) (sym e))
        found (Some n) (inr x) = absurd x

        here : IsListed (edge_use from to v) (uses_by (position_of g j.from) at (local_of j.value)) → IsListed v (values_at g from)
        here a =
            let x = found (local_of j.value) a in
            ⊎_elim
            (λ e. absurd (free (listed_left v (option_to_list (local_of i.value)) (locals_in (map (λ y. y.value) is)) (subst (λ (o : Option ℕ). IsListed v (option_to_list o)) (sym e) (inl refl)))))
            (λ r. subst (λ (n : ℕ). IsListed v (values_at g n)) (sym (x.0 ∙ ap (position_of g) h.from)) r)
            (place_made (values_at g (position_of g i.from)) i.value j.value h.value x.1)

    phis_made_before : (at to : ℕ) (ps qs : List Phi) → Pairwise (PhiStays (λ from. IsInPlace w f (values_at g (position_of g from)))) ps qs → Each (λ p. IsListed v (locals_in (map (λ i. i.value) p.incoming)) → ⊥) ps → (from : ℕ) → IsListed (edge_use from to v) (phis_uses g at qs) → IsListed v (values_at g from)
    phis_made_before at to _ _ Empty free from l = absurd l
    phis_made_before at to _ _ (Pair x y xs ys h rest) free from l =
        ⊎_elim (λ a. incoming_made at to x.incoming y.incoming h.incoming free.0 from a) (λ b. phis_made_before at to xs ys rest free.1 from b) (listed_either (edge_use from to v) (incoming_uses g at y.incoming) (phis_uses g at ys) l)

    blocks_made_before : (at : ℕ) (cs : List Block) → ((i : ℕ) (c : Block) → slice_get cs i ≡ Some c → slice_get g.blocks (at + i) ≡ Some c) → (from to : ℕ) → IsListed (edge_use from to v) (blocks_uses g at cs) → IsListed v (values_at g from)
    blocks_made_before at [] whole from to l = absurd l
    blocks_made_before at (c ∷ cs) whole from to l =
        let first : at + 0 ≡ at = omega arith in
        let x = woven_at at c (ap (slice_get g.blocks) (sym first) ∙ whole 0 c refl) in
        ⊎_elim (λ a. phis_made_before at to x.block.phis c.phis x.woven_block.phis (phi_free at x.block x.got) from a)
        (λ b. blocks_made_before (at + 1) cs (λ i y e. let next : at + suc i ≡ at + 1 + i = omega arith in ap (slice_get g.blocks) (sym next) ∙ whole (suc i) y e) from to b)
        (listed_either (edge_use from to v) (phis_uses g at c.phis) (blocks_uses g (at + 1) cs) l)

    -- a use on an edge is made in the block from which the edge comes
    edge_made : (from to : ℕ) → IsUsedOn g v from to → IsListed v (values_at g from)
    edge_made from to l = blocks_made_before 0 g.blocks (λ i c e. let zero_more : 0 + i ≡ i = omega arith in ap (slice_get g.blocks) zero_more ∙ e) from to l

    -- ---- the value isn't needed from the front of a block on

    abbrev EndOf : ℕ → Block → Type 0
    EndOf q c = (IsListed v (locals_in (ending_operands c.term)) → ⊥) × ((to : ℕ) → IsUsedOn g v q to → ⊥)

    block_unused : (q : ℕ) (c : Block) → slice_get g.blocks q ≡ Some c → (IsListed v (phi_values c) → ⊥) → IsUnused (EndOf q c) c.instrs
    block_unused q c got none =
        let x = woven_at q c got in
        woven_unused q (EndOf q c) (phi_values c) x.block.instrs c.instrs x.woven_block.instrs (block_free q x.block x.got) none
        (λ unmade. (
          λ l. ⊎_elim (term_free q x.block x.got) unmade (pairs_made (block_values c) (ending_operands x.block.term) (ending_operands c.term) (term_pairs (IsInPlace w f (block_values c)) x.block.term c.term x.woven_block.term) l),
          λ to used. unmade (subst (λ (o : Option Block). IsListed v (values_in o)) got (edge_made q to used)),
        ))

    front_unneeded : (q : ℕ) → (IsListed v (phis_at g q) → ⊥) → ((c : Block) (js : List Instr) → Spot g q 0 c js → IsUnused (EndOf q c) js → ⊥) → (slice_get g.blocks q ≡ None → ⊥) → ⊥
    front_unneeded q phis rec some = on (slice_get g.blocks q) refl
      where
        on : (o : Option Block) → slice_get g.blocks q ≡ o → ⊥
        on None e = some e
        on (Some c) e = rec c c.instrs (spot_first g q c e) (block_unused q c e (λ l. phis (subst (λ (ns : List ℕ). IsListed v ns) (sym (ap phis_in e)) l)))

    not_needed : (q at : ℕ) → IsNeeded g v q at → (c : Block) (js : List Instr) → Spot g q at c js → IsUnused (EndOf q c) js → ⊥
    not_needed _ _ (Use q at out used) c [] s h = h.0 (subst (λ (y : Fetched). IsListed v (used_by y)) (spot_term g q at c s) used)
    not_needed _ _ (Use q at out used) c (j ∷ js) s h = h.0 (subst (λ (y : Fetched). IsListed v (used_by y)) (spot_instr g q at c j js s) used)
    not_needed _ _ (Next q at y out is other more) c [] s h = let both : AtTerm c.term ≡ AtInstr y = sym (spot_term g q at c s) ∙ is in absurd (cc)
    not_needed _ _ (Next q at y out is other more) c (j ∷ js) s h =
        let both : AtInstr j ≡ AtInstr y = sym (spot_instr g q at c j js s) ∙ is in
        let one : j ≡ y = cc in
        not_needed q (at + 1) more c js (spot_next g q at c j js s) (h.1 (λ e. other (ap result_of (sym one) ∙ e)))
    not_needed _ _ (OnEdge q at label out leads used) c [] s h = h.1 (position_of g label) used
    not_needed _ _ (OnEdge q at label out leads used) c (j ∷ js) s h = subst (BranchesTo label) (spot_instr g q at c j js s) leads
    not_needed _ _ (Across q at label out leads phis more) c [] s h =
        front_unneeded (position_of g label) phis (λ d js t k. not_needed (position_of g label) 0 more d js t k) (none_needed g v (position_of g label) 0 more)
    not_needed _ _ (Across q at label out leads phis more) c (j ∷ js) s h = subst (BranchesTo label) (spot_instr g q at c j js s) leads

    -- behind an edge to a block without phis
    from_unneeded : (q label : ℕ) → phis_at g (position_of g label) ≡ [] → IsNeededFrom g v q label → ⊥
    from_unneeded q label bare (inl used) = no_edge_use g v q (position_of g label) bare used
    from_unneeded q label bare (inr h) = front_unneeded (position_of g label) h.0 (λ d js t k. not_needed (position_of g label) 0 h.1 d js t k) (none_needed g v (position_of g label) 0 h.1)

    pub new_unneeded : (s : Point) → phis_at g (position_of g (resume_label g s)) ≡ [] → phis_at g (position_of g (destroy_label g s)) ≡ [] → IsNeededBehind g v s → ⊥
    new_unneeded s one two (inl h) = from_unneeded s.block (resume_label g s) one h
    new_unneeded s one two (inr h) = from_unneeded s.block (destroy_label g s) two h
