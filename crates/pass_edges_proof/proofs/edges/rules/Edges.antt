-- Which blocks lead to a label where edges have blocks, and the rule on edges (F1).
use Rattle.std.proofs.Common.{Bool, List, None, Option, Some, [], ap, arith, false, filter, if◌then◌else◌, inl, inr, length, map, not, option_map, refl, subst, suc, sym, true, unwrap_or, zero, ℕ, ⊎_elim, ◌&&◌, ◌+◌, ◌<◌, ◌==◌, ◌||◌, ◌∙◌, ◌∷◌, ◌≡◌, ◌≤◌, ◌⊎◌}
use Rattle.std.proofs.lemmas.Option.{slice_get-map}
use Rattle.std.specs.List.{cons_option, list_all, list_any}
use Rattle.std.specs.Prelude.{filter_map, slice_get}
use Rattle.pass_early_proof.specs.ir_base.declared.outcome.Place.{Place}
use Rattle.pass_early_proof.proofs.rule_laws.rules.renamed.Switches.{none_part}
use Rattle.pass_early_proof.proofs.ir_laws.facts.Truth.{and_both, and_first, and_second, holds}
use Rattle.pass_early_proof.proofs.rule_laws.rules.path_rules.Holding.{HoldsIn, of_parts, part_none, to_parts}
use Rattle.pass_edges_proof.proofs.edges.paths.Blocks.{spot}
use Rattle.pass_edges_proof.proofs.edges.paths.Edges.{edges_of_block}
use Rattle.pass_edges_proof.proofs.edges.paths.Tables.{flag_at, one_edge}
use Rattle.pass_early_proof.specs.ir_laws.paths.threads.Labels.{HasLabelsBelow, HasNamedLabels}
use Rattle.pass_edges_proof.specs.edges.paths.Labels.{IsAmong}
use Rattle.pass_edges_proof.specs.edges.paths.Phis.{AreLabelsOnce}
use Rattle.pass_edges_proof.specs.edges.paths.Spots.{table_of}
use Rattle.pass_edges_proof.proofs.edges.rules.Homes.{IsEdge, IsOwn, edge_behind, edge_from, edge_target, edge_there, entry_same, home, label_behind, own_block, own_there, target_home}
use Rattle.pass_edges_proof.proofs.edges.rules.Labels.{LeadsTo, among_all, any_at, edge_to_label, label_to_edge, labels_all}
use Rattle.pass_early_proof.proofs.ir_laws.facts.Lists.{at_any}
use Rattle.pass_edges.specs.EdgeBlocks.{edge_block, incoming_on, incoming_with, operand_from, split_phi, with_edge_blocks}
use Rattle.pass_edges.specs.Edges.{edges_at, edges_of, has_phis, phi_flags}
use Rattle.pass_edges.specs.declared.edge.Edge.{Edge}
use Rattle.pass_early_proof.specs.rule_phis.Edges.{breaks_edges, differs, first_wrong_edge, fits_edges, has, incoming_labels, into_block, is_empty, leads, predecessors}
use Rattle.pass_early_proof.specs.rule_phis.Operands.{same_operand}
use Rattle.pass_early_proof.proofs.rule_laws.rules.known_labels.Rules.{labels_spelt}
use Rattle.pass_early_proof.proofs.ir_laws.facts.known_labels.Rules.{none_at}
use Rattle.pass_early_proof.specs.flow_solver.Paths.{IsListed}
use Rattle.pass_early_proof.specs.ir_parts.Parts.{Part, parts_of}
use Rattle.ir_model.specs.declared.instr.Incoming.{Incoming}
use Rattle.ir_model.specs.declared.instr.Phi.{Phi}
use Rattle.ir_model.specs.declared.module.Block.{Block}
use Rattle.ir_model.specs.declared.module.Function.{Function}
use Rattle.ir_model.specs.declared.operand.Operand.{Operand}
use Rattle.pass_early_proof.proofs.ir_paths.Search.{eq_from, eq_itself, or_left, or_right}
use Rattle.pass_early_proof.specs.ir_paths.Paths.{targets}
use Rattle.pass_early_proof.proofs.ir_laws.facts.Members.{at_each as each_at}
use Rattle.pass_early_proof.specs.run_laws.changed.Changed.{Each}
use Rattle.pass_early_proof.proofs.rule_laws.rules.edges.Entered.{has_listed as listed_has}

-- ---- lists

filtered_all : {A : Type 0} (t : A → Bool) (u : ℕ → Bool) (name : A → ℕ) (xs : List A) → ((k : ℕ) (x : A) → slice_get xs k ≡ Some x → t x ≡ true → u (name x) ≡ true) → list_all u (map name (filter t xs)) ≡ true
filtered_all t u name [] h = refl
filtered_all t u name (x ∷ xs) h = on (t x) refl (filtered_all t u name xs (λ k y e. h (suc k) y e))
  where
    on : (b : Bool) → t x ≡ b → list_all u (map name (filter t xs)) ≡ true → list_all u (map name (if b then x ∷ filter t xs else filter t xs)) ≡ true
    on true e again = and_both (u (name x)) (list_all u (map name (filter t xs))) (h 0 x refl e) again
    on false e again = again

all_filtered : {A : Type 0} (t : A → Bool) (u : ℕ → Bool) (name : A → ℕ) (xs : List A) → list_all u (map name (filter t xs)) ≡ true → (k : ℕ) (x : A) → slice_get xs k ≡ Some x → t x ≡ true → u (name x) ≡ true
all_filtered t u name [] h k x e p = absurd (cc)
all_filtered t u name (y ∷ xs) h k x e p = on (t y) refl h k e (λ l j g. all_filtered t u name xs l j x g p)
  where
    on : (b : Bool) → t y ≡ b → list_all u (map name (if b then y ∷ filter t xs else filter t xs)) ≡ true → (k : ℕ) → slice_get (y ∷ xs) k ≡ Some x → (list_all u (map name (filter t xs)) ≡ true → (j : ℕ) → slice_get xs j ≡ Some x → u (name x) ≡ true) → u (name x) ≡ true
    on true d l zero g again = let same : y ≡ x = cc in ap (λ z. u (name z)) (sym same) ∙ and_first (u (name y)) (list_all u (map name (filter t xs))) l
    on true d l (suc j) g again = again (and_second (u (name y)) (list_all u (map name (filter t xs))) l) j g
    on false d l zero g again = let same : y ≡ x = cc in let no : true ≡ false = sym p ∙ ap t (sym same) ∙ d in absurd (cc)
    on false d l (suc j) g again = again l j g

filtered_has : {A : Type 0} (t : A → Bool) (name : A → ℕ) (xs : List A) (k : ℕ) (x : A) → slice_get xs k ≡ Some x → t x ≡ true → has (map name (filter t xs)) (name x) ≡ true
filtered_has t name [] k x e p = absurd (cc)
filtered_has t name (y ∷ xs) k x e p = on (t y) refl k e (λ j g. filtered_has t name xs j x g p)
  where
    on : (b : Bool) → t y ≡ b → (k : ℕ) → slice_get (y ∷ xs) k ≡ Some x → ((j : ℕ) → slice_get xs j ≡ Some x → has (map name (filter t xs)) (name x) ≡ true) → has (map name (if b then y ∷ filter t xs else filter t xs)) (name x) ≡ true
    on true d zero g again = let same : y ≡ x = cc in or_left (name y == name x) (has (map name (filter t xs)) (name x)) (ap (λ z. name z == name x) same ∙ eq_itself (name x))
    on true d (suc j) g again = or_right (name y == name x) (has (map name (filter t xs)) (name x)) (again j g)
    on false d zero g again = let same : y ≡ x = cc in let no : true ≡ false = sym p ∙ ap t (sym same) ∙ d in absurd (cc)
    on false d (suc j) g again = again j g

none_filtered : {A : Type 0} (t : A → Bool) (name : A → ℕ) (xs : List A) → ((k : ℕ) (x : A) → slice_get xs k ≡ Some x → t x ≡ true → ⊥) → is_empty (map name (filter t xs)) ≡ true
none_filtered t name [] h = refl
none_filtered t name (x ∷ xs) h = on (t x) refl (none_filtered t name xs (λ k y e. h (suc k) y e))
  where
    on : (b : Bool) → t x ≡ b → is_empty (map name (filter t xs)) ≡ true → is_empty (map name (if b then x ∷ filter t xs else filter t xs)) ≡ true
    on true e again = absurd (h 0 x refl e)
    on false e again = again

filtered_none : {A : Type 0} (t : A → Bool) (name : A → ℕ) (xs : List A) → is_empty (map name (filter t xs)) ≡ true → (k : ℕ) (x : A) → slice_get xs k ≡ Some x → t x ≡ true → ⊥
filtered_none t name [] h k x e p = absurd (cc)
filtered_none t name (y ∷ xs) h k x e p = on (t y) refl h k e (λ l j g. filtered_none t name xs l j x g p)
  where
    on : (b : Bool) → t y ≡ b → is_empty (map name (if b then y ∷ filter t xs else filter t xs)) ≡ true → (k : ℕ) → slice_get (y ∷ xs) k ≡ Some x → (is_empty (map name (filter t xs)) ≡ true → (j : ℕ) → slice_get xs j ≡ Some x → ⊥) → ⊥
    on true d l k g again = absurd (cc)
    on false d l zero g again = let same : y ≡ x = cc in let no : true ≡ false = sym p ∙ ap t (sym same) ∙ d in absurd (cc)
    on false d l (suc j) g again = again l j g

-- ---- which blocks lead to a label

module _ (f : Function) where
  -- a block from which an edge comes leads to the edge's target
  pub source_leads : (label k : ℕ) (b : Block) (i : ℕ) (e : Edge) → slice_get (edges_of_block f k b) i ≡ Some e → e.target ≡ label → leads label b ≡ true
  source_leads label k b i e got same =
      ap (λ (ls : List ℕ). has ls label) (labels_spelt b.term)
      ∙ listed_has (targets b.term) label (subst (λ (n : ℕ). IsListed n (targets b.term)) same (edge_target f k b i e got))

  -- a block that leads to the label as it did, whose edges to it have no blocks
  pub record LeadsItself (label at : ℕ) (c : Block) : Type 0 where
    pub own : IsOwn f at c
    pub leads_there : leads label own.block ≡ true
    pub unflagged : unwrap_or (slice_get (phi_flags f) label) false ≡ false

  -- the block of an edge to the label
  pub record LeadsAsEdge (label at : ℕ) (c : Block) : Type 0 where
    pub own : IsEdge f at c
    pub target : own.edge.target ≡ label

  pub led_home : (label : ℕ) → label < length f.names → (at : ℕ) (c : Block) → slice_get (with_edge_blocks f).blocks at ≡ Some c → leads label c ≡ true → LeadsItself label at c ⊎ LeadsAsEdge label at c
  led_home label lt at c there h = ⊎_elim
      (λ (x : IsOwn f at c). inl (itself x (subst (λ (y : Block). leads label y ≡ true) x.is h)))
      (λ (x : IsEdge f at c). inr (record { own = x; target = eq_from x.edge.target label (only (x.edge.target == label) (subst (λ (y : Block). leads label y ≡ true) x.is h)) }))
      (home f at c there)
    where
      only : (b : Bool) → (b || false) ≡ true → b ≡ true
      only true e = refl
      only false e = absurd (cc)

      itself : (x : IsOwn f at c) → leads label (own_block f x.index x.block) ≡ true → LeadsItself label at c
      itself x k =
          let found = at_any (λ (n : ℕ). n == label) (targets (own_block f x.index x.block).term) (ap (λ (ls : List ℕ). has ls label) (sym (labels_spelt (own_block f x.index x.block).term)) ∙ k) in
          let same : found.element ≡ label = eq_from found.element label found.passes in
          let t = target_home f x.index x.block found.index found.element found.got in
          ⊎_elim
          (λ (y : (found.element ≡ t.target) × (unwrap_or (slice_get (phi_flags f) t.target) false ≡ false)).
          let is : t.target ≡ label = sym y.0 ∙ same in
          record {
            own = x;
            leads_there = ap (λ (ls : List ℕ). has ls label) (labels_spelt x.block.term) ∙ any_at (λ (n : ℕ). n == label) (targets x.block.term) found.index t.target t.got (ap (λ (n : ℕ). n == label) is ∙ eq_itself label);
            unflagged = subst (λ (n : ℕ). unwrap_or (slice_get (phi_flags f) n) false ≡ false) is y.1;
          })
          (λ (a : IsAmong (edges_of_block f x.index x.block) (record { from = x.block.label; target = t.target; label = found.element })).
          let low : length f.names ≤ found.element = label_behind f x.index x.block a.at (record { from = x.block.label; target = t.target; label = found.element }) a.got in
          absurd (omega (arith, low, same, lt)))
          t.split

  -- no block leads then to where none led
  pub none_leads : (label : ℕ) → label < length f.names → is_empty (predecessors f label) ≡ true → is_empty (predecessors (with_edge_blocks f) label) ≡ true
  none_leads label lt none =
      none_filtered (leads label) (λ (b : Block). b.label) (with_edge_blocks f).blocks
      (λ at c there h. ⊎_elim
      (λ (x : LeadsItself label at c). filtered_none (leads label) (λ (b : Block). b.label) f.blocks none x.own.index x.own.block x.own.got x.leads_there)
      (λ (x : LeadsAsEdge label at c). filtered_none (leads label) (λ (b : Block). b.label) f.blocks none x.own.index x.own.block x.own.got (source_leads label x.own.index x.own.block x.own.position x.own.edge x.own.there x.target))
      (led_home label lt at c there h))

-- ---- the operands of a phi

operand_there : (is : List Incoming) (label : ℕ) → has (incoming_labels is) label ≡ true → (x : Operand) × (operand_from is label ≡ Some x)
operand_there [] label h = absurd (cc)
operand_there (i ∷ is) label h = on (i.from == label) h (operand_there is label)
  where
    on : (b : Bool) → (b || has (incoming_labels is) label) ≡ true → (has (incoming_labels is) label ≡ true → (x : Operand) × (operand_from is label ≡ Some x)) → (x : Operand) × ((if b then Some i.value else operand_from is label) ≡ Some x)
    on true k again = (i.value, refl)
    on false k again = again k

-- the first operand for a label is written as itself, where operands for one label are written the same
pub record IsFirst (is : List Incoming) (label : ℕ) (x : Operand) : Type 0 where
  pub index : ℕ
  pub incoming : Incoming
  pub got : slice_get is index ≡ Some incoming
  pub from : incoming.from ≡ label
  pub value : incoming.value ≡ x
  pub tested : differs is incoming ≡ not (same_operand x x)

pub first_operand : (is : List Incoming) (label : ℕ) (x : Operand) → operand_from is label ≡ Some x → IsFirst is label x
first_operand [] label x e = absurd (cc)
first_operand (i ∷ is) label x e = on (i.from == label) refl e (first_operand is label x)
  where
    on : (b : Bool) → (i.from == label) ≡ b → (if b then Some i.value else operand_from is label) ≡ Some x → (operand_from is label ≡ Some x → IsFirst is label x) → IsFirst (i ∷ is) label x
    on true s d again =
        let same : i.value ≡ x = cc in
        record {
          index = 0;
          incoming = i;
          got = refl;
          from = eq_from i.from label s;
          value = same;
          tested = ap (λ (b : Bool). if b then not (same_operand i.value i.value) else differs is i) (eq_itself i.from) ∙ ap (λ (y : Operand). not (same_operand y y)) same;
        }
    on false s d again =
        let y = again d in
        record {
          index = suc y.index;
          incoming = y.incoming;
          got = y.got;
          from = y.from;
          value = y.value;
          tested = ap (λ (b : Bool). if b then not (same_operand i.value y.incoming.value) else differs is y.incoming) (ap (λ (n : ℕ). i.from == n) y.from ∙ s) ∙ y.tested;
        }

taken_itself : (is : List Incoming) (label : ℕ) (x : Operand) → list_any (differs is) is ≡ false → operand_from is label ≡ Some x → not (same_operand x x) ≡ false
taken_itself is label x none_differ e = let y = first_operand is label x e in sym y.tested ∙ none_at (differs is) is y.index y.incoming none_differ y.got

taken_has : (is : List Incoming) (es : List Edge) (i : ℕ) (e : Edge) (x : Operand) → slice_get es i ≡ Some e → operand_from is e.from ≡ Some x → has (incoming_labels (filter_map (incoming_on is) es)) e.label ≡ true
taken_has is [] i e x s h = absurd (cc)
taken_has is (d ∷ es) zero e x s h = on (cc)
  where
    on : d ≡ e → has (incoming_labels (filter_map (incoming_on is) (d ∷ es))) e.label ≡ true
    on same =
        ap (λ (o : Option Operand). has (incoming_labels (cons_option (incoming_with d.label o) (filter_map (incoming_on is) es))) e.label) (ap (λ (y : Edge). operand_from is y.from) same ∙ h)
        ∙ or_left (d.label == e.label) (has (incoming_labels (filter_map (incoming_on is) es)) e.label) (ap (λ (y : Edge). y.label == e.label) same ∙ eq_itself e.label)
taken_has is (d ∷ es) (suc i) e x s h = on (operand_from is d.from) (taken_has is es i e x s h)
  where
    on : (o : Option Operand) → has (incoming_labels (filter_map (incoming_on is) es)) e.label ≡ true → has (incoming_labels (cons_option (incoming_with d.label o) (filter_map (incoming_on is) es))) e.label ≡ true
    on None again = again
    on (Some y) again = or_right (d.label == e.label) (has (incoming_labels (filter_map (incoming_on is) es)) e.label) again

module _ (f : Function) (is : List Incoming) (agree : list_any (differs is) is ≡ false) where
  -- the operand is the one that is taken on an edge of the function
  record IsOn (i : Incoming) : Type 0 where
    edge : Edge
    among : IsAmong (edges_of (phi_flags f) f) edge
    label : i.from ≡ edge.label
    taken : operand_from is edge.from ≡ Some i.value

  each_on : (es : List Edge) → ((i : ℕ) (e : Edge) → slice_get es i ≡ Some e → IsAmong (edges_of (phi_flags f) f) e) → Each IsOn (filter_map (incoming_on is) es)
  each_on [] h = tt
  each_on (e ∷ es) h = on (operand_from is e.from) refl (each_on es (λ i d s. h (suc i) d s))
    where
      on : (o : Option Operand) → operand_from is e.from ≡ o → Each IsOn (filter_map (incoming_on is) es) → Each IsOn (cons_option (incoming_with e.label o) (filter_map (incoming_on is) es))
      on None d again = again
      on (Some x) d again = (record { edge = e; among = h 0 e refl; label = refl; taken = d }, again)

  same_value : (i j : Incoming) → IsOn i → IsOn j → i.from ≡ j.from → i.value ≡ j.value
  same_value i j x y same =
      let edges : x.edge ≡ y.edge = one_edge f x.edge y.edge x.among y.among (sym x.label ∙ same ∙ y.label) in
      let both : Some i.value ≡ Some j.value = sym x.taken ∙ ap (λ (e : Edge). operand_from is e.from) edges ∙ y.taken in
      cc

  differs_not : (js : List Incoming) → Each IsOn js → (j : Incoming) → IsOn j → differs js j ≡ false
  differs_not [] h j y = refl
  differs_not (i ∷ js) h j y = on (i.from == j.from) refl (differs_not js h.1 j y)
    where
      on : (b : Bool) → (i.from == j.from) ≡ b → differs js j ≡ false → (if b then not (same_operand i.value j.value) else differs js j) ≡ false
      on true s again = ap (λ (x : Operand). not (same_operand i.value x)) (sym (same_value i j h.0 y (eq_from i.from j.from s))) ∙ taken_itself is h.0.edge.from i.value agree h.0.taken
      on false s again = again

  none_differ : (all js : List Incoming) → Each IsOn all → Each IsOn js → list_any (differs all) js ≡ false
  none_differ all [] h k = refl
  none_differ all (j ∷ js) h k = ap (λ (b : Bool). b || list_any (differs all) js) (differs_not all h j k.0) ∙ none_differ all js h k.1

-- ---- the rule

pub phis_there : (ps : List Phi) (j : ℕ) (p : Phi) → slice_get ps j ≡ Some p → has_phis ps ≡ true
phis_there [] j p e = absurd (cc)
phis_there (q ∷ ps) j p e = refl

module _ (f : Function) (named : HasNamedLabels f) (once : AreLabelsOnce f) where
  pub label_below : (k : ℕ) (b : Block) → slice_get f.blocks k ≡ Some b → b.label < length f.names
  label_below k b there = (each_at (HasLabelsBelow (length f.names)) f.blocks k b named there).label

  -- a block that has phis is led to by blocks of edges alone
  pub led_by_edge : (k : ℕ) (b : Block) → slice_get f.blocks k ≡ Some b → has_phis b.phis ≡ true → (at : ℕ) (c : Block) → slice_get (with_edge_blocks f).blocks at ≡ Some c → leads b.label c ≡ true → LeadsAsEdge f b.label at c
  led_by_edge k b there some at c got h = ⊎_elim
      (λ (x : LeadsItself f b.label at c). let no : true ≡ false = sym (flag_at f once named k b there ∙ some) ∙ x.unflagged in absurd (cc))
      (λ (x : LeadsAsEdge f b.label at c). x)
      (led_home f b.label (label_below k b there) at c got h)

  phi_fits : (k : ℕ) (b : Block) (j : ℕ) (p : Phi) → slice_get f.blocks k ≡ Some b → slice_get b.phis j ≡ Some p → fits_edges (predecessors f b.label) p.incoming ≡ true → fits_edges (predecessors (with_edge_blocks f) b.label) (filter_map (incoming_on p.incoming) (edges_at (table_of f) b.label)) ≡ true
  phi_fits k b j p there stands h =
      and_both (list_all (has (incoming_labels now)) (predecessors g b.label)) (list_all (has (predecessors g b.label)) (incoming_labels now) && not (list_any (differs now) now)) sources
      (and_both (list_all (has (predecessors g b.label)) (incoming_labels now)) (not (list_any (differs now) now)) labels (ap not (none_differ f p.incoming agree now now on_edges on_edges)))
    where
      g : Function
      g = with_edge_blocks f

      es : List Edge
      es = edges_at (table_of f) b.label

      now : List Incoming
      now = filter_map (incoming_on p.incoming) (edges_at (table_of f) b.label)

      below : b.label < length f.names
      below = label_below k b there

      of_edge : (at : ℕ) (c : Block) → LeadsAsEdge f b.label at c → has (incoming_labels (filter_map (incoming_on p.incoming) (edges_at (table_of f) b.label))) c.label ≡ true
      of_edge at c x =
          let among = label_to_edge f b.label x.own.index x.own.block x.own.position x.own.edge below x.own.got x.own.there x.target in
          let leads_there = source_leads f b.label x.own.index x.own.block x.own.position x.own.edge x.own.there x.target in
          let had = all_filtered (leads b.label) (has (incoming_labels p.incoming)) (λ (y : Block). y.label) f.blocks (and_first (list_all (has (incoming_labels p.incoming)) (predecessors f b.label)) _ h) x.own.index x.own.block x.own.got leads_there in
          let taken = operand_there p.incoming x.own.block.label had in
          let from = (edge_from f x.own.index x.own.block x.own.position x.own.edge x.own.there).0 in
          subst (λ (y : Block). has (incoming_labels (filter_map (incoming_on p.incoming) (edges_at (table_of f) b.label))) y.label ≡ true) (sym x.own.is)
          (taken_has p.incoming (edges_at (table_of f) b.label) among.at x.own.edge taken.0 among.got (ap (operand_from p.incoming) from ∙ taken.1))

      sources : list_all (has (incoming_labels (filter_map (incoming_on p.incoming) (edges_at (table_of f) b.label)))) (predecessors (with_edge_blocks f) b.label) ≡ true
      sources =
          filtered_all (leads b.label) (has (incoming_labels (filter_map (incoming_on p.incoming) (edges_at (table_of f) b.label)))) (λ (y : Block). y.label) (with_edge_blocks f).blocks
          (λ at c got led. of_edge at c (led_by_edge k b there (phis_there b.phis j p stands) at c got led))

      edge_leads : (e : Edge) → LeadsTo f b.label e → has (predecessors (with_edge_blocks f) b.label) e.label ≡ true
      edge_leads e x =
          filtered_has (leads b.label) (λ (y : Block). y.label) (with_edge_blocks f).blocks (spot f x.home.index + suc x.home.position) (edge_block e)
          (edge_there f x.home.index x.home.block x.home.position e x.home.got x.home.there)
          (or_left (e.target == b.label) false (ap (λ (n : ℕ). n == b.label) x.target ∙ eq_itself b.label))

      labels : list_all (has (predecessors (with_edge_blocks f) b.label)) (incoming_labels (filter_map (incoming_on p.incoming) (edges_at (table_of f) b.label))) ≡ true
      labels =
          labels_all (has (predecessors (with_edge_blocks f) b.label)) p.incoming (edges_at (table_of f) b.label)
          (λ i e s. edge_leads e (edge_to_label f b.label e below (record { at = i; got = s })))

      agree : list_any (differs p.incoming) p.incoming ≡ false
      agree = fails (list_any (differs p.incoming) p.incoming) (and_second (list_all (has (predecessors f b.label)) (incoming_labels p.incoming)) _ (and_second (list_all (has (incoming_labels p.incoming)) (predecessors f b.label)) _ h))
        where
          fails : (t : Bool) → not t ≡ true → t ≡ false
          fails true e = absurd (cc)
          fails false e = refl

      on_edges : Each (IsOn f p.incoming agree) (filter_map (incoming_on p.incoming) (edges_at (table_of f) b.label))
      on_edges =
          each_on f p.incoming agree (edges_at (table_of f) b.label)
          (λ i e s. let x = edge_to_label f b.label e below (record { at = i; got = s }) in among_all f x.home.index x.home.block x.home.position e x.home.got x.home.there)

  module _ (func : ℕ) where
    abbrev Fits : Function → Place × Part → Type 0
    Fits h x = breaks_edges h x.0 x.1 ≡ false

    head_fits : (k : ℕ) (b : Block) → slice_get f.blocks k ≡ Some b → ((k == 0) && not (is_empty (predecessors f b.label))) ≡ false → ((spot f k == 0) && not (is_empty (predecessors (with_edge_blocks f) b.label))) ≡ false
    head_fits k b there h = ap (λ (t : Bool). t && not (is_empty (predecessors (with_edge_blocks f) b.label))) (entry_same f k) ∙ on (k == 0) h
      where
        on : (t : Bool) → (t && not (is_empty (predecessors f b.label))) ≡ false → (t && not (is_empty (predecessors (with_edge_blocks f) b.label))) ≡ false
        on true e = ap not (none_leads f b.label (label_below k b there) (holds (is_empty (predecessors f b.label)) e))
        on false e = refl

    own_phi_fits : (k : ℕ) (b : Block) → slice_get f.blocks k ≡ Some b → HoldsIn (Fits f) func k b → (j : ℕ) (x : Phi) → slice_get (map (split_phi (edges_at (table_of f) b.label)) b.phis) j ≡ Some x → fits_edges (predecessors (with_edge_blocks f) b.label) x.incoming ≡ true
    own_phi_fits k b there h j x e = on (slice_get b.phis j) refl (sym (slice_get-map (split_phi (edges_at (table_of f) b.label)) b.phis j) ∙ e)
      where
        fit : (p : Phi) → slice_get b.phis j ≡ Some p → fits_edges (predecessors f b.label) p.incoming ≡ true
        fit p d = subst (λ (o : Option Block). fits_edges (into_block (predecessors f) o) p.incoming ≡ true) there (holds (fits_edges (into_block (predecessors f) (slice_get f.blocks k)) p.incoming) (h.phis j p d))

        on : (o : Option Phi) → slice_get b.phis j ≡ o → option_map (split_phi (edges_at (table_of f) b.label)) o ≡ Some x → fits_edges (predecessors (with_edge_blocks f) b.label) x.incoming ≡ true
        on None d s = absurd (cc)
        on (Some p) d s =
            let same : split_phi (edges_at (table_of f) b.label) p ≡ x = cc in
            subst (λ (y : Phi). fits_edges (predecessors (with_edge_blocks f) b.label) y.incoming ≡ true) same (phi_fits k b j p there d (fit p d))

    own_fits : (k : ℕ) (b : Block) → slice_get f.blocks k ≡ Some b → HoldsIn (Fits f) func k b → HoldsIn (Fits (with_edge_blocks f)) func (spot f k) (own_block f k b)
    own_fits k b there h = record {
      head = head_fits k b there h.head;
      phis = λ j x e. ap not (ap (λ (o : Option Block). fits_edges (into_block (predecessors (with_edge_blocks f)) o) x.incoming) (own_there f k b there) ∙ own_phi_fits k b there h j x e);
      instrs = λ j i e. refl;
      ending = refl;
    }

    edge_fits : (at k : ℕ) (b : Block) (i : ℕ) (e : Edge) → at ≡ spot f k + suc i → HoldsIn (Fits (with_edge_blocks f)) func at (edge_block e)
    edge_fits at k b i e same = record {
      head = ap (λ (t : Bool). t && not (is_empty (predecessors (with_edge_blocks f) e.label))) (ap (λ (n : ℕ). n == 0) same ∙ edge_behind f k i);
      phis = λ j x d. absurd (cc);
      instrs = λ j x d. absurd (cc);
      ending = refl;
    }

    pub edges_kept : first_wrong_edge func f ≡ None → first_wrong_edge func (with_edge_blocks f) ≡ None
    edges_kept e =
        let parts = of_parts (Fits f) func f (none_part (breaks_edges f) (parts_of func f) e) in
        part_none (breaks_edges (with_edge_blocks f)) (parts_of func (with_edge_blocks f)) (to_parts (Fits (with_edge_blocks f)) func (with_edge_blocks f) (record {
          signature = refl;
          blocks = λ at c there. ⊎_elim
              (λ (x : IsOwn f at c). subst (λ (k : ℕ). HoldsIn (Fits (with_edge_blocks f)) func k c) (sym x.stands) (subst (HoldsIn (Fits (with_edge_blocks f)) func (spot f x.index)) (sym x.is) (own_fits x.index x.block x.got (parts.blocks x.index x.block x.got))))
              (λ (x : IsEdge f at c). subst (HoldsIn (Fits (with_edge_blocks f)) func at) (sym x.is) (edge_fits at x.index x.block x.position x.edge x.stands))
              (home f at c there);
        }))
