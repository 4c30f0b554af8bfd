-- The rules on the parts of a function that speak of no edges: none is broken where edges have blocks.
use Rattle.std.proofs.Common.{Bool, List, None, Option, Some, [], ap, false, length, map, not, refl, sym, true, ℕ, ◌&&◌, ◌<◌, ◌||◌, ◌∙◌, ◌∷◌, ◌≡◌}
use Rattle.std.specs.List.{list_all}
use Rattle.std.specs.Prelude.{filter_map, slice_get}
use Rattle.pass_early_proof.specs.ir_base.declared.outcome.Place.{Place}
use Rattle.pass_early_proof.proofs.rule_laws.rules.renamed.Switches.{none_part}
use Rattle.pass_early_proof.proofs.ir_laws.facts.Truth.{and_both, and_first, and_second, holds}
use Rattle.pass_early_proof.specs.rule_laws.rules.local_rules.Local.{BreaksNoLocalRuleIn}
use Rattle.pass_early_proof.proofs.rule_laws.rules.path_rules.Holding.{of_parts}
use Rattle.pass_edges_proof.proofs.edges.paths.Blocks.{own_number}
use Rattle.pass_early_proof.specs.ir_laws.paths.threads.Labels.{HasLabelsBelow, HasNamedLabels}
use Rattle.pass_edges_proof.specs.edges.paths.Spots.{table_of}
use Rattle.pass_early_proof.proofs.rule_laws.rules.rows.Carried.{AreAlikePlaced}
use Rattle.pass_edges_proof.proofs.edges.rules.Carried.{Carries, carried, on_instrs}
use Rattle.pass_edges_proof.proofs.edges.rules.Homes.{own_block}
use Rattle.pass_edges_proof.proofs.edges.rules.Labels.{edge_target_known, incoming_known, targets_known}
use Rattle.pass_edges_proof.proofs.edges.rules.Noted.{kinds_same, sizes_same, values_same}
use Rattle.pass_edges_proof.proofs.edges.rules.Operands.{all_taken, ending_fits, ending_operands_same, ending_types_same}
use Rattle.pass_early_proof.proofs.ir_laws.facts.Lists.{by_value}
use Rattle.pass_edges.specs.EdgeBlocks.{incoming_on, split_phi, with_edge_blocks}
use Rattle.pass_edges.specs.Edges.{edges_at, ends_in_suspend, phi_flags}
use Rattle.pass_edges.specs.declared.edge.Edge.{Edge}
use Rattle.pass_early_proof.specs.ir_parts.Contents.{ending_labels, ending_operands, ending_types, part_labels, part_operands, part_types}
use Rattle.pass_early_proof.specs.ir_parts.Parts.{Ending, Head, OfInstr, OfPhi, first_part, parts_of}
use Rattle.pass_early_proof.proofs.rule_laws.rules.function_rules.Depths.{plain_part, types_fit}
use Rattle.ir_model.specs.Ty.{Ty}
use Rattle.ir_model.specs.declared.instr.Incoming.{Incoming}
use Rattle.ir_model.specs.declared.instr.Instr.{Instr}
use Rattle.ir_model.specs.declared.instr.Terminator.{Terminator}
use Rattle.ir_model.specs.declared.module.Block.{Block}
use Rattle.ir_model.specs.declared.module.Function.{Function}
use Rattle.ir_model.specs.declared.module.Module.{Module}
use Rattle.ir_model.specs.declared.operand.Operand.{Operand}
use Rattle.pass_early_proof.specs.rule_locals.Addresses.{is_no_function, points_to_functions}
use Rattle.pass_early_proof.specs.rule_locals.Calls.{calls_closed, first_closed_call}
use Rattle.pass_early_proof.specs.rule_locals.Entries.{allocates_late, first_late_alloca}
use Rattle.pass_early_proof.specs.rule_locals.Extents.{breaks_extents, first_past_extent}
use Rattle.pass_early_proof.specs.rule_locals.Instrs.{on_instr}
use Rattle.pass_early_proof.specs.rule_locals.Intrinsics.{calls_inner, first_misplaced}
use Rattle.pass_early_proof.specs.rule_locals.Markers.{first_other_mark, marks_otherwise, slot_size}
use Rattle.pass_early_proof.specs.rule_locals.Transfers.{breaks_transfers, first_wrong_transfer}
use Rattle.pass_early_proof.specs.rule_names.Known.{first_unknown, is_label, is_value, knows_called, knows_operand, knows_type, names_unknown}
use Rattle.pass_early_proof.specs.rule_names.declared.stage.Stage.{Stage}
use Rattle.pass_early_proof.proofs.ir_laws.facts.Members.{at_each as each_at}
use Rattle.pass_early_proof.specs.rule_types.Limits.{all_fit, breaks_limits, first_past}
use Rattle.pass_early_proof.specs.rule_types.Signatures.{calls_otherwise, first_otherwise}
use Rattle.pass_early_proof.specs.rule_values.Fits.{fits, is_scalar}
use Rattle.pass_early_proof.specs.rule_values.Kinds.{value_kind}
use Rattle.pass_early_proof.specs.rule_values.Values.{breaks_values, first_wrong_value, fits_phi, takes}
use Rattle.pass_early_proof.specs.rule_values.declared.kinds.Kind.{Kind}

module _ (m : Module) (func : ℕ) (f : Function) where
  abbrev g : Function
  g = with_edge_blocks f

  -- ---- types of values (Y1)

  module _ (kinds : ℕ → Option Kind) where
    phi_fits : (t : Ty) (is : List Incoming) (es : List Edge) → fits_phi kinds t is ≡ true → fits_phi kinds t (filter_map (incoming_on is) es) ≡ true
    phi_fits t is es h =
        and_both (is_scalar t) (list_all (takes kinds t) (filter_map (incoming_on is) es)) (and_first (is_scalar t) (list_all (takes kinds t) is) h)
        (by_value (fits kinds t) (filter_map (incoming_on is) es)
        ∙ all_taken (fits kinds t) is es (sym (by_value (fits kinds t) is) ∙ and_second (is_scalar t) (list_all (takes kinds t) is) h))

    values_carried : Carries f (breaks_values m kinds f.result) (breaks_values m kinds f.result)
    values_carried = record {
      signature = λ p e. e;
      head = λ q c. refl;
      phi = λ p q k b x there e. ap not (phi_fits x.ty x.incoming (edges_at (table_of f) b.label) (holds (fits_phi kinds x.ty x.incoming) e));
      instr = λ p q i alike e. e;
      ending = λ p q k b there e. ap not (ending_fits (phi_flags f) (ends_in_suspend b.instrs) kinds f.result (own_number f k) b.term) ∙ e;
      edge = λ q k b i e there got. refl;
    }

  values_kept : first_wrong_value m func f ≡ None → first_wrong_value m func g ≡ None
  values_kept e =
      ap (λ (kinds : ℕ → Option Kind). first_part (breaks_values m kinds f.result) (parts_of func g)) (kinds_same f)
      ∙ carried f (breaks_values m (value_kind f) f.result) (breaks_values m (value_kind f) f.result) (values_carried (value_kind f)) func e

  -- ---- instructions (Y3, Y4, Y5, F3, K1, K13)

  transfers_same : (p q : Place) (i : Instr) → breaks_transfers Stage.Source f p i ≡ false → breaks_transfers Stage.Source g q i ≡ false
  transfers_same p q (Instr.Call r must_tail ty callee args) e = e
  transfers_same p q _ e = refl

  late_same : (p q : Place) (i : Instr) → AreAlikePlaced p q → allocates_late p i ≡ false → allocates_late q i ≡ false
  late_same p q (Instr.Alloca r ty align) alike e = alike ∙ e
  late_same p q _ alike e = refl

  closed_kept : first_closed_call m func f ≡ None → first_closed_call m func g ≡ None
  closed_kept = carried f (on_instr (calls_closed m)) (on_instr (calls_closed m)) (on_instrs f (calls_closed m) (calls_closed m) (λ p q i alike e. e)) func

  extents_kept : first_past_extent Stage.Source m func f ≡ None → first_past_extent Stage.Source m func g ≡ None
  extents_kept = carried f (on_instr (breaks_extents Stage.Source m)) (on_instr (breaks_extents Stage.Source m)) (on_instrs f (breaks_extents Stage.Source m) (breaks_extents Stage.Source m) (λ p q i alike e. e)) func

  transfers_kept : first_wrong_transfer Stage.Source func f ≡ None → first_wrong_transfer Stage.Source func g ≡ None
  transfers_kept = carried f (on_instr (breaks_transfers Stage.Source f)) (on_instr (breaks_transfers Stage.Source g)) (on_instrs f (breaks_transfers Stage.Source f) (breaks_transfers Stage.Source g) (λ p q i alike e. transfers_same p q i e)) func

  allocas_kept : first_late_alloca func f ≡ None → first_late_alloca func g ≡ None
  allocas_kept = carried f (on_instr allocates_late) (on_instr allocates_late) (on_instrs f allocates_late allocates_late late_same) func

  misplaced_kept : first_misplaced Stage.Source func f ≡ None → first_misplaced Stage.Source func g ≡ None
  misplaced_kept = carried f (on_instr (calls_inner f.coroutine)) (on_instr (calls_inner f.coroutine)) (on_instrs f (calls_inner f.coroutine) (calls_inner f.coroutine) (λ p q i alike e. e)) func

  marks_kept : first_other_mark m func f ≡ None → first_other_mark m func g ≡ None
  marks_kept e =
      ap (λ (sizes : ℕ → Option ℕ). first_part (on_instr (marks_otherwise sizes)) (parts_of func g)) (sizes_same f m)
      ∙ carried f (on_instr (marks_otherwise (slot_size m f))) (on_instr (marks_otherwise (slot_size m f))) (on_instrs f (marks_otherwise (slot_size m f)) (marks_otherwise (slot_size m f)) (λ p q i alike d. d)) func e

  -- ---- addresses of functions (P1)

  pointers_carried : Carries f (points_to_functions m) (points_to_functions m)
  pointers_carried = record {
    signature = λ p e. refl;
    head = λ q c. refl;
    phi = λ p q k b x there e. no_pointer (all_taken (is_no_function m) x.incoming (edges_at (table_of f) b.label) (pointer_free (list_all (is_no_function m) (map (λ i. i.value) x.incoming)) false e));
    instr = λ p q i alike e. e;
    ending = λ p q k b there e. ap (λ (xs : List Operand). not (list_all (is_no_function m) xs) || false) (ending_operands_same (phi_flags f) (ends_in_suspend b.instrs) (own_number f k) b.term) ∙ e;
    edge = λ q k b i e there got. refl;
  }
    where
      pointer_free : (a c : Bool) → (not a || c) ≡ false → a ≡ true
      pointer_free true c e = refl
      pointer_free false c e = absurd (cc)

      no_pointer : {a : Bool} → a ≡ true → (not a || false) ≡ false
      no_pointer e = ap (λ (x : Bool). not x || false) e

  -- ---- calls (Y2)

  calls_carried : Carries f (calls_otherwise m) (calls_otherwise m)
  calls_carried = record {
    signature = λ p e. refl;
    head = λ q c. refl;
    phi = λ p q k b x there e. refl;
    instr = λ p q i alike e. e;
    ending = λ p q k b there e. refl;
    edge = λ q k b i e there got. refl;
  }

  pub calls_kept : first_otherwise m func f ≡ None → first_otherwise m func (with_edge_blocks f) ≡ None
  calls_kept = carried f (calls_otherwise m) (calls_otherwise m) calls_carried func

  -- ---- depths of types (L1)

  depths_carried : Carries f (breaks_limits Stage.Plain m None) (breaks_limits Stage.Plain m None)
  depths_carried = record {
    signature = λ p e. e;
    head = λ q c. plain_part m q (Head c) refl;
    phi = λ p q k b x there e. plain_part m q (OfPhi (split_phi (edges_at (table_of f) b.label) x)) (types_fit Stage.Plain m None p (OfPhi x) e);
    instr = λ p q i alike e. plain_part m q (OfInstr i) (types_fit Stage.Plain m None p (OfInstr i) e);
    ending = λ p q k b there e. plain_part m q (Ending (own_block f k b).term) (ap (all_fit m) (ending_types_same (phi_flags f) (ends_in_suspend b.instrs) (own_number f k) b.term) ∙ types_fit Stage.Plain m None p (Ending b.term) e);
    edge = λ q k b i e there got. plain_part m q (Ending (Terminator.Jump e.target)) refl;
  }

  pub depths_kept : first_past Stage.Plain m func f ≡ None → first_past Stage.Plain m func (with_edge_blocks f) ≡ None
  depths_kept = carried f (breaks_limits Stage.Plain m None) (breaks_limits Stage.Plain m None) depths_carried func

  -- ---- all of them

  pub local_kept : BreaksNoLocalRuleIn m func f → BreaksNoLocalRuleIn m func (with_edge_blocks f)
  local_kept h = record {
    values = values_kept h.values;
    closed_calls = closed_kept h.closed_calls;
    extents = extents_kept h.extents;
    transfers = transfers_kept h.transfers;
    allocas = allocas_kept h.allocas;
    function_pointers = carried f (points_to_functions m) (points_to_functions m) pointers_carried func h.function_pointers;
    misplaced = misplaced_kept h.misplaced;
    marks = marks_kept h.marks;
  }

  -- ---- known names (N2)

  module _ (named : HasNamedLabels f) (known : first_unknown m func f ≡ None) where
    abbrev values : ℕ → Bool
    values = is_value func f

    abbrev labels : ℕ → Bool
    labels = is_label func f

    abbrev now : ℕ → Bool
    now = is_label func g

    below : (k : ℕ) (b : Block) → slice_get f.blocks k ≡ Some b → b.label < length f.names
    below k b there = (each_at (HasLabelsBelow (length f.names)) f.blocks k b named there).label

    -- the labels of each terminator are known
    ending_known : (k : ℕ) (b : Block) → slice_get f.blocks k ≡ Some b → list_all (is_label func f) (ending_labels b.term) ≡ true
    ending_known k b there =
        let parts = of_parts (λ x. names_unknown m (is_value func f) (is_label func f) x.0 x.1 ≡ false) func f (none_part (names_unknown m (is_value func f) (is_label func f)) (parts_of func f) known) in
        let all = holds (list_all (knows_type m) (part_types (Ending b.term)) && (list_all (knows_operand m (is_value func f)) (part_operands (Ending b.term)) && (list_all (is_label func f) (part_labels (Ending b.term)) && knows_called m (Ending b.term)))) (parts.blocks k b there).ending in
        let later = and_second (list_all (knows_type m) (part_types (Ending b.term))) (list_all (knows_operand m (is_value func f)) (part_operands (Ending b.term)) && (list_all (is_label func f) (part_labels (Ending b.term)) && knows_called m (Ending b.term))) all in
        and_first (list_all (is_label func f) (ending_labels b.term)) (knows_called m (Ending b.term))
        (and_second (list_all (knows_operand m (is_value func f)) (part_operands (Ending b.term))) (list_all (is_label func f) (part_labels (Ending b.term)) && knows_called m (Ending b.term)) later)

    all_known : (a b c d : Bool) → a ≡ true → b ≡ true → c ≡ true → d ≡ true → not (a && (b && (c && d))) ≡ false
    all_known a b c d h i j k = ap not (and_both a (b && (c && d)) h (and_both b (c && d) i (and_both c d j k)))

    types_of : (a b c d : Bool) → not (a && (b && (c && d))) ≡ false → a ≡ true
    types_of a b c d e = and_first a (b && (c && d)) (holds (a && (b && (c && d))) e)

    operands_of : (a b c d : Bool) → not (a && (b && (c && d))) ≡ false → b ≡ true
    operands_of a b c d e = and_first b (c && d) (and_second a (b && (c && d)) (holds (a && (b && (c && d))) e))

    known_carried : Carries f (names_unknown m (is_value func f) (is_label func f)) (names_unknown m (is_value func f) (is_label func (with_edge_blocks f)))
    known_carried = record {
      signature = λ p e. e;
      head = λ q c. refl;
      phi = λ p q k b x there e.
          all_known (list_all (knows_type m) (x.ty ∷ [])) (list_all (knows_operand m values) (map (λ i. i.value) (filter_map (incoming_on x.incoming) (edges_at (table_of f) b.label)))) (list_all now (map (λ i. i.from) (filter_map (incoming_on x.incoming) (edges_at (table_of f) b.label)))) true
          (types_of (list_all (knows_type m) (x.ty ∷ [])) (list_all (knows_operand m values) (map (λ i. i.value) x.incoming)) (list_all labels (map (λ i. i.from) x.incoming)) true e)
          (all_taken (knows_operand m values) x.incoming (edges_at (table_of f) b.label) (operands_of (list_all (knows_type m) (x.ty ∷ [])) (list_all (knows_operand m values) (map (λ i. i.value) x.incoming)) (list_all labels (map (λ i. i.from) x.incoming)) true e))
          (incoming_known func f b.label (below k b there) x.incoming)
          refl;
      instr = λ p q i alike e. e;
      ending = λ p q k b there e.
          all_known (list_all (knows_type m) (ending_types (own_block f k b).term)) (list_all (knows_operand m values) (ending_operands (own_block f k b).term)) (list_all now (ending_labels (own_block f k b).term)) true
          (ap (list_all (knows_type m)) (ending_types_same (phi_flags f) (ends_in_suspend b.instrs) (own_number f k) b.term) ∙ types_of (list_all (knows_type m) (ending_types b.term)) (list_all (knows_operand m values) (ending_operands b.term)) (list_all labels (ending_labels b.term)) true e)
          (ap (list_all (knows_operand m values)) (ending_operands_same (phi_flags f) (ends_in_suspend b.instrs) (own_number f k) b.term) ∙ operands_of (list_all (knows_type m) (ending_types b.term)) (list_all (knows_operand m values) (ending_operands b.term)) (list_all labels (ending_labels b.term)) true e)
          (targets_known func f k b there (ending_known k b there))
          refl;
      edge = λ q k b i e there got. all_known true true (now e.target && true) true refl refl (and_both (now e.target) true (edge_target_known func f k b i e there got (ending_known k b there)) refl) refl;
    }

    pub known_kept : first_unknown m func (with_edge_blocks f) ≡ None
    known_kept =
        ap (λ (vs : ℕ → Bool). first_part (names_unknown m vs (is_label func (with_edge_blocks f))) (parts_of func (with_edge_blocks f))) (values_same f func)
        ∙ carried f (names_unknown m (is_value func f) (is_label func f)) (names_unknown m (is_value func f) (is_label func (with_edge_blocks f))) known_carried func known
