-- The rules on the parts of a function that speak of no edges: none is broken when blocks are put on edges that leave windows.
use Rattle.std.proofs.Common.{◌≡◌, ⊎_elim, inl, inr, ℕ, Bool, true, false, ◌&&◌, ◌||◌, List, [], ◌∷◌, None, Option, Some, ap, not, refl, sym, ◌∙◌}
use Rattle.std.specs.List.{list_all}
use Rattle.std.specs.Prelude.{slice_get, ◌==◌}
use Rattle.pass_fetch_proof.specs.ir_base.declared.outcome.Place.{Place}
use Rattle.pass_fetch_proof.proofs.rule_laws.rules.local_rules.Defined.{label_defined}
use Rattle.pass_fetch_proof.proofs.ir_laws.facts.Truth.{and_both, and_first, and_second, holds}
use Rattle.pass_fetch_proof.specs.rule_laws.rules.local_rules.Local.{BreaksNoLocalRuleIn}
use Rattle.pass_fetch_proof.proofs.rule_laws.rules.rows.Carried.{AreAlikePlaced}
use Rattle.pass_fetch_proof.proofs.edges.rules.Labels.{any_at, at_all}
use Rattle.pass_fetch_proof.specs.edges.rules.Phis.{ArePhisEnteredByJumps}
use Rattle.pass_fetch_proof.proofs.rule_laws.rules.known_labels.Rules.{labels_spelt}
use Rattle.pass_fetch_proof.proofs.flow_solver.Lists.{listed_at}
use Rattle.pass_fetch_proof.specs.flow_solver.Paths.{IsListed}
use Rattle.pass_fetch_proof.specs.ir_parts.Contents.{ending_labels, ending_operands, ending_types, part_labels, part_operands, part_types}
use Rattle.pass_fetch_proof.specs.ir_parts.Parts.{Ending, Head, OfInstr, OfPhi, first_part, parts_of}
use Rattle.pass_fetch_proof.proofs.rule_laws.rules.function_rules.Depths.{plain_part, types_fit}
use Rattle.pass_fetch_proof.specs.rule_laws.rules.function_rules.Kept.{KeepsFunctionRules}
use Rattle.ir_model.specs.Names.{position_of}
use Rattle.ir_model.specs.declared.instr.Instr.{Instr}
use Rattle.ir_model.specs.declared.instr.Terminator.{Terminator}
use Rattle.ir_model.specs.declared.module.Block.{Block}
use Rattle.ir_model.specs.declared.module.Function.{Function}
use Rattle.ir_model.specs.declared.module.Module.{Module}
use Rattle.ir_model.specs.declared.operand.Operand.{Operand}
use Rattle.pass_fetch_proof.proofs.ir_paths.Search.{eq_itself}
use Rattle.pass_fetch_proof.specs.ir_paths.Paths.{targets}
use Rattle.pass_fetch_proof.specs.rule_locals.Addresses.{is_no_function, points_to_functions}
use Rattle.pass_fetch_proof.specs.rule_locals.Calls.{calls_closed}
use Rattle.pass_fetch_proof.specs.rule_locals.Entries.{allocates_late}
use Rattle.pass_fetch_proof.specs.rule_locals.Extents.{breaks_extents}
use Rattle.pass_fetch_proof.specs.rule_locals.Instrs.{on_instr}
use Rattle.pass_fetch_proof.specs.rule_locals.Intrinsics.{calls_inner}
use Rattle.pass_fetch_proof.specs.rule_locals.Markers.{first_other_mark, marks_otherwise, slot_size}
use Rattle.pass_fetch_proof.specs.rule_locals.Transfers.{breaks_transfers}
use Rattle.pass_fetch_proof.specs.rule_names.Known.{first_unknown, is_label, is_value, knows_operand, knows_type, names_unknown}
use Rattle.pass_fetch_proof.specs.rule_names.declared.stage.Stage.{Stage}
use Rattle.pass_fetch_proof.specs.rule_types.Limits.{all_fit, breaks_limits, first_past}
use Rattle.pass_fetch_proof.specs.rule_types.Signatures.{calls_otherwise, first_otherwise}
use Rattle.pass_fetch_proof.specs.rule_values.Kinds.{value_kind}
use Rattle.pass_fetch_proof.specs.rule_values.Values.{breaks_values, first_wrong_value}
use Rattle.pass_fetch_proof.specs.rule_values.declared.kinds.Kind.{Kind}
use Rattle.pass_split.specs.pass_exits.ExitBlocks.{exit_term, with_exit_blocks}
use Rattle.pass_fetch_proof.proofs.rule_laws.rules.threaded.Carried.{Carries, carried, on_instrs}
use Rattle.pass_fetch_proof.proofs.rule_laws.rules.threaded.Labels.{HasBlock, block_there, ending_known}
use Rattle.pass_exits_proof.proofs.exits.rules.Noted.{kinds_same, sizes_same, values_same}
use Rattle.pass_exits_proof.proofs.exits.rules.Operands.{ending_fits, ending_types_same}
use Rattle.pass_exits_proof.proofs.exits.rules.Places.{own_number, own_there, spot}
use Rattle.pass_exits_proof.proofs.exits.rules.Threaded.{moves, threaded}
use Rattle.pass_fetch_proof.proofs.ir_laws.paths.threaded.Threads.{IsOver, Moves, between, ended}
use Rattle.pass_fetch_proof.proofs.rule_laws.rules.threaded.Threads.{IsThreaded}

module _ (m : Module) (func : ℕ) (f : Function) (rules : KeepsFunctionRules m func f) (jumps : ArePhisEnteredByJumps f) where
  abbrev g : Function
  g = with_exit_blocks f

  abbrev s : Moves
  s = moves f

  t : IsThreaded f (with_exit_blocks f) (moves f)
  t = threaded m func f rules jumps

  -- ---- types of values (Y1)

  values_carried : (kinds : ℕ → Option Kind) → Carries f g s (breaks_values m kinds f.result) (breaks_values m kinds f.result)
  values_carried kinds = record {
    signature = λ p e. e;
    head = λ q c. refl;
    phi = λ p q k b j x there stands e. e;
    instr = λ p q i alike e. e;
    ending = λ p q k b there e. ap not (ending_fits f k kinds f.result (own_number f k) b.term) ∙ e;
    over = λ q k b u there l. refl;
  }

  values_kept : first_wrong_value m func f ≡ None → first_wrong_value m func (with_exit_blocks f) ≡ None
  values_kept e =
      ap (λ (kinds : ℕ → Option Kind). first_part (breaks_values m kinds f.result) (parts_of func (with_exit_blocks f))) (kinds_same f)
      ∙ carried f g s t (breaks_values m (value_kind f) f.result) (breaks_values m (value_kind f) f.result) (values_carried (value_kind f)) func e

  -- ---- instructions (Y3, Y4, Y5, F3, K1, K13)

  transfers_same : (p q : Place) (i : Instr) → breaks_transfers Stage.Source f p i ≡ false → breaks_transfers Stage.Source g q i ≡ false
  transfers_same p q (Instr.Call r must_tail ty callee args) e = e
  transfers_same p q _ e = refl

  late_same : (p q : Place) (i : Instr) → AreAlikePlaced p q → allocates_late p i ≡ false → allocates_late q i ≡ false
  late_same p q (Instr.Alloca r ty align) alike e = alike ∙ e
  late_same p q _ alike e = refl

  instrs_kept : (breaks now : Place → Instr → Bool) → ((p q : Place) (i : Instr) → AreAlikePlaced p q → breaks p i ≡ false → now q i ≡ false) → first_part (on_instr breaks) (parts_of func f) ≡ None → first_part (on_instr now) (parts_of func (with_exit_blocks f)) ≡ None
  instrs_kept breaks now h = carried f g s t (on_instr breaks) (on_instr now) (on_instrs f g s breaks now h) func

  marks_kept : first_other_mark m func f ≡ None → first_other_mark m func (with_exit_blocks f) ≡ None
  marks_kept e =
      ap (λ (sizes : ℕ → Option ℕ). first_part (on_instr (marks_otherwise sizes)) (parts_of func (with_exit_blocks f))) (sizes_same f m)
      ∙ instrs_kept (marks_otherwise (slot_size m f)) (marks_otherwise (slot_size m f)) (λ p q i alike d. d) e

  -- ---- addresses of functions (P1)

  pointers_carried : Carries f g s (points_to_functions m) (points_to_functions m)
  pointers_carried = record {
    signature = λ p e. refl;
    head = λ q c. refl;
    phi = λ p q k b j x there stands e. e;
    instr = λ p q i alike e. e;
    ending = λ p q k b there e. ap (λ (xs : List Operand). not (list_all (is_no_function m) xs) || false) (t.operands k b) ∙ e;
    over = λ q k b u there l. refl;
  }

  -- ---- calls (Y2)

  calls_carried : Carries f g s (calls_otherwise m) (calls_otherwise m)
  calls_carried = record {
    signature = λ p e. refl;
    head = λ q c. refl;
    phi = λ p q k b j x there stands e. refl;
    instr = λ p q i alike e. e;
    ending = λ p q k b there e. refl;
    over = λ q k b u there l. refl;
  }

  pub calls_kept : first_otherwise m func f ≡ None → first_otherwise m func (with_exit_blocks f) ≡ None
  calls_kept = carried f g s t (calls_otherwise m) (calls_otherwise m) calls_carried func

  -- ---- depths of types (L1)

  depths_carried : Carries f g s (breaks_limits Stage.Plain m None) (breaks_limits Stage.Plain m None)
  depths_carried = record {
    signature = λ p e. e;
    head = λ q c. plain_part m q (Head c) refl;
    phi = λ p q k b j x there stands e. plain_part m q (OfPhi x) (types_fit Stage.Plain m None p (OfPhi x) e);
    instr = λ p q i alike e. plain_part m q (OfInstr i) (types_fit Stage.Plain m None p (OfInstr i) e);
    ending = λ p q k b there e. plain_part m q (Ending (exit_term f k (own_number f k) b.term)) (ap (all_fit m) (ending_types_same f k (own_number f k) b.term) ∙ types_fit Stage.Plain m None p (Ending b.term) e);
    over = λ q k b u there l. plain_part m q (Ending (Terminator.Jump u)) refl;
  }

  pub depths_kept : first_past Stage.Plain m func f ≡ None → first_past Stage.Plain m func (with_exit_blocks f) ≡ None
  depths_kept = carried f g s t (breaks_limits Stage.Plain m None) (breaks_limits Stage.Plain m None) depths_carried func

  -- ---- all of them

  pub local_kept : BreaksNoLocalRuleIn m func f → BreaksNoLocalRuleIn m func (with_exit_blocks f)
  local_kept h = record {
    values = values_kept h.values;
    closed_calls = instrs_kept (calls_closed m) (calls_closed m) (λ p q i alike e. e) h.closed_calls;
    extents = instrs_kept (breaks_extents Stage.Source m) (breaks_extents Stage.Source m) (λ p q i alike e. e) h.extents;
    transfers = instrs_kept (breaks_transfers Stage.Source f) (breaks_transfers Stage.Source g) (λ p q i alike e. transfers_same p q i e) h.transfers;
    allocas = instrs_kept allocates_late allocates_late late_same h.allocas;
    function_pointers = carried f g s t (points_to_functions m) (points_to_functions m) pointers_carried func h.function_pointers;
    misplaced = instrs_kept (calls_inner f.coroutine) (calls_inner f.coroutine) (λ p q i alike e. e) h.misplaced;
    marks = marks_kept h.marks;
  }

  -- ---- known names (N2)

  label_at : (at : ℕ) (c : Block) (label : ℕ) → slice_get (with_exit_blocks f).blocks at ≡ Some c → c.label ≡ label → is_label func (with_exit_blocks f) label ≡ true
  label_at at c label there e =
      label_defined label func (with_exit_blocks f)
      ∙ any_at (λ (x : Block). x.label == label) (with_exit_blocks f).blocks at c there (ap (λ (n : ℕ). n == label) e ∙ eq_itself label)

  label_stays : (label : ℕ) → is_label func f label ≡ true → is_label func (with_exit_blocks f) label ≡ true
  label_stays label h =
      let x : HasBlock f label = block_there m func f rules.definitions rules.known label h in
      label_at (spot f (position_of f label)) (ended x.block (exit_term f (position_of f label) (own_number f (position_of f label)) x.block.term)) label (own_there f (position_of f label) x.block x.there) x.is_label

  all_stay : (labels : List ℕ) → list_all (is_label func f) labels ≡ true → list_all (is_label func (with_exit_blocks f)) labels ≡ true
  all_stay [] h = refl
  all_stay (l ∷ labels) h =
      and_both (is_label func (with_exit_blocks f) l) (list_all (is_label func (with_exit_blocks f)) labels)
      (label_stays l (and_first (is_label func f l) (list_all (is_label func f) labels) h))
      (all_stay labels (and_second (is_label func f l) (list_all (is_label func f) labels) h))

  one_known : (k : ℕ) (b : Block) (u : ℕ) → slice_get f.blocks k ≡ Some b → IsListed u (targets b.term) → is_label func (with_exit_blocks f) u ≡ true
  one_known k b u there l = in_all (targets b.term) l (all_stay (targets b.term) (ap (list_all (is_label func f)) (sym (labels_spelt b.term)) ∙ ending_known m func f rules.definitions rules.known k b there))
    where
      in_all : (labels : List ℕ) → IsListed u labels → list_all (is_label func (with_exit_blocks f)) labels ≡ true → is_label func (with_exit_blocks f) u ≡ true
      in_all [] h e = absurd h
      in_all (x ∷ labels) (inl same) e = ap (is_label func (with_exit_blocks f)) same ∙ and_first (is_label func (with_exit_blocks f) x) (list_all (is_label func (with_exit_blocks f)) labels) e
      in_all (x ∷ labels) (inr h) e = in_all labels h (and_second (is_label func (with_exit_blocks f) x) (list_all (is_label func (with_exit_blocks f)) labels) e)

  targets_known : (k : ℕ) (b : Block) → slice_get f.blocks k ≡ Some b → list_all (is_label func (with_exit_blocks f)) (ending_labels (exit_term f k (own_number f k) b.term)) ≡ true
  targets_known k b there =
      ap (list_all (is_label func (with_exit_blocks f))) (labels_spelt (exit_term f k (own_number f k) b.term))
      ∙ at_all (is_label func (with_exit_blocks f)) (targets (exit_term f k (own_number f k) b.term))
      (λ at l e. let x = t.back k b l there (listed_at (targets (exit_term f k (own_number f k) b.term)) at l e) in ⊎_elim
      (λ (same : l ≡ x.target). ap (is_label func (with_exit_blocks f)) same ∙ one_known k b x.target there x.listed)
      (λ (o : IsOver f (with_exit_blocks f) (moves f) k x.target l). label_at (position_of (with_exit_blocks f) l) (between l x.target) l o.got refl)
      x.way)

  all_known : (a b c d : Bool) → a ≡ true → b ≡ true → c ≡ true → d ≡ true → not (a && (b && (c && d))) ≡ false
  all_known a b c d h i j k = ap not (and_both a (b && (c && d)) h (and_both b (c && d) i (and_both c d j k)))

  types_of : (a b c d : Bool) → not (a && (b && (c && d))) ≡ false → a ≡ true
  types_of a b c d e = and_first a (b && (c && d)) (holds (a && (b && (c && d))) e)

  operands_of : (a b c d : Bool) → not (a && (b && (c && d))) ≡ false → b ≡ true
  operands_of a b c d e = and_first b (c && d) (and_second a (b && (c && d)) (holds (a && (b && (c && d))) e))

  labels_of : (a b c d : Bool) → not (a && (b && (c && d))) ≡ false → c ≡ true
  labels_of a b c d e = and_first c d (and_second b (c && d) (and_second a (b && (c && d)) (holds (a && (b && (c && d))) e)))

  abbrev values : ℕ → Bool
  values = is_value func f

  abbrev labels : ℕ → Bool
  labels = is_label func f

  abbrev now : ℕ → Bool
  now = is_label func (with_exit_blocks f)

  known_carried : Carries f g s (names_unknown m (is_value func f) (is_label func f)) (names_unknown m (is_value func f) (is_label func (with_exit_blocks f)))
  known_carried = record {
    signature = λ p e. e;
    head = λ q c. refl;
    phi = λ p q k b j x there stands e.
        let types = list_all (knows_type m) (part_types (OfPhi x)) in
        let operands = list_all (knows_operand m values) (part_operands (OfPhi x)) in
        let named = list_all labels (part_labels (OfPhi x)) in
        all_known types operands (list_all now (part_labels (OfPhi x))) true
        (types_of types operands named true e) (operands_of types operands named true e) (all_stay (part_labels (OfPhi x)) (labels_of types operands named true e)) refl;
    instr = λ p q i alike e. e;
    ending = λ p q k b there e.
        let types = list_all (knows_type m) (ending_types b.term) in
        let operands = list_all (knows_operand m values) (ending_operands b.term) in
        let named = list_all labels (ending_labels b.term) in
        all_known (list_all (knows_type m) (ending_types (exit_term f k (own_number f k) b.term))) (list_all (knows_operand m values) (ending_operands (exit_term f k (own_number f k) b.term))) (list_all now (ending_labels (exit_term f k (own_number f k) b.term))) true
        (ap (list_all (knows_type m)) (ending_types_same f k (own_number f k) b.term) ∙ types_of types operands named true e)
        (ap (list_all (knows_operand m values)) (t.operands k b) ∙ operands_of types operands named true e)
        (targets_known k b there)
        refl;
    over = λ q k b u there l. all_known true true (now u && true) true refl refl (and_both (now u) true (one_known k b u there l) refl) refl;
  }

  pub known_kept : first_unknown m func (with_exit_blocks f) ≡ None
  known_kept =
      ap (λ (vs : ℕ → Bool). first_part (names_unknown m vs (is_label func (with_exit_blocks f))) (parts_of func (with_exit_blocks f))) (values_same f func)
      ∙ carried f g s t (names_unknown m (is_value func f) (is_label func f)) (names_unknown m (is_value func f) (is_label func (with_exit_blocks f))) known_carried func rules.known
