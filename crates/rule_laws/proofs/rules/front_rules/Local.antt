-- The rules that speak of no paths: none is broken when allocas are moved to the front of the entry block.
use Rattle.std.proofs.Common.{◌≡◌, ℕ, Bool, true, false, List, [], ◌∷◌, None, Option, Some, ap, not, refl, sym, ◌∙◌}
use Rattle.std.specs.List.{list_any}
use Rattle.std.specs.Prelude.{slice_get, filter, map, zero, suc, ◌==◌, ◌&&◌, if◌then◌else◌}
use Rattle.ir_laws.specs.ir_base.declared.outcome.Place.{Place}
use Rattle.rule_phis.specs.Edges.{block_at, breaks_edges, first_wrong_edge, fits_edges, into_block, is_empty, is_entry, leads, predecessors}
use Rattle.rule_laws.proofs.rules.local_rules.Defined.{label_defined}
use Rattle.rule_laws.specs.rules.local_rules.Local.{BreaksNoLocalRuleIn}
use Rattle.rule_laws.specs.rules.function_rules.Kept.{KeepsFunctionRules}
use Rattle.rule_laws.proofs.rules.function_rules.Depths.{plain_part, types_fit}
use Rattle.ir_laws.specs.pass_front.Front.{allocas_first, with_allocas_first, with_front_allocas}
use Rattle.ir_parts.specs.Parts.{Ending, Head, OfInstr, first_part, parts_of}
use Rattle.ir_laws.specs.ir_model.declared.instr.Instr.{Instr}
use Rattle.ir_laws.specs.ir_model.declared.module.Block.{Block}
use Rattle.ir_laws.specs.ir_model.declared.module.Function.{Function}
use Rattle.ir_laws.specs.ir_model.declared.module.Module.{Module}
use Rattle.rule_locals.specs.Addresses.{points_to_functions}
use Rattle.rule_locals.specs.Calls.{calls_closed}
use Rattle.rule_locals.specs.Entries.{allocates_late, is_past_entry}
use Rattle.rule_locals.specs.Extents.{breaks_extents}
use Rattle.rule_locals.specs.Instrs.{on_instr}
use Rattle.rule_locals.specs.Intrinsics.{calls_inner}
use Rattle.rule_locals.specs.Markers.{first_other_mark, marks_otherwise, slot_size}
use Rattle.rule_locals.specs.Transfers.{breaks_transfers}
use Rattle.rule_names.specs.Known.{first_unknown, is_label, is_value, names_unknown}
use Rattle.rule_names.specs.declared.stage.Stage.{Stage}
use Rattle.rule_types.specs.Limits.{breaks_limits, first_past}
use Rattle.rule_types.specs.Signatures.{calls_otherwise, first_otherwise}
use Rattle.rule_values.specs.Kinds.{value_kind}
use Rattle.rule_values.specs.Values.{breaks_values, first_wrong_value}
use Rattle.rule_values.specs.declared.kinds.Kind.{Kind}
use Rattle.rule_laws.proofs.rules.front_rules.Carried.{Carries, carried, on_instrs}
use Rattle.ir_laws.proofs.facts.Numbers.{First, IsSource, Same}
use Rattle.rule_laws.proofs.rules.front_rules.Noted.{kinds_same, sizes_same, values_same}

module _ (m : Module) (func : ℕ) (f : Function) (rules : KeepsFunctionRules m func f) where
  abbrev g : Function
  g = with_front_allocas f

  -- ---- types of values (Y1)

  values_carried : (kinds : ℕ → Option Kind) → Carries f (breaks_values m kinds f.result) (breaks_values m kinds f.result)
  values_carried kinds = record {
    signature = λ p e. e;
    head = λ p b c s e. refl;
    phi = λ p x e. e;
    instr = λ p q i same e. e;
    ending = λ p q t same e. e;
  }

  values_kept : first_wrong_value m func f ≡ None → first_wrong_value m func (with_front_allocas f) ≡ None
  values_kept e =
      ap (λ (kinds : ℕ → Option Kind). first_part (breaks_values m kinds f.result) (parts_of func (with_front_allocas f))) (kinds_same func f rules.definitions)
      ∙ carried f (breaks_values m (value_kind f) f.result) (breaks_values m (value_kind f) f.result) (values_carried (value_kind f)) func e

  -- ---- instructions (Y3, Y4, Y5, F3, K1, K13)

  transfers_same : (p q : Place) (i : Instr) → breaks_transfers Stage.Source f p i ≡ false → breaks_transfers Stage.Source g q i ≡ false
  transfers_same p q (Instr.Call r must_tail ty callee args) e = e
  transfers_same p q _ e = refl

  late_same : (p q : Place) (i : Instr) → q.block ≡ p.block → allocates_late p i ≡ false → allocates_late q i ≡ false
  late_same p q (Instr.Alloca r ty align) same e = ap is_past_entry same ∙ e
  late_same p q _ same e = refl

  instrs_kept : (breaks now : Place → Instr → Bool) → ((p q : Place) (i : Instr) → q.block ≡ p.block → breaks p i ≡ false → now q i ≡ false) → first_part (on_instr breaks) (parts_of func f) ≡ None → first_part (on_instr now) (parts_of func (with_front_allocas f)) ≡ None
  instrs_kept breaks now h = carried f (on_instr breaks) (on_instr now) (on_instrs f breaks now h) func

  marks_kept : first_other_mark m func f ≡ None → first_other_mark m func (with_front_allocas f) ≡ None
  marks_kept e =
      ap (λ (sizes : ℕ → Option ℕ). first_part (on_instr (marks_otherwise sizes)) (parts_of func (with_front_allocas f))) (sizes_same func f rules.definitions m)
      ∙ instrs_kept (marks_otherwise (slot_size m f)) (marks_otherwise (slot_size m f)) (λ p q i same d. d) e

  -- ---- addresses of functions (P1), calls (Y2), depths of types (L1)

  pointers_carried : Carries f (points_to_functions m) (points_to_functions m)
  pointers_carried = record { signature = λ p e. refl; head = λ p b c s e. refl; phi = λ p x e. e; instr = λ p q i same e. e; ending = λ p q t same e. e }

  calls_carried : Carries f (calls_otherwise m) (calls_otherwise m)
  calls_carried = record { signature = λ p e. refl; head = λ p b c s e. refl; phi = λ p x e. refl; instr = λ p q i same e. e; ending = λ p q t same e. refl }

  pub calls_kept : first_otherwise m func f ≡ None → first_otherwise m func (with_front_allocas f) ≡ None
  calls_kept = carried f (calls_otherwise m) (calls_otherwise m) calls_carried func

  depths_carried : Carries f (breaks_limits Stage.Plain m None) (breaks_limits Stage.Plain m None)
  depths_carried = record {
    signature = λ p e. e;
    head = λ p b c s e. plain_part m p (Head c) refl;
    phi = λ p x e. e;
    instr = λ p q i same e. plain_part m q (OfInstr i) (types_fit Stage.Plain m None p (OfInstr i) e);
    ending = λ p q t same e. plain_part m q (Ending t) (types_fit Stage.Plain m None p (Ending t) e);
  }

  pub depths_kept : first_past Stage.Plain m func f ≡ None → first_past Stage.Plain m func (with_front_allocas f) ≡ None
  depths_kept = carried f (breaks_limits Stage.Plain m None) (breaks_limits Stage.Plain m None) depths_carried func

  pub local_kept : BreaksNoLocalRuleIn m func f → BreaksNoLocalRuleIn m func (with_front_allocas f)
  local_kept h = record {
    values = values_kept h.values;
    closed_calls = instrs_kept (calls_closed m) (calls_closed m) (λ p q i same e. e) h.closed_calls;
    extents = instrs_kept (breaks_extents Stage.Source m) (breaks_extents Stage.Source m) (λ p q i same e. e) h.extents;
    transfers = instrs_kept (breaks_transfers Stage.Source f) (breaks_transfers Stage.Source g) (λ p q i same e. transfers_same p q i e) h.transfers;
    allocas = instrs_kept allocates_late allocates_late late_same h.allocas;
    function_pointers = carried f (points_to_functions m) (points_to_functions m) pointers_carried func h.function_pointers;
    misplaced = instrs_kept (calls_inner f.coroutine) (calls_inner f.coroutine) (λ p q i same e. e) h.misplaced;
    marks = marks_kept h.marks;
  }

  -- ---- known names (N2)

  labels_in : (v : ℕ) (bs : List Block) → list_any (λ (b : Block). b.label == v) (with_allocas_first bs) ≡ list_any (λ (b : Block). b.label == v) bs
  labels_in v [] = refl
  labels_in v (b ∷ bs) = refl

  labels_same : is_label func (with_front_allocas f) ≡ is_label func f
  labels_same = λ k v. (label_defined v func (with_front_allocas f) ∙ labels_in v f.blocks ∙ sym (label_defined v func f)) k

  known_carried : (values labels : ℕ → Bool) → Carries f (names_unknown m values labels) (names_unknown m values labels)
  known_carried values labels = record { signature = λ p e. e; head = λ p b c s e. refl; phi = λ p x e. e; instr = λ p q i same e. e; ending = λ p q t same e. e }

  pub known_kept : first_unknown m func (with_front_allocas f) ≡ None
  known_kept =
      (λ k. first_part (names_unknown m (values_same func f rules.definitions func k) (labels_same k)) (parts_of func (with_front_allocas f)))
      ∙ carried f (names_unknown m (is_value func f) (is_label func f)) (names_unknown m (is_value func f) (is_label func f)) (known_carried (is_value func f) (is_label func f)) func rules.known

-- ---- edges (F1)

sources_in : (label : ℕ) (bs : List Block) → map (λ (b : Block). b.label) (filter (leads label) (with_allocas_first bs)) ≡ map (λ (b : Block). b.label) (filter (leads label) bs)
sources_in label [] = refl
sources_in label (b ∷ bs) = on (leads label b)
  where
    on : (t : Bool) → map (λ (b : Block). b.label) (if t then allocas_first b ∷ filter (leads label) bs else filter (leads label) bs) ≡ map (λ (b : Block). b.label) (if t then b ∷ filter (leads label) bs else filter (leads label) bs)
    on true = refl
    on false = refl

into_same : (sources : ℕ → List ℕ) (bs : List Block) (k : ℕ) → into_block sources (slice_get (with_allocas_first bs) k) ≡ into_block sources (slice_get bs k)
into_same sources [] k = refl
into_same sources (b ∷ bs) zero = refl
into_same sources (b ∷ bs) (suc k) = refl

module _ (func : ℕ) (f : Function) where
  pub sources_same : (label : ℕ) → predecessors (with_front_allocas f) label ≡ predecessors f label
  sources_same label = sources_in label f.blocks

  into : (o : Option ℕ) → into_block (predecessors (with_front_allocas f)) (block_at (with_front_allocas f) o) ≡ into_block (predecessors f) (block_at f o)
  into None = refl
  into (Some k) = into_same (predecessors (with_front_allocas f)) f.blocks k ∙ ap (λ (s : ℕ → List ℕ). into_block s (slice_get f.blocks k)) (λ i label. sources_same label i)

  head_fits : (p : Place) (b c : Block) → IsSource b c → (is_entry p.block && not (is_empty (predecessors f b.label))) ≡ false → (is_entry p.block && not (is_empty (predecessors (with_front_allocas f) c.label))) ≡ false
  head_fits p b _ Same e = ap (λ (ls : List ℕ). is_entry p.block && not (is_empty ls)) (sources_same b.label) ∙ e
  head_fits p b _ First e = ap (λ (ls : List ℕ). is_entry p.block && not (is_empty ls)) (sources_same b.label) ∙ e

  edges_carried : Carries f (breaks_edges f) (breaks_edges (with_front_allocas f))
  edges_carried = record {
    signature = λ p e. refl;
    head = head_fits;
    phi = λ p x e. ap (λ (ls : List ℕ). not (fits_edges ls x.incoming)) (into p.block) ∙ e;
    instr = λ p q i same e. refl;
    ending = λ p q t same e. refl;
  }

  pub edges_kept : first_wrong_edge func f ≡ None → first_wrong_edge func (with_front_allocas f) ≡ None
  edges_kept = carried f (breaks_edges f) (breaks_edges (with_front_allocas f)) edges_carried func
