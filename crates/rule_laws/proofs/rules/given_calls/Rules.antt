-- A function whose calls give frames breaks no rule of functions.
use Rattle.std.proofs.Common.{◌≡◌, ℕ, ◌+◌, Bool, true, false, List, [], ◌∷◌, ◌++◌, length, map, refl, ap, sym, subst, ◌∙◌, Some, None, Option}
use Rattle.std.proofs.lemmas.List.{map-append}
use Rattle.std.proofs.lemmas.List.Folds.{list_all-append}
use Rattle.std.specs.List.{list_all}
use Rattle.std.specs.Prelude.{not, option_to_list, slice_get, ◌&&◌, ◌||◌}
use Rattle.flow_blocks.specs.Edges.{block_edges}
use Rattle.ir_laws.specs.flow_solver.Paths.{IsListed}
use Rattle.ir_laws.proofs.facts.Members.{each_joined, each_left, each_right}
use Rattle.ir_laws.proofs.facts.Truth.{and_both, and_first, and_second, first_no, holds, second_no}
use Rattle.ir_laws.specs.ir_base.declared.name.Name.{Name}
use Rattle.ir_laws.specs.ir_base.declared.outcome.Place.{Place}
use Rattle.ir_laws.specs.ir_model.Names.{position_of}
use Rattle.ir_laws.specs.ir_model.Ty.{Ty, ptr}
use Rattle.ir_laws.specs.ir_model.declared.instr.Incoming.{Incoming}
use Rattle.ir_laws.specs.ir_model.declared.instr.Instr.{Instr}
use Rattle.ir_laws.specs.ir_model.declared.instr.Phi.{Phi}
use Rattle.ir_laws.specs.ir_model.declared.module.Block.{Block}
use Rattle.ir_laws.specs.ir_model.declared.module.Function.{Function}
use Rattle.ir_laws.specs.ir_model.declared.module.Module.{Module}
use Rattle.ir_laws.specs.ir_model.declared.operand.Arg.{Arg}
use Rattle.ir_laws.specs.ir_model.declared.operand.Callee.{Callee}
use Rattle.ir_laws.specs.ir_model.declared.operand.Operand.{Operand}
use Rattle.ir_laws.specs.run_laws.changed.Changed.{Each}
use Rattle.ir_parts.specs.Contents.{arg_operands, arg_types, ending_operands, instr_operands, instr_types, part_labels, part_operands, part_types, result_of}
use Rattle.ir_parts.specs.Locals.{locals_of}
use Rattle.ir_parts.specs.Parts.{OfInstr, Part, first_part, instr_place, parts_of}
use Rattle.ir_parts.specs.declared.defined.Definition.{Definition}
use Rattle.rule_laws.proofs.rules.fetching_rules.Puts.{ptr_shallow}
use Rattle.rule_laws.proofs.rules.function_rules.Depths.{plain_part, types_fit}
use Rattle.rule_laws.proofs.rules.given_calls.Carried.{Carries, carried}
use Rattle.rule_laws.proofs.rules.given_calls.Tables.{blocks_into, count_same, edges_same, kinds_same, locals_same, made_same, positions_same, predecessors_same, sizes_same, values_same}
use Rattle.rule_laws.proofs.rules.path_rules.SavedUses.{all_defined}
use Rattle.rule_laws.proofs.rules.renamed.Uses.{none_undefined}
use Rattle.rule_laws.proofs.rules.replaced.Known.{called_before, labels_before, operands_before, types_before}
use Rattle.rule_laws.specs.rules.function_rules.Kept.{KeepsFunctionRulesAt}
use Rattle.rule_laws.specs.rules.given_calls.Given.{AreGiven, AreGivenBlocks, Gives, IsFrameThere, MayBeCalled, NoBlock, NoneLeft, OneBlock, Same, frame_arg, given_by, with_blocks, with_instrs}
use Rattle.rule_laws.specs.rules.local_rules.Local.{BreaksNoLocalRuleAt}
use Rattle.rule_locals.specs.Addresses.{is_no_function, points_to_functions}
use Rattle.rule_locals.specs.Calls.{calls_closed}
use Rattle.rule_locals.specs.Entries.{allocates_late}
use Rattle.rule_locals.specs.Extents.{breaks_extents}
use Rattle.rule_locals.specs.Instrs.{on_instr}
use Rattle.rule_locals.specs.Intrinsics.{calls_inner}
use Rattle.rule_locals.specs.Markers.{marks_otherwise, slot_size}
use Rattle.rule_locals.specs.Transfers.{breaks_transfers}
use Rattle.rule_names.specs.Definitions.{first_twice}
use Rattle.rule_names.specs.Known.{is_defined, is_label, is_value, knows_called, knows_operand, knows_type, names_unknown}
use Rattle.rule_names.specs.declared.stage.Stage.{Stage}
use Rattle.rule_phis.specs.Edges.{block_at, breaks_edges, fits_edges, into_block, is_empty, is_entry, predecessors}
use Rattle.rule_types.specs.Limits.{all_fit, breaks_limits}
use Rattle.rule_types.specs.Depth.{is_shallow}
use Rattle.rule_types.specs.Signatures.{calls_otherwise}
use Rattle.rule_uses.specs.Undefined.{Entry, IsUndefined, Next, ReachesWithout}
use Rattle.rule_uses.specs.Uses.{Use, block_uses, block_values, blocks_uses, incoming_uses, instr_uses, local_of, phi_uses, phi_values, use_of, uses_at, uses_of, values_at}
use Rattle.rule_values.specs.Fits.{fits_kind, is_scalar}
use Rattle.rule_values.specs.Instrs.{fits_result, passes}
use Rattle.rule_values.specs.Kinds.{value_kind}
use Rattle.rule_values.specs.Values.{breaks_values}
use Rattle.rule_values.specs.declared.kinds.Kind.{Kind}

-- ---- lists with one more element

all_more : {A : Type 0} (t : A → Bool) (xs : List A) (x : A) → list_all t xs ≡ true → t x ≡ true
    → list_all t (xs ++ x ∷ []) ≡ true
all_more t xs x e d =
    list_all-append t xs (x ∷ [])
    ∙ and_both (list_all t xs) (t x && true) e (and_both (t x) true d refl)

types_more : (args : List Arg) (n : ℕ) → arg_types (args ++ frame_arg n ∷ []) ≡ arg_types args ++ ptr ∷ []
types_more args n = map-append (λ (a : Arg). a.ty) args (frame_arg n ∷ [])

operands_more : (args : List Arg) (n : ℕ)
    → arg_operands (args ++ frame_arg n ∷ []) ≡ arg_operands args ++ Operand.Local n ∷ []
operands_more args n = map-append (λ (a : Arg). a.value) args (frame_arg n ∷ [])

-- what holds of all types of a call, and of pointers, holds of those of the call that gives a frame
types_pass : (t : Ty → Bool) (ty : Option Ty) (args : List Arg) (n : ℕ) → t ptr ≡ true
    → list_all t (option_to_list ty ++ arg_types args) ≡ true
    → list_all t (option_to_list ty ++ arg_types (args ++ frame_arg n ∷ [])) ≡ true
types_pass t ty args n p e =
    let both = sym (list_all-append t (option_to_list ty) (arg_types args)) ∙ e in
    list_all-append t (option_to_list ty) (arg_types (args ++ frame_arg n ∷ []))
    ∙ and_both (list_all t (option_to_list ty)) (list_all t (arg_types (args ++ frame_arg n ∷ [])))
    (and_first (list_all t (option_to_list ty)) (list_all t (arg_types args)) both)
    (ap (list_all t) (types_more args n)
    ∙ all_more t (arg_types args) ptr (and_second (list_all t (option_to_list ty)) (list_all t (arg_types args)) both) p)

operands_pass : (t : Operand → Bool) (args : List Arg) (n : ℕ) → t (Operand.Local n) ≡ true
    → list_all t (arg_operands args) ≡ true → list_all t (arg_operands (args ++ frame_arg n ∷ [])) ≡ true
operands_pass t args n p e =
    ap (list_all t) (operands_more args n) ∙ all_more t (arg_operands args) (Operand.Local n) e p

result_same : (ty : Option Ty) (r : Option ℕ) (x y : Name)
    → fits_result (Callee.Named y) ty r ≡ fits_result (Callee.Named x) ty r
result_same None None x y = refl
result_same None (Some n) x y = refl
result_same (Some t) r x y = refl

module _ (stage : Stage) (m : Module) (func : ℕ) (f : Function) (cs : List Block)
    (given : AreGivenBlocks m func f 0 f.blocks cs) (rules : KeepsFunctionRulesAt stage m func f) where
  abbrev g : Function
  g = with_blocks cs f

  abbrev values : ℕ → Bool
  values = is_value func f

  abbrev labels : ℕ → Bool
  labels = is_label func f

  -- ---- names (N2), depths of types (L1), types of calls (Y2)

  known_carried : Carries m func f cs (names_unknown m values labels) (names_unknown m values labels)
  known_carried =
      record {
        signature = λ p e. e;
        head = λ p b js e. refl;
        phi = λ p x e. e;
        instr = λ p i e. e;
        call = λ p r ty x y args n may there kind e.
            let old : Part = OfInstr (Instr.Call r false ty (Callee.Named x) args) in
            let new : Part = OfInstr (given_by r ty y args n) in
            ap not
            (and_both (list_all (knows_type m) (part_types new))
            (list_all (knows_operand m values) (part_operands new)
            && (list_all labels (part_labels new) && knows_called m new))
            (types_pass (knows_type m) ty args n refl (types_before m values labels p old e))
            (and_both (list_all (knows_operand m values) (part_operands new))
            (list_all labels (part_labels new) && knows_called m new)
            (operands_pass (knows_operand m values) args n there (operands_before m values labels p old e)) may.known));
        ending = λ p t e. e;
      }

  known_now : names_unknown m values labels ≡ names_unknown m (is_value func g) (is_label func g)
  known_now =
      ap (λ (ds : List Definition). names_unknown m (is_defined false ds) (is_defined true ds))
      (sym (locals_same m func f cs given))

  depths_carried : Carries m func f cs (breaks_limits Stage.Plain m None) (breaks_limits Stage.Plain m None)
  depths_carried =
      record {
        signature = λ p e. e;
        head = λ p b js e. e;
        phi = λ p x e. e;
        instr = λ p i e. e;
        call = λ p r ty x y args n may there kind e.
            plain_part m p (OfInstr (given_by r ty y args n))
            (types_pass (is_shallow m.types) ty args n (ptr_shallow m.types)
            (types_fit Stage.Plain m None p (OfInstr (Instr.Call r false ty (Callee.Named x) args)) e));
        ending = λ p t e. e;
      }

  calls_carried : Carries m func f cs (calls_otherwise m) (calls_otherwise m)
  calls_carried =
      record {
        signature = λ p e. refl;
        head = λ p b js e. refl;
        phi = λ p x e. refl;
        instr = λ p i e. e;
        call = λ p r ty x y args n may there kind e. ap not may.fits;
        ending = λ p t e. refl;
      }

  -- ---- types of values (Y1)

  abbrev kinds : ℕ → Option Kind
  kinds = value_kind f

  values_carried : Carries m func f cs (breaks_values m kinds f.result) (breaks_values m kinds f.result)
  values_carried =
      record {
        signature = λ p e. e;
        head = λ p b js e. refl;
        phi = λ p x e. e;
        instr = λ p i e. e;
        call = λ p r ty x y args n may there kind e.
            let first : Bool = fits_result (Callee.Named x) ty r in
            let rest : Bool = list_all (passes kinds (Callee.Named x)) args in
            let fit : (first && rest) ≡ true = holds (first && rest) e in
            ap not
            (and_both (fits_result (Callee.Named y) ty r)
            (list_all (passes kinds (Callee.Named y)) (args ++ frame_arg n ∷ []))
            (result_same ty r x y ∙ and_first first rest fit)
            (all_more (passes kinds (Callee.Named y)) args (frame_arg n) (and_second first rest fit)
            (ap (λ (o : Option Kind). fits_kind o ptr) kind)));
        ending = λ p t e. e;
      }

  -- ---- instructions (Y3, Y4, Y5, F3, K1, K13) and addresses of functions (P1)

  instrs_carried : (breaks now : Place → Instr → Bool)
      → ((p : Place) (i : Instr) → breaks p i ≡ false → now p i ≡ false)
      → ((p : Place) (r : Option ℕ) (ty : Option Ty) (x y : Name) (args : List Arg) (n : ℕ)
      → MayBeCalled m ty y (args ++ frame_arg n ∷ []) → breaks p (Instr.Call r false ty (Callee.Named x) args) ≡ false
      → now p (given_by r ty y args n) ≡ false)
      → Carries m func f cs (on_instr breaks) (on_instr now)
  instrs_carried breaks now same call =
      record {
        signature = λ p e. refl;
        head = λ p b js e. refl;
        phi = λ p x e. refl;
        instr = same;
        call = λ p r ty x y args n may there kind e. call p r ty x y args n may e;
        ending = λ p t e. refl;
      }

  transfers_same : (p : Place) (i : Instr) → breaks_transfers Stage.Source f p i ≡ false
      → breaks_transfers Stage.Source g p i ≡ false
  transfers_same p (Instr.Call r must_tail ty callee args) e = e
  transfers_same p _ e = refl

  pointers_carried : Carries m func f cs (points_to_functions m) (points_to_functions m)
  pointers_carried =
      record {
        signature = λ p e. refl;
        head = λ p b js e. refl;
        phi = λ p x e. e;
        instr = λ p i e. e;
        call = λ p r ty x y args n may there kind e.
            let old : Bool = list_all (is_no_function m) (arg_operands args) in
            let new : Bool = list_all (is_no_function m) (arg_operands (args ++ frame_arg n ∷ [])) in
            ap (λ (b : Bool). not b || false)
            (operands_pass (is_no_function m) args n refl (holds old (first_no (not old) false e)));
        ending = λ p t e. e;
      }

  local_kept : BreaksNoLocalRuleAt stage m func g
  local_kept =
      record {
        values = ap (λ (ks : ℕ → Option Kind). first_part (breaks_values m ks f.result) (parts_of func g))
            (kinds_same m func f cs given)
            ∙ carried m func f cs (breaks_values m kinds f.result) (breaks_values m kinds f.result) values_carried given
            rules.local.values;
        closed_calls = carried m func f cs (on_instr (calls_closed m)) (on_instr (calls_closed m))
            (instrs_carried (calls_closed m) (calls_closed m) (λ p i e. e) (λ p r ty x y args n may e. may.allowed)) given
            rules.local.closed_calls;
        extents = carried m func f cs (on_instr (breaks_extents stage m)) (on_instr (breaks_extents stage m))
            (instrs_carried (breaks_extents stage m) (breaks_extents stage m) (λ p i e. e)
            (λ p r ty x y args n may e. refl)) given rules.local.extents;
        transfers = carried m func f cs (on_instr (breaks_transfers Stage.Source f))
            (on_instr (breaks_transfers Stage.Source g))
            (instrs_carried (breaks_transfers Stage.Source f) (breaks_transfers Stage.Source g) transfers_same
            (λ p r ty x y args n may e. refl)) given rules.local.transfers;
        allocas = carried m func f cs (on_instr allocates_late) (on_instr allocates_late)
            (instrs_carried allocates_late allocates_late (λ p i e. e) (λ p r ty x y args n may e. refl)) given
            rules.local.allocas;
        function_pointers = carried m func f cs (points_to_functions m) (points_to_functions m) pointers_carried given
            rules.local.function_pointers;
        misplaced = carried m func f cs (on_instr (calls_inner f.coroutine)) (on_instr (calls_inner f.coroutine))
            (instrs_carried (calls_inner f.coroutine) (calls_inner f.coroutine) (λ p i e. e)
            (λ p r ty x y args n may e. e)) given rules.local.misplaced;
        marks = ap (λ (sizes : ℕ → Option ℕ). first_part (on_instr (marks_otherwise sizes)) (parts_of func g))
            (sizes_same m func f cs given)
            ∙ carried m func f cs (on_instr (marks_otherwise (slot_size m f))) (on_instr (marks_otherwise (slot_size m f)))
            (instrs_carried (marks_otherwise (slot_size m f)) (marks_otherwise (slot_size m f)) (λ p i e. e)
            (λ p r ty x y args n may e. refl)) given rules.local.marks;
      }

  -- ---- edges and phis (F1)

  into_same : (o : Option ℕ) → into_block (predecessors g) (block_at g o) ≡ into_block (predecessors f) (block_at f o)
  into_same None = refl
  into_same (Some k) =
      ap (λ (sources : ℕ → List ℕ). into_block sources (slice_get cs k)) (predecessors_same m func f cs given)
      ∙ blocks_into m func f (predecessors f) k 0 f.blocks cs given

  edges_carried : Carries m func f cs (breaks_edges f) (breaks_edges g)
  edges_carried =
      record {
        signature = λ p e. refl;
        head = λ p b js e.
            ap (λ (sources : ℕ → List ℕ). is_entry p.block && not (is_empty (sources b.label)))
            (predecessors_same m func f cs given) ∙ e;
        phi = λ p x e. ap (λ (ls : List ℕ). not (fits_edges ls x.incoming)) (into_same p.block) ∙ e;
        instr = λ p i e. refl;
        call = λ p r ty x y args n may there kind e. refl;
        ending = λ p t e. refl;
      }

  -- ---- uses (F2)

  abbrev Fine : Use → Type 0
  Fine u = IsUndefined f u → ⊥

  abbrev Now : Use → Type 0
  Now u = IsUndefined g u → ⊥

  reach : (v block : ℕ) → ReachesWithout g v block → ReachesWithout f v block
  reach v _ Entry = Entry
  reach v _ (Next from to r none e) =
      Next from to (reach v from r)
      (λ l. none (subst (IsListed v) (sym (values_same m func f cs given from)) l))
      (subst (IsListed (from, to)) (edges_same m func f cs given) e)

  fine : (u : Use) → Fine u → Now u
  fine u h bad =
      h (record { reaches = reach u.value u.block bad.reaches; not_before = bad.not_before; no_param = bad.no_param })

  all_fine : (us : List Use) → Each Fine us → Each Now us
  all_fine [] h = tt
  all_fine (u ∷ us) h = (fine u h.0, all_fine us h.1)

  -- uses of operands with a frame behind them
  with_frame : (p : Place) (block : ℕ) (before : List ℕ) (n : ℕ) (xs : List Operand)
      → Each Fine (uses_at p block before xs) → Fine (use_of p block before n)
      → Each Fine (uses_at p block before (xs ++ Operand.Local n ∷ []))
  with_frame p block before n [] h last = (last, tt)
  with_frame p block before n (Operand.Local v ∷ xs) h last = (h.0, with_frame p block before n xs h.1 last)
  with_frame p block before n (Operand.Global x ∷ xs) h last = with_frame p block before n xs h last
  with_frame p block before n (Operand.Number z ∷ xs) h last = with_frame p block before n xs h last
  with_frame p block before n (Operand.True ∷ xs) h last = with_frame p block before n xs h last
  with_frame p block before n (Operand.False ∷ xs) h last = with_frame p block before n xs h last
  with_frame p block before n (Operand.Null ∷ xs) h last = with_frame p block before n xs h last
  with_frame p block before n (Operand.None ∷ xs) h last = with_frame p block before n xs h last
  with_frame p block before n (Operand.Poison ∷ xs) h last = with_frame p block before n xs h last

  instrs_fine : (block at : ℕ) (before : List ℕ) (is js : List Instr) → AreGiven m func f block before is js
      → Each Fine (instr_uses func block at before is) → Each Fine (instr_uses func block at before js)
  instrs_fine block at _ _ _ (NoneLeft before) h = tt
  instrs_fine block at _ _ _ (Same before i is js rest) h =
      let here : List Use = uses_at (instr_place func block at) block before (instr_operands i) in
      let made : List ℕ = option_to_list (result_of i) ++ before in
      each_joined Fine here (instr_uses func block (at + 1) made js)
      (each_left Fine here (instr_uses func block (at + 1) made is) h)
      (instrs_fine block (at + 1) made is js rest (each_right Fine here (instr_uses func block (at + 1) made is) h))
  instrs_fine block at _ _ _ (Gives before r ty x y args n is js may there rest) h =
      let p : Place = instr_place func block at in
      let here : List Use = uses_at p block before (arg_operands args) in
      let made : List ℕ = option_to_list r ++ before in
      each_joined Fine (uses_at p block before (arg_operands (args ++ frame_arg n ∷ [])))
      (instr_uses func block (at + 1) made js)
      (subst (λ (xs : List Operand). Each Fine (uses_at p block before xs)) (sym (operands_more args n))
      (with_frame p block before n (arg_operands args)
      (each_left Fine here (instr_uses func block (at + 1) made is) h) (there.made p)))
      (instrs_fine block (at + 1) made is js rest (each_right Fine here (instr_uses func block (at + 1) made is) h))

  -- uses of phis are at the same ends of blocks
  incoming_same : (p : Place) (is : List Incoming) → incoming_uses g p is ≡ incoming_uses f p is
  incoming_same p [] = refl
  incoming_same p (i ∷ is) =
      let at_same : position_of g i.from ≡ position_of f i.from =
      ap (λ (of : ℕ → ℕ). of i.from) (positions_same m func f cs given) in
      let made : values_at g (position_of g i.from) ≡ values_at f (position_of f i.from) =
      values_same m func f cs given (position_of g i.from) ∙ ap (values_at f) at_same in
      λ k. map (λ v. use_of p (at_same k) (made k) v) (option_to_list (local_of i.value)) ++ incoming_same p is k

  phis_same : (block at : ℕ) (ps : List Phi) → phi_uses g func block at ps ≡ phi_uses f func block at ps
  phis_same block at [] = refl
  phis_same block at (p ∷ ps) =
      λ k. incoming_same (instr_place func block at) p.incoming k ++ phis_same block (at + 1) ps k

  block_fine : (block : ℕ) (b : Block) (js : List Instr) → AreGiven m func f block (phi_values b) b.instrs js
      → Each Fine (block_uses f func block b) → Each Fine (block_uses g func block (with_instrs js b))
  unfolding block_uses
  block_fine block b js s h =
      let phis : List Use = phi_uses f func block 0 b.phis in
      let old : List Use = instr_uses func block (length b.phis) (phi_values b) b.instrs in
      let new : List Use = instr_uses func block (length b.phis) (phi_values b) js in
      let c : Block = with_instrs js b in
      let last : List Use =
      uses_at (instr_place func block (length b.phis + length b.instrs)) block (block_values b)
      (ending_operands b.term) in
      let now : List Use =
      uses_at (instr_place func block (length b.phis + length js)) block (block_values c) (ending_operands b.term) in
      let count : length js ≡ length b.instrs = count_same m func f block (phi_values b) b.instrs js s in
      let made : block_values c ≡ block_values b =
      made_same m func f block (phi_values b) (phi_values b) b.instrs js s in
      let same : now ≡ last =
      (λ k. uses_at (instr_place func block (length b.phis + count k)) block (made k) (ending_operands b.term)) in
      let behind : Each Fine (old ++ last) = each_right Fine phis (old ++ last) h in
      each_joined Fine (phi_uses g func block 0 b.phis) (new ++ now)
      (subst (Each Fine) (sym (phis_same block 0 b.phis)) (each_left Fine phis (old ++ last) h))
      (each_joined Fine new now
      (instrs_fine block (length b.phis) (phi_values b) b.instrs js s (each_left Fine old last behind))
      (subst (Each Fine) (sym same) (each_right Fine old last behind)))

  blocks_fine : (at : ℕ) (bs ds : List Block) → AreGivenBlocks m func f at bs ds
      → Each Fine (blocks_uses f func at bs) → Each Fine (blocks_uses g func at ds)
  blocks_fine _ _ _ (NoBlock at) h = tt
  blocks_fine _ _ _ (OneBlock at b js bs ds s rest) h =
      let here : List Use = block_uses f func at b in
      each_joined Fine (block_uses g func at (with_instrs js b)) (blocks_uses g func (at + 1) ds)
      (block_fine at b js s (each_left Fine here (blocks_uses f func (at + 1) bs) h))
      (blocks_fine (at + 1) bs ds rest (each_right Fine here (blocks_uses f func (at + 1) bs) h))

  -- ---- all rules

  pub given_keeps : KeepsFunctionRulesAt stage m func g
  given_keeps =
      record {
        tabled = λ d l. rules.tabled d (subst (IsListed d) (locals_same m func f cs given) l);
        definitions = ap (first_twice []) (locals_same m func f cs given) ∙ rules.definitions;
        known = subst (λ (breaks : Place → Part → Bool). first_part breaks (parts_of func g) ≡ None) known_now
            (carried m func f cs (names_unknown m values labels) (names_unknown m values labels) known_carried given
            rules.known);
        depths = carried m func f cs (breaks_limits Stage.Plain m None) (breaks_limits Stage.Plain m None)
            depths_carried given rules.depths;
        calls = carried m func f cs (calls_otherwise m) (calls_otherwise m) calls_carried given rules.calls;
        local = local_kept;
        edges = carried m func f cs (breaks_edges f) (breaks_edges g) edges_carried given rules.edges;
        uses = all_defined g (uses_of func g)
            (all_fine (uses_of func g)
            (blocks_fine 0 f.blocks cs given (none_undefined f (uses_of func f) None rules.uses refl)));
      }
