-- Where begin gets a name: rules F1, K2, K4, K10 and K11.
use Rattle.std.proofs.Common.{◌≡◌, ℕ, ◌+◌, Bool, true, false, List, [], ◌∷◌, ◌++◌, length, refl, sym, ap, ◌∙◌, subst}
use Rattle.std.specs.Prelude.{Some, None, Option, filter, find, flat_map, is_none, is_some, map, not, option_and_then, option_map, position, slice_get, if◌then◌else◌, ◌==◌, ◌&&◌, ◌||◌}
use Rattle.rule_laws.specs.ir_base.declared.outcome.Place.{Place}
use Rattle.rule_laws.specs.ir_calls.Calls.{first_call, first_call_by, first_call_in, is_null, is_true, is_value, or_instr, value_of_first}
use Rattle.rule_laws.specs.rule_shape.OneOfEach.{breaks_calls, calls_of, has_frame_at, has_no_other_frame, has_token, is_first_in_block, is_right, is_right_instr, is_second, wrong_call}
use Rattle.rule_laws.specs.rule_shape.Places.{is_spot, places_by, places_in, places_where}
use Rattle.rule_laws.specs.rule_shape.Promise.{is_wrong_promise, slot_named, wrong_promise}
use Rattle.rule_laws.specs.rule_shape.Suspends.{is_final_suspend, second_final, suspend_too_many}
use Rattle.rule_laws.specs.rule_shape.declared.one_of_each.Calls.{Calls}
use Rattle.rule_laws.proofs.ir_laws.facts.Members.{at_each}
use Rattle.pass_early_proof.proofs.early.renaming.Simulation.{other_call}
use Rattle.rule_laws.proofs.rules.renamed.Switches.{none_part}
use Rattle.rule_laws.proofs.ir_laws.paths.renamed.Uses.{stands_in}
use Rattle.pass_early.specs.BeginName.{begin_named, named_block, named_instr}
use Rattle.rule_laws.proofs.rules.path_rules.Holding.{HoldsIn, of_parts, part_none, to_parts}
use Rattle.rule_laws.proofs.ir_laws.facts.Truth.{both_stay, second_false}
use Rattle.pass_early_proof.proofs.early.path_rules.RenamedCalls.{call_result_is, either_stays}
use Rattle.pass_early_proof.proofs.early.path_rules.RenamedOperands.{map_was}
use Rattle.pass_early_proof.proofs.early.source_rules.NamedUses.{Unnamed, unnamed_by}
use Rattle.pass_early_proof.proofs.early.source_rules.Naming.{block_there, call_kept, call_same, operand_same}
use Rattle.rule_laws.proofs.rules.source_rules.Once.{first_call_at}
use Rattle.rule_laws.specs.rule_phis.Edges.{breaks_edges, first_wrong_edge, fits_edges, into_block, is_empty, is_entry, leads, predecessors}
use Rattle.rule_laws.specs.ir_parts.Parts.{Part, OfInstr, first_part, instr_place, parts_of, place_if}
use Rattle.ir_model.specs.Calls.{first_result}
use Rattle.ir_model.specs.declared.instr.Instr.{Instr}
use Rattle.ir_model.specs.declared.module.Block.{Block}
use Rattle.ir_model.specs.declared.module.Function.{Function}
use Rattle.ir_model.specs.declared.operand.Arg.{Arg}
use Rattle.ir_model.specs.declared.operand.Callee.{Callee}
use Rattle.ir_model.specs.declared.operand.Intrinsic.{Intrinsic}
use Rattle.ir_model.specs.declared.operand.Operand.{Operand}
use Rattle.rule_laws.specs.ir_paths.Slots.{allocas_in}
use Rattle.rule_laws.specs.ir_paths.Windows.{call_operand, call_result, is_call_of, operand_at}
use Rattle.rule_laws.specs.run_laws.changed.Changed.{Each, result_of}

-- ---- instructions

module _ (n : ℕ) where
  allocas_named : (is : List Instr) → allocas_in (map (named_instr n) is) ≡ allocas_in is
  allocas_named [] = refl
  allocas_named (Instr.Alloca name ty align ∷ is) = ap (λ (vs : List ℕ). name ∷ vs) (allocas_named is)
  allocas_named (Instr.Call result must_tail ty (Callee.Intrinsic Intrinsic.CoroBegin) args ∷ is) = allocas_named is
  allocas_named (_ ∷ is) = allocas_named is

  pub all_allocas_named : (bs : List Block) → flat_map (λ b. allocas_in b.instrs) (map (named_block n) bs) ≡ flat_map (λ b. allocas_in b.instrs) bs
  all_allocas_named [] = refl
  all_allocas_named (b ∷ bs) = λ k. allocas_named b.instrs k ++ all_allocas_named bs k

  final_named : (i : Instr) → is_final_suspend (named_instr n i) ≡ is_final_suspend i
  final_named i = λ k. call_same n Intrinsic.CoroSuspend i k && is_true (operand_same n i 1 k)

  places_in_named : (t : Instr → Bool) → ((i : Instr) → t (named_instr n i) ≡ t i) → (func block at : ℕ) (is : List Instr) → places_in t func block at (map (named_instr n) is) ≡ places_in t func block at is
  places_in_named t h func block at [] = refl
  places_in_named t h func block at (i ∷ is) = λ k. (if h i k then instr_place func block at ∷ [] else []) ++ places_in_named t h func block (at + 1) is k

  places_by_named : (t : Instr → Bool) → ((i : Instr) → t (named_instr n i) ≡ t i) → (func block : ℕ) (bs : List Block) → places_by t func block (map (named_block n) bs) ≡ places_by t func block bs
  places_by_named t h func block [] = refl
  places_by_named t h func block (b ∷ bs) = λ k. places_in_named t h func block (length b.phis) b.instrs k ++ places_by_named t h func (block + 1) bs k

  first_in_named : (k : Intrinsic) (is : List Instr) → first_call_in k (map (named_instr n) is) ≡ option_map (named_instr n) (first_call_in k is)
  first_in_named k [] = refl
  first_in_named k (i ∷ is) = ap (λ (b : Bool). if b then Some (named_instr n i) else find (is_call_of k) (map (named_instr n) is)) (call_same n k i) ∙ on (is_call_of k i) (first_in_named k is)
    where
      on : (b : Bool) → first_call_in k (map (named_instr n) is) ≡ option_map (named_instr n) (first_call_in k is) → (if b then Some (named_instr n i) else find (is_call_of k) (map (named_instr n) is)) ≡ option_map (named_instr n) (if b then Some i else find (is_call_of k) is)
      on true again = refl
      on false again = again

  first_by_named : (k : Intrinsic) (bs : List Block) → first_call_by k (map (named_block n) bs) ≡ option_map (named_instr n) (first_call_by k bs)
  first_by_named k [] = refl
  first_by_named k (b ∷ bs) = (λ j. or_instr (first_in_named k b.instrs j) (first_by_named k bs j)) ∙ on (first_call_in k b.instrs)
    where
      on : (o : Option Instr) → or_instr (option_map (named_instr n) o) (option_map (named_instr n) (first_call_by k bs)) ≡ option_map (named_instr n) (or_instr o (first_call_by k bs))
      on None = refl
      on (Some i) = refl

  missing_same : (o : Option Instr) → is_none (option_map (named_instr n) o) ≡ is_none o
  missing_same None = refl
  missing_same (Some i) = refl

  sources_named : (label : ℕ) (bs : List Block) → map (λ b. b.label) (filter (leads label) (map (named_block n) bs)) ≡ map (λ b. b.label) (filter (leads label) bs)
  sources_named label [] = refl
  sources_named label (b ∷ bs) = on (leads label b) (sources_named label bs)
    where
      on : (t : Bool) → map (λ b. b.label) (filter (leads label) (map (named_block n) bs)) ≡ map (λ b. b.label) (filter (leads label) bs) → map (λ b. b.label) (if t then named_block n b ∷ filter (leads label) (map (named_block n) bs) else filter (leads label) (map (named_block n) bs)) ≡ map (λ b. b.label) (if t then b ∷ filter (leads label) bs else filter (leads label) bs)
      on true again = ap (λ (ls : List ℕ). b.label ∷ ls) again
      on false again = again

  right_named : (s : Calls) (p : Place) (i : Instr) → is_right_instr s p (named_instr n i) ≡ is_right_instr s p i
  right_named s p (Instr.Call result must_tail ty (Callee.Intrinsic Intrinsic.CoroBegin) args) = refl
  right_named s p _ = refl

-- ---- what names of a frame say no less

-- the second knows a frame where the first knows none, and all else as it does
pub record KnowsMore (s t : Calls) : Type 0 where
  pub is_missing : t.is_missing ≡ s.is_missing
  pub second_id : t.second_id ≡ s.second_id
  pub second_begin : t.second_begin ≡ s.second_begin
  pub second_end : t.second_end ≡ s.second_end
  pub token : t.token ≡ s.token
  pub no_frame : s.frame ≡ None

module _ (s t : Calls) (more : KnowsMore s t) where
  token_more : (args : List Arg) → has_token s args ≡ true → has_token t args ≡ true
  token_more args e = ap (λ (o : Option ℕ). is_value o (operand_at args 0)) more.token ∙ e

  frame_more : (n : ℕ) (args : List Arg) → has_frame_at s n args ≡ true → has_frame_at t n args ≡ true
  frame_more n args e = let no : false ≡ true = sym (ap (λ (o : Option ℕ). is_value o (operand_at args n)) more.no_frame) ∙ e in absurd (cc)

  other_more : (args : List Arg) → has_no_other_frame s args ≡ true → has_no_other_frame t args ≡ true
  other_more args e = either_stays (is_null (operand_at args 0)) (has_frame_at s 0 args) (is_null (operand_at args 0)) (has_frame_at t 0 args) refl (frame_more 0 args) e

  right_more : (p : Place) (j : Intrinsic) (args : List Arg) → is_right s p j args ≡ true → is_right t p j args ≡ true
  right_more p Intrinsic.CoroAlloc args e = token_more args e
  right_more p Intrinsic.CoroBegin args e = token_more args e
  right_more p Intrinsic.CoroFree args e = both_stay (has_token s args) (has_frame_at s 1 args) (has_token t args) (has_frame_at t 1 args) (token_more args) (frame_more 1 args) e
  right_more p Intrinsic.CoroSave args e = other_more args e
  right_more p Intrinsic.CoroEnd args e = both_stay (is_first_in_block p) (has_no_other_frame s args) (is_first_in_block p) (has_no_other_frame t args) (λ h. h) (other_more args) e
  right_more p _ args e = refl

  instr_more : (p : Place) (i : Instr) → is_right_instr s p i ≡ true → is_right_instr t p i ≡ true
  instr_more p (Instr.Call result must_tail ty (Callee.Intrinsic j) args) e = right_more p j args e
  instr_more p _ e = refl

  second_more : (p : Place) → is_second t p ≡ is_second s p
  second_more p = λ k. is_spot (more.second_id k) p || (is_spot (more.second_begin k) p || is_spot (more.second_end k) p)

module _ (func : ℕ) (f : Function) where
  abbrev n : ℕ
  n = length f.names

  abbrev g : Function
  g = begin_named f

  places_named : (t : Instr → Bool) → ((i : Instr) → t (named_instr n i) ≡ t i) → places_where t func g ≡ places_where t func f
  places_named t h = places_by_named n t h func 0 f.blocks

  calls_named : (k : Intrinsic) → places_where (is_call_of k) func g ≡ places_where (is_call_of k) func f
  calls_named k = places_named (is_call_of k) (call_same n k)

  -- ---- K4 and K11

  pub second_final_named : second_final func f ≡ None → second_final func g ≡ None
  second_final_named e = ap (λ (ps : List Place). if f.coroutine then slice_get ps 1 else None) (places_named is_final_suspend (final_named n)) ∙ e

  pub too_many_named : suspend_too_many func f ≡ None → suspend_too_many func g ≡ None
  too_many_named e = ap (λ (ps : List Place). if f.coroutine then slice_get ps 65536 else None) (calls_named Intrinsic.CoroSuspend) ∙ e

  -- ---- K10

  slot_same : (x : Operand) → slot_named g x ≡ slot_named f x
  slot_same (Operand.Local v) = ap (position (λ a. a == v)) (all_allocas_named n f.blocks)
  slot_same (Operand.Global m) = refl
  slot_same (Operand.Number z) = refl
  slot_same Operand.True = refl
  slot_same Operand.False = refl
  slot_same Operand.Null = refl
  slot_same Operand.None = refl
  slot_same Operand.Poison = refl

  wrong_same : (o : Option Instr) → is_wrong_promise g (option_map (λ i. call_operand i 1) (option_map (named_instr n) o)) ≡ is_wrong_promise f (option_map (λ i. call_operand i 1) o)
  wrong_same None = refl
  wrong_same (Some i) =
      ap (λ (x : Operand). not (is_null x || is_some (slot_named g x))) (operand_same n i 1)
      ∙ ap (λ (o : Option ℕ). not (is_null (call_operand i 1) || is_some o)) (slot_same (call_operand i 1))

  pub wrong_promise_named : wrong_promise func f ≡ None → wrong_promise func g ≡ None
  wrong_promise_named e =
      (λ k.
      if f.coroutine then option_and_then (place_if ((ap (λ (o : Option Instr). is_wrong_promise g (option_map (λ i. call_operand i 1) o)) (first_by_named n Intrinsic.CoroId f.blocks) ∙ wrong_same (first_call Intrinsic.CoroId f)) k)) (slice_get (calls_named Intrinsic.CoroId k) 0)
      else None)
      ∙ e

  -- ---- F1

  sources_same : (label : ℕ) → predecessors g label ≡ predecessors f label
  sources_same label = sources_named n label f.blocks

  into_same : (k : ℕ) → into_block (predecessors g) (slice_get g.blocks k) ≡ into_block (predecessors f) (slice_get f.blocks k)
  into_same k = ap (into_block (predecessors g)) (block_there f k) ∙ on (slice_get f.blocks k)
    where
      on : (o : Option Block) → into_block (predecessors g) (option_map (named_block n) o) ≡ into_block (predecessors f) o
      on None = refl
      on (Some b) = sources_same b.label

  abbrev Fits : Function → Place × Part → Type 0
  Fits h x = breaks_edges h x.0 x.1 ≡ false

  block_fits : (k : ℕ) (b : Block) → HoldsIn (Fits f) func k b → HoldsIn (Fits g) func k (named_block n b)
  block_fits k b h = record {
    head = ap (λ (ls : List ℕ). is_entry (Some k) && not (is_empty ls)) (sources_same b.label) ∙ h.head;
    phis = λ j x e. ap (λ (ls : List ℕ). not (fits_edges ls x.incoming)) (into_same k) ∙ h.phis j x e;
    instrs = λ j y e. refl;
    ending = refl;
  }

  pub wrong_edge_named : first_wrong_edge func f ≡ None → first_wrong_edge func g ≡ None
  wrong_edge_named e =
      let parts = of_parts (Fits f) func f (none_part (breaks_edges f) (parts_of func f) e) in
      part_none (breaks_edges g) (parts_of func g) (to_parts (Fits g) func g (record {
        signature = refl;
        blocks = λ k d there. let x = map_was (named_block n) f.blocks k d there in subst (HoldsIn (Fits g) func k) (sym x.1.1) (block_fits k x.0 (parts.blocks k x.0 x.1.0));
      }))

  -- ---- K2

  module _ (none : first_result Intrinsic.CoroBegin f ≡ None) where
    -- no begin had a name
    no_frame : value_of_first Intrinsic.CoroBegin f ≡ None
    no_frame = on (first_call Intrinsic.CoroBegin f) refl
      where
        unnamed : (i : Instr) → Unnamed i → is_call_of Intrinsic.CoroBegin i ≡ true → result_of i ≡ None
        unnamed i h e = h e

        on : (o : Option Instr) → first_call Intrinsic.CoroBegin f ≡ o → option_and_then call_result o ≡ None
        on None e = refl
        on (Some i) e =
            let x = first_call_at f Intrinsic.CoroBegin i e in
            let y = stands_in f x.point i x.stands in
            sym (call_result_is Intrinsic.CoroBegin i x.is_call)
            ∙ unnamed i (at_each Unnamed y.block.instrs x.point.at i (at_each (λ (b : Block). Each Unnamed b.instrs) f.blocks x.point.block y.block (unnamed_by f.blocks none) y.got) y.stands) x.is_call

    token_same : value_of_first Intrinsic.CoroId g ≡ value_of_first Intrinsic.CoroId f
    token_same = ap (option_and_then call_result) (first_by_named n Intrinsic.CoroId f.blocks) ∙ on (first_call Intrinsic.CoroId f) refl
      where
        on : (o : Option Instr) → first_call Intrinsic.CoroId f ≡ o → option_and_then call_result (option_map (named_instr n) o) ≡ option_and_then call_result o
        on None e = refl
        on (Some i) e = call_kept n i (other_call Intrinsic.CoroId Intrinsic.CoroBegin i (first_call_at f Intrinsic.CoroId i e).is_call refl)

    missing : (k : Intrinsic) → is_none (first_call k g) ≡ is_none (first_call k f)
    missing k = ap is_none (first_by_named n k f.blocks) ∙ missing_same n (first_call k f)

    more : KnowsMore (calls_of func f) (calls_of func g)
    more = record {
      is_missing = λ k. missing Intrinsic.CoroId k || (missing Intrinsic.CoroBegin k || missing Intrinsic.CoroEnd k);
      second_id = ap (λ (ps : List Place). slice_get ps 1) (calls_named Intrinsic.CoroId);
      second_begin = ap (λ (ps : List Place). slice_get ps 1) (calls_named Intrinsic.CoroBegin);
      second_end = ap (λ (ps : List Place). slice_get ps 1) (calls_named Intrinsic.CoroEnd);
      token = token_same;
      no_frame = no_frame;
    }

    abbrev Right : Function → Place × Part → Type 0
    Right h x = breaks_calls (calls_of func h) x.0 x.1 ≡ false

    instr_right : (p : Place) (i : Instr) → Right f (p, OfInstr i) → Right g (p, OfInstr (named_instr n i))
    instr_right p i e =
        let was = second_false (is_second (calls_of func f) p) (is_right_instr (calls_of func f) p i) e in
        (λ k. (second_more (calls_of func f) (calls_of func g) more p ∙ was.0) k || not ((right_named n (calls_of func g) p i ∙ instr_more (calls_of func f) (calls_of func g) more p i was.1) k))

    pub wrong_call_named : f.coroutine ≡ true → wrong_call func f ≡ None → wrong_call func g ≡ None
    wrong_call_named coroutine e =
        let parts = of_parts (Right f) func f (none_part (breaks_calls (calls_of func f)) (parts_of func f) (subst (λ (b : Bool). (if b then first_part (breaks_calls (calls_of func f)) (parts_of func f) else None) ≡ None) coroutine e)) in
        subst (λ (b : Bool). (if b then first_part (breaks_calls (calls_of func g)) (parts_of func g) else None) ≡ None) (sym coroutine)
        (part_none (breaks_calls (calls_of func g)) (parts_of func g) (to_parts (Right g) func g (record {
          signature = more.is_missing ∙ parts.signature;
          blocks = λ k d there.
              let x = map_was (named_block n) f.blocks k d there in
              subst (HoldsIn (Right g) func k) (sym x.1.1) (record {
                head = refl;
                phis = λ j p q. refl;
                instrs = λ j y q.
                    let was = map_was (named_instr n) x.0.instrs j y q in
                    subst (λ (z : Instr). Right g (instr_place func k (length x.0.phis + j), OfInstr z)) (sym was.1.1)
                    (instr_right (instr_place func k (length x.0.phis + j)) was.0 ((parts.blocks k x.0 x.1.0).instrs j was.0 was.1.0));
                ending = refl;
              });
        })))
