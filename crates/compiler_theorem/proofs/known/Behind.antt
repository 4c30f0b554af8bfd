-- Slots in a frame are used behind begin in the coroutine too of which the framed form is made (rule K9).
use Rattle.std.proofs.Common.{◌≡◌, ◌⊎◌, inl, inr, ℕ, zero, suc, ◌+◌, ◌<◌, ◌≤◌, Bool, true, false, List, [], ◌∷◌, ◌++◌}
use Rattle.std.proofs.Common.{length, Option, Some, None, refl, sym, ap, ◌∙◌, subst, arith}
use Rattle.std.proofs.lemmas.Bool.{eqb-true, false≢true}
use Rattle.std.specs.List.{list_any}
use Rattle.std.specs.Prelude.{codes, if◌then◌else◌, option_to_list, slice_get, ◌==◌}
use Rattle.compiler_theorem.proofs.known.Layers.{KeepsResults, all_fail, both_results, each_fails, none_before}
use Rattle.compiler_theorem.proofs.known.Layers.{one_fails, own_index, own_stands}
use Rattle.compiler_theorem.proofs.known.Plain.{there_at}
use Rattle.compiler.specs.flow_solver.Paths.{IsListed}
use Rattle.compiler.proofs.ir_laws.facts.Lists.{get_within}
use Rattle.compiler.specs.ir_model.Names.{is_local, position_of}
use Rattle.compiler.specs.ir_model.declared.instr.Instr.{Instr}
use Rattle.compiler.specs.ir_model.declared.instr.Terminator.{Terminator}
use Rattle.compiler.specs.ir_model.declared.module.Block.{Block}
use Rattle.compiler.specs.ir_model.declared.module.Function.{Function}
use Rattle.compiler.specs.ir_model.declared.operand.Callee.{Callee}
use Rattle.compiler.specs.ir_model.declared.operand.Intrinsic.{Intrinsic}
use Rattle.compiler.specs.ir_model.declared.operand.Operand.{Operand}
use Rattle.compiler.proofs.ir_laws.facts.Truth.{itself}
use Rattle.compiler.specs.ir_laws.facts.renamed.Regular.{is_result}
use Rattle.compiler.specs.ir_parts.Contents.{instr_operands, result_of as part_result}
use Rattle.compiler.specs.ir_parts.Parts.{instr_place}
use Rattle.compiler.specs.ir_base.declared.outcome.Place.{Place}
use Rattle.compiler.proofs.ir_paths.Search.{or_left, or_right}
use Rattle.compiler.specs.ir_paths.Paths.{targets}
use Rattle.compiler.specs.ir_paths.Slots.{has_name}
use Rattle.compiler.specs.ir_paths.Windows.{instr_at, instr_in, is_call_of}
use Rattle.compiler.specs.ir_paths.declared.point.Point.{Point}
use Rattle.compiler.specs.pass_addresses.Placing.{stays, without_promise_of}
use Rattle.compiler.specs.pass_cells.Cells.{fetched_function, fetches_of}
use Rattle.compiler.specs.pass_cells.Written.{entry_front as cells_front}
use Rattle.compiler.specs.pass_copies.BeginCopies.{entry_front as copies_front, first_fetched, is_fetched}
use Rattle.compiler.specs.pass_fetch.Instrs.{fetched_term, with_fetched}
use Rattle.compiler.specs.pass_fetch.declared.fetch.Fetch.{Fetch}
use Rattle.compiler.specs.pass_fetch.Fetching.{fetch_of, next_after, operand_by}
use Rattle.pass_frames_meaning.proofs.begun.Begun.{first}
use Rattle.pass_frames_meaning.specs.Led.{IsBegin}
use Rattle.pass_frames_meaning.specs.Unbegun.{IsBefore, after, along, first as first_point}
use Rattle.pass_frames_meaning.proofs.pass_frames_proof.code.Passes.{cells_made, copies_made, fetches_made, rows, unmarked_made}
use Rattle.pass_frames_meaning.proofs.pass_frames_proof.layers.Standing.{end_stands}
use Rattle.pass_frames_meaning.proofs.pass_frames_proof.led.Twice.{operands_fetched}
use Rattle.pass_frames_meaning.proofs.pass_frames_proof.tests.Kept.{both_keep}
use Rattle.pass_frames_meaning.proofs.pass_frames_proof.tests.Passes.{copying_keeps, fetching_keeps, unmarked_keeps, writing_keeps}
use Rattle.pass_frames_meaning.specs.pass_frames_proof.Framings.{IsFraming}
use Rattle.pass_frames_meaning.specs.pass_frames_proof.Layers.{each, only, state_at}
use Rattle.pass_frames_meaning.specs.pass_frames_proof.Led.{fetched_all}
use Rattle.pass_frames_meaning.specs.pass_frames_proof.Passes.{IsBlockMade, copying_at, fetched_before, fetching_at, unmarked_at}
use Rattle.pass_frames_meaning.specs.pass_frames_proof.Passes.{writing_at}
use Rattle.pass_frames_meaning.specs.pass_frames_proof.Places.{Framing, before_labels, celled_layer, copied_layer, copies, edged, fetched}
use Rattle.pass_frames_meaning.specs.pass_frames_proof.Places.{marked, named}
use Rattle.pass_frames_meaning.specs.pass_frames_proof.Places.{offsets, plan, unmarked, unmarked_layer, with_copies, written}
use Rattle.pass_frames_meaning.specs.pass_frames_proof.Tests.{AllFail, KeepsTest, PassesLike}
use Rattle.compiler.proofs.pass_kept_proof.Read.{made_phi}
use Rattle.compiler.specs.pass_kept_proof.Needed.{BranchesTo, phis_give}
use Rattle.compiler.proofs.pass_proofs.addresses.rules.Unmarked.{promise_result}
use Rattle.compiler.proofs.pass_proofs.early.save_simulation.Suspending.{fetch_at}
use Rattle.compiler.proofs.pass_proofs.fetch.rules.Times.{with_result}
use Rattle.compiler.proofs.pass_proofs.kept.sources.Definite.{Comes, across, over_unmade}
use Rattle.compiler.proofs.pass_proofs.kept.sources.Places.{branch_there}
use Rattle.compiler.specs.pass_proofs.addresses.rules.Addresses.{HasBegin, lies_in_frame}
use Rattle.compiler.proofs.rule_laws.rules.renamed.Outside.{each_left, each_right}
use Rattle.compiler.proofs.rule_laws.rules.renamed.Uses.{of_block, result_spelt, three_kinds, use_at}
use Rattle.compiler.proofs.rule_laws.rules.shape.Begin.{begin_result}
use Rattle.compiler.proofs.rule_laws.rules.shape.Stands.{StandsAt, begin_stands}
use Rattle.compiler.proofs.rule_laws.rules.source_rules.Locals.{same_result}
use Rattle.compiler.proofs.rule_laws.rules.sources.Places.{any_param, point}
use Rattle.compiler.specs.rule_laws.rules.function_rules.Kept.{KeepsFunctionRules}
use Rattle.compiler.specs.rule_uses.Undefined.{Entry, ReachesWithout}
use Rattle.compiler.specs.rule_uses.Uses.{Use, instr_uses, phi_values, use_of, uses_at, uses_of}
use Rattle.run_accepted.proofs.Once.{gives_no_param, no_phi_gives}
use Rattle.compiler.specs.run_laws.changed.Changed.{Each, result_of}
use Rattle.compiler.specs.run_step.Step.{AtInstr, fetch, phis_of}

-- ---- what layers keep

abbrev begins : Instr → Bool
begins = is_call_of Intrinsic.CoroBegin

begins_not : (i : Instr) → (IsBegin i → ⊥) → begins i ≡ false
begins_not i h = on (begins i) refl
  where
    is_one : (i : Instr) → begins i ≡ true → IsBegin i
    is_one (Instr.Call result must_tail ty (Callee.Intrinsic Intrinsic.CoroBegin) args) e = tt
    is_one _ e = absurd (cc)

    on : (b : Bool) → begins i ≡ b → b ≡ false
    on false e = refl
    on true e = absurd (h (is_one i e))

same_targets : (t : List (Option Fetch)) (n : ℕ) (x : Terminator) → targets (fetched_term t n x) ≡ targets x
same_targets t n (Terminator.Jump label) = refl
same_targets t n (Terminator.Branch c a b) = refl
same_targets t n (Terminator.Switch arg default cases) = refl
same_targets t n (Terminator.Ret value) = refl
same_targets t n Terminator.Unreachable = refl

-- a name that isn't fetched stays an operand
pub still_named : (t : List (Option Fetch)) (v : ℕ) → fetch_of t (Operand.Local v) ≡ None → (n : ℕ) (xs : List Operand)
    → IsListed (Operand.Local v) xs → list_any (is_local v) (fetched_all t n xs) ≡ true
still_named t v none n [] l = absurd l
still_named t v none n (y ∷ xs) (inl same) =
    or_left (is_local v (operand_by n (fetch_of t y) y)) _
    (subst (λ (z : Operand). is_local v (operand_by n (fetch_of t z) z) ≡ true) same
    (ap (λ (o : Option Fetch). is_local v (operand_by n o (Operand.Local v))) none ∙ itself v))
still_named t v none n (y ∷ xs) (inr l) =
    or_right (is_local v (operand_by n (fetch_of t y) y)) _ (still_named t v none (next_after t n y) xs l)

pub named_there : (t : List (Option Fetch)) (v : ℕ) → fetch_of t (Operand.Local v) ≡ None → (n : ℕ) (i : Instr)
    → IsListed (Operand.Local v) (instr_operands i) → list_any (is_local v) (instr_operands (with_fetched t n i)) ≡ true
named_there t v none n i l = ap (list_any (is_local v)) (operands_fetched t n i)
    ∙ still_named t v none n (instr_operands i) l

-- ---- a use behind what doesn't make another value

record IsUseBehind (P : Use → Type 0) (v w block : ℕ) : Type 0 where
  place : Place
  before : List ℕ
  holds : P (use_of place block before v)
  unmade : IsListed w before → ⊥

still_unmade : (w : ℕ) (before : List ℕ) (i : Instr) → is_result w (result_of i) ≡ false → (IsListed w before → ⊥)
    → IsListed w (option_to_list (part_result i) ++ before) → ⊥
still_unmade w before i none old = on (part_result i) (ap (is_result w) (result_spelt i) ∙ none)
  where
    on : (o : Option ℕ) → is_result w o ≡ false → IsListed w (option_to_list o ++ before) → ⊥
    on None e h = old h
    on (Some u) e (inl same) =
        let t : true ≡ false = sym (itself u) ∙ ap (λ (n : ℕ). u == n) (sym same) ∙ e in absurd (cc)
    on (Some u) e (inr h) = old h

use_behind : (P : Use → Type 0) (v w func block at : ℕ) (before : List ℕ) (is : List Instr) (k : ℕ) (i : Instr)
    → Each P (instr_uses func block at before is) → slice_get is k ≡ Some i
    → list_any (is_local v) (instr_operands i) ≡ true → (IsListed w before → ⊥)
    → ((j : ℕ) (x : Instr) → j < k → slice_get is j ≡ Some x → is_result w (result_of x) ≡ false)
    → IsUseBehind P v w block
use_behind P v w func block at before [] k i h e used old none = absurd (cc)
use_behind P v w func block at before (x ∷ is) zero i h e used old none =
    let same : x ≡ i = cc in
    record {
      place = instr_place func block at;
      before = before;
      holds = use_at P v (instr_place func block at) block before (instr_operands x)
          (each_left P (uses_at (instr_place func block at) block before (instr_operands x))
          (instr_uses func block (at + 1) (option_to_list (part_result x) ++ before) is) h)
          (subst (λ (y : Instr). list_any (is_local v) (instr_operands y) ≡ true) (sym same) used);
      unmade = old;
    }
use_behind P v w func block at before (x ∷ is) (suc k) i h e used old none =
    use_behind P v w func block (at + 1) (option_to_list (part_result x) ++ before) is k i
    (each_right P (uses_at (instr_place func block at) block before (instr_operands x))
    (instr_uses func block (at + 1) (option_to_list (part_result x) ++ before) is) h) e used
    (still_unmade w before x (none 0 x (omega arith) refl) old)
    (λ j y lt d. none (suc j) y (omega (arith, lt)) d)

-- ---- the layers of a coroutine

pub cell_keeps : (x : Framing) (k : ℕ) → KeepsTest (is_call_of Intrinsic.CoroBegin) (celled_layer x k)
cell_keeps x k =
    both_keep (is_call_of Intrinsic.CoroBegin) (fetching_at (named x) (fetches_of (plan x)) k)
    (writing_at x.code (plan x) (cells_front (plan x) (edged x).params) (fetched x) k)
    (fetching_keeps Intrinsic.CoroBegin (named x) (fetches_of (plan x)) k)
    (writing_keeps Intrinsic.CoroBegin x.code (plan x) (edged x).params (fetched x) k)

module _ (x : Framing) (is : IsFraming x) where
  abbrev D : Function
  D = unmarked x

  abbrev F : Function
  F = edged x

  abbrev b0 : ℕ
  b0 = is.begin

  module _ (k : ℕ) where
    cells_are : IsBlockMade (celled_layer x k) (edged x) (written x) k
    unfolding fetched_function
    cells_are =
        rows (fetching_at (named x) (fetches_of (plan x)) k)
        (writing_at x.code (plan x) (cells_front (plan x) (edged x).params) (fetched x) k)
        (edged x) (fetched x) (written x) k
        (fetches_made (named x) (fetches_of (plan x)) (codes "$c.use.") k) (cells_made x.code (plan x) (fetched x) k)

    copies_are : IsBlockMade (copied_layer x k) (edged x) (with_copies x) k
    copies_are =
        rows (celled_layer x k)
        (copying_at (copies x) (before_labels x) (copies_front (copies x).slots)
        (first_fetched (written x) (copies x)) (written x) k)
        (edged x) (written x) (with_copies x) k cells_are (copies_made (written x) (before_labels x) (copies x) k)

    made : IsBlockMade (unmarked_layer x k) (edged x) (unmarked x) k
    made =
        rows (copied_layer x k) (unmarked_at (marked x)) (edged x) (with_copies x) (unmarked x) k copies_are
        (unmarked_made (with_copies x) (marked x) k)

    keeps : KeepsTest (is_call_of Intrinsic.CoroBegin) (unmarked_layer x k)
    keeps =
        let copied_too =
        both_keep (is_call_of Intrinsic.CoroBegin) (celled_layer x k)
        (copying_at (copies x) (before_labels x) (copies_front (copies x).slots)
        (first_fetched (written x) (copies x)) (written x) k)
        (cell_keeps x k) (copying_keeps Intrinsic.CoroBegin refl (copies x) (before_labels x)
        (first_fetched (written x) (copies x))
        (written x) k) in
        both_keep (is_call_of Intrinsic.CoroBegin) (copied_layer x k) (unmarked_at (marked x)) copied_too
        (unmarked_keeps Intrinsic.CoroBegin refl (marked x))

    results : KeepsResults (unmarked_layer x k)
    results =
        both_results (copied_layer x k) (unmarked_at (marked x))
        (both_results (celled_layer x k) (copying_at (copies x) (before_labels x) (copies_front (copies x).slots)
        (first_fetched (written x) (copies x)) (written x) k)
        (both_results (fetching_at (named x) (fetches_of (plan x)) k)
        (writing_at x.code (plan x) (cells_front (plan x) (edged x).params) (fetched x) k) loaded_result written_result)
        copied_result) (both_results (only (stays (marked x))) (each without_promise_of) only_result promise_there)
      where
        loaded_result : KeepsResults (fetching_at (named x) (fetches_of (plan x)) k)
        loaded_result s i j e =
            let same : with_fetched (fetches_of (plan x)) s i ≡ j = cc in
            ap part_result (sym same) ∙ with_result (fetches_of (plan x)) s i

        written_result : KeepsResults (writing_at x.code (plan x) (cells_front (plan x) (edged x).params) (fetched x) k)
        written_result s i j e = let same : i ≡ j = cc in ap part_result (sym same)

        by_flag : (b : Bool) (n : ℕ) (i : Instr)
            → part_result (if b then with_fetched (copies x).fetches n i else i) ≡ part_result i
        by_flag true n i = with_result (copies x).fetches n i
        by_flag false n i = refl

        copied_result : KeepsResults (copying_at (copies x) (before_labels x) (copies_front (copies x).slots)
            (first_fetched (written x) (copies x)) (written x) k)
        copied_result s i j e =
            let same : fetched_before (copies x) s.0 s.1 i ≡ j = cc in
            ap part_result (sym same) ∙ by_flag (is_fetched s.0 i) s.1 i

        only_result : KeepsResults (only (stays (marked x)))
        only_result s i j e = on (stays (marked x) i) e
          where
            on : (b : Bool) → (if b then Some i else None) ≡ Some j → part_result j ≡ part_result i
            on true h = let same : i ≡ j = cc in ap part_result (sym same)
            on false h = absurd (cc)

        promise_there : KeepsResults (each without_promise_of)
        promise_there s i j e = let same : without_promise_of i ≡ j = cc in ap part_result (sym same) ∙ promise_result i

-- ---- paths without begin

module _ (x : Framing) (is : IsFraming x) (k : ℕ) (rules : KeepsFunctionRules x.code k (unmarked x))
    (positions : (label : ℕ) → position_of (unmarked x) label ≡ position_of (edged x) label) where
  S : StandsAt (edged x) Intrinsic.CoroBegin is.begin
  S = begin_stands (edged x) is.begin (first x is)

  -- begin stands there too
  record IsBegunAt : Type 0 where
    place : Point
    instr : Instr
    there : instr_at (unmarked x) place ≡ Some instr
    gives : result_of instr ≡ Some is.begin
    calls : is_call_of Intrinsic.CoroBegin instr ≡ true

  begun : IsBegunAt
  begun = on ((unmarked_layer x S.position).here
      (state_at (unmarked_layer x S.position) S.block.instrs S.at) S.instr) refl
      ((keeps x is S.position).here (state_at (unmarked_layer x S.position) S.block.instrs S.at) S.instr)
    where
      index : ℕ
      index = own_index (is_call_of Intrinsic.CoroBegin) (unmarked_layer x S.position) (keeps x is S.position)
          S.block.instrs S.at S.instr

      on : (o : Option Instr)
          → (unmarked_layer x S.position).here (state_at (unmarked_layer x S.position) S.block.instrs S.at) S.instr ≡ o
          → PassesLike (is_call_of Intrinsic.CoroBegin) S.instr o → IsBegunAt
      on None e h = absurd (false≢true (sym h ∙ S.calls))
      on (Some j) e h =
          let m = made x is S.position S.block S.got in
          record {
            place = point S.position index;
            instr = j;
            there = ap (λ (o : Option Block). instr_in o index) m.1
                ∙ ap (λ (xs : List Instr). slice_get xs index) m.2.instrs
                ∙ own_stands (is_call_of Intrinsic.CoroBegin) (unmarked_layer x S.position) (keeps x is S.position)
                S.block.instrs S.at S.instr j S.there e;
            gives = sym (result_spelt j)
                ∙ results x is S.position (state_at (unmarked_layer x S.position) S.block.instrs S.at) S.instr j e
                ∙ begin_result S.instr S.calls ∙ S.makes;
            calls = h ∙ S.calls;
          }

  result_there : (v : ℕ) (o : Option ℕ) → is_result v o ≡ true → o ≡ Some v
  result_there v None e = absurd (cc)
  result_there v (Some n) e = ap Some (eqb-true n v e)

  -- no other instruction gives begin's name
  not_made : (p : Point) (j : Instr) → instr_at (unmarked x) p ≡ Some j → is_call_of Intrinsic.CoroBegin j ≡ false
      → is_result is.begin (result_of j) ≡ false
  not_made p j there none = on (is_result is.begin (result_of j)) refl
    where
      on : (b : Bool) → is_result is.begin (result_of j) ≡ b → b ≡ false
      on false e = refl
      on true e =
          let gives = result_there is.begin (result_of j) e in
          let same : p ≡ begun.place = same_result k (unmarked x) rules.definitions p begun.place j begun.instr is.begin
          there begun.there gives begun.gives in
          let both : Some j ≡ Some begun.instr = sym there ∙ ap (instr_at (unmarked x)) same ∙ begun.there in
          let one : j ≡ begun.instr = cc in
          absurd (false≢true (sym none ∙ ap (is_call_of Intrinsic.CoroBegin) one ∙ begun.calls))

  abbrev Reached : ℕ → ℕ → Type 0
  Reached block at = Comes x.code k (unmarked x) rules is.begin block at

  no_phi : (block : ℕ) → phis_give is.begin (phis_of (slice_get (unmarked x).blocks block)) ≡ false
  no_phi block = no_phi_gives x.code k (unmarked x) rules begun.place begun.instr is.begin begun.there begun.gives block

  entered : Reached 0 0
  entered = record {
    reaches = Entry;
    no_param = gives_no_param x.code k (unmarked x) rules begun.place begun.instr is.begin begun.there begun.gives;
    no_phi = no_phi 0;
    unmade = λ j lt. absurd (omega (arith, lt));
  }

  -- over instructions of a block that are no begin
  over_many : (block : ℕ) (c : Block) → slice_get (unmarked x).blocks block ≡ Some c → Reached block 0 → (n : ℕ)
      → n ≤ length c.instrs
      → ((y : Instr) (j : ℕ) → j < n → slice_get c.instrs j ≡ Some y → is_call_of Intrinsic.CoroBegin y ≡ false)
      → Reached block n
  over_many block c got w zero le h = w
  over_many block c got w (suc n) le h =
      let y = there_at c.instrs n (omega (arith, le)) in
      let there : instr_at (unmarked x) (point block n) ≡ Some y.0 = ap (λ (o : Option Block). instr_in o n) got
      ∙ y.1 in
      let next : n + 1 ≡ suc n = omega arith in
      subst (Reached block) next
      (over_unmade x.code k (unmarked x) rules is.begin block n y.0 (fetch_at (unmarked x) (point block n) y.0 there)
      (not_made (point block n) y.0 there (h y.0 n (omega arith) y.1))
      (over_many block c got w n (omega (arith, le)) (λ z j lt e. h z j (omega (arith, lt)) e)))

  record IsStage (block at : ℕ) : Type 0 where
    comes : Reached block 0
    ahead : (n : ℕ) (i : Instr) → n < at → fetch (edged x) block n ≡ AtInstr i
        → is_call_of Intrinsic.CoroBegin i ≡ false

  stage : {block at : ℕ} → IsBefore (edged x) block at → IsStage block at
  stage first_point = record { comes = entered; ahead = λ n i lt e. absurd (omega (arith, lt)) }
  stage (after {block} {at} i there nb w) =
      let z = stage w in
      record { comes = z.comes; ahead = λ n j lt e. on n j lt e (n == at) refl z }
    where
      on : (n : ℕ) (j : Instr) → n < at + 1 → fetch (edged x) block n ≡ AtInstr j → (b : Bool) → (n == at) ≡ b
          → IsStage block at → is_call_of Intrinsic.CoroBegin j ≡ false
      on n j lt e true d z =
          let same : n ≡ at = eqb-true n at d in
          let both : AtInstr i ≡ AtInstr j = sym there ∙ ap (fetch (edged x) block) (sym same) ∙ e in
          let one : i ≡ j = cc in
          ap (is_call_of Intrinsic.CoroBegin) (sym one) ∙ begins_not i nb
      on n j lt e false d z =
          let other : n ≡ at → ⊥ = λ same. false≢true (sym d ∙ ap (λ (m : ℕ). n == m) (sym same) ∙ itself n) in
          z.ahead n j (omega (arith, lt, other)) e
  stage (along {block} {at} label br w) =
      let z = stage w in
      let y = branch_there (edged x) block at label br in
      let own = y.1.0 in
      let m = made x is block own.own own.got in
      let all : AllFail (is_call_of Intrinsic.CoroBegin) m.0.instrs =
      subst (AllFail (is_call_of Intrinsic.CoroBegin)) (sym m.2.instrs)
      (all_fail (is_call_of Intrinsic.CoroBegin) (unmarked_layer x block) (keeps x is block) own.own.instrs
      (each_fails (is_call_of Intrinsic.CoroBegin) own.own.instrs (λ i j e.
      let low : j < length own.own.instrs = get_within own.own.instrs j i e in
      let last : at ≡ length own.own.instrs = own.last in
      z.ahead j i (omega (arith, low, last)) (fetch_at (edged x) (point block j) i
      (ap (λ (o : Option Block). instr_in o j) own.got ∙ e))))) in
      let whole : Reached block (length m.0.instrs) = over_many block m.0 m.1 z.comes (length m.0.instrs) (omega arith)
      (λ i j lt e. one_fails (is_call_of Intrinsic.CoroBegin) m.0.instrs all i j e) in
      let leads : has_name (targets m.0.term) label ≡ true =
      ap (λ (ls : List ℕ). has_name ls label) (ap targets m.2.term ∙ same_targets (fetches_of (plan x)) _ own.own.term
      ∙ ap targets own.is) ∙ y.1.1 in
      let there : BranchesTo label (fetch (unmarked x) block (length m.0.instrs)) =
      subst (BranchesTo label) (sym (end_stands (unmarked x) block m.0 m.1 m.0.instrs refl)) leads in
      record {
        comes = subst (λ (n : ℕ). Reached n 0) (positions label)
            (across x.code k (unmarked x) rules is.begin block (length m.0.instrs) label there
            (no_phi (position_of (unmarked x) label)) whole);
        ahead = λ n i lt e. absurd (omega (arith, lt));
      }

  -- a path without begin's value leads to a point before begin
  pub reached_there : {block at : ℕ} → IsBefore (edged x) block at → ReachesWithout (unmarked x) is.begin block
  reached_there w = (stage w).comes.reaches

  phis_unmade : (c : Block) (block : ℕ) → slice_get (unmarked x).blocks block ≡ Some c
      → IsListed is.begin (phi_values c)
      → ⊥
  phis_unmade c block got h = on (made_phi is.begin c.phis [] h)
    where
      on : IsListed is.begin [] ⊎ (phis_give is.begin c.phis ≡ true) → ⊥
      on (inl l) = l
      on (inr g) = false≢true (sym (no_phi block)
          ∙ ap (λ (o : Option Block). phis_give is.begin (phis_of o)) got ∙ g)

  -- no slot in the frame is used before begin
  pub unused : Each (HasBegin (unmarked x) is.begin (offsets x)) (uses_of k (unmarked x)) → (block at : ℕ) (b : Block)
      (i j : Instr) → slice_get (edged x).blocks block ≡ Some b → slice_get b.instrs at ≡ Some i
      → (unmarked_layer x block).here (state_at (unmarked_layer x block) b.instrs at) i ≡ Some j → (v : ℕ)
      → list_any (is_local v) (instr_operands j) ≡ true → lies_in_frame (offsets x) v ≡ true
      → IsBefore (edged x) block at → ⊥
  unused uses block at b i j got stands here v named lies w =
      let z = stage w in
      let m = made x is block b got in
      let index : ℕ = own_index (is_call_of Intrinsic.CoroBegin) (unmarked_layer x block)
      (keeps x is block) b.instrs at i
      in
      let there : slice_get m.0.instrs index ≡ Some j = ap (λ (xs : List Instr). slice_get xs index) m.2.instrs
      ∙ own_stands (is_call_of Intrinsic.CoroBegin) (unmarked_layer x block) (keeps x is block) b.instrs at i j stands
      here in
      let low : index < length m.0.instrs = get_within m.0.instrs index j there in
      let fails : (y : Instr) (n : ℕ) → n < index → slice_get m.0.instrs n ≡ Some y
      → is_call_of Intrinsic.CoroBegin y ≡ false =
      λ y n lt e. none_before (is_call_of Intrinsic.CoroBegin) (unmarked_layer x block) (keeps x is block) b.instrs at i
      stands (λ o d less q. z.ahead d o less (fetch_at (edged x) (point block d) o
      (ap (λ (p : Option Block). instr_in p d) got ∙ q))) n y lt
      (ap (λ (xs : List Instr). slice_get xs n) (sym m.2.instrs) ∙ e) in
      let comes : Reached block index = over_many block m.0 m.1 z.comes index (omega (arith, low)) fails in
      let u = use_behind (HasBegin (unmarked x) is.begin (offsets x)) v is.begin k block (length m.0.phis)
      (phi_values m.0) m.0.instrs index j
      (three_kinds (HasBegin (unmarked x) is.begin (offsets x)) (unmarked x) k block m.0
      (of_block (HasBegin (unmarked x) is.begin (offsets x)) (unmarked x) k block m.0 uses m.1)).instrs there named
      (phis_unmade m.0 block m.1)
      (λ n y lt e. not_made (point block n) y (ap (λ (o : Option Block). instr_in o n) m.1 ∙ e) (fails y n lt e)) in
      u.holds lies (record {
        reaches = comes.reaches;
        not_before = u.unmade;
        no_param = λ h. false≢true (sym comes.no_param ∙ any_param is.begin (unmarked x).params h);
      })
