-- The markers that a framed form has are of slots of its ramp.
use Rattle.std.proofs.Common.{◌≡◌, ◌<◌, ◌≤◌, ◌∙◌, ◌∷◌, ◌++◌, [], Bool, List, None, Option, Some, ap, arith, false, inl, inr, length, refl, replicate, subst, suc, sym, true, ℕ}
use Rattle.std.specs.List.{list_any}
use Rattle.std.specs.Prelude.{codes, filter, if◌then◌else◌, map, slice_get, ◌==◌, ◌||◌}
use Rattle.pass_frames_steps.specs.ir_base.declared.outcome.Place.{Place}
use Rattle.pass_frames_steps.proofs.ir_laws.facts.Members.{at_each, each_joined}
use Rattle.pass_frames_steps.proofs.ir_laws.facts.Truth.{equal_numbers, holds}
use Rattle.pass_frames_steps.specs.ir_model.Names.{is_local}
use Rattle.pass_frames_steps.specs.ir_model.declared.instr.Instr.{Instr}
use Rattle.pass_frames_steps.specs.ir_model.declared.module.Block.{Block}
use Rattle.pass_frames_steps.specs.ir_model.declared.module.Function.{Function}
use Rattle.pass_frames_steps.specs.ir_model.declared.module.Module.{Module}
use Rattle.pass_frames_steps.specs.ir_model.declared.operand.Arg.{Arg}
use Rattle.pass_frames_steps.specs.ir_model.declared.operand.Callee.{Callee}
use Rattle.pass_frames_steps.specs.ir_model.declared.operand.Intrinsic.{Intrinsic}
use Rattle.pass_frames_steps.specs.ir_model.declared.operand.Operand.{Operand}
use Rattle.pass_frames_steps.specs.ir_parts.Contents.{instr_operands}
use Rattle.pass_frames_steps.specs.ir_paths.Windows.{is_call_of}
use Rattle.pass_frames_steps.specs.pass_addresses.Placing.{is_flagged, lies_outside, marks_flagged, slot_fetches, stays, turned_block, without_promise_of}
use Rattle.pass_frames_steps.specs.pass_copies.Uses.{flag_at}
use Rattle.pass_frames_steps.specs.pass_fetch.Blocks.{end_at, ends_of_blocks, fetched_blocks, next_after_block, next_after_phis, next_after_phis_by, with_fetches}
use Rattle.pass_frames_steps.specs.pass_fetch.Fetching.{fetch_into, fetch_of, fetched_args, fetched_operand, fetches_of_all, next_after, operand_by}
use Rattle.pass_frames_steps.specs.pass_fetch.Instrs.{fetched_instrs, next_after_instr, next_after_instrs, term_operands, with_fetched}
use Rattle.pass_frames_steps.specs.pass_fetch.declared.fetch.Fetch.{Fetch}
use Rattle.pass_frames_steps.specs.pass_frames.Framed.{begin_of}
use Rattle.pass_frames_steps.proofs.code.Framed.{framed_is}
use Rattle.pass_frames_steps.proofs.code.Passes.{addressed}
use Rattle.pass_frames_proof.proofs.entered.Front.{cell_listed}
use Rattle.pass_frames_proof.proofs.ramps.Classes.{ramp_low, ramp_unfetched}
use Rattle.pass_frames_steps.proofs.stepping.Names.{cell_is_name, where_is_name}
use Rattle.pass_frames_steps.specs.Entered.{IsEntryName}
use Rattle.pass_frames_steps.specs.Framings.{IsFraming}
use Rattle.pass_frames_steps.specs.Places.{Framing, copies, edged, framed, marked, offsets, unmarked, with_copies}
use Rattle.pass_frames_steps.specs.Related.{IsCellName}
use Rattle.pass_frames_steps.specs.pass_front.Front.{is_alloca, is_no_alloca, with_allocas_first}
use Rattle.pass_frames_steps.proofs.pass_proofs.cells.crossing.Calls.{AreQuiet, fetches_quiet, same_call}
use Rattle.pass_frames_steps.proofs.pass_proofs.fetch.shape.Fetching.{ends_each, no_rows}
use Rattle.pass_frames_steps.proofs.rule_laws.rules.counted.PartFacts.{block_passes}
use Rattle.pass_frames_steps.specs.rule_laws.rules.function_rules.Kept.{KeepsFunctionRules}
use Rattle.pass_frames_steps.specs.rule_locals.Instrs.{on_instr}
use Rattle.pass_frames_steps.specs.rule_locals.Markers.{marks, marks_otherwise, marks_size, marks_slot, slot_size}
use Rattle.pass_frames_steps.specs.run_laws.changed.Changed.{Each}
use Rattle.pass_frames_steps.specs.run_step.Step.{has_markers, is_marker_of}

-- ---- what calls no marker stays

quiet_stays : (flags : List Bool) (j : Instr) → is_call_of Intrinsic.LifetimeStart j ≡ false
    → is_call_of Intrinsic.LifetimeEnd j ≡ false → stays flags j ≡ true
quiet_stays flags (Instr.Call r must_tail ty (Callee.Intrinsic Intrinsic.LifetimeStart) args) a b = absurd (cc)
quiet_stays flags (Instr.Call r must_tail ty (Callee.Intrinsic Intrinsic.LifetimeEnd) args) a b = absurd (cc)
quiet_stays flags _ a b = refl

promise_stays : (flags : List Bool) (j : Instr) → stays flags (without_promise_of j) ≡ stays flags j
promise_stays flags (Instr.Call r must_tail ty (Callee.Intrinsic Intrinsic.CoroId) args) = refl
promise_stays flags _ = refl

module _ (flags : List Bool) where
  abbrev Stays : Instr → Type 0
  Stays j = stays flags j ≡ true

  abbrev AllStay : List Block → Type 0
  AllStay bs = Each (λ (b : Block). Each Stays b.instrs) bs

  are_quiet : (js : List Instr) → AreQuiet js → Each Stays js
  are_quiet [] h = tt
  are_quiet (j ∷ js) h =
      (quiet_stays flags j (h.0 Intrinsic.LifetimeStart) (h.0 Intrinsic.LifetimeEnd), are_quiet js h.1)

  -- ---- what is filtered

  filtered : (js : List Instr) → Each Stays (filter (stays flags) js)
  filtered [] = tt
  filtered (j ∷ js) = on (stays flags j) refl (filtered js)
    where
      on : (b : Bool) → stays flags j ≡ b → Each Stays (filter (stays flags) js)
          → Each Stays (if b then j ∷ filter (stays flags) js else filter (stays flags) js)
      on true e rest = (e, rest)
      on false e rest = rest

  some_stay : (u : Instr → Bool) (js : List Instr) → Each Stays js → Each Stays (filter u js)
  some_stay u [] h = tt
  some_stay u (j ∷ js) h = on (u j) (some_stay u js h.1)
    where
      on : (b : Bool) → Each Stays (filter u js) → Each Stays (if b then j ∷ filter u js else filter u js)
      on true rest = (h.0, rest)
      on false rest = rest

  promised : (js : List Instr) → Each Stays js → Each Stays (map without_promise_of js)
  promised [] h = tt
  promised (j ∷ js) h = (promise_stays flags j ∙ h.0, promised js h.1)

  unmarked_stay : (bs : List Block)
      → AllStay (map (turned_block (map without_promise_of)) (map (turned_block (filter (stays flags))) bs))
  unmarked_stay [] = tt
  unmarked_stay (b ∷ bs) =
      (promised (filter (stays flags) b.instrs) (filtered b.instrs), unmarked_stay bs)

  outside_stay : (u : Instr → Bool) (bs : List Block) → AllStay bs → AllStay (map (turned_block (filter u)) bs)
  outside_stay u [] h = tt
  outside_stay u (b ∷ bs) h = (some_stay u b.instrs h.0, outside_stay u bs h.1)

  front_stay : (bs : List Block) → AllStay bs → AllStay (with_allocas_first bs)
  front_stay [] h = tt
  front_stay (b ∷ bs) h = (
    each_joined Stays (filter is_alloca b.instrs) (filter is_no_alloca b.instrs) (some_stay is_alloca b.instrs h.0)
        (some_stay is_no_alloca b.instrs h.0),
    h.1,
  )

  -- ---- operands are fetched anew, but those that are flagged

  module _ (t : List (Option Fetch)) (plain : (v : ℕ) → flag_at flags v ≡ true → fetch_of t (Operand.Local v) ≡ None)
    where
      operand_stays : (n : ℕ) (o : Operand) → is_flagged flags o ≡ true → is_flagged flags (fetched_operand t n o) ≡ true
      operand_stays n (Operand.Local v) e =
          ap (λ (f : Option Fetch). is_flagged flags (operand_by n f (Operand.Local v))) (plain v e) ∙ e
      operand_stays n _ e = absurd (cc)

      args_stay : (n : ℕ) (args : List Arg) → marks_flagged flags args ≡ true
          → marks_flagged flags (fetched_args t n args) ≡ true
      args_stay n [] e = absurd (cc)
      args_stay n (a ∷ []) e = absurd (cc)
      args_stay n (a ∷ b ∷ args) e = operand_stays (next_after t n a.value) b.value e

      start_stays : (n : ℕ) (i : Instr) → is_call_of Intrinsic.LifetimeStart i ≡ true → Stays i
          → Stays (with_fetched t n i)
      start_stays n (Instr.Call r must_tail ty (Callee.Intrinsic Intrinsic.LifetimeStart) args) e h = args_stay n args h
      start_stays n _ e h = absurd (cc)

      end_stays : (n : ℕ) (i : Instr) → is_call_of Intrinsic.LifetimeEnd i ≡ true → Stays i → Stays (with_fetched t n i)
      end_stays n (Instr.Call r must_tail ty (Callee.Intrinsic Intrinsic.LifetimeEnd) args) e h = args_stay n args h
      end_stays n _ e h = absurd (cc)

      with_stays : (n : ℕ) (i : Instr) → Stays i → Stays (with_fetched t n i)
      with_stays n i h = on (is_call_of Intrinsic.LifetimeStart i) (is_call_of Intrinsic.LifetimeEnd i) refl refl
        where
          on : (a b : Bool) → is_call_of Intrinsic.LifetimeStart i ≡ a → is_call_of Intrinsic.LifetimeEnd i ≡ b
              → Stays (with_fetched t n i)
          on true b e d = start_stays n i e h
          on false true e d = end_stays n i d h
          on false false e d =
              quiet_stays flags (with_fetched t n i) (same_call t n Intrinsic.LifetimeStart i ∙ e)
              (same_call t n Intrinsic.LifetimeEnd i ∙ d)

      fetches_stay : (n : ℕ) (os : List Operand) → Each Stays (fetches_of_all t n os)
      fetches_stay n os = are_quiet (fetches_of_all t n os) (fetches_quiet t n os)

      instrs_stay : (n : ℕ) (js : List Instr) → Each Stays js → Each Stays (fetched_instrs t n js)
      instrs_stay n [] h = tt
      instrs_stay n (j ∷ js) h =
          each_joined Stays (fetches_of_all t n (instr_operands j) ++ with_fetched t n j ∷ [])
          (fetched_instrs t (next_after_instr t n j) js)
          (each_joined Stays (fetches_of_all t n (instr_operands j)) (with_fetched t n j ∷ [])
          (fetches_stay n (instr_operands j)) (with_stays n j h.0, tt))
          (instrs_stay (next_after_instr t n j) js h.1)

      one_fetch : (n : ℕ) (y : Fetch) → Stays (fetch_into n y)
      one_fetch n (Fetch.Load ty cell) = refl
      one_fetch n (Fetch.Address base distance) = refl

      blocks_stay : (ends : List (List Instr)) → ((l : ℕ) → Each Stays (end_at ends l)) → (p n : ℕ) (bs : List Block)
          → AllStay bs → AllStay (fetched_blocks t ends p n bs)
      blocks_stay ends low p n [] h = tt
      blocks_stay ends low p n (b ∷ bs) h = (
        each_joined Stays (fetched_instrs t n b.instrs ++ end_at ends b.label)
            (fetches_of_all t (next_after_instrs t n b.instrs) (term_operands b.term))
            (each_joined Stays (fetched_instrs t n b.instrs) (end_at ends b.label) (instrs_stay n b.instrs h.0)
            (low b.label))
            (fetches_stay (next_after_instrs t n b.instrs) (term_operands b.term)),
        blocks_stay ends low (next_after_phis t p b.phis) (next_after_block t n b) bs h.1,
      )

      fetched_stay : (f : Function) (word : List ℕ) → AllStay f.blocks → AllStay (with_fetches f t word).blocks
      fetched_stay f word h =
          blocks_stay (ends_of_blocks t (length f.names) (replicate (length f.names) []) f.blocks)
          (ends_each t Stays (λ n o y e. one_fetch n y) (length f.names) (replicate (length f.names) []) f.blocks
          (no_rows t Stays (length f.names)))
          (length f.names) (next_after_phis_by t (length f.names) f.blocks) f.blocks h

-- ---- the framed form

module _ (x : Framing) (is : IsFraming x) where
  abbrev T : List (Option Fetch)
  T = slot_fetches (begin_of x.function) (offsets x)

  all_stay : AllStay (marked x) (framed x).blocks
  all_stay =
      subst (λ (f : Function). AllStay (marked x) f.blocks) (sym (framed_is x))
      (front_stay (marked x) (addressed (unmarked x) (begin_of x.function) (offsets x)).blocks
      (outside_stay (marked x) (lies_outside (offsets x)) (with_fetches (unmarked x) T (codes "$c.at.")).blocks
      (fetched_stay (marked x) T (ramp_unfetched x is) (unmarked x) (codes "$c.at.")
      (unmarked_stay (marked x) (with_copies x).blocks))))

-- ---- no marker of another name

none_any : {A : Type 0} (test : A → Bool) (xs : List A)
    → ((k : ℕ) (x : A) → slice_get xs k ≡ Some x → test x ≡ false) → list_any test xs ≡ false
none_any test [] h = refl
none_any test (x ∷ xs) h =
    ap (λ (b : Bool). b || list_any test xs) (h 0 x refl) ∙ none_any test xs (λ k y e. h (suc k) y e)

module _ (flags : List Bool) (sizes : ℕ → Option ℕ) (name : ℕ) (free : flag_at flags name ≡ false) where
  -- the operands of a marker
  args_other : (args : List Arg) → marks sizes args ≡ true → marks_flagged flags args ≡ true
      → list_any (λ (a : Arg). is_local name a.value) args ≡ false
  args_other [] e h = absurd (cc)
  args_other (a ∷ []) e h = absurd (cc)
  args_other (a ∷ b ∷ []) e h = on a.value b.value e h
    where
      own : (v : ℕ) (q : Bool) → (name == v) ≡ q → flag_at flags v ≡ true → (q || false) ≡ false
      own v false d k = refl
      own v true d k =
          let same : name ≡ v = equal_numbers name v d in
          let yes : true ≡ false = sym k ∙ ap (flag_at flags) (sym same) ∙ free in
          absurd (cc)

      on : (c d : Operand) → marks_slot sizes c d ≡ true → is_flagged flags d ≡ true
          → (is_local name c || (is_local name d || false)) ≡ false
      on (Operand.Local u) (Operand.Local v) k l = size (sizes v) k
        where
          size : (o : Option ℕ) → marks_size (Operand.Local u) o ≡ true
              → ((name == u) || ((name == v) || false)) ≡ false
          size None z = absurd (cc)
          size (Some s) z = absurd (cc)
      on _ (Operand.Local v) k l = own v (name == v) refl l
      on _ _ k l = absurd (cc)
  args_other (a ∷ b ∷ c ∷ args) e h = absurd (cc)

  one_other : (p : Place) (i : Instr) → marks_otherwise sizes p i ≡ false → stays flags i ≡ true
      → is_marker_of name i ≡ false
  one_other p (Instr.Call r must_tail ty (Callee.Intrinsic Intrinsic.LifetimeStart) args) e h =
      args_other args (holds (marks sizes args) e) h
  one_other p (Instr.Call r must_tail ty (Callee.Intrinsic Intrinsic.LifetimeEnd) args) e h =
      args_other args (holds (marks sizes args) e) h
  one_other p _ e h = refl

module _ (m : Module) (k : ℕ) (x : Framing) (is : IsFraming x) (rules : KeepsFunctionRules m k (framed x)) where
  abbrev sizes_there : ℕ → Option ℕ
  sizes_there = slot_size m (framed x)

  pub none_marked : (name : ℕ) → flag_at (marked x) name ≡ false → has_markers (framed x) name ≡ false
  none_marked name free =
      none_any (λ (b : Block). list_any (is_marker_of name) b.instrs) (framed x).blocks
      (λ j b there.
      let passes = (block_passes (on_instr (marks_otherwise sizes_there)) k (framed x) rules.local.marks j b
      there).instrs in
      let stay = at_each (λ (c : Block). Each (Stays (marked x)) c.instrs) (framed x).blocks j b (all_stay x is) there in
      none_any (is_marker_of name) b.instrs
      (λ at i e.
      let y = at_each _ b.instrs at i passes e in
      one_other (marked x) sizes_there name free y.0 i y.2 (at_each (Stays (marked x)) b.instrs at i stay e)))

  pub new_unmarked : (name : ℕ) → length (edged x).names ≤ name → has_markers (framed x) name ≡ false
  new_unmarked name new = none_marked name (on (flag_at (marked x) name) refl)
    where
      on : (b : Bool) → flag_at (marked x) name ≡ b → flag_at (marked x) name ≡ false
      on false e = e
      on true e = let low : name < length (edged x).names = ramp_low x is name e in absurd (omega (arith, low, new))

-- names of cells are new
pub entry_name : (x : Framing) (v : ℕ) → IsEntryName x v → IsCellName x v
entry_name x v (inl of) = cell_is_name x v of
entry_name x v (inr l) =
    let e = cell_listed (copies x).slots v l in
    subst (IsCellName x) (sym e.2) (where_is_name x e.0 e.1)
