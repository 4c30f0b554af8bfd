-- What an access names where a path leads to it without begin: a store stores no slot in the frame (K9), and a slot there
-- that it accesses is used before begin.
use Rattle.std.proofs.Common.{◌≡◌, ◌⊎◌, ⊎_elim, inl, inr, ℕ, zero, suc, ◌+◌, ◌<◌, ◌≤◌, Bool, true, false, List, []}
use Rattle.std.proofs.Common.{◌∷◌, ◌++◌, length, Option, Some, None, refl, sym, ap, ◌∙◌, subst, arith}
use Rattle.std.proofs.lemmas.Bool.{eqb-true, false≢true}
use Rattle.std.specs.Prelude.{option_to_list, slice_get, ◌==◌}
use Rattle.compiler_theorem.proofs.kinds.Held.{early_lies}
use Rattle.compiler.specs.flow_solver.Paths.{IsListed}
use Rattle.compiler.specs.frame_classes.declared.class.SlotClass.{SlotClass}
use Rattle.compiler.proofs.ir_laws.facts.Truth.{itself}
use Rattle.compiler.specs.ir_laws.facts.renamed.Regular.{is_result, passes}
use Rattle.compiler.proofs.ir_laws.paths.begin_order.Framed.{get_listed}
use Rattle.compiler.proofs.ir_laws.paths.renamed.Uses.{stands_in}
use Rattle.compiler.specs.ir_laws.paths.renamed.Regular.{makes}
use Rattle.compiler.proofs.ir_laws.paths.woven_rules.Unbroken.{of_listed}
use Rattle.compiler.specs.ir_model.Names.{position_of}
use Rattle.compiler.specs.ir_model.declared.instr.Instr.{Instr}
use Rattle.compiler.specs.ir_model.declared.module.Block.{Block}
use Rattle.compiler.specs.ir_model.declared.module.Function.{Function}
use Rattle.compiler.specs.ir_model.declared.operand.Arg.{Arg}
use Rattle.compiler.specs.ir_model.declared.operand.Callee.{Callee}
use Rattle.compiler.specs.ir_model.declared.operand.Intrinsic.{Intrinsic}
use Rattle.compiler.specs.ir_model.declared.operand.Operand.{Operand}
use Rattle.compiler.specs.ir_parts.Contents.{result_of as part_result}
use Rattle.compiler.specs.ir_paths.Windows.{instr_at, instr_in}
use Rattle.compiler.specs.pass_cells.Kept.{entry}
use Rattle.compiler.specs.pass_copies.declared.slot.EarlySlot.{EarlySlot}
use Rattle.compiler.specs.pass_fetch.Fetching.{fetch_of}
use Rattle.compiler.specs.pass_fetch.declared.fetch.Fetch.{Fetch}
use Rattle.compiler.specs.pass_frames.Framed.{is_begin}
use Rattle.compiler.specs.pass_frames.Tables.{class_flags}
use Rattle.pass_frames_meaning.proofs.begun.Begun.{first}
use Rattle.pass_frames_meaning.proofs.placed.Placed.{held_once}
use Rattle.pass_frames_meaning.specs.Blank.{IsUnusedEarly}
use Rattle.pass_frames_meaning.specs.Led.{IsBegin}
use Rattle.pass_frames_meaning.specs.Unbegun.{IsBefore, after, along, first as first_point}
use Rattle.pass_frames_meaning.proofs.pass_frames_proof.early.Placed.{all_early, frame_class, slot_low}
use Rattle.pass_frames_meaning.proofs.pass_frames_proof.from_edges.Front.{listed_contains}
use Rattle.pass_frames_meaning.proofs.pass_frames_proof.lines.Cells.{contained}
use Rattle.pass_frames_meaning.proofs.pass_frames_proof.stepping.Names.{edged_named, named_written}
use Rattle.pass_frames_meaning.specs.pass_frames_proof.Framings.{IsFraming}
use Rattle.pass_frames_meaning.specs.pass_frames_proof.FromEdges.{IsEarlyInFrame}
use Rattle.pass_frames_meaning.specs.pass_frames_proof.Located.{StoresNone, where_table}
use Rattle.pass_frames_meaning.specs.pass_frames_proof.Places.{Framing, copies, edged, named, offsets, with_copies, written}
use Rattle.compiler.specs.pass_kept_proof.Needed.{phis_give}
use Rattle.compiler.proofs.pass_proofs.copies.begin_order.Early.{slot_fetched}
use Rattle.compiler.proofs.pass_proofs.copies.rules.Slots.{cell_found}
use Rattle.compiler.proofs.pass_proofs.frames.begin_order.Alone.{begins_alone}
use Rattle.compiler.proofs.pass_proofs.frames.begin_order.Edged.{edges_behind}
use Rattle.compiler.proofs.pass_proofs.frames.begin_order.Framed.{in_either}
use Rattle.compiler.proofs.pass_proofs.kept.sources.Definite.{Comes, across, over_unmade}
use Rattle.compiler.specs.pass_proofs.addresses.begin_order.Behind.{IsBehind}
use Rattle.compiler.specs.pass_proofs.addresses.rules.Addresses.{lies_in_frame}
use Rattle.compiler.specs.pass_proofs.frames.begin_order.Behind.{AreBehind, AreBlocksBehind}
use Rattle.compiler.specs.pass_proofs.frames.begin_order.Fields.{IsField, values_kept}
use Rattle.compiler.specs.pass_proofs.frames.begin_order.Frames.{slot_offsets}
use Rattle.compiler.proofs.pass_kept_proof.Read.{made_phi}
use Rattle.compiler.proofs.rule_laws.rules.renamed.Uses.{result_spelt}
use Rattle.compiler.proofs.rule_laws.rules.shape.Begin.{begin_result}
use Rattle.compiler.proofs.rule_laws.rules.shape.Stands.{StandsAt, begin_stands}
use Rattle.compiler.proofs.rule_laws.rules.sources.Places.{any_param, instr_there, point}
use Rattle.compiler.specs.rule_laws.rules.begin_order.Behind.{other_operands}
use Rattle.compiler.specs.rule_laws.rules.function_rules.Kept.{KeepsFunctionRules}
use Rattle.compiler.specs.rule_uses.Undefined.{Entry}
use Rattle.compiler.specs.rule_uses.Uses.{phi_values}
use Rattle.run_accepted.proofs.Once.{gives_no_param, no_phi_gives}
use Rattle.compiler.specs.run_laws.changed.Changed.{Each, result_of}
use Rattle.compiler.specs.run_step.Step.{AtInstr, fetch, phis_of}

told_entry : (t : List (Option ℕ)) (v d : ℕ) → slice_get t v ≡ Some (Some d) → entry t v ≡ Some d
told_entry [] v d e = absurd (cc)
told_entry (o ∷ t) zero d e = let same : o ≡ Some d = cc in same
told_entry (o ∷ t) (suc v) d e = told_entry t v d e

is_one : (i : Instr) → is_begin i ≡ true → IsBegin i
is_one (Instr.Call result must_tail ty (Callee.Intrinsic Intrinsic.CoroBegin) args) e = tt
is_one _ e = absurd (cc)

result_there : (v : ℕ) (o : Option ℕ) → is_result v o ≡ true → o ≡ Some v
result_there v None e = absurd (cc)
result_there v (Some n) e = ap Some (eqb-true n v e)

still_unmade : (w : ℕ) (before : List ℕ) (i : Instr) → is_result w (result_of i) ≡ false → (IsListed w before → ⊥)
    → IsListed w (option_to_list (part_result i) ++ before) → ⊥
still_unmade w before i none old = on (part_result i) (ap (is_result w) (result_spelt i) ∙ none)
  where
    on : (o : Option ℕ) → is_result w o ≡ false → IsListed w (option_to_list o ++ before) → ⊥
    on None e h = old h
    on (Some u) e (inl same) =
        let t : true ≡ false = sym (itself u) ∙ ap (λ (n : ℕ). u == n) (sym same) ∙ e in absurd (cc)
    on (Some u) e (inr h) = old h

phis_none : (f : Function) (v block : ℕ) (b : Block) → slice_get f.blocks block ≡ Some b
    → phis_give v (phis_of (slice_get f.blocks block)) ≡ false → IsListed v (phi_values b) → ⊥
phis_none f v block b got none h = on (made_phi v b.phis [] h)
  where
    on : IsListed v [] ⊎ (phis_give v b.phis ≡ true) → ⊥
    on (inl l) = l
    on (inr g) = false≢true (sym none ∙ ap (λ (o : Option Block). phis_give v (phis_of o)) got ∙ g)

made_none : (f : Function) (v block m : ℕ) (b : Block) (z : Instr) → slice_get f.blocks block ≡ Some b
    → slice_get b.instrs m ≡ Some z → makes f v (point block m) ≡ false → is_result v (result_of z) ≡ false
made_none f v block m b z got e none =
    sym (ap (λ (o : Option Block). passes (λ (i : Instr). is_result v (result_of i)) (instr_in o m)) got
    ∙ ap (passes (λ (i : Instr). is_result v (result_of i))) e) ∙ none

-- ---- operands that aren't accessed, behind what doesn't make begin's value

module _ (f : Function) (begin : ℕ) (slots : List Bool) (table : List (Option ℕ)) (block : ℕ) where
  record IsUnmadeHere (i : Instr) : Type 0 where
    before : List ℕ
    unmade : IsListed begin before → ⊥
    others : Each (IsBehind f begin table block before) (other_operands i)

  others_here : (before : List ℕ) (is : List Instr) → AreBehind f begin slots table block before is → (n : ℕ)
      (i : Instr) → slice_get is n ≡ Some i → (IsListed begin before → ⊥)
      → ((m : ℕ) (y : Instr) → m < n → slice_get is m ≡ Some y → is_result begin (result_of y) ≡ false)
      → IsUnmadeHere i
  others_here before [] h n i e old none = absurd (cc)
  others_here before (y ∷ is) h zero i e old none =
      let same : y ≡ i = cc in
      record {
        before = before;
        unmade = old;
        others = subst (λ (z : Instr). Each (IsBehind f begin table block before) (other_operands z)) same h.0;
      }
  others_here before (y ∷ is) h (suc n) i e old none =
      others_here (option_to_list (part_result y) ++ before) is h.1.1 n i e
      (still_unmade begin before y (none 0 y (omega arith) refl) old)
      (λ m z lt d. none (suc m) z (omega (arith, lt)) d)

-- ---- a coroutine

module _ (x : Framing) (is : IsFraming x) where
  abbrev F : Function
  F = edged x

  abbrev Old : List (Option ℕ)
  Old = slot_offsets x.layout x.contents (length (with_copies x).names)

  abbrev slots : List Bool
  slots = class_flags x.function x.contents.classes SlotClass.Frame

  unfoldable S : StandsAt (edged x) Intrinsic.CoroBegin is.begin
  S = begin_stands (edged x) is.begin (first x is)

  own_there : instr_at (edged x) (point S.position S.at) ≡ Some S.instr
  own_there = ap (λ (o : Option Block). instr_in o S.at) S.got ∙ S.there

  own_gives : result_of S.instr ≡ Some is.begin
  own_gives = sym (result_spelt S.instr) ∙ begin_result S.instr S.calls ∙ S.makes

  no_phi : (block : ℕ) → phis_give is.begin (phis_of (slice_get (edged x).blocks block)) ≡ false
  no_phi block = no_phi_gives x.code is.position (edged x) is.frameable.rules (point S.position S.at) S.instr is.begin
      own_there own_gives block

  not_made : (block at : ℕ) (i : Instr) → fetch (edged x) block at ≡ AtInstr i → (IsBegin i → ⊥)
      → is_result is.begin (result_of i) ≡ false
  not_made block at i there none = on (is_result is.begin (result_of i)) refl
    where
      on : (b : Bool) → is_result is.begin (result_of i) ≡ b → b ≡ false
      on false e = refl
      on true e =
          let y = stands_in F (point block at) i (instr_there F block at i there) in
          absurd (none (is_one i (begins_alone x.code is.position F is.begin is.frameable.rules is.frameable.coroutine
          is.frameable.calls (first x is) block y.block i y.got (get_listed y.block.instrs at i y.stands)
          (result_spelt i ∙ result_there is.begin (result_of i) e))))

  comes : {block at : ℕ} → IsBefore (edged x) block at
      → Comes x.code is.position (edged x) is.frameable.rules is.begin block at
  comes first_point = record {
    reaches = Entry;
    no_param = gives_no_param x.code is.position (edged x) is.frameable.rules (point S.position S.at) S.instr is.begin
        own_there own_gives;
    no_phi = no_phi 0;
    unmade = λ j lt. absurd (omega (arith, lt));
  }
  comes (after {block} {at} i there nb w) = over_unmade x.code is.position F is.frameable.rules is.begin block at i there
      (not_made block at i there nb) (comes w)
  comes (along {block} {at} label br w) = across x.code is.position F is.frameable.rules is.begin block at label br
      (no_phi (position_of F label)) (comes w)

  behind : AreBlocksBehind (edged x) is.begin (class_flags x.function x.contents.classes SlotClass.Frame)
      (slot_offsets x.layout x.contents (length (with_copies x).names))
  behind = edges_behind x.function is.frameable.labels is.frameable.apart is.begin slots Old is.frameable.uses

  -- ---- a store

  module _ (block at : ℕ) (arg : Arg) (p : Operand) (align : ℕ)
      (there : fetch (edged x) block at ≡ AtInstr (Instr.Store arg p align)) (before : IsBefore (edged x) block at)
    where
      abbrev i : Instr
      i = Instr.Store arg p align

      here : IsUnmadeHere (edged x) is.begin (class_flags x.function x.contents.classes SlotClass.Frame)
          (slot_offsets x.layout x.contents (length (with_copies x).names)) block (Instr.Store arg p align)
      here =
          let y = stands_in F (point block at) i (instr_there F block at i there) in
          let c = comes before in
          others_here F is.begin slots Old block (phi_values y.block) y.block.instrs
          (behind block y.block y.got).instrs at i y.stands (phis_none F is.begin block y.block y.got c.no_phi)
          (λ m z lt e. made_none F is.begin block m y.block z y.got e (c.unmade m lt))

      -- what it stores lies in no frame
      outside : (v : ℕ) → arg.value ≡ Operand.Local v
          → lies_in_frame (slot_offsets x.layout x.contents (length (with_copies x).names)) v ≡ true → ⊥
      outside v same lies =
          let c = comes before in
          let h : IsBehind F is.begin Old block here.before (Operand.Local v) =
          subst (IsBehind F is.begin Old block here.before) same here.others.0 in
          h lies c.reaches here.unmade (λ l. false≢true (sym c.no_param ∙ any_param is.begin F.params l))

  -- ---- slots that are used before begin

  module _ (k : ℕ) (own : KeepsFunctionRules x.code k x.function) where
    early_low : (e : EarlySlot) → IsListed e (copies x).slots → e.slot < length (edged x).names
    early_low e l = slot_low x is e (frame_class x is e l)

    early_old : (e : EarlySlot) → IsListed e (copies x).slots
        → lies_in_frame (slot_offsets x.layout x.contents (length (with_copies x).names)) e.slot ≡ true
    early_old e l = ⊎_elim (λ there. there)
        (λ (y : IsField (length F.names) (length (values_kept F x.contents.crossing).values) e.slot).
        let up : length F.names + length (values_kept F x.contents.crossing).values ≤ e.slot = y.low in
        let low : e.slot < length F.names = early_low e l in
        absurd (omega (arith, up, low)))
        (in_either x.code is.position x.layout x.function x.contents is.begin (length (with_copies x).names) is.frameable
        e.slot (early_lies x is k own e (listed_contains (copies x).slots e l)))

    -- they lie in the frame
    pub early_entry : (v : ℕ) (f : Fetch) → fetch_of (where_table x) (Operand.Local v) ≡ Some f
        → (d : ℕ) × (entry (offsets x) v ≡ Some d)
    early_entry v f e =
        let c = cell_found (written x) (copies x).slots v f e in
        let early = of_listed (IsEarlyInFrame x 0) (copies x).slots
        (all_early x is (held_once x is k own) 0 (λ n. let near = is.frameable.near n in omega (arith, near))) c.slot
        c.listed in (
          early.offset,
          told_entry (offsets x) v early.offset
              (ap (λ (n : ℕ). slice_get (offsets x) n) (sym c.value) ∙ early.told),
        )

    -- no access uses what isn't fetched from a cell there
    pub unused_early : (v : ℕ) → fetch_of (where_table x) (Operand.Local v) ≡ None → IsUnusedEarly x v
    unused_early v none e listed same =
        let l : IsListed e (copies x).slots = contained (copies x).slots e listed in
        let low : e.slot < length (edged x).names = early_low e l in
        let b : length (edged x).names ≤ length (named x).names = edged_named x in
        let c : length (named x).names ≤ length (written x).names = named_written x in
        slot_fetched (written x) (copies x).slots v (record { slot = e; listed = l; same = same })
        (omega (arith, low, b, c, same)) none

    -- K9: none of them is stored
    pub stores_none : (block at : ℕ) (i : Instr) → fetch (edged x) block at ≡ AtInstr i → IsBefore (edged x) block at
        → StoresNone x i
    stores_none block at (Instr.Store arg p align) there before = by arg.value refl
      where
        by : (o : Operand) → arg.value ≡ o → fetch_of (where_table x) o ≡ None
        by (Operand.Local v) same = on (fetch_of (where_table x) (Operand.Local v)) refl
          where
            on : (q : Option Fetch) → fetch_of (where_table x) (Operand.Local v) ≡ q
                → fetch_of (where_table x) (Operand.Local v) ≡ None
            on None e = e
            on (Some f) e =
                let c = cell_found (written x) (copies x).slots v f e in
                absurd (outside block at arg p align there before v same
                (subst (λ (n : ℕ). lies_in_frame Old n ≡ true) c.value (early_old c.slot c.listed)))
        by (Operand.Global n) same = refl
        by (Operand.Number z) same = refl
        by Operand.True same = refl
        by Operand.False same = refl
        by Operand.Null same = refl
        by Operand.None same = refl
        by Operand.Poison same = refl
    stores_none block at _ there before = tt
