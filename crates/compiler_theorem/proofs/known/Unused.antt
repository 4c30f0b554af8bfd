-- An accepted source uses slots in a frame behind begin (rule K9).
use Rattle.std.proofs.Common.{◌≡◌, ℕ, zero, suc, true, List, [], ◌∷◌, Option, Some, None, refl, sym, ap, ◌∙◌, subst}
use Rattle.std.specs.Prelude.{slice_get, take, unwrap_or}
use Rattle.compiler_theorem.proofs.known.Behind.{unused}
use Rattle.compiler_theorem.proofs.known.Left.{left_positions, left_rules, left_uses}
use Rattle.compiler_theorem.proofs.known.Names.{framed, framed_function}
use Rattle.compiler_theorem.proofs.known.Slots.{in_frame}
use Rattle.compiler_theorem.proofs.known.Used.{IsNamedHere, named_by, named_here}
use Rattle.compiler_theorem.proofs.parts.Returned.{buildable, named}
use Rattle.compiler_theorem.proofs.theorem.Built.{IsFramedAt, coroutine_there, framed_there}
use Rattle.compiler_theorem.specs.theorem.Anew.{Anew, IsAnewOf}
use Rattle.compiler_theorem.specs.theorem.Asked.{asking}
use Rattle.compiler_theorem.specs.theorem.Entries.{IsEntryCall, Run}
use Rattle.compiler_theorem.specs.theorem.Lowered.{HasFewBytes, IsLowered, Lowered, early, edged}
use Rattle.compiler.proofs.ir_laws.paths.renamed.Uses.{stands_in}
use Rattle.compiler.specs.ir_model.Names.{function_at, position_of}
use Rattle.compiler.specs.ir_model.declared.module.Block.{Block}
use Rattle.compiler.specs.ir_model.declared.module.Function.{Function}
use Rattle.compiler.specs.ir_model.declared.instr.Instr.{Instr}
use Rattle.compiler.specs.ir_model.declared.operand.Callee.{Callee}
use Rattle.compiler.specs.ir_model.declared.operand.Intrinsic.{Intrinsic}
use Rattle.compiler.specs.ir_model.declared.operand.Operand.{Operand}
use Rattle.compiler.specs.pass_addresses.Placing.{slot_fetches}
use Rattle.compiler.specs.pass_cells.Cells.{fetches_of}
use Rattle.compiler.specs.pass_cells.Kept.{entry}
use Rattle.compiler.specs.pass_copies.Uses.{is_access}
use Rattle.compiler.specs.pass_fetch.Fetching.{fetch_of}
use Rattle.compiler.specs.pass_fetch.declared.fetch.Fetch.{Fetch}
use Rattle.compiler.specs.pass_frames.Framed.{begin_of, layout_at}
use Rattle.pass_frames_meaning.specs.Blank.{AreUsesEarly, IsUnusedEarly}
use Rattle.pass_frames_meaning.specs.Known.{AreSlotsBehind}
use Rattle.pass_frames_meaning.specs.Standing.{IsStaying}
use Rattle.pass_frames_meaning.specs.Unbegun.{IsBefore}
use Rattle.pass_frames_meaning.proofs.pass_frames_proof.code.Left.{fetch_found}
use Rattle.pass_frames_meaning.proofs.pass_frames_proof.code.Names.{kept_left}
use Rattle.pass_frames_meaning.proofs.pass_frames_proof.code.Passes.{block_is}
use Rattle.pass_frames_meaning.proofs.pass_frames_proof.from_edges.Front.{listed_contains}
use Rattle.pass_frames_meaning.proofs.pass_frames_proof.layers.Grown.{both_passed}
use Rattle.pass_frames_meaning.specs.pass_frames_proof.Framings.{IsFraming}
use Rattle.pass_frames_meaning.specs.pass_frames_proof.Layers.{passed, state_at}
use Rattle.pass_frames_meaning.specs.pass_frames_proof.Places.{Framing, Placed, Unmarked, addressing_layer, copies, instrs_at, offsets, plan}
use Rattle.pass_frames_meaning.specs.pass_frames_proof.Places.{unmarked, unmarked_layer, written}
use Rattle.pass_frames_meaning.specs.pass_frames_proof.Places as place
use Rattle.pass_frames_meaning.specs.pass_frames_proof.Stepping.{state_in}
use Rattle.compiler.proofs.pass_proofs.copies.rules.Slots.{cell_found}
use Rattle.compiler.proofs.pass_proofs.frames.numbers.Numbers.{number_given}
use Rattle.compiler.specs.pass_proofs.addresses.rules.Addresses.{HasBegin, lies_in_frame}
use Rattle.compiler.proofs.rule_laws.rules.sources.Places.{instr_there, point}
use Rattle.compiler.specs.rule_laws.rules.function_rules.Kept.{KeepsFunctionRules}
use Rattle.compiler.specs.rule_uses.Uses.{uses_of}
use Rattle.compiler.specs.run_laws.changed.Changed.{Each}
use Rattle.compiler.specs.run_step.Step.{AtInstr, fetch}

-- a slot in the frame is kept in no cell
has_place : (begin : ℕ) (t : List (Option ℕ)) (v d : ℕ) → entry t v ≡ Some d
    → fetch_of (slot_fetches begin t) (Operand.Local v) ≡ None → ⊥
has_place begin [] v d e none = absurd (cc)
has_place begin (None ∷ t) zero d e none = absurd (cc)
has_place begin (Some n ∷ t) zero d e none = absurd (cc)
has_place begin (o ∷ t) (suc v) d e none = has_place begin t v d e none

unfetched : (x : Framing) → IsFraming x → (v d : ℕ) → entry (offsets x) v ≡ Some d
    → fetch_of (fetches_of (plan x)) (Operand.Local v) ≡ None
unfetched x is v d offset = on (fetch_of (fetches_of (plan x)) (Operand.Local v)) refl
  where
    on : (o : Option Fetch) → fetch_of (fetches_of (plan x)) (Operand.Local v) ≡ o
        → fetch_of (fetches_of (plan x)) (Operand.Local v) ≡ None
    on None e = e
    on (Some f) e =
        let k = fetch_found x is v f e in
        absurd (has_place (begin_of x.function) (offsets x) v d offset (kept_left x is v k.at k.told).0)

-- the state of all passes but the last one
state_there : (x : Framing) (k at : ℕ) (b : Block) → slice_get (place.edged x).blocks k ≡ Some b
    → (state_in x k at).0 ≡ state_at (unmarked_layer x k) b.instrs at
state_there x k at b got =
    ap (λ (p : Placed). p.0) (both_passed (unmarked_layer x k) (addressing_layer x k) (unmarked_layer x k).start
    (passed (addressing_layer x k) (addressing_layer x k).start (unmarked_layer x k).front) (take at (instrs_at x k)))
    ∙ ap (λ (c : Block). state_at (unmarked_layer x k) c.instrs at) (block_is (place.edged x) k b got)

-- an access is no marker
access_stays : (i : Instr) → is_access i ≡ true → IsStaying i
access_stays (Instr.Load name ty p align) e = tt
access_stays (Instr.Store arg p align) e = tt
access_stays (Instr.Call result must_tail ty (Callee.Intrinsic Intrinsic.MemcpyI64) args) e = tt
access_stays (Instr.Call result must_tail ty (Callee.Intrinsic Intrinsic.MemcpyI32) args) e = tt
access_stays _ e = absurd (cc)

-- addresses of slots that are used before begin alone are fetched from cells
never_fetched : (x : Framing) (v : ℕ) → IsUnusedEarly x v → fetch_of (copies x).fetches (Operand.Local v) ≡ None
never_fetched x v apart = on (fetch_of (copies x).fetches (Operand.Local v)) refl
  where
    on : (o : Option Fetch) → fetch_of (copies x).fetches (Operand.Local v) ≡ o
        → fetch_of (copies x).fetches (Operand.Local v) ≡ None
    on None e = e
    on (Some f) e =
        let c = cell_found (written x) (copies x).slots v f e in
        absurd (apart c.slot (listed_contains (copies x).slots c.slot c.listed) c.value)

module _ (l : Lowered) (low : IsLowered l) (few : HasFewBytes l) (a : Anew) (anew : IsAnewOf (early l) a) (r : Run)
    (entered : IsEntryCall l.source r) where
  module _ (func : ℕ) (coroutine : (function_at (early l) func).coroutine ≡ true) where
    x : Framing
    x = (asking l low a r).b.framing func

    is : IsFraming ((asking l low a r).b.framing func)
    is = framed l low few a anew r entered func coroutine

    there : slice_get (early l).functions func ≡ Some (function_at (early l) func)
    there = coroutine_there l low r.answers func coroutine

    at : IsFramedAt (early l) l.layouts.coroutines (early l).functions l.framed.functions func
        (function_at (early l) func)
        ((asking l low a r).b.framing func)
    at = framed_there l low r.answers func coroutine

    pub left : KeepsFunctionRules ((asking l low a r).b.framing func).code func
        (unmarked ((asking l low a r).b.framing func))
    left = subst (λ (z : Framing). KeepsFunctionRules z.code func (unmarked z)) (sym at.same)
        (left_rules (early l) func (layout_at l.layouts.coroutines at.taken) (function_at (early l) func) at.is.contents
        at.is.before (named l low func (function_at (early l) func) there coroutine
        (layout_at l.layouts.coroutines at.taken) (number_given l.layouts.coroutines at.taken)).begin
        (buildable l low func (function_at (early l) func) there coroutine (layout_at l.layouts.coroutines at.taken)
        (number_given l.layouts.coroutines at.taken) at.other at.is))

    pub positions : (label : ℕ) → position_of (unmarked ((asking l low a r).b.framing func)) label
        ≡ position_of (place.edged ((asking l low a r).b.framing func)) label
    positions = subst (λ (z : Framing). (label : ℕ)
        → position_of (unmarked z) label ≡ position_of (place.edged z) label)
        (sym at.same)
        (left_positions (early l) func (layout_at l.layouts.coroutines at.taken) (function_at (early l) func)
        at.is.contents at.is.before (named l low func (function_at (early l) func) there coroutine
        (layout_at l.layouts.coroutines at.taken) (number_given l.layouts.coroutines at.taken)).begin
        (buildable l low func (function_at (early l) func) there coroutine (layout_at l.layouts.coroutines at.taken)
        (number_given l.layouts.coroutines at.taken) at.other at.is))

    uses : Each (HasBegin (unmarked ((asking l low a r).b.framing func))
        (begin_of ((asking l low a r).b.framing func).function) (offsets ((asking l low a r).b.framing func)))
        (uses_of func (unmarked ((asking l low a r).b.framing func)))
    uses = subst (λ (z : Framing). Each (HasBegin (unmarked z) (begin_of z.function) (offsets z))
        (uses_of func (unmarked z))) (sym at.same)
        (left_uses (early l) func (layout_at l.layouts.coroutines at.taken) (function_at (early l) func)
        at.is.contents at.is.before (named l low func (function_at (early l) func) there coroutine
        (layout_at l.layouts.coroutines at.taken) (number_given l.layouts.coroutines at.taken)).begin
        (buildable l low func (function_at (early l) func) there coroutine (layout_at l.layouts.coroutines at.taken)
        (number_given l.layouts.coroutines at.taken) at.other at.is))

    begin_same : begin_of ((asking l low a r).b.framing func).function ≡ is.begin
    begin_same = ap (λ (o : Option ℕ). unwrap_or o 0) is.frameable.begins

  -- what the name stands in behind the passes isn't reached before begin
  module _ (func block at : ℕ) (i : Instr) (coroutine : (function_at (early l) func).coroutine ≡ true)
      (there : fetch (function_at (edged l) func) block at ≡ AtInstr i) (v d : ℕ)
      (offset : entry (offsets ((asking l low a r).b.framing func)) v ≡ Some d)
      (n : IsNamedHere ((asking l low a r).b.framing func) block
      (state_in ((asking l low a r).b.framing func) block at).0 i v) where
    named_behind : IsBefore (function_at (edged l) func) block at → ⊥
    named_behind before =
        let x : Framing = (asking l low a r).b.framing func in
        let same : function_at (edged l) func ≡ place.edged x =
        framed_function l low few a anew r entered func coroutine in
        let lies : lies_in_frame (offsets x) v ≡ true = in_frame (offsets x) v d offset in
        let b = stands_in (place.edged x) (point block at) i (instr_there (place.edged x) block at i
        (ap (λ (f : Function). fetch f block at) (sym same) ∙ there)) in
        unused x (is func coroutine) func (left func coroutine) (positions func coroutine)
        (subst (λ (w : ℕ). Each (HasBegin (unmarked x) w (offsets x)) (uses_of func (unmarked x)))
        (begin_same func coroutine) (uses func coroutine)) block at b.block i n.instr b.got b.stands
        (subst (λ (u : Unmarked). (unmarked_layer x block).here u i ≡ Some n.instr)
        (state_there x block at b.block b.got) n.here) v n.names lies (subst (λ (f : Function). IsBefore f block at) same before)

  pub slots_behind : AreSlotsBehind (asking l low a r)
  slots_behind func block at i coroutine there staying unlocated v d listed low_name offset before =
      let x : Framing = (asking l low a r).b.framing func in
      named_behind func block at i coroutine there v d offset
      (named_here x block (state_in x block at) i staying unlocated v listed
      (unfetched x (is func coroutine) v d offset)) before

  -- nor does an access use a slot there, if that is none of those that are used before begin
  pub uses_early : AreUsesEarly (asking l low a r)
  uses_early func block at i coroutine there access v d listed offset apart before =
      let x : Framing = (asking l low a r).b.framing func in
      named_behind func block at i coroutine there v d offset
      (named_by x block (state_in x block at) i (access_stays i access) v listed
      (unfetched x (is func coroutine) v d offset) (λ ahead. never_fetched x v apart)) before
