-- Where a path without begin leads in a coroutine no coro.end stands, and nothing in the frame is used.
use Rattle.std.proofs.Common.{◌≡◌, ◌⊎◌, inl, inr, ⊎_elim, ℕ, zero, suc, ◌+◌, ◌<◌, Bool, true, false, List, [], ◌∷◌, ◌++◌, length, Option, Some, None, refl, sym, ap, ◌∙◌, subst, arith}
use Rattle.std.specs.Prelude.{not, option_to_list, slice_get, unwrap_or}
use Rattle.std.proofs.lemmas.Bool.{false≢true}
use Rattle.compiler_theorem.proofs.known.Begins.{begin_named}
use Rattle.compiler.specs.flow_solver.Paths.{IsListed}
use Rattle.compiler.proofs.ir_laws.facts.Lists.{get_within}
use Rattle.compiler.proofs.ir_laws.facts.Members.{each_turns}
use Rattle.compiler.proofs.ir_laws.facts.Truth.{itself}
use Rattle.compiler.proofs.ir_laws.paths.source_rules.Locals.{listed_either}
use Rattle.compiler.specs.ir_laws.facts.renamed.Regular.{is_result, passes}
use Rattle.compiler.specs.ir_laws.facts.replaced.Splittable.{asks_begin}
use Rattle.compiler.specs.ir_laws.paths.renamed.Regular.{makes}
use Rattle.compiler.specs.ir_model.Names.{position_of}
use Rattle.compiler.specs.ir_model.declared.instr.Incoming.{Incoming}
use Rattle.compiler.specs.ir_model.declared.instr.Instr.{Instr}
use Rattle.compiler.specs.ir_model.declared.instr.Phi.{Phi}
use Rattle.compiler.specs.ir_model.declared.instr.Terminator.{Terminator}
use Rattle.compiler.specs.ir_model.declared.module.Block.{Block}
use Rattle.compiler.specs.ir_model.declared.module.Function.{Function}
use Rattle.compiler.specs.ir_model.declared.operand.Callee.{Callee}
use Rattle.compiler.specs.ir_model.declared.operand.Intrinsic.{Intrinsic}
use Rattle.compiler.specs.ir_model.declared.operand.Operand.{Operand}
use Rattle.compiler.specs.ir_parts.Contents.{ending_operands, result_of as part_result}
use Rattle.compiler.specs.ir_paths.Windows.{instr_at, instr_in, is_call_of}
use Rattle.compiler.specs.ir_paths.declared.point.Point.{Point}
use Rattle.compiler.specs.pass_addresses.Placing.{is_none}
use Rattle.compiler.specs.pass_cells.Kept.{entry, joined}
use Rattle.compiler.specs.pass_fetch.Instrs.{term_operands}
use Rattle.compiler.specs.pass_frames.Tables.{class_flags}
use Rattle.compiler.specs.frame_classes.declared.class.SlotClass.{SlotClass}
use Rattle.pass_frames_meaning.proofs.begun.Begun.{first}
use Rattle.pass_frames_meaning.proofs.led.Begins.{HasBegin, has_begin}
use Rattle.pass_frames_meaning.proofs.others.Names.{once}
use Rattle.pass_frames_meaning.specs.Based.{IsBeginAhead}
use Rattle.pass_frames_meaning.specs.Ends.{EachComing, IsOutside}
use Rattle.pass_frames_prices.proofs.bounds.Entry.{entry_unreturned}
use Rattle.pass_frames_meaning.proofs.pass_frames_proof.code.Passes.{block_is}
use Rattle.pass_frames_meaning.specs.pass_frames_proof.Framings.{IsFraming}
use Rattle.pass_frames_meaning.specs.pass_frames_proof.Jumps.{label_at}
use Rattle.pass_frames_meaning.specs.pass_frames_proof.Passes.{no_block}
use Rattle.pass_frames_meaning.specs.pass_frames_proof.Places.{Framing, edged, is_return, offsets, with_copies}
use Rattle.compiler.proofs.pass_kept_proof.Read.{made_phi}
use Rattle.compiler.specs.pass_kept_proof.Crossing.{IsReachedWithout, after_without, along_without, first_without}
use Rattle.compiler.specs.pass_kept_proof.Needed.{given_by, phis_give}
use Rattle.compiler.specs.pass_kept_proof.SuspendRules.{IsCallAt}
use Rattle.compiler.proofs.pass_proofs.frames.begin_order.Edged.{edges_behind}
use Rattle.compiler.proofs.pass_proofs.frames.begin_order.Framed.{in_either}
use Rattle.compiler.proofs.pass_proofs.kept.sources.Definite.{Comes, across, over_unmade, result_there}
use Rattle.compiler.specs.pass_proofs.addresses.begin_order.Behind.{IsBehind, IsIncomingBehind}
use Rattle.compiler.specs.pass_proofs.addresses.rules.Addresses.{lies_in_frame}
use Rattle.compiler.specs.pass_proofs.frames.begin_order.Behind.{AreBlocksBehind}
use Rattle.compiler.specs.pass_proofs.frames.begin_order.Fields.{IsField, values_kept}
use Rattle.compiler.specs.pass_proofs.frames.begin_order.Frames.{slot_offsets}
use Rattle.compiler.proofs.rule_laws.rules.begin_order.CelledBlocks.{begun_at}
use Rattle.compiler.proofs.rule_laws.rules.renamed.Uses.{none_made, result_spelt}
use Rattle.compiler.proofs.rule_laws.rules.shape.Stands.{StandsAt, begin_stands}
use Rattle.compiler.proofs.rule_laws.rules.source_rules.Locals.{own_label}
use Rattle.compiler.proofs.rule_laws.rules.sources.Places.{IsEnd, any_param, instr_there, point, term_there}
use Rattle.compiler.proofs.ir_laws.paths.renamed.Uses.{stands_in}
use Rattle.compiler.specs.rule_laws.rules.replaced.Splittable.{AreBegun}
use Rattle.compiler.specs.rule_uses.Undefined.{Entry, ReachesWithout, params_of}
use Rattle.compiler.specs.rule_uses.Uses.{block_values, phi_values, values_at, values_in}
use Rattle.compiler.specs.run_framed.Framed.{begin_name}
use Rattle.compiler.specs.run_laws.changed.Changed.{Each, result_of}
use Rattle.compiler.specs.run_step.Step.{AtTerm, fetch, phis_of}

no_instr : (v : ℕ) → None ≡ Some v → ⊥
no_instr v e = cc

-- an instruction that asks for begin stands where begin's value is made before
none_asks : (f : Function) (begin k : ℕ) (before : List ℕ) (is : List Instr) → AreBegun f begin k before is
    → ReachesWithout f begin k → (IsListed begin before → ⊥) → (j : ℕ) (i : Instr) → slice_get is j ≡ Some i
    → ((n : ℕ) (y : Instr) → n < j → slice_get is n ≡ Some y → part_result y ≡ Some begin → ⊥)
    → asks_begin i ≡ true → ⊥
none_asks f begin k before [] h reach none j i e unmade asks = absurd (cc)
none_asks f begin k before (y ∷ is) h reach none zero i e unmade asks =
    let same : y ≡ i = cc in
    none (h.0 (ap asks_begin same ∙ asks) reach)
none_asks f begin k before (y ∷ is) h reach none (suc j) i e unmade asks =
    none_asks f begin k (option_to_list (part_result y) ++ before) is h.1 reach still j i e
    (λ n z lt d. unmade (suc n) z (omega (arith, lt)) d) asks
  where
    of_one : (o : Option ℕ) → part_result y ≡ o → IsListed begin (option_to_list o) → ⊥
    of_one None d l = l
    of_one (Some n) d (inl same) = unmade 0 y (omega arith) refl (d ∙ ap Some (sym same))
    of_one (Some n) d (inr l) = l

    still : IsListed begin (option_to_list (part_result y) ++ before) → ⊥
    still l = ⊎_elim (of_one (part_result y) refl) none
        (listed_either begin (option_to_list (part_result y)) before l)

module _ (x : Framing) (is : IsFraming x) where
  abbrev f : Function
  f = edged x

  -- ---- begin's name

  stands : StandsAt (edged x) Intrinsic.CoroBegin is.begin
  stands = begin_stands f is.begin (first x is)

  named : begin_name (edged x) ≡ Some is.begin
  named =
      begin_named x is (point stands.position stands.at) stands.instr
      (ap (λ (o : Option Block). instr_in o stands.at) stands.got ∙ stands.there) stands.calls
      ∙ stands.makes

  -- so there is an entry, which is on no such edge
  some_first : (bs : List Block) (k : ℕ) (b : Block) → slice_get bs k ≡ Some b → (c : Block) × (slice_get bs 0 ≡ Some c)
  some_first [] k b e = absurd (cc)
  some_first (c ∷ bs) k b e = (c, refl)

  pub entry_off : is_return x 0 ≡ false
  entry_off =
      let z = some_first (edged x).blocks stands.position stands.block stands.got in
      entry_unreturned x is (z.1 ∙ ap Some (sym (block_is (edged x) 0 z.0 z.1)))

  -- ---- paths without begin

  b : HasBegin (edged x) is.begin
  b = has_begin f is.begin named

  given : (p : Point) (i : Instr) → instr_at (edged x) p ≡ Some i → part_result i ≡ Some is.begin
      → given_by i ≡ Some is.begin
  given p i e r =
      subst (λ (j : Instr). given_by j ≡ Some is.begin)
      (once x is b.point p b.instr i is.begin b.there e (sym (result_spelt b.instr) ∙ b.gives) r) b.given

  abbrev Without : ℕ → ℕ → Type 0
  Without k at = Comes x.code is.position (edged x) is.frameable.rules is.begin k at

  comes : {block at : ℕ} → IsReachedWithout (edged x) is.begin block at → Without block at
  comes (first_without a c) = record {
    reaches = Entry;
    no_param = a;
    no_phi = c;
    unmade = λ j lt. absurd (omega (arith, lt));
  }
  comes (after_without {block} {at} i e none w) =
      over_unmade x.code is.position f is.frameable.rules is.begin block at i e
      (on (is_result is.begin (result_of i)) refl) (comes w)
    where
      on : (t : Bool) → is_result is.begin (result_of i) ≡ t → t ≡ false
      on false d = refl
      on true d = absurd (none (given (point block at) i (instr_there f block at i e)
          (result_spelt i ∙ result_there x.code is.position f is.frameable.rules is.begin (result_of i) d)))
  comes (along_without {block} {at} label br none w) =
      across x.code is.position f is.frameable.rules is.begin block at label br none (comes w)

  ahead : (p : Point) → IsBeginAhead (edged x) p → Without p.block p.at
  ahead p h = comes (h is.begin named)

  -- ---- what isn't made

  module _ (k at : ℕ) (c : Comes x.code is.position (edged x) is.frameable.rules is.begin k at) where
    module _ (d : Block) (there : slice_get (edged x).blocks k ≡ Some d) where
      no_phis : IsListed is.begin (phi_values d) → ⊥
      no_phis h = on (made_phi is.begin d.phis [] h)
        where
          on : IsListed is.begin [] ⊎ (phis_give is.begin d.phis ≡ true) → ⊥
          on (inl l) = l
          on (inr g) =
              let t : true ≡ false = sym g ∙ ap (λ (o : Option Block). phis_give is.begin (phis_of o)) (sym there)
              ∙ c.no_phi in
              absurd (cc)

      made_is : (j : ℕ) (y : Instr) → slice_get d.instrs j ≡ Some y
          → makes (edged x) is.begin (point k j) ≡ is_result is.begin (result_of y)
      made_is j y e =
          ap (λ (o : Option Block). passes (λ i. is_result is.begin (result_of i)) (instr_in o j)) there
          ∙ ap (passes (λ i. is_result is.begin (result_of i))) e

      unmade : (j : ℕ) (y : Instr) → j < at → slice_get d.instrs j ≡ Some y
          → is_result is.begin (result_of y) ≡ false
      unmade j y lt e = sym (made_is j y e) ∙ c.unmade j lt

      none_before : (n : ℕ) (y : Instr) → n < at → slice_get d.instrs n ≡ Some y → part_result y ≡ Some is.begin → ⊥
      none_before n y lt e r =
          let t : is_result is.begin (Some is.begin) ≡ false =
          ap (is_result is.begin) (sym (sym (result_spelt y) ∙ r)) ∙ unmade n y lt e in
          own_result is.begin t
        where
          own_result : (v : ℕ) → is_result v (Some v) ≡ false → ⊥
          own_result v e = false≢true (sym e ∙ itself v)

      none_asking : (i : Instr) → slice_get d.instrs at ≡ Some i → asks_begin i ≡ true → ⊥
      none_asking i e asks =
          let own : 0 + k ≡ k = omega arith in
          none_asks f is.begin k (phi_values d) d.instrs
          (subst (λ (n : ℕ). AreBegun f is.begin n (phi_values d) d.instrs) own
          (begun_at f is.begin 0 f.blocks k d is.frameable.begun there)) c.reaches no_phis at i e none_before asks

      none_at_end : at ≡ length d.instrs → IsListed is.begin (block_values d) → ⊥
      none_at_end last = none_made (λ u. Unit {0}) is.begin (phi_values d) d.instrs no_phis
          (λ j y e. unmade j y (subst (λ (n : ℕ). j < n) (sym last) (get_within d.instrs j y e)) e)

    not_param : IsListed is.begin (params_of (edged x)) → ⊥
    not_param h =
        let t : true ≡ false = sym (any_param is.begin f.params h) ∙ c.no_param in
        absurd (cc)

  -- ---- the end

  asks_end : (i : Instr) → is_call_of Intrinsic.CoroEnd i ≡ true → asks_begin i ≡ true
  asks_end (Instr.Call r must_tail ty (Callee.Intrinsic Intrinsic.CoroEnd) args) e = refl
  asks_end _ e = absurd (cc)

  pub no_end : (p : Point) → IsCallAt Intrinsic.CoroEnd (edged x) p → IsBeginAhead (edged x) p → ⊥
  no_end p call h =
      let z = stands_in f p call.instr (instr_there f p.block p.at call.instr call.stands) in
      none_asking p.block p.at (ahead p h) z.block z.got call.instr z.stands (asks_end call.instr call.is)

  -- ---- slots in the frame

  abbrev old : List (Option ℕ)
  old = slot_offsets x.layout x.contents (length (with_copies x).names)

  behind : AreBlocksBehind (edged x) is.begin (class_flags x.function x.contents.classes SlotClass.Frame) old
  behind = edges_behind x.function is.frameable.labels is.frameable.apart is.begin
      (class_flags x.function x.contents.classes SlotClass.Frame) old is.frameable.uses

  told : (t : List (Option ℕ)) (v d : ℕ) → entry t v ≡ Some d → slice_get t v ≡ Some (Some d)
  told t v d e = on (slice_get t v) e
    where
      on : (o : Option (Option ℕ)) → joined o ≡ Some d → o ≡ Some (Some d)
      on None h = absurd (no_instr d h)
      on (Some o) h = ap Some h

  lies : (t : List (Option ℕ)) (v d : ℕ) → entry t v ≡ Some d → lies_in_frame t v ≡ true
  lies t v d e = ap (λ (o : Option (Option ℕ)). not (is_none (unwrap_or o None))) (told t v d e)

  old_lies : (v d : ℕ) → v < length (edged x).names → entry (offsets x) v ≡ Some d → lies_in_frame old v ≡ true
  old_lies v d lt e =
      ⊎_elim (λ h. h)
      (λ (y : IsField (length (edged x).names) (length (values_kept (edged x) x.contents.crossing).values) v).
      let up = y.low in absurd (omega (arith, up, lt)))
      (in_either x.code is.position x.layout x.function x.contents is.begin (length (with_copies x).names) is.frameable
      v
      (lies (offsets x) v d e))

  one_outside : (k : ℕ) (before : List ℕ) (o : Operand) → ReachesWithout (edged x) is.begin k
      → (IsListed is.begin before → ⊥) → (IsListed is.begin (params_of (edged x)) → ⊥)
      → IsBehind (edged x) is.begin old k before o → IsOutside x o
  one_outside k before (Operand.Local v) reach none params h = λ lt d e. h (old_lies v d lt e) reach none params
  one_outside k before (Operand.Global n) reach none params h = tt
  one_outside k before (Operand.Number z) reach none params h = tt
  one_outside k before Operand.True reach none params h = tt
  one_outside k before Operand.False reach none params h = tt
  one_outside k before Operand.Null reach none params h = tt
  one_outside k before Operand.None reach none params h = tt
  one_outside k before Operand.Poison reach none params h = tt

  -- operands of a terminator but for cases
  of_ending : (P : Operand → Type 0) (e : Terminator) → Each P (ending_operands e) → Each P (term_operands e)
  of_ending P (Terminator.Jump label) h = tt
  of_ending P (Terminator.Branch c a b) h = h
  of_ending P (Terminator.Switch arg default cases) h = (h.0, tt)
  of_ending P (Terminator.Ret value) h = h
  of_ending P Terminator.Unreachable h = tt

  module _ (k at : ℕ) (e : Terminator) (there : fetch (edged x) k at ≡ AtTerm e)
      (h : IsBeginAhead (edged x) (record { block = k; at = at })) where
    end : IsEnd (edged x) k at e
    end = term_there f k at e there

    c : Without k at
    c = ahead (record { block = k; at = at }) h

    unmade_here : IsListed is.begin (block_values end.own) → ⊥
    unmade_here = none_at_end k at c end.own end.got end.last

    pub term_outside : Each (IsOutside x) (term_operands e)
    term_outside =
        each_turns (IsBehind (edged x) is.begin old k (block_values end.own)) (IsOutside x)
        (λ o q. one_outside k (block_values end.own) o c.reaches unmade_here (not_param k at c) q) (term_operands e)
        (of_ending (IsBehind (edged x) is.begin old k (block_values end.own)) e
        (subst (λ (q : Terminator). Each (IsBehind (edged x) is.begin old k (block_values end.own)) (ending_operands q))
        end.is (behind k end.own end.got).term))

    label_is : position_of (edged x) (label_at x k) ≡ k
    label_is =
        ap (λ (o : Option Block). position_of f (unwrap_or o no_block).label) end.got
        ∙ own_label is.position f is.frameable.rules.definitions k end.own end.got

    -- what comes from the block
    coming : (i : Incoming) → IsIncomingBehind (edged x) is.begin old i → i.from ≡ label_at x k → IsOutside x i.value
    coming i q from =
        let at_block : position_of (edged x) i.from ≡ k = ap (position_of f) from ∙ label_is in
        one_outside k (values_at (edged x) k) i.value c.reaches
        (λ l. unmade_here (subst (λ (o : Option Block). IsListed is.begin (values_in o)) end.got l)) (not_param k at c)
        (subst (λ (n : ℕ). IsBehind (edged x) is.begin old n (values_at (edged x) n) i.value) at_block q)

    pub phis_outside : EachComing (IsOutside x) x k
    phis_outside = by_blocks (edged x).blocks (λ j d e. (behind j d e).phis)
      where
        by_phis : (ps : List Phi) → Each (λ (p : Phi). Each (IsIncomingBehind (edged x) is.begin old) p.incoming) ps
            → Each (λ (p : Phi). Each (λ (i : Incoming). i.from ≡ label_at x k → IsOutside x i.value) p.incoming) ps
        by_phis ps q =
            each_turns (λ (p : Phi). Each (IsIncomingBehind (edged x) is.begin old) p.incoming)
            (λ (p : Phi). Each (λ (i : Incoming). i.from ≡ label_at x k → IsOutside x i.value) p.incoming)
            (λ p z. each_turns (IsIncomingBehind (edged x) is.begin old)
            (λ (i : Incoming). i.from ≡ label_at x k → IsOutside x i.value) coming p.incoming z) ps q

        by_blocks : (ds : List Block)
            → ((j : ℕ) (d : Block) → slice_get ds j ≡ Some d
            → Each (λ (p : Phi). Each (IsIncomingBehind (edged x) is.begin old) p.incoming) d.phis)
            → Each (λ (d : Block). Each (λ (p : Phi). Each (λ (i : Incoming). i.from ≡ label_at x k
            → IsOutside x i.value) p.incoming) d.phis) ds
        by_blocks [] q = tt
        by_blocks (d ∷ ds) q = (by_phis d.phis (q 0 d refl), by_blocks ds (λ j e g. q (suc j) e g))
