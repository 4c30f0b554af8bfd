-- What is asked of the two modules where blocks of coroutines end holds of an accepted source.
use Rattle.std.proofs.Common.{◌≡◌, ℕ, true, refl, sym, ap, ◌∙◌, subst}
use Rattle.std.proofs.lemmas.Bool.{false≢true}
use Rattle.std.specs.Prelude.{None, Option, Some, slice_get, unwrap_or}
use Rattle.compiler.proofs.whole.lowered_sources.Sources.{early_others, early_rules}
use Rattle.compiler_theorem.proofs.ends.Begins.{no_end, phis_outside, term_outside}
use Rattle.compiler_theorem.proofs.known.Begins.{begin_is}
use Rattle.compiler_theorem.proofs.ends.EdgeBlocks.{edge_block, edge_slots}
use Rattle.compiler_theorem.proofs.ends.Suspends.{told_suspend}
use Rattle.compiler_theorem.proofs.parts.FramedTokens.{begun}
use Rattle.compiler_theorem.proofs.parts.Tokens.{HasTokens, edges_tokens}
use Rattle.compiler_theorem.proofs.theorem.Asked.{asked_kept}
use Rattle.compiler_theorem.proofs.theorem.Built.{coroutine_there, sources_built}
use Rattle.compiler_theorem.proofs.theorem.Framing.{sources_given}
use Rattle.compiler_theorem.proofs.theorem.Stepping.{places}
use Rattle.compiler_theorem.specs.theorem.Anew.{Anew, IsAnewOf}
use Rattle.compiler_theorem.specs.theorem.Asked.{asking}
use Rattle.compiler_theorem.specs.theorem.Between.{renewing}
use Rattle.compiler_theorem.specs.theorem.Built.{building}
use Rattle.compiler_theorem.specs.theorem.Entries.{IsEntryCall, Run}
use Rattle.compiler_theorem.specs.theorem.Lowered.{HasFewBytes, IsLowered, Lowered, early, edged}
use Rattle.compiler.specs.frame_crossing.Crossing.{AreCrossing}
use Rattle.compiler.specs.ir_model.Names.{function_at, no_function}
use Rattle.compiler.specs.ir_model.declared.module.Function.{Function}
use Rattle.compiler.specs.ir_model.declared.module.Module.{Module}
use Rattle.compiler.specs.ir_model.declared.operand.Intrinsic.{Intrinsic}
use Rattle.compiler.specs.pass_edges.EdgeBlocks.{with_edge_blocks}
use Rattle.pass_frames_meaning.specs.Based.{IsBeginAhead}
use Rattle.pass_frames_meaning.specs.Ends.{AreEdgeSlots, KeepsEdges, KeepsEnds}
use Rattle.pass_frames_prices.proofs.bounds.Ordinary.{ordinary}
use Rattle.pass_frames_meaning.specs.pass_frames_proof.Framings.{IsFraming}
use Rattle.pass_frames_meaning.specs.pass_frames_proof.Places.{Framing, edged as edged_of}
use Rattle.pass_frames_meaning.specs.pass_frames_proof.Related.{Building, is_coroutine}
use Rattle.pass_frames_meaning.specs.pass_frames_proof.Stepping.{AreGiven}
use Rattle.compiler.specs.pass_kept_proof.SuspendRules.{IsCallAt}
use Rattle.compiler.proofs.pass_proofs.edges.rules.Kept.{crossing_kept}
use Rattle.compiler.proofs.pass_proofs.edges.shape.Kept.{calls_kept, switches_kept}
use Rattle.compiler.proofs.pass_proofs.kept.sources.Whole.{split_rules}
use Rattle.compiler.specs.rule_laws.rules.function_rules.Kept.{KeepsFunctionRules}
use Rattle.compiler.specs.rule_laws.rules.path_rules.Shape.{KeepsShape}
use Rattle.compiler.specs.rule_shape.OneOfEach.{wrong_call}
use Rattle.compiler.specs.rule_shape.Switches.{wrong_switch}
use Rattle.compiler.specs.run_framed.Framed.{begin_name}
use Rattle.compiler.specs.run_step.Step.{fetch}

-- a coroutine stands at its position
stands_there : (m : Module) (func : ℕ) → (function_at m func).coroutine ≡ true
    → slice_get m.functions func ≡ Some (function_at m func)
stands_there m func c = on (slice_get m.functions func) c
  where
    on : (o : Option Function) → (unwrap_or o no_function).coroutine ≡ true → o ≡ Some (unwrap_or o no_function)
    on None k = absurd (false≢true k)
    on (Some f) k = refl

module _ (l : Lowered) (low : IsLowered l) (a : Anew) (r : Run) where
  abbrev e : Module
  e = early l

  abbrev b : Building
  b = building l low.is_framed r.answers

  given : AreGiven (building l low.is_framed r.answers) (renewing l a r)
  given = sources_given l low a r

  module _ (func : ℕ) (c : is_coroutine (building l low.is_framed r.answers) func ≡ true) where
    abbrev f : Function
    f = function_at (early l) func

    abbrev x : Framing
    x = b.framing func

    is : IsFraming ((building l low.is_framed r.answers).framing func)
    is = given.framings func c

    same : function_at (edged l) func ≡ edged_of ((building l low.is_framed r.answers).framing func)
    same = given.coroutines func c

    function : ((building l low.is_framed r.answers).framing func).function ≡ function_at (early l) func
    function = ((sources_built l low r.answers).coroutines func c).function

    there : slice_get (early l).functions func ≡ Some (function_at (early l) func)
    there = coroutine_there l low r.answers func c

    rules : KeepsFunctionRules (early l) func (function_at (early l) func)
    rules = early_rules l.text l.source low.source.stands low.source.accepted func f there

    shape : KeepsShape func (function_at (early l) func)
    shape = (early_others l.text l.source low.source.stands low.source.accepted).shape func f there

    calls : wrong_call func (with_edge_blocks (function_at (early l) func)) ≡ None
    calls = calls_kept e func f rules c shape.calls shape.switches

    switches : wrong_switch func (with_edge_blocks (function_at (early l) func)) ≡ None
    switches = switches_kept e func f rules c shape.calls shape.switches

    tokens : HasTokens func (with_edge_blocks (function_at (early l) func))
    tokens = edges_tokens func f (begun l low func f there c)

    crossed : AreCrossing (with_edge_blocks ((building l low.is_framed r.answers).framing func).function)
        ((building l low.is_framed r.answers).framing func).contents.crossing
    crossed =
        subst (λ (g : Function). AreCrossing (with_edge_blocks g) x.contents.crossing) (sym function)
        ((crossing_kept e func f rules c shape.switches x.contents.crossing).0
        (subst (λ (g : Function). AreCrossing g x.contents.crossing) function is.frameable.contents.crossing_are))

    now : KeepsFunctionRules (edged l) func (edged_of ((building l low.is_framed r.answers).framing func))
    now =
        let marked : (function_at (edged l) func).coroutine ≡ true =
        ap (λ (g : Function). g.coroutine) same ∙ is.frameable.coroutine in
        subst (KeepsFunctionRules (edged l) func) same
        (split_rules l.text l.source low.source.stands low.source.accepted func (function_at (edged l) func)
        (stands_there (edged l) func marked))

  module _ (few : HasFewBytes l) (anew : IsAnewOf (early l) a) (entered : IsEntryCall l.source r) where
    pub ends_kept : KeepsEnds (asking l low a r)
    ends_kept = record {
      places = places l low few a anew r entered;
      ordinary = λ func k c there unreturned later. ordinary (b.framing func) (is func c) k there unreturned later;
      suspends = λ func block at result must_tail ty args c here.
          told_suspend (edged l) func (b.framing func) (now func c) (is func c).frameable.coroutine
          (subst (λ (g : Function). wrong_call func (with_edge_blocks g) ≡ None) (sym (function func c)) (calls func c))
          (subst (λ (g : Function). wrong_switch func (with_edge_blocks g) ≡ None) (sym (function func c))
          (switches func c))
          (subst (λ (g : Function). HasTokens func (with_edge_blocks g)) (sym (function func c)) (tokens func c))
          (crossed func c) block at result must_tail ty args
          (ap (λ (g : Function). fetch g block at) (sym (same func c)) ∙ here);
      begins = λ func c. ap begin_name (same func c) ∙ begin_is (b.framing func) (is func c);
      ends = λ func p c call ahead.
          no_end (b.framing func) (is func c) p
          (subst (λ (g : Function). IsCallAt Intrinsic.CoroEnd g p) (same func c) call)
          (subst (λ (g : Function). IsBeginAhead g p) (same func c) ahead);
      terms = λ func block at q c here ahead.
          let stands = ap (λ (g : Function). fetch g block at) (sym (same func c)) ∙ here in
          let p = subst (λ (g : Function). IsBeginAhead g (record { block = block; at = at })) (same func c) ahead in (
            term_outside (b.framing func) (is func c) block at q stands p,
            phis_outside (b.framing func) (is func c) block at q stands p,
          );
    }

    slots_kept : (func : ℕ) → is_coroutine (building l low.is_framed r.answers) func ≡ true
        → AreEdgeSlots ((building l low.is_framed r.answers).framing func)
    slots_kept func c =
        edge_slots (b.framing func) (is func c) func
        (subst (λ (p : Module × Function). KeepsFunctionRules p.0 func p.1)
        (λ i. (sym ((sources_built l low r.answers).coroutines func c).code i, sym (function func c) i)) (rules func c))

    pub edges_kept : KeepsEdges (asking l low a r)
    edges_kept = record {
      edges = λ func block c there returned.
          edge_block (b.framing func) (is func c) (slots_kept func c).early
          ((asked_kept l low few a anew r).returns func c) block there returned;
      slots = slots_kept;
    }
