-- The run of a framed form agrees with the run of its parts.
use Rattle.std.proofs.Common.{◌≡◌, ℕ, zero, suc, Bool, true, false, List, [], ◌∷◌, refl, sym, ap, ◌∙◌, subst}
use Rattle.std.specs.Prelude.{Some, map, slice_get, unwrap_or, if◌then◌else◌}
use Rattle.compiler_theorem.proofs.parts.Apart.{framed_apart}
use Rattle.compiler_theorem.proofs.parts.Behind.{named_behind}
use Rattle.compiler_theorem.proofs.parts.Followable.{followable, kept_there}
use Rattle.compiler_theorem.proofs.parts.FramedTokens.{framed_have_tokens}
use Rattle.compiler_theorem.proofs.parts.Globals.{framed_contents}
use Rattle.compiler_theorem.proofs.parts.Lengths.{laid_facts}
use Rattle.compiler_theorem.proofs.parts.Ordered.{framed_in_order}
use Rattle.compiler_theorem.proofs.parts.Plain.{plain_blocks, plain_wide}
use Rattle.compiler_theorem.proofs.parts.Returned.{jumps_behind, light_returns}
use Rattle.compiler_theorem.proofs.parts.Saves.{framed_leads}
use Rattle.compiler_theorem.proofs.parts.Widths.{framed_wide}
use Rattle.compiler_theorem.proofs.narrow.Modules.{framed_small}
use Rattle.compiler_theorem.proofs.theorem.Facts.{take_bytes}
use Rattle.compiler.proofs.whole.exit_sources.Accepted.{exits_kept, locals_kept}
use Rattle.compiler.specs.cleanup.accepted.Ready.{IsReady}
use Rattle.compiler_theorem.specs.parts.Framed.{AreFramedFacts}
use Rattle.compiler_theorem.specs.theorem.Entries.{IsEntry, IsEntryCall, Run}
use Rattle.compiler_theorem.specs.theorem.GoodLayouts.{AreGoodLayouts}
use Rattle.compiler_theorem.specs.theorem.Lowered.{HasFewBytes, IsLowered, Lowered, early, framed_run, plain_run, split_from}
use Rattle.compiler.specs.ir_base.declared.name.Name.{Name}
use Rattle.compiler.specs.ir_laws.facts.function_rules.Signatures.{Heading, heading}
use Rattle.compiler.specs.ir_laws.facts.same_names.Same.{naming}
use Rattle.compiler.specs.ir_model.Names.{function_at, no_function}
use Rattle.compiler.specs.ir_model.Ty.{Ty}
use Rattle.compiler.specs.ir_model.declared.module.Function.{Function}
use Rattle.compiler.specs.ir_model.declared.module.Module.{Module}
use Rattle.compiler.specs.ir_model.declared.module.Param.{Param}
use Rattle.compiler.specs.pass_cleanup.Cleaned.{plain_machine}
use Rattle.compiler.specs.pass_exits.ExitBlocks.{with_exit_blocks}
use Rattle.compiler.proofs.pass_proofs.early.widths.Headings.{early_names, early_signatures}
use Rattle.compiler.proofs.pass_proofs.exits.exited.Exited.{signatures_same}
use Rattle.compiler.proofs.pass_proofs.frames.headings.Headings.{framed_names, framed_signatures}
use Rattle.compiler.specs.pass_proofs.exits.states.Exits.{AreExitsKept, exit_function, exits_split}
use Rattle.pass_split_proof.proofs.first_exits.Parted.{split_parted}
use Rattle.pass_split_proof.proofs.ready.Entries.{entry_moves}
use Rattle.pass_split_proof.proofs.ready.Gives.{gives_none}
use Rattle.pass_split_proof.proofs.ready.Steps.{calls_followable}
use Rattle.pass_split_proof.proofs.priced.Whole.{splits_agree}
use Rattle.pass_split_proof.specs.first_exits.Parted.{parted_module}
use Rattle.pass_split_proof.specs.priced.Returns.{AllJumpBehind}
use Rattle.pass_split_proof.specs.simulation.Statement.{IsEntryOfParts}
use Rattle.pass_split_proof.specs.whole.Whole.{PartsKeepCalls}
use Rattle.compiler.specs.run_agreement.Agreements.{AgreesWithin}
use Rattle.compiler.specs.run_agreement.Machines.{at}
use Rattle.compiler.specs.run_framed.Framed.{layout_of}
use Rattle.compiler.specs.run_memory.declared.pointer.Value.{Value}
use Rattle.pass_frames_meaning.specs.run_types.Fitting.{FitParams, FitsType}
use Rattle.pass_frames_meaning.specs.run_types.States.{AreArguments}

-- ---- functions one for one

record IsAlike {A : Type 0} (kind : Function → A) (gs : List Function) (k : ℕ) (f : Function) : Type 0 where
  other : Function
  there : slice_get gs k ≡ Some other
  same : kind other ≡ kind f

alike_at : {A : Type 0} (kind : Function → A) (fs gs : List Function) → map kind gs ≡ map kind fs → (k : ℕ)
    (f : Function) → slice_get fs k ≡ Some f → IsAlike kind gs k f
alike_at kind [] gs e k f there = absurd (cc)
alike_at kind (f ∷ fs) [] e k g there = absurd (cc)
alike_at kind (f ∷ fs) (h ∷ gs) e zero g there =
    let own : f ≡ g = cc in
    let first : kind h ≡ kind f = cc in
    record { other = h; there = refl; same = first ∙ ap kind own }
alike_at kind (f ∷ fs) (h ∷ gs) e (suc k) g there =
    let rest : map kind gs ≡ map kind fs = cc in
    let x = alike_at kind fs gs rest k g there in
    record { other = x.other; there = x.there; same = x.same }

headed : (fs gs : List Function) → map heading gs ≡ map heading fs → (k : ℕ)
    → heading (unwrap_or (slice_get gs k) no_function) ≡ heading (unwrap_or (slice_get fs k) no_function)
headed [] [] e k = refl
headed [] (g ∷ gs) e k = absurd (cc)
headed (f ∷ fs) [] e k = absurd (cc)
headed (f ∷ fs) (g ∷ gs) e zero = cc
headed (f ∷ fs) (g ∷ gs) e (suc k) = let rest : map heading gs ≡ map heading fs = cc in headed fs gs rest k

fit_alike : (ps qs : List Param) (vs : List Value) → map (λ (p : Param). p.ty) qs ≡ map (λ (p : Param). p.ty) ps
    → FitParams ps vs → FitParams qs vs
fit_alike ps [] vs e h = tt
fit_alike [] (q ∷ qs) vs e h = absurd (cc)
fit_alike (p ∷ ps) (q ∷ qs) [] e h = tt
fit_alike (p ∷ ps) (q ∷ qs) (v ∷ vs) e h =
    let first : q.ty ≡ p.ty = cc in
    let rest : map (λ (x : Param). x.ty) qs ≡ map (λ (x : Param). x.ty) ps = cc in
    (subst (λ (t : Ty). FitsType t v) (sym first) h.0, fit_alike ps qs vs rest h.1)

named_alike : (fs : List Function) → map naming (map exit_function fs) ≡ map naming fs
named_alike [] = refl
named_alike (f ∷ fs) = λ i. on f.coroutine f i ∷ named_alike fs i
  where
    on : (b : Bool) (f : Function) → naming (if b then with_exit_blocks f else f) ≡ naming f
    on true f = refl
    on false f = refl

-- ---- the two passes

module _ (l : Lowered) (low : IsLowered l) (good : AreGoodLayouts (early l) l.layouts.coroutines)
    (ready : IsReady l.layouts l.framed) (few : HasFewBytes l) (r : Run) (other : ℕ)
    (call : IsEntryCall l.source r) (entry : IsEntry l.source (split_from l l.framed) r.entry other) where
  abbrev x : Module
  x = exits_split l.framed

  names : map naming (exits_split l.framed).functions ≡ map naming l.source.functions
  names = named_alike l.framed.functions ∙ (framed_names l.layouts (early l) l.framed low.is_framed).functions
      ∙ (early_names l.source).functions

  headings : map heading (exits_split l.framed).functions ≡ map heading l.source.functions
  headings = (signatures_same l.framed).functions
      ∙ (framed_signatures l.layouts (early l) l.framed low.is_framed).functions
      ∙ (early_signatures l.source).functions

  entry_is : IsEntryOfParts l.layouts (exits_split l.framed) r.entry other
  entry_is =
      let f = entry.callable.function in
      let y = alike_at naming l.source.functions (exits_split l.framed).functions names r.entry f entry.callable.there in
      let found : slice_get (parted_module l.layouts (exits_split l.framed)).functions other ≡ Some entry.counterpart =
      subst (λ (n : Module). slice_get n.functions other ≡ Some entry.counterpart)
      (split_parted l.layouts l.framed) entry.is in
      entry_moves l.layouts l.framed ready.items ready.short r.entry other y.other entry.counterpart y.there
      (ap (λ (n : Name × Bool). n.1) y.same ∙ entry.callable.plain) found
      (entry.name ∙ sym (ap (λ (n : Name × Bool). n.0) y.same))

  arguments : AreArguments (exits_split l.framed) r.entry r.args
  arguments = fit_alike (function_at l.source r.entry).params (function_at (exits_split l.framed) r.entry).params
      (map Value.Int r.args)
      (ap (λ (h : Heading). h.params) (headed l.source.functions (exits_split l.framed).functions headings r.entry))
      call.fits

  framed_facts : AreFramedFacts l.layouts (exits_split l.framed)
  framed_facts = record {
    coroutines = λ k f there c.
        record {
          returns = light_returns l low ready k f there c;
          apart = framed_apart l low ready k f there c (layout_of l.layouts.coroutines k);
          leads = framed_leads l low ready k f there c;
        };
    widths = λ k f there c. framed_wide l low k f there;
    fields = framed_small l low few (kept_there l.layouts l.framed ready);
  }

  calls_kept : PartsKeepCalls l.layouts (exits_split l.framed)
  calls_kept =
      calls_followable l.layouts (exits_split l.framed)
      (followable l.layouts l.framed ready
      (framed_in_order l.layouts (early l) l.framed low.is_framed good)
      (laid_facts l.layouts (early l) l.framed low.is_framed good (take_bytes l low.source)) (framed_contents l low)
      (plain_blocks l low) (plain_wide l low) (framed_have_tokens l low ready) framed_facts)
      (gives_none l.layouts l.framed ready.items ready.short (kept_there l.layouts l.framed ready))

  kept : AreExitsKept l.framed
  kept = exits_kept l.text l.source low.source.stands low.source.accepted l.share l.layouts low.laid l.framed
      low.is_framed

  jump_behind : AllJumpBehind l.framed
  jump_behind k f there c =
      let x = kept k f there c in
      record { jumps = jumps_behind l low k f there c x.rules; named = named_behind l.framed k f x.rules c x.switches }

  pub framed_agrees : AgreesWithin 4 (at (framed_run l l.framed r)) (at (plain_run (split_from l l.framed) r other))
  framed_agrees =
      subst (λ (n : Module). AgreesWithin 4 (at (framed_run l l.framed r)) (at (plain_machine n other r.args r.answers)))
      (sym (split_parted l.layouts l.framed))
      (splits_agree l.layouts l.framed
      (locals_kept l.text l.source low.source.stands low.source.accepted l.share l.layouts low.laid l.framed
      low.is_framed)
      kept
      jump_behind calls_kept r.entry other r.args r.answers entry_is arguments)
