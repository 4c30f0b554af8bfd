-- The layouts of a module stay under the first pass.
use Rattle.std.proofs.Common.{◌≡◌, ℕ, ◌<◌, ◌≤◌, Bool, true, false, List, [], ◌∷◌, ◌++◌, length, Some, None, Option, refl, sym, ap, ◌∙◌, subst, arith, ◌↔◌}
use Rattle.std.proofs.lemmas.Bool.{eqb-true}
use Rattle.std.proofs.lemmas.List.{length-map}
use Rattle.std.specs.Prelude.{Result, slice_get, unwrap_or, if◌then◌else◌, ◌==◌}
use Rattle.pass_early_proof.proofs.early.begin_naming.NamedParts.{call_of_same as call_of_named, points_where_same as points_named, with_begin}
use Rattle.pass_early_proof.proofs.early.begin_naming.NamedSlots.{begin_unnamed, promise_same as promise_named}
use Rattle.rule_laws.specs.frame_contents.Frames.{AreLayouts}
use Rattle.rule_laws.specs.frame_contents.Held.{crossing_values, fields_of, frame_slots, frame_slots_from, held_blocks, held_of, held_params}
use Rattle.rule_laws.specs.frame_contents.declared.held.Holding.{Holding}
use Rattle.rule_laws.specs.frame_contents.declared.module_frames.LayoutsError.{LayoutsError}
use Rattle.rule_laws.specs.rule_uses.Undefined.{params_of}
use Rattle.pass_early_proof.proofs.early.renaming.Composition.{early_in_turn}
use Rattle.rule_laws.proofs.ir_laws.facts.Members.{at_each}
use Rattle.pass_early_proof.proofs.early.renaming.Parts.{call_of_same, points_where_same}
use Rattle.pass_early_proof.proofs.early.renaming.Rules.{all_regular}
use Rattle.pass_early_proof.proofs.early.renaming.Slots.{plain_result, promise_same}
use Rattle.pass_early_proof.specs.early.renaming.Passes.{named_function, named_module, renamed_by_its_own, renamed_coroutine, renamed_function, renamed_module}
use Rattle.pass_early_proof.specs.early.renaming.Regular.{AllKeepRules, IsPlain, IsRegular, KeepsRules}
use Rattle.rule_laws.proofs.frames.alike_crossing.Counted.{named_instr, named_params, named_phi, same_results, values_named}
use Rattle.pass_early_proof.proofs.early.crossing.Named.{crossing_named}
use Rattle.pass_early_proof.proofs.early.crossing.Renamed.{crossing_renamed}
use Rattle.pass_early_proof.proofs.early.crossing.Saved.{crossing_saved}
use Rattle.pass_early_proof.specs.early.crossing.Plain.{HasPlainNames}
use Rattle.rule_laws.proofs.frames.alike_frames.Held.{all_fields_are, crossing_holds, held_values}
use Rattle.pass_early_proof.proofs.early.frames.HeldAlike.{blocks_named, blocks_renamed, blocks_saved, blocks_stay}
use Rattle.pass_early_proof.proofs.early.slots.Laws.{alive_named, alive_renamed, alive_saved, classes_named, classes_renamed, classes_saved, conflicts_named, conflicts_renamed, conflicts_saved}
use Rattle.rule_laws.proofs.frames.alike_frames.Layouts.{HoldAlike, layouts_same}
use Rattle.pass_early_proof.proofs.early.slots.NamedPlaces.{allocas_same as allocas_named, blocks_same as blocks_of_named}
use Rattle.pass_early_proof.proofs.early.slots.RenamedParts.{allocas_same, blocks_same}
use Rattle.pass_early_proof.specs.early.frames.NoParams.{AreBeginsNoParams}
use Rattle.pass_early.specs.BeginName.{begin_name, if_unnamed, with_begin_name}
use Rattle.pass_early.specs.Early.{early_module, renaming_of, save_names}
use Rattle.pass_early.specs.Renaming.{is_renamed}
use Rattle.pass_early.specs.declared.renaming.Renaming.{Renaming}
use Rattle.pass_early_proof.proofs.early.meaning.Names.{named_locals, named_uses, renamed_locals, renamed_uses}
use Rattle.rule_laws.specs.flow_solver.Paths.{IsListed}
use Rattle.rule_laws.specs.frame_layout.declared.layout.Layouts.{Layouts}
use Rattle.ir_model.specs.Calls.{first_result}
use Rattle.ir_model.specs.Names.{function_at, no_function}
use Rattle.ir_model.specs.declared.module.Block.{Block}
use Rattle.ir_model.specs.declared.module.Function.{Function}
use Rattle.ir_model.specs.declared.module.Module.{Module}
use Rattle.ir_model.specs.declared.operand.Intrinsic.{Intrinsic}
use Rattle.rule_laws.specs.ir_paths.Slots.{allocas_in, allocas_of, has_name, promise_of}
use Rattle.rule_laws.specs.ir_paths.Windows.{instr_in, is_call_of, points_where}
use Rattle.rule_laws.specs.run_step.Step.{phis_of}
use Rattle.pass_early_proof.proofs.early.saves.Behind.{suspends_moved}
use Rattle.rule_laws.proofs.ir_laws.facts.Lists.{get_front}
use Rattle.pass_early_proof.proofs.early.saves.Slots.{same_allocas, same_promise}
use Rattle.pass_early_proof.specs.early.saves.SavesWritten.{save_count, saved_function, saves_written}
use Rattle.pass_early_proof.specs.early.saves.Spots.{back_of}
use Rattle.rule_laws.specs.run_laws.changed.Changed.{Each}
use Rattle.rule_laws.specs.ir_laws.paths.expanded.Tokens.{HasNamedTokens}
use Rattle.rule_laws.proofs.ir_laws.paths.named_locals.Names.{tokens_named}
use Rattle.rule_laws.specs.frame_classes.declared.class.SlotClass.{SlotClass}
use Rattle.rule_laws.specs.ir_laws.facts.sound_states.Named.{AreLocalsNamed, AreUsesNamed, HasNamedLocals, HasNamedOperands}
use Rattle.rule_laws.specs.frame_crossing.Crossing.{AreCrossing}

-- ---- one function

-- what crosses is none of the names behind those of the function
later_crosses_not : (f : Function) → HasNamedLocals f → (all : List (ℕ × ℕ)) → AreCrossing f all → (n : ℕ) → length f.names ≤ n → has_name (crossing_values all) n ≡ false
later_crosses_not f locals all c n le = on (has_name (crossing_values all) n) refl
  where
    on : (b : Bool) → has_name (crossing_values all) n ≡ b → has_name (crossing_values all) n ≡ false
    on true e = let lt = crossing_holds (λ v. v < length f.names) f all c (values_named f locals) n e in absurd (omega (arith, lt, le))
    on false e = e

-- the names of what is held are names of the function
held_named : (m : Module) (f : Function) → HasNamedLocals f → (classes : List SlotClass) (all : List (ℕ × ℕ)) → Each (λ (h : Holding). h.value < length f.names) (held_of m f classes all)
held_named m f locals classes all =
    held_values (λ v. v < length f.names) m f (has_name (crossing_values all)) (has_name (frame_slots f classes))
    (named_params (length f.names) f.params locals.params)
    (named_phi f locals)
    (named_instr f locals)

each_any : (hs : List Holding) → Each (λ (h : Holding). Unit {0}) hs
each_any [] = tt
each_any (h ∷ hs) = (tt, each_any hs)

module _ (m k : Module) (types : k.types ≡ m.types) where
  -- what is held, by the allocas, the promise and what stands in blocks
  held_by_parts : (f g : Function) (classes : List SlotClass) (all : List (ℕ × ℕ)) → g.params ≡ f.params → allocas_of g ≡ allocas_of f → promise_of g ≡ promise_of f → held_blocks k (promise_of f) (has_name (crossing_values all)) (has_name (frame_slots f classes)) g.blocks ≡ held_blocks m (promise_of f) (has_name (crossing_values all)) (has_name (frame_slots f classes)) f.blocks → held_of k g classes all ≡ held_of m f classes all
  held_by_parts f g classes all params allocas promise blocks =
      (λ i. held_params (has_name (crossing_values all)) (params i) ++ held_blocks k (promise i) (has_name (crossing_values all)) (has_name (frame_slots_from classes 0 (allocas i))) g.blocks)
      ∙ (λ i. held_params (has_name (crossing_values all)) f.params ++ blocks i)

  pub saved_holds : (f : Function) → HasNamedLocals f → HasNamedTokens f → HoldAlike m k f (saved_function f)
  saved_holds f locals tokens = record {
    crossing = crossing_saved f locals;
    classes = classes_saved f tokens;
    alive = alive_saved f tokens;
    conflicts = conflicts_saved f tokens;
    held = λ classes all c.
        held_by_parts f (saved_function f) classes all refl (same_allocas f tokens) (same_promise f tokens)
        (blocks_saved m k types (promise_of f) (has_name (crossing_values all)) (has_name (frame_slots f classes)) f.coroutine (length f.names) (later_crosses_not f locals all c) (length f.names) f.blocks (omega arith));
    fields = λ classes all.
        all_fields_are (λ v. v < length f.names) f (saved_function f) (λ v lt. get_front f.names (save_names (save_count f)) v lt)
        (ap length (suspends_moved f) ∙ length-map (points_where (is_call_of Intrinsic.CoroSuspend) f) (back_of f))
        (held_of m f classes all) (held_named m f locals classes all);
    allocas = same_allocas f tokens;
  }

  pub renamed_holds : (f : Function) (r : Renaming) → IsRegular f r → HasPlainNames f r → HoldAlike m k f (renamed_coroutine r f)
  renamed_holds f r ok plain = record {
    crossing = crossing_renamed f r plain;
    classes = classes_renamed f r ok;
    alive = alive_renamed f r ok;
    conflicts = conflicts_renamed f r ok;
    held = λ classes all c.
        held_by_parts f (renamed_coroutine r f) classes all refl allocas (promise_same r f ok)
        (blocks_renamed m k types (promise_of f) (has_name (crossing_values all)) (has_name (frame_slots f classes)) r f.blocks);
    fields = λ classes all.
        all_fields_are (λ v. Unit {0}) f (renamed_coroutine r f) (λ v any. refl)
        (ap length (points_where_same r (is_call_of Intrinsic.CoroSuspend) (is_call_of Intrinsic.CoroSuspend) (call_of_same r Intrinsic.CoroSuspend) f))
        (held_of m f classes all) (each_any (held_of m f classes all));
    allocas = allocas;
  }
    where
      allocas : allocas_of (renamed_coroutine r f) ≡ allocas_of f
      allocas = blocks_same r allocas_in allocas_in (allocas_same r) f.blocks

  stays_held : (f : Function) → HoldAlike m k f f
  stays_held f = record {
    crossing = λ all. ((λ h. h), (λ h. h));
    classes = λ classes. ((λ h. h), (λ h. h));
    alive = λ pairs. ((λ h. h), (λ h. h));
    conflicts = λ pairs. ((λ h. h), (λ h. h));
    held = λ classes all c. held_by_parts f f classes all refl refl refl (blocks_stay m k types (promise_of f) (has_name (crossing_values all)) (has_name (frame_slots f classes)) f.blocks);
    fields = λ classes all. refl;
    allocas = refl;
  }

  pub named_holds : (f : Function) → HasNamedLocals f → HasNamedOperands f → HoldAlike m k f (with_begin_name f)
  named_holds f locals uses = record {
    crossing = crossing_named f locals;
    classes = classes_named f uses;
    alive = alive_named f uses;
    conflicts = conflicts_named f uses;
    held = λ classes all c. held_in classes all c (first_result Intrinsic.CoroBegin f) refl;
    fields = λ classes all. fields_in classes all (first_result Intrinsic.CoroBegin f) refl;
    allocas = allocas_in_all (first_result Intrinsic.CoroBegin f);
  }
    where
      allocas_with : allocas_of (with_begin (length f.names) f) ≡ allocas_of f
      allocas_with = blocks_of_named (length f.names) f allocas_in (allocas_named (length f.names) f) f.blocks

      allocas_in_all : (o : Option ℕ) → allocas_of (if_unnamed o f) ≡ allocas_of f
      allocas_in_all None = allocas_with
      allocas_in_all (Some n) = refl

      held_in : (classes : List SlotClass) (all : List (ℕ × ℕ)) → AreCrossing f all → (o : Option ℕ) → first_result Intrinsic.CoroBegin f ≡ o → held_of k (if_unnamed o f) classes all ≡ held_of m f classes all
      held_in classes all c None e =
          held_by_parts f (with_begin (length f.names) f) classes all refl allocas_with (promise_named (length f.names) f)
          (blocks_named m k types (promise_of f) (has_name (crossing_values all)) (has_name (frame_slots f classes)) (length f.names) (later_crosses_not f locals all c (length f.names) (omega arith)) f.blocks
          (λ b x j i s t. begin_unnamed f e (record { block = b; at = j }) i (ap (λ (o : Option Block). instr_in o j) s ∙ t)))
      held_in classes all c (Some n) e = held_by_parts f f classes all refl refl refl (blocks_stay m k types (promise_of f) (has_name (crossing_values all)) (has_name (frame_slots f classes)) f.blocks)

      fields_in : (classes : List SlotClass) (all : List (ℕ × ℕ)) (o : Option ℕ) → first_result Intrinsic.CoroBegin f ≡ o → fields_of (if_unnamed o f) (held_of m f classes all) ≡ fields_of f (held_of m f classes all)
      fields_in classes all None e =
          all_fields_are (λ v. v < length f.names) f (with_begin (length f.names) f) (λ v lt. get_front f.names (begin_name ∷ []) v lt)
          (ap length (points_named (length f.names) (is_call_of Intrinsic.CoroSuspend) (call_of_named (length f.names) Intrinsic.CoroSuspend) f))
          (held_of m f classes all) (held_named m f locals classes all)
      fields_in classes all (Some n) e = refl

-- ---- modules

there : (m : Module) (j : ℕ) (f : Function) → slice_get m.functions j ≡ Some f → function_at m j ≡ f
there m j f e = ap (λ (o : Option Function). unwrap_or o no_function) e

pub named_stays : (f : Function) → (named_function f).coroutine ≡ f.coroutine
named_stays f = on f.coroutine
  where
    by : (o : Option ℕ) → (if_unnamed o f).coroutine ≡ f.coroutine
    by None = refl
    by (Some n) = refl

    on : (b : Bool) → (if b then with_begin_name f else f).coroutine ≡ f.coroutine
    on true = by (first_result Intrinsic.CoroBegin f)
    on false = refl

pub layouts_named : (m : Module) → AreLocalsNamed m → AreUsesNamed m → (share : Bool) (result : Result Layouts LayoutsError) → AreLayouts m share result ↔ AreLayouts (named_module m) share result
layouts_named m locals uses share result = layouts_same m (named_module m) named_function named_stays share refl alike result
  where
    alike : (j : ℕ) (f : Function) → slice_get m.functions j ≡ Some f → f.coroutine ≡ true → HoldAlike m (named_module m) f (named_function f)
    alike j f e c =
        subst (λ (b : Bool). HoldAlike m (named_module m) f (if b then with_begin_name f else f)) (sym c)
        (named_holds m (named_module m) refl f (subst HasNamedLocals (there m j f e) (locals j)) (subst HasNamedOperands (there m j f e) (uses j).operands))

pub renamed_stays : (f : Function) → (renamed_function f).coroutine ≡ f.coroutine
renamed_stays f = on f.coroutine
  where
    on : (b : Bool) → (if b then renamed_by_its_own f else f).coroutine ≡ f.coroutine
    on true = refl
    on false = refl

-- the rules give what the renaming doesn't touch
pub plain_names : (func : ℕ) (f : Function) → KeepsRules func f → IsRegular f (renaming_of f) → (IsListed (renaming_of f).to (params_of f) → ⊥) → HasPlainNames f (renaming_of f)
plain_names func f rules ok none = record {
  params = λ v l. record { stays = stays v l (is_renamed (renaming_of f) v) refl; is_other = other v l (v == (renaming_of f).to) refl };
  phis = λ b x j p e d.
      at_each (λ q. IsPlain (renaming_of f) q.result) x.phis j p (subst (λ ps. Rattle.rule_laws.specs.run_laws.changed.Changed.Each (λ q. IsPlain (renaming_of f) q.result) ps) (ap phis_of e) (rules.phis b)) d;
  results = λ b x j i v e d s begin frame.
      plain_result (renaming_of f) f ok (record { block = b; at = j }) i v (ap (λ (o : Option Block). instr_in o j) e ∙ d) (sym (same_results i) ∙ s) frame begin;
}
  where
    stays : (v : ℕ) → IsListed v (params_of f) → (b : Bool) → is_renamed (renaming_of f) v ≡ b → is_renamed (renaming_of f) v ≡ false
    stays v l true e = absurd (rules.params v e l)
    stays v l false e = e

    other : (v : ℕ) → IsListed v (params_of f) → (b : Bool) → (v == (renaming_of f).to) ≡ b → (v == (renaming_of f).to) ≡ false
    other v l true e = absurd (none (subst (λ (n : ℕ). IsListed n (params_of f)) (eqb-true v (renaming_of f).to e) l))
    other v l false e = e

pub layouts_renamed : (m : Module) → AllKeepRules m → AreBeginsNoParams m → (share : Bool) (result : Result Layouts LayoutsError) → AreLayouts m share result ↔ AreLayouts (renamed_module m) share result
layouts_renamed m rules none share result = layouts_same m (renamed_module m) renamed_function renamed_stays share refl alike result
  where
    at : (j : ℕ) (f : Function) → function_at m j ≡ f → f.coroutine ≡ true → HoldAlike m (renamed_module m) f (renamed_by_its_own f)
    at j f e c =
        let own : (function_at m j).coroutine ≡ true = ap (λ (h : Function). h.coroutine) e ∙ c in
        let keeps = subst (KeepsRules j) e (rules j own) in
        let regular = subst (λ (h : Function). IsRegular h (renaming_of h)) e (all_regular m rules j own) in
        let apart = subst (λ (h : Function). IsListed (renaming_of h).to (params_of h) → ⊥) e (none j own) in
        renamed_holds m (renamed_module m) refl f (renaming_of f) regular (plain_names j f keeps regular apart)

    alike : (j : ℕ) (f : Function) → slice_get m.functions j ≡ Some f → f.coroutine ≡ true → HoldAlike m (renamed_module m) f (renamed_function f)
    alike j f e c =
        subst (λ (b : Bool). HoldAlike m (renamed_module m) f (if b then renamed_by_its_own f else f)) (sym c) (at j f (there m j f e) c)

pub layouts_saved : (m : Module) → AreLocalsNamed m → AreUsesNamed m → (share : Bool) (result : Result Layouts LayoutsError) → AreLayouts m share result ↔ AreLayouts (saves_written m) share result
layouts_saved m locals uses share result = layouts_same m (saves_written m) saved_function (λ f. refl) share refl alike result
  where
    alike : (j : ℕ) (f : Function) → slice_get m.functions j ≡ Some f → f.coroutine ≡ true → HoldAlike m (saves_written m) f (saved_function f)
    alike j f e c = saved_holds m (saves_written m) refl f (subst HasNamedLocals (there m j f e) (locals j)) (subst HasNamedTokens (there m j f e) (tokens_named m locals uses j))

pub layouts_early : (m : Module) → AreLocalsNamed m → AreUsesNamed m → AllKeepRules (named_module m) → AreBeginsNoParams (named_module m) → (share : Bool) (result : Result Layouts LayoutsError) → AreLayouts m share result ↔ AreLayouts (early_module m) share result
layouts_early m locals uses rules none share result =
    subst (λ (k : Module). AreLayouts m share result ↔ AreLayouts k share result) (sym (early_in_turn m)) (
      (λ h. three.0 (two.0 (one.0 h))),
      (λ h. one.1 (two.1 (three.1 h))),
    )
  where
    one : AreLayouts m share result ↔ AreLayouts (named_module m) share result
    one = layouts_named m locals uses share result

    two : AreLayouts (named_module m) share result ↔ AreLayouts (renamed_module (named_module m)) share result
    two = layouts_renamed (named_module m) rules none share result

    three : AreLayouts (renamed_module (named_module m)) share result ↔ AreLayouts (saves_written (renamed_module (named_module m))) share result
    three = layouts_saved (renamed_module (named_module m)) (renamed_locals (named_module m) (named_locals m locals)) (renamed_uses (named_module m) rules (named_uses m uses)) share result
