-- What laws on steps of frames ask of the two modules holds of an accepted source and its framed form.
use Rattle.std.proofs.Common.{◌≡◌, ℕ, Bool, true, false, List, [], ◌∷◌, refl, sym, ap, ◌∙◌, subst}
use Rattle.std.proofs.lemmas.Bool.{false≢true}
use Rattle.std.proofs.lemmas.Option.{slice_get-map}
use Rattle.std.specs.Prelude.{None, Option, Some, is_some, map, option_map, slice_get, unwrap_or, ◌&&◌, ◌||◌}
use Rattle.compiler.proofs.pass_proofs.rule_laws.rules.function_rules.Stages.{rules_larger}
use Rattle.compiler.specs.rule_names.declared.stage.Stage.{Stage}
use Rattle.compiler.proofs.whole.lowered_sources.Sources.{early_items, early_others, early_rules}
use Rattle.compiler_theorem.proofs.narrow.Modules.{edged_inner}
use Rattle.compiler_theorem.proofs.theorem.Built.{coroutine_there, sources_built}
use Rattle.compiler_theorem.proofs.theorem.Framing.{sources_given}
use Rattle.compiler_theorem.proofs.theorem.Promises.{promises_laid}
use Rattle.compiler_theorem.specs.theorem.Anew.{Anew, IsAnewOf}
use Rattle.compiler_theorem.specs.theorem.Asked.{asking}
use Rattle.compiler_theorem.specs.theorem.Entries.{Run}
use Rattle.compiler_theorem.specs.theorem.Lowered.{HasFewBytes, IsLowered, Lowered, early, edged}
use Rattle.compiler.specs.ir_base.declared.name.Name.{Name}
use Rattle.compiler.proofs.ir_laws.facts.Truth.{and_first, and_second, not_both}
use Rattle.compiler.proofs.ir_laws.facts.same_names.Lists.{what_is_found}
use Rattle.compiler.specs.ir_laws.facts.same_names.Same.{naming}
use Rattle.compiler.specs.ir_laws.facts.sound_states.Named.{AreUsesNamed}
use Rattle.compiler.specs.ir_model.Layout.{field_type, unnamed}
use Rattle.compiler.specs.ir_model.Names.{declaration_named, function_at, global_named, no_function, noalloc_of, same_name}
use Rattle.compiler.specs.ir_model.Ty.{Ty, array, int, named, ptr, structure, token}
use Rattle.compiler.specs.ir_model.declared.instr.Instr.{Instr}
use Rattle.compiler.specs.ir_model.declared.module.Function.{Function}
use Rattle.compiler.specs.ir_model.declared.module.Module.{Module}
use Rattle.compiler.specs.ir_model.declared.operand.Arg.{Arg}
use Rattle.compiler.specs.ir_model.declared.operand.Callee.{Callee}
use Rattle.compiler.specs.ir_model.declared.operand.Operand.{Operand}
use Rattle.compiler.specs.ir_paths.Facts.{facts_of}
use Rattle.compiler.specs.ir_paths.Windows.{windows_of}
use Rattle.compiler.proofs.ir_tables.Tables.{same_name-same}
use Rattle.compiler.specs.pass_distances.Ways.{field_number, inner_type}
use Rattle.compiler.specs.pass_edges.EdgeBlocks.{with_edge_blocks}
use Rattle.pass_frames_meaning.specs.Setting.{KeepsAll}
use Rattle.pass_frames_meaning.specs.pass_frames_proof.Distances.{AreFieldsInside, IsField}
use Rattle.pass_frames_meaning.specs.pass_frames_proof.Lined.{GivesNone}
use Rattle.pass_frames_meaning.specs.pass_frames_proof.Stepping.{HasFieldIndices}
use Rattle.compiler.proofs.pass_proofs.early.meaning.Names.{named_uses, renamed_uses}
use Rattle.compiler.proofs.pass_proofs.early.path_rules.RenamedOperands.{map_was}
use Rattle.compiler.proofs.pass_proofs.early.renaming.Composition.{early_in_turn}
use Rattle.compiler.proofs.pass_proofs.early.save_simulation.Tables.{uses_stay_named}
use Rattle.compiler.proofs.pass_proofs.early.source_rules.Accepted.{all_named_keep}
use Rattle.compiler.proofs.pass_proofs.edges.rules.Kept.{suspend_blocks}
use Rattle.compiler.proofs.pass_proofs.edges.simulation.Names.{uses_named as edged_named}
use Rattle.compiler.proofs.pass_proofs.edges.states.Parts.{named_moved}
use Rattle.compiler.proofs.pass_proofs.frames.headings.Headings.{framed_names}
use Rattle.compiler.proofs.pass_proofs.kept.sources.Whole.{split_rules}
use Rattle.compiler.specs.pass_proofs.early.renaming.Passes.{named_module, renamed_module}
use Rattle.pass_frames_meaning.proofs.pass_renewed_meaning.Tables.{same_windows}
use Rattle.pass_split_proof.proofs.ready.Callees.{callee_known}
use Rattle.pass_split_proof.proofs.ready.Gives.{unknown_ramp}
use Rattle.pass_split_proof.specs.ready.Fields.{AreFieldIndices, AreInnerIndices, IsFieldIndex, number_in, type_inside}
use Rattle.compiler.proofs.rule_laws.rules.sources.Tables.{all_tabled}
use Rattle.compiler.proofs.rule_laws.texts.named_texts.Placed.{uses_named}
use Rattle.compiler.specs.rule_laws.frames.rows.Returns.{HaveOwnReturns}
use Rattle.compiler.specs.rule_names.Known.{knows_name}
use Rattle.run_accepted.proofs.Accepted.{edged_steps, edged_types}
use Rattle.compiler.specs.run_framed.Framed.{framed_facts, given_ramp}
use Rattle.compiler.specs.run_source_tables.Given.{facts_at}
use Rattle.compiler.specs.ir_paths.declared.point.Facts.{Facts}
use Rattle.compiler.specs.run_step.Step.{AtInstr, fetch}

-- ---- indices into structures are fields

module _ (m : Module) where
  one_field : (u : Ty) (a : Arg) → IsFieldIndex u a → IsField u a × (inner_type u a ≡ type_inside u a)
  one_field (structure ts) a x = (
    (x.0, x.1, x.2, x.3),
    ap (λ (v : Operand). field_type ts (field_number v)) x.2 ∙ ap (field_type ts) (sym (ap number_in x.2)),
  )
  one_field (array n u) a x = (tt, refl)
  one_field (int w) a x = (tt, refl)
  one_field ptr a x = (tt, refl)
  one_field token a x = (tt, refl)
  one_field (named n) a x = (tt, refl)

  fields_inside : (t : Ty) (args : List Arg) → AreFieldIndices m t args → AreFieldsInside m t args
  fields_inside t [] h = tt
  fields_inside t (a ∷ args) h =
      let one = one_field (unnamed m t) a h.0 in (
        one.0,
        subst (λ (u : Ty). AreFieldsInside m u args) (sym one.1)
            (fields_inside (type_inside (unnamed m t) a) args h.1),
      )

  gep_fields : (r : ℕ) (inbounds : Bool) (ty : Ty) (base : Operand) (indices : List Arg) → AreInnerIndices m ty indices
      → HasFieldIndices m (Instr.Gep r inbounds ty base indices)
  gep_fields r inbounds ty base [] h = tt
  gep_fields r inbounds ty base (a ∷ args) h = fields_inside ty args h

-- ---- windows of functions

windows_are : (m : Module) (func : ℕ) (make : Function → Facts) → ((f : Function) → (make f).windows ≡ windows_of f)
    → (facts_at (map make m.functions) func).windows ≡ windows_of (function_at m func)
windows_are m func make h =
    ap (λ (o : Option Facts). (unwrap_or o (record { windows = []; ramp_slots = [] })).windows)
    (slice_get-map make m.functions func)
    ∙ on (slice_get m.functions func)
  where
    on : (o : Option Function)
        → (unwrap_or (option_map make o) (record { windows = []; ramp_slots = [] })).windows
        ≡ windows_of (unwrap_or o no_function)
    on None = refl
    on (Some f) = h f

module _ (l : Lowered) (low : IsLowered l) where
  abbrev e : Module
  e = early l

  -- ---- each operand is a name of the table

  uses : AreUsesNamed (edged l)
  uses =
      edged_named (early l) (subst AreUsesNamed (sym (early_in_turn l.source))
      (uses_stay_named (renamed_module (named_module l.source)) (renamed_uses (named_module l.source)
      (all_named_keep l.source low.source.accepted (all_tabled l.text l.source low.source.stands))
      (named_uses l.source (uses_named l.text l.source low.source.stands)))))

  -- ---- no call gives a frame

  same_known : (n : Name) → knows_name (edged l) n ≡ knows_name (early l) n
  same_known n =
      ap (λ (o : Option ℕ). is_some o || (is_some (declaration_named e n) || is_some (global_named e n)))
      (named_moved e n)

  ramp_unknown : (k : ℕ) (g : Function) → slice_get l.framed.functions k ≡ Some g → g.coroutine ≡ true
      → knows_name (edged l) (noalloc_of g.name) ≡ false
  ramp_unknown k g there coroutine =
      let x = map_was naming e.functions k (naming g)
      (sym (ap (λ (ns : List (Name × Bool)). slice_get ns k) (framed_names l.layouts e l.framed low.is_framed).functions)
      ∙ slice_get-map naming l.framed.functions k ∙ ap (option_map naming) there) in
      ap (λ (z : Name × Bool). knows_name (edged l) (noalloc_of z.0)) x.1.1
      ∙ same_known (noalloc_of x.0.name)
      ∙ unknown_ramp e (early_items l.text l.source low.source.stands low.source.accepted) k x.0 x.1.0
      (sym (ap (λ (z : Name × Bool). z.1) x.1.1) ∙ coroutine)

  edged_at : (func block at : ℕ) (i : Instr) → fetch (function_at (edged l) func) block at ≡ AtInstr i
      → slice_get (edged l).functions func ≡ Some (function_at (edged l) func)
  edged_at func block at i here = on (slice_get (edged l).functions func) refl here
    where
      on : (o : Option Function) → slice_get (edged l).functions func ≡ o
          → fetch (unwrap_or o no_function) block at ≡ AtInstr i → o ≡ Some (unwrap_or o no_function)
      on None d h = absurd (cc)
      on (Some f) d h = refl

  call_known : (func block at : ℕ) (r : Option ℕ) (must_tail : Bool) (ty : Option Ty) (n : Name) (args : List Arg)
      → fetch (function_at (edged l) func) block at ≡ AtInstr (Instr.Call r must_tail ty (Callee.Named n) args)
      → knows_name (edged l) n ≡ true
  call_known func block at r must_tail ty n args here =
      let there = edged_at func block at (Instr.Call r must_tail ty (Callee.Named n) args) here in
      callee_known (edged l) func (function_at (edged l) func)
      (rules_larger Stage.Source (edged l) func (function_at (edged l) func)
      (split_rules l.text l.source low.source.stands low.source.accepted func (function_at (edged l) func) there))
      block at r must_tail ty args n here

  none_given : (n : Name) → knows_name (edged l) n ≡ true → (o : Option ℕ) → given_ramp l.framed n ≡ o
      → is_some (given_ramp l.framed n) ≡ false
  none_given n known None d = ap is_some d
  none_given n known (Some k) d =
      let x = what_is_found (λ (f : Function). f.coroutine && same_name (noalloc_of f.name) n) l.framed.functions k d in
      let same : noalloc_of x.element.name ≡ n
      = same_name-same (noalloc_of x.element.name) n (and_second x.element.coroutine _ x.passes) in
      absurd (false≢true (sym (ramp_unknown k x.element x.stands (and_first x.element.coroutine _ x.passes))
      ∙ ap (knows_name (edged l)) same ∙ known))

  ungiven : (func block at : ℕ) (i : Instr) → fetch (function_at (edged l) func) block at ≡ AtInstr i
      → GivesNone l.framed i
  ungiven func block at (Instr.Call r must_tail ty (Callee.Named n) args) here =
      none_given n (call_known func block at r must_tail ty n args here) (given_ramp l.framed n) refl
  ungiven func block at _ here = refl

  -- ---- resume and destroy edges have blocks of their own

  pub own_returns : (func : ℕ) → (function_at (early l) func).coroutine ≡ true
      → HaveOwnReturns (with_edge_blocks (function_at (early l) func))
  own_returns func c =
      let there = coroutine_there l low [] func c in
      suspend_blocks e func (function_at e func)
      (early_rules l.text l.source low.source.stands low.source.accepted func (function_at e func) there) c
      ((early_others l.text l.source low.source.stands low.source.accepted).shape func (function_at e func) there).switches

  -- ---- in all

  module _ (few : HasFewBytes l) (a : Anew) (anew : IsAnewOf (early l) a) (r : Run) where
    fields : (func block at : ℕ) (i : Instr) → fetch (function_at (edged l) func) block at ≡ AtInstr i
        → HasFieldIndices (edged l) i
    fields func block at (Instr.Gep name inbounds ty base indices) here =
        gep_fields (edged l) name inbounds ty base indices
        (edged_inner l low few func block at name inbounds ty base indices here)
    fields func block at _ here = tt

    unflagged : (func v : ℕ) → (function_at e func).coroutine ≡ false → a.flags func v ≡ false
    unflagged func v plain = on (a.flags func v) refl
      where
        on : (b : Bool) → a.flags func v ≡ b → b ≡ false
        on false d = refl
        on true d = absurd (not_both (function_at e func).coroutine plain (((anew func).flags_are v).0 d).coroutine)

    pub asked_kept : KeepsAll (asking l low a r)
    asked_kept = record {
      given = sources_given l low a r;
      rules = split_rules l.text l.source low.source.stands low.source.accepted;
      uses = uses;
      steps = edged_steps l.text l.source low.source.stands low.source.accepted;
      types = edged_types l.text l.source low.source.stands low.source.accepted;
      same_types = low.is_framed.types;
      fields = fields;
      ungiven = ungiven;
      flags = λ func v plain. unflagged func v plain;
      windows = λ func. same_windows (edged l) a.flags func ∙ windows_are (edged l) func facts_of (λ f. refl);
      framed_windows = λ func. windows_are l.framed func framed_facts (λ f. refl);
      returns = λ func c. subst (λ (f : Function). HaveOwnReturns (with_edge_blocks f))
          (sym ((sources_built l low r.answers).coroutines func c).function) (own_returns func c);
      laid = promises_laid l low r;
      frames = λ func. refl;
    }
