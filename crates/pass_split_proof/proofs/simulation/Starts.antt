-- The runs of a framed module and of its parts start in states beside each other.
use Rattle.std.proofs.Common.{◌≡◌, ℕ, ◌+◌, ◌≤◌, Bool, false, List, [], ◌∷◌, ◌++◌, length, Option, Some, refl, sym, ap, ◌∙◌, subst, arith, length-append}
use Rattle.std.specs.Prelude.{ℤ, slice_get, unwrap_or, if◌then◌else◌}
use Rattle.pass_proofs.specs.frame_layout.declared.layout.Layouts.{Layouts}
use Rattle.pass_proofs.specs.ir_base.declared.name.Name.{Name}
use Rattle.pass_proofs.specs.ir_base.declared.outcome.Word.{Word}
use Rattle.pass_proofs.specs.ir_model.Names.{function_at, no_function}
use Rattle.pass_proofs.specs.ir_model.declared.module.Function.{Function}
use Rattle.pass_proofs.specs.ir_model.declared.module.Module.{Module}
use Rattle.pass_proofs.specs.pass_intrinsics.declared.shape.Part.{Part}
use Rattle.pass_split_proof.proofs.code.Positions.{stands_moved}
use Rattle.pass_split_proof.proofs.places.Laws.{front_of}
use Rattle.pass_split_proof.proofs.simulation.Started.{starts_related}
use Rattle.pass_split_proof.specs.code.Positions.{layout_at, moved}
use Rattle.pass_split_proof.specs.first_exits.Parted.{parted_function, parted_module}
use Rattle.pass_split_proof.specs.places.Places.{IsCodeOf, IsPlace, OfPlain}
use Rattle.pass_split_proof.specs.simulation.Statement.{IsEntryOfParts, IsPartableIn, parts_given}
use Rattle.pass_split_proof.specs.states.Related.{AreRelated}
use Rattle.pass_proofs.specs.pass_split.Given.{has_given_call}
use Rattle.pass_proofs.specs.pass_split.Parts.{marked_parts, plain_of, plain_shape}
use Rattle.pass_proofs.specs.rule_laws.rules.function_rules.Kept.{KeepsFunctionRulesAt}
use Rattle.pass_proofs.specs.rule_names.declared.stage.Stage.{Stage}
use Rattle.pass_proofs.proofs.rule_laws.rules.function_rules.Stages.{rules_larger}
use Rattle.pass_proofs.specs.run_framed.Framed.{framed_given}
use Rattle.run_access_worked.specs.run_plain.Plain.{plain_first}
use Rattle.pass_proofs.specs.run_source.Source.{first_state}

more_names : (xs ys : List Name) → length xs ≤ length (xs ++ ys)
more_names xs ys = let e = length-append xs ys in omega arith

no_more : (k : ℕ) → k ≡ k + 0
no_more k = omega arith

there_is : (m : Module) (k : ℕ) (f : Function) → slice_get m.functions k ≡ Some f → function_at m k ≡ f
there_is m k f e = ap (λ (o : Option Function). unwrap_or o no_function) e

module _ {stage : Stage} {ruler : Module} (ls : Layouts) (m : Module) (p : IsPartableIn stage ruler ls m)
    (entry other : ℕ) (args : List Word) (answers : List ℤ) (e : IsEntryOfParts ls m entry other) where
  abbrev f : Function
  f = e.function

  abbrev ours : Function
  ours = function_at m entry

  abbrev theirs : Function
  theirs = function_at (parted_module ls m) other

  at_entry : function_at m entry ≡ f
  at_entry = there_is m entry f e.there

  turned : slice_get (parted_function (layout_at ls.coroutines m.functions entry) (has_given_call m f) f) 0
      ≡ Some (plain_of (plain_shape f) f)
  turned = ap (λ (b : Bool). slice_get (if b then marked_parts (layout_at ls.coroutines m.functions entry)
      (has_given_call m f) f else plain_of (plain_shape f) f ∷ []) 0) e.plain

  at_other : function_at (parted_module ls m) other ≡ plain_of (plain_shape f) f
  at_other = ap (function_at (parted_module ls m)) (e.moves ∙ no_more (moved ls.coroutines m m.functions entry))
      ∙ there_is (parted_module ls m) (moved ls.coroutines m m.functions entry + 0) (plain_of (plain_shape f) f)
      (stands_moved ls.coroutines m m.functions entry 0 f (plain_of (plain_shape f) f) e.there turned)

  same : function_at (parted_module ls m) other ≡ plain_of (plain_shape (function_at m entry)) (function_at m entry)
  same = at_other ∙ ap (λ (x : Function). plain_of (plain_shape x) x) (sym at_entry)

  plain : (function_at m entry).coroutine ≡ false
  plain = ap (λ (x : Function). x.coroutine) at_entry ∙ e.plain

  code : IsCodeOf (function_at m entry) (function_at (parted_module ls m) other) (plain_shape (function_at m entry))
      Part.Ramp
  code = OfPlain ruler entry plain (subst (KeepsFunctionRulesAt Stage.Plain ruler entry) (sym at_entry)
      (rules_larger stage ruler entry f (p.plain entry f e.there e.plain))) same

  place : IsPlace (plain_shape (function_at m entry)) Part.Ramp (function_at m entry)
      (function_at (parted_module ls m) other) 0 0 0 0
  place = let b = p.blocks entry f e.there in
      front_of ours theirs (plain_shape ours) Part.Ramp b.0 code refl
      (ap (λ (x : Function). slice_get x.blocks 0) at_entry ∙ b.1)

  names : length (function_at m entry).names ≤ length (function_at (parted_module ls m) other).names
  names = subst (λ (x : Function). length (function_at m entry).names ≤ length x.names) (sym same)
      (more_names (function_at m entry).names _)

  pub parts_start : AreRelated (framed_given m ls.coroutines answers) (parts_given ls m answers)
      (first_state m entry args) (plain_first (parted_module ls m) other args)
  parts_start = starts_related (framed_given m ls.coroutines answers) (parts_given ls m answers) entry other args
      plain code place (ap (λ (x : Function). x.params) same) names
      (e.moves ∙ no_more (moved ls.coroutines m m.functions entry)) p.globals p.contents
