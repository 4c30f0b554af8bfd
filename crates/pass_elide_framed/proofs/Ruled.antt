-- The framed form of an accepted source is ruled.
use Rattle.std.proofs.Common.{◌≡◌, ℕ, Bool, true, false, length, refl, sym, subst}
use Rattle.std.specs.Prelude.{Some, slice_get}
use Rattle.compiler_theorem.proofs.compiler.ir_laws.facts.Members.{at_each, each_by}
use Rattle.compiler_theorem.proofs.compiler.ir_laws.facts.Truth.{not_both}
use Rattle.compiler_theorem.proofs.compiler.pass_proofs.frames.numbers.Numbers.{number_given}
use Rattle.compiler_theorem.proofs.compiler.pass_proofs.frames.unnamed.Positions.{Becomes, FramedBy, StandsAs, Unchanged, stands_as}
use Rattle.compiler_theorem.proofs.compiler.whole.exit_sources.Accepted.{exits_kept}
use Rattle.compiler_theorem.proofs.compiler.whole.lowered_sources.Coroutines.{IsFramedWell, framed_well}
use Rattle.compiler_theorem.proofs.compiler.whole.lowered_sources.Row.{is_ready}
use Rattle.compiler_theorem.proofs.compiler.whole.lowered_sources.Sources.{comes_from}
use Rattle.compiler_theorem.specs.compiler.cleanup.accepted.Ready.{IsReady}
use Rattle.compiler_theorem.specs.compiler.ir_model.declared.module.Function.{Function}
use Rattle.compiler_theorem.specs.compiler.ir_model.declared.module.TypeItem.{TypeItem}
use Rattle.compiler_theorem.specs.compiler.pass_frames.Framed.{layout_at}
use Rattle.compiler_theorem.specs.compiler.pass_proofs.exits.states.Exits.{AreExitsKept}
use Rattle.compiler_theorem.specs.compiler.rule_laws.rules.function_rules.Kept.{KeepsFunctionRules}
use Rattle.compiler_theorem.specs.compiler.run_laws.changed.Changed.{Each}
use Rattle.compiler_theorem.proofs.narrow.Early.{early_narrow}
use Rattle.compiler_theorem.proofs.narrow.Indices.{fields_small}
use Rattle.compiler_theorem.proofs.narrow.Passes.{framed_narrow}
use Rattle.compiler_theorem.proofs.narrow.Written.{text_narrow}
use Rattle.compiler_theorem.proofs.parts.Saves.{form_leads}
use Rattle.compiler_theorem.proofs.parts.Widths.{own_wide}
use Rattle.compiler_theorem.specs.narrow.Narrow.{IsNarrow, IsNarrowFunction, IsNarrowModule}
use Rattle.compiler_theorem.specs.theorem.Lowered.{HasFewBytes, IsLowered, Lowered, early}
use Rattle.pass_elide_ready.specs.Ruled.{IsRuled}

module _ (l : Lowered) (low : IsLowered l) where
  -- ---- what each function was

  form : (k : ℕ) (g : Function) → slice_get l.framed.functions k ≡ Some g
      → StandsAs (early l) l.layouts.coroutines (early l).functions k g
  form k g there =
      stands_as (early l) l.layouts.coroutines low.is_framed.functions.count (early l).functions l.framed.functions
      low.is_framed.functions.framed k g there

  well_by : (k : ℕ) (f g : Function) → slice_get (early l).functions k ≡ Some f
      → Becomes (early l) l.layouts.coroutines f g → g.coroutine ≡ true → IsFramedWell (early l) k g
  well_by k f _ there (Unchanged plain) c = absurd (not_both f.coroutine plain c)
  well_by k f g there (FramedBy taken _ marked framed) c =
      framed_well l.text l.source low.source.stands low.source.accepted l.share l.layouts low.laid k f there marked
      (layout_at l.layouts.coroutines taken) (number_given l.layouts.coroutines taken) g framed

  well : (k : ℕ) (g : Function) → slice_get l.framed.functions k ≡ Some g → g.coroutine ≡ true
      → IsFramedWell (early l) k g
  well k g there c = let x = form k g there in well_by k x.source g x.stands x.becomes c

  -- ---- rules

  ready : IsReady l.layouts l.framed
  ready = is_ready l.text l.source low.source.stands low.source.accepted l.share l.layouts low.laid l.framed
      low.is_framed

  kept : AreExitsKept l.framed
  kept = exits_kept l.text l.source low.source.stands low.source.accepted l.share l.layouts low.laid l.framed
      low.is_framed

  rules : (k : ℕ) (g : Function) → slice_get l.framed.functions k ≡ Some g → KeepsFunctionRules l.framed k g
  rules k g there = on g.coroutine refl
    where
      on : (c : Bool) → g.coroutine ≡ c → KeepsFunctionRules l.framed k g
      on true c = (kept k g there c).rules
      on false c = (ready.plain k g there c).rules

  -- ---- structures have few fields

  source : IsNarrowModule (length l.text) l.source
  source = text_narrow l.text l.source low.source.stands

  early_one : (k : ℕ) (f : Function) → slice_get (early l).functions k ≡ Some f → IsNarrowFunction (length l.text) f
  early_one k f there =
      let x = comes_from l.source k f there in
      subst (IsNarrowFunction (length l.text)) (sym x.is)
      (early_narrow (length l.text) x.source
      (at_each (IsNarrowFunction (length l.text)) l.source.functions k x.source source.functions x.stands))

  narrow_by : (k : ℕ) (f g : Function) → slice_get (early l).functions k ≡ Some f
      → Becomes (early l) l.layouts.coroutines f g → IsNarrowFunction (length l.text) g
  narrow_by k f _ there (Unchanged plain) = early_one k f there
  narrow_by k f g there (FramedBy taken _ marked framed) =
      framed_narrow (length l.text) (early l) (layout_at l.layouts.coroutines taken) f g framed (early_one k f there)

  narrow : IsNarrowModule (length l.text) l.framed
  narrow = record {
    types = subst (Each (λ (t : TypeItem). IsNarrow (length l.text) t.ty)) (sym low.is_framed.types) source.types;
    functions = each_by (IsNarrowFunction (length l.text)) l.framed.functions (λ k g there.
        let x = form k g there in narrow_by k x.source g x.stands x.becomes);
  }

  -- ---- so it is ruled

  pub ruled : HasFewBytes l → IsRuled l.framed
  ruled few = record {
    items = ready.items;
    short = ready.short;
    functions = λ k g there. record {
      rules = rules k g there;
      widths = own_wide l low k g there;
      indices = fields_small (length l.text) few l.framed narrow k g (rules k g there) there;
    };
    coroutines = λ k g there c.
        let x = well k g there c in
        record {
          begin = x.begin;
          named = x.kept.shape.named;
          calls = x.kept.shape.calls;
          switches = x.kept.shape.switches;
          jumps = x.jumps;
          leads = form_leads l low k g there c;
        };
  }
