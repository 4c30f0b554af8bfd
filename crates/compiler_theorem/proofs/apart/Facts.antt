-- What is known of a coroutine of an accepted source, its framing and its layout.
use Rattle.std.proofs.Common.{◌≡◌, ℕ, Bool, true, Option, Some, None, sym, ap, ◌∙◌, subst}
use Rattle.std.specs.Prelude.{if◌then◌else◌, slice_get, unwrap_or, ◌==◌}
use Rattle.compiler.proofs.fit.Fields.{fields_fit}
use Rattle.compiler.proofs.whole.lowered_sources.Sources.{early_rules, early_wide}
use Rattle.compiler_theorem.proofs.kinds.Held.{IsPlacedAs, slot_placed}
use Rattle.compiler_theorem.proofs.kinds.Opened.{size_low, uncut}
use Rattle.compiler_theorem.proofs.kinds.Values.{held_as_value, no_token}
use Rattle.compiler_theorem.proofs.theorem.Built.{coroutine_there, sources_built}
use Rattle.compiler_theorem.proofs.theorem.Facts.{good_layouts}
use Rattle.compiler_theorem.proofs.theorem.Framing.{sources_given}
use Rattle.compiler_theorem.specs.kinds.Held.{IsHeldAsValue}
use Rattle.compiler_theorem.specs.theorem.Anew.{Anew}
use Rattle.compiler_theorem.specs.theorem.Asked.{asking}
use Rattle.compiler_theorem.specs.theorem.Entries.{Run}
use Rattle.compiler_theorem.specs.theorem.Lowered.{IsLowered, Lowered, early, edged}
use Rattle.compiler.specs.frame_contents.Frames.{AreContents}
use Rattle.compiler.specs.frame_classes.Classes.{IsOf}
use Rattle.compiler.specs.frame_classes.declared.class.SlotClass.{SlotClass}
use Rattle.compiler.specs.frame_contents.Held.{fields_of, slot_held}
use Rattle.compiler.specs.frame_contents.declared.held.Holding.{Holding}
use Rattle.compiler.proofs.frame_good.Frames.{layouts_found}
use Rattle.compiler.specs.frame_good.Frames.{AreInConflict}
use Rattle.compiler.specs.frame_good.Good.{AreFit, IsGoodLayout}
use Rattle.compiler.specs.frame_layout.declared.layout.Layout.{Layout}
use Rattle.compiler.proofs.ir_laws.facts.Truth.{itself}
use Rattle.compiler.specs.ir_model.Layout.{extent_of, extent_or, size_of}
use Rattle.compiler.specs.ir_model.Names.{function_at}
use Rattle.compiler.specs.ir_model.Ty.{Ty, token}
use Rattle.compiler.specs.ir_model.declared.instr.Instr.{Instr}
use Rattle.compiler.specs.ir_model.declared.module.Block.{Block}
use Rattle.compiler.specs.ir_model.declared.module.Function.{Function}
use Rattle.compiler.specs.ir_model.declared.module.Module.{Module}
use Rattle.compiler.specs.ir_paths.Slots.{promise_of}
use Rattle.compiler.specs.ir_paths.Windows.{instr_at, instr_in}
use Rattle.compiler.specs.ir_sizes.Cut.{capped}
use Rattle.compiler.specs.ir_paths.declared.point.Point.{Point}
use Rattle.compiler.specs.pass_cells.Kept.{entry}
use Rattle.compiler.specs.pass_cells.declared.plan.KeptValue.{KeptValue}
use Rattle.pass_frames_meaning.proofs.kinds.Bases.{cell_gep}
use Rattle.pass_frames_meaning.proofs.others.Returns.{instr_in as instr_there}
use Rattle.pass_frames_meaning.specs.pass_frames_proof.Framings.{IsFraming}
use Rattle.pass_frames_meaning.specs.pass_frames_proof.Places.{Framing, plan}
use Rattle.pass_frames_meaning.specs.pass_frames_proof.Places.{edged as edged_function}
use Rattle.pass_frames_meaning.specs.pass_frames_proof.Related.{IsKeptValue}
use Rattle.compiler.specs.rule_laws.rules.function_rules.Kept.{KeepsFunctionRules}
use Rattle.compiler.specs.rule_values.Fits.{fits_kind}
use Rattle.compiler.specs.rule_values.Kinds.{value_kind}
use Rattle.compiler.specs.rule_values.declared.kinds.Kind.{Kind}
use Rattle.run_accepted.proofs.Accepted.{edged_types}
use Rattle.compiler.specs.run_framed.Framed.{layout_of, no_layout}
use Rattle.compiler.specs.run_step.Step.{AtInstr, fetch, fetch_in, fetch_or}
use Rattle.pass_frames_meaning.specs.run_types.Rules.{KeepsTypes}
use Rattle.std.proofs.Common.{length}

pub fetched : (h : Function) (p : Point) (i : Instr) → instr_at h p ≡ Some i → fetch h p.block p.at ≡ AtInstr i
fetched h p i e = on (slice_get h.blocks p.block) e
  where
    on : (o : Option Block) → instr_in o p.at ≡ Some i → fetch_in o p.at ≡ AtInstr i
    on None d = absurd (cc)
    on (Some b) d = ap (λ (o : Option Instr). fetch_or o (p.at == length b.instrs) b.term) d

module _ (l : Lowered) (low : IsLowered l) (a : Anew) (r : Run) (func : ℕ)
    (coroutine : (function_at (early l) func).coroutine ≡ true) where
  abbrev f : Function
  f = function_at (early l) func

  abbrev x : Framing
  x = (asking l low a r).b.framing func

  pub is : IsFraming ((asking l low a r).b.framing func)
  is = (sources_given l low a r).framings func coroutine

  pub same : function_at (edged l) func ≡ edged_function ((asking l low a r).b.framing func)
  same = (sources_given l low a r).coroutines func coroutine

  pub function : ((asking l low a r).b.framing func).function ≡ function_at (early l) func
  function = ((sources_built l low r.answers).coroutines func coroutine).function

  pub code : ((asking l low a r).b.framing func).code ≡ early l
  code = ((sources_built l low r.answers).coroutines func coroutine).code

  pub layout : ((asking l low a r).b.framing func).layout ≡ layout_of l.layouts.coroutines func
  layout = ((sources_built l low r.answers).coroutines func coroutine).layout

  pub there_now : slice_get (early l).functions func ≡ Some (function_at (early l) func)
  there_now = coroutine_there l low r.answers func coroutine

  pub rules : KeepsFunctionRules (early l) func ((asking l low a r).b.framing func).function
  rules = subst (λ (g : Function). KeepsFunctionRules (early l) func g) (sym function)
      (early_rules l.text l.source low.source.stands low.source.accepted func f there_now)

  pub own_rules : KeepsFunctionRules ((asking l low a r).b.framing func).code func
      ((asking l low a r).b.framing func).function
  own_rules = subst (λ (m : Module). KeepsFunctionRules m func x.function) (sym code) rules

  contents : AreContents (early l) f x.contents
  contents =
      subst (λ (m : Module). AreContents m f x.contents) code
      (subst (λ (g : Function). AreContents x.code g x.contents) function is.frameable.contents)

  pub good : IsGoodLayout func
      (fields_of (function_at (early l) func) ((asking l low a r).b.framing func).contents.held)
      (AreInConflict (function_at (early l) func) ((asking l low a r).b.framing func).contents)
      (layout_of l.layouts.coroutines func)
  good =
      let y = layouts_found (early l) l.layouts.coroutines func f (good_layouts l low) there_now coroutine in
      subst (IsGoodLayout func (fields_of f x.contents.held) (AreInConflict f x.contents))
      (sym (ap (λ (o : Option Layout). unwrap_or o (no_layout func)) y.is_there))
      (y.is_good.by_contents x.contents contents)

  pub types : KeepsTypes (edged l) (function_at (edged l) func)
  types = edged_types l.text l.source low.source.stands low.source.accepted func

  pointer : (v d : ℕ) → entry (plan x).cells v ≡ Some d → value_kind (edged_function x) v ≡ Some Kind.Ptr
  pointer v d e =
      let (p, inbounds, ty, base, indices, at) = cell_gep x is v d e in
      ap (λ (g : Function). value_kind g v) (sym same)
      ∙ types.given p.block p.at v (Instr.Gep v inbounds ty base indices) Kind.Ptr
      (fetched (function_at (edged l) func) p (Instr.Gep v inbounds ty base indices)
      (ap (λ (g : Function). instr_at g p) same ∙ at))
      (ap (λ (b : Bool). if b then Some Kind.Ptr else None) (itself v))

  -- what is kept in a cell is held as a value
  pub held : (v : ℕ) (k : KeptValue) → IsKeptValue ((asking l low a r).b.framing func) v k
      → IsHeldAsValue ((asking l low a r).b.framing func) v k
  held v k kept = held_as_value x is func own_rules v k kept (pointer v)

  -- and is no token
  pub scalar : (v : ℕ) (k : KeptValue) → IsKeptValue ((asking l low a r).b.framing func) v k
      → fits_kind (value_kind (edged_function ((asking l low a r).b.framing func)) v) token ≡ true → ⊥
  scalar v k kept = no_token x is func own_rules v k kept (pointer v)

  pub fit : AreFit (fields_of (function_at (early l) func) ((asking l low a r).b.framing func).contents.held)
  fit =
      let own = early_rules l.text l.source low.source.stands low.source.accepted func f there_now in
      fields_fit (early l) func f
      (early_wide l.text l.source low.source.stands low.source.accepted func f there_now)
      own.local.extents own.definitions x.contents contents

  -- a slot in the frame is held with its size
  module _ (at v align : ℕ) (ty : Ty)
      (alloca : fetch (function_at (edged l) func) 0 at ≡ AtInstr (Instr.Alloca v ty align))
      (frame : IsOf (function_at (early l) func) v SlotClass.Frame) where
    abbrev slot : Holding
    slot = slot_held x.code (promise_of x.function) v ty align

    pub placed : IsPlacedAs ((asking l low a r).b.framing func).contents.held
        (slot_held ((asking l low a r).b.framing func).code (promise_of ((asking l low a r).b.framing func).function) v
        ty align)
    placed =
        slot_placed x is func own_rules at v align ty
        (instr_there x (function_at (edged l) func) same 0 at (Instr.Alloca v ty align) alloca)
        (subst (λ (g : Function). IsOf g v SlotClass.Frame) (sym function) frame)

    pub size_is : capped (size_of ((asking l low a r).b.framing func).code ty) ≡ size_of (edged l) ty
    size_is =
        uncut (size_of x.code ty)
        (size_low func f x.contents.held (AreInConflict f x.contents) (layout_of l.layouts.coroutines func) good fit
        placed.position slot placed.there)
        ∙ ap (λ (m : Module). (extent_or (extent_of m.types ty)).size) code
